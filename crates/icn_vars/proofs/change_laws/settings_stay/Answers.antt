use Rattle.icn_vars.proofs.KeptSettings.{setting_grows, setting_stays}
use Rattle.icn_vars.proofs.change_laws.settings_stay.Goals as goal

pub returns-clause-kept : goal.returns-clause-kept
returns-clause-kept c old new before after items keeps live is = setting_stays old new before after items keeps live is

pub returns-clause-grown : goal.returns-clause-grown
returns-clause-grown c old new locals items extent fields globals statics is = setting_grows old new locals items extent fields globals statics is
