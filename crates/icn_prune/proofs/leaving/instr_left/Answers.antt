use Rattle.icn_prune.specs.PlaceViews.{survivors_seen}
use Rattle.icn_prune.proofs.SurvivingTables.{others_stay}
use Rattle.icn_prune.proofs.leaving.instr_left.Goals as goal

pub returns-in_default : goal.returns-in_default
returns-in_default c =
    others_stay (survivors_seen c.args.left.now) c.args.instr c.in_default.not-Int c.in_default.not-Str c.in_default.not-Cset c.in_default.not-Global
    c.in_default.not-Field
