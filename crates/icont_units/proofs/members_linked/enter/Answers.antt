use Rattle.icont_units.proofs.KnownBases.{entered, is_new}
use Rattle.icont_units.proofs.members_linked.enter.Goals as goal

pub returns-clause-new : goal.returns-clause-new
returns-clause-new c = is_new c.args.known.now.keys c.in_ok-copy.copy c.args.base.now c.in_ok-is_new.is_new
    c.in_ok-copy.ensures.items c.in_ok-is_new.ensures.added

pub returns-clause-known : goal.returns-clause-known
returns-clause-known c = entered c.args.known.now.keys c.insert_full.new.self.keys c.in_ok-copy.copy c.args.base.now
    c.in_ok-copy.ensures.items c.in_ok-is_new.ensures.keys
