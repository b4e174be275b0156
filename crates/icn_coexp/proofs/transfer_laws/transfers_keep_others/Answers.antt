use Rattle.icn_coexp.proofs.OthersKept.{enter_keeps, give_keeps, exhaust_keeps}
use Rattle.icn_coexp.proofs.transfer_laws.transfers_keep_others.Goals as goal

pub returns-clause-enters : goal.returns-clause-enters
returns-clause-enters c = enter_keeps

pub returns-clause-gives : goal.returns-clause-gives
returns-clause-gives c = give_keeps

pub returns-clause-exhausts : goal.returns-clause-exhausts
returns-clause-exhausts c = exhaust_keeps
