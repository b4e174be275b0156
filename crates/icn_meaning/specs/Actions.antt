-- What actions do.
use Rattle.icn_text.specs.declared.op.Op.TheVariants.{Equivalent}
use Rattle.icn_tree.specs.Trees.{Tree, Trees, MaybeTree, Clauses, Empty, Absent, Present, NoTrees, More, Default, Guarded, NoClauses, MoreClauses}
use Rattle.std.specs.Prelude.{[], ◌∷◌}
use Rattle.icn_value.specs.Values.{Value, Val}
use Rattle.icn_meaning.specs.Contexts.{Operating, Works, Nothing, ◌and_then◌, Choices, ◌or_else◌, Args, Cut, Do, Action, Go, Give, Fails, Pass, Body, Try, Rest, Off, Surroundings, InCall, InCreate, InScan, InLoop, InControl, Store, Evaluation, eval, succeed, fail, lost}
use Rattle.icn_meaning.specs.Turns.{turn}
use Rattle.icn_meaning.specs.Scanning.{restore_pair}

-- the call fails: all its scans are left
abbrev pub off : Surroundings → Store → Evaluation
off (InCall frame k r) st = fail r st
off (InCreate frame) st = lost
off (InScan p s) st = off s (restore_pair p st)
off (InLoop s k r a rn) st = off s st
off (InControl s k r) st = off s st

-- the expressions of a body that are left; an empty one is passed over
abbrev pub rest : Trees → Surroundings → Choices → Store → Evaluation
rest NoTrees s r st = off s st
rest (More Empty es) s r st = rest es s r st
rest (More e es) s r st = eval e s (Cut r (Rest es s) and_then Nothing) (Do (Rest es s) or_else r) st

-- the part of `default`
abbrev pub otherwise : MaybeTree → Surroundings → Works → Choices → Store → Evaluation
otherwise Absent s k r st = fail r st
otherwise (Present e) s k r st = eval e s k r st

-- the first of these clauses that is no default, and then the others
abbrev pub try : Value → Clauses → MaybeTree → Surroundings → Works → Choices → Store → Evaluation
try v NoClauses default s k r st = otherwise default s k r st
try v (MoreClauses (Default place e) cases) default s k r st = try v cases default s k r st
try v (MoreClauses (Guarded place c b) cases) default s k r st =
    eval c s (Args (Operating Equivalent) (Val v ∷ []) NoTrees s and_then Cut r (Go b s k) and_then Nothing)
    (Do (Try v cases default s k) or_else r) st

-- an action is done
abbrev pub act : Action → Choices → Store → Evaluation
act (Go e s k) r st = eval e s k r st
act (Give v k) r st = succeed (Val v) k r st
act Fails r st = fail r st
act (Pass e s k) r st = turn st (λ st. eval e s k r st)
act (Body Absent s p) r st = act p r st
act (Body (Present b) s p) r st = eval b s (Cut r p and_then Nothing) (Do p or_else r) st
act (Try v cases default s k) r st = try v cases default s k r st
act (Rest es s) r st = rest es s r st
act (Off s) r st = off s st

-- `break`: the scans since the loop are left, and the expression stands in the loop's place
abbrev pub break : Tree → Surroundings → Store → Evaluation
break e (InCall frame k r) st = lost
break e (InCreate frame) st = lost
break e (InScan p s) st = break e s (restore_pair p st)
break e (InLoop s k r a rn) st = eval e s k r st
break e (InControl s k r) st = eval e s k r st

-- `next`: the scans since the loop are left
abbrev pub next : Surroundings → Store → Evaluation
next (InCall frame k r) st = lost
next (InCreate frame) st = lost
next (InScan p s) st = next s (restore_pair p st)
next (InLoop s k r a rn) st = act a rn st
next (InControl s k r) st = lost
