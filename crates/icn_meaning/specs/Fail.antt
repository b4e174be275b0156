-- What each choice does where something fails.
use Rattle.std.specs.Prelude.{ℕ, Bool, true, false, slice_index_or, slice_set}
use Rattle.icn_tree.specs.Trees.{Tree, MaybeTree, Absent, Present}
use Rattle.icn_defs.specs.Applying.{again}
use Rattle.icn_meaning.specs.Contexts.{Works, Nothing, ◌and_then◌, Choices, NoChoice, ◌or_else◌, Cut, Raise, Do, Again, Resume, Restore, Reenter, Back, Exhaust, Fails, Surroundings, Store, Evaluation, eval, fail, Done}
use Rattle.icn_meaning.specs.Turns.{end_run, turn, setting_in, answer}
use Rattle.icn_meaning.specs.Scanning.{restore_pair, exchange_pairs, exchanged_oldest}
use Rattle.icn_meaning.specs.Actions.{act}
use Rattle.icn_meaning.specs.Coexpressions.{exhaust}

-- another round of `|e`, where its flag is up
abbrev pub again_if : Bool → Tree → Surroundings → ℕ → Works → Choices → Store → Evaluation
again_if true e s flag k r st = turn st (λ st. eval e s (Raise flag and_then k) (Again e s flag k or_else r)
    (record st { flags = slice_set st.flags flag false }))
again_if false e s flag k r st = fail r st

-- a suspended procedure goes on
abbrev pub back : MaybeTree → Surroundings → Choices → Store → Evaluation
back Absent s r st = fail r st
back (Present b) s r st = eval b s (Cut r Fails and_then Nothing) r st

-- what the newest choice does where something fails
abbrev pub on_fail : Choices → Store → Evaluation
on_fail NoChoice st = end_run Done st
on_fail (Do a or_else r) st = act a r st
on_fail (Again e s flag k or_else r) st = again_if (slice_index_or st.flags flag false) e s flag k r st
on_fail (Resume a m k or_else r) st = turn st (λ st. answer (again m (setting_in a st)) a k r st)
on_fail (Restore p or_else r) st = fail r (restore_pair p st)
on_fail (Reenter p or_else r) st = fail r (exchange_pairs p st)
on_fail (Back b s or_else r) st = turn st (λ st. back b s r (exchanged_oldest s st))
on_fail (Exhaust or_else r) st = exhaust st
