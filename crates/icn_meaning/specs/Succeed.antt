-- What each work does with a result.
use Rattle.std.specs.Prelude.{ℕ, zero, suc, pos, negsuc, ℤ, pred, true, [], ◌∷◌, ◌++◌, length, Option, Some, None, slice_index_or, slice_set}
use Rattle.icn_text.specs.declared.op.Op.{Op}
use Rattle.icn_text.specs.declared.op.Op.TheVariants.{Assign}
use Rattle.icn_tree.specs.declared.token.Operator.{Operator}
use Rattle.icn_tree.specs.declared.token.Operator.TheVariants.{Ampersand, Question, At}
use Rattle.icn_tree.specs.Trees.{Tree, MaybeTree, Clauses, Absent, Present, NoTrees, NoClauses, MoreClauses, Default, Guarded}
use Rattle.icn_value.specs.Values.{Value, Text, Item}
use Rattle.icn_defs.specs.Conversions.{integer_of}
use Rattle.icn_defs.specs.StepRows.{text_row}
use Rattle.icn_meaning.specs.Operators.{update_op}
use Rattle.icn_meaning.specs.Program.{Program}
use Rattle.icn_meaning.specs.Contexts.{Operating, Activating, activation_of, Works, Nothing, ◌and_then◌, Choices, ◌or_else◌, Args, Then, Cut, Raise, Limit, Count, Scan, Leave, Update, Each, Select, Returning, Suspending, Result, Restore, Reenter, Fails, Try, Surroundings, InScan, InLoop, Store, Evaluation, eval, succeed, fail, lost, Done}
use Rattle.icn_meaning.specs.Turns.{end_run, errs, setting_in, with_made, value}
use Rattle.icn_meaning.specs.Scanning.{new_cell, enter_scan, exchange_pairs}
use Rattle.icn_meaning.specs.Actions.{act}
use Rattle.icn_meaning.specs.Coexpressions.{result}
use Rattle.icn_meaning.specs.Calls.{operands, return, suspend}

-- a repeated alternation has had a result
abbrev pub raise_flag : ℕ → Store → Store
raise_flag flag st = record st { flags = slice_set st.flags flag true }

-- a limit: so many results are allowed, in a new count
abbrev pub limit : Option ℤ → Value → Tree → Surroundings → Works → Choices → Store → Evaluation
limit (Some (pos zero)) v e s k r st = fail r st
limit (Some (pos (suc n))) v e s k r st =
    eval e s (Count (length st.limits) r and_then k) r (record st { limits = st.limits ++ suc n ∷ [] })
limit (Some (negsuc n)) v e s k r st = errs 205 (Some v) r st
limit None v e s k r st = errs 101 (Some v) r st

-- how many results a limit leaves after one more
abbrev pub results_left : ℕ → Store → ℕ
results_left c st = pred (slice_index_or st.limits c zero)

-- with the last result that is allowed the choices of the limited expression are gone
abbrev pub count_by : ℕ → Item → Works → Choices → Choices → Store → Evaluation
count_by zero x k r0 r st = succeed x k r0 st
count_by (suc n) x k r0 r st = succeed x k r st

-- a result of a limited expression is counted
abbrev pub count_down : ℕ → Item → Works → Choices → Choices → Store → Evaluation
count_down c x k r0 r st =
    count_by (results_left c st) x k r0 r (record st { limits = slice_set st.limits c (results_left c st) })

-- a scan of this text, which saves the pair in the cell p
abbrev pub scan_in : ℕ → Value → Tree → Surroundings → Works → Choices → Store → Evaluation
scan_in p (Text text) e s k r st =
    eval e (InScan p s) (Leave p and_then k) (Restore p or_else r) (enter_scan text st)
scan_in p v e s k r st = fail r st

-- a scan begins with the text of a value
abbrev pub scan : Item → Tree → Surroundings → Works → Choices → Store → Evaluation
scan x e s k r st =
    value x (activation_of s) r st (λ v. with_made (text_row v (setting_in (activation_of s) st))
    (activation_of s) r st (λ text st. scan_in (new_cell st) text e s k r st))

-- `x op:= y`, with x there and this operation; where the operator is none, no program has it
abbrev pub update_by : Option Op → Item → Tree → Surroundings → Works → Choices → Store → Evaluation
update_by (Some op) x y s k r st = eval y s (Args (Operating op) (x ∷ []) NoTrees s
    and_then Args (Operating Assign) (x ∷ []) NoTrees s and_then k) r st
update_by None x y s k r st = lost

-- `x op:= y`, with x there
abbrev pub update : Operator → Item → Tree → Surroundings → Works → Choices → Store → Evaluation
update Ampersand x y s k r st = eval y s (Args (Operating Assign) (x ∷ []) NoTrees s and_then k) r st
update Question x y s k r st =
    succeed x (Scan y s and_then Args (Operating Assign) (x ∷ []) NoTrees s and_then k) r st
update At x y s k r st = eval y s
    (Args Activating (x ∷ []) NoTrees s and_then Args (Operating Assign) (x ∷ []) NoTrees s and_then k) r st
update o x y s k r st = update_by (update_op o) x y s k r st

-- a result of the control expression of `every`, around which are s, k and r0
abbrev pub each : MaybeTree → Surroundings → Works → Choices → Choices → Store → Evaluation
each Absent s k r0 r st = fail r st
each (Present b) s k r0 r st = eval b (InLoop s k r0 Fails r) (Cut r Fails and_then Nothing) r st

-- the default of a `case`, if it has one
abbrev pub default_of : Clauses → MaybeTree
default_of NoClauses = Absent
default_of (MoreClauses (Default place e) cases) = Present e
default_of (MoreClauses (Guarded place c b) cases) = default_of cases

-- what the next work does with a result
abbrev pub on_succeed : Program → Item → Works → Choices → Store → Evaluation
on_succeed program x Nothing r st = end_run Done st
on_succeed program x (Args form xs es s and_then k) r st = operands program form (x ∷ xs) es s k r st
on_succeed program x (Then e s and_then k) r st = eval e s k r st
on_succeed program x (Cut r0 a and_then k) r st = act a r0 st
on_succeed program x (Raise flag and_then k) r st = succeed x k r (raise_flag flag st)
on_succeed program x (Limit e s and_then k) r st =
    value x (activation_of s) r st (λ v. limit (integer_of v) v e s k r st)
on_succeed program x (Count c r0 and_then k) r st = count_down c x k r0 r st
on_succeed program x (Scan e s and_then k) r st = scan x e s k r st
on_succeed program x (Leave p and_then k) r st = succeed x k (Reenter p or_else r) (exchange_pairs p st)
on_succeed program x (Update o y s and_then k) r st = update o x y s k r st
on_succeed program x (Each b s k0 r0 and_then k) r st = each b s k0 r0 r st
on_succeed program x (Select cases s k0 r0 and_then k) r st =
    value x (activation_of s) r st (λ v. act (Try v cases (default_of cases) s k0) r0 st)
on_succeed program x (Returning s and_then k) r st = return x s r st
on_succeed program x (Suspending b s and_then k) r st = suspend x b s r st
on_succeed program x (Result a and_then k) r st = result x a r st
