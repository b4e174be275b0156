-- How contexts correspond to places and chains.
use Rattle.std.specs.Prelude.{◌≡◌, ℕ, suc, ◌+◌, Bool, true, false, List, [], ◌∷◌, ◌++◌, length, Option, Some, None}
use Rattle.icn_text.specs.declared.op.Op.TheVariants as Ops
use Rattle.icn_tree.specs.declared.token.Operator.{Operator}
use Rattle.icn_tree.specs.declared.token.Operator.TheVariants as Signs
use Rattle.icn_tree.specs.Trees.{Tree, Trees, MaybeTree, Clauses}
use Rattle.icn_code.specs.declared.instr.Instr.{Instr}
use Rattle.icn_code.specs.declared.instr.Instr.TheVariants as I
use Rattle.icn_value.specs.Values.{Value, Item, Val}
use Rattle.icn_defs.specs.Rows.{Residual}
use Rattle.icn_meaning.specs.Contexts as M
use Rattle.icn_meaning.specs.Contexts.{Application, Works, Nothing, ◌and_then◌, Choices, NoChoice, ◌or_else◌, Action, Surroundings, InCall, InCreate, InScan, InLoop, InControl}
use Rattle.icn_meaning.specs.Succeed.{default_of}
use Rattle.icn_run.specs.Calls.{Alt, Op, Escan, Proc}
use Rattle.icn_run.specs.Chains.{Label, fixed, flagged, because, scanning, Chain, chain, Suspensions, none, suspension, Outer, base, call, mark, limit, WaitingChain, LinkedStack, frame_of, proc_of, activation_of}
use Rattle.icn_run.specs.Step as S
use Rattle.law_simulation.specs.Linkage.{Linkage, Here, Loads, IsAppliedBy}
use Rattle.law_simulation.specs.StandingCode.{Nest, top, in_create, in_mark, in_scan, in_loop, in_control, in_each, Proper, Updating, tree_count, Stands, StandsAll, StandsMaybe, StandsCases, StandsCreate, StandsRest}

-- the procedure and the activation that run in a chain
abbrev pub proc_in : Outer → ℕ
proc_in o = proc_of (frame_of o)

-- the activation that runs in a chain
abbrev pub activation_in : Outer → ℕ
activation_in o = activation_of (frame_of o)

-- an activation of a procedure at a level, by their numbers
abbrev pub a_frame : (activation procedure level : ℕ) → M.Invocation
a_frame activation procedure level = record { activation = activation; procedure = procedure; level = level }

-- in the code that runs in a chain
abbrev pub At : Linkage → Outer → ℕ → Instr → Type 0
At L o p i = Here L (proc_in o) p i

-- `first` tells whether these are the contexts of `&main` or of another co-expression.
mutual
  -- a success context is what the code does from p with a result above these operands, in this mark, with
  -- these scans open
  pub data OfWorks (L : Linkage) (first : Bool) : Works → ℕ → List Item → List ℕ → Outer → Type 0 where
    k_goto : {k : Works} {p q : ℕ} {xs : List Item} {z : List ℕ} {o : Outer} → At L o p (I.Goto q)
        → OfWorks L first k q xs z o → OfWorks L first k p xs z o
    k_esusp : {k : Works} {p : ℕ} {l : Label} {xs : List Item} {s : Suspensions} {z : List ℕ} {o : Outer}
        → At L o p I.Esusp → OfWorks L first k (suc p) xs z o
        → OfWorks L first k p [] z (mark l (chain xs s z o))
    k_raise : {k : Works} {p a f : ℕ} {l : Option ℕ} {xs : List Item} {z : List ℕ} {m : Chain}
        → At L (mark (flagged l f a) m) p (I.Chfail a)
        → OfWorks L first k (suc p) xs z (mark (flagged l f a) m)
        → OfWorks L first (M.Raise f and_then k) p xs z (mark (flagged l f a) m)
    k_args : {n : Nest} {form : Application} {xs ys zs : List Item} {es : Trees} {v : Surroundings}
        {k : Works}
        {i : Instr} {c p q : ℕ} {z : List ℕ} {o : Outer} → StandsAll L (proc_in o) n es p q → At L o q i
        → IsAppliedBy L form c i → c ≡ suc (length xs) + tree_count es → zs ≡ xs ++ ys
        → OfSurroundings L first n v z o → OfWorks L first k (suc q) ys z o
        → OfWorks L first (M.Args form xs es v and_then k) p zs z o
    k_then : {n : Nest} {e : Tree} {v : Surroundings} {k : Works} {p q : ℕ} {xs : List Item} {z : List ℕ}
        {o : Outer} → At L o p I.Pop → Stands L (proc_in o) n e (suc p) q → OfSurroundings L first n v z o
        → OfWorks L first k q xs z o → OfWorks L first (M.Then e v and_then k) p xs z o
    k_cut : {r : Choices} {a : Action} {k : Works} {p : ℕ} {l : Label} {zs xs : List Item} {s : Suspensions}
        {z : List ℕ} {o : Outer} → At L o p I.Unmark → OfChoices L first r s z o
        → OfAction L first a (suc p) xs s z o
        → OfWorks L first (M.Cut r a and_then k) p zs z (mark l (chain xs s z o))
    k_limit : {n : Nest} {e : Tree} {v : Surroundings} {k : Works} {p q : ℕ} {xs : List Item} {z : List ℕ}
        {o : Outer} → At L o p I.Limit → Stands L (proc_in o) (in_mark n) e (suc p) q → At L o q I.Lsusp
        → OfSurroundings L first n v z o → OfWorks L first k (suc q) xs z o
        → OfWorks L first (M.Limit e v and_then k) p xs z o
    k_count : {r : Choices} {k : Works} {p c : ℕ} {xs : List Item} {s : Suspensions} {z : List ℕ}
        {o : Outer} → At L o p I.Lsusp → OfChoices L first r s z o → OfWorks L first k (suc p) xs z o
        → OfWorks L first (M.Count c r and_then k) p [] z (limit c (chain xs s z o))
    k_scan : {n : Nest} {e : Tree} {v : Surroundings} {k : Works} {p q : ℕ} {xs : List Item} {z : List ℕ}
        {o : Outer} → At L o p I.Bscan → Stands L (proc_in o) (in_scan n) e (suc p) q → At L o q I.Escan
        → OfSurroundings L first n v z o → OfWorks L first k (suc q) xs z o
        → OfWorks L first (M.Scan e v and_then k) p xs z o
    k_leave : {i : ℕ} {k : Works} {p : ℕ} {xs : List Item} {z : List ℕ} {o : Outer} → At L o p I.Escan
        → OfWorks L first k (suc p) xs z o → OfWorks L first (M.Leave i and_then k) p xs (i ∷ z) o
    k_update_both : {n : Nest} {y : Tree} {v : Surroundings} {k : Works} {p q : ℕ} {xs : List Item}
        {z : List ℕ} {o : Outer} → Stands L (proc_in o) n y p q → At L o q (I.Op Ops.Assign)
        → OfSurroundings L first n v z o → OfWorks L first k (suc q) xs z o
        → OfWorks L first (M.Update Signs.Ampersand y v and_then k) p xs z o
    k_update_scan : {n : Nest} {y : Tree} {v : Surroundings} {k : Works} {p q : ℕ} {xs : List Item}
        {z : List ℕ} {o : Outer} → At L o p I.Dup → At L o (suc p) I.Bscan
        → Stands L (proc_in o) (in_scan n) y (suc (suc p)) q → At L o q I.Escan
        → At L o (suc q) (I.Op Ops.Assign) → OfSurroundings L first n v z o
        → OfWorks L first k (suc (suc q)) xs z o
        → OfWorks L first (M.Update Signs.Question y v and_then k) p xs z o
    k_update : {n : Nest} {operator : Operator} {form : Application} {i : Instr} {y : Tree} {v : Surroundings}
        {k : Works} {p q : ℕ} {xs : List Item} {z : List ℕ} {o : Outer} → Updating operator form
        → At L o p I.Dup → Stands L (proc_in o) n y (suc p) q → At L o q i → IsAppliedBy L form 2 i
        → At L o (suc q) (I.Op Ops.Assign) → OfSurroundings L first n v z o
        → OfWorks L first k (suc (suc q)) xs z o → OfWorks L first (M.Update operator y v and_then k) p xs z o
    k_each : {n : Nest} {b : MaybeTree} {v : Surroundings} {k k' : Works} {r : Choices} {p l g : ℕ}
        {lab : Label} {ys xs : List Item} {s : Suspensions} {z : List ℕ} {o : Outer} → At L o p I.Pop
        → StandsMaybe L (proc_in o) (in_each l g n) b (suc p) g → At L o g I.Efail
        → OfSurroundings L first n v z o → OfWorks L first k l xs z o → OfChoices L first r s z o
        → OfWorks L first (M.Each b v k r and_then k') p ys z (mark lab (chain xs s z o))
    k_select : {n : Nest} {cases : Clauses} {v : Surroundings} {k k' : Works} {r : Choices} {p l : ℕ}
        {lab : Label} {ys xs : List Item} {s : Suspensions} {z : List ℕ} {o : Outer} → At L o p I.Eret
        → StandsCases L (proc_in o) n cases (default_of cases) (suc p) l → OfSurroundings L first n v z o
        → OfWorks L first k l xs z o → OfChoices L first r s z o
        → OfWorks L first (M.Select cases v k r and_then k') p ys z (mark lab (chain xs s z o))
    k_return : {n : Nest} {v : Surroundings} {k : Works} {p : ℕ} {xs : List Item} {z : List ℕ} {o : Outer}
        → Proper n → At L o p I.Pret → OfSurroundings L first n v z o
        → OfWorks L first (M.Returning v and_then k) p xs z o
    k_suspend : {n : Nest} {b : MaybeTree} {v : Surroundings} {k : Works} {p q : ℕ} {xs : List Item}
        {z : List ℕ} {o : Outer} → Proper n → At L o p I.Psusp → At L o (suc p) I.Pop
        → StandsMaybe L (proc_in o) n b (suc (suc p)) q → At L o q I.Efail → OfSurroundings L first n v z o
        → OfWorks L first (M.Suspending b v and_then k) p xs z o
    k_result : {k : Works} {p j a : ℕ} {l : Label} {xs ys : List Item} {s : Suspensions} {z z' : List ℕ}
        → first ≡ false → Here L j p I.Coret → Here L j (suc p) I.Efail
        → OfWorks L first (M.Result a and_then k) p xs z (mark l (chain ys s z' (base j a)))

  -- surroundings are the marks that are open: a call's contexts are those of the mark that its frame goes
  -- back to
  pub data OfSurroundings (L : Linkage) (first : Bool) : Nest → Surroundings → List ℕ → Outer → Type 0 where
    v_main : {j a : ℕ} → first ≡ true
        → OfSurroundings L first top (InCall (a_frame a j 1) Nothing NoChoice) [] (base j a)
    v_create : {j a : ℕ} → first ≡ false
        → OfSurroundings L first in_create (InCreate (a_frame a j 1)) [] (base j a)
    v_call : {k : Works} {r : Choices} {j a level p : ℕ} {xs : List Item} {s : Suspensions} {z : List ℕ}
        {o : Outer} → OfWorks L first k p xs z o → OfChoices L first r s z o
        → OfSurroundings L first top (InCall (a_frame a j level) k r) [] (call j a level p (chain xs s z o))
    v_scan : {n : Nest} {v : Surroundings} {i : ℕ} {z : List ℕ} {o : Outer} → OfSurroundings L first n v z o
        → OfSurroundings L first (in_scan n) (InScan i v) (i ∷ z) o
    v_mark : {n : Nest} {v : Surroundings} {l : Label} {xs : List Item} {s : Suspensions} {z : List ℕ}
        {o : Outer} → OfMark L first n v xs s z o
        → OfSurroundings L first (in_mark n) v z (mark l (chain xs s z o))
    v_limit : {n : Nest} {v : Surroundings} {c : ℕ} {xs : List Item} {s : Suspensions} {z : List ℕ}
        {o : Outer} → OfMark L first n v xs s z o
        → OfSurroundings L first (in_mark n) v z (limit c (chain xs s z o))

  -- The same of a mark in which another one is open, so that its operands and suspensions stay. In a loop
  -- they are those round it; in the body of `every`
  -- the mark is that of the loop.
  pub data OfMark (L : Linkage) (first : Bool) : Nest → Surroundings → List Item → Suspensions → List ℕ
      → Outer → Type 0 where
    m_plain : {n : Nest} {v : Surroundings} {xs : List Item} {s : Suspensions} {z : List ℕ} {o : Outer}
        → OfSurroundings L first n v z o → OfMark L first n v xs s z o
    m_loop : {n : Nest} {v : Surroundings} {k : Works} {r rn : Choices} {a : Action} {l g : ℕ}
        {xs : List Item} {s : Suspensions} {z : List ℕ} {o : Outer} → OfWorks L first k l xs z o
        → OfChoices L first r s z o → OfAction L first a g xs s z o → OfChoices L first rn s z o
        → OfSurroundings L first n v z o → OfMark L first (in_loop l g n) (InLoop v k r a rn) xs s z o
    m_control : {n : Nest} {v : Surroundings} {k : Works} {r : Choices} {l g : ℕ} {xs : List Item}
        {s : Suspensions} {z : List ℕ} {o : Outer} → OfWorks L first k l xs z o
        → OfChoices L first r s z o → OfSurroundings L first n v z o
        → OfMark L first (in_control l g n) (InControl v k r) xs s z o
    m_each : {n : Nest} {v : Surroundings} {k : Works} {r rn : Choices} {l g : ℕ} {lab : Label}
        {ys xs : List Item} {s s' : Suspensions} {z : List ℕ} {o : Outer} → At L o g I.Efail
        → OfWorks L first k l xs z o → OfChoices L first r s z o
        → OfChoices L first rn s' z (mark lab (chain xs s z o)) → OfSurroundings L first n v z o
        → OfMark L first (in_each l g n) (InLoop v k r M.Fails rn) ys s' z (mark lab (chain xs s z o))

  -- an action is what the code does from p
  pub data OfAction (L : Linkage) (first : Bool) : Action → ℕ → List Item → Suspensions → List ℕ → Outer
      → Type 0 where
    a_go : {n : Nest} {e : Tree} {v : Surroundings} {k : Works} {p q : ℕ} {xs : List Item} {s : Suspensions}
        {z : List ℕ} {o : Outer} → Stands L (proc_in o) n e p q → OfSurroundings L first n v z o
        → OfWorks L first k q xs z o → OfAction L first (M.Go e v k) p xs s z o
    a_pop : {a : Action} {p : ℕ} {x : Item} {xs : List Item} {s : Suspensions} {z : List ℕ} {o : Outer}
        → At L o p I.Pop → OfAction L first a (suc p) xs s z o → OfAction L first a p (x ∷ xs) s z o
    a_give : {value : Value} {i : Instr} {k : Works} {p : ℕ} {xs : List Item} {s : Suspensions} {z : List ℕ}
        {o : Outer} → At L o p i → Loads L (proc_in o) i (Val value) → OfWorks L first k (suc p) xs z o
        → OfAction L first (M.Give value k) p xs s z o
    a_fail : {p : ℕ} {xs : List Item} {s : Suspensions} {z : List ℕ} {o : Outer} → At L o p I.Efail
        → OfAction L first M.Fails p xs s z o
    a_pass : {n : Nest} {e : Tree} {v : Surroundings} {k : Works} {p p' q : ℕ} {xs : List Item}
        {s : Suspensions} {z : List ℕ} {o : Outer} → At L o p (I.Loop p') → Stands L (proc_in o) n e p' q
        → OfSurroundings L first n v z o → OfWorks L first k q xs z o
        → OfAction L first (M.Pass e v k) p xs s z o
    a_body : {n : Nest} {b : MaybeTree} {v : Surroundings} {a : Action} {p q : ℕ} {xs : List Item}
        {s : Suspensions} {z : List ℕ} {o : Outer} → StandsMaybe L (proc_in o) n b p q
        → OfAction L first a q xs s z o → OfMark L first n v xs s z o
        → OfAction L first (M.Body b v a) p xs s z o
    a_try : {n : Nest} {value : Value} {cases : Clauses} {default : MaybeTree} {v : Surroundings}
        {k : Works} {p l : ℕ} {xs : List Item} {s : Suspensions} {z : List ℕ} {o : Outer}
        → StandsCases L (proc_in o) n cases default p l → OfSurroundings L first n v z o
        → OfWorks L first k l xs z o → OfAction L first (M.Try value cases default v k) p (Val value ∷ xs) s
        z o
    a_rest : {es : Trees} {v : Surroundings} {p : ℕ} {xs : List Item} {s : Suspensions} {z : List ℕ}
        {o : Outer} → StandsRest L (proc_in o) es p → OfSurroundings L first top v z o
        → OfAction L first (M.Rest es v) p xs s z o
    a_off : {n : Nest} {v : Surroundings} {p : ℕ} {xs : List Item} {s : Suspensions} {z : List ℕ}
        {o : Outer} → Proper n → At L o p I.Pfail → OfSurroundings L first n v z o
        → OfAction L first (M.Off v) p xs s z o

  -- a resumption context is what the code does where a mark with this suspension and these scans fails
  pub data OfChoices (L : Linkage) (first : Bool) : Choices → Suspensions → List ℕ → Outer → Type 0 where
    r_end : {j a : ℕ} → first ≡ true → OfChoices L first NoChoice none [] (base j a)
    r_call : {r : Choices} {j a level p : ℕ} {xs : List Item} {s : Suspensions} {z : List ℕ} {o : Outer}
        → OfChoices L first r s z o → OfChoices L first r none [] (call j a level p (chain xs s z o))
    r_exhaust : {p j a : ℕ} {xs : List Item} {s : Suspensions} {z z' : List ℕ} → first ≡ false
        → Here L j p I.Cofail → OfChoices L first (M.Exhaust or_else NoChoice) none z'
        (mark (fixed (Some p)) (chain xs s z (base j a)))
    r_alt : {r : Choices} {p : ℕ} {xs : List Item} {s : Suspensions} {z z' : List ℕ} {o o' : Outer}
        → OfChoices L first r s z o → OfChoices L first r (suspension (because Alt) p (chain xs s z o)) z' o'
    r_mark0 : {r : Choices} {xs : List Item} {s : Suspensions} {z z' : List ℕ} {o : Outer}
        → OfChoices L first r s z o → OfChoices L first r none z' (mark (fixed None) (chain xs s z o))
    r_limit : {r : Choices} {c : ℕ} {xs : List Item} {s : Suspensions} {z z' : List ℕ} {o : Outer}
        → OfChoices L first r s z o → OfChoices L first r none z' (limit c (chain xs s z o))
    r_efail : {r : Choices} {p : ℕ} {xs : List Item} {s : Suspensions} {z z' : List ℕ} {o : Outer}
        → At L o p I.Efail → OfChoices L first r s z o
        → OfChoices L first r none z' (mark (fixed (Some p)) (chain xs s z o))
    r_do : {a : Action} {r : Choices} {p : ℕ} {xs : List Item} {s : Suspensions} {z z' : List ℕ} {o : Outer}
        → OfAction L first a p xs s z o → OfChoices L first r s z o
        → OfChoices L first (M.Do a or_else r) none z' (mark (fixed (Some p)) (chain xs s z o))
    r_again : {n : Nest} {e : Tree} {v : Surroundings} {f : ℕ} {k : Works} {r : Choices} {p q : ℕ}
        {xs : List Item} {s : Suspensions} {z z' : List ℕ} {o : Outer}
        → Stands L (proc_in o) (in_mark n) e (suc p) q → At L o q (I.Chfail p) → At L o (suc q) I.Esusp
        → OfSurroundings L first n v z o → OfWorks L first k (suc (suc q)) xs z o
        → OfChoices L first r s z o → OfChoices L first (M.Again e v f k or_else r) none z'
        (mark (flagged None f p) (chain xs s z o))
    r_resume : {k : Works} {m : Residual} {r : Choices} {p : ℕ} {xs : List Item} {s : Suspensions}
        {z z' : List ℕ} {o o' : Outer} → OfWorks L first k p xs z o → OfChoices L first r s z o
        → OfChoices L first (M.Resume (activation_in o) m k or_else r)
        (suspension (because (Op m)) p (chain xs s z o)) z' o'
    r_restore : {i p : ℕ} {r : Choices} {xs : List Item} {s : Suspensions} {z z' : List ℕ} {o o' : Outer}
        → OfChoices L first r s z o → OfChoices L first (M.Restore i or_else r)
        (suspension (scanning i) p (chain xs s z o)) z' o'
    r_reenter : {i p : ℕ} {r : Choices} {xs : List Item} {s : Suspensions} {z z' : List ℕ} {o o' : Outer}
        → OfChoices L first r s (i ∷ z) o
        → OfChoices L first (M.Reenter i or_else r) (suspension (because Escan) p (chain xs s (i ∷ z) o)) z'
        o'
    r_back : {n : Nest} {b : MaybeTree} {v : Surroundings} {r : Choices} {p q : ℕ} {x : Item}
        {xs : List Item} {s : Suspensions} {z z' : List ℕ} {o o' : Outer} → At L o p I.Pop
        → StandsMaybe L (proc_in o) n b (suc p) q → At L o q I.Efail → OfSurroundings L first n v z o
        → OfChoices L first r s z o → OfChoices L first (M.Back b v or_else r)
        (suspension (because Proc) p (chain (x ∷ xs) s z o)) z' o'

-- a chain that waits to go on at an address
abbrev pub waiting_chain : Chain → ℕ → WaitingChain
waiting_chain m p = record { chain = m; address = p }

-- a co-expression with this body in a procedure, whose code begins at a place, may stand in these states
pub data OfStatus (L : Linkage) (first : Bool) (j : ℕ) (e : Tree) (place : ℕ) : M.Status
    → S.Status WaitingChain
    → Type 0 where
  t_fresh : {q : ℕ} → first ≡ false → StandsCreate L j e place q → OfStatus L first j e place M.Fresh S.Fresh
  t_active : OfStatus L first j e place M.Active S.Active
  t_waiting : {k : Works} {r : Choices} {p : ℕ} {xs : List Item} {s : Suspensions} {z : List ℕ} {o : Outer}
      → OfWorks L first k p xs z o → OfChoices L first r s z o
      → OfStatus L first j e place (M.Waiting k r) (S.Waiting (waiting_chain (chain xs s z o) p))
  t_after : {r : Choices} {p : ℕ} {xs : List Item} {s : Suspensions} {z : List ℕ} {o : Outer}
      → At L o p I.Efail → OfChoices L first r s z o
      → OfStatus L first j e place (M.AfterResult r) (S.Waiting (waiting_chain (chain xs s z o) p))
  t_exhausted : OfStatus L first j e place M.Exhausted S.Exhausted

-- what is looked up of a co-expression, which may be one that is not there
pub record OfCoexp (L : Linkage) (first : Bool) (co : M.Coexpression)
    (l : S.Coexp WaitingChain) : Type 0 where
  pub activator : co.activator ≡ l.activator
  pub procedure : co.procedure ≡ l.proc
  pub values : co.values ≡ l.values
  pub status : OfStatus L first l.proc co.body l.address co.status l.status

-- The co-expressions beside `&main` correspond one by one, and the code of each stands in its procedure
pub data OfOthers (L : Linkage) : List M.Coexpression → List (S.Coexp WaitingChain) → Type 0 where
  c_none : OfOthers L [] []
  c_more : {co : M.Coexpression} {l : S.Coexp WaitingChain} {cos : List M.Coexpression}
      {ls : List (S.Coexp WaitingChain)} {q : ℕ} → OfCoexp L false co l
      → StandsCreate L l.proc co.body l.address q
      → OfOthers L cos ls → OfOthers L (co ∷ cos) (l ∷ ls)

-- all co-expressions: `&main` and the others
pub data OfAll (L : Linkage) : List M.Coexpression → List (S.Coexp WaitingChain) → Type 0 where
  c_all : {co : M.Coexpression} {l : S.Coexp WaitingChain} {cos : List M.Coexpression}
      {ls : List (S.Coexp WaitingChain)} → OfCoexp L true co l → OfOthers L cos ls
      → OfAll L (co ∷ cos) (l ∷ ls)

-- The machine at a chain and a place, with the store of the meaning: activations, flags, limits and saved
-- pairs have the same numbers on both sides, and so
-- are the same lists. Only the co-expressions differ.
abbrev pub linked_of : Chain → ℕ → M.Store → LinkedStack
linked_of m p st = record {
  chain = m;
  address = p;
  activations = st.activations;
  flags = st.flags;
  relabels =
      [];
  limits = st.limits;
  saved = st.saved;
}

-- the store of the meaning as the machine has it, with these co-expressions
abbrev pub store_of : M.Store → List (S.Coexp WaitingChain) → S.Store WaitingChain
store_of st ls = record {
  world = st.world;
  outside = st.outside;
  turns = st.turns;
  begun = st.begun;
  coexps = ls;
  active = st.active;
  names = st.names;
}

-- An evaluation corresponds to a state of the machine: what is evaluated stands at the address, and works and
-- choices are what the chain goes on with
pub data Rel (L : Linkage) : M.Evaluation → S.State WaitingChain LinkedStack → Type 0 where
  at_eval : {first : Bool} {n : Nest} {e : Tree} {v : Surroundings} {k : Works} {r : Choices} {p q : ℕ}
      {xs : List Item} {s : Suspensions} {z : List ℕ} {o : Outer} {st : M.Store}
      {ls : List (S.Coexp WaitingChain)} → first ≡ (S.is_main st.active) → OfAll L st.coexpressions ls
      → Stands L (proc_in o) n e p q → OfSurroundings L first n v z o → OfWorks L first k q xs z o
      → OfChoices L first r s z o → Rel L (M.eval e v k r st)
      (S.running (linked_of (chain xs s z o) p st) (store_of st ls))
  at_succeed : {first : Bool} {x : Item} {k : Works} {r : Choices} {p : ℕ} {xs : List Item}
      {s : Suspensions} {z : List ℕ} {o : Outer} {st : M.Store} {ls : List (S.Coexp WaitingChain)}
      → first ≡ (S.is_main st.active) → OfAll L st.coexpressions ls → OfWorks L first k p xs z o
      → OfChoices L first r s z o → Rel L (M.succeed x k r st)
      (S.running (linked_of (chain (x ∷ xs) s z o) p st) (store_of st ls))
  at_fail : {first : Bool} {r : Choices} {p : ℕ} {xs : List Item} {s : Suspensions} {z : List ℕ} {o : Outer}
      {st : M.Store} {ls : List (S.Coexp WaitingChain)} → first ≡ (S.is_main st.active)
      → OfAll L st.coexpressions ls → OfChoices L first r s z o
      → Rel L (M.fail r st) (S.failing (linked_of (chain xs s z o) p st) (store_of st ls))
  at_hop : {c : ℕ} {p : ℕ} {m : Chain} {st : M.Store} {ls : List (S.Coexp WaitingChain)} → c ≡ st.active
      → OfAll L st.coexpressions ls → Rel L (M.hop c st) (S.hopping (linked_of m p st) (store_of st ls))
  at_done : {x : Item} {r : Choices} {st : M.Store}
      → Rel L (M.succeed x Nothing r st) (S.over_with M.Done st.world st.outside)
  at_end : {st : M.Store} → Rel L (M.fail NoChoice st) (S.over_with M.Done st.world st.outside)
  at_over : {ending : M.Ending} {st : M.Store} → Rel L (M.over ending st) (S.over ending st.outside)
  at_lost : Rel L M.lost S.stuck
