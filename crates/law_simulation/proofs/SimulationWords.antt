-- The words that the steps of the first law are proved with: what the code comes to, turns, and what
-- outcomes of rows become.
use Rattle.std.proofs.Common.{◌≡◌, ℕ, zero, suc, ◌+◌, Bool, true, false, ◌<◌, ◌≤◌, ◌⊎◌, inl, inr, List, [], ◌∷◌, ◌++◌, length, Option, Some, None, refl, sym, ap, ◌∙◌, subst, arith}
use Rattle.std.specs.Prelude.{nat_lt, if◌then◌else◌}
use Rattle.icn_code.specs.declared.instr.Instr.{Instr}
use Rattle.icn_code.specs.declared.instr.Instr.TheVariants as I
use Rattle.icn_tree.specs.Trees as T
use Rattle.icn_tree.specs.Trees.{Tree, Trees, NoTrees, More}
use Rattle.icn_value.specs.Values.{Value, Integer, Text, Chars, Item, Val, Var, Whole, Static}
use Rattle.icn_value.specs.Store.{Setting}
use Rattle.icn_defs.specs.Errors.{error_report}
use Rattle.icn_defs.proofs.OnErrors.{on_both}
use Rattle.icn_defs.specs.Rows.{Outcome, Fails, Gives, Suspends, Error, Ends}
use Rattle.icn_defs.specs.StepRows.{value_row}
use Rattle.icn_meaning.specs.Contexts as M
use Rattle.icn_meaning.specs.Contexts.{Works, ◌and_then◌, Choices}
use Rattle.icn_meaning.specs.Turns as MT
use Rattle.icn_run.specs.Chains.{outer_of, proc_of, frame_of, fixed, flagged, Chain, chain, Suspensions, none, Outer, mark, WaitingChain, LinkedStack, push_mark}
use Rattle.icn_run.specs.Step as S
use Rattle.icn_run.specs.Step.{ended_by}
use Rattle.law_stacks.specs.SameStates.{IsLacking, Opens as IsMark}
use Rattle.law_stacks.proofs.CellLists.{some_injective}
use Rattle.law_stacks.proofs.RenderedMarks.{Lacks}
use Rattle.law_simulation.specs.Linkage.{Here, Loads, l_null, l_integer, l_string, l_cset, l_local, l_static, l_global, Opens, o_mark, o_mark0}
use Rattle.law_simulation.specs.Relation.{proc_in, activation_in, OfWorks, OfChoices, OfAll, linked_of, store_of, Rel, at_succeed, at_fail, at_over, r_resume}
use Rattle.law_simulation.specs.Ground.{Ground, code_of, machine}

-- a state of the run on linked marks
abbrev pub LinkedState : Type 0
LinkedState = S.State WaitingChain LinkedStack

-- one step of the code
abbrev pub linked_step : Ground → LinkedState → LinkedState
linked_step G l = S.step (machine G) (code_of G) l

-- so many steps of it
abbrev pub linked_steps : Ground → ℕ → LinkedState → LinkedState
linked_steps G n l = S.steps (machine G) (code_of G) n l

-- how much is left to do without an instruction
abbrev mutual
  pub silent_weight : Tree → ℕ
  silent_weight (T.Parentheses place es) = suc (total es)
  silent_weight (T.Compound place es) = suc (total es)
  silent_weight (T.Listing place es) = suc (total es)
  silent_weight (T.Call place f es) = suc (silent_weight f)
  silent_weight (T.CoCall place f es) = suc (silent_weight f)
  silent_weight (T.Subscript place x is) = silent_weight x + counted is
  silent_weight (T.Section place kind x i j) = suc (silent_weight x)
  silent_weight (T.Field place x name) = suc (silent_weight x)
  silent_weight (T.Prefix place o e) = suc (silent_weight e)
  silent_weight (T.Binary place o a b) = suc (silent_weight a + silent_weight b)
  silent_weight (T.To place a b by) = suc (silent_weight a)
  silent_weight e = 0

  pub total : Trees → ℕ
  total NoTrees = 0
  total (More e es) = suc (silent_weight e + total es)

  pub counted : Trees → ℕ
  counted NoTrees = 0
  counted (More e es) = suc (counted es)

abbrev pub first_weight : Trees → ℕ
first_weight NoTrees = 0
first_weight (More e es) = suc (silent_weight e)

abbrev pub weight : M.Evaluation → ℕ
weight (M.eval e v k r st) = silent_weight e
weight (M.succeed x (M.Args form xs es v and_then k) r st) = first_weight es
weight (M.succeed x (M.Update o y v and_then k) r st) = suc (silent_weight y)
weight state = 0

-- a label is to be set in a mark that has no cell for it
abbrev pub Misses : Ground → LinkedState → Type 0
Misses G l = IsLacking (machine G) (code_of G) (Lacks G.L.repeats (IsMark (code_of G))) l

-- from l the code comes to a state that corresponds to s, and misses nothing on the way
pub record Reaches (G : Ground) (s : M.Evaluation) (l : LinkedState) : Type 0 where
  pub turns : ℕ
  pub to : LinkedState
  pub comes : linked_steps G turns l ≡ to
  pub rel : Rel G.L s to
  pub whole : (n : ℕ) → n < turns → Misses G (linked_steps G n l) → ⊥

-- one step of the code, which misses nothing
pub record StepsTo (G : Ground) (l l' : LinkedState) : Type 0 where
  pub by : linked_step G l ≡ l'
  pub whole : Misses G l → ⊥

abbrev pub is_chfail : Instr → Bool
is_chfail (I.Chfail label) = true
is_chfail i = false

-- the code follows a step: it reaches the state after it, or less is left to do without an instruction
pub record Follows (G : Ground) (w : ℕ) (s : M.Evaluation) (l : LinkedState) : Type 0 where
  pub reach : Reaches G s l
  pub less : (1 ≤ reach.turns) ⊎ (weight s < w)

-- the running machine at a chain and a place; and the failing one
abbrev pub running_at : Chain → ℕ → M.Store → List (S.Coexp WaitingChain) → LinkedState
running_at m p st ls = S.running (linked_of m p st) (store_of st ls)

abbrev pub failing_at : Chain → ℕ → M.Store → List (S.Coexp WaitingChain) → LinkedState
failing_at m p st ls = S.failing (linked_of m p st) (store_of st ls)

abbrev pub running_on : LinkedStack → S.Store WaitingChain → LinkedState
running_on m st = S.running m st

-- which co-expression runs, and how all of them correspond
abbrev pub LiveCoexpressions : Ground → Bool → ℕ → List M.Coexpression → List (S.Coexp WaitingChain) → Type 0
LiveCoexpressions G first active cos ls = (first ≡ (S.is_main active)) × OfAll G.L cos ls

module _ (G : Ground) where
  -- a state that corresponds is reached in no step
  pub reached_already : {s : M.Evaluation} {l : LinkedState} → Rel G.L s l → Reaches G s l
  reached_already {s} {l} h = record { turns = 0; to = l; comes = refl; rel = h; whole = λ n less x. absurd (omega (arith, less)) }

  -- a step of the meaning that no instruction does leaves less to do
  pub follows_silently : {s : M.Evaluation} {l : LinkedState} (w : ℕ) → Rel G.L s l → weight s < w → Follows G w s l
  follows_silently w h lt = record { reach = reached_already h; less = inr lt }

  -- a step of the code and what it then reaches follow
  pub follows_by_step : {s : M.Evaluation} {l l' : LinkedState} (w : ℕ) → StepsTo G l l' → Reaches G s l' → Follows G w s l
  follows_by_step {l = l} w e g = record {
    reach = record {
      turns = suc g.turns;
      to = g.to;
      comes = ap (linked_steps G g.turns) e.by ∙ g.comes;
      rel = g.rel;
      whole = on_the_way;
    };
    less =
        inl (omega arith);
  }
    where
      on_the_way : (n : ℕ) → n < suc g.turns → Misses G (linked_steps G n l) → ⊥
      on_the_way zero less x = e.whole x
      on_the_way (suc n) less x = g.whole n (omega (arith, less)) (subst (λ l. Misses G (linked_steps G n l)) e.by x)

  -- what is reached after a step is reached before it
  pub then_reach : {s : M.Evaluation} {l l' : LinkedState} → StepsTo G l l' → Reaches G s l' → Reaches G s l
  then_reach e g = (follows_by_step 0 e g).reach

  -- one step of the code at an instruction is that instruction
  pub instruction_step : {i : Instr} (p : ℕ) (m : Chain) (st : M.Store) (ls : List (S.Coexp WaitingChain))
      → Here G.L (proc_of (frame_of (outer_of m))) p i
      → linked_step G (running_at m p st ls) ≡ S.instruction (machine G) (code_of G) i (linked_of m (suc p) st)
      (store_of st ls)
  instruction_step p m st ls h = ap (λ i. S.with_found i
      (λ i. S.instruction (machine G) (code_of G) i (linked_of m (suc p) st) (store_of st ls))) h

  -- another instruction sets no label
  pub sets_no_label : {i : Instr} (p : ℕ) (m : Chain) (st : M.Store) (ls : List (S.Coexp WaitingChain))
      → Here G.L (proc_of (frame_of (outer_of m))) p i → is_chfail i ≡ false → Misses G (running_at m p st ls) → ⊥
  sets_no_label {i} p m st ls h other x = no_chfail i (some_injective (sym h ∙ x.1)) other
    where
      no_chfail : (i : Instr) → i ≡ I.Chfail x.0 → is_chfail i ≡ false → ⊥
      no_chfail i e other = let b : true ≡ false = sym (ap is_chfail e) ∙ other in cc

  -- an instruction that sets no label is one step of the code
  pub steps_to_instruction : {i : Instr} (p : ℕ) (m : Chain) (st : M.Store) (ls : List (S.Coexp WaitingChain))
      → Here G.L (proc_of (frame_of (outer_of m))) p i → is_chfail i ≡ false
      → StepsTo G (running_at m p st ls) (S.instruction (machine G) (code_of G) i (linked_of m (suc p) st)
      (store_of st ls))
  steps_to_instruction p m st ls h other = record { by = instruction_step p m st ls h; whole = sets_no_label p m st ls h other }

  -- a mark is opened
  open_if : (b : Bool) (label : Option ℕ) (m : Chain) (p : ℕ) (st : M.Store) (ls : List (S.Coexp WaitingChain))
      → b ≡ false → running_on (if b then record
      (push_mark (flagged label (length st.flags) p) (linked_of m (suc p) st))
      { flags = st.flags ++ false ∷ [] } else push_mark (fixed label) (linked_of m (suc p) st))
      (store_of st ls) ≡ running_on (push_mark (fixed label) (linked_of m (suc p) st)) (store_of st ls)
  open_if b label m p st ls e = ap
      (λ (b : Bool). running_on (if b then record
      (push_mark (flagged label (length st.flags) p) (linked_of m (suc p) st))
      { flags = st.flags ++ false ∷ [] } else push_mark (fixed label) (linked_of m (suc p) st))
      (store_of st ls)) e

  -- an instruction that opens a mark
  pub opens : {xs : List Item} {s : Suspensions} {z : List ℕ} {o : Outer} {label : Option ℕ} (p : ℕ)
      (st : M.Store) (ls : List (S.Coexp WaitingChain)) → Opens G.L (proc_in o) p label
      → StepsTo G (running_at (chain xs s z o) p st ls)
      (running_at (chain [] none z (mark (fixed label) (chain xs s z o))) (suc p) st ls)
  opens {xs} {s} {z} {o} p st ls (o_mark {l = l} h e) =
      record {
        by = instruction_step p (chain xs s z o) st ls h
            ∙ open_if (G.L.repeats (proc_in o) p) (Some l) (chain xs s z o) p st ls e;
        whole = sets_no_label p (chain xs s z o) st ls h refl;
      }
  opens {xs} {s} {z} {o} p st ls (o_mark0 h e) =
      record {
        by = instruction_step p (chain xs s z o) st ls h
            ∙ open_if (G.L.repeats (proc_in o) p) None (chain xs s z o) p st ls e;
        whole = sets_no_label p (chain xs s z o) st ls h refl;
      }

  pub opens_flagged : {xs : List Item} {s : Suspensions} {z : List ℕ} {o : Outer} (p : ℕ) (st : M.Store)
      (ls : List (S.Coexp WaitingChain)) → Here G.L (proc_in o) p I.Mark0 → G.L.repeats (proc_in o) p ≡ true →
      StepsTo G (running_at (chain xs s z o) p st ls)
      (running_at (chain [] none z (mark (flagged None (length st.flags) p) (chain xs s z o))) (suc p)
      (record st { flags = st.flags ++ false ∷ [] }) ls)
  opens_flagged {xs} {s} {z} {o} p st ls h e = let m = chain xs s z o in
      record {
        by = instruction_step p m st ls h
            ∙ ap (λ (b : Bool). running_on (if b then record
            (push_mark (flagged None (length st.flags) p) (linked_of m (suc p) st))
            { flags = st.flags ++ false ∷ [] } else push_mark (fixed None) (linked_of m (suc p) st))
            (store_of st ls)) e;
        whole = sets_no_label p m st ls h refl;
      }

  -- an item is pushed
  loaded : {j : ℕ} {i : Instr} {x : Item} {xs : List Item} {s : Suspensions} {z : List ℕ} {o : Outer}
      (p : ℕ) (st : M.Store) (ls : List (S.Coexp WaitingChain)) → j ≡ proc_in o → Loads G.L j i x
      → S.instruction (machine G) (code_of G) i (linked_of (chain xs s z o) p st) (store_of st ls) ≡ running_at
      (chain (x ∷ xs) s z o) p st ls
  loaded p st ls e l_null = refl
  loaded {xs = xs} {s = s} {z = z} {o = o} p st ls e (l_integer h) =
      ap (λ n. S.with_found n (λ n. S.push_item (machine G) (Val (Integer n)) (linked_of (chain xs s z o) p st)
      (store_of st ls))) h
  loaded {xs = xs} {s = s} {z = z} {o = o} p st ls e (l_string h) =
      ap (λ n. S.with_found n (λ n. S.push_item (machine G) (Val (Text n)) (linked_of (chain xs s z o) p st)
      (store_of st ls))) h
  loaded {xs = xs} {s = s} {z = z} {o = o} p st ls e (l_cset h) =
      ap (λ n. S.with_found n (λ n. S.push_item (machine G) (Val (Chars (S.members_of n)))
      (linked_of (chain xs s z o) p st) (store_of st ls))) h
  loaded p st ls e l_local = refl
  loaded {xs = xs} {s = s} {z = z} {o = o} p st ls e (l_static {k = k}) =
      ap (λ j. S.push_item (machine G) (Var (Whole (Static (S.statics_before G.L.tables j + k))))
      (linked_of (chain xs s z o) p st) (store_of st ls)) (sym e)
  loaded p st ls e l_global = refl

  -- an instruction that pushes an item
  pub loads : {i : Instr} {x : Item} {xs : List Item} {s : Suspensions} {z : List ℕ} {o : Outer} (p : ℕ)
      (st : M.Store) (ls : List (S.Coexp WaitingChain)) → Here G.L (proc_in o) p i → Loads G.L (proc_in o) i x
      → StepsTo G (running_at (chain xs s z o) p st ls) (running_at (chain (x ∷ xs) s z o) (suc p) st ls)
  loads {xs = xs} {s = s} {z = z} {o = o} p st ls h l = record {
    by = instruction_step p (chain xs s z o) st ls h ∙ loaded (suc p) st ls refl l;
    whole = sets_no_label p (chain xs s z o) st ls h (loads_no_label l);
  }
    where
      loads_no_label : {i : Instr} {x : Item} → Loads G.L (proc_in o) i x → is_chfail i ≡ false
      loads_no_label l_null = refl
      loads_no_label (l_integer h) = refl
      loads_no_label (l_string h) = refl
      loads_no_label (l_cset h) = refl
      loads_no_label l_local = refl
      loads_no_label l_static = refl
      loads_no_label l_global = refl

  -- A turn

  turn_by : (b : Bool) (st : M.Store) (ls : List (S.Coexp WaitingChain)) (f : M.Store → M.Evaluation)
      (g : S.Store WaitingChain → LinkedState) → Reaches G (f (record st { turns = suc st.turns }))
      (g (store_of (record st { turns = suc st.turns }) ls))
      → Reaches G (MT.turn_if b st f) (S.turn_if b (store_of st ls) g)
  turn_by true st ls f g h = h
  turn_by false st ls f g h = reached_already at_over

  -- a turn on both sides keeps what is reached
  pub on_turn : (st : M.Store) (ls : List (S.Coexp WaitingChain)) (f : M.Store → M.Evaluation)
      (g : S.Store WaitingChain → LinkedState) → Reaches G (f (record st { turns = suc st.turns }))
      (g (store_of (record st { turns = suc st.turns }) ls))
      → Reaches G (MT.turn st f) (S.turn (code_of G) (store_of st ls) g)
  on_turn st ls f g h = turn_by (nat_lt st.turns st.world.heap.bounds.turns) st ls f g h

  -- What an outcome becomes

  -- an error on both sides
  pub errors_agree : {first : Bool} {r : Choices} {s : Suspensions} {z : List ℕ} {o : Outer} (p : ℕ) (xs : List Item)
      (n : ℕ) (v : Option Value) (st : M.Store) (ls : List (S.Coexp WaitingChain))
      → LiveCoexpressions G first st.active st.coexpressions ls → OfChoices G.L first r s z o
      → Reaches G (MT.errs n v r st) (S.errs n v (linked_of (chain xs s z o) p st) (store_of st ls))
  errors_agree {r = r} {s = s} {z = z} {o = o} p xs n v st ls live h =
      on_both (λ a b. Reaches G a b) n v st.world
      (MT.end_run (M.Errored n) (MT.with_report (error_report st.names st.world.heap n v) st))
      (λ world. M.fail r (record st { world = world })) (ended_by n v (store_of st ls))
      (λ world. S.failing (linked_of (chain xs s z o) p st) (S.with_world world (store_of st ls)))
      (reached_already at_over) (reached_already (at_fail live.0 live.1 h))

  pub on_answer : {first : Bool} {k : Works} {r : Choices} {p : ℕ} {xs : List Item} {s : Suspensions}
      {z : List ℕ} {o : Outer} (out : Outcome) (st : M.Store) (ls : List (S.Coexp WaitingChain))
      → LiveCoexpressions G first st.active st.coexpressions ls → OfWorks G.L first k p xs z o
      → OfChoices G.L first r s z o → Reaches G (MT.answer out (activation_in o) k r st)
      (S.outcome (machine G) out (linked_of (chain xs s z o) p st) (store_of st ls))
  on_answer (Fails seen) st ls a k r = reached_already (at_fail a.0 a.1 r)
  on_answer (Gives x seen) st ls a k r = reached_already (at_succeed a.0 a.1 k r)
  on_answer (Suspends x m seen) st ls a k r = reached_already (at_succeed a.0 a.1 k (r_resume k r))
  on_answer {p = p} {xs = xs} {o = o} (Error n v seen) st ls a k r =
      errors_agree p xs n v (MT.after (activation_in o) seen st) ls a r
  on_answer (Ends n seen) st ls a k r = reached_already at_over

  pub on_valued : {first : Bool} {r : Choices} {s : Suspensions} {z : List ℕ} {o : Outer} (p : ℕ)
      (xs : List Item) (out : Outcome) (st : M.Store) (ls : List (S.Coexp WaitingChain)) (f : Value → M.Evaluation)
      (g : Value → LinkedState) → LiveCoexpressions G first st.active st.coexpressions ls → OfChoices G.L first r s z o
      → ((v : Value) → Reaches G (f v) (g v))
      → Reaches G (MT.with_given out r st f) (S.with_given out (linked_of (chain xs s z o) p st) (store_of st ls) g)
  on_valued p xs (Fails seen) st ls f g a r h = reached_already (at_fail a.0 a.1 r)
  on_valued p xs (Gives (Val v) seen) st ls f g a r h = h v
  on_valued p xs (Gives (Var x) seen) st ls f g a r h = reached_already (at_fail a.0 a.1 r)
  on_valued p xs (Suspends x m seen) st ls f g a r h = reached_already (at_fail a.0 a.1 r)
  on_valued p xs (Error n v seen) st ls f g a r h = errors_agree p xs n v st ls a r
  on_valued p xs (Ends n seen) st ls f g a r h = reached_already (at_fail a.0 a.1 r)

  -- an item is dereferenced in the activation that runs
  pub on_value : {first : Bool} {r : Choices} {a : ℕ} {s : Suspensions} {z : List ℕ} {o : Outer} (p : ℕ)
      (xs : List Item) (x : Item) (st : M.Store) (ls : List (S.Coexp WaitingChain)) (f : Value → M.Evaluation)
      (g : Value → LinkedState) → a ≡ activation_in o → LiveCoexpressions G first st.active st.coexpressions ls
      → OfChoices G.L first r s z o → ((v : Value) → Reaches G (f v) (g v))
      → Reaches G (MT.value x a r st f)
      (S.with_value (machine G) x (linked_of (chain xs s z o) p st) (store_of st ls) g)
  on_value {r = r} {a = a} {s = s} {z = z} {o = o} p xs x st ls f g e live r' h =
      subst (λ a. Reaches G (MT.value x a r st f)
      (S.with_value (machine G) x (linked_of (chain xs s z o) p st) (store_of st ls) g)) (sym e)
      (on_valued p xs (value_row x (MT.setting_in (activation_in o) st)) st ls f g live r' h)

  pub on_values : {first : Bool} {r : Choices} {a : ℕ} {s : Suspensions} {z : List ℕ} {o : Outer} (p : ℕ)
      (xs : List Item) (items : List Item) (st : M.Store) (ls : List (S.Coexp WaitingChain))
      (f : List Value → M.Evaluation) (g : List Value → LinkedState) → a ≡ activation_in o
      → LiveCoexpressions G first st.active st.coexpressions ls → OfChoices G.L first r s z o
      → ((vs : List Value) → Reaches G (f vs) (g vs))
      → Reaches G (MT.values items a r st f)
      (S.with_values (machine G) items (linked_of (chain xs s z o) p st) (store_of st ls) g)
  on_values p xs [] st ls f g e live r h = h []
  on_values {r = r'} {a = a} {s = s} {z = z} {o = o} p xs (x ∷ items) st ls f g e live r h =
      on_value p xs x st ls (λ v. MT.values items a r' st (λ vs. f (v ∷ vs)))
      (λ v. S.with_values (machine G) items (linked_of (chain xs s z o) p st) (store_of st ls)
      (λ vs. g (v ∷ vs))) e live r
      (λ v. on_values p xs items st ls (λ vs. f (v ∷ vs)) (λ vs. g (v ∷ vs)) e live r (λ vs. h (v ∷ vs)))

  -- something is made in the activation that runs
  made_by : {first : Bool} {r : Choices} {s : Suspensions} {z : List ℕ} {o : Outer} (p : ℕ) (xs : List Item)
      (out : Outcome) (st : M.Store) (ls : List (S.Coexp WaitingChain)) (f : Value → M.Store → M.Evaluation)
      (g : Value → LinkedStack → S.Store WaitingChain → LinkedState) → LiveCoexpressions G first st.active st.coexpressions ls
      → OfChoices G.L first r s z o → ((v : Value) (seen : Setting)
      → Reaches G (f v (MT.after (activation_in o) seen st))
      (g v (linked_of (chain xs s z o) p (MT.after (activation_in o) seen st))
      (store_of (MT.after (activation_in o) seen st) ls)))
      → Reaches G (MT.with_made out (activation_in o) r st f)
      (S.with_made (machine G) out (linked_of (chain xs s z o) p st) (store_of st ls) g)
  made_by p xs (Fails seen) st ls f g a r h = reached_already (at_fail a.0 a.1 r)
  made_by p xs (Gives (Val v) seen) st ls f g a r h = h v seen
  made_by p xs (Gives (Var x) seen) st ls f g a r h = reached_already (at_fail a.0 a.1 r)
  made_by p xs (Suspends x m seen) st ls f g a r h = reached_already (at_fail a.0 a.1 r)
  made_by {o = o} p xs (Error n v seen) st ls f g a r h =
      errors_agree p xs n v (MT.after (activation_in o) seen st) ls a r
  made_by p xs (Ends n seen) st ls f g a r h = reached_already (at_fail a.0 a.1 r)

  pub on_made : {first : Bool} {r : Choices} {a : ℕ} {s : Suspensions} {z : List ℕ} {o : Outer} (p : ℕ)
      (xs : List Item) (row : Setting → Outcome) (st : M.Store) (ls : List (S.Coexp WaitingChain))
      (f : Value → M.Store → M.Evaluation) (g : Value → LinkedStack → S.Store WaitingChain → LinkedState) → a ≡ activation_in o
      → LiveCoexpressions G first st.active st.coexpressions ls → OfChoices G.L first r s z o
      → ((v : Value) (seen : Setting)
      → Reaches G (f v (MT.after a seen st))
      (g v (linked_of (chain xs s z o) p (MT.after a seen st)) (store_of (MT.after a seen st) ls)))
      → Reaches G (MT.with_made (row (MT.setting_in a st)) a r st f)
      (S.with_made (machine G) (row (S.here (machine G) (linked_of (chain xs s z o) p st) (store_of st ls)))
      (linked_of (chain xs s z o) p st) (store_of st ls) g)
  on_made {r = r} {a = a} {s = s} {z = z} {o = o} p xs row st ls f g e live r' h =
      let P : ℕ → Type 0 = λ a. ((v : Value) (seen : Setting)
      → Reaches G (f v (MT.after a seen st))
      (g v (linked_of (chain xs s z o) p (MT.after a seen st)) (store_of (MT.after a seen st) ls)))
      → Reaches G (MT.with_made (row (MT.setting_in a st)) a r st f)
      (S.with_made (machine G) (row (S.here (machine G) (linked_of (chain xs s z o) p st) (store_of st ls)))
      (linked_of (chain xs s z o) p st) (store_of st ls) g) in
      subst P (sym e) (λ h. made_by p xs (row (MT.setting_in (activation_in o) st)) st ls f g live r' h) h
