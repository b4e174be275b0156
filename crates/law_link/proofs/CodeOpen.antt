-- What is open at a place, as both translations count it, and what leaves it.
use Rattle.std.proofs.Common.{◌≡◌, ◌≤◌, ℕ, suc, ◌+◌, ◌-◌, Bool, true, false, List, [], ◌∷◌, ◌++◌, length, replicate, refl, sym, ap, subst, ◌∙◌, if◌then◌else◌, arith}
use Rattle.icn_tree.specs.declared.tree.Place.{Place}
use Rattle.icn_decls.specs.Contexts.{BrokenRule, Context, others, next_by, next_faults}
use Rattle.icn_code.specs.declared.instr.Instr.{Instr}
use Rattle.icn_code.specs.declared.instr.Instr.TheVariants as I
use Rattle.icn_unit.specs.declared.unit.UnitInstr.TheVariants as U
use Rattle.icn_translate.specs.OpenMarks.{OpenMarks, Outermost, Marked, Looped, Controlled, Each, is_loopless, is_nextless, unmarks_for_break, unmarks_for_next, around}
use Rattle.icn_link.specs.Resolving.{Scope}
use Rattle.law_simulation.specs.Translation as X
use Rattle.law_link.proofs.CodeSteps.{Gives, no_facts, gives_nothing, gives_instruction, ◌⨾◌, given_as}

-- the loops that are open, as the translation counts them
abbrev pub depths : OpenMarks → List X.Depth
depths Outermost = []
depths (Marked o) = X.deeper (depths o)
depths (Looped o) = X.loop_of 0 0 ∷ depths o
depths (Controlled o) = X.control_of 1 ∷ depths o
depths (Each o) = X.loop_of 1 1 ∷ depths o

abbrev pub loops_in : OpenMarks → ℕ
loops_in Outermost = 0
loops_in (Marked o) = loops_in o
loops_in (Looped o) = suc (loops_in o)
loops_in (Controlled o) = suc (loops_in o)
loops_in (Each o) = suc (loops_in o)

-- these loops as the context rules see them: each by whether `next` may stand there
abbrev pub flags_in : OpenMarks → List Bool
flags_in Outermost = []
flags_in (Marked o) = flags_in o
flags_in (Looped o) = true ∷ flags_in o
flags_in (Controlled o) = false ∷ flags_in o
flags_in (Each o) = true ∷ flags_in o

flags_counted : (o : OpenMarks) → length (flags_in o) ≡ loops_in o
flags_counted Outermost = refl
flags_counted (Marked o) = flags_counted o
flags_counted (Looped o) = ap suc (flags_counted o)
flags_counted (Controlled o) = ap suc (flags_counted o)
flags_counted (Each o) = ap suc (flags_counted o)

-- a place with these open, in this context, and with these ways
abbrev pub Within : OpenMarks → Context → List X.LoopExits → Type 0
Within o c V = (c.loops ≡ flags_in o) × (length V ≡ loops_in o)

-- as many loops are open
pub loops_counted : (o : OpenMarks) (c : Context) → c.loops ≡ flags_in o → length c.loops ≡ loops_in o
loops_counted o c h = ap length h ∙ flags_counted o

-- the marks that are dropped out of the innermost loop, by `break` and by `next`
abbrev pub opened_in : List X.Depth → ℕ
opened_in [] = 0
opened_in (d ∷ D) = d.opened

abbrev pub dropped_in : List X.Depth → ℕ
dropped_in [] = 0
dropped_in (d ∷ D) = d.opened - d.staying

-- whether `next` may stand in the innermost loop
abbrev pub passes_in : List X.Depth → Bool
passes_in [] = false
passes_in (d ∷ D) = d.passes

-- the innermost loop
pub record First (D : List X.Depth) : Type 0 where
  pub first : X.Depth
  pub rest : List X.Depth
  pub is : D ≡ first ∷ rest
  pub most : first.staying ≤ first.opened

deeper_first : (D : List X.Depth) → First D → First (X.deeper D)
deeper_first D h = record {
  first = X.depth_of (suc h.first.opened) h.first.staying h.first.passes;
  rest = h.rest;
  is = ap X.deeper h.is;
  most = let most = h.most in omega arith;
}

pub first_in : (o : OpenMarks) (n : ℕ) → loops_in o ≡ suc n → First (depths o)
first_in Outermost n h = absurd (omega arith)
first_in (Marked o) n h = deeper_first (depths o) (first_in o n h)
first_in (Looped o) n h = record { first = X.loop_of 0 0; rest = depths o; is = refl; most = omega arith }
first_in (Controlled o) n h = record { first = X.control_of 1; rest = depths o; is = refl; most = omega arith }
first_in (Each o) n h = record { first = X.loop_of 1 1; rest = depths o; is = refl; most = omega arith }

opened_deeper : (D : List X.Depth) → First D → opened_in (X.deeper D) ≡ suc (opened_in D)
opened_deeper D h = ap (λ D. opened_in (X.deeper D)) h.is ∙ sym (ap (λ D. suc (opened_in D)) h.is)

dropped_deeper : (D : List X.Depth) → First D → dropped_in (X.deeper D) ≡ suc (dropped_in D)
dropped_deeper D h =
    ap (λ D. dropped_in (X.deeper D)) h.is ∙ one_more h.first.opened h.first.staying h.most ∙ sym (ap (λ D. suc (dropped_in D)) h.is)
  where
    one_more : (a b : ℕ) → b ≤ a → suc a - b ≡ suc (a - b)
    one_more a b h = omega arith

-- a loop is open
pub loop_is_open : (o : OpenMarks) (n : ℕ) → loops_in o ≡ suc n → is_loopless o ≡ false
loop_is_open Outermost n h = absurd (omega arith)
loop_is_open (Marked o) n h = loop_is_open o n h
loop_is_open (Looped o) n h = refl
loop_is_open (Controlled o) n h = refl
loop_is_open (Each o) n h = refl

-- `next` may stand here
pub record MayPass (o : OpenMarks) : Type 0 where
  pub asks : is_nextless o ≡ false
  pub passes : passes_in (depths o) ≡ true

deeper_passes : (D : List X.Depth) → passes_in (X.deeper D) ≡ passes_in D
deeper_passes [] = refl
deeper_passes (d ∷ D) = refl

some_fault : (b : Bool) (f g : BrokenRule) → (if b then f ∷ [] else g ∷ []) ≡ [] → ⊥
some_fault true f g h = absurd (cc)
some_fault false f g h = absurd (cc)

may_pass : (o : OpenMarks) (b : Bool) (place : Place) → next_by b (flags_in o) place ≡ [] → MayPass o
may_pass Outermost b place x = absurd (some_fault b _ _ x)
may_pass (Marked o) b place x = let h = may_pass o b place x in record { asks = h.asks; passes = deeper_passes (depths o) ∙ h.passes }
may_pass (Looped o) b place x = record { asks = refl; passes = refl }
may_pass (Controlled o) b place x = absurd (cc)
may_pass (Each o) b place x = record { asks = refl; passes = refl }

-- where a `next` breaks no rule
pub next_passes : (o : OpenMarks) (c : Context) (place : Place) → c.loops ≡ flags_in o → next_faults c place ≡ [] → MayPass o
next_passes o c place h x = may_pass o c.in_create place (subst (λ (flags : List Bool). next_by c.in_create flags place ≡ []) h x)

-- what both words are there
pub next_size_is : (D : List X.Depth) → passes_in D ≡ true → dropped_in D + 1 ≡ X.next_size D
next_size_is [] h = absurd (cc)
next_size_is (d ∷ D) h = sym (ap (λ passes. if passes then X.dropped_by_next d + 1 else 0) h)

pub next_code_is : (D : List X.Depth) → passes_in D ≡ true → (p : ℕ)
    → replicate (dropped_in D) I.Unmark ++ I.Goto p ∷ [] ≡ X.next_code D p
next_code_is [] h p = absurd (cc)
next_code_is (d ∷ D) h p = sym (ap (λ passes. if passes then replicate (X.dropped_by_next d) I.Unmark ++ I.Goto p ∷ [] else []) h)

pub break_size_is : (D : List X.Depth) → First D → (n : ℕ) → opened_in D + n + 1 ≡ X.break_size D n
break_size_is D h n = ap (λ D. opened_in D + n + 1) h.is ∙ sym (ap (λ D. X.break_size D n) h.is)

pub break_code_is : (D : List X.Depth) → First D → (l : ℕ) (c : ℕ → List Instr) (p : ℕ)
    → replicate (opened_in D) I.Unmark ++ (c (p + opened_in D) ++ I.Goto l ∷ []) ≡ X.break_code D l c p
break_code_is D h l c p = ap (λ D. replicate (opened_in D) I.Unmark ++ (c (p + opened_in D) ++ I.Goto l ∷ [])) h.is
    ∙ sym (ap (λ D. X.break_code D l c p) h.is)

around_deeper : (D : List X.Depth) → X.around (X.deeper D) ≡ X.around D
around_deeper [] = refl
around_deeper (d ∷ D) = refl

pub around_depths : (o : OpenMarks) → X.around (depths o) ≡ depths (around o)
around_depths Outermost = refl
around_depths (Marked o) = around_deeper (depths o) ∙ around_depths o
around_depths (Looped o) = refl
around_depths (Controlled o) = refl
around_depths (Each o) = refl

pub loops_around : (o : OpenMarks) (n : ℕ) → loops_in o ≡ suc n → loops_in (around o) ≡ n
loops_around Outermost n h = absurd (omega arith)
loops_around (Marked o) n h = loops_around o n h
loops_around (Looped o) n h = omega arith
loops_around (Controlled o) n h = omega arith
loops_around (Each o) n h = omega arith

-- the loops round the innermost one, as the rules see them
pub flags_around : (o : OpenMarks) → others (flags_in o) ≡ flags_in (around o)
flags_around Outermost = refl
flags_around (Marked o) = flags_around o
flags_around (Looped o) = refl
flags_around (Controlled o) = refl
flags_around (Each o) = refl

copies_more : (n m : ℕ) (x : Instr) → m ≡ suc n → (x ∷ []) ++ replicate n x ≡ replicate m x
copies_more n m x h = rw h refl

module _ {S : Scope} {F : List (List ℕ)} {W : List X.LoopExits} {E : List ℕ} where
  pub unmarks_for_break_give : (o : OpenMarks) (n : ℕ) → loops_in o ≡ suc n
      → Gives S F W E (unmarks_for_break o) (opened_in (depths o)) (λ p. replicate (opened_in (depths o)) I.Unmark) no_facts
  unmarks_for_break_give Outermost n h = absurd (omega arith)
  unmarks_for_break_give (Marked o) n h =
      let more = opened_deeper (depths o) (first_in o n h) in
      given_as (gives_instruction U.Unmark refl ⨾ unmarks_for_break_give o n h) (omega arith) (λ p f. (copies_more _ _ I.Unmark more, tt))
  unmarks_for_break_give (Looped o) n h = gives_nothing
  unmarks_for_break_give (Controlled o) n h = gives_instruction U.Unmark refl
  unmarks_for_break_give (Each o) n h = gives_instruction U.Unmark refl

  pub unmarks_for_next_give : (o : OpenMarks) (n : ℕ) → loops_in o ≡ suc n
      → Gives S F W E (unmarks_for_next o) (dropped_in (depths o)) (λ p. replicate (dropped_in (depths o)) I.Unmark) no_facts
  unmarks_for_next_give Outermost n h = absurd (omega arith)
  unmarks_for_next_give (Marked o) n h =
      let more = dropped_deeper (depths o) (first_in o n h) in
      given_as (gives_instruction U.Unmark refl ⨾ unmarks_for_next_give o n h) (omega arith) (λ p f. (copies_more _ _ I.Unmark more, tt))
  unmarks_for_next_give (Looped o) n h = gives_nothing
  unmarks_for_next_give (Controlled o) n h = gives_nothing
  unmarks_for_next_give (Each o) n h = gives_nothing
