-- Stacks that are kept once.
use Rattle.std.proofs.Common.{◌≡◌, ℕ, zero, suc, ◌+◌, ◌<◌, ◌≤◌, Bool, true, false, nat_eq, ◌⊎◌, inl, inr, List, [], ◌∷◌, ◌++◌, length, slice_get, Option, None, Some, refl, sym, ap, subst, ◌∙◌, true≢false, arith, append_assoc, length-append}
use Rattle.std.proofs.lemmas.Bool.{cases_lt, eqb-true, eq-eqb}
use Rattle.std.proofs.lemmas.List.{append-nil, get_or_append_left, get_or_push}
use Rattle.icn_verify.specs.declared.shape.Level.{Level}
use Rattle.icn_verify.specs.declared.arena.StackedLevel.{StackedLevel}
use Rattle.icn_verify.specs.KeptOnce.{IsEntered}
use Rattle.icn_verify.specs.Shapes.{shape_outside}
use Rattle.icn_verify.specs.Passing.{same_levels}
use Rattle.icn_verify.specs.Stacks.{stack_at, stacks_with, stacks_of, IsOnce, StacksGrow}
use Rattle.icn_verify.proofs.SameShapes.{same_levels_tells, levels_itself}
use Rattle.icn_verify.proofs.FirstFaults.{some_within}

none_some : {A : Type 0} (a : A) → let none : Option A = None in (none ≡ Some a) → ⊥
none_some a h = cc

some_same : {A : Type 0} (a b : A) → Some a ≡ Some b → a ≡ b
some_same a b h = cc

stack_of : List (List Level) → StackedLevel → List Level
stack_of stacks entry = entry.level ∷ stack_at stacks entry.outer

pub stacked_push : (stacks : List (List Level)) (entries : List StackedLevel) (entry : StackedLevel)
    → stacks_with stacks (entries ++ entry ∷ []) ≡ stacks_with stacks entries ++ (entry.level ∷ stack_at (stacks_with stacks entries) entry.outer) ∷ []
stacked_push stacks [] entry = refl
stacked_push stacks (first ∷ entries) entry = stacked_push (stacks ++ (first.level ∷ stack_at stacks first.outer) ∷ []) entries entry

pub length-stacked : (stacks : List (List Level)) (entries : List StackedLevel) → length (stacks_with stacks entries) ≡ length stacks + length entries
length-stacked stacks [] = omega arith
length-stacked stacks (first ∷ entries) =
    let e = length-stacked (stacks ++ (first.level ∷ stack_at stacks first.outer) ∷ []) entries in
    let f = length-append stacks ((first.level ∷ stack_at stacks first.outer) ∷ []) in
    omega arith

pub length-stacks_of : (entries : List StackedLevel) → length (stacks_of entries) ≡ length entries + 1
length-stacks_of entries = let e = length-stacked ([] ∷ []) entries in omega arith

begins : (stacks : List (List Level)) (entries : List StackedLevel) → (more : List (List Level)) × (stacks_with stacks entries ≡ stacks ++ more)
begins stacks [] = ([], sym (append-nil stacks))
begins stacks (first ∷ entries) =
    let rest = begins (stacks ++ (first.level ∷ stack_at stacks first.outer) ∷ []) entries in
    ((first.level ∷ stack_at stacks first.outer) ∷ rest.0, rest.1 ∙ append_assoc stacks ((first.level ∷ stack_at stacks first.outer) ∷ []) rest.0)

-- the first stack is empty
pub first_stack : (entries : List StackedLevel) → stack_at (stacks_of entries) 0 ≡ []
first_stack entries = let rest = begins ([] ∷ []) entries in ap (λ s. stack_at s 0) rest.1

cons_differs : (level : Level) (levels : List Level) → let none : List Level = [] in (none ≡ level ∷ levels) → ⊥
cons_differs level levels h = cc

head_same : (a b : Level) (xs ys : List Level) → a ∷ xs ≡ b ∷ ys → a ≡ b
head_same a b xs ys h = cc

tail_same : (a b : Level) (xs ys : List Level) → a ∷ xs ≡ b ∷ ys → xs ≡ ys
tail_same a b xs ys h = cc

same_entry : (a b : StackedLevel) → a.level ≡ b.level → a.outer ≡ b.outer → a ≡ b
same_entry a b h k = λ i. record { level = h i; outer = k i }

there : {A : Type 0} (xs : List A) (place : ℕ) → place < length xs → (x : A) × (slice_get xs place ≡ Some x)
there [] place lt = absurd (omega arith)
there (x ∷ xs) zero lt = (x, refl)
there (x ∷ xs) (suc place) lt = there xs place (omega arith)

get_before : {A : Type 0} (xs : List A) (x : A) (place : ℕ) → place < length xs → slice_get (xs ++ x ∷ []) place ≡ slice_get xs place
get_before [] x place lt = absurd (omega arith)
get_before (y ∷ xs) x zero lt = refl
get_before (y ∷ xs) x (suc place) lt = get_before xs x place (omega arith)

get_last : {A : Type 0} (xs : List A) (x : A) (place : ℕ) → length xs ≡ place → slice_get (xs ++ x ∷ []) place ≡ Some x
get_last [] x zero is = refl
get_last [] x (suc place) is = absurd (omega arith)
get_last (y ∷ xs) x zero is = absurd (omega arith)
get_last (y ∷ xs) x (suc place) is = get_last xs x place (omega arith)

module _ (entries : List StackedLevel) (once : IsOnce entries) (entry : StackedLevel) (held : entry.outer < length (stacks_of entries))
    (new : (k : ℕ) → slice_get entries k ≡ Some entry → ⊥) where
  pushed : stacks_of (entries ++ entry ∷ []) ≡ stacks_of entries ++ (entry.level ∷ stack_at (stacks_of entries) entry.outer) ∷ []
  pushed = stacked_push ([] ∷ []) entries entry

  long : length (stacks_of entries) ≡ length entries + 1
  long = length-stacks_of entries

  grown : List (List Level)
  grown = stacks_of entries ++ (entry.level ∷ stack_at (stacks_of entries) entry.outer) ∷ []

  before : (i : ℕ) → i < length (stacks_of entries)
      → stack_at (stacks_of entries ++ (entry.level ∷ stack_at (stacks_of entries) entry.outer) ∷ []) i ≡ stack_at (stacks_of entries) i
  before i lt = get_or_append_left (stacks_of entries) ((entry.level ∷ stack_at (stacks_of entries) entry.outer) ∷ []) [] i lt

  last : (i : ℕ) → length (stacks_of entries) ≡ i
      → stack_at (stacks_of entries ++ (entry.level ∷ stack_at (stacks_of entries) entry.outer) ∷ []) i ≡ entry.level ∷ stack_at (stacks_of entries) entry.outer
  last i is = get_or_push (stacks_of entries) (entry.level ∷ stack_at (stacks_of entries) entry.outer) [] i is

  -- no stack that is there is the new one
  new_stack : (i : ℕ) → i < length (stacks_of entries) → stack_at (stacks_of entries) i ≡ entry.level ∷ stack_at (stacks_of entries) entry.outer → ⊥
  new_stack zero lt h = cons_differs entry.level (stack_at (stacks_of entries) entry.outer) (sym (first_stack entries) ∙ h)
  new_stack (suc k) lt h =
      let within : k < length entries = omega (arith, length-stacks_of entries) in
      let here = there entries k within in
      let built = once.built k here.0 here.1 in
      let is : suc k ≡ k + 1 = omega arith in
      let stacks = sym built.1 ∙ ap (stack_at (stacks_of entries)) (sym is) ∙ h in
      let level = head_same here.0.level entry.level (stack_at (stacks_of entries) here.0.outer) (stack_at (stacks_of entries) entry.outer) stacks in
      let earlier = built.0 in
      let outer = once.differ here.0.outer entry.outer (omega arith) held
      (tail_same here.0.level entry.level (stack_at (stacks_of entries) here.0.outer) (stack_at (stacks_of entries) entry.outer) stacks) in
      new k (here.1 ∙ ap Some (same_entry here.0 entry level outer))

  differ : (i j : ℕ) → i < length (stacks_of entries) + 1 → j < length (stacks_of entries) + 1
      → stack_at (stacks_of entries ++ (entry.level ∷ stack_at (stacks_of entries) entry.outer) ∷ []) i
      ≡ stack_at (stacks_of entries ++ (entry.level ∷ stack_at (stacks_of entries) entry.outer) ∷ []) j → i ≡ j
  differ i j within_i within_j h = by (cases_lt i (length (stacks_of entries))) (cases_lt j (length (stacks_of entries)))
    where
      by : (i < length (stacks_of entries)) ⊎ (length (stacks_of entries) ≤ i) → (j < length (stacks_of entries)) ⊎ (length (stacks_of entries) ≤ j) → i ≡ j
      by (inl lt_i) (inl lt_j) = once.differ i j lt_i lt_j (sym (before i lt_i) ∙ h ∙ before j lt_j)
      by (inl lt_i) (inr ge_j) = absurd (new_stack i lt_i (sym (before i lt_i) ∙ h ∙ last j (omega arith)))
      by (inr ge_i) (inl lt_j) = absurd (new_stack j lt_j (sym (before j lt_j) ∙ sym h ∙ last i (omega arith)))
      by (inr ge_i) (inr ge_j) = omega arith

  built : (k : ℕ) (other : StackedLevel) → slice_get (entries ++ entry ∷ []) k ≡ Some other
      → (other.outer < k + 1) × (stack_at (stacks_of entries ++ (entry.level ∷ stack_at (stacks_of entries) entry.outer) ∷ []) (k + 1) ≡ other.level
      ∷ stack_at (stacks_of entries ++ (entry.level ∷ stack_at (stacks_of entries) entry.outer) ∷ []) other.outer)
  built k other h = by (cases_lt k (length entries))
    where
      inside : k < length (entries ++ entry ∷ [])
      inside = some_within (entries ++ entry ∷ []) k other h

      by : (k < length entries) ⊎ (length entries ≤ k)
          → (other.outer < k + 1) × (stack_at (stacks_of entries ++ (entry.level ∷ stack_at (stacks_of entries) entry.outer) ∷ []) (k + 1) ≡ other.level
          ∷ stack_at (stacks_of entries ++ (entry.level ∷ stack_at (stacks_of entries) entry.outer) ∷ []) other.outer)
      by (inl lt) =
          let old = once.built k other (sym (get_before entries entry k lt) ∙ h) in
          let earlier = old.0 in (
            old.0,
            before (k + 1) (omega (arith, length-stacks_of entries)) ∙ old.1
                ∙ ap (λ s. other.level ∷ s) (sym (before other.outer (omega (arith, length-stacks_of entries)))),
          )
      by (inr ge) =
          let all = length-append entries (entry ∷ []) in
          let within = inside in
          let is : length entries ≡ k = omega arith in
          let same : entry ≡ other = some_same entry other (sym (get_last entries entry k is) ∙ h) in
          let count = length-stacks_of entries in
          subst (λ e. (e.outer < k + 1) × (stack_at (stacks_of entries ++ (entry.level ∷ stack_at (stacks_of entries) entry.outer) ∷ []) (k + 1) ≡ e.level
          ∷ stack_at (stacks_of entries ++ (entry.level ∷ stack_at (stacks_of entries) entry.outer) ∷ []) e.outer)) same
          (omega arith, last (k + 1) (omega arith) ∙ ap (λ s. entry.level ∷ s) (sym (before entry.outer held)))

  pub once_pushed : IsOnce (entries ++ entry ∷ [])
  once_pushed = record {
    differ = subst (λ stacks. (i j : ℕ) → i < length stacks → j < length stacks → stack_at stacks i ≡ stack_at stacks j → i ≡ j) (sym pushed)
        (λ i j within_i within_j h. differ i j (let e = length-append (stacks_of entries) ((entry.level ∷ stack_at (stacks_of entries) entry.outer) ∷ []) in
        omega arith) (let e = length-append (stacks_of entries) ((entry.level ∷ stack_at (stacks_of entries) entry.outer) ∷ []) in omega arith) h);
    built = subst (λ stacks. (k : ℕ) (other : StackedLevel) → slice_get (entries ++ entry ∷ []) k ≡ Some other
        → (other.outer < k + 1) × (stack_at stacks (k + 1) ≡ other.level ∷ stack_at stacks other.outer)) (sym pushed) built;
  }

-- what is entered keeps each stack once
pub once_entered : (old : List StackedLevel) (entry : StackedLevel) (new : List StackedLevel) → IsOnce old → entry.outer < length (stacks_of old)
    → IsEntered old entry new
    → IsOnce new
once_entered old entry new once held entered = by entered.is
  where
    by : (new ≡ old) ⊎ ((new ≡ old ++ entry ∷ []) × ((k : ℕ) → slice_get old k ≡ Some entry → ⊥)) → IsOnce new
    by (inl same) = subst IsOnce (sym same) once
    by (inr more) = subst IsOnce (sym more.0) (once_pushed old once entry held more.1)

-- the stacks that were there stay
pub grows_entered : (old : List StackedLevel) (entry : StackedLevel) (new : List StackedLevel) → IsEntered old entry new
    → StacksGrow (stacks_of old) (stacks_of new)
grows_entered old entry new entered = by entered.is
  where
    by : (new ≡ old) ⊎ ((new ≡ old ++ entry ∷ []) × ((k : ℕ) → slice_get old k ≡ Some entry → ⊥)) → StacksGrow (stacks_of old) (stacks_of new)
    by (inl same) = record { more = []; is = ap stacks_of same ∙ sym (append-nil (stacks_of old)) }
    by (inr more) = record { more = (entry.level ∷ stack_at (stacks_of old) entry.outer) ∷ []; is = ap stacks_of more.0 ∙ stacked_push ([] ∷ []) old entry }

pub kept_stack : (old new : List (List Level)) (number : ℕ) → StacksGrow old new → number < length old → stack_at new number ≡ stack_at old number
kept_stack old new number grows held = ap (λ s. stack_at s number) grows.is ∙ get_or_append_left old grows.more [] number held

pub kept_held : (old new : List (List Level)) (number : ℕ) → StacksGrow old new → number < length old → number < length new
kept_held old new number grows held = let e = ap length grows.is ∙ length-append old grows.more in omega arith

-- the stack of an entry that is there
pub entry_stack : (entries : List StackedLevel) (index : ℕ) (entry : StackedLevel) → IsOnce entries → slice_get entries index ≡ Some entry
    → stack_at (stacks_of entries) (index + 1) ≡ entry.level ∷ stack_at (stacks_of entries) entry.outer
entry_stack entries index entry once h = (once.built index entry h).1

pub entry_held : (entries : List StackedLevel) (index : ℕ) (entry : StackedLevel) → slice_get entries index ≡ Some entry
    → index + 1 < length (stacks_of entries)
entry_held entries index entry h = let lt = some_within entries index entry h in let e = length-stacks_of entries in omega arith

-- stacks are the same where their numbers are
pub same_numbers : (entries : List StackedLevel) → IsOnce entries → (i j : ℕ) → i < length (stacks_of entries) → j < length (stacks_of entries)
    → nat_eq i j ≡ same_levels (stack_at (stacks_of entries) i) (stack_at (stacks_of entries) j)
same_numbers entries once i j held_i held_j = by (nat_eq i j) refl (same_levels (stack_at (stacks_of entries) i) (stack_at (stacks_of entries) j)) refl
  where
    by : (a : Bool) → nat_eq i j ≡ a → (b : Bool) → same_levels (stack_at (stacks_of entries) i) (stack_at (stacks_of entries) j) ≡ b → a ≡ b
    by true h true k = refl
    by false h false k = refl
    by true h false k = absurd (true≢false (sym (levels_itself (stack_at (stacks_of entries) i))
        ∙ ap (λ n. same_levels (stack_at (stacks_of entries) i) (stack_at (stacks_of entries) n)) (eqb-true i j h) ∙ k))
    by false h true k = absurd (true≢false
        (sym (eq-eqb i j (once.differ i j held_i held_j (same_levels_tells (stack_at (stacks_of entries) i) (stack_at (stacks_of entries) j) k))) ∙ h))

-- the number of the empty stack has no mark, and each other one has
pub no_mark : (entries : List StackedLevel) (in_create : Bool) (outer : ℕ) → (1 ≤ outer → ⊥)
    → shape_outside in_create (stack_at (stacks_of entries) outer) ≡ None
no_mark entries in_create zero h = ap (shape_outside in_create) (first_stack entries)
no_mark entries in_create (suc outer) h = absurd (h (omega arith))

pub mark_kept : (entries : List StackedLevel) (outer index : ℕ) → outer < length (stacks_of entries) → 1 ≤ outer → index + 1 ≡ outer
    → let none : Option StackedLevel = None in (none ≡ slice_get entries index) → ⊥
mark_kept entries outer index held one is h =
    let count = length-stacks_of entries in
    let here = there entries index (omega arith) in
    none_some here.0 (h ∙ here.1)

pub mark_held : (entries : List StackedLevel) (entry : StackedLevel) (outer index : ℕ) → IsOnce entries → outer < length (stacks_of entries) → index + 1 ≡ outer
    → Some entry ≡ slice_get entries index → entry.outer < length (stacks_of entries)
mark_held entries entry outer index once held is h =
    let earlier = (once.built index entry (sym h)).0 in
    omega arith

-- one stack more, or none
pub more_entered : (old new : List StackedLevel) (entry : StackedLevel) → IsEntered old entry new → length (stacks_of new) ≤ length (stacks_of old) + 1
more_entered old new entry entered = more_of entered.is where
  more_of : (new ≡ old) ⊎ ((new ≡ old ++ entry ∷ []) × ((k : ℕ) → slice_get old k ≡ Some entry → ⊥)) → length (stacks_of new) ≤ length (stacks_of old) + 1
  more_of (inl same) = let e = ap (λ s. length (stacks_of s)) same in omega arith
  more_of (inr pushed) =
      let e = ap length pushed.0 in
      let f = length-append old (entry ∷ []) in
      let g = length-stacks_of old in
      let h = length-stacks_of new in
      omega arith
