-- What assigning to a part of a text, and to keywords, comes to.
use Rattle.std.proofs.Common.{◌≡◌, ◌∙◌, refl, sym, ap, subst, ℕ, Bool, true, false, List, length, Option, None, Some, Result, Ok, Err}
use Rattle.std.specs.Prelude.{IsErrAnd, ◌%◌, ◌^◌, ℤ, is_some}
use Rattle.std.specs.Int.{cast_unsigned, w64}
use Rattle.icn_value.specs.Values.{Value, Text, Root, Variable, Whole, Part, Random, ErrorCount, Subject}
use Rattle.icn_value.specs.Store.{Setting, having_random, having_error, having_subject}
use Rattle.icn_defs.specs.Calls.{GoesOn, Passes}
use Rattle.icn_defs.specs.Conversions.{integer_of, text_of}
use Rattle.icn_defs.specs.ReadAndAssign.{assigns_keyword, assigns_or, assigns_root, reads_text, with_part, undoes}
use Rattle.icn_defs.specs.Rows.{Row, Finds, changes, costs_bytes, costs_text, present, wrong}
use Rattle.icn_heap.specs.Extents.{Extent}
use Rattle.icn_vars.specs.declared.stop.Stop.{Stop}
use Rattle.icn_vars.specs.declared.stop.Stop.TheVariants.{Error as StopError, NoMemory}
use Rattle.icn_vars.specs.declared.assignment.Assignment.{Assignment}
use Rattle.icn_vars.specs.Assignments.{AssignsAs, RootAssigned}
use Rattle.icn_vars.specs.Stops.{StopsFinding, StopsPassing}

pub none_is : {A : Type 0} (found : Option A) → is_some found ≡ false → found ≡ None
none_is None is = refl
none_is (Some thing) is = cc

pub some_is : {A : Type 0} (found : Option A) → is_some found ≡ true → (thing : A) × (found ≡ Some thing)
some_is None is = absurd (never is)
  where
    never : false ≡ true → ⊥
    never is = cc
some_is (Some thing) is = (thing, refl)

-- The subject

-- a text that is made for it
pub subject_made : (value : Value) (text : List ℕ) (s t : Setting) → text_of value ≡ Some text → Passes (costs_text value) s t
    → (refused next : Row) → assigns_keyword refused Subject value next s ≡ next (having_subject text t)
subject_made value text s t has passes refused next =
    ap (λ found. present found 103 (Some value) (λ text. costs_text value (changes (having_subject text) next)) s) has
    ∙ passes (changes (having_subject text) next)

pub subject_stopped : (all : Extent) (value : Value) (s t : Setting) (stop : Stop) → is_some (text_of value) ≡ true
    → StopsPassing all (costs_text value) s t stop
    → (refused : Row) → StopsPassing all (assigns_keyword refused Subject value) s t stop
subject_stopped all value s t (StopError number offending) has is refused = λ next.
    let found = some_is (text_of value) has in
    ap (λ found. present found 103 (Some value) (λ text. costs_text value (changes (having_subject text) next)) s) found.1
    ∙ is (changes (having_subject found.0) next)
subject_stopped all value s t NoMemory has is refused = tt

-- the state of the random numbers
pub random_assigned : (value : Value) (n : ℤ) (state : ℕ) (s : Setting) → integer_of value ≡ Some n → state ≡ cast_unsigned w64 n % 2 ^ 31
    → (refused next : Row) → assigns_keyword refused Random value next s ≡ next (having_random state s)
random_assigned value n state s has is refused next =
    ap (λ found. present found 101 (Some value) (λ n. changes (having_random (cast_unsigned w64 n % 2 ^ 31)) next) s) has
    ∙ sym (ap (λ state. next (having_random state s)) is)

-- how many errors become failure
pub error_assigned : (value : Value) (n count : ℤ) (s : Setting) → integer_of value ≡ Some n → count ≡ n
    → (refused next : Row) → assigns_keyword refused ErrorCount value next s ≡ next (having_error count s)
error_assigned value n count s has is refused next =
    ap (λ found. present found 101 (Some value) (λ n. changes (having_error n) next) s) has
    ∙ sym (ap (λ count. next (having_error count s)) is)

-- Parts

module _ (all : Extent) (root : Root) (place size : ℕ) (value : Value) (new : List ℕ) (has : text_of value ≡ Some new) where
  rest : Row → (Variable → Row) → List ℕ → Row
  rest refused next text = costs_text value (costs_bytes (length (with_part text place size new))
      (assigns_root refused root (Text (with_part text place size new)) (next (Part root place (length new)))))

  begun : (s : Setting) (refused : Row) (next : Variable → Row)
      → assigns_or refused (Part root place size) value next s ≡ reads_text root place size (rest refused next) s
  unfolding rest
  begun s refused next =
      ap (λ found. present found 103 (Some value)
      (λ (new : List ℕ). reads_text root place size (λ text. costs_text value (costs_bytes (length (with_part text place size new))
      (assigns_root refused root (Text (with_part text place size new)) (next (Part root place (length new))))))) s) has

  pub part_unread : (s t : Setting) (stop : Stop) → StopsFinding all (reads_text root place size) s t stop → (refused : Row)
      → StopsFinding all (assigns_or refused (Part root place size) value) s t stop
  part_unread s t (StopError number offending) is refused = λ next. begun s refused next ∙ is (rest refused next)
  part_unread s t NoMemory is refused = tt

  pub part_text_stops : (text : List ℕ) (s t : Setting) (stop : Stop) → GoesOn (reads_text root place size) s text s
      → StopsPassing all (costs_text value) s t stop
      → (refused : Row) → StopsFinding all (assigns_or refused (Part root place size) value) s t stop
  unfolding rest
  part_text_stops text s t (StopError number offending) read is refused = λ next.
      begun s refused next ∙ (read (rest refused next)
      ∙ is (costs_bytes (length (with_part text place size new))
      (assigns_root refused root (Text (with_part text place size new)) (next (Part root place (length new))))))
  part_text_stops text s t NoMemory read is refused = tt

  pub part_bytes_stop : (text : List ℕ) (s t u : Setting) (stop : Stop) → GoesOn (reads_text root place size) s text s → Passes (costs_text value) s t
      → StopsPassing all (costs_bytes (length (with_part text place size new))) t u stop → (refused : Row)
      → StopsFinding all (assigns_or refused (Part root place size) value) s u stop
  unfolding rest
  part_bytes_stop text s t u (StopError number offending) read made is refused = λ next.
      begun s refused next ∙ (read (rest refused next)
      ∙ (made (costs_bytes (length (with_part text place size new))
      (assigns_root refused root (Text (with_part text place size new)) (next (Part root place (length new)))))
      ∙ is (assigns_root refused root (Text (with_part text place size new)) (next (Part root place (length new))))))
  part_bytes_stop text s t u NoMemory read made is refused = tt

  pub part_built : (text : List ℕ) (s t u : Setting) → GoesOn (reads_text root place size) s text s → Passes (costs_text value) s t
      → Passes (costs_bytes (length (with_part text place size new))) t u
      → (refused : Row) (next : Variable → Row) → assigns_or refused (Part root place size) value next s
      ≡ assigns_root refused root (Text (with_part text place size new)) (next (Part root place (length new))) u
  unfolding rest
  part_built text s t u read made built refused next =
      begun s refused next ∙ (read (rest refused next)
      ∙ (made (costs_bytes (length (with_part text place size new))
      (assigns_root refused root (Text (with_part text place size new)) (next (Part root place (length new)))))
      ∙ built (assigns_root refused root (Text (with_part text place size new)) (next (Part root place (length new))))))

-- the root of a part is assigned: by what it was before the heap grew
pub root_as : (all : Extent) (root root' : Root) (value value' : Value) (u t : Setting) (result : Result Bool Stop) → root' ≡ root → value' ≡ value
    → RootAssigned all (λ refused. assigns_root refused root' value') u t result → RootAssigned all (λ refused. assigns_root refused root value) u t result
root_as all root root' value value' u t result same_root same_value is =
    subst (λ v. RootAssigned all (λ refused. assigns_root refused root v) u t result) same_value
    (subst (λ r. RootAssigned all (λ refused. assigns_root refused r value') u t result) same_root is)

-- a row that comes to the assignment of a root stops where that does
pub root_stops : (all : Extent) (row : (Variable → Row) → Row) (part : Row → Row) (now : Variable) (s u t : Setting) (stop : Stop)
    → ((next : Variable → Row) → row next s ≡ part (next now) u)
    → StopsPassing all part u t stop → StopsFinding all row s t stop
root_stops all row part now s u t (StopError number offending) comes is = λ next. comes next ∙ is (next now)
root_stops all row part now s u t NoMemory comes is = tt

-- Whole variables

pub whole_done : (root : Root) (value : Value) (s t : Setting) (now : Variable) → now ≡ Whole root
    → ((refused next : Row) → assigns_root refused root value next s ≡ next t)
    → (refused : Row) (next : Variable → Row) → assigns_or refused (Whole root) value next s ≡ next now t
whole_done root value s t now same is refused next = is refused (next (Whole root)) ∙ ap (λ v. next v t) (sym same)

pub whole_refused : (root : Root) (value : Value) (s t : Setting) → ((refused next : Row) → assigns_root refused root value next s ≡ refused t)
    → (refused : Row) (next : Variable → Row) → assigns_or refused (Whole root) value next s ≡ refused t
whole_refused root value s t is refused next = is refused (next (Whole root))

pub whole_stops : (all : Extent) (root : Root) (value : Value) (s t : Setting) (stop : Stop)
    → ((refused : Row) → StopsPassing all (assigns_root refused root value) s t stop)
    → (refused : Row) → StopsFinding all (assigns_or refused (Whole root) value) s t stop
whole_stops all root value s t (StopError number offending) is refused = λ next. is refused (next (Whole root))
whole_stops all root value s t NoMemory is refused = tt

-- where an assignment stopped, that is the answer

pub assign_err : (all : Extent) (assigns : Row → Finds Variable) (s t : Setting) (stop : Stop) (result : Result Assignment Stop)
    → IsErrAnd result (λ other. other ≡ stop)
    → ((refused : Row) → StopsFinding all (assigns refused) s t stop) → AssignsAs all assigns s t result
assign_err all assigns s t stop (Ok done) same is = absurd same
assign_err all assigns s t stop (Err other) same is = λ refused. subst (StopsFinding all (assigns refused) s t) (sym same) (is refused)

-- a root that was assigned, or refused
pub root_true : (all : Extent) (assigns : Row → Row → Row) (s t : Setting) (done : Bool) → done ≡ true → RootAssigned all assigns s t (Ok done)
    → (refused next : Row) → assigns refused next s ≡ next t
root_true all assigns s t done is assigned =
    let true_is : RootAssigned all assigns s t (Ok true) = subst (λ b. RootAssigned all assigns s t (Ok b)) is assigned in
    true_is

pub root_false : (all : Extent) (assigns : Row → Row → Row) (s t : Setting) (done : Bool) → done ≡ false → RootAssigned all assigns s t (Ok done)
    → (refused next : Row) → assigns refused next s ≡ refused t
root_false all assigns s t done is assigned =
    let false_is : RootAssigned all assigns s t (Ok false) = subst (λ b. RootAssigned all assigns s t (Ok b)) is assigned in
    false_is

-- Undoing

pub undo_stops : (all : Extent) (variable : Variable) (old : Value) (s t : Setting) (stop : Stop)
    → ((refused : Row) → StopsFinding all (assigns_or refused variable old) s t stop) → StopsPassing all (undoes variable old) s t stop
undo_stops all variable old s t (StopError number offending) is = λ next. is (wrong 205 None) (λ now. next)
undo_stops all variable old s t NoMemory is = tt
