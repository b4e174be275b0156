-- What sound instructions give.
use Rattle.std.proofs.Common.{◌≡◌, ℕ, zero, suc, ◌<◌, ◌≤◌, Bool, true, false, ◌⊎◌, inl, inr, List, [], ◌∷◌, length, slice_get, Option, None, Some, IfSome, MatchOption, Result, Ok, Err, IfOk, refl, sym, subst, ◌∙◌, arith}
use Rattle.std.proofs.lemmas.Bool.{cases_lt}
use Rattle.icn_tree.specs.declared.rule.Rule.{Rule}
use Rattle.icn_tree.specs.declared.rule.Rule.TheVariants.{V1, V2, V3, V4, V5}
use Rattle.icn_code.specs.declared.instr.Instr.{Instr}
use Rattle.icn_verify.specs.Shapes.{PlainShape, start_shape, look_of}
use Rattle.icn_verify.specs.Rows.{row_of, lacks, meets, fits, after, next, forward, back, strays}
use Rattle.icn_verify.specs.ReachingShapes.{Reaches, starts, goes, AreWithin}
use Rattle.icn_verify.specs.Faults.{Breaks, IsFirstOf, IsSound}
use Rattle.icn_verify.specs.Given.{IsFine, HasShapes}
use Rattle.icn_verify.specs.Passing.{Arrival, unseen, one, several, seen_at, same_shape, fault_of}
use Rattle.icn_verify.proofs.SameShapes.{is_true_or_false, same_shape_tells, differ_by_test}
use Rattle.icn_verify.proofs.ShapeSums.{Sums}
use Rattle.icn_verify.proofs.InstructionWays.{next_address, forward_past, back_upto}
use Rattle.icn_verify.proofs.FirstFaults.{IsPassed, IsOutcome, outcome, fit_both, reaches_within}

none_some : {A : Type 0} (a : A) → let none : Option A = None in (none ≡ Some a) → ⊥
none_some a h = cc

some_same : {A : Type 0} (a b : A) → Some a ≡ Some b → a ≡ b
some_same a b h = cc

-- before the end something stands
there : {A : Type 0} (xs : List A) (place : ℕ) → place < length xs → (x : A) × (slice_get xs place ≡ Some x)
there [] place lt = absurd (omega arith)
there (x ∷ xs) zero lt = (x, refl)
there (x ∷ xs) (suc place) lt = there xs place (omega arith)

-- the shape that was seen alone
pub shape_seen : Arrival → Option PlainShape
shape_seen unseen = None
shape_seen (one only) = Some only
shape_seen (several n) = None

-- a place has at most one shape where no two were found to differ
pub one_shape : (instrs : List Instr) (place : ℕ) → (Breaks instrs place V2 → ⊥) → (a b : PlainShape) → Reaches instrs place a → Reaches instrs place b → a ≡ b
one_shape instrs place sound a b reaches_a reaches_b = by (same_shape a b) refl
  where
    by : (t : Bool) → same_shape a b ≡ t → a ≡ b
    by true is = same_shape_tells a b is
    by false is = absurd (sound (inl (record { one = a; other = b; reaches = reaches_a; reaches_too = reaches_b; differ = differ_by_test a b is })))

module _ (instrs : List Instr) (labels : AreWithin instrs) (passed : IsPassed instrs) where
  pub shapes : ℕ → Option PlainShape
  shapes place = shape_seen (seen_at passed.table place)

  -- what is shown of the shapes is what reaches
  shows : (place : ℕ) (shape : PlainShape) → Reaches instrs place shape → (seen : Arrival) → Sums (Reaches instrs place) seen → shape_seen seen ≡ Some shape
  unfolding shape_seen
  shows place shape reaches unseen sums = absurd (sums shape reaches)
  shows place shape reaches (one only) sums = λ i. Some (sym (sums.alone shape reaches) i)
  shows place shape reaches (several n) sums = absurd (passed.sound place V2
      (inl (record { one = sums.first; other = sums.other; reaches = sums.first_came; reaches_too = sums.other_came; differ = sums.differ })))

  shown : (place : ℕ) (shape : PlainShape) (seen : Arrival) → Sums (Reaches instrs place) seen → shape_seen seen ≡ Some shape → Reaches instrs place shape
  unfolding shape_seen
  shown place shape unseen sums h = absurd (none_some shape h)
  shown place shape (one only) sums h = subst (Reaches instrs place) (some_same only shape h) sums.came
  shown place shape (several n) sums h = absurd (none_some shape h)

  has : (place : ℕ) (shape : PlainShape) → Reaches instrs place shape → shapes place ≡ Some shape
  unfolding shapes
  has place shape reaches = shows place shape reaches (seen_at passed.table place) (passed.sums place)

  -- whether a shape reaches can be told
  told : (place : ℕ) (shape : PlainShape) (seen : Arrival) → Sums (Reaches instrs place) seen → Reaches instrs place shape ⊎ (Reaches instrs place shape → ⊥)
  told place shape unseen sums = inr (sums shape)
  told place shape (several n) sums = absurd (passed.sound place V2
      (inl (record { one = sums.first; other = sums.other; reaches = sums.first_came; reaches_too = sums.other_came; differ = sums.differ })))
  told place shape (one only) sums = by (same_shape only shape) refl
    where
      by : (t : Bool) → same_shape only shape ≡ t → Reaches instrs place shape ⊎ (Reaches instrs place shape → ⊥)
      by true is = inl (subst (Reaches instrs place) (same_shape_tells only shape is) sums.came)
      by false is = inr (λ reaches. differ_by_test only shape is (sym (sums.alone shape reaches)))

  stands : (place : ℕ) (shape : PlainShape) → Reaches instrs place shape → (found : Option Instr) → slice_get instrs place ≡ found
      → (instr : Instr) × (slice_get instrs place ≡ Some instr)
  stands place shape reaches (Some instr) h = (instr, h)
  stands place shape reaches None h = absurd (passed.sound place V5 (record { shape = shape; reaches = reaches; ends = ends (cases_lt place (length instrs)) }))
    where
      le : place ≤ length instrs
      le = reaches_within instrs labels place shape reaches

      ends : (place < length instrs) ⊎ (length instrs ≤ place) → place ≡ length instrs
      ends (inl lt) = absurd (none_some (there instrs place lt).0 (sym h ∙ (there instrs place lt).1))
      ends (inr ge) = let within = le in omega arith

  module _ (place : ℕ) (shape : PlainShape) (reaches : Reaches instrs place shape) (instr : Instr) (here : slice_get instrs place ≡ Some instr) where
    has_enough : lacks instr shape ≡ false
    has_enough = is_true_or_false (lacks instr shape)
        (λ h. passed.sound place V1 (record { instr = instr; shape = shape; met = record { stands = here; reaches = reaches }; lacking = h }))

    goes_right : strays instr place ≡ false
    goes_right = is_true_or_false (strays instr place)
        (λ h. passed.sound place V3 (record { instr = instr; shape = shape; met = record { stands = here; reaches = reaches }; straying = h }))

    is_met : (b : Bool) → meets (row_of instr).asks (look_of shape) ≡ b → b ≡ true
    is_met true h = refl
    is_met false h = absurd (passed.sound place V4 (record { instr = instr; shape = shape; met = record { stands = here; reaches = reaches }; unmet = h }))

    fit : fits shape instr ≡ true
    fit = fit_both (lacks instr shape) (meets (row_of instr).asks (look_of shape)) has_enough (is_met (meets (row_of instr).asks (look_of shape)) refl)

    on : (to : Option (ℕ × PlainShape)) → next instr place shape ≡ to → IfSome to (λ p. shapes p.0 ≡ Some p.1)
    on None h = tt
    on (Some to) h =
        let is = next_address (row_of instr).way place (after (row_of instr) shape) to.0 to.1 h in
        has to.0 to.1 (goes place shape to.0 to.1 reaches (record { instr = instr; stands = here; fit = fit; later = omega arith; leads = inl h }))

    onward : (to : Option (ℕ × PlainShape)) → forward instr shape ≡ to → IfSome to (λ p. (place < p.0) × (shapes p.0 ≡ Some p.1))
    onward None h = tt
    onward (Some to) h =
        let later = forward_past (row_of instr).way place shape (after (row_of instr) shape) to.0 to.1 goes_right h in
        (later, has to.0 to.1 (goes place shape to.0 to.1 reaches (record { instr = instr; stands = here; fit = fit; later = later; leads = inr h })))

    backward : (to : Option (ℕ × PlainShape)) → back instr shape ≡ to → IfSome to (λ p. (p.0 ≤ place) × (shapes p.0 ≡ Some p.1))
    backward None h = tt
    backward (Some to) h = by (told to.0 to.1 (seen_at passed.table to.0) (passed.sums to.0))
      where
        earlier : to.0 ≤ place
        earlier = back_upto (row_of instr).way place shape to.0 to.1 goes_right h

        by : Reaches instrs to.0 to.1 ⊎ (Reaches instrs to.0 to.1 → ⊥) → (to.0 ≤ place) × (shapes to.0 ≡ Some to.1)
        by (inl there') = (earlier, has to.0 to.1 there')
        by (inr absent) = absurd (passed.sound place V2 (inr (record {
          instr = instr;
          shape = shape;
          met = record { stands = here; reaches = reaches };
          label = to.0;
          wanted = to.1;
          leads = h;
          earlier = earlier;
          absent = absent;
        })))

    fine : IsFine instrs shapes place shape
    fine = record {
      instr = instr;
      stands = here;
      fit = fit;
      on = on (next instr place shape) refl;
      onward = onward (forward instr shape) refl;
      backward = backward (back instr shape) refl;
    }

  pub has_shapes : HasShapes instrs shapes
  unfolding shapes
  has_shapes = record { start = has 0 (start_shape false) starts; each = each }
    where
      each : (place : ℕ) (shape : PlainShape) → shapes place ≡ Some shape → IsFine instrs shapes place shape
      each place shape h =
          let reaches = shown place shape (seen_at passed.table place) (passed.sums place) h in
          let here = stands place shape reaches (slice_get instrs place) refl in
          fine place shape reaches here.0 here.1

-- instructions that break no rule have shapes
pub sound_shapes : (instrs : List Instr) → AreWithin instrs → IsSound instrs → (shapes' : ℕ → Option PlainShape) × HasShapes instrs shapes'
sound_shapes instrs labels sound = by (fault_of instrs) (outcome instrs labels)
  where
    by : (found : Option (Rule × ℕ)) → IsOutcome instrs found → (shapes' : ℕ → Option PlainShape) × HasShapes instrs shapes'
    by None passed = (shapes instrs labels passed, has_shapes instrs labels passed)
    by (Some found) first = absurd (sound found.1 found.0 first.breaks)

-- what the pass finds, said of the instructions
pub found_means : (instrs : List Instr) → AreWithin instrs → (found : Option (Rule × ℕ)) → found ≡ fault_of instrs
    → MatchOption found (IsSound instrs) (λ f. IsFirstOf instrs f.0 f.1)
found_means instrs labels found is = by found (subst (IsOutcome instrs) (sym is) (outcome instrs labels))
  where
    by : (f : Option (Rule × ℕ)) → IsOutcome instrs f → MatchOption f (IsSound instrs) (λ g. IsFirstOf instrs g.0 g.1)
    by None passed = passed.sound
    by (Some g) first = first

pub found_answer : {E : Type 0} (instrs : List Instr) → AreWithin instrs → (result : Result (Option (Rule × ℕ)) E)
    → IfOk result (λ found. found ≡ fault_of instrs) → IfOk result (λ found. MatchOption found (IsSound instrs) (λ f. IsFirstOf instrs f.0 f.1))
found_answer instrs labels (Ok found) is = found_means instrs labels found is
found_answer instrs labels (Err e) is = tt
