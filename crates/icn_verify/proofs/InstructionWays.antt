-- Where the ways of the instructions lead.
use Rattle.std.proofs.Common.{◌≡◌, ℕ, ◌+◌, ◌<◌, ◌≤◌, true, false, nat_le, nat_lt, Option, None, Some, ap, arith}
use Rattle.std.proofs.lemmas.Bool.Decides.{nat_tests}
use Rattle.icn_verify.specs.declared.rows.Way.{Way}
use Rattle.icn_verify.specs.declared.rows.Way.TheVariants.{On, Ends, Fails, Jumps, Returns, Retries, Skips, Forks}
use Rattle.icn_verify.specs.Shapes.{PlainShape, start_shape, before_mark}
use Rattle.icn_verify.specs.Rows.{next_by, forward_by, back_by, strays_by, is_within_by, with_label}

-- a way goes to this place
place_of : Option (ℕ × PlainShape) → ℕ
place_of None = 0
place_of (Some to) = to.0

none_some : {A : Type 0} (a : A) → let none : Option A = None in (none ≡ Some a) → ⊥
none_some a h = cc

label_is : (label to : ℕ) (shape carried : PlainShape) → let p : ℕ × PlainShape = (label, shape) in let q : ℕ × PlainShape = (to, carried) in
    (Some p ≡ Some q) → label ≡ to
unfolding place_of
label_is label to shape carried h = ap place_of h

-- the next instruction lies after
pub next_address : (way : Way) (place : ℕ) (left : PlainShape) (to : ℕ) (carried : PlainShape) → next_by way place left ≡ Some (to, carried) → place + 1 ≡ to
next_address On place left to carried h = label_is (place + 1) to left carried h
next_address Ends place left to carried h = absurd (none_some (to, carried) h)
next_address (Fails label) place left to carried h = label_is (place + 1) to left carried h
next_address (Jumps label) place left to carried h = absurd (none_some (to, carried) h)
next_address (Returns label) place left to carried h = absurd (none_some (to, carried) h)
next_address (Retries label) place left to carried h = label_is (place + 1) to left carried h
next_address (Skips label) place left to carried h = label_is (place + 1) to left carried h
next_address (Forks label) place left to carried h = label_is (place + 1) to (start_shape true) carried h

not_at_most : (label place : ℕ) → nat_le label place ≡ false → place < label
not_at_most label place h = grind (arith, nat_tests)

not_past : (place label : ℕ) → nat_lt place label ≡ false → label ≤ place
not_past place label h = grind (arith, nat_tests)

past : (place label to : ℕ) → nat_le label place ≡ false → label ≡ to → place < to
past place label to h is = let lt = not_at_most label place h in omega arith

-- a label that doesn't stray lies after, or doesn't
pub forward_past : (way : Way) (place : ℕ) (shape left : PlainShape) (to : ℕ) (carried : PlainShape) → strays_by way place ≡ false
    → forward_by way shape left ≡ Some (to, carried) → place < to
forward_past On place shape left to carried s h = absurd (none_some (to, carried) h)
forward_past Ends place shape left to carried s h = absurd (none_some (to, carried) h)
forward_past (Fails label) place shape left to carried s h = past place label to s (label_is label to shape carried h)
forward_past (Jumps label) place shape left to carried s h = past place label to s (label_is label to left carried h)
forward_past (Returns label) place shape left to carried s h = absurd (none_some (to, carried) h)
forward_past (Retries label) place shape left to carried s h = absurd (none_some (to, carried) h)
forward_past (Skips label) place shape left to carried s h = past place label to s (label_is label to left carried h)
forward_past (Forks label) place shape left to carried s h = past place label to s (label_is label to left carried h)

mapped_is : (label to : ℕ) (wanted : Option PlainShape) (carried : PlainShape) → with_label label wanted ≡ Some (to, carried) → label ≡ to
mapped_is label to None carried h = absurd (none_some (to, carried) h)
mapped_is label to (Some wanted) carried h = label_is label to wanted carried h

upto : (place label to : ℕ) → nat_lt place label ≡ false → label ≡ to → to ≤ place
upto place label to h is = let le = not_past place label h in omega arith

pub back_upto : (way : Way) (place : ℕ) (shape : PlainShape) (to : ℕ) (wanted : PlainShape) → strays_by way place ≡ false
    → back_by way shape ≡ Some (to, wanted) → to ≤ place
back_upto On place shape to wanted s h = absurd (none_some (to, wanted) h)
back_upto Ends place shape to wanted s h = absurd (none_some (to, wanted) h)
back_upto (Fails label) place shape to wanted s h = absurd (none_some (to, wanted) h)
back_upto (Jumps label) place shape to wanted s h = absurd (none_some (to, wanted) h)
back_upto (Returns label) place shape to wanted s h = upto place label to s (label_is label to shape wanted h)
back_upto (Retries label) place shape to wanted s h = upto place label to s (mapped_is label to (before_mark shape) wanted h)
back_upto (Skips label) place shape to wanted s h = absurd (none_some (to, wanted) h)
back_upto (Forks label) place shape to wanted s h = absurd (none_some (to, wanted) h)

within_as : (label to count : ℕ) → nat_le label count ≡ true → label ≡ to → to ≤ count
within_as label to count h is = let le : label ≤ count = grind (arith, nat_tests) in omega arith

-- a label of a procedure is one of its places
pub forward_within : (way : Way) (count : ℕ) (shape left : PlainShape) (to : ℕ) (carried : PlainShape) → is_within_by way count ≡ true
    → forward_by way shape left ≡ Some (to, carried) → to ≤ count
forward_within On count shape left to carried s h = absurd (none_some (to, carried) h)
forward_within Ends count shape left to carried s h = absurd (none_some (to, carried) h)
forward_within (Fails label) count shape left to carried s h = within_as label to count s (label_is label to shape carried h)
forward_within (Jumps label) count shape left to carried s h = within_as label to count s (label_is label to left carried h)
forward_within (Returns label) count shape left to carried s h = absurd (none_some (to, carried) h)
forward_within (Retries label) count shape left to carried s h = absurd (none_some (to, carried) h)
forward_within (Skips label) count shape left to carried s h = within_as label to count s (label_is label to left carried h)
forward_within (Forks label) count shape left to carried s h = within_as label to count s (label_is label to left carried h)
