-- The test of equal shapes tells that they are equal.
use Rattle.std.proofs.Common.{◌≡◌, ◌≢◌, ℕ, Bool, true, false, ◌&&◌, nat_eq, List, [], ◌∷◌, refl, sym, ap, ◌∙◌, true≢false}
use Rattle.std.proofs.lemmas.Bool.{eqb-true, eq-eqb}
use Rattle.icn_verify.specs.declared.shape.Level.{Level}
use Rattle.icn_verify.specs.declared.shape.LevelKind.{LevelKind}
use Rattle.icn_verify.specs.declared.shape.LevelKind.TheVariants.{Base, Plain, Limit}
use Rattle.icn_verify.specs.Shapes.{PlainShape, same_kind, same_level}
use Rattle.icn_verify.specs.Passing.{bool_eq, same_levels, same_shape}

-- both parts of a test
pub and_parts : (a b : Bool) → (a && b) ≡ true → (a ≡ true) × (b ≡ true)
and_parts true b h = (refl, h)
and_parts false b h = absurd (true≢false (sym h))

both_hold : (a b : Bool) → a ≡ true → b ≡ true → (a && b) ≡ true
both_hold true b h k = k
both_hold false b h k = absurd (true≢false (sym h))

bools : (a b : Bool) → bool_eq a b ≡ true → a ≡ b
bools true true h = refl
bools true false h = absurd (true≢false (sym h))
bools false true h = absurd (true≢false (sym h))
bools false false h = refl

bool_itself : (a : Bool) → bool_eq a a ≡ true
bool_itself true = refl
bool_itself false = refl

kinds : (a b : LevelKind) → same_kind a b ≡ true → a ≡ b
kinds Base Base h = refl
kinds Base Plain h = absurd (true≢false (sym h))
kinds Base Limit h = absurd (true≢false (sym h))
kinds Plain Base h = absurd (true≢false (sym h))
kinds Plain Plain h = refl
kinds Plain Limit h = absurd (true≢false (sym h))
kinds Limit Base h = absurd (true≢false (sym h))
kinds Limit Plain h = absurd (true≢false (sym h))
kinds Limit Limit h = refl

kind_itself : (a : LevelKind) → same_kind a a ≡ true
kind_itself Base = refl
kind_itself Plain = refl
kind_itself Limit = refl

level_of : (kind kind' : LevelKind) (operands operands' scans scans' : ℕ) → kind ≡ kind' → operands ≡ operands'
    → scans ≡ scans' → let one : Level = record { kind = kind; operands = operands; scans = scans } in
    let other : Level = record { kind = kind'; operands = operands'; scans = scans' } in one ≡ other
level_of kind kind' operands operands' scans scans' h k l = λ i. record { kind = h i; operands = k i; scans = l i }

pub same_level_tells : (a b : Level) → same_level a b ≡ true → a ≡ b
same_level_tells a b h =
    let first = and_parts (same_kind a.kind b.kind && nat_eq a.operands b.operands) (nat_eq a.scans b.scans) h in
    let second = and_parts (same_kind a.kind b.kind) (nat_eq a.operands b.operands) first.0 in
    level_of a.kind b.kind a.operands b.operands a.scans b.scans (kinds a.kind b.kind second.0) (eqb-true a.operands b.operands second.1)
    (eqb-true a.scans b.scans first.1)

pub level_itself : (a : Level) → same_level a a ≡ true
level_itself a = both_hold _ _ (both_hold _ _ (kind_itself a.kind) (eq-eqb a.operands a.operands refl)) (eq-eqb a.scans a.scans refl)

pub same_levels_tells : (a b : List Level) → same_levels a b ≡ true → a ≡ b
same_levels_tells [] [] h = refl
same_levels_tells [] (y ∷ ys) h = absurd (true≢false (sym h))
same_levels_tells (x ∷ xs) [] h = absurd (true≢false (sym h))
same_levels_tells (x ∷ xs) (y ∷ ys) h =
    let parts = and_parts (same_level x y) (same_levels xs ys) h in
    let front = same_level_tells x y parts.0 in
    let behind = same_levels_tells xs ys parts.1 in
    λ i. front i ∷ behind i

pub levels_itself : (a : List Level) → same_levels a a ≡ true
levels_itself [] = refl
levels_itself (x ∷ xs) = both_hold _ _ (level_itself x) (levels_itself xs)

pub same_shape_tells : (a b : PlainShape) → same_shape a b ≡ true → a ≡ b
same_shape_tells a b h =
    let first = and_parts (bool_eq a.in_create b.in_create && same_level a.inner b.inner) (same_levels a.outer b.outer) h in
    let second = and_parts (bool_eq a.in_create b.in_create) (same_level a.inner b.inner) first.0 in
    let create = bools a.in_create b.in_create second.0 in
    let inner = same_level_tells a.inner b.inner second.1 in
    let outer = same_levels_tells a.outer b.outer first.1 in
    λ i. record { in_create = create i; inner = inner i; outer = outer i }

pub shape_itself : (a : PlainShape) → same_shape a a ≡ true
shape_itself a = both_hold _ _ (both_hold _ _ (bool_itself a.in_create) (level_itself a.inner)) (levels_itself a.outer)

pub same_shapes : (a b : PlainShape) → a ≡ b → same_shape a b ≡ true
same_shapes a b h = ap (same_shape a) (sym h) ∙ shape_itself a

-- shapes that the test tells apart differ
pub differ_by_test : (a b : PlainShape) → same_shape a b ≡ false → a ≢ b
differ_by_test a b h same = true≢false (sym (same_shapes a b same) ∙ h)

pub is_true_or_false : (b : Bool) → (b ≡ true → ⊥) → b ≡ false
is_true_or_false true h = absurd (h refl)
is_true_or_false false h = refl
