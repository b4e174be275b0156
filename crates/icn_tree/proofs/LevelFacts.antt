-- Facts about the levels.
use Rattle.std.proofs.Common.{◌≡◌, ℕ, suc, ◌<◌, ◌≤◌, Bool, true, false, cond, ◌⊎◌, inl, inr, is_some, Option, Some, None, refl, sym, ap, ◌∙◌, arith, eq-or-lt_of_le}
use Rattle.std.proofs.lemmas.Bool.{leb-false, lt-leb, false≢true}
use Rattle.std.proofs.lemmas.Option.{none-some}
use Rattle.icn_tree.specs.declared.token.Kind.{Kind}
use Rattle.icn_tree.specs.declared.token.Operator.{Operator}
use Rattle.icn_tree.specs.declared.token.Operator.TheVariants.{Ampersand, Dot}
use Rattle.icn_tree.specs.declared.tree.Infix.{Infix}
use Rattle.icn_tree.specs.declared.tree.Infix.TheVariants.{Plain, Augmented}
use Rattle.icn_tree.specs.Trees.{Tree, Prefix, Not, Binary, To}
use Rattle.icn_tree.specs.Levels.{operator_level, infix_level, infix_kind, groups_right, left_level, right_level, level_of, prefix_of, operator_begins, operator_goes_on, kind_goes_on, goes_on}
use Rattle.icn_tree.proofs.Reading.{is_dot}

-- the least level that what stands behind a tree must not go on with
abbrev pub edge : Tree → ℕ
edge (Binary place operator left right) = right_level (infix_level operator)
edge (To place from to by) = 5
edge (Prefix place operator operand) = 12
edge (Not place operand) = 12
edge _ = 14

up : (b : Bool) (level : ℕ) → level ≤ cond b level (suc level)
up true level = omega arith
up false level = omega arith

-- a tree's level is at most the level that must not go on behind it
pub level_edge : (tree : Tree) → level_of tree ≤ edge tree
level_edge (Binary place operator left right) = up (groups_right (infix_level operator)) (infix_level operator)
level_edge (To place from to by) = omega arith
level_edge (Prefix place operator operand) = omega arith
level_edge (Not place operand) = omega arith
level_edge _ = omega arith

pub goes_on_up : (low high : ℕ) → low ≤ high → (kind : Option Kind) → goes_on low kind ≡ false → goes_on high kind ≡ false
goes_on_up low high h None e = refl
goes_on_up low high h (Some kind) e = lt-leb high (kind_goes_on kind) (omega (arith, h, leb-false low (kind_goes_on kind) e))

past : (b : Bool) (low level : ℕ) → (b ≡ true → low < level) → low ≤ level → low < cond b level (suc level)
past true low level h g = h refl
past false low level h g = omega arith

other_level : (low level : ℕ) → groups_right low ≡ false → low ≤ level → groups_right level ≡ true → low < level
other_level low level e h g = ⊎_elim_level (eq-or-lt_of_le h)
  where
    ⊎_elim_level : (low ≡ level) ⊎ (low < level) → low < level
    ⊎_elim_level (inl same) = absurd (false≢true (sym e ∙ (ap groups_right same ∙ g)))
    ⊎_elim_level (inr less) = less

not_twelve : (low : ℕ) → groups_right low ≡ false → low ≤ 12 → low < 12
not_twelve low e h = other_level low 12 e h refl

pub left_edge : (low : ℕ) (tree : Tree) → groups_right low ≡ false → low ≤ level_of tree → low < edge tree
left_edge low (Binary place operator left right) e h =
    past (groups_right (infix_level operator)) low (infix_level operator) (other_level low (infix_level operator) e h) h
left_edge low (To place from to by) e h = omega arith
left_edge low (Prefix place operator operand) e h = not_twelve low e h
left_edge low (Not place operand) e h = not_twelve low e h
left_edge low _ e h = omega arith

before_edge : (b : Bool) (level : ℕ) (tree : Tree) → groups_right level ≡ b → cond b (suc level) level ≤ level_of tree → level < edge tree
before_edge true level tree e h = omega (arith, h, level_edge tree)
before_edge false level tree e h = left_edge level tree e h

pub operand_edge : (level : ℕ) (tree : Tree) → left_level level ≤ level_of tree → level < edge tree
operand_edge level tree h = before_edge (groups_right level) level tree refl h

-- operators between two operands
pub not_dot : (operator : Operator) → 1 ≤ operator_level operator → is_dot operator ≡ false
not_dot Dot h = absurd (omega arith)
not_dot _ h = refl

goes_on_operator : (operator : Operator) → 1 ≤ operator_level operator → operator_goes_on operator ≡ operator_level operator
goes_on_operator Dot h = absurd (omega arith)
goes_on_operator _ h = refl

pub goes_on_infix : (operator : Infix) → 1 ≤ infix_level operator → kind_goes_on (infix_kind operator) ≡ infix_level operator
goes_on_infix (Plain operator) h = goes_on_operator operator h
goes_on_infix (Augmented operator) h = refl

-- operators before their operand
pub begins_prefix : (operator : Operator) (found : Operator × Option Operator) → prefix_of operator ≡ Some found → operator_begins operator ≡ true
begins_prefix Ampersand found e = absurd (none-some found e)
begins_prefix _ found e = ap is_some e

-- a right operand has at least level 1 where its operator has
pub right_one : (level : ℕ) → 1 ≤ level → 1 ≤ right_level level
right_one level h = omega (arith, h, up (groups_right level) level)

left_over : (b : Bool) (level : ℕ) → level ≤ cond b (suc level) level
left_over true level = omega arith
left_over false level = omega arith

pub left_up : (level : ℕ) (tree : Tree) → left_level level ≤ level_of tree → level ≤ level_of tree
left_up level tree h = omega (arith, h, left_over (groups_right level) level)
