-- Trees up to a height: what is higher is left out.
use Rattle.std.specs.Prelude.{ℕ, ◌+◌, max, Bool, true, false, nat_le, Option, Some, None, if◌then◌else◌}
use Rattle.icn_profile.specs.Numbers.{highest_tree}
use Rattle.icn_tree.specs.declared.tree.Place.{Place}
use Rattle.icn_tree.specs.declared.tree.Name.{Name}
use Rattle.icn_tree.specs.declared.tree.Literal.{Literal}
use Rattle.icn_tree.specs.declared.tree.Infix.{Infix}
use Rattle.icn_tree.specs.declared.tree.SectionKind.{SectionKind}
use Rattle.icn_tree.specs.declared.tree.LoopKind.{LoopKind}
use Rattle.icn_tree.specs.Trees.{Tree, MaybeTree, Trees, Clause, Clauses, Empty, Constant, Identifier, Keyword, Parentheses, Listing, Compound, Call, CoCall, Subscript, Section, Field, Prefix, Not, Binary, To, If, Case, Loop, Repeat, Create, Next, Fail, Break, Return, Suspend, Absent, Present, NoTrees, More, Default, Guarded, NoClauses, MoreClauses}
use Rattle.icn_expr.specs.Automata.{Builds}

-- a tree with its height, or a tree that is higher than 2000; and so of the elements of a list and of clauses
abbrev pub WithHeight : Type 0 → Type 0
WithHeight A = Option (A × ℕ)

-- the tree, unless it is higher than 2000
abbrev pub capped_at : {A : Type 0} → A → ℕ → WithHeight A
capped_at tree height = if nat_le height highest_tree then Some (tree, height) else None

-- the tree alone, where it is kept
abbrev pub kept_tree : {A : Type 0} → WithHeight A → Option A
kept_tree None = None
kept_tree (Some a) = Some a.0

-- one higher than the highest part
abbrev pub one : {A B : Type 0} → (A → B) → WithHeight A → WithHeight B
one make (Some a) = capped_at (make a.0) (a.1 + 1)
one make None = None

-- a form with two parts, one higher than the higher of them
abbrev pub two : {A B D : Type 0} → (A → B → D) → WithHeight A → WithHeight B → WithHeight D
two make (Some a) (Some b) = capped_at (make a.0 b.0) (max a.1 b.1 + 1)
two make _ _ = None

-- a form with three parts, one higher than the highest of them
abbrev pub three : {A B D F : Type 0} → (A → B → D → F) → WithHeight A → WithHeight B → WithHeight D
    → WithHeight F
three make (Some a) (Some b) (Some c) = capped_at (make a.0 b.0 c.0) (max a.1 (max b.1 c.1) + 1)
three make _ _ _ = None

-- a part that may be absent
abbrev pub one_if : {A B : Type 0} → (A → MaybeTree → B) → WithHeight A → Option (WithHeight Tree)
    → WithHeight B
one_if make a None = one (λ x. make x Absent) a
one_if make a (Some b) = two (λ x y. make x (Present y)) a b

-- a form with two parts and a third one that may be missing
abbrev pub two_if : {A B D : Type 0} → (A → B → MaybeTree → D) → WithHeight A → WithHeight B
    → Option (WithHeight Tree)
    → WithHeight D
two_if make a b None = two (λ x y. make x y Absent) a b
two_if make a b (Some c) = three (λ x y z. make x y (Present z)) a b c

-- no higher than the highest part
abbrev pub join_capped : {A B D : Type 0} → (A → B → D) → WithHeight A → WithHeight B → WithHeight D
join_capped make (Some a) (Some b) = Some (make a.0 b.0, max a.1 b.1)
join_capped make _ _ = None

-- parts put together, as high as the highest of them
abbrev pub joined_three : {A B D F : Type 0} → (A → B → D → F) → WithHeight A → WithHeight B → WithHeight D
    → WithHeight F
joined_three make (Some a) (Some b) (Some c) = Some (make a.0 b.0 c.0, max a.1 (max b.1 c.1))
joined_three make _ _ _ = None

-- one more at the end
abbrev pub with_last : Trees → Tree → Trees
with_last NoTrees last = More last NoTrees
with_last (More tree trees) last = More tree (with_last trees last)

-- one more clause at the end
abbrev pub with_last_clause : Clauses → Clause → Clauses
with_last_clause NoClauses last = MoreClauses last NoClauses
with_last_clause (MoreClauses clause others) last = MoreClauses clause (with_last_clause others last)

-- the list has no element
abbrev pub is_no_trees : Trees → Bool
is_no_trees NoTrees = true
is_no_trees (More tree trees) = false

-- the list has no element, and none was too high
abbrev pub has_none : WithHeight Trees → Bool
has_none (Some trees) = is_no_trees trees.0
has_none None = false

-- how each form is built with its height, and left out where that is above the greatest
abbrev pub builds_with_height : Builds (WithHeight Tree) (WithHeight Trees) (WithHeight Clauses)
builds_with_height = record {
  empty = Some (Empty, 1);
  constant = λ place literal. Some (Constant place literal, 1);
  identifier = λ name. Some (Identifier name, 1);
  keyword = λ place name. Some (Keyword place name, 1);
  parentheses = λ place elements. one (Parentheses place) elements;
  listing = λ place elements. one (Listing place) elements;
  compound = λ place exprs. one (Compound place) exprs;
  call = λ place callee arguments. two (Call place) callee arguments;
  co_call = λ place callee arguments. two (CoCall place) callee arguments;
  subscript = λ place subject subscripts. two (Subscript place) subject subscripts;
  section = λ place kind subject from to. three (Section place kind) subject from to;
  field = λ place subject name. one (λ s. Field place s name) subject;
  prefix = λ place operator operand. one (Prefix place operator) operand;
  not_form = λ place operand. one (Not place) operand;
  binary = λ place operator left right. two (Binary place operator) left right;
  to_form = λ place from to by. two_if (To place) from to by;
  if_form = λ place condition first other. two_if (If place) condition first other;
  case_form = λ place subject clauses. two (Case place) subject clauses;
  loop_form = λ place kind control body. one_if (Loop place kind) control body;
  repeat_form = λ place body. one (Repeat place) body;
  create_form = λ place body. one (Create place) body;
  next_form = λ place. Some (Next place, 1);
  fail_form = λ place. Some (Fail place, 1);
  break_form = λ place value. one (Break place) value;
  return_form = λ place value. one (Return place) value;
  suspend_form = λ place value body. one_if (Suspend place) value body;
  no_elements = Some (NoTrees, 0);
  with_element = λ elements last. join_capped with_last elements last;
  has_none = has_none;
  no_clauses = Some (NoClauses, 0);
  with_default = λ clauses place value.
      join_capped (λ c v. with_last_clause c (Default place v)) clauses value;
  with_guarded = λ clauses place guard value.
      joined_three (λ c g v. with_last_clause c (Guarded place g v)) clauses guard value;
}
