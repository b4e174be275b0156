-- The automaton over capped trees shows what the one over trees does.
use Rattle.std.proofs.Common.{◌≡◌, ℕ, zero, suc, ◌+◌, ◌<◌, ◌≤◌, max, Bool, true, false, cond, nat_le, Option, Some, None, refl, sym, ap, subst, ◌∙◌, arith, add-one}
use Rattle.std.proofs.lemmas.Bool.{leb-false, leb-true, lt-leb, le-leb}
use Rattle.icn_tree.specs.Trees.{Tree, MaybeTree, Trees, Clause, Clauses, Empty, Constant, Identifier, Keyword, Parentheses, Listing, Compound, Call, CoCall, Subscript, Section, Field, Prefix, Not, Binary, To, If, Case, Loop, Repeat, Create, Next, Fail, Break, Return, Suspend, Absent, Present, NoTrees, More, Default, Guarded, NoClauses, MoreClauses}
use Rattle.icn_expr.specs.Heights.{height, highest, highest_clause, clause_height}
use Rattle.icn_expr.specs.Capped.{with_last, with_last_clause, WithHeight, capped_at, one, two, three, one_if, two_if, join_capped, joined_three, has_none, builds_with_height}
use Rattle.icn_expr.proofs.SameSteps.{Shows}

kept : {A : Type 0} (x : A) (h : ℕ) → nat_le h 2000 ≡ true → capped_at x h ≡ Some (x, h)
kept x h e = ap (λ b. cond b (Some (x, h)) None) e

left_out : {A : Type 0} (x : A) (h : ℕ) → nat_le h 2000 ≡ false → capped_at x h ≡ None
left_out x h e = ap (λ b. cond b (Some (x, h)) None) e

above : {A : Type 0} (x : A) (h : ℕ) → 2000 < h → capped_at x h ≡ None
above x h l = left_out x h (lt-leb h 2000 l)

by_height : (h : ℕ) (P : Bool → Type 0) → (nat_le h 2000 ≡ true → P true) → (nat_le h 2000 ≡ false → P false) → P (nat_le h 2000)
by_height h P f g = split (nat_le h 2000) P f g
  where
    split : (b : Bool) (P : Bool → Type 0) → (b ≡ true → P true) → (b ≡ false → P false) → P b
    split true P f g = f refl
    split false P f g = g refl

one_law : {A B : Type 0} (make : A → B) (x : A) (h : ℕ) → capped_at (make x) (suc h) ≡ one make (capped_at x h)
one_law make x h = by_height h (λ b. capped_at (make x) (suc h) ≡ one make (cond b (Some (x, h)) None))
    (λ e. ap (capped_at (make x)) (sym (add-one h)))
    (λ e. above (make x) (suc h) (omega (arith, leb-false h 2000 e)))

two_law : {A B D : Type 0} (make : A → B → D) (x : A) (y : B) (h k : ℕ) → capped_at (make x y) (suc (max h k)) ≡ two make (capped_at x h) (capped_at y k)
two_law make x y h k = by_height h (λ b. capped_at (make x y) (suc (max h k)) ≡ two make (cond b (Some (x, h)) None) (capped_at y k))
    (λ e. by_height k (λ c. capped_at (make x y) (suc (max h k)) ≡ two make (Some (x, h)) (cond c (Some (y, k)) None))
    (λ f. ap (capped_at (make x y)) (sym (add-one (max h k))))
    (λ f. above (make x y) (suc (max h k)) (omega (arith, leb-false k 2000 f))))
    (λ e. above (make x y) (suc (max h k)) (omega (arith, leb-false h 2000 e)))

three_law : {A B D F : Type 0} (make : A → B → D → F) (x : A) (y : B) (z : D) (h k l : ℕ)
    → capped_at (make x y z) (suc (max h (max k l))) ≡ three make (capped_at x h) (capped_at y k) (capped_at z l)
three_law make x y z h k l =
    by_height h (λ b. capped_at (make x y z) (suc (max h (max k l))) ≡ three make (cond b (Some (x, h)) None) (capped_at y k) (capped_at z l))
    (λ e. by_height k (λ c. capped_at (make x y z) (suc (max h (max k l))) ≡ three make (Some (x, h)) (cond c (Some (y, k)) None) (capped_at z l))
    (λ f. by_height l (λ d. capped_at (make x y z) (suc (max h (max k l))) ≡ three make (Some (x, h)) (Some (y, k)) (cond d (Some (z, l)) None))
    (λ g. ap (capped_at (make x y z)) (sym (add-one (max h (max k l)))))
    (λ g. above (make x y z) (suc (max h (max k l))) (omega (arith, leb-false l 2000 g))))
    (λ f. above (make x y z) (suc (max h (max k l))) (omega (arith, leb-false k 2000 f))))
    (λ e. above (make x y z) (suc (max h (max k l))) (omega (arith, leb-false h 2000 e)))

joined_law : {A B D : Type 0} (make : A → B → D) (x : A) (y : B) (h k : ℕ) → capped_at (make x y) (max h k) ≡ join_capped make (capped_at x h) (capped_at y k)
joined_law make x y h k = by_height h (λ b. capped_at (make x y) (max h k) ≡ join_capped make (cond b (Some (x, h)) None) (capped_at y k))
    (λ e. by_height k (λ c. capped_at (make x y) (max h k) ≡ join_capped make (Some (x, h)) (cond c (Some (y, k)) None))
    (λ f. kept (make x y) (max h k) (le-leb (max h k) 2000 (omega (arith, leb-true h 2000 e, leb-true k 2000 f))))
    (λ f. above (make x y) (max h k) (omega (arith, leb-false k 2000 f))))
    (λ e. above (make x y) (max h k) (omega (arith, leb-false h 2000 e)))

joined_three_law : {A B D F : Type 0} (make : A → B → D → F) (x : A) (y : B) (z : D) (h k l : ℕ)
    → capped_at (make x y z) (max h (max k l)) ≡ joined_three make (capped_at x h) (capped_at y k) (capped_at z l)
joined_three_law make x y z h k l =
    by_height h (λ b. capped_at (make x y z) (max h (max k l)) ≡ joined_three make (cond b (Some (x, h)) None) (capped_at y k) (capped_at z l))
    (λ e. by_height k (λ c. capped_at (make x y z) (max h (max k l)) ≡ joined_three make (Some (x, h)) (cond c (Some (y, k)) None) (capped_at z l))
    (λ f. by_height l (λ d. capped_at (make x y z) (max h (max k l)) ≡ joined_three make (Some (x, h)) (Some (y, k)) (cond d (Some (z, l)) None))
    (λ g. kept (make x y z) (max h (max k l)) (le-leb (max h (max k l)) 2000 (omega (arith, leb-true h 2000 e, leb-true k 2000 f, leb-true l 2000 g))))
    (λ g. above (make x y z) (max h (max k l)) (omega (arith, leb-false l 2000 g))))
    (λ f. above (make x y z) (max h (max k l)) (omega (arith, leb-false k 2000 f))))
    (λ e. above (make x y z) (max h (max k l)) (omega (arith, leb-false h 2000 e)))

-- the same with a part that is absent
one_absent : {A B : Type 0} (make : A → B) (x : A) (h : ℕ) → capped_at (make x) (suc (max h 0)) ≡ one make (capped_at x h)
one_absent make x h = ap (capped_at (make x)) (omega arith) ∙ one_law make x h

two_absent : {A B D : Type 0} (make : A → B → D) (x : A) (y : B) (h k : ℕ)
    → capped_at (make x y) (suc (max h (max k 0))) ≡ two make (capped_at x h) (capped_at y k)
two_absent make x y h k = ap (capped_at (make x y)) (omega arith) ∙ two_law make x y h k

highest_last : (trees : Trees) (last : Tree) → highest (with_last trees last) ≡ max (highest trees) (height last)
highest_last NoTrees last = omega arith
highest_last (More tree trees) last = omega (arith, highest_last trees last)

highest_last_clause : (clauses : Clauses) (last : Clause) → highest_clause (with_last_clause clauses last) ≡ max (highest_clause clauses) (clause_height last)
highest_last_clause NoClauses last = omega arith
highest_last_clause (MoreClauses clause clauses) last = omega (arith, highest_last_clause clauses last)

has_some_at : (first : Tree) (others : Trees) (h : ℕ) → has_none (capped_at (More first others) h) ≡ false
has_some_at first others h = by_height h (λ b. has_none (cond b (Some (More first others, h)) None) ≡ false) (λ e. refl) (λ e. refl)

-- capped trees show what trees do
pub capped_shows : Shows (WithHeight Tree) (WithHeight Trees) (WithHeight Clauses) builds_with_height
capped_shows = record {
  tree = λ tree. capped_at tree (height tree);
  trees = λ trees. capped_at trees (highest trees);
  further = λ clauses. capped_at clauses (highest_clause clauses);
  empty = refl;
  constant = λ place literal. refl;
  identifier = λ name. refl;
  keyword = λ place name. refl;
  parentheses = λ place elements. one_law (Parentheses place) elements (highest elements);
  listing = λ place elements. one_law (Listing place) elements (highest elements);
  compound = λ place elements. one_law (Compound place) elements (highest elements);
  call = λ place operand elements. two_law (Call place) operand elements (height operand) (highest elements);
  co_call = λ place operand elements. two_law (CoCall place) operand elements (height operand) (highest elements);
  subscript = λ place operand elements. two_law (Subscript place) operand elements (height operand) (highest elements);
  section = λ place kind subject from to. three_law (Section place kind) subject from to (height subject) (height from) (height to);
  field = λ place subject name. one_law (λ s. Field place s name) subject (height subject);
  prefix = λ place operator operand. one_law (Prefix place operator) operand (height operand);
  not_form = λ place operand. one_law (Not place) operand (height operand);
  binary = λ place operator left right. two_law (Binary place operator) left right (height left) (height right);
  case_form = λ place subject clauses. two_law (Case place) subject clauses (height subject) (highest_clause clauses);
  repeat_form = λ place body. one_law (Repeat place) body (height body);
  create_form = λ place body. one_law (Create place) body (height body);
  next_form = λ place. refl;
  fail_form = λ place. refl;
  break_form = λ place value. one_law (Break place) value (height value);
  return_form = λ place value. one_law (Return place) value (height value);
  to_form = λ place from to. two_absent (λ x y. To place x y Absent) from to (height from) (height to);
  to_form_and = λ place from to part. three_law (λ x y z. To place x y (Present z)) from to part (height from) (height to) (height part);
  if_form = λ place condition first. two_absent (λ x y. If place x y Absent) condition first (height condition) (height first);
  if_form_and = λ place condition first part. three_law (λ x y z. If place x y (Present z)) condition first part (height condition) (height first)
      (height part);
  loop_form = λ place kind control. one_absent (λ x. Loop place kind x Absent) control (height control);
  loop_form_and = λ place kind control part. two_law (λ x y. Loop place kind x (Present y)) control part (height control) (height part);
  suspend_form = λ place value. one_absent (λ x. Suspend place x Absent) value (height value);
  suspend_form_and = λ place value part. two_law (λ x y. Suspend place x (Present y)) value part (height value) (height part);
  no_elements = refl;
  with_element = λ elements last. ap (capped_at (with_last elements last)) (highest_last elements last)
      ∙ joined_law with_last elements last (highest elements) (height last);
  has_none = refl;
  has_some = λ first others. has_some_at first others (highest (More first others));
  no_clauses = refl;
  with_default = λ clauses place value. ap (capped_at (with_last_clause clauses (Default place value))) (highest_last_clause clauses (Default place value))
      ∙ joined_law (λ c v. with_last_clause c (Default place v)) clauses value (highest_clause clauses) (height value);
  with_guarded = λ clauses place guard value.
      ap (capped_at (with_last_clause clauses (Guarded place guard value))) (highest_last_clause clauses (Guarded place guard value))
      ∙ joined_three_law (λ c g v. with_last_clause c (Guarded place g v)) clauses guard value (highest_clause clauses) (height guard) (height value);
}

pub shown_tree : (tree : Tree) → capped_shows.tree tree ≡ capped_at tree (height tree)
unfolding capped_shows
shown_tree tree = refl

pub shown_trees : (trees : Trees) → capped_shows.trees trees ≡ capped_at trees (highest trees)
unfolding capped_shows
shown_trees trees = refl
