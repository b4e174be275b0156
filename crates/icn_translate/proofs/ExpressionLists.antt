-- Rows of expressions: counts, tests, and lists without their one empty element.
use Rattle.std.proofs.Common.{◌≡◌, ℕ, suc, ◌+◌, ◌-◌, ◌<◌, ◌≤◌, ◌==◌, Bool, true, false, ◌&&◌, List, [], ◌∷◌, length, drop, get_or, refl, sym, ap, ◌∙◌, arith}
use Rattle.std.proofs.lemmas.Bool.Decides.{nat_tests}
use Rattle.std.proofs.lemmas.List.{length-drop, at_drop_more}
use Rattle.icn_tree.specs.declared.tree.Expr.{Expr}
use Rattle.icn_tree.specs.Trees.{Tree, Empty, Trees, NoTrees, More, elements_of}
use Rattle.icn_tree.specs.TreeOf.{all_of, tree_of}
use Rattle.icn_translate.specs.Drafts.{Draft}
use Rattle.icn_translate.specs.OpenMarks.{OpenMarks, Marked, Outermost}
use Rattle.icn_translate.specs.Translation.{count_of, elements, is_nothing, is_empty, is_no_element, either_step, unless_empty, bounded_code, create_code, translate, arguments, operands, creations, other_creations, compound}

pub count : (exprs : List Expr) → count_of (all_of exprs) ≡ length exprs
count [] = refl
count (expr ∷ exprs) = ap suc (count exprs)

not_zero : (n : ℕ) → false ≡ (suc n == 0)
not_zero n = grind (arith, nat_tests)

none_left : (others : List Expr) → is_nothing (all_of others) ≡ (length others == 0)
none_left [] = refl
none_left (expr ∷ others) = not_zero (length others)

no_element_is : (t : Tree) (ts : Trees) → is_no_element (More t ts) ≡ (is_empty t && is_nothing ts)
no_element_is Empty NoTrees = refl
no_element_is Empty (More t ts) = refl
no_element_is t ts = refl

pub one_element : (first : Expr) (others exprs : List Expr) → exprs ≡ first ∷ others → is_empty (tree_of first) ≡ true
    → (length others == 0) ≡ is_no_element (all_of exprs)
one_element first others exprs e h =
    sym (ap (λ (x : List Expr). is_no_element (all_of x)) e ∙ no_element_is (tree_of first) (all_of others) ∙ ap (λ is. is && is_nothing (all_of others)) h
    ∙ none_left others)

elements_by : (es : Trees) (is : Bool) → is_no_element es ≡ is → elements_of es ≡ (elim is as (λ is. Trees) [ true ↦ NoTrees | false ↦ es ])
elements_by NoTrees true h = refl
elements_by NoTrees false h = refl
elements_by (More t ts) is h = more t ts is h
  where
    more : (t : Tree) (ts : Trees) (is : Bool) → is_no_element (More t ts) ≡ is
        → elements_of (More t ts) ≡ (elim is as (λ is. Trees) [ true ↦ NoTrees | false ↦ More t ts ])
    more Empty NoTrees true h = refl
    more Empty NoTrees false h = cc
    more Empty (More t ts) true h = cc
    more Empty (More t ts) false h = refl
    more t ts true h = cc
    more t ts false h = refl

pub no_count : (es : Trees) → is_no_element es ≡ true → 0 ≡ elements es
no_count es h = sym (ap count_of (elements_by es true h))

pub all_counted : (exprs : List Expr) → is_no_element (all_of exprs) ≡ false → length exprs ≡ elements (all_of exprs)
all_counted exprs h = sym (count exprs) ∙ sym (ap count_of (elements_by (all_of exprs) false h))

arguments_by : (o : OpenMarks) (es : Trees) (d : Draft) (is : Bool) → is_no_element es ≡ is
    → arguments o es d ≡ (elim is as (λ is. Draft) [ true ↦ d | false ↦ operands o es d ])
arguments_by o NoTrees d true h = refl
arguments_by o NoTrees d false h = refl
arguments_by o (More e es) d is h = ap (λ is. elim is as (λ is. Draft) [ true ↦ d | false ↦ operands o es (translate o e d) ]) h

pub no_arguments : (o : OpenMarks) (es : Trees) (d : Draft) → is_no_element es ≡ true → d ≡ arguments o es d
no_arguments o es d h = sym (arguments_by o es d true h)

pub all_arguments : (o : OpenMarks) (es : Trees) (d : Draft) → is_no_element es ≡ false → operands o es d ≡ arguments o es d
all_arguments o es d h = sym (arguments_by o es d false h)

creations_by : (es : Trees) (d : Draft) (is : Bool) → is_no_element es ≡ is
    → creations es d ≡ (elim is as (λ is. Draft) [ true ↦ d | false ↦ other_creations es d ])
creations_by NoTrees d true h = refl
creations_by NoTrees d false h = refl
creations_by (More e es) d is h = ap (λ is. elim is as (λ is. Draft) [ true ↦ d | false ↦ other_creations es (create_code (translate Outermost e) d) ]) h

pub no_creations : (es : Trees) (d : Draft) → is_no_element es ≡ true → d ≡ creations es d
no_creations es d h = sym (creations_by es d true h)

pub all_creations : (es : Trees) (d : Draft) → is_no_element es ≡ false → other_creations es d ≡ creations es d
all_creations es d h = sym (creations_by es d false h)

same_zero : (m n k : ℕ) → m ≡ n - k → k ≤ n → (m == 0) ≡ (k == n)
same_zero m n k e h = grind (arith, nat_tests)

last_at : (exprs : List Expr) (i : ℕ) → i < length exprs → is_nothing (all_of (drop (i + 1) exprs)) ≡ (i + 1 == length exprs)
last_at exprs i h = none_left (drop (i + 1) exprs) ∙ same_zero _ (length exprs) (i + 1) (length-drop (i + 1) exprs) (omega arith)

-- one more expression of a compound
pub compound_step : (o : OpenMarks) (exprs : List Expr) (i : ℕ) (first : Expr) (d later : Draft) → i < length exprs → first ≡ get_or exprs i first
    → later
    ≡ either_step (i + 1 == length exprs) (translate o (tree_of first)) (unless_empty (tree_of first) (bounded_code (translate (Marked o) (tree_of first)))) d
    → compound o (all_of (drop (i + 1) exprs)) later ≡ compound o (all_of (drop i exprs)) d
compound_step o exprs i first d later below is g =
    ap (compound o (all_of (drop (i + 1) exprs))) (g ∙ ap (λ is. either_step is (translate o (tree_of first))
    (unless_empty (tree_of first) (bounded_code (translate (Marked o) (tree_of first)))) d) (sym (last_at exprs i below)))
    ∙ ap (λ (e : Expr). compound o (all_of (e ∷ drop (i + 1) exprs)) d) is
    ∙ sym (at_drop_more (λ xs. compound o (all_of xs) d) exprs i first below)
