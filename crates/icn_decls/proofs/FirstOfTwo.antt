-- The first fault of two lists.
use Rattle.std.proofs.Common.{ℕ, ◌+◌, ◌<◌, length, map, drop, get_or, Result, Ok, Err, IsErrAnd, ◌≡◌, ap, ◌∙◌, append_assoc, List, [], ◌∷◌, ◌++◌, None, Some, refl, sym}
use Rattle.std.proofs.lemmas.Option.{none-some}
use Rattle.icn_tree.specs.declared.rule.Rule.{Rule}
use Rattle.icn_tree.specs.declared.tree.Name.{Name}
use Rattle.icn_decls.specs.Contexts.{BrokenRule}
use Rattle.icn_decls.specs.Faults.{with_names, fault_if_met, all_repeated}
use Rattle.icn_tree.specs.NameSets.{NameTest, with_name}
use Rattle.icn_decls.specs.declared.fault.ContextFault.{ContextFault}
use Rattle.icn_decls.specs.declared.fault.ContextFault.TheVariants.{Broken as BrokenFault, NoMemory}
use Rattle.icn_decls.specs.Views.{first_of, Checks}
use Rattle.std.specs.List.{flat_map}
use Rattle.std.proofs.lemmas.List.{at_drop_more}
use Rattle.icn_tree.specs.declared.tree.LocalDecl.{LocalDecl as LocalsItem}
use Rattle.icn_tree.specs.TreeOf.{locals_of}

-- none in the first of them
pub first_of_second : (a b : List BrokenRule) → None ≡ first_of a → first_of (a ++ b) ≡ first_of b
first_of_second [] b e = refl
first_of_second (x ∷ a) b e = absurd (none-some x e)

-- one in the first of them
pub first_kept : (a b : List BrokenRule) (x : BrokenRule) → Some x ≡ first_of a → first_of (a ++ b) ≡ Some x
first_kept [] b x e = absurd (none-some x (sym e))
first_kept (y ∷ a) b x e = sym e

-- names in two rows, one behind the other
pub all_repeated-append : (rule : Rule) (met : NameTest) (xs ys : List Name)
    → all_repeated rule met (xs ++ ys) ≡ all_repeated rule met xs ++ all_repeated rule (with_names met xs) ys
all_repeated-append rule met [] ys = refl
all_repeated-append rule met (x ∷ xs) ys =
    ap (λ later. fault_if_met rule met x ++ later) (all_repeated-append rule (with_name met x.text) xs ys)
    ∙ sym (append_assoc (fault_if_met rule met x) (all_repeated rule (with_name met x.text) xs) (all_repeated rule (with_names (with_name met x.text) xs) ys))

-- a check of lists that begin alike
pub checks_as : (a b : List BrokenRule) (result : Result (Unit {0}) ContextFault) → first_of a ≡ first_of b → Checks a result → Checks b result
checks_as a b (Ok done) e h = h ∙ e
checks_as a b (Err (BrokenFault rule file line)) e h = h ∙ e
checks_as a b (Err NoMemory) e h = tt

-- a check that fails in the first of two lists
pub checks_kept : (a b : List BrokenRule) (fault : ContextFault) → Checks a (Err fault) → Checks (a ++ b) (Err fault)
checks_kept a b (BrokenFault rule file line) h = sym (first_kept a b _ h)
checks_kept a b NoMemory h = tt

-- names in the rows of some locals
pub rows : (rule : Rule) (met : NameTest) (locals : List LocalsItem) (i : ℕ) (item : LocalsItem) → i < length locals → item ≡ get_or locals i item
    → all_repeated rule met (flat_map (λ row. row.names) (map locals_of (drop i locals)))
    ≡ all_repeated rule met item.names.items
    ++ all_repeated rule (with_names met item.names.items) (flat_map (λ row. row.names) (map locals_of (drop (i + 1) locals)))
rows rule met locals i item within is =
    at_drop_more (λ rest. all_repeated rule met (flat_map (λ row. row.names) (map locals_of rest))) locals i item within
    ∙ ap (λ (row : LocalsItem). all_repeated rule met (flat_map (λ r. r.names) (map locals_of (row ∷ drop (i + 1) locals)))) (sym is)
    ∙ all_repeated-append rule met item.names.items (flat_map (λ row. row.names) (map locals_of (drop (i + 1) locals)))

-- the same where a fault is passed on
pub checks_passed : (a b all : List BrokenRule) (fault : ContextFault) (result : Result (Unit {0}) ContextFault) → IsErrAnd result (λ passed. passed ≡ fault)
    → Checks a (Err fault) → first_of (a ++ b) ≡ first_of all → Checks all result
checks_passed a b all fault (Ok done) is h e = absurd is
checks_passed a b all fault (Err passed) is h e = rw is (checks_as (a ++ b) all (Err fault) e (checks_kept a b fault h))
