-- What needs no name has one.
use Rattle.std.proofs.Common.{◌≡◌, subst, sym, ◌<◌, List, [], ◌∷◌, length}
use Rattle.std.specs.List.{All}
use Rattle.std.proofs.lemmas.List.Elements.{All-cons, All-nil}
use Rattle.icn_value.specs.declared.val.Val.{Val}
use Rattle.icn_value.specs.Store.{Heap, Names, Record}
use Rattle.icn_convert.specs.ProgramNames.{AreRecordsNamed, IsNamed}

-- no record is without a name where there is none
pub records_named : (names : Names) (heap : Heap) → heap.records ≡ [] → AreRecordsNamed names heap
records_named names heap none = record {
  kinds = subst (All (λ (structure : Record). structure.kind < length names.records)) (sym none)
      (All-nil (λ (structure : Record). structure.kind < length names.records));
}

pub no_values_named : (names : Names) (vals : List Val) → vals ≡ [] → All (IsNamed names) vals
no_values_named names vals none = subst (All (IsNamed names)) (sym none) (All-nil (IsNamed names))

pub values_named : (names : Names) (vals rest : List Val) (first : Val) → vals ≡ first ∷ rest → IsNamed names first → All (IsNamed names) rest
    → All (IsNamed names) vals
values_named names vals rest first is named others = subst (All (IsNamed names)) (sym is) (All-cons (IsNamed names) first rest named others)
