-- Values of a heap in which all that is named has a name.
use Rattle.std.proofs.Common.{◌≡◌, sym, subst, ℕ, List, [], map, arith}
use Rattle.std.specs.List.{All}
use Rattle.icn_value.specs.declared.val.Val.{Val}
use Rattle.icn_value.specs.declared.val.Val.TheVariants.{Null as NullVal, Integer as IntegerVal, Text as TextVal, Chars as CharsVal, Std as StdVal, Proc as ProcVal, Rec as RecVal, List as ListVal, Set as SetVal, Table as TableVal, Coexp as CoexpVal}
use Rattle.icn_value.specs.Values.{Null}
use Rattle.icn_value.specs.Store.{Heap, Names, Record, Table, new_list, list_at, set_at, table_at, record_at}
use Rattle.icn_defs.specs.Arguments.{arg}
use Rattle.icn_heap.specs.Extents.{Extent, value_in, values_in}
use Rattle.icn_convert.specs.ProgramNames.{AreRecordsNamed, IsNamed}
use Rattle.law_names.specs.NamedSettings.{HeapNamed, ListNamed, PairNamed, SetNamed, ValueNamed}
use Rattle.icn_structfn.specs.Sorting.{pair_at}
use Rattle.icn_structfn.proofs.SortedPlaces.{holds_at}

-- a value whose meaning has a name
pub named_value : (names : Names) (all : Extent) (val : Val) → ValueNamed names (value_in all val) → IsNamed names val
named_value names all NullVal is = record { named = tt }
named_value names all (IntegerVal n) is = record { named = tt }
named_value names all (TextVal span) is = record { named = tt }
named_value names all (CharsVal cset) is = record { named = tt }
named_value names all (StdVal file) is = record { named = tt }
named_value names all (ProcVal number) is = record { named = is }
named_value names all (RecVal id) is = record { named = tt }
named_value names all (ListVal id) is = record { named = tt }
named_value names all (SetVal id) is = record { named = tt }
named_value names all (TableVal id) is = record { named = tt }
named_value names all (CoexpVal id) is = record { named = tt }

-- the records of such a heap
pub named_records : (names : Names) (heap : Heap) → HeapNamed names heap → AreRecordsNamed names heap
named_records names heap named = record { kinds = λ k d below. (named.records k d below).0 }

-- the value at a place of such values
pub named_at : (names : Names) (all : Extent) (vals : List Val) (place : ℕ) (val : Val) → value_in all val ≡ arg (map (value_in all) vals) place
    → All (ValueNamed names) (map (value_in all) vals) → IsNamed names val
named_at names all vals place val is named =
    named_value names all val (subst (ValueNamed names) (sym is) (holds_at (ValueNamed names) (map (value_in all) vals) Null place named tt))

-- the pair at a place of such pairs
pub pair_named : (names : Names) (all : Extent) (pairs : List (Val × Val)) (place : ℕ) (pair : Val × Val)
    → values_in all pair ≡ pair_at (map (values_in all) pairs) place
    → All (PairNamed names) (map (values_in all) pairs) → IsNamed names pair.0 × IsNamed names pair.1
pair_named names all pairs place pair is named =
    let both : PairNamed names (values_in all pair) = subst (PairNamed names) (sym is)
    (holds_at (PairNamed names) (map (values_in all) pairs) (Null, Null) place named (tt, tt)) in
    (named_value names all pair.0 both.0, named_value names all pair.1 both.1)

-- The parts of its structures

pub list_named : (names : Names) (heap : Heap) (id : ℕ) → HeapNamed names heap → All (ValueNamed names) (list_at heap id).items
list_named names heap id named = holds_at (ListNamed names) heap.lists (new_list []) id named.lists (λ k d below. absurd (omega (arith, below)))

pub set_named : (names : Names) (heap : Heap) (id : ℕ) → HeapNamed names heap → All (ValueNamed names) (set_at heap id)
set_named names heap id named = holds_at (SetNamed names) heap.sets [] id named.sets (λ k d below. absurd (omega (arith, below)))

pub pairs_named : (names : Names) (heap : Heap) (id : ℕ) → HeapNamed names heap → All (PairNamed names) (table_at heap id).pairs
pairs_named names heap id named =
    holds_at (λ (table : Table). All (PairNamed names) table.pairs) heap.tables (record { default = Null; pairs = [] }) id
    (λ k d below. (named.tables k d below).1) (λ k d below. absurd (omega (arith, below)))

pub fields_named : (names : Names) (heap : Heap) (id : ℕ) → HeapNamed names heap → All (ValueNamed names) (record_at heap id).fields
fields_named names heap id named =
    holds_at (λ (structure : Record). All (ValueNamed names) structure.fields) heap.records (record { kind = 0; fields = [] }) id
    (λ k d below. (named.records k d below).1) (λ k d below. absurd (omega (arith, below)))
