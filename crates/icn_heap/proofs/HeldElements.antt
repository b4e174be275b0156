-- What structures hold is of the heap, or was made there.
use Rattle.std.proofs.Common.{◌∙◌, sym, ℕ, true, List, [], ◌∷◌, arith, length-append}
use Rattle.std.specs.List.{All, flat_map}
use Rattle.std.proofs.lemmas.List.{length-set}
use Rattle.std.proofs.lemmas.List.Elements.{All-cons, All-map, All-push, All-set, All-weaker}
use Rattle.icn_strings.proofs.KeptRegions.{was_written_there}
use Rattle.icn_structs.specs.Numbered.{NumberedList}
use Rattle.icn_structs.specs.Shelves.{Shelved, with_new, with_other}
use Rattle.icn_structs.proofs.ShelvedThings.{set_below}
use Rattle.icn_value.specs.declared.val.Span.{Span}
use Rattle.icn_value.specs.declared.val.Val.{Val}
use Rattle.icn_value.specs.declared.val.Val.TheVariants.{Null as NullVal, Integer as IntegerVal, Text as TextVal, Chars as CharsVal, Std as StdVal, Proc as ProcVal, Rec as RecVal, List as ListVal, Set as SetVal, Table as TableVal, Coexp as CoexpVal}
use Rattle.icn_heap.specs.declared.key.Key.{Key}
use Rattle.icn_heap.specs.declared.entries.Entry.{Entry}
use Rattle.icn_heap.specs.declared.entries.Entries.{Entries}
use Rattle.icn_heap.specs.ElementValues.{member_val, list_vals, set_vals, pair_vals, table_vals, record_vals}
use Rattle.icn_heap.specs.Extents.{Extent, range_of, IsText, IsMadeText, IsLive, IsMade, LiveBy, MadeBy}
use Rattle.icn_heap.specs.HeapParts.{HoldMade, IsSoundList, IsSoundMember, IsSoundPair, IsSoundTable, IsSoundRecord}
use Rattle.icn_heap.specs.Records.{HeldRecord}
use Rattle.icn_heap.proofs.NeededSteps.{all_flat}

-- what is of a heap was made there

pub text_made : (all : Extent) (span : Span) → IsText all span → IsMadeText all span
text_made all span is = record { written = was_written_there all.strings (range_of span) is.of }

live_made : (all : Extent) (val : Val) → LiveBy all val → MadeBy all val
live_made all NullVal is = tt
live_made all (IntegerVal n) is = tt
live_made all (TextVal span) is = text_made all span is
live_made all (CharsVal cset) is = tt
live_made all (StdVal file) is = is
live_made all (ProcVal number) is = tt
live_made all (RecVal id) is = set_below all.records id is
live_made all (ListVal id) is = set_below all.lists id is
live_made all (SetVal id) is = set_below all.sets id is
live_made all (TableVal id) is = set_below all.tables id is
live_made all (CoexpVal id) is = is

pub value_made : (all : Extent) (val : Val) → IsLive all val → IsMade all val
value_made all val is = record { made = live_made all val is.live }

pub vals_made : (all : Extent) (vals : List Val) → All (IsLive all) vals → All (IsMade all) vals
vals_made all vals are = All-weaker (IsLive all) (IsMade all) (value_made all) vals are

-- What structures hold is of the heap

module _ (all : Extent) where
  pub pair_live : (pair : Key × Entry) → IsSoundPair all pair → All (IsLive all) (pair_vals pair)
  pair_live pair is =
      All-cons (IsLive all) pair.1.key (pair.1.value ∷ []) is.key
      (All-cons (IsLive all) pair.1.value [] is.value (λ k d within. absurd (omega (arith, within))))

  pub table_live : (table : Entries) → IsSoundTable all table → All (IsLive all) (table_vals table)
  table_live table is =
      All-cons (IsLive all) table.default (flat_map pair_vals table.pairs) is.default
      (all_flat (IsLive all) pair_vals table.pairs
      (All-weaker (IsSoundPair all) (λ pair. All (IsLive all) (pair_vals pair)) pair_live table.pairs is.pairs))

  pub set_live : (members : List (Key × Val)) → All (IsSoundMember all) members → All (IsLive all) (set_vals members)
  set_live members are =
      All-map (IsLive all) member_val members
      (All-weaker (IsSoundMember all) (λ member. IsLive all (member_val member)) (λ member is. is.live) members are)

  -- so it was made there

  pub list_made : (cells : ℕ) (list : NumberedList Val) → IsSoundList all cells list → All (IsMade all) (list_vals list)
  list_made cells list is = vals_made all (list_vals list) is.live

  pub set_made : (members : List (Key × Val)) → All (IsSoundMember all) members → All (IsMade all) (set_vals members)
  set_made members are = vals_made all (set_vals members) (set_live members are)

  pub table_made : (table : Entries) → IsSoundTable all table → All (IsMade all) (table_vals table)
  table_made table is = vals_made all (table_vals table) (table_live table is)

  pub record_made : (held : HeldRecord) → IsSoundRecord all held → All (IsMade all) (record_vals held)
  record_made held is = vals_made all (record_vals held) is.live

-- What the structures of a type hold was made, as one of them changes or joins them

module _ {X : Type 0} (all : Extent) (vals : X → List Val) (shelf : Shelved X) (are : HoldMade all vals shelf) where
  abbrev holds : X → Type 0
  holds structure = All (IsMade all) (vals structure)

  pub made_other : (id : ℕ) (structure : X) → All (IsMade all) (vals structure) → HoldMade all vals (with_other shelf id structure)
  made_other id structure is = record {
    made = All-set holds shelf.things id structure is are.made;
    long = are.long ∙ sym (length-set shelf.things id structure);
  }

  pub made_new : (structure : X) → All (IsMade all) (vals structure) → HoldMade all vals (with_new shelf structure)
  made_new structure is =
      let old = are.long in
      let one = length-append shelf.held (true ∷ []) in
      let two = length-append shelf.things (structure ∷ []) in
      record { made = All-push holds shelf.things structure are.made is; long = omega (arith, old, one, two) }
