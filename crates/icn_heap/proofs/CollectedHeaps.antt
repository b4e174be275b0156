-- What is left of a heap as memory is given back: what is reached, which stands for the same.
use Rattle.std.proofs.Common.{◌≡◌, ◌∙◌, inl, inr, refl, ap, subst, ℕ, List, [], ◌∷◌, map, get_or, Result, Ok, Err, OnOk, OnErr, arith}
use Rattle.std.specs.List.{All, Contains, flat_map}
use Rattle.std.proofs.Math.Nat.{le_refl}
use Rattle.std.proofs.lemmas.List.Elements.{All-cons, All-contains, All-head, All-nil, All-tail, All-weaker}
use Rattle.icn_strings.specs.declared.byte_range.ByteRange.{ByteRange}
use Rattle.icn_strings.specs.declared.region.Region.{Region}
use Rattle.icn_strings.specs.Regions.{IsOf, IsUnchanged, KeepsBytes, sum_of}
use Rattle.icn_structs.specs.Numbered.{NumberedList}
use Rattle.icn_structs.specs.Shelves.{Shelved, with_held}
use Rattle.icn_structs.proofs.ShelvedThings.{all_by_number}
use Rattle.icn_value.specs.declared.val.Val.{Val}
use Rattle.icn_value.specs.declared.val.Val.TheVariants.{Null as NullVal, Integer as IntegerVal, Text as TextVal, Chars as CharsVal, Std as StdVal, Proc as ProcVal, Rec as RecVal, List as ListVal, Set as SetVal, Table as TableVal, Coexp as CoexpVal}
use Rattle.icn_value.specs.Store.{Heap}
use Rattle.icn_heap.specs.declared.key.Key.{Key}
use Rattle.icn_heap.specs.declared.entries.Entry.{Entry}
use Rattle.icn_heap.specs.declared.entries.Entries.{Entries}
use Rattle.icn_heap.specs.declared.needed_values.NeededValues.{NeededValues}
use Rattle.icn_heap.specs.ElementValues.{member_val, list_vals, set_vals, pair_vals, table_vals, record_vals}
use Rattle.icn_heap.specs.Extents.{Extent, range_of, IsLive, LiveBy, value_in, KeepsMeaning}
use Rattle.icn_heap.specs.declared.heap.Heap.{Heap as HeldHeap}
use Rattle.icn_heap.specs.Heaps.{extent_of, heap_of, parts_of}
use Rattle.icn_heap.specs.HeapParts.{Parts, parts, heap_over, extent_in, no_entries, no_vals, IsSoundList, IsSoundMember, IsSoundPair, IsSoundTable, IsSoundRecord, IsSoundHeap}
use Rattle.icn_heap.specs.NeededValues.{IsNeeded}
use Rattle.icn_heap.specs.MarkedStructures.{StructureMarks, ToStayBy, IsToStay, AreAllReached, IsReachedFrom, LeavesReached, MarkedBy, marks_of, with_marks}
use Rattle.icn_heap.specs.Records.{HeldRecord, no_fields}
use Rattle.icn_heap.proofs.GrowingHeaps.{MeansMore, file_by, holds_made, means_by, over_same}
use Rattle.icn_heap.proofs.HeldElements.{value_made}
use Rattle.icn_heap.proofs.ListChanges.{list_sound}
use Rattle.icn_heap.proofs.NeededSteps.{all_of}
use Rattle.icn_heap.proofs.OtherChanges.{members_sound, record_sound, table_sound}

all_from_map : {X Y : Type 0} (P : Y → Type 0) (f : X → Y) (xs : List X) → All P (map f xs) → All (λ x. P (f x)) xs
all_from_map P f [] are = λ k d within. absurd (omega (arith, within))
all_from_map P f (x ∷ xs) are =
    All-cons (λ y. P (f y)) x xs (All-head P (f x) (map f xs) are) (all_from_map P f xs (All-tail P (f x) (map f xs) are))

-- It stays so where what is needed stays, and stands for the same

module _ {a b : Extent} (means : KeepsMeaning a b) (P : Val → Type 0) (live : (val : Val) → IsLive a val → P val → IsLive b val) where
  value : (val : Val) → IsLive a val → value_in b val ≡ value_in a val
  value val is = means.value val (value_made a val is)

  all_live : (vals : List Val) → All (IsLive a) vals → All P vals → All (IsLive b) vals
  all_live vals are needed = λ k d within. live (get_or vals k d) (are k d within) (needed k d within)

  list_lives : (cells : ℕ) (list : NumberedList Val) → IsSoundList a cells list → All P (list_vals list) → IsSoundList b cells list
  list_lives cells list is needed = record { live = all_live list.items is.live needed; low = is.low; high = is.high }

  member_lives : (member : Key × Val) → IsSoundMember a member → P (member_val member) → IsSoundMember b member
  member_lives member is needed = record {
    live = live member.1 is.live needed;
    formed = is.formed;
    alike = rw (value member.1 is.live) is.alike;
  }

  set_lives : (members : List (Key × Val)) → All (IsSoundMember a) members → All P (set_vals members) → All (IsSoundMember b) members
  set_lives members are needed = λ k d within.
      member_lives (get_or members k d) (are k d within) (all_from_map P member_val members needed k d within)

  pair_lives : (pair : Key × Entry) → IsSoundPair a pair → All P (pair_vals pair) → IsSoundPair b pair
  pair_lives pair is needed = record {
    key = live pair.1.key is.key (All-head P pair.1.key (pair.1.value ∷ []) needed);
    value = live pair.1.value is.value (All-head P pair.1.value [] (All-tail P pair.1.key (pair.1.value ∷ []) needed));
    formed = is.formed;
    alike = rw (value pair.1.key is.key) is.alike;
  }

  table_lives : (table : Entries) → IsSoundTable a table → All P (table_vals table) → IsSoundTable b table
  table_lives table is needed =
      let pairs : All (λ pair. All P (pair_vals pair)) table.pairs =
      all_of P pair_vals table.pairs (All-tail P table.default (flat_map pair_vals table.pairs) needed) in
      record {
        default = live table.default is.default (All-head P table.default (flat_map pair_vals table.pairs) needed);
        pairs = λ k d within. pair_lives (get_or table.pairs k d) (is.pairs k d within) (pairs k d within);
      }

  record_lives : (held : HeldRecord) → IsSoundRecord a held → All P (record_vals held) → IsSoundRecord b held
  record_lives held is needed = record { live = all_live held.values is.live needed; few = is.few }

-- What is left of a heap

-- the structures that are marked alone, and another region
abbrev pub collected : Parts → StructureMarks → Region → Parts
collected parts marks strings = record (with_marks parts marks) { strings = strings }

nothing_open : (structures : List Val) (val : Val) → structures ≡ [] → Contains structures val → ⊥
nothing_open structures val empty is =
    All-contains (λ (one : Val). ⊥) [] val (All-nil (λ (one : Val). ⊥)) (subst (λ (ones : List Val). Contains ones val) empty is)

module _ (parts : Parts) (sound : IsSoundHeap parts) {first needed : NeededValues} (marks : StructureMarks) (all : AreAllReached parts first marks needed)
    (strings : Region) (means : KeepsBytes parts.strings strings) (of : All (IsOf strings) needed.ranges.items) where
  means_more : MeansMore (extent_in parts) (extent_in (collected parts marks strings))
  means_more =
      let lists = all.reached.long.lists in
      let sets = all.reached.long.sets in
      let tables = all.reached.long.tables in
      let records = all.reached.long.records in
      record {
        texts = means;
        lists = omega (arith, lists);
        sets = omega (arith, sets);
        tables = omega (arith, tables);
        records = omega (arith, records);
        coexps = le_refl _;
        files = le_refl _;
      }

  -- each value that was made means the same
  pub means_collected : KeepsMeaning (extent_in parts) (extent_in (collected parts marks strings))
  means_collected = means_by means_more

  stays_by : (val : Val) → ToStayBy marks needed val → LiveBy (extent_in parts) val → LiveBy (extent_in (collected parts marks strings)) val
  stays_by NullVal due is = tt
  stays_by (IntegerVal n) due is = tt
  stays_by (TextVal span) due is = record { of = All-contains (IsOf strings) needed.ranges.items (range_of span) of due }
  stays_by (CharsVal cset) due is = tt
  stays_by (StdVal file) due is = file_by means_more file is
  stays_by (ProcVal number) due is = tt
  stays_by (RecVal id) due is = elim due [ inl was ↦ was | inr waits ↦ absurd (nothing_open needed.structures.items (RecVal id) all.all waits) ]
  stays_by (ListVal id) due is = elim due [ inl was ↦ was | inr waits ↦ absurd (nothing_open needed.structures.items (ListVal id) all.all waits) ]
  stays_by (SetVal id) due is = elim due [ inl was ↦ was | inr waits ↦ absurd (nothing_open needed.structures.items (SetVal id) all.all waits) ]
  stays_by (TableVal id) due is = elim due [ inl was ↦ was | inr waits ↦ absurd (nothing_open needed.structures.items (TableVal id) all.all waits) ]
  stays_by (CoexpVal id) due is = is

  stays : (val : Val) → IsLive (extent_in parts) val → IsToStay marks needed val → IsLive (extent_in (collected parts marks strings)) val
  stays val is due = record { live = stays_by val due.due is.live }

  -- what was needed first is there
  pub live_collected : (val : Val) → IsLive (extent_in parts) val → IsNeeded first val → IsLive (extent_in (collected parts marks strings)) val
  live_collected val is wanted = stays val is (all.reached.roots val wanted)

  -- the heap is sound
  pub sound_collected : IsSoundHeap (collected parts marks strings)
  sound_collected = record {
    structures = record {
      lists =
          all_by_number (IsSoundList (extent_in (collected parts marks strings)) parts.cells) marks.lists parts.lists.things no_vals
          (λ id is within. let closed = all.reached.each (ListVal id) refl is in
          list_lives means_collected (IsToStay marks needed) stays parts.cells (get_or parts.lists.things id no_vals)
          (list_sound parts sound id closed.live.live) closed.held);
      sets =
          all_by_number (All (IsSoundMember (extent_in (collected parts marks strings)))) marks.sets parts.sets.things []
          (λ id is within. let closed = all.reached.each (SetVal id) refl is in
          set_lives means_collected (IsToStay marks needed) stays (get_or parts.sets.things id []) (members_sound parts sound id closed.live.live) closed.held);
      tables =
          all_by_number (IsSoundTable (extent_in (collected parts marks strings))) marks.tables parts.tables.things no_entries
          (λ id is within. let closed = all.reached.each (TableVal id) refl is in
          table_lives means_collected (IsToStay marks needed) stays (get_or parts.tables.things id no_entries)
          (table_sound parts sound id closed.live.live) closed.held);
      records =
          all_by_number (IsSoundRecord (extent_in (collected parts marks strings))) marks.records parts.records.things no_fields
          (λ id is within. let closed = all.reached.each (RecVal id) refl is in
          record_lives means_collected (IsToStay marks needed) stays (get_or parts.records.things id no_fields)
          (record_sound parts sound id closed.live.live) closed.held);
      made_lists = record {
        made = (holds_made means_collected list_vals parts.lists sound.structures.made_lists).made;
        long = all.reached.long.lists ∙ sound.structures.made_lists.long;
      };
      made_sets = record {
        made = (holds_made means_collected set_vals parts.sets sound.structures.made_sets).made;
        long = all.reached.long.sets ∙ sound.structures.made_sets.long;
      };
      made_tables = record {
        made = (holds_made means_collected table_vals parts.tables sound.structures.made_tables).made;
        long = all.reached.long.tables ∙ sound.structures.made_tables.long;
      };
      made_records = record {
        made = (holds_made means_collected record_vals parts.records sound.structures.made_records).made;
        long = all.reached.long.records ∙ sound.structures.made_records.long;
      };
      coexps = sound.structures.coexps;
      files = sound.structures.files;
    };
    charged = record {
      limit = means.limit ∙ sound.charged.limit;
      within = sound.charged.within;
      counted = sound.charged.counted;
      main = sound.charged.main;
    };
  }

  -- and stands for the same
  pub stands_collected : sum_of strings ≡ sum_of parts.strings
      → heap_over (extent_in (collected parts marks strings)) (collected parts marks strings) ≡ heap_over (extent_in parts) parts
  stands_collected same =
      ap (λ sum. let heap : Heap = record (heap_over (extent_in (collected parts marks strings)) parts) { strings = sum } in heap) same
      ∙ over_same (extent_in parts) (extent_in (collected parts marks strings)) means_collected.value parts sound.structures

-- what is there afterwards was marked
pub left_marked : (parts : Parts) (marks : StructureMarks) (strings : Region) (val : Val) → IsLive (extent_in (collected parts marks strings)) val → MarkedBy marks val
left_marked parts marks strings NullVal is = tt
left_marked parts marks strings (IntegerVal n) is = tt
left_marked parts marks strings (TextVal span) is = tt
left_marked parts marks strings (CharsVal cset) is = tt
left_marked parts marks strings (StdVal file) is = tt
left_marked parts marks strings (ProcVal number) is = tt
left_marked parts marks strings (RecVal id) is = is.live
left_marked parts marks strings (ListVal id) is = is.live
left_marked parts marks strings (SetVal id) is = is.live
left_marked parts marks strings (TableVal id) is = is.live
left_marked parts marks strings (CoexpVal id) is = tt

-- what is reached from some values is so from others that have these
pub reached_more : (parts : Parts) (a b : List Val) → ((val : Val) → Contains a val → Contains b val) → (val : Val) → IsReachedFrom parts a val
    → IsReachedFrom parts b val
reached_more parts a b more _ (IsReachedFrom.from_root val is) = IsReachedFrom.from_root val (more val is)
reached_more parts a b more _ (IsReachedFrom.from_held structure val is live held) =
    IsReachedFrom.from_held structure val (reached_more parts a b more structure is) live held

pub leaves_more : (old new : HeldHeap) (a b : List Val) → ((val : Val) → Contains a val → Contains b val) → LeavesReached old new a → LeavesReached old new b
leaves_more old new a b more left = record { reached = λ val structure is. reached_more (parts_of old) a b more val (left.reached val structure is) }

-- what is kept is there, also where memory was wanting
pub kept_anyway : {E : Type 0} {old new : Region} {A : Type 0} (result : Result A E) (ranges : List ByteRange)
    → OnOk result (All (IsOf new) ranges) → OnErr result (IsUnchanged old new) → All (IsOf old) ranges → All (IsOf new) ranges
kept_anyway {E} {old} {new} (Ok done) ranges kept same are = kept
kept_anyway {E} {old} {new} (Err why) ranges kept same are = All-weaker (IsOf old) (IsOf new) same.kept.of ranges are

-- the parts once each shelf gave back what is not marked
pub parts_given : (heap : HeldHeap) (strings : Region) {lists : Shelved (NumberedList Val)} {sets : Shelved (List (Key × Val))} {tables : Shelved Entries}
    {records : Shelved HeldRecord} → lists ≡ with_held heap.lists.shelf heap.lists.marks → sets ≡ with_held heap.sets.shelf heap.sets.marks
    → tables ≡ with_held heap.tables.shelf heap.tables.marks → records ≡ with_held heap.records.shelf heap.records.marks
    → parts strings lists sets tables records heap.coexps.items heap.files.items heap.cells heap.limits ≡ collected (parts_of heap) (marks_of heap) strings
parts_given heap strings a b c d = rw (a, b, c, d) refl

-- heaps of the same parts stand for the same

pub heap_same : (a b : HeldHeap) → parts_of a ≡ parts_of b → heap_of a ≡ heap_of b
unfolding heap_of
heap_same a b same = ap (λ (p : Parts). heap_over (extent_in p) p) same

pub extent_same : (a b : HeldHeap) → parts_of a ≡ parts_of b → extent_of a ≡ extent_of b
unfolding extent_of
extent_same a b same = ap extent_in same
