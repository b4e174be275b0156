-- What stays as a heap grows.
use Rattle.std.proofs.Common.{◌≡◌, ◌∙◌, refl, ap, ℕ, ◌≤◌, List, [], ◌∷◌, length, map, Option, Some, None, IfSome, arith}
use Rattle.std.proofs.lemmas.Int.{ints}
use Rattle.std.specs.List.{All, flat_map}
use Rattle.std.specs.Option.{option_map}
use Rattle.std.proofs.lemmas.List.Elements.{All-weaker, All-head, All-tail}
use Rattle.icn_strings.specs.Regions.{KeepsBytes, KeepsRanges as KeepsTexts, sum_of}
use Rattle.icn_structs.specs.Numbered.{NumberedList}
use Rattle.icn_structs.specs.Shelves.{Shelved, things_there}
use Rattle.icn_structs.proofs.ShelvedThings.{SetsMore}
use Rattle.icn_value.specs.declared.val.Span.{Span}
use Rattle.icn_value.specs.declared.val.File.{File as HeldFile}
use Rattle.icn_value.specs.declared.val.File.TheVariants.{Input as HeldInput, Output as HeldOutput, Errout as HeldErrout, Opened as HeldOpened}
use Rattle.icn_value.specs.declared.val.Val.{Val}
use Rattle.icn_value.specs.declared.val.Val.TheVariants.{Null as NullVal, Integer as IntegerVal, Text as TextVal, Chars as CharsVal, Std as StdVal, Proc as ProcVal, Rec as RecVal, List as ListVal, Set as SetVal, Table as TableVal, Coexp as CoexpVal}
use Rattle.icn_value.specs.Values.{Value, Text}
use Rattle.icn_value.specs.Limited.{limits_of}
use Rattle.icn_value.specs.Store.{Heap, Table, Record}
use Rattle.icn_heap.specs.Keys.{key_value}
use Rattle.icn_heap.specs.ElementValues.{list_vals, set_vals, pair_vals, table_vals, record_vals}
use Rattle.icn_heap.specs.Extents.{Extent, range_of, IsText, IsMadeText, IsLive, IsMade, FileBy, LiveBy, MadeBy, text_in, value_in, KeepsMeaning, KeepsValues}
use Rattle.icn_heap.specs.HeapParts.{Parts, list_in, set_in, pair_in, table_in, record_in, heap_over, extent_in, IsSoundList, IsSoundMember, IsSoundPair, IsSoundTable, IsSoundRecord, HoldMade, AreSound, IsCharged, IsSoundHeap}
use Rattle.icn_heap.specs.Records.{HeldRecord}
use Rattle.icn_heap.specs.declared.key.Key.{Key}
use Rattle.icn_heap.specs.declared.entries.Entry.{Entry}
use Rattle.icn_heap.specs.declared.entries.Entries.{Entries}
use Rattle.icn_heap.proofs.NeededSteps.{all_of}

-- texts mean the same, and more structures were made and more files were opened, or as many
pub record MeansMore (old new : Extent) : Type 0 where
  pub texts : KeepsBytes old.strings new.strings
  pub lists : length old.lists ≤ length new.lists
  pub sets : length old.sets ≤ length new.sets
  pub tables : length old.tables ≤ length new.tables
  pub records : length old.records ≤ length new.records
  pub coexps : old.coexps ≤ new.coexps
  pub files : old.files ≤ new.files

module _ {a b : Extent} (more : MeansMore a b) where
  pub file_by : (file : HeldFile) → FileBy a file → FileBy b file
  file_by HeldInput is = tt
  file_by HeldOutput is = tt
  file_by HeldErrout is = tt
  file_by (HeldOpened number) is = let many = more.files in omega arith

  made_by : (val : Val) → MadeBy a val → MadeBy b val
  made_by NullVal is = tt
  made_by (IntegerVal n) is = tt
  made_by (TextVal span) is = record { written = more.texts.written (range_of span) is.written }
  made_by (CharsVal cset) is = tt
  made_by (StdVal file) is = file_by file is
  made_by (ProcVal number) is = tt
  made_by (RecVal id) is = let many = more.records in omega arith
  made_by (ListVal id) is = let many = more.lists in omega arith
  made_by (SetVal id) is = let many = more.sets in omega arith
  made_by (TableVal id) is = let many = more.tables in omega arith
  made_by (CoexpVal id) is = let many = more.coexps in omega arith

  made_bytes : (span : Span) → IsMadeText a span → text_in b span ≡ text_in a span
  unfolding text_in
  made_bytes span is = more.texts.bytes (range_of span) is.written

  made_value : (val : Val) → MadeBy a val → value_in b val ≡ value_in a val
  made_value NullVal is = refl
  made_value (IntegerVal n) is = refl
  made_value (TextVal span) is = ap Text (made_bytes span is)
  made_value (CharsVal cset) is = refl
  made_value (StdVal file) is = refl
  made_value (ProcVal number) is = refl
  made_value (RecVal id) is = refl
  made_value (ListVal id) is = refl
  made_value (SetVal id) is = refl
  made_value (TableVal id) is = refl
  made_value (CoexpVal id) is = refl

  pub means_by : KeepsMeaning a b
  means_by = record {
    made = λ val is. record { made = made_by val is.made };
    value = λ val is. made_value val is.made;
    text = λ span is. record { written = more.texts.written (range_of span) is.written };
    bytes = made_bytes;
  }

-- there are more texts, structures and opened files, or as many
pub record Extends (old new : Extent) : Type 0 where
  pub texts : KeepsTexts old.strings new.strings
  pub lists : SetsMore old.lists new.lists
  pub sets : SetsMore old.sets new.sets
  pub tables : SetsMore old.tables new.tables
  pub records : SetsMore old.records new.records
  pub coexps : old.coexps ≤ new.coexps
  pub files : old.files ≤ new.files

-- what was made means the same then
means_more : {a b : Extent} → Extends a b → MeansMore a b
means_more more = record {
  texts = more.texts.means;
  lists = more.lists.long;
  sets = more.sets.long;
  tables = more.tables.long;
  records = more.records.long;
  coexps = more.coexps;
  files = more.files;
}

module _ {a b : Extent} (more : Extends a b) where
  live_by : (val : Val) → LiveBy a val → LiveBy b val
  live_by NullVal is = tt
  live_by (IntegerVal n) is = tt
  live_by (TextVal span) is = record { of = more.texts.of (range_of span) is.of }
  live_by (CharsVal cset) is = tt
  live_by (StdVal file) is = file_by (means_more more) file is
  live_by (ProcVal number) is = tt
  live_by (RecVal id) is = more.records.still id is
  live_by (ListVal id) is = more.lists.still id is
  live_by (SetVal id) is = more.sets.still id is
  live_by (TableVal id) is = more.tables.still id is
  live_by (CoexpVal id) is = let many = more.coexps in omega arith

  bytes_by : (span : Span) → IsText a span → text_in b span ≡ text_in a span
  unfolding text_in
  bytes_by span is = more.texts.bytes (range_of span) is.of

  value_by : (val : Val) → LiveBy a val → value_in b val ≡ value_in a val
  value_by NullVal is = refl
  value_by (IntegerVal n) is = refl
  value_by (TextVal span) is = ap Text (bytes_by span is)
  value_by (CharsVal cset) is = refl
  value_by (StdVal file) is = refl
  value_by (ProcVal number) is = refl
  value_by (RecVal id) is = refl
  value_by (ListVal id) is = refl
  value_by (SetVal id) is = refl
  value_by (TableVal id) is = refl
  value_by (CoexpVal id) is = refl

  pub keeps_by : KeepsValues a b
  keeps_by = record {
    means = means_by (means_more more);
    live = λ val is. record { live = live_by val is.live };
    value = λ val is. value_by val is.live;
    text = λ span is. record { of = more.texts.of (range_of span) is.of };
    bytes = bytes_by;
  }

-- what was made stands for the same after one change and then another one
means_trans : {a b c : Extent} → KeepsMeaning a b → KeepsMeaning b c → KeepsMeaning a c
means_trans first second = record {
  made = λ val is. second.made val (first.made val is);
  value = λ val is. second.value val (first.made val is) ∙ first.value val is;
  text = λ span is. second.text span (first.text span is);
  bytes = λ span is. second.bytes span (first.text span is) ∙ first.bytes span is;
}

pub means_refl : (a : Extent) → KeepsMeaning a a
means_refl a = record { made = λ val is. is; value = λ val is. refl; text = λ span is. is; bytes = λ span is. refl }

-- what one change and then another one keep, both keep
pub keeps_trans : {a b c : Extent} → KeepsValues a b → KeepsValues b c → KeepsValues a c
keeps_trans first second = record {
  means = means_trans first.means second.means;
  live = λ val is. second.live val (first.live val is);
  value = λ val is. second.value val (first.live val is) ∙ first.value val is;
  text = λ span is. second.text span (first.text span is);
  bytes = λ span is. second.bytes span (first.text span is) ∙ first.bytes span is;
}

-- a heap keeps what it has
pub keeps_refl : (a : Extent) → KeepsValues a a
keeps_refl a =
    record { means = means_refl a; live = λ val is. is; value = λ val is. refl; text = λ span is. is; bytes = λ span is. refl }

-- what is made of each element is the same, where it is the same of each element that a fact holds of
mapped : {X Y : Type 0} (P : X → Type 0) (f g : X → Y) → ((x : X) → P x → f x ≡ g x) → (xs : List X) → All P xs → map f xs ≡ map g xs
mapped P f g same [] are = refl
mapped P f g same (x ∷ xs) are =
    let first : f x ≡ g x = same x (All-head P x xs are) in
    let rest : map f xs ≡ map g xs = mapped P f g same xs (All-tail P x xs are) in
    cc

module _ (a b : Extent) (value : (val : Val) → IsLive a val → value_in b val ≡ value_in a val) where
  -- where each value that is of a heap stands for the same, so do values
  pub values_same : (vals : List Val) → All (IsLive a) vals → map (value_in b) vals ≡ map (value_in a) vals
  values_same vals are = mapped (IsLive a) (value_in b) (value_in a) value vals are

module _ (a b : Extent) (value : (val : Val) → IsMade a val → value_in b val ≡ value_in a val) where
  vals_same : (vals : List Val) → All (IsMade a) vals → map (value_in b) vals ≡ map (value_in a) vals
  vals_same vals are = mapped (IsMade a) (value_in b) (value_in a) value vals are

  list_same : (list : NumberedList Val) → All (IsMade a) (list_vals list) → list_in b list ≡ list_in a list
  list_same list are = ap (λ items. let it : NumberedList Value = record { items = items; number = list.number } in it) (vals_same list.items are)

  pair_same : (pair : Key × Entry) → All (IsMade a) (pair_vals pair) → pair_in b pair ≡ pair_in a pair
  pair_same pair are =
      ap (λ (it : Value). let e : Value × Value = (key_value pair.0, it) in e)
      (value pair.1.value (All-head (IsMade a) pair.1.value [] (All-tail (IsMade a) pair.1.key (pair.1.value ∷ []) are)))

  table_same : (table : Entries) → All (IsMade a) (table_vals table) → table_in b table ≡ table_in a table
  table_same table are =
      let made : All (λ pair. All (IsMade a) (pair_vals pair)) table.pairs =
      all_of (IsMade a) pair_vals table.pairs (All-tail (IsMade a) table.default (flat_map pair_vals table.pairs) are) in
      let first : value_in b table.default ≡ value_in a table.default =
      value table.default (All-head (IsMade a) table.default (flat_map pair_vals table.pairs) are) in
      let rest : map (pair_in b) table.pairs ≡ map (pair_in a) table.pairs =
      mapped (λ pair. All (IsMade a) (pair_vals pair)) (pair_in b) (pair_in a) pair_same table.pairs made in
      cc

  record_same : (held : HeldRecord) → All (IsMade a) (record_vals held) → record_in b held ≡ record_in a held
  record_same held are = ap (λ fields. let r : Record = record { kind = held.kind; fields = fields } in r) (vals_same held.values are)

  -- and what the parts stand for is the same
  pub over_same : (parts : Parts) → AreSound a parts → heap_over b parts ≡ heap_over a parts
  over_same parts are =
      heap_by (mapped _ _ _ list_same parts.lists.things are.made_lists.made) (mapped _ _ _ table_same parts.tables.things are.made_tables.made)
      (mapped _ _ _ record_same parts.records.things are.made_records.made)
    where
      heap_by : {lists lists' : List (NumberedList Value)} {tables tables' : List Table} {records records' : List Record}
          → lists' ≡ lists → tables' ≡ tables → records' ≡ records
          → (let s : Heap = record {
            lists = lists';
            sets = map set_in parts.sets.things;
            tables = tables';
            records = records';
            coexps = parts.coexps;
            files = parts.files;
            strings = sum_of parts.strings;
            cells = parts.cells;
            bounds = limits_of parts.limits;
          } in s)
          ≡ (let t : Heap = record {
            lists = lists;
            sets = map set_in parts.sets.things;
            tables = tables;
            records = records;
            coexps = parts.coexps;
            files = parts.files;
            strings = sum_of parts.strings;
            cells = parts.cells;
            bounds = limits_of parts.limits;
          } in t)
      heap_by lists tables records = cc

-- what structures hold was made afterwards too
pub holds_made : {a b : Extent} → KeepsMeaning a b → {X : Type 0} (vals : X → List Val) (shelf : Shelved X) → HoldMade a vals shelf → HoldMade b vals shelf
holds_made {a} {b} means vals shelf are = record {
  made =
      All-weaker (λ structure. All (IsMade a) (vals structure)) (λ structure. All (IsMade b) (vals structure))
      (λ structure is. All-weaker (IsMade a) (IsMade b) means.made (vals structure) is) shelf.things are.made;
  long = are.long;
}

module _ {a b : Extent} (keeps : KeepsValues a b) where
  -- and they stand for the same values
  pub values_kept : (vals : List Val) → All (IsLive a) vals → map (value_in b) vals ≡ map (value_in a) vals
  values_kept vals are = values_same a b keeps.value vals are

  -- values that are of the heap before are of the heap after
  pub live_kept : (vals : List Val) → All (IsLive a) vals → All (IsLive b) vals
  live_kept vals are = All-weaker (IsLive a) (IsLive b) keeps.live vals are

  pub optional_kept : (val : Option Val) → IfSome val (IsLive a) → option_map (value_in b) val ≡ option_map (value_in a) val
  optional_kept None is = refl
  optional_kept (Some val) is = ap Some (keeps.value val is)

  -- what the parts stand for
  pub over_kept : (parts : Parts) → AreSound a parts → heap_over b parts ≡ heap_over a parts
  over_kept parts are = over_same a b keeps.means.value parts are

  sound_list_stays : (cells : ℕ) (list : NumberedList Val) → IsSoundList a cells list → IsSoundList b cells list
  sound_list_stays cells list is = record { live = live_kept list.items is.live; low = is.low; high = is.high }

  member_stays : (member : Key × Val) → IsSoundMember a member → IsSoundMember b member
  member_stays member is = record { live = keeps.live member.1 is.live; formed = is.formed; alike = rw (keeps.value member.1 is.live) is.alike }

  pair_stays : (pair : Key × Entry) → IsSoundPair a pair → IsSoundPair b pair
  pair_stays pair is = record {
    key = keeps.live pair.1.key is.key;
    value = keeps.live pair.1.value is.value;
    formed = is.formed;
    alike = rw (keeps.value pair.1.key is.key) is.alike;
  }

  table_stays : (table : Entries) → IsSoundTable a table → IsSoundTable b table
  table_stays table is =
      record { default = keeps.live table.default is.default; pairs = All-weaker (IsSoundPair a) (IsSoundPair b) pair_stays table.pairs is.pairs }

  record_stays : (held : HeldRecord) → IsSoundRecord a held → IsSoundRecord b held
  record_stays held is = record { live = live_kept held.values is.live; few = is.few }

  pub sound_kept : (parts : Parts) → AreSound a parts → AreSound b parts
  sound_kept parts are = record {
    lists = All-weaker _ _ (sound_list_stays parts.cells) (things_there parts.lists) are.lists;
    sets = All-weaker _ _ (λ set is. All-weaker _ _ member_stays set is) (things_there parts.sets) are.sets;
    tables = All-weaker _ _ table_stays (things_there parts.tables) are.tables;
    records = All-weaker _ _ record_stays (things_there parts.records) are.records;
    made_lists = holds_made keeps.means list_vals parts.lists are.made_lists;
    made_sets = holds_made keeps.means set_vals parts.sets are.made_sets;
    made_tables = holds_made keeps.means table_vals parts.tables are.made_tables;
    made_records = holds_made keeps.means record_vals parts.records are.made_records;
    coexps = are.coexps;
    files = are.files;
  }

sound_list_later : (all : Extent) (cells sum : ℕ) → cells ≤ sum → (list : NumberedList Val) → IsSoundList all cells list → IsSoundList all sum list
sound_list_later all cells sum more list is = record {
  live = is.live;
  low = let low = is.low in omega (arith, ints);
  high = let high = is.high in omega (arith, ints);
}

-- lists are sound once more cells are charged
pub lists_later : (all : Extent) (cells sum : ℕ) → cells ≤ sum → (lists : List (NumberedList Val)) → All (IsSoundList all cells) lists
    → All (IsSoundList all sum) lists
lists_later all cells sum more lists are = All-weaker _ _ (sound_list_later all cells sum more) lists are

-- The parts become others, which stand for this heap: every value stays, and what each heap keeps holds.
pub record Becomes (old new : Parts) (heap : Heap) : Type 0 where
  pub sound : IsSoundHeap new
  pub keeps : KeepsValues (extent_in old) (extent_in new)
  pub stands : heap_over (extent_in new) new ≡ heap

-- it is enough that the new parts are sound, and stand for this, by the extent before
pub becomes : {old new : Parts} {heap : Heap} → Extends (extent_in old) (extent_in new) → AreSound (extent_in old) new → IsCharged new
    → heap_over (extent_in old) new ≡ heap
    → Becomes old new heap
becomes {old} {new} {heap} more are charged same =
    let keeps : KeepsValues (extent_in old) (extent_in new) = keeps_by more in
    record { sound = record { structures = sound_kept keeps new are; charged = charged }; keeps = keeps; stands = over_kept keeps new are ∙ same }
