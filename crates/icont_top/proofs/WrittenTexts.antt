-- The ucode texts of units, and what writing them one after the other leaves.
use Rattle.std.proofs.Common.{◌≡◌, ℕ, zero, suc, ◌<◌, Bool, true, false, cond, List, [], ◌∷◌, ◌++◌, map, length, drop, Option, None, Some, refl, sym, ap, ◌∙◌, subst, arith, append_assoc}
use Rattle.std.specs.Prelude.{All, slice_index_or, string_bytes}
use Rattle.std.specs.List.{flat_map}
use Rattle.std.specs.Map.{update}
use Rattle.std.specs.Str.{bytes_eq}
use Rattle.std.proofs.lemmas.Option.{none-some, same_Some}
use Rattle.icn_host.specs.FileMaps.{FileMap, Follows, IsLeftBehind, SetsFile, SetsPart}
use Rattle.icn_unit.specs.PlainUnits.{UnitRead}
use Rattle.icn_unit.specs.UnitRules.{keeps_rules}
use Rattle.icn_unit.specs.UnitTexts.{decls_text, procs_text}
use Rattle.icn_unit.specs.declared.unit.Unit.{Unit as HeldUnit}
use Rattle.icn_ucode.specs.UnitReading.{Whole, unit_read}
use Rattle.icn_link.specs.LinkFaults.{unit_names}
use Rattle.icn_link.specs.Units.{unit_seen, units_seen}
use Rattle.icont_units.specs.declared.files.CommandFile.{CommandFile as HeldFile}
use Rattle.icont_units.specs.FetchedFiles.{files_seen}
use Rattle.icont_units.specs.Units.{Member, unit_of, unit_texts, units_of}
use Rattle.icont_top.specs.Job.{WrittenFile, as_written, ucode_files}
use Rattle.icont_top.specs.Outcomes.{IsReadBack, WritesAll, WritesPart, written_over}
use Rattle.icont_top.specs.declared.writing.FileToWrite.{FileToWrite}
use Rattle.icont_top.specs.Writing.{bases, text_seen, texts_seen, unit_written, units_written}

-- Texts

pub unit_next : (names : List (List ℕ)) (place : ℕ) (unit : UnitRead) (units : List UnitRead) → units_written (drop place names) (unit ∷ units)
    ≡ unit_written (slice_index_or names place []) unit ++ units_written (drop (suc place) names) units
unit_next [] zero unit units = refl
unit_next [] (suc place) unit units = refl
unit_next (base ∷ names) zero unit units = refl
unit_next (base ∷ names) (suc place) unit units = unit_next names place unit units

-- the base of the file at a place
pub based_at : (files : List HeldFile) (place : ℕ) (file : HeldFile) → place < length files → file ≡ slice_index_or files place file
    → file.base.now ≡ slice_index_or (bases (files_seen files)) place []
based_at [] place file l e = absurd (omega (arith, l))
based_at (next ∷ files) zero file l e = ap (λ (f : HeldFile). f.base.now) e
based_at (next ∷ files) (suc place) file l e = based_at files place file (omega (arith, l)) e

-- the units from a place on begin with the one that stands there
pub units_from : (units : List HeldUnit) (place : ℕ) (unit : HeldUnit) → place < length units → unit ≡ slice_index_or units place unit
    → units_seen (drop place units) ≡ unit_seen unit ∷ units_seen (drop (suc place) units)
units_from [] place unit l e = absurd (omega (arith, l))
units_from (first ∷ units) zero unit l e = ap (λ u. unit_seen u ∷ units_seen units) (sym e)
units_from (first ∷ units) (suc place) unit l e = units_from units place unit (omega (arith, l)) e

-- one more unit
pub one_more : (names : List (List ℕ)) (units : List HeldUnit) (place : ℕ) (unit : HeldUnit) (done now : List WrittenFile) (all : List WrittenFile)
    → done ++ units_written (drop place names) (units_seen (drop place units)) ≡ all
    → place < length units → unit ≡ slice_index_or units place unit
    → now ≡ done ++ unit_written (slice_index_or names place []) (unit_seen unit)
    → now ++ units_written (drop (suc place) names) (units_seen (drop (suc place) units)) ≡ all
one_more names units place unit done now all before l e is =
    let rest = units_written (drop (suc place) names) (units_seen (drop (suc place) units)) in
    let here = unit_written (slice_index_or names place []) (unit_seen unit) in
    ap (λ texts. texts ++ rest) is
    ∙ (append_assoc done here rest
    ∙ (ap (λ texts. done ++ texts) (sym (ap (units_written (drop place names)) (units_from units place unit l e)
    ∙ unit_next names place (unit_seen unit) (units_seen (drop (suc place) units)))) ∙ before))

-- units that have their own names have their own texts
pub own_texts : (units : List UnitRead) → units_written (unit_names units) units ≡ map as_written (flat_map unit_texts units)
own_texts [] = refl
own_texts (unit ∷ units) = ap (λ texts. unit_written unit.name unit ++ texts) (own_texts units)

pub are_ucode : (names : List (List ℕ)) (units : List UnitRead) (members : List Member) → units ≡ units_of members
    → names ≡ unit_names (units_of members) → units_written names units ≡ ucode_files members
are_ucode names units members e same = rw (same, e) (own_texts (units_of members))

-- Units that keep the rules are read back

abbrev pub ReadBack : Type 0
ReadBack = (unit : UnitRead) → keeps_rules unit.procs unit.decls ≡ true
    → unit_read unit.name (procs_text unit.procs) (decls_text unit.decls) ≡ Whole unit

abbrev IsReadUnit : UnitRead → Type 0
IsReadUnit unit = unit_read unit.name (procs_text unit.procs) (decls_text unit.decls) ≡ Whole unit

none_read : All IsReadBack []
none_read i d l = absurd (omega (arith, l))

one_read : (member : Member) (members : List Member) → IsReadBack member → All IsReadBack members → All IsReadBack (member ∷ members)
one_read member members h k zero d l = h
one_read member members h k (suc i) d l = k i d (omega (arith, l))

head_same : (a b : UnitRead) (us vs : List UnitRead) → a ∷ us ≡ b ∷ vs → a ≡ b
head_same a b us vs e = ap (λ units. elim units [ [] ↦ a | x ∷ xs ↦ x ]) e

tail_same : (a b : UnitRead) (us vs : List UnitRead) → a ∷ us ≡ b ∷ vs → us ≡ vs
tail_same a b us vs e = ap (λ units. elim units [ [] ↦ us | x ∷ xs ↦ xs ]) e

none-some-unit : (unit : UnitRead) (units : List UnitRead) → ◌≡◌ {A = List UnitRead} [] (unit ∷ units) → ⊥
none-some-unit unit units e = cc

pub all_read : ReadBack → (units : List HeldUnit) (members : List Member) → units_seen units ≡ units_of members → All IsReadBack members
all_read back units [] e = none_read
all_read back [] (member ∷ members) e = absurd (none-some-unit (unit_of member) (units_of members) e)
all_read back (unit ∷ units) (member ∷ members) e =
    one_read member members
    (subst IsReadUnit (head_same (unit_seen unit) (unit_of member) (units_seen units) (units_of members) e) (back (unit_seen unit) unit.rules))
    (all_read back units members (tail_same (unit_seen unit) (unit_of member) (units_seen units) (units_of members) e))

-- Writing

-- some first texts were written, and these are left
pub record WritesSome (before now : Option FileMap) (all rest : List WrittenFile) : Type 0 where
  pub done : List WrittenFile
  pub are : all ≡ done ++ rest
  pub follows : Follows before now (λ old new. (q : List ℕ) → new q ≡ written_over old done q)

pub writes_none : (held held' : Option FileMap) → held' ≡ held → WritesAll held held' []
writes_none None held' e = record { follows = tt }
writes_none (Some old) held' e = record { follows = (old, e, λ q. refl) }

pub some_none : (held : Option FileMap) (all : List WrittenFile) → WritesSome held held all all
some_none None all = record { done = []; are = refl; follows = tt }
some_none (Some old) all = record { done = []; are = refl; follows = (old, refl, λ q. refl) }

-- a map over which one more text is written
over_more : (old : FileMap) (done : List WrittenFile) (next : WrittenFile)
    → written_over old (done ++ next ∷ []) ≡ update bytes_eq (written_over old done) next.name (Some next.bytes)
over_more old [] next = refl
over_more old (first ∷ done) next = over_more (update bytes_eq old first.name (Some first.bytes)) done next

updated : (test : Bool) (content was now : Option (List ℕ)) → was ≡ now → cond test content was ≡ cond test content now
updated true content was now e = refl
updated false content was now e = e

-- the same update of maps that are alike
update_alike : (a b : FileMap) (name : List ℕ) (content : Option (List ℕ)) (q : List ℕ) → a q ≡ b q
    → update bytes_eq a name content q ≡ update bytes_eq b name content q
update_alike a b name content q e = updated (bytes_eq name q) content (a q) (b q) e

pub wrote_more : {before now after : Option FileMap} {all : List WrittenFile} (next : WrittenFile) (rest : List WrittenFile)
    → WritesSome before now all (next ∷ rest)
    → SetsFile now after next.name next.bytes → WritesSome before after all rest
wrote_more {before = before} {now} {after} {all} next rest some sets = record {
  done = some.done ++ next ∷ [];
  are = some.are ∙ sym (append_assoc some.done (next ∷ []) rest);
  follows = by before now some.follows sets.follows;
} where
  by : (before now : Option FileMap) → Follows before now (λ old new. (q : List ℕ) → new q ≡ written_over old some.done q)
      → Follows now after (λ old new. (q : List ℕ) → new q ≡ update bytes_eq old next.name (Some next.bytes) q)
      → Follows before after (λ old new. (q : List ℕ) → new q ≡ written_over old (some.done ++ next ∷ []) q)
  by None now f g = tt
  by (Some old) None f g = absurd (none-some f.0 f.1)
  by (Some old) (Some files) f g =
      let same : files ≡ f.0 = same_Some files f.0 f.1 in (
        g.0,
        g.1,
        λ q. g.2 q ∙ (update_alike files (written_over old some.done) next.name (Some next.bytes) q
            (ap (λ (m : FileMap). m q) same ∙ f.2 q) ∙ ap (λ (m : FileMap). m q) (sym (over_more old some.done next))),
      )

pub wrote_part : {before now after : Option FileMap} {all : List WrittenFile} (next : WrittenFile) (rest : List WrittenFile)
    → WritesSome before now all (next ∷ rest)
    → SetsPart now after next.name next.bytes → WritesPart before after all
wrote_part {before = before} {now} {after} {all} next rest some sets = record {
  whole = some.done;
  torn = next;
  others = rest;
  are = some.are;
  follows = by before now some.follows sets.follows;
} where
  by : (before now : Option FileMap) → Follows before now (λ old new. (q : List ℕ) → new q ≡ written_over old some.done q)
      → Follows now after (λ old new. (content : Option (List ℕ)) × IsLeftBehind (old next.name) next.bytes content
      × ((q : List ℕ) → new q ≡ update bytes_eq old next.name content q))
      → Follows before after (λ old new. (content : Option (List ℕ)) × IsLeftBehind (written_over old some.done next.name) next.bytes content
      × ((q : List ℕ) → new q ≡ update bytes_eq (written_over old some.done) next.name content q))
  by None now f g = tt
  by (Some old) None f g = absurd (none-some f.0 f.1)
  by (Some old) (Some files) f g =
      let same : files ≡ f.0 = same_Some files f.0 f.1 in
      let alike : (q : List ℕ) → files q ≡ written_over old some.done q = λ q. ap (λ (m : FileMap). m q) same ∙ f.2 q in (
        g.0,
        g.1,
        (
          g.2.0,
          subst (λ was. IsLeftBehind was next.bytes g.2.0) (alike next.name) g.2.1,
          λ q. g.2.2 q ∙ update_alike files (written_over old some.done) next.name g.2.0 q (alike q),
        ),
      )

-- a text of a list of texts

pub text_more : {before now after : Option FileMap} {all : List WrittenFile} (text : FileToWrite) (others rest : List FileToWrite) (name bytes : List ℕ)
    → WritesSome before now all (texts_seen rest) → rest ≡ text ∷ others → name ≡ string_bytes text.name → bytes ≡ text.bytes.items
    → SetsFile now after name bytes → WritesSome before after all (texts_seen others)
text_more {before} {now} {after} {all} text others rest name bytes some e n b sets =
    let from : WritesSome before now all (texts_seen (text ∷ others)) = subst (λ list. WritesSome before now all (texts_seen list)) e some in
    let set : SetsFile now after (string_bytes text.name) text.bytes.items = rw (n, b) at sets in
    wrote_more (text_seen text) (texts_seen others) from set

pub text_part : {before now after : Option FileMap} {all : List WrittenFile} (text : FileToWrite) (others rest : List FileToWrite) (name bytes : List ℕ)
    → WritesSome before now all (texts_seen rest) → rest ≡ text ∷ others → name ≡ string_bytes text.name → bytes ≡ text.bytes.items
    → SetsPart now after name bytes → WritesPart before after all
text_part {before} {now} {after} {all} text others rest name bytes some e n b sets =
    let from : WritesSome before now all (texts_seen (text ∷ others)) = subst (λ list. WritesSome before now all (texts_seen list)) e some in
    let set : SetsPart now after (string_bytes text.name) text.bytes.items = rw (n, b) at sets in
    wrote_part (text_seen text) (texts_seen others) from set
