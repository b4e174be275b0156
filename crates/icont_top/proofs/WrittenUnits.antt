-- Where the texts of units were written, the store holds them, and of all other units what it held.
use Rattle.std.proofs.Common.{◌≡◌, ℕ, zero, suc, Bool, true, false, cond, not, ◌||◌, List, [], ◌∷◌, ◌++◌, map, filter, Some, Result, Ok, Err, refl, sym, ap, ap₂, subst, ◌∙◌, true≢false, arith}
use Rattle.std.specs.Prelude.{codes}
use Rattle.std.specs.List.{flat_map}
use Rattle.std.specs.Map.{update}
use Rattle.std.specs.Str.{bytes_eq}
use Rattle.std.proofs.lemmas.Bool.{cond-true, cond-false, false_from_ne_true}
use Rattle.std.proofs.lemmas.Option.{same_Some}
use Rattle.std.proofs.lemmas.Slice.Eq.{bytes_eq-Decides}
use mathlib.Core.List.{append_cancel_right}
use Rattle.icn_host.specs.FileMaps.{FileMap}
use Rattle.icn_unit.specs.PlainUnits.{UnitRead}
use Rattle.icn_unit.specs.UnitTexts.{decls_text, procs_text}
use Rattle.icn_link.specs.LinkFaults.{unit_names}
use Rattle.law_simulation.specs.Mentions.{firsts}
use Rattle.icn_answer.specs.declared.answer.Answer.{Answer}
use Rattle.icont_units.specs.Files.{CommandFile, file_named, files_named, first_name, is_source_file, same_base, second_name, sources_in}
use Rattle.icont_units.specs.Units.{Member, both_texts, unit_of, unit_texts, units_of, FileComes, FilesCome}
use Rattle.icont_units.proofs.ShortTexts.{is_listed}
use Rattle.icont_units.proofs.SomeLoading.{AreSpelled, judged_read}
use Rattle.icont_top.specs.Job.{AsksForUnits, WrittenFile, as_written, ucode_files}
use Rattle.icont_top.specs.Outcomes.{WritesAll, written_over}
use Rattle.icont_top.specs.Relinking.{AllFit, AreHeld, StandAgain}

-- Names that differ

abbrev Differ : List (List ℕ) → Type 0
Differ [] = Unit {0}
Differ (name ∷ names) = (is_listed names name ≡ false) × Differ names

first_false : (a b : Bool) → (a || b) ≡ false → a ≡ false
first_false true b e = e
first_false false b e = refl

second_false : (a b : Bool) → (a || b) ≡ false → b ≡ false
second_false true b e = absurd (true≢false e)
second_false false b e = e

both_false : (a b : Bool) → a ≡ false → b ≡ false → (a || b) ≡ false
both_false true b e f = e
both_false false b e f = f

abbrev bases : List CommandFile → List (List ℕ)
bases files = map (λ file. file.base) files

-- what is left of files has no name that they had not
kept_name : (passes : Bool) (file : CommandFile) (files : List CommandFile) (name : List ℕ) → bytes_eq name file.base ≡ false
    → is_listed (bases files) name ≡ false
    → is_listed (bases (cond passes (file ∷ files) files)) name ≡ false
kept_name true file files name e f = both_false (bytes_eq name file.base) (is_listed (bases files) name) e f
kept_name false file files name e f = f

less_names : (test : CommandFile → Bool) (files : List CommandFile) (name : List ℕ) → is_listed (bases files) name ≡ false
    → is_listed (bases (filter test files)) name ≡ false
less_names test [] name e = refl
less_names test (file ∷ files) name e =
    kept_name (test file) file (filter test files) name (first_false (bytes_eq name file.base) (is_listed (bases files) name) e)
    (less_names test files name (second_false (bytes_eq name file.base) (is_listed (bases files) name) e))

kept_differ : (passes : Bool) (file : CommandFile) (files : List CommandFile) → is_listed (bases files) file.base ≡ false → Differ (bases files)
    → Differ (bases (cond passes (file ∷ files) files))
kept_differ true file files e h = (e, h)
kept_differ false file files e h = h

less_differ : (test : CommandFile → Bool) (files : List CommandFile) → Differ (bases files) → Differ (bases (filter test files))
less_differ test [] h = tt
less_differ test (file ∷ files) h =
    kept_differ (test file) file (filter test files) (less_names test files file.base h.0) (less_differ test files h.1)

-- a base that is taken out is there no more
taken_one : (same : Bool) (file : CommandFile) (files : List CommandFile) (name : List ℕ) → bytes_eq name file.base ≡ same
    → is_listed (bases files) name ≡ false
    → is_listed (bases (cond (not same) (file ∷ files) files)) name ≡ false
taken_one true file files name e f = f
taken_one false file files name e f = both_false (bytes_eq name file.base) (is_listed (bases files) name) e f

taken_out : (first : CommandFile) (files : List CommandFile) → is_listed (bases (filter (λ other. not (same_base first other)) files)) first.base ≡ false
taken_out first [] = refl
taken_out first (file ∷ files) =
    taken_one (bytes_eq first.base file.base) file (filter (λ other. not (same_base first other)) files) first.base refl (taken_out first files)

firsts_differ : (files : List CommandFile) → Differ (bases (firsts same_base files))
firsts_differ [] = tt
firsts_differ (file ∷ files) =
    (taken_out file (firsts same_base files), less_differ (λ other. not (same_base file other)) (firsts same_base files) (firsts_differ files))

sources_differ : (names : List (List ℕ)) → Differ (bases (sources_in (files_named names)))
sources_differ names = less_differ (λ file. is_source_file file.kind) (files_named names) (firsts_differ (map file_named names))

-- Units have the names of their files

abbrev OfName : CommandFile → Result Member Answer → Type 0
OfName file (Ok member) = (unit_of member).name ≡ file.base
OfName file (Err answer) = Unit {0}

abbrev OfNames : List CommandFile → Result (List Member) Answer → Type 0
OfNames named (Ok members) = unit_names (units_of members) ≡ bases named
OfNames named (Err answer) = Unit {0}

module _ (spelled : AreSpelled) (files : FileMap) where
  comes_named : {file : CommandFile} (found : Result Member Answer) → FileComes files file found → OfName file found
  comes_named _ (FileComes.no_tokens base answer e) = tt
  comes_named _ (FileComes.broken base scan rule place e x) = tt
  comes_named _ (FileComes.translated base scan file e x) = refl
  comes_named _ (FileComes.not_there base name e) = tt
  comes_named _ (FileComes.not_read base first second answer e j) = tt
  comes_named _ (FileComes.read base first second unit e j) = (spelled base first second unit (judged_read j)).2

  come_named : {named : List CommandFile} (found : Result (List Member) Answer) → FilesCome files named found → OfNames named found
  come_named _ FilesCome.none = refl
  come_named _ (FilesCome.one_more file others member members x y) =
      ap₂ (λ (name : List ℕ) (names : List (List ℕ)). name ∷ names) (comes_named (Ok member) x) (come_named (Ok members) y)
  come_named _ (FilesCome.first_refused file others answer x) = tt
  come_named _ (FilesCome.later_refused file others member answer x y) = tt

-- The names of texts

last_behind : ℕ → List ℕ → ℕ
last_behind last [] = last
last_behind last (next ∷ rest) = last_behind next rest

last_of : List ℕ → ℕ
last_of [] = 0
last_of (first ∷ rest) = last_behind first rest

behind_last : (first : ℕ) (base : List ℕ) (a b last : ℕ) → last_behind first (base ++ a ∷ b ∷ last ∷ []) ≡ last
unfolding last_behind
behind_last first [] a b last = refl
behind_last first (next ∷ base) a b last = behind_last next base a b last

ends_so : (base : List ℕ) (a b last : ℕ) → last_of (base ++ a ∷ b ∷ last ∷ []) ≡ last
unfolding last_of last_behind
ends_so [] a b last = refl
ends_so (first ∷ base) a b last = behind_last first base a b last

other_text : (a b : List ℕ) → first_name a ≡ second_name b → ⊥
other_text a b e =
    let ends : 49 ≡ 50 = sym (ends_so a 46 117 49) ∙ (ap last_of e ∙ ends_so b 46 117 50) in omega (arith, ends)

not_same : (a b : List ℕ) → (a ≡ b → ⊥) → bytes_eq a b ≡ false
not_same a b none = false_from_ne_true (bytes_eq a b) (λ e. none ((bytes_eq-Decides a b).0 e))

differ_so : (a b : List ℕ) → bytes_eq a b ≡ false → a ≡ b → ⊥
differ_so a b e same = true≢false (sym ((bytes_eq-Decides a b).1 same) ∙ e)

-- the names of the two texts of a base are none of those of another base
other_first : (a b : List ℕ) → bytes_eq a b ≡ false → bytes_eq (first_name b) (first_name a) ≡ false
other_first a b e = not_same (first_name b) (first_name a) (λ same. differ_so a b e (append_cancel_right a b (codes ".u1") (sym same)))

other_second : (a b : List ℕ) → bytes_eq a b ≡ false → bytes_eq (second_name b) (second_name a) ≡ false
other_second a b e = not_same (second_name b) (second_name a) (λ same. differ_so a b e (append_cancel_right a b (codes ".u2") (sym same)))

first_second : (a b : List ℕ) → bytes_eq (first_name b) (second_name a) ≡ false
first_second a b = not_same (first_name b) (second_name a) (other_text b a)

second_first : (a b : List ℕ) → bytes_eq (second_name b) (first_name a) ≡ false
second_first a b = not_same (second_name b) (first_name a) (λ same. other_text a b (sym same))

-- What stands where texts were written

abbrev texts_written : List UnitRead → List WrittenFile
texts_written units = map as_written (flat_map unit_texts units)

abbrev with_first : FileMap → UnitRead → FileMap
with_first files unit = update bytes_eq files (first_name unit.name) (Some (procs_text unit.procs))

abbrev with_both : FileMap → UnitRead → FileMap
with_both files unit = update bytes_eq (with_first files unit) (second_name unit.name) (Some (decls_text unit.decls))

passed : (files : FileMap) (unit : UnitRead) (name : List ℕ) → bytes_eq (first_name unit.name) name ≡ false → bytes_eq (second_name unit.name) name ≡ false
    → with_both files unit name ≡ files name
passed files unit name e f =
    cond-false (bytes_eq (second_name unit.name) name) (Some (decls_text unit.decls)) (with_first files unit name) f
    ∙ cond-false (bytes_eq (first_name unit.name) name) (Some (procs_text unit.procs)) (files name) e

kept_first : (units : List UnitRead) (files : FileMap) (base : List ℕ) → is_listed (unit_names units) base ≡ false
    → written_over files (texts_written units) (first_name base) ≡ files (first_name base)
kept_first [] files base e = refl
kept_first (unit ∷ units) files base e =
    let other = first_false (bytes_eq base unit.name) (is_listed (unit_names units) base) e in
    kept_first units (with_both files unit) base (second_false (bytes_eq base unit.name) (is_listed (unit_names units) base) e)
    ∙ passed files unit (first_name base) (other_first base unit.name other) (second_first base unit.name)

kept_second : (units : List UnitRead) (files : FileMap) (base : List ℕ) → is_listed (unit_names units) base ≡ false
    → written_over files (texts_written units) (second_name base) ≡ files (second_name base)
kept_second [] files base e = refl
kept_second (unit ∷ units) files base e =
    let other = first_false (bytes_eq base unit.name) (is_listed (unit_names units) base) e in
    kept_second units (with_both files unit) base (second_false (bytes_eq base unit.name) (is_listed (unit_names units) base) e)
    ∙ passed files unit (second_name base) (first_second base unit.name) (other_second base unit.name other)

-- both texts of each unit
abbrev TextsHeld : FileMap → UnitRead → Type 0
TextsHeld files unit = (files (first_name unit.name) ≡ Some (procs_text unit.procs)) × (files (second_name unit.name) ≡ Some (decls_text unit.decls))

abbrev EachHeld : FileMap → List UnitRead → Type 0
EachHeld files [] = Unit {0}
EachHeld files (unit ∷ units) = TextsHeld files unit × EachHeld files units

same_name : (name : List ℕ) → bytes_eq name name ≡ true
same_name name = (bytes_eq-Decides name name).1 refl

held_now : (files : FileMap) (unit : UnitRead) → TextsHeld (with_both files unit) unit
held_now files unit = (
  cond-false (bytes_eq (second_name unit.name) (first_name unit.name)) (Some (decls_text unit.decls)) (with_first files unit (first_name unit.name))
      (second_first unit.name unit.name)
      ∙ cond-true (bytes_eq (first_name unit.name) (first_name unit.name)) (Some (procs_text unit.procs)) (files (first_name unit.name))
      (same_name (first_name unit.name)),
  cond-true (bytes_eq (second_name unit.name) (second_name unit.name)) (Some (decls_text unit.decls)) (with_first files unit (second_name unit.name))
      (same_name (second_name unit.name)),
)

each_held : (units : List UnitRead) (files : FileMap) → Differ (unit_names units) → EachHeld (written_over files (texts_written units)) units
each_held [] files h = tt
each_held (unit ∷ units) files h =
    let now = held_now files unit in (
      (kept_first units (with_both files unit) unit.name h.0 ∙ now.0, kept_second units (with_both files unit) unit.name h.0 ∙ now.1),
      each_held units (with_both files unit) h.1,
    )

-- Stores

members_held : (members : List Member) (files after : FileMap) → EachHeld files (units_of members) → AllFit members
    → ((name : List ℕ) → after name ≡ files name)
    → AreHeld after members
members_held [] files after h fit same i d l = absurd (omega (arith, l))
members_held (member ∷ members) files after h fit same zero d l = record {
  first = same (first_name (unit_of member).name) ∙ h.0.0;
  second = same (second_name (unit_of member).name) ∙ h.0.1;
  fits = fit zero d l;
}
members_held (member ∷ members) files after h fit same (suc i) d l =
    members_held members files after h.1 (λ j e k. fit (suc j) e (omega (arith, k))) same i d (omega (arith, l))

written_so : (before after : FileMap) (members : List Member) → WritesAll (Some before) (Some after) (ucode_files members) → (name : List ℕ)
    → after name ≡ written_over before (texts_written (units_of members)) name
written_so before after members writes name =
    let now : after ≡ writes.follows.0 = same_Some after writes.follows.0 writes.follows.1 in
    ap (λ (files : FileMap). files name) now ∙ writes.follows.2 name

pub stand_again : AreSpelled → (words : List (List ℕ)) (before after : FileMap) (members : List Member) → AsksForUnits words before (Ok members)
    → WritesAll (Some before) (Some after) (ucode_files members) → AllFit members → StandAgain members before after
stand_again spelled words before after members x writes fit =
    let names = come_named spelled before (Ok members) x.come in
    let differ = subst Differ (sym names) (sources_differ x.names) in
    let same = written_so before after members writes in
    record {
      held = members_held members (written_over before (texts_written (units_of members))) after (each_held (units_of members) before differ) fit same;
      others = λ base e. ap₂ (both_texts base) (same (first_name base) ∙ kept_first (units_of members) before base e)
          (same (second_name base) ∙ kept_second (units_of members) before base e);
    }
