-- Files and units come to something. What is linked from ucode has at most 65535 bytes, so that no more is read at some time.
use Rattle.std.proofs.Common.{◌≡◌, ◌⊎◌, inl, inr, ℕ, zero, suc, ◌≤◌, ◌<◌, Bool, true, false, List, [], ◌∷◌, ◌++◌, nat_le, length, take, Result, Ok, Err, refl, sym, ap, true≢false, arith}
use Rattle.std.specs.Prelude.{◌&&◌, ◌-◌, codes, nat_eq, if◌then◌else◌}
use Rattle.std.specs.List.{ends_with, flat_map, list_all}
use Rattle.std.specs.Str.{bytes_eq, is_utf8}
use Rattle.std.proofs.lemmas.Bool.{cases_lt}
use Rattle.std.proofs.lemmas.Bool.Decides.{nat_tests}
use Rattle.std.proofs.lemmas.Slice.Eq.{bytes_eq-Decides}
use Rattle.icn_host.specs.FileMaps.{FileMap}
use Rattle.icn_tree.specs.declared.token.Token.{Token}
use Rattle.icn_tree.specs.Tokens.{Tokenized, Scanned, Fault, tokens_of}
use Rattle.icn_unit.specs.PlainUnits.{PlainDecl, Global, Procedure, Link, Invocable, Record, UnitRead}
use Rattle.icn_unit.specs.UnitRules.{is_byte, is_byte_text, keeps_decl, keeps_decls, keeps_procs, keeps_rules, same_names, names_differ}
use Rattle.icn_unit.specs.PlainUnits.{owned_names}
use Rattle.icn_unit.specs.UnitTexts.{decls_text, procs_text}
use Rattle.icn_ucode.specs.UnitReading.{UnitOutcome, Whole, Faulty, unit_read}
use Rattle.icn_link.specs.LinkFaults.{base_of}
use Rattle.icn_answer.specs.declared.answer.Answer.{Answer}
use Rattle.icont_units.specs.declared.files.FileKind.{FileKind}
use Rattle.icont_units.specs.declared.files.FileKind.TheVariants.{Source, Ucode}
use Rattle.icont_units.specs.Files.{CommandFile, source_name}
use Rattle.icont_units.specs.Generated.{GeneratedComes, generated_lines}
use Rattle.icont_units.specs.Sources.{ScannedSource, source_read}
use Rattle.icont_units.specs.Translating.{TokensGive}
use Rattle.icont_units.specs.Units.{Member, FromUcode, texts_held, unit_found, unit_of, AreJudged, FileComes, FilesCome, IsAbsent, IsHeld, is_there, link_in, links_of, links_in, Gather, Load}
use Rattle.icont_units.proofs.EqualResults.{ok_injective, ok_is_not_err}
use Rattle.icont_units.proofs.ShortTexts.{all_both, any_back, both_first, and_second, and_intro, either, fewer_wait, is_listed, has_all, has_text, or_of_first, or_of_second, texts_of, waiting}
use Rattle.icont_units.proofs.Verdicts.{Verdict, some_become}

-- Both texts of a unit

second_judged : (base first second : List ℕ) → length first ≤ 268435456 → (268435456 < length second) ⊎ (length second ≤ 268435456)
    → (result : Result UnitRead Answer) × AreJudged base first second result
second_judged base first second l (inl long) = (_, AreJudged.second_too_long l long)
second_judged base first second l (inr short) = (_, AreJudged.read l short)

first_judged : (base first second : List ℕ) → (268435456 < length first) ⊎ (length first ≤ 268435456)
    → (result : Result UnitRead Answer) × AreJudged base first second result
first_judged base first second (inl long) = (_, AreJudged.first_too_long long)
first_judged base first second (inr short) = second_judged base first second short (cases_lt 268435456 (length second))

some_judged : (base first second : List ℕ) → (result : Result UnitRead Answer) × AreJudged base first second result
some_judged base first second = first_judged base first second (cases_lt 268435456 (length first))

whole_of : (base : List ℕ) (outcome : UnitOutcome) (unit : UnitRead) → unit_found base outcome ≡ Ok unit → outcome ≡ Whole unit
whole_of base (Whole other) unit e = ap Whole (ok_injective other unit e)
whole_of base (Faulty rule second) unit e = absurd (ok_is_not_err unit _ (sym e))

read_of : {base first second : List ℕ} (result : Result UnitRead Answer) → AreJudged base first second result → (unit : UnitRead) → result ≡ Ok unit
    → unit_read base first second ≡ Whole unit
read_of _ (AreJudged.first_too_long l) unit e = absurd (ok_is_not_err unit _ (sym e))
read_of _ (AreJudged.second_too_long s l) unit e = absurd (ok_is_not_err unit _ (sym e))
read_of {base} {first} {second} _ (AreJudged.read s l) unit e = whole_of base (unit_read base first second) unit e

-- texts that come to a unit are read as it
pub judged_read : {base first second : List ℕ} {unit : UnitRead} → AreJudged base first second (Ok unit) → unit_read base first second ≡ Whole unit
judged_read {unit = unit} x = read_of (Ok unit) x unit refl

-- Files that are named

by_verdict : (files : FileMap) (base : List ℕ) (scan : ScannedSource) (verdict : Verdict) → source_read files (source_name base) ≡ Ok scan
    → TokensGive scan.tokens verdict → (found : Result Member Answer) × FileComes files (record { kind = Source; base = base }) found
by_verdict files base scan (Ok file) e x = (_, FileComes.translated base scan file e x)
by_verdict files base scan (Err broken) e x = (_, FileComes.broken base scan broken.0 broken.1 e x)

by_read : (files : FileMap) (base : List ℕ) (read : Result ScannedSource Answer) → source_read files (source_name base) ≡ read
    → (found : Result Member Answer) × FileComes files (record { kind = Source; base = base }) found
by_read files base (Err answer) e = (_, FileComes.no_tokens base answer e)
by_read files base (Ok scan) e = let some = some_become scan.tokens in by_verdict files base scan some.0 e some.1

by_judged : (files : FileMap) (base first second : List ℕ) (result : Result UnitRead Answer) → texts_held files base ≡ Ok (first, second)
    → AreJudged base first second result → (found : Result Member Answer) × FileComes files (record { kind = Ucode; base = base }) found
by_judged files base first second (Ok unit) e x = (_, FileComes.read base first second unit e x)
by_judged files base first second (Err answer) e x = (_, FileComes.not_read base first second answer e x)

by_texts : (files : FileMap) (base : List ℕ) (texts : Result (List ℕ × List ℕ) (List ℕ)) → texts_held files base ≡ texts
    → (found : Result Member Answer) × FileComes files (record { kind = Ucode; base = base }) found
by_texts files base (Err name) e = (_, FileComes.not_there base name e)
by_texts files base (Ok texts) e = let some = some_judged base texts.0 texts.1 in by_judged files base texts.0 texts.1 some.0 e some.1

by_kind : (files : FileMap) (kind : FileKind) (base : List ℕ) → (found : Result Member Answer) × FileComes files (record { kind = kind; base = base }) found
by_kind files Source base = by_read files base (source_read files (source_name base)) refl
by_kind files Ucode base = by_texts files base (texts_held files base) refl

pub some_comes : (files : FileMap) (file : CommandFile) → (found : Result Member Answer) × FileComes files file found
some_comes files file = by_kind files file.kind file.base

with_first : {files : FileMap} {file : CommandFile} {others : List CommandFile} (first : Result Member Answer) (rest : Result (List Member) Answer)
    → FileComes files file first
    → FilesCome files others rest → (found : Result (List Member) Answer) × FilesCome files (file ∷ others) found
with_first {file = file} {others = others} (Err answer) rest x y = (_, FilesCome.first_refused file others answer x)
with_first {file = file} {others = others} (Ok member) (Err answer) x y = (_, FilesCome.later_refused file others member answer x y)
with_first {file = file} {others = others} (Ok member) (Ok members) x y = (_, FilesCome.one_more file others member members x y)

pub some_come : (files : FileMap) (named : List CommandFile) → (found : Result (List Member) Answer) × FilesCome files named found
some_come files [] = (_, FilesCome.none)
some_come files (file ∷ others) =
    let first = some_comes files file in
    let rest = some_come files others in with_first first.0 rest.0 first.1 rest.1

-- Bases that units link

-- what the law of ucode says
abbrev pub KeepRules : Type 0
KeepRules = (name u1 u2 : List ℕ) (unit : UnitRead) → unit_read name u1 u2 ≡ Whole unit → keeps_rules unit.procs unit.decls ≡ true

abbrev pub AreSpelled : Type 0
AreSpelled = (name u1 u2 : List ℕ) (unit : UnitRead) → unit_read name u1 u2 ≡ Whole unit
    → (procs_text unit.procs ≡ u1) × (decls_text unit.decls ≡ u2) × (unit.name ≡ name)

decls_kept : (unit : UnitRead) → keeps_rules unit.procs unit.decls ≡ true → list_all keeps_decl unit.decls ≡ true
unfolding keeps_rules
decls_kept unit e =
    let both = both_first (keeps_procs unit.procs && keeps_decls unit.decls) (same_names unit.procs unit.decls) e in
    let kept = and_second (keeps_procs unit.procs) (keeps_decls unit.decls) both in
    both_first (list_all keeps_decl unit.decls) (names_differ (owned_names unit.decls)) kept

all_taken : {A : Type 0} (p : A → Bool) (n : ℕ) (xs : List A) → list_all p xs ≡ true → list_all p (take n xs) ≡ true
all_taken p zero xs h = refl
all_taken p (suc n) [] h = refl
all_taken p (suc n) (x ∷ xs) h =
    and_intro (p x) (list_all p (take n xs)) (both_first (p x) (list_all p xs) h) (all_taken p n xs (and_second (p x) (list_all p xs) h))

few_taken : {A : Type 0} (n : ℕ) (xs : List A) → length (take n xs) ≤ length xs
few_taken zero xs = omega arith
few_taken (suc n) [] = omega arith
few_taken (suc n) (x ∷ xs) = let few = few_taken n xs in omega (arith, few)

-- a text of at most 65535 bytes
record IsShort (text : List ℕ) : Type 0 where
  pub bytes : list_all is_byte text ≡ true
  pub few : length text ≤ 65535

short_text : (text : List ℕ) → is_byte_text text ≡ true → IsShort text
short_text text h =
    let few : nat_le (length text) 65535 ≡ true = and_second (list_all is_byte text) (nat_le (length text) 65535) h in
    record { bytes = both_first (list_all is_byte text) (nat_le (length text) 65535) h; few = grind (arith, nat_tests) }

short_front : (n : ℕ) (text : List ℕ) → IsShort text → IsShort (take n text)
short_front n text h = let fewer = few_taken n text in record { bytes = all_taken is_byte n text h.bytes; few = omega (arith, fewer, h.few) }

by_suffix : (one other : Bool) (front text : List ℕ) → IsShort front → IsShort text → IsShort (if one then front else (if other then front else text))
by_suffix true other front text h k = h
by_suffix false true front text h k = h
by_suffix false false front text h k = k

short_base : (text : List ℕ) → IsShort text → IsShort (base_of text)
short_base text h = by_suffix (ends_with nat_eq text (codes ".u1")) (ends_with nat_eq text (codes ".u2")) (take (length text - 3) text) text
    (short_front (length text - 3) text h) h

module _ (all : List (List ℕ)) (within : (text : List ℕ) → IsShort text → is_listed all text ≡ true) where
  short_links : (decls : List PlainDecl) → list_all keeps_decl decls ≡ true → list_all (is_listed all) (flat_map link_in decls) ≡ true
  short_links [] h = refl
  short_links (Global name ∷ decls) h = short_links decls (and_second (keeps_decl (Global name)) (list_all keeps_decl decls) h)
  short_links (Procedure name ∷ decls) h = short_links decls (and_second (keeps_decl (Procedure name)) (list_all keeps_decl decls) h)
  short_links (Record name fields ∷ decls) h = short_links decls (and_second (keeps_decl (Record name fields)) (list_all keeps_decl decls) h)
  short_links (Invocable text ∷ decls) h = short_links decls (and_second (keeps_decl (Invocable text)) (list_all keeps_decl decls) h)
  short_links (Link text ∷ decls) h = and_intro (is_listed all (base_of text)) (list_all (is_listed all) (flat_map link_in decls))
      (within (base_of text) (short_base text (short_text text (both_first (keeps_decl (Link text)) (list_all keeps_decl decls) h))))
      (short_links decls (and_second (keeps_decl (Link text)) (list_all keeps_decl decls) h))

-- Members that are there

pub kept_there : (members : List Member) (member : Member) (base : List ℕ) → is_there members base ≡ true → is_there (members ++ member ∷ []) base ≡ true
kept_there [] member base h = absurd (true≢false (sym h))
kept_there (first ∷ members) member base h =
    either (bytes_eq base (unit_of first).name) (is_there members base) (bytes_eq base (unit_of first).name) (is_there (members ++ member ∷ []) base) (λ e. e)
    (kept_there members member base) h

now_there : (members : List Member) (unit : UnitRead) (base : List ℕ) → unit.name ≡ base → is_there (members ++ FromUcode unit ∷ []) base ≡ true
now_there [] unit base e = or_of_first (bytes_eq base unit.name) false ((bytes_eq-Decides base unit.name).1 (sym e))
now_there (first ∷ members) unit base e =
    or_of_second (bytes_eq base (unit_of first).name) (is_there (members ++ FromUcode unit ∷ []) base) (now_there members unit base e)

-- Files that are linked

module _ (files : FileMap) (all : List (List ℕ)) (rules : KeepRules) (spelled : AreSpelled)
    (within : (text : List ℕ) → IsShort text → is_listed all text ≡ true) where
  -- where fewer than so many texts are not there
  abbrev Gathers : ℕ → Type 0
  Gathers n = (members : List Member) → waiting (is_there members) all < n → (mentioned : List (List ℕ)) → list_all (is_listed all) mentioned ≡ true
      → (found : Result (List Member) Answer) × Gather files members mentioned found

  module _ (n : ℕ) (more : Gathers n) (members : List Member) (fewer : waiting (is_there members) all < suc n) (base : List ℕ) (mentioned : List (List ℕ))
      (here : is_listed all base ≡ true) (others : list_all (is_listed all) mentioned ≡ true) (absent : is_there members base ≡ false) where
    read_more : (first second : List ℕ) (unit : UnitRead) → IsHeld files base first second → AreJudged base first second (Ok unit)
        → (found : Result (List Member) Answer) × Gather files members (base ∷ mentioned) found
    read_more first second unit h j =
        let whole = judged_read j in
        let less = fewer_wait (is_there members) (is_there (members ++ FromUcode unit ∷ [])) (λ text e. kept_there members (FromUcode unit) text e) base absent
        (now_there members unit base ((spelled base first second unit whole).2)) all here in
        let short = short_links all within unit.decls (decls_kept unit (rules base first second unit whole)) in
        let here = all_both (is_listed all) mentioned (links_of unit) others short in
        let rest = more (members ++ FromUcode unit ∷ []) (omega (arith, less, fewer)) (mentioned ++ links_of unit) here in
        (rest.0, Gather.read members base mentioned first second unit rest.0 absent h j rest.1)

    judged_more : (first second : List ℕ) (result : Result UnitRead Answer) → IsHeld files base first second → AreJudged base first second result
        → (found : Result (List Member) Answer) × Gather files members (base ∷ mentioned) found
    judged_more first second (Ok unit) h j = read_more first second unit h j
    judged_more first second (Err answer) h j = (Err answer, Gather.refused members base mentioned first second answer absent h j)

    module _ (rest : (found : Result (List Member) Answer) × Gather files members mentioned found) where
      texts_more : is_utf8 base ≡ true → (texts : Result (List ℕ × List ℕ) (List ℕ)) → texts_held files base ≡ texts
          → (found : Result (List Member) Answer) × Gather files members (base ∷ mentioned) found
      texts_more u (Err name) e = (rest.0, Gather.absent members base mentioned rest.0 absent (IsAbsent.not_held name e) rest.1)
      texts_more u (Ok texts) e =
          let some = some_judged base texts.0 texts.1 in judged_more texts.0 texts.1 some.0 (record { text = u; held = e }) some.1

      base_more : (text : Bool) → is_utf8 base ≡ text → (found : Result (List Member) Answer) × Gather files members (base ∷ mentioned) found
      base_more false u = (rest.0, Gather.absent members base mentioned rest.0 absent (IsAbsent.no_text u) rest.1)
      base_more true u = texts_more u (texts_held files base) refl

  module _ (n : ℕ) (more : Gathers n) (members : List Member) (fewer : waiting (is_there members) all < suc n) where
    next_base : (base : List ℕ) (mentioned : List (List ℕ)) → is_listed all base ≡ true → list_all (is_listed all) mentioned ≡ true
        → (found : Result (List Member) Answer) × Gather files members mentioned found → (there : Bool) → is_there members base ≡ there
        → (found : Result (List Member) Answer) × Gather files members (base ∷ mentioned) found
    next_base base mentioned here others rest true e = (rest.0, Gather.known members base mentioned rest.0 e rest.1)
    next_base base mentioned here others rest false e = base_more n more members fewer base mentioned here others e rest (is_utf8 base) refl

    bases : (mentioned : List (List ℕ)) → list_all (is_listed all) mentioned ≡ true
        → (found : Result (List Member) Answer) × Gather files members mentioned found
    bases [] h = (_, Gather.all members)
    bases (base ∷ mentioned) h =
        let others = and_second (is_listed all base) (list_all (is_listed all) mentioned) h in
        next_base base mentioned (both_first (is_listed all base) (list_all (is_listed all) mentioned) h) others (bases mentioned others)
        (is_there members base) refl

  gathers : (n : ℕ) → Gathers n
  gathers zero members fewer mentioned h = absurd (omega (arith, fewer))
  gathers (suc n) members fewer mentioned h = bases n (gathers n) members fewer mentioned h

all_mentioned : List (List ℕ) → List (List ℕ)
all_mentioned mentioned = mentioned ++ texts_of 256 65535

short_within : (mentioned : List (List ℕ)) (text : List ℕ) → IsShort text → is_listed (all_mentioned mentioned) text ≡ true
unfolding all_mentioned
short_within mentioned text h = any_back (bytes_eq text) mentioned (texts_of 256 65535) (has_text 256 65535 text h.bytes h.few)

first_within : (mentioned : List (List ℕ)) → list_all (is_listed (all_mentioned mentioned)) mentioned ≡ true
unfolding all_mentioned
first_within mentioned = has_all mentioned (texts_of 256 65535)

pub some_gather : KeepRules → AreSpelled → (files : FileMap) (members : List Member) (mentioned : List (List ℕ))
    → (found : Result (List Member) Answer) × Gather files members mentioned found
some_gather rules spelled files members mentioned =
    gathers files (all_mentioned mentioned) rules spelled (short_within mentioned) (suc (waiting (is_there members) (all_mentioned mentioned))) members
    (omega arith) mentioned (first_within mentioned)

by_come : KeepRules → AreSpelled → (files : FileMap) (named : List CommandFile) (come : Result (List Member) Answer) → FilesCome files named come
    → (found : Result (List Member) Answer) × Load files named found
by_come rules spelled files named (Err answer) x = (_, Load.refused answer x)
by_come rules spelled files named (Ok members) x =
    let rest = some_gather rules spelled files members (links_in members) in (_, Load.gathered members rest.0 x rest.1)

pub some_load : KeepRules → AreSpelled → (files : FileMap) (named : List CommandFile) → (found : Result (List Member) Answer) × Load files named found
some_load rules spelled files named = let come = some_come files named in by_come rules spelled files named come.0 come.1

-- The program of a number

by_generated : (number : ℕ) (tokens : List Token) (verdict : Verdict) → tokens_of (generated_lines number) ≡ Scanned tokens → TokensGive tokens verdict
    → (found : Result (List Member) Answer) × GeneratedComes number found
by_generated number tokens (Ok file) e x = (_, GeneratedComes.made tokens file e x)
by_generated number tokens (Err broken) e x = (_, GeneratedComes.broken tokens broken.0 broken.1 e x)

by_outcome : (number : ℕ) (outcome : Tokenized) → tokens_of (generated_lines number) ≡ outcome
    → (found : Result (List Member) Answer) × GeneratedComes number found
by_outcome number (Scanned tokens) e = let some = some_become tokens in by_generated number tokens some.0 e some.1
by_outcome number (Fault rule file line) e = (_, GeneratedComes.not_scanned rule file line e)

pub some_generated : (number : ℕ) → (found : Result (List Member) Answer) × GeneratedComes number found
some_generated number = by_outcome number (tokens_of (generated_lines number)) refl
