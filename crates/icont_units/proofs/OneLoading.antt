-- What files and units come to is one thing alone.
use Rattle.std.proofs.Common.{◌≡◌, ℕ, ◌≤◌, ◌<◌, Bool, true, false, List, [], ◌∷◌, ◌++◌, length, Result, Ok, Err, refl, sym, ap, subst, ◌∙◌, arith}
use Rattle.std.specs.Str.{is_utf8}
use Rattle.std.proofs.lemmas.Bool.Decides.{nat_tests}
use Rattle.icn_host.specs.FileMaps.{FileMap}
use Rattle.icn_tree.specs.declared.rule.Rule.TheVariants.{S1, U8}
use Rattle.icn_tree.specs.Tokens.{Tokenized, Scanned, Fault, tokens_of}
use Rattle.icn_unit.specs.PlainUnits.{UnitRead}
use Rattle.icn_ucode.specs.UnitReading.{unit_read}
use Rattle.icn_answer.specs.declared.answer.Answer.{Answer}
use Rattle.icn_answer.specs.declared.answer.Answer.TheVariants.{Missing, BadUcode}
use Rattle.icont_units.specs.declared.files.FileKind.{FileKind}
use Rattle.icont_units.specs.declared.files.FileKind.TheVariants.{Source, Ucode}
use Rattle.icont_units.specs.Files.{CommandFile, source_name, first_name, second_name}
use Rattle.icont_units.specs.Generated.{GeneratedComes, generated_base, generated_lines, generated_name}
use Rattle.icont_units.specs.Sources.{ScannedSource, refused_at, source_read}
use Rattle.icont_units.specs.Translating.{TokensGive}
use Rattle.icont_units.specs.Units.{Member, FromSource, FromUcode, is_too_long, texts_held, unit_found, AreJudged, FileComes, FilesCome, IsAbsent, IsHeld, is_there, links_of, links_in, Gather, Load}
use Rattle.icont_units.proofs.EqualResults.{ok_injective, err_injective, ok_is_not_err}
use Rattle.icont_units.proofs.Verdicts.{Verdict, one_become, whole_file}

-- Both texts of a unit

abbrev judged_by : List ℕ → List ℕ → List ℕ → Bool → Bool → Result UnitRead Answer
judged_by base first second true long = Err (BadUcode (first_name base) U8)
judged_by base first second false true = Err (BadUcode (second_name base) U8)
judged_by base first second false false = unit_found base (unit_read base first second)

judged : List ℕ → List ℕ → List ℕ → Result UnitRead Answer
judged base first second = judged_by base first second (is_too_long first) (is_too_long second)

when_long : (text : List ℕ) → 268435456 < length text → is_too_long text ≡ true
when_long text l = grind (arith, nat_tests)

when_short : (text : List ℕ) → length text ≤ 268435456 → is_too_long text ≡ false
when_short text l = grind (arith, nat_tests)

-- what they come to is computed
of_texts : {base first second : List ℕ} (result : Result UnitRead Answer) → AreJudged base first second result → result ≡ judged base first second
unfolding judged
of_texts {base} {first} {second} _ (AreJudged.first_too_long l) = sym (ap (λ test. judged_by base first second test (is_too_long second)) (when_long first l))
of_texts {base} {first} {second} _ (AreJudged.second_too_long s l) =
    sym (ap (λ test. judged_by base first second test (is_too_long second)) (when_short first s) ∙ ap (judged_by base first second false) (when_long second l))
of_texts {base} {first} {second} _ (AreJudged.read s l) =
    sym (ap (λ test. judged_by base first second test (is_too_long second)) (when_short first s) ∙ ap (judged_by base first second false) (when_short second l))

-- Files that are named

abbrev by_verdict : List ℕ → ScannedSource → Verdict → Result Member Answer
by_verdict base scan (Ok file) = Ok (FromSource base file)
by_verdict base scan (Err broken) = Err (refused_at scan.names broken.0 broken.1)

abbrev source_found : List ℕ → Result ScannedSource Answer → Verdict → Result Member Answer
source_found base (Err answer) verdict = Err answer
source_found base (Ok scan) verdict = by_verdict base scan verdict

-- what a source comes to is what its tokens become
record OfSource (files : FileMap) (base : List ℕ) (found : Result Member Answer) : Type 0 where
  pub read : Result ScannedSource Answer
  pub is : source_read files (source_name base) ≡ read
  pub verdict : Verdict
  pub becomes : (scan : ScannedSource) → read ≡ Ok scan → TokensGive scan.tokens verdict
  pub same : found ≡ source_found base read verdict

same_source : (base : List ℕ) (read : Result ScannedSource Answer) (a b : Verdict) → ((scan : ScannedSource) → read ≡ Ok scan → TokensGive scan.tokens a)
    → ((scan : ScannedSource) → read ≡ Ok scan → TokensGive scan.tokens b) → source_found base read a ≡ source_found base read b
same_source base (Err answer) a b x y = refl
same_source base (Ok scan) a b x y = ap (by_verdict base scan) (one_become scan.tokens a b (x scan refl) (y scan refl))

one_source : {files : FileMap} {base : List ℕ} {a b : Result Member Answer} → OfSource files base a → OfSource files base b → a ≡ b
one_source {base = base} x y =
    let read : x.read ≡ y.read = sym x.is ∙ y.is in
    x.same ∙ (ap (λ r. source_found base r x.verdict) read
    ∙ (same_source base y.read x.verdict y.verdict (λ scan e. x.becomes scan (read ∙ e)) y.becomes ∙ sym y.same))

no_scan : {T : Type 0} (answer : Answer) (scan : ScannedSource) → ◌≡◌ {A = Result ScannedSource Answer} (Err answer) (Ok scan) → T
no_scan answer scan e = absurd (ok_is_not_err scan answer (sym e))

that_scan : (verdict : Verdict) (a b : ScannedSource) → TokensGive a.tokens verdict → ◌≡◌ {A = Result ScannedSource Answer} (Ok a) (Ok b)
    → TokensGive b.tokens verdict
that_scan verdict a b x e = subst (λ (scan : ScannedSource). TokensGive scan.tokens verdict) (ok_injective a b e) x

abbrev member_of : Result UnitRead Answer → Result Member Answer
member_of (Ok unit) = Ok (FromUcode unit)
member_of (Err answer) = Err answer

abbrev ucode_found : List ℕ → Result (List ℕ × List ℕ) (List ℕ) → Result Member Answer
ucode_found base (Err name) = Err (Missing name)
ucode_found base (Ok texts) = member_of (judged base texts.0 texts.1)

abbrev OfFile : FileMap → FileKind → List ℕ → Result Member Answer → Type 0
OfFile files Source base found = OfSource files base found
OfFile files Ucode base found = found ≡ ucode_found base (texts_held files base)

of_file : {files : FileMap} (file : CommandFile) (found : Result Member Answer) → FileComes files file found → OfFile files file.kind file.base found
of_file _ _ (FileComes.no_tokens base answer e) =
    record { read = Err answer; is = e; verdict = Err (S1, whole_file); becomes = λ scan f. no_scan answer scan f; same = refl }
of_file _ _ (FileComes.broken base scan rule place e x) =
    record { read = Ok scan; is = e; verdict = Err (rule, place); becomes = λ other f. that_scan (Err (rule, place)) scan other x f; same = refl }
of_file _ _ (FileComes.translated base scan file e x) =
    record { read = Ok scan; is = e; verdict = Ok file; becomes = λ other f. that_scan (Ok file) scan other x f; same = refl }
of_file _ _ (FileComes.not_there base name e) = sym (ap (ucode_found base) e)
of_file _ _ (FileComes.not_read base first second answer e x) = ap member_of (of_texts (Err answer) x) ∙ sym (ap (ucode_found base) e)
of_file _ _ (FileComes.read base first second unit e x) = ap member_of (of_texts (Ok unit) x) ∙ sym (ap (ucode_found base) e)

same_found : (files : FileMap) (kind : FileKind) (base : List ℕ) (a b : Result Member Answer) → OfFile files kind base a → OfFile files kind base b → a ≡ b
same_found files Source base a b x y = one_source x y
same_found files Ucode base a b x y = x ∙ sym y

pub one_comes : (files : FileMap) (file : CommandFile) (a b : Result Member Answer) → FileComes files file a → FileComes files file b → a ≡ b
one_comes files file a b x y = same_found files file.kind file.base a b (of_file file a x) (of_file file b y)

abbrev with_member : Member → Result (List Member) Answer → Result (List Member) Answer
with_member member (Ok members) = Ok (member ∷ members)
with_member member (Err answer) = Err answer

abbrev first_and : Result Member Answer → Result (List Member) Answer → Result (List Member) Answer
first_and (Err answer) rest = Err answer
first_and (Ok member) rest = with_member member rest

-- what files come to is what the first comes to, and the others where it is a member
record OfFiles (files : FileMap) (file : CommandFile) (others : List CommandFile) (found : Result (List Member) Answer) : Type 0 where
  pub first : Result Member Answer
  pub is : FileComes files file first
  pub rest : Result (List Member) Answer
  pub more : (member : Member) → first ≡ Ok member → FilesCome files others rest
  pub same : found ≡ first_and first rest

no_member : {T : Type 0} (answer : Answer) (member : Member) → ◌≡◌ {A = Result Member Answer} (Err answer) (Ok member) → T
no_member answer member e = absurd (ok_is_not_err member answer (sym e))

of_files : {files : FileMap} {file : CommandFile} {others : List CommandFile} (found : Result (List Member) Answer) → FilesCome files (file ∷ others) found
    → OfFiles files file others found
of_files _ (FilesCome.one_more file others member members x y) = record { first = Ok member; is = x; rest = Ok members; more = λ m e. y; same = refl }
of_files _ (FilesCome.first_refused file others answer x) =
    record { first = Err answer; is = x; rest = Ok []; more = λ m e. no_member answer m e; same = refl }
of_files _ (FilesCome.later_refused file others member answer x y) = record { first = Ok member; is = x; rest = Err answer; more = λ m e. y; same = refl }

no_files : {files : FileMap} (found : Result (List Member) Answer) → FilesCome files [] found → found ≡ Ok []
no_files _ FilesCome.none = refl

same_rest : {files : FileMap} {others : List CommandFile} (first : Result Member Answer) (a b : Result (List Member) Answer)
    → ((a b : Result (List Member) Answer) → FilesCome files others a → FilesCome files others b → a ≡ b)
    → ((member : Member) → first ≡ Ok member → FilesCome files others a) → ((member : Member) → first ≡ Ok member → FilesCome files others b)
    → first_and first a ≡ first_and first b
same_rest (Err answer) a b one x y = refl
same_rest (Ok member) a b one x y = ap (with_member member) (one a b (x member refl) (y member refl))

same_files : {files : FileMap} {file : CommandFile} {others : List CommandFile} {a b : Result (List Member) Answer}
    → ((a b : Result (List Member) Answer) → FilesCome files others a → FilesCome files others b → a ≡ b)
    → OfFiles files file others a → OfFiles files file others b → a ≡ b
same_files {files} {file} one x y =
    let first : x.first ≡ y.first = one_comes files file x.first y.first x.is y.is in
    x.same ∙ (ap (λ r. first_and r x.rest) first ∙ (same_rest y.first x.rest y.rest one (λ m e. x.more m (first ∙ e)) y.more ∙ sym y.same))

-- named files come to one thing at most
pub one_come : (files : FileMap) (named : List CommandFile) (a b : Result (List Member) Answer) → FilesCome files named a → FilesCome files named b → a ≡ b
one_come files [] a b x y = no_files a x ∙ sym (no_files b y)
one_come files (file ∷ others) a b x y = same_files (one_come files others) (of_files a x) (of_files b y)

-- Files that are linked

both_tests : {T : Type 0} (test : Bool) → test ≡ true → test ≡ false → T
both_tests test t f = let both : true ≡ false = sym t ∙ f in absurd cc

-- a base is absent, or its texts are there
absent_held : {T : Type 0} {files : FileMap} {base first second : List ℕ} → IsAbsent files base → IsHeld files base first second → T
absent_held {base = base} (IsAbsent.no_text e) h = both_tests (is_utf8 base) h.text e
absent_held {first = first} {second = second} (IsAbsent.not_held name e) h = absurd (ok_is_not_err (first, second) name (sym h.held ∙ e))

same_texts : {files : FileMap} {base first second first' second' : List ℕ} → IsHeld files base first second → IsHeld files base first' second'
    → ◌≡◌ {A = List ℕ × List ℕ} (first, second) (first', second')
same_texts h k = ok_injective _ _ (sym h.held ∙ k.held)

same_judged : {files : FileMap} (base first second first' second' : List ℕ) (a b : Result UnitRead Answer) → IsHeld files base first second
    → IsHeld files base first' second' → AreJudged base first second a → AreJudged base first' second' b → a ≡ b
same_judged base first second first' second' a b h k x y =
    let texts = same_texts h k in of_texts a x ∙ (ap (λ (t : List ℕ × List ℕ). judged base t.0 t.1) texts ∙ sym (of_texts b y))

module _ (files : FileMap) where
  -- the next base decides
  known_next : {members : List Member} {base : List ℕ} {mentioned : List (List ℕ)} (found : Result (List Member) Answer)
      → Gather files members (base ∷ mentioned) found → is_there members base ≡ true → Gather files members mentioned found
  known_next _ (Gather.known members base mentioned result k x) t = x
  known_next _ (Gather.absent members base mentioned result k a x) t = both_tests (is_there members base) t k
  known_next _ (Gather.refused members base mentioned first second answer k h j) t = both_tests (is_there members base) t k
  known_next _ (Gather.read members base mentioned first second unit result k h j x) t = both_tests (is_there members base) t k

  absent_next : {members : List Member} {base : List ℕ} {mentioned : List (List ℕ)} (found : Result (List Member) Answer)
      → Gather files members (base ∷ mentioned) found → is_there members base ≡ false → IsAbsent files base → Gather files members mentioned found
  absent_next _ (Gather.known members base mentioned result k x) f b = x
  absent_next _ (Gather.absent members base mentioned result k a x) f b = x
  absent_next _ (Gather.refused members base mentioned first second answer k h j) f b = absent_held b h
  absent_next _ (Gather.read members base mentioned first second unit result k h j x) f b = absent_held b h

  refused_next : {members : List Member} {base : List ℕ} {mentioned : List (List ℕ)} (first second : List ℕ) (answer : Answer)
      (found : Result (List Member) Answer) → Gather files members (base ∷ mentioned) found → is_there members base ≡ false
      → IsHeld files base first second → AreJudged base first second (Err answer) → found ≡ Err answer
  refused_next f s a _ (Gather.known members base mentioned result k x) n g i = both_tests (is_there members base) k n
  refused_next f s a _ (Gather.absent members base mentioned result k b x) n g i = absent_held b g
  refused_next f s a _ (Gather.refused members base mentioned first second answer k h j) n g i =
      ap (λ told. Err told) (err_injective answer a (same_judged base first second f s (Err answer) (Err a) h g j i))
  refused_next f s a _ (Gather.read members base mentioned first second unit result k h j x) n g i =
      absurd (ok_is_not_err unit a (same_judged base first second f s (Ok unit) (Err a) h g j i))

  read_next : {members : List Member} {base : List ℕ} {mentioned : List (List ℕ)} (first second : List ℕ) (unit : UnitRead)
      (found : Result (List Member) Answer) → Gather files members (base ∷ mentioned) found → is_there members base ≡ false
      → IsHeld files base first second → AreJudged base first second (Ok unit)
      → Gather files (members ++ FromUcode unit ∷ []) (mentioned ++ links_of unit) found
  read_next f s u _ (Gather.known members base mentioned result k x) n g i = both_tests (is_there members base) k n
  read_next f s u _ (Gather.absent members base mentioned result k b x) n g i = absent_held b g
  read_next f s u _ (Gather.refused members base mentioned first second answer k h j) n g i =
      absurd (ok_is_not_err u answer (sym (same_judged base first second f s (Err answer) (Ok u) h g j i)))
  read_next f s u _ (Gather.read members base mentioned first second unit result k h j x) n g i =
      let same : unit ≡ u = ok_injective unit u (same_judged base first second f s (Ok unit) (Ok u) h g j i) in
      subst (λ (v : UnitRead). Gather files (members ++ FromUcode v ∷ []) (mentioned ++ links_of v) result) same x

  all_gathered : {members : List Member} (found : Result (List Member) Answer) → Gather files members [] found → found ≡ Ok members
  all_gathered _ (Gather.all members) = refl

  pub one_gather : {members : List Member} {mentioned : List (List ℕ)} {a : Result (List Member) Answer} → Gather files members mentioned a
      → (b : Result (List Member) Answer) → Gather files members mentioned b → a ≡ b
  one_gather (Gather.all members) b y = sym (all_gathered b y)
  one_gather (Gather.known members base mentioned result k x) b y = one_gather x b (known_next b y k)
  one_gather (Gather.absent members base mentioned result k a x) b y = one_gather x b (absent_next b y k a)
  one_gather (Gather.refused members base mentioned first second answer k h j) b y = sym (refused_next first second answer b y k h j)
  one_gather (Gather.read members base mentioned first second unit result k h j x) b y = one_gather x b (read_next first second unit b y k h j)

  -- what named files come to with all that they link
  pub one_load : (named : List CommandFile) (a b : Result (List Member) Answer) → Load files named a → Load files named b → a ≡ b
  one_load named _ _ (Load.refused answer x) (Load.refused other y) =
      ap (λ told. Err told) (err_injective answer other (one_come files named (Err answer) (Err other) x y))
  one_load named _ b (Load.refused answer x) (Load.gathered members _ y z) =
      absurd (ok_is_not_err members answer (one_come files named (Ok members) (Err answer) y x))
  one_load named a _ (Load.gathered members _ x z) (Load.refused answer y) =
      absurd (ok_is_not_err members answer (one_come files named (Ok members) (Err answer) x y))
  one_load named a b (Load.gathered members _ x z) (Load.gathered others _ y w) =
      let same : members ≡ others = ok_injective members others (one_come files named (Ok members) (Ok others) x y) in
      one_gather (subst (λ list. Gather files list (links_in list) a) same z) b w

-- The program of a number

abbrev by_generated : Verdict → Result (List Member) Answer
by_generated (Ok file) = Ok (FromSource generated_base file ∷ [])
by_generated (Err broken) = Err (refused_at (generated_name ∷ []) broken.0 broken.1)

abbrev generated_found : Tokenized → Verdict → Result (List Member) Answer
generated_found (Scanned tokens) verdict = by_generated verdict
generated_found (Fault rule file line) verdict = Err (refused_at (generated_name ∷ []) rule (record { line = line; file = file }))

abbrev BecomesOf : Tokenized → Verdict → Type 0
BecomesOf (Scanned tokens) verdict = TokensGive tokens verdict
BecomesOf (Fault rule file line) verdict = Unit {0}

-- what its lines come to is what their tokens become
record OfLines (number : ℕ) (found : Result (List Member) Answer) : Type 0 where
  pub outcome : Tokenized
  pub is : tokens_of (generated_lines number) ≡ outcome
  pub verdict : Verdict
  pub becomes : BecomesOf outcome verdict
  pub same : found ≡ generated_found outcome verdict

of_lines : {number : ℕ} (found : Result (List Member) Answer) → GeneratedComes number found → OfLines number found
of_lines _ (GeneratedComes.not_scanned rule file line e) =
    record { outcome = Fault rule file line; is = e; verdict = Err (S1, whole_file); becomes = tt; same = refl }
of_lines _ (GeneratedComes.broken tokens rule place e x) =
    record { outcome = Scanned tokens; is = e; verdict = Err (rule, place); becomes = x; same = refl }
of_lines _ (GeneratedComes.made tokens file e x) = record { outcome = Scanned tokens; is = e; verdict = Ok file; becomes = x; same = refl }

same_outcome : (outcome : Tokenized) (a b : Verdict) → BecomesOf outcome a → BecomesOf outcome b → generated_found outcome a ≡ generated_found outcome b
same_outcome (Scanned tokens) a b x y = ap by_generated (one_become tokens a b x y)
same_outcome (Fault rule file line) a b x y = refl

same_lines : {number : ℕ} {a b : Result (List Member) Answer} → OfLines number a → OfLines number b → a ≡ b
same_lines x y =
    let same : x.outcome ≡ y.outcome = sym x.is ∙ y.is in
    x.same ∙ (ap (λ outcome. generated_found outcome x.verdict) same
    ∙ (same_outcome y.outcome x.verdict y.verdict (subst (λ outcome. BecomesOf outcome x.verdict) same x.becomes) y.becomes ∙ sym y.same))

pub one_generated : (number : ℕ) (a b : Result (List Member) Answer) → GeneratedComes number a → GeneratedComes number b → a ≡ b
one_generated number a b x y = same_lines (of_lines a x) (of_lines b y)
