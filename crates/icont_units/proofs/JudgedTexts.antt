-- What the texts of a unit come to.
use Rattle.std.proofs.Common.{◌≡◌, ◌⊎◌, inl, inr, ℕ, ◌+◌, ◌<◌, ◌≤◌, min, Bool, true, false, List, length, Some, IsUtf8, Result, Ok, Err, refl, sym, ap, subst, ◌∙◌, arith}
use Rattle.std.specs.Str.{is_utf8}
use Rattle.std.proofs.lemmas.Bool.{false≢true}
use Rattle.std.proofs.lemmas.Bool.Decides.{nat_tests}
use Rattle.std.proofs.lemmas.List.{length-take, take_all}
use Rattle.std.proofs.lemmas.Option.{same_Some}
use Rattle.std.proofs.lemmas.Str.{IsUtf8-from_is_utf8, is_utf8-from_IsUtf8}
use Rattle.icn_host.specs.Counts.{HasCause}
use Rattle.icn_host.specs.FileMaps.{FileMap}
use Rattle.icn_tree.specs.declared.rule.Rule.{Rule}
use Rattle.icn_tree.specs.declared.rule.Rule.TheVariants.{U8}
use Rattle.icn_unit.specs.declared.fault.UcodeFault.{UcodeFault}
use Rattle.icn_unit.specs.declared.fault.UcodeFault.TheVariants as Ucode
use Rattle.icn_unit.specs.declared.unit.Unit.{Unit as HeldUnit}
use Rattle.icn_ucode.specs.DeclViews.{outcome_of}
use Rattle.icn_ucode.specs.UnitReading.{UnitOutcome, Whole, Faulty, unit_read}
use Rattle.icn_link.specs.Units.{unit_seen}
use Rattle.icn_answer.specs.declared.answer.Answer.{Answer}
use Rattle.icn_answer.specs.declared.answer.Answer.TheVariants.{BadUcode, Missing, NoMemory}
use Rattle.icn_answer.specs.Answers.{IsFault}
use Rattle.icont_units.specs.declared.ucode.UnitTexts.{UnitTexts}
use Rattle.icont_units.specs.FetchedFiles.{AreTexts, HeldAre, IsJudged, IsNamedUnit, first_bytes}
use Rattle.icont_units.specs.Files.{first_name, second_name, ucode}
use Rattle.icont_units.specs.Units.{AreJudged, FileComes, IsAbsent, both_texts, faulty_name, is_too_long, second_text, texts_held, unit_found}
use Rattle.icont_units.proofs.EqualResults.{err_injective, ok_is_not_err}

-- Both texts

pub both_there : (files : FileMap) (base : List ℕ) (texts : UnitTexts)
    → (first : List ℕ) × ((files (first_name base) ≡ Some first) × (texts.first.items ≡ first_bytes first))
    → (second : List ℕ) × ((files (second_name base) ≡ Some second) × (texts.second.items ≡ first_bytes second))
    → AreTexts (texts_held files base) (Ok texts)
both_there files base texts one two =
    (one.0, (two.0, (ap (λ o. both_texts base o (files (second_name base))) one.1.0 ∙ ap (second_text base one.0) two.1.0, (one.1.1, two.1.1))))

-- Lengths

long : (text : List ℕ) → is_too_long text ≡ true → 268435456 < length text
long text e = grind (arith, nat_tests)

short : (text : List ℕ) → is_too_long text ≡ false → length text ≤ 268435456
short text e = grind (arith, nat_tests)

-- of the first bytes as of all
longer : (text bytes : List ℕ) → text ≡ first_bytes bytes → 268435456 < length text → 268435456 < length bytes
longer text bytes e h = let cut : length text ≡ min (268435456 + 1) (length bytes) = ap length e ∙ length-take (268435456 + 1) bytes in omega (arith, cut, h)

shorter : (text bytes : List ℕ) → text ≡ first_bytes bytes → length text ≤ 268435456 → length bytes ≤ 268435456
shorter text bytes e h = let cut : length text ≡ min (268435456 + 1) (length bytes) = ap length e ∙ length-take (268435456 + 1) bytes in omega (arith, cut, h)

whole : (text bytes : List ℕ) → text ≡ first_bytes bytes → length bytes ≤ 268435456 → text ≡ bytes
whole text bytes e h = e ∙ take_all (268435456 + 1) bytes (omega (arith, h))

-- Judging

same_judged : {base first second other again : List ℕ} {result : Result _ Answer} → other ≡ first → again ≡ second → AreJudged base other again result
    → AreJudged base first second result
same_judged {base} {first} {second} {other} {again} {result} e f h =
    subst (λ t. AreJudged base t second result) e (subst (λ t. AreJudged base other t result) f h)

-- what the first bytes of texts come to, the texts come to
pub uncut : (base first second cut cut_second : List ℕ) (result : Result _ Answer) → cut ≡ first_bytes first → cut_second ≡ first_bytes second
    → AreJudged base cut cut_second result → AreJudged base first second result
uncut base first second cut cut_second _ e f (AreJudged.first_too_long h) = AreJudged.first_too_long (longer cut first e h)
uncut base first second cut cut_second _ e f (AreJudged.second_too_long h k) = AreJudged.second_too_long (shorter cut first e h) (longer cut_second second f k)
uncut base first second cut cut_second _ e f (AreJudged.read h k) =
    let one : length first ≤ 268435456 = shorter cut first e h in
    let two : length second ≤ 268435456 = shorter cut_second second f k in
    same_judged (whole cut first e one) (whole cut_second second f two) (AreJudged.read h k)

-- an answer that a rule is broken, or want of memory
told : (base first second name : List ℕ) (rule : Rule) (answer : Answer) → AreJudged base first second (Err (BadUcode name rule))
    → (answer ≡ BadUcode name rule) ⊎ (answer ≡ NoMemory) → (answer ≡ NoMemory) ⊎ AreJudged base first second (Err answer)
told base first second name rule answer h (inl e) = inr (rw e h)
told base first second name rule answer h (inr e) = inl e

pub first_long : (base first second given : List ℕ) (test : Bool) (answer : Answer) → given ≡ first → test ≡ is_too_long given → test ≡ true
    → (answer ≡ BadUcode (faulty_name base false) U8) ⊎ (answer ≡ NoMemory) → (answer ≡ NoMemory) ⊎ AreJudged base first second (Err answer)
first_long base first second given test answer same e t a =
    told base first second (first_name base) U8 answer (AreJudged.first_too_long (long first (ap is_too_long (sym same) ∙ (sym e ∙ t)))) a

pub second_long : (base first second given given_second : List ℕ) (test again : Bool) (answer : Answer) → given ≡ first → test ≡ is_too_long given
    → test ≡ false
    → given_second ≡ second → again ≡ is_too_long given_second → again ≡ true
    → (answer ≡ BadUcode (faulty_name base true) U8) ⊎ (answer ≡ NoMemory) → (answer ≡ NoMemory) ⊎ AreJudged base first second (Err answer)
second_long base first second given given_second test again answer same e t same_second f u a =
    told base first second (second_name base) U8 answer
    (AreJudged.second_too_long (short first (ap is_too_long (sym same) ∙ (sym e ∙ t))) (long second (ap is_too_long (sym same_second) ∙ (sym f ∙ u)))) a

-- what reading found
pub found : (base first second given given_second one two : List ℕ) (test again : Bool) (outcome : UnitOutcome)
    → given ≡ first → test ≡ is_too_long given → test ≡ false → given_second ≡ second → again ≡ is_too_long given_second → again ≡ false
    → one ≡ first → two ≡ second → outcome ≡ unit_read base one two → AreJudged base first second (unit_found base outcome)
found base first second given given_second one two test again outcome same e t same_second f u x y is =
    subst (λ o. AreJudged base first second (unit_found base o)) (sym (is ∙ (ap (λ l. unit_read base l two) x ∙ ap (unit_read base first) y)))
    (AreJudged.read (short first (ap is_too_long (sym same) ∙ (sym e ∙ t))) (short second (ap is_too_long (sym same_second) ∙ (sym f ∙ u))))

pub unit_is : (unit : HeldUnit) (outcome : UnitOutcome) → let result : Result HeldUnit UcodeFault = Ok unit in
    (result ≡ Err Ucode.NoMemory) ⊎ (outcome_of result ≡ Some outcome)
    → Whole (unit_seen unit) ≡ outcome
unit_is unit outcome (inl e) = absurd (ok_is_not_err unit Ucode.NoMemory e)
unit_is unit outcome (inr e) = same_Some (Whole (unit_seen unit)) outcome e

pub fault_is : (rule : Rule) (second : Bool) (outcome : UnitOutcome)
    → let result : Result HeldUnit UcodeFault = Err (Ucode.Broken rule second) in (result ≡ Err Ucode.NoMemory) ⊎ (outcome_of result ≡ Some outcome)
    → Faulty rule second ≡ outcome
fault_is rule second outcome (inl e) = let both : Ucode.Broken rule second ≡ Ucode.NoMemory = err_injective (Ucode.Broken rule second) Ucode.NoMemory e in cc
fault_is rule second outcome (inr e) = same_Some (Faulty rule second) outcome e

pub read_fault : (base first second : List ℕ) (rule : Rule) (in_second : Bool) (answer : Answer)
    → AreJudged base first second (Err (BadUcode (faulty_name base in_second) rule))
    → (answer ≡ BadUcode (faulty_name base in_second) rule) ⊎ (answer ≡ NoMemory) → (answer ≡ NoMemory) ⊎ AreJudged base first second (Err answer)
read_fault base first second rule in_second answer h a = told base first second (faulty_name base in_second) rule answer h a

-- Named units

no_memory : (answer : Answer) → answer ≡ NoMemory → IsFault answer
no_memory answer e = rw e refl

pub named : (files : FileMap) (base : List ℕ) (texts : UnitTexts) (result : Result HeldUnit Answer) → AreTexts (texts_held files base) (Ok texts)
    → IsJudged base texts.first.items texts.second.items result → IsNamedUnit files base result
named files base texts (Ok unit) held judged =
    FileComes.read base held.0 held.1.0 (unit_seen unit) held.1.1.0
    (uncut base held.0 held.1.0 texts.first.items texts.second.items (Ok (unit_seen unit)) held.1.1.1.0 held.1.1.1.1 judged)
named files base texts (Err answer) held (inl e) = inl (no_memory answer e)
named files base texts (Err answer) held (inr judged) =
    inr (FileComes.not_read base held.0 held.1.0 answer held.1.1.0
    (uncut base held.0 held.1.0 texts.first.items texts.second.items (Err answer) held.1.1.1.0 held.1.1.1.1 judged))

not_there : (files : FileMap) (base name : List ℕ) (answer : Answer) → texts_held files base ≡ Err name → answer ≡ Missing name
    → FileComes files (ucode base) (Err answer)
not_there files base name answer e same = rw same (FileComes.not_there base name e)

pub not_named : (files : FileMap) (base : List ℕ) (answer : Answer)
    → IsFault answer ⊎ ((name : List ℕ) × ((texts_held files base ≡ Err name) × (answer ≡ Missing name)))
    → IsFault answer ⊎ FileComes files (ucode base) (Err answer)
not_named files base answer (inl fault) = inl fault
not_named files base answer (inr absent) = inr (not_there files base absent.0 answer absent.1.0 absent.1.1)

-- Linked units

no_utf8 : (base : List ℕ) (test : Bool) → is_utf8 base ≡ test → (IsUtf8 base → ⊥) → is_utf8 base ≡ false
no_utf8 base true e not = absurd (not (IsUtf8-from_is_utf8 base e))
no_utf8 base false e not = e

pub not_text : (files : FileMap) (base : List ℕ) → (IsUtf8 base → ⊥) → IsAbsent files base
not_text files base not = IsAbsent.no_text (no_utf8 base _ refl not)

pub no_cause : (count : ℕ) (base : List ℕ) → (IsUtf8 base → ⊥) → HasCause count count (is_utf8 base ≡ true)
no_cause count base not = record { later = omega arith; rose = λ e. absurd (not (IsUtf8-from_is_utf8 base e)) }

pub linked : (files : FileMap) (base given : List ℕ) (texts : UnitTexts) (unit : HeldUnit) → given ≡ base → IsUtf8 base
    → AreTexts (texts_held files given) (Ok texts)
    → AreJudged given texts.first.items texts.second.items (Ok (unit_seen unit))
    → HeldAre files base (λ first second. AreJudged base first second (Ok (unit_seen unit)))
linked files base given texts unit same text held judged =
    subst (λ name. HeldAre files name (λ first second. AreJudged name first second (Ok (unit_seen unit)))) same (
      held.0,
      (
        held.1.0,
        (
          record { text = ap is_utf8 same ∙ is_utf8-from_IsUtf8 base text; held = held.1.1.0 },
          uncut given held.0 held.1.0 texts.first.items texts.second.items (Ok (unit_seen unit)) held.1.1.1.0 held.1.1.1.1 judged,
        ),
      ),
    )

pub not_linked : (files : FileMap) (base given : List ℕ) (texts : UnitTexts) (answer : Answer) → given ≡ base → IsUtf8 base
    → AreTexts (texts_held files given) (Ok texts)
    → (answer ≡ NoMemory) ⊎ AreJudged given texts.first.items texts.second.items (Err answer)
    → IsFault answer ⊎ HeldAre files base (λ first second. AreJudged base first second (Err answer))
not_linked files base given texts answer same text held (inl e) = inl (no_memory answer e)
not_linked files base given texts answer same text held (inr judged) =
    inr (subst (λ name. HeldAre files name (λ first second. AreJudged name first second (Err answer))) same (
      held.0,
      (
        held.1.0,
        (
          record { text = ap is_utf8 same ∙ is_utf8-from_IsUtf8 base text; held = held.1.1.0 },
          uncut given held.0 held.1.0 texts.first.items texts.second.items (Err answer) held.1.1.1.0 held.1.1.1.1 judged,
        ),
      ),
    ))

not_fault : (name : List ℕ) (answer : Answer) → answer ≡ Missing name → IsFault answer → ⊥
not_fault name answer e fault = let told : false ≡ true = rw e at fault in false≢true told

pub lost : (files : FileMap) (base given : List ℕ) (answer : Answer) (name : List ℕ) → given ≡ base → answer ≡ Missing name
    → IsFault answer ⊎ ((other : List ℕ) × ((texts_held files given ≡ Err other) × (answer ≡ Missing other))) → IsAbsent files base
lost files base given answer name same e (inl fault) = absurd (not_fault name answer e fault)
lost files base given answer name same e (inr absent) = IsAbsent.not_held absent.0 (ap (texts_held files) (sym same) ∙ absent.1.0)
