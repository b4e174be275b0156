-- No file, and no unit, comes to a fault of the outside.
use Rattle.std.proofs.Common.{ℕ, List, [], ◌∷◌, Result, Ok, Err, refl}
use Rattle.icn_host.specs.FileMaps.{FileMap}
use Rattle.icn_tree.specs.declared.rule.Rule.TheVariants.{U8}
use Rattle.icn_prep.specs.SourceLines.{source_lines}
use Rattle.icn_unit.specs.PlainUnits.{UnitRead}
use Rattle.icn_ucode.specs.UnitReading.{UnitOutcome, Whole, Faulty, unit_read}
use Rattle.icn_answer.specs.declared.answer.Answer.{Answer}
use Rattle.icn_answer.specs.declared.answer.Answer.TheVariants.{BadUcode, Missing}
use Rattle.icn_answer.specs.Answers.{IsFault}
use Rattle.icn_answer.proofs.NoFaults.{no_fault}
use Rattle.icont_units.specs.Files.{CommandFile, first_name, second_name, source_name}
use Rattle.icont_units.specs.Generated.{GeneratedComes, generated_name}
use Rattle.icont_units.specs.Sources.{refused_at}
use Rattle.icont_units.specs.Units.{Member, faulty_name, unit_found, AreJudged, FileComes, FilesCome, Gather, Load}
use Rattle.icont_units.proofs.NamedSources.{answers_no_fault}

-- an answer that is no fault
abbrev IsNone : {A : Type 0} → Result A Answer → Type 0
IsNone (Ok a) = Unit {0}
IsNone (Err answer) = IsFault answer → ⊥

found_none : (base : List ℕ) (outcome : UnitOutcome) → IsNone (unit_found base outcome)
found_none base (Whole unit) = tt
found_none base (Faulty rule second) = no_fault (BadUcode (faulty_name base second) rule) refl

judged_none : {base first second : List ℕ} (result : Result UnitRead Answer) → AreJudged base first second result → IsNone result
judged_none {base} _ (AreJudged.first_too_long l) = no_fault (BadUcode (first_name base) U8) refl
judged_none {base} _ (AreJudged.second_too_long s l) = no_fault (BadUcode (second_name base) U8) refl
judged_none {base} {first} {second} _ (AreJudged.read s l) = found_none base (unit_read base first second)

comes_none : (files : FileMap) (file : CommandFile) (found : Result Member Answer) → FileComes files file found → IsNone found
comes_none files _ _ (FileComes.no_tokens base answer e) =
    λ is. answers_no_fault files (source_name base) (source_lines files (source_name base)) answer refl e is
comes_none files _ _ (FileComes.broken base scan rule place e x) = no_fault (refused_at scan.names rule place) refl
comes_none files _ _ (FileComes.translated base scan file e x) = tt
comes_none files _ _ (FileComes.not_there base name e) = no_fault (Missing name) refl
comes_none files _ _ (FileComes.not_read base first second answer e j) = judged_none (Err answer) j
comes_none files _ _ (FileComes.read base first second unit e j) = tt

come_none : {files : FileMap} {named : List CommandFile} (found : Result (List Member) Answer) → FilesCome files named found → IsNone found
come_none _ FilesCome.none = tt
come_none _ (FilesCome.one_more file others member members x y) = tt
come_none {files} _ (FilesCome.first_refused file others answer x) = comes_none files file (Err answer) x
come_none _ (FilesCome.later_refused file others member answer x y) = come_none (Err answer) y

gather_none : {files : FileMap} {members : List Member} {mentioned : List (List ℕ)} {found : Result (List Member) Answer} → Gather files members mentioned found
    → IsNone found
gather_none (Gather.all members) = tt
gather_none (Gather.known members base mentioned result k x) = gather_none x
gather_none (Gather.absent members base mentioned result k a x) = gather_none x
gather_none (Gather.refused members base mentioned first second answer k h j) = judged_none (Err answer) j
gather_none (Gather.read members base mentioned first second unit result k h j x) = gather_none x

load_none : {files : FileMap} {named : List CommandFile} (found : Result (List Member) Answer) → Load files named found → IsNone found
load_none _ (Load.refused answer x) = come_none (Err answer) x
load_none _ (Load.gathered members result x y) = gather_none y

generated_none : {number : ℕ} (found : Result (List Member) Answer) → GeneratedComes number found → IsNone found
generated_none _ (GeneratedComes.not_scanned rule file line e) =
    no_fault (refused_at (generated_name ∷ []) rule (record { line = line; file = file })) refl
generated_none _ (GeneratedComes.broken tokens rule place e x) = no_fault (refused_at (generated_name ∷ []) rule place) refl
generated_none _ (GeneratedComes.made tokens file e x) = tt

pub come_no_fault : {files : FileMap} {named : List CommandFile} {answer : Answer} → FilesCome files named (Err answer) → IsFault answer → ⊥
come_no_fault {answer = answer} x = come_none (Err answer) x

pub load_no_fault : {files : FileMap} {named : List CommandFile} {answer : Answer} → Load files named (Err answer) → IsFault answer → ⊥
load_no_fault {answer = answer} x = load_none (Err answer) x

pub generated_no_fault : {number : ℕ} {answer : Answer} → GeneratedComes number (Err answer) → IsFault answer → ⊥
generated_no_fault {answer = answer} x = generated_none (Err answer) x
