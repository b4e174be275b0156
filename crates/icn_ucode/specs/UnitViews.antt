-- How contracts see what the reader of procedures hands about.
use Rattle.std.specs.Prelude.{◌≡◌, ℕ, List, map, Option, Some, None, Result, Ok, Err}
use Rattle.std.specs.Option.{option_and_then}
use Rattle.std.specs.Borrow.{Bor}
use Rattle.icn_tree.specs.declared.rule.Rule.{Rule}
use Rattle.icn_unit.specs.declared.fault.UnitStop.{UnitStop}
use Rattle.icn_unit.specs.declared.fault.UnitStop.TheVariants.{Broken as StopBroken, NoMemory as StopNoMemory}
use Rattle.icn_unit.specs.declared.instr_word.InstrWord.{InstrWord}
use Rattle.icn_unit.specs.declared.unit.NameKind.{NameKind}
use Rattle.icn_unit.specs.declared.unit.UnitName.{UnitName}
use Rattle.icn_unit.specs.declared.unit.UnitInstr.{UnitInstr}
use Rattle.icn_unit.specs.InstrWords.{labelled_of}
use Rattle.icn_unit.specs.PlainUnits.{PlainProc}
use Rattle.icn_unit.specs.UnitOperands.{label_of}
use Rattle.icn_unit.specs.UnitViews.{proc_seen}
use Rattle.icn_ucode.specs.declared.proc_reader.UcodeHead.{UcodeHead as HeadRead}
use Rattle.icn_ucode.specs.declared.proc_lists.Procs.{Procs}
use Rattle.icn_ucode.specs.declared.proc_lists.ProcReading.{ProcReading}
use Rattle.icn_ucode.specs.declared.proc_lists.ProcStage.{ProcStage as StageRead}
use Rattle.icn_ucode.specs.declared.proc_lists.ProcStage.TheVariants.{Heading as HeadingRead, Outside as OutsideRead, Naming as NamingRead, Coding as CodingRead}
use Rattle.icn_ucode.specs.UnitReading.{UcodeHead, ProcStage, Heading, Outside, Naming, Coding, ProcsRead}

-- the instruction of a word that goes to a label, by the label's text
abbrev pub label_read : InstrWord → List ℕ → Option UnitInstr
label_read word text = option_and_then (λ label. labelled_of word label) (label_of text)

-- the head of a procedure as the definitions see it
abbrev pub head_seen : HeadRead → UcodeHead
head_seen head = record { name = head.name.now; params = head.params; collects = head.collects }

-- what the next line may be, as the definitions see it
abbrev pub stage_seen : StageRead → ProcStage
stage_seen HeadingRead = Heading
stage_seen OutsideRead = Outside
stage_seen (NamingRead begun) = Naming begun.params (proc_seen begun.proc)
stage_seen (CodingRead begun) = Coding (proc_seen begun.proc)

-- what the lines so far come to, as the definitions see it
abbrev pub reading_seen : ProcReading → ProcsRead
reading_seen reading =
    record { procs = map proc_seen reading.procs.procs.items; stage = stage_seen reading.stage }

-- the rule that the definition finds broken; or memory was wanting
abbrev pub StopIs : {A : Type 0} → UnitStop → Result A Rule → Type 0
StopIs (StopBroken rule) found = found ≡ Err rule
StopIs StopNoMemory found = Unit {0}

-- a line leads to this stage, behind the same procedures, or breaks this rule
abbrev pub StageIs : List PlainProc → Result StageRead UnitStop → Result ProcsRead Rule → Type 0
StageIs procs (Ok stage) found = found ≡ Ok (record { procs = procs; stage = stage_seen stage })
StageIs procs (Err stop) found = StopIs stop found

-- a line leads there, or breaks this rule
abbrev pub LineIs : Result ProcReading UnitStop → Result ProcsRead Rule → Type 0
LineIs (Ok reading) found = found ≡ Ok (reading_seen reading)
LineIs (Err stop) found = StopIs stop found

-- the procedures that the definition finds, or the rule that it finds broken; or memory was wanting
abbrev pub ProcsAre : Result Procs UnitStop → Result (List PlainProc) Rule → Type 0
ProcsAre (Ok procs) found = found ≡ Ok (map proc_seen procs.procs.items)
ProcsAre (Err stop) found = StopIs stop found

-- the kind and the name that the definition finds
abbrev pub EntryIs : Option (NameKind × Bor (List ℕ)) → Option UnitName → Type 0
EntryIs None found = found ≡ None
EntryIs (Some entry) found = found ≡ Some (record { kind = entry.0; name = entry.1.now })
