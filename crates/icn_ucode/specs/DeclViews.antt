-- How contracts see what the reader of declarations hands about.
use Rattle.std.specs.Prelude.{◌≡◌, ℕ, List, [], ◌∷◌, map, if◌then◌else◌, Option, Some, None, Result, Ok, Err, Vec}
use Rattle.std.specs.Str.{bytes_eq}
use Rattle.icn_tree.specs.declared.rule.Rule.{Rule}
use Rattle.icn_unit.specs.declared.fault.UnitStop.{UnitStop}
use Rattle.icn_unit.specs.declared.fault.UcodeFault.{UcodeFault}
use Rattle.icn_unit.specs.declared.fault.UcodeFault.TheVariants.{Broken, NoMemory}
use Rattle.icn_unit.specs.declared.unit.ProcCode.{ProcCode}
use Rattle.icn_unit.specs.declared.unit.Unit.{Unit as UnitCode}
use Rattle.icn_unit.specs.declared.unit.UnitDecl.{UnitDecl}
use Rattle.icn_unit.specs.PlainUnits.{PlainDecl}
use Rattle.icn_unit.specs.UnitViews.{decl_seen, proc_seen}
use Rattle.icn_ucode.specs.declared.decl_lists.DeclReading.{DeclReading}
use Rattle.icn_ucode.specs.declared.decl_lists.DeclStage.{DeclStage as StageRead}
use Rattle.icn_ucode.specs.declared.decl_lists.DeclStage.TheVariants.{Heading as HeadingRead, Declaring as DeclaringRead, Ended as EndedRead}
use Rattle.icn_ucode.specs.UnitReading.{DeclStage, DeclHeading, Declaring, Ended, DeclsRead, UnitOutcome, Whole, Faulty}
use Rattle.icn_ucode.specs.UnitViews.{StopIs}

-- what the next line may be, as the definitions see it
abbrev pub stage_seen : StageRead → DeclStage
stage_seen HeadingRead = DeclHeading
stage_seen DeclaringRead = Declaring
stage_seen EndedRead = Ended

-- what the lines so far come to, as the definitions see it
abbrev pub reading_seen : DeclReading → DeclsRead
reading_seen reading =
    record { decls = map decl_seen reading.decls.decls.items; stage = stage_seen reading.stage }

-- a line leads there, or breaks this rule
abbrev pub LineIs : Result DeclReading UnitStop → Result DeclsRead Rule → Type 0
LineIs (Ok reading) found = found ≡ Ok (reading_seen reading)
LineIs (Err stop) found = StopIs stop found

-- the declarations that the definition finds, or the rule that it finds broken; or memory was wanting
abbrev pub DeclsAre : {Z : Type 0} → Result (Vec UnitDecl Z) UnitStop → Result (List PlainDecl) Rule → Type 0
DeclsAre (Ok decls) found = found ≡ Ok (map decl_seen decls.items)
DeclsAre (Err stop) found = StopIs stop found

-- the outcome that an answer of the reader tells: none where memory ran out
abbrev pub outcome_of : Result UnitCode UcodeFault → Option UnitOutcome
outcome_of (Ok unit) = Some (Whole (record {
  name = unit.name;
  procs = map proc_seen unit.procs.items;
  decls = map decl_seen unit.decls.items;
}))
outcome_of (Err (Broken rule second)) = Some (Faulty rule second)
outcome_of (Err NoMemory) = None

-- the procedures behind those that names are
abbrev pub procs_behind : List ProcCode → List (List ℕ) → Option (List ProcCode)
procs_behind procs [] = Some procs
procs_behind [] (name ∷ names) = None
procs_behind (proc ∷ procs) (name ∷ names) =
    if bytes_eq proc.name name then procs_behind procs names else None
