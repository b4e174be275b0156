-- The first law for the files of a program, and both laws together.
use Rattle.std.proofs.Common.{ℕ, List, sym, subst}
use Rattle.icn_tree.specs.Trees.{Declaration}
use Rattle.icn_code.specs.Codes.{Tables}
use Rattle.icn_defs.specs.Running.{Launch, Observation, Ending}
use Rattle.icn_defs.specs.Interruptions.{Streams}
use Rattle.icn_meaning.specs.Program.{program_of, joined_declarations, procedures_of}
use Rattle.icn_run.specs.LinkedStep as Linked
use Rattle.icn_run.specs.LinkedStep.{repeats_of}
use Rattle.law_stacks.specs.SecondLaw.{MissingCell}
use Rattle.law_stacks.proofs.SecondLaw.{agrees_where_covered}
use Rattle.law_simulation.specs.JoinedFiles.{code_with}
use Rattle.law_simulation.specs.FirstLaw.{IsLinked, FilesMean, RunsLinkedHiding, RunsFlatHiding, dropped_procedures, BrokenOff, Takes}
use Rattle.law_simulation.proofs.CheckedProcedures.{IsSoundProcedure, EachProcedure, sound_files}
use Rattle.law_simulation.proofs.JoinedTranslation.{is_translated, begins}
use Rattle.law_simulation.proofs.Routines.{first_law, none_missing as none_missing_of}

-- what the evaluation and the run of the code come to is the same
pub record AreSame (P Q : Launch → Observation → Type 0) : Type 0 where
  pub to : (launch : Launch) (seen : Observation) → P launch seen → Q launch seen
  pub from : (launch : Launch) (seen : Observation) → Q launch seen → P launch seen

-- The tables are those of the joined code, whose procedures are translated and which begin as the program
-- does.
pub same_ends : (files : List (List Declaration)) (tables : Tables) → IsLinked files tables
    → AreSame (FilesMean files) (RunsLinkedHiding (dropped_procedures files) tables)
same_ends files tables h =
    let D = joined_declarations files in
    let sound : EachProcedure IsSoundProcedure (procedures_of D) = sound_files files h.faultless in
    let translated = is_translated D tables.csets h.code.csets sound in
    let starts = begins D tables.csets h.code.csets sound in
    let law : AreSame (FilesMean files) (RunsLinkedHiding (dropped_procedures files) (code_with D tables.csets)) = record {
      to = λ launch seen. (first_law (program_of D) (code_with D tables.csets) launch seen translated
          starts).0;
      from = λ launch seen. (first_law (program_of D) (code_with D tables.csets) launch seen translated
          starts).1;
    } in
    subst (λ tables. AreSame (FilesMean files) (RunsLinkedHiding (dropped_procedures files) tables)) (sym h.code.others) law

-- the run of the joined code never comes to a mark that has no cell for a label which is to be set
pub none_missing : (files : List (List Declaration)) (tables : Tables) (launch : Launch) → IsLinked files tables
    → MissingCell (repeats_of tables) (dropped_procedures files) tables launch → ⊥
none_missing files tables launch h =
    let D = joined_declarations files in
    let sound : EachProcedure IsSoundProcedure (procedures_of D) = sound_files files h.faultless in
    let translated = is_translated D tables.csets h.code.csets sound in
    let starts = begins D tables.csets h.code.csets sound in
    subst (λ tables. MissingCell (repeats_of tables) (dropped_procedures files) tables launch → ⊥) (sym h.code.others)
    (none_missing_of (program_of D) (code_with D tables.csets) launch translated starts)

-- so that its run on flat stacks comes to the same as that on linked marks, and with it to what is meant
pub same_flat : (files : List (List Declaration)) (tables : Tables) → IsLinked files tables
    → AreSame (FilesMean files) (RunsFlatHiding (dropped_procedures files) tables)
same_flat files tables h =
    let s = same_ends files tables h in
    let agree = λ (launch : Launch).
    agrees_where_covered (repeats_of tables) (dropped_procedures files) tables launch (none_missing files tables launch h) in
    record {
      to = λ launch seen m. (agree launch).to_flat seen (s.to launch seen m);
      from = λ launch seen f. s.from launch seen ((agree launch).to_linked seen f);
    }

-- what is said of all ends of the one is said of all ends of the other

takes : {P Q : Launch → Observation → Type 0} (limited : ℕ → Launch → Launch) (want : Ending) (launch : Launch) (amount : ℕ)
    (seen : Observation) → ((launch : Launch) (seen : Observation) → P launch seen → Q launch seen)
    → Takes limited want P launch amount seen → Takes limited want Q launch amount seen
takes limited want launch amount seen f e = record {
  ends = f (limited amount launch) seen e.ends;
  other = e.other;
  short = λ less h. let s = e.short less h in (s.0, f (limited less launch) s.0 s.1, s.2);
}

broken : {P Q : Launch → Observation → Type 0} (launch : Launch) (before after : Streams)
    → ((launch : Launch) (seen : Observation) → P launch seen → Q launch seen)
    → BrokenOff P launch before after → BrokenOff Q launch before after
broken launch before after f e = record { seen = e.seen; sees = f launch e.seen e.sees; breaks = e.breaks }

pub same_amounts : (files : List (List Declaration)) (tables : Tables) (limited : ℕ → Launch → Launch) (want : Ending)
    (launch : Launch) (amount : ℕ) (seen : Observation) → IsLinked files tables
    → (Takes limited want (FilesMean files) launch amount seen → Takes limited want (RunsFlatHiding (dropped_procedures files) tables) launch amount seen)
    × (Takes limited want (RunsFlatHiding (dropped_procedures files) tables) launch amount seen → Takes limited want (FilesMean files) launch amount seen)
same_amounts files tables limited want launch amount seen h =
    let s = same_flat files tables h in
    (takes limited want launch amount seen s.to, takes limited want launch amount seen s.from)

pub same_broken : (files : List (List Declaration)) (tables : Tables) (launch : Launch)
    (before after : Streams) → IsLinked files tables
    → (BrokenOff (FilesMean files) launch before after → BrokenOff (RunsFlatHiding (dropped_procedures files) tables) launch before after)
    × (BrokenOff (RunsFlatHiding (dropped_procedures files) tables) launch before after
    → BrokenOff (FilesMean files) launch before after)
same_broken files tables launch before after h = let s = same_flat files tables h in
    (broken launch before after s.to, broken launch before after s.from)
