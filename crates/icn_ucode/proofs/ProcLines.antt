-- The lines of procedures, up to the end of their text.
use Rattle.std.proofs.Common.{◌≡◌, ℕ, ◌<◌, List, [], length, take, drop, Option, None, Some, Result, Ok, Err, ◌∙◌, ap}
use Rattle.icn_tree.specs.declared.rule.Rule.{Rule}
use Rattle.icn_tree.specs.declared.rule.Rule.TheVariants.{U3}
use Rattle.icn_unit.specs.declared.fault.UnitStop.{UnitStop}
use Rattle.icn_unit.specs.declared.fault.UnitStop.TheVariants.{Broken as StopBroken, NoMemory as StopNoMemory}
use Rattle.icn_unit.specs.PlainUnits.{PlainProc}
use Rattle.icn_unit.specs.UnitOperands.{behind}
use Rattle.icn_ucode.specs.declared.proc_lists.Procs.{Procs}
use Rattle.icn_ucode.specs.declared.proc_lists.ProcReading.{ProcReading}
use Rattle.icn_ucode.specs.UnitReading.{ProcsRead, Heading, each_line, then_step, procs_line, procs_end, procs_of}
use Rattle.icn_ucode.specs.UnitViews.{LineIs, ProcsAre, StopIs, reading_seen}
use Rattle.icn_ucode.proofs.TextLines.{line_at, line_length, lines_after, no_lines_left}

-- what was read so far, and what is left of the text, come to what the text comes to
abbrev pub ReadSo : List ℕ → List ℕ → ProcsRead → Type 0
ReadSo text rest read = each_line procs_line (record { procs = []; stage = Heading }) [] text ≡ each_line procs_line read [] rest

of_read : (text : List ℕ) (found : Result ProcsRead Rule) → each_line procs_line (record { procs = []; stage = Heading }) [] text ≡ found
    → procs_of text ≡ then_step found procs_end
unfolding procs_of
of_read text found e = ap (λ f. then_step f procs_end) e

are_same : (result : Result Procs UnitStop) (a b : Result (List PlainProc) Rule) → b ≡ a → ProcsAre result a → ProcsAre result b
are_same (Ok items) a b same e = same ∙ e
are_same (Err (StopBroken rule)) a b same e = same ∙ e
are_same (Err StopNoMemory) a b same e = tt

-- a line and what stands behind it
line_so : (text rest line : List ℕ) (more : Option (List ℕ)) (read : ProcsRead) (found : Result ProcsRead Rule) → ReadSo text rest read → 0 < length rest
    → line ≡ take (line_length rest) rest → more ≡ behind (drop (line_length rest) rest) → procs_line read line ≡ found
    → each_line procs_line (record { procs = []; stage = Heading }) [] text ≡ then_step found (λ next. lines_after procs_line more next)
line_so text rest line more read found so h is e f =
    so ∙ (line_at procs_line read rest line more h is e ∙ ap (λ f. then_step f (λ next. lines_after procs_line more next)) f)

pub unended_procs : (text rest line : List ℕ) (read : ProcsRead) (reading : ProcReading) → ReadSo text rest read → 0 < length rest
    → line ≡ take (line_length rest) rest → None ≡ behind (drop (line_length rest) rest) → LineIs (Ok reading) (procs_line read line)
    → procs_of text ≡ Err U3
unended_procs text rest line read reading so h is e found = of_read text (Err U3) (line_so text rest line None read (Ok (reading_seen reading)) so h is e found)

pub next_procs : (text rest line more : List ℕ) (read : ProcsRead) (reading : ProcReading) → ReadSo text rest read → 0 < length rest
    → line ≡ take (line_length rest) rest → Some more ≡ behind (drop (line_length rest) rest)
    → LineIs (Ok reading) (procs_line read line) → ReadSo text more (reading_seen reading)
next_procs text rest line more read reading so h is e found = line_so text rest line (Some more) read (Ok (reading_seen reading)) so h is e found

pub stopped_procs : (text rest line : List ℕ) (more : Option (List ℕ)) (read : ProcsRead) (stop : UnitStop) → ReadSo text rest read → 0 < length rest
    → line ≡ take (line_length rest) rest → more ≡ behind (drop (line_length rest) rest)
    → LineIs (Err stop) (procs_line read line) → StopIs stop (procs_of text)
stopped_procs text rest line more read (StopBroken rule) so h is e found = of_read text (Err rule) (line_so text rest line more read (Err rule) so h is e found)
stopped_procs text rest line more read StopNoMemory so h is e found = tt

pub finished_procs : (text rest : List ℕ) (reading : ProcReading) (result : Result Procs UnitStop) → ReadSo text rest (reading_seen reading) → length rest ≡ 0
    → ProcsAre result (procs_end (reading_seen reading)) → ProcsAre result (procs_of text)
finished_procs text rest reading result so h e =
    are_same result _ _ (of_read text (Ok (reading_seen reading)) (so ∙ no_lines_left procs_line (reading_seen reading) rest h)) e
