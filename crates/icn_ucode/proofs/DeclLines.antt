-- The lines of declarations, up to the end of their text.
use Rattle.std.proofs.Common.{◌==◌, ◌≡◌, suc, Bool, ◌∷◌, ℕ, ◌<◌, ◌≤◌, List, [], length, take, drop, map, Option, None, Some, Result, Ok, Err, Vec, refl, sym, ◌∙◌, ap, arith}
use Rattle.std.proofs.lemmas.Bool.{ne_eqb}
use Rattle.std.proofs.lemmas.List.{drop_all}
use Rattle.icn_tree.specs.declared.rule.Rule.{Rule}
use Rattle.icn_tree.specs.declared.rule.Rule.TheVariants.{U3}
use Rattle.icn_unit.specs.declared.fault.UnitStop.{UnitStop}
use Rattle.icn_unit.specs.declared.fault.UnitStop.TheVariants.{Broken as StopBroken, NoMemory as StopNoMemory}
use Rattle.icn_unit.specs.declared.unit.ProcCode.{ProcCode}
use Rattle.icn_unit.specs.declared.unit.UnitDecl.{UnitDecl}
use Rattle.icn_unit.specs.PlainUnits.{PlainDecl}
use Rattle.icn_unit.specs.UnitOperands.{behind}
use Rattle.icn_unit.specs.UnitRules.{same_names}
use Rattle.icn_unit.specs.UnitViews.{decl_seen, proc_seen}
use Rattle.icn_ucode.specs.declared.decl_lists.DeclReading.{DeclReading}
use Rattle.icn_ucode.specs.UnitReading.{DeclsRead, DeclHeading, each_line, then_step, decls_line, decls_end, decls_of}
use Rattle.icn_ucode.specs.DeclViews.{LineIs, DeclsAre, reading_seen}
use Rattle.icn_ucode.specs.UnitViews.{StopIs}
use Rattle.icn_ucode.proofs.TextLines.{line_at, line_length, lines_after, no_lines_left}

-- what was read so far, and what is left of the text, come to what the text comes to
abbrev pub ReadSo : List (List ℕ) → List ℕ → List ℕ → DeclsRead → Type 0
ReadSo procs text rest read = each_line (decls_line procs) (record { decls = []; stage = DeclHeading }) [] text ≡ each_line (decls_line procs) read [] rest

of_read : (procs : List (List ℕ)) (text : List ℕ) (found : Result DeclsRead Rule)
    → each_line (decls_line procs) (record { decls = []; stage = DeclHeading }) [] text ≡ found → decls_of procs text ≡ then_step found decls_end
unfolding decls_of
of_read procs text found e = ap (λ f. then_step f decls_end) e

are_same : {Z : Type 0} (result : Result (Vec UnitDecl Z) UnitStop) (a b : Result (List PlainDecl) Rule) → b ≡ a → DeclsAre result a → DeclsAre result b
are_same (Ok items) a b same e = same ∙ e
are_same (Err (StopBroken rule)) a b same e = same ∙ e
are_same (Err StopNoMemory) a b same e = tt

-- a line and what stands behind it
line_so : (procs : List (List ℕ)) (text rest line : List ℕ) (more : Option (List ℕ)) (read : DeclsRead) (found : Result DeclsRead Rule)
    → ReadSo procs text rest read → 0 < length rest → line ≡ take (line_length rest) rest → more ≡ behind (drop (line_length rest) rest)
    → (decls_line procs) read line ≡ found
    → each_line (decls_line procs) (record { decls = []; stage = DeclHeading }) [] text ≡ then_step found (λ next. lines_after (decls_line procs) more next)
line_so procs text rest line more read found so h is e f =
    so ∙ (line_at (decls_line procs) read rest line more h is e ∙ ap (λ f. then_step f (λ next. lines_after (decls_line procs) more next)) f)

pub unended_decls : (procs : List (List ℕ)) (text rest line : List ℕ) (read : DeclsRead) (reading : DeclReading) → ReadSo procs text rest read → 0 < length rest
    → line ≡ take (line_length rest) rest → None ≡ behind (drop (line_length rest) rest) → LineIs (Ok reading) ((decls_line procs) read line)
    → decls_of procs text ≡ Err U3
unended_decls procs text rest line read reading so h is e found =
    of_read procs text (Err U3) (line_so procs text rest line None read (Ok (reading_seen reading)) so h is e found)

pub next_decls : (procs : List (List ℕ)) (text rest line more : List ℕ) (read : DeclsRead) (reading : DeclReading) → ReadSo procs text rest read
    → 0 < length rest → line ≡ take (line_length rest) rest → Some more ≡ behind (drop (line_length rest) rest)
    → LineIs (Ok reading) ((decls_line procs) read line) → ReadSo procs text more (reading_seen reading)
next_decls procs text rest line more read reading so h is e found = line_so procs text rest line (Some more) read (Ok (reading_seen reading)) so h is e found

pub stopped_decls : (procs : List (List ℕ)) (text rest line : List ℕ) (more : Option (List ℕ)) (read : DeclsRead) (stop : UnitStop)
    → ReadSo procs text rest read
    → 0 < length rest → line ≡ take (line_length rest) rest → more ≡ behind (drop (line_length rest) rest)
    → LineIs (Err stop) ((decls_line procs) read line) → StopIs stop (decls_of procs text)
stopped_decls procs text rest line more read (StopBroken rule) so h is e found =
    of_read procs text (Err rule) (line_so procs text rest line more read (Err rule) so h is e found)
stopped_decls procs text rest line more read StopNoMemory so h is e found = tt

pub finished_decls : {Z : Type 0} (procs : List (List ℕ)) (text rest : List ℕ) (reading : DeclReading) (result : Result (Vec UnitDecl Z) UnitStop)
    → ReadSo procs text rest (reading_seen reading) → length rest ≡ 0
    → DeclsAre result (decls_end (reading_seen reading)) → DeclsAre result (decls_of procs text)
finished_decls procs text rest reading result so h e =
    are_same result _ _ (of_read procs text (Ok (reading_seen reading)) (so ∙ no_lines_left (decls_line procs) (reading_seen reading) rest h)) e

-- no declarations name no procedures
names_end : (rest : List ProcCode) → (length rest == 0) ≡ same_names (map proc_seen rest) []
names_end [] = refl
names_end (proc ∷ rest) = ne_eqb (suc (length rest)) 0 (λ e. omega arith)

pub names_done : (test : Bool) (rest procs : List ProcCode) (decls : List UnitDecl) (i : ℕ) → test ≡ (length rest == 0) → length decls ≤ i
    → same_names (map proc_seen rest) (map decl_seen (drop i decls)) ≡ same_names (map proc_seen procs) (map decl_seen decls)
    → test ≡ same_names (map proc_seen procs) (map decl_seen decls)
names_done test rest procs decls i e h so =
    e ∙ (names_end rest ∙ (sym (ap (λ left. same_names (map proc_seen rest) (map decl_seen left)) (drop_all i decls h)) ∙ so))
