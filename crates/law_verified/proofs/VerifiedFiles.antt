-- The joined code of files that break no rule is verified code.
use Rattle.std.proofs.Common.{◌≡◌, ℕ, zero, suc, ◌+◌, List, [], slice_get, Some, sym, ap, subst, arith}
use Rattle.std.specs.Option.{option_map_or}
use Rattle.std.proofs.lemmas.Option.{none-some}
use Rattle.icn_tree.specs.Trees.{Declaration}
use Rattle.icn_code.specs.Codes.{Proc, Tables}
use Rattle.icn_verify.specs.Faults.{IsSound, IsVerified}
use Rattle.icn_meaning.specs.Program as M
use Rattle.icn_meaning.specs.Program.{program_of, joined_declarations, procedures_of}
use Rattle.icn_run.specs.Step.{instrs_of}
use Rattle.law_simulation.specs.Linkage.{Linkage}
use Rattle.law_simulation.specs.JoinedFiles.{code_with}
use Rattle.law_simulation.specs.FirstLaw.{IsLinked}
use Rattle.law_simulation.specs.Translated.{linkage, TranslatedRoutine, Routines, u_none, u_more}
use Rattle.law_simulation.proofs.CheckedProcedures.{IsSoundProcedure, EachProcedure, sound_files}
use Rattle.law_simulation.proofs.JoinedTranslation.{is_translated}
use Rattle.law_verified.proofs.BackwardLabels.{codes_sound}
use Rattle.law_verified.proofs.TreesFit.{fit_routine}

-- the code of a translated procedure is sound
routine_sound : (L : Linkage) (j : ℕ) (routine : M.Routine) (entry : Proc) → TranslatedRoutine L j routine entry → IsSound (instrs_of L.tables j)
routine_sound L j routine entry t =
    let f = fit_routine L j t.names t.fits in
    subst IsSound (sym t.is_translated) (codes_sound L j t.names routine.initial routine.body f.0 f.1)

-- the same of each of those from a number on
routines_sound : (L : Linkage) (n : ℕ) (routines : List M.Routine) (entries : List Proc) → Routines L n routines entries
    → (k j : ℕ) (proc : Proc) → j ≡ n + k → slice_get entries k ≡ Some proc → IsSound (instrs_of L.tables j)
routines_sound L n _ _ u_none k j proc e at = absurd (none-some proc at)
routines_sound L n _ _ (u_more {routine = routine} {entry = entry} t ts) zero j proc e at =
    let same : n ≡ j = omega (arith, e) in subst (λ j. IsSound (instrs_of L.tables j)) same (routine_sound L n routine entry t)
routines_sound L n _ _ (u_more {routines = routines} {entries = entries} t ts) (suc k) j proc e at =
    routines_sound L (suc n) routines entries ts k j proc (omega (arith, e)) at

-- the instructions of a procedure, by its number
instrs_at : (tables : Tables) (number : ℕ) (proc : Proc) → slice_get tables.procs number ≡ Some proc → instrs_of tables number ≡ proc.instrs
instrs_at tables number proc at = ap (λ o. option_map_or (λ (entry : Proc). entry.instrs) o []) at

pub joined_verified : (files : List (List Declaration)) (tables : Tables) → IsLinked files tables → IsVerified tables
joined_verified files tables h =
    let D = joined_declarations files in
    let sound : EachProcedure IsSoundProcedure (procedures_of D) = sound_files files h.faultless in
    let translated = is_translated D tables.csets h.code.csets sound in
    let code = code_with D tables.csets in
    let all : IsVerified code = λ number proc at.
    subst IsSound (instrs_at code number proc at)
    (routines_sound (linkage (program_of D) code) 0 _ _ translated.routines number number proc (omega arith) at) in
    subst IsVerified (sym h.code.others) all
