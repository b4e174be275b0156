-- The translation of procedures stands, and the first law for translated programs.
use Rattle.std.proofs.Common.{◌≡◌, ℕ, zero, suc, ◌+◌, Bool, true, false, List, [], ◌∷◌, ◌++◌, Option, Some, refl, sym, ap, ◌∙◌, subst, arith}
use Rattle.std.specs.Prelude.{slice_get, if◌then◌else◌, find, ◌==◌}
use Rattle.icn_defs.specs.Running.{Launch, Observation}
use Rattle.icn_code.specs.declared.instr.Instr.{Instr}
use Rattle.icn_code.specs.declared.instr.Instr.TheVariants as I
use Rattle.icn_code.specs.Codes.{Tables, Proc as Procedure, RecordType}
use Rattle.icn_text.specs.declared.func.Func.{Func}
use Rattle.icn_text.specs.declared.func.TheConstants.Func.{ALL as funcs}
use Rattle.icn_text.specs.Funcs.{func_number}
use Rattle.icn_tree.specs.Trees.{Tree, Trees, Present, NoTrees, More, Initial}
use Rattle.icn_meaning.specs.Program as M
use Rattle.icn_meaning.specs.Meaning.{Means}
use Rattle.std.specs.List.{list_any}
use Rattle.icn_run.specs.LinkedStep as Linked
use Rattle.icn_run.specs.LinkedStep.{repeats_of, is_chfail_to}
use Rattle.icn_run.specs.Step as S
use Rattle.law_simulation.specs.Translation as X
use Rattle.law_simulation.specs.Translation.{SymbolTable, size, code}
use Rattle.law_simulation.specs.Linkage.{Linkage, Here, Opens, o_mark}
use Rattle.law_simulation.specs.StandingCode.{top, in_mark, StandsMaybe, s_present, StandsRest, e_end, e_passed, e_blank, e_bounded, StandsRoutine, e_plain, e_initial, is_empty}
use Rattle.law_simulation.specs.Translatable.{Fits, FitsRest, fits_end, fits_skipped, fits_more, FitsRoutine, fits_plain, fits_blank, fits_initial}
use Rattle.law_simulation.specs.Translated.{linkage, TranslatedRoutine, Routines, u_none, u_more, Kinds, d_none, d_more, IsTranslated}
use Rattle.law_simulation.specs.Ground.{Ground, OfCallee, o_routine, o_kind, o_function, o_nothing}
use Rattle.law_simulation.specs.Begins.{Begins}
use Rattle.law_simulation.proofs.Segments.{Sits, CodePart, part_nil, part_cons, part_append, part_map}
use Rattle.law_simulation.proofs.StandingTranslation.{translation_stands, maybe_by, same_empty}
use Rattle.law_stacks.specs.SecondLaw.{MissingCell}
use Rattle.law_simulation.proofs.FirstLaw.{means_runs, runs_means, none_missing as none_missing_of}

abbrev rest_size : Trees → ℕ
rest_size NoTrees = 1
rest_size (More e es) = X.bounded_size e + rest_size es

module _ (L : Linkage) (N : SymbolTable) (j : ℕ) where
  rest_at : {es : Trees} {p p' : ℕ} → p ≡ p' → StandsRest L j es p → StandsRest L j es p'
  rest_at {es} e h = subst (λ p. StandsRest L j es p) e h

  rest_of_maybe : {e : Tree} {es : Trees} {p l : ℕ} → is_empty e ≡ false
      → StandsMaybe L j top (Present e) p l → StandsRest L j es l → StandsRest L j (More e es) p
  rest_of_maybe ne (s_present o b u) rest = e_bounded ne o b u rest

  bounded_part : {e : Tree} (p : ℕ) → is_empty e ≡ false → Fits L N j (in_mark top) e
      → CodePart L j p (X.bounded_size e) (X.bounded_code N p e)
      (StandsMaybe L j top (Present e) p (p + X.bounded_size e))
  bounded_part {e} p ne ok =
      let Q : Bool → Type 0 = λ b. CodePart L j p (if b then 0 else size [] e + 2)
      (if b then [] else (I.Mark (p + size [] e + 2) ∷ code N [] [] (p + 1) e ++ I.Unmark ∷ []))
      (StandsMaybe L j top (Present e) p (p + (if b then 0 else size [] e + 2))) in
      let g : Q false = maybe_by L N j {n = top} p (translation_stands L N j (p + 1) ok) in
      subst Q (sym (same_empty e ∙ ne)) g

  body_part : {es : Trees} (p : ℕ) → FitsRest L N j es
      → CodePart L j p (rest_size es) (X.body N p es) (StandsRest L j es p)
  body_part p fits_end = part_map L j (part_cons L j I.Pfail (λ i. refl) refl (part_nil L j _)) refl
      (λ x. e_end x.0)
  body_part p (fits_skipped ok) =
      part_map L j (part_append L j refl (part_nil L j p) (body_part (p + 0) ok)) refl
      (λ x. e_passed (rest_at (omega arith) x.1))
  body_part p (fits_more {e = e} ne e1 ok) =
      part_map L j (part_append L j refl (bounded_part p ne e1) (body_part (p + X.bounded_size e) ok)) refl
      (λ x. rest_of_maybe ne x.0 x.1)

  sits_whole : {xs : List Instr} → S.instrs_of L.tables j ≡ xs
      → ((p : ℕ) → L.repeats j p ≡ repeats_of L.tables j p) → Sits L j 0 xs
  sits_whole {xs} e r = record {
    placed = λ i x h. let q : i ≡ 0 + i = omega arith in
        subst (λ q. Here L j q x) q (ap (λ xs. slice_get xs i) e ∙ h);
    fresh = λ i h. r (0 + i) ∙ ap (λ xs. list_any (is_chfail_to (0 + i)) xs) e;
  }

  opens_to : {l l' : ℕ} (p : ℕ) → l ≡ l' → Here L j p (I.Mark l) → L.repeats j p ≡ false
      → Opens L j p (Some l')
  opens_to p e h f = o_mark (subst (λ l. Here L j p (I.Mark l)) e h) f

  routine_stands : {initial : Initial} {es : Trees} → FitsRoutine L N j initial es
      → Sits L j 0 (X.procedure N initial es) → StandsRoutine L j initial es
  routine_stands (fits_plain ok) s = e_plain ((body_part 0 ok).gives s)
  routine_stands (fits_blank ok) s = let x =
      (part_cons L j (I.Init 4) (λ i. refl) refl
      (part_cons L j (I.Mark 4) (λ i. refl) refl
      (part_cons L j I.Pnull (λ i. refl) refl
      (part_cons L j I.Unmark (λ i. refl) refl (body_part 4 ok))))).gives s in
      e_initial x.0 (e_blank (o_mark x.2.0 x.2.1) x.2.2.0 x.2.2.2.0 x.2.2.2.2) x.2.2.2.2
  routine_stands (fits_initial {e = te} ne e ok) s = let m = size [] te in let x =
      (part_cons L j (I.Init (m + 3)) (λ i. refl) refl
      (part_cons L j (I.Mark (m + 3)) (λ i. refl) refl
      (part_append L j refl (translation_stands L N j 2 e)
      (part_cons L j I.Unmark (λ i. refl) (omega arith) (body_part (m + 3) ok))))).gives s in
      e_initial x.0 (e_bounded ne (opens_to 1 (omega arith) x.2.0 x.2.1) x.2.2.0 x.2.2.1.0
      (rest_at (omega arith) x.2.2.1.2)) x.2.2.1.2

module _ (L : Linkage) (r : (j p : ℕ) → L.repeats j p ≡ repeats_of L.tables j p) where
  pub routine_callee : {n : ℕ} {routine : M.Routine} {entry : Procedure}
      → TranslatedRoutine L n routine entry → OfCallee L n (M.IsRoutine routine) (S.IsProc entry)
  routine_callee {n} t = o_routine t.parameters t.collects t.locals
      (routine_stands L t.names n t.fits (sits_whole L t.names n t.is_translated (r n)))

  function_if : {n : ℕ} {c : M.Callee} (found : Option Func) (b : Bool) (f : Func)
      → OfCallee L n c (S.func_callee found)
      → OfCallee L n (if b then M.IsFunction f else c) (S.func_callee (if b then Some f else found))
  function_if found true f h = o_function
  function_if found false f h = h

  function_callee : (n k : ℕ) (fs : List Func)
      → OfCallee L n (M.function_numbered k fs) (S.func_callee (find (λ f. func_number f == suc k) fs))
  function_callee n k [] = o_nothing
  function_callee n k (f ∷ fs) = function_if (find (λ f. func_number f == suc k) fs)
      (func_number f == suc k) f (function_callee n k fs)

  kind_callee : {kinds : List M.Constructor} {entries : List RecordType} (n k place : ℕ) → Kinds kinds entries
      → OfCallee L n (M.kind_or_function k place kinds) (S.record_among k place entries)
  kind_callee n k place d_none = function_callee n k funcs
  kind_callee n zero place (d_more e ks) = o_kind e
  kind_callee n (suc k) place (d_more e ks) = kind_callee n k (suc place) ks

  callee_at : {routines : List M.Routine} {entries : List Procedure} {kinds : List M.Constructor}
      {records : List RecordType} (b k n : ℕ) → n ≡ b + k → Routines L b routines entries
      → Kinds kinds records → OfCallee L n (M.callee_among k routines kinds)
      (S.callee_among k entries records)
  callee_at b k n e u_none ks = kind_callee n k zero ks
  callee_at b zero n e (u_more {routine = routine} {entry = entry} t ts) ks = let h : b ≡ n = omega arith in
      subst (λ n. OfCallee L n (M.IsRoutine routine) (S.IsProc entry)) h (routine_callee t)
  callee_at b (suc k) n e (u_more t ts) ks = callee_at (suc b) k n (omega arith) ts ks

abbrev ground_of : (program : M.Program) (tables : Tables) → IsTranslated program tables → Ground
ground_of program tables t = record {
  L = linkage program tables;
  callees = λ n.
      callee_at (linkage program tables) (λ j p. refl) 0 n n (omega arith) t.routines t.kinds;
}

-- The first law: where the code of each procedure is its translation, the meaning of the program and the
-- linked run of its code agree.
pub first_law : (program : M.Program) (tables : Tables) (launch : Launch) (seen : Observation)
    → IsTranslated program tables → Begins (linkage program tables)
    → (Means program launch seen → Linked.RunsHiding (repeats_of tables) program.hidden tables launch seen)
    × (Linked.RunsHiding (repeats_of tables) program.hidden tables launch seen → Means program launch seen)
first_law program tables launch seen t b = let G = ground_of program tables t in
    (means_runs G launch seen b, runs_means G launch seen b)

-- and the run of a translated program misses no cell
pub none_missing : (program : M.Program) (tables : Tables) (launch : Launch) → IsTranslated program tables
    → Begins (linkage program tables) → MissingCell (repeats_of tables) program.hidden tables launch → ⊥
none_missing program tables launch t b x = none_missing_of (ground_of program tables t) launch b x
