-- Names of procedures, constructors and functions in a whole code and in the pruned one, and how all numbers of both are related.
use Rattle.std.proofs.Common.{◌≡◌, ℕ, zero, suc, ◌+◌, ◌≤◌, Bool, List, [], ◌∷◌, ◌++◌, length, length-append, map, Option, Some, refl, sym, ap, ◌∙◌, subst, arith, if◌then◌else◌}
use Rattle.std.specs.Prelude.{ℤ, codes, nat_lt, pos, slice_get, slice_index_or, unwrap_or}
use Rattle.std.proofs.lemmas.List.{length-map}
use Rattle.icn_text.specs.Funcs.{func_name}
use Rattle.icn_value.specs.Store.{Names}
use Rattle.icn_code.specs.Codes.{Proc, RecordType, Tables}
use Rattle.icn_defs.specs.Images.{functions, procedure_image, procedure_name}
use Rattle.icn_defs.specs.KeptProcedures.{dropped_numbers}
use Rattle.icn_defs.specs.NamedValues as Naming
use Rattle.icn_defs.specs.NamedValues.{arguments_of, function_arguments, number_named}
use Rattle.icn_prune.specs.KeptCode.{MayBeKept}
use Rattle.icn_prune.specs.PrunedCode.{Survivors, kept_procs, new_place, proc_left, pruned_tables, record_left, string_in, survivors, taken_by}
use Rattle.icn_prune.proofs.AscendingPlaces.{Above, globals_ascend}
use Rattle.icn_prune.proofs.LeastSets.{Each, each_first}
use Rattle.icn_prune.proofs.PlacedEntries.{Finds}
use Rattle.icn_prune.proofs.PrunedRules.{found_behind_fields, found_behind_globals, looked_up, mentioned}
use Rattle.icn_prune.proofs.StandingPlaces.{some_injective}
use Rattle.icn_prune.proofs.TableRules.{AreRuled}
use Rattle.icn_run.specs.Step as S
use Rattle.law_prune.proofs.RelatedNumbers.{kept_of_list, names_alike}
use Rattle.law_prune.proofs.RelatedValues.{OneForOne}
use Rattle.law_prune.proofs.RelatedLists.{OptionTo}
use Rattle.law_prune.proofs.RelatedSettings.{Renaming}
use Rattle.law_prune.proofs.RelatedPlaces.{PlaceTo, StaticAt, count_is, found_place, kept_append, kept_count, kept_get, kept_map, less_to, places_one, places_ordered, statics_one}

-- Places in ascending order stand once

above_at : (n : ℕ) (l : List ℕ) (j p : ℕ) → Above n l → slice_get l j ≡ Some p → n ≤ p
above_at n [] j p a e = absurd (cc)
above_at n (x ∷ l) zero p a e = let same = some_injective x p e in let le = a.0 in omega (arith, same, le)
above_at n (x ∷ l) (suc j) p a e = let more = above_at (suc x) l j p a.1 e in let le = a.0 in omega (arith, more, le)

once : (n : ℕ) (l : List ℕ) (j k p : ℕ) → Above n l → slice_get l j ≡ Some p → slice_get l k ≡ Some p → j ≡ k
once n [] j k p a e f = absurd (cc)
once n (x ∷ l) zero zero p a e f = refl
once n (x ∷ l) zero (suc k) p a e f = let same = some_injective x p e in let more = above_at (suc x) l k p a.1 f in absurd (omega (arith, same, more))
once n (x ∷ l) (suc j) zero p a e f = let same = some_injective x p f in let more = above_at (suc x) l j p a.1 e in absurd (omega (arith, same, more))
once n (x ∷ l) (suc j) (suc k) p a e f = ap suc (once (suc x) l j k p a.1 e f)

module _ (T : Tables) (keep : List Bool) (r : AreRuled T) (k : MayBeKept T keep) where
  abbrev pub L : Survivors
  L = survivors T keep

  abbrev pub Q : Tables
  Q = pruned_tables keep T

  abbrev pub procs : List Proc
  procs = kept_procs keep T.procs

  abbrev pub whole : Names
  whole = S.names_hiding (dropped_numbers keep) T

  abbrev pub left : Names
  left = S.all_names Q

  -- Counts

  procs_count : length T.procs ≡ length keep
  procs_count = sym k.as_many

  left_count : length Q.procs ≡ kept_count keep
  left_count = length-map procs (proc_left L) ∙ count_is keep T.procs k.as_many

  as_long : {A : Type 0} (f : Proc → A) → length keep ≤ length (map f T.procs)
  as_long f = let same = length-map T.procs f in let many = k.as_many in omega (arith, same, many)

  -- Names

  proc_names : (ps : List Proc) → Each (Finds L.strings) (map (λ (entry : Proc). entry.name) ps)
      → map (S.proc_name Q) (map (proc_left L) ps) ≡ map (S.proc_name T) ps
  proc_names [] e = refl
  proc_names (p ∷ ps) e =
      ap (λ (name : List ℕ). name ∷ map (S.proc_name Q) (map (proc_left L) ps))
      (looked_up (λ place. slice_index_or T.strings place []) L.strings [] p.name e.0)
      ∙ ap (λ (names : List (List ℕ)). S.proc_name T p ∷ names) (proc_names ps e.1)

  record_names : (ks : List RecordType) → Each (Finds L.strings) (map (λ (kind : RecordType). kind.name) ks)
      → map (S.record_name Q) (map (record_left L) ks) ≡ map (S.record_name T) ks
  record_names [] e = refl
  record_names (p ∷ ps) e =
      ap (λ (name : List ℕ). name ∷ map (S.record_name Q) (map (record_left L) ps))
      (looked_up (λ place. slice_index_or T.strings place []) L.strings [] p.name e.0)
      ∙ ap (λ (names : List (List ℕ)). S.record_name T p ∷ names) (record_names ps e.1)

  same_procs : left.procedures ≡ map (S.proc_name T) procs
  same_procs = proc_names procs
      (each_first (Finds L.strings) (map (λ (entry : Proc). entry.name) procs) (taken_by string_in procs) (found_behind_globals T keep r k))

  pub same_records : whole.records ≡ left.records
  same_records =
      sym (record_names T.records (each_first (Finds L.strings) (map (λ (kind : RecordType). kind.name) T.records) _ (found_behind_fields T keep r k)))

  abbrev function_names : List (List ℕ)
  function_names = map func_name functions

  names_left : kept_of_list keep (Naming.all_names whole) ≡ Naming.all_names left
  names_left =
      kept_append keep whole.procedures (whole.records ++ function_names) (as_long (S.proc_name T))
      ∙ ap (λ (names : List (List ℕ)). names ++ (whole.records ++ function_names)) (kept_map (S.proc_name T) keep T.procs k.as_many ∙ sym same_procs)
      ∙ ap (λ (names : List (List ℕ)). left.procedures ++ (names ++ function_names)) same_records

  long_names : length keep ≤ length (Naming.all_names whole)
  long_names = let l = as_long (S.proc_name T) in let more = length-append whole.procedures (whole.records ++ function_names) in omega (arith, l, more)

  pub name_to : (n j : ℕ) → PlaceTo keep n j → procedure_name whole n ≡ procedure_name left j
  name_to n j t = ap (λ (o : Option (List ℕ)). unwrap_or o [])
      (kept_get keep (Naming.all_names whole) n j long_names t ∙ ap (λ (names : List (List ℕ)). slice_get names j) names_left)

  less_by : (a b c n j : ℕ) → a ≡ length keep + c → b ≡ kept_count keep + c → PlaceTo keep n j → nat_lt n a ≡ nat_lt j b
  less_by a b c n j e f t = ap (nat_lt n) e ∙ less_to keep n j c t ∙ sym (ap (nat_lt j) f)

  whole_procs : length whole.procedures ≡ length keep
  whole_procs = length-map T.procs (S.proc_name T) ∙ procs_count

  left_procs : length left.procedures ≡ kept_count keep
  left_procs = length-map Q.procs (S.proc_name Q) ∙ left_count

  pub image_to : (n j : ℕ) → PlaceTo keep n j → procedure_image whole n ≡ procedure_image left j
  image_to n j t =
      ap (λ (b : Bool). if b then codes "procedure " ++ procedure_name whole n else (if nat_lt n (length whole.procedures + length whole.records)
      then codes "record constructor " ++ procedure_name whole n
      else codes "function " ++ procedure_name whole n))
      (less_by _ _ 0 n j (let e = whole_procs in omega (arith, e)) (let e = left_procs in omega (arith, e)) t)
      ∙ ap (λ (b : Bool). if nat_lt j (length left.procedures) then codes "procedure " ++ procedure_name whole n else (if b
      then codes "record constructor " ++ procedure_name whole n
      else codes "function " ++ procedure_name whole n))
      (less_by _ _ (length whole.records) n j (let e = whole_procs in omega (arith, e))
      (let e = left_procs in let f = ap (λ (names : List (List ℕ)). length names) same_records in omega (arith, e, f)) t)
      ∙ ap (λ (name : List ℕ). if nat_lt j (length left.procedures) then codes "procedure " ++ name
      else (if nat_lt j (length left.procedures + length left.records) then codes "record constructor " ++ name else codes "function " ++ name)) (name_to n j t)

  proc_arguments_left : (ps : List Proc) → map S.proc_arguments (map (proc_left L) ps) ≡ map S.proc_arguments ps
  proc_arguments_left [] = refl
  proc_arguments_left (p ∷ ps) = ap (λ (zs : List ℤ). S.proc_arguments p ∷ zs) (proc_arguments_left ps)

  record_arguments_left : (ks : List RecordType) → map S.record_arguments (map (record_left L) ks) ≡ map S.record_arguments ks
  record_arguments_left [] = refl
  record_arguments_left (p ∷ ps) = ap (λ (n : ℕ). pos n ∷ map S.record_arguments (map (record_left L) ps)) (length-map p.fields (new_place L.fields))
      ∙ ap (λ (zs : List ℤ). S.record_arguments p ∷ zs) (record_arguments_left ps)

  abbrev taken_by_functions : List ℤ
  taken_by_functions = map function_arguments functions

  arguments_left : kept_of_list keep (whole.arguments ++ taken_by_functions) ≡ left.arguments ++ taken_by_functions
  arguments_left =
      kept_append keep (map S.proc_arguments T.procs ++ map S.record_arguments T.records) taken_by_functions long_arguments
      ∙ ap (λ (zs : List ℤ). zs ++ taken_by_functions)
      (kept_append keep (map S.proc_arguments T.procs) (map S.record_arguments T.records) (as_long S.proc_arguments)
      ∙ ap (λ (zs : List ℤ). zs ++ map S.record_arguments T.records) (kept_map S.proc_arguments keep T.procs k.as_many ∙ sym (proc_arguments_left procs))
      ∙ ap (λ (zs : List ℤ). map S.proc_arguments Q.procs ++ zs) (sym (record_arguments_left T.records)))
    where
      long_arguments : length keep ≤ length (map S.proc_arguments T.procs ++ map S.record_arguments T.records)
      long_arguments = let l = as_long S.proc_arguments in
          let more = length-append (map S.proc_arguments T.procs) (map S.record_arguments T.records) in omega (arith, l, more)

  pub arguments_to : (n j : ℕ) → PlaceTo keep n j → arguments_of whole n ≡ arguments_of left j
  arguments_to n j t = ap (λ (o : Option ℤ). unwrap_or o (pos 0))
      (kept_get keep (whole.arguments ++ taken_by_functions) n j long t ∙ ap (λ (zs : List ℤ). slice_get zs j) arguments_left)
    where
      long : length keep ≤ length (whole.arguments ++ taken_by_functions)
      long = let l = as_long S.proc_arguments in
          let one = length-append (map S.proc_arguments T.procs) (map S.record_arguments T.records) in
          let more = length-append whole.arguments taken_by_functions in
          omega (arith, l, one, more)

  pub named_to : (text : List ℕ) → OptionTo (PlaceTo keep) (number_named whole text) (number_named left text)
  named_to text = subst (λ (names : List (List ℕ)). OptionTo (PlaceTo keep) (number_named whole text) (Naming.number_from [] 0 names text)) names_left
      (found_place keep _ _ (names_alike 0 0 keep (dropped_numbers keep) (Naming.all_names whole) text long_names (λ x l. refl)))

  -- How the numbers of both runs are related

  abbrev pub StaysAt : ℕ → ℕ → Type 0
  StaysAt p j = slice_get L.globals j ≡ Some p

  pub globals_one : OneForOne StaysAt
  globals_one = record {
    after = λ p x y e f. once 0 L.globals x y p (globals_ascend keep (mentioned T keep r k) 0 T.globals) e f;
    before = λ p w y e f. some_injective p w (sym e ∙ f);
  }

  abbrev pub renamed : Renaming
  renamed = record {
    To = PlaceTo keep;
    GlobalTo = StaysAt;
    StaticTo = StaticAt keep T.procs;
    one = places_one keep;
    along = places_ordered keep;
    one_global = globals_one;
    one_static = statics_one keep T.procs;
    whole = whole;
    left = left;
    names = record {
      same_name = name_to;
      same_image = image_to;
      same_arguments = arguments_to;
      same_records = same_records;
      named = named_to;
    };
  }
