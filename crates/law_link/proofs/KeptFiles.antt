-- The procedures that files keep are those that their linked code keeps: a name that a procedure uses and does not declare is a global of its
-- code where it is that of a procedure, and this global begins with the procedure.
use Rattle.std.proofs.Common.{◌≡◌, ℕ, zero, suc, ◌+◌, Bool, true, false, ◌||◌, not, List, [], ◌∷◌, ◌++◌, length, map, Option, None, Some, refl, sym, ap, ◌∙◌, subst, append-nil, if◌then◌else◌}
use Rattle.std.specs.Prelude.{codes, is_some, slice_get}
use Rattle.std.specs.List.{flat_map, list_any, range_with_len}
use Rattle.std.specs.Option.{option_and_then}
use Rattle.std.specs.Str.{bytes_eq}
use Rattle.std.proofs.lemmas.Bool.{false≢true, or_right}
use Rattle.std.proofs.lemmas.Grind.{flat_map-append}
use Rattle.std.proofs.lemmas.List.{length-map}
use Rattle.std.proofs.lemmas.List.Folds.{list_any-append}
use Rattle.std.proofs.lemmas.Option.{none-some, same_Some}
use Rattle.std.proofs.lemmas.Slice.Eq.{bytes_eq-Decides}
use Rattle.icn_tree.specs.Trees.{Procedure, Declaration}
use Rattle.icn_value.specs.declared.cset.Cset.{Cset}
use Rattle.icn_code.specs.declared.code.Global.{Global as GlobalEntry}
use Rattle.icn_code.specs.declared.instr.Instr.{Instr}
use Rattle.icn_code.specs.declared.instr.Instr.TheVariants as I
use Rattle.icn_code.specs.Codes.{Tables}
use Rattle.icn_code.specs.MainProcedure.{main_of, procedure_at}
use Rattle.icn_defs.specs.KeptProcedures.{dropped_numbers, kept_from}
use Rattle.icn_unit.specs.declared.unit.UnitInstr.{UnitInstr}
use Rattle.icn_unit.specs.declared.unit.UnitInstr.TheVariants as U
use Rattle.icn_link.specs.Joined.{scope_of}
use Rattle.icn_link.specs.Resolving.{Scope, resolve, resolved_one}
use Rattle.icn_meaning.specs.Program as Meaning
use Rattle.icn_meaning.specs.Program.{function_named, global_names, globals_of, has_name, index_of, invocable_texts, joined_declarations, kind_names, kinds_of, later, numbers_of, own_names, procedure_names, procedures_of, routine_names, routine_of, routines_of, statics_among, undeclared_names, undeclared_uses, with_more_names, with_name, with_number, without_names}
use Rattle.icn_prune.specs.KeptCode.{global_in, kept_of, mentioned_by, mentioned_in, number_in, own_kept, procedure_of_global}
use Rattle.icn_run.specs.Step.{members_of}
use Rattle.icn_translate.specs.Drafts.{name_index}
use Rattle.icn_translate.specs.ProcCodes.{draft_of, first_draft, proc_code}
use Rattle.law_link.specs.InvocableFiles.{names_all, named_procs}
use Rattle.law_simulation.specs.FirstLaw.{IsLinked, dropped_procedures}
use Rattle.law_simulation.specs.JoinedFiles.{code_with, global_entry, procedure_entry, routines, sets_of, variable_by}
use Rattle.law_simulation.proofs.CheckedProcedures.{EachProcedure, IsSoundProcedure, sound_files}
use Rattle.law_simulation.proofs.FirstMentions.{any_left, or_other, test_by}
use Rattle.law_simulation.proofs.JoinedTranslation.{among_added, main_same, placed_among, procedure_of_start, procedures_among}
use Rattle.law_link.proofs.FileTables.{Fit}
use Rattle.law_link.proofs.FirstsOnce.{has_any, itself, names_within, or_last}
use Rattle.law_link.proofs.JoinedCode.{agrees, entry_same, files_fit, M}
use Rattle.law_link.proofs.Mentioning.{code_adds, places_by, places_in}
use Rattle.law_link.proofs.NameEntries.{IsFit, uses}

-- The globals that instructions push

one_global : (S : Scope) (i : UnitInstr) → flat_map global_in (resolved_one S i) ≡ flat_map (λ place. global_in (S.variable place)) (places_by i)
one_global S (U.Var place) = refl
one_global S i = refl

globals_resolved : (S : Scope) (is : List UnitInstr)
    → flat_map global_in (resolve S is) ≡ flat_map (λ place. global_in (S.variable place)) (places_in is)
globals_resolved S [] = refl
globals_resolved S (i ∷ is) =
    flat_map-append global_in (resolved_one S i) (resolve S is)
    ∙ ap (λ l. l ++ flat_map global_in (resolve S is)) (one_global S i)
    ∙ ap (λ l. flat_map (λ place. global_in (S.variable place)) (places_by i) ++ l) (globals_resolved S is)
    ∙ sym (flat_map-append (λ place. global_in (S.variable place)) (places_by i) (places_in is))

-- Lists of several things each

flat_twice : {A : Type 0} (f : ℕ → List ℕ) (g : A → List ℕ) (xs : List A) → flat_map f (flat_map g xs) ≡ flat_map (λ x. flat_map f (g x)) xs
flat_twice f g [] = refl
flat_twice f g (x ∷ xs) = flat_map-append f (g x) (flat_map g xs) ∙ ap (λ l. flat_map f (g x) ++ l) (flat_twice f g xs)

flat_mapped : {A : Type 0} (f : ℕ → List ℕ) (g : A → ℕ) (xs : List A) → flat_map f (map g xs) ≡ flat_map (λ x. f (g x)) xs
flat_mapped f g [] = refl
flat_mapped f g (x ∷ xs) = ap (λ l. f (g x) ++ l) (flat_mapped f g xs)

each_same : (f g : List ℕ → List ℕ) (xs : List (List ℕ)) → ((x : List ℕ) → list_any (bytes_eq x) xs ≡ true → f x ≡ g x)
    → flat_map f xs ≡ flat_map g xs
each_same f g [] h = refl
each_same f g (x ∷ xs) h =
    ap (λ l. l ++ flat_map f xs) (h x (ap (λ b. b || list_any (bytes_eq x) xs) (itself x)))
    ∙ ap (λ l. g x ++ l) (each_same f g xs (λ y m. h y (or_last (bytes_eq y x) (list_any (bytes_eq y) xs) m)))

-- Names and their places

later_some : (o : Option ℕ) → is_some (later o) ≡ is_some o
later_some None = refl
later_some (Some k) = refl

index_there : (x : List ℕ) (names : List (List ℕ)) → list_any (bytes_eq x) names ≡ is_some (index_of x names)
index_there x [] = refl
index_there x (y ∷ names) = by (bytes_eq x y) (index_there x names)
  where
    by : (b : Bool) → list_any (bytes_eq x) names ≡ is_some (index_of x names)
        → (b || list_any (bytes_eq x) names) ≡ is_some (if b then Some zero else later (index_of x names))
    by true h = refl
    by false h = h ∙ sym (later_some (index_of x names))

absent : (x : List ℕ) (names : List (List ℕ)) → index_of x names ≡ None → list_any (bytes_eq x) names ≡ false
absent x names e = index_there x names ∙ ap is_some e

placeless : (x : List ℕ) (names : List (List ℕ)) → list_any (bytes_eq x) names ≡ false → index_of x names ≡ None
placeless x names f = by (index_of x names) refl
  where
    by : (o : Option ℕ) → index_of x names ≡ o → o ≡ None
    by None e = refl
    by (Some k) e = absurd (false≢true (sym f ∙ placed_among x names k e))

neither : (a b : Bool) → (a || b) ≡ false → (a ≡ false) × (b ≡ false)
neither true b h = absurd (false≢true (sym h))
neither false b h = (refl, h)

-- what is global is among no other names
not_without : (x : List ℕ) (known others : List (List ℕ)) → list_any (bytes_eq x) known ≡ true
    → list_any (bytes_eq x) (without_names known others) ≡ false
not_without x known [] h = refl
not_without x known (y ∷ others) h = by (has_name y known) refl (not_without x known others h)
  where
    same : (c : Bool) → bytes_eq x y ≡ c → has_name y known ≡ false → list_any (bytes_eq x) (without_names known others) ≡ false
        → (c || list_any (bytes_eq x) (without_names known others)) ≡ false
    same true f e rest =
        absurd (false≢true (sym e ∙ has_any y known ∙ ap (λ z. list_any (bytes_eq z) known) (sym ((bytes_eq-Decides x y).0 f)) ∙ h))
    same false f e rest = rest

    by : (b : Bool) → has_name y known ≡ b → list_any (bytes_eq x) (without_names known others) ≡ false
        → list_any (bytes_eq x) (with_name (not b) y (without_names known others)) ≡ false
    by true e rest = rest
    by false e rest = same (bytes_eq x y) refl e rest

-- what stands at the place of a name
at_place : {A : Type 0} (entry : List ℕ → A) (names : List (List ℕ)) (x : List ℕ) (k : ℕ) → index_of x names ≡ Some k
    → slice_get (map entry names) k ≡ Some (entry x)
at_place entry [] x k e = absurd (none-some k e)
at_place entry (y ∷ names) x k e = by (bytes_eq x y) refl (index_of x names) refl (at_place entry names x) e
  where
    by : (b : Bool) → bytes_eq x y ≡ b → (o : Option ℕ) → index_of x names ≡ o
        → ((j : ℕ) → index_of x names ≡ Some j → slice_get (map entry names) j ≡ Some (entry x))
        → (if b then Some zero else later (index_of x names)) ≡ Some k → slice_get (entry y ∷ map entry names) k ≡ Some (entry x)
    by true s o i rest e =
        subst (λ j. slice_get (entry y ∷ map entry names) j ≡ Some (entry x)) (same_Some zero k e)
        (ap (λ z. Some (entry z)) (sym ((bytes_eq-Decides x y).0 s)))
    by false s None i rest e = absurd (none-some k (sym (ap later i) ∙ e))
    by false s (Some j) i rest e =
        subst (λ m. slice_get (entry y ∷ map entry names) m ≡ Some (entry x)) (same_Some (suc j) k (sym (ap later i) ∙ e)) (rest j i)

-- Numbers of procedures

front : (o : Option ℕ) (rest : List ℕ) → number_in o ++ rest ≡ with_number o rest
front None rest = refl
front (Some n) rest = refl

-- the number of the procedure that a name is of, unless it is among these names
abbrev named_by : List (List ℕ) → List (List ℕ) → List ℕ → List ℕ
named_by procedures known x = if list_any (bytes_eq x) known then [] else number_in (index_of x procedures)

numbers_left : (procedures known xs : List (List ℕ))
    → flat_map (named_by procedures known) xs ≡ numbers_of procedures (without_names known xs)
numbers_left procedures known [] = refl
numbers_left procedures known (x ∷ xs) =
    ap (λ b. (if b then [] else number_in (index_of x procedures)) ++ flat_map (named_by procedures known) xs) (sym (has_any x known))
    ∙ by (has_name x known) (numbers_left procedures known xs)
  where
    by : (b : Bool) → flat_map (named_by procedures known) xs ≡ numbers_of procedures (without_names known xs)
        → (if b then [] else number_in (index_of x procedures)) ++ flat_map (named_by procedures known) xs
        ≡ numbers_of procedures (with_name (not b) x (without_names known xs))
    by true h = h
    by false h = ap (λ l. number_in (index_of x procedures) ++ l) h ∙ front (index_of x procedures) (numbers_of procedures (without_names known xs))

names_of_routines : (globals : List (List ℕ)) (first : ℕ) (procedures : List Procedure)
    → routine_names (routines_of globals first procedures) ≡ procedure_names procedures
names_of_routines globals first [] = refl
names_of_routines globals first (procedure ∷ others) =
    ap (λ l. procedure.name.text ∷ l) (names_of_routines globals (first + length (statics_among procedure.locals)) others)

many_routines : (globals : List (List ℕ)) (first : ℕ) (procedures : List Procedure)
    → length (routines_of globals first procedures) ≡ length (procedure_names procedures)
many_routines globals first [] = refl
many_routines globals first (procedure ∷ others) =
    ap suc (many_routines globals (first + length (statics_among procedure.locals)) others)

-- The code of declarations that break no rule

module _ (D : List Declaration) (csets : List Cset) (members : map members_of csets ≡ sets_of D)
    (sound : EachProcedure IsSoundProcedure (procedures_of D)) (fit : Fit (procedures_of D)) where
  abbrev T : Tables
  T = code_with D csets

  abbrev P : List (List ℕ)
  P = procedure_names (procedures_of D)

  abbrev G : List (List ℕ)
  G = globals_of D

  abbrev procedures_named : routine_names (routines D) ≡ P
  procedures_named = names_of_routines G 0 (procedures_of D)

  -- what an instruction mentions
  abbrev mention : Instr → List ℕ
  mention i = flat_map (procedure_of_global T) (global_in i)

  starts : (x : List ℕ) → number_in (procedure_at (global_entry D x).start) ≡ number_in (index_of x P)
  starts x =
      ap number_in
      (procedure_of_start (index_of x (routine_names (routines D))) (index_of x (kind_names (kinds_of D))) (has_name x (global_names D)) (function_named x)
      ∙ ap (index_of x) procedures_named)

  global_mention : (x : List ℕ) (k : ℕ) → index_of x G ≡ Some k → procedure_of_global T k ≡ number_in (index_of x P)
  global_mention x k e =
      ap (λ o. number_in (option_and_then (λ (global : GlobalEntry). procedure_at global.start) o)) (at_place (global_entry D) G x k e) ∙ starts x

  -- procedures are globals
  procedure_global : (x : List ℕ) (n : ℕ) → index_of x P ≡ Some n → list_any (bytes_eq x) G ≡ true
  procedure_global x n e =
      let declared : List (List ℕ) = with_more_names [] (global_names D) in
      any_left (bytes_eq x) declared _
      (among_added [] (global_names D) x (procedures_among G 0 D x (placed_among x (routine_names (routines D)) n (ap (index_of x) procedures_named ∙ e))))

  -- a name that is declared is no global
  declared : (a b c : Option ℕ) → (a ≡ None → b ≡ None → ⊥) → mention (variable_by a b c) ≡ []
  declared (Some n) b c h = refl
  declared None (Some n) c h = refl
  declared None None c h = absurd (h refl refl)

  no_global : (a : Option ℕ) → mention (variable_by a None None) ≡ []
  no_global (Some n) = refl
  no_global None = refl

  module _ (x : List ℕ) (own statics others : List (List ℕ)) where
    abbrev known : List (List ℕ)
    known = own ++ statics

    abbrev more : List (List ℕ)
    more = without_names G others

    abbrev means : List ℕ
    means = mention (variable_by (index_of x (own ++ more)) (index_of x statics) (index_of x G))

    of_known : list_any (bytes_eq x) known ≡ true → means ≡ named_by P known x
    of_known k = declared (index_of x (own ++ more)) (index_of x statics) (index_of x G) there
        ∙ ap (λ b. if b then [] else number_in (index_of x P)) (sym k)
      where
        there : index_of x (own ++ more) ≡ None → index_of x statics ≡ None → ⊥
        there a b = test_by (list_any (bytes_eq x) own)
            (λ o. false≢true (sym (absent x (own ++ more) a) ∙ any_left (bytes_eq x) own more o))
            (λ o. false≢true (sym (absent x statics b) ∙ or_other (list_any (bytes_eq x) own) (list_any (bytes_eq x) statics) o
            (sym (list_any-append (bytes_eq x) own statics) ∙ k)))

    of_global : list_any (bytes_eq x) own ≡ false → list_any (bytes_eq x) G ≡ true
        → mention (variable_by (index_of x (own ++ more)) None (index_of x G)) ≡ number_in (index_of x P)
    of_global o g =
        ap (λ a. mention (variable_by a None (index_of x G))) (placeless x (own ++ more) none) ∙ at (index_of x G) refl
      where
        none : list_any (bytes_eq x) (own ++ more) ≡ false
        none = list_any-append (bytes_eq x) own more ∙ ap (λ b. b || list_any (bytes_eq x) more) o ∙ not_without x G others g

        at : (place : Option ℕ) → index_of x G ≡ place → mention (variable_by None None place) ≡ number_in (index_of x P)
        at None e = absurd (false≢true (sym (absent x G e) ∙ g))
        at (Some k) e = append-nil (procedure_of_global T k) ∙ global_mention x k e

    of_none : list_any (bytes_eq x) G ≡ false
        → mention (variable_by (index_of x (own ++ more)) None (index_of x G)) ≡ number_in (index_of x P)
    of_none g =
        ap (λ c. mention (variable_by (index_of x (own ++ more)) None c)) (placeless x G g) ∙ no_global (index_of x (own ++ more))
        ∙ no_number (index_of x P) refl
      where
        no_number : (o : Option ℕ) → index_of x P ≡ o → [] ≡ number_in o
        no_number None e = refl
        no_number (Some n) e = absurd (false≢true (sym g ∙ procedure_global x n e))

    of_unknown : list_any (bytes_eq x) known ≡ false → means ≡ named_by P known x
    of_unknown k =
        let both = neither (list_any (bytes_eq x) own) (list_any (bytes_eq x) statics) (sym (list_any-append (bytes_eq x) own statics) ∙ k) in
        ap (λ b. mention (variable_by (index_of x (own ++ more)) b (index_of x G))) (placeless x statics both.1)
        ∙ test_by (list_any (bytes_eq x) G) (of_global both.0) of_none
        ∙ ap (λ b. if b then [] else number_in (index_of x P)) (sym k)

    variable_mention : means ≡ named_by P known x
    variable_mention = test_by (list_any (bytes_eq x) known) of_known of_unknown

  -- what a procedure mentions
  uses_mention : (procedure : Procedure) (h : IsFit procedure) (first : ℕ)
      → mentioned_in T (procedure_entry D (routine_of G first procedure)) ≡ numbers_of P (undeclared_uses procedure)
  uses_mention procedure h first =
      let code = proc_code procedure in
      let S : Scope = scope_of (M D fit) code in
      let F = (draft_of procedure).names in
      let own = own_names procedure in
      let statics = statics_among procedure.locals in
      let adds = code_adds h.met procedure h.faultless h.initial h.body (first_draft procedure) in
      let value : ℕ → List ℕ = λ place. mention (S.variable place) in
      let among : (x : List ℕ) → list_any (bytes_eq x) (uses procedure) ≡ true → list_any (bytes_eq x) F ≡ true =
      λ x g. ap (list_any (bytes_eq x)) adds.names ∙ names_within (first_draft procedure).names (uses procedure) x
      ∙ or_right (list_any (bytes_eq x) (first_draft procedure).names) (list_any (bytes_eq x) (uses procedure)) g in
      ap (mentioned_in T) (sym (entry_same D fit procedure h first))
      ∙ ap (flat_map (procedure_of_global T)) (globals_resolved S code.instrs)
      ∙ flat_twice (procedure_of_global T) (λ place. global_in (S.variable place)) (places_in code.instrs)
      ∙ ap (flat_map value) (adds.used [])
      ∙ flat_mapped value (name_index F) (uses procedure)
      ∙ each_same (λ x. value (name_index F x)) (named_by P (own ++ statics)) (uses procedure)
      (λ x g. ap mention ((agrees D fit procedure h first).variable x (among x g)) ∙ variable_mention x own statics (undeclared_names procedure))
      ∙ numbers_left P (own ++ statics) (uses procedure)

  all_mention : (procedures : List Procedure) → Fit procedures → (first : ℕ)
      → map (mentioned_in T) (map (procedure_entry D) (routines_of G first procedures)) ≡ Meaning.mentioned_by P procedures
  all_mention [] h first = refl
  all_mention (procedure ∷ others) h first =
      let next = first + length (statics_among procedure.locals) in
      ap (λ l. l ∷ map (mentioned_in T) (map (procedure_entry D) (routines_of G next others))) (uses_mention procedure h.0 first)
      ∙ ap (λ l. numbers_of P (undeclared_uses procedure) ∷ l) (all_mention others h.1 next)

  mentions_alike : mentioned_by T ≡ Meaning.mentioned_by P (procedures_of D)
  mentions_alike = all_mention (procedures_of D) fit 0

  -- what is kept for its own sake
  own_alike : (texts : List (List ℕ)) → own_kept T (numbers_of P texts) (has_name (codes "all") texts) ≡ Meaning.own_kept P texts
  own_alike texts = by (has_name (codes "all") texts)
    where
      many : length T.procs ≡ length P
      many = length-map (routines D) (procedure_entry D) ∙ many_routines G 0 (procedures_of D)

      by : (b : Bool) → (if b then range_with_len 0 (length T.procs) else number_in (main_of T) ++ numbers_of P texts)
          ≡ (if b then range_with_len 0 (length P) else numbers_of P (codes "main" ∷ texts))
      by true = ap (range_with_len 0) many
      by false = ap (λ o. number_in o ++ numbers_of P texts) (main_same D csets members sound ∙ ap (index_of (codes "main")) procedures_named)
          ∙ front (index_of (codes "main") P) (numbers_of P texts)

  pub kept_alike : (texts : List (List ℕ)) → kept_of T (numbers_of P texts) (has_name (codes "all") texts)
      ≡ kept_from (Meaning.mentioned_by P (procedures_of D)) (Meaning.own_kept P texts)
  kept_alike texts = λ i. kept_from (mentions_alike i) (own_alike texts i)

pub files_keep : (files : List (List Declaration)) (tables : Tables) → IsLinked files tables
    → dropped_procedures files ≡ dropped_numbers (kept_of tables (named_procs files) (names_all files))
files_keep files tables linked =
    let D = joined_declarations files in
    ap dropped_numbers
    (sym (ap (λ (t : Tables). kept_of t (named_procs files) (names_all files)) linked.code.others
    ∙ kept_alike D tables.csets linked.code.csets (sound_files files linked.faultless) (files_fit files linked.faultless) (invocable_texts D)))
