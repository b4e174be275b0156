-- What the rules say of each procedure of the files of a program.
use Rattle.std.proofs.Common.{◌≡◌, Bool, true, false, List, [], ◌∷◌, ◌++◌, length, Option, Some, None, refl, ap, suc, arith}
use Rattle.std.specs.Prelude.{All}
use Rattle.std.specs.Option.{option_map}
use Rattle.std.proofs.Math.Bool.{Bool-set}
use Rattle.std.proofs.Math.Logic.{∥∥₁_elim}
use Rattle.icn_tree.specs.declared.token.Token.{Token}
use Rattle.icn_tree.specs.declared.rule.Rule.TheVariants.{C1, C8}
use Rattle.icn_tree.specs.declared.tree.Name.{Name}
use Rattle.icn_tree.specs.declared.tree.DeclItem.{DeclItem}
use Rattle.icn_tree.specs.declared.tree.DeclItem.TheVariants as Items
use Rattle.icn_tree.specs.declared.tree.Place.{Place}
use Rattle.icn_tree.specs.Phrases.{Phrase}
use Rattle.icn_tree.specs.Declarations.{MoreWithCommas, WithCommas, SpellsMaybeNames, SpellsItem, SpellsParameters, SpellsLocals, SpellsInitial, SpellsBody, SpellsDeclaration, SpellsFile, IsTreeOf}
use Rattle.icn_tree.specs.Grammar.{identifier}
use Rattle.icn_tree.specs.Trees.{Trees, NoTrees, More, LocalDecl, Initial, NoInitial, Initially, Procedure, Declaration, Global, Link, Invocable, Record, ProcedureOf}
use Rattle.icn_parse.specs.Outcomes.{first_unknown, initial_keywords, all_keywords, declaration_fault, first_fault, fault_or, ProfileFault, UnknownKeyword, IsTree, IsOutcome, is_tree}
use Rattle.icn_decls.specs.Contexts.{outermost}
use Rattle.icn_decls.specs.Faults.{initial_faults, all_faults, all_repeated, fault_if_met, too_many, declared_names, procedure_faults, declaration_faults, declarations_faults, names_after}
use Rattle.icn_tree.specs.NameSets.{NameTest, none_met}
use Rattle.icn_meaning.specs.Program.{joined_declarations, procedures_of}
use Rattle.icn_decls.specs.CheckedTexts.{IsSpelled}
use Rattle.law_simulation.specs.Faultless.{IsFaultless}
use Rattle.law_simulation.proofs.TreeForms.{FormedInitial, FormedAll, initial_prop, all_prop, are_formed, Keeps, keeps_nothing, keeps_sign_at, keeps_sign, keeps_then, keeps_map, keeps_part, formed}
use Rattle.law_simulation.proofs.FaultlessTreesFit.{none_before, none_behind}

-- what the rules say of a procedure's `initial` and body
pub record IsSound (initial : Initial) (body : Trees) : Type 0 where
  pub initial_formed : FormedInitial initial
  pub body_formed : FormedAll body
  pub faultless : initial_faults initial ++ all_faults outermost body ≡ []
  pub known : first_unknown (initial_keywords initial ++ all_keywords body) ≡ None

abbrev pub IsSoundProcedure : Procedure → Type 0
IsSoundProcedure procedure = IsSound procedure.initial procedure.body

-- Each of some procedures is so.
abbrev pub EachProcedure : (Procedure → Type 0) → List Procedure → Type 0
EachProcedure P [] = Unit {0}
EachProcedure P (procedure ∷ others) = P procedure × EachProcedure P others

-- The grammar

-- the names of a declaration, one after the other
formed_commas : {A : Type 0} (spells : A → Phrase) → ((x : A) → Keeps (spells x) (Unit {0})) → (xs : List A)
    → Keeps (MoreWithCommas spells xs) (Unit {0})
formed_commas spells h [] = keeps_nothing
formed_commas spells h (x ∷ xs) =
    keeps_map (keeps_then (keeps_sign _) (keeps_then (h x) (formed_commas spells h xs))) (λ y. tt)

formed_names_by : {A : Type 0} (spells : A → Phrase) → ((x : A) → Keeps (spells x) (Unit {0}))
    → (xs : List A) → Keeps (WithCommas spells xs) (Unit {0})
formed_names_by spells h [] = record { gives = λ here after g s. absurd s }
formed_names_by spells h (x ∷ xs) = keeps_map (keeps_then (h x) (formed_commas spells h xs)) (λ y. tt)

formed_name : (name : Name) → Keeps (identifier name) (Unit {0})
formed_name name = keeps_map (keeps_sign_at name.place _) (λ y. tt)

formed_maybe_names : (names : List Name) → Keeps (SpellsMaybeNames names) (Unit {0})
formed_maybe_names [] = keeps_nothing
formed_maybe_names (name ∷ names) = formed_names_by identifier formed_name (name ∷ names)

formed_item : (item : DeclItem) → Keeps (SpellsItem item) (Unit {0})
formed_item (Items.Identifier name) = formed_name name
formed_item (Items.Text name) = keeps_map (keeps_sign_at name.place _) (λ y. tt)

formed_parameters : (names : List Name) (b : Bool) → Keeps (SpellsParameters names b) (Unit {0})
formed_parameters names false = formed_maybe_names names
formed_parameters names true = keeps_map
    (keeps_then (formed_names_by identifier formed_name names) (keeps_then (keeps_sign _) (keeps_sign _)))
    (λ y. tt)

formed_locals : (locals : List LocalDecl) → Keeps (SpellsLocals locals) (Unit {0})
formed_locals [] = keeps_nothing
formed_locals (l ∷ others) = keeps_map
    (keeps_then (keeps_sign_at l.place _)
    (keeps_then (formed_names_by identifier formed_name l.names)
    (keeps_then (keeps_sign _) (formed_locals others)))) (λ y. tt)

formed_initial : (initial : Initial) → Keeps (SpellsInitial initial) (FormedInitial initial)
formed_initial NoInitial = keeps_nothing
formed_initial (Initially place value) =
    keeps_map (keeps_then (keeps_sign_at place _) (keeps_then (keeps_part 1 (formed value)) (keeps_sign _)))
    (λ y. y.1.0)

formed_body : (body : Trees) → Keeps (SpellsBody body) (FormedAll body)
formed_body NoTrees = keeps_nothing
formed_body (More e es) = keeps_map
    (keeps_then (keeps_part 0 (formed e)) (keeps_then (keeps_sign _) (formed_body es))) (λ y. (y.0, y.1.1))

abbrev IsFormedProcedure : Procedure → Type 0
IsFormedProcedure procedure = FormedInitial procedure.initial × FormedAll procedure.body

formed_procedure : (p : Procedure) → Keeps (SpellsDeclaration (ProcedureOf p)) (IsFormedProcedure p)
formed_procedure p = keeps_map (keeps_then (keeps_sign_at p.place _)
    (keeps_then (formed_name p.name)
    (keeps_then (keeps_sign _) (keeps_then (formed_parameters p.parameters p.is_variadic)
    (keeps_then (keeps_sign _) (keeps_then (keeps_sign _)
    (keeps_then (formed_locals p.locals)
    (keeps_then (formed_initial p.initial) (keeps_then (formed_body p.body) (keeps_sign _))))))))))
    (λ y. (y.1.1.1.1.1.1.1.0, y.1.1.1.1.1.1.1.1.0))

formed_file : (file : List Declaration)
    → Keeps (SpellsFile file) (EachProcedure IsFormedProcedure (procedures_of file))
formed_file [] = keeps_nothing
formed_file (Global place names ∷ others) =
    keeps_map (keeps_then (keeps_then (keeps_sign_at place _)
    (formed_names_by identifier formed_name names)) (formed_file others)) (λ y. y.1)
formed_file (Link place items ∷ others) =
    keeps_map (keeps_then (keeps_then (keeps_sign_at place _)
    (formed_names_by SpellsItem formed_item items)) (formed_file others)) (λ y. y.1)
formed_file (Invocable place items ∷ others) =
    keeps_map (keeps_then (keeps_then (keeps_sign_at place _)
    (formed_names_by SpellsItem formed_item items)) (formed_file others)) (λ y. y.1)
formed_file (Record place name fields ∷ others) =
    keeps_map (keeps_then (keeps_then (keeps_sign_at place _)
    (keeps_then (formed_name name) (keeps_then (keeps_sign _)
    (keeps_then (formed_maybe_names fields) (keeps_sign _))))) (formed_file others)) (λ y. y.1)
formed_file (ProcedureOf p ∷ others) = keeps_then (formed_procedure p) (formed_file others)

-- The rules that a file breaks

first_none : (o : Option ProfileFault) (later : Option ProfileFault) → fault_or o later ≡ None → (o ≡ None) × (later ≡ None)
first_none None later h = (refl, h)
first_none (Some fault) later h = absurd (cc)

-- a declaration, and those behind it
of_first : (declaration : Declaration) (others : List Declaration)
    → first_fault (declaration ∷ others) ≡ None → (declaration_fault declaration ≡ None)
    × (first_fault others ≡ None)
of_first declaration others h = first_none (declaration_fault declaration) (first_fault others) h

unmapped : (o : Option Place) → option_map UnknownKeyword o ≡ None → o ≡ None
unmapped None h = refl
unmapped (Some place) h = absurd (cc)

-- what stands in a procedure breaks no rule
procedure_part : (met : NameTest) (p : Procedure) → procedure_faults met p ≡ [] → initial_faults p.initial
    ++ all_faults outermost p.body ≡ []
procedure_part met p h = none_behind (all_repeated C1 none_met (declared_names p)) _
    (none_behind (fault_if_met C8 met p.name) _ (none_behind (too_many (length (declared_names p)) p.name) _ h))

sound_procedures : (met : NameTest) (file : List Declaration) → EachProcedure IsFormedProcedure (procedures_of file)
    → first_fault file ≡ None → declarations_faults met file ≡ [] → EachProcedure IsSoundProcedure (procedures_of file)
sound_procedures met [] f k c = tt
sound_procedures met (Global place names ∷ others) f k c =
    sound_procedures met others f (of_first (Global place names) others k).1 c
sound_procedures met (Link place items ∷ others) f k c =
    sound_procedures met others f (of_first (Link place items) others k).1 c
sound_procedures met (Invocable place items ∷ others) f k c =
    sound_procedures met others f (of_first (Invocable place items) others k).1 c
sound_procedures met (Record place name fields ∷ others) f k c =
    sound_procedures (names_after met (Record place name fields)) others f
    (of_first (Record place name fields) others k).1
    (none_behind (declaration_faults met (Record place name fields)) _ c)
sound_procedures met (ProcedureOf p ∷ others) f k c =
    let own : procedure_faults met p ≡ [] = none_before (procedure_faults met p) _ c in (
      record {
        initial_formed = f.0.0;
        body_formed = f.0.1;
        faultless = procedure_part met p own;
        known =
            unmapped (first_unknown (initial_keywords p.initial ++ all_keywords p.body))
            (of_first (ProcedureOf p) others k).0;
      },
      sound_procedures (names_after met (ProcedureOf p)) others f.1 (of_first (ProcedureOf p) others k).1
          (none_behind (procedure_faults met p) _ c),
    )

of_outcome : (tokens : List Token) (file : List Declaration) → IsOutcome tokens (IsTree file)
    → IsTreeOf file tokens × (first_fault file ≡ None)
of_outcome tokens file (is_tree other tree high fault) = (tree, fault)

-- what the spelling of a file says of it
abbrev IsWritten : List Declaration → Type 0
IsWritten file = EachProcedure IsFormedProcedure (procedures_of file) × (first_fault file ≡ None)

of_spelling : (file : List Declaration) → IsSpelled file → IsWritten file
of_spelling file h = let o = of_outcome h.tokens file h.tree in
    (((formed_file file).gives h.tokens [] (are_formed h.tokens h.scanned.formed) o.0).0, o.1)

-- what the spelling says is a proposition, so that it is known where it is only known that there is a
-- spelling
each_prop : (procedures : List Procedure) → IsProp (EachProcedure IsFormedProcedure procedures)
each_prop [] = hlevel
each_prop (p ∷ others) = hlevel (initial_prop p.initial, all_prop p.body, each_prop others)

-- no form that is refused, as a test
abbrev has_none : Option ProfileFault → Bool
has_none None = true
has_none (Some fault) = false

none_by : (o : Option ProfileFault) → has_none o ≡ true → o ≡ None
none_by None h = refl
none_by (Some fault) h = absurd (cc)

IsWrittenSo : List Declaration → Type 0
IsWrittenSo file = EachProcedure IsFormedProcedure (procedures_of file) × (has_none (first_fault file) ≡ true)

sound_faultless : (file : List Declaration) → IsFaultless file → EachProcedure IsSoundProcedure (procedures_of file)
unfolding IsWrittenSo
sound_faultless file h =
    let written : IsWrittenSo file =
    ∥∥₁_elim h.spelled (hlevel (each_prop (procedures_of file), Bool-set))
    (λ s. let w = of_spelling file s in (w.0, ap has_none w.1)) in
    sound_procedures none_met file written.0 (none_by (first_fault file) written.1) h.context

-- Several files

each_append : (P : Procedure → Type 0) (file files : List Declaration) → EachProcedure P (procedures_of file)
    → EachProcedure P (procedures_of files) → EachProcedure P (procedures_of (file ++ files))
each_append P [] files h g = g
each_append P (Global place names ∷ others) files h g = each_append P others files h g
each_append P (Link place items ∷ others) files h g = each_append P others files h g
each_append P (Invocable place items ∷ others) files h g = each_append P others files h g
each_append P (Record place name fields ∷ others) files h g = each_append P others files h g
each_append P (ProcedureOf p ∷ others) files h g = (h.0, each_append P others files h.1 g)

-- each procedure of files that break no rule is sound
pub sound_files : (files : List (List Declaration)) → All IsFaultless files
    → EachProcedure IsSoundProcedure (procedures_of (joined_declarations files))
sound_files [] h = tt
sound_files (file ∷ files) h = each_append IsSoundProcedure file (joined_declarations files)
    (sound_faultless file (h 0 file (omega arith))) (sound_files files (λ k d l. h (suc k) d (omega arith)))
