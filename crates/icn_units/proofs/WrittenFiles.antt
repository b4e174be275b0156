-- The names and the literals of the declarations of a text.
use Rattle.std.proofs.Common.{◌≡◌, ◌≤◌, ℕ, Bool, true, false, not, ◌||◌, nat_lt, List, [], ◌∷◌, length, refl, arith, get_or}
use Rattle.std.specs.Prelude.{All}
use Rattle.std.specs.List.{list_all}
use Rattle.icn_tree.specs.declared.token.Kind.{Kind}
use Rattle.icn_tree.specs.declared.token.Kind.TheVariants.{Text as TextToken}
use Rattle.icn_tree.specs.declared.tree.Name.{Name}
use Rattle.icn_tree.specs.declared.tree.DeclItem.{DeclItem}
use Rattle.icn_tree.specs.declared.tree.DeclItem.TheVariants as Items
use Rattle.icn_tree.specs.TokenBounds.{IsSized}
use Rattle.icn_tree.specs.Phrases.{Phrase}
use Rattle.icn_tree.specs.Grammar.{identifier}
use Rattle.icn_tree.specs.Declarations.{MoreWithCommas, WithCommas, SpellsMaybeNames, SpellsItem, SpellsParameters, SpellsLocals, SpellsInitial, SpellsBody, SpellsDeclaration, SpellsFile}
use Rattle.icn_tree.specs.Trees.{Initial, NoInitial, Initially, Trees, NoTrees, More, LocalDecl, Declaration, Global, Link, Invocable, Record, ProcedureOf}
use Rattle.icn_tree.specs.declared.token.Token.{Token}
use Rattle.icn_tree.specs.Declarations.{IsTreeOf}
use Rattle.icn_parse.specs.Outcomes.{IsTree, IsOutcome, is_tree}
use Rattle.icn_decls.specs.CheckedTexts.{IsSpelled}
use Rattle.icn_unit.specs.UnitRules.{is_byte_text}
use Rattle.icn_units.specs.Written.{HasBytes, TextPasses, is_short, name_fits, trees_fit, names_fit, initial_fits, item_fits, all_locals_fit, declaration_fits, file_fits}
use Rattle.icn_units.proofs.WrittenTrees.{and_intro, nat_le_of_le, Keeps, keeps_nothing, keeps_sign_at, keeps_sign, keeps_then, keeps_map, keeps_part, name_keeps, fits, are_scanned}

-- for any test of texts
module _ (passes : List ℕ → Bool) where
  fits_commas : {A : Type 0} (spells : A → Phrase) (test : A → Bool) → ((x : A) → Keeps passes (spells x) (test x ≡ true))
      → (xs : List A) → Keeps passes (MoreWithCommas spells xs) (list_all test xs ≡ true)
  fits_commas spells test h [] = keeps_map keeps_nothing (λ y. refl)
  fits_commas spells test h (x ∷ xs) = keeps_map
      (keeps_then (keeps_sign _) (keeps_then (h x) (fits_commas spells test h xs))) (λ y. and_intro y.1.0 y.1.1)

  fits_all : {A : Type 0} (spells : A → Phrase) (test : A → Bool) → ((x : A) → Keeps passes (spells x) (test x ≡ true))
      → (xs : List A) → Keeps passes (WithCommas spells xs) (list_all test xs ≡ true)
  fits_all spells test h [] = record { gives = λ here after g s. absurd s }
  fits_all spells test h (x ∷ xs) = keeps_map (keeps_then (h x) (fits_commas spells test h xs)) (λ y. and_intro y.0 y.1)

  fits_names : (names : List Name) → Keeps passes (SpellsMaybeNames names) (names_fit names ≡ true)
  fits_names [] = keeps_map keeps_nothing (λ y. refl)
  fits_names (name ∷ names) = fits_all identifier name_fits name_keeps (name ∷ names)

  fits_item : (item : DeclItem) → Keeps passes (SpellsItem item) (item_fits passes item ≡ true)
  fits_item (Items.Identifier name) = name_keeps name
  fits_item (Items.Text name) = keeps_map (keeps_sign_at name.place _) (λ y. y.2)

  collects_by : (names : List Name) → 1 ≤ length names → nat_lt 0 (length names) ≡ true
  collects_by names h = nat_le_of_le 1 (length names) h

  some_names : (names : List Name) (here after : List Token) → WithCommas identifier names here after → 1
      ≤ length names
  some_names [] here after s = absurd s
  some_names (name ∷ names) here after s = omega arith

  keeps_some : (names : List Name)
      → Keeps passes (WithCommas identifier names) ((names_fit names ≡ true) × (nat_lt 0 (length names) ≡ true))
  keeps_some names = record {
    gives = λ here after h s. let x = (fits_all identifier name_fits name_keeps names).gives here after h s in
        ((x.0, collects_by names (some_names names here after s)), x.1);
  }

  fits_parameters : (names : List Name) (b : Bool)
      → Keeps passes (SpellsParameters names b) ((names_fit names ≡ true) × ((not b || nat_lt 0 (length names)) ≡ true))
  fits_parameters names false = keeps_map (fits_names names) (λ y. (y, refl))
  fits_parameters names true = keeps_map (keeps_then (keeps_some names) (keeps_then (keeps_sign _) (keeps_sign _)))
      (λ y. y.0)

  fits_locals : (locals : List LocalDecl) → Keeps passes (SpellsLocals locals) (all_locals_fit locals ≡ true)
  fits_locals [] = keeps_map keeps_nothing (λ y. refl)
  fits_locals (l ∷ others) = keeps_map (keeps_then (keeps_sign_at l.place _)
      (keeps_then (fits_all identifier name_fits name_keeps l.names)
      (keeps_then (keeps_sign _) (fits_locals others))))
      (λ y. and_intro y.1.0 y.1.1.1)

  fits_initial : (initial : Initial) → Keeps passes (SpellsInitial initial) (initial_fits passes initial ≡ true)
  fits_initial NoInitial = keeps_map keeps_nothing (λ y. refl)
  fits_initial (Initially place value) = keeps_map
      (keeps_then (keeps_sign_at place _) (keeps_then (keeps_part 1 (fits passes value)) (keeps_sign _))) (λ y. y.1.0)

  fits_body : (body : Trees) → Keeps passes (SpellsBody body) (trees_fit passes body ≡ true)
  fits_body NoTrees = keeps_map keeps_nothing (λ y. refl)
  fits_body (More e es) = keeps_map (keeps_then (keeps_part 0 (fits passes e)) (keeps_then (keeps_sign _) (fits_body es)))
      (λ y. and_intro y.0 y.1.1)

  fits_declaration : (declaration : Declaration)
      → Keeps passes (SpellsDeclaration declaration) (declaration_fits passes declaration ≡ true)
  fits_declaration (Global place names) = keeps_map
      (keeps_then (keeps_sign_at place _) (fits_all identifier name_fits name_keeps names)) (λ y. y.1)
  fits_declaration (Link place items) = keeps_map
      (keeps_then (keeps_sign_at place _) (fits_all SpellsItem (item_fits passes) fits_item items)) (λ y. y.1)
  fits_declaration (Invocable place items) = keeps_map
      (keeps_then (keeps_sign_at place _) (fits_all SpellsItem (item_fits passes) fits_item items)) (λ y. y.1)
  fits_declaration (Record place name fields) =
      keeps_map (keeps_then (keeps_sign_at place _)
      (keeps_then (name_keeps name) (keeps_then (keeps_sign _) (keeps_then (fits_names fields) (keeps_sign _)))))
      (λ y. and_intro y.1.0 y.1.1.1.0)
  fits_declaration (ProcedureOf p) = keeps_map
      (keeps_then (keeps_sign_at p.place _) (keeps_then (name_keeps p.name)
      (keeps_then (keeps_sign _) (keeps_then (fits_parameters p.parameters p.is_variadic)
      (keeps_then (keeps_sign _) (keeps_then (keeps_sign _)
      (keeps_then (fits_locals p.locals) (keeps_then (fits_initial p.initial)
      (keeps_then (fits_body p.body) (keeps_sign _))))))))))
      (λ y. and_intro (and_intro y.1.0 (and_intro y.1.1.1.0.0 (and_intro y.1.1.1.1.1.1.0 (and_intro y.1.1.1.1.1.1.1.0 y.1.1.1.1.1.1.1.1.0))))
      y.1.1.1.0.1)

  pub fits_file : (file : List Declaration) → Keeps passes (SpellsFile file) (file_fits passes file ≡ true)
  fits_file [] = keeps_map keeps_nothing (λ y. refl)
  fits_file (declaration ∷ others) = keeps_map (keeps_then (fits_declaration declaration) (fits_file others))
      (λ y. and_intro y.0 y.1)

pub of_outcome : (tokens : List Token) (file : List Declaration) → IsOutcome tokens (IsTree file) → IsTreeOf file tokens
of_outcome tokens file (is_tree other tree high fault) = tree

-- a text that is spelled by tokens as the scanner gives them, whose texts pass the test
pub spelled_passes : (passes : List ℕ → Bool) (file : List Declaration) (h : IsSpelled file)
    → All (λ token. TextPasses passes token.kind) h.tokens → file_fits passes file ≡ true
spelled_passes passes file h t =
    ((fits_file passes file).gives h.tokens [] (are_scanned passes h.tokens h.scanned.sized h.scanned.formed t)
    (of_outcome h.tokens file h.tree)).0

short_text : (kind : Kind) → IsSized kind → TextPasses is_short kind
short_text (TextToken bytes) h = nat_le_of_le (length bytes) 65535 h
short_text kind h = tt

byte_text : (kind : Kind) → IsSized kind → HasBytes kind → TextPasses is_byte_text kind
byte_text (TextToken bytes) h b = and_intro b (nat_le_of_le (length bytes) 65535 h)
byte_text kind h b = tt

pub spelled_fits : (file : List Declaration) → IsSpelled file → file_fits is_short file ≡ true
spelled_fits file h = spelled_passes is_short file h (λ k d is. short_text (get_or h.tokens k d).kind (h.scanned.sized k d is))

pub spelled_bytes : (file : List Declaration) (h : IsSpelled file) → All (λ token. HasBytes token.kind) h.tokens
    → file_fits is_byte_text file ≡ true
spelled_bytes file h b =
    spelled_passes is_byte_text file h (λ k d is. byte_text (get_or h.tokens k d).kind (h.scanned.sized k d is) (b k d is))
