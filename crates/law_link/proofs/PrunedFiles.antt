-- What the units of files keep is what the files keep.
use Rattle.std.proofs.Common.{◌≡◌, ℕ, zero, suc, Bool, true, false, List, [], ◌∷◌, ◌++◌, length, map, Option, None, Some, refl, sym, ap, ◌∙◌, subst, if◌then◌else◌, arith}
use Rattle.std.specs.Prelude.{◌<◌, ◌↔◌, codes}
use Rattle.std.specs.List.{All, flat_map}
use Rattle.std.specs.Option.{option_map}
use Rattle.std.specs.Str.{bytes_eq}
use Rattle.std.proofs.lemmas.Grind.{flat_map-append}
use Rattle.icn_tree.specs.declared.tree.DeclItem.{DeclItem}
use Rattle.icn_tree.specs.declared.tree.DeclItem.TheVariants.{Identifier, Text}
use Rattle.icn_tree.specs.declared.tree.Name.{Name}
use Rattle.icn_tree.specs.Trees.{Procedure, Declaration, Global, Link, Invocable, Record, ProcedureOf}
use Rattle.icn_unit.specs.PlainUnits.{PlainProc, UnitRead, proc_names}
use Rattle.icn_unit.specs.PlainUnits.{Global as GlobalLine, Link as LinkLine, Invocable as InvocableLine}
use Rattle.icn_link.specs.Joined.{index_of, joined_code, number_list, proc_entry}
use Rattle.icn_link.specs.Joined as Linked
use Rattle.icn_link.specs.Mentions.{all_mentions, invocable_in}
use Rattle.icn_link.specs.Units.{all_decls, all_procs}
use Rattle.icn_meaning.specs.Program as Meaning
use Rattle.icn_meaning.specs.Program.{invocable_texts, joined_declarations, numbers_of, procedure_names, procedures_of, with_number}
use Rattle.icn_prune.specs.KeptCode.{kept_of}
use Rattle.icn_translate.specs.FileUnits.{item_text, lines_in, proc_codes, unit_decls}
use Rattle.icn_translate.specs.ProcCodes.{proc_code}
use Rattle.law_link.specs.InvocableFiles.{names_all, named_procs}
use Rattle.law_link.specs.PrunedUnits.{kept_flags}
use Rattle.law_link.specs.TranslatedUnits.{translated_units}
use Rattle.law_link.proofs.FileTables.{codes_same}
use Rattle.law_link.proofs.FirstsOnce.{has_any}
use Rattle.law_link.proofs.JoinedCode.{decls_joined, place_same, procs_joined}

-- What files say may be called by its name

no_global : (names : List Name) → flat_map invocable_in (map (λ (name : Name). GlobalLine name.text) names) ≡ []
no_global [] = refl
no_global (name ∷ names) = no_global names

no_link : (items : List DeclItem) → flat_map invocable_in (map (λ (item : DeclItem). LinkLine (item_text item)) items) ≡ []
no_link [] = refl
no_link (item ∷ items) = no_link items

items_same : (items : List DeclItem)
    → flat_map invocable_in (map (λ (item : DeclItem). InvocableLine (item_text item)) items) ≡ map Meaning.item_text items
items_same [] = refl
items_same (Identifier name ∷ items) = ap (λ l. name.text ∷ l) (items_same items)
items_same (Text name ∷ items) = ap (λ l. name.text ∷ l) (items_same items)

texts_same : (declarations : List Declaration) → flat_map invocable_in (unit_decls declarations) ≡ invocable_texts declarations
texts_same [] = refl
texts_same (Global place names ∷ others) =
    flat_map-append invocable_in (lines_in (Global place names)) (unit_decls others)
    ∙ ap (λ l. l ++ flat_map invocable_in (unit_decls others)) (no_global names) ∙ texts_same others
texts_same (Link place items ∷ others) =
    flat_map-append invocable_in (lines_in (Link place items)) (unit_decls others)
    ∙ ap (λ l. l ++ flat_map invocable_in (unit_decls others)) (no_link items) ∙ texts_same others
texts_same (Invocable place items ∷ others) =
    flat_map-append invocable_in (lines_in (Invocable place items)) (unit_decls others)
    ∙ ap (λ l. l ++ flat_map invocable_in (unit_decls others)) (items_same items)
    ∙ ap (λ l. map Meaning.item_text items ++ l) (texts_same others)
texts_same (Record place name fields ∷ others) = texts_same others
texts_same (ProcedureOf procedure ∷ others) = texts_same others

-- The names of procedures

named : (procedures : List Procedure) → proc_names (map proc_code procedures) ≡ procedure_names procedures
named [] = refl
named (procedure ∷ others) = ap (λ l. procedure.name.text ∷ l) (named others)

names_same : (declarations : List Declaration) → proc_names (proc_codes declarations) ≡ procedure_names (procedures_of declarations)
names_same declarations = ap proc_names (codes_same declarations) ∙ named (procedures_of declarations)

-- Their numbers

abbrev numbers : List (List ℕ) → List (List ℕ) → List ℕ
numbers names texts = flat_map (λ text. number_list (index_of names text)) texts

numbers_same : (names texts : List (List ℕ)) → numbers names texts ≡ numbers_of names texts
numbers_same names [] = refl
numbers_same names (text ∷ texts) =
    ap (λ o. number_list o ++ numbers names texts) (place_same text names)
    ∙ listed (Meaning.index_of text names) (numbers names texts)
    ∙ ap (with_number (Meaning.index_of text names)) (numbers_same names texts)
  where
    listed : (o : Option ℕ) (rest : List ℕ) → number_list o ++ rest ≡ with_number o rest
    listed None rest = refl
    listed (Some n) rest = refl

abbrev Below : ℕ → Option ℕ → Type 0
Below most None = Unit {0}
Below most (Some n) = n < most

index_below : (name : List ℕ) (names : List (List ℕ)) → Below (length names) (index_of names name)
index_below name [] = tt
index_below name (other ∷ names) = by (bytes_eq name other) (index_below name names)
  where
    moved : (o : Option ℕ) → Below (length names) o → Below (suc (length names)) (option_map suc o)
    moved None b = tt
    moved (Some n) b = omega (arith, b)

    by : (b : Bool) → Below (length names) (index_of names name)
        → Below (suc (length names)) (if b then Some zero else option_map suc (index_of names name))
    by true next = omega arith
    by false next = moved (index_of names name) next

all_also : (P : ℕ → Type 0) (n : ℕ) (ns : List ℕ) → P n → All P ns → All P (n ∷ ns)
all_also P n ns p ps zero d l = p
all_also P n ns p ps (suc k) d l = ps k d (omega (arith, l))

numbers_below : (names texts : List (List ℕ)) → All (λ number. number < length names) (numbers names texts)
numbers_below names [] = λ k d l. absurd (omega (arith, l))
numbers_below names (text ∷ texts) = by (index_of names text) (index_below text names) (numbers_below names texts)
  where
    by : (o : Option ℕ) → Below (length names) o → All (λ number. number < length names) (numbers names texts)
        → All (λ number. number < length names) (number_list o ++ numbers names texts)
    by None b rest = rest
    by (Some n) b rest = all_also (λ number. number < length names) n (numbers names texts) b rest

as_long : {A B C : Type 0} (f : A → B) (g : A → C) (xs : List A) → length (map f xs) ≡ length (map g xs)
as_long f g [] = refl
as_long f g (x ∷ xs) = ap suc (as_long f g xs)

pub named_below : (units : List UnitRead) → All (λ number. number < length (joined_code units).procs) (Linked.named_procs units)
named_below units =
    subst (λ most. All (λ number. number < most) (Linked.named_procs units))
    (as_long (λ (proc : PlainProc). proc.name) (proc_entry (all_mentions (all_decls units) (all_procs units))) (all_procs units))
    (numbers_below (proc_names (all_procs units)) (flat_map invocable_in (all_decls units)))

-- What is kept

module _ (names : List (List ℕ)) (files : List (List Declaration)) (same : length names ≡ length files) where
  abbrev units : List UnitRead
  units = translated_units names files

  abbrev declarations : List Declaration
  declarations = joined_declarations files

  texts : flat_map invocable_in (all_decls units) ≡ invocable_texts declarations
  texts = ap (flat_map invocable_in) (decls_joined names files same) ∙ texts_same declarations

  procs : proc_names (all_procs units) ≡ procedure_names (procedures_of declarations)
  procs = ap proc_names (procs_joined names files same) ∙ names_same declarations

  named_same : Linked.named_procs units ≡ named_procs files
  named_same = (λ i. numbers (procs i) (texts i)) ∙ numbers_same (procedure_names (procedures_of declarations)) (invocable_texts declarations)

  all_same : Linked.names_all units ≡ names_all files
  all_same = sym (has_any (codes "all") (flat_map invocable_in (all_decls units))) ∙ ap (Meaning.has_name (codes "all")) texts

  pub kept_same : kept_flags units ≡ kept_of (joined_code units) (named_procs files) (names_all files)
  kept_same = λ i. kept_of (joined_code units) (named_same i) (all_same i)

-- So what holds of both where the same is hidden, and of what is pruned, holds of both.
pub through : {Meant Pruned : Type 0} (Runs : List ℕ → Type 0) {hidden other : List ℕ}
    → hidden ≡ other → Meant ↔ Runs hidden → Runs other ↔ Pruned → Meant ↔ Pruned
through Runs told meant alike =
    (λ m. alike.0 (subst Runs told (meant.0 m)), λ p. meant.1 (subst Runs (sym told) (alike.1 p)))
