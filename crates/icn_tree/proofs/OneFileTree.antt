-- A list of tokens has at most one tree.
use Rattle.std.proofs.Common.{◌≡◌, true, false, List, [], ◌∷◌, Option, Some, None, refl, sym, ap, subst, ◌∙◌}
use Rattle.std.proofs.lemmas.Option.{none-some}
use Rattle.std.proofs.lemmas.Bool.{false≢true}
use Rattle.icn_tree.specs.declared.token.Kind.{Kind}
use Rattle.icn_tree.specs.declared.token.Kind.TheVariants.{Word as WordKind}
use Rattle.icn_tree.specs.declared.token.Token.{Token}
use Rattle.icn_tree.specs.declared.token.Word.TheVariants as Words
use Rattle.icn_tree.specs.Trees.{Declaration, Global, Link, Invocable, Record, ProcedureOf}
use Rattle.icn_tree.specs.Phrases.{next}
use Rattle.icn_tree.specs.Pieces.{kind_declares, is_cut}
use Rattle.icn_tree.specs.Declarations.{SpellsDeclaration, SpellsFile, IsDeclarationOf}
use Rattle.icn_tree.proofs.Reading.{declaration_read}
use Rattle.icn_tree.proofs.ReaderResults.{gives_one}
use Rattle.icn_tree.proofs.DeclarationsFound.{is_comma_next, declaration_found}

-- a declaration stands next
pub record Declares (kind : Option Kind) : Type 0 where
  pub word : Kind
  pub is : kind ≡ Some word
  pub declares : kind_declares word ≡ true

pub declaration_first : (declaration : Declaration) (here after : List Token) → SpellsDeclaration declaration here after → Declares (next here)
declaration_first (Global place names) here after s = record { word = WordKind Words.Global; is = ap next s.1; declares = refl }
declaration_first (Link place items) here after s = record { word = WordKind Words.Link; is = ap next s.1; declares = refl }
declaration_first (Invocable place items) here after s = record { word = WordKind Words.Invocable; is = ap next s.1; declares = refl }
declaration_first (Record place name fields) here after s = record { word = WordKind Words.Record; is = ap next s.1; declares = refl }
declaration_first (ProcedureOf p) here after s = record { word = WordKind Words.Procedure; is = ap next s.1; declares = refl }

pub file_first : (file : List Declaration) (here : List Token) → SpellsFile file here [] → is_cut (next here) ≡ true
file_first [] here s = ap (λ tokens. is_cut (next tokens)) s
file_first (declaration ∷ others) here s = let d = declaration_first declaration here s.0 s.1 in ap is_cut d.is ∙ d.declares

cut_no_comma : (kind : Option Kind) → is_cut kind ≡ true → is_comma_next kind ≡ false
cut_no_comma None e = refl
cut_no_comma (Some (WordKind word)) e = refl
cut_no_comma (Some kind) e = other_no_comma kind e
  where
    other_no_comma : (kind : Kind) → kind_declares kind ≡ true → is_comma_next (Some kind) ≡ false
    other_no_comma (WordKind word) e = refl
    other_no_comma _ e = absurd (false≢true e)

no_declaration : (declaration : Declaration) (here after : List Token) → SpellsDeclaration declaration here after → here ≡ [] → ⊥
no_declaration declaration here after s e = let d = declaration_first declaration here after s in none-some d.word (ap next (sym e) ∙ d.is)

pub one_file : (a b : List Declaration) (here : List Token) → SpellsFile a here [] → SpellsFile b here [] → a ≡ b
one_file [] [] here s t = refl
one_file [] (declaration ∷ others) here s t = absurd (no_declaration declaration here t.0 t.1 s)
one_file (declaration ∷ others) [] here s t = absurd (no_declaration declaration here s.0 s.1 t)
one_file (first ∷ others) (declaration ∷ rest) here s t =
    let f = declaration_found first here s.0 s.1 (cut_no_comma (next s.0) (file_first others s.0 s.2)) in
    let g = declaration_found declaration here t.0 t.1 (cut_no_comma (next t.0) (file_first rest t.0 t.2)) in
    let both : (first, s.0) ≡ (declaration, t.0) = gives_one (λ self. declaration_read self here) (first, s.0) (declaration, t.0) f g in
    let left : s.0 ≡ t.0 = ap (λ (r : Declaration × List Token). r.1) both in
    ap (λ (r : Declaration × List Token). r.0 ∷ others) both
    ∙ ap (λ tail. declaration ∷ tail) (one_file others rest t.0 (subst (λ tokens. SpellsFile others tokens []) left s.2) t.2)

pub one_declaration : (a b : Declaration) (tokens : List Token) → IsDeclarationOf a tokens → IsDeclarationOf b tokens → a ≡ b
one_declaration a b tokens s t = ap (λ (r : Declaration × List Token). r.0)
    (gives_one (λ self. declaration_read self tokens) (a, []) (b, []) (declaration_found a tokens [] s refl) (declaration_found b tokens [] t refl))
