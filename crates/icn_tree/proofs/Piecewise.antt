-- A list of tokens has a tree exactly where each of its pieces spells a declaration.
use Rattle.std.proofs.Common.{◌≡◌, Bool, true, false, cond, ◌↔◌, List, [], ◌∷◌, ◌++◌, refl, sym, ap, subst, ◌∙◌, append-nil}
use Rattle.std.proofs.lemmas.Bool.{cond-true, cond-false}
use Rattle.std.specs.List.{AllByRecursion}
use Rattle.icn_tree.specs.declared.token.Token.{Token}
use Rattle.icn_tree.specs.Trees.{Declaration}
use Rattle.icn_tree.specs.Phrases.{next}
use Rattle.icn_tree.specs.Pieces.{is_cut, in_front, pieces}
use Rattle.icn_tree.specs.Declarations.{SpellsDeclaration, SpellsFile, IsDeclarationOf, HasTree, SpellDeclaration}
use Rattle.icn_tree.proofs.OneFileTree.{file_first}
use Rattle.icn_tree.proofs.TokenStretches.{Plain}
use Rattle.icn_tree.proofs.FormStretches.{declaration_framed}

cut_here : (token : Token) (tokens : List Token) → is_cut (next tokens) ≡ true → pieces (token ∷ tokens) ≡ (token ∷ []) ∷ pieces tokens
cut_here token tokens e = cond-true (is_cut (next tokens)) ((token ∷ []) ∷ pieces tokens) (in_front token (pieces tokens)) e

not_cut_here : (token : Token) (tokens : List Token) → is_cut (next tokens) ≡ false → pieces (token ∷ tokens) ≡ in_front token (pieces tokens)
not_cut_here token tokens e = cond-false (is_cut (next tokens)) ((token ∷ []) ∷ pieces tokens) (in_front token (pieces tokens)) e

-- tokens in which no declaration begins stay with the one before them
one_piece : (token : Token) (taken after : List Token) → Plain taken → is_cut (next after) ≡ true
    → pieces (token ∷ (taken ++ after)) ≡ (token ∷ taken) ∷ pieces after
one_piece token [] after p e = cut_here token after e
one_piece token (second ∷ taken) after p e = not_cut_here token (second ∷ (taken ++ after)) p.0 ∙ ap (in_front token) (one_piece second taken after p.1 e)

declaration_alone : (declaration : Declaration) (first : Token) (taken : List Token) → SpellsDeclaration declaration (first ∷ (taken ++ [])) []
    → IsDeclarationOf declaration (first ∷ taken)
declaration_alone declaration first taken s = subst (λ tokens. SpellsDeclaration declaration (first ∷ tokens) []) (append-nil taken) s

each_piece : (file : List Declaration) (here : List Token) → SpellsFile file here [] → AllByRecursion SpellDeclaration (pieces here)
each_piece [] here s = subst (λ tokens. AllByRecursion SpellDeclaration (pieces tokens)) (sym s) tt
each_piece (declaration ∷ others) here s =
    let f = declaration_framed declaration here s.0 s.1 in
    let cut : pieces here ≡ (f.first ∷ f.taken) ∷ pieces s.0 = ap pieces f.is ∙ one_piece f.first f.taken s.0 f.plain (file_first others s.0 s.2) in
    subst (λ all. AllByRecursion SpellDeclaration all) (sym cut)
    ((declaration, declaration_alone declaration f.first f.taken (f.again [])), each_piece others s.0 s.2)

abbrev joined : List (List Token) → List Token
joined [] = []
joined (piece ∷ others) = piece ++ joined others

in_front_joined : (token : Token) (all : List (List Token)) → joined (in_front token all) ≡ token ∷ joined all
in_front_joined token [] = refl
in_front_joined token (piece ∷ others) = refl

cut_joined : (b : Bool) (token : Token) (all : List (List Token)) → joined (cond b ((token ∷ []) ∷ all) (in_front token all)) ≡ token ∷ joined all
cut_joined true token all = refl
cut_joined false token all = in_front_joined token all

pieces_joined : (tokens : List Token) → joined (pieces tokens) ≡ tokens
pieces_joined [] = refl
pieces_joined (token ∷ tokens) = cut_joined (is_cut (next tokens)) token (pieces tokens) ∙ ap (λ rest. token ∷ rest) (pieces_joined tokens)

spelled_before : (declaration : Declaration) (piece after : List Token) → IsDeclarationOf declaration piece
    → SpellsDeclaration declaration (piece ++ after) after
spelled_before declaration piece after s =
    let f = declaration_framed declaration piece [] s in
    let is : piece ++ after ≡ f.first ∷ (f.taken ++ after) = ap (λ tokens. tokens ++ after) (f.is ∙ ap (λ tokens. f.first ∷ tokens) (append-nil f.taken)) in
    subst (λ tokens. SpellsDeclaration declaration tokens after) (sym is) (f.again after)

all_joined : (all : List (List Token)) → AllByRecursion SpellDeclaration all → (file : List Declaration) × SpellsFile file (joined all) []
all_joined [] a = ([], refl)
all_joined (piece ∷ others) a =
    let rest = all_joined others a.1 in
    (a.0.0 ∷ rest.0, (joined others, spelled_before a.0.0 piece (joined others) a.0.1, rest.1))

pub tree_by_pieces : (tokens : List Token) → HasTree tokens ↔ AllByRecursion SpellDeclaration (pieces tokens)
tree_by_pieces tokens = (
  λ tree. each_piece tree.0 tokens tree.1,
  λ a. let whole = all_joined (pieces tokens) a in (whole.0, subst (λ t. SpellsFile whole.0 t []) (pieces_joined tokens) whole.1),
)
