-- Tokens have no tree exactly where one of their pieces is the first that spells no declaration.
use Rattle.std.proofs.Common.{◌≡◌, inl, inr, ℕ, zero, suc, ◌+◌, ◌-◌, ◌<◌, ◌≤◌, Bool, true, false, cond, not, List, [], ◌∷◌, length, take, drop, get_or, refl, sym, ap, subst, ◌∙◌, arith, length-drop}
use Rattle.std.proofs.Math.Seq.{take-length}
use Rattle.std.proofs.lemmas.Bool.{cond-true, cond-false}
use Rattle.std.specs.List.{AllByRecursion, prefix_len}
use Rattle.icn_tree.specs.declared.token.Token.{Token}
use Rattle.icn_tree.specs.declared.tree.Place.{Place}
use Rattle.icn_tree.specs.Phrases.{place_of}
use Rattle.icn_tree.specs.Pieces.{kind_declares, in_front, pieces}
use Rattle.icn_tree.specs.Declarations.{HasTree, SpellDeclaration}
use Rattle.icn_tree.proofs.Piecewise.{tree_by_pieces}
use Rattle.icn_parse.specs.Outcomes.{IsFirstUnspelled}
use Rattle.icn_parse.specs.Views.{DecidesTree, UnspelledAt, begins_no_declaration}

-- Where each piece spells a declaration, none is the first that spells none.
pub all_spelled : (all : List (List Token)) (piece : List Token) → AllByRecursion SpellDeclaration all → IsFirstUnspelled all piece → ⊥
all_spelled [] piece a u = u
all_spelled (first ∷ others) piece a (inl u) = u.0 a.0
all_spelled (first ∷ others) piece a (inr u) = all_spelled others piece a.1 u.1

-- There is at most one such piece.
pub one_unspelled : (all : List (List Token)) (a b : List Token) → IsFirstUnspelled all a → IsFirstUnspelled all b → a ≡ b
one_unspelled [] a b u v = absurd u
one_unspelled (first ∷ others) a b (inl u) (inl v) = sym u.1 ∙ v.1
one_unspelled (first ∷ others) a b (inl u) (inr v) = absurd (u.0 v.0)
one_unspelled (first ∷ others) a b (inr u) (inl v) = absurd (v.0 u.0)
one_unspelled (first ∷ others) a b (inr u) (inr v) = one_unspelled others a b u.1 v.1

pub unspelled_no_tree : (tokens piece : List Token) → IsFirstUnspelled (pieces tokens) piece → HasTree tokens → ⊥
unspelled_no_tree tokens piece u tree = all_spelled (pieces tokens) piece ((tree_by_pieces tokens).0 tree) u

-- The first piece of some tokens: the first token, and those behind it that begin no declaration.

count_none : (second : Token) (tokens : List Token) → kind_declares second.kind ≡ true → prefix_len begins_no_declaration (second ∷ tokens) ≡ 0
count_none second tokens e = ap (λ b. cond (not b) (1 + prefix_len begins_no_declaration tokens) 0) e

count_more : (second : Token) (tokens : List Token) → kind_declares second.kind ≡ false
    → prefix_len begins_no_declaration (second ∷ tokens) ≡ suc (prefix_len begins_no_declaration tokens)
count_more second tokens e = ap (λ b. cond (not b) (1 + prefix_len begins_no_declaration tokens) 0) e ∙ omega arith

abbrev Cut : Token → List Token → ℕ → Type 0
Cut first tokens n = pieces (first ∷ tokens) ≡ (first ∷ take n tokens) ∷ pieces (drop n tokens)

cut_by : (first second : Token) (tokens : List Token) (b : Bool) → kind_declares second.kind ≡ b → Cut second tokens (prefix_len begins_no_declaration tokens)
    → Cut first (second ∷ tokens) (prefix_len begins_no_declaration (second ∷ tokens))
cut_by first second tokens true e further = subst (Cut first (second ∷ tokens)) (sym (count_none second tokens e))
    (cond-true (kind_declares second.kind) ((first ∷ []) ∷ pieces (second ∷ tokens)) (in_front first (pieces (second ∷ tokens))) e)
cut_by first second tokens false e further = subst (Cut first (second ∷ tokens)) (sym (count_more second tokens e))
    (cond-false (kind_declares second.kind) ((first ∷ []) ∷ pieces (second ∷ tokens)) (in_front first (pieces (second ∷ tokens))) e
    ∙ ap (in_front first) further)

-- the first piece ends before the next token that begins a declaration
first_piece : (first : Token) (tokens : List Token) → Cut first tokens (prefix_len begins_no_declaration tokens)
first_piece first [] = refl
first_piece first (second ∷ tokens) = cut_by first second tokens (kind_declares second.kind) refl (first_piece second tokens)

-- a piece is one piece

abbrev Alone : Token → List Token → ℕ → Type 0
Alone first tokens n = pieces (first ∷ take n tokens) ≡ (first ∷ take n tokens) ∷ []

alone_by : (first second : Token) (tokens : List Token) (b : Bool) → kind_declares second.kind ≡ b
    → Alone second tokens (prefix_len begins_no_declaration tokens) → Alone first (second ∷ tokens) (prefix_len begins_no_declaration (second ∷ tokens))
alone_by first second tokens true e further = subst (Alone first (second ∷ tokens)) (sym (count_none second tokens e)) refl
alone_by first second tokens false e further =
    let taken = take (prefix_len begins_no_declaration tokens) tokens in
    subst (Alone first (second ∷ tokens)) (sym (count_more second tokens e))
    (cond-false (kind_declares second.kind) ((first ∷ []) ∷ pieces (second ∷ taken)) (in_front first (pieces (second ∷ taken))) e
    ∙ ap (in_front first) further)

one_piece : (first : Token) (tokens : List Token) → Alone first tokens (prefix_len begins_no_declaration tokens)
one_piece first [] = refl
one_piece first (second ∷ tokens) = alone_by first second tokens (kind_declares second.kind) refl (one_piece second tokens)

one_more : (n : ℕ) → suc n ≡ 1 + n
one_more n = omega arith

-- the tokens behind the first
behind_first : (first : Token) (tokens : List Token) → take (length (first ∷ tokens) - 1) (drop 1 (first ∷ tokens)) ≡ tokens
behind_first first tokens = ap (λ k. take k tokens) (omega arith) ∙ take-length tokens

abbrev behind : List Token → List Token
behind tokens = take (length tokens - 1) (drop 1 tokens)

counted : (first : Token) (tokens : List Token) (n : ℕ) → n ≡ prefix_len begins_no_declaration (behind (first ∷ tokens))
    → n ≡ prefix_len begins_no_declaration tokens
counted first tokens n e = e ∙ ap (prefix_len begins_no_declaration) (behind_first first tokens)

-- the same of some tokens, by how many of those behind the first begin no declaration
pub piece_cut : (tokens : List Token) (n : ℕ) → 0 < length tokens → n ≡ prefix_len begins_no_declaration (behind tokens)
    → pieces tokens ≡ take (1 + n) tokens ∷ pieces (drop (1 + n) tokens)
piece_cut [] n some e = absurd (omega (arith, some))
piece_cut (first ∷ tokens) n some e =
    subst (λ k. pieces (first ∷ tokens) ≡ take k (first ∷ tokens) ∷ pieces (drop k (first ∷ tokens))) (one_more n)
    (subst (Cut first tokens) (sym (counted first tokens n e)) (first_piece first tokens))

pub piece_alone : (tokens : List Token) (n : ℕ) → 0 < length tokens → n ≡ prefix_len begins_no_declaration (behind tokens)
    → pieces (take (1 + n) tokens) ≡ take (1 + n) tokens ∷ []
piece_alone [] n some e = absurd (omega (arith, some))
piece_alone (first ∷ tokens) n some e =
    subst (λ k. pieces (take k (first ∷ tokens)) ≡ take k (first ∷ tokens) ∷ []) (one_more n)
    (subst (Alone first tokens) (sym (counted first tokens n e)) (one_piece first tokens))

-- a piece begins with its first token
pub place_first : (piece : List Token) (a b : Token) → 0 < length piece
    → place_of piece ≡ record { line = (get_or piece 0 a).line; file = (get_or piece 0 b).file }
place_first [] a b some = absurd (omega (arith, some))
place_first (first ∷ piece) a b some = refl

-- a piece that has a tree spells a declaration, and the other way round
spelled_alone : (piece : List Token) → pieces piece ≡ piece ∷ [] → HasTree piece → SpellDeclaration piece
spelled_alone piece e tree = (subst (AllByRecursion SpellDeclaration) e ((tree_by_pieces piece).0 tree)).0

tree_alone : (piece : List Token) → SpellDeclaration piece → HasTree piece
tree_alone piece s = (s.0 ∷ [], ([], s.1, refl))

-- a piece without a tree is the first that spells no declaration
pub unspelled_here : (tokens piece others : List Token) → pieces tokens ≡ piece ∷ pieces others → (HasTree piece → ⊥) → UnspelledAt tokens (place_of piece)
unspelled_here tokens piece others cut treeless =
    (piece, subst (λ all. IsFirstUnspelled all piece) (sym cut) (inl (λ s. treeless (tree_alone piece s), refl)), refl)

-- where it has one, the first that spells none stands behind it
pub unspelled_behind : (tokens piece others : List Token) (place : Place) → pieces tokens ≡ piece ∷ pieces others → pieces piece ≡ piece ∷ []
    → HasTree piece → UnspelledAt others place → UnspelledAt tokens place
unspelled_behind tokens piece others place cut alone tree u =
    (u.0, subst (λ all. IsFirstUnspelled all u.0) (sym cut) (inr (spelled_alone piece alone tree, u.1)), u.2)

pub no_tree_behind : (tokens piece others : List Token) → pieces tokens ≡ piece ∷ pieces others → pieces piece ≡ piece ∷ []
    → HasTree piece → (HasTree tokens → ⊥) → HasTree others → ⊥
no_tree_behind tokens piece others cut alone tree treeless rest =
    treeless ((tree_by_pieces tokens).1 (subst (AllByRecursion SpellDeclaration) (sym cut) (spelled_alone piece alone tree, (tree_by_pieces others).0 rest)))

-- What is left has no tree, and where its first piece stands that spells none, that of all tokens does.
pub record Left (tokens rest : List Token) : Type 0 where
  pub none : HasTree rest → ⊥
  pub behind : (place : Place) → UnspelledAt rest place → UnspelledAt tokens place

pub left_begun : (tokens : List Token) → (HasTree tokens → ⊥) → Left tokens tokens
left_begun tokens treeless = record { none = treeless; behind = λ place u. u }

pub left_some : (tokens rest : List Token) → Left tokens rest → 0 < length rest
left_some tokens [] left = absurd (left.none ([], refl))
left_some tokens (token ∷ rest) left = omega arith

pub left_more : (tokens rest piece others : List Token) → pieces rest ≡ piece ∷ pieces others → pieces piece ≡ piece ∷ [] → HasTree piece
    → Left tokens rest → Left tokens others
left_more tokens rest piece others cut alone tree left = record {
  none = no_tree_behind rest piece others cut alone tree left.none;
  behind = λ place u. left.behind place (unspelled_behind rest piece others place cut alone tree u);
}

-- There is such a piece where there is no tree.

unspelled_by : (tokens piece others : List Token) → pieces tokens ≡ piece ∷ pieces others → pieces piece ≡ piece ∷ []
    → ((HasTree others → ⊥) → (place : Place) × UnspelledAt others place) → (HasTree tokens → ⊥) → (b : Bool) → DecidesTree piece b
    → (place : Place) × UnspelledAt tokens place
unspelled_by tokens piece others cut alone further treeless false d = (place_of piece, unspelled_here tokens piece others cut d)
unspelled_by tokens piece others cut alone further treeless true d =
    let found = further (no_tree_behind tokens piece others cut alone d treeless) in
    (found.0, unspelled_behind tokens piece others found.0 cut alone d found.1)

pub some_unspelled : (decides : (piece : List Token) → (b : Bool) × DecidesTree piece b) (steps : ℕ) (tokens : List Token) → length tokens ≤ steps
    → (HasTree tokens → ⊥) → (place : Place) × UnspelledAt tokens place
some_unspelled decides steps [] low treeless = absurd (treeless ([], refl))
some_unspelled decides zero (first ∷ tokens) low treeless = absurd (omega (arith, low))
some_unspelled decides (suc steps) (first ∷ tokens) low treeless =
    let n = prefix_len begins_no_declaration tokens in
    let decided = decides (first ∷ take n tokens) in
    unspelled_by (first ∷ tokens) (first ∷ take n tokens) (drop n tokens) (first_piece first tokens) (one_piece first tokens)
    (λ others. some_unspelled decides steps (drop n tokens) (omega (arith, low, length-drop n tokens)) others) treeless decided.0 decided.1
