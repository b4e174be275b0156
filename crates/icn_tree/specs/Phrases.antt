-- Phrases: what a rule of the grammar says of the tokens from some place on, and of those that it leaves.
use Rattle.std.specs.Prelude.{◌≡◌, List, [], ◌∷◌, Option, Some, None}
use Rattle.icn_tree.specs.declared.token.Kind.{Kind}
use Rattle.icn_tree.specs.declared.token.Token.{Token}
use Rattle.icn_tree.specs.declared.tree.Place.{Place}

-- what is said of the tokens from some place on, and of those that are left behind the phrase
abbrev pub Phrase : Type 1
Phrase = List Token → List Token → Type 0

-- what the token that stands next is, `None` where there is none
abbrev pub next : List Token → Option Kind
next [] = None
next (token ∷ tokens) = Some token.kind

-- where the first of some tokens stands
abbrev pub place_of : List Token → Place
place_of [] = record { line = 0; file = 0 }
place_of (token ∷ tokens) = record { line = token.line; file = token.file }

-- a token of this kind at this place
abbrev pub token_at : Place → Kind → Token
token_at place kind = record { kind = kind; line = place.line; file = place.file }

-- no token
abbrev pub nothing : Phrase
nothing here after = here ≡ after

-- one token of this kind at this place
abbrev pub sign_at : Place → Kind → Phrase
sign_at place kind here after = here ≡ token_at place kind ∷ after

-- one token of this kind
abbrev pub sign : Kind → Phrase
sign kind here after = (place : Place) × sign_at place kind here after

infixr 20 ◌⨾◌
-- one phrase and then another
abbrev pub ◌⨾◌ : Phrase → Phrase → Phrase
(p ⨾ q) here after = (between : List Token) × p here between × q between after

-- a phrase whose first token has this place
abbrev pub starts_at : Place → Phrase → Phrase
starts_at place p here after = (place_of here ≡ place) × p here after
