-- The pieces of a program text.
use Rattle.std.specs.Prelude.{Bool, true, false, List, [], ◌∷◌, Option, Some, None, if◌then◌else◌}
use Rattle.icn_tree.specs.declared.token.Kind.{Kind}
use Rattle.icn_tree.specs.declared.token.Kind.TheVariants.{Word as WordKind}
use Rattle.icn_tree.specs.declared.token.Token.{Token}
use Rattle.icn_tree.specs.declared.token.Word.{Word}
use Rattle.icn_tree.specs.declared.token.Word.TheVariants as Words
use Rattle.icn_tree.specs.Phrases.{next}

-- a word that stands only at the start of a declaration
abbrev pub word_declares : Word → Bool
word_declares Words.Procedure = true
word_declares Words.Record = true
word_declares Words.Global = true
word_declares Words.Link = true
word_declares Words.Invocable = true
word_declares _ = false

-- a token that begins a declaration
abbrev pub kind_declares : Kind → Bool
kind_declares (WordKind word) = word_declares word
kind_declares _ = false

-- such a word stands next, or nothing does
abbrev pub is_cut : Option Kind → Bool
is_cut None = true
is_cut (Some kind) = kind_declares kind

-- a token in front of the first of some pieces
abbrev pub in_front : Token → List (List Token) → List (List Token)
in_front token [] = (token ∷ []) ∷ []
in_front token (piece ∷ others) = (token ∷ piece) ∷ others

-- the tokens cut directly before each word that begins a declaration
abbrev pub pieces : List Token → List (List Token)
pieces [] = []
pieces (token ∷ tokens) =
    if is_cut (next tokens) then (token ∷ []) ∷ pieces tokens else in_front token (pieces tokens)
