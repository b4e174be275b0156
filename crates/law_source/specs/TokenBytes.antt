-- Tokens whose texts are bytes.
use Rattle.std.specs.Prelude.{Bool, true, List}
use Rattle.std.specs.List.{list_all}
use Rattle.icn_tree.specs.declared.token.Kind.{Kind}
use Rattle.icn_tree.specs.declared.token.Kind.TheVariants.{Identifier, Integer, Text, Cset, Word as WordKind, Operator as OperatorKind, Augmented, Punctuation as PunctuationKind}
use Rattle.icn_tree.specs.declared.token.Token.{Token}
use Rattle.law_source.specs.Bytes.{are_bytes}

-- a name, and what a literal stands for
abbrev pub kind_is_of_bytes : Kind → Bool
kind_is_of_bytes (Identifier text) = are_bytes text
kind_is_of_bytes (Integer n) = true
kind_is_of_bytes (Text bytes) = are_bytes bytes
kind_is_of_bytes (Cset members) = are_bytes members
kind_is_of_bytes (WordKind word) = true
kind_is_of_bytes (OperatorKind operator) = true
kind_is_of_bytes (Augmented operator) = true
kind_is_of_bytes (PunctuationKind mark) = true

-- the name or the literal that a token is, is of bytes
abbrev pub token_is_of_bytes : Token → Bool
token_is_of_bytes token = kind_is_of_bytes token.kind

-- the texts of all tokens are of bytes
abbrev pub tokens_are_of_bytes : List Token → Bool
tokens_are_of_bytes tokens = list_all token_is_of_bytes tokens
