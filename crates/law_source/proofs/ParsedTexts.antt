-- The literals and the linked names of what is parsed are bytes, where the lines are.
use Rattle.std.proofs.Common.{◌≡◌, ◌≤◌, true, List, [], ◌∷◌}
use Rattle.std.specs.Prelude.{All}
use Rattle.std.proofs.lemmas.Bool.{and_parts}
use Rattle.icn_tree.specs.declared.lines.SourceLine.{SourceLine}
use Rattle.icn_tree.specs.declared.token.Kind.{Kind}
use Rattle.icn_tree.specs.declared.token.Kind.TheVariants.{Identifier, Integer, Text, Cset, Word as WordKind, Operator as OperatorKind, Augmented, Punctuation as PunctuationKind}
use Rattle.icn_tree.specs.declared.token.Token.{Token}
use Rattle.icn_tree.specs.SourceTexts.{joined_len}
use Rattle.icn_tree.specs.Tokens.{Scanned, tokens_of}
use Rattle.icn_tree.specs.Trees.{Declaration}
use Rattle.icn_tree.proofs.KeptByScans.{all_none, all_next}
use Rattle.icn_parse.specs.Outcomes.{IsOutcome, IsTree}
use Rattle.icn_unit.specs.UnitRules.{is_byte_text}
use Rattle.icn_units.specs.Written.{HasBytes, file_fits}
use Rattle.icn_units.proofs.ParsedTrees.{spelled_by}
use Rattle.icn_units.proofs.WrittenFiles.{spelled_bytes}
use Rattle.law_source.specs.LineBytes.{lines_are_of_bytes}
use Rattle.law_source.specs.TokenBytes.{kind_is_of_bytes, token_is_of_bytes, tokens_are_of_bytes}
use Rattle.law_source.proofs.ScannedTokens.{tokens_are_bytes}

kind_has : (kind : Kind) → kind_is_of_bytes kind ≡ true → HasBytes kind
kind_has (Identifier text) h = tt
kind_has (Integer n) h = tt
kind_has (Text bytes) h = h
kind_has (Cset members) h = tt
kind_has (WordKind word) h = tt
kind_has (OperatorKind operator) h = tt
kind_has (Augmented operator) h = tt
kind_has (PunctuationKind mark) h = tt

tokens_have : (tokens : List Token) → tokens_are_of_bytes tokens ≡ true
    → All (λ token. HasBytes token.kind) tokens
tokens_have [] h = all_none (λ (token : Token). HasBytes token.kind)
tokens_have (token ∷ tokens) h =
    let parts = and_parts (token_is_of_bytes token) (tokens_are_of_bytes tokens) h in
    all_next (λ (token : Token). HasBytes token.kind) token tokens (kind_has token.kind parts.0)
    (tokens_have tokens parts.1)

pub texts_are_bytes : (lines : List SourceLine) (tokens : List Token) (file : List Declaration)
    → joined_len lines ≤ 16777216
    → lines_are_of_bytes lines ≡ true → tokens_of lines ≡ Scanned tokens → IsOutcome tokens (IsTree file)
    → file_fits is_byte_text file ≡ true
unfolding spelled_by
texts_are_bytes lines tokens file short h e tree =
    spelled_bytes file (spelled_by lines tokens file short e tree)
    (tokens_have tokens (tokens_are_bytes lines tokens h e))
