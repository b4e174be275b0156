-- A tree that is parsed of scanned tokens.
use Rattle.std.proofs.Common.{◌≡◌, ◌≤◌, List, arith}
use Rattle.icn_tree.specs.declared.lines.SourceLine.{SourceLine}
use Rattle.icn_tree.specs.declared.token.Token.{Token}
use Rattle.icn_tree.specs.SourceTexts.{joined_len}
use Rattle.icn_tree.specs.Tokens.{Scanned, tokens_of}
use Rattle.icn_tree.specs.Trees.{Declaration}
use Rattle.icn_tree.proofs.KeptByScans.{all_formed, all_sized, tokens_counted, tokens_sound}
use Rattle.icn_parse.specs.Outcomes.{IsTree, IsOutcome}
use Rattle.icn_decls.specs.CheckedTexts.{AreScanned, IsSpelled}

-- what the tokens of lines that a named file may give spell
unfoldable pub spelled_by : (lines : List SourceLine) (tokens : List Token) (file : List Declaration) → joined_len lines ≤ 16777216
    → tokens_of lines ≡ Scanned tokens → IsOutcome tokens (IsTree file) → IsSpelled file
spelled_by lines tokens file short e tree =
    let sound = tokens_sound lines tokens e in
    let count = tokens_counted lines tokens e in
    let scanned : AreScanned tokens =
    record { few = omega arith; sized = all_sized tokens sound; formed = all_formed tokens sound } in
    record { tokens = tokens; scanned = scanned; tree = tree }
