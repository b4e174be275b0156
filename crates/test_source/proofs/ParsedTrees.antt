-- A tree that is parsed of scanned tokens.
use Rattle.std.proofs.Common.{◌≡◌, ℕ, ◌≤◌, List, arith}
use Rattle.icn_tree.specs.declared.lines.SourceLine.{SourceLine}
use Rattle.icn_tree.specs.declared.token.Token.{Token}
use Rattle.icn_tree.specs.SourceTexts.{joined_len}
use Rattle.icn_tree.specs.Tokens.{Scanned, tokens_of}
use Rattle.icn_tree.specs.Trees.{Declaration}
use Rattle.icn_tree.proofs.KeptByScans.{all_formed, all_sized, tokens_counted, tokens_sound}
use Rattle.icn_parse.specs.Outcomes.{IsTree, IsOutcome}
use Rattle.icn_decls.specs.CheckedTexts.{IsSpelled}

pub spelled_by : (lines : List SourceLine) (tokens : List Token) (file : List Declaration) → joined_len lines ≤ 16777216 → tokens_of lines ≡ Scanned tokens
    → IsOutcome tokens (IsTree file) → IsSpelled file
spelled_by lines tokens file within e tree =
    let count = tokens_counted lines tokens e in
    record {
      tokens = tokens;
      scanned = record { few = omega arith; sized = all_sized tokens (tokens_sound lines tokens e); formed = all_formed tokens (tokens_sound lines tokens e) };
      tree = tree;
    }
