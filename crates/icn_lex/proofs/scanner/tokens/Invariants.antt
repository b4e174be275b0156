use Rattle.std.proofs.Common.{drop, None}
use Rattle.std.specs.Option.{option_map}
use Rattle.icn_tree.specs.Tokens.{lines_from}
use Rattle.icn_lex.specs.Outcomes.{Reads, literal_read}
use Rattle.icn_lex.proofs.scanner.tokens.Given as goal

abbrev pub invariant-loop-line : goal.invariant-loop-line
invariant-loop-line l =
    Reads (lines_from l.lines.lines.items None) l.tokens.items (lines_from (drop l.line-index l.lines.lines.items) (option_map literal_read l.begun))
