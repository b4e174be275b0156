use Rattle.std.proofs.Common.{length}
use Rattle.icn_tree.specs.Tokens.{Scan}
use Rattle.icn_lex.specs.Literals.{Later, scan_text}
use Rattle.icn_lex.specs.Outcomes.{Reads}
use Rattle.icn_lex.proofs.scanner.text_tokens.Given as goal

abbrev pub invariant-loop-first : goal.invariant-loop-first
invariant-loop-first l = (later : Later) (all : Scan) → Reads all l.initial.tokens.items (scan_text l.line l.initial.is_first l.text later)
    → Reads all l.tokens.items (scan_text l.line l.is_first l.rest later)

abbrev pub decreases-loop-first : goal.decreases-loop-first
decreases-loop-first l = length l.rest
