use Rattle.std.proofs.Common.{◌≡◌, ◌≤◌, length}
use Rattle.icn_lex.specs.Literals.{Later, literal_of, scan_inside}
use Rattle.icn_lex.proofs.literals.read_part.Given as goal

abbrev pub invariant-loop-first : goal.invariant-loop-first
invariant-loop-first l = record {
  same : (later : Later)
      → scan_inside l.line (literal_of l.opening l.initial.bytes.items) l.text later ≡ scan_inside l.line (literal_of l.opening l.bytes.items) l.rest later;
  within : length l.rest ≤ length l.text;
}

abbrev pub decreases-loop-first : goal.decreases-loop-first
decreases-loop-first l = length l.rest
