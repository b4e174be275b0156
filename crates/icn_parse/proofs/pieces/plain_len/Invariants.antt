use Rattle.std.proofs.Common.{◌≡◌, ◌+◌, ◌≤◌, ◌-◌, length, drop}
use Rattle.std.specs.List.{prefix_len}
use Rattle.icn_parse.specs.Views.{begins_no_declaration}
use Rattle.icn_parse.proofs.pieces.plain_len.Given as goal

-- the tokens before this place begin no declaration
abbrev pub invariant-loop-count : goal.invariant-loop-count
invariant-loop-count l = record {
  within : l.count ≤ length l.tokens;
  counted : prefix_len begins_no_declaration l.tokens ≡ l.count + prefix_len begins_no_declaration (drop l.count l.tokens);
}

abbrev pub decreases-loop-count : goal.decreases-loop-count
decreases-loop-count l = length l.tokens - l.count
