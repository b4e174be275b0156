use Rattle.std.proofs.Common.{◌≡◌, length, map}
use Rattle.std.specs.Prelude.{string_bytes}
use Rattle.icn_value.specs.Limited.{default_limits, limits_of}
use Rattle.iconx_top.specs.Words.{options}
use Rattle.iconx_top.proofs.words.options.Given as goal

abbrev pub invariant-loop-word : goal.invariant-loop-word
invariant-loop-word l = options (limits_of l.limits) (map string_bytes l.rest) ≡ options default_limits (map string_bytes l.words)

abbrev pub decreases-loop-word : goal.decreases-loop-word
decreases-loop-word l = length l.rest
