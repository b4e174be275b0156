use Rattle.std.proofs.Common.{◌≡◌, length}
use Rattle.icn_parse.specs.FileReading.{item_of as item_at_token, further, some_read}
use Rattle.icn_parse.proofs.ParserLoops.{behind_all}
use Rattle.icn_parse.proofs.names.read_items.Given as goal

-- what was read, and what stands behind it, is all of it
abbrev pub invariant-loop-alloc : goal.invariant-loop-alloc
invariant-loop-alloc l = some_read item_at_token l.tokens ≡ behind_all l.items.items (further item_at_token l.rest)

abbrev pub decreases-loop-alloc : goal.decreases-loop-alloc
decreases-loop-alloc l = length l.rest
