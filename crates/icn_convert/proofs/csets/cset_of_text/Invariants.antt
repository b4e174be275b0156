use Rattle.std.proofs.Common.{take}
use Rattle.icn_value.specs.Csets.{HasMembers}
use Rattle.icn_value.specs.Members.{contains}
use Rattle.icn_convert.proofs.csets.cset_of_text.Given as goal

-- the bytes as far as the loop has come are the members
abbrev pub invariant-loop-byte : goal.invariant-loop-byte
invariant-loop-byte l = HasMembers l.cset (contains (take l.byte-index l.text))
