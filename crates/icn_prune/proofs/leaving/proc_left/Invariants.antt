use Rattle.std.proofs.Common.{◌≡◌, ◌++◌, drop, map}
use Rattle.icn_prune.specs.PrunedCode.{instr_left}
use Rattle.icn_prune.specs.PlaceViews.{survivors_seen}
use Rattle.icn_prune.proofs.leaving.proc_left.Given as goal

abbrev pub invariant-loop-instr : goal.invariant-loop-instr
invariant-loop-instr l = l.instrs.items ++ map (instr_left (survivors_seen l.left)) (drop l.instr-index l.entry.instrs.items)
    ≡ map (instr_left (survivors_seen l.left)) l.entry.instrs.items
