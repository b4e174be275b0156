use Rattle.std.proofs.Common.{◌≡◌, drop}
use Rattle.std.specs.List.{flat_map}
use Rattle.icn_link.specs.FirstMentions.{with_integers}
use Rattle.icn_link.specs.Mentions.{integer_in, mention_of}
use Rattle.icn_link.proofs.gathered.enter_integers_used.Given as goal

abbrev pub invariant-loop-instr : goal.invariant-loop-instr
invariant-loop-instr l = with_integers l.found.keys (flat_map (λ instr. integer_in (mention_of instr)) (drop l.instr-index l.instrs))
    ≡ with_integers l.initial.found.keys (flat_map (λ instr. integer_in (mention_of instr)) l.instrs)
