use Rattle.std.proofs.Common.{◌≡◌, drop}
use Rattle.std.specs.List.{flat_map}
use Rattle.icn_link.specs.FirstMentions.{with_texts}
use Rattle.icn_link.specs.Mentions.{set_in, mention_of}
use Rattle.icn_link.specs.Views.{texts_seen}
use Rattle.icn_link.proofs.gathered.enter_sets_used.Given as goal

abbrev pub invariant-loop-instr : goal.invariant-loop-instr
invariant-loop-instr l = with_texts (texts_seen l.found.keys) (flat_map (λ instr. set_in (mention_of instr)) (drop l.instr-index l.instrs))
    ≡ with_texts (texts_seen l.initial.found.keys) (flat_map (λ instr. set_in (mention_of instr)) l.instrs)
