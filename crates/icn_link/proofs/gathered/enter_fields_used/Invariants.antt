use Rattle.std.proofs.Common.{◌≡◌, drop}
use Rattle.std.specs.List.{flat_map}
use Rattle.icn_link.specs.FirstMentions.{with_texts}
use Rattle.icn_link.specs.Mentions.{field_in, mention_of}
use Rattle.icn_link.specs.Views.{texts_seen}
use Rattle.icn_link.proofs.gathered.enter_fields_used.Given as goal

abbrev pub invariant-loop-instr : goal.invariant-loop-instr
invariant-loop-instr l = with_texts (texts_seen l.names.keys) (flat_map (λ instr. field_in (mention_of instr)) (drop l.instr-index l.instrs))
    ≡ with_texts (texts_seen l.initial.names.keys) (flat_map (λ instr. field_in (mention_of instr)) l.instrs)
