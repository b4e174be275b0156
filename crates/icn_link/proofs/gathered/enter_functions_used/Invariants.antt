use Rattle.std.proofs.Common.{◌≡◌, drop}
use Rattle.std.specs.List.{flat_map}
use Rattle.icn_link.specs.FirstMentions.{with_texts}
use Rattle.icn_link.specs.Mentions.{function_used}
use Rattle.icn_link.specs.Views.{texts_seen}
use Rattle.icn_link.proofs.gathered.enter_functions_used.Given as goal

abbrev pub invariant-loop-instr : goal.invariant-loop-instr
invariant-loop-instr l = with_texts (texts_seen l.names.keys) (flat_map (function_used l.entries) (drop l.instr-index l.instrs))
    ≡ with_texts (texts_seen l.initial.names.keys) (flat_map (function_used l.entries) l.instrs)
