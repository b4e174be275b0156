use Rattle.std.proofs.Common.{◌≡◌, drop}
use Rattle.std.specs.List.{flat_map}
use Rattle.icn_link.specs.FirstMentions.{with_texts}
use Rattle.icn_link.specs.Mentions.{function_in}
use Rattle.icn_link.specs.Views.{texts_seen}
use Rattle.icn_link.proofs.gathered.enter_functions.Given as goal

abbrev pub invariant-loop-entry : goal.invariant-loop-entry
invariant-loop-entry l = with_texts (texts_seen l.names.keys) (flat_map function_in (drop l.entry-index l.entries))
    ≡ with_texts (texts_seen l.initial.names.keys) (flat_map function_in l.entries)
