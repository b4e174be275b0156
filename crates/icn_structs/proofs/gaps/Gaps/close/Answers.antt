use Rattle.std.proofs.Common.{rules, ℕ, List, Option, Some, ap, map, ◌∙◌}
use Rattle.std.proofs.lemmas.Fn.{filter_same}
use Rattle.icn_structs.specs.GapLists.{present}
use Rattle.icn_structs.proofs.GapSums.{filtered_present}
use Rattle.icn_structs.proofs.gaps.Gaps.close.Goals as goal

pub returns : goal.returns
returns c = record {
  closed = filter_same _ _ _ (λ x b f' k. search rules) _ _ c.retain.ensures.filtered ∙ filtered_present c.self.inside.items.items
      ∙ ap (λ (items : List (Option ℕ)). map Some (present items)) c.self.view_is;
}
