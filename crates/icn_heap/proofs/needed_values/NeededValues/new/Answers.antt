use Rattle.std.proofs.Common.{sym, ap, subst, arith}
use Rattle.std.specs.List.{All}
use Rattle.icn_strings.specs.Ranges.{total_length}
use Rattle.icn_strings.specs.Regions.{IsOf}
use Rattle.icn_heap.specs.Extents.{IsLive}
use Rattle.icn_heap.proofs.needed_values.NeededValues.new.Goals as goal

pub returns-clause-of_heap : goal.returns-clause-of_heap
returns-clause-of_heap c = λ all. record {
  of = subst (All (IsOf all.strings)) (sym c.new-ranges.ensures.items) (λ k d within. absurd (omega (arith, within)));
  live = subst (All (IsLive all)) (sym c.new-structures.ensures.items) (λ k d within. absurd (omega (arith, within)));
}

pub returns-clause-bytes : goal.returns-clause-bytes
returns-clause-bytes c = ap total_length c.new-ranges.ensures.items
