use Rattle.std.proofs.Common.{ℤ, ◌∙◌, ap, subst}
use Rattle.std.specs.Int.{w64}
use Rattle.std.proofs.lemmas.Int.{to_z-of_z}
use Rattle.icn_value.specs.Values.{Integer}
use Rattle.icn_defs.specs.Arguments.{integer, value_or}
use Rattle.icn_heap.specs.Extents.{value_in}
use Rattle.icn_heap.specs.Heaps.{extent_of}
use Rattle.icn_args.specs.RowWords.{IsFound}
use Rattle.icn_iofn.proofs.arguments.integer_arg.Goals as goal

pub integer_of-requires : goal.integer_of-requires
integer_of-requires c = c.value_or.ensures.live (extent_of c.args.heap.now) (record { live = tt }) (c.arg.ensures.live (extent_of c.args.heap.now) c.requires)

pub returns-clause-found : goal.returns-clause-found
returns-clause-found c = λ setting.
    subst (λ value. IsFound (extent_of c.args.heap.now) (integer value) setting setting (λ (n : ℤ). n) c.integer_of.result)
    (c.value_or.ensures.value (extent_of c.args.heap.now)
    ∙ (ap (λ n. value_or (Integer n) (value_in (extent_of c.args.heap.now) c.arg.result)) (to_z-of_z w64 c.args.default c.ranges.default)
    ∙ ap (value_or (Integer c.args.default)) (c.arg.ensures.value (extent_of c.args.heap.now)))) (c.integer_of.ensures.found setting)
