use Rattle.std.proofs.Common.{ℤ, FitsSigned, IfSome, ap, rules, sym, ◌∙◌, subst}
use Rattle.std.proofs.lemmas.Int.{to_z-of_z}
use Rattle.std.specs.Int.{w64}
use Rattle.icn_value.specs.declared.val.Val.{Val}
use Rattle.icn_value.specs.declared.val.Val.TheVariants as Vals
use Rattle.icn_heap.specs.Extents.{IsLive}
use Rattle.icn_heap.specs.Heaps.{extent_of}
use Rattle.icn_machine.specs.ValueOperations.{ComesOnValues}
use Rattle.icn_machine.proofs.value_operations.outcome_of_values.Goals as goal

pub returns-in-Integer-clause-row : goal.returns-in-Integer-clause-row
returns-in-Integer-clause-row c =
    let fits : FitsSigned w64 c.in-Integer.m = search rules in
    subst (λ (a : Val). IfSome c.outcome_with_integer.result (ComesOnValues c.args.world.now c.args.op a c.args.b))
    (ap (λ (i : ℤ). Vals.Integer i) (to_z-of_z w64 c.in-Integer.m fits) ∙ sym c.in-Integer.is)
    (c.outcome_with_integer.ensures.row c.args.world.now)

pub returns-in-Integer-clause-plain : goal.returns-in-Integer-clause-plain
returns-in-Integer-clause-plain c = c.outcome_with_integer.ensures.plain c.args.world.now

pub outcome_with_text-requires-clause-first : goal.outcome_with_text-requires-clause-first
outcome_with_text-requires-clause-first c =
    let live : IsLive (extent_of c.args.world.now.heap) (Vals.Text c.in-Text.s)
    = subst (λ (v : Val). IsLive (extent_of c.args.world.now.heap) v) c.in-Text.is c.requires.first in
    live.live

pub returns-in-Text-clause-row : goal.returns-in-Text-clause-row
returns-in-Text-clause-row c =
    subst (λ (a : Val). IfSome c.outcome_with_text.result (ComesOnValues c.args.world.now c.args.op a c.args.b)) (sym c.in-Text.is)
    c.outcome_with_text.ensures.row

pub outcome_with_list-requires : goal.outcome_with_list-requires
outcome_with_list-requires c = subst (λ (v : Val). IsLive (extent_of c.args.world.now.heap) v) c.in-List.is c.requires.first

pub returns-in-List-clause-row : goal.returns-in-List-clause-row
returns-in-List-clause-row c =
    subst (λ (a : Val). IfSome c.outcome_with_list.result (ComesOnValues c.args.world.now c.args.op a c.args.b)) (sym c.in-List.is)
    c.outcome_with_list.ensures.row
