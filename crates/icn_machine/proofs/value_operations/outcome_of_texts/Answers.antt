use Rattle.std.proofs.Common.{◌≡◌, sym, ap, ◌∙◌, subst}
use Rattle.std.specs.Cmp.Lexicographic.{slice_cmp}
use Rattle.std.specs.Ordering.{nat_cmp}
use Rattle.icn_value.specs.declared.val.Val.TheVariants as Vals
use Rattle.icn_heap.specs.Extents.{text_in}
use Rattle.icn_heap.specs.Heaps.{extent_of}
use Rattle.icn_machine.specs.declared.value_operations.ItemOutcome.{ItemOutcome}
use Rattle.icn_machine.specs.ValueOperations.{ComesOnValues, IsPlain, is_text_met}
use Rattle.icn_machine.proofs.ValueOperationSteps.{plain_if, text_plain, texts_compared}
use Rattle.icn_machine.proofs.value_operations.outcome_of_texts.Goals as goal

pub returns-in-Some-clause-row : goal.returns-in-Some-clause-row
returns-in-Some-clause-row c =
    let all = extent_of c.args.world.now.heap in
    let order : c.cmp-order.result ≡ slice_cmp nat_cmp (text_in all c.args.s) (text_in all c.args.t)
    = c.cmp-order.ensures ∙ ap (λ bytes. slice_cmp nat_cmp bytes c.bytes-2.result.now) c.bytes.ensures
    ∙ ap (slice_cmp nat_cmp (text_in all c.args.s)) c.bytes-2.ensures in
    subst (λ (given : ItemOutcome). ComesOnValues c.args.world.now c.args.op (Vals.Text c.args.s) (Vals.Text c.args.t) given) (sym c.value_if.ensures)
    (texts_compared c.args.world.now c.args.op c.args.s c.args.t c.in-Some.met (sym (c.in-Some.ensures ∙ ap (is_text_met c.args.op) order)))

pub returns-in-Some-clause-plain : goal.returns-in-Some-clause-plain
returns-in-Some-clause-plain c =
    subst (λ (given : ItemOutcome). IsPlain c.args.world.now given) (sym c.value_if.ensures)
    (plain_if c.args.world.now c.in-Some.met (Vals.Text c.args.t) (text_plain c.args.world.now c.args.t c.requires.second))
