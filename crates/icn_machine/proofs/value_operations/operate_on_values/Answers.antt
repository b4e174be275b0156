use Rattle.std.proofs.Common.{◌≡◌, ◌+◌, ◌∙◌, ℕ, [], IsSome, refl, rules, arith, sym, subst}
use Rattle.icn_defs.specs.Arities.{arity}
use Rattle.icn_vars.specs.Worlds.{reach_of}
use Rattle.icn_frames.specs.CalledWith.{HasOperands}
use Rattle.icn_frames.specs.Stacks.{FlatStack}
use Rattle.icn_control.specs.LiveStacks.{IsLiveStack}
use Rattle.icn_control.specs.TakenOperands.{take_operands}
use Rattle.icn_machine.specs.HeldValues.{FindsBelow}
use Rattle.icn_machine.proofs.HeldValueSteps.{on_found}
use Rattle.icn_machine.proofs.PlainCallSteps.{operands_there}
use Rattle.icn_machine.proofs.PlainFunctionSteps.{fewer_operands}
use Rattle.icn_machine.proofs.ValueOperationSteps.{performed_after, unchanged_so}
use Rattle.icn_machine.proofs.value_operations.operate_on_values.Goals as goal

pub returns-then-not-is_of_values : goal.returns-then-not-is_of_values
returns-then-not-is_of_values g c = unchanged_so c.args.world.now c.args.op c.args.frames.now.flat c.args.frames.now.flat refl

pub value_held-requires-clause-operand : goal.value_held-requires-clause-operand
value_held-requires-clause-operand g c =
    let two : arity c.args.op ≡ 2 = search rules in
    operands_there 1 c.args.frames.now.flat (subst (λ (n : ℕ). IsSome (take_operands n c.args.frames.now.flat)) two c.requires.operands)

pub value_held-requires-clause-live : goal.value_held-requires-clause-live
value_held-requires-clause-live g c = c.requires.live

pub returns-in_default : goal.returns-in_default
returns-in_default g c =
    unchanged_so c.args.world.now c.args.op c.args.frames.now.flat c.value_held.new.frames.flat c.value_held.ensures.same

pub value_held-requires-2-clause-operand : goal.value_held-requires-2-clause-operand
value_held-requires-2-clause-operand g c =
    let two : arity c.args.op ≡ 2 = search rules in
    subst (λ (x : FlatStack). HasOperands (0 + 1) x.cells) (sym c.value_held.ensures.same)
    (fewer_operands (0 + 1) (1 + 1) _ (omega arith)
    (operands_there 1 c.args.frames.now.flat (subst (λ (n : ℕ). IsSome (take_operands n c.args.frames.now.flat)) two c.requires.operands)))

pub value_held-requires-2-clause-live : goal.value_held-requires-2-clause-live
value_held-requires-2-clause-live g c = (
  c.requires.live.0,
  subst (λ (x : FlatStack). IsLiveStack c.requires.live.0 (reach_of c.args.world.now []) x) (sym c.value_held.ensures.same) c.requires.live.1,
)

pub returns-in_default-value_held : goal.returns-in_default-value_held
returns-in_default-value_held g c =
    unchanged_so c.args.world.now c.args.op c.args.frames.now.flat c.value_held-2.new.frames.flat
    (c.value_held-2.ensures.same ∙ c.value_held.ensures.same)

pub returns-in_default-outcome_of_values : goal.returns-in_default-outcome_of_values
returns-in_default-outcome_of_values g c =
    unchanged_so c.args.world.now c.args.op c.args.frames.now.flat c.value_held-2.new.frames.flat
    (c.value_held-2.ensures.same ∙ c.value_held.ensures.same)

pub drop_with-requires : goal.drop_with-requires
drop_with-requires g c =
    let two : arity c.args.op ≡ 2 = search rules in
    subst (λ (x : FlatStack). HasOperands (1 + 1) x.cells) (sym (c.value_held-2.ensures.same ∙ c.value_held.ensures.same))
    (operands_there 1 c.args.frames.now.flat (subst (λ (n : ℕ). IsSome (take_operands n c.args.frames.now.flat)) two c.requires.operands))

pub give_at_once-requires : goal.give_at_once-requires
give_at_once-requires g c = omega (arith, c.drop_with.ensures.spare)

pub returns : goal.returns
returns g c =
    let w = c.args.world.now in
    let m = c.args.frames.now.flat in
    let f = c.value_held-2.new.frames.flat in
    let k = c.drop_with.new.self.flat in
    let n = c.give_at_once.new.frames.flat in
    let is_two : arity c.args.op ≡ 2 = search rules in
    let same : f ≡ m = c.value_held-2.ensures.same ∙ c.value_held.ensures.same in
    let a = c.in-Some.a in
    let b = c.in-Some-value_held.b in
    performed_after w c.args.op m f n _ same
    (on_found w c.args.op f k n a b c.drop_with.ensures.drops is_two
    (subst (λ (x : FlatStack). FindsBelow w x 1 a) (sym same) c.in-Some.ensures.found)
    (subst (λ (x : FlatStack). FindsBelow w x 0 b) (sym c.value_held-2.ensures.same) c.in-Some-value_held.ensures.found)
    c.local_count.ensures.same c.in-Some-outcome_of_values.given c.give_at_once.result c.in-Some-outcome_of_values.ensures.row
    c.in-Some-outcome_of_values.ensures.plain c.give_at_once.ensures)
