use Rattle.std.proofs.Common.{◌≡◌, ℕ, IsSome, ap, false, nat_lt, refl, sym, true, ◌∙◌, rules, subst}
use Rattle.icn_text.specs.declared.op.Op.{Op}
use Rattle.icn_value.specs.Limited.{Bounds}
use Rattle.icn_defs.specs.Arities.{arity}
use Rattle.icn_heap.specs.Heaps.{extent_of, heap_of}
use Rattle.icn_code.specs.declared.instr.Instr.TheVariants as Instrs
use Rattle.icn_control.specs.Machines.{does, stack_of, store_seen}
use Rattle.icn_control.specs.TakenOperands.{take_operands}
use Rattle.icn_control.proofs.ListSteps.{nat_lt_false}
use Rattle.icn_machine.specs.Performing.{PerformsOn}
use Rattle.icn_machine.proofs.InPlaceSteps.{bound_is}
use Rattle.icn_machine.proofs.OperateSteps.{performs_still}
use Rattle.icn_machine.proofs.operations.operate.Goals as goal

pub returns-then-m-clause-step : goal.returns-then-m-clause-step
returns-then-m-clause-step g c tables names =
    let m = c.args.m.now in
    let none : nat_lt m.turns (heap_of m.world.heap).bounds.turns ≡ false
    = ap (λ (x : Bounds). nat_lt m.turns x.turns) c.requires.stands.sound.1.bounds ∙ nat_lt_false m.turns m.limits.turns c.if-m.true in
    performs_still _ _ _ _
    (λ was. bound_is (extent_of m.world.heap) tables c.args.op (stack_of m) (store_seen tables was m) c.requires.operands none)

pub returns-then-m-clause-keeps : goal.returns-then-m-clause-keeps
returns-then-m-clause-keeps g c = record { sound = λ tables s. s; halt = search rules; limits = refl; stack = search rules }

pub returns-then-m-clause-named : goal.returns-then-m-clause-named
returns-then-m-clause-named g c = (c.requires.named.stack_named, c.requires.named.world_named)

pub operate_by_variable-requires-clause-stands : goal.operate_by_variable-requires-clause-stands
operate_by_variable-requires-clause-stands g c = c.requires.stands

pub operate_by_variable-requires-clause-operands : goal.operate_by_variable-requires-clause-operands
operate_by_variable-requires-clause-operands g c =
    subst (λ (n : ℕ). IsSome (take_operands n (stack_of c.args.m.now))) (ap arity c.in-Assign.is) c.requires.operands

pub operate_by_variable-requires-clause-named : goal.operate_by_variable-requires-clause-named
operate_by_variable-requires-clause-named g c = c.requires.named

pub returns-in-Assign-clause-step : goal.returns-in-Assign-clause-step
returns-in-Assign-clause-step g c tables names =
    subst (λ (op : Op). PerformsOn tables (λ outside. does tables outside (Instrs.Op op) c.args.m.now) c.operate_by_variable.new.m
    (g.S.Streams.state c.args.streams.now) (g.S.Streams.state c.operate_by_variable.new.streams) c.operate_by_variable.result) (sym c.in-Assign.is)
    (c.operate_by_variable.ensures.step tables names)

pub returns-in-Assign-clause-keeps : goal.returns-in-Assign-clause-keeps
returns-in-Assign-clause-keeps g c = c.operate_by_variable.ensures.keeps

pub returns-in-Assign-clause-named : goal.returns-in-Assign-clause-named
returns-in-Assign-clause-named g c = c.operate_by_variable.ensures.named

pub operate_by_texts-requires-clause-stands : goal.operate_by_texts-requires-clause-stands
operate_by_texts-requires-clause-stands g c = c.requires.stands

pub operate_by_texts-requires-clause-operands : goal.operate_by_texts-requires-clause-operands
operate_by_texts-requires-clause-operands g c =
    subst (λ (n : ℕ). IsSome (take_operands n (stack_of c.args.m.now))) (ap arity c.in-Concatenate.is) c.requires.operands

pub operate_by_texts-requires-clause-named : goal.operate_by_texts-requires-clause-named
operate_by_texts-requires-clause-named g c = c.requires.named

pub returns-in-Concatenate-clause-step : goal.returns-in-Concatenate-clause-step
returns-in-Concatenate-clause-step g c tables names =
    subst (λ (op : Op). PerformsOn tables (λ outside. does tables outside (Instrs.Op op) c.args.m.now) c.operate_by_texts.new.m
    (g.S.Streams.state c.args.streams.now) (g.S.Streams.state c.operate_by_texts.new.streams) c.operate_by_texts.result) (sym c.in-Concatenate.is)
    (c.operate_by_texts.ensures.step tables names)

pub returns-in-Concatenate-clause-keeps : goal.returns-in-Concatenate-clause-keeps
returns-in-Concatenate-clause-keeps g c = c.operate_by_texts.ensures.keeps

pub returns-in-Concatenate-clause-named : goal.returns-in-Concatenate-clause-named
returns-in-Concatenate-clause-named g c = c.operate_by_texts.ensures.named

pub operate_by_row-requires-clause-stands : goal.operate_by_row-requires-clause-stands
operate_by_row-requires-clause-stands g c = c.requires.stands

pub operate_by_row-requires-clause-named : goal.operate_by_row-requires-clause-named
operate_by_row-requires-clause-named g c = c.requires.named

pub returns-in_default-clause-step : goal.returns-in_default-clause-step
returns-in_default-clause-step g c = c.operate_by_row.ensures.step

pub returns-in_default-clause-keeps : goal.returns-in_default-clause-keeps
returns-in_default-clause-keeps g c = c.operate_by_row.ensures.keeps

pub returns-in_default-clause-named : goal.returns-in_default-clause-named
returns-in_default-clause-named g c = c.operate_by_row.ensures.named
