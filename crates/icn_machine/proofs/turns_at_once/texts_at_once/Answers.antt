use Rattle.std.proofs.Common.{◌≡◌, ◌∙◌, true, false, nat_lt, IsSome, refl, sym, ap, subst}
use Rattle.icn_value.specs.Limited.{Bounds}
use Rattle.icn_heap.specs.Heaps.{heap_of}
use Rattle.icn_frames.specs.Stacks.{FlatStack}
use Rattle.icn_code.specs.CodeTables.{tables_of}
use Rattle.icn_code.specs.declared.instr.Instr.{Instr}
use Rattle.icn_code.specs.declared.instr.Instr.TheVariants as Instrs
use Rattle.icn_control.specs.Machines.{world_reach}
use Rattle.icn_control.specs.TakenOperands.{take_operands}
use Rattle.icn_control.proofs.ExhaustSteps.{nat_lt_true}
use Rattle.icn_control.proofs.LiteralSteps.{running_live}
use Rattle.icn_instructions.specs.Groups.{group_of}
use Rattle.icn_machine.specs.AnsweredAtOnce.{is_not}
use Rattle.icn_machine.specs.declared.at_once.AtOnce.TheVariants as AtOnces
use Rattle.icn_defs.specs.Arities.{arity}
use Rattle.icn_machine.specs.Stepping.{is_whole}
use Rattle.icn_machine.specs.TurnsAtOnce.{DoesAsTurn}
use Rattle.icn_machine.proofs.AtOnceAnswers.{not_done_at_once, not_is, off_op}
use Rattle.icn_machine.proofs.DoingSteps.{calls_as}
use Rattle.icn_machine.proofs.InPlaceSteps.{on_same}
use Rattle.icn_machine.proofs.NextSteps.{op_operands}
use Rattle.icn_machine.proofs.TurnSteps.{operation_turned, same_turned}
use Rattle.icn_machine.proofs.turns_at_once.texts_at_once.Goals as goal

pub returns-then-m : goal.returns-then-m
returns-then-m g c =
    not_done_at_once (tables_of c.args.code.now) c.args.m.now c.args.instr (λ q. off_op c.args.op (sym (ap group_of c.requires.is) ∙ q))

pub frames-requires : goal.frames-requires
frames-requires g c = c.requires.doing.runs

pub operate_on_texts-done-requires-clause-operands : goal.operate_on_texts-done-requires-clause-operands
operate_on_texts-done-requires-clause-operands g c =
    let m = c.args.m.now in
    let F : FlatStack → Type 0 = λ x. IsSome (take_operands (arity c.args.op) x) in
    on_same m c.frames.result.now c.frames.result.now.flat F c.frames.ensures.running refl
    (op_operands (tables_of c.args.code.now) m c.args.instr c.args.op c.requires.is c.requires.doing)

pub operate_on_texts-done-requires-clause-live : goal.operate_on_texts-done-requires-clause-live
operate_on_texts-done-requires-clause-live g c =
    let t = tables_of c.args.code.now in
    let m = c.args.m.now in
    (t, running_live t (world_reach m) m.stacks.table c.frames.result.now.flat c.frames.ensures.running c.requires.doing.sound.stacks)

pub returns-then-is_not : goal.returns-then-is_not
returns-then-is_not g c =
    let t = tables_of c.args.code.now in
    let m = c.args.m.now in
    same_turned t m c.operate_on_texts-done.new.world c.operate_on_texts-done.new.frames c.args.instr c.frames.result.now.flat c.frames.ensures.running
    (λ q. off_op c.args.op (sym (ap group_of c.requires.is) ∙ q))
    ((c.operate_on_texts-done.ensures t).not_done (not_is c.operate_on_texts-done.result (sym c.is_not.ensures ∙ c.if-is_not.true)))

pub returns : goal.returns
returns g c =
    let t = tables_of c.args.code.now in
    let m = c.args.m.now in
    let done = c.operate_on_texts-done.result in
    let v = c.operate_on_texts-done.new.world in
    let s = c.operate_on_texts-done.new.frames in
    let f = c.frames.result.now.flat in
    let more : nat_lt m.turns (heap_of m.world.heap).bounds.turns ≡ true
    = ap (λ (x : Bounds). nat_lt m.turns x.turns) c.requires.doing.sound.bounds ∙ nat_lt_true m.turns m.limits.turns c.if-m.false in
    let some : done ≡ AtOnces.Not → ⊥
    = λ q. let bad : true ≡ false = ap is_not (sym q) ∙ sym c.is_not.ensures ∙ c.if-is_not.false in absurd (cc) in
    operation_turned t c.steps_keep_names.ensures.kept c.steps_keep_sizes.ensures.kept m v s c.args.instr f c.frames.ensures.running
    (calls_as c.args.instr (Instrs.Op c.args.op) c.requires.is (λ h. h))
    (λ w. let bad : true ≡ false = sym w ∙ ap is_whole c.requires.is in absurd (cc)) c.requires.doing more done some
    (subst (λ (i : Instr). DoesAsTurn t i m.world f v s.flat done) (sym c.requires.is) (c.operate_on_texts-done.ensures t))
