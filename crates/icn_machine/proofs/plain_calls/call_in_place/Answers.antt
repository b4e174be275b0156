use Rattle.std.proofs.Common.{◌≡◌, ◌<◌, ℕ, ap, arith, length}
use Rattle.std.proofs.lemmas.Option.{slice_get_within}
use Rattle.icn_value.specs.Limited.{Bounds}
use Rattle.icn_heap.specs.Heaps.{heap_of}
use Rattle.icn_code.specs.CodeTables.{tables_of}
use Rattle.icn_frames.specs.Stacks as held
use Rattle.icn_machine.proofs.PlainCallSteps.{called_in_place, operands_there}
use Rattle.icn_machine.proofs.plain_calls.call_in_place.Goals as goal

pub slot_below-requires : goal.slot_below-requires
slot_below-requires g c = operands_there c.args.count c.args.frames.now.flat c.requires.operands

pub enter_with-requires-clause-level : goal.enter_with-requires-clause-level
enter_with-requires-clause-level g c = omega (arith, c.level.ensures, c.if-level-limits.false, c.args.limits.now.few_levels)

pub enter_with-requires-clause-operands : goal.enter_with-requires-clause-operands
enter_with-requires-clause-operands g c = operands_there c.args.count c.args.frames.now.flat c.requires.operands

pub returns-in-Ok-clause-calls : goal.returns-in-Ok-clause-calls
returns-in-Ok-clause-calls g c e =
    let t = tables_of c.args.code.now in
    let w = c.args.world.now in
    let m = c.args.frames.now.flat in
    let number = c.in-Some.number in
    let takes = c.in-Some-locals_besides.ensures in
    let limit : ℕ = c.args.limits.now.levels in
    let within : number < length t.procs = slice_get_within t.procs number takes.entry takes.there in
    let low : held.level m < limit = omega (arith, c.level.ensures, c.if-level-limits.false) in
    let bound : (heap_of w.heap).bounds.levels ≡ limit = ap (λ (x : Bounds). x.levels) c.requires.bounds in
    called_in_place t w c.args.count number c.in-Some-locals_besides.nulls limit m c.enter_with.new.self.flat c.slot_below.result c.in-Some.ensures
    c.slot_below.ensures takes within low c.args.limits.now.few_levels bound (c.in-Ok.ensures.enters e)

pub returns-in-Ok-clause-not : goal.returns-in-Ok-clause-not
returns-in-Ok-clause-not g c e = c.in-Ok.ensures.not e

pub returns-in-Err-clause-not : goal.returns-in-Err-clause-not
returns-in-Err-clause-not g c e = c.in-Err.ensures.err
