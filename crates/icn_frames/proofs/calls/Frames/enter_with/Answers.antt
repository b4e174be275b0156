use Rattle.std.proofs.Common.{◌≡◌, ◌+◌, ◌-◌, ◌<◌, ◌∙◌, ℕ, suc, List, add-one, ap, arith, length, refl, subst, sym}
use Rattle.icn_frames.specs.CalledWith.{HasOperands}
use Rattle.icn_frames.specs.StackInvariant.{SeenStack, Sound}
use Rattle.icn_frames.specs.Stacks.{FlatStack, level}
use Rattle.icn_frames.specs.declared.layout.Cell.{Cell}
use Rattle.icn_frames.specs.declared.layout.Cell.TheVariants.{Call}
use Rattle.icn_frames.proofs.CalledWithFacts.{arguments_within, entered_so, framed_height, own_locals}
use Rattle.icn_frames.proofs.calls.Frames.enter_with.Goals as goal

pub invariant_of-self : goal.invariant_of-self
invariant_of-self g c = subst (λ (s : List Cell). Sound s c.self.inside.registers) (sym c.in_err-reserve.ensures.cells) c.self.invariant

pub frame_arguments-done-requires-clause-operands : goal.frame_arguments-done-requires-clause-operands
frame_arguments-done-requires-clause-operands g c =
    let there = subst (λ (v : SeenStack). HasOperands (c.args.count + 1) v.flat.cells) (sym c.self.view_is) c.requires.operands in
    subst (λ (s : List Cell). HasOperands (c.args.count + 1) s) (sym c.in_ok-reserve.ensures.cells) there

pub frame_arguments-done-requires-clause-within : goal.frame_arguments-done-requires-clause-within
frame_arguments-done-requires-clause-within g c =
    let s = c.self.inside.cells.cells in
    let r = c.self.inside.registers in
    let there = subst (λ (v : SeenStack). HasOperands (c.args.count + 1) v.flat.cells) (sym c.self.view_is) c.requires.operands in
    let own = own_locals s r c.locals_at-own.result c.self.invariant c.locals_at-own.ensures.is in
    subst (λ (w : List Cell). r.base + c.locals_at-own.result + c.args.count < length w) (sym c.in_ok-reserve.ensures.cells)
    (arguments_within s r c.locals_at-own.result c.args.count c.self.invariant there own)

pub overflow_sub-height : goal.overflow_sub-height
overflow_sub-height g c =
    let m : FlatStack = record { cells = c.self.inside.cells.cells; registers = c.self.inside.registers; address = c.self.inside.address } in
    let own = own_locals m.cells m.registers c.locals_at-own.result c.self.invariant c.locals_at-own.ensures.is in
    let long = framed_height c.locals_at-own.result c.args.count m c.reserve.new.self.cells c.frame_arguments-done.new.cells.cells
    (Call c.args.proc (c.args.count + c.args.nulls) (c.level.result + 1) m.registers m.address) c.self.invariant c.in_ok-reserve.ensures.cells own
    (c.if-done.ensures.framed refl) in
    omega (arith, long, c.len.ensures.is)

pub running_proc-self-inside-requires : goal.running_proc-self-inside-requires
running_proc-self-inside-requires g c =
    let m : FlatStack = record { cells = c.self.inside.cells.cells; registers = c.self.inside.registers; address = c.self.inside.address } in
    let own = own_locals m.cells m.registers c.locals_at-own.result c.self.invariant c.locals_at-own.ensures.is in
    let depth = subst (λ (v : SeenStack). c.level.result ≡ level v.flat) (sym c.self.view_is) c.level.ensures in
    let height : c.len.result - c.args.count ≡ length c.frame_arguments-done.new.cells.cells - c.args.count = omega (arith, c.len.ensures.is) in
    rw (c.at_frame-self-inside.ensures)
    (entered_so c.args.proc c.args.count c.args.nulls c.args.address c.locals_at-own.result (c.level.result + 1) (c.len.result - c.args.count) m
    c.reserve.new.self.cells c.frame_arguments-done.new.cells.cells c.put_nulls.new.cells.cells c.self.invariant c.in_ok-reserve.ensures.cells own
    (c.if-done.ensures.framed refl) (add-one c.level.result ∙ ap (λ (n : ℕ). suc n) depth) height c.put_nulls.ensures).sound.stands.leads.base

pub invariant_of-self-then-done : goal.invariant_of-self-then-done
invariant_of-self-then-done g c =
    let m : FlatStack = record { cells = c.self.inside.cells.cells; registers = c.self.inside.registers; address = c.self.inside.address } in
    let own = own_locals m.cells m.registers c.locals_at-own.result c.self.invariant c.locals_at-own.ensures.is in
    let depth = subst (λ (v : SeenStack). c.level.result ≡ level v.flat) (sym c.self.view_is) c.level.ensures in
    let height : c.len.result - c.args.count ≡ length c.frame_arguments-done.new.cells.cells - c.args.count = omega (arith, c.len.ensures.is) in
    rw (c.at_frame-self-inside.ensures)
    (entered_so c.args.proc c.args.count c.args.nulls c.args.address c.locals_at-own.result (c.level.result + 1) (c.len.result - c.args.count) m
    c.reserve.new.self.cells c.frame_arguments-done.new.cells.cells c.put_nulls.new.cells.cells c.self.invariant c.in_ok-reserve.ensures.cells own
    (c.if-done.ensures.framed refl) (add-one c.level.result ∙ ap (λ (n : ℕ). suc n) depth) height c.put_nulls.ensures).sound

pub invariant_of-self-else-done : goal.invariant_of-self-else-done
invariant_of-self-else-done g c =
    subst (λ (s : List Cell). Sound s c.self.inside.registers)
    (sym (c.if-done.ensures.not refl ∙ c.in_ok-reserve.ensures.cells)) c.self.invariant

pub returns-then-done-clause-enters : goal.returns-then-done-clause-enters
returns-then-done-clause-enters g c q =
    let m : FlatStack = record { cells = c.self.inside.cells.cells; registers = c.self.inside.registers; address = c.self.inside.address } in
    let own = own_locals m.cells m.registers c.locals_at-own.result c.self.invariant c.locals_at-own.ensures.is in
    let depth = subst (λ (v : SeenStack). c.level.result ≡ level v.flat) (sym c.self.view_is) c.level.ensures in
    let height : c.len.result - c.args.count ≡ length c.frame_arguments-done.new.cells.cells - c.args.count = omega (arith, c.len.ensures.is) in
    rw (c.at_frame-self-inside.ensures, ← c.self.view_is)
    (entered_so c.args.proc c.args.count c.args.nulls c.args.address c.locals_at-own.result (c.level.result + 1) (c.len.result - c.args.count) m
    c.reserve.new.self.cells c.frame_arguments-done.new.cells.cells c.put_nulls.new.cells.cells c.self.invariant c.in_ok-reserve.ensures.cells own
    (c.if-done.ensures.framed refl) (add-one c.level.result ∙ ap (λ (n : ℕ). suc n) depth) height c.put_nulls.ensures).enters

pub returns-else-done-clause-not : goal.returns-else-done-clause-not
returns-else-done-clause-not g c q =
    let F : List Cell → FlatStack = λ s. record { cells = s; registers = c.self.inside.registers; address = c.self.inside.address } in
    rw (← c.self.view_is) (ap F (c.if-done.ensures.not refl ∙ c.in_ok-reserve.ensures.cells))
