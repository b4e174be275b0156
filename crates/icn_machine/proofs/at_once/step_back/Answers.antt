use Rattle.std.proofs.Common.{◌≡◌, ◌∙◌, IsSome, Some, ap, arith, refl, subst, suc, sym}
use Rattle.icn_frames.specs.Stacks.{FlatStack}
use Rattle.icn_machine.proofs.AtOnceAnswers.{back_again, next_address}
use Rattle.icn_machine.proofs.at_once.step_back.Goals as goal

pub frames-frames-requires : goal.frames-frames-requires
frames-frames-requires g c = subst IsSome (sym c.requires.1) refl

pub overflow_sub-next : goal.overflow_sub-next
overflow_sub-next g c =
    let was : FlatStack = c.requires.0 in
    let at : c.address-next.result ≡ suc was.address
    = next_address c.frames-frames.result.now.flat was c.address-next.result (sym c.frames-frames.ensures.running ∙ c.requires.1) c.address-next.ensures in
    omega (arith, at)

pub returns-clause-table : goal.returns-clause-table
returns-clause-table g c was runs =
    let m = c.args.m.now in
    ap (λ (x : FlatStack). record m.stacks.table { running = Some x })
    (back_again c.frames-frames.result.now.flat c.go.new.self.flat was c.address-next.result (sym c.frames-frames.ensures.running ∙ runs) c.address-next.ensures
    c.go.ensures.flat)
