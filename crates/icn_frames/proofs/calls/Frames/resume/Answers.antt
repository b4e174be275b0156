use Rattle.std.proofs.Common.{◌≡◌, ◌-◌, Some, subst, sym, ap, ◌∙◌}
use Rattle.icn_frames.specs.Heights.{cut}
use Rattle.icn_frames.specs.declared.layout.Why.{Why}
use Rattle.icn_frames.specs.Stacks.{FlatStack, resume}
use Rattle.icn_frames.specs.StackInvariant.{SeenStack}
use Rattle.icn_frames.proofs.CellFacts.{newest_at}
use Rattle.icn_frames.proofs.HeightsRead.{below_length}
use Rattle.icn_frames.proofs.NewestRead.{newest_there, held_there}
use Rattle.icn_frames.proofs.calls.Frames.resume.Goals as goal

pub why_at-why-requires : goal.why_at-why-requires
why_at-why-requires g c =
    let k = newest_at _ _ _ c.self.invariant c.in-Some.is in
    below_length _ _ k.from k.to

pub returns-in-Some-clause-flat : goal.returns-in-Some-clause-flat
returns-in-Some-clause-flat g c =
    let m : FlatStack = record { cells = c.self.inside.cells.cells; registers = c.self.inside.registers; address = c.self.inside.address } in
    let w = newest_there _ _ _ c.self.invariant c.in-Some.is in
    let rest : FlatStack = record { cells = cut (c.in-Some.height - 1) m.cells; registers = w.1; address = w.2 } in
    let h : resume c.args.self.now.flat ≡ Some (w.0, rest) = subst (λ (v : SeenStack). resume v.flat ≡ Some (w.0, rest)) c.self.view_is
    (held_there m _ w.0 w.1 w.2 c.self.invariant c.in-Some.is w.3) in
    let q : c.why_at-why.result ≡ w.0 = c.why_at-why.ensures w.0 w.1 w.2 w.3 in
    let n : c.resume_newest.new.self.flat ≡ rest = c.resume_newest.ensures.flat w.0 rest h in
    h ∙ ap (λ (x : Why). Some (x, rest)) (sym q) ∙ ap (λ (x : FlatStack). Some (c.why_at-why.result, x)) (sym n)
