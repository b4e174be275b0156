use Rattle.std.proofs.Common.{◌≡◌, ℕ, ◌+◌, ◌-◌, Some, refl, subst, sym, ap, ◌∙◌}
use Rattle.icn_frames.specs.Heights.{cell_at}
use Rattle.icn_frames.specs.declared.layout.Registers.{Registers}
use Rattle.icn_frames.specs.declared.layout.Cell.TheVariants.{Suspension}
use Rattle.icn_frames.specs.Stacks.{FlatStack, resume}
use Rattle.icn_frames.specs.StackInvariant.{SeenStack, Sound}
use Rattle.icn_frames.proofs.CellFacts.{sound_cut, within_cells, newest_at, resume_is}
use Rattle.icn_frames.proofs.HeightsRead.{below_length}
use Rattle.icn_frames.proofs.NewestRead.{newest_there, one_rest}
use Rattle.icn_frames.proofs.calls.Frames.resume_newest.Goals as goal

pub saved_at-saved-requires : goal.saved_at-saved-requires
saved_at-saved-requires g c =
    let k = newest_at _ _ _ c.self.invariant c.in-Some.is in
    below_length _ _ k.from k.to

pub running_proc-self-inside-requires : goal.running_proc-self-inside-requires
running_proc-self-inside-requires g c =
    let k = newest_at _ _ _ c.self.invariant c.in-Some.is in
    let w = newest_there _ _ _ c.self.invariant c.in-Some.is in
    let q : c.saved_at-saved.result ≡ w.1 = c.saved_at-saved.ensures (Suspension w.0 w.1 w.2) w.1 w.3 refl in
    let t : Sound c.cut.new.self.cells c.saved_at-saved.result =
    subst (λ (r : Registers). Sound c.cut.new.self.cells r) (sym q)
    (sound_cut _ _ _ _ _ _ c.self.invariant k.from (within_cells _ _ k.to) w.3 refl c.cut.ensures.cells) in
    t.stands.leads.base

pub invariant_of-self : goal.invariant_of-self
invariant_of-self g c =
    let k = newest_at _ _ _ c.self.invariant c.in-Some.is in
    let w = newest_there _ _ _ c.self.invariant c.in-Some.is in
    let q : c.saved_at-saved.result ≡ w.1 = c.saved_at-saved.ensures (Suspension w.0 w.1 w.2) w.1 w.3 refl in
    subst (λ (r : Registers). Sound c.cut.new.self.cells r) (sym q)
    (sound_cut _ _ _ _ _ _ c.self.invariant k.from (within_cells _ _ k.to) w.3 refl c.cut.ensures.cells)

pub returns-in-Some-clause-flat : goal.returns-in-Some-clause-flat
returns-in-Some-clause-flat g c why rest e =
    let m : FlatStack = record { cells = c.self.inside.cells.cells; registers = c.self.inside.registers; address = c.self.inside.address } in
    let h = c.in-Some.height in
    let k = newest_at _ _ _ c.self.invariant c.in-Some.is in
    let w = newest_there _ _ _ c.self.invariant c.in-Some.is in
    let saved = c.saved_at-saved.result in
    let address = c.address_at-address.result in
    let q : saved ≡ w.1 = c.saved_at-saved.ensures (Suspension w.0 w.1 w.2) w.1 w.3 refl in
    let u : address ≡ w.2 = c.address_at-address.ensures w.0 w.1 w.2 w.3 in
    let a : cell_at (h - 1 + 1) m.cells ≡ Some (Suspension w.0 saved address) = w.3 ∙ ap (λ (r : Registers). Some (Suspension w.0 r w.2)) (sym q)
    ∙ ap (λ (n : ℕ). Some (Suspension w.0 saved n)) (sym u) in
    one_rest m _ rest w.0 why (resume_is m h w.0 saved address _ c.in-Some.is k.from (within_cells _ _ k.to) a c.cut.ensures.cells)
    (subst (λ (v : SeenStack). resume v.flat ≡ Some (why, rest)) (sym c.self.view_is) e)
