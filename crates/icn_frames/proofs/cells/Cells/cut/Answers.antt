use Rattle.std.proofs.Common.{◌≡◌, ◌≤◌, length, ap, ◌∙◌, arith}
use Rattle.icn_frames.proofs.Numbered.{length_numbered}
use Rattle.icn_frames.specs.Slots.{placed_cell}
use Rattle.icn_frames.proofs.Beside.{cut_cells, length_cut}
use Rattle.icn_frames.proofs.cells.Cells.cut.Goals as goal

pub cut-requires : goal.cut-requires
cut-requires g c = let r = (rw (← c.self.view_is) at c.requires) in
    omega (arith, r, length_numbered (placed_cell c.self.inside.controls.items c.self.inside.extras.items) (g.K.Stack.cells c.self.inside.slots))

pub invariant_of-self : goal.invariant_of-self
invariant_of-self g c =
    let r = (rw (← c.self.view_is) at c.requires) in
    let l = length_numbered (placed_cell c.self.inside.controls.items c.self.inside.extras.items) (g.K.Stack.cells c.self.inside.slots) in
    let n : c.args.len ≤ length (g.K.Stack.cells c.self.inside.slots) = omega (arith, r, l) in
    let s = c.cut.ensures.spare in
    let m : length (g.K.Stack.cells c.cut.new.self) ≡ c.args.len = ap length c.cut.ensures.cells
    ∙ length_cut c.args.len (g.K.Stack.cells c.self.inside.slots) n in
    let i = c.self.invariant in
    record { within = omega arith; room = omega arith; extras = omega arith }

pub returns-clause-cells : goal.returns-clause-cells
returns-clause-cells g c = rw (← c.self.view_is) (cut_cells c.self.inside.controls.items c.self.inside.extras.items (g.K.Stack.cells c.self.inside.slots)
    (g.K.Stack.cells c.cut.new.self) c.args.len c.cut.ensures.cells)

pub returns-clause-spare : goal.returns-clause-spare
returns-clause-spare g c =
    let r = (rw (← c.self.view_is) at c.requires) in
    let l = length_numbered (placed_cell c.self.inside.controls.items c.self.inside.extras.items) (g.K.Stack.cells c.self.inside.slots) in
    let n : c.args.len ≤ length (g.K.Stack.cells c.self.inside.slots) = omega (arith, r, l) in
    let m : length (g.K.Stack.cells c.cut.new.self) ≡ c.args.len = ap length c.cut.ensures.cells
    ∙ length_cut c.args.len (g.K.Stack.cells c.self.inside.slots) n in
    let i = c.self.invariant in
    rw (← c.self.view_is) (omega arith)
