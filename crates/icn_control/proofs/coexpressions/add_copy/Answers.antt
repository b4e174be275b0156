use Rattle.std.proofs.Common.{Option, IsSome, slice_get, refl, sym, ap, ◌∙◌, subst}
use Rattle.icn_frames.specs.Stacks.{FlatStack}
use Rattle.icn_coexp.specs.Transfers.{CoexpTable}
use Rattle.icn_control.proofs.CreateSteps.{adds_copy, copy_running}
use Rattle.icn_control.proofs.Halts.{value_of_some}
use Rattle.icn_control.proofs.coexpressions.add_copy.Goals as goal

pub frames-requires : goal.frames-requires
frames-requires g c =
    let tab : CoexpTable = c.args.stacks.now.table in
    subst (λ (o : Option FlatStack). IsSome o)
    (sym (ap (λ (x : CoexpTable). x.running) c.in_ok-new.ensures.made ∙ copy_running tab (slice_get tab.coexps c.args.id))) c.requires.runs

pub returns : goal.returns
returns g c =
    let tab : CoexpTable = c.args.stacks.now.table in
    let runs = value_of_some tab.running c.requires.runs in
    adds_copy tab c.refresh.new.self.table _ runs.0 c.frames.result.now.flat c.put.new.frames.flat c.args.id c.in_ok-new.new runs.1 c.in_ok-new.ensures.made
    c.in_ok-new.ensures.number c.frames.ensures.running c.put.ensures.flat refl
