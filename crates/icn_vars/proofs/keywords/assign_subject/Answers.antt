use Rattle.std.proofs.Common.{◌≡◌, rules, true}
use Rattle.std.specs.Prelude.{is_some}
use Rattle.icn_value.specs.Values.{Subject}
use Rattle.icn_defs.specs.Conversions.{text_of}
use Rattle.icn_defs.specs.ReadAndAssign.{assigns_keyword}
use Rattle.icn_heap.specs.Extents.{text_in, value_in}
use Rattle.icn_heap.specs.Heaps.{extent_of}
use Rattle.icn_vars.specs.Worlds.{setting_of}
use Rattle.icn_vars.proofs.PartChanges.{subject_made, subject_stopped}
use Rattle.icn_vars.proofs.RootChanges.{root_err}
use Rattle.icn_vars.proofs.keywords.assign_subject.Goals as goal

pub returns-in_err-subject-in-Integer-clause-assigned : goal.returns-in_err-subject-in-Integer-clause-assigned
returns-in_err-subject-in-Integer-clause-assigned g c = λ outside.
    let has : is_some (text_of (value_in (extent_of c.args.w.now.heap) c.args.val)) ≡ true = search rules in
    root_err (extent_of c.made_text.new.w.heap) (λ refused. assigns_keyword refused Subject (value_in (extent_of c.args.w.now.heap) c.args.val))
    (setting_of outside c.args.w.now (g.L.Locals.items c.args.l.now)) (setting_of outside c.made_text.new.w (g.L.Locals.items c.args.l.now))
    c.in_err-subject-in-Integer.field-0.0 c.from_residual.result c.from_residual.ensures.1
    (subject_stopped (extent_of c.made_text.new.w.heap) (value_in (extent_of c.args.w.now.heap) c.args.val)
    (setting_of outside c.args.w.now (g.L.Locals.items c.args.l.now)) (setting_of outside c.made_text.new.w (g.L.Locals.items c.args.l.now))
    c.in_err-subject-in-Integer.field-0.0 has (c.in_err-subject-in-Integer.ensures.passes outside))

pub returns-in_ok-subject-in-Integer-clause-assigned : goal.returns-in_ok-subject-in-Integer-clause-assigned
returns-in_ok-subject-in-Integer-clause-assigned g c = λ outside.
    subject_made (value_in (extent_of c.args.w.now.heap) c.args.val) (text_in (extent_of c.made_text.new.w.heap) c.in_ok-subject-in-Integer.subject)
    (setting_of outside c.args.w.now (g.L.Locals.items c.args.l.now)) (setting_of outside c.made_text.new.w (g.L.Locals.items c.args.l.now))
    c.in_ok-subject-in-Integer.ensures.text (c.in_ok-subject-in-Integer.ensures.passes outside)
