use Rattle.std.proofs.Common.{◌≡◌, ◌∙◌, ap, length, rules, subst, sym, true, Err, Ok}
use Rattle.std.specs.Prelude.{is_some}
use Rattle.icn_value.specs.declared.val.Val.TheVariants.{Text as TextVal}
use Rattle.icn_value.specs.Values.{Part, Root, Text}
use Rattle.icn_defs.specs.Calls.{GoesOn}
use Rattle.icn_defs.specs.Conversions.{text_of}
use Rattle.icn_defs.specs.ReadAndAssign.{assigns_or, assigns_root, reads_text, with_part}
use Rattle.icn_heap.specs.Extents.{text_in, value_in}
use Rattle.icn_heap.specs.Heaps.{extent_of}
use Rattle.icn_vars.specs.Worlds.{KeepsItems, reach_of, root_in, setting_of}
use Rattle.icn_vars.proofs.KeptItems.{keeps_items_trans, root_kept, root_stays}
use Rattle.icn_vars.proofs.PartChanges.{assign_err, part_built, part_bytes_stop, part_text_stops, part_unread, root_as, root_false, root_stops, root_true, some_is}
use Rattle.icn_vars.proofs.assigning.assign_part.Goals as goal

pub returns-in_err-whole-clause-assigned : goal.returns-in_err-whole-clause-assigned
returns-in_err-whole-clause-assigned g c = λ outside.
    let has : is_some (text_of (value_in (extent_of c.args.w.now.heap) c.args.val)) ≡ true = search rules in
    let new = some_is (text_of (value_in (extent_of c.args.w.now.heap) c.args.val)) has in
    assign_err (extent_of c.args.w.now.heap) (λ refused. assigns_or refused (Part (root_in (extent_of c.args.w.now.heap) c.args.root) c.args.place c.args.len)
    (value_in (extent_of c.args.w.now.heap) c.args.val)) (setting_of outside c.args.w.now (g.L.Locals.items c.args.l.now))
    (setting_of outside c.args.w.now (g.L.Locals.items c.args.l.now)) c.in_err-whole.field-0.0 c.from_residual.result c.from_residual.ensures.1
    (part_unread (extent_of c.args.w.now.heap) (root_in (extent_of c.args.w.now.heap) c.args.root) c.args.place c.args.len
    (value_in (extent_of c.args.w.now.heap) c.args.val) new.0 new.1 (setting_of outside c.args.w.now (g.L.Locals.items c.args.l.now))
    (setting_of outside c.args.w.now (g.L.Locals.items c.args.l.now)) c.in_err-whole.field-0.0 (c.in_err-whole.ensures.value outside))

pub returns-in_err-new-clause-assigned : goal.returns-in_err-new-clause-assigned
returns-in_err-new-clause-assigned g c = λ outside.
    let has : is_some (text_of (value_in (extent_of c.args.w.now.heap) c.args.val)) ≡ true = search rules in
    let new = some_is (text_of (value_in (extent_of c.args.w.now.heap) c.args.val)) has in
    assign_err (extent_of c.made_text.new.w.heap) (λ refused.
    assigns_or refused (Part (root_in (extent_of c.args.w.now.heap) c.args.root) c.args.place c.args.len) (value_in (extent_of c.args.w.now.heap) c.args.val))
    (setting_of outside c.args.w.now (g.L.Locals.items c.args.l.now)) (setting_of outside c.made_text.new.w (g.L.Locals.items c.args.l.now))
    c.in_err-new.field-0.0 c.from_residual-in_err-new.result c.from_residual-in_err-new.ensures.1
    (part_text_stops (extent_of c.made_text.new.w.heap) (root_in (extent_of c.args.w.now.heap) c.args.root) c.args.place c.args.len
    (value_in (extent_of c.args.w.now.heap) c.args.val) new.0 new.1 (text_in (extent_of c.args.w.now.heap) c.in_ok-whole.whole)
    (setting_of outside c.args.w.now (g.L.Locals.items c.args.l.now)) (setting_of outside c.made_text.new.w (g.L.Locals.items c.args.l.now))
    c.in_err-new.field-0.0 (c.in_ok-whole.ensures.value outside) (c.in_err-new.ensures.passes outside))

pub returns-in_err-text-clause-assigned : goal.returns-in_err-text-clause-assigned
returns-in_err-text-clause-assigned g c = λ outside.
    let read : GoesOn (reads_text (root_in (extent_of c.args.w.now.heap) c.args.root) c.args.place c.args.len)
    (setting_of outside c.args.w.now (g.L.Locals.items c.args.l.now)) (text_in (extent_of c.made_text.new.w.heap) c.in_ok-whole.whole)
    (setting_of outside c.args.w.now (g.L.Locals.items c.args.l.now)) =
    subst (λ text. GoesOn (reads_text (root_in (extent_of c.args.w.now.heap) c.args.root) c.args.place c.args.len)
    (setting_of outside c.args.w.now (g.L.Locals.items c.args.l.now)) text (setting_of outside c.args.w.now (g.L.Locals.items c.args.l.now)))
    (sym (c.made_text.ensures.kept.items.extent.bytes c.in_ok-whole.whole c.in_ok-whole.ensures.live)) (c.in_ok-whole.ensures.value outside) in
    assign_err (extent_of c.replace.new.w.heap) (λ refused.
    assigns_or refused (Part (root_in (extent_of c.args.w.now.heap) c.args.root) c.args.place c.args.len) (value_in (extent_of c.args.w.now.heap) c.args.val))
    (setting_of outside c.args.w.now (g.L.Locals.items c.args.l.now)) (setting_of outside c.replace.new.w (g.L.Locals.items c.args.l.now))
    c.in_err-text.field-0.0 c.from_residual-in_err-text.result c.from_residual-in_err-text.ensures.1
    (part_bytes_stop (extent_of c.replace.new.w.heap) (root_in (extent_of c.args.w.now.heap) c.args.root) c.args.place c.args.len
    (value_in (extent_of c.args.w.now.heap) c.args.val) (text_in (extent_of c.made_text.new.w.heap) c.in_ok-new.new) c.in_ok-new.ensures.text
    (text_in (extent_of c.made_text.new.w.heap) c.in_ok-whole.whole) (setting_of outside c.args.w.now (g.L.Locals.items c.args.l.now))
    (setting_of outside c.made_text.new.w (g.L.Locals.items c.args.l.now)) (setting_of outside c.replace.new.w (g.L.Locals.items c.args.l.now))
    c.in_err-text.field-0.0 read (c.in_ok-new.ensures.passes outside) (c.in_err-text.ensures.passes outside))

pub assign_root-requires-clause-root : goal.assign_root-requires-clause-root
assign_root-requires-clause-root g c =
    let kept : KeepsItems (reach_of c.args.w.now (g.L.Locals.items c.args.l.now)) (reach_of c.replace.new.w (g.L.Locals.items c.args.l.now)) =
    keeps_items_trans (reach_of c.args.w.now (g.L.Locals.items c.args.l.now)) (reach_of c.made_text.new.w (g.L.Locals.items c.args.l.now))
    (reach_of c.replace.new.w (g.L.Locals.items c.args.l.now)) c.made_text.ensures.kept.items c.replace.ensures.kept.items in
    root_stays kept c.args.root c.requires.root

pub returns-in_err-assign_root-clause-assigned : goal.returns-in_err-assign_root-clause-assigned
returns-in_err-assign_root-clause-assigned g c = λ outside.
    let read : GoesOn (reads_text (root_in (extent_of c.args.w.now.heap) c.args.root) c.args.place c.args.len)
    (setting_of outside c.args.w.now (g.L.Locals.items c.args.l.now)) (text_in (extent_of c.made_text.new.w.heap) c.in_ok-whole.whole)
    (setting_of outside c.args.w.now (g.L.Locals.items c.args.l.now)) =
    subst (λ text. GoesOn (reads_text (root_in (extent_of c.args.w.now.heap) c.args.root) c.args.place c.args.len)
    (setting_of outside c.args.w.now (g.L.Locals.items c.args.l.now)) text (setting_of outside c.args.w.now (g.L.Locals.items c.args.l.now)))
    (sym (c.made_text.ensures.kept.items.extent.bytes c.in_ok-whole.whole c.in_ok-whole.ensures.live)) (c.in_ok-whole.ensures.value outside) in
    let kept : KeepsItems (reach_of c.args.w.now (g.L.Locals.items c.args.l.now)) (reach_of c.replace.new.w (g.L.Locals.items c.args.l.now)) =
    keeps_items_trans (reach_of c.args.w.now (g.L.Locals.items c.args.l.now)) (reach_of c.made_text.new.w (g.L.Locals.items c.args.l.now))
    (reach_of c.replace.new.w (g.L.Locals.items c.args.l.now)) c.made_text.ensures.kept.items c.replace.ensures.kept.items in
    assign_err (extent_of c.assign_root.new.w.heap) (λ refused.
    assigns_or refused (Part (root_in (extent_of c.args.w.now.heap) c.args.root) c.args.place c.args.len) (value_in (extent_of c.args.w.now.heap) c.args.val))
    (setting_of outside c.args.w.now (g.L.Locals.items c.args.l.now)) (setting_of outside c.assign_root.new.w (g.L.Locals.items c.assign_root.new.l))
    c.in_err-assign_root.field-0.0 c.from_residual-in_err-assign_root.result c.from_residual-in_err-assign_root.ensures.1
    (λ refused. root_stops (extent_of c.assign_root.new.w.heap)
    (assigns_or refused (Part (root_in (extent_of c.args.w.now.heap) c.args.root) c.args.place c.args.len) (value_in (extent_of c.args.w.now.heap) c.args.val))
    (assigns_root refused (root_in (extent_of c.args.w.now.heap) c.args.root) (Text (with_part (text_in (extent_of c.made_text.new.w.heap) c.in_ok-whole.whole)
    c.args.place c.args.len (text_in (extent_of c.made_text.new.w.heap) c.in_ok-new.new))))
    (Part (root_in (extent_of c.args.w.now.heap) c.args.root) c.args.place (length (text_in (extent_of c.made_text.new.w.heap) c.in_ok-new.new)))
    (setting_of outside c.args.w.now (g.L.Locals.items c.args.l.now)) (setting_of outside c.replace.new.w (g.L.Locals.items c.args.l.now))
    (setting_of outside c.assign_root.new.w (g.L.Locals.items c.assign_root.new.l)) c.in_err-assign_root.field-0.0
    (part_built (extent_of c.assign_root.new.w.heap) (root_in (extent_of c.args.w.now.heap) c.args.root) c.args.place c.args.len
    (value_in (extent_of c.args.w.now.heap) c.args.val) (text_in (extent_of c.made_text.new.w.heap) c.in_ok-new.new) c.in_ok-new.ensures.text
    (text_in (extent_of c.made_text.new.w.heap) c.in_ok-whole.whole) (setting_of outside c.args.w.now (g.L.Locals.items c.args.l.now))
    (setting_of outside c.made_text.new.w (g.L.Locals.items c.args.l.now)) (setting_of outside c.replace.new.w (g.L.Locals.items c.args.l.now)) read
    (c.in_ok-new.ensures.passes outside) (c.in_ok-text.ensures.passes outside) refused)
    (root_as (extent_of c.assign_root.new.w.heap) (root_in (extent_of c.args.w.now.heap) c.args.root) (root_in (extent_of c.replace.new.w.heap) c.args.root)
    (Text (with_part (text_in (extent_of c.made_text.new.w.heap) c.in_ok-whole.whole) c.args.place c.args.len (text_in (extent_of c.made_text.new.w.heap)
    c.in_ok-new.new))) (value_in (extent_of c.replace.new.w.heap) (TextVal c.in_ok-text.text)) (setting_of outside c.replace.new.w
    (g.L.Locals.items c.args.l.now)) (setting_of outside c.assign_root.new.w (g.L.Locals.items c.assign_root.new.l)) (Err c.in_err-assign_root.field-0.0)
    (root_kept kept c.args.root c.requires.root) (ap Text c.in_ok-text.ensures.text) (c.in_err-assign_root.ensures.assigned outside) refused))

pub returns-then-branch-clause-assigned : goal.returns-then-branch-clause-assigned
returns-then-branch-clause-assigned g c = λ outside.
    let read : GoesOn (reads_text (root_in (extent_of c.args.w.now.heap) c.args.root) c.args.place c.args.len)
    (setting_of outside c.args.w.now (g.L.Locals.items c.args.l.now)) (text_in (extent_of c.made_text.new.w.heap) c.in_ok-whole.whole)
    (setting_of outside c.args.w.now (g.L.Locals.items c.args.l.now)) =
    subst (λ text. GoesOn (reads_text (root_in (extent_of c.args.w.now.heap) c.args.root) c.args.place c.args.len)
    (setting_of outside c.args.w.now (g.L.Locals.items c.args.l.now)) text (setting_of outside c.args.w.now (g.L.Locals.items c.args.l.now)))
    (sym (c.made_text.ensures.kept.items.extent.bytes c.in_ok-whole.whole c.in_ok-whole.ensures.live)) (c.in_ok-whole.ensures.value outside) in
    let kept : KeepsItems (reach_of c.args.w.now (g.L.Locals.items c.args.l.now)) (reach_of c.replace.new.w (g.L.Locals.items c.args.l.now)) =
    keeps_items_trans (reach_of c.args.w.now (g.L.Locals.items c.args.l.now)) (reach_of c.made_text.new.w (g.L.Locals.items c.args.l.now))
    (reach_of c.replace.new.w (g.L.Locals.items c.args.l.now)) c.made_text.ensures.kept.items c.replace.ensures.kept.items in
    let last : KeepsItems (reach_of c.args.w.now (g.L.Locals.items c.args.l.now)) (reach_of c.assign_root.new.w (g.L.Locals.items c.assign_root.new.l)) =
    keeps_items_trans (reach_of c.args.w.now (g.L.Locals.items c.args.l.now)) (reach_of c.replace.new.w (g.L.Locals.items c.args.l.now))
    (reach_of c.assign_root.new.w (g.L.Locals.items c.assign_root.new.l)) kept c.assign_root.ensures.kept.items in
    λ refused next.
    part_built (extent_of c.assign_root.new.w.heap) (root_in (extent_of c.args.w.now.heap) c.args.root) c.args.place c.args.len
    (value_in (extent_of c.args.w.now.heap) c.args.val) (text_in (extent_of c.made_text.new.w.heap) c.in_ok-new.new) c.in_ok-new.ensures.text
    (text_in (extent_of c.made_text.new.w.heap) c.in_ok-whole.whole) (setting_of outside c.args.w.now (g.L.Locals.items c.args.l.now))
    (setting_of outside c.made_text.new.w (g.L.Locals.items c.args.l.now)) (setting_of outside c.replace.new.w (g.L.Locals.items c.args.l.now)) read
    (c.in_ok-new.ensures.passes outside) (c.in_ok-text.ensures.passes outside) refused next
    ∙ (root_true (extent_of c.assign_root.new.w.heap) (λ refused. assigns_root refused (root_in (extent_of c.args.w.now.heap) c.args.root) (Text (with_part
    (text_in (extent_of c.made_text.new.w.heap) c.in_ok-whole.whole) c.args.place c.args.len (text_in (extent_of c.made_text.new.w.heap) c.in_ok-new.new))))
    (setting_of outside c.replace.new.w (g.L.Locals.items c.args.l.now)) (setting_of outside c.assign_root.new.w (g.L.Locals.items c.assign_root.new.l))
    c.in_ok-assign_root.field-0 c.if-branch.true (root_as (extent_of c.assign_root.new.w.heap) (root_in (extent_of c.args.w.now.heap) c.args.root)
    (root_in (extent_of c.replace.new.w.heap) c.args.root) (Text (with_part (text_in (extent_of c.made_text.new.w.heap) c.in_ok-whole.whole) c.args.place
    c.args.len (text_in (extent_of c.made_text.new.w.heap) c.in_ok-new.new)))
    (value_in (extent_of c.replace.new.w.heap) (TextVal c.in_ok-text.text)) (setting_of outside c.replace.new.w (g.L.Locals.items c.args.l.now))
    (setting_of outside c.assign_root.new.w (g.L.Locals.items c.assign_root.new.l)) (Ok c.in_ok-assign_root.field-0)
    (root_kept kept c.args.root c.requires.root) (ap Text c.in_ok-text.ensures.text) (c.in_ok-assign_root.ensures.assigned outside))
    refused (next (Part (root_in (extent_of c.args.w.now.heap) c.args.root) c.args.place (length (text_in (extent_of c.made_text.new.w.heap) c.in_ok-new.new))))
    ∙ sym (ap (λ (root : Root). next (Part root c.args.place c.length_of-size.result)
    (setting_of outside c.assign_root.new.w (g.L.Locals.items c.assign_root.new.l))) (root_kept last c.args.root c.requires.root)
    ∙ ap (λ size. next (Part (root_in (extent_of c.args.w.now.heap) c.args.root) c.args.place size)
    (setting_of outside c.assign_root.new.w (g.L.Locals.items c.assign_root.new.l))) c.length_of-size.ensures))

pub returns-then-branch-clause-live : goal.returns-then-branch-clause-live
returns-then-branch-clause-live g c =
    let kept : KeepsItems (reach_of c.args.w.now (g.L.Locals.items c.args.l.now)) (reach_of c.replace.new.w (g.L.Locals.items c.args.l.now)) =
    keeps_items_trans (reach_of c.args.w.now (g.L.Locals.items c.args.l.now)) (reach_of c.made_text.new.w (g.L.Locals.items c.args.l.now))
    (reach_of c.replace.new.w (g.L.Locals.items c.args.l.now)) c.made_text.ensures.kept.items c.replace.ensures.kept.items in
    let last : KeepsItems (reach_of c.args.w.now (g.L.Locals.items c.args.l.now)) (reach_of c.assign_root.new.w (g.L.Locals.items c.assign_root.new.l)) =
    keeps_items_trans (reach_of c.args.w.now (g.L.Locals.items c.args.l.now)) (reach_of c.replace.new.w (g.L.Locals.items c.args.l.now))
    (reach_of c.assign_root.new.w (g.L.Locals.items c.assign_root.new.l)) kept c.assign_root.ensures.kept.items in
    record { live = (root_stays last c.args.root c.requires.root, c.requires.place) }

pub returns-else-branch-clause-assigned : goal.returns-else-branch-clause-assigned
returns-else-branch-clause-assigned g c = λ outside.
    let read : GoesOn (reads_text (root_in (extent_of c.args.w.now.heap) c.args.root) c.args.place c.args.len)
    (setting_of outside c.args.w.now (g.L.Locals.items c.args.l.now)) (text_in (extent_of c.made_text.new.w.heap) c.in_ok-whole.whole)
    (setting_of outside c.args.w.now (g.L.Locals.items c.args.l.now)) =
    subst (λ text. GoesOn (reads_text (root_in (extent_of c.args.w.now.heap) c.args.root) c.args.place c.args.len)
    (setting_of outside c.args.w.now (g.L.Locals.items c.args.l.now)) text (setting_of outside c.args.w.now (g.L.Locals.items c.args.l.now)))
    (sym (c.made_text.ensures.kept.items.extent.bytes c.in_ok-whole.whole c.in_ok-whole.ensures.live)) (c.in_ok-whole.ensures.value outside) in
    let kept : KeepsItems (reach_of c.args.w.now (g.L.Locals.items c.args.l.now)) (reach_of c.replace.new.w (g.L.Locals.items c.args.l.now)) =
    keeps_items_trans (reach_of c.args.w.now (g.L.Locals.items c.args.l.now)) (reach_of c.made_text.new.w (g.L.Locals.items c.args.l.now))
    (reach_of c.replace.new.w (g.L.Locals.items c.args.l.now)) c.made_text.ensures.kept.items c.replace.ensures.kept.items in
    λ refused next.
    part_built (extent_of c.assign_root.new.w.heap) (root_in (extent_of c.args.w.now.heap) c.args.root) c.args.place c.args.len
    (value_in (extent_of c.args.w.now.heap) c.args.val) (text_in (extent_of c.made_text.new.w.heap) c.in_ok-new.new) c.in_ok-new.ensures.text
    (text_in (extent_of c.made_text.new.w.heap) c.in_ok-whole.whole) (setting_of outside c.args.w.now (g.L.Locals.items c.args.l.now))
    (setting_of outside c.made_text.new.w (g.L.Locals.items c.args.l.now)) (setting_of outside c.replace.new.w (g.L.Locals.items c.args.l.now)) read
    (c.in_ok-new.ensures.passes outside) (c.in_ok-text.ensures.passes outside) refused next
    ∙ root_false (extent_of c.assign_root.new.w.heap) (λ refused. assigns_root refused (root_in (extent_of c.args.w.now.heap) c.args.root) (Text (with_part
    (text_in (extent_of c.made_text.new.w.heap) c.in_ok-whole.whole) c.args.place c.args.len (text_in (extent_of c.made_text.new.w.heap) c.in_ok-new.new))))
    (setting_of outside c.replace.new.w (g.L.Locals.items c.args.l.now)) (setting_of outside c.assign_root.new.w (g.L.Locals.items c.assign_root.new.l))
    c.in_ok-assign_root.field-0 c.if-branch.false (root_as (extent_of c.assign_root.new.w.heap) (root_in (extent_of c.args.w.now.heap) c.args.root)
    (root_in (extent_of c.replace.new.w.heap) c.args.root) (Text (with_part (text_in (extent_of c.made_text.new.w.heap) c.in_ok-whole.whole) c.args.place
    c.args.len (text_in (extent_of c.made_text.new.w.heap) c.in_ok-new.new)))
    (value_in (extent_of c.replace.new.w.heap) (TextVal c.in_ok-text.text)) (setting_of outside c.replace.new.w (g.L.Locals.items c.args.l.now))
    (setting_of outside c.assign_root.new.w (g.L.Locals.items c.assign_root.new.l)) (Ok c.in_ok-assign_root.field-0)
    (root_kept kept c.args.root c.requires.root) (ap Text c.in_ok-text.ensures.text) (c.in_ok-assign_root.ensures.assigned outside))
    refused (next (Part (root_in (extent_of c.args.w.now.heap) c.args.root) c.args.place (length (text_in (extent_of c.made_text.new.w.heap) c.in_ok-new.new))))
