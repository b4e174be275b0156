use Rattle.std.proofs.Common.{◌≡◌, Some, None, sym, subst, ◌∙◌}
use Rattle.icn_frames.specs.declared.slots.Extra.{Extra}
use Rattle.icn_frames.specs.Slots.{cell_of, extra_at, why_in}
use Rattle.icn_frames.proofs.ContentFacts.{operand_content, local_content, no_content, suspended_content}
use Rattle.icn_frames.proofs.slots.content_of.Goals as goal

pub returns-then-is_operand : goal.returns-then-is_operand
returns-then-is_operand c control same =
    let extra = extra_at c.args.extras.now.items c.args.at in
    operand_content (cell_of control extra c.args.slot) c.operand_of.result (sym (c.is_operand.ensures control extra) ∙ c.if-is_operand.true)
    (λ x is. c.operand_of.ensures control x is)

pub returns-then-is_local : goal.returns-then-is_local
returns-then-is_local c control same =
    let extra = extra_at c.args.extras.now.items c.args.at in
    local_content (cell_of control extra c.args.slot) c.local_of.result (sym (c.is_local.ensures control extra) ∙ c.if-is_local.true)
    (λ v is. c.local_of.ensures control v is)

pub returns-in-Some : goal.returns-in-Some
returns-in-Some c control same =
    let extra = extra_at c.args.extras.now.items c.args.at in
    suspended_content (cell_of control extra c.args.slot) c.in-Some.why
    (subst (λ (x : Extra). why_in (Some (cell_of control x c.args.slot)) ≡ Some c.in-Some.why) c.extra_of.ensures
    (sym (c.suspended_of.ensures control same) ∙ c.in-Some.is))

pub returns-in-None : goal.returns-in-None
returns-in-None c control same =
    let extra = extra_at c.args.extras.now.items c.args.at in
    no_content (cell_of control extra c.args.slot) (sym (c.is_operand.ensures control extra) ∙ c.if-is_operand.false)
    (sym (c.is_local.ensures control extra) ∙ c.if-is_local.false)
    (subst (λ (x : Extra). why_in (Some (cell_of control x c.args.slot)) ≡ None) c.extra_of.ensures
    (sym (c.suspended_of.ensures control same) ∙ c.in-None.is))
