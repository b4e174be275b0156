use Rattle.std.proofs.Common.{ℤ, List, length, Option, Some, refl, sym, ap, ◌∙◌, arith, rules, w64, FitsSigned}
use Rattle.std.proofs.lemmas.Int.{to_z-of_z}
use Rattle.icn_value.specs.declared.val.Val.TheVariants as Vals
use Rattle.icn_value.specs.declared.item.Item.{Item}
use Rattle.icn_value.specs.declared.item.Item.TheVariants as Items
use Rattle.icn_frames.specs.declared.layout.Why.{Why}
use Rattle.icn_frames.specs.declared.layout.Cell.{Cell}
use Rattle.icn_frames.specs.Slots.{why_counting}
use Rattle.icn_frames.specs.Stacks.{FlatStack, given_to}
use Rattle.icn_frames.proofs.SoundStacks.{sound_push}
use Rattle.icn_frames.proofs.SuspensionFrames.{sound_hung, sound_all, scan_here, suspend_is}
use Rattle.icn_frames.proofs.RunningProcs.{runs_given}
use Rattle.icn_frames.proofs.calls.Frames.suspend_count.Goals as goal

pub invariant_of-self-2 : goal.invariant_of-self-2
invariant_of-self-2 g c =
    let s = c.self.inside.cells.cells in
    let r = c.self.inside.registers in
    let h = c.in_ok-height.height in
    let w : Why = why_counting c.args.count.given c.args.count.last c.args.count.step in
    let t = sound_hung w s _ r r c.self.inside.address h _ (length s) r.scan c.self.invariant (sound_all s r c.self.invariant) (omega arith)
    c.bottom_of-from.ensures c.in_ok-height.ensures.height
    (scan_here w s r c.self.inside.address h r.scan c.self.invariant c.in_ok-height.ensures.height refl)
    (rw c.len-to.ensures.is at c.in_ok-height.ensures.ok) in
    let fits : FitsSigned w64 c.args.count.given = search rules in
    let same = ap (λ (n : ℤ). Some (Items.Val (Vals.Integer n))) (to_z-of_z w64 c.args.count.given fits) in
    rw (c.push_plain.ensures.cells (Items.Val (Vals.Integer c.args.count.given)) same) (sound_push _ _ _ t)

pub invariant_of-self-inside-2 : goal.invariant_of-self-inside-2
invariant_of-self-inside-2 g c =
    let s = c.self.inside.cells.cells in
    let r = c.self.inside.registers in
    let hung = rw c.len-to.ensures.is at c.in_ok-height.ensures.ok in
    let item : Item = Items.Val (Vals.Integer c.args.count.given) in
    let fits : FitsSigned w64 c.args.count.given = search rules in
    let same = ap (λ (n : ℤ). Some (Items.Val (Vals.Integer n))) (to_z-of_z w64 c.args.count.given fits) in
    (runs_given item _ s _ _ r _ (length s) _ c.self.invariant hung (c.push_plain.ensures.cells item same) c.self.inside.runs, tt)

pub returns-clause-ok : goal.returns-clause-ok
returns-clause-ok g c =
    let r = c.self.inside.registers in
    let h = c.in_ok-height.height in
    let w : Why = why_counting c.args.count.given c.args.count.last c.args.count.step in
    let item : Item = Items.Val (Vals.Integer c.args.count.given) in
    let m : FlatStack = record { cells = c.self.inside.cells.cells; registers = c.self.inside.registers; address = c.self.inside.address } in
    let F : List Cell → Option FlatStack = λ z. Some (record {
      cells = z;
      registers = record c.self.inside.registers { newest = Some h };
      address = c.self.inside.address;
    }) in
    let fits : FitsSigned w64 c.args.count.given = search rules in
    let same = ap (λ (n : ℤ). Some (Items.Val (Vals.Integer n))) (to_z-of_z w64 c.args.count.given fits) in
    rw (← c.self.view_is)
    (ap (given_to (Some item)) (suspend_is m w _ r.scan h _ c.self.invariant c.bottom_of-from.ensures c.in_ok-height.ensures.height refl
    (rw c.len-to.ensures.is at c.in_ok-height.ensures.ok))
    ∙ ap F (sym (c.push_plain.ensures.cells item same)))
