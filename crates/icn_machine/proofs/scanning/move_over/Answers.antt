use Rattle.std.proofs.Common.{◌<◌, ◌^◌, IsSome, Option, arith, refl, subst, sym}
use Rattle.icn_value.specs.declared.item.Item.{Item}
use Rattle.icn_value.specs.declared.item.Item.TheVariants as Items
use Rattle.icn_value.specs.declared.residual.Residual.TheVariants as Residuals
use Rattle.icn_value.specs.declared.val.Val.TheVariants as Vals
use Rattle.icn_heap.specs.Heaps.{extent_of}
use Rattle.icn_vars.specs.declared.outcome.Outcome.{Outcome}
use Rattle.icn_machine.specs.PlainScans.{moved_outcome}
use Rattle.icn_machine.proofs.GiveSteps.{suspends_given, suspends_live, suspends_named}
use Rattle.icn_machine.proofs.scanning.move_over.Goals as goal

pub short_text_slot-requires : goal.short_text_slot-requires
short_text_slot-requires g c =
    let short : c.move_to-text.result.len < 2 ^ 32
    = omega (arith, c.length_of_text.ensures, c.move_to-text.ensures.short, c.requires.short) in
    short

pub returns : goal.returns
returns g c =
    let w = c.args.world.now in
    let v = c.move_to-text.new.w in
    let text = c.move_to-text.result in
    let item : Item = Items.Val (Vals.Text text) in
    let rest = Residuals.UndoPosition w.pair.position in
    let oc : Outcome = moved_outcome text w.pair.position in
    let k = c.args.frames.now.flat in
    let n = c.suspend_move.new.self.flat in
    let given = c.in_ok-suspend_move.ensures.ok item c.short_text_slot.ensures in
    record {
      text = text;
      live = c.move_to-text.ensures.live;
      comes = λ outside locals. c.move_to-text.ensures.row outside locals;
      gives = record {
        gives = suspends_given oc item rest k n refl given;
        live = λ tables reach l o. suspends_live tables reach oc item rest k n refl given l o;
        named = λ names seen h o. suspends_named names (extent_of v.heap) seen oc item rest k n refl given h o;
      };
      heap = c.move_to-text.ensures.heap;
      words = c.move_to-text.ensures.words;
      globals = c.move_to-text.ensures.globals;
      statics = c.move_to-text.ensures.statics;
    }

pub suspend_move-requires : goal.suspend_move-requires
suspend_move-requires g c = record { plain = subst (λ (o : Option Item). IsSome o) (sym c.short_text_slot.ensures) refl }
