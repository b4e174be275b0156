use Rattle.std.proofs.Common.{FitsSigned, ◌∙◌, ap, length, refl, rules, sym, List, ℕ}
use Rattle.std.proofs.lemmas.Int.{to_z-of_z}
use Rattle.std.specs.Int.{w64}
use Rattle.std.specs.Fmt.{signed_decimal}
use Rattle.icn_value.specs.Values.{Text, Val}
use Rattle.icn_defs.specs.Rows.{Gives, builds, gives_value}
use Rattle.icn_heap.specs.Heaps.{extent_of, heap_of}
use Rattle.icn_heap.proofs.GrowingHeaps.{keeps_trans, live_kept}
use Rattle.icn_vars.specs.Worlds.{field_counts}
use Rattle.icn_vars.proofs.GrowingWorlds.{grows, setting_over}
use Rattle.icn_vars.proofs.HeapChanges.{bytes_change, change_passes, fields_charged}
use Rattle.icn_vars.proofs.KeptItems.{fields_then}
use Rattle.icn_strfn.specs.Layouts.{laid_out}
use Rattle.icn_machine.specs.MadeTexts.{blank}
use Rattle.icn_machine.proofs.TextsAtOnce.{charged_counts}
use Rattle.icn_machine.proofs.laying_out.integer_laid_out.Goals as goal

pub returns : goal.returns
returns c =
    let w = c.args.world.now in
    let mid = c.build.new.self in
    let heap = c.text_in_field.new.heap in
    let digits : List ℕ = signed_decimal c.args.m in
    let fits : FitsSigned w64 c.args.m = search rules in
    let made = c.as_bytes.ensures ∙ c.decimal-digits.ensures ∙ ap signed_decimal (to_z-of_z w64 c.args.m fits) in
    let text = c.in_ok-text.ensures.bytes ∙ made in
    let bytes : List ℕ = laid_out c.args.layout digits c.args.width blank in
    let step = rw made at c.in_ok-text.ensures.step in
    let more = rw text at c.in_ok-field.ensures.charged in
    let first = charged_counts (heap_of w.heap) (heap_of mid) (length digits) step in
    let second = charged_counts (heap_of mid) (heap_of heap) (length bytes) more in
    let keeps = c.build.ensures.kept in
    let keeps_more = c.text_in_field.ensures.kept in
    record {
      live = c.in_ok-field.ensures.live;
      comes = λ outside locals live.
          change_passes w.heap mid w.pair w.words w.globals.items w.statics.items locals keeps w.sound live (bytes_change (length digits)) step outside
          (builds bytes)
          ∙ change_passes mid heap w.pair w.words w.globals.items w.statics.items locals keeps_more
          (grows (extent_of w.heap) (extent_of mid) w.pair w.words w.globals.items w.statics.items keeps w.sound) (live_kept keeps locals live)
          (bytes_change (length bytes)) more outside (gives_value (Text bytes))
          ∙ ap (λ (xs : List ℕ). Gives (Val (Text xs)) (setting_over outside heap w.pair w.words w.globals.items w.statics.items locals))
          (sym (rw text at c.in_ok-field.ensures.bytes));
      kept = record {
        extent = keeps_trans keeps keeps_more;
        fields = fields_then (field_counts (heap_of w.heap)) (field_counts (heap_of mid)) (field_counts (heap_of heap))
            (fields_charged (bytes_change (length digits)) (heap_of w.heap) (heap_of mid) step)
            (fields_charged (bytes_change (length bytes)) (heap_of mid) (heap_of heap) more);
        globals = refl;
        statics = refl;
        locals = refl;
      };
      counts = record { bounds = second.0 ∙ first.0; coexps = second.1 ∙ first.1 };
    }
