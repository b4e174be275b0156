use Rattle.std.proofs.Common.{◌∙◌, ap, length, refl, sym, List, ℕ}
use Rattle.icn_value.specs.Values.{Text, Val}
use Rattle.icn_defs.specs.Rows.{Gives, gives_value}
use Rattle.icn_heap.specs.Extents.{text_in}
use Rattle.icn_heap.specs.Heaps.{extent_of, heap_of}
use Rattle.icn_vars.proofs.GrowingWorlds.{setting_over}
use Rattle.icn_vars.proofs.HeapChanges.{bytes_change, change_passes, fields_charged}
use Rattle.icn_strfn.specs.Layouts.{laid_out}
use Rattle.icn_machine.specs.MadeTexts.{blank}
use Rattle.icn_machine.proofs.TextsAtOnce.{charged_counts}
use Rattle.icn_machine.proofs.laying_out.text_laid_out.Goals as goal

pub returns : goal.returns
returns c =
    let w = c.args.world.now in
    let heap = c.text_in_field.new.heap in
    let bytes : List ℕ = laid_out c.args.layout (text_in (extent_of w.heap) c.args.text) c.args.width blank in
    let step = c.in_ok-field.ensures.charged in
    let counts = charged_counts (heap_of w.heap) (heap_of heap) (length bytes) step in
    record {
      live = c.in_ok-field.ensures.live;
      comes = λ outside locals live.
          change_passes w.heap heap w.pair w.words w.globals.items w.statics.items locals c.text_in_field.ensures.kept w.sound live
          (bytes_change (length bytes)) step outside (gives_value (Text bytes))
          ∙ ap (λ (xs : List ℕ). Gives (Val (Text xs)) (setting_over outside heap w.pair w.words w.globals.items w.statics.items locals))
          (sym c.in_ok-field.ensures.bytes);
      kept = record {
        extent = c.text_in_field.ensures.kept;
        fields = fields_charged (bytes_change (length bytes)) (heap_of w.heap) (heap_of heap) step;
        globals = refl;
        statics = refl;
        locals = refl;
      };
      counts = record { bounds = counts.0; coexps = counts.1 };
    }
