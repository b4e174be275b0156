use Rattle.std.proofs.Common.{◌≡◌, ◌∙◌, sym, ap, false, rules, FitsSigned}
use Rattle.std.specs.Int.{w64}
use Rattle.std.proofs.lemmas.Int.{to_z-of_z}
use Rattle.icn_defs.specs.Errors.{ends_run}
use Rattle.icn_heap.specs.Heaps.{extent_of}
use Rattle.icn_vars.proofs.KeptErrors.{kept_sound}
use Rattle.icn_vars.proofs.errors.ends_by.Goals as goal

pub invariant_of-w : goal.invariant_of-w
invariant_of-w c =
    let fits : FitsSigned w64 c.args.w.now.words.error = search rules in
    let goes_on : ends_run c.args.number c.args.w.now.words.error ≡ false = ap (ends_run c.args.number) (sym (to_z-of_z w64 c.args.w.now.words.error fits))
    ∙ sym c.ends_run.ensures ∙ c.if-ends_run.false in
    record {
      sound = kept_sound (extent_of c.args.w.now.heap) c.args.w.now.pair c.args.w.now.words _ (record { number = c.args.number; value = c.args.value })
          c.args.w.now.globals.items c.args.w.now.statics.items c.args.w.now.sound c.requires.value (c.requires.known goes_on);
    }
