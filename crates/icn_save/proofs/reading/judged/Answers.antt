-- What fits and holds keeps the format.
use Rattle.std.proofs.Common.{◌≡◌, ◌∙◌, true, map, ap, refl, sym}
use Rattle.std.specs.Prelude.{nat_eq, nat_le, string_bytes}
use Rattle.std.specs.List.{list_all}
use Rattle.std.specs.Str.{is_utf8}
use Rattle.std.proofs.lemmas.Bool.{le-leb}
use Rattle.icn_value.specs.Limited.{limits_of}
use Rattle.icn_save.specs.Reading.{SaveFields, has_text_name}
use Rattle.icn_save.specs.Saves.{SavedRun, calls_of}
use Rattle.icn_save.specs.Slices.{calls_in, fields_in, texts_in}
use Rattle.icn_save.proofs.Judging.{all_hold, kept_as}
use Rattle.icn_save.proofs.reading.judged.Goals as goal

pub invariant_of-result : goal.invariant_of-result
invariant_of-result c =
    let fields : SaveFields = fields_in c.args.fields.now in
    let words : map string_bytes c.in_ok-texts.field-0.items ≡ fields.words = c.in_ok-texts.ensures.1 ∙ ap texts_in c.deref.ensures.value in
    let calls : calls_of c.in_ok-calls.field-0.items ≡ fields.calls = c.in_ok-calls.ensures.1 ∙ ap calls_in c.deref-2.ensures.value in
    let texts : list_all is_utf8 fields.words ≡ true = ap (λ l. list_all is_utf8 (texts_in l)) (sym c.deref.ensures.value) ∙ c.in_ok-texts.ensures.0 in
    let names : list_all has_text_name fields.calls ≡ true =
    ap (λ l. list_all has_text_name (calls_in l)) (sym c.deref-2.ensures.value) ∙ c.in_ok-calls.ensures.0 in
    let flag : nat_le fields.flag 1 ≡ true = le-leb _ _ c.if-fields-gt1.false in
    let saved : SavedRun = record {
      bounds = limits_of c.in-Some.limits;
      words = map string_bytes c.in_ok-texts.field-0.items;
      image = c.in_ok-from_slice.field-0;
      input = c.in_ok-from_slice-2.field-0;
      ended = nat_eq c.args.fields.now.flag 1;
      output = c.args.fields.now.output;
      errors = c.args.fields.now.errors;
      calls = calls_of c.in_ok-calls.field-0.items;
    } in
    record {
      format = kept_as fields saved c.in-Some.ensures.found words c.in_ok-from_slice.ensures c.in_ok-from_slice-2.ensures refl refl calls c.requires
          (all_hold fields flag (sym c.in-Some.ensures.range) texts names);
    }
