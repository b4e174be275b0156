use Rattle.std.proofs.Common.{sym, ◌∙◌, ap}
use Rattle.std.specs.Option.{option_copied}
use Rattle.icn_ucode.proofs.FieldWords.{fields_left, bad_word, good_word, left_shorter}
use Rattle.icn_ucode.proofs.decl_reader.read_fields.Goals as goal

pub returns-then-not-is_further : goal.returns-then-not-is_further
returns-then-not-is_further c =
    sym (bad_word c.loop-rest.fields.fields.items c.in-Some.text.now c.cut.result.0.now (option_copied c.cut.result.1) c.cut.ensures.word c.cut.ensures.behind
    (sym c.is_further.ensures ∙ c.if-not-is_further.true))
    ∙ (ap (λ rest. fields_left c.loop-rest.fields.fields.items (option_copied rest)) (sym c.in-Some.is) ∙ c.loop-rest.invariant)

pub loop-rest-smaller : goal.loop-rest-smaller
loop-rest-smaller c = let h = left_shorter c.in-Some.text.now (option_copied c.cut.result.1) c.cut.ensures.behind in rw c.in-Some.is h

pub loop-rest-preserved : goal.loop-rest-preserved
loop-rest-preserved c =
    rw c.in_ok-fields.ensures
    (sym (good_word c.loop-rest.fields.fields.items c.in-Some.text.now c.cut.result.0.now (option_copied c.cut.result.1) c.cut.ensures.word c.cut.ensures.behind
    (sym c.is_further.ensures ∙ c.if-not-is_further.false))
    ∙ (ap (λ rest. fields_left c.loop-rest.fields.fields.items (option_copied rest)) (sym c.in-Some.is) ∙ c.loop-rest.invariant))
