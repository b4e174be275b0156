use Rattle.std.proofs.Common.{sym, ap, ◌∙◌}
use Rattle.iconx_top.specs.Words.{with_limit, option_of}
use Rattle.icn_value.specs.Limited.{limits_of}
use Rattle.iconx_top.proofs.OptionWords.{option_read}
use Rattle.iconx_top.proofs.words.options.Goals as goal

pub loop-word-preserved : goal.loop-word-preserved
loop-word-preserved c =
    option_read c.loop-word.limits c.in-Some-set_limit.next c.loop-word.rest.now c.in-Some.others.now c.in-Some-split_first.behind.now c.in-Some.word.now
    c.in-Some-split_first.value.now c.in-Some-option_of.option _ c.set_limit.result
    c.in-Some.ensures.cases.0 c.in-Some-split_first.ensures.cases.0
    (ap option_of (sym c.as_str.ensures.value) ∙ (sym c.option_of.ensures ∙ c.in-Some-option_of.is))
    (c.set_limit.ensures ∙ ap (with_limit c.in-Some-option_of.option (limits_of c.loop-word.limits)) c.as_str-in-Some.ensures.value) c.in-Some-set_limit.is
    c.loop-word.invariant
