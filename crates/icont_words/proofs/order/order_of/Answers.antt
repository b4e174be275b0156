use Rattle.std.proofs.Common.{[], ◌∙◌, ap, codes, refl, unwrap_or}
use Rattle.clap.specs.Words.{found_of, one_text}
use Rattle.clap.proofs.WalkLemmas.{first_value-rows, one_text-rows}
use Rattle.icont_words.specs.Words.{has_units, names_said}
use Rattle.icont_words.proofs.WordOutcomes.{flag_is, found_names, order_as}
use Rattle.icont_words.proofs.order.order_of.Goals as goal

pub returns : goal.returns
returns c = λ pieces holds.
    let found = found_of c.args.matches.now in
    order_as _ _
    (flag_is (one_text found (codes "units"))
    (has_units pieces) c.get_flag.result c.get_flag.ensures.value c.get_flag.ensures.other
    (one_text-rows found (codes "units") ∙ holds.units))
    (c.get_str.ensures ∙ (first_value-rows found (codes "image") ∙ holds.image))
    (c.get_str-2.ensures ∙ (first_value-rows found (codes "turns") ∙ holds.turns))
    (c.get_str-3.ensures ∙ (first_value-rows found (codes "number") ∙ holds.number))
    (c.in_ok-names_of.ensures ∙ (ap (λ o. unwrap_or o []) holds.names ∙ found_names (names_said pieces)))
    refl
