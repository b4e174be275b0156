use Rattle.std.proofs.Common.{[], ◌∙◌, ap, codes, unwrap_or}
use Rattle.std.proofs.lemmas.Result.{IfOk-weaker}
use Rattle.clap.specs.Words.{found_of}
use Rattle.clap.proofs.WalkLemmas.{raw_values-rows}
use Rattle.icn_text.specs.WordTexts.{texts}
use Rattle.icont_words.proofs.order.names_of.Goals as goal

pub returns-in-Some : goal.returns-in-Some
returns-in-Some c =
    let rows = raw_values-rows (found_of c.args.matches.now) (codes "file") in
    IfOk-weaker c.from_slice.result _ _ (λ names is. ap texts is
    ∙ ap (λ o. unwrap_or o []) (c.in-Some.ensures ∙ rows)) c.from_slice.ensures.items

pub returns-in-None : goal.returns-in-None
returns-in-None c =
    let rows = raw_values-rows (found_of c.args.matches.now) (codes "file") in
    ap texts c.new.ensures.items ∙ ap (λ o. unwrap_or o []) (c.in-None.ensures ∙ rows)
