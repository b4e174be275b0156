use Rattle.std.proofs.Common.{◌∙◌}
use Rattle.icont_units.specs.declared.ucode.UnitTexts.{UnitTexts}
use Rattle.icont_units.proofs.JudgedTexts.{both_there}
use Rattle.icn_answer.proofs.ToldContent.{if_some_elim, if_some_intro}
use Rattle.icont_units.proofs.ucode.both_texts.Goals as goal

pub returns-clause-texts : goal.returns-clause-texts
returns-clause-texts g c =
    let texts : UnitTexts = record { first = c.in_ok-first.first; second = c.in_ok-second.second } in
    if_some_intro (g.F.Files.state c.args.files.now).held _ (λ held e. both_there held c.args.base.now texts
    (if_some_elim _ (g.F.Files.state c.args.files.now).held held e c.in_ok-first.ensures.text)
    (if_some_elim _ (g.F.Files.state c.text.new.files).held held (c.text.ensures.reads.files ∙ e) c.in_ok-second.ensures.text))
