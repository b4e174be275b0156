use Rattle.std.proofs.Common.{◌≡◌, ◌∙◌, ap, subst, Ok}
use Rattle.icn_answer.proofs.ToldContent.{if_some_elim, if_some_intro}
use Rattle.icn_link.specs.LinkFaults.{unit_names}
use Rattle.icn_link.specs.Units.{units_seen}
use Rattle.icont_units.specs.FetchedFiles.{files_seen}
use Rattle.icont_units.specs.Files.{files_named, sources_in}
use Rattle.icont_units.specs.Units.{FilesCome, units_of}
use Rattle.icont_top.specs.Writing.{bases}
use Rattle.icont_top.proofs.FirstBase.{come_names}
use Rattle.icn_text.specs.WordTexts.{texts}
use Rattle.icont_top.proofs.WrittenTexts.{all_read, are_ucode}
use Rattle.icont_top.proofs.loading.translate_sources.Goals as goal

pub returns-in-Ok-ucode_texts-clause-translated : goal.returns-in-Ok-ucode_texts-clause-translated
returns-in-Ok-ucode_texts-clause-translated g c =
    if_some_intro (g.F.Files.state c.args.files.now).held _ (λ held e.
    let come = if_some_elim _ (g.F.Files.state c.args.files.now).held held e c.in-Ok-load_named.ensures.come in
    let comes : FilesCome held (sources_in (files_named (texts c.args.names.now))) (Ok come.0) =
    subst (λ files. FilesCome held files (Ok come.0)) (ap files_seen c.deref.ensures.value ∙ c.in-Ok.ensures) come.1.0 in
    let names : bases (files_seen c.deref-in-Ok-load_named.result.now) ≡ unit_names (units_of come.0) =
    ap (λ files. bases (files_seen files)) c.deref-in-Ok-load_named.ensures.value ∙ (ap bases c.in-Ok.ensures
    ∙ come_names c.one_spelling.ensures.spelled held (sources_in (files_named (texts c.args.names.now))) come.0 comes) in (
      come.0,
      (
        comes,
        (
          c.in-Ok-ucode_texts.ensures ∙ are_ucode (bases (files_seen c.deref-in-Ok-load_named.result.now)) (units_seen c.deref-in-Ok-load_named-2.result.now)
              come.0 (ap units_seen c.deref-in-Ok-load_named-2.ensures.value ∙ come.1.1.units) names,
          all_read c.one_spelling.ensures.read_back c.in-Ok-load_named.members.units.items come.0 come.1.1.units,
        ),
      ),
    ))
