use Rattle.std.proofs.Common.{◌≡◌, ◌∙◌, ap, sym, subst, Ok}
use Rattle.icn_answer.proofs.ToldContent.{if_some_elim, if_some_intro}
use Rattle.icont_units.specs.FetchedFiles.{files_seen}
use Rattle.icont_units.specs.Files.{files_named}
use Rattle.icont_units.specs.Units.{Load}
use Rattle.icont_top.specs.BaseNames.{first_named}
use Rattle.icont_top.proofs.FirstBase.{load_base}
use Rattle.icont_top.proofs.LoadedProgram.{loading_unlinked, no_program_of, tells_link, told_of}
use Rattle.icn_text.specs.WordTexts.{texts}
use Rattle.icont_top.proofs.loading.linked_program.Goals as goal

pub returns-in-Ok-make-clause-program : goal.returns-in-Ok-make-clause-program
returns-in-Ok-make-clause-program g c =
    if_some_intro (g.F.Files.state c.args.files.now).held _ (λ held e.
    let loaded = if_some_elim _ (g.F.Files.state c.args.files.now).held held e c.in-Ok-load.ensures.loaded in
    let named : files_seen c.deref.result.now ≡ files_named (texts c.args.names.now) = ap files_seen c.deref.ensures.value ∙ c.in-Ok.ensures in
    let load : Load held (files_named (texts c.args.names.now)) (Ok loaded.0) = subst (λ files. Load held files (Ok loaded.0)) named loaded.1.0 in (
      loaded.0,
      (
        load,
        (
          told_of c.in-Ok-load.members loaded.0 loaded.1.1 c.in-Ok-load.ensures.absent,
          record {
            made = c.in-Ok-make.ensures.made loaded.0 loaded.1.1;
            base = c.first_base.ensures ∙ (ap (λ files. first_named (files_seen files)) c.deref-in-Ok-make.ensures.value
                ∙ (ap first_named c.in-Ok.ensures ∙ sym (load_base c.one_spelling.ensures.spelled held (files_named (texts c.args.names.now)) loaded.0 load)));
          },
        ),
      ),
    ))

pub returns-in-Ok-load-clause-program : goal.returns-in-Ok-load-clause-program
returns-in-Ok-load-clause-program g c =
    if_some_intro (g.F.Files.state c.args.files.now).held _ (λ held e.
    let loaded = if_some_elim _ (g.F.Files.state c.args.files.now).held held e c.in-Ok-load.ensures.loaded in
    let named : files_seen c.deref.result.now ≡ files_named (texts c.args.names.now) = ap files_seen c.deref.ensures.value ∙ c.in-Ok.ensures in
    no_program_of (Load held (files_named (texts c.args.names.now))) loaded.0 c.in-Err-make.answer
    (subst (λ files. Load held files (Ok loaded.0)) named loaded.1.0)
    (told_of c.in-Ok-load.members loaded.0 loaded.1.1 c.in-Ok-load.ensures.absent) (c.in-Err-make.ensures.made loaded.0 loaded.1.1))

pub returns-in-Ok-load-clause-missed : goal.returns-in-Ok-load-clause-missed
returns-in-Ok-load-clause-missed g c =
    tells_link c.in-Ok-load.members c.in-Err-make.answer c.in-Ok-load.ensures.sound c.in-Ok-load.ensures.absent c.in-Err-make.ensures.made

pub returns-clause-missed : goal.returns-clause-missed
returns-clause-missed g c = loading_unlinked c.in-Err.answer c.in-Err.ensures.others
