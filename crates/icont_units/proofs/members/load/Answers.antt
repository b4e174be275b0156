use Rattle.std.proofs.Common.{◌∙◌}
use Rattle.icont_units.specs.FetchedFiles.{files_seen}
use Rattle.icn_answer.proofs.ToldContent.{if_some_elim, if_some_intro}
use Rattle.icont_units.proofs.NamedMembers.{load_all, load_gathered, load_passed, load_refused}
use Rattle.icont_units.proofs.members.load.Goals as goal

pub returns-in_err-members-clause-loaded : goal.returns-in_err-members-clause-loaded
returns-in_err-members-clause-loaded g c =
    if_some_intro (g.F.Files.state c.args.files.now).held _ (λ held e.
    load_passed held (files_seen c.args.named.now) c.in_err-members.field-0.0 _ c.from_residual.ensures.1
    (load_refused held (files_seen c.args.named.now) c.in_err-members.field-0.0
    (if_some_elim _ (g.F.Files.state c.args.files.now).held held e c.in_err-members.ensures.come)))

pub returns-in_err-gather-clause-loaded : goal.returns-in_err-gather-clause-loaded
returns-in_err-gather-clause-loaded g c =
    if_some_intro (g.F.Files.state c.args.files.now).held _ (λ held e.
    let came = if_some_elim _ (g.F.Files.state c.args.files.now).held held e c.in_ok-members.ensures.come in
    let gathered = if_some_elim _ (g.F.Files.state c.load_named.new.files).held held (c.in_ok-members.ensures.reads.files ∙ e)
    c.in_err-gather.ensures.gathered in
    load_passed held (files_seen c.args.named.now) c.in_err-gather.field-0.0 _ c.from_residual-in_err-gather.ensures.1
    (load_gathered held (files_seen c.args.named.now) came.0 c.in_err-gather.field-0.0 came.1.0 (gathered came.0 came.1.1)))

pub returns-clause-loaded : goal.returns-clause-loaded
returns-clause-loaded g c =
    if_some_intro (g.F.Files.state c.args.files.now).held _ (λ held e.
    let came = if_some_elim _ (g.F.Files.state c.args.files.now).held held e c.in_ok-members.ensures.come in
    let gathered = if_some_elim _ (g.F.Files.state c.load_named.new.files).held held (c.in_ok-members.ensures.reads.files ∙ e)
    c.in_ok-gather.ensures.gathered in
    load_all held (files_seen c.args.named.now) came.0 c.gather.new.members came.1.0 (gathered came.0 came.1.1))
