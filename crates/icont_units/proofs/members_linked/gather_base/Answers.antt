use Rattle.std.proofs.Common.{◌∙◌, sym}
use Rattle.icont_units.specs.Loading.{texts_in}
use Rattle.icont_units.proofs.KnownBases.{not_false}
use Rattle.icont_units.proofs.LinkedMembers.{met_sought}
use Rattle.icn_answer.proofs.ToldContent.{if_some_intro}
use Rattle.icont_units.proofs.members_linked.gather_base.Goals as goal

pub returns-in-Ok-false-clause-sought : goal.returns-in-Ok-false-clause-sought
returns-in-Ok-false-clause-sought g c =
    if_some_intro (g.F.Files.state c.args.files.now).held _ (λ held e knows.
    met_sought held c.args.members.now c.args.base.now (texts_in c.args.known.now.keys) (texts_in c.enter.new.known.keys)
    (not_false _ (sym c.in-Ok-false.field-0-test ∙ c.in-Ok-false.ensures.new)) c.in-Ok-false.ensures.known knows)
