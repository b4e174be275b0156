use Rattle.std.proofs.Common.{OnOk, ap, arith, subst, ◌∙◌}
use Rattle.icont_units.specs.Loading.{MembersGrow, IsSought, texts_in}
use Rattle.icont_units.proofs.LinkedMembers.{unit_links}
use Rattle.icn_answer.proofs.ToldContent.{if_some_elim, if_some_intro}
use Rattle.icont_units.proofs.members_linked.gather_unit.Goals as goal

pub returns-clause-sought : goal.returns-clause-sought
returns-clause-sought g c =
    if_some_intro (g.F.Files.state c.args.files.now).held _ (λ held e knows.
    let sought = if_some_elim _ (g.F.Files.state c.args.files.now).held held e c.gather_bases.ensures.sought in
    subst (λ bases. IsSought held c.args.members.now c.gather_bases.new.members bases
    (texts_in c.gather_bases.new.known.keys) c.gather_bases.result)
    (ap texts_in c.deref-2.ensures.value
    ∙ unit_links c.args.members.now.units.items c.args.place c.index.result.now c.deref.result.now _
    (omega (arith, c.requires, c.args.members.now.units.ok.0)) c.index.ensures c.deref.ensures.value
    c.in-Ok.ensures)
    (sought knows))

pub returns-clause-grows : goal.returns-clause-grows
returns-clause-grows g c =
    subst (λ bases. OnOk c.gather_bases.result (MembersGrow (g.F.Files.state c.args.files.now).counts.absences
    (g.F.Files.state c.gather_bases.new.files).counts.absences c.args.members.now c.gather_bases.new.members
    (texts_in c.args.known.now.keys) (texts_in c.gather_bases.new.known.keys) bases))
    (ap texts_in c.deref-2.ensures.value
    ∙ unit_links c.args.members.now.units.items c.args.place c.index.result.now c.deref.result.now _
    (omega (arith, c.requires, c.args.members.now.units.ok.0)) c.index.ensures c.deref.ensures.value
    c.in-Ok.ensures)
    c.gather_bases.ensures.grows
