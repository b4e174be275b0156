use Rattle.std.proofs.Common.{[], ◌∷◌, ◌++◌, Ok, subst}
use Rattle.icn_host.specs.Counts.{HasCause}
use Rattle.icont_units.specs.FetchedFiles.{IsLinkedUnit, IsLost, IsUnitOfSome}
use Rattle.icont_units.proofs.LinkedMembers.{fault_sought, none_grows, none_sought, sought_passed, unit_grows, unit_sought}
use Rattle.icn_answer.proofs.ToldContent.{if_some_elim, if_some_intro}
use Rattle.icont_units.proofs.members_linked.add_linked.Goals as goal

pub returns-in_err-unit-clause-sought : goal.returns-in_err-unit-clause-sought
returns-in_err-unit-clause-sought g c =
    if_some_intro (g.F.Files.state c.args.files.now).held _ (λ held e known new knows.
    sought_passed held c.args.members.now c.args.members.now (c.args.base.now ∷ []) (known ++ c.args.base.now ∷ [])
    c.in_err-unit.field-0.0 c.from_residual.result c.from_residual.ensures.1
    (fault_sought held c.args.members.now c.args.base.now known c.in_err-unit.field-0.0
    (if_some_elim _ (g.F.Files.state c.args.files.now).held held e c.in_err-unit.ensures.links) new knows))

pub returns-in-Some-clause-sought : goal.returns-in-Some-clause-sought
returns-in-Some-clause-sought g c =
    if_some_intro (g.F.Files.state c.args.files.now).held _ (λ held e known new knows.
    unit_sought held c.args.members.now c.push_ucode.new.members c.args.base.now known c.in-Some.unit c.push_ucode.result
    (subst (λ found. IsLinkedUnit held c.args.base.now (Ok found)) c.in-Some.is
    (if_some_elim _ (g.F.Files.state c.args.files.now).held held e c.in_ok-unit.ensures.links))
    (subst (λ found. IsUnitOfSome c.args.base.now (Ok found)) c.in-Some.is c.in_ok-unit.ensures.name)
    c.push_ucode.ensures.added c.push_ucode.ensures.others new knows)

pub returns-in-Some-clause-grows : goal.returns-in-Some-clause-grows
returns-in-Some-clause-grows g c known new =
    unit_grows (g.F.Files.state c.args.files.now).counts.absences (g.F.Files.state c.linked_unit.new.files).counts.absences c.args.members.now
    c.push_ucode.new.members c.args.base.now known c.in-Some.unit c.push_ucode.result
    c.in_ok-unit.ensures.reads.absence.later (subst (λ found. IsUnitOfSome c.args.base.now (Ok found)) c.in-Some.is
    c.in_ok-unit.ensures.name) c.push_ucode.ensures.added new

pub returns-in-None-clause-sought : goal.returns-in-None-clause-sought
returns-in-None-clause-sought g c =
    if_some_intro (g.F.Files.state c.args.files.now).held _ (λ held e known new knows.
    none_sought held c.args.members.now c.args.base.now known
    (subst (λ found. IsLinkedUnit held c.args.base.now (Ok found)) c.in-None.is
    (if_some_elim _ (g.F.Files.state c.args.files.now).held held e c.in_ok-unit.ensures.links)) knows)

pub returns-in-None-clause-grows : goal.returns-in-None-clause-grows
returns-in-None-clause-grows g c known new =
    none_grows (g.F.Files.state c.args.files.now).counts.absences (g.F.Files.state c.linked_unit.new.files).counts.absences c.args.members.now
    c.args.base.now known
    (subst (λ found. HasCause (g.F.Files.state c.args.files.now).counts.absences (g.F.Files.state c.linked_unit.new.files).counts.absences
    (IsLost c.args.base.now (Ok found))) c.in-None.is c.in_ok-unit.ensures.reads.absence) new
