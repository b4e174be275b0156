use Rattle.std.proofs.Common.{◌⊎◌, [], ◌∷◌, ◌∙◌, subst}
use Rattle.icn_answer.specs.Answers.{IsFault}
use Rattle.icont_units.specs.Loading.{Adds, MembersGrow, RefusesBases, texts_in}
use Rattle.icont_units.proofs.LinkedMembers.{adds_next, grows_next, refused_at, sought_passed}
use Rattle.icn_answer.proofs.ToldContent.{if_some_elim, if_some_intro}
use Rattle.icont_units.proofs.members_linked.gather_bases.Goals as goal

pub returns-in_err-gather_base-clause-sought : goal.returns-in_err-gather_base-clause-sought
returns-in_err-gather_base-clause-sought g c =
    if_some_intro (g.F.Files.state c.args.files.now).held _ (λ held e knows.
    let so = c.loop-base.invariant.sought held e knows in
    let sought = if_some_elim _ (g.F.Files.state c.loop-base.files).held held (c.loop-base.invariant.same ∙ e)
    c.in_err-gather_base.ensures.sought in
    sought_passed held c.args.members.now c.gather_base.new.members (texts_in c.args.bases.now)
    (texts_in c.gather_base.new.known.keys) c.in_err-gather_base.field-0.0 c.from_residual.result
    c.from_residual.ensures.1
    (refused_at held c.args.members.now c.loop-base.members c.args.bases.now c.loop-base.base-index
    c.base-item.result c.in_err-gather_base.field-0.0 c.loop-base-test.true c.base-item.is so.0
    (subst (λ base. IsFault c.in_err-gather_base.field-0.0
    ⊎ RefusesBases held c.loop-base.members (base ∷ []) c.in_err-gather_base.field-0.0) c.deref.ensures.value
    (sought so.1))))

pub loop-base-preserved : goal.loop-base-preserved
loop-base-preserved g c = record {
  sought = λ held e knows.
      let so = c.loop-base.invariant.sought held e knows in
      let sought = if_some_elim _ (g.F.Files.state c.loop-base.files).held held (c.loop-base.invariant.same ∙ e)
      c.in_ok-gather_base.ensures.sought in
      let next = sought so.1 in (
        adds_next held c.args.members.now c.loop-base.members c.gather_base.new.members c.args.bases.now
            c.loop-base.base-index c.base-item.result c.loop-base-test.true c.base-item.is so.0
            (subst (λ base. Adds held c.loop-base.members c.gather_base.new.members (base ∷ [])) c.deref.ensures.value next.0),
        next.1,
      );
  grows =
      grows_next (g.F.Files.state c.args.files.now).counts.absences (g.F.Files.state c.loop-base.files).counts.absences
      (g.F.Files.state c.gather_base.new.files).counts.absences c.args.members.now c.loop-base.members
      c.gather_base.new.members
      (texts_in c.args.known.now.keys) (texts_in c.loop-base.known.keys) (texts_in c.gather_base.new.known.keys)
      c.args.bases.now c.loop-base.base-index c.base-item.result c.loop-base-test.true c.base-item.is
      c.loop-base.invariant.grows
      (subst (λ base. MembersGrow (g.F.Files.state c.loop-base.files).counts.absences (g.F.Files.state c.gather_base.new.files).counts.absences
      c.loop-base.members c.gather_base.new.members (texts_in c.loop-base.known.keys)
      (texts_in c.gather_base.new.known.keys) (base ∷ [])) c.deref.ensures.value c.in_ok-gather_base.ensures.grows);
  same = c.in_ok-gather_base.ensures.reads.files ∙ c.loop-base.invariant.same;
  faults = c.in_ok-gather_base.ensures.reads.file_fault.stayed (λ is. cc) ∙ c.loop-base.invariant.faults;
  wants = c.in_ok-gather_base.ensures.reads.file_want.stayed (λ is. cc) ∙ c.loop-base.invariant.wants;
}
