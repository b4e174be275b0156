use Rattle.std.proofs.Common.{[], ◌+◌, ◌≤◌, ◌<◌, length, ap, arith, refl, subst, sym, ◌∙◌}
use Rattle.icn_link.specs.FirstMentions.{with_texts}
use Rattle.icn_link.specs.LinkFaults.{unit_names}
use Rattle.icn_link.specs.Units.{units_seen}
use Rattle.icont_units.specs.Loading.{MembersGrow, texts_in}
use Rattle.icont_units.specs.Units.{IsAbsent}
use Rattle.icont_units.proofs.KnownBases.{knows_units}
use Rattle.icont_units.proofs.LinkedMembers.{are_sought, gathered_all, gathered_more, gathered_none, gathered_passed, gathered_refused, grown_more, grows_none, held_end, held_small}
use Rattle.icn_answer.proofs.ToldContent.{if_some_elim, if_some_intro}
use Rattle.icont_units.proofs.members_linked.gather.Goals as goal

pub loop-place-init : goal.loop-place-init
loop-place-init g c =
    let first = c.in-Ok.ensures ∙ ap (λ units. with_texts [] (unit_names (units_seen units))) c.deref.ensures.value in
    record {
      gathered = λ held e. (
        gathered_none held c.args.members.now,
        knows_units (IsAbsent held)
            (units_seen c.args.members.now.units.items) (texts_in c.in-Ok.known.keys) first,
      );
      grows =
          subst (λ known. MembersGrow (g.F.Files.state c.args.files.now).counts.absences (g.F.Files.state c.args.files.now).counts.absences
          c.args.members.now c.args.members.now
          (with_texts [] (unit_names (units_seen c.args.members.now.units.items))) known []) (sym first)
          (grows_none (g.F.Files.state c.args.files.now).counts.absences c.args.members.now
          (with_texts [] (unit_names (units_seen c.args.members.now.units.items))));
      same = refl;
      faults = refl;
      wants = refl;
    }

pub returns-in_err-gather_unit-clause-gathered : goal.returns-in_err-gather_unit-clause-gathered
returns-in_err-gather_unit-clause-gathered g c =
    if_some_intro (g.F.Files.state c.args.files.now).held _ (λ held e before s.
    let so = c.loop-place.invariant.gathered held e in
    let sought = if_some_elim _ (g.F.Files.state c.loop-place.files).held held (c.loop-place.invariant.same ∙ e)
    c.in_err-gather_unit.ensures.sought in
    let small : c.loop-place.place < length c.loop-place.members.units.items = omega
    (arith, c.loop-place-test.true, c.len.ensures, c.loop-place.members.units.ok.0) in
    gathered_passed held before _ c.in_err-gather_unit.field-0.0 _ c.from_residual.ensures.1
    (gathered_refused held c.args.members.now c.loop-place.members c.loop-place.place before
    c.in_err-gather_unit.field-0.0 (held_small c.loop-place.members.units.items c.loop-place.place small) so.0
    (sought so.1) s))

pub loop-place-preserved : goal.loop-place-preserved
loop-place-preserved g c =
    let small : c.loop-place.place < length c.loop-place.members.units.items = omega
    (arith, c.loop-place-test.true, c.len.ensures, c.loop-place.members.units.ok.0) in
    let seen = held_small c.loop-place.members.units.items c.loop-place.place small in
    record {
      gathered = λ held e.
          let so = c.loop-place.invariant.gathered held e in
          let sought = if_some_elim _ (g.F.Files.state c.loop-place.files).held held (c.loop-place.invariant.same ∙ e)
          c.in_ok-gather_unit.ensures.sought in
          let next = sought so.1 in (
            gathered_more held c.args.members.now c.loop-place.members c.gather_unit.new.members c.loop-place.place
                (c.loop-place.place + 1) (omega arith) seen so.0 next.0,
            next.1,
          );
      grows =
          grown_more (g.F.Files.state c.args.files.now).counts.absences (g.F.Files.state c.loop-place.files).counts.absences
          (g.F.Files.state c.gather_unit.new.files).counts.absences c.args.members.now c.loop-place.members
          c.gather_unit.new.members
          (with_texts [] (unit_names (units_seen c.args.members.now.units.items)))
          (texts_in c.loop-place.known.keys) (texts_in c.gather_unit.new.known.keys) c.loop-place.place
          (c.loop-place.place + 1) (omega arith)
          seen c.loop-place.invariant.grows c.in_ok-gather_unit.ensures.grows;
      same = c.in_ok-gather_unit.ensures.reads.files ∙ c.loop-place.invariant.same;
      faults = c.in_ok-gather_unit.ensures.reads.file_fault.stayed (λ is. cc) ∙ c.loop-place.invariant.faults;
      wants = c.in_ok-gather_unit.ensures.reads.file_want.stayed (λ is. cc) ∙ c.loop-place.invariant.wants;
    }

pub returns-clause-gathered : goal.returns-clause-gathered
returns-clause-gathered g c =
    if_some_intro (g.F.Files.state c.args.files.now).held _ (λ held e before s.
    let so = c.loop-place.invariant.gathered held e in
    let end : length c.loop-place.members.units.items ≤ c.loop-place.place = omega
    (arith, c.loop-place-test.false, c.len.ensures, c.loop-place.members.units.ok.0) in
    gathered_all held c.args.members.now c.loop-place.members c.loop-place.place before
    (held_end c.loop-place.members.units.items c.loop-place.place end) so.0 s)

pub returns-clause-absent : goal.returns-clause-absent
returns-clause-absent g c =
    let end : length c.loop-place.members.units.items ≤ c.loop-place.place = omega
    (arith, c.loop-place-test.false, c.len.ensures, c.loop-place.members.units.ok.0) in
    are_sought (g.F.Files.state c.args.files.now).counts.absences (g.F.Files.state c.loop-place.files).counts.absences c.args.members.now
    c.loop-place.members (with_texts [] (unit_names (units_seen c.args.members.now.units.items)))
    (texts_in c.loop-place.known.keys) c.loop-place.place
    (held_end c.loop-place.members.units.items c.loop-place.place end) refl c.loop-place.invariant.grows
