use Rattle.std.proofs.Common.{◌∙◌, ◌+◌, ap, length, List, ℕ, pos}
use Rattle.icn_value.specs.Members.{members_of}
use Rattle.icn_value.specs.Values.{Integer, Val}
use Rattle.icn_defs.specs.Rows.{Row, Among, suspends, thing_or_failure}
use Rattle.icn_defs.specs.Scanning.{among_from}
use Rattle.icn_vars.specs.Worlds.{setting_of}
use Rattle.icn_scanfn.specs.InSubject.{subject_of}
use Rattle.icn_scanfn.proofs.KnownPlaces.{member_found}
use Rattle.icn_scanfn.proofs.SubjectSteps.{subject_ends}
use Rattle.icn_scanfn.proofs.in_subject.upto_in_subject.Goals as goal

pub returns-clause-row : goal.returns-clause-row
returns-clause-row c = λ outside locals.
    let w = c.args.w.now in
    let s = setting_of outside w locals in
    let wanted = members_of c.args.wanted.now in
    let text = c.bytes-text.result.now in
    let same = c.bytes-text.ensures in
    subject_ends s text same w.sound.low w.sound.high (λ ends. among_from wanted (subject_of w) ends.0 ends.1) s
    ∙ member_found wanted (subject_of w) text w.pair.position (length text + 1) c.next_member.result s same c.next_member.ensures.value
    ∙ ap (λ (t : List ℕ). thing_or_failure c.next_member.result (gives_to wanted (subject_of w) t) s) same
  where
    gives_to : List ℕ → List ℕ → List ℕ → ℕ → Row
    gives_to wanted text t place = suspends (Val (Integer (pos place))) (Among wanted text place (length t + 1))
