use Rattle.icn_value.specs.Members.{members_of}
use Rattle.icn_vars.specs.Worlds.{setting_of}
use Rattle.icn_scanfn.proofs.KnownPlaces.{any_fails, any_passes}
use Rattle.icn_scanfn.proofs.SubjectSteps.{subject_ends, subject_region}
use Rattle.icn_scanfn.proofs.in_subject.any_in_subject.Goals as goal

pub returns-then-has_behind-clause-row : goal.returns-then-has_behind-clause-row
returns-then-has_behind-clause-row c = λ outside locals.
    let w = c.args.w.now in
    let s = setting_of outside w locals in
    any_passes (subject_region s) s w.pair.position _ (subject_ends s c.bytes-text.result.now c.bytes-text.ensures w.sound.low w.sound.high)
    (members_of c.args.wanted.now) c.bytes-text.result.now c.has_behind.result c.bytes-text.ensures c.has_behind.ensures.value c.if-has_behind.true

pub returns-else-has_behind-clause-row : goal.returns-else-has_behind-clause-row
returns-else-has_behind-clause-row c = λ outside locals.
    let w = c.args.w.now in
    let s = setting_of outside w locals in
    any_fails (subject_region s) s w.pair.position _ (subject_ends s c.bytes-text.result.now c.bytes-text.ensures w.sound.low w.sound.high)
    (members_of c.args.wanted.now) c.bytes-text.result.now c.has_behind.result c.bytes-text.ensures c.has_behind.ensures.value c.if-has_behind.false
