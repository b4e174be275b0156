use Rattle.std.proofs.Common.{arith}
use Rattle.icn_value.specs.Members.{members_of}
use Rattle.icn_vars.specs.Worlds.{setting_of}
use Rattle.icn_scanfn.proofs.KnownPlaces.{many_fails, many_passes}
use Rattle.icn_scanfn.proofs.SubjectSteps.{subject_ends, subject_region}
use Rattle.icn_scanfn.proofs.in_subject.many_in_subject.Goals as goal

pub returns-then-count-gt0-clause-row : goal.returns-then-count-gt0-clause-row
returns-then-count-gt0-clause-row c = λ outside locals.
    let w = c.args.w.now in
    let s = setting_of outside w locals in
    many_passes (subject_region s) s w.pair.position _ (subject_ends s c.bytes-text.result.now c.bytes-text.ensures w.sound.low w.sound.high)
    (members_of c.args.wanted.now) c.bytes-text.result.now c.run_length-count.result c.bytes-text.ensures c.run_length-count.ensures.value (omega arith)

pub returns-else-count-gt0-clause-row : goal.returns-else-count-gt0-clause-row
returns-else-count-gt0-clause-row c = λ outside locals.
    let w = c.args.w.now in
    let s = setting_of outside w locals in
    many_fails (subject_region s) s w.pair.position _ (subject_ends s c.bytes-text.result.now c.bytes-text.ensures w.sound.low w.sound.high)
    (members_of c.args.wanted.now) c.bytes-text.result.now c.run_length-count.result c.bytes-text.ensures c.run_length-count.ensures.value (omega arith)
