use Rattle.std.proofs.Common.{true, false}
use Rattle.icn_heap.specs.Extents.{text_in}
use Rattle.icn_heap.specs.Heaps.{extent_of}
use Rattle.icn_vars.specs.Worlds.{setting_of}
use Rattle.icn_scanfn.specs.InSubject.{subject_of}
use Rattle.icn_scanfn.proofs.KnownPlaces.{match_fails, match_passes}
use Rattle.icn_scanfn.proofs.SubjectSteps.{behind_tested, subject_ends, subject_region}
use Rattle.icn_scanfn.proofs.in_subject.match_in_subject.Goals as goal

pub returns-then-stands-clause-row : goal.returns-then-stands-clause-row
returns-then-stands-clause-row c = λ outside locals.
    let w = c.args.w.now in
    let s = setting_of outside w locals in
    match_passes (subject_region s) s w.pair.position _ (subject_ends s c.bytes-text.result.now c.bytes-text.ensures w.sound.low w.sound.high)
    (text_in (extent_of w.heap) c.args.wanted) c.bytes-bytes.result.now c.bytes-text.result.now c.stands.result c.bytes-bytes.ensures c.bytes-text.ensures
    c.stands.ensures c.if-stands.true

pub returns-else-stands-clause-row : goal.returns-else-stands-clause-row
returns-else-stands-clause-row c = λ outside locals.
    let w = c.args.w.now in
    let s = setting_of outside w locals in
    match_fails (subject_region s) s w.pair.position _ (subject_ends s c.bytes-text.result.now c.bytes-text.ensures w.sound.low w.sound.high)
    (text_in (extent_of w.heap) c.args.wanted) c.bytes-bytes.result.now c.bytes-text.result.now c.stands.result c.bytes-bytes.ensures c.bytes-text.ensures
    c.stands.ensures c.if-stands.false

pub returns-then-stands-clause-found : goal.returns-then-stands-clause-found
returns-then-stands-clause-found c =
    let w = c.args.w.now in
    behind_tested (text_in (extent_of w.heap) c.args.wanted) c.bytes-bytes.result.now (subject_of w) c.bytes-text.result.now w.pair.position
    c.stands.result true c.bytes-bytes.ensures c.bytes-text.ensures c.stands.ensures c.if-stands.true

pub returns-else-stands-clause-found : goal.returns-else-stands-clause-found
returns-else-stands-clause-found c =
    let w = c.args.w.now in
    behind_tested (text_in (extent_of w.heap) c.args.wanted) c.bytes-bytes.result.now (subject_of w) c.bytes-text.result.now w.pair.position
    c.stands.result false c.bytes-bytes.ensures c.bytes-text.ensures c.stands.ensures c.if-stands.false
