use Rattle.std.proofs.Common.{◌∙◌, ◌+◌, ap, length, List, ℕ, pos}
use Rattle.icn_value.specs.Values.{Integer, Val}
use Rattle.icn_defs.specs.Rows.{Row, Found, suspends, thing_or_failure}
use Rattle.icn_defs.specs.Scanning.{found_from}
use Rattle.icn_heap.specs.Extents.{text_in}
use Rattle.icn_heap.specs.Heaps.{extent_of}
use Rattle.icn_vars.specs.Worlds.{setting_of}
use Rattle.icn_scanfn.specs.InSubject.{subject_of}
use Rattle.icn_scanfn.proofs.KnownPlaces.{text_found}
use Rattle.icn_scanfn.proofs.SubjectSteps.{subject_ends}
use Rattle.icn_scanfn.proofs.in_subject.find_in_subject.Goals as goal

pub returns-clause-row : goal.returns-clause-row
returns-clause-row c = λ outside locals.
    let w = c.args.w.now in
    let s = setting_of outside w locals in
    let wanted = text_in (extent_of w.heap) c.args.wanted in
    let text = c.bytes-text.result.now in
    let same = c.bytes-text.ensures in
    subject_ends s text same w.sound.low w.sound.high (λ ends. found_from wanted (subject_of w) ends.0 ends.1) s
    ∙ text_found wanted (subject_of w) c.bytes-bytes.result.now text w.pair.position (length text + 1) c.next_occurrence.result s c.bytes-bytes.ensures same
    c.next_occurrence.ensures.value
    ∙ ap (λ (t : List ℕ). thing_or_failure c.next_occurrence.result (gives_to wanted (subject_of w) t) s) same
  where
    gives_to : List ℕ → List ℕ → List ℕ → ℕ → Row
    gives_to wanted text t place = suspends (Val (Integer (pos place))) (Found wanted text place (length t + 1))
