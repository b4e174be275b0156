use Rattle.std.proofs.lemmas.List.{get_or_read}
use Rattle.std.specs.Prelude.{true, false}
use Rattle.icn_prune.proofs.KeptMarks.{adds_marked, adds_pushed, marked_at, marked_more}
use Rattle.icn_prune.proofs.keeping.mark.Goals as goal

pub returns-then-index : goal.returns-then-index
returns-then-index c =
    let keep = c.args.marks.now.keep.items in
    adds_marked keep c.args.marks.now.met.items c.args.number
    (marked_at keep c.args.number c.index.result.now true c.requires.there (get_or_read keep _ _ c.requires.there c.index.ensures false) c.if-index.true)

pub invariant_of-marks-2 : goal.invariant_of-marks-2
invariant_of-marks-2 c =
    let keep = c.args.marks.now.keep.items in
    record {
      marked = marked_more keep c.args.marks.now.met.items c.push.new.self.items c.args.number c.args.marks.now.marked
          (marked_at keep c.args.number c.index.result.now false c.requires.there (get_or_read keep _ _ c.requires.there c.index.ensures false)
          c.if-index.false) c.in_ok-push.ensures.items;
    }

pub returns : goal.returns
returns c = adds_pushed c.args.marks.now.keep.items c.args.marks.now.met.items c.push.new.self.items c.args.number c.in_ok-push.ensures.items
