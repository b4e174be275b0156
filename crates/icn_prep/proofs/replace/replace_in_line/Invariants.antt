use Rattle.icn_prep.specs.TextViews.{texts_of}
use Rattle.icn_prep.proofs.Replacement.{ReadSo, work_left}
use Rattle.icn_prep.proofs.replace.replace_in_line.Given as goal

abbrev pub invariant-loop-first : goal.invariant-loop-first
invariant-loop-first l = ReadSo (texts_of l.texts).count (texts_of l.texts).text_of l.fn.literal l.line l.most l.given.items l.outer.entries l.state l.rest

abbrev pub decreases-loop-first : goal.decreases-loop-first
decreases-loop-first l = work_left (texts_of l.texts).count l.outer.entries l.rest
