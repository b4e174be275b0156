-- The row reads once, and goes on with what it read.
use Rattle.std.proofs.Common.{refl}
use Rattle.icn_heap.specs.Extents.{IsText}
use Rattle.icn_heap.specs.Heaps.{extent_of}
use Rattle.icn_streams.proofs.NextRead.{if_some_elim}
use Rattle.icn_value.specs.Store.{ALine}
use Rattle.icn_value.specs.Values.{Input, Text, Val}
use Rattle.icn_defs.specs.Rows.{FileLines, suspends}
use Rattle.icn_value.specs.declared.item.Item.TheVariants.{Val as HeldVal}
use Rattle.icn_value.specs.declared.val.Val.TheVariants.{Text as HeldText}
use Rattle.icn_value.specs.declared.val.File.TheVariants.{Input as HeldInput}
use Rattle.icn_value.specs.declared.residual.Residual.TheVariants.{FileLines as HeldFileLines}
use Rattle.icn_vars.specs.declared.outcome.Outcome.TheVariants.{Suspends}
use Rattle.icn_streams.proofs.ReadRows.{read_fails, read_gives, read_halts}
use Rattle.icn_streams.proofs.lines.next_line.Goals as goal

pub returns-in_err-line : goal.returns-in_err-line
returns-in_err-line g c = λ files output errors.
    read_halts ALine (λ line. suspends (Val (Text line)) (FileLines Input)) (record { outside = λ text s. refl }) c.args.w.now c.read_text.new.w
    (g.L.Locals.items c.args.l.now) files
    (g.I.Source.left c.args.input.now) (g.I.Source.left c.read_text.new.input) (g.I.Source.counts c.args.input.now)
    (g.I.Source.counts c.read_text.new.input) c.read_text.ensures.called output errors
    c.in_err-line.field-0.0 c.from_residual.result c.from_residual.ensures.1 (λ was told. c.in_err-line.ensures.reads was files output errors told)
    (c.in_err-line.ensures.some files output errors) c.in_err-line.ensures.cause
    c.in_err-line.ensures.halts c.read_text.ensures.kept.locals c.read_text.ensures.kept.items

pub returns-in-Some : goal.returns-in-Some
returns-in-Some g c = λ files output errors.
    let text : IsText (extent_of c.read_text.new.w.heap) c.in-Some.line = if_some_elim c.in_ok-line.field-0 c.in-Some.line
    (IsText (extent_of c.read_text.new.w.heap)) c.in-Some.is c.in_ok-line.ensures.live in
    read_gives ALine (λ line. suspends (Val (Text line)) (FileLines Input)) (record { outside = λ text s. refl }) c.args.w.now c.read_text.new.w
    (g.L.Locals.items c.args.l.now) files
    (g.I.Source.left c.args.input.now) (g.I.Source.left c.read_text.new.input) (g.I.Source.counts c.args.input.now)
    (g.I.Source.counts c.read_text.new.input) c.read_text.ensures.called output errors
    c.in_ok-line.field-0 c.in-Some.line (Suspends (HeldVal (HeldText c.in-Some.line)) (HeldFileLines HeldInput)) c.in-Some.is (λ s. refl)
    (λ was told. c.in_ok-line.ensures.reads was files output errors told) (c.in_ok-line.ensures.some files output errors)
    c.in_ok-line.ensures.cause
    (record { live = (record { live = record { live = text } }, record { live = record { live = tt } }) }) c.read_text.ensures.kept.locals c.read_text.ensures.kept.items

pub returns-in-None : goal.returns-in-None
returns-in-None g c = λ files output errors.
    read_fails ALine (λ line. suspends (Val (Text line)) (FileLines Input)) (record { outside = λ text s. refl }) c.args.w.now c.read_text.new.w
    (g.L.Locals.items c.args.l.now) files
    (g.I.Source.left c.args.input.now) (g.I.Source.left c.read_text.new.input) (g.I.Source.counts c.args.input.now)
    (g.I.Source.counts c.read_text.new.input) c.read_text.ensures.called output errors
    c.in_ok-line.field-0 c.in-None.is (λ was told. c.in_ok-line.ensures.reads was files output errors told)
    (c.in_ok-line.ensures.some files output errors) c.in_ok-line.ensures.cause c.read_text.ensures.kept.locals c.read_text.ensures.kept.items
