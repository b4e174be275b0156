-- The row reads an opened file once, and goes on with the line.
use Rattle.std.proofs.Common.{refl}
use Rattle.icn_heap.specs.Extents.{IsText}
use Rattle.icn_heap.specs.Heaps.{extent_of}
use Rattle.icn_value.specs.Store.{ALine}
use Rattle.icn_value.specs.Values.{Opened, Text, Val}
use Rattle.icn_defs.specs.Rows.{FileLines, suspends}
use Rattle.icn_value.specs.declared.item.Item.TheVariants.{Val as HeldVal}
use Rattle.icn_value.specs.declared.val.Val.TheVariants.{Text as HeldText}
use Rattle.icn_value.specs.declared.val.File.TheVariants.{Opened as HeldOpened}
use Rattle.icn_value.specs.declared.residual.Residual.TheVariants.{FileLines as HeldFileLines}
use Rattle.icn_vars.specs.declared.outcome.Outcome.TheVariants.{Suspends}
use Rattle.icn_streams.proofs.NextRead.{if_some_elim}
use Rattle.icn_streams.proofs.OpenedRows.{opened_fails, opened_gives, opened_halts}
use Rattle.icn_streams.proofs.lines.opened_lines.Goals as goal

pub returns-in_err-line : goal.returns-in_err-line
returns-in_err-line g c = λ handed.
    opened_halts ALine c.args.number (λ line. suspends (Val (Text line)) (FileLines (Opened c.args.number))) c.args.w.now c.read_opened.new.w
    (g.L.Locals.items c.args.l.now) handed
    c.read_opened.ensures.kept.locals c.read_opened.ensures.kept.items c.in_err-line.field-0.0 c.from_residual.result c.from_residual.ensures.1
    c.in_err-line.ensures.reads c.in_err-line.ensures.stops

pub returns-in-Some : goal.returns-in-Some
returns-in-Some g c = λ handed.
    let text : IsText (extent_of c.read_opened.new.w.heap) c.in-Some.line = if_some_elim c.in_ok-line.field-0 c.in-Some.line
    (IsText (extent_of c.read_opened.new.w.heap)) c.in-Some.is c.in_ok-line.ensures.live in
    opened_gives ALine c.args.number (λ line. suspends (Val (Text line)) (FileLines (Opened c.args.number))) c.args.w.now c.read_opened.new.w
    (g.L.Locals.items c.args.l.now) handed
    c.read_opened.ensures.kept.locals c.read_opened.ensures.kept.items c.in_ok-line.field-0 c.in-Some.line
    (Suspends (HeldVal (HeldText c.in-Some.line)) (HeldFileLines (HeldOpened c.args.number))) c.in-Some.is
    (λ s. refl) c.in_ok-line.ensures.reads
    (record { live = (record { live = record { live = text } }, record { live = c.read_opened.ensures.kept.items.extent.live _ c.requires.file }) })

pub returns-in-None : goal.returns-in-None
returns-in-None g c = λ handed.
    opened_fails ALine c.args.number (λ line. suspends (Val (Text line)) (FileLines (Opened c.args.number))) c.args.w.now c.read_opened.new.w
    (g.L.Locals.items c.args.l.now) handed
    c.read_opened.ensures.kept.locals c.read_opened.ensures.kept.items c.in_ok-line.field-0 c.in-None.is c.in_ok-line.ensures.reads
