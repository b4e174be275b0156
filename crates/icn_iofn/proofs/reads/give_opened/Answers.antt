-- The row reads an opened file once, and gives what it read.
use Rattle.std.proofs.Common.{refl}
use Rattle.icn_heap.specs.Extents.{IsText}
use Rattle.icn_heap.specs.Heaps.{extent_of}
use Rattle.icn_value.specs.Values.{Text}
use Rattle.icn_defs.specs.Rows.{gives_value}
use Rattle.icn_value.specs.declared.item.Item.TheVariants.{Val as HeldVal}
use Rattle.icn_value.specs.declared.val.Val.TheVariants.{Text as HeldText}
use Rattle.icn_vars.specs.Outcomes.{answer_of}
use Rattle.icn_vars.specs.Stops.{halt_of}
use Rattle.icn_args.proofs.RowAnswers.{same_halt}
use Rattle.icn_vars.specs.declared.outcome.Outcome.TheVariants.{Gives}
use Rattle.icn_streams.specs.Readings.{asked_in}
use Rattle.icn_streams.proofs.NextRead.{if_some_elim}
use Rattle.icn_streams.proofs.OpenedRows.{opened_fails, opened_gives, opened_halts}
use Rattle.icn_iofn.proofs.reads.give_opened.Goals as goal

pub returns-in_err-text : goal.returns-in_err-text
returns-in_err-text g c = λ handed.
    opened_halts (asked_in c.args.ask) c.args.number (λ text. gives_value (Text text)) c.args.w.now c.read_opened.new.w (g.L.Locals.items c.args.l.now) handed
    c.read_opened.ensures.kept.locals c.read_opened.ensures.kept.items c.in_err-text.field-0.0 (answer_of c.from_residual.result)
    (same_halt (halt_of c.in_err-text.field-0.0) c.from_residual.result c.from_residual.ensures.1)
    c.in_err-text.ensures.reads c.in_err-text.ensures.stops

pub returns-in-Some : goal.returns-in-Some
returns-in-Some g c = λ handed.
    let text : IsText (extent_of c.read_opened.new.w.heap) c.in-Some.text = if_some_elim c.in_ok-text.field-0 c.in-Some.text
    (IsText (extent_of c.read_opened.new.w.heap)) c.in-Some.is c.in_ok-text.ensures.live in
    opened_gives (asked_in c.args.ask) c.args.number (λ text. gives_value (Text text)) c.args.w.now c.read_opened.new.w (g.L.Locals.items c.args.l.now) handed
    c.read_opened.ensures.kept.locals c.read_opened.ensures.kept.items c.in_ok-text.field-0 c.in-Some.text (Gives (HeldVal (HeldText c.in-Some.text)))
    c.in-Some.is
    (λ s. refl) c.in_ok-text.ensures.reads (record { live = record { live = record { live = text } } })

pub returns-in-None : goal.returns-in-None
returns-in-None g c = λ handed.
    opened_fails (asked_in c.args.ask) c.args.number (λ text. gives_value (Text text)) c.args.w.now c.read_opened.new.w (g.L.Locals.items c.args.l.now) handed
    c.read_opened.ensures.kept.locals c.read_opened.ensures.kept.items c.in_ok-text.field-0 c.in-None.is c.in_ok-text.ensures.reads
