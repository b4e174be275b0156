-- The row reads once, and gives what it read.
use Rattle.std.proofs.Common.{refl}
use Rattle.icn_heap.specs.Extents.{IsText}
use Rattle.icn_heap.specs.Heaps.{extent_of}
use Rattle.icn_value.specs.Values.{Text}
use Rattle.icn_defs.specs.Rows.{gives_value}
use Rattle.icn_value.specs.declared.item.Item.TheVariants.{Val as HeldVal}
use Rattle.icn_value.specs.declared.val.Val.TheVariants.{Text as HeldText}
use Rattle.icn_vars.specs.Outcomes.{answer_of}
use Rattle.icn_args.proofs.RowAnswers.{same_halt}
use Rattle.icn_vars.specs.declared.outcome.Outcome.TheVariants.{Gives}
use Rattle.icn_streams.specs.Readings.{asked_in}
use Rattle.icn_streams.proofs.NextRead.{if_some_elim}
use Rattle.icn_streams.proofs.ReadRows.{read_fails, read_gives, read_halts}
use Rattle.icn_iofn.proofs.reads.give_text.Goals as goal

pub returns-in_err-text : goal.returns-in_err-text
returns-in_err-text g c = λ files output errors.
    read_halts (asked_in c.args.ask) (λ text. gives_value (Text text)) (record { outside = λ text s. refl }) c.args.w.now c.read_text.new.w
    (g.L.Locals.items c.args.l.now) files
    (g.I.Source.left c.args.input.now) (g.I.Source.left c.read_text.new.input) (g.I.Source.counts c.args.input.now)
    (g.I.Source.counts c.read_text.new.input) c.read_text.ensures.called output errors
    c.in_err-text.field-0.0 (answer_of c.from_residual.result) (same_halt c.in_err-text.field-0.0 c.from_residual.result c.from_residual.ensures.1)
    (λ was told. c.in_err-text.ensures.reads was files output errors told)
    (c.in_err-text.ensures.some files output errors) c.in_err-text.ensures.cause
    c.in_err-text.ensures.halts c.read_text.ensures.kept.locals c.read_text.ensures.kept.items

pub returns-in-Some : goal.returns-in-Some
returns-in-Some g c = λ files output errors.
    let text : IsText (extent_of c.read_text.new.w.heap) c.in-Some.text = if_some_elim c.in_ok-text.field-0 c.in-Some.text
    (IsText (extent_of c.read_text.new.w.heap)) c.in-Some.is c.in_ok-text.ensures.live in
    read_gives (asked_in c.args.ask) (λ text. gives_value (Text text)) (record { outside = λ text s. refl }) c.args.w.now c.read_text.new.w
    (g.L.Locals.items c.args.l.now) files
    (g.I.Source.left c.args.input.now) (g.I.Source.left c.read_text.new.input) (g.I.Source.counts c.args.input.now)
    (g.I.Source.counts c.read_text.new.input) c.read_text.ensures.called output errors
    c.in_ok-text.field-0 c.in-Some.text (Gives (HeldVal (HeldText c.in-Some.text))) c.in-Some.is (λ s. refl)
    (λ was told. c.in_ok-text.ensures.reads was files output errors told) (c.in_ok-text.ensures.some files output errors)
    c.in_ok-text.ensures.cause (record { live = record { live = record { live = text } } }) c.read_text.ensures.kept.locals c.read_text.ensures.kept.items

pub returns-in-None : goal.returns-in-None
returns-in-None g c = λ files output errors.
    read_fails (asked_in c.args.ask) (λ text. gives_value (Text text)) (record { outside = λ text s. refl }) c.args.w.now c.read_text.new.w
    (g.L.Locals.items c.args.l.now) files
    (g.I.Source.left c.args.input.now) (g.I.Source.left c.read_text.new.input) (g.I.Source.counts c.args.input.now)
    (g.I.Source.counts c.read_text.new.input) c.read_text.ensures.called output errors
    c.in_ok-text.field-0 c.in-None.is (λ was told. c.in_ok-text.ensures.reads was files output errors told)
    (c.in_ok-text.ensures.some files output errors) c.in_ok-text.ensures.cause c.read_text.ensures.kept.locals c.read_text.ensures.kept.items
