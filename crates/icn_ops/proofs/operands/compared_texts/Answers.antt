use Rattle.std.proofs.Common.{◌∙◌, sym, ap, ℕ, List}
use Rattle.std.specs.Ordering.{nat_cmp}
use Rattle.std.specs.Cmp.Lexicographic.{slice_cmp}
use Rattle.std.specs.declared.cmp.Ordering.{Ordering}
use Rattle.icn_heap.specs.Extents.{text_in}
use Rattle.icn_heap.specs.Heaps.{extent_of}
use Rattle.icn_vars.specs.Worlds.{item_in, setting_of}
use Rattle.icn_args.proofs.RowAnswers.{first_stops}
use Rattle.icn_ops.specs.Operands.{two_texts, ordered_text_in}
use Rattle.icn_ops.proofs.operands.compared_texts.Goals as goal

pub returns-in_err-s-clause-found : goal.returns-in_err-s-clause-found
returns-in_err-s-clause-found g c = λ outside.
    first_stops (extent_of c.two_texts.new.w.heap) (two_texts (item_in (extent_of c.args.w.now.heap) c.args.x) (item_in (extent_of c.args.w.now.heap) c.args.y))
    (λ (two : List ℕ × List ℕ) next. next (slice_cmp nat_cmp two.0 two.1, two.1)) (setting_of outside c.args.w.now (g.L.Locals.items c.args.l.now))
    (setting_of outside c.two_texts.new.w (g.L.Locals.items c.args.l.now)) (ordered_text_in (extent_of c.two_texts.new.w.heap)) c.in_err-s.field-0.0
    c.from_residual.result c.from_residual.ensures.1 (c.in_err-s.ensures.found outside)

pub returns-clause-found : goal.returns-clause-found
returns-clause-found g c = λ outside.
    λ next. c.in_ok-s.ensures.found outside (λ two. next (slice_cmp nat_cmp two.0 two.1, two.1))
    ∙ ap (λ (order : Ordering). next (order, (text_in (extent_of c.two_texts.new.w.heap) c.in_ok-s.t)) (setting_of outside c.two_texts.new.w
    (g.L.Locals.items c.args.l.now))) (sym (c.cmp.ensures ∙ (ap (λ bytes. slice_cmp nat_cmp bytes c.bytes-2.result.now) c.bytes.ensures
    ∙ ap (slice_cmp nat_cmp (text_in (extent_of c.two_texts.new.w.heap) c.in_ok-s.s)) c.bytes-2.ensures)))
