use Rattle.std.proofs.Common.{sym, ap, ◌∙◌}
use Rattle.icn_parse.specs.PartReading.{item_read}
use Rattle.icn_parse.proofs.ParserLoops.{items_begun, items_more}
use Rattle.icn_parse.proofs.names.read_items.Goals as goal

pub loop-alloc-init : goal.loop-alloc-init
loop-alloc-init c =
    rw (c.in_ok-push.ensures.items, c.new-items.ensures.items) (items_begun c.args.tokens.now c.in_ok-first.rest.now c.in_ok-first.first c.in_ok-first.ensures)

pub loop-alloc-preserved : goal.loop-alloc-preserved
loop-alloc-preserved c = rw c.in_ok-push-2.ensures.items
    (items_more _ c.loop-alloc.items.items c.loop-alloc.rest.now c.in_ok-further.others.now c.in_ok-further.further c.loop-alloc.invariant
    (sym c.comma_next.ensures ∙ c.loop-alloc-test.true) (sym (ap item_read c.behind.ensures) ∙ c.in_ok-further.ensures))
