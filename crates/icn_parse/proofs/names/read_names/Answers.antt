use Rattle.std.proofs.Common.{sym, ap, ◌∙◌}
use Rattle.icn_parse.specs.FileReading.{name_read}
use Rattle.icn_parse.proofs.ParserLoops.{names_begun, names_more}
use Rattle.icn_parse.proofs.names.read_names.Goals as goal

pub loop-alloc-init : goal.loop-alloc-init
loop-alloc-init c =
    rw (c.in_ok-push.ensures.items, c.new-names.ensures.items) (names_begun c.args.tokens.now c.in_ok-first.rest.now c.in_ok-first.first c.in_ok-first.ensures)

pub loop-alloc-preserved : goal.loop-alloc-preserved
loop-alloc-preserved c = rw c.in_ok-push-2.ensures.items
    (names_more _ c.loop-alloc.names.items c.loop-alloc.rest.now c.in_ok-further.others.now c.in_ok-further.further c.loop-alloc.invariant
    (sym c.comma_next.ensures ∙ c.loop-alloc-test.true) (sym (ap name_read c.behind.ensures) ∙ c.in_ok-further.ensures))
