use Rattle.std.proofs.Common.{map, sym, ap, subst, ◌∙◌}
use Rattle.icn_tree.specs.TreeOf.{locals_of}
use Rattle.icn_parse.proofs.ParserLoops.{LocalsSo, locals_begun, locals_more, locals_shorter, map_last}
use Rattle.icn_parse.proofs.procedure.read_all_locals.Goals as goal

pub loop-kind-init : goal.loop-kind-init
loop-kind-init c = rw c.new-all.ensures.items (locals_begun c.args.tokens.now)

pub loop-kind-smaller : goal.loop-kind-smaller
loop-kind-smaller c = locals_shorter c.in-Some.kind c.loop-kind.rest.now c.in_ok-locals.others.now (locals_of c.in_ok-locals.locals) c.in_ok-locals.ensures

pub loop-kind-preserved : goal.loop-kind-preserved
loop-kind-preserved c =
    subst (λ done. LocalsSo c.args.tokens.now done c.in_ok-locals.others.now)
    (sym (ap (map locals_of) c.in_ok-push.ensures.items ∙ map_last locals_of c.loop-kind.all.items c.in_ok-locals.locals))
    (locals_more c.args.tokens.now (map locals_of c.loop-kind.all.items) c.loop-kind.rest.now c.in_ok-locals.others.now c.in-Some.kind
    (locals_of c.in_ok-locals.locals) c.loop-kind.invariant (sym c.local_kind.ensures ∙ c.in-Some.is) c.in_ok-locals.ensures)
