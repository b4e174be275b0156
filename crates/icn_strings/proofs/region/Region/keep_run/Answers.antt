use Rattle.std.proofs.Common.{◌+◌, ◌++◌, take, refl, arith}
use Rattle.icn_strings.specs.Parts.{RegionPart, part}
use Rattle.icn_strings.proofs.ClosedParts.{on_ok, with_behind}
use Rattle.icn_strings.proofs.GatheredRuns.{put_again, put_behind, put_nowhere}
use Rattle.icn_strings.proofs.region.Region.keep_run.Goals as goal

pub returns-then-run-eq0 : goal.returns-then-run-eq0
returns-then-run-eq0 c = put_nowhere c.args.self.now _ c.args.run c.if-run-eq0.true

pub overflow_add-kept : goal.overflow_add-kept
overflow_add-kept c = let small = c.stays.ensures.small c.if-stays.true in omega (arith, small)

pub returns-then-stays : goal.returns-then-stays
returns-then-stays c =
    let stays = c.stays.ensures in
    put_again c.args.self.now c.args.kept.now.same c.args.kept.now.fresh c.args.run c.requires (omega (arith, c.if-run-eq0.false))
    (stays.none c.if-stays.true) (stays.within c.if-stays.true) (stays.whole c.if-stays.true)

pub returns : goal.returns
returns c =
    let front = take c.args.kept.now.same c.args.self.now.closed in
    let new : RegionPart = part c.args.run.start c.bytes.result.now in
    on_ok c.push.result
    (λ added. put_behind c.args.self.now (front ++ c.args.kept.now.fresh) _ c.args.run new c.requires (omega (arith, c.if-run-eq0.false)) refl
    c.bytes.ensures (with_behind front c.args.kept.now.fresh _ (front ++ c.args.kept.now.fresh) new refl added))
    c.push.ensures
