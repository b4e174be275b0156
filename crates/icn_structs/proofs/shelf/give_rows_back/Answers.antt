use Rattle.std.proofs.Common.{◌<◌, ◌≤◌, ◌∙◌, refl, length, length-set, arith}
use Rattle.icn_structs.specs.Shelves.{view_given}
use Rattle.icn_structs.proofs.PlacedSteps.{all_changed, one_more_changed}
use Rattle.icn_structs.proofs.shelf.give_rows_back.Goals as goal

pub loop-i-init : goal.loop-i-init
loop-i-init g c = record { are = refl; long = refl }

pub loop-i-preserved : goal.loop-i-preserved
loop-i-preserved g c =
    let before = c.args.rows.now.items in
    let within : c.loop-i.i < length before = omega (arith, c.loop-i-test.true, c.len-i-end.ensures, c.args.rows.now.ok) in
    record {
      are = one_more_changed view_given before c.loop-i.rows.items c.loop-i.i c.index_mut.result.now c.give_back.new.self within c.loop-i.invariant.are
          c.index_mut.ensures.value c.give_back.ensures;
      long = length-set c.loop-i.rows.items c.loop-i.i _ ∙ c.loop-i.invariant.long;
    }

pub returns : goal.returns
returns g c =
    let before = c.args.rows.now.items in
    let all : length before ≤ c.loop-i.i = omega (arith, c.loop-i-test.false, c.len-i-end.ensures, c.args.rows.now.ok) in
    c.loop-i.invariant.are ∙ all_changed view_given before c.loop-i.i all
