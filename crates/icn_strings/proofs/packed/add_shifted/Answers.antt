use Rattle.std.proofs.Common.{◌∙◌, ◌+◌, ◌++◌, List, map, sym, ap, arith, append-nil}
use Rattle.std.proofs.lemmas.List.{take_all}
use Rattle.icn_strings.specs.declared.packed.PackedRun.{PackedRun}
use Rattle.icn_strings.specs.PackedRuns.{shifted}
use Rattle.icn_strings.proofs.PackedRows.{added_more}
use Rattle.icn_strings.proofs.packed.add_shifted.Goals as goal

pub loop-run-init : goal.loop-run-init
loop-run-init c = record { items = sym (append-nil c.args.runs.now.items); len = omega arith; room = c.requires.room }

pub overflow_add-further : goal.overflow_add-further
overflow_add-further c =
    let none : PackedRun = record { first = 0; at = 0; len = 0 } in
    let fits = c.requires.fits c.loop-run.run-index none c.loop-run-test.true in
    omega (arith, fits)

pub push_reserved-requires : goal.push_reserved-requires
push_reserved-requires c = omega (arith, c.loop-run.invariant.len, c.loop-run.invariant.room, c.loop-run-test.true)

pub loop-run-preserved : goal.loop-run-preserved
loop-run-preserved c =
    let so_far = c.loop-run.invariant in
    record {
      items =
          added_more c.args.runs.now.items c.loop-run.runs.items c.push_reserved.new.self.items c.args.fresh.now c.args.at c.loop-run.run-index
          _ c.loop-run-test.true so_far.items c.push_reserved.ensures.items;
      len = omega (arith, so_far.len, c.push_reserved.ensures.len);
      room = omega (arith, so_far.room, c.push_reserved.ensures.capacity);
    }

pub returns : goal.returns
returns c =
    c.loop-run.invariant.items
    ∙ ap (λ (runs : List PackedRun). c.args.runs.now.items ++ map (shifted c.args.at) runs)
    (take_all c.loop-run.run-index c.args.fresh.now c.loop-run-test.false)
