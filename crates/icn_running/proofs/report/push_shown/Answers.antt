use Rattle.std.proofs.Common.{◌≡◌, OnOk, subst, codes}
use Rattle.icn_code.specs.CodeTables.{tables_of}
use Rattle.icn_defs.specs.Images.{image}
use Rattle.icn_heap.specs.Extents.{value_in}
use Rattle.icn_heap.specs.Heaps.{extent_of, heap_of}
use Rattle.icn_run.specs.Step.{all_names}
use Rattle.icn_running.proofs.PlainImages.{between}
use Rattle.icn_running.proofs.report.push_shown.Goals as goal

pub returns : goal.returns
returns c = subst (λ items. OnOk c.push-2.result (c.push-2.new.out.items ≡ items))
    (between c.args.out.now.items (codes "offending value: ")
    (image (all_names (tables_of c.args.code.now)) (heap_of c.args.heap.now) (value_in (extent_of c.args.heap.now) c.args.val)) (codes "\n")
    c.push.new.out.items c.push_image.new.out.items c.in_ok-push.ensures c.in_ok-push_image.ensures)
    c.push-2.ensures
