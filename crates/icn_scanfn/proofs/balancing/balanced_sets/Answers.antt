use Rattle.std.proofs.Common.{map}
use Rattle.icn_value.specs.Members.{members_of}
use Rattle.icn_heap.specs.Extents.{value_in}
use Rattle.icn_heap.specs.Heaps.{extent_of}
use Rattle.icn_scanfn.specs.Searches.{sets_of}
use Rattle.icn_scanfn.proofs.BalancedSets.{all_given, closing_given, no_closing, no_opening, no_wanted, opening_given, sets_found}
use Rattle.icn_scanfn.proofs.balancing.balanced_sets.Goals as goal

pub returns-in_err-wanted-clause-found : goal.returns-in_err-wanted-clause-found
returns-in_err-wanted-clause-found c = λ setting.
    let all = extent_of c.args.heap.now in
    let args = map (value_in all) c.args.args.now in
    no_wanted args (value_in all c.or_all_bytes.result) (all_given args (value_in all c.arg.result) (value_in all c.or_all_bytes.result)
    (c.or_all_bytes.ensures.value all) (c.arg.ensures.value all)) all setting sets_of c.in_err-wanted.field-0.0 c.from_residual.result c.from_residual.ensures.1
    (c.in_err-wanted.ensures.found setting)

pub returns-in_err-opening-clause-found : goal.returns-in_err-opening-clause-found
returns-in_err-opening-clause-found c = λ setting.
    let all = extent_of c.args.heap.now in
    let args = map (value_in all) c.args.args.now in
    no_opening args (value_in all c.or_all_bytes.result)
    (all_given args (value_in all c.arg.result) (value_in all c.or_all_bytes.result) (c.or_all_bytes.ensures.value all) (c.arg.ensures.value all))
    (value_in all c.or_opening.result) (opening_given args (value_in all c.arg-2.result) (value_in all c.or_opening.result) (c.or_opening.ensures.value all)
    (c.arg-2.ensures.value all)) (members_of c.in_ok-wanted.wanted) all setting sets_of c.in_err-opening.field-0.0 c.from_residual-in_err-opening.result
    c.from_residual-in_err-opening.ensures.1
    (c.in_ok-wanted.ensures.found setting) (c.in_err-opening.ensures.found setting)

pub returns-in_err-closing-clause-found : goal.returns-in_err-closing-clause-found
returns-in_err-closing-clause-found c = λ setting.
    let all = extent_of c.args.heap.now in
    let args = map (value_in all) c.args.args.now in
    no_closing args (value_in all c.or_all_bytes.result)
    (all_given args (value_in all c.arg.result) (value_in all c.or_all_bytes.result) (c.or_all_bytes.ensures.value all) (c.arg.ensures.value all))
    (value_in all c.or_opening.result)
    (opening_given args (value_in all c.arg-2.result) (value_in all c.or_opening.result) (c.or_opening.ensures.value all) (c.arg-2.ensures.value all))
    (value_in all c.or_closing.result) (closing_given args (value_in all c.arg-3.result) (value_in all c.or_closing.result) (c.or_closing.ensures.value all)
    (c.arg-3.ensures.value all)) (members_of c.in_ok-wanted.wanted) (members_of c.in_ok-opening.opening) all setting sets_of c.in_err-closing.field-0.0
    c.from_residual-in_err-closing.result c.from_residual-in_err-closing.ensures.1
    (c.in_ok-wanted.ensures.found setting) (c.in_ok-opening.ensures.found setting) (c.in_err-closing.ensures.found setting)

pub returns-clause-found : goal.returns-clause-found
returns-clause-found c = λ setting.
    let all = extent_of c.args.heap.now in
    let args = map (value_in all) c.args.args.now in
    sets_found args (value_in all c.or_all_bytes.result)
    (all_given args (value_in all c.arg.result) (value_in all c.or_all_bytes.result) (c.or_all_bytes.ensures.value all) (c.arg.ensures.value all))
    (value_in all c.or_opening.result)
    (opening_given args (value_in all c.arg-2.result) (value_in all c.or_opening.result) (c.or_opening.ensures.value all) (c.arg-2.ensures.value all))
    (value_in all c.or_closing.result) (closing_given args (value_in all c.arg-3.result) (value_in all c.or_closing.result) (c.or_closing.ensures.value all)
    (c.arg-3.ensures.value all)) (members_of c.in_ok-wanted.wanted) (members_of c.in_ok-opening.opening) (members_of c.in_ok-closing.closing) setting
    (c.in_ok-wanted.ensures.found setting) (c.in_ok-opening.ensures.found setting) (c.in_ok-closing.ensures.found setting)

pub cset_of-requires : goal.cset_of-requires
cset_of-requires c = let all = extent_of c.args.heap.now in c.or_all_bytes.ensures.live all (c.arg.ensures.live all c.requires)

pub cset_of-requires-2 : goal.cset_of-requires-2
cset_of-requires-2 c = let all = extent_of c.args.heap.now in c.or_opening.ensures.live all (c.arg-2.ensures.live all c.requires)

pub cset_of-requires-3 : goal.cset_of-requires-3
cset_of-requires-3 c = let all = extent_of c.args.heap.now in c.or_closing.ensures.live all (c.arg-3.ensures.live all c.requires)
