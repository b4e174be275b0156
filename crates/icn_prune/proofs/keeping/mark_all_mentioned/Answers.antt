use Rattle.std.proofs.Common.{arith, length, refl, ◌<◌}
use Rattle.std.proofs.lemmas.List.{get_or_read, length-map}
use Rattle.icn_code.specs.Codes.{proc_of}
use Rattle.icn_code.specs.CodeTables.{tables_of}
use Rattle.icn_prune.specs.KeptCode.{mentioned_in}
use Rattle.icn_prune.proofs.KeptWalk.{mentions_at, number_at, walk_done, walk_long, walk_next, walk_number, walk_start}
use Rattle.icn_prune.proofs.keeping.mark_all_mentioned.Goals as goal

pub loop-place-init : goal.loop-place-init
loop-place-init c = walk_start (tables_of c.args.code.now) c.args.code.now.rules c.args.marks.now.keep.items c.requires.as_many c.args.marks.now.met.items

pub returns-then-place-len : goal.returns-then-place-len
returns-then-place-len c =
    let met = c.loop-place.marks.met in
    walk_done (tables_of c.args.code.now) c.args.code.now.rules c.args.marks.now.keep.items c.requires.as_many
    c.loop-place.marks.keep.items met.items c.loop-place.place
    c.loop-place.marks.marked (omega (arith, c.len.ensures, met.ok.0, c.if-place-len.true)) c.loop-place.invariant

pub index-entry-requires : goal.index-entry-requires
index-entry-requires c =
    let met = c.loop-place.marks.met in
    let within : c.loop-place.place < length met.items = omega (arith, c.len.ensures, met.ok.0, c.if-place-len.false, c.loop-place.invariant.within) in
    let below = walk_number
    (tables_of c.args.code.now) c.args.code.now.rules c.args.marks.now.keep.items c.requires.as_many c.loop-place.marks.keep.items met.items
    c.loop-place.place c.index-number.result.now c.loop-place.marks.marked c.loop-place.invariant
    (number_at met.items c.loop-place.place c.index-number.result.now within (get_or_read met.items _ _ within c.index-number.ensures 0)) in
    let many = length-map c.args.code.now.procs.items proc_of in
    omega (arith, below, many, c.args.code.now.procs.ok.0)

pub loop-place-preserved : goal.loop-place-preserved
loop-place-preserved c =
    let met = c.loop-place.marks.met in
    let keep = c.loop-place.marks.keep.items in
    let number = c.index-number.result.now in
    let within : c.loop-place.place < length met.items = omega (arith, c.len.ensures, met.ok.0, c.if-place-len.false, c.loop-place.invariant.within) in
    let at = number_at met.items c.loop-place.place number within (get_or_read met.items _ _ within c.index-number.ensures 0) in
    let below = walk_number (tables_of c.args.code.now) c.args.code.now.rules c.args.marks.now.keep.items c.requires.as_many keep met.items
    c.loop-place.place number c.loop-place.marks.marked c.loop-place.invariant at in
    let many = length-map c.args.code.now.procs.items proc_of in
    let there : number < length c.args.code.now.procs.items = omega (arith, below, many) in
    walk_next (tables_of c.args.code.now) c.args.code.now.rules c.args.marks.now.keep.items c.requires.as_many
    keep c.mark_mentioned.new.marks.keep.items met.items
    c.mark_mentioned.new.marks.met.items c.loop-place.place number (mentioned_in (tables_of c.args.code.now)
    (proc_of c.index-entry.result.now)) c.loop-place.marks.marked at
    (mentions_at (tables_of c.args.code.now) c.args.code.now.procs.items number c.index-entry.result.now refl there
    (get_or_read c.args.code.now.procs.items _ _ there c.index-entry.ensures c.index-entry.result.now))
    c.in_ok-mark_mentioned.ensures c.loop-place.invariant

pub returns : goal.returns
returns c =
    let met = c.loop-place.marks.met in
    let all = c.loop-place.marks.marked.counted in
    let long = walk_long
    (tables_of c.args.code.now) c.args.code.now.rules c.args.marks.now.keep.items c.requires.as_many c.loop-place.marks.keep.items met.items
    c.loop-place.place c.loop-place.invariant in
    let many = length-map c.args.code.now.procs.items proc_of in
    walk_done (tables_of c.args.code.now) c.args.code.now.rules c.args.marks.now.keep.items c.requires.as_many
    c.loop-place.marks.keep.items met.items c.loop-place.place
    c.loop-place.marks.marked
    (omega (arith, all, long, many, c.len-place-end.ensures, c.args.code.now.procs.ok.0, c.loop-place-test.false)) c.loop-place.invariant
