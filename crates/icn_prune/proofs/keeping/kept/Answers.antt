use Rattle.std.proofs.Common.{arith, ap, length, ◌∙◌}
use Rattle.std.proofs.lemmas.List.{length-map}
use Rattle.icn_code.specs.Codes.{proc_of}
use Rattle.icn_code.specs.CodeTables.{tables_of}
use Rattle.icn_prune.specs.KeptCode.{own_kept}
use Rattle.icn_prune.proofs.KeptMarks.{as_long}
use Rattle.icn_prune.proofs.KeptWalk.{kept_ends, none_long, none_met}
use Rattle.icn_prune.proofs.keeping.kept.Goals as goal

pub invariant_of-marks : goal.invariant_of-marks
invariant_of-marks c = record {
  marked = none_met c.in_ok-keep.keep.items c.new-met.result.items c.len.result (c.in_ok-keep.ensures.items_if_clones_equal (λ y h. h))
      c.new-met.ensures.items;
}

pub mark_own-requires-clause-as_many : goal.mark_own-requires-clause-as_many
mark_own-requires-clause-as_many c =
    let long = ap length (c.in_ok-keep.ensures.items_if_clones_equal (λ y h. h)) ∙ none_long c.len.result in
    let many = length-map c.args.code.now.procs.items proc_of in
    omega (arith, long, many, c.len.ensures, c.args.code.now.procs.ok.0)

pub mark_all_mentioned-requires : goal.mark_all_mentioned-requires
mark_all_mentioned-requires c =
    let long = ap length (c.in_ok-keep.ensures.items_if_clones_equal (λ y h. h)) ∙ none_long c.len.result in
    let many = length-map c.args.code.now.procs.items proc_of in
    let more = as_long c.in_ok-keep.keep.items c.mark_own.new.marks.keep.items c.new-met.result.items c.mark_own.new.marks.met.items
    (own_kept (tables_of c.args.code.now) c.args.named.now c.args.all) c.in_ok-mark_own.ensures in
    record { as_many = omega (arith, long, many, more, c.len.ensures, c.args.code.now.procs.ok.0) }

pub returns : goal.returns
returns c =
    let many = length-map c.args.code.now.procs.items proc_of in
    kept_ends (tables_of c.args.code.now)
    (own_kept (tables_of c.args.code.now) c.args.named.now c.args.all) c.len.result c.in_ok-keep.keep.items c.mark_own.new.marks.keep.items
    c.mark_all_mentioned.new.marks.keep.items c.args.code.now.rules (omega (arith, many, c.len.ensures, c.args.code.now.procs.ok.0))
    (c.in_ok-keep.ensures.items_if_clones_equal (λ y h. h)) c.in_ok-mark_own.ensures.marks c.in_ok-mark_all_mentioned.ensures
