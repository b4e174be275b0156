-- What was checked passed, or stops the row.
use Rattle.icn_heap.specs.Heaps.{extent_of, heap_of}
use Rattle.icn_iofn.proofs.PieceChecks.{check_lives, check_stops, checks_begin, checks_end, checks_go_on, first_live}
use Rattle.icn_iofn.proofs.pieces.check_pieces.Goals as goal

pub loop-first-init : goal.loop-first-init
loop-first-init c = checks_begin (heap_of c.args.heap.now) (extent_of c.args.heap.now) c.args.vals.now c.requires

pub check_piece-requires : goal.check_piece-requires
check_piece-requires c =
    first_live (heap_of c.args.heap.now) (extent_of c.args.heap.now) c.args.vals.now c.loop-first.rest.now c.in-Some.first.now c.in-Some.others.now
    c.in-Some.ensures.cases.0 c.loop-first.invariant

pub returns-in_err-check_piece-clause-found : goal.returns-in_err-check_piece-clause-found
returns-in_err-check_piece-clause-found c = λ setting.
    check_stops (heap_of c.args.heap.now) (extent_of c.args.heap.now) c.args.vals.now c.loop-first.rest.now c.in-Some.first.now c.in-Some.others.now
    c.in-Some.ensures.cases.0 c.loop-first.invariant setting c.from_residual.result c.in_err-check_piece.field-0.0 c.from_residual.ensures.1
    (c.in_err-check_piece.ensures.found setting)

pub returns-in_err-check_piece-clause-stops : goal.returns-in_err-check_piece-clause-stops
returns-in_err-check_piece-clause-stops c =
    check_lives (extent_of c.args.heap.now) c.from_residual.result c.in_err-check_piece.field-0.0 c.from_residual.ensures.1
    c.in_err-check_piece.ensures.stops

pub loop-first-preserved : goal.loop-first-preserved
loop-first-preserved c =
    checks_go_on (heap_of c.args.heap.now) (extent_of c.args.heap.now) c.args.vals.now c.loop-first.rest.now c.in-Some.first.now c.in-Some.others.now
    c.in-Some.ensures.cases.0 c.loop-first.invariant c.in_ok-check_piece.ensures.found

pub returns-clause-found : goal.returns-clause-found
returns-clause-found c = λ setting.
    checks_end (heap_of c.args.heap.now) (extent_of c.args.heap.now) c.args.vals.now c.loop-first.rest.now c.loop-first.invariant
    c.in_default.ensures.cases setting
