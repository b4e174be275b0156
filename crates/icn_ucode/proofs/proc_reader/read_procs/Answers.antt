use Rattle.std.proofs.Common.{sym, ◌∙◌, ap}
use Rattle.std.specs.Option.{option_copied}
use Rattle.std.proofs.lemmas.Result.{err_from_is_err_and}
use Rattle.icn_ucode.specs.UnitViews.{reading_seen}
use Rattle.icn_ucode.proofs.ProcLines.{unended_procs, next_procs, stopped_procs, finished_procs}
use Rattle.icn_ucode.proofs.TextLines.{shorter, line_length, some_left, none_left}
use Rattle.icn_ucode.proofs.proc_reader.read_procs.Goals as goal

pub returns-in_err-reading : goal.returns-in_err-reading
returns-in_err-reading c =
    let p = err_from_is_err_and c.from_residual.result c.from_residual.ensures.1 in
    rw (p.1, p.2)
    (stopped_procs c.args.text.now c.loop-rest.rest.now c.cut_line.result.0.now (option_copied c.cut_line.result.1)
    (reading_seen c.loop-rest.reading) c.in_err-reading.field-0.0 c.loop-rest.invariant
    (some_left c.is_empty.result c.loop-rest.rest.now c.is_empty.ensures c.loop-rest-test.true) c.cut_line.ensures.line c.cut_line.ensures.behind
    c.in_err-reading.ensures)

pub returns-in_default : goal.returns-in_default
returns-in_default c =
    unended_procs c.args.text.now c.loop-rest.rest.now c.cut_line.result.0.now (reading_seen c.loop-rest.reading) c.in_ok-reading.reading c.loop-rest.invariant
    (some_left c.is_empty.result c.loop-rest.rest.now c.is_empty.ensures c.loop-rest-test.true) c.cut_line.ensures.line
    (sym (ap option_copied c.in_default.is) ∙ c.cut_line.ensures.behind) c.in_ok-reading.ensures

pub loop-rest-smaller : goal.loop-rest-smaller
loop-rest-smaller c =
    shorter c.loop-rest.rest.now c.in-Some.behind.now (line_length c.loop-rest.rest.now) (sym (ap option_copied c.in-Some.is) ∙ c.cut_line.ensures.behind)

pub loop-rest-preserved : goal.loop-rest-preserved
loop-rest-preserved c =
    next_procs c.args.text.now c.loop-rest.rest.now c.cut_line.result.0.now c.in-Some.behind.now
    (reading_seen c.loop-rest.reading) c.in_ok-reading.reading c.loop-rest.invariant
    (some_left c.is_empty.result c.loop-rest.rest.now c.is_empty.ensures c.loop-rest-test.true) c.cut_line.ensures.line
    (sym (ap option_copied c.in-Some.is) ∙ c.cut_line.ensures.behind) c.in_ok-reading.ensures

pub returns : goal.returns
returns c =
    finished_procs c.args.text.now c.loop-rest.rest.now c.loop-rest.reading c.finish.result c.loop-rest.invariant
    (none_left c.is_empty.result c.loop-rest.rest.now c.is_empty.ensures c.loop-rest-test.false) c.finish.ensures
