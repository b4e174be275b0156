use Rattle.std.proofs.Common.{◌≡◌, ◌++◌, ◌∷◌, []}
use Rattle.icn_image.specs.Versions.{width_of}
use Rattle.std.proofs.lemmas.Result.{err_from_is_err_and}
use Rattle.std.proofs.lemmas.List.{map_push}
use Rattle.icn_image.specs.Readers.{times}
use Rattle.icn_image.specs.Reading.{record_at}
use Rattle.icn_code.specs.Codes.{record_of, records_of}
use Rattle.icn_image.proofs.EntryLoop.{loop_goes_on, loop_fails, loop_done}
use Rattle.icn_image.proofs.table.so_many_records.Goals as goal

pub returns-in_err-kind : goal.returns-in_err-kind
returns-in_err-kind c =
    let p = err_from_is_err_and c.from_residual.result c.from_residual.ensures.1 in
    rw (p.1, p.2) (loop_fails (record_at (width_of c.args.version) c.args.strings c.args.fields) c.in_err-kind.field-0.0 (records_of c.loop.records.items) c.args.count c.loop.counter
    c.loop.rest.now (times (record_at (width_of c.args.version) c.args.strings c.args.fields) c.args.count c.args.bytes.now) c.loop-test.true c.in_err-kind.ensures c.loop.invariant)

pub loop-preserved : goal.loop-preserved
loop-preserved c =
    let grown : records_of c.push.new.self.items
    ≡ records_of c.loop.records.items ++ record_of c.in_ok-kind.kind ∷ [] = rw c.in_ok-push.ensures.items (map_push _ c.loop.records.items c.in_ok-kind.kind) in
    rw grown (loop_goes_on (record_at (width_of c.args.version) c.args.strings c.args.fields)
    (records_of c.loop.records.items) c.args.count c.loop.counter c.loop.rest.now (record_of c.in_ok-kind.kind) c.in_ok-kind.after.now
    (times (record_at (width_of c.args.version) c.args.strings c.args.fields) c.args.count c.args.bytes.now) c.loop-test.true c.in_ok-kind.ensures c.loop.invariant)

pub returns : goal.returns
returns c = loop_done (record_at (width_of c.args.version) c.args.strings c.args.fields) (records_of c.loop.records.items) c.args.count c.loop.counter c.loop.rest.now
    (times (record_at (width_of c.args.version) c.args.strings c.args.fields) c.args.count c.args.bytes.now) c.loop-test.false c.loop.invariant
