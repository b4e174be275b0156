use Rattle.std.proofs.Common.{◌≡◌, ◌++◌, ◌∷◌, [], ap, ◌∙◌, rules}
use Rattle.std.specs.Int.{w64}
use Rattle.std.specs.Int.RustNames.{FitsSigned}
use Rattle.std.proofs.lemmas.Int.{to_z-of_z}
use Rattle.std.proofs.lemmas.Result.{err_from_is_err_and}
use Rattle.icn_image.specs.Readers.{times}
use Rattle.icn_image.specs.Reading.{integer_at}
use Rattle.icn_image.proofs.EntryLoop.{loop_goes_on, loop_fails, loop_done}
use Rattle.icn_image.proofs.table.so_many_integers.Goals as goal

pub returns-in_err-integer : goal.returns-in_err-integer
returns-in_err-integer c =
    let p = err_from_is_err_and c.from_residual.result c.from_residual.ensures.1 in
    rw (p.1, p.2) (loop_fails (integer_at) c.in_err-integer.field-0.0 c.loop.integers.items c.args.count c.loop.counter c.loop.rest.now
    (times (integer_at) c.args.count c.args.bytes.now) c.loop-test.true c.in_err-integer.ensures c.loop.invariant)

pub loop-preserved : goal.loop-preserved
loop-preserved c =
    let fits : FitsSigned w64 c.in_ok-integer.integer = search rules in
    let grown : c.push.new.self.items ≡ c.loop.integers.items ++ c.in_ok-integer.integer ∷ [] = c.in_ok-push.ensures.items
    ∙ ap (λ z. c.loop.integers.items ++ z ∷ []) (to_z-of_z w64 c.in_ok-integer.integer fits) in
    rw grown (loop_goes_on (integer_at) c.loop.integers.items c.args.count c.loop.counter c.loop.rest.now c.in_ok-integer.integer c.in_ok-integer.after.now
    (times (integer_at) c.args.count c.args.bytes.now) c.loop-test.true c.in_ok-integer.ensures c.loop.invariant)

pub returns : goal.returns
returns c = loop_done (integer_at) c.loop.integers.items c.args.count c.loop.counter c.loop.rest.now
    (times (integer_at) c.args.count c.args.bytes.now) c.loop-test.false c.loop.invariant
