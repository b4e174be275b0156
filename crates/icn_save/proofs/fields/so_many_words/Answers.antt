use Rattle.std.proofs.Common.{◌≡◌, [], ◌∷◌, ◌++◌}
use Rattle.std.proofs.lemmas.List.{map_push}
use Rattle.std.proofs.lemmas.Result.{err_from_is_err_and}
use Rattle.std.specs.Int.{w32}
use Rattle.icn_save.specs.Readers.{string_at, times}
use Rattle.icn_save.specs.Slices.{texts_in}
use Rattle.icn_save.proofs.EntryLoop.{loop_goes_on, loop_fails, loop_done}
use Rattle.icn_save.proofs.fields.so_many_words.Goals as goal

pub returns-in_err-word : goal.returns-in_err-word
returns-in_err-word c =
    let p = err_from_is_err_and c.from_residual.result c.from_residual.ensures.1 in
    rw (p.1, p.2) (loop_fails (string_at w32) c.in_err-word.field-0.0 (texts_in c.loop.words.items) c.args.count c.loop.counter c.loop.rest.now
    (times (string_at w32) c.args.count c.args.bytes.now) c.loop-test.true c.in_err-word.ensures c.loop.invariant)

pub loop-preserved : goal.loop-preserved
loop-preserved c =
    let grown : texts_in c.push.new.self.items ≡ texts_in c.loop.words.items ++ c.in_ok-word.word.now ∷ [] =
    rw c.in_ok-push.ensures.items (map_push _ c.loop.words.items c.in_ok-word.word) in
    rw grown (loop_goes_on (string_at w32) (texts_in c.loop.words.items) c.args.count c.loop.counter c.loop.rest.now c.in_ok-word.word.now
    c.in_ok-word.after.now (times (string_at w32) c.args.count c.args.bytes.now) c.loop-test.true c.in_ok-word.ensures c.loop.invariant)

pub returns : goal.returns
returns c = loop_done (string_at w32) (texts_in c.loop.words.items) c.args.count c.loop.counter c.loop.rest.now
    (times (string_at w32) c.args.count c.args.bytes.now) c.loop-test.false c.loop.invariant
