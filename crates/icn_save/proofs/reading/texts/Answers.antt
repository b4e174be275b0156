-- Each is taken, or the first that is no text is the fault of all.
use Rattle.std.proofs.Common.{ℕ, List}
use Rattle.std.specs.Prelude.{string_bytes}
use Rattle.std.specs.Borrow.{Bor}
use Rattle.std.specs.Str.{is_utf8}
use Rattle.std.proofs.lemmas.Result.{err_from_is_err_and}
use Rattle.icn_save.proofs.Judging.{element_refused, one_more_taken}
use Rattle.icn_save.proofs.reading.texts.Goals as goal

pub returns-in_err-text : goal.returns-in_err-text
returns-in_err-text c =
    let p = err_from_is_err_and c.from_residual.result c.from_residual.ensures.1 in
    rw (p.1, p.2)
    (element_refused {A = Unit {0}} {D = Unit {0}} is_utf8 (λ (slice : Bor (List ℕ)). slice.now) (λ u. Unit {0}) (λ u. Unit {0}) c.args.words.now
    c.loop-word.word-index _ c.in_err-text.field-0.0 c.loop-word-test.true c.in_err-text.ensures)

pub loop-word-preserved : goal.loop-word-preserved
loop-word-preserved c =
    one_more_taken is_utf8 string_bytes (λ (slice : Bor (List ℕ)). slice.now) c.loop-word.texts.items c.push.new.self.items c.in_ok-text.field-0 c.args.words.now
    c.loop-word.word-index _ c.loop-word-test.true c.loop-word.invariant c.in_ok-text.ensures.0 c.in_ok-text.ensures.1 c.in_ok-push.ensures.items
