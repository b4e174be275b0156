use Rattle.std.proofs.Common.{◌≡◌, codes, false, rules, string_bytes, true}
use Rattle.std.specs.Str.{bytes_eq}
use Rattle.icont_words.proofs.PartedWords.{parted_before, parted_behind, passed}
use Rattle.icont_words.proofs.words.split_at_run.Goals as goal

pub returns-then-eq-clause-before : goal.returns-then-eq-clause-before
returns-then-eq-clause-before c =
    let word = c.index-words-place.result in
    let met : bytes_eq (string_bytes word) (codes "-x") ≡ true = search rules in
    parted_before c.args.words.now c.loop-place.place word c.loop-place.invariant c.loop-place-test.true c.index-words-place.is met

pub returns-then-eq-clause-behind : goal.returns-then-eq-clause-behind
returns-then-eq-clause-behind c =
    let word = c.index-words-place.result in
    let met : bytes_eq (string_bytes word) (codes "-x") ≡ true = search rules in
    parted_behind c.args.words.now c.loop-place.place word c.loop-place.invariant c.loop-place-test.true c.index-words-place.is met

pub loop-place-preserved : goal.loop-place-preserved
loop-place-preserved c =
    let word = c.index-words-place.result in
    let other : bytes_eq (string_bytes word) (codes "-x") ≡ false = search rules in
    passed c.args.words.now c.loop-place.place word c.loop-place.invariant c.loop-place-test.true c.index-words-place.is other
