use Rattle.std.proofs.Common.{◌≡◌, ◌∙◌, ◌+◌, ◌-◌, ◌*◌, ◌≤◌, ◌++◌, List, ℕ, length, take, drop, refl, ap, arith}
use Rattle.icn_strings.specs.RepeatedBytes.{copies}
use Rattle.icn_strings.proofs.Fillings.{copies_sum, copies_within, repeated_long, repeated_more, repeated_once}
use Rattle.icn_strings.proofs.chunk.Chunk.repeat_behind.Goals as goal

-- how long the bytes are that are repeated
module _ (len kept vlen : ℕ) (had : List ℕ) (is : len ≡ vlen) (same : vlen ≡ length had) where
  unit_is : len - kept ≡ length had - kept
  unit_is = ap (λ n. n - kept) (is ∙ same)

pub loop-done-init : goal.loop-done-init
loop-done-init c = record {
  some = omega arith;
  few = omega (arith, c.requires.some);
  first = refl;
  bytes = repeated_once c.args.self.now.bytes.items c.args.kept;
  room = λ more room. omega (arith, room);
}

pub overflow_mul-extra : goal.overflow_mul-extra
overflow_mul-extra c =
    let had = c.args.self.now.bytes in
    let unit : ℕ = c.len.result - c.args.kept in
    let size : unit ≡ length had.items - c.args.kept = unit_is c.len.result c.args.kept had.len had.items c.len.ensures had.ok.0 in
    let all : (c.args.count - 1) * unit ≡ (c.args.count - 1) * (length had.items - c.args.kept) = ap (λ n. (c.args.count - 1) * n) size in
    let few : c.min-more.result ≤ c.args.count - 1 = omega (arith, c.min-more.ensures, c.loop-done.invariant.some) in
    omega (arith, copies_within c.min-more.result (c.args.count - 1) unit few, all, c.requires.room, had.small)

pub loop-done-smaller : goal.loop-done-smaller
loop-done-smaller c = omega (arith, c.min-more.ensures, c.loop-done-test.true, c.loop-done.invariant.some)

pub add_again-requires-clause-within : goal.add_again-requires-clause-within
add_again-requires-clause-within c =
    let had = c.args.self.now.bytes in
    let unit : ℕ = c.len.result - c.args.kept in
    let long =
    repeated_long had.items c.loop-done.self.bytes.items c.args.kept unit c.loop-done.done c.requires.kept
    (unit_is c.len.result c.args.kept had.len had.items c.len.ensures had.ok.0) c.loop-done.invariant.bytes in
    let few : c.min-more.result ≤ c.loop-done.done = omega (arith, c.min-more.ensures) in
    omega (arith, long, copies_within c.min-more.result c.loop-done.done unit few)

pub add_again-requires-clause-room : goal.add_again-requires-clause-room
add_again-requires-clause-room c =
    let had = c.args.self.now.bytes in
    let unit : ℕ = c.len.result - c.args.kept in
    let size : unit ≡ length had.items - c.args.kept = unit_is c.len.result c.args.kept had.len had.items c.len.ensures had.ok.0 in
    let all : (c.args.count - 1) * unit ≡ (c.args.count - 1) * (length had.items - c.args.kept) = ap (λ n. (c.args.count - 1) * n) size in
    let fits : (c.loop-done.done + c.min-more.result) - 1 ≤ c.args.count - 1 = omega (arith, c.min-more.ensures, c.loop-done.invariant.few) in
    c.loop-done.invariant.room (c.min-more.result * unit)
    (omega (
      arith,
      c.requires.room,
      all,
      copies_sum c.loop-done.done c.min-more.result unit c.loop-done.invariant.some,
      copies_within ((c.loop-done.done + c.min-more.result) - 1) (c.args.count - 1) unit fits,
    ))

pub loop-done-preserved : goal.loop-done-preserved
loop-done-preserved c =
    let had = c.args.self.now.bytes in
    let unit : ℕ = c.len.result - c.args.kept in
    let few : c.min-more.result ≤ c.loop-done.done = omega (arith, c.min-more.ensures) in
    record {
      some = omega (arith, c.loop-done.invariant.some);
      few = omega (arith, c.min-more.ensures, c.loop-done.invariant.few);
      first = c.add_again.ensures.first ∙ c.loop-done.invariant.first;
      bytes =
          repeated_more had.items c.loop-done.self.bytes.items c.args.kept unit c.loop-done.done c.requires.kept
          (unit_is c.len.result c.args.kept had.len had.items c.len.ensures had.ok.0) c.loop-done.invariant.bytes c.add_again.new.self.bytes.items
          c.min-more.result few c.add_again.ensures.bytes;
      room = λ more room.
          c.add_again.ensures.room more
          (c.loop-done.invariant.room (c.min-more.result * unit + more)
          (omega (arith, room, copies_sum c.loop-done.done c.min-more.result unit c.loop-done.invariant.some)));
    }

pub returns-clause-bytes : goal.returns-clause-bytes
returns-clause-bytes c =
    let had = c.args.self.now.bytes.items in
    let all : c.loop-done.done ≡ c.args.count = omega (arith, c.loop-done-test.false, c.loop-done.invariant.few) in
    c.loop-done.invariant.bytes ∙ ap (λ n. take c.args.kept had ++ copies n (drop c.args.kept had)) all

pub returns-clause-room : goal.returns-clause-room
returns-clause-room c more room =
    let had = c.args.self.now.bytes in
    let all : c.loop-done.done ≡ c.args.count = omega (arith, c.loop-done-test.false, c.loop-done.invariant.few) in
    let unit : ℕ = c.len.result - c.args.kept in
    let size : unit ≡ length had.items - c.args.kept = unit_is c.len.result c.args.kept had.len had.items c.len.ensures had.ok.0 in
    let same : (c.loop-done.done - 1) * unit ≡ (c.args.count - 1) * (length had.items - c.args.kept) =
    ap (λ n. (n - 1) * unit) all ∙ ap (λ n. (c.args.count - 1) * n) size in
    c.loop-done.invariant.room more (omega (arith, room, same))
