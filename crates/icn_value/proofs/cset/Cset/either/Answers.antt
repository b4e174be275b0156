use Rattle.std.proofs.Common.{arith, ap, ◌∙◌, length-set}
use Rattle.std.specs.Prelude.{slice_index}
use Rattle.std.specs.Int.Bits.{bit_or}
use Rattle.icn_value.proofs.Bits.{either_members, done_more, ahead_more}
use Rattle.icn_value.proofs.cset.Cset.either.Goals as goal

pub loop-place-preserved : goal.loop-place-preserved
loop-place-preserved c = record {
  bytes = length-set c.loop-place.words c.loop-place.place _ ∙ c.loop-place.invariant.bytes;
  done = done_more c.loop-place.words (λ k. bit_or (slice_index c.args.self.words k) (slice_index c.args.other.words k)) c.loop-place.place
      _ (omega (arith, c.loop-place.invariant.bytes, c.loop-place-test.true)) (ap (λ n. bit_or n (slice_index c.args.other.words c.loop-place.place))
      (c.loop-place.invariant.ahead c.loop-place.place (omega arith))) c.loop-place.invariant.done;
  ahead = ahead_more c.loop-place.words (slice_index c.args.self.words) c.loop-place.place _ c.loop-place.invariant.ahead;
}

pub returns : goal.returns
returns c = either_members c.args.self c.args.other (record { words = c.loop-place.words }) (λ k below. c.loop-place.invariant.done k (omega arith))
