use Rattle.std.proofs.Common.{arith, ap, ◌∙◌, length-set, w64}
use Rattle.std.specs.Prelude.{slice_index}
use Rattle.std.specs.Int.{bit_not}
use Rattle.icn_value.proofs.Bits.{other_members, done_more, ahead_more, bounded_more}
use Rattle.icn_value.proofs.cset.Cset.other.Goals as goal

pub loop-place-preserved : goal.loop-place-preserved
loop-place-preserved c = record {
  bytes = length-set c.loop-place.words c.loop-place.place _ ∙ c.loop-place.invariant.bytes;
  small = bounded_more (slice_index c.args.self.words)
      (slice_index c.loop-place.words) c.loop-place.place c.loop-place.invariant.ahead c.loop-place-test.element_fits.fits c.loop-place.invariant.small;
  done = done_more c.loop-place.words
      (λ k. bit_not w64 (slice_index c.args.self.words k)) c.loop-place.place _ (omega (arith, c.loop-place.invariant.bytes, c.loop-place-test.true))
      (ap (bit_not w64) (c.loop-place.invariant.ahead c.loop-place.place (omega arith))) c.loop-place.invariant.done;
  ahead = ahead_more c.loop-place.words (slice_index c.args.self.words) c.loop-place.place _ c.loop-place.invariant.ahead;
}

pub returns : goal.returns
returns c = other_members c.args.self (record { words = c.loop-place.words }) (λ k below. c.loop-place.invariant.small k (omega arith))
    (λ k below. c.loop-place.invariant.done k (omega arith))
