use Rattle.std.proofs.Common.{◌≡◌, ◌≤◌, ℕ, ◌-◌, vec_len, vec_capacity}
use Rattle.icn_frames.specs.Slots.{control_at}
use Rattle.icn_frames.proofs.slots.make_controls.Given as goal

abbrev pub invariant-loop : goal.invariant-loop
invariant-loop l = record {
  same : (place : ℕ) → control_at l.controls.items place ≡ control_at l.initial.controls.items place;
  len : vec_len l.controls ≡ l.counter;
  capacity : l.want ≤ vec_capacity l.controls;
}
