use Rattle.std.proofs.Common.{◌≡◌, ◌∙◌, ◌+◌, ◌<◌, ◌^◌, ◌++◌, ℕ, List, length, map, take, refl, sym, ap, subst, arith}
use Rattle.std.specs.List.{All}
use Rattle.icn_strings.specs.declared.packed.PackedRun.{PackedRun}
use Rattle.icn_strings.specs.PackedRuns.{shifted}
use Rattle.icn_strings.proofs.AddedBytes.{did}
use Rattle.icn_strings.proofs.ClosedParts.{refused}
use Rattle.icn_strings.proofs.PackedBytes.{laid_same, parts_same, size_is}
use Rattle.icn_strings.proofs.PackedRows.{put_seen, put_sound, run_fits}
use Rattle.icn_strings.proofs.packed.Packed.put_runs.Goals as goal

pub overflow_cast-further : goal.overflow_cast-further
overflow_cast-further c = omega (arith, c.requires.room)

pub invariant_of-self : goal.invariant_of-self
invariant_of-self c =
    laid_same c.self.inside.bytes.items c.self.inside.bytes.items c.self.inside.runs.items c.reserve.new.self.items refl
    c.in_err-reserve.ensures.items c.self.invariant

pub returns-in_err-reserve-clause-unchanged : goal.returns-in_err-reserve-clause-unchanged
returns-in_err-reserve-clause-unchanged c =
    refused c.from_residual.result
    (parts_same c.self.inside.bytes.items c.self.inside.bytes.items c.self.inside.runs.items c.reserve.new.self.items refl
    c.in_err-reserve.ensures.items
    ∙ c.self.view_is)

pub invariant_of-self-in_err-reserve-2 : goal.invariant_of-self-in_err-reserve-2
invariant_of-self-in_err-reserve-2 c =
    laid_same c.self.inside.bytes.items c.reserve-2.new.self.items c.self.inside.runs.items c.reserve.new.self.items c.in_err-reserve-2.ensures.items
    c.in_ok-reserve.ensures.items c.self.invariant

pub returns-in_err-reserve-2-clause-unchanged : goal.returns-in_err-reserve-2-clause-unchanged
returns-in_err-reserve-2-clause-unchanged c =
    refused c.from_residual-in_err-reserve-2.result
    (parts_same c.self.inside.bytes.items c.reserve-2.new.self.items c.self.inside.runs.items c.reserve.new.self.items c.in_err-reserve-2.ensures.items
    c.in_ok-reserve.ensures.items
    ∙ c.self.view_is)

pub add_shifted-requires-clause-room : goal.add_shifted-requires-clause-room
add_shifted-requires-clause-room c =
    let given = ap (λ (runs : List PackedRun). length runs) c.deref.ensures.value in
    omega (arith, given, c.in_ok-reserve.ensures.ok, c.truncate.ensures.len, c.truncate.ensures.capacity, c.len.ensures, c.fresh.inside.runs.ok)

pub add_shifted-requires-clause-fits : goal.add_shifted-requires-clause-fits
add_shifted-requires-clause-fits c =
    let size = size_is c.fresh.inside.bytes.items c.fresh.inside.runs.items c.args.fresh.now c.fresh.invariant c.fresh.view_is in
    subst (λ (runs : List PackedRun). All (λ (run : PackedRun). c.args.at + run.at < 2 ^ 32) runs) (sym c.deref.ensures.value)
    (run_fits c.fresh.inside.bytes.items c.fresh.inside.runs.items c.args.at (2 ^ 32) c.fresh.invariant (omega (arith, size, c.requires.room)))

pub unwrap-requires : goal.unwrap-requires
unwrap-requires c =
    let given = ap (λ (bytes : List ℕ). length bytes) c.deref-2.ensures.value in
    c.extend_from_slice.ensures.succeeds
    (omega (arith, given, c.in_ok-reserve-2.ensures.ok, c.truncate-2.ensures.len, c.truncate-2.ensures.capacity, c.len-2.ensures, c.fresh.inside.bytes.ok))

-- the runs at the end, and the bytes
runs_at_end : (runs reserved cut given all after fresh : List PackedRun) (same at : ℕ) → reserved ≡ runs → cut ≡ take same reserved → given ≡ fresh
    → all ≡ cut ++ map (shifted at) given → after ≡ all → after ≡ take same runs ++ map (shifted at) fresh
runs_at_end runs reserved cut given all after fresh same at room less are added back =
    back
    ∙ (added
    ∙ (ap (λ (some : List PackedRun). some ++ map (shifted at) given) (less ∙ ap (take same) room)
    ∙ ap (λ (some : List PackedRun). take same runs ++ map (shifted at) some) are))

bytes_at_end : (bytes reserved cut given all after more : List ℕ) (at : ℕ) → reserved ≡ bytes → cut ≡ take at reserved → given ≡ more
    → all ≡ cut ++ given → after ≡ all → after ≡ take at bytes ++ more
bytes_at_end bytes reserved cut given all after more at room less are added back =
    back ∙ (added ∙ (ap (λ (some : List ℕ). some ++ given) (less ∙ ap (take at) room) ∙ ap (λ (some : List ℕ). take at bytes ++ some) are))

pub invariant_of-self-2 : goal.invariant_of-self-2
invariant_of-self-2 c =
    let runs =
    runs_at_end c.self.inside.runs.items _ _ _ _ c.give_room_back.new.items.items c.fresh.inside.runs.items c.args.same c.args.at
    c.in_ok-reserve.ensures.items c.truncate.ensures.items c.deref.ensures.value c.add_shifted.ensures c.give_room_back.ensures in
    let bytes =
    bytes_at_end c.self.inside.bytes.items _ _ _ _ c.give_room_back-2.new.items.items c.fresh.inside.bytes.items c.args.at
    c.in_ok-reserve-2.ensures.items c.truncate-2.ensures.items c.deref-2.ensures.value
    (did c.extend_from_slice.result _ _ _ _ c.unwrap.ensures c.extend_from_slice.ensures.items) c.give_room_back-2.ensures in
    put_sound c.self.inside.bytes.items c.fresh.inside.bytes.items _ c.self.inside.runs.items c.fresh.inside.runs.items _ c.args.self.now c.args.same
    c.args.at c.self.invariant c.fresh.invariant c.self.view_is c.requires.at bytes runs

pub returns-clause-put : goal.returns-clause-put
returns-clause-put c =
    let runs =
    runs_at_end c.self.inside.runs.items _ _ _ _ c.give_room_back.new.items.items c.fresh.inside.runs.items c.args.same c.args.at
    c.in_ok-reserve.ensures.items c.truncate.ensures.items c.deref.ensures.value c.add_shifted.ensures c.give_room_back.ensures in
    let bytes =
    bytes_at_end c.self.inside.bytes.items _ _ _ _ c.give_room_back-2.new.items.items c.fresh.inside.bytes.items c.args.at
    c.in_ok-reserve-2.ensures.items c.truncate-2.ensures.items c.deref-2.ensures.value
    (did c.extend_from_slice.result _ _ _ _ c.unwrap.ensures c.extend_from_slice.ensures.items) c.give_room_back-2.ensures in
    put_seen c.self.inside.bytes.items c.fresh.inside.bytes.items _ c.self.inside.runs.items c.fresh.inside.runs.items _ c.args.self.now
    c.args.fresh.now c.args.same c.args.at c.self.invariant c.fresh.invariant c.self.view_is c.fresh.view_is c.requires.at bytes runs
