use Rattle.std.proofs.Common.{◌≡◌, ◌∙◌, ℕ, ◌+◌, ◌*◌, ◌/◌, ◌%◌, ◌<◌, List, [], length, slice_index_or, sym, ap, subst, arith, mod-lt, zero-lt-suc}
use Rattle.std.proofs.Math.Nat.{div-add-mod}
use Rattle.std.proofs.lemmas.List.{get_or_default}
use Rattle.icn_heap.specs.KindRows.{all_kinds}
use Rattle.icn_heap.proofs.KindRows.{kind_at, place_within}
use Rattle.icn_heap.proofs.kinds.RecordKinds.at.Goals as goal

split : (n : ℕ) → n ≡ 128 * (n / 128) + n % 128
split n = let e = div-add-mod n 128 in omega (arith, e)

small : (n : ℕ) → n % 128 < 128
small n = mod-lt n (zero-lt-suc 127)

pub index-requires : goal.index-requires
index-requires c =
    let rows = c.self.inside.rows in
    let n = c.args.n in
    let within : n < length (all_kinds rows.items) = subst (λ (kinds : List ℕ). n < length kinds) (sym c.self.view_is) c.requires in
    let there = place_within rows.items (n / 128) (n % 128) c.self.invariant.full c.self.invariant.few (small n) (omega (arith, within, split n)) in
    omega (arith, there.0, rows.ok.0)

pub at-requires : goal.at-requires
at-requires c =
    let rows = c.self.inside.rows in
    let n = c.args.n in
    let within : n < length (all_kinds rows.items) = subst (λ (kinds : List ℕ). n < length kinds) (sym c.self.view_is) c.requires in
    let there = place_within rows.items (n / 128) (n % 128) c.self.invariant.full c.self.invariant.few (small n) (omega (arith, within, split n)) in
    let row = c.index.ensures ∙ get_or_default rows.items (n / 128) c.index.result.now [] there.0 in
    subst (λ (kinds : List ℕ). n % 128 < length kinds) (sym row) there.1

pub returns : goal.returns
returns c =
    let rows = c.self.inside.rows in
    let n = c.args.n in
    let within : n < length (all_kinds rows.items) = subst (λ (kinds : List ℕ). n < length kinds) (sym c.self.view_is) c.requires in
    let there = place_within rows.items (n / 128) (n % 128) c.self.invariant.full c.self.invariant.few (small n) (omega (arith, within, split n)) in
    let row = c.index.ensures ∙ get_or_default rows.items (n / 128) c.index.result.now [] there.0 in
    c.at.ensures
    ∙ (ap (λ (kinds : List ℕ). slice_index_or kinds (n % 128) 0) row
    ∙ (kind_at rows.items c.self.invariant n (n / 128) (n % 128) (split n) (small n) within
    ∙ ap (λ (kinds : List ℕ). slice_index_or kinds n 0) c.self.view_is))
