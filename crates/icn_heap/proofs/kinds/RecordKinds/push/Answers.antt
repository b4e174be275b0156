use Rattle.std.proofs.Common.{◌≡◌, ◌∙◌, ℕ, suc, ◌-◌, ◌<◌, ◌≤◌, List, [], ◌∷◌, ◌++◌, length, slice_index_or, slice_set, sym, ap, subst, arith}
use Rattle.std.proofs.lemmas.Result.{on_ok_weaker}
use Rattle.std.proofs.lemmas.List.{get_or_default}
use Rattle.icn_heap.specs.KindRows.{AreKindRows, all_kinds}
use Rattle.icn_heap.proofs.KindRows.{last_grows, push_full}
use Rattle.icn_heap.proofs.kinds.RecordKinds.push.Goals as goal
use Rattle.icn_heap.proofs.kinds.RecordKinds.push.Goals.{else-count-gt0-via-then-count-gt0+else-len-lt-ROW, else-count-gt0-via-else-count-gt0}

full_row : (rows : List (List ℕ)) (row : List ℕ) (count last size : ℕ) → AreKindRows rows → row ≡ slice_index_or rows (count - 1) row → count ≡ length rows
    → suc last ≡ length rows → size ≡ length row → 128 ≤ size
    → length (slice_index_or rows last []) ≡ 128
full_row rows row count last size are is all same sized most =
    let place : count - 1 ≡ last = omega (arith, all, same) in
    let there : last < length rows = omega (arith, same) in
    let at : row ≡ slice_index_or rows last [] = is ∙ (ap (λ n. slice_index_or rows n row) place ∙ get_or_default rows last row [] there) in
    let few = are.few last [] there in
    let size = ap length at in
    omega (arith, few, size, sized, most)

pub invariant_of-self-else-count-gt0 : goal.invariant_of-self-else-count-gt0
invariant_of-self-else-count-gt0 c =
    let rows = c.self.inside.rows in
    let count : c.len-count.result ≡ length rows.items = (let all = rows.ok.0 in let same = c.len-count.ensures in omega (arith, all, same)) in
    subst AreKindRows (sym c.in_ok-push.ensures.items)
    (push_full rows.items c.self.invariant c.of_one.result
    (λ last is. elim c.else-count-gt0.branch [
      | else-count-gt0-via-then-count-gt0+else-len-lt-ROW w ↦
          full_row rows.items w.index.result.now c.len-count.result last w.len.result c.self.invariant w.index.ensures count is w.len.ensures
          (let most = w.if-len-lt-ROW.false in omega (arith, most))
      | else-count-gt0-via-else-count-gt0 w ↦ absurd (let none = w.if-count-gt0.false in omega (arith, none, count, is))
    ])
    (subst (λ (row : List ℕ). 0 < length row) (sym c.of_one.ensures) (omega arith))
    (subst (λ (row : List ℕ). length row ≤ 128) (sym c.of_one.ensures) (omega arith)))

pub returns-then-len-lt-ROW-clause-ok : goal.returns-then-len-lt-ROW-clause-ok
returns-then-len-lt-ROW-clause-ok c =
    let rows = c.self.inside.rows in
    let count : c.len-count.result ≡ length rows.items = (let all = rows.ok.0 in let same = c.len-count.ensures in omega (arith, all, same)) in
    let last = c.len-count.result - 1 in
    let some = c.if-count-gt0.true in
    let next : suc last ≡ length rows.items = omega (arith, count, some) in
    let row : c.index_mut.result.now ≡ slice_index_or rows.items last [] = c.index_mut.ensures.value
    ∙ get_or_default rows.items last c.index_mut.result.now [] (omega (arith, next)) in
    on_ok_weaker c.push.result
    (λ is. ap (λ (one : List ℕ). all_kinds (slice_set rows.items last one)) (is ∙ ap (λ (one : List ℕ). one ++ c.args.kind ∷ []) row)
    ∙ (last_grows rows.items last c.args.kind next ∙ ap (λ (kinds : List ℕ). kinds ++ c.args.kind ∷ []) c.self.view_is)) c.push.ensures.ok
