use Rattle.std.proofs.Common.{◌≡◌, ◌∙◌, ◌-◌, ◌++◌, List, ℕ, length, take, drop, ap, arith}
use Rattle.icn_strings.proofs.chunk.copy_down.Goals as goal

-- the front, and a part of it in place of the back
copied : (old front : List ℕ) (from to end : ℕ) → front ≡ take end old → to - from ≡ length old - end
    → front ++ take (to - from) (drop from front) ≡ take end old ++ take (length old - end) (drop from (take end old))
copied old front from to end is many =
    ap (λ (ys : List ℕ). ys ++ take (to - from) (drop from ys)) is ∙ ap (λ n. take end old ++ take n (drop from (take end old))) many

pub returns-clause-bytes : goal.returns-clause-bytes
returns-clause-bytes c =
    let cut = c.split_at_mut-front in
    ap (λ (ys : List ℕ). cut.result.0.now ++ ys) c.copy_from_slice.ensures.after
    ∙ copied c.args.bytes.now cut.result.0.now c.args.from _ c.args.end cut.ensures.front (omega (arith, cut.ensures.back_len))
