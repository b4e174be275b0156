use Rattle.std.proofs.Common.{◌≡◌, ◌∙◌, ◌+◌, ◌-◌, ◌++◌, List, ℕ, length, take, drop, replicate, sym, ap, arith, length-append}
use Rattle.std.proofs.lemmas.List.{length-replicate, take_at, with_items_is}
use Rattle.icn_strings.proofs.chunk.Chunk.add_at_once.Goals as goal

filled_long : (old filled : List ℕ) (len : ℕ) → filled ≡ old ++ replicate len 0 → length filled ≡ length old + len
filled_long old filled len are =
    ap (λ (ys : List ℕ). length ys) are ∙ (length-append old (replicate len 0) ∙ ap (λ n. length old + n) (length-replicate len 0))

-- the bytes with so many zeros behind them, over which some of the first were copied
copied : (old filled : List ℕ) (from len end : ℕ) → filled ≡ old ++ replicate len 0 → end ≡ length old
    → take end filled ++ take (length filled - end) (drop from (take end filled)) ≡ old ++ take len (drop from old)
copied old filled from len end are same =
    let front : take end filled ≡ old = ap (take end) are ∙ take_at old (replicate len 0) end (sym same) in
    let many : length filled - end ≡ len = omega (arith, filled_long old filled len are, same) in
    ap (λ (ys : List ℕ). ys ++ take (length filled - end) (drop from ys)) front ∙ ap (λ n. old ++ take n (drop from old)) many

pub copy_down-requires-clause-within : goal.copy_down-requires-clause-within
copy_down-requires-clause-within c =
    let old = c.args.self.now in
    let had : length c.deref_mut.result.now ≡ length c.fill.new.self.bytes.items = ap (λ (ys : List ℕ). length ys) c.deref_mut.ensures.value in
    omega (
      arith,
      had,
      filled_long old.bytes.items c.fill.new.self.bytes.items c.args.len c.fill.ensures.bytes,
      c.len-end.ensures,
      old.bytes.ok.0,
      c.requires.within,
    )

pub copy_down-requires-clause-end : goal.copy_down-requires-clause-end
copy_down-requires-clause-end c =
    let old = c.args.self.now in
    let had : length c.deref_mut.result.now ≡ length c.fill.new.self.bytes.items = ap (λ (ys : List ℕ). length ys) c.deref_mut.ensures.value in
    omega (arith, had, filled_long old.bytes.items c.fill.new.self.bytes.items c.args.len c.fill.ensures.bytes, c.len-end.ensures, old.bytes.ok.0)

pub returns-clause-bytes : goal.returns-clause-bytes
returns-clause-bytes c =
    let old = c.args.self.now in
    let mid = c.fill.new.self in
    let had : c.deref_mut.result.now ≡ mid.bytes.items = c.deref_mut.ensures.value in
    let long : length c.copy_down.new.bytes ≡ mid.bytes.len =
    c.copy_down.ensures.len ∙ (ap (λ (ys : List ℕ). length ys) had ∙ sym mid.bytes.ok.0) in
    with_items_is mid.bytes c.copy_down.new.bytes long
    ∙ (c.copy_down.ensures.bytes
    ∙ (ap (λ (ys : List ℕ). take c.len-end.result ys ++ take (length ys - c.len-end.result) (drop c.args.from (take c.len-end.result ys))) had
    ∙ copied old.bytes.items mid.bytes.items c.args.from c.args.len c.len-end.result c.fill.ensures.bytes (c.len-end.ensures ∙ old.bytes.ok.0)))
