use Rattle.std.proofs.Common.{◌≡◌, ◌∙◌, ◌+◌, ◌-◌, ◌++◌, List, ℕ, length, take, replicate, ap, arith}
use Rattle.std.specs.Prelude.{vec_len}
use Rattle.std.proofs.lemmas.List.{take_all}
use Rattle.icn_strings.proofs.AddedBytes.{did, room_behind}
use Rattle.icn_strings.proofs.chunk.Chunk.fill.Goals as goal

-- what was there, and the byte so many times
filled : (old : List ℕ) (end len count byte : ℕ) → len ≡ length old → end ≡ len + count
    → take end old ++ replicate (end - len) byte ≡ old ++ replicate count byte
filled old end len count byte long ends =
    let more : end - len ≡ count = omega (arith, ends) in
    ap (λ (ys : List ℕ). ys ++ replicate (end - len) byte) (take_all end old (omega (arith, long, ends)))
    ∙ ap (λ n. old ++ replicate n byte) more

pub unwrap-requires : goal.unwrap-requires
unwrap-requires c = c.resize.ensures.succeeds (omega (arith, c.requires, c.len.ensures))

pub returns-clause-bytes : goal.returns-clause-bytes
returns-clause-bytes c =
    let old = c.args.self.now in
    did c.resize.result _ _ _ _ c.unwrap.ensures c.resize.ensures.items
    ∙ filled old.bytes.items _ (vec_len old.bytes) c.args.count c.args.byte old.bytes.ok.0 (omega (arith, c.len.ensures))

pub returns-clause-room : goal.returns-clause-room
returns-clause-room c more room =
    room_behind _ _ _ _ c.args.count more
    (did c.resize.result _ _ _ _ c.unwrap.ensures c.resize.ensures.len ∙ ap (λ n. n + c.args.count) c.len.ensures) c.resize.ensures.capacity room
