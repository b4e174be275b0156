use Rattle.std.proofs.Common.{◌≡◌, ◌∙◌, ◌+◌, ◌-◌, ◌++◌, take, drop, ap, arith}
use Rattle.std.specs.Prelude.{vec_len}
use Rattle.icn_strings.proofs.AddedBytes.{did, came, room_behind}
use Rattle.icn_strings.proofs.chunk.Chunk.add_one_by_one.Goals as goal

pub unwrap-requires : goal.unwrap-requires
unwrap-requires c = c.extend_from_within.ensures.succeeds (omega (arith, c.requires.room))

pub returns-clause-bytes : goal.returns-clause-bytes
returns-clause-bytes c =
    let old = c.args.self.now in
    let len : (c.args.from + c.args.len) - c.args.from ≡ c.args.len = omega arith in
    did c.extend_from_within.result _ _ _ _ c.unwrap.ensures c.extend_from_within.ensures.items
    ∙ ap (λ n. old.bytes.items ++ take n (drop c.args.from old.bytes.items)) len

pub returns-clause-room : goal.returns-clause-room
returns-clause-room c count room =
    let len : (c.args.from + c.args.len) - c.args.from ≡ c.args.len = omega arith in
    room_behind _ _ _ _ _ count
    (came c.extend_from_within.result _ c.unwrap.ensures c.extend_from_within.ensures.len ∙ ap (λ n. vec_len c.args.self.now.bytes + n) len)
    c.extend_from_within.ensures.capacity room
