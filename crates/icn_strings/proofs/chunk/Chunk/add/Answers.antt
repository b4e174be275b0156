use Rattle.icn_strings.proofs.AddedBytes.{did, room_behind}
use Rattle.icn_strings.proofs.chunk.Chunk.add.Goals as goal

pub unwrap-requires : goal.unwrap-requires
unwrap-requires c = c.extend_from_slice.ensures.succeeds c.requires

pub returns-clause-bytes : goal.returns-clause-bytes
returns-clause-bytes c = did c.extend_from_slice.result _ _ _ _ c.unwrap.ensures c.extend_from_slice.ensures.items

pub returns-clause-room : goal.returns-clause-room
returns-clause-room c count room =
    room_behind _ _ _ _ _ count (did c.extend_from_slice.result _ _ _ _ c.unwrap.ensures c.extend_from_slice.ensures.len)
    c.extend_from_slice.ensures.capacity room
