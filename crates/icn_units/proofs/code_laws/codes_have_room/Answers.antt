use Rattle.icn_units.proofs.RoomOfFiles.{checked_room}
use Rattle.icn_units.proofs.code_laws.codes_have_room.Goals as goal

pub returns : goal.returns
returns c file spelled = checked_room file spelled
