-- A file passes where it is open for writing.
use Rattle.std.proofs.Common.{subst}
use Rattle.icn_heap.specs.Extents.{IsLive}
use Rattle.icn_heap.specs.Heaps.{extent_of}
use Rattle.icn_iofn.proofs.pieces.check_piece.Goals as goal

pub check_file-requires : goal.check_file-requires
check_file-requires c = subst (IsLive (extent_of c.args.heap.now)) c.in-Std.is c.requires

pub returns-in-Std-clause-found : goal.returns-in-Std-clause-found
returns-in-Std-clause-found c = rw c.in-Std.is c.check_file.ensures.found
