use Rattle.std.proofs.Common.{length, map}
use Rattle.icn_tree.specs.TreeOf.{declaration_of}
use Rattle.icn_parse.proofs.FileLoop.{FileSo}
use Rattle.icn_parse.proofs.file.read_file.Given as goal

-- what was read, and what stands behind it, is all of it
abbrev pub invariant-loop-rest : goal.invariant-loop-rest
invariant-loop-rest l = FileSo l.tokens l.all.high (map declaration_of l.all.decls.items) l.rest

abbrev pub decreases-loop-rest : goal.decreases-loop-rest
decreases-loop-rest l = length l.rest
