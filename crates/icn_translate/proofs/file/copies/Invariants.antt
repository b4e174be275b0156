use Rattle.std.proofs.Common.{◌≡◌, ◌++◌, drop}
use Rattle.icn_translate.specs.ProcCodes.{texts_of}
use Rattle.icn_translate.proofs.file.copies.Given as goal

abbrev pub invariant-loop-name : goal.invariant-loop-name
invariant-loop-name l = l.texts.items ++ texts_of (drop l.name-index l.names) ≡ texts_of l.names
