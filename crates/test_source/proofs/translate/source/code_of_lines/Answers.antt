use Rattle.std.proofs.Common.{map, subst, sym}
use Rattle.icn_tree.specs.TreeOf.{declaration_of, declarations_of}
use Rattle.icn_translate.specs.NumbersTaken.{HaveRoom}
use Rattle.icn_lex.proofs.ScannedLines.{found_tokens}
use Rattle.icn_units.proofs.RoomOfFiles.{spelled_room}
use Rattle.icn_units.proofs.ParsedTrees.{spelled_by}
use Rattle.test_source.proofs.translate.source.code_of_lines.Goals as goal

pub proc_codes-requires : goal.proc_codes-requires
proc_codes-requires c =
    let lines = c.args.lines.now in
    let file = declarations_of c.in-Ok-parse.file in record {
      room = subst (λ ds. HaveRoom (map declaration_of ds)) (sym c.deref-in-Ok-parse.ensures.value)
          (spelled_room file (spelled_by lines.lines.items c.in-Ok.tokens.items file lines.within
          (found_tokens lines.lines.items c.in-Ok.tokens c.in-Ok.ensures.exact)
          (rw c.deref.ensures.value at c.in-Ok-parse.ensures.exact)));
    }
