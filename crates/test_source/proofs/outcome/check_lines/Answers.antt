use Rattle.icn_tree.specs.TreeOf.{declarations_of}
use Rattle.icn_lex.proofs.ScannedLines.{found_tokens}
use Rattle.icn_decls.specs.CheckedTexts.{IsSpelled}
use Rattle.test_source.proofs.ParsedTrees.{spelled_by}
use Rattle.test_source.proofs.outcome.check_lines.Goals as goal

pub check-requires : goal.check-requires
check-requires c =
    let lines = c.args.lines.now in record {
      spelled = spelled_by lines.lines.items c.in-Ok.tokens.items (declarations_of c.in-Ok-parse.file) lines.within
          (found_tokens lines.lines.items c.in-Ok.tokens c.in-Ok.ensures.exact)
          (rw c.deref.ensures.value at c.in-Ok-parse.ensures.exact);
    }
