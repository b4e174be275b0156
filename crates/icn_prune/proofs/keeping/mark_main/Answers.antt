use Rattle.std.proofs.Common.{sym, ◌∙◌}
use Rattle.icn_code.specs.CodeTables.{tables_of}
use Rattle.icn_prune.proofs.KeptWalk.{main_there}
use Rattle.icn_prune.proofs.keeping.mark_main.Goals as goal

pub mark-requires : goal.mark-requires
mark-requires c = record {
  there = main_there (tables_of c.args.code.now) c.args.code.now.rules c.args.marks.now.keep.items c.requires.as_many c.in-Some.number
      (sym c.main_of.ensures ∙ c.in-Some.is);
}
