use Rattle.std.proofs.Common.{map, sym, ◌∙◌}
use Rattle.icn_unit.specs.UnitViews.{decl_seen, proc_seen}
use Rattle.icn_ucode.proofs.KeptRules.{rules_kept}
use Rattle.icn_ucode.proofs.reader.read_unit.Goals as goal

pub invariant_of-result : goal.invariant_of-result
invariant_of-result c = record {
  rules = rules_kept c.args.u1.now c.args.u2.now (map proc_seen c.in-Ok.procs.procs.items)
      (map decl_seen c.in-Ok-read_decls.decls.items) c.in-Ok.ensures c.in-Ok-read_decls.ensures
      (rw (c.deref.ensures.value, c.deref-2.ensures.value) at (sym c.same_names.ensures ∙ c.if-not-same_names.false));
}
