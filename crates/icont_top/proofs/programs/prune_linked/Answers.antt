use Rattle.std.proofs.Common.{◌∙◌, ℕ, List, ap, subst, sym}
use Rattle.icn_code.specs.CodeTables.{tables_of}
use Rattle.icn_prune.specs.KeptCode.{MayBeKept, kept_of}
use Rattle.icont_top.proofs.programs.prune_linked.Goals as goal

pub prune-requires : goal.prune-requires
prune-requires c =
    let tables = tables_of c.args.linked.code in
    record {
      kept = subst (MayBeKept tables)
          (sym (c.deref-2.ensures.value ∙ c.in-Ok.ensures ∙ ap (λ (named : List ℕ). kept_of tables named c.args.linked.all) c.deref.ensures.value))
          (c.kept_is_least.ensures.of_code tables c.args.linked.named.items c.args.linked.all c.args.linked.code.rules c.requires.named);
    }
