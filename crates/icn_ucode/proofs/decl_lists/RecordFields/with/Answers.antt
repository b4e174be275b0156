use Rattle.std.proofs.Common.{◌∙◌, ap, ◌∷◌, ◌++◌, []}
use Rattle.icn_tree.specs.NameSets.{has}
use Rattle.icn_ucode.proofs.KnownNames.{more_names}
use Rattle.icn_ucode.proofs.decl_lists.RecordFields.with.Goals as goal

pub invariant_of-result : goal.invariant_of-result
invariant_of-result c = record {
  known = c.in_ok-meet.ensures.has
      ∙ more_names (has c.args.self.names) c.args.self.fields.items c.push.new.self.items c.args.name.now c.args.self.known
      (c.in_ok-push.ensures.items ∙ ap (λ name. c.args.self.fields.items ++ name ∷ []) c.in_ok-from_slice.ensures);
}
