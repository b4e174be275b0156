use Rattle.std.proofs.Common.{ap, arith, ◌∙◌}
use Rattle.icn_unit.specs.UnitViews.{proc_seen}
use Rattle.icn_link.specs.Joined.{locals_in, scope_with, statics_in, variables}
use Rattle.icn_link.specs.Resolving.{label_address, resolve}
use Rattle.icn_link.specs.Views.{gathered_seen, address_in}
use Rattle.icn_link.proofs.KeptProcs.{entry_made, params_local}
use Rattle.icn_link.proofs.linking.entry.Goals as goal

pub entry_with-requires-clause-params : goal.entry_with-requires-clause-params
entry_with-requires-clause-params c =
    omega (
      arith,
      params_local (gathered_seen c.args.tables.now).globals c.args.proc.now.names.items,
      c.locals_in-locals.ensures,
      ap (locals_in (gathered_seen c.args.tables.now).globals) c.deref-5.ensures.value,
    )

pub returns : goal.returns
returns c =
    c.entry_with.ensures
    ∙ entry_made (gathered_seen c.args.tables.now) (proc_seen c.args.proc.now) c.deref-3.result.now (address_in c.in_ok-labels.labels) c.locals_in-locals.result
    c.statics_in-statics.result c.in_ok-instrs.instrs.items
    (c.deref-3.ensures.value ∙ (c.in_ok-names.ensures ∙ ap (variables (gathered_seen c.args.tables.now).globals 0 0) c.deref.ensures.value))
    (λ label. c.in_ok-labels.ensures label ∙ ap (label_address label) c.deref-2.ensures.value)
    (c.locals_in-locals.ensures ∙ ap (locals_in (gathered_seen c.args.tables.now).globals) c.deref-5.ensures.value)
    (c.statics_in-statics.ensures ∙ ap (statics_in (gathered_seen c.args.tables.now).globals) c.deref-6.ensures.value)
    (c.in_ok-instrs.ensures
    ∙ ap (resolve (scope_with (gathered_seen c.args.tables.now) c.deref-3.result.now (address_in c.in_ok-labels.labels))) c.deref-4.ensures.value)
