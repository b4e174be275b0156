use Rattle.std.proofs.Common.{◌∙◌, ap, subst}
use Rattle.icn_value.specs.Values.{Input, Std}
use Rattle.icn_defs.specs.Arguments.{file, value_or}
use Rattle.icn_heap.specs.Keys.{file_of}
use Rattle.icn_args.specs.RowWords.{IsFound}
use Rattle.icn_iofn.proofs.arguments.file_arg.Goals as goal

pub returns-clause-found : goal.returns-clause-found
returns-clause-found c = λ all setting.
    subst (λ value. IsFound all (file value) setting setting file_of c.file_of.result)
    (c.value_or.ensures.value all ∙ ap (value_or (Std Input)) (c.arg.ensures.value all)) (c.file_of.ensures.found all setting)

pub returns-clause-stops : goal.returns-clause-stops
returns-clause-stops c = λ all live. c.file_of.ensures.stops all (c.value_or.ensures.live all (record { live = tt }) (c.arg.ensures.live all live))

pub returns-clause-live : goal.returns-clause-live
returns-clause-live c = λ all live. c.file_of.ensures.live all (c.value_or.ensures.live all (record { live = tt }) (c.arg.ensures.live all live))
