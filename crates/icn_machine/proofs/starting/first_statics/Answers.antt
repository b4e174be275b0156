use Rattle.std.proofs.Common.{◌++◌, List, map, replicate, ap, ◌∙◌}
use Rattle.std.specs.List.{sum_by}
use Rattle.icn_value.specs.declared.val.Val.{Val}
use Rattle.icn_value.specs.declared.val.Val.TheVariants.{Null}
use Rattle.icn_code.specs.declared.code.LinkedProcedure.{LinkedProcedure}
use Rattle.icn_code.specs.Codes.{proc_of}
use Rattle.icn_code.specs.CodeTables.{tables_of}
use Rattle.icn_run.specs.Step.{statics_of}
use Rattle.icn_machine.proofs.StartLoops.{all_statics, one_static}
use Rattle.icn_machine.proofs.starting.first_statics.Goals as goal

pub loop-first-init : goal.loop-first-init
loop-first-init c =
    record {
      is = ap (λ (xs : List Val). xs ++ replicate (sum_by statics_of (map proc_of c.as_slice-rest.result.now)) Null) c.new-vals.ensures.items
          ∙ ap (λ (ps : List LinkedProcedure). replicate (sum_by statics_of (map proc_of ps)) Null) c.as_slice-rest.ensures.value;
    }

pub loop-first-preserved : goal.loop-first-preserved
loop-first-preserved c =
    record {
      is =
          one_static (tables_of c.args.code.now) c.loop-first.vals.items c.add_nulls.new.vals.items c.in-Some.first.now c.in-Some.others.now
          c.loop-first.rest.now c.in-Some.ensures.cases.0 c.in_ok-add_nulls.ensures c.loop-first.invariant.is;
    }

pub returns : goal.returns
returns c = all_statics (tables_of c.args.code.now) c.loop-first.vals.items c.loop-first.rest.now c.in_default.ensures.cases c.loop-first.invariant.is
