use Rattle.std.proofs.Common.{◌≡◌, ◌++◌, true, List, length, map, sym, ap, ◌∙◌, subst}
use Rattle.std.specs.List.{list_all}
use Rattle.std.proofs.lemmas.List.Elements.{All-nil, All-push, All-same}
use Rattle.icn_value.specs.declared.val.Val.{Val}
use Rattle.icn_heap.specs.Extents.{IsLive, value_in}
use Rattle.icn_code.specs.declared.code.Global.{Global}
use Rattle.icn_code.specs.Rules.{is_global}
use Rattle.icn_code.specs.CodeTables.{tables_of}
use Rattle.icn_run.specs.Step.{global_value}
use Rattle.icn_machine.proofs.StartLoops.{all_globals, first_fits, one_global, start_fits}
use Rattle.icn_machine.proofs.StartSteps.{globals_fit}
use Rattle.icn_machine.proofs.starting.first_globals.Goals as goal

pub loop-first-init : goal.loop-first-init
loop-first-init c =
    let t = tables_of c.args.code.now in
    record {
      values =
          λ all. ap (λ (xs : List Val). map (value_in all) xs ++ map (global_value t) c.as_slice-rest.result.now) c.new-vals.ensures.items
          ∙ ap (map (global_value t)) c.as_slice-rest.ensures.value;
      live = λ all. All-same (IsLive all) _ _ c.new-vals.ensures.items (All-nil (IsLive all));
      fits =
          subst (λ (xs : List Global). list_all (is_global (length t.strings) (length t.records) (length t.procs)) xs ≡ true)
          (sym c.as_slice-rest.ensures.value) (globals_fit t c.args.code.now.rules);
    }

pub start_value-requires : goal.start_value-requires
start_value-requires c =
    let t = tables_of c.args.code.now in
    start_fits _ _
    (first_fits (is_global (length t.strings) (length t.records) (length t.procs)) c.in-Some.first.now c.in-Some.others.now c.loop-first.rest.now
    c.in-Some.ensures.cases.0 c.loop-first.invariant.fits).0

pub loop-first-preserved : goal.loop-first-preserved
loop-first-preserved c =
    let t = tables_of c.args.code.now in
    record {
      values = λ all.
          one_global t all c.loop-first.vals.items c.add.new.vals.items c.in-Some.first.now c.in-Some.others.now c.loop-first.rest.now c.start_value.result
          c.in-Some.ensures.cases.0 c.in_ok-add.ensures
          (c.start_value.ensures.value all) (c.loop-first.invariant.values all);
      live =
          λ all. All-same (IsLive all) _ _ c.in_ok-add.ensures (All-push (IsLive all) _ _ (c.loop-first.invariant.live all) (c.start_value.ensures.live all));
      fits =
          (first_fits (is_global (length t.strings) (length t.records) (length t.procs)) c.in-Some.first.now c.in-Some.others.now c.loop-first.rest.now
          c.in-Some.ensures.cases.0 c.loop-first.invariant.fits).1;
    }

pub returns-clause-values : goal.returns-clause-values
returns-clause-values c all =
    all_globals (tables_of c.args.code.now) all c.loop-first.vals.items c.loop-first.rest.now c.in_default.ensures.cases (c.loop-first.invariant.values all)
