use Rattle.std.proofs.Common.{sym, ap, ◌∙◌}
use Rattle.std.specs.Option.{option_map}
use Rattle.icn_code.specs.Codes.{proc_of}
use Rattle.icn_code.specs.CodeTables.{tables_of}
use Rattle.icn_machine.specs.Starting.{launch_with}
use Rattle.icn_machine.proofs.StartSteps.{main_there, start_none}
use Rattle.icn_machine.proofs.starting.start.Goals as goal

pub returns-in_default-clause-step : goal.returns-in_default-clause-step
returns-in_default-clause-step g c outside =
    start_none (tables_of c.args.code.now) (launch_with c.args.words.now c.args.limits outside) (sym c.main_of.ensures ∙ c.in_default.is)

pub start_main-requires-clause-found : goal.start_main-requires-clause-found
start_main-requires-clause-found g c = sym c.main_of.ensures ∙ c.in-Some.is

pub start_main-requires-clause-there : goal.start_main-requires-clause-there
start_main-requires-clause-there g c = sym c.proc_at.ensures ∙ ap (option_map (λ proc. proc_of proc.now)) c.in-Some-proc_at.is

pub unreachable-requires : goal.unreachable-requires
unreachable-requires g c =
    main_there (tables_of c.args.code.now) c.in-Some.main c.args.code.now.rules (sym c.main_of.ensures ∙ c.in-Some.is)
    (sym c.proc_at.ensures ∙ ap (option_map (λ proc. proc_of proc.now)) c.in-None.is)
