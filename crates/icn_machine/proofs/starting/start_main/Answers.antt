use Rattle.icn_code.specs.Codes.{proc_of}
use Rattle.icn_code.specs.CodeTables.{tables_of}
use Rattle.icn_machine.specs.Starting.{launch_with}
use Rattle.icn_machine.proofs.StartSteps.{starts_with_halt, words_stop}
use Rattle.icn_machine.proofs.starting.start_main.Goals as goal

pub returns-in-Err-clause-step : goal.returns-in-Err-clause-step
returns-in-Err-clause-step g c outside =
    let t = tables_of c.args.code.now in
    let launch = launch_with c.args.words.now c.args.limits outside in
    starts_with_halt g.row.K.Denot t launch c.about_nothing.result _ c.about_nothing.ensures
    (words_stop g.row.K.Denot Unit t launch c.args.main (proc_of c.args.proc.now) c.in-Err.stop c.requires.found c.requires.there c.in-Err.ensures.step)
