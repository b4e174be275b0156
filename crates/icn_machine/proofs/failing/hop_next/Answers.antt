use Rattle.icn_machine.proofs.FailingSteps.{hopped_kept, hopped_quietly, hopped_turn}
use Rattle.icn_machine.proofs.failing.hop_next.Goals as goal

pub hop-requires-clause-due : goal.hop-requires-clause-due
hop-requires-clause-due g c = c.requires.ready.1.stack

pub hop-requires-clause-bounds : goal.hop-requires-clause-bounds
hop-requires-clause-bounds g c = c.requires.ready.1.sound.bounds

pub returns-clause-steps : goal.returns-clause-steps
returns-clause-steps g c tables h ready = hopped_quietly tables c.args.m.now c.hop.new.m h c.hop.result (c.hop.ensures.step tables)

pub returns-clause-ready : goal.returns-clause-ready
returns-clause-ready g c tables ready = record {
  sound = c.hop.ensures.keeps.sound tables ready.sound;
  stack = c.hop.ensures.keeps.stack;
  kept =
      hopped_kept tables c.steps_keep_names.ensures.kept c.steps_keep_sizes.ensures.kept c.args.m.now c.hop.new.m c.hop.result ready.kept
      (c.hop.ensures.step tables);
}

pub returns-clause-turn : goal.returns-clause-turn
returns-clause-turn g c =
    hopped_turn c.requires.ready.0 c.args.m.now c.hop.new.m c.hop.result c.requires.ready.1.sound.bounds (c.hop.ensures.step c.requires.ready.0)

pub returns-clause-limits : goal.returns-clause-limits
returns-clause-limits g c = c.hop.ensures.keeps.limits
