use Rattle.std.proofs.Common.{refl, subst, rules}
use Rattle.icn_control.specs.declared.machine.RunState.{RunState}
use Rattle.icn_machine.specs.Stepping.{IsReady, advances, stays}
use Rattle.icn_machine.proofs.failing.fail_turn.Goals as goal

pub fail_to_turn-requires : goal.fail_to_turn-requires
fail_to_turn-requires g c =
    record {
      ready = (
        c.requires.ready.0,
        (c.requires.ready.1.0, subst (λ (s : RunState). IsReady c.requires.ready.0 c.args.m.now s) c.in-Failing.is c.requires.ready.1.1),
      );
    }

pub hop_next-requires : goal.hop_next-requires
hop_next-requires g c =
    record { ready = (c.requires.ready.0, subst (λ (s : RunState). IsReady c.requires.ready.0 c.args.m.now s) c.in-Hopping.is c.requires.ready.1.1) }

pub returns-in-Failing-clause-steps : goal.returns-in-Failing-clause-steps
returns-in-Failing-clause-steps g c tables named ready =
    rw c.in-Failing.is (c.fail_to_turn.ensures.steps tables named (subst (λ (s : RunState). IsReady tables c.args.m.now s) c.in-Failing.is ready))

pub returns-in-Failing-clause-ready : goal.returns-in-Failing-clause-ready
returns-in-Failing-clause-ready g c tables named ready =
    c.fail_to_turn.ensures.ready tables named (subst (λ (s : RunState). IsReady tables c.args.m.now s) c.in-Failing.is ready)

pub returns-in-Failing-clause-turn : goal.returns-in-Failing-clause-turn
returns-in-Failing-clause-turn g c = c.fail_to_turn.ensures.turn

pub returns-in-Failing-clause-within : goal.returns-in-Failing-clause-within
returns-in-Failing-clause-within g c = record {
  halt = c.fail_to_turn.ensures.within.halt;
  limits = c.fail_to_turn.ensures.within.limits;
}

pub returns-in-Hopping-clause-steps : goal.returns-in-Hopping-clause-steps
returns-in-Hopping-clause-steps g c tables named ready =
    rw c.in-Hopping.is (advances (c.hop_next.ensures.steps tables _ (subst (λ (s : RunState). IsReady tables c.args.m.now s) c.in-Hopping.is ready)))

pub returns-in-Hopping-clause-ready : goal.returns-in-Hopping-clause-ready
returns-in-Hopping-clause-ready g c tables named ready =
    c.hop_next.ensures.ready tables (subst (λ (s : RunState). IsReady tables c.args.m.now s) c.in-Hopping.is ready)

pub returns-in-Hopping-clause-turn : goal.returns-in-Hopping-clause-turn
returns-in-Hopping-clause-turn g c = c.hop_next.ensures.turn

pub returns-in-Hopping-clause-within : goal.returns-in-Hopping-clause-within
returns-in-Hopping-clause-within g c = record {
  halt = search rules;
  limits = c.hop_next.ensures.limits;
}

pub returns-in-Running-clause-steps : goal.returns-in-Running-clause-steps
returns-in-Running-clause-steps g c tables named ready = rw c.in-Running.is (stays refl refl refl)

pub returns-in-Running-clause-ready : goal.returns-in-Running-clause-ready
returns-in-Running-clause-ready g c tables named ready = subst (λ (s : RunState). IsReady tables c.args.m.now s) c.in-Running.is ready

pub returns-in-Running-clause-within : goal.returns-in-Running-clause-within
returns-in-Running-clause-within g c = record {
  halt = search rules;
  limits = refl;
}

pub returns-in-Over-clause-steps : goal.returns-in-Over-clause-steps
returns-in-Over-clause-steps g c tables named ready = rw c.in-Over.is (stays refl refl refl)

pub returns-in-Over-clause-ready : goal.returns-in-Over-clause-ready
returns-in-Over-clause-ready g c tables named ready = subst (λ (s : RunState). IsReady tables c.args.m.now s) c.in-Over.is ready

pub returns-in-Over-clause-within : goal.returns-in-Over-clause-within
returns-in-Over-clause-within g c = record {
  halt = search rules;
  limits = refl;
}

pub returns-in-AtBound-clause-steps : goal.returns-in-AtBound-clause-steps
returns-in-AtBound-clause-steps g c tables named ready = rw c.in-AtBound.is (stays refl refl refl)

pub returns-in-AtBound-clause-ready : goal.returns-in-AtBound-clause-ready
returns-in-AtBound-clause-ready g c tables named ready = subst (λ (s : RunState). IsReady tables c.args.m.now s) c.in-AtBound.is ready

pub returns-in-AtBound-clause-within : goal.returns-in-AtBound-clause-within
returns-in-AtBound-clause-within g c = record {
  halt = search rules;
  limits = refl;
}
