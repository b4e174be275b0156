use Rattle.std.proofs.Common.{◌<◌, ◌^◌, Option, IfSome, refl, subst, sym, ℕ}
use Rattle.icn_vars.specs.Outcomes.{IsLiveOutcome, outcome_in}
use Rattle.icn_vars.specs.declared.outcome.Outcome.TheVariants as Outcomes
use Rattle.icn_frames.specs.Stacks.{local_count}
use Rattle.law_names.specs.RowsNamed.{OutcomeNamed}
use Rattle.icn_control.specs.LiveStacks.{with_locals}
use Rattle.icn_control.specs.declared.machine.RunState.TheVariants as RunStates
use Rattle.icn_machine.specs.Giving.{GivesOutcome}
use Rattle.icn_machine.specs.PlainScans.{members_outcome}
use Rattle.icn_machine.proofs.GiveSteps.{fails_given}
use Rattle.icn_machine.proofs.scanning.give_members.Goals as goal

pub give_first-requires : goal.give_first-requires
give_first-requires g c = subst (λ (found : Option ℕ). IfSome found (λ place. place < 2 ^ 63)) c.in-Some.is c.requires

pub returns-in_ok-give_first-in-Some-clause-gives : goal.returns-in_ok-give_first-in-Some-clause-gives
returns-in_ok-give_first-in-Some-clause-gives g c =
    subst (λ (found : Option ℕ). GivesOutcome (members_outcome c.args.world.now c.args.wanted.now found) c.args.frames.now.flat c.give_first.new.frames.flat
    RunStates.Running) (sym c.in-Some.is) c.in_ok-give_first-in-Some.ensures.gives

pub returns-in_ok-give_first-in-Some-clause-live : goal.returns-in_ok-give_first-in-Some-clause-live
returns-in_ok-give_first-in-Some-clause-live g c t reach l i =
    c.in_ok-give_first-in-Some.ensures.live t reach l
    (subst (λ (found : Option ℕ). IsLiveOutcome (with_locals (local_count c.args.frames.now.flat) reach)
    (members_outcome c.args.world.now c.args.wanted.now found)) c.in-Some.is i)

pub returns-in_ok-give_first-in-Some-clause-named : goal.returns-in_ok-give_first-in-Some-clause-named
returns-in_ok-give_first-in-Some-clause-named g c names all seen h o =
    c.in_ok-give_first-in-Some.ensures.named names all seen h
    (subst (λ (found : Option ℕ). OutcomeNamed names (outcome_in all (members_outcome c.args.world.now c.args.wanted.now found) seen)) c.in-Some.is o)

pub returns-in-None-clause-gives : goal.returns-in-None-clause-gives
returns-in-None-clause-gives g c =
    subst (λ (found : Option ℕ). GivesOutcome (members_outcome c.args.world.now c.args.wanted.now found) c.args.frames.now.flat c.args.frames.now.flat
    RunStates.Failing) (sym c.in-None.is) (fails_given Outcomes.Fails c.args.frames.now.flat refl)

pub returns-in-None-clause-live : goal.returns-in-None-clause-live
returns-in-None-clause-live g c t reach l i = l

pub returns-in-None-clause-named : goal.returns-in-None-clause-named
returns-in-None-clause-named g c names all seen h o = h
