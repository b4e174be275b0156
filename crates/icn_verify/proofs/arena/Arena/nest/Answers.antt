use Rattle.std.proofs.Common.{◌≡◌, ◌<◌, ◌≤◌, ◌+◌, ◌∷◌, length, sym, ap, subst, ◌∙◌, arith}
use Rattle.icn_verify.specs.Stacks.{stack_at, stacks_of, StacksGrow}
use Rattle.icn_verify.proofs.KeptStacks.{once_entered, grows_entered, kept_stack, entry_stack, entry_held, more_entered}
use Rattle.icn_verify.proofs.arena.Arena.nest.Goals as goal

pub invariant_of-self-2 : goal.invariant_of-self-2
invariant_of-self-2 c =
    once_entered c.self.inside.entries.keys _ _ c.self.invariant (subst (λ s. c.args.outer < length s) (sym c.self.view_is) c.requires.held)
    c.in_ok-index.ensures.entered

pub returns-clause-grows : goal.returns-clause-grows
returns-clause-grows c =
    subst (λ s. StacksGrow s (stacks_of c.enter_level.new.entries.keys)) c.self.view_is
    (grows_entered c.self.inside.entries.keys _ _ c.in_ok-index.ensures.entered)

pub returns-clause-held : goal.returns-clause-held
returns-clause-held c = rw c.number_of.ensures (entry_held _ _ _ c.in_ok-index.ensures.index)

pub returns-clause-stack : goal.returns-clause-stack
returns-clause-stack c =
    let held : c.args.outer < length (stacks_of c.self.inside.entries.keys) = subst (λ s. c.args.outer < length s) (sym c.self.view_is) c.requires.held in
    let once = once_entered c.self.inside.entries.keys _ _ c.self.invariant held c.in_ok-index.ensures.entered in
    let grows = grows_entered c.self.inside.entries.keys _ _ c.in_ok-index.ensures.entered in
    rw c.number_of.ensures (entry_stack _ _ _ once c.in_ok-index.ensures.index
    ∙ ap (λ s. c.args.level ∷ s) (kept_stack _ _ c.args.outer grows held ∙ ap (λ s. stack_at s c.args.outer) c.self.view_is))

pub returns-clause-more : goal.returns-clause-more
returns-clause-more c =
    subst (λ s. length (stacks_of c.enter_level.new.entries.keys) ≤ length s + 1) c.self.view_is
    (more_entered c.self.inside.entries.keys _ _ c.in_ok-index.ensures.entered)

pub number_of-requires : goal.number_of-requires
number_of-requires c =
    let long : length (stacks_of c.self.inside.entries.keys) ≡ length c.args.self.now = ap length c.self.view_is in
    let more : length (stacks_of c.enter_level.new.entries.keys)
    ≤ length (stacks_of c.self.inside.entries.keys) + 1 = more_entered c.self.inside.entries.keys _ _ c.in_ok-index.ensures.entered in
    let held : c.in_ok-index.index + 1 < length (stacks_of c.enter_level.new.entries.keys) = entry_held _ _ _ c.in_ok-index.ensures.index in
    omega (arith, c.requires.room)
