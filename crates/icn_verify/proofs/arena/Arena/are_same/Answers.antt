use Rattle.std.proofs.Common.{◌≡◌, ◌<◌, nat_eq, length, sym, ap, subst, ◌∙◌}
use Rattle.icn_verify.specs.Passing.{same_levels}
use Rattle.icn_verify.specs.Stacks.{stack_at, stacks_of}
use Rattle.icn_verify.proofs.KeptStacks.{same_numbers}
use Rattle.icn_verify.proofs.EntryTests.{flat_tested}
use Rattle.icn_verify.proofs.arena.Arena.are_same.Goals as goal

pub returns : goal.returns
returns c =
    let one : c.args.one.outer < length (stacks_of c.self.inside.entries.keys) = subst (λ s. c.args.one.outer < length s) (sym c.self.view_is) c.requires.one in
    let other : c.args.other.outer
    < length (stacks_of c.self.inside.entries.keys) = subst (λ s. c.args.other.outer < length s) (sym c.self.view_is) c.requires.other in
    let numbers : nat_eq c.args.one.outer c.args.other.outer
    ≡ same_levels (stack_at c.args.self.now c.args.one.outer) (stack_at c.args.self.now c.args.other.outer) =
    same_numbers c.self.inside.entries.keys c.self.invariant c.args.one.outer c.args.other.outer one other
    ∙ ap (λ s. same_levels (stack_at s c.args.one.outer) (stack_at s c.args.other.outer)) c.self.view_is in
    c.eq.ensures ∙ flat_tested c.args.one.in_create c.args.other.in_create c.args.one.inner c.args.other.inner _ _ numbers
