use Rattle.std.proofs.Common.{◌<◌, length, sym, ap, subst, ◌∙◌, arith}
use Rattle.icn_verify.specs.Stacks.{stack_at}
use Rattle.icn_verify.proofs.KeptStacks.{first_stack, length-stacks_of}
use Rattle.icn_verify.proofs.arena.Arena.start.Goals as goal

pub returns-clause-shape : goal.returns-clause-shape
returns-clause-shape c =
    let first = ap (λ s. stack_at s 0) (sym c.self.view_is) ∙ first_stack c.self.inside.entries.keys in
    λ i. record { in_create = c.args.in_create; inner = c.empty.ensures i; outer = first i }

pub returns-clause-held : goal.returns-clause-held
returns-clause-held c = subst (λ s. 0 < length s) c.self.view_is (let e = length-stacks_of c.self.inside.entries.keys in omega arith)
