use Rattle.std.proofs.Common.{◌≡◌, ◌-◌, ◌<◌, ◌≤◌, length, None, sym, ap, subst, ◌∙◌, arith}
use Rattle.std.specs.Option.{option_map}
use Rattle.icn_verify.specs.Shapes.{shape_outside}
use Rattle.icn_verify.specs.Stacks.{stack_at, stacks_of, shape_in}
use Rattle.icn_verify.proofs.KeptStacks.{no_mark, mark_kept, mark_held}
use Rattle.icn_verify.proofs.arena.Arena.before_mark.Goals as goal

pub returns-in_err-index-clause-shape : goal.returns-in_err-index-clause-shape
returns-in_err-index-clause-shape c =
    ap (option_map (shape_in c.args.self.now)) c.from_residual.ensures
    ∙ sym (subst (λ s. shape_outside c.args.flat.in_create (stack_at s c.args.flat.outer) ≡ None) c.self.view_is
    (no_mark c.self.inside.entries.keys c.args.flat.in_create c.args.flat.outer c.in_err-index.ensures))

pub returns-in_err-entry-clause-shape : goal.returns-in_err-entry-clause-shape
returns-in_err-entry-clause-shape c =
    let held : c.args.flat.outer < length (stacks_of c.self.inside.entries.keys) = subst (λ s. c.args.flat.outer < length s) (sym c.self.view_is) c.requires in
    let least : 1 ≤ c.args.flat.outer = c.in_ok-index.ensures.0 in
    let less : c.in_ok-index.index ≡ c.args.flat.outer - 1 = c.in_ok-index.ensures.1 in
    absurd (mark_kept c.self.inside.entries.keys c.args.flat.outer c.in_ok-index.index held least (omega arith) c.in_err-entry.ensures.key)

pub returns-clause-held : goal.returns-clause-held
returns-clause-held c =
    let held : c.args.flat.outer < length (stacks_of c.self.inside.entries.keys) = subst (λ s. c.args.flat.outer < length s) (sym c.self.view_is) c.requires in
    let least : 1 ≤ c.args.flat.outer = c.in_ok-index.ensures.0 in
    let less : c.in_ok-index.index ≡ c.args.flat.outer - 1 = c.in_ok-index.ensures.1 in
    subst (λ s. c.in_ok-entry.entry.now.outer < length s) c.self.view_is
    (mark_held c.self.inside.entries.keys c.in_ok-entry.entry.now c.args.flat.outer c.in_ok-index.index c.self.invariant held
    (omega arith) c.in_ok-entry.ensures.key)
