use Rattle.std.proofs.Common.{◌≡◌, ◌∙◌, ◌-◌, ◌≤◌, ℕ, suc, length, drop, slice_set, refl, ap, subst, arith, IsSome}
use Rattle.std.proofs.lemmas.List.{length-set}
use Rattle.icn_control.specs.TakenOperands.{taken_onto}
use Rattle.icn_control.proofs.TakenOperandSteps.{none_taken, pop_there, one_taken}
use Rattle.icn_control.proofs.operands.fill_with_operands.Goals as goal

pub loop-left-init : goal.loop-left-init
loop-left-init g c = record { same = refl; few = omega arith; is = none_taken c.args.frames.now.flat c.args.items.now; spare = refl }

pub pop-requires : goal.pop-requires
pop-requires g c =
    let e : c.loop-left.left ≡ suc (c.loop-left.left - 1) = omega (arith, c.loop-left-test.true) in
    pop_there (c.loop-left.left - 1) c.loop-left.frames.flat (drop c.loop-left.left c.loop-left.items)
    (subst IsSome (c.loop-left.invariant.is ∙ ap (λ (j : ℕ). taken_onto j c.loop-left.frames.flat (drop c.loop-left.left c.loop-left.items)) e) c.requires)

pub loop-left-preserved : goal.loop-left-preserved
loop-left-preserved g c =
    let left : ℕ = c.loop-left.left in
    let e : left ≡ suc (left - 1) = omega (arith, c.loop-left-test.true) in
    let long : length (slice_set c.loop-left.items (left - 1) c.pop.result) ≡ length c.loop-left.items = length-set c.loop-left.items (left - 1) c.pop.result in
    let few : left - 1 ≤ length (slice_set c.loop-left.items (left - 1) c.pop.result) = omega (arith, long, c.loop-left.invariant.few) in
    record {
      same = long ∙ c.loop-left.invariant.same;
      few = few;
      is = c.loop-left.invariant.is ∙ ap (λ (j : ℕ). taken_onto j c.loop-left.frames.flat (drop j c.loop-left.items)) e
          ∙ one_taken (left - 1) c.loop-left.frames.flat c.pop.new.self.flat c.pop.result c.loop-left.items
          (omega (arith, c.loop-left-test.true, c.loop-left.invariant.few)) c.pop.ensures.flat;
      spare = omega (arith, c.loop-left-test.true, c.pop.ensures.spare, c.loop-left.invariant.spare);
    }

pub returns-clause-taken : goal.returns-clause-taken
returns-clause-taken g c =
    let e : c.loop-left.left ≡ 0 = omega (arith, c.loop-left-test.false) in
    c.loop-left.invariant.is ∙ ap (λ (j : ℕ). taken_onto j c.loop-left.frames.flat (drop j c.loop-left.items)) e
