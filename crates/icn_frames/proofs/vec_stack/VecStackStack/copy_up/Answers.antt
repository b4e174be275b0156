use Rattle.std.proofs.Common.{◌≡◌, ◌-◌, ◌<◌, ◌≤◌, ℕ, [], ◌∷◌, ◌++◌, length, take, drop, reverse, ap, ◌∙◌, arith}
use Rattle.std.proofs.lemmas.List.{reverse-append, length-reverse}
use Rattle.icn_frames.proofs.ReversedLists.{reverse_between, copy_more}
use Rattle.icn_frames.proofs.vec_stack.VecStackStack.copy_up.Goals as goal

pub loop-i-preserved : goal.loop-i-preserved
loop-i-preserved g c =
    let s = c.args.self.now.items.items in
    let n : c.loop-i.i < length s = omega (arith, length-reverse s) in
    record {
      items = c.push_reserved.ensures.items ∙ ap (λ w. w ++ c.index-v.result.now ∷ []) c.loop-i.invariant.items
          ∙ copy_more s c.args.from c.loop-i.i c.index-v.result.now c.loop-i.auto.i n
          (rw (c.loop-i.invariant.items) at c.index-v.ensures);
      len = omega arith;
      capacity = c.push_reserved.ensures.capacity ∙ c.loop-i.invariant.capacity;
    }

pub returns-clause-cells : goal.returns-clause-cells
returns-clause-cells g c =
    let s = c.args.self.now.items.items in
    let there : c.loop-i.i ≡ c.args.to = omega arith in
    let n : c.args.to ≤ length s = omega (arith, length-reverse s) in
    ap reverse c.loop-i.invariant.items
    ∙ reverse-append s (take (c.loop-i.i - c.args.from) (drop c.args.from s))
    ∙ ap (λ (k : ℕ). reverse (take (k - c.args.from) (drop c.args.from s)) ++ reverse s) there
    ∙ ap (λ w. w ++ reverse s) (reverse_between c.args.from c.args.to s c.requires.order n)
