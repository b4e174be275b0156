use Rattle.std.proofs.Common.{◌≡◌, ◌<◌, ◌+◌, ℕ, List, ◌∷◌, length, Some, sym, ap, ◌∙◌, arith}
use Rattle.icn_frames.specs.Heights.{cell_at}
use Rattle.icn_frames.proofs.Numbered.{copy_next, copied_at, copied_within}
use Rattle.icn_segments.specs.RawStacks.{values_of}
use Rattle.icn_segments.proofs.raw_stack.RawStackStack.copy_up.Goals as goal

pub get-v-requires : goal.get-v-requires
get-v-requires g c =
    let s = values_of c.args.self.now in
    let p : c.loop-i.i < length s = omega (arith, c.requires.within) in
    rw c.loop-i.invariant.cells (copied_within s c.args.from c.loop-i.i p)

pub push-requires : goal.push-requires
push-requires g c = omega (arith, c.requires.room, c.loop-i.invariant.spare)

pub loop-i-preserved : goal.loop-i-preserved
loop-i-preserved g c =
    let s : List g.row.T.Denot = values_of c.args.self.now in
    let i : ℕ = c.loop-i.i in
    let v : g.row.T.Denot = c.get-v.result in
    let p : i < length s = omega (arith, c.requires.within) in
    let e : cell_at (i + 1) s ≡ Some v = sym (copied_at s c.args.from i p)
    ∙ ap (λ (w : List g.row.T.Denot). cell_at (i + 1) w) (sym c.loop-i.invariant.cells) ∙ c.get-v.ensures in
    record {
      cells = c.push.ensures.cells ∙ ap (λ (w : List g.row.T.Denot). v ∷ w) c.loop-i.invariant.cells
          ∙ sym (copy_next s c.args.from i v c.loop-i.auto.i p e);
      spare = omega (arith, c.push.ensures.spare, c.loop-i.invariant.spare, c.loop-i.auto.i);
    }
