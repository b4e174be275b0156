use Rattle.std.proofs.Common.{◌<◌, Option, ℕ, length, map, sym, ap, ◌∙◌, subst}
use Rattle.icn_frames.specs.Stacks.{oldest_from, is_same}
use Rattle.icn_frames.specs.StackInvariant.{shape, IsScan, KindAt, MayBeAt}
use Rattle.icn_frames.proofs.OpenScans.{Lower, height_of, older_lower, oldest_none, oldest_on}
use Rattle.icn_frames.proofs.steps.oldest_from.Goals as goal

pub older_than-older-requires : goal.older_than-older-requires
older_than-older-requires g c = subst (λ (w : Option ℕ). MayBeAt IsScan (map shape c.args.cells.now.cells) w) c.in-Some.is c.loop-at.invariant.there

pub loop-at-smaller : goal.loop-at-smaller
loop-at-smaller g c =
    let s = c.args.cells.now.cells in
    let k : KindAt IsScan (map shape s) c.in-Some.height = subst (λ (w : Option ℕ). MayBeAt IsScan (map shape s) w) c.in-Some.is c.loop-at.invariant.there in
    let l : Lower s c.in-Some.height c.older_than-older.result = subst (λ (w : Option ℕ). Lower s c.in-Some.height w) (sym c.older_than-older.ensures)
    (older_lower s c.in-Some.height c.requires.fit k) in
    subst (λ (w : Option ℕ). height_of c.older_than-older.result < height_of w) (sym c.in-Some.is) l.below

pub loop-at-preserved : goal.loop-at-preserved
loop-at-preserved g c =
    let s = c.args.cells.now.cells in
    let k : KindAt IsScan (map shape s) c.in-Some.height = subst (λ (w : Option ℕ). MayBeAt IsScan (map shape s) w) c.in-Some.is c.loop-at.invariant.there in
    let l : Lower s c.in-Some.height c.older_than-older.result = subst (λ (w : Option ℕ). Lower s c.in-Some.height w) (sym c.older_than-older.ensures)
    (older_lower s c.in-Some.height c.requires.fit k) in
    let e = ap (λ (w : Option ℕ). is_same w c.args.until) (sym c.older_than-older.ensures) ∙ sym c.is_same.ensures ∙ c.if-is_same.false in
    record {
      there = l.is;
      same = ap (λ (w : Option ℕ). oldest_from (length s) s c.args.until w) c.older_than-older.ensures
          ∙ sym (oldest_on s c.args.until c.in-Some.height c.requires.fit k e)
          ∙ ap (λ (w : Option ℕ). oldest_from (length s) s c.args.until w) (sym c.in-Some.is)
          ∙ c.loop-at.invariant.same;
    }

pub returns-clause-value : goal.returns-clause-value
returns-clause-value g c =
    let s = c.args.cells.now.cells in
    sym (oldest_none (length s) s c.args.until) ∙ ap (λ (w : Option ℕ). oldest_from (length s) s c.args.until w) (sym c.in_default.is)
    ∙ c.loop-at.invariant.same
