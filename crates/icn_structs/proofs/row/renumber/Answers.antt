use Rattle.std.proofs.Common.{◌<◌, ◌≤◌, ◌∙◌, ℕ, Vec, Global, ap, length, length-set, length-take, refl, take, arith}
use Rattle.icn_structs.proofs.PlacedSteps.{counted_few, renumbered_all, renumbered_less, renumbered_more}
use Rattle.icn_structs.proofs.row.renumber.Goals.{then-index-gt0, else-index-gt0}
use Rattle.icn_structs.proofs.row.renumber.Goals as goal

pub loop-i-init : goal.loop-i-init
loop-i-init c = record { are = refl; long = refl; kept = refl }

pub overflow_add-kept : goal.overflow_add-kept
overflow_add-kept c =
    let before = c.args.places.now.items in
    let few = counted_few (take c.loop-i.i before) in
    let front = length-take c.loop-i.i before in
    omega (arith, few, front, c.loop-i.invariant.kept, c.loop-i-test.true, c.len-i-end.ensures, c.requires, c.args.places.now.ok)

pub loop-i-preserved : goal.loop-i-preserved
loop-i-preserved c =
    let before = c.args.places.now.items in
    let now = c.loop-i.places.items in
    let within : c.loop-i.i < length before = omega (arith, c.loop-i-test.true, c.len-i-end.ensures, c.args.places.now.ok) in
    elim c.if-index-gt0.branch [
      | then-index-gt0 w ↦
          let places = ap (λ (v : Vec ℕ Global). v.items) w.places-is in
          let more = renumbered_more before now c.if-index-gt0.places.items c.loop-i.i c.index.result.now c.loop-i.kept c.if-index-gt0.kept within
          c.loop-i.invariant.long c.loop-i.invariant.are c.loop-i.invariant.kept c.index.ensures w.if-index-gt0.true places w.kept-is in
          record { are = more.0; long = ap length places ∙ (length-set now c.loop-i.i _ ∙ c.loop-i.invariant.long); kept = more.1 }
      | else-index-gt0 w ↦
          let places = ap (λ (v : Vec ℕ Global). v.items) w.places-is in
          let same = renumbered_less before now c.loop-i.i c.index.result.now c.loop-i.kept within c.loop-i.invariant.long c.loop-i.invariant.are
          c.loop-i.invariant.kept c.index.ensures w.if-index-gt0.false in
          record { are = places ∙ same.0; long = ap length places ∙ c.loop-i.invariant.long; kept = w.kept-is ∙ same.1 }
    ]

pub returns : goal.returns
returns c =
    let before = c.args.places.now.items in
    let all : length before ≤ c.loop-i.i = omega (arith, c.loop-i-test.false, c.len-i-end.ensures, c.args.places.now.ok) in
    c.loop-i.invariant.are ∙ renumbered_all before c.loop-i.i all
