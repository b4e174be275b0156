use Rattle.std.proofs.Common.{◌≡◌, ◌<◌, ◌≤◌, ◌∙◌, refl, sym, ap, ℕ, length, length-set, arith, get_or}
use Rattle.std.proofs.lemmas.List.{get_or-map, length-map, map-set}
use Rattle.std.specs.declared.snapshot.Snapshot.{Snapshot}
use Rattle.icn_structs.specs.PlacedThings.{kept_number, memories, memory_at}
use Rattle.icn_structs.proofs.GivenPlaces.{memory_all, one_more_remembered}
use Rattle.icn_structs.proofs.PlacedSteps.{all_changed, number_most, number_next, one_more_changed}
use Rattle.icn_structs.proofs.row.forget.Goals as goal

pub loop-i-init : goal.loop-i-init
loop-i-init g c = record { are = refl; numbers = refl; long = refl; was = refl }

pub forget_one-requires : goal.forget_one-requires
forget_one-requires g c =
    let before = c.args.places.now.items in
    let there = c.args.there.now in
    let within : c.loop-i.i < length before = omega (arith, c.loop-i-test.true, c.len-i-end.ensures, c.args.places.now.ok) in
    let same : c.index_mut.result.now ≡ get_or before c.loop-i.i 0 =
    number_next (kept_number there) before c.loop-i.places.items c.loop-i.i c.index_mut.result.now within c.loop-i.invariant.are c.index_mut.ensures.value in
    let most = number_most before 0 (length there) c.loop-i.i c.requires.numbered in
    omega (arith, same, most)

pub loop-i-preserved : goal.loop-i-preserved
loop-i-preserved g c =
    let before = c.args.places.now.items in
    let there = c.args.there.now in
    let was = c.loop-i.was.items in
    let old = c.index_mut-in-loop-i.result.now in
    let within : c.loop-i.i < length before = omega (arith, c.loop-i-test.true, c.len-i-end.ensures, c.args.places.now.ok) in
    let all : length (memories c.args.was.now.items) ≡ length c.args.was.now.items = length-map c.args.was.now.items _ in
    let low : c.loop-i.i < length was = omega (arith, within, c.requires.long, c.loop-i.invariant.long) in
    let same : c.index_mut.result.now ≡ get_or before c.loop-i.i 0 =
    number_next (kept_number there) before c.loop-i.places.items c.loop-i.i c.index_mut.result.now within c.loop-i.invariant.are c.index_mut.ensures.value in
    record {
      are = one_more_changed (kept_number there) before c.loop-i.places.items c.loop-i.i c.index_mut.result.now c.forget_one.new.number within
          c.loop-i.invariant.are c.index_mut.ensures.value c.forget_one.ensures.number;
      numbers = length-set c.loop-i.places.items c.loop-i.i _ ∙ c.loop-i.invariant.numbers;
      long = length-set was c.loop-i.i _ ∙ c.loop-i.invariant.long;
      was = map-set (λ (memory : Snapshot g.row.T.Denot). memory.value) was c.loop-i.i c.forget_one.new.was
          ∙ one_more_remembered there (memories c.args.was.now.items) (memories was) before c.loop-i.i old.value c.forget_one.new.was.value
          (omega (arith, within, c.requires.long, all)) c.loop-i.invariant.was
          (ap (λ (memory : Snapshot g.row.T.Denot). memory.value) c.index_mut-in-loop-i.ensures.value
          ∙ sym (get_or-map (λ (memory : Snapshot g.row.T.Denot). memory.value) was c.loop-i.i old old.value low))
          (c.forget_one.ensures.was ∙ ap (λ (n : ℕ). memory_at there n old.value) same);
    }

pub returns-clause-places : goal.returns-clause-places
returns-clause-places g c =
    let before = c.args.places.now.items in
    let all : length before ≤ c.loop-i.i = omega (arith, c.loop-i-test.false, c.len-i-end.ensures, c.args.places.now.ok) in
    c.loop-i.invariant.are ∙ all_changed (kept_number c.args.there.now) before c.loop-i.i all

pub returns-clause-was : goal.returns-clause-was
returns-clause-was g c =
    let before = c.args.places.now.items in
    let all : length before ≤ c.loop-i.i = omega (arith, c.loop-i-test.false, c.len-i-end.ensures, c.args.places.now.ok) in
    c.loop-i.invariant.was ∙ memory_all c.args.there.now (memories c.args.was.now.items) before c.loop-i.i all
