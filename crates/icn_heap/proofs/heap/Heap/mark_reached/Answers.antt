use Rattle.std.proofs.Common.{◌∙◌, refl, sym, ap, subst, Option}
use Rattle.icn_value.specs.declared.val.Val.{Val}
use Rattle.icn_heap.specs.Extents.{IsLive}
use Rattle.icn_heap.specs.HeapParts.{Parts, extent_in}
use Rattle.icn_heap.specs.Heaps.{parts_of}
use Rattle.icn_heap.specs.MarkedStructures.{StructureMarks, AreReached, IsTakenOut, held_anew, marks_of, with_marked}
use Rattle.icn_heap.specs.NeededValues.{AreNeeded}
use Rattle.icn_heap.proofs.MarkedStructures.{reached_same, reached_then, taken_live}
use Rattle.icn_heap.proofs.heap.Heap.mark_reached.Goals as goal

pub loop-round-init : goal.loop-round-init
loop-round-init c = record { parts = refl; reached = c.requires }

pub reach-requires : goal.reach-requires
reach-requires c =
    let first = c.args.self.now in
    let out = subst (λ (taken : Option Val). IsTakenOut c.loop-round.needed c.next_structure.new.self taken) c.in-Some.is c.next_structure.ensures in
    subst (λ (p : Parts). IsLive (extent_in p) c.in-Some.val) (sym c.loop-round.invariant.parts)
    (taken_live (parts_of first) first.sound c.args.needed.now (marks_of c.loop-round.self) c.in-Some.val out c.loop-round.invariant.reached)

pub loop-round-preserved : goal.loop-round-preserved
loop-round-preserved c =
    let first = c.args.self.now in
    let parts = c.loop-round.invariant.parts in
    let out = subst (λ (taken : Option Val). IsTakenOut c.loop-round.needed c.next_structure.new.self taken) c.in-Some.is c.next_structure.ensures in
    let added = subst (λ (p : Parts). AreNeeded c.next_structure.new.self c.reach.new.needed (held_anew p (marks_of c.loop-round.self) c.in-Some.val)) parts
    c.in_ok-reach.ensures.added in
    let marks = c.reach.ensures.marks ∙ ap (λ (p : Parts). with_marked p (marks_of c.loop-round.self) c.in-Some.val) parts in
    record {
      parts = c.reach.ensures.parts ∙ parts;
      reached =
          subst (λ (m : StructureMarks). AreReached (parts_of first) c.args.needed.now m c.reach.new.needed) (sym marks)
          (reached_then (parts_of first) first.sound c.args.needed.now (marks_of c.loop-round.self) c.in-Some.val out c.loop-round.invariant.reached added);
    }

pub returns-in_default-clause-reached : goal.returns-in_default-clause-reached
returns-in_default-clause-reached c =
    let first = c.args.self.now in
    let out = subst (λ (taken : Option Val). IsTakenOut c.loop-round.needed c.next_structure.new.self taken) c.in_default.is c.next_structure.ensures in
    reached_same (parts_of first) c.args.needed.now (marks_of c.loop-round.self) out c.loop-round.invariant.reached

pub returns-in_default-clause-parts : goal.returns-in_default-clause-parts
returns-in_default-clause-parts c = c.loop-round.invariant.parts
