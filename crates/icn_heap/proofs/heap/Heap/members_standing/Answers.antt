use Rattle.std.proofs.Common.{◌≡◌, ◌∙◌, ap, sym, refl, [], ◌∷◌, ◌++◌, get_or, map, filter, take, List, arith}
use Rattle.std.proofs.lemmas.List.{map-append, take_all, append-nil}
use Rattle.std.proofs.lemmas.List.Elements.{All-push}
use Rattle.icn_value.specs.declared.val.Val.{Val}
use Rattle.icn_value.specs.declared.val.Val.TheVariants.{Null as NullVal}
use Rattle.icn_value.specs.Values.{Value}
use Rattle.icn_value.specs.Store.{set_at}
use Rattle.icn_heap.specs.Extents.{IsLive, value_in}
use Rattle.icn_heap.specs.MadeStructures.{stands}
use Rattle.icn_heap.specs.Heaps.{extent_of, heap_of}
use Rattle.icn_heap.proofs.JoinedPairs.{filters_more, passes, fails}
use Rattle.icn_heap.proofs.heap.Heap.members_standing.Goals as goal
use Rattle.icn_heap.proofs.heap.Heap.members_standing.Goals.{then-branch-inside+in_ok-push, else-branch-inside}

pub loop-member-init : goal.loop-member-init
loop-member-init c =
    rw (c.deref-member-items.ensures.value, c.new-members.ensures.items) (record {
      all = c.in_ok-all.ensures.members;
      live_all = c.in_ok-all.ensures.live;
      members = refl;
      live = λ k d few. absurd (omega (arith, few));
    })

pub loop-member-preserved : goal.loop-member-preserved
loop-member-preserved c =
    let ext = extent_of c.args.self.now in
    let items : List Val = c.deref-member-items.result.now in
    let val : Val = get_or items c.loop-member.member-index NullVal in
    let others : List Value = set_at (heap_of c.args.self.now) c.args.other in
    let more = filters_more (value_in (extent_of c.args.self.now))
    (stands c.args.inside others) items c.loop-member.member-index NullVal c.loop-member-test.true in
    elim c.if-branch-inside.branch [
      | then-branch-inside+in_ok-push w ↦
          (let joined : c.if-branch-inside.members.items ≡ c.loop-member.members.items ++ val ∷ [] = ap (λ vals. vals.items) w.members-is
          ∙ w.in_ok-push.ensures.items in
          rw joined (record {
            all = c.loop-member.invariant.all;
            live_all = c.loop-member.invariant.live_all;
            members =
                map-append (value_in (extent_of c.args.self.now)) c.loop-member.members.items (val ∷ [])
                ∙ (ap (λ (vals : List Value). vals ++ value_in (extent_of c.args.self.now) val ∷ []) c.loop-member.invariant.members
                ∙ sym (more ∙ ap (λ (vals : List Value).
                filter (stands c.args.inside others) (map (value_in (extent_of c.args.self.now)) (take c.loop-member.member-index items)) ++ vals)
                (passes c.args.inside c.in_ok-has.field-0 others
                (value_in (extent_of c.args.self.now) val) c.in_ok-has.ensures.found w.if-branch-inside.true)));
            live = All-push (IsLive (extent_of c.args.self.now)) c.loop-member.members.items val c.loop-member.invariant.live
                (c.loop-member.invariant.live_all c.loop-member.member-index NullVal c.loop-member-test.true);
          }))
      | else-branch-inside w ↦
          (let joined : c.if-branch-inside.members.items ≡ c.loop-member.members.items = ap (λ vals. vals.items) w.members-is in
          rw joined (record {
            all = c.loop-member.invariant.all;
            live_all = c.loop-member.invariant.live_all;
            members =
                c.loop-member.invariant.members
                ∙ sym (more ∙ (ap (λ (vals : List Value).
                filter (stands c.args.inside others) (map (value_in (extent_of c.args.self.now)) (take c.loop-member.member-index items)) ++ vals)
                (fails c.args.inside c.in_ok-has.field-0 others (value_in (extent_of c.args.self.now) val) c.in_ok-has.ensures.found w.if-branch-inside.false)
                ∙ append-nil _));
            live = c.loop-member.invariant.live;
          }))
    ]

pub returns-clause-members : goal.returns-clause-members
returns-clause-members c =
    c.loop-member.invariant.members
    ∙ ap (filter (stands c.args.inside (set_at (heap_of c.args.self.now) c.args.other)))
    (ap (map (value_in (extent_of c.args.self.now))) (take_all c.loop-member.member-index c.deref-member-items.result.now c.loop-member-test.false)
    ∙ c.loop-member.invariant.all)

pub returns-clause-live : goal.returns-clause-live
returns-clause-live c = c.loop-member.invariant.live
