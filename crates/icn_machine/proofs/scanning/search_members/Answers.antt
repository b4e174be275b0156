use Rattle.std.proofs.Common.{◌+◌, arith, refl, sym}
use Rattle.icn_text.specs.declared.func.Func.TheVariants as Funcs
use Rattle.icn_value.specs.declared.val.Val.TheVariants as Vals
use Rattle.icn_heap.specs.Heaps.{extent_of}
use Rattle.icn_value.specs.Members.{members_of}
use Rattle.icn_vars.specs.Worlds.{setting_of}
use Rattle.icn_frames.specs.Stacks as held
use Rattle.icn_scanfn.specs.InSubject.{gives_member, subject_of}
use Rattle.icn_machine.specs.PlainScans.{members_outcome}
use Rattle.icn_machine.proofs.PlainCallSteps.{operands_there}
use Rattle.icn_machine.proofs.PlainFunctionSteps.{fewer_operands}
use Rattle.icn_machine.proofs.RowsAtOnce.{calls_lack, calls_not}
use Rattle.icn_machine.proofs.ScanCalls.{members_given, members_live, searches_called}
use Rattle.icn_machine.proofs.scanning.search_members.Goals as goal

pub cset_told-requires : goal.cset_told-requires
cset_told-requires g c = fewer_operands (0 + 1) (1 + 1) _ (omega arith) (operands_there 1 c.args.frames.now.flat c.requires.operands)

pub returns-in_default : goal.returns-in_default
returns-in_default g c t names = calls_not t 1 c.args.world.now c.args.world.now c.args.frames.now.flat c.args.frames.now.flat refl refl

pub drop_with-requires : goal.drop_with-requires
drop_with-requires g c = operands_there 1 c.args.frames.now.flat c.requires.operands

pub returns-in-Ok : goal.returns-in-Ok
returns-in-Ok g c t names =
    let w = c.args.world.now in
    let m = c.args.frames.now.flat in
    let k = c.drop_with.new.self.flat in
    let call = c.upto_in_subject-found in
    let size = sym c.length_of_text.ensures in
    rw c.done_at.ensures
    (searches_called t c.requires.live.0 w m k c.give_members.new.frames.flat Funcs.Upto c.drop_with.ensures.drops c.local_count.ensures.same
    c.requires.live.1 names
    (gives_member (members_of c.in-Some.wanted) (subject_of w)) call.result c.in-Ok.stage (members_outcome w c.in-Some.wanted call.result)
    (record { value = Vals.Chars c.in-Some.wanted; below = c.in-Some.ensures; comes = λ all outside locals. call.ensures.row outside locals })
    (members_live w c.in-Some.wanted call.result call.ensures.low size)
    (record {
      gives = c.in-Ok.ensures.gives;
      live = λ tables reach l o. c.in-Ok.ensures.live tables reach l o;
      named = λ all seen h o. c.in-Ok.ensures.named all (extent_of w.heap) seen h o;
    })
    (λ outside. members_given w c.in-Some.wanted call.result (setting_of outside w (held.locals k)) size))

pub returns-in-Err : goal.returns-in-Err
returns-in-Err g c t names = calls_lack t 1 c.args.world.now c.args.world.now c.args.frames.now.flat c.give_members.new.frames.flat

pub give_members-requires : goal.give_members-requires
give_members-requires g c = c.upto_in_subject-found.ensures.small
