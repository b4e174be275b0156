use Rattle.icn_convert.proofs.MemberLists.{none_below, one_more, no_more, whole}
use Rattle.icn_convert.proofs.csets.text_of_cset.Goals as goal
use Rattle.icn_convert.proofs.csets.text_of_cset.Goals.{then-has, else-has}
use Rattle.std.proofs.Common.{sym, ◌∙◌, arith, refl}
use Rattle.std.proofs.lemmas.List.{length-set}

pub loop-byte-init : goal.loop-byte-init
loop-byte-init c = record { front = none_below c.args.cset.now; small = omega arith; room = refl }

pub loop-byte-preserved : goal.loop-byte-preserved
loop-byte-preserved c =
    elim c.if-has.branch [
      | then-has w ↦ record {
        front = rw (w.bytes-is, w.len-is) (one_more c.args.cset.now c.loop-byte.bytes c.loop-byte.len c.loop-byte.byte
            (omega (arith, c.loop-byte.invariant.room)) (sym c.has.ensures ∙ w.if-has.true) c.loop-byte.invariant.front);
        small = omega (arith, w.len-is);
        room = rw w.bytes-is (length-set _ _ _ ∙ c.loop-byte.invariant.room);
      }
      | else-has w ↦ record {
        front = rw (w.bytes-is, w.len-is)
            (no_more c.args.cset.now c.loop-byte.bytes c.loop-byte.len c.loop-byte.byte (sym c.has.ensures ∙ w.if-has.false) c.loop-byte.invariant.front);
        small = omega (arith, w.len-is);
        room = rw w.bytes-is c.loop-byte.invariant.room;
      }
    ]

pub returns : goal.returns
returns c =
    whole c.args.cset.now c.loop-byte.bytes c.loop-byte.len c.loop-byte.byte c.loop-byte-test.false c.loop-byte.auto.byte-end c.loop-byte.invariant.front
