use Rattle.std.proofs.Common.{map}
use Rattle.icn_defs.specs.Scanning.{bal_row, find_row, move_row, tab_row, upto_row}
use Rattle.icn_defs.specs.Strings.{seq_row}
use Rattle.icn_defs.specs.Structures.{key_row}
use Rattle.icn_heap.specs.Extents.{value_in}
use Rattle.icn_heap.specs.Heaps.{extent_of}
use Rattle.icn_vars.specs.Worlds.{reach_of}
use Rattle.icn_streams.proofs.IdleCalls.{keeps_items_refl}
use Rattle.icn_streams.proofs.QuietRows.{faultless_applies}
use Rattle.icn_apply.proofs.functions.apply_to_values.Goals as goal

pub returns-in-Bal : goal.returns-in-Bal
returns-in-Bal g c = rw c.in-Bal.is
    (faultless_applies (bal_row (map (value_in (extent_of c.args.w.now.heap)) c.args.vals.now)) c.args.w.now c.bal_row.new.w (g.L.Locals.items c.args.l.now)
    (g.L.Locals.items c.args.l.now) (g.S.Streams.state c.args.streams.now) c.bal_row.result
    (λ was. c.bal_row.ensures.row was) c.bal_row.ensures.live c.bal_row.ensures.kept.locals c.bal_row.ensures.kept.items)

pub returns-in-Find : goal.returns-in-Find
returns-in-Find g c = rw c.in-Find.is
    (faultless_applies (find_row (map (value_in (extent_of c.args.w.now.heap)) c.args.vals.now)) c.args.w.now c.find_row.new.w (g.L.Locals.items c.args.l.now)
    (g.L.Locals.items c.args.l.now) (g.S.Streams.state c.args.streams.now) c.find_row.result
    (λ was. c.find_row.ensures.row was) c.find_row.ensures.live c.find_row.ensures.kept.locals c.find_row.ensures.kept.items)

pub returns-in-Key : goal.returns-in-Key
returns-in-Key g c = rw c.in-Key.is
    (faultless_applies (key_row (map (value_in (extent_of c.args.w.now.heap)) c.args.vals.now)) c.args.w.now c.args.w.now (g.L.Locals.items c.args.l.now)
    (g.L.Locals.items c.args.l.now) (g.S.Streams.state c.args.streams.now) c.key.result
    (λ was. c.key.ensures.row was) c.key.ensures.live c.requires.locals (keeps_items_refl (reach_of c.args.w.now (g.L.Locals.items c.args.l.now))))

pub returns-in-Move : goal.returns-in-Move
returns-in-Move g c = rw c.in-Move.is
    (faultless_applies (move_row (map (value_in (extent_of c.args.w.now.heap)) c.args.vals.now)) c.args.w.now c.move_row.new.w (g.L.Locals.items c.args.l.now)
    (g.L.Locals.items c.args.l.now) (g.S.Streams.state c.args.streams.now) c.move_row.result
    (λ was. c.move_row.ensures.row was) c.move_row.ensures.live c.move_row.ensures.kept.locals c.move_row.ensures.kept.items)

pub returns-in-Seq : goal.returns-in-Seq
returns-in-Seq g c = rw c.in-Seq.is
    (faultless_applies (seq_row (map (value_in (extent_of c.args.w.now.heap)) c.args.vals.now)) c.args.w.now c.args.w.now (g.L.Locals.items c.args.l.now)
    (g.L.Locals.items c.args.l.now) (g.S.Streams.state c.args.streams.now) c.seq_row.result
    (λ was. c.seq_row.ensures.row was) c.seq_row.ensures.live c.requires.locals (keeps_items_refl (reach_of c.args.w.now (g.L.Locals.items c.args.l.now))))

pub returns-in-Tab : goal.returns-in-Tab
returns-in-Tab g c = rw c.in-Tab.is
    (faultless_applies (tab_row (map (value_in (extent_of c.args.w.now.heap)) c.args.vals.now)) c.args.w.now c.tab_row.new.w (g.L.Locals.items c.args.l.now)
    (g.L.Locals.items c.args.l.now) (g.S.Streams.state c.args.streams.now) c.tab_row.result
    (λ was. c.tab_row.ensures.row was) c.tab_row.ensures.live c.tab_row.ensures.kept.locals c.tab_row.ensures.kept.items)

pub returns-in-Upto : goal.returns-in-Upto
returns-in-Upto g c = rw c.in-Upto.is
    (faultless_applies (upto_row (map (value_in (extent_of c.args.w.now.heap)) c.args.vals.now)) c.args.w.now c.upto_row.new.w (g.L.Locals.items c.args.l.now)
    (g.L.Locals.items c.args.l.now) (g.S.Streams.state c.args.streams.now) c.upto_row.result
    (λ was. c.upto_row.ensures.row was) c.upto_row.ensures.live c.upto_row.ensures.kept.locals c.upto_row.ensures.kept.items)

pub value_answer-requires-clause-once : goal.value_answer-requires-clause-once
value_answer-requires-clause-once g c = record {
  not_bal = c.in_default.not-Bal;
  not_find = c.in_default.not-Find;
  not_key = c.in_default.not-Key;
  not_move = c.in_default.not-Move;
  not_seq = c.in_default.not-Seq;
  not_tab = c.in_default.not-Tab;
  not_upto = c.in_default.not-Upto;
}

pub returns : goal.returns
returns g c = rw c.as_answer.ensures c.value_answer.ensures
