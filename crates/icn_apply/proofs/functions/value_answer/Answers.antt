use Rattle.std.proofs.Common.{map, refl}
use Rattle.icn_defs.specs.ErrorRows.{errorclear_row}
use Rattle.icn_defs.specs.InputOutput.{exit_row}
use Rattle.icn_defs.specs.NamedValues.{args_row, proc_row}
use Rattle.icn_defs.specs.Scanning.{any_row, many_row, match_row, pos_row}
use Rattle.icn_defs.specs.Strings.{abs_row, center_row, char_row, cset_row, iand_row, icom_row, image_row, integer_row, ior_row, ishift_row, ixor_row, left_row, map_row, ord_row, repl_row, reverse_row, right_row, string_row, trim_row, type_row}
use Rattle.icn_defs.specs.Structures.{copy_row, delete_row, get_row, insert_row, list_row, member_row, pull_row, push_row, put_row, set_row, sort_row, table_row}
use Rattle.icn_heap.specs.Extents.{value_in}
use Rattle.icn_heap.specs.Heaps.{extent_of, heap_of}
use Rattle.icn_vars.specs.Outcomes.{answer_of}
use Rattle.icn_vars.specs.Worlds.{reach_of, setting_of}
use Rattle.icn_streams.proofs.IdleCalls.{keeps_items_refl}
use Rattle.icn_streams.proofs.QuietRows.{faultless_applies}
use Rattle.icn_apply.proofs.NamesStay.{records_named}
use Rattle.icn_apply.proofs.functions.value_answer.Goals as goal

pub image_row-requires-clause-records : goal.image_row-requires-clause-records
image_row-requires-clause-records g c = records_named (g.N.Names.known c.args.names.now) (heap_of c.args.w.now.heap) c.requires.heap_named

pub type_row-requires-clause-records : goal.type_row-requires-clause-records
type_row-requires-clause-records g c = records_named (g.N.Names.known c.args.names.now) (heap_of c.args.w.now.heap) c.requires.heap_named

pub unreachable-requires : goal.unreachable-requires
unreachable-requires g c = c.requires.once.not_bal c.in-Bal.is

pub unreachable-requires-in-Find : goal.unreachable-requires-in-Find
unreachable-requires-in-Find g c = c.requires.once.not_find c.in-Find.is

pub unreachable-requires-in-Key : goal.unreachable-requires-in-Key
unreachable-requires-in-Key g c = c.requires.once.not_key c.in-Key.is

pub unreachable-requires-in-Move : goal.unreachable-requires-in-Move
unreachable-requires-in-Move g c = c.requires.once.not_move c.in-Move.is

pub unreachable-requires-in-Seq : goal.unreachable-requires-in-Seq
unreachable-requires-in-Seq g c = c.requires.once.not_seq c.in-Seq.is

pub unreachable-requires-in-Tab : goal.unreachable-requires-in-Tab
unreachable-requires-in-Tab g c = c.requires.once.not_tab c.in-Tab.is

pub unreachable-requires-in-Upto : goal.unreachable-requires-in-Upto
unreachable-requires-in-Upto g c = c.requires.once.not_upto c.in-Upto.is

pub returns-in-Abs : goal.returns-in-Abs
returns-in-Abs g c = rw c.in-Abs.is
    (faultless_applies (abs_row (map (value_in (extent_of c.args.w.now.heap)) c.args.vals.now)) c.args.w.now c.args.w.now (g.L.Locals.items c.args.l.now)
    (g.L.Locals.items c.args.l.now) (g.S.Streams.state c.args.streams.now) (answer_of c.abs_row.result) (λ was. c.abs_row.ensures.row was)
    c.abs_row.ensures.live c.requires.locals (keeps_items_refl (reach_of c.args.w.now (g.L.Locals.items c.args.l.now))))

pub returns-in-Any : goal.returns-in-Any
returns-in-Any g c = rw c.in-Any.is
    (faultless_applies (any_row (map (value_in (extent_of c.args.w.now.heap)) c.args.vals.now)) c.args.w.now c.any_row.new.w (g.L.Locals.items c.args.l.now)
    (g.L.Locals.items c.args.l.now) (g.S.Streams.state c.args.streams.now) (answer_of c.any_row.result) (λ was. c.any_row.ensures.row was)
    c.any_row.ensures.live c.any_row.ensures.kept.locals c.any_row.ensures.kept.items)

pub returns-in-Center : goal.returns-in-Center
returns-in-Center g c = rw c.in-Center.is
    (faultless_applies (center_row (map (value_in (extent_of c.args.w.now.heap)) c.args.vals.now)) c.args.w.now c.field_row.new.w
    (g.L.Locals.items c.args.l.now) (g.L.Locals.items c.args.l.now) (g.S.Streams.state c.args.streams.now) (answer_of c.field_row.result)
    (λ was. c.field_row.ensures.row was) c.field_row.ensures.live c.field_row.ensures.kept.locals c.field_row.ensures.kept.items)

pub returns-in-Char : goal.returns-in-Char
returns-in-Char g c = rw c.in-Char.is
    (faultless_applies (char_row (map (value_in (extent_of c.args.w.now.heap)) c.args.vals.now)) c.args.w.now c.char_row.new.w (g.L.Locals.items c.args.l.now)
    (g.L.Locals.items c.args.l.now) (g.S.Streams.state c.args.streams.now) (answer_of c.char_row.result) (λ was. c.char_row.ensures.row was)
    c.char_row.ensures.live c.char_row.ensures.kept.locals c.char_row.ensures.kept.items)

pub returns-in-Copy : goal.returns-in-Copy
returns-in-Copy g c = rw c.in-Copy.is
    (faultless_applies (copy_row (map (value_in (extent_of c.args.w.now.heap)) c.args.vals.now)) c.args.w.now c.copy.new.w (g.L.Locals.items c.args.l.now)
    (g.L.Locals.items c.args.l.now) (g.S.Streams.state c.args.streams.now) (answer_of c.copy.result) (λ was. c.copy.ensures.row was) c.copy.ensures.live
    c.copy.ensures.kept.locals c.copy.ensures.kept.items)

pub returns-in-Cset : goal.returns-in-Cset
returns-in-Cset g c = rw c.in-Cset.is
    (faultless_applies (cset_row (map (value_in (extent_of c.args.w.now.heap)) c.args.vals.now)) c.args.w.now c.args.w.now (g.L.Locals.items c.args.l.now)
    (g.L.Locals.items c.args.l.now) (g.S.Streams.state c.args.streams.now) (answer_of c.cset_row.result) (λ was. c.cset_row.ensures.row was)
    c.cset_row.ensures.live c.requires.locals (keeps_items_refl (reach_of c.args.w.now (g.L.Locals.items c.args.l.now))))

pub returns-in-Delete : goal.returns-in-Delete
returns-in-Delete g c = rw c.in-Delete.is
    (faultless_applies (delete_row (map (value_in (extent_of c.args.w.now.heap)) c.args.vals.now)) c.args.w.now c.delete.new.w (g.L.Locals.items c.args.l.now)
    (g.L.Locals.items c.args.l.now) (g.S.Streams.state c.args.streams.now) (answer_of c.delete.result) (λ was. c.delete.ensures.row was) c.delete.ensures.live
    c.delete.ensures.kept.locals c.delete.ensures.kept.items)

pub returns-in-Exit : goal.returns-in-Exit
returns-in-Exit g c = rw c.in-Exit.is
    (faultless_applies (exit_row (map (value_in (extent_of c.args.w.now.heap)) c.args.vals.now)) c.args.w.now c.args.w.now (g.L.Locals.items c.args.l.now)
    (g.L.Locals.items c.args.l.now) (g.S.Streams.state c.args.streams.now) (answer_of c.exit.result)
    (λ was. c.exit.ensures.row (setting_of was c.args.w.now (g.L.Locals.items c.args.l.now)))
    (c.exit.ensures.live (reach_of c.args.w.now (g.L.Locals.items c.args.l.now)) refl) c.requires.locals
    (keeps_items_refl (reach_of c.args.w.now (g.L.Locals.items c.args.l.now))))

pub returns-in-Get : goal.returns-in-Get
returns-in-Get g c = rw c.in-Get.is
    (faultless_applies (get_row (map (value_in (extent_of c.args.w.now.heap)) c.args.vals.now)) c.args.w.now c.get.new.w (g.L.Locals.items c.args.l.now)
    (g.L.Locals.items c.args.l.now) (g.S.Streams.state c.args.streams.now) (answer_of c.get.result) (λ was. c.get.ensures.row was) c.get.ensures.live
    c.get.ensures.kept.locals c.get.ensures.kept.items)

pub returns-in-Iand : goal.returns-in-Iand
returns-in-Iand g c = rw c.in-Iand.is
    (faultless_applies (iand_row (map (value_in (extent_of c.args.w.now.heap)) c.args.vals.now)) c.args.w.now c.args.w.now (g.L.Locals.items c.args.l.now)
    (g.L.Locals.items c.args.l.now) (g.S.Streams.state c.args.streams.now) (answer_of c.iand_row.result) (λ was. c.iand_row.ensures.row was)
    c.iand_row.ensures.live c.requires.locals (keeps_items_refl (reach_of c.args.w.now (g.L.Locals.items c.args.l.now))))

pub returns-in-Icom : goal.returns-in-Icom
returns-in-Icom g c = rw c.in-Icom.is
    (faultless_applies (icom_row (map (value_in (extent_of c.args.w.now.heap)) c.args.vals.now)) c.args.w.now c.args.w.now (g.L.Locals.items c.args.l.now)
    (g.L.Locals.items c.args.l.now) (g.S.Streams.state c.args.streams.now) (answer_of c.icom_row.result) (λ was. c.icom_row.ensures.row was)
    c.icom_row.ensures.live c.requires.locals (keeps_items_refl (reach_of c.args.w.now (g.L.Locals.items c.args.l.now))))

pub returns-in-Image : goal.returns-in-Image
returns-in-Image g c = rw c.in-Image.is
    (faultless_applies (image_row (g.N.Names.known c.args.names.now) (map (value_in (extent_of c.args.w.now.heap)) c.args.vals.now)) c.args.w.now
    c.image_row.new.w (g.L.Locals.items c.args.l.now) (g.L.Locals.items c.args.l.now) (g.S.Streams.state c.args.streams.now) (answer_of c.image_row.result)
    (λ was. c.image_row.ensures.row was) c.image_row.ensures.live c.image_row.ensures.kept.locals c.image_row.ensures.kept.items)

pub returns-in-Insert : goal.returns-in-Insert
returns-in-Insert g c = rw c.in-Insert.is
    (faultless_applies (insert_row (map (value_in (extent_of c.args.w.now.heap)) c.args.vals.now)) c.args.w.now c.insert.new.w (g.L.Locals.items c.args.l.now)
    (g.L.Locals.items c.args.l.now) (g.S.Streams.state c.args.streams.now) (answer_of c.insert.result) (λ was. c.insert.ensures.row was) c.insert.ensures.live
    c.insert.ensures.kept.locals c.insert.ensures.kept.items)

pub returns-in-Integer : goal.returns-in-Integer
returns-in-Integer g c = rw c.in-Integer.is
    (faultless_applies (integer_row (map (value_in (extent_of c.args.w.now.heap)) c.args.vals.now)) c.args.w.now c.args.w.now (g.L.Locals.items c.args.l.now)
    (g.L.Locals.items c.args.l.now) (g.S.Streams.state c.args.streams.now) (answer_of c.integer_row.result) (λ was. c.integer_row.ensures.row was)
    c.integer_row.ensures.live c.requires.locals (keeps_items_refl (reach_of c.args.w.now (g.L.Locals.items c.args.l.now))))

pub returns-in-Ior : goal.returns-in-Ior
returns-in-Ior g c = rw c.in-Ior.is
    (faultless_applies (ior_row (map (value_in (extent_of c.args.w.now.heap)) c.args.vals.now)) c.args.w.now c.args.w.now (g.L.Locals.items c.args.l.now)
    (g.L.Locals.items c.args.l.now) (g.S.Streams.state c.args.streams.now) (answer_of c.ior_row.result) (λ was. c.ior_row.ensures.row was)
    c.ior_row.ensures.live c.requires.locals (keeps_items_refl (reach_of c.args.w.now (g.L.Locals.items c.args.l.now))))

pub returns-in-Ishift : goal.returns-in-Ishift
returns-in-Ishift g c = rw c.in-Ishift.is
    (faultless_applies (ishift_row (map (value_in (extent_of c.args.w.now.heap)) c.args.vals.now)) c.args.w.now c.args.w.now (g.L.Locals.items c.args.l.now)
    (g.L.Locals.items c.args.l.now) (g.S.Streams.state c.args.streams.now) (answer_of c.ishift_row.result) (λ was. c.ishift_row.ensures.row was)
    c.ishift_row.ensures.live c.requires.locals (keeps_items_refl (reach_of c.args.w.now (g.L.Locals.items c.args.l.now))))

pub returns-in-Ixor : goal.returns-in-Ixor
returns-in-Ixor g c = rw c.in-Ixor.is
    (faultless_applies (ixor_row (map (value_in (extent_of c.args.w.now.heap)) c.args.vals.now)) c.args.w.now c.args.w.now (g.L.Locals.items c.args.l.now)
    (g.L.Locals.items c.args.l.now) (g.S.Streams.state c.args.streams.now) (answer_of c.ixor_row.result) (λ was. c.ixor_row.ensures.row was)
    c.ixor_row.ensures.live c.requires.locals (keeps_items_refl (reach_of c.args.w.now (g.L.Locals.items c.args.l.now))))

pub returns-in-Left : goal.returns-in-Left
returns-in-Left g c = rw c.in-Left.is
    (faultless_applies (left_row (map (value_in (extent_of c.args.w.now.heap)) c.args.vals.now)) c.args.w.now c.field_row-in-Left.new.w
    (g.L.Locals.items c.args.l.now) (g.L.Locals.items c.args.l.now) (g.S.Streams.state c.args.streams.now) (answer_of c.field_row-in-Left.result)
    (λ was. c.field_row-in-Left.ensures.row was) c.field_row-in-Left.ensures.live c.field_row-in-Left.ensures.kept.locals
    c.field_row-in-Left.ensures.kept.items)

pub returns-in-List : goal.returns-in-List
returns-in-List g c = rw c.in-List.is
    (faultless_applies (list_row (map (value_in (extent_of c.args.w.now.heap)) c.args.vals.now)) c.args.w.now c.list.new.w (g.L.Locals.items c.args.l.now)
    (g.L.Locals.items c.args.l.now) (g.S.Streams.state c.args.streams.now) (answer_of c.list.result) (λ was. c.list.ensures.row was) c.list.ensures.live
    c.list.ensures.kept.locals c.list.ensures.kept.items)

pub returns-in-Many : goal.returns-in-Many
returns-in-Many g c = rw c.in-Many.is
    (faultless_applies (many_row (map (value_in (extent_of c.args.w.now.heap)) c.args.vals.now)) c.args.w.now c.many_row.new.w (g.L.Locals.items c.args.l.now)
    (g.L.Locals.items c.args.l.now) (g.S.Streams.state c.args.streams.now) (answer_of c.many_row.result) (λ was. c.many_row.ensures.row was)
    c.many_row.ensures.live c.many_row.ensures.kept.locals c.many_row.ensures.kept.items)

pub returns-in-Map : goal.returns-in-Map
returns-in-Map g c = rw c.in-Map.is
    (faultless_applies (map_row (map (value_in (extent_of c.args.w.now.heap)) c.args.vals.now)) c.args.w.now c.map_row.new.w (g.L.Locals.items c.args.l.now)
    (g.L.Locals.items c.args.l.now) (g.S.Streams.state c.args.streams.now) (answer_of c.map_row.result) (λ was. c.map_row.ensures.row was)
    c.map_row.ensures.live c.map_row.ensures.kept.locals c.map_row.ensures.kept.items)

pub returns-in-Match : goal.returns-in-Match
returns-in-Match g c = rw c.in-Match.is
    (faultless_applies (match_row (map (value_in (extent_of c.args.w.now.heap)) c.args.vals.now)) c.args.w.now c.match_row.new.w
    (g.L.Locals.items c.args.l.now) (g.L.Locals.items c.args.l.now) (g.S.Streams.state c.args.streams.now) (answer_of c.match_row.result)
    (λ was. c.match_row.ensures.row was) c.match_row.ensures.live c.match_row.ensures.kept.locals c.match_row.ensures.kept.items)

pub returns-in-Member : goal.returns-in-Member
returns-in-Member g c = rw c.in-Member.is
    (faultless_applies (member_row (map (value_in (extent_of c.args.w.now.heap)) c.args.vals.now)) c.args.w.now c.args.w.now (g.L.Locals.items c.args.l.now)
    (g.L.Locals.items c.args.l.now) (g.S.Streams.state c.args.streams.now) (answer_of c.member.result) (λ was. c.member.ensures.row was) c.member.ensures.live
    c.requires.locals (keeps_items_refl (reach_of c.args.w.now (g.L.Locals.items c.args.l.now))))

pub returns-in-Numeric : goal.returns-in-Numeric
returns-in-Numeric g c = rw c.in-Numeric.is
    (faultless_applies (integer_row (map (value_in (extent_of c.args.w.now.heap)) c.args.vals.now)) c.args.w.now c.args.w.now (g.L.Locals.items c.args.l.now)
    (g.L.Locals.items c.args.l.now) (g.S.Streams.state c.args.streams.now) (answer_of c.integer_row-in-Numeric.result)
    (λ was. c.integer_row-in-Numeric.ensures.row was) c.integer_row-in-Numeric.ensures.live c.requires.locals
    (keeps_items_refl (reach_of c.args.w.now (g.L.Locals.items c.args.l.now))))

pub returns-in-Ord : goal.returns-in-Ord
returns-in-Ord g c = rw c.in-Ord.is
    (faultless_applies (ord_row (map (value_in (extent_of c.args.w.now.heap)) c.args.vals.now)) c.args.w.now c.ord_row.new.w (g.L.Locals.items c.args.l.now)
    (g.L.Locals.items c.args.l.now) (g.S.Streams.state c.args.streams.now) (answer_of c.ord_row.result) (λ was. c.ord_row.ensures.row was)
    c.ord_row.ensures.live c.ord_row.ensures.kept.locals c.ord_row.ensures.kept.items)

pub returns-in-Pop : goal.returns-in-Pop
returns-in-Pop g c = rw c.in-Pop.is
    (faultless_applies (get_row (map (value_in (extent_of c.args.w.now.heap)) c.args.vals.now)) c.args.w.now c.get-in-Pop.new.w
    (g.L.Locals.items c.args.l.now) (g.L.Locals.items c.args.l.now) (g.S.Streams.state c.args.streams.now) (answer_of c.get-in-Pop.result)
    (λ was. c.get-in-Pop.ensures.row was) c.get-in-Pop.ensures.live c.get-in-Pop.ensures.kept.locals c.get-in-Pop.ensures.kept.items)

pub returns-in-Pos : goal.returns-in-Pos
returns-in-Pos g c = rw c.in-Pos.is
    (faultless_applies (pos_row (map (value_in (extent_of c.args.w.now.heap)) c.args.vals.now)) c.args.w.now c.args.w.now (g.L.Locals.items c.args.l.now)
    (g.L.Locals.items c.args.l.now) (g.S.Streams.state c.args.streams.now) (answer_of c.pos_row.result) (λ was. c.pos_row.ensures.row was)
    c.pos_row.ensures.live c.requires.locals (keeps_items_refl (reach_of c.args.w.now (g.L.Locals.items c.args.l.now))))

pub returns-in-Pull : goal.returns-in-Pull
returns-in-Pull g c = rw c.in-Pull.is
    (faultless_applies (pull_row (map (value_in (extent_of c.args.w.now.heap)) c.args.vals.now)) c.args.w.now c.pull.new.w (g.L.Locals.items c.args.l.now)
    (g.L.Locals.items c.args.l.now) (g.S.Streams.state c.args.streams.now) (answer_of c.pull.result) (λ was. c.pull.ensures.row was) c.pull.ensures.live
    c.pull.ensures.kept.locals c.pull.ensures.kept.items)

pub returns-in-Push : goal.returns-in-Push
returns-in-Push g c = rw c.in-Push.is
    (faultless_applies (push_row (map (value_in (extent_of c.args.w.now.heap)) c.args.vals.now)) c.args.w.now c.push.new.w (g.L.Locals.items c.args.l.now)
    (g.L.Locals.items c.args.l.now) (g.S.Streams.state c.args.streams.now) (answer_of c.push.result) (λ was. c.push.ensures.row was) c.push.ensures.live
    c.push.ensures.kept.locals c.push.ensures.kept.items)

pub returns-in-Put : goal.returns-in-Put
returns-in-Put g c = rw c.in-Put.is
    (faultless_applies (put_row (map (value_in (extent_of c.args.w.now.heap)) c.args.vals.now)) c.args.w.now c.put.new.w (g.L.Locals.items c.args.l.now)
    (g.L.Locals.items c.args.l.now) (g.S.Streams.state c.args.streams.now) (answer_of c.put.result) (λ was. c.put.ensures.row was) c.put.ensures.live
    c.put.ensures.kept.locals c.put.ensures.kept.items)

pub returns-in-Read : goal.returns-in-Read
returns-in-Read g c = rw c.in-Read.is c.read.ensures.row

pub returns-in-Reads : goal.returns-in-Reads
returns-in-Reads g c = rw c.in-Reads.is c.reads.ensures.row

pub returns-in-Repl : goal.returns-in-Repl
returns-in-Repl g c = rw c.in-Repl.is
    (faultless_applies (repl_row (map (value_in (extent_of c.args.w.now.heap)) c.args.vals.now)) c.args.w.now c.repl_row.new.w (g.L.Locals.items c.args.l.now)
    (g.L.Locals.items c.args.l.now) (g.S.Streams.state c.args.streams.now) (answer_of c.repl_row.result) (λ was. c.repl_row.ensures.row was)
    c.repl_row.ensures.live c.repl_row.ensures.kept.locals c.repl_row.ensures.kept.items)

pub returns-in-Reverse : goal.returns-in-Reverse
returns-in-Reverse g c = rw c.in-Reverse.is
    (faultless_applies (reverse_row (map (value_in (extent_of c.args.w.now.heap)) c.args.vals.now)) c.args.w.now c.reverse_row.new.w
    (g.L.Locals.items c.args.l.now) (g.L.Locals.items c.args.l.now) (g.S.Streams.state c.args.streams.now) (answer_of c.reverse_row.result)
    (λ was. c.reverse_row.ensures.row was) c.reverse_row.ensures.live c.reverse_row.ensures.kept.locals c.reverse_row.ensures.kept.items)

pub returns-in-Right : goal.returns-in-Right
returns-in-Right g c = rw c.in-Right.is
    (faultless_applies (right_row (map (value_in (extent_of c.args.w.now.heap)) c.args.vals.now)) c.args.w.now c.field_row-in-Right.new.w
    (g.L.Locals.items c.args.l.now) (g.L.Locals.items c.args.l.now) (g.S.Streams.state c.args.streams.now) (answer_of c.field_row-in-Right.result)
    (λ was. c.field_row-in-Right.ensures.row was) c.field_row-in-Right.ensures.live c.field_row-in-Right.ensures.kept.locals
    c.field_row-in-Right.ensures.kept.items)

pub returns-in-Set : goal.returns-in-Set
returns-in-Set g c = rw c.in-Set.is
    (faultless_applies (set_row (map (value_in (extent_of c.args.w.now.heap)) c.args.vals.now)) c.args.w.now c.set.new.w (g.L.Locals.items c.args.l.now)
    (g.L.Locals.items c.args.l.now) (g.S.Streams.state c.args.streams.now) (answer_of c.set.result) (λ was. c.set.ensures.row was) c.set.ensures.live
    c.set.ensures.kept.locals c.set.ensures.kept.items)

pub returns-in-Sort : goal.returns-in-Sort
returns-in-Sort g c = rw c.in-Sort.is
    (faultless_applies (sort_row (g.N.Names.known c.args.names.now) (map (value_in (extent_of c.args.w.now.heap)) c.args.vals.now)) c.args.w.now c.sort.new.w
    (g.L.Locals.items c.args.l.now) (g.L.Locals.items c.args.l.now) (g.S.Streams.state c.args.streams.now) (answer_of c.sort.result)
    (λ was. c.sort.ensures.row was) c.sort.ensures.live c.sort.ensures.kept.locals c.sort.ensures.kept.items)

pub returns-in-Stop : goal.returns-in-Stop
returns-in-Stop g c = rw c.in-Stop.is c.stop.ensures.row

pub returns-in-String : goal.returns-in-String
returns-in-String g c = rw c.in-String.is
    (faultless_applies (string_row (map (value_in (extent_of c.args.w.now.heap)) c.args.vals.now)) c.args.w.now c.string_row.new.w
    (g.L.Locals.items c.args.l.now) (g.L.Locals.items c.args.l.now) (g.S.Streams.state c.args.streams.now) (answer_of c.string_row.result)
    (λ was. c.string_row.ensures.row was) c.string_row.ensures.live c.string_row.ensures.kept.locals c.string_row.ensures.kept.items)

pub returns-in-Table : goal.returns-in-Table
returns-in-Table g c = rw c.in-Table.is
    (faultless_applies (table_row (map (value_in (extent_of c.args.w.now.heap)) c.args.vals.now)) c.args.w.now c.table.new.w (g.L.Locals.items c.args.l.now)
    (g.L.Locals.items c.args.l.now) (g.S.Streams.state c.args.streams.now) (answer_of c.table.result) (λ was. c.table.ensures.row was) c.table.ensures.live
    c.table.ensures.kept.locals c.table.ensures.kept.items)

pub returns-in-Trim : goal.returns-in-Trim
returns-in-Trim g c = rw c.in-Trim.is
    (faultless_applies (trim_row (map (value_in (extent_of c.args.w.now.heap)) c.args.vals.now)) c.args.w.now c.trim_row.new.w (g.L.Locals.items c.args.l.now)
    (g.L.Locals.items c.args.l.now) (g.S.Streams.state c.args.streams.now) (answer_of c.trim_row.result) (λ was. c.trim_row.ensures.row was)
    c.trim_row.ensures.live c.trim_row.ensures.kept.locals c.trim_row.ensures.kept.items)

pub returns-in-TypeOf : goal.returns-in-TypeOf
returns-in-TypeOf g c = rw c.in-TypeOf.is
    (faultless_applies (type_row (g.N.Names.known c.args.names.now) (map (value_in (extent_of c.args.w.now.heap)) c.args.vals.now)) c.args.w.now
    c.type_row.new.w (g.L.Locals.items c.args.l.now) (g.L.Locals.items c.args.l.now) (g.S.Streams.state c.args.streams.now) (answer_of c.type_row.result)
    (λ was. c.type_row.ensures.row was) c.type_row.ensures.live c.type_row.ensures.kept.locals c.type_row.ensures.kept.items)

pub returns-in-Write : goal.returns-in-Write
returns-in-Write g c = rw c.in-Write.is c.write.ensures.row

pub returns-in-Writes : goal.returns-in-Writes
returns-in-Writes g c = rw c.in-Writes.is c.writes.ensures.row

pub returns-in-ErrorClear : goal.returns-in-ErrorClear
returns-in-ErrorClear g c = rw c.in-ErrorClear.is
    (faultless_applies errorclear_row c.args.w.now c.errorclear_row.new.w (g.L.Locals.items c.args.l.now) (g.L.Locals.items c.args.l.now)
    (g.S.Streams.state c.args.streams.now) (answer_of c.errorclear_row.result) (λ was. c.errorclear_row.ensures.row was) c.errorclear_row.ensures.live
    c.errorclear_row.ensures.kept.locals c.errorclear_row.ensures.kept.items)

pub returns-in-Open : goal.returns-in-Open
returns-in-Open g c = rw c.in-Open.is c.open_file.ensures.row

pub returns-in-Close : goal.returns-in-Close
returns-in-Close g c = rw c.in-Close.is c.close_file.ensures.row

pub returns-in-Proc : goal.returns-in-Proc
returns-in-Proc g c = rw c.in-Proc.is
    (faultless_applies (proc_row (g.N.Names.known c.args.names.now) (map (value_in (extent_of c.args.w.now.heap)) c.args.vals.now)) c.args.w.now c.args.w.now
    (g.L.Locals.items c.args.l.now) (g.L.Locals.items c.args.l.now) (g.S.Streams.state c.args.streams.now) (answer_of c.proc_row.result)
    (λ was. c.proc_row.ensures.row was) c.proc_row.ensures.live c.requires.locals
    (keeps_items_refl (reach_of c.args.w.now (g.L.Locals.items c.args.l.now))))

pub returns-in-Args : goal.returns-in-Args
returns-in-Args g c = rw c.in-Args.is
    (faultless_applies (args_row (g.N.Names.known c.args.names.now) (map (value_in (extent_of c.args.w.now.heap)) c.args.vals.now)) c.args.w.now c.args.w.now
    (g.L.Locals.items c.args.l.now) (g.L.Locals.items c.args.l.now) (g.S.Streams.state c.args.streams.now) (answer_of c.args_row.result)
    (λ was. c.args_row.ensures.row was) c.args_row.ensures.live c.requires.locals
    (keeps_items_refl (reach_of c.args.w.now (g.L.Locals.items c.args.l.now))))
