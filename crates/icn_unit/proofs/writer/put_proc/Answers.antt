use Rattle.std.specs.List.{flat_map}
use Rattle.icn_unit.specs.UnitTexts.{head_text, name_text, instr_text}
use Rattle.icn_unit.specs.UnitViews.{proc_seen}
use Rattle.icn_unit.proofs.GrowingTexts.{put_last, proc_pieces}
use Rattle.icn_unit.proofs.writer.put_proc.Goals as goal

pub returns : goal.returns
returns c =
    let proc = proc_seen c.args.proc.now in
    put_last c.extend_from_slice-2.result c.put_instrs.new.text.items c.extend_from_slice-2.new.self.items _ _ c.extend_from_slice-2.ensures.items
    (proc_pieces c.args.text.now.items (head_text proc) (flat_map name_text proc.names)
    (flat_map instr_text proc.instrs) c.put_head.new.text.items c.put_names.new.text.items c.extend_from_slice.new.self.items c.put_instrs.new.text.items
    c.in_ok-put_head.ensures (rw c.deref.ensures.value at c.in_ok-put_names.ensures) c.in_ok-extend_from_slice.ensures.items
    (rw c.deref-2.ensures.value at c.in_ok-put_instrs.ensures))
