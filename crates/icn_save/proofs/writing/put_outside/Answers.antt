-- The fields behind one another.
use Rattle.std.proofs.Common.{List, ap}
use Rattle.icn_save.specs.Saves.{calls_of}
use Rattle.icn_save.specs.SaveViews.{run_saved}
use Rattle.icn_save.specs.declared.call.SavedCall.{SavedCall}
use Rattle.icn_save.proofs.WrittenSaves.{outside_written}
use Rattle.icn_save.proofs.writing.put_outside.Goals as goal

pub returns : goal.returns
returns c =
    outside_written c.put_calls.result (run_saved c.args.save.now) c.flag_byte.result c.as_slice.result.now (calls_of c.deref.result.now) c.args.out.now.items
    c.put_long_string.new.out.items c.push.new.self.items c.put_number.new.out.items c.put_number-2.new.out.items c.put_calls.new.out.items c.as_slice.ensures
    (ap (λ (l : List SavedCall). calls_of l) c.deref.ensures.value) c.flag_byte.ensures c.in_ok-put_long_string.ensures c.in_ok-push.ensures.items
    c.in_ok-put_number.ensures c.in_ok-put_number-2.ensures c.put_calls.ensures
