-- What is taken of an opened file is what the row reads.
use Rattle.std.proofs.Common.{◌≡◌, ◌∙◌, ◌+◌, ◌≤◌, ℕ, List, refl, sym, ap, subst, length, false}
use Rattle.icn_value.specs.Store.{OpenedFile, file_at}
use Rattle.icn_defs.specs.Calls.{Passes}
use Rattle.icn_defs.specs.OpenFiles.{left_in}
use Rattle.icn_defs.specs.Rows.{costs_bytes}
use Rattle.icn_heap.specs.Extents.{text_in}
use Rattle.icn_heap.specs.Heaps.{extent_of, heap_of}
use Rattle.icn_vars.proofs.KeptItems.{keeps_live_then}
use Rattle.icn_vars.specs.Stops.{StopsPassing}
use Rattle.icn_vars.specs.Worlds.{setting_of}
use Rattle.icn_streams.specs.Readings.{asked_in, is_there, read_of}
use Rattle.icn_streams.proofs.OpenedReads.{moved_so, moved_within, none_taken, opened_gone, opened_stopped, part_length, part_read, part_within, place_so, some_taken, text_reads, text_stops}
use Rattle.icn_streams.proofs.opened.read_opened.Goals as goal

pub first_of_file-part-requires : goal.first_of_file-part-requires
first_of_file-part-requires g c = subst (λ (f : OpenedFile). f.place ≤ length f.content) (sym c.file-file.ensures.file) c.file-file.ensures.within

pub place_behind-place-requires : goal.place_behind-place-requires
place_behind-place-requires g c =
    subst (λ (bytes : List ℕ). c.place-from.result + c.first_of_file-part.result.taken ≤ length bytes) (sym c.content.ensures)
    (moved_within (asked_in c.args.ask) c.file-file.result.now c.place-from.result c.first_of_file-part.result.taken
    (subst (λ (f : OpenedFile). f.place ≤ length f.content) (sym c.file-file.ensures.file) c.file-file.ensures.within) c.first_of_file-part.ensures.taken
    c.place-from.ensures)

pub move_to-requires-clause-within : goal.move_to-requires-clause-within
move_to-requires-clause-within g c =
    subst (λ (place : ℕ). place ≤ length (file_at (heap_of c.args.w.now.heap) c.args.number).content) (sym c.place_behind-place.ensures)
    (subst (λ (f : OpenedFile). c.place-from.result + c.first_of_file-part.result.taken ≤ length f.content) c.file-file.ensures.file
    (moved_within (asked_in c.args.ask) c.file-file.result.now c.place-from.result c.first_of_file-part.result.taken
    (subst (λ (f : OpenedFile). f.place ≤ length f.content) (sym c.file-file.ensures.file) c.file-file.ensures.within) c.first_of_file-part.ensures.taken
    c.place-from.ensures))

pub text_in_file-requires-clause-file : goal.text_in_file-requires-clause-file
text_in_file-requires-clause-file g c = c.move_to.ensures.kept.items.extent.live _ c.requires.file

pub text_in_file-requires-clause-within : goal.text_in_file-requires-clause-within
text_in_file-requires-clause-within g c =
    part_within c.file-file.result.now (file_at (heap_of c.move_to.new.w.heap) c.args.number).content c.place-from.result c.first_of_file-part.result.len
    (c.move_to.ensures.content ∙ ap (λ (f : OpenedFile). f.content) (sym c.file-file.ensures.file))
    (subst (λ (f : OpenedFile). f.place ≤ length f.content) (sym c.file-file.ensures.file) c.file-file.ensures.within) c.place-from.ensures
    c.first_of_file-part.ensures.within

pub returns-then-part-eq0-clause-reads : goal.returns-then-part-eq0-clause-reads
returns-then-part-eq0-clause-reads g c = λ outside next.
    opened_gone (asked_in c.args.ask) c.args.number next (setting_of outside c.args.w.now (g.L.Locals.items c.args.l.now))
    (subst (λ (f : OpenedFile). is_there (asked_in c.args.ask) (left_in f) ≡ false) c.file-file.ensures.file
    (none_taken (asked_in c.args.ask) (left_in c.file-file.result.now) c.first_of_file-part.result.taken c.first_of_file-part.ensures.taken c.if-part-eq0.true))

pub returns-in_err-text_in_file-clause-reads : goal.returns-in_err-text_in_file-clause-reads
returns-in_err-text_in_file-clause-reads g c = λ outside.
    opened_stopped (asked_in c.args.ask) c.args.number (extent_of c.text_in_file.new.w.heap) (setting_of outside c.args.w.now (g.L.Locals.items c.args.l.now))
    (setting_of outside c.text_in_file.new.w (g.L.Locals.items c.args.l.now)) c.in_err-text_in_file.field-0.0 c.from_residual.result
    c.from_residual.ensures.1
    (text_stops (asked_in c.args.ask) c.args.number (setting_of outside c.args.w.now (g.L.Locals.items c.args.l.now)) (setting_of outside c.move_to.new.w
    (g.L.Locals.items c.args.l.now))
    (setting_of outside c.text_in_file.new.w (g.L.Locals.items c.args.l.now)) c.file-file.result.now c.file-file.ensures.file
    (subst (λ (f : OpenedFile). f.place ≤ length f.content) (sym c.file-file.ensures.file) c.file-file.ensures.within)
    (some_taken (asked_in c.args.ask) (left_in c.file-file.result.now) c.first_of_file-part.result.taken c.first_of_file-part.ensures.taken c.if-part-eq0.false)
    (moved_so (asked_in c.args.ask) c.args.number (setting_of outside c.args.w.now (g.L.Locals.items c.args.l.now)) (setting_of outside c.move_to.new.w
    (g.L.Locals.items c.args.l.now)) c.file-file.result.now
    c.file-file.ensures.file c.place_behind-place.result
    (c.place_behind-place.ensures
    ∙ place_so (asked_in c.args.ask) c.file-file.result.now c.place-from.result c.first_of_file-part.result.taken c.place-from.ensures c.first_of_file-part.ensures.taken)
    (c.move_to.ensures.step outside))
    (extent_of c.text_in_file.new.w.heap) (read_of (asked_in c.args.ask) (left_in c.file-file.result.now)) c.in_err-text_in_file.field-0.0 refl
    (subst (λ (n : ℕ). StopsPassing (extent_of c.text_in_file.new.w.heap) (costs_bytes n)
    (setting_of outside c.move_to.new.w (g.L.Locals.items c.args.l.now)) (setting_of outside c.text_in_file.new.w (g.L.Locals.items c.args.l.now)) c.in_err-text_in_file.field-0.0)
    (part_length (left_in c.file-file.result.now) (read_of (asked_in c.args.ask) (left_in c.file-file.result.now)) c.first_of_file-part.result.len
    c.first_of_file-part.ensures.within c.first_of_file-part.ensures.read)
    (c.in_err-text_in_file.ensures.step outside)))

pub returns-clause-reads : goal.returns-clause-reads
returns-clause-reads g c = λ outside next.
    text_reads (asked_in c.args.ask) c.args.number (setting_of outside c.args.w.now (g.L.Locals.items c.args.l.now)) (setting_of outside c.move_to.new.w
    (g.L.Locals.items c.args.l.now))
    (setting_of outside c.text_in_file.new.w (g.L.Locals.items c.args.l.now)) c.file-file.result.now c.file-file.ensures.file
    (subst (λ (f : OpenedFile). f.place ≤ length f.content) (sym c.file-file.ensures.file) c.file-file.ensures.within)
    (some_taken (asked_in c.args.ask) (left_in c.file-file.result.now) c.first_of_file-part.result.taken c.first_of_file-part.ensures.taken c.if-part-eq0.false)
    (moved_so (asked_in c.args.ask) c.args.number (setting_of outside c.args.w.now (g.L.Locals.items c.args.l.now)) (setting_of outside c.move_to.new.w
    (g.L.Locals.items c.args.l.now)) c.file-file.result.now
    c.file-file.ensures.file c.place_behind-place.result
    (c.place_behind-place.ensures
    ∙ place_so (asked_in c.args.ask) c.file-file.result.now c.place-from.result c.first_of_file-part.result.taken c.place-from.ensures c.first_of_file-part.ensures.taken)
    (c.move_to.ensures.step outside))
    (read_of (asked_in c.args.ask) (left_in c.file-file.result.now)) (text_in (extent_of c.text_in_file.new.w.heap) c.in_ok-text_in_file.field-0) refl
    (c.in_ok-text_in_file.ensures.text
    ∙ part_read c.file-file.result.now (file_at (heap_of c.move_to.new.w.heap) c.args.number).content c.place-from.result c.first_of_file-part.result.len
    (c.move_to.ensures.content ∙ ap (λ (f : OpenedFile). f.content) (sym c.file-file.ensures.file)) c.place-from.ensures
    ∙ c.first_of_file-part.ensures.read)
    (subst (λ (n : ℕ). Passes (costs_bytes n)
    (setting_of outside c.move_to.new.w (g.L.Locals.items c.args.l.now)) (setting_of outside c.text_in_file.new.w (g.L.Locals.items c.args.l.now)))
    (part_length (left_in c.file-file.result.now) (read_of (asked_in c.args.ask) (left_in c.file-file.result.now)) c.first_of_file-part.result.len
    c.first_of_file-part.ensures.within c.first_of_file-part.ensures.read)
    (c.in_ok-text_in_file.ensures.step outside)) next

pub returns-in_err-text_in_file-clause-kept : goal.returns-in_err-text_in_file-clause-kept
returns-in_err-text_in_file-clause-kept g c = keeps_live_then c.move_to.ensures.kept c.text_in_file.ensures.kept

pub returns-clause-kept : goal.returns-clause-kept
returns-clause-kept g c = keeps_live_then c.move_to.ensures.kept c.text_in_file.ensures.kept
