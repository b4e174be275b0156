use Rattle.std.proofs.Common.{◌≡◌, ◌≤◌, ◌<◌, ◌-◌, length, drop, Some, refl, ap, ◌∙◌, arith}
use Rattle.std.specs.Prelude.{vec_len, string_bytes}
use Rattle.std.proofs.lemmas.Grind.{common_steps}
use Rattle.std.proofs.lemmas.Result.{err_from_is_err_and}
use Rattle.icn_prep.specs.CursorViews.{cursor_of}
use Rattle.icn_prep.specs.SourceLines.{named_file, include_file}
use Rattle.icn_prep.specs.StateViews.{state_of}
use Rattle.icn_prep.proofs.LineLengths.{joined_within}
use Rattle.icn_prep.proofs.StoreLookups.{if_some_told, some_of}
use Rattle.icn_prep.proofs.FileStacks.{file_ended, file_refused, file_includes, including_refused, line_refused, file_begun, answered, named_front, named_push}
use Rattle.icn_prep.proofs.source.preprocess.Goals as goal

pub returns-in_err-stop-clause-exact : goal.returns-in_err-stop-clause-exact
returns-in_err-stop-clause-exact g c =
    if_some_told _ _
    (λ held told.
    let e = err_from_is_err_and c.from_residual-in_err-stop.result (c.from_residual-in_err-stop.ensures).1 in
    let refused = c.in_err-stop.ensures.exact (include_file held (32 - length c.pop.new.self.items)) in
    answered (named_file held c.args.name.now (held c.args.name.now)) _ c.in_err-stop.field-0.0 e.0 e.1 e.2
    (file_refused held (named_file held c.args.name.now (held c.args.name.now)) c.loop-file.stack.items c.pop.new.self.items c.in-Some.file
    (state_of c.loop-file.reading) c.in_err-stop.field-0.0 (c.loop-file.invariant.so held told) c.in-Some.ensures.items (rw c.deref.ensures.value at refused)))

pub returns-in_err-included-clause-exact : goal.returns-in_err-included-clause-exact
returns-in_err-included-clause-exact g c =
    if_some_told _ _
    (λ held told.
    let e = err_from_is_err_and c.from_residual-in_err-included.result (c.from_residual-in_err-included.ensures).1 in
    let step = c.in_ok-stop.ensures.exact (include_file held (32 - length c.pop.new.self.items)) in
    let stops = rw c.in-Some-stop.is at step in
    let includes = file_includes held (named_file held c.args.name.now (held c.args.name.now)) c.loop-file.stack.items c.pop.new.self.items c.in-Some.file
    (state_of c.loop-file.reading) (state_of c.read_lines.new.reading)
    (cursor_of c.read_lines.new.cursor) _ c.in-Some-stop.at (c.loop-file.invariant.so held told) c.in-Some.ensures.items (rw c.deref.ensures.value at stops) in
    let depth : c.len.result ≡ length c.pop.new.self.items = omega (arith, c.len.ensures, c.pop.new.self.ok.0) in
    let named : c.deref-in-Some-stop.result.now ≡ string_bytes c.in-Some-stop.name = c.deref-in-Some-stop.ensures in
    let now : (g.F.Files.state c.loop-file.files).held ≡ Some held = c.loop-file.invariant.same ∙ told in
    let answer = some_of _ held _ now c.in_err-included.ensures.exact in
    answered (named_file held c.args.name.now (held c.args.name.now)) _ c.in_err-included.field-0.0 e.0 e.1 e.2
    (including_refused held _ c.pop.new.self.items (cursor_of c.read_lines.new.cursor) (drop c.in-Some-stop.at c.in-Some.file.content.items) (include_file held
    (32 - length c.pop.new.self.items) (string_bytes c.in-Some-stop.name) (state_of c.read_lines.new.reading) (cursor_of c.read_lines.new.cursor))
    c.in_err-included.field-0.0 includes (rw (← depth, ← named) answer)))

pub returns-in_err-leave_empty-clause-exact : goal.returns-in_err-leave_empty-clause-exact
returns-in_err-leave_empty-clause-exact g c =
    if_some_told _ _
    (λ held told.
    let e = err_from_is_err_and c.from_residual-in_err-leave_empty.result (c.from_residual-in_err-leave_empty.ensures).1 in
    let step = c.in_ok-stop.ensures.exact (include_file held (32 - length c.pop.new.self.items)) in
    let stops = rw c.in-Some-stop.is at step in
    let includes = file_includes held (named_file held c.args.name.now (held c.args.name.now)) c.loop-file.stack.items c.pop.new.self.items c.in-Some.file
    (state_of c.loop-file.reading) (state_of c.read_lines.new.reading)
    (cursor_of c.read_lines.new.cursor) _ c.in-Some-stop.at (c.loop-file.invariant.so held told) c.in-Some.ensures.items (rw c.deref.ensures.value at stops) in
    let depth : c.len.result ≡ length c.pop.new.self.items = omega (arith, c.len.ensures, c.pop.new.self.ok.0) in
    let named : c.deref-in-Some-stop.result.now ≡ string_bytes c.in-Some-stop.name = c.deref-in-Some-stop.ensures in
    let now : (g.F.Files.state c.loop-file.files).held ≡ Some held = c.loop-file.invariant.same ∙ told in
    let there : held (string_bytes c.in-Some-stop.name)
    ≡ Some c.in_ok-included.included.items = rw named at (some_of _ held _ now c.in_ok-included.ensures.exact) in
    let short : length c.in_ok-included.included.items ≤ 16777216 = omega (arith, c.in_ok-included.ensures.short, c.in_ok-included.included.ok.0) in
    let low : length c.pop.new.self.items < 32 = omega (arith, c.in_ok-included.ensures.deep) in
    answered (named_file held c.args.name.now (held c.args.name.now)) _ c.in_err-leave_empty.field-0.0 e.0 e.1 e.2
    (including_refused held _ c.pop.new.self.items (cursor_of c.read_lines.new.cursor) (drop c.in-Some-stop.at c.in-Some.file.content.items) (include_file held
    (32 - length c.pop.new.self.items) (string_bytes c.in-Some-stop.name) (state_of c.read_lines.new.reading) (cursor_of c.read_lines.new.cursor))
    c.in_err-leave_empty.field-0.0 includes
    (line_refused held (length c.pop.new.self.items) (string_bytes c.in-Some-stop.name) c.in_ok-included.included.items (state_of c.read_lines.new.reading)
    (cursor_of c.read_lines.new.cursor) c.in_err-leave_empty.field-0.0 low there short c.in_err-leave_empty.ensures.exact)))

pub loop-file-preserved-in-Some-stop : goal.loop-file-preserved-in-Some-stop
loop-file-preserved-in-Some-stop g c = record {
  so = λ held told.
      let step = c.in_ok-stop.ensures.exact (include_file held (32 - length c.pop.new.self.items)) in
      let stops = rw c.in-Some-stop.is at step in
      let includes = file_includes held (named_file held c.args.name.now (held c.args.name.now)) c.loop-file.stack.items c.pop.new.self.items c.in-Some.file
      (state_of c.loop-file.reading) (state_of c.read_lines.new.reading)
      (cursor_of c.read_lines.new.cursor) _ c.in-Some-stop.at (c.loop-file.invariant.so held told) c.in-Some.ensures.items
      (rw c.deref.ensures.value at stops) in
      let depth : c.len.result ≡ length c.pop.new.self.items = omega (arith, c.len.ensures, c.pop.new.self.ok.0) in
      let named : c.deref-in-Some-stop.result.now ≡ string_bytes c.in-Some-stop.name = c.deref-in-Some-stop.ensures in
      let now : (g.F.Files.state c.loop-file.files).held ≡ Some held = c.loop-file.invariant.same ∙ told in
      let there : held (string_bytes c.in-Some-stop.name)
      ≡ Some c.in_ok-included.included.items = rw named at (some_of _ held _ now c.in_ok-included.ensures.exact) in
      let short : length c.in_ok-included.included.items ≤ 16777216 = omega (arith, c.in_ok-included.ensures.short, c.in_ok-included.included.ok.0) in
      let low : length c.pop.new.self.items < 32 = omega (arith, c.in_ok-included.ensures.deep) in
      let renamed = c.in_ok-next.ensures.state in
      rw (c.in_ok-push-3.ensures.items, c.in_ok-push-2.ensures.items)
      (file_begun held (named_file held c.args.name.now (held c.args.name.now)) c.pop.new.self.items (cursor_of c.read_lines.new.cursor)
      (string_bytes c.in-Some-stop.name) c.in_ok-included.included.items (drop c.in-Some-stop.at c.in-Some.file.content.items)
      (state_of c.read_lines.new.reading) (state_of c.leave_empty.new.reading)
      (state_of c.begin_file-in-Some-stop.new.reading) _ c.in_ok-next.next includes low there short c.in_ok-leave_empty.ensures.exact
      (rw c.deref-in-Some-stop-2.ensures at renamed) refl refl
      c.in_ok-next.ensures.cursor (rw (c.in_ok-next.ensures.at, c.in_ok-next.ensures.content) refl));
  same = grind (arith, common_steps);
  faults = grind (arith, common_steps);
  wants = grind (arith, common_steps);
  absences = grind (arith, common_steps);
  named =
      let names : vec_len c.read_lines.new.reading.names ≡ vec_len c.leave_empty.new.reading.names =
      omega (arith, ap length c.in_ok-leave_empty.ensures.names, c.read_lines.new.reading.names.ok.0, c.leave_empty.new.reading.names.ok.0) in
      let here = c.in_ok-stop.ensures.named in
      let stays = rw c.in-Some-stop.is at here in
      rw (c.in_ok-push-3.ensures.items, c.in_ok-push-2.ensures.items)
      (named_push (vec_len c.begin_file-in-Some-stop.new.reading.names) (vec_len c.begin_file-in-Some-stop.new.reading.names) _ c.in_ok-next.next
      (named_push (vec_len c.loop-file.reading.names) (vec_len c.begin_file-in-Some-stop.new.reading.names) c.pop.new.self.items _
      (named_front (vec_len c.loop-file.reading.names) (vec_len c.loop-file.reading.names) c.loop-file.stack.items c.pop.new.self.items c.in-Some.file
      c.loop-file.invariant.named c.in-Some.ensures.items (omega arith))
      (omega (arith, c.in_ok-stop.ensures.kept, c.in_ok-next.ensures.kept)) (omega (arith, stays, c.in_ok-next.ensures.kept)))
      (omega arith) c.in_ok-next.ensures.named);
  first = grind (arith, common_steps);
}

pub loop-file-preserved : goal.loop-file-preserved
loop-file-preserved g c = record {
  so = λ held told.
      let step = c.in_ok-stop.ensures.exact (include_file held (32 - length c.pop.new.self.items)) in
      let ended = rw c.in_default-stop.is at step in
      file_ended held (named_file held c.args.name.now (held c.args.name.now)) c.loop-file.stack.items c.pop.new.self.items c.in-Some.file
      (state_of c.loop-file.reading) (state_of c.read_lines.new.reading) (c.loop-file.invariant.so held told) c.in-Some.ensures.items
      (rw c.deref.ensures.value at ended);
  same = grind (arith, common_steps);
  faults = grind (arith, common_steps);
  wants = grind (arith, common_steps);
  absences = grind (arith, common_steps);
  named = named_front (vec_len c.loop-file.reading.names) _ c.loop-file.stack.items c.pop.new.self.items c.in-Some.file c.loop-file.invariant.named
      c.in-Some.ensures.items (omega (arith, c.in_ok-stop.ensures.kept));
  first = grind (arith, common_steps);
}

pub invariant_of-result-clause-within : goal.invariant_of-result-clause-within
invariant_of-result-clause-within g c =
    joined_within c.loop-file.reading.lines.items c.loop-file.reading.size c.loop-file.reading.counted c.loop-file.reading.within
