-- How puts on files add up to what a line puts.
use Rattle.std.proofs.Common.{◌≡◌, ◌∙◌, refl, sym, ap, subst, ℕ, zero, suc, Bool, true, false, List, [], ◌∷◌, ◌++◌, inl, inr, ◌≤◌, Result, Ok, Err, append_assoc, append-nil, length, take, Option, arith}
use Rattle.std.specs.Prelude.{◌&&◌, drop, not, map, slice_get, slice_set, unwrap_or, OnErr, OnOk, IfErr, IfOk, IsErrOf, IsErrAnd, if◌then◌else◌}
use Rattle.std.specs.List.{All}
use Rattle.std.proofs.lemmas.List.{map-append}
use Rattle.std.proofs.lemmas.List.Elements.{All-head, All-tail}
use Rattle.icn_host.specs.Counts.{CountsOnce}
use Rattle.std.specs.Io.KnownBytes.{Appends, Keeps}
use Rattle.icn_host.specs.Sinks.{SinkState, Gains, GainsPart}
use Rattle.icn_host.specs.declared.fault.Fault.{Fault}
use Rattle.icn_host.specs.declared.fault.Fault.TheVariants.{Failed, NoMemory}
use Rattle.icn_host.proofs.SinkSteps.{gains_nothing, gains_then, part_nothing}
use Rattle.icn_host.proofs.KeptSteps.{gains_keeps, part_kept}
use Rattle.icn_value.specs.declared.val.Val.{Val}
use Rattle.icn_value.specs.declared.val.Val.TheVariants as Vals
use Rattle.icn_value.specs.declared.val.File.{File as HeldFile}
use Rattle.icn_value.specs.Values.{File, Input, Output, Errout, Opened}
use Rattle.icn_value.specs.Store.{ErrorByte, Event, Heap, OpenedFile, Outside, OutputByte, Setting, errors_in, having_heap, no_file, output_in, readings_in, with_events, writings_in}
use Rattle.icn_value.specs.Changes.{added_to}
use Rattle.icn_defs.specs.InputOutput.{WriteArgument, Puts, Selects, having_events, line_put, newline, put_on, put_pieces}
use Rattle.icn_defs.specs.Interruptions.{ExtendsBy}
use Rattle.icn_defs.proofs.Interruptions.{bytes_split, errors_of_output, errors_put, errors_read_none, errors_then, errors_write_none, extends_by_errors, extends_by_output, extends_itself, extends_then, none_read, none_written, output_of_errors, output_put, output_reads_none, output_then, output_writes_none}
use Rattle.icn_heap.specs.Extents.{Extent, IsLive, KeepsValues, value_in}
use Rattle.icn_heap.specs.Heaps.{extent_of}
use Rattle.icn_heap.specs.Keys.{file_of}
use Rattle.icn_vars.specs.Worlds.{KeepsItems, reach_of, setting_of}
use Rattle.icn_vars.specs.declared.world.World.{World}
use Rattle.icn_args.specs.RowWords.{the_text}
use Rattle.icn_streams.specs.Handed.{KeepsFaultCounts, FailsOnce, LeavesSink, WantsOnce}
use Rattle.icn_streams.proofs.IdleCalls.{keeps_counts_refl}
use Rattle.icn_iofn.specs.PutPieces.{HasEffect, HasPut, BrokenBy, GainsOutputs, GainedPart, IsOneSettled, KeepsBoth, Outputs, PutState, PutsBehind, PutsPartBehind, PutsPartOn, StopsEffect, errors_failed, errors_wanted, file_after, output_failed, output_wanted, other_failed, other_wanted, outputs, piece_in, pieces_in, put_failed, put_setting, put_state, put_wanted, text_of_piece, uncounted, waiting_text}

-- Puts on a file

-- a file that holds this too
abbrev grown : List ℕ → OpenedFile → OpenedFile
grown bytes file = record file { content = file.content ++ bytes }

-- the file at a number
abbrev one_of : List OpenedFile → ℕ → OpenedFile
one_of files number = unwrap_or (slice_get files number) no_file

content_more : (files : List OpenedFile) (number : ℕ) (a b : List ℕ)
    → slice_set (slice_set files number (grown a (one_of files number))) number
    (grown b (one_of (slice_set files number (grown a (one_of files number))) number))
    ≡ slice_set files number (grown (a ++ b) (one_of files number))
content_more [] number a b = refl
content_more (file ∷ files) zero a b = ap (λ (c : List ℕ). let f : OpenedFile = record file { content = c } in f ∷ files) (append_assoc file.content a b)
content_more (file ∷ files) (suc number) a b = ap (λ (others : List OpenedFile). file ∷ others) (content_more files number a b)

content_same : (files : List OpenedFile) (number : ℕ) → slice_set files number (grown [] (one_of files number)) ≡ files
content_same [] number = refl
content_same (file ∷ files) zero = ap (λ (c : List ℕ). let f : OpenedFile = record file { content = c } in f ∷ files) (append-nil file.content)
content_same (file ∷ files) (suc number) = ap (λ (others : List OpenedFile). file ∷ others) (content_same files number)

-- a setting with another history, or with other opened files
abbrev having_history : List Event → Setting → Setting
having_history history s = record s { outside = record s.outside { history = history } }

abbrev having_files : List OpenedFile → Setting → Setting
having_files files s = having_heap (λ heap. record heap { files = files }) s

-- bytes behind others, whatever they are put on
put_events_more : (to : ℕ → Event) (a b : List ℕ) (s : Setting) → having_events (map to b) (having_events (map to a) s) ≡ having_events (map to (a ++ b)) s
put_events_more to a b s = ap (λ (h : List Event). having_history h s)
    (append_assoc s.outside.history (map to a) (map to b) ∙ ap (λ (e : List Event). s.outside.history ++ e) (sym (map-append to a b)))

pub put_more : (file : File) (a b : List ℕ) (s : Setting) → put_on file b (put_on file a s) ≡ put_on file (a ++ b) s
put_more Input a b s = refl
put_more Output a b s = put_events_more OutputByte a b s
put_more Errout a b s = put_events_more ErrorByte a b s
put_more (Opened number) a b s = ap (λ (files : List OpenedFile). having_files files s) (content_more s.world.heap.files number a b)

pub put_nothing : (file : File) (s : Setting) → put_on file [] s ≡ s
put_nothing Input s = refl
put_nothing Output s = ap (λ (h : List Event). having_history h s) (append-nil s.outside.history)
put_nothing Errout s = ap (λ (h : List Event). having_history h s) (append-nil s.outside.history)
put_nothing (Opened number) s = ap (λ (files : List OpenedFile). having_files files s) (content_same s.world.heap.files number)

-- What only grows

-- bytes were put behind what was done, and nothing was read or written
pub record Grows (was now : Outside) : Type 0 where
  pub done : List Event
  pub extends : ExtendsBy was done now
  pub unread : readings_in done ≡ 0
  pub unwritten : writings_in done ≡ []

pub grows_all : (o : Outside) → Grows o o
grows_all o = record { done = []; extends = extends_itself o; unread = refl; unwritten = refl }

pub grows_then : {o p q : Outside} → Grows o p → Grows p q → Grows o q
grows_then {o} {p} {q} first second = record {
  done = first.done ++ second.done;
  extends = extends_then first.extends second.extends;
  unread = none_read first.done second.done first.unread second.unread;
  unwritten = none_written first.done second.done first.unwritten second.unwritten;
}

pub grows_on : (file : File) (text : List ℕ) (s : Setting) → Grows s.outside (put_on file text s).outside
grows_on Input text s = grows_all s.outside
grows_on Output text s = record {
  done = map OutputByte text;
  extends = extends_by_output text s.outside;
  unread = output_reads_none text;
  unwritten = output_writes_none text;
}
grows_on Errout text s = record {
  done = map ErrorByte text;
  extends = extends_by_errors text s.outside;
  unread = errors_read_none text;
  unwritten = errors_write_none text;
}
grows_on (Opened number) text s = grows_all s.outside

pub grows_pieces : (end : List ℕ) (is_first : Bool) (parts : List WriteArgument) (file : File) (s : Setting)
    → Grows s.outside (put_pieces end is_first parts file s).1.outside
grows_pieces end is_first [] file s = grows_all s.outside
grows_pieces end is_first (Puts text ∷ parts) file s = grows_then (grows_on file text s) (grows_pieces end false parts file (put_on file text s))
grows_pieces end is_first (Selects other ∷ parts) file s =
    grows_then (grows_on file (if is_first then [] else end) s) (grows_pieces end false parts other (put_on file (if is_first then [] else end) s))

pub grows_line : (end : List ℕ) (is_first : Bool) (parts : List WriteArgument) (file : File) (s : Setting)
    → Grows s.outside (line_put end is_first parts file s).outside
grows_line end is_first parts file s =
    grows_then (grows_pieces end is_first parts file s)
    (grows_on (put_pieces end is_first parts file s).0 end (put_pieces end is_first parts file s).1)

-- What the outputs gained

pub both_all : (a : Outputs) → KeepsBoth a a
both_all a = record { output = keeps_counts_refl a.output; errors = keeps_counts_refl a.errors }

counts_then : {a b c : SinkState} → KeepsFaultCounts a b → KeepsFaultCounts b c → KeepsFaultCounts a c
counts_then first second = record { faults = second.faults ∙ first.faults; wants = second.wants ∙ first.wants }

pub both_then : {a b c : Outputs} → KeepsBoth a b → KeepsBoth b c → KeepsBoth a c
both_then first second = record { output = counts_then first.output second.output; errors = counts_then first.errors second.errors }

fails_then : {a b c : SinkState} → KeepsFaultCounts a b → FailsOnce b c → FailsOnce a c
fails_then first second = record { faults = rw (← first.faults) second.faults; wants = second.wants ∙ first.wants }

wants_then : {a b c : SinkState} → KeepsFaultCounts a b → WantsOnce b c → WantsOnce a c
wants_then first second = record { faults = second.faults ∙ first.faults; wants = rw (← first.wants) second.wants }

pub broken_then : {a b c : Outputs} (fault : Fault) → KeepsBoth a b → BrokenBy b c fault → BrokenBy a c fault
broken_then _ kept (output_failed x y) = output_failed (fails_then kept.output x) (counts_then kept.errors y)
broken_then _ kept (errors_failed x y) = errors_failed (counts_then kept.output x) (fails_then kept.errors y)
broken_then _ kept (output_wanted x y) = output_wanted (wants_then kept.output x) (counts_then kept.errors y)
broken_then _ kept (errors_wanted x y) = errors_wanted (counts_then kept.output x) (wants_then kept.errors y)
broken_then _ kept (uncounted x) = uncounted (both_then kept x)

pub gained_all : (a : Outputs) (o : Outside) → GainsOutputs a a o o
gained_all a o = record {
  done = [];
  extends = extends_itself o;
  unread = refl;
  unwritten = refl;
  output = gains_nothing a.output.held;
  errors = gains_nothing a.errors.held;
}

-- what was gained of some events, and then of others
output_gained : (a b c : SinkState) (x y : List Event) → Gains a.held b.held (output_in x) → Gains b.held c.held (output_in y)
    → Gains a.held c.held (output_in (x ++ y))
output_gained a b c x y first second = subst (Gains a.held c.held) (sym (output_then x y)) (gains_then first second)

errors_gained : (a b c : SinkState) (x y : List Event) → Gains a.held b.held (errors_in x) → Gains b.held c.held (errors_in y)
    → Gains a.held c.held (errors_in (x ++ y))
errors_gained a b c x y first second = subst (Gains a.held c.held) (sym (errors_then x y)) (gains_then first second)

pub gained_then : {a b c : Outputs} {o p q : Outside} → GainsOutputs a b o p → GainsOutputs b c p q → GainsOutputs a c o q
gained_then {a} {b} {c} {o} {p} {q} first second = record {
  done = first.done ++ second.done;
  extends = extends_then first.extends second.extends;
  unread = none_read first.done second.done first.unread second.unread;
  unwritten = none_written first.done second.done first.unwritten second.unwritten;
  output = output_gained a.output b.output c.output first.done second.done first.output second.output;
  errors = errors_gained a.errors b.errors c.errors first.done second.done first.errors second.errors;
}

-- where events stand behind others, and more behind them
behind_both : (before x y z mid end : List Event) → mid ≡ before ++ x → end ≡ mid ++ (y ++ z) → end ≡ before ++ ((x ++ y) ++ z)
behind_both before x y z mid end first second =
    second ∙ ap (λ (h : List Event). h ++ (y ++ z)) first ∙ append_assoc before x (y ++ z)
    ∙ ap (λ (e : List Event). before ++ e) (sym (append_assoc x y z))

pub then_gained_part : {a b c : Outputs} {o p q : Outside} → GainsOutputs a b o p → GainedPart b c p q → GainedPart a c o q
then_gained_part {a} {b} {c} {o} {p} {q} first second = record {
  done = first.done ++ second.done;
  due = second.due;
  are = behind_both o.history first.done second.done second.due p.history q.history first.extends.history second.are;
  unread = none_read first.done second.done first.unread second.unread;
  unwritten = none_written first.done second.done first.unwritten second.unwritten;
  output = output_gained a.output b.output c.output first.done second.done first.output second.output;
  errors = errors_gained a.errors b.errors c.errors first.done second.done first.errors second.errors;
}

pub part_grows : {a b : Outputs} {o p q : Outside} → GainedPart a b o p → Grows p q → GainedPart a b o q
part_grows {a} {b} {o} {p} {q} part more = record {
  done = part.done;
  due = part.due ++ more.done;
  are = more.extends.history ∙ ap (λ (h : List Event). h ++ more.done) part.are ∙ append_assoc o.history (part.done ++ part.due) more.done
      ∙ ap (λ (e : List Event). o.history ++ e) (append_assoc part.done part.due more.done);
  unread = part.unread;
  unwritten = part.unwritten;
  output = part.output;
  errors = part.errors;
}

-- nothing was put yet of what is to come
pub part_idle : (a : Outputs) {o p : Outside} → Grows o p → GainedPart a a o p
part_idle a more = record {
  done = [];
  due = more.done;
  are = more.extends.history;
  unread = refl;
  unwritten = refl;
  output = gains_nothing a.output.held;
  errors = gains_nothing a.errors.held;
}

-- a text that was put on an output
gained_output : (text : List ℕ) (a b : Outputs) → Gains a.output.held b.output.held text → Gains a.errors.held b.errors.held [] → (o : Outside)
    → GainsOutputs a b o (with_events (map OutputByte text) o)
gained_output text a b output errors o = record {
  done = map OutputByte text;
  extends = extends_by_output text o;
  unread = output_reads_none text;
  unwritten = output_writes_none text;
  output = subst (Gains a.output.held b.output.held) (sym (output_put text)) output;
  errors = subst (Gains a.errors.held b.errors.held) (sym (errors_of_output text)) errors;
}

gained_errors : (text : List ℕ) (a b : Outputs) → Gains a.output.held b.output.held [] → Gains a.errors.held b.errors.held text → (o : Outside)
    → GainsOutputs a b o (with_events (map ErrorByte text) o)
gained_errors text a b output errors o = record {
  done = map ErrorByte text;
  extends = extends_by_errors text o;
  unread = errors_read_none text;
  unwritten = errors_write_none text;
  output = subst (Gains a.output.held b.output.held) (sym (output_of_errors text)) output;
  errors = subst (Gains a.errors.held b.errors.held) (sym (errors_put text)) errors;
}

first_part : {before after : Option (List ℕ)} {text : List ℕ} (part : GainsPart before after text) → Gains before after (take part.count text)
first_part part = record { appends = part.appends }

no_part : {before after : Option (List ℕ)} → GainsPart before after [] → Gains before after []
no_part {before} {after} part = record { appends = subst (Appends before after) (none part.count) part.appends }
  where
    none : (n : ℕ) → ◌≡◌ {A = List ℕ} (take n []) []
    none zero = refl
    none (suc n) = refl

gained_part_by : (file : File) (text : List ℕ) (a b : Outputs) (fault : Fault) → PutsPartOn file text a b fault → (s : Setting)
    → GainedPart a b s.outside (put_on file text s).outside
gained_part_by Input text a b fault puts s = record {
  done = [];
  due = [];
  are = sym (append-nil s.outside.history);
  unread = refl;
  unwritten = refl;
  output = no_part puts.output;
  errors = no_part puts.errors;
}
gained_part_by Output text a b fault puts s =
    let n = puts.output.count in record {
      done = map OutputByte (take n text);
      due = map OutputByte (drop n text);
      are = ap (λ (e : List Event). s.outside.history ++ e) (bytes_split OutputByte n text);
      unread = output_reads_none (take n text);
      unwritten = output_writes_none (take n text);
      output = subst (Gains a.output.held b.output.held) (sym (output_put (take n text))) (first_part puts.output);
      errors = subst (Gains a.errors.held b.errors.held) (sym (errors_of_output (take n text))) (no_part puts.errors);
    }
gained_part_by Errout text a b fault puts s =
    let n = puts.errors.count in record {
      done = map ErrorByte (take n text);
      due = map ErrorByte (drop n text);
      are = ap (λ (e : List Event). s.outside.history ++ e) (bytes_split ErrorByte n text);
      unread = errors_read_none (take n text);
      unwritten = errors_write_none (take n text);
      output = subst (Gains a.output.held b.output.held) (sym (output_of_errors (take n text))) (no_part puts.output);
      errors = subst (Gains a.errors.held b.errors.held) (sym (errors_put (take n text))) (first_part puts.errors);
    }
gained_part_by (Opened number) text a b fault puts s = record {
  done = [];
  due = [];
  are = sym (append-nil s.outside.history);
  unread = refl;
  unwritten = refl;
  output = no_part puts.output;
  errors = no_part puts.errors;
}

pub gained_part_on : {file : File} {text : List ℕ} {a b : Outputs} {fault : Fault} → PutsPartOn file text a b fault → (s : Setting)
    → GainedPart a b s.outside (put_on file text s).outside
gained_part_on {file} {text} {a} {b} {fault} puts s = gained_part_by file text a b fault puts s

-- One put, once the other output is settled

ok_not_err : (done : Unit {0}) (fault : Fault) → IsErrOf {T = Unit {0}} (Ok done) fault → ⊥
ok_not_err done fault h = cc

failed_no_want : IsErrOf {T = Unit {0}} (Err Failed) NoMemory → ⊥
failed_no_want h = cc

want_not_failed : IsErrOf {T = Unit {0}} (Err NoMemory) Failed → ⊥
want_not_failed h = cc

-- the other output was settled
pub other_settled : {other now : SinkState} (done : Unit {0}) → Keeps other.held now.held
    → CountsOnce other.faults now.faults (IsErrOf {T = Unit {0}} (Ok done) Failed)
    → CountsOnce other.wants now.wants (IsErrOf {T = Unit {0}} (Ok done) NoMemory) → LeavesSink other now
other_settled done same faults wants = record {
  held = same;
  counts = record { faults = faults.stayed (ok_not_err done Failed); wants = wants.stayed (ok_not_err done NoMemory) };
}

other_broken : (text : List ℕ) (sink other now : SinkState) (fault : Fault) → Keeps other.held now.held
    → CountsOnce other.faults now.faults (IsErrOf {T = Unit {0}} (Err fault) Failed)
    → CountsOnce other.wants now.wants (IsErrOf {T = Unit {0}} (Err fault) NoMemory) → PutsPartBehind text sink sink other now fault
other_broken text sink other now Failed same faults wants =
    other_failed refl same (record { faults = faults.rose refl; wants = wants.stayed failed_no_want })
other_broken text sink other now NoMemory same faults wants =
    other_wanted refl same (record { faults = faults.stayed want_not_failed; wants = wants.rose refl })

-- it could not be settled
pub settling_breaks : (text : List ℕ) (sink other now : SinkState) (fault : Fault) (r : Result (Unit {0}) Fault) → IsErrAnd r (λ f. f ≡ fault)
    → Keeps other.held now.held → CountsOnce other.faults now.faults (IsErrOf {T = Unit {0}} (Err fault) Failed)
    → CountsOnce other.wants now.wants (IsErrOf {T = Unit {0}} (Err fault) NoMemory) → IfErr r (PutsPartBehind text sink sink other now)
settling_breaks text sink other now fault (Ok _) is same faults wants = tt
settling_breaks text sink other now fault (Err f) is same faults wants =
    subst (λ e. PutsPartBehind text sink sink other now e) (sym is) (other_broken text sink other now fault same faults wants)

-- the text was put
pub puts_behind : (text : List ℕ) (before after other now : SinkState) (r : Result (Unit {0}) Fault) → OnOk r (Gains before.held after.held text)
    → CountsOnce before.faults after.faults (IsErrOf r Failed) → CountsOnce before.wants after.wants (IsErrOf r NoMemory) → LeavesSink other now
    → OnOk r (PutsBehind text before after other now)
puts_behind text before after other now (Ok done) gains faults wants left = record {
  gains = gains;
  counts = record { faults = faults.stayed (ok_not_err done Failed); wants = wants.stayed (ok_not_err done NoMemory) };
  left = left;
}
puts_behind text before after other now (Err fault) gains faults wants left = tt

-- it was not put whole
pub breaks_behind : (text : List ℕ) (before after other now : SinkState) (r : Result (Unit {0}) Fault)
    → OnErr r (GainsPart before.held after.held text) → CountsOnce before.faults after.faults (IsErrOf r Failed)
    → CountsOnce before.wants after.wants (IsErrOf r NoMemory) → LeavesSink other now → IfErr r (PutsPartBehind text before after other now)
breaks_behind text before after other now (Ok done) part faults wants left = tt
breaks_behind text before after other now (Err Failed) part faults wants left =
    put_failed part (record { faults = faults.rose refl; wants = wants.stayed failed_no_want }) left
breaks_behind text before after other now (Err NoMemory) part faults wants left =
    put_wanted part (record { faults = faults.stayed want_not_failed; wants = wants.rose refl }) left

-- as a put on a file

none_gained : (a b : SinkState) → Keeps a.held b.held → Gains a.held b.held []
none_gained a b same = gains_keeps (gains_nothing a.held) same

none_part : (a b : SinkState) → Keeps a.held b.held → GainsPart a.held b.held []
none_part a b same = part_kept [] same

module _ (w : World) (locals : List Val) where
  pub puts_on_output : (r : Result (Unit {0}) Fault) (o o' e e' : SinkState) (file : File) (text : List ℕ) → file ≡ Output
      → OnOk r (PutsBehind text o o' e e')
      → OnOk r ((was : Outside) → HasPut (put_state w locals (outputs o e)) (put_state w locals (outputs o' e')) was (put_on file text))
  puts_on_output (Ok _) o o' e e' file text is puts = λ was. rw is (record {
    reached = with_events (map OutputByte text) was;
    gained = gained_output text (outputs o e) (outputs o' e') puts.gains (none_gained e e' puts.left.held) was;
    same = refl;
  })
  puts_on_output (Err _) o o' e e' file text is puts = tt

  pub puts_on_errors : (r : Result (Unit {0}) Fault) (o o' e e' : SinkState) (file : File) (text : List ℕ) → file ≡ Errout
      → OnOk r (PutsBehind text e e' o o')
      → OnOk r ((was : Outside) → HasPut (put_state w locals (outputs o e)) (put_state w locals (outputs o' e')) was (put_on file text))
  puts_on_errors (Ok _) o o' e e' file text is puts = λ was. rw is (record {
    reached = with_events (map ErrorByte text) was;
    gained = gained_errors text (outputs o e) (outputs o' e') (none_gained o o' puts.left.held) puts.gains was;
    same = refl;
  })
  puts_on_errors (Err _) o o' e e' file text is puts = tt

  -- nothing is put, or nothing of a text without bytes
  pub puts_nothing : (both : Outputs) (file : File) (text : List ℕ) → text ≡ [] → (was : Outside)
      → HasPut (put_state w locals both) (put_state w locals both) was (put_on file text)
  puts_nothing both file text empty was = record {
    reached = was;
    gained = gained_all both was;
    same = sym (ap (λ t. put_on file t (setting_of was w locals)) empty ∙ put_nothing file (setting_of was w locals));
  }

  pub puts_on_input : (both : Outputs) (file : File) (text : List ℕ) → file ≡ Input → (was : Outside)
      → HasPut (put_state w locals both) (put_state w locals both) was (put_on file text)
  puts_on_input both file text is was = rw is (record { reached = was; gained = gained_all both was; same = refl })

  -- it goes behind what an opened file holds
  pub puts_in_file : (now : World) (both : Outputs) (number : ℕ) (file : File) (text : List ℕ) → file ≡ Opened number
      → ((was : Outside) → setting_of was now locals ≡ having_heap (added_to number text) (setting_of was w locals)) → (was : Outside)
      → HasPut (put_state w locals both) (put_state now locals both) was (put_on file text)
  puts_in_file now both number file text is step was = rw is (record { reached = was; gained = gained_all both was; same = step was })

-- there was no memory for it
pub file_broken : (both : Outputs) (number : ℕ) (file : File) (text : List ℕ) (fault : Fault) → file ≡ Opened number → fault ≡ NoMemory
    → PutsPartOn file text both both fault
file_broken both number file text fault is want = rw is (record {
  output = part_nothing both.output.held [];
  errors = part_nothing both.errors.held [];
  cause = subst (BrokenBy both both) (sym want) (uncounted (both_all both));
})

output_part_by : (o o' e e' : SinkState) (text : List ℕ) (fault : Fault) → PutsPartBehind text o o' e e' fault
    → PutsPartOn Output text (outputs o e) (outputs o' e') fault
output_part_by o o' e e' text _ (put_failed part fails left) =
    record { output = part; errors = none_part e e' left.held; cause = output_failed fails left.counts }
output_part_by o o' e e' text _ (put_wanted part wants left) =
    record { output = part; errors = none_part e e' left.held; cause = output_wanted wants left.counts }
output_part_by o o' e e' text _ (other_failed same kept fails) = record {
  output = subst (λ (s : SinkState). GainsPart o.held s.held text) (sym same) (part_nothing o.held text);
  errors = none_part e e' kept;
  cause = errors_failed (subst (λ (s : SinkState). KeepsFaultCounts o s) (sym same) (keeps_counts_refl o)) fails;
}
output_part_by o o' e e' text _ (other_wanted same kept wants) = record {
  output = subst (λ (s : SinkState). GainsPart o.held s.held text) (sym same) (part_nothing o.held text);
  errors = none_part e e' kept;
  cause = errors_wanted (subst (λ (s : SinkState). KeepsFaultCounts o s) (sym same) (keeps_counts_refl o)) wants;
}

errors_part_by : (o o' e e' : SinkState) (text : List ℕ) (fault : Fault) → PutsPartBehind text e e' o o' fault
    → PutsPartOn Errout text (outputs o e) (outputs o' e') fault
errors_part_by o o' e e' text _ (put_failed part fails left) =
    record { output = none_part o o' left.held; errors = part; cause = errors_failed left.counts fails }
errors_part_by o o' e e' text _ (put_wanted part wants left) =
    record { output = none_part o o' left.held; errors = part; cause = errors_wanted left.counts wants }
errors_part_by o o' e e' text _ (other_failed same kept fails) = record {
  output = none_part o o' kept;
  errors = subst (λ (s : SinkState). GainsPart e.held s.held text) (sym same) (part_nothing e.held text);
  cause = output_failed fails (subst (λ (s : SinkState). KeepsFaultCounts e s) (sym same) (keeps_counts_refl e));
}
errors_part_by o o' e e' text _ (other_wanted same kept wants) = record {
  output = none_part o o' kept;
  errors = subst (λ (s : SinkState). GainsPart e.held s.held text) (sym same) (part_nothing e.held text);
  cause = output_wanted wants (subst (λ (s : SinkState). KeepsFaultCounts e s) (sym same) (keeps_counts_refl e));
}

pub output_broken : (r : Result (Unit {0}) Fault) (o o' e e' : SinkState) (file : File) (text : List ℕ) → file ≡ Output
    → IfErr r (PutsPartBehind text o o' e e') → IfErr r (PutsPartOn file text (outputs o e) (outputs o' e'))
output_broken (Ok _) o o' e e' file text is part = tt
output_broken (Err fault) o o' e e' file text is part = rw is (output_part_by o o' e e' text fault part)

pub errors_broken : (r : Result (Unit {0}) Fault) (o o' e e' : SinkState) (file : File) (text : List ℕ) → file ≡ Errout
    → IfErr r (PutsPartBehind text e e' o o') → IfErr r (PutsPartOn file text (outputs o e) (outputs o' e'))
errors_broken (Ok _) o o' e e' file text is part = tt
errors_broken (Err fault) o o' e e' file text is part = rw is (errors_part_by o o' e e' text fault part)

-- what is pending

pub still_one_settled : (sink was now : ℕ) → now ≤ was → IsOneSettled sink was → IsOneSettled sink now
still_one_settled sink was now less (inl none) = inl none
still_one_settled sink was now less (inr none) = inr (omega (arith, less, none))

pub other_way : {sink other : ℕ} → IsOneSettled sink other → IsOneSettled other sink
other_way (inl none) = inr none
other_way (inr none) = inl none

-- One piece

-- a text waits with what waits on the file
pub waits_more : (file now : File) (text more later : List ℕ) (a : PutState) → now ≡ file → later ≡ text ++ more
    → HasEffect (waiting_text file text a) (waiting_text now later a) (put_on file more)
waits_more file now text more later a same is = record {
  reached = λ was. was;
  gained = λ was. gained_all a.outputs was;
  same = λ was. ap (λ f. put_on f later (put_setting was a)) same
      ∙ (ap (λ t. put_on file t (put_setting was a)) is ∙ sym (put_more file text more (put_setting was a)));
  counts = both_all a.outputs;
}

-- what waits was put, and another file is selected
pub puts_waiting : (file other : File) (text more whole rest : List ℕ) (a b : PutState) → ((was : Outside) → HasPut a b was (put_on file whole))
    → KeepsBoth a.outputs b.outputs → whole ≡ text ++ more → rest ≡ []
    → HasEffect (waiting_text file text a) (waiting_text other rest b) (put_on file more)
puts_waiting file other text more whole rest a b puts counts is empty = record {
  reached = λ was. (puts was).reached;
  gained = λ was. (puts was).gained;
  same = λ was. ap (λ t. put_on other t (put_setting (puts was).reached b)) empty
      ∙ (put_nothing other (put_setting (puts was).reached b)
      ∙ ((puts was).same ∙ (ap (λ t. put_on file t (put_setting was a)) is ∙ sym (put_more file text more (put_setting was a)))));
  counts = counts;
}

-- what waits could not be put whole
pub stops_waiting : (file : File) (text more whole : List ℕ) (a : PutState) (b : Outputs) (fault : Fault) → PutsPartOn file whole a.outputs b fault
    → whole ≡ text ++ more → StopsEffect (waiting_text file text a) b (put_on file more) fault
stops_waiting file text more whole a b fault puts is = record {
  gained = λ was. subst (λ (s : Setting). GainedPart a.outputs b was s.outside)
      (ap (λ t. put_on file t (put_setting was a)) is ∙ sym (put_more file text more (put_setting was a)))
      (gained_part_on puts (put_setting was a));
  cause = puts.cause;
}

-- memory was wanting before anything was put
pub stops_idle : (file : File) (text more : List ℕ) (a : PutState) (fault : Fault) → fault ≡ NoMemory
    → StopsEffect (waiting_text file text a) a.outputs (put_on file more) fault
stops_idle file text more a fault is = record {
  gained = λ was. part_idle a.outputs (grows_then (grows_on file text (put_setting was a)) (grows_on file more (put_on file text (put_setting was a))));
  cause = subst (BrokenBy a.outputs a.outputs) (sym is) (uncounted (both_all a.outputs));
}

-- what is no file is put as its text
pub text_piece : (all : Extent) (val : Val) → ((file : HeldFile) → val ≡ Vals.Std file → ⊥) → piece_in (value_in all val) ≡ Puts (the_text (value_in all val))
text_piece all Vals.Null other = refl
text_piece all (Vals.Integer n) other = refl
text_piece all (Vals.Text span) other = refl
text_piece all (Vals.Chars cset) other = refl
text_piece all (Vals.Std file) other = absurd (other file refl)
text_piece all (Vals.Proc number) other = refl
text_piece all (Vals.Rec id) other = refl
text_piece all (Vals.List id) other = refl
text_piece all (Vals.Set id) other = refl
text_piece all (Vals.Table id) other = refl
text_piece all (Vals.Coexp id) other = refl

-- a file that is selected is one of the heap behind the put too
pub selected_lives : (all now : Extent) → KeepsValues all now → (val : Val) (other : HeldFile) (r : Result HeldFile Fault) → val ≡ Vals.Std other
    → IsLive all val → IfOk r (λ file. file ≡ other) → IfOk r (λ file. IsLive now (Vals.Std file))
selected_lives all now keeps val other (Ok file) is live same =
    subst (λ (f : HeldFile). IsLive now (Vals.Std f)) (sym same) (keeps.live (Vals.Std other) (subst (IsLive all) is live))
selected_lives all now keeps val other (Err fault) is live same = tt

-- Results

-- what holds of a known error holds of the result's error
pub if_err_known : {T : Type 0} (r : Result T Fault) (P : Fault → Type 0) (fault : Fault) → IsErrAnd r (λ other. other ≡ fault) → P fault → IfErr r P
if_err_known (Ok value) P fault same is = tt
if_err_known (Err other) P fault same is = subst P (sym same) is

pub if_ok_of_error : {T : Type 0} (r : Result T Fault) (P : T → Type 0) (Q : Fault → Type 0) → IsErrAnd r Q → IfOk r P
if_ok_of_error (Ok value) P Q same = absurd same
if_ok_of_error (Err other) P Q same = tt

pub if_err_map : {P Q : Fault → Type 0} (r : Result (Unit {0}) Fault) → IfErr r P → ((fault : Fault) → P fault → Q fault) → IfErr r Q
if_err_map (Ok value) is next = tt
if_err_map (Err other) is next = next other is

pub on_err_map : {P : Fault → Type 0} {Q : Type 0} (r : Result (Unit {0}) Fault) → IfErr r P → ((fault : Fault) → P fault → Q) → OnErr r Q
on_err_map (Ok value) is next = tt
on_err_map (Err other) is next = next other is

pub on_ok_map : {P Q : Type 0} {E : Type 0} (r : Result (Unit {0}) E) → OnOk r P → (P → Q) → OnOk r Q
on_ok_map (Ok value) is next = next is
on_ok_map (Err other) is next = tt

-- the records of a heap stay, whether or not a file in it grew
pub added_or_same : {E : Type 0} (r : Result (Unit {0}) E) (old new : Heap) → OnOk r (new.records ≡ old.records) → OnErr r (new ≡ old)
    → new.records ≡ old.records
added_or_same (Ok value) old new grown same = grown
added_or_same (Err other) old new grown same = ap (λ (heap : Heap). heap.records) same

-- A line

-- what ends a line, where lines end
abbrev pub end_of : Bool → List ℕ
end_of ends = if ends then newline else []

-- The line as far as its pieces have come: what is still to be put, from here on, gives the whole line. Values are those of the
-- extent with which it began.
pub record LineSo (all : Extent) (vals rest : List Val) (ends is_first : Bool) (start now : File) (text : List ℕ) (before after : PutState) : Type 0 where
  pub reached : Outside → Outside
  pub gained : (was : Outside) → GainsOutputs before.outputs after.outputs was (reached was)
  pub same : (was : Outside) → line_put (end_of ends) is_first (pieces_in (map (value_in all) rest)) now (put_on now text (put_setting (reached was) after))
      ≡ line_put (end_of ends) true (pieces_in (map (value_in all) vals)) start (put_setting was before)
  pub counts : KeepsBoth before.outputs after.outputs
  pub live : All (IsLive all) rest

pub line_begins : (all : Extent) (vals : List Val) (ends : Bool) (start : File) (text : List ℕ) (a : PutState) → text ≡ [] → All (IsLive all) vals
    → LineSo all vals vals ends true start start text a a
line_begins all vals ends start text a empty live = record {
  reached = λ was. was;
  gained = λ was. gained_all a.outputs was;
  same = λ was.
      ap (line_put (end_of ends) true (pieces_in (map (value_in all) vals)) start)
      (ap (λ t. put_on start t (put_setting was a)) empty ∙ put_nothing start (put_setting was a));
  counts = both_all a.outputs;
  live = live;
}

piece_text : (ends is_first : Bool) (piece : WriteArgument)
    → text_of_piece newline (not (ends && not is_first)) piece ≡ text_of_piece (end_of ends) is_first piece
piece_text ends is_first (Puts text) = refl
piece_text true true (Selects other) = refl
piece_text true false (Selects other) = refl
piece_text false true (Selects other) = refl
piece_text false false (Selects other) = refl

line_step : (end : List ℕ) (is_first : Bool) (piece : WriteArgument) (parts : List WriteArgument) (file : File) (s : Setting)
    → line_put end is_first (piece ∷ parts) file s ≡ line_put end false parts (file_after file piece) (put_on file (text_of_piece end is_first piece) s)
line_step end is_first (Puts text) parts file s = refl
line_step end is_first (Selects other) parts file s = refl

-- what is left, said again
pub line_at : (all : Extent) (vals rest other : List Val) (ends is_first : Bool) (start now : File) (text : List ℕ) (before between : PutState)
    → rest ≡ other
    → LineSo all vals rest ends is_first start now text before between → LineSo all vals other ends is_first start now text before between
line_at all vals rest other ends is_first start now text before between same so =
    subst (λ r. LineSo all vals r ends is_first start now text before between) same so

module _ (all : Extent) (vals : List Val) (first : Val) (others : List Val) (ends is_first : Bool) (start now : File) (text : List ℕ)
    (before between : PutState) (b : Bool) (test : b ≡ (ends && not is_first))
    (so : LineSo all vals (first ∷ others) ends is_first start now text before between) where
  -- what the first piece puts
  abbrev first_put : List ℕ
  first_put = text_of_piece newline (not b) (piece_in (value_in all first))

  -- the line behind its first piece
  behind : (was : Outside)
      → line_put (end_of ends) false (pieces_in (map (value_in all) others)) (file_after now (piece_in (value_in all first)))
      (put_on now first_put (put_on now text (put_setting (so.reached was) between)))
      ≡ line_put (end_of ends) true (pieces_in (map (value_in all) vals)) start (put_setting was before)
  behind was =
      ap (λ t. line_put (end_of ends) false (pieces_in (map (value_in all) others)) (file_after now (piece_in (value_in all first)))
      (put_on now t (put_on now text (put_setting (so.reached was) between))))
      (ap (λ t. text_of_piece newline (not t) (piece_in (value_in all first))) test ∙ piece_text ends is_first (piece_in (value_in all first)))
      ∙ (sym (line_step (end_of ends) is_first (piece_in (value_in all first)) (pieces_in (map (value_in all) others)) now
      (put_on now text (put_setting (so.reached was) between)))
      ∙ so.same was)

  pub line_goes_on : (later : File) (waits : List ℕ) (after : PutState)
      → HasEffect (waiting_text now text between) (waiting_text later waits after) (put_on now first_put)
      → later ≡ file_after now (piece_in (value_in all first)) → LineSo all vals others ends false start later waits before after
  line_goes_on later waits after adv is = record {
    reached = λ was. adv.reached (so.reached was);
    gained = λ was. gained_then (so.gained was) (adv.gained (so.reached was));
    same = λ was.
        ap (λ o. line_put (end_of ends) false (pieces_in (map (value_in all) others)) later o) (adv.same (so.reached was))
        ∙ (ap (λ f. line_put (end_of ends) false (pieces_in (map (value_in all) others)) f
        (put_on now first_put (put_on now text (put_setting (so.reached was) between)))) is
        ∙ behind was);
    counts = both_then so.counts adv.counts;
    live = All-tail (IsLive all) first others so.live;
  }

  pub line_stops : (after : Outputs) (fault : Fault)
      → StopsEffect (waiting_text now text between) after (put_on now first_put) fault
      → (was : Outside)
      → GainedPart before.outputs after was
      (line_put (end_of ends) true (pieces_in (map (value_in all) vals)) start (put_setting was before)).outside
  line_stops after fault stops was =
      subst (λ (s : Setting). GainedPart before.outputs after was s.outside) (behind was)
      (part_grows (then_gained_part (so.gained was) (stops.gained (so.reached was)))
      (grows_line (end_of ends) false (pieces_in (map (value_in all) others)) (file_after now (piece_in (value_in all first)))
      (put_on now first_put (put_on now text (put_setting (so.reached was) between)))))

  pub line_stopped_by : (after : Outputs) (fault : Fault)
      → StopsEffect (waiting_text now text between) after (put_on now first_put) fault
      → BrokenBy before.outputs after fault
  line_stopped_by after fault stops = broken_then fault so.counts stops.cause

module _ (all : Extent) (vals : List Val) (ends is_first : Bool) (start now : File) (text : List ℕ) (before between : PutState)
    (so : LineSo all vals [] ends is_first start now text before between) where
  -- the whole line
  abbrev line_of : Outside → Setting
  line_of was = line_put (end_of ends) true (pieces_in (map (value_in all) vals)) start (put_setting was before)

  last : (was : Outside) (whole : List ℕ) → whole ≡ text ++ end_of ends → put_on now whole (put_setting (so.reached was) between) ≡ line_of was
  last was whole is =
      ap (λ t. put_on now t (put_setting (so.reached was) between)) is
      ∙ (sym (put_more now text (end_of ends) (put_setting (so.reached was) between)) ∙ so.same was)

  -- no memory for the end of the line
  pub line_wants : (was : Outside) → GainedPart before.outputs between.outputs was (line_of was).outside
  line_wants was =
      then_gained_part (so.gained was)
      (part_idle between.outputs (subst (λ (s : Setting). Grows (so.reached was) s.outside) (last was (text ++ end_of ends) refl)
      (grows_on now (text ++ end_of ends) (put_setting (so.reached was) between))))

  pub line_ends : (whole : List ℕ) (after : PutState) → whole ≡ text ++ end_of ends → ((was : Outside) → HasPut between after was (put_on now whole))
      → (was : Outside) → HasPut before after was (line_put (end_of ends) true (pieces_in (map (value_in all) vals)) start)
  line_ends whole after is puts was =
      let put : HasPut between after (so.reached was) (put_on now whole) = puts (so.reached was) in
      record { reached = put.reached; gained = gained_then (so.gained was) put.gained; same = put.same ∙ last was whole is }

  pub line_breaks : (whole : List ℕ) (after : Outputs) (fault : Fault) → whole ≡ text ++ end_of ends → PutsPartOn now whole between.outputs after fault
      → (was : Outside) → GainedPart before.outputs after was (line_of was).outside
  line_breaks whole after fault is puts was =
      subst (λ (s : Setting). GainedPart before.outputs after was s.outside) (last was whole is)
      (then_gained_part (so.gained was) (gained_part_on puts (put_setting (so.reached was) between)))

-- The first of what is left stands for the same in a heap that keeps its values
module _ (all now : Extent) (rest : List Val) (first : Val) (others : List Val) (is : rest ≡ first ∷ others) (live : All (IsLive all) rest)
    (keeps : KeepsValues all now) where
  first_of : IsLive all first
  first_of = All-head (IsLive all) first others (subst (λ r. All (IsLive all) r) is live)

  pub first_lives : IsLive now first
  first_lives = keeps.live first first_of

  same_piece : piece_in (value_in now first) ≡ piece_in (value_in all first)
  same_piece = ap piece_in (keeps.value first first_of)

  pub said_again : (file : File) (text : List ℕ) (between : PutState) (b : Bool) (later : File) (waits : List ℕ) (after : PutState)
      → HasEffect (waiting_text file text between) (waiting_text later waits after)
      (put_on file (text_of_piece newline (not b) (piece_in (value_in now first))))
      → HasEffect (waiting_text file text between) (waiting_text later waits after)
      (put_on file (text_of_piece newline (not b) (piece_in (value_in all first))))
  said_again file text between b later waits after effect =
      subst (λ (piece : WriteArgument). HasEffect (waiting_text file text between) (waiting_text later waits after)
      (put_on file (text_of_piece newline (not b) piece))) same_piece effect

  pub stopped_again : (file : File) (text : List ℕ) (between : PutState) (b : Bool) (after : Outputs) (fault : Fault)
      → StopsEffect (waiting_text file text between) after (put_on file (text_of_piece newline (not b) (piece_in (value_in now first)))) fault
      → StopsEffect (waiting_text file text between) after (put_on file (text_of_piece newline (not b) (piece_in (value_in all first)))) fault
  stopped_again file text between b after fault stops =
      subst (λ (piece : WriteArgument). StopsEffect (waiting_text file text between) after (put_on file (text_of_piece newline (not b) piece)) fault)
      same_piece stops

  pub first_same : (file later : File) → later ≡ file_after file (piece_in (value_in now first)) → later ≡ file_after file (piece_in (value_in all first))
  first_same file later same = same ∙ ap (file_after file) same_piece

-- the line so, with the file that is selected and the locals of the heap, and what is pending
pub record PutsSo (vals rest : List Val) (ends is_first : Bool) (start now : HeldFile) (text : List ℕ) (w after : World) (held : List Val)
    (before between : Outputs) (one_settled : Type 0) : Type 0 where
  pub line : LineSo (extent_of w.heap) vals rest ends is_first (file_of start) (file_of now) text (put_state w held before)
      (put_state after held between)
  pub file : IsLive (extent_of after.heap) (Vals.Std now)
  pub locals : All (IsLive (extent_of after.heap)) held
  pub kept : KeepsItems (reach_of w held) (reach_of after held)
  pub one : one_settled

pub nothing_left : {A : Type 0} (items : List A) → length items ≡ 0 → items ≡ []
nothing_left [] is = refl
nothing_left (item ∷ items) is = absurd (omega arith)
