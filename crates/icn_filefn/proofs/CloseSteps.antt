-- What closing a file comes to.
use Rattle.std.proofs.Common.{◌≡◌, ◌∙◌, refl, sym, ap, subst, ℕ, Bool, true, false, List, [], Option, None, Some, Result, Ok, Err, cond, inl, inr, unwrap_or, if◌then◌else◌}
use Rattle.std.specs.Prelude.{◌⊎◌, IfSome, IsErrAnd}
use Rattle.std.specs.Io.KnownBytes.{Keeps}
use Rattle.std.specs.Map.{update}
use Rattle.std.specs.Str.{bytes_eq}
use Rattle.std.proofs.lemmas.Slice.Eq.{bytes_eq-Decides}
use Rattle.std.specs.List.{All}
use Rattle.icn_host.specs.Counts.{raised_count}
use Rattle.icn_host.specs.FileMaps.{FileMap, StoreState}
use Rattle.icn_host.specs.Sinks.{Gains, SinkState}
use Rattle.icn_host.specs.Sources.{SourceCounts}
use Rattle.icn_host.proofs.KeptSteps.{gains_keeps}
use Rattle.icn_host.proofs.SinkSteps.{gains_nothing}
use Rattle.icn_value.specs.declared.item.Item.TheVariants.{Val as HeldVal}
use Rattle.icn_value.specs.declared.val.File.{File as HeldFile}
use Rattle.icn_value.specs.declared.val.File.TheVariants.{Input as HeldInput, Output as HeldOutput, Errout as HeldErrout, Opened as HeldOpened}
use Rattle.icn_value.specs.declared.val.Val.{Val}
use Rattle.icn_value.specs.declared.val.Val.TheVariants.{Std as HeldStd}
use Rattle.icn_value.specs.Values.{Opened, Std, Val as ValItem}
use Rattle.icn_value.specs.Changes.{shut}
use Rattle.icn_value.specs.Store.{AReading, ErrorByte, Event, FileReading, FileWriting, OpenedFile, OutputByte, Outside, Setting, file_at, having_heap, no_files, outside_of, with_file_writing}
use Rattle.icn_defs.specs.Interruptions.{BreaksFiles, HoldsMap, LeavesStore, StandsBehind, TellsMap, files_behind}
use Rattle.icn_defs.specs.OpenFiles.{is_open_to_write, written_out}
use Rattle.icn_defs.specs.Rows.{Gives as GivesOutcome}
use Rattle.icn_defs.proofs.Interruptions.{holds_told, told_behind, update_alike}
use Rattle.icn_heap.specs.Extents.{IsLive}
use Rattle.icn_heap.specs.Heaps.{extent_of, heap_of}
use Rattle.icn_heap.specs.Keys.{file_of}
use Rattle.icn_vars.specs.Worlds.{KeepsItems, reach_of, setting_of}
use Rattle.icn_vars.specs.declared.outcome.Outcome.{Outcome}
use Rattle.icn_vars.specs.declared.outcome.Outcome.TheVariants.{Gives as HeldGives}
use Rattle.icn_vars.specs.declared.outcome.Halt.{Halt}
use Rattle.icn_vars.specs.declared.outcome.Halt.TheVariants.{Error as ErrorHalt, Ends as EndsHalt, ReadFault, WriteFault, FileFault, NoMemory}
use Rattle.icn_vars.specs.declared.world.World.{World}
use Rattle.icn_streams.specs.Answers.{AllowsBehind, IsTold, StopsFiles, StopsPutting, Told, call_state, files as in_files, putting, streams_telling}
use Rattle.icn_streams.specs.Applies.{Applies}
use Rattle.icn_streams.specs.Handed.{CallStreams, FilesFail, Follows, KeepsStoreCounts, LeavesStreams, StoreFailsOnce, StoreWantsOnce, TellsOutside, WantsMemory, call_streams, files_want, streams_of}
use Rattle.icn_streams.specs.Settling.{HoldsBoth, Settles}
use Rattle.icn_streams.proofs.CallSequences.{tells_told}
use Rattle.icn_streams.proofs.IdleCalls.{allows_own, allows_still, keeps_items_refl, keeps_store_refl, leaves_sink_refl, told_of}
use Rattle.icn_filefn.specs.ClosedFiles.{BreaksClosing, ClosesBy, WritesClosed}
use Rattle.icn_filefn.specs.OpenParts.{HoldsAll, closes_then}
use Rattle.icn_filefn.specs.WrittenFiles.{AreOfFiles, BreaksWriting}
use Rattle.icn_filefn.proofs.StoreCalls.{allows_same, holds_telling, of_both, stands_none}
use Rattle.icn_filefn.proofs.WrittenSteps.{WritesOn, none_asked, none_errors, none_output, none_taken, one_on}

-- What is told behind it

-- these events were done, of which all are of files
pub stands_by : (a b : CallStreams) (was : Outside) (done : List Event) → AreOfFiles done → a.left ≡ Some was.left
    → HoldsMap a.files.held b.files.held (files_behind was.files done) → b.left ≡ a.left → b.counts.calls ≡ a.counts.calls
    → Keeps a.output.held b.output.held → Keeps a.errors.held b.errors.held
    → StandsBehind was done (streams_of a) (streams_of b)
stands_by a b was done are told held left calls output errors = record {
  files = held;
  rest = left ∙ told ∙ ap (λ (l : List ℕ). Some l) (sym (none_taken was.left done are));
  calls = calls ∙ ap (raised_count a.counts.calls) (sym (none_asked done are));
  output = subst (Gains a.output.held b.output.held) (sym (none_output done are)) (gains_keeps (gains_nothing a.output.held) output);
  errors = subst (Gains a.errors.held b.errors.held) (sym (none_errors done are)) (gains_keeps (gains_nothing a.errors.held) errors);
}

-- one of the calls that lead from one outside to another failed behind them
pub breaks_by : (a b : CallStreams) (was end : Outside) → BreaksWriting was end a.files.held b.files.held → a.left ≡ Some was.left → b.left ≡ a.left
    → b.counts.calls ≡ a.counts.calls → Keeps a.output.held b.output.held → Keeps a.errors.held b.errors.held
    → BreaksFiles was end (streams_of a) (streams_of b)
breaks_by a b was end broken told left calls output errors = record {
  done = broken.done;
  call = broken.call;
  due = broken.due;
  are = broken.are;
  stands = record {
    files = broken.leaves;
    rest = left ∙ told ∙ ap (λ (l : List ℕ). Some l) (sym (none_taken was.left broken.done broken.of_files));
    calls = calls ∙ ap (raised_count a.counts.calls) (sym (none_asked broken.done broken.of_files));
    output = subst (Gains a.output.held b.output.held) (sym (none_output broken.done broken.of_files)) (gains_keeps (gains_nothing a.output.held) output);
    errors = subst (Gains a.errors.held b.errors.held) (sym (none_errors broken.done broken.of_files)) (gains_keeps (gains_nothing a.errors.held) errors);
  };
}

-- The file was written, or did not have to be

follows_writing : (file : OpenedFile) (a b : CallStreams) (was : Outside) → a.left ≡ Some was.left
    → HoldsMap a.files.held b.files.held (written_out file was).files → b.left ≡ a.left → b.counts.calls ≡ a.counts.calls
    → Keeps a.output.held b.output.held → Keeps a.errors.held b.errors.held
    → Follows a b was (written_out file was)
follows_writing file a b was told held left calls output errors =
    let on : WritesOn was (written_out file was) = one_on file was in
    record {
      done = on.done;
      extends = on.extends;
      stands = stands_by a b was on.done on.of_files told (subst (HoldsMap a.files.held b.files.held) on.extends.files held) left calls output errors;
    }

-- the files that a store holds then, if it held these
abbrev written_files : OpenedFile → FileMap → FileMap
written_files file held = (written_out file (outside_of [] held)).files

same_written : (file : OpenedFile) (was : Outside) (held : FileMap) → ((n : List ℕ) → was.files n ≡ held n) → (n : List ℕ)
    → (written_out file was).files n ≡ written_files file held n
same_written file was held same n = by (is_open_to_write file)
  where
    by : (t : Bool) → (if t then with_file_writing file.name file.content was else was).files n
        ≡ (if t then with_file_writing file.name file.content (outside_of [] held) else outside_of [] held).files n
    by true = update_alike was.files held file.name (Some file.content) n (same n)
    by false = same n

module _ (number : ℕ) (w : World) (locals : List Val) (live : All (IsLive (extent_of w.heap)) locals) (a b : CallStreams) where
  abbrev the_file : OpenedFile
  the_file = file_at (heap_of w.heap) number

  none_done : (x y : CallStreams) (was : Outside) → HoldsAll x y → TellsOutside x was
      → StopsPutting (closes_then (Opened number)) (setting_of was w locals) x y
  none_done x y was holds told =
      let on : WritesOn was (written_out the_file was) = one_on the_file was in
      record { done = []; due = on.done; are = on.extends.history; stands = stands_none x y was holds told }

  -- The file was written

  module _ (is : WritesClosed the_file a b) (now : World) (lives : All (IsLive (extent_of now.heap)) locals)
      (kept : KeepsItems (reach_of w locals) (reach_of now locals)) (of : IsLive (extent_of w.heap) (HeldStd (HeldOpened number)))
      (shuts : (outside : Outside) → setting_of outside now locals ≡ having_heap (shut number) (setting_of outside w locals)) where
    abbrev has : Told
    has = record { left = (told_of a).left; files = written_files the_file (told_of a).files }

    held_still : (held after : Option FileMap)
        → ((was : Outside) → TellsMap held was.files → HoldsMap held after (written_out the_file was).files)
        → IfSome held (λ was. TellsMap after (written_files the_file (unwrap_or held no_files)))
    held_still None after written = tt
    held_still (Some files) after written =
        let first : Outside = outside_of [] files in
        let tells : TellsMap (Some files) files = record { told = files; is = refl; same = λ n. refl } in
        told_behind (Some files) after files (written_files the_file files) (written_files the_file files) refl tells (written first tells)

    -- and the row gives it
    pub closing_gives : Applies (closes_then (Opened number)) (call_state w locals a) (call_state now locals b)
        (Ok (HeldGives (HeldVal (HeldStd (HeldOpened number)))))
    closing_gives = record {
      answers = λ was told. record {
        now = written_out the_file was;
        follows = follows_writing the_file a b was told.left (is.written was told.files) is.left is.calls is.output.held is.errors.held;
        comes = ap (λ (s : Setting). GivesOutcome (ValItem (Std (Opened number))) s) (sym (shuts (written_out the_file was)));
      };
      meant = record {
        had = told_of a;
        has = has;
        allowed = allows_own a;
        allows = record {
          left = subst (λ (o : Option (List ℕ)). IfSome a.left (λ was. o ≡ Some (told_of a).left)) (sym is.left) (allows_still a).left;
          files = held_still a.files.held b.files.held is.written;
        };
        answers = λ was first. record {
          now = written_out the_file was;
          follows = follows_writing the_file (streams_telling (told_of a) a) (streams_telling has b) was (ap (λ (l : List ℕ). Some l) (sym first.left))
              (record { follows = (written_files the_file (told_of a).files, refl, λ n. sym (same_written the_file was (told_of a).files first.files n)) })
              refl is.calls is.output.held is.errors.held;
          comes = ap (λ (s : Setting). GivesOutcome (ValItem (Std (Opened number))) s) (sym (shuts (written_out the_file was)));
        };
      };
      caused = record { files = is.counts; faults = is.faults; output = is.output.counts; errors = is.errors.counts };
      live = record { live = record { live = kept.extent.live (HeldStd (HeldOpened number)) of } };
      locals = lives;
      kept = kept;
    }

  -- It was broken off

  -- what the store may hold then
  abbrev held_after : Option FileMap → Option FileMap → FileMap
  held_after None after = no_files
  held_after (Some files) after = unwrap_or after no_files

  nothing_changed : (files : FileMap) (name : List ℕ) → (q : List ℕ) → files q ≡ update bytes_eq files name (files name) q
  nothing_changed files name q = by (bytes_eq name q) refl
    where
      by : (t : Bool) → bytes_eq name q ≡ t → files q ≡ cond (bytes_eq name q) (files name) (files q)
      by true same = rw same (ap files (sym ((bytes_eq-Decides name q).0 same)))
      by false other = rw other refl

  -- where the store tells nothing, the next call may be the one that failed
  idle_breaks : (was : Outside) (files : FileMap) → ((n : List ℕ) → was.files n ≡ files n) → is_open_to_write the_file ≡ true
      → BreaksWriting was (written_out the_file was) (Some files) (Some files)
  idle_breaks was files same opens =
      subst (λ (t : Bool). BreaksWriting was (if t then with_file_writing the_file.name the_file.content was else was) (Some files) (Some files)) (sym opens)
      (record {
        done = [];
        call = FileWriting the_file.name the_file.content;
        due = [];
        are = refl;
        of_files = tt;
        leaves = (
          files,
          refl,
          (was.files the_file.name, inr (inl refl), λ q. sym (same q) ∙ nothing_changed was.files the_file.name q),
        );
      })

  left_of : (held after : Option FileMap) (call : Event) (files : FileMap) → LeavesStore call files held after
      → IfSome held (λ was. after ≡ Some (unwrap_or after no_files))
  left_of None after call files leaves = tt
  left_of (Some held) after (AReading asked) files leaves = absurd leaves
  left_of (Some held) after (OutputByte byte) files leaves = absurd leaves
  left_of (Some held) after (ErrorByte byte) files leaves = absurd leaves
  left_of (Some held) after (FileReading name) files leaves =
      subst (λ (o : Option FileMap). o ≡ Some (unwrap_or o no_files)) (sym leaves.follows.1) refl
  left_of (Some held) after (FileWriting name bytes) files leaves = subst (λ (o : Option FileMap). o ≡ Some (unwrap_or o no_files)) (sym leaves.1) refl

  broken_telling : (held after : Option FileMap)
      → ((was : Outside) → TellsMap held was.files → BreaksWriting was (written_out the_file was) held after) → is_open_to_write the_file ≡ true
      → (was : Outside) → ((n : List ℕ) → was.files n ≡ unwrap_or held no_files n)
      → BreaksWriting was (written_out the_file was) (Some (unwrap_or held no_files)) (Some (held_after held after))
  broken_telling None after broken opens was same = idle_breaks was no_files same opens
  broken_telling (Some files) after broken opens was same =
      let x : BreaksWriting was (written_out the_file was) (Some files) after = broken was (record { told = files; is = refl; same = same }) in
      subst (BreaksWriting was (written_out the_file was) (Some files)) (left_of (Some files) after x.call _ x.leaves) x

  broken_allows : (held after : Option FileMap)
      → ((was : Outside) → TellsMap held was.files → BreaksWriting was (written_out the_file was) held after)
      → IfSome held (λ was. TellsMap after (held_after held after))
  broken_allows None after broken = tt
  broken_allows (Some files) after broken =
      let first : Outside = outside_of [] files in
      let x : BreaksWriting first (written_out the_file first) (Some files) after = broken first (record { told = files; is = refl; same = λ n. refl }) in
      record { told = unwrap_or after no_files; is = left_of (Some files) after x.call _ x.leaves; same = λ n. refl }

  module _ (is : BreaksClosing the_file a b) (opens : is_open_to_write the_file ≡ true) where
    abbrev told_after : Told
    told_after = record { left = (told_of a).left; files = held_after a.files.held b.files.held }

    broken_allowed : AllowsBehind a b told_after
    broken_allowed = record {
      left = subst (λ (o : Option (List ℕ)). IfSome a.left (λ was. o ≡ Some (told_of a).left)) (sym is.left) (allows_still a).left;
      files = broken_allows a.files.held b.files.held is.broken;
    }

    broken_told : (was : Outside) → TellsOutside a was → StopsFiles (closes_then (Opened number)) (setting_of was w locals) a b
    broken_told was told = breaks_by a b was (written_out the_file was) (is.broken was told.files) told.left is.left is.calls is.output is.errors

    broken_some : (was : Outside) → IsTold (told_of a) was
        → StopsFiles (closes_then (Opened number)) (setting_of was w locals) (streams_telling (told_of a) a) (streams_telling told_after b)
    broken_some was first =
        breaks_by (streams_telling (told_of a) a) (streams_telling told_after b) was (written_out the_file was)
        (broken_telling a.files.held b.files.held is.broken opens was first.files) (ap (λ (l : List ℕ). Some l) (sym first.left)) refl is.calls is.output
        is.errors

  stopped_both : (holds : HoldsAll a b) → WantsMemory a b
      → Applies (closes_then (Opened number)) (call_state w locals a) (call_state w locals b) (Err NoMemory)
  stopped_both holds wants = record {
    answers = λ was told. putting (none_done a b was holds told);
    meant = record {
      had = told_of a;
      has = told_of a;
      allowed = allows_own a;
      allows = allows_same holds;
      answers = λ was first. putting (none_done _ _ was (holds_telling (told_of a) holds) (tells_told (told_of a) a was first));
    };
    caused = wants;
    live = tt;
    locals = live;
    kept = keeps_items_refl (reach_of w locals);
  }

  stopped_so : (A : Type 0) (halt : Halt) → is_open_to_write the_file ≡ true → ClosesBy {A = A} the_file a b (Err halt)
      → Applies (closes_then (Opened number)) (call_state w locals a) (call_state w locals b) (Err halt)
  stopped_so A (ErrorHalt code offending) opens closes = absurd closes
  stopped_so A (EndsHalt status) opens closes = absurd closes
  stopped_so A ReadFault opens closes = absurd closes
  stopped_so A WriteFault opens closes =
      let holds : HoldsAll a b = of_both closes.0 in
      record {
        answers = λ was told. none_done a b was holds told;
        meant = record {
          had = told_of a;
          has = told_of a;
          allowed = allows_own a;
          allows = allows_same holds;
          answers = λ was first. none_done _ _ was (holds_telling (told_of a) holds) (tells_told (told_of a) a was first);
        };
        caused = closes.1;
        live = tt;
        locals = live;
        kept = keeps_items_refl (reach_of w locals);
      }
  stopped_so A FileFault opens closes = record {
    answers = λ was told. broken_told closes.0 opens was told;
    meant = record {
      had = told_of a;
      has = told_after closes.0 opens;
      allowed = allows_own a;
      allows = broken_allowed closes.0 opens;
      answers = λ was first. broken_some closes.0 opens was first;
    };
    caused = closes.1;
    live = tt;
    locals = live;
    kept = keeps_items_refl (reach_of w locals);
  }
  stopped_so A NoMemory opens closes = elim closes.0 [
    | inl both ↦ stopped_both (of_both both) closes.1
    | inr broken ↦ record {
      answers = λ was told. in_files (broken_told broken opens was told);
      meant = record {
        had = told_of a;
        has = told_after broken opens;
        allowed = allows_own a;
        allows = broken_allowed broken opens;
        answers = λ was first. in_files (broken_some broken opens was first);
      };
      caused = closes.1;
      live = tt;
      locals = live;
      kept = keeps_items_refl (reach_of w locals);
    }
  ]

  -- an output or the store failed, or memory was wanting
  pub closing_stops : (A : Type 0) (halt : Halt) (result : Result Outcome Halt) → IsErrAnd result (λ other. other ≡ halt)
      → is_open_to_write the_file ≡ true → ClosesBy {A = A} the_file a b (Err halt)
      → Applies (closes_then (Opened number)) (call_state w locals a) (call_state w locals b) result
  closing_stops A halt (Ok outcome) same opens closes = absurd same
  closing_stops A halt (Err other) same opens closes =
      subst (λ (h : Halt). Applies (closes_then (Opened number)) (call_state w locals a) (call_state w locals b) (Err h)) (sym same)
      (stopped_so A halt opens closes)

-- the file is this one
pub closes_err : (A B : Type 0) (file held : OpenedFile) → file ≡ held → (a b : CallStreams) (halt : Halt) → ClosesBy {A = A} file a b (Err halt)
    → ClosesBy {A = B} held a b (Err halt)
closes_err A B file held same a b (ErrorHalt code offending) closes = absurd closes
closes_err A B file held same a b (EndsHalt status) closes = absurd closes
closes_err A B file held same a b ReadFault closes = absurd closes
closes_err A B file held same a b WriteFault closes = closes
closes_err A B file held same a b FileFault closes = subst (λ (f : OpenedFile). BreaksClosing f a b × FilesFail a b) same closes
closes_err A B file held same a b NoMemory closes =
    subst (λ (f : OpenedFile). (HoldsBoth a b ⊎ BreaksClosing f a b) × WantsMemory a b) same closes

-- a standard file is left as it is
pub closes_standard : (held : HeldFile) (s : Setting) → ((number : ℕ) → held ≡ HeldOpened number → ⊥)
    → closes_then (file_of held) s ≡ GivesOutcome (ValItem (Std (file_of held))) s
closes_standard HeldInput s other = refl
closes_standard HeldOutput s other = refl
closes_standard HeldErrout s other = refl
closes_standard (HeldOpened number) s other = absurd (other number refl)

-- What the writing of a file that is closed leaves

-- it is not open to be written
pub closes_none : {A : Type 0} (file : OpenedFile) (a : CallStreams) (value : A) → is_open_to_write file ≡ false → ClosesBy file a a (Ok value)
closes_none file a value shut = record {
  written = λ was told. subst (λ (t : Bool). HoldsMap a.files.held a.files.held (if t then with_file_writing file.name file.content was else was).files)
      (sym shut) (holds_told a.files.held was.files told);
  counts = keeps_store_refl a.files;
  left = refl;
  faults = refl;
  calls = refl;
  output = leaves_sink_refl a.output;
  errors = leaves_sink_refl a.errors;
}

unsettled : (A B : Type 0) (file : OpenedFile) (a b : CallStreams) (halt : Halt) → Settles {A = A} a b (Err halt) → ClosesBy {A = B} file a b (Err halt)
unsettled A B file a b (ErrorHalt code offending) stops = absurd stops
unsettled A B file a b (EndsHalt status) stops = absurd stops
unsettled A B file a b ReadFault stops = absurd stops
unsettled A B file a b WriteFault stops = stops
unsettled A B file a b FileFault stops = absurd stops
unsettled A B file a b NoMemory stops = (inl stops.0, stops.1)

-- an output could not be settled
pub closes_unsettled : (A : Type 0) {B : Type 0} (file : OpenedFile) (a b : CallStreams) (halt : Halt) (result : Result B Halt)
    → IsErrAnd result (λ other. other ≡ halt) → Settles {A = A} a b (Err halt) → ClosesBy file a b result
closes_unsettled A file a b halt (Ok value) same stops = absurd same
closes_unsettled A {B} file a b halt (Err other) same stops =
    subst (λ (h : Halt). ClosesBy {A = B} file a b (Err h)) (sym same) (unsettled A B file a b halt stops)

module _ (file : OpenedFile) (store store' : StoreState) (left : Option (List ℕ)) (counts : SourceCounts) (o o' e e' : SinkState)
    (settled : LeavesStreams (call_streams store left counts o e) (call_streams store left counts o' e')) where
  -- it was written
  pub closes_done : {A : Type 0} (value : A)
      → ((was : Outside) → TellsMap store.held was.files → HoldsMap store.held store'.held (written_out file was).files) → KeepsStoreCounts store store'
      → ClosesBy file (call_streams store left counts o e) (call_streams store' left counts o' e') (Ok value)
  closes_done value written kept = record {
    written = written;
    counts = kept;
    left = refl;
    faults = refl;
    calls = refl;
    output = settled.output;
    errors = settled.errors;
  }

  broken_closing : ((was : Outside) → TellsMap store.held was.files → BreaksWriting was (written_out file was) store.held store'.held)
      → BreaksClosing file (call_streams store left counts o e) (call_streams store' left counts o' e')
  broken_closing broken = record { broken = broken; left = refl; calls = refl; output = settled.output.held; errors = settled.errors.held }

  -- the store failed
  pub closes_failing : (A : Type 0)
      → ((was : Outside) → TellsMap store.held was.files → BreaksWriting was (written_out file was) store.held store'.held) → StoreFailsOnce store store'
      → ClosesBy {A = A} file (call_streams store left counts o e) (call_streams store' left counts o' e') (Err FileFault)
  closes_failing A broken fails = (
    broken_closing broken,
    record { files = fails; left = refl; faults = refl; calls = refl; output = settled.output; errors = settled.errors },
  )

  -- it wanted memory
  pub closes_wanting : (A : Type 0)
      → ((was : Outside) → TellsMap store.held was.files → BreaksWriting was (written_out file was) store.held store'.held) → StoreWantsOnce store store'
      → ClosesBy {A = A} file (call_streams store left counts o e) (call_streams store' left counts o' e') (Err NoMemory)
  closes_wanting A broken wants = (inr (broken_closing broken), files_want wants refl settled.output.counts settled.errors.counts)
