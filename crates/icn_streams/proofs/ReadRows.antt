-- Rows that read once.
use Rattle.std.proofs.Common.{◌≡◌, ◌∙◌, refl, sym, ap, ℕ, ◌+◌, nat_lt, Bool, true, false, List, [], ◌∷◌, length, take, take_while, Option, None, Some, Result, Ok, Err}
use Rattle.std.specs.Prelude.{◌==◌, not, IsErrAnd}
use Rattle.std.proofs.Common.{subst}
use Rattle.std.specs.List.{All}
use Rattle.icn_host.specs.FileMaps.{FileMap, StoreState}
use Rattle.icn_host.specs.Sinks.{SinkState}
use Rattle.icn_value.specs.declared.val.Span.{Span}
use Rattle.icn_value.specs.declared.val.Val.{Val}
use Rattle.icn_value.specs.Store.{Request, ALine, SomeBytes, Event, AReading, Outside, Setting, with_reading}
use Rattle.icn_defs.specs.Interruptions.{LosesPart, TellsMap, after_reading, asked_of}
use Rattle.icn_defs.specs.Lines.{takes_input}
use Rattle.icn_defs.specs.Rows.{Row, fails_unless, check, costs_bytes, changes_heap}
use Rattle.icn_heap.specs.Extents.{IsLive, text_in}
use Rattle.icn_heap.specs.Heaps.{extent_of}
use Rattle.icn_vars.specs.Outcomes.{IsLiveHalt, IsLiveOutcome, outcome_in}
use Rattle.icn_vars.specs.Worlds.{KeepsItems, reach_of}
use Rattle.icn_vars.specs.declared.outcome.Outcome.{Outcome}
use Rattle.icn_vars.specs.declared.outcome.Outcome.TheVariants.{Fails as HeldFails}
use Rattle.icn_vars.specs.declared.outcome.Halt.{Halt}
use Rattle.icn_vars.specs.declared.outcome.Halt.TheVariants.{Error as ErrorHalt, Ends as EndsHalt, ReadFault, WriteFault, FileFault, NoMemory}
use Rattle.icn_vars.specs.declared.world.World.{World}
use Rattle.icn_host.specs.Counts.{one_more}
use Rattle.icn_host.specs.Sources.{SourceCounts}
use Rattle.icn_streams.specs.Handed.{Follows, call_streams, faults_of, uncounted, input_wants as wants_there}
use Rattle.icn_streams.specs.Answers.{Answers, CallState, CausedBy, IsTold, StopsReading, Told, call_state, outside_after, reading, setting_with}
use Rattle.icn_streams.specs.Applies.{Applies}
use Rattle.icn_streams.specs.Readings.{InputCause, Reads, ReadsOfSome, input_wants, next_read, others_want}
use Rattle.icn_host.proofs.SinkSteps.{gains_nothing}
use Rattle.icn_defs.proofs.Interruptions.{extends_read, holds_kept, holds_told}
use Rattle.icn_streams.proofs.IdleCalls.{keeps_counts_refl, keeps_store_refl, leaves_sink_refl}

-- Behind the reading nothing more is read or put.
pub record IsQuiet (next : List ℕ → Row) : Type 0 where
  pub outside : (text : List ℕ) (s : Setting) → outside_after (next text s) ≡ s.outside

checked : (t : Bool) (next : Row) (s : Setting) (history : List Event) → s.outside.history ≡ history
    → ((s : Setting) → s.outside.history ≡ history → (outside_after (next s)).history ≡ history)
    → (count : ℕ) → (outside_after (check t 306 None (changes_heap (λ heap. record heap { strings = heap.strings + count }) next) s)).history ≡ history
checked true next s history same rest count = rest _ same
checked false next s history same rest count = same

passed : (t : Bool) (next : Row) (s : Setting) (history : List Event) → s.outside.history ≡ history
    → (outside_after (next s)).history ≡ history → (outside_after (fails_unless t next s)).history ≡ history
passed true next s history same rest = rest
passed false next s history same rest = same

-- The row reads once, and does nothing else.
pub reads_once : (asked : Request) (next : List ℕ → Row) (quiet : IsQuiet next) (s : Setting)
    → (outside_after (next_read asked next s)).history ≡ (with_reading asked s.outside).history
reads_once ALine next quiet s =
    let line : List ℕ = take_while (λ byte. not (byte == 10)) s.outside.left in
    passed (nat_lt 0 (length s.outside.left)) (takes_input (length line + 1) (costs_bytes (length line) (next line)))
    (record s { outside = with_reading ALine s.outside })
    (with_reading ALine s.outside).history refl
    (checked _ (next line) (record s { outside = after_reading ALine s.outside }) (with_reading ALine s.outside).history refl
    (λ s' same. ap (λ (o : Outside). o.history) (quiet.outside line s') ∙ same) (length line))
reads_once (SomeBytes count) next quiet s =
    let bytes : List ℕ = take count s.outside.left in
    passed (nat_lt 0 (length bytes)) (takes_input (length bytes) (costs_bytes (length bytes) (next bytes)))
    (record s { outside = with_reading (SomeBytes count) s.outside })
    (with_reading (SomeBytes count) s.outside).history refl
    (checked _ (next bytes) _ (with_reading (SomeBytes count) s.outside).history refl
    (λ s' same. ap (λ (o : Outside). o.history) (quiet.outside bytes s') ∙ same) (length bytes))

module _ (asked : Request) (next : List ℕ → Row) (quiet : IsQuiet next) (old new : World) (locals : List Val) (store : StoreState)
    (left left' : Option (List ℕ)) (faults faults' : SourceCounts) (called : faults'.calls ≡ one_more faults.calls) (output errors : SinkState) where
  -- what the call was handed, and what it leaves, had the files and the input told this
  abbrev before : StoreState → Option (List ℕ) → CallState
  before files tells = call_state old locals (call_streams files tells faults output errors)

  abbrev after : StoreState → Option (List ℕ) → CallState
  after files tells = call_state new locals (call_streams files tells faults' output errors)

  module _ (a b : StoreState) (same : b.held ≡ a.held) (tells tells' : Option (List ℕ)) (was : Outside) (told : TellsMap a.held was.files) where
    -- it follows the outside, whatever the input tells
    was_read : tells' ≡ Some (after_reading asked was).left → Follows (before a tells).handed (after b tells').handed was (after_reading asked was)
    was_read rest = record {
      done = AReading asked ∷ [];
      extends = extends_read was asked;
      stands = record {
        files = holds_kept same (holds_told a.held was.files told);
        rest = rest;
        calls = called;
        output = gains_nothing output.held;
        errors = gains_nothing errors.held;
      };
    }

    in_reading : LosesPart was.left (asked_of asked was.left) tells'
        → StopsReading (next_read asked next) (setting_with was (before a tells)) (before a tells).handed (after b tells').handed
    in_reading lost = record {
      done = [];
      asked = asked;
      due = [];
      are = reads_once asked next quiet (setting_with was (before a tells));
      stands = record {
        files = holds_kept same (holds_told a.held was.files told);
        rest = lost;
        calls = called;
        output = gains_nothing output.held;
        errors = gains_nothing errors.held;
      };
    }

    halted : (halt : Halt) → Reads asked was (before a tells) (after b tells') (Err halt)
        → Answers (next_read asked next) was (before a tells) (after b tells') (Err halt)
    halted (ErrorHalt number offending) reads = record { now = after_reading asked was; follows = was_read reads.1; comes = reads.0 next }
    halted (EndsHalt status) reads = absurd reads
    halted ReadFault reads = in_reading reads
    halted WriteFault reads = absurd reads
    halted FileFault reads = absurd reads
    halted NoMemory reads = reading (in_reading reads)

    given_by : (span : Span) (outcome : Outcome)
        → ((s : Setting) → next (text_in (extent_of new.heap) span) s ≡ outcome_in (extent_of new.heap) outcome s)
        → Reads asked was (before a tells) (after b tells') (Ok (Some span))
        → Answers (next_read asked next) was (before a tells) (after b tells') (Ok outcome)
    given_by span outcome goes reads = record {
      now = after_reading asked was;
      follows = was_read reads.1;
      comes = reads.0 next ∙ goes _;
    }

    failed_by : Reads asked was (before a tells) (after b tells') (Ok None)
        → Answers (next_read asked next) was (before a tells) (after b tells') (Ok HeldFails)
    failed_by reads = record {
      now = after_reading asked was;
      follows = was_read reads.1;
      comes = reads.0 next;
    }

  halt_caused : (halt : Halt) → InputCause faults faults' (Err halt) → CausedBy (Err halt) (before store left).handed (after store left').handed
  halt_caused (ErrorHalt number offending) cause = record {
    files = keeps_store_refl store;
    faults = cause;
    output = keeps_counts_refl output;
    errors = keeps_counts_refl errors;
  }
  halt_caused (EndsHalt status) cause = absurd cause
  halt_caused ReadFault cause = record { files = refl; faults = cause; output = leaves_sink_refl output; errors = leaves_sink_refl errors }
  halt_caused WriteFault cause = absurd cause
  halt_caused FileFault cause = absurd cause
  halt_caused NoMemory (others_want same) = uncounted (record {
    files = keeps_store_refl store;
    faults = same;
    output = keeps_counts_refl output;
    errors = keeps_counts_refl errors;
  })
  halt_caused NoMemory (input_wants rose) = wants_there (keeps_store_refl store) rose (keeps_counts_refl output) (keeps_counts_refl errors)

  -- a store that tells these files
  abbrev telling : FileMap → StoreState
  telling files = record store { held = Some files }

  told_in : (had : Told) (was : Outside) → IsTold had was → TellsMap (Some had.files) was.files
  told_in had was is = record { told = had.files; is = refl; same = is.files }

  -- the reading was not made, or an error of the row
  pub read_halts : (halt : Halt) (result : Result Outcome Halt) → IsErrAnd result (λ other. other ≡ halt)
      → ((was : Outside) → left ≡ Some was.left → Reads asked was (before store left) (after store left') (Err halt))
      → ReadsOfSome asked (before store left) (after store left') (Err halt)
      → InputCause faults faults' (Err halt) → IsLiveHalt (reach_of new locals) halt → All (IsLive (extent_of new.heap)) locals
      → KeepsItems (reach_of old locals) (reach_of new locals)
      → Applies (next_read asked next) (before store left) (after store left') result
  read_halts halt (Ok outcome) same reads some cause live lives kept = absurd same
  read_halts halt (Err other) same reads some cause live lives kept =
      subst (λ h. Applies (next_read asked next) (before store left) (after store left') (Err h)) (sym same) (record {
        answers = λ was told. halted store store refl left left' was told.files halt (reads was told.left);
        meant = record {
          had = some.had;
          has = some.has;
          allowed = some.allowed;
          allows = some.allows;
          answers = λ was first.
              halted (telling some.had.files) (telling some.has.files) (ap (λ (m : FileMap). Some m) some.same) (Some some.had.left) (Some some.has.left)
              was (told_in some.had was first) halt (some.reads was first);
        };
        caused = halt_caused halt cause;
        live = live;
        locals = lives;
        kept = kept;
      })

  -- a text was read, and the row goes on with it
  pub read_gives : (found : Option Span) (span : Span) (outcome : Outcome) → found ≡ Some span
      → ((s : Setting) → next (text_in (extent_of new.heap) span) s ≡ outcome_in (extent_of new.heap) outcome s)
      → ((was : Outside) → left ≡ Some was.left → Reads asked was (before store left) (after store left') (Ok found))
      → ReadsOfSome asked (before store left) (after store left') (Ok found)
      → faults_of faults' ≡ faults_of faults → IsLiveOutcome (reach_of new locals) outcome → All (IsLive (extent_of new.heap)) locals
      → KeepsItems (reach_of old locals) (reach_of new locals)
      → Applies (next_read asked next) (before store left) (after store left') (Ok outcome)
  read_gives found span outcome is goes reads some cause live lives kept = record {
    answers = λ was told. given_by store store refl left left' was told.files span outcome goes
        (subst (λ f. Reads asked was (before store left) (after store left') (Ok f)) is (reads was told.left));
    meant = record {
      had = some.had;
      has = some.has;
      allowed = some.allowed;
      allows = some.allows;
      answers = λ was first.
          given_by (telling some.had.files) (telling some.has.files) (ap (λ (m : FileMap). Some m) some.same) (Some some.had.left) (Some some.has.left) was
          (told_in some.had was first) span outcome goes
          (subst (λ f. Reads asked was (before (telling some.had.files) (Some some.had.left)) (after (telling some.has.files) (Some some.has.left)) (Ok f)) is
          (some.reads was first));
    };
    caused = record {
      files = keeps_store_refl store;
      faults = cause;
      output = keeps_counts_refl output;
      errors = keeps_counts_refl errors;
    };
    live = live;
    locals = lives;
    kept = kept;
  }

  -- nothing was there, and the row fails
  pub read_fails : (found : Option Span) → found ≡ None
      → ((was : Outside) → left ≡ Some was.left → Reads asked was (before store left) (after store left') (Ok found))
      → ReadsOfSome asked (before store left) (after store left') (Ok found)
      → faults_of faults' ≡ faults_of faults → All (IsLive (extent_of new.heap)) locals → KeepsItems (reach_of old locals) (reach_of new locals)
      → Applies (next_read asked next) (before store left) (after store left') (Ok HeldFails)
  read_fails found is reads some cause lives kept = record {
    answers = λ was told. failed_by store store refl left left' was told.files
        (subst (λ f. Reads asked was (before store left) (after store left') (Ok f)) is (reads was told.left));
    meant = record {
      had = some.had;
      has = some.has;
      allowed = some.allowed;
      allows = some.allows;
      answers = λ was first.
          failed_by (telling some.had.files) (telling some.has.files) (ap (λ (m : FileMap). Some m) some.same) (Some some.had.left) (Some some.has.left) was
          (told_in some.had was first)
          (subst (λ f. Reads asked was (before (telling some.had.files) (Some some.had.left)) (after (telling some.has.files) (Some some.has.left)) (Ok f)) is
          (some.reads was first));
    };
    caused = record {
      files = keeps_store_refl store;
      faults = cause;
      output = keeps_counts_refl output;
      errors = keeps_counts_refl errors;
    };
    live = record { live = tt };
    locals = lives;
    kept = kept;
  }
