-- What the part of a row that reads comes to.
use Rattle.std.proofs.Common.{◌≡◌, ◌∙◌, refl, sym, ap, subst, ℕ, zero, suc, ◌+◌, nat_lt, Bool, true, false, List, [], ◌∷◌, length, take, drop, Option, None, Some, Result, Ok, Err, arith, take_while, lt-ltb}
use Rattle.std.specs.Prelude.{◌==◌, not, IfSome, IsErrAnd, MatchResult}
use Rattle.icn_value.specs.declared.val.Span.{Span}
use Rattle.icn_value.specs.Store.{Request, ALine, SomeBytes, Outside, Setting, with_reading}
use Rattle.icn_defs.specs.Calls.{Passes}
use Rattle.icn_defs.specs.Interruptions.{LosesPart, asked_of, after_reading}
use Rattle.icn_defs.specs.Lines.{takes_input}
use Rattle.icn_defs.specs.Rows.{Row, Fails, fails_unless, costs_bytes}
use Rattle.icn_heap.specs.Extents.{text_in}
use Rattle.icn_heap.specs.Heaps.{extent_of}
use Rattle.icn_vars.specs.Stops.{StopsPassing, halt_of}
use Rattle.icn_vars.specs.declared.stop.Stop.{Stop}
use Rattle.icn_vars.specs.declared.stop.Stop.TheVariants.{Error as ErrorStop, NoMemory as NoMemoryStop}
use Rattle.icn_vars.specs.declared.outcome.Halt.{Halt}
use Rattle.icn_streams.specs.Answers.{CallState, setting_with}
use Rattle.icn_streams.specs.Readings.{Fills, Reads, is_there, next_read, read_of}

drop_taken : (count : ℕ) (xs : List ℕ) → drop (length (take count xs)) xs ≡ drop count xs
drop_taken zero xs = refl
drop_taken (suc count) [] = refl
drop_taken (suc count) (x ∷ xs) = drop_taken count xs

-- something is there, and is taken and charged
pub next_there : (asked : Request) (next : List ℕ → Row) (s : Setting) → is_there asked s.outside.left ≡ true
    → next_read asked next s
    ≡ costs_bytes (length (read_of asked s.outside.left)) (next (read_of asked s.outside.left)) (record s { outside = after_reading asked s.outside })
next_there ALine next s is =
    ap (λ b. fails_unless b (takes_input (length (take_while (λ byte. not (byte == 10)) s.outside.left) + 1)
    (costs_bytes (length (take_while (λ byte. not (byte == 10)) s.outside.left)) (next (take_while (λ byte. not (byte == 10)) s.outside.left))))
    (record s { outside = with_reading ALine s.outside })) is
next_there (SomeBytes count) next s is =
    ap (λ b. fails_unless b (takes_input (length (take count s.outside.left)) (costs_bytes (length (take count s.outside.left))
    (next (take count s.outside.left))))
    (record s { outside = with_reading (SomeBytes count) s.outside })) is
    ∙ ap (λ left. costs_bytes (length (take count s.outside.left)) (next (take count s.outside.left))
    (record s { outside = record (with_reading (SomeBytes count) s.outside) { left = left } })) (drop_taken count s.outside.left)

-- nothing is there
pub next_gone : (asked : Request) (next : List ℕ → Row) (s : Setting) → is_there asked s.outside.left ≡ false
    → next_read asked next s ≡ Fails (record s { outside = with_reading asked s.outside })
next_gone ALine next s is =
    ap (λ b. fails_unless b (takes_input (length (take_while (λ byte. not (byte == 10)) s.outside.left) + 1)
    (costs_bytes (length (take_while (λ byte. not (byte == 10)) s.outside.left)) (next (take_while (λ byte. not (byte == 10)) s.outside.left))))
    (record s { outside = with_reading ALine s.outside })) is
next_gone (SomeBytes count) next s is =
    ap (λ b. fails_unless b (takes_input (length (take count s.outside.left)) (costs_bytes (length (take count s.outside.left))
    (next (take count s.outside.left))))
    (record s { outside = with_reading (SomeBytes count) s.outside })) is

-- where nothing is there nothing is taken
pub rest_gone : (asked : Request) (left : List ℕ) → is_there asked left ≡ false → drop (asked_of asked left) left ≡ left
rest_gone ALine [] is = refl
rest_gone ALine (x ∷ xs) is = let above : nat_lt 0 (suc (length xs)) ≡ true = lt-ltb 0 (suc (length xs)) (omega arith) in cc
rest_gone (SomeBytes zero) left is = refl
rest_gone (SomeBytes (suc count)) [] is = refl
rest_gone (SomeBytes (suc count)) (x ∷ xs) is =
    let above : nat_lt 0 (suc (length (take count xs))) ≡ true = lt-ltb 0 (suc (length (take count xs))) (omega arith) in cc

-- all that is asked for was taken
loses_all : (asked : Request) (left : List ℕ) (after : Option (List ℕ)) → after ≡ Some (drop (asked_of asked left) left)
    → LosesPart left (asked_of asked left) after
loses_all asked left after is = record { count = asked_of asked left; within = omega arith; is = is }

-- What a call was answered that read

module _ (asked : Request) (was : Outside) (before after : CallState) where
  pub reads_some : (there : Bool) (held bytes : List ℕ) (span : Span) → Fills asked was.left there held after.handed.left → there ≡ true → bytes ≡ held
      → text_in (extent_of after.world.heap) span ≡ bytes
      → Passes (costs_bytes (length bytes)) (setting_with (after_reading asked was) before) (setting_with (after_reading asked was) after)
      → Reads asked was before after (Ok (Some span))
  reads_some there held bytes span fills met same text step = (
    λ next. next_there asked next (setting_with was before) (sym fills.found ∙ met)
        ∙ (ap (λ b. costs_bytes (length b) (next b) (setting_with (after_reading asked was) before)) (sym (same ∙ fills.read))
        ∙ (step (next bytes) ∙ ap (λ b. next b (setting_with (after_reading asked was) after)) (sym text))),
    fills.rest,
  )

  pub reads_none : (there : Bool) (bytes : List ℕ) → Fills asked was.left there bytes after.handed.left → there ≡ false
      → setting_with (after_reading asked was) before ≡ setting_with (after_reading asked was) after
      → Reads asked was before after (Ok None)
  reads_none there bytes fills missed same = (
    λ next. next_gone asked next (setting_with was before) (sym fills.found ∙ missed)
        ∙ (ap (λ (left : List ℕ). Fails (setting_with (record (with_reading asked was) { left = left }) before))
        (sym (rest_gone asked was.left (sym fills.found ∙ missed))) ∙ ap Fails same),
    fills.rest,
  )

  refused : (there : Bool) (held bytes : List ℕ) (stop : Stop) → Fills asked was.left there held after.handed.left → there ≡ true → bytes ≡ held
      → StopsPassing (extent_of after.world.heap) (costs_bytes (length bytes)) (setting_with (after_reading asked was) before)
      (setting_with (after_reading asked was) after) stop
      → Reads asked was before after (Err (halt_of stop))
  refused there held bytes (ErrorStop number offending) fills met same step = (
    λ next. next_there asked next (setting_with was before) (sym fills.found ∙ met)
        ∙ (ap (λ b. costs_bytes (length b) (next b) (setting_with (after_reading asked was) before)) (sym (same ∙ fills.read)) ∙ step (next bytes)),
    fills.rest,
  )
  refused there held bytes NoMemoryStop fills met same step = loses_all asked was.left after.handed.left fills.rest

  pub reads_err : (there : Bool) (held bytes : List ℕ) (stop : Stop) (result : Result (Option Span) Halt) → Fills asked was.left there held after.handed.left
      → there ≡ true → bytes ≡ held
      → StopsPassing (extent_of after.world.heap) (costs_bytes (length bytes)) (setting_with (after_reading asked was) before)
      (setting_with (after_reading asked was) after) stop
      → IsErrAnd result (λ halt. halt ≡ halt_of stop) → Reads asked was before after result
  reads_err there held bytes stop (Ok found) fills met same step is = absurd is
  reads_err there held bytes stop (Err halt) fills met same step is =
      subst (λ h. Reads asked was before after (Err h)) (sym is) (refused there held bytes stop fills met same step)

-- an answer that is known to be an error
pub stopped : (result : Result Span Stop) (P : Span → Type 0) (Q : Stop → Type 0) (stop : Stop) → IsErrAnd result (λ other. other ≡ stop) → Q stop
    → MatchResult result P Q
stopped (Ok span) P Q stop same is = absurd same
stopped (Err other) P Q stop same is = subst Q (sym same) is

-- what is said of a value that is there
pub if_some_elim : {A : Type 0} (o : Option A) (x : A) (P : A → Type 0) → o ≡ Some x → IfSome o P → P x
if_some_elim o x P told is = subst (λ v. IfSome v P) told is
