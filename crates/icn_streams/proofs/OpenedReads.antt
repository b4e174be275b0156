-- What the part of a row comes to that reads an opened file.
use Rattle.std.proofs.Common.{◌≡◌, ◌∙◌, refl, sym, ap, subst, ℕ, zero, suc, ◌+◌, ◌≤◌, true, false, List, [], ◌∷◌, Option, Result, Ok, Err, drop, length, take, arith, take_while, length-drop, length-take, le-ltb, lt-ltb}
use Rattle.std.specs.Prelude.{◌==◌, min, not, slice_get, slice_set, unwrap_or, IsErrAnd}
use Rattle.icn_value.specs.declared.val.Span.{Span}
use Rattle.icn_value.specs.Store.{Request, ALine, SomeBytes, OpenedFile, Setting, file_at, having_heap, no_file, with_opened}
use Rattle.icn_defs.specs.Calls.{Passes}
use Rattle.icn_defs.specs.Interruptions.{asked_of}
use Rattle.icn_defs.specs.Lines.{takes_opened}
use Rattle.icn_defs.specs.OpenFiles.{left_in}
use Rattle.icn_defs.specs.Rows.{Row, Fails, fails_unless, costs_bytes}
use Rattle.icn_heap.specs.Extents.{Extent}
use Rattle.icn_vars.specs.Stops.{StopsFinding, StopsPassing}
use Rattle.icn_vars.specs.declared.stop.Stop.{Stop}
use Rattle.icn_vars.specs.declared.stop.Stop.TheVariants.{Error as ErrorStop, NoMemory as NoMemoryStop}
use Rattle.icn_streams.specs.Readings.{ReadsOpened, is_there, next_opened, read_of}

-- a file of which so many bytes were read
abbrev pub read_up_to : ℕ → OpenedFile → OpenedFile
read_up_to place file = record file { place = place }

-- how far the next reading goes
abbrev pub place_behind : Request → OpenedFile → ℕ
place_behind asked file = file.place + min (asked_of asked (left_in file)) (length (left_in file))

-- whichever way it is told
line_place : (file : OpenedFile) (count : ℕ) → file.place ≤ length file.content
    → min (file.place + count) (length file.content) ≡ file.place + min count (length (left_in file))
line_place file count within = omega (arith, within, length-drop file.place file.content)

bytes_place : (file : OpenedFile) (count : ℕ) → file.place ≤ length file.content
    → min (file.place + length (take count (left_in file))) (length file.content) ≡ file.place + min count (length (left_in file))
bytes_place file count within = omega (arith, within, length-drop file.place file.content, length-take count (left_in file))

-- Answers

-- memory was wanting
pub opened_wants : (asked : Request) (number : ℕ) (all : Extent) (before after : Setting) (result : Result (Option Span) Stop)
    → IsErrAnd result (λ stop. stop ≡ NoMemoryStop) → ReadsOpened asked number all before after result
opened_wants asked number all before after (Ok found) same = absurd same
opened_wants asked number all before after (Err stop) same = subst (λ (s : Stop). ReadsOpened asked number all before after (Err s)) (sym same) tt

-- it was refused
pub opened_stopped : (asked : Request) (number : ℕ) (all : Extent) (before after : Setting) (stop : Stop) (result : Result (Option Span) Stop)
    → IsErrAnd result (λ other. other ≡ stop) → StopsFinding all (next_opened asked number) before after stop
    → ReadsOpened asked number all before after result
opened_stopped asked number all before after stop (Ok found) same stops = absurd same
opened_stopped asked number all before after stop (Err other) same stops =
    subst (λ (s : Stop). ReadsOpened asked number all before after (Err s)) (sym same) stops

-- something is there, and is taken and charged
pub opened_there : (asked : Request) (number : ℕ) (next : List ℕ → Row) (s : Setting)
    → (file_at s.world.heap number).place ≤ length (file_at s.world.heap number).content → is_there asked (left_in (file_at s.world.heap number)) ≡ true
    → next_opened asked number next s
    ≡ costs_bytes (length (read_of asked (left_in (file_at s.world.heap number)))) (next (read_of asked (left_in (file_at s.world.heap number))))
    (having_heap (with_opened number (read_up_to (place_behind asked (file_at s.world.heap number)) (file_at s.world.heap number))) s)
opened_there ALine number next s within is =
    let file : OpenedFile = file_at s.world.heap number in
    let line : List ℕ = take_while (λ byte. not (byte == 10)) (left_in file) in
    ap (λ b. fails_unless b (takes_opened number (length line + 1) (costs_bytes (length line) (next line))) s) is
    ∙ ap (λ (place : ℕ). costs_bytes (length line) (next line) (having_heap (with_opened number (read_up_to place file)) s)) (line_place file (length line + 1)
    within)
opened_there (SomeBytes count) number next s within is =
    let file : OpenedFile = file_at s.world.heap number in
    let bytes : List ℕ = take count (left_in file) in
    ap (λ b. fails_unless b (takes_opened number (length bytes) (costs_bytes (length bytes) (next bytes))) s) is
    ∙ ap (λ (place : ℕ). costs_bytes (length bytes) (next bytes) (having_heap (with_opened number (read_up_to place file)) s)) (bytes_place file count within)

-- nothing is there
pub opened_gone : (asked : Request) (number : ℕ) (next : List ℕ → Row) (s : Setting) → is_there asked (left_in (file_at s.world.heap number)) ≡ false
    → next_opened asked number next s ≡ Fails s
opened_gone ALine number next s is =
    let line : List ℕ = take_while (λ byte. not (byte == 10)) (left_in (file_at s.world.heap number)) in
    ap (λ b. fails_unless b (takes_opened number (length line + 1) (costs_bytes (length line) (next line))) s) is
opened_gone (SomeBytes count) number next s is =
    let bytes : List ℕ = take count (left_in (file_at s.world.heap number)) in
    ap (λ b. fails_unless b (takes_opened number (length bytes) (costs_bytes (length bytes) (next bytes))) s) is

-- From the setting before to the one in which the place is behind what was read, and then to the one in which it is charged.

module _ (asked : Request) (number : ℕ) (before moved after : Setting) (file : OpenedFile) (at : file ≡ file_at before.world.heap number)
    (within : file.place ≤ length file.content) (there : is_there asked (left_in file) ≡ true)
    (goes : moved ≡ having_heap (with_opened number (read_up_to (place_behind asked file) file)) before) where
  begun : (next : List ℕ → Row) → next_opened asked number next before
      ≡ costs_bytes (length (read_of asked (left_in file))) (next (read_of asked (left_in file))) moved
  begun next =
      subst (λ (f : OpenedFile). (within : f.place ≤ length f.content) → is_there asked (left_in f) ≡ true → next_opened asked number next before
      ≡ costs_bytes (length (read_of asked (left_in f))) (next (read_of asked (left_in f)))
      (having_heap (with_opened number (read_up_to (place_behind asked f) f)) before)) (sym at)
      (λ within is. opened_there asked number next before within is) within there
      ∙ ap (λ (s : Setting). costs_bytes (length (read_of asked (left_in file))) (next (read_of asked (left_in file))) s) (sym goes)

  -- it was charged, and the row goes on
  pub text_reads : (bytes text : List ℕ) → bytes ≡ read_of asked (left_in file) → text ≡ bytes → Passes (costs_bytes (length bytes)) moved after
      → (next : List ℕ → Row) → next_opened asked number next before ≡ next text after
  text_reads bytes text same is passes next =
      begun next ∙ ap (λ (b : List ℕ). costs_bytes (length b) (next b) moved) (sym same) ∙ passes (next bytes) ∙ ap (λ (b : List ℕ). next b after) (sym is)

  -- it was refused
  pub text_stops : (all : Extent) (bytes : List ℕ) (stop : Stop) → bytes ≡ read_of asked (left_in file)
      → StopsPassing all (costs_bytes (length bytes)) moved after stop → StopsFinding all (next_opened asked number) before after stop
  text_stops all bytes (ErrorStop code offending) same stops = λ next.
      begun next ∙ ap (λ (b : List ℕ). costs_bytes (length b) (next b) moved) (sym same) ∙ stops (next bytes)
  text_stops all bytes NoMemoryStop same stops = tt

-- where the place is moved to

-- behind what is taken, and no further than there are bytes
pub moved_within : (asked : Request) (file : OpenedFile) (from taken : ℕ) → file.place ≤ length file.content
    → taken ≡ min (asked_of asked (left_in file)) (length (left_in file)) → from ≡ file.place → from + taken ≤ length file.content
moved_within asked file from taken within is same = omega (arith, within, length-drop file.place file.content, is, same)

pub place_so : (asked : Request) (file : OpenedFile) (from taken : ℕ) → from ≡ file.place
    → taken ≡ min (asked_of asked (left_in file)) (length (left_in file)) → from + taken ≡ place_behind asked file
place_so asked file from taken same is = ap (λ (p : ℕ). p + taken) same ∙ ap (λ (t : ℕ). file.place + t) is

pub moved_so : (asked : Request) (number : ℕ) (before moved : Setting) (file : OpenedFile) → file ≡ file_at before.world.heap number → (place : ℕ)
    → place ≡ place_behind asked file → moved ≡ having_heap (with_opened number (read_up_to place (file_at before.world.heap number))) before
    → moved ≡ having_heap (with_opened number (read_up_to (place_behind asked file) file)) before
moved_so asked number before moved file at place same goes =
    goes ∙ ap (λ (f : OpenedFile). having_heap (with_opened number (read_up_to place f)) before) (sym at)
    ∙ ap (λ (p : ℕ). having_heap (with_opened number (read_up_to p file)) before) same

-- what a file holds stays, wherever its place is moved to
pub content_stays : (files : List OpenedFile) (number place : ℕ)
    → (unwrap_or (slice_get (slice_set files number (record (unwrap_or (slice_get files number) no_file) { place = place })) number) no_file).content
    ≡ (unwrap_or (slice_get files number) no_file).content
content_stays [] number place = refl
content_stays (file ∷ files) zero place = refl
content_stays (file ∷ files) (suc number) place = content_stays files number place

-- a first part of what is left is a part of what the file holds, and so many bytes
pub part_within : (file : OpenedFile) (content : List ℕ) (from len : ℕ) → content ≡ file.content → file.place ≤ length file.content → from ≡ file.place
    → len ≤ length (left_in file) → from + len ≤ length content
part_within file content from len same within at few = omega (arith, within, length-drop file.place file.content, ap length same, at, few)

pub part_read : (file : OpenedFile) (content : List ℕ) (from len : ℕ) → content ≡ file.content → from ≡ file.place
    → take len (drop from content) ≡ take len (left_in file)
part_read file content from len same at = ap (λ (bytes : List ℕ). take len (drop from bytes)) same ∙ ap (λ (place : ℕ). take len (drop place file.content)) at

pub part_length : (left read : List ℕ) (len : ℕ) → len ≤ length left → take len left ≡ read → len ≡ length read
part_length left read len few same = omega (arith, few, length-take len left, ap length same)

-- whether there is something, by how much is taken

pub some_taken : (asked : Request) (left : List ℕ) (taken : ℕ) → taken ≡ min (asked_of asked left) (length left) → (taken ≡ 0 → ⊥)
    → is_there asked left ≡ true
some_taken ALine left taken is some = lt-ltb 0 (length left) (omega (arith, is, some))
some_taken (SomeBytes count) left taken is some = lt-ltb 0 (length (take count left)) (omega (arith, is, some, length-take count left))

pub none_taken : (asked : Request) (left : List ℕ) (taken : ℕ) → taken ≡ min (asked_of asked left) (length left) → taken ≡ 0 → is_there asked left ≡ false
none_taken ALine left taken is none = le-ltb 0 (length left) (omega (arith, is, none))
none_taken (SomeBytes count) left taken is none = le-ltb 0 (length (take count left)) (omega (arith, is, none, length-take count left))
