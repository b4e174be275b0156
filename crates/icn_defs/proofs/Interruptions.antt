-- How what is done outside adds up, and what is left in the streams where it is broken off.
use Rattle.std.proofs.Common.{◌≡◌, ℕ, zero, suc, ◌+◌, Bool, true, false, cond, List, [], ◌∷◌, ◌++◌, Option, None, Some, refl, sym, ap, ◌∙◌, subst, arith}
use Rattle.std.specs.Prelude.{IfSome, drop, map, take}
use Rattle.std.specs.Map.{update}
use Rattle.std.specs.Str.{bytes_eq}
use Rattle.std.specs.Io.KnownBytes.{Keeps}
use Rattle.std.proofs.lemmas.List.{drop-drop, append_assoc, append-nil}
use Rattle.icn_host.specs.Counts.{one_more, raised_count}
use Rattle.icn_host.specs.FileMaps.{Changes, FileMap, Follows, IsLeftBehind, SetsFile, SetsPart}
use Rattle.icn_host.specs.Sinks.{Gains}
use Rattle.icn_host.proofs.KeptSteps.{gains_keeps, keeps_gains}
use Rattle.icn_host.proofs.SinkSteps.{gains_nothing, gains_then}
use Rattle.icn_value.specs.Values.{File, Input, Output, Errout, Opened}
use Rattle.icn_value.specs.Store.{Request, Event, AReading, OutputByte, ErrorByte, FileReading, FileWriting, OpenedFile, Outside, Setting, file_at, output_in, errors_in, readings_in, writings_in, with_events, with_file, with_file_reading, with_file_writing}
use Rattle.icn_defs.specs.OpenFiles.{all_written_out, closed_in, is_open_to_write, written_out}
use Rattle.icn_defs.specs.InputOutput.{put_on}
use Rattle.icn_defs.specs.Interruptions.{Streams, LosesPart, ExtendsBy, HoldsMap, LeavesStore, StandsBehind, StandsInFiles, StandsInReading, TellsMap, BreaksBetween, BreaksFiles, BreaksReading, after_reading, asked_of, files_behind, left_behind}

-- Events behind others

pub output_then : (a b : List Event) → output_in (a ++ b) ≡ output_in a ++ output_in b
output_then [] b = refl
output_then (AReading asked ∷ a) b = output_then a b
output_then (OutputByte byte ∷ a) b = ap (λ (l : List ℕ). byte ∷ l) (output_then a b)
output_then (ErrorByte byte ∷ a) b = output_then a b
output_then (FileReading name ∷ a) b = output_then a b
output_then (FileWriting name bytes ∷ a) b = output_then a b

pub errors_then : (a b : List Event) → errors_in (a ++ b) ≡ errors_in a ++ errors_in b
errors_then [] b = refl
errors_then (AReading asked ∷ a) b = errors_then a b
errors_then (OutputByte byte ∷ a) b = errors_then a b
errors_then (ErrorByte byte ∷ a) b = ap (λ (l : List ℕ). byte ∷ l) (errors_then a b)
errors_then (FileReading name ∷ a) b = errors_then a b
errors_then (FileWriting name bytes ∷ a) b = errors_then a b

pub left_then : (left : List ℕ) (a b : List Event) → left_behind left (a ++ b) ≡ left_behind (left_behind left a) b
left_then left [] b = refl
left_then left (AReading asked ∷ a) b = left_then (drop (asked_of asked left) left) a b
left_then left (OutputByte byte ∷ a) b = left_then left a b
left_then left (ErrorByte byte ∷ a) b = left_then left a b
left_then left (FileReading name ∷ a) b = left_then left a b
left_then left (FileWriting name bytes ∷ a) b = left_then left a b

pub files_then : (files : FileMap) (a b : List Event) → files_behind files (a ++ b) ≡ files_behind (files_behind files a) b
files_then files [] b = refl
files_then files (AReading asked ∷ a) b = files_then files a b
files_then files (OutputByte byte ∷ a) b = files_then files a b
files_then files (ErrorByte byte ∷ a) b = files_then files a b
files_then files (FileReading name ∷ a) b = files_then files a b
files_then files (FileWriting name bytes ∷ a) b = files_then (with_file name bytes files) a b

-- how often the input was called
pub calls_then : (calls : ℕ) (a b : List Event) → raised_count calls (readings_in (a ++ b)) ≡ raised_count (raised_count calls (readings_in a)) (readings_in b)
calls_then calls [] b = refl
calls_then calls (AReading asked ∷ a) b = calls_then (one_more calls) a b
calls_then calls (OutputByte byte ∷ a) b = calls_then calls a b
calls_then calls (ErrorByte byte ∷ a) b = calls_then calls a b
calls_then calls (FileReading name ∷ a) b = calls_then calls a b
calls_then calls (FileWriting name bytes ∷ a) b = calls_then calls a b

-- what is left behind any events is a rest of what was left
pub left_is_rest : (left : List ℕ) (done : List Event) → (taken : ℕ) × (left_behind left done ≡ drop taken left)
left_is_rest left [] = (0, refl)
left_is_rest left (AReading asked ∷ done) =
    let rest = left_is_rest (drop (asked_of asked left) left) done in
    (asked_of asked left + rest.0, rest.1 ∙ drop-drop rest.0 (asked_of asked left) left)
left_is_rest left (OutputByte byte ∷ done) = left_is_rest left done
left_is_rest left (ErrorByte byte ∷ done) = left_is_rest left done
left_is_rest left (FileReading name ∷ done) = left_is_rest left done
left_is_rest left (FileWriting name bytes ∷ done) = left_is_rest left done

-- Bytes that are put

pub output_put : (text : List ℕ) → output_in (map OutputByte text) ≡ text
output_put [] = refl
output_put (byte ∷ text) = ap (λ (l : List ℕ). byte ∷ l) (output_put text)

pub errors_put : (text : List ℕ) → errors_in (map ErrorByte text) ≡ text
errors_put [] = refl
errors_put (byte ∷ text) = ap (λ (l : List ℕ). byte ∷ l) (errors_put text)

pub output_of_errors : (text : List ℕ) → output_in (map ErrorByte text) ≡ []
output_of_errors [] = refl
output_of_errors (byte ∷ text) = output_of_errors text

pub errors_of_output : (text : List ℕ) → errors_in (map OutputByte text) ≡ []
errors_of_output [] = refl
errors_of_output (byte ∷ text) = errors_of_output text

pub left_by_output : (left text : List ℕ) → left_behind left (map OutputByte text) ≡ left
left_by_output left [] = refl
left_by_output left (byte ∷ text) = left_by_output left text

pub left_by_errors : (left text : List ℕ) → left_behind left (map ErrorByte text) ≡ left
left_by_errors left [] = refl
left_by_errors left (byte ∷ text) = left_by_errors left text

pub output_reads_none : (text : List ℕ) → readings_in (map OutputByte text) ≡ 0
output_reads_none [] = refl
output_reads_none (byte ∷ text) = output_reads_none text

pub errors_read_none : (text : List ℕ) → readings_in (map ErrorByte text) ≡ 0
errors_read_none [] = refl
errors_read_none (byte ∷ text) = errors_read_none text

none_above : (n : ℕ) → suc n ≡ 0 → ⊥
none_above n is = omega arith

-- where nothing was read
pub none_read : (x y : List Event) → readings_in x ≡ 0 → readings_in y ≡ 0 → readings_in (x ++ y) ≡ 0
none_read [] y first second = second
none_read (AReading asked ∷ x) y first second = absurd (none_above (readings_in x) first)
none_read (OutputByte byte ∷ x) y first second = none_read x y first second
none_read (ErrorByte byte ∷ x) y first second = none_read x y first second
none_read (FileReading name ∷ x) y first second = none_read x y first second
none_read (FileWriting name bytes ∷ x) y first second = none_read x y first second

pub none_taken : (left : List ℕ) (done : List Event) → readings_in done ≡ 0 → left_behind left done ≡ left
none_taken left [] is = refl
none_taken left (AReading asked ∷ done) is = absurd (none_above (readings_in done) is)
none_taken left (OutputByte byte ∷ done) is = none_taken left done is
none_taken left (ErrorByte byte ∷ done) is = none_taken left done is
none_taken left (FileReading name ∷ done) is = none_taken left done is
none_taken left (FileWriting name bytes ∷ done) is = none_taken left done is

-- where nothing was written
pub none_written : (x y : List Event) → writings_in x ≡ [] → writings_in y ≡ [] → writings_in (x ++ y) ≡ []
none_written [] y first second = second
none_written (AReading asked ∷ x) y first second = none_written x y first second
none_written (OutputByte byte ∷ x) y first second = none_written x y first second
none_written (ErrorByte byte ∷ x) y first second = none_written x y first second
none_written (FileReading name ∷ x) y first second = none_written x y first second
none_written (FileWriting name bytes ∷ x) y first second = absurd (cc)

pub none_changed : (files : FileMap) (done : List Event) → writings_in done ≡ [] → files_behind files done ≡ files
none_changed files [] is = refl
none_changed files (AReading asked ∷ done) is = none_changed files done is
none_changed files (OutputByte byte ∷ done) is = none_changed files done is
none_changed files (ErrorByte byte ∷ done) is = none_changed files done is
none_changed files (FileReading name ∷ done) is = none_changed files done is
none_changed files (FileWriting name bytes ∷ done) is = absurd (cc)

pub output_writes_none : (text : List ℕ) → writings_in (map OutputByte text) ≡ []
output_writes_none [] = refl
output_writes_none (byte ∷ text) = output_writes_none text

pub errors_write_none : (text : List ℕ) → writings_in (map ErrorByte text) ≡ []
errors_write_none [] = refl
errors_write_none (byte ∷ text) = errors_write_none text

pub files_by_output : (files : FileMap) (text : List ℕ) → files_behind files (map OutputByte text) ≡ files
files_by_output files [] = refl
files_by_output files (byte ∷ text) = files_by_output files text

pub files_by_errors : (files : FileMap) (text : List ℕ) → files_behind files (map ErrorByte text) ≡ files
files_by_errors files [] = refl
files_by_errors files (byte ∷ text) = files_by_errors files text

-- the first of some bytes, and those behind them
pub bytes_split : (to : ℕ → Event) (n : ℕ) (text : List ℕ) → map to text ≡ map to (take n text) ++ map to (drop n text)
bytes_split to zero text = refl
bytes_split to (suc n) [] = refl
bytes_split to (suc n) (byte ∷ text) = ap (λ (l : List Event). to byte ∷ l) (bytes_split to n text)

-- From one outside to another

pub extends_itself : (o : Outside) → ExtendsBy o [] o
extends_itself o = record { history = sym (append-nil o.history); left = refl; files = refl }

pub extends_then : {a b c : Outside} {x y : List Event} → ExtendsBy a x b → ExtendsBy b y c → ExtendsBy a (x ++ y) c
extends_then {a} {b} {c} {x} {y} first second = record {
  history = second.history ∙ ap (λ (h : List Event). h ++ y) first.history ∙ append_assoc a.history x y;
  left = second.left ∙ ap (λ (l : List ℕ). left_behind l y) first.left ∙ sym (left_then a.left x y);
  files = second.files ∙ ap (λ (f : FileMap). files_behind f y) first.files ∙ sym (files_then a.files x y);
}

pub extends_by_output : (text : List ℕ) (o : Outside) → ExtendsBy o (map OutputByte text) (with_events (map OutputByte text) o)
extends_by_output text o = record { history = refl; left = sym (left_by_output o.left text); files = sym (files_by_output o.files text) }

pub extends_by_errors : (text : List ℕ) (o : Outside) → ExtendsBy o (map ErrorByte text) (with_events (map ErrorByte text) o)
extends_by_errors text o = record { history = refl; left = sym (left_by_errors o.left text); files = sym (files_by_errors o.files text) }

-- each put
pub extends_put : (a : Setting) (file : File) (text : List ℕ) → (done : List Event) × ExtendsBy a.outside done (put_on file text a).outside
extends_put a Input text = ([], extends_itself a.outside)
extends_put a Output text = (map OutputByte text, extends_by_output text a.outside)
extends_put a Errout text = (map ErrorByte text, extends_by_errors text a.outside)
extends_put a (Opened number) text = ([], extends_itself a.outside)

-- each reading
pub extends_read : (o : Outside) (asked : Request) → ExtendsBy o (AReading asked ∷ []) (after_reading asked o)
extends_read o asked = record { history = refl; left = refl; files = refl }

-- each reading and each writing of a file
pub extends_by_finding : (o : Outside) (name : List ℕ) → ExtendsBy o (FileReading name ∷ []) (with_file_reading name o)
extends_by_finding o name = record { history = refl; left = refl; files = refl }

pub extends_by_writing : (o : Outside) (name bytes : List ℕ) → ExtendsBy o (FileWriting name bytes ∷ []) (with_file_writing name bytes o)
extends_by_writing o name bytes = record { history = refl; left = refl; files = refl }

-- a file that is written where it is open to be written
extends_where : (test : Bool) (file : OpenedFile) (o : Outside) → is_open_to_write file ≡ test
    → (done : List Event) × ExtendsBy o done (written_out file o)
extends_where true file o e = rw e (FileWriting file.name file.content ∷ [], extends_by_writing o file.name file.content)
extends_where false file o e = rw e ([], extends_itself o)

pub extends_by_file : (file : OpenedFile) (o : Outside) → (done : List Event) × ExtendsBy o done (written_out file o)
extends_by_file file o = extends_where (is_open_to_write file) file o refl

-- all of them, where a run ends
pub extends_by_ending : (files : List OpenedFile) (o : Outside) → (done : List Event) × ExtendsBy o done (all_written_out files o)
extends_by_ending [] o = ([], extends_itself o)
extends_by_ending (file ∷ files) o =
    let first = extends_by_file file o in
    let others = extends_by_ending files (written_out file o) in (first.0 ++ others.0, extends_then first.1 others.1)

pub extends_by_closing : (a : Setting) (file : File) → (done : List Event) × ExtendsBy a.outside done (closed_in file a).outside
extends_by_closing a Input = ([], extends_itself a.outside)
extends_by_closing a Output = ([], extends_itself a.outside)
extends_by_closing a Errout = ([], extends_itself a.outside)
extends_by_closing a (Opened number) = extends_by_file (file_at a.world.heap number) a.outside

-- The files

-- a store that tells them, and is left alone
pub holds_told : (held : Option FileMap) (files : FileMap) → TellsMap held files → HoldsMap held held files
holds_told None files is = record { follows = tt }
holds_told (Some told) files is = record {
  follows = (told, refl, λ name. ap (λ (o : Option FileMap). at o name) is.is ∙ sym (is.same name));
}
  where
    at : Option FileMap → List ℕ → Option (List ℕ)
    at None name = None
    at (Some map) name = map name

file_in : Option FileMap → List ℕ → Option (List ℕ)
file_in None name = None
file_in (Some files) name = files name

told_at : (old files : FileMap) → TellsMap (Some old) files → (name : List ℕ) → old name ≡ files name
unfolding file_in
told_at old files is name = ap (λ (o : Option FileMap). file_in o name) is.is ∙ sym (is.same name)

updated : (test : Bool) (content was now : Option (List ℕ)) → was ≡ now → cond test content was ≡ cond test content now
updated true content was now e = refl
updated false content was now e = e

-- the same change of maps that are alike
pub update_alike : (a b : FileMap) (name : List ℕ) (content : Option (List ℕ)) (q : List ℕ) → a q ≡ b q
    → update bytes_eq a name content q ≡ update bytes_eq b name content q
update_alike a b name content q e = updated (bytes_eq name q) content (a q) (b q) e

-- one that tells them, and in which one was written
pub holds_written : (a b : Option FileMap) (files : FileMap) (name bytes : List ℕ) → TellsMap a files → SetsFile a b name bytes
    → HoldsMap a b (with_file name bytes files)
holds_written None b files name bytes tells sets = record { follows = tt }
holds_written (Some old) b files name bytes tells sets =
    let is = sets.follows in
    record { follows = (is.0, is.1, λ q. is.2 q ∙ update_alike old files name (Some bytes) q (told_at old files tells q)) }

-- one that tells them, and in which the writing of one was broken off
pub leaves_written : (a b : Option FileMap) (files : FileMap) (name bytes : List ℕ) → TellsMap a files → SetsPart a b name bytes
    → LeavesStore (FileWriting name bytes) files a b
leaves_written None b files name bytes tells sets = tt
leaves_written (Some old) b files name bytes tells sets =
    let is = sets.follows in (
      is.0,
      is.1,
      (
        is.2.0,
        subst (λ (was : Option (List ℕ)). IsLeftBehind was bytes is.2.0) (told_at old files tells name) is.2.1,
        λ q. is.2.2 q ∙ update_alike old files name is.2.0 q (told_at old files tells q),
      ),
    )

-- one that told files before tells them still
pub told_behind : (a b : Option FileMap) (was now files : FileMap) → files ≡ now → TellsMap a was → HoldsMap a b now → TellsMap b files
told_behind a b was now files same tells holds =
    let there = at_told a tells.told (λ (old : FileMap). (new : FileMap) × (b ≡ Some new) × ((name : List ℕ) → new name ≡ now name)) tells.is
    holds.follows in
    record { told = there.0; is = there.1; same = λ name. ap (λ (f : FileMap). f name) same ∙ sym (there.2 name) }
  where
    at_told : (o : Option FileMap) (x : FileMap) (P : FileMap → Type 0) → o ≡ Some x → IfSome o P → P x
    at_told o x P told is = subst (λ (v : Option FileMap). IfSome v P) told is

both_held : (a b c : Option FileMap) (x y z : FileMap) → x ≡ y → Follows a b (λ old new. (name : List ℕ) → new name ≡ z name)
    → Follows b c (λ old new. (name : List ℕ) → new name ≡ x name) → Follows a c (λ old new. (name : List ℕ) → new name ≡ y name)
both_held None b c x y z e g h = tt
both_held (Some old) b c x y z e g h =
    let next : Follows (Some g.0) c (λ old new. (name : List ℕ) → new name ≡ x name) =
    subst (λ o. Follows o c (λ old new. (name : List ℕ) → new name ≡ x name)) g.1 h in (
      next.0,
      next.1,
      λ name. next.2 name ∙ ap (λ (f : FileMap). f name) e,
    )

-- what a store holds behind one change and another is what it holds behind the second
pub holds_then : {a b c : Option FileMap} {x y z : FileMap} → x ≡ y → HoldsMap a b z → HoldsMap b c x → HoldsMap a c y
holds_then {a} {b} {c} {x} {y} {z} e g h = record { follows = both_held a b c x y z e g.follows h.follows }

-- a store that is left alone behind it
pub holds_kept : {a b c : Option FileMap} {x : FileMap} → c ≡ b → HoldsMap a b x → HoldsMap a c x
holds_kept {a} {b} {c} {x} same is = subst (λ (o : Option FileMap). HoldsMap a o x) (sym same) is

-- what a call that failed leaves of it, behind what went before
pub both_left : (a b c : Option FileMap) (call : Event) (x y z : FileMap) → x ≡ y → HoldsMap a b z → LeavesStore call x b c → LeavesStore call y a c
both_left a b c (AReading asked) x y z e g h = h
both_left a b c (OutputByte byte) x y z e g h = h
both_left a b c (ErrorByte byte) x y z e g h = h
both_left a b c (FileReading name) x y z e g h = holds_then e g h
both_left None b c (FileWriting name bytes) x y z e g h = tt
both_left (Some old) b c (FileWriting name bytes) x y z e g h =
    let Left : FileMap → Option FileMap → Type 0 = λ files o. Follows o c (λ old new. (content : Option (List ℕ))
    × IsLeftBehind (files name) bytes content × Changes files new name content) in
    subst (λ (files : FileMap). Left files (Some old)) e (
    let next : Left x (Some g.follows.0) = subst (Left x) g.follows.1 h in (next.0, next.1, next.2))

-- The streams

pub stands_all : (a : Streams) (was : Outside) → TellsMap a.files was.files → a.left ≡ Some was.left → StandsBehind was [] a a
stands_all a was files told = record {
  files = holds_told a.files was.files files;
  rest = told;
  calls = refl;
  output = gains_nothing a.output;
  errors = gains_nothing a.errors;
}

pub stands_then : {a b c : Streams} {was now : Outside} {x y : List Event} → ExtendsBy was x now → StandsBehind was x a b → StandsBehind now y b c
    → StandsBehind was (x ++ y) a c
stands_then {a} {b} {c} {was} {now} {x} {y} extends first second = record {
  files = holds_then (ap (λ (f : FileMap). files_behind f y) extends.files ∙ sym (files_then was.files x y)) first.files second.files;
  rest = second.rest ∙ ap (λ (l : List ℕ). Some (left_behind l y)) extends.left ∙ ap (λ (l : List ℕ). Some l) (sym (left_then was.left x y));
  calls = second.calls ∙ ap (λ (n : ℕ). raised_count n (readings_in y)) first.calls ∙ sym (calls_then a.calls x y);
  output = subst (Gains a.output c.output) (sym (output_then x y)) (gains_then first.output second.output);
  errors = subst (Gains a.errors c.errors) (sym (errors_then x y)) (gains_then first.errors second.errors);
}

-- what is left of the input behind both
left_so : {was now : Outside} {x : List Event} (y : List Event) → ExtendsBy was x now → left_behind now.left y ≡ left_behind was.left (x ++ y)
left_so {was} {now} {x} y extends = ap (λ (l : List ℕ). left_behind l y) extends.left ∙ sym (left_then was.left x y)

pub then_in_reading : {a b c : Streams} {was now : Outside} {x y : List Event} {asked : Request} → ExtendsBy was x now → StandsBehind was x a b
    → StandsInReading now y asked b c → StandsInReading was (x ++ y) asked a c
then_in_reading {a} {b} {c} {was} {now} {x} {y} {asked} extends first second = record {
  files = holds_then (ap (λ (f : FileMap). files_behind f y) extends.files ∙ sym (files_then was.files x y)) first.files second.files;
  rest = subst (λ (l : List ℕ). LosesPart l (asked_of asked l) c.left) (left_so y extends) second.rest;
  calls = second.calls ∙ ap (λ (n : ℕ). one_more (raised_count n (readings_in y))) first.calls ∙ ap one_more (sym (calls_then a.calls x y));
  output = subst (Gains a.output c.output) (sym (output_then x y)) (gains_then first.output second.output);
  errors = subst (Gains a.errors c.errors) (sym (errors_then x y)) (gains_then first.errors second.errors);
}

pub then_in_files : {a b c : Streams} {was now : Outside} {x y : List Event} {call : Event} → ExtendsBy was x now → StandsBehind was x a b
    → StandsInFiles now y call b c → StandsInFiles was (x ++ y) call a c
then_in_files {a} {b} {c} {was} {now} {x} {y} {call} extends first second = record {
  files = both_left a.files b.files c.files call (files_behind now.files y) (files_behind was.files (x ++ y)) (files_behind was.files x)
      (ap (λ (f : FileMap). files_behind f y) extends.files ∙ sym (files_then was.files x y)) first.files second.files;
  rest = second.rest ∙ ap (λ (l : List ℕ). Some l) (left_so y extends);
  calls = second.calls ∙ ap (λ (n : ℕ). raised_count n (readings_in y)) first.calls ∙ sym (calls_then a.calls x y);
  output = subst (Gains a.output c.output) (sym (output_then x y)) (gains_then first.output second.output);
  errors = subst (Gains a.errors c.errors) (sym (errors_then x y)) (gains_then first.errors second.errors);
}

-- where the files and both outputs hold behind it what they held
pub stands_kept : (a b c : Streams) {was : Outside} {x : List Event} → c.files ≡ b.files → c.left ≡ b.left → c.calls ≡ b.calls
    → Keeps b.output c.output → Keeps b.errors c.errors → StandsBehind was x a b → StandsBehind was x a c
stands_kept a b c files same calls output errors stands = record {
  files = holds_kept files stands.files;
  rest = same ∙ stands.rest;
  calls = calls ∙ stands.calls;
  output = gains_keeps stands.output output;
  errors = gains_keeps stands.errors errors;
}

-- where they held before it what they hold
pub kept_stands : (a b c : Streams) {was : Outside} {x : List Event} → b.files ≡ a.files → b.calls ≡ a.calls → Keeps a.output b.output
    → Keeps a.errors b.errors → StandsBehind was x b c → StandsBehind was x a c
kept_stands a b c {was} {x} files calls output errors stands = record {
  files = subst (λ (o : Option FileMap). HoldsMap o c.files (files_behind was.files x)) files stands.files;
  rest = stands.rest;
  calls = stands.calls ∙ ap (λ (n : ℕ). raised_count n (readings_in x)) calls;
  output = keeps_gains output stands.output;
  errors = keeps_gains errors stands.errors;
}

pub kept_in_reading : (a b c : Streams) {was : Outside} {x : List Event} {asked : Request} → b.files ≡ a.files → b.calls ≡ a.calls
    → Keeps a.output b.output → Keeps a.errors b.errors → StandsInReading was x asked b c → StandsInReading was x asked a c
kept_in_reading a b c {was} {x} files calls output errors stands = record {
  files = subst (λ (o : Option FileMap). HoldsMap o c.files (files_behind was.files x)) files stands.files;
  rest = stands.rest;
  calls = stands.calls ∙ ap (λ (n : ℕ). one_more (raised_count n (readings_in x))) calls;
  output = keeps_gains output stands.output;
  errors = keeps_gains errors stands.errors;
}

pub kept_in_files : (a b c : Streams) {was : Outside} {x : List Event} {call : Event} → b.files ≡ a.files → b.calls ≡ a.calls
    → Keeps a.output b.output → Keeps a.errors b.errors → StandsInFiles was x call b c → StandsInFiles was x call a c
kept_in_files a b c {was} {x} {call} files calls output errors stands = record {
  files = subst (λ (o : Option FileMap). LeavesStore call (files_behind was.files x) o c.files) files stands.files;
  rest = stands.rest;
  calls = stands.calls ∙ ap (λ (n : ℕ). raised_count n (readings_in x)) calls;
  output = keeps_gains output stands.output;
  errors = keeps_gains errors stands.errors;
}

-- What is broken off

-- behind what is done whole
pub between_then : {was now end : Outside} {x : List Event} {a b c : Streams} → ExtendsBy was x now → StandsBehind was x a b
    → BreaksBetween now end b c → BreaksBetween was end a c
between_then {was} {now} {end} {x} {a} {b} {c} extends stands breaks = record {
  done = x ++ breaks.done;
  due = breaks.due;
  are = breaks.are ∙ ap (λ (h : List Event). h ++ (breaks.done ++ breaks.due)) extends.history
      ∙ append_assoc was.history x (breaks.done ++ breaks.due)
      ∙ ap (λ (e : List Event). was.history ++ e) (sym (append_assoc x breaks.done breaks.due));
  stands = stands_then extends stands breaks.stands;
}

pub reading_then : {was now end : Outside} {x : List Event} {a b c : Streams} → ExtendsBy was x now → StandsBehind was x a b
    → BreaksReading now end b c → BreaksReading was end a c
reading_then {was} {now} {end} {x} {a} {b} {c} extends stands breaks = record {
  done = x ++ breaks.done;
  asked = breaks.asked;
  due = breaks.due;
  are = breaks.are ∙ ap (λ (h : List Event). h ++ (breaks.done ++ AReading breaks.asked ∷ breaks.due)) extends.history
      ∙ append_assoc was.history x (breaks.done ++ AReading breaks.asked ∷ breaks.due)
      ∙ ap (λ (e : List Event). was.history ++ e) (sym (append_assoc x breaks.done (AReading breaks.asked ∷ breaks.due)));
  stands = then_in_reading extends stands breaks.stands;
}

pub files_broken_then : {was now end : Outside} {x : List Event} {a b c : Streams} → ExtendsBy was x now → StandsBehind was x a b
    → BreaksFiles now end b c → BreaksFiles was end a c
files_broken_then {was} {now} {end} {x} {a} {b} {c} extends stands breaks = record {
  done = x ++ breaks.done;
  call = breaks.call;
  due = breaks.due;
  are = breaks.are ∙ ap (λ (h : List Event). h ++ (breaks.done ++ breaks.call ∷ breaks.due)) extends.history
      ∙ append_assoc was.history x (breaks.done ++ breaks.call ∷ breaks.due)
      ∙ ap (λ (e : List Event). was.history ++ e) (sym (append_assoc x breaks.done (breaks.call ∷ breaks.due)));
  stands = then_in_files extends stands breaks.stands;
}

-- of what would have gone on
pub between_longer : {was end later : Outside} {y : List Event} {a c : Streams} → ExtendsBy end y later → BreaksBetween was end a c
    → BreaksBetween was later a c
between_longer {was} {end} {later} {y} {a} {c} extends breaks = record {
  done = breaks.done;
  due = breaks.due ++ y;
  are = extends.history ∙ ap (λ (h : List Event). h ++ y) breaks.are ∙ append_assoc was.history (breaks.done ++ breaks.due) y
      ∙ ap (λ (e : List Event). was.history ++ e) (append_assoc breaks.done breaks.due y);
  stands = breaks.stands;
}

pub reading_longer : {was end later : Outside} {y : List Event} {a c : Streams} → ExtendsBy end y later → BreaksReading was end a c
    → BreaksReading was later a c
reading_longer {was} {end} {later} {y} {a} {c} extends breaks = record {
  done = breaks.done;
  asked = breaks.asked;
  due = breaks.due ++ y;
  are = extends.history ∙ ap (λ (h : List Event). h ++ y) breaks.are
      ∙ append_assoc was.history (breaks.done ++ AReading breaks.asked ∷ breaks.due) y
      ∙ ap (λ (e : List Event). was.history ++ e) (append_assoc breaks.done (AReading breaks.asked ∷ breaks.due) y);
  stands = breaks.stands;
}

pub files_longer : {was end later : Outside} {y : List Event} {a c : Streams} → ExtendsBy end y later → BreaksFiles was end a c
    → BreaksFiles was later a c
files_longer {was} {end} {later} {y} {a} {c} extends breaks = record {
  done = breaks.done;
  call = breaks.call;
  due = breaks.due ++ y;
  are = extends.history ∙ ap (λ (h : List Event). h ++ y) breaks.are
      ∙ append_assoc was.history (breaks.done ++ breaks.call ∷ breaks.due) y
      ∙ ap (λ (e : List Event). was.history ++ e) (append_assoc breaks.done (breaks.call ∷ breaks.due) y);
  stands = breaks.stands;
}

-- All of some events was done, and nothing of those behind them.
pub all_done : {was now end : Outside} {x y : List Event} {a c : Streams} → ExtendsBy was x now → ExtendsBy now y end → StandsBehind was x a c
    → BreaksBetween was end a c
all_done {was} {now} {end} {x} {y} extends more stands = record {
  done = x;
  due = y;
  are = more.history ∙ ap (λ (h : List Event). h ++ y) extends.history ∙ append_assoc was.history x y;
  stands = stands;
}
