-- Facts of the outside that every put, every reading and every call of the store of files keeps, whatever they say.
use Rattle.std.proofs.Common.{ℕ, List, [], ◌∷◌, ◌++◌}
use Rattle.std.specs.Prelude.{Bool, true, false, if◌then◌else◌, map}
use Rattle.icn_value.specs.Store.{AReading, ErrorByte, FileReading, FileWriting, Heap, OpenedFile, OutputByte, Outside, Request, with_events, with_file_reading, with_file_writing}
use Rattle.icn_defs.specs.Running.{files_written}
use Rattle.icn_defs.specs.OpenFiles.{all_written_out, is_open_to_write, written_out}
use Rattle.icn_defs.specs.Interruptions.{after_reading}
use Rattle.icn_defs.proofs.Interruptions.{extends_by_ending, extends_by_errors, extends_by_finding, extends_by_output, extends_by_writing, extends_itself as nothing_done, extends_read, extends_then}
use Rattle.law_outside.specs.Outsides.{ExtendsOutside}

-- a fact of the outside that each put, each reading, and each reading and writing of a file keeps
pub record Lasting : Type 1 where
  pub is : Outside → Type 0
  pub output : (outside : Outside) (text : List ℕ) → is outside → is (with_events (map OutputByte text) outside)
  pub errors : (outside : Outside) (text : List ℕ) → is outside → is (with_events (map ErrorByte text) outside)
  pub read : (outside : Outside) (asked : Request) → is outside → is (after_reading asked outside)
  pub found : (outside : Outside) (name : List ℕ) → is outside → is (with_file_reading name outside)
  pub written : (outside : Outside) (name bytes : List ℕ) → is outside → is (with_file_writing name bytes outside)

-- where a run ends: what is open to be written is written
written_so : (b : Lasting) (t : Bool) (file : OpenedFile) (outside : Outside) → b.is outside
    → b.is (if t then with_file_writing file.name file.content outside else outside)
written_so b true file outside k = b.written outside file.name file.content k
written_so b false file outside k = k

pub ended_so : (b : Lasting) (files : List OpenedFile) (outside : Outside) → b.is outside → b.is (all_written_out files outside)
ended_so b [] outside k = k
ended_so b (file ∷ files) outside k =
    ended_so b files (written_out file outside) (written_so b (is_open_to_write file) file outside k)

-- That the outside has become this one

-- the outside extends itself
pub extends_itself : (was : Outside) → ExtendsOutside was was
extends_itself was = record { done = []; by = nothing_done was }

pub output_extends : (was outside : Outside) (text : List ℕ) → ExtendsOutside was outside
    → ExtendsOutside was (with_events (map OutputByte text) outside)
output_extends was outside text e = record { done = e.done ++ map OutputByte text; by = extends_then e.by (extends_by_output text outside) }

pub errors_extend : (was outside : Outside) (text : List ℕ) → ExtendsOutside was outside
    → ExtendsOutside was (with_events (map ErrorByte text) outside)
errors_extend was outside text e = record { done = e.done ++ map ErrorByte text; by = extends_then e.by (extends_by_errors text outside) }

pub found_extends : (was outside : Outside) (name : List ℕ) → ExtendsOutside was outside → ExtendsOutside was (with_file_reading name outside)
found_extends was outside name e = record { done = e.done ++ FileReading name ∷ []; by = extends_then e.by (extends_by_finding outside name) }

pub written_extends : (was outside : Outside) (name bytes : List ℕ) → ExtendsOutside was outside
    → ExtendsOutside was (with_file_writing name bytes outside)
written_extends was outside name bytes e =
    record { done = e.done ++ FileWriting name bytes ∷ []; by = extends_then e.by (extends_by_writing outside name bytes) }

-- the end of a run, which writes what is open
pub end_extends : (was outside : Outside) (heap : Heap) → ExtendsOutside was outside → ExtendsOutside was (files_written heap outside)
end_extends was outside heap e =
    let more = extends_by_ending heap.files outside in record { done = e.done ++ more.0; by = extends_then e.by more.1 }

pub read_extends : (was outside : Outside) (asked : Request) → ExtendsOutside was outside → ExtendsOutside was (after_reading asked outside)
read_extends was outside asked e = record { done = e.done ++ AReading asked ∷ []; by = extends_then e.by (extends_read outside asked) }

abbrev pub from_outside : Outside → Lasting
from_outside was = record {
  is = ExtendsOutside was;
  output = output_extends was;
  errors = errors_extend was;
  read = read_extends was;
  found = found_extends was;
  written = written_extends was;
}
