-- What bytes are read as: the run that they save, or the first rule that they break. An early end anywhere is told before
-- a number or a text that is none.
use Rattle.std.specs.Prelude.{◌==◌, ◌&&◌, ℕ, Bool, List, length, drop, Result, Ok, Err, nat_eq, nat_le, nat_lt, if◌then◌else◌}
use Rattle.std.specs.List.{list_all, starts_with}
use Rattle.std.specs.Int.{w32, w64}
use Rattle.std.specs.Str.{is_utf8}
use Rattle.icn_tree.specs.declared.rule.Rule.{Rule}
use Rattle.icn_tree.specs.declared.rule.Rule.TheVariants.{G1, G3, G4}
use Rattle.icn_save.specs.FileCalls.{FileCall, FoundFile, NoSuchFile, WroteFile}
use Rattle.icn_value.specs.Limited.{Bounds}
use Rattle.icn_save.specs.Readers.{◌>>=◌, Reader, byte_at, number_at, string_at, table_at}
use Rattle.icn_save.specs.Saves.{SavedRun, are_in_range, is_number, is_short}
use Rattle.icn_save.specs.Spelling.{save_head}

-- the fields of a save as they stand there, not judged yet
pub record SaveFields : Type 0 where
  pub bounds : Bounds
  pub words : List (List ℕ)
  pub image : List ℕ
  pub input : List ℕ
  pub flag : ℕ
  pub output : ℕ
  pub errors : ℕ
  pub calls : List FileCall

-- the limits: turns, string bytes, cells and levels
unfoldable pub bounds_at : Reader Bounds
bounds_at bytes = do
  turns ← number_at w64 bytes
  strings ← number_at w64 turns.1
  cells ← number_at w64 strings.1
  levels ← number_at w64 cells.1
  Ok (
    record { turns = turns.0; strings = strings.0; cells = cells.0; levels = levels.0 },
    levels.1,
  )

-- a call of this kind and this name, by the bytes behind them; one that found nothing has none
unfoldable pub answer_at : ℕ → List ℕ → Reader FileCall
answer_at kind name bytes =
    if kind == 1 then Ok (NoSuchFile name, bytes) else (do
      text ← string_at w32 bytes
      Ok (if kind == 0 then FoundFile name text.0 else WroteFile name text.0, text.1))

-- A call: its kind, its name, and its bytes, where its kind has some. What stands behind a kind that is none has no
-- meaning, so nothing more is read.
unfoldable pub call_at : Reader FileCall
call_at bytes = do
  kind ← byte_at bytes
  if nat_lt 2 kind.0 then Err G3 else (do
    name ← string_at w32 kind.1
    answer_at kind.0 name.0 name.1)

-- all fields behind the head
unfoldable pub fields_at : Reader SaveFields
fields_at bytes = do
  bounds ← bounds_at bytes
  words ← table_at (string_at w32) bounds.1
  image ← string_at w32 words.1
  input ← string_at w64 image.1
  flag ← byte_at input.1
  output ← number_at w64 flag.1
  errors ← number_at w64 output.1
  calls ← table_at call_at errors.1
  Ok (
    record {
      bounds = bounds.0;
      words = words.0;
      image = image.0;
      input = input.0;
      flag = flag.0;
      output = output.0;
      errors = errors.0;
      calls = calls.0;
    },
    calls.1,
  )

-- 32 bits hold the lengths of a call
abbrev pub is_short_call : FileCall → Bool
is_short_call (FoundFile name bytes) = is_short name && is_short bytes
is_short_call (NoSuchFile name) = is_short name
is_short_call (WroteFile name bytes) = is_short name && is_short bytes

-- each count and each length fits the number that it was read from
abbrev pub fields_fit : SaveFields → Bool
fields_fit fields = is_number fields.bounds.turns && (is_short fields.words && (list_all is_short fields.words
    && (is_short fields.image && (is_number (length fields.input) && (is_number fields.output
    && (is_number fields.errors && (is_short fields.calls && list_all is_short_call fields.calls)))))))

-- the name of a call is a text
abbrev pub has_text_name : FileCall → Bool
has_text_name (FoundFile name bytes) = is_utf8 name
has_text_name (NoSuchFile name) = is_utf8 name
has_text_name (WroteFile name bytes) = is_utf8 name

-- the flag is one, the limits are in their ranges, and words and names are texts
abbrev pub fields_hold : SaveFields → Bool
fields_hold fields = nat_le fields.flag 1 && (are_in_range fields.bounds
    && (list_all is_utf8 fields.words && list_all has_text_name fields.calls))

-- the run that fields save
abbrev pub run_of : SaveFields → SavedRun
run_of fields = record {
  bounds = fields.bounds;
  words = fields.words;
  image = fields.image;
  input = fields.input;
  ended = fields.flag == 1;
  output = fields.output;
  errors = fields.errors;
  calls = fields.calls;
}

-- what stands behind the head
abbrev pub behind_head : List ℕ → Result (List ℕ) Rule
behind_head bytes = if starts_with nat_eq bytes save_head then Ok (drop 8 bytes) else Err G1

-- the fields, where each is what it has to be
abbrev pub judged : SaveFields → Result SavedRun Rule
judged fields = if fields_hold fields then Ok (run_of fields) else Err G3

-- The run that bytes save, or the first rule that they break: the head, an early end, the fields, the end.
unfoldable pub save_read : List ℕ → Result SavedRun Rule
save_read bytes = do
  rest ← behind_head bytes
  fields ← fields_at rest
  saved ← judged fields.0
  if length fields.1 == 0 then Ok saved else Err G4
