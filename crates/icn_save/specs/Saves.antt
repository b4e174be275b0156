-- What a save tells of a run.
use Rattle.std.specs.Prelude.{◌&&◌, ◌^◌, ℕ, Bool, List, length, map, string_bytes, nat_lt, nat_le}
use Rattle.std.specs.List.{list_all}
use Rattle.std.specs.Str.{is_utf8}
use Rattle.icn_profile.specs.Numbers.{most_cells, most_levels, most_strings}
use Rattle.icn_save.specs.FileCalls.{FileCall, FoundFile, NoSuchFile, WroteFile}
use Rattle.icn_value.specs.Limited.{Bounds}
use Rattle.icn_save.specs.declared.call.SavedCall.{SavedCall}
use Rattle.icn_save.specs.declared.call.CallAnswer.{CallAnswer}
use Rattle.icn_save.specs.declared.call.CallAnswer.TheVariants.{Found, Absent, Written}

-- A run that stands at its bound of turns: its limits, its words and its image; what it took of the input, and whether a
-- call showed the end; how many bytes it put on both outputs; and its calls of the store of files, with what they were
-- answered.
pub record SavedRun : Type 0 where
  pub bounds : Bounds
  pub words : List (List ℕ)
  pub image : List ℕ
  pub input : List ℕ
  pub ended : Bool
  pub output : ℕ
  pub errors : ℕ
  pub calls : List FileCall

-- The format

-- 32 bits hold how many there are
abbrev pub is_short : {A : Type 0} → List A → Bool
is_short items = nat_lt (length items) (2 ^ 32)

-- 64 bits hold the number
abbrev pub is_number : ℕ → Bool
is_number number = nat_lt number (2 ^ 64)

-- a text of UTF-8 whose length has 32 bits
abbrev pub is_text : List ℕ → Bool
is_text bytes = is_short bytes && is_utf8 bytes

-- the limits of a run are in their ranges; any number of turns is
abbrev pub are_in_range : Bounds → Bool
are_in_range bounds = nat_le bounds.strings most_strings && (nat_le bounds.cells most_cells
    && (nat_le 1 bounds.levels && nat_le bounds.levels most_levels))

-- the name of a call is a text, and its bytes are not too many
abbrev pub call_fits : FileCall → Bool
call_fits (FoundFile name bytes) = is_text name && is_short bytes
call_fits (NoSuchFile name) = is_text name
call_fits (WroteFile name bytes) = is_text name && is_short bytes

-- Each count and length fits its number, and what is spelled breaks no rule of reading.
abbrev pub keeps_format : SavedRun → Bool
keeps_format saved =
    is_number saved.bounds.turns && (are_in_range saved.bounds
    && (is_short saved.words && (list_all is_text saved.words
    && (is_short saved.image && (is_number (length saved.input)
    && (is_number saved.output && (is_number saved.errors
    && (is_short saved.calls && list_all call_fits saved.calls))))))))

-- In code

-- a call that asked for this name, by what it was answered
abbrev pub call_by : List ℕ → CallAnswer → FileCall
call_by name (Found bytes) = FoundFile name bytes
call_by name Absent = NoSuchFile name
call_by name (Written bytes) = WroteFile name bytes

-- a call, as definitions see it
abbrev pub call_of : SavedCall → FileCall
call_of call = call_by (string_bytes call.name) call.answer

-- calls, as definitions see them
abbrev pub calls_of : List SavedCall → List FileCall
calls_of calls = map call_of calls
