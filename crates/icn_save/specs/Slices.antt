-- The fields of a save in slices of its bytes, as definitions see them.
use Rattle.std.specs.Prelude.{ℕ, List, map}
use Rattle.std.specs.Borrow.{Bor}
use Rattle.icn_save.specs.FileCalls.{FileCall, FoundFile, NoSuchFile, WroteFile}
use Rattle.icn_value.specs.Limited.{Bounds}
use Rattle.icn_save.specs.Reading.{SaveFields}
use Rattle.icn_save.specs.declared.calls.CallSlices.{CallSlices}
use Rattle.icn_save.specs.declared.calls.AnswerSlice.{AnswerSlice}
use Rattle.icn_save.specs.declared.calls.AnswerSlice.TheVariants.{Found, Absent, Written}
use Rattle.icn_save.specs.declared.fields.FieldSlices.{FieldSlices}
use Rattle.icn_save.specs.declared.fields.LimitFields.{LimitFields}

-- the bytes of each slice
abbrev pub texts_in : List (Bor (List ℕ)) → List (List ℕ)
texts_in slices = map (λ (slice : Bor (List ℕ)). slice.now) slices

-- a call that asked for this name, by what it was answered
abbrev pub call_in_by : List ℕ → AnswerSlice → FileCall
call_in_by name (Found bytes) = FoundFile name bytes.now
call_in_by name Absent = NoSuchFile name
call_in_by name (Written bytes) = WroteFile name bytes.now

-- a call
abbrev pub call_in : CallSlices → FileCall
call_in call = call_in_by call.name.now call.answer

-- calls
abbrev pub calls_in : List CallSlices → List FileCall
calls_in calls = map call_in calls

-- limits, in their ranges or not
abbrev pub bounds_in : LimitFields → Bounds
bounds_in limits = record {
  turns = limits.turns;
  strings = limits.strings;
  cells = limits.cells;
  levels = limits.levels;
}

-- all fields
abbrev pub fields_in : FieldSlices → SaveFields
fields_in slices = record {
  bounds = bounds_in slices.limits;
  words = texts_in slices.words.items;
  image = slices.image.now;
  input = slices.input.now;
  flag = slices.flag;
  output = slices.output;
  errors = slices.errors;
  calls = calls_in slices.calls.items;
}
