-- A save of the code, as definitions see it.
use Rattle.std.specs.Prelude.{map, string_bytes}
use Rattle.icn_value.specs.Limited.{limits_of}
use Rattle.icn_save.specs.Saves.{SavedRun, calls_of}
use Rattle.icn_save.specs.declared.save.Save.{Save}

-- what a save tells
abbrev pub run_saved : Save → SavedRun
run_saved save = record {
  bounds = limits_of save.limits;
  words = map string_bytes save.words.items;
  image = save.image;
  input = save.input;
  ended = save.ended;
  output = save.output;
  errors = save.errors;
  calls = calls_of save.calls.items;
}
