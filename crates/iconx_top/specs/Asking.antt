-- How the code tells what the words ask for.
use Rattle.std.specs.Prelude.{ℕ, map, string_bytes, Result, Ok, Err}
use Rattle.icn_value.specs.Limited.{limits_of}
use Rattle.iconx_top.specs.declared.words.CommandAsked.{CommandAsked}
use Rattle.iconx_top.specs.declared.words.CommandAsked.TheVariants.{Run, Migration}
use Rattle.iconx_top.specs.declared.words.MigrationAsked.{MigrationAsked}
use Rattle.iconx_top.specs.declared.words.RunAsked.{RunAsked}
use Rattle.iconx_top.specs.Words.{WordsReading, Asks, Migrates, Faulty}

-- words that ask for this run
abbrev pub run_reading : RunAsked → WordsReading
run_reading asked = Asks (limits_of asked.limits) asked.image.now (map string_bytes asked.arguments.now)

-- words that ask for this new image
abbrev pub migration_reading : MigrationAsked → WordsReading
migration_reading asked = Migrates asked.new_name.now asked.image.now

-- a run, or the kind of what is wrong with the words
abbrev pub run_or_kind : Result RunAsked ℕ → WordsReading
run_or_kind (Ok asked) = run_reading asked
run_or_kind (Err kind) = Faulty kind

-- a migration, or the kind of what is wrong with the words
abbrev pub migration_or_kind : Result MigrationAsked ℕ → WordsReading
migration_or_kind (Ok asked) = migration_reading asked
migration_or_kind (Err kind) = Faulty kind

-- what the words ask for, or the kind of what is wrong with them
abbrev pub reading_of : Result CommandAsked ℕ → WordsReading
reading_of (Ok (Run asked)) = run_reading asked
reading_of (Ok (Migration asked)) = migration_reading asked
reading_of (Err kind) = Faulty kind
