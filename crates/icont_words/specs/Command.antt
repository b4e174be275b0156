-- The command of `clap` with which words are read.
use Rattle.std.specs.Prelude.{ℕ, List, true, codes, Some}
use Rattle.clap.specs.Lexer.{usize_max}
use Rattle.clap.specs.Words.{App, Rule, new_app, new_rule, with_rule}
use Rattle.clap.specs.Simple.{on_top}
use Rattle.clap.specs.declared.builder.ArgAction.TheVariants.{Set, SetTrue}

-- the flag `-c`
abbrev pub units_rule : Rule
units_rule = record (new_rule (codes "units")) { short = Some 99; action = Some SetTrue }

-- an option with a value, by its letter
abbrev pub option_rule : List ℕ → ℕ → Rule
option_rule id letter = record (new_rule id) { short = Some letter; action = Some Set }

-- `-o` with the name of the image
abbrev pub image_rule : Rule
image_rule = option_rule (codes "image") 111

-- `-n` with a bound of turns
abbrev pub turns_rule : Rule
turns_rule = option_rule (codes "turns") 110

-- `-g` with the number of a program
abbrev pub number_rule : Rule
number_rule = option_rule (codes "number") 103

-- any number of files
abbrev pub file_rule : Rule
file_rule = record (new_rule
    (codes "file")) { range = Some (record { start_inclusive = 0; end_inclusive = usize_max }) }

-- a command that has no flag of help
abbrev pub no_help : App → App
no_help app = on_top (λ shape. record shape { disable_help_flag = true }) app

-- a command that has the three options besides
abbrev pub with_options : App → App
with_options app = with_rule (with_rule (with_rule app image_rule) turns_rule) number_rule

-- the whole command: the flag, the options, and names of files
abbrev pub icont_app : App
icont_app = with_rule (with_options (with_rule (no_help (new_app (codes "icont"))) units_rule)) file_rule
