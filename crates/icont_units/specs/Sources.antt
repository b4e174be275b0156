-- What a named file has as tokens, or the answer that refuses it.
use Rattle.std.specs.Prelude.{◌≡◌, ◌≢◌, ◌⊎◌, ℕ, List, [], slice_index_or, Result, Ok, Err}
use Rattle.icn_host.specs.FileMaps.{FileMap}
use Rattle.icn_tree.specs.declared.rule.Rule.{Rule}
use Rattle.icn_tree.specs.declared.rule.Rule.TheVariants.{S1, S2, S3, C1, C2, C3, C4, C5, C6, C7, C8, K2}
use Rattle.icn_tree.specs.declared.token.Token.{Token}
use Rattle.icn_tree.specs.declared.tree.Place.{Place}
use Rattle.icn_tree.specs.Tokens.{Tokenized, Scanned, Fault, tokens_of}
use Rattle.icn_prep.specs.declared.fault.PrepFault.{PrepFault}
use Rattle.icn_prep.specs.declared.fault.PrepFault.TheVariants as Prep
use Rattle.icn_prep.specs.SourceLines.{PreprocessedSource, source_lines}
use Rattle.icont_units.specs.declared.source.SourceTokens.{SourceTokens}
use Rattle.icn_answer.specs.declared.answer.Answer.{Answer}
use Rattle.icn_answer.specs.declared.answer.Answer.TheVariants.{Refused, Missing, FileFault, NoMemory}
use Rattle.icn_answer.specs.Answers.{IsFault}

-- the name of a file by its place, as the lines have it
abbrev pub name_at : List (List ℕ) → ℕ → List ℕ
name_at names file = slice_index_or names file []

-- the answer that a rule refuses a file at a place
abbrev pub refused_at : List (List ℕ) → Rule → Place → Answer
refused_at names rule place = Refused (name_at names place.file) place.line rule

-- what a named file has: its tokens, and the names of the files that they stand in
pub record ScannedSource : Type 0 where
  pub names : List (List ℕ)
  pub tokens : List Token

-- what the lines have as tokens
abbrev pub tokens_read : List (List ℕ) → Tokenized → Result ScannedSource Answer
tokens_read names (Scanned tokens) = Ok (record { names = names; tokens = tokens })
tokens_read names (Fault rule file line) = Err (refused_at names rule (record { line = line; file = file }))

-- the answer where the file of this name gives no lines
abbrev pub fault_answer : List ℕ → PrepFault → Answer
fault_answer name Prep.Missing = Missing name
fault_answer name (Prep.Broken rule file line) = Refused file line rule
fault_answer name Prep.FileFault = FileFault
fault_answer name Prep.NoMemory = NoMemory

-- the tokens of the lines of a file, or the answer where it gives none
abbrev pub lines_read : List ℕ → Result PreprocessedSource PrepFault → Result ScannedSource Answer
lines_read name (Ok source) = tokens_read source.names (tokens_of source.lines)
lines_read name (Err fault) = Err (fault_answer name fault)

-- what the named file has as tokens: all its lines first, and then all its tokens
abbrev pub source_read : FileMap → List ℕ → Result ScannedSource Answer
source_read files name = lines_read name (source_lines files name)

-- the names of a source's files, and its tokens
abbrev pub scan_of : SourceTokens → ScannedSource
scan_of source = record { names = source.names.items; tokens = source.tokens.items }

-- a call found this, or answers a fault of the outside
abbrev pub IsRead : Result ScannedSource Answer → Result SourceTokens Answer → Type 0
IsRead read (Ok source) = read ≡ Ok (scan_of source)
IsRead read (Err answer) = IsFault answer ⊎ (read ≡ Err answer)

-- An answer that no program ran for, and that the words have no part in. It speaks of no file that is linked.
abbrev pub IsOfRead : Answer → Type 0
IsOfRead (Refused file line rule) = rule ≢ K2
IsOfRead (Missing name) = Unit {0}
IsOfRead FileFault = Unit {0}
IsOfRead NoMemory = Unit {0}
IsOfRead _ = ⊥

-- a rule of trees or of contexts
abbrev pub IsTreeRule : Rule → Type 0
IsTreeRule S1 = Unit {0}
IsTreeRule S2 = Unit {0}
IsTreeRule S3 = Unit {0}
IsTreeRule C1 = Unit {0}
IsTreeRule C2 = Unit {0}
IsTreeRule C3 = Unit {0}
IsTreeRule C4 = Unit {0}
IsTreeRule C5 = Unit {0}
IsTreeRule C6 = Unit {0}
IsTreeRule C7 = Unit {0}
IsTreeRule C8 = Unit {0}
IsTreeRule _ = ⊥

-- a refusal of tokens that were read, or want of memory
abbrev pub IsOfTokens : Answer → Type 0
IsOfTokens (Refused file line rule) = IsTreeRule rule
IsOfTokens NoMemory = Unit {0}
IsOfTokens _ = ⊥
