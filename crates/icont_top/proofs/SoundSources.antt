-- Where files hold bytes, what they come to can be linked.
use Rattle.std.proofs.Common.{◌≡◌, ℕ, ◌≤◌, true, List, Result, Ok, arith}
use Rattle.icn_host.specs.FileMaps.{FileMap, HoldBytes}
use Rattle.icn_tree.specs.declared.lines.SourceLine.{SourceLine}
use Rattle.icn_tree.specs.declared.token.Token.{Token}
use Rattle.icn_tree.specs.SourceTexts.{joined_len}
use Rattle.icn_tree.specs.Tokens.{Scanned, tokens_of}
use Rattle.icn_tree.specs.Trees.{Declaration}
use Rattle.icn_parse.specs.Outcomes.{IsOutcome, IsTree}
use Rattle.icn_prep.specs.SourceLines.{PreprocessedSource, source_lines}
use Rattle.icn_unit.specs.PlainUnits.{UnitRead}
use Rattle.icn_unit.specs.UnitRules.{is_byte_text, keeps_rules}
use Rattle.icn_units.specs.Written.{file_fits}
use Rattle.icn_translate.specs.FileUnits.{translated_unit}
use Rattle.icn_link.specs.JoinableUnits.{is_joinable}
use Rattle.law_simulation.specs.Faultless.{IsFaultless}
use Rattle.law_source.specs.LineBytes.{lines_are_of_bytes}
use Rattle.icn_answer.specs.declared.answer.Answer.{Answer}
use Rattle.icont_words.specs.Words.{WordsReading, Generate, Asks, ComeTo}
use Rattle.icont_units.specs.Files.{CommandFile, files_named, source_name}
use Rattle.icont_units.specs.Generated.{GeneratedComes, generated_base, generated_lines}
use Rattle.icont_units.specs.Sources.{ScannedSource, source_read}
use Rattle.icont_units.specs.Translating.{TokensGive}
use Rattle.icont_units.specs.Units.{Member, FromSource, Load}
use Rattle.icont_units.proofs.FaultlessFiles.{faultless_tokens, source_of, tree_of}
use Rattle.icont_units.proofs.LineSizes.{generated_fits}
use Rattle.icont_units.proofs.SomeLoading.{KeepRules}
use Rattle.icont_units.proofs.SoundMembers.{OfAll, generated_holds, load_holds}
use Rattle.icont_units.proofs.NamedSources.{are_scanned}
use Rattle.icont_top.proofs.FewNumbers.{few_asked}
use Rattle.icont_top.proofs.GeneratedBytes.{generated_are_bytes}
use Rattle.icont_top.specs.Job.{Job, IsJob}
use Rattle.icont_top.proofs.SomeJob.{IsSound, Laws, by_reading}

-- what the laws of bytes and of units say
pub record ByteLaws : Type 0 where
  pub lines : (files : FileMap) (name : List ℕ) (source : PreprocessedSource) → HoldBytes files → source_lines files name ≡ Ok source
      → lines_are_of_bytes source.lines ≡ true
  pub texts : (lines : List SourceLine) (tokens : List Token) (file : List Declaration) → joined_len lines ≤ 16777216 → lines_are_of_bytes lines ≡ true
      → tokens_of lines ≡ Scanned tokens → IsOutcome tokens (IsTree file) → file_fits is_byte_text file ≡ true
  pub translations : (name : List ℕ) (file : List Declaration) → IsFaultless file → file_fits is_byte_text file ≡ true
      → is_joinable (translated_unit name file) ≡ true
  pub units : (unit : UnitRead) → keeps_rules unit.procs unit.decls ≡ true → is_joinable unit ≡ true
  pub rules : KeepRules

module _ (laws : ByteLaws) where
  sound_lines : (base : List ℕ) (lines : List SourceLine) (tokens : List Token) (file : List Declaration) → joined_len lines ≤ 16777216
      → lines_are_of_bytes lines ≡ true → tokens_of lines ≡ Scanned tokens → TokensGive tokens (Ok file) → IsSound is_joinable (FromSource base file)
  sound_lines base lines tokens file within bytes e x =
      let faultless = faultless_tokens tokens file (are_scanned lines tokens within e) x in
      let is = tree_of tokens file x in
      (faultless, laws.translations base file faultless (laws.texts lines tokens file within bytes e is.tree))

  pub sound_load : (files : FileMap) → HoldBytes files → (named : List CommandFile) (found : Result (List Member) Answer) → Load files named found
      → OfAll (IsSound is_joinable) found
  sound_load files hold named found x = load_holds (IsSound is_joinable) files by_source laws.units laws.rules found x where
    by_source : (base : List ℕ) (scan : ScannedSource) (file : List Declaration) → source_read files (source_name base) ≡ Ok scan
        → TokensGive scan.tokens (Ok file)
        → IsSound is_joinable (FromSource base file)
    by_source base scan file e y =
        let source = source_of files (source_name base) scan e in
        let bytes = laws.lines files (source_name base) source.source hold source.lines in
        sound_lines base source.source.lines scan.tokens file source.within bytes source.tokens y

  pub sound_number : (words : List (List ℕ)) (number turns : ℕ) (found : Result (List Member) Answer) → ComeTo words (Asks (Generate number turns))
      → GeneratedComes number found → OfAll (IsSound is_joinable) found
  sound_number words number turns found asks x = generated_holds (IsSound is_joinable) number by_tokens found x where
    by_tokens : (tokens : List Token) (file : List Declaration) → tokens_of (generated_lines number) ≡ Scanned tokens → TokensGive tokens (Ok file)
        → IsSound is_joinable (FromSource generated_base file)
    by_tokens tokens file e y =
        let few = few_asked number turns asks in
        sound_lines generated_base (generated_lines number) tokens file (generated_fits number (omega (arith, few))) (generated_are_bytes number) e y

pub some_job : Laws is_joinable → ByteLaws → ((words : List (List ℕ)) → (reading : WordsReading) × ComeTo words reading)
    → (words : List (List ℕ)) (files : FileMap) (left : List ℕ) → HoldBytes files → (job : Job) × IsJob words files left job
some_job laws bytes some words files left hold =
    let reading = some words in
    by_reading is_joinable laws words files left (λ names found x. sound_load bytes files hold (files_named names) found x)
    (λ number turns found e x. sound_number bytes words number turns found e x) reading.0 reading.1
