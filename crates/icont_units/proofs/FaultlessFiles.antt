-- Files that tokens become break no rule.
use Rattle.std.proofs.Common.{◌≡◌, ℕ, ◌≤◌, List, [], Result, Ok, Err, refl, sym, subst}
use Rattle.icn_host.specs.FileMaps.{FileMap}
use Rattle.icn_tree.specs.declared.lines.SourceLine.{SourceLine}
use Rattle.icn_tree.specs.declared.token.Token.{Token}
use Rattle.icn_tree.specs.SourceTexts.{joined_len}
use Rattle.icn_tree.specs.Tokens.{Tokenized, Scanned, Fault, tokens_of}
use Rattle.icn_tree.specs.Trees.{Declaration}
use Rattle.icn_parse.specs.Outcomes.{IsTree, IsOutcome}
use Rattle.icn_decls.specs.Faults.{context_faults}
use Rattle.icn_decls.specs.CheckedTexts.{AreScanned, IsSpelled}
use Rattle.icn_prep.specs.declared.fault.PrepFault.{PrepFault}
use Rattle.icn_prep.specs.SourceLines.{PreprocessedSource, source_lines}
use Rattle.law_simulation.specs.Faultless.{IsFaultless}
use Rattle.icont_units.specs.Sources.{ScannedSource, source_read, lines_read, tokens_read}
use Rattle.icont_units.specs.Translating.{TokensGive, not_parsed, out_of_context, is_file}
use Rattle.icont_units.proofs.GivenLines.{lines_within}
use Rattle.icont_units.proofs.EqualResults.{ok_injective, ok_is_not_err}
use Rattle.icont_units.proofs.Verdicts.{Verdict}

-- Trees

-- tokens that become a file have it as their tree
pub record OfTree (tokens : List Token) (file : List Declaration) : Type 0 where
  pub tree : IsOutcome tokens (IsTree file)
  pub context : context_faults file ≡ []

of_verdict : {tokens : List Token} (found : Verdict) → TokensGive tokens found → (file : List Declaration) → found ≡ Ok file → OfTree tokens file
of_verdict _ (not_parsed outcome rule place is e) file same = absurd (ok_is_not_err file (rule, place) (sym same))
of_verdict _ (out_of_context tree fault is e) file same = absurd (ok_is_not_err file (fault.rule, fault.place) (sym same))
of_verdict {tokens} _ (is_file tree is e) file same = subst (OfTree tokens) (ok_injective tree file same) (record { tree = is; context = e })

pub tree_of : (tokens : List Token) (file : List Declaration) → TokensGive tokens (Ok file) → OfTree tokens file
tree_of tokens file x = of_verdict (Ok file) x file refl

-- Tokens that were scanned become files that break no rule

pub faultless_tokens : (tokens : List Token) (file : List Declaration) → AreScanned tokens → TokensGive tokens (Ok file) → IsFaultless file
faultless_tokens tokens file scanned x =
    let is = tree_of tokens file x in
    let spelled : IsSpelled file = record { tokens = tokens; scanned = scanned; tree = is.tree } in record { spelled = ∣ spelled ∣₁; context = is.context }

-- Lines

-- what a named file has as tokens comes of its lines
pub record OfSource (files : FileMap) (name : List ℕ) (scan : ScannedSource) : Type 0 where
  pub source : PreprocessedSource
  pub lines : source_lines files name ≡ Ok source
  pub within : joined_len source.lines ≤ 16777216
  pub tokens : tokens_of source.lines ≡ Scanned scan.tokens

of_outcome : (names : List (List ℕ)) (lines : List SourceLine) (outcome : Tokenized) → tokens_of lines ≡ outcome → (scan : ScannedSource)
    → tokens_read names outcome ≡ Ok scan → tokens_of lines ≡ Scanned scan.tokens
of_outcome names lines (Scanned tokens) is scan e =
    subst (λ (s : ScannedSource). tokens_of lines ≡ Scanned s.tokens) (ok_injective (record { names = names; tokens = tokens }) scan e) is
of_outcome names lines (Fault rule file line) is scan e = absurd (ok_is_not_err scan _ (sym e))

of_lines : (files : FileMap) (name : List ℕ) (read : Result PreprocessedSource PrepFault) → source_lines files name ≡ read → (scan : ScannedSource)
    → lines_read name read ≡ Ok scan → OfSource files name scan
of_lines files name (Ok source) is scan e =
    let tokens = of_outcome source.names source.lines (tokens_of source.lines) refl scan e in
    record { source = source; lines = is; within = lines_within files name source is; tokens = tokens }
of_lines files name (Err fault) is scan e = absurd (ok_is_not_err scan _ (sym e))

pub source_of : (files : FileMap) (name : List ℕ) (scan : ScannedSource) → source_read files name ≡ Ok scan → OfSource files name scan
source_of files name scan e = of_lines files name (source_lines files name) refl scan e
