-- What a source comes to.
use Rattle.std.proofs.Common.{◌≡◌, ◌⊎◌, inl, inr, ℕ, List, Result, Ok, Err, refl, sym, ap, subst, ◌∙◌}
use Rattle.icn_host.specs.FileMaps.{FileMap}
use Rattle.icn_tree.specs.declared.rule.Rule.{Rule}
use Rattle.icn_tree.specs.declared.token.Token.{Token}
use Rattle.icn_tree.specs.declared.tree.SourceFile.{SourceFile}
use Rattle.icn_tree.specs.declared.tree.Place.{Place}
use Rattle.icn_tree.specs.TreeOf.{declarations_of}
use Rattle.icn_decls.specs.declared.checked.Checked.{Checked}
use Rattle.icn_parse.specs.Outcomes.{IsOutcome, IsTree}
use Rattle.icn_answer.specs.declared.answer.Answer.{Answer}
use Rattle.icn_answer.specs.declared.answer.Answer.TheVariants.{NoMemory}
use Rattle.icn_answer.specs.Answers.{IsFault}
use Rattle.icont_units.specs.FetchedFiles.{AreFile, IsSource}
use Rattle.icont_units.specs.Files.{source_name}
use Rattle.icont_units.specs.Sources.{ScannedSource, refused_at, source_read}
use Rattle.icont_units.specs.Stages.{IsFile}
use Rattle.icont_units.specs.Translating.{TokensGive, is_file}
use Rattle.icont_units.specs.Units.{FileComes}

-- Tokens

pub are_checked : (tokens : List Token) (checked : Checked) (file : SourceFile) → IsOutcome tokens (IsTree (declarations_of file)) → checked.text ≡ file
    → IsFile tokens checked
are_checked tokens checked file is same =
    is_file (declarations_of checked.text) (subst (λ text. IsOutcome tokens (IsTree (declarations_of text))) (sym same) is) checked.context

-- Sources

no_memory : (answer : Answer) → answer ≡ NoMemory → IsFault answer
no_memory answer e = rw e refl

broken : (files : FileMap) (base : List ℕ) (scan : ScannedSource) (rule : Rule) (place : Place) (answer : Answer)
    → source_read files (source_name base) ≡ Ok scan
    → TokensGive scan.tokens (Err (rule, place)) → answer ≡ refused_at scan.names rule place → let result : Result Checked Answer = Err answer in
    IsSource files base result
broken files base scan rule place answer e are same = inr (rw same (FileComes.broken base scan rule place e are))

pub is_source : (files : FileMap) (base name : List ℕ) (scan : ScannedSource) (result : Result Checked Answer) → name ≡ source_name base
    → source_read files name ≡ Ok scan
    → AreFile scan result → IsSource files base result
is_source files base name scan (Ok checked) same e are =
    FileComes.translated base scan (declarations_of checked.text) (ap (source_read files) (sym same) ∙ e) are
is_source files base name scan (Err answer) same e (inl none) = inl (no_memory answer none)
is_source files base name scan (Err answer) same e (inr told) =
    broken files base scan told.0 told.1.0 answer (ap (source_read files) (sym same) ∙ e) told.1.1.0 told.1.1.1

pub no_source : (files : FileMap) (base name : List ℕ) (answer : Answer) → name ≡ source_name base → IsFault answer ⊎ (source_read files name ≡ Err answer)
    → let result : Result Checked Answer = Err answer in IsSource files base result
no_source files base name answer same (inl fault) = inl fault
no_source files base name answer same (inr e) = inr (FileComes.no_tokens base answer (ap (source_read files) (sym same) ∙ e))
