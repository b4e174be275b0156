-- What is read of a named file.
use Rattle.std.proofs.Common.{◌≡◌, ◌⊎◌, inl, inr, ℕ, ◌≤◌, true, false, List, Result, Ok, Err, refl, sym, subst, ◌∙◌, arith}
use Rattle.icn_tree.specs.declared.rule.Rule.{Rule}
use Rattle.icn_tree.specs.declared.rule.Rule.TheVariants.{K2, P6}
use Rattle.icn_host.specs.FileMaps.{FileMap}
use Rattle.icn_tree.specs.declared.lines.SourceLine.{SourceLine}
use Rattle.icn_tree.specs.declared.token.Token.{Token}
use Rattle.icn_tree.specs.SourceTexts.{joined_len}
use Rattle.icn_tree.specs.TokenBounds.{IsScanRule}
use Rattle.icn_tree.proofs.KeptByScans.{all_formed, all_sized, tokens_counted, tokens_sound}
use Rattle.icn_decls.specs.CheckedTexts.{AreScanned}
use Rattle.icn_tree.specs.Tokens.{Tokenized, Scanned, Fault, tokens_of}
use Rattle.icn_prep.specs.declared.fault.PrepFault.{PrepFault}
use Rattle.icn_prep.specs.declared.fault.PrepFault.TheVariants as Prep
use Rattle.icn_prep.specs.Answers.{IsAbsent, IsTextFault}
use Rattle.icn_prep.specs.Refusals.{IsOfPrep, IsPrepRule}
use Rattle.icn_prep.specs.SourceLines.{PreprocessedSource, source_lines}
use Rattle.icn_prep.proofs.Faults.{fault_of_text}
use Rattle.icn_answer.specs.declared.answer.Answer.{Answer}
use Rattle.icn_answer.specs.declared.answer.Answer.TheVariants.{Refused, FileFault, NoMemory}
use Rattle.icn_answer.specs.Answers.{IsFault, IsAbsence}
use Rattle.icont_units.specs.Sources.{IsOfRead, refused_at, tokens_read, fault_answer, lines_read}
use Rattle.icont_units.proofs.EqualResults.{err_injective, ok_is_not_err}

no_scan_rule : (rule : Rule) → IsScanRule rule → rule ≡ P6 → ⊥
no_scan_rule rule scan is = rw is at scan

-- no rule of tokens speaks of a file that is not there
pub not_absent : (rule : Rule) (name : List ℕ) (line : ℕ) (answer : Answer) → IsScanRule rule → (answer ≡ Refused name line rule) ⊎ (answer ≡ NoMemory)
    → IsAbsence answer → ⊥
not_absent rule name line answer scan (inl e) is = no_scan_rule rule scan (rw e at is)
not_absent rule name line answer scan (inr e) is = rw e at is

-- and none of a file that is linked
scan_unlinked : (rule : Rule) → IsScanRule rule → rule ≡ K2 → ⊥
scan_unlinked rule scan is = rw is at scan

pub scan_read : (rule : Rule) (name : List ℕ) (line : ℕ) (answer : Answer) → IsScanRule rule → (answer ≡ Refused name line rule) ⊎ (answer ≡ NoMemory)
    → IsOfRead answer
scan_read rule name line answer scan (inl e) = rw e (scan_unlinked rule scan)
scan_read rule name line answer scan (inr e) = rw e tt

-- nor does one of preprocessing
prep_unlinked : (rule : Rule) → IsPrepRule rule → rule ≡ K2 → ⊥
prep_unlinked rule prep is = rw is at prep

pub prep_read : (name : List ℕ) (fault : PrepFault) (answer : Answer) → IsOfPrep fault → (answer ≡ fault_answer name fault) ⊎ (answer ≡ NoMemory)
    → IsOfRead answer
prep_read name fault answer prep (inr none) = rw none tt
prep_read name fault answer prep (inl is) = rw is (of_fault name fault prep) where
  of_fault : (name : List ℕ) (fault : PrepFault) → IsOfPrep fault → IsOfRead (fault_answer name fault)
  of_fault name Prep.Missing prep = tt
  of_fault name (Prep.Broken rule file line) prep = prep_unlinked rule prep
  of_fault name Prep.FileFault prep = tt
  of_fault name Prep.NoMemory prep = tt

-- tokens of lines are as the scanner gives them
pub are_scanned : (lines : List SourceLine) (tokens : List Token) → joined_len lines ≤ 16777216 → tokens_of lines ≡ Scanned tokens → AreScanned tokens
are_scanned lines tokens within e =
    let count = tokens_counted lines tokens e in
    record { few = omega arith; sized = all_sized tokens (tokens_sound lines tokens e); formed = all_formed tokens (tokens_sound lines tokens e) }

-- the answer says that the files failed only where they did
pub file_fault_from : (name : List ℕ) (fault : PrepFault) (answer : Answer) → (answer ≡ fault_answer name fault) ⊎ (answer ≡ NoMemory) → answer ≡ FileFault
    → fault ≡ Prep.FileFault
file_fault_from name fault answer (inr none) e = let both : NoMemory ≡ FileFault = sym none ∙ e in cc
file_fault_from name fault answer (inl is) e = of_fault name fault (sym is ∙ e) where
  of_fault : (name : List ℕ) (fault : PrepFault) → fault_answer name fault ≡ FileFault → fault ≡ Prep.FileFault
  of_fault name Prep.Missing e = cc
  of_fault name (Prep.Broken rule file line) e = cc
  of_fault name Prep.FileFault e = refl
  of_fault name Prep.NoMemory e = cc

-- the answer says that a file was not there only where the fault does
pub absence_from : (name : List ℕ) (fault : PrepFault) (answer : Answer) → (answer ≡ fault_answer name fault) ⊎ (answer ≡ NoMemory) → IsAbsence answer
    → IsAbsent fault
absence_from name fault answer (inr none) a = absurd (rw none at a)
absence_from name fault answer (inl is) a = of_absence name fault (rw is at a) where
  of_absence : (name : List ℕ) (fault : PrepFault) → IsAbsence (fault_answer name fault) → IsAbsent fault
  of_absence name Prep.Missing a = tt
  of_absence name (Prep.Broken rule file line) a = a
  of_absence name Prep.FileFault a = a
  of_absence name Prep.NoMemory a = a

-- No job asks for a fault

of_scan : (names : List (List ℕ)) (outcome : Tokenized) (answer : Answer) → tokens_read names outcome ≡ Err answer → IsFault answer → ⊥
of_scan names (Scanned tokens) answer e fault = ok_is_not_err (record { names = names; tokens = tokens }) answer e
of_scan names (Fault rule file line) answer e fault =
    let is : IsFault (refused_at names rule (record { line = line; file = file })) = subst IsFault
    (sym (err_injective (refused_at names rule (record { line = line; file = file })) answer e)) fault in
    let both : false ≡ true = is in cc

text_answer : (name : List ℕ) (fault : PrepFault) → IsTextFault fault → IsFault (fault_answer name fault) → ⊥
text_answer name Prep.Missing text fault = let both : false ≡ true = fault in cc
text_answer name (Prep.Broken rule file line) text fault = let both : false ≡ true = fault in cc
text_answer name Prep.FileFault text fault = text
text_answer name Prep.NoMemory text fault = text

pub answers_no_fault : (files : FileMap) (name : List ℕ) (read : Result PreprocessedSource PrepFault) (answer : Answer) → source_lines files name ≡ read
    → lines_read name read ≡ Err answer → IsFault answer → ⊥
answers_no_fault files name (Ok source) answer is e fault = of_scan source.names (tokens_of source.lines) answer e fault
answers_no_fault files name (Err wrong) answer is e fault =
    text_answer name wrong (fault_of_text files name wrong is) (rw (sym (err_injective (fault_answer name wrong) answer e)) at fault)
