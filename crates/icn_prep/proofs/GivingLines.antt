-- Giving a line, and refusing one.
use Rattle.std.proofs.Common.{◌≡◌, ℕ, ◌+◌, ◌<◌, ◌≤◌, List, [], ◌∷◌, ◌++◌, length, true, false, nat_lt, sym, ap, ◌∙◌, arith, ◌⊎◌, inl, inr, Result, Ok, Err}
use Rattle.std.proofs.lemmas.Bool.{cond-true, cond-false}
use Rattle.std.proofs.lemmas.Bool.Decides.{nat_tests}
use Rattle.icn_tree.specs.SourceTexts.{joined_len}
use Rattle.icn_tree.specs.declared.rule.Rule.TheVariants.{P9}
use Rattle.icn_prep.specs.declared.fault.PrepFault.{PrepFault}
use Rattle.icn_prep.specs.declared.fault.PrepFault.TheVariants.{Broken, NoMemory}
use Rattle.icn_prep.specs.declared.literal.LiteralState.{LiteralState}
use Rattle.icn_prep.specs.Cursors.{Cursor}
use Rattle.icn_prep.specs.Refusals.{Refuses}
use Rattle.icn_prep.specs.LineLengths.{ended_len}
use Rattle.icn_prep.specs.SourceLines.{LineState, name_at, give_line}
use Rattle.icn_prep.proofs.LineLengths.{joined_more}

pub refuses_by : {A : Type 0} (outcome : Result A PrepFault) (fault wanted : PrepFault) → outcome ≡ Err wanted → (fault ≡ NoMemory) ⊎ (fault ≡ wanted)
    → Refuses outcome fault
refuses_by outcome fault wanted is (inl e) = inl e
refuses_by outcome fault wanted is (inr e) = inr (is ∙ ap Err (sym e))

longer_line : (s : LineState) (cursor : Cursor) (bytes : List ℕ)
    → joined_len (s.lines ++ (record { bytes = bytes; file = cursor.file; number = cursor.line }) ∷ []) ≡ ended_len s.lines + length bytes
longer_line s cursor bytes = joined_more s.lines (record { bytes = bytes; file = cursor.file; number = cursor.line })

pub given_long : (s : LineState) (cursor : Cursor) (bytes : List ℕ) (literal : LiteralState) (size : ℕ) → size ≡ ended_len s.lines
    → 16777216 < size + length bytes
    → give_line s cursor bytes literal ≡ Err (Broken P9 (name_at s 0) 0)
given_long s cursor bytes literal size is l =
    let len = longer_line s cursor bytes in
    let long : nat_lt 16777216 (joined_len (s.lines ++ (record { bytes = bytes; file = cursor.file; number = cursor.line }) ∷ []))
    ≡ true = grind (arith, nat_tests) in
    cond-true _ _ _ long

pub given_short : (s : LineState) (cursor : Cursor) (bytes : List ℕ) (literal : LiteralState) (size : ℕ) → size ≡ ended_len s.lines
    → size + length bytes ≤ 16777216
    → give_line s cursor bytes literal
    ≡ Ok (record s { lines = s.lines ++ (record { bytes = bytes; file = cursor.file; number = cursor.line }) ∷ []; literal = literal })
given_short s cursor bytes literal size is l =
    let len = longer_line s cursor bytes in
    let short : nat_lt 16777216 (joined_len (s.lines ++ (record { bytes = bytes; file = cursor.file; number = cursor.line }) ∷ []))
    ≡ false = grind (arith, nat_tests) in
    cond-false _ _ _ short
