-- Calls of the store of files: what is read is spelled so, and what is spelled so is read again.
use Rattle.std.proofs.Common.{◌≡◌, ℕ, zero, suc, ◌^◌, Bool, true, false, cond, ltb, List, [], ◌∷◌, ◌++◌, length, Result, Ok, Err, arith, refl, ap, subst, ◌∙◌, append_assoc}
use Rattle.std.specs.Prelude.{nat_lt}
use Rattle.std.specs.Int.{w32}
use Rattle.std.proofs.lemmas.Bool.{and_parts, and_from, lt-ltb}
use Rattle.icn_tree.specs.declared.rule.Rule.{Rule}
use Rattle.icn_tree.specs.declared.rule.Rule.TheVariants.{G3}
use Rattle.icn_save.specs.FileCalls.{FileCall, FoundFile, NoSuchFile, WroteFile}
use Rattle.icn_save.specs.Readers.{◌>>=◌, string_at}
use Rattle.icn_save.specs.Reading.{answer_at, call_at, is_short_call}
use Rattle.icn_save.specs.Saves.{is_short}
use Rattle.icn_save.specs.Spelling.{call, string}
use Rattle.icn_save.proofs.SpelledFields.{IsBytes, IsBytes-rest, bind_parts, done_injective, Takes, takes_then, takes_byte, Reads, string_reads, wide32}

strings : Reads (List ℕ) (string_at w32) (string w32) (λ text. nat_lt (length text) (2 ^ 32))
strings = string_reads w32 (2 ^ 32) wide32

-- a kind that is none gives no call
no_kind : (past : Bool) (r : Result (FileCall × List ℕ) Rule) (x : FileCall × List ℕ) → past ≡ true → cond past (Err G3) r ≡ Ok x → ⊥
no_kind true r x is e = cc e
no_kind false r x is e = cc is

call_takes : (bytes : List ℕ) (x : FileCall × List ℕ) → IsBytes bytes → call_at bytes ≡ Ok x → Takes bytes (call x.0) x.1 × (is_short_call x.0 ≡ true)
unfolding call_at answer_at
call_takes [] x fits e = absurd (cc e)
call_takes (zero ∷ bytes) x fits e =
    let a = bind_parts (string_at w32 bytes) (λ name. string_at w32 name.1 >>= λ text. Ok (FoundFile name.0 text.0, text.1)) x e in
    let b = bind_parts (string_at w32 a.0.1) (λ text. Ok (FoundFile a.0.0 text.0, text.1)) x a.2 in
    let ta = strings.takes bytes a.0 (IsBytes-rest zero bytes fits) a.1 in
    let tb = strings.takes a.0.1 b.0 ta.0.rest_fits b.1 in
    let both = takes_then bytes (string w32 a.0.0) a.0.1 (string w32 b.0.0) b.0.1 ta.0 tb.0 in
    subst (λ (y : FileCall × List ℕ). Takes (zero ∷ bytes) (call y.0) y.1 × (is_short_call y.0 ≡ true)) (done_injective (FoundFile a.0.0 b.0.0, b.0.1) x b.2)
    (takes_byte zero bytes (string w32 a.0.0 ++ string w32 b.0.0) b.0.1 fits both, and_from (is_short a.0.0) (is_short b.0.0) ta.1 tb.1)
call_takes (suc zero ∷ bytes) x fits e =
    let a = bind_parts (string_at w32 bytes) (λ name. Ok (NoSuchFile name.0, name.1)) x e in
    let ta = strings.takes bytes a.0 (IsBytes-rest 1 bytes fits) a.1 in
    subst (λ (y : FileCall × List ℕ). Takes (1 ∷ bytes) (call y.0) y.1 × (is_short_call y.0 ≡ true)) (done_injective (NoSuchFile a.0.0, a.0.1) x a.2)
    (takes_byte 1 bytes (string w32 a.0.0) a.0.1 fits ta.0, ta.1)
call_takes (suc (suc zero) ∷ bytes) x fits e =
    let a = bind_parts (string_at w32 bytes) (λ name. string_at w32 name.1 >>= λ text. Ok (WroteFile name.0 text.0, text.1)) x e in
    let b = bind_parts (string_at w32 a.0.1) (λ text. Ok (WroteFile a.0.0 text.0, text.1)) x a.2 in
    let ta = strings.takes bytes a.0 (IsBytes-rest 2 bytes fits) a.1 in
    let tb = strings.takes a.0.1 b.0 ta.0.rest_fits b.1 in
    let both = takes_then bytes (string w32 a.0.0) a.0.1 (string w32 b.0.0) b.0.1 ta.0 tb.0 in
    subst (λ (y : FileCall × List ℕ). Takes (2 ∷ bytes) (call y.0) y.1 × (is_short_call y.0 ≡ true)) (done_injective (WroteFile a.0.0 b.0.0, b.0.1) x b.2)
    (takes_byte 2 bytes (string w32 a.0.0 ++ string w32 b.0.0) b.0.1 fits both, and_from (is_short a.0.0) (is_short b.0.0) ta.1 tb.1)
call_takes (suc (suc (suc kind)) ∷ bytes) x fits e =
    absurd (no_kind (ltb 2 (suc (suc (suc kind)))) _ x (lt-ltb 2 (suc (suc (suc kind))) (omega arith)) e)

call_again : (c : FileCall) (rest : List ℕ) → is_short_call c ≡ true → call_at (call c ++ rest) ≡ Ok (c, rest)
unfolding call_at answer_at
call_again (FoundFile name bytes) rest keeps =
    let p = and_parts (is_short name) (is_short bytes) keeps in
    ap (λ (t : List ℕ). call_at (0 ∷ t)) (append_assoc (string w32 name) (string w32 bytes) rest)
    ∙ rw (strings.again name (string w32 bytes ++ rest) p.0, strings.again bytes rest p.1) refl
call_again (NoSuchFile name) rest keeps = rw (strings.again name rest keeps) refl
call_again (WroteFile name bytes) rest keeps =
    let p = and_parts (is_short name) (is_short bytes) keeps in
    ap (λ (t : List ℕ). call_at (2 ∷ t)) (append_assoc (string w32 name) (string w32 bytes) rest)
    ∙ rw (strings.again name (string w32 bytes ++ rest) p.0, strings.again bytes rest p.1) refl

-- a call is read as it is spelled, where its lengths fit
pub call_reads : Reads FileCall call_at call is_short_call
call_reads = record { takes = call_takes; again = call_again }
