-- What was read so far, in front of what stands here, is all.
use Rattle.std.proofs.Common.{◌≡◌, ℕ, ◌-◌, ◌<◌, suc, List, [], ◌∷◌, ◌++◌, length, slice_get, Result, Ok, Err, refl, sym, ap, subst, ◌∙◌, arith, append_assoc, append-nil, length-append}
use Rattle.std.specs.Option.{option_map_or}
use Rattle.icn_tree.specs.declared.rule.Rule.{Rule}
use Rattle.icn_tree.specs.declared.lines.SourceLine.{SourceLine}
use Rattle.icn_tree.specs.declared.token.Token.{Token}
use Rattle.icn_tree.specs.Literals.{OpenLiteral}
use Rattle.icn_tree.specs.Semicolons.{LineToken, between, with_semicolons}
use Rattle.icn_tree.specs.Tokens.{Scan, Found, Broken, before}
use Rattle.icn_lex.specs.declared.fault.LexFault.{LexFault}
use Rattle.icn_lex.specs.declared.fault.LexFault.TheVariants.{Broken as BrokenFault, NoMemory}
use Rattle.icn_lex.specs.declared.literals.Step.{Step}
use Rattle.icn_lex.specs.declared.literals.Step.TheVariants.{Closed, Continued, More}
use Rattle.icn_lex.specs.Literals.{Later}
use Rattle.icn_lex.specs.Outcomes.{FaultIs, StepIs, Reads, all_before}
use Rattle.icn_lex.specs.Reading.{with_piece}

-- Semicolons

last_more : (x : Token) (ys : List Token) → 0 < length ys → slice_get (x ∷ ys) (length (x ∷ ys) - 1) ≡ slice_get ys (length ys - 1)
last_more x ys h = let e : length (x ∷ ys) - 1 ≡ suc (length ys - 1) = omega arith in ap (slice_get (x ∷ ys)) e

last_append : (xs ys : List Token) → 0 < length ys → slice_get (xs ++ ys) (length (xs ++ ys) - 1) ≡ slice_get ys (length ys - 1)
last_append [] ys h = refl
last_append (x ∷ xs) ys h = last_more x (xs ++ ys) (omega (arith, length-append xs ys)) ∙ last_append xs ys h

joint_append : (xs ys : List Token) (next : LineToken) → 0 < length ys → with_piece (xs ++ ys) next ≡ with_piece ys next
joint_append xs ys next h = ap (λ last. option_map_or (λ a. between a next) last []) (last_append xs ys h)

begins : (b : LineToken) (rest : List LineToken) → 0 < length (with_semicolons (b ∷ rest))
begins b [] = omega arith
begins b (c ∷ rest) = omega arith

-- one token more
pub with_semicolons_push : (done : List LineToken) (next : LineToken)
    → with_semicolons (done ++ next ∷ []) ≡ with_semicolons done ++ with_piece (with_semicolons done) next ++ next.token ∷ []
with_semicolons_push [] next = refl
with_semicolons_push (a ∷ []) next = refl
with_semicolons_push (a ∷ b ∷ rest) next =
    let front = a.token ∷ between a.token b in
    let later = with_semicolons (b ∷ rest) in
    ap (λ s. front ++ s) (with_semicolons_push (b ∷ rest) next)
    ∙ (sym (append_assoc front (later ++ with_piece later next) (next.token ∷ []))
    ∙ ap (λ s. s ++ next.token ∷ []) (sym (append_assoc front later (with_piece later next))))
    ∙ ap (λ s. front ++ later ++ s ++ next.token ∷ []) (sym (joint_append front later next (begins b rest)))

-- Places

-- equal scans read the same
pub reads_same : (all : Scan) (found : List Token) (here there : Scan) → here ≡ there → Reads all found here → Reads all found there
reads_same all found here there same r = subst (λ (s : Scan). Reads all found s) same r

piece_before : (done : List LineToken) (next : LineToken) (later : Scan) → all_before (done ++ next ∷ []) later ≡ all_before done (before next later)
piece_before done next (Found pieces) = ap Found (append_assoc done (next ∷ []) pieces)
piece_before done next (Broken rule line file) = refl

-- behind a token
pub reads_token : (all : Scan) (found : List Token) (next : LineToken) (later : Scan) → Reads all found (before next later)
    → Reads all (found ++ with_piece found next ++ next.token ∷ []) later
reads_token all found next later r = record {
  done = r.done ++ next ∷ [];
  separated = ap (λ f. f ++ with_piece f next ++ next.token ∷ []) r.separated ∙ sym (with_semicolons_push r.done next);
  reads = piece_before r.done next later ∙ r.reads;
}

-- at a fault
pub reads_fault : (all : Scan) (found : List Token) (here : Scan) (rule : Rule) (line file : ℕ) → here ≡ Broken rule line file → Reads all found here
    → all ≡ Broken rule line file
reads_fault all found here rule line file e r = sym r.reads ∙ ap (all_before r.done) e

pub fault_at : (all : Scan) (found : List Token) (here : Scan) (fault : LexFault) → FaultIs fault here → Reads all found here → FaultIs fault all
fault_at all found here NoMemory e r = tt
fault_at all found here (BrokenFault rule file line) e r = reads_fault all found here rule line file e r

-- at the end
pub reads_end : (all : Scan) (found : List Token) → Reads all found (Found []) → (done : List LineToken) × (all ≡ Found done) × (found ≡ with_semicolons done)
reads_end all found r = (r.done, sym r.reads ∙ ap Found (append-nil r.done), r.separated)

fault_same : (fault : LexFault) (here there : Scan) → there ≡ here → FaultIs fault here → FaultIs fault there
fault_same NoMemory here there same e = tt
fault_same (BrokenFault rule file line) here there same e = same ∙ e

-- a step from a place that gives the same
pub step_same : (line : SourceLine) (result : Result Step LexFault) (literal : OpenLiteral) (here there : Later → Scan)
    → ((later : Later) → there later ≡ here later)
    → StepIs line result literal here → StepIs line result literal there
step_same line (Ok (Closed behind)) literal here there same e = λ later. same later ∙ e later
step_same line (Ok Continued) literal here there same e = λ later. same later ∙ e later
step_same line (Ok (More behind)) literal here there same e = λ later. same later ∙ e later
step_same line (Err fault) literal here there same e = λ later. fault_same fault (here later) (there later) (same later) (e later)
