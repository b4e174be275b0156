-- Units and their spelling.
use Rattle.std.proofs.Common.{◌≡◌, ◌&&◌, ℕ, Bool, true, false, cond, List, Result, Ok, Err, refl, sym, ◌∙◌, ap, subst}
use Rattle.std.proofs.lemmas.Bool.{cond-true}
use Rattle.icn_tree.specs.declared.rule.Rule.{Rule}
use Rattle.icn_tree.specs.declared.rule.Rule.TheVariants.{U7}
use Rattle.icn_unit.specs.PlainUnits.{PlainProc, PlainDecl, UnitRead, proc_names}
use Rattle.icn_unit.specs.UnitRules.{keeps_decls, keeps_procs, keeps_rules, same_names}
use Rattle.icn_ucode.specs.UnitReading.{Whole, Faulty, decls_of, procs_of, unit_read, with_decls, with_procs}
use Rattle.icn_unit.specs.UnitTexts.{decls_text, procs_text}
use Rattle.icn_ucode.proofs.ListTests.{and_parts}
use Rattle.icn_ucode.proofs.KeptRules.{rules_kept}
use Rattle.icn_ucode.proofs.ReadProcsAgain.{procs_again}
use Rattle.icn_ucode.proofs.ReadDeclsAgain.{decls_again}
use Rattle.icn_ucode.proofs.SpelledDecls.{decls_spelled}
use Rattle.icn_ucode.proofs.SpelledLines.{procs_spelled}

faulty_whole : (rule : Rule) (second : Bool) (unit : UnitRead) → Faulty rule second ≡ Whole unit → ⊥
faulty_whole rule second unit e = cc

whole_same : (a b : UnitRead) → Whole a ≡ Whole b → a ≡ b
whole_same a b e = cc

-- the unit is what its texts spell
abbrev pub IsSpelling : List ℕ → List ℕ → List ℕ → UnitRead → Type 0
IsSpelling name u1 u2 unit = (procs_text unit.procs ≡ u1) × (decls_text unit.decls ≡ u2) × (unit.name ≡ name)

-- procedures and declarations that name them
abbrev Found : List ℕ → List ℕ → UnitRead → Type 0
Found u1 u2 unit = (procs_of u1 ≡ Ok unit.procs) × (decls_of (proc_names unit.procs) u2 ≡ Ok unit.decls) × (same_names unit.procs unit.decls ≡ true)

found_names : (name u1 u2 : List ℕ) (unit : UnitRead) (procs : List PlainProc) (decls : List PlainDecl) (test : Bool) → procs_of u1 ≡ Ok procs
    → decls_of (proc_names procs) u2 ≡ Ok decls → same_names procs decls ≡ test
    → cond test (Whole (record { name = name; procs = procs; decls = decls })) (Faulty U7 true) ≡ Whole unit → Found u1 u2 unit × (unit.name ≡ name)
found_names name u1 u2 unit procs decls true p d n e =
    subst (λ (unit : UnitRead). Found u1 u2 unit × (unit.name ≡ name)) (whole_same (record { name = name; procs = procs; decls = decls }) unit e)
    ((p, d, n), refl)
found_names name u1 u2 unit procs decls false p d n e = absurd (faulty_whole U7 true unit e)

found_decls : (name u1 u2 : List ℕ) (unit : UnitRead) (procs : List PlainProc) (decls : Result (List PlainDecl) Rule) → procs_of u1 ≡ Ok procs
    → decls_of (proc_names procs) u2 ≡ decls → with_decls name procs decls ≡ Whole unit → Found u1 u2 unit × (unit.name ≡ name)
found_decls name u1 u2 unit procs (Err rule) p d e = absurd (faulty_whole rule true unit e)
found_decls name u1 u2 unit procs (Ok decls) p d e = found_names name u1 u2 unit procs decls (same_names procs decls) p d refl e

found_procs : (name u1 u2 : List ℕ) (unit : UnitRead) (procs : Result (List PlainProc) Rule) → procs_of u1 ≡ procs → with_procs name procs u2 ≡ Whole unit
    → Found u1 u2 unit × (unit.name ≡ name)
found_procs name u1 u2 unit (Err rule) p e = absurd (faulty_whole rule false unit e)
found_procs name u1 u2 unit (Ok procs) p e = found_decls name u1 u2 unit procs (decls_of (proc_names procs) u2) p refl e

pub unit_spelled : (name u1 u2 : List ℕ) (unit : UnitRead) → unit_read name u1 u2 ≡ Whole unit → IsSpelling name u1 u2 unit
unit_spelled name u1 u2 unit e =
    let found = found_procs name u1 u2 unit (procs_of u1) refl e in
    (procs_spelled u1 unit.procs found.0.0, decls_spelled (proc_names unit.procs) u2 unit.decls found.0.1, found.1)

-- what is read keeps the rules
pub unit_kept : (name u1 u2 : List ℕ) (unit : UnitRead) → unit_read name u1 u2 ≡ Whole unit → keeps_rules unit.procs unit.decls ≡ true
unit_kept name u1 u2 unit e = let found = (found_procs name u1 u2 unit (procs_of u1) refl e).0 in rules_kept u1 u2 unit.procs unit.decls found.0 found.1 found.2

-- what keeps the rules is read from its spelling
pub unit_again : (unit : UnitRead) → keeps_rules unit.procs unit.decls ≡ true → unit_read unit.name (procs_text unit.procs) (decls_text unit.decls) ≡ Whole unit
unfolding keeps_rules
unit_again unit h =
    let parts = and_parts (keeps_procs unit.procs && keeps_decls unit.decls) (same_names unit.procs unit.decls) h in
    let firsts = and_parts (keeps_procs unit.procs) (keeps_decls unit.decls) parts.0 in
    ap (λ procs. with_procs unit.name procs (decls_text unit.decls)) (procs_again unit.procs firsts.0)
    ∙ (ap (λ decls. with_decls unit.name unit.procs decls) (decls_again unit.procs unit.decls firsts.1 parts.1)
    ∙ cond-true (same_names unit.procs unit.decls) _ _ parts.1)

-- one spelling, one unit
pub unit_once : (a b : UnitRead) → keeps_rules a.procs a.decls ≡ true → keeps_rules b.procs b.decls ≡ true → a.name ≡ b.name
    → procs_text a.procs ≡ procs_text b.procs → decls_text a.decls ≡ decls_text b.decls → a ≡ b
unit_once a b h g n p d =
    whole_same a b
    (sym (unit_again a h)
    ∙ (ap (λ name. unit_read name (procs_text a.procs) (decls_text a.decls)) n
    ∙ (ap (λ text. unit_read b.name text (decls_text a.decls)) p ∙ (ap (λ text. unit_read b.name (procs_text b.procs) text) d ∙ unit_again b g))))
