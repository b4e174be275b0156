use Rattle.std.proofs.Common.{◌≡◌, ℕ, true, List, [], ◌∷◌, ◌++◌, map, refl, ◌∙◌, ap}
use Rattle.std.specs.Prelude.{codes}
use Rattle.icn_unit.specs.declared.unit.ProcCode.{ProcCode}
use Rattle.icn_unit.specs.declared.unit.UnitDecl.{UnitDecl}
use Rattle.icn_unit.specs.declared.unit.UnitDecl.TheVariants.{Proc as ProcDecl}
use Rattle.icn_unit.specs.PlainUnits.{Procedure}
use Rattle.icn_unit.specs.UnitRules.{keeps_rules}
use Rattle.icn_unit.specs.UnitViews.{decl_seen, proc_seen}
use Rattle.test_code.specs.Built.{main}
use Rattle.test_code.proofs.ucode.built.main_unit.Goals as goal

main_keeps : keeps_rules (main ∷ []) (Procedure (codes "main") ∷ []) ≡ true
unfolding keeps_rules
main_keeps = refl

-- one procedure and its declaration
rules : (procs : List ProcCode) (decls : List UnitDecl) (proc : ProcCode) (name : List ℕ) → procs ≡ proc ∷ [] → decls ≡ ProcDecl name ∷ []
    → proc_seen proc ≡ main → name ≡ codes "main" → keeps_rules (map proc_seen procs) (map decl_seen decls) ≡ true
rules procs decls proc name p d seen n =
    ap (λ procs. keeps_rules (map proc_seen procs) (map decl_seen decls)) p
    ∙ (ap (λ decls. keeps_rules (proc_seen proc ∷ []) (map decl_seen decls)) d
    ∙ (ap (λ seen. keeps_rules (seen ∷ []) (Procedure name ∷ [])) seen ∙ (ap (λ name. keeps_rules (main ∷ []) (Procedure name ∷ [])) n ∙ main_keeps)))

pub invariant_of-result : goal.invariant_of-result
invariant_of-result c = record {
  rules = rules c.push.new.self.items c.push-2.new.self.items c.in_ok-main_proc.field-0 c.in_ok-from_slice.field-0 (c.in_ok-push.ensures.items
      ∙ ap (λ items. items ++ c.in_ok-main_proc.field-0 ∷ []) c.new-procs.ensures.items)
      (c.in_ok-push-2.ensures.items ∙ ap (λ items. items ++ ProcDecl c.in_ok-from_slice.field-0 ∷ []) c.new-decls.ensures.items) c.in_ok-main_proc.ensures
      c.in_ok-from_slice.ensures;
}
