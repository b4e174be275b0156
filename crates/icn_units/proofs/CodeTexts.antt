-- The names and the operands of the code of a procedure, where those of its trees are such as a unit has.
use Rattle.std.proofs.Common.{◌≡◌, ℕ, Bool, true, ◌&&◌, List, [], ◌∷◌, ◌++◌, refl, sym, subst}
use Rattle.std.specs.List.{flat_map, list_all}
use Rattle.icn_tree.specs.declared.tree.Name.{Name}
use Rattle.icn_tree.specs.Trees.{LocalDecl, Procedure}
use Rattle.icn_decls.specs.Faults.{procedure_faults}
use Rattle.icn_tree.specs.NameSets.{NameTest}
use Rattle.icn_unit.specs.PlainUnits.{entry_names}
use Rattle.icn_unit.specs.UnitOperands.{is_name}
use Rattle.icn_translate.specs.ProcCodes.{texts_of, local_texts, declared_texts, first_draft, draft_of, proc_code}
use Rattle.icn_units.specs.Written.{operand_fits, name_fits, names_fit, all_locals_fit, initial_fits, trees_fit, procedure_fits}
use Rattle.icn_units.proofs.WrittenTrees.{and_intro, and_first, and_second}
use Rattle.icn_units.proofs.ProcedureLabels.{told_leads}
use Rattle.icn_units.proofs.EntryNames.{begun_names, code_names}
use Rattle.icn_units.proofs.OperandTexts.{Kept, texts, are_kept, told_texts}

pub texts_fit : (names : List Name) → names_fit names ≡ true → list_all is_name (texts_of names) ≡ true
texts_fit [] h = refl
texts_fit (name ∷ names) h = and_intro (and_first (name_fits name) (names_fit names) h)
    (texts_fit names (and_second (name_fits name) (names_fit names) h))

all_behind : (xs ys : List (List ℕ)) → list_all is_name xs ≡ true → list_all is_name ys ≡ true
    → list_all is_name (xs ++ ys) ≡ true
all_behind [] ys h g = g
all_behind (x ∷ xs) ys h g = and_intro (and_first (is_name x) (list_all is_name xs) h)
    (all_behind xs ys (and_second (is_name x) (list_all is_name xs) h) g)

locals_fit : (locals : List LocalDecl) → all_locals_fit locals ≡ true → list_all is_name (flat_map local_texts locals)
    ≡ true
locals_fit [] h = refl
locals_fit (l ∷ locals) h =
    all_behind (local_texts l) (flat_map local_texts locals)
    (texts_fit l.names (and_first (names_fit l.names) (all_locals_fit locals) h))
    (locals_fit locals (and_second (names_fit l.names) (all_locals_fit locals) h))

module _ (passes : List ℕ → Bool) (met : NameTest) (procedure : Procedure) (faultless : procedure_faults met procedure ≡ [])
    (written : procedure_fits passes procedure ≡ true) where
  declared_fit : list_all is_name (declared_texts procedure) ≡ true
  declared_fit =
      let named = name_fits procedure.name in
      let parameters = names_fit procedure.parameters in
      let locals = all_locals_fit procedure.locals in
      let trees = initial_fits passes procedure.initial && trees_fit passes procedure.body in
      let rest = and_second named (parameters && (locals && trees)) written in
      all_behind (texts_of procedure.parameters) (flat_map local_texts procedure.locals)
      (texts_fit procedure.parameters (and_first parameters (locals && trees) rest))
      (locals_fit procedure.locals (and_first locals trees (and_second parameters (locals && trees) rest)))

  kept : Kept passes (first_draft procedure) (draft_of procedure) []
  kept = are_kept passes (first_draft procedure) (draft_of procedure) []
      (told_leads (texts passes) met procedure faultless (told_texts passes (λ test. procedure_fits test procedure) written))

  pub code_operands_fit : list_all (operand_fits passes) (proc_code procedure).instrs ≡ true
  code_operands_fit = kept.instrs refl

  pub code_names_fit : list_all is_name (entry_names (proc_code procedure).names) ≡ true
  code_names_fit = subst (λ (names : List (List ℕ)). list_all is_name names ≡ true)
      (sym (code_names met procedure faultless))
      (kept.names (subst (λ (names : List (List ℕ)). list_all is_name names ≡ true)
      (sym (begun_names met procedure faultless)) declared_fit))
