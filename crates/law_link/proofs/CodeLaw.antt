-- The code of a procedure of a unit, resolved, is its translation with places for labels.
use Rattle.std.proofs.Common.{◌≡◌, ℕ, ◌+◌, List, [], ◌∷◌, ◌++◌, length, refl, ap, ◌∙◌, append_assoc, append-nil, if◌then◌else◌, arith}
use Rattle.icn_tree.specs.Trees.{Initial, NoInitial, Initially, Trees, NoTrees, More, Procedure}
use Rattle.icn_decls.specs.Contexts.{outermost}
use Rattle.icn_decls.specs.Faults.{too_many, fault_if_met, all_repeated, declared_names, initial_faults, all_faults, procedure_faults}
use Rattle.icn_tree.specs.NameSets.{NameTest, none_met}
use Rattle.icn_tree.specs.declared.rule.Rule.TheVariants.{C1, C8}
use Rattle.icn_code.specs.declared.instr.Instr.{Instr}
use Rattle.icn_code.specs.declared.instr.Instr.TheVariants as I
use Rattle.icn_unit.specs.declared.unit.UnitInstr.TheVariants as U
use Rattle.icn_translate.specs.Drafts.{put}
use Rattle.icn_translate.specs.OpenMarks.{Outermost}
use Rattle.icn_translate.specs.Translation as T
use Rattle.icn_translate.specs.ProcCodes.{first_draft, draft_of, proc_code}
use Rattle.icn_units.proofs.KeptByForms.{none_before, none_behind}
use Rattle.icn_units.proofs.ProcedureLabels.{labels_are_distinct}
use Rattle.icn_link.specs.Resolving.{Scope, resolve, label_address}
use Rattle.law_simulation.specs.Translation as X
use Rattle.law_link.proofs.CodeSteps.{Agrees, Gives, no_facts, gives_nothing, gives_instruction, ◌⨾◌}
use Rattle.law_link.proofs.CodeNames.{AgreeOn}
use Rattle.law_link.proofs.CodeParts.{bounded_gives, initial_gives}
use Rattle.law_link.proofs.CodeForms.{empty_same, plainly, unless_gives, tree_gives}
use Rattle.law_link.proofs.CodeLabels.{all_placed}

-- the expression of `initial`, and how many instructions a body has
abbrev initial_code : X.SymbolTable → ℕ → Initial → List Instr
initial_code N p NoInitial = []
initial_code N p (Initially place e) = I.Init (p + X.size [] e + 3) ∷ I.Mark (p + X.size [] e + 3) ∷ X.code N [] [] (p + 2) e ++ I.Unmark ∷ []

abbrev initial_size : Initial → ℕ
initial_size NoInitial = 0
initial_size (Initially place e) = X.size [] e + 3

abbrev body_size : Trees → ℕ
body_size NoTrees = 1
body_size (More e es) = X.bounded_size e + body_size es

module _ {S : Scope} {N : X.SymbolTable} {F : List (List ℕ)} (agree : AgreeOn S N F) where
  initially_gives : (initial : Initial) → initial_faults initial ≡ []
      → Gives S F [] [] (T.initially initial) (initial_size initial) (λ p. initial_code N p initial) no_facts
  initially_gives NoInitial x = gives_nothing
  initially_gives (Initially place e) x = initial_gives (tree_gives agree Outermost outermost e x [] [] (refl, refl))

  body_gives : (es : Trees) → all_faults outermost es ≡ [] → Gives S F [] [] (λ d. put U.Pfail (T.body es d)) (body_size es) (λ p. X.body N p es) no_facts
  body_gives NoTrees x = gives_instruction U.Pfail refl
  body_gives (More e es) x =
      let same = empty_same e in
      let n = X.size [] e + 2 in
      plainly (unless_gives (T.is_empty e) (bounded_gives (tree_gives agree Outermost outermost e (none_before _ _ x) [] [] (refl, refl)))
      ⨾ body_gives es (none_behind _ _ x))
      (ap (λ b. (if b then 0 else n) + body_size es) same)
      (λ p. ap (λ b.
      (if b then [] else I.Mark (p + X.size [] e + 2) ∷ X.code N [] [] (p + 1) e ++ I.Unmark ∷ []) ++ X.body N (p + (if b then 0 else n)) es) same)

  whole_gives : (initial : Initial) (es : Trees) → initial_faults initial ≡ [] → all_faults outermost es ≡ []
      → Gives S F [] [] (λ d. put U.Pfail (T.body es (T.initially initial d))) (initial_size initial + body_size es)
      (λ p. initial_code N p initial ++ X.body N (p + initial_size initial) es) no_facts
  whole_gives initial es x y = plainly (initially_gives initial x ⨾ body_gives es y) refl (λ p. refl)

whole_code : (N : X.SymbolTable) (initial : Initial) (es : Trees)
    → initial_code N 0 initial ++ X.body N (0 + initial_size initial) es ≡ X.procedure N initial es
whole_code N NoInitial es = refl
whole_code N (Initially place e) es =
    let n = X.size [] e + 3 in
    let at : 0 + X.size [] e + 3 ≡ n = omega arith in
    let first : 0 + 2 ≡ 2 = refl in
    let begins : 0 + n ≡ n = omega arith in
    ap (λ k. (I.Init k ∷ I.Mark k ∷ X.code N [] [] (0 + 2) e ++ I.Unmark ∷ []) ++ X.body N (0 + n) es) at
    ∙ ap (λ q. (I.Init n ∷ I.Mark n ∷ X.code N [] [] q e ++ I.Unmark ∷ []) ++ X.body N (0 + n) es) first
    ∙ ap (λ (is : List Instr). I.Init n ∷ I.Mark n ∷ is) (append_assoc (X.code N [] [] 2 e) (I.Unmark ∷ []) (X.body N (0 + n) es))
    ∙ ap (λ q. I.Init n ∷ I.Mark n ∷ X.code N [] [] 2 e ++ I.Unmark ∷ X.body N q es) begins

-- the faults of the trees of a procedure
pub trees_faultless : (met : NameTest) (procedure : Procedure) → procedure_faults met procedure ≡ []
    → (initial_faults procedure.initial ≡ []) × (all_faults outermost procedure.body ≡ [])
trees_faultless met procedure x =
    let many = too_many (length (declared_names procedure)) procedure.name in
    let owned = fault_if_met C8 met procedure.name in
    let twice = all_repeated C1 none_met (declared_names procedure) in
    let first = initial_faults procedure.initial in
    let others = all_faults outermost procedure.body in
    let trees = none_behind twice (first ++ others)
    (none_behind owned (twice ++ (first ++ others)) (none_behind many (owned ++ (twice ++ (first ++ others))) x)) in
    (none_before first others trees, none_behind first others trees)

pub code_is : (S : Scope) (N : X.SymbolTable) (met : NameTest) (procedure : Procedure) → procedure_faults met procedure ≡ []
    → AgreeOn S N (draft_of procedure).names → ((label : ℕ) → S.label label ≡ label_address label (proc_code procedure).instrs)
    → resolve S (proc_code procedure).instrs ≡ X.procedure N procedure.initial procedure.body
code_is S N met procedure x agree labels =
    let F = (draft_of procedure).names in
    let trees = trees_faultless met procedure x in
    let ends : Agrees S F [] [] (draft_of procedure) = record {
      placed = all_placed S (proc_code procedure).instrs (labels_are_distinct met procedure x) labels;
      names = record { rest = []; is = append-nil F };
      loops = tt;
      ends = tt;
    } in
    let all = (whole_gives agree procedure.initial procedure.body trees.0 trees.1).at (first_draft procedure) ends in
    all.is ∙ whole_code N procedure.initial procedure.body
