-- The labels of the code of a procedure: no two places are of one label, and each label that is gone to has its place.
use Rattle.std.proofs.Common.{◌≡◌, ◌≢◌, ◌≤◌, ◌<◌, ◌⊎◌, inl, inr, ℕ, zero, suc, ◌+◌, Bool, true, false, not, ◌&&◌, ◌||◌, List, [], ◌∷◌, ◌++◌, length, Option, None, Some, refl, sym, ap, ◌∙◌, nat_eq, arith}
use Rattle.std.specs.List.{list_all, list_any}
use Rattle.std.specs.Option.{option_map_or}
use Rattle.std.proofs.lemmas.Bool.{cases_lt}
use Rattle.std.proofs.lemmas.Bool.Decides.{eqb_tells}
use Rattle.icn_tree.specs.Trees.{Procedure}
use Rattle.icn_tree.specs.declared.rule.Rule.TheVariants.{C1, C8}
use Rattle.icn_decls.specs.Contexts.{outermost}
use Rattle.icn_decls.specs.Faults.{too_many, fault_if_met, all_repeated, declared_names, initial_faults, all_faults, procedure_faults}
use Rattle.icn_tree.specs.NameSets.{NameTest, none_met}
use Rattle.icn_unit.specs.declared.unit.UnitInstr.{UnitInstr}
use Rattle.icn_unit.specs.declared.unit.UnitInstr.TheVariants as I
use Rattle.icn_unit.specs.UnitRules.{label_in, own_label, own_labels, placed_labels, has_label, all_differ, labels_differ, labels_placed, label_placed}
use Rattle.icn_translate.specs.declared.builder.LoopLabels.{LoopLabels}
use Rattle.icn_translate.specs.Drafts.{Draft}
use Rattle.icn_translate.specs.ProcCodes.{first_draft, draft_of, proc_code}
use Rattle.icn_units.specs.Written.{name_fits, names_fit, all_locals_fit, initial_fits, trees_fit, procedure_fits}
use Rattle.icn_units.proofs.DraftChains.{Told, Keeps, ◌▸◌, chain_step, chain_plain}
use Rattle.icn_units.proofs.KeptByForms.{none_before, none_behind, first_told, second_told, from, initially_runs, body_runs}
use Rattle.icn_units.proofs.LabelBalance.{bit, one, given, held, places, ways_held, ends_held, times, balance, balance_asks, is_balanced}
use Rattle.icn_units.proofs.LabelNumbers.{Among, AllAmong, Numbered, numbers, numbers_asks, has_grown}
use Rattle.icn_units.proofs.BalancedLoops.{nesting, nesting_asks, is_level}

-- The whole draft of a procedure goes on from the one that it begins with.
pub told_leads : (K : Keeps) (met : NameTest) (procedure : Procedure) → procedure_faults met procedure ≡ []
    → Told K.asks (procedure_fits K.passes procedure) → K.Leads (first_draft procedure) (draft_of procedure) []
told_leads K met procedure x w =
    let many = too_many (length (declared_names procedure)) procedure.name in
    let owned = fault_if_met C8 met procedure.name in
    let twice = all_repeated C1 none_met (declared_names procedure) in
    let first = initial_faults procedure.initial in
    let others = all_faults outermost procedure.body in
    let trees = none_behind twice (first ++ others)
    (none_behind owned (twice ++ (first ++ others))
    (none_behind many (owned ++ (twice ++ (first ++ others))) x)) in
    let named = name_fits procedure.name in
    let parameters = names_fit procedure.parameters in
    let locals = all_locals_fit procedure.locals in
    let initial = initial_fits K.passes procedure.initial in
    let body = trees_fit K.passes procedure.body in
    let written = second_told locals (initial && body)
    (second_told parameters (locals && (initial && body))
    (second_told named (parameters && (locals && (initial && body))) w)) in
    (from K (first_draft procedure) (K.inside_none (first_draft procedure))
    ▸ chain_step (initially_runs K procedure.initial (none_before first others trees) (first_told initial body written))
    ▸ chain_step (body_runs K procedure.body (none_behind first others trees) (second_told initial body written))
    ▸ chain_plain I.Pfail refl refl refl (λ h. refl)).leads

not_told : (asks t : Bool) → asks ≡ false → Told asks t
not_told asks t e h = absurd (cc)

-- where nothing is asked of names and literals
pub procedure_leads : (K : Keeps) → K.asks ≡ false → (met : NameTest) (procedure : Procedure)
    → procedure_faults met procedure ≡ []
    → K.Leads (first_draft procedure) (draft_of procedure) []
procedure_leads K h met procedure x = told_leads K met procedure x (not_told K.asks (procedure_fits K.passes procedure) h)

-- Numbers

one_tells : (l n : ℕ) → ((one l n ≡ 1) × (l ≡ n)) ⊎ ((one l n ≡ 0) × (l ≢ n))
unfolding one
one_tells l n = by (nat_eq l n) (eqb_tells l n)
  where
    by : (b : Bool) → ((b ≡ true) × (l ≡ n)) ⊎ ((b ≡ false) × (l ≢ n)) → ((bit b ≡ 1) × (l ≡ n))
        ⊎ ((bit b ≡ 0) × (l ≢ n))
    by true (inl h) = inl (refl, h.1)
    by true (inr h) = absurd (cc)
    by false (inl h) = absurd (cc)
    by false (inr h) = inr (refl, h.1)

given_none : (l n : ℕ) → n < l → given l n ≡ 0
given_none l zero h = refl
given_none l (suc n) h = by (one_tells l (suc n)) (given_none l n (omega arith))
  where
    by : ((one l (suc n) ≡ 1) × (l ≡ suc n)) ⊎ ((one l (suc n) ≡ 0) × (l ≢ suc n)) → given l n ≡ 0 → given l n
        + one l (suc n) ≡ 0
    by (inl t) g = let e = t.1 in absurd (omega arith)
    by (inr t) g = let e = t.0 in omega arith

given_once : (l n : ℕ) → 0 < l → l ≤ n → given l n ≡ 1
given_once l zero h g = absurd (omega arith)
given_once l (suc n) h g = by (one_tells l (suc n)) (cases_lt n l) (given_once l n h)
  where
    by : ((one l (suc n) ≡ 1) × (l ≡ suc n)) ⊎ ((one l (suc n) ≡ 0) × (l ≢ suc n)) → (n < l) ⊎ (l ≤ n)
        → (l ≤ n → given l n ≡ 1) → given l n + one l (suc n) ≡ 1
    by (inl t) (inl k) earlier = let e = t.0 in let z = given_none l n k in omega arith
    by (inl t) (inr k) earlier = let e = t.1 in absurd (omega arith)
    by (inr t) (inl k) earlier = absurd (t.1 (omega arith))
    by (inr t) (inr k) earlier = let e = t.0 in let z = earlier k in omega arith

given_most : (l n : ℕ) → given l n ≤ 1
given_most l zero = omega arith
given_most l (suc n) = by (one_tells l (suc n)) (given_most l n)
  where
    by : ((one l (suc n) ≡ 1) × (l ≡ suc n)) ⊎ ((one l (suc n) ≡ 0) × (l ≢ suc n)) → given l n ≤ 1 → given l n
        + one l (suc n) ≤ 1
    by (inl t) g = let e = t.0 in let k = t.1 in let z = given_none l n (omega arith) in omega arith
    by (inr t) g = let e = t.0 in omega arith

-- how often a number is among numbers
abbrev amount : ℕ → List ℕ → ℕ
amount l [] = 0
amount l (n ∷ ns) = one l n + amount l ns

placed_amount : (l : ℕ) (is : List UnitInstr) → places l is ≡ amount l (placed_labels is)
placed_amount l [] = refl
placed_amount l (i ∷ is) = by (own_label i) (placed_labels is) (placed_amount l is)
  where
    by : (k : Option ℕ) (ns : List ℕ) → places l is ≡ amount l ns → held l k + places l is
        ≡ amount l (own_labels k ++ ns)
    by None ns h = omega arith
    by (Some n) ns h = ap (λ a. one l n + a) h

not_among : (n : ℕ) (ns : List ℕ) → amount n ns ≡ 0 → list_any (λ y. nat_eq n y) ns ≡ false
not_among n [] h = refl
not_among n (y ∷ ns) h = by (nat_eq n y) (eqb_tells n y) (one_tells n y) (list_any (λ y. nat_eq n y) ns)
    (not_among n ns (omega arith))
  where
    by : (b : Bool) → ((b ≡ true) × (n ≡ y)) ⊎ ((b ≡ false) × (n ≢ y)) → ((one n y ≡ 1) × (n ≡ y))
        ⊎ ((one n y ≡ 0) × (n ≢ y)) → (t : Bool) → t ≡ false → (b || t) ≡ false
    by true (inl e) (inl o) t g = let z = o.0 in absurd (omega arith)
    by true (inl e) (inr o) t g = absurd (o.1 e.1)
    by true (inr e) o t g = absurd (cc)
    by false e o t g = g

is_there : (n : ℕ) (ns : List ℕ) → 1 ≤ amount n ns → list_any (λ y. nat_eq n y) ns ≡ true
is_there n [] h = absurd (omega arith)
is_there n (y ∷ ns) h = by (nat_eq n y) (eqb_tells n y) (one_tells n y) (is_there n ns)
  where
    by : (b : Bool) → ((b ≡ true) × (n ≡ y)) ⊎ ((b ≡ false) × (n ≢ y)) → ((one n y ≡ 1) × (n ≡ y))
        ⊎ ((one n y ≡ 0) × (n ≢ y)) → (1 ≤ amount n ns → list_any (λ y. nat_eq n y) ns ≡ true)
        → (b || list_any (λ y. nat_eq n y) ns) ≡ true
    by true e o later = refl
    by false (inl e) o later = absurd (cc)
    by false (inr e) (inl o) later = absurd (e.1 o.1)
    by false (inr e) (inr o) later = let z = o.0 in later (omega arith)

all_once : (ns : List ℕ) → ((l : ℕ) → amount l ns ≤ 1) → all_differ nat_eq ns ≡ true
all_once [] h = refl
all_once (n ∷ ns) h = by (list_any (λ y. nat_eq n y) ns) (all_differ nat_eq ns)
    (not_among n ns (first (one_tells n n) (h n))) (all_once ns (λ l. let a = h l in omega arith))
  where
    first : ((one n n ≡ 1) × (n ≡ n)) ⊎ ((one n n ≡ 0) × (n ≢ n)) → one n n + amount n ns ≤ 1 → amount n ns ≡ 0
    first (inl o) g = let z = o.0 in omega arith
    first (inr o) g = absurd (o.1 refl)

    by : (b t : Bool) → b ≡ false → t ≡ true → (not b && t) ≡ true
    by true t e f = absurd (cc)
    by false t e f = f

all_placed : (n : ℕ) (all is : List UnitInstr) → ((l : ℕ) → 0 < l → l ≤ n → has_label (placed_labels all) l ≡ true)
    → AllAmong n is → list_all (λ i. label_placed all i) is ≡ true
all_placed n all [] h a = refl
all_placed n all (i ∷ is) h a = both (label_placed all i) (list_all (λ i. label_placed all i) is)
    (by (label_in i) a.0) (all_placed n all is h a.1)
  where
    by : (k : Option ℕ) → Among n k → option_map_or (λ label. has_label (placed_labels all) label) k true ≡ true
    by None b = refl
    by (Some l) b = h l b.0 b.1

    both : (b t : Bool) → b ≡ true → t ≡ true → (b && t) ≡ true
    both true t e f = f
    both false t e f = absurd (cc)

-- A whole procedure

no_ways : (l : ℕ) (ws : List LoopLabels) → length ws ≡ 0 → ways_held l ws ≡ 0
no_ways l [] h = refl
no_ways l (w ∷ ws) h = absurd (omega arith)

no_ends : (l : ℕ) (ends : List (Option ℕ)) → length ends ≡ 0 → ends_held l ends ≡ 0
no_ends l [] h = refl
no_ends l (end ∷ ends) h = absurd (omega arith)

begun_times : (l : ℕ) (procedure : Procedure) → times l (first_draft procedure) ≡ 0
unfolding times
begun_times l procedure = refl

ended_times : (l : ℕ) (d : Draft) → length d.loops ≡ 0 → length d.cases ≡ 0 → times l d ≡ places l d.instrs
unfolding times
ended_times l d h g = sum (places l d.instrs) (ways_held l d.loops) (ends_held l d.cases) (no_ways l d.loops h)
    (no_ends l d.cases g)
  where
    sum : (p w c : ℕ) → w ≡ 0 → c ≡ 0 → p + w + c ≡ p
    sum p w c e f = omega arith

begun_numbered : (procedure : Procedure) → Numbered (first_draft procedure)
begun_numbered procedure = record { instrs = tt; loops = tt; cases = tt }

module _ (met : NameTest) (procedure : Procedure) (faultless : procedure_faults met procedure ≡ []) where
  -- each number is placed as often as it is given
  places_given : (l : ℕ) → places l (draft_of procedure).instrs ≡ given l (draft_of procedure).labels
  places_given l =
      let d = first_draft procedure in
      let e = draft_of procedure in
      let level = is_level d e [] (procedure_leads nesting nesting_asks met procedure faultless) in
      let counted = is_balanced d e [] (procedure_leads balance balance_asks met procedure faultless) in
      sum (times l d) (times l e) (places l e.instrs) (given l e.labels) (counted.counts l)
      (begun_times l procedure) (ended_times l e level.loops level.cases)
    where
      sum : (Td Te P G : ℕ) → Te + 0 + 0 ≡ Td + G → Td ≡ 0 → Te ≡ P → P ≡ G
      sum Td Te P G a b c = omega arith

  placed_given : (l : ℕ) → amount l (placed_labels (draft_of procedure).instrs) ≡ given l (draft_of procedure).labels
  placed_given l = sym (placed_amount l (draft_of procedure).instrs) ∙ places_given l

  -- no two places of a procedure's code are of one label
  pub labels_are_distinct : labels_differ (placed_labels (proc_code procedure).instrs) ≡ true
  labels_are_distinct = all_once (placed_labels (draft_of procedure).instrs)
      (λ l. let a = placed_given l in let b = given_most l (draft_of procedure).labels in omega arith)

  pub are_placed : labels_placed (proc_code procedure).instrs ≡ true
  are_placed =
      let e = draft_of procedure in
      let grown = has_grown (first_draft procedure) e [] (procedure_leads numbers numbers_asks met procedure faultless) in
      all_placed e.labels e.instrs e.instrs (λ l h g. is_there l (placed_labels e.instrs)
      (let a = placed_given l in let b = given_once l e.labels h g in omega arith))
      (grown.kept (begun_numbered procedure)).instrs
