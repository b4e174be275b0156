-- The translation's code of a tree stands where it sits.
use Rattle.std.proofs.Common.{◌≡◌, ℕ, zero, suc, ◌+◌, ◌-◌, Bool, true, false, ◌≤◌, List, [], ◌∷◌, ◌++◌, replicate, Option, Some, refl, sym, ap, ◌∙◌, subst, arith}
use Rattle.std.specs.Prelude.{if◌then◌else◌}
use Rattle.icn_code.specs.declared.instr.Instr.{Instr}
use Rattle.icn_code.specs.declared.instr.Instr.TheVariants as I
use Rattle.icn_defs.specs.Arities.{arity}
use Rattle.icn_text.specs.declared.keyword.Keyword.{Keyword}
use Rattle.icn_text.specs.declared.keyword.Keyword.TheVariants as Keywords
use Rattle.icn_text.specs.declared.keyword.TheConstants.Keyword.{ALL as keywords}
use Rattle.icn_text.specs.declared.op.Op.{Op}
use Rattle.icn_text.specs.declared.op.Op.TheVariants as Ops
use Rattle.icn_tree.specs.declared.token.Operator.{Operator}
use Rattle.icn_tree.specs.declared.tree.Place.{Place}
use Rattle.icn_tree.specs.declared.tree.Name.{Name}
use Rattle.icn_tree.specs.Trees as T
use Rattle.icn_tree.specs.declared.tree.Infix.TheVariants as Infixes
use Rattle.icn_tree.specs.Trees.{Tree, Trees, MaybeTree, Clauses, Absent, Present, NoTrees, More, Default, Guarded, NoClauses, MoreClauses, elements_of}
use Rattle.icn_value.specs.Values.{Item}
use Rattle.icn_meaning.specs.Contexts.{Application, Operating}
use Rattle.icn_meaning.specs.Operators.{section_op}
use Rattle.icn_tree.specs.declared.tree.SectionKind.TheVariants.{Between, Forward, Backward}
use Rattle.icn_meaning.specs.Succeed.{default_of}
use Rattle.icn_meaning.specs.Evaluate.{keyword_among, step_of, creations}
use Rattle.law_simulation.specs.Translation as X
use Rattle.law_simulation.specs.Translation.{SymbolTable, Depth, LoopExits, deeper, size, sizes, code, operands, elements_size, elements_code, body_size, body_code, literal_code}
use Rattle.law_simulation.specs.Linkage.{Linkage, Here, Loads, l_null, l_integer, l_string, l_cset, l_local, l_static, l_global, IsAppliedBy, f_operation, f_call, f_spread, f_list, f_field, f_activate, Opens, o_mark, o_mark0}
use Rattle.law_simulation.specs.StandingCode.{LeavesLoop, b_mark, b_scan, b_loop, b_control, b_each, Nexts, n_mark, n_scan, n_loop, n_each, Nest, top, in_create, in_mark, in_scan, in_loop, in_control, in_each, IsApplied, i_listing, i_call, i_cocall, i_subscript, i_subscripts, i_section, i_field, i_prefix, i_activate, i_infix, i_at, i_bang, i_to, d_activate, d_operate, tree_count, Stands, s_empty, s_constant, s_identifier, s_keyword, s_fail_keyword, s_applied, s_last, s_before, s_final, s_passed, s_bounded, s_repeated, s_not, s_both, s_scan, s_or, s_limit, s_update_both, s_update_scan, s_update, s_if, s_if_else, s_case, s_while, s_until, s_every, s_repeat, s_create, s_next, s_fail, s_break, s_return, s_suspend, StandsAll, s_nil, s_cons, StandsMaybe, s_absent, s_present, StandsCases, s_none, s_default, s_pass, s_guard, s_body, is_empty}
use Rattle.law_simulation.specs.Translatable.{depths, ways_of, Fits, fits_empty, fits_constant, fits_identifier, fits_keyword, fits_last, fits_before, fits_final, fits_passed, fits_bounded, fits_listing, fits_call, fits_cocall, fits_subscript, fits_section, fits_field, fits_prefix, fits_activate, fits_repeated, fits_not, fits_both, fits_scan, fits_or, fits_limit, fits_infix, fits_at, fits_bang, fits_update_both, fits_update_scan, fits_update_at, fits_update, fits_to, fits_if, fits_if_else, fits_case, fits_while, fits_until, fits_every, fits_repeat, fits_create, fits_next, fits_fail, fits_break, fits_return, fits_suspend, FitsAll, fits_nil, fits_cons, FitsBodies, fits_no_body, fits_body, outside, HasLoop, h_mark, h_scan, h_loop, h_control, h_each, HasNext, x_mark, x_scan, x_loop, x_each, FitsMaybe, fits_absent, fits_present, FitsDefault, fits_no_default, fits_default, FitsCases, fits_no_case, fits_other, fits_guard}
use Rattle.law_simulation.proofs.OperatorForms.{prefix_is, prefix_arity, infix_is, infix_arity, update_is, update_arity}
use Rattle.law_simulation.proofs.Segments.{Plain, CodePart, part_nil, part_cons, part_append, part_map, part_repeat}

loads_plain : {L : Linkage} {j : ℕ} {i : Instr} {x : Item} → Loads L j i x → Plain i
loads_plain l_null k = refl
loads_plain (l_integer e) k = refl
loads_plain (l_string e) k = refl
loads_plain (l_cset e) k = refl
loads_plain l_local k = refl
loads_plain l_static k = refl
loads_plain l_global k = refl

keyword_plain : (word : Keyword) → Plain (X.keyword_instr word)
keyword_plain Keywords.Fail i = refl
keyword_plain word i = refl

counts : (es : Trees) → X.count_of es ≡ tree_count es
counts NoTrees = refl
counts (More e es) = ap suc (counts es)

element_count : (es : Trees) → X.elements es ≡ tree_count (elements_of es)
element_count NoTrees = refl
element_count (More T.Empty NoTrees) = refl
element_count (More e es) = counts (More e es)

sections : (kind : _) → X.section_op kind ≡ section_op kind
sections Between = refl
sections Forward = refl
sections Backward = refl

applies_section : {L : Linkage} (kind : _)
    → IsAppliedBy L (Operating (section_op kind)) 3 (I.Op (section_op kind))
applies_section Between = f_operation
applies_section Forward = f_operation
applies_section Backward = f_operation

applies_op : {L : Linkage} {n : ℕ} (o : Op) → arity o ≡ n → IsAppliedBy L (Operating o) n (I.Op o)
applies_op {L} o e = subst (λ n. IsAppliedBy L (Operating o) n (I.Op o)) e f_operation

elements_creations : (place : Place) (es : Trees) → elements_of (creations place es) ≡ creations place es
elements_creations place NoTrees = refl
elements_creations place (More e es) = refl

count_creations : (place : Place) (es : Trees) → tree_count (elements_of (creations place es)) ≡ tree_count es
count_creations place es = ap tree_count (elements_creations place es) ∙ same place es
  where
    same : (place : Place) (es : Trees) → tree_count (creations place es) ≡ tree_count es
    same place NoTrees = refl
    same place (More e es) = ap suc (same place es)

-- the marks that are dropped out of the innermost loop, by `break` and by `next`
abbrev opened_in : List Depth → ℕ
opened_in [] = 0
opened_in (d ∷ D) = d.opened

abbrev dropped_in : List Depth → ℕ
dropped_in [] = 0
dropped_in (d ∷ D) = d.opened - d.staying

pub same_empty : (d : Tree) → X.is_empty d ≡ is_empty d
same_empty T.Empty = refl
same_empty d = refl

module _ (L : Linkage) (N : SymbolTable) (j : ℕ) where
  abbrev Good : Nest → Tree → ℕ → Type 0
  Good n e p = CodePart L j p (size (depths n) e) (code N (depths n) (ways_of n) p e)
      (Stands L j n e p (p + size (depths n) e))

  ends : {n : Nest} {e : Tree} {p p' q q' : ℕ} → p ≡ p' → q ≡ q' → Stands L j n e p q → Stands L j n e p' q'
  ends {n} {e} {p} {p'} {q} {q'} a b h =
      subst (λ p. Stands L j n e p q') a (subst (λ q. Stands L j n e p q) b h)

  ends_all : {n : Nest} {es : Trees} {p p' q q' : ℕ} → p ≡ p' → q ≡ q' → StandsAll L j n es p q
      → StandsAll L j n es p' q'
  ends_all {n} {es} {p} {p'} {q} {q'} a b h =
      subst (λ p. StandsAll L j n es p q') a (subst (λ q. StandsAll L j n es p q) b h)

  ends_maybe : {n : Nest} {b : MaybeTree} {p p' q q' : ℕ} → p ≡ p' → q ≡ q' → StandsMaybe L j n b p q
      → StandsMaybe L j n b p' q'
  ends_maybe {n} {b} {p} {p'} {q} {q'} a e h =
      subst (λ p. StandsMaybe L j n b p q') a (subst (λ q. StandsMaybe L j n b p q) e h)

  here_at : {p p' : ℕ} {i : Instr} → p ≡ p' → Here L j p i → Here L j p' i
  here_at {i = i} e h = subst (λ p. Here L j p i) e h

  opens_at : {l l' : ℕ} (p : ℕ) → l ≡ l' → Here L j p (I.Mark l) → L.repeats j p ≡ false
      → Opens L j p (Some l')
  opens_at {l' = l'} p e h f = o_mark (subst (λ l. Here L j p (I.Mark l)) e h) f

  here_op : {o o' : Op} (p : ℕ) → o ≡ o' → Here L j p (I.Op o) → Here L j p (I.Op o')
  here_op p e h = subst (λ o. Here L j p (I.Op o)) e h

  here_list : {k k' : ℕ} (p : ℕ) → k ≡ k' → Here L j p (I.Llist k) → Here L j p (I.Llist k')
  here_list p e h = subst (λ k. Here L j p (I.Llist k)) e h

  here_invoke : {k k' : ℕ} (p : ℕ) → k ≡ k' → Here L j p (I.Invoke k) → Here L j p (I.Invoke k')
  here_invoke p e h = subst (λ k. Here L j p (I.Invoke k)) e h

  here_create : {k k' : ℕ} (p : ℕ) → k ≡ k' → Here L j p (I.Create k) → Here L j p (I.Create k')
  here_create p e h = subst (λ k. Here L j p (I.Create k)) e h

  goto_at : {l l' : ℕ} (p : ℕ) → l ≡ l' → Here L j p (I.Goto l) → Here L j p (I.Goto l')
  goto_at p e h = subst (λ l. Here L j p (I.Goto l)) e h

  pub maybe_by : {n : Nest} {b : Tree} (p : ℕ) → Good (in_mark n) b (p + 1)
      → CodePart L j p (body_size (depths (in_mark n)) (Present b))
      (body_code N (depths (in_mark n)) (ways_of n) p (Present b))
      (StandsMaybe L j n (Present b) p (p + body_size (depths (in_mark n)) (Present b)))
  maybe_by {n} {b} p g = part_map L j
      (part_cons L j (I.Mark (p + size (depths (in_mark n)) b + 2)) (λ i. refl) (omega arith)
      (part_append L j refl g (part_cons L j I.Unmark (λ i. refl) refl (part_nil L j _)))) (omega arith)
      (λ x. ends_maybe refl (omega arith)
      (s_present (opens_at p (omega arith) x.0 x.1) (ends (omega arith) refl x.2.0) x.2.1.0))

  -- the codes of forms that an operator chooses
  prefix_by : {n : Nest} {place : Place} {o : Operator} {e : Tree} (p : ℕ) (op : Op)
      → X.prefix_of o ≡ Some (X.Operating op)
      → CodePart L j p (size (depths n) e + 1) (code N (depths n) (ways_of n) p e ++ I.Op op ∷ [])
      (Stands L j n (T.Prefix place o e) p (p + (size (depths n) e + 1))) → Good n (T.Prefix place o e) p
  prefix_by {n} {place} {o} {e} p op eq g = let D = depths n in let W = ways_of n in
      let Q : Option X.PrefixForm → Type 0 = λ form.
      CodePart L j p (X.prefix_size form (size D e) (size (deeper D) e))
      (X.prefix_code form (λ p. code N D W p e) (λ p. code N (deeper D) W p e) p)
      (Stands L j n (T.Prefix place o e) p (p + X.prefix_size form (size D e) (size (deeper D) e))) in
      subst Q (sym eq) g

  infix_by : {n : Nest} {place : Place} {o : Operator} {a b : Tree} (p : ℕ) (i : Instr)
      → X.form_of o ≡ Some (X.Applying i) → CodePart L j p (size (depths n) a + size (depths n) b + 1)
      (code N (depths n) (ways_of n) p a
      ++ (code N (depths n) (ways_of n) (p + size (depths n) a) b ++ i ∷ []))
      (Stands L j n (T.Binary place (Infixes.Plain o) a b) p
      (p + (size (depths n) a + size (depths n) b + 1))) → Good n (T.Binary place (Infixes.Plain o) a b) p
  infix_by {n} {place} {o} {a} {b} p i eq g = let D = depths n in let W = ways_of n in
      let Q : Option X.BinaryForm → Type 0 = λ form.
      CodePart L j p (X.plain_size form (size D a) (size (deeper D) a) (size D b))
      (X.plain_code form (size D a) (size (deeper D) a) (size D b) (λ p. code N D W p a)
      (λ p. code N (deeper D) W p a) (λ p. code N D W p b) p)
      (Stands L j n (T.Binary place (Infixes.Plain o) a b) p
      (p + X.plain_size form (size D a) (size (deeper D) a) (size D b))) in
      subst Q (sym eq) g

  update_by : {n : Nest} {place : Place} {o : Operator} {a b : Tree} (p : ℕ) (i : Instr)
      → X.update_of o ≡ Some (X.UpdatesBy i) → CodePart L j p (size (depths n) a + size (depths n) b + 3)
      (code N (depths n) (ways_of n) p a
      ++ (I.Dup ∷ code N (depths n) (ways_of n) (p + size (depths n) a + 1) b
      ++ (i ∷ I.Op Ops.Assign ∷ [])))
      (Stands L j n (T.Binary place (Infixes.Augmented o) a b) p
      (p + (size (depths n) a + size (depths n) b + 3))) → Good n (T.Binary place (Infixes.Augmented o) a b) p
  update_by {n} {place} {o} {a} {b} p i eq g = let D = depths n in let W = ways_of n in
      let Q : Option X.UpdateForm → Type 0 = λ form.
      CodePart L j p (X.augmented_size form (size D a) (size D b))
      (X.augmented_code form (size D a) (λ p. code N D W p a) (λ p. code N D W p b) p)
      (Stands L j n (T.Binary place (Infixes.Augmented o) a b) p
      (p + X.augmented_size form (size D a) (size D b))) in
      subst Q (sym eq) g

  stands_keyword : {n : Nest} {place : Place} {name : Name} {p : ℕ} (word : Keyword)
      → keyword_among name.text keywords ≡ Some word → Here L j p (X.keyword_instr word)
      → Stands L j n (T.Keyword place name) p (suc p)
  stands_keyword Keywords.Fail e h = s_fail_keyword e h
  stands_keyword word e h = s_keyword e h

  keyword_by : {n : Nest} {place : Place} {name : Name} (p : ℕ) (word : Keyword)
      → keyword_among name.text keywords ≡ Some word → Good n (T.Keyword place name) p
  keyword_by {n} {place} {name} p word e =
      let Q : Option Keyword → Type 0 = λ found.
      CodePart L j p (X.keyword_size found) (X.keyword_code found)
      (Stands L j n (T.Keyword place name) p (p + X.keyword_size found)) in
      let g : CodePart L j p 1 (X.keyword_instr word ∷ []) (Stands L j n (T.Keyword place name) p (p + 1)) =
      part_map L j (part_cons L j (X.keyword_instr word) (keyword_plain word) refl (part_nil L j _)) refl
      (λ x. ends refl (omega arith) (stands_keyword word e x.0)) in
      subst Q (sym e) g

  bounded_by : {n : Nest} {place : Place} {d e : Tree} {es : Trees} (p : ℕ) → is_empty d ≡ false
      → Good (in_mark n) d (p + 1) → Good n (T.Compound place (More e es))
      (p + size (depths (in_mark n)) d + 2) → Good n (T.Compound place (More d (More e es))) p
  bounded_by {n} {place} {d} {e} {es} p ne gd ge = let D = depths n in let W = ways_of n in
      let Q : Bool → Type 0 = λ b. CodePart L j p
      ((if b then 0 else size (deeper D) d + 2) + X.compound_size D (More e es))
      (if b then X.compound N D W p (More e es) else (I.Mark (p + size (deeper D) d + 2)
      ∷ code N (deeper D) W (p + 1) d ++ I.Unmark
      ∷ X.compound N D W (p + size (deeper D) d + 2) (More e es)))
      (Stands L j n (T.Compound place (More d (More e es))) p
      (p + ((if b then 0 else size (deeper D) d + 2) + X.compound_size D (More e es)))) in
      let g : Q false = part_map L j (part_cons L j (I.Mark (p + size (deeper D) d + 2)) (λ i. refl)
      (omega arith) (part_append L j refl gd (part_cons L j I.Unmark (λ i. refl) (omega arith) ge)))
      (omega arith)
      (λ x. ends refl (omega arith) (s_bounded ne (opens_at p (omega arith) x.0 x.1)
      (ends (omega arith) refl x.2.0) x.2.1.0 (ends (omega arith) refl x.2.1.2))) in
      subst Q (sym (same_empty d ∙ ne)) g

  by_part : {n : Nest} (place : Place) (p : ℕ) (by : MaybeTree) → Good n (step_of place by) p
      → CodePart L j p (X.by_size (depths n) by) (X.by_code N (depths n) (ways_of n) p by)
      (Stands L j n (step_of place by) p (p + X.by_size (depths n) by))
  by_part place p Absent g = g
  by_part place p (Present e) g = g

  elements : {n : Nest} (p : ℕ) (es : Trees)
      → CodePart L j p (sizes (depths n) (elements_of es))
      (operands N (depths n) (ways_of n) p (elements_of es))
      (StandsAll L j n (elements_of es) p (p + sizes (depths n) (elements_of es)))
      → CodePart L j p (elements_size (depths n) es) (elements_code N (depths n) (ways_of n) p es)
      (StandsAll L j n (elements_of es) p (p + elements_size (depths n) es))
  elements p NoTrees g = g
  elements p (More T.Empty NoTrees) g = g
  elements p (More e es) g = g

  -- `next` and `break`

  stays_of : {n : Nest} → HasNext n → (d : Depth) × (D : List Depth) × (depths n ≡ d ∷ D)
      × (d.staying ≤ d.opened) × (d.passes ≡ true)
  stays_of (x_mark h) = let a = stays_of h in
      (X.depth_of (suc a.0.opened) a.0.staying a.0.passes, a.1, ap deeper a.2, omega arith, a.4)
  stays_of (x_scan h) = stays_of h
  stays_of x_loop = (X.loop_of 0 0, _, refl, omega arith, refl)
  stays_of x_each = (X.loop_of 1 1, _, refl, omega arith, refl)

  dropped_mark : {n : Nest} → HasNext n → dropped_in (deeper (depths n)) ≡ suc (dropped_in (depths n))
  dropped_mark h = let a = stays_of h in
      let e : suc a.0.opened - a.0.staying ≡ suc (a.0.opened - a.0.staying) = omega arith in
      ap (λ D. dropped_in (deeper D)) a.2 ∙ e ∙ sym (ap (λ D. suc (dropped_in D)) a.2)

  ends_next : {n : Nest} {p q q' g : ℕ} → q ≡ q' → Nexts L j n p q g → Nexts L j n p q' g
  ends_next {n} {p} {q} {q'} {g} e h = subst (λ q. Nexts L j n p q g) e h

  nexts : {n : Nest} (p k : ℕ) → HasNext n → k ≡ dropped_in (depths n)
      → CodePart L j p k (replicate k I.Unmark) (Nexts L j n p (p + k) (X.next_way (ways_of n)))
  nexts p zero (x_mark h) e = let f = dropped_mark h in absurd (omega arith)
  nexts p (suc k) (x_mark h) e = part_map L j
      (part_cons L j I.Unmark (λ i. refl) refl (nexts (suc p) k h (let f = dropped_mark h in omega arith)))
      refl (λ x. ends_next (omega arith) (n_mark x.0 x.2))
  nexts p k (x_scan h) e = part_map L j (nexts p k h e) refl (λ x. n_scan x)
  nexts p zero x_loop e = part_map L j (part_nil L j p) refl (λ x. ends_next (omega arith) n_loop)
  nexts p (suc k) x_loop e = absurd (omega arith)
  nexts p zero x_each e = part_map L j (part_nil L j p) refl (λ x. ends_next (omega arith) n_each)
  nexts p (suc k) x_each e = absurd (omega arith)

  next_by : {n : Nest} {place : Place} (p : ℕ) → HasNext n → Good n (T.Next place) p
  next_by {n} {place} p h = let a = stays_of h in
      let Q : List Depth → Type 0 = λ D. CodePart L j p (X.next_size D) (X.next_code D (X.next_way (ways_of n)))
      (Stands L j n (T.Next place) p (p + X.next_size D)) in
      let k = X.dropped_by_next a.0 in
      let R : Bool → Type 0 = λ passes. CodePart L j p (if passes then k + 1 else 0)
      (if passes then replicate k I.Unmark ++ I.Goto (X.next_way (ways_of n)) ∷ [] else [])
      (Stands L j n (T.Next place) p (p + (if passes then k + 1 else 0))) in
      let b : R true = part_map L j
      (part_append L j refl (nexts p k h (sym (ap dropped_in a.2)))
      (part_cons L j (I.Goto (X.next_way (ways_of n))) (λ i. refl) refl (part_nil L j _))) (omega arith)
      (λ x. ends refl (omega arith) (s_next x.0 x.1.0)) in
      let here : Q (a.0 ∷ a.1) = subst R (sym a.4) b in
      subst Q (sym a.2) here

  opened_of : {n : Nest} → HasLoop n → (d : Depth) × (D : List Depth) × (depths n ≡ d ∷ D)
  opened_of (h_mark h) = let a = opened_of h in
      (X.depth_of (suc a.0.opened) a.0.staying a.0.passes, a.1, ap deeper a.2)
  opened_of (h_scan h) = opened_of h
  opened_of h_loop = (X.loop_of 0 0, _, refl)
  opened_of h_control = (X.control_of 0, _, refl)
  opened_of h_each = (X.loop_of 1 1, _, refl)

  opened_mark : {n : Nest} → HasLoop n → opened_in (deeper (depths n)) ≡ suc (opened_in (depths n))
  opened_mark h = let a = opened_of h in ap (λ D. opened_in (deeper D)) a.2
      ∙ sym (ap (λ D. suc (opened_in D)) a.2)

  ends_break : {n n' : Nest} {p q q' l : ℕ} → q ≡ q' → LeavesLoop L j n p q n' l → LeavesLoop L j n p q' n' l
  ends_break {n} {n'} {p} {q} {q'} {l} e h = subst (λ q. LeavesLoop L j n p q n' l) e h

  breaks : {n : Nest} (p k : ℕ) → HasLoop n → k ≡ opened_in (depths n)
      → CodePart L j p k (replicate k I.Unmark) (LeavesLoop L j n p (p + k) (outside n) (X.last_way (ways_of n)))
  breaks p zero (h_mark h) e = let f = opened_mark h in absurd (omega arith)
  breaks p (suc k) (h_mark h) e =
      part_map L j (part_cons L j I.Unmark (λ i. refl) refl
      (breaks (suc p) k h (let f = opened_mark h in omega arith))) refl
      (λ x. ends_break (omega arith) (b_mark x.0 x.2))
  breaks p k (h_scan h) e = part_map L j (breaks p k h e) refl (λ x. b_scan x)
  breaks p zero h_loop e = part_map L j (part_nil L j p) refl (λ x. ends_break (omega arith) b_loop)
  breaks p (suc k) h_loop e = absurd (omega arith)
  breaks p zero h_control e = part_map L j (part_nil L j p) refl (λ x. ends_break (omega arith) b_control)
  breaks p (suc k) h_control e = absurd (omega arith)
  breaks p zero h_each e = absurd (omega arith)
  breaks p (suc zero) h_each e = part_map L j
      (part_cons L j I.Unmark (λ i. refl) refl (part_nil L j (suc p))) refl
      (λ x. ends_break (omega arith) (b_each x.0))
  breaks p (suc (suc k)) h_each e = absurd (omega arith)

  around_deeper : (D : List Depth) → X.around (deeper D) ≡ X.around D
  around_deeper [] = refl
  around_deeper (d ∷ D) = refl

  around_depths : (n : Nest) → X.around (depths n) ≡ depths (outside n)
  around_depths top = refl
  around_depths in_create = refl
  around_depths (in_mark n) = around_deeper (depths n) ∙ around_depths n
  around_depths (in_scan n) = around_depths n
  around_depths (in_loop l g n) = refl
  around_depths (in_control l g n) = refl
  around_depths (in_each l g n) = refl

  around_ways : (n : Nest) → X.around (ways_of n) ≡ ways_of (outside n)
  around_ways top = refl
  around_ways in_create = refl
  around_ways (in_mark n) = around_ways n
  around_ways (in_scan n) = around_ways n
  around_ways (in_loop l g n) = refl
  around_ways (in_control l g n) = refl
  around_ways (in_each l g n) = refl

  break_by : {n : Nest} {place : Place} {e : Tree} (p : ℕ) → HasLoop n → ((p : ℕ) → Good (outside n) e p)
      → Good n (T.Break place e) p
  break_by {n} {place} {e} p h g = let a = opened_of h in let k = a.0.opened in
      let Q : List Depth → List Depth → List LoopExits → Type 0 = λ E D W. CodePart L j p (X.break_size E (size D e))
      (X.break_code E (X.last_way (ways_of n)) (λ p. code N D W p e) p)
      (Stands L j n (T.Break place e) p (p + X.break_size E (size D e))) in
      let b : Q (a.0 ∷ a.1) (depths (outside n)) (ways_of (outside n)) =
      part_map L j (part_append L j refl (breaks p k h (sym (ap opened_in a.2)))
      (part_append L j refl (g (p + k)) (part_cons L j (I.Goto (X.last_way (ways_of n))) (λ i. refl) refl
      (part_nil L j _)))) (omega arith)
      (λ x. ends refl (omega arith) (s_break x.0 x.1.0 x.1.1.0)) in
      subst (λ E. Q E (X.around (depths n)) (X.around (ways_of n))) (sym a.2)
      (subst (λ D. Q (a.0 ∷ a.1) D (X.around (ways_of n))) (sym (around_depths n))
      (subst (λ W. Q (a.0 ∷ a.1) (depths (outside n)) W) (sym (around_ways n)) b))

  -- `case`

  ends_cases : {n : Nest} {cases : Clauses} {d : MaybeTree} {p p' l l' : ℕ} → p ≡ p' → l ≡ l'
      → StandsCases L j n cases d p l → StandsCases L j n cases d p' l'
  ends_cases {n} {cases} {d} {p} {p'} {l} {l'} a b h =
      subst (λ p. StandsCases L j n cases d p l') a (subst (λ l. StandsCases L j n cases d p l) b h)

  abbrev MaybeGood : Nest → MaybeTree → ℕ → Type 0
  MaybeGood n Absent p = Unit {0}
  MaybeGood n (Present e) p = Good n e p

  default_by : {n : Nest} (cases : Clauses) (p : ℕ) → MaybeGood n (default_of cases) p
      → CodePart L j p (X.default_size (depths n) cases) (X.default_code N (depths n) (ways_of n) p cases)
      ((q l : ℕ) → p ≡ suc q → l ≡ p + X.default_size (depths n) cases → Here L j q I.Pop
      → StandsCases L j n NoClauses (default_of cases) q l)
  default_by NoClauses p g = part_map L j (part_cons L j I.Efail (λ i. refl) refl (part_nil L j _)) refl
      (λ x q l e el h. s_none h (here_at e x.0))
  default_by (MoreClauses (Default place e) cases) p g =
      part_map L j g refl (λ x q l e el h. s_default h (ends e (sym el) x))
  default_by (MoreClauses (Guarded place c b) cases) p g = default_by cases p g

  clause_by : {n : Nest} {place : Place} {c b : Tree} {cases : Clauses} {d : MaybeTree} (p last : ℕ)
      → Good (in_mark n) c (p + 2) → Good n b (p + size (depths (in_mark n)) c + 5)
      → CodePart L j p (X.clause_size (depths n) (Guarded place c b))
      (X.clause_code N (depths n) (ways_of n) p last (Guarded place c b))
      (StandsCases L j n cases d (p + X.clause_size (depths n) (Guarded place c b)) last
      → StandsCases L j n (MoreClauses (Guarded place c b) cases) d p last)
  clause_by {n} {place} {c} {b} p last gc gb = let m = size (depths (in_mark n)) c in
      part_map L j (part_cons L j (I.Mark (p + m + size (depths n) b + 6)) (λ i. refl) refl
      (part_cons L j I.Ccase (λ i. refl) (omega arith)
      (part_append L j refl gc (part_cons L j (I.Op Ops.Equivalent) (λ i. refl) refl
      (part_cons L j I.Unmark (λ i. refl) refl
      (part_cons L j I.Pop (λ i. refl) (omega arith)
      (part_append L j refl gb (part_cons L j (I.Goto last) (λ i. refl) refl (part_nil L j _)))))))))
      (omega arith)
      (λ x rest. s_guard (opens_at p (omega arith) x.0 x.1) x.2.0 (ends (omega arith) refl x.2.2.0)
      x.2.2.1.0 x.2.2.1.2.0 x.2.2.1.2.2.0 (ends (omega arith) refl x.2.2.1.2.2.2.0) x.2.2.1.2.2.2.1.0
      rest)

  -- subscripts

  data Subbed (place : Place) (n : Nest) (x : Tree) (p q : ℕ) : Trees → ℕ → Type 0 where
    no_subscript : {l : ℕ} → q ≡ l → Subbed place n x p q NoTrees l
    subscripted : {t : Tree} {is es : Trees} {form : Application} {i : Instr} {q' l : ℕ}
        → IsApplied (T.Subscript place x (More t is)) form es → StandsAll L j n es p q' → Here L j q' i
        → IsAppliedBy L form (tree_count es) i → suc q' ≡ l → Subbed place n x p q (More t is) l

  join : {place : Place} {n : Nest} {x t : Tree} {is : Trees} {p q q' q0 l : ℕ}
      → Subbed place n (T.Subscript place x (More t NoTrees)) p q' is l
      → StandsAll L j n (More x (More t NoTrees)) p q0 → Here L j q0 (I.Op Ops.Subscript) → suc q0 ≡ q'
      → Subbed place n x p q (More t is) l
  join (no_subscript e) all h e0 = subscripted i_subscript all h f_operation (e0 ∙ e)
  join (subscripted a all' h' f e) all h e0 = subscripted (i_subscripts a) all' h' f e

  subbed : {place : Place} {n : Nest} {x t : Tree} {is : Trees} {p q l : ℕ}
      → Subbed place n x p q (More t is) l → Stands L j n (T.Subscript place x (More t is)) p l
  subbed (subscripted a all h f e) = ends refl e (s_applied a all h f)

  -- `create` and `p{ }`

  create_by : {n : Nest} {place : Place} {e : Tree} (p : ℕ) → Good (in_mark in_create) e (p + 2)
      → CodePart L j p (size [] e + 5) (X.create_code p (size [] e) (code N [] [] (p + 2) e))
      (Stands L j n (T.Create place e) p (p + (size [] e + 5)))
  create_by {n} {place} {e} p g = let m = size [] e in
      part_map L j (part_cons L j (I.Create (p + m + 5)) (λ i. refl) refl
      (part_cons L j (I.Mark (p + m + 4)) (λ i. refl) (omega arith)
      (part_append L j refl g (part_cons L j I.Coret (λ i. refl) refl
      (part_cons L j I.Efail (λ i. refl) refl
      (part_cons L j I.Cofail (λ i. refl) refl (part_nil L j _))))))) (omega arith)
      (λ x. ends refl (omega arith) (s_create (here_create p (omega arith) x.0)
      (s_body (opens_at (suc p) (omega arith) x.2.0 x.2.1) (ends (omega arith) refl x.2.2.0) x.2.2.1.0
      x.2.2.1.2.0 x.2.2.1.2.2.0)))

  listed : {n : Nest} {p q : ℕ} (place : Place) (es : Trees) → StandsAll L j n (creations place es) p q
      → StandsAll L j n (elements_of (creations place es)) p q
  listed {n} {p} {q} place es h = subst (λ ts. StandsAll L j n ts p q) (sym (elements_creations place es)) h

  bodies_by : {n : Nest} (place : Place) (p : ℕ) (es : Trees)
      → CodePart L j p (X.creates_size (depths n) (elements_of es)) (X.creates N p (elements_of es))
      (StandsAll L j n (creations place (elements_of es)) p
      (p + X.creates_size (depths n) (elements_of es)))
      → CodePart L j p (X.bodies_size (depths n) es) (X.bodies_code N p es)
      (StandsAll L j n (creations place (elements_of es)) p (p + X.bodies_size (depths n) es))
  bodies_by place p NoTrees g = g
  bodies_by place p (More T.Empty NoTrees) g = g
  bodies_by place p (More e es) g = g

  mutual
    pub translation_stands : {n : Nest} {e : Tree} (p : ℕ) → Fits L N j n e → Good n e p
    translation_stands p fits_empty = part_map L j (part_cons L j I.Pnull (λ i. refl) refl (part_nil L j (suc p))) refl
        (λ x. ends refl (omega arith) (s_empty x.0))
    translation_stands p (fits_constant {v = v} l) =
        part_map L j (part_cons L j (literal_code N v) (loads_plain l) refl (part_nil L j (suc p))) refl
        (λ x. ends refl (omega arith) (s_constant x.0 l))
    translation_stands p (fits_identifier {name = name} l) =
        part_map L j (part_cons L j (N.variable name.text) (loads_plain l) refl (part_nil L j (suc p))) refl
        (λ x. ends refl (omega arith) (s_identifier x.0 l))
    translation_stands p (fits_last {n = n} {e = te} a) = part_map L j (translation_stands p a) refl (λ x. s_last x)
    translation_stands p (fits_before {n = n} {d = td} d e) =
        part_map L j (part_append L j refl (translation_stands p d)
        (part_cons L j I.Pop (λ i. refl) (omega arith) (translation_stands (p + size (depths n) td + 1) e))) (omega arith)
        (λ x. ends refl (omega arith) (s_before x.0 x.1.0 (ends (omega arith) refl x.1.2)))
    translation_stands p (fits_final a) = part_map L j (translation_stands p a) refl (λ x. s_final x)
    translation_stands p (fits_passed a) = part_map L j (translation_stands p a) (omega arith) (λ x. ends refl (omega arith) (s_passed x))
    translation_stands p (fits_listing {n = n} {es = es} a) =
        part_map L j (part_append L j refl (elements p es (all p a))
        (part_cons L j (I.Llist (X.elements es)) (λ i. refl) refl (part_nil L j _))) (omega arith)
        (λ x. ends refl (omega arith) (s_applied i_listing x.0 (here_list _ (element_count es) x.1.0) f_list))
    translation_stands p (fits_call {n = n} {f = tf} {es = es} f a) =
        part_map L j (part_append L j refl (translation_stands p f)
        (part_append L j refl (elements (p + size (depths n) tf) es (all (p + size (depths n) tf) a))
        (part_cons L j (I.Invoke (X.elements es)) (λ i. refl) refl (part_nil L j _)))) (omega arith)
        (λ x. ends refl (omega arith) (s_applied i_call (s_cons x.0 x.1.0)
        (here_invoke _ (element_count es) x.1.1.0) f_call))
    translation_stands p (fits_field {n = n} {x = tx} {name = name} a f) =
        part_map L j (part_append L j refl (translation_stands p a)
        (part_cons L j (I.Field (N.field name.text)) (λ i. refl) refl (part_nil L j _))) (omega arith)
        (λ x. ends refl (omega arith) (s_applied i_field (s_cons x.0 s_nil) x.1.0 (f_field f)))
    translation_stands p (fits_repeated {n = n} {e = te} e) =
        part_map L j (part_repeat L j (omega arith) (translation_stands (p + 1) e)) refl
        (λ x. ends refl (omega arith) (s_repeated x.0 x.1 (ends (omega arith) (omega arith) x.2) x.3 x.4))
    translation_stands p (fits_to {n = n} {place = place} {a = ta} {b = tb} {by = by} a b c) =
        part_map L j (part_append L j refl (translation_stands p a)
        (part_append L j refl (translation_stands (p + size (depths n) ta) b)
        (part_append L j refl (by_part place (p + size (depths n) ta + size (depths n) tb) by
        (translation_stands (p + size (depths n) ta + size (depths n) tb) c))
        (part_cons L j (I.Op Ops.ToBy) (λ i. refl) refl (part_nil L j _))))) (omega arith)
        (λ x. ends refl (omega arith) (s_applied i_to (s_cons x.0 (s_cons x.1.0 (s_cons x.1.1.0 s_nil)))
        x.1.1.1.0 f_operation))
    translation_stands p (fits_while {n = n} {c = tc} {b = mb} c b) = let D = depths (in_mark (in_loop 0 0 n)) in let m =
        size D tc in let k = body_size D mb in let last = p + m + k + 3 in let next = p + m + k + 2 in
        part_map L j (part_cons L j I.Mark0 (λ i. refl) (omega arith)
        (part_append L j refl (translation_stands (p + 1) (c last next))
        (part_cons L j I.Unmark (λ i. refl) (omega arith)
        (part_append L j refl (maybe {n = in_loop last next n} (p + m + 2) (b last next))
        (part_cons L j (I.Loop p) (λ i. refl) refl (part_nil L j _)))))) (omega arith)
        (λ x. ends refl (omega arith) (s_while {l = next} {last = last} (o_mark0 x.0 x.1)
        (ends (omega arith) refl x.2.0) x.2.1.0 (ends_maybe (omega arith) (omega arith) x.2.1.2.0)
        (here_at (omega arith) x.2.1.2.1.0)))
    translation_stands p (fits_until {n = n} {c = tc} {b = mb} c b) = let D = depths (in_mark (in_loop 0 0 n)) in let m =
        size D tc in let k = body_size D mb in let last = p + m + k + 4 in let next = p + m + k + 3 in
        part_map L j (part_cons L j (I.Mark (p + m + 3)) (λ i. refl) (omega arith)
        (part_append L j refl (translation_stands (p + 1) (c last next))
        (part_cons L j I.Unmark (λ i. refl) refl
        (part_cons L j I.Efail (λ i. refl) (omega arith)
        (part_append L j refl (maybe {n = in_loop last next n} (p + m + 3) (b last next))
        (part_cons L j (I.Loop p) (λ i. refl) refl (part_nil L j _))))))) (omega arith)
        (λ x. ends refl (omega arith) (s_until {l = next} {last = last} (opens_at p (omega arith) x.0 x.1)
        (ends (omega arith) refl x.2.0) x.2.1.0 x.2.1.2.0
        (ends_maybe (omega arith) (omega arith) x.2.1.2.2.0) (here_at (omega arith) x.2.1.2.2.1.0)))
    translation_stands p (fits_every {n = n} {c = tc} {b = mb} c b) = let m =
        size (depths (in_mark (in_control 0 0 n))) tc in let k =
        body_size (depths (in_mark (in_each 0 0 n))) mb in let last = p + m + k + 3 in let next =
        p + m + k + 2 in
        part_map L j (part_cons L j I.Mark0 (λ i. refl) (omega arith)
        (part_append L j refl (translation_stands (p + 1) (c last next))
        (part_cons L j I.Pop (λ i. refl) (omega arith)
        (part_append L j refl (maybe {n = in_each last next n} (p + m + 2) (b last next))
        (part_cons L j I.Efail (λ i. refl) refl (part_nil L j _)))))) (omega arith)
        (λ x. ends refl (omega arith) (s_every {l = next} {last = last} (o_mark0 x.0 x.1)
        (ends (omega arith) refl x.2.0) x.2.1.0 (ends_maybe (omega arith) (omega arith) x.2.1.2.0)
        (here_at (omega arith) x.2.1.2.1.0)))
    translation_stands p (fits_repeat {n = n} {b = tb} b) = let m = size (depths (in_mark (in_loop 0 0 n))) tb in
        let last = p + m + 3 in let next = p + m + 2 in
        part_map L j (part_cons L j (I.Mark (p + m + 2)) (λ i. refl) (omega arith)
        (part_append L j refl (translation_stands (p + 1) (b last next))
        (part_cons L j I.Unmark (λ i. refl) refl
        (part_cons L j (I.Loop p) (λ i. refl) refl (part_nil L j _))))) (omega arith)
        (λ x. ends refl (omega arith) (s_repeat {l = next} {last = last}
        (ends_maybe refl (omega arith) (s_present (opens_at p (omega arith) x.0 x.1)
        (ends (omega arith) refl x.2.0) x.2.1.0)) (here_at (omega arith) x.2.1.2.0)))
    translation_stands p (fits_suspend {n = n} {e = te} {b = mb} w e b) = let m = size (depths (in_mark n)) te in
        part_map L j (part_cons L j I.Mark0 (λ i. refl) (omega arith)
        (part_append L j refl (translation_stands (p + 1) e)
        (part_cons L j I.Psusp (λ i. refl) refl
        (part_cons L j I.Pop (λ i. refl) (omega arith)
        (part_append L j refl (maybe {n = in_mark n} (p + m + 3) b)
        (part_cons L j I.Efail (λ i. refl) refl (part_nil L j _))))))) (omega arith)
        (λ x. ends refl (omega arith) (s_suspend w (o_mark0 x.0 x.1) (ends (omega arith) refl x.2.0) x.2.1.0
        x.2.1.2.0 (ends_maybe (omega arith) refl x.2.1.2.2.0) x.2.1.2.2.1.0))
    translation_stands p (fits_create {n = n} {e = te} e) = create_by p (translation_stands (p + 2) e)
    translation_stands p (fits_both {n = n} {a = ta} {b = tb} a b) =
        part_map L j (part_append L j refl (translation_stands p a)
        (part_cons L j I.Pop (λ i. refl) (omega arith) (translation_stands (p + size (depths n) ta + 1) b))) (omega arith)
        (λ x. ends refl (omega arith) (s_both x.0 x.1.0 (ends (omega arith) refl x.1.2)))
    translation_stands p (fits_not {n = n} {e = te} e) =
        part_map L j (part_cons L j (I.Mark (p + size (depths (in_mark n)) te + 3)) (λ i. refl)
        (omega arith) (part_append L j refl (translation_stands (p + 1) e)
        (part_cons L j I.Unmark (λ i. refl) refl
        (part_cons L j I.Efail (λ i. refl) refl
        (part_cons L j I.Pnull (λ i. refl) refl (part_nil L j _)))))) (omega arith)
        (λ x. ends refl (omega arith) (s_not (opens_at p (omega arith) x.0 x.1)
        (ends (omega arith) refl x.2.0) x.2.1.0 x.2.1.2.0 x.2.1.2.2.0))
    translation_stands p (fits_or {n = n} {a = ta} {b = tb} a b) = let m = size (depths (in_mark n)) ta in let k =
        size (depths n) tb in
        part_map L j (part_cons L j (I.Mark (p + m + 3)) (λ i. refl) (omega arith)
        (part_append L j refl (translation_stands (p + 1) a)
        (part_cons L j I.Esusp (λ i. refl) refl
        (part_cons L j (I.Goto (p + m + 3 + k)) (λ i. refl) (omega arith) (translation_stands (p + m + 3) b)))))
        (omega arith)
        (λ x. ends refl (omega arith) (s_or (o_mark x.0 x.1) (ends (omega arith) refl x.2.0) x.2.1.0
        x.2.1.2.0 x.2.1.2.2))
    translation_stands p (fits_scan {n = n} {a = ta} {b = tb} a b) =
        part_map L j (part_append L j refl
        (part_append L j refl (translation_stands p a)
        (part_cons L j I.Bscan (λ i. refl) (omega arith) (translation_stands (p + size (depths n) ta + 1) b)))
        (part_cons L j I.Escan (λ i. refl) refl (part_nil L j _))) (omega arith)
        (λ x. ends refl (omega arith) (s_scan x.0.0 x.0.1.0 (ends (omega arith) (omega arith) x.0.1.2) x.1.0))
    translation_stands p (fits_limit {n = n} {a = ta} {b = tb} a b) =
        part_map L j (part_append L j refl
        (part_append L j refl (translation_stands p b)
        (part_cons L j I.Limit (λ i. refl) (omega arith) (translation_stands (p + size (depths n) tb + 1) a)))
        (part_cons L j I.Lsusp (λ i. refl) refl (part_nil L j _))) (omega arith)
        (λ x. ends refl (omega arith) (s_limit x.0.0 x.0.1.0 (ends (omega arith) (omega arith) x.0.1.2)
        x.1.0))
    translation_stands p (fits_at {n = n} {a = ta} {b = tb} a b) =
        part_map L j (part_append L j refl (translation_stands p a)
        (part_append L j refl (translation_stands (p + size (depths n) ta) b)
        (part_cons L j I.Coact (λ i. refl) refl (part_nil L j _)))) (omega arith)
        (λ x. ends refl (omega arith) (s_applied i_at (s_cons x.0 (s_cons x.1.0 s_nil)) x.1.1.0 f_activate))
    translation_stands p (fits_bang {n = n} {a = ta} {b = tb} a b) =
        part_map L j (part_append L j refl (translation_stands p a)
        (part_append L j refl (translation_stands (p + size (depths n) ta) b)
        (part_cons L j I.Appl (λ i. refl) refl (part_nil L j _)))) (omega arith)
        (λ x. ends refl (omega arith) (s_applied i_bang (s_cons x.0 (s_cons x.1.0 s_nil)) x.1.1.0 f_spread))
    translation_stands p (fits_update_both {n = n} {x = ta} {y = tb} a b) =
        part_map L j (part_append L j refl (translation_stands p a)
        (part_append L j refl (translation_stands (p + size (depths n) ta) b)
        (part_cons L j (I.Op Ops.Assign) (λ i. refl) refl (part_nil L j _)))) (omega arith)
        (λ x. ends refl (omega arith) (s_update_both x.0 x.1.0 x.1.1.0))
    translation_stands p (fits_update_scan {n = n} {x = ta} {y = tb} a b) =
        part_map L j (part_append L j refl (translation_stands p a)
        (part_cons L j I.Dup (λ i. refl) refl
        (part_cons L j I.Bscan (λ i. refl) (omega arith)
        (part_append L j refl (translation_stands (p + size (depths n) ta + 2) b)
        (part_cons L j I.Escan (λ i. refl) refl
        (part_cons L j (I.Op Ops.Assign) (λ i. refl) refl (part_nil L j _))))))) (omega arith)
        (λ x. ends refl (omega arith) (s_update_scan x.0 x.1.0 x.1.2.0 (ends (omega arith) refl x.1.2.2.0)
        x.1.2.2.1.0 x.1.2.2.1.2.0))
    translation_stands p (fits_update_at {n = n} {x = ta} {y = tb} a b) =
        part_map L j (part_append L j refl (translation_stands p a)
        (part_cons L j I.Dup (λ i. refl) (omega arith)
        (part_append L j refl (translation_stands (p + size (depths n) ta + 1) b)
        (part_cons L j I.Coact (λ i. refl) refl
        (part_cons L j (I.Op Ops.Assign) (λ i. refl) refl (part_nil L j _)))))) (omega arith)
        (λ x. ends refl (omega arith) (s_update d_activate x.0 x.1.0 (ends (omega arith) refl x.1.2.0)
        x.1.2.1.0 f_activate x.1.2.1.2.0))
    translation_stands p (fits_section {n = n} {kind = kind} {x = ta} {i = tb} {e = tc} a b c) =
        part_map L j (part_append L j refl (translation_stands p a)
        (part_append L j refl (translation_stands (p + size (depths n) ta) b)
        (part_append L j refl (translation_stands (p + size (depths n) ta + size (depths n) tb) c)
        (part_cons L j (I.Op (X.section_op kind)) (λ i. refl) refl (part_nil L j _))))) (omega arith)
        (λ x. ends refl (omega arith) (s_applied i_section
        (s_cons x.0 (s_cons x.1.0 (s_cons x.1.1.0 s_nil))) (here_op _ (sections kind) x.1.1.1.0)
        (applies_section kind)))
    translation_stands p (fits_activate {n = n} {e = te} e) =
        part_map L j (part_cons L j I.Pnull (λ i. refl) (omega arith)
        (part_append L j refl (translation_stands (p + 1) e) (part_cons L j I.Coact (λ i. refl) refl (part_nil L j _))))
        (omega arith)
        (λ x. ends refl (omega arith) (s_applied i_activate
        (s_cons (s_empty x.0) (s_cons (ends (omega arith) refl x.2.0) s_nil)) x.2.1.0 f_activate))
    translation_stands p (fits_if {n = n} {c = tc} {a = ta} c a) =
        part_map L j (part_cons L j I.Mark0 (λ i. refl) (omega arith)
        (part_append L j refl (translation_stands (p + 1) c)
        (part_cons L j I.Unmark (λ i. refl) (omega arith) (translation_stands (p + size (depths (in_mark n)) tc + 2) a))))
        (omega arith)
        (λ x. ends refl (omega arith) (s_if (o_mark0 x.0 x.1) (ends (omega arith) refl x.2.0) x.2.1.0
        (ends (omega arith) refl x.2.1.2)))
    translation_stands p (fits_if_else {n = n} {c = tc} {a = ta} {b = tb} c a b) = let m =
        size (depths (in_mark n)) tc + size (depths n) ta in
        part_map L j (part_cons L j (I.Mark (p + m + 3)) (λ i. refl) (omega arith)
        (part_append L j refl (translation_stands (p + 1) c)
        (part_cons L j I.Unmark (λ i. refl) (omega arith)
        (part_append L j refl (translation_stands (p + size (depths (in_mark n)) tc + 2) a)
        (part_cons L j (I.Goto (p + m + 3 + size (depths n) tb)) (λ i. refl) (omega arith)
        (translation_stands (p + m + 3) b)))))) (omega arith)
        (λ x. ends refl (omega arith) (s_if_else (o_mark x.0 x.1) (ends (omega arith) refl x.2.0) x.2.1.0
        (ends (omega arith) refl x.2.1.2.0) x.2.1.2.1.0 x.2.1.2.1.2))
    translation_stands p (fits_return {n = n} {e = te} w e) =
        part_map L j (part_cons L j (I.Mark (p + size (depths (in_mark n)) te + 2)) (λ i. refl)
        (omega arith) (part_append L j refl (translation_stands (p + 1) e)
        (part_cons L j I.Pret (λ i. refl) refl (part_cons L j I.Pfail (λ i. refl) refl (part_nil L j _)))))
        (omega arith)
        (λ x. ends refl (omega arith) (s_return w (opens_at p (omega arith) x.0 x.1)
        (ends (omega arith) refl x.2.0) x.2.1.0 x.2.1.2.0))
    translation_stands p (fits_fail w) = part_map L j (part_cons L j I.Pfail (λ i. refl) refl (part_nil L j _)) refl
        (λ x. ends refl (omega arith) (s_fail w x.0))
    translation_stands p (fits_keyword {word = word} e) = keyword_by p word e
    translation_stands p (fits_bounded {n = n} {d = td} ne d e) =
        bounded_by p ne (translation_stands (p + 1) d) (translation_stands (p + size (depths (in_mark n)) td + 2) e)
    translation_stands p (fits_prefix {n = n} {o = o} {op = op} {e = te} h e) =
        prefix_by p op (prefix_is o h) (part_map L j
        (part_append L j refl (translation_stands p e)
        (part_cons L j (I.Op op) (λ i. refl) refl (part_nil L j _))) (omega arith)
        (λ x. ends refl (omega arith) (s_applied (i_prefix h) (s_cons x.0 s_nil) x.1.0
        (applies_op op (prefix_arity o h)))))
    translation_stands p (fits_infix {n = n} {o = o} {op = op} {a = ta} {b = tb} h a b) =
        infix_by p (I.Op op) (infix_is o h)
        (part_map L j (part_append L j refl (translation_stands p a)
        (part_append L j refl (translation_stands (p + size (depths n) ta) b)
        (part_cons L j (I.Op op) (λ i. refl) refl (part_nil L j _)))) (omega arith)
        (λ x. ends refl (omega arith) (s_applied (i_infix h) (s_cons x.0 (s_cons x.1.0 s_nil)) x.1.1.0
        (applies_op op (infix_arity o h)))))
    translation_stands p (fits_update {n = n} {o = o} {op = op} {x = ta} {y = tb} h a b) =
        update_by p (I.Op op) (update_is o h)
        (part_map L j (part_append L j refl (translation_stands p a)
        (part_cons L j I.Dup (λ i. refl) (omega arith)
        (part_append L j refl (translation_stands (p + size (depths n) ta + 1) b)
        (part_cons L j (I.Op op) (λ i. refl) refl
        (part_cons L j (I.Op Ops.Assign) (λ i. refl) refl (part_nil L j _)))))) (omega arith)
        (λ x. ends refl (omega arith) (s_update (d_operate h) x.0 x.1.0 (ends (omega arith) refl x.1.2.0)
        x.1.2.1.0 (applies_op op (update_arity o h)) x.1.2.1.2.0)))
    translation_stands p (fits_next h) = next_by p h
    translation_stands p (fits_break h e) = break_by p h (λ p. translation_stands p e)
    translation_stands p (fits_case {n = n} {e = te} {cases = cases} e cs d) = let m = size (depths (in_mark n)) te in
        let k = X.clauses_size (depths n) cases in let last =
        p + m + k + X.default_size (depths n) cases + 3 in
        part_map L j (part_cons L j I.Mark0 (λ i. refl) (omega arith)
        (part_append L j refl (translation_stands (p + 1) e)
        (part_cons L j I.Eret (λ i. refl) (omega arith)
        (part_append L j refl (clauses (p + m + 2) last (default_of cases) cs)
        (part_cons L j I.Pop (λ i. refl) (omega arith)
        (default_by cases (p + m + 3 + k) (maybe_good (p + m + 3 + k) d))))))) (omega arith)
        (λ x. ends refl (omega arith) (s_case (o_mark0 x.0 x.1) (ends (omega arith) refl x.2.0) x.2.1.0
        (ends_cases (omega arith) refl (x.2.1.2.0
        (ends_cases (omega arith) refl (x.2.1.2.1.2 (p + m + 2 + k) last (omega arith) (omega arith)
        (here_at (omega arith) x.2.1.2.1.0)))))))
    translation_stands p (fits_subscript {n = n} {place = place} {x = tx} x is) =
        part_map L j (part_append L j refl (translation_stands p x) (subs place (p + size (depths n) tx) is)) (omega arith)
        (λ y. ends refl (omega arith) (subbed (y.1 tx p y.0)))
    translation_stands p (fits_cocall {n = n} {place = place} {f = tf} {es = es} f bs) =
        part_map L j (part_append L j refl (translation_stands p f)
        (part_append L j refl (bodies_by {n = n} place (p + size (depths n) tf) es
        (bodies {n = n} place (p + size (depths n) tf) bs))
        (part_cons L j (I.Llist (X.elements es)) (λ i. refl) refl
        (part_cons L j (I.Invoke 1) (λ i. refl) refl (part_nil L j _))))) (omega arith)
        (λ x. ends refl (omega arith) (s_applied i_cocall
        (s_cons x.0 (s_cons (s_applied i_listing (listed place (elements_of es) x.1.0)
        (here_list _ (element_count es ∙ sym (count_creations place (elements_of es))) x.1.1.0) f_list)
        s_nil)) x.1.1.2.0 f_call))

    all : {n : Nest} {es : Trees} (p : ℕ) → FitsAll L N j n es
        → CodePart L j p (sizes (depths n) es) (operands N (depths n) (ways_of n) p es)
        (StandsAll L j n es p (p + sizes (depths n) es))
    all p fits_nil = part_map L j (part_nil L j p) refl (λ x. ends_all refl (omega arith) s_nil)
    all p (fits_cons {n = n} {e = te} {es = tes} e es) =
        part_map L j (part_append L j refl (translation_stands p e) (all (p + size (depths n) te) es)) refl
        (λ x. ends_all refl (omega arith) (s_cons x.0 x.1))

    maybe : {n : Nest} {b : MaybeTree} (p : ℕ) → FitsMaybe L N j (in_mark n) b
        → CodePart L j p (body_size (depths (in_mark n)) b) (body_code N (depths (in_mark n)) (ways_of n) p b)
        (StandsMaybe L j n b p (p + body_size (depths (in_mark n)) b))
    maybe p fits_absent = part_map L j (part_nil L j p) refl (λ x. ends_maybe refl (omega arith) s_absent)
    maybe p (fits_present {b = tb} b) = maybe_by p (translation_stands (p + 1) b)

    subs : {n : Nest} {is : Trees} (place : Place) (q : ℕ) → FitsAll L N j n is
        → CodePart L j q (X.subscripts_size (depths n) is) (X.subscripts N (depths n) (ways_of n) q is)
        ((x : Tree) (p : ℕ) → Stands L j n x p q
        → Subbed place n x p q is (q + X.subscripts_size (depths n) is))
    subs place q fits_nil = part_map L j (part_nil L j q) refl (λ y x p sx. no_subscript (omega arith))
    subs place q (fits_cons {n = n} {e = ti} {es = tis} i is) =
        part_map L j (part_append L j refl (translation_stands q i)
        (part_cons L j (I.Op Ops.Subscript) (λ i. refl) (omega arith)
        (subs place (q + size (depths n) ti + 1) is))) (omega arith)
        (λ y x p sx. subst (λ l. Subbed place n x p q (More ti tis) l) (omega arith)
        (join (y.1.2 (T.Subscript place x (More ti NoTrees)) p
        (ends refl (omega arith) (s_applied i_subscript (s_cons sx (s_cons y.0 s_nil)) y.1.0
        f_operation))) (s_cons sx (s_cons y.0 s_nil)) y.1.0 (omega arith)))

    bodies : {n : Nest} {es : Trees} (place : Place) (p : ℕ) → FitsBodies L N j es
        → CodePart L j p (X.creates_size (depths n) es) (X.creates N p es)
        (StandsAll L j n (creations place es) p (p + X.creates_size (depths n) es))
    bodies place p fits_no_body = part_map L j (part_nil L j p) refl (λ x. ends_all refl (omega arith) s_nil)
    bodies {n = n} place p (fits_body {e = te} e es) =
        part_map L j (part_append L j (omega arith) (create_by {n = n} {place = place} p (translation_stands (p + 2) e))
        (bodies {n = n} place (p + size [] te + 5) es)) (omega arith)
        (λ x. ends_all refl (omega arith) (s_cons (ends refl (omega arith) x.0) x.1))

    maybe_good : {n : Nest} {d : MaybeTree} (p : ℕ) → FitsDefault L N j n d → MaybeGood n d p
    maybe_good p fits_no_default = tt
    maybe_good p (fits_default b) = translation_stands p b

    clauses : {n : Nest} {cases : Clauses} (p last : ℕ) (d : MaybeTree) → FitsCases L N j n cases
        → CodePart L j p (X.clauses_size (depths n) cases)
        (X.clauses_code N (depths n) (ways_of n) p last cases)
        (StandsCases L j n NoClauses d (p + X.clauses_size (depths n) cases) last
        → StandsCases L j n cases d p last)
    clauses p last d fits_no_case =
        part_map L j (part_nil L j p) refl (λ x rest. ends_cases (omega arith) refl rest)
    clauses p last d (fits_other cs) =
        part_map L j (part_append L j refl (part_nil L j p) (clauses (p + 0) last d cs)) refl
        (λ x rest. s_pass (ends_cases (omega arith) refl (x.1 (ends_cases (omega arith) refl rest))))
    clauses p last d (fits_guard {n = n} {place = place} {c = tc} {b = tb} c b cs) =
        part_map L j (part_append L j refl
        (clause_by {place = place} p last (translation_stands (p + 2) c) (translation_stands (p + size (depths (in_mark n)) tc + 5) b))
        (clauses (p + X.clause_size (depths n) (Guarded place tc tb)) last d cs)) refl
        (λ x rest. x.0 (x.1 (ends_cases (omega arith) refl rest)))
