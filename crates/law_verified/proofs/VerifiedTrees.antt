-- The noted code of a tree is fine, with the shapes that are noted.
use Rattle.std.proofs.Common.{◌≡◌, ℕ, suc, ◌+◌, ◌-◌, ◌<◌, ◌≤◌, Bool, true, false, List, [], ◌∷◌, ◌++◌, Option, refl, sym, subst, arith}
use Rattle.icn_text.specs.declared.keyword.Keyword.{Keyword}
use Rattle.icn_text.specs.declared.keyword.Keyword.TheVariants as Keywords
use Rattle.icn_text.specs.declared.op.Op.{Op}
use Rattle.icn_code.specs.declared.instr.Instr.{Instr}
use Rattle.icn_code.specs.declared.instr.Instr.TheVariants as I
use Rattle.icn_defs.specs.Arities.{arity}
use Rattle.icn_tree.specs.declared.tree.SectionKind.{SectionKind}
use Rattle.icn_tree.specs.declared.tree.SectionKind.TheVariants.{Between, Forward, Backward}
use Rattle.icn_tree.specs.declared.token.Operator.{Operator}
use Rattle.icn_tree.specs.declared.tree.Infix.TheVariants.{Plain, Augmented}
use Rattle.icn_tree.specs.declared.tree.LoopKind.TheVariants.{While, Until, Every}
use Rattle.icn_tree.specs.Trees as T
use Rattle.icn_tree.specs.Trees.{Tree, Trees, MaybeTree, Clauses, Absent, Present, NoTrees, More, Default, Guarded, NoClauses, MoreClauses}
use Rattle.law_simulation.specs.Translation.{bodies_size, SymbolTable, Depth, LoopExits, loop_of, control_of, ways, deeper, around, last_way, next_way, size, sizes, elements_size, conjunction_size, compound_size, creates_size, subscripts_size, by_size, body_size, clauses_size, default_size, elements, count_of, keyword_instr, keyword_size, section_op, BinaryForm, UpdateForm, PrefixForm, prefix_size, plain_size, augmented_size, next_size, break_size}
use Rattle.law_simulation.specs.Linkage.{Linkage, Loads, l_null, l_integer, l_string, l_cset, l_local, l_static, l_global}
use Rattle.law_verified.specs.Noted.{bodies_code, NotedShape, o, start, many, more, in_mark, within, Limited, with_scan, drops, unmarks, create_notes, code, operands, elements_code, conjunction, compound, creates, subscripts, by_code, body_code, clauses_code, clause_code, default_code, keyword_notes, prefix_code, plain_code, augmented_code, next_notes, break_notes}
use Rattle.law_verified.specs.FittingTrees.{Infixes, x_both, x_scan, x_either, x_limit, x_at, x_bang, x_op, Augments, u_both, u_scan, u_at, u_op, Prefixes, p_at, p_bar, p_op, IsKeyword, k_word, Some_trees, Fit, FitAll, FitCreates, FitBy, FitMaybe, FitClauses, FitDefault}
use Rattle.law_verified.specs.Verified.{Pushes, u_null, u_int, u_str, u_cset, u_local, u_static, u_global, u_keyword, TakesOperands, t_op, t_list, t_field, t_invoke, t_appl, t_coact, Fine, f_push, f_pop, f_dup, f_takes, f_mark, f_mark0, f_unmark, f_eret, f_esusp, f_limit, f_lsusp, f_efail, f_chfail, f_goto, f_loop, f_bscan, f_escan, f_ccase, f_psusp, f_pret, f_pfail, f_create, f_coret, f_cofail, d_zero, d_suc, n_no, n_yes, Ctx, c_create, c_loop, Has, AllFine}
use Rattle.law_verified.proofs.UnmarkLengths.{none_unmarks}
use Rattle.law_verified.proofs.ErasedNotes.{code_length, elements_len, bodies_len, by_code_length, body_len, clauses_len, clause_len}
use Rattle.law_verified.proofs.PieceLengths.{created_len}
use Rattle.law_verified.proofs.ShapeLemmas.{fine_cut, «at», suc_minus, context_deeper, context_with_operand, context_with_scan, weaken, proper, unmarks_fine, dropped_to, many_and_one_more, invoked}

pushes : (L : Linkage) (j : ℕ) {i : Instr} {x : _} → Loads L j i x → Pushes i
pushes L j l_null = u_null
pushes L j (l_integer e) = u_int
pushes L j (l_string e) = u_str
pushes L j (l_cset e) = u_cset
pushes L j l_local = u_local
pushes L j l_static = u_static
pushes L j l_global = u_global

takes : (op : Op) {n : ℕ} → arity op ≡ n → TakesOperands (I.Op op) n
takes op e = subst (λ n. TakesOperands (I.Op op) n) e t_op

section_takes : (kind : SectionKind) → TakesOperands (I.Op (section_op kind)) 3
section_takes Between = t_op
section_takes Forward = t_op
section_takes Backward = t_op

module _ (At : ℕ → NotedShape → Type 0) (L : Linkage) (j : ℕ) (N : SymbolTable) where
  to : {s : NotedShape} {p : ℕ} (q : ℕ) → At p s → p ≡ q → At q s
  to q h e = «at» At q h e

  known_fine : {p : ℕ} (s : NotedShape) (word : Keyword) → At (suc p) (more s) → Fine At p (keyword_instr word) s
  known_fine s Keywords.Fail h = f_efail s
  known_fine s word h = f_push s u_keyword h

  keyword_fine : {found : Option Keyword} (s : NotedShape) (p : ℕ) → IsKeyword found → Has At p (keyword_notes s found)
      → At (p + keyword_size found) (more s) → At p s × AllFine At p (keyword_notes s found)
  keyword_fine s p (k_word word) h z = (h.0, (known_fine s word (to _ z (omega arith)), tt))

  abbrev Goal : Tree → Type 0
  Goal x =
      (r : ℕ) (D : List Depth) (W : List LoopExits) (B : List Bool) (c : Bool) (s : NotedShape) → Ctx At r D W B c s → Fit L j N B c x → (p p' : ℕ) → p' ≡ p
      → p' + size D x ≤ r → Has At p' (code N D W p s x) → At (p' + size D x) (more s) → At p' s × AllFine At p' (code N D W p s x)

  prefix_fine : (r : ℕ) (D : List Depth) (W : List LoopExits) (B : List Bool) (c : Bool) (s : NotedShape) (x : Tree) {op : Operator} {form : Option PrefixForm}
      → Goal x
      → Ctx At r D W B c s → Prefixes op form → Fit L j N B c x → (p p' : ℕ) → p' ≡ p
      → p' + prefix_size form (size D x) (size (deeper D) x) ≤ r
      → Has At p' (prefix_code D p s (λ D' p' s'. code N D' W p' s' x) form)
      → At (p' + prefix_size form (size D x) (size (deeper D) x)) (more s)
      → At p' s × AllFine At p' (prefix_code D p s (λ D' p' s'. code N D' W p' s' x) form)
  prefix_fine r D W B c s x g a p_at f p p' e b h z =
      let k = fine_cut At _ _ (suc p') (size D x) (code_length N x D W (p + 1) (more s)) h.1 in
      let y = g r D W B c (more s) (context_with_operand At s a) f (p + 1) (suc p') (omega arith) (omega arith) k.0 k.1.0 in
      (h.0, (f_push s u_null y.0, k.2 y.1 (f_takes 2 s t_coact (to _ z (omega arith)), tt)))
  prefix_fine r D W B c s x g a p_bar f p p' e b h z =
      let k = fine_cut At _ _ (suc p') (size (deeper D) x) (code_length N x (deeper D) W (p + 1) (in_mark s)) h.1 in
      let y = g r (deeper D) W B c (in_mark s) (context_deeper At _ a) f (p + 1) (suc p') (omega arith) (omega arith) k.0 k.1.0 in
      (h.0, (f_mark0 s y.0, k.2 y.1 (f_chfail s k.1.1.0 (to _ h.0 e) (omega arith), (f_esusp s (to _ z (omega arith)), tt))))
  prefix_fine r D W B c s x g a (p_op i w) f p p' e b h z =
      let k = fine_cut At _ _ p' (size D x) (code_length N x D W p s) h in
      let y = g r D W B c s a f p p' e (omega arith) k.0 k.1.0 in
      (y.0, k.2 y.1 (f_takes 1 s (takes _ w) (to _ z (omega arith)), tt))

  plain_fine : (r : ℕ) (D : List Depth) (W : List LoopExits) (B : List Bool) (c : Bool) (s : NotedShape) (x y : Tree) {op : Operator} {form : Option BinaryForm}
      → Goal x → Goal y
      → Ctx At r D W B c s → Infixes op form → Fit L j N B c x → Fit L j N B c y → (p p' : ℕ) → p' ≡ p
      → p' + plain_size form (size D x) (size (deeper D) x) (size D y) ≤ r
      → Has At p' (plain_code D p s (size D x) (size D y) (size (deeper D) x) (λ D' p' s'. code N D' W p' s' x) (λ D' p' s'. code N D' W p' s' y) form)
      → At (p' + plain_size form (size D x) (size (deeper D) x) (size D y)) (more s)
      → At p' s
      × AllFine At p' (plain_code D p s (size D x) (size D y) (size (deeper D) x) (λ D' p' s'. code N D' W p' s' x) (λ D' p' s'. code N D' W p' s' y) form)
  plain_fine r D W B c s x y g v a x_both f t p p' e b h z =
      let k = fine_cut At _ _ p' (size D x) (code_length N x D W p s) h in
      let w = v r D W B c s a t (p + size D x + 1) (suc (p' + size D x)) (omega arith) (omega arith) k.1.1 (to _ z (omega arith)) in
      let u = g r D W B c s a f p p' e (omega arith) k.0 k.1.0 in
      (u.0, k.2 u.1 (f_pop s w.0, w.1))
  plain_fine r D W B c s x y g v a x_scan f t p p' e b h z =
      let k = fine_cut At _ _ p' (size D x) (code_length N x D W p s) h in
      let m = fine_cut At _ _ (suc (p' + size D x)) (size D y) (code_length N y D W (p + size D x + 1) (with_scan s)) k.1.1 in
      let w = v r D W B c (with_scan s) (context_with_scan At s a) t (p + size D x + 1) (suc (p' + size D x)) (omega arith) (omega arith) m.0 m.1.0 in
      let u = g r D W B c s a f p p' e (omega arith) k.0 k.1.0 in
      (u.0, k.2 u.1 (f_bscan s w.0, m.2 w.1 (f_escan s (to _ z (omega arith)), tt)))
  plain_fine r D W B c s x y g v a x_either f t p p' e b h z =
      let k = fine_cut At _ _ (suc p') (size (deeper D) x) (code_length N x (deeper D) W (p + 1) (in_mark s)) h.1 in
      let m = suc (suc (suc p' + size (deeper D) x)) in
      let w = v r D W B c s a t (p + size (deeper D) x + 3) m (omega arith) (omega arith) k.1.1.1 (to _ z (omega arith)) in
      let u = g r (deeper D) W B c (in_mark s) (context_deeper At _ a) f (p + 1) (suc p') (omega arith) (omega arith) k.0 k.1.0 in
      (h.0, (f_mark s u.0 (to _ w.0 (omega arith)) (omega arith), k.2 u.1 (f_esusp s k.1.1.0, (f_goto (more s) (to _ z (omega arith)) (omega arith), w.1))))
  plain_fine r D W B c s x y g v a x_limit f t p p' e b h z =
      let k = fine_cut At _ _ p' (size D y) (code_length N y D W p s) h in
      let m = fine_cut At _ _ (suc (p' + size D y)) (size (deeper D) x) (code_length N x (deeper D) W (p + size D y + 1) (within Limited s)) k.1.1 in
      let w = v r D W B c s a t p p' e (omega arith) k.0 k.1.0 in
      let u = g r (deeper D) W B c (within Limited s) (context_deeper At _ a) f (p + size D y + 1) (suc (p' + size D y)) (omega arith)
      (omega arith) m.0 m.1.0 in
      (w.0, k.2 w.1 (f_limit s u.0, m.2 u.1 (f_lsusp s (to _ z (omega arith)), tt)))
  plain_fine r D W B c s x y g v a x_at f t p p' e b h z =
      let k = fine_cut At _ _ p' (size D x) (code_length N x D W p s) h in
      let m = fine_cut At _ _ (p' + size D x) (size D y) (code_length N y D W (p + size D x) (more s)) k.1 in
      let w = v r D W B c (more s) (context_with_operand At s a) t (p + size D x) (p' + size D x) (omega arith) (omega arith) m.0 m.1.0 in
      let u = g r D W B c s a f p p' e (omega arith) k.0 w.0 in
      (u.0, k.2 u.1 (m.2 w.1 (f_takes 2 s t_coact (to _ z (omega arith)), tt)))
  plain_fine r D W B c s x y g v a x_bang f t p p' e b h z =
      let k = fine_cut At _ _ p' (size D x) (code_length N x D W p s) h in
      let m = fine_cut At _ _ (p' + size D x) (size D y) (code_length N y D W (p + size D x) (more s)) k.1 in
      let w = v r D W B c (more s) (context_with_operand At s a) t (p + size D x) (p' + size D x) (omega arith) (omega arith) m.0 m.1.0 in
      let u = g r D W B c s a f p p' e (omega arith) k.0 w.0 in
      (u.0, k.2 u.1 (m.2 w.1 (f_takes 2 s t_appl (to _ z (omega arith)), tt)))
  plain_fine r D W B c s x y g v a (x_op i q) f t p p' e b h z =
      let k = fine_cut At _ _ p' (size D x) (code_length N x D W p s) h in
      let m = fine_cut At _ _ (p' + size D x) (size D y) (code_length N y D W (p + size D x) (more s)) k.1 in
      let w = v r D W B c (more s) (context_with_operand At s a) t (p + size D x) (p' + size D x) (omega arith) (omega arith) m.0 m.1.0 in
      let u = g r D W B c s a f p p' e (omega arith) k.0 w.0 in
      (u.0, k.2 u.1 (m.2 w.1 (f_takes 2 s (takes _ q) (to _ z (omega arith)), tt)))

  augmented_fine : (r : ℕ) (D : List Depth) (W : List LoopExits) (B : List Bool) (c : Bool) (s : NotedShape) (x y : Tree) {op : Operator} {form : Option UpdateForm}
      → Goal x → Goal y
      → Ctx At r D W B c s → Augments op form → Fit L j N B c x → Fit L j N B c y → (p p' : ℕ) → p' ≡ p
      → p' + augmented_size form (size D x) (size D y) ≤ r
      → Has At p' (augmented_code D p s (size D x) (λ D' p' s'. code N D' W p' s' x) (λ D' p' s'. code N D' W p' s' y) form)
      → At (p' + augmented_size form (size D x) (size D y)) (more s)
      → At p' s × AllFine At p' (augmented_code D p s (size D x) (λ D' p' s'. code N D' W p' s' x) (λ D' p' s'. code N D' W p' s' y) form)
  augmented_fine r D W B c s x y g v a u_both f t p p' e b h z =
      let k = fine_cut At _ _ p' (size D x) (code_length N x D W p s) h in
      let m = fine_cut At _ _ (p' + size D x) (size D y) (code_length N y D W (p + size D x) (more s)) k.1 in
      let w = v r D W B c (more s) (context_with_operand At s a) t (p + size D x) (p' + size D x) (omega arith) (omega arith) m.0 m.1.0 in
      let u = g r D W B c s a f p p' e (omega arith) k.0 w.0 in
      (u.0, k.2 u.1 (m.2 w.1 (f_takes 2 s t_op (to _ z (omega arith)), tt)))
  augmented_fine r D W B c s x y g v a u_scan f t p p' e b h z =
      let k = fine_cut At _ _ p' (size D x) (code_length N x D W p s) h in
      let m = fine_cut At _ _ (suc (suc (p' + size D x))) (size D y) (code_length N y D W (p + size D x + 2) (with_scan (more s))) k.1.1.1 in
      let w = v r D W B c (with_scan (more s)) (context_with_scan At (more s) (context_with_operand At s a)) t (p + size D x + 2) (suc (suc (p' + size D x)))
      (omega arith)
      (omega arith) m.0 m.1.0 in
      let u = g r D W B c s a f p p' e (omega arith) k.0 k.1.0 in
      (u.0, k.2 u.1 (f_dup s k.1.1.0, (f_bscan (more s) w.0, m.2 w.1 (f_escan (more s) m.1.1.0, (f_takes 2 s t_op (to _ z (omega arith)), tt)))))
  augmented_fine r D W B c s x y g v a u_at f t p p' e b h z =
      let k = fine_cut At _ _ p' (size D x) (code_length N x D W p s) h in
      let m = fine_cut At _ _ (suc (p' + size D x)) (size D y) (code_length N y D W (p + size D x + 1) (more (more s))) k.1.1 in
      let w = v r D W B c (more (more s)) (context_with_operand At (more s) (context_with_operand At s a)) t (p + size D x + 1) (suc (p' + size D x))
      (omega arith) (omega arith) m.0 m.1.0 in
      let u = g r D W B c s a f p p' e (omega arith) k.0 k.1.0 in
      (u.0, k.2 u.1 (f_dup s w.0, m.2 w.1 (f_takes 2 (more s) t_coact m.1.1.0, (f_takes 2 s t_op (to _ z (omega arith)), tt))))
  augmented_fine r D W B c s x y g v a (u_op i q) f t p p' e b h z =
      let k = fine_cut At _ _ p' (size D x) (code_length N x D W p s) h in
      let m = fine_cut At _ _ (suc (p' + size D x)) (size D y) (code_length N y D W (p + size D x + 1) (more (more s))) k.1.1 in
      let w = v r D W B c (more (more s)) (context_with_operand At (more s) (context_with_operand At s a)) t (p + size D x + 1) (suc (p' + size D x))
      (omega arith) (omega arith) m.0 m.1.0 in
      let u = g r D W B c s a f p p' e (omega arith) k.0 k.1.0 in
      (u.0, k.2 u.1 (f_dup s w.0, m.2 w.1 (f_takes 2 (more s) (takes _ q) m.1.1.0, (f_takes 2 s t_op (to _ z (omega arith)), tt))))

  created_fine : (s : NotedShape) (x : Tree) → Goal x → Fit L j N [] false x
      → (p p' : ℕ) → p' ≡ p → Has At p' (create_notes p (size [] x) s (code N [] [] (p + 2) (in_mark (start true)) x)) → At (p' + (size [] x + 5)) (more s)
      → At p' s × AllFine At p' (create_notes p (size [] x) s (code N [] [] (p + 2) (in_mark (start true)) x))
  created_fine s x g f p p' e h z =
      let k = fine_cut At _ _ (suc (suc p')) (size [] x) (code_length N x [] [] (p + 2) (in_mark (start true))) h.1.1 in
      let u = g (suc (suc p') + size [] x) [] [] [] false (in_mark (start true)) (c_create (in_mark (start true)) refl) f (p + 2) (suc (suc p')) (omega arith)
      (omega arith) k.0 k.1.0 in (
        h.0,
        (
          f_create s h.1.0 (to _ z (omega arith)) (omega arith),
          (
            f_mark (start true) u.0 (to _ k.1.1.1.0 (omega arith)) (omega arith),
            k.2 u.1 (f_coret (in_mark (start true)) refl k.1.1.0, (f_efail _, (f_cofail (start true) refl, tt))),
          ),
        ),
      )

  -- out of the innermost loop
  break_fine : (r : ℕ) (D : List Depth) (W : List LoopExits) (b : Bool) (B : List Bool) (c : Bool) (s : NotedShape) (x : Tree) → Goal x
      → Ctx At r D W (b ∷ B) c s
      → Fit L j N B c x → (p p' : ℕ) → p' ≡ p → p' + break_size D (size (around D) x) ≤ r
      → Has At p' (break_notes D (last_way W) (λ p' s'. code N (around D) (around W) p' s' x) p s)
      → At p' s × AllFine At p' (break_notes D (last_way W) (λ p' s'. code N (around D) (around W) p' s' x) p s)
  break_fine r D W b B c s x g (c_loop {m = m} {l = l} {D = E} {W = V} {t = t} d rl rg al n a) f p p' e v h =
      let w = dropped_to At d in
      let h' = subst (λ t. Has At p' (unmarks (suc m) s ++ (code N E V (p + suc m) t x ++ o (more t) (I.Goto l) ∷ []))) w h in
      let k = fine_cut At (unmarks (suc m) s) (code N E V (p + suc m) t x ++ o (more t) (I.Goto l) ∷ []) p' (suc m) (none_unmarks (suc m) s) h' in
      let k' = fine_cut At (code N E V (p + suc m) t x) (o (more t) (I.Goto l) ∷ []) (p' + suc m) (size E x) (code_length N x E V (p + suc m) t) k.1 in
      let u = g r E V B c t a f (p + suc m) (p' + suc m) (omega arith) (omega arith) k'.0 k'.1.0 in
      let y = unmarks_fine At p' d k.0 u.0 in (
        y.0,
        subst (λ t. AllFine At p' (unmarks (suc m) s ++ (code N E V (p + suc m) t x ++ o (more t) (I.Goto l) ∷ []))) (sym w)
            (k.2 y.1 (k'.2 u.1 (f_goto (more t) al (omega arith), tt))),
      )

  next_fine : (r : ℕ) (D : List Depth) (W : List LoopExits) (B : List Bool) (c : Bool) (s : NotedShape) → Ctx At r D W (true ∷ B) c s → (p' : ℕ)
      → p' + next_size D ≤ r → Has At p' (next_notes D (next_way W) s)
      → At p' s × AllFine At p' (next_notes D (next_way W) s)
  next_fine r D W B c s (c_loop {m = m} {k = i} {g = g} d rl rg al (n_yes {t = t} im d' ag) a) p' v h =
      let w = dropped_to At d' in let q = suc_minus At m i im in
      let h' = subst (λ t. Has At p' (unmarks (suc (m - i)) s ++ o t (I.Goto g) ∷ [])) w
      (subst (λ z. Has At p' (unmarks z s ++ o (drops z s) (I.Goto g) ∷ [])) q h) in
      let k = fine_cut At (unmarks (suc (m - i)) s) (o t (I.Goto g) ∷ []) p' (suc (m - i)) (none_unmarks (suc (m - i)) s) h' in
      let y = unmarks_fine At p' d' k.0 k.1.0 in (
        y.0,
        subst (λ z. AllFine At p' (unmarks z s ++ o (drops z s) (I.Goto g) ∷ [])) (sym q)
            (subst (λ t. AllFine At p' (unmarks (suc (m - i)) s ++ o t (I.Goto g) ∷ [])) (sym w)
            (k.2 y.1 (f_goto t ag (omega arith), tt))),
      )

  mutual
    pub tree_is_fine : (x : Tree) (r : ℕ) (D : List Depth) (W : List LoopExits) (B : List Bool) (c : Bool) (s : NotedShape) → Ctx At r D W B c s
        → Fit L j N B c x → (p p' : ℕ)
        → p' ≡ p → p' + size D x ≤ r → Has At p' (code N D W p s x) → At (p' + size D x) (more s) → At p' s × AllFine At p' (code N D W p s x)
    tree_is_fine T.Empty r D W B c s a f p p' e b h z = (h.0, (f_push s u_null (to _ z (omega arith)), tt))
    tree_is_fine (T.Constant place v) r D W B c s a f p p' e b h z = (h.0, (f_push s (pushes L j f) (to _ z (omega arith)), tt))
    tree_is_fine (T.Identifier name) r D W B c s a f p p' e b h z = (h.0, (f_push s (pushes L j f) (to _ z (omega arith)), tt))
    tree_is_fine (T.Keyword place name) r D W B c s a f p p' e b h z = keyword_fine s p' f h z
    tree_is_fine (T.Parentheses place es) r D W B c s a f p p' e b h z = conjunction_fine es r D W B c s a f.1 p p' e b f.0 h z
    tree_is_fine (T.Listing place es) r D W B c s a f p p' e b h z =
        let k = fine_cut At _ _ p' (elements_size D es) (elements_len N es D W p s) h in
        let u = elements_fine es r D W B c s a f p p' e (omega arith) k.0 k.1.0 in
        (u.0, k.2 u.1 (f_takes (elements es) s t_list (to _ z (omega arith)), tt))
    tree_is_fine (T.Compound place es) r D W B c s a f p p' e b h z = compound_fine es r D W B c s a f.1 p p' e b f.0 h z
    tree_is_fine (T.Call place x es) r D W B c s a f p p' e b h z =
        let k = fine_cut At _ _ p' (size D x) (code_length N x D W p s) h in
        let m = fine_cut At _ _ (p' + size D x) (elements_size D es) (elements_len N es D W (p + size D x) (more s)) k.1 in
        let u = elements_fine es r D W B c (more s) (context_with_operand At s a) f.1 (p + size D x) (p' + size D x) (omega arith) (omega arith) m.0 m.1.0 in
        let v = tree_is_fine x r D W B c s a f.0 p p' e (omega arith) k.0 u.0 in
        (v.0, k.2 v.1 (m.2 u.1 (invoked At (elements es) s (to _ z (omega arith)), tt)))
    tree_is_fine (T.CoCall place x es) r D W B c s a f p p' e b h z =
        let k = fine_cut At _ _ p' (size D x) (code_length N x D W p s) h in
        let m = fine_cut At _ _ (p' + size D x) (bodies_size D es) (bodies_len N es D (p + size D x) (more s)) k.1 in
        let u = creates_fine es D (more s) f.1 (p + size D x) (p' + size D x) (omega arith) m.0 m.1.0 in
        let v = tree_is_fine x r D W B c s a f.0 p p' e (omega arith) k.0 u.0 in
        (v.0, k.2 v.1 (m.2 u.1 (f_takes (elements es) (more s) t_list m.1.1.0, (f_takes 2 s t_invoke (to _ z (omega arith)), tt))))
    tree_is_fine (T.Subscript place x es) r D W B c s a f p p' e b h z =
        let k = fine_cut At _ _ p' (size D x) (code_length N x D W p s) h in
        let u = subscripts_fine es r D W B c s a f.2 (p + size D x) (p' + size D x) (omega arith) (omega arith) k.1 (to _ z (omega arith)) in
        let v = tree_is_fine x r D W B c s a f.0 p p' e (omega arith) k.0 u.0 in
        (v.0, k.2 v.1 u.1)
    tree_is_fine (T.Section place kind x y w) r D W B c s a f p p' e b h z =
        let k = fine_cut At _ _ p' (size D x) (code_length N x D W p s) h in
        let m = fine_cut At _ _ (p' + size D x) (size D y) (code_length N y D W (p + size D x) (more s)) k.1 in
        let l = fine_cut At _ _ (p' + size D x + size D y) (size D w) (code_length N w D W (p + size D x + size D y) (more (more s))) m.1 in
        let t = tree_is_fine w r D W B c (more (more s)) (context_with_operand At (more s) (context_with_operand At s a)) f.2 (p + size D x + size D y)
        (p' + size D x + size D y) (omega arith)
        (omega arith) l.0 l.1.0 in
        let u = tree_is_fine y r D W B c (more s) (context_with_operand At s a) f.1 (p + size D x) (p' + size D x) (omega arith) (omega arith) m.0 t.0 in
        let v = tree_is_fine x r D W B c s a f.0 p p' e (omega arith) k.0 u.0 in
        (v.0, k.2 v.1 (m.2 u.1 (l.2 t.1 (f_takes 3 s (section_takes kind) (to _ z (omega arith)), tt))))
    tree_is_fine (T.Field place x name) r D W B c s a f p p' e b h z =
        let k = fine_cut At _ _ p' (size D x) (code_length N x D W p s) h in
        let v = tree_is_fine x r D W B c s a f.0 p p' e (omega arith) k.0 k.1.0 in
        (v.0, k.2 v.1 (f_takes 1 s t_field (to _ z (omega arith)), tt))
    tree_is_fine (T.Prefix place op x) r D W B c s a f p p' e b h z = prefix_fine r D W B c s x (tree_is_fine x) a f.0 f.1 p p' e b h z
    tree_is_fine (T.Not place x) r D W B c s a f p p' e b h z =
        let k = fine_cut At _ _ (suc p') (size (deeper D) x) (code_length N x (deeper D) W (p + 1) (in_mark s)) h.1 in
        let v = tree_is_fine x r (deeper D) W B c (in_mark s) (context_deeper At _ a) f (p + 1) (suc p') (omega arith) (omega arith) k.0 k.1.0 in
        (h.0, (f_mark s v.0 (to _ k.1.1.1.0 (omega arith)) (omega arith), k.2 v.1 (f_unmark _ s k.1.1.0, (f_efail s, (f_push s u_null (to _ z (omega arith)), tt)))))
    tree_is_fine (T.Binary place (Plain op) x y) r D W B c s a f p p' e b h z =
        plain_fine r D W B c s x y (tree_is_fine x) (tree_is_fine y) a f.0 f.1 f.2 p p' e b h z
    tree_is_fine (T.Binary place (Augmented op) x y) r D W B c s a f p p' e b h z =
        augmented_fine r D W B c s x y (tree_is_fine x) (tree_is_fine y) a f.0 f.1 f.2 p p' e b h z
    tree_is_fine (T.To place x y by) r D W B c s a f p p' e b h z =
        let k = fine_cut At _ _ p' (size D x) (code_length N x D W p s) h in
        let m = fine_cut At _ _ (p' + size D x) (size D y) (code_length N y D W (p + size D x) (more s)) k.1 in
        let l = fine_cut At _ _ (p' + size D x + size D y) (by_size D by) (by_code_length N by D W (p + size D x + size D y) (more (more s))) m.1 in
        let t = by_fine by r D W B c (more (more s)) (context_with_operand At (more s) (context_with_operand At s a)) f.2 (p + size D x + size D y)
        (p' + size D x + size D y) (omega arith)
        (omega arith) l.0 l.1.0 in
        let u = tree_is_fine y r D W B c (more s) (context_with_operand At s a) f.1 (p + size D x) (p' + size D x) (omega arith) (omega arith) m.0 t.0 in
        let v = tree_is_fine x r D W B c s a f.0 p p' e (omega arith) k.0 u.0 in
        (v.0, k.2 v.1 (m.2 u.1 (l.2 t.1 (f_takes 3 s t_op (to _ z (omega arith)), tt))))
    tree_is_fine (T.If place x y Absent) r D W B c s a f p p' e b h z =
        let k = fine_cut At _ _ (suc p') (size (deeper D) x) (code_length N x (deeper D) W (p + 1) (in_mark s)) h.1 in
        let u = tree_is_fine y r D W B c s a f.1 (p + size (deeper D) x + 2) (suc (suc p' + size (deeper D) x)) (omega arith) (omega arith) k.1.1
        (to _ z (omega arith)) in
        let v = tree_is_fine x r (deeper D) W B c (in_mark s) (context_deeper At _ a) f.0 (p + 1) (suc p') (omega arith) (omega arith) k.0 k.1.0 in
        (h.0, (f_mark0 s v.0, k.2 v.1 (f_unmark _ s u.0, u.1)))
    tree_is_fine (T.If place x y (Present w)) r D W B c s a f p p' e b h z =
        let k = fine_cut At _ _ (suc p') (size (deeper D) x) (code_length N x (deeper D) W (p + 1) (in_mark s)) h.1 in
        let q = suc (suc p' + size (deeper D) x) in
        let m = fine_cut At _ _ q (size D y) (code_length N y D W (p + size (deeper D) x + 2) s) k.1.1 in
        let t = tree_is_fine w r D W B c s a f.2 (p + (size (deeper D) x + size D y) + 3) (suc (q + size D y)) (omega arith) (omega arith) m.1.1
        (to _ z (omega arith)) in
        let u = tree_is_fine y r D W B c s a f.1 (p + size (deeper D) x + 2) q (omega arith) (omega arith) m.0 m.1.0 in
        let v = tree_is_fine x r (deeper D) W B c (in_mark s) (context_deeper At _ a) f.0 (p + 1) (suc p') (omega arith) (omega arith) k.0 k.1.0 in (
          h.0,
          (
            f_mark s v.0 (to _ t.0 (omega arith)) (omega arith),
            k.2 v.1 (f_unmark _ s u.0, m.2 u.1 (f_goto (more s) (to _ z (omega arith)) (omega arith), t.1)),
          ),
        )
    tree_is_fine (T.Case place x cases) r D W B c s a f p p' e b h z =
        let k = fine_cut At _ _ (suc p') (size (deeper D) x) (code_length N x (deeper D) W (p + 1) (in_mark s)) h.1 in
        let q = suc (suc p' + size (deeper D) x) in
        let last = p + size (deeper D) x + clauses_size D cases + default_size D cases + 3 in
        let m = fine_cut At _ _ q (clauses_size D cases) (clauses_len N cases D W (p + size (deeper D) x + 2) last s) k.1.1 in
        let t = default_fine cases r D W B c s a f.2 (p + size (deeper D) x + 3 + clauses_size D cases) (suc (q + clauses_size D cases)) (omega arith)
        (omega arith) m.1.1 (to _ z (omega arith)) in
        let u = cases_fine cases r D W B c s a f.1 (p + size (deeper D) x + 2) q last (omega arith) (omega arith) (omega arith) m.0
        (to _ z (omega arith)) m.1.0 in
        let v = tree_is_fine x r (deeper D) W B c (in_mark s) (context_deeper At _ a) f.0 (p + 1) (suc p') (omega arith) (omega arith) k.0 k.1.0 in
        (h.0, (f_mark0 s v.0, k.2 v.1 (f_eret s u.0, m.2 u.1 (f_pop s t.0, t.1))))
    tree_is_fine (T.Loop place While x b) r D W B c s a f p p' e i h z =
        let n = size (loop_of 1 0 ∷ D) x in let y = body_size (loop_of 1 0 ∷ D) b in
        let V = ways (p + n + y + 3) (p + n + y + 2) in
        let k = fine_cut At _ _ (suc p') n (code_length N x (loop_of 1 0 ∷ D) (V ∷ W) (p + 1) (in_mark s)) h.1 in
        let q = suc (suc p' + n) in
        let m = fine_cut At _ _ q y (body_len N b (loop_of 1 0 ∷ D) (V ∷ W) (p + n + 2) s) k.1.1 in
        let l = q + y in
        let C : Ctx At l (loop_of 1 0 ∷ D) (V ∷ W) (true ∷ B) c (in_mark s) = c_loop (d_suc _ d_zero) (omega arith) (omega arith) (to _ z (omega arith))
        (n_yes (omega arith) (d_suc _ d_zero) (to _ m.1.0 (omega arith))) (weaken At (omega arith) a) in
        let u = body_fine b l (loop_of 1 0 ∷ D) (V ∷ W) (true ∷ B) c s C f.1 (p + n + 2) q (omega arith) (omega arith) m.0 m.1.0 in
        let v = tree_is_fine x l (loop_of 1 0 ∷ D) (V ∷ W) (true ∷ B) c (in_mark s) C f.0 (p + 1) (suc p') (omega arith) (omega arith) k.0 k.1.0 in
        (h.0, (f_mark0 s v.0, k.2 v.1 (f_unmark _ s u.0, m.2 u.1 (f_loop s (to _ h.0 e) (omega arith), tt))))
    tree_is_fine (T.Loop place Until x b) r D W B c s a f p p' e i h z =
        let n = size (loop_of 1 0 ∷ D) x in let y = body_size (loop_of 1 0 ∷ D) b in
        let V = ways (p + n + y + 4) (p + n + y + 3) in
        let k = fine_cut At _ _ (suc p') n (code_length N x (loop_of 1 0 ∷ D) (V ∷ W) (p + 1) (in_mark s)) h.1 in
        let q = suc (suc (suc p' + n)) in
        let m = fine_cut At _ _ q y (body_len N b (loop_of 1 0 ∷ D) (V ∷ W) (p + n + 3) s) k.1.1.1 in
        let l = q + y in
        let C : Ctx At l (loop_of 1 0 ∷ D) (V ∷ W) (true ∷ B) c (in_mark s) = c_loop (d_suc _ d_zero) (omega arith) (omega arith) (to _ z (omega arith))
        (n_yes (omega arith) (d_suc _ d_zero) (to _ m.1.0 (omega arith))) (weaken At (omega arith) a) in
        let u = body_fine b l (loop_of 1 0 ∷ D) (V ∷ W) (true ∷ B) c s C f.1 (p + n + 3) q (omega arith) (omega arith) m.0 m.1.0 in
        let v = tree_is_fine x l (loop_of 1 0 ∷ D) (V ∷ W) (true ∷ B) c (in_mark s) C f.0 (p + 1) (suc p') (omega arith) (omega arith) k.0 k.1.0 in
        (h.0, (f_mark s v.0 (to _ u.0 (omega arith)) (omega arith), k.2 v.1 (f_unmark _ s k.1.1.0, (f_efail s, m.2 u.1 (f_loop s (to _ h.0 e) (omega arith), tt)))))
    tree_is_fine (T.Loop place Every x b) r D W B c s a f p p' e i h z =
        let n = size (control_of 1 ∷ D) x in let y = body_size (loop_of 2 1 ∷ D) b in
        let V = ways (p + n + y + 3) (p + n + y + 2) in
        let k = fine_cut At _ _ (suc p') n (code_length N x (control_of 1 ∷ D) (V ∷ W) (p + 1) (in_mark s)) h.1 in
        let q = suc (suc p' + n) in
        let m = fine_cut At _ _ q y (body_len N b (loop_of 2 1 ∷ D) (V ∷ W) (p + n + 2) (in_mark s)) k.1.1 in
        let l = q + y in
        let C : Ctx At l (control_of 1 ∷ D) (V ∷ W) (false ∷ B) c (in_mark s) = c_loop (d_suc _ d_zero) (omega arith) (omega arith) (to _ z (omega arith)) n_no
        (weaken At (omega arith) a) in
        let C' : Ctx At l (loop_of 2 1 ∷ D) (V ∷ W) (true ∷ B) c (in_mark (in_mark s)) = c_loop (d_suc _ (d_suc _ d_zero)) (omega arith) (omega arith)
        (to _ z (omega arith)) (n_yes (omega arith) (d_suc _ d_zero) (to _ m.1.0 (omega arith))) (weaken At (omega arith) a) in
        let u = body_fine b l (loop_of 2 1 ∷ D) (V ∷ W) (true ∷ B) c (in_mark s) C' f.1 (p + n + 2) q (omega arith) (omega arith) m.0 m.1.0 in
        let v = tree_is_fine x l (control_of 1 ∷ D) (V ∷ W) (false ∷ B) c (in_mark s) C f.0 (p + 1) (suc p') (omega arith) (omega arith) k.0 k.1.0 in
        (h.0, (f_mark0 s v.0, k.2 v.1 (f_pop (in_mark s) u.0, m.2 u.1 (f_efail (in_mark s), tt))))
    tree_is_fine (T.Repeat place x) r D W B c s a f p p' e i h z =
        let n = size (loop_of 1 0 ∷ D) x in
        let V = ways (p + n + 3) (p + n + 2) in
        let k = fine_cut At _ _ (suc p') n (code_length N x (loop_of 1 0 ∷ D) (V ∷ W) (p + 1) (in_mark s)) h.1 in
        let l = suc (suc p' + n) in
        let C : Ctx At l (loop_of 1 0 ∷ D) (V ∷ W) (true ∷ B) c (in_mark s) = c_loop (d_suc _ d_zero) (omega arith) (omega arith) (to _ z (omega arith))
        (n_yes (omega arith) (d_suc _ d_zero) (to _ k.1.1.0 (omega arith))) (weaken At (omega arith) a) in
        let v = tree_is_fine x l (loop_of 1 0 ∷ D) (V ∷ W) (true ∷ B) c (in_mark s) C f (p + 1) (suc p') (omega arith) (omega arith) k.0 k.1.0 in
        (h.0, (f_mark s v.0 (to _ k.1.1.0 (omega arith)) (omega arith), k.2 v.1 (f_unmark _ s k.1.1.0, (f_loop s (to _ h.0 e) (omega arith), tt))))
    tree_is_fine (T.Create place x) r D W B c s a f p p' e b h z = created_fine s x (tree_is_fine x) f p p' e h z
    tree_is_fine (T.Next place) r D W [] c s a f p p' e i h z = absurd f
    tree_is_fine (T.Next place) r D W (b ∷ B) c s a f p p' e i h z = next_fine r D W B c s (subst (λ b. Ctx At r D W (b ∷ B) c s) f a) p' i h
    tree_is_fine (T.Fail place) r D W B c s a f p p' e b h z = (h.0, (f_pfail s (proper At a f), tt))
    tree_is_fine (T.Break place x) r D W [] c s a f p p' e i h z = absurd f
    tree_is_fine (T.Break place x) r D W (b ∷ B) c s a f p p' e i h z = break_fine r D W b B c s x (tree_is_fine x) a f p p' e i h
    tree_is_fine (T.Return place x) r D W B c s a f p p' e b h z =
        let k = fine_cut At _ _ (suc p') (size (deeper D) x) (code_length N x (deeper D) W (p + 1) (in_mark s)) h.1 in
        let v = tree_is_fine x r (deeper D) W B c (in_mark s) (context_deeper At _ a) f.1 (p + 1) (suc p') (omega arith) (omega arith) k.0 k.1.0 in
        (h.0, (f_mark s v.0 (to _ k.1.1.0 (omega arith)) (omega arith), k.2 v.1 (f_pret (in_mark s) (proper At a f.0), (f_pfail s (proper At a f.0), tt))))
    tree_is_fine (T.Suspend place x b) r D W B c s a f p p' e i h z =
        let k = fine_cut At _ _ (suc p') (size (deeper D) x) (code_length N x (deeper D) W (p + 1) (in_mark s)) h.1 in
        let q = suc (suc (suc p' + size (deeper D) x)) in
        let m = fine_cut At _ _ q (body_size (deeper (deeper D)) b) (body_len N b (deeper (deeper D)) W (p + size (deeper D) x + 3) (in_mark s)) k.1.1.1 in
        let u = body_fine b r (deeper (deeper D)) W B c (in_mark s) (context_deeper At _ (context_deeper At _ a)) f.2 (p + size (deeper D) x + 3) q
        (omega arith)
        (omega arith) m.0 m.1.0 in
        let v = tree_is_fine x r (deeper D) W B c (in_mark s) (context_deeper At _ a) f.1 (p + 1) (suc p') (omega arith) (omega arith) k.0 k.1.0 in
        (h.0, (f_mark0 s v.0, k.2 v.1 (f_psusp (in_mark s) (proper At a f.0) k.1.1.0, (f_pop (in_mark s) u.0, m.2 u.1 (f_efail (in_mark s), tt)))))

    conjunction_fine : (es : Trees) (r : ℕ) (D : List Depth) (W : List LoopExits) (B : List Bool) (c : Bool) (s : NotedShape) → Ctx At r D W B c s
        → FitAll L j N B c es
        → (p p' : ℕ) → p' ≡ p → p' + conjunction_size D es ≤ r → Some_trees es → Has At p' (conjunction N D W p s es) → At (p' + conjunction_size D es) (more s)
        → At p' s × AllFine At p' (conjunction N D W p s es)
    conjunction_fine NoTrees r D W B c s a f p p' e b t h z = absurd t
    conjunction_fine (More x NoTrees) r D W B c s a f p p' e b t h z = tree_is_fine x r D W B c s a f.0 p p' e b h z
    conjunction_fine (More x (More y es)) r D W B c s a f p p' e b t h z =
        let k = fine_cut At _ _ p' (size D x) (code_length N x D W p s) h in
        let u = conjunction_fine (More y es) r D W B c s a f.1 (p + size D x + 1) (suc (p' + size D x)) (omega arith) (omega arith) tt k.1.1
        (to _ z (omega arith)) in
        let v = tree_is_fine x r D W B c s a f.0 p p' e (omega arith) k.0 k.1.0 in
        (v.0, k.2 v.1 (f_pop s u.0, u.1))

    compound_fine : (es : Trees) (r : ℕ) (D : List Depth) (W : List LoopExits) (B : List Bool) (c : Bool) (s : NotedShape) → Ctx At r D W B c s
        → FitAll L j N B c es
        → (p p' : ℕ) → p' ≡ p → p' + compound_size D es ≤ r → Some_trees es → Has At p' (compound N D W p s es) → At (p' + compound_size D es) (more s)
        → At p' s × AllFine At p' (compound N D W p s es)
    compound_fine NoTrees r D W B c s a f p p' e b t h z = absurd t
    compound_fine (More x NoTrees) r D W B c s a f p p' e b t h z = tree_is_fine x r D W B c s a f.0 p p' e b h z
    compound_fine (More T.Empty (More y es)) r D W B c s a f p p' e b t h z =
        compound_fine (More y es) r D W B c s a f.1 p p' e (omega arith) tt h (to _ z (omega arith))
    compound_fine (More x (More y es)) r D W B c s a f p p' e b t h z =
        let k = fine_cut At (code N (deeper D) W (p + 1) (in_mark s) x)
        (o (more (in_mark s)) I.Unmark ∷ compound N D W (p + size (deeper D) x + 2) s (More y es))
        (suc p') (size (deeper D) x) (code_length N x (deeper D) W (p + 1) (in_mark s)) h.1 in
        let u = compound_fine (More y es) r D W B c s a f.1 (p + size (deeper D) x + 2) (suc (suc p' + size (deeper D) x)) (omega arith) (omega arith) tt k.1.1
        (to _ z (omega arith)) in
        let v = tree_is_fine x r (deeper D) W B c (in_mark s) (context_deeper At _ a) f.0 (p + 1) (suc p') (omega arith) (omega arith) k.0 k.1.0 in
        (h.0, (f_mark s v.0 (to _ u.0 (omega arith)) (omega arith), k.2 v.1 (f_unmark _ s u.0, u.1)))

    elements_fine : (es : Trees) (r : ℕ) (D : List Depth) (W : List LoopExits) (B : List Bool) (c : Bool) (s : NotedShape) → Ctx At r D W B c s
        → FitAll L j N B c es
        → (p p' : ℕ) → p' ≡ p → p' + elements_size D es ≤ r → Has At p' (elements_code N D W p s es) → At (p' + elements_size D es) (many (elements es) s)
        → At p' s × AllFine At p' (elements_code N D W p s es)
    elements_fine NoTrees r D W B c s a f p p' e b h z = (to _ z (omega arith), tt)
    elements_fine (More T.Empty NoTrees) r D W B c s a f p p' e b h z = (to _ z (omega arith), tt)
    elements_fine (More x es) r D W B c s a f p p' e b h z =
        let k = fine_cut At (code N D W p s x) (operands N D W (p + size D x) (more s) es) p' (size D x) (code_length N x D W p s) h in
        let u = operands_fine es r D W B c (more s) (context_with_operand At s a) f.1 (p + size D x) (p' + size D x) (omega arith) (omega arith) k.1
        (many_and_one_more At (count_of es) s (to _ z (omega arith))) in
        let v = tree_is_fine x r D W B c s a f.0 p p' e (omega arith) k.0 u.0 in
        (v.0, k.2 v.1 u.1)

    operands_fine : (es : Trees) (r : ℕ) (D : List Depth) (W : List LoopExits) (B : List Bool) (c : Bool) (s : NotedShape) → Ctx At r D W B c s
        → FitAll L j N B c es → (p p' : ℕ) → p' ≡ p → p' + sizes D es ≤ r → Has At p' (operands N D W p s es) → At (p' + sizes D es) (many (count_of es) s)
        → At p' s × AllFine At p' (operands N D W p s es)
    operands_fine NoTrees r D W B c s a f p p' e b h z = (to _ z (omega arith), tt)
    operands_fine (More x es) r D W B c s a f p p' e b h z =
        let k = fine_cut At _ _ p' (size D x) (code_length N x D W p s) h in
        let u = operands_fine es r D W B c (more s) (context_with_operand At s a) f.1 (p + size D x) (p' + size D x) (omega arith) (omega arith) k.1
        (many_and_one_more At (count_of es) s (to _ z (omega arith))) in
        let v = tree_is_fine x r D W B c s a f.0 p p' e (omega arith) k.0 u.0 in
        (v.0, k.2 v.1 u.1)

    creates_fine : (es : Trees) (D : List Depth) (s : NotedShape) → FitCreates L j N es → (p p' : ℕ) → p' ≡ p → Has At p' (bodies_code N p s es)
        → At (p' + bodies_size D es) (many (elements es) s) → At p' s × AllFine At p' (bodies_code N p s es)
    creates_fine NoTrees D s f p p' e h z = (to _ z (omega arith), tt)
    creates_fine (More T.Empty NoTrees) D s f p p' e h z = (to _ z (omega arith), tt)
    creates_fine (More x es) D s f p p' e h z =
        let k = fine_cut At (create_notes p (size [] x) s (code N [] [] (p + 2) (in_mark (start true)) x)) (creates N (p + size [] x + 5) (more s) es) p'
        (size [] x + 5)
        (created_len p (size [] x) s (code N [] [] (p + 2) (in_mark (start true)) x) (code_length N x [] [] (p + 2) (in_mark (start true)))) h in
        let u = creates_fine_all es D (more s) f.1 (p + size [] x + 5) (p' + (size [] x + 5)) (omega arith) k.1
        (many_and_one_more At (count_of es) s (to _ z (omega arith))) in
        let v = created_fine s x (tree_is_fine x) f.0 p p' e k.0 u.0 in
        (v.0, k.2 v.1 u.1)

    creates_fine_all : (es : Trees) (D : List Depth) (s : NotedShape) → FitCreates L j N es → (p p' : ℕ) → p' ≡ p → Has At p' (creates N p s es)
        → At (p' + creates_size D es) (many (count_of es) s) → At p' s × AllFine At p' (creates N p s es)
    creates_fine_all NoTrees D s f p p' e h z = (to _ z (omega arith), tt)
    creates_fine_all (More x es) D s f p p' e h z =
        let k = fine_cut At (create_notes p (size [] x) s (code N [] [] (p + 2) (in_mark (start true)) x)) (creates N (p + size [] x + 5) (more s) es) p'
        (size [] x + 5)
        (created_len p (size [] x) s (code N [] [] (p + 2) (in_mark (start true)) x) (code_length N x [] [] (p + 2) (in_mark (start true)))) h in
        let u = creates_fine_all es D (more s) f.1 (p + size [] x + 5) (p' + (size [] x + 5)) (omega arith) k.1
        (many_and_one_more At (count_of es) s (to _ z (omega arith))) in
        let v = created_fine s x (tree_is_fine x) f.0 p p' e k.0 u.0 in
        (v.0, k.2 v.1 u.1)

    subscripts_fine : (es : Trees) (r : ℕ) (D : List Depth) (W : List LoopExits) (B : List Bool) (c : Bool) (s : NotedShape) → Ctx At r D W B c s
        → FitAll L j N B c es
        → (p p' : ℕ) → p' ≡ p → p' + subscripts_size D es ≤ r → Has At p' (subscripts N D W p s es) → At (p' + subscripts_size D es) (more s)
        → At p' (more s) × AllFine At p' (subscripts N D W p s es)
    subscripts_fine NoTrees r D W B c s a f p p' e b h z = (to _ z (omega arith), tt)
    subscripts_fine (More x es) r D W B c s a f p p' e b h z =
        let k = fine_cut At _ _ p' (size D x) (code_length N x D W p (more s)) h in
        let u = subscripts_fine es r D W B c s a f.1 (p + size D x + 1) (suc (p' + size D x)) (omega arith) (omega arith) k.1.1 (to _ z (omega arith)) in
        let v = tree_is_fine x r D W B c (more s) (context_with_operand At s a) f.0 p p' e (omega arith) k.0 k.1.0 in
        (v.0, k.2 v.1 (f_takes 2 s t_op u.0, u.1))

    by_fine : (by : MaybeTree) (r : ℕ) (D : List Depth) (W : List LoopExits) (B : List Bool) (c : Bool) (s : NotedShape) → Ctx At r D W B c s
        → FitBy L j N B c by → (p p' : ℕ) → p' ≡ p → p' + by_size D by ≤ r → Has At p' (by_code N D W p s by) → At (p' + by_size D by) (more s)
        → At p' s × AllFine At p' (by_code N D W p s by)
    by_fine Absent r D W B c s a f p p' e b h z = (h.0, (f_push s u_int (to _ z (omega arith)), tt))
    by_fine (Present x) r D W B c s a f p p' e b h z = tree_is_fine x r D W B c s a f p p' e b h z

    body_fine : (b : MaybeTree) (r : ℕ) (D : List Depth) (W : List LoopExits) (B : List Bool) (c : Bool) (s : NotedShape) → Ctx At r D W B c (in_mark s)
        → FitMaybe L j N B c b → (p p' : ℕ) → p' ≡ p → p' + body_size D b ≤ r → Has At p' (body_code N D W p s b) → At (p' + body_size D b) s
        → At p' s × AllFine At p' (body_code N D W p s b)
    body_fine Absent r D W B c s a f p p' e b h z = (to _ z (omega arith), tt)
    body_fine (Present x) r D W B c s a f p p' e b h z =
        let k = fine_cut At _ _ (suc p') (size D x) (code_length N x D W (p + 1) (in_mark s)) h.1 in
        let v = tree_is_fine x r D W B c (in_mark s) a f (p + 1) (suc p') (omega arith) (omega arith) k.0 k.1.0 in
        (h.0, (f_mark s v.0 (to _ z (omega arith)) (omega arith), k.2 v.1 (f_unmark _ s (to _ z (omega arith)), tt)))

    cases_fine : (cases : Clauses) (r : ℕ) (D : List Depth) (W : List LoopExits) (B : List Bool) (c : Bool) (s : NotedShape) → Ctx At r D W B c s
        → FitClauses L j N B c cases → (p p' last : ℕ) → p' ≡ p → p' + clauses_size D cases ≤ r
        → p' + clauses_size D cases < last → Has At p' (clauses_code N D W p last s cases) → At last (more s) → At (p' + clauses_size D cases) (more s)
        → At p' (more s) × AllFine At p' (clauses_code N D W p last s cases)
    cases_fine NoClauses r D W B c s a f p p' last e b g h y z = (to _ z (omega arith), tt)
    cases_fine (MoreClauses (Default place x) cases) r D W B c s a f p p' last e b g h y z =
        cases_fine cases r D W B c s a f.1 (p + 0) p' last (omega arith) (omega arith) (omega arith) h y (to _ z (omega arith))
    cases_fine (MoreClauses (Guarded place x w) cases) r D W B c s a f p p' last e b g h y z =
        let t = size (deeper D) x + size D w + 6 in
        let k = fine_cut At (clause_code N D W p last s (Guarded place x w)) (clauses_code N D W (p + t) last s cases) p' t
        (clause_len N (Guarded place x w) D W p last s) h in
        let m = fine_cut At _ _ (suc (suc p')) (size (deeper D) x) (code_length N x (deeper D) W (p + 2) (more (in_mark (more s)))) k.0.1.1 in
        let q = suc (suc (suc (suc (suc p') + size (deeper D) x))) in
        let v = fine_cut At _ _ q (size D w) (code_length N w D W (p + size (deeper D) x + 5) s) m.1.1.1.1 in
        let u = cases_fine cases r D W B c s a f.1 (p + t) (p' + t) last (omega arith) (omega arith) (omega arith) k.1 y (to _ z (omega arith)) in
        let i = tree_is_fine w r D W B c s a f.0.1 (p + size (deeper D) x + 5) q (omega arith) (omega arith) v.0 v.1.0 in
        let l = tree_is_fine x r (deeper D) W B c (more (in_mark (more s)))
        (context_with_operand At (in_mark (more s)) (context_deeper At _ (context_with_operand At s a))) f.0.0 (p + 2) (suc (suc p'))
        (omega arith) (omega arith) m.0 m.1.0 in
        (k.0.0, k.2 (f_mark (more s) k.0.1.0 (to _ u.0 (omega arith)) (omega arith), (f_ccase s l.0, m.2 l.1 (f_takes 2 (in_mark (more s)) t_op m.1.1.0, (f_unmark _ (more s) m.1.1.1.0, (f_pop s i.0, v.2 i.1 (f_goto (more s) y (omega arith), tt)))))) u.1)

    default_fine : (cases : Clauses) (r : ℕ) (D : List Depth) (W : List LoopExits) (B : List Bool) (c : Bool) (s : NotedShape)
        → Ctx At r D W B c s → FitDefault L j N B c cases → (p p' : ℕ) → p' ≡ p → p' + default_size D cases ≤ r → Has At p' (default_code N D W p s cases)
        → At (p' + default_size D cases) (more s) → At p' s × AllFine At p' (default_code N D W p s cases)
    default_fine NoClauses r D W B c s a f p p' e b h z = (h.0, (f_efail s, tt))
    default_fine (MoreClauses (Default place x) cases) r D W B c s a f p p' e b h z = tree_is_fine x r D W B c s a f p p' e b h z
    default_fine (MoreClauses (Guarded place x w) cases) r D W B c s a f p p' e b h z = default_fine cases r D W B c s a f p p' e b h z
