-- The noted code of a tree is neat.
use Rattle.std.proofs.Common.{◌≡◌, ℕ, suc, ◌+◌, ◌≤◌, Bool, true, false, List, [], ◌∷◌, ◌++◌, Option, refl, sym, ◌∙◌, subst, arith, append_assoc, if◌then◌else◌}
use Rattle.icn_text.specs.declared.keyword.Keyword.{Keyword}
use Rattle.icn_text.specs.declared.keyword.Keyword.TheVariants as Keywords
use Rattle.icn_code.specs.declared.instr.Instr.{Instr}
use Rattle.icn_code.specs.declared.instr.Instr.TheVariants as I
use Rattle.icn_tree.specs.declared.token.Operator.{Operator}
use Rattle.icn_tree.specs.declared.tree.Infix.TheVariants.{Plain, Augmented}
use Rattle.icn_tree.specs.declared.tree.LoopKind.TheVariants.{While, Until, Every}
use Rattle.icn_tree.specs.Trees as T
use Rattle.icn_tree.specs.Trees.{Tree, Trees, MaybeTree, Clauses, Absent, Present, NoTrees, More, Default, Guarded, NoClauses, MoreClauses}
use Rattle.law_simulation.specs.Translation.{bodies_size, SymbolTable, Depth, LoopExits, loop_of, control_of, ways, deeper, dropped_by_next, around, size, sizes, elements_size, conjunction_size, compound_size, creates_size, subscripts_size, by_size, body_size, clauses_size, default_size, keyword_instr, keyword_size, BinaryForm, UpdateForm, PrefixForm, prefix_size, plain_size, augmented_size, next_size, break_size}
use Rattle.law_simulation.specs.Linkage.{Linkage, Loads, l_null, l_integer, l_string, l_cset, l_local, l_static, l_global}
use Rattle.law_verified.specs.Noted.{bodies_code, NotedShape, Note, o, flagged_note, start, more, in_mark, within, Limited, with_scan, drops, unmarks, create_notes, code, operands, elements_code, conjunction, compound, creates, subscripts, by_code, body_code, clauses_code, clause_code, default_code, keyword_notes, prefix_code, plain_code, augmented_code, next_notes, break_notes}
use Rattle.law_verified.specs.FittingTrees.{Infixes, x_both, x_scan, x_either, x_limit, x_at, x_bang, x_op, Augments, u_both, u_scan, u_at, u_op, Prefixes, p_at, p_bar, p_op, IsKeyword, k_word, Fit, FitAll, FitCreates, FitBy, FitMaybe, FitClauses, FitDefault}
use Rattle.law_verified.proofs.LoopNesting.{forward_mark, forward_goto, forward_create, backward_loop, backward_chfail, is_plain, plain_not_forward, plain_not_backward, one_backward_label, out_last, out_next, out_outer, WaysAhead, ways_ahead, WellNested, nested_append, nested_nil, nested_plain, nested_forward, nested_out, pass_before, lies_before, pass_after, pass_plain, pass_forward, nested_over, nested_back, way_stays, ways_left, nested_wider, nested_to, chfail_leads, loop_leads, none_in, no_ways_ahead, ahead_loop, ahead_outer, narrow, unmarks_neat}

loads_plain : (L : Linkage) (j : ℕ) {i : Instr} {x : _} → Loads L j i x → is_plain i ≡ true
loads_plain L j l_null = refl
loads_plain L j (l_integer e) = refl
loads_plain L j (l_string e) = refl
loads_plain L j (l_cset e) = refl
loads_plain L j l_local = refl
loads_plain L j l_static = refl
loads_plain L j l_global = refl

keyword_plain : (word : Keyword) → is_plain (keyword_instr word) ≡ true
keyword_plain Keywords.Fail = refl
keyword_plain word = refl

keyword_neat : {W : List LoopExits} {found : Option Keyword} (s : NotedShape) (p : ℕ) → IsKeyword found
    → WellNested W p (keyword_notes s found) (p + keyword_size found)
keyword_neat s p (k_word word) = nested_plain _ (keyword_plain word) (nested_nil _ (omega arith))

abbrev pub Same : List LoopExits → List Bool → Type 0
Same [] [] = Unit {0}
Same [] (b ∷ B) = ⊥
Same (w ∷ W) [] = ⊥
Same (w ∷ W) (b ∷ B) = Same W B

module _ (L : Linkage) (j : ℕ) (N : SymbolTable) where
  abbrev Goal : Tree → Type 0
  Goal x = (D : List Depth) (W : List LoopExits) (B : List Bool) (c : Bool) (s : NotedShape) → Same W B → Fit L j N B c x → (p p' : ℕ) → p' ≡ p
      → WaysAhead (p' + size D x) W
      → WellNested W p' (code N D W p s x) (p' + size D x)

  prefix_neat : (D : List Depth) (W : List LoopExits) (B : List Bool) (c : Bool) (s : NotedShape) (x : Tree) {op : Operator} {form : Option PrefixForm} → Goal x
      → Same W B
      → Prefixes op form → Fit L j N B c x → (p p' : ℕ) → p' ≡ p
      → WaysAhead (p' + prefix_size form (size D x) (size (deeper D) x)) W
      → WellNested W p' (prefix_code D p s (λ D' p' s'. code N D' W p' s' x) form)
      (p' + prefix_size form (size D x) (size (deeper D) x))
  prefix_neat D W B c s x g w p_at f p p' e a =
      nested_plain _ refl (nested_append (g D W B c (more s) w f (p + 1) (suc p') (omega arith) (ways_ahead (omega arith) a))
      (nested_plain _ refl (nested_nil _ (omega arith))) a)
  prefix_neat D W B c s x g w p_bar f p p' e a =
      let q = suc p' + size (deeper D) x in
      let n = g (deeper D) W B c (in_mark s) w f (p + 1) (suc p') (omega arith) (ways_ahead (omega arith) a) in
      let y = o (more (in_mark s)) (I.Chfail p) in let v = o (more (in_mark s)) I.Esusp in
      let xs = flagged_note s I.Mark0 ∷ code N (deeper D) W (p + 1) (in_mark s) x in
      let b : WellNested W p' (xs ++ (y ∷ [])) (suc q) = nested_back y (λ l k. one_backward_label backward_chfail k ∙ sym e) (λ m i. chfail_leads i)
      (way_stays W q) (nested_plain _ refl n) in
      subst (λ zs. WellNested W p' zs (p' + (size (deeper D) x + 3))) (append_assoc xs (y ∷ []) (v ∷ []))
      (nested_append b (nested_plain _ refl (nested_nil _ (omega arith))) a)
  prefix_neat D W B c s x g w (p_op i r) f p p' e a =
      nested_append (g D W B c s w f p p' e (ways_ahead (omega arith) a)) (nested_plain _ refl (nested_nil _ (omega arith))) a

  plain_neat : (D : List Depth) (W : List LoopExits) (B : List Bool) (c : Bool) (s : NotedShape) (x y : Tree) {op : Operator} {form : Option BinaryForm} → Goal x
      → Goal y → Same W B
      → Infixes op form → Fit L j N B c x → Fit L j N B c y → (p p' : ℕ) → p' ≡ p
      → WaysAhead (p' + plain_size form (size D x) (size (deeper D) x) (size D y)) W
      → WellNested W p' (plain_code D p s (size D x) (size D y) (size (deeper D) x) (λ D' p' s'. code N D' W p' s' x) (λ D' p' s'. code N D' W p' s' y) form)
      (p' + plain_size form (size D x) (size (deeper D) x) (size D y))
  plain_neat D W B c s x y g v w x_both f t p p' e a = nested_append (g D W B c s w f p p' e (ways_ahead (omega arith) a))
      (nested_plain _ refl (nested_to _ (omega arith) (v D W B c s w t (p + size D x + 1) (suc (p' + size D x)) (omega arith) (ways_ahead (omega arith) a)))) a
  plain_neat D W B c s x y g v w x_scan f t p p' e a =
      nested_append (g D W B c s w f p p' e (ways_ahead (omega arith) a)) (nested_plain _ refl (nested_append (v D W B c (with_scan s) w t
      (p + size D x + 1) (suc (p' + size D x)) (omega arith) (ways_ahead (omega arith) a)) (nested_plain _ refl (nested_nil _ (omega arith))) a)) a
  plain_neat D W B c s x y g v w x_either f t p p' e a =
      let m = suc (suc (suc p' + size (deeper D) x)) in
      let n = g (deeper D) W B c (in_mark s) w f (p + 1) (suc p') (omega arith) (ways_ahead (omega arith) a) in
      let k = v D W B c s w t (p + size (deeper D) x + 3) m (omega arith) (ways_ahead (omega arith) a) in
      nested_forward _ m forward_mark (omega arith) (omega arith)
      (pass_before n (omega arith) (pass_plain _ refl (pass_forward _ forward_goto (pass_after k (omega arith)))))
      (nested_append n (nested_plain _ refl (nested_forward _ (m + size D y) forward_goto (omega arith) (omega arith) (lies_before k (omega arith))
      (nested_to _ (omega arith) k))) a)
  plain_neat D W B c s x y g v w x_limit f t p p' e a =
      nested_append (v D W B c s w t p p' e (ways_ahead (omega arith) a)) (nested_plain _ refl (nested_append (g (deeper D) W B c
      (within Limited s) w f (p + size D y + 1) (suc (p' + size D y)) (omega arith) (ways_ahead (omega arith) a))
      (nested_plain _ refl (nested_nil _ (omega arith))) a)) a
  plain_neat D W B c s x y g v w x_at f t p p' e a = nested_append (g D W B c s w f p p' e (ways_ahead (omega arith) a))
      (nested_append (v D W B c (more s) w t (p + size D x) (p' + size D x) (omega arith) (ways_ahead (omega arith) a))
      (nested_plain _ refl (nested_nil _ (omega arith))) a) a
  plain_neat D W B c s x y g v w x_bang f t p p' e a = nested_append (g D W B c s w f p p' e (ways_ahead (omega arith) a))
      (nested_append (v D W B c (more s) w t (p + size D x) (p' + size D x) (omega arith) (ways_ahead (omega arith) a))
      (nested_plain _ refl (nested_nil _ (omega arith))) a) a
  plain_neat D W B c s x y g v w (x_op i q) f t p p' e a = nested_append (g D W B c s w f p p' e (ways_ahead (omega arith) a))
      (nested_append (v D W B c (more s) w t (p + size D x) (p' + size D x) (omega arith) (ways_ahead (omega arith) a))
      (nested_plain _ refl (nested_nil _ (omega arith))) a) a

  augmented_neat : (D : List Depth) (W : List LoopExits) (B : List Bool) (c : Bool) (s : NotedShape) (x y : Tree) {op : Operator} {form : Option UpdateForm} → Goal x
      → Goal y
      → Same W B → Augments op form → Fit L j N B c x → Fit L j N B c y → (p p' : ℕ) → p' ≡ p
      → WaysAhead (p' + augmented_size form (size D x) (size D y)) W
      → WellNested W p' (augmented_code D p s (size D x) (λ D' p' s'. code N D' W p' s' x) (λ D' p' s'. code N D' W p' s' y) form) (p' + augmented_size form (size D x) (size D y))
  augmented_neat D W B c s x y g v w u_both f t p p' e a = nested_append (g D W B c s w f p p' e (ways_ahead (omega arith) a))
      (nested_append (v D W B c (more s) w t (p + size D x) (p' + size D x) (omega arith) (ways_ahead (omega arith) a))
      (nested_plain _ refl (nested_nil _ (omega arith))) a) a
  augmented_neat D W B c s x y g v w u_scan f t p p' e a =
      nested_append (g D W B c s w f p p' e (ways_ahead (omega arith) a))
      (nested_plain _ refl (nested_plain _ refl (nested_append (v D W B c (with_scan (more s)) w t (p + size D x + 2)
      (suc (suc (p' + size D x))) (omega arith) (ways_ahead (omega arith) a)) (nested_plain _ refl (nested_plain _ refl (nested_nil _ (omega arith)))) a))) a
  augmented_neat D W B c s x y g v w u_at f t p p' e a =
      nested_append (g D W B c s w f p p' e (ways_ahead (omega arith) a))
      (nested_plain _ refl (nested_append (v D W B c (more (more s)) w t (p + size D x + 1) (suc (p' + size D x))
      (omega arith) (ways_ahead (omega arith) a)) (nested_plain _ refl (nested_plain _ refl (nested_nil _ (omega arith)))) a)) a
  augmented_neat D W B c s x y g v w (u_op i q) f t p p' e a =
      nested_append (g D W B c s w f p p' e (ways_ahead (omega arith) a))
      (nested_plain _ refl (nested_append (v D W B c (more (more s)) w t (p + size D x + 1) (suc (p' + size D x))
      (omega arith) (ways_ahead (omega arith) a)) (nested_plain _ refl (nested_plain _ refl (nested_nil _ (omega arith)))) a)) a

  created_neat : (W : List LoopExits) (s : NotedShape) (x : Tree) → Goal x → Fit L j N [] false x → (p p' : ℕ) → p' ≡ p → WaysAhead (p' + (size [] x + 5)) W
      → WellNested W p' (create_notes p (size [] x) s (code N [] [] (p + 2) (in_mark (start true)) x)) (p' + (size [] x + 5))
  created_neat W s x g f p p' e a =
      let n = nested_wider W (λ m i. absurd (none_in i)) (g [] [] [] false (in_mark (start true)) tt f (p + 2) (suc (suc p')) (omega arith) no_ways_ahead) in
      nested_forward _ (p' + (size [] x + 5)) forward_create (omega arith) (omega arith)
      (pass_forward _ forward_mark (pass_before n (omega arith) (pass_plain _ refl (pass_plain _ refl (pass_plain _ refl nested_over)))))
      (nested_forward _ (p' + (size [] x + 4)) forward_mark (omega arith) (omega arith)
      (pass_before n (omega arith) (pass_plain _ refl (pass_plain _ refl (pass_plain _ refl nested_over))))
      (nested_append n (nested_plain _ refl (nested_plain _ refl (nested_plain _ refl (nested_nil _ (omega arith))))) a))

  -- out of the innermost loop, by its ways
  dropped_neat : (k : ℕ) (v : LoopExits) (W : List LoopExits) (s : NotedShape) (p' : ℕ) → WaysAhead (p' + (k + 1)) (v ∷ W)
      → WellNested (v ∷ W) p' (unmarks k s ++ o (drops k s) (I.Goto v.next) ∷ []) (p' + (k + 1))
  dropped_neat k v W s p' a = nested_append (unmarks_neat (v ∷ W) k s p')
      (nested_to _ (omega arith) (nested_out _ forward_goto (out_next {l = v.last} {g = v.next} refl))) a

  -- `next`, where it may stand
  passed_neat : (b : Bool) (k : ℕ) (v : LoopExits) (W : List LoopExits) (s : NotedShape) (p' : ℕ)
      → WaysAhead (p' + (if b then k + 1 else 0)) (v ∷ W)
      → WellNested (v ∷ W) p' (if b then unmarks k s ++ o (drops k s) (I.Goto v.next) ∷ [] else []) (p' + (if b then k + 1 else 0))
  passed_neat true k v W s p' a = dropped_neat k v W s p' a
  passed_neat false k v W s p' a = nested_nil _ (omega arith)

  next_neat : (D : List Depth) (v : LoopExits) (W : List LoopExits) (s : NotedShape) (p' : ℕ) → WaysAhead (p' + next_size D) (v ∷ W)
      → WellNested (v ∷ W) p' (next_notes D v.next s) (p' + next_size D)
  next_neat [] v W s p' a = nested_nil _ (omega arith)
  next_neat (d ∷ D) v W s p' a = passed_neat d.passes (dropped_by_next d) v W s p' a

  break_neat : (D : List Depth) (v : LoopExits) (W : List LoopExits) (s : NotedShape) (p p' n : ℕ) (xs : ℕ → NotedShape → List Note)
      → ((p p' : ℕ) (s : NotedShape) → p' ≡ p → WaysAhead (p' + n) W → WellNested W p' (xs p s) (p' + n))
      → p' ≡ p → WaysAhead (p' + break_size D n) (v ∷ W) → WellNested (v ∷ W) p' (break_notes D v.last xs p s) (p' + break_size D n)
  break_neat [] v W s p p' n xs g e a = nested_nil _ (omega arith)
  break_neat (d ∷ D) v W s p p' n xs g e a = nested_append (unmarks_neat (v ∷ W) d.opened s p')
      (nested_append (nested_wider (v ∷ W) (λ m i. out_outer i)
      (g (p + d.opened) (p' + d.opened) (drops d.opened s) (omega arith) (ways_ahead (omega arith) (ahead_outer a))))
      (nested_to _ (omega arith) (nested_out _ forward_goto (out_last {l = v.last} {g = v.next} refl))) a) a

  mutual
    pub tree_is_nested : (x : Tree) (D : List Depth) (W : List LoopExits) (B : List Bool) (c : Bool) (s : NotedShape) → Same W B → Fit L j N B c x → (p p' : ℕ)
        → p' ≡ p
        → WaysAhead (p' + size D x) W → WellNested W p' (code N D W p s x) (p' + size D x)
    tree_is_nested T.Empty D W B c s w f p p' e a = nested_plain _ refl (nested_nil _ (omega arith))
    tree_is_nested (T.Constant place v) D W B c s w f p p' e a = nested_plain _ (loads_plain L j f) (nested_nil _ (omega arith))
    tree_is_nested (T.Identifier name) D W B c s w f p p' e a = nested_plain _ (loads_plain L j f) (nested_nil _ (omega arith))
    tree_is_nested (T.Keyword place name) D W B c s w f p p' e a = keyword_neat s p' f
    tree_is_nested (T.Parentheses place es) D W B c s w f p p' e a = conjunction_neat es D W B c s w f.1 p p' e a
    tree_is_nested (T.Listing place es) D W B c s w f p p' e a =
        nested_append (elements_neat es D W B c s w f p p' e (ways_ahead (omega arith) a)) (nested_plain _ refl (nested_nil _ (omega arith))) a
    tree_is_nested (T.Compound place es) D W B c s w f p p' e a = compound_neat es D W B c s w f.1 p p' e a
    tree_is_nested (T.Call place x es) D W B c s w f p p' e a =
        nested_append (tree_is_nested x D W B c s w f.0 p p' e (ways_ahead (omega arith) a)) (nested_append (elements_neat es D W B c
        (more s) w f.1 (p + size D x) (p' + size D x) (omega arith) (ways_ahead (omega arith) a)) (nested_plain _ refl (nested_nil _ (omega arith))) a) a
    tree_is_nested (T.CoCall place x es) D W B c s w f p p' e a =
        nested_append (tree_is_nested x D W B c s w f.0 p p' e (ways_ahead (omega arith) a)) (nested_append (bodies_neat es D W (more s) f.1
        (p + size D x) (p' + size D x) (omega arith) (ways_ahead (omega arith) a)) (nested_plain _ refl (nested_plain _ refl (nested_nil _ (omega arith)))) a) a
    tree_is_nested (T.Subscript place x es) D W B c s w f p p' e a = nested_append (tree_is_nested x D W B c s w f.0 p p' e (ways_ahead (omega arith) a))
        (nested_to _ (omega arith) (subscripts_neat es D W B c s w f.2 (p + size D x) (p' + size D x) (omega arith) (ways_ahead (omega arith) a))) a
    tree_is_nested (T.Section place kind x y z) D W B c s w f p p' e a = nested_append (tree_is_nested x D W B c s w f.0 p p' e (ways_ahead (omega arith) a))
        (nested_append (tree_is_nested y D W B c (more s) w f.1 (p + size D x) (p' + size D x) (omega arith) (ways_ahead (omega arith) a))
        (nested_append (tree_is_nested z D W B c (more (more s)) w f.2 (p + size D x + size D y) (p' + size D x + size D y) (omega arith)
        (ways_ahead (omega arith) a))
        (nested_plain _ refl (nested_nil _ (omega arith))) a) a) a
    tree_is_nested (T.Field place x name) D W B c s w f p p' e a =
        nested_append (tree_is_nested x D W B c s w f.0 p p' e (ways_ahead (omega arith) a)) (nested_plain _ refl (nested_nil _ (omega arith))) a
    tree_is_nested (T.Prefix place op x) D W B c s w f p p' e a = prefix_neat D W B c s x (tree_is_nested x) w f.0 f.1 p p' e a
    tree_is_nested (T.Not place x) D W B c s w f p p' e a =
        let n = tree_is_nested x (deeper D) W B c (in_mark s) w f (p + 1) (suc p') (omega arith) (ways_ahead (omega arith) a) in
        nested_forward _ (suc (suc (suc p' + size (deeper D) x))) forward_mark (omega arith) (omega arith)
        (pass_before n (omega arith) (pass_plain _ refl (pass_plain _ refl (pass_plain _ refl nested_over))))
        (nested_append n (nested_plain _ refl (nested_plain _ refl (nested_plain _ refl (nested_nil _ (omega arith))))) a)
    tree_is_nested (T.Binary place (Plain op) x y) D W B c s w f p p' e a =
        plain_neat D W B c s x y (tree_is_nested x) (tree_is_nested y) w f.0 f.1 f.2 p p' e a
    tree_is_nested (T.Binary place (Augmented op) x y) D W B c s w f p p' e a =
        augmented_neat D W B c s x y (tree_is_nested x) (tree_is_nested y) w f.0 f.1 f.2 p p' e a
    tree_is_nested (T.To place x y by) D W B c s w f p p' e a = nested_append (tree_is_nested x D W B c s w f.0 p p' e (ways_ahead (omega arith) a))
        (nested_append (tree_is_nested y D W B c (more s) w f.1 (p + size D x) (p' + size D x) (omega arith) (ways_ahead (omega arith) a))
        (nested_append (by_neat by D W B c (more (more s)) w f.2 (p + size D x + size D y) (p' + size D x + size D y) (omega arith)
        (ways_ahead (omega arith) a))
        (nested_plain _ refl (nested_nil _ (omega arith))) a) a) a
    tree_is_nested (T.If place x y Absent) D W B c s w f p p' e a =
        nested_plain _ refl (nested_append (tree_is_nested x (deeper D) W B c (in_mark s) w f.0 (p + 1) (suc p') (omega arith) (ways_ahead (omega arith) a))
        (nested_plain _ refl (nested_to _ (omega arith)
        (tree_is_nested y D W B c s w f.1 (p + size (deeper D) x + 2) (suc (suc p' + size (deeper D) x)) (omega arith) (ways_ahead (omega arith) a)))) a)
    tree_is_nested (T.If place x y (Present z)) D W B c s w f p p' e a =
        let q = suc (suc p' + size (deeper D) x) in let t = suc (q + size D y) in
        let n = tree_is_nested x (deeper D) W B c (in_mark s) w f.0 (p + 1) (suc p') (omega arith) (ways_ahead (omega arith) a) in
        let k = tree_is_nested y D W B c s w f.1 (p + size (deeper D) x + 2) q (omega arith) (ways_ahead (omega arith) a) in
        let l = tree_is_nested z D W B c s w f.2 (p + (size (deeper D) x + size D y) + 3) t (omega arith) (ways_ahead (omega arith) a) in
        nested_forward _ t forward_mark (omega arith) (omega arith)
        (pass_before n (omega arith) (pass_plain _ refl (pass_before k (omega arith) (pass_forward _ forward_goto (pass_after l (omega arith))))))
        (nested_append n
        (nested_plain _ refl (nested_append k
        (nested_forward _ (t + size D z) forward_goto (omega arith) (omega arith) (lies_before l (omega arith)) (nested_to _ (omega arith) l)) a)) a)
    tree_is_nested (T.Case place x cases) D W B c s w f p p' e a =
        let last = p + size (deeper D) x + clauses_size D cases + default_size D cases + 3 in
        let q = suc (suc p' + size (deeper D) x) in
        let V = ways last last in
        let n = nested_wider (V ∷ W) (λ m i. out_outer i)
        (tree_is_nested x (deeper D) W B c (in_mark s) w f.0 (p + 1) (suc p') (omega arith) (ways_ahead (omega arith) a)) in
        let t = nested_wider (V ∷ W) (λ m i. out_outer i) (default_neat cases D W B c s w f.2 (p + size (deeper D) x + 3 + clauses_size D cases)
        (suc (q + clauses_size D cases)) (omega arith) (ways_ahead (omega arith) a)) in
        let k = cases_neat cases D W B c s w f.1 (p + size (deeper D) x + 2) q last (omega arith) (omega arith) (ways_ahead (omega arith) a) in
        let b = ahead_loop (p' + (size (deeper D) x + clauses_size D cases + default_size D cases + 3)) last last (omega arith) (omega arith) a in
        narrow last (omega arith)
        (nested_plain _ refl (nested_append n (nested_plain _ refl (nested_append k (nested_plain _ refl (nested_to _ (omega arith) t)) b)) b))
    tree_is_nested (T.Loop place While x b) D W B c s w f p p' e a =
        let z = size (loop_of 1 0 ∷ D) x in let y = body_size (loop_of 1 0 ∷ D) b in
        let V = ways (p + z + y + 3) (p + z + y + 2) in let q = suc (suc p' + z) in let l = q + y in
        let A : WaysAhead l (V ∷ W) = ahead_loop l (p + z + y + 3) (p + z + y + 2) (omega arith) (omega arith) (ways_ahead (omega arith) a) in
        let n = tree_is_nested x (loop_of 1 0 ∷ D) (V ∷ W) (true ∷ B) c (in_mark s) w f.0 (p + 1) (suc p') (omega arith) (ways_ahead (omega arith) A) in
        let k = body_neat b (loop_of 1 0 ∷ D) (V ∷ W) (true ∷ B) c s w f.1 (p + z + 2) q (omega arith) A in
        let xs = code N (loop_of 1 0 ∷ D) (V ∷ W) (p + 1) (in_mark s) x in
        let ys = o (more (in_mark s)) I.Unmark ∷ body_code N (loop_of 1 0 ∷ D) (V ∷ W) (p + z + 2) s b in
        let h : WellNested W p' ((o s I.Mark0 ∷ xs ++ ys) ++ (o s (I.Loop p) ∷ [])) (suc l) = nested_back (o s (I.Loop p))
        (λ l k. one_backward_label backward_loop k ∙ sym e)
        (λ m i. loop_leads i) (ways_left W l (p + z + y + 3) (p + z + y + 2) (omega arith) (omega arith))
        (nested_plain _ refl (nested_append n (nested_plain _ refl k) A)) in
        nested_to _ (omega arith) (subst (λ zs. WellNested W p' (o s I.Mark0 ∷ zs) (suc l)) (append_assoc xs ys (o s (I.Loop p) ∷ [])) h)
    tree_is_nested (T.Loop place Until x b) D W B c s w f p p' e a =
        let z = size (loop_of 1 0 ∷ D) x in let y = body_size (loop_of 1 0 ∷ D) b in
        let V = ways (p + z + y + 4) (p + z + y + 3) in let q = suc (suc (suc p' + z)) in let l = q + y in
        let A : WaysAhead l (V ∷ W) = ahead_loop l (p + z + y + 4) (p + z + y + 3) (omega arith) (omega arith) (ways_ahead (omega arith) a) in
        let n = tree_is_nested x (loop_of 1 0 ∷ D) (V ∷ W) (true ∷ B) c (in_mark s) w f.0 (p + 1) (suc p') (omega arith) (ways_ahead (omega arith) A) in
        let k = body_neat b (loop_of 1 0 ∷ D) (V ∷ W) (true ∷ B) c s w f.1 (p + z + 3) q (omega arith) A in
        let xs = code N (loop_of 1 0 ∷ D) (V ∷ W) (p + 1) (in_mark s) x in
        let ys = o (more (in_mark s)) I.Unmark ∷ o s I.Efail ∷ body_code N (loop_of 1 0 ∷ D) (V ∷ W) (p + z + 3) s b in
        let h : WellNested W p' ((o s (I.Mark (p + z + 3)) ∷ xs ++ ys) ++ (o s (I.Loop p) ∷ [])) (suc l) = nested_back (o s (I.Loop p))
        (λ l k. one_backward_label backward_loop k ∙ sym e)
        (λ m i. loop_leads i) (ways_left W l (p + z + y + 4) (p + z + y + 3) (omega arith) (omega arith))
        (nested_forward _ q forward_mark (omega arith) (omega arith)
        (pass_before n (omega arith) (pass_plain _ refl (pass_plain _ refl (pass_after k (omega arith)))))
        (nested_append n (nested_plain _ refl (nested_plain _ refl k)) A)) in
        nested_to _ (omega arith) (subst (λ zs. WellNested W p' (o s (I.Mark (p + z + 3)) ∷ zs) (suc l)) (append_assoc xs ys (o s (I.Loop p) ∷ [])) h)
    tree_is_nested (T.Loop place Every x b) D W B c s w f p p' e a =
        let z = size (control_of 1 ∷ D) x in let y = body_size (loop_of 2 1 ∷ D) b in
        let V = ways (p + z + y + 3) (p + z + y + 2) in let q = suc (suc p' + z) in let l = q + y in
        let A : WaysAhead l (V ∷ W) = ahead_loop l (p + z + y + 3) (p + z + y + 2) (omega arith) (omega arith) (ways_ahead (omega arith) a) in
        let n = tree_is_nested x (control_of 1 ∷ D) (V ∷ W) (false ∷ B) c (in_mark s) w f.0 (p + 1) (suc p') (omega arith) (ways_ahead (omega arith) A) in
        let k = body_neat b (loop_of 2 1 ∷ D) (V ∷ W) (true ∷ B) c (in_mark s) w f.1 (p + z + 2) q (omega arith) A in
        let xs = code N (control_of 1 ∷ D) (V ∷ W) (p + 1) (in_mark s) x in
        let ys = o (more (in_mark s)) I.Pop ∷ body_code N (loop_of 2 1 ∷ D) (V ∷ W) (p + z + 2) (in_mark s) b in
        let h : WellNested W p' ((o s I.Mark0 ∷ xs ++ ys) ++ (o (in_mark s) I.Efail ∷ [])) (suc l) = nested_back (o (in_mark s) I.Efail)
        (λ l k. absurd (plain_not_backward refl k))
        (λ m i. plain_not_forward refl i) (ways_left W l (p + z + y + 3) (p + z + y + 2) (omega arith) (omega arith))
        (nested_plain _ refl (nested_append n (nested_plain _ refl k) A)) in
        nested_to _ (omega arith) (subst (λ zs. WellNested W p' (o s I.Mark0 ∷ zs) (suc l)) (append_assoc xs ys (o (in_mark s) I.Efail ∷ [])) h)
    tree_is_nested (T.Repeat place x) D W B c s w f p p' e a =
        let z = size (loop_of 1 0 ∷ D) x in
        let V = ways (p + z + 3) (p + z + 2) in let l = suc (suc p' + z) in
        let A : WaysAhead l (V ∷ W) = ahead_loop l (p + z + 3) (p + z + 2) (omega arith) (omega arith) (ways_ahead (omega arith) a) in
        let n = tree_is_nested x (loop_of 1 0 ∷ D) (V ∷ W) (true ∷ B) c (in_mark s) w f (p + 1) (suc p') (omega arith) (ways_ahead (omega arith) A) in
        let xs = code N (loop_of 1 0 ∷ D) (V ∷ W) (p + 1) (in_mark s) x in let ys = o (more (in_mark s)) I.Unmark ∷ [] in
        let h : WellNested W p' ((o s (I.Mark (p + z + 2)) ∷ xs ++ ys) ++ (o s (I.Loop p) ∷ [])) (suc l) = nested_back (o s (I.Loop p))
        (λ l k. one_backward_label backward_loop k ∙ sym e)
        (λ m i. loop_leads i) (ways_left W l (p + z + 3) (p + z + 2) (omega arith) (omega arith))
        (nested_forward _ l forward_mark (omega arith) (omega arith) (pass_before n (omega arith) (pass_plain _ refl nested_over))
        (nested_append n (nested_plain _ refl (nested_nil _ refl)) A)) in
        nested_to _ (omega arith) (subst (λ zs. WellNested W p' (o s (I.Mark (p + z + 2)) ∷ zs) (suc l)) (append_assoc xs ys (o s (I.Loop p) ∷ [])) h)
    tree_is_nested (T.Create place x) D W B c s w f p p' e a = created_neat W s x (tree_is_nested x) f p p' e a
    tree_is_nested (T.Next place) D W [] c s w f p p' e a = absurd f
    tree_is_nested (T.Next place) D [] (b ∷ B) c s w f p p' e a = absurd w
    tree_is_nested (T.Next place) D (v ∷ W) (b ∷ B) c s w f p p' e a = next_neat D v W s p' a
    tree_is_nested (T.Fail place) D W B c s w f p p' e a = nested_plain _ refl (nested_nil _ (omega arith))
    tree_is_nested (T.Break place x) D W [] c s w f p p' e a = absurd f
    tree_is_nested (T.Break place x) D [] (b ∷ B) c s w f p p' e a = absurd w
    tree_is_nested (T.Break place x) D (v ∷ W) (b ∷ B) c s w f p p' e a =
        break_neat D v W s p p' (size (around D) x) (λ p' s'. code N (around D) W p' s' x)
        (λ p p' s e a. tree_is_nested x (around D) W B c s w f p p' e a) e a
    tree_is_nested (T.Return place x) D W B c s w f p p' e a =
        let n = tree_is_nested x (deeper D) W B c (in_mark s) w f.1 (p + 1) (suc p') (omega arith) (ways_ahead (omega arith) a) in
        nested_forward _ (suc (suc p' + size (deeper D) x)) forward_mark (omega arith) (omega arith)
        (pass_before n (omega arith) (pass_plain _ refl (pass_plain _ refl nested_over)))
        (nested_append n (nested_plain _ refl (nested_plain _ refl (nested_nil _ (omega arith)))) a)
    tree_is_nested (T.Suspend place x b) D W B c s w f p p' e a =
        nested_plain _ refl (nested_append (tree_is_nested x (deeper D) W B c (in_mark s) w f.1 (p + 1) (suc p') (omega arith) (ways_ahead (omega arith) a))
        (nested_plain _ refl (nested_plain _ refl (nested_append (body_neat b (deeper (deeper D)) W B c (in_mark s) w f.2 (p + size (deeper D) x + 3)
        (suc (suc (suc p' + size (deeper D) x))) (omega arith) (ways_ahead (omega arith) a)) (nested_plain _ refl (nested_nil _ (omega arith))) a))) a)

    conjunction_neat : (es : Trees) (D : List Depth) (W : List LoopExits) (B : List Bool) (c : Bool) (s : NotedShape) → Same W B → FitAll L j N B c es
        → (p p' : ℕ)
        → p' ≡ p → WaysAhead (p' + conjunction_size D es) W → WellNested W p' (conjunction N D W p s es) (p' + conjunction_size D es)
    conjunction_neat NoTrees D W B c s w f p p' e a = nested_nil _ (omega arith)
    conjunction_neat (More x NoTrees) D W B c s w f p p' e a = tree_is_nested x D W B c s w f.0 p p' e a
    conjunction_neat (More x (More y es)) D W B c s w f p p' e a =
        nested_append (tree_is_nested x D W B c s w f.0 p p' e (ways_ahead (omega arith) a)) (nested_plain _ refl
        (nested_to _ (omega arith)
        (conjunction_neat (More y es) D W B c s w f.1 (p + size D x + 1) (suc (p' + size D x)) (omega arith) (ways_ahead (omega arith) a)))) a

    compound_neat : (es : Trees) (D : List Depth) (W : List LoopExits) (B : List Bool) (c : Bool) (s : NotedShape) → Same W B → FitAll L j N B c es → (p p' : ℕ)
        → p' ≡ p
        → WaysAhead (p' + compound_size D es) W → WellNested W p' (compound N D W p s es) (p' + compound_size D es)
    compound_neat NoTrees D W B c s w f p p' e a = nested_nil _ (omega arith)
    compound_neat (More x NoTrees) D W B c s w f p p' e a = tree_is_nested x D W B c s w f.0 p p' e a
    compound_neat (More T.Empty (More y es)) D W B c s w f p p' e a =
        nested_to _ (omega arith) (compound_neat (More y es) D W B c s w f.1 p p' e (ways_ahead (omega arith) a))
    compound_neat (More x (More y es)) D W B c s w f p p' e a =
        let n = tree_is_nested x (deeper D) W B c (in_mark s) w f.0 (p + 1) (suc p') (omega arith) (ways_ahead (omega arith) a) in
        let k = compound_neat (More y es) D W B c s w f.1 (p + size (deeper D) x + 2) (suc (suc p' + size (deeper D) x)) (omega arith)
        (ways_ahead (omega arith) a) in
        nested_forward _ (suc (suc p' + size (deeper D) x)) forward_mark (omega arith) (omega arith)
        (pass_before n (omega arith) (pass_plain _ refl (pass_after k (omega arith))))
        (nested_append n (nested_plain _ refl (nested_to _ (omega arith) k)) a)

    elements_neat : (es : Trees) (D : List Depth) (W : List LoopExits) (B : List Bool) (c : Bool) (s : NotedShape) → Same W B → FitAll L j N B c es → (p p' : ℕ)
        → p' ≡ p
        → WaysAhead (p' + elements_size D es) W → WellNested W p' (elements_code N D W p s es) (p' + elements_size D es)
    elements_neat NoTrees D W B c s w f p p' e a = nested_nil _ (omega arith)
    elements_neat (More T.Empty NoTrees) D W B c s w f p p' e a = nested_nil _ (omega arith)
    elements_neat (More x es) D W B c s w f p p' e a = nested_append (tree_is_nested x D W B c s w f.0 p p' e (ways_ahead (omega arith) a))
        (nested_to _ (omega arith) (operands_neat es D W B c (more s) w f.1 (p + size D x) (p' + size D x) (omega arith) (ways_ahead (omega arith) a))) a

    operands_neat : (es : Trees) (D : List Depth) (W : List LoopExits) (B : List Bool) (c : Bool) (s : NotedShape) → Same W B → FitAll L j N B c es → (p p' : ℕ)
        → p' ≡ p
        → WaysAhead (p' + sizes D es) W → WellNested W p' (operands N D W p s es) (p' + sizes D es)
    operands_neat NoTrees D W B c s w f p p' e a = nested_nil _ (omega arith)
    operands_neat (More x es) D W B c s w f p p' e a = nested_append (tree_is_nested x D W B c s w f.0 p p' e (ways_ahead (omega arith) a))
        (nested_to _ (omega arith) (operands_neat es D W B c (more s) w f.1 (p + size D x) (p' + size D x) (omega arith) (ways_ahead (omega arith) a))) a

    creates_neat : (es : Trees) (D : List Depth) (W : List LoopExits) (s : NotedShape) → FitCreates L j N es → (p p' : ℕ) → p' ≡ p
        → WaysAhead (p' + creates_size D es) W
        → WellNested W p' (creates N p s es) (p' + creates_size D es)
    creates_neat NoTrees D W s f p p' e a = nested_nil _ (omega arith)
    creates_neat (More x es) D W s f p p' e a = nested_append (created_neat W s x (tree_is_nested x) f.0 p p' e (ways_ahead (omega arith) a))
        (nested_to _ (omega arith) (creates_neat es D W (more s) f.1 (p + size [] x + 5) (p' + (size [] x + 5)) (omega arith) (ways_ahead (omega arith) a))) a

    bodies_neat : (es : Trees) (D : List Depth) (W : List LoopExits) (s : NotedShape) → FitCreates L j N es → (p p' : ℕ) → p' ≡ p
        → WaysAhead (p' + bodies_size D es) W
        → WellNested W p' (bodies_code N p s es) (p' + bodies_size D es)
    bodies_neat NoTrees D W s f p p' e a = nested_nil _ (omega arith)
    bodies_neat (More T.Empty NoTrees) D W s f p p' e a = nested_nil _ (omega arith)
    bodies_neat (More x es) D W s f p p' e a = nested_append (created_neat W s x (tree_is_nested x) f.0 p p' e (ways_ahead (omega arith) a))
        (nested_to _ (omega arith) (creates_neat es D W (more s) f.1 (p + size [] x + 5) (p' + (size [] x + 5)) (omega arith) (ways_ahead (omega arith) a))) a

    subscripts_neat : (es : Trees) (D : List Depth) (W : List LoopExits) (B : List Bool) (c : Bool) (s : NotedShape) → Same W B → FitAll L j N B c es
        → (p p' : ℕ)
        → p' ≡ p → WaysAhead (p' + subscripts_size D es) W → WellNested W p' (subscripts N D W p s es) (p' + subscripts_size D es)
    subscripts_neat NoTrees D W B c s w f p p' e a = nested_nil _ (omega arith)
    subscripts_neat (More x es) D W B c s w f p p' e a =
        nested_append (tree_is_nested x D W B c (more s) w f.0 p p' e (ways_ahead (omega arith) a)) (nested_plain _ refl (nested_to _ (omega arith)
        (subscripts_neat es D W B c s w f.1 (p + size D x + 1) (suc (p' + size D x)) (omega arith) (ways_ahead (omega arith) a)))) a

    by_neat : (by : MaybeTree) (D : List Depth) (W : List LoopExits) (B : List Bool) (c : Bool) (s : NotedShape) → Same W B → FitBy L j N B c by → (p p' : ℕ)
        → p' ≡ p
        → WaysAhead (p' + by_size D by) W → WellNested W p' (by_code N D W p s by) (p' + by_size D by)
    by_neat Absent D W B c s w f p p' e a = nested_plain _ refl (nested_nil _ (omega arith))
    by_neat (Present x) D W B c s w f p p' e a = tree_is_nested x D W B c s w f p p' e a

    body_neat : (b : MaybeTree) (D : List Depth) (W : List LoopExits) (B : List Bool) (c : Bool) (s : NotedShape) → Same W B → FitMaybe L j N B c b → (p p' : ℕ)
        → p' ≡ p
        → WaysAhead (p' + body_size D b) W → WellNested W p' (body_code N D W p s b) (p' + body_size D b)
    body_neat Absent D W B c s w f p p' e a = nested_nil _ (omega arith)
    body_neat (Present x) D W B c s w f p p' e a =
        let n = tree_is_nested x D W B c (in_mark s) w f (p + 1) (suc p') (omega arith) (ways_ahead (omega arith) a) in
        nested_forward _ (suc (suc p' + size D x)) forward_mark (omega arith) (omega arith) (pass_before n (omega arith) (pass_plain _ refl nested_over))
        (nested_append n (nested_plain _ refl (nested_nil _ (omega arith))) a)

    cases_neat : (cases : Clauses) (D : List Depth) (W : List LoopExits) (B : List Bool) (c : Bool) (s : NotedShape)
        → Same W B → FitClauses L j N B c cases → (p p' last : ℕ) → p' ≡ p → p' + clauses_size D cases ≤ last → WaysAhead (p' + clauses_size D cases) W
        → WellNested (ways last last ∷ W) p' (clauses_code N D W p last s cases) (p' + clauses_size D cases)
    cases_neat NoClauses D W B c s w f p p' last e g a = nested_nil _ (omega arith)
    cases_neat (MoreClauses (Default place x) cases) D W B c s w f p p' last e g a =
        nested_to _ (omega arith) (cases_neat cases D W B c s w f.1 (p + 0) p' last (omega arith) (omega arith) (ways_ahead (omega arith) a))
    cases_neat (MoreClauses (Guarded place x y) cases) D W B c s w f p p' last e g a =
        let t = size (deeper D) x + size D y + 6 in
        let q = suc (suc (suc (suc (suc p') + size (deeper D) x))) in
        let V = ways last last ∷ W in
        let A = ahead_loop (p' + t) last last (omega arith) (omega arith) (ways_ahead (omega arith) a) in
        let n = nested_wider V (λ m i. out_outer i)
        (tree_is_nested x (deeper D) W B c (more (in_mark (more s))) w f.0.0 (p + 2) (suc (suc p')) (omega arith) (ways_ahead (omega arith) a)) in
        let k = nested_wider V (λ m i. out_outer i)
        (tree_is_nested y D W B c s w f.0.1 (p + size (deeper D) x + 5) q (omega arith) (ways_ahead (omega arith) a)) in
        let h : WellNested V p' (clause_code N D W p last s (Guarded place x y)) (p' + t) = nested_forward _ (p' + t) forward_mark (omega arith) (omega arith)
        (pass_plain _ refl (pass_before n (omega arith)
        (pass_plain _ refl (pass_plain _ refl (pass_plain _ refl (pass_before k (omega arith) (pass_forward _ forward_goto nested_over)))))))
        (nested_plain _ refl (nested_append n (nested_plain _ refl
        (nested_plain _ refl (nested_plain _ refl (nested_append k (nested_to _ (omega arith) (nested_out _ forward_goto (out_last refl))) A)))) A)) in
        nested_append h
        (nested_to _ (omega arith) (cases_neat cases D W B c s w f.1 (p + t) (p' + t) last (omega arith) (omega arith) (ways_ahead (omega arith) a)))
        (ahead_loop (p' + (t + clauses_size D cases)) last last (omega arith) (omega arith) a)

    default_neat : (cases : Clauses) (D : List Depth) (W : List LoopExits) (B : List Bool) (c : Bool) (s : NotedShape) → Same W B → FitDefault L j N B c cases
        → (p p' : ℕ) → p' ≡ p → WaysAhead (p' + default_size D cases) W → WellNested W p' (default_code N D W p s cases) (p' + default_size D cases)
    default_neat NoClauses D W B c s w f p p' e a = nested_plain _ refl (nested_nil _ (omega arith))
    default_neat (MoreClauses (Default place x) cases) D W B c s w f p p' e a = tree_is_nested x D W B c s w f p p' e a
    default_neat (MoreClauses (Guarded place x y) cases) D W B c s w f p p' e a = default_neat cases D W B c s w f p p' e a
