-- The code of each form is its translation with places for labels: one line a form, in the order of the translation.
use Rattle.std.proofs.Common.{◌≡◌, ℕ, suc, ◌+◌, Bool, true, false, List, [], ◌∷◌, ◌++◌, length, Option, Some, None, replicate, refl, sym, ap, subst, ◌∙◌, append_assoc, pos, if◌then◌else◌, arith}
use Rattle.icn_text.specs.declared.keyword.Keyword.{Keyword as KeywordNamed}
use Rattle.icn_text.specs.declared.op.Op.TheVariants as O
use Rattle.icn_tree.specs.declared.tree.Infix.TheVariants.{Plain, Augmented}
use Rattle.icn_tree.specs.declared.tree.LoopKind.TheVariants.{While, Until, Every}
use Rattle.icn_tree.specs.Trees.{Tree, MaybeTree, Trees, Clause, Clauses, Empty, Constant, Identifier, Keyword, Parentheses, Listing, Compound, Call, CoCall, Subscript, Section, Field, Prefix, Not, Binary, To, If, Case, Loop, Repeat, Create, Next, Fail, Break, Return, Suspend, Absent, Present, NoTrees, More, Default, Guarded, NoClauses, MoreClauses}
use Rattle.icn_decls.specs.Contexts.{Context, create_context as created_context, enter_loop, leave_loop, others}
use Rattle.icn_decls.specs.Faults.{faults, maybe_faults, all_faults, clauses_faults, clause_faults, is_default}
use Rattle.icn_code.specs.declared.instr.Instr.{Instr}
use Rattle.icn_code.specs.declared.instr.Instr.TheVariants as I
use Rattle.icn_unit.specs.declared.unit.UnitInstr.{UnitInstr}
use Rattle.icn_unit.specs.declared.unit.UnitInstr.TheVariants as U
use Rattle.icn_unit.specs.UnitOperands.{keyword_of}
use Rattle.icn_translate.specs.Drafts.{Draft, ◌▹◌, put, aside, put_next, put_last}
use Rattle.icn_translate.specs.Instructions.{literal_instr, keyword_instr, section_op, infix_form, update_form, prefix_form}
use Rattle.icn_translate.specs.OpenMarks.{OpenMarks, Outermost, Marked, Looped, Controlled, Each, is_loopless, is_nextless, unmarks_for_break, unmarks_for_next, around}
use Rattle.icn_translate.specs.Translation as T
use Rattle.icn_translate.specs.Translation.{translate, operands, arguments, conjunction, compound, creations, other_creations, subscripts, to_step, looped_part, suspended_part, guarded_part, guarded_clause, default_part}
use Rattle.icn_units.proofs.KeptByForms.{none_before, none_behind, break_inside, next_inside}
use Rattle.icn_link.specs.Resolving.{Scope, resolved_one}
use Rattle.law_simulation.specs.Translation as X
use Rattle.law_link.proofs.CodeSteps.{Gives, no_facts, gives_nothing, gives_instruction, ◌⨾◌, given_as}
use Rattle.law_link.proofs.CodeWays.{puts_next, puts_last, set_aside}
use Rattle.law_link.proofs.CodeNames.{AgreeOn, puts_variable, keyword_is, keyword_same, literal_code_is}
use Rattle.law_link.proofs.CodeParts.{bounded_gives, created_gives, not_gives, return_gives, branches_give, lone_label_gives}
use Rattle.law_link.proofs.CodeOpen.{depths, loops_in, flags_in, Within, loops_counted, opened_in, dropped_in, first_in, loop_is_open, MayPass, next_passes, next_size_is, next_code_is, break_size_is, break_code_is, around_depths, loops_around, flags_around, unmarks_for_break_give, unmarks_for_next_give}
use Rattle.law_link.proofs.CodeOperators.{form_same, update_same, prefix_same, section_same, prefix_gives, plain_gives, augmented_gives}
use Rattle.law_link.proofs.CodeLoops.{EndsAt, looped_gives, repeat_gives, while_gives, every_gives, until_gives, clause_gives, case_gives}

-- Parts that stand in several forms

module _ {S : Scope} {F : List (List ℕ)} {W : List X.LoopExits} {E : List ℕ} where
  -- a step, or none
  pub unless_gives : {s : Draft → Draft} {n : ℕ} {c : ℕ → List Instr} (b : Bool) → Gives S F W E s n c no_facts
      → Gives S F W E (λ d. elim b as (λ x. Draft) [ true ↦ d | false ↦ s d ]) (if b then 0 else n) (λ p. if b then [] else c p) no_facts
  unless_gives true x = gives_nothing
  unless_gives false x = x

  -- with nothing to know of labels
  pub plainly : {s : Draft → Draft} {n m : ℕ} {a b : ℕ → List Instr} {f : ℕ → Type 0} → Gives S F W E s n a f → n ≡ m → ((p : ℕ) → a p ≡ b p)
      → Gives S F W E s m b no_facts
  plainly x e same = given_as x e (λ p f. (same p, tt))

module _ {S : Scope} {F : List (List ℕ)} {E : List ℕ} where
  -- `next` and `break` in a loop
  next_inside_gives : (o : OpenMarks) (n : ℕ) → loops_in o ≡ suc n → (V R : List X.LoopExits) → length V ≡ suc n
      → Gives S F (V ++ R) E (λ d. d ▹ unmarks_for_next o ▹ put_next U.Goto) (dropped_in (depths o) + 1)
      (λ p. replicate (dropped_in (depths o)) I.Unmark ++ I.Goto (X.next_way V) ∷ []) no_facts
  next_inside_gives o n h [] R e = absurd (omega arith)
  next_inside_gives o n h (w ∷ V) R e =
      plainly (unmarks_for_next_give o n h ⨾ puts_next U.Goto I.Goto (λ l. refl)) refl (λ p. refl)

  break_inside_gives : (o : OpenMarks) (n : ℕ) → loops_in o ≡ suc n → (V R : List X.LoopExits) → length V ≡ suc n
      → {s : Draft → Draft} {m : ℕ} {c : ℕ → List Instr} → Gives S F (X.around V ++ R) E s m c no_facts
      → Gives S F (V ++ R) E (λ d. d ▹ unmarks_for_break o ▹ aside s ▹ put_last U.Goto) (opened_in (depths o) + m + 1)
      (λ p. replicate (opened_in (depths o)) I.Unmark ++ (c (p + opened_in (depths o)) ++ I.Goto (X.last_way V) ∷ [])) no_facts
  break_inside_gives o n h [] R e x = absurd (omega arith)
  break_inside_gives o n h (w ∷ V) R e x =
      plainly (unmarks_for_break_give o n h ⨾ set_aside x ⨾ puts_last U.Goto I.Goto (λ l. refl)) (omega arith) (λ p. refl)

  next_gives : (o : OpenMarks) (n : ℕ) → loops_in o ≡ suc n → MayPass o → (V R : List X.LoopExits) → length V ≡ suc n
      → Gives S F (V ++ R) E (T.next_code o) (X.next_size (depths o)) (λ p. X.next_code (depths o) (X.next_way V)) no_facts
  next_gives o n h m V R e =
      plainly (unless_gives (is_nextless o) (next_inside_gives o n h V R e))
      (ap (λ b. if b then 0 else dropped_in (depths o) + 1) m.asks ∙ next_size_is (depths o) m.passes)
      (λ p. ap (λ b. if b then [] else replicate (dropped_in (depths o)) I.Unmark ++ I.Goto (X.next_way V) ∷ []) m.asks
      ∙ next_code_is (depths o) m.passes (X.next_way V))

  break_gives : (o : OpenMarks) (n : ℕ) → loops_in o ≡ suc n → (V R : List X.LoopExits) → length V ≡ suc n
      → {s : Draft → Draft} {m : ℕ} {c : ℕ → List Instr} → Gives S F (X.around V ++ R) E s m c no_facts
      → Gives S F (V ++ R) E (T.break_code o s) (X.break_size (depths o) m) (λ p. X.break_code (depths o) (X.last_way V) c p) no_facts
  break_gives o n h V R e {m = m} {c = c} x =
      let k = opened_in (depths o) in
      let first = first_in o n h in
      plainly (unless_gives (is_loopless o) (break_inside_gives o n h V R e x))
      (ap (λ b. if b then 0 else k + m + 1) (loop_is_open o n h) ∙ break_size_is (depths o) first m)
      (λ p. ap (λ b. if b then [] else replicate k I.Unmark ++ (c (p + k) ++ I.Goto (X.last_way V) ∷ [])) (loop_is_open o n h)
      ∙ break_code_is (depths o) first (X.last_way V) c p)

-- What both translations ask of a tree

pub empty_same : (e : Tree) → T.is_empty e ≡ X.is_empty e
empty_same Empty = refl
empty_same e = refl

no_element_same : (es : Trees) → T.is_no_element es ≡ X.is_no_element es
no_element_same NoTrees = refl
no_element_same (More Empty NoTrees) = refl
no_element_same (More e es) = refl

count_same : (es : Trees) → T.count_of es ≡ X.count_of es
count_same NoTrees = refl
count_same (More e es) = ap suc (count_same es)

elements_same : (es : Trees) → T.elements es ≡ X.elements es
elements_same NoTrees = refl
elements_same (More Empty NoTrees) = refl
elements_same (More e es) = count_same (More e es)

around_ways : (V : List X.LoopExits) (n : ℕ) → length V ≡ suc n → length (X.around V) ≡ n
around_ways [] n h = absurd (omega arith)
around_ways (w ∷ V) n h = omega arith

-- the `do` part of a loop, which goes on at the place that `next` goes to
abbrev looped_code : X.SymbolTable → List X.Depth → List X.LoopExits → X.LoopExits → ℕ → MaybeTree → List Instr
looped_code N D V w p Absent = []
looped_code N D V w p (Present b) = I.Mark w.next ∷ X.code N D (w ∷ V) (p + 1) b ++ I.Unmark ∷ []

looped_ends : (N : X.SymbolTable) (D : List X.Depth) (V : List X.LoopExits) (b : MaybeTree)
    → EndsAt (X.body_size D b) (λ w p. looped_code N D V w p b) (λ w p. X.body_code N D (w ∷ V) p b)
looped_ends N D V Absent = record { same = λ w p h. refl }
looped_ends N D V (Present b) = record {
  same = λ w p h. (let at : w.next ≡ p + X.size D b + 2 = omega arith in ap (λ k. I.Mark k ∷ X.code N D (w ∷ V) (p + 1) b ++ I.Unmark ∷ []) at);
}

-- an expression that is bounded unless it is empty, and what stands behind it
compound_code : (b : Bool) (n p : ℕ) (bounded : List Instr) (rest : ℕ → List Instr)
    → (if b then [] else bounded ++ I.Unmark ∷ []) ++ rest (p + (if b then 0 else n + 2)) ≡ (if b then rest p else bounded ++ I.Unmark ∷ rest (p + n + 2))
compound_code true n p bounded rest = let at : p + 0 ≡ p = omega arith in ap rest at
compound_code false n p bounded rest =
    let at : p + (n + 2) ≡ p + n + 2 = omega arith in
    append_assoc bounded (I.Unmark ∷ []) (rest (p + (n + 2))) ∙ ap (λ q. bounded ++ I.Unmark ∷ rest q) at

-- in one more loop
inside : (o : OpenMarks) (c : Context) (V : List X.LoopExits) (b : Bool) (v : X.LoopExits) → Within o c V
    → (b ∷ c.loops ≡ b ∷ flags_in o) × (length (v ∷ V) ≡ suc (loops_in o))
inside o c V b v w = (ap (λ l. b ∷ l) w.0, let h = w.1 in omega arith)

-- Forms

module _ {S : Scope} {N : X.SymbolTable} {F : List (List ℕ)} (agree : AgreeOn S N F) where
  puts_as : {W : List X.LoopExits} {E : List ℕ} (i : UnitInstr) (j : Instr) → resolved_one S i ≡ j ∷ [] → Gives S F W E (put i) 1 (λ p. j ∷ []) no_facts
  puts_as i j e = plainly (gives_instruction i (ap length e)) refl (λ p. e)

  keyword_gives : {W : List X.LoopExits} {E : List ℕ} (found : Option KeywordNamed)
      → Gives S F W E (T.keyword_code found) (X.keyword_size found) (λ p. X.keyword_code found) no_facts
  keyword_gives None = gives_nothing
  keyword_gives (Some word) = puts_as (keyword_instr word) (X.keyword_instr word) (keyword_same S word)

  mutual
    pub tree_gives : (o : OpenMarks) (c : Context) (e : Tree) → faults c e ≡ [] → (V R : List X.LoopExits) → Within o c V → {E : List ℕ}
        → Gives S F (V ++ R) E (translate o e) (X.size (depths o) e) (λ p. X.code N (depths o) V p e) no_facts
    tree_gives o c Empty x V R w = gives_instruction U.Pnull refl
    tree_gives o c (Constant place v) x V R w = puts_as (literal_instr v) (X.literal_code N v) (literal_code_is S N F agree v)
    tree_gives o c (Identifier name) x V R w = puts_variable agree name.text
    tree_gives o c (Keyword place name) x V R w {E = E} =
        subst (λ (found : Option KeywordNamed). Gives S F (V ++ R) E (T.keyword_code (keyword_of name.text)) (X.keyword_size found)
        (λ p. X.keyword_code found) no_facts) (keyword_is name.text) (keyword_gives (keyword_of name.text))
    tree_gives o c (Parentheses place es) x V R w = conjunction_gives o c es x V R w
    tree_gives o c (Listing place es) x V R w =
        plainly (arguments_give o c es x V R w
        ⨾ puts_as (U.Llist (T.elements es)) (I.Llist (X.elements es)) (ap (λ n. I.Llist n ∷ []) (elements_same es)))
        refl (λ p. refl)
    tree_gives o c (Compound place es) x V R w = compound_gives o c es x V R w
    tree_gives o c (Call place f es) x V R w =
        plainly (tree_gives o c f (none_before _ _ x) V R w ⨾ arguments_give o c es (none_behind _ _ x) V R w
        ⨾ puts_as (U.Invoke (T.elements es)) (I.Invoke (X.elements es)) (ap (λ n. I.Invoke n ∷ []) (elements_same es))) (omega arith) (λ p. refl)
    tree_gives o c (CoCall place f es) x V R w =
        plainly (tree_gives o c f (none_before _ _ x) V R w ⨾ creations_give (depths o) es (none_behind _ _ x) (V ++ R)
        ⨾ puts_as (U.Llist (T.elements es)) (I.Llist (X.elements es)) (ap (λ n. I.Llist n ∷ []) (elements_same es))
        ⨾ gives_instruction (U.Invoke 1) refl)
        (omega arith) (λ p. refl)
    tree_gives o c (Subscript place e es) x V R w =
        plainly (tree_gives o c e (none_before _ _ x) V R w ⨾ subscripts_give o c es (none_behind _ _ x) V R w) refl (λ p. refl)
    tree_gives o c (Section place kind e i j) x V R w =
        plainly (tree_gives o c e (none_before _ _ x) V R w ⨾ tree_gives o c i (none_before _ _ (none_behind _ _ x)) V R w
        ⨾ tree_gives o c j (none_behind _ _ (none_behind _ _ x)) V R w
        ⨾ puts_as (U.Op (section_op kind)) (I.Op (X.section_op kind)) (ap (λ op. I.Op op ∷ []) (section_same kind))) (omega arith) (λ p. refl)
    tree_gives o c (Field place e name) x V R w =
        plainly (tree_gives o c e x V R w
        ⨾ puts_as (U.Field name.text) (I.Field (N.field name.text)) (ap (λ k. I.Field k ∷ []) (agree.field name.text))) refl (λ p. refl)
    tree_gives o c (Prefix place operator e) x V R w {E = E} =
        let D = depths o in
        subst (λ (form : Option X.PrefixForm). Gives S F (V ++ R) E (T.prefix_by (prefix_form operator) (translate o e) (translate (Marked o) e))
        (X.prefix_size form (X.size D e) (X.size (X.deeper D) e)) (X.prefix_code form (λ p. X.code N D V p e) (λ p. X.code N (X.deeper D) V p e)) no_facts)
        (prefix_same operator) (prefix_gives (prefix_form operator) (tree_gives o c e x V R w) (tree_gives (Marked o) c e x V R w))
    tree_gives o c (Not place e) x V R w = not_gives (tree_gives (Marked o) c e x V R w)
    tree_gives o c (Binary place (Plain operator) a b) x V R w {E = E} =
        let D = depths o in
        subst (λ (form : Option X.BinaryForm). Gives S F (V ++ R) E (T.plain_form (infix_form operator) (translate o a) (translate (Marked o) a) (translate o b))
        (X.plain_size form (X.size D a) (X.size (X.deeper D) a) (X.size D b))
        (X.plain_code form (X.size D a) (X.size (X.deeper D) a) (X.size D b) (λ p. X.code N D V p a)
        (λ p. X.code N (X.deeper D) V p a) (λ p. X.code N D V p b)) no_facts)
        (form_same operator) (plain_gives (infix_form operator) (tree_gives o c a (none_before _ _ x) V R w)
        (tree_gives (Marked o) c a (none_before _ _ x) V R w)
        (tree_gives o c b (none_behind _ _ x) V R w))
    tree_gives o c (Binary place (Augmented operator) a b) x V R w {E = E} =
        let D = depths o in
        subst (λ (form : Option X.UpdateForm). Gives S F (V ++ R) E (T.augmented_form (update_form operator) (translate o a) (translate o b))
        (X.augmented_size form (X.size D a) (X.size D b)) (X.augmented_code form (X.size D a) (λ p. X.code N D V p a) (λ p. X.code N D V p b)) no_facts)
        (update_same operator) (augmented_gives (update_form operator) (tree_gives o c a (none_before _ _ x) V R w) (tree_gives o c b (none_behind _ _ x) V R w))
    tree_gives o c (To place a b by) x V R w =
        plainly (tree_gives o c a (none_before _ _ x) V R w ⨾ tree_gives o c b (none_before _ _ (none_behind _ _ x)) V R w
        ⨾ to_step_gives o c by (none_behind _ _ (none_behind _ _ x)) V R w ⨾ gives_instruction (U.Op O.ToBy) refl) (omega arith) (λ p. refl)
    tree_gives o c (If place e a Absent) x V R w =
        let D = depths o in
        plainly (gives_instruction U.Mark0 refl ⨾ tree_gives (Marked o) c e (none_before _ _ x) V R w ⨾ gives_instruction U.Unmark refl
        ⨾ tree_gives o c a (none_before _ _ (none_behind _ _ x)) V R w) (omega arith)
        (λ p. (let begins : p + 1 + X.size (X.deeper D) e + 1 ≡ p + X.size (X.deeper D) e + 2 = omega arith in
        ap (λ q. I.Mark0 ∷ X.code N (X.deeper D) V (p + 1) e ++ I.Unmark ∷ X.code N D V q a) begins))
    tree_gives o c (If place e a (Present b)) x V R w =
        branches_give (tree_gives (Marked o) c e (none_before _ _ x) V R w) (tree_gives o c a (none_before _ _ (none_behind _ _ x)) V R w)
        (tree_gives o c b (none_behind _ _ (none_behind _ _ x)) V R w)
    tree_gives o c (Case place e clauses) x V R w =
        case_gives (tree_gives (Marked o) c e (none_before _ _ x) V R w) (λ last. guarded_give o c false clauses (none_behind _ _ x) V R w)
        (λ last. default_part_gives o c false clauses (none_behind _ _ x) V R w)
    tree_gives o c (Loop place While e b) x V R w =
        while_gives (λ v. tree_gives (Marked (Looped o)) (enter_loop true c) e (none_before _ _ x) (v ∷ V) R (inside o c V true v w))
        (λ v. looped_part_gives (Marked (Looped o)) c b (none_behind _ _ x) v V R (inside o c V true v w)) (looped_ends N (depths (Marked (Looped o))) V b)
    tree_gives o c (Loop place Until e b) x V R w =
        until_gives (λ v. tree_gives (Marked (Looped o)) (enter_loop true c) e (none_before _ _ x) (v ∷ V) R (inside o c V true v w))
        (λ v. looped_part_gives (Marked (Looped o)) c b (none_behind _ _ x) v V R (inside o c V true v w)) (looped_ends N (depths (Marked (Looped o))) V b)
    tree_gives o c (Loop place Every e b) x V R w =
        every_gives (λ v. tree_gives (Controlled o) (enter_loop false c) e (none_before _ _ x) (v ∷ V) R (inside o c V false v w))
        (λ v. looped_part_gives (Marked (Each o)) c b (none_behind _ _ x) v V R (inside o c V true v w)) (looped_ends N (depths (Marked (Each o))) V b)
    tree_gives o c (Repeat place b) x V R w = repeat_gives (λ v. tree_gives (Marked (Looped o)) (enter_loop true c) b x (v ∷ V) R (inside o c V true v w))
    tree_gives o c (Create place e) x V R w = created_gives (tree_gives Outermost created_context e x [] (V ++ R) (refl, refl))
    tree_gives o c (Next place) x V R w =
        let n = length (others c.loops) in
        let h : loops_in o ≡ suc n = sym (loops_counted o c w.0) ∙ next_inside c.in_create c.loops place x in
        next_gives o n h (next_passes o c place w.0 x) V R (w.1 ∙ h)
    tree_gives o c (Fail place) x V R w = gives_instruction U.Pfail refl
    tree_gives o c (Break place e) x V R w {E = E} =
        let n = length (others c.loops) in
        let h : loops_in o ≡ suc n = sym (loops_counted o c w.0) ∙ break_inside c.in_create c.loops place (none_before _ _ x) in
        let inner = tree_gives (around o) (leave_loop c) e (none_behind _ _ x) (X.around V) R
        (ap others w.0 ∙ flags_around o, around_ways V n (w.1 ∙ h) ∙ sym (loops_around o n h)) in
        break_gives o n h V R (w.1 ∙ h)
        (subst (λ (D : List X.Depth). Gives S F (X.around V ++ R) E (translate (around o) e) (X.size D e) (λ p. X.code N D (X.around V) p e) no_facts)
        (sym (around_depths o)) inner)
    tree_gives o c (Return place e) x V R w = return_gives (tree_gives (Marked o) c e (none_behind _ _ x) V R w)
    tree_gives o c (Suspend place e b) x V R w =
        let D = depths o in
        plainly (gives_instruction U.Mark0 refl ⨾ tree_gives (Marked o) c e (none_before _ _ (none_behind _ _ x)) V R w ⨾ gives_instruction U.Psusp refl
        ⨾ gives_instruction U.Pop refl ⨾ suspended_part_gives (Marked (Marked o)) c b (none_behind _ _ (none_behind _ _ x)) V R w
        ⨾ gives_instruction U.Efail refl) (omega arith)
        (λ p. (let begins : p + 1 + X.size (X.deeper D) e + 1 + 1 ≡ p + X.size (X.deeper D) e + 3 = omega arith in
        ap (λ q. I.Mark0 ∷ X.code N (X.deeper D) V (p + 1) e ++ (I.Psusp ∷ I.Pop ∷ X.body_code N (X.deeper (X.deeper D)) V q b ++ I.Efail ∷ [])) begins))

    operands_give : (o : OpenMarks) (c : Context) (es : Trees) → all_faults c es ≡ [] → (V R : List X.LoopExits) → Within o c V → {E : List ℕ}
        → Gives S F (V ++ R) E (operands o es) (X.sizes (depths o) es) (λ p. X.operands N (depths o) V p es) no_facts
    operands_give o c NoTrees x V R w = gives_nothing
    operands_give o c (More e es) x V R w =
        plainly (tree_gives o c e (none_before _ _ x) V R w ⨾ operands_give o c es (none_behind _ _ x) V R w) refl (λ p. refl)

    arguments_give : (o : OpenMarks) (c : Context) (es : Trees) → all_faults c es ≡ [] → (V R : List X.LoopExits) → Within o c V → {E : List ℕ}
        → Gives S F (V ++ R) E (arguments o es) (X.elements_size (depths o) es) (λ p. X.elements_code N (depths o) V p es) no_facts
    arguments_give o c NoTrees x V R w = gives_nothing
    arguments_give o c (More e es) x V R w =
        let D = depths o in
        let same = no_element_same (More e es) in
        plainly (unless_gives (T.is_no_element (More e es))
        (plainly (tree_gives o c e (none_before _ _ x) V R w ⨾ operands_give o c es (none_behind _ _ x) V R w) refl (λ p. refl)))
        (ap (λ b. if b then 0 else X.size D e + X.sizes D es) same)
        (λ p. ap (λ b. if b then [] else X.code N D V p e ++ X.operands N D V (p + X.size D e) es) same)

    conjunction_gives : (o : OpenMarks) (c : Context) (es : Trees) → all_faults c es ≡ [] → (V R : List X.LoopExits) → Within o c V → {E : List ℕ}
        → Gives S F (V ++ R) E (conjunction o es) (X.conjunction_size (depths o) es) (λ p. X.conjunction N (depths o) V p es) no_facts
    conjunction_gives o c NoTrees x V R w = gives_nothing
    conjunction_gives o c (More e NoTrees) x V R w = tree_gives o c e (none_before _ _ x) V R w
    conjunction_gives o c (More e (More f es)) x V R w =
        plainly (tree_gives o c e (none_before _ _ x) V R w ⨾ gives_instruction U.Pop refl
        ⨾ conjunction_gives o c (More f es) (none_behind _ _ x) V R w)
        (omega arith) (λ p. refl)

    compound_gives : (o : OpenMarks) (c : Context) (es : Trees) → all_faults c es ≡ [] → (V R : List X.LoopExits) → Within o c V → {E : List ℕ}
        → Gives S F (V ++ R) E (compound o es) (X.compound_size (depths o) es) (λ p. X.compound N (depths o) V p es) no_facts
    compound_gives o c NoTrees x V R w = gives_nothing
    compound_gives o c (More e NoTrees) x V R w = tree_gives o c e (none_before _ _ x) V R w
    compound_gives o c (More e (More f es)) x V R w =
        let D = depths o in
        let same = empty_same e in
        let n = X.size (X.deeper D) e in
        let rest : ℕ → List Instr = λ q. X.compound N D V q (More f es) in
        plainly (unless_gives (T.is_empty e) (bounded_gives (tree_gives (Marked o) c e (none_before _ _ x) V R w))
        ⨾ compound_gives o c (More f es) (none_behind _ _ x) V R w)
        (ap (λ b. (if b then 0 else n + 2) + X.compound_size D (More f es)) same)
        (λ p. (let bounded : List Instr = I.Mark (p + n + 2) ∷ X.code N (X.deeper D) V (p + 1) e in
        compound_code (T.is_empty e) n p bounded rest ∙ ap (λ b. if b then rest p else bounded ++ I.Unmark ∷ rest (p + n + 2)) same))

    creations_give : (D : List X.Depth) (es : Trees) → all_faults created_context es ≡ [] → (R : List X.LoopExits) → {E : List ℕ}
        → Gives S F R E (creations es) (X.bodies_size D es) (λ p. X.bodies_code N p es) no_facts
    creations_give D NoTrees x R = gives_nothing
    creations_give D (More e es) x R =
        let same = no_element_same (More e es) in
        plainly (unless_gives (T.is_no_element (More e es))
        (plainly (created_gives (tree_gives Outermost created_context e (none_before _ _ x) [] R (refl, refl))
        ⨾ other_creations_give D es (none_behind _ _ x) R) refl (λ p. refl)))
        (ap (λ b. if b then 0 else X.size [] e + 5 + X.creates_size D es) same)
        (λ p. (let begins : p + (X.size [] e + 5) ≡ p + X.size [] e + 5 = omega arith in
        let first : List Instr = X.create_code p (X.size [] e) (X.code N [] [] (p + 2) e) in
        ap (λ b. if b then [] else first ++ X.creates N (p + (X.size [] e + 5)) es) same
        ∙ ap (λ q. if X.is_no_element (More e es) then [] else first ++ X.creates N q es) begins))

    other_creations_give : (D : List X.Depth) (es : Trees) → all_faults created_context es ≡ [] → (R : List X.LoopExits) → {E : List ℕ}
        → Gives S F R E (other_creations es) (X.creates_size D es) (λ p. X.creates N p es) no_facts
    other_creations_give D NoTrees x R = gives_nothing
    other_creations_give D (More e es) x R =
        plainly (created_gives (tree_gives Outermost created_context e (none_before _ _ x) [] R (refl, refl))
        ⨾ other_creations_give D es (none_behind _ _ x) R) refl
        (λ p. (let begins : p + (X.size [] e + 5) ≡ p + X.size [] e + 5 = omega arith in
        ap (λ q. X.create_code p (X.size [] e) (X.code N [] [] (p + 2) e) ++ X.creates N q es) begins))

    subscripts_give : (o : OpenMarks) (c : Context) (es : Trees) → all_faults c es ≡ [] → (V R : List X.LoopExits) → Within o c V → {E : List ℕ}
        → Gives S F (V ++ R) E (subscripts o es) (X.subscripts_size (depths o) es) (λ p. X.subscripts N (depths o) V p es) no_facts
    subscripts_give o c NoTrees x V R w = gives_nothing
    subscripts_give o c (More e es) x V R w =
        plainly (tree_gives o c e (none_before _ _ x) V R w ⨾ gives_instruction (U.Op O.Subscript) refl
        ⨾ subscripts_give o c es (none_behind _ _ x) V R w)
        (omega arith) (λ p. refl)

    to_step_gives : (o : OpenMarks) (c : Context) (by : MaybeTree) → maybe_faults c by ≡ [] → (V R : List X.LoopExits) → Within o c V → {E : List ℕ}
        → Gives S F (V ++ R) E (to_step o by) (X.by_size (depths o) by) (λ p. X.by_code N (depths o) V p by) no_facts
    to_step_gives o c Absent x V R w = puts_as (U.Int (pos 1)) (I.Int (N.integer (pos 1))) (ap (λ k. I.Int k ∷ []) (agree.integer (pos 1)))
    to_step_gives o c (Present e) x V R w = tree_gives o c e x V R w

    looped_part_gives : (o : OpenMarks) (c : Context) (b : MaybeTree) → maybe_faults (enter_loop true c) b ≡ [] → (v : X.LoopExits) (V R : List X.LoopExits)
        → Within o (enter_loop true c) (v ∷ V) → {E : List ℕ}
        → Gives S F (v ∷ V ++ R) E (looped_part o b) (X.body_size (depths o) b) (λ p. looped_code N (depths o) V v p b) no_facts
    looped_part_gives o c Absent x v V R w = gives_nothing
    looped_part_gives o c (Present b) x v V R w = looped_gives (tree_gives o (enter_loop true c) b x (v ∷ V) R w)

    suspended_part_gives : (o : OpenMarks) (c : Context) (b : MaybeTree) → maybe_faults c b ≡ [] → (V R : List X.LoopExits) → Within o c V → {E : List ℕ}
        → Gives S F (V ++ R) E (suspended_part o b) (X.body_size (depths o) b) (λ p. X.body_code N (depths o) V p b) no_facts
    suspended_part_gives o c Absent x V R w = lone_label_gives
    suspended_part_gives o c (Present b) x V R w = bounded_gives (tree_gives o c b x V R w)

    guarded_give : (o : OpenMarks) (c : Context) (has : Bool) (clauses : Clauses) → clauses_faults c has clauses ≡ [] → (V R : List X.LoopExits) → Within o c V
        → {last : ℕ} {E : List ℕ}
        → Gives S F (V ++ R) (last ∷ E) (guarded_part o clauses) (X.clauses_size (depths o) clauses)
        (λ p. X.clauses_code N (depths o) V p last clauses) no_facts
    guarded_give o c has NoClauses x V R w = gives_nothing
    guarded_give o c has (MoreClauses clause clauses) x V R w =
        plainly (guarded_clause_gives o c has clause (none_before _ _ x) V R w
        ⨾ guarded_give o c (is_default has clause) clauses (none_behind _ _ x) V R w)
        refl (λ p. refl)

    guarded_clause_gives : (o : OpenMarks) (c : Context) (has : Bool) (clause : Clause) → clause_faults c has clause ≡ [] → (V R : List X.LoopExits)
        → Within o c V
        → {last : ℕ} {E : List ℕ}
        → Gives S F (V ++ R) (last ∷ E) (guarded_clause o clause) (X.clause_size (depths o) clause) (λ p. X.clause_code N (depths o) V p last clause) no_facts
    guarded_clause_gives o c has (Default place e) x V R w = gives_nothing
    guarded_clause_gives o c has (Guarded place s b) x V R w =
        clause_gives (tree_gives (Marked o) c s (none_before _ _ x) V R w) (tree_gives o c b (none_behind _ _ x) V R w)

    default_part_gives : (o : OpenMarks) (c : Context) (has : Bool) (clauses : Clauses) → clauses_faults c has clauses ≡ [] → (V R : List X.LoopExits)
        → Within o c V
        → {E : List ℕ}
        → Gives S F (V ++ R) E (default_part o clauses) (X.default_size (depths o) clauses) (λ p. X.default_code N (depths o) V p clauses) no_facts
    default_part_gives o c has NoClauses x V R w = gives_instruction U.Efail refl
    default_part_gives o c has (MoreClauses (Default place e) rest) x V R w = tree_gives o c e (none_behind _ _ (none_before _ _ x)) V R w
    default_part_gives o c has (MoreClauses (Guarded place s b) clauses) x V R w = default_part_gives o c has clauses (none_behind _ _ x) V R w
