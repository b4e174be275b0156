-- Each form of a tree that breaks no context rule keeps what its steps keep: one line a form, in the order of the translation.
use Rattle.std.proofs.Common.{◌≡◌, ℕ, suc, Bool, true, false, ◌&&◌, List, [], ◌∷◌, ◌++◌, length, Option, None, Some, refl, sym, subst, if◌then◌else◌}
use Rattle.icn_text.specs.declared.keyword.Keyword.{Keyword as KeywordNamed}
use Rattle.icn_text.specs.declared.keyword.Keyword.TheVariants as K
use Rattle.icn_tree.specs.declared.tree.Place.{Place}
use Rattle.icn_tree.specs.declared.tree.Infix.{Infix}
use Rattle.icn_tree.specs.declared.tree.Infix.TheVariants.{Plain, Augmented}
use Rattle.icn_tree.specs.declared.tree.Literal.{Literal}
use Rattle.icn_tree.specs.declared.tree.Literal.TheVariants as Literals
use Rattle.icn_tree.specs.declared.tree.LoopKind.{LoopKind}
use Rattle.icn_tree.specs.declared.tree.LoopKind.TheVariants.{While, Until, Every}
use Rattle.icn_tree.specs.Trees.{Initial, NoInitial, Initially, Tree, MaybeTree, Trees, Clause, Clauses, Empty, Constant, Identifier, Keyword, Parentheses, Listing, Compound, Call, CoCall, Subscript, Section, Field, Prefix, Not, Binary, To, If, Case, Loop, Repeat, Create, Next, Fail, Break, Return, Suspend, Absent, Present, NoTrees, More, Default, Guarded, NoClauses, MoreClauses}
use Rattle.icn_text.specs.declared.op.Op.TheVariants as O
use Rattle.icn_decls.specs.Contexts.{BrokenRule, Context, outermost, create_context as created_context, enter_loop, leave_loop, others, break_by, next_by}
use Rattle.icn_decls.specs.Faults.{faults, maybe_faults, all_faults, clauses_faults, clause_faults, initial_faults, is_default, next_in_control}
use Rattle.icn_unit.specs.declared.unit.UnitInstr.{UnitInstr}
use Rattle.icn_unit.specs.declared.unit.UnitInstr.TheVariants as I
use Rattle.icn_unit.specs.UnitRules.{label_in, own_label}
use Rattle.icn_unit.specs.UnitOperands.{keyword_of}
use Rattle.icn_translate.specs.declared.forms.InfixForm.{InfixForm}
use Rattle.icn_translate.specs.declared.forms.InfixForm.TheVariants.{Both, Scanning, Either, Limiting, Activating, Spreading, Operating}
use Rattle.icn_translate.specs.declared.forms.UpdateForm.{UpdateForm}
use Rattle.icn_translate.specs.declared.forms.UpdateForm.TheVariants.{Both as UpdatesBoth, Scanning as UpdatesScanning, Activating as UpdatesActivating, Operating as UpdatesOperating}
use Rattle.icn_translate.specs.declared.forms.PrefixForm.{PrefixForm}
use Rattle.icn_translate.specs.declared.forms.PrefixForm.TheVariants.{Activation, Repetition, Operation}
use Rattle.icn_translate.specs.Drafts.{Draft, ◌▹◌, put, next_label, with_label, no_ways, in_loop, outside_loop, aside, put_next, put_last, in_case, put_end}
use Rattle.icn_translate.specs.Instructions.{literal_instr, keyword_instr, section_op, infix_form, update_form, prefix_form}
use Rattle.icn_translate.specs.OpenMarks.{OpenMarks, Outermost, Marked, Looped, Controlled, Each, is_loopless, is_nextless, unmarks_for_break, unmarks_for_next, around}
use Rattle.icn_translate.specs.Translation.{is_empty, is_nothing, is_no_element, elements, bounded_code, create_code, if_mark, unless_empty, either_step, control_part, in_control, in_body, back, loop_end, keyword_code, prefix_by, plain_form, update, augmented_form, case_of, looped_body, translate, operands, arguments, conjunction, conjuncts, compound, creations, other_creations, subscripts, to_step, otherwise, looped_part, suspended_part, guarded_part, guarded_clause, default_part, default_clause, initially, body}
use Rattle.icn_units.specs.Written.{operand_fits, name_fits, literal_fits, tree_fits, maybe_fits, trees_fit, clause_fits, clauses_fit, initial_fits}
use Rattle.icn_units.proofs.WrittenTrees.{and_first, and_second}
use Rattle.icn_units.proofs.DraftChains.{variable_in, Told, Keeps, Runs, Chain, ◌▸◌, here, chain_step, chain_plain, label, labelled, placed, second_placed, outer_runs}

-- Lists of faults that are empty

-- where two lists have no fault, the first has none
pub none_before : (F G : List BrokenRule) → F ++ G ≡ [] → F ≡ []
none_before [] G h = refl
none_before (x ∷ F) G h = absurd (cc)

-- nor has the second
pub none_behind : (F G : List BrokenRule) → F ++ G ≡ [] → G ≡ []
none_behind [] G h = h
none_behind (x ∷ F) G h = absurd (cc)

some_fault : (b : Bool) (f g : BrokenRule) → (if b then f ∷ [] else g ∷ []) ≡ [] → ⊥
some_fault true f g h = absurd (cc)
some_fault false f g h = absurd (cc)

-- a loop is open where `break` and `next` break no rule
pub break_inside : (b : Bool) (loops : List Bool) (place : Place) → break_by b loops place ≡ [] → length loops
    ≡ suc (length (others loops))
break_inside b [] place h = absurd (some_fault b _ _ h)
break_inside b (x ∷ loops) place h = refl

pub next_inside : (b : Bool) (loops : List Bool) (place : Place) → next_by b loops place ≡ [] → length loops
    ≡ suc (length (others loops))
next_inside b [] place h = absurd (some_fault b _ _ h)
next_inside b (x ∷ loops) place h = refl

-- Instructions without a label

literal_label : (v : Literal) → label_in (literal_instr v) ≡ None
literal_label (Literals.Integer n) = refl
literal_label (Literals.Text bytes) = refl
literal_label (Literals.Cset members) = refl

literal_place : (v : Literal) → own_label (literal_instr v) ≡ None
literal_place (Literals.Integer n) = refl
literal_place (Literals.Text bytes) = refl
literal_place (Literals.Cset members) = refl

literal_variable : (v : Literal) → variable_in (literal_instr v) ≡ None
literal_variable (Literals.Integer n) = refl
literal_variable (Literals.Text bytes) = refl
literal_variable (Literals.Cset members) = refl

keyword_label : (k : KeywordNamed) → label_in (keyword_instr k) ≡ None
keyword_label K.Fail = refl
keyword_label k = refl

keyword_place : (k : KeywordNamed) → own_label (keyword_instr k) ≡ None
keyword_place K.Fail = refl
keyword_place k = refl

keyword_variable : (k : KeywordNamed) → variable_in (keyword_instr k) ≡ None
keyword_variable K.Fail = refl
keyword_variable k = refl

keyword_operand : (passes : List ℕ → Bool) (k : KeywordNamed) → operand_fits passes (keyword_instr k) ≡ true
keyword_operand passes K.Fail = refl
keyword_operand passes k = refl

literal_operand : {asks : Bool} (passes : List ℕ → Bool) (v : Literal) → Told asks (literal_fits passes v)
    → Told asks (operand_fits passes (literal_instr v))
literal_operand passes (Literals.Integer n) w = w
literal_operand passes (Literals.Text bytes) w = w
literal_operand passes (Literals.Cset members) w = w

-- both parts of a test
pub first_told : {asks : Bool} (a b : Bool) → Told asks (a && b) → Told asks a
first_told a b w h = and_first a b (w h)

pub second_told : {asks : Bool} (a b : Bool) → Told asks (a && b) → Told asks b
second_told a b w h = and_second a b (w h)

module _ (S : Keeps) where
  pub from : {n : ℕ} (d : Draft) → S.Inside n d → Chain S n d d []
  from d h = record { leads = S.none d; inside = h }

  -- Steps that forms share

  nothing_runs : {n : ℕ} → Runs S n (λ d. d)
  nothing_runs = record { run = λ d h. S.none d }

  put_runs : {n : ℕ} (i : UnitInstr) → label_in i ≡ None → own_label i ≡ None → variable_in i ≡ None
      → Told S.asks (operand_fits S.passes i) → Runs S n (put i)
  put_runs i l p v w = record { run = λ d h. (from d h ▸ chain_plain i l p v w).leads }

  then_runs : {n : ℕ} {s t : Draft → Draft} → Runs S n s → Runs S n t → Runs S n (λ d. t (s d))
  then_runs r q = record { run = λ d h. (from d h ▸ chain_step r ▸ chain_step q).leads }

  if_runs : {n : ℕ} (is : Bool) {s : Draft → Draft} → Runs S n s
      → Runs S n (λ d. elim is as (λ is. Draft) [ true ↦ d | false ↦ s d ])
  if_runs true r = nothing_runs
  if_runs false r = r

  either_runs : {n : ℕ} (is : Bool) {s t : Draft → Draft} → Runs S n s → Runs S n t → Runs S n (either_step is s t)
  either_runs true r q = r
  either_runs false r q = q

  unless_runs : {n : ℕ} (e : Tree) {s : Draft → Draft} → Runs S n s → Runs S n (unless_empty e s)
  unless_runs e r = if_runs (is_empty e) r

  bounded_runs : {n : ℕ} {s : Draft → Draft} → Runs S n s → Runs S n (bounded_code s)
  bounded_runs r = record {
    run = λ d h. (from d h ▸ labelled I.Mark
        (λ l. record { label = refl; place = refl; variable = refl; operand = λ passes. refl }) ▸ chain_step r
        ▸ chain_plain I.Unmark refl refl refl (λ h. refl) ▸ placed).leads;
  }

  created_runs : {n : ℕ} {s : Draft → Draft} → Runs S 0 s → Runs S n (create_code s)
  created_runs r = record {
    run = λ d h. (from d h ▸ labelled I.Create
        (λ l. record { label = refl; place = refl; variable = refl; operand = λ passes. refl })
        ▸ labelled I.Mark (λ l. record { label = refl; place = refl; variable = refl; operand = λ passes. refl })
        ▸ chain_step (outer_runs r)
        ▸ chain_plain I.Coret refl refl refl (λ h. refl)
        ▸ chain_plain I.Efail refl refl refl (λ h. refl) ▸ placed
        ▸ chain_plain I.Cofail refl refl refl (λ h. refl) ▸ placed).leads;
  }

  unmarks_for_break_run : {n : ℕ} (o : OpenMarks) → Runs S n (unmarks_for_break o)
  unmarks_for_break_run Outermost = nothing_runs
  unmarks_for_break_run (Marked o) = then_runs (put_runs I.Unmark refl refl refl (λ h. refl))
      (unmarks_for_break_run o)
  unmarks_for_break_run (Looped o) = nothing_runs
  unmarks_for_break_run (Controlled o) = put_runs I.Unmark refl refl refl (λ h. refl)
  unmarks_for_break_run (Each o) = put_runs I.Unmark refl refl refl (λ h. refl)

  unmarks_for_next_run : {n : ℕ} (o : OpenMarks) → Runs S n (unmarks_for_next o)
  unmarks_for_next_run Outermost = nothing_runs
  unmarks_for_next_run (Marked o) = then_runs (put_runs I.Unmark refl refl refl (λ h. refl))
      (unmarks_for_next_run o)
  unmarks_for_next_run (Looped o) = nothing_runs
  unmarks_for_next_run (Controlled o) = nothing_runs
  unmarks_for_next_run (Each o) = nothing_runs

  -- Keywords and operators

  keyword_runs : {n : ℕ} (found : Option KeywordNamed) → Runs S n (keyword_code found)
  keyword_runs None = nothing_runs
  keyword_runs (Some k) =
      put_runs (keyword_instr k) (keyword_label k) (keyword_place k) (keyword_variable k) (λ h. keyword_operand S.passes k)

  repetition_runs : {n : ℕ} {marked : Draft → Draft} → Runs S n marked → (operand : Draft → Draft)
      → Runs S n (prefix_by (Some Repetition) operand marked)
  repetition_runs {n = n} {marked = marked} r operand = record {
    run = λ d h.
        let m = next_label d in
        let e = put (I.Lab m) (with_label d) in
        let c : Chain S n d e [] = from d h ▸ label ▸ placed in
        let inner : Chain S n e (marked (put I.Mark0 e)) [] = from e (here c)
        ▸ chain_plain I.Mark0 refl refl refl (λ h. refl)
        ▸ chain_step r in
        let may = S.may_later e _ [] (I.Chfail m) inner.leads
        (S.may_behind (with_label d) (I.Chfail m) (I.Lab m)
        (S.fresh d (I.Chfail m) (record { label = refl; place = refl; variable = refl; operand = λ passes. refl }))) in
        let all = S.joined d e _ [] c.leads inner.leads in
        S.instr d _ [] I.Esusp (S.plain _ I.Esusp (record { label = refl; place = refl; variable = refl })
        (λ h. refl))
        (S.instr d _ [] (I.Chfail m) may all);
  }

  prefix_runs : {n : ℕ} (form : Option PrefixForm) {operand marked : Draft → Draft} → Runs S n operand → Runs S n marked
      → Runs S n (prefix_by form operand marked)
  prefix_runs None r q = nothing_runs
  prefix_runs (Some Activation) r q = record {
    run =
        λ d h. (from d h ▸ chain_plain I.Pnull refl refl refl (λ h. refl) ▸ chain_step r
        ▸ chain_plain I.Coact refl refl refl (λ h. refl)).leads;
  }
  prefix_runs (Some Repetition) {operand = operand} r q = repetition_runs q operand
  prefix_runs (Some (Operation op)) r q = record {
    run =
        λ d h. (from d h ▸ chain_step r ▸ chain_plain (I.Op op) refl refl refl (λ h. refl)).leads;
  }

  plain_runs : {n : ℕ} (form : Option InfixForm) {a marked b : Draft → Draft} → Runs S n a → Runs S n marked → Runs S n b
      → Runs S n (plain_form form a marked b)
  plain_runs None a m b = nothing_runs
  plain_runs (Some Both) a m b = record {
    run = λ d h.
        (from d h ▸ chain_step a ▸ chain_plain I.Pop refl refl refl (λ h. refl) ▸ chain_step b).leads;
  }
  plain_runs (Some Scanning) a m b = record {
    run =
        λ d h. (from d h ▸ chain_step a ▸ chain_plain I.Bscan refl refl refl (λ h. refl) ▸ chain_step b
        ▸ chain_plain I.Escan refl refl refl (λ h. refl)).leads;
  }
  plain_runs (Some Either) a m b = record {
    run =
        λ d h. (from d h ▸ labelled I.Mark (λ l. record
        { label = refl; place = refl; variable = refl; operand = λ passes. refl }) ▸ chain_step m
        ▸ chain_plain I.Esusp refl refl refl (λ h. refl)
        ▸ labelled I.Goto (λ l. record { label = refl; place = refl; variable = refl; operand = λ passes. refl })
        ▸ second_placed ▸ chain_step b
        ▸ placed).leads;
  }
  plain_runs (Some Limiting) a m b = record {
    run =
        λ d h. (from d h ▸ chain_step b ▸ chain_plain I.Limit refl refl refl (λ h. refl) ▸ chain_step m
        ▸ chain_plain I.Lsusp refl refl refl (λ h. refl)).leads;
  }
  plain_runs (Some Activating) a m b = record {
    run =
        λ d h. (from d h ▸ chain_step a ▸ chain_step b ▸ chain_plain I.Coact refl refl refl (λ h. refl)).leads;
  }
  plain_runs (Some Spreading) a m b = record {
    run =
        λ d h. (from d h ▸ chain_step a ▸ chain_step b ▸ chain_plain I.Appl refl refl refl (λ h. refl)).leads;
  }
  plain_runs (Some (Operating op)) a m b = record
      { run = λ d h. (from d h ▸ chain_step a ▸ chain_step b ▸ chain_plain (I.Op op) refl refl refl (λ h. refl)).leads }

  update_runs : {n : ℕ} (i : UnitInstr) → label_in i ≡ None → own_label i ≡ None → variable_in i ≡ None
      → Told S.asks (operand_fits S.passes i)
      → {a b : Draft → Draft} → Runs S n a
      → Runs S n b → Runs S n (update i a b)
  update_runs i l p v w a b = record {
    run = λ d h.
        (from d h ▸ chain_step a ▸ chain_plain I.Dup refl refl refl (λ h. refl) ▸ chain_step b ▸ chain_plain i l p v w
        ▸ chain_plain (I.Op O.Assign) refl refl refl (λ h. refl)).leads;
  }

  augmented_runs : {n : ℕ} (form : Option UpdateForm) {a b : Draft → Draft} → Runs S n a → Runs S n b
      → Runs S n (augmented_form form a b)
  augmented_runs None a b = nothing_runs
  augmented_runs (Some UpdatesBoth) a b = record {
    run =
        λ d h. (from d h ▸ chain_step a ▸ chain_step b ▸ chain_plain (I.Op O.Assign) refl refl refl (λ h. refl)).leads;
  }
  augmented_runs (Some UpdatesScanning) a b = record {
    run =
        λ d h. (from d h ▸ chain_step a ▸ chain_plain I.Dup refl refl refl (λ h. refl)
        ▸ chain_plain I.Bscan refl refl refl (λ h. refl) ▸ chain_step b
        ▸ chain_plain I.Escan refl refl refl (λ h. refl) ▸ chain_plain (I.Op O.Assign) refl refl refl (λ h. refl)).leads;
  }
  augmented_runs (Some UpdatesActivating) a b = update_runs I.Coact refl refl refl (λ h. refl) a b
  augmented_runs (Some (UpdatesOperating op)) a b = update_runs (I.Op op) refl refl refl (λ h. refl) a b

  binary_runs : {n : ℕ} (o : OpenMarks) (place : Place) (infix_ : Infix) (a b : Tree) → Runs S n (translate o a)
      → Runs S n (translate (Marked o) a) → Runs S n (translate o b)
      → Runs S n (translate o (Binary place infix_ a b))
  binary_runs o place (Plain operator) a b x m y = plain_runs (infix_form operator) x m y
  binary_runs o place (Augmented operator) a b x m y = augmented_runs (update_form operator) x y

  -- Loops

  looped_runs : {n : ℕ} {code : Draft → Draft} → Runs S (suc n) code → Runs S (suc n) (looped_body code)
  looped_runs {n = n} r = record {
    run = λ d h.
        let c : Chain S (suc n) d (put_next I.Mark d) [] =
        record { leads = S.next_mark d d [] n h (S.none d); inside = h } in
        (c ▸ chain_step r ▸ chain_plain I.Unmark refl refl refl (λ h. refl)).leads;
  }

  -- behind a first label
  loop_runs : {n : ℕ} {inner : Draft → Draft} → Runs S (suc n) inner
      → Runs S n (λ d. d ▹ with_label ▹ put (I.Lab (next_label d)) ▹ in_loop no_ways ▹ inner
      ▹ loop_end (I.Loop (next_label d)))
  loop_runs {n = n} {inner = inner} r = record {
    run = λ d h.
        let m = next_label d in
        let e = put (I.Lab m) (with_label d) in
        let c : Chain S n d e [] = from d h ▸ label ▸ placed in
        let f = inner (in_loop no_ways e) in
        let within = r.run (in_loop no_ways e) (S.inside_loop e no_ways n (here c)) in
        let first = S.may_behind (with_label d) (I.Loop m) (I.Lab m)
        (S.fresh d (I.Loop m) (record { label = refl; place = refl; variable = refl; operand = λ passes. refl })) in
        S.loop d e f [] (I.Loop m) c.leads within
        (S.may_later (in_loop no_ways e) f [] (I.Loop m) within (S.may_inside e no_ways (I.Loop m) first));
  }

  kinds_run : {n : ℕ} (kind : LoopKind) {control part : Draft → Draft} → Runs S (suc n) control
      → Runs S (suc n) part
      → Runs S n (λ d. d ▹ control_part kind control ▹ part ▹ loop_end (back kind (next_label d)))
  kinds_run While c p = loop_runs
      (record {
        run = λ d h. (from d h ▸ chain_plain I.Mark0 refl refl refl (λ h. refl) ▸ chain_step c
            ▸ chain_plain I.Unmark refl refl refl (λ h. refl)
            ▸ chain_step p).leads;
      })
  kinds_run Until c p = loop_runs
      (record {
        run = λ d h. (from d h ▸ labelled I.Mark
            (λ l. record { label = refl; place = refl; variable = refl; operand = λ passes. refl })
            ▸ chain_step c ▸ chain_plain I.Unmark refl refl refl (λ h. refl)
            ▸ chain_plain I.Efail refl refl refl (λ h. refl) ▸ placed ▸ chain_step p).leads;
      })
  kinds_run {n = n} Every {control = control} {part = part} c p = record {
    run = λ d h.
        let e = in_loop no_ways d in
        let within : Chain S (suc n) e (part (put I.Pop (control (put I.Mark0 e)))) [] =
        from e (S.inside_loop d no_ways n h) ▸ chain_plain I.Mark0 refl refl refl (λ h. refl) ▸ chain_step c
        ▸ chain_plain I.Pop refl refl refl (λ h. refl)
        ▸ chain_step p in
        S.loop d d _ [] I.Efail (S.none d) within.leads
        (S.plain _ I.Efail (record { label = refl; place = refl; variable = refl }) (λ h. refl));
  }

  next_runs : {n : ℕ} (o : OpenMarks) → Runs S (suc n) (λ d. d ▹ unmarks_for_next o ▹ put_next I.Goto)
  next_runs {n = n} o = record {
    run = λ d h.
        let c : Chain S (suc n) d (unmarks_for_next o d) [] = from d h ▸ chain_step (unmarks_for_next_run o) in
        S.next_goto d _ [] n (here c) c.leads;
  }

  break_runs : {n : ℕ} (o : OpenMarks) {s : Draft → Draft} → Runs S n s
      → Runs S (suc n) (λ d. d ▹ unmarks_for_break o ▹ aside s ▹ put_last I.Goto)
  break_runs {n = n} o {s = s} r = record {
    run = λ d h.
        let e = unmarks_for_break o d in
        let c : Chain S (suc n) d e [] = from d h ▸ chain_step (unmarks_for_break_run o) in
        let i = here c in
        let f = S.aside_loop d e (s (outside_loop e)) [] n i c.leads
        (r.run (outside_loop e) (S.inside_outer e n i)) in
        S.last_goto d _ [] n (S.inside_later d _ [] (suc n) f h) f;
  }

  -- a step where a case is open
  record CaseRuns (n : ℕ) (step : Draft → Draft) : Type 0 where
    pub run : (d : Draft) → S.Inside n d → S.InCase d → S.Leads d (step d) []

  case_runs : {n : ℕ} {guards default : Draft → Draft} → CaseRuns n guards → Runs S n default
      → Runs S n (case_of guards default)
  case_runs {n = n} {guards = guards} {default = default} g r = record {
    run = λ d h.
        let e = in_case None d in
        let i = S.inside_case d None n h in
        let within : Chain S n e (default (put I.Pop (guards e))) [] =
        record { leads = g.run e i (S.case_begins d None); inside = i } ▸ chain_plain I.Pop refl refl refl (λ h. refl)
        ▸ chain_step r in
        S.case d d _ [] (S.none d) within.leads;
  }

  clause_runs : {n : ℕ} {s b : Draft → Draft} → Runs S n s → Runs S n b
      → CaseRuns n (λ d. d ▹ with_label ▹ put (I.Mark (next_label d)) ▹ put I.Ccase ▹ s ▹ put (I.Op O.Equivalent)
      ▹ put I.Unmark ▹ put I.Pop ▹ b ▹ put_end I.Goto ▹ put (I.Lab (next_label d)))
  clause_runs {n = n} {s = s} {b = b} r q = record {
    run = λ d h w.
        let m = next_label d in
        let c : Chain S n d (b (put I.Pop (put I.Unmark
        (put (I.Op O.Equivalent) (s (put I.Ccase (put (I.Mark m) (with_label d)))))))) (m ∷ []) =
        from d h ▸ labelled I.Mark (λ l. record { label = refl; place = refl; variable = refl; operand = λ passes. refl })
        ▸ chain_plain I.Ccase refl refl refl (λ h. refl) ▸ chain_step r
        ▸ chain_plain (I.Op O.Equivalent) refl refl refl (λ h. refl) ▸ chain_plain I.Unmark refl refl refl (λ h. refl)
        ▸ chain_plain I.Pop refl refl refl (λ h. refl) ▸ chain_step q in
        S.place d _ m [] (S.end_goto d _ (m ∷ []) (S.case_later d _ (m ∷ []) c.leads w) c.leads);
  }

  cases_then : {n : ℕ} {s t : Draft → Draft} → CaseRuns n s → CaseRuns n t → CaseRuns n (λ d. t (s d))
  cases_then {n = n} {s = s} {t = t} r q = record {
    run = λ d h w.
        let c = r.run d h w in
        S.joined d (s d) (t (s d)) [] c (q.run (s d) (S.inside_later d (s d) [] n c h)
        (S.case_later d (s d) [] c w));
  }

  -- Forms

  mutual
    tree_runs : (o : OpenMarks) (c : Context) (e : Tree) → faults c e ≡ [] → Told S.asks (tree_fits S.passes e)
        → Runs S (length c.loops) (translate o e)
    tree_runs o c Empty x w = put_runs I.Pnull refl refl refl (λ h. refl)
    tree_runs o c (Constant place v) x w = put_runs (literal_instr v) (literal_label v) (literal_place v)
        (literal_variable v) (literal_operand S.passes v w)
    tree_runs o c (Identifier name) x w = record { run = λ d h. S.variable d d [] name.text w (S.none d) }
    tree_runs o c (Keyword place name) x w = keyword_runs (keyword_of name.text)
    tree_runs o c (Parentheses place es) x w = conjunction_runs o c es x w
    tree_runs o c (Listing place es) x w = then_runs (arguments_run o c es x w)
        (put_runs (I.Llist (elements es)) refl refl refl (λ h. refl))
    tree_runs o c (Compound place es) x w = compound_runs o c es x w
    tree_runs o c (Call place f es) x w = then_runs
        (then_runs (tree_runs o c f (none_before _ _ x) (first_told _ _ w))
        (arguments_run o c es (none_behind _ _ x) (second_told _ _ w)))
        (put_runs (I.Invoke (elements es)) refl refl refl (λ h. refl))
    tree_runs o c (CoCall place f es) x w = then_runs
        (then_runs (then_runs (tree_runs o c f (none_before _ _ x) (first_told _ _ w))
        (creations_run es (none_behind _ _ x) (second_told _ _ w)))
        (put_runs (I.Llist (elements es)) refl refl refl (λ h. refl)))
        (put_runs (I.Invoke 1) refl refl refl (λ h. refl))
    tree_runs o c (Subscript place e es) x w =
        then_runs (tree_runs o c e (none_before _ _ x) (first_told _ _ w))
        (subscripts_run o c es (none_behind _ _ x) (second_told _ _ w))
    tree_runs o c (Section place kind e i j) x w =
        then_runs (then_runs (then_runs (tree_runs o c e (none_before _ _ x) (first_told _ _ w))
        (tree_runs o c i (none_before _ _ (none_behind _ _ x)) (first_told _ _ (second_told _ _ w))))
        (tree_runs o c j (none_behind _ _ (none_behind _ _ x)) (second_told _ _ (second_told _ _ w))))
        (put_runs (I.Op (section_op kind)) refl refl refl (λ h. refl))
    tree_runs o c (Field place e name) x w =
        then_runs (tree_runs o c e x (first_told (tree_fits S.passes e) (name_fits name) w))
        (put_runs (I.Field name.text) refl refl refl (second_told (tree_fits S.passes e) (name_fits name) w))
    tree_runs o c (Prefix place operator e) x w =
        prefix_runs (prefix_form operator) (tree_runs o c e x w) (tree_runs (Marked o) c e x w)
    tree_runs o c (Not place e) x w = let r = tree_runs (Marked o) c e x w in
        record {
          run = λ d h. (from d h ▸ labelled I.Mark
              (λ l. record { label = refl; place = refl; variable = refl; operand = λ passes. refl })
              ▸ chain_step r ▸ chain_plain I.Unmark refl refl refl (λ h. refl) ▸ chain_plain I.Efail refl refl refl (λ h. refl)
              ▸ placed
              ▸ chain_plain I.Pnull refl refl refl (λ h. refl)).leads;
        }
    tree_runs o c (Binary place infix_ a b) x w =
        binary_runs o place infix_ a b (tree_runs o c a (none_before _ _ x) (first_told _ _ w))
        (tree_runs (Marked o) c a (none_before _ _ x) (first_told _ _ w))
        (tree_runs o c b (none_behind _ _ x) (second_told _ _ w))
    tree_runs o c (To place a b by) x w = then_runs
        (then_runs (then_runs (tree_runs o c a (none_before _ _ x) (first_told _ _ w))
        (tree_runs o c b (none_before _ _ (none_behind _ _ x)) (first_told _ _ (second_told _ _ w))))
        (to_step_runs o c by (none_behind _ _ (none_behind _ _ x)) (second_told _ _ (second_told _ _ w))))
        (put_runs (I.Op O.ToBy) refl refl refl (λ h. refl))
    tree_runs o c (If place e a b) x w = branches_run o c b (none_behind _ _ (none_behind _ _ x))
        (second_told _ _ (second_told _ _ w))
        (tree_runs (Marked o) c e (none_before _ _ x) (first_told _ _ w))
        (tree_runs o c a (none_before _ _ (none_behind _ _ x)) (first_told _ _ (second_told _ _ w)))
    tree_runs o c (Case place e clauses) x w =
        then_runs (then_runs (then_runs (put_runs I.Mark0 refl refl refl (λ h. refl))
        (tree_runs (Marked o) c e (none_before _ _ x) (first_told _ _ w)))
        (put_runs I.Eret refl refl refl (λ h. refl)))
        (case_runs (guarded_run o c false clauses (none_behind _ _ x) (second_told _ _ w))
        (default_part_runs o c false clauses (none_behind _ _ x) (second_told _ _ w)))
    tree_runs o c (Loop place kind e b) x w = kinds_run kind
        (tree_runs (in_control kind o) (enter_loop (next_in_control kind) c) e (none_before _ _ x) (first_told _ _ w))
        (looped_part_runs (Marked (in_body kind o)) c b (none_behind _ _ x) (second_told _ _ w))
    tree_runs o c (Repeat place b) x w = loop_runs
        (looped_runs (tree_runs (Marked (Looped o)) (enter_loop true c) b x w))
    tree_runs o c (Create place e) x w = created_runs (tree_runs Outermost created_context e x w)
    tree_runs o c (Next place) x w = subst (λ n. Runs S n (translate o (Next place)))
        (sym (next_inside c.in_create c.loops place x)) (if_runs (is_nextless o) (next_runs o))
    tree_runs o c (Fail place) x w = put_runs I.Pfail refl refl refl (λ h. refl)
    tree_runs o c (Break place e) x w = subst (λ n. Runs S n (translate o (Break place e)))
        (sym (break_inside c.in_create c.loops place (none_before _ _ x)))
        (if_runs (is_loopless o) (break_runs o (tree_runs (around o) (leave_loop c) e (none_behind _ _ x) w)))
    tree_runs o c (Return place e) x w = let r = tree_runs (Marked o) c e (none_behind _ _ x) w in
        record {
          run = λ d h. (from d h ▸ labelled I.Mark
              (λ l. record { label = refl; place = refl; variable = refl; operand = λ passes. refl })
              ▸ chain_step r ▸ chain_plain I.Pret refl refl refl (λ h. refl) ▸ placed
              ▸ chain_plain I.Pfail refl refl refl (λ h. refl)).leads;
        }
    tree_runs o c (Suspend place e b) x w = then_runs
        (then_runs (then_runs (then_runs (then_runs (put_runs I.Mark0 refl refl refl (λ h. refl))
        (tree_runs (Marked o) c e (none_before _ _ (none_behind _ _ x)) (first_told _ _ w)))
        (put_runs I.Psusp refl refl refl (λ h. refl))) (put_runs I.Pop refl refl refl (λ h. refl)))
        (suspended_part_runs (Marked (Marked o)) c b (none_behind _ _ (none_behind _ _ x)) (second_told _ _ w)))
        (put_runs I.Efail refl refl refl (λ h. refl))

    operands_run : (o : OpenMarks) (c : Context) (es : Trees) → all_faults c es ≡ [] → Told S.asks (trees_fit S.passes es)
        → Runs S (length c.loops) (operands o es)
    operands_run o c NoTrees x w = nothing_runs
    operands_run o c (More e es) x w = then_runs (tree_runs o c e (none_before _ _ x) (first_told _ _ w))
        (operands_run o c es (none_behind _ _ x) (second_told _ _ w))

    arguments_run : (o : OpenMarks) (c : Context) (es : Trees) → all_faults c es ≡ [] → Told S.asks (trees_fit S.passes es)
        → Runs S (length c.loops) (arguments o es)
    arguments_run o c NoTrees x w = nothing_runs
    arguments_run o c (More e es) x w = if_runs (is_no_element (More e es))
        (then_runs (tree_runs o c e (none_before _ _ x) (first_told _ _ w))
        (operands_run o c es (none_behind _ _ x) (second_told _ _ w)))

    conjunction_runs : (o : OpenMarks) (c : Context) (es : Trees) → all_faults c es ≡ [] → Told S.asks (trees_fit S.passes es)
        → Runs S (length c.loops) (conjunction o es)
    conjunction_runs o c NoTrees x w = nothing_runs
    conjunction_runs o c (More e es) x w = then_runs (tree_runs o c e (none_before _ _ x) (first_told _ _ w))
        (conjuncts_run o c es (none_behind _ _ x) (second_told _ _ w))

    conjuncts_run : (o : OpenMarks) (c : Context) (es : Trees) → all_faults c es ≡ [] → Told S.asks (trees_fit S.passes es)
        → Runs S (length c.loops) (conjuncts o es)
    conjuncts_run o c NoTrees x w = nothing_runs
    conjuncts_run o c (More e es) x w = then_runs
        (then_runs (put_runs I.Pop refl refl refl (λ h. refl))
        (tree_runs o c e (none_before _ _ x) (first_told _ _ w)))
        (conjuncts_run o c es (none_behind _ _ x) (second_told _ _ w))

    compound_runs : (o : OpenMarks) (c : Context) (es : Trees) → all_faults c es ≡ [] → Told S.asks (trees_fit S.passes es)
        → Runs S (length c.loops) (compound o es)
    compound_runs o c NoTrees x w = nothing_runs
    compound_runs o c (More e es) x w = then_runs
        (either_runs (is_nothing es) (tree_runs o c e (none_before _ _ x) (first_told _ _ w))
        (unless_runs e (bounded_runs (tree_runs (Marked o) c e (none_before _ _ x) (first_told _ _ w)))))
        (compound_runs o c es (none_behind _ _ x) (second_told _ _ w))

    creations_run : {n : ℕ} (es : Trees) → all_faults created_context es ≡ [] → Told S.asks (trees_fit S.passes es)
        → Runs S n (creations es)
    creations_run NoTrees x w = nothing_runs
    creations_run (More e es) x w = if_runs (is_no_element (More e es))
        (then_runs (created_runs (tree_runs Outermost created_context e (none_before _ _ x) (first_told _ _ w)))
        (other_creations_run es (none_behind _ _ x) (second_told _ _ w)))

    other_creations_run : {n : ℕ} (es : Trees) → all_faults created_context es ≡ [] → Told S.asks (trees_fit S.passes es)
        → Runs S n (other_creations es)
    other_creations_run NoTrees x w = nothing_runs
    other_creations_run (More e es) x w = then_runs
        (created_runs (tree_runs Outermost created_context e (none_before _ _ x) (first_told _ _ w)))
        (other_creations_run es (none_behind _ _ x) (second_told _ _ w))

    subscripts_run : (o : OpenMarks) (c : Context) (es : Trees) → all_faults c es ≡ [] → Told S.asks (trees_fit S.passes es)
        → Runs S (length c.loops) (subscripts o es)
    subscripts_run o c NoTrees x w = nothing_runs
    subscripts_run o c (More e es) x w = then_runs
        (then_runs (tree_runs o c e (none_before _ _ x) (first_told _ _ w))
        (put_runs (I.Op O.Subscript) refl refl refl (λ h. refl)))
        (subscripts_run o c es (none_behind _ _ x) (second_told _ _ w))

    to_step_runs : (o : OpenMarks) (c : Context) (by : MaybeTree) → maybe_faults c by ≡ [] → Told S.asks (maybe_fits S.passes by)
        → Runs S (length c.loops) (to_step o by)
    to_step_runs o c Absent x w = put_runs _ refl refl refl (λ h. refl)
    to_step_runs o c (Present e) x w = tree_runs o c e x w

    branches_run : (o : OpenMarks) (c : Context) (b : MaybeTree) → maybe_faults c b ≡ [] → Told S.asks (maybe_fits S.passes b)
        → {condition first : Draft → Draft} → Runs S (length c.loops) condition → Runs S (length c.loops) first
        → Runs S (length c.loops) (λ d. d ▹ if_mark b ▹ condition ▹ put I.Unmark ▹ first
        ▹ otherwise o b (next_label d))
    branches_run o c Absent x w r q = record {
      run =
          λ d h. (from d h ▸ chain_plain I.Mark0 refl refl refl (λ h. refl) ▸ chain_step r
          ▸ chain_plain I.Unmark refl refl refl (λ h. refl) ▸ chain_step q).leads;
    }
    branches_run o c (Present b) x w r q = let p = tree_runs o c b x w in
        record {
          run = λ d h. (from d h ▸ labelled I.Mark
              (λ l. record { label = refl; place = refl; variable = refl; operand = λ passes. refl })
              ▸ chain_step r
              ▸ chain_plain I.Unmark refl refl refl (λ h. refl) ▸ chain_step q
              ▸ labelled I.Goto (λ l. record { label = refl; place = refl; variable = refl; operand = λ passes. refl })
              ▸ second_placed ▸ chain_step p
              ▸ placed).leads;
        }

    looped_part_runs : (o : OpenMarks) (c : Context) (b : MaybeTree) → maybe_faults (enter_loop true c) b ≡ []
        → Told S.asks (maybe_fits S.passes b)
        → Runs S (suc (length c.loops)) (looped_part o b)
    looped_part_runs o c Absent x w = nothing_runs
    looped_part_runs o c (Present b) x w = looped_runs (tree_runs o (enter_loop true c) b x w)

    suspended_part_runs : (o : OpenMarks) (c : Context) (b : MaybeTree) → maybe_faults c b ≡ []
        → Told S.asks (maybe_fits S.passes b)
        → Runs S (length c.loops) (suspended_part o b)
    suspended_part_runs o c Absent x w = record { run = λ d h. (from d h ▸ label ▸ placed).leads }
    suspended_part_runs o c (Present b) x w = bounded_runs (tree_runs o c b x w)

    guarded_run : (o : OpenMarks) (c : Context) (has : Bool) (clauses : Clauses) → clauses_faults c has clauses ≡ []
        → Told S.asks (clauses_fit S.passes clauses)
        → CaseRuns (length c.loops) (guarded_part o clauses)
    guarded_run o c has NoClauses x w = record { run = λ d h w. S.none d }
    guarded_run o c has (MoreClauses clause clauses) x w =
        cases_then (guarded_clause_runs o c has clause (none_before _ _ x) (first_told _ _ w))
        (guarded_run o c (is_default has clause) clauses (none_behind _ _ x) (second_told _ _ w))

    guarded_clause_runs : (o : OpenMarks) (c : Context) (has : Bool) (clause : Clause) → clause_faults c has clause ≡ []
        → Told S.asks (clause_fits S.passes clause)
        → CaseRuns (length c.loops) (guarded_clause o clause)
    guarded_clause_runs o c has (Default place e) x w = record { run = λ d h w. S.none d }
    guarded_clause_runs o c has (Guarded place s b) x w =
        clause_runs (tree_runs (Marked o) c s (none_before _ _ x) (first_told _ _ w))
        (tree_runs o c b (none_behind _ _ x) (second_told _ _ w))

    default_part_runs : (o : OpenMarks) (c : Context) (has : Bool) (clauses : Clauses) → clauses_faults c has clauses
        ≡ []
        → Told S.asks (clauses_fit S.passes clauses) → Runs S (length c.loops) (default_part o clauses)
    default_part_runs o c has NoClauses x w = put_runs I.Efail refl refl refl (λ h. refl)
    default_part_runs o c has (MoreClauses clause clauses) x w =
        default_clause_runs o c has clause (none_before _ _ x) (first_told _ _ w)
        (default_part_runs o c (is_default has clause) clauses (none_behind _ _ x) (second_told _ _ w))

    default_clause_runs : (o : OpenMarks) (c : Context) (has : Bool) (clause : Clause) → clause_faults c has clause ≡ []
        → Told S.asks (clause_fits S.passes clause)
        → {later : Draft → Draft} → Runs S (length c.loops) later
        → Runs S (length c.loops) (default_clause o clause later)
    default_clause_runs o c has (Default place e) x w r = tree_runs o c e (none_behind _ _ x) w
    default_clause_runs o c has (Guarded place s b) x w r = r

  -- Procedures

  pub initially_runs : (initial : Initial) → initial_faults initial ≡ [] → Told S.asks (initial_fits S.passes initial)
      → Runs S 0 (initially initial)
  initially_runs NoInitial x w = nothing_runs
  initially_runs (Initially place e) x w = let r = tree_runs Outermost outermost e x w in record {
    run = λ d h.
        let m = next_label d in
        let c = from d h ▸ labelled I.Init (λ l. record
        { label = refl; place = refl; variable = refl; operand = λ passes. refl }) in
        let may = S.may_behind (with_label d) (I.Mark m) (I.Init m)
        (S.fresh d (I.Mark m) (record { label = refl; place = refl; variable = refl; operand = λ passes. refl })) in
        let begun : Chain S 0 d (put (I.Mark m) (put (I.Init m) (with_label d))) (m ∷ []) =
        record { leads = S.instr d _ (m ∷ []) (I.Mark m) may c.leads; inside = h } in
        (begun ▸ chain_step r ▸ chain_plain I.Unmark refl refl refl (λ h. refl) ▸ placed).leads;
  }

  pub body_runs : (es : Trees) → all_faults outermost es ≡ [] → Told S.asks (trees_fit S.passes es) → Runs S 0 (body es)
  body_runs NoTrees x w = nothing_runs
  body_runs (More e es) x w = then_runs (unless_runs e
      (bounded_runs (tree_runs Outermost outermost e (none_before _ _ x) (first_told _ _ w))))
      (body_runs es (none_behind _ _ x) (second_told _ _ w))
