-- Whatever each put and each reading keeps of the outside, every evaluation keeps.
use Rattle.std.proofs.Common.{◌≡◌, ℕ, zero, suc, Bool, true, false, List, [], ◌∷◌, ◌++◌, length, Option, Some, None, ap, subst}
use Rattle.std.specs.Prelude.{ℤ, pos, negsuc, ◌-◌, ◌==◌, nat_lt, nat_le, drop, reverse, slice_get, slice_index_or, codes}
use Rattle.icn_text.specs.declared.op.Op.{Op}
use Rattle.icn_text.specs.declared.op.Op.TheVariants as Ops
use Rattle.icn_text.specs.declared.keyword.Keyword.{Keyword as KeywordName}
use Rattle.icn_text.specs.declared.keyword.TheConstants.Keyword.{ALL as keywords}
use Rattle.icn_tree.specs.declared.token.Operator.{Operator}
use Rattle.icn_tree.specs.declared.token.Operator.TheVariants as Signs
use Rattle.icn_tree.specs.declared.tree.Place.{Place}
use Rattle.icn_tree.specs.declared.tree.Infix.TheVariants.{Plain, Augmented}
use Rattle.icn_tree.specs.declared.tree.LoopKind.{LoopKind}
use Rattle.icn_tree.specs.declared.tree.LoopKind.TheVariants as Loops
use Rattle.icn_tree.specs.Trees as T
use Rattle.icn_tree.specs.Trees.{Tree, Trees, MaybeTree, Clauses, Empty, Absent, Present, NoTrees, More, Default, Guarded, NoClauses, MoreClauses, elements_of, Initial, NoInitial, Initially}
use Rattle.icn_value.specs.Values.{Value, Text, Procedure, ARecord, AList, ACoexp, Local, Whole, Part, Item, Val, Var}
use Rattle.icn_value.specs.Store.{list_at, record_at}
use Rattle.icn_defs.specs.NamedValues.{named_by}
use Rattle.icn_defs.specs.Rows.{Outcome, Fails, Gives, Suspends, Error, Ends}
use Rattle.icn_defs.specs.Applying.{again}
use Rattle.icn_defs.specs.Arities.{arity}
use Rattle.icn_defs.specs.Conversions.{integer_of, position_of}
use Rattle.icn_defs.specs.Keywords.{keyword_item}
use Rattle.icn_defs.specs.Errors.{error_report}
use Rattle.icn_defs.proofs.OnErrors.{on_one}
use Rattle.icn_defs.specs.Running.{Done, Errored, Exit, bound_report, Launch, Observation, words_row, number_of, after_steps}
use Rattle.icn_defs.specs.StepRows.{Operation, Function, apply, value_row, list_row, text_row, record_row, coexpression_row}
use Rattle.icn_meaning.specs.Program.{Program, Routine, Constructor, Callee, IsRoutine, IsKind, IsFunction, IsNothing, callee_of, index_of, routine_names}
use Rattle.icn_meaning.specs.Contexts.{Application, Operating, Calling, Spreading, Collecting, Taking, Activating, frame_of, activation_of, Works, Nothing, ◌and_then◌, Choices, NoChoice, ◌or_else◌, Args, Then, Cut, Raise, Limit, Count, Scan, Leave, Update, Each, Select, Returning, Suspending, Result, Do, Again, Resume, Restore, Reenter, Back, Exhaust, Action, Go, Give, Pass, Body, Try, Rest, Off, Surroundings, InCall, InCreate, InScan, InLoop, InControl, Status, Fresh, Active, Waiting, AfterResult, Exhausted, Coexpression, Store, Evaluation, eval, succeed, fail, hop, over, lost, Ending}
use Rattle.icn_meaning.specs.Contexts as C
use Rattle.icn_meaning.specs.Operators.{prefix_op, infix_op, update_op}
use Rattle.icn_meaning.specs.Turns as U
use Rattle.icn_meaning.specs.Scanning as S
use Rattle.icn_meaning.specs.Actions as A
use Rattle.icn_meaning.specs.Coexpressions as X
use Rattle.icn_meaning.specs.Calls as L
use Rattle.icn_meaning.specs.Evaluate as E
use Rattle.icn_meaning.specs.Succeed as W
use Rattle.icn_meaning.specs.Fail as F
use Rattle.icn_meaning.specs.Meaning as M
use Rattle.law_outside.specs.Outsides.{LeavesOutside}
use Rattle.law_outside.proofs.LastingFacts.{Lasting, ended_so}
use Rattle.law_outside.proofs.OutsideRows.{operation_leaves, function_leaves, again_leaves, list_leaves, record_leaves, coexpression_leaves, text_leaves, words_leave}

module _ (b : Lasting) where
  abbrev K : Store → Type 0
  K st = b.is st.outside

  -- it is so of the outside of a state
  abbrev pub G : Evaluation → Type 0
  G (eval e s k r st) = K st
  G (succeed x k r st) = K st
  G (fail r st) = K st
  G (hop c st) = K st
  G (over ending st) = K st
  G lost = Unit {0}

  -- Ends, turns and rows

  ended : (e : Ending) (st : Store) → K st → G (U.end_run e st)
  ended e st k = ended_so b st.world.heap.files st.outside k

  reported : (text : List ℕ) (st : Store) → K st → K (U.with_report text st)
  reported text st k = b.errors st.outside text k

  errs : (n : ℕ) (v : Option Value) (r : Choices) (st : Store) → K st → G (U.errs n v r st)
  errs n v r st k =
      let report = error_report st.names st.world.heap n v in
      on_one G n v st.world (U.end_run (Errored n) (U.with_report report st)) (λ world. fail r (record st { world = world }))
      (ended (Errored n) (U.with_report report st) (reported report st k)) k

  turn_if : (t : Bool) (st : Store) (go : Store → Evaluation) → K st → ((s : Store) → K s → G (go s)) → G (U.turn_if t st go)
  turn_if true st go k f = f (record st { turns = suc st.turns }) k
  turn_if false st go k f = reported bound_report st k

  turn : (st : Store) (go : Store → Evaluation) → K st → ((s : Store) → K s → G (go s)) → G (U.turn st go)
  turn st go k f = turn_if (nat_lt st.turns st.world.heap.bounds.turns) st go k f

  valued : (o : Outcome) (r : Choices) (st : Store) (go : Value → Evaluation) → K st → ((v : Value) → G (go v)) → G (U.with_given o r st go)
  valued (Gives (Val v) s) r st go k f = f v
  valued (Gives (Var x) s) r st go k f = k
  valued (Error n v s) r st go k f = errs n v r st k
  valued (Fails s) r st go k f = k
  valued (Suspends x m s) r st go k f = k
  valued (Ends n s) r st go k f = k

  made : (o : Outcome) (a : ℕ) (r : Choices) (st : Store) (go : Value → Store → Evaluation) → K st → LeavesOutside b.is o
      → ((v : Value) (s : Store) → K s → G (go v s)) → G (U.with_made o a r st go)
  made (Gives (Val v) s) a r st go k l f = f v (U.after a s st) l
  made (Gives (Var x) s) a r st go k l f = k
  made (Error n v s) a r st go k l f = errs n v r (U.after a s st) l
  made (Fails s) a r st go k l f = k
  made (Suspends x m s) a r st go k l f = k
  made (Ends n s) a r st go k l f = k

  answer : (o : Outcome) (a : ℕ) (w : Works) (r : Choices) (st : Store) → LeavesOutside b.is o → G (U.answer o a w r st)
  answer (Fails s) a w r st l = l
  answer (Gives x s) a w r st l = l
  answer (Suspends x m s) a w r st l = l
  answer (Error n v s) a w r st l = errs n v r (U.after a s st) l
  answer (Ends n s) a w r st l = ended (Exit n) (U.after a s st) l

  value : (x : Item) (a : ℕ) (r : Choices) (st : Store) (go : Value → Evaluation) → K st → ((v : Value) → G (go v)) → G (U.value x a r st go)
  value x a r st go k f = valued (value_row x (U.setting_in a st)) r st go k f

  values : (xs : List Item) (a : ℕ) (r : Choices) (st : Store) (go : List Value → Evaluation) → K st → ((vs : List Value) → G (go vs))
      → G (U.values xs a r st go)
  values [] a r st go k f = f []
  values (x ∷ xs) a r st go k f =
      value x a r st (λ v. U.values xs a r st (λ vs. go (v ∷ vs))) k (λ v. values xs a r st (λ vs. go (v ∷ vs)) k (λ vs. f (v ∷ vs)))

  outgoing : (x : Item) (a : ℕ) (r : Choices) (st : Store) (go : Item → Evaluation) → K st → ((x : Item) → G (go x)) → G (U.with_outgoing x a r st go)
  outgoing (Var (Whole (Local n))) a r st go k f = value (Var (Whole (Local n))) a r st (λ v. go (Val v)) k (λ v. f (Val v))
  outgoing (Var (Part (Local n) place size)) a r st go k f = value (Var (Part (Local n) place size)) a r st (λ v. go (Val v)) k (λ v. f (Val v))
  outgoing x a r st go k f = f x

  -- Scans

  swapped_if : (ps : List ℕ) (st : Store) → K st → K (S.exchanged_if ps st)
  swapped_if [] st k = k
  swapped_if (p ∷ []) st k = k
  swapped_if (p ∷ q ∷ ps) st k = swapped_if (q ∷ ps) st k

  swapped : (s : Surroundings) (st : Store) → K st → K (S.exchanged_oldest s st)
  swapped s st k = swapped_if (S.scans_of s) st k

  -- Actions

  off : (s : Surroundings) (st : Store) → K st → G (A.off s st)
  off (InCall frame w r) st k = k
  off (InCreate frame) st k = tt
  off (InScan p s) st k = off s (S.restore_pair p st) k
  off (InLoop s w r a rn) st k = off s st k
  off (InControl s w r) st k = off s st k

  rest : (es : Trees) (s : Surroundings) (r : Choices) (st : Store) → K st → G (A.rest es s r st)
  rest NoTrees s r st k = off s st k
  rest (More Empty es) s r st k = rest es s r st k
  rest (More e es) s r st k = k

  otherwise : (m : MaybeTree) (s : Surroundings) (w : Works) (r : Choices) (st : Store) → K st → G (A.otherwise m s w r st)
  otherwise Absent s w r st k = k
  otherwise (Present e) s w r st k = k

  try : (v : Value) (cs : Clauses) (m : MaybeTree) (s : Surroundings) (w : Works) (r : Choices) (st : Store) → K st → G (A.try v cs m s w r st)
  try v NoClauses m s w r st k = otherwise m s w r st k
  try v (MoreClauses (Default place e) cs) m s w r st k = try v cs m s w r st k
  try v (MoreClauses (Guarded place c e) cs) m s w r st k = k

  act : (a : Action) (r : Choices) (st : Store) → K st → G (A.act a r st)
  act (Go e s w) r st k = k
  act (Give v w) r st k = k
  act C.Fails r st k = k
  act (Pass e s w) r st k = turn st (λ st. eval e s w r st) k (λ s k. k)
  act (Body Absent s p) r st k = act p r st k
  act (Body (Present e) s p) r st k = k
  act (Try v cs m s w) r st k = try v cs m s w r st k
  act (Rest es s) r st k = rest es s r st k
  act (Off s) r st k = off s st k

  break : (e : Tree) (s : Surroundings) (st : Store) → K st → G (A.break e s st)
  break e (InCall frame w r) st k = tt
  break e (InCreate frame) st k = tt
  break e (InScan p s) st k = break e s (S.restore_pair p st) k
  break e (InLoop s w r a rn) st k = k
  break e (InControl s w r) st k = k

  next : (s : Surroundings) (st : Store) → K st → G (A.next s st)
  next (InCall frame w r) st k = tt
  next (InCreate frame) st k = tt
  next (InScan p s) st k = next s (S.restore_pair p st) k
  next (InLoop s w r a rn) st k = act a rn st k
  next (InControl s w r) st k = tt

  -- Co-expressions

  fresh : (e : Tree) (n : ℕ) (vs : List Value) (a : ℕ) (w : Works) (r : Choices) (st : Store) → K st → G (X.fresh e n vs a w r st)
  fresh e n vs a w r st k =
      made (coexpression_row (length vs) (U.setting_in a st)) a r st _ k (coexpression_leaves b (length vs) (U.setting_in a st) k) (λ v s k. k)

  refreshed_from : (o : Option Coexpression) (a : ℕ) (w : Works) (r : Choices) (st : Store) → K st → G (X.refreshed_from o a w r st)
  refreshed_from (Some co) a w r st k = fresh co.body co.procedure co.values a w r st k
  refreshed_from None a w r st k = tt

  refreshed : (v : Value) (a : ℕ) (w : Works) (r : Choices) (st : Store) → K st → G (X.refresh v a w r st)
  refreshed (ACoexp zero) a w r st k = errs 215 (Some (ACoexp zero)) r st k
  refreshed (ACoexp (suc n)) a w r st k = refreshed_from (slice_get st.coexpressions (suc n)) a w r st k
  refreshed v a w r st k = errs 118 (Some v) r st k

  entered_in : (u : Status) (c : ℕ) (v : Value) (st : Store) → K st → G (X.entered_in u c v st)
  entered_in Fresh c v st k = k
  entered_in (Waiting w r) c v st k = k
  entered_in (AfterResult r) c v st k = k
  entered_in Exhausted c v st k = k
  entered_in Active c v st k = tt

  failed_in : (u : Status) (c : ℕ) (st : Store) → K st → G (X.failed_in u c st)
  failed_in (Waiting w r) c st k = k
  failed_in (AfterResult r) c st k = k
  failed_in Exhausted c st k = k
  failed_in Fresh c st k = tt
  failed_in Active c st k = tt

  sent_if : (t : Bool) (u : Status) (v : Value) (c : ℕ) (w : Works) (r : Choices) (st : Store) → K st → G (X.sent_if t u v c w r st)
  sent_if t Exhausted v c w r st k = k
  sent_if true u v c w r st k = k
  sent_if false u v c w r st k = let s = X.with_activator c st.active (X.with_status st.active (Waiting w r) st) in entered_in (X.status_of c s) c v s k

  activate : (v to : Value) (w : Works) (r : Choices) (st : Store) → K st → G (X.activate v to w r st)
  activate v (ACoexp c) w r st k = sent_if (c == st.active) (X.status_of c st) v c w r st k
  activate v to w r st k = errs 118 (Some to) r st k

  gives : (v : Value) (r : Choices) (st : Store) → K st → G (X.gives v r st)
  gives v r st k = let s = X.count_result st.active (X.with_status st.active (AfterResult r) st) in let c = X.activator_of st.active st in
      entered_in (X.status_of c s) c v s k

  result : (x : Item) (a : ℕ) (r : Choices) (st : Store) → K st → G (X.result x a r st)
  result x a r st k = turn st (λ st. U.value x a r st (λ v. X.gives v r st)) k (λ st k. value x a r st (λ v. X.gives v r st) k (λ v. gives v r st k))

  exhaust : (st : Store) → K st → G (X.exhaust st)
  exhaust st k = turn st (λ st. X.fail_coexp (X.activator_of st.active st) (X.with_status st.active Exhausted st)) k
      (λ st k. let s = X.with_status st.active Exhausted st in let c = X.activator_of st.active st in failed_in (X.status_of c s) c s k)

  hopped : (c : ℕ) (st : Store) → K st → G (X.pass_failure c st)
  hopped c st k = turn st (λ st. X.fail_coexp (X.activator_of c st) st) k (λ st k. let d = X.activator_of c st in failed_in (X.status_of d st) d st k)

  -- Calls

  begun_if : (t : Bool) (n : ℕ) (i : Initial) (body : Trees) (s : Surroundings) (r : Choices) (st : Store) → K st → G (L.begun_if t n i body s r st)
  begun_if false n (Initially place e) body s r st k = rest (More e body) s r _ k
  begun_if false n NoInitial body s r st k = rest body s r st k
  begun_if true n i body s r st k = rest body s r st k

  enter : (n : ℕ) (routine : Routine) (vs : List Value) (level : ℕ) (w : Works) (r : Choices) (st : Store) → K st → G (L.enter n routine vs level w r st)
  enter n routine vs level w r st k = begun_if (slice_index_or st.begun n true) n routine.initial routine.body _ r _ k

  collect : (t : Bool) (n : ℕ) (routine : Routine) (vs : List Value) (level a : ℕ) (w : Works) (r : Choices) (st : Store) → K st
      → G (L.collect t n routine vs level a w r st)
  collect false n routine vs level a w r st k = enter n routine (L.fit_count routine.parameters vs) level w r st k
  collect true n routine vs level a w r st k =
      made (list_row (drop (routine.parameters - 1) vs) (U.setting_in a st)) a r st _ k (list_leaves b (drop (routine.parameters - 1) vs) (U.setting_in a st) k)
      (λ list st k. enter n routine (L.fit_count (routine.parameters - 1) vs ++ list ∷ []) level w r st k)

  call_if : (t : Bool) (n : ℕ) (routine : Routine) (vs : List Value) (level a : ℕ) (w : Works) (r : Choices) (st : Store) → K st
      → G (L.call_if t n routine vs level a w r st)
  call_if true n routine vs level a w r st k = collect routine.collects n routine vs level a w r st k
  call_if false n routine vs level a w r st k = errs 301 None r st k

  call : (n : ℕ) (routine : Routine) (vs : List Value) (level a : ℕ) (w : Works) (r : Choices) (st : Store) → K st → G (L.call n routine vs level a w r st)
  call n routine vs level a w r st k = call_if (nat_le level st.world.heap.bounds.levels) n routine vs level a w r st k

  construct : (n : ℕ) (kind : Constructor) (vs : List Value) (a : ℕ) (w : Works) (r : Choices) (st : Store) → K st → G (L.construct n kind vs a w r st)
  construct n kind vs a w r st k = let fs = L.fit_count (length kind.fields) vs in
      made (record_row n fs (U.setting_in a st)) a r st _ k (record_leaves b n fs (U.setting_in a st) k) (λ v s k. k)

  invoke_callee : (c : Callee) (n : ℕ) (xs : List Item) (s : Surroundings) (w : Works) (r : Choices) (st : Store) → K st → G (L.invoke_callee c n xs s w r st)
  invoke_callee (IsRoutine routine) n xs s w r st k =
      values xs (activation_of s) r st _ k (λ vs. call n routine vs (suc (frame_of s).level) (activation_of s) w r st k)
  invoke_callee (IsKind m kind) n xs s w r st k = values xs (activation_of s) r st _ k (λ vs. construct m kind vs (activation_of s) w r st k)
  invoke_callee (IsFunction f) n xs s w r st k = answer (apply st.names (Function f) xs (U.setting_in (activation_of s) st)) (activation_of s) w r st
      (function_leaves b st.names f xs (U.setting_in (activation_of s) st) k)
  invoke_callee IsNothing n xs s w r st k = errs 106 (Some (Procedure n)) r st k

  chosen : (o : Option Item) (w : Works) (r : Choices) (st : Store) → K st → G (L.choose_item o w r st)
  chosen (Some x) w r st k = k
  chosen None w r st k = k

  module _ (p : Program) where
    invoke_named : (o : Option ℕ) (v : Value) (xs : List Item) (s : Surroundings) (w : Works) (r : Choices) (st : Store) → K st
        → G (L.invoke_named p o v xs s w r st)
    invoke_named (Some n) v xs s w r st k = invoke_callee (callee_of p n) n xs s w r st k
    invoke_named None v xs s w r st k = errs 106 (Some v) r st k

    choose : (o : Option ℤ) (v : Value) (xs : List Item) (s : Surroundings) (w : Works) (r : Choices) (st : Store) → K st
        → G (L.choose p o v xs s w r st)
    choose (Some i) v xs s w r st k = chosen (L.argument_at (position_of i (length xs)) xs) w r st k
    choose None v xs s w r st k = invoke_named (named_by st.names v) v xs s w r st k

    invoke : (v : Value) (xs : List Item) (s : Surroundings) (w : Works) (r : Choices) (st : Store) → K st → G (L.invoke p v xs s w r st)
    invoke (Procedure n) xs s w r st k = invoke_callee (callee_of p n) n xs s w r st k
    invoke v xs s w r st k = choose (number_of v) v xs s w r st k

    spread : (f v : Value) (s : Surroundings) (w : Works) (r : Choices) (st : Store) → K st → G (L.apply_to_list p f v s w r st)
    spread f (AList l) s w r st k = invoke f (L.items (list_at st.world.heap l).items) s w r st k
    spread f (ARecord n) s w r st k = invoke f (L.items (record_at st.world.heap n).fields) s w r st k
    spread f v s w r st k = errs 126 (Some v) r st k

    field_at : (o : Option ℕ) (x : ℕ) (w : Works) (r : Choices) (st : Store) → K st → G (L.field_at o x w r st)
    field_at (Some n) x w r st k = k
    field_at None x w r st k = errs 207 (Some (ARecord x)) r st k

    take_field : (name : List ℕ) (v : Value) (w : Works) (r : Choices) (st : Store) → K st → G (L.take_field p name v w r st)
    take_field name (ARecord x) w r st k = field_at _ x w r st k
    take_field name v w r st k = errs 107 (Some v) r st k

    listed : (vs : List Value) (a : ℕ) (w : Works) (r : Choices) (st : Store) → K st → G (L.make_list vs a w r st)
    listed vs a w r st k = made (list_row vs (U.setting_in a st)) a r st _ k (list_leaves b vs (U.setting_in a st) k) (λ v s k. k)

    operated : (all : Bool) (o : Op) (xs : List Item) (s : Surroundings) (w : Works) (r : Choices) (st : Store) → K st → G (L.apply_op all o xs s w r st)
    operated false o xs s w r st k = tt
    operated true Ops.Refresh (x ∷ xs) s w r st k = value x (activation_of s) r st _ k (λ v. refreshed v (activation_of s) w r st k)
    operated true o xs s w r st k = answer (apply st.names (Operation o) xs (U.setting_in (activation_of s) st)) (activation_of s) w r st
        (operation_leaves b o xs (U.setting_in (activation_of s) st) k)

    applied : (form : Application) (xs : List Item) (s : Surroundings) (w : Works) (r : Choices) (st : Store) → K st → G (L.apply_form p form xs s w r st)
    applied (Operating o) xs s w r st k = operated (length xs == arity o) o xs s w r st k
    applied Calling [] s w r st k = tt
    applied Calling (x ∷ xs) s w r st k = value x (activation_of s) r st _ k (λ v. invoke v xs s w r st k)
    applied Spreading [] s w r st k = tt
    applied Spreading (x ∷ []) s w r st k = tt
    applied Spreading (x ∷ y ∷ xs) s w r st k = value x (activation_of s) r st _ k (λ f. value y (activation_of s) r st _ k (λ v. spread f v s w r st k))
    applied Collecting xs s w r st k = values xs (activation_of s) r st _ k (λ vs. listed vs (activation_of s) w r st k)
    applied (Taking name) [] s w r st k = tt
    applied (Taking name) (x ∷ xs) s w r st k = value x (activation_of s) r st _ k (λ v. take_field name v w r st k)
    applied Activating [] s w r st k = tt
    applied Activating (x ∷ []) s w r st k = tt
    applied Activating (x ∷ y ∷ xs) s w r st k = value x (activation_of s) r st _ k (λ v. value y (activation_of s) r st _ k (λ c. activate v c w r st k))

    operands : (form : Application) (xs : List Item) (es : Trees) (s : Surroundings) (w : Works) (r : Choices) (st : Store) → K st
        → G (L.operands p form xs es s w r st)
    operands form xs (More e es) s w r st k = k
    operands form xs NoTrees s w r st k = turn st _ k (λ st k. applied form (reverse xs) s w r st k)

    returned : (x : Item) (s : Surroundings) (st : Store) → K st → G (L.return_item x s st)
    returned x (InCall frame w r) st k = k
    returned x (InCreate frame) st k = tt
    returned x (InScan q s) st k = returned x s (S.restore_pair q st) k
    returned x (InLoop s w r a rn) st k = returned x s st k
    returned x (InControl s w r) st k = returned x s st k

    suspended : (x : Item) (m : MaybeTree) (s around : Surroundings) (r : Choices) (st : Store) → K st → G (L.suspend_call x m s around r st)
    suspended x m s (InCall frame w r0) r st k = k
    suspended x m s (InCreate frame) r st k = tt
    suspended x m s (InScan q around) r st k = suspended x m s around r st k
    suspended x m s (InLoop around w r0 a rn) r st k = suspended x m s around r st k
    suspended x m s (InControl around w r0) r st k = suspended x m s around r st k

    -- Forms

    keyword_or : (o : Option Item) (w : Works) (r : Choices) (st : Store) → K st → G (E.item_or_failure o w r st)
    keyword_or (Some x) w r st k = k
    keyword_or None w r st k = k

    keyword : (o : Option KeywordName) (s : Surroundings) (w : Works) (r : Choices) (st : Store) → K st → G (E.keyword o s w r st)
    keyword (Some word) s w r st k = keyword_or (keyword_item (E.standing_of s st) word) w r st k
    keyword None s w r st k = tt

    compound : (place : Place) (es : Trees) (s : Surroundings) (w : Works) (r : Choices) (st : Store) → K st → G (E.compound place es s w r st)
    compound place NoTrees s w r st k = tt
    compound place (More e NoTrees) s w r st k = k
    compound place (More Empty (More e es)) s w r st k = compound place (More e es) s w r st k
    compound place (More d (More e es)) s w r st k = k

    conjunction : (place : Place) (es : Trees) (s : Surroundings) (w : Works) (r : Choices) (st : Store) → K st → G (E.conjunction place es s w r st)
    conjunction place NoTrees s w r st k = tt
    conjunction place (More e NoTrees) s w r st k = k
    conjunction place (More d (More e es)) s w r st k = k

    subscripts : (place : Place) (x : Tree) (es : Trees) (s : Surroundings) (w : Works) (r : Choices) (st : Store) → K st
        → G (E.subscripts p place x es s w r st)
    subscripts place x NoTrees s w r st k = tt
    subscripts place x (More i NoTrees) s w r st k = k
    subscripts place x (More i (More j js)) s w r st k = subscripts place _ (More j js) s w r st k

    loops : (kind : LoopKind) (loop e : Tree) (m : MaybeTree) (s : Surroundings) (w : Works) (r : Choices) (st : Store) → K st
        → G (E.loops kind loop e m s w r st)
    loops Loops.While loop e m s w r st k = k
    loops Loops.Until loop e m s w r st k = k
    loops Loops.Every loop e m s w r st k = k

    operate : (o : Option Op) (es : Trees) (s : Surroundings) (w : Works) (r : Choices) (st : Store) → K st → G (E.operate p o es s w r st)
    operate (Some o) es s w r st k = operands (Operating o) [] es s w r st k
    operate None es s w r st k = tt

    before : (o : Operator) (e : Tree) (s : Surroundings) (w : Works) (r : Choices) (st : Store) → K st → G (E.before p o e s w r st)
    before Signs.Bar e s w r st k = k
    before Signs.At e s w r st k = k
    before o e s w r st k = operate (prefix_op o) (More e NoTrees) s w r st k

    between : (o : Operator) (d e : Tree) (s : Surroundings) (w : Works) (r : Choices) (st : Store) → K st → G (E.between p o d e s w r st)
    between Signs.Ampersand d e s w r st k = k
    between Signs.Question d e s w r st k = k
    between Signs.Bar d e s w r st k = k
    between Signs.Backslash d e s w r st k = k
    between Signs.At d e s w r st k = k
    between Signs.Bang d e s w r st k = k
    between o d e s w r st k = operate (infix_op o) (More d (More e NoTrees)) s w r st k

    on_eval : (e : Tree) (s : Surroundings) (w : Works) (r : Choices) (st : Store) → K st → G (E.on_eval p e s w r st)
    on_eval Empty s w r st k = k
    on_eval (T.Constant place v) s w r st k = k
    on_eval (T.Identifier name) s w r st k = k
    on_eval (T.Keyword place name) s w r st k = keyword (E.keyword_among name.text keywords) s w r st k
    on_eval (T.Parentheses place es) s w r st k = conjunction place es s w r st k
    on_eval (T.Listing place es) s w r st k = operands Collecting [] (elements_of es) s w r st k
    on_eval (T.Compound place es) s w r st k = compound place es s w r st k
    on_eval (T.Call place f es) s w r st k = k
    on_eval (T.CoCall place f es) s w r st k = k
    on_eval (T.Subscript place x es) s w r st k = subscripts place x es s w r st k
    on_eval (T.Section place kind x i j) s w r st k = k
    on_eval (T.Field place x name) s w r st k = k
    on_eval (T.Prefix place o e) s w r st k = before o e s w r st k
    on_eval (T.Not place e) s w r st k = k
    on_eval (T.Binary place (Plain o) d e) s w r st k = between o d e s w r st k
    on_eval (T.Binary place (Augmented o) d e) s w r st k = k
    on_eval (T.To place i j by) s w r st k = k
    on_eval (T.If place c d m) s w r st k = k
    on_eval (T.Case place e cs) s w r st k = k
    on_eval (T.Loop place kind e m) s w r st k = loops kind (T.Loop place kind e m) e m s w r st k
    on_eval (T.Repeat place e) s w r st k = k
    on_eval (T.Create place e) s w r st k = turn st _ k (λ st k. fresh e _ _ _ w r st k)
    on_eval (T.Next place) s w r st k = next s st k
    on_eval (T.Fail place) s w r st k = off s st k
    on_eval (T.Break place e) s w r st k = break e s st k
    on_eval (T.Return place e) s w r st k = k
    on_eval (T.Suspend place e m) s w r st k = k

    -- Works

    limit : (o : Option ℤ) (v : Value) (e : Tree) (s : Surroundings) (w : Works) (r : Choices) (st : Store) → K st → G (W.limit o v e s w r st)
    limit (Some (pos zero)) v e s w r st k = k
    limit (Some (pos (suc n))) v e s w r st k = k
    limit (Some (negsuc n)) v e s w r st k = errs 205 (Some v) r st k
    limit None v e s w r st k = errs 101 (Some v) r st k

    count_by : (n : ℕ) (x : Item) (w : Works) (r0 r : Choices) (st : Store) → K st → G (W.count_by n x w r0 r st)
    count_by zero x w r0 r st k = k
    count_by (suc n) x w r0 r st k = k

    scan_in : (q : ℕ) (v : Value) (e : Tree) (s : Surroundings) (w : Works) (r : Choices) (st : Store) → K st → G (W.scan_in q v e s w r st)
    scan_in q (Text text) e s w r st k = k
    scan_in q v e s w r st k = k

    scan : (x : Item) (e : Tree) (s : Surroundings) (w : Works) (r : Choices) (st : Store) → K st → G (W.scan x e s w r st)
    scan x e s w r st k = value x (activation_of s) r st
        _ k (λ v. made (text_row v (U.setting_in (activation_of s) st)) (activation_of s) r st _ k (text_leaves b v (U.setting_in (activation_of s) st) k)
        (λ text st k. scan_in (S.new_cell st) text e s w r st k))

    update_by : (o : Option Op) (x : Item) (e : Tree) (s : Surroundings) (w : Works) (r : Choices) (st : Store) → K st → G (W.update_by o x e s w r st)
    update_by (Some o) x e s w r st k = k
    update_by None x e s w r st k = tt

    update : (o : Operator) (x : Item) (e : Tree) (s : Surroundings) (w : Works) (r : Choices) (st : Store) → K st → G (W.update o x e s w r st)
    update Signs.Ampersand x e s w r st k = k
    update Signs.Question x e s w r st k = k
    update Signs.At x e s w r st k = k
    update o x e s w r st k = update_by (update_op o) x e s w r st k

    each : (m : MaybeTree) (s : Surroundings) (w : Works) (r0 r : Choices) (st : Store) → K st → G (W.each m s w r0 r st)
    each Absent s w r0 r st k = k
    each (Present e) s w r0 r st k = k

    on_succeed : (x : Item) (w : Works) (r : Choices) (st : Store) → K st → G (W.on_succeed p x w r st)
    on_succeed x Nothing r st k = ended Done st k
    on_succeed x (Args form xs es s and_then w) r st k = operands form (x ∷ xs) es s w r st k
    on_succeed x (Then e s and_then w) r st k = k
    on_succeed x (Cut r0 a and_then w) r st k = act a r0 st k
    on_succeed x (Raise flag and_then w) r st k = k
    on_succeed x (Limit e s and_then w) r st k = value x (activation_of s) r st _ k (λ v. limit (integer_of v) v e s w r st k)
    on_succeed x (Count c r0 and_then w) r st k = count_by (W.results_left c st) x w r0 r _ k
    on_succeed x (Scan e s and_then w) r st k = scan x e s w r st k
    on_succeed x (Leave q and_then w) r st k = k
    on_succeed x (Update o e s and_then w) r st k = update o x e s w r st k
    on_succeed x (Each m s w0 r0 and_then w) r st k = each m s w0 r0 r st k
    on_succeed x (Select cs s w0 r0 and_then w) r st k = value x (activation_of s) r st _ k (λ v. act (Try v cs (W.default_of cs) s w0) r0 st k)
    on_succeed x (Returning s and_then w) r st k = outgoing x (activation_of s) r st _ k (λ x. returned x s st k)
    on_succeed x (Suspending m s and_then w) r st k =
        outgoing x (activation_of s) r st _ k (λ x. suspended x m s s r (S.exchanged_oldest s st) (swapped s st k))
    on_succeed x (Result a and_then w) r st k = result x a r st k

    -- Choices

    again_if : (t : Bool) (e : Tree) (s : Surroundings) (flag : ℕ) (w : Works) (r : Choices) (st : Store) → K st → G (F.again_if t e s flag w r st)
    again_if true e s flag w r st k = turn st _ k (λ s k. k)
    again_if false e s flag w r st k = k

    back : (m : MaybeTree) (s : Surroundings) (r : Choices) (st : Store) → K st → G (F.back m s r st)
    back Absent s r st k = k
    back (Present e) s r st k = k

    on_fail : (r : Choices) (st : Store) → K st → G (F.on_fail r st)
    on_fail NoChoice st k = ended Done st k
    on_fail (Do a or_else r) st k = act a r st k
    on_fail (Again e s flag w or_else r) st k = again_if (slice_index_or st.flags flag false) e s flag w r st k
    on_fail (Resume a m w or_else r) st k = turn st _ k (λ st k. answer (again m (U.setting_in a st)) a w r st (again_leaves b m (U.setting_in a st) k))
    on_fail (Restore q or_else r) st k = k
    on_fail (Reenter q or_else r) st k = k
    on_fail (Back m s or_else r) st k = turn st _ k (λ st k. back m s r (S.exchanged_oldest s st) (swapped s st k))
    on_fail (Exhaust or_else r) st k = exhaust st k

    -- Runs

    step : (s : Evaluation) → G s → G (M.step p s)
    step (eval e s w r st) k = on_eval e s w r st k
    step (succeed x w r st) k = on_succeed x w r st k
    step (fail r st) k = on_fail r st k
    step (hop c st) k = hopped c st k
    step (over ending st) k = k
    step lost k = tt

    steps : (n : ℕ) (s : Evaluation) → G s → G (after_steps (M.step p) n s)
    steps zero s k = k
    steps (suc n) s k = steps n (M.step p s) (step s k)

    main_in : (o : Option Routine) (n : ℕ) (lines : List (List ℕ)) (st : Store) → K st → G (M.main_in o n lines st)
    main_in (Some routine) n lines st k = made (words_row lines (U.setting_in zero st)) zero NoChoice st _ k (words_leave b lines (U.setting_in zero st) k)
        (λ list st k. call n routine (list ∷ []) 1 zero Nothing NoChoice st k)
    main_in None n lines st k = errs 117 None NoChoice st k

    main_at : (o : Option ℕ) (lines : List (List ℕ)) (st : Store) → K st → G (M.main_at p o lines st)
    main_at (Some n) lines st k = main_in (slice_get p.routines n) n lines st k
    main_at None lines st k = errs 117 None NoChoice st k

    start : (launch : Launch) → b.is launch.outside → G (M.start p launch)
    start launch k = main_at (index_of (codes "main") (routine_names p.routines)) launch.words (M.first_store p launch) k

    abbrev record_of : Ending → Store → Observation
    record_of ending st = record { ending = ending; outside = st.outside }

    seen_so : (s : Evaluation) (seen : Observation) → M.observation s ≡ Some seen → G s → b.is seen.outside
    seen_so (over ending st) seen e k = subst b.is (let h : record_of ending st ≡ seen = cc in ap (λ (o : Observation). o.outside) h) k
    seen_so (eval e s w r st) seen f k = absurd (cc f)
    seen_so (succeed x w r st) seen f k = absurd (cc f)
    seen_so (fail r st) seen f k = absurd (cc f)
    seen_so (hop c st) seen f k = absurd (cc f)
    seen_so lost seen f k = absurd (cc f)

    -- what a program means leaves it so
    pub means_leaves : (launch : Launch) (seen : Observation) → b.is launch.outside → M.Means p launch seen → b.is seen.outside
    means_leaves launch seen k m = seen_so _ seen m.is (steps m.count (M.start p launch) (start launch k))
