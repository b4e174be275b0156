-- What is of a world stands for the same where each value and each text of its heap does.
use Rattle.std.proofs.Common.{◌≡◌, ℕ, suc, List, [], ◌∷◌, map, Option, Some, None, refl, ap, ◌∙◌, arith}
use Rattle.std.specs.List.{All}
use Rattle.std.proofs.lemmas.List.Elements.{All-head, All-tail}
use Rattle.icn_value.specs.declared.val.Val.{Val}
use Rattle.icn_value.specs.declared.val.Span.{Span}
use Rattle.icn_value.specs.declared.item.Root.{Root as HeldRoot}
use Rattle.icn_value.specs.declared.item.Root.TheVariants.{Global as HeldGlobal, Static as HeldStatic, Local as HeldLocal, Element as HeldElement, Field as HeldField, Key as HeldKey, Keyword as HeldKeyword}
use Rattle.icn_value.specs.declared.item.VarRef.{VarRef}
use Rattle.icn_value.specs.declared.item.VarRef.TheVariants.{Whole as HeldWhole, Part as HeldPart}
use Rattle.icn_value.specs.declared.item.Item.{Item as HeldItem}
use Rattle.icn_value.specs.declared.item.Item.TheVariants.{Val as HeldVal, Var as HeldVar}
use Rattle.icn_value.specs.declared.item.Pair.{Pair as HeldPair}
use Rattle.icn_value.specs.declared.residual.Residual.{Residual as HeldResidual}
use Rattle.icn_value.specs.declared.residual.Residual.TheVariants.{TextBytes as HeldTextBytes, VariableBytes as HeldVariableBytes, ListItems as HeldListItems, SetMembers as HeldSetMembers, TableValues as HeldTableValues, TableKeys as HeldTableKeys, RecordFields as HeldRecordFields, FileLines as HeldFileLines, UndoAssign as HeldUndoAssign, UndoExchange as HeldUndoExchange, UndoPosition as HeldUndoPosition, Counting as HeldCounting, Sequence as HeldSequence, Balanced as HeldBalanced, Found as HeldFound, Among as HeldAmong}
use Rattle.icn_value.specs.Members.{members_of}
use Rattle.icn_value.specs.Values.{Value, Root, Key, Variable, Whole, Part, Item, Val as ItemVal, Var as ItemVar}
use Rattle.icn_defs.specs.Rows.{TextBytes, VariableBytes, UndoAssign, UndoExchange, Balanced, Found, Among}
use Rattle.icn_heap.specs.Extents.{Extent, IsLive, IsText, text_in, value_in}
use Rattle.icn_vars.specs.Worlds.{Reach, IsLiveRoot, IsLiveVariable, IsLiveItem, root_in, variable_in, item_in}
use Rattle.icn_vars.specs.Outcomes.{IsLiveResidual, residual_in, mover_of}
use Rattle.icn_frames.specs.declared.layout.Why.{Why}
use Rattle.icn_frames.specs.declared.layout.Why.TheVariants.{Alt, Op, Scan, Escan, Proc}
use Rattle.icn_frames.specs.declared.layout.Cell.{Cell}
use Rattle.icn_frames.specs.declared.layout.Cell.TheVariants.{Base, Call, Local, Mark, Limit, Suspension, Operand}
use Rattle.icn_frames.specs.Stacks.{FlatStack}
use Rattle.law_frames.specs.ReadStacks.{cell_read, why_read, registers_read}
use Rattle.icn_coexp.specs.Transfers.{Coexp}
use Rattle.icn_code.specs.Codes.{Tables}
use Rattle.icn_run.specs.Calls as calls
use Rattle.icn_run.specs.Stacks as code
use Rattle.icn_run.specs.Step as runs
use Rattle.icn_run.specs.Step.{Status, Fresh, Active, Waiting, Exhausted}
use Rattle.icn_control.specs.LiveStacks.{with_locals, IsLivePair, IsLiveWhy, locals_at, AreLive, IsLiveStack}
use Rattle.icn_control.specs.Machines.{status_in, coexp_in, running_of, IsLiveStatus, IsLiveCoexp, IsLiveRunning}
use Rattle.icn_control.specs.StackViews.{pair_in, reading_of, stack_in}
use Rattle.icn_control.proofs.LiveTables.{AllLive}

module _ (old : Reach) (new : Extent) (values : (val : Val) → IsLive old.extent val → value_in new val ≡ value_in old.extent val)
    (texts : (span : Span) → IsText old.extent span → text_in new span ≡ text_in old.extent span) where
  root_same : (n : ℕ) (root : HeldRoot) → IsLiveRoot (with_locals n old) root
      → root_in new root ≡ root_in old.extent root
  root_same n (HeldGlobal place) l = refl
  root_same n (HeldStatic place) l = refl
  root_same n (HeldLocal place) l = refl
  root_same n (HeldElement list number) l = refl
  root_same n (HeldField rec place) l = refl
  root_same n (HeldKey table key) l = ap (λ (w : Value). Key table w) (values key l.live.1)
  root_same n (HeldKeyword word) l = refl

  pub variable_same : (n : ℕ) (variable : VarRef) → IsLiveVariable (with_locals n old) variable
      → variable_in new variable ≡ variable_in old.extent variable
  variable_same n (HeldWhole root) l = ap (λ (w : Root). Whole w) (root_same n root l.live)
  variable_same n (HeldPart root place len) l = ap (λ (w : Root). Part w place len) (root_same n root l.live.0)

  pub item_same : (n : ℕ) (item : HeldItem) → IsLiveItem (with_locals n old) item
      → item_in new item ≡ item_in old.extent item
  item_same n (HeldVal val) l = ap (λ (w : Value). ItemVal w) (values val l.live)
  item_same n (HeldVar variable) l = ap (λ (w : Variable). ItemVar w) (variable_same n variable l.live)

  residual_same : (n : ℕ) (rest : HeldResidual) → IsLiveResidual (with_locals n old) rest
      → residual_in new rest ≡ residual_in old.extent rest
  residual_same n (HeldTextBytes text place) l = ap (λ (w : List ℕ). TextBytes w place) (texts text l.live)
  residual_same n (HeldVariableBytes variable place) l = ap (λ (w : Variable). VariableBytes w place) (variable_same n variable l.live)
  residual_same n (HeldListItems list place) l = refl
  residual_same n (HeldSetMembers set place) l = refl
  residual_same n (HeldTableValues table place) l = refl
  residual_same n (HeldTableKeys table place) l = refl
  residual_same n (HeldRecordFields rec place) l = refl
  residual_same n (HeldFileLines file) l = refl
  residual_same n (HeldUndoAssign variable val) l =
      ap (λ (w : Variable). UndoAssign w (value_in new val)) (variable_same n variable l.live.live_variable)
      ∙ ap (UndoAssign (variable_in old.extent variable)) (values val l.live.live_value)
  residual_same n (HeldUndoExchange mover left right old_left old_right) l =
      let a = l.live.0 in
      let b = l.live.1 in
      ap (λ (w : Variable). UndoExchange (mover_of mover) w (variable_in new right) (value_in new old_left) (value_in new old_right))
      (variable_same n left a.live_variable)
      ∙ ap (λ (w : Variable). UndoExchange (mover_of mover) (variable_in old.extent left) w (value_in new old_left) (value_in new old_right))
      (variable_same n right b.live_variable)
      ∙ ap (λ (w : Value). UndoExchange (mover_of mover) (variable_in old.extent left) (variable_in old.extent right) w (value_in new old_right))
      (values old_left a.live_value)
      ∙ ap (UndoExchange (mover_of mover) (variable_in old.extent left) (variable_in old.extent right) (value_in old.extent old_left))
      (values old_right b.live_value)
  residual_same n (HeldUndoPosition position) l = refl
  residual_same n (HeldCounting given last step) l = refl
  residual_same n (HeldSequence given step) l = refl
  residual_same n (HeldBalanced wanted opening closing text place last) l =
      ap (λ (w : List ℕ). Balanced (members_of wanted) (members_of opening) (members_of closing) w place last) (texts text l.live.of)
  residual_same n (HeldFound wanted text place last) l =
      ap (λ (w : List ℕ). Found w (text_in new text) place last) (texts wanted l.live.0)
      ∙ ap (λ (w : List ℕ). Found (text_in old.extent wanted) w place last) (texts text l.live.1.of)
  residual_same n (HeldAmong wanted text place last) l = ap (λ (w : List ℕ). Among (members_of wanted) w place last) (texts text l.live.of)

  pair_same : (pair : HeldPair) → IsLivePair old.extent pair → pair_in new pair ≡ pair_in old.extent pair
  pair_same pair l =
      let F : List ℕ → calls.Pair = λ w. record { subject = w; position = pair.position } in
      ap F (texts pair.subject l.subject)

  why_same : (n : ℕ) (why : Why) → IsLiveWhy (with_locals n old) why
      → why_read (reading_of new) why ≡ why_read (reading_of old.extent) why
  why_same n Alt l = refl
  why_same n (Op residual) l = ap calls.Op (residual_same n residual l)
  why_same n (Scan pair) l = ap calls.Scan (pair_same pair l)
  why_same n Escan l = refl
  why_same n Proc l = refl

  pub cells_same : (t : Tables) (n : ℕ) (s : List Cell) → AreLive t old n s
      → map (cell_read (reading_of new)) s ≡ map (cell_read (reading_of old.extent)) s
  cells_same t n [] l = refl
  cells_same t n (Operand item ∷ s) l =
      ap (λ (w : Item). code.operand w ∷ map (cell_read (reading_of new)) s) (item_same n item l.0)
      ∙ ap (λ (w : List code.Cell). code.operand (item_in old.extent item) ∷ w) (cells_same t n s l.1)
  cells_same t n (Local value ∷ s) l =
      ap (λ (w : Value). code.local w ∷ map (cell_read (reading_of new)) s) (values value l.0)
      ∙ ap (λ (w : List code.Cell). code.local (value_in old.extent value) ∷ w) (cells_same t n s l.1)
  cells_same t n (Base proc locals ∷ s) l = ap (λ (w : List code.Cell). code.base proc locals ∷ w) (cells_same t 0 s l.1)
  cells_same t n (Call proc locals level r place ∷ s) l =
      ap (λ (w : List code.Cell). code.call proc locals level (registers_read r) place ∷ w) (cells_same t (locals_at r s) s l.1.1.1)
  cells_same t n (Mark label changed r ∷ s) l =
      ap (λ (w : List code.Cell). code.mark label changed (registers_read r) ∷ w) (cells_same t (locals_at r s) s l.1)
  cells_same t n (Limit count r ∷ s) l =
      ap (λ (w : List code.Cell). code.limit count (registers_read r) ∷ w) (cells_same t (locals_at r s) s l.1.1)
  cells_same t n (Suspension why r place ∷ s) l =
      ap (λ (w : calls.Why). code.suspension w (registers_read r) place ∷ map (cell_read (reading_of new)) s) (why_same (locals_at r s) why l.0)
      ∙ ap (λ (w : List code.Cell). code.suspension (why_read (reading_of old.extent) why) (registers_read r) place ∷ w)
      (cells_same t (locals_at r s) s l.1.1)

  -- a stack stands for the same
  pub stack_same : (t : Tables) (m : FlatStack) → IsLiveStack t old m → stack_in new m ≡ stack_in old.extent m
  stack_same t m l =
      let F : List code.Cell → code.Frames = λ w. record { cells = w; registers = registers_read m.registers; address = m.address } in
      ap F (cells_same t (locals_at m.registers m.cells) m.cells l.cells)

  values_same : (vals : List Val) → All (IsLive old.extent) vals → map (value_in new) vals ≡ map (value_in old.extent) vals
  values_same [] are = refl
  values_same (val ∷ vals) are =
      ap (λ (w : Value). w ∷ map (value_in new) vals) (values val (All-head (IsLive old.extent) val vals are))
      ∙ ap (λ (w : List Value). value_in old.extent val ∷ w) (values_same vals (All-tail (IsLive old.extent) val vals are))

  status_same : (t : Tables) (s : Status FlatStack) → IsLiveStatus t old s → status_in new s ≡ status_in old.extent s
  status_same t Fresh l = refl
  status_same t Active l = refl
  status_same t (Waiting m) l = ap (λ (x : code.Frames). Waiting x) (stack_same t m l)
  status_same t Exhausted l = refl

  coexp_same : (t : Tables) (n : ℕ) (c : Coexp) → IsLiveCoexp t old n c → coexp_in new c ≡ coexp_in old.extent c
  coexp_same t n c l =
      let F : Status code.Frames → List Value
      → runs.Coexp code.Frames = λ s v. record { status = s; activator = c.activator; values = v; proc = c.proc; address = c.address } in
      ap (λ (s : Status code.Frames). F s (map (value_in new) c.values)) (status_same t c.status l.status)
      ∙ ap (F (status_in old.extent c.status)) (values_same c.values l.values)

  others_live : (t : Tables) (c : Coexp) (cs : List Coexp) → AllLive t old (c ∷ cs) → AllLive t old cs
  others_live t c cs k n x e =
      let l = k (suc n) x e in
      record { status = l.status; values = l.values; count = λ p. l.count (omega arith) }

  -- all co-expressions stand for the same
  pub coexps_same : (t : Tables) (cs : List Coexp) → AllLive t old cs → map (coexp_in new) cs ≡ map (coexp_in old.extent) cs
  coexps_same t [] l = refl
  coexps_same t (c ∷ cs) l =
      ap (λ (w : runs.Coexp code.Frames). w ∷ map (coexp_in new) cs) (coexp_same t 0 c (l 0 c refl))
      ∙ ap (λ (w : List (runs.Coexp code.Frames)). coexp_in old.extent c ∷ w) (coexps_same t cs (others_live t c cs l))

  -- and so does the stack that runs
  pub running_same : (t : Tables) (o : Option FlatStack) → IsLiveRunning t old o → stack_in new (running_of o) ≡ stack_in old.extent (running_of o)
  running_same t None l = refl
  running_same t (Some m) l = stack_same t m l
