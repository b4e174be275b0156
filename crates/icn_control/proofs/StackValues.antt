-- The values that the stacks of a machine have are of its world.
use Rattle.std.proofs.Common.{ℕ, List, [], ◌∷◌, ◌++◌, get_or, Option, Some, None, sym, subst, arith}
use Rattle.std.specs.List.{All, flat_map}
use Rattle.std.proofs.lemmas.Option.{slice_get-get_or}
use Rattle.std.proofs.lemmas.List.Concat.{flat_map-cons}
use Rattle.std.proofs.lemmas.List.Elements.{All-append, All-cons}
use Rattle.icn_value.specs.declared.val.Val.{Val}
use Rattle.icn_value.specs.declared.val.Val.TheVariants.{Text as TextVal, Rec as RecVal, List as ListVal, Set as SetVal, Table as TableVal}
use Rattle.icn_value.specs.declared.val.Span.{Span}
use Rattle.icn_value.specs.declared.item.Root.{Root as HeldRoot}
use Rattle.icn_value.specs.declared.item.Root.TheVariants.{Global as HeldGlobal, Static as HeldStatic, Local as HeldLocal, Element as HeldElement, Field as HeldField, Key as HeldKey, Keyword as HeldKeyword}
use Rattle.icn_value.specs.declared.item.VarRef.{VarRef}
use Rattle.icn_value.specs.declared.item.VarRef.TheVariants.{Whole as HeldWhole, Part as HeldPart}
use Rattle.icn_value.specs.declared.item.Item.{Item as HeldItem}
use Rattle.icn_value.specs.declared.item.Item.TheVariants.{Val as HeldVal, Var as HeldVar}
use Rattle.icn_value.specs.declared.residual.Residual.{Residual as HeldResidual}
use Rattle.icn_value.specs.declared.residual.Residual.TheVariants.{TextBytes, VariableBytes, ListItems, SetMembers, TableValues, TableKeys, RecordFields, FileLines, UndoAssign, UndoExchange, UndoPosition, Counting, Sequence, Balanced, Found, Among}
use Rattle.icn_heap.specs.Extents.{Extent, IsLive, IsText}
use Rattle.icn_heap.proofs.NeededSteps.{all_flat}
use Rattle.icn_vars.specs.NeededItems.{root_vals, variable_vals, item_vals}
use Rattle.icn_vars.specs.Worlds.{Reach, IsLiveRoot, IsLiveVariable, IsLiveItem}
use Rattle.icn_vars.specs.Outcomes.{IsOld, IsLiveResidual}
use Rattle.icn_frames.specs.declared.layout.Why.{Why}
use Rattle.icn_frames.specs.declared.layout.Why.TheVariants.{Alt, Op, Scan, Escan, Proc}
use Rattle.icn_frames.specs.declared.layout.Cell.{Cell}
use Rattle.icn_frames.specs.declared.layout.Cell.TheVariants.{Base, Call, Local, Mark, Limit, Suspension, Operand}
use Rattle.icn_frames.specs.Stacks.{FlatStack}
use Rattle.icn_coexp.specs.Transfers.{Coexp, CoexpTable}
use Rattle.icn_code.specs.Codes.{Tables}
use Rattle.icn_run.specs.Step.{Status, Fresh, Active, Waiting, Exhausted}
use Rattle.icn_control.specs.LiveStacks.{with_locals, IsLiveWhy, locals_at, AreLive, IsLiveStack}
use Rattle.icn_control.specs.Machines.{IsLiveStatus, IsLiveCoexp, IsLiveRunning, AreLiveStacks}
use Rattle.icn_control.specs.NeededStacks.{residual_vals, why_vals, cell_vals, stack_vals, status_vals, coexp_vals, running_vals, stacks_vals}
use Rattle.icn_control.proofs.LiveTables.{AllLive}

-- nothing, one value, and one behind another

no_vals : (P : Val → Type 0) → All P []
no_vals P k d within = absurd (omega (arith, within))

one_val : (P : Val → Type 0) (val : Val) → P val → All P (val ∷ [])
one_val P val is = All-cons P val [] is (no_vals P)

module _ (all : Extent) where
  text_live : (span : Span) → IsText all span → All (IsLive all) (TextVal span ∷ [])
  text_live span is = one_val (IsLive all) (TextVal span) (record { live = is })

module _ (reach : Reach) where
  root_held : (n : ℕ) (root : HeldRoot) → IsLiveRoot (with_locals n reach) root → All (IsLive reach.extent) (root_vals root)
  root_held n (HeldGlobal place) l = no_vals (IsLive reach.extent)
  root_held n (HeldStatic place) l = no_vals (IsLive reach.extent)
  root_held n (HeldLocal place) l = no_vals (IsLive reach.extent)
  root_held n (HeldElement list number) l = one_val (IsLive reach.extent) (ListVal list) l.live
  root_held n (HeldField rec place) l = one_val (IsLive reach.extent) (RecVal rec) l.live.0
  root_held n (HeldKey table key) l =
      All-cons (IsLive reach.extent) (TableVal table) (key ∷ []) l.live.0 (one_val (IsLive reach.extent) key l.live.1)
  root_held n (HeldKeyword word) l = no_vals (IsLive reach.extent)

  variable_held : (n : ℕ) (variable : VarRef) → IsLiveVariable (with_locals n reach) variable → All (IsLive reach.extent) (variable_vals variable)
  variable_held n (HeldWhole root) l = root_held n root l.live
  variable_held n (HeldPart root place len) l = root_held n root l.live.0

  item_held : (n : ℕ) (item : HeldItem) → IsLiveItem (with_locals n reach) item → All (IsLive reach.extent) (item_vals item)
  item_held n (HeldVal val) l = one_val (IsLive reach.extent) val l.live
  item_held n (HeldVar variable) l = variable_held n variable l.live

  old_held : (n : ℕ) (variable : VarRef) (old : Val) → IsOld (with_locals n reach) variable old
      → All (IsLive reach.extent) (variable_vals variable ++ old ∷ [])
  old_held n variable old l =
      All-append (IsLive reach.extent) (variable_vals variable) (old ∷ []) (variable_held n variable l.live_variable)
      (one_val (IsLive reach.extent) old l.live_value)

  residual_held : (n : ℕ) (rest : HeldResidual) → IsLiveResidual (with_locals n reach) rest → All (IsLive reach.extent) (residual_vals rest)
  residual_held n (TextBytes text place) l = text_live reach.extent text l.live
  residual_held n (VariableBytes variable place) l = variable_held n variable l.live
  residual_held n (ListItems list place) l = one_val (IsLive reach.extent) (ListVal list) l.live
  residual_held n (SetMembers set place) l = one_val (IsLive reach.extent) (SetVal set) l.live
  residual_held n (TableValues table place) l = one_val (IsLive reach.extent) (TableVal table) l.live
  residual_held n (TableKeys table place) l = one_val (IsLive reach.extent) (TableVal table) l.live
  residual_held n (RecordFields rec place) l = one_val (IsLive reach.extent) (RecVal rec) l.live
  residual_held n (FileLines file) l = no_vals (IsLive reach.extent)
  residual_held n (UndoAssign variable old) l = old_held n variable old l.live
  residual_held n (UndoExchange mover left right old_left old_right) l =
      All-append (IsLive reach.extent) (variable_vals left ++ old_left ∷ []) (variable_vals right ++ old_right ∷ [])
      (old_held n left old_left l.live.0)
      (old_held n right old_right l.live.1)
  residual_held n (UndoPosition position) l = no_vals (IsLive reach.extent)
  residual_held n (Counting given last step) l = no_vals (IsLive reach.extent)
  residual_held n (Sequence given step) l = no_vals (IsLive reach.extent)
  residual_held n (Balanced wanted opening closing text place last) l = text_live reach.extent text l.live.of
  residual_held n (Found wanted text place last) l =
      All-append (IsLive reach.extent) (TextVal wanted ∷ []) (TextVal text ∷ []) (text_live reach.extent wanted l.live.0)
      (text_live reach.extent text l.live.1.of)
  residual_held n (Among wanted text place last) l = text_live reach.extent text l.live.of

  why_held : (n : ℕ) (why : Why) → IsLiveWhy (with_locals n reach) why → All (IsLive reach.extent) (why_vals why)
  why_held n Alt l = no_vals (IsLive reach.extent)
  why_held n (Op residual) l = residual_held n residual l
  why_held n (Scan pair) l = text_live reach.extent pair.subject l.subject
  why_held n Escan l = no_vals (IsLive reach.extent)
  why_held n Proc l = no_vals (IsLive reach.extent)

  on_top : (cell : Cell) (s : List Cell) → All (IsLive reach.extent) (cell_vals cell) → All (IsLive reach.extent) (flat_map cell_vals s)
      → All (IsLive reach.extent) (flat_map cell_vals (cell ∷ s))
  on_top cell s one rest =
      subst (All (IsLive reach.extent)) (sym (flat_map-cons cell_vals cell s))
      (All-append (IsLive reach.extent) (cell_vals cell) (flat_map cell_vals s) one rest)

  cells_held : (t : Tables) (n : ℕ) (s : List Cell) → AreLive t reach n s → All (IsLive reach.extent) (flat_map cell_vals s)
  cells_held t n [] l = no_vals (IsLive reach.extent)
  cells_held t n (Operand item ∷ s) l = on_top (Operand item) s (item_held n item l.0) (cells_held t n s l.1)
  cells_held t n (Local value ∷ s) l = on_top (Local value) s (one_val (IsLive reach.extent) value l.0) (cells_held t n s l.1)
  cells_held t n (Base proc locals ∷ s) l = on_top (Base proc locals) s (no_vals (IsLive reach.extent)) (cells_held t 0 s l.1)
  cells_held t n (Call proc locals level r place ∷ s) l =
      on_top (Call proc locals level r place) s (no_vals (IsLive reach.extent)) (cells_held t (locals_at r s) s l.1.1.1)
  cells_held t n (Mark label changed r ∷ s) l =
      on_top (Mark label changed r) s (no_vals (IsLive reach.extent)) (cells_held t (locals_at r s) s l.1)
  cells_held t n (Limit count r ∷ s) l =
      on_top (Limit count r) s (no_vals (IsLive reach.extent)) (cells_held t (locals_at r s) s l.1.1)
  cells_held t n (Suspension why r place ∷ s) l =
      on_top (Suspension why r place) s (why_held (locals_at r s) why l.0) (cells_held t (locals_at r s) s l.1.1)

  stack_held : (t : Tables) (m : FlatStack) → IsLiveStack t reach m → All (IsLive reach.extent) (stack_vals m)
  stack_held t m l = cells_held t (locals_at m.registers m.cells) m.cells l.cells

  status_held : (t : Tables) (s : Status FlatStack) → IsLiveStatus t reach s → All (IsLive reach.extent) (status_vals s)
  status_held t Fresh l = no_vals (IsLive reach.extent)
  status_held t Active l = no_vals (IsLive reach.extent)
  status_held t (Waiting m) l = stack_held t m l
  status_held t Exhausted l = no_vals (IsLive reach.extent)

  coexp_held : (t : Tables) (n : ℕ) (c : Coexp) → IsLiveCoexp t reach n c → All (IsLive reach.extent) (coexp_vals c)
  coexp_held t n c l = All-append (IsLive reach.extent) c.values (status_vals c.status) l.values (status_held t c.status l.status)

  coexps_held : (t : Tables) (cs : List Coexp) → AllLive t reach cs → All (IsLive reach.extent) (flat_map coexp_vals cs)
  coexps_held t cs l =
      all_flat (IsLive reach.extent) coexp_vals cs (λ k d within. coexp_held t k (get_or cs k d) (l k (get_or cs k d) (slice_get-get_or cs k d within)))

  running_held : (t : Tables) (o : Option FlatStack) → IsLiveRunning t reach o → All (IsLive reach.extent) (running_vals o)
  running_held t None l = no_vals (IsLive reach.extent)
  running_held t (Some m) l = stack_held t m l

  -- the values of all stacks
  pub stacks_held : (t : Tables) (table : CoexpTable) → AreLiveStacks t reach table → All (IsLive reach.extent) (stacks_vals table)
  stacks_held t table l =
      All-append (IsLive reach.extent) (running_vals table.running) (flat_map coexp_vals table.coexps) (running_held t table.running l.runs)
      (coexps_held t table.coexps l.coexps)
