-- What stays of the stacks of a machine as memory is given back, where what they have is needed.
use Rattle.std.proofs.Common.{◌≡◌, ℕ, ◌+◌, ◌≤◌, List, [], ◌∷◌, ◌++◌, length, get_or, Option, Some, None, refl, ap, ◌∙◌, subst, arith}
use Rattle.std.specs.List.{All, flat_map}
use Rattle.std.proofs.lemmas.Option.{get_or_from_slice_get, slice_get_within}
use Rattle.std.proofs.lemmas.List.Concat.{flat_map-cons}
use Rattle.std.proofs.lemmas.List.Elements.{All-get_or, All-head}
use Rattle.icn_value.specs.declared.val.Val.{Val}
use Rattle.icn_value.specs.declared.val.Val.TheVariants.{Text as TextVal, List as ListVal, Set as SetVal, Table as TableVal, Rec as RecVal, Std as StdVal}
use Rattle.icn_value.specs.declared.val.Span.{Span}
use Rattle.icn_value.specs.declared.item.VarRef.{VarRef}
use Rattle.icn_value.specs.declared.item.Item.{Item as HeldItem}
use Rattle.icn_value.specs.declared.item.Pair.{Pair as HeldPair}
use Rattle.icn_value.specs.declared.residual.Residual.{Residual as HeldResidual}
use Rattle.icn_value.specs.declared.residual.Residual.TheVariants.{TextBytes, VariableBytes, ListItems, SetMembers, TableValues, TableKeys, RecordFields, FileLines, UndoAssign, UndoExchange, UndoPosition, Counting, Sequence, Balanced, Found, Among}
use Rattle.icn_value.specs.Values.{Variable}
use Rattle.icn_defs.specs.RowFacts.{can_hold}
use Rattle.icn_heap.specs.declared.needed_values.NeededValues.{NeededValues}
use Rattle.icn_heap.specs.Extents.{Extent, IsLive, IsText, KeepsMeaning, text_in, value_in}
use Rattle.icn_heap.specs.NeededValues.{IsNeeded}
use Rattle.icn_heap.proofs.NeededSteps.{all_front, all_behind, all_of}
use Rattle.icn_heap.proofs.HeldElements.{text_made, value_made}
use Rattle.icn_vars.specs.NeededItems.{variable_vals, item_vals}
use Rattle.icn_vars.proofs.CollectedItems.{item_lives, variable_lives}
use Rattle.icn_vars.specs.Worlds.{Reach, IsLiveVariable, IsLiveItem, variable_in}
use Rattle.icn_vars.specs.Outcomes.{IsOld, IsSearch, IsLiveResidual}
use Rattle.icn_frames.specs.declared.layout.Why.{Why}
use Rattle.icn_frames.specs.declared.layout.Why.TheVariants.{Alt, Op, Scan, Escan, Proc}
use Rattle.icn_frames.specs.declared.layout.Cell.{Cell}
use Rattle.icn_frames.specs.declared.layout.Cell.TheVariants.{Base, Call, Local, Mark, Limit, Suspension, Operand}
use Rattle.icn_frames.specs.Stacks.{FlatStack}
use Rattle.icn_coexp.specs.Transfers.{Coexp, CoexpTable}
use Rattle.icn_code.specs.Codes.{Tables}
use Rattle.icn_run.specs.Step.{Status, Fresh, Active, Waiting, Exhausted}
use Rattle.icn_control.specs.LiveStacks.{with_locals, IsLivePair, IsLiveWhy, locals_at, AreLive, IsLiveStack}
use Rattle.icn_control.specs.Machines.{IsLiveStatus, IsLiveCoexp, IsLiveRunning, AreLiveStacks}
use Rattle.icn_control.specs.NeededStacks.{residual_vals, why_vals, cell_vals, stack_vals, status_vals, coexp_vals, running_vals, stacks_vals}
use Rattle.icn_control.proofs.LiveTables.{AllLive}
use Rattle.icn_control.proofs.SameReadings.{variable_same}

-- what may be named is the same but for the heap, which has fewer texts
abbrev pub over_heap : Reach → Extent → Reach
over_heap old new = record old { extent = new }

-- What was made means the same

module _ (old new : Extent) (means : KeepsMeaning old new) where
  pub value_means : (val : Val) → IsLive old val → value_in new val ≡ value_in old val
  value_means val is = means.value val (value_made old val is)

  pub text_means : (span : Span) → IsText old span → text_in new span ≡ text_in old span
  text_means span is = means.bytes span (text_made old span is)

-- What is needed stays

module _ (old : Reach) (new : Extent) (needed : NeededValues) (means : KeepsMeaning old.extent new)
    (live : (val : Val) → IsLive old.extent val → IsNeeded needed val → IsLive new val) where
  text_lives : (span : Span) → IsText old.extent span → IsNeeded needed (TextVal span) → IsText new span
  text_lives span is q = (live (TextVal span) (record { live = is }) q).live

  first_needed : (val : Val) (vals : List Val) → All (IsNeeded needed) (val ∷ vals) → IsNeeded needed val
  first_needed val vals q = All-head (IsNeeded needed) val vals q

  variable_stays : (n : ℕ) (variable : VarRef) → IsLiveVariable (with_locals n old) variable → All (IsNeeded needed) (variable_vals variable)
      → IsLiveVariable (with_locals n (over_heap old new)) variable
  variable_stays n variable l q = variable_lives (with_locals n old) (with_locals n (over_heap old new)) needed live refl variable l q

  item_stays : (n : ℕ) (item : HeldItem) → IsLiveItem (with_locals n old) item → All (IsNeeded needed) (item_vals item)
      → IsLiveItem (with_locals n (over_heap old new)) item
  item_stays n item l q = item_lives (with_locals n old) (with_locals n (over_heap old new)) needed live refl item l q

  old_lives : (n : ℕ) (variable : VarRef) (val : Val) → IsOld (with_locals n old) variable val
      → All (IsNeeded needed) (variable_vals variable ++ val ∷ [])
      → IsOld (with_locals n (over_heap old new)) variable val
  old_lives n variable val l q =
      let one : variable_in new variable ≡ variable_in old.extent variable =
      variable_same old new (value_means old.extent new means) (text_means old.extent new means) n variable l.live_variable in
      let two : value_in new val ≡ value_in old.extent val = value_means old.extent new means val l.live_value in
      record {
        live_variable = variable_stays n variable l.live_variable (all_front (IsNeeded needed) (variable_vals variable) (val ∷ []) q);
        live_value = live val l.live_value (first_needed val [] (all_behind (IsNeeded needed) (variable_vals variable) (val ∷ []) q));
        holds = ap (λ (w : Variable). can_hold w (value_in new val)) one ∙ ap (can_hold (variable_in old.extent variable)) two ∙ l.holds;
      }

  search_lives : (text : Span) (place last : ℕ) → IsSearch old.extent text place last → IsNeeded needed (TextVal text) → IsSearch new text place last
  search_lives text place last l q =
      let same : length (text_in new text) ≡ length (text_in old.extent text) = ap length (text_means old.extent new means text l.of) in
      let high : last ≤ length (text_in new text) + 1 = omega (arith, same, l.high) in
      record { of = text_lives text l.of q; low = l.low; high = high }

  residual_lives : (n : ℕ) (rest : HeldResidual) → IsLiveResidual (with_locals n old) rest → All (IsNeeded needed) (residual_vals rest)
      → IsLiveResidual (with_locals n (over_heap old new)) rest
  residual_lives n (TextBytes text place) l q = record { live = text_lives text l.live (first_needed (TextVal text) [] q) }
  residual_lives n (VariableBytes variable place) l q = record { live = variable_stays n variable l.live q }
  residual_lives n (ListItems list place) l q = record { live = live (ListVal list) l.live (first_needed (ListVal list) [] q) }
  residual_lives n (SetMembers set place) l q = record { live = live (SetVal set) l.live (first_needed (SetVal set) [] q) }
  residual_lives n (TableValues table place) l q = record { live = live (TableVal table) l.live (first_needed (TableVal table) [] q) }
  residual_lives n (TableKeys table place) l q = record { live = live (TableVal table) l.live (first_needed (TableVal table) [] q) }
  residual_lives n (RecordFields rec place) l q = record { live = live (RecVal rec) l.live (first_needed (RecVal rec) [] q) }
  residual_lives n (FileLines file) l q = record { live = live (StdVal file) l.live (record { needed = tt; among = tt }) }
  residual_lives n (UndoAssign variable val) l q = record { live = old_lives n variable val l.live q }
  residual_lives n (UndoExchange mover left right old_left old_right) l q =
      let front = all_front (IsNeeded needed) (variable_vals left ++ old_left ∷ []) (variable_vals right ++ old_right ∷ []) q in
      let behind = all_behind (IsNeeded needed) (variable_vals left ++ old_left ∷ []) (variable_vals right ++ old_right ∷ []) q in
      record { live = (old_lives n left old_left l.live.0 front, old_lives n right old_right l.live.1 behind) }
  residual_lives n (UndoPosition position) l q = record { live = l.live }
  residual_lives n (Counting given last step) l q = record { live = tt }
  residual_lives n (Sequence given step) l q = record { live = tt }
  residual_lives n (Balanced wanted opening closing text place last) l q =
      record { live = search_lives text place last l.live (first_needed (TextVal text) [] q) }
  residual_lives n (Found wanted text place last) l q =
      let behind = all_behind (IsNeeded needed) (TextVal wanted ∷ []) (TextVal text ∷ []) q in
      record {
        live = (
          text_lives wanted l.live.0 (first_needed (TextVal wanted) (TextVal text ∷ []) q),
          search_lives text place last l.live.1 (first_needed (TextVal text) [] behind),
        );
      }
  residual_lives n (Among wanted text place last) l q =
      record { live = search_lives text place last l.live (first_needed (TextVal text) [] q) }

  pair_lives : (pair : HeldPair) → IsLivePair old.extent pair → IsNeeded needed (TextVal pair.subject) → IsLivePair new pair
  pair_lives pair l q =
      let same : length (text_in new pair.subject) ≡ length (text_in old.extent pair.subject) =
      ap length (text_means old.extent new means pair.subject l.subject) in
      let high : pair.position ≤ length (text_in new pair.subject) + 1 = omega (arith, same, l.high) in
      record { subject = text_lives pair.subject l.subject q; low = l.low; high = high }

  why_lives : (n : ℕ) (why : Why) → IsLiveWhy (with_locals n old) why → All (IsNeeded needed) (why_vals why)
      → IsLiveWhy (with_locals n (over_heap old new)) why
  why_lives n Alt l q = tt
  why_lives n (Op residual) l q = residual_lives n residual l q
  why_lives n (Scan pair) l q = pair_lives pair l (first_needed (TextVal pair.subject) [] q)
  why_lives n Escan l q = tt
  why_lives n Proc l q = tt

  -- Cells

  top_needed : (cell : Cell) (s : List Cell) → All (IsNeeded needed) (flat_map cell_vals (cell ∷ s)) → All (IsNeeded needed) (cell_vals cell)
  top_needed cell s q =
      all_front (IsNeeded needed) (cell_vals cell) (flat_map cell_vals s) (subst (All (IsNeeded needed)) (flat_map-cons cell_vals cell s) q)

  rest_needed : (cell : Cell) (s : List Cell) → All (IsNeeded needed) (flat_map cell_vals (cell ∷ s)) → All (IsNeeded needed) (flat_map cell_vals s)
  rest_needed cell s q =
      all_behind (IsNeeded needed) (cell_vals cell) (flat_map cell_vals s) (subst (All (IsNeeded needed)) (flat_map-cons cell_vals cell s) q)

  cells_live : (t : Tables) (n : ℕ) (s : List Cell) → AreLive t old n s → All (IsNeeded needed) (flat_map cell_vals s)
      → AreLive t (over_heap old new) n s
  cells_live t n [] l q = tt
  cells_live t n (Operand item ∷ s) l q =
      (item_stays n item l.0 (top_needed (Operand item) s q), cells_live t n s l.1 (rest_needed (Operand item) s q))
  cells_live t n (Local value ∷ s) l q =
      (live value l.0 (first_needed value [] (top_needed (Local value) s q)), cells_live t n s l.1 (rest_needed (Local value) s q))
  cells_live t n (Base proc locals ∷ s) l q = (l.0, cells_live t 0 s l.1 (rest_needed (Base proc locals) s q))
  cells_live t n (Call proc locals level r place ∷ s) l q =
      (l.0, (l.1.0, (l.1.1.0, cells_live t (locals_at r s) s l.1.1.1 (rest_needed (Call proc locals level r place) s q))))
  cells_live t n (Mark label changed r ∷ s) l q = (l.0, cells_live t (locals_at r s) s l.1 (rest_needed (Mark label changed r) s q))
  cells_live t n (Limit count r ∷ s) l q = (l.0, (l.1.0, cells_live t (locals_at r s) s l.1.1 (rest_needed (Limit count r) s q)))
  cells_live t n (Suspension why r place ∷ s) l q = (
    why_lives (locals_at r s) why l.0 (top_needed (Suspension why r place) s q),
    (l.1.0, cells_live t (locals_at r s) s l.1.1 (rest_needed (Suspension why r place) s q)),
  )

  stack_lives : (t : Tables) (m : FlatStack) → IsLiveStack t old m → All (IsNeeded needed) (stack_vals m) → IsLiveStack t (over_heap old new) m
  stack_lives t m l q = record { root = l.root; cells = cells_live t (locals_at m.registers m.cells) m.cells l.cells q }

  -- Co-expressions

  status_lives : (t : Tables) (s : Status FlatStack) → IsLiveStatus t old s → All (IsNeeded needed) (status_vals s) → IsLiveStatus t (over_heap old new) s
  status_lives t Fresh l q = tt
  status_lives t Active l q = tt
  status_lives t (Waiting m) l q = stack_lives t m l q
  status_lives t Exhausted l q = tt

  vals_live : (vals : List Val) → All (IsLive old.extent) vals → All (IsNeeded needed) vals → All (IsLive new) vals
  vals_live vals are q = λ k d within. live (get_or vals k d) (are k d within) (q k d within)

  coexp_lives : (t : Tables) (n : ℕ) (c : Coexp) → IsLiveCoexp t old n c → All (IsNeeded needed) (coexp_vals c) → IsLiveCoexp t (over_heap old new) n c
  coexp_lives t n c l q = record {
    status = status_lives t c.status l.status (all_behind (IsNeeded needed) c.values (status_vals c.status) q);
    values = vals_live c.values l.values (all_front (IsNeeded needed) c.values (status_vals c.status) q);
    count = l.count;
  }

  coexps_live : (t : Tables) (cs : List Coexp) → AllLive t old cs → All (λ c. All (IsNeeded needed) (coexp_vals c)) cs → AllLive t (over_heap old new) cs
  coexps_live t cs l q n c e =
      let here : All (IsNeeded needed) (coexp_vals (get_or cs n c)) =
      All-get_or (λ x. All (IsNeeded needed) (coexp_vals x)) cs n c (slice_get_within cs n c e) q in
      coexp_lives t n c (l n c e) (subst (λ (x : Coexp). All (IsNeeded needed) (coexp_vals x)) (get_or_from_slice_get cs n c c e) here)

  running_lives : (t : Tables) (o : Option FlatStack) → IsLiveRunning t old o → All (IsNeeded needed) (running_vals o)
      → IsLiveRunning t (over_heap old new) o
  running_lives t None l q = tt
  running_lives t (Some m) l q = stack_lives t m l q

  -- all stacks of the table hold what is of the world
  pub stacks_live : (t : Tables) (table : CoexpTable) → AreLiveStacks t old table → All (IsNeeded needed) (stacks_vals table)
      → AreLiveStacks t (over_heap old new) table
  stacks_live t table l q =
      let behind = all_behind (IsNeeded needed) (running_vals table.running) (flat_map coexp_vals table.coexps) q in
      record {
        runs = running_lives t table.running l.runs (all_front (IsNeeded needed) (running_vals table.running) (flat_map coexp_vals table.coexps) q);
        coexps = coexps_live t table.coexps l.coexps (all_of (IsNeeded needed) coexp_vals table.coexps behind);
      }
