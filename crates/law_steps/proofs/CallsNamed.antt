-- What the calls of a flat stack leave names only what has a name.
use Rattle.std.proofs.Common.{ℕ, zero, suc, ◌+◌, true, false, List, [], ◌∷◌, length, Option, Some, None}
use Rattle.std.specs.Prelude.{◌-◌, pred, take, slice_get}
use Rattle.std.specs.Option.{option_and_then}
use Rattle.icn_value.specs.Values.{Value, Item}
use Rattle.icn_value.specs.Store.{Names}
use Rattle.law_rows.proofs.EachOfList.{Each, each_of, all_of, each_drop, each_set}
use Rattle.law_names.specs.NamedSettings.{ItemNamed, ValueNamed}
use Rattle.icn_run.specs.Calls.{Pair, Why, Alt, Op, Scan, Escan, Proc, MarkDrop, NoMark, Goes, Repeats, Outside}
use Rattle.icn_run.specs.Stacks as S
use Rattle.icn_run.specs.Stacks.{Cell, base, call, local, mark, limit, suspension, operand, Frames, Registers}
use Rattle.law_steps.specs.StateNames.{CellNamed, StackNamed, WhyNamed}

-- where there is one, it is so
abbrev pub IfThere : {A : Type 0} → (A → Type 0) → Option A → Type 0
IfThere Q None = Unit {0}
IfThere Q (Some x) = Q x

pub each_get : {A : Type 0} (P : A → Type 0) (xs : List A) (n : ℕ) → Each P xs → IfThere P (slice_get xs n)
each_get P [] n h = tt
each_get P (x ∷ xs) zero h = h.0
each_get P (x ∷ xs) (suc n) h = each_get P xs n h.1

module _ (ns : Names) where
  abbrev pub V : Value → Type 0
  V v = ValueNamed ns v

  -- the item names only what has a name
  abbrev pub NamedItem : Item → Type 0
  NamedItem x = ItemNamed ns x

  abbrev pub Cs : List Cell → Type 0
  Cs cells = Each (CellNamed ns) cells

  -- the cells of a stack name only what has a name
  abbrev pub NamedStack : Frames → Type 0
  NamedStack m = Cs m.cells

  -- what comes off a stack is so, and the stack names only what has a name
  abbrev pub NamedAndStack : {A : Type 0} → (A → Type 0) → A × Frames → Type 0
  NamedAndStack Q pair = Q pair.0 × NamedStack pair.1

  -- a stack that names only what has a name, cell by cell
  pub stack_in : (m : Frames) → StackNamed ns m → NamedStack m
  stack_in m h = each_of (CellNamed ns) m.cells h.cells

  -- and back
  pub stack_out : (m : Frames) → NamedStack m → StackNamed ns m
  stack_out m h = record { cells = all_of (CellNamed ns) m.cells h }

  pub cells_cut : (n : ℕ) (cells : List Cell) → Cs cells → Cs (S.cut n cells)
  cells_cut n cells h = each_drop (CellNamed ns) (length cells - n) cells h

  cell_there : (n : ℕ) (cells : List Cell) → Cs cells → IfThere (CellNamed ns) (S.cell_at n cells)
  cell_there n cells h = each_get (CellNamed ns) cells (length cells - n) h

  cell_set : (n : ℕ) (c : Cell) (cells : List Cell) → Cs cells → CellNamed ns c → Cs (S.set_cell n c cells)
  cell_set n c cells h g = each_set (CellNamed ns) cells (length cells - n) c h g

  put_above : (vs : List Value) (cells : List Cell) → Each V vs → Cs cells → Cs (S.put_above vs cells)
  put_above [] cells h g = g
  put_above (v ∷ vs) cells h g = put_above vs (local v ∷ cells) h.1 (h.0, g)

  copy_up : (cells onto : List Cell) → Cs cells → Cs onto → Cs (S.copy_up cells onto)
  copy_up [] onto h g = g
  copy_up (operand x ∷ cells) onto h g = (h.0, copy_up cells onto h.1 g)
  copy_up (base p l ∷ cells) onto h g = g
  copy_up (call p l k r q ∷ cells) onto h g = g
  copy_up (local v ∷ cells) onto h g = g
  copy_up (mark l c r ∷ cells) onto h g = g
  copy_up (limit n r ∷ cells) onto h g = g
  copy_up (suspension w r p ∷ cells) onto h g = g

  -- Locals

  locals_down : (n : ℕ) (cells : List Cell) (vs : List Value) → Cs cells → Each V vs → Each V (S.locals_down n cells vs)
  locals_down zero cells vs h g = g
  locals_down (suc n) [] vs h g = g
  locals_down (suc n) (local v ∷ cells) vs h g = locals_down n cells (v ∷ vs) h.1 (h.0, g)
  locals_down (suc n) (operand x ∷ cells) vs h g = g
  locals_down (suc n) (base p l ∷ cells) vs h g = g
  locals_down (suc n) (call p l k r q ∷ cells) vs h g = g
  locals_down (suc n) (mark l c r ∷ cells) vs h g = g
  locals_down (suc n) (limit k r ∷ cells) vs h g = g
  locals_down (suc n) (suspension w r p ∷ cells) vs h g = g

  pub locals : (m : Frames) → NamedStack m → Each V (S.locals m)
  locals m h =
      let count = S.locals_of (S.frame m) in locals_down count (S.cut (m.registers.base + count) m.cells) [] (cells_cut (m.registers.base + count) m.cells h) tt

  set_local : (n : ℕ) (v : Value) (cells : List Cell) (o : Option Cell) → Cs cells → V v → Cs (S.set_local n v cells o)
  set_local n v cells None h g = h
  set_local n v cells (Some (local old)) h g = cell_set n (local v) cells h g
  set_local n v cells (Some (operand x)) h g = h
  set_local n v cells (Some (base p l)) h g = h
  set_local n v cells (Some (call p l k r q)) h g = h
  set_local n v cells (Some (mark l c r)) h g = h
  set_local n v cells (Some (limit k r)) h g = h
  set_local n v cells (Some (suspension w r p)) h g = h

  set_from : (n : ℕ) (vs : List Value) (cells : List Cell) → Each V vs → Cs cells → Cs (S.set_from n vs cells)
  set_from n [] cells h g = g
  set_from n (v ∷ vs) cells h g =
      set_from (suc n) vs (S.set_local (suc n) v cells (S.cell_at (suc n) cells)) h.1 (set_local (suc n) v cells (S.cell_at (suc n) cells) g h.0)

  pub set_locals : (vs : List Value) (m : Frames) → Each V vs → NamedStack m → NamedStack (S.set_locals vs m)
  set_locals vs m h g = set_from m.registers.base vs m.cells h g

  pub begin : (p : ℕ) (vs : List Value) (q : ℕ) (m : Frames) → Each V vs → NamedStack (S.begin p vs q m)
  begin p vs q m h = put_above vs (base p (length vs) ∷ []) h (tt, tt)

  pub enter : (p : ℕ) (vs : List Value) (m : Frames) → Each V vs → NamedStack m → NamedStack (S.enter p vs m)
  enter p vs m h g = put_above vs (call p (length vs) (suc (S.level m)) m.registers m.address ∷ m.cells) h (tt, g)

  -- Operands

  popped : (m : Frames) (cells : List Cell) → Cs cells → IfThere (NamedAndStack NamedItem) (S.pop_from m cells)
  popped m [] h = tt
  popped m (operand x ∷ cells) h = (h.0, h.1)
  popped m (base p l ∷ cells) h = tt
  popped m (call p l k r q ∷ cells) h = tt
  popped m (local v ∷ cells) h = tt
  popped m (mark l c r ∷ cells) h = tt
  popped m (limit n r ∷ cells) h = tt
  popped m (suspension w r p ∷ cells) h = tt

  pub pop : (m : Frames) → NamedStack m → IfThere (NamedAndStack NamedItem) (S.pop m)
  pop m h = popped m m.cells h

  taken : (n : ℕ) (m : Frames) (cells : List Cell) (xs : List Item) → Cs cells → Each NamedItem xs
      → IfThere (NamedAndStack (Each NamedItem)) (S.take_top n m cells xs)
  taken zero m cells xs h g = (g, h)
  taken (suc n) m [] xs h g = tt
  taken (suc n) m (operand x ∷ cells) xs h g = taken n m cells (x ∷ xs) h.1 (h.0, g)
  taken (suc n) m (base p l ∷ cells) xs h g = tt
  taken (suc n) m (call p l k r q ∷ cells) xs h g = tt
  taken (suc n) m (local v ∷ cells) xs h g = tt
  taken (suc n) m (mark l c r ∷ cells) xs h g = tt
  taken (suc n) m (limit k r ∷ cells) xs h g = tt
  taken (suc n) m (suspension w r p ∷ cells) xs h g = tt

  pub take_items : (n : ℕ) (m : Frames) → NamedStack m → IfThere (NamedAndStack (Each NamedItem)) (S.take n m)
  take_items n m h = taken n m m.cells [] h tt

  below_in : (cells : List Cell) → Cs cells → IfThere NamedItem (S.below_in cells)
  below_in [] h = tt
  below_in (c ∷ []) h = tt
  below_in (c ∷ operand x ∷ cells) h = h.1.0
  below_in (c ∷ base p l ∷ cells) h = tt
  below_in (c ∷ call p l k r q ∷ cells) h = tt
  below_in (c ∷ local v ∷ cells) h = tt
  below_in (c ∷ mark l d r ∷ cells) h = tt
  below_in (c ∷ limit n r ∷ cells) h = tt
  below_in (c ∷ suspension w r p ∷ cells) h = tt

  pub below : (m : Frames) → NamedStack m → IfThere NamedItem (S.below m)
  below m h = below_in (S.cut m.registers.mark m.cells) (cells_cut m.registers.mark m.cells h)

  -- Marks

  relabelled : (l : ℕ) (m : Frames) (o : Option Cell) → NamedStack m → IfThere NamedStack (S.relabel_in l m o)
  relabelled l m None h = tt
  relabelled l m (Some (mark old c r)) h = cell_set m.registers.mark (mark (Some l) true r) m.cells h tt
  relabelled l m (Some (operand x)) h = tt
  relabelled l m (Some (base p n)) h = tt
  relabelled l m (Some (call p n k r q)) h = tt
  relabelled l m (Some (local v)) h = tt
  relabelled l m (Some (limit n r)) h = tt
  relabelled l m (Some (suspension w r p)) h = tt

  pub relabel : (l : ℕ) (m : Frames) → NamedStack m → IfThere NamedStack (S.relabel l m)
  relabel l m h = relabelled l m (S.cell_at m.registers.mark m.cells) h

  abbrev pub Counted : ℕ → Type 0
  Counted n = Unit {0}

  counted : (m : Frames) (o : Option Cell) → NamedStack m → IfThere (NamedAndStack Counted) (S.count_in m o)
  counted m None h = tt
  counted m (Some (limit n r)) h = (tt, cell_set m.registers.mark (limit (pred n) r) m.cells h tt)
  counted m (Some (mark l c r)) h = tt
  counted m (Some (operand x)) h = tt
  counted m (Some (base p n)) h = tt
  counted m (Some (call p n k r q)) h = tt
  counted m (Some (local v)) h = tt
  counted m (Some (suspension w r p)) h = tt

  pub count_down : (m : Frames) → NamedStack m → IfThere (NamedAndStack Counted) (S.count_down m)
  count_down m h = counted m (S.cell_at m.registers.mark m.cells) h

  abbrev pub Left : Frames × Option Pair → Type 0
  Left pair = NamedStack pair.0

  unmarked : (m : Frames) (cells : List Cell) → Cs cells → IfThere Left (S.unmark_in m cells)
  unmarked m [] h = tt
  unmarked m (mark l c r ∷ cells) h = h.1
  unmarked m (limit n r ∷ cells) h = h.1
  unmarked m (operand x ∷ cells) h = tt
  unmarked m (base p l ∷ cells) h = tt
  unmarked m (call p l k r q ∷ cells) h = tt
  unmarked m (local v ∷ cells) h = tt
  unmarked m (suspension w r p ∷ cells) h = tt

  pub unmark : (m : Frames) → NamedStack m → IfThere Left (S.unmark m)
  unmark m h = unmarked m (S.cut m.registers.mark m.cells) (cells_cut m.registers.mark m.cells h)

  abbrev pub Drops : MarkDrop Frames → Type 0
  Drops NoMark = Unit {0}
  Drops (Goes a) = NamedStack a
  Drops (Repeats a) = NamedStack a
  Drops (Outside a) = NamedStack a

  dropped : (m : Frames) (cells : List Cell) → Cs cells → Drops (S.drop_from m cells)
  dropped m [] h = tt
  dropped m (mark (Some l) false r ∷ cells) h = h.1
  dropped m (mark (Some l) true r ∷ cells) h = h.1
  dropped m (mark None c r ∷ cells) h = h.1
  dropped m (limit n r ∷ cells) h = h.1
  dropped m (operand x ∷ cells) h = tt
  dropped m (base p l ∷ cells) h = tt
  dropped m (call p l k r q ∷ cells) h = tt
  dropped m (local v ∷ cells) h = tt
  dropped m (suspension w r p ∷ cells) h = tt

  pub drop_mark : (m : Frames) → NamedStack m → Drops (S.drop_mark m)
  drop_mark m h = dropped m (S.cut m.registers.mark m.cells) (cells_cut m.registers.mark m.cells h)

  -- Scans

  abbrev pub Swapped : Pair × Frames → Type 0
  Swapped pair = NamedStack pair.1

  with_pair : (pair : Pair) (n : ℕ) (m : Frames) (o : Option Cell) → NamedStack m → IfThere Swapped (S.with_pair pair n m o)
  with_pair pair n m None h = tt
  with_pair pair n m (Some (suspension (Scan old) r p)) h = cell_set n (suspension (Scan pair) r p) m.cells h tt
  with_pair pair n m (Some (suspension Alt r p)) h = tt
  with_pair pair n m (Some (suspension (Op x) r p)) h = tt
  with_pair pair n m (Some (suspension Escan r p)) h = tt
  with_pair pair n m (Some (suspension Proc r p)) h = tt
  with_pair pair n m (Some (mark l c r)) h = tt
  with_pair pair n m (Some (operand x)) h = tt
  with_pair pair n m (Some (base p l)) h = tt
  with_pair pair n m (Some (call p l k r q)) h = tt
  with_pair pair n m (Some (local v)) h = tt
  with_pair pair n m (Some (limit k r)) h = tt

  swap_at : (pair : Pair) (m : Frames) (o : Option ℕ) → NamedStack m → IfThere Swapped (S.swap_at pair m o)
  swap_at pair m None h = tt
  swap_at pair m (Some n) h = with_pair pair n m (S.cell_at n m.cells) h

  pub swap_newest : (pair : Pair) (m : Frames) → NamedStack m → IfThere Swapped (S.swap_newest pair m)
  swap_newest pair m h = swap_at pair m m.registers.scan h

  pub swap_oldest : (pair : Pair) (m : Frames) → NamedStack m → IfThere Swapped (S.swap_oldest pair m)
  swap_oldest pair m h = swap_at pair m (S.oldest None m) h

  -- Suspending

  pub suspend : (why : Why) (m : Frames) → WhyNamed ns why → NamedStack m → NamedStack (S.suspend why m)
  suspend why m g h = copy_up m.cells (suspension why m.registers m.address ∷ m.cells) h (g, h)

  suspended_onto : (why : Why) (m : Frames) (cells : List Cell) (r : Registers) (p : ℕ) → WhyNamed ns why → NamedStack m → Cs cells
      → NamedStack (S.suspended_onto why m cells r p)
  suspended_onto why m cells r p g h k = copy_up cells (suspension why m.registers m.address ∷ m.cells) k (g, h)

  mark_suspended : (m : Frames) (cells : List Cell) → NamedStack m → Cs cells → IfThere NamedStack (S.mark_suspended m cells)
  mark_suspended m [] h k = tt
  mark_suspended m (mark l c r ∷ cells) h k = suspended_onto Alt m cells r m.address tt h k.1
  mark_suspended m (limit n r ∷ cells) h k = suspended_onto Alt m cells r m.address tt h k.1
  mark_suspended m (operand x ∷ cells) h k = tt
  mark_suspended m (base p l ∷ cells) h k = tt
  mark_suspended m (call p l n r q ∷ cells) h k = tt
  mark_suspended m (local v ∷ cells) h k = tt
  mark_suspended m (suspension w r p ∷ cells) h k = tt

  pub suspend_mark : (m : Frames) → NamedStack m → IfThere NamedStack (S.suspend_mark m)
  suspend_mark m h = mark_suspended m (S.cut m.registers.mark m.cells) h (cells_cut m.registers.mark m.cells h)

  proc_suspended : (m : Frames) (cells : List Cell) → NamedStack m → Cs cells → IfThere NamedStack (S.proc_suspended m cells)
  proc_suspended m [] h k = tt
  proc_suspended m (call p l n r q ∷ cells) h k = suspended_onto Proc m cells r q tt h k.1
  proc_suspended m (mark l c r ∷ cells) h k = tt
  proc_suspended m (limit n r ∷ cells) h k = tt
  proc_suspended m (operand x ∷ cells) h k = tt
  proc_suspended m (base p l ∷ cells) h k = tt
  proc_suspended m (local v ∷ cells) h k = tt
  proc_suspended m (suspension w r p ∷ cells) h k = tt

  pub suspend_proc : (m : Frames) → NamedStack m → IfThere NamedStack (S.suspend_proc m)
  suspend_proc m h = proc_suspended m (S.cut m.registers.base m.cells) h (cells_cut m.registers.base m.cells h)

  resumed : (cells : List Cell) → Cs cells → IfThere (NamedAndStack (WhyNamed ns)) (S.resume_from cells)
  resumed [] h = tt
  resumed (suspension w r p ∷ cells) h = (h.0, h.1)
  resumed (operand x ∷ cells) h = tt
  resumed (base p l ∷ cells) h = tt
  resumed (call p l k r q ∷ cells) h = tt
  resumed (local v ∷ cells) h = tt
  resumed (mark l c r ∷ cells) h = tt
  resumed (limit n r ∷ cells) h = tt

  resume_at : (m : Frames) (o : Option ℕ) → NamedStack m
      → IfThere (NamedAndStack (WhyNamed ns)) (option_and_then (λ height. S.resume_from (S.cut height m.cells)) o)
  resume_at m None h = tt
  resume_at m (Some n) h = resumed (S.cut n m.cells) (cells_cut n m.cells h)

  pub resume : (m : Frames) → NamedStack m → IfThere (NamedAndStack (WhyNamed ns)) (S.resume m)
  resume m h = resume_at m m.registers.newest h

  left : (cells : List Cell) → Cs cells → IfThere NamedStack (S.leave_from cells)
  left [] h = tt
  left (call p l k r q ∷ cells) h = h.1
  left (mark l c r ∷ cells) h = tt
  left (limit n r ∷ cells) h = tt
  left (operand x ∷ cells) h = tt
  left (base p l ∷ cells) h = tt
  left (local v ∷ cells) h = tt
  left (suspension w r p ∷ cells) h = tt

  pub leave : (m : Frames) → NamedStack m → IfThere NamedStack (S.leave m)
  leave m h = left (S.cut m.registers.base m.cells) (cells_cut m.registers.base m.cells h)
