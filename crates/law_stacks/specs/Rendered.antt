-- The relation of linked chains to flat stacks. Between them stand numbered cells: the flat stack's, but what changes in place is named by its number.
-- A chain is flattened into numbered cells, whatever the numbers hold; and numbered cells are shown as flat ones by what the numbers hold now.
use Rattle.std.specs.Prelude.{◌≡◌, ◌≢◌, ℕ, zero, suc, ◌+◌, ◌<◌, Bool, true, false, List, [], ◌∷◌, ◌++◌, length, map, slice_get, slice_index_or, Option, Some, None}
use Rattle.std.specs.Option.{option_map}
use Rattle.icn_run.specs.Rows.{Value, Null, Item}
use Rattle.icn_run.specs.Calls.{Pair, Scan}
use Rattle.icn_run.specs.Stacks.{Registers, Cell, Frames, base as c_base, call as c_call, local as c_local, mark as c_mark, limit as c_limit, suspension as c_suspension, operand as c_operand}
use Rattle.icn_run.specs.Chains.{Label, fixed, flagged, Reason, because, scanning, Chain, chain, Suspensions, none, suspension, Outer, base, call, mark, limit, LinkedStack, WaitingChain, frame_of, outer_of, proc_of, label_of}

-- A frame has the number of its activation and how many locals stand above it, and these their activation and their place.
pub data NCell : Type 0 where
  n_base : (proc activation locals : ℕ) → NCell
  n_call : (proc activation locals level : ℕ) → Registers → ℕ → NCell
  n_local : (activation place : ℕ) → NCell
  n_mark : Label → Registers → NCell
  n_limit : ℕ → Registers → NCell
  n_suspension : Reason → Registers → ℕ → NCell
  n_operand : Item → NCell

-- What changes in place has a name: its list, and its number there.
pub data CellName : Type 0 where
  activation_name : ℕ → CellName
  flag_name : ℕ → CellName
  limit_name : ℕ → CellName
  saved_name : ℕ → CellName

-- whether a repeated alternation had a result, another label that a mark got, the results that a limit leaves, a saved pair, and the locals of an
-- activation
pub data Content : Type 0 where
  Flag : Bool → Content
  Changed : ℕ → Content
  Count : ℕ → Content
  Saved : Pair → Content
  Locals : List Value → Content

-- the locals of an activation that is kept, and none of anything else
abbrev pub values_of : Option Content → List Value
values_of (Some (Locals values)) = values
values_of cell = []

-- what a run on chains holds beside its chains
pub record Memory : Type 0 where
  pub activations : List (List Value)
  pub flags : List Bool
  pub relabels : List (ℕ × ℕ)
  pub limits : List ℕ
  pub saved : List Pair

-- what a machine on linked marks holds beside its chain
abbrev pub memory_of : LinkedStack → Memory
memory_of m = record {
  activations = m.activations;
  flags = m.flags;
  relabels = m.relabels;
  limits = m.limits;
  saved = m.saved;
}

-- a chain at an address, with what is held beside it
abbrev pub linked_with : Memory → Chain → ℕ → LinkedStack
linked_with F c q = record {
  chain = c;
  address = q;
  activations = F.activations;
  flags = F.flags;
  relabels = F.relabels;
  limits = F.limits;
  saved = F.saved;
}

-- where a flag is down, the mark may have got another label
abbrev pub flag_kept : Option ℕ → Bool → Content
flag_kept label true = Flag true
flag_kept None false = Flag false
flag_kept (Some label) false = Changed label

-- the locals of an activation, as they are kept
abbrev pub activation_kept : List Value → Content
activation_kept values = Locals values

-- the results that a limit leaves, as they are kept
abbrev pub limit_kept : ℕ → Content
limit_kept count = Count count

-- a saved pair, as it is kept
abbrev pub saved_kept : Pair → Content
saved_kept pair = Saved pair

-- what a name holds
abbrev pub content_of : Memory → CellName → Option Content
content_of F (activation_name n) = option_map activation_kept (slice_get F.activations n)
content_of F (flag_name n) = option_map (flag_kept (label_of n F.relabels)) (slice_get F.flags n)
content_of F (limit_name n) = option_map limit_kept (slice_get F.limits n)
content_of F (saved_name n) = option_map saved_kept (slice_get F.saved n)

-- where each is shown: in which stack, and at which height
pub record Owners : Type 0 where
  pub activations : List (ℕ × ℕ)
  pub flags : List (ℕ × ℕ)
  pub limits : List (ℕ × ℕ)
  pub saved : List (ℕ × ℕ)

-- the stack and the height at which a number is shown
abbrev pub owner_of : Owners → CellName → Option (ℕ × ℕ)
owner_of O (activation_name n) = slice_get O.activations n
owner_of O (flag_name n) = slice_get O.flags n
owner_of O (limit_name n) = slice_get O.limits n
owner_of O (saved_name n) = slice_get O.saved n

-- What the names hold, and where each is shown. So each is shown in one place. Only a flag that is down has another label.
pub record RenderedWorld : Type 0 where
  pub kept : Memory
  pub owners : Owners
  pub same_activations : length owners.activations ≡ length kept.activations
  pub same_flags : length owners.flags ≡ length kept.flags
  pub same_limits : length owners.limits ≡ length kept.limits
  pub same_saved : length owners.saved ≡ length kept.saved
  pub unlabelled : (n : ℕ) → (slice_get kept.flags n ≡ Some false → ⊥) → label_of n kept.relabels ≡ None

-- name n is shown in stack s at height h, and holds k
pub record IsOwned (w : RenderedWorld) (n : CellName) (s h : ℕ) (k : Content) : Type 0 where
  pub owner : owner_of w.owners n ≡ Some (s, h)
  pub holds : content_of w.kept n ≡ Some k

-- How a numbered cell looks

-- a mark whose flag is up has the address as its label; one that got another label has that one
abbrev pub shown_label : Option Content → Option ℕ → ℕ → Registers → Cell
shown_label (Some (Flag true)) label address r = c_mark (Some address) true r
shown_label (Some (Changed other)) label address r = c_mark (Some other) true r
shown_label kept label address r = c_mark label false r

-- the results that a limit leaves, and 0 of anything else
abbrev pub count_of : Option Content → ℕ
count_of (Some (Count n)) = n
count_of kept = 0

-- a saved pair, and an empty one of anything else
abbrev pub saved_in : Option Content → Pair
saved_in (Some (Saved pair)) = pair
saved_in kept = record { subject = []; position = 0 }

-- the cell of the flat stack that a numbered cell looks like
abbrev pub shown_cell : Memory → NCell → Cell
shown_cell F (n_base p a n) = c_base p n
shown_cell F (n_call p a n level r q) = c_call p n level r q
shown_cell F (n_local a i) = c_local (slice_index_or (values_of (content_of F (activation_name a))) i Null)
shown_cell F (n_mark (fixed l) r) = c_mark l false r
shown_cell F (n_mark (flagged l f q) r) = shown_label (content_of F (flag_name f)) l q r
shown_cell F (n_limit n r) = c_limit (count_of (content_of F (limit_name n))) r
shown_cell F (n_suspension (because why) r q) = c_suspension why r q
shown_cell F (n_suspension (scanning n) r q) =
    c_suspension (Scan (saved_in (content_of F (saved_name n)))) r q
shown_cell F (n_operand item) = c_operand item

-- the flat stack that numbered cells look like
abbrev pub render : Memory → List NCell → List Cell
render F cells = map (shown_cell F) cells

-- what is kept of a flag, and nothing else
abbrev pub IsFlag : Content → Type 0
IsFlag (Flag up) = Unit {0}
IsFlag (Changed label) = Unit {0}
IsFlag kept = ⊥

-- the number that a cell at height h of stack s names holds what it should, and is shown there
abbrev pub Ok : RenderedWorld → ℕ → ℕ → NCell → Type 0
Ok w s h (n_base p a n) = (vs : List Value) × IsOwned w (activation_name a) s h (Locals vs) × (length vs ≡ n)
Ok w s h (n_call p a n level r q) =
    (vs : List Value) × IsOwned w (activation_name a) s h (Locals vs) × (length vs ≡ n)
Ok w s h (n_local a i) = (vs : List Value) × (b : ℕ) × IsOwned w (activation_name a) s b (Locals vs)
    × (h ≡ suc (b + i)) × (i < length vs)
Ok w s h (n_mark (fixed l) r) = Unit {0}
Ok w s h (n_mark (flagged l f q) r) = (k : Content) × IsOwned w (flag_name f) s h k × IsFlag k
Ok w s h (n_limit n r) = (count : ℕ) × IsOwned w (limit_name n) s h (Count count)
Ok w s h (n_suspension (because why) r q) = Unit {0}
Ok w s h (n_suspension (scanning n) r q) = (pair : Pair) × IsOwned w (saved_name n) s h (Saved pair)
Ok w s h (n_operand item) = Unit {0}

-- each cell of a stack names what is kept and shown there
abbrev pub AllOk : RenderedWorld → ℕ → List NCell → Type 0
AllOk w s [] = Unit {0}
AllOk w s (cell ∷ cells) = Ok w s (suc (length cells)) cell × AllOk w s cells

-- How a chain lies flat

-- so many locals of an activation from an index on, above other cells
abbrev pub locs : ℕ → ℕ → ℕ → List NCell → List NCell
locs a i zero cells = cells
locs a i (suc n) cells = locs a (suc i) n (n_local a i ∷ cells)

-- no operand stands on top
abbrev pub Bare : List NCell → Type 0
Bare (n_operand item ∷ cells) = ⊥
Bare cells = Unit {0}

-- the saved pairs of open scans with the newest first: their frames stand at these heights, each below the one before
pub data FlatScans : List ℕ → List NCell → Option ℕ → Type 0 where
  f_no_scan : {cells : List NCell} → FlatScans [] cells None
  f_scan : {n h : ℕ} {scans : List ℕ} {cells : List NCell} (q : ℕ) (r : Registers) (above below : List NCell)
      → cells ≡ above ++ n_suspension (scanning n) r q ∷ below → h ≡ suc (length below)
      → FlatScans scans below r.scan → FlatScans (n ∷ scans) cells (Some h)

-- what is known of the label of a mark of a procedure: the mark stands at an address, which is not told as one where labels may change, or which the label has
abbrev pub LabelOk : (ℕ → ℕ → Bool) → (ℕ → ℕ → Option ℕ → Type 0) → ℕ → Label → Type 0
LabelOk repeats Opens proc (fixed l) = (q : ℕ) × (repeats proc q ≡ false) × Opens proc q l
LabelOk repeats Opens proc (flagged l f q) = Opens proc q l

module _ (repeats : ℕ → ℕ → Bool) (Opens : ℕ → ℕ → Option ℕ → Type 0) where
  mutual
    -- operands are on top; below them is the newest suspension, or what the mark or the frame stands at
    pub data IsFlat : Chain → List NCell → Registers → Type 0 where
      f_chain : {items : List Item} {s : Suspensions} {scans : List ℕ} {outer : Outer} {cells : List NCell}
          {r : Registers} (z : List NCell) → cells ≡ map n_operand items ++ z → Bare z
          → FlatOuter outer z r.mark r.base → FlatSusps s z r.newest → FlatScans scans z r.scan
          → IsFlat (chain items s scans outer) cells r

    -- the newest suspension is the cell on top, if there is one
    pub data FlatSusps : Suspensions → List NCell → Option ℕ → Type 0 where
      f_none : {z : List NCell} → FlatSusps none z None
      f_susp : {reason : Reason} {q h : ℕ} {inside : Chain} {r : Registers} {z : List NCell}
          → h ≡ suc (length z) → IsFlat inside z r
          → FlatSusps (suspension reason q inside) (n_suspension reason r q ∷ z) (Some h)

    -- the cell of the innermost mark, and the frame
    pub data FlatOuter : Outer → List NCell → ℕ → ℕ → Type 0 where
      f_base : {p a h b : ℕ} {z : List NCell} (n : ℕ) (above : List NCell)
          → z ≡ above ++ locs a 0 n (n_base p a n ∷ []) → h ≡ 1 → b ≡ 1 → FlatOuter (base p a) z h b
      f_call : {p a level q h b : ℕ} {caller : Chain} {z : List NCell} (n : ℕ) (r : Registers)
          (above below : List NCell) → z ≡ above ++ locs a 0 n (n_call p a n level r q ∷ below)
          → h ≡ suc (length below) → b ≡ suc (length below)
          → IsFlat caller below r → FlatOuter (call p a level q caller) z h b
      f_mark : {label : Label} {h b : ℕ} {outside : Chain} {z : List NCell}
          (r : Registers) (above below : List NCell)
          → z ≡ above ++ n_mark label r ∷ below → h ≡ suc (length below) → b ≡ r.base
          → LabelOk repeats Opens (proc_of (frame_of (outer_of outside))) label → IsFlat outside below r
          → FlatOuter (mark label outside) z h b
      f_limit : {n h b : ℕ} {outside : Chain} {z : List NCell} (r : Registers) (above below : List NCell)
          → z ≡ above ++ n_limit n r ∷ below → h ≡ suc (length below) → b ≡ r.base
          → IsFlat outside below r → FlatOuter (limit n outside) z h b

  -- the stack that runs, as number s
  pub data Now (w : RenderedWorld) (s : ℕ) : LinkedStack → Frames → Type 0 where
    now : {c : Chain} {q : ℕ} {r : Registers} (cells : List NCell) → IsFlat c cells r → AllOk w s cells
        → Now w s (linked_with w.kept c q)
        (record { cells = render w.kept cells; registers = r; address = q })

  -- a stack that waits
  pub data Away (w : RenderedWorld) (s : ℕ) : WaitingChain → Frames → Type 0 where
    away : {c : Chain} {q : ℕ} {r : Registers} (cells : List NCell) → IsFlat c cells r → AllOk w s cells
        → Away w s (record { chain = c; address = q })
        (record { cells = render w.kept cells; registers = r; address = q })

-- from a world to one where the numbers of other stacks than s hold what they held
abbrev pub Next : ℕ → RenderedWorld → RenderedWorld → Type 0
Next s w w' = (t : ℕ) (n : CellName) (h : ℕ) (k : Content) → t ≢ s → IsOwned w n t h k → IsOwned w' n t h k
