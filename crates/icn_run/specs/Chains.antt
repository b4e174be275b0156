-- Linked marks: a mark has its operands, its newest suspension and the mark outside, and a suspension keeps all of it as it was. What changes between a
-- result and its resumption is a numbered cell.
use Rattle.std.specs.Prelude.{ℕ, zero, suc, pred, ◌==◌, Bool, true, false, List, [], ◌∷◌, ◌++◌, length, slice_get, slice_index_or, slice_set, Option, Some, None, if◌then◌else◌}
use Rattle.std.specs.Option.{option_map}
use Rattle.icn_run.specs.Rows.{Value, Item}
use Rattle.icn_run.specs.Calls.{Pair, Why, Alt, Scan, Escan, Proc, MarkDrop, NoMark, Goes, Repeats, Outside, Calls}

-- a label, if there is one; or one with the cell that says whether it was changed, and the address of the mark, so that a repeated alternation begins again
-- with its cell
pub data Label : Type 0 where
  fixed : Option ℕ → Label
  flagged : Option ℕ → ℕ → ℕ → Label

-- why, without what changes: a scan has the number of its saved pair
pub data Reason : Type 0 where
  because : Why → Reason
  scanning : ℕ → Reason

mutual
  -- operands with the newest first, the newest suspension, the saved pairs of the procedure's open scans with the newest first, and what is outside
  pub data Chain : Type 0 where
    chain : List Item → Suspensions → List ℕ → Outer → Chain

  -- a suspension with its address
  pub data Suspensions : Type 0 where
    none : Suspensions
    suspension : Reason → ℕ → Chain → Suspensions

  -- a frame has its procedure and the cell of its locals, and that of a call besides its level and the address in the caller
  pub data Outer : Type 0 where
    base : (proc activation : ℕ) → Outer
    call : (proc activation level address : ℕ) → Chain → Outer
    mark : Label → Chain → Outer
    limit : ℕ → Chain → Outer

-- a stack that waits: its chain, with its address
pub record WaitingChain : Type 0 where
  pub chain : Chain
  pub address : ℕ

-- The chain that runs with its address; and what changes, each in the list of its type at its number: the locals of each activation; of each repeated
-- alternation whether it had a result; other labels that marks got; the results that each limit leaves; and saved pairs.
pub record LinkedStack : Type 0 where
  pub chain : Chain
  pub address : ℕ
  pub activations : List (List Value)
  pub flags : List Bool
  pub relabels : List (ℕ × ℕ)
  pub limits : List ℕ
  pub saved : List Pair

-- the frame of the procedure that runs
pub data Frame : Type 0 where
  at_base : (proc activation : ℕ) → Frame
  in_call : (proc activation level address : ℕ) → Chain → Frame

-- the frame of the procedure that runs, outside all its marks
abbrev pub frame_of : Outer → Frame
frame_of (base proc activation) = at_base proc activation
frame_of (call proc activation level address caller) = in_call proc activation level address caller
frame_of (mark label (chain items s scans outer)) = frame_of outer
frame_of (limit count (chain items s scans outer)) = frame_of outer

-- what is outside the operands of a chain
abbrev pub outer_of : Chain → Outer
outer_of (chain items s scans outer) = outer

-- the saved pairs of the procedure's open scans, by their cells
abbrev pub scans_of : Chain → List ℕ
scans_of (chain items s scans outer) = scans

-- the frame of the procedure that runs
abbrev pub frame : LinkedStack → Frame
frame m = frame_of (outer_of m.chain)

-- the same with another chain
abbrev pub with_chain : Chain → LinkedStack → LinkedStack
with_chain new m = record m { chain = new }

-- another pair in a cell of saved pairs
abbrev pub with_saved : ℕ → Pair → LinkedStack → LinkedStack
with_saved n pair m = record m { saved = slice_set m.saved n pair }

-- a new chain: a frame with a cell of its own for its locals
abbrev pub begin : ℕ → List Value → ℕ → LinkedStack → LinkedStack
begin proc values address m = record m {
  chain = chain [] none [] (base proc (length m.activations));
  address = address;
  activations = m.activations ++ values ∷ [];
}

-- the procedure of a frame
abbrev pub proc_of : Frame → ℕ
proc_of (at_base proc activation) = proc
proc_of (in_call proc activation level address caller) = proc

-- how deep the procedure of a frame is called
abbrev pub level_of : Frame → ℕ
level_of (at_base proc activation) = 1
level_of (in_call proc activation level address caller) = level

-- the cell with the locals of a frame
abbrev pub activation_of : Frame → ℕ
activation_of (at_base proc activation) = activation
activation_of (in_call proc activation level address caller) = activation

-- the frame has no caller
abbrev pub is_base_frame : Frame → Bool
is_base_frame (at_base proc activation) = true
is_base_frame (in_call proc activation level address caller) = false

-- the locals of the procedure that runs
abbrev pub locals : LinkedStack → List Value
locals m = slice_index_or m.activations (activation_of (frame m)) []

-- the procedure that runs has other locals
abbrev pub set_locals : List Value → LinkedStack → LinkedStack
set_locals values m = record m { activations = slice_set m.activations (activation_of (frame m)) values }

-- one more operand
abbrev pub push_on : Item → Chain → Chain
push_on item (chain items s scans outer) = chain (item ∷ items) s scans outer

-- an operand is pushed
abbrev pub push : Item → LinkedStack → LinkedStack
push item m = with_chain (push_on item m.chain) m

-- the newest operand, if there is one, and what is left
abbrev pub pop_from : LinkedStack → Chain → Option (Item × LinkedStack)
pop_from m (chain [] s scans outer) = None
pop_from m (chain (item ∷ items) s scans outer) = Some (item, with_chain (chain items s scans outer) m)

-- the newest operand of the innermost mark, if there is one, and what is left
abbrev pub pop : LinkedStack → Option (Item × LinkedStack)
pop m = pop_from m m.chain

-- so many operands, the oldest first, in front of those that were found
abbrev pub take_top : ℕ → List Item → List Item → Option (List Item × List Item)
take_top zero items found = Some (found, items)
take_top (suc n) [] found = None
take_top (suc n) (item ∷ items) found = take_top n items (item ∷ found)

-- so many operands of this chain, if there are as many, and what is left
abbrev pub take_from : ℕ → LinkedStack → Chain → Option (List Item × LinkedStack)
take_from n m (chain items s scans outer) =
    option_map (λ parts. (parts.0, with_chain (chain parts.1 s scans outer) m)) (take_top n items [])

-- the newest operands of the innermost mark, if there are as many, and what is left
abbrev pub take_items : ℕ → LinkedStack → Option (List Item × LinkedStack)
take_items n m = take_from n m m.chain

-- the newest operand of a chain, if there is one
abbrev pub first_of_chain : Chain → Option Item
first_of_chain (chain [] s scans outer) = None
first_of_chain (chain (item ∷ items) s scans outer) = Some item

-- the newest operand outside, if there is one
abbrev pub below_outer : Outer → Option Item
below_outer (base proc activation) = None
below_outer (call proc activation level address caller) = first_of_chain caller
below_outer (mark label outside) = first_of_chain outside
below_outer (limit count outside) = first_of_chain outside

-- the operand directly below the innermost mark
abbrev pub below : LinkedStack → Option Item
below m = below_outer (outer_of m.chain)

-- Marks. One whose label may change, which the address of its instruction tells, has a cell.

-- a mark with this label
abbrev pub push_mark : Label → LinkedStack → LinkedStack
push_mark label m = with_chain (chain [] none (scans_of m.chain) (mark label m.chain)) m

-- a mark is opened; where it repeats, it has a cell that tells whether there was a result
abbrev pub open_mark : (ℕ → ℕ → Bool) → Option ℕ → LinkedStack → LinkedStack
open_mark repeats label m = if repeats (proc_of (frame m)) (pred m.address)
    then record (push_mark (flagged label (length m.flags) (pred m.address))
    m) { flags = m.flags ++ false ∷ [] }
    else push_mark (fixed label) m

-- a mark that counts results down is opened
abbrev pub open_limit : ℕ → LinkedStack → LinkedStack
open_limit count m = record m {
  chain = chain [] none (scans_of m.chain) (limit (length m.limits) m.chain);
  limits = m.limits ++ count ∷ [];
}

-- the other labels but that of this cell; and that of a cell
abbrev pub forget_label : ℕ → List (ℕ × ℕ) → List (ℕ × ℕ)
forget_label flag [] = []
forget_label flag (entry ∷ others) =
    if entry.0 == flag then forget_label flag others else (entry ∷ forget_label flag others)

-- the label that a mark got later, if it got one
abbrev pub label_of : ℕ → List (ℕ × ℕ) → Option ℕ
label_of flag [] = None
label_of flag (entry ∷ others) = if entry.0 == flag then Some entry.1 else label_of flag others

-- the address of the mark itself raises its flag; another label is kept apart
abbrev pub relabelled_if : Bool → ℕ → ℕ → LinkedStack → LinkedStack
relabelled_if true label flag m =
    record m { flags = slice_set m.flags flag true; relabels = forget_label flag m.relabels }
relabelled_if false label flag m =
    record m { flags = slice_set m.flags flag false; relabels = (flag, label) ∷ forget_label flag m.relabels }

-- the innermost mark gets another label, if it can change
abbrev pub relabel_in : ℕ → LinkedStack → Outer → Option LinkedStack
relabel_in label m (mark (flagged old flag address) outside) =
    Some (relabelled_if (label == address) label flag m)
relabel_in label m outer = None

-- the innermost mark gets another label
abbrev pub relabel : ℕ → LinkedStack → Option LinkedStack
relabel label m = relabel_in label m (outer_of m.chain)

-- how many results a limit leaves after one more
abbrev pub results_left : ℕ → LinkedStack → ℕ
results_left n m = pred (slice_index_or m.limits n 0)

-- one result of a limit is counted, where the innermost mark is one
abbrev pub count_in : LinkedStack → Outer → Option (ℕ × LinkedStack)
count_in m (limit n outside) =
    Some (results_left n m, record m { limits = slice_set m.limits n (results_left n m) })
count_in m outer = None

-- one result of the innermost mark, which is a limit, is counted
abbrev pub count_down : LinkedStack → Option (ℕ × LinkedStack)
count_down m = count_in m (outer_of m.chain)

-- Open scans

-- the pair that a cell keeps
abbrev pub saved_at : LinkedStack → ℕ → Pair
saved_at m n = slice_index_or m.saved n (record { subject = []; position = 1 })

-- the pair that a scan saved, if there is a scan
abbrev pub pair_at : LinkedStack → Option ℕ → Option Pair
pair_at m scan = option_map (saved_at m) scan

-- the newest open scan, if there is one
abbrev pub first_scan : List ℕ → Option ℕ
first_scan [] = None
first_scan (n ∷ scans) = Some n

-- the same cell, or none both times
abbrev pub is_same : Option ℕ → Option ℕ → Bool
is_same None None = true
is_same (Some m) (Some n) = m == n
is_same m n = false

-- from an open scan through older ones to the last before a given one
abbrev pub oldest_from : Option ℕ → List ℕ → Option ℕ
oldest_from until [] = None
oldest_from until (n ∷ scans) = if is_same (first_scan scans) until then Some n else oldest_from until scans

-- the oldest scan that is open and was opened after a given one
abbrev pub oldest : Option ℕ → List ℕ → Option ℕ
oldest until scans = if is_same (first_scan scans) until then None else oldest_from until scans

-- the saved pair of a scan is exchanged, if there is a scan
abbrev pub swap_at : Pair → LinkedStack → Option ℕ → Option (Pair × LinkedStack)
swap_at pair m None = None
swap_at pair m (Some n) = Some (saved_at m n, with_saved n pair m)

-- the saved pair of the newest open scan is exchanged
abbrev pub swap_newest : Pair → LinkedStack → Option (Pair × LinkedStack)
swap_newest pair m = swap_at pair m (slice_get (scans_of m.chain) 0)

-- the saved pair of the procedure's oldest open scan is exchanged
abbrev pub swap_oldest : Pair → LinkedStack → Option (Pair × LinkedStack)
swap_oldest pair m = swap_at pair m (oldest None (scans_of m.chain))

-- Dropping a mark

-- the mark is dropped, and the pair comes back that its oldest open scan saved
abbrev pub unmark_in : LinkedStack → Chain → Option (LinkedStack × Option Pair)
unmark_in m outside =
    Some (with_chain outside m, pair_at m (oldest (first_scan (scans_of outside)) (scans_of m.chain)))

-- the mark or the limit is dropped, if the innermost one is there
abbrev pub unmark_from : LinkedStack → Outer → Option (LinkedStack × Option Pair)
unmark_from m (mark label outside) = unmark_in m outside
unmark_from m (limit n outside) = unmark_in m outside
unmark_from m outer = None

-- the innermost mark is dropped with all that it suspended
abbrev pub unmark : LinkedStack → Option (LinkedStack × Option Pair)
unmark m = unmark_from m (outer_of m.chain)

-- to the label, or to what fails next outside
abbrev pub dropped_to : LinkedStack → Chain → Option ℕ → MarkDrop LinkedStack
dropped_to m outside (Some label) = Goes (record m { chain = outside; address = label })
dropped_to m outside None = Outside (with_chain outside m)

-- one that got another label is gone to it
abbrev pub dropped_by : LinkedStack → Chain → Option ℕ → Option ℕ → MarkDrop LinkedStack
dropped_by m outside label (Some other) = Repeats (record m { chain = outside; address = other })
dropped_by m outside label None = dropped_to m outside label

-- where the flag is up it is put down, and the repeated alternation begins again behind its mark
abbrev pub repeat_mark : Option ℕ → ℕ → ℕ → Chain → LinkedStack → Bool → MarkDrop LinkedStack
repeat_mark label flag address outside m true =
    Repeats (record m {
      chain = chain [] none (scans_of outside) (mark (flagged label flag address) outside);
      address = suc address;
      flags = slice_set m.flags flag false;
    })
repeat_mark label flag address outside m false = dropped_by m outside label (label_of flag m.relabels)

-- where failing goes on once the innermost mark is dropped, by what it is
abbrev pub drop_from : LinkedStack → Outer → MarkDrop LinkedStack
drop_from m (mark (fixed label) outside) = dropped_to m outside label
drop_from m (mark (flagged label flag address) outside) =
    repeat_mark label flag address outside m (slice_index_or m.flags flag false)
drop_from m (limit n outside) = Outside (with_chain outside m)
drop_from m outer = NoMark

-- where failing goes on once the innermost mark is dropped
abbrev pub drop_mark : LinkedStack → MarkDrop LinkedStack
drop_mark m = drop_from m (outer_of m.chain)

-- Suspending

-- another newest suspension
abbrev pub suspend_in : Suspensions → Chain → Chain
suspend_in s (chain items old scans outer) = chain items s scans outer

-- the newest open scan is left
abbrev pub without_scan : Chain → Chain
without_scan (chain items s [] outer) = chain items s [] outer
without_scan (chain items s (n ∷ scans) outer) = chain items s scans outer

-- one more open scan
abbrev pub with_scan : ℕ → Chain → Chain
with_scan n (chain items s scans outer) = chain items s (n ∷ scans) outer

-- something is suspended in the innermost mark
abbrev pub suspend : Why → LinkedStack → LinkedStack
suspend (Scan pair) m = let n = length m.saved in
    record m {
      chain = with_scan n (suspend_in (suspension (scanning n) m.address m.chain) m.chain);
      saved = m.saved ++ pair ∷ [];
    }
suspend Escan m =
    with_chain (without_scan (suspend_in (suspension (because Escan) m.address m.chain) m.chain)) m
suspend why m = with_chain (suspend_in (suspension (because why) m.address m.chain) m.chain) m

-- the innermost mark is left suspended in the one outside, if it is there
abbrev pub suspend_outer : LinkedStack → Outer → Option LinkedStack
suspend_outer m (mark label outside) =
    Some (with_chain (suspend_in (suspension (because Alt) m.address m.chain) outside) m)
suspend_outer m (limit n outside) =
    Some (with_chain (suspend_in (suspension (because Alt) m.address m.chain) outside) m)
suspend_outer m outer = None

-- the innermost mark is left suspended in the one outside
abbrev pub suspend_mark : LinkedStack → Option LinkedStack
suspend_mark m = suspend_outer m (outer_of m.chain)

-- the procedure is left suspended in its caller, if it has one
abbrev pub suspend_frame : LinkedStack → Frame → Option LinkedStack
suspend_frame m (at_base proc activation) = None
suspend_frame m (in_call proc activation level address caller) =
    Some
    (record m { chain = suspend_in (suspension (because Proc) m.address m.chain) caller; address = address })

-- the procedure is left suspended in its caller
abbrev pub suspend_proc : LinkedStack → Option LinkedStack
suspend_proc m = suspend_frame m (frame m)

-- why it was suspended, with the pair that its scan saved
abbrev pub why_of : Reason → LinkedStack → Why
why_of (because why) m = why
why_of (scanning n) m = Scan (saved_at m n)

-- the newest suspension comes back, if there is one
abbrev pub resume_from : LinkedStack → Chain → Option (Why × LinkedStack)
resume_from m (chain items none scans outer) = None
resume_from m (chain items (suspension reason address inside) scans outer) =
    Some (why_of reason m, record m { chain = inside; address = address })

-- the newest suspension of the innermost mark comes back
abbrev pub resume : LinkedStack → Option (Why × LinkedStack)
resume m = resume_from m m.chain

-- Calls

-- a procedure is entered, with the way back to its caller
abbrev pub enter : ℕ → List Value → LinkedStack → LinkedStack
enter proc values m = record m {
  chain = chain [] none [] (call proc (length m.activations) (suc (level_of (frame m))) m.address m.chain);
  address = 0;
  activations = m.activations ++ values ∷ [];
}

-- the way back to the caller, if there is one
abbrev pub leave_frame : LinkedStack → Frame → Option LinkedStack
leave_frame m (at_base proc activation) = None
leave_frame m (in_call proc activation level address caller) =
    Some (record m { chain = caller; address = address })

-- the procedure ends and its caller goes on
abbrev pub leave : LinkedStack → Option LinkedStack
leave m = leave_frame m (frame m)

-- no stack yet
abbrev pub empty : LinkedStack
empty = record {
  chain = chain [] none [] (base 0 0);
  address = 0;
  activations = [];
  flags = [];
  relabels = [];
  limits = [];
  saved = [];
}

-- The calls, where it is told at which addresses of each procedure marks are opened whose labels may change. For translated code these are the addresses where
-- repeated alternations begin, and then the cells are those of the meaning; where it is said of all addresses, no code lacks a cell.
abbrev pub linked_calls : (ℕ → ℕ → Bool) → Calls WaitingChain LinkedStack
linked_calls repeats = record {
  kept = λ m. record { chain = m.chain; address = m.address };
  taken_up = λ k m. record m { chain = k.chain; address = k.address };
  begin = begin;
  proc = λ m. proc_of (frame m);
  level = λ m. level_of (frame m);
  is_base = λ m. is_base_frame (frame m);
  locals = locals;
  set_locals = set_locals;
  address = λ m. m.address;
  go = λ address m. record m { address = address };
  push = push;
  pop = pop;
  take = take_items;
  below = below;
  mark = open_mark repeats;
  limit = open_limit;
  relabel = relabel;
  count_down = count_down;
  unmark = unmark;
  drop_mark = drop_mark;
  suspend = suspend;
  suspend_mark = suspend_mark;
  suspend_proc = suspend_proc;
  resume = resume;
  swap_newest = swap_newest;
  swap_oldest = swap_oldest;
  enter = enter;
  leave = leave;
}
