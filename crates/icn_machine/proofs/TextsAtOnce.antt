-- Texts that are made at once, as turns.
use Rattle.std.proofs.Common.{◌≡◌, ◌∙◌, ◌+◌, ◌++◌, refl, sym, ap, subst, ℕ, true, false, nat_le, nat_lt, Bool, List, [], ◌∷◌, length, map, Some, Ok, Err}
use Rattle.std.specs.Prelude.{if◌then◌else◌}
use Rattle.std.proofs.lemmas.List.Elements.{All-head, All-tail}
use Rattle.icn_text.specs.declared.func.Func.{Func}
use Rattle.icn_text.specs.declared.op.Op.TheVariants as Ops
use Rattle.icn_value.specs.Changes.{ChangedHeap, charged_strings}
use Rattle.icn_value.specs.declared.full.Full.{Full}
use Rattle.icn_value.specs.declared.full.Full.TheVariants.{Strings}
use Rattle.icn_value.specs.declared.item.Item.{Item}
use Rattle.icn_value.specs.declared.item.Item.TheVariants as Items
use Rattle.icn_value.specs.declared.val.Span.{Span}
use Rattle.icn_value.specs.declared.val.Val.{Val}
use Rattle.icn_value.specs.declared.val.Val.TheVariants as Vals
use Rattle.icn_value.specs.Store.{Heap, Names, Outside}
use Rattle.icn_value.specs.Values as values
use Rattle.icn_value.specs.Values.{Value}
use Rattle.icn_defs.specs.Applying.{function_of}
use Rattle.icn_defs.specs.Arguments.{string}
use Rattle.icn_defs.specs.Arities.{arity}
use Rattle.icn_defs.specs.ReadAndAssign.{the_value}
use Rattle.icn_defs.specs.Rows.{Outcome, Row, builds, costs_texts}
use Rattle.icn_heap.specs.Extents.{Extent, IsText, text_in, value_in}
use Rattle.icn_heap.specs.Heaps.{extent_of}
use Rattle.icn_vars.specs.declared.world.World.{World}
use Rattle.icn_vars.specs.Worlds.{IsLiveItem, item_in, reach_of, setting_of, world_of}
use Rattle.icn_frames.specs.CalledWith.{DropsWith, operands_above}
use Rattle.icn_frames.specs.declared.layout.Cell.{Cell}
use Rattle.icn_frames.specs.declared.layout.Cell.TheVariants.{Operand}
use Rattle.icn_frames.specs.Stacks as held
use Rattle.icn_frames.specs.Stacks.{FlatStack}
use Rattle.icn_code.specs.Codes.{Tables}
use Rattle.icn_code.specs.declared.instr.Instr.{Instr}
use Rattle.icn_code.specs.declared.instr.Instr.TheVariants as Instrs
use Rattle.icn_run.specs.Stacks.{Frames, flat}
use Rattle.icn_run.specs.Step.{Store, outcome}
use Rattle.icn_control.specs.LiveStacks.{IsLiveStack, with_locals}
use Rattle.icn_control.specs.StackViews.{instruction_state, stack_in}
use Rattle.icn_control.specs.TakenOperands.{take_operands}
use Rattle.icn_control.specs.declared.machine.RunState.TheVariants as RunStates
use Rattle.icn_control.proofs.LiveCalls.{own_locals}
use Rattle.icn_control.proofs.OperandValues.{live_locals}
use Rattle.icn_control.proofs.TakenOperandSteps.{live_taken}
use Rattle.icn_machine.specs.declared.at_once.AtOnce.{AtOnce}
use Rattle.icn_machine.specs.declared.at_once.AtOnce.TheVariants as AtOnces
use Rattle.icn_machine.specs.MadeTexts.{GivesText, MakesText, text_outcome}
use Rattle.icn_machine.specs.PlainFunctions.{CallsFunction, HasValue, HasValueBelow}
use Rattle.icn_machine.specs.PlainScans.{GivesSo}
use Rattle.icn_machine.specs.TurnsAtOnce.{CallsAsTurn, DoesAsTurn, a_turn_later}
use Rattle.icn_machine.proofs.GiveSteps.{gives_given, gives_live, gives_named}
use Rattle.icn_machine.proofs.PerformSteps.{here_is}
use Rattle.icn_machine.proofs.PlainFunctionSteps.{drops_taken, told_live, value_is}
use Rattle.icn_machine.proofs.PlainOperationSteps.{row_performed}
use Rattle.icn_machine.proofs.RowsAtOnce.{Continues, IsOf, calls_lack, calls_row, does_lack, does_row}

-- A charge

paid : (t : Bool) (left made : Heap) (why : Full) → (let r : ChangedHeap = if t then Ok left else Err why in r) ≡ Ok made → left ≡ made
paid true left made why is = cc
paid false left made why is = cc

-- leaves the limits and the counts of results
pub charged_counts : (old new : Heap) (count : ℕ) → charged_strings old count ≡ Ok new → (new.bounds ≡ old.bounds) × (new.coexps ≡ old.coexps)
unfolding charged_strings
charged_counts old new count is =
    let left : Heap = record old { strings = old.strings + count } in
    let same : left ≡ new = paid (nat_le (old.strings + count) old.bounds.strings) left new (Strings old.strings old.bounds.strings) is in
    (sym (ap (λ (h : Heap). h.bounds) same), sym (ap (λ (h : Heap). h.coexps) same))

-- What is given

so_pushed : (v : World) (k n : FlatStack) (text : Span) → n ≡ held.push (Items.Val (Vals.Text text)) k → GivesSo v (text_outcome text) k n RunStates.Running
so_pushed v k n text pushed =
    let item : Item = Items.Val (Vals.Text text) in
    record {
      gives = gives_given (text_outcome text) item k n refl pushed;
      live = λ t reach l o. gives_live t reach (text_outcome text) item k n refl pushed l o;
      named = λ names seen h o. gives_named names (extent_of v.heap) seen (text_outcome text) item k n refl pushed h o;
    }

text_of_world : (v : World) (text : Span) → IsText (extent_of v.heap) text → IsOf v (text_outcome text)
text_of_world v text live = λ n. record { live = record { live = record { live = live } } }

module _ (tables t : Tables) (w v : World) (m k n : FlatStack) (text : Span) (row : Row) (here_live : IsLiveStack t (reach_of w []) k)
    (back : held.set_locals (held.locals k) k ≡ k) (made : MakesText row w v text) where
  on : Continues w v
  on = record { kept = made.kept; counts = made.counts }

  -- an operation that makes a text
  pub text_done : (instr : Instr) (done : AtOnce) → (IsLiveStack tables (reach_of w []) m → IsLiveStack tables (reach_of w []) k)
      → ((st : Store Frames) → st.world ≡ world_of w → nat_lt st.turns st.world.heap.bounds.turns ≡ true
      → instruction_state (extent_of w.heap) tables instr m st
      ≡ outcome flat (row (setting_of st.outside w (held.locals k))) (stack_in (extent_of w.heap) k) (a_turn_later st))
      → GivesText text k n done → DoesAsTurn tables instr w m v n done
  text_done instr AtOnces.Running left performs given =
      does_row w v k n (text_outcome text) RunStates.Running t here_live back on (text_of_world v text made.live) (so_pushed v k n text given) tables instr m
      (λ names. row) left performs
      (λ names outside. made.comes outside (held.locals k) (live_locals t (reach_of w []) k here_live))
  text_done instr AtOnces.Failing left performs given = absurd given
  text_done instr AtOnces.Hopping left performs given = absurd given
  text_done instr AtOnces.Over left performs given = absurd given
  text_done instr AtOnces.AtBound left performs given = absurd given
  text_done instr AtOnces.NoMemory left performs given = does_lack tables instr w v m n
  text_done instr AtOnces.Not left performs given = absurd given

  -- a function that does
  pub text_called : (count : ℕ) (vs : List Val) (func : Func) (d : DropsWith count m k) (done : AtOnce)
      → CallsFunction tables w.globals.items m count vs func → IsLiveStack t (reach_of w []) m
      → ((names : Names) (outside : Outside) → function_of names func (map (value_in (extent_of w.heap)) vs) (setting_of outside w (held.locals k))
      ≡ row (setting_of outside w (held.locals k)))
      → GivesText text k n done → CallsAsTurn tables count w m v n done
  text_called count vs func d AtOnces.Running c l is given =
      calls_row w v k n (text_outcome text) RunStates.Running t here_live back on (text_of_world v text made.live) (so_pushed v k n text given) tables count vs
      func m d c l
      (λ names outside. is names outside ∙ made.comes outside (held.locals k) (live_locals t (reach_of w []) k here_live))
  text_called count vs func d AtOnces.Failing c l is given = absurd given
  text_called count vs func d AtOnces.Hopping c l is given = absurd given
  text_called count vs func d AtOnces.Over c l is given = absurd given
  text_called count vs func d AtOnces.AtBound c l is given = absurd given
  text_called count vs func d AtOnces.NoMemory c l is given = calls_lack tables count w v m n
  text_called count vs func d AtOnces.Not c l is given = absurd given

-- Two texts that are put together

record One (items : List Item) : Type 0 where
  item : Item
  is : items ≡ item ∷ []

one_of : (items : List Item) → length items ≡ 1 → One items
one_of [] many = cc
one_of (item ∷ []) many = record { item = item; is = refl }
one_of (item ∷ other ∷ items) many = cc

module _ (tables : Tables) (w : World) (m k : FlatStack) (d : DropsWith 1 m k) (a b : Span)
    (first : HasValueBelow w.globals.items m 1 (Vals.Text a)) (second : HasValueBelow w.globals.items m 0 (Vals.Text b)) where
  top : One d.items
  top = one_of d.items d.many

  below_value : HasValue w.globals.items (held.locals k) d.callee (Vals.Text a)
  below_value =
      let cells : m.cells ≡ operands_above d.items (Operand d.callee ∷ k.cells) = ap (λ (x : FlatStack). x.cells) d.was in
      subst (λ (locals : List Val). HasValue w.globals.items locals d.callee (Vals.Text a)) d.locals_same (first d.callee d.items k.cells cells d.many)

  top_value : HasValue w.globals.items (held.locals k) top.item (Vals.Text b)
  unfolding top
  top_value =
      let rest : List Cell = Operand d.callee ∷ k.cells in
      let cells : m.cells ≡ operands_above [] (Operand top.item ∷ rest)
      = ap (λ (x : FlatStack). x.cells) d.was ∙ ap (λ (items : List Item). operands_above items rest) top.is in
      subst (λ (locals : List Val). HasValue w.globals.items locals top.item (Vals.Text b)) d.locals_same (second top.item [] rest cells refl)

  taken : take_operands (arity Ops.Concatenate) m ≡ Some (d.callee ∷ top.item ∷ [], k)
  unfolding top
  taken = subst (λ (items : List Item). take_operands 2 m ≡ Some (d.callee ∷ items, k)) top.is (drops_taken 1 m k d)

  pub left : (t : Tables) → IsLiveStack t (reach_of w []) m → IsLiveStack t (reach_of w []) k
  left t l = (live_taken t (reach_of w []) 2 m k (d.callee ∷ d.items) (drops_taken 1 m k d) l).rest

  -- both are of the world
  pub texts_live : (t : Tables) → IsLiveStack t (reach_of w []) m → IsText (extent_of w.heap) a × IsText (extent_of w.heap) b
  unfolding top
  texts_live t l =
      let P : Item → Type 0 = IsLiveItem (with_locals (own_locals k) (reach_of w [])) in
      let lower = live_taken t (reach_of w []) 2 m k (d.callee ∷ top.item ∷ []) taken l in
      let globals = w.sound.live_globals in (
        (told_live t w k (own_locals k) d.callee (Vals.Text a) globals lower.rest (All-head P d.callee (top.item ∷ []) lower.items_live) below_value).live,
        (told_live t w k (own_locals k) top.item (Vals.Text b) globals lower.rest
            (All-head P top.item [] (All-tail P d.callee (top.item ∷ []) lower.items_live)) top_value).live,
      )

  pub joined_row : (st : Store Frames) → st.world ≡ world_of w → nat_lt st.turns st.world.heap.bounds.turns ≡ true
      → instruction_state (extent_of w.heap) tables (Instrs.Op Ops.Concatenate) m st
      ≡ outcome flat (builds (text_in (extent_of w.heap) a ++ text_in (extent_of w.heap) b) (setting_of st.outside w (held.locals k)))
      (stack_in (extent_of w.heap) k) (a_turn_later st)
  unfolding top
  joined_row st same more =
      let all : Extent = extent_of w.heap in
      let after : Store Frames = a_turn_later st in
      let left : List ℕ = text_in all a in
      let right : List ℕ = text_in all b in
      let both : Value → Value → Row = λ v u. string v (λ s. string u (λ t. costs_texts (v ∷ u ∷ []) (builds (s ++ t)))) in
      row_performed all tables Ops.Concatenate m k (d.callee ∷ top.item ∷ []) st (λ e. cc) taken more
      ∙ ap (λ (o : Outcome). outcome flat o (stack_in all k) after)
      (value_is w k after d.callee (Vals.Text a) (λ v. the_value (item_in all top.item) (both v)) same below_value
      ∙ value_is w k after top.item (Vals.Text b) (both (values.Text left)) same top_value
      ∙ ap (builds (left ++ right)) (here_is w k after after.outside same))
