-- What is of a world stays of it as the world grows, and stands for the same.
use Rattle.std.proofs.Common.{◌≡◌, ℕ, ◌+◌, ◌<◌, ◌≤◌, List, [], ◌∷◌, length, slice_index, sym, ap, ◌∙◌, subst, arith}
use Rattle.icn_value.specs.declared.val.Val.{Val}
use Rattle.icn_value.specs.declared.val.Val.TheVariants.{List as ListVal, Set as SetVal, Table as TableVal, Rec as RecVal, Std as StdVal}
use Rattle.icn_value.specs.declared.val.Span.{Span}
use Rattle.icn_value.specs.declared.item.Root.{Root as HeldRoot}
use Rattle.icn_value.specs.declared.item.Root.TheVariants.{Global as HeldGlobal, Static as HeldStatic, Local as HeldLocal, Element as HeldElement, Field as HeldField, Key as HeldKey, Keyword as HeldKeyword}
use Rattle.icn_value.specs.declared.item.VarRef.{VarRef}
use Rattle.icn_value.specs.declared.item.VarRef.TheVariants.{Whole as HeldWhole, Part as HeldPart}
use Rattle.icn_value.specs.declared.item.Item.{Item as HeldItem}
use Rattle.icn_value.specs.declared.item.Item.TheVariants.{Val as HeldVal, Var as HeldVar}
use Rattle.icn_value.specs.declared.item.Pair.{Pair as HeldPair}
use Rattle.icn_value.specs.declared.residual.Residual.{Residual as HeldResidual}
use Rattle.icn_value.specs.declared.residual.Residual.TheVariants.{TextBytes as HeldTextBytes, VariableBytes as HeldVariableBytes, ListItems as HeldListItems, SetMembers as HeldSetMembers, TableValues as HeldTableValues, TableKeys as HeldTableKeys, RecordFields as HeldRecordFields, FileLines as HeldFileLines, UndoAssign as HeldUndoAssign, UndoExchange as HeldUndoExchange, UndoPosition as HeldUndoPosition, Counting as HeldCounting, Sequence as HeldSequence, Balanced as HeldBalanced, Found as HeldFound, Among as HeldAmong}
use Rattle.icn_value.specs.Values.{Variable}
use Rattle.icn_defs.specs.RowFacts.{can_hold}
use Rattle.icn_heap.specs.Extents.{text_in, value_in}
use Rattle.icn_vars.specs.Worlds.{Reach, IsLiveRoot, IsLiveVariable, IsLiveItem, KeepsItems, variable_in}
use Rattle.icn_vars.specs.Outcomes.{IsSearch, IsOld, IsLiveResidual}
use Rattle.icn_frames.specs.declared.layout.Why.{Why}
use Rattle.icn_frames.specs.declared.layout.Why.TheVariants.{Alt, Op, Scan, Escan, Proc}
use Rattle.icn_frames.specs.declared.layout.Cell.{Cell}
use Rattle.icn_frames.specs.declared.layout.Cell.TheVariants.{Base, Call, Local, Mark, Limit, Suspension, Operand}
use Rattle.icn_frames.specs.Stacks.{FlatStack}
use Rattle.icn_code.specs.Codes.{Tables}
use Rattle.icn_control.specs.LiveStacks.{with_locals, IsLivePair, IsLiveWhy, locals_at, AreLive, IsLiveStack}
use Rattle.icn_control.specs.StackViews.{stack_in}
use Rattle.icn_control.proofs.SameReadings as read

-- Items

root_stays : (old new : Reach) (n : ℕ) (root : HeldRoot) → KeepsItems old new → IsLiveRoot (with_locals n old) root → IsLiveRoot (with_locals n new) root
root_stays old new n (HeldGlobal place) k l = record { live = subst (λ (c : ℕ). place < c) (sym k.globals) l.live }
root_stays old new n (HeldStatic place) k l = record { live = subst (λ (c : ℕ). place < c) (sym k.statics) l.live }
root_stays old new n (HeldLocal place) k l = record { live = l.live }
root_stays old new n (HeldElement list number) k l = record { live = k.extent.live (ListVal list) l.live }
root_stays old new n (HeldField rec place) k l =
    let within = l.live.1 in
    let more : slice_index old.fields rec ≤ slice_index new.fields rec = k.fields.more rec in
    let there : place < slice_index new.fields rec = omega arith in
    record { live = (k.extent.live (RecVal rec) l.live.0, there) }
root_stays old new n (HeldKey table key) k l = record { live = (k.extent.live (TableVal table) l.live.0, k.extent.live key l.live.1) }
root_stays old new n (HeldKeyword word) k l = record { live = tt }

pub variable_stays : (old new : Reach) (n : ℕ) (variable : VarRef) → KeepsItems old new → IsLiveVariable (with_locals n old) variable
    → IsLiveVariable (with_locals n new) variable
variable_stays old new n (HeldWhole root) k l = record { live = root_stays old new n root k l.live }
variable_stays old new n (HeldPart root place len) k l = record { live = (root_stays old new n root k l.live.0, l.live.1) }

pub item_stays : (old new : Reach) (n : ℕ) (item : HeldItem) → KeepsItems old new → IsLiveItem (with_locals n old) item → IsLiveItem (with_locals n new) item
item_stays old new n (HeldVal val) k l = record { live = k.extent.live val l.live }
item_stays old new n (HeldVar variable) k l = record { live = variable_stays old new n variable k l.live }

-- Residuals

old_stays : (old new : Reach) (n : ℕ) (variable : VarRef) (val : Val) → KeepsItems old new → IsOld (with_locals n old) variable val
    → IsOld (with_locals n new) variable val
old_stays old new n variable val k l =
    let one : variable_in new.extent variable ≡ variable_in old.extent variable = read.variable_same old new.extent k.extent.value k.extent.bytes n variable l.live_variable in
    let two : value_in new.extent val ≡ value_in old.extent val = k.extent.value val l.live_value in
    record {
      live_variable = variable_stays old new n variable k l.live_variable;
      live_value = k.extent.live val l.live_value;
      holds = ap (λ (w : Variable). can_hold w (value_in new.extent val)) one ∙ ap (can_hold (variable_in old.extent variable)) two ∙ l.holds;
    }

search_stays : (old new : Reach) (text : Span) (place last : ℕ) → KeepsItems old new → IsSearch old.extent text place last → IsSearch new.extent text place last
search_stays old new text place last k l =
    let same : length (text_in new.extent text) ≡ length (text_in old.extent text) = ap length (k.extent.bytes text l.of) in
    let high : last ≤ length (text_in new.extent text) + 1 = omega (arith, same, l.high) in
    record { of = k.extent.text text l.of; low = l.low; high = high }

residual_stays : (old new : Reach) (n : ℕ) (rest : HeldResidual) → KeepsItems old new → IsLiveResidual (with_locals n old) rest
    → IsLiveResidual (with_locals n new) rest
residual_stays old new n (HeldTextBytes text place) k l = record { live = k.extent.text text l.live }
residual_stays old new n (HeldVariableBytes variable place) k l = record { live = variable_stays old new n variable k l.live }
residual_stays old new n (HeldListItems list place) k l = record { live = k.extent.live (ListVal list) l.live }
residual_stays old new n (HeldSetMembers set place) k l = record { live = k.extent.live (SetVal set) l.live }
residual_stays old new n (HeldTableValues table place) k l = record { live = k.extent.live (TableVal table) l.live }
residual_stays old new n (HeldTableKeys table place) k l = record { live = k.extent.live (TableVal table) l.live }
residual_stays old new n (HeldRecordFields rec place) k l = record { live = k.extent.live (RecVal rec) l.live }
residual_stays old new n (HeldFileLines file) k l = record { live = k.extent.live (StdVal file) l.live }
residual_stays old new n (HeldUndoAssign variable val) k l = record { live = old_stays old new n variable val k l.live }
residual_stays old new n (HeldUndoExchange mover left right old_left old_right) k l =
    record { live = (old_stays old new n left old_left k l.live.0, old_stays old new n right old_right k l.live.1) }
residual_stays old new n (HeldUndoPosition position) k l = record { live = l.live }
residual_stays old new n (HeldCounting given last step) k l = record { live = tt }
residual_stays old new n (HeldSequence given step) k l = record { live = tt }
residual_stays old new n (HeldBalanced wanted opening closing text place last) k l = record { live = search_stays old new text place last k l.live }
residual_stays old new n (HeldFound wanted text place last) k l =
    record { live = (k.extent.text wanted l.live.0, search_stays old new text place last k l.live.1) }
residual_stays old new n (HeldAmong wanted text place last) k l = record { live = search_stays old new text place last k l.live }

-- Cells

pair_stays : (old new : Reach) (pair : HeldPair) → KeepsItems old new → IsLivePair old.extent pair → IsLivePair new.extent pair
pair_stays old new pair k l =
    let same : length (text_in new.extent pair.subject) ≡ length (text_in old.extent pair.subject) = ap length (k.extent.bytes pair.subject l.subject) in
    let high : pair.position ≤ length (text_in new.extent pair.subject) + 1 = omega (arith, same, l.high) in
    record { subject = k.extent.text pair.subject l.subject; low = l.low; high = high }

why_stays : (old new : Reach) (n : ℕ) (why : Why) → KeepsItems old new → IsLiveWhy (with_locals n old) why → IsLiveWhy (with_locals n new) why
why_stays old new n Alt k l = tt
why_stays old new n (Op residual) k l = residual_stays old new n residual k l
why_stays old new n (Scan pair) k l = pair_stays old new pair k l
why_stays old new n Escan k l = tt
why_stays old new n Proc k l = tt

pub cells_stay : (t : Tables) (old new : Reach) (n : ℕ) (s : List Cell) → KeepsItems old new → AreLive t old n s → AreLive t new n s
cells_stay t old new n [] k l = tt
cells_stay t old new n (Operand item ∷ s) k l = (item_stays old new n item k l.0, cells_stay t old new n s k l.1)
cells_stay t old new n (Local value ∷ s) k l = (k.extent.live value l.0, cells_stay t old new n s k l.1)
cells_stay t old new n (Base proc locals ∷ s) k l = (l.0, cells_stay t old new 0 s k l.1)
cells_stay t old new n (Call proc locals level r place ∷ s) k l = (l.0, (l.1.0, (l.1.1.0, cells_stay t old new (locals_at r s) s k l.1.1.1)))
cells_stay t old new n (Mark label changed r ∷ s) k l = (l.0, cells_stay t old new (locals_at r s) s k l.1)
cells_stay t old new n (Limit count r ∷ s) k l = (l.0, (l.1.0, cells_stay t old new (locals_at r s) s k l.1.1))
cells_stay t old new n (Suspension why r place ∷ s) k l = (why_stays old new (locals_at r s) why k l.0, (l.1.0, cells_stay t old new (locals_at r s) s k l.1.1))

-- a stack of the world before is one of the world after
pub stack_stays : (t : Tables) (old new : Reach) (m : FlatStack) → KeepsItems old new → IsLiveStack t old m → IsLiveStack t new m
stack_stays t old new m k l = record { root = l.root; cells = cells_stay t old new (locals_at m.registers m.cells) m.cells k l.cells }

-- and it stands for the same stack
pub stack_same : (t : Tables) (old new : Reach) (m : FlatStack) → KeepsItems old new → IsLiveStack t old m → stack_in new.extent m ≡ stack_in old.extent m
stack_same t old new m k l = read.stack_same old new.extent k.extent.value k.extent.bytes t m l
