-- What stays of residuals and outcomes as a world changes.
use Rattle.std.proofs.Common.{◌≡◌, ◌∙◌, refl, sym, ap, subst, ℕ, ◌+◌, ◌≤◌, List, [], ◌∷◌, length, map}
use Rattle.std.specs.List.{All}
use Rattle.std.specs.Prelude.{Option, None, Some, IfSome}
use Rattle.std.specs.Option.{option_map}
use Rattle.std.proofs.lemmas.List.Elements.{All-head, All-tail, All-weaker}
use Rattle.icn_value.specs.declared.val.Span.{Span}
use Rattle.icn_value.specs.declared.val.Val.{Val}
use Rattle.icn_value.specs.declared.val.Val.TheVariants.{List as ListVal, Set as SetVal, Table as TableVal, Rec as RecVal, Std as StdVal}
use Rattle.icn_value.specs.declared.item.VarRef.{VarRef}
use Rattle.icn_value.specs.declared.residual.Residual.{Residual as HeldResidual}
use Rattle.icn_value.specs.declared.residual.Residual.TheVariants.{TextBytes as HeldTextBytes, VariableBytes as HeldVariableBytes, ListItems as HeldListItems, SetMembers as HeldSetMembers, TableValues as HeldTableValues, TableKeys as HeldTableKeys, RecordFields as HeldRecordFields, FileLines as HeldFileLines, UndoAssign as HeldUndoAssign, UndoExchange as HeldUndoExchange, UndoPosition as HeldUndoPosition, Counting as HeldCounting, Sequence as HeldSequence, Balanced as HeldBalanced, Found as HeldFound, Among as HeldAmong}
use Rattle.icn_value.specs.Members.{members_of}
use Rattle.icn_value.specs.Values.{Value, Variable}
use Rattle.icn_value.specs.Store.{Setting}
use Rattle.icn_defs.specs.RowFacts.{can_hold}
use Rattle.icn_defs.specs.Rows.{Mover, TextBytes, VariableBytes, UndoAssign, UndoExchange, Balanced, Found, Among, Gives, Suspends}
use Rattle.icn_heap.specs.Extents.{IsLive, text_in, value_in}
use Rattle.icn_heap.proofs.GrowingHeaps.{optional_kept}
use Rattle.icn_vars.specs.declared.outcome.Outcome.{Outcome as HeldOutcome}
use Rattle.icn_vars.specs.declared.outcome.Outcome.TheVariants.{Fails as HeldFails, Gives as HeldGives, Suspends as HeldSuspends}
use Rattle.icn_vars.specs.declared.outcome.Halt.{Halt}
use Rattle.icn_vars.specs.declared.outcome.Halt.TheVariants.{Error as ErrorHalt, Ends as EndsHalt, ReadFault, WriteFault, FileFault, NoMemory as NoMemoryHalt}
use Rattle.icn_vars.specs.declared.stop.Stop.{Stop}
use Rattle.icn_vars.specs.declared.stop.Stop.TheVariants.{Error, NoMemory}
use Rattle.icn_vars.specs.Outcomes.{IsLiveHalt, IsLiveOutcome, IsLiveResidual, IsOld, IsSearch, OutcomeBy, ResidualBy, mover_of, outcome_in, residual_in}
use Rattle.icn_vars.specs.Stops.{IsLiveStop}
use Rattle.icn_vars.specs.Worlds.{KeepsItems, Reach, item_in, variable_in}
use Rattle.icn_vars.proofs.KeptItems.{item_kept, item_stays, variable_kept, variable_stays}

module _ {old new : Reach} (keeps : KeepsItems old new) where
  pub old_stays : (variable : VarRef) (val : Val) → IsOld old variable val → IsOld new variable val
  old_stays variable val is = record {
    live_variable = variable_stays keeps variable is.live_variable;
    live_value = keeps.extent.live val is.live_value;
    holds = (
        let one : variable_in new.extent variable ≡ variable_in old.extent variable = variable_kept keeps variable is.live_variable in
        let two : value_in new.extent val ≡ value_in old.extent val = keeps.extent.value val is.live_value in
        ap (λ v. can_hold v (value_in new.extent val)) one ∙ (ap (can_hold (variable_in old.extent variable)) two ∙ is.holds));
  }

  search_stays : (text : Span) (place last : ℕ) → IsSearch old.extent text place last → IsSearch new.extent text place last
  search_stays text place last is = record {
    of = keeps.extent.text text is.of;
    low = is.low;
    high = subst (λ bytes. last ≤ length bytes + 1) (sym (keeps.extent.bytes text is.of)) is.high;
  }

  residual_by : (rest : HeldResidual) → ResidualBy old rest → ResidualBy new rest
  residual_by (HeldTextBytes text place) is = keeps.extent.text text is
  residual_by (HeldVariableBytes variable place) is = variable_stays keeps variable is
  residual_by (HeldListItems list place) is = keeps.extent.live (ListVal list) is
  residual_by (HeldSetMembers set place) is = keeps.extent.live (SetVal set) is
  residual_by (HeldTableValues table place) is = keeps.extent.live (TableVal table) is
  residual_by (HeldTableKeys table place) is = keeps.extent.live (TableVal table) is
  residual_by (HeldRecordFields rec place) is = keeps.extent.live (RecVal rec) is
  residual_by (HeldFileLines file) is = keeps.extent.live (StdVal file) is
  residual_by (HeldUndoAssign variable val) is = old_stays variable val is
  residual_by (HeldUndoExchange mover left right old_left old_right) is = (old_stays left old_left is.0, old_stays right old_right is.1)
  residual_by (HeldUndoPosition place) is = is
  residual_by (HeldCounting given last step) is = tt
  residual_by (HeldSequence given step) is = tt
  residual_by (HeldBalanced wanted opening closing text place last) is = search_stays text place last is
  residual_by (HeldFound wanted text place last) is = (keeps.extent.text wanted is.0, search_stays text place last is.1)
  residual_by (HeldAmong wanted text place last) is = search_stays text place last is

  pub residual_stays : (rest : HeldResidual) → IsLiveResidual old rest → IsLiveResidual new rest
  residual_stays rest is = record { live = residual_by rest is.live }

  pub residuals_stay : (rests : List HeldResidual) → All (IsLiveResidual old) rests → All (IsLiveResidual new) rests
  residuals_stay rests are = All-weaker (IsLiveResidual old) (IsLiveResidual new) residual_stays rests are

  same_exchange : (mover : Mover) {x x' y y' : Variable} {v v' w w' : Value} → x' ≡ x → y' ≡ y → v' ≡ v → w' ≡ w
      → UndoExchange mover x' y' v' w' ≡ UndoExchange mover x y v w
  same_exchange mover a b c d = cc

  same_residual_by : (rest : HeldResidual) → ResidualBy old rest → residual_in new.extent rest ≡ residual_in old.extent rest
  same_residual_by (HeldTextBytes text place) is = ap (λ bytes. TextBytes bytes place) (keeps.extent.bytes text is)
  same_residual_by (HeldVariableBytes variable place) is = ap (λ v. VariableBytes v place) (variable_kept keeps variable is)
  same_residual_by (HeldListItems list place) is = refl
  same_residual_by (HeldSetMembers set place) is = refl
  same_residual_by (HeldTableValues table place) is = refl
  same_residual_by (HeldTableKeys table place) is = refl
  same_residual_by (HeldRecordFields rec place) is = refl
  same_residual_by (HeldFileLines file) is = refl
  same_residual_by (HeldUndoAssign variable val) is =
      ap (λ v. UndoAssign v (value_in new.extent val)) (variable_kept keeps variable is.live_variable)
      ∙ ap (UndoAssign (variable_in old.extent variable)) (keeps.extent.value val is.live_value)
  same_residual_by (HeldUndoExchange mover left right old_left old_right) is =
      same_exchange (mover_of mover) (variable_kept keeps left is.0.live_variable) (variable_kept keeps right is.1.live_variable)
      (keeps.extent.value old_left is.0.live_value) (keeps.extent.value old_right is.1.live_value)
  same_residual_by (HeldUndoPosition place) is = refl
  same_residual_by (HeldCounting given last step) is = refl
  same_residual_by (HeldSequence given step) is = refl
  same_residual_by (HeldBalanced wanted opening closing text place last) is =
      ap (λ bytes. Balanced (members_of wanted) (members_of opening) (members_of closing) bytes place last) (keeps.extent.bytes text is.of)
  same_residual_by (HeldFound wanted text place last) is =
      ap (λ bytes. Found bytes (text_in new.extent text) place last) (keeps.extent.bytes wanted is.0)
      ∙ ap (λ bytes. Found (text_in old.extent wanted) bytes place last) (keeps.extent.bytes text is.1.of)
  same_residual_by (HeldAmong wanted text place last) is = ap (λ bytes. Among (members_of wanted) bytes place last) (keeps.extent.bytes text is.of)

  pub residual_kept : (rest : HeldResidual) → IsLiveResidual old rest → residual_in new.extent rest ≡ residual_in old.extent rest
  residual_kept rest is = same_residual_by rest is.live

  pub residuals_kept : (rests : List HeldResidual) → All (IsLiveResidual old) rests → map (residual_in new.extent) rests ≡ map (residual_in old.extent) rests
  residuals_kept [] are = refl
  residuals_kept (first ∷ rests) are =
      let one : residual_in new.extent first ≡ residual_in old.extent first = residual_kept first (All-head (IsLiveResidual old) first rests are) in
      let more : map (residual_in new.extent) rests
      ≡ map (residual_in old.extent) rests = residuals_kept rests (All-tail (IsLiveResidual old) first rests are) in
      cc

  outcome_by : (outcome : HeldOutcome) → OutcomeBy old outcome → OutcomeBy new outcome
  outcome_by HeldFails is = tt
  outcome_by (HeldGives item) is = item_stays keeps item is
  outcome_by (HeldSuspends item rest) is = (item_stays keeps item is.0, residual_stays rest is.1)

  pub outcome_stays : (outcome : HeldOutcome) → IsLiveOutcome old outcome → IsLiveOutcome new outcome
  outcome_stays outcome is = record { live = outcome_by outcome is.live }

  same_outcome_by : (setting : Setting) (outcome : HeldOutcome) → OutcomeBy old outcome
      → outcome_in new.extent outcome setting ≡ outcome_in old.extent outcome setting
  same_outcome_by setting HeldFails is = refl
  same_outcome_by setting (HeldGives item) is = ap (λ one. Gives one setting) (item_kept keeps item is)
  same_outcome_by setting (HeldSuspends item rest) is =
      ap (λ one. Suspends one (residual_in new.extent rest) setting) (item_kept keeps item is.0)
      ∙ ap (λ one. Suspends (item_in old.extent item) one setting) (residual_kept rest is.1)

  pub outcome_kept : (setting : Setting) (outcome : HeldOutcome) → IsLiveOutcome old outcome
      → outcome_in new.extent outcome setting ≡ outcome_in old.extent outcome setting
  outcome_kept setting outcome is = same_outcome_by setting outcome is.live

  optional_stays : (offending : Option Val) → IfSome offending (IsLive old.extent) → IfSome offending (IsLive new.extent)
  optional_stays None is = tt
  optional_stays (Some val) is = keeps.extent.live val is

  pub halt_stays : (halt : Halt) → IsLiveHalt old halt → IsLiveHalt new halt
  halt_stays (ErrorHalt number offending) is = optional_stays offending is
  halt_stays (EndsHalt status) is = tt
  halt_stays ReadFault is = tt
  halt_stays WriteFault is = tt
  halt_stays FileFault is = tt
  halt_stays NoMemoryHalt is = tt

  pub stop_stays : (stop : Stop) → IsLiveStop old.extent stop → IsLiveStop new.extent stop
  stop_stays (Error number offending) is = optional_stays offending is
  stop_stays NoMemory is = tt

  -- the value that an error is about stands for the same
  pub offending_kept : (offending : Option Val) → IfSome offending (IsLive old.extent)
      → option_map (value_in new.extent) offending ≡ option_map (value_in old.extent) offending
  offending_kept offending is = optional_kept keeps.extent offending is
