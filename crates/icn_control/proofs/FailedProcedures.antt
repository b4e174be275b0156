-- The end of a procedure that fails.
use Rattle.std.proofs.Common.{◌≡◌, Bool, true, false, ◌&&◌, not, if◌then◌else◌, Option, Some, None, refl, sym, ap, ◌∙◌}
use Rattle.icn_heap.specs.Extents.{Extent}
use Rattle.icn_frames.specs.Stacks as held
use Rattle.icn_frames.specs.Stacks.{FlatStack}
use Rattle.law_frames.proofs.CallsRead.{is_base_read}
use Rattle.icn_code.specs.declared.instr.Instr.TheVariants as Instrs
use Rattle.icn_code.specs.Codes.{Tables}
use Rattle.icn_run.specs.Rows.{Done}
use Rattle.icn_run.specs.Calls as calls
use Rattle.icn_run.specs.Stacks.{Frames, flat}
use Rattle.icn_run.specs.Step.{State, Store, failing, over_with, stuck, proc_fails, swapped_back, all_left, pair_now, is_main}
use Rattle.icn_control.specs.StackViews.{instruction_state, stack_in, reading_of}
use Rattle.icn_control.proofs.ReturnSteps.{leaves_none}

active_left : (o : Option (calls.Pair × Frames)) (st : Store Frames) → (swapped_back o st).active ≡ st.active
active_left None st = refl
active_left (Some swap) st = refl

-- it is the end of the procedure, as a create body, which has no such end, has no caller either
pub pfail_is : (all : Extent) (m : FlatStack) (tables : Tables) (st : Store Frames)
    → instruction_state all tables Instrs.Pfail m st ≡ proc_fails flat (stack_in all m) st
pfail_is all m tables st = by_base (held.is_base m) refl
  where
    by_main : (main : Bool) → is_main st.active ≡ main → held.is_base m ≡ true
        → (if (true && not (is_main st.active)) then stuck else proc_fails flat (stack_in all m) st) ≡ proc_fails flat (stack_in all m) st
    by_main true a e = ap (λ (x : Bool). if (true && not x) then stuck else proc_fails flat (stack_in all m) st) a
    by_main false a e =
        let left : Store Frames = all_left flat (stack_in all m) st in
        let F : Bool → State Frames Frames = λ x. if x then over_with Done left.world left.outside else stuck in
        ap (λ (x : Bool). if (true && not x) then stuck else proc_fails flat (stack_in all m) st) a
        ∙ sym (leaves_none all m e failing left ∙ ap F (ap is_main (active_left (flat.swap_oldest (pair_now st) (stack_in all m)) st) ∙ a))

    by_base : (base : Bool) → held.is_base m ≡ base → instruction_state all tables Instrs.Pfail m st ≡ proc_fails flat (stack_in all m) st
    by_base false e =
        ap (λ (x : Bool). if (x && not (is_main st.active)) then stuck else proc_fails flat (stack_in all m) st) (is_base_read (reading_of all) m ∙ e)
    by_base true e =
        ap (λ (x : Bool). if (x && not (is_main st.active)) then stuck else proc_fails flat (stack_in all m) st) (is_base_read (reading_of all) m ∙ e)
        ∙ by_main (is_main st.active) refl e
