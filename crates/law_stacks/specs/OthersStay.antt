-- What an instruction that passes no control to another co-expression leaves of the co-expressions.
use Rattle.std.specs.Prelude.{◌≡◌, ◌⊎◌, ℕ, zero, suc, Bool, true, false, List, [], ◌∷◌, ◌++◌, Some, None, slice_get}
use Rattle.icn_text.specs.declared.op.Op.TheVariants as Ops
use Rattle.icn_value.specs.Values.{Value}
use Rattle.icn_code.specs.declared.instr.Instr.{Instr}
use Rattle.icn_code.specs.declared.instr.Instr.TheVariants as Instrs
use Rattle.icn_run.specs.Calls.{Calls, MarkDrop, NoMark, Goes, Repeats, Outside}
use Rattle.icn_run.specs.Step.{Program, Coexp, Fresh, Store, State, running, failing, hopping, over, stuck, instruction_at, is_create_body, step}

-- an activation, a result of a co-expression, or its end
abbrev pub is_transfer : Instr → Bool
is_transfer Instrs.Coact = true
is_transfer Instrs.Coret = true
is_transfer Instrs.Cofail = true
is_transfer instr = false

-- a co-expression that was just made with these values, for this procedure and address, and that nothing has entered
abbrev pub IsNew : {K : Type 0} → List Value → ℕ → ℕ → Coexp K → Type 0
IsNew values proc address coexp =
    coexp ≡ record { status = Fresh; activator = zero; values = values; proc = proc; address = address }

-- what is made again from one that is there: with the values, the procedure and the address of its creation
pub record IsMadeAgain {K : Type 0} (coexps : List (Coexp K)) (new : Coexp K) : Type 0 where
  pub number : ℕ
  pub old : Coexp K
  pub there : slice_get coexps number ≡ Some old
  pub again : IsNew old.values old.proc old.address new

-- The co-expression that an instruction may add: `create` one with the present locals, at the address behind itself, refreshing one that is made again, and
-- any other instruction none.
abbrev pub Adds : {K M : Type 0} → Calls K M → Instr → M → Store K → Coexp K → Type 0
Adds C (Instrs.Create label) m st new = IsNew (C.locals m) (C.proc m) (C.address m) new
Adds C (Instrs.Op Ops.Refresh) m st new = IsMadeAgain st.coexps new
Adds C instr m st new = ⊥

-- failing adds none
abbrev pub AddsNone : {K : Type 0} → Coexp K → Type 0
AddsNone new = ⊥

-- the same one is active, and each has the stack, the activator and the status that it had; at most one was added, one of these
pub record Stay {K : Type 0} (IsAdded : Coexp K → Type 0) (before after : Store K) : Type 0 where
  pub active : after.active ≡ before.active
  pub coexps : (after.coexps ≡ before.coexps)
      ⊎ ((new : Coexp K) × IsAdded new × (after.coexps ≡ before.coexps ++ new ∷ []))

-- a state that the active one goes on in
abbrev pub StayIn : {K M : Type 0} → (Coexp K → Type 0) → Store K → State K M → Type 0
StayIn IsAdded before (running m after) = Stay IsAdded before after
StayIn IsAdded before (failing m after) = Stay IsAdded before after
StayIn IsAdded before (hopping m after) = ⊥
StayIn IsAdded before (over ending outside) = Unit {0}
StayIn IsAdded before stuck = Unit {0}

-- failure finds a suspension, or a mark, or a procedure that is no create body
abbrev pub is_no_mark : {M : Type 0} → MarkDrop M → Bool
is_no_mark NoMark = true
is_no_mark (Goes m) = false
is_no_mark (Repeats m) = false
is_no_mark (Outside m) = false

-- a create body is over: nothing comes back, no mark is open, and what runs is a create body
pub record EndsBody {K M : Type 0} (C : Calls K M) (m : M) (st : Store K) : Type 0 where
  pub nothing_comes_back : C.resume m ≡ None
  pub no_mark : is_no_mark (C.drop_mark m) ≡ true
  pub in_body : is_create_body C m st ≡ true

-- Of both machines: an instruction that is no transfer leaves the others as they were, and so does failure that does not end a create body. The address of
-- the stack is that of the next instruction when an instruction is done.
pub record OthersStay {K M : Type 0} (C : Calls K M) (P : Program) : Type 0 where
  pub instructions : (m : M) (st : Store K) (instr : Instr) → instruction_at C P m ≡ Some instr
      → is_transfer instr ≡ false
      → StayIn (Adds C instr (C.go (suc (C.address m)) m) st) st (step C P (running m st))
  pub failure : (m : M) (st : Store K) → (EndsBody C m st → ⊥) → StayIn AddsNone st (step C P (failing m st))
