-- States of two machines that are the same, but for what their stacks are made of.
use Rattle.std.specs.Prelude.{◌≡◌, ◌≢◌, ℕ, suc, true, List, [], ◌∷◌, Option, Some, None}
use Rattle.icn_code.specs.declared.instr.Instr.{Instr}
use Rattle.icn_code.specs.declared.instr.Instr.TheVariants as Instrs
use Rattle.std.specs.Prelude.{slice_get}
use Rattle.icn_run.specs.Rows.{Value, Item, Val, Setting, Names, Outside, Residual, Outcome, Gives, Error, apply, again, list_row, record_row, coexpression_row, text_row, words_row, Ending}
use Rattle.icn_defs.specs.StepRows.{OperationOrFunction}
use Rattle.icn_defs.specs.Errors.{ends_run}
use Rattle.icn_defs.specs.KeptSizes.{KeepsIn}
use Rattle.icn_run.specs.Calls.{Calls}
use Rattle.icn_run.specs.Step.{Program, Status, Fresh, Active, Waiting, Exhausted, Coexp, Store, State, running, failing, hopping, over, stuck, instrs_of, instruction_at}
use Rattle.law_stacks.specs.AgreeingMachines.{Agrees}

-- A mark with this label, or with none, stands at the address.
abbrev pub mark_of : Option ℕ → Instr
mark_of (Some label) = Instrs.Mark label
mark_of None = Instrs.Mark0

-- the instruction at this address of a procedure opens a mark with this label, or with none
abbrev pub Opens : Program → ℕ → ℕ → Option ℕ → Type 0
Opens P proc address label = slice_get (instrs_of P proc) address ≡ Some (mark_of label)

-- a label is to be set, and the stack lacks what that wants
abbrev pub IsLacking : {K M : Type 0} → Calls K M → Program → (M → Type 0) → State K M → Type 0
IsLacking C P Lacks (running m st) =
    (label : ℕ) × (instruction_at C P m ≡ Some (Instrs.Chfail label)) × Lacks (C.go (suc (C.address m)) m)
IsLacking C P Lacks state = ⊥

-- it gives a value, or is an error that ends the run
abbrev pub IsMade : Outcome → Type 0
IsMade (Gives (Val value) seen) = Unit {0}
IsMade (Error number value seen) = ends_run number seen.world.error ≡ true
IsMade outcome = ⊥

-- Rows keep the number of locals and the limits, and a list is made or an error that ends the run.
pub record RowsKeep : Type 0 where
  pub applied : (names : Names) (what : OperationOrFunction) (items : List Item) (at : Setting)
      → KeepsIn at (apply names what items at)
  pub resumed : (residual : Residual) (at : Setting) → KeepsIn at (again residual at)
  pub listed : (values : List Value) (at : Setting) → KeepsIn at (list_row values at)
  pub recorded : (kind : ℕ) (values : List Value) (at : Setting) → KeepsIn at (record_row kind values at)
  pub created : (locals : ℕ) (at : Setting) → KeepsIn at (coexpression_row locals at)
  pub scanned : (value : Value) (at : Setting) → KeepsIn at (text_row value at)
  pub list_made : (values : List Value) (at : Setting) → IsMade (list_row values at)
  pub words_made : (words : List (List ℕ)) (at : Setting) → IsMade (words_row words at)
  pub worded : (words : List (List ℕ)) (at : Setting) → KeepsIn at (words_row words at)

-- two co-expressions stand alike; where both wait, their stacks are related
abbrev pub SameStatus : {K' K : Type 0} → (K' → K → Type 0) → Status K' → Status K → Type 0
SameStatus A Fresh Fresh = Unit {0}
SameStatus A Active Active = Unit {0}
SameStatus A (Waiting k') (Waiting k) = A k' k
SameStatus A Exhausted Exhausted = Unit {0}
SameStatus A s' s = ⊥

-- Two co-expressions are the same, but for what their stacks are made of
pub data SameCoexp {K' K : Type 0} (A : K' → K → Type 0) : Coexp K' → Coexp K → Type 0 where
  alike : (s' : Status K') (s : Status K) (a : ℕ) (vs : List Value) (p q : ℕ) → SameStatus A s' s
      → SameCoexp A (record { status = s'; activator = a; values = vs; proc = p; address = q })
      (record { status = s; activator = a; values = vs; proc = p; address = q })

-- co-expressions one by one, by a relation of the stacks that wait for each number
abbrev pub Rests : {K' K : Type 0} → (ℕ → K' → K → Type 0) → List (Coexp K') → List (Coexp K) → Type 0
Rests A [] [] = Unit {0}
Rests A (c' ∷ ks') (c ∷ ks) = SameCoexp (A 0) c' c × Rests (λ i. A (suc i)) ks' ks
Rests A ks' ks = ⊥

-- a store with other co-expressions
abbrev pub lift : {K' K : Type 0} → Store K → List (Coexp K') → Store K'
lift st ks' = record {
  world = st.world;
  outside = st.outside;
  turns = st.turns;
  begun = st.begun;
  coexps = ks';
  active = st.active;
  names = st.names;
}

module _ {K M K' M' : Type 0} (C' : Calls K' M') (C : Calls K M) (P : Program) (Lacks : M' → Type 0)
    (Lost : Type 0) (G : Agrees C' C (Opens P) Lacks) where
  -- stack s runs, and the others wait
  pub record Ready (s : ℕ) (m' : M') (m : M) (ks' : List (Coexp K')) (ks : List (Coexp K)) : Type 0 where
    pub world : G.W
    pub here : G.Now world s m' m
    pub rests : Rests (λ i k' k. (i ≢ s) × G.Away world i k' k) ks' ks

  -- no stack runs
  pub record Idle (m' : M') (ks' : List (Coexp K')) (ks : List (Coexp K)) : Type 0 where
    pub world : G.W
    pub holds : G.Holds world m'
    pub rests : Rests (λ i k' k. G.Away world i k' k) ks' ks

  -- where something lacked, the second machine may be in any state
  pub data Same : State K' M' → State K M → Type 0 where
    same_running : {m' : M'} {m : M} (st : Store K) (ks' : List (Coexp K'))
        → Ready st.active m' m ks' st.coexps → Same (running m' (lift st ks')) (running m st)
    same_failing : {m' : M'} {m : M} (st : Store K) (ks' : List (Coexp K'))
        → Ready st.active m' m ks' st.coexps → Same (failing m' (lift st ks')) (failing m st)
    same_hopping : {m' : M'} {m : M} (st : Store K) (ks' : List (Coexp K')) → Idle m' ks' st.coexps
        → Same (hopping m' (lift st ks')) (hopping m st)
    same_over : {ending : Ending} {outside : Outside} → Same (over ending outside) (over ending outside)
    same_stuck : Same stuck stuck
    lost : {s : State K M} → Lost → Same stuck s
