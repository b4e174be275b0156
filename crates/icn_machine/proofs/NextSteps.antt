-- The instruction that is due, and what comes of it.
use Rattle.std.proofs.Common.{◌≡◌, ◌≢◌, ◌<◌, ℕ, suc, true, false, [], length, Option, Some, None, Result, Ok, Err, refl, sym, ap, ◌∙◌, subst}
use Rattle.std.specs.Prelude.{IfOk, IsSome, slice_get}
use Rattle.std.specs.List.{All}
use Rattle.std.specs.Option.{option_map}
use Rattle.std.proofs.lemmas.Option.{slice_get_within}
use Rattle.icn_text.specs.declared.op.Op.{Op}
use Rattle.icn_text.specs.declared.op.Op.TheVariants as Ops
use Rattle.icn_defs.specs.Arities.{arity}
use Rattle.icn_value.specs.Store.{Names, Outside, bare_outside}
use Rattle.icn_value.specs.Values.{Value}
use Rattle.icn_heap.specs.Extents.{Extent, value_in}
use Rattle.icn_heap.specs.Heaps.{heap_of}
use Rattle.law_names.specs.NamedSettings.{WorldNamed}
use Rattle.law_names.specs.RowSizes.{FitSizes}
use Rattle.icn_vars.specs.declared.outcome.Halt.{Halt}
use Rattle.icn_vars.specs.declared.outcome.Halt.TheVariants as Halts
use Rattle.icn_vars.specs.Worlds.{world_of}
use Rattle.icn_frames.specs.Stacks as held
use Rattle.icn_frames.specs.Stacks.{FlatStack}
use Rattle.law_frames.proofs.CallsRead.{proc_read}
use Rattle.icn_code.specs.Codes.{Tables}
use Rattle.icn_code.specs.declared.instr.Instr.{Instr}
use Rattle.icn_code.specs.declared.instr.Instr.TheVariants as Instrs
use Rattle.icn_run.specs.Stacks.{Frames, flat}
use Rattle.icn_run.specs.Step.{State, Store, running, stuck, step, all_names, instruction, instruction_at, instrs_of, with_found}
use Rattle.law_steps.specs.StateNames.{CoexpNamed, StackNamed, StateNamed, StoreNamed}
use Rattle.law_steps.specs.KeepingNames.{MayCall, StepsKeepNames}
use Rattle.law_steps.specs.KeepingSizes.{StateFits, StepsKeepSizes, StoreFits, field_count}
use Rattle.icn_streams.proofs.CallSequences.{outside_told, told_so}
use Rattle.icn_streams.specs.Handed.{CallStreams}
use Rattle.icn_control.specs.Machines.{ComesTo, IsSoundMachine, StandsAt, does, extent, stack_of, stack_seen, store_seen}
use Rattle.icn_control.specs.Soundness.{HasItsStack, UnlessEnded}
use Rattle.icn_control.specs.StackViews.{reading_of, stack_in}
use Rattle.icn_control.specs.TakenOperands.{take_operands}
use Rattle.icn_control.specs.declared.machine.Machine.{Machine}
use Rattle.icn_control.specs.declared.machine.RunState.{RunState}
use Rattle.icn_control.specs.declared.machine.RunState.TheVariants as RunStates
use Rattle.icn_control.proofs.Halts.{unless_ended}
use Rattle.icn_instructions.specs.Groups.{group_of, group_of_op}
use Rattle.icn_instructions.specs.declared.groups.InstrGroup.TheVariants as Groups
use Rattle.icn_instructions.proofs.LackSteps.{one_there, take_there}
use Rattle.icn_machine.specs.NamedWorlds.{coexps_seen}
use Rattle.icn_machine.specs.Performing.{LeavesNamed, PerformsOn, SettlesOn, UnlessOver}
use Rattle.icn_machine.specs.Stepping.{Advances, AlwaysOver, IsDoing, IsFailing, IsKept, IsReady, IsReadyToFail, KeepsState, LacksNothing, applies_op, is_applied, is_whole}
use Rattle.icn_machine.proofs.AdvanceSteps.{performed_step}
use Rattle.icn_machine.proofs.KeptSteps.{always_next, kept_at, kept_over, next_lacks_nothing}
use Rattle.icn_machine.proofs.SettleSteps.{fit_errs, named_errs}

-- The instruction that is due

-- it stands in the procedure, as else the step would be stuck
pub instr_within : (tables : Tables) (all : Extent) (f : FlatStack) (st : Store Frames) → step flat tables (running (stack_in all f) st) ≢ stuck
    → f.address < length (instrs_of tables (held.proc f))
instr_within tables all f st d = by_instr (slice_get (instrs_of tables (flat.proc (stack_in all f))) f.address) refl
  where
    by_instr : (o : Option Instr) → slice_get (instrs_of tables (flat.proc (stack_in all f))) f.address ≡ o
        → f.address < length (instrs_of tables (held.proc f))
    by_instr (Some instr) e =
        subst (λ (p : ℕ). f.address < length (instrs_of tables p)) (proc_read (reading_of all) f)
        (slice_get_within (instrs_of tables (flat.proc (stack_in all f))) f.address instr e)
    by_instr None e =
        absurd (d (ap (λ (o : Option Instr). with_found o (λ instr. instruction flat tables instr (flat.go (suc f.address) (stack_in all f)) st)) e))

pub read_instr : (tables : Tables) (all : Extent) (f : FlatStack) (instr : Instr) → slice_get (instrs_of tables (held.proc f)) f.address ≡ Some instr
    → instruction_at flat tables (stack_in all f) ≡ Some instr
read_instr tables all f instr e = ap (λ (p : ℕ). slice_get (instrs_of tables p) f.address) (proc_read (reading_of all) f) ∙ e

-- what the step does is what the instruction does at the next place
pub step_does : (tables : Tables) (m : Frames) (instr : Instr) (st : Store Frames) → instruction_at flat tables m ≡ Some instr
    → step flat tables (running m st) ≡ instruction flat tables instr (flat.go (suc m.address) m) st
step_does tables m instr st e = ap (λ (o : Option Instr). with_found o (λ instr. instruction flat tables instr (flat.go (suc m.address) m) st)) e

-- the state is kept over every outside
pub kept_running : {K : Type 0} (tables : Tables) (m : Machine K) → KeepsState tables m RunStates.Running → (outside : Outside)
    → IsKept tables (running (stack_seen m) (store_seen tables outside m))
kept_running tables m k outside =
    kept_over tables outside (running (stack_seen m) (store_seen tables k.0 m)) (subst (λ (s : State Frames Frames). IsKept tables s) k.1.1.0 k.1.1.1)

pub never_running : {K : Type 0} (tables : Tables) (m : Machine K) → KeepsState tables m RunStates.Running → (outside : Outside)
    → step flat tables (running (stack_seen m) (store_seen tables outside m)) ≢ stuck
never_running tables m k outside = next_lacks_nothing tables (running (stack_seen m) (store_seen tables outside m)) (kept_running tables m k outside)

pub always_doing : (tables : Tables) (m : Frames) (instr : Instr) (st : Store Frames) → instruction_at flat tables m ≡ Some instr
    → IsKept tables (running m st) → AlwaysOver tables (LacksNothing tables) (instruction flat tables instr (flat.go (suc m.address) m) st)
always_doing tables m instr st e k =
    subst (λ (s : State Frames Frames). AlwaysOver tables (LacksNothing tables) s) (step_does tables m instr st e)
    (always_next tables (LacksNothing tables) (running m st) k.always)

-- What comes of it

-- an instruction that performs no row says it over every outside
pub applied_kind : (instr : Instr) → is_applied instr ≡ false → group_of instr ≢ Groups.Application
applied_kind (Instrs.Op op) e = by_op op e
  where
    by_op : (op : Op) → applies_op op ≡ false → group_of_op op ≢ Groups.Application
    by_op Ops.Refresh e = λ q. absurd (cc)
    by_op _ e = cc
applied_kind (Instrs.Field place) e = cc
applied_kind (Instrs.Invoke count) e = cc
applied_kind Instrs.Appl e = cc
applied_kind _ e = λ q. absurd (cc)

-- what touches the stack alone applies nothing
pub stack_applies_none : (instr : Instr) → group_of instr ≡ Groups.Stack → is_applied instr ≡ false
stack_applies_none (Instrs.Op op) e = by_op op e
  where
    by_op : (op : Op) → group_of_op op ≡ Groups.Stack → applies_op op ≡ false
    by_op Ops.Refresh e = refl
    by_op _ e = cc
stack_applies_none (Instrs.Field place) e = cc
stack_applies_none (Instrs.Invoke count) e = cc
stack_applies_none Instrs.Appl e = cc
stack_applies_none _ e = refl

pub no_refresh : (op : Op) → applies_op op ≡ true → op ≢ Ops.Refresh
no_refresh op e q = let same : applies_op op ≡ false = ap applies_op q in let bad : true ≡ false = sym e ∙ same in absurd (cc)

pub applied_is : (i j : Instr) → i ≡ j → is_applied i ≡ true → is_applied j ≡ true
applied_is i j e h = subst (λ (x : Instr). is_applied x ≡ true) e h

pub calls_none : (instr : Instr) → is_applied instr ≡ false → MayCall instr → ⊥
calls_none (Instrs.Invoke count) e h = cc
calls_none Instrs.Appl e h = cc
calls_none (Instrs.Op op) e h = h
calls_none (Instrs.Field place) e h = h
calls_none _ e h = h

-- no other instruction is one
pub no_other : (instr : Instr) → is_applied instr ≡ true → ((op : Op) → instr ≡ Instrs.Op op → ⊥) → ((n : ℕ) → instr ≡ Instrs.Field n → ⊥)
    → ((n : ℕ) → instr ≡ Instrs.Invoke n → ⊥) → (instr ≡ Instrs.Appl → ⊥) → ⊥
no_other (Instrs.Op op) e a b c d = a op refl
no_other (Instrs.Field n) e a b c d = b n refl
no_other (Instrs.Invoke n) e a b c d = c n refl
no_other Instrs.Appl e a b c d = d refl
no_other _ e a b c d = cc

-- what is taken is there
pub doing_not_stuck : {K : Type 0} (tables : Tables) (m : Machine K) (instr j : Instr) → instr ≡ j → IsDoing tables m instr → (outside : Outside)
    → does tables outside j m ≢ stuck
doing_not_stuck tables m instr j e d outside = subst (λ (x : Instr). does tables outside x m ≢ stuck) e ((d.always outside []).goes_on)

pub op_operands : {K : Type 0} (tables : Tables) (m : Machine K) (instr : Instr) (op : Op) → instr ≡ Instrs.Op op → IsDoing tables m instr
    → IsSome (take_operands (arity op) (stack_of m))
op_operands tables m instr op e d = take_there (extent m) (arity op) (stack_of m) _ (doing_not_stuck tables m instr (Instrs.Op op) e d bare_outside)

pub invoke_operands : {K : Type 0} (tables : Tables) (m : Machine K) (instr : Instr) (n : ℕ) → instr ≡ Instrs.Invoke n → IsDoing tables m instr
    → IsSome (take_operands (suc n) (stack_of m))
invoke_operands tables m instr n e d = take_there (extent m) (suc n) (stack_of m) _ (doing_not_stuck tables m instr (Instrs.Invoke n) e d bare_outside)

pub appl_operands : {K : Type 0} (tables : Tables) (m : Machine K) (instr : Instr) → instr ≡ Instrs.Appl → IsDoing tables m instr
    → IsSome (take_operands 2 (stack_of m))
appl_operands tables m instr e d = take_there (extent m) 2 (stack_of m) _ (doing_not_stuck tables m instr Instrs.Appl e d bare_outside)

pub field_operand : {K : Type 0} (tables : Tables) (m : Machine K) (instr : Instr) (n : ℕ) → instr ≡ Instrs.Field n → IsDoing tables m instr
    → IsSome (held.pop (stack_of m))
field_operand tables m instr n e d =
    one_there (stack_of m) (take_there (extent m) 1 (stack_of m) _ (doing_not_stuck tables m instr (Instrs.Field n) e d bare_outside))

pub names_as : {K : Type 0} (names : Names) (tables : Tables) (m : Machine K) (instr : Instr) → names ≡ all_names tables → IsDoing tables m instr
    → StackNamed names (stack_seen m)
names_as names tables m instr e d = subst (λ (n : Names). StackNamed n (stack_seen m)) (sym e) d.stack_named

pub world_names_as : {K : Type 0} (names : Names) (tables : Tables) (m : Machine K) (instr : Instr) → names ≡ all_names tables
    → IsDoing tables m instr → WorldNamed names (world_of m.world)
world_names_as names tables m instr e d = subst (λ (n : Names). WorldNamed n (world_of m.world)) (sym e) (d.store_named bare_outside).world

-- where a machine stands over some outside, or the error to which it came
abbrev pub ComesBy : {K : Type 0} → Tables → (Outside → State Frames Frames) → Machine K → Result RunState Halt → Type 0
ComesBy tables leads n result = UnlessEnded result ((was : Outside) × ((now : Outside) × ComesTo tables now (leads was) n result))

pub comes_by : {K : Type 0} (tables : Tables) (leads : Outside → State Frames Frames) (before : CallStreams) (n : Machine K) (after : CallStreams)
    (result : Result RunState Halt)
    → PerformsOn tables leads n before after result → ComesBy tables leads n result
comes_by tables leads before n after (Ok stage) p =
    let first : Outside = outside_told p.had in let told = p.meant first (told_so p.had) in (first, (told.now, told.is))
comes_by tables leads before n after (Err (Halts.Error number offending)) p =
    let first : Outside = outside_told p.had in let told = p.meant first (told_so p.had) in (first, (told.now, told.is))
comes_by tables leads before n after (Err (Halts.Ends status)) p = tt
comes_by tables leads before n after (Err Halts.ReadFault) p = tt
comes_by tables leads before n after (Err Halts.WriteFault) p = tt
comes_by tables leads before n after (Err Halts.FileFault) p = tt
comes_by tables leads before n after (Err Halts.NoMemory) p = tt

pub comes_quietly : {K : Type 0} (tables : Tables) (leads : Outside → State Frames Frames) (n : Machine K) (result : Result RunState Halt)
    → ((outside : Outside) → ComesTo tables outside (leads outside) n result) → ComesBy tables leads n result
comes_quietly tables leads n result f =
    let o : Outside = bare_outside in unless_ended result ((was : Outside) × ((now : Outside) × ComesTo tables now (leads was) n result)) (o, (o, f o))

-- where all that is kept of each state to which an instruction leads
pub ready_after : {K : Type 0} (tables : Tables) (leads : Outside → State Frames Frames) (n : Machine K) (result : Result RunState Halt)
    → ((was now : Outside) → ComesTo tables now (leads was) n result → UnlessEnded result (IsKept tables (leads was)))
    → ComesBy tables leads n result → UnlessEnded result (IsSoundMachine tables n) → HasItsStack n result → IfOk result (IsReady tables n)
ready_after tables leads n (Ok stage) kept l sound stack = record {
  sound = sound;
  stack = stack;
  kept = kept_at tables l.1.0 (leads l.0) n stage l.1.1 (kept l.0 l.1.0 l.1.1);
}
ready_after tables leads n (Err halt) kept l sound stack = tt

pub erring_after : {K : Type 0} (tables : Tables) (leads : Outside → State Frames Frames) (n : Machine K) (result : Result RunState Halt)
    → ((was now : Outside) → ComesTo tables now (leads was) n result → UnlessEnded result (IsKept tables (leads was)))
    → ComesBy tables leads n result → UnlessEnded result (IsSoundMachine tables n) → HasItsStack n result → IsReadyToFail tables n result
erring_after tables leads n (Ok stage) kept l sound stack = tt
erring_after tables leads n (Err (Halts.Error number offending)) kept l sound stack =
    (sound, (stack, (l.1.0, (leads l.0, (l.1.1, kept l.0 l.1.0 l.1.1)))))
erring_after tables leads n (Err (Halts.Ends status)) kept l sound stack = tt
erring_after tables leads n (Err Halts.ReadFault) kept l sound stack = tt
erring_after tables leads n (Err Halts.WriteFault) kept l sound stack = tt
erring_after tables leads n (Err Halts.FileFault) kept l sound stack = tt
erring_after tables leads n (Err Halts.NoMemory) kept l sound stack = tt

-- by the laws of names and sizes
pub done_keeps : {K : Type 0} (tables : Tables) → StepsKeepNames → StepsKeepSizes → (m n : Machine K) (instr : Instr) (result : Result RunState Halt)
    → (MayCall instr → ⊥) → IsDoing tables m instr
    → (was now : Outside) → ComesTo tables now (does tables was instr m) n result → UnlessEnded result (IsKept tables (does tables was instr m))
done_keeps tables names sizes m n instr result calls d was now comes =
    unless_ended result (IsKept tables (does tables was instr m)) (record {
      always = d.always was;
      named = names.instructions tables instr (stack_seen m) (store_seen tables was m) calls d.stack_named (d.store_named was);
      fits = sizes.instructions tables instr (stack_seen m) (store_seen tables was m) calls (d.fits was);
    })

-- where the call says it itself
named_by : {K : Type 0} (names : Names) (tables : Tables) (now : Outside) (state : State Frames Frames) (n : Machine K) (stage : RunState)
    → StandsAt tables now state n stage → StackNamed names (stack_seen n) → StoreNamed names (store_seen tables now n) → StateNamed names state
named_by names tables now state n RunStates.Running e h k = subst (λ (s : State Frames Frames). StateNamed names s) (sym e) (h, k)
named_by names tables now state n RunStates.Failing e h k = subst (λ (s : State Frames Frames). StateNamed names s) (sym e) (h, k)
named_by names tables now state n RunStates.Hopping e h k = subst (λ (s : State Frames Frames). StateNamed names s) (sym e.1) k
named_by names tables now state n RunStates.Over e h k = subst (λ (s : State Frames Frames). StateNamed names s) (sym e) tt
named_by names tables now state n RunStates.AtBound e h k = subst (λ (s : State Frames Frames). StateNamed names s) (sym e) tt

fits_by : {K : Type 0} (tables : Tables) (now : Outside) (state : State Frames Frames) (n : Machine K) (stage : RunState)
    → StandsAt tables now state n stage → StoreFits tables (store_seen tables now n) → StateFits tables state
fits_by tables now state n RunStates.Running e h = subst (λ (s : State Frames Frames). StateFits tables s) (sym e) h
fits_by tables now state n RunStates.Failing e h = subst (λ (s : State Frames Frames). StateFits tables s) (sym e) h
fits_by tables now state n RunStates.Hopping e h = subst (λ (s : State Frames Frames). StateFits tables s) (sym e.1) h
fits_by tables now state n RunStates.Over e h = subst (λ (s : State Frames Frames). StateFits tables s) (sym e) tt
fits_by tables now state n RunStates.AtBound e h = subst (λ (s : State Frames Frames). StateFits tables s) (sym e) tt

pub called_keeps : {K : Type 0} (names : Names) (tables : Tables) (m n : Machine K) (instr j : Instr) (result : Result RunState Halt)
    → names ≡ all_names tables → instr ≡ j → IsDoing tables m instr → LeavesNamed names n.world (stack_of n) result
    → (All (CoexpNamed names) (coexps_seen m) → All (CoexpNamed names) (coexps_seen n))
    → (FitSizes (field_count tables) (heap_of m.world.heap) → UnlessOver n.world result (FitSizes (field_count tables) (heap_of n.world.heap)))
    → (was now : Outside) → ComesTo tables now (does tables was j m) n result → UnlessEnded result (IsKept tables (does tables was j m))
called_keeps names tables m n instr j result e i d left more sized was now comes =
    by_result result (subst (λ (x : Names). LeavesNamed x n.world (stack_of n) result) e left)
    (sized (d.fits was)) comes
  where
    ns : Names
    ns = all_names tables

    always : AlwaysOver tables (LacksNothing tables) (does tables was j m)
    always = subst (λ (x : Instr). AlwaysOver tables (LacksNothing tables) (does tables was x m)) i (d.always was)

    coexps : All (CoexpNamed ns) (coexps_seen n)
    coexps =
        subst (λ (x : Names). All (CoexpNamed x) (coexps_seen n)) e
        (more (subst (λ (x : Names). All (CoexpNamed x) (coexps_seen m)) (sym e) (d.store_named was).coexps))

    by_result : (result : Result RunState Halt) → LeavesNamed ns n.world (stack_of n) result
        → UnlessOver n.world result (FitSizes (field_count tables) (heap_of n.world.heap)) → ComesTo tables now (does tables was j m) n result
        → UnlessEnded result (IsKept tables (does tables was j m))
    by_result (Ok stage) left fits comes = record {
      always = always;
      named = named_by ns tables now (does tables was j m) n stage comes left.0 (record { world = left.1; coexps = coexps });
      fits = fits_by tables now (does tables was j m) n stage comes fits;
    }
    by_result (Err (Halts.Error number offending)) left fits comes =
        let value : Option Value = option_map (value_in (extent n)) offending in record {
          always = always;
          named = subst (λ (s : State Frames Frames). StateNamed ns s) (sym comes)
              (named_errs ns number value (stack_seen n) (store_seen tables now n)
              (λ goes. ((left goes).0, record { world = (left goes).1; coexps = coexps })));
          fits = subst (λ (s : State Frames Frames). StateFits tables s) (sym comes)
              (fit_errs tables number value (stack_seen n) (store_seen tables now n) fits);
        }
    by_result (Err (Halts.Ends status)) left fits comes = tt
    by_result (Err Halts.ReadFault) left fits comes = tt
    by_result (Err Halts.WriteFault) left fits comes = tt
    by_result (Err Halts.FileFault) left fits comes = tt
    by_result (Err Halts.NoMemory) left fits comes = tt

-- the step of the run
pub next_step : {K : Type 0} (tables : Tables) (m k : Machine K) (instr : Instr) (before : CallStreams) (n : Machine K) (after : CallStreams)
    (result : Result RunState Halt)
    → ((outside : Outside) → step flat tables (running (stack_seen m) (store_seen tables outside m)) ≡ does tables outside instr k)
    → SettlesOn tables (λ o. does tables o instr k) n before after result → Advances IsFailing tables m RunStates.Running before n after result
next_step tables m k instr before n after result e p =
    performed_step tables (λ o. does tables o instr k) m RunStates.Running before n after result (λ was state at. ap (step flat tables) at ∙ e was) p

-- an instruction that is done whole performs no row
pub whole_applies_none : (instr : Instr) → is_whole instr ≡ true → is_applied instr ≡ true → ⊥
whole_applies_none Instrs.Pop e h = cc
whole_applies_none Instrs.Unmark e h = cc
whole_applies_none (Instrs.Chfail label) e h = cc
whole_applies_none (Instrs.Goto label) e h = cc
whole_applies_none (Instrs.Loop label) e h = cc
whole_applies_none (Instrs.Init label) e h = cc
whole_applies_none _ e h = cc
