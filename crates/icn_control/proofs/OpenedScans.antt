-- A scan that is opened.
use Rattle.std.proofs.Common.{◌≡◌, ℕ, ◌+◌, ◌≤◌, List, length, Some, None, Result, Ok, Err, MatchResult, refl, sym, ap, ◌∙◌, subst, arith}
use Rattle.std.specs.Prelude.{IsErrAnd}
use Rattle.std.proofs.lemmas.Option.{same_Some}
use Rattle.icn_value.specs.declared.val.Val.{Val}
use Rattle.icn_value.specs.declared.val.Val.TheVariants.{Text as TextVal}
use Rattle.icn_value.specs.declared.val.Span.{Span}
use Rattle.icn_value.specs.declared.item.Item.{Item}
use Rattle.icn_value.specs.declared.item.Pair.{Pair as HeldPair}
use Rattle.icn_value.specs.Values.{Value, Text}
use Rattle.icn_value.specs.Store.{Outside, Setting, World as StoreWorld}
use Rattle.icn_defs.specs.Arguments.{string}
use Rattle.icn_defs.specs.Rows.{costs_text, gives_value}
use Rattle.icn_defs.specs.StepRows.{text_row}
use Rattle.icn_heap.specs.declared.heap.Heap.{Heap as HeldHeap}
use Rattle.icn_heap.specs.Extents.{Extent, IsText, text_in, value_in}
use Rattle.icn_heap.specs.Heaps.{extent_of}
use Rattle.icn_vars.specs.declared.world.World.{World}
use Rattle.icn_vars.specs.declared.stop.Stop.{Stop}
use Rattle.icn_vars.specs.declared.stop.Stop.TheVariants.{Error as StopError, NoMemory as StopNoMemory}
use Rattle.icn_vars.specs.declared.outcome.Halt.{Halt}
use Rattle.icn_vars.specs.Stops.{halt_of}
use Rattle.icn_vars.specs.Worlds.{KeepsItems, reach_of, setting_of, world_of}
use Rattle.icn_args.specs.RowWords.{IsFound, IsPassed, the_text}
use Rattle.icn_frames.specs.declared.layout.Why.TheVariants.{Scan}
use Rattle.icn_frames.specs.Stacks as held
use Rattle.icn_frames.specs.Stacks.{FlatStack}
use Rattle.law_frames.proofs.ScansRead.{suspend_read}
use Rattle.icn_code.specs.declared.instr.Instr.TheVariants as Instrs
use Rattle.icn_code.specs.Codes.{Tables}
use Rattle.icn_run.specs.Calls as calls
use Rattle.icn_run.specs.Stacks.{Frames, flat}
use Rattle.icn_run.specs.Step.{State, Store, running, here, with_made, with_pair, with_world, scan_opened}
use Rattle.icn_control.specs.LiveStacks.{IsLivePair, IsLiveStack}
use Rattle.icn_control.specs.Pairs.{world_with_pair}
use Rattle.icn_control.specs.StackAndWorld.{RunsWith, HaltsWith}
use Rattle.icn_control.specs.StackViews.{instruction_state, stack_in, reading_of, pair_in}
use Rattle.icn_control.specs.TakenOperands.{made_in, MakesValue}
use Rattle.icn_control.proofs.OperandValues.{present_live}
use Rattle.icn_control.proofs.LiveCalls.{live_suspend}
use Rattle.icn_control.proofs.StackAndWorldSteps.{match_halt, popped_value, popped_halts}
use Rattle.icn_control.proofs.ReturnSteps.{present_pair}
use Rattle.icn_control.proofs.TakenOperandSteps.{FindsItem, made_goes, made_halts, keeps_without_locals}
use Rattle.icn_control.proofs.GrowthSteps.{text_keeps, text_refuses}
use Rattle.icn_control.specs.TakenOperands.{KeepsCounts, UnlessNoMemory}
use Rattle.icn_value.specs.Store.{bare_outside}
use Rattle.std.specs.Prelude.{[], IfOk, IfErr}
use Rattle.std.specs.Option.{option_map}
use Rattle.icn_vars.proofs.KeptItems.{keeps_items_refl}
use Rattle.icn_value.specs.Values.{Val as ItemVal}

-- The text of a value

pub text_made : (t : Tables) (w v : World) (m : FlatStack) (val : Val) (span : Span) → KeepsItems (reach_of w (held.locals m)) (reach_of v (held.locals m))
    → IsLiveStack t (reach_of w []) m → held.set_locals (held.locals m) m ≡ m
    → ((setting : Setting) → IsFound (extent_of w.heap) (string (value_in (extent_of w.heap) val)) setting setting
    (λ (done : Unit {0}). the_text (value_in (extent_of w.heap) val)) (Ok tt))
    → ((outside : Outside) → IsPassed (extent_of v.heap) (costs_text (value_in (extent_of w.heap) val)) (setting_of outside w (held.locals m))
    (setting_of outside v (held.locals m)) (Ok span))
    → text_in (extent_of v.heap) span ≡ the_text (value_in (extent_of w.heap) val)
    → MakesValue (text_row (value_in (extent_of w.heap) val)) w m v (Ok (TextVal span))
text_made t w v m val span k l s f p e st next same =
    let value : Value = value_in (extent_of w.heap) val in
    let before : Setting = setting_of st.outside w (held.locals m) in
    made_goes t w v m (text_row value) (TextVal span) st next same (keeps_without_locals w v (held.locals m) k) l s
    (f before (λ text. costs_text value (gives_value (Text text))) ∙ p st.outside (gives_value (Text (the_text value)))
    ∙ ap (λ (x : List ℕ). gives_value (Text x) (setting_of st.outside v (held.locals m))) (sym e))

pub text_unfit : (t : Tables) (w : World) (m : FlatStack) (val : Val) (stop : Stop) → IsLiveStack t (reach_of w []) m
    → held.set_locals (held.locals m) m ≡ m → ((setting : Setting) → IsFound (extent_of w.heap)
    (string (value_in (extent_of w.heap) val)) setting setting (λ (done : Unit {0}). the_text (value_in (extent_of w.heap) val)) (Err stop))
    → MakesValue (text_row (value_in (extent_of w.heap) val)) w m w (Err stop)
text_unfit t w m val (StopError number offending) l s f st next same =
    let value : Value = value_in (extent_of w.heap) val in
    made_halts t w w m (text_row value) number offending st next same (keeps_items_refl (reach_of w [])) l s
    (f (setting_of st.outside w (held.locals m)) (λ text. costs_text value (gives_value (Text text))))
text_unfit t w m val StopNoMemory l s f st next same = tt

pub text_dear : (t : Tables) (w v : World) (m : FlatStack) (val : Val) (stop : Stop) → KeepsItems (reach_of w (held.locals m)) (reach_of v (held.locals m))
    → IsLiveStack t (reach_of w []) m → held.set_locals (held.locals m) m ≡ m → ((setting : Setting) → IsFound (extent_of w.heap)
    (string (value_in (extent_of w.heap) val)) setting setting (λ (done : Unit {0}). the_text (value_in (extent_of w.heap) val)) (Ok tt))
    → ((outside : Outside) → IsPassed {B = Span} (extent_of v.heap) (costs_text (value_in (extent_of w.heap) val)) (setting_of outside w (held.locals m))
    (setting_of outside v (held.locals m)) (Err stop))
    → MakesValue (text_row (value_in (extent_of w.heap) val)) w m v (Err stop)
text_dear t w v m val (StopError number offending) k l s f p st next same =
    let value : Value = value_in (extent_of w.heap) val in
    made_halts t w v m (text_row value) number offending st next same (keeps_without_locals w v (held.locals m) k) l s
    (f (setting_of st.outside w (held.locals m)) (λ text. costs_text value (gives_value (Text text))) ∙ p st.outside (gives_value (Text (the_text value))))
text_dear t w v m val StopNoMemory k l s f p st next same = tt

-- what the text of a value that has one comes to, and what it keeps

abbrev pub HasOne : World → Val → Type 0
HasOne w val = (setting : Setting) → IsFound (extent_of w.heap) (string (value_in (extent_of w.heap) val)) setting setting
    (λ (done : Unit {0}). the_text (value_in (extent_of w.heap) val)) (Ok tt)

abbrev pub PaysFor : World → World → List Val → Val → Result Span Stop → Type 0
PaysFor w v locals val result = (outside : Outside)
    → IsPassed (extent_of v.heap) (costs_text (value_in (extent_of w.heap) val)) (setting_of outside w locals) (setting_of outside v locals) result

pub text_result : (t : Tables) (w v : World) (m : FlatStack) (val : Val) (result : Result Span Stop)
    → KeepsItems (reach_of w (held.locals m)) (reach_of v (held.locals m)) → IsLiveStack t (reach_of w []) m → held.set_locals (held.locals m) m ≡ m
    → HasOne w val
    → PaysFor w v (held.locals m) val result → IfOk result (λ span. text_in (extent_of v.heap) span ≡ the_text (value_in (extent_of w.heap) val))
    → MatchResult result (λ span. MakesValue (text_row (value_in (extent_of w.heap) val)) w m v (Ok (TextVal span)))
    (λ stop. MakesValue (text_row (value_in (extent_of w.heap) val)) w m v (Err stop))
text_result t w v m val (Ok span) k l s f p e = text_made t w v m val span k l s f p e
text_result t w v m val (Err stop) k l s f p e = text_dear t w v m val stop k l s f p

pub text_counted : (w v : World) (locals : List Val) (val : Val) (result : Result Span Stop) → HasOne w val → PaysFor w v locals val result
    → UnlessNoMemory result (KeepsCounts w v)
text_counted w v locals val (Ok span) f p =
    let value : Value = value_in (extent_of w.heap) val in
    text_keeps w v bare_outside locals (ItemVal (Text (the_text value))) value
    (f (setting_of bare_outside w locals) (λ text. costs_text value (gives_value (Text text))) ∙ p bare_outside (gives_value (Text (the_text value))))
text_counted w v locals val (Err (StopError number offending)) f p =
    let value : Value = value_in (extent_of w.heap) val in
    text_refuses w v bare_outside locals number (option_map (value_in (extent_of v.heap)) offending) value
    (f (setting_of bare_outside w locals) (λ text. costs_text value (gives_value (Text text))) ∙ p bare_outside (gives_value (Text (the_text value))))
text_counted w v locals val (Err StopNoMemory) f p = tt

-- an answer that stops
pub match_stop : {A : Type 0} (result : Result A Stop) (stop : Stop) (P : A → Type 0) (Q : Stop → Type 0) → IsErrAnd result (λ s. s ≡ stop) → Q stop
    → MatchResult result P Q
match_stop (Err s) stop P Q e q = subst Q (sym e) q
match_stop (Ok a) stop P Q e q = absurd e

pub stop_live : {A : Type 0} (result : Result A Stop) (stop : Stop) (P : Stop → Type 0) → IsErrAnd result (λ s. s ≡ stop) → P stop → IfErr result P
stop_live (Err s) stop P e p = subst P (sym e) p
stop_live (Ok a) stop P e p = absurd e

-- Opening

pub opens : (w v : World) (m n : FlatStack) (span : Span) (pair : HeldPair) → held.given_to None (held.suspend_by (Scan w.pair) m) ≡ Some n
    → pair_in (extent_of w.heap) pair ≡ record { subject = text_in (extent_of w.heap) span; position = 1 }
    → world_of v ≡ world_with_pair (pair_in (extent_of w.heap) pair) (world_of w) → v.heap ≡ w.heap → (st : Store Frames) → st.world ≡ world_of w
    → RunsWith (scan_opened flat (Text (text_in (extent_of w.heap) span)) (stack_in (extent_of w.heap) m) st) st v n
opens w v m n span pair e p back heap st same =
    let all : Extent = extent_of w.heap in
    let begun : calls.Pair = record { subject = text_in all span; position = 1 } in
    let F : HeldHeap → State Frames Frames = λ y. running (stack_in (extent_of y) n) (with_world (world_of v) st) in
    ap (λ (x : calls.Pair). running (flat.suspend (calls.Scan x) (stack_in all m)) (with_pair begun st)) (present_pair w st same)
    ∙ ap (λ (a : Frames). running a (with_pair begun st)) (suspend_read (reading_of all) (Scan w.pair) m)
    ∙ ap (λ (y : FlatStack). running (stack_in all y) (with_pair begun st)) (same_Some _ _ e)
    ∙ ap (λ (s : StoreWorld). running (stack_in all n) (with_world (world_with_pair begun s) st)) same
    ∙ ap (λ (x : calls.Pair). running (stack_in all n) (with_world (world_with_pair x (world_of w)) st)) (sym p)
    ∙ ap (λ (s : StoreWorld). running (stack_in all n) (with_world s st)) (sym back)
    ∙ ap F (sym heap)

pub first_position : (all : Extent) (span : Span) → IsText all span → IsLivePair all (record { subject = span; position = 1 })
first_position all span t = let high : 1 ≤ length (text_in all span) + 1 = omega arith in record { subject = t; low = omega arith; high = high }

pub opens_live : (t : Tables) (w : World) (m n : FlatStack) → held.given_to None (held.suspend_by (Scan w.pair) m) ≡ Some n → IsLiveStack t (reach_of w []) m
    → IsLiveStack t (reach_of w []) n
opens_live t w m n e l =
    subst (λ (x : FlatStack). IsLiveStack t (reach_of w []) x) (same_Some _ _ e) (live_suspend t (reach_of w []) m (Scan w.pair) l (present_live w))

-- The instruction

pub bscan_runs : (w v u : World) (m k l n : FlatStack) (item : Item) (val : Val) (span : Span) → held.pop m ≡ Some (item, k) → FindsItem w k item (Ok val)
    → MakesValue (text_row (value_in (extent_of w.heap) val)) w k v (Ok (TextVal span)) → l ≡ k
    → ((st : Store Frames) → st.world ≡ world_of v
    → RunsWith (scan_opened flat (Text (text_in (extent_of v.heap) span)) (stack_in (extent_of v.heap) l) st) st u n)
    → (tables : Tables) (st : Store Frames) → st.world ≡ world_of w → RunsWith (instruction_state (extent_of w.heap) tables Instrs.Bscan m st) st u n
bscan_runs w v u m k l n item val span e f made_so p o tables st same =
    popped_value w m k item val e st (f st same) (λ value a. with_made flat (text_row value (here flat a st)) a st (scan_opened flat))
    ∙ made_so st (scan_opened flat) same
    ∙ ap (λ (x : FlatStack). scan_opened flat (Text (text_in (extent_of v.heap) span)) (stack_in (extent_of v.heap) x) (with_world (world_of v) st)) (sym p)
    ∙ o (with_world (world_of v) st) refl

pub bscan_err : {A : Type 0} (result : Result A Halt) (w : World) (m k n : FlatStack) (item : Item) (stop : Stop) → IsErrAnd result (λ h. h ≡ halt_of stop)
    → held.pop m ≡ Some (item, k) → n ≡ k → FindsItem w k item (Err stop) → (tables : Tables) (st : Store Frames) → st.world ≡ world_of w
    → MatchResult result (λ (x : A). RunsWith (instruction_state (extent_of w.heap) tables Instrs.Bscan m st) st w n)
    (HaltsWith (instruction_state (extent_of w.heap) tables Instrs.Bscan m st) st w (stack_in (extent_of w.heap) n))
bscan_err {A} result w m k n item stop err e p f tables st same =
    match_halt result (halt_of stop) (λ (x : A). RunsWith (instruction_state (extent_of w.heap) tables Instrs.Bscan m st) st w n)
    (HaltsWith (instruction_state (extent_of w.heap) tables Instrs.Bscan m st) st w (stack_in (extent_of w.heap) n)) err
    (subst (λ (x : FlatStack). HaltsWith (instruction_state (extent_of w.heap) tables Instrs.Bscan m st) st w (stack_in (extent_of w.heap) x) (halt_of stop))
    (sym p) (popped_halts w m k item stop e st same (f st same) (λ value a. with_made flat (text_row value (here flat a st)) a st (scan_opened flat))))

pub bscan_unmade : {A : Type 0} (result : Result A Halt) (w v : World) (m k n : FlatStack) (item : Item) (val : Val) (stop : Stop)
    → IsErrAnd result (λ h. h ≡ halt_of stop) → held.pop m ≡ Some (item, k) → FindsItem w k item (Ok val)
    → MakesValue (text_row (value_in (extent_of w.heap) val)) w k v (Err stop) → n ≡ k → (tables : Tables) (st : Store Frames) → st.world ≡ world_of w
    → MatchResult result (λ (x : A). RunsWith (instruction_state (extent_of w.heap) tables Instrs.Bscan m st) st v n)
    (HaltsWith (instruction_state (extent_of w.heap) tables Instrs.Bscan m st) st v (stack_in (extent_of v.heap) n))
bscan_unmade {A} result w v m k n item val stop err e f made_so p tables st same =
    let go : instruction_state (extent_of w.heap) tables Instrs.Bscan m st ≡ made_in (text_row (value_in (extent_of w.heap) val)) w k st (scan_opened flat)
    = popped_value w m k item val e st (f st same) (λ value a. with_made flat (text_row value (here flat a st)) a st (scan_opened flat)) in
    match_halt result (halt_of stop) (λ (x : A). RunsWith (instruction_state (extent_of w.heap) tables Instrs.Bscan m st) st v n)
    (HaltsWith (instruction_state (extent_of w.heap) tables Instrs.Bscan m st) st v (stack_in (extent_of v.heap) n)) err
    (subst (λ (x : FlatStack). HaltsWith (instruction_state (extent_of w.heap) tables Instrs.Bscan m st) st v (stack_in (extent_of v.heap) x) (halt_of stop))
    (sym p)
    (subst (λ (x : State Frames Frames). HaltsWith x st v (stack_in (extent_of v.heap) k) (halt_of stop)) (sym go) (made_so st (scan_opened flat) same)))
