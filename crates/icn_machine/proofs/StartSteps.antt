-- The start of a run.
use Rattle.std.proofs.Common.{◌≡◌, ◌+◌, ◌≤◌, ◌<◌, ℕ, zero, suc, Bool, true, false, ◌&&◌, nat_le, if◌then◌else◌, List, [], ◌∷◌, ◌++◌, length, map, replicate, slice_get, slice_index, Option, Some, None, Result, Ok, Err, refl, sym, ap, ◌∙◌, subst, arith, leb-true, ltb-true}
use Rattle.std.specs.Prelude.{◌-◌, codes, drop, find, IsErrAnd}
use Rattle.std.specs.Str.{bytes_eq}
use Rattle.std.specs.List.{All, list_all, sum_by}
use Rattle.std.specs.Option.{option_map, option_and_then}
use Rattle.std.proofs.lemmas.Bool.{le-leb}
use Rattle.std.proofs.lemmas.List.{map-append}
use Rattle.std.proofs.lemmas.List.Elements.{All-nil}
use Rattle.std.proofs.lemmas.Option.{same_Some}
use Rattle.icn_value.specs.declared.val.Val.{Val}
use Rattle.icn_value.specs.declared.val.Val.TheVariants as Vals
use Rattle.icn_value.specs.Limited.{Bounds, limits_of}
use Rattle.icn_value.specs.Store.{OpenedFile, Setting, World as StoreWorld, new_list}
use Rattle.icn_value.specs.Values.{Value, Null}
use Rattle.icn_defs.specs.Errors.{is_fatal}
use Rattle.icn_defs.specs.Running.{Launch, text_values, words_row}
use Rattle.icn_defs.specs.Rows.{Outcome, Row, check}
use Rattle.icn_defs.specs.StepRows.{list_row}
use Rattle.icn_defs.proofs.OnErrors.{fatal_ends, is_ended}
use Rattle.icn_heap.specs.Extents.{Extent, IsLive, value_in}
use Rattle.icn_heap.specs.Heaps.{extent_of, heap_of}
use Rattle.icn_vars.specs.declared.outcome.Halt.{Halt}
use Rattle.icn_vars.specs.declared.stop.Stop.{Stop}
use Rattle.icn_vars.specs.declared.stop.Stop.TheVariants as Stops
use Rattle.icn_vars.specs.declared.world.World.{World}
use Rattle.icn_vars.specs.Worlds.{Reach, reach_of, world_of}
use Rattle.icn_frames.specs.Stacks as held
use Rattle.icn_frames.specs.Stacks.{FlatStack}
use Rattle.icn_coexp.specs.Transfers.{Coexp, CoexpTable, activator_in, first_table, main_coexp}
use Rattle.law_frames.proofs.CallsRead.{begin_read}
use Rattle.icn_code.specs.declared.code.Global.{Global}
use Rattle.icn_code.specs.declared.code.Start.{Start}
use Rattle.icn_code.specs.declared.code.Start.TheVariants as Starts
use Rattle.icn_code.specs.Codes.{Proc, Tables}
use Rattle.icn_code.specs.Rules.{is_global, is_start, keeps_rules, name_of}
use Rattle.icn_run.specs.FlatStep.{start}
use Rattle.icn_run.proofs.Errors.{at_error}
use Rattle.icn_run.specs.Rows as rows
use Rattle.icn_run.specs.Stacks.{Frames, empty, flat}
use Rattle.icn_run.specs.Step.{State, Store, all_names, begun_if, collect_rest, ended_by, errs, failing, first_store, here, hopping, with_made, main_of, over, procedure_at, running, start_of, stuck, with_at, with_found, with_world}
use Rattle.icn_control.specs.ResultCounts.{EnterOthers, FitTurns}
use Rattle.icn_control.specs.LiveStacks.{IsLiveStack, variable_count}
use Rattle.icn_control.specs.Machines.{AreLiveStacks, IsLiveCoexp, IsSoundMachine, running_of, store_in}
use Rattle.icn_control.specs.declared.machine.Machine.{Machine}
use Rattle.icn_control.proofs.LiveFrames.{live_begin}
use Rattle.icn_control.specs.StackViews.{reading_of, stack_in}
use Rattle.icn_control.specs.TakenOperands.{KeepsCounts, MakesValue, made_in}
use Rattle.icn_calls.specs.Calling.{FindsParameters}
use Rattle.icn_machine.specs.Starting.{BeginsWith, StartsAs, WordsFit, about_nothing, bare, begun_with, world_charged}

-- What the rules say

left : (a b : Bool) → (a && b) ≡ true → a ≡ true
left true b e = refl
left false b e = e

right : (a b : Bool) → (a && b) ≡ true → b ≡ true
right true b e = e
right false b e = cc

pub few_procs : (tables : Tables) → keeps_rules tables ≡ true → length tables.procs ≤ 16777216
unfolding keeps_rules
few_procs tables e =
    let counted = right _ _ (left _ _ (left _ _ (left _ _ (left _ _ (left _ _ (left _ _ (left _ _ (left _ _ e)))))))) in
    leb-true _ _ (right _ _ (left _ _ counted))

pub few_records : (tables : Tables) → keeps_rules tables ≡ true → length tables.records ≤ 65535
unfolding keeps_rules
few_records tables e = leb-true _ _ (right _ _ (left _ _ (left _ _ (left _ _ (left _ _ (left _ _ (left _ _ (left _ _ (left _ _ (left _ _ (left _ _ e)))))))))))

pub globals_fit : (tables : Tables) → keeps_rules tables ≡ true
    → list_all (is_global (length tables.strings) (length tables.records) (length tables.procs)) tables.globals ≡ true
unfolding keeps_rules
globals_fit tables e = right _ _ (left _ _ (left _ _ e))

found_by : {X : Type 0} (q : X → Bool) (t : Bool) (y x : X) (o : Option X) → q y ≡ true → (o ≡ Some x → q x ≡ true) → (if t then Some y else o) ≡ Some x
    → q x ≡ true
found_by q true y x o h rest e = subst (λ z. q z ≡ true) (same_Some _ _ e) h
found_by q false y x o h rest e = rest e

found_holds : {X : Type 0} (p q : X → Bool) (xs : List X) (x : X) → list_all q xs ≡ true → find p xs ≡ Some x → q x ≡ true
found_holds p q [] x h e = cc
found_holds p q (y ∷ xs) x h e = found_by q (p y) y x (find p xs) (left (q y) (list_all q xs) h) (found_holds p q xs x (right (q y) (list_all q xs) h)) e

there_at : {X : Type 0} (xs : List X) (n : ℕ) → n < length xs → slice_get xs n ≡ None → ⊥
there_at [] n p e = omega (arith, p)
there_at (x ∷ xs) zero p e = cc
there_at (x ∷ xs) (suc n) p e = there_at xs n (omega (arith, p)) e

-- whether a global is that of this name
abbrev is_called_main : Tables → Global → Bool
is_called_main tables global = bytes_eq (name_of tables.strings global) (codes "main")

start_there : (tables : Tables) (main : ℕ) (s : Start) → is_start (length tables.records) (length tables.procs) s ≡ true → procedure_at s ≡ Some main
    → slice_get tables.procs main ≡ None → ⊥
start_there tables main (Starts.Procedure place) fits h f =
    there_at tables.procs main (subst (λ n. n < length tables.procs) (same_Some _ _ h) (ltb-true _ _ fits)) f
start_there tables main Starts.Null fits h f = cc
start_there tables main (Starts.Record place) fits h f = cc
start_there tables main (Starts.Function func) fits h f = cc

global_there : (tables : Tables) (main : ℕ) (o : Option Global) → keeps_rules tables ≡ true → find (is_called_main tables) tables.globals ≡ o
    → option_and_then (λ (global : Global). procedure_at global.start) o ≡ Some main → slice_get tables.procs main ≡ None → ⊥
global_there tables main None rules q g f = cc
global_there tables main (Some global) rules q g f =
    let fits = found_holds (is_called_main tables) (is_global (length tables.strings) (length tables.records) (length tables.procs)) tables.globals
    global (globals_fit tables rules) q in
    start_there tables main global.start (right _ _ fits) g f

-- the procedure that `main` begins with is there
pub main_there : (tables : Tables) (main : ℕ) → keeps_rules tables ≡ true → main_of tables ≡ Some main → slice_get tables.procs main ≡ None → ⊥
main_there tables main rules e f = global_there tables main (find (is_called_main tables) tables.globals) rules refl e f

-- Lists, on whatever stack they are made

-- an error that ends every run
fatal_over : (number : ℕ) (offending : Option Value) (m : Frames) (st : Store Frames) → is_fatal number ≡ true
    → errs number offending m st ≡ ended_by number offending st
fatal_over number offending m st f =
    is_ended number offending st.world (ended_by number offending st) (λ world. failing m (with_world world st)) (fatal_ends number st.world.error f)

-- what follows a check
check_made : (t : Bool) (number : ℕ) (offending : Option Value) (next : Row) (at : Setting) (a b : Frames) (st su : Store Frames)
    (N : Value → Frames → Store Frames → State Frames Frames)
    → is_fatal number ≡ true → with_at at st ≡ with_at at su → with_made flat (next at) a st N ≡ with_made flat (next at) b su N
    → with_made flat (check t number offending next at) a st N ≡ with_made flat (check t number offending next at) b su N
check_made true number offending next at a b st su N f e h = h
check_made false number offending next at a b st su N f e h =
    fatal_over number offending (flat.set_locals at.locals a) (with_at at st) f
    ∙ ap (λ (s : Store Frames). ended_by number offending s) e
    ∙ sym (fatal_over number offending (flat.set_locals at.locals b) (with_at at su) f)

-- the setting in which a list is made
abbrev listed_in : List Value → Setting → Setting
listed_in values at =
    record at {
      world = record at.world
          { heap = record at.world.heap { cells = at.world.heap.cells + (1 + length values); lists = at.world.heap.lists ++ new_list values ∷ [] } };
    }

-- a list is made on one stack as on another one, where what follows is the same there
pub list_as : (values : List Value) (at : Setting) (a b : Frames) (st su : Store Frames) (N : Value → Frames → Store Frames → State Frames Frames)
    → ((seen : Setting) → with_at seen st ≡ with_at seen su)
    → ((value : Value) (s : Store Frames) → N value (flat.set_locals at.locals a) s ≡ N value (flat.set_locals at.locals b) s)
    → with_made flat (list_row values at) a st N ≡ with_made flat (list_row values at) b su N
list_as values at a b st su N e h =
    let value : Value = rows.AList (length at.world.heap.lists) in
    let seen : Setting = listed_in values at in
    check_made (nat_le (at.world.heap.cells + (1 + length values)) at.world.heap.bounds.cells) 307 None _ at a b st su N refl (e at)
    (h value (with_at seen st) ∙ ap (N value (flat.set_locals at.locals b)) (e seen))

abbrev pub stays_stuck : Value → Frames → Store Frames → State Frames Frames
stays_stuck value a st = stuck

-- a list is made, or there are too many cells
pub data OutcomeSo (o : Outcome) (at : Setting) : Type 0 where
  fits : ((a : Frames) (st : Store Frames) → with_made flat o a st stays_stuck ≡ stuck) → OutcomeSo o at
  is_full : ((a : Frames) (st : Store Frames) (N : Value → Frames → Store Frames → State Frames Frames)
      → with_made flat o a st N ≡ ended_by 307 None (with_at at st))
      → OutcomeSo o at

check_so : (t : Bool) (next : Row) (at : Setting) → ((a : Frames) (st : Store Frames) → with_made flat (next at) a st stays_stuck ≡ stuck)
    → OutcomeSo (check t 307 None next at) at
check_so true next at h = fits h
check_so false next at h = is_full (λ a st N. fatal_over 307 None (flat.set_locals at.locals a) (with_at at st) refl)

pub list_so : (values : List Value) (at : Setting) → OutcomeSo (list_row values at) at
list_so values at = check_so (nat_le (at.world.heap.cells + (1 + length values)) at.world.heap.bounds.cells) _ at (λ a st. refl)

-- Opened files, which the end of a run writes

-- the files that are open where the run goes on
abbrev files_in : State Frames Frames → List OpenedFile
files_in (running m st) = st.world.heap.files
files_in (failing m st) = []
files_in (hopping m st) = []
files_in (over ending outside) = []
files_in stuck = []

abbrev runs_on : Value → Frames → Store Frames → State Frames Frames
runs_on value a st = running a st

-- where a value is made, the same files are open
pub record LeavesFiles (o : Outcome) (at : Setting) : Type 0 where
  pub leaves : (a m : Frames) (st su : Store Frames) → with_made flat o a st runs_on ≡ running m su → su.world.heap.files ≡ at.world.heap.files

never_over : (number : ℕ) (st su : Store Frames) (m : Frames) → ended_by {K = Frames} {M = Frames} number None st ≡ running m su → ⊥
never_over number st su m e = cc

check_leaves : (t : Bool) (next : Row) (at : Setting)
    → ((a m : Frames) (st su : Store Frames) → with_made flat (next at) a st runs_on ≡ running m su → su.world.heap.files ≡ at.world.heap.files)
    → LeavesFiles (check t 307 None next at) at
check_leaves true next at h = record { leaves = h }
check_leaves false next at h = record {
  leaves = λ a m st su e.
      absurd (never_over 307 (with_at at st) su m (sym (fatal_over 307 None (flat.set_locals at.locals a) (with_at at st) refl) ∙ e));
}

list_leaves : (values : List Value) (at : Setting) → LeavesFiles (list_row values at) at
list_leaves values at =
    check_leaves (nat_le (at.world.heap.cells + (1 + length values)) at.world.heap.bounds.cells) _ at (λ a m st su e. sym (ap files_in e))

-- in the world behind a list that was made
made_leaves : (w v : World) (values : List Value) (list : Val) (st : Store Frames) → st.world ≡ world_of w
    → MakesValue (list_row values) w bare v (Ok list) → (world_of v).heap.files ≡ st.world.heap.files
made_leaves w v values list st same made =
    let M : Frames = stack_in (extent_of w.heap) bare in
    (list_leaves values (here flat M st)).leaves M (stack_in (extent_of v.heap) bare) st (with_world (world_of v) st) (made st runs_on same)

-- the run is over by an error without a value, where these files are open
abbrev ended_among : ℕ → Store Frames → List OpenedFile → State Frames Frames
ended_among number st files = ended_by number None (with_world (record st.world { heap = record st.world.heap { files = files } }) st)

-- Words

check_passes : (t : Bool) → t ≡ true → (next : Row) (at : Setting) → check t 306 None next at ≡ next at
check_passes true q next at = refl
check_passes false q next at = cc

pub words_paid : (words : List (List ℕ)) (at : Setting) → nat_le (at.world.heap.strings + sum_by length words) at.world.heap.bounds.strings ≡ true
    → words_row words at ≡ list_row (text_values words) (record at
    { world = record at.world { heap = record at.world.heap { strings = at.world.heap.strings + sum_by length words } } })
words_paid words at e = check_passes (nat_le (at.world.heap.strings + sum_by length words) at.world.heap.bounds.strings) e _ at

words_refused : (t : Bool) → t ≡ false → (next : Row) (at : Setting) (a : Frames) (st : Store Frames) (N : Value → Frames → Store Frames → State Frames Frames)
    → with_made flat (check t 306 None next at) a st N ≡ ended_by 306 None (with_at at st)
words_refused false q next at a st N = fatal_over 306 None (flat.set_locals at.locals a) (with_at at st) refl
words_refused true q next at a st N = cc

-- The start

abbrev first : Tables → Launch → Store Frames
first tables launch = first_store tables launch

pub start_none : (tables : Tables) (launch : Launch) → main_of tables ≡ None → start tables launch ≡ ended_by 117 None (first tables launch)
start_none tables launch e =
    ap (start_of flat tables launch.words empty (first tables launch)) e ∙ fatal_over 117 None empty (first tables launch) refl

pub start_is : (tables : Tables) (launch : Launch) (main : ℕ) (entry : Proc) → main_of tables ≡ Some main → slice_get tables.procs main ≡ Some entry
    → start tables launch ≡ with_made flat (words_row launch.words (here flat empty (first tables launch))) empty (first tables launch) (begun_with main entry)
start_is tables launch main entry e f =
    let st : Store Frames = first tables launch in
    ap (start_of flat tables launch.words empty st) e
    ∙ ap (λ (o : Option Proc). with_found o (λ (proc : Proc). with_made flat (words_row launch.words (here flat empty st)) empty st (begun_with main proc))) f

pub start_full : (tables : Tables) (launch : Launch) (main : ℕ) (entry : Proc) → main_of tables ≡ Some main → slice_get tables.procs main ≡ Some entry
    → nat_le (0 + sum_by length launch.words) launch.bounds.strings ≡ false → start tables launch ≡ ended_by 306 None (first tables launch)
start_full tables launch main entry e f w =
    start_is tables launch main entry e f
    ∙ words_refused (nat_le (0 + sum_by length launch.words) launch.bounds.strings) w _ (here flat empty (first tables launch)) empty (first tables launch)
    (begun_with main entry)

-- the procedure is begun on one stack without locals as on another one
begun_collected : (collects : Bool) (count : ℕ) (arguments : List Value) (all : Extent) (st : Store Frames)
    (K : List Value → Frames → Store Frames → State Frames Frames)
    → ((ps : List Value) (s : Store Frames) → K ps empty s ≡ K ps (stack_in all bare) s)
    → collect_rest flat collects count arguments empty st K ≡ collect_rest flat collects count arguments (stack_in all bare) st K
begun_collected false count arguments all st K h = h _ st
begun_collected true count arguments all st K h =
    list_as _ (here flat empty st) empty (stack_in all bare) st st _ (λ seen. refl) (λ value s. h _ s)

begun_as : (t : Bool) (main : ℕ) (entry : Proc) (arguments : List Value) (all : Extent) (st : Store Frames)
    → begun_if flat t main entry arguments empty st ≡ begun_if flat t main entry arguments (stack_in all bare) st
begun_as true main entry arguments all st =
    begun_collected entry.collects entry.parameters arguments all st (λ ps a s. running (flat.begin main (ps ++ replicate entry.locals Null) 0 a) s)
    (λ ps s. refl)
begun_as false main entry arguments all st = fatal_over 301 None empty st refl ∙ sym (fatal_over 301 None (stack_in all bare) st refl)

-- as a list of values of a world in which the words are charged
pub start_in : (tables : Tables) (launch : Launch) (main : ℕ) (entry : Proc) (w : World) (vals : List Val) → main_of tables ≡ Some main
    → slice_get tables.procs main ≡ Some entry
    → nat_le (0 + sum_by length launch.words) launch.bounds.strings ≡ true → world_of w ≡ world_charged tables launch.bounds launch.words
    → map (value_in (extent_of w.heap)) vals ≡ text_values launch.words
    → start tables launch
    ≡ made_in (list_row (map (value_in (extent_of w.heap)) vals)) w bare (with_world (world_of w) (first tables launch)) (begun_with main entry)
start_in tables launch main entry w vals e f paid world values =
    let st : Store Frames = first tables launch in
    let all : Extent = extent_of w.heap in
    let at : StoreWorld → Setting = λ x. record { world = x; locals = []; outside = launch.outside } in
    start_is tables launch main entry e f
    ∙ ap (λ o. with_made flat o empty st (begun_with main entry)) (words_paid launch.words (here flat empty st) paid)
    ∙ ap (λ (x : StoreWorld). with_made flat (list_row (text_values launch.words) (at x)) empty st (begun_with main entry)) (sym world)
    ∙ ap (λ (vs : List Value). with_made flat (list_row vs (at (world_of w))) empty st (begun_with main entry)) (sym values)
    ∙ list_as (map (value_in all) vals) (at (world_of w)) empty (stack_in all bare) st (with_world (world_of w) st) (begun_with main entry) (λ seen. refl)
    (λ value s. begun_as (nat_le 1 s.world.heap.bounds.levels) main entry (value ∷ []) all s)

-- The locals of `main`

pub nulls_read : (all : Extent) (n : ℕ) → map (value_in all) (replicate n Vals.Null) ≡ replicate n Null
nulls_read all zero = refl
nulls_read all (suc n) = ap (λ (r : List Value). Null ∷ r) (nulls_read all n)

map_with_nulls : (all : Extent) (n : ℕ) (xs : List Val) → map (value_in all) (xs ++ replicate n Vals.Null) ≡ map (value_in all) xs ++ replicate n Null
map_with_nulls all n xs = map-append (value_in all) xs (replicate n Vals.Null) ∙ ap (λ (r : List Value). map (value_in all) xs ++ r) (nulls_read all n)

levels_pass : (levels : ℕ) → 1 ≤ levels → nat_le 1 levels ≡ true
levels_pass levels p = le-leb 1 levels p

-- arguments become parameters, or there are too many cells
pub data CollectedSo (collects : Bool) (count : ℕ) (arguments : List Value) (m : Frames) (st : Store Frames) : Type 0 where
  collects_fit : collect_rest flat collects count arguments m st (λ ps a s. stuck) ≡ stuck → CollectedSo collects count arguments m st
  collects_full : ((K : List Value → Frames → Store Frames → State Frames Frames) → collect_rest flat collects count arguments m st K ≡ ended_by 307 None st)
      → CollectedSo collects count arguments m st

collected_by : (count : ℕ) (arguments : List Value) (m : Frames) (st : Store Frames)
    → OutcomeSo (list_row (drop (count - 1) arguments) (here flat m st)) (here flat m st) → CollectedSo true count arguments m st
collected_by count arguments m st (fits h) = collects_fit (h m st)
collected_by count arguments m st (is_full h) = collects_full (λ K. h m st _)

collected_so : (collects : Bool) (count : ℕ) (arguments : List Value) (m : Frames) (st : Store Frames) → CollectedSo collects count arguments m st
collected_so false count arguments m st = collects_fit refl
collected_so true count arguments m st = collected_by count arguments m st (list_so (drop (count - 1) arguments) (here flat m st))

-- an error that is the same is of this number
same_error : (n : ℕ) (offending : Option Value) (m : Frames) (st su : Store Frames) → ended_by {K = Frames} {M = Frames} 307 None st ≡ errs n offending m su
    → n ≡ 307
same_error n offending m st su =
    at_error (λ (s : State Frames Frames). ended_by {K = Frames} {M = Frames} 307 None st ≡ s → n ≡ 307) n offending m su (λ e. cc) (λ e. absurd (cc))

never_error : (a : State Frames Frames) (n : ℕ) (offending : Option Value) (m : Frames) (su : Store Frames) → a ≡ stuck → a ≡ errs n offending m su → ⊥
never_error a n offending m su e f =
    at_error (λ (s : State Frames Frames). stuck ≡ s → ⊥) n offending m su (λ q. absurd (cc)) (λ q. absurd (cc)) (sym e ∙ f)

pub begins_runs : (entry : Proc) (w v u : World) (f k : FlatStack) (vals one params locals : List Val) (list : Val) → f ≡ bare → k ≡ f → one ≡ list ∷ []
    → MakesValue (list_row (map (value_in (extent_of w.heap)) vals)) w f v (Ok list)
    → FindsParameters {A = Unit} entry.collects entry.parameters v k one u params (Ok tt)
    → locals ≡ params ++ replicate entry.locals Vals.Null → 1 ≤ (heap_of v.heap).bounds.levels → BeginsWith {A = Unit} entry w vals u locals (Ok tt)
begins_runs entry w v u f k vals one params locals list p q o made_one found more levels main st same =
    let all : Extent = extent_of v.heap in
    let late : Extent = extent_of u.heap in
    let s : Store Frames = with_world (world_of v) st in
    let M : Frames = stack_in all bare in
    let K : List Value → Frames → Store Frames → State Frames Frames = λ ps a s. running (flat.begin main (ps ++ replicate entry.locals Null) 0 a) s in
    let here_made : MakesValue (list_row (map (value_in (extent_of w.heap)) vals)) w bare v (Ok list)
    = subst (λ (x : FlatStack). MakesValue (list_row (map (value_in (extent_of w.heap)) vals)) w x v (Ok list)) p made_one in
    let here_found : FindsParameters {A = Unit} entry.collects entry.parameters v bare one u params (Ok tt)
    = subst (λ (x : FlatStack). FindsParameters {A = Unit} entry.collects entry.parameters v x one u params (Ok tt)) (q ∙ p) found in
    here_made st (begun_with main entry) same
    ∙ ap (λ (t : Bool). begun_if flat t main entry (value_in all list ∷ []) M s) (levels_pass (heap_of v.heap).bounds.levels levels)
    ∙ ap (λ (xs : List Val). collect_rest flat entry.collects entry.parameters (map (value_in all) xs) M s K) (sym o)
    ∙ here_found s K refl
    ∙ ap (λ (xs : List Value). running (flat.begin main xs 0 (stack_in late bare)) (with_world (world_of u) st))
    (sym (ap (map (value_in late)) more ∙ map_with_nulls late entry.locals params))
    ∙ ap (λ (x : Frames). running x (with_world (world_of u) st)) (begin_read (reading_of late) main locals 0 (stack_in late bare))

list_error : (entry : Proc) (w v : World) (vals : List Val) (n : ℕ) (offending : Option Val) (main : ℕ) (m : Frames) (st : Store Frames)
    → OutcomeSo (list_row (map (value_in (extent_of w.heap)) vals) (here flat (stack_in (extent_of w.heap) bare) st)) (here flat
    (stack_in (extent_of w.heap) bare) st)
    → made_in (list_row (map (value_in (extent_of w.heap)) vals)) w bare st stays_stuck
    ≡ errs n (option_map (value_in (extent_of v.heap)) offending) m (with_world (world_of v) st)
    → made_in (list_row (map (value_in (extent_of w.heap)) vals)) w bare st (begun_with main entry) ≡ ended_by n None st
list_error entry w v vals n offending main m st (fits g) e =
    absurd (never_error (made_in (list_row (map (value_in (extent_of w.heap)) vals)) w bare st stays_stuck) n
    (option_map (value_in (extent_of v.heap)) offending) m (with_world (world_of v) st)
    (g (stack_in (extent_of w.heap) bare) st) e)
list_error entry w v vals n offending main m st (is_full g) e =
    let M : Frames = stack_in (extent_of w.heap) bare in
    let number : n ≡ 307
    = same_error n (option_map (value_in (extent_of v.heap)) offending) m st (with_world (world_of v) st) (sym (g M st stays_stuck) ∙ e) in
    g M st (begun_with main entry) ∙ ap (λ (k : ℕ). ended_by k None st) (sym number)

pub list_stops : (entry : Proc) (w v : World) (f : FlatStack) (vals locals : List Val) (stop : Stop) → f ≡ bare
    → MakesValue (list_row (map (value_in (extent_of w.heap)) vals)) w f v (Err stop)
    → BeginsWith {A = Unit} entry w vals v locals (Err stop)
list_stops entry w v f vals locals Stops.NoMemory p h = tt
list_stops entry w v f vals locals (Stops.Error n offending) p h =
    let here_made : MakesValue (list_row (map (value_in (extent_of w.heap)) vals)) w bare v (Err (Stops.Error n offending))
    = subst (λ (x : FlatStack). MakesValue (list_row (map (value_in (extent_of w.heap)) vals)) w x v (Err (Stops.Error n offending))) p h in
    λ main st same. list_error entry w v vals n offending main (stack_in (extent_of v.heap) bare) st
    (list_so (map (value_in (extent_of w.heap)) vals) (here flat (stack_in (extent_of w.heap) bare) st)) (here_made st stays_stuck same)

-- what the parameters come to
abbrev begin_with_them : ℕ → Proc → List Value → Frames → Store Frames → State Frames Frames
begin_with_them main entry ps a s = running (flat.begin main (ps ++ replicate entry.locals Null) 0 a) s

abbrev all_stuck : List Value → Frames → Store Frames → State Frames Frames
all_stuck ps a s = stuck

collected_error : (entry : Proc) (arguments : List Value) (m k : Frames) (s su : Store Frames) (n : ℕ) (offending : Option Value) (main : ℕ)
    → CollectedSo entry.collects entry.parameters arguments m s
    → collect_rest flat entry.collects entry.parameters arguments m s all_stuck ≡ errs n offending k su
    → collect_rest flat entry.collects entry.parameters arguments m s (begin_with_them main entry) ≡ ended_by n None s
collected_error entry arguments m k s su n offending main (collects_fit g) e =
    absurd (never_error (collect_rest flat entry.collects entry.parameters arguments m s all_stuck) n offending k su g e)
collected_error entry arguments m k s su n offending main (collects_full g) e =
    let number : n ≡ 307 = same_error n offending k s su (sym (g all_stuck) ∙ e) in
    g (begin_with_them main entry) ∙ ap (λ (x : ℕ). ended_by x None s) (sym number)

pub parameters_stop : (entry : Proc) (w v u : World) (f k : FlatStack) (vals one params locals : List Val) (list : Val) (stop : Stop) → f ≡ bare → k ≡ f
    → one ≡ list ∷ []
    → MakesValue (list_row (map (value_in (extent_of w.heap)) vals)) w f v (Ok list)
    → FindsParameters {A = Unit} entry.collects entry.parameters v k one u params (Err stop)
    → 1 ≤ (heap_of v.heap).bounds.levels → BeginsWith {A = Unit} entry w vals u locals (Err stop)
parameters_stop entry w v u f k vals one params locals list Stops.NoMemory p q o made_one found levels = tt
parameters_stop entry w v u f k vals one params locals list (Stops.Error n offending) p q o made_one found levels =
    let all : Extent = extent_of v.heap in
    let M : Frames = stack_in all bare in
    let here_made : MakesValue (list_row (map (value_in (extent_of w.heap)) vals)) w bare v (Ok list)
    = subst (λ (x : FlatStack). MakesValue (list_row (map (value_in (extent_of w.heap)) vals)) w x v (Ok list)) p made_one in
    let here_found : FindsParameters {A = Unit} entry.collects entry.parameters v bare one u params (Err (Stops.Error n offending))
    = subst (λ (x : FlatStack). FindsParameters {A = Unit} entry.collects entry.parameters v x one u params (Err (Stops.Error n offending))) (q ∙ p) found in
    λ main st same.
    here_made st (begun_with main entry) same
    ∙ ap (λ (t : Bool). begun_if flat t main entry (value_in all list ∷ []) M (with_world (world_of v) st)) (levels_pass (heap_of v.heap).bounds.levels levels)
    ∙ ap (λ (xs : List Val). collect_rest flat entry.collects entry.parameters (map (value_in all) xs) M (with_world (world_of v) st)
    (begin_with_them main entry))
    (sym o)
    ∙ collected_error entry (map (value_in all) one) M (stack_in (extent_of u.heap) bare) (with_world (world_of v) st)
    (with_world (world_of u) (with_world (world_of v) st)) n
    (option_map (value_in (extent_of u.heap)) offending) main
    (collected_so entry.collects entry.parameters (map (value_in all) one) M (with_world (world_of v) st))
    (here_found (with_world (world_of v) st) all_stuck refl)
    ∙ ap (ended_among n st) (made_leaves w v (map (value_in (extent_of w.heap)) vals) list st same here_made)

pub begins_err : (result : Result Unit Stop) (entry : Proc) (w v : World) (vals locals : List Val) (stop : Stop) → IsErrAnd result (λ s. s ≡ stop)
    → BeginsWith {A = Unit} entry w vals v locals (Err stop)
    → BeginsWith entry w vals v locals result
begins_err (Ok done) entry w v vals locals stop e h = absurd e
begins_err (Err other) entry w v vals locals stop e h = subst (λ (x : Stop). BeginsWith {A = Unit} entry w vals v locals (Err x)) (sym e) h

-- The machine

-- a machine that holds what the start says stands for the first state
pub starts_as : {K : Type 0} (m : Machine K) (tables : Tables) (launch : Launch) (main : ℕ) (entry : Proc) (w : World) (vals locals : List Val) (f : FlatStack)
    → main_of tables ≡ Some main → slice_get tables.procs main ≡ Some entry
    → nat_le (0 + sum_by length launch.words) launch.bounds.strings ≡ true → world_of w ≡ world_charged tables launch.bounds launch.words
    → map (value_in (extent_of w.heap)) vals ≡ text_values launch.words
    → BeginsWith {A = Unit} entry w vals m.world locals (Ok tt) → f ≡ held.begin main locals 0 → m.stacks.table ≡ first_table f → m.turns ≡ 0
    → m.begun.items ≡ replicate (length tables.procs) false → StartsAs tables launch (Ok m)
starts_as m tables launch main entry w vals locals f e g paid world values begins stack table turns begun =
    let st : Store Frames = first tables launch in
    let all : Extent = extent_of m.world.heap in
    let F : CoexpTable → ℕ → List Bool → State Frames Frames
    = λ t n bs. running (stack_in all (running_of t.running)) (store_in (all_names tables) launch.outside (world_of m.world) n bs all t) in
    start_in tables launch main entry w vals e g paid world values
    ∙ begins main (with_world (world_of w) st) refl
    ∙ ap (λ (x : FlatStack). F (first_table x) 0 (replicate (length tables.procs) false)) (sym stack)
    ∙ ap (λ (t : CoexpTable). F t 0 (replicate (length tables.procs) false)) (sym table)
    ∙ ap (λ (n : ℕ). F m.stacks.table n (replicate (length tables.procs) false)) (sym turns)
    ∙ ap (λ (bs : List Bool). F m.stacks.table m.turns bs) (sym begun)

pub words_stop : (K A : Type 0) (tables : Tables) (launch : Launch) (main : ℕ) (entry : Proc) (stop : Stop) → main_of tables ≡ Some main
    → slice_get tables.procs main ≡ Some entry
    → WordsFit {A = A} launch.bounds launch.words (Err stop) → StartsAs {K = K} tables launch (Err (about_nothing stop))
words_stop K A tables launch main entry Stops.NoMemory e f h = tt
words_stop K A tables launch main entry (Stops.Error n offending) e f h =
    start_full tables launch main entry e f h.0 ∙ ap (λ (k : ℕ). ended_by k None (first tables launch)) (sym h.1)

pub locals_stop : (K : Type 0) (tables : Tables) (launch : Launch) (main : ℕ) (entry : Proc) (w v : World) (vals locals : List Val) (stop : Stop)
    → main_of tables ≡ Some main → slice_get tables.procs main ≡ Some entry
    → nat_le (0 + sum_by length launch.words) launch.bounds.strings ≡ true → world_of w ≡ world_charged tables launch.bounds launch.words
    → map (value_in (extent_of w.heap)) vals ≡ text_values launch.words
    → BeginsWith {A = Unit} entry w vals v locals (Err stop) → StartsAs {K = K} tables launch (Err (about_nothing stop))
locals_stop K tables launch main entry w v vals locals Stops.NoMemory e f paid world values h = tt
locals_stop K tables launch main entry w v vals locals (Stops.Error n offending) e f paid world values h =
    let F : StoreWorld → State Frames Frames = λ x. ended_by n None (with_world x (first tables launch)) in
    start_in tables launch main entry w vals e f paid world values ∙ h main (with_world (world_of w) (first tables launch)) refl ∙ ap F world

first_status : (t : Tables) (reach : Reach) (n : ℕ) (coexp : Coexp) → slice_get (main_coexp ∷ []) n ≡ Some coexp → IsLiveCoexp t reach n coexp
first_status t reach zero coexp e =
    subst (λ (c : Coexp). IsLiveCoexp t reach 0 c) (same_Some _ _ e)
    (record { status = tt; values = All-nil (IsLive reach.extent); count = λ p. absurd (omega (arith, p)) })
first_status t reach (suc n) coexp e = cc

first_activators : (n : ℕ) → 0 < n → activator_in (slice_get (main_coexp ∷ []) n) ≡ n → ⊥
first_activators zero p e = omega (arith, p)
first_activators (suc n) p e = cc

first_counts : (n : ℕ) → 0 < n → slice_index (0 ∷ []) n + slice_index (0 ∷ []) n ≤ 0
first_counts zero p = absurd (omega (arith, p))
first_counts (suc n) p = omega arith

pub start_sound : {K : Type 0} (m : Machine K) (t : Tables) (main : ℕ) (locals : List Val) (f : FlatStack) → f ≡ held.begin main locals 0
    → m.stacks.table ≡ first_table f → m.turns ≡ 0 → length locals ≡ variable_count t main
    → All (IsLive (extent_of m.world.heap)) locals → (heap_of m.world.heap).bounds ≡ limits_of m.limits → (heap_of m.world.heap).coexps ≡ 0 ∷ []
    → IsSoundMachine t m
start_sound m t main locals f stack table turns count live bounds coexps =
    let reach : Reach = reach_of m.world [] in
    let stacks : AreLiveStacks t reach (first_table f) =
    record {
      runs = subst (λ (x : FlatStack). IsLiveStack t reach x) (sym stack) (live_begin t reach main locals 0 count live);
      coexps = first_status t reach;
    }
    in
    let fits : FitTurns m.turns m.stacks.table.active (heap_of m.world.heap).coexps =
    subst (λ (n : ℕ). FitTurns n m.stacks.table.active (heap_of m.world.heap).coexps) (sym turns)
    (subst (λ (cs : List ℕ). FitTurns 0 m.stacks.table.active cs) (sym coexps)
    (subst (λ (u : CoexpTable). FitTurns 0 u.active (0 ∷ [])) (sym table) (record { all = first_counts; entered = λ p. absurd (omega (arith, p)) })))
    in
    record {
      stacks = subst (λ (u : CoexpTable). AreLiveStacks t reach u) (sym table) stacks;
      bounds = bounds;
      counts = ap (λ (cs : List ℕ). length cs) coexps ∙ ap (λ (u : CoexpTable). length u.coexps) (sym table);
      counted = record { results = fits; activators = subst (λ (u : CoexpTable). EnterOthers u.coexps) (sym table) first_activators };
    }

-- the list of values that are read in a slice

pub makes_of : (w v : World) (f : FlatStack) (xs vals : List Val) (result : Result Val Stop) → xs ≡ vals
    → MakesValue (list_row (map (value_in (extent_of w.heap)) xs)) w f v result → MakesValue (list_row (map (value_in (extent_of w.heap)) vals)) w f v result
makes_of w v f xs vals result e h = subst (λ (ys : List Val). MakesValue (list_row (map (value_in (extent_of w.heap)) ys)) w f v result) e h

pub enough_levels : (w v : World) → KeepsCounts w v → 1 ≤ (heap_of w.heap).bounds.levels → 1 ≤ (heap_of v.heap).bounds.levels
enough_levels w v k p = subst (λ b. 1 ≤ b.levels) (sym k.bounds) p

-- for whatever tables: of ones without procedures a frame without locals is one
pub any_tables : Tables
any_tables = record { strings = []; csets = []; integers = []; fields = []; records = []; globals = []; procs = [] }

pub bare_live : (reach : Reach) → IsLiveStack any_tables reach bare
unfolding any_tables
bare_live reach = live_begin any_tables reach 0 [] 0 refl (All-nil (IsLive reach.extent))

pub starts_with_halt : (K : Type 0) (tables : Tables) (launch : Launch) (halt other : Halt) → halt ≡ other → StartsAs {K =
    K} tables launch (Err other) → StartsAs {K = K} tables launch (Err halt)
starts_with_halt K tables launch halt other e h = subst (λ (x : Halt). StartsAs {K = K} tables launch (Err x)) (sym e) h

pub start_levels : (w : World) (tables : Tables) (bounds : Bounds) (words : List (List ℕ)) → world_of w ≡ world_charged tables bounds words
    → 1 ≤ bounds.levels → 1 ≤ (heap_of w.heap).bounds.levels
start_levels w tables bounds words e p = subst (λ (x : StoreWorld). 1 ≤ x.heap.bounds.levels) (sym e) p
