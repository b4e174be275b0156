-- A machine whose world grows.
use Rattle.std.proofs.Common.{◌≡◌, ℕ, suc, Bool, true, false, List, [], ◌∷◌, map, length, slice_get, Option, Some, None, refl, sym, ap, ◌∙◌, subst, ◌+◌}
use Rattle.std.specs.Prelude.{nat_le, ⊤}
use Rattle.std.specs.List.{All}
use Rattle.std.proofs.lemmas.List.Elements.{All-head, All-tail}
use Rattle.icn_value.specs.declared.val.Val.{Val}
use Rattle.icn_value.specs.Values.{Value, Text, Item, Val as ItemVal}
use Rattle.icn_value.specs.Store.{Names, Outside, Setting}
use Rattle.icn_defs.specs.Conversions.{form_of, text_made, text_of}
use Rattle.icn_defs.specs.Rows.{Row, Outcome, Fails, Gives, Suspends, Error, Ends, check, present, costs_made, costs_text, gives_value, new_list_of}
use Rattle.icn_defs.specs.StepRows.{list_row, text_row, record_row}
use Rattle.icn_heap.specs.Extents.{Extent, IsLive, KeepsValues, value_in}
use Rattle.icn_heap.specs.Heaps.{extent_of}
use Rattle.icn_vars.specs.declared.world.World.{World}
use Rattle.icn_vars.specs.Worlds.{Reach, KeepsItems, reach_of, setting_of, world_of}
use Rattle.icn_vars.proofs.GrowingWorlds.{locals_grow}
use Rattle.icn_frames.specs.Stacks.{FlatStack}
use Rattle.icn_coexp.specs.Transfers.{Coexp, CoexpTable}
use Rattle.icn_code.specs.Codes.{Tables}
use Rattle.icn_run.specs.Stacks.{Frames}
use Rattle.icn_run.specs.Step as code
use Rattle.icn_run.specs.Step.{Store, Status, Fresh, Active, Waiting, Exhausted, with_world}
use Rattle.icn_control.specs.Machines.{status_in, coexp_in, store_in, IsLiveStatus, AreLiveStacks, IsLiveRunning}
use Rattle.std.specs.Prelude.{Result, Ok, Err}
use Rattle.std.specs.Option.{option_map}
use Rattle.icn_vars.specs.declared.stop.Stop.{Stop}
use Rattle.icn_vars.specs.declared.stop.Stop.TheVariants.{Error as StopError, NoMemory as StopNoMemory}
use Rattle.icn_args.specs.RowWords.{IsFound}
use Rattle.icn_value.specs.Store.{bare_outside}
use Rattle.icn_control.specs.TakenOperands.{KeepsCounts, UnlessNoMemory}
use Rattle.icn_control.proofs.KeptItems.{stack_same, stack_stays}

-- What co-expressions keep

pub values_same : (old new : Extent) → KeepsValues old new → (values : List Val) → All (IsLive old) values
    → map (value_in new) values ≡ map (value_in old) values
values_same old new k [] a = refl
values_same old new k (v ∷ values) a =
    ap (λ (x : Value). x ∷ map (value_in new) values) (k.value v (All-head (IsLive old) v values a))
    ∙ ap (λ (xs : List Value). value_in old v ∷ xs) (values_same old new k values (All-tail (IsLive old) v values a))

status_same : (t : Tables) (old new : Reach) (s : Status FlatStack) → KeepsItems old new → IsLiveStatus t old s
    → status_in new.extent s ≡ status_in old.extent s
status_same t old new Fresh k l = refl
status_same t old new Active k l = refl
status_same t old new (Waiting m) k l = ap (λ (x : Frames). Waiting x) (stack_same t old new m k l)
status_same t old new Exhausted k l = refl

status_stays : (t : Tables) (old new : Reach) (s : Status FlatStack) → KeepsItems old new → IsLiveStatus t old s → IsLiveStatus t new s
status_stays t old new Fresh k l = tt
status_stays t old new Active k l = tt
status_stays t old new (Waiting m) k l = stack_stays t old new m k l
status_stays t old new Exhausted k l = tt

coexp_same : (t : Tables) (old new : Reach) (c : Coexp) → KeepsItems old new → IsLiveStatus t old c.status → All (IsLive old.extent) c.values
    → coexp_in new.extent c ≡ coexp_in old.extent c
coexp_same t old new c k s v =
    let F : Status Frames → List Value
    → code.Coexp Frames = λ x xs. record { status = x; activator = c.activator; values = xs; proc = c.proc; address = c.address } in
    ap (λ (x : Status Frames). F x (map (value_in new.extent) c.values)) (status_same t old new c.status k s)
    ∙ ap (F (status_in old.extent c.status)) (values_same old.extent new.extent k.extent c.values v)

coexps_same : (t : Tables) (old new : Reach) (cs : List Coexp)
    → KeepsItems old new → ((n : ℕ) (c : Coexp) → slice_get cs n ≡ Some c → IsLiveStatus t old c.status)
    → ((n : ℕ) (c : Coexp) → slice_get cs n ≡ Some c → All (IsLive old.extent) c.values)
    → map (coexp_in new.extent) cs ≡ map (coexp_in old.extent) cs
coexps_same t old new [] k s v = refl
coexps_same t old new (c ∷ cs) k s v =
    ap (λ (x : code.Coexp Frames). x ∷ map (coexp_in new.extent) cs) (coexp_same t old new c k (s 0 c refl) (v 0 c refl))
    ∙ ap (λ (xs : List (code.Coexp Frames)). coexp_in old.extent c ∷ xs) (coexps_same t old new cs k (λ n x e. s (suc n) x e) (λ n x e. v (suc n) x e))

-- the store in which the world has grown
pub grown_store : (t : Tables) (names : Names) (outside : Outside) (w v : World) (turns : ℕ) (begun : List Bool) (table : CoexpTable) (o : Option FlatStack)
    → KeepsItems (reach_of w []) (reach_of v []) → AreLiveStacks t (reach_of w []) table
    → with_world (world_of v) (store_in names outside (world_of w) turns begun (extent_of w.heap) table)
    ≡ store_in names outside (world_of v) turns begun (extent_of v.heap) (record table { running = o })
grown_store t names outside w v turns begun table o k l =
    let F : List (code.Coexp Frames)
    → Store Frames = λ cs. record { world = world_of v; outside = outside; turns = turns; begun = begun; coexps = cs; active = table.active; names = names } in
    ap F (sym (coexps_same t (reach_of w []) (reach_of v []) table.coexps k (λ n c e. (l.coexps n c e).status) (λ n c e. (l.coexps n c e).values)))

-- all stacks stay of the world, and another one runs that is of it
pub stacks_grow : (t : Tables) (w v : World) (table : CoexpTable) (n : FlatStack) → KeepsItems (reach_of w []) (reach_of v [])
    → IsLiveRunning t (reach_of v []) (Some n) → AreLiveStacks t (reach_of w []) table
    → AreLiveStacks t (reach_of v []) (record table { running = Some n })
stacks_grow t w v table n k l a = record {
  runs = l;
  coexps = λ i c e. let was = a.coexps i c e in record {
    status = status_stays t (reach_of w []) (reach_of v []) c.status k was.status;
    values = locals_grow (extent_of w.heap) (extent_of v.heap) c.values k.extent was.values;
    count = was.count;
  };
}

-- Rows that make a value keep the limits and the counts of results

record SameCounts (before after : Setting) : Type 0 where
  bounds : after.world.heap.bounds ≡ before.world.heap.bounds
  coexps : after.world.heap.coexps ≡ before.world.heap.coexps

-- where the row gives a value, and where it is an error
abbrev GivesSame : Setting → Outcome → Type 0
GivesSame before (Fails seen) = ⊤
GivesSame before (Gives item seen) = SameCounts before seen
GivesSame before (Suspends item rest seen) = ⊤
GivesSame before (Error number offending seen) = SameCounts before seen
GivesSame before (Ends status seen) = ⊤

on_check : (b : Bool) (number : ℕ) (offending : Option Value) (next : Row) (before at : Setting) → SameCounts before at → GivesSame before (next at)
    → GivesSame before (check b number offending next at)
on_check true number offending next before at k h = h
on_check false number offending next before at k h = k

list_counts : (values : List Value) (at : Setting) → GivesSame at (list_row values at)
list_counts values at =
    on_check (nat_le (at.world.heap.cells + (1 + length values)) at.world.heap.bounds.cells) 307 None _ at at
    (record { bounds = refl; coexps = refl }) (record { bounds = refl; coexps = refl })

record_counts : (kind : ℕ) (fields : List Value) (at : Setting) → GivesSame at (record_row kind fields at)
record_counts kind fields at =
    on_check (nat_le (at.world.heap.cells + (1 + length fields)) at.world.heap.bounds.cells) 307 None _ at at
    (record { bounds = refl; coexps = refl }) (record { bounds = refl; coexps = refl })

made_counts : (o : Option (List ℕ)) (text : List ℕ) (at : Setting) → GivesSame at (costs_made o (gives_value (Text text)) at)
made_counts None text at = record { bounds = refl; coexps = refl }
made_counts (Some bytes) text at =
    on_check (nat_le (at.world.heap.strings + length bytes) at.world.heap.bounds.strings) 306 None _ at at
    (record { bounds = refl; coexps = refl }) (record { bounds = refl; coexps = refl })

text_counts : (value : Value) (at : Setting) → GivesSame at (text_row value at)
text_counts value at = by_text (text_of value)
  where
    by_text : (o : Option (List ℕ)) → GivesSame at (present o 103 (Some value) (λ text. costs_text value (gives_value (Text text))) at)
    by_text None = record { bounds = refl; coexps = refl }
    by_text (Some text) = made_counts (text_made (form_of value)) text at

counts_by : (w v : World) (outside : Outside) (locals : List Val) (item : Item) (outcome : Outcome) → GivesSame (setting_of outside w locals) outcome
    → outcome ≡ Gives item (setting_of outside v locals) → KeepsCounts w v
counts_by w v outside locals item outcome h e =
    let same : SameCounts (setting_of outside w locals) (setting_of outside v locals) = subst (GivesSame (setting_of outside w locals)) e h in
    record { bounds = same.bounds; coexps = same.coexps }

-- and where it is an error
refused_by : (w v : World) (outside : Outside) (locals : List Val) (number : ℕ) (offending : Option Value) (outcome : Outcome)
    → GivesSame (setting_of outside w locals) outcome → outcome ≡ Error number offending (setting_of outside v locals) → KeepsCounts w v
refused_by w v outside locals number offending outcome h e =
    let same : SameCounts (setting_of outside w locals) (setting_of outside v locals) = subst (GivesSame (setting_of outside w locals)) e h in
    record { bounds = same.bounds; coexps = same.coexps }

pub list_refuses : (w v : World) (outside : Outside) (locals : List Val) (number : ℕ) (offending : Option Value) (values : List Value)
    → list_row values (setting_of outside w locals) ≡ Error number offending (setting_of outside v locals) → KeepsCounts w v
list_refuses w v outside locals number offending values e =
    refused_by w v outside locals number offending (list_row values (setting_of outside w locals)) (list_counts values (setting_of outside w locals)) e

pub record_refuses : (w v : World) (outside : Outside) (locals : List Val) (number : ℕ) (offending : Option Value) (kind : ℕ) (fields : List Value)
    → record_row kind fields (setting_of outside w locals) ≡ Error number offending (setting_of outside v locals) → KeepsCounts w v
record_refuses w v outside locals number offending kind fields e =
    refused_by w v outside locals number offending (record_row kind fields (setting_of outside w locals))
    (record_counts kind fields (setting_of outside w locals)) e

pub text_refuses : (w v : World) (outside : Outside) (locals : List Val) (number : ℕ) (offending : Option Value) (value : Value)
    → text_row value (setting_of outside w locals) ≡ Error number offending (setting_of outside v locals) → KeepsCounts w v
text_refuses w v outside locals number offending value e =
    refused_by w v outside locals number offending (text_row value (setting_of outside w locals)) (text_counts value (setting_of outside w locals)) e

pub list_keeps : (w v : World) (outside : Outside) (locals : List Val) (item : Item) (values : List Value)
    → list_row values (setting_of outside w locals) ≡ Gives item (setting_of outside v locals) → KeepsCounts w v
list_keeps w v outside locals item values e =
    counts_by w v outside locals item (list_row values (setting_of outside w locals)) (list_counts values (setting_of outside w locals)) e

pub record_keeps : (w v : World) (outside : Outside) (locals : List Val) (item : Item) (kind : ℕ) (fields : List Value)
    → record_row kind fields (setting_of outside w locals) ≡ Gives item (setting_of outside v locals) → KeepsCounts w v
record_keeps w v outside locals item kind fields e =
    counts_by w v outside locals item (record_row kind fields (setting_of outside w locals)) (record_counts kind fields (setting_of outside w locals)) e

pub text_keeps : (w v : World) (outside : Outside) (locals : List Val) (item : Item) (value : Value)
    → text_row value (setting_of outside w locals) ≡ Gives item (setting_of outside v locals) → KeepsCounts w v
text_keeps w v outside locals item value e =
    counts_by w v outside locals item (text_row value (setting_of outside w locals)) (text_counts value (setting_of outside w locals)) e

pub list_counted : (w v : World) (locals : List Val) (values : List Value) (result : Result Val Stop)
    → ((outside : Outside)
    → IsFound (extent_of v.heap) (new_list_of values) (setting_of outside w locals) (setting_of outside v locals) (value_in (extent_of v.heap)) result)
    → UnlessNoMemory result (KeepsCounts w v)
list_counted w v locals values (Ok val) f =
    list_keeps w v bare_outside locals (ItemVal (value_in (extent_of v.heap) val)) values (f bare_outside gives_value)
list_counted w v locals values (Err (StopError number offending)) f =
    list_refuses w v bare_outside locals number (option_map (value_in (extent_of v.heap)) offending) values (f bare_outside gives_value)
list_counted w v locals values (Err StopNoMemory) f = tt
