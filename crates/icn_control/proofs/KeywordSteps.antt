-- What a keyword gives is pushed, or it fails; a text that it gives is new in the heap.
use Rattle.std.proofs.Common.{◌≡◌, ℕ, List, Bool, [], Option, Some, None, sym, ap, ◌∙◌, subst}
use Rattle.std.specs.Option.{option_map}
use Rattle.icn_text.specs.declared.keyword.Keyword.{Keyword}
use Rattle.icn_value.specs.declared.item.Item.{Item as HeldItem}
use Rattle.icn_value.specs.Store.{Heap, Names, Outside, World as StoreWorld}
use Rattle.icn_defs.specs.Keywords.{keyword_item}
use Rattle.icn_heap.specs.Heaps.{extent_of}
use Rattle.icn_vars.specs.declared.world.World.{World}
use Rattle.icn_vars.specs.Worlds.{KeepsItems, IsLiveItem, item_in, reach_of, world_of}
use Rattle.icn_frames.specs.Stacks as held
use Rattle.icn_frames.specs.Stacks.{FlatStack}
use Rattle.law_frames.proofs.CallsRead.{level_read}
use Rattle.icn_coexp.specs.Transfers as table
use Rattle.icn_coexp.specs.Transfers.{CoexpTable}
use Rattle.icn_code.specs.declared.instr.Instr.TheVariants as Instrs
use Rattle.icn_code.specs.Codes.{Tables}
use Rattle.icn_run.specs.Rows as rows
use Rattle.icn_run.specs.Stacks.{Frames, flat}
use Rattle.icn_run.specs.Step as code
use Rattle.icn_run.specs.Step.{State, Store, running, failing, instruction, pushed_or_fails, with_world}
use Rattle.icn_control.specs.KeywordsRead.{standing_at}
use Rattle.icn_control.specs.LiveStacks.{IsLiveStack, with_locals}
use Rattle.icn_control.specs.Machines.{AreLiveStacks, running_of, store_in}
use Rattle.icn_control.specs.ResultCounts.{FitTurns}
use Rattle.icn_control.specs.StackViews.{reading_of, stack_in}
use Rattle.icn_control.specs.TransfersRead.{Beside}
use Rattle.icn_control.proofs.GrowthSteps.{grown_store, stacks_grow}
use Rattle.icn_control.proofs.KeptItems.{stack_same, stack_stays}
use Rattle.icn_control.proofs.LiteralSteps.{running_live}
use Rattle.icn_control.proofs.LiveCalls.{live_push, own_locals}
use Rattle.icn_control.proofs.TransferSteps.{source_is}

-- what stands beside the co-expressions of a machine in this world
abbrev beside_in : Names → Outside → World → ℕ → List Bool → Beside
beside_in names outside w turns begun =
    record { names = names; outside = outside; world = world_of w; turns = turns; begun = begun; all = extent_of w.heap }

-- by what the keyword gives
keyword_goes : (names : Names) (outside : Outside) (w : World) (turns : ℕ) (begun : List Bool) (t : CoexpTable) (m : FlatStack) (tables : Tables)
    (word : Keyword) (level current source : ℕ) (item : Option rows.Item)
    → t.running ≡ Some m → level ≡ held.level m → current ≡ t.active → source ≡ table.source t
    → item ≡ keyword_item (standing_at level current source w) word
    → instruction flat tables (Instrs.Keywd word) (stack_in (extent_of w.heap) (running_of t.running))
    (store_in names outside (world_of w) turns begun (extent_of w.heap) t)
    ≡ pushed_or_fails flat item (stack_in (extent_of w.heap) m) (store_in names outside (world_of w) turns begun (extent_of w.heap) t)
keyword_goes names outside w turns begun t m tables word level current source item r l a s i =
    let st : Store Frames = store_in names outside (world_of w) turns begun (extent_of w.heap) t in
    let F : ℕ → ℕ → ℕ → State Frames Frames = λ x y z.
    pushed_or_fails flat (keyword_item (record { level = x; current = y; source = z; kept = st.world.kept }) word) (stack_in (extent_of w.heap) m) st in
    ap (λ (o : Option FlatStack). instruction flat tables (Instrs.Keywd word) (stack_in (extent_of w.heap) (running_of o)) st) r
    ∙ ap (λ (k : ℕ). F k t.active (code.activator_of t.active st)) (level_read (reading_of (extent_of w.heap)) m ∙ sym l)
    ∙ ap (λ (k : ℕ). F level k (code.activator_of t.active st)) (sym a)
    ∙ ap (λ (k : ℕ). F level current k) (source_is (beside_in names outside w turns begun) t ∙ sym s)
    ∙ ap (λ (o : Option rows.Item). pushed_or_fails flat o (stack_in (extent_of w.heap) m) st) (sym i)

-- the store is that of the world in which a text is new
store_grown : (t : Tables) (names : Names) (outside : Outside) (w v : World) (turns : ℕ) (begun : List Bool) (table : CoexpTable) (n : FlatStack)
    → KeepsItems (reach_of w []) (reach_of v []) → world_of v ≡ world_of w → AreLiveStacks t (reach_of w []) table
    → store_in names outside (world_of w) turns begun (extent_of w.heap) table
    ≡ store_in names outside (world_of v) turns begun (extent_of v.heap) (record table { running = Some n })
store_grown t names outside w v turns begun table n k same l =
    ap (λ (x : StoreWorld). with_world x (store_in names outside (world_of w) turns begun (extent_of w.heap) table)) (sym same)
    ∙ grown_store t names outside w v turns begun table (Some n) k l

-- it gives nothing
pub keyword_fails : (t tables : Tables) (names : Names) (outside : Outside) (w v : World) (turns : ℕ) (begun : List Bool) (tab : CoexpTable) (m : FlatStack)
    (word : Keyword) (level current source : ℕ) (item : Option HeldItem)
    → tab.running ≡ Some m → level ≡ held.level m → current ≡ tab.active → source ≡ table.source tab
    → option_map (item_in (extent_of v.heap)) item ≡ keyword_item (standing_at level current source w) word → item ≡ None
    → KeepsItems (reach_of w []) (reach_of v []) → world_of v ≡ world_of w → AreLiveStacks t (reach_of w []) tab → IsLiveStack t (reach_of w []) m
    → instruction flat tables (Instrs.Keywd word) (stack_in (extent_of w.heap) (running_of tab.running))
    (store_in names outside (world_of w) turns begun (extent_of w.heap) tab)
    ≡ failing (stack_in (extent_of v.heap) m) (store_in names outside (world_of v) turns begun (extent_of v.heap) (record tab { running = Some m }))
keyword_fails t tables names outside w v turns begun tab m word level current source item r l a s i none k same live on =
    let st : Store Frames = store_in names outside (world_of w) turns begun (extent_of w.heap) tab in
    keyword_goes names outside w turns begun tab m tables word level current source (option_map (item_in (extent_of v.heap)) item) r l a s i
    ∙ ap (λ (o : Option HeldItem). pushed_or_fails flat (option_map (item_in (extent_of v.heap)) o) (stack_in (extent_of w.heap) m) st) none
    ∙ ap (λ (x : Frames). failing x st) (sym (stack_same t (reach_of w []) (reach_of v []) m k on))
    ∙ ap (failing (stack_in (extent_of v.heap) m)) (store_grown t names outside w v turns begun tab m k same live)

-- what it gives is pushed
pub keyword_runs : (t tables : Tables) (names : Names) (outside : Outside) (w v : World) (turns : ℕ) (begun : List Bool) (tab : CoexpTable)
    (m n : FlatStack) (word : Keyword) (level current source : ℕ) (item : Option HeldItem) (x : HeldItem)
    → tab.running ≡ Some m → level ≡ held.level m → current ≡ tab.active → source ≡ table.source tab
    → option_map (item_in (extent_of v.heap)) item ≡ keyword_item (standing_at level current source w) word → item ≡ Some x → n ≡ held.push x m
    → KeepsItems (reach_of w []) (reach_of v []) → world_of v ≡ world_of w → AreLiveStacks t (reach_of w []) tab → IsLiveStack t (reach_of w []) m
    → instruction flat tables (Instrs.Keywd word) (stack_in (extent_of w.heap) (running_of tab.running))
    (store_in names outside (world_of w) turns begun (extent_of w.heap) tab)
    ≡ running (stack_in (extent_of v.heap) n) (store_in names outside (world_of v) turns begun (extent_of v.heap) (record tab { running = Some n }))
keyword_runs t tables names outside w v turns begun tab m n word level current source item x r l a s i some p k same live on =
    let st : Store Frames = store_in names outside (world_of w) turns begun (extent_of w.heap) tab in
    keyword_goes names outside w turns begun tab m tables word level current source (option_map (item_in (extent_of v.heap)) item) r l a s i
    ∙ ap (λ (o : Option HeldItem). pushed_or_fails flat (option_map (item_in (extent_of v.heap)) o) (stack_in (extent_of w.heap) m) st) some
    ∙ ap (λ (y : Frames). pushed_or_fails flat (Some (item_in (extent_of v.heap) x)) y st) (sym (stack_same t (reach_of w []) (reach_of v []) m k on))
    ∙ ap (λ (y : FlatStack). running (stack_in (extent_of v.heap) y) st) (sym p)
    ∙ ap (running (stack_in (extent_of v.heap) n)) (store_grown t names outside w v turns begun tab n k same live)

-- What stands on the stacks is of the world in which a text is new.

pub keyword_pushed : (t : Tables) (w v : World) (table : CoexpTable) (m n : FlatStack) (x : HeldItem) → table.running ≡ Some m → n ≡ held.push x m
    → KeepsItems (reach_of w []) (reach_of v []) → IsLiveItem (with_locals (own_locals m) (reach_of v [])) x → AreLiveStacks t (reach_of w []) table
    → AreLiveStacks t (reach_of v []) (record table { running = Some n })
keyword_pushed t w v table m n x r p k item l =
    stacks_grow t w v table n k
    (subst (λ (y : FlatStack). IsLiveStack t (reach_of v []) y) (sym p)
    (live_push t (reach_of v []) m x (stack_stays t (reach_of w []) (reach_of v []) m k (running_live t (reach_of w []) table m r l)) item)) l

pub keyword_stays : (t : Tables) (w v : World) (table : CoexpTable) (m : FlatStack) → table.running ≡ Some m → KeepsItems (reach_of w []) (reach_of v [])
    → AreLiveStacks t (reach_of w []) table → AreLiveStacks t (reach_of v []) (record table { running = Some m })
keyword_stays t w v table m r k l =
    stacks_grow t w v table m k (stack_stays t (reach_of w []) (reach_of v []) m k (running_live t (reach_of w []) table m r l)) l

-- the counts of results stay in a heap that stands for the same
pub counts_stay : (turns active : ℕ) (old new : Heap) → new ≡ old → FitTurns turns active old.coexps → FitTurns turns active new.coexps
counts_stay turns active old new e f = subst (λ (h : Heap). FitTurns turns active h.coexps) (sym e) f
