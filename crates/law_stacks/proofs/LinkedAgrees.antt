-- Linked chains agree with flat stacks, call by call.
use Rattle.std.proofs.Common.{◌≡◌, ◌≢◌, ℕ, List, [], ◌∷◌, length, map, Bool, Option, None, refl, sym, ap, ◌∙◌, subst, arith}
use Rattle.icn_run.specs.Rows.{Value}
use Rattle.icn_run.specs.Calls.{Pair, Why}
use Rattle.icn_run.specs.Stacks as S
use Rattle.icn_run.specs.Stacks.{Frames}
use Rattle.icn_run.specs.Chains as L
use Rattle.icn_run.specs.Chains.{chain, none, LinkedStack, WaitingChain}
use Rattle.law_stacks.specs.Rendered.{CellName, Content, Memory, memory_of, linked_with, n_base, n_operand, RenderedWorld, IsOwned, locs, f_no_scan, IsFlat, f_chain, f_none, f_base, now, Away, away, Next}
use Rattle.law_stacks.specs.AgreeingMachines.{Both, With}
use Rattle.law_stacks.proofs.NumberedCells.{Moves, made_next, made_locals, locals_made, all_moves, render_moves, use_all}
use Rattle.law_stacks.proofs.Flattening.{locals_bare, raise_scans, frame_found}
use Rattle.law_stacks.proofs.ScanNumbers.{no_scan, first_at, oldest_at}
use Rattle.law_stacks.proofs.RenderedCalls.{linked_now, flat_now, RelatedNow, RelatedThen, now_as, outer_view, on_proc}
use Rattle.law_stacks.proofs.ScansApart.{ScansApart, scans_apart}
use Rattle.law_stacks.specs.AgreeingMachines.{Agrees}
use Rattle.law_stacks.proofs.RenderedCalls.{on_level, on_base, on_place, on_below, on_go, on_push, on_pop, on_take, on_mark, on_limit}
use Rattle.law_stacks.proofs.RenderedMarks.{Lacks, on_relabel, on_count, on_unmark, on_drop}
use Rattle.law_stacks.proofs.RenderedFrames.{suspend_why, mark_view, proc_found, leave_found, resume_at, swap_found, entered, locals_found, set_found, first_get, shown_locals, locs_ok}

module _ (repeats : ℕ → ℕ → Bool) (Opens : ℕ → ℕ → Option ℕ → Type 0) where
  abbrev Nw : RenderedWorld → ℕ → LinkedStack → Frames → Type 0
  Nw w s m' m = RelatedNow repeats Opens w s m' m

  abbrev Tn : RenderedWorld → ℕ → LinkedStack → Frames → Type 0
  Tn w s m' m = RelatedThen repeats Opens w s m' m

  abbrev Wt : {A : Type 0} → RenderedWorld → ℕ → A × LinkedStack → A × Frames → Type 0
  Wt w s x y = With Next Nw w s x y

  abbrev Aw : RenderedWorld → ℕ → WaitingChain → Frames → Type 0
  Aw w s k' k = Away repeats Opens w s k' k

  abbrev Holds : RenderedWorld → LinkedStack → Type 0
  Holds w m' = memory_of m' ≡ w.kept

  on_holds : (w : RenderedWorld) (s : ℕ) (m' : LinkedStack) (m : Frames) → Nw w s m' m → Holds w m'
  on_holds w s m' m (now cells f o) = refl

  on_stays : (w w' : RenderedWorld) (s t : ℕ) (k' : WaitingChain) (k : Frames) → Next s w w' → t ≢ s → Aw w t k' k → Aw w' t k' k
  on_stays w w' s t k' k next d (away {c} {q} {r} cells f o) =
      let moves : Moves (λ n. Unit {0}) t w w' = λ (n : CellName) (h : ℕ) (k : Content) (u : Unit {0}) (p : IsOwned w n t h k). next t n h k d p in
      subst (λ l. Aw w' t (record { chain = c; address = q }) (record { cells = l; registers = r; address = q }))
      (render_moves (λ n. Unit {0}) t w w' moves cells (use_all cells) o)
      (away cells f (all_moves (λ n. Unit {0}) t w w' moves cells (use_all cells) o))

  on_kept : (w : RenderedWorld) (s : ℕ) (m' : LinkedStack) (m : Frames) → Nw w s m' m → Aw w s (record { chain = m'.chain; address = m'.address }) m
  on_kept w s m' m (now cells f o) = away cells f o

  on_taken_up : (w : RenderedWorld) (s : ℕ) (k' : WaitingChain) (k : Frames) (m' : LinkedStack) (m : Frames) → Aw w s k' k → Holds w m'
      → Nw w s (record m' { chain = k'.chain; address = k'.address }) k
  on_taken_up w s k' k m' m (away {c} {q} {r} cells f o) e = subst (λ F. Nw w s (linked_with F c q) (flat_now w cells r q)) (sym e) (now cells f o)

  on_begin : (p : ℕ) (values : List Value) (q : ℕ) (w : RenderedWorld) (s : ℕ) (m' : LinkedStack) (m : Frames) → Holds w m'
      → Tn w s (L.begin p values q m') (S.begin p values q m)
  on_begin p values q w s m' m e =
      let w2 = made_locals w s 1 values in let d = locals_made w s 1 values in let a = length w.kept.activations in let n = length values in
      let owned = d.new in let top = n_base p a n in
      subst (λ F. Tn w s (L.begin p values q (linked_with F m'.chain m'.address)) (S.begin p values q m)) (sym e) (
        w2,
        made_next d,
        now_as repeats Opens w2 s (chain [] none [] (L.base p a)) q (record { base = 1; mark = 1; newest = None; scan = None })
            (S.put_above values (S.base p n ∷ [])) (locs a 0 n (top ∷ []))
            (sym (shown_locals w2.kept a n values (top ∷ []) owned.holds refl))
            (f_chain {items = []} (locs a 0 n (top ∷ [])) refl (locals_bare a 0 n top [] tt) (f_base n [] refl refl refl) f_none f_no_scan)
            (locs_ok w2 s a 1 values owned 0 n (top ∷ []) refl (omega arith) ((values, owned, refl), tt)),
      )

  on_suspend : (why : Why) (w : RenderedWorld) (s : ℕ) (m' : LinkedStack) (m : Frames) → Nw w s m' m → Tn w s (L.suspend why m') (S.suspend why m)
  on_suspend why w s m' m (now {q} {r} cells (f_chain {items} {s = su} {scans} {outer} z e b out fs sc) o) =
      suspend_why repeats Opens w s q r items su scans outer cells (f_chain z e b out fs sc) o why

  on_suspend_mark : (w : RenderedWorld) (s : ℕ) (m' : LinkedStack) (m : Frames) → Nw w s m' m → Both ⊥ (Tn w s) (L.suspend_mark m') (S.suspend_mark m)
  on_suspend_mark w s m' m (now {q} {r} cells (f_chain {items} {s = su} {scans} {outer} z e b out fs sc) o) =
      mark_view repeats Opens w s q r items su scans outer cells (f_chain z e b out fs sc) o (outer_view repeats Opens (map n_operand items) e out)

  on_suspend_proc : (w : RenderedWorld) (s : ℕ) (m' : LinkedStack) (m : Frames) → Nw w s m' m → Both ⊥ (Tn w s) (L.suspend_proc m') (S.suspend_proc m)
  on_suspend_proc w s m' m (now {q} {r} cells (f_chain {items} {s = su} {scans} {outer} z e b out fs sc) o) =
      let f : IsFlat repeats Opens (chain items su scans outer) cells r = f_chain z e b out fs sc in
      proc_found repeats Opens w s q r items su scans outer cells f o (frame_found repeats Opens f)

  on_leave : (w : RenderedWorld) (s : ℕ) (m' : LinkedStack) (m : Frames) → Nw w s m' m → Both ⊥ (Tn w s) (L.leave m') (S.leave m)
  on_leave w s m' m (now {q} {r} cells (f_chain {items} {s = su} {scans} {outer} z e b out fs sc) o) =
      let f : IsFlat repeats Opens (chain items su scans outer) cells r = f_chain z e b out fs sc in
      leave_found repeats Opens w s q r items su scans outer cells f o (frame_found repeats Opens f)

  on_resume : (w : RenderedWorld) (s : ℕ) (m' : LinkedStack) (m : Frames) → Nw w s m' m → Both ⊥ (Wt w s) (L.resume m') (S.resume m)
  on_resume w s m' m (now {q} {r} cells (f_chain {items} {s = su} {scans} {outer} z e b out fs sc) o) =
      resume_at repeats Opens w s q r items su scans outer cells (f_chain z e b out fs sc) o r.newest (map n_operand items) refl e fs

  on_newest : (pair : Pair) (w : RenderedWorld) (s : ℕ) (m' : LinkedStack) (m : Frames) → Nw w s m' m
      → Both ⊥ (Wt w s) (L.swap_newest pair m') (S.swap_newest pair m)
  on_newest pair w s m' m (now {q} {r} cells (f_chain {items} {s = su} {scans} {outer} z e b out fs sc) o) =
      subst (λ x. Both ⊥ (Wt {A = Pair} w s) (L.swap_at pair (linked_now w (chain items su scans outer) q) x) (S.swap_newest pair (flat_now w cells r q)))
      (sym (first_get scans))
      (swap_found repeats Opens w s q r items su scans outer cells (f_chain z e b out fs sc) o pair (first_at (raise_scans (map n_operand items) e sc)))

  on_oldest : (pair : Pair) (w : RenderedWorld) (s : ℕ) (m' : LinkedStack) (m : Frames) → Nw w s m' m
      → Both ⊥ (Wt w s) (L.swap_oldest pair m') (S.swap_oldest pair m)
  on_oldest pair w s m' m (now {q} {r} cells (f_chain {items} {s = su} {scans} {outer} z e b out fs sc) o) =
      swap_found repeats Opens w s q r items su scans outer cells (f_chain z e b out fs sc) o pair
      (oldest_at w s cells o no_scan r q (raise_scans (map n_operand items) e sc))

  on_enter : (p : ℕ) (values : List Value) (w : RenderedWorld) (s : ℕ) (m' : LinkedStack) (m : Frames) → Nw w s m' m
      → Tn w s (L.enter p values m') (S.enter p values m)
  on_enter p values w s m' m (now {q} {r} cells (f_chain {items} {s = su} {scans} {outer} z e b out fs sc) o) =
      entered repeats Opens w s q r items su scans outer cells (f_chain z e b out fs sc) o p values

  on_locals : (w : RenderedWorld) (s : ℕ) (m' : LinkedStack) (m : Frames) → Nw w s m' m → L.locals m' ≡ S.locals m
  on_locals w s m' m (now {q} {r} cells (f_chain {items} {s = su} {scans} {outer} z e b out fs sc) o) =
      let f : IsFlat repeats Opens (chain items su scans outer) cells r = f_chain z e b out fs sc in
      locals_found repeats Opens w s q r items su scans outer cells f o (frame_found repeats Opens f)

  on_set_locals : (values : List Value) (w : RenderedWorld) (s : ℕ) (m' : LinkedStack) (m : Frames) → Nw w s m' m → length values ≡ length (S.locals m)
      → Tn w s (L.set_locals values m') (S.set_locals values m)
  on_set_locals values w s m' m (now {q} {r} cells (f_chain {items} {s = su} {scans} {outer} z e b out fs sc) o) len =
      let f : IsFlat repeats Opens (chain items su scans outer) cells r = f_chain z e b out fs sc in
      set_found repeats Opens w s q r items su scans outer cells f o values (frame_found repeats Opens f)
      (len ∙ sym (ap length (locals_found repeats Opens w s q r items su scans outer cells f o (frame_found repeats Opens f))))

  -- each call on linked marks agrees with the one on flat stacks, but for marks without a cell
  pub linked_agrees : Agrees (L.linked_calls repeats) S.flat Opens (Lacks repeats Opens)
  linked_agrees = record {
    W = RenderedWorld;
    Now = Nw;
    Away = Aw;
    Holds = Holds;
    Next = Next;
    holds = on_holds;
    stays = on_stays;
    kept = on_kept;
    taken_up = on_taken_up;
    begin = on_begin;
    proc = on_proc repeats Opens;
    level = on_level repeats Opens;
    is_base = on_base repeats Opens;
    locals = on_locals;
    address = on_place repeats Opens;
    below = on_below repeats Opens;
    set_locals = on_set_locals;
    go = on_go repeats Opens;
    go_address = λ q m. refl;
    go_proc = λ q m. refl;
    push = on_push repeats Opens;
    pop = on_pop repeats Opens;
    take = on_take repeats Opens;
    mark = on_mark repeats Opens;
    limit = on_limit repeats Opens;
    relabel = on_relabel repeats Opens;
    count_down = on_count repeats Opens;
    unmark = on_unmark repeats Opens;
    drop_mark = on_drop repeats Opens;
    suspend = on_suspend;
    suspend_mark = on_suspend_mark;
    suspend_proc = on_suspend_proc;
    resume = on_resume;
    swap_newest = on_newest;
    swap_oldest = on_oldest;
    enter = on_enter;
    leave = on_leave;
  }

  -- open scans are another each
  pub now_apart : (w : linked_agrees.W) (s : ℕ) (m' : LinkedStack) (m : Frames) → linked_agrees.Now w s m' m → ScansApart m'
  unfolding linked_agrees
  now_apart w s m' m (now cells (f_chain {items} {s = su} {scans} {outer} z e b out fs sc) o) =
      scans_apart w s cells (raise_scans (map n_operand items) e sc) o outer

  abbrev pub nothing_held : Memory
  nothing_held = record { activations = []; flags = []; relabels = []; limits = []; saved = [] }

  -- nothing is held yet
  pub at_start : (w : linked_agrees.W) × linked_agrees.Holds w L.empty
  unfolding linked_agrees
  at_start = (
    record {
      kept = nothing_held;
      owners = record { activations = []; flags = []; limits = []; saved = [] };
      same_activations = refl;
      same_flags = refl;
      same_limits = refl;
      same_saved = refl;
      unlabelled = λ n f. refl;
    },
    refl,
  )
