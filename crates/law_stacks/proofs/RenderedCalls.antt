-- Each call keeps the relation of chains and flat stacks.
use Rattle.std.proofs.Common.{◌≡◌, ℕ, zero, suc, List, [], ◌∷◌, ◌++◌, length, map, Bool, true, false, Option, None, refl, sym, ap, ◌∙◌, subst, if◌then◌else◌}
use Rattle.std.specs.Prelude.{pred}
use Rattle.std.specs.Option.{option_map}
use Rattle.icn_run.specs.Rows.{Item}
use Rattle.icn_run.specs.Stacks as S
use Rattle.icn_run.specs.Stacks.{Registers, Cell, Frames}
use Rattle.icn_run.specs.Chains as L
use Rattle.icn_run.specs.Chains.{Label, fixed, flagged, Chain, chain, Suspensions, none, Outer, LinkedStack, frame_of, outer_of}
use Rattle.law_stacks.specs.Rendered.{Flag, memory_of, linked_with, NCell, n_base, n_call, n_mark, n_limit, n_operand, RenderedWorld, shown_label, count_of, shown_cell, render, AllOk, locs, Bare, FlatScans, LabelOk, IsFlat, f_chain, FlatSusps, f_none, FlatOuter, f_base, f_call, f_mark, f_limit, Now, now, Next}
use Rattle.law_stacks.specs.AgreeingMachines.{Both, Then, With}
use Rattle.law_stacks.proofs.CellLists.{length_map}
use Rattle.law_stacks.proofs.NumberedCells.{Moves, made_moves, made_next, made_flag, flag_made, made_limit, limit_made, all_moves, render_moves, use_all}
use Rattle.law_stacks.proofs.Flattening.{blank, popped_blank, taken_blank, locals_split, stands_under, raise_scans, frame_found, same_proc, same_level, same_base, same_below}

-- the linked stack of a chain, with what its numbers hold now
abbrev pub linked_now : RenderedWorld → Chain → ℕ → LinkedStack
linked_now w c q = linked_with w.kept c q

-- the flat stack that numbered cells show
abbrev pub flat_now : RenderedWorld → List NCell → Registers → ℕ → Frames
flat_now w cells r q = record { cells = render w.kept cells; registers = r; address = q }

-- a world may be followed by itself
pub next_refl : (s : ℕ) (w : RenderedWorld) → Next s w w
next_refl s w t n h k d o = o

module _ (repeats : ℕ → ℕ → Bool) (Opens : ℕ → ℕ → Option ℕ → Type 0) where
  -- a linked stack and a flat one correspond in this world
  abbrev pub RelatedNow : RenderedWorld → ℕ → LinkedStack → Frames → Type 0
  RelatedNow w s m' m = Now repeats Opens w s m' m

  -- they correspond in some later world
  abbrev pub RelatedThen : RenderedWorld → ℕ → LinkedStack → Frames → Type 0
  RelatedThen w s m' m = Then Next RelatedNow w s m' m

  abbrev pub WithT : {A : Type 0} → RenderedWorld → ℕ → A × LinkedStack → A × Frames → Type 0
  WithT w s x y = With Next RelatedNow w s x y

  -- cells that are shown so
  pub now_as : (w : RenderedWorld) (s : ℕ) (c : Chain) (q : ℕ) (r : Registers) (shows : List Cell) (cells : List NCell) → shows ≡ render w.kept cells
      → IsFlat repeats Opens c cells r → AllOk w s cells
      → RelatedNow w s (linked_with w.kept c q) (record { cells = shows; registers = r; address = q })
  now_as w s c q r shows cells e f o =
      subst (λ l. RelatedNow w s (linked_with w.kept c q) (record { cells = l; registers = r; address = q })) (sym e) (now cells f o)

  -- What stands at the innermost mark

  pub data OuterView (cells : List NCell) (h b : ℕ) : Outer → Type 0 where
    view_base : {p a : ℕ} (n : ℕ) (above : List NCell) → cells ≡ above ++ n_base p a n ∷ [] → h ≡ 1 → OuterView cells h b (L.base p a)
    view_call : {p a level q : ℕ} {caller : Chain} (n : ℕ) (r : Registers) (above below : List NCell) → cells ≡ above ++ n_call p a n level r q ∷ below
        → h ≡ suc (length below) → IsFlat repeats Opens caller below r → OuterView cells h b (L.call p a level q caller)
    view_mark : {label : Label} {outside : Chain} (r : Registers) (above below : List NCell) → cells ≡ above ++ n_mark label r ∷ below → h ≡ suc (length below)
        → b ≡ r.base
        → LabelOk repeats Opens (L.proc_of (frame_of (outer_of outside))) label → IsFlat repeats Opens outside below r
        → OuterView cells h b (L.mark label outside)
    view_limit : {n : ℕ} {outside : Chain} (r : Registers) (above below : List NCell) → cells ≡ above ++ n_limit n r ∷ below → h ≡ suc (length below)
        → b ≡ r.base
        → IsFlat repeats Opens outside below r → OuterView cells h b (L.limit n outside)

  pub outer_view : {o : Outer} {cells z : List NCell} {h b : ℕ} (xs : List NCell) → cells ≡ xs ++ z → FlatOuter repeats Opens o z h b → OuterView cells h b o
  outer_view xs e (f_base {p} {a} n above f g k) =
      view_base n ((xs ++ above) ++ locs a 0 n []) (stands_under (xs ++ above) (locs a 0 n []) _ (stands_under xs above _ e f) (locals_split a 0 n _)) g
  outer_view xs e (f_call {p} {a} n r above below f g k i) =
      view_call n r ((xs ++ above) ++ locs a 0 n []) below
      (stands_under (xs ++ above) (locs a 0 n []) _ (stands_under xs above _ e f) (locals_split a 0 n _)) g i
  outer_view xs e (f_mark r above below f g k l i) = view_mark r (xs ++ above) below (stands_under xs above _ e f) g k l i
  outer_view xs e (f_limit r above below f g k i) = view_limit r (xs ++ above) below (stands_under xs above _ e f) g k i

  -- Reading

  pub on_proc : (w : RenderedWorld) (s : ℕ) (m' : LinkedStack) (m : Frames) → RelatedNow w s m' m → L.proc_of (L.frame m') ≡ S.proc m
  on_proc w s m' m (now cells f o) = same_proc repeats Opens w.kept (frame_found repeats Opens f)

  pub on_level : (w : RenderedWorld) (s : ℕ) (m' : LinkedStack) (m : Frames) → RelatedNow w s m' m → L.level_of (L.frame m') ≡ S.level m
  on_level w s m' m (now cells f o) = same_level repeats Opens w.kept (frame_found repeats Opens f)

  pub on_base : (w : RenderedWorld) (s : ℕ) (m' : LinkedStack) (m : Frames) → RelatedNow w s m' m → L.is_base_frame (L.frame m') ≡ S.is_base m
  on_base w s m' m (now cells f o) = same_base repeats Opens w.kept (frame_found repeats Opens f)

  pub on_place : (w : RenderedWorld) (s : ℕ) (m' : LinkedStack) (m : Frames) → RelatedNow w s m' m → m'.address ≡ m.address
  on_place w s m' m (now cells f o) = refl

  pub on_below : (w : RenderedWorld) (s : ℕ) (m' : LinkedStack) (m : Frames) → RelatedNow w s m' m → L.below m' ≡ S.below m
  on_below w s m' m (now cells (f_chain {items = items} z e b out su sc) o) = same_below repeats Opens w.kept (map n_operand items) e out

  pub on_go : (q : ℕ) (w : RenderedWorld) (s : ℕ) (m' : LinkedStack) (m : Frames) → RelatedNow w s m' m → RelatedThen w s (record m' { address = q }) (S.go q m)
  on_go q w s m' m (now cells f o) = (w, next_refl s w, now cells f o)

  -- Operands

  pub on_push : (item : Item) (w : RenderedWorld) (s : ℕ) (m' : LinkedStack) (m : Frames) → RelatedNow w s m' m
      → RelatedThen w s (L.push item m') (S.push item m)
  on_push item w s m' m (now cells (f_chain {items = items} z e b out su sc) o) =
      (w, next_refl s w, now (n_operand item ∷ cells) (f_chain z (ap (λ l. n_operand item ∷ l) e) b out su sc) (tt, o))

  module _ (w : RenderedWorld) (s q : ℕ) (r : Registers) (su : Suspensions) (scans : List ℕ) (outer : Outer) (z : List NCell) (b : Bare z)
      (out : FlatOuter repeats Opens outer z r.mark r.base) (fs : FlatSusps repeats Opens su z r.newest) (sc : FlatScans scans z r.scan) where
    pop_items : (m' : LinkedStack) (m : Frames) → m'.address ≡ q → memory_of m' ≡ w.kept → m.registers ≡ r → m.address ≡ q → (items : List Item)
        → AllOk w s (map n_operand items ++ z)
        → Both ⊥ (WithT w s) (L.pop_from (linked_now w (chain items su scans outer) q) (chain items su scans outer))
        (S.pop_from (flat_now w (map n_operand items ++ z) r q) (render w.kept (map n_operand items ++ z)))
    pop_items m' m p1 p2 p3 p4 [] o =
        subst (λ x. Both ⊥ (WithT {A = Item} w s) None x) (sym (popped_blank (flat_now w z r q) (render w.kept z) (blank w.kept z b))) tt
    pop_items m' m p1 p2 p3 p4 (x ∷ items) o = (refl, (w, next_refl s w, now (map n_operand items ++ z) (f_chain z refl b out fs sc) o.1))

    take_items : (m' : LinkedStack) (m : Frames) → ((items : List Item) → AllOk w s (map n_operand items ++ z)
        → RelatedThen w s (L.with_chain (chain items su scans outer) m') (record m { cells = render w.kept (map n_operand items ++ z) }))
        → (n : ℕ) (items frame_found : List Item) → AllOk w s (map n_operand items ++ z)
        → Both ⊥ (WithT {A = List Item} w s) (option_map (λ (parts : List Item × List Item). (parts.0, L.with_chain (chain parts.1 su scans outer) m'))
        (L.take_top n items frame_found)) (S.take_top n m (render w.kept (map n_operand items ++ z)) frame_found)
    take_items m' m f zero items frame_found o = (refl, f items o)
    take_items m' m f (suc n) [] frame_found o =
        subst (λ x. Both ⊥ (WithT {A = List Item} w s) None x) (sym (taken_blank n m (render w.kept z) frame_found (blank w.kept z b))) tt
    take_items m' m f (suc n) (x ∷ items) frame_found o = take_items m' m f n items (x ∷ frame_found) o.1

  pub on_pop : (w : RenderedWorld) (s : ℕ) (m' : LinkedStack) (m : Frames) → RelatedNow w s m' m → Both ⊥ (WithT w s) (L.pop m') (S.pop m)
  on_pop w s m' m (now {q = q} {r = r} cells (f_chain {items = items} {s = su} {scans = scans} {outer = outer} z e b out fs sc) o) =
      subst (λ l. Both ⊥ (WithT w s) (L.pop_from (linked_now w (chain items su scans outer) q) (chain items su scans outer))
      (S.pop_from (flat_now w l r q) (render w.kept l))) (sym e)
      (pop_items w s q r su scans outer z b out fs sc (linked_now w (chain items su scans outer) q) (flat_now w cells r q) refl refl refl refl items
      (subst (AllOk w s) e o))

  pub on_take : (n : ℕ) (w : RenderedWorld) (s : ℕ) (m' : LinkedStack) (m : Frames) → RelatedNow w s m' m → Both ⊥ (WithT w s) (L.take_items n m') (S.take n m)
  on_take n w s m' m (now {q = q} {r = r} cells (f_chain {items = items} {s = su} {scans = scans} {outer = outer} z e b out fs sc) o) =
      let m2 = flat_now w cells r q in let m1 = linked_now w (chain items su scans outer) q in
      subst (λ l. Both ⊥ (WithT {A = List Item} w s) (L.take_from n m1 (chain items su scans outer)) (S.take_top n m2 (render w.kept l) [])) (sym e)
      (take_items w s q r su scans outer z b out fs sc m1 m2
      (λ items o. (w, next_refl s w, now (map n_operand items ++ z) (f_chain z refl b out fs sc) o)) n items [] (subst (AllOk w s) e o))

  -- Marks

  mark_if : (label : Option ℕ) (w : RenderedWorld) (s q : ℕ) (r : Registers) (c : Chain) (cells : List NCell) → IsFlat repeats Opens c cells r
      → FlatScans (L.scans_of c) cells r.scan → AllOk w s cells → Opens (L.proc_of (frame_of (outer_of c))) (pred q) label
      → (t : Bool) → repeats (L.proc_of (frame_of (outer_of c))) (pred q) ≡ t
      → RelatedThen w s (if t then record (L.push_mark (flagged label (length w.kept.flags) (pred q)) (linked_now w c q)) { flags = w.kept.flags ++ false ∷ [] }
      else L.push_mark (fixed label) (linked_now w c q)) (S.open_mark label (flat_now w cells r q))
  mark_if label w s q r c cells f sc o opens false e = (
    w,
    next_refl s w,
    now (n_mark (fixed label) r ∷ cells) (f_chain {items = []} (n_mark (fixed label) r ∷ cells) refl tt (f_mark r [] cells refl
        (ap suc (length_map (shown_cell w.kept) cells)) refl (pred q, e, opens) f) f_none (raise_scans (n_mark (fixed label) r ∷ []) refl sc)) (tt, o),
  )
  mark_if label w s q r c cells f sc o opens true e =
      let h = suc (length cells) in let w2 = made_flag w s h in let d = flag_made w s h in let top = n_mark (flagged label (length w.kept.flags) (pred q)) r in
      let owned = d.new in
      let moves : Moves (λ n. Unit {0}) s w w2 = made_moves d s in (
        w2,
        made_next d,
        now_as w2 s (chain [] none (L.scans_of c) (L.mark (flagged label (length w.kept.flags) (pred q)) c)) q
            (record r { mark = suc (length (render w.kept cells)); newest = None }) (S.mark label false r ∷ render w.kept cells) (top ∷ cells)
            (ap (λ l. S.mark label false r ∷ l) (sym (render_moves (λ n. Unit {0}) s w w2 moves cells (use_all cells) o))
            ∙ ap (λ k. shown_label k label (pred q) r ∷ render w2.kept cells) (sym owned.holds))
            (f_chain {items = []} (top ∷ cells) refl tt (f_mark r [] cells refl (ap suc (length_map (shown_cell w.kept) cells)) refl opens f) f_none
            (raise_scans (top ∷ []) refl sc))
            ((Flag false, owned, tt), all_moves (λ n. Unit {0}) s w w2 moves cells (use_all cells) o),
      )

  pub scans_all : {c : Chain} {cells : List NCell} {r : Registers} → IsFlat repeats Opens c cells r → FlatScans (L.scans_of c) cells r.scan
  scans_all (f_chain {items = items} z e b out su sc) = raise_scans (map n_operand items) e sc

  pub on_mark : (label : Option ℕ) (w : RenderedWorld) (s : ℕ) (m' : LinkedStack) (m : Frames) → RelatedNow w s m' m → Opens (S.proc m) (pred m.address) label
      → RelatedThen w s (L.open_mark repeats label m') (S.open_mark label m)
  on_mark label w s m' m (now {c = c} {q = q} {r = r} cells f o) opens =
      mark_if label w s q r c cells f (scans_all f) o
      (subst (λ p. Opens p (pred q) label) (sym (same_proc repeats Opens w.kept (frame_found repeats Opens f))) opens)
      (repeats (L.proc_of (frame_of (outer_of c))) (pred q)) refl

  pub on_limit : (count : ℕ) (w : RenderedWorld) (s : ℕ) (m' : LinkedStack) (m : Frames) → RelatedNow w s m' m
      → RelatedThen w s (L.open_limit count m') (S.open_limit count m)
  on_limit count w s m' m (now {c = c} {q = q} {r = r} cells f o) =
      let h = suc (length cells) in let w2 = made_limit w s h count in let d = limit_made w s h count in let top = n_limit (length w.kept.limits) r in
      let owned = d.new in
      let moves : Moves (λ n. Unit {0}) s w w2 = made_moves d s in (
        w2,
        made_next d,
        now_as w2 s (chain [] none (L.scans_of c) (L.limit (length w.kept.limits) c)) q (record r { mark = suc (length (render w.kept cells)); newest = None })
            (S.limit count r ∷ render w.kept cells) (top ∷ cells)
            (ap (λ l. S.limit count r ∷ l) (sym (render_moves (λ n. Unit {0}) s w w2 moves cells (use_all cells) o))
            ∙ ap (λ k. S.limit (count_of k) r ∷ render w2.kept cells) (sym owned.holds))
            (f_chain {items = []} (top ∷ cells) refl tt (f_limit r [] cells refl (ap suc (length_map (shown_cell w.kept) cells)) refl f) f_none
            (raise_scans (top ∷ []) refl (scans_all f)))
            ((count, owned), all_moves (λ n. Unit {0}) s w w2 moves cells (use_all cells) o),
      )
