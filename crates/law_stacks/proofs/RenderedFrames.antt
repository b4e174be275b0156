-- Each call keeps the relation of chains and flat stacks: suspensions, scans, calls, and new stacks.
use Rattle.std.proofs.Common.{◌≡◌, ◌≢◌, ℕ, zero, suc, ◌+◌, ◌<◌, ◌≤◌, ◌⊎◌, inl, inr, List, [], ◌∷◌, ◌++◌, length, map, Bool, Option, Some, None, refl, sym, ap, ◌∙◌, subst, arith, length-append, append_assoc}
use Rattle.std.specs.Prelude.{slice_get, slice_index_or}
use Rattle.std.specs.Option.{option_and_then}
use Rattle.icn_run.specs.Rows.{Value, Null, Item}
use Rattle.icn_run.specs.Calls.{Pair, Why, Alt, Op, Scan, Escan, Proc}
use Rattle.icn_run.specs.Stacks as S
use Rattle.icn_run.specs.Stacks.{Registers, Cell, Frames}
use Rattle.icn_run.specs.Chains as L
use Rattle.icn_run.specs.Chains.{fixed, flagged, Reason, because, scanning, Chain, chain, Suspensions, none, Outer, LinkedStack, Frame, frame_of}
use Rattle.law_stacks.specs.Rendered.{CellName, activation_name, flag_name, limit_name, saved_name, Content, Count, Saved, Locals, Memory, content_of, values_of, NCell, n_base, n_call, n_local, n_mark, n_limit, n_suspension, n_operand, RenderedWorld, IsOwned, saved_in, shown_cell, render, Ok, AllOk, locs, FlatScans, f_no_scan, f_scan, IsFlat, f_chain, FlatSusps, f_none, f_susp, f_call, now, Next}
use Rattle.law_stacks.specs.AgreeingMachines.{Both, With}
use Rattle.law_stacks.proofs.CellLists.{length_map, render_cut, render_get}
use Rattle.law_stacks.proofs.NumberedCells.{Moves, made_moves, made_next, change_moves, change_next, made_saved, saved_made, made_locals, locals_made, put_saved, saved_put, put_locals, locals_put, got_values, got_pair, index_got, all_moves, render_moves, use_all}
use Rattle.law_stacks.proofs.Flattening.{copied, as_mark, locals_split, locals_bare, locs_length, stands_under, raise_scans, raise_outer, FrameFound, found_base, found_call, frame_found, same_level}
use Rattle.law_stacks.proofs.ScanNumbers.{ScanAt, no_scan, scan_at, ok_rest, older_is}
use Rattle.law_stacks.proofs.RenderedCalls.{linked_now, flat_now, next_refl, RelatedNow, RelatedThen, now_as, OuterView, view_base, view_call, view_mark, view_limit, scans_all}
use Rattle.law_stacks.proofs.RenderedMarks.{changed_at}
use Rattle.law_stacks.proofs.NumberedCells.{Uses, UsesAll, ok_moves, shown_moves, one_height}
use Rattle.law_stacks.proofs.CellLists.{index_seam, cut_off, get_at, set_at}
use Rattle.law_stacks.proofs.Flattening.{frame_at}
use Rattle.std.proofs.lemmas.List.{map-append}

-- Locals

-- so many locals are shown as the values that their number holds
shown_from : (F : Memory) (a : ℕ) (us vs : List Value) (z : List NCell) → values_of (content_of F (activation_name a)) ≡ us ++ vs
    → render F (locs a (length us) (length vs) z) ≡ S.put_above vs (render F z)
shown_from F a us [] z e = refl
shown_from F a us (v ∷ vs) z e =
    let us' = us ++ v ∷ [] in
    let n : length us' ≡ suc (length us) = omega (arith, length-append us (v ∷ [])) in
    let i : slice_index_or (values_of (content_of F (activation_name a))) (length us) Null ≡ v = ap (λ l. slice_index_or l (length us) Null) e
    ∙ index_seam us v vs Null in
    ap (λ k. render F (locs a k (length vs) (n_local a (length us) ∷ z))) (sym n)
    ∙ shown_from F a us' vs (n_local a (length us) ∷ z) (e ∙ sym (append_assoc us (v ∷ []) vs))
    ∙ ap (λ x. S.put_above vs (S.local x ∷ render F z)) i

pub shown_locals : (F : Memory) (a n : ℕ) (vs : List Value) (z : List NCell) → content_of F (activation_name a) ≡ Some (Locals vs) → length vs ≡ n
    → render F (locs a 0 n z) ≡ S.put_above vs (render F z)
shown_locals F a n vs z e l = ap (λ k. render F (locs a 0 k z)) (sym l) ∙ shown_from F a [] vs z (ap values_of e)

pub locs_ok : (w : RenderedWorld) (s a b : ℕ) (vs : List Value) → IsOwned w (activation_name a) s b (Locals vs) → (i n : ℕ) (z : List NCell) → length z ≡ b + i
    → i + n ≤ length vs → AllOk w s z → AllOk w s (locs a i n z)
locs_ok w s a b vs owned i zero z e le o = o
locs_ok w s a b vs owned i (suc n) z e le o =
    locs_ok w s a b vs owned (suc i) n (n_local a i ∷ z) (omega arith) (omega arith) ((vs, b, owned, ap suc e, omega arith), o)

down : (vs : List Value) (k : ℕ) (z : List Cell) (frame_found : List Value)
    → S.locals_down (length vs + k) (S.put_above vs z) frame_found ≡ S.locals_down k z (vs ++ frame_found)
down [] k z frame_found = ap (λ n. S.locals_down n z frame_found) (omega arith)
down (v ∷ vs) k z frame_found =
    let e : length (v ∷ vs) + k ≡ length vs + suc k = omega arith in
    ap (λ n. S.locals_down n (S.put_above vs (S.local v ∷ z)) frame_found) e ∙ down vs (suc k) (S.local v ∷ z) frame_found

append_nil : {A : Type 0} (xs : List A) → xs ++ [] ≡ xs
append_nil [] = refl
append_nil (x ∷ xs) = ap (λ l. x ∷ l) (append_nil xs)

pub locals_at : (F : Memory) (a n b : ℕ) (c : NCell) (above below cells : List NCell) (vs : List Value) → cells ≡ above ++ locs a 0 n (c ∷ below)
    → b ≡ suc (length below) → content_of F (activation_name a) ≡ Some (Locals vs) → length vs ≡ n
    → S.locals_down n (S.cut (b + n) (render F cells)) [] ≡ vs
locals_at F a n b c above below cells vs e g h l =
    let y = locs a 0 n (c ∷ below) in
    let k : b + n ≡ length (render F y) = (let x = locs_length a 0 n (c ∷ below) in let x2 = length_map (shown_cell F) y in omega arith) in
    let k2 : n ≡ length vs + 0 = omega arith in
    ap (λ z. S.locals_down n (S.cut (b + n) (render F z)) []) e
    ∙ ap (λ z. S.locals_down n (S.cut (b + n) z) []) (map-append (shown_cell F) above y)
    ∙ ap (λ z. S.locals_down n z []) (cut_off (render F above) (render F y) (b + n) k ∙ shown_locals F a n vs (c ∷ below) h l)
    ∙ ap (λ j. S.locals_down j (S.put_above vs (render F (c ∷ below))) []) k2
    ∙ down vs 0 (render F (c ∷ below)) [] ∙ append_nil vs

-- all locals of a frame are set
above_split : (vs : List Value) (z : List Cell) → S.put_above vs z ≡ S.put_above vs [] ++ z
above_split [] z = refl
above_split (v ∷ vs) z =
    above_split vs (S.local v ∷ z) ∙ sym (append_assoc (S.put_above vs []) (S.local v ∷ []) z) ∙ ap (λ l. l ++ z) (sym (above_split vs (S.local v ∷ [])))

set_all : (ws vs : List Value) (above z : List Cell) (h : ℕ) → length vs ≡ length ws → h ≡ length z
    → S.set_from h ws (above ++ S.put_above vs z) ≡ above ++ S.put_above ws z
set_all [] [] above z h e g = refl
set_all [] (v ∷ vs) above z h e g = absurd (omega arith)
set_all (x ∷ ws) [] above z h e g = absurd (omega arith)
set_all (x ∷ ws) (v ∷ vs) above z h e g =
    let up = above ++ S.put_above vs [] in
    let split : (y : Value) → above ++ S.put_above vs (S.local y ∷ z) ≡ up ++ S.local y
    ∷ z = λ (y : Value). ap (λ l. above ++ l) (above_split vs (S.local y ∷ z)) ∙ sym (append_assoc above (S.put_above vs []) (S.local y ∷ z)) in
    let at : S.cell_at (suc h) (above ++ S.put_above vs (S.local v ∷ z)) ≡ Some (S.local v) = ap (S.cell_at (suc h)) (split v)
    ∙ get_at up (S.local v) z (suc h) (ap suc g) in
    let put_it : S.set_cell (suc h) (S.local x) (above ++ S.put_above vs (S.local v ∷ z)) ≡ above ++ S.put_above vs
    (S.local x ∷ z) = ap (S.set_cell (suc h) (S.local x)) (split v) ∙ set_at up (S.local v) (S.local x) z (suc h) (ap suc g) ∙ sym (split x) in
    ap (λ c. S.set_from (suc h) ws (S.set_local (suc h) x (above ++ S.put_above vs (S.local v ∷ z)) c)) at
    ∙ ap (S.set_from (suc h) ws) put_it
    ∙ set_all ws vs above (S.local x ∷ z) (suc h) (omega arith) (ap suc g)

-- cells outside of a frame's have other numbers
apart : (w : RenderedWorld) (a s b h : ℕ) (vs : List Value) → IsOwned w (activation_name a) s b (Locals vs) → (c : NCell) → (h < b) ⊎ (b + length vs < h)
    → Ok w s h c
    → Uses (λ m. m ≢ activation_name a) c
apart w a s b h vs owned c side o = by_cell c o
  where
    differs : (n : CellName) (k : Content) → IsOwned w n s h k → n ≢ activation_name a
    differs n k p e = let same = one_height w (activation_name a) s s b h (Locals vs) k owned (subst (λ m. IsOwned w m s h k) e p) in
        elim side as (λ x. ⊥) [ inl lt ↦ omega arith | inr gt ↦ omega arith ]

    abbreviated : (n : CellName) (i b' : ℕ) (us : List Value) → IsOwned w n s b' (Locals us) → h ≡ suc (b' + i) → i < length us → n ≢ activation_name a
    abbreviated n i b' us p g lt e =
        let q : IsOwned w (activation_name a) s b' (Locals us) = subst (λ m. IsOwned w m s b' (Locals us)) e p in
        let same = one_height w (activation_name a) s s b b' (Locals vs) (Locals us) owned q in
        let kept : length us ≡ length vs = ap (λ k. length (values_of k)) (sym q.holds ∙ owned.holds) in
        elim side as (λ x. ⊥) [ inl lt ↦ omega arith | inr gt ↦ omega arith ]

    by_cell : (c : NCell) → Ok w s h c → Uses (λ m. m ≢ activation_name a) c
    by_cell (n_base p x k) o = differs (activation_name x) (Locals o.0) o.1
    by_cell (n_call p x k level r q) o = differs (activation_name x) (Locals o.0) o.1
    by_cell (n_local x i) o = abbreviated (activation_name x) i o.1 o.0 o.2 o.3 o.4
    by_cell (n_mark (fixed l) r) o = tt
    by_cell (n_mark (flagged l f q) r) o = differs (flag_name f) o.0 o.1
    by_cell (n_limit n r) o = differs (limit_name n) (Count o.0) o.1
    by_cell (n_suspension (because why) r q) o = tt
    by_cell (n_suspension (scanning n) r q) o = differs (saved_name n) (Saved o.0) o.1
    by_cell (n_operand item) o = tt

apart_below : (w : RenderedWorld) (a s b : ℕ) (vs : List Value) → IsOwned w (activation_name a) s b (Locals vs) → (cs : List NCell) → length cs < b
    → AllOk w s cs
    → UsesAll (λ m. m ≢ activation_name a) cs
apart_below w a s b vs owned [] lt o = tt
apart_below w a s b vs owned (c ∷ cs) lt o = (apart w a s b (suc (length cs)) vs owned c (inl lt) o.0, apart_below w a s b vs owned cs (omega arith) o.1)

-- the cells above keep what they show
above_keeps : (w : RenderedWorld) (a s b : ℕ) (vs ws : List Value) → IsOwned w (activation_name a) s b (Locals vs) → (y : List NCell) → b + length vs ≤ length y
    → AllOk (put_locals w a ws) s y → (above : List NCell) → AllOk w s (above ++ y)
    → AllOk (put_locals w a ws) s (above ++ y) × (render (put_locals w a ws).kept above ≡ render w.kept above)
above_keeps w a s b vs ws owned y le oy [] o = (oy, refl)
above_keeps w a s b vs ws owned y le oy (c ∷ above) o =
    let rest = above_keeps w a s b vs ws owned y le oy above o.1 in
    let h = suc (length (above ++ y)) in
    let d = locals_put w a vs ws in
    let u = apart w a s b h vs owned c (inr (omega (arith, length-append above y))) o.0 in (
      (ok_moves (λ m. m ≢ activation_name a) s h w (put_locals w a ws) (change_moves d s) c u o.0, rest.0),
      ap (λ x. x ∷ render (put_locals w a ws).kept above) (shown_moves (λ m. m ≢ activation_name a) s h w (put_locals w a ws) (change_moves d s) c u o.0)
          ∙ ap (λ l. shown_cell w.kept c ∷ l) rest.1,
    )

pub ok_operands : (w : RenderedWorld) (s : ℕ) (items : List Item) (z : List NCell) → AllOk w s z → AllOk w s (map n_operand items ++ z)
ok_operands w s [] z o = o
ok_operands w s (x ∷ items) z o = (tt, ok_operands w s items z o)

pub first_get : (scans : List ℕ) → slice_get scans 0 ≡ L.first_scan scans
first_get [] = refl
first_get (n ∷ scans) = refl

module _ (repeats : ℕ → ℕ → Bool) (Opens : ℕ → ℕ → Option ℕ → Type 0) where
  abbrev Nw : RenderedWorld → ℕ → LinkedStack → Frames → Type 0
  Nw w s m' m = RelatedNow repeats Opens w s m' m

  abbrev Tn : RenderedWorld → ℕ → LinkedStack → Frames → Type 0
  Tn w s m' m = RelatedThen repeats Opens w s m' m

  abbrev Wt : {A : Type 0} → RenderedWorld → ℕ → A × LinkedStack → A × Frames → Type 0
  Wt w s x y = With Next Nw w s x y

  -- Suspensions

  suspended_with : {items : List Item} {su : Suspensions} {scans : List ℕ} {outer : Outer} {inside : Chain} {below cells : List NCell} {r r' : Registers}
      (reason : Reason) (q h : ℕ) (xs : List NCell)
      → IsFlat repeats Opens (chain items su scans outer) below r' → IsFlat repeats Opens inside cells r → cells ≡ xs ++ below → h ≡ suc (length cells)
      → (scans' : List ℕ) (x : Option ℕ) → FlatScans scans' (n_suspension reason r q ∷ cells) x
      → IsFlat repeats Opens (chain items (L.suspension reason q inside) scans' outer) (map n_operand items ++ n_suspension reason r q ∷ cells)
      (record { base = r'.base; mark = r'.mark; newest = Some h; scan = x })
  suspended_with {items} {cells = cells} {r = r} reason q h xs (f_chain z e bare out su sc) i f g scans' x sc' =
      let top = n_suspension reason r q in
      let up : top ∷ cells
      ≡ (top ∷ xs ++ map n_operand items) ++ z = ap (λ l. top ∷ l) (f ∙ ap (λ l. xs ++ l) e ∙ sym (append_assoc xs (map n_operand items) z)) in
      f_chain (top ∷ cells) refl tt (raise_outer repeats Opens (top ∷ xs ++ map n_operand items) up out) (f_susp g i) sc'

  copy_of : {items : List Item} {su : Suspensions} {scans : List ℕ} {outer : Outer} {below : List NCell} {r : Registers}
      → IsFlat repeats Opens (chain items su scans outer) below r → (F : Memory) (y : List NCell)
      → S.copy_up (render F below) (render F y) ≡ render F (map n_operand items ++ y)
  copy_of {items} (f_chain z e bare out su sc) F y = ap (λ l. S.copy_up (render F l) (render F y)) e ∙ copied F items z y bare

  module _ (w : RenderedWorld) (s q : ℕ) (r : Registers) (items : List Item) (su : Suspensions) (scans : List ℕ) (outer : Outer) (cells : List NCell)
      (f : IsFlat repeats Opens (chain items su scans outer) cells r) (o : AllOk w s cells) where
    abbrev c : Chain
    c = chain items su scans outer

    abbrev hh : ℕ
    hh = suc (length (render w.kept cells))

    hh_is : hh ≡ suc (length cells)
    hh_is = ap suc (length_map (shown_cell w.kept) cells)

    all : FlatScans scans cells r.scan
    all = scans_all repeats Opens f

    suspend_as : (why : Why) (scans' : List ℕ) (x : Option ℕ) → FlatScans scans' (n_suspension (because why) r q ∷ cells) x
        → Tn w s (linked_now w (chain items (L.suspension (because why) q c) scans' outer) q)
        (record {
          cells = S.copy_up (render w.kept cells) (S.suspension why r q ∷ render w.kept cells);
          registers = record { base = r.base; mark = r.mark; newest = Some hh; scan = x };
          address = q;
        })
    suspend_as why scans' x sc =
        let top = n_suspension (because why) r q in (
          w,
          next_refl s w,
          now_as repeats Opens w s (chain items (L.suspension (because why) q c) scans' outer) q
              (record { base = r.base; mark = r.mark; newest = Some hh; scan = x })
              (S.copy_up (render w.kept cells) (S.suspension why r q ∷ render w.kept cells)) (map n_operand items ++ top ∷ cells)
              (copy_of f w.kept (top ∷ cells))
              (suspended_with (because why) q hh [] f f refl hh_is scans' x sc) (ok_operands w s items (top ∷ cells) (tt, o)),
        )

    suspend_escan : {scans0 : List ℕ} (h : Option ℕ) → r.scan ≡ h → FlatScans scans0 cells h
        → Tn w s (linked_now w (L.without_scan (chain items (L.suspension (because Escan) q c) scans0 outer)) q) (S.suspend Escan (flat_now w cells r q))
    suspend_escan h e f_no_scan = suspend_as Escan [] (S.older_scan (render w.kept cells) r.scan)
        (subst (λ x. FlatScans [] (n_suspension (because Escan) r q ∷ cells) (S.older_scan (render w.kept cells) x)) (sym e) f_no_scan)
    suspend_escan h e (f_scan {n} {scans = scans'} q' r' above below g k i) =
        let x : S.older_scan (render w.kept cells) r.scan ≡ r'.scan = ap (S.older_scan (render w.kept cells)) e ∙ older_is w.kept n q' _ r' above below g k in
        suspend_as Escan scans' (S.older_scan (render w.kept cells) r.scan)
        (subst (λ y. FlatScans scans' (n_suspension (because Escan) r q ∷ cells) y) (sym x)
        (raise_scans (n_suspension (because Escan) r q ∷ above ++ n_suspension (scanning n) r' q' ∷ [])
        (ap (λ l. n_suspension (because Escan) r q ∷ l) (stands_under above (n_suspension (scanning n) r' q' ∷ []) below g refl)) i))

    suspend_scan : (pair : Pair) → Tn w s (L.suspend (Scan pair) (linked_now w c q)) (S.suspend (Scan pair) (flat_now w cells r q))
    suspend_scan pair =
        let h = suc (length cells) in let w2 = made_saved w s h pair in let d = saved_made w s h pair in
        let top = n_suspension (scanning (length w.kept.saved)) r q in
        let owned = d.new in
        let moves : Moves (λ n. Unit {0}) s w w2 = made_moves d s in
        let same : render w.kept cells ≡ render w2.kept cells = sym (render_moves (λ n. Unit {0}) s w w2 moves cells (use_all cells) o) in
        let regs : Registers = record { base = r.base; mark = r.mark; newest = Some hh; scan = Some hh } in (
          w2,
          made_next d,
          now_as repeats Opens w2 s (chain items (L.suspension (scanning (length w.kept.saved)) q c) (length w.kept.saved ∷ scans) outer) q regs
              (S.copy_up (render w.kept cells) (S.suspension (Scan pair) r q ∷ render w.kept cells)) (map n_operand items ++ top ∷ cells)
              (ap (λ l. S.copy_up l (S.suspension (Scan pair) r q ∷ l)) same
              ∙ ap (λ k. S.copy_up (render w2.kept cells) (S.suspension (Scan (saved_in k)) r q ∷ render w2.kept cells)) (sym owned.holds)
              ∙ copy_of f w2.kept (top ∷ cells))
              (suspended_with (scanning (length w.kept.saved)) q hh [] f f refl hh_is (length w.kept.saved ∷ scans) (Some hh)
              (f_scan q r [] cells refl hh_is all))
              (ok_operands w2 s items (top ∷ cells) ((pair, owned), all_moves (λ n. Unit {0}) s w w2 moves cells (use_all cells) o)),
        )

    pub suspend_why : (why : Why) → Tn w s (L.suspend why (linked_now w c q)) (S.suspend why (flat_now w cells r q))
    suspend_why Alt = suspend_as Alt scans r.scan (raise_scans (n_suspension (because Alt) r q ∷ []) refl all)
    suspend_why (Op residual) = suspend_as (Op residual) scans r.scan (raise_scans (n_suspension (because (Op residual)) r q ∷ []) refl all)
    suspend_why Proc = suspend_as Proc scans r.scan (raise_scans (n_suspension (because Proc) r q ∷ []) refl all)
    suspend_why Escan = suspend_escan r.scan refl all
    suspend_why (Scan pair) = suspend_scan pair

    -- onto a chain outside
    suspend_onto : (why : Why) (outside : Chain) (r' : Registers) (q' : ℕ) (xs below : List NCell) → cells ≡ xs ++ below → IsFlat repeats Opens outside below r'
        → Tn w s (linked_now w (L.suspend_in (L.suspension (because why) q c) outside) q')
        (S.suspended_onto why (flat_now w cells r q) (render w.kept below) r' q')
    suspend_onto why outside r' q' xs below e (f_chain {items = items'} {s = su'} {scans = scans'} {outer = outer'} z' e' bare' out' fs' sc') =
        let top = n_suspension (because why) r q in
        let i : IsFlat repeats Opens (chain items' su' scans' outer') below r' = f_chain z' e' bare' out' fs' sc' in (
          w,
          next_refl s w,
          now_as repeats Opens w s (chain items' (L.suspension (because why) q c) scans' outer') q'
              (record { base = r'.base; mark = r'.mark; newest = Some hh; scan = r'.scan })
              (S.copy_up (render w.kept below) (S.suspension why r q ∷ render w.kept cells)) (map n_operand items' ++ top ∷ cells)
              (copy_of i w.kept (top ∷ cells))
              (suspended_with (because why) q hh xs i f e hh_is scans' r'.scan (raise_scans (top ∷ xs) (ap (λ l. top ∷ l) e) (scans_all repeats Opens i)))
              (ok_operands w s items' (top ∷ cells) (tt, o)),
        )

    pub mark_view : {out : Outer} → OuterView repeats Opens cells r.mark r.base out
        → Both ⊥ (Tn w s) (L.suspend_outer (linked_now w c q) out) (S.suspend_mark (flat_now w cells r q))
    mark_view (view_base {p} {a} n above e g) =
        subst (λ x. Both ⊥ (Tn w s) None (S.mark_suspended (flat_now w cells r q) x)) (sym (render_cut w.kept above (n_base p a n) [] r.mark e g)) tt
    mark_view (view_call {p} {a} {level} {q = q'} n r' above below e g i) =
        subst (λ x. Both ⊥ (Tn w s) None (S.mark_suspended (flat_now w cells r q) x))
        (sym (render_cut w.kept above (n_call p a n level r' q') below r.mark e g)) tt
    mark_view (view_mark {label} {outside} r' above below e g b ok i) = let m = as_mark w.kept label r' in
        subst (λ x. Both ⊥ (Tn w s) (Some (L.with_chain (L.suspend_in (L.suspension (because Alt) q c) outside) (linked_now w c q)))
        (S.mark_suspended (flat_now w cells r q) x)) (sym (render_cut w.kept above (n_mark label r') below r.mark e g ∙ ap (λ x. x ∷ render w.kept below) m.2))
        (suspend_onto Alt outside r' q (above ++ n_mark label r' ∷ []) below (stands_under above (n_mark label r' ∷ []) below e refl) i)
    mark_view (view_limit {n} {outside} r' above below e g b i) =
        subst (λ x. Both ⊥ (Tn w s) (Some (L.with_chain (L.suspend_in (L.suspension (because Alt) q c) outside) (linked_now w c q)))
        (S.mark_suspended (flat_now w cells r q) x)) (sym (render_cut w.kept above (n_limit n r') below r.mark e g))
        (suspend_onto Alt outside r' q (above ++ n_limit n r' ∷ []) below (stands_under above (n_limit n r' ∷ []) below e refl) i)

    -- at the frame
    pub proc_found : {t : Frame} → FrameFound repeats Opens t cells r.base
        → Both ⊥ (Tn w s) (L.suspend_frame (linked_now w c q) t) (S.suspend_proc (flat_now w cells r q))
    proc_found (found_base {p} {a} n above e g) =
        subst (λ x. Both ⊥ (Tn w s) None (S.proc_suspended (flat_now w cells r q) x))
        (sym (render_cut w.kept (above ++ locs a 0 n []) (n_base p a n) [] r.base (stands_under above (locs a 0 n []) _ e (locals_split a 0 n _)) g)) tt
    proc_found (found_call {p} {a} {level} {q = q'} {caller} n r' above below e g i) =
        let e2 = stands_under above (locs a 0 n []) _ e (locals_split a 0 n (n_call p a n level r' q' ∷ below)) in let up = above ++ locs a 0 n [] in
        subst
        (λ x. Both ⊥ (Tn w s) (Some (linked_now w (L.suspend_in (L.suspension (because Proc) q c) caller) q')) (S.proc_suspended (flat_now w cells r q) x))
        (sym (render_cut w.kept up (n_call p a n level r' q') below r.base e2 g))
        (suspend_onto Proc caller r' q' (up ++ n_call p a n level r' q' ∷ []) below (stands_under up (n_call p a n level r' q' ∷ []) below e2 refl) i)

    pub leave_found : {t : Frame} → FrameFound repeats Opens t cells r.base
        → Both ⊥ (Tn w s) (L.leave_frame (linked_now w c q) t) (S.leave (flat_now w cells r q))
    leave_found (found_base {p} {a} n above e g) =
        subst (λ x. Both ⊥ (Tn w s) None (S.leave_from x))
        (sym (render_cut w.kept (above ++ locs a 0 n []) (n_base p a n) [] r.base (stands_under above (locs a 0 n []) _ e (locals_split a 0 n _)) g)) tt
    leave_found (found_call {p} {a} {level} {q = q'} {caller} n r' above below e g i) =
        let e2 = stands_under above (locs a 0 n []) _ e (locals_split a 0 n (n_call p a n level r' q' ∷ below)) in let up = above ++ locs a 0 n [] in
        subst (λ x. Both ⊥ (Tn w s) (Some (linked_now w caller q')) (S.leave_from x)) (sym (render_cut w.kept up (n_call p a n level r' q') below r.base e2 g))
        (w, next_refl s w, now below i (ok_rest w s up (n_call p a n level r' q' ∷ below) e2 o).1)

    -- Resuming
    pub resume_at : (h : Option ℕ) {su' : Suspensions} {z : List NCell} (xs : List NCell) → r.newest ≡ h → cells ≡ xs ++ z → FlatSusps repeats Opens su' z h
        → Both ⊥ (Wt w s) (L.resume_from (linked_now w c q) (chain items su' scans outer)) (S.resume (flat_now w cells r q))
    resume_at h xs n e f_none =
        subst (λ x. Both ⊥ (Wt {A = Why} w s) None (option_and_then (λ (height : ℕ). S.resume_from (S.cut height (render w.kept cells))) x)) (sym n) tt
    resume_at h xs n e (f_susp {reason = because why} {q = q'} {inside} {r = r'} {z = z'} g i) =
        subst
        (λ x.
        Both ⊥ (Wt {A = Why} w s) (Some (why, linked_now w inside q')) (option_and_then (λ (height : ℕ). S.resume_from (S.cut height (render w.kept cells))) x))
        (sym n)
        (subst (λ x. Both ⊥ (Wt {A = Why} w s) (Some (why, linked_now w inside q')) (S.resume_from x))
        (sym (render_cut w.kept xs (n_suspension (because why) r' q') z' _ e g))
        (refl, (w, next_refl s w, now z' i (ok_rest w s xs (n_suspension (because why) r' q' ∷ z') e o).1)))
    resume_at h xs n e (f_susp {reason = scanning k} {q = q'} {inside} {r = r'} {z = z'} g i) =
        let here = ok_rest w s xs (n_suspension (scanning k) r' q' ∷ z') e o in
        let d : Pair = record { subject = []; position = 1 } in
        subst (λ x. Both ⊥ (Wt {A = Why} w s) (Some (Scan (slice_index_or w.kept.saved k d), linked_now w inside q'))
        (option_and_then (λ (height : ℕ). S.resume_from (S.cut height (render w.kept cells))) x)) (sym n)
        (subst (λ x. Both ⊥ (Wt {A = Why} w s) (Some (Scan (slice_index_or w.kept.saved k d), linked_now w inside q')) (S.resume_from x))
        (sym (render_cut w.kept xs (n_suspension (scanning k) r' q') z' _ e g)) (
          ap (λ p. Scan p) (index_got w.kept.saved k here.0.0 d (got_pair w.kept k here.0.0 here.0.1.holds)) ∙ sym (ap (λ x. Scan (saved_in x)) here.0.1.holds),
          (w, next_refl s w, now z' i here.1),
        ))

    -- Saved pairs
    pub swap_found : (pair : Pair) {n h : Option ℕ} → ScanAt cells n h
        → Both ⊥ (Wt w s) (L.swap_at pair (linked_now w c q) n) (S.swap_at pair (flat_now w cells r q) h)
    swap_found pair no_scan = tt
    swap_found pair (scan_at {n} {h} q' r' above below e g) =
        let x = (ok_rest w s above (n_suspension (scanning n) r' q' ∷ below) e o).0 in
        let owned : IsOwned w (saved_name n) s h (Saved x.0) = subst (λ h. IsOwned w (saved_name n) s h (Saved x.0)) (sym g) x.1 in
        let d = saved_put w n x.0 pair in
        let none_there : Pair = record { subject = []; position = 1 } in
        let there = d.itself s h owned in
        let a = changed_at s h (n_suspension (scanning n) r' q') (S.suspension (Scan pair) r' q') above below cells e g d owned (λ l. l)
        (ap (λ k. S.suspension (Scan (saved_in k)) r' q') there.holds) (pair, there) o in
        subst (λ y. Both ⊥ (Wt {A = Pair} w s) (L.swap_at pair (linked_now w c q) (Some n)) (S.with_pair pair h (flat_now w cells r q) y))
        (sym (render_get w.kept above (n_suspension (scanning n) r' q') below h e g ∙ ap (λ k. Some (S.suspension (Scan (saved_in k)) r' q')) x.1.holds)) (
          index_got w.kept.saved n x.0 none_there (got_pair w.kept n x.0 x.1.holds),
          (
            put_saved w n pair,
            change_next s h owned d,
            now_as repeats Opens (put_saved w n pair) s c q r (S.set_cell h (S.suspension (Scan pair) r' q') (render w.kept cells)) cells a.0 f a.1,
          ),
        )

    -- Calls
    pub entered : (p : ℕ) (values : List Value) → Tn w s (L.enter p values (linked_now w c q)) (S.enter p values (flat_now w cells r q))
    entered p values =
        let h = suc (length cells) in let w2 = made_locals w s h values in let d = locals_made w s h values in let a = length w.kept.activations in
        let n = length values in
        let level = suc (L.level_of (frame_of outer)) in
        let top = n_call p a n level r q in
        let owned = d.new in
        let moves : Moves (λ n. Unit {0}) s w w2 = made_moves d s in
        let same : render w.kept cells ≡ render w2.kept cells = sym (render_moves (λ n. Unit {0}) s w w2 moves cells (use_all cells) o) in
        let lev : S.level (flat_now w cells r q) ≡ L.level_of (frame_of outer) = sym (same_level repeats Opens w.kept (frame_found repeats Opens f)) in (
          w2,
          made_next d,
          now_as repeats Opens w2 s (chain [] none [] (L.call p a level q c)) 0 (record { base = hh; mark = hh; newest = None; scan = None })
              (S.put_above values (S.call p n (suc (S.level (flat_now w cells r q))) r q ∷ render w.kept cells)) (locs a 0 n (top ∷ cells))
              (ap (λ l. S.put_above values (S.call p n (suc l) r q ∷ render w.kept cells)) lev ∙ ap (λ l. S.put_above values (S.call p n level r q ∷ l)) same
              ∙ sym (shown_locals w2.kept a n values (top ∷ cells) owned.holds refl))
              (f_chain {items = []} (locs a 0 n (top ∷ cells)) refl (locals_bare a 0 n top cells tt) (f_call n r [] cells refl hh_is hh_is f) f_none f_no_scan)
              (locs_ok w2 s a h values owned 0 n (top ∷ cells) (omega arith) (omega arith)
              ((values, owned, refl), all_moves (λ n. Unit {0}) s w w2 moves cells (use_all cells) o)),
        )

    -- Locals
    pub locals_found : {t : Frame} → FrameFound repeats Opens t cells r.base
        → slice_index_or w.kept.activations (L.activation_of t) [] ≡ S.locals (flat_now w cells r q)
    locals_found (found_base {p} {a} n above e g) =
        let e2 = stands_under above (locs a 0 n []) _ e (locals_split a 0 n (n_base p a n ∷ [])) in
        let x = (ok_rest w s (above ++ locs a 0 n []) (n_base p a n ∷ []) e2 o).0 in
        index_got w.kept.activations a x.0 [] (got_values w.kept a x.0 x.1.holds)
        ∙ sym (ap (λ y. S.locals_down (S.locals_of y) (S.cut (r.base + S.locals_of y) (render w.kept cells)) [])
        (frame_at repeats Opens w.kept a n (n_base p a n) above [] e g)
        ∙ locals_at w.kept a n r.base (n_base p a n) above [] cells x.0 e g x.1.holds x.2)
    locals_found (found_call {p} {a} {level} {q = q'} {caller} n r' above below e g i) =
        let e2 = stands_under above (locs a 0 n []) _ e (locals_split a 0 n (n_call p a n level r' q' ∷ below)) in
        let x = (ok_rest w s (above ++ locs a 0 n []) (n_call p a n level r' q' ∷ below) e2 o).0 in
        index_got w.kept.activations a x.0 [] (got_values w.kept a x.0 x.1.holds)
        ∙ sym (ap (λ y. S.locals_down (S.locals_of y) (S.cut (r.base + S.locals_of y) (render w.kept cells)) [])
        (frame_at repeats Opens w.kept a n (n_call p a n level r' q') above below e g)
        ∙ locals_at w.kept a n r.base (n_call p a n level r' q') above below cells x.0 e g x.1.holds x.2)

    -- the frame c of activation a gets other locals
    locals_set : (values vs : List Value) (a n : ℕ) (top : NCell) (above below : List NCell) → cells ≡ above ++ locs a 0 n (top ∷ below)
        → r.base ≡ suc (length below) → IsOwned w (activation_name a) s (suc (length below)) (Locals vs) → length vs ≡ n → length values ≡ n
        → shown_cell (put_locals w a values).kept top ≡ shown_cell w.kept top → Ok (put_locals w a values) s (suc (length below)) top
        → Tn w s (linked_now (put_locals w a values) c q) (S.set_locals values (flat_now w cells r q))
    locals_set values vs a n top above below e g owned lv lw shows ok =
        let b = suc (length below) in let w2 = put_locals w a values in let F2 = w2.kept in let d = locals_put w a vs values in
        let owned2 = d.itself s b owned in
        let y = locs a 0 n (top ∷ below) in
        let oy : AllOk w s (above ++ y) = subst (AllOk w s) e o in
        let ob : AllOk w s (top ∷ below) = ok_rest w s (above ++ locs a 0 n []) (top ∷ below)
        (stands_under above (locs a 0 n []) _ e (locals_split a 0 n (top ∷ below))) o in
        let ub = apart_below w a s b vs owned below (omega arith) ob.1 in
        let same_below : render F2 below ≡ render w.kept below = render_moves (λ m. m ≢ activation_name a) s w w2 (change_moves d s) below ub ob.1 in
        let ok_below : AllOk w2 s below = all_moves (λ m. m ≢ activation_name a) s w w2 (change_moves d s) below ub ob.1 in
        let ok_y : AllOk w2 s y = locs_ok w2 s a b values owned2 0 n (top ∷ below) (omega arith) (omega arith) (ok, ok_below) in
        let high : b + length vs ≤ length y = (let x = locs_length a 0 n (top ∷ below) in omega arith) in
        let up = above_keeps w a s b vs values owned y high ok_y above oy in
        let old : render w.kept cells ≡ render w.kept above ++ S.put_above vs (render w.kept (top ∷ below)) = ap (render w.kept) e
        ∙ map-append (shown_cell w.kept) above y ∙ ap (λ l. render w.kept above ++ l) (shown_locals w.kept a n vs (top ∷ below) owned.holds lv) in
        let new : render F2 cells ≡ render w.kept above ++ S.put_above values (render w.kept (top ∷ below)) =
        ap (render F2) e ∙ map-append (shown_cell F2) above y ∙ ap (λ l. l ++ render F2 y) up.1
        ∙ ap (λ l. render w.kept above ++ l) (shown_locals F2 a n values (top ∷ below) owned2.holds lw
        ∙ ap (λ x. S.put_above values (x ∷ render F2 below)) shows ∙ ap (λ l. S.put_above values (shown_cell w.kept top ∷ l)) same_below) in
        let height : r.base ≡ length (render w.kept (top ∷ below)) = g ∙ sym (length_map (shown_cell w.kept) (top ∷ below)) in (
          w2,
          change_next s b owned d,
          now_as repeats Opens w2 s c q r (S.set_from r.base values (render w.kept cells)) cells
              (ap (S.set_from r.base values) old ∙ set_all values vs (render w.kept above) (render w.kept (top ∷ below)) r.base (lv ∙ sym lw) height ∙ sym new)
              f (subst (AllOk w2 s) (sym e) up.0),
        )

    pub set_found : (values : List Value) {t : Frame} → FrameFound repeats Opens t cells r.base
        → length values ≡ length (slice_index_or w.kept.activations (L.activation_of t) [])
        → Tn w s (linked_now (put_locals w (L.activation_of t) values) c q) (S.set_locals values (flat_now w cells r q))
    set_found values (found_base {p} {a} n above e g) len =
        let x =
        (ok_rest w s (above ++ locs a 0 n []) (n_base p a n ∷ []) (stands_under above (locs a 0 n []) _ e (locals_split a 0 n (n_base p a n ∷ []))) o).0 in
        let l : length values ≡ n = len ∙ ap length (index_got w.kept.activations a x.0 [] (got_values w.kept a x.0 x.1.holds)) ∙ x.2 in
        locals_set values x.0 a n (n_base p a n) above [] e g x.1 x.2 l refl (values, (locals_put w a x.0 values).itself s 1 x.1, l)
    set_found values (found_call {p} {a} {level} {q = q'} {caller} n r' above below e g i) len =
        let x = (ok_rest w s (above ++ locs a 0 n []) (n_call p a n level r' q' ∷ below)
        (stands_under above (locs a 0 n []) _ e (locals_split a 0 n (n_call p a n level r' q' ∷ below))) o).0 in
        let l : length values ≡ n = len ∙ ap length (index_got w.kept.activations a x.0 [] (got_values w.kept a x.0 x.1.holds)) ∙ x.2 in
        locals_set values x.0 a n (n_call p a n level r' q') above below e g x.1 x.2 l refl
        (values, (locals_put w a x.0 values).itself s (suc (length below)) x.1, l)
