-- Each call keeps the relation of chains and flat stacks: what changes in place, marks that are dropped, and suspensions.
use Rattle.std.proofs.Common.{◌≡◌, ℕ, suc, inl, inr, List, [], ◌∷◌, ◌++◌, length, map, Bool, true, false, Option, Some, None, refl, sym, ap, ◌∙◌, subst, if◌then◌else◌}
use Rattle.std.specs.Prelude.{slice_set, slice_index_or, pred, ◌==◌}
use Rattle.std.proofs.lemmas.Bool.{eqb-true}
use Rattle.icn_run.specs.Calls.{Pair, MarkDrop, NoMark, Outside}
use Rattle.icn_run.specs.Stacks as S
use Rattle.icn_run.specs.Stacks.{Registers, Cell, Frames}
use Rattle.icn_run.specs.Chains as L
use Rattle.icn_run.specs.Chains.{fixed, flagged, Chain, chain, none, Outer, LinkedStack, frame_of, outer_of}
use Rattle.law_stacks.specs.Rendered.{CellName, flag_name, limit_name, Content, Flag, Changed, Count, Saved, Locals, flag_kept, NCell, n_base, n_call, n_mark, n_limit, n_operand, RenderedWorld, IsOwned, shown_label, count_of, shown_cell, render, IsFlag, Ok, AllOk, FlatScans, IsFlat, f_chain, f_none, f_mark, now, Next}
use Rattle.law_stacks.specs.AgreeingMachines.{Both, With, SameDropped}
use Rattle.law_stacks.specs.SecondLaw.{LacksCell}
use Rattle.law_stacks.proofs.CellLists.{some_injective, get_set_same, length_map, render_cut, render_get, render_set}
use Rattle.law_stacks.proofs.NumberedCells.{IsLocals, Change, change_next, put_shown, put_ok, FlagAt, is_up, is_down, is_labelled, flag_at, flag_there, index_got, got_count, put_count, count_put, put_flag, flag_put, label_up, own_up, label_set, own_set}
use Rattle.law_stacks.proofs.Flattening.{as_mark, stands_under, raise_scans, frame_found, same_proc}
use Rattle.law_stacks.proofs.ScanNumbers.{first_at, ok_rest, oldest_at, same_pair}
use Rattle.law_stacks.proofs.RenderedCalls.{linked_now, flat_now, next_refl, RelatedNow, RelatedThen, now_as, OuterView, view_base, view_call, view_mark, view_limit, outer_view, scans_all}

-- a cell that stands in the midst changes in place
pub changed_at : {w w' : RenderedWorld} {n : CellName} {old k : Content} (s h : ℕ) (c : NCell) (x : Cell) (above below cells : List NCell)
    → cells ≡ above ++ c ∷ below
    → h ≡ suc (length below) → Change w w' n old k → IsOwned w n s h old → (IsLocals old → ⊥)
    → shown_cell w'.kept c ≡ x → Ok w' s h c → AllOk w s cells → (S.set_cell h x (render w.kept cells) ≡ render w'.kept cells) × AllOk w' s cells
changed_at {w} {w'} s h c x above below cells e g d owned nl shows ok o = (
  render_set w.kept above c below h x e g ∙ sym (ap (render w'.kept) e ∙ put_shown s h d owned nl c x shows above below g (subst (AllOk w s) e o)),
  subst (AllOk w' s) (sym e) (put_ok s h d owned nl c ok above below g (subst (AllOk w s) e o)),
)

abbrev pub changed_to : Bool → ℕ → Content
changed_to t label = if t then Flag true else Changed label

changed_shows : (t : Bool) (label q : ℕ) (l : Option ℕ) (r : Registers) → (label == q) ≡ t
    → shown_label (Some (changed_to t label)) l q r ≡ S.mark (Some label) true r
changed_shows true label q l r e = ap (λ p. S.mark (Some p) true r) (sym (eqb-true label q e))
changed_shows false label q l r e = refl

true_not_false : true ≡ false → ⊥
true_not_false e = cc

flag_not_locals : (k : Content) → IsFlag k → IsLocals k → ⊥
flag_not_locals (Flag x) f l = l
flag_not_locals (Changed x) f l = l
flag_not_locals (Count x) f l = f
flag_not_locals (Saved x) f l = f
flag_not_locals (Locals x) f l = f

module _ (repeats : ℕ → ℕ → Bool) (Opens : ℕ → ℕ → Option ℕ → Type 0) where
  abbrev Nw : RenderedWorld → ℕ → LinkedStack → Frames → Type 0
  Nw w s m' m = RelatedNow repeats Opens w s m' m

  abbrev Tn : RenderedWorld → ℕ → LinkedStack → Frames → Type 0
  Tn w s m' m = RelatedThen repeats Opens w s m' m

  abbrev Wt : {A : Type 0} → RenderedWorld → ℕ → A × LinkedStack → A × Frames → Type 0
  Wt w s x y = With Next Nw w s x y

  -- the innermost mark has no cell
  abbrev pub Lacks : LinkedStack → Type 0
  Lacks m' = LacksCell repeats Opens (outer_of m'.chain) (L.proc_of (frame_of (outer_of m'.chain)))

  module _ (w : RenderedWorld) (s q : ℕ) (r : Registers) (c : Chain) (cells : List NCell) (f : IsFlat repeats Opens c cells r) (o : AllOk w s cells) where
    -- Labels

    relabel_to : {w' : RenderedWorld} (label : ℕ) (l : Option ℕ) (flag p : ℕ) (r' : Registers) (above below : List NCell)
        → cells ≡ above ++ n_mark (flagged l flag p) r' ∷ below → r.mark ≡ suc (length below) → (old k : Content) → IsFlag old → IsFlag k
        → IsOwned w (flag_name flag) s r.mark old → Change w w' (flag_name flag) old k → shown_label (Some k) l p r' ≡ S.mark (Some label) true r'
        → Tn w s (linked_now w' c q) (record { cells = S.set_cell r.mark (S.mark (Some label) true r') (render w.kept cells); registers = r; address = q })
    relabel_to {w'} label l flag p r' above below e g old k y z owned d shows =
        let there = d.itself s r.mark owned in
        let a = changed_at s r.mark (n_mark (flagged l flag p) r') (S.mark (Some label) true r') above below cells e g d owned (flag_not_locals old y)
        (ap (λ y. shown_label y l p r') there.holds ∙ shows) (k, there, z) o in (
          w',
          change_next s r.mark owned d,
          now_as repeats Opens w' s c q r (S.set_cell r.mark (S.mark (Some label) true r') (render w.kept cells)) cells a.0 f a.1,
        )

    relabel_flagged : (label : ℕ) (l : Option ℕ) (flag p : ℕ) (r' : Registers) (above below : List NCell)
        → cells ≡ above ++ n_mark (flagged l flag p) r' ∷ below → r.mark ≡ suc (length below) → (t : Bool) → (label == p) ≡ t
        → Tn w s (L.relabelled_if t label flag (linked_now w c q))
        (record { cells = S.set_cell r.mark (S.mark (Some label) true r') (render w.kept cells); registers = r; address = q })
    relabel_flagged label l flag p r' above below e g true te =
        let x = (ok_rest w s above (n_mark (flagged l flag p) r' ∷ below) e o).0 in
        let b = flag_there w.kept flag x.0 (flag_at w.kept flag x.0 x.1.holds) in
        let d = flag_put w flag true (L.forget_label flag w.kept.relabels) (label_up w flag) (λ f. own_up w flag) x.0 (Flag true) b.0 b.1 refl in
        relabel_to label l flag p r' above below e g x.0 (Flag true) x.2 tt (subst (λ h. IsOwned w (flag_name flag) s h x.0) (sym g) x.1) d
        (changed_shows true label p l r' te)
    relabel_flagged label l flag p r' above below e g false te =
        let x = (ok_rest w s above (n_mark (flagged l flag p) r' ∷ below) e o).0 in
        let b = flag_there w.kept flag x.0 (flag_at w.kept flag x.0 x.1.holds) in
        let d = flag_put w flag false ((flag, label) ∷ L.forget_label flag w.kept.relabels) (label_set w flag label)
        (λ f. absurd (f (get_set_same w.kept.flags flag b.0 false b.1))) x.0 (Changed label) b.0 b.1 (ap (λ l. flag_kept l false) (own_set w flag label)) in
        relabel_to label l flag p r' above below e g x.0 (Changed label) x.2 tt (subst (λ h. IsOwned w (flag_name flag) s h x.0) (sym g) x.1) d
        (changed_shows false label p l r' te)

    relabel_view : (label : ℕ) {outer : Outer} → OuterView repeats Opens cells r.mark r.base outer
        → Both (LacksCell repeats Opens outer (L.proc_of (frame_of outer))) (Tn w s) (L.relabel_in label (linked_now w c q) outer)
        (S.relabel label (flat_now w cells r q))
    relabel_view label (view_base {p} {a} n above e g) =
        subst (λ x. Both ⊥ (Tn w s) None (S.relabel_in label (flat_now w cells r q) x)) (sym (render_get w.kept above (n_base p a n) [] r.mark e g)) tt
    relabel_view label (view_call {p} {a} {level} {q = q'} n r' above below e g i) =
        subst (λ x. Both ⊥ (Tn w s) None (S.relabel_in label (flat_now w cells r q) x))
        (sym (render_get w.kept above (n_call p a n level r' q') below r.mark e g)) tt
    relabel_view label (view_limit {n} r' above below e g b i) =
        subst (λ x. Both ⊥ (Tn w s) None (S.relabel_in label (flat_now w cells r q) x)) (sym (render_get w.kept above (n_limit n r') below r.mark e g)) tt
    relabel_view label (view_mark {label = fixed l} {outside = chain items' su' scans' outer'} r' above below e g b ok i) =
        subst (λ x. Both (LacksCell repeats Opens (L.mark (fixed l) (chain items' su' scans' outer'))
        (L.proc_of (frame_of (L.mark (fixed l) (chain items' su' scans' outer'))))) (Tn w s) None (S.relabel_in label (flat_now w cells r q) x))
        (sym (render_get w.kept above (n_mark (fixed l) r') below r.mark e g)) (ok.0, l, ok.1, ok.2)
    relabel_view label (view_mark {label = flagged l flag p} r' above below e g b ok i) =
        let m = as_mark w.kept (flagged l flag p) r' in
        subst (λ x. Both ⊥ (Tn w s) (Some (L.relabelled_if (label == p) label flag (linked_now w c q))) (S.relabel_in label (flat_now w cells r q) x))
        (sym (render_get w.kept above (n_mark (flagged l flag p) r') below r.mark e g ∙ ap Some m.2))
        (relabel_flagged label l flag p r' above below e g (label == p) refl)

    -- Limits

    count_of_limit : (n count : ℕ) (r' : Registers) (above below : List NCell) → cells ≡ above ++ n_limit n r' ∷ below → r.mark ≡ suc (length below)
        → IsOwned w (limit_name n) s r.mark (Count count)
        → Both ⊥ (Wt {A = ℕ} w s) (Some (pred count, record (linked_now w c q) { limits = slice_set w.kept.limits n (pred count) }))
        (S.count_in (flat_now w cells r q) (Some (S.limit count r')))
    count_of_limit n count r' above below e g owned =
        let d = count_put w n count (pred count) in
        let there = d.itself s r.mark owned in
        let a = changed_at s r.mark (n_limit n r') (S.limit (pred count) r') above below cells e g d owned (λ l. l)
        (ap (λ k. S.limit (count_of k) r') there.holds) (pred count, there) o in (
          refl,
          (
            put_count w n (pred count),
            change_next s r.mark owned d,
            now_as repeats Opens (put_count w n (pred count)) s c q r (S.set_cell r.mark (S.limit (pred count) r') (render w.kept cells)) cells a.0 f a.1,
          ),
        )

    count_view : {outer : Outer} → OuterView repeats Opens cells r.mark r.base outer
        → Both ⊥ (Wt w s) (L.count_in (linked_now w c q) outer) (S.count_down (flat_now w cells r q))
    count_view (view_base {p} {a} n above e g) =
        subst (λ x. Both ⊥ (Wt {A = ℕ} w s) None (S.count_in (flat_now w cells r q) x)) (sym (render_get w.kept above (n_base p a n) [] r.mark e g)) tt
    count_view (view_call {p} {a} {level} {q = q'} n r' above below e g i) =
        subst (λ x. Both ⊥ (Wt {A = ℕ} w s) None (S.count_in (flat_now w cells r q) x))
        (sym (render_get w.kept above (n_call p a n level r' q') below r.mark e g)) tt
    count_view (view_mark {label} r' above below e g b ok i) = let m = as_mark w.kept label r' in
        subst (λ x. Both ⊥ (Wt {A = ℕ} w s) None (S.count_in (flat_now w cells r q) x))
        (sym (render_get w.kept above (n_mark label r') below r.mark e g ∙ ap Some m.2)) tt
    count_view (view_limit {n} {outside} r' above below e g b i) =
        let x = (ok_rest w s above (n_limit n r' ∷ below) e o).0 in
        subst (λ y. Both ⊥ (Wt {A = ℕ} w s) (L.count_in (linked_now w c q) (L.limit n outside)) (S.count_in (flat_now w cells r q) y))
        (sym (render_get w.kept above (n_limit n r') below r.mark e g ∙ ap (λ k. Some (S.limit (count_of k) r')) x.1.holds))
        (subst (λ k. Both ⊥ (Wt {A = ℕ} w s) (Some (k, record (linked_now w c q) { limits = slice_set w.kept.limits n k }))
        (S.count_in (flat_now w cells r q) (Some (S.limit x.0 r')))) (sym (ap pred (index_got w.kept.limits n x.0 0 (got_count w.kept n x.0 x.1.holds))))
        (count_of_limit n x.0 r' above below e g (subst (λ h. IsOwned w (limit_name n) s h (Count x.0)) (sym g) x.1)))

    -- Marks that are dropped

    module _ (sc : FlatScans (L.scans_of c) cells r.scan) where
      abbrev Left : LinkedStack × Option Pair → Frames × Option Pair → Type 0
      Left x y = Tn w s x.0 y.0 × (x.1 ≡ y.1)

      unmark_to : (outside : Chain) (r' : Registers) (xs below : List NCell) → cells ≡ xs ++ below → IsFlat repeats Opens outside below r'
          → Left (L.with_chain outside (linked_now w c q), L.pair_at (linked_now w c q) (L.oldest (L.first_scan (L.scans_of outside)) (L.scans_of c)))
          (record { cells = render w.kept below; registers = r'; address = q }, S.pair_at (render w.kept cells) (S.oldest r'.scan (flat_now w cells r q)))
      unmark_to outside r' xs below e i = (
        (w, next_refl s w, now below i (ok_rest w s xs below e o)),
        same_pair w s cells o (linked_now w c q) refl (oldest_at w s cells o (first_at (raise_scans xs e (scans_all repeats Opens i))) r q sc),
      )

      unmark_view : {outer : Outer} → OuterView repeats Opens cells r.mark r.base outer
          → Both ⊥ Left (L.unmark_from (linked_now w c q) outer) (S.unmark (flat_now w cells r q))
      unmark_view (view_base {p} {a} n above e g) =
          subst (λ x. Both ⊥ Left None (S.unmark_in (flat_now w cells r q) x)) (sym (render_cut w.kept above (n_base p a n) [] r.mark e g)) tt
      unmark_view (view_call {p} {a} {level} {q = q'} n r' above below e g i) =
          subst (λ x. Both ⊥ Left None (S.unmark_in (flat_now w cells r q) x)) (sym (render_cut w.kept above (n_call p a n level r' q') below r.mark e g)) tt
      unmark_view (view_mark {label} {outside} r' above below e g b ok i) = let m = as_mark w.kept label r' in
          subst (λ x. Both ⊥ Left (L.unmark_in (linked_now w c q) outside) (S.unmark_in (flat_now w cells r q) x))
          (sym (render_cut w.kept above (n_mark label r') below r.mark e g ∙ ap (λ x. x ∷ render w.kept below) m.2))
          (unmark_to outside r' (above ++ n_mark label r' ∷ []) below (stands_under above (n_mark label r' ∷ []) below e refl) i)
      unmark_view (view_limit {n} {outside} r' above below e g b i) =
          subst (λ x. Both ⊥ Left (L.unmark_in (linked_now w c q) outside) (S.unmark_in (flat_now w cells r q) x))
          (sym (render_cut w.kept above (n_limit n r') below r.mark e g))
          (unmark_to outside r' (above ++ n_limit n r' ∷ []) below (stands_under above (n_limit n r' ∷ []) below e refl) i)

    abbrev Sd : MarkDrop LinkedStack → MarkDrop Frames → Type 0
    Sd d' d = SameDropped S.flat Opens Next Nw w s d' d

    dropped_label : (l : Option ℕ) (outside : Chain) (r' : Registers) (below : List NCell) → IsFlat repeats Opens outside below r' → AllOk w s below
        → Sd (L.dropped_to (linked_now w c q) outside l) (S.drop_from (flat_now w cells r q) (S.mark l false r' ∷ render w.kept below))
    dropped_label None outside r' below i ob = (w, next_refl s w, now below i ob)
    dropped_label (Some l) outside r' below i ob = (w, next_refl s w, now below i ob)

    dropped_flagged : (l : Option ℕ) (flag p : ℕ) (outside : Chain) (r' : Registers) (below : List NCell) → IsFlat repeats Opens outside below r'
        → Opens (L.proc_of (frame_of (outer_of outside))) p l → AllOk w s (n_mark (flagged l flag p) r' ∷ below)
        → (k : Content) → IsOwned w (flag_name flag) s (suc (length below)) k → FlagAt w.kept flag k
        → Sd (L.repeat_mark l flag p outside (linked_now w c q) (slice_index_or w.kept.flags flag false))
        (S.drop_from (flat_now w cells r q) (shown_label (Some k) l p r' ∷ render w.kept below))
    dropped_flagged l flag p outside r' below i opens ob k owned (is_down e u) =
        subst (λ b. Sd (L.repeat_mark l flag p outside (linked_now w c q) b) (S.drop_from (flat_now w cells r q) (S.mark l false r' ∷ render w.kept below)))
        (sym (index_got w.kept.flags flag false false e))
        (subst (λ o. Sd (L.dropped_by (linked_now w c q) outside l o) (S.drop_from (flat_now w cells r q) (S.mark l false r' ∷ render w.kept below))) (sym u)
        (dropped_label l outside r' below i ob.1))
    dropped_flagged l flag p outside r' below i opens ob k owned (is_labelled other e u) =
        subst
        (λ b. Sd (L.repeat_mark l flag p outside (linked_now w c q) b) (S.drop_from (flat_now w cells r q) (S.mark (Some other) true r' ∷ render w.kept below)))
        (sym (index_got w.kept.flags flag false false e))
        (subst (λ o. Sd (L.dropped_by (linked_now w c q) outside l o) (S.drop_from (flat_now w cells r q) (S.mark (Some other) true r' ∷ render w.kept below)))
        (sym u)
        (inl (w, next_refl s w, now below i ob.1)))
    dropped_flagged l flag p outside r' below i opens ob k owned (is_up e) =
        let top = n_mark (flagged l flag p) r' in let h = suc (length below) in
        let none_left : L.label_of flag w.kept.relabels ≡ None = w.unlabelled flag (λ u. true_not_false (some_injective (sym e ∙ u))) in
        let d = flag_put w flag false w.kept.relabels (λ m d. refl) (λ u. none_left) (Flag true) (Flag false) true e (ap (λ l. flag_kept l false) none_left) in
        let w' = put_flag w flag false w.kept.relabels (λ m d. refl) (λ u. none_left) in
        let there = d.itself s h owned in
        let shows = put_shown s h d owned (λ l. l) top (S.mark l false r') (ap (λ y. shown_label y l p r') there.holds) [] below refl ob in
        let ok = put_ok s h d owned (λ l. l) top (Flag false, there, tt) [] below refl ob in
        subst
        (λ b. Sd (L.repeat_mark l flag p outside (linked_now w c q) b) (S.drop_from (flat_now w cells r q) (S.mark (Some p) true r' ∷ render w.kept below)))
        (sym (index_got w.kept.flags flag true false e))
        (inr (
          l,
          subst (λ proc. Opens proc p l) (same_proc repeats Opens w.kept (frame_found repeats Opens i)) opens,
          (
            w',
            change_next s h owned d,
            now_as repeats Opens w' s (chain [] none (L.scans_of outside) (L.mark (flagged l flag p) outside)) (suc p)
                (record r' { mark = suc (length (render w.kept below)); newest = None }) (S.mark l false r' ∷ render w.kept below) (top ∷ below)
                (sym shows)
                (f_chain {items = []} (top ∷ below) refl tt (f_mark r' [] below refl (ap suc (length_map (shown_cell w.kept) below)) refl opens i) f_none
                (raise_scans (top ∷ []) refl (scans_all repeats Opens i))) ok,
          ),
        ))

    drop_view : {outer : Outer} → OuterView repeats Opens cells r.mark r.base outer
        → Sd (L.drop_from (linked_now w c q) outer) (S.drop_mark (flat_now w cells r q))
    drop_view (view_base {p} {a} n above e g) =
        subst (λ x. Sd NoMark (S.drop_from (flat_now w cells r q) x)) (sym (render_cut w.kept above (n_base p a n) [] r.mark e g)) tt
    drop_view (view_call {p} {a} {level} {q = q'} n r' above below e g i) =
        subst (λ x. Sd NoMark (S.drop_from (flat_now w cells r q) x)) (sym (render_cut w.kept above (n_call p a n level r' q') below r.mark e g)) tt
    drop_view (view_limit {n} {outside} r' above below e g b i) =
        subst (λ x. Sd (Outside (L.with_chain outside (linked_now w c q))) (S.drop_from (flat_now w cells r q) x))
        (sym (render_cut w.kept above (n_limit n r') below r.mark e g))
        (w, next_refl s w, now below i (ok_rest w s above (n_limit n r' ∷ below) e o).1)
    drop_view (view_mark {label = fixed l} {outside} r' above below e g b ok i) =
        subst (λ x. Sd (L.dropped_to (linked_now w c q) outside l) (S.drop_from (flat_now w cells r q) x))
        (sym (render_cut w.kept above (n_mark (fixed l) r') below r.mark e g))
        (dropped_label l outside r' below i (ok_rest w s above (n_mark (fixed l) r' ∷ below) e o).1)
    drop_view (view_mark {label = flagged l flag p} {outside} r' above below e g b ok i) =
        let ob = ok_rest w s above (n_mark (flagged l flag p) r' ∷ below) e o in let x = ob.0 in
        subst (λ y. Sd (L.repeat_mark l flag p outside (linked_now w c q) (slice_index_or w.kept.flags flag false)) (S.drop_from (flat_now w cells r q) y))
        (sym (render_cut w.kept above (n_mark (flagged l flag p) r') below r.mark e g ∙ ap (λ y. shown_label y l p r' ∷ render w.kept below) x.1.holds))
        (dropped_flagged l flag p outside r' below i ok ob x.0 x.1 (flag_at w.kept flag x.0 x.1.holds))

  pub on_relabel : (label : ℕ) (w : RenderedWorld) (s : ℕ) (m' : LinkedStack) (m : Frames) → Nw w s m' m
      → Both (Lacks m') (Tn w s) (L.relabel label m') (S.relabel label m)
  on_relabel label w s m' m (now {q} {r} cells (f_chain {items} {s = su} {scans} {outer} z e b out fs sc) o) =
      relabel_view w s q r (chain items su scans outer) cells (f_chain z e b out fs sc) o label (outer_view repeats Opens (map n_operand items) e out)

  pub on_count : (w : RenderedWorld) (s : ℕ) (m' : LinkedStack) (m : Frames) → Nw w s m' m → Both ⊥ (Wt w s) (L.count_down m') (S.count_down m)
  on_count w s m' m (now {q} {r} cells (f_chain {items} {s = su} {scans} {outer} z e b out fs sc) o) =
      count_view w s q r (chain items su scans outer) cells (f_chain z e b out fs sc) o (outer_view repeats Opens (map n_operand items) e out)

  pub on_unmark : (w : RenderedWorld) (s : ℕ) (m' : LinkedStack) (m : Frames) → Nw w s m' m
      → Both ⊥ (λ x y. Tn w s x.0 y.0 × (x.1 ≡ y.1)) (L.unmark m') (S.unmark m)
  on_unmark w s m' m (now {q} {r} cells (f_chain {items} {s = su} {scans} {outer} z e b out fs sc) o) =
      unmark_view w s q r (chain items su scans outer) cells (f_chain z e b out fs sc) o (raise_scans (map n_operand items) e sc)
      (outer_view repeats Opens (map n_operand items) e out)

  pub on_drop : (w : RenderedWorld) (s : ℕ) (m' : LinkedStack) (m : Frames) → Nw w s m' m
      → SameDropped S.flat Opens Next Nw w s (L.drop_mark m') (S.drop_mark m)
  on_drop w s m' m (now {q} {r} cells (f_chain {items} {s = su} {scans} {outer} z e b out fs sc) o) =
      drop_view w s q r (chain items su scans outer) cells (f_chain z e b out fs sc) o (outer_view repeats Opens (map n_operand items) e out)
