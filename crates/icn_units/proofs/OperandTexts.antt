-- What instructions have of names and literals keeps the bounds of a unit, and each name is one, where those of the tree are such.
use Rattle.std.proofs.Common.{◌≡◌, ℕ, Bool, true, false, ◌&&◌, List, [], ◌∷◌, ◌++◌, Option, None, Some, refl, sym, ap, subst, if◌then◌else◌}
use Rattle.std.specs.List.{list_all, list_any}
use Rattle.std.specs.Str.{bytes_eq}
use Rattle.icn_unit.specs.declared.unit.UnitInstr.{UnitInstr}
use Rattle.icn_unit.specs.declared.unit.UnitInstr.TheVariants as I
use Rattle.icn_unit.specs.UnitOperands.{is_name}
use Rattle.icn_translate.specs.declared.builder.LoopLabels.{LoopLabels}
use Rattle.icn_translate.specs.Drafts.{Draft, put, with_label, with_number, name_index, put_variable, no_ways, in_loop, outside_loop, innermost, next_number, with_next, put_next, last_number, with_last, put_last, case_end, in_case, outside_case, end_number, with_end, put_end}
use Rattle.icn_translate.specs.Translation.{loop_end}
use Rattle.icn_units.specs.Written.{operand_fits}
use Rattle.icn_units.proofs.DraftChains.{Keeps, Told}

all_last : {A : Type 0} (test : A → Bool) (xs : List A) (x : A) → list_all test xs ≡ true → test x ≡ true
    → list_all test (xs ++ x ∷ []) ≡ true
all_last test [] x h g = ap (λ b. b && true) g
all_last test (y ∷ xs) x h g = by (test y) h (all_last test xs x)
  where
    by : (b : Bool) → (b && list_all test xs) ≡ true
        → (list_all test xs ≡ true → test x ≡ true → list_all test (xs ++ x ∷ []) ≡ true)
        → (b && list_all test (xs ++ x ∷ [])) ≡ true
    by true h next = next h g
    by false h next = absurd (cc)

-- for any test of texts
module _ (texts_pass : List ℕ → Bool) where
  -- from one draft to the other
  pub record Kept (d e : Draft) (ns : List ℕ) : Type 0 where
    pub instrs : list_all (operand_fits texts_pass) d.instrs ≡ true → list_all (operand_fits texts_pass) e.instrs ≡ true
    pub names : list_all is_name d.names ≡ true → list_all is_name e.names ≡ true

  pub record HasOperand (d : Draft) (i : UnitInstr) : Type 0 where
    pub fits : operand_fits texts_pass i ≡ true

  -- Steps of a draft

  kept_then : (d e f : Draft) (ns ms : List ℕ) → Kept d e ns → Kept e f ms → Kept d f ns
  kept_then d e f ns ms p q = record { instrs = λ a. q.instrs (p.instrs a); names = λ a. q.names (p.names a) }

  kept_same : (d e : Draft) (ns : List ℕ) → e.instrs ≡ d.instrs → e.names ≡ d.names → Kept d e ns
  kept_same d e ns h g = record {
    instrs = λ a. subst (λ (is : List UnitInstr). list_all (operand_fits texts_pass) is ≡ true) (sym h) a;
    names = λ a. subst (λ (names : List (List ℕ)). list_all is_name names ≡ true) (sym g) a;
  }

  put_kept : (i : UnitInstr) (d : Draft) → operand_fits texts_pass i ≡ true → Kept d (put i d) []
  unfolding put
  put_kept i d h = record { instrs = λ a. all_last (operand_fits texts_pass) d.instrs i a h; names = λ a. a }

  label_kept : (d : Draft) → Kept d (with_label d) []
  unfolding with_label
  label_kept d = kept_same d (with_label d) [] refl refl

  numbered_kept : (k : Option ℕ) (d : Draft) → Kept d (with_number k d) []
  numbered_kept None d = label_kept d
  numbered_kept (Some n) d = kept_same d d [] refl refl

  in_kept : (w : LoopLabels) (d : Draft) → Kept d (in_loop w d) []
  unfolding in_loop
  in_kept w d = kept_same d (in_loop w d) [] refl refl

  out_kept : (d : Draft) → Kept d (outside_loop d) []
  unfolding outside_loop
  out_kept d = kept_same d (outside_loop d) [] refl refl

  in_case_kept : (end : Option ℕ) (d : Draft) → Kept d (in_case end d) []
  unfolding in_case
  in_case_kept end d = kept_same d (in_case end d) [] refl refl

  out_case_kept : (d : Draft) → Kept d (outside_case d) []
  unfolding outside_case
  out_case_kept d = kept_same d (outside_case d) [] refl refl

  next_kept : (d : Draft) → Kept d (with_next d) []
  next_kept d =
      let o = outside_loop d in
      let k = (innermost d).next in
      kept_then d o _ [] [] (out_kept d) (kept_then o (with_number k o) _ [] [] (numbered_kept k o)
      (in_kept _ (with_number k o)))

  last_kept : (d : Draft) → Kept d (with_last d) []
  last_kept d =
      let o = outside_loop d in
      let k = (innermost d).last in
      kept_then d o _ [] [] (out_kept d) (kept_then o (with_number k o) _ [] [] (numbered_kept k o)
      (in_kept _ (with_number k o)))

  end_kept : (d : Draft) → Kept d (with_end d) []
  end_kept d =
      let o = outside_case d in
      let k = case_end d in
      kept_then d o _ [] [] (out_case_kept d) (kept_then o (with_number k o) _ [] [] (numbered_kept k o)
      (in_case_kept _ (with_number k o)))

  next_word_kept : (i : UnitInstr) (d : Draft) → operand_fits texts_pass i ≡ true → Kept d (put i (with_next d)) []
  next_word_kept i d h = kept_then d (with_next d) (put i (with_next d)) [] [] (next_kept d)
      (put_kept i (with_next d) h)

  last_word_kept : (i : UnitInstr) (d : Draft) → operand_fits texts_pass i ≡ true → Kept d (put i (with_last d)) []
  last_word_kept i d h = kept_then d (with_last d) (put i (with_last d)) [] [] (last_kept d)
      (put_kept i (with_last d) h)

  end_word_kept : (i : UnitInstr) (d : Draft) → operand_fits texts_pass i ≡ true → Kept d (put i (with_end d)) []
  end_word_kept i d h = kept_then d (with_end d) (put i (with_end d)) [] [] (end_kept d) (put_kept i (with_end d) h)

  loop_kept : (i : UnitInstr) (d : Draft) → operand_fits texts_pass i ≡ true → Kept d (loop_end i d) []
  loop_kept i d h =
      let d2 = put_next I.Lab d in
      let d3 = put i d2 in
      let d5 = put_last I.Lab d3 in
      kept_then d d2 _ [] [] (next_word_kept (I.Lab (next_number d)) d refl)
      (kept_then d2 d3 _ [] [] (put_kept i d2 h)
      (kept_then d3 d5 _ [] [] (last_word_kept (I.Lab (last_number d3)) d3 refl) (out_kept d5)))

  case_kept : (d : Draft) → Kept d (outside_case (put_end I.Lab d)) []
  case_kept d = let d2 = put_end I.Lab d in
      kept_then d d2 _ [] [] (end_word_kept (I.Lab (end_number d)) d refl) (out_case_kept d2)

  with_name_kept : (names : List (List ℕ)) (name : List ℕ) (b : Bool) → is_name name ≡ true → list_all is_name names
      ≡ true
      → list_all is_name (if b then names else names ++ name ∷ []) ≡ true
  with_name_kept names name true h a = a
  with_name_kept names name false h a = all_last is_name names name a h

  variable_kept : (name : List ℕ) (d : Draft) → is_name name ≡ true → Kept d (put_variable name d) []
  unfolding put_variable
  variable_kept name d h = record {
    instrs = λ a. all_last (operand_fits texts_pass) d.instrs (I.Var (name_index d.names name)) a refl;
    names = λ a. with_name_kept d.names name (list_any (bytes_eq name) d.names) h a;
  }

  pub texts : Keeps
  texts = record {
    asks = true;
    passes = texts_pass;
    Leads = Kept;
    Inside = λ n d. Unit {0};
    InCase = λ d. Unit {0};
    May = HasOperand;
    none = λ d. kept_same d d [] refl refl;
    joined = λ d e f ns p q. kept_then d e f ns [] p q;
    plain = λ d i p o. record { fits = o refl };
    fresh = λ d i p. record { fits = p.operand texts_pass };
    may_later = λ d e ns i p m. record { fits = m.fits };
    may_behind = λ d i j m. record { fits = m.fits };
    may_inside = λ d w i m. record { fits = m.fits };
    numbered = λ d e ns p. let q = kept_then d e (with_label e) ns [] p (label_kept e) in
        record { instrs = q.instrs; names = q.names };
    instr = λ d e ns i m p. kept_then d e (put i e) ns [] p (put_kept i e m.fits);
    place = λ d e n ns p. let q = kept_then d e (put (I.Lab n) e) (n ∷ ns) [] p (put_kept (I.Lab n) e refl) in
        record { instrs = q.instrs; names = q.names };
    second_place = λ d e m n ns p. let q = kept_then d e (put (I.Lab n) e) (m ∷ n ∷ ns) [] p
        (put_kept (I.Lab n) e refl) in record { instrs = q.instrs; names = q.names };
    variable = λ d e ns name o p. kept_then d e (put_variable name e) ns [] p (variable_kept name e (o refl));
    inside_none = λ d. tt;
    inside_later = λ d e ns n p h. tt;
    inside_loop = λ d w n h. tt;
    inside_case = λ d end n h. tt;
    inside_outer = λ d n h. tt;
    next_mark = λ d e ns n h p. kept_then d e (put_next I.Mark e) ns [] p
        (next_word_kept (I.Mark (next_number e)) e refl);
    next_goto = λ d e ns n h p. kept_then d e (put_next I.Goto e) ns [] p
        (next_word_kept (I.Goto (next_number e)) e refl);
    last_goto = λ d e ns n h p. kept_then d e (put_last I.Goto e) ns [] p
        (last_word_kept (I.Goto (last_number e)) e refl);
    aside_loop = λ d e f ns n h p q. kept_then d e (in_loop (innermost e) f) ns [] p
        (kept_then e (outside_loop e) (in_loop (innermost e) f) [] [] (out_kept e)
        (kept_then (outside_loop e) f (in_loop (innermost e) f) [] [] q (in_kept (innermost e) f)));
    loop = λ d e f ns i p q m. kept_then d e (loop_end i f) ns [] p
        (kept_then e (in_loop no_ways e) (loop_end i f) [] [] (in_kept no_ways e)
        (kept_then (in_loop no_ways e) f (loop_end i f) [] [] q (loop_kept i f m.fits)));
    case_begins = λ d end. tt;
    case_later = λ d e ns p h. tt;
    end_goto = λ d e ns h p. kept_then d e (put_end I.Goto e) ns [] p (end_word_kept (I.Goto (end_number e)) e refl);
    case = λ d e f ns p q. kept_then d e (outside_case (put_end I.Lab f)) ns [] p
        (kept_then e (in_case None e) (outside_case (put_end I.Lab f)) [] [] (in_case_kept None e)
        (kept_then (in_case None e) f (outside_case (put_end I.Lab f)) [] [] q (case_kept f)));
  }

  pub are_kept : (d e : Draft) (ns : List ℕ) → texts.Leads d e ns → Kept d e ns
  unfolding texts
  are_kept d e ns p = p

  pub told_texts : (fits : (List ℕ → Bool) → Bool) → fits texts_pass ≡ true → Told texts.asks (fits texts.passes)
  unfolding texts
  told_texts fits h g = h
