-- One step in both runs leads from related states to related states.
use Rattle.std.proofs.Common.{◌≡◌, ℕ, zero, suc, Bool, true, false, List, [], ◌∷◌, ◌++◌, length, Option, None, Some, refl, sym, ap, ◌∙◌, subst, if◌then◌else◌}
use Rattle.std.specs.Prelude.{◌&&◌, ◌-◌, ◌==◌, ℤ, pos, negsuc, drop, map, nat_le, nat_lt, not, option_map, replicate, slice_get, slice_index_or, slice_set, unwrap_or}
use Rattle.icn_text.specs.declared.keyword.Keyword.{Keyword as AnyKeyword}
use Rattle.icn_text.specs.declared.keyword.Keyword.TheVariants as Keywords
use Rattle.icn_text.specs.declared.op.Op.{Op}
use Rattle.icn_text.specs.declared.op.Op.TheVariants as Ops
use Rattle.icn_value.specs.Values.{Value, Null, Integer, Text, Chars, ACoexp, Item, Val}
use Rattle.icn_value.specs.Store.{KeptError, Names, Setting, record_at}
use Rattle.icn_code.specs.declared.instr.Instr.{Instr}
use Rattle.icn_code.specs.declared.instr.Instr.TheVariants as I
use Rattle.icn_code.specs.Codes.{Proc as Procedure, Tables}
use Rattle.icn_defs.specs.Applying.{again, function_row, operation_row}
use Rattle.icn_defs.specs.Arities.{arity}
use Rattle.icn_defs.specs.Conversions.{integer_of, position_of}
use Rattle.icn_defs.specs.Errors.{ended_or_failed, ends_run, error_report, error_text, with_kept}
use Rattle.icn_defs.specs.Keywords.{keyword_item, kept_number, kept_text, kept_value}
use Rattle.icn_defs.specs.NamedValues.{named_by}
use Rattle.icn_defs.specs.Rows.{Row, Outcome}
use Rattle.icn_defs.specs.Running.{AtBound, Done, Errored, Exit, Pair, after_steps, bound_report, files_written, number_of, with_errors, words_row}
use Rattle.icn_defs.specs.StepRows.{coexpression_row, list_row, record_row, text_row}
use Rattle.law_stacks.specs.SameStates.{IsMade}
use Rattle.law_stacks.proofs.RowsKeep.{rows_keep}
use Rattle.icn_run.specs.Calls.{Why, Op as Operating, Escan, MarkDrop, Calls}
use Rattle.icn_run.specs.Step as S
use Rattle.icn_run.specs.Step.{Status, Fresh, Active, Waiting, Exhausted, Coexp, Store, State, running, failing, over, stuck, Callee}
use Rattle.law_prune.proofs.RelatedValues.{ValueTo, null_to, integer_to, text_to, chars_to, file_to, procedure_to, record_to, list_to, set_to, table_to, coexp_to}
use Rattle.law_prune.proofs.RelatedLists.{Both, OptionTo, PlacesTo, both_append, both_cons, both_drop, both_get, both_length, both_map, both_nil, both_replicate, both_take, each_to, neither, places_set}
use Rattle.law_prune.proofs.RelatedSettings.{Renaming, ItemTo, KeptTo, OutcomeTo, RowTo, SettingTo, element_to, ends_to, error_to, fails_to, field_to, gives_to, global_to, key_to, local_to, part_to, parts_of, see, static_to, suspends_to, val_to, var_to, whole_to, word_to}
use Rattle.law_prune.proofs.RelatedViews.{e_integer, l_at, r_at}
use Rattle.law_prune.proofs.RelatedImages.{e_report}
use Rattle.law_prune.proofs.RelatedRows.{r_coexpression, v_integer}
use Rattle.law_prune.proofs.RelatedFunctions.{function_to, list_row_to, operation_to, record_row_to, resumed_to, text_row_to, value_to, words_row_to}
use Rattle.law_prune.proofs.RelatedChains.{CallsTo, DropTo, Paired, WhyTo, alt_to, escan_to, goes_to, no_mark_to, op_to, outside_to, proc_to, repeats_to, scan_to}
use Rattle.law_prune.proofs.RelatedStates.{CalleeTo, CodeTo, CoexpTo, CreatedTo, EntryTo, InstrTo, IsFresh, IsPlain, MadeTo, StateTo, StatusTo, StoreParts, StoreTo, active_to, at_to, coexp_there, coexps_activator, coexps_more, coexps_status, created_there, entry_to, exhausted_to, failing_to, field_at_to, fresh_to, global_at_to, hopping_to, int_to, cset_to, is_func_to, is_nothing_to, is_proc_to, is_record_to, over_to, parts_here, plain_to, running_to, setting_of, static_at_to, store_view, str_to, stuck_to, waiting_to, without_locals}

module _ (R : Renaming) {K M : Type 0} (C D : Calls K M) (G : CallsTo R C D) (P Q : Tables) (code : CodeTo R P Q) where
  abbrev Sto : Store K → StoreParts K → Type 0
  Sto st q = StoreTo R G.Away st q

  abbrev pub Sta : State K M → State K M → Type 0
  Sta s t = StateTo R G.Now G.Away s t

  abbrev SamePair : Pair × M → Pair × M → Type 0
  SamePair x y = Paired (λ (a b : Pair). a ≡ b) G.Now x y

  found : {A B : Type 0} (X : A → B → Type 0) (o : Option A) (p : Option B) (go : A → State K M) (other : B → State K M) → OptionTo X o p
      → ((x : A) (y : B) → X x y → Sta (go x) (other y)) → Sta (S.with_found o go) (S.with_found p other)
  found X o p go other neither f = stuck_to
  found X o p go other (each_to {x} {y} t) f = f x y t

  found_same : {A : Type 0} (o p : Option A) (go other : A → State K M) → o ≡ p → ((x : A) → Sta (go x) (other x))
      → Sta (S.with_found o go) (S.with_found p other)
  found_same {A} o p go other e f = subst (λ (z : Option A). Sta (S.with_found o go) (S.with_found z other)) e (by o)
    where
      by : (z : Option A) → Sta (S.with_found z go) (S.with_found z other)
      by None = stuck_to
      by (Some x) = f x

  parted : {A B E F : Type 0} (X : A → E → Type 0) (Y : B → F → Type 0) (o : Option (A × B)) (p : Option (E × F)) (go : A → B → State K M)
      (other : E → F → State K M) → OptionTo (Paired X Y) o p → ((x : A) (y : B) (u : E) (z : F) → X x u → Y y z → Sta (go x y) (other u z))
      → Sta (S.with_found o (S.on_pair go)) (S.with_found p (S.on_pair other))
  parted X Y o p go other neither f = stuck_to
  parted X Y o p go other (each_to {x} {y} t) f = f x.0 x.1 y.0 y.1 t.first t.second

  either : (t u : Bool) (x y s z : State K M) → t ≡ u → Sta x s → Sta y z → Sta (if t then x else y) (if u then s else z)
  either true true x y s z e f g = f
  either true false x y s z e f g = absurd (cc)
  either false true x y s z e f g = absurd (cc)
  either false false x y s z e f g = g

  -- Ends and turns

  errs : (k : ℕ) (v w : Option Value) (m n : M) (st : Store K) (q : StoreParts K) → OptionTo (ValueTo R.To) v w → G.Now m n → Sto st q
      → Sta (S.errs k v m st) (S.errs k w n (store_view st q))
  errs k v w m n st q t g h = by (ends_run k st.world.error)
    where
      report : error_report st.names st.world.heap k v ≡ error_report q.names (store_view st q).world.heap k w
      report = ap (λ (names : Names). error_report names st.world.heap k v) h.whole
          ∙ e_report R (setting_of st) (without_locals q.parts) h.parts k v w t
          ∙ sym (ap (λ (names : Names). error_report names (store_view st q).world.heap k w) h.left)

      by : (b : Bool) → Sta (ended_or_failed b k v st.world (S.ended_by k v st) (λ world. failing m (S.with_world world st)))
          (ended_or_failed b k w (store_view st q).world (S.ended_by k w (store_view st q)) (λ world. failing n (S.with_world world (store_view st q))))
      by true = subst (λ (text : List ℕ). Sta (S.ended_by k v st) (over (Errored k) (files_written (store_view st q).world.heap (with_errors text st.outside))))
          report (over_to (Errored k) (files_written st.world.heap (with_errors (error_report st.names st.world.heap k v) st.outside)))
      by false = failing_to (S.with_world (with_kept k v st.world) st)
          (record q { parts = record q.parts { kept = Some (record { number = k; value = w }) } }) g (record {
            parts = record {
              lists = h.parts.lists;
              sets = h.parts.sets;
              tables = h.parts.tables;
              records = h.parts.records;
              globals = h.parts.globals;
              statics = h.parts.statics;
              locals = both_nil;
              kept = each_to (record { number = refl; value = t });
            };
            begun = h.begun;
            coexps = h.coexps;
            whole = h.whole;
            left = h.left;
          })

  turn_if : (t : Bool) (st : Store K) (q : StoreParts K) (go other : Store K → State K M) → Sto st q
      → ((s : Store K) (r : StoreParts K) → Sto s r → Sta (go s) (other (store_view s r))) → Sta (S.turn_if t st go) (S.turn_if t (store_view st q) other)
  turn_if true st q go other h f = f (record st { turns = suc st.turns }) q
      (record { parts = h.parts; begun = h.begun; coexps = h.coexps; whole = h.whole; left = h.left })
  turn_if false st q go other h f = over_to AtBound (with_errors bound_report st.outside)

  turn : (st : Store K) (q : StoreParts K) (go other : Store K → State K M) → Sto st q
      → ((s : Store K) (r : StoreParts K) → Sto s r → Sta (go s) (other (store_view s r))) → Sta (S.turn P st go) (S.turn Q (store_view st q) other)
  turn st q go other h f = turn_if (nat_lt st.turns st.world.heap.bounds.turns) st q go other h f

  -- Rows

  valued : (o p : Outcome) (m n : M) (st : Store K) (q : StoreParts K) (go other : Value → State K M) → OutcomeTo R o p → G.Now m n → Sto st q
      → ((v w : Value) → ValueTo R.To v w → Sta (go v) (other w)) → Sta (S.with_given o m st go) (S.with_given p n (store_view st q) other)
  valued o p m n st q go other (fails_to s) g h f = failing_to st q g h
  valued o p m n st q go other (gives_to (val_to {v} {w} t) s) g h f = f v w t
  valued o p m n st q go other (gives_to (var_to x) s) g h f = failing_to st q g h
  valued o p m n st q go other (suspends_to i r s) g h f = failing_to st q g h
  valued o p m n st q go other (error_to {v} {w} k t s) g h f = errs k v w m n st q t g h
  valued o p m n st q go other (ends_to k s) g h f = failing_to st q g h

  -- what goes on behind a row
  behind : (a b : Setting) (m n : M) (st : Store K) (q : StoreParts K) (go other : M → Store K → State K M) → SettingTo R a b → G.Now m n → Sto st q
      → ((m n : M) (s : Store K) (r : StoreParts K) → G.Now m n → Sto s r → Sta (go m s) (other n (store_view s r)))
      → Sta (go (C.set_locals a.locals m) (S.with_at a st)) (other (D.set_locals b.locals n) (S.with_at b (store_view st q)))
  behind a b m n st q go other t g h f =
      see R a b (λ (s : Setting). Sta (go (C.set_locals a.locals m) (S.with_at a st)) (other (D.set_locals s.locals n) (S.with_at s (store_view st q)))) t
      (f (C.set_locals a.locals m) (D.set_locals b.locals n) (S.with_at a st) (record q { parts = parts_of b })
      (G.set_locals a.locals b.locals m n t.parts.locals g) (at_to R G.Away st q a (parts_of b) h t.parts))

  made : (o p : Outcome) (m n : M) (st : Store K) (q : StoreParts K) (go other : Value → M → Store K → State K M) → OutcomeTo R o p → G.Now m n → Sto st q
      → ((v w : Value) (m n : M) (s : Store K) (r : StoreParts K) → ValueTo R.To v w → G.Now m n → Sto s r → Sta (go v m s) (other w n (store_view s r)))
      → Sta (S.with_made C o m st go) (S.with_made D p n (store_view st q) other)
  made o p m n st q go other (fails_to s) g h f = failing_to st q g h
  made o p m n st q go other (gives_to {a} {b} (val_to {v} {w} t) s) g h f =
      behind a b m n st q (go v) (other w) s g h (λ m n s r g h. f v w m n s r t g h)
  made o p m n st q go other (gives_to (var_to x) s) g h f = failing_to st q g h
  made o p m n st q go other (suspends_to i r s) g h f = failing_to st q g h
  made o p m n st q go other (error_to {v} {w} {a} {b} k t s) g h f =
      behind a b m n st q (S.errs k v) (S.errs k w) s g h (λ m n s r g h. errs k v w m n s r t g h)
  made o p m n st q go other (ends_to k s) g h f = failing_to st q g h

  outcome : (o p : Outcome) (m n : M) (st : Store K) (q : StoreParts K) → OutcomeTo R o p → G.Now m n → Sto st q
      → Sta (S.outcome C o m st) (S.outcome D p n (store_view st q))
  outcome o p m n st q (fails_to {a} {b} s) g h = behind a b m n st q failing failing s g h (λ m n s r g h. failing_to s r g h)
  outcome o p m n st q (gives_to {i = x} {j = y} {a} {b} i s) g h =
      behind a b m n st q (S.push_item C x) (S.push_item D y) s g h (λ m n s r g h. running_to s r (G.push x y m n i g) h)
  outcome o p m n st q (suspends_to {i = x} {j = y} {r = u} {s = z} {a} {b} i t s) g h =
      behind a b m n st q (λ m st. S.push_item C x (C.suspend (Operating u) m) st) (λ m st. S.push_item D y (D.suspend (Operating z) m) st) s g h
      (λ m n s r g h. running_to s r (G.push x y _ _ i (G.suspend (Operating u) (Operating z) m n (op_to t) g)) h)
  outcome o p m n st q (error_to {v} {w} {a} {b} k t s) g h =
      behind a b m n st q (S.errs k v) (S.errs k w) s g h (λ m n s r g h. errs k v w m n s r t g h)
  outcome o p m n st q (ends_to {a} {b} k s) g h =
      see R a b (λ (z : Setting). Sta (S.over_with (Exit k) a.world a.outside) (S.over_with (Exit k) z.world z.outside)) s
      (over_to (Exit k) (files_written a.world.heap a.outside))

  seen_here : (m n : M) (st : Store K) (q : StoreParts K) → G.Now m n → Sto st q → SettingTo R (S.here C m st) (S.here D n (store_view st q))
  seen_here m n st q g h = record { rest = refl; parts = parts_here R G.Away st q (C.locals m) (D.locals n) h (G.locals m n g) }

  performed : (row other : Row) (m n : M) (st : Store K) (q : StoreParts K) → RowTo R row other → G.Now m n → Sto st q
      → Sta (S.outcome C (row (S.here C m st)) m st) (S.outcome D (other (S.here D n (store_view st q))) n (store_view st q))
  performed row other m n st q t g h = outcome _ _ m n st q (t.same _ _ (seen_here m n st q g h)) g h

  made_by : (row with_it : Row) (m n : M) (st : Store K) (q : StoreParts K) (go other : Value → M → Store K → State K M) → RowTo R row with_it → G.Now m n
      → Sto st q
      → ((v w : Value) (m n : M) (s : Store K) (r : StoreParts K) → ValueTo R.To v w → G.Now m n → Sto s r → Sta (go v m s) (other w n (store_view s r)))
      → Sta (S.with_made C (row (S.here C m st)) m st go) (S.with_made D (with_it (S.here D n (store_view st q))) n (store_view st q) other)
  made_by row with_it m n st q go other t g h f = made _ _ m n st q go other (t.same _ _ (seen_here m n st q g h)) g h f

  value : (x y : Item) (m n : M) (st : Store K) (q : StoreParts K) (go other : Value → State K M) → ItemTo R x y → G.Now m n → Sto st q
      → ((v w : Value) → ValueTo R.To v w → Sta (go v) (other w)) → Sta (S.with_value C x m st go) (S.with_value D y n (store_view st q) other)
  value x y m n st q go other i g h f = valued _ _ m n st q go other ((value_to R x y i).same _ _ (seen_here m n st q g h)) g h f

  values : (xs ys : List Item) (m n : M) (st : Store K) (q : StoreParts K) (go other : List Value → State K M) → Both (ItemTo R) xs ys → G.Now m n → Sto st q
      → ((vs ws : List Value) → Both (ValueTo R.To) vs ws → Sta (go vs) (other ws))
      → Sta (S.with_values C xs m st go) (S.with_values D ys n (store_view st q) other)
  values xs ys m n st q go other both_nil g h f = f [] [] both_nil
  values xs ys m n st q go other (both_cons {x} {y} {xs = us} {ys = zs} i t) g h f =
      value x y m n st q (λ v. S.with_values C us m st (λ vs. go (v ∷ vs))) (λ w. S.with_values D zs n (store_view st q) (λ ws. other (w ∷ ws))) i g h
      (λ v w k. values us zs m n st q (λ vs. go (v ∷ vs)) (λ ws. other (w ∷ ws)) t g h (λ vs ws l. f (v ∷ vs) (w ∷ ws) (both_cons k l)))

  list_made : (vs ws : List Value) (m n : M) (st : Store K) (q : StoreParts K) (go other : Value → M → Store K → State K M) → Both (ValueTo R.To) vs ws
      → G.Now m n → Sto st q
      → ((v w : Value) (m n : M) (s : Store K) (r : StoreParts K) → ValueTo R.To v w → G.Now m n → Sto s r → Sta (go v m s) (other w n (store_view s r)))
      → Sta (S.list_made C vs m st go) (S.list_made D ws n (store_view st q) other)
  list_made vs ws m n st q go other t g h f = made_by (list_row vs) (list_row ws) m n st q go other (list_row_to R vs ws t) g h f

  -- Scans

  paired : (pair : Pair) (st : Store K) (q : StoreParts K) → Sto st q → Sto (S.with_pair pair st) q
  paired pair st q h = record { parts = h.parts; begun = h.begun; coexps = h.coexps; whole = h.whole; left = h.left }

  exchanged : (o p : Option (Pair × M)) (st : Store K) (q : StoreParts K) (go other : M → Store K → State K M) → OptionTo SamePair o p → Sto st q
      → ((m n : M) (s : Store K) (r : StoreParts K) → G.Now m n → Sto s r → Sta (go m s) (other n (store_view s r)))
      → Sta (S.with_exchange o go st) (S.with_exchange p other (store_view st q))
  exchanged o p st q go other neither h f = stuck_to
  exchanged o p st q go other (each_to {x} {y} t) h f =
      subst (λ (pair : Pair). Sta (go x.1 (S.with_pair x.0 st)) (other y.1 (S.with_pair pair (store_view st q)))) t.first
      (f x.1 y.1 (S.with_pair x.0 st) q t.second (paired x.0 st q h))

  maybe_exchanged : (o p : Option (Pair × M)) (m n : M) (st : Store K) (q : StoreParts K) (go other : M → Store K → State K M) → OptionTo SamePair o p
      → G.Now m n → Sto st q → ((m n : M) (s : Store K) (r : StoreParts K) → G.Now m n → Sto s r → Sta (go m s) (other n (store_view s r)))
      → Sta (S.maybe_exchanged o m st go) (S.maybe_exchanged p n (store_view st q) other)
  maybe_exchanged o p m n st q go other neither g h f = f m n st q g h
  maybe_exchanged o p m n st q go other (each_to {x} {y} t) g h f =
      subst (λ (pair : Pair). Sta (go x.1 (S.with_pair x.0 st)) (other y.1 (S.with_pair pair (store_view st q)))) t.first
      (f x.1 y.1 (S.with_pair x.0 st) q t.second (paired x.0 st q h))

  left_behind : (o : Option Pair) (m n : M) (st : Store K) (q : StoreParts K) (go other : M → Store K → State K M) → G.Now m n → Sto st q
      → ((m n : M) (s : Store K) (r : StoreParts K) → G.Now m n → Sto s r → Sta (go m s) (other n (store_view s r)))
      → Sta (go m (S.scans_left o st)) (other n (S.scans_left o (store_view st q)))
  left_behind None m n st q go other g h f = f m n st q g h
  left_behind (Some pair) m n st q go other g h f = f m n (S.with_pair pair st) q g (paired pair st q h)

  swapped : (o p : Option (Pair × M)) (st : Store K) (q : StoreParts K) (go other : Store K → State K M) → OptionTo SamePair o p → Sto st q
      → ((s : Store K) (r : StoreParts K) → Sto s r → Sta (go s) (other (store_view s r)))
      → Sta (go (S.swapped_back o st)) (other (S.swapped_back p (store_view st q)))
  swapped o p st q go other neither h f = f st q h
  swapped o p st q go other (each_to {x} {y} t) h f =
      subst (λ (pair : Pair). Sta (go (S.with_pair x.0 st)) (other (S.with_pair pair (store_view st q)))) t.first
      (f (S.with_pair x.0 st) q (paired x.0 st q h))

  all_left : (m n : M) (st : Store K) (q : StoreParts K) (go other : Store K → State K M) → G.Now m n → Sto st q
      → ((s : Store K) (r : StoreParts K) → Sto s r → Sta (go s) (other (store_view s r)))
      → Sta (go (S.all_left C m st)) (other (S.all_left D n (store_view st q)))
  all_left m n st q go other g h f = swapped _ _ st q go other (G.swap_oldest (S.pair_now st) m n g) h f

  unmarked : (m n : M) (st : Store K) (q : StoreParts K) (go other : M → Store K → State K M) → G.Now m n → Sto st q
      → ((m n : M) (s : Store K) (r : StoreParts K) → G.Now m n → Sto s r → Sta (go m s) (other n (store_view s r)))
      → Sta (S.unmark_then C m st go) (S.unmark_then D n (store_view st q) other)
  unmarked m n st q go other g h f = parted G.Now (λ (a b : Option Pair). a ≡ b) _ _ (λ outside pair. go outside (S.scans_left pair st))
      (λ outside pair. other outside (S.scans_left pair (store_view st q))) (G.unmark m n g)
      (λ x y u z t e. subst (λ (pair : Option Pair). Sta (go x (S.scans_left y st)) (other u (S.scans_left pair (store_view st q)))) e
      (left_behind y x u st q go other t h f))

  -- Co-expressions

  abbrev with_coexps : StoreParts K → List (Coexp K) → StoreParts K
  with_coexps q cs = record q { coexps = cs }

  abbrev with_status_at : ℕ → Status K → StoreParts K → StoreParts K
  with_status_at k s q = with_coexps q
      (slice_set q.coexps k (record (slice_index_or q.coexps k (record { status = Exhausted; activator = zero; values = []; proc = zero; address = zero }))
      { status = s }))

  abbrev with_activator_at : ℕ → ℕ → StoreParts K → StoreParts K
  with_activator_at k a q = with_coexps q
      (slice_set q.coexps k (record (slice_index_or q.coexps k (record { status = Exhausted; activator = zero; values = []; proc = zero; address = zero }))
      { activator = a }))

  statused : (s u : Status K) (k : ℕ) (st : Store K) (q : StoreParts K) → StatusTo G.Away s u → (IsFresh s → ⊥) → Sto st q
      → Sto (S.with_status k s st) (with_status_at k u q)
  statused s u k st q t old h = record {
    parts = h.parts;
    begun = h.begun;
    coexps = coexps_status R G.Away s u t old st.coexps q.coexps k h.coexps;
    whole = h.whole;
    left = h.left;
  }

  activated : (k a : ℕ) (st : Store K) (q : StoreParts K) → Sto st q → Sto (S.with_activator k a st) (with_activator_at k a q)
  activated k a st q h = record {
    parts = h.parts;
    begun = h.begun;
    coexps = coexps_activator R G.Away a st.coexps q.coexps k h.coexps;
    whole = h.whole;
    left = h.left;
  }

  now_active : (k : ℕ) (st : Store K) (q : StoreParts K) → Sto st q → Sto (S.make_active k st) (with_status_at k Active q)
  now_active k st q h = statused Active Active k (record st { active = k }) q active_to (λ f. f)
      (record { parts = h.parts; begun = h.begun; coexps = h.coexps; whole = h.whole; left = h.left })

  other_active : (k : ℕ) (st : Store K) (q : StoreParts K) → Sto st q → Sto (record st { active = k }) q
  other_active k st q h = record { parts = h.parts; begun = h.begun; coexps = h.coexps; whole = h.whole; left = h.left }

  there : (k : ℕ) (st : Store K) (q : StoreParts K) → Sto st q → CoexpTo R G.Away (S.coexp_at k st) (S.coexp_at k (store_view st q))
  there k st q h = coexp_there R G.Away st.coexps q.coexps k h.coexps

  fail_by : (s u : Status K) (k : ℕ) (m n : M) (st : Store K) (q : StoreParts K) → StatusTo G.Away s u → G.Now m n → Sto st q
      → Sta (S.fail_by C s k m st) (S.fail_by D u k n (store_view st q))
  fail_by s u k m n st q fresh_to g h = stuck_to
  fail_by s u k m n st q active_to g h = stuck_to
  fail_by s u k m n st q (waiting_to {k = x} {j = y} a) g h =
      failing_to (S.make_active k st) (with_status_at k Active q) (G.taken_up x y m n a g) (now_active k st q h)
  fail_by s u k m n st q exhausted_to g h = hopping_to (record st { active = k }) q g (other_active k st q h)

  passed_failure : (k j : ℕ) (m n : M) (st : Store K) (q : StoreParts K) → k ≡ j → G.Now m n → Sto st q
      → Sta (S.passed_failure C k m st) (S.passed_failure D j n (store_view st q))
  passed_failure k j m n st q e g h = subst (λ (z : ℕ). Sta (S.passed_failure C k m st) (S.passed_failure D z n (store_view st q))) e
      (fail_by _ _ k m n st q (there k st q h).status g h)

  give_by : (s u : Status K) (k : ℕ) (v w : Value) (m n : M) (st : Store K) (q : StoreParts K) → StatusTo G.Away s u
      → (IsFresh s → MadeTo R (S.coexp_at k st) (S.coexp_at k (store_view st q))) → ValueTo R.To v w → G.Now m n → Sto st q
      → Sta (S.give_by C s k v m st) (S.give_by D u k w n (store_view st q))
  give_by s u k v w m n st q fresh_to made t g h =
      let c = S.coexp_at k st in
      let d = S.coexp_at k (store_view st q) in
      running_to (S.make_active k st) (with_status_at k Active q)
      (subst (λ (a : ℕ). G.Now (C.begin c.proc c.values c.address m) (D.begin d.proc d.values a n)) (made tt).address
      (G.begin c.proc d.proc c.values d.values c.address m n (made tt).proc (made tt).values (G.blank m n g))) (now_active k st q h)
  give_by s u k v w m n st q active_to made t g h = stuck_to
  give_by s u k v w m n st q (waiting_to {k = x} {j = y} a) made t g h =
      running_to (S.make_active k st) (with_status_at k Active q) (G.push (Val v) (Val w) _ _ (val_to t) (G.taken_up x y m n a g)) (now_active k st q h)
  give_by s u k v w m n st q exhausted_to made t g h = hopping_to (record st { active = k }) q g (other_active k st q h)

  passed_value : (k j : ℕ) (v w : Value) (m n : M) (st : Store K) (q : StoreParts K) → k ≡ j → ValueTo R.To v w → G.Now m n → Sto st q
      → Sta (S.passed_value C k v m st) (S.passed_value D j w n (store_view st q))
  passed_value k j v w m n st q e t g h = subst (λ (z : ℕ). Sta (S.passed_value C k v m st) (S.passed_value D z w n (store_view st q))) e
      (give_by _ _ k v w m n st q (there k st q h).status (there k st q h).made t g h)

  pub hop : (m n : M) (st : Store K) (q : StoreParts K) → G.Now m n → Sto st q → Sta (S.hop C P m st) (S.hop D Q n (store_view st q))
  hop m n st q g h = turn st q (λ st. S.passed_failure C (S.activator_of st.active st) m st) (λ st. S.passed_failure D (S.activator_of st.active st) n st) h
      (λ s r k. passed_failure _ _ m n s r (there s.active s r k).activator g k)

  exhausted : (m n : M) (st : Store K) (q : StoreParts K) → G.Now m n → Sto st q → Sta (S.exhaust_active C P m st) (S.exhaust_active D Q n (store_view st q))
  exhausted m n st q g h = turn st q (λ st. S.passed_failure C (S.activator_of st.active st) m (S.with_status st.active Exhausted st))
      (λ st. S.passed_failure D (S.activator_of st.active st) n (S.with_status st.active Exhausted st)) h
      (λ s r k. passed_failure _ _ m n (S.with_status s.active Exhausted s) (with_status_at s.active Exhausted r) (there s.active s r k).activator g
      (statused Exhausted Exhausted s.active s r exhausted_to (λ f. f) k))

  waits : (m n : M) (st : Store K) (q : StoreParts K) → G.Now m n → Sto st q
      → Sto (S.with_status st.active (Waiting (C.kept m)) st) (with_status_at st.active (Waiting (D.kept n)) q)
  waits m n st q g h = statused (Waiting (C.kept m)) (Waiting (D.kept n)) st.active st q (waiting_to (G.kept m n g)) (λ f. f) h

  result_given : (v w : Value) (m n : M) (st : Store K) (q : StoreParts K) → ValueTo R.To v w → G.Now m n → Sto st q
      → Sta (S.result_given C v m st) (S.result_given D w n (store_view st q))
  result_given v w m n st q t g h =
      let k = waits m n st q g h in
      passed_value _ _ v w m n (S.counted_result st.active (S.with_status st.active (Waiting (C.kept m)) st)) (with_status_at st.active (Waiting (D.kept n)) q)
      (there st.active st q h).activator t g (record { parts = k.parts; begun = k.begun; coexps = k.coexps; whole = k.whole; left = k.left })

  created : (vs ws : List Value) (p u address : ℕ) (st : Store K) (q : StoreParts K) → Both (ValueTo R.To) vs ws → R.To p u → Sto st q
      → Sto (S.with_new vs p address st)
      (with_coexps q (q.coexps ++ record { status = Fresh; activator = zero; values = ws; proc = u; address = address } ∷ []))
  created vs ws p u address st q t r h = record {
    parts = h.parts;
    begun = h.begun;
    coexps = coexps_more R G.Away vs ws p u address st.coexps q.coexps t r h.coexps;
    whole = h.whole;
    left = h.left;
  }

  coexp_made : (vs ws : List Value) (p u a b : ℕ) (m n : M) (st : Store K) (q : StoreParts K) → Both (ValueTo R.To) vs ws → R.To p u → a ≡ b → G.Now m n
      → Sto st q
      → Sta (S.coexp_made C vs p a m st) (S.coexp_made D ws u b n (store_view st q))
  coexp_made vs ws p u a b m n st q t r e g h = subst (λ (z : ℕ). Sta (S.coexp_made C vs p a m st) (S.coexp_made D ws u z n (store_view st q))) e
      (made_by (coexpression_row (length vs)) (coexpression_row (length ws)) m n st q
      (λ value m st. S.push_item C (Val value) m (S.with_new vs p a st)) (λ value m st. S.push_item D (Val value) m (S.with_new ws u a st))
      (r_coexpression R (length vs) (length ws) (both_length (ValueTo R.To) vs ws t)) g h
      (λ v w m n s z k g h. running_to (S.with_new vs p a s)
      (with_coexps z (z.coexps ++ record { status = Fresh; activator = zero; values = ws; proc = u; address = a } ∷ []))
      (G.push (Val v) (Val w) m n (val_to k) g) (created vs ws p u a s z t r h)))

  refreshed_from : (o p : Option (Coexp K)) (m n : M) (st : Store K) (q : StoreParts K) → OptionTo (CreatedTo R G.Away) o p → G.Now m n → Sto st q
      → Sta (S.refreshed_from C o m st) (S.refreshed_from D p n (store_view st q))
  refreshed_from o p m n st q neither g h = stuck_to
  refreshed_from o p m n st q (each_to {x} {y} t) g h =
      coexp_made x.values y.values x.proc y.proc x.address y.address m n st q t.made.values t.made.proc t.made.address g h

  no_coexp : (v w : Value) (m n : M) (st : Store K) (q : StoreParts K) → ValueTo R.To v w → G.Now m n → Sto st q
      → Sta (S.errs 118 (Some v) m st) (S.errs 118 (Some w) n (store_view st q))
  no_coexp v w m n st q t g h = errs 118 (Some v) (Some w) m n st q (each_to t) g h

  refreshed : (v w : Value) (m n : M) (st : Store K) (q : StoreParts K) → ValueTo R.To v w → G.Now m n → Sto st q
      → Sta (S.refresh C v m st) (S.refresh D w n (store_view st q))
  refreshed v w m n st q (coexp_to zero) g h = errs 215 _ _ m n st q (each_to (coexp_to zero)) g h
  refreshed v w m n st q (coexp_to (suc k)) g h = refreshed_from _ _ m n st q (created_there R G.Away st.coexps q.coexps k h.coexps) g h
  refreshed v w m n st q null_to g h = no_coexp _ _ m n st q null_to g h
  refreshed v w m n st q (integer_to i) g h = no_coexp _ _ m n st q (integer_to i) g h
  refreshed v w m n st q (text_to bytes) g h = no_coexp _ _ m n st q (text_to bytes) g h
  refreshed v w m n st q (chars_to bytes) g h = no_coexp _ _ m n st q (chars_to bytes) g h
  refreshed v w m n st q (file_to file) g h = no_coexp _ _ m n st q (file_to file) g h
  refreshed v w m n st q (procedure_to p u t) g h = no_coexp _ _ m n st q (procedure_to p u t) g h
  refreshed v w m n st q (record_to id) g h = no_coexp _ _ m n st q (record_to id) g h
  refreshed v w m n st q (list_to id) g h = no_coexp _ _ m n st q (list_to id) g h
  refreshed v w m n st q (set_to id) g h = no_coexp _ _ m n st q (set_to id) g h
  refreshed v w m n st q (table_to id) g h = no_coexp _ _ m n st q (table_to id) g h

  entered_by : (k : ℕ) (v w : Value) (m n : M) (st : Store K) (q : StoreParts K) → ValueTo R.To v w → G.Now m n → Sto st q
      → Sta (S.entered_by C k v m st) (S.entered_by D k w n (store_view st q))
  entered_by k v w m n st q t g h = passed_value k k v w m n
      (S.with_activator k st.active (S.with_status st.active (Waiting (C.kept m)) st))
      (with_activator_at k st.active (with_status_at st.active (Waiting (D.kept n)) q)) refl t g
      (activated k st.active (S.with_status st.active (Waiting (C.kept m)) st) (with_status_at st.active (Waiting (D.kept n)) q) (waits m n st q g h))

  entered_if : (b : Bool) (s u : Status K) (k : ℕ) (v w : Value) (m n : M) (st : Store K) (q : StoreParts K) → StatusTo G.Away s u → ValueTo R.To v w
      → G.Now m n → Sto st q → Sta (S.entered_if C b s k v m st) (S.entered_if D b u k w n (store_view st q))
  entered_if b s u k v w m n st q exhausted_to t g h = failing_to st q g h
  entered_if true s u k v w m n st q fresh_to t g h = running_to st q (G.push (Val v) (Val w) m n (val_to t) g) h
  entered_if true s u k v w m n st q active_to t g h = running_to st q (G.push (Val v) (Val w) m n (val_to t) g) h
  entered_if true s u k v w m n st q (waiting_to a) t g h = running_to st q (G.push (Val v) (Val w) m n (val_to t) g) h
  entered_if false s u k v w m n st q fresh_to t g h = entered_by k v w m n st q t g h
  entered_if false s u k v w m n st q active_to t g h = entered_by k v w m n st q t g h
  entered_if false s u k v w m n st q (waiting_to a) t g h = entered_by k v w m n st q t g h

  activation : (v w x y : Value) (m n : M) (st : Store K) (q : StoreParts K) → ValueTo R.To v w → ValueTo R.To x y → G.Now m n → Sto st q
      → Sta (S.activation C v x m st) (S.activation D w y n (store_view st q))
  activation v w x y m n st q t (coexp_to k) g h = entered_if (k == st.active) _ _ k v w m n st q (there k st q h).status t g h
  activation v w x y m n st q t null_to g h = no_coexp _ _ m n st q null_to g h
  activation v w x y m n st q t (integer_to i) g h = no_coexp _ _ m n st q (integer_to i) g h
  activation v w x y m n st q t (text_to bytes) g h = no_coexp _ _ m n st q (text_to bytes) g h
  activation v w x y m n st q t (chars_to bytes) g h = no_coexp _ _ m n st q (chars_to bytes) g h
  activation v w x y m n st q t (file_to file) g h = no_coexp _ _ m n st q (file_to file) g h
  activation v w x y m n st q t (procedure_to p u r) g h = no_coexp _ _ m n st q (procedure_to p u r) g h
  activation v w x y m n st q t (record_to id) g h = no_coexp _ _ m n st q (record_to id) g h
  activation v w x y m n st q t (list_to id) g h = no_coexp _ _ m n st q (list_to id) g h
  activation v w x y m n st q t (set_to id) g h = no_coexp _ _ m n st q (set_to id) g h
  activation v w x y m n st q t (table_to id) g h = no_coexp _ _ m n st q (table_to id) g h

  -- Procedures

  filled : (k : ℕ) (vs ws : List Value) → Both (ValueTo R.To) vs ws → Both (ValueTo R.To) (S.fill_nulls k vs) (S.fill_nulls k ws)
  filled k vs ws t = both_take (ValueTo R.To) k _ _ (both_append (ValueTo R.To) _ _ _ _ t (both_replicate (ValueTo R.To) k Null Null null_to))

  collected : (b : Bool) (k : ℕ) (vs ws : List Value) (m n : M) (st : Store K) (q : StoreParts K) (go other : List Value → M → Store K → State K M)
      → Both (ValueTo R.To) vs ws → G.Now m n → Sto st q
      → ((vs ws : List Value) (m n : M) (s : Store K) (r : StoreParts K) → Both (ValueTo R.To) vs ws → G.Now m n → Sto s r
      → Sta (go vs m s) (other ws n (store_view s r)))
      → Sta (S.collect_rest C b k vs m st go) (S.collect_rest D b k ws n (store_view st q) other)
  collected false k vs ws m n st q go other t g h f = f _ _ m n st q (filled k vs ws t) g h
  collected true k vs ws m n st q go other t g h f =
      list_made (drop (k - 1) vs) (drop (k - 1) ws) m n st q (λ rest m st. go (S.fill_nulls (k - 1) vs ++ rest ∷ []) m st)
      (λ rest m st. other (S.fill_nulls (k - 1) ws ++ rest ∷ []) m st) (both_drop (ValueTo R.To) (k - 1) vs ws t) g h
      (λ v w m n s r l g h. f _ _ m n s r (both_append (ValueTo R.To) _ _ _ _ (filled (k - 1) vs ws t) (both_cons l both_nil)) g h)

  called_if : (b c : Bool) (p u : ℕ) (entry : Procedure) (name : ℕ) (instrs : List Instr) (vs ws : List Value) (m n : M) (st : Store K) (q : StoreParts K)
      → b ≡ c → R.To p u → Both (ValueTo R.To) vs ws → G.Now m n → Sto st q
      → Sta (S.called_if C b p entry vs m st) (S.called_if D c u (record entry { name = name; instrs = instrs }) ws n (store_view st q))
  called_if true true p u entry name instrs vs ws m n st q e r t g h =
      collected entry.collects entry.parameters vs ws m n st q (λ parameters m st. S.enter_procedure C p entry parameters m st)
      (λ parameters m st. S.enter_procedure D u (record entry { name = name; instrs = instrs }) parameters m st) t g h
      (λ vs ws m n s z t g h. running_to s z (G.enter p u _ _ m n r
      (both_append (ValueTo R.To) _ _ _ _ t (both_replicate (ValueTo R.To) entry.locals Null Null null_to)) g) h)
  called_if true false p u entry name instrs vs ws m n st q e r t g h = absurd (cc)
  called_if false true p u entry name instrs vs ws m n st q e r t g h = absurd (cc)
  called_if false false p u entry name instrs vs ws m n st q e r t g h = errs 301 None None m n st q neither g h

  argument_to : (o : Option ℕ) (xs ys : List Item) → Both (ItemTo R) xs ys → OptionTo (ItemTo R) (S.argument_at o xs) (S.argument_at o ys)
  argument_to None xs ys t = neither
  argument_to (Some zero) xs ys t = neither
  argument_to (Some (suc k)) xs ys t = both_get (ItemTo R) xs ys k t

  chosen_to : (i : ℤ) (xs ys : List Item) → Both (ItemTo R) xs ys → OptionTo (ItemTo R) (S.choose_item i xs) (S.choose_item i ys)
  chosen_to i xs ys t =
      subst (λ (k : ℕ). OptionTo (ItemTo R) (S.choose_item i xs) (S.argument_at (position_of i k) ys)) (both_length (ItemTo R) xs ys t)
      (argument_to (position_of i (length xs)) xs ys t)

  pushed_or_fails : (o p : Option Item) (m n : M) (st : Store K) (q : StoreParts K) → OptionTo (ItemTo R) o p → G.Now m n → Sto st q
      → Sta (S.pushed_or_fails C o m st) (S.pushed_or_fails D p n (store_view st q))
  pushed_or_fails o p m n st q neither g h = failing_to st q g h
  pushed_or_fails o p m n st q (each_to {x} {y} i) g h = running_to st q (G.push x y m n i g) h

  callee_called : (c d : Callee) (p u : ℕ) (xs ys : List Item) (m n : M) (st : Store K) (q : StoreParts K) → CalleeTo R c d → R.To p u
      → Both (ItemTo R) xs ys → G.Now m n → Sto st q → Sta (S.callee_called C c p xs m st) (S.callee_called D d u ys n (store_view st q))
  callee_called c d p u xs ys m n st q (is_proc_to entry name instrs) r t g h =
      values xs ys m n st q (λ vs. S.call_procedure C p entry vs m st)
      (λ ws. S.call_procedure D u (record entry { name = name; instrs = instrs }) ws n (store_view st q)) t g h
      (λ vs ws k. called_if _ _ p u entry name instrs vs ws m n st q (ap (λ (l : ℕ). nat_le (suc l) st.world.heap.bounds.levels) (G.level m n g)) r k g h)
  callee_called c d p u xs ys m n st q (is_record_to kind entry other e) r t g h =
      values xs ys m n st q (λ vs. S.construct_record C kind entry vs m st) (λ ws. S.construct_record D kind other ws n (store_view st q)) t g h
      (λ vs ws k. made_by (record_row kind (S.fill_nulls (length entry.fields) vs)) (record_row kind (S.fill_nulls (length other.fields) ws)) m n st q
      (λ value m st. S.push_item C (Val value) m st) (λ value m st. S.push_item D (Val value) m st)
      (record_row_to R kind _ _ (subst (λ (l : ℕ). Both (ValueTo R.To) (S.fill_nulls (length entry.fields) vs) (S.fill_nulls l ws)) e
      (filled (length entry.fields) vs ws k))) g h
      (λ v w m n s z l g h. running_to s z (G.push (Val v) (Val w) m n (val_to l) g) h))
  callee_called c d p u xs ys m n st q (is_func_to func) r t g h =
      subst (λ (names : Names). Sta (S.outcome C (function_row names func xs (S.here C m st)) m st)
      (S.outcome D (function_row q.names func ys (S.here D n (store_view st q))) n (store_view st q))) (sym h.whole)
      (subst (λ (names : Names). Sta (S.outcome C (function_row R.whole func xs (S.here C m st)) m st)
      (S.outcome D (function_row names func ys (S.here D n (store_view st q))) n (store_view st q))) (sym h.left)
      (performed (function_row R.whole func xs) (function_row R.left func ys) m n st q (function_to R func xs ys t) g h))
  callee_called c d p u xs ys m n st q is_nothing_to r t g h = errs 106 _ _ m n st q (each_to (procedure_to p u r)) g h

  named_called : (v w : Value) (o k : Option ℕ) (xs ys : List Item) (m n : M) (st : Store K) (q : StoreParts K) → ValueTo R.To v w → OptionTo R.To o k
      → Both (ItemTo R) xs ys → G.Now m n → Sto st q → Sta (S.named_called C P v o xs m st) (S.named_called D Q w k ys n (store_view st q))
  named_called v w o k xs ys m n st q r neither t g h = errs 106 (Some v) (Some w) m n st q (each_to r) g h
  named_called v w o k xs ys m n st q r (each_to {x} {y} l) t g h = callee_called _ _ x y xs ys m n st q (code.callee x y l) l t g h

  named_to : (v w : Value) → ValueTo R.To v w → OptionTo R.To (named_by R.whole v) (named_by R.left w)
  named_to v w null_to = neither
  named_to v w (integer_to i) = neither
  named_to v w (text_to bytes) = R.names.named bytes
  named_to v w (chars_to bytes) = neither
  named_to v w (file_to file) = neither
  named_to v w (procedure_to p u r) = neither
  named_to v w (record_to id) = neither
  named_to v w (list_to id) = neither
  named_to v w (set_to id) = neither
  named_to v w (table_to id) = neither
  named_to v w (coexp_to id) = neither

  named_in : (v w : Value) (st : Store K) (q : StoreParts K) → ValueTo R.To v w → Sto st q → OptionTo R.To (named_by st.names v) (named_by q.names w)
  named_in v w st q r h = subst (λ (names : Names). OptionTo R.To (named_by names v) (named_by q.names w)) (sym h.whole)
      (subst (λ (names : Names). OptionTo R.To (named_by R.whole v) (named_by names w)) (sym h.left) (named_to v w r))

  integer_called : (v w : Value) (o : Option ℤ) (xs ys : List Item) (m n : M) (st : Store K) (q : StoreParts K) → ValueTo R.To v w → Both (ItemTo R) xs ys
      → G.Now m n → Sto st q → Sta (S.integer_called C P v o xs m st) (S.integer_called D Q w o ys n (store_view st q))
  integer_called v w (Some i) xs ys m n st q r t g h = pushed_or_fails _ _ m n st q (chosen_to i xs ys t) g h
  integer_called v w None xs ys m n st q r t g h = named_called v w _ _ xs ys m n st q r (named_in v w st q r h) t g h

  invoked : (v w : Value) (xs ys : List Item) (m n : M) (st : Store K) (q : StoreParts K) → ValueTo R.To v w → Both (ItemTo R) xs ys → G.Now m n → Sto st q
      → Sta (S.invoke_value C P v xs m st) (S.invoke_value D Q w ys n (store_view st q))
  invoked v w xs ys m n st q (procedure_to p u r) t g h = callee_called _ _ p u xs ys m n st q (code.callee p u r) r t g h
  invoked v w xs ys m n st q null_to t g h = integer_called _ _ None xs ys m n st q null_to t g h
  invoked v w xs ys m n st q (integer_to i) t g h = integer_called _ _ (number_of (Integer i)) xs ys m n st q (integer_to i) t g h
  invoked v w xs ys m n st q (text_to bytes) t g h = integer_called _ _ (number_of (Text bytes)) xs ys m n st q (text_to bytes) t g h
  invoked v w xs ys m n st q (chars_to bytes) t g h = integer_called _ _ None xs ys m n st q (chars_to bytes) t g h
  invoked v w xs ys m n st q (file_to file) t g h = integer_called _ _ None xs ys m n st q (file_to file) t g h
  invoked v w xs ys m n st q (record_to id) t g h = integer_called _ _ None xs ys m n st q (record_to id) t g h
  invoked v w xs ys m n st q (list_to id) t g h = integer_called _ _ None xs ys m n st q (list_to id) t g h
  invoked v w xs ys m n st q (set_to id) t g h = integer_called _ _ None xs ys m n st q (set_to id) t g h
  invoked v w xs ys m n st q (table_to id) t g h = integer_called _ _ None xs ys m n st q (table_to id) t g h
  invoked v w xs ys m n st q (coexp_to id) t g h = integer_called _ _ None xs ys m n st q (coexp_to id) t g h

  invoked_with : (xs ys : List Item) (m n : M) (st : Store K) (q : StoreParts K) → Both (ItemTo R) xs ys → G.Now m n → Sto st q
      → Sta (S.invoked_with C P xs m st) (S.invoked_with D Q ys n (store_view st q))
  invoked_with xs ys m n st q both_nil g h = stuck_to
  invoked_with xs ys m n st q (both_cons {x} {y} {xs = us} {ys = zs} i t) g h =
      value x y m n st q (λ v. S.invoke_value C P v us m st) (λ w. S.invoke_value D Q w zs n (store_view st q)) i g h
      (λ v w r. invoked v w us zs m n st q r t g h)

  plain_items : (vs ws : List Value) → Both (ValueTo R.To) vs ws → Both (ItemTo R) (map S.plain vs) (map S.plain ws)
  plain_items vs ws t = both_map (ValueTo R.To) (ItemTo R) S.plain S.plain (λ x y r. val_to r) vs ws t

  no_elements : (v w : Value) (m n : M) (st : Store K) (q : StoreParts K) → ValueTo R.To v w → G.Now m n → Sto st q
      → Sta (S.errs 126 (Some v) m st) (S.errs 126 (Some w) n (store_view st q))
  no_elements v w m n st q t g h = errs 126 (Some v) (Some w) m n st q (each_to t) g h

  elements_called : (v w x y : Value) (m n : M) (st : Store K) (q : StoreParts K) → ValueTo R.To v w → ValueTo R.To x y → G.Now m n → Sto st q
      → Sta (S.elements_called C P v x m st) (S.elements_called D Q w y n (store_view st q))
  elements_called v w x y m n st q r (list_to id) g h =
      invoked v w _ _ m n st q r (plain_items _ _ (l_at R st.world.heap.lists q.parts.lists id h.parts.lists).items) g h
  elements_called v w x y m n st q r (record_to id) g h =
      invoked v w _ _ m n st q r (plain_items _ _ (r_at R st.world.heap.records q.parts.records id h.parts.records).fields) g h
  elements_called v w x y m n st q r null_to g h = no_elements _ _ m n st q null_to g h
  elements_called v w x y m n st q r (integer_to i) g h = no_elements _ _ m n st q (integer_to i) g h
  elements_called v w x y m n st q r (text_to bytes) g h = no_elements _ _ m n st q (text_to bytes) g h
  elements_called v w x y m n st q r (chars_to bytes) g h = no_elements _ _ m n st q (chars_to bytes) g h
  elements_called v w x y m n st q r (file_to file) g h = no_elements _ _ m n st q (file_to file) g h
  elements_called v w x y m n st q r (procedure_to p u k) g h = no_elements _ _ m n st q (procedure_to p u k) g h
  elements_called v w x y m n st q r (set_to id) g h = no_elements _ _ m n st q (set_to id) g h
  elements_called v w x y m n st q r (table_to id) g h = no_elements _ _ m n st q (table_to id) g h
  elements_called v w x y m n st q r (coexp_to id) g h = no_elements _ _ m n st q (coexp_to id) g h

  applied : (xs ys : List Item) (m n : M) (st : Store K) (q : StoreParts K) → Both (ItemTo R) xs ys → G.Now m n → Sto st q
      → Sta (S.applied_to_elements C P xs m st) (S.applied_to_elements D Q ys n (store_view st q))
  applied xs ys m n st q both_nil g h = stuck_to
  applied xs ys m n st q (both_cons i both_nil) g h = stuck_to
  applied xs ys m n st q (both_cons {x} {y} i (both_cons {x = u} {y = z} j both_nil)) g h =
      value x y m n st q (λ callee. S.with_value C u m st (λ from. S.elements_called C P callee from m st))
      (λ callee. S.with_value D z n (store_view st q) (λ from. S.elements_called D Q callee from n (store_view st q))) i g h
      (λ v w r. value u z m n st q (λ from. S.elements_called C P v from m st) (λ from. S.elements_called D Q w from n (store_view st q)) j g h
      (λ a b k. elements_called v w a b m n st q r k g h))
  applied xs ys m n st q (both_cons i (both_cons j (both_cons k t))) g h = stuck_to

  field_taken : (o p : Option ℕ) (id : ℕ) (m n : M) (st : Store K) (q : StoreParts K) → o ≡ p → G.Now m n → Sto st q
      → Sta (S.field_taken C o id m st) (S.field_taken D p id n (store_view st q))
  field_taken o p id m n st q e g h = subst (λ (z : Option ℕ). Sta (S.field_taken C o id m st) (S.field_taken D z id n (store_view st q))) e (by o)
    where
      by : (z : Option ℕ) → Sta (S.field_taken C z id m st) (S.field_taken D z id n (store_view st q))
      by (Some place) = running_to st q (G.push _ _ m n (var_to (whole_to (field_to id place))) g) h
      by None = errs 207 _ _ m n st q (each_to (record_to id)) g h

  no_record : (v w : Value) (m n : M) (st : Store K) (q : StoreParts K) → ValueTo R.To v w → G.Now m n → Sto st q
      → Sta (S.errs 107 (Some v) m st) (S.errs 107 (Some w) n (store_view st q))
  no_record v w m n st q t g h = errs 107 (Some v) (Some w) m n st q (each_to t) g h

  field_of : (k j : ℕ) (v w : Value) (m n : M) (st : Store K) (q : StoreParts K) → ((kind : ℕ) → S.field_index P k kind ≡ S.field_index Q j kind)
      → ValueTo R.To v w → G.Now m n → Sto st q → Sta (S.field_of C P k v m st) (S.field_of D Q j w n (store_view st q))
  field_of k j v w m n st q e (record_to id) g h = field_taken _ _ id m n st q
      (e (record_at st.world.heap id).kind ∙ ap (S.field_index Q j) (r_at R st.world.heap.records q.parts.records id h.parts.records).kind) g h
  field_of k j v w m n st q e null_to g h = no_record _ _ m n st q null_to g h
  field_of k j v w m n st q e (integer_to i) g h = no_record _ _ m n st q (integer_to i) g h
  field_of k j v w m n st q e (text_to bytes) g h = no_record _ _ m n st q (text_to bytes) g h
  field_of k j v w m n st q e (chars_to bytes) g h = no_record _ _ m n st q (chars_to bytes) g h
  field_of k j v w m n st q e (file_to file) g h = no_record _ _ m n st q (file_to file) g h
  field_of k j v w m n st q e (procedure_to p u r) g h = no_record _ _ m n st q (procedure_to p u r) g h
  field_of k j v w m n st q e (list_to id) g h = no_record _ _ m n st q (list_to id) g h
  field_of k j v w m n st q e (set_to id) g h = no_record _ _ m n st q (set_to id) g h
  field_of k j v w m n st q e (table_to id) g h = no_record _ _ m n st q (table_to id) g h
  field_of k j v w m n st q e (coexp_to id) g h = no_record _ _ m n st q (coexp_to id) g h

  result : (x y : Item) (m n : M) (st : Store K) (q : StoreParts K) (go other : Item → State K M) → ItemTo R x y → G.Now m n → Sto st q
      → ((u z : Item) → ItemTo R u z → Sta (go u) (other z)) → Sta (S.with_result C x m st go) (S.with_result D y n (store_view st q) other)
  result x y m n st q go other (val_to t) g h f = f _ _ (val_to t)
  result x y m n st q go other (var_to (whole_to (local_to k))) g h f =
      value _ _ m n st q (λ v. go (Val v)) (λ w. other (Val w)) (var_to (whole_to (local_to k))) g h
      (λ v w t. f (Val v) (Val w) (val_to t))
  result x y m n st q go other (var_to (whole_to (global_to k j t))) g h f = f _ _ (var_to (whole_to (global_to k j t)))
  result x y m n st q go other (var_to (whole_to (static_to k j t))) g h f = f _ _ (var_to (whole_to (static_to k j t)))
  result x y m n st q go other (var_to (whole_to (element_to id number))) g h f = f _ _ (var_to (whole_to (element_to id number)))
  result x y m n st q go other (var_to (whole_to (field_to id k))) g h f = f _ _ (var_to (whole_to (field_to id k)))
  result x y m n st q go other (var_to (whole_to (key_to id v w t))) g h f = f _ _ (var_to (whole_to (key_to id v w t)))
  result x y m n st q go other (var_to (whole_to (word_to word))) g h f = f _ _ (var_to (whole_to (word_to word)))
  result x y m n st q go other (var_to (part_to place size (local_to k))) g h f =
      value _ _ m n st q (λ v. go (Val v)) (λ w. other (Val w)) (var_to (part_to place size (local_to k))) g h (λ v w t. f (Val v) (Val w) (val_to t))
  result x y m n st q go other (var_to (part_to place size (global_to k j t))) g h f = f _ _ (var_to (part_to place size (global_to k j t)))
  result x y m n st q go other (var_to (part_to place size (static_to k j t))) g h f = f _ _ (var_to (part_to place size (static_to k j t)))
  result x y m n st q go other (var_to (part_to place size (element_to id number))) g h f = f _ _ (var_to (part_to place size (element_to id number)))
  result x y m n st q go other (var_to (part_to place size (field_to id k))) g h f = f _ _ (var_to (part_to place size (field_to id k)))
  result x y m n st q go other (var_to (part_to place size (key_to id v w t))) g h f = f _ _ (var_to (part_to place size (key_to id v w t)))
  result x y m n st q go other (var_to (part_to place size (word_to word))) g h f = f _ _ (var_to (part_to place size (word_to word)))

  returned : (o p : Option M) (st : Store K) (q : StoreParts K) (go other : M → Store K → State K M) → OptionTo G.Now o p → Sto st q
      → ((m n : M) (s : Store K) (r : StoreParts K) → G.Now m n → Sto s r → Sta (go m s) (other n (store_view s r)))
      → Sta (S.return_to o go st) (S.return_to p other (store_view st q))
  returned o p st q go other neither h f = by (S.is_main st.active)
    where
      by : (b : Bool)
          → Sta (if b then S.over_with Done st.world st.outside else stuck) (if b then S.over_with Done (store_view st q).world st.outside else stuck)
      by true = over_to Done (files_written st.world.heap st.outside)
      by false = stuck_to
  returned o p st q go other (each_to {x} {y} t) h f = f x y st q t h

  proc_fails : (m n : M) (st : Store K) (q : StoreParts K) → G.Now m n → Sto st q → Sta (S.proc_fails C m st) (S.proc_fails D n (store_view st q))
  proc_fails m n st q g h = all_left m n st q (λ s. S.return_to (C.leave m) failing s) (λ s. S.return_to (D.leave n) failing s) g h
      (λ s r k. returned (C.leave m) (D.leave n) s r failing failing (G.leave m n g) k (λ m n s r g h. failing_to s r g h))

  -- Failing

  create_body : (m n : M) (st : Store K) (q : StoreParts K) → G.Now m n → S.is_create_body C m st ≡ S.is_create_body D n (store_view st q)
  create_body m n st q g = ap (λ (b : Bool). b && not (S.is_main st.active)) (G.is_base m n g)

  without_mark : (m n : M) (st : Store K) (q : StoreParts K) → G.Now m n → Sto st q → Sta (S.without_mark C P m st) (S.without_mark D Q n (store_view st q))
  without_mark m n st q g h = either _ _ (S.exhaust_active C P m st) (S.proc_fails C m st) (S.exhaust_active D Q n (store_view st q))
      (S.proc_fails D n (store_view st q)) (create_body m n st q g) (exhausted m n st q g h) (proc_fails m n st q g h)

  mark_dropped : (d e : MarkDrop M) (m n : M) (st : Store K) (q : StoreParts K) → DropTo G.Now d e → G.Now m n → Sto st q
      → Sta (S.mark_dropped C P m st d) (S.mark_dropped D Q n (store_view st q) e)
  mark_dropped d e m n st q no_mark_to g h = without_mark m n st q g h
  mark_dropped d e m n st q (goes_to t) g h = running_to st q t h
  mark_dropped d e m n st q (repeats_to {m = x} {n = y} t) g h = turn st q (running x) (running y) h (λ s r k. running_to s r t k)
  mark_dropped d e m n st q (outside_to t) g h = failing_to st q t h

  resume_by : (w u : Why) (m n : M) (st : Store K) (q : StoreParts K) → WhyTo R w u → G.Now m n → Sto st q
      → Sta (S.resume_by C P w m st) (S.resume_by D Q u n (store_view st q))
  resume_by w u m n st q alt_to g h = failing_to st q g h
  resume_by w u m n st q (op_to {r = x} {s = y} t) g h =
      turn st q (λ st. S.outcome C (again x (S.here C m st)) m st) (λ st. S.outcome D (again y (S.here D n st)) n st) h
      (λ s r k. performed (again x) (again y) m n s r (resumed_to R x y t) g k)
  resume_by w u m n st q (scan_to pair) g h = failing_to (S.with_pair pair st) q g (paired pair st q h)
  resume_by w u m n st q escan_to g h = exchanged _ _ st q failing failing (G.swap_newest (S.pair_now st) m n g) h (λ m n s r g h. failing_to s r g h)
  resume_by w u m n st q proc_to g h =
      turn st q (λ st. S.maybe_exchanged (C.swap_oldest (S.pair_now st) m) m st running)
      (λ st. S.maybe_exchanged (D.swap_oldest (S.pair_now st) n) n st running) h
      (λ s r k. maybe_exchanged _ _ m n s r running running (G.swap_oldest (S.pair_now s) m n g) g k (λ m n s r g h. running_to s r g h))

  resumed_or_dropped : (o p : Option (Why × M)) (m n : M) (st : Store K) (q : StoreParts K) → OptionTo (Paired (WhyTo R) G.Now) o p → G.Now m n → Sto st q
      → Sta (S.resumed_or_dropped C P m st o) (S.resumed_or_dropped D Q n (store_view st q) p)
  resumed_or_dropped o p m n st q neither g h = mark_dropped _ _ m n st q (G.drop_mark m n g) g h
  resumed_or_dropped o p m n st q (each_to {x} {y} t) g h = resume_by x.0 y.0 x.1 y.1 st q t.first t.second h

  pub fails : (m n : M) (st : Store K) (q : StoreParts K) → G.Now m n → Sto st q → Sta (S.fails C P m st) (S.fails D Q n (store_view st q))
  fails m n st q g h = resumed_or_dropped _ _ m n st q (G.resume m n g) g h

  -- Instructions

  kept_number_to : (o p : Option KeptError) → OptionTo (KeptTo R) o p → OptionTo (ItemTo R) (kept_number o) (kept_number p)
  kept_number_to o p neither = neither
  kept_number_to o p (each_to t) = each_to (val_to (v_integer R _ _ (ap pos t.number)))

  kept_value_to : (o p : Option KeptError) → OptionTo (KeptTo R) o p → OptionTo (ItemTo R) (kept_value o) (kept_value p)
  kept_value_to o p neither = neither
  kept_value_to o p (each_to t) = by _ _ t.value
    where
      by : (a b : Option Value) → OptionTo (ValueTo R.To) a b → OptionTo (ItemTo R) (option_map Val a) (option_map Val b)
      by a b neither = neither
      by a b (each_to r) = each_to (val_to r)

  kept_text_to : (o p : Option KeptError) → OptionTo (KeptTo R) o p → OptionTo (ItemTo R) (kept_text o) (kept_text p)
  kept_text_to o p neither = neither
  kept_text_to o p (each_to {x} {y} t) =
      each_to (val_to (subst (λ (k : ℕ). ValueTo R.To (Text (error_text x.number)) (Text (error_text k))) t.number (text_to _)))

  keyword_to : (m n : M) (st : Store K) (q : StoreParts K) (word : AnyKeyword) → G.Now m n → Sto st q
      → OptionTo (ItemTo R) (keyword_item (S.standing_of C m st) word) (keyword_item (S.standing_of D n (store_view st q)) word)
  keyword_to m n st q Keywords.Ascii g h = each_to (val_to (chars_to _))
  keyword_to m n st q Keywords.Cset g h = each_to (val_to (chars_to _))
  keyword_to m n st q Keywords.Current g h = each_to (val_to (coexp_to _))
  keyword_to m n st q Keywords.Digits g h = each_to (val_to (chars_to _))
  keyword_to m n st q Keywords.Errout g h = each_to (val_to (file_to _))
  keyword_to m n st q Keywords.Fail g h = neither
  keyword_to m n st q Keywords.Input g h = each_to (val_to (file_to _))
  keyword_to m n st q Keywords.Lcase g h = each_to (val_to (chars_to _))
  keyword_to m n st q Keywords.Letters g h = each_to (val_to (chars_to _))
  keyword_to m n st q Keywords.Level g h = each_to (val_to (v_integer R _ _ (ap pos (G.level m n g))))
  keyword_to m n st q Keywords.Main g h = each_to (val_to (coexp_to _))
  keyword_to m n st q Keywords.Null g h = each_to (val_to null_to)
  keyword_to m n st q Keywords.Output g h = each_to (val_to (file_to _))
  keyword_to m n st q Keywords.Pos g h = each_to (var_to (whole_to (word_to _)))
  keyword_to m n st q Keywords.Random g h = each_to (var_to (whole_to (word_to _)))
  keyword_to m n st q Keywords.Source g h =
      let k = S.activator_of st.active st in
      each_to (val_to (subst (λ (z : ℕ). ValueTo R.To (ACoexp k) (ACoexp z)) (there st.active st q h).activator (coexp_to k)))
  keyword_to m n st q Keywords.Subject g h = each_to (var_to (whole_to (word_to _)))
  keyword_to m n st q Keywords.Ucase g h = each_to (val_to (chars_to _))
  keyword_to m n st q Keywords.Error g h = each_to (var_to (whole_to (word_to _)))
  keyword_to m n st q Keywords.ErrorNumber g h = kept_number_to st.world.kept q.parts.kept h.parts.kept
  keyword_to m n st q Keywords.ErrorValue g h = kept_value_to st.world.kept q.parts.kept h.parts.kept
  keyword_to m n st q Keywords.ErrorText g h = kept_text_to st.world.kept q.parts.kept h.parts.kept

  limited_by : (v w : Value) (o : Option ℤ) (m n : M) (st : Store K) (q : StoreParts K) → ValueTo R.To v w → G.Now m n → Sto st q
      → Sta (S.limit_results C v o m st) (S.limit_results D w o n (store_view st q))
  limited_by v w None m n st q t g h = errs 101 (Some v) (Some w) m n st q (each_to t) g h
  limited_by v w (Some (negsuc k)) m n st q t g h = errs 205 (Some v) (Some w) m n st q (each_to t) g h
  limited_by v w (Some (pos zero)) m n st q t g h = failing_to st q g h
  limited_by v w (Some (pos (suc k))) m n st q t g h = running_to st q (G.limit (suc k) m n g) h

  limited : (v w : Value) (m n : M) (st : Store K) (q : StoreParts K) → ValueTo R.To v w → G.Now m n → Sto st q
      → Sta (S.limit_results C v (integer_of v) m st) (S.limit_results D w (integer_of w) n (store_view st q))
  limited v w m n st q t g h =
      subst (λ (o : Option ℤ). Sta (S.limit_results C v (integer_of v) m st) (S.limit_results D w o n (store_view st q))) (e_integer R v w t)
      (limited_by v w (integer_of v) m n st q t g h)

  limited_result : (x y : Item) (k : ℕ) (m n : M) (st : Store K) (q : StoreParts K) → ItemTo R x y → G.Now m n → Sto st q
      → Sta (S.limited_result C x k m st) (S.limited_result D y k n (store_view st q))
  limited_result x y zero m n st q i g h =
      unmarked m n st q (S.push_item C x) (S.push_item D y) g h (λ m n s r g h. running_to s r (G.push x y m n i g) h)
  limited_result x y (suc k) m n st q i g h = found G.Now _ _ (λ after. S.push_item C x after st) (λ after. S.push_item D y after (store_view st q))
      (G.suspend_mark m n g) (λ m n g. running_to st q (G.push x y m n i g) h)

  scan_opened : (v w : Value) (m n : M) (st : Store K) (q : StoreParts K) → ValueTo R.To v w → G.Now m n → Sto st q
      → Sta (S.scan_opened C v m st) (S.scan_opened D w n (store_view st q))
  scan_opened v w m n st q (text_to text) g h =
      running_to (S.with_pair (record { subject = text; position = 1 }) st) q (G.suspend _ _ m n (scan_to (S.pair_now st)) g)
      (paired (record { subject = text; position = 1 }) st q h)
  scan_opened v w m n st q null_to g h = failing_to st q g h
  scan_opened v w m n st q (integer_to i) g h = failing_to st q g h
  scan_opened v w m n st q (chars_to bytes) g h = failing_to st q g h
  scan_opened v w m n st q (file_to file) g h = failing_to st q g h
  scan_opened v w m n st q (procedure_to p u r) g h = failing_to st q g h
  scan_opened v w m n st q (record_to id) g h = failing_to st q g h
  scan_opened v w m n st q (list_to id) g h = failing_to st q g h
  scan_opened v w m n st q (set_to id) g h = failing_to st q g h
  scan_opened v w m n st q (table_to id) g h = failing_to st q g h
  scan_opened v w m n st q (coexp_to id) g h = failing_to st q g h

  noted : (xs ys : List Bool) (p u : ℕ) → PlacesTo R.To (λ (a b : Bool). a ≡ b) xs ys → R.To p u → slice_index_or xs p true ≡ slice_index_or ys u true
  noted xs ys p u t r = index_is xs p ∙ by _ _ (t.at p u r) ∙ sym (index_is ys u)
    where
      index_is : (zs : List Bool) (k : ℕ) → slice_index_or zs k true ≡ unwrap_or (slice_get zs k) true
      index_is [] k = refl
      index_is (z ∷ zs) zero = refl
      index_is (z ∷ zs) (suc k) = index_is zs k

      by : (a b : Option Bool) → OptionTo (λ (x y : Bool). x ≡ y) a b → unwrap_or a true ≡ unwrap_or b true
      by a b neither = refl
      by a b (each_to e) = e

  initial_by : (b c : Bool) (label : ℕ) (m n : M) (st : Store K) (q : StoreParts K) → b ≡ c → G.Now m n → Sto st q
      → Sta (S.initial_if C b label m st) (S.initial_if D c label n (store_view st q))
  initial_by true true label m n st q e g h = running_to st q (G.go label m n g) h
  initial_by true false label m n st q e g h = absurd (cc)
  initial_by false true label m n st q e g h = absurd (cc)
  initial_by false false label m n st q e g h =
      running_to (record st { begun = slice_set st.begun (C.proc m) true }) (record q { begun = slice_set q.begun (D.proc n) true }) g (record {
        parts = h.parts;
        begun = places_set R.To (λ (a b : Bool). a ≡ b) R.one st.begun q.begun (C.proc m) (D.proc n) true true h.begun (G.proc m n g) refl;
        coexps = h.coexps;
        whole = h.whole;
        left = h.left;
      })

  activation_of : (xs ys : List Item) (m n : M) (st : Store K) (q : StoreParts K) → Both (ItemTo R) xs ys → G.Now m n → Sto st q
      → Sta (S.activation_of C xs m st) (S.activation_of D ys n (store_view st q))
  activation_of xs ys m n st q both_nil g h = stuck_to
  activation_of xs ys m n st q (both_cons i both_nil) g h = stuck_to
  activation_of xs ys m n st q (both_cons {x} {y} i (both_cons {x = u} {y = z} j both_nil)) g h =
      value x y m n st q (λ value. S.with_value C u m st (λ other. S.activation C value other m st))
      (λ value. S.with_value D z n (store_view st q) (λ other. S.activation D value other n (store_view st q))) i g h
      (λ v w t. value u z m n st q (λ other. S.activation C v other m st) (λ other. S.activation D w other n (store_view st q)) j g h
      (λ a b k. activation v w a b m n st q t k g h))
  activation_of xs ys m n st q (both_cons i (both_cons j (both_cons k t))) g h = stuck_to

  operated : (op : Op) (xs ys : List Item) (m n : M) (st : Store K) (q : StoreParts K) → Both (ItemTo R) xs ys → G.Now m n → Sto st q
      → Sta (S.operate C op xs m st) (S.operate D op ys n (store_view st q))
  operated Ops.Refresh xs ys m n st q (both_cons {x} {y} i t) g h =
      value x y m n st q (λ value. S.refresh C value m st) (λ value. S.refresh D value n (store_view st q)) i g h (λ v w r. refreshed v w m n st q r g h)
  operated op xs ys m n st q t g h = performed (operation_row op xs) (operation_row op ys) m n st q (operation_to R op xs ys t) g h

  field_applied : (k j : ℕ) (xs ys : List Item) (m n : M) (st : Store K) (q : StoreParts K) → ((kind : ℕ) → S.field_index P k kind ≡ S.field_index Q j kind)
      → Both (ItemTo R) xs ys → G.Now m n → Sto st q → Sta (S.field_applied C P k xs m st) (S.field_applied D Q j ys n (store_view st q))
  field_applied k j xs ys m n st q e both_nil g h = stuck_to
  field_applied k j xs ys m n st q e (both_cons {x} {y} i t) g h =
      value x y m n st q (λ value. S.field_of C P k value m st) (λ value. S.field_of D Q j value n (store_view st q)) i g h
      (λ v w r. field_of k j v w m n st q e r g h)

  -- the operand on top, and so many of them
  popped : (m n : M) (go other : Item → M → State K M) → G.Now m n → ((x y : Item) (m n : M) → ItemTo R x y → G.Now m n → Sta (go x m) (other y n))
      → Sta (S.with_popped C m go) (S.with_popped D n other)
  popped m n go other g f = parted (ItemTo R) G.Now (C.pop m) (D.pop n) go other (G.pop m n g) (λ x m y n i g. f x y m n i g)

  taken : (k : ℕ) (m n : M) (go other : List Item → M → State K M) → G.Now m n
      → ((xs ys : List Item) (m n : M) → Both (ItemTo R) xs ys → G.Now m n → Sta (go xs m) (other ys n))
      → Sta (S.with_taken C k m go) (S.with_taken D k n other)
  taken k m n go other g f = parted (Both (ItemTo R)) G.Now (C.take k m) (D.take k n) go other (G.take k m n g) (λ xs m ys n i g. f xs ys m n i g)

  pushed : (x y : Item) (m n : M) (st : Store K) (q : StoreParts K) → ItemTo R x y → G.Now m n → Sto st q
      → Sta (S.push_item C x m st) (S.push_item D y n (store_view st q))
  pushed x y m n st q i g h = running_to st q (G.push x y m n i g) h

  plain : (i : Instr) (m n : M) (st : Store K) (q : StoreParts K) → IsPlain i → G.Now m n → Sto st q
      → Sta (S.instruction C P i m st) (S.instruction D Q i n (store_view st q))
  plain (I.Int k) m n st q r g h = absurd r
  plain (I.Str k) m n st q r g h = absurd r
  plain (I.Cset k) m n st q r g h = absurd r
  plain (I.Global k) m n st q r g h = absurd r
  plain (I.Static k) m n st q r g h = absurd r
  plain (I.Field k) m n st q r g h = absurd r
  plain I.Pnull m n st q r g h = pushed (Val Null) (Val Null) m n st q (val_to null_to) g h
  plain (I.Local k) m n st q r g h = pushed _ _ m n st q (var_to (whole_to (local_to k))) g h
  plain (I.Keywd word) m n st q r g h = pushed_or_fails _ _ m n st q (keyword_to m n st q word g h) g h
  plain I.Pop m n st q r g h = popped m n (λ item m. running m st) (λ item m. running m (store_view st q)) g (λ x y m n i g. running_to st q g h)
  plain I.Dup m n st q r g h = popped m n (λ item below. S.push_item C item m st) (λ item below. S.push_item D item n (store_view st q)) g
      (λ x y below lower i k. pushed x y m n st q i g h)
  plain (I.Op op) m n st q r g h = taken (arity op) m n (λ items m. S.turn P st (S.operate C op items m))
      (λ items m. S.turn Q (store_view st q) (S.operate D op items m)) g
      (λ xs ys m n t g. turn st q (S.operate C op xs m) (S.operate D op ys n) h (λ s z k. operated op xs ys m n s z t g k))
  plain (I.Llist k) m n st q r g h = taken k m n
      (λ items m. S.turn P st (λ st. S.with_values C items m st (λ values. S.list_made C values m st (λ list m st. S.push_item C (Val list) m st))))
      (λ items m. S.turn Q (store_view st q)
      (λ st. S.with_values D items m st (λ values. S.list_made D values m st (λ list m st. S.push_item D (Val list) m st)))) g
      (λ xs ys m n t g. turn st q (λ st. S.with_values C xs m st (λ values. S.list_made C values m st (λ list m st. S.push_item C (Val list) m st)))
      (λ st. S.with_values D ys n st (λ values. S.list_made D values n st (λ list m st. S.push_item D (Val list) m st))) h
      (λ s z k. values xs ys m n s z (λ values. S.list_made C values m s (λ list m st. S.push_item C (Val list) m st))
      (λ values. S.list_made D values n (store_view s z) (λ list m st. S.push_item D (Val list) m st)) t g k
      (λ vs ws l. list_made vs ws m n s z (λ list m st. S.push_item C (Val list) m st) (λ list m st. S.push_item D (Val list) m st) l g k
      (λ v w m n s z e g h. pushed (Val v) (Val w) m n s z (val_to e) g h))))
  plain (I.Invoke k) m n st q r g h = taken (suc k) m n (λ items m. S.turn P st (S.invoked_with C P items m))
      (λ items m. S.turn Q (store_view st q) (S.invoked_with D Q items m)) g
      (λ xs ys m n t g. turn st q (S.invoked_with C P xs m) (S.invoked_with D Q ys n) h (λ s z k. invoked_with xs ys m n s z t g k))
  plain I.Appl m n st q r g h = taken 2 m n (λ items m. S.turn P st (S.applied_to_elements C P items m))
      (λ items m. S.turn Q (store_view st q) (S.applied_to_elements D Q items m)) g
      (λ xs ys m n t g. turn st q (S.applied_to_elements C P xs m) (S.applied_to_elements D Q ys n) h (λ s z k. applied xs ys m n s z t g k))
  plain (I.Mark label) m n st q r g h = running_to st q (G.mark (Some label) m n g) h
  plain I.Mark0 m n st q r g h = running_to st q (G.mark None m n g) h
  plain I.Unmark m n st q r g h = unmarked m n st q running running g h (λ m n s z g h. running_to s z g h)
  plain I.Eret m n st q r g h = popped m n (λ item m. S.with_value C item m st (λ value. S.unmark_then C m st (S.push_item C (Val value))))
      (λ item m. S.with_value D item m (store_view st q) (λ value. S.unmark_then D m (store_view st q) (S.push_item D (Val value)))) g
      (λ x y m n i g. value x y m n st q (λ value. S.unmark_then C m st (S.push_item C (Val value)))
      (λ value. S.unmark_then D n (store_view st q) (S.push_item D (Val value))) i g h
      (λ v w t. unmarked m n st q (S.push_item C (Val v)) (S.push_item D (Val w)) g h
      (λ m n s z g h. pushed (Val v) (Val w) m n s z (val_to t) g h)))
  plain I.Esusp m n st q r g h = popped m n (λ item m. S.with_found (C.suspend_mark m) (λ m. S.push_item C item m st))
      (λ item m. S.with_found (D.suspend_mark m) (λ m. S.push_item D item m (store_view st q))) g
      (λ x y m n i g. found G.Now (C.suspend_mark m) (D.suspend_mark n) (λ m. S.push_item C x m st) (λ m. S.push_item D y m (store_view st q))
      (G.suspend_mark m n g) (λ m n g. pushed x y m n st q i g h))
  plain I.Limit m n st q r g h = popped m n (λ item m. S.with_value C item m st (λ value. S.limit_results C value (integer_of value) m st))
      (λ item m. S.with_value D item m (store_view st q) (λ value. S.limit_results D value (integer_of value) m (store_view st q))) g
      (λ x y m n i g. value x y m n st q (λ value. S.limit_results C value (integer_of value) m st)
      (λ value. S.limit_results D value (integer_of value) n (store_view st q)) i g h (λ v w t. limited v w m n st q t g h))
  plain I.Lsusp m n st q r g h = popped m n (λ item m. S.with_found (C.count_down m) (S.on_pair (λ count m. S.limited_result C item count m st)))
      (λ item m. S.with_found (D.count_down m) (S.on_pair (λ count m. S.limited_result D item count m (store_view st q)))) g
      (λ x y m n i g. parted (λ (a b : ℕ). a ≡ b) G.Now (C.count_down m) (D.count_down n) (λ count m. S.limited_result C x count m st)
      (λ count m. S.limited_result D y count m (store_view st q)) (G.count_down m n g)
      (λ a m b n e g. subst (λ (k : ℕ). Sta (S.limited_result C x a m st) (S.limited_result D y k n (store_view st q))) e
      (limited_result x y a m n st q i g h)))
  plain I.Efail m n st q r g h = failing_to st q g h
  plain (I.Chfail label) m n st q r g h = found G.Now (C.relabel label m) (D.relabel label n) (λ m. running m st) (λ m. running m (store_view st q))
      (G.relabel label m n g) (λ m n g. running_to st q g h)
  plain (I.Goto label) m n st q r g h = running_to st q (G.go label m n g) h
  plain (I.Loop label) m n st q r g h = turn st q (running (C.go label m)) (running (D.go label n)) h (λ s z k. running_to s z (G.go label m n g) k)
  plain I.Bscan m n st q r g h = popped m n
      (λ item m. S.with_value C item m st (λ value. S.with_made C (text_row value (S.here C m st)) m st (S.scan_opened C)))
      (λ item m. S.with_value D item m (store_view st q)
      (λ value. S.with_made D (text_row value (S.here D m (store_view st q))) m (store_view st q) (S.scan_opened D))) g
      (λ x y m n i g. value x y m n st q (λ value. S.with_made C (text_row value (S.here C m st)) m st (S.scan_opened C))
      (λ value. S.with_made D (text_row value (S.here D n (store_view st q))) n (store_view st q) (S.scan_opened D)) i g h
      (λ v w t. made_by (text_row v) (text_row w) m n st q (S.scan_opened C) (S.scan_opened D) (text_row_to R v w t) g h
      (λ v w m n s z t g h. scan_opened v w m n s z t g h)))
  plain I.Escan m n st q r g h = popped m n
      (λ item m. S.with_exchange (C.swap_newest (S.pair_now st) m) (λ m. S.push_item C item (C.suspend Escan m)) st)
      (λ item m. S.with_exchange (D.swap_newest (S.pair_now st) m) (λ m. S.push_item D item (D.suspend Escan m)) (store_view st q)) g
      (λ x y m n i g. exchanged (C.swap_newest (S.pair_now st) m) (D.swap_newest (S.pair_now st) n) st q (λ m. S.push_item C x (C.suspend Escan m))
      (λ m. S.push_item D y (D.suspend Escan m)) (G.swap_newest (S.pair_now st) m n g) h
      (λ m n s z g h. pushed x y _ _ s z i (G.suspend Escan Escan m n escan_to g) h))
  plain I.Ccase m n st q r g h = found (ItemTo R) (C.below m) (D.below n) (λ item. S.push_item C item m st) (λ item. S.push_item D item n (store_view st q))
      (G.below m n g) (λ x y i. pushed x y m n st q i g h)
  plain (I.Init label) m n st q r g h = initial_by _ _ label m n st q (noted st.begun q.begun (C.proc m) (D.proc n) h.begun (G.proc m n g)) g h
  plain I.Psusp m n st q r g h = popped m n
      (λ item below. S.with_result C item m st (λ result. S.maybe_exchanged (C.swap_oldest (S.pair_now st) m) m st
      (λ m. S.return_to (C.suspend_proc m) (S.push_item C result))))
      (λ item below. S.with_result D item n (store_view st q) (λ result. S.maybe_exchanged (D.swap_oldest (S.pair_now st) n) n (store_view st q)
      (λ m. S.return_to (D.suspend_proc m) (S.push_item D result)))) g
      (λ x y below lower i k. result x y m n st q
      (λ result. S.maybe_exchanged (C.swap_oldest (S.pair_now st) m) m st (λ m. S.return_to (C.suspend_proc m) (S.push_item C result)))
      (λ result. S.maybe_exchanged (D.swap_oldest (S.pair_now st) n) n (store_view st q) (λ m. S.return_to (D.suspend_proc m) (S.push_item D result))) i g h
      (λ u z j. maybe_exchanged (C.swap_oldest (S.pair_now st) m) (D.swap_oldest (S.pair_now st) n) m n st q
      (λ m. S.return_to (C.suspend_proc m) (S.push_item C u)) (λ m. S.return_to (D.suspend_proc m) (S.push_item D z)) (G.swap_oldest (S.pair_now st) m n g) g h
      (λ m n s a g h. returned (C.suspend_proc m) (D.suspend_proc n) s a (S.push_item C u) (S.push_item D z) (G.suspend_proc m n g) h
      (λ m n s a g h. pushed u z m n s a j g h))))
  plain I.Pret m n st q r g h = popped m n
      (λ item m. S.with_result C item m st (λ result. S.return_to (C.leave m) (S.push_item C result) (S.all_left C m st)))
      (λ item m. S.with_result D item m (store_view st q)
      (λ result. S.return_to (D.leave m) (S.push_item D result) (S.all_left D m (store_view st q)))) g
      (λ x y m n i g. result x y m n st q (λ result. S.return_to (C.leave m) (S.push_item C result) (S.all_left C m st))
      (λ result. S.return_to (D.leave n) (S.push_item D result) (S.all_left D n (store_view st q))) i g h
      (λ u z j. all_left m n st q (λ s. S.return_to (C.leave m) (S.push_item C u) s) (λ s. S.return_to (D.leave n) (S.push_item D z) s) g h
      (λ s a k. returned (C.leave m) (D.leave n) s a (S.push_item C u) (S.push_item D z) (G.leave m n g) k
      (λ m n s a g h. pushed u z m n s a j g h))))
  plain I.Pfail m n st q r g h = either _ _ stuck (S.proc_fails C m st) stuck (S.proc_fails D n (store_view st q)) (create_body m n st q g) stuck_to
      (proc_fails m n st q g h)
  plain (I.Create label) m n st q r g h = turn st q (S.coexp_made C (C.locals m) (C.proc m) (C.address m) (C.go label m))
      (S.coexp_made D (D.locals n) (D.proc n) (D.address n) (D.go label n)) h
      (λ s z k. coexp_made (C.locals m) (D.locals n) (C.proc m) (D.proc n) (C.address m) (D.address n) (C.go label m) (D.go label n) s z
      (G.locals m n g) (G.proc m n g) (G.address m n g) (G.go label m n g) k)
  plain I.Coact m n st q r g h = taken 2 m n (λ items m. S.turn P st (S.activation_of C items m))
      (λ items m. S.turn Q (store_view st q) (S.activation_of D items m)) g
      (λ xs ys m n t g. turn st q (S.activation_of C xs m) (S.activation_of D ys n) h (λ s z k. activation_of xs ys m n s z t g k))
  plain I.Coret m n st q r g h = either _ _
      (S.with_popped C m (λ item m. S.turn P st (λ st. S.with_value C item m st (λ value. S.result_given C value m st)))) stuck
      (S.with_popped D n (λ item m. S.turn Q (store_view st q) (λ st. S.with_value D item m st (λ value. S.result_given D value m st)))) stuck
      (create_body m n st q g)
      (popped m n (λ item m. S.turn P st (λ st. S.with_value C item m st (λ value. S.result_given C value m st)))
      (λ item m. S.turn Q (store_view st q) (λ st. S.with_value D item m st (λ value. S.result_given D value m st))) g
      (λ x y m n i g. turn st q (λ st. S.with_value C x m st (λ value. S.result_given C value m st))
      (λ st. S.with_value D y n st (λ value. S.result_given D value n st)) h
      (λ s z k. value x y m n s z (λ value. S.result_given C value m s) (λ value. S.result_given D value n (store_view s z)) i g k
      (λ v w t. result_given v w m n s z t g k)))) stuck_to
  plain I.Cofail m n st q r g h = either _ _ (S.exhaust_active C P m st) stuck (S.exhaust_active D Q n (store_view st q)) stuck (create_body m n st q g)
      (exhausted m n st q g h) stuck_to

  instruction : (i j : Instr) (m n : M) (st : Store K) (q : StoreParts K) → InstrTo R P Q (C.proc m) (D.proc n) i j → G.Now m n → Sto st q
      → Sta (S.instruction C P i m st) (S.instruction D Q j n (store_view st q))
  instruction i j m n st q (plain_to instr r) g h = plain instr m n st q r g h
  instruction i j m n st q (int_to k l e) g h =
      found_same _ _ (λ x. S.push_item C (Val (Integer x)) m st) (λ x. S.push_item D (Val (Integer x)) n (store_view st q)) e
      (λ x. pushed _ _ m n st q (val_to (integer_to x)) g h)
  instruction i j m n st q (str_to k l e) g h =
      found_same _ _ (λ x. S.push_item C (Val (Text x)) m st) (λ x. S.push_item D (Val (Text x)) n (store_view st q)) e
      (λ x. pushed _ _ m n st q (val_to (text_to x)) g h)
  instruction i j m n st q (cset_to k l e) g h = found_same _ _ (λ x. S.push_item C (Val (Chars (S.members_of x))) m st)
      (λ x. S.push_item D (Val (Chars (S.members_of x))) n (store_view st q)) e (λ x. pushed _ _ m n st q (val_to (chars_to (S.members_of x))) g h)
  instruction i j m n st q (global_at_to k l t) g h = pushed _ _ m n st q (var_to (whole_to (global_to k l t))) g h
  instruction i j m n st q (static_at_to k t) g h = pushed _ _ m n st q (var_to (whole_to (static_to _ _ t))) g h
  instruction i j m n st q (field_at_to k l e) g h = taken 1 m n (λ items m. S.turn P st (S.field_applied C P k items m))
      (λ items m. S.turn Q (store_view st q) (S.field_applied D Q l items m)) g
      (λ xs ys m n t g. turn st q (S.field_applied C P k xs m) (S.field_applied D Q l ys n) h (λ s z r. field_applied k l xs ys m n s z e t g r))

  -- Steps

  runs : (m n : M) (st : Store K) (q : StoreParts K) → G.Now m n → Sto st q → Sta (S.step C P (running m st)) (S.step D Q (running n (store_view st q)))
  runs m n st q g h =
      let a = C.address m in
      subst (λ (b : ℕ). Sta (S.step C P (running m st))
      (S.with_found (slice_get (S.instrs_of Q (D.proc n)) b) (λ instr. S.instruction D Q instr (D.go (suc b) n) (store_view st q)))) (G.address m n g)
      (found (InstrTo R P Q (C.proc m) (D.proc n)) _ _ (λ instr. S.instruction C P instr (C.go (suc a) m) st)
      (λ instr. S.instruction D Q instr (D.go (suc a) n) (store_view st q)) (code.instrs (C.proc m) (D.proc n) a (G.proc m n g))
      (λ i j t. instruction i j (C.go (suc a) m) (D.go (suc a) n) st q
      (subst (λ (p : ℕ). InstrTo R P Q p (D.proc (D.go (suc a) n)) i j) (sym (G.go_whole (suc a) m))
      (subst (λ (p : ℕ). InstrTo R P Q (C.proc m) p i j) (sym (G.go_left (suc a) n)) t)) (G.go (suc a) m n g) h))

  pub steps : (s t : State K M) → Sta s t → Sta (S.step C P s) (S.step D Q t)
  steps s t (running_to {m} {n} st q g h) = runs m n st q g h
  steps s t (failing_to {m} {n} st q g h) = fails m n st q g h
  steps s t (hopping_to {m} {n} st q g h) = hop m n st q g h
  steps s t (over_to ending outside) = over_to ending outside
  steps s t stuck_to = stuck_to

  -- The start: nothing runs yet

  -- an error that ends the run needs no stack
  ends_by : (k : ℕ) (v w : Option Value) (m n : M) (st : Store K) (q : StoreParts K) → ends_run k st.world.error ≡ true → OptionTo (ValueTo R.To) v w
      → Sto st q → Sta (S.errs k v m st) (S.errs k w n (store_view st q))
  ends_by k v w m n st q e t h =
      subst (λ (b : Bool). Sta (ended_or_failed b k v st.world (S.ended_by k v st) (λ world. failing m (S.with_world world st)))
      (ended_or_failed b k w (store_view st q).world (S.ended_by k w (store_view st q)) (λ world. failing n (S.with_world world (store_view st q))))) (sym e)
      (subst (λ (text : List ℕ). Sta (S.ended_by k v st) (over (Errored k) (files_written (store_view st q).world.heap (with_errors text st.outside))))
      report (over_to (Errored k) (files_written st.world.heap (with_errors (error_report st.names st.world.heap k v) st.outside))))
    where
      report : error_report st.names st.world.heap k v ≡ error_report q.names (store_view st q).world.heap k w
      report = ap (λ (names : Names). error_report names st.world.heap k v) h.whole
          ∙ e_report R (setting_of st) (without_locals q.parts) h.parts k v w t
          ∙ sym (ap (λ (names : Names). error_report names (store_view st q).world.heap k w) h.left)

  -- what is charged and made before that, or ends the run
  first_made : (o p : Outcome) (m n : M) (st : Store K) (q : StoreParts K) (go other : Value → M → Store K → State K M) → OutcomeTo R o p → IsMade o
      → G.Blank m n → Sto st q
      → ((v w : Value) (m n : M) (s : Store K) (r : StoreParts K) → ValueTo R.To v w → G.Blank m n → Sto s r → Sta (go v m s) (other w n (store_view s r)))
      → Sta (S.with_made C o m st go) (S.with_made D p n (store_view st q) other)
  first_made o p m n st q go other (fails_to s) is g h f = absurd is
  first_made o p m n st q go other (gives_to {a} {b} (val_to {v} {w} t) s) is g h f =
      see R a b (λ (z : Setting). Sta (go v (C.set_locals a.locals m) (S.with_at a st)) (other w (D.set_locals z.locals n) (S.with_at z (store_view st q)))) s
      (f v w (C.set_locals a.locals m) (D.set_locals b.locals n) (S.with_at a st) (record q { parts = parts_of b }) t
      (G.blank_set a.locals b.locals m n s.parts.locals g) (at_to R G.Away st q a (parts_of b) h s.parts))
  first_made o p m n st q go other (gives_to (var_to x) s) is g h f = absurd is
  first_made o p m n st q go other (suspends_to i r s) is g h f = absurd is
  first_made o p m n st q go other (error_to {v} {w} {a} {b} k t s) is g h f =
      see R a b (λ (z : Setting). Sta (S.errs k v (C.set_locals a.locals m) (S.with_at a st))
      (S.errs k w (D.set_locals z.locals n) (S.with_at z (store_view st q)))) s
      (ends_by k v w (C.set_locals a.locals m) (D.set_locals b.locals n) (S.with_at a st) (record q { parts = parts_of b }) is t
      (at_to R G.Away st q a (parts_of b) h s.parts))
  first_made o p m n st q go other (ends_to k s) is g h f = absurd is

  made_first : (row with_it : Row) (m n : M) (st : Store K) (q : StoreParts K) (go other : Value → M → Store K → State K M) → RowTo R row with_it
      → ((a : Setting) → IsMade (row a)) → G.Blank m n → Sto st q
      → ((v w : Value) (m n : M) (s : Store K) (r : StoreParts K) → ValueTo R.To v w → G.Blank m n → Sto s r → Sta (go v m s) (other w n (store_view s r)))
      → Sta (S.with_made C (row (S.here C m st)) m st go) (S.with_made D (with_it (S.here D n (store_view st q))) n (store_view st q) other)
  made_first row with_it m n st q go other t is g h f = first_made _ _ m n st q go other
      (t.same _ _ (record { rest = refl; parts = parts_here R G.Away st q (C.locals m) (D.locals n) h (G.blank_locals m n g) })) (is _) g h f

  abbrev Begins : (List Value → M → Store K → State K M) → (List Value → M → Store K → State K M) → Type 0
  Begins go other = (vs ws : List Value) (m n : M) (s : Store K) (r : StoreParts K) → Both (ValueTo R.To) vs ws → G.Blank m n → Sto s r
      → Sta (go vs m s) (other ws n (store_view s r))

  first_collected : (b : Bool) (k : ℕ) (vs ws : List Value) (m n : M) (st : Store K) (q : StoreParts K) (go other : List Value → M → Store K → State K M)
      → Both (ValueTo R.To) vs ws → G.Blank m n → Sto st q → Begins go other
      → Sta (S.collect_rest C b k vs m st go) (S.collect_rest D b k ws n (store_view st q) other)
  first_collected false k vs ws m n st q go other t g h f = f _ _ m n st q (filled k vs ws t) g h
  first_collected true k vs ws m n st q go other t g h f =
      made_first (list_row (drop (k - 1) vs)) (list_row (drop (k - 1) ws)) m n st q (λ rest m st. go (S.fill_nulls (k - 1) vs ++ rest ∷ []) m st)
      (λ rest m st. other (S.fill_nulls (k - 1) ws ++ rest ∷ []) m st) (list_row_to R _ _ (both_drop (ValueTo R.To) (k - 1) vs ws t))
      (rows_keep.list_made (drop (k - 1) vs)) g h
      (λ v w m n s r l g h. f _ _ m n s r (both_append (ValueTo R.To) _ _ _ _ (filled (k - 1) vs ws t) (both_cons l both_nil)) g h)

  too_deep : (e : ℤ) → ends_run 301 e ≡ true
  too_deep (pos zero) = refl
  too_deep (pos (suc k)) = refl
  too_deep (negsuc k) = refl

  begun_if : (b : Bool) (p u : ℕ) (entry : Procedure) (name : ℕ) (instrs : List Instr) (vs ws : List Value) (m n : M) (st : Store K) (q : StoreParts K)
      → R.To p u → Both (ValueTo R.To) vs ws → G.Blank m n → Sto st q
      → Sta (S.begun_if C b p entry vs m st) (S.begun_if D b u (record entry { name = name; instrs = instrs }) ws n (store_view st q))
  begun_if true p u entry name instrs vs ws m n st q r t g h =
      first_collected entry.collects entry.parameters vs ws m n st q
      (λ parameters m st. running (C.begin p (parameters ++ replicate entry.locals Null) 0 m) st)
      (λ parameters m st. running (D.begin u (parameters ++ replicate entry.locals Null) 0 m) st) t g h
      (λ vs ws m n s z t g h. running_to s z (G.begin p u _ _ 0 m n r
      (both_append (ValueTo R.To) _ _ _ _ t (both_replicate (ValueTo R.To) entry.locals Null Null null_to)) g) h)
  begun_if false p u entry name instrs vs ws m n st q r t g h = ends_by 301 None None m n st q (too_deep st.world.error) neither h

  no_main : (e : ℤ) → ends_run 117 e ≡ true
  no_main (pos zero) = refl
  no_main (pos (suc k)) = refl
  no_main (negsuc k) = refl

  -- a program without `main` ends so in both runs, and else it is called
  pub started : (words : List (List ℕ)) (o p : Option ℕ) (m n : M) (st : Store K) (q : StoreParts K) → OptionTo R.To o p
      → ((k j : ℕ) → R.To k j → OptionTo EntryTo (slice_get P.procs k) (slice_get Q.procs j)) → G.Blank m n → Sto st q
      → Sta (S.start_of C P words m st o) (S.start_of D Q words n (store_view st q) p)
  started words o p m n st q neither e g h = ends_by 117 None None m n st q (no_main st.world.error) neither h
  started words o p m n st q (each_to {x} {y} t) e g h = by _ _ (e x y t)
    where
      by : (a b : Option Procedure) → OptionTo EntryTo a b
          → Sta (S.with_found a (λ (entry : Procedure). S.with_made C (words_row words (S.here C m st)) m st
          (λ list m st. S.begun_if C (nat_le 1 st.world.heap.bounds.levels) x entry (list ∷ []) m st)))
          (S.with_found b (λ (entry : Procedure). S.with_made D (words_row words (S.here D n (store_view st q))) n (store_view st q)
          (λ list m st. S.begun_if D (nat_le 1 st.world.heap.bounds.levels) y entry (list ∷ []) m st)))
      by a b neither = stuck_to
      by a b (each_to (entry_to entry name instrs)) =
          made_first (words_row words) (words_row words) m n st q
          (λ list m st. S.begun_if C (nat_le 1 st.world.heap.bounds.levels) x entry (list ∷ []) m st)
          (λ list m st. S.begun_if D (nat_le 1 st.world.heap.bounds.levels) y (record entry { name = name; instrs = instrs }) (list ∷ []) m st)
          (words_row_to R words) (rows_keep.words_made words) g h
          (λ v w m n s r l g h. begun_if (nat_le 1 s.world.heap.bounds.levels) x y entry name instrs (v ∷ []) (w ∷ []) m n s r t (both_cons l both_nil) g h)

  -- Runs: a step on one side is one on the other

  pub after : (k : ℕ) (s t : State K M) → Sta s t → Sta (after_steps (S.step C P) k s) (after_steps (S.step D Q) k t)
  after zero s t h = h
  after (suc k) s t h = after k (S.step C P s) (S.step D Q t) (steps s t h)

  pub seen_alike : (s t : State K M) → Sta s t → S.observation s ≡ S.observation t
  seen_alike s t (running_to st q g h) = refl
  seen_alike s t (failing_to st q g h) = refl
  seen_alike s t (hopping_to st q g h) = refl
  seen_alike s t (over_to ending outside) = refl
  seen_alike s t stuck_to = refl
