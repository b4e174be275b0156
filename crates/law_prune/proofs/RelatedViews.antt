-- What rows look at in values and structures is related in both runs, or the same.
use Rattle.std.proofs.Common.{◌≡◌, ◌⊎◌, inl, inr, subst, ℕ, Bool, true, false, List, [], ◌∷◌, ◌++◌, length, Option, None, Some, refl, sym, ap, ◌∙◌, if◌then◌else◌}
use Rattle.std.specs.Prelude.{◌&&◌, ◌==◌, ◌-◌, ℤ, pos, negsuc, cond, ◌+ℤ◌, filter, flat_map, fold, is_some, option_map, nat_lt, not, slice_get, unwrap_or}
use Rattle.icn_structs.specs.Numbered.{NumberedList, after_first, item_at, item_numbered, items_with, leftmost, rightmost, with_left, with_numbered, with_right, without_left, without_right}
use Rattle.icn_structs.specs.PairLists.{value_of, with_value_of, without}
use Rattle.icn_value.specs.Values.{Value, Null, AList, ASet, ATable, ARecord, Variable, Whole, Element, Item, Var, Root}
use Rattle.icn_value.specs.Store.{Record, Table, new_list, value_at}
use Rattle.icn_value.specs.Sameness.{has_value, same, with_member}
use Rattle.icn_defs.specs.Arguments.{file_of, keeper_of, list_of, set_of, table_of}
use Rattle.icn_defs.specs.Conversions.{cset_of, form_of, group_of, held_integer, held_text, integer_of, is_null, text_of}
use Rattle.icn_defs.specs.Elements.{element_item, field_item, key_item, part_item, part_of, text_variable}
use Rattle.icn_defs.specs.InputOutput.{piece_of}
use Rattle.icn_defs.specs.Operations.{difference, intersection}
use Rattle.icn_defs.specs.ReadAndAssign.{mover_of, part_length, same_root}
use Rattle.icn_defs.specs.Rows.{Left, Neither, Right}
use Rattle.icn_defs.specs.Structures.{or_null}
use Rattle.std.proofs.lemmas.Bool.Decides.{eqb_tells}
use Rattle.law_prune.proofs.RelatedValues.{OneForOne, ValueTo, alike, same_alike, null_to, text_to, list_to, set_to, table_to, record_to}
use Rattle.law_prune.proofs.RelatedLists.{Both, OptionTo, both_any, both_append, both_at, both_cons, both_filter, both_get, both_length, both_nil, both_set, both_take, each_to, neither, unwrapped}
use Rattle.law_prune.proofs.RelatedSettings.{Renaming, ItemTo, ListTo, PairTo, RecordTo, RootTo, TableTo, VariableTo, element_to, field_to, global_to, key_to, local_to, part_to, static_to, val_to, var_to, whole_to, word_to}

module _ (R : Renaming) where
  -- Values

  pub e_form : (v w : Value) → ValueTo R.To v w → form_of v ≡ form_of w
  e_form v w h = alike R.To form_of (λ n k. refl) v w h

  pub e_integer : (v w : Value) → ValueTo R.To v w → integer_of v ≡ integer_of w
  e_integer v w h = alike R.To integer_of (λ n k. refl) v w h

  pub e_text : (v w : Value) → ValueTo R.To v w → text_of v ≡ text_of w
  e_text v w h = alike R.To text_of (λ n k. refl) v w h

  pub e_cset : (v w : Value) → ValueTo R.To v w → cset_of v ≡ cset_of w
  e_cset v w h = alike R.To cset_of (λ n k. refl) v w h

  pub e_null : (v w : Value) → ValueTo R.To v w → is_null v ≡ is_null w
  e_null v w h = alike R.To is_null (λ n k. refl) v w h

  pub e_group : (v w : Value) → ValueTo R.To v w → group_of v ≡ group_of w
  e_group v w h = alike R.To group_of (λ n k. refl) v w h

  pub e_held_integer : (v w : Value) → ValueTo R.To v w → held_integer v ≡ held_integer w
  e_held_integer v w h = alike R.To held_integer (λ n k. refl) v w h

  pub e_held_text : (v w : Value) → ValueTo R.To v w → held_text v ≡ held_text w
  e_held_text v w h = alike R.To held_text (λ n k. refl) v w h

  pub e_file : (v w : Value) → ValueTo R.To v w → file_of v ≡ file_of w
  e_file v w h = alike R.To file_of (λ n k. refl) v w h

  pub e_list : (v w : Value) → ValueTo R.To v w → list_of v ≡ list_of w
  e_list v w h = alike R.To list_of (λ n k. refl) v w h

  pub e_set : (v w : Value) → ValueTo R.To v w → set_of v ≡ set_of w
  e_set v w h = alike R.To set_of (λ n k. refl) v w h

  pub e_table : (v w : Value) → ValueTo R.To v w → table_of v ≡ table_of w
  e_table v w h = alike R.To table_of (λ n k. refl) v w h

  pub e_keeper : (v w : Value) → ValueTo R.To v w → keeper_of v ≡ keeper_of w
  e_keeper v w h = alike R.To keeper_of (λ n k. refl) v w h

  pub e_piece : (v w : Value) → ValueTo R.To v w → piece_of v ≡ piece_of w
  e_piece v w h = alike R.To piece_of (λ n k. refl) v w h

  pub e_same : (v w a b : Value) → ValueTo R.To v w → ValueTo R.To a b → same v a ≡ same w b
  e_same v w a b h g = same_alike R.To R.one R.along v w a b h g

  pub v_if : (b c : Bool) (v w x y : Value) → b ≡ c → ValueTo R.To v w → ValueTo R.To x y → ValueTo R.To (if b then v else x) (if c then w else y)
  v_if true true v w x y e h g = h
  v_if true false v w x y e h g = absurd (cc)
  v_if false true v w x y e h g = absurd (cc)
  v_if false false v w x y e h g = g

  pub v_list : (n k : ℕ) → n ≡ k → ValueTo R.To (AList n) (AList k)
  v_list n k e = rw (← e) (list_to n)

  pub v_set : (n k : ℕ) → n ≡ k → ValueTo R.To (ASet n) (ASet k)
  v_set n k e = rw (← e) (set_to n)

  pub v_table : (n k : ℕ) → n ≡ k → ValueTo R.To (ATable n) (ATable k)
  v_table n k e = rw (← e) (table_to n)

  pub v_record : (n k : ℕ) → n ≡ k → ValueTo R.To (ARecord n) (ARecord k)
  v_record n k e = rw (← e) (record_to n)

  pub v_at : (vs ws : List Value) (k : ℕ) → Both (ValueTo R.To) vs ws → ValueTo R.To (value_at vs k) (value_at ws k)
  v_at vs ws k h = both_at (ValueTo R.To) vs ws k Null Null h null_to

  -- Sets and tables

  pub e_has : (vs ws : List Value) (a b : Value) → Both (ValueTo R.To) vs ws → ValueTo R.To a b → has_value vs a ≡ has_value ws b
  e_has vs ws a b h g = both_any (ValueTo R.To) (same a) (same b) (λ x y t. e_same a b x y g t) vs ws h

  members_if : (t u : Bool) (vs ws : List Value) (a b : Value) → t ≡ u → Both (ValueTo R.To) vs ws → ValueTo R.To a b
      → Both (ValueTo R.To) (if t then vs else (vs ++ a ∷ [])) (if u then ws else (ws ++ b ∷ []))
  members_if true true vs ws a b e h g = h
  members_if true false vs ws a b e h g = absurd (cc)
  members_if false true vs ws a b e h g = absurd (cc)
  members_if false false vs ws a b e h g = both_append (ValueTo R.To) vs (a ∷ []) ws (b ∷ []) h (both_cons g both_nil)

  pub m_with : (vs ws : List Value) (a b : Value) → Both (ValueTo R.To) vs ws → ValueTo R.To a b
      → Both (ValueTo R.To) (with_member vs a) (with_member ws b)
  m_with vs ws a b h g = members_if (has_value vs a) (has_value ws b) vs ws a b (e_has vs ws a b h g) h g

  pub m_fold : (vs us ws zs : List Value) → Both (ValueTo R.To) vs ws → Both (ValueTo R.To) us zs
      → Both (ValueTo R.To) (fold with_member vs us) (fold with_member ws zs)
  m_fold vs us ws zs h both_nil = h
  m_fold vs us ws zs h (both_cons {x} {y} g t) = m_fold (with_member vs x) _ (with_member ws y) _ (m_with vs ws x y h g) t

  pub m_intersection : (vs us ws zs : List Value) → Both (ValueTo R.To) vs ws → Both (ValueTo R.To) us zs
      → Both (ValueTo R.To) (intersection vs us) (intersection ws zs)
  m_intersection vs us ws zs h g =
      both_filter (ValueTo R.To) (has_value us) (has_value zs) (λ x y t. e_has us zs x y g t) vs ws h

  pub m_difference : (vs us ws zs : List Value) → Both (ValueTo R.To) vs ws → Both (ValueTo R.To) us zs
      → Both (ValueTo R.To) (difference vs us) (difference ws zs)
  m_difference vs us ws zs h g =
      both_filter (ValueTo R.To) (λ v. not (has_value us v)) (λ v. not (has_value zs v)) (λ x y t. ap not (e_has us zs x y g t)) vs ws h

  pub m_union : (vs us ws zs : List Value) → Both (ValueTo R.To) vs ws → Both (ValueTo R.To) us zs
      → Both (ValueTo R.To) (vs ++ difference us vs) (ws ++ difference zs ws)
  m_union vs us ws zs h g = both_append (ValueTo R.To) vs (difference us vs) ws (difference zs ws) h (m_difference us vs zs ws g h)

  pub m_without : (vs ws : List Value) (a b : Value) → Both (ValueTo R.To) vs ws → ValueTo R.To a b
      → Both (ValueTo R.To) (filter (λ member. not (same a member)) vs) (filter (λ member. not (same b member)) ws)
  m_without vs ws a b h g =
      both_filter (ValueTo R.To) (λ v. not (same a v)) (λ v. not (same b v)) (λ x y t. ap not (e_same a b x y g t)) vs ws h

  pub p_value : (ps qs : List (Value × Value)) (a b : Value) → Both (PairTo R) ps qs → ValueTo R.To a b
      → OptionTo (ValueTo R.To) (value_of same ps a) (value_of same qs b)
  p_value ps qs a b both_nil g = neither
  p_value ps qs a b (both_cons {x = p} {y = q} {xs = us} {ys = zs} h t) g =
      by (same a p.0) (same b q.0) (e_same a b p.0 q.0 g h.key) (p_value us zs a b t g)
    where
      by : (c d : Bool) → c ≡ d → OptionTo (ValueTo R.To) (value_of same us a) (value_of same zs b)
          → OptionTo (ValueTo R.To) (cond c (Some p.1) (value_of same us a)) (cond d (Some q.1) (value_of same zs b))
      by true true e r = each_to h.value
      by true false e r = absurd (cc)
      by false true e r = absurd (cc)
      by false false e r = r

  pub e_is_some : (o p : Option Value) → OptionTo (ValueTo R.To) o p → is_some o ≡ is_some p
  e_is_some o p neither = refl
  e_is_some o p (each_to h) = refl

  pub e_key : (ps qs : List (Value × Value)) (a b : Value) → Both (PairTo R) ps qs → ValueTo R.To a b
      → is_some (value_of same ps a) ≡ is_some (value_of same qs b)
  e_key ps qs a b h g = e_is_some (value_of same ps a) (value_of same qs b) (p_value ps qs a b h g)

  pub p_with : (ps qs : List (Value × Value)) (a b v w : Value) → Both (PairTo R) ps qs → ValueTo R.To a b → ValueTo R.To v w
      → Both (PairTo R) (with_value_of same ps a v) (with_value_of same qs b w)
  p_with ps qs a b v w both_nil g k = both_cons (record { key = g; value = k }) both_nil
  p_with ps qs a b v w (both_cons {x = p} {y = q} {xs = us} {ys = zs} h t) g k =
      by (same a p.0) (same b q.0) (e_same a b p.0 q.0 g h.key) (p_with us zs a b v w t g k)
    where
      by : (c d : Bool) → c ≡ d → Both (PairTo R) (with_value_of same us a v) (with_value_of same zs b w)
          → Both (PairTo R) (if c then (p.0, v) ∷ us else p ∷ with_value_of same us a v) (if d then (q.0, w) ∷ zs else q ∷ with_value_of same zs b w)
      by true true e r = both_cons (record { key = h.key; value = k }) t
      by true false e r = absurd (cc)
      by false true e r = absurd (cc)
      by false false e r = both_cons h r

  pub p_without : (ps qs : List (Value × Value)) (a b : Value) → Both (PairTo R) ps qs → ValueTo R.To a b
      → Both (PairTo R) (without same ps a) (without same qs b)
  p_without ps qs a b both_nil g = both_nil
  p_without ps qs a b (both_cons {x = p} {y = q} {xs = us} {ys = zs} h t) g =
      by (same a p.0) (same b q.0) (e_same a b p.0 q.0 g h.key) (p_without us zs a b t g)
    where
      by : (c d : Bool) → c ≡ d → Both (PairTo R) (without same us a) (without same zs b)
          → Both (PairTo R) (cond c us (p ∷ without same us a)) (cond d zs (q ∷ without same zs b))
      by true true e r = t
      by true false e r = absurd (cc)
      by false true e r = absurd (cc)
      by false false e r = both_cons h r

  pub p_flat : (ps qs : List (Value × Value)) → Both (PairTo R) ps qs
      → Both (ValueTo R.To) (flat_map (λ (pair : Value × Value). pair.0 ∷ pair.1 ∷ []) ps) (flat_map (λ (pair : Value × Value). pair.0 ∷ pair.1 ∷ []) qs)
  p_flat ps qs both_nil = both_nil
  p_flat ps qs (both_cons h t) = both_cons h.key (both_cons h.value (p_flat _ _ t))

  pub v_stored : (t u : Table) (a b : Value) → TableTo R t u → ValueTo R.To a b
      → ValueTo R.To (unwrap_or (value_of same t.pairs a) t.default) (unwrap_or (value_of same u.pairs b) u.default)
  v_stored t u a b h g = unwrapped (ValueTo R.To) _ _ t.default u.default (p_value t.pairs u.pairs a b h.pairs g) h.default

  -- Lists with numbers

  pub n_new : (vs ws : List Value) → Both (ValueTo R.To) vs ws → ListTo R (new_list vs) (new_list ws)
  n_new vs ws h = record { items = h; number = refl }

  pub n_right : (l m : NumberedList Value) (v w : Value) → ListTo R l m → ValueTo R.To v w → ListTo R (with_right l v) (with_right m w)
  n_right l m v w h g = record { items = both_append (ValueTo R.To) l.items (v ∷ []) m.items (w ∷ []) h.items (both_cons g both_nil); number = h.number }

  pub n_left : (l m : NumberedList Value) (v w : Value) → ListTo R l m → ValueTo R.To v w → ListTo R (with_left l v) (with_left m w)
  n_left l m v w h g = record { items = both_cons g h.items; number = ap (λ (n : ℤ). (with_left (record { items = []; number = n }) v).number) h.number }

  pub n_lefts : (l m : NumberedList Value) (vs ws : List Value) → ListTo R l m → Both (ValueTo R.To) vs ws
      → ListTo R (fold with_left l vs) (fold with_left m ws)
  n_lefts l m vs ws h both_nil = h
  n_lefts l m vs ws h (both_cons {x} {y} g t) = n_lefts (with_left l x) (with_left m y) _ _ (n_left l m x y h g) t

  pub n_rights : (l m : NumberedList Value) (vs ws : List Value) → ListTo R l m → Both (ValueTo R.To) vs ws
      → ListTo R (fold with_right l vs) (fold with_right m ws)
  n_rights l m vs ws h both_nil = h
  n_rights l m vs ws h (both_cons {x} {y} g t) = n_rights (with_right l x) (with_right m y) _ _ (n_right l m x y h g) t

  after_to : (vs ws : List Value) (k : ℤ) → Both (ValueTo R.To) vs ws → ListTo R (after_first vs k) (after_first ws k)
  after_to vs ws k both_nil = record { items = both_nil; number = refl }
  after_to vs ws k (both_cons h t) = record { items = t; number = refl }

  pub n_without_left : (l m : NumberedList Value) → ListTo R l m → ListTo R (without_left l) (without_left m)
  n_without_left l m h = rw (← h.number) (after_to l.items m.items l.number h.items)

  pub n_without_right : (l m : NumberedList Value) → ListTo R l m → ListTo R (without_right l) (without_right m)
  n_without_right l m h = record {
    items = rw (← both_length (ValueTo R.To) l.items m.items h.items) (both_take (ValueTo R.To) (length l.items - 1) l.items m.items h.items);
    number = h.number;
  }

  item_to : (vs ws : List Value) (k : ℤ) → Both (ValueTo R.To) vs ws → OptionTo (ValueTo R.To) (item_at vs k) (item_at ws k)
  item_to vs ws (pos k) h = both_get (ValueTo R.To) vs ws k h
  item_to vs ws (negsuc k) h = neither

  pub n_item : (l m : NumberedList Value) (k : ℤ) → ListTo R l m → OptionTo (ValueTo R.To) (item_numbered l k) (item_numbered m k)
  n_item l m k h = rw (← h.number) (item_to l.items m.items _ h.items)

  items_to : (vs ws : List Value) (k : ℤ) (v w : Value) → Both (ValueTo R.To) vs ws → ValueTo R.To v w
      → Both (ValueTo R.To) (items_with vs k v) (items_with ws k w)
  items_to vs ws (pos k) v w h g = both_set (ValueTo R.To) vs ws k v w h g
  items_to vs ws (negsuc k) v w h g = h

  pub n_with : (l m : NumberedList Value) (k : ℤ) (v w : Value) → ListTo R l m → ValueTo R.To v w → ListTo R (with_numbered l k v) (with_numbered m k w)
  n_with l m k v w h g = record { items = rw (← h.number) (items_to l.items m.items _ v w h.items g); number = h.number }

  pub e_item : (l m : NumberedList Value) (k : ℤ) → ListTo R l m → is_some (item_numbered l k) ≡ is_some (item_numbered m k)
  e_item l m k h = e_is_some (item_numbered l k) (item_numbered m k) (n_item l m k h)

  pub n_leftmost : (l m : NumberedList Value) → ListTo R l m → OptionTo (ValueTo R.To) (leftmost l) (leftmost m)
  n_leftmost l m h = both_get (ValueTo R.To) l.items m.items 0 h.items

  pub n_rightmost : (l m : NumberedList Value) → ListTo R l m → OptionTo (ValueTo R.To) (rightmost l) (rightmost m)
  n_rightmost l m h =
      rw (← both_length (ValueTo R.To) l.items m.items h.items) (both_get (ValueTo R.To) l.items m.items (length l.items - 1) h.items)

  pub m_or_null : (vs ws : List Value) → Both (ValueTo R.To) vs ws → Both (ValueTo R.To) (or_null vs) (or_null ws)
  m_or_null vs ws both_nil = both_cons null_to both_nil
  m_or_null vs ws (both_cons h t) = both_cons h t

  -- Structures by their numbers

  pub l_at : (xs ys : List (NumberedList Value)) (id : ℕ) → Both (ListTo R) xs ys
      → ListTo R (unwrap_or (slice_get xs id) (new_list [])) (unwrap_or (slice_get ys id) (new_list []))
  l_at xs ys id h = both_at (ListTo R) xs ys id (new_list []) (new_list []) h (record { items = both_nil; number = refl })

  pub s_at : (xs ys : List (List Value)) (id : ℕ) → Both (Both (ValueTo R.To)) xs ys
      → Both (ValueTo R.To) (unwrap_or (slice_get xs id) []) (unwrap_or (slice_get ys id) [])
  s_at xs ys id h = both_at (Both (ValueTo R.To)) xs ys id [] [] h both_nil

  abbrev pub no_table : Table
  no_table = record { default = Null; pairs = [] }

  abbrev pub no_record : Record
  no_record = record { kind = 0; fields = [] }

  pub t_at : (xs ys : List Table) (id : ℕ) → Both (TableTo R) xs ys → TableTo R (unwrap_or (slice_get xs id) no_table) (unwrap_or (slice_get ys id) no_table)
  t_at xs ys id h = both_at (TableTo R) xs ys id no_table no_table h (record { default = null_to; pairs = both_nil })

  pub r_at : (xs ys : List Record) (id : ℕ) → Both (RecordTo R) xs ys
      → RecordTo R (unwrap_or (slice_get xs id) no_record) (unwrap_or (slice_get ys id) no_record)
  r_at xs ys id h = both_at (RecordTo R) xs ys id no_record no_record h (record { kind = refl; fields = both_nil })

  -- Variables

  pub x_part : (x y : Variable) (place size : ℕ) → VariableTo R x y → VariableTo R (part_of x place size) (part_of y place size)
  x_part x y place size (whole_to r) = part_to place size r
  x_part x y place size (part_to c d r) = part_to _ size r

  part_by : (o : Option (List ℕ)) (x y : Variable) (text : List ℕ) (place size : ℕ) → VariableTo R x y
      → ItemTo R (part_item (option_map (λ t. x) o) text place size) (part_item (option_map (λ t. y) o) text place size)
  part_by None x y text place size h = val_to (text_to _)
  part_by (Some t) x y text place size h = var_to (x_part x y place size h)

  -- the part of a text, or of the variable that holds it
  pub i_part : (x y : Item) (v w : Value) (text : List ℕ) (place size : ℕ) → ItemTo R x y → ValueTo R.To v w
      → ItemTo R (part_item (text_variable x v) text place size) (part_item (text_variable y w) text place size)
  i_part x y v w text place size (val_to g) h = val_to (text_to _)
  i_part x y v w text place size (var_to {x = s} {y = t} g) h =
      subst (λ (o : Option (List ℕ)). ItemTo R (part_item (option_map (λ z. s) (held_text v)) text place size)
      (part_item (option_map (λ z. t) o) text place size))
      (e_held_text v w h) (part_by (held_text v) s t text place size g)

  pub i_element : (id : ℕ) (l m : NumberedList Value) (k : ℕ) → ListTo R l m → ItemTo R (element_item id l k) (element_item id m k)
  i_element id l m k h =
      subst (λ (n : ℤ). ItemTo R (element_item id l k) (Var (Whole (Element id (n +ℤ pos k))))) h.number (var_to (whole_to (element_to id _)))

  pub i_field : (id k : ℕ) → ItemTo R (field_item id k) (field_item id k)
  i_field id k = var_to (whole_to (field_to id k))

  pub i_key : (id : ℕ) (v w : Value) → ValueTo R.To v w → ItemTo R (key_item id v) (key_item id w)
  i_key id v w h = var_to (whole_to (key_to id v w h))

  -- Roots are told apart alike

  equal_to : (T : ℕ → ℕ → Type 0) → OneForOne T → (x y w z : ℕ) → T x y → T w z → (x == w) ≡ (y == z)
  equal_to T one x y w z s t = by (eqb_tells x w) (eqb_tells y z)
    where
      by : (((x == w) ≡ true) × (x ≡ w)) ⊎ (((x == w) ≡ false) × (x ≡ w → ⊥)) → (((y == z) ≡ true) × (y ≡ z)) ⊎ (((y == z) ≡ false) × (y ≡ z → ⊥))
          → (x == w) ≡ (y == z)
      by (inl a) (inl b) = a.0 ∙ sym b.0
      by (inl a) (inr b) = absurd (b.1 (one.after w y z (subst (λ k. T k y) a.1 s) t))
      by (inr a) (inl b) = absurd (a.1 (one.before x w z (subst (T x) b.1 s) t))
      by (inr a) (inr b) = a.0 ∙ sym b.0

  pub e_root : (a b c d : Root) → RootTo R a b → RootTo R c d → same_root a c ≡ same_root b d
  e_root a b c d (global_to k j t) (global_to k2 j2 t2) = ap (λ (t : Bool). t && same Null Null) (equal_to R.GlobalTo R.one_global k j k2 j2 t t2)
  e_root a b c d (global_to k j t) (static_to k2 j2 t2) = refl
  e_root a b c d (global_to k j t) (local_to k2) = refl
  e_root a b c d (global_to k j t) (element_to k2 n2) = refl
  e_root a b c d (global_to k j t) (field_to k2 n2) = refl
  e_root a b c d (global_to k j t) (key_to k2 v2 w2 h2) = refl
  e_root a b c d (global_to k j t) (word_to k2) = refl
  e_root a b c d (static_to k j t) (global_to k2 j2 t2) = refl
  e_root a b c d (static_to k j t) (static_to k2 j2 t2) = ap (λ (t : Bool). t && same Null Null) (equal_to R.StaticTo R.one_static k j k2 j2 t t2)
  e_root a b c d (static_to k j t) (local_to k2) = refl
  e_root a b c d (static_to k j t) (element_to k2 n2) = refl
  e_root a b c d (static_to k j t) (field_to k2 n2) = refl
  e_root a b c d (static_to k j t) (key_to k2 v2 w2 h2) = refl
  e_root a b c d (static_to k j t) (word_to k2) = refl
  e_root a b c d (local_to k) (global_to k2 j2 t2) = refl
  e_root a b c d (local_to k) (static_to k2 j2 t2) = refl
  e_root a b c d (local_to k) (local_to k2) = refl
  e_root a b c d (local_to k) (element_to k2 n2) = refl
  e_root a b c d (local_to k) (field_to k2 n2) = refl
  e_root a b c d (local_to k) (key_to k2 v2 w2 h2) = refl
  e_root a b c d (local_to k) (word_to k2) = refl
  e_root a b c d (element_to k n) (global_to k2 j2 t2) = refl
  e_root a b c d (element_to k n) (static_to k2 j2 t2) = refl
  e_root a b c d (element_to k n) (local_to k2) = refl
  e_root a b c d (element_to k n) (element_to k2 n2) = refl
  e_root a b c d (element_to k n) (field_to k2 n2) = refl
  e_root a b c d (element_to k n) (key_to k2 v2 w2 h2) = refl
  e_root a b c d (element_to k n) (word_to k2) = refl
  e_root a b c d (field_to k n) (global_to k2 j2 t2) = refl
  e_root a b c d (field_to k n) (static_to k2 j2 t2) = refl
  e_root a b c d (field_to k n) (local_to k2) = refl
  e_root a b c d (field_to k n) (element_to k2 n2) = refl
  e_root a b c d (field_to k n) (field_to k2 n2) = refl
  e_root a b c d (field_to k n) (key_to k2 v2 w2 h2) = refl
  e_root a b c d (field_to k n) (word_to k2) = refl
  e_root a b c d (key_to k v w h) (global_to k2 j2 t2) = refl
  e_root a b c d (key_to k v w h) (static_to k2 j2 t2) = refl
  e_root a b c d (key_to k v w h) (local_to k2) = refl
  e_root a b c d (key_to k v w h) (element_to k2 n2) = refl
  e_root a b c d (key_to k v w h) (field_to k2 n2) = refl
  e_root a b c d (key_to k v w h) (key_to k2 v2 w2 h2) = ap (λ (t : Bool). (k == k2) && t) (e_same v w v2 w2 h h2)
  e_root a b c d (key_to k v w h) (word_to k2) = refl
  e_root a b c d (word_to k) (global_to k2 j2 t2) = refl
  e_root a b c d (word_to k) (static_to k2 j2 t2) = refl
  e_root a b c d (word_to k) (local_to k2) = refl
  e_root a b c d (word_to k) (element_to k2 n2) = refl
  e_root a b c d (word_to k) (field_to k2 n2) = refl
  e_root a b c d (word_to k) (key_to k2 v2 w2 h2) = refl
  e_root a b c d (word_to k) (word_to k2) = refl

  pub e_mover : (x y u z : Variable) → VariableTo R x y → VariableTo R u z → mover_of x u ≡ mover_of y z
  e_mover x y u z (whole_to r) k = refl
  e_mover x y u z (part_to a b r) (whole_to s) = refl
  e_mover x y u z (part_to {r = p} {s = q} a b h) (part_to {r = m} {s = n} c d g) =
      ap (λ (t : Bool). if not t then Neither else (if nat_lt a c then Left else (if nat_lt c a then Right else Neither))) (e_root p q m n h g)

  pub e_part_length : (x y : Variable) → VariableTo R x y → part_length x ≡ part_length y
  e_part_length x y (whole_to r) = refl
  e_part_length x y (part_to a b r) = refl
