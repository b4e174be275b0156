-- What rows tell of values by their names, and the order of `sort`, are the same in both runs.
use Rattle.std.proofs.Common.{◌≡◌, ℕ, ◌+◌, Bool, List, [], ◌++◌, Option, Some, cond, refl, sym, ap, ◌∙◌}
use Rattle.std.specs.Prelude.{codes, count_by, decimal, pos, slice_get, take, unwrap_or}
use Rattle.std.specs.Str.{bytes_eq}
use Rattle.std.specs.Ordering.{int_cmp, nat_cmp, ordering_then}
use Rattle.std.specs.Cmp.Lexicographic.{slice_cmp}
use Rattle.std.specs.declared.cmp.Ordering.{Ordering}
use Rattle.std.proofs.lemmas.List.Sums.{sum_by-cons}
use Rattle.icn_value.specs.Values.{Value, Null, Integer, Text, Chars, Std, Procedure, ARecord, AList, ASet, ATable, ACoexp, File, Input, Output, Errout, Opened}
use Rattle.icn_value.specs.Store.{Record, Setting, record_at}
use Rattle.icn_defs.specs.Arguments.{Keeper, SetKeeper, TableKeeper}
use Rattle.icn_defs.specs.Conversions.{ValueGroup, Textual, Listed, Collected, Tabled, Recorded, Filed, Activated, Single, ValueRank, group_of, shape_cmp, shape_of, size_in, size_of, sort_list}
use Rattle.icn_defs.specs.Errors.{error_report, error_text, offending_line}
use Rattle.icn_defs.specs.Images.{file_image, image, named_shape, numbered_image, procedure_name, record_name, record_number, sorted_shape, type_name, value_cmp}
use Rattle.icn_defs.specs.NamedValues.{procedure_of}
use Rattle.icn_defs.specs.Structures.{entry_cmp, has_key, key_cmp}
use Rattle.law_prune.proofs.RelatedValues.{ValueTo, number_cmp_alike, null_to, integer_to, text_to, chars_to, file_to, procedure_to, record_to, list_to, set_to, table_to, coexp_to}
use Rattle.law_prune.proofs.RelatedLists.{Both, OptionTo, both_cons, both_length, both_nil, both_sorted, both_take, each_to, neither}
use Rattle.law_prune.proofs.RelatedSettings.{Renaming, PairTo, Parts, PartsTo, RecordTo, parts_of, view}
use Rattle.law_prune.proofs.RelatedViews.{e_has, e_key, l_at, r_at, s_at, t_at}

both_count : {A B : Type 0} (P : A → B → Type 0) (f : A → Bool) (g : B → Bool) → ((x : A) (y : B) → P x y → f x ≡ g y) → (xs : List A) (ys : List B)
    → Both P xs ys → count_by f xs ≡ count_by g ys
both_count P f g e xs ys both_nil = refl
both_count P f g e xs ys (both_cons {x} {y} {xs = us} {ys = ws} h t) =
    sum_by-cons (λ z. cond (f z) 1 0) x us ∙ ap (λ b. cond b 1 0 + count_by f us) (e x y h)
    ∙ ap (λ n. cond (g y) 1 0 + n) (both_count P f g e us ws t) ∙ sym (sum_by-cons (λ z. cond (g z) 1 0) y ws)

module _ (R : Renaming) (a : Setting) (q : Parts) (h : PartsTo R (parts_of a) q) where
  pub e_record_name : (id : ℕ) → record_name R.whole a.world.heap id ≡ record_name R.left (view a q).world.heap id
  e_record_name id = ap (λ (k : ℕ). unwrap_or (slice_get R.whole.records k) []) (r_at R a.world.heap.records q.records id h.records).kind
      ∙ ap (λ (names : List (List ℕ)). unwrap_or (slice_get names (record_at (view a q).world.heap id).kind) []) R.names.same_records

  kind_name : (r s : Record) → RecordTo R r s → unwrap_or (slice_get R.whole.records r.kind) [] ≡ unwrap_or (slice_get R.left.records s.kind) []
  kind_name r s t = ap (λ (k : ℕ). unwrap_or (slice_get R.whole.records k) []) t.kind
      ∙ ap (λ (names : List (List ℕ)). unwrap_or (slice_get names s.kind) []) R.names.same_records

  e_record_number : (id : ℕ) → record_number R.whole a.world.heap id ≡ record_number R.left (view a q).world.heap id
  e_record_number id = ap (λ (n : ℕ). 1 + n) (both_count (RecordTo R)
      (λ (other : Record). bytes_eq (unwrap_or (slice_get R.whole.records other.kind) []) (record_name R.whole a.world.heap id))
      (λ (other : Record). bytes_eq (unwrap_or (slice_get R.left.records other.kind) []) (record_name R.left (view a q).world.heap id))
      (λ x y t. ap (λ (name : List ℕ). bytes_eq name (record_name R.whole a.world.heap id)) (kind_name x y t)
      ∙ ap (λ (name : List ℕ). bytes_eq (unwrap_or (slice_get R.left.records y.kind) []) name) (e_record_name id))
      (take id a.world.heap.records) (take id q.records) (both_take (RecordTo R) id a.world.heap.records q.records h.records))

  pub e_size_in : (g : ValueGroup) → size_in a.world.heap g ≡ size_in (view a q).world.heap g
  e_size_in (Textual bytes) = refl
  e_size_in (Listed id) = ap Some (both_length (ValueTo R.To) _ _ (l_at R a.world.heap.lists q.lists id h.lists).items)
  e_size_in (Collected id) = ap Some (both_length (ValueTo R.To) _ _ (s_at R a.world.heap.sets q.sets id h.sets))
  e_size_in (Tabled id) = ap Some (both_length (PairTo R) _ _ (t_at R a.world.heap.tables q.tables id h.tables).pairs)
  e_size_in (Recorded id) = ap Some (both_length (ValueTo R.To) _ _ (r_at R a.world.heap.records q.records id h.records).fields)
  e_size_in (Filed file) = refl
  e_size_in (Activated id) = refl
  e_size_in Single = refl

  e_file_image : (file : File) → file_image a.world.heap file ≡ file_image (view a q).world.heap file
  e_file_image Input = refl
  e_file_image Output = refl
  e_file_image Errout = refl
  e_file_image (Opened number) = refl

  pub e_size : (v w : Value) → ValueTo R.To v w → size_of a.world.heap v ≡ size_of (view a q).world.heap w
  e_size v w null_to = e_size_in (group_of Null)
  e_size v w (integer_to i) = e_size_in (group_of (Integer i))
  e_size v w (text_to bytes) = e_size_in (group_of (Text bytes))
  e_size v w (chars_to bytes) = e_size_in (group_of (Chars bytes))
  e_size v w (file_to file) = e_size_in (group_of (Std file))
  e_size v w (record_to id) = e_size_in (group_of (ARecord id))
  e_size v w (list_to id) = e_size_in (group_of (AList id))
  e_size v w (set_to id) = e_size_in (group_of (ASet id))
  e_size v w (table_to id) = e_size_in (group_of (ATable id))
  e_size v w (coexp_to id) = e_size_in (group_of (ACoexp id))
  e_size v w (procedure_to n k t) = refl

  pub e_type : (v w : Value) → ValueTo R.To v w → type_name R.whole a.world.heap v ≡ type_name R.left (view a q).world.heap w
  e_type v w null_to = refl
  e_type v w (integer_to i) = refl
  e_type v w (text_to bytes) = refl
  e_type v w (chars_to bytes) = refl
  e_type v w (file_to file) = refl
  e_type v w (record_to id) = e_record_name id
  e_type v w (list_to id) = refl
  e_type v w (set_to id) = refl
  e_type v w (table_to id) = refl
  e_type v w (coexp_to id) = refl
  e_type v w (procedure_to n k t) = refl

  pub e_image : (v w : Value) → ValueTo R.To v w → image R.whole a.world.heap v ≡ image R.left (view a q).world.heap w
  e_image v w null_to = refl
  e_image v w (integer_to i) = refl
  e_image v w (text_to bytes) = refl
  e_image v w (chars_to bytes) = refl
  e_image v w (file_to file) = e_file_image file
  e_image v w (record_to id) =
      ap (λ (name : List ℕ). numbered_image (codes "record " ++ name) (record_number R.whole a.world.heap id) (size_of a.world.heap (ARecord id)))
      (e_record_name id)
      ∙ ap (λ (n : ℕ). numbered_image (codes "record " ++ record_name R.left (view a q).world.heap id) n (size_of a.world.heap (ARecord id)))
      (e_record_number id)
      ∙ ap (λ (size : Option ℕ). numbered_image (codes "record " ++ record_name R.left (view a q).world.heap id)
      (record_number R.left (view a q).world.heap id) size) (e_size_in (Recorded id))
  e_image v w (list_to id) = ap (numbered_image (codes "list") (id + 1)) (e_size_in (Listed id))
  e_image v w (set_to id) = ap (numbered_image (codes "set") (id + 1)) (e_size_in (Collected id))
  e_image v w (table_to id) = ap (numbered_image (codes "table") (id + 1)) (e_size_in (Tabled id))
  e_image v w (coexp_to id) = ap (numbered_image (codes "co-expression") (id + 1)) (e_size_in (Activated id))
  e_image v w (procedure_to n k t) = R.names.same_image n k t

  e_line : (v w : Option Value) → OptionTo (ValueTo R.To) v w → offending_line R.whole a.world.heap v ≡ offending_line R.left (view a q).world.heap w
  e_line v w neither = refl
  e_line v w (each_to {x} {y} t) = ap (λ (text : List ℕ). codes "offending value: " ++ (text ++ codes "\n")) (e_image x y t)

  pub e_report : (n : ℕ) (v w : Option Value) → OptionTo (ValueTo R.To) v w
      → error_report R.whole a.world.heap n v ≡ error_report R.left (view a q).world.heap n w
  e_report n v w t = ap (λ (line : List ℕ). codes "Run-time error " ++ (decimal n ++ (codes "\n" ++ (error_text n ++ (codes "\n" ++ line))))) (e_line v w t)

  -- The order of `sort`

  abbrev shape : Value → ValueRank
  shape v = sorted_shape R.whole a.world.heap v

  abbrev shape_left : Value → ValueRank
  shape_left v = sorted_shape R.left (view a q).world.heap v

  -- what is no procedure is compared with others as its like is
  against : (s t : ValueRank) → s ≡ t
      → ((n k : ℕ) (m l : List ℕ) → shape_cmp s (named_shape (shape_of (Procedure n)) m) ≡ shape_cmp s (named_shape (shape_of (Procedure k)) l))
      → (v w : Value) → ValueTo R.To v w → shape_cmp s (shape v) ≡ shape_cmp t (shape_left w)
  against s t e f v w null_to = ap (λ (r : ValueRank). shape_cmp r (shape Null)) e
  against s t e f v w (integer_to i) = ap (λ (r : ValueRank). shape_cmp r (shape (Integer i))) e
  against s t e f v w (text_to bytes) = ap (λ (r : ValueRank). shape_cmp r (shape (Text bytes))) e
  against s t e f v w (chars_to bytes) = ap (λ (r : ValueRank). shape_cmp r (shape (Chars bytes))) e
  against s t e f v w (file_to file) = ap (λ (r : ValueRank). shape_cmp r (shape (Std file))) e
  against s t e f v w (record_to id) =
      ap (λ (r : ValueRank). shape_cmp r (shape (ARecord id))) e
      ∙ ap (λ (name : List ℕ). shape_cmp t (named_shape (shape_of (ARecord id)) name)) (e_record_name id)
  against s t e f v w (list_to id) = ap (λ (r : ValueRank). shape_cmp r (shape (AList id))) e
  against s t e f v w (set_to id) = ap (λ (r : ValueRank). shape_cmp r (shape (ASet id))) e
  against s t e f v w (table_to id) = ap (λ (r : ValueRank). shape_cmp r (shape (ATable id))) e
  against s t e f v w (coexp_to id) = ap (λ (r : ValueRank). shape_cmp r (shape (ACoexp id))) e
  against s t e f v w (procedure_to n k r) =
      f n k (procedure_name R.whole n) (procedure_name R.left k) ∙ ap (λ (r : ValueRank). shape_cmp r (shape_left (Procedure k))) e

  procedure_against : (n k : ℕ) → R.To n k → (v w : Value) → ValueTo R.To v w
      → shape_cmp (shape (Procedure n)) (shape v) ≡ shape_cmp (shape_left (Procedure k)) (shape_left w)
  procedure_against n k r v w null_to = refl
  procedure_against n k r v w (integer_to i) = refl
  procedure_against n k r v w (text_to bytes) = refl
  procedure_against n k r v w (chars_to bytes) = refl
  procedure_against n k r v w (file_to file) = refl
  procedure_against n k r v w (record_to id) = refl
  procedure_against n k r v w (list_to id) = refl
  procedure_against n k r v w (set_to id) = refl
  procedure_against n k r v w (table_to id) = refl
  procedure_against n k r v w (coexp_to id) = refl
  procedure_against n k r v w (procedure_to m j t) =
      ap (λ (name : List ℕ). ordering_then (slice_cmp nat_cmp name (procedure_name R.whole m)) (int_cmp (pos n) (pos m))) (R.names.same_name n k r)
      ∙ ap (λ (name : List ℕ). ordering_then (slice_cmp nat_cmp (procedure_name R.left k) name) (int_cmp (pos n) (pos m))) (R.names.same_name m j t)
      ∙ ap (λ (o : Ordering). ordering_then (slice_cmp nat_cmp (procedure_name R.left k) (procedure_name R.left j)) o)
      (number_cmp_alike R.To R.one R.along n k m j r t)

  pub e_cmp : (v x w y : Value) → ValueTo R.To v w → ValueTo R.To x y
      → value_cmp R.whole a.world.heap v x ≡ value_cmp R.left (view a q).world.heap w y
  e_cmp v x w y null_to t = against (shape Null) (shape_left Null) (refl) (λ n k m l. refl) x y t
  e_cmp v x w y (integer_to i) t = against (shape (Integer i)) (shape_left (Integer i)) (refl) (λ n k m l. refl) x y t
  e_cmp v x w y (text_to bytes) t = against (shape (Text bytes)) (shape_left (Text bytes)) (refl) (λ n k m l. refl) x y t
  e_cmp v x w y (chars_to bytes) t = against (shape (Chars bytes)) (shape_left (Chars bytes)) (refl) (λ n k m l. refl) x y t
  e_cmp v x w y (file_to file) t = against (shape (Std file)) (shape_left (Std file)) (refl) (λ n k m l. refl) x y t
  e_cmp v x w y (record_to id) t =
      against (shape (ARecord id)) (shape_left (ARecord id)) (ap (λ (name : List ℕ). named_shape (shape_of (ARecord id)) name) (e_record_name id))
      (λ n k m l. refl) x y t
  e_cmp v x w y (list_to id) t = against (shape (AList id)) (shape_left (AList id)) (refl) (λ n k m l. refl) x y t
  e_cmp v x w y (set_to id) t = against (shape (ASet id)) (shape_left (ASet id)) (refl) (λ n k m l. refl) x y t
  e_cmp v x w y (table_to id) t = against (shape (ATable id)) (shape_left (ATable id)) (refl) (λ n k m l. refl) x y t
  e_cmp v x w y (coexp_to id) t = against (shape (ACoexp id)) (shape_left (ACoexp id)) (refl) (λ n k m l. refl) x y t
  e_cmp v x w y (procedure_to n k r) t = procedure_against n k r x y t

  pub m_sorted : (vs ws : List Value) → Both (ValueTo R.To) vs ws
      → Both (ValueTo R.To) (sort_list (value_cmp R.whole a.world.heap) vs) (sort_list (value_cmp R.left (view a q).world.heap) ws)
  m_sorted vs ws t = both_sorted (ValueTo R.To) (value_cmp R.whole a.world.heap) (value_cmp R.left (view a q).world.heap) e_cmp vs ws t

  pub p_by_key : (ps qs : List (Value × Value)) → Both (PairTo R) ps qs
      → Both (PairTo R) (sort_list (key_cmp R.whole a.world.heap) ps) (sort_list (key_cmp R.left (view a q).world.heap) qs)
  p_by_key ps qs t = both_sorted (PairTo R) (key_cmp R.whole a.world.heap) (key_cmp R.left (view a q).world.heap)
      (λ x u y w r s. e_cmp x.0 u.0 y.0 w.0 r.key s.key) ps qs t

  pub p_by_entry : (ps qs : List (Value × Value)) → Both (PairTo R) ps qs
      → Both (PairTo R) (sort_list (entry_cmp R.whole a.world.heap) ps) (sort_list (entry_cmp R.left (view a q).world.heap) qs)
  p_by_entry ps qs t = both_sorted (PairTo R) (entry_cmp R.whole a.world.heap) (entry_cmp R.left (view a q).world.heap)
      (λ x u y w r s. ap (λ (o : Ordering). ordering_then o (value_cmp R.whole a.world.heap x.0 u.0)) (e_cmp x.1 u.1 y.1 w.1 r.value s.value)
      ∙ ap (λ (o : Ordering). ordering_then (value_cmp R.left (view a q).world.heap y.1 w.1) o) (e_cmp x.0 u.0 y.0 w.0 r.key s.key)) ps qs t

  pub e_has_key : (kept : Keeper) (v w : Value) → ValueTo R.To v w → has_key a.world.heap kept v ≡ has_key (view a q).world.heap kept w
  e_has_key (SetKeeper id) v w t = e_has R _ _ v w (s_at R a.world.heap.sets q.sets id h.sets) t
  e_has_key (TableKeeper id) v w t = e_key R _ _ v w (t_at R a.world.heap.tables q.tables id h.tables).pairs t

-- what a value names
pub n_procedure : (R : Renaming) (v w : Value) → ValueTo R.To v w → OptionTo R.To (procedure_of R.whole v) (procedure_of R.left w)
n_procedure R v w null_to = neither
n_procedure R v w (integer_to i) = neither
n_procedure R v w (text_to bytes) = R.names.named bytes
n_procedure R v w (chars_to bytes) = neither
n_procedure R v w (file_to file) = neither
n_procedure R v w (record_to id) = neither
n_procedure R v w (list_to id) = neither
n_procedure R v w (set_to id) = neither
n_procedure R v w (table_to id) = neither
n_procedure R v w (coexp_to id) = neither
n_procedure R v w (procedure_to n k t) = each_to t
