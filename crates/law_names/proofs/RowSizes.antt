-- Rows make no record, and change none, but with as many fields as its kind has.
use Rattle.std.proofs.Common.{◌≡◌, ℕ, zero, suc, ◌<◌, refl, ◌∙◌, arith, List, [], ◌∷◌, ◌++◌, length, Option, Some}
use Rattle.std.specs.Prelude.{slice_get, option_map}
use Rattle.std.proofs.lemmas.List.{length-set}
use Rattle.icn_value.specs.Values.{Value}
use Rattle.icn_value.specs.Store.{Setting, Heap, Record, value_at}
use Rattle.law_rows.proofs.RowLaws.{RowLaw, PartLaws, RecordsLaw, SettingBy, any_parts, any_each, any_of_items, any_of_residual, record_of, with_field}
use Rattle.law_rows.proofs.EachOfList.{none_is_not_some, some_injective}
use Rattle.law_rows.proofs.EveryRow.{operation_comes, values_come, function_comes, resumed_comes, list_comes, record_comes, text_comes, words_come, coexpression_comes}
use Rattle.law_names.specs.RowSizes.{KeepSizes, RowsKeepSizes, heap_after}
use Rattle.law_names.proofs.RowValues.{may_copy}

-- Lists of records

abbrev Fit : (ℕ → ℕ) → List Record → Type 0
Fit z rs = (id : ℕ) (r : Record) → slice_get rs id ≡ Some r → length r.fields ≡ z r.kind

abbrev kind_in : List Record → ℕ → Option ℕ
kind_in rs id = option_map (λ r. r.kind) (slice_get rs id)

-- from one list to a later one, as `KeepSizes` of their heaps
record Rs (z : ℕ → ℕ) (b rs : List Record) : Type 0 where
  kinds : (id kind : ℕ) → kind_in b id ≡ Some kind → kind_in rs id ≡ Some kind
  fit : Fit z b → Fit z rs

kinds_set : (rs : List Record) (k place : ℕ) (v : Value) (id : ℕ) → kind_in (with_field rs k place v) id ≡ kind_in rs id
kinds_set [] k place v id = refl
kinds_set (r ∷ rs) zero place v zero = refl
kinds_set (r ∷ rs) zero place v (suc id) = refl
kinds_set (r ∷ rs) (suc k) place v zero = refl
kinds_set (r ∷ rs) (suc k) place v (suc id) = kinds_set rs k place v id

fit_set : (z : ℕ → ℕ) (rs : List Record) (k place : ℕ) (v : Value) → Fit z rs → Fit z (with_field rs k place v)
fit_set z [] k place v h id r e = h id r e
fit_set z (x ∷ rs) zero place v h zero r e = rw (← some_injective e) (length-set x.fields place v ∙ h zero x refl)
fit_set z (x ∷ rs) zero place v h (suc id) r e = h (suc id) r e
fit_set z (x ∷ rs) (suc k) place v h zero r e = h zero r e
fit_set z (x ∷ rs) (suc k) place v h (suc id) r e = fit_set z rs k place v (λ n q f. h (suc n) q f) id r e

kinds_more : (rs : List Record) (x : Record) (id kind : ℕ) → kind_in rs id ≡ Some kind → kind_in (rs ++ x ∷ []) id ≡ Some kind
kinds_more [] x id kind e = none_is_not_some kind e
kinds_more (r ∷ rs) x zero kind e = e
kinds_more (r ∷ rs) x (suc id) kind e = kinds_more rs x id kind e

fit_more : (z : ℕ → ℕ) (rs : List Record) (x : Record) → length x.fields ≡ z x.kind → Fit z rs → Fit z (rs ++ x ∷ [])
fit_more z [] x l h zero r e = rw (← some_injective e) l
fit_more z [] x l h (suc id) r e = none_is_not_some r e
fit_more z (y ∷ rs) x l h zero r e = h zero r e
fit_more z (y ∷ rs) x l h (suc id) r e = fit_more z rs x l (λ n q f. h (suc n) q f) id r e

there : (rs : List Record) (id : ℕ) → id < length rs → slice_get rs id ≡ Some (record_of rs id)
there [] id l = absurd (omega arith)
there (r ∷ rs) zero l = refl
there (r ∷ rs) (suc id) l = there rs id (omega arith)

records_set : (z : ℕ → ℕ) (b rs : List Record) (k place : ℕ) (v : Value) → Rs z b rs → Rs z b (with_field rs k place v)
records_set z b rs k place v h = record {
  kinds = λ id kind e. kinds_set rs k place v id ∙ h.kinds id kind e;
  fit = λ f. fit_set z rs k place v (h.fit f);
}

records_more : (z : ℕ → ℕ) (b rs : List Record) (x : Record) → Rs z b rs → (Fit z b → length x.fields ≡ z x.kind) → Rs z b (rs ++ x ∷ [])
records_more z b rs x h l = record {
  kinds = λ id kind e. kinds_more rs x id kind (h.kinds id kind e);
  fit = λ f. fit_more z rs x (l f) (h.fit f);
}

-- The law

abbrev sized : (ℕ → ℕ) → List Record → RecordsLaw (λ v. Unit {0})
sized z b = record {
  Is = Rs z b;
  New = λ r. length r.fields ≡ z r.kind;
  There = λ rs id. id < length rs;
  set = λ rs id place v h g. records_set z b rs id place v h;
  more = λ rs x h l. records_more z b rs x h (λ f. l);
  copy = λ rs id l h. records_more z b rs (record_of rs id) h (λ f. h.fit f id (record_of rs id) (there rs id l));
  fields = λ rs id h. any_each _;
}

abbrev parts : (ℕ → ℕ) → Heap → PartLaws
parts z b = record any_parts { records = sized z b.records }

keeps : (z : ℕ → ℕ) (b : Heap) (a : Setting) → SettingBy (parts z b) a → KeepSizes z b a.world.heap
keeps z b a h = record { kinds = h.records.kinds; fit = λ f. record { fit = h.records.fit f.fit } }

abbrev sizes_law : (ℕ → ℕ) → Heap → RowLaw
sizes_law z b = record {
  parts = parts z b;
  Entered = SettingBy (parts z b);
  entered = λ a h. h;
  Comes = λ o. KeepSizes z b (heap_after o);
  failure = λ a h. keeps z b a h;
  gift = λ i a q h. keeps z b a h;
  suspension = λ i r a q p h. keeps z b a h;
  error = λ number v a e q h. keeps z b a h;
  limit = λ number a e l h. keeps z b a h;
  ending = λ status a h. keeps z b a h;
}

-- every setting keeps its own
self : (z : ℕ → ℕ) (a : Setting) → SettingBy (parts z a.world.heap) a
self z a = record {
  strings = tt;
  cells = tt;
  bounds = tt;
  counts = tt;
  lists = tt;
  sets = tt;
  tables = tt;
  records = record { kinds = λ id kind e. e; fit = λ f. f };
  globals = tt;
  statics = tt;
  locals = tt;
  kept = tt;
  outside = tt;
}

-- rows keep sizes
pub rows_keep_sizes : RowsKeepSizes
rows_keep_sizes = record {
  operations = λ z op items a. operation_comes (sizes_law z a.world.heap) op items a (λ e s h. h) (self z a) (any_of_items items);
  values = λ z items next a f. values_come (sizes_law z a.world.heap) items next a (self z a) (any_of_items items) (λ vs g. f vs);
  functions = λ z names func vs a t.
      function_comes (sizes_law z a.world.heap) names func vs a (self z a) (any_each vs)
      (λ e. may_copy (sizes_law z a.world.heap) a.world.heap (λ id l. l) (value_at vs 0) (t e)) (λ e number is. tt);
  resumed = λ z rest a. resumed_comes (sizes_law z a.world.heap) rest a (λ e s h. h) (self z a) (any_of_residual rest);
  lists = λ z vs a. list_comes (sizes_law z a.world.heap) vs a (self z a) (any_each vs);
  records = λ z kind vs a l. record_comes (sizes_law z a.world.heap) kind vs a (self z a) l;
  texts = λ z v a. text_comes (sizes_law z a.world.heap) v a (self z a) tt;
  words = λ z texts a. words_come (sizes_law z a.world.heap) texts a (self z a);
  coexpressions = λ z locals a. coexpression_comes (sizes_law z a.world.heap) locals a (self z a) tt tt;
}
