-- Rows make no value that names a co-expression but one that is there.
use Rattle.std.proofs.Common.{◌≡◌, ℕ, zero, suc, ◌+◌, ◌≤◌, refl, ap, ◌∙◌, arith, Bool, true, false, List, [], ◌∷◌, ◌++◌, length, Option, None}
use Rattle.std.specs.Prelude.{slice_get, unwrap_or}
use Rattle.icn_value.specs.Values.{Value, Null, ACoexp, Item, Val}
use Rattle.icn_value.specs.Store.{Setting, Names, new_list, value_at}
use Rattle.icn_defs.specs.Rows.{Row, Outcome, Gives, Error, check}
use Rattle.icn_defs.specs.Applying.{function_of}
use Rattle.icn_run.specs.Rows.{Operation, Function, apply, coexpression_row}
use Rattle.icn_defs.specs.StepRows.{OperationOrFunction}
use Rattle.law_rows.proofs.RowLaws.{RowLaw, PartLaws, ValueLaw, VariablesLaw, StructuresLaw, RecordsLaw, SettingBy, any_sum, any_outside, any_copy, no_record, no_table, record_of}
use Rattle.law_rows.proofs.EveryRow.{operation_comes, values_come, function_comes, resumed_comes, list_comes, record_comes, text_comes, words_come}
use Rattle.law_safe.specs.Within.{Each, ValueWithin, KeptWithin, ItemWithin, ListWithin, SetWithin, TableWithin, RecordWithin, SettingWithin, WorldWithin, OutcomeWithin, CreatedWithin, RowsStayWithin}
use Rattle.law_safe.proofs.EachEntry.{more_length, each_map, each_append, each_set}
use Rattle.law_safe.proofs.GrowingKnowledge.{list_more, values_more, kept_more, table_more, record_more}

-- An entry of a list, or what stands for one that is not there

each_at : {A : Type 0} (P : A → Type 0) (none : A) (xs : List A) (place : ℕ) → P none → Each P xs → P (unwrap_or (slice_get xs place) none)
each_at P none [] place q h = q
each_at P none (x ∷ xs) zero q h = h.0
each_at P none (x ∷ xs) (suc place) q h = each_at P none xs place q h.1

-- The law

abbrev values_within : ℕ → ValueLaw
values_within n = record {
  Is = ValueWithin n;
  null = tt;
  integer = λ k. tt;
  text = λ bytes. tt;
  chars = λ bytes. tt;
  file = λ file. tt;
  structure = λ id. tt;
  list = λ id. tt;
  set = λ id. tt;
  table = λ id. tt;
}

abbrev variables_within : (n : ℕ) → VariablesLaw (ValueWithin n)
variables_within n = record {
  Is = Each (ValueWithin n);
  set = each_set (ValueWithin n);
  at = λ vs place h. each_at (ValueWithin n) Null vs place tt h;
}

abbrev structures_within : {A : Type 0} (none : A) (P : A → Type 0) → P none → StructuresLaw A none P
structures_within none P base = record {
  Is = Each P;
  set = λ xs id x h g. each_set P xs id x h g;
  more = λ xs x h g. each_append P xs (x ∷ []) h (g, tt);
  at = λ xs id h. each_at P none xs id base h;
}

abbrev records_within : (n : ℕ) → RecordsLaw (ValueWithin n)
records_within n = record {
  Is = Each (RecordWithin n);
  New = RecordWithin n;
  There = λ xs id. Unit {0};
  set = λ xs id place v h g.
      each_set (RecordWithin n) xs id _ h (each_set (ValueWithin n) (record_of xs id).fields place v (each_at (RecordWithin n) no_record xs id tt h) g);
  more = λ xs x h g. each_append (RecordWithin n) xs (x ∷ []) h (g, tt);
  copy = λ xs id t h. each_append (RecordWithin n) xs (record_of xs id ∷ []) h (each_at (RecordWithin n) no_record xs id tt h, tt);
  fields = λ xs id h. each_at (RecordWithin n) no_record xs id tt h;
}

abbrev parts : ℕ → PartLaws
parts n = record {
  values = values_within n;
  strings = any_sum;
  cells = any_sum;
  BoundsAre = λ bounds. Unit {0};
  CountsAre = λ counts. length counts ≡ n;
  lists = structures_within (new_list []) (ListWithin n) tt;
  sets = structures_within [] (SetWithin n) tt;
  tables = structures_within no_table (TableWithin n) (tt, tt);
  records = records_within n;
  globals = variables_within n;
  statics = variables_within n;
  locals = variables_within n;
  KeptIs = KeptWithin n;
  none_kept = tt;
  outside = any_outside;
}

module _ (n : ℕ) where
  setting_in : (a : Setting) → SettingWithin n a → SettingBy (parts n) a
  setting_in a h = record {
    strings = tt;
    cells = tt;
    bounds = tt;
    counts = h.world.heap.count;
    lists = h.world.heap.lists;
    sets = h.world.heap.sets;
    tables = h.world.heap.tables;
    records = h.world.heap.records;
    globals = h.world.globals;
    statics = h.world.statics;
    locals = h.locals;
    kept = h.world.kept;
    outside = tt;
  }

  setting_out : (a : Setting) → SettingBy (parts n) a → SettingWithin n a
  setting_out a h = record {
    world = record {
      heap = record { lists = h.lists; sets = h.sets; tables = h.tables; records = h.records; count = h.counts };
      globals = h.globals;
      statics = h.statics;
      kept = h.kept;
    };
    locals = h.locals;
  }

abbrev within : ℕ → RowLaw
within n = record {
  parts = parts n;
  Entered = SettingBy (parts n);
  entered = λ a h. h;
  Comes = OutcomeWithin n;
  failure = λ a h. setting_out n a h;
  gift = λ i a q h. (q, setting_out n a h);
  suspension = λ i r a q p h. (q, p, setting_out n a h);
  error = λ number v a e q h. (q, setting_out n a h);
  limit = λ number a e l h. (tt, setting_out n a h);
  ending = λ status a h. tt;
}

module _ (n : ℕ) where
  -- the row that makes a co-expression counts one more
  record Created (before : Setting) (o : Outcome) : Type 0 where
    is : CreatedWithin n before o

  created_check : (before : Setting) (t : Bool) (k : ℕ) (v : Option Value) (next : Row) (a : Setting) → CreatedWithin n before (Error k v a)
      → Created before (next a) → Created before (check t k v next a)
  created_check before true k v next a e f = f
  created_check before false k v next a e f = record { is = e }

  w_created : (locals : ℕ) (a : Setting) → SettingWithin n a → Created a (coexpression_row locals a)
  w_created locals a h = let done : Created a (Gives (Val (ACoexp (length a.world.heap.coexps))) after) = record { is = made } in
      let refused : CreatedWithin n a (Error 307 None a) = (tt, h.world, refl) in search (created_check, refused, done)
    where
      l : n ≤ suc n
      l = omega arith

      world : WorldWithin (suc n)
          (record a.world { heap = record a.world.heap { coexps = a.world.heap.coexps ++ zero ∷ []; cells = a.world.heap.cells + (1 + locals) } })
      world = record {
        heap = record {
          lists = each_map (ListWithin n) (ListWithin (suc n)) (list_more n (suc n) l) a.world.heap.lists h.world.heap.lists;
          sets = each_map (SetWithin n) (SetWithin (suc n)) (values_more n (suc n) l) a.world.heap.sets h.world.heap.sets;
          tables = each_map (TableWithin n) (TableWithin (suc n)) (table_more n (suc n) l) a.world.heap.tables h.world.heap.tables;
          records = each_map (RecordWithin n) (RecordWithin (suc n)) (record_more n (suc n) l) a.world.heap.records h.world.heap.records;
          count = more_length a.world.heap.coexps zero ∙ ap suc h.world.heap.count;
        };
        globals = values_more n (suc n) l a.world.globals h.world.globals;
        statics = values_more n (suc n) l a.world.statics h.world.statics;
        kept = kept_more n (suc n) l a.world.kept h.world.kept;
      }

      after : Setting
      after = record a {
        world = record a.world { heap = record a.world.heap { coexps = a.world.heap.coexps ++ zero ∷ []; cells = a.world.heap.cells + (1 + locals) } };
      }

      made : CreatedWithin n a (Gives (Val (ACoexp (length a.world.heap.coexps))) after)
      made = (ap ACoexp h.world.heap.count, world, refl)

applied_within : (n : ℕ) (names : Names) (what : OperationOrFunction) (items : List Item) (at : Setting) → SettingWithin n at → Each (ItemWithin n) items
    → OutcomeWithin n (apply names what items at)
applied_within n names (Operation op) items at h g = operation_comes (within n) op items at (λ e s k. k) (setting_in n at h) g
applied_within n names (Function f) items at h g =
    values_come (within n) items (function_of names f) at (setting_in n at h) g
    (λ vs q. function_comes (within n) names f vs at (setting_in n at h) q (λ e. any_copy (within n) (λ xs id. tt) at.world.heap (value_at vs 0))
    (λ e number is. tt))

-- rows stay within the co-expressions that are there
pub rows_stay_within : RowsStayWithin
rows_stay_within = record {
  applied = applied_within;
  listed = λ n vs at h g. list_comes (within n) vs at (setting_in n at h) g;
  recorded = λ n kind vs at h g. record_comes (within n) kind vs at (setting_in n at h) g;
  scanned = λ n v at h g. text_comes (within n) v at (setting_in n at h) g;
  worded = λ n words at h. words_come (within n) words at (setting_in n at h);
  created = λ n locals at h. (w_created n locals at h).is;
  resumed = λ n r at h g. resumed_comes (within n) r at (λ e s k. k) (setting_in n at h) g;
}
