-- What a law over rows says of names, and settings in both ways to say it.
use Rattle.std.proofs.Common.{ℕ, zero, suc, ◌<◌, arith, List, [], ◌∷◌, length}
use Rattle.std.specs.Prelude.{slice_get, slice_set, unwrap_or}
use Rattle.icn_value.specs.Values.{Value, Null, Integer, Text, Chars, Std, Procedure, ARecord, AList, ASet, ATable, ACoexp}
use Rattle.icn_value.specs.Store.{Heap, Names, Record, Setting, new_list}
use Rattle.law_rows.proofs.EachOfList.{Each, all_of, each_of, each_map, each_append, each_set}
use Rattle.law_rows.proofs.RowLaws.{RowLaw, PartLaws, ValueLaw, RecordsLaw, SettingBy, MayCopy, PairBy, ListBy, TableBy, any_sum, any_outside, no_table, record_of, structures_each, variables_each}
use Rattle.law_names.specs.NamedSettings.{ValueNamed, ListNamed, SetNamed, TableNamed, RecordNamed, KeptNamed, SettingNamed}
use Rattle.law_names.specs.RowsNamed.{IsThere}

-- Values

abbrev pub named_values : Names → ValueLaw
named_values ns = record {
  Is = ValueNamed ns;
  null = tt;
  integer = λ n. tt;
  text = λ bytes. tt;
  chars = λ bytes. tt;
  file = λ file. tt;
  structure = λ id. tt;
  list = λ id. tt;
  set = λ id. tt;
  table = λ id. tt;
}

-- a record that is there may be copied
pub may_copy : (law : RowLaw) (heap : Heap) → ((id : ℕ) → id < length heap.records → law.parts.records.There heap.records id) → (v : Value)
    → IsThere heap v → MayCopy law heap v
may_copy law heap there Null h = tt
may_copy law heap there (Integer n) h = tt
may_copy law heap there (Text text) h = tt
may_copy law heap there (Chars bytes) h = tt
may_copy law heap there (Std file) h = tt
may_copy law heap there (Procedure number) h = tt
may_copy law heap there (ARecord id) h = there id h
may_copy law heap there (AList id) h = tt
may_copy law heap there (ASet id) h = tt
may_copy law heap there (ATable id) h = tt
may_copy law heap there (ACoexp id) h = tt

-- Records

pub record RecordE (ns : Names) (structure : Record) : Type 0 where
  pub kind : structure.kind < length ns.records
  pub fields : Each (ValueNamed ns) structure.fields

module _ (ns : Names) where
  pub each_records : (xs : List Record) (k : ℕ) → Each (RecordE ns) xs
      → Each (ValueNamed ns) (unwrap_or (slice_get xs k) (record { kind = 0; fields = [] })).fields
  each_records [] k h = tt
  each_records (x ∷ xs) zero h = h.0.fields
  each_records (x ∷ xs) (suc k) h = each_records xs k h.1

  pub each_there : (xs : List Record) (k : ℕ) → k < length xs → Each (RecordE ns) xs
      → RecordE ns (unwrap_or (slice_get xs k) (record { kind = 0; fields = [] }))
  each_there [] k l h = absurd (omega arith)
  each_there (x ∷ xs) zero l h = h.0
  each_there (x ∷ xs) (suc k) l h = each_there xs k (omega arith) h.1

  pub each_fields : (xs : List Record) (k place : ℕ) (v : Value) → Each (RecordE ns) xs → ValueNamed ns v
      → Each (RecordE ns) (slice_set xs k (record (unwrap_or (slice_get xs k) (record { kind = 0; fields = [] }))
      { fields = slice_set (unwrap_or (slice_get xs k) (record { kind = 0; fields = [] })).fields place v }))
  each_fields [] k place v h g = tt
  each_fields (x ∷ xs) zero place v h g = (one, h.1)
    where
      one : RecordE ns (record x { fields = slice_set x.fields place v })
      one = record {
        kind = h.0.kind;
        fields = each_set (ValueNamed ns) x.fields place v h.0.fields g;
      }
  each_fields (x ∷ xs) (suc k) place v h g = (h.0, each_fields xs k place v h.1 g)

abbrev pub named_records : (ns : Names) → RecordsLaw (ValueNamed ns)
named_records ns = record {
  Is = Each (RecordE ns);
  New = RecordE ns;
  There = λ xs id. id < length xs;
  set = λ xs id place v h g. each_fields ns xs id place v h g;
  more = λ xs x h g. each_append (RecordE ns) xs (x ∷ []) h (g, tt);
  copy = λ xs id l h. each_append (RecordE ns) xs (record_of xs id ∷ []) h (each_there ns xs id l h, tt);
  fields = λ xs id h. each_records ns xs id h;
}

-- Settings

abbrev pub named_parts : Names → PartLaws
named_parts ns = record {
  values = named_values ns;
  strings = any_sum;
  cells = any_sum;
  BoundsAre = λ bounds. Unit {0};
  CountsAre = λ counts. Unit {0};
  lists = structures_each (new_list []) (ListBy (ValueNamed ns)) tt;
  sets = structures_each [] (Each (ValueNamed ns)) tt;
  tables = structures_each no_table (TableBy (ValueNamed ns)) (tt, tt);
  records = named_records ns;
  globals = variables_each (named_values ns);
  statics = variables_each (named_values ns);
  locals = variables_each (named_values ns);
  KeptIs = KeptNamed ns;
  none_kept = tt;
  outside = any_outside;
}

module _ (ns : Names) where
  -- Between both ways to say it

  record_in : (x : Record) → RecordNamed ns x → RecordE ns x
  record_in x h = record { kind = h.0; fields = each_of (ValueNamed ns) x.fields h.1 }

  record_out : (x : Record) → RecordE ns x → RecordNamed ns x
  record_out x h = (h.kind, all_of (ValueNamed ns) x.fields h.fields)

  pub setting_in : (a : Setting) → SettingNamed ns a → SettingBy (named_parts ns) a
  setting_in a h = record {
    strings = tt;
    cells = tt;
    bounds = tt;
    counts = tt;
    lists = each_map (ListNamed ns) (ListBy (ValueNamed ns)) (λ x q. each_of (ValueNamed ns) x.items q) a.world.heap.lists
        (each_of (ListNamed ns) a.world.heap.lists h.world.heap.lists);
    sets = each_map (SetNamed ns) (Each (ValueNamed ns)) (λ x q. each_of (ValueNamed ns) x q) a.world.heap.sets
        (each_of (SetNamed ns) a.world.heap.sets h.world.heap.sets);
    tables = each_map (TableNamed ns) (TableBy (ValueNamed ns)) (λ x q. (q.0, each_of (PairBy (ValueNamed ns)) x.pairs q.1)) a.world.heap.tables
        (each_of (TableNamed ns) a.world.heap.tables h.world.heap.tables);
    records = each_map (RecordNamed ns) (RecordE ns) record_in a.world.heap.records (each_of (RecordNamed ns) a.world.heap.records h.world.heap.records);
    globals = each_of (ValueNamed ns) a.world.globals h.world.globals;
    statics = each_of (ValueNamed ns) a.world.statics h.world.statics;
    kept = h.world.kept;
    locals = each_of (ValueNamed ns) a.locals h.locals;
    outside = tt;
  }

  pub setting_out : (a : Setting) → SettingBy (named_parts ns) a → SettingNamed ns a
  setting_out a h = record {
    world = record {
      heap = record {
        lists = all_of (ListNamed ns) a.world.heap.lists
            (each_map (ListBy (ValueNamed ns)) (ListNamed ns) (λ x q. all_of (ValueNamed ns) x.items q) a.world.heap.lists h.lists);
        sets = all_of (SetNamed ns) a.world.heap.sets
            (each_map (Each (ValueNamed ns)) (SetNamed ns) (λ x q. all_of (ValueNamed ns) x q) a.world.heap.sets h.sets);
        tables = all_of (TableNamed ns) a.world.heap.tables
            (each_map (TableBy (ValueNamed ns)) (TableNamed ns) (λ x q. (q.0, all_of (PairBy (ValueNamed ns)) x.pairs q.1)) a.world.heap.tables h.tables);
        records = all_of (RecordNamed ns) a.world.heap.records (each_map (RecordE ns) (RecordNamed ns) record_out a.world.heap.records h.records);
      };
      globals = all_of (ValueNamed ns) a.world.globals h.globals;
      statics = all_of (ValueNamed ns) a.world.statics h.statics;
      kept = h.kept;
    };
    locals = all_of (ValueNamed ns) a.locals h.locals;
  }
