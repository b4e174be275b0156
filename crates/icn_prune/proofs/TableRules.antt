-- The rules of tables, one by one.
use Rattle.std.proofs.Common.{◌≡◌, ◌<◌, ◌^◌, true, length, map, arith}
use Rattle.std.specs.Prelude.{nat_lt}
use Rattle.std.specs.List.{list_all}
use Rattle.std.proofs.lemmas.Bool.{and_from, and_parts, leb-true, ltb-true}
use Rattle.icn_profile.specs.Numbers.{most_fields, number_limit}
use Rattle.icn_code.specs.Codes.{Tables}
use Rattle.icn_code.specs.Rules.{are_counts, is_cset, is_global, is_integer, is_proc, is_record, is_string_below, keeps_rules, name_of, names_differ}

pub record AreRuled (T : Tables) : Type 0 where
  pub counts : are_counts number_limit T ≡ true
  pub strings : list_all (is_string_below number_limit) T.strings ≡ true
  pub csets : list_all is_cset T.csets ≡ true
  pub integers : list_all is_integer T.integers ≡ true
  pub fields : list_all (λ name. nat_lt name (length T.strings)) T.fields ≡ true
  pub records : list_all (is_record (length T.strings) (length T.fields)) T.records ≡ true
  pub globals : list_all (is_global (length T.strings) (length T.records) (length T.procs)) T.globals ≡ true
  pub names : names_differ (map (name_of T.strings) T.globals) ≡ true
  pub procs : list_all (is_proc T) T.procs ≡ true

pub each_rule : (T : Tables) → keeps_rules T ≡ true → AreRuled T
unfolding keeps_rules
each_rule T h =
    let a = and_parts _ _ h in
    let b = and_parts _ _ a.0 in
    let c = and_parts _ _ b.0 in
    let d = and_parts _ _ c.0 in
    let e = and_parts _ _ d.0 in
    let f = and_parts _ _ e.0 in
    let g = and_parts _ _ f.0 in
    let i = and_parts _ _ g.0 in
    record {
      counts = i.0;
      strings = i.1;
      csets = g.1;
      integers = f.1;
      fields = e.1;
      records = d.1;
      globals = c.1;
      names = b.1;
      procs = a.1;
    }

pub all_rules : (T : Tables) → AreRuled T → keeps_rules T ≡ true
unfolding keeps_rules
all_rules T r =
    and_from _ _ (and_from _ _ (and_from _ _ (and_from _ _ (and_from _ _ (and_from _ _ (and_from _ _ (and_from _ _ r.counts r.strings) r.csets) r.integers)
    r.fields) r.records) r.globals) r.names) r.procs

-- The tables have fewer entries than 32 bits count.
pub record AreFew (T : Tables) : Type 0 where
  pub strings : length T.strings < 2 ^ 32
  pub csets : length T.csets < 2 ^ 32
  pub integers : length T.integers < 2 ^ 32
  pub fields : length T.fields < 2 ^ 32
  pub globals : length T.globals < 2 ^ 32
  pub procs : length T.procs < 2 ^ 32

pub few_entries : (T : Tables) → keeps_rules T ≡ true → AreFew T
few_entries T h =
    let a = and_parts _ _ (each_rule T h).counts in
    let b = and_parts _ _ a.0 in
    let c = and_parts _ _ b.0 in
    let d = and_parts _ _ c.0 in
    let e = and_parts _ _ d.0 in
    let f = and_parts _ _ e.0 in
    record {
      strings = ltb-true (length T.strings) number_limit f.0;
      csets = ltb-true (length T.csets) number_limit f.1;
      integers = ltb-true (length T.integers) number_limit e.1;
      fields = let l = leb-true (length T.fields) most_fields d.1 in omega (arith, l);
      globals = ltb-true (length T.globals) number_limit b.1;
      procs = let t = and_parts _ _ a.1 in ltb-true (length T.procs) number_limit (and_parts _ _ t.0).0;
    }
