-- The tables that are made are the joined code.
use Rattle.std.proofs.Common.{◌≡◌, ℕ, true, List, [], ◌∷◌, ◌≤◌, length, map, sym, ap, subst, ◌∙◌, arith}
use Rattle.std.specs.Prelude.{nat_le}
use Rattle.std.specs.List.{flat_map, list_all, sum_by}
use Rattle.std.proofs.lemmas.List.{length-map}
use Rattle.icn_code.specs.Codes.{Tables}
use Rattle.icn_code.specs.Rules.{keeps_rules}
use Rattle.icn_unit.specs.PlainUnits.{PlainProc, PlainDecl, proc_names}
use Rattle.icn_link.specs.FirstMentions.{text_index}
use Rattle.icn_link.specs.Joined.{cset_of, global_entry, joined_of, locals_in, proc_entry, records_in, statics_in, tables_with}
use Rattle.icn_link.specs.LinkFaults.{local_counts, record_sizes, size_of, static_counts}
use Rattle.icn_link.specs.Mentions.{AllMentions, globals, all_mentions, record_names}
use Rattle.icn_link.specs.Views.{AreFew, Joinable}
use Rattle.icn_link.proofs.EachOnce.{all_unmapped}
use Rattle.icn_link.proofs.JoinedRules.{all_within, joined_kept, names_long, records_long, sizes_within, within}

-- what is found of each part
pub record Parts (M : AllMentions) (decls : List PlainDecl) (procs : List PlainProc) (T : Tables) : Type 0 where
  pub strings : T.strings ≡ M.strings
  pub csets : T.csets ≡ map cset_of M.sets
  pub integers : T.integers ≡ M.integers
  pub fields : T.fields ≡ map (text_index M.strings) M.fields
  pub records : T.records ≡ flat_map (records_in M) decls
  pub globals : T.globals ≡ map (global_entry M (proc_names procs) (record_names decls)) M.globals
  pub entries : T.procs ≡ map (proc_entry M) procs

pub tables_made : (M : AllMentions) (decls : List PlainDecl) (procs : List PlainProc) (T : Tables) → M ≡ all_mentions decls procs
    → Parts M decls procs T → T ≡ joined_of decls procs
tables_made M decls procs T is p =
    (λ i. record {
      strings = p.strings i;
      csets = p.csets i;
      integers = p.integers i;
      fields = p.fields i;
      records = p.records i;
      globals = p.globals i;
      procs = p.entries i;
    }) ∙ ap (λ N. tables_with N decls procs) is

pub tables_kept : (M : AllMentions) (decls : List PlainDecl) (procs : List PlainProc) (T : Tables) → M ≡ all_mentions decls procs
    → Joinable decls procs → Parts M decls procs T → keeps_rules T ≡ true
tables_kept M decls procs T is J p = ap keeps_rules (tables_made M decls procs T is p) ∙ joined_kept decls procs J

-- how many entries there are
record Bounds (M : AllMentions) (D : List PlainDecl) (P : List PlainProc) : Type 0 where
  tables : AreFew M
  records : length (record_names D) ≤ 16777216
  procs : length (proc_names P) ≤ 16777216

bounds : (decls : List PlainDecl) (procs : List PlainProc) → Joinable decls procs → Bounds (all_mentions decls procs) decls procs
bounds decls procs J =
    let M : AllMentions = all_mentions decls procs in
    let k7 : List ℕ = length procs ∷ [] in
    let k6 : List ℕ = length M.globals ∷ k7 in
    let k5 : List ℕ = length (record_sizes decls) ∷ k6 in
    let k4 : List ℕ = length M.fields ∷ k5 in
    let k3 : List ℕ = length M.integers ∷ k4 in
    let k2 : List ℕ = length M.sets ∷ k3 in
    let s1 = within 16777216 (length M.strings) k2 J.tables in
    let s2 = within 16777216 (length M.sets) k3 s1.1 in
    let s3 = within 16777216 (length M.integers) k4 s2.1 in
    let s4 = within 16777216 (length M.fields) k5 s3.1 in
    let s5 = within 16777216 (length (record_sizes decls)) k6 s4.1 in
    let s6 = within 16777216 (length M.globals) k7 s5.1 in
    let s7 = within 16777216 (length procs) [] s6.1 in
    record {
      tables = record { strings = s1.0; sets = s2.0; integers = s3.0; fields = s4.0; globals = s6.0 };
      records = omega (arith, s5.0, records_long M decls, names_long M decls);
      procs = omega (arith, s7.0, length-map procs (λ (proc : PlainProc). proc.name));
    }

pub are_few : (M : AllMentions) (decls : List PlainDecl) (procs : List PlainProc) → M ≡ all_mentions decls procs → Joinable decls procs → AreFew M
are_few M decls procs is J = subst AreFew (sym is) (bounds decls procs J).tables

pub few_records : (decls : List PlainDecl) (procs : List PlainProc) → Joinable decls procs → length (record_names decls) ≤ 16777216
few_records decls procs J = (bounds decls procs J).records

pub few_procs : (decls : List PlainDecl) (procs : List PlainProc) → Joinable decls procs → length (proc_names procs) ≤ 16777216
few_procs decls procs J = (bounds decls procs J).procs

pub few_instrs : (decls : List PlainDecl) (procs : List PlainProc) → Joinable decls procs
    → list_all (λ (proc : PlainProc). nat_le (size_of proc) 16777216) procs ≡ true
few_instrs decls procs J = sizes_within 16777216 procs (within 16777216 (sum_by size_of procs) [] J.instrs).0

pub few_locals : (M : AllMentions) (decls : List PlainDecl) (procs : List PlainProc) → M ≡ all_mentions decls procs → Joinable decls procs
    → list_all (λ (proc : PlainProc). nat_le (locals_in M.globals proc.names) 65535) procs ≡ true
few_locals M decls procs is J =
    ap (λ (N : AllMentions). list_all (λ (proc : PlainProc). nat_le (locals_in N.globals proc.names) 65535) procs) is
    ∙ all_unmapped (λ n. nat_le n 65535) (λ (proc : PlainProc). locals_in (globals decls procs) proc.names) procs
    (all_within 65535 (local_counts (globals decls procs) procs) J.locals)

pub few_statics : (M : AllMentions) (decls : List PlainDecl) (procs : List PlainProc) → M ≡ all_mentions decls procs → Joinable decls procs
    → list_all (λ (proc : PlainProc). nat_le (statics_in M.globals proc.names) 65535) procs ≡ true
few_statics M decls procs is J =
    ap (λ (N : AllMentions). list_all (λ (proc : PlainProc). nat_le (statics_in N.globals proc.names) 65535) procs) is
    ∙ all_unmapped (λ n. nat_le n 65535) (λ (proc : PlainProc). statics_in (globals decls procs) proc.names) procs
    (all_within 65535 (static_counts (globals decls procs) procs) J.statics)
