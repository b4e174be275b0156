-- The rules of linking, looked at one after the other.
use Rattle.std.proofs.Common.{◌≡◌, ◌≤◌, List, [], ◌∷◌, length, Option, None, true, sym, ap, subst, ◌∙◌}
use Rattle.std.specs.List.{list_all, sum_by}
use Rattle.std.specs.Option.{option_or}
use Rattle.icn_code.specs.Codes.{Tables}
use Rattle.icn_image.specs.Spelling.{image_of}
use Rattle.icn_unit.specs.PlainUnits.{PlainProc, PlainDecl, UnitRead, proc_names}
use Rattle.icn_link.specs.JoinableUnits.{is_joinable, is_joinable_decl, is_joinable_proc}
use Rattle.icn_link.specs.declared.fault.LinkFault.{LinkFault}
use Rattle.icn_link.specs.Joined.{joined_code, joined_of}
use Rattle.icn_link.specs.LinkFaults.{IsFault, all_statics, first_fault, kind_counts, local_counts, missing_unit, over, record_sizes, repeated_name, size_of, static_counts, table_sizes, too_large, too_large_of, unknown_name}
use Rattle.icn_link.specs.Mentions.{AllMentions, globals, all_mentions}
use Rattle.icn_link.specs.Units.{all_decls, all_procs}
use Rattle.icn_link.specs.Views.{Joinable}
use Rattle.icn_link.proofs.JoinedTables.{few_procs}
use Rattle.icn_link.proofs.JoinedUnits.{joinable}
use Rattle.icn_link.proofs.KeptUnits.{units_decls, units_procs}
use Rattle.icn_link.proofs.RuleByRule.{both_kept, first_fault_is, later_fault_is}

-- Declarations and procedures that are too large

module _ (M : AllMentions) (D : List PlainDecl) (P : List PlainProc) (is : M ≡ all_mentions D P) where
  abbrev instrs : Option LinkFault
  instrs = over 16777216 (sum_by size_of P ∷ [])

  abbrev tables : Option LinkFault
  tables = over 16777216 (table_sizes (all_mentions D P) D P)

  abbrev together : Option LinkFault
  together = over 4294967295 (all_statics (globals D P) P ∷ [])

  abbrev kinds : Option LinkFault
  kinds = over 65535 (kind_counts (all_mentions D P) D)

  abbrev records : Option LinkFault
  records = over 65535 (record_sizes D)

  abbrev locals : Option LinkFault
  locals = over 65535 (local_counts (globals D P) P)

  abbrev statics : Option LinkFault
  statics = over 65535 (static_counts (globals D P) P)

  abbrev image : Option LinkFault
  image = over 1073741824 (length (image_of (joined_of D P)) ∷ [])

  -- the same by the tables that are gathered
  abbrev tables_found : Option LinkFault
  tables_found = over 16777216 (table_sizes M D P)

  abbrev together_found : Option LinkFault
  together_found = over 4294967295 (all_statics M.globals P ∷ [])

  abbrev kinds_found : Option LinkFault
  kinds_found = over 65535 (kind_counts M D)

  abbrev locals_found : Option LinkFault
  locals_found = over 65535 (local_counts M.globals P)

  abbrev statics_found : Option LinkFault
  statics_found = over 65535 (static_counts M.globals P)

  tables_same : tables_found ≡ tables
  tables_same = ap (λ (N : AllMentions). over 16777216 (table_sizes N D P)) is

  together_same : together_found ≡ together
  together_same = ap (λ (N : AllMentions). over 4294967295 (all_statics N.globals P ∷ [])) is

  kinds_same : kinds_found ≡ kinds
  kinds_same = ap (λ (N : AllMentions). over 65535 (kind_counts N D)) is

  locals_same : locals_found ≡ locals
  locals_same = ap (λ (N : AllMentions). over 65535 (local_counts N.globals P)) is

  statics_same : statics_found ≡ statics
  statics_same = ap (λ (N : AllMentions). over 65535 (static_counts N.globals P)) is

  -- what stands behind each rule
  abbrev behind_statics : Option LinkFault
  behind_statics = image

  abbrev behind_locals : Option LinkFault
  behind_locals = option_or statics behind_statics

  abbrev behind_records : Option LinkFault
  behind_records = option_or locals behind_locals

  abbrev behind_kinds : Option LinkFault
  behind_kinds = option_or records behind_records

  abbrev behind_together : Option LinkFault
  behind_together = option_or kinds behind_kinds

  abbrev behind_tables : Option LinkFault
  behind_tables = option_or together behind_together

  abbrev behind_instrs : Option LinkFault
  behind_instrs = option_or tables behind_tables

  pub instrs_exit : (fault : LinkFault) → IsFault instrs fault → IsFault (too_large_of D P) fault
  instrs_exit fault h = first_fault_is instrs behind_instrs fault h

  pub tables_exit : (fault : LinkFault) → instrs ≡ None → IsFault tables_found fault → IsFault (too_large_of D P) fault
  tables_exit fault a h =
      later_fault_is instrs behind_instrs fault a (first_fault_is tables behind_tables fault (subst (λ x. IsFault x fault) tables_same h))

  pub together_exit : (fault : LinkFault) → instrs ≡ None → tables_found ≡ None → IsFault together_found fault → IsFault (too_large_of D P) fault
  together_exit fault a b h =
      later_fault_is instrs behind_instrs fault a (later_fault_is tables behind_tables fault (sym tables_same ∙ b)
      (first_fault_is together behind_together fault (subst (λ x. IsFault x fault) together_same h)))

  pub kinds_exit : (fault : LinkFault) → instrs ≡ None → tables_found ≡ None → together_found ≡ None → IsFault kinds_found fault
      → IsFault (too_large_of D P) fault
  kinds_exit fault a b c h =
      later_fault_is instrs behind_instrs fault a (later_fault_is tables behind_tables fault (sym tables_same ∙ b)
      (later_fault_is together behind_together fault (sym together_same ∙ c)
      (first_fault_is kinds behind_kinds fault (subst (λ x. IsFault x fault) kinds_same h))))

  pub records_exit : (fault : LinkFault) → instrs ≡ None → tables_found ≡ None → together_found ≡ None → kinds_found ≡ None → IsFault records fault
      → IsFault (too_large_of D P) fault
  records_exit fault a b c k h =
      later_fault_is instrs behind_instrs fault a (later_fault_is tables behind_tables fault (sym tables_same ∙ b)
      (later_fault_is together behind_together fault (sym together_same ∙ c)
      (later_fault_is kinds behind_kinds fault (sym kinds_same ∙ k) (first_fault_is records behind_records fault h))))

  pub locals_exit : (fault : LinkFault) → instrs ≡ None → tables_found ≡ None → together_found ≡ None → kinds_found ≡ None → records ≡ None
      → IsFault locals_found fault → IsFault (too_large_of D P) fault
  locals_exit fault a b c k d h =
      later_fault_is instrs behind_instrs fault a (later_fault_is tables behind_tables fault (sym tables_same ∙ b)
      (later_fault_is together behind_together fault (sym together_same ∙ c)
      (later_fault_is kinds behind_kinds fault (sym kinds_same ∙ k) (later_fault_is records behind_records fault d
      (first_fault_is locals behind_locals fault (subst (λ x. IsFault x fault) locals_same h))))))

  pub statics_exit : (fault : LinkFault) → instrs ≡ None → tables_found ≡ None → together_found ≡ None → kinds_found ≡ None → records ≡ None
      → locals_found ≡ None → IsFault statics_found fault → IsFault (too_large_of D P) fault
  statics_exit fault a b c k d e h =
      later_fault_is instrs behind_instrs fault a (later_fault_is tables behind_tables fault (sym tables_same ∙ b)
      (later_fault_is together behind_together fault (sym together_same ∙ c)
      (later_fault_is kinds behind_kinds fault (sym kinds_same ∙ k) (later_fault_is records behind_records fault d
      (later_fault_is locals behind_locals fault (sym locals_same ∙ e)
      (first_fault_is statics behind_statics fault (subst (λ x. IsFault x fault) statics_same h)))))))

  -- the code that is made, where no rule before was broken
  pub image_exit : (T : Tables) (fault : LinkFault) → T ≡ joined_of D P → instrs ≡ None → tables_found ≡ None → together_found ≡ None
      → kinds_found ≡ None → records ≡ None → locals_found ≡ None → statics_found ≡ None
      → IsFault (over 1073741824 (length (image_of T) ∷ [])) fault → IsFault (too_large_of D P) fault
  image_exit T fault t a b c k d e f h =
      later_fault_is instrs behind_instrs fault a (later_fault_is tables behind_tables fault (sym tables_same ∙ b)
      (later_fault_is together behind_together fault (sym together_same ∙ c)
      (later_fault_is kinds behind_kinds fault (sym kinds_same ∙ k) (later_fault_is records behind_records fault d
      (later_fault_is locals behind_locals fault (sym locals_same ∙ e) (later_fault_is statics behind_statics fault (sym statics_same ∙ f)
      (subst (λ U. IsFault (over 1073741824 (length (image_of U) ∷ [])) fault) t h)))))))

  pub sizes_kept : (T : Tables) → T ≡ joined_of D P → instrs ≡ None → tables_found ≡ None → together_found ≡ None → kinds_found ≡ None → records ≡ None
      → locals_found ≡ None → statics_found ≡ None → over 1073741824 (length (image_of T) ∷ []) ≡ None → too_large_of D P ≡ None
  sizes_kept T t a b c k d e f h =
      both_kept instrs behind_instrs a (both_kept tables behind_tables (sym tables_same ∙ b)
      (both_kept together behind_together (sym together_same ∙ c) (both_kept kinds behind_kinds (sym kinds_same ∙ k)
      (both_kept records behind_records d (both_kept locals behind_locals (sym locals_same ∙ e) (both_kept statics behind_statics (sym statics_same ∙ f)
      (ap (λ (U : Tables). over 1073741824 (length (image_of U) ∷ [])) (sym t) ∙ h)))))))

  pub are_joinable : list_all is_joinable_decl D ≡ true → list_all is_joinable_proc P ≡ true → instrs ≡ None → tables_found ≡ None
      → together_found ≡ None → kinds_found ≡ None → records ≡ None → locals_found ≡ None → statics_found ≡ None → Joinable D P
  are_joinable m l a b c k d e f = record {
    joinable_decls = m;
    joinable_procs = l;
    instrs = a;
    tables = sym tables_same ∙ b;
    together = sym together_same ∙ c;
    kinds = sym kinds_same ∙ k;
    records = d;
    locals = sym locals_same ∙ e;
    statics = sym statics_same ∙ f;
  }

-- Units, behind the rules of names

sizes_same : (units : List UnitRead) (D : List PlainDecl) (P : List PlainProc) → D ≡ all_decls units → P ≡ all_procs units → too_large_of D P ≡ too_large units
sizes_same units D P d p = ap (λ (E : List PlainDecl). too_large_of E P) d ∙ ap (too_large_of (all_decls units)) p

-- what stands behind each rule of names
abbrev behind_repeated : List UnitRead → Option LinkFault
behind_repeated units = option_or (unknown_name units) (too_large units)

abbrev behind_missing : List UnitRead → Option LinkFault
behind_missing units = option_or (repeated_name units) (behind_repeated units)

pub units_kept : (units : List UnitRead) (D : List PlainDecl) (P : List PlainProc) → D ≡ all_decls units → P ≡ all_procs units
    → missing_unit units ≡ None → repeated_name units ≡ None → unknown_name units ≡ None → too_large_of D P ≡ None → first_fault units ≡ None
units_kept units D P d p m r u h =
    both_kept (missing_unit units) (behind_missing units) m (both_kept (repeated_name units) (behind_repeated units) r
    (both_kept (unknown_name units) (too_large units) u (sym (sizes_same units D P d p) ∙ h)))

pub sizes_exit : (units : List UnitRead) (D : List PlainDecl) (P : List PlainProc) (fault : LinkFault) → D ≡ all_decls units → P ≡ all_procs units
    → missing_unit units ≡ None → repeated_name units ≡ None → unknown_name units ≡ None → IsFault (too_large_of D P) fault
    → IsFault (first_fault units) fault
sizes_exit units D P fault d p m r u h =
    later_fault_is (missing_unit units) (behind_missing units) fault m (later_fault_is (repeated_name units) (behind_repeated units) fault r
    (later_fault_is (unknown_name units) (too_large units) fault u (subst (λ x. IsFault x fault) (sizes_same units D P d p) h)))

pub units_joined : (units : List UnitRead) (D : List PlainDecl) (P : List PlainProc) → D ≡ all_decls units → P ≡ all_procs units
    → joined_of D P ≡ joined_code units
units_joined units D P d p = ap (λ (E : List PlainDecl). joined_of E P) d ∙ ap (joined_of (all_decls units)) p

pub missing_exit : (units : List UnitRead) (fault : LinkFault) → IsFault (missing_unit units) fault → IsFault (first_fault units) fault
missing_exit units fault h = first_fault_is (missing_unit units) (behind_missing units) fault h

pub repeated_exit : (units : List UnitRead) (fault : LinkFault) → missing_unit units ≡ None → IsFault (repeated_name units) fault
    → IsFault (first_fault units) fault
repeated_exit units fault m h =
    later_fault_is (missing_unit units) (behind_missing units) fault m (first_fault_is (repeated_name units) (behind_repeated units) fault h)

pub unknown_exit : (units : List UnitRead) (fault : LinkFault) → missing_unit units ≡ None → repeated_name units ≡ None
    → IsFault (unknown_name units) fault → IsFault (first_fault units) fault
unknown_exit units fault m r h =
    later_fault_is (missing_unit units) (behind_missing units) fault m (later_fault_is (repeated_name units) (behind_repeated units) fault r
    (first_fault_is (unknown_name units) (too_large units) fault h))

-- procedures of units that are not too large have numbers that fit
pub units_few : (units : List UnitRead) (D : List PlainDecl) (P Q : List PlainProc) → D ≡ all_decls units → P ≡ all_procs units → Q ≡ all_procs units
    → list_all is_joinable units ≡ true → too_large_of D P ≡ None → length (proc_names Q) ≤ 16777216
units_few units D P Q d p q all h =
    subst (λ (R : List PlainProc). length (proc_names R) ≤ 16777216) (sym q) (few_procs (all_decls units) (all_procs units)
    (joinable (all_decls units) (all_procs units) (units_decls units all) (units_procs units all) (sym (sizes_same units D P d p) ∙ h)))
