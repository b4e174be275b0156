-- The joined code of joinable units that break no rule of linking keeps the rules of codes.
use Rattle.std.proofs.Common.{◌≡◌, true, List, [], ◌∷◌, length, Option, Some, None, refl, sym}
use Rattle.std.specs.List.{list_all, sum_by}
use Rattle.std.specs.Option.{option_or}
use Rattle.std.proofs.lemmas.Option.{none-some}
use Rattle.icn_code.specs.Rules.{keeps_rules}
use Rattle.icn_image.specs.Spelling.{image_of}
use Rattle.icn_unit.specs.PlainUnits.{PlainProc, PlainDecl, UnitRead}
use Rattle.icn_unit.specs.UnitRules.{keeps_rules as keeps_unit_rules}
use Rattle.icn_link.specs.declared.fault.LinkFault.{LinkFault}
use Rattle.icn_link.specs.Joined.{joined_code, joined_of}
use Rattle.icn_link.specs.JoinableUnits.{is_joinable, is_joinable_decl, is_joinable_proc}
use Rattle.icn_link.specs.LinkFaults.{all_statics, kind_counts, first_fault, local_counts, missing_unit, over, record_sizes, repeated_name, size_of, static_counts, table_sizes, too_large, too_large_of, unknown_name}
use Rattle.icn_link.specs.Mentions.{globals, all_mentions}
use Rattle.icn_link.specs.Units.{all_decls, all_procs}
use Rattle.icn_link.specs.Views.{Joinable}
use Rattle.icn_link.proofs.EachOnce.{all_then}
use Rattle.icn_link.proofs.JoinedRules.{joined_kept}
use Rattle.icn_link.proofs.KeptUnits.{unit_joinable, units_decls, units_procs}

neither : (a b : Option LinkFault) → option_or a b ≡ None → (a ≡ None) × (b ≡ None)
neither None b h = (refl, h)
neither (Some fault) b h = absurd (none-some fault (sym h))

-- not too large: each bound is kept
pub joinable : (D : List PlainDecl) (P : List PlainProc) → list_all is_joinable_decl D ≡ true → list_all is_joinable_proc P ≡ true
    → too_large_of D P ≡ None → Joinable D P
joinable D P d p h =
    let instrs = over 16777216 (sum_by size_of P ∷ []) in
    let tables = over 16777216 (table_sizes (all_mentions D P) D P) in
    let together = over 4294967295 (all_statics (globals D P) P ∷ []) in
    let kinds = over 65535 (kind_counts (all_mentions D P) D) in
    let records = over 65535 (record_sizes D) in
    let locals = over 65535 (local_counts (globals D P) P) in
    let statics = over 65535 (static_counts (globals D P) P) in
    let image = over 1073741824 (length (image_of (joined_of D P)) ∷ []) in
    let behind_locals = option_or statics image in
    let behind_records = option_or locals behind_locals in
    let behind_kinds = option_or records behind_records in
    let behind_together = option_or kinds behind_kinds in
    let behind_tables = option_or together behind_together in
    let a = neither instrs (option_or tables behind_tables) h in
    let b = neither tables behind_tables a.1 in
    let c = neither together behind_together b.1 in
    let k = neither kinds behind_kinds c.1 in
    let e = neither records behind_records k.1 in
    let f = neither locals behind_locals e.1 in
    let g = neither statics image f.1 in
    record {
      joinable_decls = d;
      joinable_procs = p;
      instrs = a.0;
      tables = b.0;
      together = c.0;
      kinds = k.0;
      records = e.0;
      locals = f.0;
      statics = g.0;
    }

pub units_keep : (units : List UnitRead) → list_all is_joinable units ≡ true → first_fault units ≡ None
    → keeps_rules (joined_code units) ≡ true
units_keep units all none =
    let unknown = option_or (unknown_name units) (too_large units) in
    let behind = neither (missing_unit units) (option_or (repeated_name units) unknown) none in
    let named = neither (repeated_name units) unknown behind.1 in
    let small = neither (unknown_name units) (too_large units) named.1 in
    joined_kept (all_decls units) (all_procs units)
    (joinable (all_decls units) (all_procs units) (units_decls units all) (units_procs units all) small.1)

pub kept_units_keep : (units : List UnitRead) → list_all (λ unit. keeps_unit_rules unit.procs unit.decls) units ≡ true
    → first_fault units ≡ None → keeps_rules (joined_code units) ≡ true
kept_units_keep units kept none =
    units_keep units (all_then (λ (unit : UnitRead). keeps_unit_rules unit.procs unit.decls) is_joinable unit_joinable units kept) none
