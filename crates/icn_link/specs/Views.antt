-- How contracts see what the linker keeps.
use Rattle.std.specs.Prelude.{◌≡◌, ◌≤◌, ◌+◌, ℕ, true, List, [], ◌∷◌, length, map, nat_eq, Option, None}
use Rattle.std.specs.Borrow.{Bor}
use Rattle.std.specs.List.{list_all, sum_by}
use Rattle.std.specs.Option.{unwrap_or}
use Rattle.indexmap.specs.IndexMap.{IndexMap, get, get_by}
use Rattle.std.specs.Str.{bytes_eq}
use Rattle.icn_profile.specs.Numbers.{most_entries, most_fields, most_instructions, most_statics, most_variables}
use Rattle.icn_unit.specs.declared.unit.ProcCode.{ProcCode}
use Rattle.icn_unit.specs.declared.unit.UnitDecl.{UnitDecl}
use Rattle.icn_unit.specs.declared.unit.UnitInstr.{UnitInstr}
use Rattle.icn_unit.specs.PlainUnits.{PlainProc, PlainDecl}
use Rattle.icn_unit.specs.UnitViews.{decl_seen, proc_seen}
use Rattle.icn_link.specs.declared.gathered.GatheredMentions.{GatheredMentions}
use Rattle.icn_link.specs.declared.labels.LabelAddresses.{LabelAddresses}
use Rattle.icn_link.specs.declared.mention.Mention.{Mention as KeptMention}
use Rattle.icn_link.specs.declared.mention.Mention.TheVariants as Kept
use Rattle.icn_link.specs.declared.repeats.Owner.{Owner as KeptOwner}
use Rattle.icn_link.specs.JoinableUnits.{is_joinable_decl, is_joinable_proc}
use Rattle.icn_link.specs.LinkFaults.{all_statics, kind_counts, Owner, over, size_of, table_sizes, record_sizes, local_counts, static_counts}
use Rattle.icn_link.specs.Resolving.{label_address}
use Rattle.icn_link.specs.Mentions.{AllMentions, all_mentions, globals, Mention, NoMention, AnInteger, AText, ASet, AField, Operands}

-- the declarations that are kept, as plain lists
abbrev pub decls_seen : List (Bor UnitDecl) → List PlainDecl
decls_seen decls = map (λ decl. decl_seen decl.now) decls

-- the procedures that are kept, as plain lists
abbrev pub procs_seen : List (Bor ProcCode) → List PlainProc
procs_seen procs = map (λ proc. proc_seen proc.now) procs

-- the texts that are kept
abbrev pub texts_seen : List (Bor (List ℕ)) → List (List ℕ)
texts_seen texts = map (λ text. text.now) texts

-- a mention that is kept, as definitions see it
abbrev pub mention_seen : KeptMention → Mention
mention_seen Kept.Nothing = NoMention
mention_seen (Kept.Integer n) = AnInteger n
mention_seen (Kept.Text bytes) = AText bytes.now
mention_seen (Kept.Set members) = ASet members.now
mention_seen (Kept.Field name) = AField name.now
mention_seen (Kept.Operands count) = Operands count

-- a procedure or a record that is kept, with the place of its declaration
abbrev pub owner_seen : KeptOwner → Owner
owner_seen owner = record { name = owner.name.now; place = owner.place }

-- the tables that are gathered, as plain lists
abbrev pub gathered_seen : GatheredMentions → AllMentions
gathered_seen tables = record {
  strings = texts_seen tables.strings.keys;
  sets = texts_seen tables.sets.keys;
  integers = tables.integers.keys;
  fields = texts_seen tables.fields.keys;
  declared = texts_seen tables.declared.keys;
  globals = texts_seen tables.globals.keys;
}

-- what a map has for each name
abbrev pub entry_in : {X S : Type 0} → IndexMap (Bor (List ℕ)) X S → List ℕ → Option X
entry_in map name = get_by (λ key. bytes_eq name key.now) map

-- the address of a label
abbrev pub address_in : LabelAddresses → ℕ → ℕ
address_in labels label = unwrap_or (get nat_eq labels.addresses label) labels.end

-- the same, where these instructions are still to come
abbrev pub address_from : LabelAddresses → ℕ → List UnitInstr → ℕ
address_from labels label rest =
    unwrap_or (get nat_eq labels.addresses label) (labels.end + label_address label rest)

-- Each place in a table has 32 bits.
pub record AreFew (tables : AllMentions) : Type 0 where
  pub strings : length tables.strings ≤ most_entries
  pub sets : length tables.sets ≤ most_entries
  pub integers : length tables.integers ≤ most_entries
  pub fields : length tables.fields ≤ most_entries
  pub globals : length tables.globals ≤ most_entries

-- Declarations and procedures of units that can be joined, and that are not too large but for the bytes of the image.
pub record Joinable (decls : List PlainDecl) (procs : List PlainProc) : Type 0 where
  pub joinable_decls : list_all is_joinable_decl decls ≡ true
  pub joinable_procs : list_all is_joinable_proc procs ≡ true
  pub instrs : over most_instructions (sum_by size_of procs ∷ []) ≡ None
  pub tables : over most_entries (table_sizes (all_mentions decls procs) decls procs) ≡ None
  pub together : over most_statics (all_statics (globals decls procs) procs ∷ []) ≡ None
  pub kinds : over most_fields (kind_counts (all_mentions decls procs) decls) ≡ None
  pub records : over most_fields (record_sizes decls) ≡ None
  pub locals : over most_variables (local_counts (globals decls procs) procs) ≡ None
  pub statics : over most_variables (static_counts (globals decls procs) procs) ≡ None
