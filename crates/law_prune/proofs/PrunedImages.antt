-- The image of the pruned code is no longer than that of the whole code.
use Rattle.std.proofs.Common.{◌≡◌, ℕ, zero, suc, ◌+◌, ◌*◌, ◌<◌, ◌≤◌, Bool, true, false, ◌||◌, List, [], ◌∷◌, ◌++◌, length, map, if◌then◌else◌, refl, sym, ap, ◌∙◌, subst, arith, get_or}
use Rattle.std.specs.Prelude.{◌==◌, pos, slice_index_or, slice_set}
use Rattle.std.specs.List.{list_any, sum_by}
use Rattle.std.proofs.lemmas.Bool.{eq-eqb, true≢false}
use Rattle.std.proofs.lemmas.List.{get_or-set_other, length-map, length-set}
use Rattle.std.proofs.lemmas.List.Folds.{list_any-append}
use Rattle.std.proofs.lemmas.List.Sums.{sum_by-append, sum_by-cons, sum_by-set}
use Rattle.icn_code.specs.declared.instr.Instr.{Instr}
use Rattle.icn_code.specs.declared.instr.Instr.TheVariants as I
use Rattle.icn_code.specs.Codes.{Proc, RecordType, Tables}
use Rattle.icn_code.specs.Rules.{keeps_rules}
use Rattle.icn_image.specs.Spelling.{image_of}
use Rattle.icn_link.specs.ImageSizes.{bodies_size, body_size, instr_size, records_size, strings_size}
use Rattle.icn_link.proofs.ImageLengths.{image_length}
use Rattle.icn_prune.specs.KeptCode.{MayBeKept}
use Rattle.icn_prune.specs.PrunedCode.{Survivors, cset_in, global_at, global_left, instr_left, integer_in, kept_procs, new_place, no_cset, proc_left, pruned_tables, record_left, survivors, taken_by, with_place, with_places}
use Rattle.icn_prune.proofs.LeastSets.{Each}
use Rattle.icn_prune.proofs.PlacedEntries.{few_left}
use Rattle.icn_prune.proofs.PrunedRules as P
use Rattle.icn_prune.proofs.KeptEntries.{csets_there, integers_there}
use Rattle.icn_prune.proofs.TableRules.{AreRuled, each_rule}

-- What places weigh that each stand once

-- the weights of the places that are not there yet
record Weighs (ws table : List ℕ) : Type 0 where
  rest : List ℕ
  size : length rest ≡ length ws
  same : (p : ℕ) → list_any (λ other. other == p) table ≡ false → get_or rest p 0 ≡ get_or ws p 0
  total : sum_by (λ p. get_or ws p 0) table + sum_by (λ n. n) rest ≡ sum_by (λ n. n) ws

neither : (a b : Bool) → (a || b) ≡ false → (a ≡ false) × (b ≡ false)
neither true b e = absurd (true≢false e)
neither false b e = (refl, e)

-- what differs from a place that is no number
differs : (m p : ℕ) → (m == p) ≡ false → p ≡ m → ⊥
differs m p e same = true≢false (sym (eq-eqb m p (sym same)) ∙ e)

one_weighs : (ws table : List ℕ) (m : ℕ) → m < length ws → Weighs ws table → Weighs ws (with_place table m)
one_weighs ws table m l w = by (list_any (λ other. other == m) table) refl
  where
    more : list_any (λ other. other == m) table ≡ false → Weighs ws (table ++ m ∷ [])
    more e = record {
      rest = slice_set w.rest m 0;
      size = length-set w.rest m 0 ∙ w.size;
      same = λ p none.
          let parts = neither (list_any (λ other. other == p) table) _ (sym (list_any-append (λ other. other == p) table (m ∷ [])) ∙ none) in
          let apart = neither (m == p) false parts.1 in
          get_or-set_other w.rest m p 0 0 (differs m p apart.0) ∙ w.same p parts.0;
      total =
          let size = w.size in
          let taken = sum_by-set (λ n. n) w.rest m 0 0 (omega (arith, l, size)) in
          let weight = w.same m e in
          let longer = sum_by-append (λ p. get_or ws p 0) table (m ∷ []) in
          let one = sum_by-cons (λ p. get_or ws p 0) m [] in
          let none : sum_by (λ p. get_or ws p 0) [] ≡ 0 = refl in
          let all = w.total in
          omega (arith, taken, weight, longer, one, none, all);
    }

    by : (held : Bool) → list_any (λ other. other == m) table ≡ held → Weighs ws (if held then table else table ++ m ∷ [])
    by true e = w
    by false e = more e

all_weigh : (ws ms table : List ℕ) → Each (λ p. p < length ws) ms → Weighs ws table → Weighs ws (with_places table ms)
all_weigh ws [] table e w = w
all_weigh ws (m ∷ ms) table e w = all_weigh ws ms (with_place table m) e.1 (one_weighs ws table m e.0 w)

none_weighs : (ws : List ℕ) → Weighs ws []
none_weighs ws = record {
  rest = ws;
  size = refl;
  same = λ p none. refl;
  total = let none : sum_by (λ p. get_or ws p 0) [] ≡ 0 = refl in omega (arith, none);
}

-- together they weigh no more than all
weighs_less : (ws ms : List ℕ) → Each (λ p. p < length ws) ms → sum_by (λ p. get_or ws p 0) (with_places [] ms) ≤ sum_by (λ n. n) ws
weighs_less ws ms e = let all = (all_weigh ws ms [] e (none_weighs ws)).total in omega (arith, all)

-- Strings

abbrev string_size : List ℕ → ℕ
string_size string = length string + 4

size_at : (strings : List (List ℕ)) (p : ℕ) → p < length strings → string_size (get_or strings p []) ≡ get_or (map string_size strings) p 0
size_at [] p l = absurd (omega (arith, l))
size_at (s ∷ strings) zero l = refl
size_at (s ∷ strings) (suc p) l = size_at strings p (omega (arith, l))

sizes_at : (strings : List (List ℕ)) (left : List ℕ) → Each (λ p. p < length strings) left
    → sum_by string_size (map (λ p. slice_index_or strings p []) left) ≡ sum_by (λ p. get_or (map string_size strings) p 0) left
sizes_at strings [] e = refl
sizes_at strings (p ∷ left) e =
    sum_by-cons string_size (get_or strings p []) (map (λ q. slice_index_or strings q []) left)
    ∙ ap (λ n. n + sum_by string_size (map (λ q. slice_index_or strings q []) left)) (size_at strings p e.0)
    ∙ ap (λ n. get_or (map string_size strings) p 0 + n) (sizes_at strings left e.1)
    ∙ sym (sum_by-cons (λ q. get_or (map string_size strings) q 0) p left)

sizes_together : (strings : List (List ℕ)) → sum_by (λ n. n) (map string_size strings) ≡ sum_by string_size strings
sizes_together [] = refl
sizes_together (s ∷ strings) =
    sum_by-cons (λ n. n) (string_size s) (map string_size strings) ∙ ap (λ n. string_size s + n) (sizes_together strings)
    ∙ sym (sum_by-cons string_size s strings)

-- Instructions

same_size : (S : Survivors) (i : Instr) → instr_size (instr_left S i) ≡ instr_size i
same_size S (I.Int place) = refl
same_size S i = refl

same_body : (S : Survivors) (is : List Instr) → body_size (map (instr_left S) is) ≡ body_size is
same_body S [] = refl
same_body S (i ∷ is) =
    sum_by-cons instr_size (instr_left S i) (map (instr_left S) is) ∙ ap (λ n. n + body_size (map (instr_left S) is)) (same_size S i)
    ∙ ap (λ n. instr_size i + n) (same_body S is) ∙ sym (sum_by-cons instr_size i is)

fewer_bodies : (S : Survivors) (keep : List Bool) (ps : List Proc) → bodies_size (map (proc_left S) (kept_procs keep ps)) ≤ bodies_size ps
fewer_bodies S [] ps = omega arith
fewer_bodies S (true ∷ keep) [] = omega arith
fewer_bodies S (false ∷ keep) [] = omega arith
fewer_bodies S (true ∷ keep) (p ∷ ps) =
    let le = fewer_bodies S keep ps in
    let one = sum_by-cons (λ (q : Proc). body_size q.instrs) (proc_left S p) (map (proc_left S) (kept_procs keep ps)) in
    let all = sum_by-cons (λ (q : Proc). body_size q.instrs) p ps in
    let same = same_body S p.instrs in
    omega (arith, le, one, all, same)
fewer_bodies S (false ∷ keep) (p ∷ ps) =
    let le = fewer_bodies S keep ps in let all = sum_by-cons (λ (q : Proc). body_size q.instrs) p ps in omega (arith, le, all)

same_records : (S : Survivors) (ks : List RecordType) → records_size (map (record_left S) ks) ≡ records_size ks
same_records S [] = refl
same_records S (k ∷ ks) =
    let one = sum_by-cons (λ (kind : RecordType). length kind.fields * 4 + 8) (record_left S k) (map (record_left S) ks) in
    let all = sum_by-cons (λ (kind : RecordType). length kind.fields * 4 + 8) k ks in
    let same = length-map k.fields (new_place S.fields) in
    let rest = same_records S ks in
    omega (arith, one, all, same, rest)

-- The image

module _ (T : Tables) (keep : List Bool) (h : keeps_rules T ≡ true) (k : MayBeKept T keep) (again : keeps_rules (pruned_tables keep T) ≡ true) where
  abbrev S : Survivors
  S = survivors T keep

  abbrev procs : List Proc
  procs = kept_procs keep T.procs

  r : AreRuled T
  r = each_rule T h

  fewer_strings : strings_size (pruned_tables keep T).strings ≤ strings_size T.strings
  fewer_strings =
      let there = P.string_mentions_there T keep r k in
      let same = length-map T.strings string_size in
      let less = weighs_less (map string_size T.strings) (P.string_mentions T keep r k)
      (subst (λ n. Each (λ p. p < n) (P.string_mentions T keep r k)) (sym same) there) in
      let left = sizes_at T.strings S.strings (P.strings_within T keep r k) in
      let all = sizes_together T.strings in
      omega (arith, less, left, all)

  pub shorter : length (image_of (pruned_tables keep T)) ≤ length (image_of T)
  shorter =
      let whole = image_length T h in
      let left = image_length (pruned_tables keep T) again in
      let strings = fewer_strings in
      let csets : length (pruned_tables keep T).csets ≤ length T.csets = P.mapped_few (λ place. slice_index_or T.csets place no_cset) S.csets (length T.csets)
      (few_left (length T.csets) (taken_by cset_in procs) (P.csets_few T keep r k) (csets_there T procs (P.ruled T keep r k))) in
      let integers : length (pruned_tables keep T).integers ≤ length T.integers =
      P.mapped_few (λ place. slice_index_or T.integers place (pos 0)) S.integers (length T.integers)
      (few_left (length T.integers) (taken_by integer_in procs) (P.integers_few T keep r k) (integers_there T procs (P.ruled T keep r k))) in
      let fields : length (pruned_tables keep T).fields ≤ length T.fields =
      P.mapped_few (λ place. new_place S.strings (slice_index_or T.fields place 0)) S.fields (length T.fields)
      (few_left (length T.fields) (P.field_mentions T keep r k) (P.fields_few T keep r k) (P.field_mentions_there T keep r k)) in
      let globals : length (pruned_tables keep T).globals ≤ length T.globals =
      P.mapped_few (λ place. global_left S (global_at T place)) S.globals (length T.globals)
      (subst (λ l. length l ≤ length T.globals) (P.globals_once T keep r k)
      (few_left (length T.globals) S.globals (P.globals_few T keep r k) (P.staying_within T keep r k))) in
      let records = same_records S T.records in
      let many : length (pruned_tables keep T).procs ≤ length T.procs = P.mapped_few (proc_left S) procs (length T.procs) (P.fewer_kept keep T.procs) in
      let bodies = fewer_bodies S keep T.procs in
      omega (arith, whole, left, strings, csets, integers, fields, globals, records, many, bodies)

pub no_longer : (T : Tables) (keep : List Bool) → keeps_rules T ≡ true → MayBeKept T keep → keeps_rules (pruned_tables keep T) ≡ true
    → length (image_of (pruned_tables keep T)) ≤ length (image_of T)
no_longer T keep h k again = shorter T keep h k again
