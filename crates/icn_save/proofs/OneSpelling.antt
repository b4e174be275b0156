-- The whole save: what is read is spelled so and keeps the format, and what keeps it is read again.
use Rattle.std.proofs.Common.{◌≡◌, ℕ, zero, suc, ◌^◌, ◌<◌, ◌≤◌, Bool, true, false, cond, eqb, ◌&&◌, List, [], ◌∷◌, ◌++◌, length, take, drop, Ok, Err, refl, sym, ap, subst, ◌∙◌, arith, inl, inr}
use Rattle.std.specs.Prelude.{All, nat_eq, nat_le}
use Rattle.std.specs.List.{list_all, starts_with}
use Rattle.std.specs.Str.{is_utf8}
use Rattle.std.proofs.lemmas.Bool.{cases_lt, and_parts, and_from, eqb-true, leb-true, lt-ltb}
use Rattle.std.proofs.lemmas.List.{append-nil, nil_from_length, take-append-drop, get_or_past}
use Rattle.std.proofs.lemmas.Slice.Eq.{bytes_eq-Decides}
use Rattle.icn_tree.specs.declared.rule.Rule.TheVariants.{G1, G3, G4}
use Rattle.icn_profile.specs.Numbers.{most_cells, most_levels, most_strings}
use Rattle.icn_save.specs.FileCalls.{FileCall, FoundFile, NoSuchFile, WroteFile}
use Rattle.icn_value.specs.Limited.{Bounds}
use Rattle.icn_save.specs.Readers.{◌>>=◌}
use Rattle.icn_save.specs.Reading.{SaveFields, behind_head, fields_at, fields_hold, has_text_name, is_short_call, judged, run_of, save_read}
use Rattle.icn_save.specs.Saves.{SavedRun, are_in_range, call_fits, is_number, is_short, is_text, keeps_format}
use Rattle.icn_save.specs.Spelling.{flag, save_bytes, save_head}
use Rattle.icn_save.proofs.SpelledFields.{IsBytes, bind_parts, done, done_injective, passed_parts}
use Rattle.icn_save.proofs.WholeSave.{FieldsFit, bounds_fit, fields_again, fields_take, spelled}

-- ---- texts

texts_join : (xs : List (List ℕ)) → list_all is_short xs ≡ true → list_all is_utf8 xs ≡ true → list_all is_text xs ≡ true
texts_join [] short utf8 = refl
texts_join (x ∷ xs) short utf8 =
    let p = and_parts (is_short x) (list_all is_short xs) short in
    let q = and_parts (is_utf8 x) (list_all is_utf8 xs) utf8 in
    and_from (is_text x) (list_all is_text xs) (and_from (is_short x) (is_utf8 x) p.0 q.0) (texts_join xs p.1 q.1)

texts_short : (xs : List (List ℕ)) → list_all is_text xs ≡ true → list_all is_short xs ≡ true
texts_short [] all = refl
texts_short (x ∷ xs) all =
    let p = and_parts (is_text x) (list_all is_text xs) all in
    and_from (is_short x) (list_all is_short xs) (and_parts (is_short x) (is_utf8 x) p.0).0 (texts_short xs p.1)

texts_utf8 : (xs : List (List ℕ)) → list_all is_text xs ≡ true → list_all is_utf8 xs ≡ true
texts_utf8 [] all = refl
texts_utf8 (x ∷ xs) all =
    let p = and_parts (is_text x) (list_all is_text xs) all in
    and_from (is_utf8 x) (list_all is_utf8 xs) (and_parts (is_short x) (is_utf8 x) p.0).1 (texts_utf8 xs p.1)

-- ---- calls

call_join : (c : FileCall) → is_short_call c ≡ true → has_text_name c ≡ true → call_fits c ≡ true
call_join (FoundFile name bytes) short named =
    let p = and_parts (is_short name) (is_short bytes) short in
    and_from (is_text name) (is_short bytes) (and_from (is_short name) (is_utf8 name) p.0 named) p.1
call_join (NoSuchFile name) short named = and_from (is_short name) (is_utf8 name) short named
call_join (WroteFile name bytes) short named =
    let p = and_parts (is_short name) (is_short bytes) short in
    and_from (is_text name) (is_short bytes) (and_from (is_short name) (is_utf8 name) p.0 named) p.1

call_short : (c : FileCall) → call_fits c ≡ true → is_short_call c ≡ true
call_short (FoundFile name bytes) fits =
    let p = and_parts (is_text name) (is_short bytes) fits in
    and_from (is_short name) (is_short bytes) (and_parts (is_short name) (is_utf8 name) p.0).0 p.1
call_short (NoSuchFile name) fits = (and_parts (is_short name) (is_utf8 name) fits).0
call_short (WroteFile name bytes) fits =
    let p = and_parts (is_text name) (is_short bytes) fits in
    and_from (is_short name) (is_short bytes) (and_parts (is_short name) (is_utf8 name) p.0).0 p.1

call_named : (c : FileCall) → call_fits c ≡ true → has_text_name c ≡ true
call_named (FoundFile name bytes) fits =
    let p = and_parts (is_text name) (is_short bytes) fits in (and_parts (is_short name) (is_utf8 name) p.0).1
call_named (NoSuchFile name) fits = (and_parts (is_short name) (is_utf8 name) fits).1
call_named (WroteFile name bytes) fits =
    let p = and_parts (is_text name) (is_short bytes) fits in (and_parts (is_short name) (is_utf8 name) p.0).1

calls_join : (cs : List FileCall) → list_all is_short_call cs ≡ true → list_all has_text_name cs ≡ true → list_all call_fits cs ≡ true
calls_join [] short named = refl
calls_join (c ∷ cs) short named =
    let p = and_parts (is_short_call c) (list_all is_short_call cs) short in
    let q = and_parts (has_text_name c) (list_all has_text_name cs) named in
    and_from (call_fits c) (list_all call_fits cs) (call_join c p.0 q.0) (calls_join cs p.1 q.1)

calls_short : (cs : List FileCall) → list_all call_fits cs ≡ true → list_all is_short_call cs ≡ true
calls_short [] all = refl
calls_short (c ∷ cs) all =
    let p = and_parts (call_fits c) (list_all call_fits cs) all in
    and_from (is_short_call c) (list_all is_short_call cs) (call_short c p.0) (calls_short cs p.1)

calls_named : (cs : List FileCall) → list_all call_fits cs ≡ true → list_all has_text_name cs ≡ true
calls_named [] all = refl
calls_named (c ∷ cs) all =
    let p = and_parts (call_fits c) (list_all call_fits cs) all in
    and_from (has_text_name c) (list_all has_text_name cs) (call_named c p.0) (calls_named cs p.1)

-- ---- fields that hold, and what keeps the format

flag_back : (n : ℕ) → nat_le n 1 ≡ true → flag (eqb n 1) ≡ n
flag_back zero e = refl
flag_back (suc zero) e = refl
flag_back (suc (suc n)) e = let small : suc (suc n) ≤ 1 = leb-true _ _ e in absurd (omega arith)

flag_small : (ended : Bool) → nat_le (flag ended) 1 ≡ true
flag_small true = refl
flag_small false = refl

flag_again : (ended : Bool) → eqb (flag ended) 1 ≡ ended
flag_again true = refl
flag_again false = refl

-- the fields of a save
abbrev pub fields_of : SavedRun → SaveFields
fields_of saved = record {
  bounds = saved.bounds;
  words = saved.words;
  image = saved.image;
  input = saved.input;
  flag = flag saved.ended;
  output = saved.output;
  errors = saved.errors;
  calls = saved.calls;
}

-- what the format asks of a run, one by one
pub record Keeps (saved : SavedRun) : Type 0 where
  pub turns : is_number saved.bounds.turns ≡ true
  pub range : are_in_range saved.bounds ≡ true
  pub words : is_short saved.words ≡ true
  pub texts : list_all is_text saved.words ≡ true
  pub image : is_short saved.image ≡ true
  pub input : is_number (length saved.input) ≡ true
  pub output : is_number saved.output ≡ true
  pub errors : is_number saved.errors ≡ true
  pub calls : is_short saved.calls ≡ true
  pub fits : list_all call_fits saved.calls ≡ true

pub keeps_parts : (saved : SavedRun) → keeps_format saved ≡ true → Keeps saved
keeps_parts saved e =
    let i = is_short saved.calls && list_all call_fits saved.calls in
    let h = is_number saved.errors && i in
    let g = is_number saved.output && h in
    let f = is_number (length saved.input) && g in
    let d = is_short saved.image && f in
    let c = list_all is_text saved.words && d in
    let b = is_short saved.words && c in
    let a = are_in_range saved.bounds && b in
    let pa = and_parts (is_number saved.bounds.turns) a e in
    let pb = and_parts (are_in_range saved.bounds) b pa.1 in
    let pc = and_parts (is_short saved.words) c pb.1 in
    let pd = and_parts (list_all is_text saved.words) d pc.1 in
    let pf = and_parts (is_short saved.image) f pd.1 in
    let pg = and_parts (is_number (length saved.input)) g pf.1 in
    let ph = and_parts (is_number saved.output) h pg.1 in
    let pi = and_parts (is_number saved.errors) i ph.1 in
    let pj = and_parts (is_short saved.calls) (list_all call_fits saved.calls) pi.1 in
    record {
      turns = pa.0;
      range = pb.0;
      words = pc.0;
      texts = pd.0;
      image = pf.0;
      input = pg.0;
      output = ph.0;
      errors = pi.0;
      calls = pj.0;
      fits = pj.1;
    }

pub parts_keep : (saved : SavedRun) → Keeps saved → keeps_format saved ≡ true
parts_keep saved k =
    let i = is_short saved.calls && list_all call_fits saved.calls in
    let h = is_number saved.errors && i in
    let g = is_number saved.output && h in
    let f = is_number (length saved.input) && g in
    let d = is_short saved.image && f in
    let c = list_all is_text saved.words && d in
    let b = is_short saved.words && c in
    let a = are_in_range saved.bounds && b in
    and_from (is_number saved.bounds.turns) a k.turns (and_from (are_in_range saved.bounds) b k.range
    (and_from (is_short saved.words) c k.words (and_from (list_all is_text saved.words) d k.texts
    (and_from (is_short saved.image) f k.image (and_from (is_number (length saved.input)) g k.input
    (and_from (is_number saved.output) h k.output (and_from (is_number saved.errors) i k.errors
    (and_from (is_short saved.calls) (list_all call_fits saved.calls) k.calls k.fits))))))))

pub kept_by_parts : (fields : SaveFields) → is_number fields.bounds.turns ≡ true → is_short fields.words ≡ true → list_all is_short fields.words ≡ true
    → is_short fields.image ≡ true → is_number (length fields.input) ≡ true → is_number fields.output ≡ true → is_number fields.errors ≡ true
    → is_short fields.calls ≡ true → list_all is_short_call fields.calls ≡ true → fields_hold fields ≡ true → keeps_format (run_of fields) ≡ true
kept_by_parts fields turns words short image input output errors calls fit hold =
    let b = fields.bounds in
    let p = and_parts (nat_le fields.flag 1) (are_in_range b && (list_all is_utf8 fields.words && list_all has_text_name fields.calls)) hold in
    let q = and_parts (are_in_range b) (list_all is_utf8 fields.words && list_all has_text_name fields.calls) p.1 in
    let r = and_parts (list_all is_utf8 fields.words) (list_all has_text_name fields.calls) q.1 in
    parts_keep (run_of fields) (record {
      turns = turns;
      range = q.0;
      words = words;
      texts = texts_join fields.words short r.0;
      image = image;
      input = input;
      output = output;
      errors = errors;
      calls = calls;
      fits = calls_join fields.calls fit r.1;
    })

kept : (fields : SaveFields) → FieldsFit fields → fields_hold fields ≡ true → keeps_format (run_of fields) ≡ true
kept fields fit hold =
    let b = fields.bounds in
    let turns = (and_parts (is_number b.turns) (is_number b.strings && (is_number b.cells && is_number b.levels)) fit.bounds).0 in
    let words = and_parts (is_short fields.words) (list_all is_short fields.words) fit.words in
    let calls = and_parts (is_short fields.calls) (list_all is_short_call fields.calls) fit.calls in
    kept_by_parts fields turns words.0 words.1 fit.image fit.input fit.output fit.errors calls.0 calls.1 hold

within : (n most : ℕ) → most < 2 ^ 64 → nat_le n most ≡ true → is_number n ≡ true
within n most small le = lt-ltb _ _ (omega (arith, leb-true _ _ le, small))

bounds_kept : (bounds : Bounds) → is_number bounds.turns ≡ true → are_in_range bounds ≡ true → bounds_fit bounds ≡ true
bounds_kept bounds turns range =
    let p = and_parts (nat_le bounds.strings most_strings) (nat_le bounds.cells most_cells && (nat_le 1 bounds.levels && nat_le bounds.levels most_levels)) range in
    let q = and_parts (nat_le bounds.cells most_cells) (nat_le 1 bounds.levels && nat_le bounds.levels most_levels) p.1 in
    let r = and_parts (nat_le 1 bounds.levels) (nat_le bounds.levels most_levels) q.1 in
    and_from (is_number bounds.turns) (is_number bounds.strings && (is_number bounds.cells && is_number bounds.levels)) turns
    (and_from (is_number bounds.strings) (is_number bounds.cells && is_number bounds.levels) (within bounds.strings most_strings (omega arith) p.0)
    (and_from (is_number bounds.cells) (is_number bounds.levels) (within bounds.cells most_cells (omega arith) q.0)
    (within bounds.levels most_levels (omega arith) r.1)))

fields_fitting : (saved : SavedRun) → Keeps saved → FieldsFit (fields_of saved)
fields_fitting saved k = record {
  bounds = bounds_kept saved.bounds k.turns k.range;
  words = and_from (is_short saved.words) (list_all is_short saved.words) k.words (texts_short saved.words k.texts);
  image = k.image;
  input = k.input;
  output = k.output;
  errors = k.errors;
  calls = and_from (is_short saved.calls) (list_all is_short_call saved.calls) k.calls (calls_short saved.calls k.fits);
}

fields_holding : (saved : SavedRun) → Keeps saved → fields_hold (fields_of saved) ≡ true
fields_holding saved k =
    let c = list_all is_utf8 saved.words && list_all has_text_name saved.calls in
    and_from (nat_le (flag saved.ended) 1) (are_in_range saved.bounds && c) (flag_small saved.ended)
    (and_from (are_in_range saved.bounds) c k.range
    (and_from (list_all is_utf8 saved.words) (list_all has_text_name saved.calls) (texts_utf8 saved.words k.texts) (calls_named saved.calls k.fits)))

run_again : (saved : SavedRun) → run_of (fields_of saved) ≡ saved
run_again saved = ap (λ (ended : Bool). record saved { ended = ended }) (flag_again saved.ended)

-- ---- the whole

head_is : (bytes : List ℕ) → starts_with nat_eq bytes save_head ≡ true → bytes ≡ save_head ++ drop 8 bytes
head_is bytes e =
    let same : save_head ≡ take 8 bytes = (bytes_eq-Decides save_head (take 8 bytes)).0 e in
    sym (take-append-drop 8 bytes) ∙ ap (λ (t : List ℕ). t ++ drop 8 bytes) (sym same)

IsBytes-from_all : (bytes : List ℕ) → All (λ byte. byte < 256) bytes → IsBytes bytes
IsBytes-from_all bytes all i =
    elim (cases_lt i (length bytes)) [
      | inl lt ↦ all i 0 lt
      | inr le ↦ rw (get_or_past bytes i 0 le) (omega arith)
    ]

IsBytes-behind : (front rest : List ℕ) → IsBytes (front ++ rest) → IsBytes rest
IsBytes-behind [] rest h = h
IsBytes-behind (b ∷ front) rest h = IsBytes-behind front rest (λ i. h (suc i))

-- the spelling of fields whose flag is one
spelled_again : (fields : SaveFields) → nat_le fields.flag 1 ≡ true → save_head ++ spelled fields ≡ save_bytes (run_of fields)
unfolding save_bytes
spelled_again fields small = ap (λ (n : ℕ). save_head ++ spelled (record fields { flag = n })) (sym (flag_back fields.flag small))

pub save_takes : (bytes : List ℕ) (saved : SavedRun) → IsBytes bytes → save_read bytes ≡ Ok saved → (keeps_format saved ≡ true) × (bytes ≡ save_bytes saved)
unfolding save_read
save_takes bytes saved fits e =
    let a = bind_parts (behind_head bytes) (λ rest. fields_at rest >>= λ fields. judged fields.0 >>= λ saved. cond (eqb (length fields.1) 0) (Ok saved) (Err G4)) saved e in
    let b = bind_parts (fields_at a.0) (λ fields. judged fields.0 >>= λ saved. cond (eqb (length fields.1) 0) (Ok saved) (Err G4)) saved a.2 in
    let c = bind_parts (judged b.0.0) (λ saved. cond (eqb (length b.0.1) 0) (Ok saved) (Err G4)) saved b.2 in
    let g = passed_parts (starts_with nat_eq bytes save_head) G1 (drop 8 bytes) a.0 a.1 in
    let h = passed_parts (fields_hold b.0.0) G3 (run_of b.0.0) c.0 c.1 in
    let i = passed_parts (eqb (length b.0.1) 0) G4 c.0 saved c.2 in
    let begun : bytes ≡ save_head ++ a.0 = head_is bytes g.0 ∙ ap (λ (t : List ℕ). save_head ++ t) g.1 in
    let t = fields_take a.0 b.0 (IsBytes-behind save_head a.0 (subst IsBytes begun fits)) b.1 in
    let nothing : b.0.1 ≡ [] = nil_from_length b.0.1 (eqb-true _ _ i.0) in
    let whole : a.0 ≡ spelled b.0.0 = t.0.parts ∙ (ap (λ (r : List ℕ). spelled b.0.0 ++ r) nothing ∙ append-nil (spelled b.0.0)) in
    let small = (and_parts (nat_le b.0.0.flag 1) (are_in_range b.0.0.bounds && (list_all is_utf8 b.0.0.words && list_all has_text_name b.0.0.calls)) h.0).0 in
    subst (λ (y : SavedRun). (keeps_format y ≡ true) × (bytes ≡ save_bytes y)) (h.1 ∙ i.1)
    (kept b.0.0 t.1 h.0, begun ∙ (ap (λ (r : List ℕ). save_head ++ r) whole ∙ spelled_again b.0.0 small))

pub save_again : (saved : SavedRun) → keeps_format saved ≡ true → save_read (save_bytes saved) ≡ Ok saved
unfolding save_read save_bytes
save_again saved keeps =
    let k = keeps_parts saved keeps in
    let fields : SaveFields = fields_of saved in
    let read : fields_at (spelled fields) ≡ Ok (fields, []) = ap fields_at (sym (append-nil (spelled fields))) ∙ fields_again fields [] (fields_fitting saved k) in
    ap (λ s. s >>= λ x. judged x.0 >>= λ saved. cond (eqb (length x.1) 0) (Ok saved) (Err G4)) read
    ∙ (ap (λ (b : Bool). cond b (Ok (run_of fields)) (Err G3) >>= λ saved. cond true (Ok saved) (Err G4)) (fields_holding saved k)
    ∙ ap (λ (y : SavedRun). done y) (run_again saved))

-- two with one spelling are equal
pub one_save : (a b : SavedRun) → keeps_format a ≡ true → keeps_format b ≡ true → save_bytes a ≡ save_bytes b → a ≡ b
one_save a b keeps_a keeps_b same = done_injective a b (sym (save_again a keeps_a) ∙ (ap save_read same ∙ save_again b keeps_b))

pub kept_all : (bytes : List ℕ) (saved : SavedRun) → All (λ byte. byte < 256) bytes → save_read bytes ≡ Ok saved → keeps_format saved ≡ true
kept_all bytes saved all e = (save_takes bytes saved (IsBytes-from_all bytes all) e).0

pub spelled_all : (bytes : List ℕ) (saved : SavedRun) → All (λ byte. byte < 256) bytes → save_read bytes ≡ Ok saved → bytes ≡ save_bytes saved
spelled_all bytes saved all e = (save_takes bytes saved (IsBytes-from_all bytes all) e).1
