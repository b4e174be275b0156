-- The fields of a save one by one: what is read is spelled so, and what fits is read again.
use Rattle.std.proofs.Common.{◌≡◌, ℕ, ◌^◌, true, Bool, ◌&&◌, List, [], ◌∷◌, ◌++◌, length, Result, Ok, refl, ap, subst, ◌∙◌, append_assoc}
use Rattle.std.specs.Int.{w32, w64, to_le_bytes}
use Rattle.std.specs.List.{list_all}
use Rattle.std.proofs.lemmas.Bool.{and_parts, and_from}
use Rattle.icn_tree.specs.declared.rule.Rule.{Rule}
use Rattle.icn_save.specs.FileCalls.{FileCall}
use Rattle.icn_value.specs.Limited.{Bounds}
use Rattle.icn_save.specs.Readers.{◌>>=◌, byte_at, number_at, string_at, table_at}
use Rattle.icn_save.specs.Reading.{SaveFields, bounds_at, call_at, fields_at, fields_fit, is_short_call}
use Rattle.icn_save.specs.Saves.{is_number, is_short}
use Rattle.icn_save.specs.Spelling.{call, limit_numbers, string, table}
use Rattle.icn_save.proofs.SpelledFields.{IsBytes, IsBytes-rest, bind_parts, done_injective, Takes, takes_then, Reads, number_reads, string_reads, table_reads, wide32, wide64, all_keep}
use Rattle.icn_save.proofs.SpelledCalls.{call_reads}

numbers : Reads ℕ (number_at w64) (to_le_bytes w64) is_number
numbers = number_reads w64 (2 ^ 64) wide64

words_read : Reads (List (List ℕ)) (table_at (string_at w32)) (table (string w32)) (all_keep is_short)
words_read = table_reads (List ℕ) (string_at w32) (string w32) is_short (string_reads w32 (2 ^ 32) wide32)

images_read : Reads (List ℕ) (string_at w32) (string w32) is_short
images_read = string_reads w32 (2 ^ 32) wide32

inputs_read : Reads (List ℕ) (string_at w64) (string w64) (λ text. is_number (length text))
inputs_read = string_reads w64 (2 ^ 64) wide64

calls_read : Reads (List FileCall) (table_at call_at) (table call) (all_keep is_short_call)
calls_read = table_reads FileCall call_at call is_short_call call_reads

-- the numbers of limits have 64 bits
abbrev pub bounds_fit : Bounds → Bool
bounds_fit bounds = is_number bounds.turns && (is_number bounds.strings && (is_number bounds.cells && is_number bounds.levels))

bounds_take : (bytes : List ℕ) (x : Bounds × List ℕ) → IsBytes bytes → bounds_at bytes ≡ Ok x → Takes bytes (limit_numbers x.0) x.1 × (bounds_fit x.0 ≡ true)
unfolding bounds_at
bounds_take bytes x fits e =
    let a = bind_parts (number_at w64 bytes) (λ turns. number_at w64 turns.1 >>= λ strings. number_at w64 strings.1 >>= λ cells. number_at w64 cells.1
    >>= λ levels. Ok (record { turns = turns.0; strings = strings.0; cells = cells.0; levels = levels.0 }, levels.1)) x e in
    let b = bind_parts (number_at w64 a.0.1) (λ strings. number_at w64 strings.1 >>= λ cells. number_at w64 cells.1
    >>= λ levels. Ok (record { turns = a.0.0; strings = strings.0; cells = cells.0; levels = levels.0 }, levels.1)) x a.2 in
    let c = bind_parts (number_at w64 b.0.1) (λ cells. number_at w64 cells.1
    >>= λ levels. Ok (record { turns = a.0.0; strings = b.0.0; cells = cells.0; levels = levels.0 }, levels.1)) x b.2 in
    let d = bind_parts (number_at w64 c.0.1)
    (λ levels. Ok (record { turns = a.0.0; strings = b.0.0; cells = c.0.0; levels = levels.0 }, levels.1)) x c.2 in
    let ta = numbers.takes bytes a.0 fits a.1 in
    let tb = numbers.takes a.0.1 b.0 ta.0.rest_fits b.1 in
    let tc = numbers.takes b.0.1 c.0 tb.0.rest_fits c.1 in
    let td = numbers.takes c.0.1 d.0 tc.0.rest_fits d.1 in
    let cd = takes_then b.0.1 (to_le_bytes w64 c.0.0) c.0.1 (to_le_bytes w64 d.0.0) d.0.1 tc.0 td.0 in
    let bd = takes_then a.0.1 (to_le_bytes w64 b.0.0) b.0.1 (to_le_bytes w64 c.0.0 ++ to_le_bytes w64 d.0.0) d.0.1 tb.0 cd in
    let all = takes_then bytes (to_le_bytes w64 a.0.0) a.0.1 (to_le_bytes w64 b.0.0 ++ (to_le_bytes w64 c.0.0 ++ to_le_bytes w64 d.0.0)) d.0.1 ta.0 bd in
    subst (λ (y : Bounds × List ℕ). Takes bytes (limit_numbers y.0) y.1 × (bounds_fit y.0 ≡ true))
    (done_injective (record { turns = a.0.0; strings = b.0.0; cells = c.0.0; levels = d.0.0 }, d.0.1) x d.2) (
      all,
      and_from (is_number a.0.0) (is_number b.0.0 && (is_number c.0.0 && is_number d.0.0)) ta.1
          (and_from (is_number b.0.0) (is_number c.0.0 && is_number d.0.0) tb.1 (and_from (is_number c.0.0) (is_number d.0.0) tc.1 td.1)),
    )

bounds_again : (bounds : Bounds) (rest : List ℕ) → bounds_fit bounds ≡ true → bounds_at (limit_numbers bounds ++ rest) ≡ Ok (bounds, rest)
unfolding bounds_at
bounds_again bounds rest fit =
    let p = and_parts (is_number bounds.turns) (is_number bounds.strings && (is_number bounds.cells && is_number bounds.levels)) fit in
    let q = and_parts (is_number bounds.strings) (is_number bounds.cells && is_number bounds.levels) p.1 in
    let r = and_parts (is_number bounds.cells) (is_number bounds.levels) q.1 in
    let t : List ℕ = to_le_bytes w64 bounds.turns in
    let s : List ℕ = to_le_bytes w64 bounds.strings in
    let c : List ℕ = to_le_bytes w64 bounds.cells in
    let l : List ℕ = to_le_bytes w64 bounds.levels in
    let regrouped : (t ++ (s ++ (c ++ l))) ++ rest ≡ t ++ (s ++ (c ++ (l ++ rest))) =
    append_assoc t (s ++ (c ++ l)) rest ∙ ap (λ (u : List ℕ). t ++ u) (append_assoc s (c ++ l) rest ∙ ap (λ (u : List ℕ). s ++ u) (append_assoc c l rest)) in
    ap bounds_at regrouped
    ∙ rw (
      numbers.again bounds.turns (s ++ (c ++ (l ++ rest))) p.0,
      numbers.again bounds.strings (c ++ (l ++ rest)) q.0,
      numbers.again bounds.cells (l ++ rest) r.0,
      numbers.again bounds.levels rest r.1,
    ) refl

-- limits are read as they are spelled
pub bounds_read : Reads Bounds bounds_at limit_numbers bounds_fit
bounds_read = record { takes = bounds_take; again = bounds_again }

-- ---- all fields

byte_takes : (bytes : List ℕ) (x : ℕ × List ℕ) → IsBytes bytes → byte_at bytes ≡ Ok x → Takes bytes (x.0 ∷ []) x.1 × (true ≡ true)
byte_takes [] x fits e = absurd (cc e)
byte_takes (b ∷ bytes) x fits e =
    subst (λ (y : ℕ × List ℕ). Takes (b ∷ bytes) (y.0 ∷ []) y.1 × (true ≡ true)) (done_injective (b, bytes) x e)
    (record { parts = refl; rest_fits = IsBytes-rest b bytes fits }, refl)

bytes_read : Reads ℕ byte_at (λ b. b ∷ []) (λ b. true)
bytes_read = record { takes = byte_takes; again = λ b rest keeps. refl }

-- all fields behind the head
abbrev pub spelled : SaveFields → List ℕ
spelled fields = limit_numbers fields.bounds ++ (table (string w32) fields.words ++ (string w32 fields.image ++ (string w64 fields.input
    ++ (fields.flag ∷ (to_le_bytes w64 fields.output ++ (to_le_bytes w64 fields.errors ++ table call fields.calls))))))

-- each field has the numbers that spell it
pub record FieldsFit (fields : SaveFields) : Type 0 where
  pub bounds : bounds_fit fields.bounds ≡ true
  pub words : all_keep is_short fields.words ≡ true
  pub image : is_short fields.image ≡ true
  pub input : is_number (length fields.input) ≡ true
  pub output : is_number fields.output ≡ true
  pub errors : is_number fields.errors ≡ true
  pub calls : all_keep is_short_call fields.calls ≡ true

-- the last fields: both counts of bytes put, and the calls
abbrev last_at : (ℕ → ℕ → List FileCall → SaveFields) → List ℕ → Result (SaveFields × List ℕ) Rule
last_at make bytes =
    number_at w64 bytes >>= λ output. number_at w64 output.1 >>= λ errors. table_at call_at errors.1 >>= λ calls. Ok (make output.0 errors.0 calls.0, calls.1)

record LastTaken (make : ℕ → ℕ → List FileCall → SaveFields) (bytes : List ℕ) (x : SaveFields × List ℕ) : Type 0 where
  output : ℕ
  errors : ℕ
  calls : List FileCall
  is : make output errors calls ≡ x.0
  takes : Takes bytes (to_le_bytes w64 output ++ (to_le_bytes w64 errors ++ table call calls)) x.1
  output_fits : is_number output ≡ true
  errors_fit : is_number errors ≡ true
  calls_fit : all_keep is_short_call calls ≡ true

last_take : (make : ℕ → ℕ → List FileCall → SaveFields) (bytes : List ℕ) (x : SaveFields × List ℕ) → IsBytes bytes → last_at make bytes ≡ Ok x
    → LastTaken make bytes x
last_take make bytes x fits e =
    let g = bind_parts (number_at w64 bytes) (λ output. number_at w64 output.1 >>= λ errors. table_at call_at errors.1 >>= λ calls.
    Ok (make output.0 errors.0 calls.0, calls.1)) x e in
    let h = bind_parts (number_at w64 g.0.1) (λ errors. table_at call_at errors.1 >>= λ calls. Ok (make g.0.0 errors.0 calls.0, calls.1)) x g.2 in
    let i = bind_parts (table_at call_at h.0.1) (λ calls. Ok (make g.0.0 h.0.0 calls.0, calls.1)) x h.2 in
    let tg = numbers.takes bytes g.0 fits g.1 in
    let th = numbers.takes g.0.1 h.0 tg.0.rest_fits h.1 in
    let ti = calls_read.takes h.0.1 i.0 th.0.rest_fits i.1 in
    let done : (make g.0.0 h.0.0 i.0.0, i.0.1) ≡ x = done_injective (make g.0.0 h.0.0 i.0.0, i.0.1) x i.2 in
    let calls = takes_then g.0.1 (to_le_bytes w64 h.0.0) h.0.1 (table call i.0.0) i.0.1 th.0 ti.0 in
    let all = takes_then bytes (to_le_bytes w64 g.0.0) g.0.1 (to_le_bytes w64 h.0.0 ++ table call i.0.0) i.0.1 tg.0 calls in
    record {
      output = g.0.0;
      errors = h.0.0;
      calls = i.0.0;
      is = ap (λ (y : SaveFields × List ℕ). y.0) done;
      takes = subst (λ (l : List ℕ). Takes bytes (to_le_bytes w64 g.0.0 ++ (to_le_bytes w64 h.0.0 ++ table call i.0.0)) l)
          (ap (λ (y : SaveFields × List ℕ). y.1) done) all;
      output_fits = tg.1;
      errors_fit = th.1;
      calls_fit = ti.1;
    }

-- the fields in front of them: the image, the input and the flag
abbrev middle_at : (List ℕ → List ℕ → ℕ → ℕ → ℕ → List FileCall → SaveFields) → List ℕ → Result (SaveFields × List ℕ) Rule
middle_at make bytes =
    string_at w32 bytes >>= λ image. string_at w64 image.1 >>= λ input. byte_at input.1 >>= λ flag. last_at (make image.0 input.0 flag.0) flag.1

abbrev middle_spelled : List ℕ → List ℕ → ℕ → List ℕ → List ℕ
middle_spelled image input flag rest = string w32 image ++ (string w64 input ++ (flag ∷ rest))

abbrev last_spelled : ℕ → ℕ → List FileCall → List ℕ
last_spelled output errors calls = to_le_bytes w64 output ++ (to_le_bytes w64 errors ++ table call calls)

record MiddleTaken (make : List ℕ → List ℕ → ℕ → ℕ → ℕ → List FileCall → SaveFields) (bytes : List ℕ) (x : SaveFields × List ℕ) : Type 0 where
  image : List ℕ
  input : List ℕ
  flag : ℕ
  output : ℕ
  errors : ℕ
  calls : List FileCall
  is : make image input flag output errors calls ≡ x.0
  takes : Takes bytes (middle_spelled image input flag (last_spelled output errors calls)) x.1
  image_fits : is_short image ≡ true
  input_fits : is_number (length input) ≡ true
  output_fits : is_number output ≡ true
  errors_fit : is_number errors ≡ true
  calls_fit : all_keep is_short_call calls ≡ true

middle_take : (make : List ℕ → List ℕ → ℕ → ℕ → ℕ → List FileCall → SaveFields) (bytes : List ℕ) (x : SaveFields × List ℕ) → IsBytes bytes
    → middle_at make bytes ≡ Ok x → MiddleTaken make bytes x
middle_take make bytes x fits e =
    let c = bind_parts (string_at w32 bytes) (λ image. string_at w64 image.1 >>= λ input. byte_at input.1 >>= λ flag.
    last_at (make image.0 input.0 flag.0) flag.1) x e in
    let d = bind_parts (string_at w64 c.0.1) (λ input. byte_at input.1 >>= λ flag. last_at (make c.0.0 input.0 flag.0) flag.1) x c.2 in
    let f = bind_parts (byte_at d.0.1) (λ flag. last_at (make c.0.0 d.0.0 flag.0) flag.1) x d.2 in
    let tc = images_read.takes bytes c.0 fits c.1 in
    let td = inputs_read.takes c.0.1 d.0 tc.0.rest_fits d.1 in
    let tf = bytes_read.takes d.0.1 f.0 td.0.rest_fits f.1 in
    let last : LastTaken (make c.0.0 d.0.0 f.0.0) f.0.1 x = last_take (make c.0.0 d.0.0 f.0.0) f.0.1 x tf.0.rest_fits f.2 in
    let behind : List ℕ = last_spelled last.output last.errors last.calls in
    let flags = takes_then d.0.1 (f.0.0 ∷ []) f.0.1 behind x.1 tf.0 last.takes in
    let inputs = takes_then c.0.1 (string w64 d.0.0) d.0.1 (f.0.0 ∷ behind) x.1 td.0 flags in
    record {
      image = c.0.0;
      input = d.0.0;
      flag = f.0.0;
      output = last.output;
      errors = last.errors;
      calls = last.calls;
      is = last.is;
      takes = takes_then bytes (string w32 c.0.0) c.0.1 (string w64 d.0.0 ++ (f.0.0 ∷ behind)) x.1 tc.0 inputs;
      image_fits = tc.1;
      input_fits = td.1;
      output_fits = last.output_fits;
      errors_fit = last.errors_fit;
      calls_fit = last.calls_fit;
    }

abbrev fields_made : Bounds → List (List ℕ) → List ℕ → List ℕ → ℕ → ℕ → ℕ → List FileCall → SaveFields
fields_made bounds words image input flag output errors calls =
    record { bounds = bounds; words = words; image = image; input = input; flag = flag; output = output; errors = errors; calls = calls }

whole_take : (bounds : Bounds) (words : List (List ℕ)) (bytes a b : List ℕ) (x : SaveFields × List ℕ) → Takes bytes (limit_numbers bounds) a
    → bounds_fit bounds ≡ true → Takes a (table (string w32) words) b → all_keep is_short words ≡ true → MiddleTaken (fields_made bounds words) b x
    → Takes bytes (spelled x.0) x.1 × FieldsFit x.0
whole_take bounds words bytes a b x ta bounds_are tb words_are m =
    let behind : List ℕ = middle_spelled m.image m.input m.flag (last_spelled m.output m.errors m.calls) in
    let eb = takes_then a (table (string w32) words) b behind x.1 tb m.takes in
    subst (λ (f : SaveFields). Takes bytes (spelled f) x.1 × FieldsFit f) m.is (
      takes_then bytes (limit_numbers bounds) a (table (string w32) words ++ behind) x.1 ta eb,
      record {
        bounds = bounds_are;
        words = words_are;
        image = m.image_fits;
        input = m.input_fits;
        output = m.output_fits;
        errors = m.errors_fit;
        calls = m.calls_fit;
      },
    )

pub fields_take : (bytes : List ℕ) (x : SaveFields × List ℕ) → IsBytes bytes → fields_at bytes ≡ Ok x → Takes bytes (spelled x.0) x.1 × FieldsFit x.0
unfolding fields_at
fields_take bytes x fits e =
    let a = bind_parts (bounds_at bytes) (λ bounds. table_at (string_at w32) bounds.1 >>= λ words. middle_at (fields_made bounds.0 words.0) words.1) x e in
    let b = bind_parts (table_at (string_at w32) a.0.1) (λ words. middle_at (fields_made a.0.0 words.0) words.1) x a.2 in
    let ta = bounds_read.takes bytes a.0 fits a.1 in
    let tb = words_read.takes a.0.1 b.0 ta.0.rest_fits b.1 in
    whole_take a.0.0 b.0.0 bytes a.0.1 b.0.1 x ta.0 ta.1 tb.0 tb.1 (middle_take (fields_made a.0.0 b.0.0) b.0.1 x tb.0.rest_fits b.2)

regrouped : (a b c d : List ℕ) (n : ℕ) (f g h rest : List ℕ)
    → (a ++ (b ++ (c ++ (d ++ (n ∷ (f ++ (g ++ h))))))) ++ rest ≡ a ++ (b ++ (c ++ (d ++ (n ∷ (f ++ (g ++ (h ++ rest)))))))
regrouped a b c d n f g h rest = simp append_assoc

pub fields_again : (fields : SaveFields) (rest : List ℕ) → FieldsFit fields → fields_at (spelled fields ++ rest) ≡ Ok (fields, rest)
unfolding fields_at
fields_again fields rest fit =
    let calls : List ℕ = table call fields.calls ++ rest in
    let errors : List ℕ = to_le_bytes w64 fields.errors ++ calls in
    let output : List ℕ = to_le_bytes w64 fields.output ++ errors in
    let input : List ℕ = string w64 fields.input ++ (fields.flag ∷ output) in
    let image : List ℕ = string w32 fields.image ++ input in
    let words : List ℕ = table (string w32) fields.words ++ image in
    let whole : spelled fields ++ rest ≡ limit_numbers fields.bounds ++ words = regrouped (limit_numbers fields.bounds) (table (string w32) fields.words)
    (string w32 fields.image) (string w64 fields.input) fields.flag (to_le_bytes w64 fields.output) (to_le_bytes w64 fields.errors) (table call fields.calls) rest in
    ap fields_at whole ∙ rw (
      bounds_read.again fields.bounds words fit.bounds,
      words_read.again fields.words image fit.words,
      images_read.again fields.image input fit.image,
      inputs_read.again fields.input (fields.flag ∷ output) fit.input,
      numbers.again fields.output errors fit.output,
      numbers.again fields.errors calls fit.errors,
      calls_read.again fields.calls rest fit.calls,
    ) refl

-- what fits, as a test says it
pub fit_tested : (fields : SaveFields) → FieldsFit fields → fields_fit fields ≡ true
fit_tested fields fit =
    let turns = (and_parts (is_number fields.bounds.turns) (is_number fields.bounds.strings && (is_number fields.bounds.cells && is_number fields.bounds.levels)) fit.bounds).0 in
    let words = and_parts (is_short fields.words) (list_all is_short fields.words) fit.words in
    let g = is_short fields.calls && list_all is_short_call fields.calls in
    let f = is_number fields.errors && g in
    let d = is_number fields.output && f in
    let c = is_number (length fields.input) && d in
    let b = is_short fields.image && c in
    and_from (is_number fields.bounds.turns) (is_short fields.words && (list_all is_short fields.words && b)) turns
    (and_from (is_short fields.words) (list_all is_short fields.words && b) words.0
    (and_from (list_all is_short fields.words) b words.1 (and_from (is_short fields.image) c fit.image
    (and_from (is_number (length fields.input)) d fit.input (and_from (is_number fields.output) f fit.output
    (and_from (is_number fields.errors) g fit.errors fit.calls))))))
