-- What the fields of a save come to as they are judged.
use Rattle.std.proofs.Common.{◌≡◌, ◌<◌, ◌+◌, ℕ, zero, suc, List, [], ◌∷◌, ◌++◌, get_or, map, take, arith, Bool, true, false, cond, ◌&&◌, length, Result, Ok, Err, refl, sym, ap, ◌∙◌}
use Rattle.std.specs.Prelude.{IsUtf8, nat_le}
use Rattle.std.specs.List.{list_all}
use Rattle.std.proofs.lemmas.List.{map-append, take_more}
use Rattle.std.specs.Str.{is_utf8}
use Rattle.std.proofs.lemmas.Bool.{and_parts, and_from, false_from_ne_true}
use Rattle.std.proofs.lemmas.Str.{IsUtf8-from_is_utf8}
use Rattle.icn_save.specs.FileCalls.{FileCall}
use Rattle.icn_value.specs.Limited.{Bounds}
use Rattle.icn_tree.specs.declared.rule.Rule.{Rule}
use Rattle.icn_tree.specs.declared.rule.Rule.TheVariants.{G3}
use Rattle.icn_save.specs.declared.fault.SaveFault.{SaveFault}
use Rattle.icn_save.specs.declared.fault.SaveFault.TheVariants.{Broken, NoMemory}
use Rattle.icn_save.specs.Readers.{Fails}
use Rattle.icn_save.specs.Reading.{SaveFields, fields_fit, fields_hold, has_text_name, is_short_call, judged, run_of}
use Rattle.icn_save.specs.Saves.{SavedRun, are_in_range, call_fits, is_number, is_short, is_text, keeps_format}
use Rattle.icn_save.specs.Texts.{TakesOne}
use Rattle.icn_save.proofs.OneSpelling.{Keeps, keeps_parts, kept_by_parts, parts_keep}

and_left : (a b : Bool) → a ≡ false → (a && b) ≡ false
and_left true b e = absurd (cc e)
and_left false b e = refl

and_right : (a b : Bool) → b ≡ false → (a && b) ≡ false
and_right true b e = e
and_right false b e = refl

refused : (fields : SaveFields) → fields_hold fields ≡ false → judged fields ≡ Err G3
refused fields e = ap (λ (b : Bool). cond b (Ok (run_of fields)) (Err G3)) e

-- bytes that are no text are tested to be none
pub not_text : (bytes : List ℕ) → (IsUtf8 bytes → ⊥) → is_utf8 bytes ≡ false
not_text bytes none = false_from_ne_true (is_utf8 bytes) (λ h. none (IsUtf8-from_is_utf8 bytes h))

-- Of those in front all were taken, and each was a text.

pub one_fails : {B C : Type 0} (is_text : C → Bool) (given : B → C) (all : List B) (n : ℕ) (d : B) → n < length all → is_text (given (get_or all n d)) ≡ false
    → list_all is_text (map given all) ≡ false
one_fails is_text given [] n d lt e = absurd (omega arith)
one_fails is_text given (x ∷ all) zero d lt e = and_left (is_text (given x)) (list_all is_text (map given all)) e
one_fails is_text given (x ∷ all) (suc n) d lt e =
    and_right (is_text (given x)) (list_all is_text (map given all)) (one_fails is_text given all n d (omega arith) e)

-- what one that is none comes to
pub one_refused : {A B : Type 0} (is_text other : Bool) (Is : A → Type 0) (Was : B → Type 0) (fault : SaveFault) → (is_text ≡ false → other ≡ false)
    → TakesOne is_text Is (Err fault) → TakesOne other Was (Err fault)
one_refused is_text other Is Was (Broken rule) fails p = (fails p.0, p.1)
one_refused is_text other Is Was NoMemory fails p = tt

pub element_refused : {A B C D : Type 0} (is_text : C → Bool) (given : B → C) (Is : A → Type 0) (Was : D → Type 0) (all : List B) (n : ℕ) (d : B) (fault : SaveFault)
    → n < length all → TakesOne (is_text (given (get_or all n d))) Is (Err fault) → TakesOne (list_all is_text (map given all)) Was (Err fault)
element_refused is_text given Is Was all n d fault lt p =
    one_refused (is_text (given (get_or all n d))) (list_all is_text (map given all)) Is Was fault (λ e. one_fails is_text given all n d lt e) p

all_both : {C : Type 0} (is_text : C → Bool) (xs : List C) (x : C) → list_all is_text xs ≡ true → is_text x ≡ true → list_all is_text (xs ++ x ∷ []) ≡ true
all_both is_text [] x e h = and_from (is_text x) true h refl
all_both is_text (y ∷ xs) x e h =
    let p = and_parts (is_text y) (list_all is_text xs) e in
    and_from (is_text y) (list_all is_text (xs ++ x ∷ [])) p.0 (all_both is_text xs x p.1 h)

-- one more
pub one_more_taken : {A B C : Type 0} (is_text : C → Bool) (made : A → C) (given : B → C) (taken now : List A) (x : A) (all : List B) (n : ℕ) (d : B)
    → n < length all → (map made taken ≡ map given (take n all)) × (list_all is_text (map given (take n all)) ≡ true)
    → is_text (given (get_or all n d)) ≡ true → made x ≡ given (get_or all n d) → now ≡ taken ++ x ∷ []
    → (map made now ≡ map given (take (n + 1) all)) × (list_all is_text (map given (take (n + 1) all)) ≡ true)
one_more_taken {A} {B} {C} is_text made given taken now x all n d lt front e same more =
    let further : map given (take (n + 1) all) ≡ map given (take n all) ++ given (get_or all n d) ∷ [] =
    ap (λ (l : List B). map given l) (take_more all n d lt) ∙ map-append given (take n all) (get_or all n d ∷ []) in (
      ap (λ (l : List A). map made l) more
          ∙ (map-append made taken (x ∷ [])
          ∙ (ap (λ (l : List C). l ++ made x ∷ []) front.0 ∙ (ap (λ (y : C). map given (take n all) ++ y ∷ []) same ∙ sym further))),
      ap (λ (l : List C). list_all is_text l) further ∙ all_both is_text (map given (take n all)) (given (get_or all n d)) front.1 e,
    )

-- the texts of words and names
abbrev pub texts_hold : SaveFields → Bool
texts_hold fields = list_all is_utf8 fields.words && list_all has_text_name fields.calls

-- one of the fields is not what it has to be

pub no_flag : (fields : SaveFields) → nat_le fields.flag 1 ≡ false → judged fields ≡ Err G3
no_flag fields e = refused fields (and_left (nat_le fields.flag 1) (are_in_range fields.bounds && texts_hold fields) e)

pub no_limits : (fields : SaveFields) → are_in_range fields.bounds ≡ false → judged fields ≡ Err G3
no_limits fields e =
    refused fields (and_right (nat_le fields.flag 1) (are_in_range fields.bounds && texts_hold fields)
    (and_left (are_in_range fields.bounds) (texts_hold fields) e))

no_texts : (fields : SaveFields) → texts_hold fields ≡ false → judged fields ≡ Err G3
no_texts fields e =
    refused fields (and_right (nat_le fields.flag 1) (are_in_range fields.bounds && texts_hold fields)
    (and_right (are_in_range fields.bounds) (texts_hold fields) e))

pub no_words : (fields : SaveFields) → list_all is_utf8 fields.words ≡ false → judged fields ≡ Err G3
no_words fields e = no_texts fields (and_left (list_all is_utf8 fields.words) (list_all has_text_name fields.calls) e)

pub no_names : (fields : SaveFields) → list_all has_text_name fields.calls ≡ false → judged fields ≡ Err G3
no_names fields e = no_texts fields (and_right (list_all is_utf8 fields.words) (list_all has_text_name fields.calls) e)

broken : Rule → Result SavedRun Rule
broken rule = Err rule

-- the fault of taking all words, and all calls, is that of the whole
pub words_fail : {A : Type 0} (Is : A → Type 0) (fields : SaveFields) (fault : SaveFault) → TakesOne (list_all is_utf8 fields.words) Is (Err fault)
    → Fails fault (judged fields)
unfolding broken
words_fail Is fields (Broken rule) p = no_words fields p.0 ∙ ap broken (sym p.1)
words_fail Is fields NoMemory p = tt

pub calls_fail : {A : Type 0} (Is : A → Type 0) (fields : SaveFields) (fault : SaveFault) → TakesOne (list_all has_text_name fields.calls) Is (Err fault)
    → Fails fault (judged fields)
unfolding broken
calls_fail Is fields (Broken rule) p = no_names fields p.0 ∙ ap broken (sym p.1)
calls_fail Is fields NoMemory p = tt

-- each is what it has to be
pub all_hold : (fields : SaveFields) → nat_le fields.flag 1 ≡ true → are_in_range fields.bounds ≡ true → list_all is_utf8 fields.words ≡ true
    → list_all has_text_name fields.calls ≡ true → fields_hold fields ≡ true
all_hold fields flag range words calls =
    and_from (nat_le fields.flag 1) (are_in_range fields.bounds && texts_hold fields) flag
    (and_from (are_in_range fields.bounds) (texts_hold fields) range
    (and_from (list_all is_utf8 fields.words) (list_all has_text_name fields.calls) words calls))

pub taken_whole : (fields : SaveFields) (saved : SavedRun) → fields_hold fields ≡ true → run_of fields ≡ saved → judged fields ≡ Ok saved
taken_whole fields saved hold same =
    ap (λ (b : Bool). cond b (Ok (run_of fields)) (Err G3)) hold ∙ ap (λ (s : SavedRun). let r : Result SavedRun Rule = Ok s in r) same

-- a save of fields that fit and hold keeps the format
pub kept_by_tests : (fields : SaveFields) → fields_fit fields ≡ true → fields_hold fields ≡ true → keeps_format (run_of fields) ≡ true
kept_by_tests fields fit hold =
    let h = is_short fields.calls && list_all is_short_call fields.calls in
    let g = is_number fields.errors && h in
    let f = is_number fields.output && g in
    let d = is_number (length fields.input) && f in
    let c = is_short fields.image && d in
    let b = list_all is_short fields.words && c in
    let a = is_short fields.words && b in
    let pa = and_parts (is_number fields.bounds.turns) a fit in
    let pb = and_parts (is_short fields.words) b pa.1 in
    let pc = and_parts (list_all is_short fields.words) c pb.1 in
    let pd = and_parts (is_short fields.image) d pc.1 in
    let pf = and_parts (is_number (length fields.input)) f pd.1 in
    let pg = and_parts (is_number fields.output) g pf.1 in
    let ph = and_parts (is_number fields.errors) h pg.1 in
    let pi = and_parts (is_short fields.calls) (list_all is_short_call fields.calls) ph.1 in
    kept_by_parts fields pa.0 pb.0 pc.0 pd.0 pf.0 pg.0 ph.0 pi.0 pi.1 hold

-- so does one that has these parts
pub kept_as : (fields : SaveFields) (saved : SavedRun) → saved.bounds ≡ fields.bounds → saved.words ≡ fields.words → saved.image ≡ fields.image
    → saved.input ≡ fields.input → saved.output ≡ fields.output → saved.errors ≡ fields.errors → saved.calls ≡ fields.calls
    → fields_fit fields ≡ true → fields_hold fields ≡ true → keeps_format saved ≡ true
kept_as fields saved bounds words image input output errors calls fit hold =
    let k : Keeps (run_of fields) = keeps_parts (run_of fields) (kept_by_tests fields fit hold) in
    parts_keep saved (record {
      turns = ap (λ (b : Bounds). is_number b.turns) bounds ∙ k.turns;
      range = ap (λ (b : Bounds). are_in_range b) bounds ∙ k.range;
      words = ap (λ (l : List (List ℕ)). is_short l) words ∙ k.words;
      texts = ap (λ (l : List (List ℕ)). list_all is_text l) words ∙ k.texts;
      image = ap (λ (l : List ℕ). is_short l) image ∙ k.image;
      input = ap (λ (l : List ℕ). is_number (length l)) input ∙ k.input;
      output = ap is_number output ∙ k.output;
      errors = ap is_number errors ∙ k.errors;
      calls = ap (λ (l : List FileCall). is_short l) calls ∙ k.calls;
      fits = ap (λ (l : List FileCall). list_all call_fits l) calls ∙ k.fits;
    })
