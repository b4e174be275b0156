-- What has a name, and what has none.
use Rattle.std.proofs.Common.{◌≡◌, ◌∙◌, sym, ap, ℕ, ◌+◌, ◌<◌, ◌≤◌, Bool, true, false, List, [], ◌++◌, length, map, get_or, refl, arith}
use Rattle.std.specs.Prelude.{nat_lt, slice_get, slice_index_or, unwrap_or, None, codes}
use Rattle.std.specs.Option.{option_map}
use Rattle.std.proofs.lemmas.Bool.{ltb-true, ltb-false}
use Rattle.std.proofs.lemmas.List.{length-append, length-map}
use Rattle.std.proofs.lemmas.Option.{slice_get-map, slice_get_past}
use Rattle.icn_text.specs.Funcs.{func_name}
use Rattle.icn_value.specs.Store.{Names}
use Rattle.icn_defs.specs.Images.{functions, procedure_image}
use Rattle.icn_code.specs.Codes.{record_of, RecordType}
use Rattle.icn_code.specs.declared.code.LinkedRecord.{LinkedRecord}
use Rattle.icn_apply.proofs.NameLists.{seen_twice}
use Rattle.icn_convert.specs.ProgramNames.{name_count}

-- the name of an entry of a table of records, and of none
pub kind_there : (strings : List (List ℕ)) (records : List LinkedRecord) (kind : ℕ) (entry : LinkedRecord) (name : List ℕ) → kind < length records
    → entry ≡ get_or records kind entry
    → name ≡ slice_index_or strings entry.name []
    → name ≡ unwrap_or (slice_get (map (λ (entry : RecordType). slice_index_or strings entry.name []) (map record_of records)) kind) []
kind_there strings records kind entry name within there is =
    is ∙ sym (ap (λ o. unwrap_or o []) (seen_twice record_of (λ (entry : RecordType). slice_index_or strings entry.name []) records kind entry
    (omega (arith, within, length-map records record_of)) there))

pub kind_missing : (strings : List (List ℕ)) (records : List LinkedRecord) (kind : ℕ) → length records ≤ kind
    → ◌≡◌ {A = List ℕ} [] (unwrap_or (slice_get (map (λ (entry : RecordType). slice_index_or strings entry.name []) (map record_of records)) kind) [])
kind_missing strings records kind past =
    let none : slice_get records kind ≡ None = slice_get_past records kind past in
    sym (ap (λ o. unwrap_or o []) (slice_get-map (λ (entry : RecordType). slice_index_or strings entry.name []) (map record_of records) kind
    ∙ ap (option_map (λ (entry : RecordType). slice_index_or strings entry.name [])) (slice_get-map record_of records kind ∙ ap (option_map record_of) none)))

not_below : (n count : ℕ) → count ≤ n → (b : Bool) → nat_lt n count ≡ b → b ≡ false
not_below n count le true e = let less = ltb-true n count e in absurd (omega (arith, le, less))
not_below n count le false e = refl

-- a number that none of them has is shown as that of a function without a name
pub unnamed_shown : (names : Names) (number : ℕ) → nat_lt number (name_count names) ≡ false → procedure_image names number ≡ codes "function "
unnamed_shown names number none =
    let past = ltb-false number (name_count names) none in
    let few : length (names.procedures ++ (names.records ++ map func_name functions)) ≤ number =
    omega (arith, past, length-append names.procedures (names.records ++ map func_name functions), length-append names.records (map func_name functions)) in
    let no_procedure = not_below number (length names.procedures) (omega (arith, past)) (nat_lt number (length names.procedures)) refl in
    let no_record = not_below number (length names.procedures + length names.records) (omega (arith, past))
    (nat_lt number (length names.procedures + length names.records)) refl in
    rw (no_procedure, no_record, slice_get_past (names.procedures ++ (names.records ++ map func_name functions)) number few) refl
