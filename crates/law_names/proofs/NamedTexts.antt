-- What a text names is there.
use Rattle.std.proofs.Common.{◌≡◌, ℕ, suc, ◌+◌, ◌<◌, Bool, true, false, ◌&&◌, not, List, [], ◌∷◌, ◌++◌, length, map, Option, Some, if◌then◌else◌, subst, arith, length-append}
use Rattle.std.proofs.lemmas.List.{length-map}
use Rattle.std.specs.Str.{bytes_eq}
use Rattle.icn_text.specs.declared.func.Func.{Func}
use Rattle.icn_text.specs.Funcs.{func_name}
use Rattle.icn_value.specs.Values.{Value, Null, Integer, Text, Chars, Std, Procedure, ARecord, AList, ASet, ATable, ACoexp}
use Rattle.icn_value.specs.Store.{Names}
use Rattle.icn_defs.specs.Images.{functions}
use Rattle.icn_defs.specs.NamedValues.{all_names, is_hidden, number_from, number_named, procedure_of}
use Rattle.icn_convert.specs.ProgramNames.{name_count}
use Rattle.law_rows.proofs.EachOfList.{some_injective}
use Rattle.law_names.specs.NamedSettings.{ValueNamed}

within_by : (t : Bool) (k m n : ℕ) (later : Option ℕ) → (if t then Some k else later) ≡ Some n → (later ≡ Some n → n < suc k + m) → n < k + suc m
within_by true k m n later h f = let same : k ≡ n = some_injective h in omega (arith, same)
within_by false k m n later h f = let less = f h in omega (arith, less)

number_within : (hidden : List ℕ) (names : List (List ℕ)) (k n : ℕ) (text : List ℕ) → number_from hidden k names text ≡ Some n → n < k + length names
number_within hidden [] k n text h = absurd (cc)
number_within hidden (name ∷ names) k n text h =
    within_by (bytes_eq text name && not (is_hidden hidden k)) k (length names) n (number_from hidden (suc k) names text) h
    (λ later. number_within hidden names (suc k) n text later)

counted : (procedures records : List (List ℕ)) (name : Func → List ℕ) (others : List Func)
    → length (procedures ++ (records ++ map name others)) ≡ length procedures + length records + length others
counted procedures records name others =
    let all = length-append procedures (records ++ map name others) in
    let behind = length-append records (map name others) in
    let last = length-map others name in
    omega (arith, all, behind, last)

pub number_there : (names : Names) (text : List ℕ) (n : ℕ) → number_named names text ≡ Some n → n < name_count names
number_there names text n h =
    let within = number_within names.hidden (all_names names) 0 n text h in
    let all : length (all_names names) ≡ name_count names = counted names.procedures names.records func_name functions in
    omega (arith, within, all)

-- so is the procedure, the constructor or the function that a value is or names
pub procedure_there : (names : Names) (v : Value) (number : ℕ) → ValueNamed names v → procedure_of names v ≡ Some number
    → ValueNamed names (Procedure number)
procedure_there names (Procedure k) number h is = subst (λ n. n < name_count names) (some_injective is) h
procedure_there names (Text text) number h is = number_there names text number is
procedure_there names Null number h is = absurd (cc)
procedure_there names (Integer n) number h is = absurd (cc)
procedure_there names (Chars bytes) number h is = absurd (cc)
procedure_there names (Std file) number h is = absurd (cc)
procedure_there names (ARecord id) number h is = absurd (cc)
procedure_there names (AList id) number h is = absurd (cc)
procedure_there names (ASet id) number h is = absurd (cc)
procedure_there names (ATable id) number h is = absurd (cc)
procedure_there names (ACoexp id) number h is = absurd (cc)
