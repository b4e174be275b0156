-- Globals: what is read is spelled so, and what is spelled so is read again.
use Rattle.std.proofs.Common.{◌≡◌, ℕ, ◌≤◌, Bool, true, false, not, cond, eqb, ◌&&◌, List, [], ◌∷◌, ◌++◌, length, Option, Some, None, Result, Ok, Err, refl, sym, ap, subst, ◌∙◌, append_assoc, arith}
use Rattle.std.specs.Prelude.{nat_lt, slice_index_or}
use Rattle.std.specs.Int.{Width, to_le_bytes}
use Rattle.std.proofs.lemmas.Bool.{ltb-true, ltb-false, lt-ltb, and_parts, and_from, eqb-true, eqb-false, cond-true, cond-false}
use Rattle.icn_tree.specs.declared.rule.Rule.{Rule}
use Rattle.icn_tree.specs.declared.rule.Rule.TheVariants.{I3, I4}
use Rattle.icn_text.specs.declared.func.Func.{Func}
use Rattle.icn_text.specs.declared.func.TheConstants.Func.{ALL as funcs}
use Rattle.icn_text.specs.Funcs.{func_number}
use Rattle.icn_defs.specs.Numbers.{func_of}
use Rattle.icn_defs.proofs.FoundFacts.{found_number}
use Rattle.icn_defs.proofs.FuncNumbers.{func_back}
use Rattle.icn_code.specs.declared.code.Global.{Global}
use Rattle.icn_code.specs.declared.code.Start.{Start}
use Rattle.icn_code.specs.declared.code.Start.TheVariants.{Null, Procedure, Record, Function}
use Rattle.icn_code.specs.Rules.{name_of}
use Rattle.icn_tree.specs.NameSets.{NameTest}
use Rattle.icn_image.specs.Readers.{◌>>=◌, number_at, index_at}
use Rattle.icn_image.specs.Reading.{func_start, start_of, start_at, new_name_at, global_at}
use Rattle.icn_image.specs.Spelling.{kind_and_number, global}
use Rattle.icn_image.proofs.SpelledFields.{IsBytes, IsBytes-rest, bind_parts, done_injective, guard_ok, passed_parts, Takes, takes_then, takes_byte, Reads, IsWide, number_reads, place_reads}
use Rattle.icn_image.proofs.SpelledInstructions.{found_keeps}

-- ---- kinds and numbers

-- a start whose number is one of an image, with so many records
abbrev pub start_fits : ℕ → ℕ → Start → Bool
start_fits limit records Null = true
start_fits limit records (Procedure place) = nat_lt place limit
start_fits limit records (Record place) = nat_lt place records
start_fits limit records (Function func) = true

-- what is read of a kind and a number spells them
abbrev Spells : Width → ℕ → ℕ → ℕ → ℕ → Start → Type 0
Spells w limit records kind number start = (kind ∷ to_le_bytes w number ≡ kind_and_number w start) × (start_fits limit records start ≡ true)

func_spells : (w : Width) (limit records number : ℕ) (o : Option Func) (start : Start) → func_of number ≡ o → func_start o ≡ Ok start
    → Spells w limit records 3 number start
func_spells w limit records number None start e h = absurd cc
func_spells w limit records number (Some func) start e h =
    let same : func_number func ≡ number = found_number func_number funcs number func e in
    subst (λ (s : Start). Spells w limit records 3 number s) (done_injective (Function func) start h) (ap (λ (n : ℕ). 3 ∷ to_le_bytes w n) (sym same), refl)

spells : (w : Width) (limit records kind number : ℕ) (start : Start) (t u v : Bool) → kind ≤ 3 → nat_lt number limit ≡ true → eqb kind 0 ≡ t → eqb kind 1 ≡ u
    → eqb kind 2 ≡ v
    → cond t (cond (eqb number 0) (Ok Null) (Err I4)) (cond u (Ok (Procedure number))
    (cond v (cond (nat_lt number records) (Ok (Record number)) (Err I4)) (func_start (func_of number)))) ≡ Ok start → Spells w limit records kind number start
spells w limit records kind number start true u v few lt at_0 at_1 at_2 e =
    let g = passed_parts (eqb number 0) I4 Null start e in
    let text : kind ∷ to_le_bytes w number ≡ 0 ∷ to_le_bytes w 0 = ap (λ (k : ℕ). k ∷ to_le_bytes w number) (eqb-true kind 0 at_0)
    ∙ ap (λ (n : ℕ). 0 ∷ to_le_bytes w n) (eqb-true number 0 g.0) in
    subst (λ (s : Start). Spells w limit records kind number s) g.1 (text, refl)
spells w limit records kind number start false true v few lt at_0 at_1 at_2 e =
    subst (λ (s : Start). Spells w limit records kind number s) (done_injective (Procedure number) start e)
    (ap (λ (k : ℕ). k ∷ to_le_bytes w number) (eqb-true kind 1 at_1), lt)
spells w limit records kind number start false false true few lt at_0 at_1 at_2 e =
    let g = passed_parts (nat_lt number records) I4 (Record number) start e in
    subst (λ (s : Start). Spells w limit records kind number s) g.1 (ap (λ (k : ℕ). k ∷ to_le_bytes w number) (eqb-true kind 2 at_2), g.0)
spells w limit records kind number start false false false few lt at_0 at_1 at_2 e =
    let third : 3 ≡ kind = omega (arith, eqb-false kind 0 at_0, eqb-false kind 1 at_1, eqb-false kind 2 at_2) in
    subst (λ (k : ℕ). Spells w limit records k number start) third (func_spells w limit records number (func_of number) start refl e)

not_refused : {A : Type 0} (b : Bool) (d : Rule) (r : Result A Rule) (y : A) → cond b (Err d) r ≡ Ok y → (b ≡ false) × (r ≡ Ok y)
not_refused true d r y e = absurd cc
not_refused false d r y e = (refl, e)

start_takes : (w : Width) (limit : ℕ) → IsWide w limit → (records : ℕ) (bytes : List ℕ) (x : Start × List ℕ) → IsBytes bytes → start_at w records bytes ≡ Ok x
    → Takes bytes (kind_and_number w x.0) x.1 × (start_fits limit records x.0 ≡ true)
unfolding start_at start_of
start_takes w limit wide records [] x fits e = absurd cc
start_takes w limit wide records (kind ∷ bytes) x fits e =
    let g = not_refused (nat_lt 3 kind) I3 (number_at w bytes >>= λ n. start_of records kind n.0 >>= λ start. Ok (start, n.1)) x e in
    let a = bind_parts (number_at w bytes) (λ n. start_of records kind n.0 >>= λ start. Ok (start, n.1)) x g.1 in
    let b = bind_parts (start_of records kind a.0.0) (λ start. Ok (start, a.0.1)) x a.2 in
    let t = (number_reads w limit wide).takes bytes a.0 (IsBytes-rest kind bytes fits) a.1 in
    let s = spells w limit records kind a.0.0 b.0 (eqb kind 0) (eqb kind 1) (eqb kind 2) (ltb-false 3 kind g.0) t.1 refl refl refl b.1 in
    let took : Takes (kind ∷ bytes) (kind_and_number w b.0) a.0.1 = subst (λ (text : List ℕ). Takes (kind ∷ bytes) text a.0.1) s.0
    (takes_byte kind bytes (to_le_bytes w a.0.0) a.0.1 fits t.0) in
    subst (λ (y : Start × List ℕ). Takes (kind ∷ bytes) (kind_and_number w y.0) y.1 × (start_fits limit records y.0 ≡ true)) (done_injective (b.0, a.0.1) x b.2)
    (took, s.1)

func_number_small : (func : Func) → nat_lt (func_number func) 65536 ≡ true
func_number_small func = found_keeps (λ x. eqb (func_number x) (func_number func)) (λ x. nat_lt (func_number x) 65536) funcs func refl (func_back func)

func_small : (limit : ℕ) → 65536 ≤ limit → (func : Func) → nat_lt (func_number func) limit ≡ true
func_small limit room func = lt-ltb _ _ (omega (arith, ltb-true (func_number func) 65536 (func_number_small func), room))

start_again : (w : Width) (limit : ℕ) → IsWide w limit → (records : ℕ) → records ≤ limit → (start : Start) (rest : List ℕ) → start_fits limit records start ≡ true
    → start_at w records (kind_and_number w start ++ rest) ≡ Ok (start, rest)
unfolding start_at start_of
start_again w limit wide records few Null rest keeps =
    ap (λ r. r >>= λ n. start_of records 0 n.0 >>= λ start. Ok (start, n.1)) ((number_reads w limit wide).again 0 rest (lt-ltb 0 limit (omega (arith, wide.room))))
start_again w limit wide records few (Procedure place) rest keeps =
    ap (λ r. r >>= λ n. start_of records 1 n.0 >>= λ start. Ok (start, n.1)) ((number_reads w limit wide).again place rest keeps)
start_again w limit wide records few (Record place) rest keeps =
    ap (λ r. r >>= λ n. start_of records 2 n.0 >>= λ start. Ok (start, n.1))
    ((number_reads w limit wide).again place rest (lt-ltb _ _ (omega (arith, ltb-true place records keeps, few))))
    ∙ ap (λ r. r >>= λ start. Ok (start, rest)) (cond-true (nat_lt place records) (Ok (Record place)) (Err I4) keeps)
start_again w limit wide records few (Function func) rest keeps =
    ap (λ r. r >>= λ n. start_of records 3 n.0 >>= λ start. Ok (start, n.1)) ((number_reads w limit wide).again (func_number func) rest (func_small limit wide.room func))
    ∙ ap (λ o. func_start o >>= λ start. Ok (start, rest)) (func_back func)

start_reads : (w : Width) (limit : ℕ) → IsWide w limit → (records : ℕ) → records ≤ limit → Reads Start (start_at w records) (kind_and_number w) (start_fits limit records)
start_reads w limit wide records few = record { takes = start_takes w limit wide records; again = start_again w limit wide records few }

-- ---- names

-- a global that an image can have, in a code with so many strings and records
abbrev pub global_fits : ℕ → ℕ → ℕ → Global → Bool
global_fits limit strings records variable = nat_lt variable.name strings && start_fits limit records variable.start

abbrev pub is_new : List (List ℕ) → NameTest → Global → Bool
is_new strings met variable = not (met (name_of strings variable))

new_name_takes : (w : Width) (limit : ℕ) → IsWide w limit → (strings : List (List ℕ)) → length strings ≤ limit → (met : NameTest) (bytes : List ℕ) (x : ℕ × List ℕ)
    → IsBytes bytes → new_name_at w strings met bytes ≡ Ok x
    → Takes bytes (to_le_bytes w x.0) x.1 × (nat_lt x.0 (length strings) ≡ true) × (met (slice_index_or strings x.0 []) ≡ false)
unfolding new_name_at
new_name_takes w limit wide strings few met bytes x fits e =
    let a = bind_parts (index_at w (length strings) bytes) (λ name. cond (met (slice_index_or strings name.0 [])) (Err I4) (Ok name)) x e in
    let t = (place_reads w limit wide (length strings) few).takes bytes a.0 fits a.1 in
    let g = guard_ok (met (slice_index_or strings a.0.0 [])) I4 a.0 x a.2 in
    subst (λ (y : ℕ × List ℕ). Takes bytes (to_le_bytes w y.0) y.1 × (nat_lt y.0 (length strings) ≡ true) × (met (slice_index_or strings y.0 []) ≡ false)) g.1
    (t.0, t.1, g.0)

pub global_takes : (w : Width) (limit : ℕ) → IsWide w limit → (strings : List (List ℕ)) (records : ℕ) → length strings ≤ limit → records ≤ limit
    → (met : NameTest) (bytes : List ℕ) (x : Global × List ℕ) → IsBytes bytes → global_at w strings records met bytes ≡ Ok x
    → Takes bytes (global w x.0) x.1 × (global_fits limit (length strings) records x.0 ≡ true) × (met (name_of strings x.0) ≡ false)
unfolding global_at
global_takes w limit wide strings records few_strings few_records met bytes x fits e =
    let a = bind_parts (new_name_at w strings met bytes)
    (λ name. start_at w records name.1 >>= λ start. Ok (record { name = name.0; start = start.0 }, start.1)) x e in
    let b = bind_parts (start_at w records a.0.1) (λ start. Ok (record { name = a.0.0; start = start.0 }, start.1)) x a.2 in
    let t = new_name_takes w limit wide strings few_strings met bytes a.0 fits a.1 in
    let s = (start_reads w limit wide records few_records).takes a.0.1 b.0 t.0.rest_fits b.1 in
    let both = takes_then bytes (to_le_bytes w a.0.0) a.0.1 (kind_and_number w b.0.0) b.0.1 t.0 s.0 in
    subst (λ (y : Global × List ℕ). Takes bytes (global w y.0) y.1 × (global_fits limit (length strings) records y.0 ≡ true) × (met (name_of strings y.0) ≡ false))
    (done_injective (record { name = a.0.0; start = b.0.0 }, b.0.1) x b.2)
    (both, and_from (nat_lt a.0.0 (length strings)) (start_fits limit records b.0.0) t.1 s.1, t.2)

pub global_again : (w : Width) (limit : ℕ) → IsWide w limit → (strings : List (List ℕ)) (records : ℕ) → length strings ≤ limit → records ≤ limit
    → (met : NameTest) (variable : Global) (rest : List ℕ) → global_fits limit (length strings) records variable ≡ true → met (name_of strings variable) ≡ false
    → global_at w strings records met (global w variable ++ rest) ≡ Ok (variable, rest)
unfolding global_at new_name_at
global_again w limit wide strings records few_strings few_records met variable rest keeps new =
    let p = and_parts (nat_lt variable.name (length strings)) (start_fits limit records variable.start) keeps in
    let named : new_name_at w strings met (to_le_bytes w variable.name ++ (kind_and_number w variable.start ++ rest))
    ≡ Ok (variable.name, kind_and_number w variable.start ++ rest) =
    ap (λ r. r >>= λ name. cond (met (slice_index_or strings name.0 [])) (Err I4) (Ok name))
    ((place_reads w limit wide (length strings) few_strings).again variable.name (kind_and_number w variable.start ++ rest) p.0)
    ∙ cond-false (met (name_of strings variable)) _ _ new in
    ap (global_at w strings records met) (append_assoc (to_le_bytes w variable.name) (kind_and_number w variable.start) rest)
    ∙ (ap (λ r. r >>= λ name. start_at w records name.1 >>= λ start. Ok (record { name = name.0; start = start.0 }, start.1)) named
    ∙ ap (λ r. r >>= λ start. Ok (record { name = variable.name; start = start.0 }, start.1))
    ((start_reads w limit wide records few_records).again variable.start rest p.1))
