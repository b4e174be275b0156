-- What is read at the front is what was spelled, and what was spelled is read again: bytes, numbers, strings and tables.
use Rattle.std.proofs.Common.{◌≡◌, ℕ, zero, suc, ◌+◌, ◌^◌, ◌<◌, ◌≤◌, Bool, true, false, cond, ltb, ◌&&◌, List, [], ◌∷◌, ◌++◌, length, get_or, take, drop, Result, Ok, Err, refl, sym, ap, subst, ◌∙◌, append_assoc, arith, inl, inr}
use Rattle.std.specs.Prelude.{nat_lt}
use Rattle.std.specs.List.{flat_map, list_all}
use Rattle.std.specs.Int.{Width, w32, w64, byte_len, from_le_bytes, to_le_bytes}
use Rattle.std.proofs.lemmas.Bool.{cases_lt, ltb-true, ltb-false, lt-ltb, le-ltb, and_parts, and_from}
use Rattle.std.proofs.lemmas.List.{take_at, drop_at, take-append-drop, length-append, length-take, get_or-drop, get_or-take, get_or_past}
use Rattle.std.proofs.lemmas.List.Concat.{flat_map-cons}
use Rattle.std.proofs.lemmas.Nat.{le_bytes_4, le_bytes_8, from_le_bytes-to_le_bytes_4, from_le_bytes-to_le_bytes_8}
use Rattle.icn_tree.specs.declared.rule.Rule.{Rule}
use Rattle.icn_tree.specs.declared.rule.Rule.TheVariants.{G2}
use Rattle.icn_save.specs.Readers.{◌>>=◌, Reader, bytes_at, number_at, string_at, times, table_at}
use Rattle.icn_save.specs.Saves.{is_short}
use Rattle.icn_save.specs.Spelling.{string, table}

-- each number is that of a byte
abbrev pub IsBytes : List ℕ → Type 0
IsBytes bytes = (i : ℕ) → get_or bytes i 0 < 256

pub IsBytes-drop : (n : ℕ) (bytes : List ℕ) → IsBytes bytes → IsBytes (drop n bytes)
IsBytes-drop n bytes h i = rw get_or-drop (h (n + i))

IsBytes-take : (n : ℕ) (bytes : List ℕ) → IsBytes bytes → IsBytes (take n bytes)
IsBytes-take n bytes h i =
    elim (cases_lt i n) [
      | inl lt ↦ rw (get_or-take n bytes i 0 lt) (h i)
      | inr le ↦ rw (get_or_past (take n bytes) i 0 (omega (arith, length-take n bytes))) (omega arith)
    ]

pub IsBytes-rest : (b : ℕ) (bytes : List ℕ) → IsBytes (b ∷ bytes) → IsBytes bytes
IsBytes-rest b bytes h i = h (suc i)

-- the value of a step that did not fail
pub bind_parts : {A B : Type 0} (r : Result A Rule) (f : A → Result B Rule) (y : B) → (r >>= f) ≡ Ok y → (x : A) × (r ≡ Ok x) × (f x ≡ Ok y)
bind_parts (Ok x) f y e = (x, refl, e)
bind_parts (Err d) f y e = absurd cc

-- tests that did not fail
pub guard_ok : {A : Type 0} (b : Bool) (d : Rule) (x y : A) → cond b (Err d) (Ok x) ≡ Ok y → (b ≡ false) × (x ≡ y)
guard_ok true d x y e = absurd cc
guard_ok false d x y e = (refl, cc)

-- where a test did not fail it was passed
pub passed_parts : {A : Type 0} (b : Bool) (d : Rule) (x y : A) → cond b (Ok x) (Err d) ≡ Ok y → (b ≡ true) × (x ≡ y)
passed_parts true d x y e = (refl, cc)
passed_parts false d x y e = absurd cc

abbrev pub done : {A : Type 0} → A → Result A Rule
done x = Ok x

-- readings that are equal gave the same
pub done_injective : {A : Type 0} (x y : A) → done x ≡ done y → x ≡ y
done_injective x y e = cc

-- what a reader took from the front
pub record Takes (bytes text rest : List ℕ) : Type 0 where
  pub parts : bytes ≡ text ++ rest
  pub rest_fits : IsBytes rest

-- two readings in a row took both texts
pub takes_then : (a x b y c : List ℕ) → Takes a x b → Takes b y c → Takes a (x ++ y) c
takes_then a x b y c p q = record { parts = p.parts ∙ ap (λ (t : List ℕ). x ++ t) q.parts ∙ sym (append_assoc x y c); rest_fits = q.rest_fits }

pub takes_byte : (b : ℕ) (a x c : List ℕ) → IsBytes (b ∷ a) → Takes a x c → Takes (b ∷ a) (b ∷ x) c
takes_byte b a x c h p = record { parts = ap (λ (t : List ℕ). b ∷ t) p.parts; rest_fits = p.rest_fits }

-- A reader finds what passes a test and its spelling in front, and reads that again.
pub record Reads (A : Type 0) (read : Reader A) (spelling : A → List ℕ) (keeps : A → Bool) : Type 0 where
  pub takes : (bytes : List ℕ) (x : A × List ℕ) → IsBytes bytes → read bytes ≡ Ok x → Takes bytes (spelling x.0) x.1 × (keeps x.0 ≡ true)
  pub again : (a : A) (rest : List ℕ) → keeps a ≡ true → read (spelling a ++ rest) ≡ Ok (a, rest)

-- ---- bytes

pub bytes_take : (n : ℕ) (bytes : List ℕ) (x : List ℕ × List ℕ) → IsBytes bytes → bytes_at n bytes ≡ Ok x → Takes bytes x.0 x.1 × (length x.0 ≡ n) × IsBytes x.0
bytes_take n bytes x fits e =
    let g = guard_ok (ltb (length bytes) n) G2 (take n bytes, drop n bytes) x e in
    let long : n ≤ length bytes = ltb-false _ _ g.0 in
    let took : Takes bytes (take n bytes) (drop n bytes) = record { parts = sym (take-append-drop n bytes); rest_fits = IsBytes-drop n bytes fits } in
    subst (λ (y : List ℕ × List ℕ). Takes bytes y.0 y.1 × (length y.0 ≡ n) × IsBytes y.0) g.1
    (took, omega (arith, length-take n bytes), IsBytes-take n bytes fits)

pub bytes_again : (text rest : List ℕ) (n : ℕ) → length text ≡ n → bytes_at n (text ++ rest) ≡ Ok (text, rest)
bytes_again text rest n len =
    let long : ltb (length (text ++ rest)) n ≡ false = le-ltb _ _ (omega (arith, length-append text rest)) in
    rw (long, take_at text rest n len, drop_at text rest n len) refl

-- ---- numbers

-- numbers of this width go up to the limit
pub record IsWide (w : Width) (limit : ℕ) : Type 0 where
  pub len : (n : ℕ) → length (to_le_bytes w n) ≡ byte_len w
  pub back : (bytes : List ℕ) → length bytes ≡ byte_len w → IsBytes bytes → to_le_bytes w (from_le_bytes w bytes) ≡ bytes
  pub again : (n : ℕ) → n < limit → from_le_bytes w (to_le_bytes w n) ≡ n
  pub below : (bytes : List ℕ) → IsBytes bytes → from_le_bytes w bytes < limit

pub wide32 : IsWide w32 (2 ^ 32)
wide32 = record {
  len = λ n. refl;
  back = λ bytes len fits. le_bytes_4 bytes _ len fits refl;
  again = λ n lt. from_le_bytes-to_le_bytes_4 n lt;
  below = λ bytes fits. omega (arith, fits 0, fits 1, fits 2, fits 3);
}

pub wide64 : IsWide w64 (2 ^ 64)
wide64 = record {
  len = λ n. refl;
  back = λ bytes len fits. le_bytes_8 bytes _ len fits refl;
  again = λ n lt. from_le_bytes-to_le_bytes_8 n lt;
  below = λ bytes fits. omega (arith, fits 0, fits 1, fits 2, fits 3, fits 4, fits 5, fits 6, fits 7);
}

number_takes : (w : Width) (limit : ℕ) → IsWide w limit → (bytes : List ℕ) (x : ℕ × List ℕ) → IsBytes bytes → number_at w bytes ≡ Ok x
    → Takes bytes (to_le_bytes w x.0) x.1 × (nat_lt x.0 limit ≡ true)
unfolding number_at
number_takes w limit wide bytes x fits e =
    let a = bind_parts (bytes_at (byte_len w) bytes) (λ n. Ok (from_le_bytes w n.0, n.1)) x e in
    let t = bytes_take (byte_len w) bytes a.0 fits a.1 in
    let took : Takes bytes (to_le_bytes w (from_le_bytes w a.0.0)) a.0.1 = rw (wide.back a.0.0 t.1 t.2) t.0 in
    subst (λ (y : ℕ × List ℕ). Takes bytes (to_le_bytes w y.0) y.1 × (nat_lt y.0 limit ≡ true)) (done_injective (from_le_bytes w a.0.0, a.0.1) x a.2)
    (took, lt-ltb _ _ (wide.below a.0.0 t.2))

number_again : (w : Width) (limit : ℕ) → IsWide w limit → (n : ℕ) (rest : List ℕ) → nat_lt n limit ≡ true → number_at w (to_le_bytes w n ++ rest) ≡ Ok (n, rest)
unfolding number_at
number_again w limit wide n rest lt = rw (bytes_again (to_le_bytes w n) rest (byte_len w) (wide.len n), wide.again n (ltb-true _ _ lt)) refl

-- a number is read as it is spelled, where it is below the limit
pub number_reads : (w : Width) (limit : ℕ) → IsWide w limit → Reads ℕ (number_at w) (to_le_bytes w) (λ n. nat_lt n limit)
number_reads w limit wide = record { takes = number_takes w limit wide; again = number_again w limit wide }

-- ---- strings

string_takes : (w : Width) (limit : ℕ) → IsWide w limit → (bytes : List ℕ) (x : List ℕ × List ℕ) → IsBytes bytes → string_at w bytes ≡ Ok x
    → Takes bytes (string w x.0) x.1 × (nat_lt (length x.0) limit ≡ true)
unfolding string_at
string_takes w limit wide bytes x fits e =
    let a = bind_parts (number_at w bytes) (λ n. bytes_at n.0 n.1) x e in
    let t = (number_reads w limit wide).takes bytes a.0 fits a.1 in
    let s = bytes_take a.0.0 a.0.1 x t.0.rest_fits a.2 in
    let both = takes_then bytes (to_le_bytes w a.0.0) a.0.1 x.0 x.1 t.0 s.0 in
    (rw s.1 both, lt-ltb _ _ (omega (arith, s.1, ltb-true _ _ t.1)))

string_again : (w : Width) (limit : ℕ) → IsWide w limit → (text rest : List ℕ) → nat_lt (length text) limit ≡ true → string_at w (string w text ++ rest) ≡ Ok (text, rest)
unfolding string_at
string_again w limit wide text rest short =
    ap (string_at w) (append_assoc (to_le_bytes w (length text)) text rest)
    ∙ rw ((number_reads w limit wide).again (length text) (text ++ rest) short) (bytes_again text rest (length text) refl)

-- a string is read as it is spelled, where its length fits
pub string_reads : (w : Width) (limit : ℕ) → IsWide w limit → Reads (List ℕ) (string_at w) (string w) (λ text. nat_lt (length text) limit)
string_reads w limit wide = record { takes = string_takes w limit wide; again = string_again w limit wide }

-- ---- entries one behind the other

pub times_takes : (A : Type 0) (read : Reader A) (spelling : A → List ℕ) (keeps : A → Bool) → Reads A read spelling keeps
    → (n : ℕ) (bytes : List ℕ) (x : List A × List ℕ) → IsBytes bytes → times read n bytes ≡ Ok x
    → Takes bytes (flat_map spelling x.0) x.1 × (length x.0 ≡ n) × (list_all keeps x.0 ≡ true)
unfolding times
times_takes A read spelling keeps reads zero bytes x fits e =
    subst (λ (y : List A × List ℕ). Takes bytes (flat_map spelling y.0) y.1 × (length y.0 ≡ 0) × (list_all keeps y.0 ≡ true)) (done_injective ([], bytes) x e)
    (record { parts = refl; rest_fits = fits }, refl, refl)
times_takes A read spelling keeps reads (suc n) bytes x fits e =
    let a = bind_parts (read bytes) (λ first. times read n first.1 >>= λ others. Ok (first.0 ∷ others.0, others.1)) x e in
    let b = bind_parts (times read n a.0.1) (λ others. Ok (a.0.0 ∷ others.0, others.1)) x a.2 in
    let first = reads.takes bytes a.0 fits a.1 in
    let second = times_takes A read spelling keeps reads n a.0.1 b.0 first.0.rest_fits b.1 in
    let both = takes_then bytes (spelling a.0.0) a.0.1 (flat_map spelling b.0.0) b.0.1 first.0 second.0 in
    subst (λ (y : List A × List ℕ). Takes bytes (flat_map spelling y.0) y.1 × (length y.0 ≡ suc n) × (list_all keeps y.0 ≡ true))
    (done_injective (a.0.0 ∷ b.0.0, b.0.1) x b.2) (rw flat_map-cons both, ap suc second.1, and_from (keeps a.0.0) (list_all keeps b.0.0) first.1 second.2)

pub times_again : (A : Type 0) (read : Reader A) (spelling : A → List ℕ) (keeps : A → Bool) → Reads A read spelling keeps → (xs : List A) (rest : List ℕ)
    → list_all keeps xs ≡ true → times read (length xs) (flat_map spelling xs ++ rest) ≡ Ok (xs, rest)
unfolding times
times_again A read spelling keeps reads [] rest all = refl
times_again A read spelling keeps reads (x ∷ xs) rest all =
    let p = and_parts (keeps x) (list_all keeps xs) all in
    let regrouped : flat_map spelling (x ∷ xs) ++ rest ≡ spelling x
    ++ (flat_map spelling xs ++ rest) = ap (λ (t : List ℕ). t ++ rest) (flat_map-cons spelling x xs) ∙ append_assoc (spelling x) (flat_map spelling xs) rest in
    ap (times read (suc (length xs))) regrouped
    ∙ rw (reads.again x (flat_map spelling xs ++ rest) p.0, times_again A read spelling keeps reads xs rest p.1) refl

-- a table: how many entries, and the entries
abbrev pub all_keep : {A : Type 0} → (A → Bool) → List A → Bool
all_keep keeps xs = is_short xs && list_all keeps xs

table_takes : (A : Type 0) (read : Reader A) (spelling : A → List ℕ) (keeps : A → Bool) → Reads A read spelling keeps
    → (bytes : List ℕ) (x : List A × List ℕ) → IsBytes bytes → table_at read bytes ≡ Ok x
    → Takes bytes (table spelling x.0) x.1 × (all_keep keeps x.0 ≡ true)
unfolding table_at
table_takes A read spelling keeps reads bytes x fits e =
    let a = bind_parts (number_at w32 bytes) (λ n. times read n.0 n.1) x e in
    let t = (number_reads w32 (2 ^ 32) wide32).takes bytes a.0 fits a.1 in
    let s = times_takes A read spelling keeps reads a.0.0 a.0.1 x t.0.rest_fits a.2 in
    let both = takes_then bytes (to_le_bytes w32 a.0.0) a.0.1 (flat_map spelling x.0) x.1 t.0 s.0 in
    (rw s.1 both, and_from (is_short x.0) (list_all keeps x.0) (lt-ltb _ _ (omega (arith, s.1, ltb-true _ _ t.1))) s.2)

table_again : (A : Type 0) (read : Reader A) (spelling : A → List ℕ) (keeps : A → Bool) → Reads A read spelling keeps
    → (xs : List A) (rest : List ℕ) → all_keep keeps xs ≡ true → table_at read (table spelling xs ++ rest) ≡ Ok (xs, rest)
unfolding table_at
table_again A read spelling keeps reads xs rest all =
    let p = and_parts (is_short xs) (list_all keeps xs) all in
    ap (table_at read) (append_assoc (to_le_bytes w32 (length xs)) (flat_map spelling xs) rest)
    ∙ rw ((number_reads w32 (2 ^ 32) wide32).again (length xs) (flat_map spelling xs ++ rest) p.0) (times_again A read spelling keeps reads xs rest p.1)

pub table_reads : (A : Type 0) (read : Reader A) (spelling : A → List ℕ) (keeps : A → Bool) → Reads A read spelling keeps
    → Reads (List A) (table_at read) (table spelling) (all_keep keeps)
table_reads A read spelling keeps reads =
    record { takes = table_takes A read spelling keeps reads; again = table_again A read spelling keeps reads }
