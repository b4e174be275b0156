-- The codes of the tests keep the rules of tables.
use Rattle.std.proofs.Common.{◌≡◌, ℕ, pos, zero, suc, ◌<◌, ◌≤◌, ◌^◌, Bool, true, false, ◌&&◌, nat_le, nat_lt, List, [], ◌∷◌, ◌++◌, length, slice_get, Option, None, Some, refl, sym, ap, subst, ◌∙◌, true≢false, arith, leb-true, ◌*◌, sum_by, length-append}
use Rattle.std.specs.List.{list_all}
use Rattle.std.proofs.lemmas.List.{length-map, map-append}
use Rattle.std.proofs.lemmas.List.Sums.{sum_by-cons}
use Rattle.std.proofs.lemmas.Bool.Decides.{nat_tests}
use Rattle.icn_text.specs.declared.func.Func.TheVariants.{Write}
use Rattle.icn_code.specs.declared.instr.Instr.{Instr}
use Rattle.icn_code.specs.declared.instr.Instr.TheVariants.{Int, Str, Cset, Local, Static, Global, Llist, Field, Invoke, Mark, Chfail, Goto, Loop, Init, Create}
use Rattle.icn_code.specs.declared.code.Start.{Start}
use Rattle.icn_code.specs.declared.code.Start.TheVariants.{Function}
use Rattle.icn_code.specs.declared.code.LinkedProcedure.{LinkedProcedure}
use Rattle.icn_code.specs.Codes.{Proc, Tables, proc_of, procs_of}
use Rattle.icn_code.specs.Rules.{keeps_rules, is_instr, is_proc, is_start}
use Rattle.test_code.specs.Known.{is_known, AreSized, IsKnown, AreKnown}

none_some : {A : Type 0} (a : A) → let none : Option A = None in (none ≡ Some a) → ⊥
none_some a h = cc

some_same : {A : Type 0} (a b : A) → Some a ≡ Some b → a ≡ b
some_same a b h = cc

both : (a b : Bool) → a ≡ true → b ≡ true → (a && b) ≡ true
both true b h k = k
both false b h k = absurd (true≢false (sym h))

left : (a b : Bool) → (a && b) ≡ true → a ≡ true
left true b h = refl
left false b h = absurd (true≢false (sym h))

right : (a b : Bool) → (a && b) ≡ true → b ≡ true
right true b h = h
right false b h = absurd (true≢false (sym h))

is_below : (m n : ℕ) → m < n → nat_lt m n ≡ true
is_below m n h = grind (arith, nat_tests)

small_number : (n : ℕ) → nat_le n 65535 ≡ true → nat_lt n (2 ^ 32) ≡ true
small_number n h = is_below n (2 ^ 32) (omega (arith, leb-true n 65535 h))

known_instr : (tables : Tables) (proc : Proc) (count : ℕ) → AreSized tables → length proc.instrs ≡ count → (instr : Instr) → is_known count instr ≡ true
    → is_instr tables proc instr ≡ true
known_instr tables proc count sized long (Int place) h = ap (nat_lt place) sized.integers ∙ h
known_instr tables proc count sized long (Str place) h = ap (nat_lt place) sized.strings ∙ h
known_instr tables proc count sized long (Cset place) h = absurd (true≢false (sym h))
known_instr tables proc count sized long (Local place) h = absurd (true≢false (sym h))
known_instr tables proc count sized long (Static place) h = absurd (true≢false (sym h))
known_instr tables proc count sized long (Global place) h = ap (nat_lt place) sized.globals ∙ h
known_instr tables proc count sized long (Llist operands) h = small_number operands h
known_instr tables proc count sized long (Field place) h = ap (nat_lt place) sized.fields ∙ h
known_instr tables proc count sized long (Invoke operands) h = small_number operands h
known_instr tables proc count sized long (Mark label) h = ap (nat_le label) long ∙ h
known_instr tables proc count sized long (Chfail label) h = ap (nat_le label) long ∙ h
known_instr tables proc count sized long (Goto label) h = ap (nat_le label) long ∙ h
known_instr tables proc count sized long (Loop label) h = ap (nat_le label) long ∙ h
known_instr tables proc count sized long (Init label) h = ap (nat_le label) long ∙ h
known_instr tables proc count sized long (Create label) h = ap (nat_le label) long ∙ h
known_instr tables proc count sized long _ h = refl

known_instrs : (tables : Tables) (proc : Proc) (count : ℕ) → AreSized tables → length proc.instrs ≡ count → (instrs : List Instr)
    → list_all (is_known count) instrs ≡ true → list_all (is_instr tables proc) instrs ≡ true
known_instrs tables proc count sized long [] h = refl
known_instrs tables proc count sized long (instr ∷ instrs) h =
    both (is_instr tables proc instr) (list_all (is_instr tables proc) instrs)
    (known_instr tables proc count sized long instr (left (is_known count instr) (list_all (is_known count) instrs) h))
    (known_instrs tables proc count sized long instrs (right (is_known count instr) (list_all (is_known count) instrs) h))

is_at_most : (m n : ℕ) → m ≤ n → nat_le m n ≡ true
is_at_most m n h = grind (arith, nat_tests)

plain_proc : List Instr → Proc
plain_proc instrs = record { name = 0; parameters = 0; collects = false; locals = 0; statics = 0; instrs = instrs }

pub known_proc : (instrs : List Instr) → length instrs < 2 ^ 32 → list_all (is_known (length instrs)) instrs ≡ true
    → let proc : Proc = record { name = 0; parameters = 0; collects = false; locals = 0; statics = 0; instrs = instrs } in IsKnown proc
known_proc instrs short h = record {
  is = λ tables sized.
      both _ _ (both _ _ (ap (λ n. nat_lt 0 n && true && true && true) sized.strings) (is_below (length instrs) (2 ^ 32) short))
      (known_instrs tables (record { name = 0; parameters = 0; collects = false; locals = 0; statics = 0; instrs = instrs })
      (length instrs) sized refl instrs h);
}

all_known : (tables : Tables) → AreSized tables → (procs : List Proc) → ((number : ℕ) (proc : Proc) → slice_get procs number ≡ Some proc → IsKnown proc)
    → list_all (is_proc tables) procs ≡ true
all_known tables sized [] each = refl
all_known tables sized (proc ∷ procs) each =
    both (is_proc tables proc) (list_all (is_proc tables) procs) ((each 0 proc refl).is tables sized)
    (all_known tables sized procs (λ number other at. each (suc number) other at))

pub known_none : AreKnown []
known_none = record { few = omega arith; each = λ number proc at. absurd (none_some proc at) }

get_push : {A : Type 0} (xs : List A) (x y : A) (place : ℕ) → (P : A → Type 0) → ((k : ℕ) (z : A) → slice_get xs k ≡ Some z → P z) → P x
    → slice_get (xs ++ x ∷ []) place ≡ Some y → P y
get_push [] x y zero P each here at = subst P (some_same x y at) here
get_push [] x y (suc place) P each here at = absurd (none_some y at)
get_push (z ∷ xs) x y zero P each here at = each 0 y at
get_push (z ∷ xs) x y (suc place) P each here at = get_push xs x y place P (λ k w h. each (suc k) w h) here at

pub known_push : (procs : List LinkedProcedure) (proc : LinkedProcedure) → AreKnown (procs_of procs) → (length procs ≡ 65535 → ⊥) → IsKnown (proc_of proc)
    → AreKnown (procs_of (procs ++ proc ∷ []))
known_push procs proc known room here =
    subst AreKnown (sym (map-append proc_of procs (proc ∷ []))) (record {
      few = (let long = length-append (procs_of procs) (proc_of proc ∷ []) in let count = length-map procs proc_of in let few = known.few in omega arith);
      each = λ number other at. get_push (procs_of procs) (proc_of proc) other number IsKnown known.each here at;
    })

-- the tables of the tests
abbrev pub test_tables : Start → List Proc → Tables
test_tables start procs = record {
  strings = (109 ∷ 97 ∷ 105 ∷ 110 ∷ []) ∷ (119 ∷ 114 ∷ 105 ∷ 116 ∷ 101 ∷ []) ∷ (104 ∷ 105 ∷ []) ∷ [];
  csets = [];
  integers = pos 5 ∷ [];
  fields = 0 ∷ [];
  records = [];
  globals = (record { name = 0; start = start }) ∷ (record { name = 1; start = Function Write }) ∷ [];
  procs = procs;
}

four : (a b c d : Bool) → a ≡ true → b ≡ true → c ≡ true → d ≡ true → (a && b && c && d) ≡ true
four a b c d h k l m = both (a && b && c) d (both (a && b) c (both a b h k) l) m

few_of : (tables : Tables) (entry : Proc) → is_proc tables entry ≡ true → entry.statics ≤ 65535
few_of tables entry e = leb-true _ _ (right _ _ (left _ _ (left _ _ e)))

few_sum : (tables : Tables) (procs : List Proc) → list_all (is_proc tables) procs ≡ true → sum_by (λ (p : Proc). p.statics) procs ≤ 65535 * length procs
few_sum tables [] h = omega arith
few_sum tables (p ∷ procs) h =
    let one = few_of tables p (left (is_proc tables p) (list_all (is_proc tables) procs) h) in
    let rest = few_sum tables procs (right (is_proc tables p) (list_all (is_proc tables) procs) h) in
    omega (arith, one, rest, sum_by-cons (λ (q : Proc). q.statics) p procs)

pub test_rules : (start : Start) (procs : List Proc) → is_start 0 (length procs) start ≡ true → AreKnown procs → keeps_rules (test_tables start procs) ≡ true
unfolding keeps_rules
test_rules start procs starts known =
    let fit = all_known (test_tables start procs) (record { strings = refl; integers = refl; fields = refl; globals = refl }) procs known.each in
    let few = known.few in
    let sum = few_sum (test_tables start procs) procs fit in
    let counted = both _ _ (both _ _ (is_below (length procs) (2 ^ 32) (omega (arith, few))) (is_at_most (length procs) 16777216 (omega (arith, few))))
    (is_at_most (sum_by (λ (p : Proc). p.statics) procs) 4294967295 (omega (arith, few, sum))) in
    both _ _ (both _ _ (both _ _ (both _ _ (both _ _ (both _ _ (both _ _ (both _ _ counted refl) refl) refl) refl) refl)
    (both _ _ starts refl)) refl)
    fit
