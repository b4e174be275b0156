-- What the rules of tables say of procedures.
use Rattle.std.proofs.Common.{◌≡◌, ℕ, zero, suc, ◌+◌, ◌<◌, ◌≤◌, ◌^◌, Bool, true, false, ◌&&◌, ◌||◌, not, IsTrue, nat_le, nat_lt, List, [], ◌∷◌, length, slice_get, Option, None, Some, refl, sym, ap, ◌∙◌, true≢false, arith}
use Rattle.std.specs.List.{list_all, sum_by}
use Rattle.std.proofs.lemmas.Bool.Decides.{nat_tests}
use Rattle.icn_profile.specs.Numbers.{number_limit}
use Rattle.icn_code.specs.declared.instr.Instr.{Instr}
use Rattle.icn_code.specs.declared.instr.Instr.TheVariants.{Mark, Chfail, Goto, Loop, Init, Create}
use Rattle.icn_code.specs.Codes.{Proc, Tables}
use Rattle.icn_code.specs.Rules.{keeps_rules, is_number, are_counts, are_procs, is_proc, is_head, is_instr}
use Rattle.icn_verify.specs.Rows.{is_within}
use Rattle.icn_verify.specs.ReachingShapes.{AreWithin}
use Rattle.icn_verify.specs.Refusals.{AreBounded}

none_some : {A : Type 0} (a : A) → let none : Option A = None in (none ≡ Some a) → ⊥
none_some a h = cc

some_same : {A : Type 0} (a b : A) → Some a ≡ Some b → a ≡ b
some_same a b h = cc

left : (a b : Bool) → (a && b) ≡ true → a ≡ true
left true b h = refl
left false b h = absurd (true≢false (sym h))

right : (a b : Bool) → (a && b) ≡ true → b ≡ true
right true b h = h
right false b h = absurd (true≢false (sym h))

all_at : {A : Type 0} (test : A → Bool) (xs : List A) (k : ℕ) (x : A) → list_all test xs ≡ true → slice_get xs k ≡ Some x → test x ≡ true
all_at test [] k x h at = absurd (none_some x at)
all_at test (y ∷ ys) zero x h at = ap test (sym (some_same y x at)) ∙ left (test y) (list_all test ys) h
all_at test (y ∷ ys) (suc k) x h at = all_at test ys k x (right (test y) (list_all test ys) h) at

label_within : (tables : Tables) (proc : Proc) (instr : Instr) → is_instr tables proc instr ≡ true → is_within (length proc.instrs) instr ≡ true
label_within tables proc (Mark label) h = h
label_within tables proc (Chfail label) h = h
label_within tables proc (Goto label) h = h
label_within tables proc (Loop label) h = h
label_within tables proc (Init label) h = h
label_within tables proc (Create label) h = h
label_within tables proc _ h = refl

below : (m n : ℕ) → nat_lt m n ≡ true → m < n
below m n h = grind (arith, nat_tests)

at_most : (m n : ℕ) → nat_le m n ≡ true → m ≤ n
at_most m n h = grind (arith, nat_tests)

procs_kept : (tables : Tables) → keeps_rules tables ≡ true → list_all (is_proc tables) tables.procs ≡ true
unfolding keeps_rules
procs_kept tables h = right _ _ h

counts_kept : (tables : Tables) → keeps_rules tables ≡ true → are_counts number_limit tables ≡ true
unfolding keeps_rules
counts_kept tables h = left _ _ (left _ _ (left _ _ (left _ _ (left _ _ (left _ _ (left _ _ (left _ _ h)))))))

-- the last of the seven counts
last_count : (a b c d e f g : Bool) → (a && b && c && d && e && f && g) ≡ true → g ≡ true
last_count a b c d e f g h = right (a && b && c && d && e && f) g h

procs_counted : (tables : Tables) → keeps_rules tables ≡ true → are_procs number_limit tables.procs ≡ true
procs_counted tables h = last_count (is_number (length tables.strings)) (is_number (length tables.csets)) (is_number (length tables.integers))
    (nat_le (length tables.fields) 65535) (nat_le (length tables.records) 65535) (is_number (length tables.globals)) (are_procs number_limit tables.procs)
    (counts_kept tables h)

few_kept : (tables : Tables) → keeps_rules tables ≡ true → length tables.procs ≤ 16777216
few_kept tables h = at_most (length tables.procs) 16777216 (right _ _ (left _ _ (procs_counted tables h)))

-- the procedures have few statics together
pub statics_kept : (tables : Tables) → IsTrue (keeps_rules tables) → sum_by (λ proc. proc.statics) tables.procs ≤ 4294967295
statics_kept tables kept = at_most (sum_by (λ proc. proc.statics) tables.procs) 4294967295 (right _ _ (procs_counted tables kept))

head_short : (strings : ℕ) (proc : Proc) → is_head strings proc ≡ true → length proc.instrs < 2 ^ 32
head_short strings proc h =
    below (length proc.instrs) (2 ^ 32)
    (right (nat_lt proc.name strings && (not proc.collects || nat_lt 0 proc.parameters) && nat_le (proc.parameters + proc.locals) 65535 && nat_le proc.statics 65535)
    (nat_lt (length proc.instrs) (2 ^ 32)) h)

-- tables that keep the rules are within the bounds of codes
pub tables_are_bounded : (tables : Tables) → IsTrue (keeps_rules tables) → AreBounded tables.procs
tables_are_bounded tables kept = record { few = few_kept tables kept; short = short; labels = labels }
  where
    holds : keeps_rules tables ≡ true
    holds = kept

    proc_kept : (number : ℕ) (proc : Proc) → slice_get tables.procs number ≡ Some proc → is_proc tables proc ≡ true
    proc_kept number proc at = all_at (is_proc tables) tables.procs number proc (procs_kept tables holds) at

    short : (number : ℕ) (proc : Proc) → slice_get tables.procs number ≡ Some proc → length proc.instrs < 2 ^ 32
    short number proc at = head_short (length tables.strings) proc
        (left (is_head (length tables.strings) proc) (list_all (is_instr tables proc) proc.instrs) (proc_kept number proc at))

    labels : (number : ℕ) (proc : Proc) → slice_get tables.procs number ≡ Some proc → AreWithin proc.instrs
    labels number proc at = record {
      each = λ place instr stands. label_within tables proc instr (all_at (is_instr tables proc) proc.instrs place instr
          (right (is_head (length tables.strings) proc) (list_all (is_instr tables proc) proc.instrs) (proc_kept number proc at)) stands);
    }
