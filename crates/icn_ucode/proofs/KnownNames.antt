-- Sets beside the lists that they are made of.
use Rattle.std.proofs.Common.{◌≡◌, ℕ, Bool, true, false, cond, ◌||◌, List, [], ◌∷◌, ◌++◌, map, refl, sym, ◌∙◌, ap, append_assoc, append-nil}
use Rattle.std.specs.Prelude.{nat_eq}
use Rattle.std.specs.List.{list_any}
use Rattle.std.specs.Str.{bytes_eq}
use Rattle.std.specs.Cmp.Lexicographic.{same_text, other_text}
use Rattle.std.proofs.lemmas.Bool.Decides.{nat_tests}
use Rattle.std.proofs.Common.{arith, Option, None, Some}
use Rattle.icn_unit.specs.declared.unit.ProcCode.{ProcCode}
use Rattle.icn_unit.specs.declared.unit.UnitDecl.{UnitDecl}
use Rattle.icn_unit.specs.declared.unit.UnitInstr.{UnitInstr}
use Rattle.icn_unit.specs.declared.unit.UnitName.{UnitName}
use Rattle.icn_unit.specs.PlainUnits.{entry_names, owned_name, owned_names, proc_names}
use Rattle.icn_unit.specs.UnitRules.{has_label, has_name, is_among, own_labels, own_label, placed_labels}
use Rattle.icn_unit.specs.UnitViews.{decl_seen, proc_seen}
use Rattle.icn_ucode.specs.LabelSets.{with_label, with_place}
use Rattle.icn_tree.specs.NameSets.{with_name}

pub any_last : {A : Type 0} (p : A → Bool) (xs : List A) (x : A) → list_any p (xs ++ x ∷ []) ≡ cond (p x) true (list_any p xs)
any_last p [] x = by_test (p x) where
  by_test : (test : Bool) → (test || false) ≡ cond test true false
  by_test true = refl
  by_test false = refl
any_last p (y ∷ xs) x = ap (λ test. p y || test) (any_last p xs x) ∙ by_tests (p y) (p x) (list_any p xs) where
  by_tests : (a b c : Bool) → (a || cond b true c) ≡ cond b true (a || c)
  by_tests true true c = refl
  by_tests true false c = refl
  by_tests false true c = refl
  by_tests false false c = refl

-- one more, where the test is the same either way round
pub more_among : {A : Type 0} (same : A → A → Bool) (turned : (x y : A) → same x y ≡ same y x) (met : A → Bool) (xs : List A) (x : A) → met ≡ is_among same xs
    → (λ other. cond (same x other) true (met other)) ≡ is_among same (xs ++ x ∷ [])
more_among same turned met xs x known = λ i other. at other i where
  at : (other : _) → cond (same x other) true (met other) ≡ is_among same (xs ++ x ∷ []) other
  at other =
      ap (λ test. cond test true (met other)) (turned x other) ∙ (ap (λ f. cond (same other x) true (f other)) known ∙ sym (any_last (λ y. same other y) xs x))

pub bytes_turned : (xs ys : List ℕ) → bytes_eq xs ys ≡ bytes_eq ys xs
bytes_turned xs ys = by_tests (bytes_eq xs ys) (bytes_eq ys xs) refl refl where
  by_tests : (a b : Bool) → bytes_eq xs ys ≡ a → bytes_eq ys xs ≡ b → a ≡ b
  by_tests true true p q = refl
  by_tests false false p q = refl
  by_tests true false p q = absurd (other_text ys xs (sym q) (sym (same_text xs ys (sym p))))
  by_tests false true p q = absurd (other_text xs ys (sym p) (sym (same_text ys xs (sym q))))

pub nat_turned : (m n : ℕ) → nat_eq m n ≡ nat_eq n m
nat_turned m n = grind (arith, nat_tests)

pub more_names : (met : List ℕ → Bool) (names more : List (List ℕ)) (name : List ℕ) → met ≡ has_name names → more ≡ names ++ name ∷ []
    → with_name met name ≡ has_name more
more_names met names more name known is = more_among bytes_eq bytes_turned met names name known ∙ ap has_name (sym is)

pub more_labels : (met : ℕ → Bool) (labels more : List ℕ) (label : ℕ) → met ≡ has_label labels → more ≡ labels ++ label ∷ []
    → with_label met label ≡ has_label more
more_labels met labels more label known is = more_among nat_eq nat_turned met labels label known ∙ ap has_label (sym is)

-- Procedures, declarations and instructions

pub procs_named : (procs : List ProcCode) (proc : ProcCode)
    → proc_names (map proc_seen (procs ++ proc ∷ [])) ≡ proc_names (map proc_seen procs) ++ proc.name ∷ []
procs_named [] proc = refl
procs_named (first ∷ procs) proc = ap (λ names. first.name ∷ names) (procs_named procs proc)

pub entries_named : (entries : List UnitName) (entry : UnitName) → entry_names (entries ++ entry ∷ []) ≡ entry_names entries ++ entry.name ∷ []
entries_named [] entry = refl
entries_named (first ∷ entries) entry = ap (λ names. first.name ∷ names) (entries_named entries entry)

pub decls_owned : (decls : List UnitDecl) (decl : UnitDecl)
    → owned_names (map decl_seen (decls ++ decl ∷ [])) ≡ owned_names (map decl_seen decls) ++ owned_name (decl_seen decl)
decls_owned [] decl = append-nil (owned_name (decl_seen decl))
decls_owned (first ∷ decls) decl = ap (λ names. owned_name (decl_seen first) ++ names) (decls_owned decls decl)
    ∙ sym (append_assoc (owned_name (decl_seen first)) (owned_names (map decl_seen decls)) (owned_name (decl_seen decl)))

pub more_placed : (instrs : List UnitInstr) (instr : UnitInstr) → placed_labels (instrs ++ instr ∷ []) ≡ placed_labels instrs ++ own_labels (own_label instr)
more_placed [] instr = append-nil (own_labels (own_label instr))
more_placed (first ∷ instrs) instr = ap (λ labels. own_labels (own_label first) ++ labels) (more_placed instrs instr)
    ∙ sym (append_assoc (own_labels (own_label first)) (placed_labels instrs) (own_labels (own_label instr)))

pub places_known : (met : ℕ → Bool) (instrs : List UnitInstr) (instr : UnitInstr) → met ≡ has_label (placed_labels instrs)
    → with_place met (own_label instr) ≡ has_label (placed_labels (instrs ++ instr ∷ []))
places_known met instrs instr known = by_place (own_label instr) (more_placed instrs instr) where
  by_place : (place : Option ℕ) → placed_labels (instrs ++ instr ∷ []) ≡ placed_labels instrs ++ own_labels place
      → with_place met place ≡ has_label (placed_labels (instrs ++ instr ∷ []))
  by_place None is = known ∙ ap has_label (sym (is ∙ append-nil (placed_labels instrs)))
  by_place (Some label) is = more_labels met (placed_labels instrs) _ label known is

pub also_owned : (met : List ℕ → Bool) (decls : List UnitDecl) (decl : UnitDecl) (name : List ℕ) → met ≡ has_name (owned_names (map decl_seen decls))
    → owned_name (decl_seen decl) ≡ name ∷ []
    → with_name met name ≡ has_name (owned_names (map decl_seen (decls ++ decl ∷ [])))
also_owned met decls decl name known one =
    more_names met (owned_names (map decl_seen decls)) _ name known (decls_owned decls decl ∙ ap (λ names. owned_names (map decl_seen decls) ++ names) one)

pub proc_known : (met : List ℕ → Bool) (procs : List ProcCode) (proc : ProcCode) (name : List ℕ) → met ≡ has_name (proc_names (map proc_seen procs))
    → name ≡ proc.name → with_name met name ≡ has_name (proc_names (map proc_seen (procs ++ proc ∷ [])))
proc_known met procs proc name known is = more_names met (proc_names (map proc_seen procs)) _ name known (procs_named procs proc
    ∙ ap (λ name. proc_names (map proc_seen procs) ++ name ∷ []) (sym is))

pub entry_known : (met : List ℕ → Bool) (entries : List UnitName) (entry : UnitName) (name : List ℕ) → met ≡ has_name (entry_names entries) → name ≡ entry.name
    → with_name met name ≡ has_name (entry_names (entries ++ entry ∷ []))
entry_known met entries entry name known is =
    more_names met (entry_names entries) _ name known (entries_named entries entry ∙ ap (λ name. entry_names entries ++ name ∷ []) (sym is))
