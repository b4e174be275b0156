-- Faults of linking are rules, and where there is none the image is within its bound.
use Rattle.std.proofs.Common.{◌≡◌, ℕ, suc, ◌≤◌, Bool, true, false, cond, List, [], ◌∷◌, ◌++◌, nat_lt, length, IfSome, Option, None, Some, refl, sym, ap, ◌∙◌, arith}
use Rattle.std.specs.Prelude.{find}
use Rattle.std.specs.List.{sum_by}
use Rattle.std.specs.Option.{option_map, option_or}
use Rattle.std.proofs.lemmas.Bool.Decides.{nat_tests}
use Rattle.std.proofs.lemmas.Option.{none-some}
use Rattle.icn_unit.specs.PlainUnits.{PlainProc, PlainDecl, UnitRead, owned_names}
use Rattle.icn_image.specs.Spelling.{image_of}
use Rattle.icn_link.specs.declared.fault.LinkFault.{LinkFault}
use Rattle.icn_link.specs.declared.fault.LinkFault.TheVariants.{NoMemory}
use Rattle.icn_link.specs.Joined.{joined_code, joined_of}
use Rattle.icn_link.specs.LinkFaults.{all_statics, kind_counts, Owner, count_fault, first_fault, local_counts, missing_unit, missing_fault, missing_from, missing_in, over, owner_named, owners_from, record_sizes, repeat_of, repeated_name, repeated_from, size_of, static_counts, table_sizes, too_large_of, unit_names, unknown_fault, unknown_from, unknown_in, unknown_name}
use Rattle.icn_link.specs.Mentions.{globals, all_mentions}
use Rattle.icn_link.specs.Units.{all_decls, all_procs}

-- Faults of linking

abbrev IsNoWant : Option LinkFault → Type 0
IsNoWant fault = IfSome fault (λ f. f ≡ NoMemory → ⊥)

or_none : (a b : Option LinkFault) → IsNoWant a → IsNoWant b → IsNoWant (option_or a b)
or_none None b h k = k
or_none (Some fault) b h k = h

mapped : {A : Type 0} (f : A → LinkFault) (o : Option A) → ((x : A) → f x ≡ NoMemory → ⊥) → IsNoWant (option_map f o)
mapped f None h = tt
mapped f (Some x) h = h x

missing_none : (names : List (List ℕ)) (place : ℕ) (units : List UnitRead) → IsNoWant (missing_from names place units)
missing_none names place [] = tt
missing_none names place (unit ∷ units) = or_none (option_map (missing_fault place) (missing_in names unit.decls)) (missing_from names (suc place) units)
    (mapped (missing_fault place) (missing_in names unit.decls) (λ x e. cc)) (missing_none names (suc place) units)

repeated_none : (before owners : List Owner) → IsNoWant (repeated_from before owners)
repeated_none before [] = tt
repeated_none before (next ∷ others) = or_none (option_map (repeat_of next) (owner_named next.name before)) (repeated_from (before ++ next ∷ []) others)
    (mapped (repeat_of next) (owner_named next.name before) (λ x e. cc)) (repeated_none (before ++ next ∷ []) others)

unknown_none : (owned : List (List ℕ)) (place : ℕ) (units : List UnitRead) → IsNoWant (unknown_from owned place units)
unknown_none owned place [] = tt
unknown_none owned place (unit ∷ units) = or_none (option_map (unknown_fault place) (unknown_in owned unit.decls)) (unknown_from owned (suc place) units)
    (mapped (unknown_fault place) (unknown_in owned unit.decls) (λ x e. cc)) (unknown_none owned (suc place) units)

over_none : (most : ℕ) (counts : List ℕ) → IsNoWant (over most counts)
over_none most counts = mapped count_fault (find (λ count. nat_lt most count) counts) (λ n e. cc)

-- the parts of what may be too large, in their order, and what stands behind each
abbrev instrs : List PlainProc → Option LinkFault
instrs procs = over 16777216 (sum_by size_of procs ∷ [])

abbrev entries : List PlainDecl → List PlainProc → Option LinkFault
entries decls procs = over 16777216 (table_sizes (all_mentions decls procs) decls procs)

abbrev together : List PlainDecl → List PlainProc → Option LinkFault
together decls procs = over 4294967295 (all_statics (globals decls procs) procs ∷ [])

abbrev kinds : List PlainDecl → List PlainProc → Option LinkFault
kinds decls procs = over 65535 (kind_counts (all_mentions decls procs) decls)

abbrev fields : List PlainDecl → Option LinkFault
fields decls = over 65535 (record_sizes decls)

abbrev locals : List PlainDecl → List PlainProc → Option LinkFault
locals decls procs = over 65535 (local_counts (globals decls procs) procs)

abbrev statics : List PlainDecl → List PlainProc → Option LinkFault
statics decls procs = over 65535 (static_counts (globals decls procs) procs)

abbrev bytes : List PlainDecl → List PlainProc → Option LinkFault
bytes decls procs = over 1073741824 (length (image_of (joined_of decls procs)) ∷ [])

abbrev behind_locals : List PlainDecl → List PlainProc → Option LinkFault
behind_locals decls procs = option_or (statics decls procs) (bytes decls procs)

abbrev behind_fields : List PlainDecl → List PlainProc → Option LinkFault
behind_fields decls procs = option_or (locals decls procs) (behind_locals decls procs)

abbrev behind_kinds : List PlainDecl → List PlainProc → Option LinkFault
behind_kinds decls procs = option_or (fields decls) (behind_fields decls procs)

abbrev behind_together : List PlainDecl → List PlainProc → Option LinkFault
behind_together decls procs = option_or (kinds decls procs) (behind_kinds decls procs)

abbrev behind_entries : List PlainDecl → List PlainProc → Option LinkFault
behind_entries decls procs = option_or (together decls procs) (behind_together decls procs)

abbrev behind_instrs : List PlainDecl → List PlainProc → Option LinkFault
behind_instrs decls procs = option_or (entries decls procs) (behind_entries decls procs)

large_none : (decls : List PlainDecl) (procs : List PlainProc) → IsNoWant (too_large_of decls procs)
large_none D P = or_none (instrs P) (behind_instrs D P) (over_none 16777216 (sum_by size_of P ∷ []))
    (or_none (entries D P) (behind_entries D P) (over_none 16777216 (table_sizes (all_mentions D P) D P))
    (or_none (together D P) (behind_together D P) (over_none 4294967295 (all_statics (globals D P) P ∷ []))
    (or_none (kinds D P) (behind_kinds D P) (over_none 65535 (kind_counts (all_mentions D P) D))
    (or_none (fields D) (behind_fields D P) (over_none 65535 (record_sizes D))
    (or_none (locals D P) (behind_locals D P) (over_none 65535 (local_counts (globals D P) P))
    (or_none (statics D P) (bytes D P) (over_none 65535 (static_counts (globals D P) P))
    (over_none 1073741824 (length (image_of (joined_of D P)) ∷ []))))))))

abbrev large : List UnitRead → Option LinkFault
large units = too_large_of (all_decls units) (all_procs units)

abbrev behind_repeats : List UnitRead → Option LinkFault
behind_repeats units = option_or (unknown_name units) (large units)

first_none : (units : List UnitRead) → IsNoWant (first_fault units)
first_none units = or_none (missing_unit units) (option_or (repeated_name units) (behind_repeats units)) (missing_none (unit_names units) 0 units)
    (or_none (repeated_name units) (behind_repeats units) (repeated_none [] (owners_from 0 units))
    (or_none (unknown_name units) (large units) (unknown_none (owned_names (all_decls units)) 0 units) (large_none (all_decls units) (all_procs units))))

-- no unit has a fault that is want of memory
pub faults_are_rules : {A : Type 0} (units : List UnitRead) → first_fault units ≡ Some NoMemory → A
faults_are_rules units e = absurd (rw e at (first_none units) refl)

-- Images

right_none : (a b : Option LinkFault) → option_or a b ≡ None → b ≡ None
right_none None b e = e
right_none (Some fault) b e = absurd (none-some fault (sym e))

within_count : (most count : ℕ) → over most (count ∷ []) ≡ None → count ≤ most
within_count most count e = by_test (nat_lt most count) refl where
  by_test : (test : Bool) → nat_lt most count ≡ test → count ≤ most
  by_test true t = absurd (none-some (count_fault count) (sym e ∙ ap (λ test. option_map count_fault (cond test (Some count) None)) t))
  by_test false t = grind (arith, nat_tests)

image_counted : (decls : List PlainDecl) (procs : List PlainProc) → too_large_of decls procs ≡ None → bytes decls procs ≡ None
image_counted D P e = right_none (statics D P) (bytes D P) (right_none (locals D P) (behind_locals D P) (right_none (fields D) (behind_fields D P)
    (right_none (kinds D P) (behind_kinds D P) (right_none (together D P) (behind_together D P) (right_none (entries D P) (behind_entries D P) (right_none (instrs P) (behind_instrs D P) e))))))

-- where the linker finds no fault, the image of the code with all procedures is within the bound
pub image_within : (units : List UnitRead) → first_fault units ≡ None → length (image_of (joined_code units)) ≤ 1073741824
image_within units e = within_count 1073741824 (length (image_of (joined_code units))) (image_counted (all_decls units) (all_procs units)
    (right_none (unknown_name units) (large units) (right_none (repeated_name units) (behind_repeats units)
    (right_none (missing_unit units) (option_or (repeated_name units) (behind_repeats units)) e))))
