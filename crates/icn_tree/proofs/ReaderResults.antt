-- What the readers give once they take enough steps.
use Rattle.std.proofs.Common.{◌≡◌, ℕ, zero, suc, ◌+◌, ◌≤◌, List, Option, Some, refl, sym, ap, ◌∙◌, arith}
use Rattle.std.proofs.lemmas.Option.{same_Some}
use Rattle.icn_tree.specs.declared.token.Token.{Token}
use Rattle.icn_tree.specs.declared.tree.Place.{Place}
use Rattle.icn_tree.specs.Trees.{Tree, Trees, Clauses, LocalDecl}
use Rattle.icn_tree.specs.Phrases.{next}
use Rattle.icn_tree.specs.Grammar.{Separator, BySemicolon}
use Rattle.icn_tree.proofs.Reading.{◌>>=◌, Readers, readers, read_step, climb_step, more_by, more_clauses_by, is_separator, locals_by, local_kind, body_by, is_end}

pub record Gives {A : Type 0} (found : Readers → Option A) (value : A) : Type 0 where
  pub steps : ℕ
  pub is : (n : ℕ) → steps ≤ n → found (readers n) ≡ Some value

-- what a reading gives without the readers it gives
pub gives_at_once : {A : Type 0} (found : Readers → Option A) (value : A) → ((self : Readers) → found self ≡ Some value) → Gives found value
gives_at_once found value e = record { steps = 0; is = λ n h. e (readers n) }

-- a reading and then another one give what the second gives
pub gives_then : {A B : Type 0} (found : Readers → Option A) (rest : A → Readers → Option B) {first : A} {value : B} → Gives found first
    → Gives (rest first) value → Gives (λ self. found self >>= λ x. rest x self) value
gives_then found rest g h =
    record { steps = g.steps + h.steps; is = λ n le. ap (λ found. found >>= λ x. rest x (readers n)) (g.is n (omega arith)) ∙ h.is n (omega arith) }

-- readings that are equal give the same
pub gives_same : {A : Type 0} {found other : Readers → Option A} {value : A} → ((self : Readers) → other self ≡ found self) → Gives found value
    → Gives other value
gives_same e g = record { steps = g.steps; is = λ n le. e (readers n) ∙ g.is n le }

one_value : {A : Type 0} (found : Option A) (a b : A) → found ≡ Some a → found ≡ Some b → a ≡ b
one_value found a b e f = same_Some a b (sym e ∙ f)

pub gives_one : {A : Type 0} (found : Readers → Option A) (a b : A) → Gives found a → Gives found b → a ≡ b
gives_one found a b g h = one_value (found (readers (g.steps + h.steps))) a b (g.is (g.steps + h.steps) (omega arith)) (h.is (g.steps + h.steps) (omega arith))

later : {A : Type 0} (found : Readers → Option A) (value : A) (g : Gives (λ self. found self) value) (other : Readers → Option A)
    → ((n : ℕ) → other (readers (suc n)) ≡ found (readers n)) → Gives other value
later found value g other e = record { steps = suc g.steps; is = by_steps found value g other e }
  where
    by_steps : {A : Type 0} (found : Readers → Option A) (value : A) (g : Gives (λ self. found self) value) (other : Readers → Option A)
        → ((n : ℕ) → other (readers (suc n)) ≡ found (readers n)) → (n : ℕ) → suc g.steps ≤ n → other (readers n) ≡ Some value
    by_steps found value g other e zero le = absurd (omega arith)
    by_steps found value g other e (suc n) le = e n ∙ g.is n (omega arith)

pub reads : (level : ℕ) (tokens : List Token) (value : Tree × List Token) → Gives (λ self. read_step self level tokens) value
    → Gives (λ self. self.read level tokens) value
unfolding readers
reads level tokens value g = later (λ self. read_step self level tokens) value g (λ self. self.read level tokens) (λ n. refl)

pub climbs : (level : ℕ) (place : Place) (tree : Tree) (tokens : List Token) (value : Tree × List Token)
    → Gives (λ self. climb_step self level place tree tokens) value → Gives (λ self. self.climb level place tree tokens) value
unfolding readers
climbs level place tree tokens value g =
    later (λ self. climb_step self level place tree tokens) value g (λ self. self.climb level place tree tokens) (λ n. refl)

pub goes_on_list : (by : Separator) (tokens : List Token) (value : Trees × List Token)
    → Gives (λ self. more_by (is_separator by (next tokens)) self by tokens) value → Gives (λ self. self.more by tokens) value
unfolding readers
goes_on_list by tokens value g = later (λ self. more_by (is_separator by (next tokens)) self by tokens) value g (λ self. self.more by tokens) (λ n. refl)

pub goes_on_clauses : (tokens : List Token) (value : Clauses × List Token)
    → Gives (λ self. more_clauses_by (is_separator BySemicolon (next tokens)) self tokens) value → Gives (λ self. self.more_clauses tokens) value
unfolding readers
goes_on_clauses tokens value g =
    later (λ self. more_clauses_by (is_separator BySemicolon (next tokens)) self tokens) value g (λ self. self.more_clauses tokens) (λ n. refl)

pub goes_on_locals : (tokens : List Token) (value : List LocalDecl × List Token) → Gives (λ self. locals_by (local_kind (next tokens)) self tokens) value
    → Gives (λ self. self.locals tokens) value
unfolding readers
goes_on_locals tokens value g = later (λ self. locals_by (local_kind (next tokens)) self tokens) value g (λ self. self.locals tokens) (λ n. refl)

pub goes_on_body : (tokens : List Token) (value : Trees × List Token) → Gives (λ self. body_by (is_end (next tokens)) self tokens) value
    → Gives (λ self. self.body tokens) value
unfolding readers
goes_on_body tokens value g = later (λ self. body_by (is_end (next tokens)) self tokens) value g (λ self. self.body tokens) (λ n. refl)
