-- What positions mean, as the rest of a row finds it, and the part of a text that is given.
use Rattle.std.proofs.Common.{◌≡◌, ◌∙◌, sym, ap, ℕ, ◌≤◌, ℤ, nat_le, List, Option, Some}
use Rattle.std.proofs.lemmas.Bool.{le-leb}
use Rattle.icn_value.specs.Values.{Value, Variable, Item}
use Rattle.icn_value.specs.Store.{Setting}
use Rattle.icn_defs.specs.Conversions.{position_of}
use Rattle.icn_defs.specs.Elements.{part_item, text_variable}
use Rattle.icn_defs.specs.Rows.{Row, Outcome, Gives, thing_or_failure, gives, fails_unless}
use Rattle.icn_defs.specs.Variables.{element_position, places}

-- Elements

pub element_found : (n : ℤ) (size place : ℕ) (next : ℕ → Row) (s : Setting) → Some place ≡ position_of n size → place ≤ size
    → element_position n size next s ≡ next place s
element_found n size place next s is within =
    ap (λ one. thing_or_failure one (λ p. fails_unless (nat_le p size) (next p)) s) (sym is)
    ∙ ap (λ t. fails_unless t (next place) s) (le-leb place size within)

-- Integers and sizes as they are held

-- the place of an element depends on the integer and the size alone
pub element_held : (n n' : ℤ) (size size' : ℕ) (next : ℕ → Row) (s : Setting) (outcome : Outcome) → n' ≡ n → size' ≡ size
    → element_position n' size' next s ≡ outcome
    → element_position n size next s ≡ outcome
element_held n n' size size' next s outcome same same' is =
    sym (ap (λ k. element_position k size' next s) same ∙ ap (λ k. element_position n k next s) same') ∙ is

pub places_held : (m m' n n' : ℤ) (size size' : ℕ) (next : ℕ × ℕ → Row) (s : Setting) (outcome : Outcome) → m' ≡ m → n' ≡ n → size' ≡ size
    → places m' n' size' next s ≡ outcome
    → places m n size next s ≡ outcome
places_held m m' n n' size size' next s outcome first second same is =
    sym (ap (λ k. places k n' size' next s) first ∙ (ap (λ k. places m k size' next s) second ∙ ap (λ k. places m n k next s) same)) ∙ is

-- Parts of texts

-- the part that is given, by what is known of the text, of what holds it, and of the item that was made
pub part_given : (x x' : Item) (v v' : Value) (text text' : List ℕ) (holder : Option Variable) (item : Item) (place size : ℕ) (s : Setting)
    → item ≡ part_item holder text' place size
    → holder ≡ text_variable x' v' → x' ≡ x → v' ≡ v → text' ≡ text → gives (part_item (text_variable x v) text place size) s ≡ Gives item s
part_given x x' v v' text text' holder item place size s is hold one two three =
    sym (ap (λ i. Gives i s) (is
    ∙ (ap (λ h. part_item h text' place size) (hold ∙ (ap (λ y. text_variable y v') one ∙ ap (text_variable x) two))
    ∙ ap (λ t. part_item (text_variable x v) t place size) three)))
