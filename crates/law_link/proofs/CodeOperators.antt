-- Operators: what they are in both translations, and what they give.
use Rattle.std.proofs.Common.{◌≡◌, ℕ, ◌+◌, List, [], ◌∷◌, ◌++◌, Option, Some, None, option_map, refl, sym, ap, append_assoc, arith}
use Rattle.icn_text.specs.declared.op.Op.TheVariants as O
use Rattle.icn_tree.specs.declared.token.Operator.{Operator}
use Rattle.icn_tree.specs.declared.token.Operator.TheVariants as Signs
use Rattle.icn_tree.specs.declared.tree.SectionKind.{SectionKind}
use Rattle.icn_tree.specs.declared.tree.SectionKind.TheVariants.{Between, Forward, Backward}
use Rattle.icn_code.specs.declared.instr.Instr.{Instr}
use Rattle.icn_code.specs.declared.instr.Instr.TheVariants as I
use Rattle.icn_unit.specs.declared.unit.UnitInstr.TheVariants as U
use Rattle.icn_translate.specs.declared.forms.InfixForm.{InfixForm}
use Rattle.icn_translate.specs.declared.forms.InfixForm.TheVariants as Infixes
use Rattle.icn_translate.specs.declared.forms.UpdateForm.{UpdateForm}
use Rattle.icn_translate.specs.declared.forms.UpdateForm.TheVariants as Updates
use Rattle.icn_translate.specs.declared.forms.PrefixForm.{PrefixForm}
use Rattle.icn_translate.specs.declared.forms.PrefixForm.TheVariants as Prefixes
use Rattle.icn_translate.specs.Drafts.{Draft}
use Rattle.icn_translate.specs.Instructions.{section_op, infix_form, update_form, prefix_form}
use Rattle.icn_translate.specs.Translation.{prefix_by, plain_form, augmented_form}
use Rattle.icn_link.specs.Resolving.{Scope}
use Rattle.law_simulation.specs.Translation as X
use Rattle.law_link.proofs.CodeSteps.{Gives, no_facts, gives_nothing, gives_instruction, ◌⨾◌, given_as}
use Rattle.law_link.proofs.CodeParts.{repetition_gives, either_gives}

pub section_same : (kind : SectionKind) → section_op kind ≡ X.section_op kind
section_same Between = refl
section_same Forward = refl
section_same Backward = refl

abbrev pub applied : InfixForm → X.BinaryForm
applied Infixes.Both = X.Both
applied Infixes.Scanning = X.Scanning
applied Infixes.Either = X.Either
applied Infixes.Limiting = X.Limiting
applied Infixes.Activating = X.Applying I.Coact
applied Infixes.Spreading = X.Applying I.Appl
applied (Infixes.Operating op) = X.Applying (I.Op op)

pub form_same : (operator : Operator) → option_map applied (infix_form operator) ≡ X.form_of operator
form_same Signs.Bang = refl
form_same Signs.At = refl
form_same Signs.Ampersand = refl
form_same Signs.Star = refl
form_same Signs.StarStar = refl
form_same Signs.Plus = refl
form_same Signs.PlusPlus = refl
form_same Signs.Minus = refl
form_same Signs.MinusMinus = refl
form_same Signs.Slash = refl
form_same Signs.Percent = refl
form_same Signs.Backslash = refl
form_same Signs.Caret = refl
form_same Signs.Bar = refl
form_same Signs.BarBar = refl
form_same Signs.BarBarBar = refl
form_same Signs.Dot = refl
form_same Signs.Question = refl
form_same Signs.Tilde = refl
form_same Signs.Equal = refl
form_same Signs.NotEqual = refl
form_same Signs.EqualEqual = refl
form_same Signs.NotEqualEqual = refl
form_same Signs.EqualEqualEqual = refl
form_same Signs.NotEqualEqualEqual = refl
form_same Signs.Less = refl
form_same Signs.LessEqual = refl
form_same Signs.Greater = refl
form_same Signs.GreaterEqual = refl
form_same Signs.LessLess = refl
form_same Signs.LessLessEqual = refl
form_same Signs.GreaterGreater = refl
form_same Signs.GreaterGreaterEqual = refl
form_same Signs.Assign = refl
form_same Signs.Swap = refl
form_same Signs.ReversibleAssign = refl
form_same Signs.ReversibleSwap = refl

abbrev pub applied_update : UpdateForm → X.UpdateForm
applied_update Updates.Both = X.UpdatesBoth
applied_update Updates.Scanning = X.UpdatesScanning
applied_update Updates.Activating = X.UpdatesBy I.Coact
applied_update (Updates.Operating op) = X.UpdatesBy (I.Op op)

pub update_same : (operator : Operator) → option_map applied_update (update_form operator) ≡ X.update_of operator
update_same Signs.Bang = refl
update_same Signs.At = refl
update_same Signs.Ampersand = refl
update_same Signs.Star = refl
update_same Signs.StarStar = refl
update_same Signs.Plus = refl
update_same Signs.PlusPlus = refl
update_same Signs.Minus = refl
update_same Signs.MinusMinus = refl
update_same Signs.Slash = refl
update_same Signs.Percent = refl
update_same Signs.Backslash = refl
update_same Signs.Caret = refl
update_same Signs.Bar = refl
update_same Signs.BarBar = refl
update_same Signs.BarBarBar = refl
update_same Signs.Dot = refl
update_same Signs.Question = refl
update_same Signs.Tilde = refl
update_same Signs.Equal = refl
update_same Signs.NotEqual = refl
update_same Signs.EqualEqual = refl
update_same Signs.NotEqualEqual = refl
update_same Signs.EqualEqualEqual = refl
update_same Signs.NotEqualEqualEqual = refl
update_same Signs.Less = refl
update_same Signs.LessEqual = refl
update_same Signs.Greater = refl
update_same Signs.GreaterEqual = refl
update_same Signs.LessLess = refl
update_same Signs.LessLessEqual = refl
update_same Signs.GreaterGreater = refl
update_same Signs.GreaterGreaterEqual = refl
update_same Signs.Assign = refl
update_same Signs.Swap = refl
update_same Signs.ReversibleAssign = refl
update_same Signs.ReversibleSwap = refl

abbrev pub applied_prefix : PrefixForm → X.PrefixForm
applied_prefix Prefixes.Activation = X.Activating
applied_prefix Prefixes.Repetition = X.Repeating
applied_prefix (Prefixes.Operation op) = X.Operating op

pub prefix_same : (operator : Operator) → option_map applied_prefix (prefix_form operator) ≡ X.prefix_of operator
prefix_same Signs.Bang = refl
prefix_same Signs.At = refl
prefix_same Signs.Ampersand = refl
prefix_same Signs.Star = refl
prefix_same Signs.StarStar = refl
prefix_same Signs.Plus = refl
prefix_same Signs.PlusPlus = refl
prefix_same Signs.Minus = refl
prefix_same Signs.MinusMinus = refl
prefix_same Signs.Slash = refl
prefix_same Signs.Percent = refl
prefix_same Signs.Backslash = refl
prefix_same Signs.Caret = refl
prefix_same Signs.Bar = refl
prefix_same Signs.BarBar = refl
prefix_same Signs.BarBarBar = refl
prefix_same Signs.Dot = refl
prefix_same Signs.Question = refl
prefix_same Signs.Tilde = refl
prefix_same Signs.Equal = refl
prefix_same Signs.NotEqual = refl
prefix_same Signs.EqualEqual = refl
prefix_same Signs.NotEqualEqual = refl
prefix_same Signs.EqualEqualEqual = refl
prefix_same Signs.NotEqualEqualEqual = refl
prefix_same Signs.Less = refl
prefix_same Signs.LessEqual = refl
prefix_same Signs.Greater = refl
prefix_same Signs.GreaterEqual = refl
prefix_same Signs.LessLess = refl
prefix_same Signs.LessLessEqual = refl
prefix_same Signs.GreaterGreater = refl
prefix_same Signs.GreaterGreaterEqual = refl
prefix_same Signs.Assign = refl
prefix_same Signs.Swap = refl
prefix_same Signs.ReversibleAssign = refl
prefix_same Signs.ReversibleSwap = refl

-- What operands and an operator give, where the second operand is the first one in a mark.

module _ {S : Scope} {F : List (List ℕ)} {W : List X.LoopExits} {E : List ℕ} where
  pub prefix_gives : (form : Option PrefixForm) {s t : Draft → Draft} {a m : ℕ} {c k : ℕ → List Instr} → Gives S F W E s a c no_facts → Gives S F W E t m k no_facts
      → Gives S F W E (prefix_by form s t) (X.prefix_size (option_map applied_prefix form) a m)
      (X.prefix_code (option_map applied_prefix form) c k) no_facts
  prefix_gives None x y = gives_nothing
  prefix_gives (Some Prefixes.Activation) x y = given_as (gives_instruction U.Pnull refl ⨾ x ⨾ gives_instruction U.Coact refl) (omega arith) (λ p f. (refl, tt))
  prefix_gives (Some Prefixes.Repetition) {s = s} x y = repetition_gives s y
  prefix_gives (Some (Prefixes.Operation op)) x y = given_as (x ⨾ gives_instruction (U.Op op) refl) refl (λ p f. (refl, tt))

  pub plain_gives : (form : Option InfixForm) {s t r : Draft → Draft} {a m b : ℕ} {c k q : ℕ → List Instr} → Gives S F W E s a c no_facts
      → Gives S F W E t m k no_facts
      → Gives S F W E r b q no_facts
      → Gives S F W E (plain_form form s t r) (X.plain_size (option_map applied form) a m b)
      (X.plain_code (option_map applied form) a m b c k q) no_facts
  plain_gives None x y z = gives_nothing
  plain_gives (Some Infixes.Both) x y z = given_as (x ⨾ gives_instruction U.Pop refl ⨾ z) (omega arith) (λ p f. (refl, tt))
  plain_gives (Some Infixes.Scanning) {a = a} {c = c} {q = q} x y z =
      given_as (x ⨾ gives_instruction U.Bscan refl ⨾ z ⨾ gives_instruction U.Escan refl) (omega arith)
      (λ p f. (sym (append_assoc (c p) (I.Bscan ∷ q (p + a + 1)) (I.Escan ∷ [])), tt))
  plain_gives (Some Infixes.Either) {s = s} x y z = either_gives s y z
  plain_gives (Some Infixes.Limiting) {b = b} {k = k} {q = q} x y z =
      given_as (z ⨾ gives_instruction U.Limit refl ⨾ y ⨾ gives_instruction U.Lsusp refl) (omega arith)
      (λ p f. (sym (append_assoc (q p) (I.Limit ∷ k (p + b + 1)) (I.Lsusp ∷ [])), tt))
  plain_gives (Some Infixes.Activating) x y z = given_as (x ⨾ z ⨾ gives_instruction U.Coact refl) (omega arith) (λ p f. (refl, tt))
  plain_gives (Some Infixes.Spreading) x y z = given_as (x ⨾ z ⨾ gives_instruction U.Appl refl) (omega arith) (λ p f. (refl, tt))
  plain_gives (Some (Infixes.Operating op)) x y z = given_as (x ⨾ z ⨾ gives_instruction (U.Op op) refl) (omega arith) (λ p f. (refl, tt))

  pub augmented_gives : (form : Option UpdateForm) {s r : Draft → Draft} {a b : ℕ} {c q : ℕ → List Instr} → Gives S F W E s a c no_facts → Gives S F W E r b q no_facts
      → Gives S F W E (augmented_form form s r) (X.augmented_size (option_map applied_update form) a b)
      (X.augmented_code (option_map applied_update form) a c q) no_facts
  augmented_gives None x z = gives_nothing
  augmented_gives (Some Updates.Both) x z = given_as (x ⨾ z ⨾ gives_instruction (U.Op O.Assign) refl) (omega arith) (λ p f. (refl, tt))
  augmented_gives (Some Updates.Scanning) {a = a} {c = c} {q = q} x z =
      given_as (x ⨾ gives_instruction U.Dup refl ⨾ gives_instruction U.Bscan refl ⨾ z ⨾ gives_instruction U.Escan refl ⨾ gives_instruction (U.Op O.Assign) refl)
      (omega arith)
      (λ p f. (
        let begins : p + a + 1 + 1 ≡ p + a + 2 = omega arith in
            ap (λ r. c p ++ (I.Dup ∷ I.Bscan ∷ q r ++ (I.Escan ∷ I.Op O.Assign ∷ []))) begins,
        tt,
      ))
  augmented_gives (Some Updates.Activating) x z =
      given_as (x ⨾ gives_instruction U.Dup refl ⨾ z ⨾ gives_instruction U.Coact refl ⨾ gives_instruction (U.Op O.Assign) refl) (omega arith)
      (λ p f. (refl, tt))
  augmented_gives (Some (Updates.Operating op)) x z =
      given_as (x ⨾ gives_instruction U.Dup refl ⨾ z ⨾ gives_instruction (U.Op op) refl ⨾ gives_instruction (U.Op O.Assign) refl) (omega arith)
      (λ p f. (refl, tt))
