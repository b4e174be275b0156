-- The laws of the shapes and of the first fault.
use Rattle.std.proofs.Common.{◌≡◌, ℕ, ◌<◌, ◌≤◌, ◌⊎◌, inl, inr, List, slice_get, Some, refl, sym, ap, subst, ◌∙◌, arith}
use Rattle.std.proofs.lemmas.Bool.{cases_lt}
use Rattle.icn_tree.specs.declared.rule.Rule.{Rule}
use Rattle.icn_tree.specs.declared.rule.Rule.TheVariants.{V1, V2, V3, V4, V5}
use Rattle.icn_code.specs.declared.instr.Instr.{Instr}
use Rattle.icn_verify.specs.ReachingShapes.{starts, goes}
use Rattle.icn_verify.specs.Faults.{Breaks, IsFirstOf, number_of}
use Rattle.icn_verify.specs.ShapeLaws.{HaveOneShape, AreLeast, HaveOneFault, HaveNoFault}
use Rattle.icn_verify.proofs.SoundInstructions.{one_shape}

some_same : {A : Type 0} (a b : A) → Some a ≡ Some b → a ≡ b
some_same a b h = cc

pub have_one_shape : HaveOneShape
have_one_shape = one_shape

pub are_least : AreLeast
are_least instrs holds closed _ _ starts = closed.start
are_least instrs holds closed _ _ (goes place shape to carried reaches carries) =
    closed.on place shape to carried (are_least instrs holds closed place shape reaches) carries

-- the rules of verified code, by their numbers
pub data Numbered : Rule → Type 0 where
  first : Numbered V1
  second : Numbered V2
  third : Numbered V3
  fourth : Numbered V4
  fifth : Numbered V5

numbered : (instrs : List Instr) (place : ℕ) (rule : Rule) → Breaks instrs place rule → Numbered rule
numbered instrs place V1 b = first
numbered instrs place V2 b = second
numbered instrs place V3 b = third
numbered instrs place V4 b = fourth
numbered instrs place V5 b = fifth
numbered instrs place _ b = absurd b

same_rule : (a b : Rule) → Numbered a → Numbered b → number_of a ≡ number_of b → a ≡ b
same_rule _ _ first first h = refl
same_rule _ _ first second h = absurd (omega arith)
same_rule _ _ first third h = absurd (omega arith)
same_rule _ _ first fourth h = absurd (omega arith)
same_rule _ _ first fifth h = absurd (omega arith)
same_rule _ _ second first h = absurd (omega arith)
same_rule _ _ second second h = refl
same_rule _ _ second third h = absurd (omega arith)
same_rule _ _ second fourth h = absurd (omega arith)
same_rule _ _ second fifth h = absurd (omega arith)
same_rule _ _ third first h = absurd (omega arith)
same_rule _ _ third second h = absurd (omega arith)
same_rule _ _ third third h = refl
same_rule _ _ third fourth h = absurd (omega arith)
same_rule _ _ third fifth h = absurd (omega arith)
same_rule _ _ fourth first h = absurd (omega arith)
same_rule _ _ fourth second h = absurd (omega arith)
same_rule _ _ fourth third h = absurd (omega arith)
same_rule _ _ fourth fourth h = refl
same_rule _ _ fourth fifth h = absurd (omega arith)
same_rule _ _ fifth first h = absurd (omega arith)
same_rule _ _ fifth second h = absurd (omega arith)
same_rule _ _ fifth third h = absurd (omega arith)
same_rule _ _ fifth fourth h = absurd (omega arith)
same_rule _ _ fifth fifth h = refl

-- two numbers of which neither is less
same_number : (m n : ℕ) → (m < n → ⊥) → (n < m → ⊥) → m ≡ n
same_number m n a b = by (cases_lt m n) (cases_lt n m)
  where
    by : (m < n) ⊎ (n ≤ m) → (n < m) ⊎ (m ≤ n) → m ≡ n
    by (inl lt) other = absurd (a lt)
    by (inr ge) (inl lt) = absurd (b lt)
    by (inr ge) (inr le) = omega arith

-- one first rule in one procedure
same_place : (instrs : List Instr) (rule : Rule) (place : ℕ) (rule' : Rule) (place' : ℕ) → IsFirstOf instrs rule place → IsFirstOf instrs rule' place'
    → place ≡ place'
same_place instrs rule place rule' place' one other =
    same_number place place' (λ lt. other.first place rule one.breaks (inl lt)) (λ lt. one.first place' rule' other.breaks (inl lt))

same_first : (instrs : List Instr) (rule : Rule) (place : ℕ) (rule' : Rule) (place' : ℕ) → IsFirstOf instrs rule place → IsFirstOf instrs rule' place'
    → rule ≡ rule'
same_first instrs rule place rule' place' one other =
    same_rule rule rule' (numbered instrs place rule one.breaks) (numbered instrs place' rule' other.breaks)
    (same_number (number_of rule) (number_of rule') (λ lt. other.first place rule one.breaks (inr (is, lt)))
    (λ lt. one.first place' rule' other.breaks (inr (sym is, lt))))
  where
    is : place ≡ place'
    is = same_place instrs rule place rule' place' one other

pub have_one_fault : HaveOneFault
have_one_fault procs rule number place rule' number' place' one other = record {
  rules = same_first one.proc.instrs rule place rule' place' one.here moved;
  numbers = numbers;
  addresses = same_place one.proc.instrs rule place rule' place' one.here moved;
}
  where
    numbers : number ≡ number'
    numbers = same_number number number' (λ lt. other.earlier number one.proc lt one.stands place rule one.here.breaks)
        (λ lt. one.earlier number' other.proc lt other.stands place' rule' other.here.breaks)

    same : other.proc ≡ one.proc
    same = some_same other.proc one.proc (sym other.stands ∙ ap (slice_get procs) (sym numbers) ∙ one.stands)

    moved : IsFirstOf one.proc.instrs rule' place'
    moved = subst (λ p. IsFirstOf p.instrs rule' place') same other.here

pub have_no_fault : HaveNoFault
have_no_fault procs rule number place sound fault = sound number fault.proc fault.stands place rule fault.here.breaks
