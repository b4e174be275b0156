-- The rule that the pass finds at a place is the least that is broken there.
use Rattle.std.proofs.Common.{◌≡◌, ◌≢◌, ℕ, zero, suc, ◌<◌, ◌≤◌, Bool, true, false, ◌&&◌, not, if◌then◌else◌, ◌⊎◌, inl, inr, nat_le, nat_lt, List, [], ◌∷◌, length, slice_get, Option, None, Some, refl, sym, ap, subst, ◌∙◌, true≢false, arith}
use Rattle.std.proofs.lemmas.Bool.Decides.{nat_tests}
use Rattle.icn_tree.specs.declared.rule.Rule.{Rule}
use Rattle.icn_tree.specs.declared.rule.Rule.TheVariants.{V1, V2, V3, V4, V5}
use Rattle.icn_code.specs.declared.instr.Instr.{Instr}
use Rattle.icn_verify.specs.Shapes.{PlainShape, look_of}
use Rattle.icn_verify.specs.Rows.{row_of, lacks, meets, back, strays}
use Rattle.icn_verify.specs.ReachingShapes.{Reaches}
use Rattle.icn_verify.specs.Faults.{Breaks, LacksOperand, HasTwoShapes, LacksShape, Strays, LacksWhatItAsks, EndIsReached, number_of}
use Rattle.icn_verify.specs.Passing.{Arrival, unseen, one, several, seen_at, is_one, misses, rule_of_one, rule_at_end}
use Rattle.icn_verify.proofs.SameShapes.{and_parts}
use Rattle.icn_verify.proofs.ShapeSums.{Sums, IsOnly, AreSeveral, holds, is_held}

none_some : {A : Type 0} (a : A) → let none : Option A = None in (none ≡ Some a) → ⊥
none_some a h = cc

some_same : {A : Type 0} (a b : A) → Some a ≡ Some b → a ≡ b
some_same a b h = cc

not_both : (b : Bool) → b ≡ true → b ≡ false → ⊥
not_both b h k = true≢false (sym h ∙ k)

not_true : (b : Bool) → not b ≡ true → b ≡ false
not_true true h = absurd (true≢false (sym h))
not_true false h = refl

and_false : (a b : Bool) → (a && not b) ≡ false → a ≡ true → b ≡ true
and_false true true h k = refl
and_false true false h k = absurd (true≢false h)
and_false false b h k = absurd (true≢false (sym k))

at_most : (label place : ℕ) → label ≤ place → nat_le label place ≡ true
at_most label place h = grind (arith, nat_tests)

from_at_most : (label place : ℕ) → nat_le label place ≡ true → label ≤ place
from_at_most label place h = grind (arith, nat_tests)

-- no instruction stands at the end
pub none_past : {A : Type 0} (xs : List A) (place : ℕ) → length xs ≤ place → slice_get xs place ≡ None
none_past [] place h = refl
none_past (x ∷ xs) zero h = absurd (omega arith)
none_past (x ∷ xs) (suc place) h = none_past xs place (omega arith)

past_end : (instrs : List Instr) (place : ℕ) (instr : Instr) → place ≡ length instrs → slice_get instrs place ≡ Some instr → ⊥
past_end instrs place instr ends stands = none_some instr (sym (none_past instrs place (omega arith)) ∙ stands)

-- who has no fewer than n doesn't lack what n don't
enough : (n operands takes : ℕ) → n ≤ operands → nat_lt n takes ≡ false → nat_lt operands takes ≡ true → ⊥
enough n operands takes le h k = grind (arith, nat_tests)

lowest_lacks : (n operands takes : ℕ) → operands ≡ n → nat_lt n takes ≡ true → nat_lt operands takes ≡ true
lowest_lacks n operands takes is h = ap (λ m. nat_lt m takes) is ∙ h

module _ (instrs : List Instr) (place : ℕ) where
  pub record IsLeastRule (rule : Rule) : Type 0 where
    pub breaks : Breaks instrs place rule
    pub least : (other : Rule) → number_of other < number_of rule → Breaks instrs place other → ⊥

  -- the least rule that is broken, or none is
  abbrev pub IsLeast : Option Rule → Type 0
  IsLeast None = (rule : Rule) → Breaks instrs place rule → ⊥
  IsLeast (Some rule) = IsLeastRule rule

  -- no rule whose number is below a bound is broken
  none_below : (bound : ℕ) → (1 < bound → LacksOperand instrs place → ⊥) → (2 < bound → HasTwoShapes instrs place ⊎ LacksShape instrs place → ⊥)
      → (3 < bound → Strays instrs place → ⊥) → (4 < bound → LacksWhatItAsks instrs place → ⊥) → (5 < bound → EndIsReached instrs place → ⊥)
      → (rule : Rule) → number_of rule < bound → Breaks instrs place rule → ⊥
  none_below bound a b c d e V1 lt broken = a lt broken
  none_below bound a b c d e V2 lt broken = b lt broken
  none_below bound a b c d e V3 lt broken = c lt broken
  none_below bound a b c d e V4 lt broken = d lt broken
  none_below bound a b c d e V5 lt broken = e lt broken
  none_below bound a b c d e _ lt broken = broken

  none : (LacksOperand instrs place → ⊥) → (HasTwoShapes instrs place ⊎ LacksShape instrs place → ⊥) → (Strays instrs place → ⊥)
      → (LacksWhatItAsks instrs place → ⊥) → (EndIsReached instrs place → ⊥)
      → (rule : Rule) → Breaks instrs place rule → ⊥
  none a b c d e V1 broken = a broken
  none a b c d e V2 broken = b broken
  none a b c d e V3 broken = c broken
  none a b c d e V4 broken = d broken
  none a b c d e V5 broken = e broken
  none a b c d e _ broken = broken

  -- where nothing comes no rule is broken
  pub unreached : ((shape : PlainShape) → Reaches instrs place shape → ⊥) → (rule : Rule) → Breaks instrs place rule → ⊥
  unreached never =
      none (λ b. never b.shape b.met.reaches) two (λ b. never b.shape b.met.reaches) (λ b. never b.shape b.met.reaches) (λ b. never b.shape b.reaches)
    where
      two : HasTwoShapes instrs place ⊎ LacksShape instrs place → ⊥
      two (inl b) = never b.one b.reaches
      two (inr b) = never b.shape b.met.reaches

  module _ (instr : Instr) (stands : slice_get instrs place ≡ Some instr) where
    same_instr : (other : Instr) → slice_get instrs place ≡ Some other → other ≡ instr
    same_instr other h = some_same other instr (sym h ∙ stands)

    fewer_lack : (n : ℕ) (shape : PlainShape) → n ≤ shape.inner.operands → nat_lt n (row_of instr).takes ≡ false → lacks instr shape ≡ true → ⊥
    fewer_lack n shape le h lacking = enough n shape.inner.operands (row_of instr).takes le h lacking

    pub least_several : (n : ℕ) → AreSeveral (Reaches instrs place) n → IsLeast (Some (if nat_lt n (row_of instr).takes then V1 else V2))
    least_several n sums = by (nat_lt n (row_of instr).takes) refl
      where
        by : (b : Bool) → nat_lt n (row_of instr).takes ≡ b → IsLeast (Some (if b then V1 else V2))
        by true h = record {
          breaks = record {
            instr = instr;
            shape = sums.lowest;
            met = record { stands = stands; reaches = sums.lowest_came };
            lacking = lowest_lacks n sums.lowest.inner.operands (row_of instr).takes sums.is h;
          };
          least = none_below 1 (λ lt b. absurd (omega arith)) (λ lt b. absurd (omega arith)) (λ lt b. absurd (omega arith)) (λ lt b. absurd (omega arith))
              (λ lt b. absurd (omega arith));
        }
        by false h = record {
          breaks = inl (record { one = sums.first; other = sums.other; reaches = sums.first_came; reaches_too = sums.other_came; differ = sums.differ });
          least = none_below 2 (λ lt b. no_lack b) (λ lt b. absurd (omega arith)) (λ lt b. absurd (omega arith)) (λ lt b. absurd (omega arith))
              (λ lt b. absurd (omega arith));
        }
          where
            no_lack : LacksOperand instrs place → ⊥
            no_lack b =
                let is : b.instr ≡ instr = same_instr b.instr b.met.stands in
                fewer_lack n b.shape (sums.fewest b.shape b.met.reaches) h (subst (λ i. lacks i b.shape ≡ true) is b.lacking)

    module _ (table : List Arrival) (only : PlainShape) (sums : IsOnly (Reaches instrs place) only)
        (known : (label : ℕ) → label ≤ place → Sums (Reaches instrs label) (seen_at table label))
        (single : (label : ℕ) → label ≤ place → (a b : PlainShape) → Reaches instrs label a → Reaches instrs label b → a ≢ b → ⊥) where
      not_lacking : lacks instr only ≡ false → LacksOperand instrs place → ⊥
      not_lacking h b =
          let is = same_instr b.instr b.met.stands in
          let same = sums.alone b.shape b.met.reaches in
          not_both (lacks instr only) (sym (λ i. lacks (is i) (same i)) ∙ b.lacking) h

      not_two : HasTwoShapes instrs place → ⊥
      not_two b = b.differ (sums.alone b.one b.reaches ∙ sym (sums.alone b.other b.reaches_too))

      not_straying : strays instr place ≡ false → Strays instrs place → ⊥
      not_straying h b =
          let is = same_instr b.instr b.met.stands in
          not_both (strays instr place) (sym (λ i. strays (is i) place) ∙ b.straying) h

      not_unmet : meets (row_of instr).asks (look_of only) ≡ true → LacksWhatItAsks instrs place → ⊥
      not_unmet h b =
          let is = same_instr b.instr b.met.stands in
          let same = sums.alone b.shape b.met.reaches in
          not_both (meets (row_of instr).asks (look_of only)) h (sym (λ i. meets (row_of (is i)).asks (look_of (same i))) ∙ b.unmet)

      not_ended : EndIsReached instrs place → ⊥
      not_ended b = past_end instrs place instr b.ends stands

      held : (label : ℕ) (wanted : PlainShape) → label ≤ place → is_one (seen_at table label) wanted ≡ true → Reaches instrs label wanted
      held label wanted le h = holds (Reaches instrs label) (seen_at table label) wanted (known label le) h

      absent : (label : ℕ) (wanted : PlainShape) → label ≤ place → is_one (seen_at table label) wanted ≡ false → Reaches instrs label wanted → ⊥
      absent label wanted le h reaches = not_both (is_one (seen_at table label) wanted)
          (is_held (Reaches instrs label) (seen_at table label) wanted (known label le) (single label le) reaches) h

      not_missing : misses table place (back instr only) ≡ false → LacksShape instrs place → ⊥
      not_missing h b =
          let is = same_instr b.instr b.met.stands in
          let same = sums.alone b.shape b.met.reaches in
          let leads : back instr only ≡ Some (b.label, b.wanted) = sym (λ i. back (is i) (same i)) ∙ b.leads in
          let misses_not : misses table place (Some (b.label, b.wanted)) ≡ false = ap (misses table place) (sym leads) ∙ h in
          b.absent (held b.label b.wanted b.earlier
          (and_false (nat_le b.label place) (is_one (seen_at table b.label) b.wanted) misses_not (at_most b.label place b.earlier)))

      missing : (to : Option (ℕ × PlainShape)) → back instr only ≡ to → misses table place to ≡ true → LacksShape instrs place
      missing None leads h = absurd (true≢false (sym h))
      missing (Some to) leads h =
          let parts = and_parts (nat_le to.0 place) (not (is_one (seen_at table to.0) to.1)) h in
          let earlier : to.0 ≤ place = from_at_most to.0 place parts.0 in
          record {
            instr = instr;
            shape = only;
            met = record { stands = stands; reaches = sums.came };
            label = to.0;
            wanted = to.1;
            leads = leads;
            earlier = earlier;
            absent = absent to.0 to.1 earlier (not_true (is_one (seen_at table to.0) to.1) parts.1);
          }

      not_twice : misses table place (back instr only) ≡ false → HasTwoShapes instrs place ⊎ LacksShape instrs place → ⊥
      not_twice h (inl b) = not_two b
      not_twice h (inr b) = not_missing h b

      meets_by : lacks instr only ≡ false → misses table place (back instr only) ≡ false → strays instr place ≡ false → (b : Bool)
          → meets (row_of instr).asks (look_of only) ≡ b → IsLeast (if b then None else Some V4)
      meets_by h k l true m = none (not_lacking h) (not_twice k) (not_straying l) (not_unmet m) not_ended
      meets_by h k l false m = record {
        breaks = record { instr = instr; shape = only; met = record { stands = stands; reaches = sums.came }; unmet = m };
        least = none_below 4 (λ lt b. not_lacking h b) (λ lt b. not_twice k b) (λ lt b. not_straying l b) (λ lt b. absurd (omega arith))
            (λ lt b. absurd (omega arith));
      }

      strays_as : lacks instr only ≡ false → misses table place (back instr only) ≡ false → (b : Bool) → strays instr place ≡ b
          → IsLeast (if b then Some V3 else if meets (row_of instr).asks (look_of only) then None else Some V4)
      strays_as h k true l = record {
        breaks = record { instr = instr; shape = only; met = record { stands = stands; reaches = sums.came }; straying = l };
        least = none_below 3 (λ lt b. not_lacking h b) (λ lt b. not_twice k b) (λ lt b. absurd (omega arith)) (λ lt b. absurd (omega arith))
            (λ lt b. absurd (omega arith));
      }
      strays_as h k false l = meets_by h k l (meets (row_of instr).asks (look_of only)) refl

      misses_as : lacks instr only ≡ false → (b : Bool) → misses table place (back instr only) ≡ b
          → IsLeast (if b then Some V2 else if strays instr place then Some V3 else if meets (row_of instr).asks (look_of only) then None else Some V4)
      misses_as h true k = record {
        breaks = inr (missing (back instr only) refl k);
        least = none_below 2 (λ lt b. not_lacking h b) (λ lt b. absurd (omega arith)) (λ lt b. absurd (omega arith)) (λ lt b. absurd (omega arith))
            (λ lt b. absurd (omega arith));
      }
      misses_as h false k = strays_as h k (strays instr place) refl

      lacks_as : (b : Bool) → lacks instr only ≡ b
          → IsLeast (if b then Some V1 else if misses table place (back instr only) then Some V2 else if strays instr place then Some V3
          else if meets (row_of instr).asks (look_of only) then None else Some V4)
      lacks_as true h = record {
        breaks = record { instr = instr; shape = only; met = record { stands = stands; reaches = sums.came }; lacking = h };
        least = none_below 1 (λ lt b. absurd (omega arith)) (λ lt b. absurd (omega arith)) (λ lt b. absurd (omega arith)) (λ lt b. absurd (omega arith))
            (λ lt b. absurd (omega arith));
      }
      lacks_as false h = misses_as h (misses table place (back instr only)) refl

      pub least_one : IsLeast (rule_of_one table place instr only)
      least_one = lacks_as (lacks instr only) refl

  -- at the end
  pub least_end : place ≡ length instrs → (seen : Arrival) → Sums (Reaches instrs place) seen → IsLeast (rule_at_end seen)
  least_end ends unseen sums = unreached sums
  least_end ends (one only) sums = record {
    breaks = record { shape = only; reaches = sums.came; ends = ends };
    least = none_below 5 (λ lt b. past_end instrs place b.instr ends b.met.stands) (λ lt b. two b) (λ lt b. past_end instrs place b.instr ends b.met.stands)
        (λ lt b. past_end instrs place b.instr ends b.met.stands) (λ lt b. absurd (omega arith));
  }
    where
      two : HasTwoShapes instrs place ⊎ LacksShape instrs place → ⊥
      two (inl b) = b.differ (sums.alone b.one b.reaches ∙ sym (sums.alone b.other b.reaches_too))
      two (inr b) = past_end instrs place b.instr ends b.met.stands
  least_end ends (several n) sums = record {
    breaks = inl (record { one = sums.first; other = sums.other; reaches = sums.first_came; reaches_too = sums.other_came; differ = sums.differ });
    least = none_below 2 (λ lt b. past_end instrs place b.instr ends b.met.stands) (λ lt b. absurd (omega arith)) (λ lt b. absurd (omega arith))
        (λ lt b. absurd (omega arith)) (λ lt b. absurd (omega arith));
  }
