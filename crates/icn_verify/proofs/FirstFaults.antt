-- What the pass finds is the first rule that is broken, or there is none.
use Rattle.std.proofs.Common.{◌≡◌, ◌≢◌, ℕ, zero, suc, ◌+◌, ◌<◌, ◌≤◌, Bool, true, false, ◌&&◌, not, ◌⊎◌, inl, inr, List, [], ◌∷◌, ◌++◌, length, slice_get, Option, None, Some, refl, sym, ap, subst, ◌∙◌, true≢false, arith, append_assoc, length-append}
use Rattle.std.proofs.lemmas.Bool.{cases_lt}
use Rattle.std.proofs.lemmas.List.{append-nil, get_or-replicate, length-replicate}
use Rattle.icn_tree.specs.declared.rule.Rule.{Rule}
use Rattle.icn_tree.specs.declared.rule.Rule.TheVariants.{V1, V2, V3, V4}
use Rattle.icn_code.specs.declared.instr.Instr.{Instr}
use Rattle.icn_verify.specs.Shapes.{PlainShape, start_shape, look_of}
use Rattle.icn_verify.specs.Rows.{row_of, lacks, meets, fits, after, next, forward, strays}
use Rattle.icn_verify.specs.ReachingShapes.{Reaches, starts, goes, Carries, AreWithin}
use Rattle.icn_verify.specs.Faults.{Breaks, IsFirstOf, IsSound, number_of}
use Rattle.icn_verify.specs.Passing.{Arrival, unseen, one, several, seen_at, with_arrival, rule_at, rule_at_end, pass_on, at_address, first_placed, first_fault, first_table, fault_of}
use Rattle.icn_verify.proofs.SameShapes.{is_true_or_false}
use Rattle.icn_verify.proofs.ShapeSums.{Sums, IsOnly, SumUp, Adds, sums_as, sums_arrived, length_arrived}
use Rattle.icn_verify.proofs.InstructionWays.{next_address, forward_past, forward_within}
use Rattle.icn_verify.proofs.ArrivingShapes.{Arrives, IsSent, reaches_arrives, arrives_reaches, arrives_more, arrives_sent, arrives_split}
use Rattle.icn_verify.proofs.LeastRules.{IsLeast, IsLeastRule, unreached, least_several, least_one, least_end, none_past}

none_some : {A : Type 0} (a : A) → let none : Option A = None in (none ≡ Some a) → ⊥
none_some a h = cc

some_same : {A : Type 0} (a b : A) → Some a ≡ Some b → a ≡ b
some_same a b h = cc

-- a place where an instruction stands lies before the end
pub some_within : {A : Type 0} (xs : List A) (place : ℕ) (x : A) → slice_get xs place ≡ Some x → place < length xs
some_within xs place x h = by (cases_lt place (length xs))
  where
    by : (place < length xs) ⊎ (length xs ≤ place) → place < length xs
    by (inl lt) = lt
    by (inr ge) = absurd (none_some x (sym (none_past xs place ge) ∙ h))

stands_at : {A : Type 0} (done : List A) (x : A) (rest : List A) → slice_get (done ++ x ∷ rest) (length done) ≡ Some x
stands_at [] x rest = refl
stands_at (y ∷ done) x rest = stands_at done x rest

pub fit_both : (a b : Bool) → a ≡ false → b ≡ true → (not a && b) ≡ true
fit_both true b h k = absurd (true≢false h)
fit_both false b h k = k

module _ (instrs : List Instr) where
  -- each place was summed up, and none breaks a rule
  pub record IsPassed : Type 0 where
    pub table : List Arrival
    pub sums : (place : ℕ) → Sums (Reaches instrs place) (seen_at table place)
    pub sound : IsSound instrs

  abbrev pub IsOutcome : Option (Rule × ℕ) → Type 0
  IsOutcome None = IsPassed
  IsOutcome (Some found) = IsFirstOf instrs found.0 found.1

  -- so far the table sums up what comes from the earlier places, which break no rule
  pub record IsSoFar (table : List Arrival) (place : ℕ) : Type 0 where
    pub long : length table ≡ length instrs + 1
    pub sums : SumUp (Arrives instrs place) (length instrs) table
    pub sound : (earlier : ℕ) → earlier < place → (rule : Rule) → Breaks instrs earlier rule → ⊥

  known : (table : List Arrival) (place : ℕ) → IsSoFar table place → place ≤ length instrs → (label : ℕ) → label ≤ place
      → Sums (Reaches instrs label) (seen_at table label)
  known table place so within label le =
      sums_as (Arrives instrs place label) (Reaches instrs label) (arrives_reaches instrs place label)
      (λ shape reaches. reaches_arrives instrs label shape reaches place le) (seen_at table label) (so.sums label (omega arith))

  -- the least rule here is the first
  first_here : (table : List Arrival) (place : ℕ) → IsSoFar table place → (rule : Rule) → IsLeastRule instrs place rule → IsFirstOf instrs rule place
  first_here table place so rule least = record { breaks = least.breaks; first = first }
    where
      first : (place' : ℕ) (rule' : Rule) → Breaks instrs place' rule' → (place' < place) ⊎ ((place' ≡ place) × (number_of rule' < number_of rule)) → ⊥
      first place' rule' broken (inl lt) = so.sound place' lt rule' broken
      first place' rule' broken (inr h) = least.least rule' h.1 (subst (λ p. Breaks instrs p rule') h.0 broken)

  sound_more : (place : ℕ) → ((earlier : ℕ) → earlier < place → (rule : Rule) → Breaks instrs earlier rule → ⊥) → ((rule : Rule) → Breaks instrs place rule → ⊥)
      → (earlier : ℕ) → earlier < place + 1 → (rule : Rule) → Breaks instrs earlier rule → ⊥
  sound_more place sound here earlier lt rule broken = by (cases_lt earlier place)
    where
      by : (earlier < place) ⊎ (place ≤ earlier) → ⊥
      by (inl before) = sound earlier before rule broken
      by (inr ge) = let is : earlier ≡ place = omega arith in here rule (subst (λ p. Breaks instrs p rule) is broken)

  module _ (table : List Arrival) (place : ℕ) (instr : Instr) (stands : slice_get instrs place ≡ Some instr) (so : IsSoFar table place) where
    within : place ≤ length instrs
    within = let lt = some_within instrs place instr stands in omega arith

    single : (only : PlainShape) → IsOnly (Reaches instrs place) only → (label : ℕ) → label ≤ place → (a b : PlainShape) → Reaches instrs label a
        → Reaches instrs label b → a ≢ b → ⊥
    single only sums label le a b reaches_a reaches_b differ = by (cases_lt label place)
      where
        by : (label < place) ⊎ (place ≤ label) → ⊥
        by (inl lt) = so.sound label lt V2 (inl (record { one = a; other = b; reaches = reaches_a; reaches_too = reaches_b; differ = differ }))
        by (inr ge) =
            let is : label ≡ place = omega arith in
            differ (sums.alone a (subst (λ p. Reaches instrs p a) is reaches_a) ∙ sym (sums.alone b (subst (λ p. Reaches instrs p b) is reaches_b)))

    least_at : (seen : Arrival) → Sums (Reaches instrs place) seen → IsLeast instrs place (rule_at table place instr seen)
    least_at unseen sums = unreached instrs place sums
    least_at (one only) sums = least_one instrs place instr stands table only sums (known table place so within) (single only sums)
    least_at (several n) sums = least_several instrs place instr stands n sums

    -- what goes out of a place where no rule is broken
    module _ (none : (rule : Rule) → Breaks instrs place rule → ⊥) where
      so_unseen : ((shape : PlainShape) → Reaches instrs place shape → ⊥) → IsSoFar table (place + 1)
      so_unseen never = record {
        long = so.long;
        sums = λ q le. sums_as (Arrives instrs place q) (Arrives instrs (place + 1) q) (arrives_more instrs place q)
            (λ shape arrives. back_to q shape (arrives_split instrs place q shape arrives)) (seen_at table q) (so.sums q le);
        sound = sound_more place so.sound none;
      }
        where
          back_to : (q : ℕ) (shape : PlainShape) → Arrives instrs place q shape ⊎ IsSent instrs place q shape → Arrives instrs place q shape
          back_to q shape (inl arrives) = arrives
          back_to q shape (inr sends) = absurd (never sends.0 sends.1)

      module _ (only : PlainShape) (sums : IsOnly (Reaches instrs place) only) where
        has_enough : lacks instr only ≡ false
        has_enough = is_true_or_false (lacks instr only)
            (λ h. none V1 (record { instr = instr; shape = only; met = record { stands = stands; reaches = sums.came }; lacking = h }))

        goes_right : strays instr place ≡ false
        goes_right = is_true_or_false (strays instr place)
            (λ h. none V3 (record { instr = instr; shape = only; met = record { stands = stands; reaches = sums.came }; straying = h }))

        is_met : (b : Bool) → meets (row_of instr).asks (look_of only) ≡ b → b ≡ true
        is_met true h = refl
        is_met false h = absurd (none V4 (record { instr = instr; shape = only; met = record { stands = stands; reaches = sums.came }; unmet = h }))

        fit : fits only instr ≡ true
        fit = fit_both (lacks instr only) (meets (row_of instr).asks (look_of only)) has_enough (is_met (meets (row_of instr).asks (look_of only)) refl)

        carries_next : (q : ℕ) (shape : PlainShape) → next instr place only ≡ Some (q, shape) → Carries instrs place only q shape
        carries_next q shape h =
            let is = next_address (row_of instr).way place (after (row_of instr) only) q shape h in
            record { instr = instr; stands = stands; fit = fit; later = omega arith; leads = inl h }

        carries_forward : (q : ℕ) (shape : PlainShape) → forward instr only ≡ Some (q, shape) → Carries instrs place only q shape
        carries_forward q shape h =
            record {
              instr = instr;
              stands = stands;
              fit = fit;
              later = forward_past (row_of instr).way place only (after (row_of instr) only) q shape goes_right h;
              leads = inr h;
            }

        went : ℕ → PlainShape → Type 0
        went = Adds (Adds (Arrives instrs place) (next instr place only)) (forward instr only)

        went_arrives : (q : ℕ) (shape : PlainShape) → Adds (Adds (Arrives instrs place) (next instr place only)) (forward instr only) q shape
            → Arrives instrs (place + 1) q shape
        went_arrives q shape (inl (inl arrives)) = arrives_more instrs place q shape arrives
        went_arrives q shape (inl (inr h)) = arrives_sent instrs place q shape (only, sums.came, carries_next q shape h)
        went_arrives q shape (inr h) = arrives_sent instrs place q shape (only, sums.came, carries_forward q shape h)

        arrives_went : (q : ℕ) (shape : PlainShape) → Arrives instrs place q shape ⊎ IsSent instrs place q shape
            → Adds (Adds (Arrives instrs place) (next instr place only)) (forward instr only) q shape
        arrives_went q shape (inl arrives) = inl (inl arrives)
        arrives_went q shape (inr sends) = leads sends.2.leads
          where
            is : sends.2.instr ≡ instr
            is = some_same sends.2.instr instr (sym sends.2.stands ∙ stands)

            same : sends.0 ≡ only
            same = sums.alone sends.0 sends.1

            leads : (next sends.2.instr place sends.0 ≡ Some (q, shape)) ⊎ (forward sends.2.instr sends.0 ≡ Some (q, shape))
                → Adds (Adds (Arrives instrs place) (next instr place only)) (forward instr only) q shape
            leads (inl h) = inl (inr (sym (λ i. next (is i) place (same i)) ∙ h))
            leads (inr h) = inr (sym (λ i. forward (is i) (same i)) ∙ h)

        so_one : IsSoFar (pass_on table place instr (one only)) (place + 1)
        so_one = record {
          long = length_arrived (with_arrival table (next instr place only)) (forward instr only) ∙ length_arrived table (next instr place only) ∙ so.long;
          sums = λ q le. sums_as (Adds (Adds (Arrives instrs place) (next instr place only)) (forward instr only) q) (Arrives instrs (place + 1) q)
              (went_arrives q) (λ shape arrives. arrives_went q shape (arrives_split instrs place q shape arrives))
              (seen_at (pass_on table place instr (one only)) q)
              (sums_arrived (Adds (Arrives instrs place) (next instr place only)) (length instrs) (with_arrival table (next instr place only))
              (forward instr only)
              (length_arrived table (next instr place only) ∙ so.long)
              (sums_arrived (Arrives instrs place) (length instrs) table (next instr place only) so.long so.sums) q le);
          sound = sound_more place so.sound none;
        }

      so_sent : (seen : Arrival) → Sums (Reaches instrs place) seen → IsSoFar (pass_on table place instr seen) (place + 1)
      so_sent unseen sums = so_unseen sums
      so_sent (one only) sums = so_one only sums
      so_sent (several n) sums = absurd (none V2
          (inl (record { one = sums.first; other = sums.other; reaches = sums.first_came; reaches_too = sums.other_came; differ = sums.differ })))

  module _ (labels : AreWithin instrs) where
    -- no shape comes past the end
    pub reaches_within : (place : ℕ) (shape : PlainShape) → Reaches instrs place shape → place ≤ length instrs
    reaches_within _ _ starts = omega arith
    reaches_within _ _ (goes place shape to carried reaches carries) = by carries.leads
      where
        by : (next carries.instr place shape ≡ Some (to, carried)) ⊎ (forward carries.instr shape ≡ Some (to, carried)) → to ≤ length instrs
        by (inl h) =
            let is = next_address (row_of carries.instr).way place (after (row_of carries.instr) shape) to carried h in
            let lt = some_within instrs place carries.instr carries.stands in
            omega arith
        by (inr h) = forward_within (row_of carries.instr).way (length instrs) shape (after (row_of carries.instr) shape) to carried
            (labels.each place carries.instr carries.stands) h

    sums_all : (table : List Arrival) → IsSoFar table (length instrs) → (place : ℕ) → (place ≤ length instrs) ⊎ (length instrs < place)
        → Sums (Reaches instrs place) (seen_at table place)
    sums_all table so place (inl le) = known table (length instrs) so (omega arith) place le
    sums_all table so place (inr gt) = subst (Sums (Reaches instrs place)) (sym (past table place (omega (arith, so.long))))
        (λ shape reaches. let le = reaches_within place shape reaches in omega arith)
      where
        past : (table : List Arrival) (place : ℕ) → length table ≤ place → seen_at table place ≡ unseen
        past [] place h = refl
        past (x ∷ xs) zero h = absurd (omega arith)
        past (x ∷ xs) (suc n) h = past xs n (omega arith)

    at_end : (table : List Arrival) (place : ℕ) → place ≡ length instrs → IsSoFar table place → IsOutcome (at_address place (rule_at_end (seen_at table place)))
    at_end table place ends so =
        by (rule_at_end (seen_at table place)) (least_end instrs place ends (seen_at table place) (known table place so (omega arith) place (omega arith)))
      where
        by : (found : Option Rule) → IsLeast instrs place found → IsOutcome (at_address place found)
        by (Some rule) least = first_here table place so rule least
        by None least = record {
          table = table;
          sums = λ q. sums_all table (subst (IsSoFar table) ends so) q (side q (cases_lt (length instrs) q));
          sound = λ q rule broken. sound q rule broken (side q (cases_lt (length instrs) q));
        }
          where
            side : (q : ℕ) → (length instrs < q) ⊎ (q ≤ length instrs) → (q ≤ length instrs) ⊎ (length instrs < q)
            side q (inl gt) = inr gt
            side q (inr le) = inl le

            sound : (q : ℕ) (rule : Rule) → Breaks instrs q rule → (q ≤ length instrs) ⊎ (length instrs < q) → ⊥
            sound q rule broken (inl le) = sound_more place so.sound least q (omega arith) rule broken
            sound q rule broken (inr gt) = unreached instrs q (λ shape reaches. let le = reaches_within q shape reaches in absurd (omega arith)) rule broken

    outcome_from : (rest done : List Instr) (table : List Arrival) → done ++ rest ≡ instrs → IsSoFar table (length done)
        → IsOutcome (first_fault table (length done) rest)
    outcome_from [] done table all so = at_end table (length done) (ap length (sym (append-nil done) ∙ all)) so
    outcome_from (instr ∷ rest) done table all so =
        by
        (outcome_from rest (done ++ instr ∷ []) (pass_on table (length done) instr (seen_at table (length done))) (append_assoc done (instr ∷ []) rest ∙ all))
        (rule_at table (length done) instr (seen_at table (length done))) (least_at table (length done) instr stands so (seen_at table (length done)) sums)
      where
        stands : slice_get instrs (length done) ≡ Some instr
        stands = subst (λ xs. slice_get xs (length done) ≡ Some instr) all (stands_at done instr rest)

        sums : Sums (Reaches instrs (length done)) (seen_at table (length done))
        sums = known table (length done) so (let lt = some_within instrs (length done) instr stands in omega arith) (length done) (omega arith)

        long : length (done ++ instr ∷ []) ≡ length done + 1
        long = length-append done (instr ∷ [])

        by : (IsSoFar (pass_on table (length done) instr (seen_at table (length done))) (length (done ++ instr ∷ []))
            → IsOutcome (first_fault (pass_on table (length done) instr (seen_at table (length done))) (length (done ++ instr ∷ [])) rest))
            → (found : Option Rule) → IsLeast instrs (length done) found → IsOutcome (first_placed (length done) found
            (first_fault (pass_on table (length done) instr (seen_at table (length done))) (length done + 1) rest))
        by goes_on (Some rule) least = first_here table (length done) so rule least
        by goes_on None least =
            subst (λ n. IsOutcome (first_fault (pass_on table (length done) instr (seen_at table (length done))) n rest)) long
            (goes_on (subst (IsSoFar (pass_on table (length done) instr (seen_at table (length done)))) (sym long)
            (so_sent table (length done) instr stands so least (seen_at table (length done)) sums)))

    start_sums : SumUp (Arrives instrs 0) (length instrs) (first_table (length instrs))
    start_sums zero le = record { came = inl (refl, refl); alone = alone }
      where
        alone : (shape : PlainShape) → Arrives instrs 0 0 shape → shape ≡ start_shape false
        alone shape (inl h) = h.1
        alone shape (inr came) = let earlier : came.from < 0 = came.earlier in absurd (omega arith)
    start_sums (suc place) le = subst (Sums (Arrives instrs 0 (suc place))) (sym (get_or-replicate (length instrs) place unseen unseen (omega arith))) never
      where
        never : (shape : PlainShape) → Arrives instrs 0 (suc place) shape → ⊥
        never shape (inl h) = let e : suc place ≡ 0 = h.0 in absurd (omega arith)
        never shape (inr came) = let earlier : came.from < 0 = came.earlier in absurd (omega arith)

    pub outcome : IsOutcome (fault_of instrs)
    outcome =
        outcome_from instrs [] (first_table (length instrs)) refl (record {
          long = (let e = length-replicate (length instrs) unseen in omega arith);
          sums = start_sums;
          sound = λ earlier lt rule broken. absurd (omega arith);
        })
