-- The verifier looks at no place of a table, so that it takes the pruned code where it takes the whole.
use Rattle.std.proofs.Common.{◌≡◌, ◌⊎◌, inl, inr, ℕ, zero, suc, Bool, true, false, ◌&&◌, not, List, [], ◌∷◌, map, Some, refl, sym, ap, ◌∙◌, subst}
use Rattle.std.specs.Prelude.{nat_lt, slice_get, unwrap_or}
use Rattle.std.proofs.lemmas.List.{length-map}
use Rattle.std.proofs.lemmas.Option.{slice_get-map}
use Rattle.std.specs.Option.{option_map}
use Rattle.icn_tree.specs.declared.rule.Rule.{Rule}
use Rattle.icn_tree.specs.declared.rule.Rule.TheVariants.{V1, V2, V3, V4, V5}
use Rattle.icn_code.specs.declared.instr.Instr.{Instr}
use Rattle.icn_code.specs.declared.instr.Instr.TheVariants as I
use Rattle.icn_code.specs.Codes.{Proc, Tables}
use Rattle.icn_prune.specs.PrunedCode.{Survivors, instr_left, kept_procs, proc_left, pruned_tables, survivors}
use Rattle.icn_verify.specs.declared.rows.StackEffect.{StackEffect}
use Rattle.icn_verify.specs.Faults.{Breaks, HasTwoShapes, IsMet, IsSound, IsVerified, LacksShape}
use Rattle.icn_verify.specs.ReachingShapes.{Carries, Reaches, goes, starts}
use Rattle.icn_verify.specs.Rows.{after, back_by, forward_by, meets, next_by, row_of, strays_by}
use Rattle.icn_verify.specs.Shapes.{PlainShape, look_of}

same_row : (S : Survivors) (i : Instr) → row_of (instr_left S i) ≡ row_of i
same_row S (I.Int place) = refl
same_row S i = refl

some_is : {A : Type 0} (x y : A) → Some x ≡ Some y → x ≡ y
some_is x y e = ap (λ o. unwrap_or o x) e

-- what stands in a list that was mapped
stood : {A B : Type 0} (f : A → B) (xs : List A) (n : ℕ) (y : B) → slice_get (map f xs) n ≡ Some y → (x : A) × ((slice_get xs n ≡ Some x) × (f x ≡ y))
stood f [] n y e = absurd (cc)
stood f (x ∷ xs) zero y e = (x, (refl, some_is (f x) y e))
stood f (x ∷ xs) (suc n) y e = stood f xs n y e

module _ (f : Instr → Instr) (rows : (i : Instr) → row_of (f i) ≡ row_of i) (is : List Instr) where
  -- an instruction that stands among those that are left, as the one that it was
  record Stood (n : ℕ) (new : Instr) : Type 0 where
    instr : Instr
    stands : slice_get is n ≡ Some instr
    row : row_of new ≡ row_of instr

  was : (n : ℕ) (new : Instr) → slice_get (map f is) n ≡ Some new → Stood n new
  was n new e = let found = stood f is n new e in record {
    instr = found.0;
    stands = found.1.0;
    row = ap row_of (sym found.1.1) ∙ rows found.0;
  }

  -- Shapes

  carries_back : (address : ℕ) (shape : PlainShape) (to : ℕ) (carried : PlainShape) → Carries (map f is) address shape to carried
      → Carries is address shape to carried
  carries_back address shape to carried c = let old = was address c.instr c.stands in record {
    instr = old.instr;
    stands = old.stands;
    fit = ap (λ (r : StackEffect). not (nat_lt shape.inner.operands r.takes) && meets r.asks (look_of shape)) (sym old.row) ∙ c.fit;
    later = c.later;
    leads = subst (λ (r : StackEffect). (next_by r.way address (after r shape) ≡ Some (to, carried)) ⊎ (forward_by r.way shape (after r shape) ≡ Some (to, carried)))
        old.row c.leads;
  }

  carries_on : (address : ℕ) (shape : PlainShape) (to : ℕ) (carried : PlainShape) → Carries is address shape to carried
      → Carries (map f is) address shape to carried
  carries_on address shape to carried c = record {
    instr = f c.instr;
    stands = slice_get-map f is address ∙ ap (option_map f) c.stands;
    fit = ap (λ (r : StackEffect). not (nat_lt shape.inner.operands r.takes) && meets r.asks (look_of shape)) (rows c.instr) ∙ c.fit;
    later = c.later;
    leads = subst (λ (r : StackEffect). (next_by r.way address (after r shape) ≡ Some (to, carried)) ⊎ (forward_by r.way shape (after r shape) ≡ Some (to, carried)))
        (sym (rows c.instr)) c.leads;
  }

  reaches_back : (address : ℕ) (shape : PlainShape) → Reaches (map f is) address shape → Reaches is address shape
  reaches_back _ _ starts = starts
  reaches_back _ _ (goes address shape to carried r c) =
      goes address shape to carried (reaches_back address shape r) (carries_back address shape to carried c)

  reaches_on : (address : ℕ) (shape : PlainShape) → Reaches is address shape → Reaches (map f is) address shape
  reaches_on _ _ starts = starts
  reaches_on _ _ (goes address shape to carried r c) =
      goes address shape to carried (reaches_on address shape r) (carries_on address shape to carried c)

  -- Rules

  met_back : (address : ℕ) (new : Instr) (shape : PlainShape) → (m : IsMet (map f is) address new shape)
      → IsMet is address (was address new m.stands).instr shape
  met_back address new shape m = record { stands = (was address new m.stands).stands; reaches = reaches_back address shape m.reaches }

  lacks_shape : (address : ℕ) → LacksShape (map f is) address → LacksShape is address
  lacks_shape address b = let old = was address b.instr b.met.stands in record {
    instr = old.instr;
    shape = b.shape;
    met = met_back address b.instr b.shape b.met;
    label = b.label;
    wanted = b.wanted;
    leads = ap (λ (r : StackEffect). back_by r.way b.shape) (sym old.row) ∙ b.leads;
    earlier = b.earlier;
    absent = λ r. b.absent (reaches_on b.label b.wanted r);
  }

  two_shapes : (address : ℕ) → HasTwoShapes (map f is) address → HasTwoShapes is address
  two_shapes address b = record {
    one = b.one;
    other = b.other;
    reaches = reaches_back address b.one b.reaches;
    reaches_too = reaches_back address b.other b.reaches_too;
    differ = b.differ;
  }

  second_rule : (address : ℕ) → HasTwoShapes (map f is) address ⊎ LacksShape (map f is) address → HasTwoShapes is address ⊎ LacksShape is address
  second_rule address (inl b) = inl (two_shapes address b)
  second_rule address (inr b) = inr (lacks_shape address b)

  -- a rule that is broken among those that are left is broken among all
  breaks_back : (address : ℕ) (rule : Rule) → Breaks (map f is) address rule → Breaks is address rule
  breaks_back address V1 b = let old = was address b.instr b.met.stands in record {
    instr = old.instr;
    shape = b.shape;
    met = met_back address b.instr b.shape b.met;
    lacking = ap (λ (r : StackEffect). nat_lt b.shape.inner.operands r.takes) (sym old.row) ∙ b.lacking;
  }
  breaks_back address V2 b = second_rule address b
  breaks_back address V3 b = let old = was address b.instr b.met.stands in record {
    instr = old.instr;
    shape = b.shape;
    met = met_back address b.instr b.shape b.met;
    straying = ap (λ (r : StackEffect). strays_by r.way address) (sym old.row) ∙ b.straying;
  }
  breaks_back address V4 b = let old = was address b.instr b.met.stands in record {
    instr = old.instr;
    shape = b.shape;
    met = met_back address b.instr b.shape b.met;
    unmet = ap (λ (r : StackEffect). meets r.asks (look_of b.shape)) (sym old.row) ∙ b.unmet;
  }
  breaks_back address V5 b = record {
    shape = b.shape;
    reaches = reaches_back address b.shape b.reaches;
    ends = b.ends ∙ length-map is f;
  }
  breaks_back address rule b = b

  sound_on : IsSound is → IsSound (map f is)
  sound_on sound address rule b = sound address rule (breaks_back address rule b)

-- a procedure that is kept stands among all
kept_stood : (keep : List Bool) (ps : List Proc) (n : ℕ) (p : Proc) → slice_get (kept_procs keep ps) n ≡ Some p → (m : ℕ) × (slice_get ps m ≡ Some p)
kept_stood [] ps n p e = absurd (cc)
kept_stood (true ∷ keep) [] n p e = absurd (cc)
kept_stood (false ∷ keep) [] n p e = absurd (cc)
kept_stood (true ∷ keep) (q ∷ ps) zero p e = (0, e)
kept_stood (true ∷ keep) (q ∷ ps) (suc n) p e = let found = kept_stood keep ps n p e in (suc found.0, found.1)
kept_stood (false ∷ keep) (q ∷ ps) n p e = let found = kept_stood keep ps n p e in (suc found.0, found.1)

pub pruned_verified : (T : Tables) (keep : List Bool) → IsVerified T → IsVerified (pruned_tables keep T)
pruned_verified T keep sound number proc e =
    let S = survivors T keep in
    let left = stood (proc_left S) (kept_procs keep T.procs) number proc e in
    let all = kept_stood keep T.procs number left.0 left.1.0 in
    subst (λ (p : Proc). IsSound p.instrs) left.1.1 (sound_on (instr_left S) (same_row S) left.0.instrs (sound all.0 left.0 all.1))
