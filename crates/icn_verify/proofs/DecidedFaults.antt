-- Procedures break no rule, or there is a first that they break: the pass over each of them finds which.
use Rattle.std.proofs.Common.{◌≡◌, ℕ, zero, suc, ◌<◌, inl, inr, List, [], ◌∷◌, slice_get, Option, None, Some, MatchOption, refl, subst, arith}
use Rattle.std.proofs.lemmas.Option.{none-some}
use Rattle.icn_tree.specs.declared.rule.Rule.{Rule}
use Rattle.icn_code.specs.Codes.{Proc}
use Rattle.icn_verify.specs.ReachingShapes.{AreWithin}
use Rattle.icn_verify.specs.Faults.{IsSound, IsFirstOf, AreSound, IsFirstFault}
use Rattle.icn_verify.specs.Passing.{fault_of}
use Rattle.icn_verify.specs.ShapeLaws.{IsSoundOrBroken, AreSoundOrBroken, GiveShapes}
use Rattle.icn_verify.proofs.SoundInstructions.{found_means, sound_shapes}
use Rattle.icn_verify.proofs.TableRules.{tables_are_bounded}

some_same : {A : Type 0} (a b : A) → Some a ≡ Some b → a ≡ b
some_same a b h = cc

-- no procedures are sound
none_sound : AreSound []
none_sound number proc stands = absurd (none-some proc stands)

-- a sound procedure before sound ones
sound_before : (proc : Proc) (procs : List Proc) → IsSound proc.instrs → AreSound procs → AreSound (proc ∷ procs)
sound_before proc procs first others zero other stands = subst (λ p. IsSound p.instrs) (some_same proc other stands) first
sound_before proc procs first others (suc number) other stands = others number other stands

-- a sound procedure before those that have a first fault
fault_behind : (proc : Proc) (procs : List Proc) (rule : Rule) (number place : ℕ) → IsSound proc.instrs → IsFirstFault procs rule number place
    → IsFirstFault (proc ∷ procs) rule (suc number) place
fault_behind proc procs rule number place first fault = record { proc = fault.proc; stands = fault.stands; here = fault.here; earlier = earlier }
  where
    earlier : (before : ℕ) (other : Proc) → before < suc number → slice_get (proc ∷ procs) before ≡ Some other → IsSound other.instrs
    earlier zero other lt stands = subst (λ p. IsSound p.instrs) (some_same proc other stands) first
    earlier (suc before) other lt stands = fault.earlier before other (omega arith) stands

-- a procedure with a first fault
fault_here : (proc : Proc) (procs : List Proc) (rule : Rule) (place : ℕ) → IsFirstOf proc.instrs rule place → IsFirstFault (proc ∷ procs) rule zero place
fault_here proc procs rule place here = record { proc = proc; stands = refl; here = here; earlier = λ before other lt stands. absurd (omega (arith, lt)) }

decided_on : (proc : Proc) (procs : List Proc) (found : Option (Rule × ℕ)) → MatchOption found (IsSound proc.instrs) (λ f. IsFirstOf proc.instrs f.0 f.1)
    → IsSoundOrBroken procs → IsSoundOrBroken (proc ∷ procs)
decided_on proc procs (Some f) first rest = inr (f.0, zero, f.1, fault_here proc procs f.0 f.1 first)
decided_on proc procs None sound (inl others) = inl (sound_before proc procs sound others)
decided_on proc procs None sound (inr broken) = inr (broken.0, suc broken.1, broken.2, fault_behind proc procs broken.0 broken.1 broken.2 sound broken.3)

decided : (procs : List Proc) → ((number : ℕ) (proc : Proc) → slice_get procs number ≡ Some proc → AreWithin proc.instrs) → IsSoundOrBroken procs
decided [] labels = inl none_sound
decided (proc ∷ procs) labels = decided_on proc procs (fault_of proc.instrs) (found_means proc.instrs (labels zero proc refl) (fault_of proc.instrs) refl)
    (decided procs (λ number other stands. labels (suc number) other stands))

pub sound_or_broken : AreSoundOrBroken
sound_or_broken tables kept = decided tables.procs (tables_are_bounded tables kept).labels

-- verified code has a shape for each address that is reached
pub shapes_given : GiveShapes
shapes_given tables kept verified number proc at = sound_shapes proc.instrs ((tables_are_bounded tables kept).labels number proc at) (verified number proc at)
