-- The mode that an argument names, and that a cset names.
use Rattle.std.proofs.Common.{◌≡◌, ◌∙◌, refl, sym, ap, subst, ℕ, ◌<◌, Bool, true, false, List, [], ◌∷◌, length, codes, cond, Option, None, Some, Result, arith}
use Rattle.std.specs.Str.{bytes_eq}
use Rattle.std.proofs.lemmas.Bool.{false_from_ne_true}
use Rattle.std.proofs.lemmas.Bool.Decides.{nat_tests}
use Rattle.std.proofs.lemmas.Slice.Eq.{bytes_eq-Decides}
use Rattle.icn_value.specs.declared.cset.Cset.{Cset}
use Rattle.icn_value.specs.declared.mode.FileMode.{FileMode}
use Rattle.icn_value.specs.declared.mode.FileMode.TheVariants.{ToRead, ToWrite, ToAdd}
use Rattle.icn_value.specs.Csets.{has}
use Rattle.icn_value.specs.Members.{contains, members, members_of}
use Rattle.icn_value.proofs.CsetMembers.{members_pass}
use Rattle.icn_value.specs.declared.val.Val.{Val}
use Rattle.icn_value.specs.Store.{Setting}
use Rattle.icn_value.specs.Values.{Text}
use Rattle.icn_defs.specs.Files.{mode_of}
use Rattle.icn_defs.specs.Rows.{present}
use Rattle.icn_heap.specs.Extents.{Extent, value_in}
use Rattle.icn_vars.specs.declared.stop.Stop.{Stop}
use Rattle.icn_args.specs.RowWords.{IsFound}
use Rattle.icn_filefn.specs.OpenParts.{mode_named}

one_member : (xs : List ℕ) (b : ℕ) → length xs ≡ 1 → contains xs b ≡ true → xs ≡ b ∷ []
one_member [] b size is = absurd (omega (arith, size))
one_member (x ∷ []) b size is = let same : x ≡ b = grind (arith, nat_tests, is) in ap (λ (n : ℕ). n ∷ []) same
one_member (x ∷ (y ∷ rest)) b size is = absurd (omega (arith, size))

-- a cset of one member is that one
pub has_alone : (cset : Cset) (b : ℕ) → b < 256 → length (members_of cset) ≡ 1 → has cset b ≡ true → members_of cset ≡ b ∷ []
unfolding members_of
has_alone cset b few size is = one_member (members (has cset)) b size (members_pass (has cset) b few ∙ is)

other_by : (xs : List ℕ) (b : ℕ) → contains (b ∷ []) b ≡ true → contains xs b ≡ false → bytes_eq xs (b ∷ []) ≡ false
other_by xs b one none = false_from_ne_true (bytes_eq xs (b ∷ []))
    (λ is. clash (sym one ∙ (ap (λ (ys : List ℕ). contains ys b) (sym ((bytes_eq-Decides xs (b ∷ [])).0 is)) ∙ none)))
  where
    clash : true ≡ false → ⊥
    clash e = cc

no_mode : (xs : List ℕ) → contains xs 114 ≡ false → contains xs 119 ≡ false → contains xs 97 ≡ false → mode_of xs ≡ None
no_mode xs r w a =
    let last : Bool → Option FileMode = λ t. cond t (Some ToAdd) None in
    ap (λ (t : Bool). cond t (Some ToRead) (cond (bytes_eq xs (codes "w")) (Some ToWrite) (last (bytes_eq xs (codes "a"))))) (other_by xs 114 refl r)
    ∙ (ap (λ (t : Bool). cond t (Some ToWrite) (last (bytes_eq xs (codes "a")))) (other_by xs 119 refl w) ∙ ap last (other_by xs 97 refl a))

-- one that has none of the letters names none
pub none_of : (cset : Cset) → has cset 114 ≡ false → has cset 119 ≡ false → has cset 97 ≡ false → None ≡ mode_of (members_of cset)
unfolding members_of
none_of cset r w a = sym (no_mode (members (has cset)) (members_pass (has cset) 114 (omega arith) ∙ r) (members_pass (has cset) 119 (omega arith) ∙ w)
    (members_pass (has cset) 97 (omega arith) ∙ a))

-- An argument that is this

module _ (all : Extent) (val held : Val) (is : val ≡ held) (setting : Setting) (result : Result FileMode Stop) where
  -- names what its text names
  pub named_by : (named other : Option FileMode) → named ≡ other
      → IsFound all (present named 209 (Some (value_in all val))) setting setting (λ (mode : FileMode). mode) result
      → IsFound all (present other 209 (Some (value_in all held))) setting setting (λ (mode : FileMode). mode) result
  named_by named other same found =
      subst (λ (o : Option FileMode). IsFound all (present o 209 (Some (value_in all held))) setting setting (λ (mode : FileMode). mode) result) same
      (subst (λ (v : Val). IsFound all (present named 209 (Some (value_in all v))) setting setting (λ (mode : FileMode). mode) result) is found)

  pub argument_is : IsFound all (mode_named (Text (codes "r")) (value_in all held)) setting setting (λ (mode : FileMode). mode) result
      → IsFound all (mode_named (Text (codes "r")) (value_in all val)) setting setting (λ (mode : FileMode). mode) result
  argument_is found =
      subst (λ (v : Val). IsFound all (mode_named (Text (codes "r")) (value_in all v)) setting setting (λ (mode : FileMode). mode) result) (sym is) found
