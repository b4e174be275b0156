-- Names are told of where two have one text, and else not.
use Rattle.std.proofs.Common.{ℕ, Bool, true, false, ◌≡◌, ap, List, [], ◌∷◌, ◌++◌, None, Some, refl, sym, if◌then◌else◌}
use Rattle.std.proofs.lemmas.Bool.{false≢true}
use Rattle.std.proofs.lemmas.Option.{none-some}
use Rattle.std.specs.Str.{bytes_eq}
use Rattle.icn_tree.specs.declared.rule.Rule.{Rule}
use Rattle.icn_tree.specs.declared.tree.Name.{Name}
use Rattle.icn_decls.specs.Contexts.{BrokenRule}
use Rattle.icn_decls.specs.Faults.{all_repeated}
use Rattle.icn_tree.specs.NameSets.{NameTest, none_met, with_name}
use Rattle.icn_decls.specs.DistinctNames.{NoneMet, Once}
use Rattle.icn_decls.specs.Views.{first_of}

with_unmet : (met : NameTest) (text : List ℕ) (names : List Name) → NoneMet (bytes_eq text) names → NoneMet met names → NoneMet (with_name met text) names
with_unmet met text [] a u = tt
with_unmet met text (name ∷ names) (e, a) (f, u) = (rw e f, with_unmet met text names a u)

-- none is told of
untold : (rule : Rule) (met : NameTest) (names : List Name) → NoneMet met names → Once names → all_repeated rule met names ≡ []
untold rule met [] u o = refl
untold rule met (name ∷ names) (e, u) (a, o) = rw e (untold rule (with_name met name.text) names (with_unmet met name.text names a u) o)

both_false : (b c : Bool) → (if b then true else c) ≡ false → (b ≡ false) × (c ≡ false)
both_false true c h = absurd (false≢true (sym h))
both_false false c h = (refl, h)

unmet_with : (met : NameTest) (text : List ℕ) (names : List Name) → NoneMet (with_name met text) names → NoneMet (bytes_eq text) names × NoneMet met names
unmet_with met text [] h = (tt, tt)
unmet_with met text (name ∷ names) (h, hs) =
    let p = both_false (bytes_eq text name.text) (met name.text) h in
    let q = unmet_with met text names hs in
    ((p.0, q.0), (p.1, q.1))

nothing_told : (b : Bool) (fault : BrokenRule) (rest : List BrokenRule) → (if b then fault ∷ [] else []) ++ rest ≡ [] → (b ≡ false) × (rest ≡ [])
nothing_told true fault rest h = absurd (none-some fault (sym (ap first_of h)))
nothing_told false fault rest h = (refl, h)

-- names of which none is told
once : (rule : Rule) (met : NameTest) (names : List Name) → all_repeated rule met names ≡ [] → NoneMet met names × Once names
once rule met [] h = (tt, tt)
once rule met (name ∷ names) h =
    let p = nothing_told (met name.text) (record { rule = rule; place = name.place }) (all_repeated rule (with_name met name.text) names) h in
    let q = once rule (with_name met name.text) names p.1 in
    let r = unmet_with met name.text names q.0 in
    ((p.0, r.1), (r.0, q.1))

unmet_none : (names : List Name) → NoneMet none_met names
unmet_none [] = tt
unmet_none (name ∷ names) = (refl, unmet_none names)

pub names_told : (rule : Rule) (names : List Name) → Once names → all_repeated rule none_met names ≡ []
names_told rule names o = untold rule none_met names (unmet_none names) o

pub names_differ : (rule : Rule) (names : List Name) → all_repeated rule none_met names ≡ [] → Once names
names_differ rule names h = (once rule none_met names h).1
