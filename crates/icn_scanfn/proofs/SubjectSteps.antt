-- What functions of scanning come to in the subject, from the position on.
use Rattle.std.proofs.Common.{◌≡◌, ◌∙◌, sym, ap, ℕ, zero, suc, ℤ, pos, ◌+◌, ◌≤◌, Bool, List, length, length-drop, length-take, Option, Some, None, drop, take, subst, arith}
use Rattle.std.specs.Prelude.{◌+ℤ◌, if◌then◌else◌}
use Rattle.std.proofs.lemmas.Bool.{le-leb}
use Rattle.icn_value.specs.Store.{Setting}
use Rattle.icn_defs.specs.Conversions.{position_of}
use Rattle.icn_defs.specs.Rows.{Row, thing_or_failure}
use Rattle.icn_defs.specs.Scanning.{SearchedText, ends_of, plain_position, stands, tabs_to}
use Rattle.icn_defs.specs.Variables.{in_order}
use Rattle.icn_scanfn.specs.InSubject.{place_behind}
use Rattle.icn_scanfn.specs.Moves.{moves_by, tabs_by}

-- the subject, and what stands from the position on
abbrev pub subject_region : Setting → SearchedText
subject_region setting =
    record { text = setting.world.subject; first = pos setting.world.position; last = pos 0 }

position_there : (place size : ℕ) → 1 ≤ place → place ≤ size + 1 → position_of (pos place) size ≡ Some place
position_there zero size low high = absurd (omega arith)
position_there (suc n) size low high = ap (λ (b : Bool). if b then Some (suc n) else None) (le-leb n size (omega arith))

-- its ends are the position and the place behind its last byte
pub subject_ends : (setting : Setting) (bytes : List ℕ) → bytes ≡ setting.world.subject → 1 ≤ setting.world.position
    → setting.world.position ≤ length setting.world.subject + 1
    → (next : ℕ × ℕ → Row) (at : Setting) → ends_of (subject_region setting) next at ≡ next (setting.world.position, length bytes + 1) at
subject_ends setting bytes same low high next at =
    let place : ℕ = setting.world.position in
    let last : ℕ = length setting.world.subject + 1 in
    ap (λ (o : Option ℕ). thing_or_failure o (λ a. next (in_order a last)) at) (position_there place (length setting.world.subject) low high)
    ∙ ap (λ (b : Bool). next (if b then (place, last) else (last, place)) at) (le-leb place last high)
    ∙ ap (λ (text : List ℕ). next (place, length text + 1) at) (sym same)

-- a place to which a function moves, if there is one
pub tab_place : (n : ℤ) (found : Option ℕ) (size : ℕ) (setting : Setting) → found ≡ position_of n size → size ≡ length setting.world.subject
    → tabs_by n setting ≡ thing_or_failure found tabs_to setting
tab_place n found size setting is same = ap (λ (p : Option ℕ). thing_or_failure p tabs_to setting) (ap (position_of n) (sym same) ∙ sym is)

pub move_place : (n : ℤ) (found : Option ℕ) (size : ℕ) (setting : Setting) → found ≡ plain_position (pos setting.world.position +ℤ n) size
    → size ≡ length setting.world.subject → moves_by n setting ≡ thing_or_failure found tabs_to setting
move_place n found size setting is same =
    ap (λ (p : Option ℕ). thing_or_failure p tabs_to setting) (ap (plain_position (pos setting.world.position +ℤ n)) (sym same) ∙ sym is)

-- the place behind a text that was tested
pub behind_tested : (wanted bytes subject text : List ℕ) (place : ℕ) (test answer : Bool) → bytes ≡ wanted → text ≡ subject
    → test ≡ stands bytes text place (length text + 1) → test ≡ answer
    → (if answer then Some (place + length bytes) else None) ≡ place_behind wanted subject place
behind_tested wanted bytes subject text place test answer same same' is met =
    ap (λ (b : Bool). if b then Some (place + length bytes) else None) (sym met ∙ is)
    ∙ ap (λ (xs : List ℕ). place_behind xs text place) same
    ∙ ap (λ (ys : List ℕ). place_behind wanted ys place) same'

-- a part of a text is no longer
pub part_short : (whole part : List ℕ) (from len : ℕ) → part ≡ take len (drop from whole) → length part ≤ length whole
part_short whole part from len is =
    let short : length (take len (drop from whole)) ≤ length whole = omega (arith, length-take len (drop from whole), length-drop from whole) in
    subst (λ (xs : List ℕ). length xs ≤ length whole) (sym is) short
