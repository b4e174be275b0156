use Rattle.std.proofs.Common.{◌≡◌, ◌==◌, ℕ, Bool, nat_lt, if◌then◌else◌, Result, Ok, Err, sym, ap, ◌∙◌, subst}
use Rattle.std.proofs.lemmas.Bool.{ne_eqb}
use Rattle.icn_tree.specs.declared.rule.Rule.{Rule}
use Rattle.icn_tree.specs.declared.rule.Rule.TheVariants.{I4}
use Rattle.icn_defs.specs.Numbers.{func_of}
use Rattle.icn_code.specs.declared.code.Start.{Start}
use Rattle.icn_code.specs.declared.code.Start.TheVariants.{Null, Procedure, Record}
use Rattle.icn_image.specs.Readers.{Gives}
use Rattle.icn_image.specs.Reading.{func_start, start_of}
use Rattle.icn_image.proofs.global.start_of.Goals as goal

-- a kind that is none of the first three is that of a function
other_kind : (records kind number : ℕ) → (kind ≡ 0 → ⊥) → (kind ≡ 1 → ⊥) → (kind ≡ 2 → ⊥) → start_of records kind number ≡ func_start (func_of number)
unfolding start_of
other_kind records kind number none one two =
    let function : Result Start Rule = func_start (func_of number) in
    let record_or : Bool → Result Start Rule
    = λ b. if b then (if nat_lt number records then Ok (Record number) else Err I4) else function in
    let procedure_or : Bool → Result Start Rule = λ b. if b then Ok (Procedure number) else record_or (kind == 2) in
    let null_or : Bool → Result Start Rule = λ b. if b then (if number == 0 then Ok Null else Err I4) else procedure_or (kind == 1) in
    ap null_or (ne_eqb kind 0 none) ∙ ap procedure_or (ne_eqb kind 1 one) ∙ ap record_or (ne_eqb kind 2 two)

pub returns-in_default : goal.returns-in_default
returns-in_default c =
    subst (Gives (λ (start : Start). start) c.function_start.result)
    (sym (other_kind c.args.records c.args.kind c.args.number (search) (search) (search))) c.function_start.ensures
