use Rattle.std.proofs.Common.{FitsSigned, ◌∷◌, [], ◌∙◌, ap, rules, subst, sym, ℤ}
use Rattle.std.proofs.lemmas.Int.{to_z-of_z}
use Rattle.std.specs.Int.{w64}
use Rattle.icn_text.specs.declared.func.Func.{Func}
use Rattle.icn_value.specs.Values.{Integer}
use Rattle.icn_value.specs.declared.val.Val.TheVariants as Vals
use Rattle.icn_defs.specs.Scanning.{move_row, tab_row}
use Rattle.icn_vars.specs.Worlds.{setting_of}
use Rattle.icn_machine.specs.PlainScans.{MovesTop}
use Rattle.icn_machine.proofs.PlainCallSteps.{operands_there}
use Rattle.icn_machine.proofs.scanning.place_moved.Goals as goal

pub integer_told-requires : goal.integer_told-requires
integer_told-requires g c = operands_there 0 c.args.frames.now.flat c.requires

pub returns-in-Tab-clause-moves : goal.returns-in-Tab-clause-moves
returns-in-Tab-clause-moves g c =
    let n = c.in_ok-n.n in
    let w = c.args.world.now in
    let fits : FitsSigned w64 n = search rules in
    subst (λ (f : Func). MovesTop f w c.args.frames.now.flat c.tab_in_subject.result) (sym c.in-Tab.is) (record {
      value = Vals.Integer n;
      below = c.in_ok-n.ensures;
      comes = λ names outside locals.
          sym (ap (λ (i : ℤ). tab_row (Integer i ∷ []) (setting_of outside w locals)) (to_z-of_z w64 n fits)) ∙ c.tab_in_subject.ensures.row outside locals;
    })

pub returns-in-Move-clause-moves : goal.returns-in-Move-clause-moves
returns-in-Move-clause-moves g c =
    let n = c.in_ok-n.n in
    let w = c.args.world.now in
    let fits : FitsSigned w64 n = search rules in
    subst (λ (f : Func). MovesTop f w c.args.frames.now.flat c.move_in_subject.result) (sym c.in-Move.is) (record {
      value = Vals.Integer n;
      below = c.in_ok-n.ensures;
      comes = λ names outside locals.
          sym (ap (λ (i : ℤ). move_row (Integer i ∷ []) (setting_of outside w locals)) (to_z-of_z w64 n fits)) ∙ c.move_in_subject.ensures.row outside locals;
    })
