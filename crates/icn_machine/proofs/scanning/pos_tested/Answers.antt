use Rattle.std.proofs.Common.{FitsSigned, ◌∷◌, [], ◌∙◌, ap, rules, sym, ℤ}
use Rattle.std.proofs.lemmas.Int.{to_z-of_z}
use Rattle.std.specs.Int.{w64}
use Rattle.icn_value.specs.Values.{Integer}
use Rattle.icn_value.specs.declared.val.Val.TheVariants as Vals
use Rattle.icn_defs.specs.Scanning.{pos_row}
use Rattle.icn_vars.specs.Worlds.{setting_of}
use Rattle.icn_machine.proofs.PlainCallSteps.{operands_there}
use Rattle.icn_machine.proofs.scanning.pos_tested.Goals as goal

pub integer_told-requires : goal.integer_told-requires
integer_told-requires g c = operands_there 0 c.args.frames.now.flat c.requires

pub returns-clause-tests : goal.returns-clause-tests
returns-clause-tests g c =
    let n = c.in_ok-n.n in
    let fits : FitsSigned w64 n = search rules in
    record {
      value = Vals.Integer n;
      below = c.in_ok-n.ensures;
      comes = λ names outside locals.
          sym (ap (λ (i : ℤ). pos_row (Integer i ∷ []) (setting_of outside c.args.world.now locals)) (to_z-of_z w64 n fits))
          ∙ c.pos_in_subject.ensures.row outside locals;
    }
