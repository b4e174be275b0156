use Rattle.std.proofs.Common.{◌∙◌, ap, length, rules, FitsSigned}
use Rattle.std.specs.Int.{w64}
use Rattle.icn_defs.specs.Conversions.{position_of}
use Rattle.icn_vars.specs.Worlds.{setting_of}
use Rattle.icn_scanfn.proofs.Moves.{held_integer}
use Rattle.icn_scanfn.proofs.SubjectSteps.{tab_place}
use Rattle.icn_scanfn.proofs.in_subject.tab_in_subject.Goals as goal

pub returns-clause-row : goal.returns-clause-row
returns-clause-row c = λ outside locals.
    tab_place c.args.n c.position_of.result (length c.bytes.result.now) (setting_of outside c.args.w.now locals) (c.position_of.ensures.place
    ∙ held_integer (λ n. position_of n (length c.bytes.result.now)) c.args.n (let fits : FitsSigned w64 c.args.n = search rules in fits))
    (ap length c.bytes.ensures)
