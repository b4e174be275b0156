use Rattle.std.proofs.Common.{◌∙◌, ap, length, pos, rules, FitsSigned}
use Rattle.std.specs.Prelude.{◌+ℤ◌}
use Rattle.std.specs.Int.{w64}
use Rattle.icn_defs.specs.Scanning.{plain_position}
use Rattle.icn_vars.specs.Worlds.{setting_of}
use Rattle.icn_scanfn.proofs.Moves.{held_integer}
use Rattle.icn_scanfn.proofs.SubjectSteps.{move_place}
use Rattle.icn_scanfn.proofs.in_subject.move_in_subject.Goals as goal

pub returns-clause-row : goal.returns-clause-row
returns-clause-row c = λ outside locals.
    move_place c.args.n c.moved_place.result (length c.bytes.result.now) (setting_of outside c.args.w.now locals) (c.moved_place.ensures.value
    ∙ held_integer (λ n. plain_position (pos c.args.w.now.pair.position +ℤ n) (length c.bytes.result.now)) c.args.n
    (let fits : FitsSigned w64 c.args.n = search rules in fits)) (ap length c.bytes.ensures)
