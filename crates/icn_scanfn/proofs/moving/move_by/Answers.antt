use Rattle.std.proofs.Common.{◌∙◌, ap, length, pos, rules, FitsSigned}
use Rattle.std.specs.Prelude.{◌+ℤ◌}
use Rattle.std.specs.Int.{w64}
use Rattle.icn_defs.specs.Scanning.{plain_position}
use Rattle.icn_vars.specs.Worlds.{setting_of}
use Rattle.icn_scanfn.proofs.Moves.{held_integer, move_found}
use Rattle.icn_scanfn.proofs.moving.move_by.Goals as goal

pub returns-in-Some-clause-row : goal.returns-in-Some-clause-row
returns-in-Some-clause-row g c = λ outside.
    move_found c.args.n c.in-Some.place (length c.bytes.result.now) (setting_of outside c.args.w.now (g.L.Locals.items c.args.l.now)) (c.in-Some.ensures.value
    ∙ held_integer (λ n. plain_position (pos c.args.w.now.pair.position +ℤ n) (length c.bytes.result.now)) c.args.n
    (let fits : FitsSigned w64 c.args.n = search rules in
    fits)) (ap length c.bytes.ensures) ∙ c.tab_to.ensures.row outside
