use Rattle.std.proofs.Common.{◌∙◌, ap, length, rules, FitsSigned}
use Rattle.std.specs.Int.{w64}
use Rattle.icn_defs.specs.Conversions.{position_of}
use Rattle.icn_vars.specs.Worlds.{setting_of}
use Rattle.icn_scanfn.proofs.Moves.{held_integer, tab_found}
use Rattle.icn_scanfn.proofs.moving.tab_by.Goals as goal

pub returns-in-Some-clause-row : goal.returns-in-Some-clause-row
returns-in-Some-clause-row g c = λ outside.
    tab_found c.args.n c.in-Some.place (length c.bytes.result.now) (setting_of outside c.args.w.now (g.L.Locals.items c.args.l.now)) (c.in-Some.ensures.place
    ∙ held_integer (λ n. position_of n (length c.bytes.result.now)) c.args.n (let fits : FitsSigned w64 c.args.n = search rules in fits))
    (ap length c.bytes.ensures)
    ∙ c.tab_to.ensures.row outside
