use Rattle.std.proofs.Common.{◌∙◌, sym, rules, FitsSigned}
use Rattle.std.specs.Int.{cast_signed, cast_unsigned, w64}
use Rattle.std.proofs.lemmas.Int.{to_z-of_z}
use Rattle.icn_heap.specs.Extents.{value_in}
use Rattle.icn_heap.specs.Heaps.{extent_of}
use Rattle.icn_vars.specs.Worlds.{setting_of}
use Rattle.icn_vars.proofs.PartChanges.{error_assigned}
use Rattle.icn_vars.proofs.keywords.assign_error.Goals as goal

pub returns-in-Some-clause-assigned : goal.returns-in-Some-clause-assigned
returns-in-Some-clause-assigned g c = λ outside.
    let fits : FitsSigned w64 c.in-Some.n = search rules in
    error_assigned (value_in (extent_of c.args.w.now.heap) c.args.val) c.in-Some.n (cast_signed w64 (cast_unsigned w64 c.in-Some.n))
    (setting_of outside c.args.w.now (g.L.Locals.items c.args.l.now)) (sym c.to_integer.ensures ∙ c.in-Some.is) (to_z-of_z w64 c.in-Some.n fits)
