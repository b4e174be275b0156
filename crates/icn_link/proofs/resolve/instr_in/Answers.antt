use Rattle.std.proofs.Common.{Some, ap, ◌∙◌, rules}
use Rattle.std.specs.Int.{w64}
use Rattle.std.specs.Int.RustNames.{FitsSigned}
use Rattle.std.proofs.lemmas.Int.{to_z-of_z}
use Rattle.icn_code.specs.declared.instr.Instr.TheVariants.{Int}
use Rattle.icn_link.specs.FirstMentions.{integer_index}
use Rattle.icn_link.proofs.resolve.instr_in.Goals as goal

pub returns-in-Int : goal.returns-in-Int
returns-in-Int c =
    let fits : FitsSigned w64 c.in-Int.n = search rules in
    rw c.in-Int.is (ap (λ k. Some (Int k)) (c.integer_index.ensures ∙ ap (integer_index c.args.tables.now.integers.keys) (to_z-of_z w64 c.in-Int.n fits)))
