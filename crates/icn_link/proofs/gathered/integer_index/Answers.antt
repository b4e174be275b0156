use Rattle.std.proofs.Common.{sym, ap, ◌∙◌, rules}
use Rattle.std.specs.Int.{w64}
use Rattle.std.specs.Int.RustNames.{FitsSigned}
use Rattle.std.specs.List.{position}
use Rattle.std.specs.Ordering.{int_eq}
use Rattle.std.proofs.lemmas.Int.{to_z-of_z}
use Rattle.icn_link.proofs.ReferenceTables.{found_index, no_index}
use Rattle.icn_link.proofs.gathered.integer_index.Goals as goal

pub returns-in-Some : goal.returns-in-Some
returns-in-Some c =
    let fits : FitsSigned w64 c.args.n = search rules in
    sym (found_index (int_eq c.args.n) c.args.integers.now.keys c.in-Some.index
    (ap (λ z. position (int_eq z) c.args.integers.now.keys) (sym (to_z-of_z w64 c.args.n fits)) ∙ sym c.in-Some.ensures.index))

pub returns-in-None : goal.returns-in-None
returns-in-None c =
    let fits : FitsSigned w64 c.args.n = search rules in
    c.len.ensures.len ∙ sym (no_index (int_eq c.args.n) c.args.integers.now.keys
    (ap (λ z. position (int_eq z) c.args.integers.now.keys) (sym (to_z-of_z w64 c.args.n fits)) ∙ sym c.in-None.ensures.index))
