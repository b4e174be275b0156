use Rattle.std.proofs.Common.{ℕ, map, pos, rules, subst}
use Rattle.std.specs.Prelude.{FitsSigned}
use Rattle.std.proofs.lemmas.Int.{to_z-of_z}
use Rattle.std.specs.Int.{w64}
use Rattle.icn_value.specs.Values.{Integer}
use Rattle.icn_defs.specs.Arguments.{arg, arg_or, integer}
use Rattle.icn_heap.specs.Extents.{value_in}
use Rattle.icn_heap.specs.Heaps.{extent_of}
use Rattle.icn_args.specs.RowWords.{IsFound}
use Rattle.icn_args.proofs.RowAnswers.{first_stops}
use Rattle.icn_iofn.specs.ReadParts.{positive}
use Rattle.icn_iofn.proofs.ReadSteps.{found_behind}
use Rattle.icn_iofn.proofs.arguments.count_arg.Goals as goal

pub returns-in_err-n-clause-found : goal.returns-in_err-n-clause-found
returns-in_err-n-clause-found c = λ setting.
    first_stops (extent_of c.args.heap.now) (integer (arg_or (Integer (pos 1)) (map (value_in (extent_of c.args.heap.now)) c.args.vals.now) 1))
    (λ n. positive n (arg (map (value_in (extent_of c.args.heap.now)) c.args.vals.now) 1)) setting setting
    (λ (n : ℕ). n) c.in_err-n.field-0.0 c.from_residual.result c.from_residual.ensures.1
    (c.in_err-n.ensures.found setting)

pub returns-clause-found : goal.returns-clause-found
returns-clause-found c = λ setting.
    let fits : FitsSigned w64 c.in_ok-n.n = search rules in
    found_behind (extent_of c.args.heap.now) (integer (arg_or (Integer (pos 1)) (map (value_in (extent_of c.args.heap.now)) c.args.vals.now) 1)) c.in_ok-n.n
    (λ n. positive n (arg (map (value_in (extent_of c.args.heap.now)) c.args.vals.now) 1)) setting setting setting (λ (n : ℕ). n) c.positive.result
    (c.in_ok-n.ensures.found setting)
    (subst (λ value. IsFound (extent_of c.args.heap.now) (positive c.in_ok-n.n value) setting setting (λ (n : ℕ). n) c.positive.result)
    (c.arg.ensures.value (extent_of c.args.heap.now))
    (subst (λ m. IsFound (extent_of c.args.heap.now) (positive m (value_in (extent_of c.args.heap.now) c.arg.result)) setting setting
    (λ (n : ℕ). n) c.positive.result) (to_z-of_z w64 c.in_ok-n.n fits)
    (c.positive.ensures.found (extent_of c.args.heap.now) setting)))

pub returns-clause-stops : goal.returns-clause-stops
returns-clause-stops c = c.positive.ensures.stops (extent_of c.args.heap.now) (c.arg.ensures.live (extent_of c.args.heap.now) c.requires)
