use Rattle.std.proofs.Common.{◌∙◌, ℕ, List}
use Rattle.icn_value.specs.Members.{members_of}
use Rattle.icn_heap.specs.Extents.{value_in}
use Rattle.icn_heap.specs.Heaps.{extent_of}
use Rattle.icn_args.proofs.RowAnswers.{first_stops, stops_within, then_stops}
use Rattle.icn_ops.specs.Operands.{csets_in, one_cset}
use Rattle.icn_ops.proofs.sets.two_csets.Goals as goal

pub returns-in_err-c-clause-found : goal.returns-in_err-c-clause-found
returns-in_err-c-clause-found c = λ setting.
    first_stops (extent_of c.args.heap.now) (one_cset (value_in (extent_of c.args.heap.now) c.args.a))
    (λ (a : List ℕ) next. one_cset (value_in (extent_of c.args.heap.now) c.args.b) (λ b. next (a, b))) setting setting csets_in c.in_err-c.field-0.0
    c.from_residual.result c.from_residual.ensures.1 (c.in_err-c.ensures.found setting)

pub returns-in_err-d-clause-found : goal.returns-in_err-d-clause-found
returns-in_err-d-clause-found c = λ setting.
    then_stops (extent_of c.args.heap.now) (one_cset (value_in (extent_of c.args.heap.now) c.args.a)) (members_of c.in_ok-c.c)
    (λ (a : List ℕ) next. one_cset (value_in (extent_of c.args.heap.now) c.args.b) (λ b. next (a, b))) setting setting setting csets_in c.in_err-d.field-0.0
    c.from_residual-in_err-d.result c.from_residual-in_err-d.ensures.1 (c.in_ok-c.ensures.found setting)
    (stops_within (extent_of c.args.heap.now) (one_cset (value_in (extent_of c.args.heap.now) c.args.b))
    (λ b next. next ((members_of c.in_ok-c.c), b)) setting setting c.in_err-d.field-0.0 (c.in_err-d.ensures.found setting))

pub returns-clause-found : goal.returns-clause-found
returns-clause-found c = λ setting next.
    c.in_ok-c.ensures.found setting (λ a. one_cset (value_in (extent_of c.args.heap.now) c.args.b) (λ b. next (a, b)))
    ∙ c.in_ok-d.ensures.found setting (λ b. next ((members_of c.in_ok-c.c), b))
