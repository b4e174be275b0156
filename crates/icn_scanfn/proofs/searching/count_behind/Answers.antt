use Rattle.std.proofs.Common.{◌∙◌, sym, arith}
use Rattle.icn_value.specs.Members.{members_of}
use Rattle.icn_scanfn.proofs.PlaceByPlace.{is_member, counts_up, counts_none, counts_down, counts_same}
use Rattle.icn_scanfn.proofs.searching.count_behind.Goals as goal

pub returns-then-has-clause-value : goal.returns-then-has-clause-value
returns-then-has-clause-value c =
    counts_up (members_of c.args.opening.now) (members_of c.args.closing.now) c.args.byte c.args.count
    (is_member c.args.opening.now c.args.byte (omega arith) ∙ (sym c.has.ensures ∙ c.if-has.true))

pub returns-then-count-eq0-clause-value : goal.returns-then-count-eq0-clause-value
returns-then-count-eq0-clause-value c =
    counts_none (members_of c.args.opening.now) (members_of c.args.closing.now) c.args.byte c.args.count
    (is_member c.args.opening.now c.args.byte (omega arith) ∙ (sym c.has.ensures ∙ c.if-has.false))
    (is_member c.args.closing.now c.args.byte (omega arith) ∙ (sym c.has-else-has.ensures ∙ c.if-has-2.true)) (omega arith)

pub returns-else-count-eq0-clause-value : goal.returns-else-count-eq0-clause-value
returns-else-count-eq0-clause-value c =
    counts_down (members_of c.args.opening.now) (members_of c.args.closing.now) c.args.byte c.args.count
    (is_member c.args.opening.now c.args.byte (omega arith) ∙ (sym c.has.ensures ∙ c.if-has.false))
    (is_member c.args.closing.now c.args.byte (omega arith) ∙ (sym c.has-else-has.ensures ∙ c.if-has-2.true)) (omega arith)

pub returns-else-has-2-clause-value : goal.returns-else-has-2-clause-value
returns-else-has-2-clause-value c =
    counts_same (members_of c.args.opening.now) (members_of c.args.closing.now) c.args.byte c.args.count
    (is_member c.args.opening.now c.args.byte (omega arith) ∙ (sym c.has.ensures ∙ c.if-has.false))
    (is_member c.args.closing.now c.args.byte (omega arith) ∙ (sym c.has-else-has.ensures ∙ c.if-has-2.false))
