-- The names are passed one by one, up to the first that is the text.
use Rattle.std.proofs.Common.{◌∙◌, sym, arith}
use Rattle.icn_invoke.proofs.NamedPlaces.{from_first, met, passed, unmet}
use Rattle.icn_invoke.proofs.finding.find.Goals as goal

pub loop-number-init : goal.loop-number-init
loop-number-init g c = from_first (g.N.Names.known c.args.names.now) c.args.text.now (g.N.Names.none_hidden c.args.names.now)

pub loop-number-preserved : goal.loop-number-preserved
loop-number-preserved g c =
    passed (g.N.Names.known c.args.names.now) c.loop-number.number _ c.args.text.now c.proc.result.now (omega (arith))
    (omega (arith, c.loop-number-test.true, c.count-number-end.ensures)) c.proc.ensures (sym c.eq.ensures ∙ c.if-eq.false)
    c.loop-number.invariant

pub returns-then-eq-clause-named : goal.returns-then-eq-clause-named
returns-then-eq-clause-named g c =
    met (g.N.Names.known c.args.names.now) c.loop-number.number c.args.text.now c.proc.result.now
    (omega (arith, c.loop-number-test.true, c.count-number-end.ensures)) c.proc.ensures (sym c.eq.ensures ∙ c.if-eq.true)
    c.loop-number.invariant

pub returns-clause-named : goal.returns-clause-named
returns-clause-named g c =
    unmet (g.N.Names.known c.args.names.now) c.loop-number.number c.args.text.now
    (omega (arith, c.loop-number-test.false, c.count-number-end.ensures)) c.loop-number.invariant
