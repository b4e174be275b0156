use Rattle.std.proofs.Common.{sym, ◌∙◌, le_trans}
use Rattle.icn_text.proofs.FuncNames.{no_more, func_within}
use Rattle.icn_text.proofs.func.func_named.Goals as goal

pub loop-found-preserved : goal.loop-found-preserved
loop-found-preserved c =
    no_more c.loop-found.found-index _ c.args.name.now c.name.result.now c.name.ensures (sym c.eq.ensures ∙ c.if-eq.false) c.loop-found.invariant

pub returns-clause-none : goal.returns-clause-none
returns-clause-none c = λ any. c.loop-found.invariant any (le_trans (func_within any) c.loop-found-test.false)
