use Rattle.std.proofs.Common.{IfSome, subst, sym}
use Rattle.icn_text.specs.declared.func.Func.{Func}
use Rattle.icn_machine.specs.PlainScans.{TestsTop}
use Rattle.icn_machine.proofs.scanning.tested.Goals as goal

pub any_tested-requires : goal.any_tested-requires
any_tested-requires g c = c.requires.operand

pub many_tested-requires : goal.many_tested-requires
many_tested-requires g c = c.requires.operand

pub match_tested-requires-clause-operand : goal.match_tested-requires-clause-operand
match_tested-requires-clause-operand g c = c.requires.operand

pub match_tested-requires-clause-live : goal.match_tested-requires-clause-live
match_tested-requires-clause-live g c = c.requires.live

pub pos_tested-requires : goal.pos_tested-requires
pos_tested-requires g c = c.requires.operand

pub returns-in-Any-clause-tests : goal.returns-in-Any-clause-tests
returns-in-Any-clause-tests g c =
    subst (λ (x : Func). IfSome c.any_tested.result (TestsTop x c.args.world.now c.args.frames.now.flat)) (sym c.in-Any.is) c.any_tested.ensures.tests

pub returns-in-Many-clause-tests : goal.returns-in-Many-clause-tests
returns-in-Many-clause-tests g c =
    subst (λ (x : Func). IfSome c.many_tested.result (TestsTop x c.args.world.now c.args.frames.now.flat)) (sym c.in-Many.is) c.many_tested.ensures.tests

pub returns-in-Match-clause-tests : goal.returns-in-Match-clause-tests
returns-in-Match-clause-tests g c =
    subst (λ (x : Func). IfSome c.match_tested.result (TestsTop x c.args.world.now c.args.frames.now.flat)) (sym c.in-Match.is) c.match_tested.ensures.tests

pub returns-in-Pos-clause-tests : goal.returns-in-Pos-clause-tests
returns-in-Pos-clause-tests g c =
    subst (λ (x : Func). IfSome c.pos_tested.result (TestsTop x c.args.world.now c.args.frames.now.flat)) (sym c.in-Pos.is) c.pos_tested.ensures.tests
