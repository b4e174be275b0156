use Rattle.icn_machine.proofs.SetTwice.{set_again}
use Rattle.icn_machine.proofs.own_locals.OwnLocalsLocals.set.Goals as goal

pub invariant_of-self : goal.invariant_of-self
invariant_of-self g c = record {
  lent = c.args.self.now.lent;
  same =
      set_again g.B.Earlier.stack c.args.self.now.frames.now.flat c.set_local.new.self.flat c.args.index c.args.val c.args.self.now.same
      c.set_local.ensures.flat c.set_local.ensures.locals;
}
