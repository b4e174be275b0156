use Rattle.icn_instructions.proofs.at_once.pfail_at_once.Goals as goal

pub returns : goal.returns
returns g c tables = record {
  step = λ st same. c.fail_procedure.ensures.step tables st same;
  live = c.fail_procedure.ensures.live tables;
  same = c.fail_procedure.ensures.same;
  not_done = λ q. absurd (cc);
}
