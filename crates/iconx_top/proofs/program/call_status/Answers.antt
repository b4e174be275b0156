use Rattle.std.proofs.Common.{◌∙◌}
use Rattle.iconx_top.proofs.program.call_status.Goals as goal

pub returns : goal.returns
returns g c = record {
  answer = c.iconx_main-answer.result;
  is = record {
    outcome = c.iconx_main-answer.ensures.outcome;
    faultless = c.iconx_main-answer.ensures.faultless;
    line = c.iconx_main-answer.ensures.line;
    fault_line = c.iconx_main-answer.ensures.fault_line;
    answered = c.iconx_main-answer.ensures.answered;
    command = c.iconx_main-answer.ensures.command;
    input = c.iconx_main-answer.ensures.input;
    refused = c.iconx_main-answer.ensures.refused;
    unread = c.iconx_main-answer.ensures.unread;
    uncalled = c.iconx_main-answer.ensures.uncalled;
    files = c.iconx_main-answer.ensures.files;
    unwritten = c.iconx_main-answer.ensures.unwritten;
    written = c.iconx_main-answer.ensures.written;
    leaves = c.iconx_main-answer.ensures.leaves;
    causes = c.iconx_main-answer.ensures.causes;
    ran = c.iconx_main-answer.ensures.ran;
    absences = c.iconx_main-answer.ensures.absences;
    settled = c.iconx_main-answer.ensures.settled;
  };
  status = c.from.ensures ∙ c.code.ensures;
}
