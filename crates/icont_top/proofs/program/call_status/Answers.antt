use Rattle.std.proofs.Common.{◌∙◌}
use Rattle.icont_top.proofs.program.call_status.Goals as goal

pub returns : goal.returns
returns g c = record {
  answer = c.icont_main-answer.result;
  is = record {
    outcome = c.icont_main-answer.ensures.outcome;
    faultless = c.icont_main-answer.ensures.faultless;
    headline = c.icont_main-answer.ensures.headline;
    written = c.icont_main-answer.ensures.written;
    line = c.icont_main-answer.ensures.line;
    fault_line = c.icont_main-answer.ensures.fault_line;
    answered = c.icont_main-answer.ensures.answered;
    complete = c.icont_main-answer.ensures.complete;
    command = c.icont_main-answer.ensures.command;
    links = c.icont_main-answer.ensures.links;
    missed = c.icont_main-answer.ensures.missed;
    input = c.icont_main-answer.ensures.input;
    untouched = c.icont_main-answer.ensures.untouched;
    refused = c.icont_main-answer.ensures.refused;
    unread = c.icont_main-answer.ensures.unread;
    uncalled = c.icont_main-answer.ensures.uncalled;
    causes = c.icont_main-answer.ensures.causes;
    ran = c.icont_main-answer.ensures.ran;
    settled = c.icont_main-answer.ensures.settled;
  };
  status = c.from.ensures ∙ c.code.ensures;
}
