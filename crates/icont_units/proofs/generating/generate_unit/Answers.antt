use Rattle.icont_units.specs.Sources.{scan_of}
use Rattle.icont_units.proofs.GeneratedUnit.{are_read, member_comes, not_read}
use Rattle.icont_units.proofs.generating.generate_unit.Goals as goal

pub returns-in-Ok-line_tokens-clause-comes : goal.returns-in-Ok-line_tokens-clause-comes
returns-in-Ok-line_tokens-clause-comes c =
    member_comes c.args.number (scan_of c.in-Ok-line_tokens.source) c.tokens_member.result
    (are_read c.args.number c.in-Ok.lines.names.items c.in-Ok.lines.lines.items (scan_of c.in-Ok-line_tokens.source) c.in-Ok.ensures.names c.in-Ok.ensures.lines
    c.in-Ok-line_tokens.ensures.read) c.tokens_member.ensures.are

pub returns-in-Err-line_tokens-clause-comes : goal.returns-in-Err-line_tokens-clause-comes
returns-in-Err-line_tokens-clause-comes c =
    not_read c.args.number c.in-Ok.lines.names.items c.in-Ok.lines.lines.items c.in-Err-line_tokens.answer c.in-Ok.ensures.names c.in-Ok.ensures.lines
    c.in-Err-line_tokens.ensures.read
