use Rattle.icn_tree.proofs.KeptByScans.{rule_of_scan}
use Rattle.icn_lex.proofs.ScannedLines.{fault_of, found_tokens}
use Rattle.icont_units.proofs.NamedSources.{are_scanned, not_absent, scan_read}
use Rattle.icont_units.proofs.source.line_tokens.Goals as goal

pub returns-in-Ok-clause-scanned : goal.returns-in-Ok-clause-scanned
returns-in-Ok-clause-scanned c =
    are_scanned c.args.lines.lines.items c.in-Ok.tokens.items c.args.lines.within (found_tokens c.args.lines.lines.items c.in-Ok.tokens c.in-Ok.ensures.exact)

pub returns-in-Err-Broken-clause-absence : goal.returns-in-Err-Broken-clause-absence
returns-in-Err-Broken-clause-absence c =
    not_absent c.in-Err-Broken.rule _ c.in-Err-Broken.line c.refused_at.result
    (rule_of_scan c.args.lines.lines.items c.in-Err-Broken.rule c.in-Err-Broken.file c.in-Err-Broken.line
    (fault_of c.args.lines.lines.items c.in-Err-Broken.rule c.in-Err-Broken.file c.in-Err-Broken.line
    (rw c.in-Err-Broken.field-0-is at c.in-Err-Broken.ensures.exact))) c.refused_at.ensures

pub returns-in-Err-Broken-clause-others : goal.returns-in-Err-Broken-clause-others
returns-in-Err-Broken-clause-others c =
    scan_read c.in-Err-Broken.rule _ c.in-Err-Broken.line c.refused_at.result
    (rule_of_scan c.args.lines.lines.items c.in-Err-Broken.rule c.in-Err-Broken.file c.in-Err-Broken.line
    (fault_of c.args.lines.lines.items c.in-Err-Broken.rule c.in-Err-Broken.file c.in-Err-Broken.line
    (rw c.in-Err-Broken.field-0-is at c.in-Err-Broken.ensures.exact))) c.refused_at.ensures
