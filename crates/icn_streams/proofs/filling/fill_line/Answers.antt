-- A line that was read is that of some input.
use Rattle.std.proofs.Common.{◌≡◌, false, rules}
use Rattle.icn_host.specs.declared.fault.LineEnd.TheVariants.{End}
use Rattle.icn_streams.proofs.SomeInput.{line_read}
use Rattle.icn_streams.proofs.filling.fill_line.Goals as goal

pub returns-clause-some : goal.returns-clause-some
returns-clause-some g c =
    let ended : c.ne.result ≡ false → c.in_ok-line.line ≡ End = λ missed. search rules in
    line_read c.ne.result c.clear.new.self.items c.line.new.into.items c.clear.ensures.items c.in_ok-line.ensures.plain
    (λ missed. c.in_ok-line.ensures.none (ended missed))
