use Rattle.std.proofs.Common.{◌≡◌, ◌+◌, ◌*◌, IfOk, ap, subst}
use Rattle.icont_units.proofs.LineSizes.{sizes_are}
use Rattle.icont_units.proofs.program_lines.sizes_line.Goals as goal

pub returns : goal.returns
returns c =
    subst (λ text. IfOk c.sizes_text.result (λ line. line.items ≡ text))
    (sizes_are c.args.number _ _ (ap (λ n. 4 * n + 4) c.from-count.ensures) (ap (λ n. n + 1) c.from-count.ensures)) c.sizes_text.ensures
