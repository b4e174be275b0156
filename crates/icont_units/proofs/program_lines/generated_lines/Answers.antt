use Rattle.std.proofs.Common.{◌≤◌, ◌<◌, sym, subst, arith}
use Rattle.icn_tree.specs.SourceTexts.{joined_len}
use Rattle.icont_units.proofs.LineSizes.{file_is_named, generated_fits}
use Rattle.icont_units.proofs.program_lines.generated_lines.Goals as goal

pub invariant_of-result : goal.invariant_of-result
invariant_of-result c =
    let few : c.from.result < 65536 = omega (arith, c.ranges.number.fits, c.from.ensures) in
    record {
      within = subst (λ lines. joined_len lines ≤ 16777216) (sym c.in_ok-lines.ensures) (generated_fits c.from.result few);
      named = file_is_named c.push.new.self.items c.in_ok-lines.lines.items c.new-names.result.items _ c.from.result
          c.new-names.ensures.items c.in_ok-push.ensures.items c.in_ok-lines.ensures;
    }
