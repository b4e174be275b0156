use Rattle.std.proofs.Common.{◌≡◌, ◌∙◌, length, sym, ap, subst, arith}
use Rattle.icn_strings.specs.Regions.{IsOf, bytes_of}
use Rattle.icn_strings.proofs.KeptRegions.{bytes_are}
use Rattle.icn_heap.specs.Extents.{range_of, text_in}
use Rattle.icn_strfn.proofs.MadePieces.{blank_fills, some_fill}
use Rattle.icn_strfn.proofs.origins.text_filling.Goals as goal

pub returns-then-span-eq0-clause-bytes : goal.returns-then-span-eq0-clause-bytes
unfolding text_in
returns-then-span-eq0-clause-bytes c all is =
    blank_fills (bytes_of all.strings (range_of c.args.span)) (bytes_are all.strings (range_of c.args.span) is.of ∙ c.if-span-eq0.true)

pub returns-clause-of : goal.returns-clause-of
returns-clause-of c all is = subst (λ range. IsOf all.strings range) (sym c.as_range.ensures) is.of

pub returns-clause-bytes : goal.returns-clause-bytes
unfolding text_in
returns-clause-bytes c all is =
    let long : length (bytes_of all.strings (range_of c.args.span)) ≡ c.args.span.len = bytes_are all.strings (range_of c.args.span) is.of in
    ap (bytes_of all.strings) c.as_range.ensures
    ∙ some_fill (bytes_of all.strings (range_of c.args.span)) (omega (arith, long, c.if-span-eq0.false))

pub returns-clause-some : goal.returns-clause-some
returns-clause-some c =
    let same : c.as_range.result.len ≡ c.args.span.len = ap (λ range. range.len) c.as_range.ensures in omega (arith, same, c.if-span-eq0.false)
