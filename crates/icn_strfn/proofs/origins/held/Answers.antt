use Rattle.std.proofs.Common.{sym, ap, subst}
use Rattle.icn_strings.specs.Regions.{IsOf, bytes_of}
use Rattle.icn_heap.specs.Extents.{text_in}
use Rattle.icn_strfn.proofs.origins.held.Goals as goal

pub returns-clause-of : goal.returns-clause-of
returns-clause-of c all is = subst (λ range. IsOf all.strings range) (sym c.as_range.ensures) is.of

pub returns-clause-bytes : goal.returns-clause-bytes
unfolding text_in
returns-clause-bytes c all = ap (bytes_of all.strings) c.as_range.ensures
