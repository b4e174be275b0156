use Rattle.std.proofs.Common.{List, length, get_or, sym, ap, subst, arith, length-append}
use Rattle.std.proofs.lemmas.List.{get_or_append_left}
use Rattle.icn_strings.specs.Parts.{IsWhole, RegionPart}
use Rattle.icn_strings.specs.Chunks.{parts_of_chunks}
use Rattle.icn_strings.proofs.closed.Closed.is_at.Goals as goal

pub returns-clause-within : goal.returns-clause-within
returns-clause-within c = λ is.
    let packed = c.self.inside.packed in
    let within = c.is_at.ensures.within is in
    let long = length-append packed (parts_of_chunks c.self.inside.chunks.items) in
    let all = ap (λ (parts : List RegionPart). length parts) c.self.view_is in
    omega (arith, within, long, all)

pub returns-clause-whole : goal.returns-clause-whole
returns-clause-whole c = λ is d.
    let packed = c.self.inside.packed in
    let chunks = parts_of_chunks c.self.inside.chunks.items in
    subst (λ (parts : List RegionPart). IsWhole c.args.range (get_or parts c.args.index d)) c.self.view_is
    (subst (λ (one : RegionPart). IsWhole c.args.range one) (sym (get_or_append_left packed chunks d c.args.index (c.is_at.ensures.within is)))
    (c.is_at.ensures.whole is d))
