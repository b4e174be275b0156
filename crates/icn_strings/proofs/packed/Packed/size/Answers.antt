use Rattle.std.proofs.Common.{◌≡◌, ◌∙◌, sym, ap, List, length, arith}
use Rattle.icn_strings.specs.Parts.{RegionPart, sizes}
use Rattle.icn_strings.proofs.PackedBytes.{sizes_are}
use Rattle.icn_strings.proofs.packed.Packed.size.Goals as goal

pub returns : goal.returns
returns c =
    let all : c.len.result ≡ length c.self.inside.bytes.items = omega (arith, c.len.ensures, c.self.inside.bytes.ok) in
    all
    ∙ (sym (sizes_are c.self.inside.bytes.items c.self.inside.runs.items c.self.invariant.within ∙ c.self.invariant.full)
    ∙ ap (λ (parts : List RegionPart). sizes parts) c.self.view_is)
