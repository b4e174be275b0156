use Rattle.std.proofs.Common.{◌∙◌, ◌++◌, List, ℕ, take, map, ap, arith}
use Rattle.std.specs.Prelude.{slice_index}
use Rattle.std.proofs.lemmas.List.{take_rest}
use Rattle.icn_strings.proofs.AddedBytes.{end_put}
use Rattle.icn_strings.proofs.chunk.map_end.Goals as goal

pub returns-clause-bytes : goal.returns-clause-bytes
returns-clause-bytes c =
    let old = c.args.bytes.now in
    end_put old c.put_images.new.bytes c.args.kept _ (omega arith)
    ∙ ap (λ (ys : List ℕ). take c.args.kept old ++ ys)
    (c.put_images.ensures ∙ ap (λ (ys : List ℕ). map (slice_index c.args.images.now) ys) (take_rest old c.args.kept))
