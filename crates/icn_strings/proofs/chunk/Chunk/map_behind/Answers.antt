use Rattle.std.proofs.Common.{◌≡◌, ◌∙◌, ◌++◌, List, ℕ, length, take, drop, map, sym, ap}
use Rattle.std.specs.Prelude.{slice_index}
use Rattle.std.proofs.lemmas.List.{with_items_is}
use Rattle.icn_strings.proofs.chunk.Chunk.map_behind.Goals as goal

pub returns-clause-bytes : goal.returns-clause-bytes
returns-clause-bytes c =
    let old = c.args.self.now in
    let had : c.deref_mut.result.now ≡ old.bytes.items = c.deref_mut.ensures.value in
    let long : length c.map_end.new.bytes ≡ old.bytes.len =
    c.map_end.ensures.len ∙ (ap (λ (ys : List ℕ). length ys) had ∙ sym old.bytes.ok.0) in
    with_items_is old.bytes c.map_end.new.bytes long
    ∙ (c.map_end.ensures.bytes ∙ ap (λ (ys : List ℕ). take c.args.kept ys ++ map (slice_index c.args.images.now) (drop c.args.kept ys)) had)
