use Rattle.std.proofs.Common.{◌≡◌, ◌∙◌, ◌++◌, List, ℕ, length, take, drop, reverse, sym, ap}
use Rattle.std.proofs.lemmas.List.{with_items_is}
use Rattle.icn_strings.proofs.chunk.Chunk.reverse_behind.Goals as goal

pub returns-clause-bytes : goal.returns-clause-bytes
returns-clause-bytes c =
    let old = c.args.self.now in
    let had : c.deref_mut.result.now ≡ old.bytes.items = c.deref_mut.ensures.value in
    let long : length c.reverse_end.new.bytes ≡ old.bytes.len =
    c.reverse_end.ensures.len ∙ (ap (λ (ys : List ℕ). length ys) had ∙ sym old.bytes.ok.0) in
    with_items_is old.bytes c.reverse_end.new.bytes long
    ∙ (c.reverse_end.ensures.bytes ∙ ap (λ (ys : List ℕ). take c.args.kept ys ++ reverse (drop c.args.kept ys)) had)
