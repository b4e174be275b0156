use Rattle.std.proofs.Common.{◌≡◌, pos, get_or, length, ◌++◌, List, ℕ, ap, ◌∙◌, rules}
use Rattle.std.specs.Int.{w32, to_le_bytes}
use Rattle.icn_image.specs.Spelling.{integer}
use Rattle.icn_image.proofs.WritingLoop.{put_more}
use Rattle.icn_image.proofs.writing.put_integers.Goals as goal

pub loop-integer-preserved : goal.loop-integer-preserved
loop-integer-preserved c =
    let xs = c.args.integers.now in
    let i = c.loop-integer.integer-index in
    let bytes : c.to_le_bytes.result ≡ integer (get_or xs i (pos 0)) = search rules in
    put_more integer c.args.out.now.items (to_le_bytes w32 (length xs)) xs i (pos 0) c.loop-integer.out.items c.extend_from_slice.new.self.items
    c.loop-integer-test.true c.loop-integer.invariant (c.in_ok-extend_from_slice.ensures.items ∙ ap (λ (t : List ℕ). c.loop-integer.out.items ++ t) bytes)
