use Rattle.std.proofs.Common.{◌≡◌, ◌∙◌, ◌++◌, ◌∷◌, [], List, ap, is_ok, length, not, refl, arith}
use Rattle.icn_strings.specs.Parts.{RegionPart, part}
use Rattle.icn_strings.proofs.PackedBytes.{cut_back, laid_more, laid_same, not_pushed, parts_more, parts_same, pushed, size_is}
use Rattle.icn_strings.proofs.packed.Packed.push.Goals as goal

pub overflow_cast-at : goal.overflow_cast-at
overflow_cast-at c =
    let size = size_is c.self.inside.bytes.items c.self.inside.runs.items c.args.self.now c.self.invariant c.self.view_is in
    omega (arith, size, c.requires, c.len-place.ensures, c.self.inside.bytes.ok)

pub invariant_of-self-then-is_err : goal.invariant_of-self-then-is_err
invariant_of-self-then-is_err c =
    let bytes = c.self.inside.bytes.items in
    let runs = c.self.inside.runs.items in
    let more : c.extend_from_slice.new.self.items ≡ bytes ++ c.args.bytes.now = c.in_ok-extend_from_slice.ensures.items in
    let at : c.len-place.result ≡ length bytes = omega (arith, c.len-place.ensures, c.self.inside.bytes.ok) in
    let stays = not_pushed (is_ok c.push.result) _ _ _ c.push.ensures.items (c.is_err.ensures.negation ∙ ap not c.if-is_err.true) in
    let back =
    cut_back bytes c.args.bytes.now c.extend_from_slice.new.self.items c.truncate.new.self.items c.len-place.result more at c.truncate.ensures.items in
    laid_same bytes c.truncate.new.self.items runs c.push.new.self.items back stays c.self.invariant

pub returns-then-is_err-clause-unchanged : goal.returns-then-is_err-clause-unchanged
returns-then-is_err-clause-unchanged c =
    let bytes = c.self.inside.bytes.items in
    let runs = c.self.inside.runs.items in
    let more : c.extend_from_slice.new.self.items ≡ bytes ++ c.args.bytes.now = c.in_ok-extend_from_slice.ensures.items in
    let at : c.len-place.result ≡ length bytes = omega (arith, c.len-place.ensures, c.self.inside.bytes.ok) in
    let stays = not_pushed (is_ok c.push.result) _ _ _ c.push.ensures.items (c.is_err.ensures.negation ∙ ap not c.if-is_err.true) in
    let back =
    cut_back bytes c.args.bytes.now c.extend_from_slice.new.self.items c.truncate.new.self.items c.len-place.result more at c.truncate.ensures.items in
    parts_same bytes c.truncate.new.self.items runs c.push.new.self.items back stays ∙ c.self.view_is

pub invariant_of-self-else-is_err : goal.invariant_of-self-else-is_err
invariant_of-self-else-is_err c =
    let bytes = c.self.inside.bytes.items in
    let runs = c.self.inside.runs.items in
    let more : c.extend_from_slice.new.self.items ≡ bytes ++ c.args.bytes.now = c.in_ok-extend_from_slice.ensures.items in
    let at : c.len-place.result ≡ length bytes = omega (arith, c.len-place.ensures, c.self.inside.bytes.ok) in
    let added = pushed (is_ok c.push.result) _ _ _ c.push.ensures.items (c.is_err.ensures.negation ∙ ap not c.if-is_err.false) in
    laid_same (bytes ++ c.args.bytes.now) c.extend_from_slice.new.self.items _ c.push.new.self.items more added
    (laid_more bytes c.args.bytes.now runs c.args.first c.len-place.result _ c.self.invariant at refl)

pub returns-clause-added : goal.returns-clause-added
returns-clause-added c =
    let bytes = c.self.inside.bytes.items in
    let runs = c.self.inside.runs.items in
    let more : c.extend_from_slice.new.self.items ≡ bytes ++ c.args.bytes.now = c.in_ok-extend_from_slice.ensures.items in
    let at : c.len-place.result ≡ length bytes = omega (arith, c.len-place.ensures, c.self.inside.bytes.ok) in
    let added = pushed (is_ok c.push.result) _ _ _ c.push.ensures.items (c.is_err.ensures.negation ∙ ap not c.if-is_err.false) in
    parts_same (bytes ++ c.args.bytes.now) c.extend_from_slice.new.self.items _ c.push.new.self.items more added
    ∙ (parts_more bytes c.args.bytes.now runs c.args.first c.len-place.result _ c.self.invariant.within at refl
    ∙ ap (λ (parts : List RegionPart). parts ++ part c.args.first c.args.bytes.now ∷ []) c.self.view_is)
