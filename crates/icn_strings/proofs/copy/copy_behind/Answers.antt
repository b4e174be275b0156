use Rattle.std.proofs.Common.{◌∙◌, ◌++◌, List, ℕ, sym, ap, subst, arith}
use Rattle.icn_strings.specs.Chunks.{part_of_chunk, HasRoom}
use Rattle.icn_strings.proofs.HeldRanges.{not_first}
use Rattle.icn_strings.proofs.AddedBytes.{none_added, part_is, last_agrees}
use Rattle.icn_strings.proofs.copy.copy_behind.Goals as goal

pub returns-then-range-eq0-clause-bytes : goal.returns-then-range-eq0-clause-bytes
returns-then-range-eq0-clause-bytes c all are ends = none_added _ _ c.args.range.len c.if-range-eq0.true

pub returns-then-holds-clause-bytes : goal.returns-then-holds-clause-bytes
returns-then-holds-clause-bytes c all are ends =
    let last = c.args.last.now in
    c.add_part.ensures.bytes
    ∙ ap (λ (ys : List ℕ). last.bytes.items ++ ys) (part_is all (part_of_chunk last) c.args.range (last_agrees all last ends) (sym c.holds.ensures ∙ c.if-holds.true))

pub part-requires-clause-held : goal.part-requires-clause-held
part-requires-clause-held c =
    not_first _ _ (sym c.holds.ensures ∙ c.if-holds.false) (c.requires.held (omega (arith, c.if-range-eq0.false)))

pub add-requires : goal.add-requires
add-requires c = subst (λ n. HasRoom c.args.last.now n) (sym c.part.ensures.len) c.requires.room

pub returns-clause-bytes : goal.returns-clause-bytes
returns-clause-bytes c all are ends =
    c.add.ensures.bytes ∙ ap (λ (ys : List ℕ). c.args.last.now.bytes.items ++ ys) (c.part.ensures.bytes all are)

pub returns-clause-room : goal.returns-clause-room
returns-clause-room c count room = c.add.ensures.room count (omega (arith, c.part.ensures.len, room))
