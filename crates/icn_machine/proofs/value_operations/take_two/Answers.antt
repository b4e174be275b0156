use Rattle.std.proofs.Common.{IsSome, refl, sym, ap, ◌∙◌, subst}
use Rattle.std.proofs.lemmas.Option.{same_Some}
use Rattle.icn_value.specs.declared.item.Item.{Item}
use Rattle.icn_frames.specs.Stacks.{FlatStack}
use Rattle.icn_machine.proofs.PlainOperands.{second_there, two_taken, two_there}
use Rattle.icn_machine.proofs.value_operations.take_two.Goals as goal

pub pop-upper-requires : goal.pop-upper-requires
pop-upper-requires g c = subst IsSome (sym (two_there c.args.frames.now.flat c.requires).first) refl

pub pop-lower-requires : goal.pop-lower-requires
pop-lower-requires g c =
    let two = two_there c.args.frames.now.flat c.requires in
    second_there c.args.frames.now.flat c.pop-upper.new.self.flat two
    (ap (λ (top : Item × FlatStack). top.1) (same_Some _ _ (sym c.pop-upper.ensures.flat ∙ two.first)))

pub returns-clause-taken : goal.returns-clause-taken
returns-clause-taken g c =
    two_taken c.args.frames.now.flat c.pop-upper.new.self.flat c.pop-lower.new.self.flat c.pop-lower.result c.pop-upper.result c.pop-upper.ensures.flat
    c.pop-lower.ensures.flat
