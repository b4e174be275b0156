use Rattle.std.proofs.Common.{Option, Some, ap, pos, refl, ℤ}
use Rattle.std.proofs.lemmas.Int.{to_z_pos}
use Rattle.std.specs.Int.{w64}
use Rattle.icn_value.specs.declared.item.Item.{Item}
use Rattle.icn_value.specs.declared.item.Item.TheVariants as Items
use Rattle.icn_value.specs.declared.val.Val.TheVariants as Vals
use Rattle.icn_vars.specs.declared.outcome.Outcome.TheVariants as Outcomes
use Rattle.icn_machine.proofs.GiveSteps.{suspends_given, suspends_live, suspends_named}
use Rattle.icn_machine.proofs.scanning.give_first.Goals as goal

pub returns-clause-gives : goal.returns-clause-gives
returns-clause-gives g c =
    let item : Item = Items.Val (Vals.Integer (pos c.args.place)) in
    let F : ℤ → Option Item = λ i. Some (Items.Val (Vals.Integer i)) in
    suspends_given (Outcomes.Suspends item c.args.rest.now) item c.args.rest.now c.args.frames.now.flat c.suspend_row.new.self.flat refl
    (c.in_ok-suspend_row.ensures.ok item (ap F (to_z_pos w64 c.args.place c.requires)))

pub returns-clause-live : goal.returns-clause-live
returns-clause-live g c t reach l i =
    let item : Item = Items.Val (Vals.Integer (pos c.args.place)) in
    let F : ℤ → Option Item = λ j. Some (Items.Val (Vals.Integer j)) in
    suspends_live t reach (Outcomes.Suspends item c.args.rest.now) item c.args.rest.now c.args.frames.now.flat c.suspend_row.new.self.flat refl
    (c.in_ok-suspend_row.ensures.ok item (ap F (to_z_pos w64 c.args.place c.requires))) l i

pub returns-clause-named : goal.returns-clause-named
returns-clause-named g c names all seen h o =
    let item : Item = Items.Val (Vals.Integer (pos c.args.place)) in
    let F : ℤ → Option Item = λ j. Some (Items.Val (Vals.Integer j)) in
    suspends_named names all seen (Outcomes.Suspends item c.args.rest.now) item c.args.rest.now c.args.frames.now.flat c.suspend_row.new.self.flat refl
    (c.in_ok-suspend_row.ensures.ok item (ap F (to_z_pos w64 c.args.place c.requires))) h o

pub suspend_row-requires : goal.suspend_row-requires
suspend_row-requires g c = record { plain = refl }
