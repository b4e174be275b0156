use Rattle.std.proofs.Common.{◌∙◌, ap}
use Rattle.icn_prep.specs.DefinedNames.{with_text}
use Rattle.icn_prep.specs.TextViews.{texts_in}
use Rattle.icn_prep.proofs.MapChanges.{defines, added, missing}
use Rattle.icn_prep.proofs.texts.Texts.define.Goals as goal

pub returns : goal.returns
returns c =
    let none = missing c.args.self.now.texts c.args.name.now c.in_ok-name.name.items c.in_ok-name.ensures.items c.requires in
    let m = c.args.self.now.texts in
    defines m c.insert.new.self c.in_ok-name.name.items c.in_ok-text.text c.in_ok-insert.ensures.updates
    (added _ _ _ c.in_ok-insert.ensures.len (c.in_ok-insert.ensures.old ∙ none))
    ∙ (ap (λ n. with_text (texts_in m) n c.in_ok-text.text.items) c.in_ok-name.ensures.items
    ∙ ap (with_text (texts_in m) c.args.name.now) c.in_ok-text.ensures.items)
