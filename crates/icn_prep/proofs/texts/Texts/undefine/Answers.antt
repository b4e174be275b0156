use Rattle.std.proofs.Common.{◌∙◌, ap}
use Rattle.std.specs.Option.{option_map}
use Rattle.icn_prep.specs.DefinedNames.{undefined_by}
use Rattle.icn_prep.specs.TextViews.{texts_of}
use Rattle.icn_prep.proofs.MapChanges.{undefines}
use Rattle.icn_prep.proofs.texts.Texts.undefine.Goals as goal

pub returns : goal.returns
returns c = undefines c.args.self.now.texts c.swap_remove.new.self c.args.name.now c.swap_remove.result
    c.swap_remove.ensures.value c.swap_remove.ensures.updates c.swap_remove.ensures.len (λ none. rw none at c.swap_remove.ensures.unchanged)
    ∙ ap (undefined_by (texts_of c.args.self.now) c.args.name.now) (ap (option_map (λ t. t.items)) c.swap_remove.ensures.value)
