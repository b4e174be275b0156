use Rattle.std.proofs.Common.{sym, ◌∙◌}
use Rattle.icn_link.proofs.ReferenceTables.{found_text, no_text}
use Rattle.icn_link.proofs.gathered.text_index.Goals as goal

pub returns-in-Some : goal.returns-in-Some
returns-in-Some c = found_text c.args.text.now c.args.texts.now.keys c.in-Some.index (sym c.in-Some.ensures.index)

pub returns-in-None : goal.returns-in-None
returns-in-None c = c.len.ensures.len ∙ no_text c.args.text.now c.args.texts.now.keys (sym c.in-None.ensures.index)
