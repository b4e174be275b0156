use Rattle.icn_link.specs.Units.{unit_seen}
use Rattle.icont_units.proofs.NamedMembers.{source_pushed, source_sound}
use Rattle.icn_answer.proofs.ToldContent.{if_some_elim, if_some_intro}
use Rattle.icont_units.proofs.members.add_source.Goals as goal

pub returns-in-Ok-clause-read : goal.returns-in-Ok-clause-read
returns-in-Ok-clause-read g c =
    if_some_intro (g.F.Files.state c.args.files.now).held _ (λ held e before stands.
    source_pushed held c.args.base.now c.as_bytes.result.now c.in_ok-checked.checked (unit_seen c.in-Ok.unit)
    c.args.members.now c.push_source.new.members before c.push_source.result
    (if_some_elim _ (g.F.Files.state c.args.files.now).held held e c.in_ok-checked.ensures.comes) stands c.in-Ok.ensures
    c.as_bytes.ensures.value c.push_source.ensures.added c.push_source.ensures.others)

pub returns-in-Ok-clause-sound : goal.returns-in-Ok-clause-sound
returns-in-Ok-clause-sound g c sound =
    source_sound c.as_bytes.result.now c.in_ok-checked.checked (unit_seen c.in-Ok.unit) c.args.members.now
    c.push_source.new.members c.push_source.result sound c.in-Ok.ensures c.push_source.ensures.added
