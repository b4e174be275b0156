use Rattle.icn_link.specs.Units.{unit_seen}
use Rattle.icont_units.proofs.NamedMembers.{ucode_pushed, ucode_sound}
use Rattle.icn_answer.proofs.ToldContent.{if_some_elim, if_some_intro}
use Rattle.icont_units.proofs.members.add_named.Goals as goal

pub returns-clause-read : goal.returns-clause-read
returns-clause-read g c =
    if_some_intro (g.F.Files.state c.args.files.now).held _ (λ held e before stands.
    ucode_pushed held c.args.base.now (unit_seen c.in_ok-unit.unit) c.args.members.now c.push_ucode.new.members
    before c.push_ucode.result
    (if_some_elim _ (g.F.Files.state c.args.files.now).held held e c.in_ok-unit.ensures.comes) stands
    c.push_ucode.ensures.added c.push_ucode.ensures.others)

pub returns-clause-sound : goal.returns-clause-sound
returns-clause-sound g c sound =
    ucode_sound (unit_seen c.in_ok-unit.unit) c.args.members.now c.push_ucode.new.members c.push_ucode.result sound
    c.push_ucode.ensures.added
