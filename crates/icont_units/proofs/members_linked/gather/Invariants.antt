use Rattle.std.proofs.Common.{◌≡◌, ◌-◌, ◌^◌, Some, [], take}
use Rattle.std.specs.List.{flat_map}
use Rattle.icn_host.specs.FileMaps.{FileMap}
use Rattle.icn_link.specs.FirstMentions.{with_texts}
use Rattle.icn_link.specs.LinkFaults.{unit_names}
use Rattle.icn_link.specs.Units.{units_seen}
use Rattle.icont_units.specs.Loading.{MembersGrow, Knows, texts_in}
use Rattle.icont_units.specs.Units.{IsAbsent, links_of}
use Rattle.icont_units.proofs.LinkedMembers.{GatheredSo}
use Rattle.icont_units.proofs.members_linked.gather.Given as goal

abbrev pub invariant-loop-place : goal.invariant-loop-place
invariant-loop-place g l = record {
  gathered : (held : FileMap) → (g.F.Files.state l.fn.files).held ≡ Some held
      → GatheredSo held l.fn.members l.members l.place
      × Knows (IsAbsent held) (units_seen l.members.units.items) (texts_in l.known.keys);
  grows : MembersGrow (g.F.Files.state l.fn.files).counts.absences (g.F.Files.state l.files).counts.absences l.fn.members l.members
      (with_texts [] (unit_names (units_seen l.fn.members.units.items)))
      (texts_in l.known.keys) (flat_map links_of (take l.place (units_seen l.members.units.items)));
  same : (g.F.Files.state l.files).held ≡ (g.F.Files.state l.fn.files).held;
  faults : (g.F.Files.state l.files).counts.faults ≡ (g.F.Files.state l.fn.files).counts.faults;
  wants : (g.F.Files.state l.files).counts.wants ≡ (g.F.Files.state l.fn.files).counts.wants;
}

abbrev pub decreases-loop-place : goal.decreases-loop-place
decreases-loop-place g l = 2 ^ 64 - l.place
