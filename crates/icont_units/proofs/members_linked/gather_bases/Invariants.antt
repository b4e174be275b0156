use Rattle.std.proofs.Common.{◌≡◌, Some, take}
use Rattle.icn_host.specs.FileMaps.{FileMap}
use Rattle.icn_link.specs.Units.{units_seen}
use Rattle.icont_units.specs.Loading.{Adds, MembersGrow, Knows, texts_in}
use Rattle.icont_units.specs.Units.{IsAbsent}
use Rattle.icont_units.proofs.members_linked.gather_bases.Given as goal

abbrev pub invariant-loop-base : goal.invariant-loop-base
invariant-loop-base g l = record {
  sought : (held : FileMap) → (g.F.Files.state l.fn.files).held ≡ Some held
      → Knows (IsAbsent held) (units_seen l.fn.members.units.items) (texts_in l.fn.known.keys)
      → Adds held l.fn.members l.members (texts_in (take l.base-index l.bases))
      × Knows (IsAbsent held) (units_seen l.members.units.items) (texts_in l.known.keys);
  grows : MembersGrow (g.F.Files.state l.fn.files).counts.absences (g.F.Files.state l.files).counts.absences l.fn.members l.members
      (texts_in l.fn.known.keys) (texts_in l.known.keys) (texts_in (take l.base-index l.bases));
  same : (g.F.Files.state l.files).held ≡ (g.F.Files.state l.fn.files).held;
  faults : (g.F.Files.state l.files).counts.faults ≡ (g.F.Files.state l.fn.files).counts.faults;
  wants : (g.F.Files.state l.files).counts.wants ≡ (g.F.Files.state l.fn.files).counts.wants;
}
