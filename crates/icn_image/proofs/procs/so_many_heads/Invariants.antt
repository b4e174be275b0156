use Rattle.std.proofs.Common.{◌≡◌, ◌-◌, ◌≤◌}
use Rattle.icn_profile.specs.Numbers.{most_statics}
use Rattle.icn_image.specs.Reading.{heads_from}
use Rattle.icn_image.specs.Versions.{width_of}
use Rattle.icn_image.proofs.EntryLoop.{with_front}
use Rattle.icn_image.proofs.procs.so_many_heads.Given as goal

abbrev pub invariant-loop : goal.invariant-loop
invariant-loop l = record {
  reads : with_front l.heads.items (heads_from (width_of l.version) l.strings l.statics (l.count - l.counter) l.rest)
      ≡ heads_from (width_of l.version) l.strings 0 l.count l.bytes;
  within : l.statics ≤ most_statics;
}
