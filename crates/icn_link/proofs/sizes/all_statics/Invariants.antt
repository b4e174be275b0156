use Rattle.std.proofs.Common.{◌≡◌, ◌+◌, ◌^◌, ◌<◌, drop}
use Rattle.icn_link.specs.LinkFaults.{all_statics, count_told}
use Rattle.icn_link.specs.Views.{procs_seen, texts_seen}
use Rattle.icn_link.proofs.sizes.all_statics.Given as goal

abbrev pub invariant-loop-proc : goal.invariant-loop-proc
invariant-loop-proc l = record {
  sum : count_told (l.count + all_statics (texts_seen l.globals.keys) (procs_seen (drop l.proc-index l.procs)))
      ≡ count_told (all_statics (texts_seen l.globals.keys) (procs_seen l.procs));
  fits : l.count < 2 ^ 64;
}
