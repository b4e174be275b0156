use Rattle.std.proofs.Common.{◌≡◌, ◌+◌, ◌≤◌, drop, length, map}
use Rattle.icn_translate.specs.Drafts.{with_names}
use Rattle.icn_translate.specs.ProcCodes.{texts_of}
use Rattle.icn_translate.proofs.procedure.enter_names.Given as goal

abbrev pub invariant-loop-entry : goal.invariant-loop-entry
invariant-loop-entry l = record {
  names : with_names (map (λ name. name.now) l.names.keys) (texts_of (drop l.entry-index l.entries))
      ≡ with_names (map (λ name. name.now) l.initial.names.keys) (texts_of l.entries);
  given : length l.names.keys + length (drop l.entry-index l.entries) ≤ length l.initial.names.keys + length l.entries;
}
