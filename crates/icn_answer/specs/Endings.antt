-- The ending of a run, as it is observed, in an answer.
use Rattle.icn_defs.specs.Running.{Ending, Done, Exit, Errored, AtBound}
use Rattle.icn_defs.specs.declared.ending.Ending.{Ending as HeldEnding}
use Rattle.icn_defs.specs.declared.ending.Ending.TheVariants as HeldEndings

-- the same ending, as an answer holds it
abbrev pub ending_held : Ending → HeldEnding
ending_held Done = HeldEndings.Done
ending_held (Exit status) = HeldEndings.Exit status
ending_held (Errored number) = HeldEndings.Errored number
ending_held AtBound = HeldEndings.AtBound
