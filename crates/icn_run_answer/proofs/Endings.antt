-- The ending of an answer and the one that is observed.
use Rattle.std.proofs.Common.{◌≡◌, refl}
use Rattle.icn_defs.specs.declared.ending.Ending.{Ending}
use Rattle.icn_defs.specs.declared.ending.Ending.TheVariants.{Done, Exit, Errored, AtBound}
use Rattle.icn_running.specs.Reported.{ending_seen}
use Rattle.icn_answer.specs.Endings.{ending_held}

pub held_seen : (ending : Ending) → ending_held (ending_seen ending) ≡ ending
held_seen Done = refl
held_seen (Exit status) = refl
held_seen (Errored number) = refl
held_seen AtBound = refl
