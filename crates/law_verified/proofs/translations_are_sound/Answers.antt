use Rattle.law_verified.proofs.VerifierAgrees.{codes_have_shapes}
use Rattle.law_verified.proofs.BackwardLabels.{codes_sound}
use Rattle.law_verified.proofs.translations_are_sound.Goals as goal

pub returns-clause-shapes : goal.returns-clause-shapes
returns-clause-shapes c = codes_have_shapes

pub returns-clause-sound : goal.returns-clause-sound
returns-clause-sound c = codes_sound
