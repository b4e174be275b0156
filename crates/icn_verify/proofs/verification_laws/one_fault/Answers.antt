use Rattle.icn_verify.proofs.ShapeLaws.{have_one_fault, have_no_fault}
use Rattle.icn_verify.proofs.DecidedFaults.{sound_or_broken, shapes_given}
use Rattle.icn_verify.proofs.verification_laws.one_fault.Goals as goal

pub returns : goal.returns
returns c = record { one_fault = have_one_fault; no_fault = have_no_fault; judged = sound_or_broken; shapes = shapes_given }
