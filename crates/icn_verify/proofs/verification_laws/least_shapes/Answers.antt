use Rattle.icn_verify.proofs.ShapeLaws.{have_one_shape, are_least}
use Rattle.icn_verify.proofs.verification_laws.least_shapes.Goals as goal

pub returns : goal.returns
returns c = record { one_shape = have_one_shape; least = are_least }
