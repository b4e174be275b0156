use Rattle.icn_code.specs.CodeTables.{tables_of}
use Rattle.icn_verify.proofs.TableRules.{tables_are_bounded}
use Rattle.icn_verify.proofs.SoundInstructions.{sound_shapes}
use Rattle.icn_verify.proofs.verified.Verified.code.Goals as goal

pub returns-clause-shapes : goal.returns-clause-shapes
returns-clause-shapes c = λ number proc at.
    sound_shapes proc.instrs ((tables_are_bounded (tables_of c.args.self.now.code) c.args.self.now.code.rules).labels number proc at)
    (c.args.self.now.verified number proc at)
