use Rattle.std.proofs.Common.{arith}
use Rattle.std.proofs.lemmas.Bool.Decides.{nat_tests}
use Rattle.std.proofs.lemmas.Str.{is_utf8-from_IsUtf8, IsUtf8-from_is_utf8}
use Rattle.icn_prep.proofs.TrimmedEnds.{named_file, unnamed_file}
use Rattle.icn_prep.proofs.operand.file_name.Goals as goal

pub returns-in-Ok : goal.returns-in-Ok
returns-in-Ok c = named_file c.args.name.now c.in-Ok.name.now (grind (arith, nat_tests, c.is_empty.ensures, c.if-is_empty.false)) (c.in-Ok.ensures.cases).0
    (is_utf8-from_IsUtf8 _ (c.in-Ok.ensures.cases).1)

pub returns-in-Err : goal.returns-in-Err
returns-in-Err c = unnamed_file c.args.name.now (λ h. (c.in-Err.ensures.cases).0 (IsUtf8-from_is_utf8 _ h))
