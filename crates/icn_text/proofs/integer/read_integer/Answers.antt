use Rattle.icn_text.proofs.DecidedIntegers.{no_integer, read, refused}
use Rattle.icn_text.proofs.WrittenIntegers.{read_is, unwritten}
use Rattle.icn_text.proofs.integer.read_integer.Goals as goal
use Rattle.std.proofs.Common.{sym}

pub returns-in-Some-clause-read : goal.returns-in-Some-clause-read
returns-in-Some-clause-read c =
    read c.args.text.now c.in-Some.is_negative c.in-Some.magnitude c.integer_with_sign.result c.in-Some.ensures c.integer_with_sign.ensures

pub returns-in-Some-clause-refused : goal.returns-in-Some-clause-refused
returns-in-Some-clause-refused c =
    refused c.args.text.now c.in-Some.is_negative c.in-Some.magnitude c.integer_with_sign.result c.in-Some.ensures c.integer_with_sign.ensures

pub returns-in-Some-clause-found : goal.returns-in-Some-clause-found
returns-in-Some-clause-found c =
    read_is c.args.text.now c.integer_with_sign.result
    (read c.args.text.now c.in-Some.is_negative c.in-Some.magnitude c.integer_with_sign.result c.in-Some.ensures c.integer_with_sign.ensures)
    (refused c.args.text.now c.in-Some.is_negative c.in-Some.magnitude c.integer_with_sign.result c.in-Some.ensures c.integer_with_sign.ensures)

pub returns-in-None-clause-refused : goal.returns-in-None-clause-refused
returns-in-None-clause-refused c = no_integer c.args.text.now c.in-None.ensures

pub returns-in-None-clause-found : goal.returns-in-None-clause-found
returns-in-None-clause-found c = sym (unwritten c.args.text.now (no_integer c.args.text.now c.in-None.ensures))
