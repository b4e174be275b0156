use Rattle.std.proofs.Common.{◌<◌, length, map, arith}
use Rattle.std.proofs.lemmas.Bool.Decides.{nat_tests}
use Rattle.std.proofs.lemmas.Result.{err_from_is_err_and}
use Rattle.icn_tree.specs.TreeOf.{declaration_of}
use Rattle.icn_parse.specs.Views.{finish_of}
use Rattle.icn_parse.proofs.FileLoop.{declaration_shorter, file_more, file_stopped}
use Rattle.icn_parse.proofs.file.read_file.Goals as goal

pub returns-in_err-finished : goal.returns-in_err-finished
returns-in_err-finished c =
    let p = err_from_is_err_and c.from_residual.result c.from_residual.ensures.1 in
    let some : 0 < length c.loop-rest.rest.now = grind (arith, nat_tests, c.is_empty.ensures, c.loop-rest-test.true) in
    rw (p.1, p.2) (file_stopped c.args.tokens.now c.loop-rest.all.high
    (map declaration_of c.loop-rest.all.decls.items) c.loop-rest.rest.now _ c.loop-rest.invariant some c.in_err-finished.ensures)

pub loop-rest-smaller : goal.loop-rest-smaller
loop-rest-smaller c = declaration_shorter c.loop-rest.rest.now c.in_ok-finished.others.now (finish_of c.in_ok-finished.finished) c.in_ok-finished.ensures

pub loop-rest-preserved : goal.loop-rest-preserved
loop-rest-preserved c =
    rw (c.in_ok-add.ensures.high, c.in_ok-add.ensures.decls)
    (file_more c.args.tokens.now c.loop-rest.all.high (map declaration_of c.loop-rest.all.decls.items) c.loop-rest.rest.now c.in_ok-finished.others.now
    (finish_of c.in_ok-finished.finished) c.loop-rest.invariant c.in_ok-finished.ensures)
