use Rattle.std.proofs.Common.{subst, IfSome}
use Rattle.icn_host.specs.FileMaps.{TellsFile}
use Rattle.icn_host.proofs.SinkSteps.{on_err_always}
use Rattle.icn_host.proofs.FileSteps.{reads_part_told}
use Rattle.icn_host.proofs.disk.read_file.Goals as goal

pub returns-in_err-read_first-in-Some-clause-err : goal.returns-in_err-read_first-in-Some-clause-err
returns-in_err-read_first-in-Some-clause-err g c =
    on_err_always c.from_residual-in_err-read_first-in-Some.result
    (reads_part_told (g.S.FileSystem.held c.args.system.now) c.args.name.now (g.S.Reader.Read.remaining c.in-Some.reader) _ _ _
    (subst (λ o. IfSome o (λ reader. TellsFile (g.S.FileSystem.held c.args.system.now) c.args.name.now (g.S.Reader.Read.remaining reader)))
    c.in-Some.is c.in_ok-reader.ensures.told)
    c.in_err-read_first-in-Some.ensures.err)
