-- A file that may be written to is written, and another one is not.
use Rattle.std.proofs.Common.{◌∙◌, sym}
use Rattle.icn_filefn.proofs.WrittenSteps.{keeps_store, not_written, store_cause, written_by}
use Rattle.icn_filefn.proofs.writing.write_out.Goals as goal

pub returns-then-not-is_open_to_write-clause-written : goal.returns-then-not-is_open_to_write-clause-written
returns-then-not-is_open_to_write-clause-written g c = λ was tells.
    not_written c.args.file.now was _ (sym c.is_open_to_write.ensures ∙ c.if-not-is_open_to_write.true) tells

pub returns-then-not-is_open_to_write-clause-cause : goal.returns-then-not-is_open_to_write-clause-cause
returns-then-not-is_open_to_write-clause-cause g c = keeps_store (g.F.Files.state c.args.files.now)

pub returns-clause-written : goal.returns-clause-written
returns-clause-written g c = λ was tells.
    written_by c.args.file.now was _ _ c.write.result (sym c.is_open_to_write.ensures ∙ c.if-not-is_open_to_write.false)
    (rw (c.name.ensures, c.content.ensures) at c.write.ensures.ok)
    (rw (c.name.ensures, c.content.ensures) at c.write.ensures.err) tells

pub returns-clause-cause : goal.returns-clause-cause
returns-clause-cause g c = store_cause _ _ c.write.result c.write.ensures.cause c.write.ensures.want c.write.ensures.absences
