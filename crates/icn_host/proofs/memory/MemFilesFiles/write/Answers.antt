use Rattle.icn_host.proofs.StoreChanges.{sets_nothing}
use Rattle.icn_host.proofs.memory.MemFilesFiles.write.Goals as goal

pub returns-then-fails_now-clause-err : goal.returns-then-fails_now-clause-err
returns-then-fails_now-clause-err c = sets_nothing _ _ _
