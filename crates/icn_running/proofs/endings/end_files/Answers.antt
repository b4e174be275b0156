-- Files are written at each ending but the bound.
use Rattle.std.proofs.Common.{◌≡◌, refl, rules, subst, Ok, Err}
use Rattle.icn_host.specs.declared.fault.Fault.{Fault}
use Rattle.icn_host.specs.declared.fault.Fault.TheVariants.{Failed, NoMemory}
use Rattle.icn_defs.specs.declared.ending.Ending.TheVariants.{AtBound}
use Rattle.icn_heap.specs.Heaps.{heap_of}
use Rattle.icn_filefn.specs.WrittenFiles.{StoreCause}
use Rattle.icn_running.proofs.EndedRuns.{writes_end}
use Rattle.icn_running.proofs.endings.end_files.Goals as goal

pub returns-in-Ok-clause-ok : goal.returns-in-Ok-clause-ok
returns-in-Ok-clause-ok g c =
    let other : c.args.ending ≡ AtBound → ⊥ = search rules in (
      refl,
      writes_end c.args.ending (heap_of c.args.heap.now) (g.F.Files.state c.args.files.now) (g.F.Files.state c.write_open_files.new.files) (Ok tt) other
          c.in-Ok.ensures.written c.in-Ok.ensures.cause,
    )

pub returns-in-Err-Failed-clause-err : goal.returns-in-Err-Failed-clause-err
returns-in-Err-Failed-clause-err g c =
    let other : c.args.ending ≡ AtBound → ⊥ = search rules in (
      Failed,
      refl,
      writes_end c.args.ending (heap_of c.args.heap.now) (g.F.Files.state c.args.files.now) (g.F.Files.state c.write_open_files.new.files)
          (Err Failed) other c.in-Err-Failed.ensures.written
          (subst (λ (fault : Fault). StoreCause (Err fault) (g.F.Files.state c.args.files.now) (g.F.Files.state c.write_open_files.new.files))
          c.in-Err-Failed.field-0-is c.in-Err-Failed.ensures.cause),
    )

pub returns-in-Err-NoMemory-clause-err : goal.returns-in-Err-NoMemory-clause-err
returns-in-Err-NoMemory-clause-err g c =
    let other : c.args.ending ≡ AtBound → ⊥ = search rules in (
      NoMemory,
      refl,
      writes_end c.args.ending (heap_of c.args.heap.now) (g.F.Files.state c.args.files.now) (g.F.Files.state c.write_open_files.new.files)
          (Err NoMemory) other c.in-Err-NoMemory.ensures.written
          (subst (λ (fault : Fault). StoreCause (Err fault) (g.F.Files.state c.args.files.now) (g.F.Files.state c.write_open_files.new.files))
          c.in-Err-NoMemory.field-0-is c.in-Err-NoMemory.ensures.cause),
    )
