-- What the fault of a sink is for a run.
use Rattle.icn_host.specs.declared.fault.Fault.{Fault}
use Rattle.icn_host.specs.declared.fault.Fault.TheVariants as Faults
use Rattle.icn_running.specs.declared.fault.RunFault.{RunFault}
use Rattle.icn_running.specs.declared.fault.RunFault.TheVariants.{WriteFault, NoMemory}

-- what a failed put is for a run: a write fault or want of memory
abbrev pub of_sink : Fault → RunFault
of_sink Faults.Failed = WriteFault
of_sink Faults.NoMemory = NoMemory
