-- The faults of the stages behind the tokens, as one.
use Rattle.icn_parse.specs.declared.fault.ParseFault.{ParseFault}
use Rattle.icn_parse.specs.declared.fault.ParseFault.TheVariants as Parse
use Rattle.icn_decls.specs.declared.fault.ContextFault.{ContextFault}
use Rattle.icn_decls.specs.declared.fault.ContextFault.TheVariants as Context
use Rattle.icont_units.specs.declared.program_fault.ProgramFault.{ProgramFault}
use Rattle.icont_units.specs.declared.program_fault.ProgramFault.TheVariants.{Broken, NoMemory}

-- a fault of the parser, as one of a program
abbrev pub of_parse : ParseFault → ProgramFault
of_parse (Parse.Broken rule file line) = Broken rule (record { line = line; file = file })
of_parse Parse.NoMemory = NoMemory

-- a broken context rule, or want of memory, as a fault of a program
abbrev pub of_context : ContextFault → ProgramFault
of_context (Context.Broken rule file line) = Broken rule (record { line = line; file = file })
of_context Context.NoMemory = NoMemory
