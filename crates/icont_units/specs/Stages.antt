-- What the stages behind the tokens answer.
use Rattle.std.specs.Prelude.{List, Ok, Err}
use Rattle.icn_tree.specs.declared.token.Token.{Token}
use Rattle.icn_tree.specs.TreeOf.{declarations_of}
use Rattle.icn_decls.specs.declared.checked.Checked.{Checked}
use Rattle.icont_units.specs.declared.program_fault.ProgramFault.{ProgramFault}
use Rattle.icont_units.specs.declared.program_fault.ProgramFault.TheVariants.{Broken, NoMemory}
use Rattle.icont_units.specs.Translating.{TokensGive}

-- the tokens are the file of this text
abbrev pub IsFile : List Token → Checked → Type 0
IsFile tokens checked = TokensGive tokens (Ok (declarations_of checked.text))

-- the tokens are refused by this rule at this place, or memory was wanting
abbrev pub Stops : List Token → ProgramFault → Type 0
Stops tokens (Broken rule place) = TokensGive tokens (Err (rule, place))
Stops tokens NoMemory = Unit {0}
