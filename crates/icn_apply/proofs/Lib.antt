pub mod NameLists
pub mod NamesStay
pub mod SizesStay
mod InPlace
mod ProcedureRows
mod RuleCounts
