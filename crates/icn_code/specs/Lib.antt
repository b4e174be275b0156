pub mod Codes
pub mod Rules
pub mod CodeTables
pub mod MainProcedure
