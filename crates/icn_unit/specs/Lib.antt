pub mod InstrWords
pub mod OperandViews
pub mod PlainUnits
pub mod UnitOperands
pub mod UnitRules
pub mod UnitTexts
pub mod UnitViews
