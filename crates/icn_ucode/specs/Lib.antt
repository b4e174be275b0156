pub mod DeclViews
pub mod LabelSets
pub mod UnitReading
pub mod UnitViews
