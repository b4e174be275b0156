pub mod ProgramNames
pub mod TextCharges
pub mod SortTexts
pub mod ImageEnds
