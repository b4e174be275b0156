pub mod KeptCode
pub mod PrunedCode
pub mod Marks
pub mod Renumbering
pub mod PlaceViews
