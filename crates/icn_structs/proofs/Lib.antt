pub mod KeptValues
pub mod RaisedCounts
pub mod SoughtLeaf
pub mod LeafSums
pub mod GapSums
pub mod StandingNumbers
pub mod MovedNumbers
pub mod OrderedPairs
pub mod ChangedPairs
pub mod PairedSteps
pub mod ShelvedThings
mod PlacedSteps
mod GivenPlaces
pub mod FlatRows
mod ShelfRows
