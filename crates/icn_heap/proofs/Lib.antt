pub mod KeyTests
pub mod KeyValues
pub mod HeapCharges
pub mod NeededSteps
pub mod GrowingHeaps
pub mod HeldElements
pub mod PairViews
pub mod ListChanges
pub mod OtherChanges
pub mod FileChanges
pub mod MarkedStructures
pub mod CollectedHeaps
pub mod TextChanges
pub mod NewNumbers
pub mod ChangedParts
pub mod ListItems
pub mod PaidChanges
pub mod TakenElements
pub mod DistinctKeys
pub mod JoinedValues
pub mod JoinedPairs
pub mod StructureNumbers
mod KindRows
mod RefusedChanges
