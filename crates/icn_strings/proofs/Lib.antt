pub mod HeldRanges
mod ChunkParts
mod ClosedParts
pub mod AddedBytes
pub mod ChunkSizes
pub mod KeptRegions
pub mod GatheredRuns
pub mod Fillings
pub mod PieceLengths
pub mod RegionWrites
mod PackedBytes
mod PackedRows
