pub mod CellsRead
pub mod CallsRead
pub mod ScansRead
pub mod DropsRead
