pub mod StoreChanges
pub mod FileSteps
pub mod KeptSteps
pub mod SinkSteps
pub mod ReaderSteps
pub mod LineSteps
pub mod ToldPuts
