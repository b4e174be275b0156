pub mod LackSteps
pub mod RangeSteps
pub mod LiftSteps
pub mod ArmSteps
pub mod GroupSteps
