pub mod CallSteps
pub mod IntegerSteps
pub mod InvokeSteps
pub mod NamedSteps
pub mod ParameterSteps
pub mod RecordSteps
pub mod RuleSteps
mod FunctionPlaces
