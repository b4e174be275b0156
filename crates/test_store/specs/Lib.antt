pub mod SomeNames
