pub mod SourceImages
