pub mod Automata
pub mod Heights
pub mod Capped
pub mod Reading
pub mod Views
