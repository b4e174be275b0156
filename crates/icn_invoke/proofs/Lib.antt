pub mod NamedPlaces
