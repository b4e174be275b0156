pub mod OneObservation
