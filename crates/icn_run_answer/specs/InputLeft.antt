-- What a call leaves of the input.
pub use Rattle.icn_defs.specs.Interruptions.{LosesSome}
