use Rattle.std.proofs.Common.{ap, ◌∙◌}
use Rattle.icn_prune.specs.PlaceViews.{procs_seen}
use Rattle.icn_prune.proofs.surviving.survivors.Goals as goal

pub kept_procs-requires : goal.kept_procs-requires
kept_procs-requires c = record { as_many = c.requires.kept.as_many }

pub survivors_of-requires-clause-procs : goal.survivors_of-requires-clause-procs
survivors_of-requires-clause-procs c = ap procs_seen c.deref.ensures.value ∙ c.in_ok-entries.ensures
