-- What keywords see of a run.
use Rattle.std.specs.Prelude.{ℕ}
use Rattle.icn_defs.specs.Keywords.{Standing}
use Rattle.icn_heap.specs.Heaps.{extent_of}
use Rattle.icn_vars.specs.declared.world.World.{World}
use Rattle.icn_vars.specs.Worlds.{kept_in}

-- this level, the active co-expression and its activator, and the error that a world keeps
abbrev pub standing_at : ℕ → ℕ → ℕ → World → Standing
standing_at level current source world = record {
  level = level;
  current = current;
  source = source;
  kept = kept_in (extent_of world.heap) world.words.kept;
}
