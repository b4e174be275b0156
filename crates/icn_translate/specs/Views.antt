-- What the code keeps, as the definitions see it.
use Rattle.std.specs.Prelude.{map}
use Rattle.icn_translate.specs.declared.marks.OpenMarks.{OpenMarks as KeptOpen}
use Rattle.icn_translate.specs.declared.marks.OpenMarks.TheVariants as Kept
use Rattle.icn_translate.specs.declared.builder.Builder.{Builder}
use Rattle.icn_translate.specs.declared.builder.Pass.{Pass}
use Rattle.icn_translate.specs.declared.builder.Pass.TheVariants.{At, NextResult}
use Rattle.icn_unit.specs.declared.unit.UnitInstr.{UnitInstr}
use Rattle.icn_unit.specs.declared.unit.UnitInstr.TheVariants as I
use Rattle.icn_translate.specs.Drafts.{Draft}
use Rattle.icn_translate.specs.OpenMarks.{OpenMarks, Outermost, Marked, Looped, Controlled, Each}

-- what is open round a place, as definitions see it
abbrev pub open_of : KeptOpen → OpenMarks
open_of Kept.Outermost = Outermost
open_of (Kept.Mark' p outer) = Marked (open_of outer)
open_of (Kept.Loop' p outer) = Looped (open_of outer)
open_of (Kept.Control' p outer) = Controlled (open_of outer)
open_of (Kept.Each' p outer) = Each (open_of outer)

-- the code that is written so far, as definitions see it
unfoldable pub draft_of : Builder → Draft
draft_of b = record {
  instrs = b.instrs.items;
  labels = b.labels;
  names = map (λ name. name.now) b.names.keys;
  loops = b.loops.items;
  cases = b.cases.items;
}

-- the instruction that goes on with the next pass of a loop
abbrev pub pass_instr : Pass → UnitInstr
pass_instr (At label) = I.Loop label
pass_instr NextResult = I.Efail
