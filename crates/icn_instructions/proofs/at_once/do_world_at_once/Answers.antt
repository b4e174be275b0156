use Rattle.std.proofs.Common.{refl}
use Rattle.icn_heap.specs.Heaps.{extent_of}
use Rattle.icn_code.specs.declared.instr.Instr.TheVariants as Instrs
use Rattle.icn_instructions.proofs.ArmSteps.{does_as, lacks_as, nothing_done}
use Rattle.icn_instructions.proofs.LackSteps.{pop_there}
use Rattle.icn_instructions.proofs.at_once.do_world_at_once.Goals as goal

pub eret_at_once-requires-clause-goes_on : goal.eret_at_once-requires-clause-goes_on
eret_at_once-requires-clause-goes_on g c =
    let asked = c.requires.goes_on in (
      asked.0,
      (
        asked.1.0,
        (
          asked.1.1.0,
          lacks_as (extent_of c.args.world.now.heap) asked.0 c.args.instr Instrs.Eret c.args.frames.now.flat asked.1.0 c.in-Eret.is asked.1.1.1,
        ),
      ),
    )

pub eret_at_once-requires-clause-live : goal.eret_at_once-requires-clause-live
eret_at_once-requires-clause-live g c = c.requires.live

pub pret_at_once-requires-clause-operand : goal.pret_at_once-requires-clause-operand
pret_at_once-requires-clause-operand g c =
    let asked = c.requires.goes_on in
    pop_there (extent_of c.args.world.now.heap) c.args.frames.now.flat _
    (lacks_as (extent_of c.args.world.now.heap) asked.0 c.args.instr Instrs.Pret c.args.frames.now.flat asked.1.0 c.in-Pret.is asked.1.1.1)

pub pret_at_once-requires-clause-live : goal.pret_at_once-requires-clause-live
pret_at_once-requires-clause-live g c = c.requires.live

pub pfail_at_once-requires : goal.pfail_at_once-requires
pfail_at_once-requires g c = c.requires.live

pub psusp_at_once-requires : goal.psusp_at_once-requires
psusp_at_once-requires g c =
    let asked = c.requires.goes_on in
    pop_there (extent_of c.args.world.now.heap) c.args.frames.now.flat _
    (lacks_as (extent_of c.args.world.now.heap) asked.0 c.args.instr Instrs.Psusp c.args.frames.now.flat asked.1.0 c.in-Psusp.is asked.1.1.1)

pub returns-in-Eret : goal.returns-in-Eret
returns-in-Eret g c tables =
    does_as tables c.args.instr Instrs.Eret c.args.world.now c.args.frames.now.flat c.eret_at_once.new.world c.eret_at_once.new.frames.flat
    c.eret_at_once.result c.in-Eret.is (c.eret_at_once.ensures tables)

pub returns-in-Pret : goal.returns-in-Pret
returns-in-Pret g c tables =
    does_as tables c.args.instr Instrs.Pret c.args.world.now c.args.frames.now.flat c.pret_at_once.new.world c.pret_at_once.new.frames.flat
    c.pret_at_once.result c.in-Pret.is (c.pret_at_once.ensures tables)

pub returns-in-Pfail : goal.returns-in-Pfail
returns-in-Pfail g c tables =
    does_as tables c.args.instr Instrs.Pfail c.args.world.now c.args.frames.now.flat c.pfail_at_once.new.world c.pfail_at_once.new.frames.flat
    c.pfail_at_once.result c.in-Pfail.is (c.pfail_at_once.ensures tables)

pub returns-in-Psusp : goal.returns-in-Psusp
returns-in-Psusp g c tables =
    does_as tables c.args.instr Instrs.Psusp c.args.world.now c.args.frames.now.flat c.psusp_at_once.new.world c.psusp_at_once.new.frames.flat
    c.psusp_at_once.result c.in-Psusp.is (c.psusp_at_once.ensures tables)

pub limit_opened-requires : goal.limit_opened-requires
limit_opened-requires g c =
    let asked = c.requires.goes_on in
    pop_there (extent_of c.args.world.now.heap) c.args.frames.now.flat _
    (lacks_as (extent_of c.args.world.now.heap) asked.0 c.args.instr Instrs.Limit c.args.frames.now.flat asked.1.0 c.in-Limit.is asked.1.1.1)

pub returns-in-Limit : goal.returns-in-Limit
returns-in-Limit g c tables =
    does_as tables c.args.instr Instrs.Limit c.args.world.now c.args.frames.now.flat c.limit_opened.new.world c.limit_opened.new.frames.flat
    c.limit_opened.result c.in-Limit.is (c.limit_opened.ensures tables)

pub returns-in_default : goal.returns-in_default
returns-in_default g c tables = nothing_done tables c.args.instr c.args.world.now c.args.frames.now.flat c.args.frames.now.flat refl
