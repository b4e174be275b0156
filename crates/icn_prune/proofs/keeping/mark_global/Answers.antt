use Rattle.icn_code.specs.CodeTables.{tables_of}
use Rattle.icn_prune.proofs.KeptWalk.{global_adds, global_there, no_global_adds}
use Rattle.icn_prune.proofs.keeping.mark_global.Goals as goal

pub mark_start-requires : goal.mark_start-requires
mark_start-requires c = record {
  there = global_there
      (tables_of c.args.code.now) c.args.code.now.rules c.args.marks.now.keep.items c.requires.as_many c.deref.result.now c.args.place c.in-Some.global.now
      c.deref.ensures.value c.in-Some.ensures.lookup.3.0 c.in-Some.ensures.lookup.1;
}

pub returns-in-Some : goal.returns-in-Some
returns-in-Some c =
    global_adds (tables_of c.args.code.now) c.mark_start.result c.args.marks.now.keep.items c.mark_start.new.marks.keep.items c.args.marks.now.met.items
    c.mark_start.new.marks.met.items c.deref.result.now c.args.place c.in-Some.global.now c.deref.ensures.value c.in-Some.ensures.lookup.3.0
    c.in-Some.ensures.lookup.1 c.mark_start.ensures

pub returns-in-None : goal.returns-in-None
returns-in-None c =
    no_global_adds (tables_of c.args.code.now) c.args.marks.now.keep.items c.args.marks.now.met.items c.deref.result.now c.args.place c.deref.ensures.value
    c.in-None.ensures.lookup.3
