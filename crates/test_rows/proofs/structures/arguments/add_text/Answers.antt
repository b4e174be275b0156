use Rattle.test_rows.proofs.Worlds.{held_named}
use Rattle.test_rows.proofs.structures.arguments.add_text.Goals as goal

pub add_value-requires-clause-all : goal.add_value-requires-clause-all
add_value-requires-clause-all c =
    held_named c.args.w.now c.hold.new.self c.args.l.now.vals.items c.requires.named c.hold.ensures.kept c.hold.ensures.unchanged
    c.args.w.now.sound.live_globals c.args.w.now.sound.live_statics c.requires.locals
