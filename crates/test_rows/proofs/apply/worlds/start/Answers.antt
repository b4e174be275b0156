use Rattle.std.proofs.Common.{pos}
use Rattle.icn_value.specs.Store.{bare_outside}
use Rattle.test_rows.proofs.Named.{pair_ready}
use Rattle.test_rows.proofs.apply.worlds.start.Goals as goal

pub new_record-requires-clause-locals : goal.new_record-requires-clause-locals
new_record-requires-clause-locals g c = c.in_ok-w.ensures.live

pub keep-requires-clause-named : goal.keep-requires-clause-named
keep-requires-clause-named g c =
    (pair_ready (g.N.Names.known c.args.names.now) c.in_ok-w.w c.new_record.new.w c.args.l.now.vals.items (pos 7)
    (pos 8) c.in_ok-rec.rec c.in_ok-w.ensures c.requires.records (c.in_ok-rec.ensures.found bare_outside)).0.named

pub keep-requires-clause-ready : goal.keep-requires-clause-ready
keep-requires-clause-ready g c = record {
  named = (pair_ready (g.N.Names.known c.args.names.now) c.in_ok-w.w c.new_record.new.w c.args.l.now.vals.items (pos 7)
      (pos 8) c.in_ok-rec.rec c.in_ok-w.ensures c.requires.records (c.in_ok-rec.ensures.found bare_outside)).1;
  live = c.new_record.ensures.kept.locals;
}
