use Rattle.icn_iofn.proofs.held.HeldStreamsStreams.close_file.Goals as goal

pub returns : goal.returns
returns g c = record { row = c.close_row.ensures (g.I.Source.left c.args.self.now.input) (g.I.Source.counts c.args.self.now.input) }
