use Rattle.icn_iofn.proofs.held.HeldStreamsStreams.open_file.Goals as goal

pub returns : goal.returns
returns g c = record { row = c.open_row.ensures (g.I.Source.left c.args.self.now.input) (g.I.Source.counts c.args.self.now.input) }
