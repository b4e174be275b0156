use Rattle.icn_iofn.proofs.held.HeldStreamsStreams.lines.Goals as goal

pub returns : goal.returns
returns g c = record { row = c.lines_row.ensures.row (g.F.Files.state c.args.self.now.files); settled = c.lines_row.ensures.settled }
