use Rattle.icn_iofn.proofs.held.HeldStreamsStreams.read.Goals as goal

pub returns : goal.returns
returns g c = record { row = c.read.ensures.row (g.F.Files.state c.args.self.now.files); settled = c.read.ensures.settled }
