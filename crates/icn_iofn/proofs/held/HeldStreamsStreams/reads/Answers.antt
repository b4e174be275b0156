use Rattle.icn_iofn.proofs.held.HeldStreamsStreams.reads.Goals as goal

pub returns : goal.returns
returns g c = record { row = c.reads.ensures.row (g.F.Files.state c.args.self.now.files); settled = c.reads.ensures.settled }
