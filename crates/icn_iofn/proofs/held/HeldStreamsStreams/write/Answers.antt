use Rattle.icn_iofn.proofs.held.HeldStreamsStreams.write.Goals as goal

pub returns : goal.returns
returns g c = record {
  row = c.write.ensures (g.F.Files.state c.args.self.now.files) (g.I.Source.left c.args.self.now.input) (g.I.Source.counts c.args.self.now.input);
}
