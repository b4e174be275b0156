use Rattle.test_rows.specs.Ready.{IsReadySetting}
use Rattle.test_rows.proofs.apply.words.take_words.Given as goal

abbrev pub invariant-loop-word : goal.invariant-loop-word
invariant-loop-word g l = IsReadySetting (g.N.Names.known l.names) l.w l.l.vals.items
