use Rattle.law_rows.proofs.IntegerTexts.{so_fits}
use Rattle.law_rows.proofs.values.integers_survive_texts.Goals as goal

pub returns-clause-back : goal.returns-clause-back
returns-clause-back c n fits = c.decimal_read_back.ensures.found n (so_fits n fits)
