use Rattle.law_rows.proofs.IntegerTexts.{low, high, from_the_start, from_the_end}
use Rattle.law_rows.proofs.values.positions_are_places.Goals as goal

pub returns-clause-low : goal.returns-clause-low
returns-clause-low c = low

pub returns-clause-high : goal.returns-clause-high
returns-clause-high c = high

pub returns-clause-from_the_start : goal.returns-clause-from_the_start
returns-clause-from_the_start c = from_the_start

pub returns-clause-from_the_end : goal.returns-clause-from_the_end
returns-clause-from_the_end c = from_the_end
