use Rattle.law_rows.proofs.SortOrder.{order_is_total, total_keys, total_entries, ties_are_one, entries_are_one}
use Rattle.law_rows.proofs.SortedOnce.{sorted_is_unique, keys_alone}
use Rattle.icn_defs.specs.Images.{value_cmp}
use Rattle.icn_defs.specs.Structures.{entry_cmp, key_cmp}
use Rattle.law_rows.proofs.sorting.sorting_is_one.Goals as goal

pub returns-clause-values : goal.returns-clause-values
returns-clause-values c names heap xs ys = sorted_is_unique (value_cmp names heap) (order_is_total names heap) (ties_are_one names heap) xs ys

pub returns-clause-entries : goal.returns-clause-entries
returns-clause-entries c names heap xs ys = sorted_is_unique (entry_cmp names heap) (total_entries names heap) (entries_are_one names heap) xs ys

pub returns-clause-keys : goal.returns-clause-keys
returns-clause-keys c names heap xs ys = keys_alone (key_cmp names heap) (total_keys names heap) (λ a b is. ties_are_one names heap a.0 b.0 is) xs ys
