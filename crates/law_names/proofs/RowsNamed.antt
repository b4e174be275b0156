-- Rows make no value, and no record, whose name is not there.
use Rattle.std.proofs.Common.{List}
use Rattle.std.specs.List.{All}
use Rattle.icn_value.specs.Values.{Null, Item}
use Rattle.icn_value.specs.Store.{Names, value_at}
use Rattle.law_rows.proofs.EachOfList.{Each, all_of, each_of, each_map}
use Rattle.law_rows.proofs.RowLaws.{RowLaw, ItemBy, SettingBy, each_value}
use Rattle.law_rows.proofs.EveryRow.{operation_comes, values_come, function_comes, resumed_comes, list_comes, record_comes, text_comes, words_come, coexpression_comes}
use Rattle.law_names.specs.NamedSettings.{ValueNamed, ItemNamed}
use Rattle.law_names.specs.RowsNamed.{OutcomeNamed, RowsKeepNames}
use Rattle.law_names.proofs.NamedTexts.{procedure_there}
use Rattle.law_names.proofs.RowValues.{named_parts, setting_in, setting_out, may_copy}

abbrev names_law : Names → RowLaw
names_law ns = record {
  parts = named_parts ns;
  Entered = SettingBy (named_parts ns);
  entered = λ a h. h;
  Comes = OutcomeNamed ns;
  failure = λ a h. setting_out ns a h;
  gift = λ i a q h. (record { named = q }, setting_out ns a h);
  suspension = λ i r a q p h. (record { named = q }, (record { named = p }, setting_out ns a h));
  error = λ number v a e q h. ((q, e), setting_out ns a h);
  limit = λ number a e l h. ((tt, e), setting_out ns a h);
  ending = λ status a h. setting_out ns a h;
}

items_in : (ns : Names) (items : List Item) → All (ItemNamed ns) items → Each (ItemBy (ValueNamed ns)) items
items_in ns items h = each_map (ItemNamed ns) (ItemBy (ValueNamed ns)) (λ x q. q.named) items (each_of (ItemNamed ns) items h)

-- rows keep names
pub rows_keep_names : RowsKeepNames
rows_keep_names = record {
  operations = λ ns op items at h g. operation_comes (names_law ns) op items at (λ e s k. k) (setting_in ns at h) (items_in ns items g);
  values = λ ns items next at h g f.
      values_come (names_law ns) items next at (setting_in ns at h) (items_in ns items g) (λ vs q. f vs (all_of (ValueNamed ns) vs q));
  functions = λ ns f vs at h g t.
      function_comes (names_law ns) ns f vs at (setting_in ns at h) (each_of (ValueNamed ns) vs g)
      (λ e. may_copy (names_law ns) at.world.heap (λ id l. l) (value_at vs 0) (t e))
      (λ e number is. procedure_there ns (value_at vs 0) number (each_value (ValueNamed ns) Null vs 0 tt (each_of (ValueNamed ns) vs g)) is);
  resumed = λ ns rest at h g. resumed_comes (names_law ns) rest at (λ e s k. k) (setting_in ns at h) g.named;
  lists = λ ns vs at h g. list_comes (names_law ns) vs at (setting_in ns at h) (each_of (ValueNamed ns) vs g);
  records = λ ns kind vs at h l g.
      record_comes (names_law ns) kind vs at (setting_in ns at h) (record { kind = l; fields = each_of (ValueNamed ns) vs g });
  texts = λ ns v at h g. text_comes (names_law ns) v at (setting_in ns at h) g;
  words = λ ns words at h. words_come (names_law ns) words at (setting_in ns at h);
  coexpressions = λ ns locals at h. coexpression_comes (names_law ns) locals at (setting_in ns at h) tt tt;
}
