use Rattle.law_rows.proofs.InOrder.{bytes_in_order, fields_in_order, items_in_order, keys_in_order, members_in_order, values_in_order}
use Rattle.law_rows.proofs.walks.walks_go_in_order.Goals as goal

pub returns-clause-bytes : goal.returns-clause-bytes
returns-clause-bytes c = bytes_in_order

pub returns-clause-items : goal.returns-clause-items
returns-clause-items c = items_in_order

pub returns-clause-members : goal.returns-clause-members
returns-clause-members c = members_in_order

pub returns-clause-values : goal.returns-clause-values
returns-clause-values c = values_in_order

pub returns-clause-fields : goal.returns-clause-fields
returns-clause-fields c = fields_in_order

pub returns-clause-keys : goal.returns-clause-keys
returns-clause-keys c = keys_in_order
