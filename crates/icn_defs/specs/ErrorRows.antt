-- The function over the error that is kept.
use Rattle.std.specs.Prelude.{None}
use Rattle.icn_value.specs.Values.{Null}
use Rattle.icn_value.specs.Store.{having_kept}
use Rattle.icn_defs.specs.Rows.{Row, ◌>>◌, changes, gives_value}

-- `errorclear()`: no error is kept any more; `&error` stays
abbrev pub errorclear_row : Row
errorclear_row = do
  changes (having_kept None)
  gives_value Null
