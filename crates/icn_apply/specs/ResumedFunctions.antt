-- Which functions may be resumed.
use Rattle.std.specs.Prelude.{◌≢◌}
use Rattle.icn_text.specs.declared.func.Func.{Func}
use Rattle.icn_text.specs.declared.func.Func.TheVariants.{Bal, Find, Key, Move, Seq, Tab, Upto}

-- none of those that may be resumed, so that its row gives one value at most
pub record GivesOneAtMost (func : Func) : Type 0 where
  pub not_bal : func ≢ Bal
  pub not_find : func ≢ Find
  pub not_key : func ≢ Key
  pub not_move : func ≢ Move
  pub not_seq : func ≢ Seq
  pub not_tab : func ≢ Tab
  pub not_upto : func ≢ Upto
