use Rattle.icn_machine.proofs.plain_functions.gives_once.Goals as goal

pub returns-in_default : goal.returns-in_default
returns-in_default c q = record {
  not_bal = c.in_default.not-Bal;
  not_find = c.in_default.not-Find;
  not_key = c.in_default.not-Key;
  not_move = c.in_default.not-Move;
  not_seq = c.in_default.not-Seq;
  not_tab = c.in_default.not-Tab;
  not_upto = c.in_default.not-Upto;
}
