use Rattle.icn_translate.proofs.NameTable.{entered, placed}
use Rattle.icn_translate.proofs.builder.enter_name.Goals as goal

pub returns-clause-place : goal.returns-clause-place
returns-clause-place c = placed c.args.names.now.keys c.args.name c.in_ok-place.place c.count_operand.result c.in_ok-place.ensures.index c.count_operand.ensures

pub returns-clause-names : goal.returns-clause-names
returns-clause-names c = entered c.args.names.now.keys c.insert_full.new.self.keys c.args.name c.in_ok-place.ensures.keys
