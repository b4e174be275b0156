-- What the operators that are operations are in the translation, and how many operands they have.
use Rattle.std.proofs.Common.{◌≡◌, Option, Some, option_map, sym, ap}
use Rattle.std.specs.Option.{option_map_or}
use Rattle.icn_text.specs.declared.op.Op.{Op}
use Rattle.icn_tree.specs.declared.token.Operator.{Operator}
use Rattle.icn_tree.specs.declared.token.Operator.TheVariants as Signs
use Rattle.icn_code.specs.declared.instr.Instr.TheVariants as I
use Rattle.icn_defs.specs.Arities.{arity}
use Rattle.icn_meaning.specs.Operators.{prefix_op, infix_op, update_op}
use Rattle.law_simulation.specs.Translation as X

pub prefix_is : (o : Operator) {op : Op} → prefix_op o ≡ Some op → X.prefix_of o ≡ Some (X.Operating op)
prefix_is Signs.At h = absurd (cc)
prefix_is Signs.Bar h = absurd (cc)
prefix_is o h = ap (λ (found : Option Op). option_map X.Operating found) h

pub prefix_arity : (o : Operator) {op : Op} → prefix_op o ≡ Some op → arity op ≡ 1
prefix_arity Signs.At h = absurd (cc)
prefix_arity o h = ap (λ (found : Option Op). option_map_or arity found 1) (sym h)

pub infix_is : (o : Operator) {op : Op} → infix_op o ≡ Some op → X.form_of o ≡ Some (X.Applying (I.Op op))
infix_is Signs.Ampersand h = absurd (cc)
infix_is Signs.Question h = absurd (cc)
infix_is Signs.Bar h = absurd (cc)
infix_is Signs.Backslash h = absurd (cc)
infix_is Signs.At h = absurd (cc)
infix_is Signs.Bang h = absurd (cc)
infix_is o h = ap (λ (found : Option Op). option_map (λ op. X.Applying (I.Op op)) found) h

pub infix_arity : (o : Operator) {op : Op} → infix_op o ≡ Some op → arity op ≡ 2
infix_arity Signs.At h = absurd (cc)
infix_arity o h = ap (λ (found : Option Op). option_map_or arity found 2) (sym h)

pub update_is : (o : Operator) {op : Op} → update_op o ≡ Some op → X.update_of o ≡ Some (X.UpdatesBy (I.Op op))
update_is Signs.Ampersand h = absurd (cc)
update_is Signs.Question h = absurd (cc)
update_is Signs.At h = absurd (cc)
update_is o h = ap (λ (found : Option Op). option_map (λ op. X.UpdatesBy (I.Op op)) found) h

pub update_arity : (o : Operator) {op : Op} → update_op o ≡ Some op → arity op ≡ 2
update_arity Signs.At h = absurd (cc)
update_arity o h = ap (λ (found : Option Op). option_map_or arity found 2) (sym h)
