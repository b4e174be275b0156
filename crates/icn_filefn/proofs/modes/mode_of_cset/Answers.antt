-- A cset of one letter names the mode of that letter.
use Rattle.std.proofs.Common.{◌∙◌, sym, ap, arith}
use Rattle.icn_defs.specs.Files.{mode_of}
use Rattle.icn_filefn.proofs.CsetModes.{has_alone, none_of}
use Rattle.icn_filefn.proofs.modes.mode_of_cset.Goals as goal

pub returns-then-has : goal.returns-then-has
returns-then-has c = ap mode_of (sym (has_alone c.args.cset 114 (omega arith) (omega (arith, c.size.ensures, c.if-size-ne1.false))
    (sym c.has.ensures ∙ c.if-has.true)))

pub returns-then-has-2 : goal.returns-then-has-2
returns-then-has-2 c = ap mode_of (sym (has_alone c.args.cset 119 (omega arith) (omega (arith, c.size.ensures, c.if-size-ne1.false))
    (sym c.has-else-has.ensures ∙ c.if-has-2.true)))

pub returns-then-has-3 : goal.returns-then-has-3
returns-then-has-3 c = ap mode_of (sym (has_alone c.args.cset 97 (omega arith) (omega (arith, c.size.ensures, c.if-size-ne1.false))
    (sym c.has-else-has-2.ensures ∙ c.if-has-3.true)))

pub returns-else-has-3 : goal.returns-else-has-3
returns-else-has-3 c = none_of c.args.cset (sym c.has.ensures ∙ c.if-has.false) (sym c.has-else-has.ensures ∙ c.if-has-2.false)
    (sym c.has-else-has-2.ensures ∙ c.if-has-3.false)
