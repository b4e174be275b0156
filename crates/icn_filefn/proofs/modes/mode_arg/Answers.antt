-- The mode is that of the text that the argument is or becomes.
use Rattle.std.proofs.Common.{◌≡◌, ◌∙◌, refl, ap, subst, rules, FitsSigned, w64}
use Rattle.std.proofs.lemmas.Int.{to_z-of_z}
use Rattle.std.specs.Fmt.{signed_decimal}
use Rattle.icn_value.specs.declared.val.Val.TheVariants as Vals
use Rattle.icn_value.specs.Members.{members_of}
use Rattle.icn_defs.specs.Files.{mode_of}
use Rattle.icn_heap.specs.Extents.{IsLive, text_in}
use Rattle.icn_heap.specs.Heaps.{extent_of}
use Rattle.icn_filefn.proofs.CsetModes.{argument_is, named_by}
use Rattle.icn_filefn.proofs.modes.mode_arg.Goals as goal

pub returns-in-Text-clause-found : goal.returns-in-Text-clause-found
returns-in-Text-clause-found c = λ setting.
    argument_is (extent_of c.args.heap.now) c.args.val (Vals.Text c.in-Text.span) c.in-Text.is setting c.or_error.result
    (named_by (extent_of c.args.heap.now) (Vals.Text c.in-Text.span) (Vals.Text c.in-Text.span) refl setting c.or_error.result c.mode_of.result
    (mode_of (text_in (extent_of c.args.heap.now) c.in-Text.span)) (c.mode_of.ensures ∙ ap mode_of c.bytes.ensures)
    (c.or_error.ensures.found (extent_of c.args.heap.now) setting))

pub returns-in-Chars-clause-found : goal.returns-in-Chars-clause-found
returns-in-Chars-clause-found c = λ setting.
    argument_is (extent_of c.args.heap.now) c.args.val (Vals.Chars c.in-Chars.cset) c.in-Chars.is setting c.or_error-in-Chars.result
    (named_by (extent_of c.args.heap.now) (Vals.Chars c.in-Chars.cset) (Vals.Chars c.in-Chars.cset) refl setting c.or_error-in-Chars.result
    c.mode_of_cset.result
    (mode_of (members_of c.in-Chars.cset)) c.mode_of_cset.ensures (c.or_error-in-Chars.ensures.found (extent_of c.args.heap.now) setting))

pub returns-in-Chars-clause-stops : goal.returns-in-Chars-clause-stops
returns-in-Chars-clause-stops c = c.or_error-in-Chars.ensures.stops (extent_of c.args.heap.now) (subst (IsLive (extent_of c.args.heap.now)) c.in-Chars.is
    c.requires)

pub returns-in-Integer-clause-found : goal.returns-in-Integer-clause-found
returns-in-Integer-clause-found c = λ setting.
    let fits : FitsSigned w64 c.in-Integer.n = search rules in
    let text : c.decimal.result ≡ signed_decimal c.in-Integer.n = rw (to_z-of_z w64 c.in-Integer.n fits) at c.decimal.ensures in
    argument_is (extent_of c.args.heap.now) c.args.val (Vals.Integer c.in-Integer.n) c.in-Integer.is setting c.or_error-in-Integer.result
    (named_by (extent_of c.args.heap.now) (Vals.Integer c.in-Integer.n) (Vals.Integer c.in-Integer.n) refl setting c.or_error-in-Integer.result
    c.mode_of-in-Integer.result (mode_of (signed_decimal c.in-Integer.n)) (c.mode_of-in-Integer.ensures ∙ ap mode_of (c.as_bytes.ensures ∙ text))
    (c.or_error-in-Integer.ensures.found (extent_of c.args.heap.now) setting))

pub returns-in-Integer-clause-stops : goal.returns-in-Integer-clause-stops
returns-in-Integer-clause-stops c = c.or_error-in-Integer.ensures.stops (extent_of c.args.heap.now) (subst (IsLive (extent_of c.args.heap.now)) c.in-Integer.is
    c.requires)
