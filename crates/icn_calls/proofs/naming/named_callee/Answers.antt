use Rattle.std.proofs.Common.{◌≡◌, ◌∙◌, None, ap, sym}
use Rattle.icn_value.specs.declared.val.Val.{Val}
use Rattle.icn_value.specs.Store.{Names}
use Rattle.icn_value.specs.Values.{Text}
use Rattle.icn_defs.specs.NamedValues.{number_named}
use Rattle.icn_defs.specs.Running.{number_of}
use Rattle.icn_heap.specs.Extents.{text_in, value_in}
use Rattle.icn_heap.specs.Heaps.{extent_of}
use Rattle.icn_run.specs.Stacks.{flat}
use Rattle.icn_run.specs.Step.{invoke_value}
use Rattle.icn_calls.proofs.NamedSteps.{called_by_name, no_number_found, number_found, other_names_nothing, unknown_names_nothing}
use Rattle.icn_calls.proofs.naming.named_callee.Goals as goal

pub returns-in_default-clause-nothing : goal.returns-in_default-clause-nothing
returns-in_default-clause-nothing g c =
    other_names_nothing (g.N.Names.known c.args.names.now) (extent_of c.args.heap.now) c.args.callee c.in_default.not-Text

pub returns-then-is_some-clause-nothing : goal.returns-then-is_some-clause-nothing
returns-then-is_some-clause-nothing g c =
    let all = extent_of c.args.heap.now in
    let names = g.N.Names.known c.args.names.now in
    number_found names (text_in all c.in-Text.span) c.to_integer.result c.to_integer.ensures (sym c.is_some.ensures ∙ c.if-is_some.true)

pub returns-in-Some-clause-same : goal.returns-in-Some-clause-same
returns-in-Some-clause-same g c tables items m st same =
    let all = extent_of c.args.heap.now in
    let text = text_in all c.in-Text.span in
    let none : number_of (Text text) ≡ None = no_number_found text c.to_integer.result
    c.to_integer.ensures (sym c.is_some.ensures ∙ c.if-is_some.false) in
    ap (λ (v : Val). invoke_value flat tables (value_in all v) items m st) c.in-Text.is
    ∙ called_by_name tables text c.in-Some.number items m st none
    (ap (λ (names : Names). number_named names text) same
    ∙ sym (c.in-Some.ensures.named ∙ ap (number_named (g.N.Names.known c.args.names.now)) c.bytes.ensures))

pub returns-in-None-clause-nothing : goal.returns-in-None-clause-nothing
returns-in-None-clause-nothing g c =
    let all = extent_of c.args.heap.now in
    let names = g.N.Names.known c.args.names.now in
    let text = text_in all c.in-Text.span in
    let none : number_of (Text text) ≡ None = no_number_found text c.to_integer.result
    c.to_integer.ensures (sym c.is_some.ensures ∙ c.if-is_some.false) in
    unknown_names_nothing names text none (sym (c.in-None.ensures.named ∙ ap (number_named names) c.bytes.ensures))
