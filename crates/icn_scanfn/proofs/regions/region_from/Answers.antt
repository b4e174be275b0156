use Rattle.std.proofs.Common.{◌∙◌, refl, map, pos, ◌+◌, if◌then◌else◌, rules, FitsSigned, w64}
use Rattle.icn_value.specs.Values.{Value, Integer}
use Rattle.icn_defs.specs.Arguments.{arg, arg_or}
use Rattle.icn_defs.specs.Conversions.{is_null}
use Rattle.icn_defs.specs.Scanning.{region_from}
use Rattle.icn_heap.specs.Extents.{IsLive, text_in, value_in}
use Rattle.icn_value.specs.declared.val.Val.TheVariants.{Integer as IntegerVal, Text as TextVal}
use Rattle.icn_args.proofs.RowAnswers.{stop_lives_on}
use Rattle.icn_heap.specs.Heaps.{extent_of}
use Rattle.icn_vars.specs.Worlds.{setting_of}
use Rattle.icn_args.specs.RowWords.{the_text}
use Rattle.icn_scanfn.specs.Regions.{given_in}
use Rattle.icn_scanfn.proofs.GivenRegions.{first_given, found_as, last_given, made_given, no_first, no_last, no_text, region_by, region_found, region_held, text_given, three}
use Rattle.icn_scanfn.proofs.regions.region_from.Goals as goal

pub returns-in_err-check_text-clause-found : goal.returns-in_err-check_text-clause-found
returns-in_err-check_text-clause-found c = λ outside locals.
    let all = extent_of c.args.w.now.heap in
    let s = setting_of outside c.args.w.now locals in
    let args = map (value_in all) c.args.args.now in
    let text = value_in all c.value_or-val.result in
    let first : Value = arg_or (Integer (pos (if is_null (arg args c.args.place) then c.args.w.now.pair.position else 1))) args (c.args.place + 1) in
    let last : Value = arg_or (Integer (pos 0)) args (c.args.place + 2) in
    found_as all (region_from args c.args.place) (three text first last) s s
    (given_in all) c.in_err-check_text.field-0.0 c.from_residual.result c.from_residual.ensures.1
    (region_by args c.args.place text first last s (text_given args c.args.place (text_in all c.args.w.now.pair.subject) (value_in all c.arg-text.result) text
    (c.value_or-val.ensures.value all) (c.arg-text.ensures.value all)) refl refl)
    (no_text all text first last s c.in_err-check_text.field-0.0 (c.in_err-check_text.ensures.found all s))

pub returns-in_err-first-clause-found : goal.returns-in_err-first-clause-found
returns-in_err-first-clause-found c = λ outside locals.
    let all = extent_of c.args.w.now.heap in
    let s = setting_of outside c.args.w.now locals in
    let args = map (value_in all) c.args.args.now in
    let text = value_in all c.value_or-val.result in
    let first = value_in all c.value_or-begin.result in
    let last : Value = arg_or (Integer (pos 0)) args (c.args.place + 2) in
    found_as all (region_from args c.args.place) (three text first last) s s
    (given_in all) c.in_err-first.field-0.0 c.from_residual-in_err-first.result c.from_residual-in_err-first.ensures.1
    (region_by args c.args.place text first last s (text_given args c.args.place (text_in all c.args.w.now.pair.subject) (value_in all c.arg-text.result) text
    (c.value_or-val.ensures.value all) (c.arg-text.ensures.value all))
    (first_given args c.args.place c.args.w.now.pair.position (value_in all c.arg-text.result) (value_in all c.first_position.result)
    (value_in all c.arg.result) first (c.value_or-begin.ensures.value all) (c.first_position.ensures.value all) (c.arg.ensures.value all)
    (c.arg-text.ensures.value all)) refl)
    (no_first all text first last (the_text text) s c.in_err-first.field-0.0 (c.in_ok-check_text.ensures.found all s) (c.in_err-first.ensures.found s))

pub returns-in_err-last-clause-found : goal.returns-in_err-last-clause-found
returns-in_err-last-clause-found c = λ outside locals.
    let all = extent_of c.args.w.now.heap in
    let s = setting_of outside c.args.w.now locals in
    let args = map (value_in all) c.args.args.now in
    let text = value_in all c.value_or-val.result in
    let first = value_in all c.value_or-begin.result in
    let last = value_in all c.value_or-end.result in
    found_as all (region_from args c.args.place) (three text first last) s s
    (given_in all) c.in_err-last.field-0.0 c.from_residual-in_err-last.result c.from_residual-in_err-last.ensures.1
    (region_by args c.args.place text first last s (text_given args c.args.place (text_in all c.args.w.now.pair.subject) (value_in all c.arg-text.result) text
    (c.value_or-val.ensures.value all) (c.arg-text.ensures.value all))
    (first_given args c.args.place c.args.w.now.pair.position (value_in all c.arg-text.result) (value_in all c.first_position.result) (value_in all
    c.arg.result) first (c.value_or-begin.ensures.value all) (c.first_position.ensures.value all) (c.arg.ensures.value all) (c.arg-text.ensures.value all))
    (last_given args c.args.place (value_in all c.arg-2.result) last (c.value_or-end.ensures.value all) (c.arg-2.ensures.value all)))
    (no_last all text first last (the_text text) c.in_ok-first.first s c.in_err-last.field-0.0 (c.in_ok-check_text.ensures.found all s)
    (c.in_ok-first.ensures.found s) (c.in_err-last.ensures.found s))

pub returns-clause-found : goal.returns-clause-found
returns-clause-found c = λ outside locals next.
    let all = extent_of c.args.w.now.heap in
    let s = setting_of outside c.args.w.now locals in
    let args = map (value_in all) c.args.args.now in
    let text = value_in all c.value_or-val.result in
    let first = value_in all c.value_or-begin.result in
    let last = value_in all c.value_or-end.result in
    region_by args c.args.place text first last s (text_given args c.args.place (text_in all c.args.w.now.pair.subject) (value_in all c.arg-text.result) text
    (c.value_or-val.ensures.value all) (c.arg-text.ensures.value all))
    (first_given args c.args.place c.args.w.now.pair.position (value_in all c.arg-text.result) (value_in all c.first_position.result) (value_in all
    c.arg.result) first (c.value_or-begin.ensures.value all) (c.first_position.ensures.value all) (c.arg.ensures.value all) (c.arg-text.ensures.value all))
    (last_given args c.args.place (value_in all c.arg-2.result) last (c.value_or-end.ensures.value all) (c.arg-2.ensures.value all)) next
    ∙ (region_found text first last (the_text text) c.in_ok-first.first c.in_ok-last.last s (c.in_ok-check_text.ensures.found all s)
    (c.in_ok-first.ensures.found s) (c.in_ok-last.ensures.found s) next
    ∙ region_held next (the_text text) c.in_ok-first.first c.in_ok-last.last s (let fits : FitsSigned w64 c.in_ok-first.first = search rules in fits)
    (let fits : FitsSigned w64 c.in_ok-last.last = search rules in fits))

pub returns-in_err-check_text-clause-stops : goal.returns-in_err-check_text-clause-stops
returns-in_err-check_text-clause-stops c =
    let all = extent_of c.args.w.now.heap in
    let subject : IsLive all (TextVal c.args.w.now.pair.subject) = record { live = c.args.w.now.sound.subject } in
    stop_lives_on all c.in_err-check_text.field-0.0 c.from_residual.result c.from_residual.ensures.1
    (c.in_err-check_text.ensures.stops all (c.value_or-val.ensures.live all subject (c.arg-text.ensures.live all c.requires.args)))

pub integer_of-requires : goal.integer_of-requires
integer_of-requires c =
    let all = extent_of c.args.w.now.heap in
    c.value_or-begin.ensures.live all (c.first_position.ensures.live all) (c.arg.ensures.live all c.requires.args)

pub integer_of-requires-2 : goal.integer_of-requires-2
integer_of-requires-2 c =
    let all = extent_of c.args.w.now.heap in
    let zero : IsLive all (IntegerVal (pos 0)) = record { live = tt } in
    c.value_or-end.ensures.live all zero (c.arg-2.ensures.live all c.requires.args)

pub returns-clause-made : goal.returns-clause-made
returns-clause-made c =
    let all = extent_of c.args.w.now.heap in
    made_given (map (value_in all) c.args.args.now) c.args.place (text_in all c.args.w.now.pair.subject) (value_in all c.arg-text.result)
    (value_in all c.value_or-val.result) (c.value_or-val.ensures.value all) (c.arg-text.ensures.value all)
