use Rattle.std.proofs.Common.{◌≡◌, refl, arith}
use Rattle.std.specs.Prelude.{slice_index_or}
use Rattle.icn_frames.specs.Stacks as held
use Rattle.icn_code.specs.declared.instr.Instr.TheVariants as Instrs
use Rattle.icn_code.specs.Codes.{Tables}
use Rattle.icn_code.specs.CodeTables.{tables_of}
use Rattle.icn_run.specs.Step.{statics_before}
use Rattle.icn_control.specs.StackViews.{stack_in}
use Rattle.icn_instructions.specs.Ranges.{IsInRange}
use Rattle.icn_instructions.proofs.ArmSteps.{on_ok_map, lacks_as, goes_in, goes_as, case_as, may_take}
use Rattle.icn_instructions.proofs.GroupSteps.{no_other_stack}
use Rattle.icn_instructions.proofs.LackSteps.{pop_there, esusp_operand, esusp_mark, chfail_lacks, ccase_operand, ccase_mark}
use Rattle.icn_instructions.proofs.RangeSteps.{range_as, integer_there, cset_there, local_there, global_there, static_there, few_statics, first_static}
use Rattle.icn_instructions.proofs.on_stack.do_on_stack.Goals as goal

pub push_integer-requires : goal.push_integer-requires
push_integer-requires g c =
    let tables : Tables = tables_of c.args.code.now in
    integer_there tables (held.proc c.args.frames.now.flat) c.in-Int.place
    (range_as tables (held.proc c.args.frames.now.flat) c.args.instr (Instrs.Int c.in-Int.place) c.in-Int.is c.requires.in_range)

pub push_cset-requires : goal.push_cset-requires
push_cset-requires g c =
    let tables : Tables = tables_of c.args.code.now in
    cset_there tables (held.proc c.args.frames.now.flat) c.in-Cset.place
    (range_as tables (held.proc c.args.frames.now.flat) c.args.instr (Instrs.Cset c.in-Cset.place) c.in-Cset.is c.requires.in_range)

pub push_local-requires : goal.push_local-requires
push_local-requires g c =
    let tables : Tables = tables_of c.args.code.now in
    local_there tables c.requires.live.0 c.args.frames.now.flat c.in-Local.place
    (range_as tables (held.proc c.args.frames.now.flat) c.args.instr (Instrs.Local c.in-Local.place) c.in-Local.is c.requires.in_range) c.requires.live.1.1

pub push_static-requires : goal.push_static-requires
push_static-requires g c =
    let tables : Tables = tables_of c.args.code.now in
    let r : IsInRange tables (held.proc c.args.frames.now.flat) (Instrs.Static c.in-Static.place) = range_as tables (held.proc c.args.frames.now.flat)
    c.args.instr (Instrs.Static c.in-Static.place) c.in-Static.is c.requires.in_range in
    let first : slice_index_or c.args.firsts.now c.proc.result 0 ≡ statics_before tables (held.proc c.args.frames.now.flat) = first_static tables
    (held.proc c.args.frames.now.flat) c.proc.result c.in-Static.place c.args.firsts.now r c.requires.firsts c.proc.ensures in
    record { few = omega (arith, static_there tables (held.proc c.args.frames.now.flat) c.in-Static.place r, first, few_statics tables c.args.code.now.rules) }

pub drop_operand-requires : goal.drop_operand-requires
drop_operand-requires g c =
    let tables : Tables = tables_of c.args.code.now in
    pop_there c.requires.goes_on.0 c.args.frames.now.flat _
    (lacks_as c.requires.goes_on.0 tables c.args.instr Instrs.Pop c.args.frames.now.flat c.requires.goes_on.1.0 c.in-Pop.is c.requires.goes_on.1.1)

pub duplicate-requires : goal.duplicate-requires
duplicate-requires g c =
    let tables : Tables = tables_of c.args.code.now in
    pop_there c.requires.goes_on.0 c.args.frames.now.flat _
    (lacks_as c.requires.goes_on.0 tables c.args.instr Instrs.Dup c.args.frames.now.flat c.requires.goes_on.1.0 c.in-Dup.is c.requires.goes_on.1.1)

pub give_suspended-requires-clause-operand : goal.give_suspended-requires-clause-operand
give_suspended-requires-clause-operand g c =
    let tables : Tables = tables_of c.args.code.now in
    esusp_operand c.requires.goes_on.0 tables c.args.frames.now.flat c.requires.goes_on.1.0
    (lacks_as c.requires.goes_on.0 tables c.args.instr Instrs.Esusp c.args.frames.now.flat c.requires.goes_on.1.0 c.in-Esusp.is c.requires.goes_on.1.1)

pub give_suspended-requires-clause-mark : goal.give_suspended-requires-clause-mark
give_suspended-requires-clause-mark g c =
    let tables : Tables = tables_of c.args.code.now in
    esusp_mark c.requires.goes_on.0 tables c.requires.live.0 c.args.frames.now.flat c.requires.goes_on.1.0 c.requires.live.1.1
    (lacks_as c.requires.goes_on.0 tables c.args.instr Instrs.Esusp c.args.frames.now.flat c.requires.goes_on.1.0 c.in-Esusp.is c.requires.goes_on.1.1)

pub change_label-requires : goal.change_label-requires
change_label-requires g c =
    let tables : Tables = tables_of c.args.code.now in
    chfail_lacks c.requires.goes_on.0 tables c.args.frames.now.flat c.in-Chfail.label c.requires.goes_on.1.0
    (lacks_as c.requires.goes_on.0 tables c.args.instr
    (Instrs.Chfail c.in-Chfail.label) c.args.frames.now.flat c.requires.goes_on.1.0 c.in-Chfail.is c.requires.goes_on.1.1)

pub push_below-requires-clause-operand : goal.push_below-requires-clause-operand
push_below-requires-clause-operand g c =
    let tables : Tables = tables_of c.args.code.now in
    ccase_operand c.requires.goes_on.0 tables c.args.frames.now.flat c.requires.goes_on.1.0
    (lacks_as c.requires.goes_on.0 tables c.args.instr Instrs.Ccase c.args.frames.now.flat c.requires.goes_on.1.0 c.in-Ccase.is c.requires.goes_on.1.1)

pub push_below-requires-clause-mark : goal.push_below-requires-clause-mark
push_below-requires-clause-mark g c =
    let tables : Tables = tables_of c.args.code.now in
    ccase_mark c.requires.case_mark.0 c.args.frames.now.flat
    (case_as c.args.instr (stack_in c.requires.case_mark.0 c.args.frames.now.flat) c.in-Ccase.is c.requires.case_mark.1)

pub unreachable-requires : goal.unreachable-requires
unreachable-requires g c =
    let tables : Tables = tables_of c.args.code.now in
    no_other_stack c.args.instr c.requires.group c.in_default.not-Pnull c.in_default.not-Int c.in_default.not-Cset c.in_default.not-Local
    c.in_default.not-Static c.in_default.not-Global c.in_default.not-Pop c.in_default.not-Dup c.in_default.not-Mark c.in_default.not-Mark0
    c.in_default.not-Esusp c.in_default.not-Chfail c.in_default.not-Goto c.in_default.not-Ccase

pub returns-in-Pnull-clause-step : goal.returns-in-Pnull-clause-step
returns-in-Pnull-clause-step g c =
    let tables : Tables = tables_of c.args.code.now in
    on_ok_map c.push_null.result _ _ (λ h. goes_in tables c.args.instr Instrs.Pnull c.args.frames.now.flat c.push_null.new.frames.flat c.in-Pnull.is h)
    c.push_null.ensures.step

pub returns-in-Pnull-clause-live : goal.returns-in-Pnull-clause-live
returns-in-Pnull-clause-live g c =
    let tables : Tables = tables_of c.args.code.now in
    on_ok_map c.push_null.result _ _ (λ h reach names l. h tables reach l) c.push_null.ensures.live

pub returns-in-Pnull-clause-no_memory : goal.returns-in-Pnull-clause-no_memory
returns-in-Pnull-clause-no_memory g c =
    let tables : Tables = tables_of c.args.code.now in
    λ e. absurd (may_take c.args.instr Instrs.Pnull c.in-Pnull.is refl e)

pub returns-in-Int-clause-step : goal.returns-in-Int-clause-step
returns-in-Int-clause-step g c =
    let tables : Tables = tables_of c.args.code.now in
    on_ok_map c.push_integer.result _ _
    (λ h. goes_as tables c.args.instr (Instrs.Int c.in-Int.place) c.args.frames.now.flat c.push_integer.new.frames.flat c.in-Int.is h)
    c.push_integer.ensures.step

pub returns-in-Int-clause-live : goal.returns-in-Int-clause-live
returns-in-Int-clause-live g c =
    let tables : Tables = tables_of c.args.code.now in
    on_ok_map c.push_integer.result _ _ (λ h reach names l. h tables reach l) c.push_integer.ensures.live

pub returns-in-Int-clause-no_memory : goal.returns-in-Int-clause-no_memory
returns-in-Int-clause-no_memory g c =
    let tables : Tables = tables_of c.args.code.now in
    λ e. absurd (may_take c.args.instr (Instrs.Int c.in-Int.place) c.in-Int.is refl e)

pub returns-in-Cset-clause-step : goal.returns-in-Cset-clause-step
returns-in-Cset-clause-step g c =
    let tables : Tables = tables_of c.args.code.now in
    on_ok_map c.push_cset.result _ _
    (λ h. goes_as tables c.args.instr (Instrs.Cset c.in-Cset.place) c.args.frames.now.flat c.push_cset.new.frames.flat c.in-Cset.is h)
    c.push_cset.ensures.step

pub returns-in-Cset-clause-live : goal.returns-in-Cset-clause-live
returns-in-Cset-clause-live g c =
    let tables : Tables = tables_of c.args.code.now in
    on_ok_map c.push_cset.result _ _ (λ h reach names l. h tables reach l) c.push_cset.ensures.live

pub returns-in-Cset-clause-no_memory : goal.returns-in-Cset-clause-no_memory
returns-in-Cset-clause-no_memory g c =
    let tables : Tables = tables_of c.args.code.now in
    λ e. absurd (may_take c.args.instr (Instrs.Cset c.in-Cset.place) c.in-Cset.is refl e)

pub returns-in-Local-clause-step : goal.returns-in-Local-clause-step
returns-in-Local-clause-step g c =
    let tables : Tables = tables_of c.args.code.now in
    on_ok_map c.push_local.result _ _
    (λ h. goes_in tables c.args.instr (Instrs.Local c.in-Local.place) c.args.frames.now.flat c.push_local.new.frames.flat c.in-Local.is h)
    c.push_local.ensures.step

pub returns-in-Local-clause-live : goal.returns-in-Local-clause-live
returns-in-Local-clause-live g c =
    let tables : Tables = tables_of c.args.code.now in
    on_ok_map c.push_local.result _ _ (λ h reach names l. h tables reach l) c.push_local.ensures.live

pub returns-in-Local-clause-no_memory : goal.returns-in-Local-clause-no_memory
returns-in-Local-clause-no_memory g c =
    let tables : Tables = tables_of c.args.code.now in
    λ e. absurd (may_take c.args.instr (Instrs.Local c.in-Local.place) c.in-Local.is refl e)

pub returns-in-Static-clause-step : goal.returns-in-Static-clause-step
returns-in-Static-clause-step g c =
    let tables : Tables = tables_of c.args.code.now in
    let r : IsInRange tables (held.proc c.args.frames.now.flat) (Instrs.Static c.in-Static.place) = range_as tables (held.proc c.args.frames.now.flat)
    c.args.instr (Instrs.Static c.in-Static.place) c.in-Static.is c.requires.in_range in
    let first : slice_index_or c.args.firsts.now c.proc.result 0 ≡ statics_before tables (held.proc c.args.frames.now.flat) = first_static tables
    (held.proc c.args.frames.now.flat) c.proc.result c.in-Static.place c.args.firsts.now r c.requires.firsts c.proc.ensures in
    on_ok_map c.push_static.result _ _
    (λ h. goes_as tables c.args.instr (Instrs.Static c.in-Static.place) c.args.frames.now.flat c.push_static.new.frames.flat c.in-Static.is
    (h tables first)) c.push_static.ensures.step

pub returns-in-Static-clause-live : goal.returns-in-Static-clause-live
returns-in-Static-clause-live g c =
    let tables : Tables = tables_of c.args.code.now in
    let r : IsInRange tables (held.proc c.args.frames.now.flat) (Instrs.Static c.in-Static.place) = range_as tables (held.proc c.args.frames.now.flat)
    c.args.instr (Instrs.Static c.in-Static.place) c.in-Static.is c.requires.in_range in
    let first : slice_index_or c.args.firsts.now c.proc.result 0 ≡ statics_before tables (held.proc c.args.frames.now.flat) = first_static tables
    (held.proc c.args.frames.now.flat) c.proc.result c.in-Static.place c.args.firsts.now r c.requires.firsts c.proc.ensures in
    let there = static_there tables (held.proc c.args.frames.now.flat) c.in-Static.place r in
    on_ok_map c.push_static.result _ _ (λ h reach names l. h tables reach (omega (arith, names.statics, there, first)) l) c.push_static.ensures.live

pub returns-in-Static-clause-no_memory : goal.returns-in-Static-clause-no_memory
returns-in-Static-clause-no_memory g c =
    let tables : Tables = tables_of c.args.code.now in
    λ e. absurd (may_take c.args.instr (Instrs.Static c.in-Static.place) c.in-Static.is refl e)

pub returns-in-Global-clause-step : goal.returns-in-Global-clause-step
returns-in-Global-clause-step g c =
    let tables : Tables = tables_of c.args.code.now in
    on_ok_map c.push_global.result _ _
    (λ h. goes_in tables c.args.instr (Instrs.Global c.in-Global.place) c.args.frames.now.flat c.push_global.new.frames.flat c.in-Global.is h)
    c.push_global.ensures.step

pub returns-in-Global-clause-live : goal.returns-in-Global-clause-live
returns-in-Global-clause-live g c =
    let tables : Tables = tables_of c.args.code.now in
    on_ok_map c.push_global.result _ _
    (λ h reach names l. h tables reach (global_there tables reach (held.proc c.args.frames.now.flat) c.in-Global.place
    (range_as tables (held.proc c.args.frames.now.flat) c.args.instr
    (Instrs.Global c.in-Global.place) c.in-Global.is c.requires.in_range) names) l) c.push_global.ensures.live

pub returns-in-Global-clause-no_memory : goal.returns-in-Global-clause-no_memory
returns-in-Global-clause-no_memory g c =
    let tables : Tables = tables_of c.args.code.now in
    λ e. absurd (may_take c.args.instr (Instrs.Global c.in-Global.place) c.in-Global.is refl e)

pub returns-in-Pop-clause-step : goal.returns-in-Pop-clause-step
returns-in-Pop-clause-step g c =
    let tables : Tables = tables_of c.args.code.now in
    goes_in tables c.args.instr Instrs.Pop c.args.frames.now.flat c.drop_operand.new.frames.flat c.in-Pop.is c.drop_operand.ensures.step

pub returns-in-Pop-clause-live : goal.returns-in-Pop-clause-live
returns-in-Pop-clause-live g c =
    let tables : Tables = tables_of c.args.code.now in
    λ reach names l. c.drop_operand.ensures.live tables reach l

pub returns-in-Dup-clause-step : goal.returns-in-Dup-clause-step
returns-in-Dup-clause-step g c =
    let tables : Tables = tables_of c.args.code.now in
    on_ok_map c.duplicate.result _ _ (λ h. goes_in tables c.args.instr Instrs.Dup c.args.frames.now.flat c.duplicate.new.frames.flat c.in-Dup.is h)
    c.duplicate.ensures.step

pub returns-in-Dup-clause-live : goal.returns-in-Dup-clause-live
returns-in-Dup-clause-live g c =
    let tables : Tables = tables_of c.args.code.now in
    on_ok_map c.duplicate.result _ _ (λ h reach names l. h tables reach l) c.duplicate.ensures.live

pub returns-in-Dup-clause-no_memory : goal.returns-in-Dup-clause-no_memory
returns-in-Dup-clause-no_memory g c =
    let tables : Tables = tables_of c.args.code.now in
    λ e. absurd (may_take c.args.instr Instrs.Dup c.in-Dup.is refl e)

pub returns-in-Mark-clause-step : goal.returns-in-Mark-clause-step
returns-in-Mark-clause-step g c =
    let tables : Tables = tables_of c.args.code.now in
    on_ok_map c.open_mark.result _ _
    (λ h. goes_in tables c.args.instr (Instrs.Mark c.in-Mark.label) c.args.frames.now.flat c.open_mark.new.frames.flat c.in-Mark.is h)
    c.open_mark.ensures.step

pub returns-in-Mark-clause-live : goal.returns-in-Mark-clause-live
returns-in-Mark-clause-live g c =
    let tables : Tables = tables_of c.args.code.now in
    on_ok_map c.open_mark.result _ _ (λ h reach names l. h tables reach l) c.open_mark.ensures.live

pub returns-in-Mark-clause-no_memory : goal.returns-in-Mark-clause-no_memory
returns-in-Mark-clause-no_memory g c =
    let tables : Tables = tables_of c.args.code.now in
    λ e. absurd (may_take c.args.instr (Instrs.Mark c.in-Mark.label) c.in-Mark.is refl e)

pub returns-in-Mark0-clause-step : goal.returns-in-Mark0-clause-step
returns-in-Mark0-clause-step g c =
    let tables : Tables = tables_of c.args.code.now in
    on_ok_map c.open_mark-in-Mark0.result _ _
    (λ h. goes_in tables c.args.instr Instrs.Mark0 c.args.frames.now.flat c.open_mark-in-Mark0.new.frames.flat c.in-Mark0.is h)
    c.open_mark-in-Mark0.ensures.step

pub returns-in-Mark0-clause-live : goal.returns-in-Mark0-clause-live
returns-in-Mark0-clause-live g c =
    let tables : Tables = tables_of c.args.code.now in
    on_ok_map c.open_mark-in-Mark0.result _ _ (λ h reach names l. h tables reach l) c.open_mark-in-Mark0.ensures.live

pub returns-in-Mark0-clause-no_memory : goal.returns-in-Mark0-clause-no_memory
returns-in-Mark0-clause-no_memory g c =
    let tables : Tables = tables_of c.args.code.now in
    λ e. absurd (may_take c.args.instr Instrs.Mark0 c.in-Mark0.is refl e)

pub returns-in-Esusp-clause-step : goal.returns-in-Esusp-clause-step
returns-in-Esusp-clause-step g c =
    let tables : Tables = tables_of c.args.code.now in
    on_ok_map c.give_suspended.result _ _
    (λ h. goes_in tables c.args.instr Instrs.Esusp c.args.frames.now.flat c.give_suspended.new.frames.flat c.in-Esusp.is h) c.give_suspended.ensures.step

pub returns-in-Esusp-clause-live : goal.returns-in-Esusp-clause-live
returns-in-Esusp-clause-live g c =
    let tables : Tables = tables_of c.args.code.now in
    on_ok_map c.give_suspended.result _ _ (λ h reach names l. h tables reach l) c.give_suspended.ensures.live

pub returns-in-Esusp-clause-no_memory : goal.returns-in-Esusp-clause-no_memory
returns-in-Esusp-clause-no_memory g c =
    let tables : Tables = tables_of c.args.code.now in
    λ e. absurd (may_take c.args.instr Instrs.Esusp c.in-Esusp.is refl e)

pub returns-in-Chfail-clause-step : goal.returns-in-Chfail-clause-step
returns-in-Chfail-clause-step g c =
    let tables : Tables = tables_of c.args.code.now in
    goes_in tables c.args.instr (Instrs.Chfail c.in-Chfail.label) c.args.frames.now.flat c.change_label.new.frames.flat c.in-Chfail.is
    c.change_label.ensures.step

pub returns-in-Chfail-clause-live : goal.returns-in-Chfail-clause-live
returns-in-Chfail-clause-live g c =
    let tables : Tables = tables_of c.args.code.now in
    λ reach names l. c.change_label.ensures.live tables reach l

pub returns-in-Goto-clause-step : goal.returns-in-Goto-clause-step
returns-in-Goto-clause-step g c =
    let tables : Tables = tables_of c.args.code.now in
    goes_in tables c.args.instr (Instrs.Goto c.in-Goto.label) c.args.frames.now.flat c.go_to.new.frames.flat c.in-Goto.is c.go_to.ensures.step

pub returns-in-Goto-clause-live : goal.returns-in-Goto-clause-live
returns-in-Goto-clause-live g c =
    let tables : Tables = tables_of c.args.code.now in
    λ reach names l. c.go_to.ensures.live tables reach l

pub returns-in-Ccase-clause-step : goal.returns-in-Ccase-clause-step
returns-in-Ccase-clause-step g c =
    let tables : Tables = tables_of c.args.code.now in
    on_ok_map c.push_below.result _ _ (λ h. goes_in tables c.args.instr Instrs.Ccase c.args.frames.now.flat c.push_below.new.frames.flat c.in-Ccase.is h)
    c.push_below.ensures.step

pub returns-in-Ccase-clause-live : goal.returns-in-Ccase-clause-live
returns-in-Ccase-clause-live g c =
    let tables : Tables = tables_of c.args.code.now in
    on_ok_map c.push_below.result _ _ (λ h reach names l. h tables reach l) c.push_below.ensures.live

pub returns-in-Ccase-clause-no_memory : goal.returns-in-Ccase-clause-no_memory
returns-in-Ccase-clause-no_memory g c =
    let tables : Tables = tables_of c.args.code.now in
    λ e. absurd (may_take c.args.instr Instrs.Ccase c.in-Ccase.is refl e)
