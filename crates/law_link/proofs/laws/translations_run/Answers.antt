use Rattle.std.proofs.Common.{sym, ap, ◌∙◌}
use Rattle.icn_defs.specs.KeptProcedures.{dropped_numbers}
use Rattle.icn_link.specs.Joined.{joined_code, named_procs, names_all}
use Rattle.law_simulation.specs.FirstLaw.{IsLinked, RunsFlatHiding, RunsLinkedHiding}
use Rattle.law_link.specs.PrunedUnits.{kept_flags}
use Rattle.law_link.specs.TranslatedUnits.{translated_units}
use Rattle.law_link.proofs.PrunedFiles.{kept_same, named_below, through}
use Rattle.law_link.proofs.laws.translations_run.Goals as goal

pub returns-clause-on_marks : goal.returns-clause-on_marks
returns-clause-on_marks c names files launch seen same faultless rules =
    let units = translated_units names files in
    let tables = joined_code units in
    let linked : IsLinked files tables = record { faultless = faultless; code = c.translations_join.ensures names files same faultless } in
    let told = c.same_kept.ensures files tables linked ∙ ap dropped_numbers (sym (kept_same names files same)) in
    let kept = c.kept_is_least.ensures.of_code tables (named_procs units) (names_all units) rules (named_below units) in
    through (λ hidden. RunsLinkedHiding hidden tables launch seen) told
    (c.same_ends.ensures.on_marks files tables launch seen linked)
    (c.pruned_code_runs_alike.ensures.on_marks tables (kept_flags units) launch seen rules kept)

pub returns-clause-on_stacks : goal.returns-clause-on_stacks
returns-clause-on_stacks c names files launch seen same faultless rules =
    let units = translated_units names files in
    let tables = joined_code units in
    let linked : IsLinked files tables = record { faultless = faultless; code = c.translations_join.ensures names files same faultless } in
    let told = c.same_kept.ensures files tables linked ∙ ap dropped_numbers (sym (kept_same names files same)) in
    let kept = c.kept_is_least.ensures.of_code tables (named_procs units) (names_all units) rules (named_below units) in
    through (λ hidden. RunsFlatHiding hidden tables launch seen) told
    (c.same_ends.ensures.on_stacks files tables launch seen linked)
    (c.pruned_code_runs_alike.ensures.on_stacks tables (kept_flags units) launch seen rules kept)
