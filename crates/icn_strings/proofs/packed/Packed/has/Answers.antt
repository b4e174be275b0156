use Rattle.std.proofs.Common.{◌<◌, ◌≤◌, ◌∙◌, sym, ap, subst, true, List, length, arith}
use Rattle.std.specs.List.{AllPairs, AllWithin, list_any}
use Rattle.std.specs.List.Sorted.{IsNonDecreasingBy}
use Rattle.icn_strings.specs.declared.packed.PackedRun.{PackedRun}
use Rattle.icn_strings.specs.PackedRuns.{parts_of}
use Rattle.icn_strings.specs.Parts.{EndsBefore, RegionPart, holds}
use Rattle.icn_strings.proofs.HeldRanges.{firsts_rise}
use Rattle.icn_strings.proofs.PackedBytes.{held_there, none_there, runs_rise}
use Rattle.icn_strings.proofs.packed.Packed.has.Goals as goal

pub begun_by-begun-requires : goal.begun_by-begun-requires
begun_by-begun-requires c =
    let runs = c.self.inside.runs.items in
    let bytes = c.self.inside.bytes.items in
    let order : AllPairs EndsBefore (parts_of bytes runs) =
    subst (λ (parts : List RegionPart). AllPairs EndsBefore parts) (sym c.self.view_is) c.requires.order in
    subst (λ (some : List PackedRun). IsNonDecreasingBy (λ (run : PackedRun). run.first) some) (sym c.deref.ensures.value)
    (runs_rise bytes runs (firsts_rise (parts_of bytes runs) order))

pub returns-then-begun-eq0 : goal.returns-then-begun-eq0
returns-then-begun-eq0 c =
    let runs = c.self.inside.runs.items in
    let bytes = c.self.inside.bytes.items in
    let order : AllPairs EndsBefore (parts_of bytes runs) =
    subst (λ (parts : List RegionPart). AllPairs EndsBefore parts) (sym c.self.view_is) c.requires.order in
    let by = c.begun_by-begun.ensures in
    let few : c.begun_by-begun.result ≤ length runs = subst (λ (some : List PackedRun). c.begun_by-begun.result ≤ length some) c.deref.ensures.value by.few in
    let before =
    subst (λ (some : List PackedRun). AllWithin (λ (run : PackedRun). run.first ≤ c.args.range.start) some 0 c.begun_by-begun.result) c.deref.ensures.value by.before in
    let behind =
    subst (λ (some : List PackedRun). AllWithin (λ (run : PackedRun). c.args.range.start < run.first) some c.begun_by-begun.result (length some))
    c.deref.ensures.value by.behind in
    none_there c.args.range bytes runs c.begun_by-begun.result c.self.invariant order c.requires.some few before behind c.if-begun-eq0.true
    ∙ ap (λ (parts : List RegionPart). list_any (holds c.args.range) parts) c.self.view_is

pub index-requires : goal.index-requires
index-requires c =
    let runs = c.self.inside.runs.items in
    let bytes = c.self.inside.bytes.items in
    let order : AllPairs EndsBefore (parts_of bytes runs) =
    subst (λ (parts : List RegionPart). AllPairs EndsBefore parts) (sym c.self.view_is) c.requires.order in
    let by = c.begun_by-begun.ensures in
    let few : c.begun_by-begun.result ≤ length runs = subst (λ (some : List PackedRun). c.begun_by-begun.result ≤ length some) c.deref.ensures.value by.few in
    let before =
    subst (λ (some : List PackedRun). AllWithin (λ (run : PackedRun). run.first ≤ c.args.range.start) some 0 c.begun_by-begun.result) c.deref.ensures.value by.before in
    let behind =
    subst (λ (some : List PackedRun). AllWithin (λ (run : PackedRun). c.args.range.start < run.first) some c.begun_by-begun.result (length some))
    c.deref.ensures.value by.behind in
    omega (arith, few, c.if-begun-eq0.false, c.self.inside.runs.ok)

pub returns : goal.returns
returns c =
    let runs = c.self.inside.runs.items in
    let bytes = c.self.inside.bytes.items in
    let order : AllPairs EndsBefore (parts_of bytes runs) =
    subst (λ (parts : List RegionPart). AllPairs EndsBefore parts) (sym c.self.view_is) c.requires.order in
    let by = c.begun_by-begun.ensures in
    let few : c.begun_by-begun.result ≤ length runs = subst (λ (some : List PackedRun). c.begun_by-begun.result ≤ length some) c.deref.ensures.value by.few in
    let before =
    subst (λ (some : List PackedRun). AllWithin (λ (run : PackedRun). run.first ≤ c.args.range.start) some 0 c.begun_by-begun.result) c.deref.ensures.value by.before in
    let behind =
    subst (λ (some : List PackedRun). AllWithin (λ (run : PackedRun). c.args.range.start < run.first) some c.begun_by-begun.result (length some))
    c.deref.ensures.value by.behind in
    c.holds.ensures
    ∙ (held_there c.args.range bytes runs c.begun_by-begun.result c.self.invariant order c.requires.some few before behind c.index.result.now
    (omega (arith, c.if-begun-eq0.false)) c.index.ensures
    ∙ ap (λ (parts : List RegionPart). list_any (holds c.args.range) parts) c.self.view_is)
