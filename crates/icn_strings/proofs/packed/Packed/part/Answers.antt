use Rattle.std.proofs.Common.{◌≡◌, ◌<◌, ◌≤◌, ◌∙◌, ◌+◌, ◌-◌, ℕ, take, drop, sym, ap, subst, true, List, length, arith}
use Rattle.std.proofs.lemmas.List.{length-drop, length-take-le}
use Rattle.std.specs.List.{All, AllPairs, AllWithin, list_any}
use Rattle.std.specs.List.Sorted.{IsNonDecreasingBy}
use Rattle.icn_strings.specs.declared.packed.PackedRun.{PackedRun}
use Rattle.icn_strings.specs.PackedRuns.{parts_of}
use Rattle.icn_strings.specs.Parts.{EndsBefore, HasItsPart, RegionPart, holds}
use Rattle.icn_strings.proofs.HeldRanges.{firsts_rise}
use Rattle.icn_strings.proofs.PackedBytes.{found_there, its_part, part_bytes, run_found, runs_rise}
use Rattle.icn_strings.proofs.packed.Packed.part.Goals as goal

pub begun_by-begun-requires : goal.begun_by-begun-requires
begun_by-begun-requires c =
    let runs = c.self.inside.runs.items in
    let bytes = c.self.inside.bytes.items in
    let order : AllPairs EndsBefore (parts_of bytes runs) =
    subst (λ (parts : List RegionPart). AllPairs EndsBefore parts) (sym c.self.view_is) c.requires.order in
    subst (λ (some : List PackedRun). IsNonDecreasingBy (λ (run : PackedRun). run.first) some) (sym c.deref.ensures.value)
    (runs_rise bytes runs (firsts_rise (parts_of bytes runs) order))

pub overflow_sub-begun : goal.overflow_sub-begun
overflow_sub-begun c =
    let runs = c.self.inside.runs.items in
    let bytes = c.self.inside.bytes.items in
    let order : AllPairs EndsBefore (parts_of bytes runs) =
    subst (λ (parts : List RegionPart). AllPairs EndsBefore parts) (sym c.self.view_is) c.requires.order in
    let by = c.begun_by-begun.ensures in
    let few : c.begun_by-begun.result ≤ length runs = subst (λ (some : List PackedRun). c.begun_by-begun.result ≤ length some) c.deref.ensures.value by.few in
    let before =
    subst (λ (some : List PackedRun). AllWithin (λ (run : PackedRun). run.first ≤ c.args.range.start) some 0 c.begun_by-begun.result) c.deref.ensures.value by.before in
    let behind =
    subst (λ (some : List PackedRun). AllWithin (λ (run : PackedRun). c.args.range.start < run.first) some c.begun_by-begun.result (length some))
    c.deref.ensures.value by.behind in
    let held : list_any (holds c.args.range) (parts_of bytes runs) ≡ true =
    subst (λ (parts : List RegionPart). list_any (holds c.args.range) parts ≡ true) (sym c.self.view_is) c.requires.held in
    let found = found_there c.args.range bytes runs c.begun_by-begun.result c.self.invariant order c.requires.some few before behind held in
    let some = found.some in
    omega (arith, some)

pub index-run-requires : goal.index-run-requires
index-run-requires c =
    let runs = c.self.inside.runs.items in
    let bytes = c.self.inside.bytes.items in
    let order : AllPairs EndsBefore (parts_of bytes runs) =
    subst (λ (parts : List RegionPart). AllPairs EndsBefore parts) (sym c.self.view_is) c.requires.order in
    let by = c.begun_by-begun.ensures in
    let few : c.begun_by-begun.result ≤ length runs = subst (λ (some : List PackedRun). c.begun_by-begun.result ≤ length some) c.deref.ensures.value by.few in
    let before =
    subst (λ (some : List PackedRun). AllWithin (λ (run : PackedRun). run.first ≤ c.args.range.start) some 0 c.begun_by-begun.result) c.deref.ensures.value by.before in
    let behind =
    subst (λ (some : List PackedRun). AllWithin (λ (run : PackedRun). c.args.range.start < run.first) some c.begun_by-begun.result (length some))
    c.deref.ensures.value by.behind in
    let held : list_any (holds c.args.range) (parts_of bytes runs) ≡ true =
    subst (λ (parts : List RegionPart). list_any (holds c.args.range) parts ≡ true) (sym c.self.view_is) c.requires.held in
    let found = found_there c.args.range bytes runs c.begun_by-begun.result c.self.invariant order c.requires.some few before behind held in
    let some = found.some in
    omega (arith, some, few, c.self.inside.runs.ok)

pub overflow_sub-from : goal.overflow_sub-from
overflow_sub-from c =
    let runs = c.self.inside.runs.items in
    let bytes = c.self.inside.bytes.items in
    let order : AllPairs EndsBefore (parts_of bytes runs) =
    subst (λ (parts : List RegionPart). AllPairs EndsBefore parts) (sym c.self.view_is) c.requires.order in
    let by = c.begun_by-begun.ensures in
    let few : c.begun_by-begun.result ≤ length runs = subst (λ (some : List PackedRun). c.begun_by-begun.result ≤ length some) c.deref.ensures.value by.few in
    let before =
    subst (λ (some : List PackedRun). AllWithin (λ (run : PackedRun). run.first ≤ c.args.range.start) some 0 c.begun_by-begun.result) c.deref.ensures.value by.before in
    let behind =
    subst (λ (some : List PackedRun). AllWithin (λ (run : PackedRun). c.args.range.start < run.first) some c.begun_by-begun.result (length some))
    c.deref.ensures.value by.behind in
    let held : list_any (holds c.args.range) (parts_of bytes runs) ≡ true =
    subst (λ (parts : List RegionPart). list_any (holds c.args.range) parts ≡ true) (sym c.self.view_is) c.requires.held in
    let found = found_there c.args.range bytes runs c.begun_by-begun.result c.self.invariant order c.requires.some few before behind held in
    let run = run_found c.args.range bytes runs c.begun_by-begun.result c.self.invariant order c.requires.some few before behind held c.index-run.result.now
    c.index-run.ensures in
    let from = run.from in
    omega (arith, from)

pub overflow_add-from : goal.overflow_add-from
overflow_add-from c =
    let runs = c.self.inside.runs.items in
    let bytes = c.self.inside.bytes.items in
    let order : AllPairs EndsBefore (parts_of bytes runs) =
    subst (λ (parts : List RegionPart). AllPairs EndsBefore parts) (sym c.self.view_is) c.requires.order in
    let by = c.begun_by-begun.ensures in
    let few : c.begun_by-begun.result ≤ length runs = subst (λ (some : List PackedRun). c.begun_by-begun.result ≤ length some) c.deref.ensures.value by.few in
    let before =
    subst (λ (some : List PackedRun). AllWithin (λ (run : PackedRun). run.first ≤ c.args.range.start) some 0 c.begun_by-begun.result) c.deref.ensures.value by.before in
    let behind =
    subst (λ (some : List PackedRun). AllWithin (λ (run : PackedRun). c.args.range.start < run.first) some c.begun_by-begun.result (length some))
    c.deref.ensures.value by.behind in
    let held : list_any (holds c.args.range) (parts_of bytes runs) ≡ true =
    subst (λ (parts : List RegionPart). list_any (holds c.args.range) parts ≡ true) (sym c.self.view_is) c.requires.held in
    let found = found_there c.args.range bytes runs c.begun_by-begun.result c.self.invariant order c.requires.some few before behind held in
    let run = run_found c.args.range bytes runs c.begun_by-begun.result c.self.invariant order c.requires.some few before behind held c.index-run.result.now
    c.index-run.ensures in
    let from = run.from in
    let to = run.to in
    let within = run.within in
    omega (arith, from, to, within, c.self.inside.bytes.ok, c.self.inside.bytes.small)

pub bytes_at-requires : goal.bytes_at-requires
bytes_at-requires c =
    let runs = c.self.inside.runs.items in
    let bytes = c.self.inside.bytes.items in
    let order : AllPairs EndsBefore (parts_of bytes runs) =
    subst (λ (parts : List RegionPart). AllPairs EndsBefore parts) (sym c.self.view_is) c.requires.order in
    let by = c.begun_by-begun.ensures in
    let few : c.begun_by-begun.result ≤ length runs = subst (λ (some : List PackedRun). c.begun_by-begun.result ≤ length some) c.deref.ensures.value by.few in
    let before =
    subst (λ (some : List PackedRun). AllWithin (λ (run : PackedRun). run.first ≤ c.args.range.start) some 0 c.begun_by-begun.result) c.deref.ensures.value by.before in
    let behind =
    subst (λ (some : List PackedRun). AllWithin (λ (run : PackedRun). c.args.range.start < run.first) some c.begun_by-begun.result (length some))
    c.deref.ensures.value by.behind in
    let held : list_any (holds c.args.range) (parts_of bytes runs) ≡ true =
    subst (λ (parts : List RegionPart). list_any (holds c.args.range) parts ≡ true) (sym c.self.view_is) c.requires.held in
    let found = found_there c.args.range bytes runs c.begun_by-begun.result c.self.invariant order c.requires.some few before behind held in
    let run = run_found c.args.range bytes runs c.begun_by-begun.result c.self.invariant order c.requires.some few before behind held c.index-run.result.now
    c.index-run.ensures in
    let from = run.from in
    let to = run.to in
    let within = run.within in
    let long = ap (λ (some : List ℕ). length some) c.deref-2.ensures.value in
    omega (arith, from, to, within, long)

pub returns-clause-bytes : goal.returns-clause-bytes
returns-clause-bytes c all are =
    let runs = c.self.inside.runs.items in
    let bytes = c.self.inside.bytes.items in
    let order : AllPairs EndsBefore (parts_of bytes runs) =
    subst (λ (parts : List RegionPart). AllPairs EndsBefore parts) (sym c.self.view_is) c.requires.order in
    let by = c.begun_by-begun.ensures in
    let few : c.begun_by-begun.result ≤ length runs = subst (λ (some : List PackedRun). c.begun_by-begun.result ≤ length some) c.deref.ensures.value by.few in
    let before =
    subst (λ (some : List PackedRun). AllWithin (λ (run : PackedRun). run.first ≤ c.args.range.start) some 0 c.begun_by-begun.result) c.deref.ensures.value by.before in
    let behind =
    subst (λ (some : List PackedRun). AllWithin (λ (run : PackedRun). c.args.range.start < run.first) some c.begun_by-begun.result (length some))
    c.deref.ensures.value by.behind in
    let held : list_any (holds c.args.range) (parts_of bytes runs) ≡ true =
    subst (λ (parts : List RegionPart). list_any (holds c.args.range) parts ≡ true) (sym c.self.view_is) c.requires.held in
    let found = found_there c.args.range bytes runs c.begun_by-begun.result c.self.invariant order c.requires.some few before behind held in
    let run = run_found c.args.range bytes runs c.begun_by-begun.result c.self.invariant order c.requires.some few before behind held c.index-run.result.now
    c.index-run.ensures in
    let parts : All (HasItsPart all) (parts_of bytes runs) = subst (λ (some : List RegionPart). All (HasItsPart all) some) (sym c.self.view_is) are in
    c.bytes_at.ensures
    ∙ (ap (λ (some : List ℕ). take c.args.range.len (drop (c.index-run.result.now.at + (c.args.range.start - c.index-run.result.now.first)) some))
    c.deref-2.ensures.value
    ∙ part_bytes c.args.range bytes c.index-run.result.now all run
    (its_part c.args.range bytes runs c.begun_by-begun.result c.self.invariant order c.requires.some few before behind held
    c.index-run.result.now c.index-run.ensures all parts))

pub returns-clause-len : goal.returns-clause-len
returns-clause-len c =
    let runs = c.self.inside.runs.items in
    let bytes = c.self.inside.bytes.items in
    let order : AllPairs EndsBefore (parts_of bytes runs) =
    subst (λ (parts : List RegionPart). AllPairs EndsBefore parts) (sym c.self.view_is) c.requires.order in
    let by = c.begun_by-begun.ensures in
    let few : c.begun_by-begun.result ≤ length runs = subst (λ (some : List PackedRun). c.begun_by-begun.result ≤ length some) c.deref.ensures.value by.few in
    let before =
    subst (λ (some : List PackedRun). AllWithin (λ (run : PackedRun). run.first ≤ c.args.range.start) some 0 c.begun_by-begun.result) c.deref.ensures.value by.before in
    let behind =
    subst (λ (some : List PackedRun). AllWithin (λ (run : PackedRun). c.args.range.start < run.first) some c.begun_by-begun.result (length some))
    c.deref.ensures.value by.behind in
    let held : list_any (holds c.args.range) (parts_of bytes runs) ≡ true =
    subst (λ (parts : List RegionPart). list_any (holds c.args.range) parts ≡ true) (sym c.self.view_is) c.requires.held in
    let found = found_there c.args.range bytes runs c.begun_by-begun.result c.self.invariant order c.requires.some few before behind held in
    let run = run_found c.args.range bytes runs c.begun_by-begun.result c.self.invariant order c.requires.some few before behind held c.index-run.result.now
    c.index-run.ensures in
    let from = run.from in
    let to = run.to in
    let within = run.within in
    let long = ap (λ (some : List ℕ). length some) c.deref-2.ensures.value in
    let behind_it = length-drop (c.index-run.result.now.at + (c.args.range.start - c.index-run.result.now.first)) c.deref-2.result.now in
    ap (λ (some : List ℕ). length some) c.bytes_at.ensures
    ∙ length-take-le c.args.range.len (drop (c.index-run.result.now.at + (c.args.range.start - c.index-run.result.now.first)) c.deref-2.result.now)
    (omega (arith, from, to, within, long, behind_it))
