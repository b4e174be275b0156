use Rattle.std.proofs.Common.{◌≡◌, List, [], ◌∷◌, Option, Ok, is_some, length, refl, sym, ap, ◌∙◌, subst, map}
use Rattle.std.specs.Prelude.{string_bytes}
use Rattle.std.specs.List.{All}
use Rattle.std.specs.Option.{option_map_or}
use Rattle.icn_value.specs.declared.val.Val.{Val}
use Rattle.icn_value.specs.Limited.{limits_of}
use Rattle.icn_value.specs.Store.{World as StoreWorld}
use Rattle.icn_heap.specs.Extents.{IsLive}
use Rattle.icn_heap.specs.Heaps.{extent_of, heap_of}
use Rattle.icn_frames.specs.Stacks as held
use Rattle.icn_coexp.specs.Transfers.{first_table}
use Rattle.icn_code.specs.Codes.{Proc, proc_of}
use Rattle.icn_code.specs.CodeTables.{tables_of}
use Rattle.icn_vars.specs.declared.world.World.{World}
use Rattle.icn_control.specs.LiveStacks.{variable_count, variables_of}
use Rattle.icn_calls.proofs.RuleSteps.{collects_one}
use Rattle.icn_machine.specs.Starting.{BeginsWith, launch_with}
use Rattle.icn_machine.proofs.StartSteps.{locals_stop, start_levels, start_sound, starts_as, starts_with_halt}
use Rattle.icn_machine.proofs.starting.start_in.Goals as goal

pub first_locals-requires-clause-collects : goal.first_locals-requires-clause-collects
first_locals-requires-clause-collects g c e =
    collects_one (tables_of c.args.code.now) c.args.main (proc_of c.args.proc.now) c.args.code.now.rules c.requires.there e

pub first_locals-requires-clause-levels : goal.first_locals-requires-clause-levels
first_locals-requires-clause-levels g c =
    start_levels c.args.world (tables_of c.args.code.now) (limits_of c.args.limits) (map string_bytes c.args.words.now) c.requires.world
    c.args.limits.some_levels

pub first_locals-requires-clause-vals : goal.first_locals-requires-clause-vals
first_locals-requires-clause-vals g c = c.requires.live

pub returns-clause-step : goal.returns-clause-step
returns-clause-step g c outside =
    let t = tables_of c.args.code.now in
    let launch = launch_with c.args.words.now c.args.limits outside in
    starts_with_halt g.row.K.Denot t launch c.about_nothing.result _ c.about_nothing.ensures
    (locals_stop g.row.K.Denot t launch c.args.main (proc_of c.args.proc.now) c.args.world c.first_locals.new.world c.args.vals.items
    c.first_locals.new.vals.items c.in-Err.stop c.requires.found c.requires.there c.requires.paid
    c.requires.world c.requires.values c.in-Err.ensures.step)

pub returns-in-Ok-machine_with-clause-step : goal.returns-in-Ok-machine_with-clause-step
returns-in-Ok-machine_with-clause-step g c outside =
    let t = tables_of c.args.code.now in
    let launch = launch_with c.args.words.now c.args.limits outside in
    let entry = proc_of c.args.proc.now in
    let locals = c.first_locals.new.vals.items in
    starts_as c.in-Ok-machine_with.m t launch c.args.main entry c.args.world c.args.vals.items locals (held.begin c.args.main locals 0) c.requires.found
    c.requires.there c.requires.paid c.requires.world c.requires.values
    (subst (λ (u : World). BeginsWith {A = Unit} entry c.args.world c.args.vals.items u locals (Ok tt)) (sym c.in-Ok-machine_with.ensures.world)
    c.in-Ok.ensures.step)
    refl
    (c.in-Ok-machine_with.ensures.table ∙ ap (λ (xs : List Val). first_table (held.begin c.args.main xs 0)) c.deref.ensures.value)
    c.in-Ok-machine_with.ensures.turns c.in-Ok-machine_with.ensures.begun

pub returns-in-Ok-machine_with-clause-sound : goal.returns-in-Ok-machine_with-clause-sound
returns-in-Ok-machine_with-clause-sound g c =
    let t = tables_of c.args.code.now in
    let locals = c.first_locals.new.vals.items in
    let entry = proc_of c.args.proc.now in
    let count : length locals ≡ variable_count t c.args.main = c.in-Ok.ensures.count
    ∙ sym (ap (λ (o : Option Proc). option_map_or variables_of o 0) c.requires.there) in
    let v = c.first_locals.new.world in
    let first : (heap_of c.args.world.heap).bounds ≡ limits_of c.args.limits = ap (λ (x : StoreWorld). x.heap.bounds) c.requires.world in
    let one : (heap_of c.args.world.heap).coexps ≡ 0 ∷ [] = ap (λ (x : StoreWorld). x.heap.coexps) c.requires.world in
    start_sound c.in-Ok-machine_with.m t c.args.main locals (held.begin c.args.main locals 0) refl
    (c.in-Ok-machine_with.ensures.table ∙ ap (λ (xs : List Val). first_table (held.begin c.args.main xs 0)) c.deref.ensures.value)
    c.in-Ok-machine_with.ensures.turns count
    (subst (λ (u : World). All (IsLive (extent_of u.heap)) locals) (sym c.in-Ok-machine_with.ensures.world) c.in-Ok.ensures.live)
    (ap (λ (u : World). (heap_of u.heap).bounds) c.in-Ok-machine_with.ensures.world ∙ c.in-Ok.ensures.counts.bounds ∙ first ∙ ap limits_of
    (sym c.in-Ok-machine_with.ensures.limits))
    (ap (λ (u : World). (heap_of u.heap).coexps) c.in-Ok-machine_with.ensures.world ∙ c.in-Ok.ensures.counts.coexps ∙ one)

pub returns-in-Ok-machine_with-clause-stack : goal.returns-in-Ok-machine_with-clause-stack
returns-in-Ok-machine_with-clause-stack g c = ap (λ t. is_some t.running) c.in-Ok-machine_with.ensures.table
