use Rattle.std.proofs.Common.{◌≡◌, ◌<◌, ℕ, false, List, Option, Some, None, IfSome, length, slice_get, refl, sym, subst, arith}
use Rattle.std.proofs.lemmas.List.{length-map}
use Rattle.std.proofs.lemmas.Option.{slice_get_within}
use Rattle.icn_run.specs.Step as code
use Rattle.icn_coexp.specs.Transfers.{SeenStacks, CoexpTable, status_of, exhausted_of, enter_other, KeepsOthers}
use Rattle.icn_coexp.specs.KeptEntries.{table_seen, coexp_seen, running_seen, status_seen, IsHere}
use Rattle.icn_coexp.specs.declared.entries.Status.{Status}
use Rattle.icn_coexp.specs.declared.entries.CoexpEntry.{CoexpEntry}
use Rattle.icn_coexp.specs.declared.entries.RunningStack.{RunningStack}
use Rattle.icn_coexp.specs.declared.entries.RunningStack.TheVariants.{On}
use Rattle.icn_coexp.proofs.OthersKept.{enter_keeps}
use Rattle.icn_coexp.proofs.TransferredEntries.{status_exhausted, turned, can_give, kept_on, enter_on, status_other}
use Rattle.icn_coexp.proofs.table.Stacks.activate.Goals as goal

here_live : (K : Type 0) (es : List (CoexpEntry K)) (a : ℕ) (running : RunningStack K) (o : Option (CoexpEntry K)) → slice_get es a ≡ o → IsHere running o
    → a < length es
here_live K es a running (Some x) e h = slice_get_within es a x e
here_live K es a running None e h = absurd h

pub wait-requires-clause-live : goal.wait-requires-clause-live
wait-requires-clause-live g c =
    let s = c.self.inside in
    let p = here_live g.row.K.Denot s.entries.items s.active s.running (slice_get s.entries.items s.active) refl c.self.invariant.here in
    omega (arith, p, s.entries.ok)

pub returns-then-is_exhausted-clause-went : goal.returns-then-is_exhausted-clause-went
returns-then-is_exhausted-clause-went g c =
    let s = c.self.inside in
    let n = rw (← c.self.view_is) at c.requires.live in
    let o : c.args.id < length s.entries.items = omega (arith, n, length-map s.entries.items (coexp_seen {K = g.row.K.Denot})) in (
      subst (λ (w : SeenStacks). status_of c.args.id w.table ≡ code.Exhausted) c.self.view_is
          (status_exhausted g.row.K.Denot s.entries.items c.args.id s.active (running_seen s.running) c.is_exhausted.result o c.is_exhausted.ensures
          c.if-is_exhausted.true),
      refl,
    )

pub give_to-stack-requires-clause-can : goal.give_to-stack-requires-clause-can
give_to-stack-requires-clause-can g c =
    let s = c.self.inside in
    let n = rw (← c.self.view_is) at c.requires.live in
    let l : c.args.id < length c.wait.new.entries.items =
    omega (arith, n, length-map s.entries.items (coexp_seen {K = g.row.K.Denot}), c.wait.ensures.length, s.entries.ok, c.wait.new.entries.ok) in
    let t = turned g.row.K.Denot s.entries.items c.wait.new.entries.items c.set_activator.new.entries.items s.active c.args.id s.running c.self.invariant
    (rw (← c.self.view_is) at c.requires.room) c.wait.ensures.is c.set_activator.ensures.is c.if-id-self.false l in
    can_give g.row.K.Denot c.set_activator.new.entries.items c.args.id c.is_exhausted.result t.fits t.live
    (subst (λ (w : Option (Status g.row.K.Denot)). IfSome w (λ x. c.is_exhausted.result ≡ exhausted_of (status_seen x))) (sym t.status) c.is_exhausted.ensures)
    c.if-is_exhausted.false

pub invariant_of-self : goal.invariant_of-self
invariant_of-self g c =
    let s = c.self.inside in
    let n = rw (← c.self.view_is) at c.requires.live in
    let l : c.args.id < length c.wait.new.entries.items =
    omega (arith, n, length-map s.entries.items (coexp_seen {K = g.row.K.Denot}), c.wait.ensures.length, s.entries.ok, c.wait.new.entries.ok) in
    let t = turned g.row.K.Denot s.entries.items c.wait.new.entries.items c.set_activator.new.entries.items s.active c.args.id s.running c.self.invariant
    (rw (← c.self.view_is) at c.requires.room) c.wait.ensures.is c.set_activator.ensures.is c.if-id-self.false l in
    kept_on g.row.K.Denot c.set_activator.new.entries.items _ c.args.id c.give_to-stack.result t.fits t.live c.give_to-stack.ensures.is

pub returns : goal.returns
returns g c =
    let s = c.self.inside in
    let n = rw (← c.self.view_is) at c.requires.live in
    let o : c.args.id < length s.entries.items = omega (arith, n, length-map s.entries.items (coexp_seen {K = g.row.K.Denot})) in
    let l : c.args.id < length c.wait.new.entries.items = omega (arith, o, c.wait.ensures.length, s.entries.ok, c.wait.new.entries.ok) in
    let t = turned g.row.K.Denot s.entries.items c.wait.new.entries.items c.set_activator.new.entries.items s.active c.args.id s.running c.self.invariant
    (rw (← c.self.view_is) at c.requires.room) c.wait.ensures.is c.set_activator.ensures.is c.if-id-self.false l in
    let after : CoexpTable = table_seen c.give_to-stack.new.entries.items c.args.id (On c.give_to-stack.result) in
    let moved = enter_on g.row.K.Denot s.entries.items c.wait.new.entries.items c.set_activator.new.entries.items _ s.active c.args.id s.running c.args.v
    _ c.wait.ensures.is c.set_activator.ensures.is t.fits t.live c.give_to-stack.ensures.stack c.give_to-stack.ensures.is in
    record {
      went = subst (λ (w : SeenStacks). (c.args.id ≡ w.table.active → ⊥) × (exhausted_of (status_of c.args.id w.table) ≡ false)
          × (enter_other c.args.id c.args.v w.table ≡ Some after)) c.self.view_is (
            c.if-id-self.false,
            status_other g.row.K.Denot s.entries.items c.args.id s.active
                (running_seen s.running) c.is_exhausted.result o c.is_exhausted.ensures c.if-is_exhausted.false,
            moved,
          );
      others = subst (λ (w : SeenStacks). KeepsOthers w.table.active c.args.id w.table.coexps after.coexps) c.self.view_is (
          enter_keeps c.args.id c.args.v (table_seen s.entries.items s.active s.running) after moved);
      spare = tt;
    }
