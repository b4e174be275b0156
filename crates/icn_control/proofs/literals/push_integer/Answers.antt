use Rattle.std.proofs.Common.{◌≡◌, ◌∙◌, FitsSigned, ap, refl, rules, sym, subst, ℤ}
use Rattle.std.proofs.lemmas.Int.{to_z-of_z}
use Rattle.std.proofs.lemmas.Option.{slice_get_read}
use Rattle.std.specs.Int.{w64}
use Rattle.icn_code.specs.CodeTables.{tables_of}
use Rattle.icn_value.specs.declared.item.Item.TheVariants.{Val as HeldVal}
use Rattle.icn_value.specs.declared.val.Val.TheVariants.{Integer as HeldInteger}
use Rattle.icn_frames.specs.Stacks.{FlatStack, push}
use Rattle.icn_control.specs.LiveStacks.{IsLiveStack}
use Rattle.icn_control.proofs.LiveCalls.{live_push}
use Rattle.icn_control.proofs.StackSteps.{integer_runs}
use Rattle.icn_control.proofs.literals.push_integer.Goals as goal

pub returns-clause-step : goal.returns-clause-step
returns-clause-step g c =
    let n = c.index-n.result.now in
    let fits : FitsSigned w64 n = search rules in
    let pushed : c.push_plain.new.self.flat ≡ push (HeldVal (HeldInteger n)) c.args.frames.now.flat
    = c.in_ok-push_plain.ensures.ok _ refl ∙ ap (λ (i : ℤ). push (HeldVal (HeldInteger i)) c.args.frames.now.flat) (to_z-of_z w64 n fits) in
    integer_runs c.args.frames.now.flat c.push_plain.new.self.flat (tables_of c.args.code.now) c.args.index n
    (slice_get_read c.args.code.now.integers.items _ c.args.index n refl c.requires c.index-n.ensures) pushed

pub returns-clause-live : goal.returns-clause-live
returns-clause-live g c t reach k =
    subst (λ (m : FlatStack). IsLiveStack t reach m) (sym (c.in_ok-push_plain.ensures.ok _ refl))
    (live_push t reach c.args.frames.now.flat _ k (record { live = record { live = tt } }))
