use Rattle.std.proofs.Common.{◌≡◌, ◌∙◌, ◌+◌, ◌≤◌, ◌∷◌, [], List, length, refl, sym, ap, subst, arith}
use Rattle.std.proofs.lemmas.List.{length-append}
use Rattle.icn_value.specs.declared.val.Val.{Val}
use Rattle.icn_value.specs.declared.val.Val.TheVariants.{Null}
use Rattle.icn_calls.specs.Calling.{values_for}
use Rattle.icn_calls.proofs.CallSteps.{cut_short, values_for_cut, values_for_more, values_for_whole}
use Rattle.icn_calls.proofs.arguments.fit.Goals as goal

pub loop-vals-init : goal.loop-vals-init
loop-vals-init c =
    record {
      is = refl;
      few = subst (λ (xs : List Val). length xs ≤ c.args.count) (sym c.truncate.ensures.items)
          (cut_short c.args.count c.args.vals.now.items);
    }

pub loop-vals-preserved : goal.loop-vals-preserved
loop-vals-preserved c =
    let seen : c.length_of.result ≡ length c.loop-vals.vals.items = c.length_of.ensures ∙ ap length c.deref.ensures.value in
    let more : length c.push.new.self.items ≡ length c.loop-vals.vals.items + 1 = ap length c.in_ok-push.ensures.items
    ∙ length-append c.loop-vals.vals.items (Null ∷ []) in
    record {
      is = ap (values_for c.args.count) c.in_ok-push.ensures.items ∙ values_for_more c.args.count c.loop-vals.vals.items ∙ c.loop-vals.invariant.is;
      few = omega (arith, seen, more, c.loop-vals-test.true);
    }

pub loop-vals-smaller : goal.loop-vals-smaller
loop-vals-smaller c =
    let seen : c.length_of.result ≡ length c.loop-vals.vals.items = c.length_of.ensures ∙ ap length c.deref.ensures.value in
    let more : length c.push.new.self.items ≡ length c.loop-vals.vals.items + 1 = ap length c.in_ok-push.ensures.items
    ∙ length-append c.loop-vals.vals.items (Null ∷ []) in
    omega (arith, seen, more, c.loop-vals-test.true)

pub returns : goal.returns
returns c =
    let seen : c.length_of.result ≡ length c.loop-vals.vals.items = c.length_of.ensures ∙ ap length c.deref.ensures.value in
    let full : length c.loop-vals.vals.items ≡ c.args.count = omega (arith, seen, c.loop-vals-test.false, c.loop-vals.invariant.few) in
    sym (values_for_whole c.args.count c.loop-vals.vals.items full) ∙ c.loop-vals.invariant.is ∙ ap (values_for c.args.count) c.truncate.ensures.items
    ∙ values_for_cut c.args.count c.args.vals.now.items
