use Rattle.std.proofs.Common.{slice_get, ap, sym, ◌∙◌}
use Rattle.std.specs.Option.{option_map}
use Rattle.icn_structs.proofs.PairedSteps.{pair_there, no_pair}
use Rattle.icn_structs.proofs.pairs.Pairs.pair_at.Goals as goal

pub returns-in_err-number : goal.returns-in_err-number
returns-in_err-number g c = record {
  pair = ap (option_map (λ pair. (pair.0.now, pair.1))) c.from_residual.ensures
      ∙ sym (ap (λ pairs. slice_get pairs c.args.place) (sym c.self.view_is)
      ∙ no_pair g.K.PartialEq.eq g.met.K.Eq.laws c.self.inside.entries.entries c.self.inside.turns c.self.invariant c.args.place
      (sym c.in_err-number.ensures.number));
}

pub returns : goal.returns
returns g c = record {
  pair = sym (pair_there g.K.PartialEq.eq g.met.K.Eq.laws c.self.inside.entries.entries c.self.inside.turns c.self.invariant c.args.place c.in_ok-number.number
      (c.in_ok-key.key.now, c.in_ok-key.value.now) (sym c.in_ok-number.ensures.number) (sym c.in_ok-key.ensures.entry))
      ∙ ap (λ pairs. slice_get pairs c.args.place) c.self.view_is;
}
