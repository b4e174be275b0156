use Rattle.std.proofs.Common.{rules, ap, ◌∙◌, ◌≡◌}
use Rattle.std.specs.Map.{lookup}
use Rattle.icn_structs.specs.PairLists.{value_of}
use Rattle.icn_structs.proofs.PairedSteps.{looked}
use Rattle.icn_structs.proofs.pairs.Pairs.look.Goals as goal

pub returns : goal.returns
returns g c =
    let first : c.copied.result ≡ lookup (g.K.PartialEq.eq c.args.k.now) c.self.inside.entries.entries = search rules in
    record {
      value = first ∙ looked g.K.PartialEq.eq g.met.K.Eq.laws c.self.inside.entries.entries c.self.inside.turns c.self.invariant c.args.k.now
          ∙ ap (λ pairs. value_of g.K.PartialEq.eq pairs c.args.k.now) c.self.view_is;
    }
