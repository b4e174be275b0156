use Rattle.std.proofs.Common.{ℕ, Bool, false, ◌∙◌, ap}
use Rattle.std.specs.Option.{option_map_or}
use Rattle.icn_unit.specs.UnitRules.{own_label}
use Rattle.icn_ucode.proofs.proc_lists.Coded.is_repeated.Goals as goal

pub returns : goal.returns
returns c = c.has_place.ensures ∙ ap (λ (labels : ℕ → Bool). option_map_or (λ label. labels label) (own_label c.args.instr.now) false) c.args.self.now.known
