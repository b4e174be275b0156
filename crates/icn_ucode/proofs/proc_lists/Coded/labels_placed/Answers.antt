use Rattle.std.proofs.Common.{ℕ, Bool, true, ◌∙◌, ap}
use Rattle.std.specs.List.{list_all}
use Rattle.std.specs.Option.{option_map_or}
use Rattle.icn_unit.specs.UnitRules.{label_in}
use Rattle.icn_ucode.proofs.proc_lists.Coded.labels_placed.Goals as goal

pub returns : goal.returns
returns c =
    rw c.deref.ensures.value at c.are_known.ensures
    ∙ ap (λ (labels : ℕ → Bool). list_all (λ instr. option_map_or (λ label. labels label) (label_in instr) true) c.args.self.now.proc.instrs.items)
    c.args.self.now.known
