use Rattle.std.proofs.Common.{◌∙◌, ◌++◌, List, ℕ, take, reverse, ap, arith}
use Rattle.std.proofs.lemmas.List.{take_rest}
use Rattle.icn_strings.proofs.AddedBytes.{end_put}
use Rattle.icn_strings.proofs.chunk.reverse_end.Goals as goal

pub returns-clause-bytes : goal.returns-clause-bytes
returns-clause-bytes c =
    let old = c.args.bytes.now in
    end_put old c.reverse.new.self c.args.kept _ (omega arith)
    ∙ ap (λ (ys : List ℕ). take c.args.kept old ++ ys)
    (c.reverse.ensures.after ∙ ap (λ (ys : List ℕ). reverse ys) (take_rest old c.args.kept))
