use Rattle.std.proofs.Common.{◌≡◌, false, [], ◌∷◌, refl}
use Rattle.icn_tree.specs.declared.token.Kind.TheVariants.{Word as WordKind}
use Rattle.icn_tree.specs.declared.token.Word.{Word}
use Rattle.icn_tree.specs.declared.token.Word.TheVariants.{By, Do, Else, Of, Then, To}
use Rattle.icn_tree.specs.Semicolons.{is_beginner}
use Rattle.icn_tree.proofs.KeptByScans.{all_none, all_next, cut_before, cut_behind}
use Rattle.icn_tree.proofs.token_laws.semicolons_inserted.Goals as goal

pub returns-clause-before : goal.returns-clause-before
returns-clause-before c = cut_before

pub returns-clause-behind : goal.returns-clause-behind
returns-clause-behind c = cut_behind

pub returns-clause-words : goal.returns-clause-words
unfolding is_beginner
returns-clause-words c =
    let begins_none = λ (word : Word). is_beginner (WordKind word) ≡ false in
    all_next begins_none Then
    (Do ∷ Of ∷ To ∷ By ∷ Else ∷ []) refl (all_next begins_none Do (Of ∷ To ∷ By ∷ Else ∷ []) refl (all_next begins_none Of (To ∷ By ∷ Else ∷ []) refl
    (all_next begins_none To (By ∷ Else ∷ []) refl (all_next begins_none By (Else ∷ []) refl (all_next begins_none Else [] refl (all_none begins_none))))))
