-- Files that break no rule.
use Rattle.std.specs.Prelude.{◌≡◌, List, []}
use Rattle.icn_tree.specs.Trees.{Declaration}
use Rattle.icn_decls.specs.Faults.{context_faults}
use Rattle.icn_decls.specs.CheckedTexts.{IsSpelled}

-- The file is the tree of tokens as the scanner gives them, has no unknown keyword and no form that is not
-- in this profile, and breaks no
-- context rule.
pub record IsFaultless (file : List Declaration) : Type 0 where
  pub spelled : ∥ IsSpelled file ∥₁
  pub context : context_faults file ≡ []
