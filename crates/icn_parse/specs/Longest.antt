-- What reading an expression gives, by the grammar.
use Rattle.std.specs.Prelude.{◌≡◌, ℕ, ◌≤◌, false, ◌&&◌, List, Some}
use Rattle.icn_tree.specs.declared.token.Token.{Token}
use Rattle.icn_tree.specs.Grammar.{Part, Spells}
use Rattle.icn_tree.specs.Levels.{goes_on, is_present}
use Rattle.icn_tree.specs.Phrases.{next}
use Rattle.icn_tree.specs.Trees.{Tree}
use Rattle.icn_expr.specs.Automata.{climbing_level}
use Rattle.icn_expr.specs.Capped.{WithHeight, builds_with_height, capped_at}
use Rattle.icn_expr.specs.Heights.{height}
use Rattle.icn_expr.specs.Reading.{expression_read}

-- the token behind an expression of this level does not go on with it, so that no longer one stands there
abbrev pub IsLongest : ℕ → Tree → List Token → Type 0
IsLongest level tree after = (goes_on (climbing_level level) (next after) && is_present tree) ≡ false

-- an expression by the grammar that is the longest is what is read; one that is too high is read without its tree
abbrev pub ReadsLongest : Type 0
ReadsLongest = (level : ℕ) (tree : Tree) (here after : List Token) → Part level tree (Spells tree) here after
    → IsLongest level tree after
    → expression_read builds_with_height level here ≡ Some (capped_at tree (height tree), after)

-- what is read is an expression by the grammar, and the longest
abbrev pub ReadsByGrammar : Type 0
ReadsByGrammar = (level : ℕ) (here after : List Token) (value : WithHeight Tree) → level ≤ 12
    → expression_read builds_with_height level here ≡ Some (value, after)
    → (tree : Tree) × Part level tree (Spells tree) here after × IsLongest level tree after
    × (value ≡ capped_at tree (height tree))
