-- Texts that spell tokens again.
use Rattle.std.specs.Prelude.{◌==◌, ◌≡◌, ◌≤◌, ℕ, Bool, ◌||◌, List, [], ◌∷◌, ◌++◌, length, Some, Ok, if◌then◌else◌}
use Rattle.icn_profile.specs.Bytes.{backslash, double_quote, single_quote, underscore}
use Rattle.icn_profile.specs.Numbers.{most_bytes_of_name}
use Rattle.icn_tree.specs.declared.token.Kind.{Kind}
use Rattle.icn_tree.specs.declared.token.Kind.TheVariants.{Text, Cset}
use Rattle.icn_tree.specs.ByteSets.{members_of}
use Rattle.icn_tree.specs.Tokens.{one_token}

-- `"`, `'`, `\` or `_`
abbrev pub is_special : ℕ → Bool
is_special b = b == double_quote || b == single_quote || b == backslash || b == underscore

-- bytes inside a literal, with a backslash before each special one
abbrev pub with_backslashes : List ℕ → List ℕ
with_backslashes [] = []
with_backslashes (b ∷ rest) = (if is_special b then backslash ∷ b ∷ [] else b ∷ []) ++ with_backslashes rest

-- a text of one token
pub data Spells : Kind → List ℕ → Type 0 where
  bare : (kind : Kind) (text : List ℕ) → one_token text ≡ Some (Ok kind) → Spells kind text
  string : (bytes : List ℕ) → length bytes ≤ most_bytes_of_name
      → Spells (Text bytes) (double_quote ∷ (with_backslashes bytes ++ double_quote ∷ []))
  cset : (bytes : List ℕ) → length bytes ≤ most_bytes_of_name
      → Spells (Cset (members_of bytes)) (single_quote ∷ (with_backslashes bytes ++ single_quote ∷ []))

-- texts of tokens with one blank behind each but the last
pub data SpellsAll : List Kind → List ℕ → Type 0 where
  nothing : SpellsAll [] []
  last : (kind : Kind) (text : List ℕ) → Spells kind text → SpellsAll (kind ∷ []) text
  more : (kind next : Kind) (kinds : List Kind) (text rest : List ℕ) → Spells kind text
      → SpellsAll (next ∷ kinds) rest → SpellsAll (kind ∷ next ∷ kinds) (text ++ 32 ∷ rest)
