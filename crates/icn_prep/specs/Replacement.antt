-- A line with its defined words replaced.
use Rattle.std.specs.Prelude.{ℕ, zero, suc, Bool, false, List, [], ◌∷◌, ◌++◌, take, Option, None, Some, if◌then◌else◌}
use Rattle.std.specs.List.{prefix_len}
use Rattle.icn_prep.specs.declared.literal.LiteralState.{LiteralState}
use Rattle.icn_prep.specs.declared.literal.LiteralState.TheVariants.{Outside, Inside, Joining, Escape, Control, Comment}
use Rattle.icn_prep.specs.LiteralStates.{after}
use Rattle.icn_prep.specs.DefinedNames.{TextOf, without}
use Rattle.icn_tree.specs.Characters.{continues_identifier}

-- the bytes that came of a text, and how the byte behind it stands
pub record ReplacedText : Type 0 where
  pub bytes : List ℕ
  pub state : LiteralState

-- these bytes, and then what was read
abbrev pub behind : List ℕ → ReplacedText → ReplacedText
behind front read = record { bytes = front ++ read.bytes; state = read.state }

-- a word begins at a byte of a word outside literals and comments
abbrev pub begins_word : LiteralState → ℕ → Bool
begins_word Outside b = continues_identifier b
begins_word (Inside quote) b = false
begins_word (Joining quote) b = false
begins_word (Escape quote) b = false
begins_word (Control quote) b = false
begins_word Comment b = false

-- a word that is not replaced
abbrev pub as_it_stands : List ℕ → ReplacedText
as_it_stands word = record { bytes = word; state = Outside }

-- A text in which each word becomes what it is replaced by. The first `taken` bytes belong to a word that was replaced.
abbrev pub read_from : (List ℕ → ReplacedText) → ℕ → LiteralState → List ℕ → ReplacedText
read_from becomes taken state [] = record { bytes = []; state = state }
read_from becomes (suc n) state (b ∷ rest) = read_from becomes n state rest
read_from becomes zero state (b ∷ rest) =
    let count = prefix_len continues_identifier rest in
    let word = becomes (b ∷ take count rest) in
    if begins_word state b then behind word.bytes (read_from becomes count word.state rest)
    else behind (b ∷ []) (read_from becomes zero (after state b) rest)

-- a word is replaced by its text, which is read with that word switched off
abbrev pub word_read : (TextOf → LiteralState → List ℕ → ReplacedText) → TextOf → List ℕ → Option (List ℕ)
    → ReplacedText
word_read reads texts word None = as_it_stands word
word_read reads texts word (Some text) = reads (without texts word) Outside text

-- A text with its defined words replaced, where at most so many names have a text.
abbrev pub replace_words : ℕ → TextOf → LiteralState → List ℕ → ReplacedText
replace_words zero texts = read_from as_it_stands zero
replace_words (suc n) texts = read_from (λ word. word_read (replace_words n) texts word (texts word)) zero
