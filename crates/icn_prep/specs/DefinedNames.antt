-- The names that are defined.
use Rattle.std.specs.Prelude.{ℕ, ◌+◌, ◌-◌, List, Option, None, Some}
use Rattle.std.specs.Map.{update}
use Rattle.std.specs.Str.{bytes_eq}

-- the text of each name that has one
abbrev pub TextOf : Type 0
TextOf = List ℕ → Option (List ℕ)

-- how many names have a text, and what texts
pub record Texts : Type 0 where
  pub count : ℕ
  pub text_of : TextOf

-- no name is defined
abbrev pub no_texts : Texts
no_texts = record { count = 0; text_of = λ _. None }

-- a name has no text
abbrev pub without : TextOf → List ℕ → TextOf
without texts name = update bytes_eq texts name None

-- a name that had none gets a text
abbrev pub with_text : Texts → List ℕ → List ℕ → Texts
with_text texts name text =
    record { count = texts.count + 1; text_of = update bytes_eq texts.text_of name (Some text) }

-- a name that had this text, or none, has none
abbrev pub undefined_by : Texts → List ℕ → Option (List ℕ) → Texts
undefined_by texts name None = texts
undefined_by texts name (Some text) = record { count = texts.count - 1; text_of = without texts.text_of name }

-- a name has no text any more
abbrev pub without_text : Texts → List ℕ → Texts
without_text texts name = undefined_by texts name (texts.text_of name)
