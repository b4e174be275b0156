-- How a text is laid out in a field.
use Rattle.std.specs.Prelude.{ℕ, List, ◌++◌, drop, replicate, take}
use Rattle.icn_strings.specs.RepeatedBytes.{filled_left, filled_right}
use Rattle.icn_defs.specs.Strings.{center_text, left_text, right_text}
use Rattle.icn_strfn.specs.declared.layouts.Field.{Field}
use Rattle.icn_strfn.specs.declared.layouts.Layout.{Layout}
use Rattle.icn_strfn.specs.declared.layouts.Layout.TheVariants.{Left, Right, Center}

-- a text in a field of so many bytes, filled with another text
abbrev pub laid_out : Layout → List ℕ → ℕ → List ℕ → List ℕ
laid_out Left = left_text
laid_out Right = right_text
laid_out Center = center_text

-- a part of a text, with filled bytes before it and behind it
abbrev pub in_field : Field → List ℕ → List ℕ → List ℕ
in_field field text fill =
    filled_left field.before fill ++ (take field.len (drop field.from text) ++ filled_right field.behind fill)

-- so many blanks
abbrev pub blanks : ℕ → List ℕ
blanks count = replicate count 32
