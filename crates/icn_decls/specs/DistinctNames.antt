-- Names of which no two have one text.
use Rattle.std.specs.Prelude.{◌≡◌, false, List, [], ◌∷◌}
use Rattle.std.specs.Str.{bytes_eq}
use Rattle.icn_tree.specs.declared.tree.Name.{Name}
use Rattle.icn_tree.specs.NameSets.{NameTest}

-- none of them was met
abbrev pub NoneMet : NameTest → List Name → Type 0
NoneMet met [] = Unit {0}
NoneMet met (name ∷ names) = (met name.text ≡ false) × NoneMet met names

-- the text of each is none of those behind it
abbrev pub Once : List Name → Type 0
Once [] = Unit {0}
Once (name ∷ names) = NoneMet (bytes_eq name.text) names × Once names
