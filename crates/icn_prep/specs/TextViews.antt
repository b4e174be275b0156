-- What a map of texts has for each name.
use Rattle.std.specs.Prelude.{ℕ, Vec}
use Rattle.std.specs.Option.{option_map}
use Rattle.std.specs.Str.{bytes_eq}
use Rattle.indexmap.specs.IndexMap.{IndexMap, get_by, index_map_len}
use Rattle.icn_prep.specs.declared.texts.Texts.{Texts as TextMap}
use Rattle.icn_prep.specs.DefinedNames.{Texts}

-- how many texts a map has, and the text of each name
abbrev pub texts_in : {Y Z S : Type 0} → IndexMap (Vec ℕ Y) (Vec ℕ Z) S → Texts
texts_in m = record {
  count = index_map_len m;
  text_of = λ name. option_map (λ text. text.items) (get_by (λ key. bytes_eq name key.items) m);
}

-- the defined names with their texts
abbrev pub texts_of : TextMap → Texts
texts_of t = texts_in t.texts
