-- A value that becomes a text is charged for the bytes that are made.
use Rattle.std.specs.Prelude.{◌≡◌, ℕ, List, length, Option, None, Some, Ok}
use Rattle.icn_value.specs.Values.{Value}
use Rattle.icn_value.specs.Store.{Heap}
use Rattle.icn_value.specs.Changes.{ChangedHeap, charged_strings}
use Rattle.icn_defs.specs.Conversions.{form_of, text_made}

-- a text that is made costs its length
abbrev pub charged_made : Heap → Option (List ℕ) → ChangedHeap
charged_made heap None = Ok heap
charged_made heap (Some text) = charged_strings heap (length text)

-- the heap once a value is a text: one that was none is made, and charged
abbrev pub heap_with_text : Heap → Value → ChangedHeap
heap_with_text heap value = charged_made heap (text_made (form_of value))

-- no text is made for a value: it is a text, or it has none
abbrev pub MakesNoText : Value → Type 0
MakesNoText value = text_made (form_of value) ≡ None
