-- The text by which a value is sorted.
use Rattle.std.specs.Prelude.{ℕ, List}
use Rattle.icn_convert.specs.declared.order.SortText.{SortText}
use Rattle.icn_convert.specs.declared.order.SortText.TheVariants.{Bytes, Members}

-- the bytes that are compared: those of a text, or the members of a cset
abbrev pub sorted_by : SortText → List ℕ
sorted_by (Bytes bytes) = bytes.now
sorted_by (Members members) = members
