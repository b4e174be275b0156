-- Whether two keys are equal.
use Rattle.std.specs.Prelude.{◌==◌, Bool, true, false}
use Rattle.std.specs.Ordering.{int_eq}
use Rattle.std.specs.Str.{bytes_eq}
use Rattle.icn_value.specs.Sameness.{file_rank}
use Rattle.icn_heap.specs.Keys.{file_of}
use Rattle.icn_heap.specs.declared.key.Key.{Key}
use Rattle.icn_heap.specs.declared.key.Key.TheVariants.{Null, Integer, Text, Chars, Std, Proc, Rec, List, Set, Table, Coexp}

-- by what the keys hold
unfoldable pub key_eq : Key → Key → Bool
key_eq Null Null = true
key_eq (Integer a) (Integer b) = int_eq a b
key_eq (Text a) (Text b) = bytes_eq a.items b.items
key_eq (Chars a) (Chars b) = bytes_eq a.words b.words
key_eq (Std a) (Std b) = file_rank (file_of a) == file_rank (file_of b)
key_eq (Proc a) (Proc b) = a == b
key_eq (Rec a) (Rec b) = a == b
key_eq (List a) (List b) = a == b
key_eq (Set a) (Set b) = a == b
key_eq (Table a) (Table b) = a == b
key_eq (Coexp a) (Coexp b) = a == b
key_eq a b = false
