-- Values whose image is the same in every heap, whatever has a name.
use Rattle.std.specs.Prelude.{⊤}
use Rattle.icn_value.specs.declared.val.Val.{Val}
use Rattle.icn_value.specs.declared.val.Val.TheVariants.{Null, Integer, Text, Chars, Std, Proc, Rec, List as ListVal, Set, Table, Coexp}

-- the image of the value needs neither a heap nor names
abbrev pub IsPlain : Val → Type 0
IsPlain Null = ⊤
IsPlain (Integer n) = ⊤
IsPlain (Text span) = ⊥
IsPlain (Chars cset) = ⊤
IsPlain (Std file) = ⊥
IsPlain (Proc number) = ⊥
IsPlain (Rec id) = ⊥
IsPlain (ListVal id) = ⊥
IsPlain (Set id) = ⊥
IsPlain (Table id) = ⊥
IsPlain (Coexp id) = ⊥
