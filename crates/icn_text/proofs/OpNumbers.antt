-- Each operation stands in the list of all at the place of its number; the rest is said of that list.
use Rattle.std.proofs.Common.{◌≡◌, ◌-◌, Bool, true, false, eqb, Option, Some, refl, get_or, lit<}
use Rattle.std.specs.List.{list_all}
use Rattle.std.specs.Option.{option_map_or}
use Rattle.icn_text.specs.declared.op.Op.{Op}
use Rattle.icn_text.specs.declared.op.Op.TheVariants.{IsNull, IsNotNull, Dereference, Number, Negate, Size, Complement, Elements, Random, TabMatch, Refresh, Add, Subtract, Multiply, Divide, Remainder, Power, Less, LessOrEqual, Equal, GreaterOrEqual, Greater, NotEqual, LexicallyLess, LexicallyLessOrEqual, LexicallyEqual, LexicallyGreaterOrEqual, LexicallyGreater, LexicallyNotEqual, Equivalent, NotEquivalent, Concatenate, ConcatenateLists, Union, Difference, Intersection, Assign, Swap, ReversibleAssign, ReversibleSwap, Subscript, Section, SectionPlus, SectionMinus, ToBy}
use Rattle.icn_text.specs.declared.op.TheConstants.Op.{ALL}
use Rattle.icn_text.specs.Ops.{op_number}
use Rattle.icn_text.proofs.Listed as listed

op_at : (any default : Op) → get_or ALL (op_number any - 1) default ≡ any
op_at IsNull default = refl
op_at IsNotNull default = refl
op_at Dereference default = refl
op_at Number default = refl
op_at Negate default = refl
op_at Size default = refl
op_at Complement default = refl
op_at Elements default = refl
op_at Random default = refl
op_at TabMatch default = refl
op_at Refresh default = refl
op_at Add default = refl
op_at Subtract default = refl
op_at Multiply default = refl
op_at Divide default = refl
op_at Remainder default = refl
op_at Power default = refl
op_at Less default = refl
op_at LessOrEqual default = refl
op_at Equal default = refl
op_at GreaterOrEqual default = refl
op_at Greater default = refl
op_at NotEqual default = refl
op_at LexicallyLess default = refl
op_at LexicallyLessOrEqual default = refl
op_at LexicallyEqual default = refl
op_at LexicallyGreaterOrEqual default = refl
op_at LexicallyGreater default = refl
op_at LexicallyNotEqual default = refl
op_at Equivalent default = refl
op_at NotEquivalent default = refl
op_at Concatenate default = refl
op_at ConcatenateLists default = refl
op_at Union default = refl
op_at Difference default = refl
op_at Intersection default = refl
op_at Assign default = refl
op_at Swap default = refl
op_at ReversibleAssign default = refl
op_at ReversibleSwap default = refl
op_at Subscript default = refl
op_at Section default = refl
op_at SectionPlus default = refl
op_at SectionMinus default = refl
op_at ToBy default = refl

-- what all of the list pass is passed by each
pub every_op : (test : Op → Bool) → list_all test ALL ≡ true → (any : Op) → test any ≡ true
every_op = listed.each_passes op_number ALL (lit< tt) op_at

-- what is found under the number of one is this one
pub op_found : (found : Option Op) (any : Op) → option_map_or (λ x. eqb (op_number x) (op_number any)) found false ≡ true → found ≡ Some any
op_found = listed.found_again op_number ALL (lit< tt) op_at
