-- How many operands an operation has.
use Rattle.std.specs.Prelude.{ℕ}
use Rattle.icn_text.specs.declared.op.Op.{Op}
use Rattle.icn_text.specs.declared.op.Op.TheVariants.{IsNull, IsNotNull, Dereference, Number, Negate, Size, Complement, Elements, Random, TabMatch, Refresh, Add, Subtract, Multiply, Divide, Remainder, Power, Less, LessOrEqual, Equal, GreaterOrEqual, Greater, NotEqual, LexicallyLess, LexicallyLessOrEqual, LexicallyEqual, LexicallyGreaterOrEqual, LexicallyGreater, LexicallyNotEqual, Equivalent, NotEquivalent, Concatenate, ConcatenateLists, Union, Difference, Intersection, Assign, Swap, ReversibleAssign, ReversibleSwap, Subscript, Section, SectionPlus, SectionMinus, ToBy}

-- how many operands an operation takes
abbrev pub arity : Op → ℕ
arity IsNull = 1
arity IsNotNull = 1
arity Dereference = 1
arity Number = 1
arity Negate = 1
arity Size = 1
arity Complement = 1
arity Elements = 1
arity Random = 1
arity TabMatch = 1
arity Refresh = 1
arity Add = 2
arity Subtract = 2
arity Multiply = 2
arity Divide = 2
arity Remainder = 2
arity Power = 2
arity Less = 2
arity LessOrEqual = 2
arity Equal = 2
arity GreaterOrEqual = 2
arity Greater = 2
arity NotEqual = 2
arity LexicallyLess = 2
arity LexicallyLessOrEqual = 2
arity LexicallyEqual = 2
arity LexicallyGreaterOrEqual = 2
arity LexicallyGreater = 2
arity LexicallyNotEqual = 2
arity Equivalent = 2
arity NotEquivalent = 2
arity Concatenate = 2
arity ConcatenateLists = 2
arity Union = 2
arity Difference = 2
arity Intersection = 2
arity Assign = 2
arity Swap = 2
arity ReversibleAssign = 2
arity ReversibleSwap = 2
arity Subscript = 2
arity Section = 3
arity SectionPlus = 3
arity SectionMinus = 3
arity ToBy = 3
