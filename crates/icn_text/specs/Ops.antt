-- The numbers of the operations.
use Rattle.std.specs.Prelude.{ℕ}
use Rattle.icn_text.specs.declared.op.Op.{Op}
use Rattle.icn_text.specs.declared.op.Op.TheVariants.{IsNull, IsNotNull, Dereference, Number, Negate, Size, Complement, Elements, Random, TabMatch, Refresh, Add, Subtract, Multiply, Divide, Remainder, Power, Less, LessOrEqual, Equal, GreaterOrEqual, Greater, NotEqual, LexicallyLess, LexicallyLessOrEqual, LexicallyEqual, LexicallyGreaterOrEqual, LexicallyGreater, LexicallyNotEqual, Equivalent, NotEquivalent, Concatenate, ConcatenateLists, Union, Difference, Intersection, Assign, Swap, ReversibleAssign, ReversibleSwap, Subscript, Section, SectionPlus, SectionMinus, ToBy}

-- the number of an operation, by which ucode and images have it
abbrev pub op_number : Op → ℕ
op_number IsNull = 1
op_number IsNotNull = 2
op_number Dereference = 3
op_number Number = 4
op_number Negate = 5
op_number Size = 6
op_number Complement = 7
op_number Elements = 8
op_number Random = 9
op_number TabMatch = 10
op_number Refresh = 11
op_number Add = 12
op_number Subtract = 13
op_number Multiply = 14
op_number Divide = 15
op_number Remainder = 16
op_number Power = 17
op_number Less = 18
op_number LessOrEqual = 19
op_number Equal = 20
op_number GreaterOrEqual = 21
op_number Greater = 22
op_number NotEqual = 23
op_number LexicallyLess = 24
op_number LexicallyLessOrEqual = 25
op_number LexicallyEqual = 26
op_number LexicallyGreaterOrEqual = 27
op_number LexicallyGreater = 28
op_number LexicallyNotEqual = 29
op_number Equivalent = 30
op_number NotEquivalent = 31
op_number Concatenate = 32
op_number ConcatenateLists = 33
op_number Union = 34
op_number Difference = 35
op_number Intersection = 36
op_number Assign = 37
op_number Swap = 38
op_number ReversibleAssign = 39
op_number ReversibleSwap = 40
op_number Subscript = 41
op_number Section = 42
op_number SectionPlus = 43
op_number SectionMinus = 44
op_number ToBy = 45
