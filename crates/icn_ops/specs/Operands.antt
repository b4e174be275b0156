-- Two operands, as the rows of two operands want them.
use Rattle.std.specs.Prelude.{ℕ, ℤ, List, [], ◌∷◌, ◌+◌, length, Result, Some}
use Rattle.std.specs.Ordering.{int_cmp, nat_cmp}
use Rattle.std.specs.Cmp.Lexicographic.{slice_cmp}
use Rattle.std.specs.declared.cmp.Ordering.{Ordering}
use Rattle.icn_text.specs.declared.arithmetic.Arith.{Arith}
use Rattle.icn_value.specs.Members.{members_of}
use Rattle.icn_value.specs.declared.cset.Cset.{Cset}
use Rattle.icn_value.specs.declared.val.Span.{Span}
use Rattle.icn_value.specs.declared.val.Val.{Val}
use Rattle.icn_value.specs.Values.{Value, Integer, Item}
use Rattle.icn_defs.specs.Arguments.{integer, list, number, string}
use Rattle.icn_defs.specs.Conversions.{cset_of}
use Rattle.icn_defs.specs.ReadAndAssign.{the_value}
use Rattle.icn_defs.specs.Rows.{◌>>=◌, ◌>>◌, Row, Finds, number_or_error, costs_text, costs_texts, gives_value, here, fails_unless, present}
use Rattle.icn_defs.specs.Scanning.{stands, tabs_to}
use Rattle.icn_heap.specs.Extents.{Extent, text_in, value_in}

-- the values of two operands
abbrev pub two_values : Item → Item → Finds (Value × Value)
two_values x y next = do
  v ← the_value x
  w ← the_value y
  next (v, w)

-- the integers of two operands
abbrev pub two_numbers : Item → Item → Finds (ℤ × ℤ)
two_numbers x y next = do
  v ← the_value x
  w ← the_value y
  m ← number v
  n ← number w
  next (m, n)

-- the order of the integers of two operands, and the right one
abbrev pub compared_numbers : Item → Item → Finds (Ordering × ℤ)
compared_numbers x y next = two_numbers x y (λ two. next (int_cmp two.0 two.1, two.1))

-- the texts of two operands, which are charged where they are made
abbrev pub two_texts : Item → Item → Finds (List ℕ × List ℕ)
two_texts x y next = do
  v ← the_value x
  w ← the_value y
  s ← string v
  t ← string w
  costs_texts (v ∷ w ∷ [])
  next (s, t)

-- the order of the texts of two operands, and the right one
abbrev pub compared_texts : Item → Item → Finds (Ordering × List ℕ)
compared_texts x y next = two_texts x y (λ two. next (slice_cmp nat_cmp two.0 two.1, two.1))

-- the bytes of two texts
abbrev pub texts_in : Extent → Span × Span → List ℕ × List ℕ
texts_in all two = (text_in all two.0, text_in all two.1)

-- an order, and the bytes of a text
abbrev pub ordered_text_in : Extent → Ordering × Span → Ordering × List ℕ
ordered_text_in all two = (two.0, text_in all two.1)

-- an integer that is computed is given
abbrev pub gives_computed : Result ℤ Arith → Row
gives_computed found = do
  n ← number_or_error found
  gives_value (Integer n)

-- the text of an operand, which is charged where it is made
abbrev pub one_text : Item → Finds (List ℕ)
one_text x next = do
  v ← the_value x
  s ← string v
  costs_text v
  next s

-- the numbers of the lists that two operands are
abbrev pub two_lists : Item → Item → Finds (ℕ × ℕ)
two_lists x y next = do
  v ← the_value x
  w ← the_value y
  first ← list v
  second ← list w
  next (first, second)

-- a text that stands at the position is moved behind
abbrev pub matches_here : List ℕ → Row
matches_here wanted = do
  setting ← here
  let place = setting.world.position
  fails_unless (stands wanted setting.world.subject place (length setting.world.subject + 1))
  tabs_to (place + length wanted)

-- the values of three operands
abbrev pub three_values : Item → Item → Item → Finds (Value × Value × Value)
three_values x y z next = do
  u ← the_value x
  v ← the_value y
  w ← the_value z
  next (u, v, w)

-- the integers of three operands
abbrev pub three_integers : Item → Item → Item → Finds (ℤ × ℤ × ℤ)
three_integers x y z next = do
  u ← the_value x
  v ← the_value y
  w ← the_value z
  first ← integer u
  last ← integer v
  step ← integer w
  next (first, last, step)

-- what three values stand for
abbrev pub three_in : Extent → Val × Val × Val → Value × Value × Value
three_in all three = (value_in all three.0, value_in all three.1, value_in all three.2)

-- the cset of a value, or 120
abbrev pub one_cset : Value → Finds (List ℕ)
one_cset value = present (cset_of value) 120 (Some value)

-- the csets of two values, or 120
abbrev pub two_csets : Value → Value → Finds (List ℕ × List ℕ)
two_csets v w next = do
  a ← one_cset v
  b ← one_cset w
  next (a, b)

-- the members of two csets
abbrev pub csets_in : Cset × Cset → List ℕ × List ℕ
csets_in two = (members_of two.0, members_of two.1)
