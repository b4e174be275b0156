-- The operations that want values.
use Rattle.std.specs.Prelude.{◌+◌, ◌&&◌, ◌||◌, ℕ, pos, Bool, not, List, [], ◌∷◌, ◌++◌, length, filter, Option, None, Some}
use Rattle.std.specs.Ordering.{nat_cmp, is_lt, is_le, is_eq, is_ge, is_gt, is_ne}
use Rattle.std.specs.Cmp.Lexicographic.{slice_cmp}
use Rattle.icn_value.specs.Values.{Value, Integer, Text, Chars, ASet, Item}
use Rattle.icn_value.specs.Store.{list_at, set_at}
use Rattle.icn_defs.specs.Conversions.{contains, members, cset_of, is_null, size_of, same, has_value}
use Rattle.icn_defs.specs.Rows.{Row, Finds, ◌>>=◌, ◌>>◌, gives, gives_value, present, fails_unless, here, changes_heap, costs_cells, costs_texts, builds, gives_list}
use Rattle.icn_defs.specs.ReadAndAssign.{the_value}
use Rattle.icn_defs.specs.Arguments.{string, cset, list, set_of}

-- Null and size

-- `/x`: x itself where it is null
abbrev pub is_null_row : Item → Row
is_null_row x = do
  v ← the_value x
  fails_unless (is_null v)
  gives x

-- `\x`: x itself where it is not null
abbrev pub is_not_null_row : Item → Row
is_not_null_row x = do
  v ← the_value x
  fails_unless (not (is_null v))
  gives x

-- `.x`: the value
abbrev pub dereference_row : Item → Row
dereference_row x = do
  v ← the_value x
  gives_value v

-- `*x`
abbrev pub size_row : Item → Row
size_row x = do
  v ← the_value x
  setting ← here
  size ← present (size_of setting.world.heap v) 112 (Some v)
  gives_value (Integer (pos size))

-- `~c`
abbrev pub complement_row : Item → Row
complement_row x = do
  v ← the_value x
  bytes ← cset v
  gives_value (Chars (members (λ byte. not (contains bytes byte))))

-- Comparisons

-- a comparison of two texts: the right string, or it fails
abbrev pub text_comparison_row : (List ℕ → List ℕ → Bool) → Item → Item → Row
text_comparison_row test x y = do
  v ← the_value x
  w ← the_value y
  s ← string v
  t ← string w
  costs_texts (v ∷ w ∷ [])
  fails_unless (test s t)
  gives_value (Text t)

-- `s << t`
abbrev pub lexically_less_row : Item → Item → Row
lexically_less_row x y = text_comparison_row (λ s t. is_lt (slice_cmp nat_cmp s t)) x y

-- `s <<= t`
abbrev pub lexically_less_or_equal_row : Item → Item → Row
lexically_less_or_equal_row x y = text_comparison_row (λ s t. is_le (slice_cmp nat_cmp s t)) x y

-- `s == t`
abbrev pub lexically_equal_row : Item → Item → Row
lexically_equal_row x y = text_comparison_row (λ s t. is_eq (slice_cmp nat_cmp s t)) x y

-- `s >>= t`
abbrev pub lexically_greater_or_equal_row : Item → Item → Row
lexically_greater_or_equal_row x y = text_comparison_row (λ s t. is_ge (slice_cmp nat_cmp s t)) x y

-- `s >> t`
abbrev pub lexically_greater_row : Item → Item → Row
lexically_greater_row x y = text_comparison_row (λ s t. is_gt (slice_cmp nat_cmp s t)) x y

-- `s ~== t`
abbrev pub lexically_not_equal_row : Item → Item → Row
lexically_not_equal_row x y = text_comparison_row (λ s t. is_ne (slice_cmp nat_cmp s t)) x y

-- a test of whether two values are equal: the right value, or it fails
abbrev pub equivalence_row : (Bool → Bool) → Item → Item → Row
equivalence_row test x y = do
  v ← the_value x
  w ← the_value y
  fails_unless (test (same v w))
  gives_value w

-- `x === y`
abbrev pub equivalent_row : Item → Item → Row
equivalent_row x y = equivalence_row (λ b. b) x y

-- `x ~=== y`
abbrev pub not_equivalent_row : Item → Item → Row
not_equivalent_row x y = equivalence_row not x y

-- Putting together

-- `s || t`
abbrev pub concatenate_row : Item → Item → Row
concatenate_row x y = do
  v ← the_value x
  w ← the_value y
  s ← string v
  t ← string w
  costs_texts (v ∷ w ∷ [])
  builds (s ++ t)

-- `L ||| M`
abbrev pub concatenate_lists_row : Item → Item → Row
concatenate_lists_row x y = do
  v ← the_value x
  w ← the_value y
  first ← list v
  second ← list w
  setting ← here
  gives_list ((list_at setting.world.heap first).items ++ (list_at setting.world.heap second).items)

-- the numbers of two sets, where both are sets
abbrev pub two_sets : Option ℕ → Option ℕ → Option (ℕ × ℕ)
two_sets None other = None
two_sets (Some first) None = None
two_sets (Some first) (Some second) = Some (first, second)

-- a new set of these members, which are all different
abbrev pub new_set_of : List Value → Finds Value
new_set_of items next = do
  costs_cells (1 + length items)
  setting ← here
  let sets = setting.world.heap.sets
  changes_heap (λ heap. record heap { sets = heap.sets ++ items ∷ [] })
  next (ASet (length sets))

-- two sets give a new set, of the members of the first and then of the second; others give a cset, 120
abbrev pub sets_or_csets : (List Value → List Value → List Value) → (Bool → Bool → Bool) → Value → Value
    → Option (ℕ × ℕ) → Row
sets_or_csets on_sets on_bytes v w (Some ids) = do
  setting ← here
  result ← new_set_of (on_sets (set_at setting.world.heap ids.0) (set_at setting.world.heap ids.1))
  gives_value result
sets_or_csets on_sets on_bytes v w None = do
  a ← present (cset_of v) 120 (Some v)
  b ← present (cset_of w) 120 (Some w)
  gives_value (Chars (members (λ byte. on_bytes (contains a byte) (contains b byte))))

-- an operation on two sets or two csets
abbrev pub set_row : (List Value → List Value → List Value) → (Bool → Bool → Bool) → Item → Item → Row
set_row on_sets on_bytes x y = do
  v ← the_value x
  w ← the_value y
  sets_or_csets on_sets on_bytes v w (two_sets (set_of v) (set_of w))

-- the members that are in another set
abbrev pub intersection : List Value → List Value → List Value
intersection first second = filter (has_value second) first

-- the members that are not in another set
abbrev pub difference : List Value → List Value → List Value
difference first second = filter (λ value. not (has_value second value)) first

-- `x ++ y`
abbrev pub union_row : Item → Item → Row
union_row x y = set_row (λ first second. first ++ difference second first) ◌||◌ x y

-- `x -- y`
abbrev pub difference_row : Item → Item → Row
difference_row x y = set_row difference (λ a b. a && not b) x y

-- `x ** y`
abbrev pub intersection_row : Item → Item → Row
intersection_row x y = set_row intersection ◌&&◌ x y
