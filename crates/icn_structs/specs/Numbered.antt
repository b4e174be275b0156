-- Lists whose items have numbers that stay with them.
use Rattle.std.specs.Prelude.{◌-◌, List, [], ◌∷◌, ◌++◌, length, take, slice_get, slice_set, Option, None, ℤ, pos, negsuc, ◌+ℤ◌, ◌-ℤ◌}

-- the items from left to right, and the number of the first; the others follow without a gap
pub record NumberedList (T : Type 0) : Type 0 where
  pub items : List T
  pub number : ℤ

-- the item at this place, which no list has below 0
abbrev pub item_at : {T : Type 0} → List T → ℤ → Option T
item_at items (pos place) = slice_get items place
item_at items (negsuc _) = None

-- the items with another one at this place, if it is a place of theirs
abbrev pub items_with : {T : Type 0} → List T → ℤ → T → List T
items_with items (pos place) item = slice_set items place item
items_with items (negsuc _) item = items

-- the items from the second on, whose number is one more than the first's; nothing leaves an empty list
abbrev pub after_first : {T : Type 0} → List T → ℤ → NumberedList T
after_first [] number = record { items = []; number = number }
after_first (_ ∷ items) number = record { items = items; number = number +ℤ pos 1 }

module _ {T : Type 0} (list : NumberedList T) where
  -- the number that follows the last item's
  abbrev pub number_after : ℤ
  number_after = list.number +ℤ pos (length list.items)

  -- the item with this number
  abbrev pub item_numbered : ℤ → Option T
  item_numbered number = item_at list.items (number -ℤ list.number)

  -- the list with another item under this number, if an item has it
  abbrev pub with_numbered : ℤ → T → NumberedList T
  with_numbered number item =
      record { items = items_with list.items (number -ℤ list.number) item; number = list.number }

  -- the list with one more item at the right
  abbrev pub with_right : T → NumberedList T
  with_right item = record { items = list.items ++ item ∷ []; number = list.number }

  -- the list with one more item at the left, whose number is one less than the first's
  abbrev pub with_left : T → NumberedList T
  with_left item = record { items = item ∷ list.items; number = list.number -ℤ pos 1 }

  -- the item at the left
  abbrev pub leftmost : Option T
  leftmost = slice_get list.items 0

  -- the item at the right
  abbrev pub rightmost : Option T
  rightmost = slice_get list.items (length list.items - 1)

  -- the list without the item at the left
  abbrev pub without_left : NumberedList T
  without_left = after_first list.items list.number

  -- the list without the item at the right
  abbrev pub without_right : NumberedList T
  without_right = record { items = take (length list.items - 1) list.items; number = list.number }
