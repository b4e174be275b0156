-- What exchanging two variables comes to.
use Rattle.std.proofs.Common.{◌≡◌, ◌∙◌, refl, sym, ap, subst, ℕ, ◌+◌, ◌-◌, ◌<◌, ◌≤◌, nat_le, List, length, Option, None, Some, Result, Ok, Err, arith}
use Rattle.std.specs.Prelude.{IsErrAnd, ◌^◌, ⊤}
use Rattle.std.proofs.lemmas.Bool.{lt-leb, lt-ltb}
use Rattle.icn_value.specs.declared.item.VarRef.{VarRef}
use Rattle.icn_value.specs.declared.item.VarRef.TheVariants.{Whole as HeldWhole, Part as HeldPart}
use Rattle.icn_value.specs.Values.{Value, Null, Integer, Text, Chars, Std, Procedure, ARecord, AList, ASet, ATable, ACoexp, Root, Variable, Part}
use Rattle.icn_value.specs.Store.{Setting}
use Rattle.icn_defs.specs.Calls.{ComesTo, GoesOn}
use Rattle.icn_defs.specs.Conversions.{held_text, text_of}
use Rattle.icn_defs.specs.RowFacts.{can_hold}
use Rattle.icn_defs.specs.ReadAndAssign.{undoes_exchange, assigns_both, assigns_or, assigns_root, move_part, moved_by_left, moved_by_right, part_length, reads_text, with_part, root_value}
use Rattle.icn_defs.specs.Rows.{Row, Finds, Error, Mover, Neither, Left, Right, check, costs_bytes, costs_text, present, wrong}
use Rattle.icn_heap.specs.Extents.{Extent}
use Rattle.icn_vars.specs.declared.stop.Stop.{Stop}
use Rattle.icn_vars.specs.declared.stop.Stop.TheVariants.{Error as StopError, NoMemory}
use Rattle.icn_vars.specs.declared.assignment.Exchange.{Exchange}
use Rattle.icn_vars.specs.declared.assignment.Exchange.TheVariants.{Done as ExchangeDone, OutOfRange as ExchangeOutOfRange}
use Rattle.icn_vars.specs.Assignments.{ExchangesAs, HoldAlike, HoldsShort, IsBehind, assigns_moved, assigns_right}
use Rattle.icn_vars.specs.Stops.{StopsFinding, StopsPassing}
use Rattle.icn_vars.specs.Worlds.{IsShort, root_in, variable_in}

-- Beyond a text, a part is as good as another

unread_by : (p q size : ℕ) (found : Option Value) (k k' : List ℕ → Row) (s : Setting) → ((text : List ℕ) → found ≡ Some (Text text) → length text < p - 1)
    → ((text : List ℕ) → found ≡ Some (Text text) → length text < q - 1)
    → present found 205 None (λ value. present (held_text value) 103 (Some value) (λ text. check (nat_le (p - 1 + size) (length text)) 205 None (k text))) s
    ≡ present found 205 None (λ value. present (held_text value) 103 (Some value) (λ text. check (nat_le (q - 1 + size) (length text)) 205 None (k' text))) s
unread_by p q size None k k' s one two = refl
unread_by p q size (Some Null) k k' s one two = refl
unread_by p q size (Some (Integer n)) k k' s one two = refl
unread_by p q size (Some (Chars bytes)) k k' s one two = refl
unread_by p q size (Some (Std file)) k k' s one two = refl
unread_by p q size (Some (Procedure n)) k k' s one two = refl
unread_by p q size (Some (ARecord id)) k k' s one two = refl
unread_by p q size (Some (AList id)) k k' s one two = refl
unread_by p q size (Some (ASet id)) k k' s one two = refl
unread_by p q size (Some (ATable id)) k k' s one two = refl
unread_by p q size (Some (ACoexp id)) k k' s one two = refl
unread_by p q size (Some (Text text)) k k' s one two =
    let low : length text < p - 1 + size = (let bound = one text refl in omega arith) in
    let low' : length text < q - 1 + size = (let bound = two text refl in omega arith) in
    ap (λ t. check t 205 None (k text) s) (lt-leb (p - 1 + size) (length text) low)
    ∙ sym (ap (λ t. check t 205 None (k' text) s) (lt-leb (q - 1 + size) (length text) low'))

-- two parts that begin beyond the text that their variable holds are assigned to in the same way: in none
pub far_same : (refused : Row) (root : Root) (p q size : ℕ) (value : Value) (next next' : Variable → Row) (s : Setting)
    → ((text : List ℕ) → root_value s root ≡ Some (Text text) → length text < p - 1)
    → ((text : List ℕ) → root_value s root ≡ Some (Text text) → length text < q - 1)
    → assigns_or refused (Part root p size) value next s ≡ assigns_or refused (Part root q size) value next' s
far_same refused root p q size value next next' s one two = by (text_of value)
  where
    by : (found : Option (List ℕ))
        → present found 103 (Some value) (λ (new : List ℕ). reads_text root p size (λ text. costs_text value
        (costs_bytes (length (with_part text p size new)) (assigns_root refused root (Text (with_part text p size new)) (next (Part root p (length new))))))) s
        ≡ present found 103 (Some value) (λ (new : List ℕ). reads_text root q size (λ text. costs_text value
        (costs_bytes (length (with_part text q size new)) (assigns_root refused root (Text (with_part text q size new)) (next' (Part root q (length new))))))) s
    by None = refl
    by (Some new) =
        unread_by p q size (root_value s root)
        (λ text. costs_text value
        (costs_bytes (length (with_part text p size new)) (assigns_root refused root (Text (with_part text p size new)) (next (Part root p (length new))))))
        (λ text. costs_text value
        (costs_bytes (length (with_part text q size new)) (assigns_root refused root (Text (with_part text q size new)) (next' (Part root q (length new))))))
        s one two

-- Stops within a row

pub stops_within : {A B : Type 0} (all : Extent) (find : Finds A) (rest : A → Finds B) (s t : Setting) (stop : Stop) → StopsFinding all find s t stop
    → StopsFinding all (λ next. find (λ thing. rest thing next)) s t stop
stops_within all find rest s t (StopError number offending) is = λ next. is (λ thing. rest thing next)
stops_within all find rest s t NoMemory is = tt

pub stops_behind : {A B : Type 0} (all : Extent) (find : Finds A) (thing : A) (rest : A → Finds B) (s t u : Setting) (stop : Stop) → GoesOn find s thing t
    → StopsFinding all (rest thing) t u stop
    → StopsFinding all (λ next. find (λ thing. rest thing next)) s u stop
stops_behind all find thing rest s t u (StopError number offending) first is = λ next. first (λ thing. rest thing next) ∙ is next
stops_behind all find thing rest s t u NoMemory first is = tt

-- an exchange goes on as another one, of which this is the answer
pub exchange_then : (all : Extent) (row other : Row → Finds (Variable × Variable)) (s t u : Setting) (result : Result Exchange Stop)
    → ((refused : Row) (next : Variable × Variable → Row) → row refused next s ≡ other refused next t) → ExchangesAs all other t u result
    → ExchangesAs all row s u result
exchange_then all row other s t u (Ok (ExchangeDone left right)) same is = λ refused next. same refused next ∙ is refused next
exchange_then all row other s t u (Ok ExchangeOutOfRange) same is = λ refused next. same refused next ∙ is refused next
exchange_then all row other s t u (Err (StopError number offending)) same is = λ refused next. same refused next ∙ is refused next
exchange_then all row other s t u (Err NoMemory) same is = λ refused. tt

-- Which sides stay

-- the left side is not the mover
abbrev pub IsStaying : Mover → Type 0
IsStaying Neither = ⊤
IsStaying Left = ⊥
IsStaying Right = ⊤

-- the right side is not the mover
abbrev pub IsResting : Mover → Type 0
IsResting Neither = ⊤
IsResting Left = ⊤
IsResting Right = ⊥

staying : (mover : Mover) → IsStaying mover → (old new : ℕ) (y : Variable) (next : Variable → Row) (s : Setting)
    → moved_by_left mover old new y next s ≡ next y s
staying Neither is old new y next s = refl
staying Left is old new y next s = absurd is
staying Right is old new y next s = refl

resting : (mover : Mover) → IsResting mover → (old new : ℕ) (x : Variable) (next : Variable → Row) (s : Setting)
    → moved_by_right mover old new x next s ≡ next x s
resting Neither is old new x next s = refl
resting Left is old new x next s = refl
resting Right is old new x next s = absurd is

-- Where exchanges stop, and what they stand for

pub exchange_err : (all : Extent) (assigns : Row → Finds (Variable × Variable)) (s t : Setting) (stop : Stop) (result : Result Exchange Stop)
    → IsErrAnd result (λ other. other ≡ stop)
    → ((refused : Row) → StopsFinding all (assigns refused) s t stop) → ExchangesAs all assigns s t result
exchange_err all assigns s t stop (Ok done) same is = absurd same
exchange_err all assigns s t stop (Err other) same is = λ refused. subst (StopsFinding all (assigns refused) s t) (sym same) (is refused)

-- The left side

module _ (all : Extent) (mover : Mover) (x y : Variable) (to_x to_y : Value) (s t : Setting) where
  pub left_stops : (stop : Stop) → ((refused : Row) → StopsFinding all (assigns_or refused x to_x) s t stop)
      → (refused : Row) → StopsFinding all (assigns_both refused mover x y to_x to_y) s t stop
  left_stops (StopError number offending) is refused = λ next.
      is refused (λ x_now. moved_by_left mover (part_length x) (part_length x_now) y (λ y_moved. assigns_right refused mover x_now y_moved to_y next))
  left_stops NoMemory is refused = tt

  pub left_refused : ((refused : Row) (next : Variable → Row) → assigns_or refused x to_x next s ≡ refused t)
      → (refused : Row) (next : Variable × Variable → Row) → assigns_both refused mover x y to_x to_y next s ≡ refused t
  left_refused is refused next =
      is refused (λ x_now. moved_by_left mover (part_length x) (part_length x_now) y (λ y_moved. assigns_right refused mover x_now y_moved to_y next))

-- the right side is assigned after the left one moved it
pub left_moves : (all : Extent) (x y y' x_now : Variable) (to_x to_y to_y' : Value) (old : ℕ) (s t u : Setting) (result : Result Exchange Stop) → y' ≡ y
    → to_y' ≡ to_y → old ≡ part_length x
    → ((refused : Row) → GoesOn (assigns_or refused x to_x) s x_now t) → ExchangesAs all (λ refused. assigns_moved refused old x_now y' to_y') t u result
    → ExchangesAs all (λ refused. assigns_both refused Left x y to_x to_y) s u result
left_moves all x y y' x_now to_x to_y to_y' old s t u result same_y same_to same_old first is =
    exchange_then all (λ refused. assigns_both refused Left x y to_x to_y) (λ refused. assigns_moved refused old x_now y' to_y') s t u result
    (λ refused next. first refused (λ x_now. assigns_moved refused (part_length x) x_now y to_y next)
    ∙ (sym (ap (λ o. assigns_moved refused o x_now y to_y next t) same_old)
    ∙ (sym (ap (λ v. assigns_moved refused old x_now v to_y next t) same_y) ∙ sym (ap (λ v. assigns_moved refused old x_now y' v next t) same_to)))) is

-- it is assigned where it is
pub left_stays : (all : Extent) (mover : Mover) (x y y' x_now : Variable) (to_x to_y to_y' : Value) (s t u : Setting) (result : Result Exchange Stop)
    → IsStaying mover → y' ≡ y → to_y' ≡ to_y
    → ((refused : Row) → GoesOn (assigns_or refused x to_x) s x_now t) → ExchangesAs all (λ refused. assigns_right refused mover x_now y' to_y') t u result
    → ExchangesAs all (λ refused. assigns_both refused mover x y to_x to_y) s u result
left_stays all mover x y y' x_now to_x to_y to_y' s t u result stays same_y same_to first is =
    exchange_then all (λ refused. assigns_both refused mover x y to_x to_y) (λ refused. assigns_right refused mover x_now y' to_y') s t u result
    (λ refused next.
    first refused (λ x_now. moved_by_left mover (part_length x) (part_length x_now) y (λ y_moved. assigns_right refused mover x_now y_moved to_y next))
    ∙ (staying mover stays (part_length x) (part_length x_now) y (λ y_moved. assigns_right refused mover x_now y_moved to_y next) t
    ∙ (sym (ap (λ v. assigns_right refused mover x_now v to_y next t) same_y) ∙ sym (ap (λ v. assigns_right refused mover x_now y' v next t) same_to)))) is

-- The right side, that the left one moves

-- it was moved
pub right_moved : (all : Extent) (x_now y y' : Variable) (to_y : Value) (old new : ℕ) (s t : Setting) (result : Result Exchange Stop) → new ≡ part_length x_now
    → GoesOn (move_part old new y) s y' s
    → ExchangesAs all (λ refused. assigns_right refused Left x_now y' to_y) s t result
    → ExchangesAs all (λ refused. assigns_moved refused old x_now y to_y) s t result
right_moved all x_now y y' to_y old new s t result same goes is =
    exchange_then all (λ refused. assigns_moved refused old x_now y to_y) (λ refused. assigns_right refused Left x_now y' to_y) s s t result
    (λ refused next. sym (ap (λ n. move_part old n y (λ y_moved. assigns_right refused Left x_now y_moved to_y next) s) same)
    ∙ goes (λ y_moved. assigns_right refused Left x_now y_moved to_y next)) is

-- it begins behind every text
pub right_behind : (all : Extent) (x_now : Variable) (root : Root) (place size : ℕ) (to_y : Value) (old new : ℕ) (s t : Setting) (result : Result Exchange Stop)
    → new ≡ part_length x_now → old < 2 ^ 63 → new < 2 ^ 63
    → 2 ^ 64 ≤ place + new → ((text : List ℕ) → root_value s root ≡ Some (Text text) → length text < 2 ^ 63 - 1)
    → ExchangesAs all (λ refused. assigns_right refused Left x_now (Part root place size) to_y) s t result
    → ExchangesAs all (λ refused. assigns_moved refused old x_now (Part root place size) to_y) s t result
right_behind all x_now root place size to_y old new s t result same low low' far short is =
    exchange_then all (λ refused. assigns_moved refused old x_now (Part root place size) to_y)
    (λ refused. assigns_right refused Left x_now (Part root place size) to_y) s s t result
    (λ refused next.
    let on : Variable → Row = λ y_moved. assigns_right refused Left x_now y_moved to_y next in
    let past : old < place + new = omega arith in
    sym (ap (λ n. move_part old n (Part root place size) on s) same)
    ∙ (ap (λ b. check b 205 None (on (Part root (place + new - old) size)) s) (lt-ltb old (place + new) past)
    ∙ far_same refused root (place + new - old) place size to_y (λ y_now. next (x_now, y_now)) (λ y_now. next (x_now, y_now)) s
    (λ text holds. (let bound = short text holds in omega arith)) (λ text holds. (let bound = short text holds in omega arith)))) is

-- The end

module _ (all : Extent) (mover : Mover) (x_now y : Variable) (to_y : Value) (s t : Setting) where
  pub right_stops : (stop : Stop) → ((refused : Row) → StopsFinding all (assigns_or refused y to_y) s t stop) → (refused : Row)
      → StopsFinding all (assigns_right refused mover x_now y to_y) s t stop
  right_stops (StopError number offending) is refused =
      λ next. is refused (λ y_now. moved_by_right mover (part_length y) (part_length y_now) x_now (λ x_moved. next (x_moved, y_now)))
  right_stops NoMemory is refused = tt

  pub right_refused : ((refused : Row) (next : Variable → Row) → assigns_or refused y to_y next s ≡ refused t)
      → (refused : Row) (next : Variable × Variable → Row) → assigns_right refused mover x_now y to_y next s ≡ refused t
  right_refused is refused next = is refused (λ y_now. moved_by_right mover (part_length y) (part_length y_now) x_now (λ x_moved. next (x_moved, y_now)))

  -- the left side stays
  pub right_done : (x_after y_now : Variable) → IsResting mover → x_after ≡ x_now → ((refused : Row) → GoesOn (assigns_or refused y to_y) s y_now t)
      → (refused : Row) → GoesOn (assigns_right refused mover x_now y to_y) s (x_after, y_now) t
  right_done x_after y_now rests same is refused next =
      is refused (λ y_now. moved_by_right mover (part_length y) (part_length y_now) x_now (λ x_moved. next (x_moved, y_now)))
      ∙ (resting mover rests (part_length y) (part_length y_now) x_now (λ x_moved. next (x_moved, y_now)) t ∙ sym (ap (λ x. next (x, y_now) t) same))

-- the left side is moved
pub right_moves : (x_now y : Variable) (to_y : Value) (s t : Setting) (old new : ℕ) (x_moved y_now x_after : Variable) → old ≡ part_length y
    → new ≡ part_length y_now → x_after ≡ x_now
    → ((refused : Row) → GoesOn (assigns_or refused y to_y) s y_now t) → GoesOn (move_part old new x_after) t x_moved t
    → (refused : Row) → GoesOn (assigns_right refused Right x_now y to_y) s (x_moved, y_now) t
right_moves x_now y to_y s t old new x_moved y_now x_after same_old same_new same is goes refused next =
    is refused (λ y_now. move_part (part_length y) (part_length y_now) x_now (λ x_moved. next (x_moved, y_now)))
    ∙ (sym (ap (λ o. move_part o (part_length y_now) x_now (λ x_moved. next (x_moved, y_now)) t) same_old)
    ∙ (sym (ap (λ n. move_part old n x_now (λ x_moved. next (x_moved, y_now)) t) same_new)
    ∙ (sym (ap (λ x. move_part old new x (λ x_moved. next (x_moved, y_now)) t) same) ∙ goes (λ x_moved. next (x_moved, y_now)))))

pub right_moves_before : (x_now y : Variable) (to_y : Value) (s t : Setting) (old new : ℕ) (y_now x_after : Variable) → old ≡ part_length y
    → new ≡ part_length y_now → x_after ≡ x_now
    → ((refused : Row) → GoesOn (assigns_or refused y to_y) s y_now t) → ComesTo (move_part old new x_after) t (Error 205 None t)
    → (refused : Row) → ComesTo (assigns_right refused Right x_now y to_y) s (Error 205 None t)
right_moves_before x_now y to_y s t old new y_now x_after same_old same_new same is comes refused next =
    is refused (λ y_now. move_part (part_length y) (part_length y_now) x_now (λ x_moved. next (x_moved, y_now)))
    ∙ (sym (ap (λ o. move_part o (part_length y_now) x_now (λ x_moved. next (x_moved, y_now)) t) same_old)
    ∙ (sym (ap (λ n. move_part old n x_now (λ x_moved. next (x_moved, y_now)) t) same_new)
    ∙ (sym (ap (λ x. move_part old new x (λ x_moved. next (x_moved, y_now)) t) same) ∙ comes (λ x_moved. next (x_moved, y_now)))))

-- an answer by what it stands for
pub exchanges_as : (all : Extent) (mover mover' : Mover) (x y : Variable) (to_x to_y : Value) (s t : Setting) (result : Result Exchange Stop) → mover' ≡ mover
    → ExchangesAs all (λ refused. assigns_both refused mover' x y to_x to_y) s t result
    → ExchangesAs all (λ refused. assigns_both refused mover x y to_x to_y) s t result
exchanges_as all mover mover' x y to_x to_y s t result same is =
    subst (λ m. ExchangesAs all (λ refused. assigns_both refused m x y to_x to_y) s t result) same is

-- What variables of a call stand for

-- the length of a short part
pub short_length : (all : Extent) (variable : VarRef) (len : ℕ) → len ≡ part_length (variable_in all variable) → IsShort variable → len < 2 ^ 63
short_length all (HeldWhole root) len is short = omega arith
short_length all (HeldPart root place size) len is short = let low = short.1 in omega arith

-- a short part is not moved behind all places by one of this length
pub not_behind : (all : Extent) (left now : VarRef) (new : ℕ) → new ≡ part_length (variable_in all now) → IsShort left → IsShort now → IsBehind new left → ⊥
not_behind all (HeldWhole root) now new is short short' behind = behind
not_behind all (HeldPart root place size) now new is short short' behind =
    let low = short.0 in let low' : new < 2 ^ 63 = short_length all now new is short' in omega arith

pub moved_behind : (all held : Extent) (x_now : Variable) (right : VarRef) (to_y : Value) (old new : ℕ) (s t : Setting) (result : Result Exchange Stop)
    → new ≡ part_length x_now → old < 2 ^ 63 → new < 2 ^ 63
    → IsBehind new right → HoldsShort s (variable_in held right)
    → ExchangesAs all (λ refused. assigns_right refused Left x_now (variable_in held right) to_y) s t result
    → ExchangesAs all (λ refused. assigns_moved refused old x_now (variable_in held right) to_y) s t result
moved_behind all held x_now (HeldWhole root) to_y old new s t result same low low' behind short is = absurd behind
moved_behind all held x_now (HeldPart root place size) to_y old new s t result same low low' behind short is =
    right_behind all x_now (root_in held root) place size to_y old new s t result same low low' behind short is

-- what both sides can hold, by what they stand for
pub hold_as : (all : Extent) (x x' y y' : Variable) (result : Result Exchange Stop) → ((value : Value) → can_hold x' value ≡ can_hold x value)
    → ((value : Value) → can_hold y' value ≡ can_hold y value)
    → HoldAlike all x' y' result → HoldAlike all x y result
hold_as all x x' y y' (Ok (ExchangeDone left right)) one two is = (λ value. is.0 value ∙ one value, λ value. is.1 value ∙ two value)
hold_as all x x' y y' (Ok ExchangeOutOfRange) one two is = tt
hold_as all x x' y y' (Err stop) one two is = tt

-- Undoing

pub undo_exchange_stops : (all : Extent) (mover : Mover) (x y : Variable) (old_x old_y : Value) (s t : Setting) (stop : Stop)
    → ((refused : Row) → StopsFinding all (assigns_both refused mover x y old_x old_y) s t stop)
    → StopsPassing all (undoes_exchange mover x y old_x old_y) s t stop
undo_exchange_stops all mover x y old_x old_y s t (StopError number offending) is = λ next. is (wrong 205 None) (λ now. next)
undo_exchange_stops all mover x y old_x old_y s t NoMemory is = tt
