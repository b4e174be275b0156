-- What a variable held, it can hold.
use Rattle.std.proofs.Common.{◌≡◌, refl, sym, ap, ℕ, ◌+◌, ◌-◌, nat_le, Bool, true, false, List, length, Option, None, Some}
use Rattle.std.specs.Prelude.{is_some}
use Rattle.std.specs.List.{slice_range}
use Rattle.icn_value.specs.Values.{Value, Null, Integer, Text, Chars, Std, Procedure, ARecord, AList, ASet, ATable, ACoexp, Global, Static, Local, Element, Field, Key, Keyword, Subject, Position, Random, ErrorCount, Variable, Whole, Part, Val, Var}
use Rattle.icn_value.specs.Store.{Setting}
use Rattle.icn_defs.specs.Calls.{GoesOn}
use Rattle.icn_defs.specs.Conversions.{held_integer, held_text}
use Rattle.icn_defs.specs.RowFacts.{can_hold}
use Rattle.icn_defs.specs.ReadAndAssign.{reads, root_value}
use Rattle.icn_defs.specs.Rows.{Outcome, Fails, Gives, Suspends, Error, Ends, check, gives_value, present}

given : Outcome → Value
given (Gives (Val value) setting) = value
given (Gives (Var variable) setting) = Null
given (Suspends item rest setting) = Null
given (Fails setting) = Null
given (Error number offending setting) = Null
given (Ends status setting) = Null

is_given : Outcome → Bool
is_given (Gives item setting) = true
is_given (Suspends item rest setting) = false
is_given (Fails setting) = false
is_given (Error number offending setting) = false
is_given (Ends status setting) = false

text_given : (text : List ℕ) (value : Value) → Text text ≡ value → is_some (held_text value) ≡ true
text_given text value is = sym (ap (λ v. is_some (held_text v)) is)

never : {A : Type 0} (setting after : Setting) (number : ℕ) (offending : Option Value) (value : Value)
    → Error number offending setting ≡ Gives (Val value) after → A
unfolding is_given
never setting after number offending value is = absurd (no (ap is_given is))
  where
    no : false ≡ true → ⊥
    no is = cc

checked : (t : Bool) (text : List ℕ) (value : Value) (s : Setting) → check t 205 None (gives_value (Text text)) s ≡ Gives (Val value) s
    → is_some (held_text value) ≡ true
unfolding given
checked true text value s is = text_given text value (ap given is)
checked false text value s is = never s s 205 None value is

part_by : (place size : ℕ) (found : Option Value) (value : Value) (s : Setting)
    → present found 205 None (λ held. present (held_text held) 103 (Some held) (λ text. check (nat_le (place - 1 + size) (length text)) 205 None
    (gives_value (Text (slice_range text (place - 1) (place - 1 + size)))))) s ≡ Gives (Val value) s
    → is_some (held_text value) ≡ true
part_by place size None value s is = never s s 205 None value is
part_by place size (Some (Text text)) value s is =
    checked (nat_le (place - 1 + size) (length text)) (slice_range text (place - 1) (place - 1 + size)) value s is
part_by place size (Some Null) value s is = never s s 103 (Some Null) value is
part_by place size (Some (Integer n)) value s is = never s s 103 (Some (Integer n)) value is
part_by place size (Some (Chars bytes)) value s is = never s s 103 (Some (Chars bytes)) value is
part_by place size (Some (Std file)) value s is = never s s 103 (Some (Std file)) value is
part_by place size (Some (Procedure n)) value s is = never s s 103 (Some (Procedure n)) value is
part_by place size (Some (ARecord id)) value s is = never s s 103 (Some (ARecord id)) value is
part_by place size (Some (AList id)) value s is = never s s 103 (Some (AList id)) value is
part_by place size (Some (ASet id)) value s is = never s s 103 (Some (ASet id)) value is
part_by place size (Some (ATable id)) value s is = never s s 103 (Some (ATable id)) value is
part_by place size (Some (ACoexp id)) value s is = never s s 103 (Some (ACoexp id)) value is

-- a variable can hold the value that it was read to hold
pub read_holds : (variable : Variable) (value : Value) (s : Setting) → GoesOn (reads variable) s value s → can_hold variable value ≡ true
unfolding given
read_holds (Whole (Global place)) value s is = refl
read_holds (Whole (Static place)) value s is = refl
read_holds (Whole (Local place)) value s is = refl
read_holds (Whole (Element list number)) value s is = refl
read_holds (Whole (Field structure place)) value s is = refl
read_holds (Whole (Key table key)) value s is = refl
read_holds (Whole (Keyword Subject)) value s is = sym (ap (λ v. is_some (held_text v)) (ap given (is gives_value)))
read_holds (Whole (Keyword Position)) value s is = sym (ap (λ v. is_some (held_integer v)) (ap given (is gives_value)))
read_holds (Whole (Keyword Random)) value s is = sym (ap (λ v. is_some (held_integer v)) (ap given (is gives_value)))
read_holds (Whole (Keyword ErrorCount)) value s is = sym (ap (λ v. is_some (held_integer v)) (ap given (is gives_value)))
read_holds (Part root place size) value s is = part_by place size (root_value s root) value s (is gives_value)
