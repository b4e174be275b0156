-- Values without bytes or elements, as the rows that take a value apart refuse them.
use Rattle.std.proofs.Common.{◌≡◌, refl, ℕ, ℤ, Result, None, Some}
use Rattle.icn_text.specs.declared.arithmetic.Arith.{Arith}
use Rattle.icn_value.specs.declared.cset.Cset.{Cset}
use Rattle.icn_value.specs.declared.val.File.{File as HeldFile}
use Rattle.icn_value.specs.declared.val.Span.{Span}
use Rattle.icn_value.specs.declared.val.Val.{Val}
use Rattle.icn_value.specs.declared.val.Val.TheVariants.{Null as NullVal, Integer as IntegerVal, Text as TextVal, Chars as CharsVal, Std as StdVal, Proc as ProcVal, Rec as RecVal, List as ListVal, Set as SetVal, Table as TableVal, Coexp as CoexpVal}
use Rattle.icn_value.specs.Values.{Value, Item}
use Rattle.icn_value.specs.Store.{Setting}
use Rattle.icn_defs.specs.Arguments.{file_of}
use Rattle.icn_defs.specs.Conversions.{group_of, held_integer}
use Rattle.icn_defs.specs.Elements.{elements_of, random_by}
use Rattle.icn_defs.specs.Rows.{Error}
use Rattle.icn_defs.specs.Variables.{section_of, subscript_of}
use Rattle.icn_heap.specs.Extents.{Extent, value_in}

-- a value that is no file
pub no_file : (all : Extent) (val : Val) → ((file : HeldFile) → val ≡ StdVal file → ⊥)
    → file_of (value_in all val) ≡ None
no_file all NullVal no_std = refl
no_file all (IntegerVal n) no_std = refl
no_file all (TextVal span) no_std = refl
no_file all (CharsVal cset) no_std = refl
no_file all (StdVal file) no_std = absurd (no_std file refl)
no_file all (ProcVal number) no_std = refl
no_file all (RecVal id) no_std = refl
no_file all (ListVal id) no_std = refl
no_file all (SetVal id) no_std = refl
no_file all (TableVal id) no_std = refl
no_file all (CoexpVal id) no_std = refl

-- a value without subscripts
pub no_subscript : (all : Extent) (val : Val) (x : Item) (w : Value) (s : Setting) → ((n : ℤ) → val ≡ IntegerVal n → ⊥)
    → ((span : Span) → val ≡ TextVal span → ⊥) → ((cset : Cset) → val ≡ CharsVal cset → ⊥) → ((id : ℕ) → val ≡ ListVal id → ⊥)
    → ((id : ℕ) → val ≡ TableVal id → ⊥) → ((id : ℕ) → val ≡ RecVal id → ⊥)
    → subscript_of x (value_in all val) w (group_of (value_in all val)) s ≡ Error 114 (Some (value_in all val)) s
no_subscript all NullVal x w s no_integer no_text no_chars no_list no_table no_rec = refl
no_subscript all (IntegerVal n) x w s no_integer no_text no_chars no_list no_table no_rec = absurd (no_integer n refl)
no_subscript all (TextVal span) x w s no_integer no_text no_chars no_list no_table no_rec = absurd (no_text span refl)
no_subscript all (CharsVal cset) x w s no_integer no_text no_chars no_list no_table no_rec = absurd (no_chars cset refl)
no_subscript all (StdVal file) x w s no_integer no_text no_chars no_list no_table no_rec = refl
no_subscript all (ProcVal number) x w s no_integer no_text no_chars no_list no_table no_rec = refl
no_subscript all (RecVal id) x w s no_integer no_text no_chars no_list no_table no_rec = absurd (no_rec id refl)
no_subscript all (ListVal id) x w s no_integer no_text no_chars no_list no_table no_rec = absurd (no_list id refl)
no_subscript all (SetVal id) x w s no_integer no_text no_chars no_list no_table no_rec = refl
no_subscript all (TableVal id) x w s no_integer no_text no_chars no_list no_table no_rec = absurd (no_table id refl)
no_subscript all (CoexpVal id) x w s no_integer no_text no_chars no_list no_table no_rec = refl

-- a value without sections
pub no_section : (all : Extent) (val : Val) (second : ℤ → ℤ → Result ℤ Arith) (x : Item) (u w : Value) (s : Setting) → ((n : ℤ) → val ≡ IntegerVal n → ⊥)
    → ((span : Span) → val ≡ TextVal span → ⊥) → ((cset : Cset) → val ≡ CharsVal cset → ⊥) → ((id : ℕ) → val ≡ ListVal id → ⊥)
    → section_of second x (value_in all val) u w (group_of (value_in all val)) s ≡ Error 110 (Some (value_in all val)) s
no_section all NullVal second x u w s no_integer no_text no_chars no_list = refl
no_section all (IntegerVal n) second x u w s no_integer no_text no_chars no_list = absurd (no_integer n refl)
no_section all (TextVal span) second x u w s no_integer no_text no_chars no_list = absurd (no_text span refl)
no_section all (CharsVal cset) second x u w s no_integer no_text no_chars no_list = absurd (no_chars cset refl)
no_section all (StdVal file) second x u w s no_integer no_text no_chars no_list = refl
no_section all (ProcVal number) second x u w s no_integer no_text no_chars no_list = refl
no_section all (RecVal id) second x u w s no_integer no_text no_chars no_list = refl
no_section all (ListVal id) second x u w s no_integer no_text no_chars no_list = absurd (no_list id refl)
no_section all (SetVal id) second x u w s no_integer no_text no_chars no_list = refl
no_section all (TableVal id) second x u w s no_integer no_text no_chars no_list = refl
no_section all (CoexpVal id) second x u w s no_integer no_text no_chars no_list = refl

-- a value without elements
pub no_elements : (all : Extent) (val : Val) (x : Item) (s : Setting) → ((n : ℤ) → val ≡ IntegerVal n → ⊥) → ((span : Span) → val ≡ TextVal span → ⊥)
    → ((cset : Cset) → val ≡ CharsVal cset → ⊥) → ((id : ℕ) → val ≡ ListVal id → ⊥) → ((id : ℕ) → val ≡ SetVal id → ⊥) → ((id : ℕ) → val ≡ TableVal id → ⊥)
    → ((id : ℕ) → val ≡ RecVal id → ⊥) → ((file : HeldFile) → val ≡ StdVal file → ⊥)
    → elements_of x (value_in all val) (group_of (value_in all val)) s ≡ Error 116 (Some (value_in all val)) s
no_elements all NullVal x s no_integer no_text no_chars no_list no_set no_table no_rec no_std = refl
no_elements all (IntegerVal n) x s no_integer no_text no_chars no_list no_set no_table no_rec no_std = absurd (no_integer n refl)
no_elements all (TextVal span) x s no_integer no_text no_chars no_list no_set no_table no_rec no_std = absurd (no_text span refl)
no_elements all (CharsVal cset) x s no_integer no_text no_chars no_list no_set no_table no_rec no_std = absurd (no_chars cset refl)
no_elements all (StdVal file) x s no_integer no_text no_chars no_list no_set no_table no_rec no_std = absurd (no_std file refl)
no_elements all (ProcVal number) x s no_integer no_text no_chars no_list no_set no_table no_rec no_std = refl
no_elements all (RecVal id) x s no_integer no_text no_chars no_list no_set no_table no_rec no_std = absurd (no_rec id refl)
no_elements all (ListVal id) x s no_integer no_text no_chars no_list no_set no_table no_rec no_std = absurd (no_list id refl)
no_elements all (SetVal id) x s no_integer no_text no_chars no_list no_set no_table no_rec no_std = absurd (no_set id refl)
no_elements all (TableVal id) x s no_integer no_text no_chars no_list no_set no_table no_rec no_std = absurd (no_table id refl)
no_elements all (CoexpVal id) x s no_integer no_text no_chars no_list no_set no_table no_rec no_std = refl

-- a value without elements to pick from
pub no_random : (all : Extent) (val : Val) (x : Item) (s : Setting) → ((n : ℤ) → val ≡ IntegerVal n → ⊥) → ((span : Span) → val ≡ TextVal span → ⊥)
    → ((cset : Cset) → val ≡ CharsVal cset → ⊥) → ((id : ℕ) → val ≡ ListVal id → ⊥) → ((id : ℕ) → val ≡ SetVal id → ⊥) → ((id : ℕ) → val ≡ TableVal id → ⊥)
    → ((id : ℕ) → val ≡ RecVal id → ⊥)
    → random_by x (value_in all val) (held_integer (value_in all val)) s ≡ Error 113 (Some (value_in all val)) s
no_random all NullVal x s no_integer no_text no_chars no_list no_set no_table no_rec = refl
no_random all (IntegerVal n) x s no_integer no_text no_chars no_list no_set no_table no_rec = absurd (no_integer n refl)
no_random all (TextVal span) x s no_integer no_text no_chars no_list no_set no_table no_rec = absurd (no_text span refl)
no_random all (CharsVal cset) x s no_integer no_text no_chars no_list no_set no_table no_rec = absurd (no_chars cset refl)
no_random all (StdVal file) x s no_integer no_text no_chars no_list no_set no_table no_rec = refl
no_random all (ProcVal number) x s no_integer no_text no_chars no_list no_set no_table no_rec = refl
no_random all (RecVal id) x s no_integer no_text no_chars no_list no_set no_table no_rec = absurd (no_rec id refl)
no_random all (ListVal id) x s no_integer no_text no_chars no_list no_set no_table no_rec = absurd (no_list id refl)
no_random all (SetVal id) x s no_integer no_text no_chars no_list no_set no_table no_rec = absurd (no_set id refl)
no_random all (TableVal id) x s no_integer no_text no_chars no_list no_set no_table no_rec = absurd (no_table id refl)
no_random all (CoexpVal id) x s no_integer no_text no_chars no_list no_set no_table no_rec = refl
