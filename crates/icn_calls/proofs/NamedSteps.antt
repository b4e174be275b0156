-- What a text that is called names.
use Rattle.std.proofs.Common.{◌≡◌, ℕ, ℤ, true, false, is_some, List, Option, None, Some, refl, sym, ap, ◌∙◌}
use Rattle.icn_value.specs.declared.val.Val.{Val}
use Rattle.icn_value.specs.declared.val.Val.TheVariants as Vals
use Rattle.icn_value.specs.Store.{Names}
use Rattle.icn_value.specs.Values.{Procedure, Text}
use Rattle.icn_defs.specs.Conversions.{integer_of}
use Rattle.icn_defs.specs.NamedValues.{number_named}
use Rattle.icn_defs.specs.Running.{number_of, unless_number}
use Rattle.icn_heap.specs.Extents.{Extent, value_in}
use Rattle.icn_code.specs.Codes.{Tables}
use Rattle.icn_run.specs.Rows as rows
use Rattle.icn_run.specs.Stacks.{Frames, flat}
use Rattle.icn_run.specs.Step.{Store, integer_called, invoke_value, named_called}
use Rattle.icn_calls.specs.Calling.{NamesNothing}

-- a text that is no number is called as what it names
pub called_by_name : (tables : Tables) (text : List ℕ) (n : ℕ) (items : List rows.Item) (m : Frames) (st : Store Frames) → number_of (Text text) ≡ None
    → number_named st.names text ≡ Some n
    → invoke_value flat tables (Text text) items m st ≡ invoke_value flat tables (Procedure n) items m st
called_by_name tables text n items m st e is =
    ap (λ (o : Option ℤ). integer_called flat tables (Text text) o items m st) e
    ∙ ap (λ (o : Option ℕ). named_called flat tables (Text text) o items m st) is

-- a number names nothing
pub number_names_nothing : (names : Names) (text : List ℕ) (k : ℤ) → number_of (Text text) ≡ Some k → NamesNothing names (Text text)
number_names_nothing names text k e = ap (λ (o : Option ℤ). unless_number o (number_named names text)) e

-- a text that was found to be a number, or none
pub number_found : (names : Names) (text : List ℕ) (o : Option ℤ) → o ≡ integer_of (Text text) → is_some o ≡ true → NamesNothing names (Text text)
number_found names text (Some k) e h = number_names_nothing names text k (sym e)
number_found names text None e h = absurd (cc)

pub no_number_found : (text : List ℕ) (o : Option ℤ) → o ≡ integer_of (Text text) → is_some o ≡ false → number_of (Text text) ≡ None
no_number_found text None e h = sym e
no_number_found text (Some k) e h = absurd (cc)

-- nor does a text that nothing is named by
pub unknown_names_nothing : (names : Names) (text : List ℕ) → number_of (Text text) ≡ None → number_named names text ≡ None → NamesNothing names (Text text)
unknown_names_nothing names text e is = ap (λ (o : Option ℤ). unless_number o (number_named names text)) e ∙ is

-- nor does a value that is no text
pub other_names_nothing : (names : Names) (all : Extent) (val : Val) → ((span : _) → val ≡ Vals.Text span → ⊥) → NamesNothing names (value_in all val)
other_names_nothing names all Vals.Null h = refl
other_names_nothing names all (Vals.Integer n) h = refl
other_names_nothing names all (Vals.Text span) h = absurd (h span refl)
other_names_nothing names all (Vals.Chars cset) h = refl
other_names_nothing names all (Vals.Std file) h = refl
other_names_nothing names all (Vals.Proc n) h = refl
other_names_nothing names all (Vals.Rec id) h = refl
other_names_nothing names all (Vals.List id) h = refl
other_names_nothing names all (Vals.Set id) h = refl
other_names_nothing names all (Vals.Table id) h = refl
other_names_nothing names all (Vals.Coexp n) h = refl
