-- Texts that are laid out in fields at once, as turns.
use Rattle.std.proofs.Common.{◌≡◌, ◌∙◌, refl, ap, subst, ℕ, ℤ, pos, List, [], ◌∷◌, length, Some, arith}
use Rattle.std.proofs.lemmas.List.Elements.{All-head, All-tail}
use Rattle.std.specs.Fmt.{signed_decimal}
use Rattle.icn_text.specs.declared.func.Func.{Func}
use Rattle.icn_value.specs.declared.item.Item.{Item}
use Rattle.icn_value.specs.declared.val.Span.{Span}
use Rattle.icn_value.specs.declared.val.Val.{Val}
use Rattle.icn_value.specs.declared.val.Val.TheVariants as Vals
use Rattle.icn_value.specs.Store.{Names, Setting}
use Rattle.icn_value.specs.Values as values
use Rattle.icn_defs.specs.Applying.{function_of}
use Rattle.icn_defs.specs.Rows.{builds}
use Rattle.icn_heap.specs.Extents.{IsLive, text_in}
use Rattle.icn_heap.specs.Heaps.{extent_of}
use Rattle.icn_vars.specs.declared.world.World.{World}
use Rattle.icn_vars.specs.Worlds.{IsLiveItem, reach_of}
use Rattle.icn_frames.specs.CalledWith.{DropsWith, operands_above}
use Rattle.icn_frames.specs.declared.layout.Cell.{Cell}
use Rattle.icn_frames.specs.declared.layout.Cell.TheVariants.{Operand}
use Rattle.icn_frames.specs.Stacks as held
use Rattle.icn_frames.specs.Stacks.{FlatStack}
use Rattle.icn_code.specs.Codes.{Tables}
use Rattle.icn_control.specs.LiveStacks.{IsLiveStack, with_locals}
use Rattle.icn_control.specs.TakenOperands.{take_operands}
use Rattle.icn_control.proofs.LiveCalls.{own_locals}
use Rattle.icn_control.proofs.TakenOperandSteps.{live_taken}
use Rattle.icn_strfn.specs.Layouts.{laid_out}
use Rattle.icn_strfn.specs.declared.layouts.Layout.{Layout}
use Rattle.icn_strfn.specs.declared.layouts.Layout.TheVariants as Layouts
use Rattle.icn_machine.specs.declared.at_once.AtOnce.{AtOnce}
use Rattle.icn_machine.specs.MadeTexts.{GivesText, MakesText, blank, builds_field, laying}
use Rattle.icn_machine.specs.PlainFunctions.{CallsFunction, HasValue, HasValueBelow, NamesFunction}
use Rattle.icn_machine.specs.TurnsAtOnce.{CallsAsTurn}
use Rattle.icn_machine.proofs.PlainFunctionSteps.{all_before, drops_taken, none_before, one_more, told_live}
use Rattle.icn_machine.proofs.TextsAtOnce.{text_called}

-- The rows

pub text_field : (names : Names) (layout : Layout) (text : List ℕ) (width : ℕ) (s : Setting)
    → function_of names (laying layout) (values.Text text ∷ values.Integer (pos width) ∷ []) s ≡ builds (laid_out layout text width blank) s
text_field names Layouts.Left text width s = refl
text_field names Layouts.Right text width s = refl
text_field names Layouts.Center text width s = refl

pub integer_field : (names : Names) (layout : Layout) (m : ℤ) (width : ℕ) (s : Setting)
    → function_of names (laying layout) (values.Integer m ∷ values.Integer (pos width) ∷ []) s ≡ builds_field layout (signed_decimal m) width s
integer_field names Layouts.Left m width s = refl
integer_field names Layouts.Right m width s = refl
integer_field names Layouts.Center m width s = refl

-- Two operands

-- a call with these two
pub with_two : (tables : Tables) (globals : List Val) (m : FlatStack) (func : Func) (u v : Val) → NamesFunction tables globals m 2 func
    → HasValueBelow globals m 1 u → HasValueBelow globals m 0 v → CallsFunction tables globals m 2 (u ∷ v ∷ []) func
with_two tables globals m func u v names first second = record {
  names = names;
  given = all_before globals m 2 0 (u ∷ v ∷ []) refl
      (one_more globals m 2 1 (u ∷ []) (u ∷ v ∷ []) v (omega arith) (omega arith)
      (one_more globals m 2 2 [] (u ∷ []) u (omega arith) (omega arith) (none_before globals m 2 [] refl) first refl) second refl);
}

record Two (items : List Item) : Type 0 where
  lower : Item
  upper : Item
  is : items ≡ lower ∷ upper ∷ []

two_of : (items : List Item) → length items ≡ 2 → Two items
two_of [] many = cc
two_of (one ∷ []) many = cc
two_of (one ∷ other ∷ []) many = record { lower = one; upper = other; is = refl }
two_of (one ∷ other ∷ third ∷ items) many = cc

module _ (t : Tables) (w : World) (m k : FlatStack) (d : DropsWith 2 m k) (l : IsLiveStack t (reach_of w []) m) where
  both : Two d.items
  both = two_of d.items d.many

  pub fewer : IsLiveStack t (reach_of w []) k
  fewer = (live_taken t (reach_of w []) 3 m k (d.callee ∷ d.items) (drops_taken 2 m k d) l).rest

  -- the lower one is of the world
  pub lower_live : (u : Val) → HasValueBelow w.globals.items m 1 u → IsLive (extent_of w.heap) u
  unfolding both
  lower_live u first =
      let P : Item → Type 0 = IsLiveItem (with_locals (own_locals k) (reach_of w [])) in
      let rest : List Cell = Operand d.callee ∷ k.cells in
      let cells : m.cells ≡ operands_above (both.upper ∷ []) (Operand both.lower ∷ rest)
      = ap (λ (x : FlatStack). x.cells) d.was ∙ ap (λ (items : List Item). operands_above items rest) both.is in
      let value : HasValue w.globals.items (held.locals k) both.lower u
      = subst (λ (locals : List Val). HasValue w.globals.items locals both.lower u) d.locals_same (first both.lower (both.upper ∷ []) rest cells refl) in
      let taken : take_operands 3 m ≡ Some (d.callee ∷ both.lower ∷ both.upper ∷ [], k)
      = subst (λ (items : List Item). take_operands 3 m ≡ Some (d.callee ∷ items, k)) both.is (drops_taken 2 m k d) in
      let back = live_taken t (reach_of w []) 3 m k (d.callee ∷ both.lower ∷ both.upper ∷ []) taken l in
      told_live t w k (own_locals k) both.lower u w.sound.live_globals back.rest
      (All-head P both.lower (both.upper ∷ []) (All-tail P d.callee (both.lower ∷ both.upper ∷ []) back.items_live)) value

-- Calls

module _ (tables t : Tables) (w v : World) (m k n : FlatStack) (d : DropsWith 2 m k) (back : held.set_locals (held.locals k) k ≡ k)
    (l : IsLiveStack t (reach_of w []) m) (layout : Layout) (width : ℕ) (field : Span) (done : AtOnce)
    (names : NamesFunction tables w.globals.items m 2 (laying layout)) (second : HasValueBelow w.globals.items m 0 (Vals.Integer (pos width)))
    (given : GivesText field k n done) where
  pub text_laid : (text : Span) → HasValueBelow w.globals.items m 1 (Vals.Text text)
      → MakesText (builds (laid_out layout (text_in (extent_of w.heap) text) width blank)) w v field → CallsAsTurn tables 2 w m v n done
  text_laid text first made =
      text_called tables t w v m k n field (builds (laid_out layout (text_in (extent_of w.heap) text) width blank)) (fewer t w m k d l) back made 2
      (Vals.Text text ∷ Vals.Integer (pos width) ∷ []) (laying layout) d done
      (with_two tables w.globals.items m (laying layout) (Vals.Text text) (Vals.Integer (pos width)) names first second) l
      (λ all outside. text_field all layout (text_in (extent_of w.heap) text) width _) given

  pub integer_laid : (i : ℤ) → HasValueBelow w.globals.items m 1 (Vals.Integer i) → MakesText (builds_field layout (signed_decimal i) width) w v field
      → CallsAsTurn tables 2 w m v n done
  integer_laid i first made =
      text_called tables t w v m k n field (builds_field layout (signed_decimal i) width) (fewer t w m k d l) back made 2
      (Vals.Integer i ∷ Vals.Integer (pos width) ∷ []) (laying layout) d done
      (with_two tables w.globals.items m (laying layout) (Vals.Integer i) (Vals.Integer (pos width)) names first second) l
      (λ all outside. integer_field all layout i width _) given
