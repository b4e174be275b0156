-- Texts that are made at once.
use Rattle.std.specs.Prelude.{◌≡◌, ℕ, List, [], length}
use Rattle.std.specs.List.{All}
use Rattle.icn_text.specs.declared.func.Func.{Func}
use Rattle.icn_text.specs.declared.func.Func.TheVariants as Funcs
use Rattle.icn_value.specs.declared.item.Item.TheVariants as Items
use Rattle.icn_value.specs.declared.val.Span.{Span}
use Rattle.icn_value.specs.declared.val.Val.{Val}
use Rattle.icn_value.specs.declared.val.Val.TheVariants as Vals
use Rattle.icn_value.specs.Store.{Outside}
use Rattle.icn_defs.specs.Rows.{Row, builds, costs_bytes}
use Rattle.icn_heap.specs.Extents.{IsLive, IsText}
use Rattle.icn_heap.specs.Heaps.{extent_of}
use Rattle.icn_vars.specs.declared.outcome.Outcome.{Outcome}
use Rattle.icn_vars.specs.declared.outcome.Outcome.TheVariants as Outcomes
use Rattle.icn_vars.specs.declared.world.World.{World}
use Rattle.icn_vars.specs.Outcomes.{outcome_in}
use Rattle.icn_vars.specs.Worlds.{KeepsItems, reach_of, setting_of}
use Rattle.icn_frames.specs.Stacks.{FlatStack, push}
use Rattle.icn_control.specs.TakenOperands.{KeepsCounts}
use Rattle.icn_strfn.specs.Layouts.{laid_out}
use Rattle.icn_strfn.specs.TextArguments.{default_bytes}
use Rattle.icn_strfn.specs.declared.layouts.Layout.{Layout}
use Rattle.icn_strfn.specs.declared.layouts.Layout.TheVariants as Layouts
use Rattle.icn_strfn.specs.declared.text_arguments.DefaultText.TheVariants.{Blank}
use Rattle.icn_machine.specs.declared.at_once.AtOnce.{AtOnce}
use Rattle.icn_machine.specs.declared.at_once.AtOnce.TheVariants as AtOnces

-- a text is given, and no other
abbrev pub text_outcome : Span → Outcome
text_outcome text = Outcomes.Gives (Items.Val (Vals.Text text))

-- The row makes a text in a world, and gives it.
pub record MakesText (row : Row) (w v : World) (text : Span) : Type 0 where
  pub live : IsText (extent_of v.heap) text
  pub comes : (outside : Outside) (locals : List Val) → All (IsLive (extent_of w.heap)) locals
      → row (setting_of outside w locals)
      ≡ outcome_in (extent_of v.heap) (text_outcome text) (setting_of outside v locals)
  pub kept : KeepsItems (reach_of w []) (reach_of v [])
  pub counts : KeepsCounts w v

-- A text was pushed. Of want of memory this says nothing.
abbrev pub GivesText : Span → FlatStack → FlatStack → AtOnce → Type 0
GivesText text m n AtOnces.Running = n ≡ push (Items.Val (Vals.Text text)) m
GivesText text m n AtOnces.Failing = ⊥
GivesText text m n AtOnces.Hopping = ⊥
GivesText text m n AtOnces.Over = ⊥
GivesText text m n AtOnces.AtBound = ⊥
GivesText text m n AtOnces.NoMemory = Unit {0}
GivesText text m n AtOnces.Not = ⊥

-- Fields

-- the function that lays out so
abbrev pub laying : Layout → Func
laying Layouts.Left = Funcs.Left
laying Layouts.Right = Funcs.Right
laying Layouts.Center = Funcs.Center

-- what a field is filled with where nothing else is wanted
abbrev pub blank : List ℕ
blank = default_bytes Blank

-- a text that was made for it is laid out in a field of so many bytes
abbrev pub builds_field : Layout → List ℕ → ℕ → Row
builds_field layout text width = costs_bytes (length text) (builds (laid_out layout text width blank))
