-- Which results are locals of the procedure that gives them.
use Rattle.std.specs.Prelude.{Bool, true, false}
use Rattle.icn_value.specs.declared.item.Root.{Root}
use Rattle.icn_value.specs.declared.item.Root.TheVariants as Roots
use Rattle.icn_value.specs.declared.item.VarRef.TheVariants.{Whole, Part}
use Rattle.icn_value.specs.declared.item.Item.{Item}
use Rattle.icn_value.specs.declared.item.Item.TheVariants.{Val, Var}

-- a local of the activation at hand
abbrev pub is_local_root : Root → Bool
is_local_root (Roots.Local place) = true
is_local_root (Roots.Global place) = false
is_local_root (Roots.Static place) = false
is_local_root (Roots.Element list number) = false
is_local_root (Roots.Field rec place) = false
is_local_root (Roots.Key table key) = false
is_local_root (Roots.Keyword word) = false

-- a local, or a part of one
abbrev pub is_local_item : Item → Bool
is_local_item (Val val) = false
is_local_item (Var (Whole root)) = is_local_root root
is_local_item (Var (Part root place len)) = is_local_root root
