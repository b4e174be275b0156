-- Images of values that are the same in every heap, and the line that one stands in.
use Rattle.std.proofs.Common.{◌≡◌, refl, ℕ, List, ◌++◌}
use Rattle.std.proofs.lemmas.List.{append_assoc}
use Rattle.icn_value.specs.declared.val.Val.{Val}
use Rattle.icn_value.specs.declared.val.Val.TheVariants as Vals
use Rattle.icn_value.specs.Store.{Heap, Names}
use Rattle.icn_defs.specs.Images.{image}
use Rattle.icn_heap.specs.Extents.{Extent, value_in}
use Rattle.icn_running.specs.PlainValues.{IsPlain}

pub plain_image : (names names' : Names) (heap heap' : Heap) (all all' : Extent) (val : Val) → IsPlain val
    → image names heap (value_in all val) ≡ image names' heap' (value_in all' val)
plain_image names names' heap heap' all all' Vals.Null is = refl
plain_image names names' heap heap' all all' (Vals.Integer n) is = refl
plain_image names names' heap heap' all all' (Vals.Text span) is = absurd is
plain_image names names' heap heap' all all' (Vals.Chars cset) is = refl
plain_image names names' heap heap' all all' (Vals.Std file) is = absurd is
plain_image names names' heap heap' all all' (Vals.Proc number) is = absurd is
plain_image names names' heap heap' all all' (Vals.Rec id) is = absurd is
plain_image names names' heap heap' all all' (Vals.List id) is = absurd is
plain_image names names' heap heap' all all' (Vals.Set id) is = absurd is
plain_image names names' heap heap' all all' (Vals.Table id) is = absurd is
plain_image names names' heap heap' all all' (Vals.Coexp id) is = absurd is

-- a text between two others
pub between : (out front text end mid after : List ℕ) → mid ≡ out ++ front → after ≡ mid ++ text → after ++ end ≡ out ++ (front ++ (text ++ end))
between out front text end mid after first second = rw (second, first) (rw (append_assoc (out ++ front) text end) (append_assoc out front (text ++ end)))
