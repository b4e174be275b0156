-- Texts that are arguments stay as a heap grows.
use Rattle.std.proofs.Common.{◌≡◌, refl}
use Rattle.icn_heap.specs.Extents.{Extent, KeepsValues}
use Rattle.icn_strfn.specs.declared.text_arguments.TextArgument.{TextArgument}
use Rattle.icn_strfn.specs.declared.text_arguments.TextArgument.TheVariants.{Held, Missing}
use Rattle.icn_strfn.specs.TextArguments.{IsArgument, argument_bytes}

pub argument_stays : (old new : Extent) → KeepsValues old new → (text : TextArgument) → IsArgument old text → IsArgument new text
argument_stays old new keeps (Held span) is = keeps.text span is
argument_stays old new keeps (Missing default) is = tt

pub same_argument : (old new : Extent) → KeepsValues old new → (text : TextArgument) → IsArgument old text → argument_bytes new text ≡ argument_bytes old text
same_argument old new keeps (Held span) is = keeps.bytes span is
same_argument old new keeps (Missing default) is = refl
