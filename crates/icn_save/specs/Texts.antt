-- What comes of bytes that have to be texts.
use Rattle.std.specs.Prelude.{◌≡◌, Bool, true, false, Result, Ok, Err}
use Rattle.icn_tree.specs.declared.rule.Rule.TheVariants.{G3}
use Rattle.icn_save.specs.declared.fault.SaveFault.{SaveFault}
use Rattle.icn_save.specs.declared.fault.SaveFault.TheVariants.{Broken, NoMemory}

-- what was taken is so, where the bytes are texts; else the rule on them is broken; or memory was wanting
abbrev pub TakesOne : {A : Type 0} → Bool → (A → Type 0) → Result A SaveFault → Type 0
TakesOne is_text Is (Ok taken) = (is_text ≡ true) × Is taken
TakesOne is_text Is (Err (Broken rule)) = (is_text ≡ false) × (rule ≡ G3)
TakesOne is_text Is (Err NoMemory) = Unit {0}
