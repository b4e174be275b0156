-- Changes of one file of a store.
use Rattle.std.proofs.Common.{◌≡◌, ℕ, List, Bool, true, false, cond, Decides, refl, sym, ap, inl, inr, ◌∙◌, Option, Some, String, Vec}
use Rattle.std.specs.BTreeMap.{BTreeMap, UpdatesBy, get_by_text}
use Rattle.std.specs.Cmp.Lexicographic.{slice_cmp}
use Rattle.std.specs.Option.{option_map}
use Rattle.std.specs.Ordering.{nat_cmp}
use Rattle.std.specs.Str.{bytes_eq}
use Rattle.std.specs.String.{string_cmp, string_bytes}
use Rattle.std.proofs.lemmas.Map.Text.{btree_map_updates_text}
use Rattle.std.proofs.lemmas.Slice.Eq.{bytes_eq-Decides}
use Rattle.icn_host.specs.FileMaps.{FileMap, Changes, SetsFile, SetsPart, file_map}

kept_at : (b : Bool) (files : FileMap) (name q : List ℕ) → Decides b (name ≡ q) → files q ≡ cond b (files name) (files q)
kept_at true files name q d = ap files (sym (d.0 refl))
kept_at false files name q d = refl

-- to give a name what it holds changes nothing
pub unchanged : (files : FileMap) (name : List ℕ) → Changes files files name (files name)
unchanged files name q = kept_at (bytes_eq name q) files name q (bytes_eq-Decides name q)

-- a write that did nothing
pub sets_nothing : (files : FileMap) (name bytes : List ℕ) → SetsPart (Some files) (Some files) name bytes
sets_nothing files name bytes = record { follows = (files, refl, (files name, inr (inl refl), unchanged files name)) }

mapped_at : {X Y : Type 0} (f : X → Y) (b : Bool) (w o : Option X) → option_map f (cond b w o) ≡ cond b (option_map f w) (option_map f o)
mapped_at f true w o = refl
mapped_at f false w o = refl

mapped_after : {Y Z : Type 0} (name : List ℕ) (m n : BTreeMap (String Y) (Vec ℕ Z)) (v : Vec ℕ Z)
    → UpdatesBy string_cmp (λ k. slice_cmp nat_cmp name (string_bytes k)) m n (Some v)
    → Changes (file_map m) (file_map n) name (Some v.items)
mapped_after name m n v h q =
    ap (option_map (λ v. v.items)) (btree_map_updates_text name m n (Some v) h q)
    ∙ mapped_at (λ v. v.items) (bytes_eq name q) (Some v) (get_by_text m q)

-- an entry set in a map of texts to bytes
pub set_in_map : {Y Z : Type 0} (key : String Y) (name bytes : List ℕ) (m n : BTreeMap (String Y) (Vec ℕ Z)) (v : Vec ℕ Z)
    → string_bytes key ≡ name → v.items ≡ bytes → UpdatesBy string_cmp (string_cmp key) m n (Some v)
    → SetsFile (Some (file_map m)) (Some (file_map n)) name bytes
set_in_map key name bytes m n v e f h =
    rw (← e, ← f) (record { follows = (file_map n, refl, mapped_after (string_bytes key) m n v h) })
