-- Cells that are read: what is cut, looked at and set among them.
use Rattle.std.proofs.Common.{◌≡◌, ℕ, zero, suc, ◌-◌, List, [], ◌∷◌, length, drop, map, slice_get, slice_set, refl, sym, ap, ◌∙◌}
use Rattle.std.specs.Option.{option_map}
use Rattle.std.proofs.lemmas.List.{length-map, map-set}
use Rattle.std.proofs.lemmas.Option.{slice_get-map}
use Rattle.icn_frames.specs.Heights.{cut, cell_at, set_cell}
use Rattle.icn_value.specs.declared.val.Val.{Val}
use Rattle.icn_frames.specs.declared.layout.Cell.{Cell}
use Rattle.icn_frames.specs.declared.layout.Cell.TheVariants.{Base, Call, Local, Mark, Limit, Suspension, Operand}
use Rattle.icn_frames.specs.Stacks as flat
use Rattle.icn_run.specs.Stacks as code
use Rattle.law_frames.specs.ReadStacks.{Interpretation, cell_read}

pub map_drop : {A B : Type 0} (f : A → B) (n : ℕ) (s : List A) → drop n (map f s) ≡ map f (drop n s)
map_drop f zero s = refl
map_drop f (suc n) [] = refl
map_drop f (suc n) (x ∷ s) = map_drop f n s

-- cells that are cut are read as those that are left
pub cut_read : (read : Interpretation) (h : ℕ) (s : List Cell) → code.cut h (map (cell_read read) s) ≡ map (cell_read read) (cut h s)
cut_read read h s = ap (λ (n : ℕ). drop (n - h) (map (cell_read read) s)) (length-map s (cell_read read)) ∙ map_drop (cell_read read) (length s - h) s

-- the cell at a height is read as the one at that height
pub at_read : (read : Interpretation) (h : ℕ) (s : List Cell) → code.cell_at h (map (cell_read read) s) ≡ option_map (cell_read read) (cell_at h s)
at_read read h s = ap (λ (n : ℕ). slice_get (map (cell_read read) s) (n - h)) (length-map s (cell_read read)) ∙ slice_get-map (cell_read read) s (length s - h)

pub set_read : (read : Interpretation) (h : ℕ) (x : Cell) (s : List Cell)
    → code.set_cell h (cell_read read x) (map (cell_read read) s) ≡ map (cell_read read) (set_cell h x s)
set_read read h x s = ap (λ (n : ℕ). slice_set (map (cell_read read) s) (n - h) (cell_read read x)) (length-map s (cell_read read))
    ∙ sym (map-set (cell_read read) s (length s - h) x)

pub above_read : (read : Interpretation) (values : List Val) (s : List Cell)
    → code.put_above (map read.value values) (map (cell_read read) s) ≡ map (cell_read read) (flat.put_above values s)
above_read read [] s = refl
above_read read (value ∷ values) s = above_read read values (Local value ∷ s)

pub copy_read : (read : Interpretation) (s onto : List Cell)
    → code.copy_up (map (cell_read read) s) (map (cell_read read) onto) ≡ map (cell_read read) (flat.copy_up s onto)
copy_read read [] onto = refl
copy_read read (Operand item ∷ s) onto = ap (λ (w : List code.Cell). code.operand (read.item item) ∷ w) (copy_read read s onto)
copy_read read (Base proc locals ∷ s) onto = refl
copy_read read (Call proc locals level registers place ∷ s) onto = refl
copy_read read (Local value ∷ s) onto = refl
copy_read read (Mark label changed registers ∷ s) onto = refl
copy_read read (Limit count registers ∷ s) onto = refl
copy_read read (Suspension why registers place ∷ s) onto = refl
