-- A count that is suspended in the place of the newest suspension.
use Rattle.std.proofs.Common.{◌≡◌, ℕ, ℤ, suc, ◌+◌, ◌-◌, ◌≤◌, List, ◌∷◌, length, map, slice_get, slice_set, Some, refl, sym, ap, ◌∙◌, arith}
use Rattle.icn_frames.specs.Heights.{cut, cell_at, set_cell, with_copy}
use Rattle.icn_frames.specs.declared.layout.Registers.{Registers}
use Rattle.icn_frames.specs.declared.layout.Why.{Why}
use Rattle.icn_frames.specs.declared.layout.Cell.{Cell}
use Rattle.icn_frames.specs.declared.layout.Cell.TheVariants.{Suspension}
use Rattle.icn_frames.specs.Slots.{why_counting}
use Rattle.icn_frames.specs.Stacks.{FlatStack, suspend}
use Rattle.icn_frames.specs.StackInvariant.{shape, outer_of, FrameAt, Sound, bottom}
use Rattle.icn_frames.proofs.Beside.{length_cut}
use Rattle.icn_frames.proofs.CellFacts.{newest_at, sound_cut, within_cells}
use Rattle.icn_frames.proofs.NewestRead.{newest_there}
use Rattle.icn_frames.proofs.SoundStacks.{cut_at}
use Rattle.icn_frames.proofs.SuspensionFrames.{bottom_lower, leads_lower, order_lower, scan_here, sound_all, sound_hung, suspend_is}

-- The top cell

set_top : {T : Type 0} (s : List T) (x y : T) (h : ℕ) → h ≡ suc (length s) → set_cell h y (x ∷ s) ≡ y ∷ s
set_top s x y h e = let p : suc (length s) - h ≡ 0 = omega arith in ap (λ (n : ℕ). slice_set (x ∷ s) n y) p

-- the cell that was cut at is on top
left_on_top : (s s1 : List Cell) (h : ℕ) (x : Cell) → 1 ≤ h → h ≤ length s → cell_at (h - 1 + 1) s ≡ Some x → s1 ≡ cut h s
    → cell_at (h - 1 + 1) s1 ≡ Some x
left_on_top s s1 h x a b k e =
    let p : length (cut (h - 1) s) ≡ h - 1 = length_cut (h - 1) s (omega arith) in
    let q : suc (length (cut (h - 1) s)) - (h - 1 + 1) ≡ 0 = omega arith in
    ap (cell_at (h - 1 + 1)) (e ∙ cut_at s h x a b k) ∙ ap (slice_get (x ∷ cut (h - 1) s)) q

-- another one in its place
placed_on_top : (s s1 s2 : List Cell) (h : ℕ) (x y : Cell) → 1 ≤ h → h ≤ length s → cell_at (h - 1 + 1) s ≡ Some x → s1 ≡ cut h s
    → s2 ≡ set_cell (h - 1 + 1) y s1 → s2 ≡ y ∷ cut (h - 1) s
placed_on_top s s1 s2 h x y a b k e f =
    let p : length (cut (h - 1) s) ≡ h - 1 = length_cut (h - 1) s (omega arith) in
    let q : h - 1 + 1 ≡ suc (length (cut (h - 1) s)) = omega arith in
    f ∙ ap (set_cell (h - 1 + 1) y) (e ∙ cut_at s h x a b k) ∙ set_top (cut (h - 1) s) x y (h - 1 + 1) q

-- What comes back

-- the newest suspension, with what it saved
pub record IsNewestAt (s : List Cell) (r : Registers) (h : ℕ) (why : Why) (saved : Registers) (place : ℕ) : Type 0 where
  pub from : 1 ≤ h
  pub to : h ≤ length s
  pub is : cell_at (h - 1 + 1) s ≡ Some (Suspension why saved place)
  pub sound : Sound (cut (h - 1) s) saved
  pub frame : FrameAt (map shape s) saved.base

newest_saved : (s : List Cell) (r : Registers) (h : ℕ) (why : Why) (saved : Registers) (place : ℕ) → Sound s r → r.newest ≡ Some h
    → cell_at (h - 1 + 1) s ≡ Some (Suspension why saved place) → IsNewestAt s r h why saved place
newest_saved s r h why saved place t n e =
    let k = newest_at s r h t n in
    let b : h ≤ length s = within_cells s h k.to in
    let u : Sound (cut (h - 1) s) saved = sound_cut s (cut (h - 1) s) r h (Suspension why saved place) saved t k.from b e refl refl in
    record { from = k.from; to = b; is = e; sound = u; frame = (leads_lower s (h - 1) saved u.stands.leads).base }

-- the same of what was read
pub record FoundNewest (s : List Cell) (r : Registers) (h : ℕ) (saved : Registers) : Type 0 where
  pub why : Why
  pub place : ℕ
  pub there : IsNewestAt s r h why saved place

pub newest_read : (s : List Cell) (r : Registers) (h : ℕ) (saved : Registers) → Sound s r → r.newest ≡ Some h
    → ((x : Cell) (outer : Registers) → cell_at (h - 1 + 1) s ≡ Some x → outer_of (shape x) ≡ Some outer → saved ≡ outer)
    → FoundNewest s r h saved
newest_read s r h saved t n read =
    let was = newest_there s r h t n in
    let same : saved ≡ was.1 = read (Suspension was.0 was.1 was.2) was.1 was.3 refl in
    record {
      why = was.0;
      place = was.2;
      there = newest_saved s r h was.0 saved was.2 t n (was.3 ∙ ap (λ (x : Registers). Some (Suspension was.0 x was.2)) (sym same));
    }

-- its operands are below it
pub operands_below : (s : List Cell) (r : Registers) (h from : ℕ) (why : Why) (saved : Registers) (place : ℕ) → IsNewestAt s r h why saved place
    → from ≡ bottom (map shape s) saved → from ≤ h - 1
operands_below s r h from why saved place w e =
    let a = w.from in
    let b = w.to in
    order_lower s (h - 1) from saved w.sound (omega arith) e

-- the cells once all above it is gone, and it is another suspension
pub placed_anew : (s s0 s1 s2 : List Cell) (r : Registers) (h : ℕ) (was why : Why) (saved : Registers) (place : ℕ) → IsNewestAt s r h was saved place → s0 ≡ s
    → s1 ≡ cut h s0
    → ((w : Why) (o : Registers) (a : ℕ) → cell_at (h - 1 + 1) s1 ≡ Some (Suspension w o a) → s2 ≡ set_cell (h - 1 + 1) (Suspension why o a) s1)
    → s2 ≡ Suspension why saved place ∷ cut (h - 1) s
placed_anew s s0 s1 s2 r h was why saved place w same e placed =
    let x : Cell = Suspension was saved place in
    let f : s1 ≡ cut h s = e ∙ ap (cut h) same in
    placed_on_top s s1 s2 h x (Suspension why saved place) w.from w.to w.is f
    (placed was saved place (left_on_top s s1 h x w.from w.to w.is f))

-- A count in its place

pub record SuspendedAnew (s' : List Cell) (saved : Registers) (h : ℕ) (why : Why) (rest : FlatStack) : Type 0 where
  pub sound : Sound s' (record saved { newest = Some h })
  pub is : Some (suspend why rest) ≡ Some (record { cells = s'; registers = record saved { newest = Some h }; address = rest.address })

pub suspended_anew : (s s' : List Cell) (r saved : Registers) (h from place : ℕ) (was : Why) (given last step : ℤ) → IsNewestAt s r h was saved place
    → from ≡ bottom (map shape s) saved
    → s' ≡ with_copy from (h - 1) (Suspension (why_counting given last step) saved place ∷ cut (h - 1) s)
    → SuspendedAnew s' saved h (why_counting given last step) (record { cells = cut (h - 1) s; registers = saved; address = place })
suspended_anew s s' r saved h from place was given last step w e b =
    let why : Why = why_counting given last step in
    let low : List Cell = cut (h - 1) s in
    let rest : FlatStack = record { cells = low; registers = saved; address = place } in
    let a = w.from in
    let within = w.to in
    let long : length low ≡ h - 1 = length_cut (h - 1) s (omega arith) in
    let height : h ≡ length low + 1 = omega arith in
    let bottom_is : from ≡ bottom (map shape low) saved = e ∙ bottom_lower s (h - 1) saved w.sound.stands.leads in
    let copied : s' ≡ with_copy from (length low) (Suspension why saved place ∷ low)
    = b ∙ ap (λ (to : ℕ). with_copy from to (Suspension why saved place ∷ low)) (sym long) in
    record {
      sound = sound_hung why low s' saved saved place h from (length low) saved.scan w.sound (sound_all low saved w.sound) (omega arith) bottom_is height
          (scan_here why low saved place h saved.scan w.sound height refl) copied;
      is = suspend_is rest why s' saved.scan h from w.sound bottom_is height refl copied;
    }
