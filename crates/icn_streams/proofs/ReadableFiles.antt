-- What a file is of which a reading is, and the row over its lines then.
use Rattle.std.proofs.Common.{◌≡◌, refl, sym, ap, subst, ℕ, Bool, true, false, Option, None, Some, if◌then◌else◌}
use Rattle.icn_value.specs.Store.{Heap, Setting, file_at}
use Rattle.icn_value.specs.Values.{File, Input, Output, Errout, Opened, Std, Text, Val}
use Rattle.icn_defs.specs.Lines.{line_from, lines_row}
use Rattle.icn_defs.specs.OpenFiles.{Readable, FromInput, FromOpened, is_open_to_read, readable_of}
use Rattle.icn_defs.specs.Rows.{Error, FileLines, present, suspends}
use Rattle.icn_streams.specs.Readings.{lines_from}

-- the input is not an opened file
pub no_input : (number : ℕ) → Input ≡ Opened number → ⊥
no_input number is = cc

unlike : (number : ℕ) → FromInput ≡ FromOpened number → ⊥
unlike number is = cc

pub nothing_found : (from : Readable) → (let none : Option Readable = None in none) ≡ Some from → ⊥
nothing_found from is = cc

-- a reading of the input is of the input alone
pub of_input : (heap : Heap) (file : File) → readable_of heap file ≡ Some FromInput → file ≡ Input
of_input heap Input is = refl
of_input heap Output is = absurd (nothing_found FromInput is)
of_input heap Errout is = absurd (nothing_found FromInput is)
of_input heap (Opened number) is = by (is_open_to_read (file_at heap number)) is
  where
    by : (opens : Bool) → (if opens then Some (FromOpened number) else None) ≡ Some FromInput → Opened number ≡ Input
    by true is = absurd (unlike number (sym (inside is)))
      where
        inside : Some (FromOpened number) ≡ Some FromInput → FromOpened number ≡ FromInput
        inside is = cc
    by false is = absurd (nothing_found FromInput is)

-- one of an opened file is of that one
pub of_opened : (heap : Heap) (file : File) (number : ℕ) → readable_of heap file ≡ Some (FromOpened number) → file ≡ Opened number
of_opened heap Input number is = absurd (unlike number (inside is))
  where
    inside : Some FromInput ≡ Some (FromOpened number) → FromInput ≡ FromOpened number
    inside is = cc
of_opened heap Output number is = absurd (nothing_found (FromOpened number) is)
of_opened heap Errout number is = absurd (nothing_found (FromOpened number) is)
of_opened heap (Opened other) number is = by (is_open_to_read (file_at heap other)) is
  where
    by : (opens : Bool) → (if opens then Some (FromOpened other) else None) ≡ Some (FromOpened number) → Opened other ≡ Opened number
    by true is = inside is
      where
        inside : Some (FromOpened other) ≡ Some (FromOpened number) → Opened other ≡ Opened number
        inside is = cc
    by false is = absurd (nothing_found (FromOpened number) is)

-- the lines of an opened file that may be read
pub lines_open : (number : ℕ) (s : Setting) → readable_of s.world.heap (Opened number) ≡ Some (FromOpened number)
    → lines_row (Opened number) s ≡ lines_from number s
lines_open number s is =
    ap (λ (found : Option Readable). present found 212 (Some (Std (Opened number)))
    (λ from. line_from from (λ line. suspends (Val (Text line)) (FileLines (Opened number)))) s) is

pub lines_when : (file : File) (number : ℕ) (s : Setting) → readable_of s.world.heap file ≡ Some (FromOpened number) → lines_row file s ≡ lines_from number s
lines_when file number s is =
    subst (λ (f : File). readable_of s.world.heap f ≡ Some (FromOpened number) → lines_row f s ≡ lines_from number s)
    (sym (of_opened s.world.heap file number is)) (λ there. lines_open number s there) is

-- a file that may not be read has none
pub lines_closed : (file : File) (s : Setting) → readable_of s.world.heap file ≡ None → lines_row file s ≡ Error 212 (Some (Std file)) s
lines_closed file s is =
    ap (λ (found : Option Readable). present found 212 (Some (Std file)) (λ from. line_from from (λ line. suspends (Val (Text line)) (FileLines file))) s) is
