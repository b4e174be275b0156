-- Parts of rows that are found one behind another.
use Rattle.std.proofs.Common.{◌≡◌, ◌∙◌, refl, sym, ap, subst, ℕ, List, arith, Option, None, Result, Some, Ok, Err}
use Rattle.std.specs.Prelude.{IfErr, IsErrAnd}
use Rattle.icn_value.specs.Store.{Request, ALine, SomeBytes, Setting}
use Rattle.icn_value.specs.Values.{File, Input, Output, Errout, Opened, Std, Value, Text}
use Rattle.icn_value.specs.declared.val.File.{File as HeldFile}
use Rattle.icn_value.specs.declared.val.File.TheVariants.{Input as HeldInput, Output as HeldOutput, Errout as HeldErrout, Opened as HeldOpened}
use Rattle.icn_defs.specs.Arguments.{arg_or, file}
use Rattle.icn_defs.specs.Calls.{GoesOn}
use Rattle.icn_defs.specs.Lines.{bytes_from, line_from}
use Rattle.icn_defs.specs.OpenFiles.{Readable, FromInput, FromOpened, readable, readable_of}
use Rattle.icn_defs.specs.Rows.{Ends, Error, Finds, Row, gives_value, present}
use Rattle.icn_heap.specs.Extents.{Extent}
use Rattle.icn_heap.specs.Keys.{file_of}
use Rattle.icn_vars.specs.Stops.{IsLiveStop}
use Rattle.icn_vars.specs.declared.stop.Stop.{Stop}
use Rattle.icn_vars.specs.declared.stop.Stop.TheVariants.{Error as ErrorStop, NoMemory as NoMemoryStop}
use Rattle.icn_args.specs.RowWords.{IsFound}
use Rattle.icn_streams.specs.Settling.{ReadsInput}
use Rattle.icn_iofn.specs.ReadParts.{read_from, reads_of}

-- a thing is found, and what is looked for then is answered so
pub found_behind : {A B C : Type 0} (all : Extent) (find : Finds A) (thing : A) (rest : A → Finds B) (before between after : Setting) (shown : C → B)
    (result : Result C Stop)
    → GoesOn find before thing between → IsFound all (rest thing) between after shown result
    → IsFound all (λ next. find (λ thing. rest thing next)) before after shown result
found_behind all find thing rest before between after shown (Ok value) goes is = λ next. goes (λ thing. rest thing next) ∙ is next
found_behind all find thing rest before between after shown (Err (ErrorStop number offending)) goes is = λ next. goes (λ thing. rest thing next) ∙ is next
found_behind all find thing rest before between after shown (Err NoMemoryStop) goes is = tt

-- what a call stopped with is of the heap
pub err_lives : {C : Type 0} (all : Extent) (stop : Stop) (result : Result C Stop) → IsErrAnd result (λ other. other ≡ stop) → IsLiveStop all stop
    → IfErr result (IsLiveStop all)
err_lives all stop (Ok value) same live = absurd same
err_lives all stop (Err other) same live = subst (IsLiveStop all) (sym same) live

-- Whether it is the input that is named

-- a row that tells the input from other files
tells_input : File → ℕ
tells_input Input = 0
tells_input Output = 1
tells_input Errout = 1
tells_input (Opened number) = 1

abbrev telling : File → Row
telling file setting = Ends (tells_input file) setting

same_status : (a b : ℕ) (s : Setting) → Ends a s ≡ Ends b s → a ≡ b
same_status a b s is = cc

none_is_not_one : ◌≡◌ {A = ℕ} 1 0 → ⊥
none_is_not_one is = omega (arith, is)

is_input : (held : HeldFile) → tells_input (file_of held) ≡ 0 → held ≡ HeldInput
unfolding tells_input
is_input HeldInput is = refl
is_input HeldOutput is = absurd (none_is_not_one is)
is_input HeldErrout is = absurd (none_is_not_one is)
is_input (HeldOpened number) is = absurd (none_is_not_one is)

-- where the rows read the input, it is that which was found
pub input_named : (values : List Value) (held : HeldFile) (s : Setting) → ReadsInput values
    → GoesOn (file (arg_or (Std Input) values 0)) s (file_of held) s → held ≡ HeldInput
unfolding tells_input
input_named values held s input goes =
    is_input held (same_status (tells_input (file_of held)) 0 s
    (sym (goes telling) ∙ ap (λ (found : Option File). present found 105 (Some (arg_or (Std Input) values 0)) telling s) input))

-- What is read is what the rows read

lines_by : (named : Value) (found : Option Readable) (s : Setting)
    → present found 212 (Some named) (λ from. line_from from (λ line. gives_value (Text line))) s ≡ present found 212 (Some named) (reads_of ALine) s
lines_by named None s = refl
lines_by named (Some FromInput) s = refl
lines_by named (Some (FromOpened number)) s = refl

pub lines_read : (file : File) (named : Value) (s : Setting)
    → readable file named (λ from. line_from from (λ line. gives_value (Text line))) s ≡ read_from ALine file named s
lines_read file named s = lines_by named (readable_of s.world.heap file) s

bytes_by : (count : ℕ) (named : Value) (found : Option Readable) (s : Setting)
    → present found 212 (Some named) (λ from. bytes_from count from (λ bytes. gives_value (Text bytes))) s
    ≡ present found 212 (Some named) (reads_of (SomeBytes count)) s
bytes_by count named None s = refl
bytes_by count named (Some FromInput) s = refl
bytes_by count named (Some (FromOpened number)) s = refl

pub bytes_read : (count : ℕ) (file : File) (named : Value) (s : Setting)
    → readable file named (λ from. bytes_from count from (λ bytes. gives_value (Text bytes))) s ≡ read_from (SomeBytes count) file named s
bytes_read count file named s = bytes_by count named (readable_of s.world.heap file) s

-- what is read is of this
pub reads_when : (asked : Request) (file : File) (named : Value) (from : Readable) (s : Setting) → readable_of s.world.heap file ≡ Some from
    → read_from asked file named s ≡ reads_of asked from s
reads_when asked file named from s is = ap (λ (found : Option Readable). present found 212 (Some named) (reads_of asked) s) is

-- the file is not open for reading
pub reading_refused : (asked : Request) (file : File) (named : Value) (s : Setting) → readable_of s.world.heap file ≡ None
    → read_from asked file named s ≡ Error 212 (Some named) s
reading_refused asked file named s is = ap (λ (found : Option Readable). present found 212 (Some named) (reads_of asked) s) is
