-- What the two texts of a unit are, line by line: its procedures and its declarations, or the rule of the first fault.
use Rattle.std.specs.Prelude.{◌==◌, ℕ, ◌-◌, pos, Bool, true, false, ◌&&◌, ◌||◌, not, nat_le, nat_lt, List, [], ◌∷◌, ◌++◌, length, slice_get, codes, Option, Some, None, Result, Ok, Err, if◌then◌else◌}
use Rattle.std.specs.Option.{option_map, option_and_then, option_map_or}
use Rattle.std.specs.Str.{bytes_eq}
use Rattle.icn_profile.specs.Numbers.{greatest_integer, greatest_number}
use Rattle.icn_defs.specs.Numbers.{op_of}
use Rattle.icn_tree.specs.declared.rule.Rule.{Rule}
use Rattle.icn_tree.specs.declared.rule.Rule.TheVariants.{U1, U2, U3, U4, U5, U6, U7}
use Rattle.icn_tree.specs.ByteSets.{members_of}
use Rattle.icn_tree.specs.IntegerLiterals.{is_nothing}
use Rattle.icn_unit.specs.declared.instr_word.InstrWord.{InstrWord}
use Rattle.icn_unit.specs.declared.instr_word.InstrWord.TheVariants.{Int as WordInt, Str as WordStr, Cset as WordCset, Var as WordVar, Keywd as WordKeywd, Op as WordOp, Field as WordField, Llist as WordLlist, Invoke as WordInvoke}
use Rattle.icn_unit.specs.declared.unit.UnitInstr.{UnitInstr}
use Rattle.icn_unit.specs.declared.unit.UnitInstr.TheVariants.{Int, Str, Cset, Var, Keywd, Op, Field, Llist, Invoke}
use Rattle.icn_unit.specs.declared.unit.NameKind.{NameKind}
use Rattle.icn_unit.specs.declared.unit.NameKind.TheVariants.{Parameter, Local, Static, Undeclared}
use Rattle.icn_unit.specs.declared.unit.UnitName.{UnitName}
use Rattle.icn_unit.specs.InstrWords.{instr_word_of, alone_of, labelled_of}
use Rattle.icn_unit.specs.PlainUnits.{PlainProc, PlainDecl, Global, Procedure, Link, Invocable, Record, UnitRead, params_in, proc_names, entry_names, owned_names}
use Rattle.icn_unit.specs.UnitOperands.{first_field, number_of, label_of, is_name, bytes_of, ascends, keyword_of}
use Rattle.icn_unit.specs.UnitRules.{has_name, has_label, labels_placed, own_label, placed_labels, rank, same_names}

-- Steps

-- goes on where no rule is broken yet
abbrev pub then_step : {S T : Type 0} → Result S Rule → (S → Result T Rule) → Result T Rule
then_step (Ok state) more = more state
then_step (Err rule) more = Err rule

-- a text line by line, with the bytes of the line that is begun: a last line that does not end in a newline is bad, where it breaks no other rule
abbrev pub each_line : {S : Type 0} → (S → List ℕ → Result S Rule) → S → List ℕ → List ℕ → Result S Rule
each_line step state line [] =
    if is_nothing line then Ok state else then_step (step state line) (λ next. Err U3)
each_line step state line (b ∷ rest) =
    if b == 10 then then_step (step state line) (λ next. each_line step next [] rest)
    else each_line step state (line ++ b ∷ []) rest

-- a line that begins with a blank is bad wherever it stands
abbrev pub is_indented : List ℕ → Bool
is_indented [] = false
is_indented (b ∷ rest) = b == 32

-- a step where there is a value, or a bad operand
abbrev pub or_bad : {A B : Type 0} → Option A → (A → Result B Rule) → Result B Rule
or_bad None more = Err U3
or_bad (Some value) more = more value

-- Instructions

-- the instruction of a word before an operand, in a procedure of so many names
abbrev pub operand_instr : InstrWord → List ℕ → ℕ → Option UnitInstr
operand_instr WordInt text names = option_map (λ n. Int (pos n)) (number_of greatest_integer text)
operand_instr WordStr text names = option_map (λ bytes. Str bytes) (bytes_of text)
operand_instr WordCset text names =
    option_and_then (λ bytes. if ascends bytes then Some (Cset (members_of bytes)) else None) (bytes_of text)
operand_instr WordVar text names =
    option_and_then (λ n. if nat_lt n names then Some (Var n) else None) (number_of greatest_number text)
operand_instr WordKeywd text names = option_map (λ keyword. Keywd keyword) (keyword_of text)
operand_instr WordOp text names =
    option_and_then (λ n. option_map (λ op. Op op) (op_of n)) (number_of greatest_number text)
operand_instr WordField text names = if is_name text then Some (Field text) else None
operand_instr WordLlist text names = option_map (λ n. Llist n) (number_of greatest_number text)
operand_instr WordInvoke text names = option_map (λ n. Invoke n) (number_of greatest_number text)
operand_instr word text names = option_and_then (λ label. labelled_of word label) (label_of text)

-- the instruction of a word and its operand, if they make one, where a procedure has so many names
abbrev pub instr_of : InstrWord → Option (List ℕ) → ℕ → Option UnitInstr
instr_of word None names = alone_of word
instr_of word (Some text) names = operand_instr word text names

-- the place of a label that has one
abbrev pub is_repeated : List UnitInstr → UnitInstr → Bool
is_repeated instrs instr =
    option_map_or (λ label. has_label (placed_labels instrs) label) (own_label instr) false

-- Procedures

-- what the first line of a procedure says: its name, how many parameters it has, and whether the last one
-- collects
pub record UcodeHead : Type 0 where
  pub name : List ℕ
  pub params : ℕ
  pub collects : Bool

-- `0` or `1` as a truth value
abbrev pub flag_of : List ℕ → Option Bool
flag_of text =
    if bytes_eq text (codes "0") then Some false else (if bytes_eq text (codes "1") then Some true else None)

-- a last parameter collects only where there is one
abbrev pub head_by : List ℕ → ℕ → Bool → Option UcodeHead
head_by name params collects = if is_name name && (not collects || nat_lt 0 params)
    then Some (record { name = name; params = params; collects = collects }) else None

-- a head, by its name, the text of the number of parameters, and the text that says whether the last collects
abbrev pub collects_read : List ℕ → List ℕ → Option (List ℕ) → Option UcodeHead
collects_read name params None = None
collects_read name params (Some collects) =
    option_and_then (λ p. option_and_then (λ c. head_by name p c) (flag_of collects))
    (number_of greatest_number params)

-- a head, by its name and the text behind it
abbrev pub params_read : List ℕ → Option (List ℕ) → Option UcodeHead
params_read name None = None
params_read name (Some text) = let words = first_field text in collects_read name words.0 words.1

-- `NAME P C`
abbrev pub head_read : Option (List ℕ) → Option UcodeHead
head_read None = None
head_read (Some text) = let words = first_field text in params_read words.0 words.1

-- the kind of names that a letter stands for: `p`, `l`, `s` or `u`
abbrev pub kind_of : List ℕ → Option NameKind
kind_of (b ∷ []) = if b == 112 then Some Parameter else (if b == 108 then Some Local
    else (if b == 115 then Some Static else (if b == 117 then Some Undeclared else None)))
kind_of _ = None

-- the rank of the last name so far, and 0 where there is none
abbrev pub last_rank : List UnitName → ℕ
last_rank names = option_map_or (λ name. rank name.kind) (slice_get names (length names - 1)) 0

-- a name of this kind behind those so far: its kind may not come before theirs, and it is new
abbrev pub entry_by : List UnitName → NameKind → List ℕ → Option UnitName
entry_by names kind name =
    if is_name name && nat_le (last_rank names) (rank kind) && not (has_name (entry_names names) name)
    then Some (record { kind = kind; name = name }) else None

-- a name of a procedure, by the text of its kind and by the text behind it
abbrev pub entry_named : List UnitName → List ℕ → Option (List ℕ) → Option UnitName
entry_named names kind None = None
entry_named names kind (Some name) = option_and_then (λ k. entry_by names k name) (kind_of kind)

-- `K NAME`
abbrev pub entry_read : List UnitName → Option (List ℕ) → Option UnitName
entry_read names None = None
entry_read names (Some text) = let words = first_field text in entry_named names words.0 words.1

-- what the lines so far come to, and what the next may be: the heading, a procedure, a name or an instruction of one
pub data ProcStage : Type 0 where
  Heading : ProcStage
  Outside : ProcStage
  Naming : ℕ → PlainProc → ProcStage
  Coding : PlainProc → ProcStage

-- the procedures that are complete, and what the next line may be
pub record ProcsRead : Type 0 where
  pub procs : List PlainProc
  pub stage : ProcStage

-- a procedure of which only the head was read
abbrev pub empty_proc : UcodeHead → PlainProc
empty_proc head = record { name = head.name; collects = head.collects; names = []; instrs = [] }

-- a line outside procedures: it begins one, of a new name
abbrev pub outside_line : List PlainProc → List ℕ → Option (List ℕ) → Result ProcsRead Rule
outside_line procs word operand =
    if bytes_eq word (codes "proc")
    then or_bad (head_read operand) (λ head. if has_name (proc_names procs) head.name then Err U3
    else Ok (record { procs = procs; stage = Naming head.params (empty_proc head) }))
    else Err U1

-- the line `code`, at which the head's number of parameters must have come
abbrev pub code_line : List PlainProc → ℕ → PlainProc → Option (List ℕ) → Result ProcsRead Rule
code_line procs params proc None =
    if params_in proc.names == params then Ok (record { procs = procs; stage = Coding proc }) else Err U3
code_line procs params proc (Some text) = Err U3

-- the procedure with one name more
abbrev pub with_entry : PlainProc → UnitName → PlainProc
with_entry proc entry = record proc { names = proc.names ++ entry ∷ [] }

-- a line in front of `code`: a name, or `code` itself
abbrev pub naming_line : List PlainProc → ℕ → PlainProc → List ℕ → Option (List ℕ) → Result ProcsRead Rule
naming_line procs params proc word operand =
    if bytes_eq word (codes "name") then or_bad (entry_read proc.names operand)
    (λ entry. Ok (record { procs = procs; stage = Naming params (with_entry proc entry) }))
    else (if bytes_eq word (codes "code") then code_line procs params proc operand else Err U1)

-- the line `end`, at which each label that is gone to must have its place
abbrev pub end_line : List PlainProc → PlainProc → Option (List ℕ) → Result ProcsRead Rule
end_line procs proc None =
    if labels_placed proc.instrs then Ok (record { procs = procs ++ proc ∷ []; stage = Outside }) else Err U4
end_line procs proc (Some text) = Err U3

-- the procedure with one instruction more
abbrev pub with_instr : PlainProc → UnitInstr → PlainProc
with_instr proc instr = record proc { instrs = proc.instrs ++ instr ∷ [] }

-- the line of an instruction, by its word; no label has its place twice
abbrev pub instr_line : List PlainProc → PlainProc → Option InstrWord → Option (List ℕ)
    → Result ProcsRead Rule
instr_line procs proc None operand = Err U2
instr_line procs proc (Some word) operand =
    or_bad (instr_of word operand (length proc.names)) (λ instr. if is_repeated proc.instrs instr then Err U5
    else Ok (record { procs = procs; stage = Coding (with_instr proc instr) }))

-- a line behind `code`: an instruction, or `end`
abbrev pub coding_line : List PlainProc → PlainProc → List ℕ → Option (List ℕ) → Result ProcsRead Rule
coding_line procs proc word operand = if bytes_eq word (codes "end") then end_line procs proc operand
    else instr_line procs proc (instr_word_of word) operand

-- nothing stands behind a word
abbrev pub alone : {B : Type 0} → Option (List ℕ) → B → Result B Rule
alone None value = Ok value
alone (Some text) value = Err U3

-- the heading of a text
abbrev pub with_heading : {B : Type 0} → List ℕ → List ℕ → Option (List ℕ) → B → Result B Rule
with_heading heading word operand value = if bytes_eq word heading then alone operand value else Err U1

-- a line that is not indented, by what the next line may be
abbrev pub stage_line : List PlainProc → ProcStage → List ℕ → Result ProcsRead Rule
stage_line procs Heading line = let words = first_field line in
    with_heading (codes "U9.1") words.0 words.1 (record { procs = procs; stage = Outside })
stage_line procs Outside line = let words = first_field line in outside_line procs words.0 words.1
stage_line procs (Naming params proc) line =
    let words = first_field line in naming_line procs params proc words.0 words.1
stage_line procs (Coding proc) line = let words = first_field line in coding_line procs proc words.0 words.1

-- what the lines so far come to with one line more, or the rule that it breaks
unfoldable pub procs_line : ProcsRead → List ℕ → Result ProcsRead Rule
procs_line read line = if is_indented line then Err U3 else stage_line read.procs read.stage line

-- what stands at the end of the text
abbrev pub stage_end : List PlainProc → ProcStage → Result (List PlainProc) Rule
stage_end procs Heading = Err U1
stage_end procs Outside = Ok procs
stage_end procs (Naming params proc) = Err U6
stage_end procs (Coding proc) = Err U6

-- the procedures of the text, or the rule that its end breaks
abbrev pub procs_end : ProcsRead → Result (List PlainProc) Rule
procs_end read = stage_end read.procs read.stage

-- the procedures of a first text, or the rule of its first fault
unfoldable pub procs_of : List ℕ → Result (List PlainProc) Rule
procs_of text = then_step (each_line procs_line (record { procs = []; stage = Heading }) [] text) procs_end

-- Declarations

-- names with blanks between them, which differ
abbrev pub with_field : List (List ℕ) → List ℕ → Option (List (List ℕ))
with_field fields name =
    if is_name name && not (has_name fields name) then Some (fields ++ name ∷ []) else None

-- fields behind those so far, where this much of the next name is read
abbrev pub fields_from : List (List ℕ) → List ℕ → List ℕ → Option (List (List ℕ))
fields_from fields word [] = with_field fields word
fields_from fields word (b ∷ rest) =
    if b == 32 then option_and_then (λ more. fields_from more [] rest) (with_field fields word)
    else fields_from fields (word ++ b ∷ []) rest

-- the fields of a record, of which there may be none
abbrev pub fields_read : Option (List ℕ) → Option (List (List ℕ))
fields_read None = Some []
fields_read (Some text) = fields_from [] [] text

-- an operand that is a name
abbrev pub name_read : Option (List ℕ) → Option (List ℕ)
name_read None = None
name_read (Some text) = if is_name text then Some text else None

-- an operand that writes bytes
abbrev pub bytes_read : Option (List ℕ) → Option (List ℕ)
bytes_read None = None
bytes_read (Some text) = bytes_of text

-- the declaration of a global
abbrev pub global_read : Option (List ℕ) → Option PlainDecl
global_read operand = option_map (λ name. Global name) (name_read operand)

-- the declaration of a linked unit
abbrev pub link_read : Option (List ℕ) → Option PlainDecl
link_read operand = option_map (λ bytes. Link bytes) (bytes_read operand)

-- the declaration of what may be called by its name
abbrev pub invocable_read : Option (List ℕ) → Option PlainDecl
invocable_read operand = option_map (λ bytes. Invocable bytes) (bytes_read operand)

-- a record of this name, which neither a procedure nor another record has, with the text of its fields
abbrev pub record_by : List (List ℕ) → List PlainDecl → List ℕ → Option (List ℕ) → Option PlainDecl
record_by procs decls name rest =
    if is_name name && not (has_name procs name) && not (has_name (owned_names decls) name)
    then option_map (λ fields. Record name fields) (fields_read rest) else None

-- `NAME` and its fields, where procedures have names
abbrev pub record_read : List (List ℕ) → List PlainDecl → Option (List ℕ) → Option PlainDecl
record_read procs decls None = None
record_read procs decls (Some text) = let words = first_field text in record_by procs decls words.0 words.1

-- the declaration of a procedure, whose name is new
abbrev pub procedure_read : List PlainDecl → Option (List ℕ) → Option PlainDecl
procedure_read decls operand =
    option_and_then (λ name. if has_name (owned_names decls) name then None else Some (Procedure name))
    (name_read operand)

-- what the next line of declarations may be: the heading, a declaration or `end`, or nothing
pub data DeclStage : Type 0 where
  DeclHeading : DeclStage
  Declaring : DeclStage
  Ended : DeclStage

-- the declarations so far, and what the next line may be
pub record DeclsRead : Type 0 where
  pub decls : List PlainDecl
  pub stage : DeclStage

-- the declarations with one more
abbrev pub with_decl : List PlainDecl → PlainDecl → Result DeclsRead Rule
with_decl decls decl = Ok (record { decls = decls ++ decl ∷ []; stage = Declaring })

-- the line `end`, behind which nothing stands
abbrev pub ended_line : List PlainDecl → Option (List ℕ) → Result DeclsRead Rule
ended_line decls None = Ok (record { decls = decls; stage = Ended })
ended_line decls (Some text) = Err U3

-- a line of a declaration, or `end`, by its word
abbrev pub declaring_line : List (List ℕ) → List PlainDecl → List ℕ → Option (List ℕ) → Result DeclsRead Rule
declaring_line procs decls word operand =
    if bytes_eq word (codes "global") then or_bad (global_read operand) (with_decl decls)
    else (if bytes_eq word (codes "proc") then or_bad (procedure_read decls operand) (with_decl decls)
    else (if bytes_eq word (codes "link") then or_bad (link_read operand) (with_decl decls)
    else (if bytes_eq word (codes "invocable") then or_bad (invocable_read operand) (with_decl decls)
    else (if bytes_eq word (codes "record") then or_bad (record_read procs decls operand) (with_decl decls)
    else (if bytes_eq word (codes "end") then ended_line decls operand else Err U1)))))

-- a line that is not indented, by what the next line may be
abbrev pub decl_stage_line : List (List ℕ) → List PlainDecl → DeclStage → List ℕ → Result DeclsRead Rule
decl_stage_line procs decls DeclHeading line = let words = first_field line in
    with_heading (codes "U9.2") words.0 words.1 (record { decls = decls; stage = Declaring })
decl_stage_line procs decls Declaring line =
    let words = first_field line in declaring_line procs decls words.0 words.1
decl_stage_line procs decls Ended line = Err U1

-- a line, where the procedures of the first text have these names
unfoldable pub decls_line : List (List ℕ) → DeclsRead → List ℕ → Result DeclsRead Rule
decls_line procs read line =
    if is_indented line then Err U3 else decl_stage_line procs read.decls read.stage line

-- what stands at the end of the text
abbrev pub decl_stage_end : List PlainDecl → DeclStage → Result (List PlainDecl) Rule
decl_stage_end decls DeclHeading = Err U1
decl_stage_end decls Declaring = Err U6
decl_stage_end decls Ended = Ok decls

-- the declarations of the text, or the rule that its end breaks
abbrev pub decls_end : DeclsRead → Result (List PlainDecl) Rule
decls_end read = decl_stage_end read.decls read.stage

-- the declarations of a second text, beside these procedures; or the rule of its first fault
unfoldable pub decls_of : List (List ℕ) → List ℕ → Result (List PlainDecl) Rule
decls_of procs text =
    then_step (each_line (decls_line procs) (record { decls = []; stage = DeclHeading }) [] text) decls_end

-- Units

-- a unit, or the rule that its texts break first and whether that is in the second
pub data UnitOutcome : Type 0 where
  Whole : UnitRead → UnitOutcome
  Faulty : Rule → Bool → UnitOutcome

-- the unit, where both texts name the same procedures
abbrev pub matched_unit : List ℕ → List PlainProc → List PlainDecl → UnitOutcome
matched_unit name procs decls = if same_names procs decls
    then Whole (record { name = name; procs = procs; decls = decls }) else Faulty U7 true

-- the unit of these procedures, by what its second text comes to
abbrev pub with_decls : List ℕ → List PlainProc → Result (List PlainDecl) Rule → UnitOutcome
with_decls name procs (Err rule) = Faulty rule true
with_decls name procs (Ok decls) = matched_unit name procs decls

-- the unit, by what its first text comes to, and by the second text
abbrev pub with_procs : List ℕ → Result (List PlainProc) Rule → List ℕ → UnitOutcome
with_procs name (Err rule) u2 = Faulty rule false
with_procs name (Ok procs) u2 = with_decls name procs (decls_of (proc_names procs) u2)

-- the unit that two texts are, or the rule of the first fault, with the text that has it
abbrev pub unit_read : List ℕ → List ℕ → List ℕ → UnitOutcome
unit_read name u1 u2 = with_procs name (procs_of u1) u2
