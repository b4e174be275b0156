-- The procedures of joined code keep the rules of codes.
use Rattle.std.proofs.Common.{◌≡◌, ℕ, zero, suc, ◌+◌, ◌<◌, ◌≤◌, Bool, true, false, cond, ◌&&◌, ◌||◌, not, List, [], ◌∷◌, length, if◌then◌else◌, Option, Some, None, refl, ap, ◌∙◌, arith, length-append, Bor, get_or}
use Rattle.std.specs.Prelude.{nat_eq, nat_lt, nat_le, count_by, is_some}
use Rattle.std.specs.List.{list_all, list_any}
use Rattle.std.specs.Str.{bytes_eq}
use Rattle.std.proofs.lemmas.Bool.{and_parts, le-leb, leb-true, lt-ltb, ltb-true, false≢true}
use Rattle.std.proofs.lemmas.List.Sums.{sum_by-cons}
use Rattle.icn_code.specs.declared.instr.Instr.{Instr}
use Rattle.icn_code.specs.declared.instr.Instr.TheVariants as I
use Rattle.icn_code.specs.Codes.{Proc as ProcEntry, Tables}
use Rattle.icn_code.specs.Rules as Rules
use Rattle.icn_unit.specs.declared.unit.NameKind.{NameKind}
use Rattle.icn_unit.specs.declared.unit.NameKind.TheVariants as Kinds
use Rattle.icn_unit.specs.declared.unit.ProcCode.{ProcCode}
use Rattle.icn_unit.specs.declared.unit.UnitInstr.{UnitInstr}
use Rattle.icn_unit.specs.declared.unit.UnitInstr.TheVariants as U
use Rattle.icn_unit.specs.declared.unit.UnitName.{UnitName}
use Rattle.icn_unit.specs.PlainUnits.{PlainProc, entry_names, is_parameter, params_in}
use Rattle.icn_unit.specs.UnitOperands.{is_name}
use Rattle.icn_unit.specs.UnitRules.{is_number, own_label}
use Rattle.icn_unit.specs.UnitViews.{proc_seen}
use Rattle.icn_link.specs.declared.variable.VariableKind.{VariableKind}
use Rattle.icn_link.specs.declared.variable.VariableKind.TheVariants.{Local, Static, Global}
use Rattle.icn_link.specs.Joined.{entry_of, proc_entry, scope_of, scope_with, variable_by, variable_of, variable_instr, locals_behind, statics_behind, variables, variable_at, is_local, is_static, locals_in, statics_in}
use Rattle.icn_link.specs.JoinableUnits.{is_joinable_instr, is_joinable_proc}
use Rattle.icn_link.specs.LinkFaults.{is_instruction, size_of}
use Rattle.icn_link.specs.FirstMentions.{integer_index, text_index}
use Rattle.icn_link.specs.Mentions.{Mention, NoMention, AnInteger, AText, ASet, AField, Operands, AllMentions, mention_of}
use Rattle.icn_link.specs.Resolving.{Scope, resolve, resolved_one, label_address, label_address_by}
use Rattle.icn_link.specs.Views.{procs_seen}
use Rattle.icn_link.proofs.EachOnce.{and_intro, has_text, has_index, has_integer_index, text_placed, all_of_flat, all_with}

-- Variables

pub fits_variable : (globals locals statics : ℕ) → Instr → Bool
fits_variable globals locals statics (I.Local n) = nat_lt n locals
fits_variable globals locals statics (I.Static n) = nat_lt n statics
fits_variable globals locals statics (I.Global n) = nat_lt n globals
fits_variable globals locals statics instr = false

by_test : (globals : List (List ℕ)) (name : List ℕ) (test : Bool) → list_any (bytes_eq name) globals ≡ test
    → (if test then Global else Local) ≡ Global → has_text globals name ≡ true
by_test globals name true e h = e
by_test globals name false e h = cc

is_held : (globals : List (List ℕ)) (kind : NameKind) (name : List ℕ) → variable_by globals kind name ≡ Global
    → has_text globals name ≡ true
is_held globals Kinds.Parameter name h = cc
is_held globals Kinds.Local name h = cc
is_held globals Kinds.Static name h = cc
is_held globals Kinds.Undeclared name h = by_test globals name _ refl h

count_more : {A : Type 0} (test : A → Bool) (x : A) (xs : List A) (b : Bool) → test x ≡ b
    → count_by test (x ∷ xs) ≡ cond b 1 0 + count_by test xs
count_more test x xs b e = sum_by-cons (λ y. cond (test y) 1 0) x xs ∙ ap (λ t. cond t 1 0 + count_by test xs) e

module _ (globals : List (List ℕ)) (L S : ℕ) where
  rest_fits : (l s : ℕ) (entry : UnitName) (entries : List UnitName) (v : VariableKind) → variable_of globals entry ≡ v
      → l + locals_in globals (entry ∷ entries) ≤ L → s + statics_in globals (entry ∷ entries) ≤ S
      → ((l' s' : ℕ) → l' + locals_in globals entries ≤ L → s' + statics_in globals entries ≤ S
      → list_all (fits_variable (length globals) L S) (variables globals l' s' entries) ≡ true)
      → list_all (fits_variable (length globals) L S) (variable_instr v l s (text_index globals entry.name)
      ∷ variables globals (locals_behind v l) (statics_behind v s) entries) ≡ true
  unfolding fits_variable
  rest_fits l s entry entries Local e h k next =
      let a = count_more (λ other. is_local (variable_of globals other)) entry entries true (ap is_local e) in
      let b = count_more (λ other. is_static (variable_of globals other)) entry entries false (ap is_static e) in
      and_intro (lt-ltb _ _ (omega (arith, a))) (next (suc l) s (omega (arith, a)) (omega (arith, b)))
  rest_fits l s entry entries Static e h k next =
      let a = count_more (λ other. is_local (variable_of globals other)) entry entries false (ap is_local e) in
      let b = count_more (λ other. is_static (variable_of globals other)) entry entries true (ap is_static e) in
      and_intro (lt-ltb _ _ (omega (arith, b))) (next l (suc s) (omega (arith, a)) (omega (arith, b)))
  rest_fits l s entry entries Global e h k next =
      let a = count_more (λ other. is_local (variable_of globals other)) entry entries false (ap is_local e) in
      let b = count_more (λ other. is_static (variable_of globals other)) entry entries false (ap is_static e) in
      and_intro (text_placed globals entry.name (is_held globals entry.kind entry.name e)) (next l s (omega (arith, a)) (omega (arith, b)))

  pub variables_fit : (l s : ℕ) (names : List UnitName) → l + locals_in globals names ≤ L → s + statics_in globals names ≤ S
      → list_all (fits_variable (length globals) L S) (variables globals l s names) ≡ true
  variables_fit l s [] h k = refl
  variables_fit l s (entry ∷ entries) h k =
      rest_fits l s entry entries (variable_of globals entry) refl h k (λ l' s'. variables_fit l' s' entries)

variables_length : (globals : List (List ℕ)) (l s : ℕ) (names : List UnitName) → length (variables globals l s names) ≡ length names
variables_length globals l s [] = refl
variables_length globals l s (entry ∷ entries) =
    ap suc (variables_length globals (locals_behind (variable_of globals entry) l) (statics_behind (variable_of globals entry) s) entries)

all_at : (p : Instr → Bool) (xs : List Instr) (k : ℕ) → list_all p xs ≡ true → k < length xs → p (variable_at xs k) ≡ true
all_at p [] k h w = absurd (omega arith)
all_at p (x ∷ xs) zero h w = (and_parts _ _ h).0
all_at p (x ∷ xs) (suc k) h w = all_at p xs k (and_parts _ _ h).1 (omega arith)

-- a variable that fits is there
variable_is : (T : Tables) (proc : ProcEntry) (instr : Instr)
    → fits_variable (length T.globals) (proc.parameters + proc.locals) proc.statics instr ≡ true → Rules.is_instr T proc instr ≡ true
unfolding fits_variable
variable_is T proc (I.Local n) h = h
variable_is T proc (I.Static n) h = h
variable_is T proc (I.Global n) h = h
variable_is T proc I.Pnull h = absurd (false≢true h)
variable_is T proc (I.Int n) h = absurd (false≢true h)
variable_is T proc (I.Str n) h = absurd (false≢true h)
variable_is T proc (I.Cset n) h = absurd (false≢true h)
variable_is T proc (I.Keywd keyword) h = absurd (false≢true h)
variable_is T proc I.Pop h = absurd (false≢true h)
variable_is T proc I.Dup h = absurd (false≢true h)
variable_is T proc (I.Op op) h = absurd (false≢true h)
variable_is T proc (I.Llist n) h = absurd (false≢true h)
variable_is T proc (I.Field n) h = absurd (false≢true h)
variable_is T proc (I.Invoke n) h = absurd (false≢true h)
variable_is T proc I.Appl h = absurd (false≢true h)
variable_is T proc (I.Mark n) h = absurd (false≢true h)
variable_is T proc I.Mark0 h = absurd (false≢true h)
variable_is T proc I.Unmark h = absurd (false≢true h)
variable_is T proc I.Eret h = absurd (false≢true h)
variable_is T proc I.Esusp h = absurd (false≢true h)
variable_is T proc I.Limit h = absurd (false≢true h)
variable_is T proc I.Lsusp h = absurd (false≢true h)
variable_is T proc I.Efail h = absurd (false≢true h)
variable_is T proc (I.Chfail n) h = absurd (false≢true h)
variable_is T proc (I.Goto n) h = absurd (false≢true h)
variable_is T proc (I.Loop n) h = absurd (false≢true h)
variable_is T proc I.Bscan h = absurd (false≢true h)
variable_is T proc I.Escan h = absurd (false≢true h)
variable_is T proc I.Ccase h = absurd (false≢true h)
variable_is T proc (I.Init n) h = absurd (false≢true h)
variable_is T proc I.Psusp h = absurd (false≢true h)
variable_is T proc I.Pret h = absurd (false≢true h)
variable_is T proc I.Pfail h = absurd (false≢true h)
variable_is T proc (I.Create n) h = absurd (false≢true h)
variable_is T proc I.Coact h = absurd (false≢true h)
variable_is T proc I.Coret h = absurd (false≢true h)
variable_is T proc I.Cofail h = absurd (false≢true h)

pub variable_there : (T : Tables) (proc : ProcEntry) (globals : List (List ℕ)) (names : List UnitName) (k : ℕ)
    → length T.globals ≡ length globals → locals_in globals names ≤ proc.parameters + proc.locals
    → statics_in globals names ≤ proc.statics → nat_lt k (length names) ≡ true
    → Rules.is_instr T proc (variable_at (variables globals 0 0 names) k) ≡ true
variable_there T proc globals names k e l s w =
    let there = ltb-true _ _ w in
    let long = variables_length globals 0 0 names in
    variable_is T proc _ (ap (λ g. fits_variable g (proc.parameters + proc.locals) proc.statics (variable_at (variables globals 0 0 names) k)) e
    ∙ all_at _ (variables globals 0 0 names) k
    (variables_fit globals (proc.parameters + proc.locals) proc.statics 0 0 names (omega (arith, l)) (omega (arith, s))) (omega (arith, long, there)))

-- Labels and sizes

one_length : (S : Scope) (instr : UnitInstr) → length (resolved_one S instr) ≡ cond (is_instruction instr) 1 0
one_length S U.Pnull = refl
one_length S (U.Int n) = refl
one_length S (U.Str bytes) = refl
one_length S (U.Cset members) = refl
one_length S (U.Var k) = refl
one_length S (U.Keywd keyword) = refl
one_length S U.Pop = refl
one_length S U.Dup = refl
one_length S (U.Op op) = refl
one_length S (U.Llist n) = refl
one_length S (U.Field name) = refl
one_length S (U.Invoke n) = refl
one_length S U.Appl = refl
one_length S (U.Mark label) = refl
one_length S U.Mark0 = refl
one_length S U.Unmark = refl
one_length S U.Eret = refl
one_length S U.Esusp = refl
one_length S U.Limit = refl
one_length S U.Lsusp = refl
one_length S U.Efail = refl
one_length S (U.Chfail label) = refl
one_length S (U.Goto label) = refl
one_length S (U.Loop label) = refl
one_length S U.Bscan = refl
one_length S U.Escan = refl
one_length S U.Ccase = refl
one_length S (U.Init label) = refl
one_length S U.Psusp = refl
one_length S U.Pret = refl
one_length S U.Pfail = refl
one_length S (U.Create label) = refl
one_length S U.Coact = refl
one_length S U.Coret = refl
one_length S U.Cofail = refl
one_length S (U.Lab label) = refl

pub resolved_length : (S : Scope) (instrs : List UnitInstr) → length (resolve S instrs) ≡ count_by is_instruction instrs
resolved_length S [] = refl
resolved_length S (instr ∷ instrs) =
    let sum = sum_by-cons (λ i. cond (is_instruction i) 1 0) instr instrs in
    let one = one_length S instr in
    let rest = resolved_length S instrs in
    length-append (resolved_one S instr) (resolve S instrs) ∙ omega (arith, sum, one, rest)

label_within_by : (label : ℕ) (place : Option ℕ) (behind n : ℕ) → behind ≤ n
    → label_address_by label place behind ≤ cond (not (is_some place)) 1 0 + n
label_within_by label None behind n h = omega (arith, h)
label_within_by label (Some other) behind n h = by (nat_eq label other)
  where
    by : (test : Bool) → (if test then 0 else behind) ≤ 0 + n
    by true = omega arith
    by false = omega (arith, h)

pub label_within : (label : ℕ) (instrs : List UnitInstr) → label_address label instrs ≤ count_by is_instruction instrs
label_within label [] = omega arith
label_within label (instr ∷ instrs) =
    let sum = sum_by-cons (λ i. cond (is_instruction i) 1 0) instr instrs in
    let one = label_within_by label (own_label instr) (label_address label instrs) (count_by is_instruction instrs) (label_within label instrs) in
    omega (arith, sum, one)

-- Instructions

-- what an instruction mentions is in the tables
unfoldable pub has_mention : AllMentions → Mention → Bool
has_mention M NoMention = true
has_mention M (AnInteger n) = has_integer_index M.integers n
has_mention M (AText text) = has_index M.strings text
has_mention M (ASet members) = has_index M.sets members
has_mention M (AField name) = has_index M.fields name
has_mention M (Operands count) = true

-- the tables are as long as what is mentioned
pub record Long (M : AllMentions) (T : Tables) : Type 0 where
  pub strings : length T.strings ≡ length M.strings
  pub integers : length T.integers ≡ length M.integers
  pub sets : length T.csets ≡ length M.sets
  pub fields : length T.fields ≡ length M.fields
  pub globals : length T.globals ≡ length M.globals

-- the variables and the labels of a procedure of so many names are there
record There (T : Tables) (proc : ProcEntry) (V : List Instr) (L : ℕ → ℕ) (n : ℕ) : Type 0 where
  variable : (k : ℕ) → nat_lt k n ≡ true → Rules.is_instr T proc (variable_at V k) ≡ true
  label : (l : ℕ) → nat_le (L l) (length proc.instrs) ≡ true

-- a number of ucode is one of linked code
number_fits : (n : ℕ) → is_number n ≡ true → Rules.is_number n ≡ true
number_fits n h = lt-ltb _ _ (omega (arith, leb-true n 4294967295 h))

instr_fits : (M : AllMentions) (T : Tables) (proc : ProcEntry) (V : List Instr) (L : ℕ → ℕ) (names : ℕ) → Long M T
    → There T proc V L names → (instr : UnitInstr) → has_mention M (mention_of instr) ≡ true → is_joinable_instr names instr ≡ true
    → list_all (Rules.is_instr T proc) (resolved_one (scope_with M V L) instr) ≡ true
unfolding has_mention
instr_fits M T proc V L names F G U.Pnull m o = and_intro refl refl
instr_fits M T proc V L names F G (U.Int n) m o = and_intro (ap (nat_lt (integer_index M.integers n)) F.integers ∙ m) refl
instr_fits M T proc V L names F G (U.Str bytes) m o = and_intro (ap (nat_lt (text_index M.strings bytes)) F.strings ∙ m) refl
instr_fits M T proc V L names F G (U.Cset members) m o = and_intro (ap (nat_lt (text_index M.sets members)) F.sets ∙ m) refl
instr_fits M T proc V L names F G (U.Var k) m o = and_intro (G.variable k o) refl
instr_fits M T proc V L names F G (U.Keywd keyword) m o = and_intro refl refl
instr_fits M T proc V L names F G U.Pop m o = and_intro refl refl
instr_fits M T proc V L names F G U.Dup m o = and_intro refl refl
instr_fits M T proc V L names F G (U.Op op) m o = and_intro refl refl
instr_fits M T proc V L names F G (U.Llist n) m o = and_intro (number_fits n o) refl
instr_fits M T proc V L names F G (U.Field name) m o = and_intro (ap (nat_lt (text_index M.fields name)) F.fields ∙ m) refl
instr_fits M T proc V L names F G (U.Invoke n) m o = and_intro (number_fits n o) refl
instr_fits M T proc V L names F G U.Appl m o = and_intro refl refl
instr_fits M T proc V L names F G (U.Mark label) m o = and_intro (G.label label) refl
instr_fits M T proc V L names F G U.Mark0 m o = and_intro refl refl
instr_fits M T proc V L names F G U.Unmark m o = and_intro refl refl
instr_fits M T proc V L names F G U.Eret m o = and_intro refl refl
instr_fits M T proc V L names F G U.Esusp m o = and_intro refl refl
instr_fits M T proc V L names F G U.Limit m o = and_intro refl refl
instr_fits M T proc V L names F G U.Lsusp m o = and_intro refl refl
instr_fits M T proc V L names F G U.Efail m o = and_intro refl refl
instr_fits M T proc V L names F G (U.Chfail label) m o = and_intro (G.label label) refl
instr_fits M T proc V L names F G (U.Goto label) m o = and_intro (G.label label) refl
instr_fits M T proc V L names F G (U.Loop label) m o = and_intro (G.label label) refl
instr_fits M T proc V L names F G U.Bscan m o = and_intro refl refl
instr_fits M T proc V L names F G U.Escan m o = and_intro refl refl
instr_fits M T proc V L names F G U.Ccase m o = and_intro refl refl
instr_fits M T proc V L names F G (U.Init label) m o = and_intro (G.label label) refl
instr_fits M T proc V L names F G U.Psusp m o = and_intro refl refl
instr_fits M T proc V L names F G U.Pret m o = and_intro refl refl
instr_fits M T proc V L names F G U.Pfail m o = and_intro refl refl
instr_fits M T proc V L names F G (U.Create label) m o = and_intro (G.label label) refl
instr_fits M T proc V L names F G U.Coact m o = and_intro refl refl
instr_fits M T proc V L names F G U.Coret m o = and_intro refl refl
instr_fits M T proc V L names F G U.Cofail m o = and_intro refl refl
instr_fits M T proc V L names F G (U.Lab label) m o = refl

-- Procedures

parameter_local : (globals : List (List ℕ)) (kind : NameKind) (name : List ℕ)
    → cond (is_parameter kind) 1 0 ≤ cond (is_local (variable_by globals kind name)) 1 0
parameter_local globals Kinds.Parameter name = omega arith
parameter_local globals Kinds.Local name = omega arith
parameter_local globals Kinds.Static name = omega arith
parameter_local globals Kinds.Undeclared name = omega arith

pub params_local : (globals : List (List ℕ)) (names : List UnitName) → params_in names ≤ locals_in globals names
params_local globals [] = omega arith
params_local globals (entry ∷ entries) =
    let a = sum_by-cons (λ (other : UnitName). cond (is_parameter other.kind) 1 0) entry entries in
    let b = sum_by-cons (λ (other : UnitName). cond (is_local (variable_of globals other)) 1 0) entry entries in
    let one = parameter_local globals entry.kind entry.name in
    let rest = params_local globals entries in
    omega (arith, a, b, one, rest)

pub proc_fits : (M : AllMentions) (T : Tables) → Long M T → (proc : PlainProc) → is_joinable_proc proc ≡ true
    → list_all (λ instr. has_mention M (mention_of instr)) proc.instrs ≡ true → has_index M.strings proc.name ≡ true
    → locals_in M.globals proc.names ≤ 65535 → statics_in M.globals proc.names ≤ 65535 → size_of proc ≤ 16777216
    → Rules.is_proc T (proc_entry M proc) ≡ true
proc_fits M T F proc kept mentions name locals statics size =
    let entry = proc_entry M proc in
    let collects = not proc.collects || nat_lt 0 (params_in proc.names) in
    let names = list_all is_name (entry_names proc.names) in
    let operands = list_all (λ instr. is_joinable_instr (length proc.names) instr) proc.instrs in
    let asked = and_parts (is_name proc.name && collects && names) operands kept in
    let head = (and_parts (is_name proc.name && collects) names asked.0).0 in
    let few = params_local M.globals proc.names in
    let long : length entry.instrs ≡ size_of proc = resolved_length (scope_of M proc) proc.instrs in
    let there : There T entry (variables M.globals 0 0 proc.names) (λ label. label_address label proc.instrs) (length proc.names) =
    record {
      variable = λ k. variable_there T entry M.globals proc.names k F.globals (omega (arith, few)) (omega arith);
      label = λ l. le-leb _ _ (let w = label_within l proc.instrs in omega (arith, w, long));
    } in
    and_intro
    (and_intro (and_intro (and_intro (and_intro (ap (λ n. nat_lt (text_index M.strings proc.name) n) F.strings ∙ name)
    (and_parts (is_name proc.name) collects head).1)
    (le-leb _ _ (omega (arith, few, locals)))) (le-leb _ _ statics)) (lt-ltb _ _ (omega (arith, long, size))))
    (all_of_flat (Rules.is_instr T entry) (resolved_one (scope_of M proc)) proc.instrs
    (all_with _ _ _ (λ instr. instr_fits M T entry _ _ (length proc.names) F there instr) proc.instrs mentions asked.1))

-- The entry of a procedure

pub entry_made : (M : AllMentions) (proc : PlainProc) (V : List Instr) (L : ℕ → ℕ) (locals statics : ℕ) (instrs : List Instr)
    → V ≡ variables M.globals 0 0 proc.names → ((label : ℕ) → L label ≡ label_address label proc.instrs)
    → locals ≡ locals_in M.globals proc.names → statics ≡ statics_in M.globals proc.names → instrs ≡ resolve (scope_with M V L) proc.instrs
    → entry_of M proc locals statics instrs ≡ proc_entry M proc
entry_made M proc V L locals statics instrs v l a b is =
    let same : instrs ≡ resolve (scope_of M proc) proc.instrs =
    is ∙ ap (λ W. resolve (scope_with M W L) proc.instrs) v
    ∙ ap (λ (K : ℕ → ℕ). resolve (scope_with M (variables M.globals 0 0 proc.names) K) proc.instrs) (λ i label. l label i) in
    ap (λ n. entry_of M proc n statics instrs) a ∙ ap (λ n. entry_of M proc (locals_in M.globals proc.names) n instrs) b
    ∙ ap (entry_of M proc (locals_in M.globals proc.names) (statics_in M.globals proc.names)) same

-- what holds of all procedures, at one of them
pub at_item : (p : PlainProc → Bool) (procs : List (Bor ProcCode)) (i : ℕ) (x : Bor ProcCode) → i < length procs → x ≡ get_or procs i x
    → list_all p (procs_seen procs) ≡ true → p (proc_seen x.now) ≡ true
at_item p [] i x w is h = absurd (omega arith)
at_item p (y ∷ ys) zero x w is h = ap (λ (z : Bor ProcCode). p (proc_seen z.now)) is ∙ (and_parts _ _ h).0
at_item p (y ∷ ys) (suc i) x w is h = at_item p ys i x (omega arith) is (and_parts _ _ h).1
