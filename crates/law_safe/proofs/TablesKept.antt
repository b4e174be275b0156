-- Tables that keep their rules have what a run needs of them.
use Rattle.std.proofs.Common.{◌≡◌, ℕ, zero, suc, ◌<◌, Bool, true, false, List, [], ◌∷◌, length, map, Option, Some, None, refl, subst}
use Rattle.std.specs.Prelude.{slice_get, nat_lt, find, cond, ◌||◌, not}
use Rattle.std.specs.List.{list_all}
use Rattle.std.specs.Option.{option_map_or, option_and_then}
use Rattle.std.proofs.lemmas.Bool.{ltb-true}
use Rattle.icn_code.specs.declared.instr.Instr.{Instr}
use Rattle.icn_code.specs.declared.instr.Instr.TheVariants as Instrs
use Rattle.icn_code.specs.declared.code.Global.{Global as GlobalEntry}
use Rattle.icn_code.specs.declared.code.Start.{Start}
use Rattle.icn_code.specs.declared.code.Start.TheVariants as Starts
use Rattle.icn_code.specs.Codes.{Tables, Proc as Procedure}
use Rattle.icn_code.specs.Rules.{keeps_rules, is_instr, is_head, is_proc, is_start, is_global}
use Rattle.icn_run.specs.Step.{global_value, start_value, procedure_at}
use Rattle.law_stacks.proofs.CellLists.{some_injective, none_is_not_some}
use Rattle.law_safe.specs.Within.{Each, ValueWithin}
use Rattle.law_safe.specs.Shaped.{InRange}
use Rattle.law_safe.specs.NoStuck.{TablesOk}
use Rattle.law_safe.proofs.InstructionSteps.{both}
use Rattle.law_safe.proofs.MarkCalls.{false_is_not_true}

all_get : {A : Type 0} (test : A → Bool) (xs : List A) (n : ℕ) (x : A) → list_all test xs ≡ true → slice_get xs n ≡ Some x → test x ≡ true
all_get test [] n x h e = none_is_not_some x e
all_get test (y ∷ ys) zero x h e = subst (λ z. test z ≡ true) (some_injective e) (both (test y) (list_all test ys) h).0
all_get test (y ∷ ys) (suc n) x h e = all_get test ys n x (both (test y) (list_all test ys) h).1 e

in_range : (tables : Tables) (proc : Procedure) (instr : Instr) → is_instr tables proc instr ≡ true → InRange tables instr
in_range tables proc (Instrs.Int k) h = ltb-true k (length tables.integers) h
in_range tables proc (Instrs.Str k) h = ltb-true k (length tables.strings) h
in_range tables proc (Instrs.Cset k) h = ltb-true k (length tables.csets) h
in_range tables proc _ h = tt

instrs_by : (tables : Tables) (o : Option Procedure) → ((proc : Procedure) → o ≡ Some proc → is_proc tables proc ≡ true) → (place : ℕ) (instr : Instr)
    → slice_get (option_map_or (λ (entry : Procedure). entry.instrs) o []) place ≡ Some instr → InRange tables instr
instrs_by tables None f place instr e = none_is_not_some instr e
instrs_by tables (Some proc) f place instr e = in_range tables proc instr (all_get (is_instr tables proc) proc.instrs place instr
    (both (is_head (length tables.strings) proc) (list_all (is_instr tables proc) proc.instrs) (f proc refl)).1 e)

-- a last parameter that collects is there
some_parameter : (a b : Bool) → (not a || b) ≡ true → a ≡ true → b ≡ true
some_parameter true b h e = h
some_parameter false b h e = false_is_not_true e

collects_one : (tables : Tables) (proc : Procedure) → is_proc tables proc ≡ true → proc.collects ≡ true → 0 < proc.parameters
collects_one tables proc h e =
    let a = both (is_head (length tables.strings) proc) (list_all (is_instr tables proc) proc.instrs) h in
    let b = both _ _ a.0 in
    let c = both _ _ b.0 in
    let d = both _ _ c.0 in
    let f = both (nat_lt proc.name (length tables.strings)) (not proc.collects || nat_lt 0 proc.parameters) d.0 in
    ltb-true 0 proc.parameters (some_parameter proc.collects (nat_lt 0 proc.parameters) f.1 e)

start_within : (tables : Tables) (start : Start) → ValueWithin 1 (start_value tables start)
start_within tables Starts.Null = tt
start_within tables (Starts.Procedure place) = tt
start_within tables (Starts.Record place) = tt
start_within tables (Starts.Function func) = tt

globals_within : (tables : Tables) (globals : List GlobalEntry) → Each (ValueWithin 1) (map (global_value tables) globals)
globals_within tables [] = tt
globals_within tables (g ∷ globals) = (start_within tables g.start, globals_within tables globals)

main_by : (tables : Tables) (start : Start) (n : ℕ) → is_start (length tables.records) (length tables.procs) start ≡ true → procedure_at start ≡ Some n
    → n < length tables.procs
main_by tables Starts.Null n h e = none_is_not_some n e
main_by tables (Starts.Procedure place) n h e = subst (λ x. x < length tables.procs) (some_injective e) (ltb-true place (length tables.procs) h)
main_by tables (Starts.Record place) n h e = none_is_not_some n e
main_by tables (Starts.Function func) n h e = none_is_not_some n e

main_in : (tables : Tables) (test : GlobalEntry → Bool) (globals : List GlobalEntry) (n : ℕ)
    → list_all (is_global (length tables.strings) (length tables.records) (length tables.procs)) globals ≡ true
    → option_and_then (λ (global : GlobalEntry). procedure_at global.start) (find test globals) ≡ Some n → n < length tables.procs
main_in tables test [] n h e = none_is_not_some n e
main_in tables test (g ∷ globals) n h e =
    let d = both (is_global (length tables.strings) (length tables.records) (length tables.procs) g)
    (list_all (is_global (length tables.strings) (length tables.records) (length tables.procs)) globals) h in
    by (test g) e (both (nat_lt g.name (length tables.strings)) (is_start (length tables.records) (length tables.procs) g.start) d.0).1
    (main_in tables test globals n d.1)
  where
    by : (b : Bool) → option_and_then (λ (global : GlobalEntry). procedure_at global.start) (cond b (Some g) (find test globals)) ≡ Some n
        → is_start (length tables.records) (length tables.procs) g.start ≡ true
        → (option_and_then (λ (global : GlobalEntry). procedure_at global.start) (find test globals) ≡ Some n → n < length tables.procs)
        → n < length tables.procs
    by true e s more = main_by tables g.start n s e
    by false e s more = more e

-- tables that keep the rules have what a run needs
pub tables_ok : (tables : Tables) → keeps_rules tables ≡ true → TablesOk tables
unfolding keeps_rules
tables_ok tables h =
    let a = both _ (list_all (is_proc tables) tables.procs) h in
    let b = both _ _ a.0 in
    let c = both _ (list_all (is_global (length tables.strings) (length tables.records) (length tables.procs)) tables.globals) b.0 in
    record {
      instrs = λ p place instr e. instrs_by tables (slice_get tables.procs p) (λ proc z. all_get (is_proc tables) tables.procs p proc a.1 z) place instr e;
      collects = λ p entry e. collects_one tables entry (all_get (is_proc tables) tables.procs p entry a.1 e);
      globals = globals_within tables tables.globals;
      main = λ n e. main_in tables _ tables.globals n c.1 e;
    }
