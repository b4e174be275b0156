-- The start of the run of a code: what it names has a name.
use Rattle.std.proofs.Common.{◌≡◌, ◌<◌, ℕ, Bool, true, false, List, [], ◌∷◌, ◌++◌, length, Option, Some, None, refl, arith}
use Rattle.std.specs.Prelude.{◌&&◌, map, nat_le, nat_lt, replicate, slice_get}
use Rattle.std.specs.List.{list_all}
use Rattle.std.proofs.lemmas.Bool.{ltb-true}
use Rattle.std.proofs.lemmas.List.{length-map}
use Rattle.icn_text.proofs.FuncNames.{func_below}
use Rattle.icn_value.specs.Values.{Value, Null}
use Rattle.icn_code.specs.declared.code.Global.{Global as GlobalEntry}
use Rattle.icn_code.specs.declared.code.Start.{Start}
use Rattle.icn_code.specs.declared.code.Start.TheVariants as Starts
use Rattle.icn_code.specs.Codes.{Tables, Proc as Procedure}
use Rattle.icn_code.specs.Rules.{keeps_rules, is_global, is_proc, is_start}
use Rattle.icn_defs.specs.Running.{Launch, words_row}
use Rattle.law_names.specs.RowsNamed.{RowsKeepNames}
use Rattle.icn_run.specs.Stacks as flats
use Rattle.icn_run.specs.Stacks.{Frames, flat, empty}
use Rattle.icn_run.specs.Step as S
use Rattle.icn_run.specs.Step.{Store, running}
use Rattle.law_steps.specs.Starts.{StartsNamed}
use Rattle.law_steps.proofs.CallsNamed as C
use Rattle.law_rows.proofs.EachOfList.{Each, all_of, each_append}
use Rattle.law_steps.proofs.StepsNamed as N

both : (a b : Bool) → (a && b) ≡ true → (a ≡ true) × (b ≡ true)
both true b is = (refl, is)
both false b is = let none : ⊥ = cc in absurd none

module _ (rows : RowsKeepNames) (P : Tables) where
  abbrev NamedValue : Value → Type 0
  NamedValue v = N.NamedValue rows P v

  abbrev NamedStack : Frames → Type 0
  NamedStack m = N.NamedStack rows P m

  abbrev is_one : GlobalEntry → Bool
  is_one global = is_global (length P.strings) (length P.records) (length P.procs) global

  start_named : (start : Start) → is_start (length P.records) (length P.procs) start ≡ true → NamedValue (S.start_value P start)
  start_named Starts.Null is = tt
  start_named (Starts.Procedure place) is =
      let low : place < length P.procs = ltb-true place (length P.procs) is in
      omega (arith, low, length-map P.procs (S.proc_name P), length-map P.records (S.record_name P))
  start_named (Starts.Record place) is =
      let low : place < length P.records = ltb-true place (length P.records) is in
      omega (arith, low, length-map P.procs (S.proc_name P), length-map P.records (S.record_name P))
  start_named (Starts.Function func) is = omega (arith, func_below func, length-map P.procs (S.proc_name P), length-map P.records (S.record_name P))

  globals_named : (globals : List GlobalEntry) → list_all is_one globals ≡ true → Each NamedValue (map (S.global_value P) globals)
  globals_named [] are = tt
  globals_named (global ∷ globals) are =
      let now = both (is_one global) (list_all is_one globals) are in (
        start_named global.start (both (nat_lt global.name (length P.strings)) (is_start (length P.records) (length P.procs) global.start) now.0).1,
        globals_named globals now.1,
      )

  store_named : (launch : Launch) → Each NamedValue (S.first_globals P) → N.K rows P (S.first_store P launch)
  store_named launch globals = record {
    world = record {
      heap = record { lists = all_of _ [] tt; sets = all_of _ [] tt; tables = all_of _ [] tt; records = all_of _ [] tt };
      globals = all_of NamedValue (S.first_globals P) globals;
      statics = all_of NamedValue (replicate (S.static_count P) Null) (N.nulls rows P (S.static_count P));
      kept = tt;
    };
    coexps = (record { status = tt; values = all_of NamedValue [] tt }, tt);
  }

  begun : (t : Bool) (n : ℕ) (entry : Procedure) (vs : List Value) (m : Frames) (st : Store Frames) → Each NamedValue vs → NamedStack m → N.K rows P st
      → N.G rows P (S.begun_if flat t n entry vs m st)
  begun false n entry vs m st a h k = N.erred rows P 301 None m st (tt, refl) h k
  begun true n entry vs m st a h k =
      N.collected rows P entry.collects entry.parameters vs m st
      (λ parameters m st. running (flats.begin n (parameters ++ replicate entry.locals Null) 0 m) st) a h k
      (λ vs m st a h k. (
        C.begin (N.ns rows P) n (vs ++ replicate entry.locals Null) 0 m
            (each_append NamedValue vs (replicate entry.locals Null) a (N.nulls rows P entry.locals)),
        k,
      ))

  started : (words : List (List ℕ)) (m : Frames) (st : Store Frames) (o : Option ℕ) → NamedStack m → N.K rows P st → N.G rows P (S.start_of flat P words m st o)
  started words m st None h k = N.erred rows P 117 None m st (tt, refl) h k
  started words m st (Some main) h k =
      N.any rows P (slice_get P.procs main) (λ entry. S.with_made flat (words_row words (S.here flat m st)) m st
      (λ list m st. S.begun_if flat (nat_le 1 st.world.heap.bounds.levels) main entry (list ∷ []) m st))
      (λ entry.
      N.made rows P (words_row words (S.here flat m st)) m st (λ list m st. S.begun_if flat (nat_le 1 st.world.heap.bounds.levels) main entry (list ∷ []) m st)
      (rows.words (N.ns rows P) words (S.here flat m st) (N.here rows P m st h k)) h k
      (λ v m s n h k. begun (nat_le 1 s.world.heap.bounds.levels) main entry (v ∷ []) m s (n, tt) h k))

globals_kept : (tables : Tables) → keeps_rules tables ≡ true
    → list_all (is_global (length tables.strings) (length tables.records) (length tables.procs)) tables.globals ≡ true
unfolding keeps_rules
globals_kept tables is =
    let a = both _ (list_all (is_proc tables) tables.procs) is in
    let b = both _ _ a.0 in
    let c = both _ (list_all (is_global (length tables.strings) (length tables.records) (length tables.procs)) tables.globals) b.0 in
    c.1

pub starts_named : RowsKeepNames → StartsNamed
starts_named rows = λ P launch is.
    N.state_out rows P _ (started rows P launch.words empty (S.first_store P launch) (S.main_of P) tt
    (store_named rows P launch (globals_named rows P P.globals (globals_kept P is))))
