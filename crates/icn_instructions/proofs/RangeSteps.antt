-- What the rules of a code and of its store give of what instructions name.
use Rattle.std.proofs.Common.{◌≡◌, ◌<◌, ◌≤◌, ◌+◌, ◌^◌, ℕ, zero, suc, Bool, true, false, ◌&&◌, List, [], ◌∷◌, length, take, map, slice_get, get_or, Option, Some, None, refl, sym, ap, ◌∙◌, subst, arith, ltb-true, leb-true}
use Rattle.std.specs.Prelude.{slice_index_or}
use Rattle.std.specs.List.{list_all, sum_by}
use Rattle.std.specs.Option.{option_map, option_map_or}
use Rattle.std.proofs.lemmas.List.{length-map}
use Rattle.std.proofs.lemmas.List.Sums.{sum_by-cons}
use Rattle.std.proofs.lemmas.Option.{same_Some, slice_get-get_or, slice_get-map, slice_get_within}
use Rattle.icn_value.specs.Store.{Outside}
use Rattle.icn_heap.specs.Extents.{value_in}
use Rattle.icn_vars.specs.Worlds.{Reach}
use Rattle.icn_frames.specs.Stacks as held
use Rattle.icn_frames.specs.Stacks.{FlatStack}
use Rattle.icn_code.specs.declared.instr.Instr.{Instr}
use Rattle.icn_code.specs.declared.instr.Instr.TheVariants as Instrs
use Rattle.icn_code.specs.Codes.{Tables, Proc}
use Rattle.icn_code.specs.Rules.{is_instr, is_proc, keeps_rules}
use Rattle.icn_run.specs.Step.{Store, instrs_of, statics_of, statics_before, static_count}
use Rattle.icn_control.specs.LiveStacks.{IsLiveStack, variables_of}
use Rattle.icn_control.specs.Machines.{extent, store_seen, world_reach}
use Rattle.icn_control.specs.declared.machine.Machine.{Machine}
use Rattle.icn_control.proofs.LiveFrames.{own_count}
use Rattle.icn_run.specs.InstructionNeeds.{HasVariables}
use Rattle.icn_instructions.specs.FirstStatics.{AreFirstStatics}
use Rattle.icn_instructions.specs.Ranges.{IsInRange, MayName}

pub range_as : (tables : Tables) (proc : ℕ) (i j : Instr) → i ≡ j → IsInRange tables proc i → IsInRange tables proc j
range_as tables proc i j e r = subst (λ (x : Instr). IsInRange tables proc x) e r

-- an entry of a table that was looked up
pub entry_at : {X Y : Type 0} (f : X → Y) (xs : List X) (n : ℕ) (x : X) → n < length (map f xs) → x ≡ get_or xs n x → slice_get (map f xs) n ≡ Some (f x)
entry_at f xs n x within is =
    let there = simp length-map at within in
    slice_get-map f xs n ∙ ap (option_map f) (slice_get-get_or xs n x there ∙ ap Some (sym is))

-- Places of tables

pub integer_there : (tables : Tables) (proc k : ℕ) → IsInRange tables proc (Instrs.Int k) → k < length tables.integers
integer_there tables proc k r = ltb-true k (length tables.integers) r.rule

pub cset_there : (tables : Tables) (proc k : ℕ) → IsInRange tables proc (Instrs.Cset k) → k < length tables.csets
cset_there tables proc k r = ltb-true k (length tables.csets) r.rule

pub global_there : (tables : Tables) (reach : Reach) (proc k : ℕ) → IsInRange tables proc (Instrs.Global k) → MayName tables reach → k < reach.globals
global_there tables reach proc k r n = subst (λ (c : ℕ). k < c) (sym n.globals) (ltb-true k (length tables.globals) r.rule)

pub local_there : (tables : Tables) (reach : Reach) (m : FlatStack) (k : ℕ) → IsInRange tables (held.proc m) (Instrs.Local k) → IsLiveStack tables reach m
    → k < held.local_count m
local_there tables reach m k r l =
    let count : held.local_count m ≡ r.entry.parameters + r.entry.locals = own_count tables reach m l ∙ ap
    (λ (o : Option Proc). option_map_or variables_of o 0) r.there in
    subst (λ (c : ℕ). k < c) (sym count) (ltb-true k (r.entry.parameters + r.entry.locals) r.rule)

-- Statics

-- those of a procedure come behind those of the procedures before it
pub statics_next : (procs : List Proc) (n : ℕ) (entry : Proc) → slice_get procs n ≡ Some entry
    → sum_by statics_of (take (suc n) procs) ≡ sum_by statics_of (take n procs) + entry.statics
statics_next [] n entry e = cc
statics_next (p ∷ procs) zero entry e = sum_by-cons statics_of p [] ∙ ap (λ (q : Proc). q.statics + 0) (same_Some _ _ e) ∙ omega arith
statics_next (p ∷ procs) (suc n) entry e =
    let next : sum_by statics_of (take (suc n) procs) ≡ sum_by statics_of (take n procs) + entry.statics = statics_next procs n entry e in
    let long : sum_by statics_of (p ∷ take (suc n) procs) ≡ p.statics + sum_by statics_of (take (suc n) procs) = sum_by-cons statics_of p
    (take (suc n) procs) in
    let short : sum_by statics_of (p ∷ take n procs) ≡ p.statics + sum_by statics_of (take n procs) = sum_by-cons statics_of p (take n procs) in
    omega (arith, next, long, short)

statics_within : (procs : List Proc) (n : ℕ) → sum_by statics_of (take n procs) ≤ sum_by statics_of procs
statics_within procs zero = omega arith
statics_within [] (suc n) = omega arith
statics_within (p ∷ procs) (suc n) =
    let rest : sum_by statics_of (take n procs) ≤ sum_by statics_of procs = statics_within procs n in
    omega (arith, rest, sum_by-cons statics_of p (take n procs), sum_by-cons statics_of p procs)

-- and none is past the last one
pub static_within : (tables : Tables) (proc : ℕ) (entry : Proc) → slice_get tables.procs proc ≡ Some entry
    → statics_before tables proc + entry.statics ≤ static_count tables
static_within tables proc entry e = omega (arith, statics_next tables.procs proc entry e, statics_within tables.procs (suc proc))

pub static_there : (tables : Tables) (proc k : ℕ) → IsInRange tables proc (Instrs.Static k) → statics_before tables proc + k < static_count tables
static_there tables proc k r =
    let low : k < r.entry.statics = ltb-true k r.entry.statics r.rule in
    omega (arith, low, static_within tables proc r.entry r.there)

looked_up : (firsts : List ℕ) (place first : ℕ) → slice_get firsts place ≡ Some first → slice_index_or firsts place 0 ≡ first
looked_up [] place first at = cc
looked_up (x ∷ firsts) zero first at = same_Some _ _ at
looked_up (x ∷ firsts) (suc place) first at = looked_up firsts place first at

-- the first static of a procedure that was looked up
pub first_static : (tables : Tables) (proc place k : ℕ) (firsts : List ℕ) → IsInRange tables proc (Instrs.Static k) → AreFirstStatics tables firsts
    → place ≡ proc → slice_index_or firsts place 0 ≡ statics_before tables proc
first_static tables proc place k firsts r are same =
    ap (λ (n : ℕ). slice_index_or firsts n 0) same
    ∙ looked_up firsts proc (statics_before tables proc) (are.each proc (slice_get_within tables.procs proc r.entry r.there))

pub first_within : (tables : Tables) (proc place k : ℕ) (firsts : List ℕ) → IsInRange tables proc (Instrs.Static k) → AreFirstStatics tables firsts
    → place ≡ proc → place < length firsts
first_within tables proc place k firsts r are same =
    subst (λ (n : ℕ). n < length firsts) (sym same)
    (slice_get_within firsts proc (statics_before tables proc) (are.each proc (slice_get_within tables.procs proc r.entry r.there)))

-- Rules

left : (a b : Bool) → (a && b) ≡ true → a ≡ true
left true b e = refl
left false b e = e

right : (a b : Bool) → (a && b) ≡ true → b ≡ true
right true b e = e
right false b e = cc

at_place : {X : Type 0} (p : X → Bool) (xs : List X) (n : ℕ) (x : X) → list_all p xs ≡ true → slice_get xs n ≡ Some x → p x ≡ true
at_place p [] n x h e = cc
at_place p (y ∷ xs) zero x h e = subst (λ z. p z ≡ true) (same_Some _ _ e) (left (p y) (list_all p xs) h)
at_place p (y ∷ xs) (suc n) x h e = at_place p xs n x (right (p y) (list_all p xs) h) e

procs_fit : (tables : Tables) → keeps_rules tables ≡ true → list_all (is_proc tables) tables.procs ≡ true
unfolding keeps_rules
procs_fit tables e = right _ _ e

-- the number of a static has 32 bits
pub few_statics : (tables : Tables) → keeps_rules tables ≡ true → static_count tables < 2 ^ 32
unfolding keeps_rules
few_statics tables e =
    let counted = right _ _ (left _ _ (left _ _ (left _ _ (left _ _ (left _ _ (left _ _ (left _ _ (left _ _ e)))))))) in
    let few : static_count tables ≤ 4294967295 = leb-true _ _ (right _ _ counted) in
    omega (arith, few)

-- an instruction that stands in a code is in range
pub instr_in_range : (tables : Tables) (proc place : ℕ) (instr : Instr) → keeps_rules tables ≡ true → slice_get (instrs_of tables proc) place ≡ Some instr
    → IsInRange tables proc instr
instr_in_range tables proc place instr rules e = by_proc (slice_get tables.procs proc) refl e
  where
    by_proc : (o : Option Proc) → slice_get tables.procs proc ≡ o → slice_get (option_map_or (λ (entry : Proc). entry.instrs) o []) place ≡ Some instr →
        IsInRange tables proc instr
    by_proc (Some entry) at q = record {
      entry = entry;
      there = at;
      rule = at_place (is_instr tables entry) entry.instrs place instr
          (right _ _ (at_place (is_proc tables) tables.procs proc entry (procs_fit tables rules) at)) q;
    }
    by_proc None at q = cc

-- Stores

pub begun_there : {K : Type 0} (tables : Tables) (st : Store K) (proc : ℕ) (instr : Instr) → IsInRange tables proc instr → HasVariables tables st
    → proc < length st.begun
begun_there tables st proc instr r h = subst (λ (n : ℕ). proc < n) (sym h.begun) (slice_get_within tables.procs proc r.entry r.there)

-- what a machine may name
pub may_name : {K : Type 0} (tables : Tables) (outside : Outside) (m : Machine K) → HasVariables tables (store_seen tables outside m)
    → MayName tables (world_reach m)
may_name tables outside m h = record {
  globals = sym (length-map m.world.globals.items (value_in (extent m))) ∙ h.globals;
  statics = sym (length-map m.world.statics.items (value_in (extent m))) ∙ h.statics;
}
