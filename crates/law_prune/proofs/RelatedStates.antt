-- Stores, states and code of both runs.
use Rattle.std.proofs.Common.{◌≡◌, ℕ, zero, suc, ◌+◌, Bool, List, [], ◌∷◌, ◌++◌, length, refl}
use Rattle.std.specs.Prelude.{slice_get, slice_index_or, slice_set}
use Rattle.icn_value.specs.Values.{Value}
use Rattle.icn_value.specs.Store.{Names, Outside, Setting}
use Rattle.icn_code.specs.declared.instr.Instr.{Instr}
use Rattle.icn_code.specs.declared.instr.Instr.TheVariants as I
use Rattle.icn_code.specs.Codes.{Proc as Procedure, RecordType, Tables}
use Rattle.icn_text.specs.declared.func.Func.{Func}
use Rattle.icn_defs.specs.Running.{Ending}
use Rattle.icn_run.specs.Step as S
use Rattle.icn_run.specs.Step.{Status, Fresh, Active, Waiting, Exhausted, Coexp, Store, State, running, failing, hopping, over, stuck, Callee, IsProc, IsRecord, IsFunc, IsNothing}
use Rattle.law_prune.proofs.RelatedValues.{ValueTo}
use Rattle.law_prune.proofs.RelatedLists.{Both, OptionTo, PlacesTo, both_append, both_cons, both_get, both_nil}
use Rattle.law_prune.proofs.RelatedSettings.{Renaming, Parts, PartsTo, parts_of, view}

-- what a store has in other words in the run of the pruned code
pub record StoreParts (K : Type 0) : Type 0 where
  pub parts : Parts
  pub begun : List Bool
  pub coexps : List (Coexp K)
  pub names : Names

-- the setting of a store, without locals
abbrev pub setting_of : {K : Type 0} → Store K → Setting
setting_of st = record { world = st.world; locals = []; outside = st.outside }

abbrev pub without_locals : Parts → Parts
without_locals p = record p { locals = [] }

-- the store with these parts
abbrev pub store_view : {K : Type 0} → Store K → StoreParts K → Store K
store_view st q = record {
  world = (view (setting_of st) q.parts).world;
  outside = st.outside;
  turns = st.turns;
  begun = q.begun;
  coexps = q.coexps;
  active = st.active;
  names = q.names;
}

-- a co-expression has not begun
abbrev pub IsFresh : {K : Type 0} → Status K → Type 0
IsFresh Fresh = Unit {0}
IsFresh Active = ⊥
IsFresh (Waiting k) = ⊥
IsFresh Exhausted = ⊥

pub data StatusTo {K : Type 0} (Away : K → K → Type 0) : Status K → Status K → Type 0 where
  fresh_to : StatusTo Away Fresh Fresh
  active_to : StatusTo Away Active Active
  waiting_to : {k j : K} → Away k j → StatusTo Away (Waiting k) (Waiting j)
  exhausted_to : StatusTo Away Exhausted Exhausted

-- an instruction that takes nothing from a table
abbrev pub IsPlain : Instr → Type 0
IsPlain (I.Int place) = ⊥
IsPlain (I.Str place) = ⊥
IsPlain (I.Cset place) = ⊥
IsPlain (I.Global place) = ⊥
IsPlain (I.Static place) = ⊥
IsPlain (I.Field place) = ⊥
IsPlain instr = Unit {0}

-- a procedure, with another name and other instructions
pub data EntryTo : Procedure → Procedure → Type 0 where
  entry_to : (entry : Procedure) (name : ℕ) (instrs : List Instr) → EntryTo entry (record entry { name = name; instrs = instrs })

module _ (R : Renaming) where
  -- what a co-expression was made with
  pub record MadeTo {K : Type 0} (c d : Coexp K) : Type 0 where
    pub values : Both (ValueTo R.To) c.values d.values
    pub proc : R.To c.proc d.proc
    pub address : c.address ≡ d.address

  -- co-expressions; what one was made with counts only until it has begun
  pub record CoexpTo {K : Type 0} (Away : K → K → Type 0) (c d : Coexp K) : Type 0 where
    pub status : StatusTo Away c.status d.status
    pub activator : c.activator ≡ d.activator
    pub made : IsFresh c.status → MadeTo c d

  -- one that `create` made
  pub record CreatedTo {K : Type 0} (Away : K → K → Type 0) (c d : Coexp K) : Type 0 where
    pub status : StatusTo Away c.status d.status
    pub activator : c.activator ≡ d.activator
    pub made : MadeTo c d

  -- `&main` is the first, and no `create` made it
  pub data CoexpsTo {K : Type 0} (Away : K → K → Type 0) : List (Coexp K) → List (Coexp K) → Type 0 where
    coexps_to : {c d : Coexp K} {cs ds : List (Coexp K)} → CoexpTo Away c d → Both (CreatedTo Away) cs ds → CoexpsTo Away (c ∷ cs) (d ∷ ds)

  pub record StoreTo {K : Type 0} (Away : K → K → Type 0) (st : Store K) (q : StoreParts K) : Type 0 where
    pub parts : PartsTo R (without_locals (parts_of (setting_of st))) (without_locals q.parts)
    pub begun : PlacesTo R.To (λ (a b : Bool). a ≡ b) st.begun q.begun
    pub coexps : CoexpsTo Away st.coexps q.coexps
    pub whole : st.names ≡ R.whole
    pub left : q.names ≡ R.left

  pub data StateTo {K M : Type 0} (Now : M → M → Type 0) (Away : K → K → Type 0) : State K M → State K M → Type 0 where
    running_to : {m n : M} (st : Store K) (q : StoreParts K) → Now m n → StoreTo Away st q → StateTo Now Away (running m st) (running n (store_view st q))
    failing_to : {m n : M} (st : Store K) (q : StoreParts K) → Now m n → StoreTo Away st q → StateTo Now Away (failing m st) (failing n (store_view st q))
    hopping_to : {m n : M} (st : Store K) (q : StoreParts K) → Now m n → StoreTo Away st q → StateTo Now Away (hopping m st) (hopping n (store_view st q))
    over_to : (ending : Ending) (outside : Outside) → StateTo Now Away (over ending outside) (over ending outside)
    stuck_to : StateTo Now Away stuck stuck

  -- Code

  pub data InstrTo (P Q : Tables) (p q : ℕ) : Instr → Instr → Type 0 where
    plain_to : (i : Instr) → IsPlain i → InstrTo P Q p q i i
    int_to : (k j : ℕ) → slice_get P.integers k ≡ slice_get Q.integers j → InstrTo P Q p q (I.Int k) (I.Int j)
    str_to : (k j : ℕ) → slice_get P.strings k ≡ slice_get Q.strings j → InstrTo P Q p q (I.Str k) (I.Str j)
    cset_to : (k j : ℕ) → slice_get P.csets k ≡ slice_get Q.csets j → InstrTo P Q p q (I.Cset k) (I.Cset j)
    global_at_to : (k j : ℕ) → R.GlobalTo k j → InstrTo P Q p q (I.Global k) (I.Global j)
    static_at_to : (k : ℕ) → R.StaticTo (S.statics_before P p + k) (S.statics_before Q q + k) → InstrTo P Q p q (I.Static k) (I.Static k)
    field_at_to : (k j : ℕ) → ((kind : ℕ) → S.field_index P k kind ≡ S.field_index Q j kind) → InstrTo P Q p q (I.Field k) (I.Field j)

  pub data CalleeTo : Callee → Callee → Type 0 where
    is_proc_to : (entry : Procedure) (name : ℕ) (instrs : List Instr) → CalleeTo (IsProc entry) (IsProc (record entry { name = name; instrs = instrs }))
    is_record_to : (kind : ℕ) (entry other : RecordType) → length entry.fields ≡ length other.fields → CalleeTo (IsRecord kind entry) (IsRecord kind other)
    is_func_to : (func : Func) → CalleeTo (IsFunc func) (IsFunc func)
    is_nothing_to : CalleeTo IsNothing IsNothing

  -- what related numbers stand for is related
  pub record CodeTo (P Q : Tables) : Type 0 where
    pub instrs : (p q address : ℕ) → R.To p q → OptionTo (InstrTo P Q p q) (slice_get (S.instrs_of P p) address) (slice_get (S.instrs_of Q q) address)
    pub callee : (n k : ℕ) → R.To n k → CalleeTo (S.callee_of P n) (S.callee_of Q k)

  -- Co-expressions by their numbers

  module _ {K : Type 0} (Away : K → K → Type 0) where
    abbrev none_there : Coexp K
    none_there = record { status = Exhausted; activator = zero; values = []; proc = zero; address = zero }

    created_at : (cs ds : List (Coexp K)) (n : ℕ) → Both (CreatedTo Away) cs ds
        → CoexpTo Away (slice_index_or cs n none_there) (slice_index_or ds n none_there)
    created_at cs ds n both_nil = record { status = exhausted_to; activator = refl; made = λ f. absurd f }
    created_at cs ds zero (both_cons h t) = record { status = h.status; activator = h.activator; made = λ f. h.made }
    created_at cs ds (suc n) (both_cons h t) = created_at _ _ n t

    pub coexp_there : (cs ds : List (Coexp K)) (n : ℕ) → CoexpsTo Away cs ds → CoexpTo Away (slice_index_or cs n none_there) (slice_index_or ds n none_there)
    coexp_there cs ds zero (coexps_to h t) = h
    coexp_there cs ds (suc n) (coexps_to h t) = created_at _ _ n t

    pub created_there : (cs ds : List (Coexp K)) (n : ℕ) → CoexpsTo Away cs ds → OptionTo (CreatedTo Away) (slice_get cs (suc n)) (slice_get ds (suc n))
    created_there cs ds n (coexps_to h t) = both_get (CreatedTo Away) _ _ n t

    created_status : (s u : Status K) → StatusTo Away s u → (cs ds : List (Coexp K)) (n : ℕ) → Both (CreatedTo Away) cs ds
        → Both (CreatedTo Away) (slice_set cs n (record (slice_index_or cs n none_there) { status = s }))
        (slice_set ds n (record (slice_index_or ds n none_there) { status = u }))
    created_status s u g cs ds n both_nil = both_nil
    created_status s u g cs ds zero (both_cons h t) = both_cons (record {
      status = g;
      activator = h.activator;
      made = record { values = h.made.values; proc = h.made.proc; address = h.made.address };
    }) t
    created_status s u g cs ds (suc n) (both_cons h t) = both_cons h (created_status s u g _ _ n t)

    pub coexps_status : (s u : Status K) → StatusTo Away s u → (IsFresh s → ⊥) → (cs ds : List (Coexp K)) (n : ℕ) → CoexpsTo Away cs ds
        → CoexpsTo Away (slice_set cs n (record (slice_index_or cs n none_there) { status = s }))
        (slice_set ds n (record (slice_index_or ds n none_there) { status = u }))
    coexps_status s u g old cs ds zero (coexps_to h t) = coexps_to (record { status = g; activator = h.activator; made = λ f. absurd (old f) }) t
    coexps_status s u g old cs ds (suc n) (coexps_to h t) = coexps_to h (created_status s u g _ _ n t)

    created_activator : (a : ℕ) (cs ds : List (Coexp K)) (n : ℕ) → Both (CreatedTo Away) cs ds
        → Both (CreatedTo Away) (slice_set cs n (record (slice_index_or cs n none_there) { activator = a }))
        (slice_set ds n (record (slice_index_or ds n none_there) { activator = a }))
    created_activator a cs ds n both_nil = both_nil
    created_activator a cs ds zero (both_cons h t) = both_cons (record {
      status = h.status;
      activator = refl;
      made = record { values = h.made.values; proc = h.made.proc; address = h.made.address };
    }) t
    created_activator a cs ds (suc n) (both_cons h t) = both_cons h (created_activator a _ _ n t)

    pub coexps_activator : (a : ℕ) (cs ds : List (Coexp K)) (n : ℕ) → CoexpsTo Away cs ds
        → CoexpsTo Away (slice_set cs n (record (slice_index_or cs n none_there) { activator = a }))
        (slice_set ds n (record (slice_index_or ds n none_there) { activator = a }))
    coexps_activator a cs ds zero (coexps_to h t) = coexps_to (record {
      status = h.status;
      activator = refl;
      made = λ f. record { values = (h.made f).values; proc = (h.made f).proc; address = (h.made f).address };
    }) t
    coexps_activator a cs ds (suc n) (coexps_to h t) = coexps_to h (created_activator a _ _ n t)

    pub coexps_more : (vs ws : List Value) (p q address : ℕ) (cs ds : List (Coexp K)) → Both (ValueTo R.To) vs ws → R.To p q → CoexpsTo Away cs ds
        → CoexpsTo Away (cs ++ record { status = Fresh; activator = zero; values = vs; proc = p; address = address } ∷ [])
        (ds ++ record { status = Fresh; activator = zero; values = ws; proc = q; address = address } ∷ [])
    coexps_more vs ws p q address cs ds g t (coexps_to h k) = coexps_to h (both_append (CreatedTo Away) _ _ _ _ k
        (both_cons (record { status = fresh_to; activator = refl; made = record { values = g; proc = t; address = refl } }) both_nil))

  -- The store after a row, and before it

  module _ {K : Type 0} (Away : K → K → Type 0) where
    pub parts_here : (st : Store K) (q : StoreParts K) (vs ws : List Value) → StoreTo Away st q → Both (ValueTo R.To) vs ws
        → PartsTo R (parts_of (record (setting_of st) { locals = vs })) (record q.parts { locals = ws })
    parts_here st q vs ws h g = record {
      lists = h.parts.lists;
      sets = h.parts.sets;
      tables = h.parts.tables;
      records = h.parts.records;
      globals = h.parts.globals;
      statics = h.parts.statics;
      locals = g;
      kept = h.parts.kept;
    }

    pub at_to : (st : Store K) (q : StoreParts K) (a : Setting) (p : Parts) → StoreTo Away st q → PartsTo R (parts_of a) p
        → StoreTo Away (S.with_at a st) (record q { parts = p })
    at_to st q a p h g = record {
      parts = record {
        lists = g.lists;
        sets = g.sets;
        tables = g.tables;
        records = g.records;
        globals = g.globals;
        statics = g.statics;
        locals = both_nil;
        kept = g.kept;
      };
      begun = h.begun;
      coexps = h.coexps;
      whole = h.whole;
      left = h.left;
    }
