-- Tables of a code that are gone over, and words that are charged.
use Rattle.std.proofs.Common.{◌≡◌, ◌+◌, ◌≤◌, ℕ, zero, suc, Bool, true, false, ◌&&◌, nat_le, if◌then◌else◌, List, [], ◌∷◌, ◌++◌, length, map, replicate, None, Result, Ok, Err, inl, inr, refl, sym, ap, ◌∙◌, subst, arith, append_assoc, append-nil, leb-true}
use Rattle.std.specs.Prelude.{IsErrAnd, pos}
use Rattle.std.specs.List.{All, list_all, sum_by}
use Rattle.std.proofs.lemmas.Bool.{le-leb}
use Rattle.std.proofs.lemmas.List.{map-append, replicate-append-replicate}
use Rattle.std.proofs.lemmas.List.Sums.{sum_by-cons}
use Rattle.icn_value.specs.declared.full.Full.{Full}
use Rattle.icn_value.specs.declared.full.Full.TheVariants as Fulls
use Rattle.icn_value.specs.declared.val.Val.{Val}
use Rattle.icn_value.specs.declared.val.Val.TheVariants as Vals
use Rattle.icn_value.specs.Changes.{Refuses, charged_strings}
use Rattle.icn_value.specs.Limited.{Bounds}
use Rattle.icn_value.specs.Store.{Heap, World}
use Rattle.icn_value.specs.Values.{Value, Text}
use Rattle.icn_defs.specs.Running.{first_heap, text_values}
use Rattle.icn_heap.specs.Extents.{Extent, IsLive, KeepsValues, text_in, value_in}
use Rattle.icn_heap.specs.declared.heap.Heap.{Heap as HeldHeap}
use Rattle.icn_heap.specs.Heaps.{extent_of, heap_of}
use Rattle.icn_vars.specs.Worlds.{new_world}
use Rattle.icn_vars.specs.declared.stop.Stop.{Stop}
use Rattle.icn_vars.specs.declared.stop.Stop.TheVariants as Stops
use Rattle.icn_vars.specs.Stops.{stop_of}
use Rattle.icn_code.specs.declared.code.Global.{Global}
use Rattle.icn_code.specs.declared.code.LinkedProcedure.{LinkedProcedure}
use Rattle.icn_code.specs.Codes.{Tables, proc_of}
use Rattle.icn_run.specs.Step.{first_globals, global_value, start_value, static_count, statics_of}
use Rattle.icn_control.proofs.GrowthSteps.{values_same}
use Rattle.icn_calls.proofs.ParameterSteps.{nulls_live}
use Rattle.icn_machine.specs.Starting.{ChargesWords, WordsFit, world_charged}
use Rattle.icn_machine.proofs.StartSteps.{nulls_read}

more_of : {A : Type 0} (x : A) (n : ℕ) → replicate n x ++ x ∷ [] ≡ replicate (suc n) x
more_of x zero = refl
more_of x (suc n) = ap (λ (r : List _). x ∷ r) (more_of x n)

pub more_false : (now more : List Bool) (n : ℕ) → more ≡ now ++ false ∷ [] → now ≡ replicate n false → more ≡ replicate (n + 1) false
more_false now more n e f =
    let one : suc n ≡ n + 1 = omega arith in
    e ∙ ap (λ (r : List Bool). r ++ false ∷ []) f ∙ more_of false n ∙ ap (λ (k : ℕ). replicate k false) one

nothing_left : {A : Type 0} (xs : List A) → length xs ≡ 0 → xs ≡ []
nothing_left [] e = refl
nothing_left (x ∷ xs) e = absurd (omega arith)

left_of : (a b : Bool) → (a && b) ≡ true → a ≡ true
left_of true b e = refl
left_of false b e = e

right_of : (a b : Bool) → (a && b) ≡ true → b ≡ true
right_of true b e = e
right_of false b e = cc

-- Globals

pub one_global : (tables : Tables) (all : Extent) (vals more : List Val) (first : Global) (others rest : List Global) (val : Val) → rest ≡ first ∷ others
    → more ≡ vals ++ val ∷ [] → value_in all val ≡ start_value tables first.start
    → map (value_in all) vals ++ map (global_value tables) rest ≡ first_globals tables
    → map (value_in all) more ++ map (global_value tables) others ≡ first_globals tables
one_global tables all vals more first others rest val e p v so =
    let G : List Global → List Value = map (global_value tables) in
    let joined : (map (value_in all) vals ++ value_in all val ∷ []) ++ G others ≡ map (value_in all) vals ++ value_in all val ∷ G others = simp append_assoc in
    ap (λ (xs : List Val). map (value_in all) xs ++ G others) p
    ∙ ap (λ (xs : List Value). xs ++ G others) (map-append (value_in all) vals (val ∷ []))
    ∙ joined
    ∙ ap (λ (x : Value). map (value_in all) vals ++ x ∷ G others) v
    ∙ ap (λ (xs : List Global). map (value_in all) vals ++ G xs) (sym e)
    ∙ so

pub all_globals : (tables : Tables) (all : Extent) (vals : List Val) (rest : List Global) → length rest ≡ 0
    → map (value_in all) vals ++ map (global_value tables) rest ≡ first_globals tables → map (value_in all) vals ≡ first_globals tables
all_globals tables all vals rest none so =
    sym (append-nil (map (value_in all) vals))
    ∙ ap (λ (xs : List Global). map (value_in all) vals ++ map (global_value tables) xs) (sym (nothing_left rest none)) ∙ so

-- Statics

pub one_static : (tables : Tables) (vals more : List Val) (first : LinkedProcedure) (others rest : List LinkedProcedure) → rest ≡ first ∷ others
    → more ≡ vals ++ replicate first.statics Vals.Null
    → vals ++ replicate (sum_by statics_of (map proc_of rest)) Vals.Null ≡ replicate (sum_by statics_of tables.procs) Vals.Null
    → more ++ replicate (sum_by statics_of (map proc_of others)) Vals.Null ≡ replicate (sum_by statics_of tables.procs) Vals.Null
one_static tables vals more first others rest e p so =
    let rest_sum : ℕ = sum_by statics_of (map proc_of others) in
    let joined : (vals ++ replicate first.statics Vals.Null) ++ replicate rest_sum Vals.Null
    ≡ vals ++ (replicate first.statics Vals.Null ++ replicate rest_sum Vals.Null)
    = simp append_assoc in
    ap (λ (xs : List Val). xs ++ replicate rest_sum Vals.Null) p
    ∙ joined
    ∙ ap (λ (xs : List Val). vals ++ xs) (replicate-append-replicate first.statics rest_sum Vals.Null)
    ∙ ap (λ (n : ℕ). vals ++ replicate n Vals.Null) (sym (sum_by-cons statics_of (proc_of first) (map proc_of others)))
    ∙ ap (λ (xs : List LinkedProcedure). vals ++ replicate (sum_by statics_of (map proc_of xs)) Vals.Null) (sym e)
    ∙ so

pub all_statics : (tables : Tables) (vals : List Val) (rest : List LinkedProcedure) → length rest ≡ 0
    → vals ++ replicate (sum_by statics_of (map proc_of rest)) Vals.Null ≡ replicate (sum_by statics_of tables.procs) Vals.Null
    → vals ≡ replicate (sum_by statics_of tables.procs) Vals.Null
all_statics tables vals rest none so =
    sym (append-nil vals) ∙ ap (λ (xs : List LinkedProcedure). vals ++ replicate (sum_by statics_of (map proc_of xs)) Vals.Null) (sym (nothing_left rest none))
    ∙ so

-- Words

charge_ok : (h k : Heap) (n : ℕ) → charged_strings h n ≡ Ok k → (nat_le (h.strings + n) h.bounds.strings ≡ true) × (k ≡ record h { strings = h.strings + n })
unfolding charged_strings
charge_ok h k n e = by_test (nat_le (h.strings + n) h.bounds.strings) refl e
  where
    by_test : (t : Bool) → nat_le (h.strings + n) h.bounds.strings ≡ t
        → (if t then Ok (record h { strings = h.strings + n }) else Err (Fulls.Strings h.strings h.bounds.strings)) ≡ Ok k
        → (nat_le (h.strings + n) h.bounds.strings ≡ true) × (k ≡ record h { strings = h.strings + n })
    by_test true q f = let same : record h { strings = h.strings + n } ≡ k = cc in (q, sym same)
    by_test false q f = cc

charge_err : (h : Heap) (n : ℕ) (full : Full) → charged_strings h n ≡ Err full
    → (nat_le (h.strings + n) h.bounds.strings ≡ false) × (full ≡ Fulls.Strings h.strings h.bounds.strings)
unfolding charged_strings
charge_err h n full e = by_test (nat_le (h.strings + n) h.bounds.strings) refl e
  where
    by_test : (t : Bool) → nat_le (h.strings + n) h.bounds.strings ≡ t
        → (if t then Ok (record h { strings = h.strings + n }) else Err (Fulls.Strings h.strings h.bounds.strings)) ≡ Err full
        → (nat_le (h.strings + n) h.bounds.strings ≡ false) × (full ≡ Fulls.Strings h.strings h.bounds.strings)
    by_test false q f = (q, cc)
    by_test true q f = cc

-- the bytes of the words before the rest are charged to a heap that had none, and nothing else is changed
pub record HasCharged (first now : Heap) (rest words : List (List ℕ)) : Type 0 where
  pub same : now ≡ record first { strings = now.strings }
  pub sum : now.strings + sum_by length rest ≡ sum_by length words
  pub within : now.strings ≤ first.bounds.strings
  pub none : first.strings ≡ 0

pub first_charged : (first : Heap) (words : List (List ℕ)) → first.strings ≡ 0 → HasCharged first first words words
first_charged first words none = record { same = refl; sum = omega (arith, none); within = omega (arith, none); none = none }

pub one_word_charged : (first was now : Heap) (word : List ℕ) (others rest words : List (List ℕ)) → rest ≡ word ∷ others
    → charged_strings was (length word) ≡ Ok now → HasCharged first was rest words → HasCharged first now others words
one_word_charged first was now word others rest words e c h =
    let paid = charge_ok was now (length word) c in
    let more : now.strings ≡ was.strings + length word = ap (λ (x : Heap). x.strings) paid.1 in
    let split : sum_by length rest ≡ length word + sum_by length others = ap (λ (xs : List (List ℕ)). sum_by length xs) e ∙ sum_by-cons length word others in
    let bounds : was.bounds ≡ first.bounds = ap (λ (x : Heap). x.bounds) h.same in
    let within : was.strings + length word ≤ was.bounds.strings = leb-true _ _ paid.0 in
    let G : Heap → ℕ → Heap = λ x n. record x { strings = n } in
    record {
      same = paid.1 ∙ ap (λ (x : Heap). G x (was.strings + length word)) h.same ∙ ap (G first) (sym more);
      sum = omega (arith, more, split, h.sum);
      within = subst (λ b. now.strings ≤ b.strings) bounds (omega (arith, more, within));
      none = h.none;
    }

pub words_charged : {A : Type 0} (a : A) (first now : Heap) (rest words : List (List ℕ)) → length rest ≡ 0 → HasCharged first now rest words
    → ChargesWords first words now (Ok a)
words_charged a first now rest words none h =
    let nothing : sum_by length rest ≡ 0 = ap (λ (xs : List (List ℕ)). sum_by length xs) (nothing_left rest none) in
    let all : now.strings ≡ first.strings + sum_by length words = omega (arith, nothing, h.sum, h.none) in
    (le-leb _ _ (omega (arith, all, h.within)), h.same ∙ ap (λ (n : ℕ). record first { strings = n }) all)

refused_all : (first was : Heap) (word : List ℕ) (others rest words : List (List ℕ)) → rest ≡ word ∷ others
    → nat_le (was.strings + length word) was.bounds.strings ≡ false → HasCharged first was rest words
    → nat_le (first.strings + sum_by length words) first.bounds.strings ≡ false
refused_all first was word others rest words e c h = by_test (nat_le (first.strings + sum_by length words) first.bounds.strings) refl
  where
    by_test : (t : Bool) → nat_le (first.strings + sum_by length words) first.bounds.strings ≡ t
        → nat_le (first.strings + sum_by length words) first.bounds.strings ≡ false
    by_test false q = q
    by_test true q =
        let split : sum_by length rest ≡ length word + sum_by length others = ap (λ (xs : List (List ℕ)). sum_by length xs) e
        ∙ sum_by-cons length word others in
        let total : first.strings + sum_by length words ≤ first.bounds.strings = leb-true _ _ q in
        let part : was.strings + length word ≤ first.bounds.strings = omega (arith, split, total, h.sum, h.none) in
        let here : was.strings + length word ≤ was.bounds.strings
        = subst (λ b. was.strings + length word ≤ b.strings) (sym (ap (λ (x : Heap). x.bounds) h.same)) part in
        let passes : nat_le (was.strings + length word) was.bounds.strings ≡ true = le-leb _ _ here in
        cc

refused_by : (A : Type 0) (first was now : Heap) (word : List ℕ) (others rest words : List (List ℕ)) (full : Full) → rest ≡ word ∷ others
    → Refuses (charged_strings was (length word)) full → HasCharged first was rest words
    → ChargesWords {A = A} first words now (Err (stop_of full))
refused_by A first was now word others rest words full e (inl lack) h =
    subst (λ (x : Full). ChargesWords {A = A} first words now (Err (stop_of x))) (sym lack) tt
refused_by A first was now word others rest words full e (inr c) h =
    let stopped = charge_err was (length word) full c in
    subst (λ (x : Full). ChargesWords {A = A} first words now (Err (stop_of x))) (sym stopped.1)
    (refused_all first was word others rest words e stopped.0 h, (refl, refl))

pub word_refused : {A : Type 0} (result : Result A Stop) (first was now : Heap) (word : List ℕ) (others rest words : List (List ℕ)) (full : Full)
    → IsErrAnd result (λ s. s ≡ stop_of full) → rest ≡ word ∷ others
    → Refuses (charged_strings was (length word)) full → HasCharged first was rest words → ChargesWords first words now result
word_refused {A} (Ok a) first was now word others rest words full err e c h = absurd err
word_refused {A} (Err s) first was now word others rest words full err e c h =
    subst (λ (x : Stop). ChargesWords {A = A} first words now (Err x)) (sym err) (refused_by A first was now word others rest words full e c h)

pub words_lack : {A : Type 0} (result : Result A Stop) (first now : Heap) (words : List (List ℕ)) → IsErrAnd result (λ s. s ≡ Stops.NoMemory)
    → ChargesWords first words now result
words_lack {A} (Ok a) first now words err = absurd err
words_lack {A} (Err s) first now words err = subst (λ (x : Stop). ChargesWords {A = A} first words now (Err x)) (sym err) tt

pub one_word : (old new : Extent) (vals more : List Val) (span : _) (word : List ℕ) (others rest words : List (List ℕ)) → rest ≡ word ∷ others
    → more ≡ vals ++ Vals.Text span ∷ [] → KeepsValues old new → All (IsLive old) vals → text_in new span ≡ word
    → map (value_in old) vals ++ text_values rest ≡ text_values words → map (value_in new) more ++ text_values others ≡ text_values words
one_word old new vals more span word others rest words e p keeps live t so =
    let joined : (map (value_in new) vals ++ value_in new (Vals.Text span) ∷ []) ++ text_values others
    ≡ map (value_in new) vals ++ value_in new (Vals.Text span) ∷ text_values others
    = simp append_assoc in
    ap (λ (xs : List Val). map (value_in new) xs ++ text_values others) p
    ∙ ap (λ (xs : List Value). xs ++ text_values others) (map-append (value_in new) vals (Vals.Text span ∷ []))
    ∙ joined
    ∙ ap (λ (x : List ℕ). map (value_in new) vals ++ Text x ∷ text_values others) t
    ∙ ap (λ (xs : List Value). xs ++ text_values (word ∷ others)) (values_same old new keeps vals live)
    ∙ ap (λ (xs : List (List ℕ)). map (value_in old) vals ++ text_values xs) (sym e)
    ∙ so

pub all_words : (all : Extent) (vals : List Val) (rest words : List (List ℕ)) → length rest ≡ 0
    → map (value_in all) vals ++ text_values rest ≡ text_values words → map (value_in all) vals ≡ text_values words
all_words all vals rest words none so =
    sym (append-nil (map (value_in all) vals)) ∙ ap (λ (xs : List (List ℕ)). map (value_in all) vals ++ text_values xs) (sym (nothing_left rest none)) ∙ so

-- The values of starts

pub first_fits : (q : Global → Bool) (first : Global) (others rest : List Global) → rest ≡ first ∷ others → list_all q rest ≡ true
    → (q first ≡ true) × (list_all q others ≡ true)
first_fits q first others rest e h =
    let both : (q first && list_all q others) ≡ true = subst (λ (xs : List Global). list_all q xs ≡ true) e h in
    (left_of (q first) (list_all q others) both, right_of (q first) (list_all q others) both)

pub start_fits : (a b : Bool) → (a && b) ≡ true → b ≡ true
start_fits true b e = e
start_fits false b e = cc

-- The world

pub nulls_live_any : (all : Extent) (n : ℕ) → All (IsLive all) (replicate n Vals.Null)
nulls_live_any all n = nulls_live all n

pub words_fit_err : {A : Type 0} (result : Result A Stop) (bounds : Bounds) (words : List (List ℕ)) (stop : Stop) → IsErrAnd result (λ s. s ≡ stop)
    → WordsFit {A =
    A} bounds words (Err stop) → WordsFit bounds words result
words_fit_err {A} (Ok a) bounds words stop e h = absurd e
words_fit_err {A} (Err s) bounds words stop e h = subst (λ (x : Stop). WordsFit {A = A} bounds words (Err x)) (sym e) h

pub words_fit : (A B : Type 0) (first now : Heap) (bounds : Bounds) (words : List (List ℕ)) (stop : Stop) → first ≡ first_heap bounds → ChargesWords {A =
    A} first words now (Err stop) → WordsFit {A = B} bounds words (Err stop)
words_fit A B first now bounds words Stops.NoMemory e h = tt
words_fit A B first now bounds words (Stops.Error n offending) e h =
    (subst (λ (x : Heap). nat_le (x.strings + sum_by length words) x.bounds.strings ≡ false) e h.0, h.1.0)

pub words_fit_ok : (first : Heap) (bounds : Bounds) (words : List (List ℕ)) → first ≡ first_heap bounds
    → nat_le (first.strings + sum_by length words) first.bounds.strings ≡ true → nat_le (0 + sum_by length words) bounds.strings ≡ true
words_fit_ok first bounds words e h = subst (λ (x : Heap). nat_le (x.strings + sum_by length words) x.bounds.strings ≡ true) e h

pub world_is : (tables : Tables) (bounds : Bounds) (words : List (List ℕ)) (first now : HeldHeap) (globals statics : List Val)
    → heap_of first ≡ first_heap bounds → heap_of now ≡ record (heap_of first) {
      strings =
          (heap_of first).strings + sum_by length words;
    }
    → map (value_in (extent_of now)) globals ≡ first_globals tables → statics ≡ replicate (static_count tables) Vals.Null
    → new_world now globals statics ≡ world_charged tables bounds words
world_is tables bounds words first now globals statics e h g s =
    let all : Extent = extent_of now in
    let F : Heap → List Value → List Value → World
    = λ heap gs ss. record {
      heap = heap;
      subject = [];
      position = 1;
      random = 0;
      globals = gs;
      statics = ss;
      error = pos zero;
      kept = None;
    } in
    let heap : heap_of now ≡ record (first_heap bounds) { strings = 0 + sum_by length words } = h
    ∙ ap (λ (x : Heap). record x { strings = x.strings + sum_by length words }) e in
    ap (λ (x : Heap). F x (map (value_in all) globals) (map (value_in all) statics)) heap
    ∙ ap (λ (gs : List Value). F (record (first_heap bounds) { strings = 0 + sum_by length words }) gs (map (value_in all) statics)) g
    ∙ ap (λ (ss : List Value). F (record (first_heap bounds) { strings = 0 + sum_by length words }) (first_globals tables) ss)
    (ap (map (value_in all)) s ∙ nulls_read all (static_count tables))
