-- Marks that are added one by one, and the walk over those that were met.
use Rattle.std.proofs.Common.{◌≡◌, ◌⊎◌, inl, inr, ℕ, zero, suc, ◌+◌, ◌<◌, ◌≤◌, Bool, true, false, List, [], ◌∷◌, ◌++◌, length, get_or, drop, replicate, Option, None, Some, refl, sym, ap, ◌∙◌, subst, arith, length-append}
use Rattle.std.specs.Prelude.{◌==◌, slice_get, slice_set}
use Rattle.std.specs.List.{All, flat_map, list_any}
use Rattle.std.proofs.lemmas.Bool.{eq-eqb, or_left, or_right}
use Rattle.std.proofs.lemmas.Bool.Decides.{eqb_tells}
use Rattle.std.proofs.lemmas.Grind.{flat_map-append}
use Rattle.std.proofs.lemmas.List.Folds.{list_any-append}
use Rattle.std.proofs.lemmas.Option.{slice_get-get_or, slice_get_within}
use Rattle.icn_code.specs.declared.instr.Instr.{Instr}
use Rattle.icn_code.specs.Codes.{Tables}
use Rattle.icn_prune.specs.KeptCode.{global_in, procedure_of_global}
use Rattle.icn_defs.specs.KeptProcedures.{IsIn, MentionLists, after_rounds, with_kept}
use Rattle.icn_prune.specs.Marks.{AddsMarks, IsMarked, missing}
use Rattle.icn_prune.proofs.LeastSets.{Each, EachMentioned, Within, all_of, each_so, kept_least, kept_stays, long_kept, rounds_closed, rounds_keep, rounds_least, rounds_long, set_here, set_stays, slice_item}
use Rattle.icn_prune.proofs.StandingPlaces.{at_any, get_before, get_either, slice_get_none, some_injective}

-- One mark

-- one that is marked stays so
set_same : (keep : List Bool) (n : ℕ) → IsIn keep n → slice_set keep n true ≡ keep
set_same [] n h = refl
set_same (true ∷ keep) zero h = refl
set_same (false ∷ keep) zero h = absurd (cc)
set_same (b ∷ keep) (suc n) h = ap (λ l. b ∷ l) (set_same keep n h)

set_fewer_by_one : (keep : List Bool) (n : ℕ) → slice_get keep n ≡ Some false → suc (missing (slice_set keep n true)) ≡ missing keep
set_fewer_by_one [] n h = absurd (cc)
set_fewer_by_one (true ∷ keep) zero h = absurd (cc)
set_fewer_by_one (false ∷ keep) zero h = refl
set_fewer_by_one (true ∷ keep) (suc n) h = set_fewer_by_one keep n h
set_fewer_by_one (false ∷ keep) (suc n) h = ap suc (set_fewer_by_one keep n h)

set_length : (keep : List Bool) (n : ℕ) → length (slice_set keep n true) ≡ length keep
set_length [] n = refl
set_length (b ∷ keep) zero = refl
set_length (b ∷ keep) (suc n) = ap suc (set_length keep n)

set_else : (keep : List Bool) (n i : ℕ) → IsIn (slice_set keep n true) i → (i ≡ n → ⊥) → IsIn keep i
set_else [] n i h d = h
set_else (b ∷ keep) zero zero h d = absurd (d refl)
set_else (b ∷ keep) zero (suc i) h d = h
set_else (b ∷ keep) (suc n) zero h d = h
set_else (b ∷ keep) (suc n) (suc i) h d = set_else keep n i h (λ e. d (ap suc e))

none_marked_at : (n i : ℕ) → IsIn (replicate n false) i → ⊥
none_marked_at zero i h = cc
none_marked_at (suc n) zero h = cc
none_marked_at (suc n) (suc i) h = none_marked_at n i h

none_counted : (n : ℕ) → missing (replicate n false) ≡ length (replicate n false)
none_counted zero = refl
none_counted (suc n) = ap suc (none_counted n)

-- nothing is marked yet
pub none_marked : (n : ℕ) → IsMarked (replicate n false) []
none_marked n = record {
  met_marked = λ place number g. absurd (cc);
  marked_met = λ number h. absurd (none_marked_at n number h);
  counted = let same = none_counted n in omega (arith, same);
}

-- one more is
pub one_marked : (keep : List Bool) (met : List ℕ) (n : ℕ) → IsMarked keep met → slice_get keep n ≡ Some false
    → IsMarked (slice_set keep n true) (met ++ n ∷ [])
one_marked keep met n m h = record {
  met_marked = λ place number g. by place number (get_either met n place number g);
  marked_met = λ number g. on number g (eqb_tells number n);
  counted =
      let longer = length-append met (n ∷ []) in
      let fewer = set_fewer_by_one keep n h in
      let same = set_length keep n in
      let all = m.counted in
      omega (arith, longer, fewer, same, all);
}
  where
    by : (place number : ℕ) → (slice_get met place ≡ Some number) ⊎ ((place ≡ length met) × (n ≡ number)) → IsIn (slice_set keep n true) number
    by place number (inl g) = set_stays keep n number (m.met_marked place number g)
    by place number (inr e) = subst (IsIn (slice_set keep n true)) e.1 (set_here keep n (slice_get_within keep n false h))

    on : (number : ℕ) → IsIn (slice_set keep n true) number → (((number == n) ≡ true) × (number ≡ n)) ⊎ (((number == n) ≡ false) × (number ≡ n → ⊥))
        → list_any (λ other. other == number) (met ++ n ∷ []) ≡ true
    on number g (inl e) = list_any-append (λ other. other == number) met (n ∷ [])
        ∙ or_right (list_any (λ other. other == number) met) _ (or_left (n == number) false (eq-eqb n number (sym e.1)))
    on number g (inr e) = list_any-append (λ other. other == number) met (n ∷ [])
        ∙ or_left (list_any (λ other. other == number) met) _ (m.marked_met number (set_else keep n number g e.1))

-- What a call adds

pub adds_nothing : (keep : List Bool) (met : List ℕ) → AddsMarks keep met keep met []
adds_nothing keep met = record { marks = refl; stay = λ place number g. g }

pub adds_marked : (keep : List Bool) (met : List ℕ) (n : ℕ) → IsIn keep n → AddsMarks keep met keep met (n ∷ [])
adds_marked keep met n h = record { marks = sym (set_same keep n h); stay = λ place number g. g }

pub adds_one : (keep : List Bool) (met : List ℕ) (n : ℕ) → AddsMarks keep met (slice_set keep n true) (met ++ n ∷ []) (n ∷ [])
adds_one keep met n = record { marks = refl; stay = λ place number g. get_before met n place number g }

with_both : (ms ns : List ℕ) (keep : List Bool) → with_kept (ms ++ ns) keep ≡ with_kept ns (with_kept ms keep)
with_both [] ns keep = refl
with_both (m ∷ ms) ns keep = with_both ms ns (slice_set keep m true)

pub adds_both : (a b c : List Bool) (l m n : List ℕ) (ms ns : List ℕ) → AddsMarks a l b m ms → AddsMarks b m c n ns → AddsMarks a l c n (ms ++ ns)
adds_both a b c l m n ms ns f g = record {
  marks = g.marks ∙ ap (with_kept ns) f.marks ∙ sym (with_both ms ns a);
  stay = λ place number h. g.stay place number (f.stay place number h);
}

pub adds_as : (a b : List Bool) (l m ms ns : List ℕ) → ms ≡ ns → AddsMarks a l b m ms → AddsMarks a l b m ns
adds_as a b l m ms ns e f = subst (λ x. AddsMarks a l b m x) e f

pub as_long : (a b : List Bool) (l m ms : List ℕ) → AddsMarks a l b m ms → length b ≡ length a
as_long a b l m ms f = ap length f.marks ∙ long_kept ms a

pub flat_of_flat : {A B C : Type 0} (f : B → List C) (g : A → List B) (xs : List A) → flat_map (λ x. flat_map f (g x)) xs ≡ flat_map f (flat_map g xs)
flat_of_flat f g [] = refl
flat_of_flat f g (x ∷ xs) = ap (λ l. flat_map f (g x) ++ l) (flat_of_flat f g xs) ∙ sym (flat_map-append f (g x) (flat_map g xs))

pub marked_at : (keep : List Bool) (n : ℕ) (x b : Bool) → n < length keep → x ≡ get_or keep n false → x ≡ b → slice_get keep n ≡ Some b
marked_at keep n x b l e is = slice_get-get_or keep n false l ∙ ap Some (sym e ∙ is)

-- one that was pushed and marked
pub marked_more : (keep : List Bool) (met pushed : List ℕ) (n : ℕ) → IsMarked keep met → slice_get keep n ≡ Some false → pushed ≡ met ++ n ∷ []
    → IsMarked (slice_set keep n true) pushed
marked_more keep met pushed n m h e = subst (IsMarked (slice_set keep n true)) (sym e) (one_marked keep met n m h)

pub adds_pushed : (keep : List Bool) (met pushed : List ℕ) (n : ℕ) → pushed ≡ met ++ n ∷ []
    → AddsMarks keep met (slice_set keep n true) pushed (n ∷ [])
adds_pushed keep met pushed n e = subst (λ m. AddsMarks keep met (slice_set keep n true) m (n ∷ [])) (sym e) (adds_one keep met n)

-- Marks that a loop adds

-- what is left behind some that were added
pub adds_left : (keep after : List Bool) (met grown ns rest : List ℕ) → AddsMarks keep met after grown ns
    → with_kept rest after ≡ with_kept (ns ++ rest) keep
adds_left keep after met grown ns rest a = ap (with_kept rest) a.marks ∙ sym (with_both ns rest keep)

pub drop_past : {A : Type 0} (xs : List A) (i : ℕ) → length xs ≤ i → drop i xs ≡ []
drop_past [] zero l = refl
drop_past [] (suc i) l = refl
drop_past (x ∷ xs) zero l = absurd (omega (arith, l))
drop_past (x ∷ xs) (suc i) l = drop_past xs i (omega (arith, l))

-- what an instruction mentions
abbrev pub mentions_by : Tables → Instr → List ℕ
mentions_by tables instr = flat_map (procedure_of_global tables) (global_in instr)

-- the instructions of a procedure, one by one

get_again : (slice : List Instr) (i : ℕ) (none : Instr) → i < length slice → get_or slice i none ≡ get_or slice i (get_or slice i none)
get_again slice i none l =
    some_injective (get_or slice i none) (get_or slice i (get_or slice i none))
    (sym (slice_get-get_or slice i none l) ∙ slice_get-get_or slice i (get_or slice i none) l)

pub mentions_next : (tables : Tables) (instrs slice : List Instr) (i : ℕ) (none : Instr) (first keep after : List Bool) (met grown : List ℕ)
    → slice ≡ instrs → i < length slice → AddsMarks keep met after grown (mentions_by tables (get_or slice i none))
    → with_kept (flat_map (mentions_by tables) (drop i instrs)) keep ≡ with_kept (flat_map (mentions_by tables) instrs) first
    → with_kept (flat_map (mentions_by tables) (drop (i + 1) instrs)) after ≡ with_kept (flat_map (mentions_by tables) instrs) first
mentions_next tables instrs slice i none first keep after met grown e within a h =
    let instr = get_or slice i none in
    adds_left keep after met grown (mentions_by tables instr) (flat_map (mentions_by tables) (drop (i + 1) instrs)) a
    ∙ ap (λ is. with_kept (flat_map (mentions_by tables) is) keep) (slice_item instrs slice i instr e within (get_again slice i none within)) ∙ h

pub mentions_end : (tables : Tables) (instrs : List Instr) (i : ℕ) (first keep : List Bool) → length instrs ≤ i
    → with_kept (flat_map (mentions_by tables) (drop i instrs)) keep ≡ with_kept (flat_map (mentions_by tables) instrs) first
    → keep ≡ with_kept (flat_map (procedure_of_global tables) (flat_map global_in instrs)) first
mentions_end tables instrs i first keep l h =
    ap (λ is. with_kept (flat_map (mentions_by tables) is) keep) (sym (drop_past instrs i l)) ∙ h
    ∙ ap (λ ns. with_kept ns first) (flat_of_flat (procedure_of_global tables) global_in instrs)

-- Sets that have the same

same_marks : (a b : List Bool) → length a ≡ length b → ((i : ℕ) → IsIn a i → IsIn b i) → ((i : ℕ) → IsIn b i → IsIn a i) → a ≡ b
same_marks [] [] e f g = refl
same_marks [] (y ∷ b) e f g = absurd (omega (arith, e))
same_marks (x ∷ a) [] e f g = absurd (omega (arith, e))
same_marks (true ∷ a) (true ∷ b) e f g = ap (λ l. true ∷ l) (same_marks a b (omega (arith, e)) (λ i h. f (suc i) h) (λ i h. g (suc i) h))
same_marks (false ∷ a) (false ∷ b) e f g = ap (λ l. false ∷ l) (same_marks a b (omega (arith, e)) (λ i h. f (suc i) h) (λ i h. g (suc i) h))
same_marks (true ∷ a) (false ∷ b) e f g = let no = f 0 refl in absurd (cc)
same_marks (false ∷ a) (true ∷ b) e f g = let no = g 0 refl in absurd (cc)

below_or : (k n : ℕ) → k < suc n → (k < n) ⊎ (k ≡ n)
below_or zero zero l = inr refl
below_or zero (suc n) l = inl (omega arith)
below_or (suc k) zero l = absurd (omega (arith, l))
below_or (suc k) (suc n) l = more (below_or k n (omega (arith, l)))
  where
    more : (k < n) ⊎ (k ≡ n) → (suc k < suc n) ⊎ (suc k ≡ suc n)
    more (inl l) = inl (omega (arith, l))
    more (inr e) = inr (ap suc e)

-- The walk over those that were met

-- where the first so many were walked
pub record Walks (mentioned : MentionLists) (first keep : List Bool) (met : List ℕ) (place : ℕ) : Type 0 where
  pub grown : (i : ℕ) → IsIn first i → IsIn keep i
  pub walked : (k number : ℕ) (numbers : List ℕ) → k < place → slice_get met k ≡ Some number → slice_get mentioned number ≡ Some numbers
      → Each (IsIn keep) numbers
  pub least : (i : ℕ) → IsIn keep i → IsIn (after_rounds (length mentioned) mentioned first) i
  pub as_many : length keep ≡ length mentioned
  pub within : place ≤ length met

module _ (mentioned : MentionLists) (first : List Bool) (many : length first ≡ length mentioned) (inside : Within (length first) mentioned) where
  pub walk_begins : (met : List ℕ) → Walks mentioned first first met 0
  walk_begins met = record {
    grown = λ i h. h;
    walked = λ k number numbers l g e. absurd (omega (arith, l));
    least = λ i h. rounds_keep (length mentioned) mentioned first i h;
    as_many = many;
    within = omega arith;
  }

  missing_few : (keep : List Bool) → missing keep ≤ length keep
  missing_few [] = omega arith
  missing_few (true ∷ keep) = let le = missing_few keep in omega (arith, le)
  missing_few (false ∷ keep) = let le = missing_few keep in omega (arith, le)

  least_closed : EachMentioned (IsIn (after_rounds (length mentioned) mentioned first)) mentioned (after_rounds (length mentioned) mentioned first)
  least_closed = let few = missing_few first in rounds_closed (length mentioned) mentioned first (omega (arith, few, many)) inside

  -- what the next one mentions is marked
  pub walk_goes : (keep after : List Bool) (met grown : List ℕ) (place number : ℕ) (numbers : List ℕ) → IsMarked keep met
      → slice_get met place ≡ Some number → slice_get mentioned number ≡ Some numbers → Each (IsIn after) numbers
      → AddsMarks keep met after grown numbers → Walks mentioned first keep met place → Walks mentioned first after grown (suc place)
  walk_goes keep after met grown place number numbers m at is there a w = record {
    grown = λ i h. kept i (w.grown i h);
    walked = λ k other others l g e. by k other others (below_or k place l) (old k other l g) e;
    least = λ i h. kept_least (IsIn (after_rounds (length mentioned) mentioned first)) numbers keep w.least
        (least_closed number numbers (w.least number (m.met_marked place number at)) is) i (subst (λ x. IsIn x i) a.marks h);
    as_many = as_long keep after met grown numbers a ∙ w.as_many;
    within = let l = slice_get_within grown place number (a.stay place number at) in omega (arith, l);
  }
    where
      kept : (i : ℕ) → IsIn keep i → IsIn after i
      kept i h = subst (λ x. IsIn x i) (sym a.marks) (kept_stays numbers keep i h)

      here : (k : ℕ) → k < suc place → k < length met
      here k l = let within = slice_get_within met place number at in omega (arith, l, within)

      old_one : (k other : ℕ) (o : Option ℕ) → slice_get met k ≡ o → k < length met → slice_get grown k ≡ Some other → slice_get met k ≡ Some other
      old_one k other None e l g = absurd (omega (arith, l, slice_get_none met k e))
      old_one k other (Some x) e l g = e ∙ sym (a.stay k x e) ∙ g

      old : (k other : ℕ) → k < suc place → slice_get grown k ≡ Some other → slice_get met k ≡ Some other
      old k other l g = old_one k other (slice_get met k) refl (here k l) g

      by : (k other : ℕ) (others : List ℕ) → (k < place) ⊎ (k ≡ place) → slice_get met k ≡ Some other → slice_get mentioned other ≡ Some others
          → Each (IsIn after) others
      by k other others (inl l) g e = each_so (IsIn keep) (IsIn after) kept others (w.walked k other others l g e)
      by k other others (inr same) g e =
          let one : Some number ≡ Some other = sym at ∙ ap (slice_get met) (sym same) ∙ g in
          let list : Some numbers ≡ Some others = sym is ∙ ap (slice_get mentioned) (some_injective number other one) ∙ e in
          subst (Each (IsIn after)) (some_injective numbers others list) there

  -- once all that were met are walked, the least set is found
  pub walk_ends : (keep : List Bool) (met : List ℕ) (place : ℕ) → IsMarked keep met → length met ≤ place → Walks mentioned first keep met place
      → keep ≡ after_rounds (length mentioned) mentioned first
  walk_ends keep met place m all w =
      same_marks keep (after_rounds (length mentioned) mentioned first)
      (w.as_many ∙ sym many ∙ sym (rounds_long (length mentioned) mentioned first)) w.least
      (λ i h. rounds_least (length mentioned) mentioned first keep (record { closed = closed }) w.grown i h)
    where
      closed : (number : ℕ) (numbers : List ℕ) → IsIn keep number → slice_get mentioned number ≡ Some numbers → All (IsIn keep) numbers
      closed number numbers h e =
          let found = at_any met number (m.marked_met number h) in
          let within = slice_get_within met found.0 number found.1 in
          all_of (IsIn keep) numbers (w.walked found.0 number numbers (omega (arith, within, all)) found.1 e)
