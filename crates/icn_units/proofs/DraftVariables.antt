-- Each variable of a draft is that of one of its names.
use Rattle.std.proofs.Common.{◌≡◌, ◌≤◌, ◌<◌, ℕ, Bool, true, false, List, [], ◌∷◌, ◌++◌, length, Option, None, Some, refl, sym, subst, length-append, if◌then◌else◌, arith}
use Rattle.std.specs.List.{list_any, position_or_len}
use Rattle.std.specs.Str.{bytes_eq}
use Rattle.icn_unit.specs.declared.unit.UnitInstr.{UnitInstr}
use Rattle.icn_unit.specs.declared.unit.UnitInstr.TheVariants as I
use Rattle.icn_translate.specs.declared.builder.LoopLabels.{LoopLabels}
use Rattle.icn_translate.specs.Drafts.{Draft, put, with_label, with_number, with_name, name_index, put_variable, no_ways, in_loop, outside_loop, innermost, next_number, with_next, put_next, last_number, with_last, put_last, case_end, in_case, outside_case, end_number, with_end, put_end}
use Rattle.icn_translate.specs.Translation.{loop_end}
use Rattle.icn_units.proofs.DraftChains.{Keeps, variable_in}

-- a place, where there is one, is below this
abbrev pub Below : ℕ → Option ℕ → Type 0
Below n None = Unit {0}
Below n (Some k) = k < n

abbrev pub AllBelow : ℕ → List UnitInstr → Type 0
AllBelow n [] = Unit {0}
AllBelow n (i ∷ is) = Below n (variable_in i) × AllBelow n is

-- from one draft to the other: no fewer names, and each variable is still one of them
pub record Vars (d e : Draft) (ns : List ℕ) : Type 0 where
  pub more : length d.names ≤ length e.names
  pub below : AllBelow (length d.names) d.instrs → AllBelow (length e.names) e.instrs

pub record NoVariable (d : Draft) (i : UnitInstr) : Type 0 where
  pub none : variable_in i ≡ None

below_more : {n m : ℕ} (k : Option ℕ) → n ≤ m → Below n k → Below m k
below_more None h a = tt
below_more {n = n} {m = m} (Some k) h a = let below : k < n = a in omega arith

all_more : {n m : ℕ} (is : List UnitInstr) → n ≤ m → AllBelow n is → AllBelow m is
all_more [] h a = tt
all_more (i ∷ is) h a = (below_more (variable_in i) h a.0, all_more is h a.1)

all_behind : (n : ℕ) (is : List UnitInstr) (i : UnitInstr) → AllBelow n is → Below n (variable_in i)
    → AllBelow n (is ++ i ∷ [])
all_behind n [] i a h = (h, tt)
all_behind n (j ∷ is) i a h = (a.0, all_behind n is i a.1 h)

same : (n : ℕ) → n ≤ n
same n = omega arith

trans : {a b c : ℕ} → a ≤ b → b ≤ c → a ≤ c
trans {a = a} {b = b} {c = c} h g = omega arith

no_variable : (n : ℕ) (k : Option ℕ) → k ≡ None → Below n k
no_variable n k h = subst (λ k. Below n k) (sym h) tt

-- Steps that leave the names and the instructions

vars_then : (d e f : Draft) (ns ms : List ℕ) → Vars d e ns → Vars e f ms → Vars d f ns
vars_then d e f ns ms p q = record { more = trans p.more q.more; below = λ a. q.below (p.below a) }

vars_same : (d e : Draft) (ns : List ℕ) → e.names ≡ d.names → e.instrs ≡ d.instrs → Vars d e ns
vars_same d e ns h g = record {
  more = subst (λ (l : List (List ℕ)). length d.names ≤ length l) (sym h) (same (length d.names));
  below = λ a. subst (λ (l : List (List ℕ)). AllBelow (length l) e.instrs) (sym h)
      (subst (λ (is : List UnitInstr). AllBelow (length d.names) is) (sym g) a);
}

put_vars : (i : UnitInstr) (d : Draft) → variable_in i ≡ None → Vars d (put i d) []
unfolding put
put_vars i d h = record {
  more = same (length d.names);
  below =
      λ a. all_behind (length d.names) d.instrs i a (no_variable (length d.names) (variable_in i) h);
}

label_vars : (d : Draft) → Vars d (with_label d) []
unfolding with_label
label_vars d = vars_same d (with_label d) [] refl refl

numbered_vars : (k : Option ℕ) (d : Draft) → Vars d (with_number k d) []
numbered_vars None d = label_vars d
numbered_vars (Some n) d = vars_same d d [] refl refl

in_vars : (w : LoopLabels) (d : Draft) → Vars d (in_loop w d) []
unfolding in_loop
in_vars w d = vars_same d (in_loop w d) [] refl refl

out_vars : (d : Draft) → Vars d (outside_loop d) []
unfolding outside_loop
out_vars d = vars_same d (outside_loop d) [] refl refl

in_case_vars : (end : Option ℕ) (d : Draft) → Vars d (in_case end d) []
unfolding in_case
in_case_vars end d = vars_same d (in_case end d) [] refl refl

out_case_vars : (d : Draft) → Vars d (outside_case d) []
unfolding outside_case
out_case_vars d = vars_same d (outside_case d) [] refl refl

next_vars : (d : Draft) → Vars d (with_next d) []
next_vars d =
    let o = outside_loop d in
    let k = (innermost d).next in
    vars_then d o _ [] [] (out_vars d) (vars_then o (with_number k o) _ [] [] (numbered_vars k o)
    (in_vars _ (with_number k o)))

last_vars : (d : Draft) → Vars d (with_last d) []
last_vars d =
    let o = outside_loop d in
    let k = (innermost d).last in
    vars_then d o _ [] [] (out_vars d) (vars_then o (with_number k o) _ [] [] (numbered_vars k o)
    (in_vars _ (with_number k o)))

end_vars : (d : Draft) → Vars d (with_end d) []
end_vars d =
    let o = outside_case d in
    let k = case_end d in
    vars_then d o _ [] [] (out_case_vars d) (vars_then o (with_number k o) _ [] [] (numbered_vars k o)
    (in_case_vars _ (with_number k o)))

next_word_vars : (i : UnitInstr) (d : Draft) → variable_in i ≡ None → Vars d (put i (with_next d)) []
next_word_vars i d h = vars_then d (with_next d) (put i (with_next d)) [] [] (next_vars d)
    (put_vars i (with_next d) h)

last_word_vars : (i : UnitInstr) (d : Draft) → variable_in i ≡ None → Vars d (put i (with_last d)) []
last_word_vars i d h = vars_then d (with_last d) (put i (with_last d)) [] [] (last_vars d)
    (put_vars i (with_last d) h)

end_word_vars : (i : UnitInstr) (d : Draft) → variable_in i ≡ None → Vars d (put i (with_end d)) []
end_word_vars i d h = vars_then d (with_end d) (put i (with_end d)) [] [] (end_vars d) (put_vars i (with_end d) h)

loop_vars : (i : UnitInstr) (d : Draft) → variable_in i ≡ None → Vars d (loop_end i d) []
loop_vars i d h =
    let d2 = put_next I.Lab d in
    let d3 = put i d2 in
    let d5 = put_last I.Lab d3 in
    vars_then d d2 _ [] [] (next_word_vars (I.Lab (next_number d)) d refl)
    (vars_then d2 d3 _ [] [] (put_vars i d2 h)
    (vars_then d3 d5 _ [] [] (last_word_vars (I.Lab (last_number d3)) d3 refl) (out_vars d5)))

case_vars : (d : Draft) → Vars d (outside_case (put_end I.Lab d)) []
case_vars d = let d2 = put_end I.Lab d in
    vars_then d d2 _ [] [] (end_word_vars (I.Lab (end_number d)) d refl) (out_case_vars d2)

-- The variable of a name

place_by : (test : List ℕ → Bool) (name : List ℕ) (names : List (List ℕ)) (passes : Bool) → test name ≡ passes
    → list_any test (name ∷ names) ≡ true → (list_any test names ≡ true → position_or_len test names < length names)
    → position_or_len test (name ∷ names) < length (name ∷ names)
place_by test name names true e h within = rw e (omega arith)
place_by test name names false e h within = let rest = within (rw e at h) in rw e (omega arith)

place_there : (test : List ℕ → Bool) (names : List (List ℕ)) → list_any test names ≡ true
    → position_or_len test names < length names
place_there test [] h = absurd (cc)
place_there test (name ∷ names) h = place_by test name names (test name) refl h (place_there test names)

most_by : (test : List ℕ → Bool) (name : List ℕ) (names : List (List ℕ)) (passes : Bool) → test name ≡ passes
    → position_or_len test names ≤ length names → position_or_len test (name ∷ names) ≤ length (name ∷ names)
most_by test name names true e h = rw e (omega arith)
most_by test name names false e h = rw e (omega arith)

place_most : (test : List ℕ → Bool) (names : List (List ℕ)) → position_or_len test names ≤ length names
place_most test [] = omega arith
place_most test (name ∷ names) = most_by test name names (test name) refl (place_most test names)

-- a name is one of the names with it, and they are no fewer
name_among : (names : List (List ℕ)) (name : List ℕ) (b : Bool) → list_any (bytes_eq name) names ≡ b
    → name_index names name < length (if b then names else names ++ name ∷ [])
name_among names name true e = place_there (bytes_eq name) names e
name_among names name false e = let most = place_most (bytes_eq name) names in let long =
    length-append names (name ∷ []) in omega arith

no_fewer : (names : List (List ℕ)) (name : List ℕ) (b : Bool) → length names
    ≤ length (if b then names else names ++ name ∷ [])
no_fewer names name true = same (length names)
no_fewer names name false = let long = length-append names (name ∷ []) in omega arith

variable_vars : (name : List ℕ) (d : Draft) → Vars d (put_variable name d) []
unfolding put_variable
variable_vars name d =
    let b = list_any (bytes_eq name) d.names in
    let more = no_fewer d.names name b in
    record {
      more = more;
      below = λ a. all_behind (length (with_name d.names name)) d.instrs (I.Var (name_index d.names name))
          (all_more d.instrs more a) (name_among d.names name b refl);
    }

pub variables : Keeps
variables = record {
  asks = false;
  passes = λ bytes. true;
  Leads = Vars;
  Inside = λ n d. Unit {0};
  InCase = λ d. Unit {0};
  May = NoVariable;
  none = λ d. vars_same d d [] refl refl;
  joined = λ d e f ns p q. vars_then d e f ns [] p q;
  plain = λ d i p o. record { none = p.variable };
  fresh = λ d i p. record { none = p.variable };
  may_later = λ d e ns i p m. record { none = m.none };
  may_behind = λ d i j m. record { none = m.none };
  may_inside = λ d w i m. record { none = m.none };
  numbered = λ d e ns p. let q = vars_then d e (with_label e) ns [] p (label_vars e) in
      record { more = q.more; below = q.below };
  instr = λ d e ns i m p. vars_then d e (put i e) ns [] p (put_vars i e m.none);
  place = λ d e n ns p. let q = vars_then d e (put (I.Lab n) e) (n ∷ ns) [] p (put_vars (I.Lab n) e refl) in
      record { more = q.more; below = q.below };
  second_place = λ d e m n ns p. let q = vars_then d e (put (I.Lab n) e) (m ∷ n ∷ ns) [] p
      (put_vars (I.Lab n) e refl) in record { more = q.more; below = q.below };
  variable = λ d e ns name o p. vars_then d e (put_variable name e) ns [] p (variable_vars name e);
  inside_none = λ d. tt;
  inside_later = λ d e ns n p h. tt;
  inside_loop = λ d w n h. tt;
  inside_case = λ d end n h. tt;
  inside_outer = λ d n h. tt;
  next_mark = λ d e ns n h p. vars_then d e (put_next I.Mark e) ns [] p
      (next_word_vars (I.Mark (next_number e)) e refl);
  next_goto = λ d e ns n h p. vars_then d e (put_next I.Goto e) ns [] p
      (next_word_vars (I.Goto (next_number e)) e refl);
  last_goto = λ d e ns n h p. vars_then d e (put_last I.Goto e) ns [] p
      (last_word_vars (I.Goto (last_number e)) e refl);
  aside_loop = λ d e f ns n h p q. vars_then d e (in_loop (innermost e) f) ns [] p
      (vars_then e (outside_loop e) (in_loop (innermost e) f) [] [] (out_vars e)
      (vars_then (outside_loop e) f (in_loop (innermost e) f) [] [] q (in_vars (innermost e) f)));
  loop = λ d e f ns i p q m. vars_then d e (loop_end i f) ns [] p
      (vars_then e (in_loop no_ways e) (loop_end i f) [] [] (in_vars no_ways e)
      (vars_then (in_loop no_ways e) f (loop_end i f) [] [] q (loop_vars i f m.none)));
  case_begins = λ d end. tt;
  case_later = λ d e ns p h. tt;
  end_goto = λ d e ns h p. vars_then d e (put_end I.Goto e) ns [] p (end_word_vars (I.Goto (end_number e)) e refl);
  case = λ d e f ns p q. vars_then d e (outside_case (put_end I.Lab f)) ns [] p
      (vars_then e (in_case None e) (outside_case (put_end I.Lab f)) [] [] (in_case_vars None e)
      (vars_then (in_case None e) f (outside_case (put_end I.Lab f)) [] [] q (case_vars f)));
}

pub have_vars : (d e : Draft) (ns : List ℕ) → variables.Leads d e ns → Vars d e ns
unfolding variables
have_vars d e ns p = p

pub variables_asks : variables.asks ≡ false
unfolding variables
variables_asks = refl
