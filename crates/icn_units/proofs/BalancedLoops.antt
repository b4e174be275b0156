-- Loops and cases end as they began: as many are open behind a step as before it.
use Rattle.std.proofs.Common.{◌≡◌, ◌≤◌, ℕ, true, false, suc, List, [], ◌∷◌, length, Option, None, Some, refl, ap, ◌∙◌, arith}
use Rattle.icn_unit.specs.declared.unit.UnitInstr.{UnitInstr}
use Rattle.icn_unit.specs.declared.unit.UnitInstr.TheVariants as I
use Rattle.icn_translate.specs.declared.builder.LoopLabels.{LoopLabels}
use Rattle.icn_translate.specs.Drafts.{Draft, put, with_label, with_number, put_variable, no_ways, other_ways, in_loop, outside_loop, innermost, with_next, put_next, with_last, put_last, other_ends, case_end, in_case, outside_case, with_end, put_end}
use Rattle.icn_translate.specs.Translation.{loop_end}
use Rattle.icn_units.proofs.DraftChains.{Keeps}

pub record Level (d e : Draft) (ns : List ℕ) : Type 0 where
  pub loops : length e.loops ≡ length d.loops
  pub cases : length e.cases ≡ length d.cases

pub record Deep (n : ℕ) (d : Draft) : Type 0 where
  pub loops : n ≤ length d.loops

pub record HasCase (d : Draft) : Type 0 where
  pub cases : 1 ≤ length d.cases

level_then : {d e f : Draft} {ns ms : List ℕ} → Level d e ns → Level e f ms → Level d f ns
level_then p q = record { loops = q.loops ∙ p.loops; cases = q.cases ∙ p.cases }

put_level : (i : UnitInstr) (d : Draft) → Level d (put i d) []
unfolding put
put_level i d = record { loops = refl; cases = refl }

label_level : (d : Draft) → Level d (with_label d) []
unfolding with_label
label_level d = record { loops = refl; cases = refl }

variable_level : (name : List ℕ) (d : Draft) → Level d (put_variable name d) []
unfolding put_variable
variable_level name d = record { loops = refl; cases = refl }

numbered_level : (k : Option ℕ) (d : Draft) → Level d (with_number k d) []
numbered_level None d = label_level d
numbered_level (Some n) d = record { loops = refl; cases = refl }

in_loops : (w : LoopLabels) (d : Draft) → length (in_loop w d).loops ≡ suc (length d.loops)
unfolding in_loop
in_loops w d = refl

in_cases : (w : LoopLabels) (d : Draft) → length (in_loop w d).cases ≡ length d.cases
unfolding in_loop
in_cases w d = refl

one_less : {n : ℕ} (ws : List LoopLabels) → suc n ≤ length ws → suc (length (other_ways ws)) ≡ length ws
one_less {n = n} [] h = absurd (omega arith)
one_less (w ∷ ws) h = refl

out_loops : {n : ℕ} (d : Draft) → suc n ≤ length d.loops → suc (length (outside_loop d).loops) ≡ length d.loops
unfolding outside_loop
out_loops d h = one_less d.loops h

out_cases : (d : Draft) → length (outside_loop d).cases ≡ length d.cases
unfolding outside_loop
out_cases d = refl

in_case_loops : (end : Option ℕ) (d : Draft) → length (in_case end d).loops ≡ length d.loops
unfolding in_case
in_case_loops end d = refl

in_case_cases : (end : Option ℕ) (d : Draft) → length (in_case end d).cases ≡ suc (length d.cases)
unfolding in_case
in_case_cases end d = refl

one_end_less : (ends : List (Option ℕ)) → 1 ≤ length ends → suc (length (other_ends ends)) ≡ length ends
one_end_less [] h = absurd (omega arith)
one_end_less (end ∷ ends) h = refl

out_case_loops : (d : Draft) → length (outside_case d).loops ≡ length d.loops
unfolding outside_case
out_case_loops d = refl

out_case_cases : (d : Draft) → 1 ≤ length d.cases → suc (length (outside_case d).cases) ≡ length d.cases
unfolding outside_case
out_case_cases d h = one_end_less d.cases h

-- out of a loop, a step, and into one again
again_level : {n : ℕ} (w : LoopLabels) (d e : Draft) → suc n ≤ length d.loops → Level (outside_loop d) e []
    → Level d (in_loop w e) []
again_level w d e h p = record {
  loops = in_loops w e ∙ ap suc p.loops ∙ out_loops d h;
  cases = in_cases w e ∙ p.cases ∙ out_cases d;
}

next_level : {n : ℕ} (d : Draft) → suc n ≤ length d.loops → Level d (with_next d) []
next_level d h = again_level _ d _ h (numbered_level (innermost d).next (outside_loop d))

last_level : {n : ℕ} (d : Draft) → suc n ≤ length d.loops → Level d (with_last d) []
last_level d h = again_level _ d _ h (numbered_level (innermost d).last (outside_loop d))

end_level : (d : Draft) → 1 ≤ length d.cases → Level d (with_end d) []
end_level d h =
    let p = numbered_level (case_end d) (outside_case d) in
    record {
      loops = in_case_loops _ (with_number (case_end d) (outside_case d)) ∙ p.loops ∙ out_case_loops d;
      cases = in_case_cases _ (with_number (case_end d) (outside_case d)) ∙ ap suc p.cases ∙ out_case_cases d h;
    }

less : {a b : ℕ} → suc a ≡ suc b → a ≡ b
less {a = a} {b = b} h = omega arith

-- a step in one more loop, with the end of that loop
loop_level : (i : UnitInstr) (e f : Draft) → Level (in_loop no_ways e) f [] → Level e (loop_end i f) []
loop_level i e f p =
    let f2 = put_next I.Lab f in
    let f3 = put i f2 in
    let f5 = put_last I.Lab f3 in
    let begun : length f.loops ≡ suc (length e.loops) = p.loops ∙ in_loops no_ways e in
    let deep : 1 ≤ length f.loops = omega arith in
    let q : Level f f3 [] = level_then (next_level f deep)
    (level_then (put_level _ (with_next f)) (put_level i f2)) in
    let r = q.loops in
    let deep3 : 1 ≤ length f3.loops = omega arith in
    let s : Level f f5 [] = level_then q (level_then (last_level f3 deep3) (put_level _ (with_last f3))) in
    let t = s.loops in
    let deep5 : 1 ≤ length f5.loops = omega arith in
    record {
      loops = less (out_loops f5 deep5 ∙ s.loops ∙ begun);
      cases = out_cases f5 ∙ s.cases ∙ p.cases ∙ in_cases no_ways e;
    }

case_level : (e f : Draft) → Level (in_case None e) f [] → Level e (outside_case (put_end I.Lab f)) []
case_level e f p =
    let f2 = put_end I.Lab f in
    let begun : length f.cases ≡ suc (length e.cases) = p.cases ∙ in_case_cases None e in
    let has : 1 ≤ length f.cases = omega arith in
    let q : Level f f2 [] = level_then (end_level f has) (put_level _ (with_end f)) in
    let r = q.cases in
    let has2 : 1 ≤ length f2.cases = omega arith in
    record {
      loops = out_case_loops f2 ∙ q.loops ∙ p.loops ∙ in_case_loops None e;
      cases = less (out_case_cases f2 has2 ∙ q.cases ∙ begun);
    }

deep_by : {n a b : ℕ} → b ≡ a → n ≤ a → n ≤ b
deep_by {n = n} {a = a} {b = b} h g = omega arith

deep_more : {n a b : ℕ} → b ≡ suc a → n ≤ a → suc n ≤ b
deep_more {n = n} {a = a} {b = b} h g = omega arith

deep_less : {n a b : ℕ} → suc b ≡ a → suc n ≤ a → n ≤ b
deep_less {n = n} {a = a} {b = b} h g = omega arith

pub nesting : Keeps
nesting = record {
  asks = false;
  passes = λ bytes. true;
  Leads = Level;
  Inside = Deep;
  InCase = HasCase;
  May = λ d i. Unit {0};
  none = λ d. record { loops = refl; cases = refl };
  joined = λ d e f ns p q. level_then p q;
  plain = λ d i p o. tt;
  fresh = λ d i p. tt;
  may_later = λ d e ns i p m. tt;
  may_behind = λ d i j m. tt;
  may_inside = λ d w i m. tt;
  numbered = λ d e ns p. let q = label_level e in record { loops = q.loops ∙ p.loops; cases = q.cases ∙ p.cases };
  instr = λ d e ns i m p. level_then p (put_level i e);
  place = λ d e n ns p. let q = put_level (I.Lab n) e in
      record { loops = q.loops ∙ p.loops; cases = q.cases ∙ p.cases };
  second_place = λ d e m n ns p. let q = put_level (I.Lab n) e in
      record { loops = q.loops ∙ p.loops; cases = q.cases ∙ p.cases };
  variable = λ d e ns name o p. level_then p (variable_level name e);
  inside_none = λ d. record { loops = omega arith };
  inside_later = λ d e ns n p h. record { loops = deep_by p.loops h.loops };
  inside_loop = λ d w n h. record { loops = deep_more (in_loops w d) h.loops };
  inside_case = λ d end n h. record { loops = deep_by (in_case_loops end d) h.loops };
  inside_outer = λ d n h. record { loops = deep_less (out_loops d h.loops) h.loops };
  next_mark = λ d e ns n h p. level_then p (level_then (next_level e h.loops) (put_level _ (with_next e)));
  next_goto = λ d e ns n h p. level_then p (level_then (next_level e h.loops) (put_level _ (with_next e)));
  last_goto = λ d e ns n h p. level_then p (level_then (last_level e h.loops) (put_level _ (with_last e)));
  aside_loop = λ d e f ns n h p q. level_then p (again_level (innermost e) e f h.loops q);
  loop = λ d e f ns i p q m. level_then p (loop_level i e f q);
  case_begins = λ d end. record { cases = deep_more (in_case_cases end d) (omega arith) };
  case_later = λ d e ns p h. record { cases = deep_by p.cases h.cases };
  end_goto = λ d e ns h p. level_then p (level_then (end_level e h.cases) (put_level _ (with_end e)));
  case = λ d e f ns p q. level_then p (case_level e f q);
}

pub is_level : (d e : Draft) (ns : List ℕ) → nesting.Leads d e ns → Level d e ns
unfolding nesting
is_level d e ns p = p

pub nesting_asks : nesting.asks ≡ false
unfolding nesting
nesting_asks = refl
