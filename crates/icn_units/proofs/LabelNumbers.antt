-- What an instruction goes to, and what open loops and cases wait for, has a number, and there are no fewer numbers later.
use Rattle.std.proofs.Common.{◌≡◌, ◌≤◌, ◌<◌, ℕ, true, false, suc, List, [], ◌∷◌, ◌++◌, Option, None, Some, refl, sym, subst, arith}
use Rattle.icn_unit.specs.declared.unit.UnitInstr.{UnitInstr}
use Rattle.icn_unit.specs.declared.unit.UnitInstr.TheVariants as I
use Rattle.icn_unit.specs.UnitRules.{label_in}
use Rattle.icn_translate.specs.declared.builder.LoopLabels.{LoopLabels}
use Rattle.icn_translate.specs.Drafts.{Draft, put, next_label, with_label, number_of, with_number, put_variable, no_ways, first_ways, other_ways, in_loop, outside_loop, innermost, next_number, with_next, put_next, last_number, with_last, put_last, first_end, other_ends, case_end, in_case, outside_case, end_number, with_end, put_end}
use Rattle.icn_translate.specs.Translation.{loop_end}
use Rattle.icn_units.proofs.DraftChains.{Keeps}

-- a label, where there is one, is a number up to this
abbrev pub Among : ℕ → Option ℕ → Type 0
Among n None = Unit {0}
Among n (Some l) = (0 < l) × (l ≤ n)

abbrev pub AllAmong : ℕ → List UnitInstr → Type 0
AllAmong n [] = Unit {0}
AllAmong n (i ∷ is) = Among n (label_in i) × AllAmong n is

abbrev pub WaysAmong : ℕ → List LoopLabels → Type 0
WaysAmong n [] = Unit {0}
WaysAmong n (w ∷ ws) = (Among n w.next × Among n w.last) × WaysAmong n ws

abbrev pub EndsAmong : ℕ → List (Option ℕ) → Type 0
EndsAmong n [] = Unit {0}
EndsAmong n (end ∷ ends) = Among n end × EndsAmong n ends

-- all that a draft mentions has a number
pub record Numbered (d : Draft) : Type 0 where
  pub instrs : AllAmong d.labels d.instrs
  pub loops : WaysAmong d.labels d.loops
  pub cases : EndsAmong d.labels d.cases

pub record Grows (d e : Draft) (ns : List ℕ) : Type 0 where
  pub more : d.labels ≤ e.labels
  pub kept : Numbered d → Numbered e

pub record MayGo (d : Draft) (i : UnitInstr) : Type 0 where
  pub goes : Among d.labels (label_in i)

-- More numbers

among_more : {n m : ℕ} (k : Option ℕ) → n ≤ m → Among n k → Among m k
among_more None h a = tt
among_more {n = n} {m = m} (Some l) h a = let up = a.1 in (a.0, omega arith)

all_more : {n m : ℕ} (is : List UnitInstr) → n ≤ m → AllAmong n is → AllAmong m is
all_more [] h a = tt
all_more (i ∷ is) h a = (among_more (label_in i) h a.0, all_more is h a.1)

ways_more : {n m : ℕ} (ws : List LoopLabels) → n ≤ m → WaysAmong n ws → WaysAmong m ws
ways_more [] h a = tt
ways_more (w ∷ ws) h a = ((among_more w.next h a.0.0, among_more w.last h a.0.1), ways_more ws h a.1)

ends_more : {n m : ℕ} (ends : List (Option ℕ)) → n ≤ m → EndsAmong n ends → EndsAmong m ends
ends_more [] h a = tt
ends_more (end ∷ ends) h a = (among_more end h a.0, ends_more ends h a.1)

all_behind : (n : ℕ) (is : List UnitInstr) (i : UnitInstr) → AllAmong n is → Among n (label_in i)
    → AllAmong n (is ++ i ∷ [])
all_behind n [] i a h = (h, tt)
all_behind n (j ∷ is) i a h = (a.0, all_behind n is i a.1 h)

first_among : (n : ℕ) (ws : List LoopLabels) → WaysAmong n ws → Among n (first_ways ws).next
    × Among n (first_ways ws).last
first_among n [] a = (tt, tt)
first_among n (w ∷ ws) a = a.0

others_among : (n : ℕ) (ws : List LoopLabels) → WaysAmong n ws → WaysAmong n (other_ways ws)
others_among n [] a = tt
others_among n (w ∷ ws) a = a.1

end_among : (n : ℕ) (ends : List (Option ℕ)) → EndsAmong n ends → Among n (first_end ends)
end_among n [] a = tt
end_among n (end ∷ ends) a = a.0

other_ends_among : (n : ℕ) (ends : List (Option ℕ)) → EndsAmong n ends → EndsAmong n (other_ends ends)
other_ends_among n [] a = tt
other_ends_among n (end ∷ ends) a = a.1

-- Steps of a draft

same : (n : ℕ) → n ≤ n
same n = omega arith

new_among : (n : ℕ) → Among (suc n) (Some (suc n))
new_among n = (omega arith, same (suc n))

put_kept : (i : UnitInstr) (d : Draft) → Among d.labels (label_in i) → Numbered d → Numbered (put i d)
unfolding put
put_kept i d h a = record { instrs = all_behind d.labels d.instrs i a.instrs h; loops = a.loops; cases = a.cases }

put_more : (i : UnitInstr) (d : Draft) → d.labels ≤ (put i d).labels
unfolding put
put_more i d = same d.labels

put_may : (i j : UnitInstr) (d : Draft) → Among d.labels (label_in i) → Among (put j d).labels (label_in i)
unfolding put
put_may i j d h = h

label_kept : (d : Draft) → Numbered d → Numbered (with_label d)
unfolding with_label
label_kept d a = let up : d.labels ≤ suc d.labels = omega arith in
    record {
      instrs = all_more d.instrs up a.instrs;
      loops = ways_more d.loops up a.loops;
      cases =
          ends_more d.cases up a.cases;
    }

label_more : (d : Draft) → d.labels ≤ (with_label d).labels
unfolding with_label
label_more d = omega arith

label_among : (d : Draft) → Among (with_label d).labels (Some (next_label d))
unfolding with_label next_label
label_among d = new_among d.labels

variable_kept : (name : List ℕ) (d : Draft) → Numbered d → Numbered (put_variable name d)
unfolding put_variable
variable_kept name d a = record {
  instrs = all_behind d.labels d.instrs (I.Var _) a.instrs tt;
  loops =
      a.loops;
  cases = a.cases;
}

variable_more : (name : List ℕ) (d : Draft) → d.labels ≤ (put_variable name d).labels
unfolding put_variable
variable_more name d = same d.labels

numbered_kept : (k : Option ℕ) (d : Draft) → Numbered d → Numbered (with_number k d)
numbered_kept None d a = label_kept d a
numbered_kept (Some n) d a = a

numbered_more : (k : Option ℕ) (d : Draft) → d.labels ≤ (with_number k d).labels
numbered_more None d = label_more d
numbered_more (Some n) d = same d.labels

number_among : (k : Option ℕ) (d : Draft) → Among d.labels k → Among (with_number k d).labels (Some (number_of k d))
number_among None d a = label_among d
number_among (Some n) d a = a

in_kept : (w : LoopLabels) (d : Draft) → Among d.labels w.next × Among d.labels w.last → Numbered d
    → Numbered (in_loop w d)
unfolding in_loop
in_kept w d h a = record { instrs = a.instrs; loops = (h, a.loops); cases = a.cases }

in_more : (w : LoopLabels) (d : Draft) → d.labels ≤ (in_loop w d).labels
unfolding in_loop
in_more w d = same d.labels

in_may : (w : LoopLabels) (i : UnitInstr) (d : Draft) → Among d.labels (label_in i)
    → Among (in_loop w d).labels (label_in i)
unfolding in_loop
in_may w i d h = h

in_again : (w : LoopLabels) (d : Draft) (k : Option ℕ) → Among d.labels k → Among (in_loop w d).labels k
unfolding in_loop
in_again w d k h = h

out_kept : (d : Draft) → Numbered d → Numbered (outside_loop d)
unfolding outside_loop
out_kept d a = record { instrs = a.instrs; loops = others_among d.labels d.loops a.loops; cases = a.cases }

out_labels : (d : Draft) → (outside_loop d).labels ≡ d.labels
unfolding outside_loop
out_labels d = refl

innermost_among : (d : Draft) → Numbered d → Among (outside_loop d).labels (innermost d).next
    × Among (outside_loop d).labels (innermost d).last
unfolding outside_loop innermost
innermost_among d a = first_among d.labels d.loops a.loops

in_case_kept : (end : Option ℕ) (d : Draft) → Among d.labels end → Numbered d → Numbered (in_case end d)
unfolding in_case
in_case_kept end d h a = record { instrs = a.instrs; loops = a.loops; cases = (h, a.cases) }

in_case_more : (end : Option ℕ) (d : Draft) → d.labels ≤ (in_case end d).labels
unfolding in_case
in_case_more end d = same d.labels

in_case_again : (end : Option ℕ) (d : Draft) (k : Option ℕ) → Among d.labels k → Among (in_case end d).labels k
unfolding in_case
in_case_again end d k h = h

out_case_kept : (d : Draft) → Numbered d → Numbered (outside_case d)
unfolding outside_case
out_case_kept d a = record { instrs = a.instrs; loops = a.loops; cases = other_ends_among d.labels d.cases a.cases }

out_case_labels : (d : Draft) → (outside_case d).labels ≡ d.labels
unfolding outside_case
out_case_labels d = refl

case_end_among : (d : Draft) → Numbered d → Among (outside_case d).labels (case_end d)
unfolding outside_case case_end
case_end_among d a = end_among d.labels d.cases a.cases

-- Labels of loops and cases that are mentioned

trans : {a b c : ℕ} → a ≤ b → b ≤ c → a ≤ c
trans {a = a} {b = b} {c = c} h g = omega arith

from_out : (d : Draft) → d.labels ≤ (outside_loop d).labels
from_out d = subst (λ n. d.labels ≤ n) (sym (out_labels d)) (same d.labels)

from_out_case : (d : Draft) → d.labels ≤ (outside_case d).labels
from_out_case d = subst (λ n. d.labels ≤ n) (sym (out_case_labels d)) (same d.labels)

next_more : (d : Draft) → d.labels ≤ (with_next d).labels
next_more d = trans (from_out d) (trans (numbered_more (innermost d).next (outside_loop d))
    (in_more _ (with_number (innermost d).next (outside_loop d))))

last_more : (d : Draft) → d.labels ≤ (with_last d).labels
last_more d = trans (from_out d) (trans (numbered_more (innermost d).last (outside_loop d))
    (in_more _ (with_number (innermost d).last (outside_loop d))))

end_more : (d : Draft) → d.labels ≤ (with_end d).labels
end_more d = trans (from_out_case d) (trans (numbered_more (case_end d) (outside_case d))
    (in_case_more _ (with_number (case_end d) (outside_case d))))

next_kept : (d : Draft) → Numbered d → Numbered (with_next d)
next_kept d a =
    let o = outside_loop d in
    let k = (innermost d).next in
    let w = innermost_among d a in
    in_kept _ (with_number k o) (number_among k o w.0, among_more (innermost d).last (numbered_more k o) w.1)
    (numbered_kept k o (out_kept d a))

next_among : (d : Draft) → Numbered d → Among (with_next d).labels (Some (next_number d))
next_among d a =
    let o = outside_loop d in
    let k = (innermost d).next in
    in_again _ (with_number k o) (Some (next_number d)) (number_among k o (innermost_among d a).0)

last_kept : (d : Draft) → Numbered d → Numbered (with_last d)
last_kept d a =
    let o = outside_loop d in
    let k = (innermost d).last in
    let w = innermost_among d a in
    in_kept _ (with_number k o) (among_more (innermost d).next (numbered_more k o) w.0, number_among k o w.1)
    (numbered_kept k o (out_kept d a))

last_among : (d : Draft) → Numbered d → Among (with_last d).labels (Some (last_number d))
last_among d a =
    let o = outside_loop d in
    let k = (innermost d).last in
    in_again _ (with_number k o) (Some (last_number d)) (number_among k o (innermost_among d a).1)

end_kept : (d : Draft) → Numbered d → Numbered (with_end d)
end_kept d a =
    let o = outside_case d in
    let k = case_end d in
    in_case_kept _ (with_number k o) (number_among k o (case_end_among d a)) (numbered_kept k o (out_case_kept d a))

end_number_among : (d : Draft) → Numbered d → Among (with_end d).labels (Some (end_number d))
end_number_among d a =
    let o = outside_case d in
    let k = case_end d in
    in_case_again _ (with_number k o) (Some (end_number d)) (number_among k o (case_end_among d a))

-- Chains of steps

then_grows : (d e f : Draft) (ns : List ℕ) → Grows d e ns → e.labels ≤ f.labels → (Numbered e → Numbered f)
    → Grows d f ns
then_grows d e f ns p h k = record { more = trans p.more h; kept = λ a. k (p.kept a) }

loop_grows : (i : UnitInstr) (d : Draft) → Among d.labels (label_in i) → (d.labels ≤ (loop_end i d).labels)
    × (Numbered d → Numbered (loop_end i d))
loop_grows i d m =
    let d1 = with_next d in
    let d2 = put (I.Lab (next_number d)) d1 in
    let d3 = put i d2 in
    let d4 = with_last d3 in
    let d5 = put (I.Lab (last_number d3)) d4 in
    let up2 : d.labels ≤ d2.labels = trans (next_more d) (put_more (I.Lab (next_number d)) d1) in
    let up3 : d.labels ≤ d3.labels = trans up2 (put_more i d2) in
    let up5 : d.labels ≤ d5.labels = trans up3 (trans (last_more d3) (put_more (I.Lab (last_number d3)) d4)) in (
      trans up5 (from_out d5),
      λ a.
          let a2 = put_kept (I.Lab (next_number d)) d1 tt (next_kept d a) in
          let a3 = put_kept i d2 (among_more (label_in i) up2 m) a2 in
          out_kept d5 (put_kept (I.Lab (last_number d3)) d4 tt (last_kept d3 a3)),
    )

case_grows : (d : Draft) → let e = outside_case (put_end I.Lab d) in (d.labels ≤ e.labels)
    × (Numbered d → Numbered e)
case_grows d =
    let d1 = with_end d in
    let d2 = put (I.Lab (end_number d)) d1 in (
      trans (end_more d) (trans (put_more (I.Lab (end_number d)) d1) (from_out_case d2)),
      λ a. out_case_kept d2
          (put_kept (I.Lab (end_number d)) d1 tt (end_kept d a)),
    )

goes_among : {n : ℕ} {l : ℕ} (k : Option ℕ) → k ≡ Some l → Among n (Some l) → Among n k
goes_among {n = n} k h a = subst (λ k. Among n k) (sym h) a

plain_among : (n : ℕ) (k : Option ℕ) → k ≡ None → Among n k
plain_among n k h = subst (λ k. Among n k) (sym h) tt

pub numbers : Keeps
numbers = record {
  asks = false;
  passes = λ bytes. true;
  Leads = Grows;
  Inside = λ n d. Unit {0};
  InCase = λ d. Unit {0};
  May = MayGo;
  none = λ d. record { more = same d.labels; kept = λ a. a };
  joined = λ d e f ns p q. then_grows d e f ns p q.more q.kept;
  plain = λ d i p o. record { goes = plain_among d.labels (label_in i) p.label };
  fresh = λ d i p. record { goes = goes_among (label_in i) p.label (label_among d) };
  may_later = λ d e ns i p m. record { goes = among_more (label_in i) p.more m.goes };
  may_behind = λ d i j m. record { goes = put_may i j d m.goes };
  may_inside = λ d w i m. record { goes = in_may w i d m.goes };
  numbered = λ d e ns p. record { more = trans p.more (label_more e); kept = λ a. label_kept e (p.kept a) };
  instr = λ d e ns i m p. then_grows d e (put i e) ns p (put_more i e) (put_kept i e m.goes);
  place = λ d e n ns p. record {
    more = trans p.more (put_more (I.Lab n) e);
    kept =
        λ a. put_kept (I.Lab n) e tt (p.kept a);
  };
  second_place = λ d e m n ns p. record {
    more = trans p.more (put_more (I.Lab n) e);
    kept =
        λ a. put_kept (I.Lab n) e tt (p.kept a);
  };
  variable = λ d e ns name o p. then_grows d e (put_variable name e) ns p (variable_more name e)
      (variable_kept name e);
  inside_none = λ d. tt;
  inside_later = λ d e ns n p h. tt;
  inside_loop = λ d w n h. tt;
  inside_case = λ d end n h. tt;
  inside_outer = λ d n h. tt;
  next_mark = λ d e ns n h p. then_grows d e (put_next I.Mark e) ns p
      (trans (next_more e) (put_more _ (with_next e)))
      (λ a. put_kept (I.Mark (next_number e)) (with_next e) (next_among e a) (next_kept e a));
  next_goto = λ d e ns n h p. then_grows d e (put_next I.Goto e) ns p
      (trans (next_more e) (put_more _ (with_next e)))
      (λ a. put_kept (I.Goto (next_number e)) (with_next e) (next_among e a) (next_kept e a));
  last_goto = λ d e ns n h p. then_grows d e (put_last I.Goto e) ns p
      (trans (last_more e) (put_more _ (with_last e)))
      (λ a. put_kept (I.Goto (last_number e)) (with_last e) (last_among e a) (last_kept e a));
  aside_loop = λ d e f ns n h p q. then_grows d e (in_loop (innermost e) f) ns p
      (trans (from_out e) (trans q.more (in_more (innermost e) f)))
      (λ a. let w = innermost_among e a in in_kept (innermost e) f
      (among_more (innermost e).next q.more w.0, among_more (innermost e).last q.more w.1)
      (q.kept (out_kept e a)));
  loop = λ d e f ns i p q m. let l = loop_grows i f m.goes in
      then_grows d e (loop_end i f) ns p (trans (in_more no_ways e) (trans q.more l.0))
      (λ a. l.1 (q.kept (in_kept no_ways e (tt, tt) a)));
  case_begins = λ d end. tt;
  case_later = λ d e ns p h. tt;
  end_goto = λ d e ns h p. then_grows d e (put_end I.Goto e) ns p (trans (end_more e) (put_more _ (with_end e)))
      (λ a. put_kept (I.Goto (end_number e)) (with_end e) (end_number_among e a) (end_kept e a));
  case = λ d e f ns p q. let l = case_grows f in
      then_grows d e (outside_case (put_end I.Lab f)) ns p (trans (in_case_more None e) (trans q.more l.0))
      (λ a. l.1 (q.kept (in_case_kept None e tt a)));
}

pub has_grown : (d e : Draft) (ns : List ℕ) → numbers.Leads d e ns → Grows d e ns
unfolding numbers
has_grown d e ns p = p

pub numbers_asks : numbers.asks ≡ false
unfolding numbers
numbers_asks = refl
