-- Each number of a label has one place: of each label, how often it is given a number, stands at its place, or waits for it in an
-- open loop or case.
use Rattle.std.proofs.Common.{◌≡◌, ℕ, true, false, zero, suc, ◌+◌, List, [], ◌∷◌, ◌++◌, Option, None, Some, refl, sym, ap, ◌∙◌, nat_eq, add-zero, Bool, if◌then◌else◌, arith}
use Rattle.icn_unit.specs.declared.unit.UnitInstr.{UnitInstr}
use Rattle.icn_unit.specs.declared.unit.UnitInstr.TheVariants as I
use Rattle.icn_unit.specs.UnitRules.{own_label}
use Rattle.icn_translate.specs.declared.builder.LoopLabels.{LoopLabels}
use Rattle.icn_translate.specs.Drafts.{Draft, put, next_label, with_label, number_of, with_number, put_variable, no_ways, first_ways, other_ways, in_loop, outside_loop, innermost, next_number, with_next, put_next, last_number, with_last, put_last, first_end, other_ends, case_end, in_case, outside_case, end_number, with_end, put_end}
use Rattle.icn_translate.specs.Translation.{loop_end}
use Rattle.icn_units.proofs.DraftChains.{Keeps}

-- 1 where two labels are the same
abbrev pub bit : Bool → ℕ
bit b = if b then 1 else 0

unfoldable pub one : ℕ → ℕ → ℕ
one l n = bit (nat_eq l n)

-- how often a label is among the numbers that were given
abbrev pub given : ℕ → ℕ → ℕ
given l zero = 0
given l (suc n) = given l n + one l (suc n)

abbrev pub held : ℕ → Option ℕ → ℕ
held l None = 0
held l (Some n) = one l n

-- how often it has its place among instructions
abbrev pub places : ℕ → List UnitInstr → ℕ
places l [] = 0
places l (i ∷ is) = held l (own_label i) + places l is

abbrev pub way : ℕ → LoopLabels → ℕ
way l w = held l w.next + held l w.last

abbrev pub ways_held : ℕ → List LoopLabels → ℕ
ways_held l [] = 0
ways_held l (w ∷ ws) = way l w + ways_held l ws

abbrev pub ends_held : ℕ → List (Option ℕ) → ℕ
ends_held l [] = 0
ends_held l (end ∷ ends) = held l end + ends_held l ends

-- how often it has its place or waits for it
unfoldable pub times : ℕ → Draft → ℕ
times l d = places l d.instrs + ways_held l d.loops + ends_held l d.cases

abbrev pub owed : ℕ → List ℕ → ℕ
owed l [] = 0
owed l (n ∷ ns) = one l n + owed l ns

pub record Balanced (d e : Draft) (ns : List ℕ) : Type 0 where
  pub counts : (l : ℕ) → times l e + given l d.labels + owed l ns ≡ times l d + given l e.labels

pub record NoPlace (d : Draft) (i : UnitInstr) : Type 0 where
  pub place : own_label i ≡ None

-- Steps of a draft

places-more : (l : ℕ) (is : List UnitInstr) (i : UnitInstr) → places l (is ++ i ∷ []) ≡ places l is
    + held l (own_label i)
places-more l [] i = omega arith
places-more l (j ∷ is) i = let h = places-more l is i in omega arith

sum_put : (p q w c h : ℕ) → q ≡ p + h → q + w + c ≡ p + w + c + h
sum_put p q w c h e = omega arith

put_times : (l : ℕ) (i : UnitInstr) (d : Draft) → times l (put i d) ≡ times l d + held l (own_label i)
unfolding times put
put_times l i d = sum_put (places l d.instrs) (places l (d.instrs ++ i ∷ [])) (ways_held l d.loops)
    (ends_held l d.cases) (held l (own_label i)) (places-more l d.instrs i)

put_labels : (i : UnitInstr) (d : Draft) → (put i d).labels ≡ d.labels
unfolding put
put_labels i d = refl

label_times : (l : ℕ) (d : Draft) → times l (with_label d) ≡ times l d
unfolding times with_label
label_times l d = refl

label_given : (l : ℕ) (d : Draft) → given l (with_label d).labels ≡ given l d.labels + one l (next_label d)
unfolding with_label next_label
label_given l d = refl

variable_times : (l : ℕ) (name : List ℕ) (d : Draft) → times l (put_variable name d) ≡ times l d
unfolding times put_variable
variable_times l name d = sum_put (places l d.instrs) (places l (d.instrs ++ I.Var _ ∷ [])) (ways_held l d.loops)
    (ends_held l d.cases) 0 (places-more l d.instrs (I.Var _))
    ∙ add-zero (places l d.instrs + ways_held l d.loops + ends_held l d.cases)

variable_labels : (name : List ℕ) (d : Draft) → (put_variable name d).labels ≡ d.labels
unfolding put_variable
variable_labels name d = refl

-- a label that has a number from its first mention on
numbered_times : (l : ℕ) (k : Option ℕ) (d : Draft) → times l (with_number k d) ≡ times l d
numbered_times l None d = label_times l d
numbered_times l (Some n) d = refl

numbered_given : (l : ℕ) (k : Option ℕ) (d : Draft) → given l (with_number k d).labels + held l k ≡ given l d.labels
    + one l (number_of k d)
numbered_given l None d = add-zero (given l (with_label d).labels) ∙ label_given l d
numbered_given l (Some n) d = refl

-- loops
sum_in : (p x w c : ℕ) → p + (x + w) + c ≡ p + w + c + x
sum_in p x w c = omega arith

in_times : (l : ℕ) (w : LoopLabels) (d : Draft) → times l (in_loop w d) ≡ times l d + way l w
unfolding times in_loop
in_times l w d = sum_in (places l d.instrs) (way l w) (ways_held l d.loops) (ends_held l d.cases)

in_labels : (w : LoopLabels) (d : Draft) → (in_loop w d).labels ≡ d.labels
unfolding in_loop
in_labels w d = refl

first_held : (l : ℕ) (ws : List LoopLabels) → ways_held l ws ≡ way l (first_ways ws) + ways_held l (other_ways ws)
first_held l [] = refl
first_held l (w ∷ ws) = refl

sum_out : (p q x w c : ℕ) → q ≡ x + w → p + q + c ≡ p + w + c + x
sum_out p q x w c e = omega arith

out_times : (l : ℕ) (d : Draft) → times l d ≡ times l (outside_loop d) + way l (innermost d)
unfolding times outside_loop innermost
out_times l d = sum_out (places l d.instrs) (ways_held l d.loops) (way l (first_ways d.loops))
    (ways_held l (other_ways d.loops)) (ends_held l d.cases) (first_held l d.loops)

out_labels : (d : Draft) → (outside_loop d).labels ≡ d.labels
unfolding outside_loop
out_labels d = refl

-- cases
sum_in_case : (p x w c : ℕ) → p + w + (x + c) ≡ p + w + c + x
sum_in_case p x w c = omega arith

in_case_times : (l : ℕ) (end : Option ℕ) (d : Draft) → times l (in_case end d) ≡ times l d + held l end
unfolding times in_case
in_case_times l end d = sum_in_case (places l d.instrs) (held l end) (ways_held l d.loops) (ends_held l d.cases)

in_case_labels : (end : Option ℕ) (d : Draft) → (in_case end d).labels ≡ d.labels
unfolding in_case
in_case_labels end d = refl

first_end_held : (l : ℕ) (ends : List (Option ℕ)) → ends_held l ends ≡ held l (first_end ends)
    + ends_held l (other_ends ends)
first_end_held l [] = refl
first_end_held l (end ∷ ends) = refl

sum_out_case : (p q x w c : ℕ) → q ≡ x + c → p + w + q ≡ p + w + c + x
sum_out_case p q x w c e = omega arith

out_case_times : (l : ℕ) (d : Draft) → times l d ≡ times l (outside_case d) + held l (case_end d)
unfolding times outside_case case_end
out_case_times l d = sum_out_case (places l d.instrs) (ends_held l d.cases) (held l (first_end d.cases))
    (ways_held l d.loops) (ends_held l (other_ends d.cases)) (first_end_held l d.cases)

out_case_labels : (d : Draft) → (outside_case d).labels ≡ d.labels
unfolding outside_case
out_case_labels d = refl

-- Labels that loops and cases hold, once they are mentioned

sum_held : (To Tn Tin Td Un Ud Uin hk h other : ℕ) → Tn ≡ To → Tin ≡ Tn + (h + other) → Td ≡ To + (hk + other) → Un
    + hk ≡ Ud + h → Uin ≡ Un → Tin + Ud ≡ Td + Uin
sum_held To Tn Tin Td Un Ud Uin hk h other a b c e f = omega arith

next_held : (l : ℕ) (d : Draft) → times l (with_next d) + given l d.labels ≡ times l d
    + given l (with_next d).labels
next_held l d =
    let k = (innermost d).next in
    let o = outside_loop d in
    sum_held (times l o) (times l (with_number k o)) (times l (with_next d)) (times l d)
    (given l (with_number k o).labels) (given l d.labels) (given l (with_next d).labels)
    (held l k) (one l (number_of k o)) (held l (innermost d).last) (numbered_times l k o)
    (in_times l _ (with_number k o)) (out_times l d)
    (numbered_given l k o ∙ ap (λ n. given l n + one l (number_of k o)) (out_labels d))
    (ap (given l) (in_labels _ (with_number k o)))

sum_last : (To Tn Tin Td Un Ud Uin hk h other : ℕ) → Tn ≡ To → Tin ≡ Tn + (other + h) → Td ≡ To + (other + hk) → Un
    + hk ≡ Ud + h → Uin ≡ Un → Tin + Ud ≡ Td + Uin
sum_last To Tn Tin Td Un Ud Uin hk h other a b c e f = omega arith

last_held : (l : ℕ) (d : Draft) → times l (with_last d) + given l d.labels ≡ times l d
    + given l (with_last d).labels
last_held l d =
    let k = (innermost d).last in
    let o = outside_loop d in
    sum_last (times l o) (times l (with_number k o)) (times l (with_last d)) (times l d)
    (given l (with_number k o).labels) (given l d.labels) (given l (with_last d).labels)
    (held l k) (one l (number_of k o)) (held l (innermost d).next) (numbered_times l k o)
    (in_times l _ (with_number k o)) (out_times l d)
    (numbered_given l k o ∙ ap (λ n. given l n + one l (number_of k o)) (out_labels d))
    (ap (given l) (in_labels _ (with_number k o)))

sum_end : (To Tn Tin Td Un Ud Uin hk h : ℕ) → Tn ≡ To → Tin ≡ Tn + h → Td ≡ To + hk → Un + hk ≡ Ud + h → Uin ≡ Un
    → Tin + Ud ≡ Td + Uin
sum_end To Tn Tin Td Un Ud Uin hk h a b c e f = omega arith

end_held : (l : ℕ) (d : Draft) → times l (with_end d) + given l d.labels ≡ times l d + given l (with_end d).labels
end_held l d =
    let k = case_end d in
    let o = outside_case d in
    sum_end (times l o) (times l (with_number k o)) (times l (with_end d)) (times l d) (given l (with_number k o).labels)
    (given l d.labels) (given l (with_end d).labels)
    (held l k) (one l (number_of k o)) (numbered_times l k o) (in_case_times l _ (with_number k o))
    (out_case_times l d)
    (numbered_given l k o ∙ ap (λ n. given l n + one l (number_of k o)) (out_case_labels d))
    (ap (given l) (in_case_labels _ (with_number k o)))

-- an instruction with such a label
sum_word : (Tw Td Tp Ud Uw Up : ℕ) → Tw + Ud ≡ Td + Uw → Tp ≡ Tw → Up ≡ Uw → Tp + Ud ≡ Td + Up
sum_word Tw Td Tp Ud Uw Up a b c = omega arith

word_held : (l : ℕ) (i : UnitInstr) (d e : Draft) → own_label i ≡ None → times l e + given l d.labels ≡ times l d
    + given l e.labels
    → times l (put i e) + given l d.labels ≡ times l d + given l (put i e).labels
word_held l i d e p h = sum_word (times l e) (times l d) (times l (put i e)) (given l d.labels) (given l e.labels)
    (given l (put i e).labels) h
    (put_times l i e ∙ ap (λ k. times l e + held l k) p ∙ add-zero (times l e)) (ap (given l) (put_labels i e))

-- the end of a loop
ways_at_end : (l : ℕ) (i : UnitInstr) (d : Draft)
    → let f = put i (put_next I.Lab d) in way l (innermost (put_last I.Lab f)) ≡ one l (next_number d)
    + one l (last_number f)
unfolding put in_loop innermost
ways_at_end l i d = refl

sum_loop : (T0 T1 T2 T3 T4 T5 T6 U0 U1 U2 U3 U4 U5 U6 a b : ℕ) → T1 + U0 ≡ T0 + U1 → T2 ≡ T1 + a → U2 ≡ U1 → T3 ≡ T2
    → U3 ≡ U2 → T4 + U3 ≡ T3 + U4
    → T5 ≡ T4 + b → U5 ≡ U4 → T5 ≡ T6 + (a + b) → U6 ≡ U5 → T6 + U0 ≡ T0 + U6
sum_loop T0 T1 T2 T3 T4 T5 T6 U0 U1 U2 U3 U4 U5 U6 a b c1 c2 c3 c4 c5 c6 c7 c8 c9 c10 = omega arith

loop_held : (l : ℕ) (i : UnitInstr) (d : Draft) → own_label i ≡ None → times l (loop_end i d) + given l d.labels
    ≡ times l d + given l (loop_end i d).labels
loop_held l i d p =
    let d1 = with_next d in
    let d2 = put_next I.Lab d in
    let d3 = put i d2 in
    let d4 = with_last d3 in
    let d5 = put_last I.Lab d3 in
    let d6 = outside_loop d5 in
    sum_loop (times l d) (times l d1) (times l d2) (times l d3) (times l d4) (times l d5) (times l d6)
    (given l d.labels) (given l d1.labels) (given l d2.labels) (given l d3.labels) (given l d4.labels)
    (given l d5.labels) (given l d6.labels) (one l (next_number d)) (one l (last_number d3))
    (next_held l d) (put_times l _ d1) (ap (given l) (put_labels _ d1))
    (put_times l i d2 ∙ ap (λ k. times l d2 + held l k) p ∙ add-zero (times l d2))
    (ap (given l) (put_labels i d2))
    (last_held l d3) (put_times l _ d4) (ap (given l) (put_labels _ d4))
    (out_times l d5 ∙ ap (λ n. times l d6 + n) (ways_at_end l i d)) (ap (given l) (out_labels d5))

-- the end of a case
end_at_end : (l : ℕ) (d : Draft) → held l (case_end (put_end I.Lab d)) ≡ one l (end_number d)
unfolding put in_case case_end
end_at_end l d = refl

sum_case : (T0 T1 T2 T3 U0 U1 U2 U3 a : ℕ) → T1 + U0 ≡ T0 + U1 → T2 ≡ T1 + a → U2 ≡ U1 → T2 ≡ T3 + a → U3 ≡ U2 → T3
    + U0 ≡ T0 + U3
sum_case T0 T1 T2 T3 U0 U1 U2 U3 a c1 c2 c3 c4 c5 = omega arith

case_held : (l : ℕ) (d : Draft) → let e = outside_case (put_end I.Lab d) in times l e + given l d.labels ≡ times l d
    + given l e.labels
case_held l d =
    let d1 = with_end d in
    let d2 = put_end I.Lab d in
    let d3 = outside_case d2 in
    sum_case (times l d) (times l d1) (times l d2) (times l d3) (given l d.labels) (given l d1.labels)
    (given l d2.labels) (given l d3.labels) (one l (end_number d))
    (end_held l d) (put_times l _ d1) (ap (given l) (put_labels _ d1))
    (out_case_times l d2 ∙ ap (λ n. times l d3 + n) (end_at_end l d)) (ap (given l) (out_case_labels d2))

-- Chains of steps

sum_joined : (Td Te Tf Ud Ue Uf N : ℕ) → Te + Ud + N ≡ Td + Ue → Tf + Ue ≡ Te + Uf → Tf + Ud + N ≡ Td + Uf
sum_joined Td Te Tf Ud Ue Uf N a b = omega arith

-- behind a chain, a step that is balanced by itself
then_balanced : (d e f : Draft) (ns : List ℕ) → Balanced d e ns
    → ((l : ℕ) → times l f + given l e.labels ≡ times l e + given l f.labels) → Balanced d f ns
then_balanced d e f ns p h = record {
  counts = λ l.
      sum_joined (times l d) (times l e) (times l f) (given l d.labels) (given l e.labels) (given l f.labels)
      (owed l ns) (p.counts l) (h l);
}

sum_numbered : (Td Te Tf Ud Ue Uf N a : ℕ) → Te + Ud + N ≡ Td + Ue → Tf ≡ Te → Uf ≡ Ue + a → Tf + Ud + (a + N) ≡ Td
    + Uf
sum_numbered Td Te Tf Ud Ue Uf N a x y z = omega arith

sum_placed : (Td Te Tf Ud Ue Uf N a : ℕ) → Te + Ud + (a + N) ≡ Td + Ue → Tf ≡ Te + a → Uf ≡ Ue → Tf + Ud + N ≡ Td
    + Uf
sum_placed Td Te Tf Ud Ue Uf N a x y z = omega arith

sum_second : (Td Te Tf Ud Ue Uf N a b : ℕ) → Te + Ud + (b + (a + N)) ≡ Td + Ue → Tf ≡ Te + a → Uf ≡ Ue → Tf + Ud
    + (b + N) ≡ Td + Uf
sum_second Td Te Tf Ud Ue Uf N a b x y z = omega arith

sum_aside : (Te To Tf Ti Ue Uo Uf Ui x : ℕ) → Tf + Uo + 0 ≡ To + Uf → Te ≡ To + x → Ti ≡ Tf + x → Uo ≡ Ue → Ui ≡ Uf
    → Ti + Ue ≡ Te + Ui
sum_aside Te To Tf Ti Ue Uo Uf Ui x a b c g h = omega arith

sum_within : (Te Ti Tf Tg Ue Ui Uf Ug : ℕ) → Tf + Ui + 0 ≡ Ti + Uf → Ti ≡ Te + 0 → Ui ≡ Ue → Tg + Uf ≡ Tf + Ug → Tg
    + Ue ≡ Te + Ug
sum_within Te Ti Tf Tg Ue Ui Uf Ug a b c h = omega arith

pub balance : Keeps
balance = record {
  asks = false;
  passes = λ bytes. true;
  Leads = Balanced;
  Inside = λ n d. Unit {0};
  InCase = λ d. Unit {0};
  May = NoPlace;
  none = λ d. record { counts = λ l. add-zero (times l d + given l d.labels) };
  joined = λ d e f ns p q. then_balanced d e f ns p
      (λ l. sym (add-zero (times l f + given l e.labels)) ∙ q.counts l);
  plain = λ d i p o. record { place = p.place };
  fresh = λ d i p. record { place = p.place };
  may_later = λ d e ns i p m. record { place = m.place };
  may_behind = λ d i j m. record { place = m.place };
  may_inside = λ d w i m. record { place = m.place };
  numbered = λ d e ns p. record {
    counts =
        λ l. sum_numbered (times l d) (times l e) (times l (with_label e)) (given l d.labels) (given l e.labels)
        (given l (with_label e).labels) (owed l ns) (one l (next_label e))
        (p.counts l) (label_times l e) (label_given l e);
  };
  instr = λ d e ns i m p. then_balanced d e (put i e) ns p (λ l. word_held l i e e m.place refl);
  place = λ d e n ns p. record {
    counts = λ l. sum_placed (times l d) (times l e) (times l (put (I.Lab n) e))
        (given l d.labels) (given l e.labels) (given l (put (I.Lab n) e).labels) (owed l ns) (one l n)
        (p.counts l) (put_times l (I.Lab n) e) (ap (given l) (put_labels (I.Lab n) e));
  };
  second_place = λ d e m n ns p. record {
    counts =
        λ l. sum_second (times l d) (times l e) (times l (put (I.Lab n) e)) (given l d.labels) (given l e.labels)
        (given l (put (I.Lab n) e).labels) (owed l ns) (one l n) (one l m)
        (p.counts l) (put_times l (I.Lab n) e) (ap (given l) (put_labels (I.Lab n) e));
  };
  variable = λ d e ns name o p. then_balanced d e (put_variable name e) ns p
      (λ l. ap (λ t. t + given l e.labels) (variable_times l name e)
      ∙ ap (λ n. times l e + given l n) (sym (variable_labels name e)));
  inside_none = λ d. tt;
  inside_later = λ d e ns n p h. tt;
  inside_loop = λ d w n h. tt;
  inside_case = λ d end n h. tt;
  inside_outer = λ d n h. tt;
  next_mark = λ d e ns n h p. then_balanced d e (put_next I.Mark e) ns p
      (λ l. word_held l (I.Mark (next_number e)) e (with_next e) refl (next_held l e));
  next_goto = λ d e ns n h p. then_balanced d e (put_next I.Goto e) ns p
      (λ l. word_held l (I.Goto (next_number e)) e (with_next e) refl (next_held l e));
  last_goto = λ d e ns n h p. then_balanced d e (put_last I.Goto e) ns p
      (λ l. word_held l (I.Goto (last_number e)) e (with_last e) refl (last_held l e));
  aside_loop = λ d e f ns n h p q. then_balanced d e (in_loop (innermost e) f) ns p (λ l.
      sum_aside (times l e) (times l (outside_loop e)) (times l f) (times l (in_loop (innermost e) f))
      (given l e.labels) (given l (outside_loop e).labels) (given l f.labels)
      (given l (in_loop (innermost e) f).labels)
      (way l (innermost e)) (q.counts l) (out_times l e) (in_times l (innermost e) f) (ap (given l) (out_labels e))
      (ap (given l) (in_labels (innermost e) f)));
  loop = λ d e f ns i p q m. then_balanced d e (loop_end i f) ns p (λ l.
      sum_within (times l e) (times l (in_loop no_ways e)) (times l f) (times l (loop_end i f))
      (given l e.labels) (given l (in_loop no_ways e).labels) (given l f.labels)
      (given l (loop_end i f).labels)
      (q.counts l) (in_times l no_ways e) (ap (given l) (in_labels no_ways e)) (loop_held l i f m.place));
  case_begins = λ d end. tt;
  case_later = λ d e ns p h. tt;
  end_goto = λ d e ns h p. then_balanced d e (put_end I.Goto e) ns p
      (λ l. word_held l (I.Goto (end_number e)) e (with_end e) refl (end_held l e));
  case = λ d e f ns p q. then_balanced d e (outside_case (put_end I.Lab f)) ns p (λ l.
      sum_within (times l e) (times l (in_case None e)) (times l f) (times l (outside_case (put_end I.Lab f)))
      (given l e.labels) (given l (in_case None e).labels) (given l f.labels)
      (given l (outside_case (put_end I.Lab f)).labels)
      (q.counts l) (in_case_times l None e) (ap (given l) (in_case_labels None e)) (case_held l f));
}

pub is_balanced : (d e : Draft) (ns : List ℕ) → balance.Leads d e ns → Balanced d e ns
unfolding balance
is_balanced d e ns p = p

pub balance_asks : balance.asks ≡ false
unfolding balance
balance_asks = refl
