-- The labels that open loops and cases go to: where a loop or a case ends they have their places.
use Rattle.std.proofs.Common.{◌≡◌, ℕ, ◌+◌, List, [], ◌∷◌, ◌++◌, length, Option, None, Some, refl, sym, ap, subst, ◌∙◌, append_assoc, append-nil, length-append, arith}
use Rattle.icn_code.specs.declared.instr.Instr.{Instr}
use Rattle.icn_code.specs.declared.instr.Instr.TheVariants as I
use Rattle.icn_unit.specs.declared.unit.UnitInstr.{UnitInstr}
use Rattle.icn_unit.specs.declared.unit.UnitInstr.TheVariants as U
use Rattle.icn_translate.specs.declared.builder.LoopLabels.{LoopLabels}
use Rattle.icn_translate.specs.Drafts.{Draft, put, with_label, number_of, with_number, no_ways, first_ways, other_ways, in_loop, outside_loop, innermost, aside, next_number, with_next, put_next, last_number, with_last, put_last, first_end, other_ends, case_end, in_case, outside_case, end_number, with_end, put_end}
use Rattle.icn_translate.specs.Translation.{loop_end}
use Rattle.icn_link.specs.Resolving.{Scope, resolved_one, resolve}
use Rattle.law_simulation.specs.Translation as X
use Rattle.law_link.proofs.CodeSteps.{AtPlace, Placed, Loops, Ends, Front, Agrees, Gives, no_facts, len, put_code, put_len, put_before, put_label}

-- Steps that change neither instructions nor names

pub record Same (d e : Draft) : Type 0 where
  pub instrs : e.instrs ≡ d.instrs
  pub names : e.names ≡ d.names

same_then : {d e f : Draft} → Same d e → Same e f → Same d f
same_then p q = record { instrs = q.instrs ∙ p.instrs; names = q.names ∙ p.names }

numbered_same : (k : Option ℕ) (d : Draft) → Same d (with_number k d)
unfolding with_label
numbered_same None d = record { instrs = refl; names = refl }
numbered_same (Some n) d = record { instrs = refl; names = refl }

numbered_loops : (k : Option ℕ) (d : Draft) → (with_number k d).loops ≡ d.loops
unfolding with_label
numbered_loops None d = refl
numbered_loops (Some n) d = refl

numbered_cases : (k : Option ℕ) (d : Draft) → (with_number k d).cases ≡ d.cases
unfolding with_label
numbered_cases None d = refl
numbered_cases (Some n) d = refl

in_same : (w : LoopLabels) (d : Draft) → Same d (in_loop w d)
unfolding in_loop
in_same w d = record { instrs = refl; names = refl }

in_loops : (w : LoopLabels) (d : Draft) → (in_loop w d).loops ≡ w ∷ d.loops
unfolding in_loop
in_loops w d = refl

in_cases : (w : LoopLabels) (d : Draft) → (in_loop w d).cases ≡ d.cases
unfolding in_loop
in_cases w d = refl

out_same : (d : Draft) → Same d (outside_loop d)
unfolding outside_loop
out_same d = record { instrs = refl; names = refl }

out_loops : (d : Draft) → (outside_loop d).loops ≡ other_ways d.loops
unfolding outside_loop
out_loops d = refl

out_cases : (d : Draft) → (outside_loop d).cases ≡ d.cases
unfolding outside_loop
out_cases d = refl

innermost_is : (d : Draft) → innermost d ≡ first_ways d.loops
unfolding innermost
innermost_is d = refl

put_loops : (i : UnitInstr) (d : Draft) → (put i d).loops ≡ d.loops
unfolding put
put_loops i d = refl

put_cases : (i : UnitInstr) (d : Draft) → (put i d).cases ≡ d.cases
unfolding put
put_cases i d = refl

next_same : (d : Draft) → Same d (with_next d)
next_same d = let k = (innermost d).next in let o = outside_loop d in
    same_then (out_same d) (same_then (numbered_same k o) (in_same _ (with_number k o)))

next_loops : (d : Draft) → (with_next d).loops ≡ record { next = Some (next_number d); last = (innermost d).last } ∷ other_ways d.loops
next_loops d = let k = (innermost d).next in let o = outside_loop d in
    in_loops _ (with_number k o) ∙ ap (λ loops. record { next = Some (next_number d); last = (innermost d).last } ∷ loops) (numbered_loops k o ∙ out_loops d)

next_cases : (d : Draft) → (with_next d).cases ≡ d.cases
next_cases d = let k = (innermost d).next in let o = outside_loop d in in_cases _ (with_number k o) ∙ numbered_cases k o ∙ out_cases d

last_same : (d : Draft) → Same d (with_last d)
last_same d = let k = (innermost d).last in let o = outside_loop d in
    same_then (out_same d) (same_then (numbered_same k o) (in_same _ (with_number k o)))

last_loops : (d : Draft) → (with_last d).loops ≡ record { next = (innermost d).next; last = Some (last_number d) } ∷ other_ways d.loops
last_loops d = let k = (innermost d).last in let o = outside_loop d in
    in_loops _ (with_number k o) ∙ ap (λ loops. record { next = (innermost d).next; last = Some (last_number d) } ∷ loops) (numbered_loops k o ∙ out_loops d)

last_cases : (d : Draft) → (with_last d).cases ≡ d.cases
last_cases d = let k = (innermost d).last in let o = outside_loop d in in_cases _ (with_number k o) ∙ numbered_cases k o ∙ out_cases d

in_case_same : (end : Option ℕ) (d : Draft) → Same d (in_case end d)
unfolding in_case
in_case_same end d = record { instrs = refl; names = refl }

in_case_loops : (end : Option ℕ) (d : Draft) → (in_case end d).loops ≡ d.loops
unfolding in_case
in_case_loops end d = refl

in_case_cases : (end : Option ℕ) (d : Draft) → (in_case end d).cases ≡ end ∷ d.cases
unfolding in_case
in_case_cases end d = refl

out_case_same : (d : Draft) → Same d (outside_case d)
unfolding outside_case
out_case_same d = record { instrs = refl; names = refl }

out_case_loops : (d : Draft) → (outside_case d).loops ≡ d.loops
unfolding outside_case
out_case_loops d = refl

out_case_cases : (d : Draft) → (outside_case d).cases ≡ other_ends d.cases
unfolding outside_case
out_case_cases d = refl

case_end_is : (d : Draft) → case_end d ≡ first_end d.cases
unfolding case_end
case_end_is d = refl

end_same : (d : Draft) → Same d (with_end d)
end_same d = let k = case_end d in let o = outside_case d in
    same_then (out_case_same d) (same_then (numbered_same k o) (in_case_same _ (with_number k o)))

end_loops : (d : Draft) → (with_end d).loops ≡ d.loops
end_loops d = let k = case_end d in let o = outside_case d in in_case_loops _ (with_number k o) ∙ numbered_loops k o ∙ out_case_loops d

end_cases : (d : Draft) → (with_end d).cases ≡ Some (end_number d) ∷ other_ends d.cases
end_cases d = let k = case_end d in let o = outside_case d in
    in_case_cases _ (with_number k o) ∙ ap (λ cases. Some (end_number d) ∷ cases) (numbered_cases k o ∙ out_case_cases d)

-- Labels of loops and cases

module _ (S : Scope) where
  -- a label that was mentioned is the one that is placed
  at_number : (p : ℕ) (k : Option ℕ) (o : Draft) → S.label (number_of k o) ≡ p → AtPlace S p k
  at_number p None o h = tt
  at_number p (Some label) o h = h

  loops_of : (loops : List LoopLabels) (w : X.LoopExits) (W : List X.LoopExits) → AtPlace S w.last (first_ways loops).last
      → AtPlace S w.next (first_ways loops).next
      → Loops S (other_ways loops) W → Loops S loops (w ∷ W)
  loops_of [] w W l n h = tt
  loops_of (ways ∷ loops) w W l n h = ((l, n), h)

  ends_of : (cases : List (Option ℕ)) (e : ℕ) (E : List ℕ) → AtPlace S e (first_end cases) → Ends S (other_ends cases) E → Ends S cases (e ∷ E)
  ends_of [] e E k h = tt
  ends_of (end ∷ cases) e E k h = (k, h)

  -- a draft with the same instructions and names, and other loops or cases
  other_ways_agree : {F : List (List ℕ)} {V W : List X.LoopExits} {D E : List ℕ} {d e : Draft} → Same d e → Loops S d.loops W → Ends S d.cases E
      → Agrees S F V D e → Agrees S F W E d
  other_ways_agree {F = F} s l c h = record {
    placed = subst (λ (is : List UnitInstr). Placed S 0 is) s.instrs h.placed;
    names = subst (λ (names : List (List ℕ)). Front names F) s.names h.names;
    loops = l;
    ends = c;
  }

  same_len : {d e : Draft} → Same d e → len S e ≡ len S d
  same_len s = ap (λ (is : List UnitInstr). length (resolve S is)) s.instrs

  same_code : {d e : Draft} → Same d e → resolve S e.instrs ≡ resolve S d.instrs
  same_code s = ap (λ (is : List UnitInstr). resolve S is) s.instrs

-- The label that `next` goes to, and that of `break`

module _ {S : Scope} {F : List (List ℕ)} {w : X.LoopExits} {W : List X.LoopExits} {E : List ℕ} where
  next_known : (d : Draft) → Agrees S F (w ∷ W) E (with_next d) → Agrees S F (w ∷ W) E d × (S.label (next_number d) ≡ w.next)
  next_known d h =
      let k : Loops S (record { next = Some (next_number d); last = (innermost d).last } ∷ other_ways d.loops) (w ∷ W) =
      subst (λ (loops : List LoopLabels). Loops S loops (w ∷ W)) (next_loops d) h.loops in
      let first = innermost_is d in
      let last : AtPlace S w.last (first_ways d.loops).last = subst (λ (ways : LoopLabels). AtPlace S w.last ways.last) first k.0.0 in
      let next : AtPlace S w.next (first_ways d.loops).next =
      subst (λ (ways : LoopLabels). AtPlace S w.next ways.next) first (at_number S w.next (innermost d).next (outside_loop d) k.0.1) in (
        other_ways_agree S (next_same d) (loops_of S d.loops w W last next k.1)
            (subst (λ (cases : List (Option ℕ)). Ends S cases E) (next_cases d) h.ends) h,
        k.0.1,
      )

  last_known : (d : Draft) → Agrees S F (w ∷ W) E (with_last d) → Agrees S F (w ∷ W) E d × (S.label (last_number d) ≡ w.last)
  last_known d h =
      let k : Loops S (record { next = (innermost d).next; last = Some (last_number d) } ∷ other_ways d.loops) (w ∷ W) =
      subst (λ (loops : List LoopLabels). Loops S loops (w ∷ W)) (last_loops d) h.loops in
      let first = innermost_is d in
      let next : AtPlace S w.next (first_ways d.loops).next = subst (λ (ways : LoopLabels). AtPlace S w.next ways.next) first k.0.1 in
      let last : AtPlace S w.last (first_ways d.loops).last =
      subst (λ (ways : LoopLabels). AtPlace S w.last ways.last) first (at_number S w.last (innermost d).last (outside_loop d) k.0.0) in (
        other_ways_agree S (last_same d) (loops_of S d.loops w W last next k.1)
            (subst (λ (cases : List (Option ℕ)). Ends S cases E) (last_cases d) h.ends) h,
        k.0.0,
      )

  -- an instruction that goes to such a label
  pub puts_next : (word : ℕ → UnitInstr) (instr : ℕ → Instr) → ((l : ℕ) → resolved_one S (word l) ≡ instr (S.label l) ∷ [])
      → Gives S F (w ∷ W) E (put_next word) 1 (λ p. instr w.next ∷ []) no_facts
  puts_next word instr same = record {
    long = λ d.
        let l = put_len S (word (next_number d)) (with_next d) in
        let s = same_len S (next_same d) in
        let one = ap length (same (next_number d)) in
        omega arith;
    at = λ d h.
        let known = next_known d (put_before (word (next_number d)) (with_next d) h) in
        record {
          before = known.0;
          is = put_code S (word (next_number d)) (with_next d)
              ∙ ap (λ (is : List Instr). is ++ resolved_one S (word (next_number d))) (same_code S (next_same d))
              ∙ ap (λ (is : List Instr). resolve S d.instrs ++ is) (same (next_number d) ∙ ap (λ p. instr p ∷ []) known.1);
          known = tt;
        };
  }

  pub puts_last : (word : ℕ → UnitInstr) (instr : ℕ → Instr) → ((l : ℕ) → resolved_one S (word l) ≡ instr (S.label l) ∷ [])
      → Gives S F (w ∷ W) E (put_last word) 1 (λ p. instr w.last ∷ []) no_facts
  puts_last word instr same = record {
    long = λ d.
        let l = put_len S (word (last_number d)) (with_last d) in
        let s = same_len S (last_same d) in
        let one = ap length (same (last_number d)) in
        omega arith;
    at = λ d h.
        let known = last_known d (put_before (word (last_number d)) (with_last d) h) in
        record {
          before = known.0;
          is = put_code S (word (last_number d)) (with_last d)
              ∙ ap (λ (is : List Instr). is ++ resolved_one S (word (last_number d))) (same_code S (last_same d))
              ∙ ap (λ (is : List Instr). resolve S d.instrs ++ is) (same (last_number d) ∙ ap (λ p. instr p ∷ []) known.1);
          known = tt;
        };
  }

  -- a step outside the innermost loop
  pub set_aside : {s : Draft → Draft} {n : ℕ} {a : ℕ → List Instr} {f : ℕ → Type 0} → Gives S F W E s n a f → Gives S F (w ∷ W) E (aside s) n a f
  set_aside {s = s} {n = n} {a = a} {f = f} x = record {
    long = λ d.
        let e = x.long (outside_loop d) in
        let o = same_len S (out_same d) in
        let i = same_len S (in_same (innermost d) (s (outside_loop d))) in
        omega arith;
    at = λ d h.
        let o = outside_loop d in
        let e = s o in
        let k : Loops S (innermost d ∷ e.loops) (w ∷ W) = subst (λ (loops : List LoopLabels). Loops S loops (w ∷ W)) (in_loops (innermost d) e) h.loops in
        let within : Agrees S F W E e = other_ways_agree S (in_same (innermost d) e) k.1
        (subst (λ (cases : List (Option ℕ)). Ends S cases E) (in_cases (innermost d) e) h.ends) h in
        let all = x.at o within in
        let first = innermost_is d in
        let rest : Loops S (other_ways d.loops) W = subst (λ (loops : List LoopLabels). Loops S loops W) (out_loops d) all.before.loops in
        let last : AtPlace S w.last (first_ways d.loops).last = subst (λ (ways : LoopLabels). AtPlace S w.last ways.last) first k.0.0 in
        let next : AtPlace S w.next (first_ways d.loops).next = subst (λ (ways : LoopLabels). AtPlace S w.next ways.next) first k.0.1 in
        let same = same_len S (out_same d) in
        record {
          before = other_ways_agree S (out_same d) (loops_of S d.loops w W last next rest)
              (subst (λ (cases : List (Option ℕ)). Ends S cases E) (out_cases d) all.before.ends) all.before;
          is = same_code S (in_same (innermost d) e) ∙ all.is ∙ ap (λ (is : List Instr). is ++ a (len S o)) (same_code S (out_same d))
              ∙ ap (λ p. resolve S d.instrs ++ a p) same;
          known = subst f same all.known;
        };
  }

-- Whole loops

-- the loops outside
loop_end_loops : (i : UnitInstr) (d : Draft) → (loop_end i d).loops ≡ other_ways d.loops
loop_end_loops i d =
    let d1 = with_next d in
    let d2 = put_next U.Lab d in
    let d3 = put i d2 in
    let d4 = with_last d3 in
    let d5 = put_last U.Lab d3 in
    out_loops d5 ∙ ap other_ways (put_loops (U.Lab (last_number d3)) d4 ∙ last_loops d3)
    ∙ ap other_ways (put_loops i d2 ∙ put_loops (U.Lab (next_number d)) d1 ∙ next_loops d)

loop_end_cases : (i : UnitInstr) (d : Draft) → (loop_end i d).cases ≡ d.cases
loop_end_cases i d =
    let d1 = with_next d in
    let d2 = put_next U.Lab d in
    let d3 = put i d2 in
    let d4 = with_last d3 in
    let d5 = put_last U.Lab d3 in
    out_cases d5 ∙ put_cases (U.Lab (last_number d3)) d4 ∙ last_cases d3 ∙ put_cases i d2 ∙ put_cases (U.Lab (next_number d)) d1 ∙ next_cases d

-- the label that `break` goes to is not mentioned between
still_last : (i : UnitInstr) (d : Draft) → (innermost (put i (put_next U.Lab d))).last ≡ (first_ways d.loops).last
still_last i d =
    let d1 = with_next d in
    let d2 = put_next U.Lab d in
    let d3 = put i d2 in
    ap (λ (ways : LoopLabels). ways.last) (innermost_is d3 ∙ ap first_ways (put_loops i d2 ∙ put_loops (U.Lab (next_number d)) d1 ∙ next_loops d))
    ∙ ap (λ (ways : LoopLabels). ways.last) (innermost_is d)

-- the end of a loop: both labels have their places there
module _ (S : Scope) (i : UnitInstr) (one : length (resolved_one S i) ≡ 1) where
  loop_end_code : (d : Draft) → resolve S (loop_end i d).instrs ≡ resolve S d.instrs ++ resolved_one S i
  loop_end_code d =
      let d1 = with_next d in
      let d2 = put_next U.Lab d in
      let d3 = put i d2 in
      let d4 = with_last d3 in
      let d5 = put_last U.Lab d3 in
      same_code S (out_same d5) ∙ put_code S (U.Lab (last_number d3)) d4 ∙ append-nil (resolve S d4.instrs) ∙ same_code S (last_same d3)
      ∙ put_code S i d2 ∙ ap (λ (is : List Instr). is ++ resolved_one S i)
      (put_code S (U.Lab (next_number d)) d1 ∙ append-nil (resolve S d1.instrs) ∙ same_code S (next_same d))

  loop_end_len : (d : Draft) → len S (loop_end i d) ≡ len S d + 1
  loop_end_len d = let l = length-append (resolve S d.instrs) (resolved_one S i) in ap length (loop_end_code d) ∙ omega arith

  loop_known : {F : List (List ℕ)} {W : List X.LoopExits} {E : List ℕ} (w : X.LoopExits) (d : Draft) → w.next ≡ len S d → w.last ≡ len S d + 1
      → Agrees S F W E (loop_end i d) → Agrees S F (w ∷ W) E d
  loop_known {F = F} {W = W} {E = E} w d n l h =
      let d1 = with_next d in
      let d2 = put_next U.Lab d in
      let d3 = put i d2 in
      let d4 = with_last d3 in
      let d5 = put_last U.Lab d3 in
      let ends : Ends S d.cases E = subst (λ (cases : List (Option ℕ)). Ends S cases E) (loop_end_cases i d) h.ends in
      let a5 : Agrees S F [] [] d5 = other_ways_agree S (out_same d5) tt tt h in
      let a3 : Agrees S F [] [] d3 = other_ways_agree S (last_same d3) tt tt (put_before (U.Lab (last_number d3)) d4 a5) in
      let a2 : Agrees S F [] [] d2 = put_before i d2 a3 in
      let s1 = same_len S (next_same d) in
      let s2 = put_len S (U.Lab (next_number d)) d1 in
      let s3 = put_len S i d2 in
      let s4 = same_len S (last_same d3) in
      let last : S.label (last_number d3) ≡ w.last = put_label (last_number d3) d4 a5 ∙ (omega arith) in
      let next : S.label (next_number d) ≡ w.next = put_label (next_number d) d1 a2 ∙ s1 ∙ sym n in
      let first = innermost_is d in
      let known_last : AtPlace S w.last (first_ways d.loops).last =
      subst (λ (k : Option ℕ). AtPlace S w.last k) (still_last i d) (at_number S w.last (innermost d3).last (outside_loop d3) last) in
      let known_next : AtPlace S w.next (first_ways d.loops).next =
      subst (λ (ways : LoopLabels). AtPlace S w.next ways.next) first (at_number S w.next (innermost d).next (outside_loop d) next) in
      let rest : Loops S (other_ways d.loops) W = subst (λ (loops : List LoopLabels). Loops S loops W) (loop_end_loops i d) h.loops in
      other_ways_agree S (next_same d) (loops_of S d.loops w W known_last known_next rest) ends (put_before (U.Lab (next_number d)) d1 a2)

-- a loop, and what goes on with its next pass
pub loops_give : {S : Scope} {F : List (List ℕ)} {W : List X.LoopExits} {E : List ℕ} {inner : Draft → Draft} {n : ℕ} {c : X.LoopExits → ℕ → List Instr}
    {f : X.LoopExits → ℕ → Type 0} (i : UnitInstr) → length (resolved_one S i) ≡ 1 → ((w : X.LoopExits) → Gives S F (w ∷ W) E inner n (c w) (f w))
    → Gives S F W E (λ d. loop_end i (inner (in_loop no_ways d))) (n + 1) (λ p. c (X.ways (p + n + 1) (p + n)) p ++ resolved_one S i)
    (λ p. f (X.ways (p + n + 1) (p + n)) p)
loops_give {S = S} {F = F} {W = W} {E = E} {inner = inner} {n = n} {c = c} {f = f} i one x = record {
  long = λ d.
      let a = loop_end_len S i one (inner (in_loop no_ways d)) in
      let b = (x (X.ways 0 0)).long (in_loop no_ways d) in
      let s = same_len S (in_same no_ways d) in
      omega arith;
  at = λ d h.
      let w = X.ways (len S d + n + 1) (len S d + n) in
      let e = in_loop no_ways d in
      let same = same_len S (in_same no_ways d) in
      let long : len S d + n ≡ len S (inner e) = sym ((x w).long e ∙ ap (λ p. p + n) same) in
      let all = (x w).at e (loop_known S i one w (inner e) long (ap (λ p. p + 1) long) h) in
      let k : Loops S (no_ways ∷ d.loops) (w ∷ W) = subst (λ (loops : List LoopLabels). Loops S loops (w ∷ W)) (in_loops no_ways d) all.before.loops in
      record {
        before = other_ways_agree S (in_same no_ways d) k.1
            (subst (λ (cases : List (Option ℕ)). Ends S cases E) (in_cases no_ways d) all.before.ends) all.before;
        is = loop_end_code S i one (inner e) ∙ ap (λ (is : List Instr). is ++ resolved_one S i)
            (all.is ∙ ap (λ (is : List Instr). is ++ c w (len S e)) (same_code S (in_same no_ways d)) ∙ ap (λ p. resolve S d.instrs ++ c w p) same)
            ∙ append_assoc (resolve S d.instrs) (c w (len S d)) (resolved_one S i);
        known = subst (f w) same all.known;
      };
}

-- Cases

module _ {S : Scope} {F : List (List ℕ)} {W : List X.LoopExits} {e : ℕ} {E : List ℕ} where
  end_known : (d : Draft) → Agrees S F W (e ∷ E) (with_end d) → Agrees S F W (e ∷ E) d × (S.label (end_number d) ≡ e)
  end_known d h =
      let k : Ends S (Some (end_number d) ∷ other_ends d.cases) (e ∷ E) = subst (λ (cases : List (Option ℕ)). Ends S cases (e ∷ E)) (end_cases d) h.ends in
      let end : AtPlace S e (first_end d.cases) = subst (λ (k : Option ℕ). AtPlace S e k) (case_end_is d) (at_number S e (case_end d) (outside_case d) k.0) in
      (other_ways_agree S (end_same d) (subst (λ (loops : List LoopLabels). Loops S loops W) (end_loops d) h.loops) (ends_of S d.cases e E end k.1) h, k.0)

  -- `goto` behind the innermost case
  pub goes_to_end : Gives S F W (e ∷ E) (put_end U.Goto) 1 (λ p. I.Goto e ∷ []) no_facts
  goes_to_end = record {
    long = λ d.
        let l = put_len S (U.Goto (end_number d)) (with_end d) in
        let s = same_len S (end_same d) in
        omega arith;
    at = λ d h.
        let known = end_known d (put_before (U.Goto (end_number d)) (with_end d) h) in
        record {
          before = known.0;
          is = put_code S (U.Goto (end_number d)) (with_end d) ∙ ap (λ (is : List Instr). is ++ I.Goto (S.label (end_number d)) ∷ []) (same_code S (end_same d))
              ∙ ap (λ p. resolve S d.instrs ++ I.Goto p ∷ []) known.1;
          known = tt;
        };
  }

-- the end of a case has its place behind its clauses
pub cases_give : {S : Scope} {F : List (List ℕ)} {W : List X.LoopExits} {E : List ℕ} {inner : Draft → Draft} {n : ℕ} {c : ℕ → ℕ → List Instr}
    {f : ℕ → ℕ → Type 0} → ((last : ℕ) → Gives S F W (last ∷ E) inner n (c last) (f last))
    → Gives S F W E (λ d. outside_case (put_end U.Lab (inner (in_case None d)))) n (λ p. c (p + n) p) (λ p. f (p + n) p)
cases_give {S = S} {F = F} {W = W} {E = E} {inner = inner} {n = n} {c = c} {f = f} x = record {
  long = λ d.
      let e = in_case None d in
      let g = inner e in
      let a = same_len S (out_case_same (put_end U.Lab g)) in
      let b = put_len S (U.Lab (end_number g)) (with_end g) in
      let l = same_len S (end_same g) in
      let m = (x 0).long e in
      let s = same_len S (in_case_same None d) in
      omega arith;
  at = λ d h.
      let e = in_case None d in
      let g = inner e in
      let g1 = with_end g in
      let g2 = put_end U.Lab g in
      let last = len S d + n in
      let same = same_len S (in_case_same None d) in
      let a2 : Agrees S F [] [] g2 = other_ways_agree S (out_case_same g2) tt tt h in
      let long = (x last).long e in
      let s = same_len S (end_same g) in
      let end : S.label (end_number g) ≡ last = put_label (end_number g) g1 a2 ∙ (omega arith) in
      let loops : (outside_case g2).loops ≡ g.loops = out_case_loops g2 ∙ put_loops (U.Lab (end_number g)) g1 ∙ end_loops g in
      let cases : (outside_case g2).cases ≡ other_ends g.cases =
      out_case_cases g2 ∙ ap other_ends (put_cases (U.Lab (end_number g)) g1 ∙ end_cases g) in
      let known : AtPlace S last (first_end g.cases) =
      subst (λ (k : Option ℕ). AtPlace S last k) (case_end_is g) (at_number S last (case_end g) (outside_case g) end) in
      let before : Agrees S F W (last ∷ E) g = other_ways_agree S (end_same g) (subst (λ (loops : List LoopLabels). Loops S loops W) loops h.loops)
      (ends_of S g.cases last E known (subst (λ (cases : List (Option ℕ)). Ends S cases E) cases h.ends)) (put_before (U.Lab (end_number g)) g1 a2) in
      let all = (x last).at e before in
      let k : Ends S (None ∷ d.cases) (last ∷ E) = subst (λ (cases : List (Option ℕ)). Ends S cases (last ∷ E)) (in_case_cases None d) all.before.ends in
      record {
        before = other_ways_agree S (in_case_same None d)
            (subst (λ (loops : List LoopLabels). Loops S loops W) (in_case_loops None d) all.before.loops) k.1 all.before;
        is = same_code S (out_case_same g2) ∙ put_code S (U.Lab (end_number g)) g1 ∙ append-nil (resolve S g1.instrs) ∙ same_code S (end_same g)
            ∙ all.is ∙ ap (λ (is : List Instr). is ++ c last (len S e)) (same_code S (in_case_same None d)) ∙ ap (λ p. resolve S d.instrs ++ c last p) same;
        known = subst (f last) same all.known;
      };
}
