-- Loops, cases, and what leaves them: what they give, by what their parts give.
use Rattle.std.proofs.Common.{◌≡◌, ℕ, ◌+◌, List, [], ◌∷◌, ◌++◌, refl, ap, ◌∙◌, append_assoc, arith}
use Rattle.icn_text.specs.declared.op.Op.TheVariants as O
use Rattle.icn_tree.specs.declared.tree.LoopKind.TheVariants.{While, Until, Every}
use Rattle.icn_code.specs.declared.instr.Instr.{Instr}
use Rattle.icn_code.specs.declared.instr.Instr.TheVariants as I
use Rattle.icn_unit.specs.declared.unit.UnitInstr.TheVariants as U
use Rattle.icn_translate.specs.Drafts.{Draft, ◌▹◌, put, with_label, next_label, no_ways, in_loop, put_end}
use Rattle.icn_translate.specs.Translation.{put_mark, until_part, control_part, loop_end, looped_body, case_of}
use Rattle.icn_link.specs.Resolving.{Scope}
use Rattle.law_simulation.specs.Translation as X
use Rattle.law_link.proofs.CodeSteps.{Gives, no_facts, gives_instruction, ◌⨾◌, numbered_then, placed_then, then_placed, given_as, given_numbered}
use Rattle.law_link.proofs.CodeWays.{puts_next, loops_give, goes_to_end, cases_give}

-- the code of a part of a loop, and what it is where `next` goes to the place behind it
pub record EndsAt (n : ℕ) (b known : X.LoopExits → ℕ → List Instr) : Type 0 where
  pub same : (w : X.LoopExits) (p : ℕ) → w.next ≡ p + n → b w p ≡ known w p

ways_are : {a b c d : ℕ} → a ≡ b → c ≡ d → X.ways a c ≡ X.ways b d
ways_are {b = b} {c = c} e f = ap (λ k. X.ways k c) e ∙ ap (λ k. X.ways b k) f

module _ {S : Scope} {F : List (List ℕ)} {W : List X.LoopExits} {E : List ℕ} where
  pub looped_gives : {w : X.LoopExits} {s : Draft → Draft} {n : ℕ} {c : ℕ → List Instr} → Gives S F (w ∷ W) E s n c no_facts
      → Gives S F (w ∷ W) E (looped_body s) (n + 2) (λ p. I.Mark w.next ∷ c (p + 1) ++ I.Unmark ∷ []) no_facts
  looped_gives x = given_as (puts_next U.Mark I.Mark (λ l. refl) ⨾ x ⨾ gives_instruction U.Unmark refl) (omega arith) (λ p f. (refl, tt))

  pub repeat_gives : {s : Draft → Draft} {n : ℕ} {c : X.LoopExits → ℕ → List Instr} → ((w : X.LoopExits) → Gives S F (w ∷ W) E s n (c w) no_facts)
      → Gives S F W E (λ d. d ▹ with_label ▹ put (U.Lab (next_label d)) ▹ in_loop no_ways ▹ looped_body s ▹ loop_end (U.Loop (next_label d))) (n + 3)
      (λ p. I.Mark (p + n + 2) ∷ c (X.ways (p + n + 3) (p + n + 2)) (p + 1) ++ (I.Unmark ∷ I.Loop p ∷ [])) no_facts
  repeat_gives {n = n} {c = c} x =
      given_numbered (λ l. numbered_then (placed_then l (loops_give (U.Loop l) refl (λ w. looped_gives (x w))))) (omega arith)
      (λ l p f.
      let next : p + (n + 2) ≡ p + n + 2 = omega arith in
      let last : p + (n + 2) + 1 ≡ p + n + 3 = omega arith in
      let w = X.ways (p + (n + 2) + 1) (p + (n + 2)) in (
        ap (λ k. I.Mark (p + (n + 2)) ∷ (c w (p + 1) ++ I.Unmark ∷ []) ++ I.Loop k ∷ []) f.0
            ∙ ap (λ (is : List Instr). I.Mark (p + (n + 2)) ∷ is) (append_assoc (c w (p + 1)) (I.Unmark ∷ []) (I.Loop p ∷ []))
            ∙ ap (λ (v : X.LoopExits). I.Mark v.next ∷ c v (p + 1) ++ (I.Unmark ∷ I.Loop p ∷ [])) (ways_are last next),
        tt,
      ))

  pub while_gives : {s t : Draft → Draft} {m n : ℕ} {c b k : X.LoopExits → ℕ → List Instr} → ((w : X.LoopExits) → Gives S F (w ∷ W) E s m (c w) no_facts)
      → ((w : X.LoopExits) → Gives S F (w ∷ W) E t n (b w) no_facts) → EndsAt n b k
      → Gives S F W E (λ d. d ▹ control_part While s ▹ t ▹ loop_end (U.Loop (next_label d))) (m + n + 3)
      (λ p. I.Mark0 ∷ c (X.ways (p + m + n + 3) (p + m + n + 2)) (p + 1)
      ++ (I.Unmark ∷ k (X.ways (p + m + n + 3) (p + m + n + 2)) (p + m + 2) ++ I.Loop p ∷ [])) no_facts
  while_gives {m = m} {n = n} {c = c} {b = b} {k = k} x y ends =
      given_numbered (λ l. numbered_then (placed_then l (loops_give (U.Loop l) refl
      (λ w. gives_instruction U.Mark0 refl ⨾ x w ⨾ gives_instruction U.Unmark refl ⨾ y w)))) (omega arith)
      (λ l p f.
      let q = p + (1 + (m + (1 + n))) in
      let w = X.ways (q + 1) q in
      let v = X.ways (p + m + n + 3) (p + m + n + 2) in
      let next : q ≡ p + m + n + 2 = omega arith in
      let last : q + 1 ≡ p + m + n + 3 = omega arith in
      let begins : p + 1 + m + 1 ≡ p + m + 2 = omega arith in
      let end : p + m + n + 2 ≡ p + m + 2 + n = omega arith in (
        ap (λ r. I.Mark0 ∷ (c w (p + 1) ++ (I.Unmark ∷ b w (p + 1 + m + 1))) ++ I.Loop r ∷ []) f.0
            ∙ ap (λ (is : List Instr). I.Mark0 ∷ is) (append_assoc (c w (p + 1)) (I.Unmark ∷ b w (p + 1 + m + 1)) (I.Loop p ∷ []))
            ∙ ap (λ r. I.Mark0 ∷ c w (p + 1) ++ (I.Unmark ∷ b w r ++ I.Loop p ∷ [])) begins
            ∙ ap (λ (v : X.LoopExits). I.Mark0 ∷ c v (p + 1) ++ (I.Unmark ∷ b v (p + m + 2) ++ I.Loop p ∷ [])) (ways_are last next)
            ∙ ap (λ (is : List Instr). I.Mark0 ∷ c v (p + 1) ++ (I.Unmark ∷ is ++ I.Loop p ∷ [])) (ends.same v (p + m + 2) end),
        tt,
      ))

  -- a control expression of `until`, and the part behind it
  until_part_gives : {s t : Draft → Draft} {m n : ℕ} {c b : ℕ → List Instr} → Gives S F W E s m c no_facts → Gives S F W E t n b no_facts
      → Gives S F W E (λ d. d ▹ until_part s ▹ t) (m + n + 3) (λ p. I.Mark (p + m + 3) ∷ c (p + 1) ++ (I.Unmark ∷ I.Efail ∷ b (p + m + 3))) no_facts
  until_part_gives {m = m} {n = n} {c = c} {b = b} x y =
      given_numbered
      (λ l. numbered_then (gives_instruction (U.Mark l) refl ⨾ x ⨾ gives_instruction U.Unmark refl ⨾ gives_instruction U.Efail refl ⨾ placed_then l y))
      (omega arith)
      (λ l p f.
      let at : S.label l ≡ p + m + 3 = f.1.1.1.1.0 ∙ omega arith in
      let begins : p + 1 + m + 1 + 1 ≡ p + m + 3 = omega arith in (
        ap (λ k. I.Mark k ∷ c (p + 1) ++ (I.Unmark ∷ I.Efail ∷ b (p + 1 + m + 1 + 1))) at
            ∙ ap (λ q. I.Mark (p + m + 3) ∷ c (p + 1) ++ (I.Unmark ∷ I.Efail ∷ b q)) begins,
        tt,
      ))

  pub every_gives : {s t : Draft → Draft} {m n : ℕ} {c b k : X.LoopExits → ℕ → List Instr} → ((w : X.LoopExits) → Gives S F (w ∷ W) E s m (c w) no_facts)
      → ((w : X.LoopExits) → Gives S F (w ∷ W) E t n (b w) no_facts) → EndsAt n b k
      → Gives S F W E (λ d. d ▹ control_part Every s ▹ t ▹ loop_end U.Efail) (m + n + 3)
      (λ p. I.Mark0 ∷ c (X.ways (p + m + n + 3) (p + m + n + 2)) (p + 1)
      ++ (I.Pop ∷ k (X.ways (p + m + n + 3) (p + m + n + 2)) (p + m + 2) ++ I.Efail ∷ [])) no_facts
  every_gives {m = m} {n = n} {c = c} {b = b} {k = k} x y ends =
      given_as (loops_give U.Efail refl (λ w. gives_instruction U.Mark0 refl ⨾ x w ⨾ gives_instruction U.Pop refl ⨾ y w)) (omega arith)
      (λ p f.
      let q = p + (1 + (m + (1 + n))) in
      let w = X.ways (q + 1) q in
      let v = X.ways (p + m + n + 3) (p + m + n + 2) in
      let next : q ≡ p + m + n + 2 = omega arith in
      let last : q + 1 ≡ p + m + n + 3 = omega arith in
      let begins : p + 1 + m + 1 ≡ p + m + 2 = omega arith in
      let end : p + m + n + 2 ≡ p + m + 2 + n = omega arith in (
        ap (λ (is : List Instr). I.Mark0 ∷ is) (append_assoc (c w (p + 1)) (I.Pop ∷ b w (p + 1 + m + 1)) (I.Efail ∷ []))
            ∙ ap (λ r. I.Mark0 ∷ c w (p + 1) ++ (I.Pop ∷ b w r ++ I.Efail ∷ [])) begins
            ∙ ap (λ (v : X.LoopExits). I.Mark0 ∷ c v (p + 1) ++ (I.Pop ∷ b v (p + m + 2) ++ I.Efail ∷ [])) (ways_are last next)
            ∙ ap (λ (is : List Instr). I.Mark0 ∷ c v (p + 1) ++ (I.Pop ∷ is ++ I.Efail ∷ [])) (ends.same v (p + m + 2) end),
        tt,
      ))

pub until_gives : {S : Scope} {F : List (List ℕ)} {W : List X.LoopExits} {E : List ℕ} {s t : Draft → Draft} {m n : ℕ} {c b k : X.LoopExits → ℕ → List Instr}
    → ((w : X.LoopExits) → Gives S F (w ∷ W) E s m (c w) no_facts) → ((w : X.LoopExits) → Gives S F (w ∷ W) E t n (b w) no_facts) → EndsAt n b k
    → Gives S F W E (λ d. d ▹ control_part Until s ▹ t ▹ loop_end (U.Loop (next_label d))) (m + n + 4)
    (λ p. I.Mark (p + m + 3) ∷ c (X.ways (p + m + n + 4) (p + m + n + 3)) (p + 1)
    ++ (I.Unmark ∷ I.Efail ∷ k (X.ways (p + m + n + 4) (p + m + n + 3)) (p + m + 3) ++ I.Loop p ∷ [])) no_facts
until_gives {m = m} {n = n} {c = c} {b = b} {k = k} x y ends =
    given_numbered (λ l. numbered_then (placed_then l (loops_give (U.Loop l) refl (λ w. until_part_gives (x w) (y w))))) (omega arith)
    (λ l p f.
    let q = p + (m + n + 3) in
    let w = X.ways (q + 1) q in
    let v = X.ways (p + m + n + 4) (p + m + n + 3) in
    let next : q ≡ p + m + n + 3 = omega arith in
    let last : q + 1 ≡ p + m + n + 4 = omega arith in
    let end : p + m + n + 3 ≡ p + m + 3 + n = omega arith in (
      ap (λ r. I.Mark (p + m + 3) ∷ (c w (p + 1) ++ (I.Unmark ∷ I.Efail ∷ b w (p + m + 3))) ++ I.Loop r ∷ []) f.0
          ∙ ap (λ (is : List Instr). I.Mark (p + m + 3) ∷ is) (append_assoc (c w (p + 1)) (I.Unmark ∷ I.Efail ∷ b w (p + m + 3)) (I.Loop p ∷ []))
          ∙ ap (λ (v : X.LoopExits). I.Mark (p + m + 3) ∷ c v (p + 1) ++ (I.Unmark ∷ I.Efail ∷ b v (p + m + 3) ++ I.Loop p ∷ [])) (ways_are last next)
          ∙ ap (λ (is : List Instr). I.Mark (p + m + 3) ∷ c v (p + 1) ++ (I.Unmark ∷ I.Efail ∷ is ++ I.Loop p ∷ [])) (ends.same v (p + m + 3) end),
      tt,
    ))

-- Cases

pub clause_gives : {S : Scope} {F : List (List ℕ)} {W : List X.LoopExits} {last : ℕ} {E : List ℕ} {s b : Draft → Draft} {n m : ℕ} {c k : ℕ → List Instr}
    → Gives S F W (last ∷ E) s n c no_facts → Gives S F W (last ∷ E) b m k no_facts
    → Gives S F W (last ∷ E) (λ d. d ▹ put_mark ▹ put U.Ccase ▹ s ▹ put (U.Op O.Equivalent) ▹ put U.Unmark ▹ put U.Pop ▹ b ▹ put_end U.Goto
    ▹ put (U.Lab (next_label d))) (n + m + 6)
    (λ p. I.Mark (p + n + m + 6) ∷ I.Ccase ∷ c (p + 2) ++ (I.Op O.Equivalent ∷ I.Unmark ∷ I.Pop ∷ k (p + n + 5) ++ I.Goto last ∷ [])) no_facts
clause_gives {S = S} {last = last} {n = n} {m = m} {c = c} {k = k} x y =
    given_numbered (λ l. numbered_then (gives_instruction (U.Mark l) refl ⨾ gives_instruction U.Ccase refl ⨾ x ⨾ gives_instruction (U.Op O.Equivalent) refl
    ⨾ gives_instruction U.Unmark refl ⨾ gives_instruction U.Pop refl ⨾ y ⨾ then_placed l goes_to_end)) (omega arith)
    (λ l p f.
    let at : S.label l ≡ p + n + m + 6 = f.1.1.1.1.1.1.1.1 ∙ omega arith in
    let first : p + 1 + 1 ≡ p + 2 = omega arith in
    let second : p + 1 + 1 + n + 1 + 1 + 1 ≡ p + n + 5 = omega arith in
    let behind : ℕ → List Instr = λ q. I.Op O.Equivalent ∷ I.Unmark ∷ I.Pop ∷ k q ++ I.Goto last ∷ [] in (
      ap (λ r. I.Mark r ∷ I.Ccase ∷ c (p + 1 + 1) ++ behind (p + 1 + 1 + n + 1 + 1 + 1)) at
          ∙ ap (λ r. I.Mark (p + n + m + 6) ∷ I.Ccase ∷ c r ++ behind (p + 1 + 1 + n + 1 + 1 + 1)) first
          ∙ ap (λ r. I.Mark (p + n + m + 6) ∷ I.Ccase ∷ c (p + 2) ++ behind r) second,
      tt,
    ))

-- the clauses and the default, whose codes know where the case ends
pub case_gives : {S : Scope} {F : List (List ℕ)} {W : List X.LoopExits} {E : List ℕ} {s g t : Draft → Draft} {n m i : ℕ} {c : ℕ → List Instr}
    {k : ℕ → ℕ → List Instr}
    {q : ℕ → List Instr} → Gives S F W E s n c no_facts → ((last : ℕ) → Gives S F W (last ∷ E) g m (k last) no_facts)
    → ((last : ℕ) → Gives S F W (last ∷ E) t i q no_facts)
    → Gives S F W E (λ d. d ▹ put U.Mark0 ▹ s ▹ put U.Eret ▹ case_of g t) (n + m + i + 3)
    (λ p. I.Mark0 ∷ c (p + 1) ++ (I.Eret ∷ k (p + n + m + i + 3) (p + n + 2) ++ (I.Pop ∷ q (p + n + 3 + m)))) no_facts
case_gives {n = n} {m = m} {i = i} {c = c} {k = k} {q = q} x y z =
    given_as (gives_instruction U.Mark0 refl ⨾ x ⨾ gives_instruction U.Eret refl ⨾ cases_give (λ last. y last ⨾ gives_instruction U.Pop refl ⨾ z last))
    (omega arith)
    (λ p f.
    let last : p + 1 + n + 1 + (m + (1 + i)) ≡ p + n + m + i + 3 = omega arith in
    let first : p + 1 + n + 1 ≡ p + n + 2 = omega arith in
    let default : p + 1 + n + 1 + m + 1 ≡ p + n + 3 + m = omega arith in (
      ap (λ r. I.Mark0 ∷ c (p + 1) ++ (I.Eret ∷ k r (p + 1 + n + 1) ++ (I.Pop ∷ q (p + 1 + n + 1 + m + 1)))) last
          ∙ ap (λ r. I.Mark0 ∷ c (p + 1) ++ (I.Eret ∷ k (p + n + m + i + 3) r ++ (I.Pop ∷ q (p + 1 + n + 1 + m + 1)))) first
          ∙ ap (λ r. I.Mark0 ∷ c (p + 1) ++ (I.Eret ∷ k (p + n + m + i + 3) (p + n + 2) ++ (I.Pop ∷ q r))) default,
      tt,
    ))
