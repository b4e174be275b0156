-- Steps of a draft, against code whose labels are places: what a step adds, where its later labels stand.
use Rattle.std.proofs.Common.{◌≡◌, ℕ, ◌+◌, List, [], ◌∷◌, ◌++◌, length, Option, None, Some, refl, sym, ap, subst, ◌∙◌, append_assoc, append-nil, add-zero, zero-add, length-append, arith}
use Rattle.std.proofs.lemmas.List.Concat.{flat_map-append}
use Rattle.icn_code.specs.declared.instr.Instr.{Instr}
use Rattle.icn_unit.specs.declared.unit.UnitInstr.{UnitInstr}
use Rattle.icn_unit.specs.declared.unit.UnitInstr.TheVariants as U
use Rattle.icn_unit.specs.UnitRules.{own_label}
use Rattle.icn_translate.specs.declared.builder.LoopLabels.{LoopLabels}
use Rattle.icn_translate.specs.Drafts.{Draft, put, with_label, next_label}
use Rattle.icn_link.specs.Resolving.{Scope, resolved_one, resolve}
use Rattle.law_simulation.specs.Translation as X

-- Labels

-- a label has its place
abbrev pub AtPlace : Scope → ℕ → Option ℕ → Type 0
AtPlace S p None = Unit {0}
AtPlace S p (Some label) = S.label label ≡ p

-- each label has its place among instructions that begin at a place
abbrev pub Placed : Scope → ℕ → List UnitInstr → Type 0
Placed S p [] = Unit {0}
Placed S p (i ∷ is) = AtPlace S p (own_label i) × Placed S (p + length (resolved_one S i)) is

-- the labels of open loops and cases, as far as they were mentioned, have these places
abbrev pub Loops : Scope → List LoopLabels → List X.LoopExits → Type 0
Loops S loops [] = Unit {0}
Loops S [] (w ∷ W) = Unit {0}
Loops S (ways ∷ loops) (w ∷ W) = (AtPlace S w.last ways.last × AtPlace S w.next ways.next) × Loops S loops W

abbrev pub Ends : Scope → List (Option ℕ) → List ℕ → Type 0
Ends S cases [] = Unit {0}
Ends S [] (e ∷ E) = Unit {0}
Ends S (end ∷ cases) (e ∷ E) = AtPlace S e end × Ends S cases E

-- names that are the first of all
pub record Front (names all : List (List ℕ)) : Type 0 where
  pub rest : List (List ℕ)
  pub is : names ++ rest ≡ all

-- What a scope has to do with a draft: its labels have their places, and its names are the first of all names.
pub record Agrees (S : Scope) (F : List (List ℕ)) (W : List X.LoopExits) (E : List ℕ) (d : Draft) : Type 0 where
  pub placed : Placed S 0 d.instrs
  pub names : Front d.names F
  pub loops : Loops S d.loops W
  pub ends : Ends S d.cases E

-- how many instructions a draft has
abbrev pub len : Scope → Draft → ℕ
len S d = length (resolve S d.instrs)

-- From one draft to another this code was added, where this holds of its labels.
pub record Adds (S : Scope) (F : List (List ℕ)) (W : List X.LoopExits) (E : List ℕ) (d later : Draft) (code : List Instr) (fact : Type 0) : Type 0 where
  pub before : Agrees S F W E d
  pub is : resolve S later.instrs ≡ resolve S d.instrs ++ code
  pub known : fact

-- A step that adds so many instructions, with this code where it begins at a place.
pub record Gives (S : Scope) (F : List (List ℕ)) (W : List X.LoopExits) (E : List ℕ) (step : Draft → Draft) (n : ℕ)
    (code : ℕ → List Instr) (fact : ℕ → Type 0) : Type 0 where
  pub long : (d : Draft) → len S (step d) ≡ len S d + n
  pub at : (d : Draft) → Agrees S F W E (step d) → Adds S F W E d (step d) (code (len S d)) (fact (len S d))

-- nothing of labels
abbrev pub no_facts : ℕ → Type 0
no_facts p = Unit {0}

-- Lists

pub resolved-more : (S : Scope) (xs : List UnitInstr) (i : UnitInstr) → resolve S (xs ++ i ∷ []) ≡ resolve S xs ++ resolved_one S i
resolved-more S xs i = flat_map-append (resolved_one S) xs (i ∷ []) ∙ ap (λ is. resolve S xs ++ is) (append-nil (resolved_one S i))

pub placed_split : (S : Scope) (p : ℕ) (xs : List UnitInstr) (i : UnitInstr) → Placed S p (xs ++ i ∷ [])
    → Placed S p xs × AtPlace S (p + length (resolve S xs)) (own_label i)
placed_split S p [] i h = (tt, subst (λ q. AtPlace S q (own_label i)) (sym (add-zero p)) h.0)
placed_split S p (x ∷ xs) i h =
    let r = placed_split S (p + length (resolved_one S x)) xs i h.1 in
    let same : (p + length (resolved_one S x)) + length (resolve S xs) ≡ p + length (resolved_one S x ++ resolve S xs) =
    let long = length-append (resolved_one S x) (resolve S xs) in omega arith in
    ((h.0, r.0), subst (λ q. AtPlace S q (own_label i)) same r.1)

-- One instruction, and one label

pub put_code : (S : Scope) (i : UnitInstr) (d : Draft) → resolve S (put i d).instrs ≡ resolve S d.instrs ++ resolved_one S i
unfolding put
put_code S i d = resolved-more S d.instrs i

pub put_len : (S : Scope) (i : UnitInstr) (d : Draft) → len S (put i d) ≡ len S d + length (resolved_one S i)
put_len S i d = ap length (put_code S i d) ∙ length-append (resolve S d.instrs) (resolved_one S i)

pub put_before : {S : Scope} {F : List (List ℕ)} {W : List X.LoopExits} {E : List ℕ} (i : UnitInstr) (d : Draft) → Agrees S F W E (put i d) → Agrees S F W E d
unfolding put
put_before {S = S} i d h = record { placed = (placed_split S 0 d.instrs i h.placed).0; names = h.names; loops = h.loops; ends = h.ends }

pub put_label : {S : Scope} {F : List (List ℕ)} {W : List X.LoopExits} {E : List ℕ} (label : ℕ) (d : Draft)
    → Agrees S F W E (put (U.Lab label) d) → S.label label ≡ len S d
unfolding put
put_label {S = S} label d h = (placed_split S 0 d.instrs (U.Lab label) h.placed).1 ∙ zero-add (len S d)

pub label_before : {S : Scope} {F : List (List ℕ)} {W : List X.LoopExits} {E : List ℕ} (d : Draft) → Agrees S F W E (with_label d) → Agrees S F W E d
unfolding with_label
label_before d h = record { placed = h.placed; names = h.names; loops = h.loops; ends = h.ends }

pub label_instrs : (d : Draft) → (with_label d).instrs ≡ d.instrs
unfolding with_label
label_instrs d = refl

-- Steps

infixr 20 ◌⨾◌
module _ {S : Scope} {F : List (List ℕ)} {W : List X.LoopExits} {E : List ℕ} where
  -- one that adds nothing
  pub gives_nothing : Gives S F W E (λ d. d) 0 (λ p. []) no_facts
  gives_nothing = record {
    long = λ d. sym (add-zero (len S d));
    at = λ d h. record { before = h; is = sym (append-nil (resolve S d.instrs)); known = tt };
  }

  -- an instruction
  pub gives_instruction : (i : UnitInstr) → length (resolved_one S i) ≡ 1 → Gives S F W E (put i) 1 (λ p. resolved_one S i) no_facts
  gives_instruction i e = record {
    long = λ d. let l = put_len S i d in omega arith;
    at = λ d h. record { before = put_before i d h; is = put_code S i d; known = tt };
  }

  -- one step behind another
  pub ◌⨾◌ : {s t : Draft → Draft} {n m : ℕ} {a b : ℕ → List Instr} {f g : ℕ → Type 0} → Gives S F W E s n a f → Gives S F W E t m b g
      → Gives S F W E (λ d. t (s d)) (n + m) (λ p. a p ++ b (p + n)) (λ p. f p × g (p + n))
  ◌⨾◌ {s = s} {n = n} {m = m} {a = a} {b = b} {g = g} x y = record {
    long = λ d. let e = x.long d in let k = y.long (s d) in omega arith;
    at = λ d h.
        let second = y.at (s d) h in
        let first = x.at d second.before in
        record {
          before = first.before;
          is = second.is ∙ ap (λ is. is ++ b (len S (s d))) first.is ∙ append_assoc (resolve S d.instrs) (a (len S d)) (b (len S (s d)))
              ∙ ap (λ p. resolve S d.instrs ++ (a (len S d) ++ b p)) (x.long d);
          known = (first.known, subst g (x.long d) second.known);
        };
  }

  -- a step in front of which a label gets a number
  pub numbered_then : {t : Draft → Draft} {m : ℕ} {b : ℕ → List Instr} {g : ℕ → Type 0} → Gives S F W E t m b g
      → Gives S F W E (λ d. t (with_label d)) m b g
  numbered_then {t = t} {m = m} {b = b} {g = g} y = record {
    long = λ d. y.long (with_label d) ∙ ap (λ (is : List UnitInstr). length (resolve S is) + m) (label_instrs d);
    at = λ d h.
        let later = y.at (with_label d) h in
        let same : len S (with_label d) ≡ len S d = ap (λ (is : List UnitInstr). length (resolve S is)) (label_instrs d) in
        record {
          before = label_before d later.before;
          is = later.is ∙ ap (λ (is : List UnitInstr). resolve S is ++ b (len S (with_label d))) (label_instrs d)
              ∙ ap (λ p. resolve S d.instrs ++ b p) same;
          known = subst g same later.known;
        };
  }

  -- a step behind the place of a label
  pub placed_then : {t : Draft → Draft} {m : ℕ} {b : ℕ → List Instr} {g : ℕ → Type 0} (label : ℕ) → Gives S F W E t m b g
      → Gives S F W E (λ d. t (put (U.Lab label) d)) m b (λ p. (S.label label ≡ p) × g p)
  placed_then {t = t} {m = m} {b = b} {g = g} label y = record {
    long = λ d. let e = y.long (put (U.Lab label) d) in let l = put_len S (U.Lab label) d in omega arith;
    at = λ d h.
        let later = y.at (put (U.Lab label) d) h in
        let same : len S (put (U.Lab label) d) ≡ len S d = put_len S (U.Lab label) d ∙ add-zero (len S d) in
        let code : resolve S (put (U.Lab label) d).instrs ≡ resolve S d.instrs = put_code S (U.Lab label) d ∙ append-nil (resolve S d.instrs) in
        record {
          before = put_before (U.Lab label) d later.before;
          is = later.is ∙ ap (λ is. is ++ b (len S (put (U.Lab label) d))) code ∙ ap (λ p. resolve S d.instrs ++ b p) same;
          known = (put_label label d later.before, subst g same later.known);
        };
  }

  -- a step before the place of a label
  pub then_placed : {s : Draft → Draft} {n : ℕ} {a : ℕ → List Instr} {f : ℕ → Type 0} (label : ℕ) → Gives S F W E s n a f
      → Gives S F W E (λ d. put (U.Lab label) (s d)) n a (λ p. f p × (S.label label ≡ p + n))
  then_placed {s = s} {n = n} {a = a} {f = f} label x = record {
    long = λ d. let e = x.long d in let l = put_len S (U.Lab label) (s d) in omega arith;
    at = λ d h.
        let first = x.at d (put_before (U.Lab label) (s d) h) in
        record {
          before = first.before;
          is = put_code S (U.Lab label) (s d) ∙ append-nil (resolve S (s d).instrs) ∙ first.is;
          known = (first.known, put_label label (s d) h ∙ x.long d);
        };
  }

  -- the same code in other words, with what is left to know of its labels
  pub given_as : {s : Draft → Draft} {n m : ℕ} {a b : ℕ → List Instr} {f g : ℕ → Type 0} → Gives S F W E s n a f → n ≡ m
      → ((p : ℕ) → f p → (a p ≡ b p) × g p) → Gives S F W E s m b g
  given_as x e same = record {
    long = λ d. let l = x.long d in omega arith;
    at = λ d h.
        let all = x.at d h in
        let known = same (len S d) all.known in
        record { before = all.before; is = all.is ∙ ap (λ c. resolve S d.instrs ++ c) known.0; known = known.1 };
  }

  -- the same of a step that uses the next number of a label
  pub given_numbered : {chain : ℕ → Draft → Draft} {n m : ℕ} {a : ℕ → ℕ → List Instr} {b : ℕ → List Instr} {f : ℕ → ℕ → Type 0} {g : ℕ → Type 0}
      → ((label : ℕ) → Gives S F W E (chain label) n (a label) (f label)) → n ≡ m
      → ((label p : ℕ) → f label p → (a label p ≡ b p) × g p) → Gives S F W E (λ d. chain (next_label d) d) m b g
  given_numbered x e same = record {
    long = λ d. let l = (x (next_label d)).long d in omega arith;
    at = λ d h.
        let all = (x (next_label d)).at d h in
        let known = same (next_label d) (len S d) all.known in
        record { before = all.before; is = all.is ∙ ap (λ c. resolve S d.instrs ++ c) known.0; known = known.1 };
  }
