-- Instructions: what is read is spelled so, and what is spelled so is read again.
use Rattle.std.proofs.Common.{◌≡◌, ℕ, ◌^◌, ◌<◌, ◌≤◌, Bool, true, false, cond, eqb, List, [], ◌∷◌, ◌++◌, Option, Some as Found, None as Missing, Ok, refl, sym, ap, subst, ◌∙◌, ◌⊎◌, inl, inr, arith}
use Rattle.std.specs.Prelude.{find, option_map, nat_le, nat_lt}
use Rattle.std.specs.List.{list_all, AllByRecursion}
use Rattle.std.specs.Int.{Width, w32}
use Rattle.std.proofs.lemmas.Bool.{ltb-true, lt-ltb, leb-true, and_parts, cond-true, eqb-true}
use Rattle.icn_tree.specs.declared.rule.Rule.TheVariants.{I4}
use Rattle.icn_text.specs.declared.keyword.Keyword.{Keyword}
use Rattle.icn_text.specs.declared.keyword.TheConstants.Keyword.{ALL as keywords}
use Rattle.icn_text.specs.Keywords.{keyword_number}
use Rattle.icn_text.specs.declared.op.Op.{Op as Operation}
use Rattle.icn_text.specs.declared.op.TheConstants.Op.{ALL as ops}
use Rattle.icn_text.specs.Ops.{op_number}
use Rattle.icn_defs.specs.Numbers.{op_of, keyword_of}
use Rattle.icn_defs.proofs.FoundFacts.{found_number}
use Rattle.icn_defs.proofs.KeywordNumbers.{keyword_back}
use Rattle.icn_defs.proofs.OpNumbers.{op_back}
use Rattle.icn_code.specs.declared.instr.Instr.{Instr}
use Rattle.icn_code.specs.declared.instr.Instr.TheVariants.{Pnull, Int, Str, Cset, Local, Static, Global, Keywd, Pop, Dup, Op as Apply, Llist, Field, Invoke, Appl, Mark, Mark0, Unmark, Eret, Esusp, Limit, Lsusp, Efail, Chfail, Goto, Loop, Bscan, Escan, Ccase, Init, Psusp, Pret, Pfail, Create, Coact, Coret, Cofail}
use Rattle.icn_image.specs.declared.operand.Operand.{Operand}
use Rattle.icn_image.specs.declared.operand.Operand.TheVariants.{Nothing, Number, Label}
use Rattle.icn_image.specs.declared.scope.TableSizes.{TableSizes}
use Rattle.icn_image.specs.Readers.{◌>>=◌}
use Rattle.icn_image.specs.Operands.{instr_number, operand_value, operand_of, instrs, instr_of}
use Rattle.icn_image.specs.Scopes.{names_there}
use Rattle.icn_image.specs.Reading.{operand_at, there, instr_at}
use Rattle.icn_image.specs.Spelling.{operand, instruction}
use Rattle.icn_image.proofs.SpelledFields.{IsBytes, IsBytes-rest, bind_parts, done_injective, passed_parts, Takes, takes_byte, Reads, IsWide, wide32, number_reads}

-- ---- what a search finds

found_here : {A : Type 0} (p q : A → Bool) (x : A) (xs : List A) (y : A) (t : Bool) → q x ≡ true → (find p xs ≡ Found y → q y ≡ true)
    → cond t (Found x) (find p xs) ≡ Found y → q y ≡ true
found_here p q x xs y true keeps more h = let same : x ≡ y = cc in ap q (sym same) ∙ keeps
found_here p q x xs y false keeps more h = more h

pub found_keeps : {A : Type 0} (p q : A → Bool) (xs : List A) (y : A) → list_all q xs ≡ true → find p xs ≡ Found y → q y ≡ true
found_keeps p q [] y all h = absurd cc
found_keeps p q (x ∷ xs) y all h =
    let parts = and_parts (q x) (list_all q xs) all in
    found_here p q x xs y (p x) parts.0 (found_keeps p q xs y parts.1) h

all_here : {A : Type 0} (p : A → Bool) (Q : A → Type 0) (x : A) (xs : List A) (y : A) (t : Bool) → Q x → (find p xs ≡ Found y → Q y)
    → cond t (Found x) (find p xs) ≡ Found y → Q y
all_here p Q x xs y true keeps more h = let same : x ≡ y = cc in subst Q same keeps
all_here p Q x xs y false keeps more h = more h

found_all : {A : Type 0} (p : A → Bool) (Q : A → Type 0) (xs : List A) (y : A) → AllByRecursion Q xs → find p xs ≡ Found y → Q y
found_all p Q [] y all h = absurd cc
found_all p Q (x ∷ xs) y all h = all_here p Q x xs y (p x) all.0 (found_all p Q xs y all.1) h

mapped : {A B : Type 0} (f : A → B) (o : Option A) (y : B) → option_map f o ≡ Found y → (x : A) × (o ≡ Found x) × (f x ≡ y)
mapped f Missing y e = absurd cc
mapped f (Found x) y e = (x, refl, cc)

-- ---- numbers and operands

keyword_small : (keyword : Keyword) → keyword_number keyword < 65536
keyword_small keyword = ltb-true _ _ (found_keeps (λ x. eqb (keyword_number x) (keyword_number keyword))
    (λ x. nat_lt (keyword_number x) 65536) keywords keyword refl (keyword_back keyword))

op_small : (op : Operation) → op_number op < 65536
op_small op = ltb-true _ _ (found_keeps (λ x. eqb (op_number x) (op_number op)) (λ x. nat_lt (op_number x) 65536) ops op refl (op_back op))

-- the number and the operand of an instruction lead back to it
instr_back : (instr : Instr) → instr_of (instr_number instr) (operand_value instr) ≡ Found instr
unfolding instr_of
instr_back Pnull = refl
instr_back (Int n) = refl
instr_back (Str n) = refl
instr_back (Cset n) = refl
instr_back (Local n) = refl
instr_back (Static n) = refl
instr_back (Global n) = refl
instr_back (Keywd k) = ap (option_map Keywd) (keyword_back k)
instr_back Pop = refl
instr_back Dup = refl
instr_back (Apply o) = ap (option_map Apply) (op_back o)
instr_back (Llist n) = refl
instr_back (Field n) = refl
instr_back (Invoke n) = refl
instr_back Appl = refl
instr_back (Mark n) = refl
instr_back Mark0 = refl
instr_back Unmark = refl
instr_back Eret = refl
instr_back Esusp = refl
instr_back Limit = refl
instr_back Lsusp = refl
instr_back Efail = refl
instr_back (Chfail n) = refl
instr_back (Goto n) = refl
instr_back (Loop n) = refl
instr_back Bscan = refl
instr_back Escan = refl
instr_back Ccase = refl
instr_back (Init n) = refl
instr_back Psusp = refl
instr_back Pret = refl
instr_back Pfail = refl
instr_back (Create n) = refl
instr_back Coact = refl
instr_back Coret = refl
instr_back Cofail = refl

-- an operand that is read is that of the instruction, or it has none
abbrev Same : ℕ → Instr → Type 0
Same k instr = (operand_of (instr_number instr) ≡ Found Nothing) ⊎ (operand_value instr ≡ k)

all_same : (k : ℕ) → AllByRecursion (Same k) (instrs k)
all_same k = (inl refl, (inr refl, (inr refl, (inr refl, (inr refl, (inr refl, (inr refl, (inl refl, (inl refl, (inr refl, (inr refl, (inr refl, (inl refl, (inr refl, (inl refl, (inl refl, (inl refl, (inl refl, (inl refl, (inl refl, (inl refl, (inr refl, (inr refl, (inr refl, (inl refl, (inl refl, (inl refl, (inr refl, (inl refl, (inl refl, (inl refl, (inr refl, (inl refl, (inl refl, (inl refl, tt)))))))))))))))))))))))))))))))))))

found : (n k : ℕ) (instr : Instr) (t u : Bool) → eqb n 8 ≡ t → eqb n 11 ≡ u
    → cond t (option_map Keywd (keyword_of k)) (cond u (option_map Apply (op_of k)) (find (λ i. eqb (instr_number i) n) (instrs k))) ≡ Found instr
    → (instr_number instr ≡ n) × Same k instr
found n k instr true u at_8 at_11 e =
    let m = mapped Keywd (keyword_of k) instr e in
    let number : 8 ≡ n = sym (eqb-true n 8 at_8) in
    subst (λ (i : Instr). (instr_number i ≡ n) × Same k i) m.2 (number, inr (found_number keyword_number keywords k m.0 m.1))
found n k instr false true at_8 at_11 e =
    let m = mapped Apply (op_of k) instr e in
    let number : 11 ≡ n = sym (eqb-true n 11 at_11) in
    subst (λ (i : Instr). (instr_number i ≡ n) × Same k i) m.2 (number, inr (found_number op_number ops k m.0 m.1))
found n k instr false false at_8 at_11 e =
    (found_number instr_number (instrs k) n instr e, found_all (λ i. eqb (instr_number i) n) (Same k) (instrs k) instr (all_same k) e)

instr_found : (n k : ℕ) (instr : Instr) → instr_of n k ≡ Found instr → (instr_number instr ≡ n) × Same k instr
unfolding instr_of
instr_found n k instr e = found n k instr (eqb n 8) (eqb n 11) refl refl e

-- ---- operands

-- the tables of a code are within their bounds
pub record IsBounded (limit : ℕ) (scope : TableSizes) : Type 0 where
  pub room : 65536 ≤ limit
  pub integers : scope.integers ≤ limit
  pub strings : scope.strings ≤ limit
  pub csets : scope.csets ≤ limit
  pub globals : scope.globals ≤ limit
  pub fields : scope.fields ≤ limit
  pub variables : scope.variables ≤ limit
  pub statics : scope.statics ≤ limit
  pub labels : scope.labels < 2 ^ 32

abbrev HasRoom : ℕ → Option Operand → ℕ → Type 0
HasRoom limit Missing n = ⊥
HasRoom limit (Found Nothing) n = n ≡ 0
HasRoom limit (Found Number) n = nat_lt n limit ≡ true
HasRoom limit (Found Label) n = nat_lt n (2 ^ 32) ≡ true

-- what an instruction names is there, and what it counts is below the limit
abbrev pub names_below : ℕ → TableSizes → Instr → Bool
names_below limit scope Pnull = true
names_below limit scope (Int n) = nat_lt n scope.integers
names_below limit scope (Str n) = nat_lt n scope.strings
names_below limit scope (Cset n) = nat_lt n scope.csets
names_below limit scope (Local n) = nat_lt n scope.variables
names_below limit scope (Static n) = nat_lt n scope.statics
names_below limit scope (Global n) = nat_lt n scope.globals
names_below limit scope (Keywd n) = true
names_below limit scope Pop = true
names_below limit scope Dup = true
names_below limit scope (Apply n) = true
names_below limit scope (Llist n) = nat_lt n limit
names_below limit scope (Field n) = nat_lt n scope.fields
names_below limit scope (Invoke n) = nat_lt n limit
names_below limit scope Appl = true
names_below limit scope (Mark n) = nat_le n scope.labels
names_below limit scope Mark0 = true
names_below limit scope Unmark = true
names_below limit scope Eret = true
names_below limit scope Esusp = true
names_below limit scope Limit = true
names_below limit scope Lsusp = true
names_below limit scope Efail = true
names_below limit scope (Chfail n) = nat_le n scope.labels
names_below limit scope (Goto n) = nat_le n scope.labels
names_below limit scope (Loop n) = nat_le n scope.labels
names_below limit scope Bscan = true
names_below limit scope Escan = true
names_below limit scope Ccase = true
names_below limit scope (Init n) = nat_le n scope.labels
names_below limit scope Psusp = true
names_below limit scope Pret = true
names_below limit scope Pfail = true
names_below limit scope (Create n) = nat_le n scope.labels
names_below limit scope Coact = true
names_below limit scope Coret = true
names_below limit scope Cofail = true

has_room : (limit : ℕ) (scope : TableSizes) → IsBounded limit scope → (instr : Instr) → names_below limit scope instr ≡ true
    → HasRoom limit (operand_of (instr_number instr)) (operand_value instr)
has_room limit scope bounded Pnull e = refl
has_room limit scope bounded (Int n) e = lt-ltb _ _ (omega (arith, ltb-true n scope.integers e, bounded.integers))
has_room limit scope bounded (Str n) e = lt-ltb _ _ (omega (arith, ltb-true n scope.strings e, bounded.strings))
has_room limit scope bounded (Cset n) e = lt-ltb _ _ (omega (arith, ltb-true n scope.csets e, bounded.csets))
has_room limit scope bounded (Local n) e = lt-ltb _ _ (omega (arith, ltb-true n scope.variables e, bounded.variables))
has_room limit scope bounded (Static n) e = lt-ltb _ _ (omega (arith, ltb-true n scope.statics e, bounded.statics))
has_room limit scope bounded (Global n) e = lt-ltb _ _ (omega (arith, ltb-true n scope.globals e, bounded.globals))
has_room limit scope bounded (Keywd k) e = lt-ltb _ _ (omega (arith, keyword_small k, bounded.room))
has_room limit scope bounded Pop e = refl
has_room limit scope bounded Dup e = refl
has_room limit scope bounded (Apply o) e = lt-ltb _ _ (omega (arith, op_small o, bounded.room))
has_room limit scope bounded (Llist n) e = e
has_room limit scope bounded (Field n) e = lt-ltb _ _ (omega (arith, ltb-true n scope.fields e, bounded.fields))
has_room limit scope bounded (Invoke n) e = e
has_room limit scope bounded Appl e = refl
has_room limit scope bounded (Mark n) e = lt-ltb _ _ (omega (arith, leb-true n scope.labels e, bounded.labels))
has_room limit scope bounded Mark0 e = refl
has_room limit scope bounded Unmark e = refl
has_room limit scope bounded Eret e = refl
has_room limit scope bounded Esusp e = refl
has_room limit scope bounded Limit e = refl
has_room limit scope bounded Lsusp e = refl
has_room limit scope bounded Efail e = refl
has_room limit scope bounded (Chfail n) e = lt-ltb _ _ (omega (arith, leb-true n scope.labels e, bounded.labels))
has_room limit scope bounded (Goto n) e = lt-ltb _ _ (omega (arith, leb-true n scope.labels e, bounded.labels))
has_room limit scope bounded (Loop n) e = lt-ltb _ _ (omega (arith, leb-true n scope.labels e, bounded.labels))
has_room limit scope bounded Bscan e = refl
has_room limit scope bounded Escan e = refl
has_room limit scope bounded Ccase e = refl
has_room limit scope bounded (Init n) e = lt-ltb _ _ (omega (arith, leb-true n scope.labels e, bounded.labels))
has_room limit scope bounded Psusp e = refl
has_room limit scope bounded Pret e = refl
has_room limit scope bounded Pfail e = refl
has_room limit scope bounded (Create n) e = lt-ltb _ _ (omega (arith, leb-true n scope.labels e, bounded.labels))
has_room limit scope bounded Coact e = refl
has_room limit scope bounded Coret e = refl
has_room limit scope bounded Cofail e = refl

operand_takes : (w : Width) (limit : ℕ) → IsWide w limit → (form : Option Operand) (bytes : List ℕ) (x : ℕ × List ℕ) → IsBytes bytes → operand_at w form bytes ≡ Ok x
    → Takes bytes (operand w form x.0) x.1 × HasRoom limit form x.0
operand_takes w limit wide Missing bytes x fits e = absurd cc
operand_takes w limit wide (Found Nothing) bytes x fits e =
    subst (λ (y : ℕ × List ℕ). Takes bytes [] y.1 × (y.0 ≡ 0)) (done_injective (0, bytes) x e) (record { parts = refl; rest_fits = fits }, refl)
operand_takes w limit wide (Found Number) bytes x fits e = (number_reads w limit wide).takes bytes x fits e
operand_takes w limit wide (Found Label) bytes x fits e = (number_reads w32 (2 ^ 32) wide32).takes bytes x fits e

operand_again : (w : Width) (limit : ℕ) → IsWide w limit → (form : Option Operand) (n : ℕ) (rest : List ℕ) → HasRoom limit form n
    → operand_at w form (operand w form n ++ rest) ≡ Ok (n, rest)
operand_again w limit wide Missing n rest room = absurd room
operand_again w limit wide (Found Nothing) n rest room = ap (λ (m : ℕ). Ok (m, rest)) (sym room)
operand_again w limit wide (Found Number) n rest room = (number_reads w limit wide).again n rest room
operand_again w limit wide (Found Label) n rest room = (number_reads w32 (2 ^ 32) wide32).again n rest room

-- an operand of an instruction without one is not spelled
same_operand : (w : Width) (n k : ℕ) (instr : Instr) → instr_number instr ≡ n → Same k instr → n ∷ operand w (operand_of n) k ≡ instruction w instr
same_operand w n k instr number (inl nothing) =
    let none : operand_of n ≡ Found Nothing = ap operand_of (sym number) ∙ nothing in
    let left : operand w (operand_of n) k ≡ [] = ap (λ form. operand w form k) none in
    let right : operand w (operand_of (instr_number instr)) (operand_value instr) ≡ [] = ap (λ form. operand w form (operand_value instr)) nothing in
    ap (λ (t : List ℕ). n ∷ t) left ∙ (ap (λ (m : ℕ). m ∷ []) (sym number) ∙ ap (λ (t : List ℕ). instr_number instr ∷ t) (sym right))
same_operand w n k instr number (inr same) =
    ap (λ (m : ℕ). m ∷ operand w (operand_of m) k) (sym number) ∙ ap (λ (m : ℕ). instr_number instr ∷ operand w (operand_of (instr_number instr)) m) (sym same)

-- what is counted is below the limit, where the operand has room
counts_below : (limit : ℕ) (scope : TableSizes) (instr : Instr) → names_there scope instr ≡ true
    → (operand_of (instr_number instr) ≡ Found Nothing) ⊎ HasRoom limit (operand_of (instr_number instr)) (operand_value instr)
    → names_below limit scope instr ≡ true
counts_below limit scope Pnull e room = e
counts_below limit scope (Int n) e room = e
counts_below limit scope (Str n) e room = e
counts_below limit scope (Cset n) e room = e
counts_below limit scope (Local n) e room = e
counts_below limit scope (Static n) e room = e
counts_below limit scope (Global n) e room = e
counts_below limit scope (Keywd n) e room = e
counts_below limit scope Pop e room = e
counts_below limit scope Dup e room = e
counts_below limit scope (Apply n) e room = e
counts_below limit scope (Llist n) e (inl nothing) = absurd cc
counts_below limit scope (Llist n) e (inr room) = room
counts_below limit scope (Field n) e room = e
counts_below limit scope (Invoke n) e (inl nothing) = absurd cc
counts_below limit scope (Invoke n) e (inr room) = room
counts_below limit scope Appl e room = e
counts_below limit scope (Mark n) e room = e
counts_below limit scope Mark0 e room = e
counts_below limit scope Unmark e room = e
counts_below limit scope Eret e room = e
counts_below limit scope Esusp e room = e
counts_below limit scope Limit e room = e
counts_below limit scope Lsusp e room = e
counts_below limit scope Efail e room = e
counts_below limit scope (Chfail n) e room = e
counts_below limit scope (Goto n) e room = e
counts_below limit scope (Loop n) e room = e
counts_below limit scope Bscan e room = e
counts_below limit scope Escan e room = e
counts_below limit scope Ccase e room = e
counts_below limit scope (Init n) e room = e
counts_below limit scope Psusp e room = e
counts_below limit scope Pret e room = e
counts_below limit scope Pfail e room = e
counts_below limit scope (Create n) e room = e
counts_below limit scope Coact e room = e
counts_below limit scope Coret e room = e
counts_below limit scope Cofail e room = e

-- what names what is there below the limit names what is there
names_are : (limit : ℕ) (scope : TableSizes) (instr : Instr) → names_below limit scope instr ≡ true → names_there scope instr ≡ true
names_are limit scope Pnull e = e
names_are limit scope (Int n) e = e
names_are limit scope (Str n) e = e
names_are limit scope (Cset n) e = e
names_are limit scope (Local n) e = e
names_are limit scope (Static n) e = e
names_are limit scope (Global n) e = e
names_are limit scope (Keywd n) e = e
names_are limit scope Pop e = e
names_are limit scope Dup e = e
names_are limit scope (Apply n) e = e
names_are limit scope (Llist n) e = refl
names_are limit scope (Field n) e = e
names_are limit scope (Invoke n) e = refl
names_are limit scope Appl e = e
names_are limit scope (Mark n) e = e
names_are limit scope Mark0 e = e
names_are limit scope Unmark e = e
names_are limit scope Eret e = e
names_are limit scope Esusp e = e
names_are limit scope Limit e = e
names_are limit scope Lsusp e = e
names_are limit scope Efail e = e
names_are limit scope (Chfail n) e = e
names_are limit scope (Goto n) e = e
names_are limit scope (Loop n) e = e
names_are limit scope Bscan e = e
names_are limit scope Escan e = e
names_are limit scope Ccase e = e
names_are limit scope (Init n) e = e
names_are limit scope Psusp e = e
names_are limit scope Pret e = e
names_are limit scope Pfail e = e
names_are limit scope (Create n) e = e
names_are limit scope Coact e = e
names_are limit scope Coret e = e
names_are limit scope Cofail e = e

-- the operand that was read has room as that of the instruction, or this has none
room_of : (limit n k : ℕ) (instr : Instr) → instr_number instr ≡ n → Same k instr → HasRoom limit (operand_of n) k
    → (operand_of (instr_number instr) ≡ Found Nothing) ⊎ HasRoom limit (operand_of (instr_number instr)) (operand_value instr)
room_of limit n k instr number (inl nothing) room = inl nothing
room_of limit n k instr number (inr same) room =
    inr (subst (λ (m : ℕ). HasRoom limit (operand_of (instr_number instr)) m) (sym same)
    (subst (λ (m : ℕ). HasRoom limit (operand_of m) k) (sym number) room))

-- ---- instructions

there_ok : (scope : TableSizes) (o : Option Instr) (instr : Instr) → there scope o ≡ Ok instr → (o ≡ Found instr) × (names_there scope instr ≡ true)
there_ok scope Missing instr e = absurd cc
there_ok scope (Found i) instr e =
    let g = passed_parts (names_there scope i) I4 i instr e in
    (ap (λ (j : Instr). Found j) g.1, subst (λ (j : Instr). names_there scope j ≡ true) g.1 g.0)

instr_takes : (w : Width) (limit : ℕ) → IsWide w limit → (scope : TableSizes) (bytes : List ℕ) (x : Instr × List ℕ) → IsBytes bytes → instr_at w scope bytes ≡ Ok x
    → Takes bytes (instruction w x.0) x.1 × (names_below limit scope x.0 ≡ true)
unfolding instr_at
instr_takes w limit wide scope [] x fits e = absurd cc
instr_takes w limit wide scope (n ∷ bytes) x fits e =
    let a = bind_parts (operand_at w (operand_of n) bytes) (λ k. there scope (instr_of n k.0) >>= λ instr. Ok (instr, k.1)) x e in
    let b = bind_parts (there scope (instr_of n a.0.0)) (λ instr. Ok (instr, a.0.1)) x a.2 in
    let t = operand_takes w limit wide (operand_of n) bytes a.0 (IsBytes-rest n bytes fits) a.1 in
    let names = there_ok scope (instr_of n a.0.0) b.0 b.1 in
    let number = instr_found n a.0.0 b.0 names.0 in
    let took : Takes (n ∷ bytes) (instruction w b.0) a.0.1 = subst (λ (text : List ℕ). Takes (n ∷ bytes) text a.0.1)
    (same_operand w n a.0.0 b.0 number.0 number.1) (takes_byte n bytes (operand w (operand_of n) a.0.0) a.0.1 fits t.0) in
    let below = counts_below limit scope b.0 names.1 (room_of limit n a.0.0 b.0 number.0 number.1 t.1) in
    subst (λ (y : Instr × List ℕ). Takes (n ∷ bytes) (instruction w y.0) y.1 × (names_below limit scope y.0 ≡ true)) (done_injective (b.0, a.0.1) x b.2)
    (took, below)

instr_again : (w : Width) (limit : ℕ) → IsWide w limit → (scope : TableSizes) → IsBounded limit scope → (instr : Instr) (rest : List ℕ) → names_below limit scope instr ≡ true
    → instr_at w scope (instruction w instr ++ rest) ≡ Ok (instr, rest)
unfolding instr_at
instr_again w limit wide scope bounded instr rest names =
    let read : operand_at w (operand_of (instr_number instr)) (operand w (operand_of (instr_number instr)) (operand_value instr) ++ rest)
    ≡ Ok (operand_value instr, rest) =
    operand_again w limit wide (operand_of (instr_number instr)) (operand_value instr) rest (has_room limit scope bounded instr names) in
    let made : there scope (instr_of (instr_number instr) (operand_value instr)) ≡ Ok instr = ap (there scope) (instr_back instr)
    ∙ cond-true (names_there scope instr) _ _ (names_are limit scope instr names) in
    ap (λ r. r >>= λ k. there scope (instr_of (instr_number instr) k.0) >>= λ i. Ok (i, k.1)) read ∙ ap (λ r. r >>= λ i. Ok (i, rest)) made

pub instr_reads : (w : Width) (limit : ℕ) → IsWide w limit → (scope : TableSizes) → IsBounded limit scope → Reads Instr (instr_at w scope) (instruction w) (names_below limit scope)
instr_reads w limit wide scope bounded = record { takes = instr_takes w limit wide scope; again = instr_again w limit wide scope bounded }
