-- The noted code without its notes is the code, and as long as its size.
use Rattle.std.proofs.Common.{◌≡◌, ℕ, zero, suc, ◌+◌, List, [], ◌∷◌, ◌++◌, length, Option, Some, None, refl, sym, ap, ◌∙◌, append_assoc, Bool, true, false, if◌then◌else◌}
use Rattle.std.specs.Prelude.{replicate}
use Rattle.icn_text.specs.declared.keyword.Keyword.{Keyword as KeywordNamed}
use Rattle.icn_text.specs.declared.keyword.TheConstants.Keyword.{ALL as keywords}
use Rattle.icn_text.specs.declared.op.Op.TheVariants as Ops
use Rattle.icn_tree.specs.declared.tree.Infix.TheVariants.{Plain, Augmented}
use Rattle.icn_tree.specs.declared.tree.LoopKind.TheVariants.{While, Until, Every}
use Rattle.icn_tree.specs.Trees.{Initial, NoInitial, Initially, Tree, MaybeTree, Trees, Clause, Clauses, Empty, Constant, Identifier, Keyword, Parentheses, Listing, Compound, Call, CoCall, Subscript, Section, Field, Prefix, Not, Binary, To, If, Case, Loop, Repeat, Create, Next, Fail, Break, Return, Suspend, Absent, Present, NoTrees, More, Default, Guarded, NoClauses, MoreClauses}
use Rattle.icn_code.specs.declared.instr.Instr.{Instr}
use Rattle.icn_code.specs.declared.instr.Instr.TheVariants as I
use Rattle.icn_meaning.specs.Evaluate.{keyword_among}
use Rattle.law_simulation.specs.Translation.{bodies_size, SymbolTable, Depth, LoopExits, loop_of, control_of, deeper, dropped_by_next, around, is_empty, is_nothing, is_no_element, BinaryForm, Both, Scanning, Either, Limiting, Applying, form_of, UpdateForm, UpdatesBoth, UpdatesScanning, UpdatesBy, update_of, PrefixForm, Activating, Repeating, Operating, prefix_of, size, elements_size, by_size, body_size, clauses_size, clause_size, default_size, ways, bounded_size}
use Rattle.law_simulation.specs.Translation as C
use Rattle.law_verified.specs.Noted.{bodies_code, NotedShape, Note, start, more, in_mark, within, Limited, with_scan, drops, without_mark, unmarks, create_notes, code, operands, elements_code, conjunction, compound, creates, subscripts, by_code, body_code, clauses_code, clause_code, default_code, keyword_notes, prefix_code, plain_code, augmented_code, next_notes, break_notes, instrs, bounded_notes, body, procedure}
use Rattle.law_simulation.proofs.TreeSizes as Z

cat : (xs ys : List Note) → instrs (xs ++ ys) ≡ instrs xs ++ instrs ys
cat [] ys = refl
cat (x ∷ xs) ys = ap (λ r. x.instr ∷ r) (cat xs ys)

join : (xs ys : List Note) {A B : List Instr} → instrs xs ≡ A → instrs ys ≡ B → instrs (xs ++ ys) ≡ A ++ B
join xs ys {A = A} {B = B} e f = cat xs ys ∙ ap (λ r. r ++ instrs ys) e ∙ ap (λ r. A ++ r) f

next : (i : Instr) {xs ys : List Instr} → xs ≡ ys → i ∷ xs ≡ i ∷ ys
next i e = ap (λ r. i ∷ r) e

choose : (b : Bool) (xs ys : List Note) (A B : List Instr) → instrs xs ≡ A → instrs ys ≡ B → instrs (if b then xs else ys) ≡ (if b then A else B)
choose true xs ys A B e f = e
choose false xs ys A B e f = f

unmarked : (n : ℕ) (s : NotedShape) → instrs (unmarks n s) ≡ replicate n I.Unmark
unmarked zero s = refl
unmarked (suc n) s = next I.Unmark (unmarked n (without_mark s))

abbrev Noted : SymbolTable → Tree → Type 0
Noted N e = (D : List Depth) (W : List LoopExits) (p : ℕ) (s : NotedShape) → instrs (code N D W p s e) ≡ C.code N D W p e

keyword_noted : (s : NotedShape) (found : Option KeywordNamed) → instrs (keyword_notes s found) ≡ C.keyword_code found
keyword_noted s (Some word) = refl
keyword_noted s None = refl

prefix_noted : (N : SymbolTable) (D : List Depth) (W : List LoopExits) (p : ℕ) (s : NotedShape) (e : Tree) (f : Option PrefixForm) → Noted N e
    → instrs (prefix_code D p s (λ D' p' s'. code N D' W p' s' e) f)
    ≡ C.prefix_code f (λ p. C.code N D W p e) (λ p. C.code N (deeper D) W p e) p
prefix_noted N D W p s e (Some Activating) g = next I.Pnull (join _ _ (g D W (p + 1) (more s)) refl)
prefix_noted N D W p s e (Some Repeating) g = next I.Mark0 (join _ _ (g (deeper D) W (p + 1) (in_mark s)) refl)
prefix_noted N D W p s e (Some (Operating op)) g = join _ _ (g D W p s) refl
prefix_noted N D W p s e None g = refl

plain_noted : (N : SymbolTable) (D : List Depth) (W : List LoopExits) (p : ℕ) (s : NotedShape) (a b : Tree) (f : Option BinaryForm) → Noted N a → Noted N b
    → instrs (plain_code D p s (size D a) (size D b) (size (deeper D) a) (λ D' p' s'. code N D' W p' s' a) (λ D' p' s'. code N D' W p' s' b) f)
    ≡ C.plain_code f (size D a) (size (deeper D) a) (size D b) (λ p. C.code N D W p a) (λ p. C.code N (deeper D) W p a) (λ p. C.code N D W p b) p
plain_noted N D W p s a b (Some Both) g h = join _ _ (g D W p s) (next I.Pop (h D W (p + size D a + 1) s))
plain_noted N D W p s a b (Some Scanning) g h = join _ _ (g D W p s) (next I.Bscan (join _ _ (h D W (p + size D a + 1) (with_scan s)) refl))
    ∙ sym (append_assoc (C.code N D W p a) (I.Bscan ∷ C.code N D W (p + size D a + 1) b) (I.Escan ∷ []))
plain_noted N D W p s a b (Some Either) g h = next _ (join _ _ (g (deeper D) W (p + 1) (in_mark s)) (next I.Esusp (next _ (h D W (p + size (deeper D) a + 3) s))))
plain_noted N D W p s a b (Some Limiting) g h = join _ _ (h D W p s) (next I.Limit (join _ _ (g (deeper D) W (p + size D b + 1) (within Limited s)) refl))
    ∙ sym (append_assoc (C.code N D W p b) (I.Limit ∷ C.code N (deeper D) W (p + size D b + 1) a) (I.Lsusp ∷ []))
plain_noted N D W p s a b (Some (Applying i)) g h = join _ _ (g D W p s) (join _ _ (h D W (p + size D a) (more s)) refl)
plain_noted N D W p s a b None g h = refl

augmented_noted : (N : SymbolTable) (D : List Depth) (W : List LoopExits) (p : ℕ) (s : NotedShape) (a b : Tree) (f : Option UpdateForm) → Noted N a → Noted N b
    → instrs (augmented_code D p s (size D a) (λ D' p' s'. code N D' W p' s' a) (λ D' p' s'. code N D' W p' s' b) f)
    ≡ C.augmented_code f (size D a) (λ p. C.code N D W p a) (λ p. C.code N D W p b) p
augmented_noted N D W p s a b (Some UpdatesBoth) g h = join _ _ (g D W p s) (join _ _ (h D W (p + size D a) (more s)) refl)
augmented_noted N D W p s a b (Some UpdatesScanning) g h = join _ _ (g D W p s) (next I.Dup (next I.Bscan (join _ _ (h D W (p + size D a + 2) (with_scan (more s))) refl)))
augmented_noted N D W p s a b None g h = refl
augmented_noted N D W p s a b (Some (UpdatesBy i)) g h = join _ _ (g D W p s) (next I.Dup (join _ _ (h D W (p + size D a + 1) (more (more s))) refl))

next_noted : (D : List Depth) (q : ℕ) (s : NotedShape) → instrs (next_notes D q s) ≡ C.next_code D q
next_noted [] q s = refl
next_noted (d ∷ D) q s = choose d.passes _ _ _ _ (join _ _ (unmarked (dropped_by_next d) s) refl) refl

break_noted : (D : List Depth) (q p : ℕ) (s : NotedShape) (xs : ℕ → NotedShape → List Note) (A : ℕ → List Instr)
    → ((p : ℕ) (s : NotedShape) → instrs (xs p s) ≡ A p) → instrs (break_notes D q xs p s) ≡ C.break_code D q A p
break_noted [] q p s xs A g = refl
break_noted (d ∷ D) q p s xs A g = join _ _ (unmarked d.opened s) (join _ _ (g (p + d.opened) (drops d.opened s)) refl)

created_noted : (p n : ℕ) (s : NotedShape) (xs : List Note) (A : List Instr) → instrs xs ≡ A → instrs (create_notes p n s xs) ≡ C.create_code p n A
created_noted p n s xs A e = next _ (next _ (join _ _ e refl))

mutual
  pub noted : (N : SymbolTable) (e : Tree) (D : List Depth) (W : List LoopExits) (p : ℕ) (s : NotedShape) → instrs (code N D W p s e) ≡ C.code N D W p e
  noted N Empty D W p s = refl
  noted N (Constant place value) D W p s = refl
  noted N (Identifier name) D W p s = refl
  noted N (Keyword place name) D W p s = keyword_noted s (keyword_among name.text keywords)
  noted N (Parentheses place es) D W p s = conjunction_noted N es D W p s
  noted N (Listing place es) D W p s = join _ _ (elements_noted N es D W p s) refl
  noted N (Compound place es) D W p s = compound_noted N es D W p s
  noted N (Call place f es) D W p s = join _ _ (noted N f D W p s) (join _ _ (elements_noted N es D W (p + size D f) (more s)) refl)
  noted N (CoCall place f es) D W p s = join _ _ (noted N f D W p s) (join _ _ (bodies_noted N es (p + size D f) (more s)) refl)
  noted N (Subscript place e es) D W p s = join _ _ (noted N e D W p s) (subscripts_noted N es D W (p + size D e) s)
  noted N (Section place kind e i j) D W p s =
      join _ _ (noted N e D W p s) (join _ _ (noted N i D W (p + size D e) (more s)) (join _ _ (noted N j D W (p + size D e + size D i) (more (more s))) refl))
  noted N (Field place e name) D W p s = join _ _ (noted N e D W p s) refl
  noted N (Prefix place operator e) D W p s = prefix_noted N D W p s e (prefix_of operator) (noted N e)
  noted N (Not place e) D W p s = next _ (join _ _ (noted N e (deeper D) W (p + 1) (in_mark s)) refl)
  noted N (Binary place (Plain operator) a b) D W p s = plain_noted N D W p s a b (form_of operator) (noted N a) (noted N b)
  noted N (Binary place (Augmented operator) a b) D W p s = augmented_noted N D W p s a b (update_of operator) (noted N a) (noted N b)
  noted N (To place a b by) D W p s = join _ _ (noted N a D W p s)
      (join _ _ (noted N b D W (p + size D a) (more s)) (join _ _ (by_noted N by D W (p + size D a + size D b) (more (more s))) refl))
  noted N (If place c a Absent) D W p s = next _ (join _ _ (noted N c (deeper D) W (p + 1) (in_mark s)) (next _ (noted N a D W (p + size (deeper D) c + 2) s)))
  noted N (If place c a (Present b)) D W p s = next _ (join _ _ (noted N c (deeper D) W (p + 1) (in_mark s))
      (next _ (join _ _ (noted N a D W (p + size (deeper D) c + 2) s) (next _ (noted N b D W (p + (size (deeper D) c + size D a) + 3) s)))))
  noted N (Case place e cases) D W p s = let last = p + size (deeper D) e + clauses_size D cases + default_size D cases + 3 in
      next _ (join _ _ (noted N e (deeper D) W (p + 1) (in_mark s)) (next _ (join _ _ (clauses_noted N cases D W (p + size (deeper D) e + 2) last s)
      (next _ (default_noted N cases D W (p + size (deeper D) e + 3 + clauses_size D cases) s)))))
  noted N (Loop place While c b) D W p s =
      let E = loop_of 1 0 ∷ D in let m = size (loop_of 1 0 ∷ D) c in let n = body_size (loop_of 1 0 ∷ D) b in
      let V = ways (p + m + n + 3) (p + m + n + 2) ∷ W in
      next _ (join _ _ (noted N c E V (p + 1) (in_mark s)) (next _ (join _ _ (body_noted N b E V (p + m + 2) s) refl)))
  noted N (Loop place Until c b) D W p s =
      let E = loop_of 1 0 ∷ D in let m = size (loop_of 1 0 ∷ D) c in let n = body_size (loop_of 1 0 ∷ D) b in
      let V = ways (p + m + n + 4) (p + m + n + 3) ∷ W in
      next _ (join _ _ (noted N c E V (p + 1) (in_mark s)) (next _ (next _ (join _ _ (body_noted N b E V (p + m + 3) s) refl))))
  noted N (Loop place Every c b) D W p s =
      let m = size (control_of 1 ∷ D) c in let n = body_size (loop_of 2 1 ∷ D) b in let V = ways (p + m + n + 3) (p + m + n + 2) ∷ W in
      next
      _ (join _ _ (noted N c (control_of 1 ∷ D) V (p + 1) (in_mark s)) (next _ (join _ _ (body_noted N b (loop_of 2 1 ∷ D) V (p + m + 2) (in_mark s)) refl)))
  noted N (Repeat place b) D W p s =
      let n = size (loop_of 1 0 ∷ D) b in let V = ways (p + n + 3) (p + n + 2) ∷ W in next _ (join _ _ (noted N b (loop_of 1 0 ∷ D) V (p + 1) (in_mark s)) refl)
  noted N (Create place e) D W p s = created_noted p (size [] e) s _ _ (noted N e [] [] (p + 2) (in_mark (start true)))
  noted N (Next place) D W p s = next_noted D (C.next_way W) s
  noted N (Fail place) D W p s = refl
  noted N (Break place e) D W p s = break_noted D (C.last_way W) p s (λ p' s'. code N (around D) (around W) p' s' e)
      (λ p'. C.code N (around D) (around W) p' e) (noted N e (around D) (around W))
  noted N (Return place e) D W p s = next _ (join _ _ (noted N e (deeper D) W (p + 1) (in_mark s)) refl)
  noted N (Suspend place e b) D W p s = next _ (join _ _ (noted N e (deeper D) W (p + 1) (in_mark s))
      (next _ (next _ (join _ _ (body_noted N b (deeper (deeper D)) W (p + size (deeper D) e + 3) (in_mark s)) refl))))

  operands_noted : (N : SymbolTable) (es : Trees) (D : List Depth) (W : List LoopExits) (p : ℕ) (s : NotedShape)
      → instrs (operands N D W p s es) ≡ C.operands N D W p es
  operands_noted N NoTrees D W p s = refl
  operands_noted N (More e es) D W p s = join _ _ (noted N e D W p s) (operands_noted N es D W (p + size D e) (more s))

  pub elements_noted : (N : SymbolTable) (es : Trees) (D : List Depth) (W : List LoopExits) (p : ℕ) (s : NotedShape)
      → instrs (elements_code N D W p s es) ≡ C.elements_code N D W p es
  elements_noted N NoTrees D W p s = refl
  elements_noted N (More e es) D W p s =
      choose (is_no_element (More e es)) _ _ _ _ refl (join _ _ (noted N e D W p s) (operands_noted N es D W (p + size D e) (more s)))

  conjunction_noted : (N : SymbolTable) (es : Trees) (D : List Depth) (W : List LoopExits) (p : ℕ) (s : NotedShape)
      → instrs (conjunction N D W p s es) ≡ C.conjunction N D W p es
  conjunction_noted N NoTrees D W p s = refl
  conjunction_noted N (More e es) D W p s =
      choose (is_nothing es) _ _ _ _ (noted N e D W p s) (join _ _ (noted N e D W p s) (next I.Pop (conjunction_noted N es D W (p + size D e + 1) s)))

  compound_noted : (N : SymbolTable) (es : Trees) (D : List Depth) (W : List LoopExits) (p : ℕ) (s : NotedShape)
      → instrs (compound N D W p s es) ≡ C.compound N D W p es
  compound_noted N NoTrees D W p s = refl
  compound_noted N (More e es) D W p s = choose (is_nothing es) _ _ _ _ (noted N e D W p s) (choose (is_empty e) _ _ _ _ (compound_noted N es D W p s)
      (next _ (join _ _ (noted N e (deeper D) W (p + 1) (in_mark s)) (next I.Unmark (compound_noted N es D W (p + size (deeper D) e + 2) s)))))

  pub creates_noted : (N : SymbolTable) (es : Trees) (p : ℕ) (s : NotedShape) → instrs (creates N p s es) ≡ C.creates N p es
  creates_noted N NoTrees p s = refl
  creates_noted N (More e es) p s =
      join (create_notes p (size [] e) s (code N [] [] (p + 2) (in_mark (start true)) e)) (creates N (p + size [] e + 5) (more s) es)
      (created_noted p (size [] e) s (code N [] [] (p + 2) (in_mark (start true)) e) (C.code N [] [] (p + 2) e)
      (noted N e [] [] (p + 2) (in_mark (start true))))
      (creates_noted N es (p + size [] e + 5) (more s))

  pub bodies_noted : (N : SymbolTable) (es : Trees) (p : ℕ) (s : NotedShape) → instrs (bodies_code N p s es) ≡ C.bodies_code N p es
  bodies_noted N NoTrees p s = refl
  bodies_noted N (More e es) p s = choose (is_no_element (More e es))
      _ _ _ _ refl (join (create_notes p (size [] e) s (code N [] [] (p + 2) (in_mark (start true)) e)) (creates N (p + size [] e + 5) (more s) es)
      (created_noted p (size [] e) s (code N [] [] (p + 2) (in_mark (start true)) e) (C.code N [] [] (p + 2) e)
      (noted N e [] [] (p + 2) (in_mark (start true))))
      (creates_noted N es (p + size [] e + 5) (more s)))

  subscripts_noted : (N : SymbolTable) (es : Trees) (D : List Depth) (W : List LoopExits) (p : ℕ) (s : NotedShape)
      → instrs (subscripts N D W p s es) ≡ C.subscripts N D W p es
  subscripts_noted N NoTrees D W p s = refl
  subscripts_noted N (More e es) D W p s = join _ _ (noted N e D W p (more s)) (next _ (subscripts_noted N es D W (p + size D e + 1) s))

  pub by_noted : (N : SymbolTable) (by : MaybeTree) (D : List Depth) (W : List LoopExits) (p : ℕ) (s : NotedShape)
      → instrs (by_code N D W p s by) ≡ C.by_code N D W p by
  by_noted N Absent D W p s = refl
  by_noted N (Present e) D W p s = noted N e D W p s

  pub body_noted : (N : SymbolTable) (b : MaybeTree) (D : List Depth) (W : List LoopExits) (p : ℕ) (s : NotedShape)
      → instrs (body_code N D W p s b) ≡ C.body_code N D W p b
  body_noted N Absent D W p s = refl
  body_noted N (Present b) D W p s = next _ (join _ _ (noted N b D W (p + 1) (in_mark s)) refl)

  pub clauses_noted : (N : SymbolTable) (cs : Clauses) (D : List Depth) (W : List LoopExits) (p last : ℕ) (s : NotedShape)
      → instrs (clauses_code N D W p last s cs) ≡ C.clauses_code N D W p last cs
  clauses_noted N NoClauses D W p last s = refl
  clauses_noted N (MoreClauses c cs) D W p last s = join _ _ (clause_noted N c D W p last s) (clauses_noted N cs D W (p + clause_size D c) last s)

  pub clause_noted : (N : SymbolTable) (c : Clause) (D : List Depth) (W : List LoopExits) (p last : ℕ) (s : NotedShape)
      → instrs (clause_code N D W p last s c) ≡ C.clause_code N D W p last c
  clause_noted N (Default place e) D W p last s = refl
  clause_noted N (Guarded place c b) D W p last s = next _ (next _ (join _ _ (noted N c (deeper D) W (p + 2) (more (in_mark (more s))))
      (next _ (next _ (next _ (join _ _ (noted N b D W (p + size (deeper D) c + 5) s) refl))))))

  default_noted : (N : SymbolTable) (cs : Clauses) (D : List Depth) (W : List LoopExits) (p : ℕ) (s : NotedShape)
      → instrs (default_code N D W p s cs) ≡ C.default_code N D W p cs
  default_noted N NoClauses D W p s = refl
  default_noted N (MoreClauses (Default place e) cs) D W p s = noted N e D W p s
  default_noted N (MoreClauses (Guarded place c b) cs) D W p s = default_noted N cs D W p s

bounded_noted : (N : SymbolTable) (p : ℕ) (e : Tree) → instrs (bounded_notes N p e) ≡ C.bounded_code N p e
bounded_noted N p e = choose (is_empty e) _ _ _ _ refl (next _ (join _ _ (noted N e [] [] (p + 1) (in_mark (start false))) refl))

body_of_noted : (N : SymbolTable) (p : ℕ) (es : Trees) → instrs (body N p es) ≡ C.body N p es
body_of_noted N p NoTrees = refl
body_of_noted N p (More e es) = join _ _ (bounded_noted N p e) (body_of_noted N (p + bounded_size e) es)

pub procedure_noted : (N : SymbolTable) (i : Initial) (es : Trees) → instrs (procedure N i es) ≡ C.procedure N i es
procedure_noted N NoInitial es = body_of_noted N 0 es
procedure_noted N (Initially place e) es = next _ (next _ (join _ _ (noted N e [] [] 2 (in_mark (start false))) (next _ (body_of_noted N (size [] e + 3) es))))

-- Lengths

as_long : (xs : List Note) → length (instrs xs) ≡ length xs
as_long [] = refl
as_long (x ∷ xs) = ap suc (as_long xs)

same_len : (xs : List Note) {A : List Instr} {n : ℕ} → instrs xs ≡ A → length A ≡ n → length xs ≡ n
same_len xs e f = sym (as_long xs) ∙ ap length e ∙ f

-- the noted code of a tree is as long as its size
pub code_length : (N : SymbolTable) (e : Tree) (D : List Depth) (W : List LoopExits) (p : ℕ) (s : NotedShape) → length (code N D W p s e) ≡ size D e
code_length N e D W p s = same_len _ (noted N e D W p s) (Z.code_size N e D W p)

pub elements_len : (N : SymbolTable) (es : Trees) (D : List Depth) (W : List LoopExits) (p : ℕ) (s : NotedShape)
    → length (elements_code N D W p s es) ≡ elements_size D es
elements_len N es D W p s = same_len _ (elements_noted N es D W p s) (Z.elements_len N es D W p)

pub bodies_len : (N : SymbolTable) (es : Trees) (D : List Depth) (p : ℕ) (s : NotedShape) → length (bodies_code N p s es) ≡ bodies_size D es
bodies_len N es D p s = same_len _ (bodies_noted N es p s) (Z.bodies_len N es D p)

pub by_code_length : (N : SymbolTable) (by : MaybeTree) (D : List Depth) (W : List LoopExits) (p : ℕ) (s : NotedShape)
    → length (by_code N D W p s by) ≡ by_size D by
by_code_length N by D W p s = same_len _ (by_noted N by D W p s) (Z.by_code_length N by D W p)

pub body_len : (N : SymbolTable) (b : MaybeTree) (D : List Depth) (W : List LoopExits) (p : ℕ) (s : NotedShape) → length (body_code N D W p s b) ≡ body_size D b
body_len N b D W p s = same_len _ (body_noted N b D W p s) (Z.body_len N b D W p)

pub clauses_len : (N : SymbolTable) (cs : Clauses) (D : List Depth) (W : List LoopExits) (p last : ℕ) (s : NotedShape)
    → length (clauses_code N D W p last s cs) ≡ clauses_size D cs
clauses_len N cs D W p last s = same_len _ (clauses_noted N cs D W p last s) (Z.clauses_len N cs D W p last)

pub clause_len : (N : SymbolTable) (c : Clause) (D : List Depth) (W : List LoopExits) (p last : ℕ) (s : NotedShape)
    → length (clause_code N D W p last s c) ≡ clause_size D c
clause_len N c D W p last s = same_len _ (clause_noted N c D W p last s) (Z.clause_len N c D W p last)
