-- The size of a tree is the length of its code.
use Rattle.std.proofs.Common.{◌≡◌, ℕ, zero, suc, ◌+◌, List, [], ◌∷◌, ◌++◌, length, Option, Some, None, refl, ap, arith, length-append, Bool, true, false, if◌then◌else◌}
use Rattle.std.specs.Prelude.{replicate}
use Rattle.icn_text.specs.declared.keyword.Keyword.{Keyword as KeywordNamed}
use Rattle.icn_text.specs.declared.keyword.TheConstants.Keyword.{ALL as keywords}
use Rattle.icn_text.specs.declared.op.Op.TheVariants as Ops
use Rattle.icn_tree.specs.declared.tree.Infix.TheVariants.{Plain, Augmented}
use Rattle.icn_tree.specs.declared.tree.LoopKind.TheVariants.{While, Until, Every}
use Rattle.icn_tree.specs.Trees.{Tree, MaybeTree, Trees, Clause, Clauses, Empty, Constant, Identifier, Keyword, Parentheses, Listing, Compound, Call, CoCall, Subscript, Section, Field, Prefix, Not, Binary, To, If, Case, Loop, Repeat, Create, Next, Fail, Break, Return, Suspend, Absent, Present, NoTrees, More, Default, Guarded, NoClauses, MoreClauses}
use Rattle.icn_code.specs.declared.instr.Instr.{Instr}
use Rattle.icn_code.specs.declared.instr.Instr.TheVariants as I
use Rattle.icn_meaning.specs.Evaluate.{keyword_among}
use Rattle.law_simulation.specs.Translation.{SymbolTable, Depth, LoopExits, loop_of, control_of, deeper, dropped_by_next, around, last_way, next_way, is_empty, is_nothing, is_no_element, elements, BinaryForm, Both, Scanning, Either, Limiting, Applying, form_of, UpdateForm, UpdatesBoth, UpdatesScanning, UpdatesBy, update_of, PrefixForm, Activating, Repeating, Operating, prefix_of, section_op, keyword_size, prefix_size, plain_size, augmented_size, next_size, break_size, keyword_code, prefix_code, plain_code, augmented_code, next_code, break_code, size, sizes, elements_size, conjunction_size, compound_size, bodies_size, creates_size, subscripts_size, by_size, if_size, body_size, clauses_size, clause_size, default_size, is_default_size, ways, create_code, code, operands, elements_code, conjunction, compound, bodies_code, creates, subscripts, by_code, if_code, body_code, clauses_code, clause_code, default_code, is_default}

la : (xs ys : List Instr) → length (xs ++ ys) ≡ length xs + length ys
la xs ys = length-append xs ys

if_len : (b : Bool) (xs ys : List Instr) (m n : ℕ) → length xs ≡ m → length ys ≡ n
    → length (if b then xs else ys) ≡ (if b then m else n)
if_len true xs ys m n e f = e
if_len false xs ys m n e f = f

copies : (n : ℕ) (i : Instr) → length (replicate n i) ≡ n
copies zero i = refl
copies (suc n) i = ap suc (copies n i)

-- what is known of a tree's parts
abbrev Sized : SymbolTable → Tree → Type 0
Sized N e = (D : List Depth) (W : List LoopExits) (p : ℕ) → length (code N D W p e) ≡ size D e

keyword_len : (found : Option KeywordNamed) → length (keyword_code found) ≡ keyword_size found
keyword_len (Some keyword) = refl
keyword_len None = refl

prefix_len : (N : SymbolTable) (D : List Depth) (W : List LoopExits) (p : ℕ) (e : Tree) (f : Option PrefixForm) → Sized N e
    → length (prefix_code f (λ p. code N D W p e) (λ p. code N (deeper D) W p e) p)
    ≡ prefix_size f (size D e) (size (deeper D) e)
prefix_len N D W p e (Some Activating) s = let a = s D W (p + 1) in let b =
    la (code N D W (p + 1) e) (I.Coact ∷ []) in omega arith
prefix_len N D W p e (Some Repeating) s = let a = s (deeper D) W (p + 1) in let b =
    la (code N (deeper D) W (p + 1) e) (I.Chfail p ∷ I.Esusp ∷ []) in omega arith
prefix_len N D W p e (Some (Operating op)) s = let a = s D W p in let b = la (code N D W p e) (I.Op op ∷ []) in
    omega arith
prefix_len N D W p e None s = refl

binary_len : (N : SymbolTable) (D : List Depth) (W : List LoopExits) (p : ℕ) (a b : Tree) (f : Option BinaryForm) → Sized N a
    → Sized N b
    → length (plain_code f (size D a) (size (deeper D) a) (size D b) (λ p. code N D W p a) (λ p. code N (deeper D) W p a)
    (λ p. code N D W p b) p)
    ≡ plain_size f (size D a) (size (deeper D) a) (size D b)
binary_len N D W p a b (Some Both) s t = let x = s D W p in let y = t D W (p + size D a + 1) in let z =
    la (code N D W p a) (I.Pop ∷ code N D W (p + size D a + 1) b) in omega arith
binary_len N D W p a b (Some Scanning) s t = let x = s D W p in let y = t D W (p + size D a + 1) in let z =
    la (code N D W p a ++ I.Bscan ∷ code N D W (p + size D a + 1) b) (I.Escan ∷ []) in
    let u = la (code N D W p a) (I.Bscan ∷ code N D W (p + size D a + 1) b) in omega arith
binary_len N D W p a b (Some Either) s t = let m = size (deeper D) a in let x = s (deeper D) W (p + 1) in let y =
    t D W (p + m + 3) in
    let z = la (code N (deeper D) W (p + 1) a)
    (I.Esusp ∷ I.Goto (p + m + 3 + size D b) ∷ code N D W (p + m + 3) b) in omega arith
binary_len N D W p a b (Some Limiting) s t = let x = t D W p in let y = s (deeper D) W (p + size D b + 1) in
    let z = la (code N D W p b ++ I.Limit ∷ code N (deeper D) W (p + size D b + 1) a) (I.Lsusp ∷ []) in
    let u = la (code N D W p b) (I.Limit ∷ code N (deeper D) W (p + size D b + 1) a) in omega arith
binary_len N D W p a b (Some (Applying i)) s t = let x = s D W p in let y = t D W (p + size D a) in let z =
    la (code N D W p a) (code N D W (p + size D a) b ++ i ∷ []) in let u =
    la (code N D W (p + size D a) b) (i ∷ []) in omega arith
binary_len N D W p a b None s t = refl

augmented_len : (N : SymbolTable) (D : List Depth) (W : List LoopExits) (p : ℕ) (a b : Tree) (f : Option UpdateForm) → Sized N a
    → Sized N b
    → length (augmented_code f (size D a) (λ p. code N D W p a) (λ p. code N D W p b) p) ≡ augmented_size f (size D a) (size D b)
augmented_len N D W p a b (Some UpdatesBoth) s t = let x = s D W p in let y = t D W (p + size D a) in let z =
    la (code N D W p a) (code N D W (p + size D a) b ++ I.Op Ops.Assign ∷ []) in let u =
    la (code N D W (p + size D a) b) (I.Op Ops.Assign ∷ []) in omega arith
augmented_len N D W p a b (Some UpdatesScanning) s t = let x = s D W p in let y = t D W (p + size D a + 2) in let z =
    la (code N D W p a) (I.Dup ∷ I.Bscan ∷ code N D W (p + size D a + 2) b
    ++ (I.Escan ∷ I.Op Ops.Assign ∷ [])) in
    let u = la (code N D W (p + size D a + 2) b) (I.Escan ∷ I.Op Ops.Assign ∷ []) in omega arith
augmented_len N D W p a b (Some (UpdatesBy i)) s t = let x = s D W p in let y = t D W (p + size D a + 1) in let z =
    la (code N D W p a) (I.Dup ∷ code N D W (p + size D a + 1) b ++ (i ∷ I.Op Ops.Assign ∷ [])) in
    let u = la (code N D W (p + size D a + 1) b) (i ∷ I.Op Ops.Assign ∷ []) in omega arith
augmented_len N D W p a b None s t = refl

-- so many marks are dropped, and then this
dropped_len : (k : ℕ) (xs : List Instr) → length (replicate k I.Unmark ++ xs) ≡ k + length xs
dropped_len k xs = let a = la (replicate k I.Unmark) xs in let b = copies k I.Unmark in omega arith

next_len : (D : List Depth) (q : ℕ) → length (next_code D q) ≡ next_size D
next_len [] q = refl
next_len (d ∷ D) q = if_len d.passes (replicate (dropped_by_next d) I.Unmark ++ I.Goto q ∷ []) [] (dropped_by_next d + 1) 0
    (dropped_len (dropped_by_next d) (I.Goto q ∷ [])) refl

break_len : (D : List Depth) (q n : ℕ) (operand : ℕ → List Instr) (p : ℕ) → ((p : ℕ) → length (operand p) ≡ n)
    → length (break_code D q operand p) ≡ break_size D n
break_len [] q n operand p s = refl
break_len (d ∷ D) q n operand p s = let x = s (p + d.opened) in
    let a = dropped_len d.opened (operand (p + d.opened) ++ I.Goto q ∷ []) in
    let b = la (operand (p + d.opened)) (I.Goto q ∷ []) in omega arith

created_len : (p n : ℕ) (xs : List Instr) → length (create_code p n xs) ≡ length xs + 5
created_len p n xs = let a = la xs (I.Coret ∷ I.Efail ∷ I.Cofail ∷ []) in omega arith

mutual
  pub code_size : (N : SymbolTable) (e : Tree) (D : List Depth) (W : List LoopExits) (p : ℕ)
      → length (code N D W p e) ≡ size D e
  code_size N Empty D W p = refl
  code_size N (Constant place value) D W p = refl
  code_size N (Identifier name) D W p = refl
  code_size N (Keyword place name) D W p = keyword_len (keyword_among name.text keywords)
  code_size N (Parentheses place es) D W p = conjunction_len N es D W p
  code_size N (Listing place es) D W p = let a = elements_len N es D W p in let b =
      la (elements_code N D W p es) (I.Llist (elements es) ∷ []) in omega arith
  code_size N (Compound place es) D W p = compound_len N es D W p
  code_size N (Call place f es) D W p = let a = code_size N f D W p in let b =
      elements_len N es D W (p + size D f) in
      let c = la (code N D W p f) (elements_code N D W (p + size D f) es ++ I.Invoke (elements es) ∷ []) in
      let d = la (elements_code N D W (p + size D f) es) (I.Invoke (elements es) ∷ []) in omega arith
  code_size N (CoCall place f es) D W p = let a = code_size N f D W p in let b =
      bodies_len N es D (p + size D f) in
      let c = la (code N D W p f) (bodies_code N (p + size D f) es
      ++ (I.Llist (elements es) ∷ I.Invoke 1 ∷ [])) in let d =
      la (bodies_code N (p + size D f) es) (I.Llist (elements es) ∷ I.Invoke 1 ∷ []) in omega arith
  code_size N (Subscript place e es) D W p = let a = code_size N e D W p in let b =
      subscripts_len N es D W (p + size D e) in let c =
      la (code N D W p e) (subscripts N D W (p + size D e) es) in omega arith
  code_size N (Section place kind e i j) D W p = let a = code_size N e D W p in let b =
      code_size N i D W (p + size D e) in let c = code_size N j D W (p + size D e + size D i) in
      let d = la (code N D W p e) (code N D W (p + size D e) i
      ++ (code N D W (p + size D e + size D i) j ++ I.Op (section_op kind) ∷ [])) in
      let f = la (code N D W (p + size D e) i)
      (code N D W (p + size D e + size D i) j ++ I.Op (section_op kind) ∷ []) in
      let g = la (code N D W (p + size D e + size D i) j) (I.Op (section_op kind) ∷ []) in omega arith
  code_size N (Field place e name) D W p = let a = code_size N e D W p in let b =
      la (code N D W p e) (I.Field (N.field name.text) ∷ []) in omega arith
  code_size N (Prefix place operator e) D W p = prefix_len N D W p e (prefix_of operator) (code_size N e)
  code_size N (Not place e) D W p = let a = code_size N e (deeper D) W (p + 1) in let b =
      la (code N (deeper D) W (p + 1) e) (I.Unmark ∷ I.Efail ∷ I.Pnull ∷ []) in omega arith
  code_size N (Binary place (Plain operator) a b) D W p =
      binary_len N D W p a b (form_of operator) (code_size N a) (code_size N b)
  code_size N (Binary place (Augmented operator) a b) D W p =
      augmented_len N D W p a b (update_of operator) (code_size N a) (code_size N b)
  code_size N (To place a b by) D W p = let x = code_size N a D W p in let y =
      code_size N b D W (p + size D a) in let z = by_code_length N by D W (p + size D a + size D b) in
      let c = la (code N D W p a) (code N D W (p + size D a) b
      ++ (by_code N D W (p + size D a + size D b) by ++ I.Op Ops.ToBy ∷ [])) in
      let d = la (code N D W (p + size D a) b)
      (by_code N D W (p + size D a + size D b) by ++ I.Op Ops.ToBy ∷ []) in
      let f = la (by_code N D W (p + size D a + size D b) by) (I.Op Ops.ToBy ∷ []) in omega arith
  code_size N (If place c a b) D W p =
      if_code_len N b (code N (deeper D) W (p + 1) c) (code N D W (p + size (deeper D) c + 2) a)
      (size (deeper D) c + size D a) D W p
      (let x = code_size N c (deeper D) W (p + 1) in let y =
      code_size N a D W (p + size (deeper D) c + 2) in omega arith)
  code_size N (Case place e clauses) D W p =
      let n = size (deeper D) e in let last = p + n + clauses_size D clauses + default_size D clauses + 3 in
      let x = code_size N e (deeper D) W (p + 1) in let y = clauses_len N clauses D W (p + n + 2) last in
      let z = default_len N clauses D W (p + n + 3 + clauses_size D clauses) in
      let a = la (code N (deeper D) W (p + 1) e)
      (I.Eret ∷ clauses_code N D W (p + n + 2) last clauses
      ++ (I.Pop ∷ default_code N D W (p + n + 3 + clauses_size D clauses) clauses)) in
      let b = la (clauses_code N D W (p + n + 2) last clauses)
      (I.Pop ∷ default_code N D W (p + n + 3 + clauses_size D clauses) clauses) in omega arith
  code_size N (Loop place While c b) D W p =
      let E = loop_of 1 0 ∷ D in let m = size (loop_of 1 0 ∷ D) c in let n =
      body_size (loop_of 1 0 ∷ D) b in let V = ways (p + m + n + 3) (p + m + n + 2) ∷ W in
      let x = code_size N c E V (p + 1) in let y = body_len N b E V (p + m + 2) in
      let a = la (code N E V (p + 1) c) (I.Unmark ∷ body_code N E V (p + m + 2) b ++ I.Loop p ∷ []) in
      let d = la (body_code N E V (p + m + 2) b) (I.Loop p ∷ []) in omega arith
  code_size N (Loop place Until c b) D W p =
      let E = loop_of 1 0 ∷ D in let m = size (loop_of 1 0 ∷ D) c in let n =
      body_size (loop_of 1 0 ∷ D) b in let V = ways (p + m + n + 4) (p + m + n + 3) ∷ W in
      let x = code_size N c E V (p + 1) in let y = body_len N b E V (p + m + 3) in
      let a = la (code N E V (p + 1) c)
      (I.Unmark ∷ I.Efail ∷ body_code N E V (p + m + 3) b ++ I.Loop p ∷ []) in let d =
      la (body_code N E V (p + m + 3) b) (I.Loop p ∷ []) in omega arith
  code_size N (Loop place Every c b) D W p =
      let m = size (control_of 1 ∷ D) c in let n = body_size (loop_of 2 1 ∷ D) b in let V =
      ways (p + m + n + 3) (p + m + n + 2) ∷ W in
      let x = code_size N c (control_of 1 ∷ D) V (p + 1) in let y =
      body_len N b (loop_of 2 1 ∷ D) V (p + m + 2) in
      let a = la (code N (control_of 1 ∷ D) V (p + 1) c)
      (I.Pop ∷ body_code N (loop_of 2 1 ∷ D) V (p + m + 2) b ++ I.Efail ∷ []) in let d =
      la (body_code N (loop_of 2 1 ∷ D) V (p + m + 2) b) (I.Efail ∷ []) in omega arith
  code_size N (Repeat place b) D W p =
      let n = size (loop_of 1 0 ∷ D) b in let V = ways (p + n + 3) (p + n + 2) ∷ W in let x =
      code_size N b (loop_of 1 0 ∷ D) V (p + 1) in
      let a = la (code N (loop_of 1 0 ∷ D) V (p + 1) b) (I.Unmark ∷ I.Loop p ∷ []) in omega arith
  code_size N (Create place e) D W p = let x = code_size N e [] [] (p + 2) in let a =
      created_len p (size [] e) (code N [] [] (p + 2) e) in omega arith
  code_size N (Next place) D W p = next_len D (next_way W)
  code_size N (Fail place) D W p = refl
  code_size N (Break place e) D W p =
      break_len D (last_way W) (size (around D) e) (λ p. code N (around D) (around W) p e) p
      (code_size N e (around D) (around W))
  code_size N (Return place e) D W p = let x = code_size N e (deeper D) W (p + 1) in let a =
      la (code N (deeper D) W (p + 1) e) (I.Pret ∷ I.Pfail ∷ []) in omega arith
  code_size N (Suspend place e b) D W p = let x = code_size N e (deeper D) W (p + 1) in let y =
      body_len N b (deeper (deeper D)) W (p + size (deeper D) e + 3) in
      let a = la (code N (deeper D) W (p + 1) e)
      (I.Psusp ∷ I.Pop ∷ body_code N (deeper (deeper D)) W (p + size (deeper D) e + 3) b ++ I.Efail
      ∷ []) in
      let c = la (body_code N (deeper (deeper D)) W (p + size (deeper D) e + 3) b) (I.Efail ∷ []) in
      omega arith

  operands_len : (N : SymbolTable) (es : Trees) (D : List Depth) (W : List LoopExits) (p : ℕ)
      → length (operands N D W p es) ≡ sizes D es
  operands_len N NoTrees D W p = refl
  operands_len N (More e es) D W p = let x = code_size N e D W p in let y =
      operands_len N es D W (p + size D e) in let a =
      la (code N D W p e) (operands N D W (p + size D e) es) in omega arith

  pub elements_len : (N : SymbolTable) (es : Trees) (D : List Depth) (W : List LoopExits) (p : ℕ)
      → length (elements_code N D W p es) ≡ elements_size D es
  elements_len N NoTrees D W p = refl
  elements_len N (More e es) D W p = if_len (is_no_element (More e es)) [] _ 0 _ refl
      (let x = code_size N e D W p in let y = operands_len N es D W (p + size D e) in let a =
      la (code N D W p e) (operands N D W (p + size D e) es) in omega arith)

  conjunction_len : (N : SymbolTable) (es : Trees) (D : List Depth) (W : List LoopExits) (p : ℕ)
      → length (conjunction N D W p es) ≡ conjunction_size D es
  conjunction_len N NoTrees D W p = refl
  conjunction_len N (More e es) D W p =
      if_len (is_nothing es) (code N D W p e)
      (code N D W p e ++ I.Pop ∷ conjunction N D W (p + size D e + 1) es) (size D e)
      (size D e + 1 + conjunction_size D es) (code_size N e D W p)
      (let x = code_size N e D W p in let y = conjunction_len N es D W (p + size D e + 1) in let a =
      la (code N D W p e) (I.Pop ∷ conjunction N D W (p + size D e + 1) es) in omega arith)

  compound_len : (N : SymbolTable) (es : Trees) (D : List Depth) (W : List LoopExits) (p : ℕ)
      → length (compound N D W p es) ≡ compound_size D es
  compound_len N NoTrees D W p = refl
  compound_len N (More e es) D W p =
      if_len (is_nothing es) (code N D W p e) _ (size D e) _ (code_size N e D W p)
      (by_empty (is_empty e) (compound_len N es D W) (code_size N e (deeper D) W (p + 1)))
    where
      by_empty : (b : Bool) → ((q : ℕ) → length (compound N D W q es) ≡ compound_size D es)
          → length (code N (deeper D) W (p + 1) e) ≡ size (deeper D) e
          → length (if b then compound N D W p es else I.Mark (p + size (deeper D) e + 2)
          ∷ code N (deeper D) W (p + 1) e ++ I.Unmark ∷ compound N D W (p + size (deeper D) e + 2) es)
          ≡ (if b then 0 else size (deeper D) e + 2) + compound_size D es
      by_empty true f x = let y = f p in omega arith
      by_empty false f x = let y = f (p + size (deeper D) e + 2) in let a =
          la (code N (deeper D) W (p + 1) e) (I.Unmark ∷ compound N D W (p + size (deeper D) e + 2) es) in
          omega arith

  pub bodies_len : (N : SymbolTable) (es : Trees) (D : List Depth) (p : ℕ)
      → length (bodies_code N p es) ≡ bodies_size D es
  bodies_len N NoTrees D p = refl
  bodies_len N (More e es) D p = if_len (is_no_element (More e es)) [] _ 0 _ refl
      (let x = code_size N e [] [] (p + 2) in let y = creates_len N es D (p + size [] e + 5) in let a =
      created_len p (size [] e) (code N [] [] (p + 2) e) in
      let b = la (create_code p (size [] e) (code N [] [] (p + 2) e)) (creates N (p + size [] e + 5) es) in
      omega arith)

  creates_len : (N : SymbolTable) (es : Trees) (D : List Depth) (p : ℕ)
      → length (creates N p es) ≡ creates_size D es
  creates_len N NoTrees D p = refl
  creates_len N (More e es) D p =
      let x = code_size N e [] [] (p + 2) in let y = creates_len N es D (p + size [] e + 5) in let a =
      created_len p (size [] e) (code N [] [] (p + 2) e) in
      let b = la (create_code p (size [] e) (code N [] [] (p + 2) e)) (creates N (p + size [] e + 5) es) in
      omega arith

  subscripts_len : (N : SymbolTable) (es : Trees) (D : List Depth) (W : List LoopExits) (p : ℕ)
      → length (subscripts N D W p es) ≡ subscripts_size D es
  subscripts_len N NoTrees D W p = refl
  subscripts_len N (More e es) D W p = let x = code_size N e D W p in let y =
      subscripts_len N es D W (p + size D e + 1) in let a =
      la (code N D W p e) (I.Op Ops.Subscript ∷ subscripts N D W (p + size D e + 1) es) in omega arith

  pub by_code_length : (N : SymbolTable) (by : MaybeTree) (D : List Depth) (W : List LoopExits) (p : ℕ)
      → length (by_code N D W p by) ≡ by_size D by
  by_code_length N Absent D W p = refl
  by_code_length N (Present e) D W p = code_size N e D W p

  if_code_len : (N : SymbolTable) (b : MaybeTree) (c a : List Instr) (n : ℕ) (D : List Depth) (W : List LoopExits)
      (p : ℕ) → length c + length a ≡ n → length (if_code c a n N D W p b) ≡ if_size n D b
  if_code_len N Absent c a n D W p e = let x = la c (I.Unmark ∷ a) in omega arith
  if_code_len N (Present b) c a n D W p e = let x =
      la c (I.Unmark ∷ a ++ I.Goto (p + n + 3 + size D b) ∷ code N D W (p + n + 3) b) in
      let y = la a (I.Goto (p + n + 3 + size D b) ∷ code N D W (p + n + 3) b) in let z =
      code_size N b D W (p + n + 3) in omega arith

  pub body_len : (N : SymbolTable) (b : MaybeTree) (D : List Depth) (W : List LoopExits) (p : ℕ)
      → length (body_code N D W p b) ≡ body_size D b
  body_len N Absent D W p = refl
  body_len N (Present b) D W p = let x = code_size N b D W (p + 1) in let a =
      la (code N D W (p + 1) b) (I.Unmark ∷ []) in omega arith

  pub clauses_len : (N : SymbolTable) (cs : Clauses) (D : List Depth) (W : List LoopExits) (p last : ℕ)
      → length (clauses_code N D W p last cs) ≡ clauses_size D cs
  clauses_len N NoClauses D W p last = refl
  clauses_len N (MoreClauses c cs) D W p last = let x = clause_len N c D W p last in let y =
      clauses_len N cs D W (p + clause_size D c) last in
      let a = la (clause_code N D W p last c) (clauses_code N D W (p + clause_size D c) last cs) in
      omega arith

  pub clause_len : (N : SymbolTable) (c : Clause) (D : List Depth) (W : List LoopExits) (p last : ℕ)
      → length (clause_code N D W p last c) ≡ clause_size D c
  clause_len N (Default place e) D W p last = refl
  clause_len N (Guarded place s b) D W p last = let n = size (deeper D) s in let x =
      code_size N s (deeper D) W (p + 2) in let y = code_size N b D W (p + n + 5) in
      let a = la (code N (deeper D) W (p + 2) s)
      (I.Op Ops.Equivalent ∷ I.Unmark ∷ I.Pop ∷ code N D W (p + n + 5) b ++ I.Goto last ∷ []) in let c =
      la (code N D W (p + n + 5) b) (I.Goto last ∷ []) in omega arith

  default_len : (N : SymbolTable) (cs : Clauses) (D : List Depth) (W : List LoopExits) (p : ℕ)
      → length (default_code N D W p cs) ≡ default_size D cs
  default_len N NoClauses D W p = refl
  default_len N (MoreClauses c cs) D W p =
      is_default_len N c D W p (default_code N D W p cs) (default_size D cs) (default_len N cs D W p)

  is_default_len : (N : SymbolTable) (c : Clause) (D : List Depth) (W : List LoopExits) (p : ℕ) (xs : List Instr)
      (n : ℕ) → length xs ≡ n → length (is_default N D W p c xs) ≡ is_default_size D c n
  is_default_len N (Default place e) D W p xs n h = code_size N e D W p
  is_default_len N (Guarded place s b) D W p xs n h = h
