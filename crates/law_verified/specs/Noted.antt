-- The translation again, in which beside each instruction stands whether it opens a repeated alternation, and the shape with which it is reached.
use Rattle.std.specs.Prelude.{ℕ, zero, suc, ◌+◌, pos, Bool, true, false, List, [], ◌∷◌, ◌++◌, Option, Some, None, if◌then◌else◌}
use Rattle.icn_text.specs.declared.keyword.Keyword.{Keyword as KeywordNamed}
use Rattle.icn_text.specs.declared.keyword.TheConstants.Keyword.{ALL as keywords}
use Rattle.icn_text.specs.declared.op.Op.TheVariants as Ops
use Rattle.icn_tree.specs.declared.tree.Infix.TheVariants.{Plain, Augmented}
use Rattle.icn_tree.specs.declared.tree.LoopKind.TheVariants.{While, Until, Every}
use Rattle.icn_tree.specs.Trees.{Initial, NoInitial, Initially, Tree, MaybeTree, Trees, Clause, Clauses, Empty, Constant, Identifier, Keyword, Parentheses, Listing, Compound, Call, CoCall, Subscript, Section, Field, Prefix, Not, Binary, To, If, Case, Loop, Repeat, Create, Next, Fail, Break, Return, Suspend, Absent, Present, NoTrees, More, Default, Guarded, NoClauses, MoreClauses}
use Rattle.icn_code.specs.declared.instr.Instr.{Instr}
use Rattle.icn_code.specs.declared.instr.Instr.TheVariants as I
use Rattle.icn_meaning.specs.Evaluate.{keyword_among}
use Rattle.law_simulation.specs.Translation.{SymbolTable, Depth, LoopExits, loop_of, control_of, deeper, dropped_by_next, around, last_way, next_way, is_empty, is_nothing, is_no_element, elements, BinaryForm, Both, Scanning, Either, Limiting, Applying, form_of, UpdateForm, UpdatesBoth, UpdatesScanning, UpdatesBy, update_of, PrefixForm, Activating, Repeating, Operating, prefix_of, section_op, size, body_size, clauses_size, clause_size, default_size, ways, literal_code, keyword_instr, bounded_size}

-- Shapes

-- what a level is opened by: the procedure or create body itself, a mark, or a limit
pub data NotedKind : Type 0 where
  Base : NotedKind
  Marked : NotedKind
  Limited : NotedKind

-- a level: its kind, and how many operands and open scans it has
pub record NotedLevel : Type 0 where
  pub kind : NotedKind
  pub operands : ℕ
  pub scans : ℕ

-- the innermost level, and those outside it, the next one first
pub record NotedShape : Type 0 where
  pub in_create : Bool
  pub inner : NotedLevel
  pub outer : List NotedLevel

-- a level of this kind with nothing in it
abbrev pub level_of : NotedKind → NotedLevel
level_of kind = record { kind = kind; operands = 0; scans = 0 }

-- the shape at the start of a procedure, or of a create body
abbrev pub start : Bool → NotedShape
start in_create = record { in_create = in_create; inner = level_of Base; outer = [] }

-- with an operand more
abbrev pub more : NotedShape → NotedShape
more s = record s { inner = record s.inner { operands = suc s.inner.operands } }

-- with so many operands more
abbrev pub many : ℕ → NotedShape → NotedShape
many zero s = s
many (suc n) s = more (many n s)

-- with an open scan more
abbrev pub with_scan : NotedShape → NotedShape
with_scan s = record s { inner = record s.inner { scans = suc s.inner.scans } }

-- inside a mark
abbrev pub within : NotedKind → NotedShape → NotedShape
within kind s = record { in_create = s.in_create; inner = level_of kind; outer = s.inner ∷ s.outer }

-- inside a mark that is no limit
abbrev pub in_mark : NotedShape → NotedShape
in_mark s = within Marked s

-- the next level is the innermost; where there is none, the shape stays
abbrev pub outside_of : Bool → NotedShape → List NotedLevel → NotedShape
outside_of c s [] = s
outside_of c s (level ∷ levels) = record { in_create = c; inner = level; outer = levels }

-- without the innermost mark
abbrev pub without_mark : NotedShape → NotedShape
without_mark s = outside_of s.in_create s s.outer

-- without so many innermost marks
abbrev pub drops : ℕ → NotedShape → NotedShape
drops zero s = s
drops (suc n) s = drops n (without_mark s)

-- an instruction, whether it opens a repeated alternation, and the shape with which it is reached
pub record Note : Type 0 where
  pub instr : Instr
  pub flag : Bool
  pub shape : NotedShape

-- an instruction with its shape
abbrev pub o : NotedShape → Instr → Note
o s i = record { instr = i; flag = false; shape = s }

-- an instruction that opens a repeated alternation, with its shape
abbrev pub flagged_note : NotedShape → Instr → Note
flagged_note s i = record { instr = i; flag = true; shape = s }

-- so many `unmark`, each with its shape
abbrev pub unmarks : ℕ → NotedShape → List Note
unmarks zero s = []
unmarks (suc n) s = o s I.Unmark ∷ unmarks n (without_mark s)

-- a co-expression with a body of some size
abbrev pub create_notes : ℕ → ℕ → NotedShape → List Note → List Note
create_notes p n s body = o s (I.Create (p + n + 5)) ∷ o (start true) (I.Mark (p + n + 4))
    ∷ body ++ (o (more (in_mark (start true))) I.Coret ∷ o (more (in_mark (start true))) I.Efail
    ∷ o (start true) I.Cofail ∷ [])

-- the code of a part, in loops with these depths, from a place, with a shape
abbrev pub Part : Type 0
Part = List Depth → ℕ → NotedShape → List Note

-- the code of a keyword
abbrev pub keyword_notes : NotedShape → Option KeywordNamed → List Note
keyword_notes s (Some keyword) = o s (keyword_instr keyword) ∷ []
keyword_notes s None = []

-- the code of a prefix operator, by the code of its operand
abbrev pub prefix_code : List Depth → ℕ → NotedShape → Part → Option PrefixForm → List Note
prefix_code D p s c (Some Activating) = o s I.Pnull ∷ c D (p + 1) (more s) ++ o (more (more s)) I.Coact ∷ []
prefix_code D p s c (Some Repeating) = flagged_note s I.Mark0 ∷ c (deeper D) (p + 1) (in_mark s)
    ++ (o (more (in_mark s)) (I.Chfail p) ∷ o (more (in_mark s)) I.Esusp ∷ [])
prefix_code D p s c (Some (Operating op)) = c D p s ++ o (more s) (I.Op op) ∷ []
prefix_code D p s c None = []

-- by the sizes of the parts, and that of the first one in a mark
abbrev pub plain_code : List Depth → ℕ → NotedShape → (m n k : ℕ) → (a b : Part) → Option BinaryForm → List Note
plain_code D p s m n k a b (Some Both) = a D p s ++ o (more s) I.Pop ∷ b D (p + m + 1) s
plain_code D p s m n k a b (Some Scanning) =
    a D p s ++ (o (more s) I.Bscan ∷ b D (p + m + 1) (with_scan s) ++ o (more (with_scan s)) I.Escan ∷ [])
plain_code D p s m n k a b (Some Either) = o s (I.Mark (p + k + 3)) ∷ a (deeper D) (p + 1) (in_mark s)
    ++ (o (more (in_mark s)) I.Esusp ∷ o (more s) (I.Goto (p + k + 3 + n)) ∷ b D (p + k + 3) s)
plain_code D p s m n k a b (Some Limiting) = b D p s ++ (o (more s) I.Limit
    ∷ a (deeper D) (p + n + 1) (within Limited s) ++ o (more (within Limited s)) I.Lsusp ∷ [])
plain_code D p s m n k a b (Some (Applying i)) =
    a D p s ++ (b D (p + m) (more s) ++ o (more (more s)) i ∷ [])
plain_code D p s m n k a b None = []

-- the code of an augmented assignment, by the size of its first part
abbrev pub augmented_code : List Depth → ℕ → NotedShape → ℕ → (a b : Part) → Option UpdateForm → List Note
augmented_code D p s m a b (Some UpdatesBoth) =
    a D p s ++ (b D (p + m) (more s) ++ o (more (more s)) (I.Op Ops.Assign) ∷ [])
augmented_code D p s m a b (Some UpdatesScanning) =
    a D p s ++ (o (more s) I.Dup ∷ o (more (more s)) I.Bscan ∷ b D (p + m + 2) (with_scan (more s))
    ++ (o (more (with_scan (more s))) I.Escan ∷ o (more (more s)) (I.Op Ops.Assign) ∷ []))
augmented_code D p s m a b (Some (UpdatesBy i)) =
    a D p s ++ (o (more s) I.Dup ∷ b D (p + m + 1) (more (more s))
    ++ (o (more (more (more s))) i ∷ o (more (more s)) (I.Op Ops.Assign) ∷ []))
augmented_code D p s m a b None = []

-- the code of `next` in the innermost of these loops, which goes on at this place
abbrev pub next_notes : List Depth → (place : ℕ) → NotedShape → List Note
next_notes [] place s = []
next_notes (d ∷ D) place s = if d.passes then unmarks (dropped_by_next d) s
    ++ o (drops (dropped_by_next d) s) (I.Goto place) ∷ [] else []

-- the code of `break` out of the innermost of these loops, whose end is this place, by that of its operand
abbrev pub break_notes : List Depth → (end : ℕ) → (operand : ℕ → NotedShape → List Note) → ℕ → NotedShape
    → List Note
break_notes [] end operand p s = []
break_notes (d ∷ D) end operand p s =
    unmarks d.opened s ++ (operand (p + d.opened) (drops d.opened s)
    ++ o (more (drops d.opened s)) (I.Goto end) ∷ [])

-- The code of trees with its shapes, with that of their parts
abbrev mutual
  pub code : SymbolTable → List Depth → List LoopExits → ℕ → NotedShape → Tree → List Note
  code N D W p s Empty = o s I.Pnull ∷ []
  code N D W p s (Constant place value) = o s (literal_code N value) ∷ []
  code N D W p s (Identifier name) = o s (N.variable name.text) ∷ []
  code N D W p s (Keyword place name) = keyword_notes s (keyword_among name.text keywords)
  code N D W p s (Parentheses place es) = conjunction N D W p s es
  code N D W p s (Listing place es) =
      elements_code N D W p s es ++ o (many (elements es) s) (I.Llist (elements es)) ∷ []
  code N D W p s (Compound place es) = compound N D W p s es
  code N D W p s (Call place callee es) =
      code N D W p s callee ++ (elements_code N D W (p + size D callee) (more s) es
      ++ o (many (elements es) (more s)) (I.Invoke (elements es)) ∷ [])
  code N D W p s (CoCall place callee es) =
      code N D W p s callee ++ (bodies_code N (p + size D callee) (more s) es
      ++ (o (many (elements es) (more s)) (I.Llist (elements es)) ∷ o (more (more s)) (I.Invoke 1) ∷ []))
  code N D W p s (Subscript place e es) = code N D W p s e ++ subscripts N D W (p + size D e) s es
  code N D W p s (Section place kind e i j) = code N D W p s e
      ++ (code N D W (p + size D e) (more s) i ++ (code N D W (p + size D e + size D i) (more (more s)) j
      ++ o (more (more (more s))) (I.Op (section_op kind)) ∷ []))
  code N D W p s (Field place e name) = code N D W p s e ++ o (more s) (I.Field (N.field name.text)) ∷ []
  code N D W p s (Prefix place operator e) =
      prefix_code D p s (λ D' p' s'. code N D' W p' s' e) (prefix_of operator)
  code N D W p s (Not place e) =
      o s (I.Mark (p + size (deeper D) e + 3)) ∷ code N (deeper D) W (p + 1) (in_mark s) e
      ++ (o (more (in_mark s)) I.Unmark ∷ o s I.Efail ∷ o s I.Pnull ∷ [])
  code N D W p s (Binary place (Plain operator) a b) =
      plain_code D p s (size D a) (size D b) (size (deeper D) a) (λ D' p' s'. code N D' W p' s' a)
      (λ D' p' s'. code N D' W p' s' b) (form_of operator)
  code N D W p s (Binary place (Augmented operator) a b) = augmented_code D p s (size D a)
      (λ D' p' s'. code N D' W p' s' a) (λ D' p' s'. code N D' W p' s' b) (update_of operator)
  code N D W p s (To place a b by) = code N D W p s a
      ++ (code N D W (p + size D a) (more s) b ++ (by_code N D W (p + size D a + size D b) (more (more s)) by
      ++ o (more (more (more s))) (I.Op Ops.ToBy) ∷ []))
  code N D W p s (If place c a b) = if_code (code N (deeper D) W (p + 1) (in_mark s) c)
      (code N D W (p + size (deeper D) c + 2) s a) (size (deeper D) c + size D a) N D W p s b
  code N D W p s (Case place e clauses) =
      o s I.Mark0 ∷ code N (deeper D) W (p + 1) (in_mark s) e
      ++ (o (more (in_mark s)) I.Eret ∷ clauses_code N D W (p + size (deeper D) e + 2) (p + size (deeper D) e
      + clauses_size D clauses + default_size D clauses + 3) s clauses ++ (o (more s) I.Pop
      ∷ default_code N D W (p + size (deeper D) e + 3 + clauses_size D clauses) s clauses))
  code N D W p s (Loop place While c b) =
      let m = size (loop_of 1 0 ∷ D) c in let n = body_size (loop_of 1 0 ∷ D) b in
      let w = ways (p + m + n + 3) (p + m + n + 2) in
      o s I.Mark0 ∷ code N (loop_of 1 0 ∷ D) (w ∷ W) (p + 1) (in_mark s) c ++ (o (more (in_mark s)) I.Unmark
      ∷ body_code N (loop_of 1 0 ∷ D) (w ∷ W) (p + m + 2) s b ++ o s (I.Loop p) ∷ [])
  code N D W p s (Loop place Until c b) =
      let m = size (loop_of 1 0 ∷ D) c in let n = body_size (loop_of 1 0 ∷ D) b in
      let w = ways (p + m + n + 4) (p + m + n + 3) in
      o s (I.Mark (p + m + 3)) ∷ code N (loop_of 1 0 ∷ D) (w ∷ W) (p + 1) (in_mark s) c
      ++ (o (more (in_mark s)) I.Unmark ∷ o s I.Efail ∷ body_code N (loop_of 1 0 ∷ D) (w ∷ W) (p + m + 3) s b
      ++ o s (I.Loop p) ∷ [])
  code N D W p s (Loop place Every c b) =
      let m = size (control_of 1 ∷ D) c in let n = body_size (loop_of 2 1 ∷ D) b in
      let w = ways (p + m + n + 3) (p + m + n + 2) in
      o s I.Mark0 ∷ code N (control_of 1 ∷ D) (w ∷ W) (p + 1) (in_mark s) c ++ (o (more (in_mark s)) I.Pop
      ∷ body_code N (loop_of 2 1 ∷ D) (w ∷ W) (p + m + 2) (in_mark s) b ++ o (in_mark s) I.Efail ∷ [])
  code N D W p s (Repeat place b) =
      let n = size (loop_of 1 0 ∷ D) b in let w = ways (p + n + 3) (p + n + 2) in
      o s (I.Mark (p + n + 2)) ∷ code N (loop_of 1 0 ∷ D) (w ∷ W) (p + 1) (in_mark s) b
      ++ (o (more (in_mark s)) I.Unmark ∷ o s (I.Loop p) ∷ [])
  code N D W p s (Create place e) =
      create_notes p (size [] e) s (code N [] [] (p + 2) (in_mark (start true)) e)
  code N D W p s (Next place) = next_notes D (next_way W) s
  code N D W p s (Fail place) = o s I.Pfail ∷ []
  code N D W p s (Break place e) =
      break_notes D (last_way W) (λ p' s'. code N (around D) (around W) p' s' e) p s
  code N D W p s (Return place e) = o s (I.Mark (p + size (deeper D) e + 2))
      ∷ code N (deeper D) W (p + 1) (in_mark s) e ++ (o (more (in_mark s)) I.Pret ∷ o s I.Pfail ∷ [])
  code N D W p s (Suspend place e b) =
      o s I.Mark0 ∷ code N (deeper D) W (p + 1) (in_mark s) e ++ (o (more (in_mark s)) I.Psusp
      ∷ o (more (in_mark s)) I.Pop
      ∷ body_code N (deeper (deeper D)) W (p + size (deeper D) e + 3) (in_mark s) b
      ++ o (in_mark s) I.Efail ∷ [])

  pub operands : SymbolTable → List Depth → List LoopExits → ℕ → NotedShape → Trees → List Note
  operands N D W p s NoTrees = []
  operands N D W p s (More e es) = code N D W p s e ++ operands N D W (p + size D e) (more s) es

  pub elements_code : SymbolTable → List Depth → List LoopExits → ℕ → NotedShape → Trees → List Note
  elements_code N D W p s NoTrees = []
  elements_code N D W p s (More e es) =
      if is_no_element (More e es) then [] else code N D W p s e ++ operands N D W (p + size D e) (more s) es

  pub conjunction : SymbolTable → List Depth → List LoopExits → ℕ → NotedShape → Trees → List Note
  conjunction N D W p s NoTrees = []
  conjunction N D W p s (More e es) = if is_nothing es then code N D W p s e
      else code N D W p s e ++ o (more s) I.Pop ∷ conjunction N D W (p + size D e + 1) s es

  pub compound : SymbolTable → List Depth → List LoopExits → ℕ → NotedShape → Trees → List Note
  compound N D W p s NoTrees = []
  compound N D W p s (More e es) =
      if is_nothing es then code N D W p s e else (if is_empty e then compound N D W p s es
      else o s (I.Mark (p + size (deeper D) e + 2)) ∷ code N (deeper D) W (p + 1) (in_mark s) e
      ++ o (more (in_mark s)) I.Unmark ∷ compound N D W (p + size (deeper D) e + 2) s es)

  pub creates : SymbolTable → ℕ → NotedShape → Trees → List Note
  creates N p s NoTrees = []
  creates N p s (More e es) = create_notes p (size [] e) s (code N [] [] (p + 2) (in_mark (start true)) e)
      ++ creates N (p + size [] e + 5) (more s) es

  pub bodies_code : SymbolTable → ℕ → NotedShape → Trees → List Note
  bodies_code N p s NoTrees = []
  bodies_code N p s (More e es) = if is_no_element (More e es) then []
      else create_notes p (size [] e) s (code N [] [] (p + 2) (in_mark (start true)) e)
      ++ creates N (p + size [] e + 5) (more s) es

  pub subscripts : SymbolTable → List Depth → List LoopExits → ℕ → NotedShape → Trees → List Note
  subscripts N D W p s NoTrees = []
  subscripts N D W p s (More e es) = code N D W p (more s) e ++ o (more (more s)) (I.Op Ops.Subscript)
      ∷ subscripts N D W (p + size D e + 1) s es

  pub by_code : SymbolTable → List Depth → List LoopExits → ℕ → NotedShape → MaybeTree → List Note
  by_code N D W p s Absent = o s (I.Int (N.integer (pos 1))) ∷ []
  by_code N D W p s (Present e) = code N D W p s e

  pub if_code : List Note → List Note → ℕ → SymbolTable → List Depth → List LoopExits → ℕ → NotedShape
      → MaybeTree → List Note
  if_code c a n N D W p s Absent = o s I.Mark0 ∷ c ++ o (more (in_mark s)) I.Unmark ∷ a
  if_code c a n N D W p s (Present b) = o s (I.Mark (p + n + 3)) ∷ c ++ (o (more (in_mark s)) I.Unmark ∷ a
      ++ o (more s) (I.Goto (p + n + 3 + size D b)) ∷ code N D W (p + n + 3) s b)

  pub body_code : SymbolTable → List Depth → List LoopExits → ℕ → NotedShape → MaybeTree → List Note
  body_code N D W p s Absent = []
  body_code N D W p s (Present b) =
      o s (I.Mark (p + size D b + 2)) ∷ code N D W (p + 1) (in_mark s) b ++ o (more (in_mark s)) I.Unmark ∷ []

  -- the shape is that without the value that is compared
  pub clauses_code : SymbolTable → List Depth → List LoopExits → ℕ → ℕ → NotedShape → Clauses → List Note
  clauses_code N D W p last s NoClauses = []
  clauses_code N D W p last s (MoreClauses clause clauses) =
      clause_code N D W p last s clause ++ clauses_code N D W (p + clause_size D clause) last s clauses

  pub clause_code : SymbolTable → List Depth → List LoopExits → ℕ → ℕ → NotedShape → Clause → List Note
  clause_code N D W p last s (Default place e) = []
  clause_code N D W p last s (Guarded place c b) =
      o (more s) (I.Mark (p + size (deeper D) c + size D b + 6))
      ∷ o (in_mark (more s)) I.Ccase ∷ code N (deeper D) W (p + 2) (more (in_mark (more s))) c
      ++ (o (more (more (in_mark (more s)))) (I.Op Ops.Equivalent) ∷ o (more (in_mark (more s))) I.Unmark
      ∷ o (more s) I.Pop ∷ code N D W (p + size (deeper D) c + 5) s b ++ o (more s) (I.Goto last) ∷ [])

  pub default_code : SymbolTable → List Depth → List LoopExits → ℕ → NotedShape → Clauses → List Note
  default_code N D W p s NoClauses = o s I.Efail ∷ []
  default_code N D W p s (MoreClauses clause clauses) =
      is_default N D W p s clause (default_code N D W p s clauses)

  pub is_default : SymbolTable → List Depth → List LoopExits → ℕ → NotedShape → Clause → List Note → List Note
  is_default N D W p s (Default place e) later = code N D W p s e
  is_default N D W p s (Guarded place c b) later = later

-- a bounded expression of a body; an empty one has no code
abbrev pub bounded_notes : SymbolTable → ℕ → Tree → List Note
bounded_notes N p e = if is_empty e then [] else o (start false) (I.Mark (p + size [] e + 2))
    ∷ code N [] [] (p + 1) (in_mark (start false)) e ++ o (more (in_mark (start false))) I.Unmark ∷ []

-- the body of a procedure from a place on, whose end fails
abbrev pub body : SymbolTable → ℕ → Trees → List Note
body N p NoTrees = o (start false) I.Pfail ∷ []
body N p (More e es) = bounded_notes N p e ++ body N (p + bounded_size e) es

-- the code of a procedure
abbrev pub procedure : SymbolTable → Initial → Trees → List Note
procedure N NoInitial es = body N 0 es
procedure N (Initially place e) es = o (start false) (I.Init (size [] e + 3))
    ∷ o (start false) (I.Mark (size [] e + 3)) ∷ code N [] [] 2 (in_mark (start false)) e
    ++ o (more (in_mark (start false))) I.Unmark ∷ body N (size [] e + 3) es

-- the instructions without what is noted
abbrev pub instrs : List Note → List Instr
instrs [] = []
instrs (x ∷ xs) = x.instr ∷ instrs xs
