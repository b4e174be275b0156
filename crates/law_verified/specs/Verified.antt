-- What the verifier asks of an instruction at a place with a shape, by what holds at the places to which it leads.
use Rattle.std.specs.Prelude.{◌≡◌, ℕ, suc, ◌-◌, ◌<◌, ◌≤◌, Bool, true, false, List, [], ◌∷◌}
use Rattle.icn_text.specs.declared.op.Op.{Op}
use Rattle.icn_code.specs.declared.instr.Instr.{Instr}
use Rattle.icn_code.specs.declared.instr.Instr.TheVariants as I
use Rattle.icn_defs.specs.Arities.{arity}
use Rattle.law_simulation.specs.Translation.{Depth, LoopExits, depth_of, ways}
use Rattle.law_verified.specs.Noted.{Limited, NotedLevel, NotedShape, Note, start, more, many, with_scan, within, in_mark}

-- the shape with a level inside it
abbrev pub inside : NotedLevel → NotedShape → NotedShape
inside k s = record { in_create = s.in_create; inner = k; outer = s.inner ∷ s.outer }

-- pushes one operand
pub data Pushes : Instr → Type 0 where
  u_null : Pushes I.Pnull
  u_int : {k : ℕ} → Pushes (I.Int k)
  u_str : {k : ℕ} → Pushes (I.Str k)
  u_cset : {k : ℕ} → Pushes (I.Cset k)
  u_local : {k : ℕ} → Pushes (I.Local k)
  u_static : {k : ℕ} → Pushes (I.Static k)
  u_global : {k : ℕ} → Pushes (I.Global k)
  u_keyword : {k : _} → Pushes (I.Keywd k)

-- takes so many operands and leaves one
pub data TakesOperands : Instr → ℕ → Type 0 where
  t_op : {op : Op} → TakesOperands (I.Op op) (arity op)
  t_list : {n : ℕ} → TakesOperands (I.Llist n) n
  t_field : {k : ℕ} → TakesOperands (I.Field k) 1
  t_invoke : {n : ℕ} → TakesOperands (I.Invoke n) (suc n)
  t_appl : TakesOperands I.Appl 2
  t_coact : TakesOperands I.Coact 2

-- At p s: the place p has the shape s
pub data Fine (At : ℕ → NotedShape → Type 0) : ℕ → Instr → NotedShape → Type 0 where
  f_push : {p : ℕ} {i : Instr} (s : NotedShape) → Pushes i → At (suc p) (more s) → Fine At p i s
  f_pop : {p : ℕ} (s : NotedShape) → At (suc p) s → Fine At p I.Pop (more s)
  f_dup : {p : ℕ} (s : NotedShape) → At (suc p) (more (more s)) → Fine At p I.Dup (more s)
  f_takes : {p : ℕ} {i : Instr} (n : ℕ) (s : NotedShape) → TakesOperands i n → At (suc p) (more s)
      → Fine At p i (many n s)
  f_mark : {p l : ℕ} (s : NotedShape) → At (suc p) (in_mark s) → At l s → p < l → Fine At p (I.Mark l) s
  f_mark0 : {p : ℕ} (s : NotedShape) → At (suc p) (in_mark s) → Fine At p I.Mark0 s
  f_unmark : {p : ℕ} (k : NotedLevel) (s : NotedShape) → At (suc p) s → Fine At p I.Unmark (inside k s)
  f_eret : {p : ℕ} (s : NotedShape) → At (suc p) (more s) → Fine At p I.Eret (more (in_mark s))
  f_esusp : {p : ℕ} (s : NotedShape) → At (suc p) (more s) → Fine At p I.Esusp (more (in_mark s))
  f_limit : {p : ℕ} (s : NotedShape) → At (suc p) (within Limited s) → Fine At p I.Limit (more s)
  f_lsusp : {p : ℕ} (s : NotedShape) → At (suc p) (more s) → Fine At p I.Lsusp (more (within Limited s))
  f_efail : {p : ℕ} (s : NotedShape) → Fine At p I.Efail s
  f_chfail : {p l : ℕ} (s : NotedShape) → At (suc p) (more (in_mark s)) → At l s → l ≤ p
      → Fine At p (I.Chfail l) (more (in_mark s))
  f_goto : {p l : ℕ} (s : NotedShape) → At l s → p < l → Fine At p (I.Goto l) s
  f_loop : {p l : ℕ} (s : NotedShape) → At l s → l ≤ p → Fine At p (I.Loop l) s
  f_bscan : {p : ℕ} (s : NotedShape) → At (suc p) (with_scan s) → Fine At p I.Bscan (more s)
  f_escan : {p : ℕ} (s : NotedShape) → At (suc p) (more s) → Fine At p I.Escan (more (with_scan s))
  f_ccase : {p : ℕ} (s : NotedShape) → At (suc p) (more (in_mark (more s)))
      → Fine At p I.Ccase (in_mark (more s))
  f_init : {p l : ℕ} (s : NotedShape) → s.in_create ≡ false → At (suc p) s → At l s → p < l
      → Fine At p (I.Init l) s
  f_psusp : {p : ℕ} (s : NotedShape) → s.in_create ≡ false → At (suc p) (more s) → Fine At p I.Psusp (more s)
  f_pret : {p : ℕ} (s : NotedShape) → s.in_create ≡ false → Fine At p I.Pret (more s)
  f_pfail : {p : ℕ} (s : NotedShape) → s.in_create ≡ false → Fine At p I.Pfail s
  f_create : {p l : ℕ} (s : NotedShape) → At (suc p) (start true) → At l (more s) → p < l
      → Fine At p (I.Create l) s
  f_coret : {p : ℕ} (s : NotedShape) → s.in_create ≡ true → At (suc p) (more s) → Fine At p I.Coret (more s)
  f_cofail : {p : ℕ} (s : NotedShape) → s.in_create ≡ true → Fine At p I.Cofail s

-- the first shape has so many levels inside the second
pub data Drop : ℕ → NotedShape → NotedShape → Type 0 where
  d_zero : {s : NotedShape} → Drop 0 s s
  d_suc : {m : ℕ} {s t : NotedShape} (k : NotedLevel) → Drop m s t → Drop (suc m) (inside k s) t

-- where `next` leads, if it may stand there
pub data NextTo (At : ℕ → NotedShape → Type 0) : Bool → (m k : ℕ) → NotedShape → ℕ → Type 0 where
  n_no : {m k g : ℕ} {s : NotedShape} → NextTo At false m k s g
  n_yes : {m k g : ℕ} {s t : NotedShape} → k ≤ m → Drop (suc (m - k)) s t → At g t → NextTo At true m k s g

-- the shape where a tree stands that ends before the place r, in these loops: their places of `break` have the shape of the loop with an operand more
pub data Ctx (At : ℕ → NotedShape → Type 0) (r : ℕ) : List Depth → List LoopExits → List Bool → Bool
    → NotedShape
    → Type 0 where
  c_proper : (s : NotedShape) → s.in_create ≡ false → Ctx At r [] [] [] true s
  c_create : (s : NotedShape) → s.in_create ≡ true → Ctx At r [] [] [] false s
  c_loop : {m k l g : ℕ} {D : List Depth} {W : List LoopExits} {b : Bool} {B : List Bool} {c : Bool}
      {s t : NotedShape}
      → Drop (suc m) s t → r ≤ l → r ≤ g → At l (more t) → NextTo At b m k s g → Ctx At r D W B c t
      → Ctx At r (depth_of (suc m) k b ∷ D) (ways l g ∷ W) (b ∷ B) c s

-- each place from here has the shape that is noted
abbrev pub Has : (ℕ → NotedShape → Type 0) → ℕ → List Note → Type 0
Has At p [] = Unit {0}
Has At p (x ∷ xs) = At p x.shape × Has At (suc p) xs

-- each instruction from here is fine
abbrev pub AllFine : (ℕ → NotedShape → Type 0) → ℕ → List Note → Type 0
AllFine At p [] = Unit {0}
AllFine At p (x ∷ xs) = Fine At p x.instr x.shape × AllFine At (suc p) xs
