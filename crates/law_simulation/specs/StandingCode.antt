-- Where the code of a tree stands. Nothing is said of how labels were numbered.
use Rattle.std.specs.Prelude.{◌≡◌, ℕ, suc, Bool, true, false, Some, None}
use Rattle.icn_text.specs.declared.op.Op.{Op}
use Rattle.icn_text.specs.declared.op.Op.TheVariants as Ops
use Rattle.icn_text.specs.declared.keyword.Keyword.{Keyword}
use Rattle.icn_text.specs.declared.keyword.Keyword.TheVariants as Keywords
use Rattle.icn_text.specs.declared.keyword.TheConstants.Keyword.{ALL as keywords}
use Rattle.icn_tree.specs.declared.token.Operator.{Operator}
use Rattle.icn_tree.specs.declared.token.Operator.TheVariants as Signs
use Rattle.icn_tree.specs.declared.tree.Place.{Place}
use Rattle.icn_tree.specs.declared.tree.Name.{Name}
use Rattle.icn_tree.specs.declared.tree.Literal.{Literal}
use Rattle.icn_tree.specs.declared.tree.SectionKind.{SectionKind}
use Rattle.icn_tree.specs.declared.tree.Infix.TheVariants.{Plain, Augmented}
use Rattle.icn_tree.specs.declared.tree.LoopKind.TheVariants.{While, Until, Every}
use Rattle.icn_tree.specs.Trees as T
use Rattle.icn_tree.specs.Trees.{Tree, Trees, MaybeTree, Clauses, Absent, Present, NoTrees, More, Default, Guarded, NoClauses, MoreClauses, elements_of, Initial, NoInitial, Initially}
use Rattle.icn_code.specs.declared.instr.Instr.{Instr}
use Rattle.icn_code.specs.declared.instr.Instr.TheVariants as I
use Rattle.icn_value.specs.Values.{Val, Var, Whole}
use Rattle.icn_meaning.specs.Program.{meaning_of}
use Rattle.icn_meaning.specs.Contexts.{Application, Operating, Calling, Spreading, Collecting, Taking, Activating}
use Rattle.icn_meaning.specs.Operators.{prefix_op, infix_op, update_op, section_op}
use Rattle.icn_meaning.specs.Evaluate.{literal, keyword_among, creations, step_of}
use Rattle.icn_meaning.specs.Succeed.{default_of}
use Rattle.law_simulation.specs.Linkage.{Linkage, Here, Loads, IsAppliedBy, Opens}

-- What is open around a tree: it stands in a procedure or in the body of a co-expression, in marks, in
-- scans, and in loops with the places behind them and
-- of their `next`. The control expression of `every` has no `next`; its body stands in the mark of the
-- loop, which `next` keeps.
pub data Nest : Type 0 where
  top : Nest
  in_create : Nest
  in_mark : Nest → Nest
  in_scan : Nest → Nest
  in_loop : (last next : ℕ) → Nest → Nest
  in_control : (last next : ℕ) → Nest → Nest
  in_each : (last next : ℕ) → Nest → Nest

-- in a procedure, and not in the body of a co-expression
pub data Proper : Nest → Type 0 where
  w_top : Proper top
  w_mark : {n : Nest} → Proper n → Proper (in_mark n)
  w_scan : {n : Nest} → Proper n → Proper (in_scan n)
  w_loop : {n : Nest} {l j : ℕ} → Proper n → Proper (in_loop l j n)
  w_control : {n : Nest} {l j : ℕ} → Proper n → Proper (in_control l j n)
  w_each : {n : Nest} {l j : ℕ} → Proper n → Proper (in_each l j n)

-- from p to q stands an unmark for each mark that is open in the innermost loop, behind which is the place l
pub data LeavesLoop (L : Linkage) (j : ℕ) : Nest → ℕ → ℕ → Nest → ℕ → Type 0 where
  b_mark : {n n' : Nest} {p q l : ℕ} → Here L j p I.Unmark → LeavesLoop L j n (suc p) q n' l
      → LeavesLoop L j (in_mark n) p q n' l
  b_scan : {n n' : Nest} {p q l : ℕ} → LeavesLoop L j n p q n' l → LeavesLoop L j (in_scan n) p q n' l
  b_loop : {n : Nest} {p l g : ℕ} → LeavesLoop L j (in_loop l g n) p p n l
  b_control : {n : Nest} {p l g : ℕ} → LeavesLoop L j (in_control l g n) p p n l
  b_each : {n : Nest} {p l g : ℕ} → Here L j p I.Unmark → LeavesLoop L j (in_each l g n) p (suc p) n l

-- the same for `next`, whose place is g
pub data Nexts (L : Linkage) (j : ℕ) : Nest → ℕ → ℕ → ℕ → Type 0 where
  n_mark : {n : Nest} {p q g : ℕ} → Here L j p I.Unmark → Nexts L j n (suc p) q g
      → Nexts L j (in_mark n) p q g
  n_scan : {n : Nest} {p q g : ℕ} → Nexts L j n p q g → Nexts L j (in_scan n) p q g
  n_loop : {n : Nest} {p l g : ℕ} → Nexts L j (in_loop l g n) p p g
  n_each : {n : Nest} {p l g : ℕ} → Nexts L j (in_each l g n) p p g

-- the empty expression
abbrev pub is_empty : Tree → Bool
is_empty T.Empty = true
is_empty e = false

-- the tree is the form applied to these operands
pub data IsApplied : Tree → Application → Trees → Type 0 where
  i_listing : {place : Place} {es : Trees} → IsApplied (T.Listing place es) Collecting (elements_of es)
  i_call : {place : Place} {f : Tree} {es : Trees}
      → IsApplied (T.Call place f es) Calling (More f (elements_of es))
  i_cocall : {place : Place} {f : Tree} {es : Trees}
      → IsApplied (T.CoCall place f es) Calling
      (More f (More (T.Listing place (creations place (elements_of es))) NoTrees))
  i_subscript : {place : Place} {x i : Tree}
      → IsApplied (T.Subscript place x (More i NoTrees)) (Operating Ops.Subscript) (More x (More i NoTrees))
  i_subscripts : {place : Place} {x i e : Tree} {is es : Trees} {form : Application}
      → IsApplied (T.Subscript place (T.Subscript place x (More i NoTrees)) (More e is)) form es
      → IsApplied (T.Subscript place x (More i (More e is))) form es
  i_section : {place : Place} {kind : SectionKind} {x i e : Tree}
      → IsApplied (T.Section place kind x i e) (Operating (section_op kind))
      (More x (More i (More e NoTrees)))
  i_field : {place : Place} {x : Tree} {name : Name}
      → IsApplied (T.Field place x name) (Taking name.text) (More x NoTrees)
  i_prefix : {place : Place} {o : Operator} {op : Op} {e : Tree} → prefix_op o ≡ Some op
      → IsApplied (T.Prefix place o e) (Operating op) (More e NoTrees)
  i_activate : {place : Place} {e : Tree}
      → IsApplied (T.Prefix place Signs.At e) Activating (More T.Empty (More e NoTrees))
  i_infix : {place : Place} {o : Operator} {op : Op} {a b : Tree} → infix_op o ≡ Some op
      → IsApplied (T.Binary place (Plain o) a b) (Operating op) (More a (More b NoTrees))
  i_at : {place : Place} {a b : Tree}
      → IsApplied (T.Binary place (Plain Signs.At) a b) Activating (More a (More b NoTrees))
  i_bang : {place : Place} {a b : Tree}
      → IsApplied (T.Binary place (Plain Signs.Bang) a b) Spreading (More a (More b NoTrees))
  i_to : {place : Place} {a b : Tree} {by : MaybeTree}
      → IsApplied (T.To place a b by) (Operating Ops.ToBy) (More a (More b (More (step_of place by) NoTrees)))

-- what `op:=` applies before it assigns
pub data Updating : Operator → Application → Type 0 where
  d_activate : Updating Signs.At Activating
  d_operate : {o : Operator} {op : Op} → update_op o ≡ Some op → Updating o (Operating op)

-- how many trees there are
abbrev pub tree_count : Trees → ℕ
tree_count NoTrees = 0
tree_count (More e es) = suc (tree_count es)

mutual
  -- the instructions of a tree stand from p up to q, in the code of the procedure j
  pub data Stands (L : Linkage) (j : ℕ) : Nest → Tree → ℕ → ℕ → Type 0 where
    s_empty : {n : Nest} {p : ℕ} → Here L j p I.Pnull → Stands L j n T.Empty p (suc p)
    s_constant : {n : Nest} {place : Place} {v : Literal} {i : Instr} {p : ℕ} → Here L j p i
        → Loads L j i (Val (literal v)) → Stands L j n (T.Constant place v) p (suc p)
    s_identifier : {n : Nest} {name : Name} {i : Instr} {p : ℕ} → Here L j p i
        → Loads L j i (Var (Whole (meaning_of L.program j name.text)))
        → Stands L j n (T.Identifier name) p (suc p)
    s_keyword : {n : Nest} {place : Place} {name : Name} {word : Keyword} {p : ℕ}
        → keyword_among name.text keywords ≡ Some word → Here L j p (I.Keywd word)
        → Stands L j n (T.Keyword place name) p (suc p)
    s_fail_keyword : {n : Nest} {place : Place} {name : Name} {p : ℕ}
        → keyword_among name.text keywords ≡ Some Keywords.Fail → Here L j p I.Efail
        → Stands L j n (T.Keyword place name) p (suc p)
    s_applied : {n : Nest} {e : Tree} {form : Application} {es : Trees} {i : Instr} {p q : ℕ}
        → IsApplied e form es
        → StandsAll L j n es p q → Here L j q i → IsAppliedBy L form (tree_count es) i
        → Stands L j n e p (suc q)
    s_last : {n : Nest} {place : Place} {e : Tree} {p q : ℕ} → Stands L j n e p q
        → Stands L j n (T.Parentheses place (More e NoTrees)) p q
    s_before : {n : Nest} {place : Place} {d e : Tree} {es : Trees} {p q l : ℕ} → Stands L j n d p q
        → Here L j q I.Pop → Stands L j n (T.Parentheses place (More e es)) (suc q) l
        → Stands L j n (T.Parentheses place (More d (More e es))) p l
    s_final : {n : Nest} {place : Place} {e : Tree} {p q : ℕ} → Stands L j n e p q
        → Stands L j n (T.Compound place (More e NoTrees)) p q
    s_passed : {n : Nest} {place : Place} {e : Tree} {es : Trees} {p q : ℕ}
        → Stands L j n (T.Compound place (More e es)) p q
        → Stands L j n (T.Compound place (More T.Empty (More e es))) p q
    s_bounded : {n : Nest} {place : Place} {d e : Tree} {es : Trees} {p q l : ℕ} → is_empty d ≡ false
        → Opens L j p (Some (suc q)) → Stands L j (in_mark n) d (suc p) q → Here L j q I.Unmark
        → Stands L j n (T.Compound place (More e es)) (suc q) l
        → Stands L j n (T.Compound place (More d (More e es))) p l
    s_repeated : {n : Nest} {place : Place} {e : Tree} {p q : ℕ} → Here L j p I.Mark0 → L.repeats j p ≡ true
        → Stands L j (in_mark n) e (suc p) q → Here L j q (I.Chfail p) → Here L j (suc q) I.Esusp
        → Stands L j n (T.Prefix place Signs.Bar e) p (suc (suc q))
    s_not : {n : Nest} {place : Place} {e : Tree} {p q : ℕ} → Opens L j p (Some (suc (suc q)))
        → Stands L j (in_mark n) e (suc p) q → Here L j q I.Unmark → Here L j (suc q) I.Efail
        → Here L j (suc (suc q)) I.Pnull → Stands L j n (T.Not place e) p (suc (suc (suc q)))
    s_both : {n : Nest} {place : Place} {a b : Tree} {p q l : ℕ} → Stands L j n a p q → Here L j q I.Pop
        → Stands L j n b (suc q) l → Stands L j n (T.Binary place (Plain Signs.Ampersand) a b) p l
    s_scan : {n : Nest} {place : Place} {a b : Tree} {p q l : ℕ} → Stands L j n a p q → Here L j q I.Bscan
        → Stands L j (in_scan n) b (suc q) l → Here L j l I.Escan
        → Stands L j n (T.Binary place (Plain Signs.Question) a b) p (suc l)
    s_or : {n : Nest} {place : Place} {a b : Tree} {p q l m : ℕ} → Opens L j p (Some m)
        → Stands L j (in_mark n) a (suc p) q → Here L j q I.Esusp → Here L j (suc q) (I.Goto l)
        → Stands L j n b m l → Stands L j n (T.Binary place (Plain Signs.Bar) a b) p l
    s_limit : {n : Nest} {place : Place} {a b : Tree} {p q l : ℕ} → Stands L j n b p q → Here L j q I.Limit
        → Stands L j (in_mark n) a (suc q) l → Here L j l I.Lsusp
        → Stands L j n (T.Binary place (Plain Signs.Backslash) a b) p (suc l)
    s_update_both : {n : Nest} {place : Place} {x y : Tree} {p q l : ℕ} → Stands L j n x p q
        → Stands L j n y q l → Here L j l (I.Op Ops.Assign)
        → Stands L j n (T.Binary place (Augmented Signs.Ampersand) x y) p (suc l)
    s_update_scan : {n : Nest} {place : Place} {x y : Tree} {p q l : ℕ} → Stands L j n x p q
        → Here L j q I.Dup → Here L j (suc q) I.Bscan → Stands L j (in_scan n) y (suc (suc q)) l
        → Here L j l I.Escan → Here L j (suc l) (I.Op Ops.Assign)
        → Stands L j n (T.Binary place (Augmented Signs.Question) x y) p (suc (suc l))
    s_update : {n : Nest} {place : Place} {o : Operator} {form : Application} {i : Instr} {x y : Tree}
        {p q l : ℕ}
        → Updating o form → Stands L j n x p q → Here L j q I.Dup → Stands L j n y (suc q) l → Here L j l i
        → IsAppliedBy L form 2 i → Here L j (suc l) (I.Op Ops.Assign)
        → Stands L j n (T.Binary place (Augmented o) x y) p (suc (suc l))
    s_if : {n : Nest} {place : Place} {c a : Tree} {p q l : ℕ} → Opens L j p None
        → Stands L j (in_mark n) c (suc p) q → Here L j q I.Unmark → Stands L j n a (suc q) l
        → Stands L j n (T.If place c a Absent) p l
    s_if_else : {n : Nest} {place : Place} {c a b : Tree} {p q l g m : ℕ} → Opens L j p (Some m)
        → Stands L j (in_mark n) c (suc p) q → Here L j q I.Unmark → Stands L j n a (suc q) g
        → Here L j g (I.Goto l) → Stands L j n b m l → Stands L j n (T.If place c a (Present b)) p l
    s_case : {n : Nest} {place : Place} {e : Tree} {cases : Clauses} {p q l : ℕ} → Opens L j p None
        → Stands L j (in_mark n) e (suc p) q → Here L j q I.Eret
        → StandsCases L j n cases (default_of cases) (suc q) l → Stands L j n (T.Case place e cases) p l
    s_while : {n : Nest} {place : Place} {c : Tree} {b : MaybeTree} {p q l last : ℕ} → Opens L j p None
        → Stands L j (in_mark (in_loop last l n)) c (suc p) q → Here L j q I.Unmark
        → StandsMaybe L j (in_loop last l n) b (suc q) l → Here L j l (I.Loop p)
        → Stands L j n (T.Loop place While c b) p last
    s_until : {n : Nest} {place : Place} {c : Tree} {b : MaybeTree} {p q l last : ℕ}
        → Opens L j p (Some (suc (suc q))) → Stands L j (in_mark (in_loop last l n)) c (suc p) q
        → Here L j q I.Unmark → Here L j (suc q) I.Efail
        → StandsMaybe L j (in_loop last l n) b (suc (suc q)) l → Here L j l (I.Loop p)
        → Stands L j n (T.Loop place Until c b) p last
    s_every : {n : Nest} {place : Place} {e : Tree} {b : MaybeTree} {p q l last : ℕ} → Opens L j p None
        → Stands L j (in_mark (in_control last l n)) e (suc p) q → Here L j q I.Pop
        → StandsMaybe L j (in_each last l n) b (suc q) l → Here L j l I.Efail
        → Stands L j n (T.Loop place Every e b) p last
    s_repeat : {n : Nest} {place : Place} {b : Tree} {p l last : ℕ}
        → StandsMaybe L j (in_loop last l n) (Present b) p l → Here L j l (I.Loop p)
        → Stands L j n (T.Repeat place b) p last
    s_create : {n : Nest} {place : Place} {e : Tree} {p q : ℕ} → Here L j p (I.Create q)
        → StandsCreate L j e (suc p) q → Stands L j n (T.Create place e) p q
    s_next : {n : Nest} {place : Place} {p q g : ℕ} → Nexts L j n p q g → Here L j q (I.Goto g)
        → Stands L j n (T.Next place) p (suc q)
    s_fail : {n : Nest} {place : Place} {p : ℕ} → Proper n → Here L j p I.Pfail
        → Stands L j n (T.Fail place) p (suc p)
    s_break : {n n' : Nest} {place : Place} {e : Tree} {p q m l : ℕ} → LeavesLoop L j n p q n' l
        → Stands L j n' e q m → Here L j m (I.Goto l) → Stands L j n (T.Break place e) p (suc m)
    s_return : {n : Nest} {place : Place} {e : Tree} {p q : ℕ} → Proper n → Opens L j p (Some (suc q))
        → Stands L j (in_mark n) e (suc p) q → Here L j q I.Pret → Here L j (suc q) I.Pfail
        → Stands L j n (T.Return place e) p (suc (suc q))
    s_suspend : {n : Nest} {place : Place} {e : Tree} {b : MaybeTree} {p q l : ℕ} → Proper n
        → Opens L j p None → Stands L j (in_mark n) e (suc p) q → Here L j q I.Psusp
        → Here L j (suc q) I.Pop → StandsMaybe L j (in_mark n) b (suc (suc q)) l → Here L j l I.Efail
        → Stands L j n (T.Suspend place e b) p (suc l)

  -- operands, one behind the other
  pub data StandsAll (L : Linkage) (j : ℕ) : Nest → Trees → ℕ → ℕ → Type 0 where
    s_nil : {n : Nest} {p : ℕ} → StandsAll L j n NoTrees p p
    s_cons : {n : Nest} {e : Tree} {es : Trees} {p q l : ℕ} → Stands L j n e p q → StandsAll L j n es q l
        → StandsAll L j n (More e es) p l

  -- a body that is bounded, behind which the code goes on if it fails too; or none
  pub data StandsMaybe (L : Linkage) (j : ℕ) : Nest → MaybeTree → ℕ → ℕ → Type 0 where
    s_absent : {n : Nest} {p : ℕ} → StandsMaybe L j n Absent p p
    s_present : {n : Nest} {b : Tree} {p q : ℕ} → Opens L j p (Some (suc q))
        → Stands L j (in_mark n) b (suc p) q → Here L j q I.Unmark → StandsMaybe L j n (Present b) p (suc q)

  -- clauses, and behind them the default; behind all that is the place l
  pub data StandsCases (L : Linkage) (j : ℕ) : Nest → Clauses → MaybeTree → ℕ → ℕ → Type 0 where
    s_none : {n : Nest} {p l : ℕ} → Here L j p I.Pop → Here L j (suc p) I.Efail
        → StandsCases L j n NoClauses Absent p l
    s_default : {n : Nest} {e : Tree} {p l : ℕ} → Here L j p I.Pop → Stands L j n e (suc p) l
        → StandsCases L j n NoClauses (Present e) p l
    s_pass : {n : Nest} {place : Place} {e : Tree} {cases : Clauses} {default : MaybeTree} {p l : ℕ}
        → StandsCases L j n cases default p l
        → StandsCases L j n (MoreClauses (Default place e) cases) default p l
    s_guard : {n : Nest} {place : Place} {c b : Tree} {cases : Clauses} {default : MaybeTree}
        {p q g l m : ℕ} → Opens L j p (Some m) → Here L j (suc p) I.Ccase
        → Stands L j (in_mark n) c (suc (suc p)) q → Here L j q (I.Op Ops.Equivalent)
        → Here L j (suc q) I.Unmark → Here L j (suc (suc q)) I.Pop → Stands L j n b (suc (suc (suc q))) g
        → Here L j g (I.Goto l) → StandsCases L j n cases default m l
        → StandsCases L j n (MoreClauses (Guarded place c b) cases) default p l

  -- the body of a co-expression
  pub data StandsCreate (L : Linkage) (j : ℕ) : Tree → ℕ → ℕ → Type 0 where
    s_body : {e : Tree} {p q : ℕ} → Opens L j p (Some (suc (suc q)))
        → Stands L j (in_mark in_create) e (suc p) q → Here L j q I.Coret → Here L j (suc q) I.Efail
        → Here L j (suc (suc q)) I.Cofail → StandsCreate L j e p (suc (suc (suc q)))

-- The expressions of a body that are left. An empty one has no code, or, as `initial`, some that does
-- nothing.
pub data StandsRest (L : Linkage) (j : ℕ) : Trees → ℕ → Type 0 where
  e_end : {p : ℕ} → Here L j p I.Pfail → StandsRest L j NoTrees p
  e_passed : {es : Trees} {p : ℕ} → StandsRest L j es p → StandsRest L j (More T.Empty es) p
  e_blank : {es : Trees} {p m : ℕ} → Opens L j p (Some m) → Here L j (suc p) I.Pnull
      → Here L j (suc (suc p)) I.Unmark → StandsRest L j es (suc (suc (suc p)))
      → StandsRest L j (More T.Empty es) p
  e_bounded : {e : Tree} {es : Trees} {p q : ℕ} → is_empty e ≡ false → Opens L j p (Some (suc q))
      → Stands L j (in_mark top) e (suc p) q → Here L j q I.Unmark → StandsRest L j es (suc q)
      → StandsRest L j (More e es) p

-- the code of a procedure
pub data StandsRoutine (L : Linkage) (j : ℕ) : Initial → Trees → Type 0 where
  e_plain : {es : Trees} → StandsRest L j es 0 → StandsRoutine L j NoInitial es
  e_initial : {place : Place} {e : Tree} {es : Trees} {l : ℕ} → Here L j 0 (I.Init l)
      → StandsRest L j (More e es) 1 → StandsRest L j es l → StandsRoutine L j (Initially place e) es
