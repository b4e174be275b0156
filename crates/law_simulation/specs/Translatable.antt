-- The trees whose translation stands: names and literals are in the tables, keywords are known, operators have
-- their instructions, and `break`, `next`, `return`, `fail` and `suspend` stand where they may.
use Rattle.std.specs.Prelude.{◌≡◌, ℕ, false, List, [], ◌∷◌, Some, slice_get}
use Rattle.icn_text.specs.declared.op.Op.{Op}
use Rattle.icn_text.specs.declared.keyword.Keyword.{Keyword}
use Rattle.icn_text.specs.declared.keyword.TheConstants.Keyword.{ALL as keywords}
use Rattle.icn_tree.specs.declared.token.Operator.{Operator}
use Rattle.icn_tree.specs.declared.token.Operator.TheVariants as Signs
use Rattle.icn_tree.specs.declared.tree.Place.{Place}
use Rattle.icn_tree.specs.declared.tree.Name.{Name}
use Rattle.icn_tree.specs.declared.tree.Literal.{Literal}
use Rattle.icn_tree.specs.declared.tree.SectionKind.{SectionKind}
use Rattle.icn_tree.specs.declared.tree.Infix.TheVariants.{Plain, Augmented}
use Rattle.icn_tree.specs.declared.tree.LoopKind.TheVariants.{While, Until, Every}
use Rattle.icn_tree.specs.Trees as T
use Rattle.icn_tree.specs.Trees.{Tree, Trees, MaybeTree, Clauses, Absent, Present, NoTrees, More, Default, Guarded, NoClauses, MoreClauses, elements_of, Initial, NoInitial, Initially}
use Rattle.icn_value.specs.Values.{Val, Var, Whole}
use Rattle.icn_meaning.specs.Program.{meaning_of, index_of}
use Rattle.icn_meaning.specs.Operators.{prefix_op, infix_op, update_op}
use Rattle.icn_meaning.specs.Calls.{fields_in}
use Rattle.icn_meaning.specs.Evaluate.{literal, keyword_among, step_of}
use Rattle.icn_meaning.specs.Succeed.{default_of}
use Rattle.law_simulation.specs.Translation.{SymbolTable, Depth, LoopExits, loop_of, control_of, deeper, ways, literal_code}
use Rattle.icn_run.specs.Step.{field_index}
use Rattle.law_simulation.specs.Linkage.{Linkage, Loads}
use Rattle.law_simulation.specs.StandingCode.{Nest, top, in_create, in_mark, in_scan, in_loop, in_control, in_each, Proper, is_empty}

-- the loops that are open, as the translation counts them
abbrev pub depths : Nest → List Depth
depths top = []
depths in_create = []
depths (in_mark n) = deeper (depths n)
depths (in_scan n) = depths n
depths (in_loop l g n) = loop_of 0 0 ∷ depths n
depths (in_control l g n) = control_of 0 ∷ depths n
depths (in_each l g n) = loop_of 1 1 ∷ depths n

-- the places that `break` and `next` go to in each open loop, the innermost first
abbrev pub ways_of : Nest → List LoopExits
ways_of top = []
ways_of in_create = []
ways_of (in_mark n) = ways_of n
ways_of (in_scan n) = ways_of n
ways_of (in_loop l g n) = ways l g ∷ ways_of n
ways_of (in_control l g n) = ways l g ∷ ways_of n
ways_of (in_each l g n) = ways l g ∷ ways_of n

-- what is open around the innermost loop
abbrev pub outside : Nest → Nest
outside top = top
outside in_create = in_create
outside (in_mark n) = outside n
outside (in_scan n) = outside n
outside (in_loop l g n) = n
outside (in_control l g n) = n
outside (in_each l g n) = n

-- A loop is open that `break` may leave
pub data HasLoop : Nest → Type 0 where
  h_mark : {n : Nest} → HasLoop n → HasLoop (in_mark n)
  h_scan : {n : Nest} → HasLoop n → HasLoop (in_scan n)
  h_loop : {n : Nest} {l g : ℕ} → HasLoop (in_loop l g n)
  h_control : {n : Nest} {l g : ℕ} → HasLoop (in_control l g n)
  h_each : {n : Nest} {l g : ℕ} → HasLoop (in_each l g n)

-- A loop is open in which `next` may stand here
pub data HasNext : Nest → Type 0 where
  x_mark : {n : Nest} → HasNext n → HasNext (in_mark n)
  x_scan : {n : Nest} → HasNext n → HasNext (in_scan n)
  x_loop : {n : Nest} {l g : ℕ} → HasNext (in_loop l g n)
  x_each : {n : Nest} {l g : ℕ} → HasNext (in_each l g n)

mutual
  pub data Fits (L : Linkage) (N : SymbolTable) (j : ℕ) : Nest → Tree → Type 0 where
    fits_empty : {n : Nest} → Fits L N j n T.Empty
    fits_constant : {n : Nest} {place : Place} {v : Literal}
        → Loads L j (literal_code N v) (Val (literal v)) → Fits L N j n (T.Constant place v)
    fits_identifier : {n : Nest} {name : Name}
        → Loads L j (N.variable name.text) (Var (Whole (meaning_of L.program j name.text)))
        → Fits L N j n (T.Identifier name)
    fits_keyword : {n : Nest} {place : Place} {name : Name} {word : Keyword}
        → keyword_among name.text keywords ≡ Some word → Fits L N j n (T.Keyword place name)
    fits_last : {n : Nest} {place : Place} {e : Tree} → Fits L N j n e
        → Fits L N j n (T.Parentheses place (More e NoTrees))
    fits_before : {n : Nest} {place : Place} {d e : Tree} {es : Trees} → Fits L N j n d
        → Fits L N j n (T.Parentheses place (More e es))
        → Fits L N j n (T.Parentheses place (More d (More e es)))
    fits_final : {n : Nest} {place : Place} {e : Tree} → Fits L N j n e
        → Fits L N j n (T.Compound place (More e NoTrees))
    fits_passed : {n : Nest} {place : Place} {e : Tree} {es : Trees}
        → Fits L N j n (T.Compound place (More e es))
        → Fits L N j n (T.Compound place (More T.Empty (More e es)))
    fits_bounded : {n : Nest} {place : Place} {d e : Tree} {es : Trees} → is_empty d ≡ false
        → Fits L N j (in_mark n) d → Fits L N j n (T.Compound place (More e es))
        → Fits L N j n (T.Compound place (More d (More e es)))
    fits_listing : {n : Nest} {place : Place} {es : Trees} → FitsAll L N j n (elements_of es)
        → Fits L N j n (T.Listing place es)
    fits_call : {n : Nest} {place : Place} {f : Tree} {es : Trees} → Fits L N j n f
        → FitsAll L N j n (elements_of es) → Fits L N j n (T.Call place f es)
    fits_cocall : {n : Nest} {place : Place} {f : Tree} {es : Trees} → Fits L N j n f
        → FitsBodies L N j (elements_of es) → Fits L N j n (T.CoCall place f es)
    fits_subscript : {n : Nest} {place : Place} {x i : Tree} {is : Trees} → Fits L N j n x
        → FitsAll L N j n (More i is) → Fits L N j n (T.Subscript place x (More i is))
    fits_section : {n : Nest} {place : Place} {kind : SectionKind} {x i e : Tree} → Fits L N j n x
        → Fits L N j n i → Fits L N j n e → Fits L N j n (T.Section place kind x i e)
    fits_field : {n : Nest} {place : Place} {x : Tree} {name : Name} → Fits L N j n x
        → ((kind : ℕ) → index_of name.text (fields_in (slice_get L.program.kinds kind)) ≡ field_index
        L.tables (N.field name.text) kind) → Fits L N j n (T.Field place x name)
    fits_prefix : {n : Nest} {place : Place} {o : Operator} {op : Op} {e : Tree} → prefix_op o ≡ Some op
        → Fits L N j n e → Fits L N j n (T.Prefix place o e)
    fits_activate : {n : Nest} {place : Place} {e : Tree} → Fits L N j n e
        → Fits L N j n (T.Prefix place Signs.At e)
    fits_repeated : {n : Nest} {place : Place} {e : Tree} → Fits L N j (in_mark n) e
        → Fits L N j n (T.Prefix place Signs.Bar e)
    fits_not : {n : Nest} {place : Place} {e : Tree} → Fits L N j (in_mark n) e → Fits L N j n (T.Not place e)
    fits_both : {n : Nest} {place : Place} {a b : Tree} → Fits L N j n a → Fits L N j n b
        → Fits L N j n (T.Binary place (Plain Signs.Ampersand) a b)
    fits_scan : {n : Nest} {place : Place} {a b : Tree} → Fits L N j n a → Fits L N j (in_scan n) b
        → Fits L N j n (T.Binary place (Plain Signs.Question) a b)
    fits_or : {n : Nest} {place : Place} {a b : Tree} → Fits L N j (in_mark n) a → Fits L N j n b
        → Fits L N j n (T.Binary place (Plain Signs.Bar) a b)
    fits_limit : {n : Nest} {place : Place} {a b : Tree} → Fits L N j (in_mark n) a → Fits L N j n b
        → Fits L N j n (T.Binary place (Plain Signs.Backslash) a b)
    fits_infix : {n : Nest} {place : Place} {o : Operator} {op : Op} {a b : Tree} → infix_op o ≡ Some op
        → Fits L N j n a → Fits L N j n b → Fits L N j n (T.Binary place (Plain o) a b)
    fits_at : {n : Nest} {place : Place} {a b : Tree} → Fits L N j n a → Fits L N j n b
        → Fits L N j n (T.Binary place (Plain Signs.At) a b)
    fits_bang : {n : Nest} {place : Place} {a b : Tree} → Fits L N j n a → Fits L N j n b
        → Fits L N j n (T.Binary place (Plain Signs.Bang) a b)
    fits_update_both : {n : Nest} {place : Place} {x y : Tree} → Fits L N j n x → Fits L N j n y
        → Fits L N j n (T.Binary place (Augmented Signs.Ampersand) x y)
    fits_update_scan : {n : Nest} {place : Place} {x y : Tree} → Fits L N j n x → Fits L N j (in_scan n) y
        → Fits L N j n (T.Binary place (Augmented Signs.Question) x y)
    fits_update_at : {n : Nest} {place : Place} {x y : Tree} → Fits L N j n x → Fits L N j n y
        → Fits L N j n (T.Binary place (Augmented Signs.At) x y)
    fits_update : {n : Nest} {place : Place} {o : Operator} {op : Op} {x y : Tree} → update_op o ≡ Some op
        → Fits L N j n x → Fits L N j n y → Fits L N j n (T.Binary place (Augmented o) x y)
    fits_to : {n : Nest} {place : Place} {a b : Tree} {by : MaybeTree} → Fits L N j n a → Fits L N j n b
        → Fits L N j n (step_of place by) → Fits L N j n (T.To place a b by)
    fits_if : {n : Nest} {place : Place} {c a : Tree} → Fits L N j (in_mark n) c → Fits L N j n a
        → Fits L N j n (T.If place c a Absent)
    fits_if_else : {n : Nest} {place : Place} {c a b : Tree} → Fits L N j (in_mark n) c → Fits L N j n a
        → Fits L N j n b → Fits L N j n (T.If place c a (Present b))
    fits_case : {n : Nest} {place : Place} {e : Tree} {cases : Clauses} → Fits L N j (in_mark n) e
        → FitsCases L N j n cases → FitsDefault L N j n (default_of cases)
        → Fits L N j n (T.Case place e cases)
    fits_while : {n : Nest} {place : Place} {c : Tree} {b : MaybeTree}
        → ((l g : ℕ) → Fits L N j (in_mark (in_loop l g n)) c)
        → ((l g : ℕ) → FitsMaybe L N j (in_mark (in_loop l g n)) b) → Fits L N j n (T.Loop place While c b)
    fits_until : {n : Nest} {place : Place} {c : Tree} {b : MaybeTree}
        → ((l g : ℕ) → Fits L N j (in_mark (in_loop l g n)) c)
        → ((l g : ℕ) → FitsMaybe L N j (in_mark (in_loop l g n)) b) → Fits L N j n (T.Loop place Until c b)
    fits_every : {n : Nest} {place : Place} {c : Tree} {b : MaybeTree}
        → ((l g : ℕ) → Fits L N j (in_mark (in_control l g n)) c)
        → ((l g : ℕ) → FitsMaybe L N j (in_mark (in_each l g n)) b) → Fits L N j n (T.Loop place Every c b)
    fits_repeat : {n : Nest} {place : Place} {b : Tree}
        → ((l g : ℕ) → Fits L N j (in_mark (in_loop l g n)) b) → Fits L N j n (T.Repeat place b)
    fits_create : {n : Nest} {place : Place} {e : Tree} → Fits L N j (in_mark in_create) e
        → Fits L N j n (T.Create place e)
    fits_next : {n : Nest} {place : Place} → HasNext n → Fits L N j n (T.Next place)
    fits_fail : {n : Nest} {place : Place} → Proper n → Fits L N j n (T.Fail place)
    fits_break : {n : Nest} {place : Place} {e : Tree} → HasLoop n → Fits L N j (outside n) e
        → Fits L N j n (T.Break place e)
    fits_return : {n : Nest} {place : Place} {e : Tree} → Proper n → Fits L N j (in_mark n) e
        → Fits L N j n (T.Return place e)
    fits_suspend : {n : Nest} {place : Place} {e : Tree} {b : MaybeTree} → Proper n
        → Fits L N j (in_mark n) e → FitsMaybe L N j (in_mark (in_mark n)) b
        → Fits L N j n (T.Suspend place e b)

  pub data FitsAll (L : Linkage) (N : SymbolTable) (j : ℕ) : Nest → Trees → Type 0 where
    fits_nil : {n : Nest} → FitsAll L N j n NoTrees
    fits_cons : {n : Nest} {e : Tree} {es : Trees} → Fits L N j n e → FitsAll L N j n es
        → FitsAll L N j n (More e es)

  -- the elements of `p{ }`
  pub data FitsBodies (L : Linkage) (N : SymbolTable) (j : ℕ) : Trees → Type 0 where
    fits_no_body : FitsBodies L N j NoTrees
    fits_body : {e : Tree} {es : Trees} → Fits L N j (in_mark in_create) e → FitsBodies L N j es
        → FitsBodies L N j (More e es)

  pub data FitsMaybe (L : Linkage) (N : SymbolTable) (j : ℕ) : Nest → MaybeTree → Type 0 where
    fits_absent : {n : Nest} → FitsMaybe L N j n Absent
    fits_present : {n : Nest} {b : Tree} → Fits L N j n b → FitsMaybe L N j n (Present b)

  pub data FitsDefault (L : Linkage) (N : SymbolTable) (j : ℕ) : Nest → MaybeTree → Type 0 where
    fits_no_default : {n : Nest} → FitsDefault L N j n Absent
    fits_default : {n : Nest} {b : Tree} → Fits L N j n b → FitsDefault L N j n (Present b)

  pub data FitsCases (L : Linkage) (N : SymbolTable) (j : ℕ) : Nest → Clauses → Type 0 where
    fits_no_case : {n : Nest} → FitsCases L N j n NoClauses
    fits_other : {n : Nest} {place : Place} {e : Tree} {cases : Clauses} → FitsCases L N j n cases
        → FitsCases L N j n (MoreClauses (Default place e) cases)
    fits_guard : {n : Nest} {place : Place} {c b : Tree} {cases : Clauses} → Fits L N j (in_mark n) c
        → Fits L N j n b → FitsCases L N j n cases → FitsCases L N j n (MoreClauses (Guarded place c b) cases)

-- the expressions of a body
pub data FitsRest (L : Linkage) (N : SymbolTable) (j : ℕ) : Trees → Type 0 where
  fits_end : FitsRest L N j NoTrees
  fits_skipped : {es : Trees} → FitsRest L N j es → FitsRest L N j (More T.Empty es)
  fits_more : {e : Tree} {es : Trees} → is_empty e ≡ false → Fits L N j (in_mark top) e → FitsRest L N j es
      → FitsRest L N j (More e es)

-- a procedure
pub data FitsRoutine (L : Linkage) (N : SymbolTable) (j : ℕ) : Initial → Trees → Type 0 where
  fits_plain : {es : Trees} → FitsRest L N j es → FitsRoutine L N j NoInitial es
  fits_blank : {place : Place} {es : Trees} → FitsRest L N j es
      → FitsRoutine L N j (Initially place T.Empty) es
  fits_initial : {place : Place} {e : Tree} {es : Trees} → is_empty e ≡ false → Fits L N j (in_mark top) e
      → FitsRest L N j es → FitsRoutine L N j (Initially place e) es
