-- What is kept from a draft to one that goes on from it, by rules for what forms are made of, and chains of such steps.
use Rattle.std.specs.Prelude.{◌≡◌, Bool, true, ℕ, suc, List, [], ◌∷◌, Option, None, Some}
use Rattle.icn_unit.specs.declared.unit.UnitInstr.{UnitInstr}
use Rattle.icn_unit.specs.declared.unit.UnitInstr.TheVariants as I
use Rattle.icn_unit.specs.UnitRules.{label_in, own_label}
use Rattle.icn_translate.specs.declared.builder.LoopLabels.{LoopLabels}
use Rattle.icn_translate.specs.Drafts.{Draft, put, next_label, with_label, put_variable, no_ways, in_loop, outside_loop, innermost, put_next, put_last, in_case, outside_case, put_end}
use Rattle.icn_unit.specs.UnitOperands.{is_name}
use Rattle.icn_translate.specs.Translation.{loop_end}
use Rattle.icn_units.specs.Written.{operand_fits}

-- the place of the name whose variable an instruction pushes
abbrev pub variable_in : UnitInstr → Option ℕ
variable_in (I.Var k) = Some k
variable_in i = None

-- an instruction that goes to a label, and is no place of one
pub record GoesTo (n : ℕ) (i : UnitInstr) : Type 0 where
  pub label : label_in i ≡ Some n
  pub place : own_label i ≡ None
  pub variable : variable_in i ≡ None
  pub operand : (passes : List ℕ → Bool) → operand_fits passes i ≡ true

-- an instruction without a label, and of no name
pub record IsPlain (i : UnitInstr) : Type 0 where
  pub label : label_in i ≡ None
  pub place : own_label i ≡ None
  pub variable : variable_in i ≡ None

-- a test that passes, where it is asked
abbrev pub Told : Bool → Bool → Type 0
Told asked test = asked ≡ true → test ≡ true

-- What is kept, and why each step of a form keeps it. Of labels that have a number and no place yet the newest stands first.
pub record Keeps : Type 1 where
  -- whether it asks for what the names and the literals of trees keep, and with it the test of texts
  pub asks : Bool
  pub passes : List ℕ → Bool
  pub Leads : Draft → Draft → List ℕ → Type 0
  -- so many loops are open; a case is open; an instruction may stand there
  pub Inside : ℕ → Draft → Type 0
  pub InCase : Draft → Type 0
  pub May : Draft → UnitInstr → Type 0
  pub none : (d : Draft) → Leads d d []
  pub joined : (d e f : Draft) (ns : List ℕ) → Leads d e ns → Leads e f [] → Leads d f ns
  pub plain : (d : Draft) (i : UnitInstr) → IsPlain i → Told asks (operand_fits passes i) → May d i
  pub fresh : (d : Draft) (i : UnitInstr) → GoesTo (next_label d) i → May (with_label d) i
  pub may_later : (d e : Draft) (ns : List ℕ) (i : UnitInstr) → Leads d e ns → May d i → May e i
  pub may_behind : (d : Draft) (i j : UnitInstr) → May d i → May (put j d) i
  pub may_inside : (d : Draft) (w : LoopLabels) (i : UnitInstr) → May d i → May (in_loop w d) i
  pub numbered : (d e : Draft) (ns : List ℕ) → Leads d e ns → Leads d (with_label e) (next_label e ∷ ns)
  pub instr : (d e : Draft) (ns : List ℕ) (i : UnitInstr) → May e i → Leads d e ns → Leads d (put i e) ns
  pub place : (d e : Draft) (n : ℕ) (ns : List ℕ) → Leads d e (n ∷ ns) → Leads d (put (I.Lab n) e) ns
  pub second_place : (d e : Draft) (m n : ℕ) (ns : List ℕ) → Leads d e (m ∷ n ∷ ns)
      → Leads d (put (I.Lab n) e) (m ∷ ns)
  pub variable : (d e : Draft) (ns : List ℕ) (name : List ℕ) → Told asks (is_name name) → Leads d e ns
      → Leads d (put_variable name e) ns
  pub inside_none : (d : Draft) → Inside 0 d
  pub inside_later : (d e : Draft) (ns : List ℕ) (n : ℕ) → Leads d e ns → Inside n d → Inside n e
  pub inside_loop : (d : Draft) (w : LoopLabels) (n : ℕ) → Inside n d → Inside (suc n) (in_loop w d)
  pub inside_case : (d : Draft) (end : Option ℕ) (n : ℕ) → Inside n d → Inside n (in_case end d)
  pub inside_outer : (d : Draft) (n : ℕ) → Inside (suc n) d → Inside n (outside_loop d)
  pub next_mark : (d e : Draft) (ns : List ℕ) (n : ℕ) → Inside (suc n) e → Leads d e ns
      → Leads d (put_next I.Mark e) ns
  pub next_goto : (d e : Draft) (ns : List ℕ) (n : ℕ) → Inside (suc n) e → Leads d e ns
      → Leads d (put_next I.Goto e) ns
  pub last_goto : (d e : Draft) (ns : List ℕ) (n : ℕ) → Inside (suc n) e → Leads d e ns
      → Leads d (put_last I.Goto e) ns
  pub aside_loop : (d e f : Draft) (ns : List ℕ) (n : ℕ) → Inside (suc n) e → Leads d e ns
      → Leads (outside_loop e) f []
      → Leads d (in_loop (innermost e) f) ns
  pub loop : (d e f : Draft) (ns : List ℕ) (i : UnitInstr) → Leads d e ns → Leads (in_loop no_ways e) f []
      → May f i
      → Leads d (loop_end i f) ns
  pub case_begins : (d : Draft) (end : Option ℕ) → InCase (in_case end d)
  pub case_later : (d e : Draft) (ns : List ℕ) → Leads d e ns → InCase d → InCase e
  pub end_goto : (d e : Draft) (ns : List ℕ) → InCase e → Leads d e ns → Leads d (put_end I.Goto e) ns
  pub case : (d e f : Draft) (ns : List ℕ) → Leads d e ns → Leads (in_case None e) f []
      → Leads d (outside_case (put_end I.Lab f)) ns

-- A step that keeps it wherever so many loops are open.
pub record Runs (K : Keeps) (n : ℕ) (step : Draft → Draft) : Type 0 where
  pub run : (d : Draft) → K.Inside n d → K.Leads d (step d) []

-- A chain of steps from a draft in so many loops.
pub record Chain (K : Keeps) (n : ℕ) (d e : Draft) (ns : List ℕ) : Type 0 where
  pub leads : K.Leads d e ns
  pub inside : K.Inside n d

-- a chain, and what goes on from it
infixl 10 ◌▸◌
abbrev pub ◌▸◌ : {A B : Type 0} → A → (A → B) → B
a ▸ f = f a

pub here : {K : Keeps} {n : ℕ} {d e : Draft} {ns : List ℕ} → Chain K n d e ns → K.Inside n e
here {K = K} {n = n} {d = d} {e = e} {ns = ns} c = K.inside_later d e ns n c.leads c.inside

pub chain_step : {K : Keeps} {n : ℕ} {step : Draft → Draft} → Runs K n step → {d e : Draft} {ns : List ℕ} → Chain K n d e ns
    → Chain K n d (step e) ns
chain_step {K = K} {step = step} r {d = d} {e = e} {ns = ns} c =
    record { leads = K.joined d e (step e) ns c.leads (r.run e (here c)); inside = c.inside }

pub chain_plain : {K : Keeps} {n : ℕ} (i : UnitInstr) → label_in i ≡ None → own_label i ≡ None → variable_in i ≡ None
    → Told K.asks (operand_fits K.passes i) → {d e : Draft} {ns : List ℕ} → Chain K n d e ns → Chain K n d (put i e) ns
chain_plain {K = K} i l p v w {d = d} {e = e} {ns = ns} c =
    let plain : IsPlain i = record { label = l; place = p; variable = v } in
    record { leads = K.instr d e ns i (K.plain e i plain w) c.leads; inside = c.inside }

pub label : {K : Keeps} {n : ℕ} {d e : Draft} {ns : List ℕ} → Chain K n d e ns
    → Chain K n d (with_label e) (next_label e ∷ ns)
label {K = K} {d = d} {e = e} {ns = ns} c = record { leads = K.numbered d e ns c.leads; inside = c.inside }

-- a new label, and an instruction that goes to it
pub labelled : {K : Keeps} {n : ℕ} (word : ℕ → UnitInstr) → ((l : ℕ) → GoesTo l (word l))
    → {d e : Draft} {ns : List ℕ}
    → Chain K n d e ns → Chain K n d (put (word (next_label e)) (with_label e)) (next_label e ∷ ns)
labelled {K = K} word goes {d = d} {e = e} {ns = ns} c =
    let i = word (next_label e) in
    let leads = K.instr d (with_label e) (next_label e ∷ ns) i (K.fresh e i (goes (next_label e)))
    (K.numbered d e ns c.leads) in
    record { leads = leads; inside = c.inside }

pub placed : {K : Keeps} {n : ℕ} {d e : Draft} {m : ℕ} {ns : List ℕ} → Chain K n d e (m ∷ ns)
    → Chain K n d (put (I.Lab m) e) ns
placed {K = K} {d = d} {e = e} {m = m} {ns = ns} c = record { leads = K.place d e m ns c.leads; inside = c.inside }

pub second_placed : {K : Keeps} {n : ℕ} {d e : Draft} {m l : ℕ} {ns : List ℕ} → Chain K n d e (m ∷ l ∷ ns)
    → Chain K n d (put (I.Lab l) e) (m ∷ ns)
second_placed {K = K} {d = d} {e = e} {m = m} {l = l} {ns = ns} c =
    record { leads = K.second_place d e m l ns c.leads; inside = c.inside }

-- in fewer loops
pub outer_runs : {K : Keeps} {n : ℕ} {step : Draft → Draft} → Runs K 0 step → Runs K n step
outer_runs {K = K} r = record { run = λ d h. r.run d (K.inside_none d) }
