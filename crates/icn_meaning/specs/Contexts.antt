-- Where an evaluation stands: what is to be done with a result, what is to be done where something fails, and what is open around.
--
-- A variable that is a local has its place in the activation at hand, and not the number of that activation. Nothing is lost by that, since such a
-- variable is only met in the activation that made it. What a procedure returns or suspends, what a co-expression gives or is sent, the arguments of a
-- call, and all that is stored are dereferenced first, and nothing else passes from one activation to another. So each work and each choice that
-- dereferences, applies or resumes has the number of its activation, alone or in its surroundings, and looks in the locals of that one.
use Rattle.std.specs.Prelude.{ℕ, Bool, List}
use Rattle.icn_text.specs.declared.op.Op.{Op}
use Rattle.icn_tree.specs.declared.token.Operator.{Operator}
use Rattle.icn_tree.specs.Trees.{Tree, Trees, MaybeTree, Clauses}
use Rattle.icn_value.specs.Values.{Value, Item}
use Rattle.icn_value.specs.Store.{World, Outside, Names}
use Rattle.icn_defs.specs.Rows.{Residual}
pub use Rattle.icn_defs.specs.Running.{Pair, Ending, Done, Exit, Errored, AtBound}

-- what is applied to operands: an operation, a call, `p ! L`, a list display, a field by its name, an activation `v @ C`
pub data Application : Type 0 where
  Operating : Op → Application
  Calling : Application
  Spreading : Application
  Collecting : Application
  Taking : List ℕ → Application
  Activating : Application

-- a call that runs: the number of its activation, its procedure and its level
pub record Invocation : Type 0 where
  pub activation : ℕ
  pub procedure : ℕ
  pub level : ℕ

infixr 5 ◌and_then◌
infixr 5 ◌or_else◌
mutual
  -- a success context: what is to be done with a result, the next work first
  pub data Works : Type 0 where
    Nothing : Works
    ◌and_then◌ : Work → Works → Works

  -- a resumption context: what is to be done where something fails, the newest choice first
  pub data Choices : Type 0 where
    NoChoice : Choices
    ◌or_else◌ : Choice → Choices → Choices

  -- Args: an operand is there, with those before it, the newest first; then come the other operands, and then it is applied. Then: the right side of
  -- `&`. Cut: the choices since a bounded expression began are gone, and an action is done over those before it. Raise: a round of `|e` gave a
  -- result. Limit: the limit is there, and the limited expression is evaluated. Count: one result less is allowed. Scan: the subject is there.
  -- Leave: the scan has a result. Update: the left side of `op:=` is there. Each: a result of the control expression of `every`, around which are
  -- these surroundings, works and choices. Select: the value that `case` compares. Returning, Suspending: what a procedure returns and suspends.
  -- Result: what the co-expression of this activation gives. Flags, counts and saved pairs are numbers of cells of the store, since other evaluations
  -- change them between a result and its resumption.
  pub data Work : Type 0 where
    Args : Application → List Item → Trees → Surroundings → Work
    Then : Tree → Surroundings → Work
    Cut : Choices → Action → Work
    Raise : ℕ → Work
    Limit : Tree → Surroundings → Work
    Count : ℕ → Choices → Work
    Scan : Tree → Surroundings → Work
    Leave : ℕ → Work
    Update : Operator → Tree → Surroundings → Work
    Each : MaybeTree → Surroundings → Works → Choices → Work
    Select : Clauses → Surroundings → Works → Choices → Work
    Returning : Surroundings → Work
    Suspending : MaybeTree → Surroundings → Work
    Result : ℕ → Work

  -- Do: an action. Again: another round of `|e`, if the last one gave a result. Resume: an operation or function that suspended in this activation.
  -- Restore: a scan fails, and the pair that it saved comes back. Reenter: a scan that had a result is resumed. Back: a procedure that suspended is
  -- resumed. Exhaust: the expression of a co-expression fails.
  pub data Choice : Type 0 where
    Do : Action → Choice
    Again : Tree → Surroundings → ℕ → Works → Choice
    Resume : ℕ → Residual → Works → Choice
    Restore : ℕ → Choice
    Reenter : ℕ → Choice
    Back : MaybeTree → Surroundings → Choice
    Exhaust : Choice

  -- Go: evaluate. Give: hand a value on. Fails: fail. Pass: evaluate a loop again, as a turn. Body: evaluate the body of a loop, bounded, and then do the
  -- action. Try: compare the value with the selectors of these clauses, and then take the default. Rest: evaluate the expressions of a body that
  -- are left, each bounded. Off: the call fails.
  pub data Action : Type 0 where
    Go : Tree → Surroundings → Works → Action
    Give : Value → Works → Action
    Fails : Action
    Pass : Tree → Surroundings → Works → Action
    Body : MaybeTree → Surroundings → Action → Action
    Try : Value → Clauses → MaybeTree → Surroundings → Works → Action
    Rest : Trees → Surroundings → Action
    Off : Surroundings → Action

  -- What is open around, the innermost first: scans with the cell of the pair that they saved; loops with the surroundings, works and choices around
  -- them and the action and choices of `next`; the control expression of `every`, where `next` never stands, with those around the loop; and the call
  -- with the works and choices of its caller, or the expression of a `create`, where `return`, `suspend` and `fail` never stand.
  pub data Surroundings : Type 0 where
    InCall : Invocation → Works → Choices → Surroundings
    InCreate : Invocation → Surroundings
    InScan : ℕ → Surroundings → Surroundings
    InLoop : Surroundings → Works → Choices → Action → Choices → Surroundings
    InControl : Surroundings → Works → Choices → Surroundings

-- a co-expression has not begun, is active, waits for the result of an activation, waits behind a result of its own, or is
-- exhausted
pub data Status : Type 0 where
  Fresh : Status
  Active : Status
  Waiting : Works → Choices → Status
  AfterResult : Choices → Status
  Exhausted : Status

-- a co-expression, with what its creation kept: its expression, the procedure that it stands in, and the values of that procedure's locals
pub record Coexpression : Type 0 where
  pub status : Status
  pub activator : ℕ
  pub body : Tree
  pub procedure : ℕ
  pub values : List Value

-- The world and the outside; the locals of each activation; of each procedure whether its `initial` was done; flags, counts of limits and saved pairs;
-- the co-expressions and which of them is active; the turns made; and the names of procedures and records, which never change.
pub record Store : Type 0 where
  pub world : World
  pub outside : Outside
  pub activations : List (List Value)
  pub begun : List Bool
  pub flags : List Bool
  pub limits : List ℕ
  pub saved : List Pair
  pub coexpressions : List Coexpression
  pub active : ℕ
  pub turns : ℕ
  pub names : Names

-- A tree is evaluated, a result is handed on, something fails, an exhausted co-expression is to pass failure on, the run is over, or it came where no
-- program comes that breaks no rule.
pub data Evaluation : Type 0 where
  eval : Tree → Surroundings → Works → Choices → Store → Evaluation
  succeed : Item → Works → Choices → Store → Evaluation
  fail : Choices → Store → Evaluation
  hop : ℕ → Store → Evaluation
  over : Ending → Store → Evaluation
  lost : Evaluation

-- the invocation around, of a call or of the expression of a `create`
abbrev pub frame_of : Surroundings → Invocation
frame_of (InCall frame k r) = frame
frame_of (InCreate frame) = frame
frame_of (InScan p s) = frame_of s
frame_of (InLoop s k r a rn) = frame_of s
frame_of (InControl s k r) = frame_of s

-- the number of its activation
abbrev pub activation_of : Surroundings → ℕ
activation_of s = (frame_of s).activation
