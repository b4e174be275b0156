-- What is known grows, and all that has its shape keeps it.
use Rattle.std.proofs.Common.{ℕ, ◌≤◌, Bool, List, Option, None, Some, arith}
use Rattle.icn_structs.specs.Numbered.{NumberedList}
use Rattle.icn_code.specs.Codes.{Tables}
use Rattle.icn_verify.specs.declared.shape.Level.{Level}
use Rattle.icn_verify.specs.declared.shape.LevelKind.{LevelKind}
use Rattle.icn_verify.specs.Shapes.{PlainShape}
use Rattle.icn_value.specs.Values.{Value, Null, Integer, Text, Chars, Std, Procedure, ARecord, AList, ASet, ATable, ACoexp, Root, Global, Static, Local, Element, Field, Key, Keyword, Variable, Whole, Part, Item, Val, Var}
use Rattle.icn_value.specs.Store.{Table, Record, KeptError}
use Rattle.icn_defs.specs.Rows.{Residual, TextBytes, VariableBytes, ListItems, SetMembers, TableValues, TableKeys, RecordFields, FileLines, UndoAssign, UndoExchange, UndoPosition, Counting, Sequence, Balanced, Found, Among}
use Rattle.icn_run.specs.Calls.{Alt, Op, Scan, Escan, Proc}
use Rattle.icn_run.specs.Chains.{Label, fixed, flagged, Reason, because, scanning, Chain, chain, Suspensions, none, suspension, Outer, base, call, mark, limit, frame_of}
use Rattle.law_safe.specs.Within.{Each, ValueWithin, OptionWithin, KeptWithin, RootWithin, VariableWithin, ItemWithin, PairWithin, ListWithin, TableWithin, RecordWithin, ResidualWithin}
use Rattle.law_safe.specs.Shaped.{Knowledge, IsOf, IsBefore, LabelOk, ReasonOk, level_shape, ChainOk, SuspsOk, OuterOk, FrameOk, LocalsOk, RelabelOk}
use Rattle.law_safe.proofs.EachEntry.{each_map}

-- all that was known still is
pub record Grows (w w' : Knowledge) : Type 0 where
  pub coexps : w.coexps ≤ w'.coexps
  pub activations : (a p : ℕ) → IsOf w a p → IsOf w' a p
  pub flags : (f p : ℕ) (S : PlainShape) → IsBefore w f p S → IsBefore w' f p S

pub value_more : (n n' : ℕ) → n ≤ n' → (v : Value) → ValueWithin n v → ValueWithin n' v
value_more n n' l Null h = tt
value_more n n' l (Integer x) h = tt
value_more n n' l (Text x) h = tt
value_more n n' l (Chars x) h = tt
value_more n n' l (Std x) h = tt
value_more n n' l (Procedure x) h = tt
value_more n n' l (ARecord x) h = tt
value_more n n' l (AList x) h = tt
value_more n n' l (ASet x) h = tt
value_more n n' l (ATable x) h = tt
value_more n n' l (ACoexp x) h = omega (arith, h)

pub option_more : (n n' : ℕ) → n ≤ n' → (v : Option Value) → OptionWithin n v → OptionWithin n' v
option_more n n' l None h = tt
option_more n n' l (Some v) h = value_more n n' l v h

pub kept_more : (n n' : ℕ) → n ≤ n' → (e : Option KeptError) → KeptWithin n e → KeptWithin n' e
kept_more n n' l None h = tt
kept_more n n' l (Some e) h = option_more n n' l e.value h

pub root_more : (n n' : ℕ) → n ≤ n' → (r : Root) → RootWithin n r → RootWithin n' r
root_more n n' l (Global x) h = tt
root_more n n' l (Static x) h = tt
root_more n n' l (Local x) h = tt
root_more n n' l (Element x y) h = tt
root_more n n' l (Field x y) h = tt
root_more n n' l (Key t v) h = value_more n n' l v h
root_more n n' l (Keyword x) h = tt

pub variable_more : (n n' : ℕ) → n ≤ n' → (x : Variable) → VariableWithin n x → VariableWithin n' x
variable_more n n' l (Whole r) h = root_more n n' l r h
variable_more n n' l (Part r a b) h = root_more n n' l r h

pub item_more : (n n' : ℕ) → n ≤ n' → (x : Item) → ItemWithin n x → ItemWithin n' x
item_more n n' l (Val v) h = value_more n n' l v h
item_more n n' l (Var x) h = variable_more n n' l x h

pub items_more : (n n' : ℕ) → n ≤ n' → (xs : List Item) → Each (ItemWithin n) xs → Each (ItemWithin n') xs
items_more n n' l xs h = each_map (ItemWithin n) (ItemWithin n') (item_more n n' l) xs h

pub values_more : (n n' : ℕ) → n ≤ n' → (xs : List Value) → Each (ValueWithin n) xs → Each (ValueWithin n') xs
values_more n n' l xs h = each_map (ValueWithin n) (ValueWithin n') (value_more n n' l) xs h

pub list_more : (n n' : ℕ) → n ≤ n' → (x : NumberedList Value) → ListWithin n x → ListWithin n' x
list_more n n' l x h = values_more n n' l x.items h

pub table_more : (n n' : ℕ) → n ≤ n' → (x : Table) → TableWithin n x → TableWithin n' x
table_more n n' l x h = (
  value_more n n' l x.default h.0,
  each_map (PairWithin n) (PairWithin n') (λ pair z. (value_more n n' l pair.0 z.0, value_more n n' l pair.1 z.1)) x.pairs h.1,
)

pub record_more : (n n' : ℕ) → n ≤ n' → (x : Record) → RecordWithin n x → RecordWithin n' x
record_more n n' l x h = values_more n n' l x.fields h

residual_more : (n n' : ℕ) → n ≤ n' → (x : Residual) → ResidualWithin n x → ResidualWithin n' x
residual_more n n' l (TextBytes a b) h = tt
residual_more n n' l (VariableBytes x a) h = variable_more n n' l x h
residual_more n n' l (ListItems a b) h = tt
residual_more n n' l (SetMembers a b) h = tt
residual_more n n' l (TableValues a b) h = tt
residual_more n n' l (TableKeys a b) h = tt
residual_more n n' l (RecordFields a b) h = tt
residual_more n n' l (FileLines file) h = tt
residual_more n n' l (UndoAssign x v) h = (variable_more n n' l x h.0, value_more n n' l v h.1)
residual_more n n' l (UndoExchange m x y v u) h =
    (variable_more n n' l x h.0, (variable_more n n' l y h.1.0, (value_more n n' l v h.1.1.0, value_more n n' l u h.1.1.1)))
residual_more n n' l (UndoPosition a) h = tt
residual_more n n' l (Counting a b c) h = tt
residual_more n n' l (Sequence a b) h = tt
residual_more n n' l (Balanced a b c d e f) h = tt
residual_more n n' l (Found a b c d) h = tt
residual_more n n' l (Among a b c d) h = tt

module _ (tables : Tables) (sh : ℕ → ℕ → Option PlainShape) where
  grow_label : (w w' : Knowledge) → Grows w w' → (p : ℕ) (S : PlainShape) (label : Label) → LabelOk tables sh w p S label → LabelOk tables sh w' p S label
  grow_label w w' g p S (fixed l) h = h
  grow_label w w' g p S (flagged l f q) h = (g.flags f p S h.0, h.1, h.2)

  grow_reason : (w w' : Knowledge) → Grows w w' → (p : ℕ) (S : PlainShape) (q : ℕ) (r : Reason) → ReasonOk tables sh w p S q r → ReasonOk tables sh w' p S q r
  grow_reason w w' g p S q (because Alt) h = tt
  grow_reason w w' g p S q (because (Op r)) h = (residual_more w.coexps w'.coexps g.coexps r h.0, h.1)
  grow_reason w w' g p S q (because (Scan x)) h = tt
  grow_reason w w' g p S q (because Escan) h = h
  grow_reason w w' g p S q (because Proc) h = h
  grow_reason w w' g p S q (scanning n) h = tt

  mutual
    pub grow_chain : (w w' : Knowledge) → Grows w w' → (s p : ℕ) (S : PlainShape) (c : Chain) → ChainOk tables sh w s p S c → ChainOk tables sh w' s p S c
    grow_chain w w' g s p S (chain items q scans o) h =
        (h.0, items_more w.coexps w'.coexps g.coexps items h.1, h.2, grow_susps w w' g s q h.3, grow_outer w w' g s p S.in_create S.inner.kind S.outer o h.4)

    pub grow_susps : (w w' : Knowledge) → Grows w w' → (s : ℕ) (q : Suspensions) → SuspsOk tables sh w s q → SuspsOk tables sh w' s q
    grow_susps w w' g s none h = tt
    grow_susps w w' g s (suspension reason place inside) h = (h.0, h.1, grow_reason w w' g h.0 h.1 place reason h.2, grow_chain w w' g s h.0 h.1 inside h.3)

    pub grow_outer : (w w' : Knowledge) → Grows w w' → (s p : ℕ) (cr : Bool) (kind : LevelKind) (ls : List Level) (o : Outer)
        → OuterOk tables sh w s p cr kind ls o
        → OuterOk tables sh w' s p cr kind ls o
    grow_outer w w' g s p cr kind ls (base proc a) h = (h.0, h.1, h.2, h.3, g.activations a p h.4)
    grow_outer w w' g s p cr kind ls (call proc a level place caller) h =
        (h.0, h.1, h.2, h.3, g.activations a p h.4, (h.5.0, h.5.1, h.5.2, grow_chain w w' g s h.5.0 h.5.1 caller h.5.3))
    grow_outer w w' g s p cr kind ls (mark label outside) h = (
      h.0,
      h.1,
      h.2,
      h.3,
      grow_label w w' g p (level_shape tables sh cr h.0 h.1) label h.4,
      grow_chain w w' g s p (level_shape tables sh cr h.0 h.1) outside h.5,
    )
    grow_outer w w' g s p cr kind ls (limit n outside) h =
        (h.0, h.1, h.2, h.3, grow_chain w w' g s p (level_shape tables sh cr h.0 h.1) outside h.4)

  -- the frame of the procedure
  pub frame_ok : (w : Knowledge) (s p : ℕ) (cr : Bool) (kind : LevelKind) (ls : List Level) (o : Outer) → OuterOk tables sh w s p cr kind ls o
      → FrameOk tables sh w s p cr (frame_of o)
  frame_ok w s p cr kind ls (base proc a) h = (h.0, h.1, h.4)
  frame_ok w s p cr kind ls (call proc a level place caller) h = (h.0, h.1, h.4, h.5)
  frame_ok w s p cr kind ls (mark label (chain items q scans o)) h = frame_ok w s p cr h.0.kind h.1 o h.5.4
  frame_ok w s p cr kind ls (limit n (chain items q scans o)) h = frame_ok w s p cr h.0.kind h.1 o h.4.4

  pub grow_locals : (w w' : Knowledge) → Grows w w' → (p : ℕ) (values : List Value) → LocalsOk tables sh w p values → LocalsOk tables sh w' p values
  grow_locals w w' g p values h = record { within = values_more w.coexps w'.coexps g.coexps values h.within; count = h.count }

  pub grow_relabels : (w w' : Knowledge) → Grows w w' → (xs : List (ℕ × ℕ)) → Each (RelabelOk tables sh w) xs → Each (RelabelOk tables sh w') xs
  grow_relabels w w' g xs h = each_map (RelabelOk tables sh w) (RelabelOk tables sh w') (λ x z. (z.0, z.1, g.flags x.0 z.0 z.1 z.2, z.3)) xs h
