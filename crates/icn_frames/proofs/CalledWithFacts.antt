-- Operands that become the locals of a procedure.
use Rattle.std.proofs.Common.{◌≡◌, ℕ, zero, suc, ◌+◌, ◌-◌, ◌<◌, ◌≤◌, List, [], ◌∷◌, ◌++◌, length, drop, map, replicate, slice_get, true, Option, Some, None, IsSome, is_some, refl, sym, ap, ◌∙◌, subst, arith, zero-add}
use Rattle.std.proofs.lemmas.List.{length-append, length-map, length-replicate}
use Rattle.std.specs.Option.{option_and_then}
use Rattle.std.specs.Prelude.{get_or}
use Rattle.std.proofs.lemmas.Option.{slice_get-get_or, slice_get_within}
use Rattle.icn_value.specs.declared.val.Val.{Val}
use Rattle.icn_value.specs.declared.val.Val.TheVariants.{Null}
use Rattle.icn_value.specs.declared.item.Item.{Item}
use Rattle.icn_value.specs.declared.item.Item.TheVariants as Items
use Rattle.icn_frames.specs.Heights.{cell_at, cut}
use Rattle.icn_frames.specs.declared.layout.Cell.{Cell}
use Rattle.icn_frames.specs.declared.layout.Cell.TheVariants.{Base, Call, Local, Mark, Limit, Suspension, Operand}
use Rattle.icn_frames.specs.declared.layout.Registers.{Registers}
use Rattle.icn_frames.specs.declared.slots.StackSlot.{StackSlot}
use Rattle.icn_frames.specs.declared.slots.StackSlot.TheVariants.{VarLocal}
use Rattle.icn_frames.specs.Slots.{plain_local, plain_operand, plain_value, value_only}
use Rattle.icn_frames.specs.Stacks.{FlatStack, frame, level, level_of, locals, locals_down, locals_of, put_above, registers_at}
use Rattle.icn_frames.specs.StackInvariant.{AFrame, FrameAt, Sound, count_of, shape}
use Rattle.icn_frames.specs.CalledWith.{DropsWith, EntersWith, Framed, HasOperands, HoldValues, HoldsLocals, HoldsValue, IsArgument, TellsArgument, as_local, as_value, local_variable, operands_above}
use Rattle.icn_frames.proofs.CellFacts.{local_count_at}
use Rattle.icn_frames.proofs.FrameEntry.{sound_frame}
use Rattle.icn_frames.proofs.HeightsRead.{some_is}
use Rattle.icn_frames.proofs.Locals.{holds_locals}
use Rattle.icn_frames.proofs.LocalsSet.{locals_count}
use Rattle.icn_frames.proofs.SoundStacks.{cell_at_on, cell_at_top, sound_pop}

-- Operands and locals above some cells

pub operand_more : (items : List Item) (item : Item) (cells : List Cell)
    → operands_above (items ++ item ∷ []) cells ≡ Operand item ∷ operands_above items cells
operand_more [] item cells = refl
operand_more (x ∷ items) item cells = operand_more items item (Operand x ∷ cells)

pub local_more : (values : List Val) (v : Val) (cells : List Cell) → put_above (values ++ v ∷ []) cells ≡ Local v ∷ put_above values cells
local_more [] v cells = refl
local_more (w ∷ values) v cells = local_more values v (Local w ∷ cells)

pub locals_more : (values others : List Val) (cells : List Cell) → put_above (values ++ others) cells ≡ put_above others (put_above values cells)
locals_more [] others cells = refl
locals_more (w ∷ values) others cells = locals_more values others (Local w ∷ cells)

pub length_operands : (items : List Item) (cells : List Cell) → length (operands_above items cells) ≡ length items + length cells
length_operands [] cells = sym (zero-add (length cells))
length_operands (x ∷ items) cells = omega (arith, length_operands items (Operand x ∷ cells))

pub length_locals : (values : List Val) (cells : List Cell) → length (put_above values cells) ≡ length values + length cells
length_locals [] cells = sym (zero-add (length cells))
length_locals (v ∷ values) cells = omega (arith, length_locals values (Local v ∷ cells))

pub cell_below : (items : List Item) (cells : List Cell) (h : ℕ) → h ≤ length cells → cell_at h (operands_above items cells) ≡ cell_at h cells
cell_below [] cells h p = refl
cell_below (x ∷ items) cells h p =
    let q : h ≤ suc (length cells) = omega arith in
    cell_below items (Operand x ∷ cells) h q ∙ cell_at_on (Operand x) cells h p

cut_on : (x : Cell) (s : List Cell) (h : ℕ) → h ≤ length s → cut h (x ∷ s) ≡ cut h s
cut_on x s h p =
    let e : suc (length s) - h ≡ suc (length s - h) = omega arith in
    ap (λ (n : ℕ). drop n (x ∷ s)) e

pub cut_below : (items : List Item) (cells : List Cell) (h : ℕ) → h ≤ length cells → cut h (operands_above items cells) ≡ cut h cells
cut_below [] cells h p = refl
cut_below (x ∷ items) cells h p =
    let q : h ≤ suc (length cells) = omega arith in
    cut_below items (Operand x ∷ cells) h q ∙ cut_on (Operand x) cells h p

pub sound_below : (items : List Item) (cells : List Cell) (r : Registers) → Sound (operands_above items cells) r → Sound cells r
sound_below [] cells r s = s
sound_below (x ∷ items) cells r s = sound_pop x (Operand x ∷ cells) cells r refl (sound_below items (Operand x ∷ cells) r s)

-- the top one of some operands
pub record OnTop (n : ℕ) (cells : List Cell) : Type 0 where
  pub item : Item
  pub below : List Cell
  pub is : cells ≡ Operand item ∷ below
  pub others : HasOperands n below

pub on_top : (n : ℕ) (cells : List Cell) → HasOperands (suc n) cells → OnTop n cells
on_top n (Operand item ∷ cells) h = record { item = item; below = cells; is = refl; others = h }
on_top n [] h = absurd h
on_top n (Base proc count ∷ cells) h = absurd h
on_top n (Call proc count level r place ∷ cells) h = absurd h
on_top n (Local v ∷ cells) h = absurd h
on_top n (Mark label changed r ∷ cells) h = absurd h
on_top n (Limit count r ∷ cells) h = absurd h
on_top n (Suspension why r place ∷ cells) h = absurd h

pub top_cell : (cells below : List Cell) (x : Cell) (n : ℕ) → n ≡ length cells → cells ≡ x ∷ below → cell_at (n - 1 + 1) cells ≡ Some x
top_cell cells below x n e f =
    let some : length cells ≡ suc (length below) = ap length f in
    let q : length cells - (n - 1 + 1) ≡ 0 = omega arith in
    ap (λ (i : ℕ). slice_get cells i) q ∙ ap (λ (s : List Cell). slice_get s 0) f

-- Values

pub hold_more : (held : List Val) (items : List Item) (values : List Val) (item : Item) (v : Val) → HoldValues held items values → HoldsValue held item v
    → HoldValues held (items ++ item ∷ []) (values ++ v ∷ [])
hold_more held [] [] item v h one = (one, tt)
hold_more held [] (w ∷ values) item v h one = absurd h
hold_more held (x ∷ items) [] item v h one = absurd h
hold_more held (x ∷ items) (w ∷ values) item v h one = (h.0, hold_more held items values item v h.1 one)

pub hold_length : (held : List Val) (items : List Item) (values : List Val) → HoldValues held items values → length items ≡ length values
hold_length held [] [] h = refl
hold_length held [] (w ∷ values) h = absurd h
hold_length held (x ∷ items) [] h = absurd h
hold_length held (x ∷ items) (w ∷ values) h = ap (λ (n : ℕ). suc n) (hold_length held items values h.1)

only_value : (o : Option Item) (v : Val) → option_and_then value_only o ≡ Some v → o ≡ Some (Items.Val v)
only_value (Some (Items.Val w)) v e = let same : w ≡ v = cc in ap (λ (x : Val). Some (Items.Val x)) same
only_value (Some (Items.Var variable)) v e = cc
only_value None v e = cc

is_there : {T : Type 0} (o : Option T) → is_some o ≡ true → IsSome o
is_there (Some x) e = refl
is_there None e = cc

-- a slot of a value tells it to the slot of a local
pub value_told : (held : List Val) (slot local : StackSlot) (v : Val) → plain_local local ≡ plain_value slot → plain_local local ≡ Some v
    → TellsArgument held slot local
value_told held slot local v e some = record {
  item = Items.Val v;
  is = v;
  tells = only_value (plain_operand slot) v (sym e ∙ some);
  gives = some;
  holds = as_value refl;
}

-- a slot of a local tells what it holds
pub local_told : (held : List Val) (slot local : StackSlot) (index : ℕ) (v : Val) → plain_operand slot ≡ Some (local_variable index)
    → plain_local local ≡ Some v → slice_get held index ≡ Some v → TellsArgument held slot local
local_told held slot local index v e some at =
    record { item = local_variable index; is = v; tells = e; gives = some; holds = as_local index refl at }

-- the value of a local above a height, by its slot
held_told : (held : List Val) (index base own : ℕ) (cells : List Cell) (local : StackSlot) (v : Val) → index < own → length held ≡ own
    → HoldsLocals base held cells
    → ((x w : Val) → cell_at (base + index + 1) cells ≡ Some (Local x) → plain_local local ≡ Some w → x ≡ w) → plain_local local ≡ Some v
    → slice_get held index ≡ Some v
held_told held index base own cells local v within many holds told some =
    let inside : index < length held = omega arith in
    let there : slice_get held index ≡ Some (get_or held index Null) = slice_get-get_or held index Null inside in
    there ∙ ap (λ (x : Val). Some x) (told (get_or held index Null) v (holds index (get_or held index Null) there) some)

pub local_argument_is : (base own index : ℕ) (cells : List Cell) (slot local : StackSlot) → slot ≡ VarLocal index → index < own
    → ((x w : Val) → cell_at (base + index + 1) cells ≡ Some (Local x) → plain_local local ≡ Some w → x ≡ w)
    → is_some (plain_local local) ≡ true → IsArgument base own cells slot local
local_argument_is base own index cells slot local e within told some =
    let plain : IsSome (plain_local local) = is_there (plain_local local) some in
    let operand : plain_operand slot ≡ Some (local_variable index) = ap plain_operand e in
    let v = some_is (plain_local local) plain in
    record {
      operand = subst IsSome (sym operand) refl;
      local_told = plain;
      tells = λ held many holds.
          local_told held slot local index v.0 operand v.1 (held_told held index base own cells local v.0 within many holds told v.1);
    }

pub value_argument_is : (base own : ℕ) (cells : List Cell) (slot local : StackSlot) → plain_local local ≡ plain_value slot
    → is_some (plain_local local) ≡ true → IsArgument base own cells slot local
value_argument_is base own cells slot local e some =
    let plain : IsSome (plain_local local) = is_there (plain_local local) some in
    let v = some_is (plain_local local) plain in
    let operand : plain_operand slot ≡ Some (Items.Val v.0) = only_value (plain_operand slot) v.0 (sym e ∙ v.1) in
    record {
      operand = subst IsSome (sym operand) refl;
      local_told = plain;
      tells = λ held many holds. value_told held slot local v.0 e v.1;
    }

-- locals stand where they stood once an operand above them is gone
pub holds_below : (base : ℕ) (held : List Val) (cells below : List Cell) (x : Cell) → cells ≡ x ∷ below → base + length held ≤ length below
    → HoldsLocals base held cells → HoldsLocals base held below
holds_below base held cells below x e p h k v is =
    let within : k < length held = slice_get_within held k v is in
    let q : base + k + 1 ≤ length below = omega arith in
    sym (cell_at_on x below (base + k + 1) q) ∙ sym (ap (λ (s : List Cell). cell_at (base + k + 1) s) e) ∙ h k v is

-- Locals that are null

pub null_more : (n : ℕ) (cells : List Cell) → put_above (replicate n Null) (Local Null ∷ cells) ≡ Local Null ∷ put_above (replicate n Null) cells
null_more zero cells = refl
null_more (suc n) cells = null_more n (Local Null ∷ cells)

-- one more is put on top
pub null_put : (n : ℕ) (first cells after : List Cell) → cells ≡ put_above (replicate n Null) first → after ≡ Local Null ∷ cells
    → after ≡ put_above (replicate (n + 1) Null) first
null_put n first cells after e f =
    let more : suc n ≡ n + 1 = omega arith in
    f ∙ ap (λ (s : List Cell). Local Null ∷ s) e ∙ sym (null_more n first) ∙ ap (λ (k : ℕ). put_above (replicate k Null) first) more

-- Frames

pub framed_none : (held : List Val) (put : Cell) (item : Item) (cells below after : List Cell) → cells ≡ Operand item ∷ below → after ≡ put ∷ below
    → Framed held 0 put cells after
framed_none held put item cells below after e f =
    record { callee = item; items = []; values = []; rest = below; was = e; many = refl; hold = tt; is = f }

pub framed_more : (held : List Val) (n : ℕ) (put : Cell) (item : Item) (v : Val) (cells below framed after : List Cell) → cells ≡ Operand item ∷ below
    → Framed held n put below framed → after ≡ Local v ∷ framed → HoldsValue held item v → Framed held (suc n) put cells after
framed_more held n put item v cells below framed after e f g one =
    let many : length (f.items ++ item ∷ []) ≡ suc n = omega (arith, length-append f.items (item ∷ []), f.many) in
    record {
      callee = f.callee;
      items = f.items ++ item ∷ [];
      values = f.values ++ v ∷ [];
      rest = f.rest;
      was = e ∙ ap (λ (s : List Cell). Operand item ∷ s) f.was ∙ sym (operand_more f.items item (Operand f.callee ∷ f.rest));
      many = many;
      hold = hold_more held f.items f.values item v f.hold one;
      is = g ∙ ap (λ (s : List Cell). Local v ∷ s) f.is ∙ sym (local_more f.values v (put ∷ f.rest));
    }

-- A stack without some operands

-- what stands below some operands and one more
pub record StandsBelow (m : FlatStack) (rest : List Cell) : Type 0 where
  pub sound : Sound rest m.registers
  pub frame_same : frame m ≡ frame (record m { cells = rest })
  pub locals_same : locals m ≡ locals (record m { cells = rest })

pub stands_below : (m : FlatStack) (items : List Item) (callee : Item) (rest : List Cell) → Sound m.cells m.registers
    → m.cells ≡ operands_above items (Operand callee ∷ rest) → StandsBelow m rest
stands_below m items callee rest s was =
    let r : Registers = m.registers in
    let on : Sound (Operand callee ∷ rest) r = sound_below items (Operand callee ∷ rest) r (subst (λ (w : List Cell). Sound w r) was s) in
    let sound : Sound rest r = sound_pop callee (Operand callee ∷ rest) rest r refl on in
    let f : FrameAt (map shape rest) r.base = sound.stands.leads.base in
    let c : ℕ = locals_of (cell_at r.base rest) in
    let count : c ≡ count_of (cell_at r.base (map shape rest)) = local_count_at rest r.base in
    let all : r.base + c ≤ length rest = omega (arith, f.to, count, length-map rest shape) in
    let high : r.base ≤ length rest = omega arith in
    let next : r.base ≤ suc (length rest) = omega arith in
    let next_all : r.base + c ≤ suc (length rest) = omega arith in
    let same : cell_at r.base m.cells ≡ cell_at r.base rest
    = ap (λ (w : List Cell). cell_at r.base w) was ∙ cell_below items (Operand callee ∷ rest) r.base next ∙ cell_at_on (Operand callee) rest r.base high in
    let lower : cut (r.base + c) m.cells ≡ cut (r.base + c) rest
    = ap (λ (w : List Cell). cut (r.base + c) w) was ∙ cut_below items (Operand callee ∷ rest) (r.base + c) next_all ∙ cut_on (Operand callee) rest (r.base + c) all in
    record {
      sound = sound;
      frame_same = same;
      locals_same = ap (λ (o : Option Cell). locals_down (locals_of o) (cut (r.base + locals_of o) m.cells) []) same
          ∙ ap (λ (w : List Cell). locals_down c w []) lower;
    }

-- the frame that is put, with its locals
pub record Entering (proc count nulls address height : ℕ) (m : FlatStack) (after : List Cell) : Type 0 where
  pub enters : EntersWith proc count nulls address m (record { cells = after; registers = registers_at height; address = address })
  pub sound : Sound after (registers_at height)

pub entering : (proc count nulls address all deep height : ℕ) (m : FlatStack) (framed after : List Cell) → Sound m.cells m.registers
    → Framed (locals m) count (Call proc all deep m.registers m.address) m.cells framed → all ≡ count + nulls → deep ≡ suc (level m)
    → height ≡ length framed - count → after ≡ put_above (replicate nulls Null) framed → Entering proc count nulls address height m after
entering proc count nulls address all deep height m framed after s f many level_is height_is nulls_put =
    let rest : FlatStack = record m { cells = f.rest } in
    let under = stands_below m f.items f.callee f.rest s f.was in
    let vs : List Val = f.values ++ replicate nulls Null in
    let put : Cell = Call proc all deep m.registers m.address in
    let as_many : length f.items ≡ length f.values = hold_length (locals m) f.items f.values f.hold in
    let length_is : all ≡ length vs = omega (arith, many, f.many, as_many, length-append f.values (replicate nulls Null), length-replicate nulls Null) in
    let long : length framed ≡ length f.values + suc (length f.rest) = ap length f.is ∙ length_locals f.values (put ∷ f.rest) in
    let top : height ≡ suc (length f.rest) = omega (arith, height_is, long, as_many, f.many) in
    let level_same : deep ≡ suc (level rest) = level_is ∙ ap (λ (o : Option Cell). suc (level_of o)) under.frame_same in
    let cells_are : after ≡ put_above vs (put ∷ f.rest)
    = nulls_put ∙ ap (put_above (replicate nulls Null)) f.is ∙ sym (locals_more f.values (replicate nulls Null) (put ∷ f.rest)) in
    let F : List Cell → Registers → FlatStack = λ cells registers. record { cells = cells; registers = registers; address = address } in
    let entered : after ≡ put_above vs (Call proc (length vs) (suc (level rest)) m.registers m.address ∷ f.rest)
    = cells_are ∙ ap (λ (k : ℕ). put_above vs (Call proc k deep m.registers m.address ∷ f.rest)) length_is
    ∙ ap (λ (k : ℕ). put_above vs (Call proc (length vs) k m.registers m.address ∷ f.rest)) level_same in
    record {
      enters = record {
        callee = f.callee;
        items = f.items;
        values = f.values;
        rest = rest;
        was = ap (λ (w : List Cell). let x : FlatStack = record m { cells = w } in x) f.was;
        many = f.many;
        depth = ap (λ (o : Option Cell). level_of o) under.frame_same;
        hold = subst (λ (held : List Val). HoldValues held f.items f.values) under.locals_same f.hold;
        is = ap (λ (w : List Cell). F w (registers_at height)) entered
            ∙ ap (λ (h : ℕ). F (put_above vs (Call proc (length vs) (suc (level rest)) m.registers m.address ∷ f.rest)) (registers_at h)) top;
      };
      sound = sound_frame vs put (Some m.registers) f.rest after height (ap (λ (k : ℕ). AFrame k (Some m.registers)) length_is) top
          under.sound.stands under.sound.fit cells_are;
    }

-- One argument after the other

-- what stands below the top one of some operands
pub record Dropped (left : ℕ) (cells dropped : List Cell) : Type 0 where
  pub item : Item
  pub is : cells ≡ Operand item ∷ dropped
  pub others : HasOperands left dropped

pub dropped_is : (left : ℕ) (cells dropped : List Cell) → HasOperands (left + 1) cells
    → ((cell : Cell) (rest : List Cell) → cells ≡ cell ∷ rest → dropped ≡ rest) → Dropped left cells dropped
dropped_is left cells dropped h drops =
    let more : left + 1 ≡ suc left = omega arith in
    let top = on_top left cells (subst (λ (k : ℕ). HasOperands k cells) more h) in
    let same : top.below ≡ dropped = sym (drops (Operand top.item) top.below top.is) in
    record {
      item = top.item;
      is = top.is ∙ ap (λ (s : List Cell). Operand top.item ∷ s) same;
      others = subst (λ (s : List Cell). HasOperands left s) same top.others;
    }

pub operands_next : (left : ℕ) (cells dropped : List Cell) → HasOperands (left + 1) cells → (left ≡ 0 → ⊥)
    → ((cell : Cell) (rest : List Cell) → cells ≡ cell ∷ rest → dropped ≡ rest) → HasOperands (left - 1 + 1) dropped
operands_next left cells dropped h some drops =
    let less : left ≡ left - 1 + 1 = omega arith in
    subst (λ (k : ℕ). HasOperands k dropped) less (dropped_is left cells dropped h drops).others

pub within_next : (left base own : ℕ) (cells dropped : List Cell) → HasOperands (left + 1) cells → (left ≡ 0 → ⊥)
    → base + own + left < length cells
    → ((cell : Cell) (rest : List Cell) → cells ≡ cell ∷ rest → dropped ≡ rest) → base + own + (left - 1) < length dropped
within_next left base own cells dropped h some p drops =
    let long : length cells ≡ suc (length dropped) = ap length (dropped_is left cells dropped h drops).is in
    omega arith

pub framed_first : (held : List Val) (left : ℕ) (put : Cell) (cells after : List Cell) → HasOperands (left + 1) cells → left ≡ 0
    → ((cell : Cell) (rest : List Cell) → cells ≡ cell ∷ rest → after ≡ put ∷ rest) → Framed held left put cells after
framed_first held left put cells after h none puts =
    let more : left + 1 ≡ suc left = omega arith in
    let top = on_top left cells (subst (λ (k : ℕ). HasOperands k cells) more h) in
    subst (λ (k : ℕ). Framed held k put cells after) (sym none)
    (framed_none held put top.item cells top.below after top.is (puts (Operand top.item) top.below top.is))

pub framed_next : (held : List Val) (left base own n : ℕ) (put : Cell) (slot local : StackSlot) (cells dropped framed after : List Cell)
    → HasOperands (left + 1) cells → (left ≡ 0 → ⊥) → base + own + left < length cells → length held ≡ own → n ≡ length cells
    → ((x y : Item) → cell_at (n - 1 + 1) cells ≡ Some (Operand x) → plain_operand slot ≡ Some y → x ≡ y)
    → ((cell : Cell) (rest : List Cell) → cells ≡ cell ∷ rest → dropped ≡ rest)
    → TellsArgument held slot local → HoldsLocals base held cells
    → (HoldsLocals base held dropped → Framed held (left - 1) put dropped framed)
    → ((v : Val) → plain_local local ≡ Some v → after ≡ Local v ∷ framed)
    → Framed held left put cells after
framed_next held left base own n put slot local cells dropped framed after h some p many len top drops t holds others pushed =
    let d = dropped_is left cells dropped h drops in
    let long : length cells ≡ suc (length dropped) = ap length d.is in
    let bound : base + length held ≤ length dropped = omega arith in
    let item : d.item ≡ t.item = top d.item t.item (top_cell cells dropped (Operand d.item) n len d.is) t.tells in
    let one : HoldsValue held d.item t.is = subst (λ (x : Item). HoldsValue held x t.is) (sym item) t.holds in
    let all : suc (left - 1) ≡ left = omega arith in
    subst (λ (k : ℕ). Framed held k put cells after) all
    (framed_more held (left - 1) put d.item t.is cells dropped framed after d.is
    (others (holds_below base held cells dropped (Operand d.item) d.is bound holds)) (pushed t.is t.gives) one)

pub put_back : (left n : ℕ) (slot : StackSlot) (cells dropped same after : List Cell) → HasOperands (left + 1) cells → n ≡ length cells
    → ((x y : Item) → cell_at (n - 1 + 1) cells ≡ Some (Operand x) → plain_operand slot ≡ Some y → x ≡ y)
    → ((cell : Cell) (rest : List Cell) → cells ≡ cell ∷ rest → dropped ≡ rest) → IsSome (plain_operand slot) → same ≡ dropped
    → ((x : Item) → plain_operand slot ≡ Some x → after ≡ Operand x ∷ same) → after ≡ cells
put_back left n slot cells dropped same after h len top drops some is pushed =
    let d = dropped_is left cells dropped h drops in
    let y = some_is (plain_operand slot) some in
    let item : d.item ≡ y.0 = top d.item y.0 (top_cell cells dropped (Operand d.item) n len d.is) y.1 in
    pushed y.0 y.1 ∙ ap (λ (s : List Cell). Operand y.0 ∷ s) is ∙ ap (λ (x : Item). Operand x ∷ dropped) (sym item) ∙ sym d.is

-- The operand below others

pub below_cell : (items : List Item) (callee : Item) (rest cells : List Cell) (n count : ℕ) → cells ≡ operands_above items (Operand callee ∷ rest)
    → length items ≡ count → n ≡ length cells → cell_at (n - 1 - count + 1) cells ≡ Some (Operand callee)
below_cell items callee rest cells n count is many len =
    let long : length cells ≡ length items + suc (length rest) = ap length is ∙ length_operands items (Operand callee ∷ rest) in
    let at : n - 1 - count + 1 ≡ suc (length rest) = omega arith in
    let high : suc (length rest) ≤ suc (length rest) = omega arith in
    ap (λ (h : ℕ). cell_at h cells) at ∙ ap (λ (s : List Cell). cell_at (suc (length rest)) s) is
    ∙ cell_below items (Operand callee ∷ rest) (suc (length rest)) high ∙ cell_at_top (Operand callee) rest

-- so many operands are cells
pub operands_within : (n : ℕ) (cells : List Cell) → HasOperands n cells → n ≤ length cells
operands_within zero cells h = omega arith
operands_within (suc n) cells h =
    let top = on_top n cells h in
    let rest : n ≤ length top.below = operands_within n top.below top.others in
    let long : length cells ≡ suc (length top.below) = ap length top.is in
    omega arith

-- some operands, and what stands below them
pub record OperandsAre (n : ℕ) (cells : List Cell) : Type 0 where
  pub items : List Item
  pub rest : List Cell
  pub is : cells ≡ operands_above items rest
  pub many : length items ≡ n

pub operands_are : (n : ℕ) (cells : List Cell) → HasOperands n cells → OperandsAre n cells
operands_are zero cells h = record { items = []; rest = cells; is = refl; many = refl }
operands_are (suc n) cells h =
    let top = on_top n cells h in
    let under = operands_are n top.below top.others in
    let many : length (under.items ++ top.item ∷ []) ≡ suc n = omega (arith, length-append under.items (top.item ∷ []), under.many) in
    record {
      items = under.items ++ top.item ∷ [];
      rest = under.rest;
      is = top.is ∙ ap (λ (s : List Cell). Operand top.item ∷ s) under.is ∙ sym (operand_more under.items top.item under.rest);
      many = many;
    }

-- the frame and its locals stand below the operands
pub arguments_within : (cells : List Cell) (r : Registers) (own count : ℕ) → Sound cells r → HasOperands (count + 1) cells
    → own ≡ locals_of (cell_at r.base cells) → r.base + own + count < length cells
arguments_within cells r own count s h e =
    let all = operands_are (count + 1) cells h in
    let under : Sound all.rest r = sound_below all.items all.rest r (subst (λ (w : List Cell). Sound w r) all.is s) in
    let f : FrameAt (map shape all.rest) r.base = under.stands.leads.base in
    let c : ℕ = locals_of (cell_at r.base all.rest) in
    let counted : c ≡ count_of (cell_at r.base (map shape all.rest)) = local_count_at all.rest r.base in
    let inside : r.base + c ≤ length all.rest = omega (arith, f.to, counted, length-map all.rest shape) in
    let high : r.base ≤ length all.rest = omega arith in
    let same : own ≡ c
    = e ∙ ap (λ (w : List Cell). locals_of (cell_at r.base w)) all.is ∙ ap locals_of (cell_below all.items all.rest r.base high) in
    let long : length cells ≡ length all.items + length all.rest = ap length all.is ∙ length_operands all.items all.rest in
    omega (arith, all.many)

-- so many locals stand above the frame
pub framed_long : (held : List Val) (count : ℕ) (put : Cell) (cells after : List Cell) → Framed held count put cells after → count < length after
framed_long held count put cells after f =
    let as_many : length f.items ≡ length f.values = hold_length held f.items f.values f.hold in
    let long : length after ≡ length f.values + suc (length f.rest) = ap length f.is ∙ length_locals f.values (put ∷ f.rest) in
    omega (arith, f.many)

-- The procedure is entered, once the arguments are the first of its locals.
pub entered_so : (proc count nulls address own deep height : ℕ) (m : FlatStack) (room framed after : List Cell) → Sound m.cells m.registers
    → room ≡ m.cells → own ≡ locals_of (frame m)
    → ((held : List Val) → length held ≡ own → HoldsLocals m.registers.base held room
    → Framed held count (Call proc (count + nulls) deep m.registers m.address) room framed)
    → deep ≡ suc (level m) → height ≡ length framed - count → after ≡ put_above (replicate nulls Null) framed
    → Entering proc count nulls address height m after
entered_so proc count nulls address own deep height m room framed after s e own_is framing level_is height_is nulls_put =
    let put : Cell = Call proc (count + nulls) deep m.registers m.address in
    let here : HoldsLocals m.registers.base (locals m) room
    = subst (λ (w : List Cell). HoldsLocals m.registers.base (locals m) w) (sym e) (holds_locals m s) in
    let many : length (locals m) ≡ own = locals_count m s ∙ sym own_is in
    let f : Framed (locals m) count put m.cells framed
    = subst (λ (w : List Cell). Framed (locals m) count put w framed) e (framing (locals m) many here) in
    entering proc count nulls address (count + nulls) deep height m framed after s f refl level_is height_is nulls_put

-- so many locals stand above the frame, on whatever cells
pub framed_height : (own count : ℕ) (m : FlatStack) (room framed : List Cell) (put : Cell) → Sound m.cells m.registers → room ≡ m.cells
    → own ≡ locals_of (frame m)
    → ((held : List Val) → length held ≡ own → HoldsLocals m.registers.base held room → Framed held count put room framed) → count < length framed
framed_height own count m room framed put s e own_is framing =
    let here : HoldsLocals m.registers.base (locals m) room
    = subst (λ (w : List Cell). HoldsLocals m.registers.base (locals m) w) (sym e) (holds_locals m s) in
    framed_long (locals m) count put room framed (framing (locals m) (locals_count m s ∙ sym own_is) here)

-- the locals of the frame at a height that counts from 1
pub own_locals : (cells : List Cell) (r : Registers) (own : ℕ) → Sound cells r → own ≡ locals_of (cell_at (r.base - 1 + 1) cells)
    → own ≡ locals_of (cell_at r.base cells)
own_locals cells r own s e =
    let from : 1 ≤ r.base = s.stands.leads.base.from in
    let at : r.base - 1 + 1 ≡ r.base = omega arith in
    e ∙ ap (λ (h : ℕ). locals_of (cell_at h cells)) at

-- The operand below others is dropped with them

-- some operands, by the lowest one and those above it
record CalleeBelow (count : ℕ) (cells : List Cell) : Type 0 where
  callee : Item
  items : List Item
  rest : List Cell
  is : cells ≡ operands_above items (Operand callee ∷ rest)
  many : length items ≡ count

callee_below : (count : ℕ) (cells : List Cell) → HasOperands (count + 1) cells → CalleeBelow count cells
callee_below count cells h = let all = operands_are (count + 1) cells h in by_first all.items all.rest all.is all.many
  where
    by_first : (items : List Item) (rest : List Cell) → cells ≡ operands_above items rest → length items ≡ count + 1 → CalleeBelow count cells
    by_first [] rest is many = let none : 0 ≡ count + 1 = many in absurd (omega arith)
    by_first (x ∷ items) rest is many =
        let others : suc (length items) ≡ count + 1 = many in
        record { callee = x; items = items; rest = rest; is = is; many = omega arith }

-- what is left of a stack
pub record LeftBelow (count : ℕ) (m : FlatStack) (after : List Cell) : Type 0 where
  pub drops : DropsWith count m (record m { cells = after })
  pub sound : Sound after m.registers

pub dropped_with : (count n : ℕ) (m : FlatStack) (after : List Cell) → Sound m.cells m.registers → HasOperands (count + 1) m.cells
    → n ≡ length m.cells → after ≡ cut (n - 1 - count) m.cells → LeftBelow count m after
dropped_with count n m after s h len is =
    let all = callee_below count m.cells h in
    let long : length m.cells ≡ length all.items + suc (length all.rest)
    = ap length all.is ∙ length_operands all.items (Operand all.callee ∷ all.rest) in
    let low : n - 1 - count ≡ length all.rest = omega (arith, len, long, all.many) in
    let high : length all.rest ≤ length all.rest = omega arith in
    let next : length all.rest ≤ suc (length all.rest) = omega arith in
    let none : length all.rest - length all.rest ≡ 0 = omega arith in
    let left : after ≡ all.rest
    = is ∙ ap (λ (k : ℕ). cut k m.cells) low ∙ ap (λ (w : List Cell). cut (length all.rest) w) all.is
    ∙ cut_below all.items (Operand all.callee ∷ all.rest) (length all.rest) next ∙ cut_on (Operand all.callee) all.rest (length all.rest) high
    ∙ ap (λ (k : ℕ). drop k all.rest) none in
    let under = stands_below m all.items all.callee all.rest s all.is in
    let F : List Cell → FlatStack = λ w. record m { cells = w } in
    record {
      drops = record {
        callee = all.callee;
        items = all.items;
        was = ap F (all.is ∙ ap (λ (w : List Cell). operands_above all.items (Operand all.callee ∷ w)) (sym left));
        many = all.many;
        locals_same = under.locals_same ∙ ap (λ (w : List Cell). locals (F w)) (sym left);
      };
      sound = subst (λ (w : List Cell). Sound w m.registers) (sym left) under.sound;
    }
