-- No instruction but those of a group is of it.
use Rattle.std.proofs.Common.{◌≡◌, ℕ, refl}
use Rattle.icn_text.specs.declared.keyword.Keyword.{Keyword}
use Rattle.icn_text.specs.declared.op.Op.{Op}
use Rattle.icn_text.specs.declared.op.Op.TheVariants as Ops
use Rattle.icn_code.specs.declared.instr.Instr.{Instr}
use Rattle.icn_code.specs.declared.instr.Instr.TheVariants as Instrs
use Rattle.icn_instructions.specs.declared.groups.InstrGroup.TheVariants as Groups
use Rattle.icn_instructions.specs.Groups.{group_of, group_of_op}

-- all operations but one apply a row
pub other_op : (op : Op) → (op ≡ Ops.Refresh → ⊥) → group_of_op op ≡ Groups.Application
other_op Ops.Refresh d = absurd (d refl)
other_op op d = refl

op_is_no_stack : (op : Op) → group_of_op op ≡ Groups.Stack → ⊥
op_is_no_stack Ops.Refresh e = cc
op_is_no_stack op e = cc

op_is_no_world : (op : Op) → group_of_op op ≡ Groups.World → ⊥
op_is_no_world Ops.Refresh e = cc
op_is_no_world op e = cc

op_is_no_machine : (op : Op) → group_of_op op ≡ Groups.Machine → ⊥
op_is_no_machine Ops.Refresh e = cc
op_is_no_machine op e = cc

pub op_refreshes : (op : Op) → group_of_op op ≡ Groups.Coexpression → op ≡ Ops.Refresh
op_refreshes Ops.Refresh e = refl
op_refreshes op e = cc

pub no_other_stack : (instr : Instr) → group_of instr ≡ Groups.Stack
    → (instr ≡ Instrs.Pnull → ⊥) → ((k : ℕ) → instr ≡ Instrs.Int k → ⊥) → ((k : ℕ) → instr ≡ Instrs.Cset k → ⊥) → ((k : ℕ) → instr ≡ Instrs.Local k → ⊥)
    → ((k : ℕ) → instr ≡ Instrs.Static k → ⊥) → ((k : ℕ) → instr ≡ Instrs.Global k → ⊥) → (instr ≡ Instrs.Pop → ⊥) → (instr ≡ Instrs.Dup → ⊥)
    → ((k : ℕ) → instr ≡ Instrs.Mark k → ⊥) → (instr ≡ Instrs.Mark0 → ⊥) → (instr ≡ Instrs.Esusp → ⊥) → ((k : ℕ) → instr ≡ Instrs.Chfail k → ⊥)
    → ((k : ℕ) → instr ≡ Instrs.Goto k → ⊥) → (instr ≡ Instrs.Ccase → ⊥) → ⊥
no_other_stack Instrs.Pnull e pnull int cset local static global pop dup mark mark0 esusp chfail goto ccase = pnull refl
no_other_stack (Instrs.Int k) e pnull int cset local static global pop dup mark mark0 esusp chfail goto ccase = int k refl
no_other_stack (Instrs.Cset k) e pnull int cset local static global pop dup mark mark0 esusp chfail goto ccase = cset k refl
no_other_stack (Instrs.Local k) e pnull int cset local static global pop dup mark mark0 esusp chfail goto ccase = local k refl
no_other_stack (Instrs.Static k) e pnull int cset local static global pop dup mark mark0 esusp chfail goto ccase = static k refl
no_other_stack (Instrs.Global k) e pnull int cset local static global pop dup mark mark0 esusp chfail goto ccase = global k refl
no_other_stack Instrs.Pop e pnull int cset local static global pop dup mark mark0 esusp chfail goto ccase = pop refl
no_other_stack Instrs.Dup e pnull int cset local static global pop dup mark mark0 esusp chfail goto ccase = dup refl
no_other_stack (Instrs.Mark k) e pnull int cset local static global pop dup mark mark0 esusp chfail goto ccase = mark k refl
no_other_stack Instrs.Mark0 e pnull int cset local static global pop dup mark mark0 esusp chfail goto ccase = mark0 refl
no_other_stack Instrs.Esusp e pnull int cset local static global pop dup mark mark0 esusp chfail goto ccase = esusp refl
no_other_stack (Instrs.Chfail k) e pnull int cset local static global pop dup mark mark0 esusp chfail goto ccase = chfail k refl
no_other_stack (Instrs.Goto k) e pnull int cset local static global pop dup mark mark0 esusp chfail goto ccase = goto k refl
no_other_stack Instrs.Ccase e pnull int cset local static global pop dup mark mark0 esusp chfail goto ccase = ccase refl
no_other_stack (Instrs.Op o) e pnull int cset local static global pop dup mark mark0 esusp chfail goto ccase = op_is_no_stack o e
no_other_stack instr e pnull int cset local static global pop dup mark mark0 esusp chfail goto ccase = cc

pub no_other_world : (instr : Instr) → group_of instr ≡ Groups.World
    → ((k : ℕ) → instr ≡ Instrs.Str k → ⊥) → (instr ≡ Instrs.Eret → ⊥) → (instr ≡ Instrs.Limit → ⊥) → (instr ≡ Instrs.Bscan → ⊥)
    → (instr ≡ Instrs.Escan → ⊥) → (instr ≡ Instrs.Psusp → ⊥) → (instr ≡ Instrs.Pret → ⊥) → (instr ≡ Instrs.Pfail → ⊥) → ⊥
no_other_world (Instrs.Str k) e str eret limit bscan escan psusp pret pfail = str k refl
no_other_world Instrs.Eret e str eret limit bscan escan psusp pret pfail = eret refl
no_other_world Instrs.Limit e str eret limit bscan escan psusp pret pfail = limit refl
no_other_world Instrs.Bscan e str eret limit bscan escan psusp pret pfail = bscan refl
no_other_world Instrs.Escan e str eret limit bscan escan psusp pret pfail = escan refl
no_other_world Instrs.Psusp e str eret limit bscan escan psusp pret pfail = psusp refl
no_other_world Instrs.Pret e str eret limit bscan escan psusp pret pfail = pret refl
no_other_world Instrs.Pfail e str eret limit bscan escan psusp pret pfail = pfail refl
no_other_world (Instrs.Op o) e str eret limit bscan escan psusp pret pfail = op_is_no_world o e
no_other_world instr e str eret limit bscan escan psusp pret pfail = cc

pub no_other_machine : (instr : Instr) → group_of instr ≡ Groups.Machine
    → ((w : Keyword) → instr ≡ Instrs.Keywd w → ⊥) → ((k : ℕ) → instr ≡ Instrs.Llist k → ⊥) → (instr ≡ Instrs.Unmark → ⊥) → (instr ≡ Instrs.Lsusp → ⊥)
    → (instr ≡ Instrs.Efail → ⊥) → ((k : ℕ) → instr ≡ Instrs.Loop k → ⊥) → ((k : ℕ) → instr ≡ Instrs.Init k → ⊥) → ⊥
no_other_machine (Instrs.Keywd w) e keywd llist unmark lsusp efail loop init = keywd w refl
no_other_machine (Instrs.Llist k) e keywd llist unmark lsusp efail loop init = llist k refl
no_other_machine Instrs.Unmark e keywd llist unmark lsusp efail loop init = unmark refl
no_other_machine Instrs.Lsusp e keywd llist unmark lsusp efail loop init = lsusp refl
no_other_machine Instrs.Efail e keywd llist unmark lsusp efail loop init = efail refl
no_other_machine (Instrs.Loop k) e keywd llist unmark lsusp efail loop init = loop k refl
no_other_machine (Instrs.Init k) e keywd llist unmark lsusp efail loop init = init k refl
no_other_machine (Instrs.Op o) e keywd llist unmark lsusp efail loop init = op_is_no_machine o e
no_other_machine instr e keywd llist unmark lsusp efail loop init = cc

pub no_other_coexpression : (instr : Instr) → group_of instr ≡ Groups.Coexpression
    → ((k : ℕ) → instr ≡ Instrs.Create k → ⊥) → (instr ≡ Instrs.Coact → ⊥) → (instr ≡ Instrs.Coret → ⊥) → (instr ≡ Instrs.Cofail → ⊥)
    → ((o : Op) → instr ≡ Instrs.Op o → ⊥) → ⊥
no_other_coexpression (Instrs.Create k) e create coact coret cofail op = create k refl
no_other_coexpression Instrs.Coact e create coact coret cofail op = coact refl
no_other_coexpression Instrs.Coret e create coact coret cofail op = coret refl
no_other_coexpression Instrs.Cofail e create coact coret cofail op = cofail refl
no_other_coexpression (Instrs.Op o) e create coact coret cofail op = op o refl
no_other_coexpression instr e create coact coret cofail op = cc
