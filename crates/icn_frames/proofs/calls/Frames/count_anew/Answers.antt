use Rattle.std.proofs.Common.{◌≡◌, ℕ, ℤ, ◌+◌, ◌-◌, List, length, Option, Some, sym, subst, ap, ◌∙◌, arith, rules, w64, FitsSigned}
use Rattle.std.proofs.lemmas.Int.{to_z-of_z}
use Rattle.icn_value.specs.declared.val.Val.TheVariants as Vals
use Rattle.icn_value.specs.declared.item.Item.{Item}
use Rattle.icn_value.specs.declared.item.Item.TheVariants as Items
use Rattle.icn_frames.specs.Heights.{cell_at, cut, with_copy}
use Rattle.icn_frames.specs.declared.layout.Why.{Why}
use Rattle.icn_frames.specs.declared.layout.Cell.{Cell}
use Rattle.icn_frames.specs.Slots.{why_counting}
use Rattle.icn_frames.specs.Stacks.{FlatStack, given_to, locals, resume, set_locals, suspend_by}
use Rattle.icn_frames.specs.StackInvariant.{SeenStack}
use Rattle.icn_frames.proofs.Beside.{length_cut}
use Rattle.icn_frames.proofs.CellFacts.{newest_at}
use Rattle.icn_frames.proofs.CountsAnew.{newest_read, operands_below, placed_anew, suspended_anew}
use Rattle.icn_frames.proofs.HeightsRead.{below_length}
use Rattle.icn_frames.proofs.Locals.{set_locals_same}
use Rattle.icn_frames.proofs.NewestRead.{held_there, one_rest}
use Rattle.icn_frames.proofs.SoundStacks.{sound_push}
use Rattle.icn_frames.proofs.RunningProcs.{base_there, runs_on}
use Rattle.icn_frames.proofs.calls.Frames.count_anew.Goals as goal

pub saved_at-saved-requires : goal.saved_at-saved-requires
saved_at-saved-requires g c =
    let k = newest_at _ _ _ c.self.invariant c.in-Some.is in
    below_length _ _ k.from k.to

pub bottom_of-from-requires : goal.bottom_of-from-requires
bottom_of-from-requires g c =
    let s = c.self.inside.cells.cells in
    let r = c.self.inside.registers in
    let h = c.in-Some.height in
    let found = newest_read s r h c.saved_at-saved.result c.self.invariant c.in-Some.is c.saved_at-saved.ensures in
    let w = found.there in
    w.frame

pub overflow_sub-at-in-Some : goal.overflow_sub-at-in-Some
overflow_sub-at-in-Some g c =
    let s = c.self.inside.cells.cells in
    let r = c.self.inside.registers in
    let h = c.in-Some.height in
    let found = newest_read s r h c.saved_at-saved.result c.self.invariant c.in-Some.is c.saved_at-saved.ensures in
    let w = found.there in
    operands_below s r h c.bottom_of-from.result found.why c.saved_at-saved.result found.place w c.bottom_of-from.ensures

pub cut-requires : goal.cut-requires
cut-requires g c =
    let s = c.self.inside.cells.cells in
    let r = c.self.inside.registers in
    let h = c.in-Some.height in
    let found = newest_read s r h c.saved_at-saved.result c.self.invariant c.in-Some.is c.saved_at-saved.ensures in
    let w = found.there in
    let same = ap (λ (cells : List Cell). length cells) c.in_ok-reserve-in-Some.ensures.cells in
    omega (arith, same, w.from, w.to)

pub set_counting-requires : goal.set_counting-requires
set_counting-requires g c =
    let s = c.self.inside.cells.cells in
    let r = c.self.inside.registers in
    let h = c.in-Some.height in
    let found = newest_read s r h c.saved_at-saved.result c.self.invariant c.in-Some.is c.saved_at-saved.ensures in
    let w = found.there in
    let same = ap (λ (cells : List Cell). length cells) c.in_ok-reserve-in-Some.ensures.cells in
    let long = ap (λ (cells : List Cell). length cells) c.cut.ensures.cells ∙ length_cut h _ (omega (arith, same, w.to)) in
    omega (arith, long, w.from)

pub copy_few-requires-clause-order : goal.copy_few-requires-clause-order
copy_few-requires-clause-order g c =
    let s = c.self.inside.cells.cells in
    let r = c.self.inside.registers in
    let h = c.in-Some.height in
    let found = newest_read s r h c.saved_at-saved.result c.self.invariant c.in-Some.is c.saved_at-saved.ensures in
    let w = found.there in
    operands_below s r h c.bottom_of-from.result found.why c.saved_at-saved.result found.place w c.bottom_of-from.ensures

pub copy_few-requires-clause-within : goal.copy_few-requires-clause-within
copy_few-requires-clause-within g c =
    let s = c.self.inside.cells.cells in
    let r = c.self.inside.registers in
    let h = c.in-Some.height in
    let o = c.saved_at-saved.result in
    let found = newest_read s r h o c.self.invariant c.in-Some.is c.saved_at-saved.ensures in
    let w = found.there in
    let why : Why = why_counting c.args.count.given c.args.count.last c.args.count.step in
    let placed = placed_anew s _ _ _ r h found.why why o found.place w c.in_ok-reserve-in-Some.ensures.cells c.cut.ensures.cells c.set_counting.ensures.cells in
    let a = w.from in
    let b = w.to in
    let long = length_cut (h - 1) s (omega arith) in
    omega (arith, ap (λ (cells : List Cell). length cells) placed, long)

pub copy_few-requires-clause-room : goal.copy_few-requires-clause-room
copy_few-requires-clause-room g c =
    let s = c.self.inside.cells.cells in
    let r = c.self.inside.registers in
    let h = c.in-Some.height in
    let o = c.saved_at-saved.result in
    let found = newest_read s r h o c.self.invariant c.in-Some.is c.saved_at-saved.ensures in
    let w = found.there in
    let same = ap (λ (cells : List Cell). length cells) c.in_ok-reserve-in-Some.ensures.cells in
    omega (arith, c.set_counting.ensures.spare, c.cut.ensures.spare, c.in_ok-reserve-in-Some.ensures.ok, same, w.to)

pub push_plain-requires-clause-room : goal.push_plain-requires-clause-room
push_plain-requires-clause-room g c =
    let s = c.self.inside.cells.cells in
    let r = c.self.inside.registers in
    let h = c.in-Some.height in
    let o = c.saved_at-saved.result in
    let found = newest_read s r h o c.self.invariant c.in-Some.is c.saved_at-saved.ensures in
    let w = found.there in
    let same = ap (λ (cells : List Cell). length cells) c.in_ok-reserve-in-Some.ensures.cells in
    omega (arith, c.copy_few.ensures.spare, c.set_counting.ensures.spare, c.cut.ensures.spare, c.in_ok-reserve-in-Some.ensures.ok, same, w.to)

pub running_proc-self-inside-requires : goal.running_proc-self-inside-requires
running_proc-self-inside-requires g c =
    let s = c.self.inside.cells.cells in
    let r = c.self.inside.registers in
    let h = c.in-Some.height in
    let o = c.saved_at-saved.result in
    let from = c.bottom_of-from.result in
    let found = newest_read s r h o c.self.invariant c.in-Some.is c.saved_at-saved.ensures in
    let w = found.there in
    let why : Why = why_counting c.args.count.given c.args.count.last c.args.count.step in
    let placed = placed_anew s _ _ _ r h found.why why o found.place w c.in_ok-reserve-in-Some.ensures.cells c.cut.ensures.cells c.set_counting.ensures.cells in
    let copied = c.copy_few.ensures.cells ∙ ap (λ (cells : List Cell). with_copy from (h - 1) cells) placed in
    let anew = suspended_anew s _ r o h from found.place found.why c.args.count.given c.args.count.last c.args.count.step w c.bottom_of-from.ensures copied in
    let item : Item = Items.Val (Vals.Integer c.args.count.given) in
    let fits : FitsSigned w64 c.args.count.given = search rules in
    let given = ap (λ (n : ℤ). Some (Items.Val (Vals.Integer n))) (to_z-of_z w64 c.args.count.given fits) in
    anew.sound.stands.leads.base

pub invariant_of-self-in-Some : goal.invariant_of-self-in-Some
invariant_of-self-in-Some g c =
    let s = c.self.inside.cells.cells in
    let r = c.self.inside.registers in
    let h = c.in-Some.height in
    let o = c.saved_at-saved.result in
    let from = c.bottom_of-from.result in
    let found = newest_read s r h o c.self.invariant c.in-Some.is c.saved_at-saved.ensures in
    let w = found.there in
    let why : Why = why_counting c.args.count.given c.args.count.last c.args.count.step in
    let placed = placed_anew s _ _ _ r h found.why why o found.place w c.in_ok-reserve-in-Some.ensures.cells c.cut.ensures.cells c.set_counting.ensures.cells in
    let copied = c.copy_few.ensures.cells ∙ ap (λ (cells : List Cell). with_copy from (h - 1) cells) placed in
    let anew = suspended_anew s _ r o h from found.place found.why c.args.count.given c.args.count.last c.args.count.step w c.bottom_of-from.ensures copied in
    let item : Item = Items.Val (Vals.Integer c.args.count.given) in
    let fits : FitsSigned w64 c.args.count.given = search rules in
    let given = ap (λ (n : ℤ). Some (Items.Val (Vals.Integer n))) (to_z-of_z w64 c.args.count.given fits) in
    rw (c.push_plain.ensures.cells item given) (sound_push _ _ _ anew.sound)

pub invariant_of-self-inside-in-Some : goal.invariant_of-self-inside-in-Some
invariant_of-self-inside-in-Some g c =
    let s = c.self.inside.cells.cells in
    let r = c.self.inside.registers in
    let h = c.in-Some.height in
    let o = c.saved_at-saved.result in
    let from = c.bottom_of-from.result in
    let found = newest_read s r h o c.self.invariant c.in-Some.is c.saved_at-saved.ensures in
    let w = found.there in
    let why : Why = why_counting c.args.count.given c.args.count.last c.args.count.step in
    let placed = placed_anew s _ _ _ r h found.why why o found.place w c.in_ok-reserve-in-Some.ensures.cells c.cut.ensures.cells c.set_counting.ensures.cells in
    let copied = c.copy_few.ensures.cells ∙ ap (λ (cells : List Cell). with_copy from (h - 1) cells) placed in
    let anew = suspended_anew s _ r o h from found.place found.why c.args.count.given c.args.count.last c.args.count.step w c.bottom_of-from.ensures copied in
    let item : Item = Items.Val (Vals.Integer c.args.count.given) in
    let fits : FitsSigned w64 c.args.count.given = search rules in
    let given = ap (λ (n : ℤ). Some (Items.Val (Vals.Integer n))) (to_z-of_z w64 c.args.count.given fits) in (
      rw (c.push_plain.ensures.cells item given)
          (runs_on _ _ o.base _ (base_there _ _ anew.sound) c.running_proc-self-inside.ensures),
      tt,
    )

pub returns-in_ok-reserve-in-Some-clause-ok : goal.returns-in_ok-reserve-in-Some-clause-ok
returns-in_ok-reserve-in-Some-clause-ok g c was rest e =
    let s = c.self.inside.cells.cells in
    let r = c.self.inside.registers in
    let h = c.in-Some.height in
    let o = c.saved_at-saved.result in
    let from = c.bottom_of-from.result in
    let found = newest_read s r h o c.self.invariant c.in-Some.is c.saved_at-saved.ensures in
    let w = found.there in
    let why : Why = why_counting c.args.count.given c.args.count.last c.args.count.step in
    let placed = placed_anew s _ _ _ r h found.why why o found.place w c.in_ok-reserve-in-Some.ensures.cells c.cut.ensures.cells c.set_counting.ensures.cells in
    let copied = c.copy_few.ensures.cells ∙ ap (λ (cells : List Cell). with_copy from (h - 1) cells) placed in
    let anew = suspended_anew s _ r o h from found.place found.why c.args.count.given c.args.count.last c.args.count.step w c.bottom_of-from.ensures copied in
    let item : Item = Items.Val (Vals.Integer c.args.count.given) in
    let fits : FitsSigned w64 c.args.count.given = search rules in
    let given = ap (λ (n : ℤ). Some (Items.Val (Vals.Integer n))) (to_z-of_z w64 c.args.count.given fits) in
    let m : FlatStack = record { cells = s; registers = r; address = c.self.inside.address } in
    let rest0 : FlatStack = record { cells = cut (h - 1) s; registers = o; address = found.place } in
    let back : resume m ≡ Some (found.why, rest0) = held_there m h found.why o found.place c.self.invariant c.in-Some.is w.is in
    let one : rest0 ≡ rest = one_rest m rest0 rest found.why was back (subst (λ (v : SeenStack). resume v.flat ≡ Some (was, rest)) (sym c.self.view_is) e) in
    let goes : c.address_at-self-inside.result ≡ found.place
    = c.address_at-self-inside.ensures found.why o found.place
    (ap (λ (cells : List Cell). cell_at (h - 1 + 1) cells) c.in_ok-reserve-in-Some.ensures.cells ∙ w.is) in
    let F : List Cell → ℕ → Option FlatStack = λ cells place. Some (record { cells = cells; registers = record o { newest = Some h }; address = place }) in
    let n : FlatStack = record { cells = c.push_plain.new.self.cells; registers = record o { newest = Some h }; address = c.address_at-self-inside.result } in
    subst (λ (x : FlatStack). given_to (Some item) (suspend_by why x) ≡ Some n) one
    (ap (given_to (Some item)) anew.is ∙ ap (λ (cells : List Cell). F cells found.place) (sym (c.push_plain.ensures.cells item given))
    ∙ ap (F c.push_plain.new.self.cells) (sym goes))

pub returns-in_ok-reserve-in-Some-clause-same : goal.returns-in_ok-reserve-in-Some-clause-same
returns-in_ok-reserve-in-Some-clause-same g c was rest e =
    let s = c.self.inside.cells.cells in
    let r = c.self.inside.registers in
    let h = c.in-Some.height in
    let o = c.saved_at-saved.result in
    let found = newest_read s r h o c.self.invariant c.in-Some.is c.saved_at-saved.ensures in
    let w = found.there in
    let m : FlatStack = record { cells = s; registers = r; address = c.self.inside.address } in
    let rest0 : FlatStack = record { cells = cut (h - 1) s; registers = o; address = found.place } in
    let back : resume m ≡ Some (found.why, rest0) = held_there m h found.why o found.place c.self.invariant c.in-Some.is w.is in
    let one : rest0 ≡ rest = one_rest m rest0 rest found.why was back (subst (λ (v : SeenStack). resume v.flat ≡ Some (was, rest)) (sym c.self.view_is) e) in
    subst (λ (x : FlatStack). set_locals (locals x) x ≡ x) one (set_locals_same rest0 w.sound)

pub returns-in_err-reserve-in-Some-clause-same : goal.returns-in_err-reserve-in-Some-clause-same
returns-in_err-reserve-in-Some-clause-same g c was rest e =
    let s = c.self.inside.cells.cells in
    let r = c.self.inside.registers in
    let h = c.in-Some.height in
    let o = c.saved_at-saved.result in
    let found = newest_read s r h o c.self.invariant c.in-Some.is c.saved_at-saved.ensures in
    let w = found.there in
    let m : FlatStack = record { cells = s; registers = r; address = c.self.inside.address } in
    let rest0 : FlatStack = record { cells = cut (h - 1) s; registers = o; address = found.place } in
    let back : resume m ≡ Some (found.why, rest0) = held_there m h found.why o found.place c.self.invariant c.in-Some.is w.is in
    let one : rest0 ≡ rest = one_rest m rest0 rest found.why was back (subst (λ (v : SeenStack). resume v.flat ≡ Some (was, rest)) (sym c.self.view_is) e) in
    subst (λ (x : FlatStack). set_locals (locals x) x ≡ x) one (set_locals_same rest0 w.sound)
