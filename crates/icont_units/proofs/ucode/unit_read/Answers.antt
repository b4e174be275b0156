use Rattle.icn_ucode.specs.UnitReading.{UnitOutcome, Faulty, Whole, unit_read}
use Rattle.icn_link.specs.Units.{unit_seen}
use Rattle.icont_units.proofs.JudgedTexts.{fault_is, first_long, found, read_fault, second_long, unit_is}
use Rattle.icont_units.proofs.ucode.unit_read.Goals as goal

pub returns-then-is_too_long-clause-judged : goal.returns-then-is_too_long-clause-judged
returns-then-is_too_long-clause-judged c =
    first_long c.args.base.now c.args.texts.now.first.items c.args.texts.now.second.items c.deref.result.now c.is_too_long.result c.bad_ucode.result
    c.deref.ensures.value c.is_too_long.ensures c.if-is_too_long.true c.bad_ucode.ensures

pub returns-then-is_too_long-2-clause-judged : goal.returns-then-is_too_long-2-clause-judged
returns-then-is_too_long-2-clause-judged c =
    second_long c.args.base.now c.args.texts.now.first.items c.args.texts.now.second.items c.deref.result.now c.deref-2.result.now
    c.is_too_long.result c.is_too_long-2.result c.bad_ucode-then-is_too_long-2.result
    c.deref.ensures.value c.is_too_long.ensures c.if-is_too_long.false c.deref-2.ensures.value c.is_too_long-2.ensures c.if-is_too_long-2.true
    c.bad_ucode-then-is_too_long-2.ensures

pub returns-in-Ok-clause-judged : goal.returns-in-Ok-clause-judged
returns-in-Ok-clause-judged c =
    found c.args.base.now c.args.texts.now.first.items c.args.texts.now.second.items c.deref.result.now c.deref-2.result.now
    c.deref-3.result.now c.deref-4.result.now c.is_too_long.result c.is_too_long-2.result (Whole (unit_seen c.in-Ok.unit))
    c.deref.ensures.value c.is_too_long.ensures c.if-is_too_long.false c.deref-2.ensures.value c.is_too_long-2.ensures c.if-is_too_long-2.false
    c.deref-3.ensures.value c.deref-4.ensures.value
    (unit_is c.in-Ok.unit (unit_read c.args.base.now c.deref-3.result.now c.deref-4.result.now) c.in-Ok.ensures.exact)

pub returns-in-Err-Broken-clause-judged : goal.returns-in-Err-Broken-clause-judged
returns-in-Err-Broken-clause-judged c =
    let outcome : UnitOutcome = unit_read c.args.base.now c.deref-3.result.now c.deref-4.result.now in
    read_fault c.args.base.now c.args.texts.now.first.items c.args.texts.now.second.items c.in-Err-Broken.rule c.in-Err-Broken.second
    c.bad_ucode-in-Err-Broken.result
    (found c.args.base.now c.args.texts.now.first.items c.args.texts.now.second.items c.deref.result.now c.deref-2.result.now
    c.deref-3.result.now c.deref-4.result.now c.is_too_long.result c.is_too_long-2.result (Faulty c.in-Err-Broken.rule c.in-Err-Broken.second)
    c.deref.ensures.value c.is_too_long.ensures c.if-is_too_long.false c.deref-2.ensures.value c.is_too_long-2.ensures c.if-is_too_long-2.false
    c.deref-3.ensures.value c.deref-4.ensures.value
    (fault_is c.in-Err-Broken.rule c.in-Err-Broken.second outcome (rw c.in-Err-Broken.field-0-is at c.in-Err-Broken.ensures.exact)))
    c.bad_ucode-in-Err-Broken.ensures
