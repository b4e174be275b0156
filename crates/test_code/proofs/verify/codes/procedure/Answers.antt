use Rattle.std.proofs.Common.{◌≡◌, ◌<◌, ◌^◌, true, length, sym, subst, ◌∙◌, arith}
use Rattle.std.specs.List.{list_all}
use Rattle.test_code.specs.Known.{is_known}
use Rattle.test_code.proofs.KnownCodes.{known_proc}
use Rattle.test_code.proofs.verify.codes.procedure.Goals as goal

pub returns : goal.returns
returns c =
    let items = c.in_ok-from_slice.ensures.items in
    let short : length c.args.instrs.now < 2 ^ 32 = omega arith in
    let known : list_all (is_known (length c.args.instrs.now)) c.args.instrs.now ≡ true = sym c.are_known.ensures ∙ c.if-not-are_known.false in
    known_proc c.in_ok-from_slice.field-0.items (subst (λ instrs. length instrs < 2 ^ 32) (sym items) short)
    (subst (λ instrs. list_all (is_known (length instrs)) instrs ≡ true) (sym items) known)
