use Rattle.std.proofs.Common.{◌≡◌, ◌∙◌, ◌-◌, sym, get_or, true, false, arith}
use Rattle.std.proofs.lemmas.List.Sums.{suffix_len-take_yes, suffix_len-take_no}
use Rattle.icn_value.specs.Members.{contains, members_of}
use Rattle.icn_strfn.proofs.Trims.{is_member}
use Rattle.icn_strfn.proofs.trimming.trimmed_len.Goals as goal

pub loop-len-preserved : goal.loop-len-preserved
loop-len-preserved c =
    let p = contains (members_of c.args.bytes.now) in
    let text = c.args.text.now in
    let len = c.loop-len.len in
    let yes : p (get_or text (len - 1) 0) ≡ true = is_member c.args.bytes.now (get_or text (len - 1) 0) (omega (arith, c.type_inv.text (len - 1)))
    ∙ (sym c.has.ensures ∙ c.if-has.true) in
    record { within = omega arith; goes_on = omega (arith, suffix_len-take_yes p text len 0 (omega arith) (omega arith) yes) }

pub returns-else-has-clause-value : goal.returns-else-has-clause-value
returns-else-has-clause-value c =
    let p = contains (members_of c.args.bytes.now) in
    let text = c.args.text.now in
    let len = c.loop-len.len in
    let passes : p (get_or text (len - 1) 0) ≡ false = is_member c.args.bytes.now (get_or text (len - 1) 0) (omega (arith, c.type_inv.text (len - 1)))
    ∙ (sym c.has.ensures ∙ c.if-has.false) in
    omega (arith, suffix_len-take_no p text len 0 (omega arith) (omega arith) passes)
