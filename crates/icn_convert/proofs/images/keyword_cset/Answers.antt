use Rattle.std.proofs.Common.{◌≡◌, ◌∙◌, sym, ap, false, refl}
use Rattle.std.specs.List.{range_with_len}
use Rattle.std.specs.Str.{bytes_eq}
use Rattle.icn_defs.specs.Images.{digit_bytes, lcase, letters, ucase}
use Rattle.icn_convert.proofs.images.keyword_cset.Goals as goal

pub returns-else-eq-4 : goal.returns-else-eq-4
returns-else-eq-4 c =
    let ascii : bytes_eq c.args.members.now (range_with_len 0 128) ≡ false = sym c.is_all_below.ensures ∙ c.if-is_all_below.false in
    let all : bytes_eq c.args.members.now (range_with_len 0 256) ≡ false = sym c.is_all_below-else-is_all_below.ensures ∙ c.if-is_all_below-2.false in
    let digits : bytes_eq c.args.members.now digit_bytes ≡ false = ap (bytes_eq c.args.members.now) (sym c.as_slice.ensures) ∙ sym c.if-eq.ensures in
    let lower : bytes_eq c.args.members.now lcase ≡ false = ap (bytes_eq c.args.members.now) (sym c.as_slice-else-eq.ensures) ∙ sym c.if-eq-2.ensures in
    let both : bytes_eq c.args.members.now letters ≡ false = ap (bytes_eq c.args.members.now) (sym c.as_slice-else-eq-2.ensures) ∙ sym c.if-eq-3.ensures in
    let upper : bytes_eq c.args.members.now ucase ≡ false = ap (bytes_eq c.args.members.now) (sym c.as_slice-else-eq-3.ensures) ∙ sym c.if-eq-4.ensures in
    rw (ascii, all, digits, lower, both, upper) refl
