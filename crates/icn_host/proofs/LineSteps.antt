-- How the parts of a line add up.
use Rattle.std.proofs.Common.{◌≡◌, ◌≤◌, ◌<◌, ◌+◌, ◌-◌, ℕ, List, [], ◌++◌, length, take, drop, Option, None, Some, refl, sym, ◌∙◌, ap, append_assoc, append-nil, arith, length-append}
use Rattle.std.specs.List.{slice_range, position_or_len}
use Rattle.std.proofs.lemmas.Bool.Decides.{nat_tests}
use Rattle.std.proofs.lemmas.List.Folds.{length-prefix_len, prefix_len-append}
use Rattle.std.proofs.lemmas.List.Sums.{prefix_len-le-length}
use Rattle.std.specs.Io.KnownBytes.{Consumes, Keeps}
use Rattle.std.proofs.lemmas.List.{length-take-le, take-append-drop, take-append-le, take_all}
use Rattle.std.proofs.Math.Seq.{drop-append_seam, drop-append-add, take-append_seam, take-append-add}
use Rattle.icn_host.proofs.ReaderSteps.{taken, keeps_after, slice_split, given_on, appended_on, counted_on}
use Rattle.icn_host.specs.Readers.{HasLinePart, left_of}
use Rattle.icn_host.specs.Sources.{ExtendsByLine, is_newline, line_kind, TakesLine, TakesLinePart}
use Rattle.icn_host.specs.declared.fault.LineEnd.TheVariants.{Whole}

position-append : (xs ys : List ℕ) → position_or_len is_newline xs ≡ length xs
    → position_or_len is_newline (xs ++ ys) ≡ length xs + position_or_len is_newline ys
position-append xs ys h = grind (arith, nat_tests, prefix_len-append)

position-within : (xs ys : List ℕ) → position_or_len is_newline xs < length xs → position_or_len is_newline (xs ++ ys) ≡ position_or_len is_newline xs
position-within xs ys h = grind (arith, nat_tests, prefix_len-append)

plain_part : (xs ys : List ℕ) → position_or_len is_newline (xs ++ ys) ≡ length xs → position_or_len is_newline xs ≡ length xs
plain_part xs ys h = let within : position_or_len is_newline xs ≤ length xs = prefix_len-le-length _ xs in grind (arith, nat_tests, prefix_len-append)

-- what stands before the first newline has none
plain_first : (bytes : List ℕ)
    → position_or_len is_newline (take (position_or_len is_newline bytes) bytes) ≡ length (take (position_or_len is_newline bytes) bytes)
plain_first bytes =
    let n : ℕ = position_or_len is_newline bytes in
    plain_part (take n bytes) (drop n bytes) (ap (λ s. position_or_len is_newline s) (take-append-drop n bytes) ∙ sym (length-prefix_len _ bytes))

kind_whole : (xs : List ℕ) → position_or_len is_newline xs < length xs → Whole ≡ line_kind xs
kind_whole xs h = grind (arith, nat_tests)

pub line_appended : (bytes had now : List ℕ) (count : ℕ) → count ≡ position_or_len is_newline bytes → now ≡ had ++ take count bytes → ExtendsByLine had now
line_appended bytes had now count e is =
    let before : List ℕ = take (position_or_len is_newline bytes) bytes in
    record { line = before; is = is ∙ ap (λ n. had ++ take n bytes) e; plain = plain_first bytes }

consumes_nothing : (a : Option (List ℕ)) → Consumes a a []
consumes_nothing None = tt
consumes_nothing (Some xs) = refl

pub line_start : (a : Option (List ℕ)) (had : List ℕ) (most : ℕ) → HasLinePart a a had had most most
line_start a had most = record {
  taken = record { given = []; consumes = consumes_nothing a; appended = sym (append-nil had); counted = omega arith };
  clean = refl;
}

first_part : (a c : Option (List ℕ)) (given had now : List ℕ) (failed : Type 0) → Consumes a c given
    → position_or_len is_newline given ≡ length given → now ≡ had ++ given → TakesLinePart a c had now failed
first_part None c given had now failed g clean e = tt
first_part (Some xs) None given had now failed g clean e = absurd g
first_part (Some xs) (Some ys) given had now failed g clean e =
    let place : position_or_len is_newline xs ≡ length given + position_or_len is_newline ys =
    ap (λ s. position_or_len is_newline s) g ∙ position-append given ys clean in
    let short : position_or_len is_newline xs ≤ length xs = prefix_len-le-length _ xs in
    let front : take (length given) (take (position_or_len is_newline xs) xs) ≡ given =
    taken (length given) (position_or_len is_newline xs) (length given) xs short (omega arith)
    ∙ (ap (λ s. take (length given) s) g ∙ take-append_seam given ys) in (
      length given,
      ap Some (sym (drop-append_seam given ys) ∙ ap (λ s. drop (length given) s) (sym g)),
      e ∙ ap (λ s. had ++ s) (sym front),
      omega arith,
      λ _. omega arith,
    )

-- a call that gave up took a part of the line
pub line_part : {a b : Option (List ℕ)} {had has : List ℕ} {most room : ℕ} (c : Option (List ℕ)) (now : List ℕ) (failed : Type 0)
    → HasLinePart a b had has most room → Keeps b c → now ≡ has → TakesLinePart a c had now failed
line_part {a} {b} {had} {has} {most} {room} c now failed h k e =
    first_part a c h.taken.given had now failed (keeps_after a b c h.taken.given h.taken.consumes k) h.clean (e ∙ h.taken.appended)

-- all that was read ahead is of the line
pub line_on : {a b : Option (List ℕ)} {had has : List ℕ} {most room : ℕ} (bytes : List ℕ) (at end count : ℕ) (behind : Option (List ℕ)) (now : List ℕ)
    → HasLinePart a b had has most room → Keeps b (left_of bytes at end behind) → at ≤ end → end ≤ length bytes
    → count ≡ position_or_len is_newline (slice_range bytes at end) → length (slice_range bytes at end) ≤ count → count ≤ room
    → now ≡ has ++ take count (slice_range bytes at end) → HasLinePart a (left_of bytes (at + count) end behind) had now most (room - count)
line_on {a} {b} {had} {has} {most} {room} bytes at end count behind now h k low high e all within is =
    let rest : List ℕ = slice_range bytes at end in
    let given : List ℕ = h.taken.given in
    let short : position_or_len is_newline rest ≤ length rest = prefix_len-le-length _ rest in
    let whole : take count rest ≡ rest = take_all count rest all in
    let counted : count ≡ length (take count rest) = let same : count ≡ length rest = omega arith in same ∙ sym (ap length whole) in
    record {
      taken = record {
        given = given ++ take count rest;
        consumes = given_on a b given bytes at end count count behind h.taken.consumes k low high counted;
        appended = appended_on had has now given (take count rest) is h.taken.appended;
        counted = counted_on given (take count rest) count most room counted within h.taken.counted;
      };
      clean = position-append given (take count rest) h.clean
          ∙ (ap (λ n. length given + n) (ap (λ s. position_or_len is_newline s) whole ∙ (sym e ∙ counted)) ∙ sym (length-append given (take count rest)));
    }

whole_of : (a behind : Option (List ℕ)) (given had now bytes : List ℕ) (at end count : ℕ) → Consumes a (left_of bytes at end behind) given
    → position_or_len is_newline given ≡ length given → at ≤ end → end ≤ length bytes → count ≡ position_or_len is_newline (slice_range bytes at end)
    → count < length (slice_range bytes at end) → now ≡ had ++ (given ++ take count (slice_range bytes at end))
    → TakesLine a (left_of bytes (at + (count + 1)) end behind) had now Whole
whole_of None behind given had now bytes at end count g clean low high e some is = tt
whole_of (Some xs) None given had now bytes at end count g clean low high e some is = absurd g
whole_of (Some xs) (Some ys) given had now bytes at end count g clean low high e some is =
    let rest : List ℕ = slice_range bytes at end in
    let tail : List ℕ = slice_range bytes (at + (count + 1)) end in
    let seen : position_or_len is_newline rest < length rest = omega arith in
    let place : position_or_len is_newline xs ≡ length given + count =
    ap (λ s. position_or_len is_newline s) g
    ∙ (position-append given (rest ++ ys) clean ∙ ap (λ n. length given + n) (position-within rest ys seen ∙ sym e)) in
    let long : length xs ≡ length given + (length rest + length ys) =
    ap length g ∙ (length-append given (rest ++ ys) ∙ ap (λ n. length given + n) (length-append rest ys)) in
    let cut : length (take (count + 1) rest) ≡ count + 1 = length-take-le (count + 1) rest (omega arith) in
    let split : rest ++ ys ≡ take (count + 1) rest ++ (tail ++ ys) =
    ap (λ s. s ++ ys) (slice_split bytes at end (count + 1) (count + 1) low high (sym cut)) ∙ append_assoc (take (count + 1) rest) tail ys in
    let after : drop (count + 1) (rest ++ ys) ≡ tail ++ ys =
    ap (λ s. drop (count + 1) s) split
    ∙ (ap (λ n. drop n (take (count + 1) rest ++ (tail ++ ys))) (sym cut) ∙ drop-append_seam (take (count + 1) rest) (tail ++ ys)) in
    let next : position_or_len is_newline xs + 1 ≡ length given + (count + 1) = omega arith in (
      ap Some (sym after ∙ (sym (drop-append-add given (rest ++ ys) (count + 1)) ∙ (ap (λ s. drop (length given + (count + 1)) s) (sym g)
          ∙ ap (λ n. drop n xs) (sym next)))),
      is ∙ ap (λ s. had ++ s) (ap (λ s. given ++ s) (sym (take-append-le count rest ys (omega arith)))
          ∙ (sym (take-append-add given (rest ++ ys) count) ∙ (ap (λ s. take (length given + count) s) (sym g) ∙ ap (λ n. take n xs) (sym place)))),
      kind_whole xs (omega arith),
    )

-- the newline is among what was read ahead
pub line_whole : {a b : Option (List ℕ)} {had has : List ℕ} {most room : ℕ} (bytes : List ℕ) (at end count : ℕ) (behind : Option (List ℕ)) (now : List ℕ)
    → HasLinePart a b had has most room → Keeps b (left_of bytes at end behind) → at ≤ end → end ≤ length bytes
    → count ≡ position_or_len is_newline (slice_range bytes at end) → count < length (slice_range bytes at end)
    → now ≡ has ++ take count (slice_range bytes at end) → TakesLine a (left_of bytes (at + (count + 1)) end behind) had now Whole
line_whole {a} {b} {had} {has} {most} {room} bytes at end count behind now h k low high e some is =
    whole_of a behind h.taken.given had now bytes at end count (keeps_after a b _ h.taken.given h.taken.consumes k) h.clean low high e some
    (appended_on had has now h.taken.given (take count (slice_range bytes at end)) is h.taken.appended)

-- the line that ends in what was read ahead has no newline
pub line_plain : {a b : Option (List ℕ)} {had has : List ℕ} {most room : ℕ} (bytes : List ℕ) (count : ℕ) (now : List ℕ)
    → HasLinePart a b had has most room → count ≡ position_or_len is_newline bytes → now ≡ has ++ take count bytes → ExtendsByLine had now
line_plain {a} {b} {had} {has} {most} {room} bytes count now h e is =
    let given : List ℕ = h.taken.given in
    let last : List ℕ = take (position_or_len is_newline bytes) bytes in
    record {
      line = given ++ last;
      is = appended_on had has now given last (is ∙ ap (λ n. has ++ take n bytes) e) h.taken.appended;
      plain = position-append given last h.clean ∙ (ap (λ n. length given + n) (plain_first bytes) ∙ sym (length-append given last));
    }
