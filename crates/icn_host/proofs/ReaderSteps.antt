-- How reads add up.
use Rattle.std.proofs.Common.{◌≡◌, ◌≤◌, ◌<◌, ◌+◌, ◌-◌, ℕ, min, List, ◌++◌, length, take, drop, Option, None, Some, sym, ◌∙◌, refl, subst, [], append-nil, ap, append_assoc, take-append-drop, arith, length-append}
use Rattle.std.specs.Io.KnownBytes.{Consumes}
use Rattle.std.proofs.lemmas.List.{length-take-le, take-append-le, take_all, take_min, take-take}
use Rattle.std.proofs.Math.Seq.{take-append-add}
use Rattle.std.specs.Io.KnownBytes.{IsAtEnd, Keeps}
use Rattle.std.specs.List.{slice_range}
use Rattle.std.proofs.lemmas.List.{drop_all, drop-drop, length-take, length-drop}
use Rattle.std.proofs.Math.Seq.{drop-append_seam, take-append_seam, take-add}
use Rattle.icn_host.specs.Readers.{HasRead, HasTaken, ReadsFirstPart, left_of}
use Rattle.icn_host.specs.Sources.{TakesFirst, TakesFirstPart}

pub both : (a b c : Option (List ℕ)) (xs ys : List ℕ) → Consumes a b xs → Consumes b c ys → Consumes a c (xs ++ ys)
both None b c xs ys g h = tt
both (Some es) None c xs ys g h = absurd g
both (Some es) (Some bs) None xs ys g h = absurd h
both (Some es) (Some bs) (Some cs) xs ys g h = g ∙ (ap (λ s. xs ++ s) h ∙ sym (append_assoc xs ys cs))

pub taken : (m n count : ℕ) (xs : List ℕ) → n ≤ length xs → count ≡ min m n → take m (take n xs) ≡ take count xs
taken m n count xs h e =
    let l : length (take n xs) ≡ n = length-take-le n xs h in
    sym (take_min m (take n xs))
    ∙ (ap (λ k. take k (take n xs)) (ap (λ k. min m k) l ∙ sym e)
    ∙ (sym (take-append-le count (take n xs) (drop n xs) (omega arith)) ∙ ap (λ ys. take count ys) (take-append-drop n xs)))

-- one read more, of which as much was appended as there was room for
pub read_on : {a b c : Option (List ℕ)} {had has : List ℕ} {most room : ℕ} (now buffer : List ℕ) (n count : ℕ)
    → HasRead a b had has most room → 0 < room → Consumes b c (take n buffer) → n ≤ length buffer → count ≡ min room n
    → now ≡ has ++ take count buffer → HasRead a c had now most (room - count)
read_on {a} {b} {c} {had} {has} {most} {room} now buffer n count h some consumes within e is =
    let given : List ℕ = h.given in
    let left : room ≡ most - length given = h.left in
    let total : most ≡ length given + room = omega arith in
    let whole : take most given ≡ given = take_all most given (omega arith) in
    let l : length (take n buffer) ≡ n = length-take-le n buffer within in
    let both_len : length (given ++ take n buffer) ≡ length given + n = length-append given (take n buffer) ∙ ap (λ k. length given + k) l in
    let more : take most (given ++ take n buffer) ≡ given ++ take count buffer =
    ap (λ k. take k (given ++ take n buffer)) total
    ∙ (take-append-add given (take n buffer) room ∙ ap (λ ys. given ++ ys) (taken room n count buffer within e)) in
    record {
      given = given ++ take n buffer;
      consumes = both a b c given (take n buffer) h.consumes consumes;
      appended = is ∙ (ap (λ s. s ++ take count buffer) (h.appended ∙ ap (λ s. had ++ s) whole)
          ∙ (append_assoc had given (take count buffer) ∙ ap (λ s. had ++ s) (sym more)));
      left = omega arith;
    }

read_first_part : (a b c : Option (List ℕ)) (given had has : List ℕ) (most : ℕ) → Consumes a b given → has ≡ had ++ take most given
    → ReadsFirstPart a most had has
read_first_part None b c given had has most g e = tt
read_first_part (Some xs) None c given had has most g e = absurd g
read_first_part (Some xs) (Some ys) c given had has most g e =
    let n : ℕ = min most (length given) in (
      n,
      e ∙ ap (λ s. had ++ s) (sym (take_min most given) ∙ (sym (take-append-le n given ys (omega arith))
          ∙ (ap (λ s. take n s) (sym g) ∙ sym (take-take n most xs (omega arith))))),
    )

read_part : {a b : Option (List ℕ)} {had has : List ℕ} {most room : ℕ} → HasRead a b had has most room → ReadsFirstPart a most had has
read_part {a} {b} {had} {has} {most} {room} h = read_first_part a b b h.given had has most h.consumes h.appended

-- a read that gave up after a part
pub read_part_of : {a b : Option (List ℕ)} {had has : List ℕ} {start room : ℕ} (most : ℕ) (now : List ℕ) → HasRead a b had has (start + 1) room
    → start ≡ most → now ≡ has → ReadsFirstPart a (most + 1) had now
read_part_of {a} {b} {had} {has} {start} {room} most now h same is =
    subst (λ s. ReadsFirstPart a (most + 1) had s) (sym is) (subst (λ m. ReadsFirstPart a (m + 1) had has) same (read_part h))

pub keeps_after : (a b c : Option (List ℕ)) (xs : List ℕ) → Consumes a b xs → Keeps b c → Consumes a c xs
keeps_after None b c xs g h = tt
keeps_after (Some es) None c xs g h = absurd g
keeps_after (Some es) (Some bs) None xs g h = absurd h
keeps_after (Some es) (Some bs) (Some cs) xs g h = g ∙ ap (λ s. xs ++ s) (sym h)

first_part : (a b : Option (List ℕ)) (given had has : List ℕ) (most : ℕ)
    → Consumes a b given → has ≡ had ++ given → length given ≤ most → TakesFirstPart a b had has most
first_part None b given had has most g e h = tt
first_part (Some xs) None given had has most g e h = absurd g
first_part (Some xs) (Some ys) given had has most g e h = (
  length given,
  ap Some (sym (drop-append_seam given ys) ∙ ap (λ s. drop (length given) s) (sym g)),
  e ∙ ap (λ s. had ++ s) (sym (take-append_seam given ys) ∙ ap (λ s. take (length given) s) (sym g)),
  h,
)

-- a call that gave up took what was given so far
pub taken_part : {a b : Option (List ℕ)} {had has : List ℕ} {most room : ℕ} (c : Option (List ℕ)) (now : List ℕ)
    → HasTaken a b had has most room → Keeps b c → now ≡ has → TakesFirstPart a c had now most
taken_part {a} {b} {had} {has} {most} {room} c now h k e =
    let counted : length h.given + room ≡ most = h.counted in
    first_part a c h.given had now most (keeps_after a b c h.given h.consumes k) (e ∙ h.appended) (omega arith)

pub slice_split : (bytes : List ℕ) (at end room count : ℕ) → at ≤ end → end ≤ length bytes → count ≡ length (take room (slice_range bytes at end))
    → slice_range bytes at end ≡ take room (slice_range bytes at end) ++ slice_range bytes (at + count) end
slice_split bytes at end room count h k e =
    let rest : List ℕ = drop at bytes in
    let long : length rest ≡ length bytes - at = length-drop at bytes in
    let counted : count ≡ min room (end - at) = e
    ∙ (length-take room (take (end - at) rest) ∙ ap (λ n. min room n) (length-take-le (end - at) rest (omega arith))) in
    let parts : end - at ≡ count + (end - (at + count)) = omega arith in
    ap (λ n. take n rest) parts
    ∙ (take-add count (end - (at + count)) rest
    ∙ (ap (λ s. s ++ take (end - (at + count)) (drop count rest)) (sym (taken room (end - at) count rest (omega arith) counted))
    ∙ ap (λ s. take room (take (end - at) rest) ++ take (end - (at + count)) s) (drop-drop count at bytes)))

advance : (bytes : List ℕ) (at end room count : ℕ) (behind : Option (List ℕ)) → at ≤ end → end ≤ length bytes
    → count ≡ length (take room (slice_range bytes at end))
    → Consumes (left_of bytes at end behind) (left_of bytes (at + count) end behind) (take room (slice_range bytes at end))
advance bytes at end room count None h k e = tt
advance bytes at end room count (Some ys) h k e =
    ap (λ s. s ++ ys) (slice_split bytes at end room count h k e)
    ∙ append_assoc (take room (slice_range bytes at end)) (slice_range bytes (at + count) end) ys

-- a first part of what was read ahead was given too
pub given_on : (a b : Option (List ℕ)) (given bytes : List ℕ) (at end cut count : ℕ) (behind : Option (List ℕ))
    → Consumes a b given → Keeps b (left_of bytes at end behind) → at ≤ end → end ≤ length bytes → count ≡ length (take cut (slice_range bytes at end))
    → Consumes a (left_of bytes (at + count) end behind) (given ++ take cut (slice_range bytes at end))
given_on a b given bytes at end cut count behind g k low high e =
    both a (left_of bytes at end behind) _ given (take cut (slice_range bytes at end)) (keeps_after a b _ given g k)
    (advance bytes at end cut count behind low high e)

pub appended_on : (had has now given more : List ℕ) → now ≡ has ++ more → has ≡ had ++ given → now ≡ had ++ (given ++ more)
appended_on had has now given more is e = is ∙ (ap (λ s. s ++ more) e ∙ append_assoc had given more)

pub counted_on : (given more : List ℕ) (count most room : ℕ) → count ≡ length more → count ≤ room → length given + room ≡ most
    → length (given ++ more) + (room - count) ≡ most
counted_on given more count most room e h counted =
    let both_len : length (given ++ more) ≡ length given + count = length-append given more ∙ ap (λ n. length given + n) (sym e) in omega arith

-- more was taken of what was read ahead
pub take_on : {a b : Option (List ℕ)} {had has : List ℕ} {most room : ℕ} (bytes : List ℕ) (at end count : ℕ) (behind : Option (List ℕ)) (now : List ℕ)
    → HasTaken a b had has most room → Keeps b (left_of bytes at end behind) → at ≤ end → end ≤ length bytes
    → now ≡ has ++ take room (slice_range bytes at end) → count ≡ length (take room (slice_range bytes at end))
    → HasTaken a (left_of bytes (at + count) end behind) had now most (room - count)
take_on {a} {b} {had} {has} {most} {room} bytes at end count behind now h k low high is e =
    let more : List ℕ = take room (slice_range bytes at end) in
    let within : count ≤ room = rw e (rw length-take (omega arith)) in
    record {
      given = h.given ++ more;
      consumes = given_on a b h.given bytes at end room count behind h.consumes k low high e;
      appended = appended_on had has now h.given more is h.appended;
      counted = counted_on h.given more count most room e within h.counted;
    }

all_taken : (a c : Option (List ℕ)) (given had now : List ℕ) (most count : ℕ) → Consumes a c given → IsAtEnd c → now ≡ had ++ given
    → length given ≡ count → count ≤ most → TakesFirst a c had now most count
all_taken None c given had now most count g z e l h = tt
all_taken (Some xs) None given had now most count g z e l h = absurd g
all_taken (Some xs) (Some ys) given had now most count g z e l h =
    let same : xs ≡ given = g ∙ (ap (λ s. given ++ s) z ∙ append-nil given) in
    rw same (
      ap Some (z ∙ sym (drop_all most given (omega arith))),
      e ∙ ap (λ s. had ++ s) (sym (take_all most given (omega arith))),
      sym l ∙ ap length (sym (take_all most given (omega arith))),
    )

end_of : (bytes : List ℕ) (at end : ℕ) (behind : Option (List ℕ)) → at ≡ end → IsAtEnd behind → IsAtEnd (left_of bytes at end behind)
end_of bytes at end None e z = tt
end_of bytes at end (Some ys) e z = let zero : end - at ≡ 0 = omega arith in rw (zero, z) refl

nothing_ahead : (bytes : List ℕ) (at end room count : ℕ) → at ≤ end → end ≤ length bytes → 0 < room → count ≡ 0
    → count ≡ length (take room (slice_range bytes at end)) → at ≡ end
nothing_ahead bytes at end room count low high some zero e =
    let l : length (take room (slice_range bytes at end)) ≡ min room (min (end - at) (length bytes - at)) = simp (length-take, length-drop) in
    omega arith

take_nothing : (room : ℕ) (bytes : List ℕ) (at end : ℕ) → at ≡ end → take room (slice_range bytes at end) ≡ []
take_nothing room bytes at end e = let zero : end - at ≡ 0 = omega arith in rw zero (take_all room [] (omega arith))

-- nothing is left
pub take_all_left : {a b : Option (List ℕ)} {had has : List ℕ} {most room : ℕ} (bytes : List ℕ) (at end count : ℕ) (behind : Option (List ℕ)) (now : List ℕ)
    → HasTaken a b had has most room → Keeps b (left_of bytes at end behind) → at ≤ end → end ≤ length bytes → 0 < room
    → (at ≡ end → IsAtEnd behind) → count ≡ 0 → count ≡ length (take room (slice_range bytes at end)) → now ≡ has ++ take room (slice_range bytes at end)
    → TakesFirst a (left_of bytes at end behind) had now most (most - room)
take_all_left {a} {b} {had} {has} {most} {room} bytes at end count behind now h k low high some last zero e is =
    let same : at ≡ end = nothing_ahead bytes at end room count low high some zero e in
    let counted : length h.given + room ≡ most = h.counted in
    let nothing : take room (slice_range bytes at end) ≡ [] = take_nothing room bytes at end same in
    all_taken a _ h.given had now most (most - room) (keeps_after a b _ h.given h.consumes k) (end_of bytes at end behind same (last same))
    (is ∙ (ap (λ s. has ++ s) nothing ∙ (append-nil has ∙ h.appended))) (omega arith) (omega arith)
