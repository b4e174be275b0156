-- How what a sink gains adds up.
use Rattle.std.proofs.Common.{◌≡◌, ℕ, ◌+◌, min, List, [], ◌++◌, length, take, drop, Option, None, Some, sym, ◌∙◌, ap, append_assoc, append-nil, take-append-drop, arith, OnErr, Ok, Err, Result}
use Rattle.std.specs.Io.KnownBytes.{Appends, Keeps}
use Rattle.std.proofs.lemmas.List.{take-append-le, take_all, take_min}
use Rattle.std.proofs.Math.Seq.{take-append-add}
use Rattle.icn_host.specs.Sinks.{Gains, GainsPart}

nothing : (a : Option (List ℕ)) → Appends a a []
nothing None = tt
nothing (Some xs) = sym (append-nil xs)

pub both : (a b c : Option (List ℕ)) (xs ys : List ℕ) → Appends a b xs → Appends b c ys → Appends a c (xs ++ ys)
both None b c xs ys g h = tt
both (Some es) None c xs ys g h = absurd g
both (Some es) (Some bs) None xs ys g h = absurd h
both (Some es) (Some bs) (Some cs) xs ys g h = h ∙ (ap (λ s. s ++ ys) g ∙ append_assoc es xs ys)

along : (a b : Option (List ℕ)) (xs ys : List ℕ) → xs ≡ ys → Appends a b xs → Appends a b ys
along a b xs ys e h = rw (← e) h

-- a sink that is as before gained nothing
pub gains_nothing : (a : Option (List ℕ)) → Gains a a []
gains_nothing a = record { appends = nothing a }

-- what a sink gains in two steps is one behind the other
pub gains_then : {a b c : Option (List ℕ)} {xs ys : List ℕ} → Gains a b xs → Gains b c ys → Gains a c (xs ++ ys)
gains_then {a} {b} {c} {xs} {ys} g h = record { appends = both a b c xs ys g.appends h.appends }

pub part_nothing : (a : Option (List ℕ)) (xs : List ℕ) → GainsPart a a xs
part_nothing a xs = record { count = 0; appends = nothing a }

pub part_whole : {a b : Option (List ℕ)} {xs : List ℕ} → Gains a b xs → GainsPart a b xs
part_whole {a} {b} {xs} g = record { count = length xs; appends = along a b xs (take (length xs) xs) (sym (take_all (length xs) xs (omega arith))) g.appends }

pub then_part : {a b c : Option (List ℕ)} {xs ys : List ℕ} → Gains a b xs → GainsPart b c ys → GainsPart a c (xs ++ ys)
then_part {a} {b} {c} {xs} {ys} g h = record {
  count = length xs + h.count;
  appends = along a c (xs ++ take h.count ys) _ (sym (take-append-add xs ys h.count)) (both a b c xs (take h.count ys) g.appends h.appends);
}

pub part_more : {a b : Option (List ℕ)} {xs : List ℕ} (ys : List ℕ) → GainsPart a b xs → GainsPart a b (xs ++ ys)
part_more {a} {b} {xs} ys h = record {
  count = min h.count (length xs);
  appends = along a b (take h.count xs) _ (sym (take-append-le (min h.count (length xs)) xs ys (omega arith) ∙ take_min h.count xs)) h.appends;
}

keeps_after : (a b c : Option (List ℕ)) (xs : List ℕ) → Appends a b xs → Keeps b c → Appends a c xs
keeps_after None b c xs g h = tt
keeps_after (Some es) None c xs g h = absurd g
keeps_after (Some es) (Some bs) None xs g h = absurd h
keeps_after (Some es) (Some bs) (Some cs) xs g h = h ∙ g

-- a write that gave up after some first bytes
pub part_done : {a b c : Option (List ℕ)} (xs ys whole : List ℕ) → Gains a b xs → Keeps b c → xs ++ ys ≡ whole → GainsPart a c whole
part_done {a} {b} {c} xs ys whole g h e =
    let there : Gains a c xs = record { appends = keeps_after a b c xs g.appends h } in rw (← e) (part_more ys (part_whole there))

-- one more piece of a whole
pub one_more : (xs ys rest whole : List ℕ) (n : ℕ) → rest ≡ drop n ys → xs ++ ys ≡ whole → (xs ++ take n ys) ++ rest ≡ whole
one_more xs ys rest whole n f e = rw f (append_assoc xs (take n ys) (drop n ys) ∙ (ap (λ s. xs ++ s) (take-append-drop n ys) ∙ e))

-- what holds always holds at an `Err`
pub on_err_always : {T E P : Type 0} (r : Result T E) → P → OnErr r P
on_err_always (Ok _) h = tt
on_err_always (Err _) h = h
