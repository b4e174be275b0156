-- How what a sink keeps and writes adds up.
use Rattle.std.proofs.Common.{◌≡◌, ◌≤◌, ℕ, ◌+◌, ◌-◌, List, [], ◌++◌, length, take, drop, Option, None, Some, refl, sym, ◌∙◌, ap, append_assoc, append-nil, take-append-drop, arith, length-append, OnOk, OnErr, Ok, Err, Result}
use Rattle.std.specs.Io.KnownBytes.{Appends, Keeps, append_known}
use Rattle.std.proofs.lemmas.List.{drop_all, drop-drop, drop-append-le, take_rest}
use Rattle.icn_host.specs.declared.fault.Fault.{Fault}
use Rattle.icn_host.specs.Sinks.{Gains, GainsPart, StaysSettled}
use Rattle.icn_host.proofs.SinkSteps.{part_whole}

pub keeps_again : (a b c : Option (List ℕ)) → Keeps a b → Keeps b c → Keeps a c
keeps_again None b c g h = tt
keeps_again (Some xs) None c g h = absurd g
keeps_again (Some xs) (Some ys) None g h = absurd h
keeps_again (Some xs) (Some ys) (Some zs) g h = h ∙ g

pub keeps_gains : {a b c : Option (List ℕ)} {bytes : List ℕ} → Keeps a b → Gains b c bytes → Gains a c bytes
keeps_gains {a} {b} {c} {bytes} k g = record { appends = behind a b c bytes k g.appends }
  where
    behind : (a b c : Option (List ℕ)) (bytes : List ℕ) → Keeps a b → Appends b c bytes → Appends a c bytes
    behind None b c bytes k g = tt
    behind (Some xs) None c bytes k g = absurd k
    behind (Some xs) (Some ys) None bytes k g = absurd g
    behind (Some xs) (Some ys) (Some zs) bytes k g = g ∙ ap (λ s. s ++ bytes) k

pub gains_keeps : {a b c : Option (List ℕ)} {bytes : List ℕ} → Gains a b bytes → Keeps b c → Gains a c bytes
gains_keeps {a} {b} {c} {bytes} g k = record { appends = behind a b c bytes g.appends k }
  where
    behind : (a b c : Option (List ℕ)) (bytes : List ℕ) → Appends a b bytes → Keeps b c → Appends a c bytes
    behind None b c bytes g k = tt
    behind (Some xs) None c bytes g k = absurd g
    behind (Some xs) (Some ys) None bytes g k = absurd k
    behind (Some xs) (Some ys) (Some zs) bytes g k = k ∙ g

pub keeps_part : {a b c : Option (List ℕ)} {bytes : List ℕ} → Keeps a b → GainsPart b c bytes → GainsPart a c bytes
keeps_part {a} {b} {c} {bytes} k g =
    let there : Gains b c (take g.count bytes) = record { appends = g.appends } in
    let all : Gains a c (take g.count bytes) = keeps_gains k there in record { count = g.count; appends = all.appends }

keeps_nothing : (a b : Option (List ℕ)) → Keeps a b → Appends a b []
keeps_nothing None b k = tt
keeps_nothing (Some xs) None k = absurd k
keeps_nothing (Some xs) (Some ys) k = k ∙ sym (append-nil xs)

-- a put that did nothing
pub part_kept : {a b : Option (List ℕ)} (bytes : List ℕ) → Keeps a b → GainsPart a b bytes
part_kept {a} {b} bytes k = record { count = 0; appends = keeps_nothing a b k }

-- a put whose piece was kept, and then not all of it written
pub part_pending : {a b c : Option (List ℕ)} {bytes : List ℕ} → Gains a b bytes → Keeps b c → GainsPart a c bytes
part_pending g k = part_whole (gains_keeps g k)

-- What is settled

settled_keeps : (a b : Option (List ℕ)) (pending now : ℕ) → Keeps a b → now ≤ pending → StaysSettled a b pending now
settled_keeps None b pending now k h = record { within = tt }
settled_keeps (Some xs) None pending now k h = absurd k
settled_keeps (Some xs) (Some ys) pending now k h =
    let same : length ys ≡ length xs = ap length k in record { within = omega arith }

pub stays_keeps : {a b : Option (List ℕ)} {pending now : ℕ} → Keeps a b → now ≤ pending → StaysSettled a b pending now
stays_keeps {a} {b} {pending} {now} k h = settled_keeps a b pending now k h

settled_gains : (a b : Option (List ℕ)) (bytes : List ℕ) (pending now : ℕ) → Appends a b bytes → now ≤ pending + length bytes
    → StaysSettled a b pending now
settled_gains None b bytes pending now g h = record { within = tt }
settled_gains (Some xs) None bytes pending now g h = absurd g
settled_gains (Some xs) (Some ys) bytes pending now g h =
    let longer : length ys ≡ length xs + length bytes = ap length g ∙ length-append xs bytes in record { within = omega arith }

pub stays_gains : {a b : Option (List ℕ)} {bytes : List ℕ} {pending now : ℕ} → Gains a b bytes → now ≤ pending + length bytes
    → StaysSettled a b pending now
stays_gains {a} {b} {bytes} {pending} {now} g h = settled_gains a b bytes pending now g.appends h

pub stays_part : {a b : Option (List ℕ)} {bytes : List ℕ} {pending now : ℕ} → GainsPart a b bytes → now ≤ pending
    → StaysSettled a b pending now
stays_part {a} {b} {bytes} {pending} {now} g h = settled_gains a b (take g.count bytes) pending now g.appends (omega arith)

settled_on : (a b c : Option (List ℕ)) (p q r : ℕ) → Keeps a b → StaysSettled a b p q → StaysSettled b c q r → StaysSettled a c p r
settled_on None b c p q r k g h = record { within = tt }
settled_on (Some xs) None c p q r k g h = absurd k
settled_on (Some xs) (Some ys) None p q r k g h = record { within = tt }
settled_on (Some xs) (Some ys) (Some zs) p q r k g h =
    let first : q + length xs ≤ p + length ys = g.within in
    let second : r + length ys ≤ q + length zs = h.within in record { within = omega arith }

pub keeps_stays : {a b c : Option (List ℕ)} {p q r : ℕ} → Keeps a b → q ≤ p → StaysSettled b c q r → StaysSettled a c p r
keeps_stays {a} {b} {c} {p} {q} {r} k less h = settled_on a b c p q r k (settled_keeps a b p q k less) h

settled_then : (a b c : Option (List ℕ)) (bytes : List ℕ) (p q r : ℕ) → Appends a b bytes → StaysSettled a b p q → StaysSettled b c q r
    → StaysSettled a c p r
settled_then None b c bytes p q r k g h = record { within = tt }
settled_then (Some xs) None c bytes p q r k g h = absurd k
settled_then (Some xs) (Some ys) None bytes p q r k g h = record { within = tt }
settled_then (Some xs) (Some ys) (Some zs) bytes p q r k g h =
    let first : q + length xs ≤ p + length ys = g.within in
    let second : r + length ys ≤ q + length zs = h.within in record { within = omega arith }

pub stays_flushed : {a b c : Option (List ℕ)} {bytes : List ℕ} {p q r : ℕ} → Gains a b bytes → StaysSettled a b p q → Keeps b c → r ≤ q
    → StaysSettled a c p r
stays_flushed {a} {b} {c} {bytes} {p} {q} {r} g s k less = settled_then a b c bytes p q r g.appends s (settled_keeps b c q r k less)

-- What is kept

-- what is not written yet, as it was looked at
pub kept_rest : (items seen : List ℕ) (at : ℕ) → seen ≡ items → take (length seen - at) (drop at seen) ≡ drop at items
kept_rest items seen at e = ap (λ s. take (length s - at) (drop at s)) e ∙ take_rest items at

written_on : (a c d : Option (List ℕ)) (items piece : List ℕ) (at count : ℕ) → Keeps a (append_known c (drop at items))
    → Appends c d (take count piece) → piece ≡ drop at items → Keeps a (append_known d (drop (at + count) items))
written_on None c d items piece at count k g e = tt
written_on (Some xs) None d items piece at count k g e = absurd k
written_on (Some xs) (Some ys) None items piece at count k g e = absurd g
written_on (Some xs) (Some ys) (Some zs) items piece at count k g e =
    ap (λ s. s ++ drop (at + count) items) (g ∙ ap (λ s. ys ++ take count s) e)
    ∙ (append_assoc ys (take count (drop at items)) (drop (at + count) items)
    ∙ (ap (λ s. ys ++ (take count (drop at items) ++ s)) (sym (drop-drop count at items))
    ∙ (ap (λ s. ys ++ s) (take-append-drop count (drop at items)) ∙ k)))

-- some of what is kept was written
pub kept_on : (a c d : Option (List ℕ)) (items piece : List ℕ) (at count : ℕ) → Keeps a (append_known c (drop at items))
    → Gains c d (take count piece) → piece ≡ drop at items → Keeps a (append_known d (drop (at + count) items))
kept_on a c d items piece at count k g e = written_on a c d items piece at count k g.appends e

appended : (c : Option (List ℕ)) (kept piece : List ℕ) → Appends (append_known c kept) (append_known c (kept ++ piece)) piece
appended None kept piece = tt
appended (Some xs) kept piece = sym (append_assoc xs kept piece)

-- a piece was kept
pub gains_kept : (c : Option (List ℕ)) (items now piece : List ℕ) (at : ℕ) → at ≤ length items → now ≡ items ++ piece
    → Gains (append_known c (drop at items)) (append_known c (drop at now)) piece
gains_kept c items now piece at h e =
    rw (e, drop-append-le at items piece h) (record { appends = appended c (drop at items) piece })

with_none : (c : Option (List ℕ)) → append_known c [] ≡ c
with_none None = refl
with_none (Some xs) = ap Some (append-nil xs)

-- nothing is kept, so that what is written is what comes to the sink
pub gains_written : {c d : Option (List ℕ)} {bytes : List ℕ} → Gains c d bytes → Gains (append_known c []) (append_known d []) bytes
gains_written {c} {d} {bytes} g = rw (with_none c, with_none d) g

pub part_written : {c d : Option (List ℕ)} {bytes : List ℕ} → GainsPart c d bytes → GainsPart (append_known c []) (append_known d []) bytes
part_written {c} {d} {bytes} g = rw (with_none c, with_none d) g

-- nothing is kept, and a piece was written
pub ok_behind : (a c d : Option (List ℕ)) (bytes items : List ℕ) (at : ℕ) (r : Result (Unit {0}) Fault)
    → Keeps a (append_known c (drop at items)) → length items - at ≡ 0 → OnOk r (Gains c d bytes) → OnOk r (Gains a (append_known d (drop at items)) bytes)
ok_behind a c d bytes items at (Ok done) k none g =
    let behind : Gains (append_known c (drop at items)) (append_known d (drop at items)) bytes = rw (drop_all at items (omega arith)) (gains_written g) in
    keeps_gains k behind
ok_behind a c d bytes items at (Err fault) k none g = tt

pub err_behind : (a c d : Option (List ℕ)) (bytes items : List ℕ) (at : ℕ) (r : Result (Unit {0}) Fault)
    → Keeps a (append_known c (drop at items)) → length items - at ≡ 0 → OnErr r (GainsPart c d bytes)
    → OnErr r (GainsPart a (append_known d (drop at items)) bytes)
err_behind a c d bytes items at (Ok done) k none g = tt
err_behind a c d bytes items at (Err fault) k none g =
    let behind : GainsPart (append_known c (drop at items)) (append_known d (drop at items)) bytes = rw (drop_all at items (omega arith)) (part_written g) in
    keeps_part k behind
