-- How changes of the files of a store add up.
use Rattle.std.proofs.Common.{◌≡◌, ℕ, List, [], ◌++◌, length, take, Bool, true, false, cond, refl, sym, subst, ap, inl, inr, ◌∙◌, Option, None, Some, unwrap_or, IfSome, OnErr, Ok, Err, Result, append-nil, append_assoc}
use Rattle.std.proofs.Math.Seq.{take-append_seam}
use Rattle.std.specs.Io.KnownBytes.{append_known}
use Rattle.std.specs.Str.{bytes_eq}
use Rattle.std.proofs.lemmas.Slice.Eq.{bytes_eq-Decides}
use Rattle.icn_host.specs.declared.fault.Fault.{Fault}
use Rattle.icn_host.specs.FileMaps.{FileMap, Changes, Follows, GrowsFile, GrowsFilePart, IsLeftBehind, KeepsFiles, MakesFile, MovesFile, NotHeld, ReadsPart, SetsFile, SetsPart, TakesAway, TellsFile}
use Rattle.icn_host.specs.Readers.{ReadsFirstPart}
use Rattle.icn_host.proofs.StoreChanges.{unchanged}

at_name : (name : List ℕ) (w o : Option (List ℕ)) → cond (bytes_eq name name) w o ≡ w
at_name name w o = ap (λ b. cond b w o) ((bytes_eq-Decides name name).1 refl)

known_none : (o : Option (List ℕ)) → append_known o [] ≡ o
known_none None = refl
known_none (Some xs) = ap Some (append-nil xs)

known_both : (o : Option (List ℕ)) (xs ys : List ℕ) → append_known (append_known o xs) ys ≡ append_known o (xs ++ ys)
known_both None xs ys = refl
known_both (Some zs) xs ys = ap Some (append_assoc zs xs ys)

-- a file that gained nothing
pub grows_nothing : (held : Option FileMap) (name : List ℕ) → GrowsFile held held name []
grows_nothing None name = record { follows = tt }
grows_nothing (Some files) name = record {
  follows = (
    files,
    refl,
    λ q. unchanged files name q ∙ ap (λ o. cond (bytes_eq name q) o (files q)) (sym (known_none (files name))),
  );
}

over_again : (b : Bool) (now y between x o z : Option (List ℕ)) → now ≡ cond b y between → between ≡ cond b x o → y ≡ z → now ≡ cond b z o
over_again true now y between x o z e f g = e ∙ g
over_again false now y between x o z e f g = e ∙ f

-- two changes of one file, of which the second stays
changes_over : (old between now : FileMap) (name : List ℕ) (x y z : Option (List ℕ)) → Changes old between name x → Changes between now name y
    → y ≡ z → Changes old now name z
changes_over old between now name x y z first second e q =
    over_again (bytes_eq name q) (now q) y (between q) x (old q) z (second q) (first q) e

grown_at : (old between : FileMap) (name : List ℕ) (x : Option (List ℕ)) → Changes old between name x → between name ≡ x
grown_at old between name x first = first name ∙ at_name name x (old name)

both_grown : (a b c : Option FileMap) (name xs ys : List ℕ)
    → Follows a b (λ old new. Changes old new name (append_known (old name) xs))
    → Follows b c (λ old new. Changes old new name (append_known (old name) ys))
    → Follows a c (λ old new. Changes old new name (append_known (old name) (xs ++ ys)))
both_grown None b c name xs ys g h = tt
both_grown (Some old) b c name xs ys g h =
    let next : Follows (Some g.0) c (λ old new. Changes old new name (append_known (old name) ys)) =
    subst (λ o. Follows o c (λ old new. Changes old new name (append_known (old name) ys))) g.1 h in (
      next.0,
      next.1,
      changes_over old g.0 next.0 name (append_known (old name) xs) (append_known (g.0 name) ys) (append_known (old name) (xs ++ ys)) g.2 next.2
          (ap (λ o. append_known o ys) (grown_at old g.0 name (append_known (old name) xs) g.2) ∙ known_both (old name) xs ys),
    )

-- what a file gains in two steps is one behind the other
pub grows_then : {a b c : Option FileMap} {name xs ys : List ℕ} → GrowsFile a b name xs → GrowsFile b c name ys → GrowsFile a c name (xs ++ ys)
grows_then {a} {b} {c} {name} {xs} {ys} g h = record { follows = both_grown a b c name xs ys g.follows h.follows }

-- what a file gains in one step more
pub grows_on : {a b c : Option FileMap} {name opened xs ys : List ℕ} → GrowsFile a b name xs → opened ≡ name → GrowsFile b c opened ys
    → GrowsFile a c name (xs ++ ys)
grows_on {a} {b} {c} {name} {opened} {xs} {ys} g same h = grows_then g (subst (λ n. GrowsFile b c n ys) same h)

grown_part : (xs ys whole : List ℕ) → xs ++ ys ≡ whole → xs ≡ take (length xs) whole
grown_part xs ys whole e = sym (take-append_seam xs ys) ∙ ap (λ s. take (length xs) s) e

-- a file that gained a first part
pub grows_part : {a b c : Option FileMap} {name : List ℕ} (xs ys whole : List ℕ) → GrowsFile a b name xs → c ≡ b → xs ++ ys ≡ whole
    → GrowsFilePart a c name whole
grows_part {a} {b} {c} {name} xs ys whole g same e = record {
  count = length xs;
  grows = subst (λ held. GrowsFile a held name (take (length xs) whole)) (sym same)
      (subst (λ bytes. GrowsFile a b name bytes) (grown_part xs ys whole e) g);
}

-- a file that gained all is one that gained a first part
pub part_grown : {a b : Option FileMap} {name : List ℕ} (bytes : List ℕ) → GrowsFile a b name bytes → GrowsFilePart a b name bytes
part_grown {a} {b} {name} bytes g = grows_part bytes [] bytes g refl (append-nil bytes)

filled : (a b c : Option FileMap) (name opened xs : List ℕ) → Follows a b (λ old new. Changes old new name (Some []))
    → IfSome a (λ _. opened ≡ name) → Follows b c (λ old new. Changes old new opened (append_known (old opened) xs))
    → Follows a c (λ old new. Changes old new name (Some xs))
filled None b c name opened xs g same h = tt
filled (Some old) b c name opened xs g same h =
    let there : Follows b c (λ old new. Changes old new name (append_known (old name) xs)) =
    subst (λ n. Follows b c (λ old new. Changes old new n (append_known (old n) xs))) same h in
    let next : Follows (Some g.0) c (λ old new. Changes old new name (append_known (old name) xs)) =
    subst (λ o. Follows o c (λ old new. Changes old new name (append_known (old name) xs))) g.1 there in (
      next.0,
      next.1,
      changes_over old g.0 next.0 name (Some []) (append_known (g.0 name) xs) (Some xs) g.2 next.2
          (ap (λ o. append_known o xs) (grown_at old g.0 name (Some []) g.2)),
    )

-- an empty file that was filled
pub sets_filled : {a b c : Option FileMap} {name opened xs : List ℕ} → SetsFile a b name [] → IfSome a (λ _. opened ≡ name)
    → GrowsFile b c opened xs → SetsFile a c name xs
sets_filled {a} {b} {c} {name} {opened} {xs} g same h = record { follows = filled a b c name opened xs g.follows same h.follows }

part_set : (a c : Option FileMap) (name bytes : List ℕ) (n : ℕ) → Follows a c (λ old new. Changes old new name (Some (take n bytes)))
    → Follows a c (λ old new. (content : Option (List ℕ)) × IsLeftBehind (old name) bytes content × Changes old new name content)
part_set None c name bytes n g = tt
part_set (Some old) c name bytes n g = (g.0, g.1, (Some (take n bytes), inr (inr (n, refl)), g.2))

-- an empty file that was filled in part
pub sets_filled_part : {a b c : Option FileMap} {name opened xs : List ℕ} → SetsFile a b name [] → IfSome a (λ _. opened ≡ name)
    → GrowsFilePart b c opened xs → SetsPart a c name xs
sets_filled_part {a} {b} {c} {name} {opened} {xs} g same h = record {
  follows = part_set a c name xs h.count (filled a b c name opened (take h.count xs) g.follows same h.grows.follows);
}

-- Drafts

placed_at : (b t : Bool) (now filled_draft was o w : Option (List ℕ)) → now ≡ cond b filled_draft (cond t None was) → filled_draft ≡ w
    → was ≡ cond t w o → (t ≡ true → o ≡ None) → now ≡ cond b w o
placed_at true t now filled_draft was o w e f g free = e ∙ f
placed_at false true now filled_draft was o w e f g free = e ∙ sym (free refl)
placed_at false false now filled_draft was o w e f g free = e ∙ g

free_at : (files : FileMap) (draft q : List ℕ) → files draft ≡ None → bytes_eq draft q ≡ true → files q ≡ None
free_at files draft q free e = ap files (sym ((bytes_eq-Decides draft q).0 e)) ∙ free

placed : (a b c : Option FileMap) (draft name bytes : List ℕ) → NotHeld a draft → Follows a b (λ old new. Changes old new draft (Some bytes))
    → MovesFile b c draft name → Follows a c (λ old new. Changes old new name (Some bytes))
placed None b c draft name bytes free g h = tt
placed (Some old) b c draft name bytes free g h =
    let next : MovesFile (Some g.0) c draft name = subst (λ o. MovesFile o c draft name) g.1 h in (
      next.follows.0,
      next.follows.1,
      λ q. placed_at (bytes_eq name q) (bytes_eq draft q) (next.follows.0 q) (g.0 draft) (g.0 q) (old q) (Some bytes) (next.follows.2 q)
          (grown_at old g.0 draft (Some bytes) g.2) (g.2 q) (free_at old draft q free),
    )

-- a draft that was made, filled, and took the name's place
pub draft_placed : {a b c d : Option FileMap} {draft opened name bytes : List ℕ} → MakesFile a b draft → IfSome a (λ _. opened ≡ draft)
    → GrowsFile b c opened bytes → MovesFile c d draft name → SetsFile a d name bytes
draft_placed {a} {b} {c} {d} {draft} {opened} {name} {bytes} made same grows moves = record {
  follows = placed a c d draft name bytes made.free (filled a b c draft opened bytes made.empty.follows same grows.follows) moves;
}

gone_at : (t : Bool) (now was o w : Option (List ℕ)) → now ≡ cond t None was → was ≡ cond t w o → (t ≡ true → o ≡ None) → now ≡ o
gone_at true now was o w e f free = e ∙ sym (free refl)
gone_at false now was o w e f free = e ∙ f

gone : (a b c : Option FileMap) (draft : List ℕ) (bytes : List ℕ) → NotHeld a draft → Follows a b (λ old new. Changes old new draft (Some bytes))
    → TakesAway b c draft → Follows a c (λ old new. (q : List ℕ) → new q ≡ old q)
gone None b c draft bytes free g h = tt
gone (Some old) b c draft bytes free g h =
    let next : TakesAway (Some g.0) c draft = subst (λ o. TakesAway o c draft) g.1 h in (
      next.follows.0,
      next.follows.1,
      λ q. gone_at (bytes_eq draft q) (next.follows.0 q) (g.0 q) (old q) (Some bytes) (next.follows.2 q) (g.2 q) (free_at old draft q free),
    )

-- a draft that was made, filled and taken away
pub draft_gone : {a b c d : Option FileMap} {draft opened bytes : List ℕ} → MakesFile a b draft → IfSome a (λ _. opened ≡ draft)
    → GrowsFile b c opened bytes → TakesAway c d draft → KeepsFiles a d
draft_gone {a} {b} {c} {d} {draft} {opened} {bytes} made same grows away = record {
  follows = gone a c d draft bytes made.free (filled a b c draft opened bytes made.empty.follows same grows.follows) away;
}

-- Where all is as it was

kept_same : (a : Option FileMap) → Follows a a (λ old new. (q : List ℕ) → new q ≡ old q)
kept_same None = tt
kept_same (Some files) = (files, refl, λ q. refl)

pub keeps_same : {a b : Option FileMap} → b ≡ a → KeepsFiles a b
keeps_same {a} {b} e = rw e (record { follows = kept_same a })

kept_part : (a b : Option FileMap) (name bytes : List ℕ) → Follows a b (λ old new. (q : List ℕ) → new q ≡ old q)
    → Follows a b (λ old new. (content : Option (List ℕ)) × IsLeftBehind (old name) bytes content × Changes old new name content)
kept_part None b name bytes g = tt
kept_part (Some old) b name bytes g = (g.0, g.1, (old name, inr (inl refl), λ q. g.2 q ∙ unchanged old name q))

pub keeps_part : {a b : Option FileMap} {name bytes : List ℕ} → KeepsFiles a b → SetsPart a b name bytes
keeps_part {a} {b} {name} {bytes} k = record { follows = kept_part a b name bytes k.follows }

moved_over : (old between now : FileMap) (name : List ℕ) (content : Option (List ℕ)) → ((q : List ℕ) → between q ≡ old q)
    → Changes between now name content → Changes old now name content
moved_over old between now name content k h q = h q ∙ ap (λ o. cond (bytes_eq name q) content o) (k q)

kept_then : (a b c : Option FileMap) (name bytes : List ℕ) → Follows a b (λ old new. (q : List ℕ) → new q ≡ old q) → SetsFile b c name bytes
    → Follows a c (λ old new. Changes old new name (Some bytes))
kept_then None b c name bytes g h = tt
kept_then (Some old) b c name bytes g h =
    let next : SetsFile (Some g.0) c name bytes = subst (λ o. SetsFile o c name bytes) g.1 h in
    (next.follows.0, next.follows.1, moved_over old g.0 next.follows.0 name (Some bytes) g.2 next.follows.2)

pub keeps_then_sets : {a b c : Option FileMap} {name bytes : List ℕ} → KeepsFiles a b → SetsFile b c name bytes → SetsFile a c name bytes
keeps_then_sets {a} {b} {c} {name} {bytes} k h = record { follows = kept_then a b c name bytes k.follows h }

kept_then_part : (a b c : Option FileMap) (name bytes : List ℕ) → Follows a b (λ old new. (q : List ℕ) → new q ≡ old q) → SetsPart b c name bytes
    → Follows a c (λ old new. (content : Option (List ℕ)) × IsLeftBehind (old name) bytes content × Changes old new name content)
kept_then_part None b c name bytes g h = tt
kept_then_part (Some old) b c name bytes g h =
    let next : SetsPart (Some g.0) c name bytes = subst (λ o. SetsPart o c name bytes) g.1 h in
    let content : Option (List ℕ) = next.follows.2.0 in (
      next.follows.0,
      next.follows.1,
      (
        content,
        subst (λ was. IsLeftBehind was bytes content) (g.2 name) next.follows.2.1,
        moved_over old g.0 next.follows.0 name content g.2 next.follows.2.2,
      ),
    )

pub keeps_then_part : {a b c : Option FileMap} {name bytes : List ℕ} → KeepsFiles a b → SetsPart b c name bytes → SetsPart a c name bytes
keeps_then_part {a} {b} {c} {name} {bytes} k h = record { follows = kept_then_part a b c name bytes k.follows h }

-- How calls answer

pub err_filled : {a b : Option FileMap} {name : List ℕ} (c : Option FileMap) (opened xs : List ℕ) (r : Result (Unit {0}) Fault) → SetsFile a b name []
    → IfSome a (λ _. opened ≡ name) → OnErr r (GrowsFilePart b c opened xs) → OnErr r (SetsPart a c name xs)
err_filled c opened xs (Ok done) g same h = tt
err_filled c opened xs (Err fault) g same h = sets_filled_part g same h

pub keeps_from : {a b c : Option FileMap} → b ≡ a → KeepsFiles b c → KeepsFiles a c
keeps_from {a} {b} {c} e k = subst (λ o. KeepsFiles o c) e k

-- a part of what a reader of the file tells
told_part : (held : Option FileMap) (name : List ℕ) (remaining : Option (List ℕ)) (count : ℕ) (had has : List ℕ) → TellsFile held name remaining
    → ReadsFirstPart remaining count had has → ReadsPart held name count had has
told_part None name remaining count had has told part = tt
told_part (Some files) name remaining count had has told part =
    let known : ReadsFirstPart (Some told.0) count had has = subst (λ o. ReadsFirstPart o count had has) told.2 part in
    (known.0, known.1 ∙ ap (λ o. had ++ take known.0 (take count (unwrap_or o []))) (sym told.1))

pub reads_part_told : (held : Option FileMap) (name : List ℕ) (remaining : Option (List ℕ)) (count : ℕ) (had has : List ℕ)
    → TellsFile held name remaining → ReadsFirstPart remaining count had has → ReadsPart held name count had has
reads_part_told held name remaining count had has told part = told_part held name remaining count had has told part
