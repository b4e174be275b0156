-- What a phrase takes is a stretch of tokens, which it takes before other tokens too, and in which no declaration begins.
use Rattle.std.proofs.Common.{◌≡◌, ℕ, ◌+◌, ◌≤◌, Bool, true, false, List, [], ◌∷◌, ◌++◌, length, refl, sym, ap, subst, ◌∙◌, arith, append_assoc, length-append}
use Rattle.icn_tree.specs.declared.token.Kind.{Kind}
use Rattle.icn_tree.specs.declared.token.Token.{Token}
use Rattle.icn_tree.specs.declared.tree.Place.{Place}
use Rattle.icn_tree.specs.Trees.{Tree}
use Rattle.icn_tree.specs.Wants.{wants}
use Rattle.icn_tree.specs.Phrases.{Phrase, next, place_of, token_at, nothing, sign_at, sign, ◌⨾◌, starts_at}
use Rattle.icn_tree.specs.Pieces.{kind_declares}
use Rattle.icn_tree.specs.Grammar.{Part, Spells}

-- no declaration begins in these tokens
abbrev pub Plain : List Token → Type 0
Plain [] = Unit {0}
Plain (token ∷ tokens) = (kind_declares token.kind ≡ false) × Plain tokens

pub plain_both : (a b : List Token) → Plain a → Plain b → Plain (a ++ b)
plain_both [] b p q = q
plain_both (token ∷ a) b p q = (p.0, plain_both a b p.1 q)

-- two lists begin alike
pub record Alike (other after : List Token) : Type 0 where
  pub kind : next other ≡ next after
  pub place : place_of other ≡ place_of after

pub alike_behind : (taken other after : List Token) → Alike other after → Alike (taken ++ other) (taken ++ after)
alike_behind [] other after a = a
alike_behind (token ∷ taken) other after a = record { kind = refl; place = refl }

-- a free phrase does not depend on what stands behind it
abbrev pub May : Bool → List Token → List Token → Type 0
May true other after = Unit {0}
May false other after = Alike other after

pub record Frame (least : ℕ) (free : Bool) (p : Phrase) (here after : List Token) : Type 0 where
  pub taken : List Token
  pub is : here ≡ taken ++ after
  pub enough : least ≤ length taken
  pub plain : Plain taken
  pub again : (other : List Token) → May free other after → p (taken ++ other) other

pub record Framed (least : ℕ) (free : Bool) (p : Phrase) : Type 0 where
  pub frames : (here after : List Token) → p here after → Frame least free p here after

pub alike : (free : Bool) (other after : List Token) → Alike other after → May free other after
alike true other after a = tt
alike false other after a = a

pub nonempty_alike : (taken other after : List Token) → 1 ≤ length taken → Alike (taken ++ other) (taken ++ after)
nonempty_alike [] other after h = absurd (omega arith)
nonempty_alike (token ∷ taken) other after h = record { kind = refl; place = refl }

pub less : {least free : _} {p : Phrase} (l : ℕ) → l ≤ least → Framed least free p → Framed l free p
less l h f = record {
  frames = λ here after s. let g = f.frames here after s in
      record { taken = g.taken; is = g.is; enough = omega (arith, h, g.enough); plain = g.plain; again = g.again };
}

pub bound : {least : ℕ} {p : Phrase} → Framed least true p → Framed least false p
bound f = record {
  frames = λ here after s. let g = f.frames here after s in
      record { taken = g.taken; is = g.is; enough = g.enough; plain = g.plain; again = λ other a. g.again other tt };
}

-- one phrase and then another
joined : (p q : Phrase) (l k m : ℕ) (f g h : Bool) (here between after : List Token) → (a : Frame l f p here between) → (b : Frame k g q between after)
    → m ≤ l + k
    → ((other : List Token) → May h other after → May f (b.taken ++ other) (b.taken ++ after)) → ((other : List Token) → May h other after → May g other after)
    → Frame m h (p ⨾ q) here after
joined p q l k m f g h here between after a b le first second = record {
  taken = a.taken ++ b.taken;
  is = a.is ∙ ap (λ tokens. a.taken ++ tokens) b.is ∙ sym (append_assoc a.taken b.taken after);
  enough = omega (arith, le, a.enough, b.enough, length-append a.taken b.taken);
  plain = plain_both a.taken b.taken a.plain b.plain;
  again = λ other e. (
    b.taken ++ other,
    subst (λ tokens. p tokens (b.taken ++ other)) (sym (append_assoc a.taken b.taken other))
        (a.again (b.taken ++ other) (subst (λ tokens. May f (b.taken ++ other) tokens) (sym b.is) (first other e))),
    b.again other (second other e),
  );
}

pub seq : {l k : ℕ} {p q : Phrase} → Framed l false p → Framed k false q → Framed l false (p ⨾ q)
seq {l} {k} {p} {q} f g = record {
  frames = λ here after s.
      let a = f.frames here s.0 s.1 in
      let b = g.frames s.0 after s.2 in
      joined p q l k l false false false here s.0 after a b (omega arith) (λ other e. alike_behind b.taken other after e) (λ other e. e);
}

pub free_seq : {l k : ℕ} {p q : Phrase} → Framed l true p → Framed k true q → Framed l true (p ⨾ q)
free_seq {l} {k} {p} {q} f g = record {
  frames = λ here after s.
      let a = f.frames here s.0 s.1 in
      let b = g.frames s.0 after s.2 in
      joined p q l k l true true true here s.0 after a b (omega arith) (λ other e. tt) (λ other e. tt);
}

-- a free phrase that is not empty frees what stands before it
pub seq_end : {l : ℕ} {p q : Phrase} → Framed l false p → Framed 1 true q → Framed 1 true (p ⨾ q)
seq_end {l} {p} {q} f g = record {
  frames = λ here after s.
      let a = f.frames here s.0 s.1 in
      let b = g.frames s.0 after s.2 in
      joined p q l 1 1 false true true here s.0 after a b (omega arith) (λ other e. nonempty_alike b.taken other after b.enough) (λ other e. tt);
}

pub nothing_framed : Framed 0 true nothing
nothing_framed = record { frames = λ here after s. record { taken = []; is = s; enough = omega arith; plain = tt; again = λ other e. refl } }

pub sign_at_framed : (place : Place) (kind : Kind) → kind_declares kind ≡ false → Framed 1 true (sign_at place kind)
sign_at_framed place kind e =
    record { frames = λ here after s. record { taken = token_at place kind ∷ []; is = s; enough = omega arith; plain = (e, tt); again = λ other e. refl } }

pub sign_framed : (kind : Kind) → kind_declares kind ≡ false → Framed 1 true (sign kind)
sign_framed kind e = record {
  frames = λ here after s. record { taken = token_at s.0 kind ∷ []; is = s.1; enough = omega arith; plain = (e, tt); again = λ other e. (s.0, refl) };
}

pub starts_framed : {l : ℕ} {p : Phrase} (place : Place) → Framed l false p → Framed l false (starts_at place p)
starts_framed place f = record {
  frames = λ here after s.
      let a = f.frames here after s.1 in
      record {
        taken = a.taken;
        is = a.is;
        enough = a.enough;
        plain = a.plain;
        again = λ other e. ((alike_behind a.taken other after e).place ∙ ap place_of (sym a.is) ∙ s.0, a.again other e);
      };
}

pub part_framed : {l : ℕ} (level : ℕ) (tree : Tree) → Framed l false (Spells tree) → Framed l false (Part level tree (Spells tree))
part_framed level tree f = record {
  frames = λ here after s.
      let a = f.frames here after s.spells in
      record {
        taken = a.taken;
        is = a.is;
        enough = a.enough;
        plain = a.plain;
        again = λ other e. record { fits = s.fits; spells = a.again other e; longest = ap (wants tree) e.kind ∙ s.longest };
      };
}

pub seq_second : {l k : ℕ} {p q : Phrase} → Framed l false p → Framed k false q → Framed k false (p ⨾ q)
seq_second {l} {k} {p} {q} f g = record {
  frames = λ here after s.
      let a = f.frames here s.0 s.1 in
      let b = g.frames s.0 after s.2 in
      joined p q l k k false false false here s.0 after a b (omega arith) (λ other e. alike_behind b.taken other after e) (λ other e. e);
}
