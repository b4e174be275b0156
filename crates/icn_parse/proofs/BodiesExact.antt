-- A procedure's expressions are read exactly.
use Rattle.std.proofs.Common.{◌≡◌, ℕ, zero, suc, ◌≤◌, Bool, true, false, ◌&&◌, ◌⊎◌, inl, inr, List, length, Option, Some, None, refl, sym, ap, subst, ◌∙◌, arith, length-append}
use Rattle.std.proofs.lemmas.Option.{none-some, same_Some}
use Rattle.std.proofs.lemmas.Bool.{false≢true}
use Rattle.icn_tree.specs.declared.token.Kind.{Kind}
use Rattle.icn_tree.specs.declared.token.Kind.TheVariants.{Word as WordKind, Punctuation as PunctuationKind}
use Rattle.icn_tree.specs.declared.token.Token.{Token}
use Rattle.icn_tree.specs.declared.token.Word.TheVariants as Words
use Rattle.icn_tree.specs.declared.token.Punctuation.TheVariants.{Semicolon}
use Rattle.icn_tree.specs.declared.tree.Place.{Place}
use Rattle.icn_tree.specs.Trees.{Tree, Trees, Empty, NoTrees, More, Initial, NoInitial, Initially}
use Rattle.icn_tree.specs.Levels.{begins, goes_on, is_present}
use Rattle.icn_tree.specs.Phrases.{next, place_of, sign}
use Rattle.icn_tree.specs.Grammar.{Part, Spells}
use Rattle.icn_tree.specs.Declarations.{SpellsInitial, SpellsBody}
use Rattle.icn_tree.proofs.ExpressionsFound.{part_started, is_nonempty, started_begins, ends_at}
use Rattle.icn_tree.proofs.OneExpressionTree.{every_tree_found}
use Rattle.icn_tree.proofs.FormStretches.{framed}
use Rattle.icn_expr.proofs.Automaton.{climbing_level}
use Rattle.icn_expr.specs.Capped.{with_last}
use Rattle.icn_expr.specs.Automata.{Builds, behind}
use Rattle.icn_expr.specs.Reading.{expression_read}
use Rattle.icn_expr.proofs.ReadByGrammar.{Ends}
use Rattle.icn_expr.proofs.SameSteps.{Shows}
use Rattle.icn_expr.proofs.Exact.{expression_found, expression_sound}
use Rattle.icn_parse.specs.FileReading.{Reads, is_semicolon, is_initial, is_end, local_kind, sign_read, initial_by, initial_read, body_by, body_read}
use Rattle.icn_parse.proofs.NamesExact.{bind_parts, next_sign, sign_found, sign_sound}
use Rattle.icn_parse.proofs.HeadsExact.{bind_of_some, semicolon_tests, initial_tests, sign_at_place, sign_shorter}

-- What stands first

part_first : (tree : Tree) (here middle : List Token) → Part 1 tree (Spells tree) here middle → goes_on 1 (next middle) ≡ false → begins (next here) ≡ true
part_first tree here middle p e = started_begins 1 here (tree, middle) (part_started 1 tree (every_tree_found tree) (omega arith) here middle p e)

present_first : (tree : Tree) → is_present tree ≡ true → (here middle : List Token) → Part 0 tree (Spells tree) here middle → goes_on 1 (next middle) ≡ false
    → begins (next here) ≡ true
present_first tree present here middle p e =
    part_first tree here middle (record { fits = is_nonempty tree here middle p.spells present; spells = p.spells; longest = p.longest }) e

optional_first : (tree : Tree) (here middle : List Token) → Part 0 tree (Spells tree) here middle → goes_on 1 (next middle) ≡ false
    → (begins (next here) ≡ true) ⊎ (here ≡ middle)
optional_first Empty here middle p e = inr p.spells
optional_first tree here middle p e = inl (present_first tree refl here middle p e)

opens : (P : Option Kind → Type 0) → ((kind : Option Kind) → begins kind ≡ true → P kind) → (here middle : List Token) → P (next middle)
    → (begins (next here) ≡ true) ⊎ (here ≡ middle) → P (next here)
opens P b here middle m (inl e) = b (next here) e
opens P b here middle m (inr e) = subst (λ tokens. P (next tokens)) (sym e) m

element_opens : (P : Option Kind → Type 0) → ((kind : Option Kind) → begins kind ≡ true → P kind) → P (Some (PunctuationKind Semicolon))
    → (tree : Tree) (here middle after : List Token) → Part 0 tree (Spells tree) here middle → sign (PunctuationKind Semicolon) middle after → P (next here)
element_opens P b semicolon tree here middle after p s =
    opens P b here middle (subst P (sym (next_sign (PunctuationKind Semicolon) middle after s)) semicolon)
    (optional_first tree here middle p (ends_at 1 (PunctuationKind Semicolon) middle after s refl))

body_opens : (P : Option Kind → Type 0) → ((kind : Option Kind) → begins kind ≡ true → P kind) → P (Some (PunctuationKind Semicolon))
    → (trees : Trees) (here after : List Token) → SpellsBody trees here after → P (next after) → P (next here)
body_opens P b semicolon NoTrees here after s e = subst (λ tokens. P (next tokens)) (sym s) e
body_opens P b semicolon (More tree trees) here after s e = element_opens P b semicolon tree here s.0 s.2.0 s.1 s.2.1

begins_no_local : (kind : Option Kind) → begins kind ≡ true → local_kind kind ≡ None
begins_no_local (Some (WordKind Words.Local)) e = absurd (false≢true e)
begins_no_local (Some (WordKind Words.Static)) e = absurd (false≢true e)
begins_no_local _ e = refl

begins_no_initial : (kind : Option Kind) → begins kind ≡ true → is_initial kind ≡ false
begins_no_initial (Some (WordKind Words.Initial)) e = absurd (false≢true e)
begins_no_initial _ e = refl

begins_no_end : (kind : Option Kind) → begins kind ≡ true → is_end kind ≡ false
begins_no_end (Some (WordKind Words.End)) e = absurd (false≢true e)
begins_no_end _ e = refl

-- before the end of a procedure
pub body_no_initial : (trees : Trees) (here middle after : List Token) → SpellsBody trees here middle → sign (WordKind Words.End) middle after
    → is_initial (next here) ≡ false
body_no_initial trees here middle after s e =
    body_opens (λ kind. is_initial kind ≡ false) begins_no_initial refl trees here middle s (ap is_initial (next_sign (WordKind Words.End) middle after e))

pub body_no_local : (trees : Trees) (here middle after : List Token) → SpellsBody trees here middle → sign (WordKind Words.End) middle after
    → local_kind (next here) ≡ None
body_no_local trees here middle after s e =
    body_opens (λ kind. local_kind kind ≡ None) begins_no_local refl trees here middle s (ap local_kind (next_sign (WordKind Words.End) middle after e))

pub initial_no_local : (initial : Initial) (here after : List Token) → SpellsInitial initial here after → local_kind (next after) ≡ None
    → local_kind (next here) ≡ None
initial_no_local NoInitial here after s e = ap (λ tokens. local_kind (next tokens)) s ∙ e
initial_no_local (Initially place value) here after s e = ap (λ tokens. local_kind (next tokens)) s.1

-- Lists of expressions

abbrev pub joined : Trees → Trees → Trees
joined NoTrees others = others
joined (More tree trees) others = More tree (joined trees others)

joined_last : (done : Trees) (tree : Tree) (trees : Trees) → joined (with_last done tree) trees ≡ joined done (More tree trees)
joined_last NoTrees tree trees = refl
joined_last (More first done) tree trees = ap (More first) (joined_last done tree trees)

joined_none : (done : Trees) → joined done NoTrees ≡ done
joined_none NoTrees = refl
joined_none (More first done) = ap (More first) (joined_none done)

-- an expression takes no fewer than no tokens
pub part_shorter : (level : ℕ) (tree : Tree) (here after : List Token) → Part level tree (Spells tree) here after → length after ≤ length here
part_shorter level tree here after p =
    let f = (framed tree).frames here after p.spells in
    omega (arith, ap length f.is, length-append f.taken after)

-- a semicolon goes on with nothing
semicolon_ends : (level : ℕ) (tree : Tree) (middle after : List Token)
    → (goes_on (climbing_level level) (Some (PunctuationKind Semicolon)) && is_present tree) ≡ false → sign (PunctuationKind Semicolon) middle after
    → Ends level tree middle
semicolon_ends level tree middle after e s =
    ap (λ kind. goes_on (climbing_level level) kind && is_present tree) (next_sign (PunctuationKind Semicolon) middle after s) ∙ e

module _ (V L C : Type 0) (make : Builds V L C) (show : Shows V L C make) where
  abbrev pub shown_initial : Initial → Option (Place × V)
  shown_initial NoInitial = None
  shown_initial (Initially place value) = Some (place, show.tree value)

  pub initial_found : (initial : Initial) (here after : List Token) → SpellsInitial initial here after → is_initial (next after) ≡ false
      → initial_read make here ≡ Some (shown_initial initial, after)
  initial_found NoInitial here after s e =
      ap (λ b. initial_by make b here) (ap (λ tokens. is_initial (next tokens)) s ∙ e) ∙ ap (λ tokens. Some (None, tokens)) s
  initial_found (Initially place value) here after s e =
      let end = s.2 in
      ap (initial_read make) s.1
      ∙ bind_of_some _ _ (show.tree value, end.0) _ (expression_found V L C make show 1 value s.0 end.0 end.1 (semicolon_ends 1 value end.0 after refl end.2))
      (bind_of_some _ _ after _ (sign_found is_semicolon (PunctuationKind Semicolon) semicolon_tests end.0 after end.2) refl)

  initial_step : (b : Bool) (here : List Token) (read : Option (Place × V)) (after : List Token) → is_initial (next here) ≡ b
      → initial_by make b here ≡ Some (read, after) → (initial : Initial) × SpellsInitial initial here after × (read ≡ shown_initial initial)
  initial_step true here read after i e =
      let value = bind_parts (expression_read make 1 (behind here)) _ (read, after) e in
      let end = bind_parts (sign_read is_semicolon value.0.1) _ (read, after) value.2 in
      let part = expression_sound V L C make show 1 (behind here) value.0.1 value.0.0 (omega arith) value.1 in
      let spelled : SpellsInitial (Initially (place_of here) part.tree) here end.0 = (
        behind here,
        sign_at_place is_initial (WordKind Words.Initial) initial_tests here i,
        (value.0.1, part.part, sign_sound is_semicolon (PunctuationKind Semicolon) semicolon_tests value.0.1 end.0 end.1),
      ) in
      subst (λ (r : Option (Place × V) × List Token). (initial : Initial) × SpellsInitial initial here r.1 × (r.0 ≡ shown_initial initial))
      (same_Some (Some (place_of here, value.0.0), end.0) (read, after) end.2)
      (Initially (place_of here) part.tree, spelled, ap (λ v. Some (place_of here, v)) part.is)
  initial_step false here read after i e =
      subst (λ (r : Option (Place × V) × List Token). (initial : Initial) × SpellsInitial initial here r.1 × (r.0 ≡ shown_initial initial))
      (same_Some (None, here) (read, after) e) (NoInitial, refl, refl)

  pub initial_sound : (here : List Token) (read : Option (Place × V)) (after : List Token) → initial_read make here ≡ Some (read, after)
      → (initial : Initial) × SpellsInitial initial here after × (read ≡ shown_initial initial)
  initial_sound here read after e = initial_step (is_initial (next here)) here read after refl e

  body_behind : (trees done : Trees) (here middle after : List Token) (n : ℕ) → length here ≤ n → SpellsBody trees here middle
      → sign (WordKind Words.End) middle after → body_read make (suc n) (show.trees done) here ≡ Some (show.trees (joined done trees), middle)
  body_behind NoTrees done here middle after n h s e =
      ap (λ b. body_by make b (body_read make n) (show.trees done) here)
      (ap (λ tokens. is_end (next tokens)) s ∙ ap is_end (next_sign (WordKind Words.End) middle after e))
      ∙ ap (λ tokens. Some (show.trees done, tokens)) s ∙ ap (λ trees. Some (show.trees trees, middle)) (sym (joined_none done))
  body_behind (More tree trees) done here middle after zero h s e =
      let end = s.2 in
      absurd (omega (arith, h, part_shorter 0 tree here s.0 s.1, sign_shorter (PunctuationKind Semicolon) s.0 end.0 end.1))
  body_behind (More tree trees) done here middle after (suc n) h s e =
      let end = s.2 in
      let no_end : is_end (next here) ≡ false = element_opens (λ kind. is_end kind ≡ false) begins_no_end refl tree here s.0 end.0 s.1 end.1 in
      let shorter : length end.0 ≤ n = omega (arith, h, part_shorter 0 tree here s.0 s.1, sign_shorter (PunctuationKind Semicolon) s.0 end.0 end.1) in
      ap (λ b. body_by make b (body_read make (suc n)) (show.trees done) here) no_end
      ∙ bind_of_some _ _ (show.tree tree, s.0) _ (expression_found V L C make show 0 tree here s.0 s.1 (semicolon_ends 0 tree s.0 end.0 refl end.1))
      (bind_of_some _ _ end.0 _ (sign_found is_semicolon (PunctuationKind Semicolon) semicolon_tests s.0 end.0 end.1)
      (ap (λ elements. body_read make (suc n) elements end.0) (sym (show.with_element done tree))
      ∙ body_behind trees (with_last done tree) end.0 middle after n shorter end.2 e
      ∙ ap (λ all. Some (show.trees all, middle)) (joined_last done tree trees)))

  pub body_found : (trees : Trees) (here middle after : List Token) (n : ℕ) → length here ≤ n → SpellsBody trees here middle
      → sign (WordKind Words.End) middle after → body_read make (suc n) make.no_elements here ≡ Some (show.trees trees, middle)
  body_found trees here middle after n h s e =
      ap (λ elements. body_read make (suc n) elements here) (sym show.no_elements) ∙ body_behind trees NoTrees here middle after n h s e

  abbrev BodySound : Trees → List Token → L → List Token → Type 0
  BodySound done here read after = (trees : Trees) × SpellsBody trees here after × (read ≡ show.trees (joined done trees))

  body_more : (done : Trees) (tree : Tree) (here middle rest : List Token) (read : L) (after : List Token) → Part 0 tree (Spells tree) here middle
      → sign (PunctuationKind Semicolon) middle rest → BodySound (with_last done tree) rest read after → BodySound done here read after
  body_more done tree here middle rest read after p s b = (More tree b.0, (middle, p, (rest, s, b.1)), b.2 ∙ ap show.trees (joined_last done tree b.0))

  body_step : (b : Bool) (done : Trees) (here : List Token) (others : L → Reads L) → ((last : Tree) (rest : List Token) (read : L) (after : List Token)
      → others (show.trees (with_last done last)) rest ≡ Some (read, after) → BodySound (with_last done last) rest read after)
      → (read : L) (after : List Token) → body_by make b others (show.trees done) here ≡ Some (read, after) → BodySound done here read after
  body_step true done here others f read after e =
      subst (λ (r : L × List Token). BodySound done here r.0 r.1) (same_Some (show.trees done, here) (read, after) e)
      (NoTrees, refl, ap show.trees (sym (joined_none done)))
  body_step false done here others f read after e =
      let value = bind_parts (expression_read make 0 here) _ (read, after) e in
      let end = bind_parts (sign_read is_semicolon value.0.1) _ (read, after) value.2 in
      let part = expression_sound V L C make show 0 here value.0.1 value.0.0 (omega arith) value.1 in
      let with_it : make.with_element (show.trees done) value.0.0 ≡ show.trees (with_last done part.tree) = ap (make.with_element (show.trees done)) part.is
      ∙ sym (show.with_element done part.tree) in
      body_more done part.tree here value.0.1 end.0 read after part.part
      (sign_sound is_semicolon (PunctuationKind Semicolon) semicolon_tests value.0.1 end.0 end.1)
      (f part.tree end.0 read after (ap (λ elements. others elements end.0) (sym with_it) ∙ end.2))

  body_after : (n : ℕ) (done : Trees) (here : List Token) (read : L) (after : List Token) → body_read make n (show.trees done) here ≡ Some (read, after)
      → BodySound done here read after
  body_after zero done here read after e = absurd (none-some (read, after) e)
  body_after (suc n) done here read after e =
      body_step (is_end (next here)) done here (body_read make n) (λ last. body_after n (with_last done last)) read after e

  pub body_sound : (n : ℕ) (here : List Token) (read : L) (after : List Token) → body_read make n make.no_elements here ≡ Some (read, after)
      → (trees : Trees) × SpellsBody trees here after × (read ≡ show.trees trees)
  body_sound n here read after e = body_after n NoTrees here read after (ap (λ elements. body_read make n elements here) show.no_elements ∙ e)
