-- The declarations of a program text are read exactly: the tree of the tokens is read, and what is read is that tree.
use Rattle.std.proofs.Common.{◌≡◌, ℕ, zero, suc, ◌≤◌, Bool, false, List, [], ◌∷◌, ◌++◌, length, map, Option, Some, None, refl, sym, ap, subst, ◌∙◌, arith, length-append}
use Rattle.std.proofs.lemmas.Option.{none-some, same_Some}
use Rattle.icn_tree.specs.declared.token.Kind.{Kind}
use Rattle.icn_tree.specs.declared.token.Kind.TheVariants.{Word as WordKind, Punctuation as PunctuationKind}
use Rattle.icn_tree.specs.declared.token.Token.{Token}
use Rattle.icn_tree.specs.declared.token.Word.TheVariants as Words
use Rattle.icn_tree.specs.declared.token.Punctuation.TheVariants.{OpenParenthesis, CloseParenthesis}
use Rattle.icn_tree.specs.declared.tree.Place.{Place}
use Rattle.icn_tree.specs.declared.tree.Name.{Name}
use Rattle.icn_tree.specs.Trees.{LocalDecl, Initial, NoInitial, Initially, Procedure, Declaration, Global, Link, Invocable, Record, ProcedureOf}
use Rattle.icn_tree.specs.Phrases.{Phrase, next, place_of, sign_at, sign, ◌⨾◌}
use Rattle.icn_tree.specs.Grammar.{identifier, word_at}
use Rattle.icn_tree.specs.Declarations.{SpellsMaybeNames, SpellsItem, SpellsLocals, SpellsInitial, SpellsBody, SpellsDeclaration, SpellsFile, IsTreeOf}
use Rattle.icn_tree.proofs.FormStretches.{declaration_framed}
use Rattle.icn_expr.specs.Automata.{Builds, behind, is_close_parenthesis}
use Rattle.icn_expr.proofs.SameSteps.{Shows}
use Rattle.icn_parse.specs.FileReading.{is_open_parenthesis, is_end, sign_read, name_of, item_of, some_read, maybe_names, locals_read, initial_read, body_read, DeclarationOver, GlobalOver, LinkOver, InvocableOver, RecordOver, ProcedureIs, name_read, head_read, procedure_read, record_read, declaration_by, declaration_read, file_read}
use Rattle.icn_parse.proofs.NamesExact.{bind_parts, is_comma_next, one_name, one_item, some_found, some_sound, sign_found, sign_sound}
use Rattle.icn_parse.proofs.HeadsExact.{bind_of_some, open_parenthesis_tests, close_parenthesis_tests, end_tests, sign_here, maybe_found, maybe_sound, locals_found, locals_sound, name_found, name_sound, SpellsHead, head_found, head_sound}
use Rattle.icn_parse.proofs.BodiesExact as Bodies

word_here : (kind : Kind) (here : List Token) → next here ≡ Some kind → sign_at (place_of here) kind here (behind here)
word_here kind [] e = absurd (none-some kind e)
word_here kind (token ∷ tokens) e = sign_here token tokens kind (same_Some token.kind kind e)

-- a declaration begins with a word
declaration_no_comma : (declaration : Declaration) (here after : List Token) → SpellsDeclaration declaration here after → is_comma_next (next here) ≡ false
declaration_no_comma (Global place names) here after s = ap (λ tokens. is_comma_next (next tokens)) s.1
declaration_no_comma (Link place items) here after s = ap (λ tokens. is_comma_next (next tokens)) s.1
declaration_no_comma (Invocable place items) here after s = ap (λ tokens. is_comma_next (next tokens)) s.1
declaration_no_comma (Record place name fields) here after s = ap (λ tokens. is_comma_next (next tokens)) s.1
declaration_no_comma (ProcedureOf p) here after s = ap (λ tokens. is_comma_next (next tokens)) s.1

file_no_comma : (file : List Declaration) (here : List Token) → SpellsFile file here [] → is_comma_next (next here) ≡ false
file_no_comma [] here s = ap (λ tokens. is_comma_next (next tokens)) s
file_no_comma (declaration ∷ others) here s = declaration_no_comma declaration here s.0 s.1

-- what stands behind the word of a record
abbrev SpellsRecord : Name → List Name → Phrase
SpellsRecord name fields = identifier name ⨾ sign (PunctuationKind OpenParenthesis) ⨾ SpellsMaybeNames fields ⨾ sign (PunctuationKind CloseParenthesis)

procedure_spelled : (p : Procedure) (here tokens inside b c d after : List Token) → word_at p.place Words.Procedure here tokens
    → SpellsHead p.name p.parameters p.is_variadic tokens inside → SpellsLocals p.locals inside b → SpellsInitial p.initial b c → SpellsBody p.body c d
    → sign (WordKind Words.End) d after
    → SpellsDeclaration (ProcedureOf p) here after
procedure_spelled p here tokens inside b c d after w h l i y e =
    (tokens, w, (h.0, h.1, (h.2.0, h.2.1, (h.2.2.0, h.2.2.1, (h.2.2.2.0, h.2.2.2.1, (inside, h.2.2.2.2, (b, l, (c, i, (d, y, e)))))))))

module _ (V L C : Type 0) (make : Builds V L C) (show : Shows V L C make) where
  abbrev pub shown_initial : Initial → Option (Place × V)
  shown_initial NoInitial = None
  shown_initial (Initially place value) = Some (place, show.tree value)

  abbrev pub shown_declaration : Declaration → DeclarationOver V L
  shown_declaration (Global place names) = GlobalOver place names
  shown_declaration (Link place items) = LinkOver place items
  shown_declaration (Invocable place items) = InvocableOver place items
  shown_declaration (Record place name fields) = RecordOver place name fields
  shown_declaration (ProcedureOf p) = ProcedureIs (record {
    place = p.place;
    name = p.name;
    parameters = p.parameters;
    is_variadic = p.is_variadic;
    locals = p.locals;
    initial = shown_initial p.initial;
    body = show.trees p.body;
  })

  -- Each declaration is read

  record_found : (place : Place) (name : Name) (fields : List Name) (here after : List Token) → SpellsDeclaration (Record place name fields) here after
      → declaration_read make here ≡ Some (RecordOver place name fields, after)
  record_found place name fields here after s =
      let r = s.2 in
      let q = r.2 in
      let o = q.2 in
      ap (declaration_read make) s.1
      ∙ bind_of_some _ _ (name, r.0) _ (name_found name s.0 r.0 r.1)
      (bind_of_some _ _ q.0 _ (sign_found is_open_parenthesis (PunctuationKind OpenParenthesis) open_parenthesis_tests r.0 q.0 q.1)
      (bind_of_some _ _ (fields, o.0) _ (maybe_found fields q.0 o.0 after o.1 o.2)
      (bind_of_some _ _ after _ (sign_found is_close_parenthesis (PunctuationKind CloseParenthesis) close_parenthesis_tests o.0 after o.2) refl)))

  procedure_found : (p : Procedure) (here after : List Token) → SpellsDeclaration (ProcedureOf p) here after
      → declaration_read make here ≡ Some (shown_declaration (ProcedureOf p), after)
  procedure_found p here after s =
      let r = s.2 in
      let q = r.2 in
      let o = q.2 in
      let m = o.2 in
      let l = m.2 in
      let k = l.2 in
      let j = k.2 in
      let i = j.2 in
      ap (declaration_read make) s.1
      ∙ bind_of_some _ _ (p.name, (p.parameters, p.is_variadic), l.0)
      _ (head_found p.name p.parameters p.is_variadic s.0 l.0 (r.0, r.1, (q.0, q.1, (o.0, o.1, (m.0, m.1, l.1)))))
      (bind_of_some _ _ (p.locals, k.0) _ (locals_found p.locals l.0 k.0 (length l.0) (omega arith) k.1
      (Bodies.initial_no_local p.initial k.0 j.0 j.1 (Bodies.body_no_local p.body j.0 i.0 after i.1 i.2)))
      (bind_of_some _ _ (shown_initial p.initial, j.0)
      _ (Bodies.initial_found V L C make show p.initial k.0 j.0 j.1 (Bodies.body_no_initial p.body j.0 i.0 after i.1 i.2))
      (bind_of_some _ _ (show.trees p.body, i.0) _ (Bodies.body_found V L C make show p.body j.0 i.0 after (length j.0) (omega arith) i.1 i.2)
      (bind_of_some _ _ after _ (sign_found is_end (WordKind Words.End) end_tests i.0 after i.2) refl))))

  declaration_found : (declaration : Declaration) (here after : List Token) → SpellsDeclaration declaration here after → is_comma_next (next after) ≡ false
      → declaration_read make here ≡ Some (shown_declaration declaration, after)
  declaration_found (Global place names) here after s e =
      ap (declaration_read make) s.1 ∙ bind_of_some _ _ (names, after) _ (some_found name_of identifier one_name names s.0 after s.2 e) refl
  declaration_found (Link place items) here after s e =
      ap (declaration_read make) s.1 ∙ bind_of_some _ _ (items, after) _ (some_found item_of SpellsItem one_item items s.0 after s.2 e) refl
  declaration_found (Invocable place items) here after s e =
      ap (declaration_read make) s.1 ∙ bind_of_some _ _ (items, after) _ (some_found item_of SpellsItem one_item items s.0 after s.2 e) refl
  declaration_found (Record place name fields) here after s e = record_found place name fields here after s
  declaration_found (ProcedureOf p) here after s e = procedure_found p here after s

  -- What is read is spelled

  abbrev IsRead : DeclarationOver V L → List Token → List Token → Type 0
  IsRead read here after = (declaration : Declaration) × SpellsDeclaration declaration here after × (read ≡ shown_declaration declaration)

  record_sound : (place : Place) (here tokens : List Token) (read : DeclarationOver V L) (after : List Token) → word_at place Words.Record here tokens
      → record_read place tokens ≡ Some (read, after) → IsRead read here after
  record_sound place here tokens read after w e =
      let n = bind_parts (name_read tokens) _ (read, after) e in
      let o = bind_parts (sign_read is_open_parenthesis n.0.1) _ (read, after) n.2 in
      let f = bind_parts (maybe_names o.0) _ (read, after) o.2 in
      let c = bind_parts (sign_read is_close_parenthesis f.0.1) _ (read, after) f.2 in
      let inner : SpellsRecord n.0.0 f.0.0 tokens c.0 = (
        n.0.1,
        name_sound tokens n.0.0 n.0.1 n.1,
        (
          o.0,
          sign_sound is_open_parenthesis (PunctuationKind OpenParenthesis) open_parenthesis_tests n.0.1 o.0 o.1,
          (f.0.1, maybe_sound o.0 f.0.0 f.0.1 f.1, sign_sound is_close_parenthesis (PunctuationKind CloseParenthesis) close_parenthesis_tests f.0.1 c.0 c.1),
        ),
      ) in
      subst (λ (r : DeclarationOver V L × List Token). IsRead r.0 here r.1) (same_Some (RecordOver place n.0.0 f.0.0, c.0) (read, after) c.2)
      (Record place n.0.0 f.0.0, (tokens, w, inner), refl)

  same_procedure : (place : Place) (name : Name) (parameters : List Name) (is_variadic : Bool) (locals : List LocalDecl)
      (initial other_initial : Option (Place × V)) (body other_body : L) → initial ≡ other_initial → body ≡ other_body
      → ◌≡◌ {A = DeclarationOver V L}
      (ProcedureIs (record { place = place; name = name; parameters = parameters; is_variadic = is_variadic; locals = locals; initial = initial; body = body }))
      (ProcedureIs
      (record { place = place; name = name; parameters = parameters; is_variadic = is_variadic; locals = locals; initial = other_initial; body = other_body }))
  same_procedure place name parameters is_variadic locals initial other_initial body other_body i b =
      ap (λ (x : Option (Place × V)).
      ProcedureIs (record { place = place; name = name; parameters = parameters; is_variadic = is_variadic; locals = locals; initial = x; body = body })) i
      ∙ ap (λ (y : L). ProcedureIs
      (record { place = place; name = name; parameters = parameters; is_variadic = is_variadic; locals = locals; initial = other_initial; body = y })) b

  procedure_sound : (place : Place) (here tokens : List Token) (read : DeclarationOver V L) (after : List Token) → word_at place Words.Procedure here tokens
      → procedure_read make place tokens ≡ Some (read, after) → IsRead read here after
  procedure_sound place here tokens read after w e =
      let h = bind_parts (head_read tokens) _ (read, after) e in
      let l = bind_parts (locals_read (suc (length h.0.2)) h.0.2) _ (read, after) h.2 in
      let i = bind_parts (initial_read make l.0.1) _ (read, after) l.2 in
      let b = bind_parts (body_read make (suc (length i.0.1)) make.no_elements i.0.1) _ (read, after) i.2 in
      let r = bind_parts (sign_read is_end b.0.1) _ (read, after) b.2 in
      let head = head_sound tokens h.0.0 h.0.1.0 h.0.1.1 h.0.2 h.1 in
      let initial = Bodies.initial_sound V L C make show l.0.1 i.0.0 i.0.1 i.1 in
      let body = Bodies.body_sound V L C make show (suc (length i.0.1)) i.0.1 b.0.0 b.0.1 b.1 in
      let p : Procedure =
      record { place = place; name = h.0.0; parameters = h.0.1.0; is_variadic = h.0.1.1; locals = l.0.0; initial = initial.0; body = body.0 } in
      let spelled = procedure_spelled p here tokens h.0.2 l.0.1 i.0.1 b.0.1 r.0 w head
      (locals_sound (suc (length h.0.2)) h.0.2 l.0.0 l.0.1 l.1) initial.1 body.1 (sign_sound is_end (WordKind Words.End) end_tests b.0.1 r.0 r.1) in
      let same = same_procedure place h.0.0 h.0.1.0 h.0.1.1 l.0.0 i.0.0 (shown_initial initial.0) b.0.0 (show.trees body.0) initial.2 body.2 in
      subst (λ (d : DeclarationOver V L × List Token). IsRead d.0 here d.1) (same_Some
      (ProcedureIs (record { place = place; name = h.0.0; parameters = h.0.1.0; is_variadic = h.0.1.1; locals = l.0.0; initial = i.0.0; body = b.0.0 }), r.0)
      (read, after) r.2) (ProcedureOf p, spelled, same)

  pub declaration_sound : (kind : Option Kind) (here : List Token) (read : DeclarationOver V L) (after : List Token) → next here ≡ kind
      → declaration_by make kind (place_of here) (behind here) ≡ Some (read, after) → IsRead read here after
  declaration_sound (Some (WordKind Words.Global)) here read after k e =
      let names = bind_parts (some_read name_of (behind here)) _ (read, after) e in
      subst (λ (r : DeclarationOver V L × List Token). IsRead r.0 here r.1) (same_Some (GlobalOver (place_of here) names.0.0, names.0.1) (read, after) names.2) (
        Global (place_of here) names.0.0,
        (behind here, word_here (WordKind Words.Global) here k, (some_sound name_of identifier one_name (behind here) names.0.0 names.0.1 names.1).spelled),
        refl,
      )
  declaration_sound (Some (WordKind Words.Link)) here read after k e =
      let items = bind_parts (some_read item_of (behind here)) _ (read, after) e in
      subst (λ (r : DeclarationOver V L × List Token). IsRead r.0 here r.1) (same_Some (LinkOver (place_of here) items.0.0, items.0.1) (read, after) items.2) (
        Link (place_of here) items.0.0,
        (behind here, word_here (WordKind Words.Link) here k, (some_sound item_of SpellsItem one_item (behind here) items.0.0 items.0.1 items.1).spelled),
        refl,
      )
  declaration_sound (Some (WordKind Words.Invocable)) here read after k e =
      let items = bind_parts (some_read item_of (behind here)) _ (read, after) e in
      subst (λ (r : DeclarationOver V L × List Token). IsRead r.0 here r.1)
      (same_Some (InvocableOver (place_of here) items.0.0, items.0.1) (read, after) items.2) (
        Invocable (place_of here) items.0.0,
        (behind here, word_here (WordKind Words.Invocable) here k, (some_sound item_of SpellsItem one_item (behind here) items.0.0 items.0.1 items.1).spelled),
        refl,
      )
  declaration_sound (Some (WordKind Words.Record)) here read after k e =
      record_sound (place_of here) here (behind here) read after (word_here (WordKind Words.Record) here k) e
  declaration_sound (Some (WordKind Words.Procedure)) here read after k e =
      procedure_sound (place_of here) here (behind here) read after (word_here (WordKind Words.Procedure) here k) e
  declaration_sound _ here read after k e = absurd (none-some (read, after) e)

  -- Files

  file_more : (first : DeclarationOver V L) (others : List (DeclarationOver V L)) (token : Token) (tokens here after : List Token) (n : ℕ)
      → here ≡ token ∷ tokens → declaration_read make here ≡ Some (first, after) → file_read make n after ≡ Some others
      → file_read make (suc n) here ≡ Some (first ∷ others)
  file_more first others token tokens here after n e d o =
      ap (file_read make (suc n)) e ∙ bind_of_some (declaration_read make (token ∷ tokens)) _ (first, after) _ (ap (declaration_read make) (sym e) ∙ d)
      (bind_of_some (file_read make n after) _ others _ o refl)

  -- the tree of the tokens is read
  pub file_found : (file : List Declaration) (tokens : List Token) (n : ℕ) → length tokens ≤ n → IsTreeOf file tokens
      → file_read make n tokens ≡ Some (map shown_declaration file)
  file_found [] tokens n h s = ap (file_read make n) s
  file_found (first ∷ others) tokens zero h s = absurd (omega (arith, h, ap length (declaration_framed first tokens s.0 s.1).is))
  file_found (first ∷ others) tokens (suc n) h s =
      let f = declaration_framed first tokens s.0 s.1 in
      let shorter : length s.0 ≤ n = omega (arith, h, ap length f.is, length-append f.taken s.0) in
      file_more (shown_declaration first) (map shown_declaration others) f.first (f.taken ++ s.0) tokens s.0 n f.is
      (declaration_found first tokens s.0 s.1 (file_no_comma others s.0 s.2)) (file_found others s.0 n shorter s.2)

  -- what is read is shown by the tree of the tokens
  pub file_sound : (tokens : List Token) (n : ℕ) (found : List (DeclarationOver V L)) → file_read make n tokens ≡ Some found
      → (file : List Declaration) × IsTreeOf file tokens × (found ≡ map shown_declaration file)
  file_sound [] n found e = ([], refl, sym (same_Some [] found e))
  file_sound (token ∷ tokens) zero found e = absurd (none-some found e)
  file_sound (token ∷ tokens) (suc n) found e =
      let first = bind_parts (declaration_read make (token ∷ tokens)) _ found e in
      let others = bind_parts (file_read make n first.0.1) _ found first.2 in
      let d = declaration_sound (next (token ∷ tokens)) (token ∷ tokens) first.0.0 first.0.1 refl first.1 in
      let rest = file_sound first.0.1 n others.0 others.1 in (
        d.0 ∷ rest.0,
        (first.0.1, d.1, rest.1),
        sym (same_Some (first.0.0 ∷ others.0) found others.2) ∙ ap (λ x. x ∷ others.0) d.2 ∙ ap (λ xs. shown_declaration d.0 ∷ xs) rest.2,
      )
