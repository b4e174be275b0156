-- What texts are made of, as their pieces make them.
use Rattle.std.proofs.Common.{inl, inr, ◌≡◌, ◌∙◌, refl, sym, ap, subst, ℕ, ◌+◌, ◌-◌, ◌/◌, ◌<◌, min, List, [], ◌∷◌, ◌++◌, append-nil, length, take, drop, arith, length-drop, Result}
use Rattle.std.specs.List.{All}
use Rattle.std.proofs.lemmas.Bool.{cases_lt}
use Rattle.std.proofs.lemmas.List.{take_all, drop_all, take_min}
use Rattle.std.proofs.lemmas.List.Elements.{All-cons, All-nil}
use Rattle.icn_strings.specs.declared.piece.Origin.{Origin}
use Rattle.icn_strings.specs.declared.piece.StringPiece.{StringPiece}
use Rattle.icn_strings.specs.declared.piece.StringPiece.TheVariants.{Copies, FilledLeft, FilledRight}
use Rattle.icn_strings.specs.declared.region.Region.{Region}
use Rattle.icn_strings.specs.RepeatedBytes.{copies, filled_left, filled_right}
use Rattle.icn_strings.specs.Pieces.{CanFill, IsPieceIn, OriginIn, made_of, origin_bytes, origin_length, origin_of, piece_bytes}
use Rattle.icn_value.specs.declared.val.Val.{Val}
use Rattle.icn_value.specs.Store.{Heap}
use Rattle.icn_defs.specs.Rows.{builds}
use Rattle.icn_defs.specs.Strings.{center_text, filling_text, left_text, right_text}
use Rattle.icn_vars.specs.declared.outcome.Halt.{Halt}
use Rattle.icn_vars.specs.declared.outcome.ValueOutcome.{ValueOutcome}
use Rattle.icn_vars.specs.declared.world.World.{World}
use Rattle.icn_vars.specs.Outcomes.{answer_of}
use Rattle.icn_args.specs.RowWords.{Answers}
use Rattle.icn_strfn.specs.declared.layouts.Field.{Field}
use Rattle.icn_strfn.specs.declared.text_arguments.DefaultText.{DefaultText}
use Rattle.icn_strfn.specs.declared.text_arguments.DefaultText.TheVariants.{Blank, Upper, Lower}
use Rattle.icn_strfn.specs.Layouts.{in_field}
use Rattle.icn_strfn.specs.Stopping.{RefusesFirst}
use Rattle.icn_strfn.specs.TextArguments.{default_bytes}

-- A row and a limit, of the same bytes

pub gives_as : (old new : World) (locals : List Val) (one other : List ℕ) (result : Result ValueOutcome Halt) → one ≡ other
    → Answers old locals new locals (builds one) (answer_of result) → Answers old locals new locals (builds other) (answer_of result)
gives_as old new locals one other result same is = subst (λ bytes. Answers old locals new locals (builds bytes) (answer_of result)) same is

pub refuses_as : (heap : Heap) (one other : List ℕ) (result : Result ValueOutcome Halt) → one ≡ other → RefusesFirst heap one result
    → RefusesFirst heap other result
refuses_as heap one other result same is = subst (λ bytes. RefusesFirst heap bytes result) same is

-- One piece

pub one_is : (region : Region) (piece : StringPiece) → OriginIn region (origin_of piece) → CanFill piece → All (IsPieceIn region) (piece ∷ [])
one_is region piece is fills = All-cons (IsPieceIn region) piece [] (record { origin = is; fills = fills }) (All-nil (IsPieceIn region))

pub one_made : (region : Region) (piece : StringPiece) (bytes : List ℕ) → piece_bytes region piece ≡ bytes → made_of region (piece ∷ []) ≡ bytes
one_made region piece bytes same = append-nil (piece_bytes region piece) ∙ same

-- The pieces of a field

module _ (region : Region) (unit part : Origin) (field : Field) where
  abbrev pub field_pieces : List StringPiece
  field_pieces = FilledLeft unit field.before ∷ (Copies part 1 ∷ (FilledRight unit field.behind ∷ []))

  pub field_is : OriginIn region unit → 0 < origin_length unit → OriginIn region part → All (IsPieceIn region) field_pieces
  field_is unit_is some part_is =
      All-cons (IsPieceIn region) (FilledLeft unit field.before) (Copies part 1 ∷ (FilledRight unit field.behind ∷ []))
      (record { origin = unit_is; fills = some })
      (All-cons (IsPieceIn region) (Copies part 1) (FilledRight unit field.behind ∷ []) (record { origin = part_is; fills = tt })
      (All-cons (IsPieceIn region) (FilledRight unit field.behind) [] (record { origin = unit_is; fills = some }) (All-nil (IsPieceIn region))))

  pub field_made : (text fill : List ℕ) → origin_bytes region unit ≡ fill → origin_bytes region part ≡ take field.len (drop field.from text)
      → made_of region field_pieces ≡ in_field field text fill
  field_made text fill unit_is part_is =
      let behind : List ℕ = filled_right field.behind fill in
      ap (λ ys. filled_left field.before ys ++ (copies 1 (origin_bytes region part) ++ (filled_right field.behind ys ++ []))) unit_is
      ∙ (ap (λ ys. filled_left field.before fill ++ (copies 1 (origin_bytes region part) ++ ys)) (append-nil behind)
      ∙ (ap (λ ys. filled_left field.before fill ++ (ys ++ behind)) (append-nil (origin_bytes region part))
      ∙ ap (λ ys. filled_left field.before fill ++ (ys ++ behind)) part_is))

-- What fills a field

pub blank_fills : (bytes : List ℕ) → length bytes ≡ 0 → 32 ∷ [] ≡ filling_text bytes
blank_fills [] none = refl
blank_fills (byte ∷ bytes) none = absurd (omega (arith, none))

pub some_fill : (bytes : List ℕ) → 0 < length bytes → bytes ≡ filling_text bytes
some_fill [] some = absurd (omega (arith, some))
some_fill (byte ∷ bytes) some = refl

pub default_fills : (default : DefaultText) → default_bytes default ≡ filling_text (default_bytes default)
default_fills Blank = refl
default_fills Upper = refl
default_fills Lower = refl

pub default_some : (default : DefaultText) → 0 < length (default_bytes default)
default_some Blank = omega arith
default_some Upper = omega arith
default_some Lower = omega arith

-- The layouts

-- a front is no longer than the text
front_is : (text : List ℕ) (width : ℕ) → take (length text - (length text - width)) text ≡ take width text
front_is text width =
    let least : length text - (length text - width) ≡ min width (length text) = omega arith in ap (λ n. take n text) least ∙ take_min width text

no_fill_right : (fill : List ℕ) → filled_right 0 fill ≡ []
no_fill_right fill = drop_all (length (copies 0 fill) - 0) (copies 0 fill) (omega arith)

-- a text at the left end
pub left_is : (text fill : List ℕ) (width : ℕ)
    → filled_left 0 (filling_text fill) ++ (take (length text - (length text - width)) (drop 0 text) ++ filled_right (width - length text) (filling_text fill))
    ≡ left_text text width fill
left_is text fill width = ap (λ ys. ys ++ filled_right (width - length text) (filling_text fill)) (front_is text width)

-- at the right end
pub right_is : (text fill : List ℕ) (width : ℕ)
    → filled_left (width - length text) (filling_text fill)
    ++ (take (length text - (length text - width)) (drop (length text - width) text) ++ filled_right 0 (filling_text fill))
    ≡ right_text text width fill
right_is text fill width =
    let lost : ℕ = length text - width in
    let before : List ℕ = filled_left (width - length text) (filling_text fill) in
    ap (λ ys. before ++ (take (length text - lost) (drop lost text) ++ ys)) (no_fill_right (filling_text fill))
    ∙ (ap (λ ys. before ++ ys) (append-nil (take (length text - lost) (drop lost text)))
    ∙ ap (λ ys. before ++ ys) (take_all (length text - lost) (drop lost text) (omega (arith, length-drop lost text))))

-- in the middle
middle_part : (text : List ℕ) (width from : ℕ) → take (length text - (length text - width)) (drop from text) ≡ take width (drop from text)
middle_part text width from =
    let rest : length (drop from text) ≡ length text - from = length-drop from text in
    elim (cases_lt width (length text)) [
      | inl less ↦ (let same : length text - (length text - width) ≡ width = omega (arith, less) in ap (λ n. take n (drop from text)) same)
      | inr most ↦
          take_all (length text - (length text - width)) (drop from text) (omega (arith, most, rest))
          ∙ sym (take_all width (drop from text) (omega (arith, most, rest)))
    ]

middle_is : (text : List ℕ) (width : ℕ)
    → take (length text - (length text - width)) (drop ((length text - width) - (length text - width) / 2) text)
    ≡ take width (drop ((length text - width + 1) / 2) text)
middle_is text width =
    let lost : ℕ = length text - width in
    let half : lost - lost / 2 ≡ (lost + 1) / 2 = omega arith in
    ap (λ n. take (length text - lost) (drop n text)) half ∙ middle_part text width ((lost + 1) / 2)

pub center_is : (text fill : List ℕ) (width : ℕ)
    → filled_left ((width - length text) / 2) (filling_text fill)
    ++ (take (length text - (length text - width)) (drop ((length text - width) - (length text - width) / 2) text)
    ++ filled_right ((width - length text) - (width - length text) / 2) (filling_text fill))
    ≡ center_text text width fill
center_is text fill width =
    let missing : ℕ = width - length text in
    ap (λ ys. filled_left (missing / 2) (filling_text fill) ++ (ys ++ filled_right (missing - missing / 2) (filling_text fill))) (middle_is text width)

-- The layouts, with numbers that were computed

module _ (text fill : List ℕ) (len width missing lost : ℕ) (same : length text ≡ len) (short : missing ≡ width - len) (long : lost ≡ len - width) where
  part_long : len - lost ≡ length text - (length text - width)
  part_long = omega (arith, same, long)

  missing_is : missing ≡ width - length text
  missing_is = omega (arith, same, short)

  lost_is : lost ≡ length text - width
  lost_is = omega (arith, same, long)

  pub left_field : filled_left 0 (filling_text fill) ++ (take (len - lost) (drop 0 text) ++ filled_right missing (filling_text fill))
      ≡ left_text text width fill
  left_field =
      ap (λ n. filled_left 0 (filling_text fill) ++ (take n (drop 0 text) ++ filled_right missing (filling_text fill))) part_long
      ∙ (ap (λ n. filled_left 0 (filling_text fill) ++ (take (length text - (length text - width)) (drop 0 text) ++ filled_right n (filling_text fill)))
      missing_is ∙ left_is text fill width)

  pub right_field : filled_left missing (filling_text fill) ++ (take (len - lost) (drop lost text) ++ filled_right 0 (filling_text fill))
      ≡ right_text text width fill
  right_field =
      ap (λ n. filled_left missing (filling_text fill) ++ (take n (drop lost text) ++ filled_right 0 (filling_text fill))) part_long
      ∙ (ap (λ n. filled_left missing (filling_text fill)
      ++ (take (length text - (length text - width)) (drop n text) ++ filled_right 0 (filling_text fill))) lost_is
      ∙ (ap (λ n. filled_left n (filling_text fill)
      ++ (take (length text - (length text - width)) (drop (length text - width) text) ++ filled_right 0 (filling_text fill))) missing_is
      ∙ right_is text fill width))

  pub center_field : filled_left (missing / 2) (filling_text fill)
      ++ (take (len - lost) (drop (lost - lost / 2) text) ++ filled_right (missing - missing / 2) (filling_text fill))
      ≡ center_text text width fill
  center_field =
      ap (λ n. filled_left (missing / 2) (filling_text fill)
      ++ (take n (drop (lost - lost / 2) text) ++ filled_right (missing - missing / 2) (filling_text fill))) part_long
      ∙ (ap (λ n. filled_left (missing / 2) (filling_text fill)
      ++ (take (length text - (length text - width)) (drop (n - n / 2) text) ++ filled_right (missing - missing / 2) (filling_text fill))) lost_is
      ∙ (ap (λ n. filled_left (n / 2) (filling_text fill)
      ++ (take (length text - (length text - width)) (drop ((length text - width) - (length text - width) / 2) text)
      ++ filled_right (n - n / 2) (filling_text fill))) missing_is
      ∙ center_is text fill width))
