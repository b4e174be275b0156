use Rattle.std.proofs.Common.{◌≡◌, ◌++◌, ◌∷◌, [], sym, ap, ◌∙◌, arith, take, drop}
use Rattle.std.proofs.lemmas.Bool.{false≢true}
use Rattle.std.proofs.lemmas.List.{nil_from_length}
use Rattle.indexmap.proofs.CallerLemmas.{insert_entry-new}
use Rattle.icn_prep.specs.TextViews.{texts_of}
use Rattle.icn_prep.specs.Words.{first_word, behind_word}
use Rattle.icn_prep.proofs.Replacement.{so_ends, so_pops, so_gives, so_long, word_given, word_replaced, byte_stays, goes, shorter, less_bytes, less_names, none_left, not_found}
use Rattle.icn_prep.proofs.replace.replace_in_line.Goals as goal

pub returns-in_default-pop : goal.returns-in_default-pop
returns-in_default-pop c =
    so_ends (texts_of c.args.texts.now).count (texts_of c.args.texts.now).text_of c.args.literal c.args.line.now c.args.most c.loop-first.given.items
    c.loop-first.outer.entries c.loop-first.state c.loop-first.rest.now c.loop-first.invariant
    (nil_from_length _ (none_left _ (λ h. let some = (c.pop.ensures.found).1 h in false≢true (rw c.in_default-pop.is at some))))
    (nil_from_length _ c.in_default.ensures.cases)

pub loop-first-preserved-in_default : goal.loop-first-preserved-in_default
loop-first-preserved-in_default c =
    so_pops (texts_of c.args.texts.now).count
    (texts_of c.args.texts.now).text_of c.args.literal c.args.line.now c.args.most c.loop-first.given.items c.loop-first.outer.entries c.pop.new.self.entries
    (c.in-Some-pop.field-0-0, c.in-Some-pop.behind) c.loop-first.state c.loop-first.rest.now c.loop-first.invariant c.in-Some-pop.ensures.entries
    (nil_from_length _ c.in_default.ensures.cases)

pub loop-first-smaller-in-Some-text_for : goal.loop-first-smaller-in-Some-text_for
loop-first-smaller-in-Some-text_for c =
    let l = c.split_at.ensures.back ∙ ap (λ n. drop n c.loop-first.rest.now) c.identifier_len.ensures.counted in
    let there = goes (texts_of c.args.texts.now).count
    (texts_of c.args.texts.now).text_of c.loop-first.outer.entries c.split_at.result.0.now c.in-Some-text_for.text.now c.in-Some-text_for.ensures.value in
    let entries : c.insert.new.self.entries ≡ c.loop-first.outer.entries ++ (c.split_at.result.0, c.split_at.result.1) ∷ [] =
    c.in_ok-insert.ensures.entries ∙ insert_entry-new _ c.loop-first.outer c.split_at.result.0 c.split_at.result.1 (not_found _ there.on) in
    let less = shorter c.loop-first.state c.in-Some.first.now c.in-Some.others.now c.loop-first.rest.now c.split_at.result.1.now
    (sym c.begins_word.ensures ∙ c.if-begins_word.true) (c.in-Some.ensures.cases).0 l in
    rw entries (less_names (texts_of c.args.texts.now).count c.loop-first.outer.entries c.loop-first.rest.now c.split_at.result.0 c.split_at.result.1
    c.in-Some-text_for.text.now there.low less c.in-Some-text_for.ensures.bounded)

pub loop-first-preserved-in-Some-text_for : goal.loop-first-preserved-in-Some-text_for
loop-first-preserved-in-Some-text_for c =
    let w : c.split_at.result.0.now ≡ first_word c.loop-first.rest.now = c.split_at.ensures.front
    ∙ ap (λ n. take n c.loop-first.rest.now) c.identifier_len.ensures.counted in
    let l : c.split_at.result.1.now ≡ behind_word c.loop-first.rest.now = c.split_at.ensures.back
    ∙ ap (λ n. drop n c.loop-first.rest.now) c.identifier_len.ensures.counted in
    let there = goes (texts_of c.args.texts.now).count
    (texts_of c.args.texts.now).text_of c.loop-first.outer.entries c.split_at.result.0.now c.in-Some-text_for.text.now c.in-Some-text_for.ensures.value in
    let entries : c.insert.new.self.entries ≡ c.loop-first.outer.entries ++ (c.split_at.result.0, c.split_at.result.1) ∷ [] =
    c.in_ok-insert.ensures.entries ∙ insert_entry-new _ c.loop-first.outer c.split_at.result.0 c.split_at.result.1 (not_found _ there.on) in
    rw entries (word_replaced (texts_of c.args.texts.now).count
    (texts_of c.args.texts.now).text_of c.args.literal c.args.line.now c.args.most c.loop-first.given.items c.loop-first.outer.entries c.loop-first.state
    c.in-Some.first.now c.in-Some.others.now c.loop-first.rest.now c.split_at.result.0 c.split_at.result.1 c.in-Some-text_for.text.now
    c.loop-first.invariant (sym c.begins_word.ensures ∙ c.if-begins_word.true) (c.in-Some.ensures.cases).0 w l c.in-Some-text_for.ensures.value)

pub returns-then-word-most : goal.returns-then-word-most
returns-then-word-most c =
    let w : c.split_at.result.0.now ≡ first_word c.loop-first.rest.now = c.split_at.ensures.front
    ∙ ap (λ n. take n c.loop-first.rest.now) c.identifier_len.ensures.counted in
    let l : c.split_at.result.1.now ≡ behind_word c.loop-first.rest.now = c.split_at.ensures.back
    ∙ ap (λ n. drop n c.loop-first.rest.now) c.identifier_len.ensures.counted in
    so_long (texts_of c.args.texts.now).count
    (texts_of c.args.texts.now).text_of c.args.literal c.args.line.now c.args.most c.loop-first.given.items c.loop-first.outer.entries c.loop-first.state
    c.loop-first.state c.loop-first.rest.now c.split_at.result.1.now c.split_at.result.0.now c.loop-first.invariant
    (word_given (texts_of c.args.texts.now).count (texts_of c.args.texts.now).text_of c.loop-first.outer.entries c.loop-first.state c.in-Some.first.now
    c.in-Some.others.now c.loop-first.rest.now c.split_at.result.0.now c.split_at.result.1.now
    (sym c.begins_word.ensures ∙ c.if-begins_word.true) (c.in-Some.ensures.cases).0 w l c.in_default-text_for.ensures.value)
    (omega (arith, c.len.ensures, c.loop-first.invariant.within))

pub loop-first-smaller-then-begins_word : goal.loop-first-smaller-then-begins_word
loop-first-smaller-then-begins_word c =
    let l : c.split_at.result.1.now ≡ behind_word c.loop-first.rest.now = c.split_at.ensures.back
    ∙ ap (λ n. drop n c.loop-first.rest.now) c.identifier_len.ensures.counted in
    less_bytes (texts_of c.args.texts.now).count c.loop-first.outer.entries c.loop-first.rest.now c.split_at.result.1.now
    (shorter c.loop-first.state c.in-Some.first.now c.in-Some.others.now c.loop-first.rest.now c.split_at.result.1.now
    (sym c.begins_word.ensures ∙ c.if-begins_word.true) (c.in-Some.ensures.cases).0 l)

pub loop-first-preserved-then-begins_word : goal.loop-first-preserved-then-begins_word
loop-first-preserved-then-begins_word c =
    let w : c.split_at.result.0.now ≡ first_word c.loop-first.rest.now = c.split_at.ensures.front
    ∙ ap (λ n. take n c.loop-first.rest.now) c.identifier_len.ensures.counted in
    let l : c.split_at.result.1.now ≡ behind_word c.loop-first.rest.now = c.split_at.ensures.back
    ∙ ap (λ n. drop n c.loop-first.rest.now) c.identifier_len.ensures.counted in
    rw c.in_ok-extend_from_slice.ensures.items (so_gives (texts_of c.args.texts.now).count
    (texts_of c.args.texts.now).text_of c.args.literal c.args.line.now c.args.most c.loop-first.given.items c.loop-first.outer.entries c.loop-first.state
    c.loop-first.state c.loop-first.rest.now c.split_at.result.1.now c.split_at.result.0.now c.loop-first.invariant
    (word_given (texts_of c.args.texts.now).count (texts_of c.args.texts.now).text_of c.loop-first.outer.entries c.loop-first.state c.in-Some.first.now
    c.in-Some.others.now c.loop-first.rest.now c.split_at.result.0.now c.split_at.result.1.now
    (sym c.begins_word.ensures ∙ c.if-begins_word.true) (c.in-Some.ensures.cases).0 w l c.in_default-text_for.ensures.value)
    (omega (arith, c.len.ensures, c.loop-first.invariant.within)))

pub returns-then-len-most : goal.returns-then-len-most
returns-then-len-most c =
    so_long (texts_of c.args.texts.now).count (texts_of c.args.texts.now).text_of c.args.literal c.args.line.now c.args.most c.loop-first.given.items
    c.loop-first.outer.entries c.loop-first.state _ c.loop-first.rest.now c.in-Some.others.now (c.in-Some.first.now ∷ []) c.loop-first.invariant
    (byte_stays (texts_of c.args.texts.now).count (texts_of c.args.texts.now).text_of c.loop-first.outer.entries c.loop-first.state c.in-Some.first.now
    c.in-Some.others.now c.loop-first.rest.now (sym c.begins_word.ensures ∙ c.if-begins_word.false) (c.in-Some.ensures.cases).0)
    (omega (arith, c.len-else-begins_word.ensures, c.if-len-most.true))

pub loop-first-smaller : goal.loop-first-smaller
loop-first-smaller c =
    less_bytes (texts_of c.args.texts.now).count c.loop-first.outer.entries c.loop-first.rest.now c.in-Some.others.now
    (omega (arith, (c.in-Some.ensures.cases).1))

pub loop-first-preserved : goal.loop-first-preserved
loop-first-preserved c =
    rw (c.in_ok-push.ensures.items, c.after-state.ensures)
    (so_gives (texts_of c.args.texts.now).count (texts_of c.args.texts.now).text_of c.args.literal c.args.line.now c.args.most c.loop-first.given.items
    c.loop-first.outer.entries c.loop-first.state _ c.loop-first.rest.now c.in-Some.others.now (c.in-Some.first.now ∷ []) c.loop-first.invariant
    (byte_stays (texts_of c.args.texts.now).count (texts_of c.args.texts.now).text_of c.loop-first.outer.entries c.loop-first.state c.in-Some.first.now
    c.in-Some.others.now c.loop-first.rest.now (sym c.begins_word.ensures ∙ c.if-begins_word.false) (c.in-Some.ensures.cases).0)
    (omega (arith, c.len-else-begins_word.ensures, c.loop-first.invariant.within, c.if-len-most.false)))
