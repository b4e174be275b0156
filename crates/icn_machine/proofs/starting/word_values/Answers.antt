use Rattle.icn_defs.specs.Running.{text_values}
use Rattle.icn_value.specs.declared.val.Val.{Val}
use Rattle.std.proofs.Common.{◌++◌, ◌∷◌, ℕ, List, map, sym, ap, ◌∙◌}
use Rattle.std.specs.Prelude.{string_bytes}
use Rattle.std.proofs.lemmas.List.{length-map}
use Rattle.std.proofs.lemmas.List.Elements.{All-nil, All-push, All-same}
use Rattle.icn_heap.specs.Extents.{IsLive, value_in}
use Rattle.icn_heap.specs.Heaps.{extent_of, heap_of}
use Rattle.icn_vars.proofs.GrowingWorlds.{locals_grow}
use Rattle.icn_machine.proofs.StartLoops.{all_words, first_charged, one_word, one_word_charged, word_refused, words_charged, words_lack}
use Rattle.icn_machine.proofs.starting.word_values.Goals as goal

pub loop-word-init : goal.loop-word-init
loop-word-init c =
    let all = extent_of c.args.heap.now in
    record {
      live = All-same (IsLive all) _ _ c.new-vals.ensures.items (All-nil (IsLive all));
      values = ap (λ (xs : List Val). map (value_in all) xs ++ text_values (map string_bytes c.args.words.now)) c.new-vals.ensures.items;
      charged = first_charged (heap_of c.args.heap.now) (map string_bytes c.args.words.now) c.requires;
    }

pub returns-in_err-text-clause-step : goal.returns-in_err-text-clause-step
returns-in_err-text-clause-step c =
    word_refused c.from_residual.result (heap_of c.args.heap.now) (heap_of c.loop-word.heap) (heap_of c.build.new.self) c.as_bytes.result.now
    (map string_bytes c.in-Some.others.now) (map string_bytes c.loop-word.rest.now)
    (map string_bytes c.args.words.now) c.in_err-text.field-0.0 c.from_residual.ensures.1
    (ap (map string_bytes) c.in-Some.ensures.cases.0 ∙ ap (λ (w : List ℕ). w ∷ map string_bytes c.in-Some.others.now) (sym c.as_bytes.ensures.value))
    c.in_err-text.ensures.step c.loop-word.invariant.charged

pub returns-in_err-add-clause-step : goal.returns-in_err-add-clause-step
returns-in_err-add-clause-step c =
    words_lack c.from_residual-in_err-add.result (heap_of c.args.heap.now) (heap_of c.build.new.self) (map string_bytes c.args.words.now)
    c.from_residual-in_err-add.ensures.1

pub loop-word-preserved : goal.loop-word-preserved
loop-word-preserved c =
    let old = extent_of c.loop-word.heap in
    let new = extent_of c.build.new.self in
    record {
      live =
          All-same (IsLive new) _ _ c.in_ok-add.ensures
          (All-push (IsLive new) _ _ (locals_grow old new c.loop-word.vals.items c.build.ensures.kept c.loop-word.invariant.live)
          (record { live = c.in_ok-text.ensures.live }));
      values =
          one_word old new c.loop-word.vals.items c.add.new.vals.items c.in_ok-text.text c.as_bytes.result.now (map string_bytes c.in-Some.others.now)
          (map string_bytes c.loop-word.rest.now) (map string_bytes c.args.words.now)
          (ap (map string_bytes) c.in-Some.ensures.cases.0 ∙ ap (λ (w : List ℕ). w ∷ map string_bytes c.in-Some.others.now) (sym c.as_bytes.ensures.value))
          c.in_ok-add.ensures c.build.ensures.kept c.loop-word.invariant.live c.in_ok-text.ensures.bytes c.loop-word.invariant.values;
      charged =
          one_word_charged (heap_of c.args.heap.now) (heap_of c.loop-word.heap) (heap_of c.build.new.self) c.as_bytes.result.now
          (map string_bytes c.in-Some.others.now) (map string_bytes c.loop-word.rest.now) (map string_bytes c.args.words.now)
          (ap (map string_bytes) c.in-Some.ensures.cases.0 ∙ ap (λ (w : List ℕ). w ∷ map string_bytes c.in-Some.others.now) (sym c.as_bytes.ensures.value))
          c.in_ok-text.ensures.step c.loop-word.invariant.charged;
    }

pub returns-clause-values : goal.returns-clause-values
returns-clause-values c =
    all_words (extent_of c.loop-word.heap) c.loop-word.vals.items (map string_bytes c.loop-word.rest.now) (map string_bytes c.args.words.now)
    (length-map c.loop-word.rest.now string_bytes ∙ c.in_default.ensures.cases) c.loop-word.invariant.values

pub returns-clause-step : goal.returns-clause-step
returns-clause-step c =
    words_charged c.loop-word.vals (heap_of c.args.heap.now) (heap_of c.loop-word.heap) (map string_bytes c.loop-word.rest.now)
    (map string_bytes c.args.words.now) (length-map c.loop-word.rest.now string_bytes ∙ c.in_default.ensures.cases)
    c.loop-word.invariant.charged
