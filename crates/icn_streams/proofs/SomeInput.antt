-- Some input that gives what was read.
use Rattle.std.proofs.Common.{◌≡◌, ◌∙◌, refl, sym, ap, subst, ℕ, zero, suc, ◌≤◌, nat_lt, Bool, true, false, List, [], ◌∷◌, ◌++◌, length, take, drop, Option, None, Some, Result, Ok, Err, arith, lt-ltb}
use Rattle.std.specs.Prelude.{IfSome, IsErrAnd}
use Rattle.std.specs.List.{position_or_len}
use Rattle.std.proofs.lemmas.Bool.Decides.{nat_tests}
use Rattle.std.proofs.lemmas.List.Folds.{prefix_len-append}
use Rattle.std.proofs.Math.Seq.{take-append_seam}
use Rattle.icn_host.specs.FileMaps.{StoreState}
use Rattle.icn_host.specs.Sources.{ExtendsByLine, is_newline}
use Rattle.icn_value.specs.declared.val.Span.{Span}
use Rattle.icn_value.specs.Store.{Request, ALine, SomeBytes, Outside}
use Rattle.icn_defs.specs.Calls.{Passes}
use Rattle.icn_defs.specs.Interruptions.{LosesPart, TellsMap, asked_of, after_reading}
use Rattle.icn_defs.specs.Rows.{costs_bytes}
use Rattle.icn_heap.specs.Extents.{text_in}
use Rattle.icn_heap.specs.Heaps.{extent_of}
use Rattle.icn_vars.specs.Stops.{StopsPassing, halt_of}
use Rattle.icn_vars.specs.declared.stop.Stop.{Stop}
use Rattle.icn_vars.specs.declared.outcome.Halt.{Halt}
use Rattle.icn_vars.specs.declared.outcome.Halt.TheVariants.{ReadFault, NoMemory}
use Rattle.icn_streams.specs.Answers.{Allows, AllowsBehind, CallState, IsTold, Told, setting_with, state_telling}
use Rattle.icn_streams.specs.Readings.{Fills, FillsOfSome, ReadsOfSome}
use Rattle.icn_streams.proofs.IdleCalls.{allows_own, allows_still, told_of}
use Rattle.icn_streams.proofs.NextRead.{reads_err, reads_none, reads_some}

-- what has no newline is the line in front of one
line_part : (line : List ℕ) → position_or_len is_newline line ≡ length line → position_or_len is_newline (line ++ 10 ∷ []) ≡ length line
line_part line plain = grind (arith, nat_tests, prefix_len-append)

some_there : (line : List ℕ) → true ≡ nat_lt 0 (length (line ++ 10 ∷ []))
some_there [] = refl
some_there (byte ∷ bytes) = sym (lt-ltb 0 (suc (length (bytes ++ 10 ∷ []))) (omega arith))

line_of_some : (line : List ℕ) → position_or_len is_newline line ≡ length line → FillsOfSome ALine true line
line_of_some line plain = record {
  left = line ++ 10 ∷ [];
  fills = record {
    found = some_there line;
    read = sym (ap (λ n. take n (line ++ 10 ∷ [])) (line_part line plain) ∙ take-append_seam line (10 ∷ []));
    rest = refl;
  };
}

taken_whole : (count : ℕ) (bytes : List ℕ) → length bytes ≤ count → take count bytes ≡ bytes
taken_whole zero [] few = refl
taken_whole zero (byte ∷ bytes) few = absurd (omega arith)
taken_whole (suc count) [] few = refl
taken_whole (suc count) (byte ∷ bytes) few = ap (λ rest. byte ∷ rest) (taken_whole count bytes (omega arith))

-- nothing is read where nothing is left
none_of_some : (asked : Request) → FillsOfSome asked false []
none_of_some ALine = record { left = []; fills = record { found = refl; read = refl; rest = refl } }
none_of_some (SomeBytes count) = record {
  left = [];
  fills = record {
    found = ap (λ bytes. nat_lt 0 (length bytes)) (sym (taken_whole count [] (omega arith)));
    read = sym (taken_whole count [] (omega arith));
    rest = refl;
  };
}

-- a line that a source gave, or nothing
pub line_read : (there : Bool) (had has : List ℕ) → had ≡ [] → ExtendsByLine had has → (there ≡ false → has ≡ had) → FillsOfSome ALine there has
line_read true had has empty extends none =
    let same : has ≡ extends.line = extends.is ∙ ap (λ front. front ++ extends.line) empty in
    subst (FillsOfSome ALine true) (sym same) (line_of_some extends.line extends.plain)
line_read false had has empty extends none = subst (FillsOfSome ALine false) (sym (none refl ∙ empty)) (none_of_some ALine)

-- What a call was answered that read

-- some first part was taken of some input: of the one that is told, where it is
pub record LosesSo (asked : Request) (told after : Option (List ℕ)) : Type 0 where
  pub had : List ℕ
  pub has : List ℕ
  pub part : LosesPart had (asked_of asked had) (Some has)
  pub own : IfSome told (λ left. left ≡ had)
  pub behind : IfSome told (λ left. after ≡ Some has)

pub loses_so : (asked : Request) (told after : Option (List ℕ)) → IfSome told (λ left. LosesPart left (asked_of asked left) after) → LosesSo asked told after
loses_so asked None after lost = record {
  had = [];
  has = [];
  part = record { count = 0; within = omega arith; is = refl };
  own = tt;
  behind = tt;
}
loses_so asked (Some left) after lost = record {
  had = left;
  has = drop lost.count left;
  part = record { count = lost.count; within = lost.within; is = refl };
  own = refl;
  behind = lost.is;
}

-- all was taken of some input
pub record FillsSo (asked : Request) (there : Bool) (held : List ℕ) (told after : Option (List ℕ)) : Type 0 where
  pub had : List ℕ
  pub fills : Fills asked had there held (Some (drop (asked_of asked had) had))
  pub own : IfSome told (λ left. left ≡ had)
  pub behind : IfSome told (λ left. after ≡ Some (drop (asked_of asked had) had))

pub fills_so : (asked : Request) (there : Bool) (held : List ℕ) (told after : Option (List ℕ)) → IfSome told (λ left. Fills asked left there held after)
    → FillsOfSome asked there held → FillsSo asked there held told after
fills_so asked there held None after fills some = record { had = some.left; fills = some.fills; own = tt; behind = tt }
fills_so asked there held (Some left) after fills some = record {
  had = left;
  fills = record { found = fills.found; read = fills.read; rest = refl };
  own = refl;
  behind = fills.rest;
}

module _ (asked : Request) (before after : CallState) (kept : after.handed.files ≡ before.handed.files) where
  -- an input that had this, with the files that are told
  abbrev told_with : List ℕ → Told
  told_with left = record { left = left; files = (told_of before.handed).files }

  allowed_with : (left : List ℕ) → IfSome before.handed.left (λ l. l ≡ left) → Allows before.handed (told_with left)
  allowed_with left own = record { left = own; files = (allows_own before.handed).files }

  allows_with : (left : List ℕ) → IfSome before.handed.left (λ l. after.handed.left ≡ Some left)
      → AllowsBehind before.handed after.handed (told_with left)
  allows_with left behind = record {
    left = behind;
    files = subst (λ (s : StoreState). IfSome before.handed.files.held (λ was. TellsMap s.held (told_of before.handed).files)) (sym kept)
        (allows_still before.handed).files;
  }

  module _ (there : Bool) (held bytes : List ℕ) (so : FillsSo asked there held before.handed.left after.handed.left) where
    abbrev rest : List ℕ
    rest = drop (asked_of asked so.had) so.had

    filled : (was : Outside) → IsTold (told_with so.had) was → Fills asked was.left there held (Some rest)
    filled was is = subst (λ left. Fills asked left there held (Some rest)) (sym is.left) so.fills

    pub some_text : (span : Span) → there ≡ true → bytes ≡ held → text_in (extent_of after.world.heap) span ≡ bytes
        → ((outside : Outside) → Passes (costs_bytes (length bytes)) (setting_with outside before) (setting_with outside after))
        → ReadsOfSome asked before after (Ok (Some span))
    some_text span met same text step = record {
      had = told_with so.had;
      has = told_with rest;
      same = refl;
      allowed = allowed_with so.had so.own;
      allows = allows_with rest so.behind;
      reads = λ was is. reads_some asked was (state_telling (told_with so.had) before) (state_telling (told_with rest) after) there held bytes span
          (filled was is) met same text (step (after_reading asked was));
    }

    pub some_none : there ≡ false → ((outside : Outside) → setting_with outside before ≡ setting_with outside after) → ReadsOfSome asked before after (Ok None)
    some_none missed same = record {
      had = told_with so.had;
      has = told_with rest;
      same = refl;
      allowed = allowed_with so.had so.own;
      allows = allows_with rest so.behind;
      reads = λ was is. reads_none asked was (state_telling (told_with so.had) before) (state_telling (told_with rest) after) there held (filled was is)
          missed (same (after_reading asked was));
    }

    pub some_err : (stop : Stop) (result : Result (Option Span) Halt) → there ≡ true → bytes ≡ held
        → ((outside : Outside)
        → StopsPassing (extent_of after.world.heap) (costs_bytes (length bytes)) (setting_with outside before) (setting_with outside after) stop)
        → IsErrAnd result (λ halt. halt ≡ halt_of stop) → ReadsOfSome asked before after result
    some_err stop result met same step is = record {
      had = told_with so.had;
      has = told_with rest;
      same = refl;
      allowed = allowed_with so.had so.own;
      allows = allows_with rest so.behind;
      reads = λ was first. reads_err asked was (state_telling (told_with so.had) before) (state_telling (told_with rest) after) there held bytes stop
          result (filled was first) met same (step (after_reading asked was)) is;
    }

  module _ (so : LosesSo asked before.handed.left after.handed.left) where
    lost : (was : Outside) → IsTold (told_with so.had) was → LosesPart was.left (asked_of asked was.left) (Some so.has)
    lost was is = subst (λ left. LosesPart left (asked_of asked left) (Some so.has)) (sym is.left) so.part

    pub some_fault : ReadsOfSome asked before after (Err ReadFault)
    some_fault = record {
      had = told_with so.had;
      has = told_with so.has;
      same = refl;
      allowed = allowed_with so.had so.own;
      allows = allows_with so.has so.behind;
      reads = lost;
    }

    pub some_want : ReadsOfSome asked before after (Err NoMemory)
    some_want = record {
      had = told_with so.had;
      has = told_with so.has;
      same = refl;
      allowed = allowed_with so.had so.own;
      allows = allows_with so.has so.behind;
      reads = lost;
    }
