-- What a call of the store of files leaves of all that is told.
use Rattle.std.proofs.Common.{◌≡◌, ◌∙◌, refl, sym, ap, subst, ℕ, List, [], ◌∷◌, Option, Some}
use Rattle.std.specs.Prelude.{IfSome}
use Rattle.icn_host.specs.FileMaps.{FileMap, StoreState}
use Rattle.icn_host.proofs.KeptSteps.{gains_keeps}
use Rattle.icn_host.proofs.SinkSteps.{gains_nothing}
use Rattle.icn_value.specs.Store.{FileReading, Outside}
use Rattle.icn_defs.specs.Interruptions.{StandsBehind, StandsInFiles, TellsMap}
use Rattle.icn_defs.proofs.Interruptions.{holds_kept, holds_told}
use Rattle.icn_streams.specs.Answers.{AllowsBehind, Told, streams_telling}
use Rattle.icn_streams.specs.Handed.{CallStreams, FilesFail, TellsOutside, streams_of}
use Rattle.icn_streams.specs.Settling.{HoldsBoth}
use Rattle.icn_streams.proofs.IdleCalls.{allows_still, told_of}
use Rattle.icn_filefn.specs.OpenParts.{HoldsAll, LooksUp}

-- all holds what it held

pub of_both : {a b : CallStreams} → HoldsBoth a b → HoldsAll a b
of_both is = record {
  held = ap (λ (s : StoreState). s.held) is.files;
  left = is.left;
  calls = is.calls;
  output = is.output;
  errors = is.errors;
}

pub of_look_up : {a b : CallStreams} → LooksUp a b → HoldsAll a b
of_look_up is = record { held = is.held; left = is.left; calls = is.calls; output = is.output.held; errors = is.errors.held }

pub of_failing : {a b : CallStreams} → b.files.held ≡ a.files.held → FilesFail a b → HoldsAll a b
of_failing held is = record { held = held; left = is.left; calls = is.calls; output = is.output.held; errors = is.errors.held }

-- so it does, had it been told that it holds this
pub holds_telling : {a b : CallStreams} (told : Told) → HoldsAll a b → HoldsAll (streams_telling told a) (streams_telling told b)
holds_telling told is = record { held = refl; left = refl; calls = is.calls; output = is.output; errors = is.errors }

-- what was told is told still
pub allows_same : {a b : CallStreams} → HoldsAll a b → AllowsBehind a b (told_of a)
allows_same {a} {b} is =
    let still = allows_still a in
    record {
      left = subst (λ (o : Option (List ℕ)). IfSome a.left (λ was. o ≡ Some (told_of a).left)) (sym is.left) still.left;
      files = subst (λ (o : Option FileMap). IfSome a.files.held (λ was. TellsMap o (told_of a).files)) (sym is.held) still.files;
    }

-- nothing was done
pub stands_none : (a b : CallStreams) (was : Outside) → HoldsAll a b → TellsOutside a was → StandsBehind was [] (streams_of a) (streams_of b)
stands_none a b was is told = record {
  files = holds_kept is.held (holds_told a.files.held was.files told.files);
  rest = is.left ∙ told.left;
  calls = is.calls;
  output = gains_keeps (gains_nothing a.output.held) is.output;
  errors = gains_keeps (gains_nothing a.errors.held) is.errors;
}

-- a file was looked for
pub stands_found : (a b : CallStreams) (was : Outside) (name : List ℕ) → HoldsAll a b → TellsOutside a was
    → StandsBehind was (FileReading name ∷ []) (streams_of a) (streams_of b)
stands_found a b was name is told =
    let none : StandsBehind was [] (streams_of a) (streams_of b) = stands_none a b was is told in
    record { files = none.files; rest = none.rest; calls = none.calls; output = none.output; errors = none.errors }

-- that was begun
pub stands_finding : (a b : CallStreams) (was : Outside) (name : List ℕ) → HoldsAll a b → TellsOutside a was
    → StandsInFiles was [] (FileReading name) (streams_of a) (streams_of b)
stands_finding a b was name is told =
    let none : StandsBehind was [] (streams_of a) (streams_of b) = stands_none a b was is told in
    record { files = none.files; rest = none.rest; calls = none.calls; output = none.output; errors = none.errors }
