-- The answer that the words and the files ask for.
use Rattle.std.proofs.Common.{◌≡◌, ℕ, List, Some, Ok, Err, refl, sym, subst}
use Rattle.icn_host.specs.FileMaps.{FileMap}
use Rattle.icn_host.specs.Sinks.{SinkState}
use Rattle.icn_value.specs.Limited.{Bounds}
use Rattle.icn_code.specs.CodeTables.{tables_of}
use Rattle.icn_verify.specs.declared.verified.Verified.{Verified}
use Rattle.icn_answer.specs.declared.answer.Answer.{Answer}
use Rattle.icn_answer.specs.declared.answer.Answer.TheVariants.{Ran, Missing, BadImage, FileFault, ReadFault, WriteFault, NoMemory}
use Rattle.iconx_top.specs.Answered.{IsAnswered, fault, missing, bad, ran}
use Rattle.icn_run_answer.specs.FaultAnswers.{IsOfRun}
use Rattle.iconx_top.specs.Loading.{IsLoaded}
use Rattle.iconx_top.specs.Usage.{usage}
use Rattle.icn_answer.specs.Refusing.{PutsItsLine, own, put, want, write_fault}
use Rattle.iconx_top.specs.Words.{Asks, image_named, words_reading}

pub answer_put : {words : List (List ℕ)} {files : FileMap} {name : List ℕ} {before after : SinkState} (answer given : Answer) → IsAnswered words files answer
    → PutsItsLine usage name answer before after given → IsAnswered words files given
answer_put answer _ is (put n h) = is
answer_put answer _ is (own f puts) = is
answer_put answer _ is (write_fault n leads) = fault WriteFault refl
answer_put answer _ is (want n between leads puts) = fault NoMemory refl

pub load_answered : {words : List (List ℕ)} {files : FileMap} (name : List ℕ) (answer : Answer)
    → image_named (words_reading words) ≡ Some name → IsLoaded (files name) name (Err answer) → IsAnswered words files answer
load_answered {words} {files} name (Missing other) e is = subst (λ n. IsAnswered words files (Missing n)) (sym is.0) (missing name e is.1)
load_answered name (BadImage rule) e is = bad name is.0 rule e is.1.0 is.1.1
load_answered name FileFault e is = fault FileFault refl
load_answered name NoMemory e is = fault NoMemory refl
load_answered name _ e is = absurd is

pub run_answered : {words : List (List ℕ)} {files : FileMap} (bounds : Bounds) (name : List ℕ) (arguments : List (List ℕ)) (verified : Verified)
    (answer : Answer)
    → words_reading words ≡ Asks bounds name arguments → IsLoaded (files name) name (Ok verified) → IsOfRun answer
    → IsAnswered words files answer
run_answered bounds name arguments verified (Ran ending) e is o = ran bounds name is.0 arguments (tables_of verified.code) ending e is.1.0 is.1.1
run_answered bounds name arguments verified FileFault e is o = fault FileFault refl
run_answered bounds name arguments verified ReadFault e is o = fault ReadFault refl
run_answered bounds name arguments verified WriteFault e is o = fault WriteFault refl
run_answered bounds name arguments verified NoMemory e is o = fault NoMemory refl
run_answered bounds name arguments verified _ e is o = absurd o
