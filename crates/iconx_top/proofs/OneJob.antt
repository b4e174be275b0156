-- Words, files and input ask for at most one job.
use Rattle.std.proofs.Common.{◌≡◌, ℕ, ◌≤◌, ◌<◌, List, [], length, true, false, Bool, None, Some, Result, Ok, Err, refl, sym, ap, subst, ◌∙◌, arith}
use Rattle.std.proofs.lemmas.Option.{none-some, same_Some}
use Rattle.icn_host.specs.FileMaps.{FileMap}
use Rattle.icn_tree.specs.declared.rule.Rule.{Rule}
use Rattle.icn_tree.specs.declared.rule.Rule.TheVariants.{I7}
use Rattle.icn_value.specs.Limited.{Bounds}
use Rattle.icn_code.specs.Codes.{Tables}
use Rattle.icn_image.specs.Reading.{image_read}
use Rattle.icn_image.specs.Spelling.{image_of}
use Rattle.icn_verify.specs.Faults.{IsFirstFault, IsVerified}
use Rattle.icn_verify.specs.ShapeLaws.{HaveOneFault, HaveNoFault}
use Rattle.icn_defs.specs.Running.{Launch, Observation}
use Rattle.icn_run.specs.FlatStep.{Runs}
use Rattle.icn_run.proofs.OneObservation.{flat_once}
use Rattle.icn_answer.specs.Answers.{IsFault}
use Rattle.icn_answer.specs.declared.answer.Answer.TheVariants.{Command, Missing, BadImage}
use Rattle.iconx_top.specs.LoadedImages.{IsJudged, too_long, broken, unverified, runs}
use Rattle.iconx_top.specs.Job.{Job, IsJob, IsMigration, IsRun, IsShort, wrong_words, missing, bad, ran, writes, grows, migration_job, refusal, observation}
use Rattle.iconx_top.specs.Words.{WordsReading, Asks, Migrates, Faulty, image_named, words_reading}

-- Values of results that are equal

same_ok : {A E : Type 0} (a b : A) → ◌≡◌ {A = Result A E} (Ok a) (Ok b) → a ≡ b
same_ok a b e = ap (λ r. elim r [ Ok x ↦ x | Err f ↦ a ]) e

same_err : {A E : Type 0} (a b : E) → ◌≡◌ {A = Result A E} (Err a) (Err b) → a ≡ b
same_err a b e = ap (λ r. elim r [ Ok x ↦ a | Err f ↦ f ]) e

ok_err : {A E : Type 0} (a : A) (f : E) → ◌≡◌ {A = Result A E} (Ok a) (Err f) → ⊥
ok_err a f e = cc

long_short : (n : ℕ) → 1073741824 < n → n ≤ 1073741824 → ⊥
long_short n long few = omega (arith, long, few)

true_false : (b : Bool) → b ≡ true → b ≡ false → ⊥
true_false b t f = cc

-- What bytes come to

abbrev Judged : Type 0
Judged = Result Tables Rule

module _ (one : HaveOneFault) (none : HaveNoFault) (bytes : List ℕ) where
  same_read : (s t : Tables) → image_read bytes ≡ Ok s → image_read bytes ≡ Ok t → s ≡ t
  same_read s t e f = same_ok s t (sym e ∙ f)

  read_broken : (t : Tables) (rule : Rule) → image_read bytes ≡ Ok t → image_read bytes ≡ Err rule → ⊥
  read_broken t rule e f = ok_err t rule (sym e ∙ f)

  same_fault : (s t : Tables) (rule rule' : Rule) (k p k' p' : ℕ) → image_read bytes ≡ Ok s → image_read bytes ≡ Ok t → IsFirstFault s.procs rule k p
      → IsFirstFault t.procs rule' k' p' → rule ≡ rule'
  same_fault s t rule rule' k p k' p' e f x y = let same : s ≡ t = same_read s t e f in (one t.procs rule k p rule' k' p' (rw same at x) y).rules

  no_fault : (s t : Tables) (rule : Rule) (k p : ℕ) → image_read bytes ≡ Ok s → image_read bytes ≡ Ok t → IsFirstFault s.procs rule k p → IsVerified t → ⊥
  no_fault s t rule k p e f x y = let same : s ≡ t = same_read s t e f in none t.procs rule k p y (rw same at x)

  pub judged_once : (a b : Judged) → IsJudged bytes a → IsJudged bytes b → a ≡ b
  judged_once _ _ (too_long l) (too_long m) = refl
  judged_once _ b (too_long l) (broken _ s _) = absurd (long_short (length bytes) l s)
  judged_once _ b (too_long l) (unverified _ _ _ _ s _ _) = absurd (long_short (length bytes) l s)
  judged_once _ b (too_long l) (runs _ s _ _) = absurd (long_short (length bytes) l s)
  judged_once a _ (broken _ s _) (too_long l) = absurd (long_short (length bytes) l s)
  judged_once a _ (unverified _ _ _ _ s _ _) (too_long l) = absurd (long_short (length bytes) l s)
  judged_once a _ (runs _ s _ _) (too_long l) = absurd (long_short (length bytes) l s)
  judged_once _ _ (broken r _ e) (broken q _ f) = ap (λ rule. Err rule) (same_err r q (sym e ∙ f))
  judged_once _ b (broken r _ e) (unverified t _ _ _ _ f _) = absurd (read_broken t r f e)
  judged_once _ b (broken r _ e) (runs t _ f _) = absurd (read_broken t r f e)
  judged_once a _ (unverified t _ _ _ _ f _) (broken r _ e) = absurd (read_broken t r f e)
  judged_once a _ (runs t _ f _) (broken r _ e) = absurd (read_broken t r f e)
  judged_once _ _ (unverified s r k p _ e x) (unverified t q k' p' _ f y) = ap (λ rule. Err rule) (same_fault s t r q k p k' p' e f x y)
  judged_once _ b (unverified s r k p _ e x) (runs t _ f y) = absurd (no_fault s t r k p e f x y)
  judged_once a _ (runs t _ f y) (unverified s r k p _ e x) = absurd (no_fault s t r k p e f x y)
  judged_once _ _ (runs s _ e _) (runs t _ f _) = ap (λ tables. Ok tables) (same_read s t e f)

-- What words ask for

bounds_asked : Bounds → WordsReading → Bounds
bounds_asked other (Asks bounds name arguments) = bounds
bounds_asked other (Migrates new name) = other
bounds_asked other (Faulty kind) = other

arguments_asked : WordsReading → List (List ℕ)
arguments_asked (Asks bounds name arguments) = arguments
arguments_asked (Migrates new name) = []
arguments_asked (Faulty kind) = []

new_asked : WordsReading → List ℕ
new_asked (Asks bounds name arguments) = []
new_asked (Migrates new name) = new
new_asked (Faulty kind) = []

kind_asked : WordsReading → ℕ
kind_asked (Asks bounds name arguments) = 0
kind_asked (Migrates new name) = 0
kind_asked (Faulty kind) = kind

-- faulty words name no image
named_faulty : (name : List ℕ) (kind : ℕ) (reading : WordsReading) → image_named reading ≡ Some name → reading ≡ Faulty kind → ⊥
named_faulty name kind reading e f = none-some name (sym (ap image_named f) ∙ e)

same_name : (n m : List ℕ) (reading : WordsReading) → image_named reading ≡ Some n → image_named reading ≡ Some m → n ≡ m
same_name n m reading e f = same_Some n m (sym e ∙ f)

same_bounds : (b c : Bounds) (n m : List ℕ) (x y : List (List ℕ)) (reading : WordsReading) → reading ≡ Asks b n x → reading ≡ Asks c m y → b ≡ c
unfolding bounds_asked
same_bounds b c n m x y reading e f = ap (bounds_asked b) (sym e ∙ f)

same_arguments : (b c : Bounds) (n m : List ℕ) (x y : List (List ℕ)) (reading : WordsReading) → reading ≡ Asks b n x → reading ≡ Asks c m y → x ≡ y
unfolding arguments_asked
same_arguments b c n m x y reading e f = ap arguments_asked (sym e ∙ f)

same_new : (p q n m : List ℕ) (reading : WordsReading) → reading ≡ Migrates p n → reading ≡ Migrates q m → p ≡ q
unfolding new_asked
same_new p q n m reading e f = ap new_asked (sym e ∙ f)

runs_migrates : (b : Bounds) (n : List ℕ) (x : List (List ℕ)) (new m : List ℕ) (reading : WordsReading) → reading ≡ Asks b n x
    → reading ≡ Migrates new m → ⊥
runs_migrates b n x new m reading e f = cc

same_kind : (k j : ℕ) (reading : WordsReading) → reading ≡ Faulty k → reading ≡ Faulty j → k ≡ j
unfolding kind_asked
same_kind k j reading e f = ap kind_asked (sym e ∙ f)

same_launch : (s t : Launch) → s.words ≡ t.words → s.bounds ≡ t.bounds → s.outside ≡ t.outside → s ≡ t
same_launch s t e f g =
    ap (λ x. record s { words = x }) e ∙ (ap (λ x. record s { words = t.words; bounds = x }) f ∙ ap (λ x. record t { outside = x }) g)

seen_once : (s t : Tables) (a b : Launch) (x y : Observation) → s ≡ t → a ≡ b → Runs s a x → Runs t b y → x ≡ y
seen_once s t a b x y tables launched p q = flat_once t b x y (subst (λ l. Runs t l x) launched (subst (λ u. Runs u a x) tables p)) q

same_bytes : (held : FileMap) (n m x y : List ℕ) → n ≡ m → held n ≡ Some x → held m ≡ Some y → x ≡ y
same_bytes held n m x y same e f = same_Some x y (sym e ∙ (ap held same ∙ f))

some_none : (held : FileMap) (n m x : List ℕ) → n ≡ m → held n ≡ Some x → held m ≡ None → ⊥
some_none held n m x same e f = none-some x (sym f ∙ (ap held (sym same) ∙ e))

module _ (one : HaveOneFault) (none : HaveNoFault) where
  judged_same : (x y : List ℕ) (a b : Judged) → x ≡ y → IsJudged x a → IsJudged y b → a ≡ b
  judged_same x y a b same p q = judged_once one none y a b (rw same at p) q

  module _ (words : List (List ℕ)) (held : FileMap) (left : List ℕ) where
    run_named : (t : Tables) (a : Launch) → (is : IsRun words held left t a) → image_named (words_reading words) ≡ Some is.name
    run_named t a is = ap image_named is.asks

    new_named : (new : List ℕ) (t : Tables) → (is : IsMigration words held new t) → image_named (words_reading words) ≡ Some is.name
    new_named new t is = ap image_named is.asks

    -- what is held under the image's name is judged in one way
    same_judged : (n m x y : List ℕ) (a b : Judged) → image_named (words_reading words) ≡ Some n → image_named (words_reading words) ≡ Some m
        → held n ≡ Some x → held m ≡ Some y → IsJudged x a → IsJudged y b → a ≡ b
    same_judged n m x y a b e f p q is was =
        judged_same x y a b (same_bytes held n m x y (same_name n m (words_reading words) e f) p q) is was

    same_tables : (s t : Tables) (a b : Launch) → IsRun words held left s a → IsRun words held left t b → s ≡ t
    same_tables s t a b x y =
        same_ok s t (same_judged x.name y.name x.bytes y.bytes (Ok s) (Ok t) (run_named s a x) (run_named t b y) x.there y.there x.judged y.judged)

    same_migrated : (p q : List ℕ) (s t : Tables) → IsMigration words held p s → IsMigration words held q t → s ≡ t
    same_migrated p q s t x y =
        same_ok s t (same_judged x.name y.name x.bytes y.bytes (Ok s) (Ok t) (new_named p s x) (new_named q t y) x.there y.there x.judged y.judged)

    launched_once : (s t : Tables) (a b : Launch) → IsRun words held left s a → IsRun words held left t b → a ≡ b
    launched_once s t a b x y = same_launch a b (same_arguments a.bounds b.bounds x.name y.name a.words b.words (words_reading words) x.asks y.asks)
        (same_bounds a.bounds b.bounds x.name y.name a.words b.words (words_reading words) x.asks y.asks) (x.outside ∙ sym y.outside)

    observed_once : (s t : Tables) (a b : Launch) (p q : Observation) → IsRun words held left s a → IsRun words held left t b → Runs s a p → Runs t b q → p ≡ q
    observed_once s t a b p q x y = seen_once s t a b p q (same_tables s t a b x y) (launched_once s t a b x y)

    -- an image that is refused, or not there, is neither run nor written anew
    refused_run : (name bytes : List ℕ) (rule : Rule) (tables : Tables) (launch : Launch)
        → image_named (words_reading words) ≡ Some name → held name ≡ Some bytes → IsJudged bytes (Err rule) → IsRun words held left tables launch → ⊥
    refused_run name bytes rule tables launch e f is x =
        ok_err tables rule (same_judged x.name name x.bytes bytes (Ok tables) (Err rule) (run_named tables launch x) e x.there f x.judged is)

    refused_new : (name bytes : List ℕ) (rule : Rule) (new : List ℕ) (tables : Tables)
        → image_named (words_reading words) ≡ Some name → held name ≡ Some bytes → IsJudged bytes (Err rule) → IsMigration words held new tables → ⊥
    refused_new name bytes rule new tables e f is x =
        ok_err tables rule (same_judged x.name name x.bytes bytes (Ok tables) (Err rule) (new_named new tables x) e x.there f x.judged is)

    missing_run : (name : List ℕ) (tables : Tables) (launch : Launch)
        → image_named (words_reading words) ≡ Some name → held name ≡ None → IsRun words held left tables launch → ⊥
    missing_run name tables launch e f x =
        some_none held x.name name x.bytes (same_name x.name name (words_reading words) (run_named tables launch x) e) x.there f

    missing_new : (name new : List ℕ) (tables : Tables)
        → image_named (words_reading words) ≡ Some name → held name ≡ None → IsMigration words held new tables → ⊥
    missing_new name new tables e f x = some_none held x.name name x.bytes (same_name x.name name (words_reading words) (new_named new tables x) e) x.there f

    run_or_new : (s t : Tables) (launch : Launch) (new : List ℕ) → IsRun words held left s launch → IsMigration words held new t → ⊥
    run_or_new s t launch new x y = runs_migrates launch.bounds x.name launch.words new y.name (words_reading words) x.asks y.asks

    short_or_long : (p q : List ℕ) (s t : Tables) → IsMigration words held p s → IsMigration words held q t → IsShort s
        → 1073741824 < length (image_of t) → ⊥
    short_or_long p q s t x y short long =
        long_short (length (image_of t)) long (subst (λ (u : Tables). length (image_of u) ≤ 1073741824) (same_migrated p q s t x y) short)

  pub one_job : (words : List (List ℕ)) (files : FileMap) (left : List ℕ) (a b : Job) → IsJob words files left a → IsJob words files left b → a ≡ b
  one_job words files left _ _ (wrong_words k e) (wrong_words j f) = ap (λ n. refusal files left [] (Command n)) (same_kind k j (words_reading words) e f)
  one_job words files left _ _ (wrong_words k e) (missing n f _) = absurd (named_faulty n k (words_reading words) f e)
  one_job words files left _ _ (missing n f _) (wrong_words k e) = absurd (named_faulty n k (words_reading words) f e)
  one_job words files left _ _ (wrong_words k e) (bad n _ _ f _ _) = absurd (named_faulty n k (words_reading words) f e)
  one_job words files left _ _ (bad n _ _ f _ _) (wrong_words k e) = absurd (named_faulty n k (words_reading words) f e)
  one_job words files left _ _ (wrong_words k e) (ran t launch _ is _) =
      absurd (named_faulty is.name k (words_reading words) (run_named words files left t launch is) e)
  one_job words files left _ _ (ran t launch _ is _) (wrong_words k e) =
      absurd (named_faulty is.name k (words_reading words) (run_named words files left t launch is) e)
  one_job words files left _ _ (wrong_words k e) (writes new t is _) =
      absurd (named_faulty is.name k (words_reading words) (new_named words files left new t is) e)
  one_job words files left _ _ (writes new t is _) (wrong_words k e) =
      absurd (named_faulty is.name k (words_reading words) (new_named words files left new t is) e)
  one_job words files left _ _ (wrong_words k e) (grows new t is _) =
      absurd (named_faulty is.name k (words_reading words) (new_named words files left new t is) e)
  one_job words files left _ _ (grows new t is _) (wrong_words k e) =
      absurd (named_faulty is.name k (words_reading words) (new_named words files left new t is) e)
  one_job words files left _ _ (missing n e _) (missing m f _) =
      ap (λ name. refusal files left name (Missing name)) (same_name n m (words_reading words) e f)
  one_job words files left _ _ (missing n e h) (bad m z _ f g _) = absurd (some_none files m n z (same_name m n (words_reading words) f e) g h)
  one_job words files left _ _ (bad m z _ f g _) (missing n e h) = absurd (some_none files m n z (same_name m n (words_reading words) f e) g h)
  one_job words files left _ _ (missing n e h) (ran t launch _ is _) = absurd (missing_run words files left n t launch e h is)
  one_job words files left _ _ (ran t launch _ is _) (missing n e h) = absurd (missing_run words files left n t launch e h is)
  one_job words files left _ _ (missing n e h) (writes new t is _) = absurd (missing_new words files left n new t e h is)
  one_job words files left _ _ (writes new t is _) (missing n e h) = absurd (missing_new words files left n new t e h is)
  one_job words files left _ _ (missing n e h) (grows new t is _) = absurd (missing_new words files left n new t e h is)
  one_job words files left _ _ (grows new t is _) (missing n e h) = absurd (missing_new words files left n new t e h is)
  one_job words files left _ _ (bad n u r e g p) (bad m v q f h s) =
      let named : n ≡ m = same_name n m (words_reading words) e f in
      let rules : r ≡ q = same_err r q (same_judged words files left n m u v (Err r) (Err q) e f g h p s) in
      ap (λ name. refusal files left name (BadImage r)) named ∙ ap (λ rule. refusal files left m (BadImage rule)) rules
  one_job words files left _ _ (bad n u r e g p) (ran t launch _ is _) = absurd (refused_run words files left n u r t launch e g p is)
  one_job words files left _ _ (ran t launch _ is _) (bad n u r e g p) = absurd (refused_run words files left n u r t launch e g p is)
  one_job words files left _ _ (bad n u r e g p) (writes new t is _) = absurd (refused_new words files left n u r new t e g p is)
  one_job words files left _ _ (writes new t is _) (bad n u r e g p) = absurd (refused_new words files left n u r new t e g p is)
  one_job words files left _ _ (bad n u r e g p) (grows new t is _) = absurd (refused_new words files left n u r new t e g p is)
  one_job words files left _ _ (grows new t is _) (bad n u r e g p) = absurd (refused_new words files left n u r new t e g p is)
  one_job words files left _ _ (ran s a v x p) (ran t b w y q) =
      ap (λ (seen : Observation). observation seen) (observed_once words files left s t a b v w x y p q)
  one_job words files left _ _ (ran s a _ x _) (writes new t y _) = absurd (run_or_new words files left s t a new x y)
  one_job words files left _ _ (writes new t y _) (ran s a _ x _) = absurd (run_or_new words files left s t a new x y)
  one_job words files left _ _ (ran s a _ x _) (grows new t y _) = absurd (run_or_new words files left s t a new x y)
  one_job words files left _ _ (grows new t y _) (ran s a _ x _) = absurd (run_or_new words files left s t a new x y)
  one_job words files left _ _ (writes p s x _) (writes q t y _) =
      ap (λ new. migration_job files left new s) (same_new p q x.name y.name (words_reading words) x.asks y.asks)
      ∙ ap (λ tables. migration_job files left q tables) (same_migrated words files left p q s t x y)
  one_job words files left _ _ (writes p s x short) (grows q t y long) = absurd (short_or_long words files left p q s t x y short long)
  one_job words files left _ _ (grows q t y long) (writes p s x short) = absurd (short_or_long words files left p q s t x y short long)
  one_job words files left _ _ (grows p s x _) (grows q t y _) =
      ap (λ name. refusal files left name (BadImage I7))
      (same_name x.name y.name (words_reading words) (new_named words files left p s x) (new_named words files left q t y))

-- no job answers a fault
pub no_fault_asked : (words : List (List ℕ)) (files : FileMap) (left : List ℕ) (job : Job) → IsJob words files left job → IsFault job.answer → ⊥
no_fault_asked words files left _ (wrong_words k e) f = true_false true refl (sym f)
no_fault_asked words files left _ (missing n e h) f = true_false true refl (sym f)
no_fault_asked words files left _ (bad n u r e g p) f = true_false true refl (sym f)
no_fault_asked words files left _ (ran tables launch observed is p) f = true_false true refl (sym f)
no_fault_asked words files left _ (writes new t is s) f = true_false true refl (sym f)
no_fault_asked words files left _ (grows new t is s) f = true_false true refl (sym f)
