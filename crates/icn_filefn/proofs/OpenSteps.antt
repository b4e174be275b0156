-- What opening a file comes to, once its name and its mode are known.
use Rattle.std.proofs.Common.{◌≡◌, ◌∙◌, refl, sym, ap, subst, ℕ, ◌+◌, nat_le, Bool, true, false, List, [], ◌∷◌, ◌++◌, length, Option, None, Some, Result, Ok, Err, Vec, unwrap_or, append-nil}
use Rattle.std.specs.Prelude.{IfSome, IsErrAnd}
use Rattle.std.specs.List.{All}
use Rattle.icn_host.specs.FileMaps.{FileMap}
use Rattle.icn_profile.specs.Numbers.{most_bytes_of_opened}
use Rattle.icn_value.specs.declared.mode.FileMode.{FileMode}
use Rattle.icn_value.specs.declared.mode.FileMode.TheVariants.{ToRead, ToWrite, ToAdd}
use Rattle.icn_value.specs.declared.item.Item.TheVariants.{Val as HeldVal}
use Rattle.icn_value.specs.declared.val.Val.{Val}
use Rattle.icn_value.specs.Store.{Event, FileReading, Outside, Setting}
use Rattle.icn_value.specs.Changes.{new_file}
use Rattle.icn_defs.specs.Files.{new_file_of}
use Rattle.icn_defs.specs.Interruptions.{ExtendsBy, StandsBehind, TellsMap}
use Rattle.icn_defs.specs.Rows.{Row, check, fails_unless, gives_value, thing_or_failure}
use Rattle.icn_defs.proofs.Interruptions.{extends_by_finding, extends_itself}
use Rattle.icn_heap.specs.Extents.{IsLive, value_in}
use Rattle.icn_heap.specs.Heaps.{extent_of}
use Rattle.icn_vars.specs.Stops.{IsLiveStop, halt_of}
use Rattle.icn_vars.specs.Worlds.{KeepsItems, reach_of, setting_of}
use Rattle.icn_vars.specs.declared.outcome.Outcome.{Outcome}
use Rattle.icn_vars.specs.declared.outcome.Outcome.TheVariants.{Fails as HeldFails, Gives as HeldGives}
use Rattle.icn_vars.specs.declared.outcome.Halt.{Halt}
use Rattle.icn_vars.specs.declared.outcome.Halt.TheVariants.{Error as ErrorHalt, Ends as EndsHalt, ReadFault, WriteFault, FileFault, NoMemory}
use Rattle.icn_vars.specs.declared.stop.Stop.{Stop}
use Rattle.icn_vars.specs.declared.stop.Stop.TheVariants.{Error as ErrorStop, NoMemory as NoMemoryStop}
use Rattle.icn_vars.specs.declared.world.World.{World}
use Rattle.icn_args.specs.RowWords.{IsFound}
use Rattle.icn_streams.specs.Answers.{Allows, AllowsBehind, IsTold, StopsFiles, StopsPutting, Told, call_state, outside_after, putting, streams_telling}
use Rattle.icn_streams.specs.Applies.{Applies}
use Rattle.icn_streams.specs.Handed.{CallStreams, Follows, KeepsAllCounts, TellsOutside, uncounted, streams_of}
use Rattle.icn_streams.proofs.CallSequences.{tells_told}
use Rattle.icn_streams.proofs.IdleCalls.{allows_own, keeps_items_refl, told_of}
use Rattle.icn_streams.proofs.NextRead.{if_some_elim}
use Rattle.icn_filefn.specs.OpenParts.{FindsContent, FindsOfSome, HoldsAll, LooksUp, LooksUpBy, after_finding, opens_named, opens_with}
use Rattle.icn_filefn.proofs.StoreCalls.{allows_same, holds_telling, of_both, of_failing, of_look_up, stands_finding, stands_found, stands_none}

-- What is done outside

-- the look-up, if one is made
abbrev looked : FileMode → List ℕ → List Event
looked ToRead name = FileReading name ∷ []
looked ToWrite name = []
looked ToAdd name = FileReading name ∷ []

looks_for : (mode : FileMode) (name : List ℕ) (was : Outside) → ExtendsBy was (looked mode name) (after_finding mode name was)
looks_for ToRead name was = extends_by_finding was name
looks_for ToWrite name was = extends_itself was
looks_for ToAdd name was = extends_by_finding was name

looks_up : (mode : FileMode) (name : List ℕ) (a b : CallStreams) (was : Outside) → HoldsAll a b → TellsOutside a was
    → StandsBehind was (looked mode name) (streams_of a) (streams_of b)
looks_up ToRead name a b was is told = stands_found a b was name is told
looks_up ToWrite name a b was is told = stands_none a b was is told
looks_up ToAdd name a b was is told = stands_found a b was name is told

follows_looking : (mode : FileMode) (name : List ℕ) (a b : CallStreams) (was : Outside) → HoldsAll a b → TellsOutside a was
    → Follows a b was (after_finding mode name was)
follows_looking mode name a b was is told = record { done = looked mode name; extends = looks_for mode name was; stands = looks_up mode name a b was is told }

checked : (t : Bool) (number : ℕ) (next : Row) (s : Setting) → outside_after (next s) ≡ s.outside → outside_after (check t number None next s) ≡ s.outside
checked true number next s is = is
checked false number next s is = refl

passed : (t : Bool) (next : Row) (s : Setting) → outside_after (next s) ≡ s.outside → outside_after (fails_unless t next s) ≡ s.outside
passed true next s is = is
passed false next s is = refl

found_so : (o : Option (List ℕ)) (next : List ℕ → Row) (s : Setting) → ((x : List ℕ) → outside_after (next x s) ≡ s.outside)
    → outside_after (thing_or_failure o next s) ≡ s.outside
found_so (Some x) next s is = is x
found_so None next s is = refl

opened_after : (name : List ℕ) (mode : FileMode) (content : List ℕ) (s : Setting) → outside_after (opens_with name mode content s) ≡ s.outside
opened_after name mode content s = checked (nat_le (s.world.heap.cells + 1) s.world.heap.bounds.cells) 307 _ s refl

-- the row looks for the file, and does nothing else
left_after : (mode : FileMode) (name : List ℕ) (s : Setting) → outside_after (opens_named name mode s) ≡ after_finding mode name s.outside
left_after ToRead name s =
    let at : Setting = record s { outside = after_finding ToRead name s.outside } in
    found_so (s.outside.files name) (λ content. fails_unless (nat_le (length content) most_bytes_of_opened) (opens_with name ToRead content)) at
    (λ content. passed (nat_le (length content) most_bytes_of_opened) (opens_with name ToRead content) at (opened_after name ToRead content at))
left_after ToWrite name s = opened_after name ToWrite [] s
left_after ToAdd name s =
    let at : Setting = record s { outside = after_finding ToAdd name s.outside } in
    let content : List ℕ = unwrap_or (s.outside.files name) [] in
    passed (nat_le (length content) most_bytes_of_opened) (opens_with name ToAdd content) at (opened_after name ToAdd content at)

module _ (mode : FileMode) (name : List ℕ) (w : World) (locals : List Val) where
  are_due : (was : Outside) → (outside_after (opens_named name mode (setting_of was w locals))).history ≡ was.history ++ looked mode name
  are_due was = ap (λ (o : Outside). o.history) (left_after mode name (setting_of was w locals)) ∙ (looks_for mode name was).history

  -- it was broken off before the look-up
  none_done : (a b : CallStreams) (was : Outside) → HoldsAll a b → TellsOutside a was → StopsPutting (opens_named name mode) (setting_of was w locals) a b
  none_done a b was is told = record { done = []; due = looked mode name; are = are_due was; stands = stands_none a b was is told }

  -- or in it
  in_look_up : (a b : CallStreams) (was : Outside) → (mode ≡ ToWrite → ⊥) → HoldsAll a b → TellsOutside a was
      → StopsFiles (opens_named name mode) (setting_of was w locals) a b
  in_look_up a b was asked is told = by mode refl
    where
      by : (m : FileMode) → mode ≡ m → StopsFiles (opens_named name mode) (setting_of was w locals) a b
      by ToRead same = record {
        done = [];
        call = FileReading name;
        due = [];
        are = are_due was ∙ ap (λ (m : FileMode). was.history ++ looked m name) same;
        stands = stands_finding a b was name is told;
      }
      by ToWrite same = absurd (asked same)
      by ToAdd same = record {
        done = [];
        call = FileReading name;
        due = [];
        are = are_due was ∙ ap (λ (m : FileMode). was.history ++ looked m name) same;
        stands = stands_finding a b was name is told;
      }

  module _ (live : All (IsLive (extent_of w.heap)) locals) (a b : CallStreams) where
    stopped : (A : Type 0) (halt : Halt) → (mode ≡ ToWrite → ⊥) → LooksUpBy {A = A} a b (Err halt)
        → Applies (opens_named name mode) (call_state w locals a) (call_state w locals b) (Err halt)
    stopped A (ErrorHalt number offending) asked looks = absurd looks
    stopped A (EndsHalt status) asked looks = absurd looks
    stopped A ReadFault asked looks = absurd looks
    stopped A WriteFault asked looks =
        let is : HoldsAll a b = of_both looks.0 in
        record {
          answers = λ was told. none_done a b was is told;
          meant = record {
            had = told_of a;
            has = told_of a;
            allowed = allows_own a;
            allows = allows_same is;
            answers = λ was first. none_done _ _ was (holds_telling (told_of a) is) (tells_told (told_of a) a was first);
          };
          caused = looks.1;
          live = tt;
          locals = live;
          kept = keeps_items_refl (reach_of w locals);
        }
    stopped A FileFault asked looks =
        let is : HoldsAll a b = of_failing looks.0 looks.1 in
        record {
          answers = λ was told. in_look_up a b was asked is told;
          meant = record {
            had = told_of a;
            has = told_of a;
            allowed = allows_own a;
            allows = allows_same is;
            answers = λ was first. in_look_up _ _ was asked (holds_telling (told_of a) is) (tells_told (told_of a) a was first);
          };
          caused = looks.1;
          live = tt;
          locals = live;
          kept = keeps_items_refl (reach_of w locals);
        }
    stopped A NoMemory asked looks =
        let is : HoldsAll a b = looks.0 in
        record {
          answers = λ was told. putting (none_done a b was is told);
          meant = record {
            had = told_of a;
            has = told_of a;
            allowed = allows_own a;
            allows = allows_same is;
            answers = λ was first. putting (none_done _ _ was (holds_telling (told_of a) is) (tells_told (told_of a) a was first));
          };
          caused = looks.1;
          live = tt;
          locals = live;
          kept = keeps_items_refl (reach_of w locals);
        }

    -- a fault or want of memory broke the row off
    pub finding_stops : (A : Type 0) (halt : Halt) (result : Result Outcome Halt) → IsErrAnd result (λ other. other ≡ halt) → (mode ≡ ToWrite → ⊥)
        → LooksUpBy {A = A} a b (Err halt) → Applies (opens_named name mode) (call_state w locals a) (call_state w locals b) result
    finding_stops A halt (Ok outcome) same asked looks = absurd same
    finding_stops A halt (Err other) same asked looks =
        subst (λ (h : Halt). Applies (opens_named name mode) (call_state w locals a) (call_state w locals b) (Err h)) (sym same) (stopped A halt asked looks)

-- What was found

-- an outside that is told has what is found of some files of which what is told is true
agrees : (held : Option FileMap) (was some : FileMap) → TellsMap held was → IfSome held (λ told. (n : List ℕ) → told n ≡ some n) → (n : List ℕ)
    → was n ≡ some n
agrees held was some tells allowed n =
    tells.same n ∙ if_some_elim held tells.told (λ (told : FileMap). (n : List ℕ) → told n ≡ some n) tells.is allowed n

tells_still : (held now : Option FileMap) (some : FileMap) → now ≡ held → IfSome held (λ told. (n : List ℕ) → told n ≡ some n)
    → IfSome held (λ was. TellsMap now some)
tells_still None now some same allowed = tt
tells_still (Some told) now some same allowed = record { told = told; is = same; same = λ n. sym (allowed n) }

module _ {A : Type 0} (mode : FileMode) (name : List ℕ) (w : World) (locals : List Val) (a b : CallStreams) (found : Result (Option (Vec ℕ A)) Halt)
    (some : FindsOfSome mode name a.files.held found) (looks : LooksUp a b) where
  -- these files, and what is told of the input
  abbrev told : Told
  told = record { left = unwrap_or a.left []; files = some.files }

  allowed : Allows a told
  allowed = record { left = (allows_own a).left; files = some.allowed }

  allows : AllowsBehind a b told
  allows = record {
    left = (allows_same (of_look_up looks)).left;
    files = tells_still a.files.held b.files.held some.files looks.held some.allowed;
  }

  found_told : (was : Outside) → TellsOutside a was → FindsContent mode name (setting_of was w locals) found
  found_told was is = some.finds (setting_of was w locals) (agrees a.files.held was.files some.files is.files some.allowed)

  found_some : (was : Outside) → IsTold told was → FindsContent mode name (setting_of was w locals) found
  found_some was is = some.finds (setting_of was w locals) is.files

  follows_told : (was : Outside) → TellsOutside a was → Follows a b was (after_finding mode name was)
  follows_told was is = follows_looking mode name a b was (of_look_up looks) is

  follows_some : (was : Outside) → IsTold told was → Follows (streams_telling told a) (streams_telling told b) was (after_finding mode name was)
  follows_some was is =
      follows_looking mode name (streams_telling told a) (streams_telling told b) was (holds_telling told (of_look_up looks)) (tells_told told a was is)

  none_failed : KeepsAllCounts a b
  none_failed = record { files = looks.counts; faults = looks.faults; output = looks.output.counts; errors = looks.errors.counts }

  -- there was nothing to be opened
  pub finding_fails : found ≡ Ok None → All (IsLive (extent_of w.heap)) locals
      → Applies (opens_named name mode) (call_state w locals a) (call_state w locals b) (Ok HeldFails)
  finding_fails is live = record {
    answers = λ was first. record {
      now = after_finding mode name was;
      follows = follows_told was first;
      comes = subst (FindsContent mode name (setting_of was w locals)) is (found_told was first) (opens_with name mode);
    };
    meant = record {
      had = told;
      has = told;
      allowed = allowed;
      allows = allows;
      answers = λ was first. record {
        now = after_finding mode name was;
        follows = follows_some was first;
        comes = subst (FindsContent mode name (setting_of was w locals)) is (found_some was first) (opens_with name mode);
      };
    };
    caused = none_failed;
    live = record { live = tt };
    locals = live;
    kept = keeps_items_refl (reach_of w locals);
  }

  module _ (content : Vec ℕ A) (is : found ≡ Ok (Some content)) (now : World) (lives : All (IsLive (extent_of now.heap)) locals)
      (kept : KeepsItems (reach_of w locals) (reach_of now locals)) where
    -- the row goes on with what was found
    goes_on : (was : Outside) → FindsContent mode name (setting_of was w locals) found
        → opens_named name mode (setting_of was w locals)
        ≡ opens_with name mode content.items (setting_of (after_finding mode name was) w locals)
    goes_on was finds = subst (FindsContent mode name (setting_of was w locals)) is finds (opens_with name mode)

    -- the file is opened
    pub opening_gives : (val : Val)
        → ((outside : Outside) → IsFound (extent_of now.heap) (new_file_of (new_file name mode content.items)) (setting_of outside w locals)
        (setting_of outside now locals) (value_in (extent_of now.heap)) (Ok val))
        → IsLive (extent_of now.heap) val
        → Applies (opens_named name mode) (call_state w locals a) (call_state now locals b) (Ok (HeldGives (HeldVal val)))
    opening_gives val made live = record {
      answers = λ was first. record {
        now = after_finding mode name was;
        follows = follows_told was first;
        comes = goes_on was (found_told was first) ∙ made (after_finding mode name was) (λ opened. gives_value opened);
      };
      meant = record {
        had = told;
        has = told;
        allowed = allowed;
        allows = allows;
        answers = λ was first. record {
          now = after_finding mode name was;
          follows = follows_some was first;
          comes = goes_on was (found_some was first) ∙ made (after_finding mode name was) (λ opened. gives_value opened);
        };
      };
      caused = none_failed;
      live = record { live = record { live = live } };
      locals = lives;
      kept = kept;
    }

    -- all events were done, and nothing is due
    all_done : (x y : CallStreams) (was : Outside) → HoldsAll x y → TellsOutside x was → StopsPutting (opens_named name mode) (setting_of was w locals) x y
    all_done x y was holds told = record {
      done = looked mode name;
      due = [];
      are = are_due mode name w locals was ∙ ap (λ (e : List Event). was.history ++ e) (sym (append-nil (looked mode name)));
      stands = looks_up mode name x y was holds told;
    }

    refused : (stop : Stop)
        → ((outside : Outside) → IsFound (extent_of now.heap) (new_file_of (new_file name mode content.items)) (setting_of outside w locals)
        (setting_of outside now locals) (value_in (extent_of now.heap)) (Err stop))
        → IsLiveStop (extent_of now.heap) stop
        → Applies (opens_named name mode) (call_state w locals a) (call_state now locals b) (Err (halt_of stop))
    refused (ErrorStop number offending) made live = record {
      answers = λ was first. record {
        now = after_finding mode name was;
        follows = follows_told was first;
        comes = goes_on was (found_told was first) ∙ made (after_finding mode name was) (λ opened. gives_value opened);
      };
      meant = record {
        had = told;
        has = told;
        allowed = allowed;
        allows = allows;
        answers = λ was first. record {
          now = after_finding mode name was;
          follows = follows_some was first;
          comes = goes_on was (found_some was first) ∙ made (after_finding mode name was) (λ opened. gives_value opened);
        };
      };
      caused = none_failed;
      live = live;
      locals = lives;
      kept = kept;
    }
    refused NoMemoryStop made live = record {
      answers = λ was first. putting (all_done a b was (of_look_up looks) first);
      meant = record {
        had = told;
        has = told;
        allowed = allowed;
        allows = allows;
        answers = λ was first. putting (all_done (streams_telling told a) (streams_telling told b) was (holds_telling told (of_look_up looks))
            (tells_told told a was first));
      };
      caused = uncounted none_failed;
      live = tt;
      locals = lives;
      kept = kept;
    }

    -- a cell is too many, or memory was wanting
    pub opening_stops : (stop : Stop) (result : Result Outcome Halt) → IsErrAnd result (λ halt. halt ≡ halt_of stop)
        → ((outside : Outside) → IsFound (extent_of now.heap) (new_file_of (new_file name mode content.items)) (setting_of outside w locals)
        (setting_of outside now locals) (value_in (extent_of now.heap)) (Err stop))
        → IsLiveStop (extent_of now.heap) stop
        → Applies (opens_named name mode) (call_state w locals a) (call_state now locals b) result
    opening_stops stop (Ok outcome) same made live = absurd same
    opening_stops stop (Err halt) same made live =
        subst (λ (h : Halt). Applies (opens_named name mode) (call_state w locals a) (call_state now locals b) (Err h)) (sym same) (refused stop made live)
