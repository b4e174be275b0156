-- How what several calls leave of the outside adds up.
use Rattle.std.proofs.Common.{◌≡◌, ◌∙◌, refl, sym, ap, ℕ, List, [], ◌++◌, Some}
use Rattle.icn_value.specs.Store.{Outside, outside_of}
use Rattle.icn_defs.proofs.Interruptions.{extends_itself, extends_then, stands_all, stands_then, told_behind}
use Rattle.icn_streams.specs.Answers.{IsTold, Told, streams_telling}
use Rattle.icn_streams.specs.Handed.{CallStreams, Follows, TellsOutside, streams_of}

-- what the input tells behind it is what is left
pub follows_left : {a b : CallStreams} {o p : Outside} → Follows a b o p → b.left ≡ Some p.left
follows_left follows = follows.stands.rest ∙ ap (λ (l : List ℕ). Some l) (sym follows.extends.left)

-- so all is told behind it that was told before
pub follows_tells : {a b : CallStreams} {o p : Outside} → TellsOutside a o → Follows a b o p → TellsOutside b p
follows_tells {a} {b} {o} {p} tells follows = record {
  left = follows_left follows;
  files = told_behind a.files.held b.files.held o.files _ p.files follows.extends.files tells.files follows.stands.files;
}

-- nothing was read, written or put
pub follows_all : (a : CallStreams) (o : Outside) → TellsOutside a o → Follows a a o o
follows_all a o tells = record { done = []; extends = extends_itself o; stands = stands_all (streams_of a) o tells.files tells.left }

-- one call behind another
pub follows_then : {a b c : CallStreams} {o p q : Outside} → Follows a b o p → Follows b c p q → Follows a c o q
follows_then {a} {b} {c} {o} {p} {q} first second = record {
  done = first.done ++ second.done;
  extends = extends_then first.extends second.extends;
  stands = stands_then first.extends first.stands second.stands;
}

-- streams that tell this tell an outside that is so
pub tells_told : (had : Told) (a : CallStreams) (was : Outside) → IsTold had was → TellsOutside (streams_telling had a) was
tells_told had a was is = record {
  left = ap (λ (l : List ℕ). Some l) (sym is.left);
  files = record { told = had.files; is = refl; same = is.files };
}

-- an outside that is so
abbrev pub outside_told : Told → Outside
outside_told had = outside_of had.left had.files

pub told_so : (had : Told) → IsTold had (outside_told had)
told_so had = record { left = refl; files = λ name. refl }
