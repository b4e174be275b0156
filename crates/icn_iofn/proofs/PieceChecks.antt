-- The arguments are checked one after the other.
use Rattle.std.proofs.Common.{◌≡◌, ◌∙◌, refl, sym, ap, subst, Bool, true, false, List, [], ◌∷◌, Some, Result, Ok, Err, map, length}
use Rattle.std.specs.List.{All}
use Rattle.std.specs.Prelude.{IfErr, IsErrAnd}
use Rattle.std.proofs.lemmas.List.Elements.{All-head, All-tail}
use Rattle.icn_value.specs.declared.val.Val.{Val}
use Rattle.icn_value.specs.Store.{Heap, Setting}
use Rattle.icn_value.specs.Values.{File, Std}
use Rattle.icn_defs.specs.Calls.{ComesTo, GoesOn}
use Rattle.icn_defs.specs.InputOutput.{WriteArgument, Selects, pieces}
use Rattle.icn_defs.specs.OpenFiles.{is_writable}
use Rattle.icn_defs.specs.Rows.{Error, Outcome, Row, check}
use Rattle.icn_heap.specs.Extents.{Extent, IsLive, value_in}
use Rattle.icn_vars.specs.declared.stop.Stop.{Stop}
use Rattle.icn_vars.specs.declared.stop.Stop.TheVariants.{Error as ErrorStop, NoMemory as NoMemoryStop}
use Rattle.icn_vars.specs.Stops.{IsLiveStop, StopsFinding}
use Rattle.icn_args.specs.RowWords.{IsFound}
use Rattle.icn_iofn.specs.Checks.{one_piece}
use Rattle.icn_iofn.specs.PutPieces.{piece_in, pieces_in}
use Rattle.icn_iofn.proofs.PutSteps.{nothing_left}

-- a file that is open for writing passes, and another one is an error
pub file_passes : (heap : Heap) (file : File) (setting : Setting) → is_writable heap file ≡ true
    → GoesOn (one_piece heap (Std file)) setting (Selects file) setting
file_passes heap file setting is = λ next. ap (λ (opens : Bool). check opens 213 (Some (Std file)) (next (Selects file)) setting) is

pub file_refused : (heap : Heap) (file : File) (setting : Setting) → is_writable heap file ≡ false
    → ComesTo (one_piece heap (Std file)) setting (Error 213 (Some (Std file)) setting)
file_refused heap file setting is = λ next. ap (λ (opens : Bool). check opens 213 (Some (Std file)) (next (Selects file)) setting) is

-- what comes of checking what is left comes of checking all
pub record ChecksSo (heap : Heap) (all : Extent) (vals rest : List Val) : Type 0 where
  pub passes : (setting : Setting)
      → ((next : List WriteArgument → Row) → pieces heap (map (value_in all) rest) next setting ≡ next (pieces_in (map (value_in all) rest)) setting)
      → (next : List WriteArgument → Row) → pieces heap (map (value_in all) vals) next setting ≡ next (pieces_in (map (value_in all) vals)) setting
  pub halts : (setting : Setting) (outcome : Outcome)
      → ((next : List WriteArgument → Row) → pieces heap (map (value_in all) rest) next setting ≡ outcome)
      → (next : List WriteArgument → Row) → pieces heap (map (value_in all) vals) next setting ≡ outcome
  pub live : All (IsLive all) rest

pub checks_begin : (heap : Heap) (all : Extent) (vals : List Val) → All (IsLive all) vals → ChecksSo heap all vals vals
checks_begin heap all vals live = record { passes = λ setting is. is; halts = λ setting outcome is. is; live = live }

checks_at : (heap : Heap) (all : Extent) (vals rest other : List Val) → rest ≡ other → ChecksSo heap all vals rest → ChecksSo heap all vals other
checks_at heap all vals rest other same so = subst (ChecksSo heap all vals) same so

module _ (heap : Heap) (all : Extent) (vals rest : List Val) (first : Val) (others : List Val) (is : rest ≡ first ∷ others)
    (so : ChecksSo heap all vals rest) where
  at : ChecksSo heap all vals (first ∷ others)
  at = checks_at heap all vals rest (first ∷ others) is so

  pub first_live : IsLive all first
  first_live = All-head (IsLive all) first others at.live

  -- one argument passed
  pub checks_go_on : ((setting : Setting) → GoesOn (one_piece heap (value_in all first)) setting (piece_in (value_in all first)) setting)
      → ChecksSo heap all vals others
  checks_go_on found = record {
    passes = λ setting left. at.passes setting
        (λ next. found setting (λ piece. pieces heap (map (value_in all) others) (λ more. next (piece ∷ more)))
        ∙ left (λ more. next (piece_in (value_in all first) ∷ more)));
    halts = λ setting outcome left. at.halts setting outcome
        (λ next. found setting (λ piece. pieces heap (map (value_in all) others) (λ more. next (piece ∷ more)))
        ∙ left (λ more. next (piece_in (value_in all first) ∷ more)));
    live = All-tail (IsLive all) first others at.live;
  }

  stops_so : (setting : Setting) (stop : Stop) → StopsFinding all (one_piece heap (value_in all first)) setting setting stop
      → StopsFinding all (pieces heap (map (value_in all) vals)) setting setting stop
  stops_so setting (ErrorStop number offending) halt =
      at.halts setting _ (λ next. halt (λ piece. pieces heap (map (value_in all) others) (λ more. next (piece ∷ more))))
  stops_so setting NoMemoryStop halt = tt

  -- one did not
  pub check_stops : (setting : Setting) (result : Result (Unit {0}) Stop) (stop : Stop) → IsErrAnd result (λ other. other ≡ stop)
      → StopsFinding all (one_piece heap (value_in all first)) setting setting stop
      → IsFound all (pieces heap (map (value_in all) vals)) setting setting (λ (done : Unit {0}). pieces_in (map (value_in all) vals)) result
  check_stops setting (Ok done) stop same halt = absurd same
  check_stops setting (Err other) stop same halt =
      subst (StopsFinding all (pieces heap (map (value_in all) vals)) setting setting) (sym same) (stops_so setting stop halt)

-- what stopped them is of the heap
pub check_lives : (all : Extent) (result : Result (Unit {0}) Stop) (stop : Stop) → IsErrAnd result (λ other. other ≡ stop) → IsLiveStop all stop
    → IfErr result (IsLiveStop all)
check_lives all (Ok done) stop same lives = absurd same
check_lives all (Err other) stop same lives = subst (IsLiveStop all) (sym same) lives

-- all passed
pub checks_end : (heap : Heap) (all : Extent) (vals rest : List Val) → ChecksSo heap all vals rest → length rest ≡ 0 → (setting : Setting)
    → GoesOn (pieces heap (map (value_in all) vals)) setting (pieces_in (map (value_in all) vals)) setting
checks_end heap all vals rest so none setting =
    let at : ChecksSo heap all vals [] = checks_at heap all vals rest [] (nothing_left rest none) so in at.passes setting (λ next. refl)
