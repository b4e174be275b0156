use Rattle.std.proofs.Common.{Option, subst}
use Rattle.icn_host.specs.FileMaps.{FileMap}
use Rattle.icn_answer.proofs.ToldContent.{if_some_elim}
use Rattle.icont_top.specs.Outcomes.{HoldsWritten}
use Rattle.law_programs.specs.SourceImages.{image_asked}
use Rattle.law_programs.proofs.ImageRuns.{does_as_sources}
use Rattle.law_programs.proofs.WrittenImages.{has_written, image_there}
use Rattle.law_programs.proofs.laws.images_run_as_sources.Goals as goal

pub returns : goal.returns
returns c words files written was wrote pended pends first name sources held wrote_held whole asks stands asked arguments bounds left before after kept keeps
    answer reading told there run =
    does_as_sources c.one_fault.ensures.one_fault c.one_fault.ensures.no_fault asked arguments written left name bounds sources reading
    (image_there c.one_reading.ensures.one words files written name sources asks first stands
    (subst (λ (now : Option FileMap). HoldsWritten words files first now) wrote_held
    (if_some_elim _ was.files.held files held (whole.headline (has_written first written (image_asked asks) stands))))) answer before after
    (if_some_elim _ before.left left told (if_some_elim _ before.files.held written there run.outcome))
