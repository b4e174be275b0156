-- What the files that the words name come to as a program.
use Rattle.std.proofs.Common.{◌≡◌, ◌⊎◌, inl, inr, ℕ, List, [], ◌∷◌, Some, Result, Ok, Err, refl, sym, ap, subst, ◌∙◌}
use Rattle.icn_code.specs.Codes.{Tables}
use Rattle.icn_tree.specs.declared.rule.Rule.TheVariants as Rules
use Rattle.icn_link.specs.declared.fault.LinkFault.TheVariants.{K2}
use Rattle.icn_link.specs.LinkFaults.{missing_unit}
use Rattle.icn_answer.specs.declared.answer.Answer.{Answer}
use Rattle.icn_answer.specs.declared.answer.Answer.TheVariants.{Refused, BadUcode, NoMemory}
use Rattle.icn_host.specs.Counts.{Rose}
use Rattle.icont_units.specs.declared.members.Members.{Members}
use Rattle.icont_units.specs.Generated.{GeneratedComes, generated_base}
use Rattle.icont_units.specs.FetchedFiles.{IsOfLoading}
use Rattle.icont_units.specs.Files.{first_name}
use Rattle.icont_units.specs.Loading.{AreSought, AreSoundMembers, HoldsMembers, kept_units}
use Rattle.icont_units.specs.Units.{FromSource, Member, units_of}
use Rattle.icont_units.proofs.EqualResults.{err_injective, ok_injective, ok_is_not_err}
use Rattle.icont_top.specs.declared.loading.LoadedProgram.{LoadedProgram}
use Rattle.icont_top.specs.Answered.{TellsLink}
use Rattle.icont_top.specs.Asking.{IsProgramOf, IsTold}
use Rattle.icont_top.specs.Job.{first_base}
use Rattle.icont_top.specs.Programs.{Links, is_program, link_refusal, linked_code, not_linked, unverified}

-- where the first linked file is not there, the count tells so, or its name is no text
pub told_of : {before now : ℕ} (held : Members) (members : List Member) → HoldsMembers held members → AreSought before now (kept_units held).units
    → IsTold (Rose before now) members
told_of held members stands sought unit name e = sought.missed unit name (subst (λ units. missing_unit units ≡ Some (K2 unit name)) (sym stands.units) e)

-- units that are no program
pub no_program_of : {rose : Type 0} (Comes : Result (List Member) Answer → Type 0) (members : List Member) (answer : Answer) → Comes (Ok members)
    → IsTold rose members → (answer ≡ NoMemory) ⊎ Links members (Err answer)
    → let found : Result LoadedProgram Answer = Err answer in IsProgramOf Comes rose found
no_program_of Comes members answer comes told (inl want) = inl (rw want refl)
no_program_of Comes members answer comes told (inr links) = inr (inr (members, (comes, (told, links))))

base_by : {number : ℕ} (result : Result (List Member) Answer) → GeneratedComes number result → (members : List Member) → result ≡ Ok members
    → generated_base ≡ first_base members
base_by _ (GeneratedComes.not_scanned rule file line e) members same = absurd (ok_is_not_err members _ (sym same))
base_by _ (GeneratedComes.broken tokens rule place e x) members same = absurd (ok_is_not_err members _ (sym same))
base_by _ (GeneratedComes.made tokens file e x) members same = ap first_base (ok_injective (FromSource generated_base file ∷ []) members same)

-- the one unit of the program of a number has its base
pub number_base : (number : ℕ) (members : List Member) → GeneratedComes number (Ok members) → generated_base ≡ first_base members
number_base number members comes = base_by (Ok members) comes members refl

-- A linked file that is told not to be there

-- units that are refused for it break a rule of linking
refused_by : {members : List Member} (result : Result Tables Answer) → Links members result → (answer : Answer) → result ≡ Err answer
    → (file : List ℕ) (line : ℕ) → answer ≡ Refused file line Rules.K2 → link_refusal members ≡ Some answer
refused_by _ (not_linked other e) answer same file line is = e ∙ ap (λ (a : Answer). Some a) (err_injective other answer same)
refused_by _ (unverified base rule number place fits at e) answer same file line is =
    absurd (let clash : BadUcode (first_name base) rule ≡ Refused file line Rules.K2 = err_injective (BadUcode (first_name base) rule) answer same ∙ is in cc)
refused_by {members = members} _ (is_program fits verified) answer same file line is = absurd (ok_is_not_err (linked_code members) answer same)

misses_link : {before now : ℕ} (members : List Member) (answer : Answer) → (answer ≡ NoMemory) ⊎ Links members (Err answer)
    → AreSought before now (units_of members) → TellsLink answer before now
misses_link members answer (inl want) sought =
    λ file line is. absurd (let clash : NoMemory ≡ Refused file line Rules.K2 = sym want ∙ is in cc)
misses_link members answer (inr links) sought =
    λ file line is. record { members = members; refused = refused_by (Err answer) links answer refl file line is; sought = sought }

-- units that were loaded and come to no program
pub tells_link : {before now : ℕ} (held : Members) (answer : Answer) → AreSoundMembers held → AreSought before now (kept_units held).units
    → ((members : List Member) → HoldsMembers held members → (answer ≡ NoMemory) ⊎ Links members (Err answer)) → TellsLink answer before now
tells_link {before = before} {now} held answer sound sought makes =
    misses_link sound.members answer (makes sound.members sound.stands) (subst (λ units. AreSought before now units) sound.stands.units sought)

-- what refuses a source or a unit
pub loading_unlinked : {before now : ℕ} (answer : Answer) → IsOfLoading answer → TellsLink answer before now
loading_unlinked answer loading = λ file line is. let none : Rules.K2 ≡ Rules.K2 → ⊥ = rw is at loading in absurd (none refl)
