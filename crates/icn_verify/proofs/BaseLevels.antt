-- What an instruction can see of a shape whose levels are walked from the base.
use Rattle.std.proofs.Common.{◌≡◌, Bool, List, [], ◌∷◌, slice_get, Option, None, Some, refl, sym, ap, ◌∙◌}
use Rattle.icn_verify.specs.declared.shape.Level.{Level}
use Rattle.icn_verify.specs.declared.shape.ShapeView.{ShapeView}
use Rattle.icn_verify.specs.Shapes.{look_of, shape_within, shape_by}

abbrev pub look_by : Bool → Level → Option Level → List Level → ShapeView
look_by in_create inner outside [] = record { in_create = in_create; inner = inner; outside = outside }
look_by in_create inner outside (mark ∷ marks) = look_by in_create mark (Some inner) marks

pub look_within : (in_create : Bool) (inner : Level) (outer marks : List Level)
    → look_of (shape_within in_create inner outer marks) ≡ look_by in_create inner (slice_get outer 0) marks
look_within in_create inner outer [] = refl
look_within in_create inner outer (mark ∷ marks) = look_within in_create mark (inner ∷ outer) marks

-- the walk begins at the base
pub look_from : (in_create : Bool) (base : Level) (marks all : List Level) → all ≡ base ∷ marks
    → look_by in_create base None marks ≡ look_of (shape_by in_create all)
look_from in_create base marks all is = sym (ap (λ l. look_of (shape_by in_create l)) is ∙ look_within in_create base [] marks)
