-- Shapes: what is open at an address of a procedure, and how many operands and open scans each level has.
use Rattle.std.specs.Prelude.{ℕ, ◌+◌, ◌-◌, Bool, true, false, ◌&&◌, nat_eq, List, [], ◌∷◌, Option, None, Some, slice_get}
use Rattle.icn_verify.specs.declared.shape.Level.{Level}
use Rattle.icn_verify.specs.declared.shape.LevelKind.{LevelKind}
use Rattle.icn_verify.specs.declared.shape.LevelKind.TheVariants.{Base, Plain, Limit}
use Rattle.icn_verify.specs.declared.shape.ShapeView.{ShapeView}
use Rattle.icn_verify.specs.declared.shape.Shape.{Shape}

-- a shape: whether the address is in a create body, the innermost level, and the levels outside it, the next one first. The
-- outermost level is the base.
pub record PlainShape : Type 0 where
  pub in_create : Bool
  pub inner : Level
  pub outer : List Level

-- a level of this kind without operands and open scans
abbrev pub empty_level : LevelKind → Level
empty_level kind = record { kind = kind; operands = 0; scans = 0 }

-- the base alone, empty: the shape with which a procedure starts, and a create body too
abbrev pub start_shape : Bool → PlainShape
start_shape in_create = record { in_create = in_create; inner = empty_level Base; outer = [] }

-- the level next outside the innermost
abbrev pub outside : PlainShape → Option Level
outside shape = slice_get shape.outer 0

-- what an instruction can see of a shape
abbrev pub look_of : PlainShape → ShapeView
look_of shape = record { in_create = shape.in_create; inner = shape.inner; outside = outside shape }

-- the shape whose innermost level has so many operands fewer, or more
abbrev pub with_fewer : ℕ → PlainShape → PlainShape
with_fewer n shape = record shape { inner = record shape.inner { operands = shape.inner.operands - n } }

-- the shape whose innermost level has so many operands more
abbrev pub with_more : ℕ → PlainShape → PlainShape
with_more n shape = record shape { inner = record shape.inner { operands = shape.inner.operands + n } }

-- the shape with an open scan more in its innermost level, or one fewer
abbrev pub with_scan : PlainShape → PlainShape
with_scan shape = record shape { inner = record shape.inner { scans = shape.inner.scans + 1 } }

-- the shape with an open scan fewer in its innermost level
abbrev pub without_scan : PlainShape → PlainShape
without_scan shape = record shape { inner = record shape.inner { scans = shape.inner.scans - 1 } }

-- the shape with an empty mark of this kind inside its innermost level
abbrev pub with_mark : LevelKind → PlainShape → PlainShape
with_mark kind shape =
    record { in_create = shape.in_create; inner = empty_level kind; outer = shape.inner ∷ shape.outer }

-- the levels without the innermost, which is a mark; a base alone has none
abbrev pub shape_outside : Bool → List Level → Option PlainShape
shape_outside in_create [] = None
shape_outside in_create (level ∷ levels) =
    Some (record { in_create = in_create; inner = level; outer = levels })

-- the shape before the innermost mark
abbrev pub before_mark : PlainShape → Option PlainShape
before_mark shape = shape_outside shape.in_create shape.outer

-- equal shapes
abbrev pub same_kind : LevelKind → LevelKind → Bool
same_kind Base Base = true
same_kind Plain Plain = true
same_kind Limit Limit = true
same_kind _ _ = false

-- levels of the same kind with the same counts
abbrev pub same_level : Level → Level → Bool
same_level a b = same_kind a.kind b.kind && nat_eq a.operands b.operands && nat_eq a.scans b.scans

-- the shape of levels with the base first: the last is the innermost. No level at all is the base alone, empty.
abbrev pub shape_within : Bool → Level → List Level → List Level → PlainShape
shape_within in_create inner outer [] = record { in_create = in_create; inner = inner; outer = outer }
shape_within in_create inner outer (mark ∷ marks) = shape_within in_create mark (inner ∷ outer) marks

-- the shape of levels with the base first
abbrev pub shape_by : Bool → List Level → PlainShape
shape_by in_create [] = start_shape in_create
shape_by in_create (base ∷ marks) = shape_within in_create base [] marks

-- a shape, as plain lists
abbrev pub plain_of : Shape → PlainShape
plain_of shape = shape_by shape.in_create shape.marks.items
