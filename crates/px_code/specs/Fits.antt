-- Heaps that have the shape that the code gives them, and references that lead where points-to says.
use Rattle.std.specs.Prelude.{◌≡◌, ℕ, List, length, Option, Some, slice_get}
use Rattle.px_value.specs.declared.header.Kind.{Kind}
use Rattle.px_value.specs.declared.value.Value.TheVariants.{Ref}
use Rattle.px_value.specs.declared.object.Object.{Object}
use Rattle.px_value.specs.declared.header.Header.{Header}
use Rattle.px_value.specs.declared.header.Kind.TheVariants as kind
use Rattle.px_value.specs.Heap.{cell_at, header_of}
use Rattle.px_code.specs.declared.code.Code.{Code}
use Rattle.px_code.specs.Places.{site_kind, part_by, fields_in}
use Rattle.px_code.specs.Points.{Place, PointsTo, InPart}

-- an object has a cell for each field of its class
abbrev pub HasFields : Code → Kind → ℕ → Type 0
HasFields code (kind.Object class) n = n ≡ length (fields_in (slice_get code.classes class))
HasFields code _ n = Unit {0}

-- an object is of the kind that its site makes, with as many cells as its header says
pub record IsMade (code : Code) (o : Object) : Type 0 where
  pub kind : site_kind code o.header.site ≡ Some o.header.kind
  pub counted : length o.cells ≡ o.header.length
  pub fields : HasFields code o.header.kind (length o.cells)

-- every object is; object 0 is of Main, made at site 0
pub record IsShaped (code : Code) (heap : List Object) : Type 0 where
  pub first : Object
  pub first_is : slice_get heap 0 ≡ Some first
  pub of_main : first.header.kind ≡ kind.Object code.main
  pub at_site_0 : first.header.site ≡ 0
  pub made : (place : ℕ) (o : Object) → slice_get heap place ≡ Some o → IsMade code o

abbrev pub header_at : List Object → ℕ → Option Header
header_at heap place = header_of (slice_get heap place)

-- a reference in a place leads to an object of a site that points-to has there
pub record Leads (code : Code) (heap : List Object) (place : Place) (target : ℕ) : Type 0 where
  pub header : Header
  pub there : header_at heap target ≡ Some header
  pub site : PointsTo code place header.site

-- the heap has its shape, and each reference in a cell leads where points-to says
pub record Fits (code : Code) (heap : List Object) : Type 0 where
  pub shaped : IsShaped code heap
  pub leads : (place index target : ℕ) (h : Header) → cell_at heap place index ≡ Some (Ref target) → header_at heap place ≡ Some h → Leads code heap (InPart h.site (part_by h.kind index)) target
