-- What the objects of a site are, and which parts and slots code has.
use Rattle.std.specs.Prelude.{◌≡◌, ℕ, zero, suc, List, [], Option, Some, None, slice_get}
use Rattle.px_value.specs.declared.header.Kind.{Kind}
use Rattle.px_value.specs.declared.header.Kind.TheVariants as kind
use Rattle.px_normal.specs.declared.ty.Ty.{Ty}
use Rattle.px_normal.specs.declared.class.Field.{Field as FieldOf}
use Rattle.px_normal.specs.declared.method.Method.{Method}
use Rattle.px_normal.specs.declared.code.Site.{Site}
use Rattle.px_normal.specs.declared.code.Code.{Code}
use Rattle.px_normal.specs.First.{numbered, fields_of}
use Rattle.px_flow_points.specs.declared.part.Part.{Part}
use Rattle.px_flow_points.specs.declared.part.Part.TheVariants.{Field, Elements}

-- ---- sites

abbrev pub kind_of_site : Option Site → Option Kind
kind_of_site None = None
kind_of_site (Some site) = Some site.kind

-- site 0 makes the first object of a session, of Main
abbrev pub site_kind : Code → ℕ → Option Kind
site_kind code zero = Some (kind.Object code.main)
site_kind code (suc n) = kind_of_site (slice_get code.sites n)

abbrev pub HasSite : Code → ℕ → Type 0
HasSite code s = (k : Kind) × (site_kind code s ≡ Some k)

pub data IsOfElements : Kind → Type 0 where
  array : {element : ℕ} → IsOfElements (kind.Array element)
  rows : {statement : ℕ} → IsOfElements (kind.Rows statement)

-- the objects of the site have the part
pub data HasPart (code : Code) (s : ℕ) : Part → Type 0 where
  field : (class place : ℕ) (f : FieldOf) → site_kind code s ≡ Some (kind.Object class) → slice_get (fields_of code class) place ≡ Some f → HasPart code s (Field place)
  elements : (k : Kind) → site_kind code s ≡ Some k → IsOfElements k → HasPart code s Elements

-- ---- slots

abbrev pub slots_of : Option Method → List Ty
slots_of None = []
slots_of (Some m) = m.slots

abbrev pub slot_ty : Code → ℕ → ℕ → Option Ty
slot_ty code m n = slice_get (slots_of (numbered code.methods m)) n

abbrev pub HasSlot : Code → ℕ → ℕ → Type 0
HasSlot code m n = (t : Ty) × (slot_ty code m n ≡ Some t)
