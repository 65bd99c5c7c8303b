-- A set of marks or of names, as the list that the machine has.
use Rattle.std.proofs.Common.{◌≡◌, ℕ, zero, suc, nat_eq, Bool, true, false, ◌&&◌, ◌||◌, List, [], ◌∷◌, ◌++◌, map, refl, ap, ◌∙◌}
use Rattle.std.specs.Prelude.{if◌then◌else◌}
use Rattle.std.specs.List.{list_any}
use Rattle.std.proofs.lemmas.List.{map-append}
use Rattle.std.proofs.Math.Dec.{eqb-zero-suc, eqb-suc-zero, eqb-suc-suc}
use Rattle.indexmap.specs.IndexSet.{insert_key}
use Rattle.px_blocks.specs.declared.block.SendKind.{SendKind}
use Rattle.px_blocks.specs.declared.block.SendKind.TheVariants as send
use Rattle.px_blocks.specs.declared.block.Naming.{Naming}
use Rattle.px_blocks.specs.Sides.{same, same_cell}
use Rattle.px_blocks.specs.Machine.{marked, with_mark_if, same_kind, has_naming, with_name_if}
use Rattle.px_control.specs.declared.marks.Mark.{Mark}
use Rattle.px_control.specs.declared.names.Name.{Name}
use Rattle.px_control.specs.declared.names.Name.TheVariants as name
use Rattle.px_control.specs.contracts.marks.MarkPartialEq.TheImpl.{eq-value as mark_eq}
use Rattle.px_control.specs.contracts.names.NamePartialEq.TheImpl.{eq-value as name_eq}
use Rattle.px_control.specs.Marks.{cell_of}
use Rattle.px_control.specs.Names.{name_of, naming_of}

pub same_is : (m n : ℕ) → nat_eq m n ≡ same m n
same_is zero zero = refl
same_is zero (suc n) = eqb-zero-suc n
same_is (suc m) zero = eqb-suc-zero m
same_is (suc m) (suc n) = eqb-suc-suc m n ∙ same_is m n

-- ---- marks

pub same_mark : (m k : Mark) → mark_eq.it m k ≡ same_cell k.object k.index m.object m.index
same_mark m k = ap (λ (b : Bool). b && nat_eq m.index k.index) (same_is m.object k.object) ∙ ap (λ (b : Bool). same m.object k.object && b) (same_is m.index k.index)

pub marked_is : (m : Mark) (ks : List Mark) → list_any (mark_eq.it m) ks ≡ marked (map cell_of ks) m.object m.index
marked_is m [] = refl
marked_is m (k ∷ ks) = ap (λ (b : Bool). b || list_any (mark_eq.it m) ks) (same_mark m k) ∙ ap (λ (b : Bool). same_cell k.object k.index m.object m.index || b) (marked_is m ks)

mark_if : (b : Bool) (m : Mark) (ks : List Mark) → map cell_of (if b then ks else ks ++ m ∷ []) ≡ with_mark_if b (cell_of m) (map cell_of ks)
mark_if true m ks = refl
mark_if false m ks = map-append cell_of ks (m ∷ [])

pub mark_added : (m : Mark) (ks : List Mark) → map cell_of (insert_key mark_eq.it ks m) ≡ with_mark_if (marked (map cell_of ks) m.object m.index) (cell_of m) (map cell_of ks)
mark_added m ks = mark_if (list_any (mark_eq.it m) ks) m ks ∙ ap (λ (b : Bool). with_mark_if b (cell_of m) (map cell_of ks)) (marked_is m ks)

-- ---- names

pub same_name : (kind : SendKind) (o : ℕ) (n : Name) → name_eq.it (name_of kind o) n ≡ (same_kind kind (naming_of n).kind && same o (naming_of n).object)
same_name send.App o (name.App p) = same_is o p
same_name send.App o (name.Db p) = refl
same_name send.App o (name.Native p) = refl
same_name send.Db o (name.App p) = refl
same_name send.Db o (name.Db p) = same_is o p
same_name send.Db o (name.Native p) = refl
same_name send.Native o (name.App p) = refl
same_name send.Native o (name.Db p) = refl
same_name send.Native o (name.Native p) = same_is o p

pub named_is : (kind : SendKind) (o : ℕ) (ns : List Name) → list_any (name_eq.it (name_of kind o)) ns ≡ has_naming (map naming_of ns) kind o
named_is kind o [] = refl
named_is kind o (n ∷ ns) = ap (λ (b : Bool). b || list_any (name_eq.it (name_of kind o)) ns) (same_name kind o n) ∙ ap (λ (b : Bool). (same_kind kind (naming_of n).kind && same o (naming_of n).object) || b) (named_is kind o ns)

abbrev naming : SendKind → ℕ → Naming
naming kind o = record { kind = kind; object = o }

naming_is : (kind : SendKind) (o : ℕ) → naming_of (name_of kind o) ≡ naming kind o
naming_is send.App o = refl
naming_is send.Db o = refl
naming_is send.Native o = refl

name_if : (b : Bool) (n : Name) (ns : List Name) → map naming_of (if b then ns else ns ++ n ∷ []) ≡ with_name_if b (naming_of n) (map naming_of ns)
name_if true n ns = refl
name_if false n ns = map-append naming_of ns (n ∷ [])

pub name_added : (kind : SendKind) (o : ℕ) (n : Name) (ns : List Name) → n ≡ name_of kind o → map naming_of (insert_key name_eq.it ns n) ≡ with_name_if (has_naming (map naming_of ns) kind o) (record { kind = kind; object = o }) (map naming_of ns)
name_added kind o n ns e =
    ap (λ (x : Name). map naming_of (insert_key name_eq.it ns x)) e
    ∙ name_if (list_any (name_eq.it (name_of kind o)) ns) (name_of kind o) ns
    ∙ ap (λ (b : Bool). with_name_if b (naming_of (name_of kind o)) (map naming_of ns)) (named_is kind o ns)
    ∙ ap (λ (x : Naming). with_name_if (has_naming (map naming_of ns) kind o) x (map naming_of ns)) (naming_is kind o)
