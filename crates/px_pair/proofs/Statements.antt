-- A statement does the same at the end with control as on the one heap.
use Rattle.std.proofs.Common.{◌≡◌, ℕ, Bool, true, false, ◌==◌, ◌&&◌, ◌||◌, List, [], ◌∷◌, ◌++◌, Option, Some, None, Err, slice_get, refl, sym, ap, subst, ◌∙◌, eqb-true}
use Rattle.std.specs.List.{AllByRecursion}
use Rattle.px_value.specs.declared.value.Value.{Value}
use Rattle.px_value.specs.declared.value.Value.TheVariants as v
use Rattle.px_value.specs.declared.thrown.Thrown.{Thrown}
use Rattle.px_value.specs.declared.object.Object.{Object}
use Rattle.px_value.specs.declared.header.Header.{Header}
use Rattle.px_value.specs.declared.header.Kind.{Kind}
use Rattle.px_value.specs.declared.header.Kind.TheVariants as kind
use Rattle.px_code.specs.declared.side.Side.{Side}
use Rattle.px_code.specs.declared.side.Side.TheVariants.{App, Db}
use Rattle.px_code.specs.declared.cell.Cell.{Cell}
use Rattle.px_code.specs.declared.cell.Part.{Part}
use Rattle.px_code.specs.declared.cell.Part.TheVariants.{Field as FieldPart}
use Rattle.px_code.specs.declared.word.Operand.{Operand}
use Rattle.px_code.specs.declared.word.Operand.TheVariants.{Slot as InFrame, Literal}
use Rattle.px_code.specs.declared.word.Word.{Word}
use Rattle.px_code.specs.declared.word.Word.TheVariants as w
use Rattle.px_code.specs.declared.block.Send.{Send}
use Rattle.px_code.specs.declared.block.Naming.{Naming}
use Rattle.px_code.specs.declared.code.Code.{Code}
use Rattle.px_code.specs.declared.plan.Plan.{Plan}
use Rattle.px_code.specs.Places.{other, side_of, same_side, home_in, node_by, field_node, site_kind, part_by}
use Rattle.px_code.specs.Points.{HasStatement, InSlot, ReadsPart, put}
use Rattle.px_code.specs.Sends.{Keeps, read_there, IsRightSend}
use Rattle.px_code.specs.Fits.{header_at, Leads, Fits}
use Rattle.px_code.specs.Act.{Slots, operand, act_of, Reads, Writes, comes, at_object, acted}
use Rattle.px_code.specs.Sound.{IsNoReference}
use Rattle.px_code.specs.Law.{HasNoReference}
use Rattle.px_code.specs.Machine.{namings, naming}
use Rattle.px_value.specs.Heap.{header_of}
use Rattle.px_code.proofs.Staying.{leads_to_object}
use Rattle.px_half.specs.Messages.{is_marked, is_named}
use Rattle.px_pair.specs.Agree.{KeepsCell}
use Rattle.px_pair.specs.Law.{NamesClasses}
use Rattle.px_pair.proofs.Heaps.{or_assoc, eq_self}

-- a throw comes before a write
pub throws_first : (word : Word) (slots : Slots) (heap : List Object) (t : Thrown) → (acted (act_of word slots) heap).ends ≡ Err t → (acted (act_of word slots) heap).writes ≡ []
throws_first (w.Set to a) slots heap t h = refl
throws_first (w.Op op to a b) slots heap t h = refl
throws_first (w.Get to of class field) slots heap t h = read_first (operand slots of) h
  where
    read_first : (x : Value) → (acted (at_object x (λ o. Reads o field comes)) heap).ends ≡ Err t → (acted (at_object x (λ o. Reads o field comes)) heap).writes ≡ []
    read_first (v.Int n) h = refl
    read_first (v.Long n) h = refl
    read_first (v.Bool b) h = refl
    read_first (v.Text s) h = refl
    read_first v.Null h = refl
    read_first (v.Ref o) h = refl
throws_first (w.Put of class field a) slots heap t h = write_first (operand slots of) h
  where
    write_first : (x : Value) → (acted (at_object x (λ o. Writes o field (operand slots a) (comes v.Null))) heap).ends ≡ Err t → (acted (at_object x (λ o. Writes o field (operand slots a) (comes v.Null))) heap).writes ≡ []
    write_first (v.Int n) h = refl
    write_first (v.Long n) h = refl
    write_first (v.Bool b) h = refl
    write_first (v.Text s) h = refl
    write_first v.Null h = refl
    write_first (v.Ref o) h = cc
throws_first (w.Return None) slots heap t h = refl
throws_first (w.Return (Some a)) slots heap t h = refl

module _ (plan : Plan) where
  abbrev code : Code
  code = plan.code

  abbrev sides : List Side
  sides = plan.placement.sides

  all_map : {A : Type 0} (P Q : A → Type 0) (xs : List A) → ((x : A) → P x → Q x) → AllByRecursion P xs → AllByRecursion Q xs
  all_map P Q [] f h = tt
  all_map P Q (x ∷ xs) f h = (f x h.0, all_map P Q xs f h.1)

  -- what a statement reads is kept at its side
  pub reads_kept : (m node : ℕ) (word : Word) (side : Side) (heap : List Object) (reads : List Cell) → HasStatement code m node word → side_of sides node ≡ side → AllByRecursion (λ (c : Cell). (h : Header) → header_at heap c.object ≡ Some h → ReadsPart code m word h.site (part_by h.kind c.index)) reads → AllByRecursion (λ (c : Cell). KeepsCell plan side heap c.object c.index) reads
  reads_kept m node word side heap reads has placed h = all_map _ _ reads (λ c k hd is. read_there has placed (k hd is)) h

  -- ---- what is written is named

  pub named_more : (xs ys : List Naming) (side : Side) (o : ℕ) → is_named (xs ++ ys) side o ≡ (is_named xs side o || is_named ys side o)
  named_more [] ys side o = refl
  named_more (n ∷ xs) ys side o = ap (λ b. ((n.object == o) && same_side n.home side) || b) (named_more xs ys side o) ∙ or_assoc ((n.object == o) && same_side n.home side) (is_named xs side o) (is_named ys side o)

  same_self : (side : Side) → same_side side side ≡ true
  same_self App = refl
  same_self Db = refl

  -- a cell of an object of a class is at home where its field is
  home_is : (o : Option Header) (h : Header) (class field : ℕ) → o ≡ Some h → h.kind ≡ kind.Object class → home_in code sides o field ≡ side_of sides (field_node code class field)
  home_is o h class field is of = ap (λ (x : Option Header). home_in code sides x field) is ∙ ap (λ (k : Kind). side_of sides (node_by code h.site k field)) of

  class_is : (a b : ℕ) (o : Option Kind) → o ≡ Some (kind.Object a) → o ≡ Some (kind.Object b) → a ≡ b
  class_is a b o h k = let e : Some (kind.Object a) ≡ Some (kind.Object b) = sym h ∙ k in cc

  made_by : (heap : List Object) (fits : Fits code heap) (o : ℕ) (h : Header) → header_at heap o ≡ Some h → site_kind code h.site ≡ Some h.kind
  made_by heap fits o h is = of_object (slice_get heap o) refl is
    where
      of_object : (x : Option Object) → slice_get heap o ≡ x → header_of x ≡ Some h → site_kind code h.site ≡ Some h.kind
      of_object None e k = cc
      of_object (Some y) e k = subst (λ (z : Header). site_kind code z.site ≡ Some z.kind) (let g : y.header ≡ h = cc in g) (fits.shaped.made o y e).kind

  kind_of : (a b : Kind) (o : Option Kind) → o ≡ Some a → o ≡ Some b → a ≡ b
  kind_of a b o h k = let e : Some a ≡ Some b = sym h ∙ k in cc

  or_true : (b : Bool) → (b || false) ≡ true → b ≡ true
  or_true true h = refl
  or_true false h = cc

  both : (a b : Bool) → (a && b) ≡ true → (a ≡ true) × (b ≡ true)
  both true true h = (refl, refl)
  both true false h = cc
  both false b h = cc

  named_one : (home : Side) (o : ℕ) (side : Side) → home ≡ side → is_named (record { home = home; object = o } ∷ []) side o ≡ true
  named_one home o side e = (λ i. ((eq_self o i) && same_side (e i) side) || false) ∙ ap (λ b. b || false) (same_self side)

  -- the object of a send that stands behind a write
  put_named : (m node k class field : ℕ) (a : Operand) (send : Option Send) (slots : Slots) (heap : List Object) (o : ℕ)
      → NamesClasses code → HasStatement code m node (w.Put (InFrame k) class field a) → IsRightSend code sides m node (w.Put (InFrame k) class field a) send
      → Fits code heap → slots k ≡ v.Ref o → Leads code heap (InSlot m k) o → KeepsCell plan (other (side_of sides node)) heap o field
      → is_named (namings send slots) (home_in code sides (header_at heap o) field) o ≡ true
  put_named m node k class field a None slots heap o names has right fits at l kept =
      absurd (right (record {
        site = l.header.site;
        part = FieldPart field;
        writes = put l.site;
        kept = subst (λ (p : Part). Keeps code sides (other (side_of sides node)) l.header.site p) (leads_to_object code heap (InSlot m k) o l.header field fits l l.there) (kept l.header l.there);
      }))
  put_named m node k class field a (Some send) slots heap o names has right fits at l kept =
      let of_class : l.header.kind ≡ kind.Object class = kind_of l.header.kind (kind.Object class) (site_kind code l.header.site) (made_by heap fits o l.header l.there) (names m node k class field l.header.site a has l.site) in
      let home : home_in code sides (header_at heap o) field ≡ side_of sides (field_node code class field) = home_is (header_at heap o) l.header class field l.there of_class in
      let told : namings (Some send) slots ≡ record { home = send.home; object = o } ∷ [] = ap (λ (x : Operand). naming send (operand slots x)) right.1.1 ∙ ap (naming send) at in
      ap (λ (ns : List Naming). is_named ns (home_in code sides (header_at heap o) field) o) told ∙ named_one send.home o (home_in code sides (header_at heap o) field) (right.1.0 ∙ sym home)

  -- what a word wrote and the other side keeps is named by the send behind it
  pub new_named : (m node : ℕ) (word : Word) (send : Option Send) (slots : Slots) (heap : List Object)
      → NamesClasses code → HasStatement code m node word → HasNoReference word → IsRightSend code sides m node word send
      → Fits code heap → ((n target : ℕ) → slots n ≡ v.Ref target → Leads code heap (InSlot m n) target)
      → (o i : ℕ) → is_marked (acted (act_of word slots) heap).writes o i ≡ true → KeepsCell plan (other (side_of sides node)) heap o i
      → is_named (namings send slots) (home_in code sides (header_at heap o) i) o ≡ true
  new_named m node (w.Set to a) send slots heap names has plain right fits leads o i h kept = cc
  new_named m node (w.Op op to a b) send slots heap names has plain right fits leads o i h kept = cc
  new_named m node (w.Get to of class field) send slots heap names has plain right fits leads o i h kept = read_none (operand slots of) h
    where
      read_none : (x : Value) → is_marked (acted (at_object x (λ p. Reads p field comes)) heap).writes o i ≡ true → is_named (namings send slots) (home_in code sides (header_at heap o) i) o ≡ true
      read_none (v.Int n) k = cc
      read_none (v.Long n) k = cc
      read_none (v.Bool b) k = cc
      read_none (v.Text s) k = cc
      read_none v.Null k = cc
      read_none (v.Ref p) k = cc
  new_named m node (w.Put (Literal x) class field a) send slots heap names has plain right fits leads o i h kept = literal x plain.0 h
    where
      literal : (y : Value) → IsNoReference y → is_marked (acted (at_object y (λ p. Writes p field (operand slots a) (comes v.Null))) heap).writes o i ≡ true → is_named (namings send slots) (home_in code sides (header_at heap o) i) o ≡ true
      literal (v.Int n) r k = cc
      literal (v.Long n) r k = cc
      literal (v.Bool b) r k = cc
      literal (v.Text s) r k = cc
      literal v.Null r k = cc
      literal (v.Ref p) r k = absurd r
  new_named m node (w.Put (InFrame n) class field a) send slots heap names has plain right fits leads o i h kept = slot (slots n) refl h
    where
      at_it : (p : ℕ) → slots n ≡ v.Ref p → p ≡ o → field ≡ i → is_named (namings send slots) (home_in code sides (header_at heap o) i) o ≡ true
      at_it p e same_object same_index =
          subst (λ q. is_named (namings send slots) (home_in code sides (header_at heap o) q) o ≡ true) same_index
          (put_named m node n class field a send slots heap o names has right fits (e ∙ ap v.Ref same_object) (leads n o (e ∙ ap v.Ref same_object))
          (subst (λ q. KeepsCell plan (other (side_of sides node)) heap o q) (sym same_index) kept))

      slot : (x : Value) → slots n ≡ x → is_marked (acted (at_object x (λ p. Writes p field (operand slots a) (comes v.Null))) heap).writes o i ≡ true → is_named (namings send slots) (home_in code sides (header_at heap o) i) o ≡ true
      slot (v.Int k) e r = cc
      slot (v.Long k) e r = cc
      slot (v.Bool b) e r = cc
      slot (v.Text s) e r = cc
      slot v.Null e r = cc
      slot (v.Ref p) e r =
          let here : ((p == o) ≡ true) × ((field == i) ≡ true) = both (p == o) (field == i) (or_true ((p == o) && (field == i)) r) in
          at_it p e (eqb-true p o here.0) (eqb-true field i here.1)
  new_named m node (w.Return None) send slots heap names has plain right fits leads o i h kept = cc
  new_named m node (w.Return (Some a)) send slots heap names has plain right fits leads o i h kept = cc
