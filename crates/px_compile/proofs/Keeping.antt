-- The marks of a side are the fields that it keeps.
use Rattle.std.proofs.Common.{◌≡◌, ℕ, zero, suc, ◌+◌, ◌<◌, Bool, true, false, ◌&&◌, List, [], ◌∷◌, length, Some, slice_get, Contains, refl, sym, ap, ◌∙◌, subst, ⊎_elim, arith}
use Rattle.std.specs.List.{AllByRecursion}
use Rattle.std.proofs.lemmas.List.Elements.{recursion_from_All, All-contains_itself, All-from_recursion, All-contains}
use Rattle.std.proofs.lemmas.Option.{same_Some}
use Rattle.px_code.specs.declared.side.Side.{Side}
use Rattle.px_code.specs.declared.cell.Part.{Part}
use Rattle.px_code.specs.declared.cell.Part.TheVariants.{Field as FieldPart}
use Rattle.px_code.specs.declared.word.Operand.TheVariants.{Slot}
use Rattle.px_code.specs.declared.word.Word.{Word}
use Rattle.px_code.specs.declared.word.Word.TheVariants as w
use Rattle.px_code.specs.declared.class.Field.{Field}
use Rattle.px_code.specs.declared.method.Method.{Method}
use Rattle.px_code.specs.declared.method.Tree.{Tree}
use Rattle.px_code.specs.declared.method.Tree.TheVariants.{Do}
use Rattle.px_code.specs.declared.code.Code.{Code}
use Rattle.px_code.specs.WellFormed.{main_fields}
use Rattle.px_code.specs.Places.{side_of, same_side, node_of_field}
use Rattle.px_code.specs.Points.{PointsTo, InSlot, IsMethod, HasStatement, ReadsPart}
use Rattle.px_code.specs.Points as points
use Rattle.px_code.specs.Sends.{Keeps, at_home as kept_at_home, read_there}
use Rattle.px_code.proofs.Alone.{alone}
use Rattle.px_code.proofs.Written.{length-slice_set}
use Rattle.px_points.specs.Marks.{is_marked, with_mark}
use Rattle.px_points.specs.Places.{Places, slot_points}
use Rattle.px_points.specs.Analysis.{IsPointsOf}
use Rattle.px_points.proofs.Marking.{is_marked-with_mark, stays_marked, marked_now}
use Rattle.px_compile.specs.Kept.{at_home, with_mark_if, with_read, with_tree, with_body, with_methods, kept_marks, AreKeptAt}
use Rattle.px_compile.proofs.Lists.{both_true, both_are, one_side, side_itself, marked_within, AreNumbered, numbered_all, numbered_here, numbered_next}

module _ (code : Code) (sides : List Side) (side : Side) (p : Places) (exact : IsPointsOf code p) where
  -- ---- each mark is of a field that is kept

  pub record AreSound (marks : List Bool) : Type 0 where
    pub kept : (f : ℕ) → is_marked marks f ≡ true → Keeps code sides side 0 (FieldPart f)
    pub count : length marks ≡ length (main_fields code)

  marked-at_home : (fields : List Field) (f : ℕ) → is_marked (at_home sides side fields) f ≡ true → side_of sides (node_of_field (slice_get fields f)) ≡ side
  marked-at_home [] f h = absurd cc
  marked-at_home (field ∷ fields) zero h = one_side (side_of sides field.node) side h
  marked-at_home (field ∷ fields) (suc f) h = marked-at_home fields f h

  length-at_home : (fields : List Field) → length (at_home sides side fields) ≡ length fields
  length-at_home [] = refl
  length-at_home (field ∷ fields) = ap suc (length-at_home fields)

  sound-home : AreSound (at_home sides side (main_fields code))
  sound-home = record { kept = λ f h. kept_at_home (marked-at_home (main_fields code) f h); count = length-at_home (main_fields code) }

  sound-mark : (reads : Bool) (field : ℕ) (marks : List Bool) → (reads ≡ true → Keeps code sides side 0 (FieldPart field)) → AreSound marks → AreSound (with_mark_if reads field marks)
  sound-mark false field marks may sound = sound
  sound-mark true field marks may sound = record {
    kept = λ f h. ⊎_elim
        (λ (e : field ≡ f). subst (λ n. Keeps code sides side 0 (FieldPart n)) e (may refl))
        (λ (t : is_marked marks f ≡ true). sound.kept f t)
        (is_marked-with_mark marks field f h);
    count = length-slice_set marks field true ∙ sound.count;
  }

  sound-read : (m node : ℕ) (word : Word) (marks : List Bool) → HasStatement code m node word → AreSound marks → AreSound (with_read p sides side m node word marks)
  sound-read m node (w.Get to (Slot of) class field) marks has sound =
      sound-mark (slot_points p m of && same_side (side_of sides node) side) field marks
      (λ both.
      let t = both_true (slot_points p m of) (same_side (side_of sides node) side) both in
      read_there has (one_side (side_of sides node) side t.1) (points.ReadsPart.get ((exact.slots m of).0 t.0)))
      sound
  sound-read m node _ marks has sound = sound

  sound-tree : (m : ℕ) (method : Method) (tree : Tree) (marks : List Bool) → IsMethod code m method → Contains method.body tree → AreSound marks → AreSound (with_tree p sides side m tree marks)
  sound-tree m method (Do node word) marks is has sound = sound-read m node word marks (record { method = method; is = is; has = has }) sound

  sound-body : (m : ℕ) (method : Method) (trees : List Tree) (marks : List Bool) → IsMethod code m method → AllByRecursion (Contains method.body) trees → AreSound marks → AreSound (with_body p sides side m trees marks)
  sound-body m method [] marks is has sound = sound
  sound-body m method (tree ∷ trees) marks is has sound = sound-body m method trees (with_tree p sides side m tree marks) is has.1 (sound-tree m method tree marks is has.0 sound)

  sound-methods : (m : ℕ) (methods : List Method) (marks : List Bool) → AreNumbered code m methods → AreSound marks → AreSound (with_methods p sides side m methods marks)
  sound-methods m [] marks numbered sound = sound
  sound-methods m (method ∷ methods) marks numbered sound =
      sound-methods (m + 1) methods (with_body p sides side m method.body marks) (numbered_next code m method methods numbered)
      (sound-body m method method.body marks (numbered_here code m method methods numbered) (recursion_from_All (Contains method.body) method.body (All-contains_itself method.body)) sound)

  sound : AreSound (kept_marks p code sides side)
  sound = sound-methods 1 code.methods (at_home sides side (main_fields code)) (numbered_all code) sound-home

  -- ---- each field that is kept is marked

  module _ (f : ℕ) where
    stays-mark : (reads : Bool) (field : ℕ) (marks : List Bool) → is_marked marks f ≡ true → is_marked (with_mark_if reads field marks) f ≡ true
    stays-mark false field marks h = h
    stays-mark true field marks h = stays_marked marks field f h

    stays-tree : (m : ℕ) (tree : Tree) (marks : List Bool) → is_marked marks f ≡ true → is_marked (with_tree p sides side m tree marks) f ≡ true
    stays-tree m (Do node (w.Get to (Slot of) class field)) marks h = stays-mark (slot_points p m of && same_side (side_of sides node) side) field marks h
    stays-tree m (Do node _) marks h = h

    stays-body : (m : ℕ) (trees : List Tree) (marks : List Bool) → is_marked marks f ≡ true → is_marked (with_body p sides side m trees marks) f ≡ true
    stays-body m [] marks h = h
    stays-body m (tree ∷ trees) marks h = stays-body m trees (with_tree p sides side m tree marks) (stays-tree m tree marks h)

    stays-methods : (m : ℕ) (methods : List Method) (marks : List Bool) → is_marked marks f ≡ true → is_marked (with_methods p sides side m methods marks) f ≡ true
    stays-methods m [] marks h = h
    stays-methods m (method ∷ methods) marks h = stays-methods (m + 1) methods (with_body p sides side m method.body marks) (stays-body m method.body marks h)

    -- the statement reads the field at the side
    abbrev pub ReadsIt : ℕ → ℕ → Word → Type 0
    ReadsIt m node (w.Get to (Slot of) class field) = (field ≡ f) × (slot_points p m of ≡ true) × (side_of sides node ≡ side)
    ReadsIt m node _ = ⊥

    abbrev pub TreeReadsIt : ℕ → Tree → Type 0
    TreeReadsIt m (Do node word) = ReadsIt m node word

    length-mark : (reads : Bool) (field : ℕ) (marks : List Bool) → length (with_mark_if reads field marks) ≡ length marks
    length-mark false field marks = refl
    length-mark true field marks = length-slice_set marks field true

    length-tree : (m : ℕ) (tree : Tree) (marks : List Bool) → length (with_tree p sides side m tree marks) ≡ length marks
    length-tree m (Do node (w.Get to (Slot of) class field)) marks = length-mark (slot_points p m of && same_side (side_of sides node) side) field marks
    length-tree m (Do node _) marks = refl

    length-body : (m : ℕ) (trees : List Tree) (marks : List Bool) → length (with_body p sides side m trees marks) ≡ length marks
    length-body m [] marks = refl
    length-body m (tree ∷ trees) marks = length-body m trees (with_tree p sides side m tree marks) ∙ length-tree m tree marks

    read-tree : (m : ℕ) (tree : Tree) (marks : List Bool) → f < length marks → TreeReadsIt m tree → is_marked (with_tree p sides side m tree marks) f ≡ true
    read-tree m (Do node (w.Get to (Slot of) class field)) marks room reads =
        let both = both_are (slot_points p m of) (same_side (side_of sides node) side) reads.1 (side_itself (side_of sides node) side reads.2) in
        ap (λ b. is_marked (with_mark_if b field marks) f) both ∙ ap (λ n. is_marked (with_mark marks n) f) reads.0 ∙ marked_now marks f room
    read-tree m (Do node _) marks room reads = absurd reads

    read-body : (m : ℕ) (trees : List Tree) (marks : List Bool) → f < length marks → AllByRecursion (λ (tree : Tree). TreeReadsIt m tree → is_marked (with_body p sides side m trees marks) f ≡ true) trees
    read-body m [] marks room = tt
    read-body m (tree ∷ trees) marks room =
        let next : List Bool = with_tree p sides side m tree marks in
        let e : length next ≡ length marks = length-tree m tree marks in
        (λ reads. stays-body m trees next (read-tree m tree marks room reads), read-body m trees next (omega arith))

    read-contained : (m : ℕ) (trees : List Tree) (marks : List Bool) (tree : Tree) → f < length marks → Contains trees tree → TreeReadsIt m tree → is_marked (with_body p sides side m trees marks) f ≡ true
    read-contained m trees marks tree room has reads =
        let Marks : Tree → Type 0 = λ (t : Tree). TreeReadsIt m t → is_marked (with_body p sides side m trees marks) f ≡ true in
        All-contains Marks trees tree (All-from_recursion Marks trees (read-body m trees marks room)) has reads

    read-methods : (m : ℕ) (methods : List Method) (marks : List Bool) (k : ℕ) (method : Method) (tree : Tree) → f < length marks → slice_get methods k ≡ Some method → Contains method.body tree → TreeReadsIt (k + m) tree → is_marked (with_methods p sides side m methods marks) f ≡ true
    read-methods m [] marks k method tree room is has reads = absurd cc
    read-methods m (method ∷ methods) marks zero other tree room is has reads =
        let e : 0 + m ≡ m = omega arith in
        stays-methods (m + 1) methods (with_body p sides side m method.body marks)
        (read-contained m method.body marks tree room (subst (λ (x : Method). Contains x.body tree) (sym (same_Some method other is)) has) (subst (λ n. TreeReadsIt n tree) e reads))
    read-methods m (method ∷ methods) marks (suc k) other tree room is has reads =
        let next : List Bool = with_body p sides side m method.body marks in
        let e : length next ≡ length marks = length-body m method.body marks in
        let n : suc k + m ≡ k + (m + 1) = omega arith in
        read-methods (m + 1) methods next k other tree (omega arith) is has (subst (λ j. TreeReadsIt j tree) n reads)

    reads-it : (m node : ℕ) (word : Word) (site : ℕ) (part : Part) → ReadsPart code m word site part → part ≡ FieldPart f → side_of sides node ≡ side → ReadsIt m node word
    reads-it m node word site part (points.ReadsPart.get {to} {of} {class} {field} {s} reads) e at =
        (cc, (exact.slots m of).1 (subst (λ t. PointsTo code (InSlot m of) t) (alone code (InSlot m of) s reads) reads), at)

    read-there : (m node : ℕ) (word : Word) → f < length (main_fields code) → HasStatement code m node word → ReadsIt m node word → is_marked (kept_marks p code sides side) f ≡ true
    read-there zero node word room has reads = let h = has.is.is in absurd cc
    read-there (suc place) node word room has reads =
        let e : suc place ≡ place + 1 = omega arith in
        let long : length (at_home sides side (main_fields code)) ≡ length (main_fields code) = length-at_home (main_fields code) in
        read-methods 1 code.methods (at_home sides side (main_fields code)) place has.method (Do node word) (omega arith) has.is.is has.has (subst (λ m. ReadsIt m node word) e reads)

    home-marked : (fields : List Field) (n : ℕ) → n < length fields → side_of sides (node_of_field (slice_get fields n)) ≡ side → is_marked (at_home sides side fields) n ≡ true
    home-marked [] n room h = absurd (omega arith)
    home-marked (field ∷ fields) zero room h = side_itself (side_of sides field.node) side h
    home-marked (field ∷ fields) (suc n) room h = home-marked fields n (omega arith) h

    complete : f < length (main_fields code) → Keeps code sides side 0 (FieldPart f) → is_marked (kept_marks p code sides side) f ≡ true
    complete room (kept_at_home e) = stays-methods 1 code.methods (at_home sides side (main_fields code)) (home-marked (main_fields code) f room e)
    complete room (read_there {m} {node} {word} has at reads) = read-there m node word room has (reads-it m node word 0 (FieldPart f) reads refl at)

  pub kept_exactly : AreKeptAt code sides side (kept_marks p code sides side)
  kept_exactly f = (λ h. (let long = sound.count in let within = marked_within (kept_marks p code sides side) f h in omega arith, sound.kept f h), λ t. complete f t.0 t.1)

pub kept_exactly_by : (code : Code) (sides : List Side) (side : Side) (p : Places) (marks start : List Bool) (methods : List Method) (fields : List Field) → IsPointsOf code p → marks ≡ with_methods p sides side 1 methods start → methods ≡ code.methods → start ≡ at_home sides side fields → fields ≡ main_fields code → AreKeptAt code sides side marks
kept_exactly_by code sides side p marks start methods fields exact is is_methods is_start is_fields =
    let e : marks ≡ kept_marks p code sides side =
    is ∙ ap (λ (ms : List Method). with_methods p sides side 1 ms start) is_methods ∙ ap (λ (s : List Bool). with_methods p sides side 1 code.methods s) (is_start ∙ ap (λ (fs : List Field). at_home sides side fs) is_fields) in
    subst (AreKeptAt code sides side) (sym e) (kept_exactly code sides side p exact)
