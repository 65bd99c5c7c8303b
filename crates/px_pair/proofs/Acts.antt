-- An act does the same on the copies of the side with control as on the one heap.
use Rattle.std.proofs.Common.{◌≡◌, ℕ, Bool, true, false, cond, ◌||◌, List, [], ◌∷◌, ◌++◌, Option, Some, None, is_some, unwrap_or, refl, sym, ap, subst, ◌∙◌, append-nil, append_assoc}
use Rattle.std.specs.List.{AllByRecursion}
use Rattle.px_value.specs.declared.value.Value.{Value}
use Rattle.px_value.specs.declared.value.Value.TheVariants.{Null}
use Rattle.px_value.specs.declared.object.Object.{Object}
use Rattle.px_value.specs.Heap.{cell_at, written}
use Rattle.px_code.specs.declared.side.Side.{Side}
use Rattle.px_code.specs.declared.cell.Cell.{Cell}
use Rattle.px_code.specs.declared.plan.Plan.{Plan}
use Rattle.px_code.specs.Places.{other}
use Rattle.px_code.specs.Fits.{header_at}
use Rattle.px_code.specs.Act.{Act, Comes, Reads, Writes, Acted, acted, value_at}
use Rattle.px_code.specs.Machine.{Machine}
use Rattle.px_half.specs.Messages.{is_marked}
use Rattle.px_pair.specs.Agree.{KeepsCell, CopiesAgree}
use Rattle.px_pair.proofs.Heaps.{put, at_cell, cell_written, header_written, marked_one}

-- ---- one cell after a write

put_same : (v : Value) (n w : Option Value) → is_some n ≡ is_some w → put v n ≡ put v w
put_same v None None h = refl
put_same v None (Some w) h = cc
put_same v (Some n) None h = cc
put_same v (Some n) (Some w) h = refl

there_put : (v : Value) (n : Option Value) → is_some (put v n) ≡ is_some n
there_put v None = refl
there_put v (Some n) = refl

there : (b : Bool) (v : Value) (n : Option Value) → is_some (cond b (put v n) n) ≡ is_some n
there true v n = there_put v n
there false v n = refl

equal_after : (b : Bool) (v : Value) (n w : Option Value) → is_some n ≡ is_some w → (b ≡ false → n ≡ w) → cond b (put v n) n ≡ cond b (put v w) w
equal_after true v n w h e = put_same v n w h
equal_after false v n w h e = e refl

marked_before : (mk b : Bool) → (mk || b) ≡ true → b ≡ false → mk ≡ true
marked_before true b h k = refl
marked_before false true h k = cc
marked_before false false h k = cc

unmarked_before : (mk b : Bool) → (mk || b) ≡ false → mk ≡ false
unmarked_before true b h = cc
unmarked_before false b h = refl

not_there : (mk b : Bool) → (mk || b) ≡ false → b ≡ false
not_there true b h = cc
not_there false b h = h

far_after : (b : Bool) (v : Value) (f w : Option Value) → b ≡ false → f ≡ w → f ≡ cond b (put v w) w
far_after true v f w h e = cc
far_after false v f w h e = e

module _ (plan : Plan) (side : Side) (near far : Machine) where
  -- the near machine with another heap and other marks
  abbrev with_heap : List Object → List Cell → Machine
  with_heap heap marks = record near { heap = heap; marks = marks }

  abbrev pub Copies : List Object → List Cell → List Object → Type 0
  Copies heap marks one = (place index : ℕ) → CopiesAgree plan side (with_heap heap marks) far one place index

  -- keeping goes by headers alone
  pub keeps_same : (y : Side) (one two : List Object) (o i : ℕ) → header_at two o ≡ header_at one o → KeepsCell plan y two o i → KeepsCell plan y one o i
  keeps_same y one two o i e k h is = k h (e ∙ is)

  after_write : (heap one : List Object) (marks : List Cell) (o i : ℕ) (v : Value) → Copies heap marks one → Copies (written heap o i v) (marks ++ record { object = o; index = i } ∷ []) (written one o i v)
  after_write heap one marks o i v c o' i' =
      let old = c o' i' in
      let b : Bool = at_cell o i o' i' in
      let n : Option Value = cell_at heap o' i' in
      let w : Option Value = cell_at one o' i' in
      let m : Bool = is_marked marks o' i' in
      let near_is = cell_written heap o i v o' i' in
      let one_is = cell_written one o i v o' i' in
      let mark_is = marked_one marks o i o' i' in
      let same_there : is_some n ≡ is_some w = old.near_there in
      let header = header_written one o i v o' in
      record {
        near_there = ap (λ (x : Option Value). is_some x) near_is ∙ there b v n ∙ same_there ∙ sym (ap (λ (x : Option Value). is_some x) one_is ∙ there b v w);
        far_there = old.far_there ∙ sym (ap (λ (x : Option Value). is_some x) one_is ∙ there b v w);
        kept = λ k. near_is ∙ equal_after b v n w same_there (λ _. old.kept (keeps_same side one (written one o i v) o' i' header k)) ∙ sym one_is;
        written = λ h. near_is ∙ equal_after b v n w same_there (λ k. old.written (marked_before m b (sym mark_is ∙ h) k)) ∙ sym one_is;
        far_kept = λ k h. far_after b v (cell_at far.heap o' i') w (not_there m b (sym mark_is ∙ h)) (old.far_kept (keeps_same (other side) one (written one o i v) o' i' header k) (unmarked_before m b (sym mark_is ∙ h))) ∙ sym one_is;
      }

  -- ---- an act

  abbrev ReadsKept : List Object → List Cell → Type 0
  ReadsKept one reads = AllByRecursion (λ (c : Cell). KeepsCell plan side one c.object c.index) reads

  pub record ActsAlike (heap : List Object) (marks : List Cell) (one : List Object) (here there : Acted) : Type 0 where
    pub ends : here.ends ≡ there.ends
    pub reads : here.reads ≡ there.reads
    pub writes : here.writes ≡ there.writes
    pub here_headers : (o : ℕ) → header_at here.heap o ≡ header_at heap o
    pub there_headers : (o : ℕ) → header_at there.heap o ≡ header_at one o
    pub copies : Copies here.heap (marks ++ there.writes) there.heap

  reads_same : (one two : List Object) (reads : List Cell) → ((o : ℕ) → header_at two o ≡ header_at one o) → ReadsKept one reads → ReadsKept two reads
  reads_same one two [] e h = tt
  reads_same one two (c ∷ reads) e h = (keeps_same side two one c.object c.index (sym (e c.object)) h.0, reads_same one two reads e h.1)

  pub acts_alike : (a : Act) (heap : List Object) (marks : List Cell) (one : List Object) → Copies heap marks one → ReadsKept one (acted a one).reads → ActsAlike heap marks one (acted a heap) (acted a one)
  acts_alike (Comes ends) heap marks one c h = record {
    ends = refl;
    reads = refl;
    writes = refl;
    here_headers = λ o. refl;
    there_headers = λ o. refl;
    copies = subst (λ (ms : List Cell). Copies heap ms one) (sym (append-nil marks)) c;
  }
  acts_alike (Reads o i k) heap marks one c h =
      let same : value_at heap o i ≡ value_at one o i = ap (λ (x : Option Value). unwrap_or x Null) ((c o i).kept h.0) in
      let after : ActsAlike heap marks one (acted (k (value_at one o i)) heap) (acted (k (value_at one o i)) one) = acts_alike (k (value_at one o i)) heap marks one c h.1 in
      let moved : ActsAlike heap marks one (acted (k (value_at heap o i)) heap) (acted (k (value_at one o i)) one) = subst (λ (x : Value). ActsAlike heap marks one (acted (k x) heap) (acted (k (value_at one o i)) one)) (sym same) after in
      record {
        ends = moved.ends;
        reads = ap (λ (cs : List Cell). record { object = o; index = i } ∷ cs) moved.reads;
        writes = moved.writes;
        here_headers = moved.here_headers;
        there_headers = moved.there_headers;
        copies = moved.copies;
      }
  acts_alike (Writes o i v k) heap marks one c h =
      let cell : Cell = record { object = o; index = i } in
      let after : ActsAlike (written heap o i v) (marks ++ cell ∷ []) (written one o i v) (acted k (written heap o i v)) (acted k (written one o i v)) =
      acts_alike k (written heap o i v) (marks ++ cell ∷ []) (written one o i v) (after_write heap one marks o i v c) (reads_same one (written one o i v) (acted k (written one o i v)).reads (header_written one o i v) h) in
      record {
        ends = after.ends;
        reads = after.reads;
        writes = ap (λ (cs : List Cell). cell ∷ cs) after.writes;
        here_headers = λ o'. after.here_headers o' ∙ header_written heap o i v o';
        there_headers = λ o'. after.there_headers o' ∙ header_written one o i v o';
        copies = subst (λ (ms : List Cell). Copies (acted k (written heap o i v)).heap ms (acted k (written one o i v)).heap) (append_assoc marks (cell ∷ []) (acted k (written one o i v)).writes) after.copies;
      }
