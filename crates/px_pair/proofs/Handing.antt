-- Control goes over on the one heap as it does between the ends.
use Rattle.std.proofs.Common.{◌≡◌, ℕ, true, ◌&&◌, List, [], ◌∷◌, ◌++◌, map, take, drop, length, Some, refl, sym, ap, ◌∙◌, arith}
use Rattle.std.proofs.lemmas.Bool.{and_parts}
use Rattle.std.proofs.lemmas.List.{drop_all}
use Rattle.std.specs.List.{AllByRecursion}
use Rattle.px_value.specs.declared.value.Value.{Value}
use Rattle.px_value.specs.declared.object.Object.{Object}
use Rattle.px_value.specs.Heap.{cell_at}
use Rattle.px_code.specs.declared.side.Side.{Side}
use Rattle.px_code.specs.declared.frame.Frame.{Frame}
use Rattle.px_code.specs.declared.frame.Slot.{Slot}
use Rattle.px_code.specs.declared.plan.Plan.{Plan}
use Rattle.px_code.specs.Places.{other, home_in}
use Rattle.px_code.specs.Fits.{Fits, header_at}
use Rattle.px_code.specs.Frames.{blank}
use Rattle.px_code.specs.Slots.{all_settled}
use Rattle.px_code.specs.Law.{MachineFits}
use Rattle.px_code.specs.Machine.{Machine}
use Rattle.px_wire.specs.declared.cell.CellAt.{CellAt}
use Rattle.px_wire.specs.declared.updates.Updates.{Updates}
use Rattle.px_wire.specs.declared.transfer.Transfer.{Transfer}
use Rattle.px_half.specs.Messages.{is_marked, is_named, travels, frame_told, written_slots, AreUpdates}
use Rattle.px_half.specs.Absorbed.{blank_frame, with_slots, in_control, settled_frame}
use Rattle.px_pair.specs.Agree.{Seen, seen, Agree}
use Rattle.px_pair.specs.Crossing.{FramesLike, bare, Tells, quiet}
use Rattle.px_pair.specs.Story.{HandsOver, handed}
use Rattle.px_pair.specs.Served.{SameButHeap}
use Rattle.px_pair.proofs.Frames.{same_values}
use Rattle.px_pair.proofs.ControlCrossing as control

-- ---- the message

-- machines with the same marks and sends, and the same values in the cells that are marked, have the same updates
module _ (plan : Plan) (m n : Machine) (like : SameButHeap m n) (headers : (o : ℕ) → header_at m.heap o ≡ header_at n.heap o) (written : (o i : ℕ) → is_marked m.marks o i ≡ true → cell_at m.heap o i ≡ cell_at n.heap o i) where
  same_travels : (o i : ℕ) → travels (Some plan) m o i ≡ travels (Some plan) n o i
  same_travels o i = λ k. is_marked (like.marks k) o i && is_named (like.named k) (home_in plan.code plan.placement.sides (headers o k) i) o

  marked : (o i : ℕ) → travels (Some plan) m o i ≡ true → is_marked m.marks o i ≡ true
  marked o i h = (and_parts (is_marked m.marks o i) (is_named m.named (home_in plan.code plan.placement.sides (header_at m.heap o) i) o) h).0

  all_travel : (cells : List CellAt) → AllByRecursion (λ c. (travels (Some plan) m c.object c.index ≡ true) × (cell_at m.heap c.object c.index ≡ Some c.value)) cells → AllByRecursion (λ c. (travels (Some plan) n c.object c.index ≡ true) × (cell_at n.heap c.object c.index ≡ Some c.value)) cells
  all_travel [] h = tt
  all_travel (c ∷ cells) h = ((sym (same_travels c.object c.index) ∙ h.0.0, sym (written c.object c.index (marked c.object c.index h.0.0)) ∙ h.0.1), all_travel cells h.1)

  no_headers : (heap : List Object) → map (λ (o : Object). o.header) (drop (length heap) heap) ≡ []
  no_headers heap = ap (λ (l : List Object). map (λ (o : Object). o.header) l) (drop_all (length heap) heap (omega arith))

  pub same_updates : (u : Updates) → AreUpdates (Some plan) (length m.heap) m u → AreUpdates (Some plan) (length n.heap) n u
  same_updates u are = record {
    headers = are.headers ∙ no_headers m.heap ∙ sym (no_headers n.heap);
    cells = record {
      in_order = are.cells.in_order;
      travel = all_travel u.cells are.cells.travel;
      all = λ o i x moves is. let before : travels (Some plan) m o i ≡ true = same_travels o i ∙ moves in are.cells.all o i x before (written o i (marked o i before) ∙ is);
    };
  }

  pub same_message : (b : ℕ) (t : Transfer) → HandsOver plan m b t → HandsOver plan n b t
  same_message b t hands = record {
    block = hands.block;
    turns = hands.turns;
    base = hands.base ∙ like.base;
    frames = hands.frames ∙ (λ i. map frame_told (drop (like.base i) (like.frames i)));
    slots = hands.slots ∙ ap (written_slots 0) like.frames;
    updates = same_updates t.updates hands.updates;
  }

-- ---- the stack

-- a frame whose slots aren't written, by what is seen of it
abbrev unwritten : Seen → Frame
unwritten s = record { method = s.method; back = s.back; slots = map blank s.values }

slots_unwritten : (slots : List Slot) → map blank (map (λ (s : Slot). s.value) slots) ≡ all_settled slots
slots_unwritten [] = refl
slots_unwritten (s ∷ slots) = ap (λ (ss : List Slot). blank s.value ∷ ss) (slots_unwritten slots)

values_settled : (slots : List Slot) → map (λ (s : Slot). s.value) (all_settled slots) ≡ map (λ (s : Slot). s.value) slots
values_settled [] = refl
values_settled (s ∷ slots) = ap (λ (vs : List Value). s.value ∷ vs) (values_settled slots)

frames_unwritten : (frames : List Frame) → map unwritten (map seen frames) ≡ map settled_frame frames
frames_unwritten [] = refl
frames_unwritten (f ∷ frames) = λ i. record { method = f.method; back = f.back; slots = slots_unwritten f.slots i } ∷ frames_unwritten frames i

pub seen_settled : (frames : List Frame) → map seen (map settled_frame frames) ≡ map seen frames
seen_settled [] = refl
seen_settled (f ∷ frames) = λ i. record { method = f.method; back = f.back; values = values_settled f.slots i } ∷ seen_settled frames i

-- settled stacks are alike if they are seen alike
settled_alike : (xs ys : List Frame) → map seen (map settled_frame xs) ≡ map seen ys → map settled_frame xs ≡ map settled_frame ys
settled_alike xs ys e = sym (frames_unwritten xs) ∙ ap (map unwritten) (sym (seen_settled xs) ∙ e) ∙ frames_unwritten ys

-- ---- control

module _ (plan : Plan) (side : Side) (near far one : Machine) (t : Transfer) (agree : Agree plan side near far one) (fits : Fits plan.code one.heap) (like : FramesLike near.frames (bare plan near far)) (tells : Tells plan near t) where
  abbrev new : Machine
  new = in_control plan t far far.heap

  pub handed_alike : SameButHeap near one → SameButHeap new (handed one)
  handed_alike same = record {
    frames = settled_alike (with_slots t.slots (take t.base far.frames ++ map (blank_frame plan) t.frames)) near.frames (control.same_stack plan side near far one t agree fits like tells) ∙ ap (map settled_frame) same.frames;
    base = control.new_length plan side near far one t agree fits like tells ∙ ap (λ (fs : List Frame). length fs) same.frames;
    marks = refl;
    named = refl;
  }

  pub handed_agrees : Agree plan (other side) new (quiet near) (handed one)
  handed_agrees =
      let a : Agree plan (other side) new (quiet near) one = control.new_agree plan side near far one t agree fits like tells in
      record { frames = a.frames ∙ sym (seen_settled one.frames); near_headers = a.near_headers; far_headers = a.far_headers; copies = a.copies; named = a.named }

pub handed_fits : (plan : Plan) (m : ℕ) (one : Machine) → MachineFits plan.code m one → MachineFits plan.code m (handed one)
handed_fits plan m one fits = record { heap = fits.heap; frame = λ n target h. fits.frame n target ((λ i. same_values one.frames (map settled_frame one.frames) (sym (seen_settled one.frames)) i n) ∙ h) }
