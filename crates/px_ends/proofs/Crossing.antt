-- Control goes over: what the message of one end leaves at the other.
use Rattle.std.proofs.Common.{◌≡◌, ℕ, Bool, true, false, List, [], ◌∷◌, ◌++◌, map, drop, length, suc, nat_lt, refl, sym, ap, ◌∙◌, subst}
use Rattle.px_value.specs.declared.object.Object.{Object}
use Rattle.px_blocks.specs.declared.side.Side.{Side}
use Rattle.px_blocks.specs.declared.side.Side.TheVariants.{App, Db}
use Rattle.px_blocks.specs.Sides.{other, same_side}
use Rattle.px_blocks.specs.Plan.{Plan}
use Rattle.px_effects.specs.Act.{Place as Cell}
use Rattle.px_blocks.specs.Machine.{Frame, is_last}
use Rattle.px_ends.specs.Agree.{headers}
use Rattle.std.proofs.lemmas.List.{drop-map}
use Rattle.px_effects.specs.Act.{header_of, header_at, with_place_if}
use Rattle.px_blocks.specs.Machine.{marked, named, Control, Machine}
use Rattle.px_blocks.specs.declared.block.Naming.{Naming}
use Rattle.px_blocks.specs.Message.{frame_told, written_slots, carried, in_order, valued, transfer, in_control, all_settled, absorbed, emitted, handed}
use Rattle.px_ends.specs.Agree.{Heaps, at_app, Agree}
use Rattle.px_blocks.specs.One.{Sent, One, side_next, passed, passed_if, pass}
use Rattle.px_ends.specs.Runs.{Pair, crossed, crossed_if, come, Agrees}
use Rattle.px_ends.proofs.Places.{same_headers, and_true, same_length, marked_carried, marked_ordered}
use Rattle.px_ends.proofs.HeapSteps.{carries, carries_headers, cross_heaps, valued_same}
use Rattle.px_ends.proofs.StackCrossing.{stack_crosses, settled_stacks}
use Rattle.px_ends.proofs.Shared.{machine, with_control, share}

-- ---- the message is the one that the one machine would send

carried_same : (plan : Plan) (near one : List Object) (ns : List Naming) (cs : List Cell) → headers near ≡ headers one → carried plan near ns cs ≡ carried plan one ns cs
carried_same plan near one ns [] e = refl
carried_same plan near one ns (c ∷ cs) e = λ k. with_place_if (named plan (same_headers near one c.object e k) ns c.object c.index) c (carried_same plan near one ns cs e k)

pub transfer_same : (plan : Plan) (side : Side) (n : ℕ) (far : List Object) (c : Control) (near one : List Object) → Heaps plan side c.known c.marks near far one → transfer plan n c near ≡ transfer plan n c one
transfer_same plan side n far c near one h = λ k. record {
  block = n;
  turns = c.turns;
  base = c.base;
  frames = map frame_told (drop c.base c.frames);
  slots = written_slots 0 c.frames;
  updates = record { headers = heads k; cells = cells k };
}
  where
    heads : map header_of (drop c.known near) ≡ map header_of (drop c.known one)
    heads = sym (drop-map header_of c.known near) ∙ ap (drop c.known) h.near_headers ∙ drop-map header_of c.known one

    cells : valued near (in_order (carried plan near c.named c.marks)) ≡ valued one (in_order (carried plan one c.named c.marks))
    cells =
        valued_same near one (in_order (carried plan near c.named c.marks)) (λ o i m. (h.holds o i).near_written (and_true (marked c.marks o i) (named plan (header_at near o) c.named o i) (sym (marked_carried plan near c.named c.marks o i) ∙ sym (marked_ordered (carried plan near c.named c.marks) o i) ∙ m)).0)
        ∙ ap (λ (cs : List Cell). valued one (in_order cs)) (carried_same plan near one c.named c.marks h.near_headers)

-- ---- both ends after it

app_turns : {A : Type 0} (side : Side) (near far : A) → at_app (other side) far near ≡ at_app side near far
app_turns App near far = refl
app_turns Db near far = refl

cross_shared : (plan : Plan) (side : Side) (n : ℕ) (far : Machine) (hn ho : List Object) (pn po : List (List ℕ)) (c : Control) → Agree plan side (machine hn pn c) far (machine ho po c) → Agree plan (other side) (absorbed plan (transfer plan n c hn) far) (emitted (machine hn pn c)) (handed (machine ho po c))
cross_shared plan side n far hn ho pn po c g =
    let split = g.split in
    let taken : List Object = carries plan c.known c.marks c.named hn far.heap in
    let same : headers taken ≡ headers ho = carries_headers plan side c.known c.marks c.named hn far.heap ho split.heaps in
    let stack = stack_crosses plan c far.control.frames split.stacks in
    record {
      split = record {
        control = λ k. in_control (stack k) c.turns (same_length taken ho same k);
        heaps = cross_heaps plan side c.known c.marks c.named hn far.heap ho split.heaps g.named;
        stacks = settled_stacks plan c.frames c.turns (length ho);
        prints = app_turns side pn far.prints ∙ split.prints;
      };
      named = λ o i m k. absurd (unmarked m);
    }
  where
    unmarked : false ≡ true → ⊥
    unmarked e = cc

pub cross_alike : (plan : Plan) (side : Side) (n : ℕ) (near far one : Machine) → Agree plan side near far one → Agree plan (other side) (absorbed plan (transfer plan n near.control near.heap) far) (emitted near) (handed one)
cross_alike plan side n near far one g =
    let split = g.split in
    let e : near ≡ with_control near one.control = share near one.control split.control in
    subst (λ (m : Machine). Agree plan (other side) (absorbed plan (transfer plan n m.control m.heap) far) (emitted m) (handed one)) (sym e)
    (cross_shared plan side n far near.heap one.heap near.prints one.prints one.control (subst (λ (m : Machine). Agree plan side m far one) e g))

pub transfer_alike : (plan : Plan) (side : Side) (n : ℕ) (near far one : Machine) → Agree plan side near far one → transfer plan n near.control near.heap ≡ transfer plan n one.control one.heap
transfer_alike plan side n near far one g =
    let split = g.split in
    ap (λ (c : Control). transfer plan n c near.heap) split.control ∙ transfer_same plan side n far.heap one.control near.heap one.heap split.heaps

-- ---- in a run

length_settled : (frames : List Frame) → length (all_settled frames) ≡ length frames
length_settled [] = refl
length_settled (x ∷ frames) = ap suc (length_settled frames)

module _ {W : Type 0} (plan : Plan) where
  crossed_alike : (p : Pair W) (o : One W) → Agrees plan p o → Agrees plan (crossed plan p) (passed plan o)
  crossed_alike p o g =
      let t : transfer plan p.block p.near.control p.near.heap ≡ transfer plan o.block o.machine.control o.machine.heap = transfer_alike plan o.side p.block p.near p.far o.machine g.agree ∙ ap (λ n. transfer plan n o.machine.control o.machine.heap) g.block in
      record {
        side = ap other g.side;
        block = g.block;
        world = g.world;
        operations = g.operations;
        story = λ k. g.story k ++ Sent (other (g.side k)) (t k) ∷ [];
        agree = cross_alike plan o.side p.block p.near p.far o.machine g.agree;
      }

  crossed_or_not : (b : Bool) (p : Pair W) (o : One W) → Agrees plan p o → Agrees plan (crossed_if b plan p) (passed_if b plan o)
  crossed_or_not true p o g = g
  crossed_or_not false p o g = crossed_alike p o g

  pub come_alike : (p : Pair W) (o : One W) → Agrees plan p o → Agrees plan (come plan p) (pass plan o)
  come_alike p o g =
      let agree = g.agree in
      let split = agree.split in
      let b : same_side p.side (side_next plan p.block p.near.control p.side) ≡ same_side o.side (side_next plan o.block o.machine.control o.side) = λ k. same_side (g.side k) (side_next plan (g.block k) (split.control k) (g.side k)) in
      subst (λ z. Agrees plan (crossed_if z plan p) (pass plan o)) (sym b) (crossed_or_not (same_side o.side (side_next plan o.block o.machine.control o.side)) p o g)

  -- then control is where the block is
  pub there_now : (o : One W) → (pass plan o).side ≡ side_next plan o.block o.machine.control o.side
  there_now o = pick o.side (side_next plan o.block o.machine.control o.side) refl
    where
      pick : (x y : Side) → o.side ≡ x → (passed_if (same_side x y) plan o).side ≡ y
      pick App App e = e
      pick App Db e = ap other e
      pick Db App e = ap other e
      pick Db Db e = e

  pub pass_last : (o : One W) → is_last (pass plan o).machine.control ≡ is_last o.machine.control
  pass_last o = pick (same_side o.side (side_next plan o.block o.machine.control o.side))
    where
      pick : (b : Bool) → is_last (passed_if b plan o).machine.control ≡ is_last o.machine.control
      pick true = refl
      pick false = ap (λ n. nat_lt n 2) (length_settled o.machine.control.frames)

  pub pass_block : (o : One W) → (pass plan o).block ≡ o.block
  pass_block o = pick (same_side o.side (side_next plan o.block o.machine.control o.side))
    where
      pick : (b : Bool) → (passed_if b plan o).block ≡ o.block
      pick true = refl
      pick false = refl
