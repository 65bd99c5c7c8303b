-- One statement, and then all of a block.
use Rattle.std.proofs.Common.{◌≡◌, ℕ, Bool, true, false, ◌||◌, List, [], ◌∷◌, ◌++◌, map, take, min, Option, Some, None, Ok, Err, refl, sym, ap, subst, ◌∙◌, append-nil}
use Rattle.std.specs.List.{AllByRecursion}
use Rattle.px_value.specs.declared.value.Value.{Value}
use Rattle.px_value.specs.declared.header.Header.{Header}
use Rattle.px_value.specs.Operators.{Applied}
use Rattle.px_code.specs.declared.side.Side.{Side}
use Rattle.px_code.specs.declared.cell.Cell.{Cell}
use Rattle.px_code.specs.declared.word.Word.{Word}
use Rattle.px_code.specs.declared.word.Word.TheVariants as w
use Rattle.px_code.specs.declared.frame.Frame.{Frame}
use Rattle.px_code.specs.declared.block.Send.{Send}
use Rattle.px_code.specs.declared.block.Naming.{Naming}
use Rattle.px_code.specs.declared.block.Block.{Block}
use Rattle.px_code.specs.declared.block.Statement.{Statement}
use Rattle.px_code.specs.declared.plan.Plan.{Plan}
use Rattle.px_code.specs.Places.{other, side_of, home_in}
use Rattle.px_code.specs.Points.{HasStatement}
use Rattle.px_code.specs.Sends.{IsRightSend}
use Rattle.px_code.specs.Fits.{header_at}
use Rattle.px_code.specs.Act.{Slots, act_of, slot_of, Acted, acted}
use Rattle.px_code.specs.CodeRun.{Ran, given}
use Rattle.px_code.specs.Cut.{IsPlaced}
use Rattle.px_code.specs.Law.{MachineFits, HasNoReference, AreStatements, NoLiteralReference}
use Rattle.px_code.specs.Machine.{Machine, top, top_values, filled_if, after_act, with_value, answered, sent, namings, Stop, RunsOn, Returned, Threw, stop_of, Stepped, step, step_of, step_ends, ran_of, steps, then_steps, also_ran}
use Rattle.px_code.proofs.Staying.{word_stays, step_stays}
use Rattle.px_half.specs.Messages.{is_marked, is_named}
use Rattle.px_pair.specs.Agree.{seen, KeepsCell, CopiesAgree, Agree}
use Rattle.px_pair.specs.Law.{NamesClasses, RunsAlike, BlocksRunAlike}
use Rattle.px_pair.proofs.Heaps.{marked_more}
use Rattle.px_pair.proofs.Frames.{same_top, same_values, same_filled_if, same_take, same_answered}
use Rattle.px_pair.proofs.Acts.{acts_alike, ActsAlike, keeps_same}
use Rattle.px_pair.proofs.Statements.{throws_first, reads_kept, new_named, named_more}

-- ---- what a value does to the stack

abbrev pub frames_after : Word → Value → List Frame → List Frame
frames_after (w.Return a) x frames = let after = answered (given a x) frames in take (top after) after
frames_after word x frames = filled_if frames (top frames) (slot_of word) x

abbrev pub base_after : Word → Value → Machine → ℕ
base_after (w.Return a) x m = min m.base (top (answered (given a x) m.frames))
base_after word x m = m.base

pub value_is : (word : Word) (x : Value) (m : Machine) → with_value word x m ≡ record m { frames = frames_after word x m.frames; base = base_after word x m }
value_is (w.Set to a) x m = refl
value_is (w.Op op to a b) x m = refl
value_is (w.Get to of class field) x m = refl
value_is (w.Put of class field a) x m = refl
value_is (w.Return a) x m = refl

pub same_after : (word : Word) (x : Value) (fs gs : List Frame) → map seen fs ≡ map seen gs → map seen (frames_after word x fs) ≡ map seen (frames_after word x gs)
same_after (w.Set to a) x fs gs e = ap (λ n. map seen (filled_if fs n (Some to) x)) (same_top fs gs e) ∙ same_filled_if fs gs (top gs) (Some to) x e
same_after (w.Op op to a b) x fs gs e = ap (λ n. map seen (filled_if fs n (Some to) x)) (same_top fs gs e) ∙ same_filled_if fs gs (top gs) (Some to) x e
same_after (w.Get to of class field) x fs gs e = ap (λ n. map seen (filled_if fs n (Some to) x)) (same_top fs gs e) ∙ same_filled_if fs gs (top gs) (Some to) x e
same_after (w.Put of class field a) x fs gs e = e
same_after (w.Return a) x fs gs e =
    let answers = same_answered (given a x) fs gs e in
    ap (λ n. map seen (take n (answered (given a x) fs))) (same_top (answered (given a x) fs) (answered (given a x) gs) answers)
    ∙ same_take (top (answered (given a x) gs)) (answered (given a x) fs) (answered (given a x) gs) answers

or_first : (a b : Bool) → a ≡ true → (a || b) ≡ true
or_first true b h = refl
or_first false b h = cc

or_second : (a b : Bool) → b ≡ true → (a || b) ≡ true
or_second true b h = refl
or_second false b h = h

module _ (plan : Plan) (m : ℕ) (side : Side) where
  -- a send has the object that its statement wrote
  sent_slots : (node : ℕ) (word : Word) (send : Option Send) (x : Value) (frames : List Frame) → IsRightSend plan.code plan.placement.sides m node word send → namings send (top_values (frames_after word x frames)) ≡ namings send (top_values frames)
  sent_slots node word None x frames right = refl
  sent_slots node (w.Set to a) (Some send) x frames right = absurd right.1
  sent_slots node (w.Op op to a b) (Some send) x frames right = absurd right.1
  sent_slots node (w.Get to of class field) (Some send) x frames right = absurd right.1
  sent_slots node (w.Put of class field a) (Some send) x frames right = refl
  sent_slots node (w.Return a) (Some send) x frames right = absurd right.1

  module _ (near far one : Machine) (agree : Agree plan side near far one) where
    -- the machine on the one heap after an act, and that of the end
    module _ (here there : Acted) (al : ActsAlike plan side near far near.heap near.marks one.heap here there) where
      same_header : (o : ℕ) → header_at there.heap o ≡ header_at one.heap o
      same_header o = al.there_headers o

      copies_after : (o i : ℕ) → CopiesAgree plan side (after_act here near) far there.heap o i
      copies_after = subst (λ (ws : List Cell). (o i : ℕ) → CopiesAgree plan side (record near { heap = here.heap; marks = near.marks ++ ws }) far there.heap o i) (sym al.writes) al.copies

      -- what was named stays named
      still_named : (more : List Naming) (o i : ℕ) → is_marked near.marks o i ≡ true → KeepsCell plan (other side) there.heap o i → is_named (near.named ++ more) (home_in plan.code plan.placement.sides (header_at there.heap o) i) o ≡ true
      still_named more o i h kept =
          named_more plan near.named more (home_in plan.code plan.placement.sides (header_at there.heap o) i) o
          ∙ or_first _ _ (ap (λ (x : Option Header). is_named near.named (home_in plan.code plan.placement.sides x i) o) (same_header o) ∙ agree.named o i h (keeps_same plan side near far (other side) one.heap there.heap o i (same_header o) kept))

      -- after an act, with any stacks that are seen alike
      agrees_with : (fs gs : List Frame) (n k : ℕ) (more less : List Naming) → map seen fs ≡ map seen gs → ((o i : ℕ) → is_marked here.writes o i ≡ true → KeepsCell plan (other side) there.heap o i → is_named more (home_in plan.code plan.placement.sides (header_at there.heap o) i) o ≡ true)
          → Agree plan side (record (after_act here near) { frames = fs; base = n; named = near.named ++ more }) far (record (after_act there one) { frames = gs; base = k; named = one.named ++ less })
      agrees_with fs gs n k more less e new = record {
        frames = e;
        near_headers = λ o. al.here_headers o ∙ agree.near_headers o ∙ sym (same_header o);
        far_headers = λ o. agree.far_headers o ∙ sym (same_header o);
        copies = λ o i. let c = copies_after o i in record { near_there = c.near_there; far_there = c.far_there; kept = c.kept; written = c.written; far_kept = c.far_kept };
        named = λ o i h kept. split o i (is_marked near.marks o i) refl (sym (marked_more near.marks here.writes o i) ∙ h) kept;
      }
        where
          split : (o i : ℕ) (b : Bool) → is_marked near.marks o i ≡ b → (is_marked near.marks o i || is_marked here.writes o i) ≡ true → KeepsCell plan (other side) there.heap o i → is_named (near.named ++ more) (home_in plan.code plan.placement.sides (header_at there.heap o) i) o ≡ true
          split o i true is h kept = still_named more o i is kept
          split o i false is h kept =
              named_more plan near.named more (home_in plan.code plan.placement.sides (header_at there.heap o) i) o
              ∙ or_second _ _ (new o i (ap (λ b. b || is_marked here.writes o i) (sym is) ∙ h) kept)

    -- ---- one statement

    same_ran : (node : ℕ) (a b : Acted) → a.reads ≡ b.reads → a.writes ≡ b.writes → ran_of node a ≡ ran_of node b
    same_ran node a b r x = λ i. record { node = node; reads = r i; writes = x i } ∷ []

    module _ (names : NamesClasses plan.code) (s : Statement) (has : HasStatement plan.code m s.node s.word) (plain : HasNoReference s.word) (placed : side_of plan.placement.sides s.node ≡ side) (right : IsRightSend plan.code plan.placement.sides m s.node s.word s.send) (fits : MachineFits plan.code m one) where
      abbrev slots : Slots
      slots = top_values one.frames

      abbrev here : Acted
      here = acted (act_of s.word slots) near.heap

      abbrev there : Acted
      there = acted (act_of s.word slots) one.heap

      pub alike : ActsAlike plan side near far near.heap near.marks one.heap here there
      alike = acts_alike plan side near far (act_of s.word slots) near.heap near.marks one.heap (λ o i. let c = agree.copies o i in record { near_there = c.near_there; far_there = c.far_there; kept = c.kept; written = c.written; far_kept = c.far_kept })
          (reads_kept plan m s.node s.word side one.heap there.reads has placed (word_stays plan.code m s.node s.word one.heap slots has plain fits.heap fits.frame).reads)

      named_there : (o i : ℕ) → is_marked here.writes o i ≡ true → KeepsCell plan (other side) there.heap o i → is_named (namings s.send slots) (home_in plan.code plan.placement.sides (header_at there.heap o) i) o ≡ true
      named_there o i h kept =
          let kept_before : KeepsCell plan (other (side_of plan.placement.sides s.node)) one.heap o i = subst (λ (y : Side). KeepsCell plan (other y) one.heap o i) (sym placed) (keeps_same plan side near far (other side) one.heap there.heap o i (alike.there_headers o) kept) in
          ap (λ (x : Option Header). is_named (namings s.send slots) (home_in plan.code plan.placement.sides x i) o) (alike.there_headers o)
          ∙ new_named plan m s.node s.word s.send slots one.heap names has plain right fits.heap fits.frame o i (ap (λ (ws : List Cell). is_marked ws o i) (sym alike.writes) ∙ h) kept_before

      ends_alike : (e : Applied) → there.ends ≡ e → RunsAlike plan side far (step_ends s here near e) (step_ends s there one e)
      ends_alike (Err t) is = record {
        stop = refl;
        ran = same_ran s.node here there alike.reads alike.writes;
        agree = subst (λ (ns : List Naming). Agree plan side (record (after_act here near) { named = ns }) far (after_act there one)) (append-nil near.named)
            (subst (λ (ns : List Naming). Agree plan side (record (after_act here near) { named = near.named ++ [] }) far (record (after_act there one) { named = ns })) (append-nil one.named)
            (agrees_with here there alike near.frames one.frames near.base one.base [] [] agree.frames (λ o i h kept. absurd (unwritten o i h))));
      }
        where
          nothing_written : here.writes ≡ []
          nothing_written = alike.writes ∙ throws_first s.word slots one.heap t is

          unwritten : (o i : ℕ) → is_marked here.writes o i ≡ true → ⊥
          unwritten o i h = let k : false ≡ true = ap (λ (ws : List Cell). is_marked ws o i) (sym nothing_written) ∙ h in cc
      ends_alike (Ok x) is =
          subst (λ (n : Machine). RunsAlike plan side far (record { machine = sent s.send n; ran = ran_of s.node here; stop = stop_of s.word }) (record { machine = sent s.send (with_value s.word x (after_act there one)); ran = ran_of s.node there; stop = stop_of s.word })) (sym (value_is s.word x (after_act here near)))
          (subst (λ (n : Machine). RunsAlike plan side far (record { machine = sent s.send (record (after_act here near) { frames = frames_after s.word x near.frames; base = base_after s.word x (after_act here near) }); ran = ran_of s.node here; stop = stop_of s.word }) (record { machine = sent s.send n; ran = ran_of s.node there; stop = stop_of s.word })) (sym (value_is s.word x (after_act there one)))
          (record {
            stop = refl;
            ran = same_ran s.node here there alike.reads alike.writes;
            agree = agrees_with here there alike (frames_after s.word x near.frames) (frames_after s.word x one.frames) (base_after s.word x (after_act here near)) (base_after s.word x (after_act there one)) (namings s.send (top_values (frames_after s.word x near.frames))) (namings s.send (top_values (frames_after s.word x one.frames)))
                (same_after s.word x near.frames one.frames agree.frames)
                (λ o i h kept. ap (λ (ns : List Naming). is_named ns (home_in plan.code plan.placement.sides (header_at there.heap o) i) o) (told x) ∙ named_there o i h kept);
          }))
        where
          told : (x : Value) → namings s.send (top_values (frames_after s.word x near.frames)) ≡ namings s.send slots
          told x = sent_slots s.node s.word s.send x near.frames right ∙ ap (namings s.send) (same_values near.frames one.frames agree.frames)

      pub step_alike : RunsAlike plan side far (step s near) (step s one)
      step_alike =
          subst (λ (ss : Slots). RunsAlike plan side far (step_of s near (acted (act_of s.word ss) near.heap)) (step s one)) (sym (same_values near.frames one.frames agree.frames))
          (subst (λ (e : Applied). RunsAlike plan side far (step_ends s here near e) (step s one)) (sym alike.ends) (ends_alike there.ends refl))

-- ---- all statements of a block

module _ (plan : Plan) (b : Block) (names : NamesClasses plan.code) where
  more_ran : (xs ys zs ws : List Ran) → xs ≡ ys → zs ≡ ws → xs ++ zs ≡ ys ++ ws
  more_ran xs ys zs ws e f = λ i. e i ++ f i

  rest_alike : (far : Machine) (near one_heap : Stepped) (rest : List Statement) → RunsAlike plan b.side far near one_heap → (RunsAlike plan b.side far (steps rest near.machine) (steps rest one_heap.machine)) → RunsAlike plan b.side far (also_ran near.ran (steps rest near.machine)) (also_ran one_heap.ran (steps rest one_heap.machine))
  rest_alike far near one_heap rest one after = record { stop = after.stop; ran = more_ran near.ran one_heap.ran (steps rest near.machine).ran (steps rest one_heap.machine).ran one.ran after.ran; agree = after.agree }

  then_alike : (far : Machine) (near one_heap : Stepped) (rest : List Statement) (stop : Stop) → one_heap.stop ≡ stop → RunsAlike plan b.side far near one_heap → (one_heap.stop ≡ RunsOn → RunsAlike plan b.side far (steps rest near.machine) (steps rest one_heap.machine)) → RunsAlike plan b.side far (then_steps near (steps rest) stop) (then_steps one_heap (steps rest) stop)
  then_alike far near one_heap rest RunsOn is one after = rest_alike far near one_heap rest one (after is)
  then_alike far near one_heap rest Returned is one after = one
  then_alike far near one_heap rest (Threw t) is one after = one

  pub all_alike : (statements : List Statement) (near far one : Machine) → AllByRecursion (IsPlaced plan.code plan.placement.sides b) statements → AreStatements plan.code b.method statements → NoLiteralReference statements → MachineFits plan.code b.method one → Agree plan b.side near far one → RunsAlike plan b.side far (steps statements near) (steps statements one)
  all_alike [] near far one placed are plain fits agree = record { stop = refl; ran = refl; agree = agree }
  all_alike (s ∷ rest) near far one placed are plain fits agree =
      let first : RunsAlike plan b.side far (step s near) (step s one) = step_alike plan b.method b.side near far one agree names s are.0 plain.0 placed.0.side placed.0.send fits in
      let stays = step_stays plan.code b.method s one are.0 plain.0 fits in
      subst (λ (x : Stop). RunsAlike plan b.side far (then_steps (step s near) (steps rest) x) (then_steps (step s one) (steps rest) (step s one).stop)) (sym first.stop)
      (then_alike far (step s near) (step s one) rest (step s one).stop refl first (λ on. all_alike rest (step s near).machine far (step s one).machine placed.1 are.1 plain.1 (stays.machine on) first.agree))

pub blocks_run_alike : BlocksRunAlike
blocks_run_alike plan b near far one names placed are plain fits agree = all_alike plan b names b.statements near far one placed are plain fits agree
