-- Statements and blocks at near do what they do on the one machine.
use Rattle.std.proofs.Common.{◌≡◌, ℕ, Bool, true, false, ◌||◌, List, [], ◌∷◌, ◌++◌, Option, Some, None, is_some, Ok, Err, refl, sym, ap, ◌∙◌, subst, ◌⊎◌, inl, inr}
use Rattle.std.proofs.lemmas.Bool.{or_cases, or_left, or_right}
use Rattle.px_value.specs.declared.value.Value.{Value}
use Rattle.px_value.specs.declared.object.Object.{Object}
use Rattle.px_value.specs.Operators.{Applied}
use Rattle.px_effects.specs.Act.{Place as Cell}
use Rattle.px_blocks.specs.declared.side.Side.{Side}
use Rattle.px_blocks.specs.declared.side.Side.TheVariants.{App}
use Rattle.px_normal.specs.declared.word.Word.{Word}
use Rattle.px_blocks.specs.declared.block.Block.{Block}
use Rattle.px_blocks.specs.declared.block.Deed.{Deed}
use Rattle.px_blocks.specs.declared.block.Deed.TheVariants as deed
use Rattle.px_blocks.specs.declared.block.Exit.{Exit}
use Rattle.px_blocks.specs.declared.block.Naming.{Naming}
use Rattle.px_blocks.specs.declared.block.Send.{Send}
use Rattle.px_blocks.specs.declared.block.Statement.{Statement}
use Rattle.px_blocks.specs.Sides.{other}
use Rattle.px_effects.specs.Act.{Act, header_at, Ends, Came, Printed, Acted, acted, landed}
use Rattle.px_effects.specs.Operations.{Acts, Operates, Said}
use Rattle.px_normal.specs.Words.{Does, Works, Invokes, operand, does_of, to_of, is_return, result_of, is_true}
use Rattle.px_effects.specs.Operations.{with_said}
use Rattle.px_normal.specs.Words.{answer_of}
use Rattle.px_normal.specs.Run.{Ran}
use Rattle.px_blocks.specs.Plan.{Plan, firsts_of, kept}
use Rattle.px_blocks.specs.Machine.{top, marked, named, with_marks, with_names, Control, Machine, values_of, namings, also_marked, put_in_slot, sent, How, Next, Fell, Waits, Left, goes, turned, called, chosen, entry_of, left_with, Stop, RunsOn, Stops, Stepped, ran_of, leaves, valued_if, valued, step_by, act_step, does_step, deed_step, step, told_step, answered, then_steps, steps, how_of, done, block_run, block_answered, end_left}
use Rattle.px_ends.specs.Agree.{Heaps, Stacks, AllNamed, at_app, Split, Agree}
use Rattle.px_ends.specs.Runs.{SendsName, SendsOf, SendsIf, IsGood, GoodDoes, GoodDeed, GoodTold, MeetsRest, GoodSteps, AgreeAt, StepsAlike, AgreeBy, BlocksAlike}
use Rattle.px_ends.proofs.Places.{header_some, marked_join, named_join, marked_with, named_with}
use Rattle.px_ends.proofs.HeapSteps.{marks_heaps}
use Rattle.px_ends.proofs.Acts.{stays, acts_alike}
use Rattle.px_ends.proofs.StackSteps.{Leaves, goes_leaves, turned_leaves, called_leaves, left_leaves, put_leaves}
use Rattle.px_ends.proofs.Shared.{machine, with_control, share}

-- ---- names

pub named_after : (plan : Plan) (side : Side) (c d : Control) (heap after : List Object) (writes : List Cell) (send : Option Send)
    → AllNamed plan side c heap
    → ((o i : ℕ) → marked c.marks o i ≡ true → is_some (header_at heap o) ≡ true)
    → ((o : ℕ) → is_some (header_at heap o) ≡ true → header_at after o ≡ header_at heap o)
    → SendsName plan side after writes send d
    → (o i : ℕ) → marked (with_marks writes c.marks) o i ≡ true → kept plan (other side) (header_at after o) i ≡ true → named plan (header_at after o) (with_names (namings send (values_of d)) c.named) o i ≡ true
named_after plan side c d heap after writes send all there same sends o i m k =
    named_with plan (header_at after o) (namings send (values_of d)) c.named o i ∙ named_join plan (header_at after o) c.named (namings send (values_of d)) o i ∙ either (or_cases (marked c.marks o i) (marked writes o i) (sym (marked_with writes c.marks o i ∙ marked_join c.marks writes o i) ∙ m))
  where
    old : Bool
    old = named plan (header_at after o) c.named o i

    new : Bool
    new = named plan (header_at after o) (namings send (values_of d)) o i

    either : (marked c.marks o i ≡ true) ⊎ (marked writes o i ≡ true) → (old || new) ≡ true
    either (inl e) =
        let h = same o (there o i e) in
        or_left old new (ap (λ z. named plan z c.named o i) h ∙ all o i e (ap (λ z. kept plan (other side) z i) (sym h) ∙ k))
    either (inr e) = or_right old new (sends o i e k)

exists : (plan : Plan) (side : Side) (known : ℕ) (marks : List Cell) (near far one : List Object) → Heaps plan side known marks near far one → (o i : ℕ) → marked marks o i ≡ true → is_some (header_at one o) ≡ true
exists plan side known marks near far one h o i m = header_some one o i ((h.holds o i).written_there m)

-- ---- lines

near_only : {A : Type 0} (side : Side) (a b : A) → side ≡ App → at_app side a b ≡ a
near_only side a b e = ap (λ z. at_app z a b) e

pub record LandsAlike (side : Side) (far near one : List (List ℕ)) (e : Ends) : Type 0 where
  pub value : (landed near e).value ≡ (landed one e).value
  pub prints : at_app side (landed near e).prints far ≡ (landed one e).prints

lands_alike : (side : Side) (far near one : List (List ℕ)) (e : Ends) → ((line : List ℕ) → e ≡ Printed line → side ≡ App) → at_app side near far ≡ one → LandsAlike side far near one e
lands_alike side far near one (Came a) app same = record { value = refl; prints = same }
lands_alike side far near one (Printed line) app same =
    let at = app line refl in
    let equal : near ≡ one = sym (near_only side near far at) ∙ same in
    record { value = ap (λ (ps : List (List ℕ)). (landed ps (Printed line)).value) equal; prints = near_only side (landed near (Printed line)).prints far at ∙ ap (λ (ps : List (List ℕ)). (landed ps (Printed line)).prints) equal }

module _ (plan : Plan) (side : Side) (far : Machine) where
  -- ---- a statement's own work

  -- what is needed of the act: the heaps after it, and that what it wrote is named or is yet to be
  pub record Wrote (c : Control) (before near one : List Object) (near_prints one_prints : List (List ℕ)) (writes : List Cell) : Type 0 where
    pub heaps : Heaps plan side c.known (with_marks writes c.marks) near far.heap one
    pub stacks : Stacks plan c far.control.frames
    pub prints : at_app side near_prints far.prints ≡ one_prints
    pub all : AllNamed plan side c before
    pub there : (o i : ℕ) → marked c.marks o i ≡ true → is_some (header_at before o) ≡ true
    pub same : (o : ℕ) → is_some (header_at before o) ≡ true → header_at one o ≡ header_at before o

  module _ (c : Control) (before hn ho : List Object) (pn po : List (List ℕ)) (writes : List Cell) (h : Wrote c before hn ho pn po writes) where
    abbrev now : Control
    now = also_marked writes c

    split_after : (d : Control) → Leaves plan now d → Split plan side (machine hn pn d) far (machine ho po d)
    split_after d l =
        let marks = l.marks in
        let s = h.stacks in
        record {
          control = refl;
          heaps = subst (λ k. Heaps plan side k d.marks hn far.heap ho) (sym marks.known_is) (subst (λ (ms : List Cell). Heaps plan side c.known ms hn far.heap ho) (sym marks.marks_are) h.heaps);
          stacks = l.stacks far.control.frames (record { within = s.within; reached = s.reached; like = s.like });
          prints = h.prints;
        }

    sent_after : (send : Option Send) (d : Control) → Leaves plan now d → SendsName plan side ho writes send d → Agree plan side (machine hn pn (sent send d)) far (machine ho po (sent send d))
    sent_after send d l sends =
        let split = split_after d l in
        let stacks = split.stacks in
        let marks = l.marks in
        record {
          split = record { control = refl; heaps = split.heaps; stacks = record { within = stacks.within; reached = stacks.reached; like = stacks.like }; prints = split.prints };
          named = λ o i m k. ap (λ (ns : List Naming). named plan (header_at ho o) (with_names (namings send (values_of d)) ns) o i) marks.names_are ∙ named_after plan side c d before ho writes send h.all h.there h.same sends o i (ap (λ (ms : List Cell). marked ms o i) (sym marks.marks_are) ∙ m) k;
        }

    -- nothing was written
    left_after : (d : Control) → Leaves plan now d → writes ≡ [] → Agree plan side (machine hn pn d) far (machine ho po d)
    left_after d l none =
        let marks = l.marks in
        record {
          split = split_after d l;
          named = λ o i m k. ap (λ (ns : List Naming). named plan (header_at ho o) ns o i) marks.names_are ∙ named_after plan side c d before ho writes None h.all h.there h.same (λ o i w k. absurd (unmarked (sym (ap (λ (ms : List Cell). marked ms o i) none) ∙ w))) o i (ap (λ (ms : List Cell). marked ms o i) (sym marks.marks_are) ∙ m) k;
        }
      where
        unmarked : false ≡ true → ⊥
        unmarked e = cc

    valued_alike : (over : Bool) (send : Option Send) (word : Word) (ran : List Ran) (v : Value) (a : Acted) → a.heap ≡ ho → a.writes ≡ writes → SendsOf over plan side send word (record a { heap = ho; writes = writes }) v c
        → StepsAlike plan side far (valued_if over plan.blocks.blocks send word ran v (machine hn pn now)) (valued_if over plan.blocks.blocks send word ran v (machine ho po now))
    valued_alike true send word ran v a ea ew sends = record { ran = refl; stop = refl; agree = left_after (left_with plan.blocks.blocks (result_of word v) now).control (left_leaves plan (result_of word v) now) sends }
    valued_alike false send word ran v a ea ew sends =
        let d = put_in_slot (top now.frames) (to_of word) v now in
        record { ran = refl; stop = refl; agree = sent_after send d (put_leaves plan (top now.frames) (to_of word) v now) (λ o i m k. slots_same (to_of word) o i ∙ sends o i m k) }
      where
        slots_same : (to : Option ℕ) (o i : ℕ) → named plan (header_at ho o) (namings send (values_of (put_in_slot (top now.frames) to v now))) o i ≡ named plan (header_at ho o) (namings send (values_of (put_in_slot (top c.frames) to v c))) o i
        slots_same None o i = refl
        slots_same (Some n) o i = refl

    applied_alike : (send : Option Send) (word : Word) (ran : List Ran) (a : Acted) (x : Applied) → a.heap ≡ ho → a.writes ≡ writes → SendsIf plan side send word (record a { heap = ho; writes = writes }) x c
        → StepsAlike plan side far (valued plan.blocks.blocks send word ran (machine hn pn now) x) (valued plan.blocks.blocks send word ran (machine ho po now) x)
    applied_alike send word ran a (Ok v) ea ew sends = valued_alike (is_return word) send word ran v a ea ew sends
    applied_alike send word ran a (Err t) ea ew sends = record { ran = refl; stop = refl; agree = split_after now (goes_leaves plan now) }

  act_alike : (node : ℕ) (send : Option Send) (word : Word) (act : Act) (hn ho : List Object) (pn po : List (List ℕ)) (c : Control)
      → Agree plan side (machine hn pn c) far (machine ho po c) → IsGood plan side send word act (machine ho po c)
      → StepsAlike plan side far (act_step plan node send word (machine hn pn c) act) (act_step plan node send word (machine ho po c) act)
  act_alike node send word act hn ho pn po c g good =
      let split = g.split in
      let a : Acted = acted (firsts_of plan.code) act hn in
      let b : Acted = acted (firsts_of plan.code) act ho in
      let alike = acts_alike plan side c.known far.heap act c.marks hn ho split.heaps good.reads in
      let lands = lands_alike side far.prints pn po b.ends good.prints split.prints in
      let same : a ≡ record { ends = b.ends; heap = a.heap; reads = b.reads; writes = b.writes } = λ k. record { ends = alike.ends k; heap = a.heap; reads = alike.reads k; writes = alike.writes k } in
      let now : Control = also_marked b.writes c in
      let ran : List Ran = ran_of node b.reads b.writes in
      subst (λ (z : Acted). StepsAlike plan side far (step_by plan.blocks.blocks node send word (machine hn pn c) z) (act_step plan node send word (machine ho po c) act)) (sym same)
      (subst (λ (x : Applied). StepsAlike plan side far (valued plan.blocks.blocks send word ran (machine a.heap (landed pn b.ends).prints now) x) (act_step plan node send word (machine ho po c) act)) (sym lands.value)
      (applied_alike c ho a.heap b.heap (landed pn b.ends).prints (landed po b.ends).prints b.writes
      (record { heaps = marks_heaps plan side c.known (c.marks ++ b.writes) (with_marks b.writes c.marks) a.heap far.heap b.heap (λ o i. sym (marked_with b.writes c.marks o i)) alike.heaps; stacks = split.stacks; prints = lands.prints; all = g.named; there = exists plan side c.known c.marks hn far.heap ho split.heaps; same = stays plan act ho })
      send word ran b (landed po b.ends).value refl refl good.sends))

  -- ---- a statement that leaves its block

  by_how : (h : How) (near one : Machine) → Agree plan side near far one → AgreeBy plan side far h near one
  by_how (Next n) near one g = g
  by_how (Fell t) near one g = g.split
  by_how (Waits op s) near one g = g

  left_agree : (hn ho : List Object) (pn po : List (List ℕ)) (c d : Control) → Leaves plan c d → Agree plan side (machine hn pn c) far (machine ho po c) → Agree plan side (machine hn pn d) far (machine ho po d)
  left_agree hn ho pn po c d l g =
      let split = g.split in
      let st = l.marks in
      record {
        split = record {
          control = refl;
          heaps = subst (λ (k : ℕ). Heaps plan side k d.marks hn far.heap ho) (sym st.known_is) (subst (λ (ms : List Cell). Heaps plan side c.known ms hn far.heap ho) (sym st.marks_are) split.heaps);
          stacks = l.stacks far.control.frames split.stacks;
          prints = split.prints;
        };
        named = λ o i m k. ap (λ (ns : List Naming). named plan (header_at ho o) ns o i) st.names_are ∙ g.named o i (ap (λ (ms : List Cell). marked ms o i) (sym st.marks_are) ∙ m) k;
      }

  leaves_alike : (node : ℕ) (hn ho : List Object) (pn po : List (List ℕ)) (c : Control) (l : Left) → Leaves plan c l.control → Agree plan side (machine hn pn c) far (machine ho po c)
      → StepsAlike plan side far (leaves node (machine hn pn c) l) (leaves node (machine ho po c) l)
  leaves_alike node hn ho pn po c l k g = record { ran = refl; stop = refl; agree = by_how l.how (machine hn pn l.control) (machine ho po l.control) (left_agree hn ho pn po c l.control k g) }

  -- ---- a statement

  does_alike : (n : ℕ) (e : Exit) (node : ℕ) (send : Option Send) (word : Word) (hn ho : List Object) (pn po : List (List ℕ)) (c : Control) (d : Does)
      → Agree plan side (machine hn pn c) far (machine ho po c) → GoodDoes plan side send word (machine ho po c) d
      → StepsAlike plan side far (does_step plan n e node send word (machine hn pn c) d) (does_step plan n e node send word (machine ho po c) d)
  does_alike n e node send word hn ho pn po c (Works (Acts act)) g good = act_alike node send word act hn ho pn po c g good
  does_alike n e node send word hn ho pn po c (Works (Operates op)) g good = record { ran = refl; stop = refl; agree = g }
  does_alike n e node send word hn ho pn po c (Invokes method values) g good = leaves_alike node hn ho pn po c (called plan.code (entry_of e) method n values c) (called_leaves plan (entry_of e) method n values c) g

  deed_alike : (n : ℕ) (e : Exit) (node : ℕ) (send : Option Send) (hn ho : List Object) (pn po : List (List ℕ)) (c : Control) (d : Deed)
      → Agree plan side (machine hn pn c) far (machine ho po c) → GoodDeed plan side send (machine ho po c) d
      → StepsAlike plan side far (deed_step plan n e node send (machine hn pn c) d) (deed_step plan n e node send (machine ho po c) d)
  deed_alike n e node send hn ho pn po c (deed.Does word) g good = does_alike n e node send word hn ho pn po c (does_of plan.code word (values_of c)) g good
  deed_alike n e node send hn ho pn po c (deed.Chooses a) g good = leaves_alike node hn ho pn po c (goes (chosen e (is_true (operand (values_of c) a))) c) (goes_leaves plan c) g
  deed_alike n e node send hn ho pn po c (deed.Tests a) g good = let to = chosen e (is_true (operand (values_of c) a)) in leaves_alike node hn ho pn po c (turned (goes to) c) (turned_leaves plan to c) g

  pub step_alike : (n : ℕ) (e : Exit) (s : Statement) (near one : Machine) → Agree plan side near far one → GoodDeed plan side s.send one s.deed → StepsAlike plan side far (step plan n e s near) (step plan n e s one)
  step_alike n e s near one g good =
      let split = g.split in
      let same : near ≡ with_control near one.control = share near one.control split.control in
      subst (λ (m : Machine). StepsAlike plan side far (step plan n e s m) (step plan n e s one)) (sym same)
      (deed_alike n e s.node s.send near.heap one.heap near.prints one.prints one.control s.deed (subst (λ (m : Machine). Agree plan side m far one) same g) good)

  told_alike : (node : ℕ) (send : Option Send) (said : Said) (hn ho : List Object) (pn po : List (List ℕ)) (c : Control) (d : Deed)
      → Agree plan side (machine hn pn c) far (machine ho po c) → GoodTold plan side send said (machine ho po c) d
      → StepsAlike plan side far (told_step plan node send said (machine hn pn c) d) (told_step plan node send said (machine ho po c) d)
  told_alike node send said hn ho pn po c (deed.Does word) g good = act_alike node send word (with_said (answer_of word) said) hn ho pn po c g good
  told_alike node send said hn ho pn po c (deed.Chooses a) g good = record { ran = refl; stop = refl; agree = g }
  told_alike node send said hn ho pn po c (deed.Tests a) g good = record { ran = refl; stop = refl; agree = g }

  pub answer_alike : (s : Statement) (said : Said) (near one : Machine) → Agree plan side near far one → GoodTold plan side s.send said one s.deed → StepsAlike plan side far (answered plan s said near) (answered plan s said one)
  answer_alike s said near one g good =
      let split = g.split in
      let same : near ≡ with_control near one.control = share near one.control split.control in
      subst (λ (m : Machine). StepsAlike plan side far (answered plan s said m) (answered plan s said one)) (sym same)
      (told_alike s.node s.send said near.heap one.heap near.prints one.prints one.control s.deed (subst (λ (m : Machine). Agree plan side m far one) same g) good)

  -- ---- the statements of a block

  then_alike : (a b : Stepped) (rest : Machine → Stepped) (P : Type 0) (stop : Stop)
      → a.stop ≡ stop → b.stop ≡ stop → a.ran ≡ b.ran → AgreeAt stop plan side a.machine far b.machine → MeetsRest stop P
      → (Agree plan side a.machine far b.machine → P → StepsAlike plan side far (rest a.machine) (rest b.machine))
      → StepsAlike plan side far (then_steps a rest stop) (then_steps b rest stop)
  then_alike a b rest P RunsOn ea eb r g good k = let h = k g good in record { ran = λ j. r j ++ h.ran j; stop = h.stop; agree = h.agree }
  then_alike a b rest P (Stops how) ea eb r g good k = record { ran = r; stop = ea ∙ sym eb; agree = subst (λ (z : Stop). AgreeAt z plan side a.machine far b.machine) (sym eb) g }

  pub steps_alike : (n : ℕ) (e : Exit) (statements : List Statement) (near one : Machine) → Agree plan side near far one → GoodSteps plan side n e statements one → StepsAlike plan side far (steps plan n e statements near) (steps plan n e statements one)
  unfolding steps
  steps_alike n e [] near one g good = record { ran = refl; stop = refl; agree = g }
  steps_alike n e (s ∷ rest) near one g good =
      let a : Stepped = step plan n e s near in
      let b : Stepped = step plan n e s one in
      let h : StepsAlike plan side far a b = step_alike n e s near one g good.0 in
      subst (λ (z : Stop). StepsAlike plan side far (then_steps a (steps plan n e rest) z) (then_steps b (steps plan n e rest) b.stop)) (sym h.stop)
      (then_alike a b (steps plan n e rest) (GoodSteps plan side n e rest b.machine) b.stop h.stop refl h.ran h.agree good.1 (steps_alike n e rest a.machine b.machine))

  -- ---- a block

  by_stop : (e : Exit) (near one : Machine) (stop : Stop) → AgreeAt stop plan side near far one → AgreeBy plan side far (how_of e stop) near one
  by_stop e near one RunsOn g = g
  by_stop e near one (Stops how) g = g

  pub done_alike : (e : Exit) (a b : Stepped) → StepsAlike plan side far a b → BlocksAlike plan side far (done e a) (done e b)
  done_alike e a b h = record { ran = h.ran; how = ap (how_of e) h.stop; agree = by_stop e a.machine b.machine b.stop h.agree }

  pub block_alike : (n : ℕ) (b : Block) (near one : Machine) → Agree plan side near far one → GoodSteps plan side n b.exit b.statements one → BlocksAlike plan side far (block_run plan n b near) (block_run plan n b one)
  block_alike n b near one g good = done_alike b.exit (steps plan n b.exit b.statements near) (steps plan n b.exit b.statements one) (steps_alike n b.exit b.statements near one g good)

  pub block_answer_alike : (b : Block) (s : Statement) (said : Said) (near one : Machine) → Agree plan side near far one → GoodTold plan side s.send said one s.deed → BlocksAlike plan side far (block_answered plan b s said near) (block_answered plan b s said one)
  block_answer_alike b s said near one g good = done_alike b.exit (answered plan s said near) (answered plan s said one) (answer_alike s said near one g good)

  -- the end of a method, where no block is
  pub end_alike : (near one : Machine) → Agree plan side near far one → BlocksAlike plan side far (end_left plan near) (end_left plan one)
  end_alike near one g =
      let split = g.split in
      let c : Control = one.control in
      let same : near ≡ with_control near c = share near c split.control in
      let l : Left = left_with plan.blocks.blocks None c in
      subst (λ (m : Machine). BlocksAlike plan side far (end_left plan m) (end_left plan one)) (sym same)
      (record { ran = refl; how = refl; agree = by_how l.how (machine near.heap near.prints l.control) (machine one.heap one.prints l.control) (left_agree near.heap one.heap near.prints one.prints c l.control (left_leaves plan None c) (subst (λ (m : Machine). Agree plan side m far one) same g)) })
