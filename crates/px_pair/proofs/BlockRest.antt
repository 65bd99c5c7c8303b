-- The rest of a block, and what comes of it.
use Rattle.std.proofs.Common.{◌≡◌, ℕ, zero, suc, ◌<◌, Bool, false, nat_eq, List, [], ◌∷◌, ◌++◌, length, Option, Some, None, Ok, Err, slice_set, unwrap_or, if◌then◌else◌, refl, sym, ap, subst, ◌∙◌, append_assoc, arith}
use Rattle.px_value.specs.declared.value.Value.{Value}
use Rattle.px_value.specs.declared.value.Value.TheVariants.{Null}
use Rattle.px_value.specs.declared.object.Object.{Object}
use Rattle.px_value.specs.declared.thrown.Thrown.{Thrown}
use Rattle.px_value.specs.Operators.{Applied}
use Rattle.px_value.specs.Outcome.{Outcome, Gives, Throws, Asks, State, Flow, then_run, goes_on}
use Rattle.px_code.specs.declared.cell.Cell.{Cell}
use Rattle.px_code.specs.declared.method.Tree.{Tree}
use Rattle.px_code.specs.declared.method.Tree.TheVariants.{Do}
use Rattle.px_code.specs.declared.word.Word.{Word}
use Rattle.px_code.specs.declared.word.Word.TheVariants as w
use Rattle.px_code.specs.declared.frame.Slot.{Slot}
use Rattle.px_code.specs.declared.block.Naming.{Naming}
use Rattle.px_code.specs.declared.block.Send.{Send}
use Rattle.px_code.specs.declared.block.Statement.{Statement}
use Rattle.px_code.specs.declared.block.Block.{Block}
use Rattle.px_code.specs.Act.{Slots, act_of, slot_of, Acted, acted}
use Rattle.px_code.specs.CodeRun.{Ran, Traced, Frame as Frames, with_slot, noted, after_word, body_run, result_of}
use Rattle.px_code.specs.Frames.{root_frame}
use Rattle.px_code.specs.Machine.{Machine, slots_at, value_in, just_written, is_return, stop_of, after_act, ran_of, step_ends, also_ran, then_steps, steps, Stepped, Threw, with_value, namings, sent, block_at, next_block, exit_to}
use Rattle.px_code.specs.Sound.{Ending, Finished, Fell, RunsFrom, BlocksRun, entered, first_block}
use Rattle.px_code.specs.Sound as sound
use Rattle.px_pair.specs.Good.{IsBelowIf}
use Rattle.px_pair.proofs.Heaps.{same, same_is}

-- ---- the rest of a block, and what follows it

pub data Mid (blocks : List Block) (b : Block) (after : Stepped) : List Ran → Ending → Machine → Type 0 where
  goes : {ran : List Ran} {ending : Ending} {last : Machine} → ((t : Thrown) → after.stop ≡ Threw t → ⊥) → RunsFrom blocks (next_block b.exit after.stop) after.machine ran ending last → Mid blocks b after (after.ran ++ ran) ending last
  fell : {t : Thrown} → after.stop ≡ Threw t → Mid blocks b after after.ran (Fell t) after.machine

pub whole : (blocks : List Block) (n : ℕ) (b : Block) (m : Machine) (ran : List Ran) (ending : Ending) (last : Machine) → block_at blocks n ≡ Some b → Mid blocks b (steps b.statements m) ran ending last → RunsFrom blocks n m ran ending last
whole blocks n b m _ ending last is (goes g after) = sound.runs is g after
whole blocks n b m _ _ _ is (fell e) = sound.falls is e

mid_more : (blocks : List Block) (b : Block) (first : List Ran) (after : Stepped) (ran : List Ran) (ending : Ending) (last : Machine) → Mid blocks b after ran ending last → Mid blocks b (also_ran first after) (first ++ ran) ending last
mid_more blocks b first after _ ending last (goes {ran = ran} g rest) =
    let longer : Mid blocks b (also_ran first after) ((first ++ after.ran) ++ ran) ending last = goes g rest in
    subst (λ (rs : List Ran). Mid blocks b (also_ran first after) rs ending last) (append_assoc first after.ran ran) longer
mid_more blocks b first after _ _ _ (fell e) = fell e

-- ---- what comes of it

pub record Done (blocks : List Block) (b : Block) (after : Stepped) (prior : List Ran) (ending : Ending) (heap : List Object) (all : List Ran) (reply : Value) : Type 0 where
  pub ran : List Ran
  pub last : Machine
  pub mid : Mid blocks b after ran ending last
  pub heap_is : last.heap ≡ heap
  pub reply_is : value_in (slots_at last.frames 0) 0 ≡ reply
  pub all_is : all ≡ prior ++ ran

abbrev pub Body : Type 0
Body = Outcome ⊥ (Frames (Unit {0})) (Flow Value)

abbrev pub Does : List Block → Block → Stepped → List Ran → Body → Type 0
Does blocks b after prior (Gives f s) = Done blocks b after prior Finished s.shared.shared.heap s.shared.ran (unwrap_or (result_of f) Null)
Does blocks b after prior (Throws t s) = Done blocks b after prior (Fell t) s.shared.shared.heap s.shared.ran Null
Does blocks b after prior (Asks q z) = absurd q

done_more : (blocks : List Block) (b : Block) (first : List Ran) (after : Stepped) (prior : List Ran) (ending : Ending) (heap : List Object) (all : List Ran) (reply : Value) → Done blocks b after (prior ++ first) ending heap all reply → Done blocks b (also_ran first after) prior ending heap all reply
done_more blocks b first after prior ending heap all reply d = record {
  ran = first ++ d.ran;
  last = d.last;
  mid = mid_more blocks b first after d.ran ending d.last d.mid;
  heap_is = d.heap_is;
  reply_is = d.reply_is;
  all_is = d.all_is ∙ append_assoc prior first d.ran;
}

more : (blocks : List Block) (b : Block) (first : List Ran) (after : Stepped) (prior : List Ran) (o : Body) → Does blocks b after (prior ++ first) o → Does blocks b (also_ran first after) prior o
more blocks b first after prior (Gives f s) d = done_more blocks b first after prior Finished s.shared.shared.heap s.shared.ran (unwrap_or (result_of f) Null) d
more blocks b first after prior (Throws t s) d = done_more blocks b first after prior (Fell t) s.shared.shared.heap s.shared.ran Null d
more blocks b first after prior (Asks q z) d = absurd q

-- where a block is done, the next one goes on
done_next : (blocks : List Block) (b c : Block) (n : ℕ) (m : Machine) (prior : List Ran) (ending : Ending) (heap : List Object) (all : List Ran) (reply : Value) → exit_to b.exit ≡ n → block_at blocks n ≡ Some c → Done blocks c (steps c.statements m) prior ending heap all reply → Done blocks b (steps [] m) prior ending heap all reply
done_next blocks b c n m prior ending heap all reply exit is d = record {
  ran = d.ran;
  last = d.last;
  mid = goes (λ t e. cc) (subst (λ (k : ℕ). RunsFrom blocks k m d.ran ending d.last) (sym exit) (whole blocks n c m d.ran ending d.last is d.mid));
  heap_is = d.heap_is;
  reply_is = d.reply_is;
  all_is = d.all_is;
}

pub does_next : (blocks : List Block) (b c : Block) (n : ℕ) (m : Machine) (prior : List Ran) (o : Body) → exit_to b.exit ≡ n → block_at blocks n ≡ Some c → Does blocks c (steps c.statements m) prior o → Does blocks b (steps [] m) prior o
does_next blocks b c n m prior (Gives f s) exit is d = done_next blocks b c n m prior Finished s.shared.shared.heap s.shared.ran (unwrap_or (result_of f) Null) exit is d
does_next blocks b c n m prior (Throws t s) exit is d = done_next blocks b c n m prior (Fell t) s.shared.shared.heap s.shared.ran Null exit is d
does_next blocks b c n m prior (Asks q z) exit is d = absurd q

-- ---- the machine of a call

abbrev pub two : ℕ → List Object → List Slot → ℕ → List Cell → List Naming → Machine
two m heap slots base marks named = record { heap = heap; frames = root_frame ∷ record { method = m; back = 0; slots = slots } ∷ []; base = base; marks = marks; named = named }

abbrev filled_slots : Option ℕ → Value → List Slot → List Slot
filled_slots None x slots = slots
filled_slots (Some n) x slots = slice_set slots n (just_written x)

abbrev pub begun : List Object → List Slot → List Ran → State Slots (Traced (Unit {0}))
begun heap slots prior = record { locals = value_in slots; shared = record { shared = record { heap = heap; world = tt }; ran = prior } }

-- ---- slots as lists and as functions

by_same : (slots : List Slot) (n k : ℕ) (x : Value) → n < length slots → (if same k n then x else value_in slots k) ≡ value_in (slice_set slots n (just_written x)) k
by_same [] n k x h = absurd (omega (arith, h))
by_same (s ∷ slots) zero zero x h = refl
by_same (s ∷ slots) zero (suc k) x h = refl
by_same (s ∷ slots) (suc n) zero x h = refl
by_same (s ∷ slots) (suc n) (suc k) x h = by_same slots n k x (omega (arith, h))

abbrev InRange : Option ℕ → List Slot → Type 0
InRange None slots = Unit {0}
InRange (Some n) slots = n < length slots

locals_are : (n : Option ℕ) (x : Value) (slots : List Slot) → InRange n slots → with_slot n x (value_in slots) ≡ value_in (filled_slots n x slots)
locals_are None x slots h = refl
locals_are (Some n) x slots h = λ i k. at k i
  where
    at : (k : ℕ) → (if nat_eq k n then x else value_in slots k) ≡ value_in (slice_set slots n (just_written x)) k
    at k = ap (λ (b : Bool). if b then x else value_in slots k) (same_is k n) ∙ by_same slots n k x h

length_set : (slots : List Slot) (n : ℕ) (y : Slot) → length (slice_set slots n y) ≡ length slots
length_set [] n y = refl
length_set (s ∷ slots) zero y = refl
length_set (s ∷ slots) (suc n) y = ap suc (length_set slots n y)

length_filled : (n : Option ℕ) (x : Value) (slots : List Slot) → length (filled_slots n x slots) ≡ length slots
length_filled None x slots = refl
length_filled (Some n) x slots = length_set slots n (just_written x)

-- ---- one statement

module _ (blocks : List Block) (b : Block) (method node : ℕ) (send : Option Send) (ss : List Statement) (trees : List Tree) (heap : List Object) (slots : List Slot) (base : ℕ) (marks : List Cell) (named : List Naming) (prior : List Ran) where
  abbrev now : Machine
  now = two method heap slots base marks named

  abbrev shared : Traced (Unit {0})
  shared = record { shared = record { heap = heap; world = tt }; ran = prior }

  abbrev RestDoes : Word → Acted → Value → Type 0
  RestDoes word a x = Does blocks b (also_ran (ran_of node a) (steps ss (sent send (with_value word x (after_act a now))))) prior (body_run trees (record { locals = with_slot (slot_of word) x (value_in slots); shared = noted node a shared }))

  valued : (word : Word) (a : Acted) (x : Value) → is_return word ≡ false → sent send (with_value word x (after_act a now)) ≡ two method a.heap (filled_slots (slot_of word) x slots) base (marks ++ a.writes) (named ++ namings send (value_in (filled_slots (slot_of word) x slots)))
  valued (w.Set to o) a x h = refl
  valued (w.Op op to o p) a x h = refl
  valued (w.Get to of class field) a x h = refl
  valued (w.Put of class field o) a x h = refl
  valued (w.Return o) a x h = cc

  abbrev here : Word → Statement
  here word = record { node = node; word = word; send = send }

  ok : (word : Word) (a : Acted) (x : Value) → (is_return word ≡ false → RestDoes word a x) → Does blocks b (then_steps (step_ends (here word) a now (Ok x)) (steps ss) (stop_of word)) prior (then_run (after_word node word (value_in slots) shared a (Ok x)) (goes_on (body_run trees)))
  ok (w.Set to o) a x rest = rest refl
  ok (w.Op op to o p) a x rest = rest refl
  ok (w.Get to of class field) a x rest = rest refl
  ok (w.Put of class field o) a x rest = rest refl
  ok (w.Return None) a x rest = record { ran = ran_of node a; last = (step_ends (here (w.Return None)) a now (Ok x)).machine; mid = goes (λ t e. cc) sound.finished; heap_is = refl; reply_is = refl; all_is = refl }
  ok (w.Return (Some o)) a x rest = record { ran = ran_of node a; last = (step_ends (here (w.Return (Some o))) a now (Ok x)).machine; mid = goes (λ t e. cc) sound.finished; heap_is = refl; reply_is = refl; all_is = refl }

  ends : (word : Word) (a : Acted) (e : Applied) → ((x : Value) → is_return word ≡ false → RestDoes word a x) → Does blocks b (then_steps (step_ends (here word) a now e) (steps ss) (step_ends (here word) a now e).stop) prior (then_run (after_word node word (value_in slots) shared a e) (goes_on (body_run trees)))
  ends word a (Ok x) rest = ok word a x (rest x)
  ends word a (Err t) rest = record { ran = ran_of node a; last = after_act a now; mid = fell refl; heap_is = refl; reply_is = refl; all_is = refl }

-- what follows a statement that runs on, whatever it left
abbrev pub Follows : List Block → ℕ → ℕ → Block → List Statement → List Tree → Type 0
Follows blocks method size b ss trees = (heap : List Object) (slots : List Slot) (base : ℕ) (marks : List Cell) (named : List Naming) (prior : List Ran) → length slots ≡ size → Does blocks b (steps ss (two method heap slots base marks named)) prior (body_run trees (begun heap slots prior))

in_range : (size : ℕ) (n : Option ℕ) (slots : List Slot) → length slots ≡ size → IsBelowIf size n → InRange n slots
in_range size None slots e h = tt
in_range size (Some n) slots e h = omega (arith, e, h)

pub one_more : (blocks : List Block) (method size : ℕ) (b : Block) (node : ℕ) (word : Word) (send : Option Send) (ss : List Statement) (trees : List Tree) → IsBelowIf size (slot_of word) → (is_return word ≡ false → Follows blocks method size b ss trees) → Follows blocks method size b (record { node = node; word = word; send = send } ∷ ss) (Do node word ∷ trees)
one_more blocks method size b node word send ss trees below follows heap slots base marks named prior counted = ends blocks b method node send ss trees heap slots base marks named prior word a a.ends rest
  where
    a : Acted
    a = acted (act_of word (value_in slots)) heap

    rest : (x : Value) → is_return word ≡ false → RestDoes blocks b method node send ss trees heap slots base marks named prior word a x
    rest x plain =
        more blocks b (ran_of node a) (steps ss (sent send (with_value word x (after_act a (two method heap slots base marks named))))) prior (body_run trees (record { locals = with_slot (slot_of word) x (value_in slots); shared = noted node a (record { shared = record { heap = heap; world = tt }; ran = prior }) }))
        (subst (λ (m : Machine). Does blocks b (steps ss m) (prior ++ ran_of node a) (body_run trees (record { locals = with_slot (slot_of word) x (value_in slots); shared = noted node a (record { shared = record { heap = heap; world = tt }; ran = prior }) }))) (sym (valued blocks b method node send ss trees heap slots base marks named prior word a x plain))
        (subst (λ (ls : Slots). Does blocks b (steps ss (two method a.heap (filled_slots (slot_of word) x slots) base (marks ++ a.writes) (named ++ namings send (value_in (filled_slots (slot_of word) x slots))))) (prior ++ ran_of node a) (body_run trees (record { locals = ls; shared = noted node a (record { shared = record { heap = heap; world = tt }; ran = prior }) }))) (sym (locals_are (slot_of word) x slots (in_range size (slot_of word) slots counted below)))
        (follows plain a.heap (filled_slots (slot_of word) x slots) base (marks ++ a.writes) (named ++ namings send (value_in (filled_slots (slot_of word) x slots))) (prior ++ ran_of node a) (length_filled (slot_of word) x slots ∙ counted))))
