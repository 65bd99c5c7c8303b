-- Straight code runs as its code.
use Rattle.std.proofs.Common.{◌≡◌, ℕ, zero, suc, List, [], ◌∷◌, map, Option, Some, None, option_map, slice_get, Ok, Err, refl, sym, ap, ◌∙◌}
use Rattle.std.proofs.lemmas.List.{map-append}
use Rattle.px_value.specs.declared.value.Value.{Value}
use Rattle.px_value.specs.declared.value.Value.TheVariants.{Ref}
use Rattle.px_value.specs.declared.object.Object.{Object}
use Rattle.px_value.specs.Operators.{Applied}
use Rattle.px_value.specs.Limits.{all_frames}
use Rattle.px_value.specs.Outcome.{Outcome, Gives, Throws, Asks, Run, then_run, Flow, Goes, Returns, goes_on}
use Rattle.px_effects.specs.Run.{Ask}
use Rattle.px_effects.specs.Act as whole
use Rattle.px_effects.specs.Cells.{first_cells}
use Rattle.px_normal.specs.declared.ty.Ty.{Ty}
use Rattle.px_normal.specs.declared.word.Word.{Word}
use Rattle.px_normal.specs.declared.method.Method.{Method}
use Rattle.px_normal.specs.declared.method.Tree.{Tree, fold-Tree, fold-roll-Tree}
use Rattle.px_normal.specs.declared.method.Tree.TheVariants.{Do, rolls-Do}
use Rattle.px_normal.specs.declared.method.Tree.TheOpen.{Tree-F as t}
use Rattle.px_normal.specs.declared.code.Code.{Code}
use Rattle.px_normal.specs.First.{numbered, default_of, with_first, fresh_of}
use Rattle.px_normal.specs.Run as normal
use Rattle.px_normal.specs.Run.{Here}
use Rattle.px_normal.specs.Words.{Does}
use Rattle.px_normal.specs.CodeRun.{Calls, ended, after_act, act_ends, acted_run, does_run, word_run, tree_step, tree_run, body_run, leaves_frame, enters, calls_in, starts, code_run}
use Rattle.px_normal.specs.Typed.{IsTyped}
use Rattle.px_code.specs.declared.word.Word.{Word as SimpleWord}
use Rattle.px_code.specs.declared.method.Tree.{Tree as SimpleTree}
use Rattle.px_code.specs.declared.method.Method.{Method as SimpleMethod}
use Rattle.px_code.specs.declared.code.Code.{Code as SimpleCode}
use Rattle.px_code.specs.Act.{Slots, Acted, act_of, slot_of, acted}
use Rattle.px_code.specs.CodeRun as simple
use Rattle.px_code.specs.CodeRun.{Traced, Frame, with_slot, flow_of, after_word, method_at}
use Rattle.px_code.specs.Sound.{run_of}
use Rattle.px_straight.specs.Taken.{first_of, later, later_of}
use Rattle.px_straight.specs.Simple.{simple_type, simple_word, simple_tree, simple_method, simple_code}
use Rattle.px_straight.specs.Laws.{told_ran, told, told_run, StraightRunsAsCode}
use Rattle.px_straight.proofs.Forms.{simple_do}
use Rattle.px_straight.proofs.Whole.{is_straight, method_of, none_first}
use Rattle.px_straight.proofs.TakenWords.{absent, present, TakenWord, sets, computes, gets, puts, returns, AreTaken, nothing, one, are_taken}
use Rattle.px_straight.proofs.Slots.{as_list, set_list, first_list}
use Rattle.px_straight.proofs.Acts.{does_same, HaveSameCells, after_act as cells_after, as_acted, acted_same}

-- the statement of a tree
run_word : (Q W : Type 0) (code : Code) (ask : Ask Q W) (calls : Calls Q W) (x : Tree) (node : ℕ) (word : Word) → x ≡ Do node word → tree_run code ask calls x ≡ word_run code ask calls node word
unfolding tree_run
run_word Q W code ask calls x node word e = ap (fold-Tree (Here Q W (Flow Value)) (tree_step code ask calls)) (e ∙ sym (rolls-Do node word)) ∙ fold-roll-Tree (Here Q W (Flow Value)) (tree_step code ask calls) (t.Do node word)

calls_next : (Q W : Type 0) (code : Code) (ask : Ask Q W) (n method : ℕ) (values : List Value) → calls_in code ask (suc n) method values ≡ enters code ask (calls_in code ask n) (numbered code.methods method) values
unfolding calls_in
calls_next Q W code ask n method values = refl

some_frames : all_frames ≡ suc 199
unfolding all_frames
some_frames = refl

module _ (Q W : Type 0) (code : Code) (ask : Ask Q W) (calls : Calls Q W) (gives : Option Ty) (types : List Ty) (first : List Object) (world : W) where
  -- a frame of the simple code, as one of the whole language's
  abbrev framed : Frame (Unit {0}) → normal.Frame W
  framed s = record { locals = as_list types s.locals; shared = told first world s.shared }

  abbrev framed_run : {A : Type 0} → Outcome ⊥ (Frame (Unit {0})) A → Outcome Q (normal.Frame W) A
  framed_run (Gives a s) = Gives a (framed s)
  framed_run (Throws t s) = Throws t (framed s)
  framed_run (Asks q s) = absurd q

  -- ---- one statement

  -- what a statement comes to, with what frames share then
  value_same : {word : Word} (v : Value) (slots : Slots) (g : normal.Traced W) → TakenWord code gives types word → ended {Q = Q} {W = W} word (as_list types slots) g (Ok v) ≡ Gives (flow_of (simple_word word) v) (record { locals = as_list types (with_slot (slot_of (simple_word word)) v slots); shared = g })
  value_same v slots g (sets to a t ht ha) = ap (λ (vs : List Value). Gives Goes (record { locals = vs; shared = g })) (set_list types slots to v t ht)
  value_same v slots g (computes o to a b t ht ha hb) = ap (λ (vs : List Value). Gives Goes (record { locals = vs; shared = g })) (set_list types slots to v t ht)
  value_same v slots g (gets to of class field t ht ho hf) = ap (λ (vs : List Value). Gives Goes (record { locals = vs; shared = g })) (set_list types slots to v t ht)
  value_same v slots g (puts of class field a ho ha hf) = refl
  value_same v slots g (returns None absent h) = refl
  value_same v slots g (returns (Some a) (present _ ha) h) = refl

  told_after : (node : ℕ) (g : Traced (Unit {0})) (a : Acted) (r : Applied) → after_act node (as_acted first a) (record { value = r; prints = [] }) (told first world g) ≡ told first world (simple.noted node a g)
  told_after node g a r = ap (λ (ran : List normal.Ran). record { shared = record { heap = a.heap; world = world; prints = []; turns = 0; operations = 0 }; ran = ran }) (sym (map-append (told_ran first) g.ran (record { node = node; reads = a.reads; writes = a.writes } ∷ [])))

  ends_same : {word : Word} (node : ℕ) (slots : Slots) (g : Traced (Unit {0})) (a : Acted) (r : Applied) → TakenWord code gives types word → act_ends {Q = Q} {W = W} node word (as_list types slots) (told first world g) (as_acted first a) (record { value = r; prints = [] }) ≡ framed_run (after_word node (simple_word word) slots g a r)
  ends_same {word} node slots g a (Ok v) k = value_same v slots _ k ∙ ap (λ (x : normal.Traced W). Gives (flow_of (simple_word word) v) (record { locals = as_list types (with_slot (slot_of (simple_word word)) v slots); shared = x })) (told_after node g a (Ok v))
  ends_same {word} node slots g a (Err x) k = ap (λ (y : normal.Traced W). Throws x (record { locals = as_list types slots; shared = y })) (told_after node g a (Err x))

  word_same : {word : Word} (node : ℕ) (s : Frame (Unit {0})) → TakenWord code gives types word → HaveSameCells first s.shared.shared.heap → word_run code ask calls node word (framed s) ≡ framed_run (simple.word_run node (simple_word word) s)
  word_same {word} node s k h =
      let act = act_of (simple_word word) s.locals in
      ap (λ (d : Does). does_run code ask calls node word d (framed s)) (does_same code gives types s.locals k)
      ∙ ap (λ (a : whole.Acted). acted_run node word (as_list types s.locals) (told first world s.shared) a) (acted_same (first_cells (fresh_of code)) act first s.shared.shared.heap h)
      ∙ ends_same node s.locals s.shared (acted act s.shared.shared.heap) (acted act s.shared.shared.heap).ends k

  -- ---- statements in order

  abbrev KeepsCells : {A : Type 0} → Outcome ⊥ (Frame (Unit {0})) A → Type 0
  KeepsCells (Gives a s) = HaveSameCells first s.shared.shared.heap
  KeepsCells (Throws t s) = Unit {0}
  KeepsCells (Asks q s) = Unit {0}

  cells_end : (node : ℕ) (word : SimpleWord) (slots : Slots) (g : Traced (Unit {0})) (a : Acted) (r : Applied) → HaveSameCells first a.heap → KeepsCells (after_word node word slots g a r)
  cells_end node word slots g a (Ok v) h = h
  cells_end node word slots g a (Err x) h = tt

  cells_word : (node : ℕ) (word : SimpleWord) (s : Frame (Unit {0})) → HaveSameCells first s.shared.shared.heap → KeepsCells (simple.word_run node word s)
  cells_word node word s h =
      let a = acted (act_of word s.locals) s.shared.shared.heap in
      cells_end node word s.locals s.shared a a.ends (cells_after (act_of word s.locals) first s.shared.shared.heap h)

  one_more : (o : Outcome ⊥ (Frame (Unit {0})) (Flow Value)) (rest : Here Q W (Flow Value)) (simple_rest : Run ⊥ (Frame (Unit {0})) (Flow Value)) → KeepsCells o → ((s : Frame (Unit {0})) → HaveSameCells first s.shared.shared.heap → rest (framed s) ≡ framed_run (simple_rest s)) → then_run (framed_run o) (goes_on rest) ≡ framed_run (then_run o (goes_on simple_rest))
  one_more (Gives Goes s) rest simple_rest k h = h s k
  one_more (Gives (Returns v) s) rest simple_rest k h = refl
  one_more (Throws x s) rest simple_rest k h = refl
  one_more (Asks q s) rest simple_rest k h = absurd q

  body_same : {trees : List Tree} → AreTaken code gives types trees → (s : Frame (Unit {0})) → HaveSameCells first s.shared.shared.heap → body_run code ask calls trees (framed s) ≡ framed_run (simple.body_run (map simple_tree trees) s)
  body_same nothing s h = refl
  body_same (one {t = x} {ts = xs} node word e k rest) s h =
      ap (λ (r : Here Q W (Flow Value)). then_run (r (framed s)) (goes_on (body_run code ask calls xs))) (run_word Q W code ask calls x node word e)
      ∙ ap (λ (o : Outcome Q (normal.Frame W) (Flow Value)). then_run o (goes_on (body_run code ask calls xs))) (word_same node s k h)
      ∙ one_more (simple.word_run node (simple_word word) s) (body_run code ask calls xs) (simple.body_run (map simple_tree xs)) (cells_word node (simple_word word) s h) (body_same rest)
      ∙ ap (λ (y : SimpleTree). framed_run (then_run (simple.tree_run y s) (goes_on (simple.body_run (map simple_tree xs))))) (sym (simple_do x node word e))

  -- ---- a method

  leaves_same : (o : Outcome ⊥ (Frame (Unit {0})) (Flow Value)) → leaves_frame (framed_run o) ≡ told_run first world (simple.leaves_frame o)
  leaves_same (Gives Goes s) = refl
  leaves_same (Gives (Returns v) s) = refl
  leaves_same (Throws x s) = refl
  leaves_same (Asks q s) = absurd q

  pub method_same : {trees : List Tree} → AreTaken code gives types trees → (values : List Value) → leaves_frame (body_run code ask calls trees (record { locals = with_first values (map default_of types); shared = starts first world })) ≡ told_run first world (simple.leaves_frame (simple.body_run (map simple_tree trees) (record { locals = simple.first_slots (map simple_type types) values; shared = record { shared = record { heap = first; world = tt }; ran = [] } })))
  method_same {trees} k values =
      ap (λ (vs : List Value). leaves_frame (body_run code ask calls trees (record { locals = vs; shared = starts first world }))) (first_list types values)
      ∙ ap leaves_frame (body_same k (record { locals = simple.first_slots (map simple_type types) values; shared = record { shared = record { heap = first; world = tt }; ran = [] } }) (record { there = λ object index. refl }))
      ∙ leaves_same (simple.body_run (map simple_tree trees) (record { locals = simple.first_slots (map simple_type types) values; shared = record { shared = record { heap = first; world = tt }; ran = [] } }))

-- ---- the methods of straight code

none_at : (code : Code) (methods : List Method) (place : ℕ) (m : Method) → first_of (map (later_of code) methods) ≡ None → slice_get methods place ≡ Some m → later_of code m ≡ None
none_at code [] place m h e = cc
none_at code (x ∷ methods) zero m h e = let same : x ≡ m = cc in ap (later_of code) (sym same) ∙ (none_first (later_of code x) (map (later_of code) methods) h).one
none_at code (x ∷ methods) (suc place) m h e = none_at code methods place m (none_first (later_of code x) (map (later_of code) methods) h).rest e

none_in : (code : Code) (number : ℕ) (m : Method) → later code ≡ None → numbered code.methods number ≡ Some m → later_of code m ≡ None
none_in code zero m h e = cc
none_in code (suc place) m h e = none_at code code.methods place m h e

pub taken_method : (code : Code) → IsTyped code → later code ≡ None → (number : ℕ) (m : Method) → numbered code.methods number ≡ Some m → AreTaken code m.gives m.slots m.body
taken_method code k h number m e = are_taken code m.gives m.slots m.body (k.methods number m e).body (none_in code number m h e)

-- ---- whole runs

module _ (Q W : Type 0) where
  entered : (code : Code) (ask : Ask Q W) (calls : Calls Q W) (heap : List Object) (world : W) (values : List Value) (o : Option Method) → ((m : Method) → o ≡ Some m → AreTaken code m.gives m.slots m.body) → enters code ask calls o values (starts heap world) ≡ told_run heap world (simple.enters (option_map simple_method o) values (record { shared = record { heap = heap; world = tt }; ran = [] }))
  entered code ask calls heap world values None k = refl
  entered code ask calls heap world values (Some m) k = method_same Q W code ask calls m.gives m.slots heap world (k m refl) values

  runs : (code : Code) → IsTyped code → later code ≡ None → (ask : Ask Q W) (heap : List Object) (world : W) (method : ℕ) (args : List Value) → code_run code ask heap world method args ≡ told_run heap world (run_of (simple_code code) heap method args)
  unfolding simple.code_run
  runs code k h ask heap world method args =
      ap (λ (n : ℕ). calls_in code ask n method (Ref 0 ∷ args) (starts heap world)) some_frames
      ∙ ap (λ (r : Run Q (normal.Traced W) (Option Value)). r (starts heap world)) (calls_next Q W code ask 199 method (Ref 0 ∷ args))
      ∙ entered code ask (calls_in code ask 199) heap world (Ref 0 ∷ args) (numbered code.methods method) (taken_method code k h method)
      ∙ ap (λ (o : Option SimpleMethod). told_run heap world (simple.enters o (Ref 0 ∷ args) (record { shared = record { heap = heap; world = tt }; ran = [] }))) (sym (method_of code.methods method))

  pub runs_as_code : StraightRunsAsCode Q W
  runs_as_code code simple' k h ask heap world method args =
      let s = is_straight code simple' h in
      runs code k s.none_later ask heap world method args ∙ ap (λ (c : SimpleCode). told_run heap world (run_of c heap method args)) (sym s.is)
