-- What effects and operations do, beside what they do on a list.
use Rattle.std.proofs.Common.{◌≡◌, ℕ, ◌+◌, ◌≤◌, nat_lt, Bool, true, false, if◌then◌else◌, List, [], ◌∷◌, Option, Result, Ok, Err, refl, arith}
use Rattle.std.proofs.lemmas.Bool.{ltb-true}
use Rattle.px_value.specs.declared.value.Value.{Value}
use Rattle.px_value.specs.declared.value.Value.TheVariants.{Null}
use Rattle.px_value.specs.declared.thrown.Thrown.{Thrown}
use Rattle.px_value.specs.declared.statement.TableOp.{TableOp}
use Rattle.px_value.specs.declared.answer.Answer.{Answer}
use Rattle.px_value.specs.Operators.{Applied}
use Rattle.px_value.specs.Outcome.{Outcome, Gives, Throws, Asks, then_run, ◌>>=◌, pure}
use Rattle.px_facts.specs.declared.operation.Operation.{Operation}
use Rattle.px_facts.specs.declared.types.Ty.{Ty}
use Rattle.px_facts.specs.declared.types.Ty.TheVariants as ty
use Rattle.px_facts.specs.declared.checked.Facts.{Facts}
use Rattle.px_effects.specs.Run.{in_world}
use Rattle.px_effects.specs.Act.{Act, Firsts, Acted, acted, Landed, landed, left, ended, does}
use Rattle.px_effects.specs.Cells as cells
use Rattle.px_effects.specs.Cells.{first_cells}
use Rattle.px_effects.specs.Rows as rows
use Rattle.px_effects.specs.Operations.{Work, Acts, Operates, operation, Said, Answers, Out, counted, told, with_said, works}
use Rattle.px_mean.specs.Run.{Shared, There, came_to, turn, max_turns}
use Rattle.px_mean.specs.Facts.{element_number}
use Rattle.px_mean.specs.Effects.{fresh_with, no_object, statement_in, statements_of, acts, only_acts, get_field, put_field, array_length, load, store, new_object, new_array, next, get_long, get_string, print_line}
use Rattle.px_mean.specs.Operations.{Ask, max_operations, query, update}
use Rattle.px_mean.specs.Asks.{by_list}
use Rattle.px_mean.specs.Laws.{with_world}
use Rattle.px_mean.proofs.Follows.{View, Follows, Alike, reaches_now, pure_alike, bind, came_alike, Reaches}

-- nothing is thrown by who answers
abbrev pub NeverThrows : (Q W : Type 0) → Ask Q W → Type 0
NeverThrows Q W ask = (o : TableOp) (w to : W) (t : Thrown) → ask o w ≡ Throws t to → ⊥

abbrev pub shared_view : (W : Type 0) → View W
shared_view W = record { Near = Shared W; Far = Shared (List Answer); world = λ s. s.world; count = λ s. s.operations; written = λ s x. with_world s x }

module _ (Q W : Type 0) (ask : Ask Q W) where
  abbrev V : View W
  V = shared_view W

  abbrev pub AlikeThere : (A : Type 0) → There Q W A → There TableOp (List Answer) A → Type 0
  AlikeThere A r l = Alike Q W ask V A r l

  abbrev pub OutcomeThere : (A : Type 0) → Outcome Q (Shared W) A → Shared W → (List Answer → Outcome TableOp (Shared (List Answer)) A) → Type 0
  OutcomeThere A o s run = Follows Q W ask V A o s run

  quiet : (A : Type 0) (w : W) (n : ℕ) (run end : List Answer → Outcome TableOp (Shared (List Answer)) A) → ((more : List Answer) → run more ≡ end more) → Reaches Q W ask (Shared (List Answer)) A w w n n run end
  quiet A w n run end h = reaches_now Q W ask (Shared (List Answer)) A w n run end h

  choose : (A : Type 0) (b : Bool) (o o' : Outcome Q (Shared W) A) (s : Shared W) (run run' : List Answer → Outcome TableOp (Shared (List Answer)) A) → OutcomeThere A o s run → OutcomeThere A o' s run' → OutcomeThere A (if b then o else o') s (λ x. if b then run x else run' x)
  choose A true o o' s run run' h k = h
  choose A false o o' s run run' h k = k

  pub then_there : {A B : Type 0} {r : There Q W A} {l : There TableOp (List Answer) A} {f : A → There Q W B} {g : A → There TableOp (List Answer) B} → AlikeThere A r l → ((a : A) → AlikeThere B (f a) (g a)) → AlikeThere B (r >>= f) (l >>= g)
  then_there h k = bind Q W ask V h k

  pub came_there : {A : Type 0} (x : Result A Thrown) → AlikeThere A (came_to x) (came_to x)
  came_there x = came_alike Q W ask V x

  pure_there : (A : Type 0) (a : A) → AlikeThere A (pure a) (pure a)
  pure_there A a = pure_alike Q W ask V A a

  -- ---- effects

  pub turn_alike : AlikeThere (Unit {0}) turn turn
  turn_alike = record { at = λ s. choose (Unit {0}) (nat_lt s.turns max_turns) _ _ s _ _ (quiet (Unit {0}) s.world s.operations _ _ (λ more. refl)) (quiet (Unit {0}) s.world s.operations _ _ (λ more. refl)) }

  -- ---- acts

  -- an act touches the heap and the prints alone
  ended_alike : (s : Shared W) (a : Acted) (l : Landed) (v : Applied) → OutcomeThere Value (ended v (left s a l)) s (λ x. ended v (left (with_world s x) a l))
  ended_alike s a l (Ok v) = quiet Value s.world s.operations _ _ (λ more. refl)
  ended_alike s a l (Err t) = quiet Value s.world s.operations _ _ (λ more. refl)

  pub does_alike : (firsts : Firsts) (act : Act) → AlikeThere Value (does firsts act) (does firsts act)
  does_alike firsts act = record { at = λ s. let a = acted firsts act s.heap in let l = landed s.prints a.ends in ended_alike s a l l.value }

  acts_alike : (act : Act) → AlikeThere Value (acts act) (acts act)
  acts_alike act = does_alike (first_cells no_object) act

  only_alike : (act : Act) → AlikeThere (Unit {0}) (only_acts act) (only_acts act)
  only_alike act = then_there (acts_alike act) (λ v. pure_there (Unit {0}) tt)

  -- ---- effects

  pub print_alike : (v : Value) → AlikeThere (Unit {0}) (print_line v) (print_line v)
  print_alike v = only_alike (cells.print_line v)

  pub get_alike : (v : Value) (place : ℕ) → AlikeThere Value (get_field v place) (get_field v place)
  get_alike v place = acts_alike (cells.get_field v place)

  pub put_alike : (o : Value) (place : ℕ) (v : Value) → AlikeThere (Unit {0}) (put_field o place v) (put_field o place v)
  put_alike o place v = only_alike (cells.put_field o place v)

  pub array_length_alike : (v : Value) → AlikeThere Value (array_length v) (array_length v)
  array_length_alike v = acts_alike (cells.array_length v)

  pub load_alike : (v index : Value) → AlikeThere Value (load v index) (load v index)
  load_alike v index = acts_alike (cells.load v index)

  pub store_alike : (o index v : Value) → AlikeThere (Unit {0}) (store o index v) (store o index v)
  store_alike o index v = only_alike (cells.store o index v)

  pub object_alike : (class site : ℕ) (fields : List Ty) → AlikeThere Value (new_object class site fields) (new_object class site fields)
  object_alike class site fields = does_alike (first_cells (fresh_with fields)) (cells.make_object (fresh_with fields) class site)

  pub array_alike : (site : ℕ) (t : Ty) (size : Value) → AlikeThere Value (new_array site t size) (new_array site t size)
  array_alike site (ty.Array element) size = acts_alike (cells.make_array (element_number element) site size)
  array_alike site ty.Unknown size = pure_there Value Null
  array_alike site ty.Void size = pure_there Value Null
  array_alike site ty.Null size = pure_there Value Null
  array_alike site ty.Int size = pure_there Value Null
  array_alike site ty.Long size = pure_there Value Null
  array_alike site ty.Boolean size = pure_there Value Null
  array_alike site ty.Text size = pure_there Value Null
  array_alike site (ty.Object class) size = pure_there Value Null
  array_alike site ty.ResultSet size = pure_there Value Null

  pub next_alike : (F : Facts) (v : Value) → AlikeThere Value (next F v) (next F v)
  next_alike F v = acts_alike (rows.next (statements_of F) v)

  pub long_alike : (F : Facts) (v index : Value) → AlikeThere Value (get_long F v index) (get_long F v index)
  long_alike F v index = acts_alike (rows.get_column (statements_of F) rows.long_in v index)

  pub string_alike : (F : Facts) (v index : Value) → AlikeThere Value (get_string F v index) (get_string F v index)
  string_alike F v index = acts_alike (rows.get_column (statements_of F) rows.text_in v index)

  -- ---- operations

  module _ (never : NeverThrows Q W ask) where
    one_more : (n : ℕ) → nat_lt n max_operations ≡ true → n + 1 ≤ 100
    one_more n h = let l = ltb-true n 100 h in omega (arith, l)

    abbrev answers : {R V : Type 0} → Answer → There R V Said
    answers a = pure (Answers a)

    told_one : (s : Shared W) (o : TableOp) (b : Outcome Q W Answer) → ask o s.world ≡ b → nat_lt s.operations max_operations ≡ true
        → OutcomeThere Said (then_run (in_world (counted s) b) answers) s (λ x. then_run (in_world (with_world (counted s) x) (by_list o x)) answers)
    told_one s o (Gives a w) e l = record {
      operations = o ∷ [];
      answers = a ∷ [];
      told = (w, e, refl);
      asked = ((with_world (counted s) [], refl), tt);
      reached = λ more. refl;
      counted = omega (arith);
      few = λ k. one_more s.operations l;
    }
    told_one s o (Throws t w) e l = absurd (never o s.world w t e)
    told_one s o (Asks q w) e l = record {
      operations = [];
      answers = [];
      mid = s.world;
      operation = o;
      told = refl;
      asked = tt;
      untold = e;
      stops = refl;
      counted = omega (arith);
      few = λ k. one_more s.operations l;
    }

    told_or_out : (s : Shared W) (o : TableOp) (b : Bool) → nat_lt s.operations max_operations ≡ b
        → OutcomeThere Said (if b then then_run (in_world (counted s) (ask o s.world)) answers else Gives Out s) s (λ x. if b then then_run (in_world (with_world (counted s) x) (by_list o x)) answers else Gives Out (with_world s x))
    told_or_out s o true e = told_one s o (ask o s.world) refl e
    told_or_out s o false e = quiet Said s.world s.operations _ _ (λ more. refl)

    told_alike : (o : TableOp) → AlikeThere Said (told ask o) (told by_list o)
    told_alike o = record { at = λ s. told_or_out s o (nat_lt s.operations max_operations) refl }

    pub works_alike : (firsts : Firsts) (w : Work) (f : Answer → Act) → AlikeThere Value (works firsts ask w f) (works firsts by_list w f)
    works_alike firsts (Acts act) f = does_alike firsts act
    works_alike firsts (Operates o) f = then_there (told_alike o) (λ said. does_alike firsts (with_said f said))

    pub query_alike : (number site : ℕ) (o : Option Operation) (values : List Value) → AlikeThere Value (query ask number site o values) (query by_list number site o values)
    query_alike number site o values = works_alike (first_cells no_object) (operation number (statement_in o) values) (rows.make_rows number site)

    pub update_alike : (number : ℕ) (o : Option Operation) (values : List Value) → AlikeThere Value (update ask number o values) (update by_list number o values)
    update_alike number o values = works_alike (first_cells no_object) (operation number (statement_in o) values) rows.changed
