-- Acts that make no object of a class are the same in all programs.
use Rattle.std.proofs.Common.{◌≡◌, ℕ, suc, List, [], ◌∷◌, ◌++◌, length, Option, Some, None, Result, Ok, Err, refl, sym, ap, ◌∙◌}
use Rattle.px_value.specs.declared.value.Value.{Value}
use Rattle.px_value.specs.declared.thrown.Thrown.{Thrown}
use Rattle.px_value.specs.declared.header.Header.{Header}
use Rattle.px_value.specs.declared.object.Object.{Object}
use Rattle.px_value.specs.declared.statement.Statement.{Statement}
use Rattle.px_value.specs.declared.answer.Answer.{Answer}
use Rattle.px_value.specs.declared.answer.Answer.TheVariants.{Rows, Count, Refused}
use Rattle.px_value.specs.Outcome.{Outcome, Gives, Throws, Asks, then_run}
use Rattle.px_effects.specs.Run.{Shared, Ask}
use Rattle.px_effects.specs.Act.{Act, Comes, Prints, Reads, Writes, Looks, Makes, Firsts, Acted, value_at, header_at, has_no_room, unless_full, also_read, also_wrote, acted, settled, does}
use Rattle.px_effects.specs.Cells.{Fresh, first_cells, reference, or_throws, place_of, length_in, array_size, get_field, put_field, array_length, load, store, make_object, make_array}
use Rattle.px_effects.specs.Rows.{Statements, next, get_column, cell_in, standing, width_at, all_written, make_rows, changed}
use Rattle.px_effects.specs.Operations.{Work, Acts, Operates, operation, operates_on, sent, told, with_said, works, Said, Answers, Out}
use Rattle.px_mean.specs.Effects.{no_object}

-- the same first cells wherever it makes an object
abbrev pub MakesSame : Firsts → Firsts → Act → Type 0
MakesSame f g (Comes a) = Unit {0}
MakesSame f g (Prints line) = Unit {0}
MakesSame f g (Reads o i k) = (v : Value) → MakesSame f g (k v)
MakesSame f g (Writes o i v k) = MakesSame f g k
MakesSame f g (Looks o k) = (h : Option Header) → MakesSame f g (k h)
MakesSame f g (Makes h k) = (f h ≡ g h) × ((n : ℕ) → MakesSame f g (k n))

module _ (f g : Firsts) where
  acted_same : (a : Act) (heap : List Object) → MakesSame f g a → acted f a heap ≡ acted g a heap
  acted_same (Comes a) heap h = refl
  acted_same (Prints line) heap h = refl
  acted_same (Reads o i k) heap h = ap (also_read (record { object = o; index = i })) (acted_same (k (value_at heap o i)) heap (h (value_at heap o i)))
  acted_same (Writes o i v k) heap h = ap (also_wrote _ (record { object = o; index = i })) (acted_same k _ h)
  acted_same (Looks o k) heap h = acted_same (k (header_at heap o)) heap (h (header_at heap o))
  acted_same (Makes hd k) heap h = ap (λ (a : Acted). unless_full (has_no_room hd.kind hd.length heap) a heap) (ap (λ (cells : List Value). acted f (k (length heap)) (heap ++ record { header = hd; cells = cells } ∷ [])) h.0 ∙ acted_same (k (length heap)) (heap ++ record { header = hd; cells = g hd } ∷ []) (h.1 (length heap)))

  pub does_same : {Q W : Type 0} (a : Act) (s : Shared W) → MakesSame f g a → does {Q = Q} {W = W} f a s ≡ does g a s
  does_same {Q = Q} {W = W} a s h = ap (settled {Q = Q} {W = W} s) (acted_same a s.heap h)

module _ (fresh : Fresh) where
  -- none of a class
  abbrev pub Plain : Act → Type 0
  Plain a = MakesSame (first_cells no_object) (first_cells fresh) a

  pub plain_or : {A : Type 0} (r : Result A Thrown) (k : A → Act) → ((a : A) → Plain (k a)) → Plain (or_throws r k)
  plain_or (Ok a) k h = h a
  plain_or (Err t) k h = tt

  pub plain_get : (of : Value) (place : ℕ) → Plain (get_field of place)
  plain_get of place = plain_or (reference of) _ (λ o v. tt)

  pub plain_put : (of : Value) (place : ℕ) (v : Value) → Plain (put_field of place v)
  plain_put of place v = plain_or (reference of) _ (λ o. tt)

  pub plain_length : (of : Value) → Plain (array_length of)
  plain_length of = plain_or (reference of) _ (λ o h. tt)

  pub plain_load : (of index : Value) → Plain (load of index)
  plain_load of index = plain_or (reference of) _ (λ o h. plain_or (place_of index (length_in h)) _ (λ p v. tt))

  pub plain_store : (of index v : Value) → Plain (store of index v)
  plain_store of index v = plain_or (reference of) _ (λ o h. plain_or (place_of index (length_in h)) _ (λ p. tt))

  pub plain_array : (element site : ℕ) (size : Value) → Plain (make_array element site size)
  plain_array element site size = plain_or (array_size size) _ (λ n. (refl, λ o. tt))

  pub plain_next : (statements : Statements) (of : Value) → Plain (next statements of)
  plain_next statements of = plain_or (reference of) _ (λ o h v. tt)

  pub plain_column : (statements : Statements) (wanted : Value → Result Value Thrown) (of index : Value) → Plain (get_column statements wanted of index)
  plain_column statements wanted of index = plain_or (reference of) _ (λ o h v. plain_or (cell_in (standing (width_at statements h) (length_in h) v) index) _ (λ i x. tt))

  plain_written : (object index : ℕ) (vs : List Value) (after : Act) → Plain after → Plain (all_written object index vs after)
  plain_written object index [] after h = h
  plain_written object index (v ∷ vs) after h = plain_written object (suc index) vs after h

  pub plain_rows : (number site : ℕ) (answer : Answer) → Plain (make_rows number site answer)
  plain_rows number site (Rows width cells) = (refl, λ o. plain_written o 1 cells _ tt)
  plain_rows number site (Count n) = tt
  plain_rows number site Refused = tt

  pub plain_changed : (answer : Answer) → Plain (changed answer)
  plain_changed (Rows width cells) = tt
  plain_changed (Count n) = tt
  plain_changed Refused = tt

  -- ---- operations

  abbrev PlainWork : Work → Type 0
  PlainWork (Acts a) = Plain a
  PlainWork (Operates o) = Unit {0}

  plain_operates : (number : ℕ) (s : Statement) (r : Result (List Value) Thrown) → PlainWork (operates_on number s r)
  plain_operates number s (Ok params) = tt
  plain_operates number s (Err t) = tt

  plain_operation : (number : ℕ) (s : Option Statement) (values : List Value) → PlainWork (operation number s values)
  plain_operation number None values = tt
  plain_operation number (Some s) values = plain_operates number s (sent values)

  plain_said : (f : Answer → Act) (said : Said) → ((x : Answer) → Plain (f x)) → Plain (with_said f said)
  plain_said f (Answers x) h = h x
  plain_said f Out h = tt

  module _ (Q W : Type 0) (ask : Ask Q W) where
    said_same : (o : Outcome Q (Shared W) Said) (f : Answer → Act) → ((x : Answer) → Plain (f x)) → then_run o (λ said. does (first_cells no_object) (with_said f said)) ≡ then_run o (λ said. does (first_cells fresh) (with_said f said))
    said_same (Gives said s) f h = does_same (first_cells no_object) (first_cells fresh) (with_said f said) s (plain_said f said h)
    said_same (Throws t s) f h = refl
    said_same (Asks q s) f h = refl

    works_same : (w : Work) (f : Answer → Act) (s : Shared W) → PlainWork w → ((x : Answer) → Plain (f x)) → works (first_cells no_object) ask w f s ≡ works (first_cells fresh) ask w f s
    works_same (Acts a) f s p h = does_same (first_cells no_object) (first_cells fresh) a s p
    works_same (Operates o) f s p h = said_same (told ask o s) f h

    pub query_same : (number site : ℕ) (o : Option Statement) (values : List Value) (s : Shared W) → works (first_cells no_object) ask (operation number o values) (make_rows number site) s ≡ works (first_cells fresh) ask (operation number o values) (make_rows number site) s
    query_same number site o values s = works_same (operation number o values) (make_rows number site) s (plain_operation number o values) (plain_rows number site)

    pub update_same : (number : ℕ) (o : Option Statement) (values : List Value) (s : Shared W) → works (first_cells no_object) ask (operation number o values) changed s ≡ works (first_cells fresh) ask (operation number o values) changed s
    update_same number o values s = works_same (operation number o values) changed s (plain_operation number o values) plain_changed

  -- an object of a class
  pub object_same : {Q W : Type 0} (class site : ℕ) (cells : List Value) (s : Shared W) → fresh class ≡ cells → does {Q = Q} {W = W} (first_cells (λ other. cells)) (make_object (λ other. cells) class site) s ≡ does (first_cells fresh) (make_object fresh class site) s
  object_same {Q = Q} {W = W} class site cells s h = ap (λ (xs : List Value). does {Q = Q} {W = W} (first_cells (λ other. xs)) (make_object (λ other. xs) class site) s) (sym h)
