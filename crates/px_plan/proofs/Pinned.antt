-- Prints are at APP exactly where there is no first one at DB.
use Rattle.std.proofs.Common.{◌≡◌, ℕ, zero, suc, List, [], ◌∷◌, Option, Some, None, slice_get, refl, sym, ap, ◌∙◌, if◌then◌else◌}
use Rattle.std.specs.List.{AllByRecursion}
use Rattle.std.proofs.lemmas.Option.{same_Some}
use Rattle.px_normal.specs.declared.word.Operand.{Operand}
use Rattle.px_normal.specs.declared.word.Word.{Word}
use Rattle.px_normal.specs.declared.word.Word.TheVariants as w
use Rattle.px_normal.specs.declared.method.Tree.{Tree}
use Rattle.px_normal.specs.declared.method.Tree.TheVariants.{Do}
use Rattle.px_normal.specs.declared.method.Method.{Method}
use Rattle.px_normal.specs.declared.code.Code.{Code}
use Rattle.px_normal.specs.First.{numbered}
use Rattle.px_flow_points.specs.Statements.{Stands, here, in_yes, in_no, in_first, in_body}
use Rattle.px_flow_points.proofs.Trees.{TreeCases, each_tree}
use Rattle.px_blocks.specs.declared.side.Side.{Side}
use Rattle.px_blocks.specs.declared.side.Side.TheVariants.{App, Db}
use Rattle.px_blocks.specs.Sides.{is_app}
use Rattle.px_blocks.specs.Rules.{side_of}
use Rattle.px_plan.specs.Prints.{print_at, or_else, first_in, first_among, first_in_methods, unpinned}
use Rattle.px_plan.specs.Law.{PrintsAtApp, PinnedExactly}
use Rattle.px_plan.proofs.PrintWalk.{of_do, of_if, of_loop}

or_first : (x y : Option ℕ) → or_else x y ≡ None → x ≡ None
or_first None y h = refl
or_first (Some n) y h = cc

or_second : (x y : Option ℕ) → or_else x y ≡ None → y ≡ None
or_second None y h = h
or_second (Some n) y h = cc

or_both : (x y : Option ℕ) → x ≡ None → y ≡ None → or_else x y ≡ None
or_both None y h k = k
or_both (Some n) y h k = cc

app_if : (side : Side) (node : ℕ) → (if is_app side then None else Some node) ≡ None → side ≡ App
app_if App node h = refl
app_if Db node h = cc

module _ (sides : List Side) where
  -- ---- no first one: each print is at APP

  module _ (node : ℕ) (a : Operand) where
    abbrev word : Word
    word = w.Print a

    list_none : (ts : List Tree) (j : ℕ) (x : Tree) → slice_get ts j ≡ Some x → first_among sides ts ≡ None → first_in sides x ≡ None
    list_none [] j x is h = cc
    list_none (y ∷ ts) zero x is h = ap (first_in sides) (sym (same_Some y x is)) ∙ or_first (first_in sides y) (first_among sides ts) h
    list_none (y ∷ ts) (suc j) x is h = list_none ts j x is (or_second (first_in sides y) (first_among sides ts) h)

    at_app : (x : Tree) → Stands node word x → first_in sides x ≡ None → side_of sides node ≡ App
    at_app x (here e) h = app_if (side_of sides node) node (sym (of_do sides node word) ∙ ap (first_in sides) (sym e) ∙ h)
    at_app x (in_yes n j b ys ns y e is s) h = at_app y s (list_none ys j y is (or_first (first_among sides ys) (first_among sides ns) (sym (of_if sides n b ys ns) ∙ ap (first_in sides) (sym e) ∙ h)))
    at_app x (in_no n j b ys ns y e is s) h = at_app y s (list_none ns j y is (or_second (first_among sides ys) (first_among sides ns) (sym (of_if sides n b ys ns) ∙ ap (first_in sides) (sym e) ∙ h)))
    at_app x (in_first n j b before body y e is s) h = at_app y s (list_none before j y is (or_first (first_among sides before) (first_among sides body) (sym (of_loop sides before n b body) ∙ ap (first_in sides) (sym e) ∙ h)))
    at_app x (in_body n j b before body y e is s) h = at_app y s (list_none body j y is (or_second (first_among sides before) (first_among sides body) (sym (of_loop sides before n b body) ∙ ap (first_in sides) (sym e) ∙ h)))

    methods_none : (ms : List Method) (j : ℕ) (method : Method) → slice_get ms j ≡ Some method → first_in_methods sides ms ≡ None → first_among sides method.body ≡ None
    methods_none [] j method is h = cc
    methods_none (m ∷ ms) zero method is h = ap (λ (z : Method). first_among sides z.body) (sym (same_Some m method is)) ∙ or_first (first_among sides m.body) (first_in_methods sides ms) h
    methods_none (m ∷ ms) (suc j) method is h = methods_none ms j method is (or_second (first_among sides m.body) (first_in_methods sides ms) h)

    method_none : (code : Code) (m : ℕ) (method : Method) → numbered code.methods m ≡ Some method → unpinned code sides ≡ None → first_among sides method.body ≡ None
    method_none code zero method is h = cc
    method_none code (suc j) method is h = methods_none code.methods j method is h

  pub to_app : (code : Code) → unpinned code sides ≡ None → PrintsAtApp code sides
  to_app code h m node a has = at_app node a has.tree has.stands (list_none node a has.method.body has.place has.tree has.at (method_none node a code m has.method has.is.is h))

  -- ---- each print is at APP: there is no first one

  abbrev AllAtApp : Tree → Type 0
  AllAtApp x = (node : ℕ) (a : Operand) → Stands node (w.Print a) x → side_of sides node ≡ App

  abbrev Goal : Tree → Type 0
  Goal x = AllAtApp x → first_in sides x ≡ None

  abbrev AllIn : List Tree → Type 0
  AllIn ts = (j : ℕ) (x : Tree) → slice_get ts j ≡ Some x → AllAtApp x

  list_back : (ts : List Tree) → AllByRecursion Goal ts → AllIn ts → first_among sides ts ≡ None
  list_back [] goals all = refl
  list_back (x ∷ ts) goals all = or_both (first_in sides x) (first_among sides ts) (goals.0 (all 0 x refl)) (list_back ts goals.1 (λ j y is. all (suc j) y is))

  word_back : (node : ℕ) (word : Word) → ((a : Operand) → word ≡ w.Print a → side_of sides node ≡ App) → print_at sides node word ≡ None
  word_back node (w.Print a) f = ap (λ (s : Side). if is_app s then None else Some node) (f a refl)
  word_back node (w.Set to a) f = refl
  word_back node (w.Op o to a b) f = refl
  word_back node (w.Get to of class field) f = refl
  word_back node (w.Put of class field a) f = refl
  word_back node (w.Load to of i) f = refl
  word_back node (w.Store of i a) f = refl
  word_back node (w.Len to of) f = refl
  word_back node (w.New to class site) f = refl
  word_back node (w.Array to element n site) f = refl
  word_back node (w.Call to of called args) f = refl
  word_back node (w.Query to number site params) f = refl
  word_back node (w.Update to number params) f = refl
  word_back node (w.Next to of) f = refl
  word_back node (w.Long to of column) f = refl
  word_back node (w.Text to of column) f = refl
  word_back node (w.Return a) f = refl

  cases : TreeCases Goal
  cases = record {
    on_do = λ node word all. of_do sides node word ∙ word_back node word (λ a e. all node a (here (ap (λ (z : Word). Do node z) e)));
    on_if = λ node a ys ns first rest all. of_if sides node a ys ns ∙ or_both (first_among sides ys) (first_among sides ns) (list_back ys first (λ j x is n b s. all n b (in_yes node j a ys ns x refl is s))) (list_back ns rest (λ j x is n b s. all n b (in_no node j a ys ns x refl is s)));
    on_loop = λ before node a body first rest all. of_loop sides before node a body ∙ or_both (first_among sides before) (first_among sides body) (list_back before first (λ j x is n b s. all n b (in_first node j a before body x refl is s))) (list_back body rest (λ j x is n b s. all n b (in_body node j a before body x refl is s)));
  }

  all_goals : (ts : List Tree) → AllByRecursion Goal ts
  all_goals [] = tt
  all_goals (x ∷ ts) = (each_tree Goal cases x, all_goals ts)

  methods_back : (ms : List Method) → ((j : ℕ) (method : Method) → slice_get ms j ≡ Some method → AllIn method.body) → first_in_methods sides ms ≡ None
  methods_back [] all = refl
  methods_back (m ∷ ms) all = or_both (first_among sides m.body) (first_in_methods sides ms) (list_back m.body (all_goals m.body) (all 0 m refl)) (methods_back ms (λ j method is. all (suc j) method is))

  pub to_none : (code : Code) → PrintsAtApp code sides → unpinned code sides ≡ None
  to_none code all = methods_back code.methods (λ j method is k x at node a s. all (suc j) node a (record { method = method; is = record { is = is }; place = k; tree = x; at = at; stands = s }))

pub pinned_exactly : PinnedExactly
pinned_exactly code sides = record { to = to_app sides code; back = to_none sides code }
