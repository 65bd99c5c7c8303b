-- Placed code with its names: what its text shows.
use Rattle.std.specs.Prelude.{ℕ, zero, suc, List, [], ◌∷◌, ◌++◌, length, map, Option, Some, None, slice_get}
use Rattle.std.specs.List.{flat_map}
use Rattle.px_normal.specs.declared.word.Word.{Word}
use Rattle.px_normal.specs.declared.word.Word.TheVariants as w
use Rattle.px_normal.specs.declared.class.Class.{Class}
use Rattle.px_normal.specs.declared.class.Field.{Field}
use Rattle.px_normal.specs.declared.method.Method.{Method}
use Rattle.px_normal.specs.declared.method.Tree.{Tree, Tree-F, fold-Tree}
use Rattle.px_normal.specs.declared.method.Tree.TheOpen.{Tree-F as t}
use Rattle.px_normal.specs.declared.code.Site.{Site}
use Rattle.px_normal.specs.declared.code.Code.{Code}
use Rattle.px_normal.specs.First.{numbered, fields_of}
use Rattle.px_blocks.specs.declared.side.Side.{Side}
use Rattle.px_blocks.specs.declared.placed.Placed.{Placed}
use Rattle.px_blocks.specs.Rules.{side_of, send_of}
use Rattle.px_pyxil.specs.declared.names.Member.{Member}
use Rattle.px_pyxil.specs.declared.names.Element.{Element}
use Rattle.px_pyxil.specs.declared.names.Element.TheVariants as element
use Rattle.px_pyxil.specs.declared.word.Word.{Word as NamedWord}
use Rattle.px_pyxil.specs.declared.word.Word.TheVariants as n
use Rattle.px_pyxil.specs.declared.tree.At.{At}
use Rattle.px_pyxil.specs.declared.tree.Field.{Field as PlacedField}
use Rattle.px_pyxil.specs.declared.tree.Site.{Site as PlacedSite}
use Rattle.px_pyxil.specs.declared.tree.Head.{Head}
use Rattle.px_pyxil.specs.declared.tree.Tree.{Tree as NamedTree}
use Rattle.px_pyxil.specs.declared.tree.Tree.TheVariants.{Do, If, Loop}
use Rattle.px_pyxil.specs.declared.tree.Method.{Method as NamedMethod}
use Rattle.px_pyxil.specs.declared.tree.Pyxil.{Pyxil}

-- ---- names; a number that isn't there, which no typed code has, gives an empty one

abbrev pub name_in : Option Class → List ℕ
name_in None = []
name_in (Some class) = class.name

abbrev pub class_name : Code → ℕ → List ℕ
class_name code class = name_in (slice_get code.classes class)

abbrev pub field_name_in : Option Field → List ℕ
field_name_in None = []
field_name_in (Some field) = field.name

abbrev pub field_name : Code → ℕ → ℕ → List ℕ
field_name code class field = field_name_in (slice_get (fields_of code class) field)

-- a field by its class and its place there
abbrev pub field_named : Code → ℕ → ℕ → Member
field_named code class field = record { class = class_name code class; name = field_name code class field }

abbrev pub member_of : Code → Method → Member
member_of code method = record { class = class_name code method.class; name = method.name }

abbrev pub no_member : Member
no_member = record { class = []; name = [] }

abbrev pub method_in : Code → Option Method → Member
method_in code None = no_member
method_in code (Some method) = member_of code method

abbrev pub method_named : Code → ℕ → Member
method_named code method = method_in code (numbered code.methods method)

-- the type of elements that goes by a number
abbrev pub element_named : Code → ℕ → Element
element_named code zero = element.Int
element_named code (suc zero) = element.Long
element_named code (suc (suc zero)) = element.Bool
element_named code (suc (suc (suc zero))) = element.Text
element_named code (suc (suc (suc (suc class)))) = element.Object (class_name code class)

-- ---- statements

abbrev pub named_word : Code → Word → NamedWord
named_word code (w.Set to a) = n.Set to a
named_word code (w.Op op to a b) = n.Op op to a b
named_word code (w.Get to of class field) = n.Get to of (field_named code class field)
named_word code (w.Put of class field a) = n.Put of (field_named code class field) a
named_word code (w.Load to of index) = n.Load to of index
named_word code (w.Store of index a) = n.Store of index a
named_word code (w.Len to of) = n.Len to of
named_word code (w.New to class site) = n.New to (class_name code class) site
named_word code (w.Array to element size site) = n.Array to (element_named code element) size site
named_word code (w.Call to of method args) = n.Call to of (method_named code method) args
named_word code (w.Query to statement site params) = n.Query to statement site params
named_word code (w.Update to statement params) = n.Update to statement params
named_word code (w.Next to of) = n.Next to of
named_word code (w.Long to of column) = n.Long to of column
named_word code (w.Text to of column) = n.Text to of column
named_word code (w.Print a) = n.Print a
named_word code (w.Return a) = n.Return a

-- a node at its side
abbrev pub at_side : Placed → ℕ → At
at_side placed node = record { node = node; side = side_of placed.sides node }

abbrev pub named_step : Code → Placed → Tree-F NamedTree → NamedTree
named_step code placed (t.Do node word) = Do (at_side placed node) (named_word code word) (send_of placed.sends node)
named_step code placed (t.If node test yes' no') = If (at_side placed node) test yes' no'
named_step code placed (t.Loop first node test body) = Loop first (at_side placed node) test body

unfoldable pub named_tree : Code → Placed → Tree → NamedTree
named_tree code placed = fold-Tree NamedTree (named_step code placed)

abbrev pub named_trees : Code → Placed → List Tree → List NamedTree
named_trees code placed trees = map (named_tree code placed) trees

-- ---- methods, fields, sites

abbrev pub head_of : Code → Placed → Method → Head
head_of code placed method = record { at = at_side placed method.node; method = member_of code method; slots = length method.slots }

abbrev pub named_method : Code → Placed → Method → NamedMethod
named_method code placed method = record { head = head_of code placed method; body = named_trees code placed method.body }

abbrev pub placed_field : List Side → List ℕ → Field → PlacedField
placed_field sides class field = record { field = record { class = class; name = field.name }; side = side_of sides field.node }

abbrev pub placed_fields : List Side → Class → List PlacedField
placed_fields sides class = map (placed_field sides class.name) class.fields

-- objects have no node of their own
abbrev pub placed_site : List Side → ℕ → Option ℕ → List PlacedSite
placed_site sides number None = []
placed_site sides number (Some node) = record { number = number; side = side_of sides node } ∷ []

-- sites from a number on
abbrev pub sites_from : List Side → ℕ → List Site → List PlacedSite
sites_from sides number [] = []
sites_from sides number (site ∷ more) = placed_site sides number site.node ++ sites_from sides (suc number) more

-- ---- code

-- fields in the order of classes, the sites of arrays and rows, methods
unfoldable pub named : Code → Placed → Pyxil
named code placed = record { fields = flat_map (placed_fields placed.sides) code.classes; sites = sites_from placed.sides 1 code.sites; methods = map (named_method code placed) code.methods }
