-- Code of the whole language as two ends take it: everything in its place, and by the same numbers.
use Rattle.std.specs.Prelude.{[], map, None, option_map}
use Rattle.px_value.specs.declared.ty.Ty.{Ty as Outer}
use Rattle.px_value.specs.declared.ty.Ty.TheVariants as outer
use Rattle.px_normal.specs.declared.ty.Ty.{Ty}
use Rattle.px_normal.specs.declared.ty.Ty.TheVariants as ty
use Rattle.px_normal.specs.declared.word.Operand.{Operand}
use Rattle.px_normal.specs.declared.word.Operand.TheVariants.{Slot, Literal}
use Rattle.px_normal.specs.declared.word.Word.{Word}
use Rattle.px_normal.specs.declared.word.Word.TheVariants as w
use Rattle.px_normal.specs.declared.class.Class.{Class}
use Rattle.px_normal.specs.declared.class.Field.{Field}
use Rattle.px_normal.specs.declared.method.Method.{Method}
use Rattle.px_normal.specs.declared.method.Tree.{Tree, Tree-F, fold-Tree}
use Rattle.px_normal.specs.declared.method.Tree.TheOpen.{Tree-F as t}
use Rattle.px_normal.specs.declared.node.Counter.{Counter}
use Rattle.px_normal.specs.declared.node.Counter.TheVariants as counter
use Rattle.px_normal.specs.declared.node.Node.{Node}
use Rattle.px_normal.specs.declared.node.NodeKind.{NodeKind}
use Rattle.px_normal.specs.declared.node.NodeKind.TheVariants as node
use Rattle.px_normal.specs.declared.code.Code.{Code}
use Rattle.px_code.specs.declared.word.Operand.{Operand as SimpleOperand}
use Rattle.px_code.specs.declared.word.Operand.TheVariants as operand
use Rattle.px_code.specs.declared.word.Word.{Word as SimpleWord}
use Rattle.px_code.specs.declared.word.Word.TheVariants as word
use Rattle.px_code.specs.declared.class.Class.{Class as SimpleClass}
use Rattle.px_code.specs.declared.class.Field.{Field as SimpleField}
use Rattle.px_code.specs.declared.method.Method.{Method as SimpleMethod}
use Rattle.px_code.specs.declared.method.Tree.{Tree as SimpleTree}
use Rattle.px_code.specs.declared.method.Tree.TheVariants.{Do}
use Rattle.px_code.specs.declared.node.Counter.{Counter as SimpleCounter}
use Rattle.px_code.specs.declared.node.Counter.TheVariants as simple_counter
use Rattle.px_code.specs.declared.node.Node.{Node as SimpleNode}
use Rattle.px_code.specs.declared.node.NodeKind.{NodeKind as SimpleKind}
use Rattle.px_code.specs.declared.node.NodeKind.TheVariants as simple_node
use Rattle.px_code.specs.declared.code.Code.{Code as SimpleCode}

-- all references have one type
abbrev pub simple_type : Ty → Outer
simple_type ty.Int = outer.Int
simple_type ty.Long = outer.Long
simple_type ty.Bool = outer.Bool
simple_type ty.Text = outer.Text
simple_type _ = outer.Ref

-- ---- statements

abbrev pub simple_operand : Operand → SimpleOperand
simple_operand (Slot slot) = operand.Slot slot
simple_operand (Literal v) = operand.Literal v

-- no other word is taken
abbrev pub simple_word : Word → SimpleWord
simple_word (w.Set to a) = word.Set to (simple_operand a)
simple_word (w.Op op to a b) = word.Op op to (simple_operand a) (option_map simple_operand b)
simple_word (w.Get to of class field) = word.Get to (simple_operand of) class field
simple_word (w.Put of class field a) = word.Put (simple_operand of) class field (simple_operand a)
simple_word (w.Return a) = word.Return (option_map simple_operand a)
simple_word _ = word.Return None

-- neither is an `if` or a loop
abbrev pub simple_step : Tree-F SimpleTree → SimpleTree
simple_step (t.Do node word) = Do node (simple_word word)
simple_step (t.If node test yes' no') = Do node (word.Return None)
simple_step (t.Loop first node test body) = Do node (word.Return None)

unfoldable pub simple_tree : Tree → SimpleTree
simple_tree = fold-Tree SimpleTree simple_step

abbrev pub simple_method : Method → SimpleMethod
simple_method m = record { class = m.class; name = m.name; node = m.node; entry = m.entry; params = m.params; gives = option_map simple_type m.gives; slots = map simple_type m.slots; body = map simple_tree m.body }

-- ---- classes and nodes

abbrev pub simple_field : Field → SimpleField
simple_field f = record { name = f.name; ty = simple_type f.ty; node = f.node }

abbrev pub simple_class : Class → SimpleClass
simple_class c = record { name = c.name; fields = map simple_field c.fields }

abbrev pub simple_kind : NodeKind → SimpleKind
simple_kind node.Method = simple_node.Method
simple_kind node.Normal = simple_node.Normal
simple_kind node.Field = simple_node.Field
simple_kind node.Site = simple_node.Site

abbrev pub simple_counter_of : Counter → SimpleCounter
simple_counter_of (counter.Begun n) = simple_counter.Begun n
simple_counter_of (counter.Completed n) = simple_counter.Completed n
simple_counter_of (counter.Entered n) = simple_counter.Entered n
simple_counter_of (counter.ReachedEnd n) = simple_counter.ReachedEnd n

abbrev pub simple_node_of : Node → SimpleNode
simple_node_of n = record { kind = simple_kind n.kind; line = n.line; method = n.method; counter = option_map simple_counter_of n.counter }

-- ---- code

-- What is taken allocates nothing, so no site is kept; a site's node is.
abbrev pub simple_code : Code → SimpleCode
simple_code code = record { main = code.main; classes = map simple_class code.classes; methods = map simple_method code.methods; sites = []; nodes = map simple_node_of code.nodes }
