-- What nodes are called in texts: a statement by its word.
use Rattle.std.specs.Prelude.{ℕ, zero, suc, List, [], ◌∷◌, map, Option, Some, None, slice_set, codes}
use Rattle.px_code.specs.declared.side.Side.{Side}
use Rattle.px_code.specs.declared.side.Side.TheVariants.{App}
use Rattle.px_normal.specs.declared.word.Word.{Word}
use Rattle.px_normal.specs.declared.word.Word.TheVariants as w
use Rattle.px_normal.specs.declared.node.Node.{Node}
use Rattle.px_normal.specs.declared.node.NodeKind.{NodeKind}
use Rattle.px_normal.specs.declared.node.NodeKind.TheVariants as kind
use Rattle.px_normal.specs.declared.method.Tree.{Tree, Tree-F, fold-Tree}
use Rattle.px_normal.specs.declared.method.Tree.TheOpen.{Tree-F as t}
use Rattle.px_normal.specs.declared.method.Method.{Method}
use Rattle.px_normal.specs.declared.code.Code.{Code}
use Rattle.px_partition.specs.declared.words.NodeWord.{NodeWord}
use Rattle.px_partition.specs.declared.words.NodeWord.TheVariants as word

abbrev pub name : NodeWord → List ℕ
name word.Method = codes "method"
name word.Field = codes "field"
name word.Site = codes "site"
name word.Set = codes "set"
name word.Op = codes "op"
name word.Get = codes "get"
name word.Put = codes "put"
name word.Load = codes "load"
name word.Store = codes "store"
name word.Len = codes "len"
name word.New = codes "new"
name word.Array = codes "array"
name word.Call = codes "call"
name word.Query = codes "query"
name word.Update = codes "update"
name word.Next = codes "next"
name word.Long = codes "long"
name word.Text = codes "text"
name word.Print = codes "print"
name word.Return = codes "return"
name word.If = codes "if"
name word.Test = codes "test"

abbrev pub word_of : Word → NodeWord
word_of (w.Set to a) = word.Set
word_of (w.Op op to a b) = word.Op
word_of (w.Get to of class field) = word.Get
word_of (w.Put of class field a) = word.Put
word_of (w.Load to of index) = word.Load
word_of (w.Store of index a) = word.Store
word_of (w.Len to of) = word.Len
word_of (w.New to class site) = word.New
word_of (w.Array to element size site) = word.Array
word_of (w.Call to of method args) = word.Call
word_of (w.Query to number site params) = word.Query
word_of (w.Update to number params) = word.Update
word_of (w.Next to of) = word.Next
word_of (w.Long to of column) = word.Long
word_of (w.Text to of column) = word.Text
word_of (w.Print a) = word.Print
word_of (w.Return a) = word.Return

abbrev pub word_by_kind : NodeKind → Option NodeWord
word_by_kind kind.Method = Some word.Method
word_by_kind kind.Field = Some word.Field
word_by_kind kind.Site = Some word.Site
word_by_kind kind.Normal = None

abbrev pub word_of_kind : Node → Option NodeWord
word_of_kind node = word_by_kind node.kind

-- the words of nodes, by number from 1
abbrev pub Words : Type 0
Words = List (Option NodeWord)

-- the words, but a node's
abbrev pub with_word : ℕ → NodeWord → Words → Words
with_word zero x words = words
with_word (suc place) x words = slice_set words place (Some x)

abbrev pub one_by_one : List (Words → Words) → Words → Words
one_by_one [] words = words
one_by_one (f ∷ fs) words = one_by_one fs (f words)

abbrev pub with_step : Tree-F (Words → Words) → Words → Words
with_step (t.Do node x) = λ words. with_word node (word_of x) words
with_step (t.If node a yes' no') = λ words. one_by_one no' (one_by_one yes' (with_word node word.If words))
with_step (t.Loop before node a body) = λ words. one_by_one body (one_by_one before (with_word node word.Test words))

-- with those of a tree's statements
unfoldable pub with_tree : Tree → Words → Words
with_tree = fold-Tree (Words → Words) with_step

abbrev pub with_trees : List Tree → Words → Words
with_trees trees words = one_by_one (map with_tree trees) words

abbrev pub with_methods : List Method → Words → Words
with_methods [] words = words
with_methods (m ∷ ms) words = with_methods ms (with_trees m.body words)

abbrev pub words_of : Code → Words
words_of code = with_methods code.methods (map word_of_kind code.nodes)

abbrev pub pin_of : Option NodeWord → Option Side
pin_of (Some word.Print) = Some App
pin_of _ = None

-- prints are at APP
abbrev pub print_pins : Words → List (Option Side)
print_pins words = map pin_of words
