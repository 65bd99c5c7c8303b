-- Reading a whole line.
use Rattle.std.specs.Prelude.{ℕ, List, codes, Option, Some, None, if◌then◌else◌}
use Rattle.std.specs.Str.{bytes_eq}
use Rattle.px_blocks.specs.declared.side.Side.{Side}
use Rattle.px_blocks.specs.declared.block.SendKind.{SendKind}
use Rattle.px_blocks.specs.declared.block.SendKind.TheVariants as kind
use Rattle.px_pyxil.specs.declared.tree.At.{At}
use Rattle.px_pyxil.specs.declared.line.Line.{Line}
use Rattle.px_pyxil.specs.declared.line.Line.TheVariants as line
use Rattle.px_pyxil_reader.specs.declared.verbs.Opening.{Opening}
use Rattle.px_pyxil_reader.specs.declared.verbs.Opening.TheVariants as opening
use Rattle.px_pyxil_reader.specs.Reading.{◌>>=◌, cut_at, end_at, word_at, u32_of, u16_at, u32_at, side_at, member_at, operand_of, verb_of}
use Rattle.px_pyxil_reader.specs.Statements.{word_behind}

unfoldable pub opening_of : List ℕ → Opening
opening_of word =
    if bytes_eq word (codes "field") then opening.Field else
    if bytes_eq word (codes "site") then opening.Site else
    if bytes_eq word (codes "method") then opening.Method else
    if bytes_eq word (codes "sendAPP") then opening.Send kind.App else
    if bytes_eq word (codes "sendDB") then opening.Send kind.Db else
    if bytes_eq word (codes "sendNative") then opening.Send kind.Native else
    if bytes_eq word (codes "else") then opening.Else else
    if bytes_eq word (codes "loop") then opening.Loop else
    if bytes_eq word (codes "end") then opening.End else opening.Node

unfoldable pub field_of : List ℕ → Option Line
field_of bytes = do
  field ← member_at bytes
  side ← side_at field.1
  _ ← end_at side.1
  Some (line.Field (record { field = field.0; side = side.0 }))

unfoldable pub site_of : List ℕ → Option Line
site_of bytes = do
  number ← u16_at bytes
  side ← side_at number.1
  _ ← end_at side.1
  Some (line.Site (record { number = number.0; side = side.0 }))

unfoldable pub method_of : List ℕ → Option Line
method_of bytes = do
  node ← u32_at bytes
  side ← side_at node.1
  method ← member_at side.1
  slots ← u32_at method.1
  _ ← end_at slots.1
  Some (line.Method (record { at = record { node = node.0; side = side.0 }; method = method.0; slots = slots.0 }))

unfoldable pub send_of : SendKind → List ℕ → Option Line
send_of kind bytes = do
  object ← operand_of bytes
  Some (line.Send (record { kind = kind; object = object }))

unfoldable pub if_of : At → List ℕ → Option Line
if_of at bytes = do
  test ← operand_of bytes
  Some (line.If at test)

unfoldable pub test_of : At → List ℕ → Option Line
test_of at bytes = do
  test ← operand_of bytes
  Some (line.Test at test)

unfoldable pub do_of : At → List ℕ → List ℕ → Option Line
do_of at word bytes = do
  verb ← verb_of word
  statement ← word_behind verb bytes
  Some (line.Do at statement)

abbrev pub placed_by : At → List ℕ → List ℕ → Option Line
placed_by at word bytes =
    if bytes_eq word (codes "if") then if_of at bytes else
    if bytes_eq word (codes "test") then test_of at bytes else do_of at word bytes

-- a line that begins with a node
unfoldable pub node_of : List ℕ → List ℕ → Option Line
node_of first bytes = do
  node ← u32_of first
  side ← side_at bytes
  word ← word_at side.1
  placed_by (record { node = node; side = side.0 }) word.0 word.1

abbrev pub bare : Line → List ℕ → Option Line
bare line bytes = end_at bytes >>= λ _. Some line

abbrev pub opened : Opening → List ℕ → List ℕ → Option Line
opened opening.Field first bytes = field_of bytes
opened opening.Site first bytes = site_of bytes
opened opening.Method first bytes = method_of bytes
opened (opening.Send kind) first bytes = send_of kind bytes
opened opening.Else first bytes = bare line.Else bytes
opened opening.Loop first bytes = bare line.Loop bytes
opened opening.End first bytes = bare line.End bytes
opened opening.Node first bytes = node_of first bytes

-- the line that is spelled so
unfoldable pub line_of : List ℕ → Option Line
line_of bytes = opened (opening_of (cut_at 32 bytes).0) (cut_at 32 bytes).0 (cut_at 32 bytes).1
