-- The text of each kind of tree.
use Rattle.std.proofs.Common.{◌≡◌, ℕ, List, [], ◌∷◌, ◌++◌, map, codes, Option, sym, ap, ◌∙◌}
use Rattle.std.specs.List.{flat_map}
use Rattle.std.proofs.lemmas.List.{append_assoc}
use Rattle.std.proofs.lemmas.Grind.{flat_map-append}
use Rattle.px_normal.specs.declared.word.Operand.{Operand}
use Rattle.px_blocks.specs.declared.block.Send.{Send}
use Rattle.px_pyxil.specs.declared.tree.At.{At}
use Rattle.px_pyxil.specs.declared.word.Word.{Word}
use Rattle.px_pyxil.specs.declared.tree.Tree.{Tree, Tree-F, roll-Tree, map-Tree, fold-roll-Tree}
use Rattle.px_pyxil.specs.declared.tree.Tree.TheVariants.{Do, If, Loop, rolls-Do, rolls-If, rolls-Loop}
use Rattle.px_pyxil.specs.declared.tree.Tree.TheOpen.{Tree-F as t}
use Rattle.px_pyxil.specs.declared.tree.Field.{Field}
use Rattle.px_pyxil.specs.declared.tree.Site.{Site}
use Rattle.px_pyxil.specs.declared.tree.Method.{Method}
use Rattle.px_pyxil.specs.declared.tree.Pyxil.{Pyxil}
use Rattle.px_pyxil.specs.declared.line.Line.{Line}
use Rattle.px_pyxil.specs.declared.line.Line.TheVariants as line
use Rattle.px_pyxil.specs.Lines.{send_lines, lines_step, lines_in, lines_in_all, method_lines}
use Rattle.px_pyxil.specs.Spelling.{line_text, text_of}

at_tree : (x : Tree-F Tree) → lines_in (roll-Tree x) ≡ lines_step (map-Tree Tree (List Line) lines_in x)
unfolding lines_in
at_tree x = fold-roll-Tree (List Line) lines_step x

pub lines_do : (at : At) (word : Word) (send : Option Send) → lines_in (Do at word send) ≡ line.Do at word ∷ send_lines send
lines_do at word send = ap lines_in (sym (rolls-Do at word send)) ∙ at_tree (t.Do at word send)

pub lines_if : (at : At) (test : Operand) (ys ns : List Tree) → lines_in (If at test ys ns) ≡ line.If at test ∷ (lines_in_all ys ++ line.Else ∷ (lines_in_all ns ++ line.End ∷ []))
lines_if at test ys ns = ap lines_in (sym (rolls-If at test ys ns)) ∙ at_tree (t.If at test ys ns)

pub lines_loop : (first : List Tree) (at : At) (test : Operand) (body : List Tree) → lines_in (Loop first at test body) ≡ line.Loop ∷ (lines_in_all first ++ line.Test at test ∷ (lines_in_all body ++ line.End ∷ []))
lines_loop first at test body = ap lines_in (sym (rolls-Loop first at test body)) ∙ at_tree (t.Loop first at test body)

abbrev texts : List Line → List ℕ
texts lines = flat_map line_text lines

do_text : (at : At) (word : Word) (send : Option Send) → texts (lines_in (Do at word send)) ≡ line_text (line.Do at word) ++ texts (send_lines send)
do_text at word send = ap texts (lines_do at word send)

-- two lists of lines, each with a line behind it
two : (xs ys : List Line) (a b : Line) → texts (xs ++ a ∷ (ys ++ b ∷ [])) ≡ texts xs ++ (line_text a ++ (texts ys ++ (line_text b ++ [])))
two xs ys a b = flat_map-append line_text xs (a ∷ (ys ++ b ∷ [])) ∙ ap (λ rest. texts xs ++ (line_text a ++ rest)) (flat_map-append line_text ys (b ∷ []))

if_text : (at : At) (test : Operand) (ys ns : List Tree) →
    texts (lines_in (If at test ys ns)) ≡ line_text (line.If at test) ++ (texts (lines_in_all ys) ++ (codes "else\n" ++ (texts (lines_in_all ns) ++ codes "end\n")))
if_text at test ys ns = ap texts (lines_if at test ys ns) ∙ ap (λ rest. line_text (line.If at test) ++ rest) (two (lines_in_all ys) (lines_in_all ns) line.Else line.End)

loop_text : (first : List Tree) (at : At) (test : Operand) (body : List Tree) →
    texts (lines_in (Loop first at test body)) ≡ codes "loop\n" ++ (texts (lines_in_all first) ++ (line_text (line.Test at test) ++ (texts (lines_in_all body) ++ codes "end\n")))
loop_text first at test body = ap texts (lines_loop first at test body) ∙ ap (λ rest. codes "loop\n" ++ rest) (two (lines_in_all first) (lines_in_all body) (line.Test at test) line.End)

-- five pieces behind a text
five : (t a b c d e : List ℕ) → ((((t ++ a) ++ b) ++ c) ++ d) ++ e ≡ t ++ (a ++ (b ++ (c ++ (d ++ e))))
five t a b c d e =
    append_assoc (((t ++ a) ++ b) ++ c) d e
    ∙ append_assoc ((t ++ a) ++ b) c (d ++ e)
    ∙ append_assoc (t ++ a) b (c ++ (d ++ e))
    ∙ append_assoc t a (b ++ (c ++ (d ++ e)))

five_ends : (t : List ℕ) {t1 t2 t3 t4 t5 : List ℕ} (a b c d e : List ℕ) → t1 ≡ t ++ a → t2 ≡ t1 ++ b → t3 ≡ t2 ++ c → t4 ≡ t3 ++ d → t5 ≡ t4 ++ e → t5 ≡ t ++ (a ++ (b ++ (c ++ (d ++ e))))
five_ends t a b c d e h1 h2 h3 h4 h5 =
    h5 ∙ ap (λ x. x ++ e) (h4 ∙ ap (λ x. x ++ d) (h3 ∙ ap (λ x. x ++ c) (h2 ∙ ap (λ x. x ++ b) h1))) ∙ five t a b c d e

-- ---- what stands behind a text where the code of a tree ends

pub do_ends : (t : List ℕ) {t1 t2 : List ℕ} (tree : Tree) (at : At) (word : Word) (send : Option Send) → tree ≡ Do at word send →
    t1 ≡ t ++ line_text (line.Do at word) → t2 ≡ t1 ++ texts (send_lines send) → t2 ≡ t ++ texts (lines_in tree)
do_ends t tree at word send e h1 h2 =
    h2 ∙ ap (λ x. x ++ texts (send_lines send)) h1 ∙ append_assoc t (line_text (line.Do at word)) (texts (send_lines send))
    ∙ ap (λ x. t ++ x) (sym (do_text at word send)) ∙ ap (λ x. t ++ texts (lines_in x)) (sym e)

pub if_ends : (t : List ℕ) {t1 t2 t3 t4 t5 : List ℕ} (tree : Tree) (at : At) (test : Operand) (ys ns ys' ns' : List Tree) → tree ≡ If at test ys ns → ys' ≡ ys → ns' ≡ ns →
    t1 ≡ t ++ line_text (line.If at test) → t2 ≡ t1 ++ texts (lines_in_all ys') → t3 ≡ t2 ++ codes "else\n" → t4 ≡ t3 ++ texts (lines_in_all ns') → t5 ≡ t4 ++ codes "end\n" → t5 ≡ t ++ texts (lines_in tree)
if_ends t {t1} {t2} {t3} {t4} {t5} tree at test ys ns ys' ns' e ey en h1 h2 h3 h4 h5 =
    five_ends t (line_text (line.If at test)) (texts (lines_in_all ys)) (codes "else\n") (texts (lines_in_all ns)) (codes "end\n") h1 (h2 ∙ ap (λ x. t1 ++ texts (lines_in_all x)) ey) h3 (h4 ∙ ap (λ x. t3 ++ texts (lines_in_all x)) en) h5
    ∙ ap (λ x. t ++ x) (sym (if_text at test ys ns)) ∙ ap (λ x. t ++ texts (lines_in x)) (sym e)

pub loop_ends : (t : List ℕ) {t1 t2 t3 t4 t5 : List ℕ} (tree : Tree) (first : List Tree) (at : At) (test : Operand) (body first' body' : List Tree) → tree ≡ Loop first at test body → first' ≡ first → body' ≡ body →
    t1 ≡ t ++ codes "loop\n" → t2 ≡ t1 ++ texts (lines_in_all first') → t3 ≡ t2 ++ line_text (line.Test at test) → t4 ≡ t3 ++ texts (lines_in_all body') → t5 ≡ t4 ++ codes "end\n" → t5 ≡ t ++ texts (lines_in tree)
loop_ends t {t1} {t2} {t3} {t4} {t5} tree first at test body first' body' e ef eb h1 h2 h3 h4 h5 =
    five_ends t (codes "loop\n") (texts (lines_in_all first)) (line_text (line.Test at test)) (texts (lines_in_all body)) (codes "end\n") h1 (h2 ∙ ap (λ x. t1 ++ texts (lines_in_all x)) ef) h3 (h4 ∙ ap (λ x. t3 ++ texts (lines_in_all x)) eb) h5
    ∙ ap (λ x. t ++ x) (sym (loop_text first at test body)) ∙ ap (λ x. t ++ texts (lines_in x)) (sym e)

pub whole_ends : {t t1 t2 t3 : List ℕ} (pyxil : Pyxil) (fields : List Field) (sites : List Site) (methods : List Method) → fields ≡ pyxil.fields → sites ≡ pyxil.sites → methods ≡ pyxil.methods →
    t ≡ [] → t1 ≡ t ++ texts (map line.Field fields) → t2 ≡ t1 ++ texts (map line.Site sites) → t3 ≡ t2 ++ texts (flat_map method_lines methods) → t3 ≡ text_of pyxil
unfolding text_of
whole_ends {t} {t1} {t2} {t3} pyxil fields sites methods ef es em h h1 h2 h3 =
    let fs : List Line = map line.Field pyxil.fields in
    let ss : List Line = map line.Site pyxil.sites in
    let ms : List Line = flat_map method_lines pyxil.methods in
    h3 ∙ ap (λ x. t2 ++ texts (flat_map method_lines x)) em
    ∙ ap (λ x. x ++ texts ms) (h2 ∙ ap (λ x. t1 ++ texts (map line.Site x)) es ∙ ap (λ x. x ++ texts ss) (h1 ∙ ap (λ x. t ++ texts (map line.Field x)) ef ∙ ap (λ x. x ++ texts fs) h))
    ∙ append_assoc (texts fs) (texts ss) (texts ms)
    ∙ ap (λ x. texts fs ++ x) (sym (flat_map-append line_text ss ms))
    ∙ sym (flat_map-append line_text fs (ss ++ ms))
