-- Whole lines.
use Rattle.std.proofs.Common.{◌≡◌, ℕ, ◌<◌, ◌^◌, List, [], ◌∷◌, ◌++◌, Option, Some, None, ◌⊎◌, inl, inr, refl, sym, ap, subst, ◌∙◌, codes, arith, decimal, true, false, Bool, cond, append-nil}
use Rattle.std.specs.Prelude.{⊤}
use Rattle.std.specs.List.{AllByRecursion}
use Rattle.std.specs.Str.{bytes_eq}
use Rattle.px_blocks.specs.declared.side.Side.{Side}
use Rattle.px_blocks.specs.declared.block.SendKind.{SendKind}
use Rattle.px_blocks.specs.declared.block.SendKind.TheVariants as kind
use Rattle.px_normal.specs.declared.word.Operand.{Operand}
use Rattle.px_pyxil.specs.declared.names.Member.{Member}
use Rattle.px_pyxil.specs.declared.word.Word.{Word}
use Rattle.px_pyxil.specs.declared.tree.At.{At}
use Rattle.px_pyxil.specs.declared.line.Line.{Line}
use Rattle.px_pyxil.specs.declared.line.Line.TheVariants as line
use Rattle.px_pyxil.specs.Words.{side_name, member_text, operand_text, words_of, send_name}
use Rattle.px_pyxil.specs.Spelling.{spaced, line_words}
use Rattle.px_pyxil_reader.specs.declared.verbs.Opening.{Opening}
use Rattle.px_pyxil_reader.specs.declared.verbs.Opening.TheVariants as opening
use Rattle.px_pyxil_reader.specs.Fitting.{IsU32, OperandFits, WordFits, LineFits}
use Rattle.px_pyxil_reader.specs.Reading.{◌>>=◌, cut_at, end_at, word_at, u32_of, u16_at, u32_at, side_at, member_at, operand_of, verb_of}
use Rattle.px_pyxil_reader.specs.Statements.{word_behind}
use Rattle.px_pyxil_reader.specs.LineReading.{opening_of, field_of, site_of, method_of, send_of, if_of, test_of, do_of, placed_by, node_of, bare, opened, line_of}
use Rattle.px_pyxil_reader.proofs.Readers.{bind_some, some_is, chosen, bytes_same, HasNo, cut_again, cut_all, cut_parts, word_again, word_taken as spaced_word, then_again, then_taken, end_taken, IsBreak}
use Rattle.px_pyxil_reader.proofs.NumbersRead.{u32_word, AreNumberBytes, decimal_bytes, number_has_no}
use Rattle.px_pyxil_reader.proofs.OperandsRead.{last_again, last_taken, breaks}
use Rattle.px_pyxil_reader.proofs.StatementsRead.{u16_reads, u32_reads, side_reads, member_reads, verb_name, verb_taken, verb_again, verb_plain, verb_in, behind_verb, behind_breaks, words_are, word_taken, word_again as statement_again, Behind}
use Rattle.px_pyxil_reader.proofs.OperandsRead.{differs}
use Rattle.px_pyxil_reader.specs.declared.verbs.Verb.{Verb}
use Rattle.px_pyxil_reader.specs.declared.verbs.Verb.TheVariants as verb

-- a line that begins with a word, and what is behind the word
abbrev Begins : List ℕ → Line → List ℕ → Type 0
Begins first y bytes = LineFits y × (line_words y ≡ first ++ bytes)

abbrev one_line : Line → Option Line
one_line y = Some y

-- ---- the first word

abbrev Named : Opening → List ℕ → Type 0
Named opening.Field word = codes "field" ≡ word
Named opening.Site word = codes "site" ≡ word
Named opening.Method word = codes "method" ≡ word
Named (opening.Send kind) word = send_name kind ≡ word
Named opening.Else word = codes "else" ≡ word
Named opening.Loop word = codes "loop" ≡ word
Named opening.End word = codes "end" ≡ word
Named opening.Node word = ⊤

named : (word name : List ℕ) (o more y : Opening) → (name ≡ word → Named o word) → (more ≡ y → Named y word) → (cond (bytes_eq word name) o more) ≡ y → Named y word
named word name o more y here there e =
    elim (chosen (bytes_eq word name) o more y e) [
      | inl h ↦ subst (λ z. Named z word) h.1 (here (sym (bytes_same word name h.0)))
      | inr h ↦ there h.1
    ]

opening_taken : (word : List ℕ) (y : Opening) → opening_of word ≡ y → Named y word
unfolding opening_of
opening_taken word y e =
    named word (codes "field") opening.Field _ y (λ e. e)
    (named word (codes "site") opening.Site _ y (λ e. e)
    (named word (codes "method") opening.Method _ y (λ e. e)
    (named word (codes "sendAPP") (opening.Send kind.App) _ y (λ e. e)
    (named word (codes "sendDB") (opening.Send kind.Db) _ y (λ e. e)
    (named word (codes "sendNative") (opening.Send kind.Native) _ y (λ e. e)
    (named word (codes "else") opening.Else _ y (λ e. e)
    (named word (codes "loop") opening.Loop _ y (λ e. e)
    (named word (codes "end") opening.End _ y (λ e. e)
    (λ e. subst (λ z. Named z word) e tt))))))))) e

opening_number : (bs : List ℕ) → AreNumberBytes bs → opening_of bs ≡ opening.Node
unfolding opening_of
opening_number [] h = refl
opening_number (b ∷ bs) h =
    rw (differs b 102 bs _ h.0 (omega arith)) (rw (differs b 115 bs _ h.0 (omega arith)) (rw (differs b 109 bs _ h.0 (omega arith))
    (rw (differs b 115 bs _ h.0 (omega arith)) (rw (differs b 115 bs _ h.0 (omega arith)) (rw (differs b 115 bs _ h.0 (omega arith))
    (rw (differs b 101 bs _ h.0 (omega arith)) (rw (differs b 108 bs _ h.0 (omega arith)) (rw (differs b 101 bs _ h.0 (omega arith)) refl))))))))

-- ---- what is read was spelled

field_taken : (bytes : List ℕ) (y : Line) → field_of bytes ≡ Some y → Begins (codes "field") y bytes
unfolding field_of
field_taken bytes y e =
    then_taken member_reads (λ bs. Begins (codes "field") y bs) (λ f. side_at f.1 >>= λ s. end_at s.1 >>= λ _. one_line (line.Field (record { field = f.0; side = s.0 }))) bytes y e (λ f r0 f0 h0.
    then_taken side_reads (λ bs. Begins (codes "field") y (32 ∷ (member_text f ++ bs))) (λ s. end_at s.1 >>= λ _. one_line (line.Field (record { field = f; side = s.0 }))) r0 y h0 (λ s r1 f1 h1.
    end_taken (λ z bs. Begins (codes "field") z (32 ∷ (member_text f ++ (32 ∷ (side_name s ++ bs))))) r1 (line.Field (record { field = f; side = s })) y h1 (f0, refl)))

site_taken : (bytes : List ℕ) (y : Line) → site_of bytes ≡ Some y → Begins (codes "site") y bytes
unfolding site_of
site_taken bytes y e =
    then_taken u16_reads (λ bs. Begins (codes "site") y bs) (λ n. side_at n.1 >>= λ s. end_at s.1 >>= λ _. one_line (line.Site (record { number = n.0; side = s.0 }))) bytes y e (λ n r0 f0 h0.
    then_taken side_reads (λ bs. Begins (codes "site") y (32 ∷ (decimal n ++ bs))) (λ s. end_at s.1 >>= λ _. one_line (line.Site (record { number = n; side = s.0 }))) r0 y h0 (λ s r1 f1 h1.
    end_taken (λ z bs. Begins (codes "site") z (32 ∷ (decimal n ++ (32 ∷ (side_name s ++ bs))))) r1 (line.Site (record { number = n; side = s })) y h1 (f0, refl)))

abbrev head_line : ℕ → Side → Member → ℕ → Line
head_line node side method slots = line.Method (record { at = record { node = node; side = side }; method = method; slots = slots })

method_taken : (bytes : List ℕ) (y : Line) → method_of bytes ≡ Some y → Begins (codes "method") y bytes
unfolding method_of
method_taken bytes y e =
    then_taken u32_reads (λ bs. Begins (codes "method") y bs) (λ n. side_at n.1 >>= λ s. member_at s.1 >>= λ m. u32_at m.1 >>= λ k. end_at k.1 >>= λ _. one_line (head_line n.0 s.0 m.0 k.0)) bytes y e (λ n r0 f0 h0.
    then_taken side_reads (λ bs. Begins (codes "method") y (32 ∷ (decimal n ++ bs))) (λ s. member_at s.1 >>= λ m. u32_at m.1 >>= λ k. end_at k.1 >>= λ _. one_line (head_line n s.0 m.0 k.0)) r0 y h0 (λ s r1 f1 h1.
    then_taken member_reads (λ bs. Begins (codes "method") y (32 ∷ (decimal n ++ (32 ∷ (side_name s ++ bs))))) (λ m. u32_at m.1 >>= λ k. end_at k.1 >>= λ _. one_line (head_line n s m.0 k.0)) r1 y h1 (λ m r2 f2 h2.
    then_taken u32_reads (λ bs. Begins (codes "method") y (32 ∷ (decimal n ++ (32 ∷ (side_name s ++ (32 ∷ (member_text m ++ bs))))))) (λ k. end_at k.1 >>= λ _. one_line (head_line n s m k.0)) r2 y h2 (λ k r3 f3 h3.
    end_taken (λ z bs. Begins (codes "method") z (32 ∷ (decimal n ++ (32 ∷ (side_name s ++ (32 ∷ (member_text m ++ (32 ∷ (decimal k ++ bs))))))))) r3 (head_line n s m k) y h3 ((f0, f2, f3), refl)))))

abbrev send_line : SendKind → Operand → Line
send_line kind object = line.Send (record { kind = kind; object = object })

send_taken : (k : SendKind) (bytes : List ℕ) (y : Line) → send_of k bytes ≡ Some y → Begins (send_name k) y bytes
unfolding send_of
send_taken k bytes y e =
    let m = bind_some (operand_of bytes) (λ a. one_line (send_line k a)) y e in
    subst (λ z. Begins (send_name k) z bytes) (some_is (send_line k m.0) y m.2) (last_taken (λ bs. Begins (send_name k) (send_line k m.0) bs) bytes m.0 m.1 (λ f. (f, refl)))

-- a line behind a node, its side and a word
abbrev Placed : At → List ℕ → Line → List ℕ → Type 0
Placed at word y bytes = LineFits y × (line_words y ≡ decimal at.node ++ (32 ∷ (side_name at.side ++ (32 ∷ (word ++ bytes)))))

if_taken : (at : At) (bytes : List ℕ) (y : Line) → IsU32 at.node → if_of at bytes ≡ Some y → Placed at (codes "if") y bytes
unfolding if_of
if_taken at bytes y n e =
    let m = bind_some (operand_of bytes) (λ a. one_line (line.If at a)) y e in
    subst (λ z. Placed at (codes "if") z bytes) (some_is (line.If at m.0) y m.2) (last_taken (λ bs. Placed at (codes "if") (line.If at m.0) bs) bytes m.0 m.1 (λ f. ((n, f), refl)))

test_taken : (at : At) (bytes : List ℕ) (y : Line) → IsU32 at.node → test_of at bytes ≡ Some y → Placed at (codes "test") y bytes
unfolding test_of
test_taken at bytes y n e =
    let m = bind_some (operand_of bytes) (λ a. one_line (line.Test at a)) y e in
    subst (λ z. Placed at (codes "test") z bytes) (some_is (line.Test at m.0) y m.2) (last_taken (λ bs. Placed at (codes "test") (line.Test at m.0) bs) bytes m.0 m.1 (λ f. ((n, f), refl)))

do_taken : (at : At) (word bytes : List ℕ) (y : Line) → IsU32 at.node → do_of at word bytes ≡ Some y → Placed at word y bytes
unfolding do_of
do_taken at word bytes y n e =
    let v = bind_some (verb_of word) (λ v. word_behind v bytes >>= λ s. one_line (line.Do at s)) y e in
    let s = bind_some (word_behind v.0 bytes) (λ s. one_line (line.Do at s)) y v.2 in
    let p = word_taken v.0 bytes s.0 s.1 in
    let name = verb_taken word v.0 v.1 in
    subst (λ z. Placed at word z bytes) (some_is (line.Do at s.0) y s.2)
    ((n, p.0), ap (λ rest. decimal at.node ++ (32 ∷ (side_name at.side ++ rest))) (p.1 ∙ ap (λ w. 32 ∷ (w ++ bytes)) name))

placed_taken : (at : At) (word bytes : List ℕ) (y : Line) → IsU32 at.node → placed_by at word bytes ≡ Some y → Placed at word y bytes
placed_taken at word bytes y n e =
    let others : Option Line = cond (bytes_eq word (codes "test")) (test_of at bytes) (do_of at word bytes) in
    elim (chosen (bytes_eq word (codes "if")) (if_of at bytes) others (Some y) e) [
      | inl h ↦ subst (λ w. Placed at w y bytes) (sym (bytes_same word (codes "if") h.0)) (if_taken at bytes y n h.1)
      | inr h ↦ elim (chosen (bytes_eq word (codes "test")) (test_of at bytes) (do_of at word bytes) (Some y) h.1) [
        | inl h ↦ subst (λ w. Placed at w y bytes) (sym (bytes_same word (codes "test") h.0)) (test_taken at bytes y n h.1)
        | inr h ↦ do_taken at word bytes y n h.1
      ]
    ]

abbrev behind_node : ℕ → Side × List ℕ → Option Line
behind_node node side = word_at side.1 >>= λ word. placed_by (record { node = node; side = side.0 }) word.0 word.1

node_taken : (first bytes : List ℕ) (y : Line) → node_of first bytes ≡ Some y → Begins first y bytes
unfolding node_of
node_taken first bytes y e =
    let n = bind_some (u32_of first) (λ node. side_at bytes >>= behind_node node) y e in
    let p = u32_word.taken first n.0 n.1 in
    then_taken side_reads (λ bs. Begins first y bs) (behind_node n.0) bytes y n.2 (λ s rest f h.
    let at : At = record { node = n.0; side = s } in
    let w = bind_some (word_at rest) (λ word. placed_by at word.0 word.1) y h in
    let q = placed_taken at w.0.0 w.0.1 y p.0 w.2 in
    (q.0, q.1 ∙ ap (λ d. d ++ (32 ∷ (side_name s ++ (32 ∷ (w.0.0 ++ w.0.1))))) p.1 ∙ ap (λ bs. first ++ (32 ∷ (side_name s ++ bs))) (sym (spaced_word rest w.0 w.1))))

bare_taken : (l : Line) (word bytes : List ℕ) (y : Line) → LineFits l → line_words l ≡ word → bare l bytes ≡ Some y → Begins word y bytes
bare_taken l word bytes y f s e = end_taken (λ z bs. Begins word z bs) bytes l y e (f, s ∙ sym (append-nil word))

opened_taken : (o : Opening) (first bytes : List ℕ) (y : Line) → Named o first → opened o first bytes ≡ Some y → Begins first y bytes
opened_taken opening.Field first bytes y n e = subst (λ w. Begins w y bytes) n (field_taken bytes y e)
opened_taken opening.Site first bytes y n e = subst (λ w. Begins w y bytes) n (site_taken bytes y e)
opened_taken opening.Method first bytes y n e = subst (λ w. Begins w y bytes) n (method_taken bytes y e)
opened_taken (opening.Send k) first bytes y n e = subst (λ w. Begins w y bytes) n (send_taken k bytes y e)
opened_taken opening.Else first bytes y n e = bare_taken line.Else first bytes y tt n e
opened_taken opening.Loop first bytes y n e = bare_taken line.Loop first bytes y tt n e
opened_taken opening.End first bytes y n e = bare_taken line.End first bytes y tt n e
opened_taken opening.Node first bytes y n e = node_taken first bytes y e

pub line_taken : (bytes : List ℕ) (y : Line) → line_of bytes ≡ Some y → LineFits y × (line_words y ≡ bytes)
unfolding line_of
line_taken bytes y e =
    let p = opened_taken (opening_of (cut_at 32 bytes).0) (cut_at 32 bytes).0 (cut_at 32 bytes).1 y (opening_taken (cut_at 32 bytes).0 (opening_of (cut_at 32 bytes).0) refl) e in
    (p.0, p.1 ∙ cut_parts 32 bytes)

-- ---- what is spelled is read

field_again : (m : Member) (s : Side) → LineFits (line.Field (record { field = m; side = s })) → field_of (32 ∷ (member_text m ++ (32 ∷ (side_name s ++ [])))) ≡ Some (line.Field (record { field = m; side = s }))
unfolding field_of
field_again m s f =
    then_again member_reads (λ f. side_at f.1 >>= λ s. end_at s.1 >>= λ _. one_line (line.Field (record { field = f.0; side = s.0 }))) m (32 ∷ (side_name s ++ [])) f refl
    ∙ then_again side_reads (λ s. end_at s.1 >>= λ _. one_line (line.Field (record { field = m; side = s.0 }))) s [] tt tt

site_again : (n : ℕ) (s : Side) → n < 2 ^ 16 → site_of (32 ∷ (decimal n ++ (32 ∷ (side_name s ++ [])))) ≡ Some (line.Site (record { number = n; side = s }))
unfolding site_of
site_again n s f =
    then_again u16_reads (λ n. side_at n.1 >>= λ s. end_at s.1 >>= λ _. one_line (line.Site (record { number = n.0; side = s.0 }))) n (32 ∷ (side_name s ++ [])) f refl
    ∙ then_again side_reads (λ s. end_at s.1 >>= λ _. one_line (line.Site (record { number = n; side = s.0 }))) s [] tt tt

method_again : (n : ℕ) (s : Side) (m : Member) (k : ℕ) → LineFits (head_line n s m k) → method_of (32 ∷ (decimal n ++ (32 ∷ (side_name s ++ (32 ∷ (member_text m ++ (32 ∷ (decimal k ++ [])))))))) ≡ Some (head_line n s m k)
unfolding method_of
method_again n s m k f =
    then_again u32_reads (λ n. side_at n.1 >>= λ s. member_at s.1 >>= λ m. u32_at m.1 >>= λ k. end_at k.1 >>= λ _. one_line (head_line n.0 s.0 m.0 k.0)) n (32 ∷ (side_name s ++ (32 ∷ (member_text m ++ (32 ∷ (decimal k ++ [])))))) f.0 refl
    ∙ then_again side_reads (λ s. member_at s.1 >>= λ m. u32_at m.1 >>= λ k. end_at k.1 >>= λ _. one_line (head_line n s.0 m.0 k.0)) s (32 ∷ (member_text m ++ (32 ∷ (decimal k ++ [])))) tt refl
    ∙ then_again member_reads (λ m. u32_at m.1 >>= λ k. end_at k.1 >>= λ _. one_line (head_line n s m.0 k.0)) m (32 ∷ (decimal k ++ [])) f.1 refl
    ∙ then_again u32_reads (λ k. end_at k.1 >>= λ _. one_line (head_line n s m k.0)) k [] f.2 tt

send_again : (k : SendKind) (a : Operand) → OperandFits a → send_of k (32 ∷ (operand_text a ++ [])) ≡ Some (send_line k a)
unfolding send_of
send_again k a f = ap (λ o. o >>= λ a. one_line (send_line k a)) (last_again a f)

if_again : (at : At) (a : Operand) → OperandFits a → if_of at (32 ∷ (operand_text a ++ [])) ≡ Some (line.If at a)
unfolding if_of
if_again at a f = ap (λ o. o >>= λ a. one_line (line.If at a)) (last_again a f)

test_again : (at : At) (a : Operand) → OperandFits a → test_of at (32 ∷ (operand_text a ++ [])) ≡ Some (line.Test at a)
unfolding test_of
test_again at a f = ap (λ o. o >>= λ a. one_line (line.Test at a)) (last_again a f)

do_again : (at : At) (y : Word) → WordFits y → do_of at (verb_name (verb_in y)) (behind_verb y) ≡ Some (line.Do at y)
unfolding do_of
do_again at y f =
    ap (λ o. o >>= λ v. word_behind v (behind_verb y) >>= λ s. one_line (line.Do at s)) (verb_again (verb_in y))
    ∙ ap (λ o. o >>= λ s. one_line (line.Do at s)) (statement_again y f)

-- the word of a statement is neither `if` nor `test`
no_branch : (at : At) (v : Verb) (bytes : List ℕ) → placed_by at (verb_name v) bytes ≡ do_of at (verb_name v) bytes
no_branch at verb.Set bytes = refl
no_branch at verb.Op bytes = refl
no_branch at verb.Get bytes = refl
no_branch at verb.Put bytes = refl
no_branch at verb.Load bytes = refl
no_branch at verb.Store bytes = refl
no_branch at verb.Len bytes = refl
no_branch at verb.New bytes = refl
no_branch at verb.Array bytes = refl
no_branch at verb.Call bytes = refl
no_branch at verb.Query bytes = refl
no_branch at verb.Update bytes = refl
no_branch at verb.Next bytes = refl
no_branch at verb.Long bytes = refl
no_branch at verb.Text bytes = refl
no_branch at verb.Print bytes = refl
no_branch at verb.Return bytes = refl

-- a line that begins with a node
node_again : (at : At) (word rest : List ℕ) (y : Line) → IsU32 at.node → HasNo 32 word → IsBreak rest → placed_by at word rest ≡ Some y → line_of (decimal at.node ++ (32 ∷ (side_name at.side ++ (32 ∷ (word ++ rest))))) ≡ Some y
unfolding line_of node_of
node_again at word rest y n h s e =
    let digits = decimal_bytes at.node (omega (arith, n)) in
    let behind : List ℕ = 32 ∷ (side_name at.side ++ (32 ∷ (word ++ rest))) in
    ap (λ p. opened (opening_of p.0) p.0 p.1) (cut_again 32 (decimal at.node) behind (number_has_no 32 (decimal at.node) (inl (omega arith)) digits) refl)
    ∙ ap (λ o. opened o (decimal at.node) behind) (opening_number (decimal at.node) digits)
    ∙ ap (λ o. o >>= λ node. side_at behind >>= behind_node node) (u32_word.again at.node n)
    ∙ then_again side_reads (behind_node at.node) at.side (32 ∷ (word ++ rest)) tt refl
    ∙ ap (λ o. o >>= λ w. placed_by at w.0 w.1) (word_again word rest h s)
    ∙ e

pub line_again : (y : Line) → LineFits y → line_of (line_words y) ≡ Some y
unfolding line_of opening_of
line_again (line.Field f) h = field_again f.field f.side h
line_again (line.Site s) h = site_again s.number s.side h
line_again (line.Method m) h = method_again m.at.node m.at.side m.method m.slots h
line_again (line.Do at y) h =
    ap (λ rest. line_of (decimal at.node ++ (32 ∷ (side_name at.side ++ rest)))) (words_are y)
    ∙ node_again at (verb_name (verb_in y)) (behind_verb y) (line.Do at y) h.0 (verb_plain (verb_in y)) (behind_breaks y) (no_branch at (verb_in y) (behind_verb y) ∙ do_again at y h.1)
line_again (line.Send s) h = by s.kind
  where
    by : (k : SendKind) → line_of (line_words (line.Send (record { kind = k; object = s.object }))) ≡ Some (line.Send (record { kind = k; object = s.object }))
    by kind.App = send_again kind.App s.object h
    by kind.Db = send_again kind.Db s.object h
    by kind.Native = send_again kind.Native s.object h
line_again (line.If at test) h = node_again at (codes "if") (32 ∷ (operand_text test ++ [])) (line.If at test) h.0 (refl, (refl, tt)) refl (if_again at test h.1)
line_again line.Else h = refl
line_again line.Loop h = refl
line_again (line.Test at test) h = node_again at (codes "test") (32 ∷ (operand_text test ++ [])) (line.Test at test) h.0 (refl, (refl, (refl, (refl, tt)))) refl (test_again at test h.1)
line_again line.End h = refl

-- ---- together

abbrev none_line : Option Line
none_line = None

pub as_line : (bytes : List ℕ) (found : Line) → line_of bytes ≡ Some found → (y : Line) → (one_line found ≡ one_line y → LineFits y × (line_words y ≡ bytes)) × (LineFits y × (line_words y ≡ bytes) → one_line found ≡ one_line y)
as_line bytes found e y = ((λ h. line_taken bytes y (e ∙ h)), λ h. sym e ∙ ap line_of (sym h.1) ∙ line_again y h.0)

pub no_line : (bytes : List ℕ) → line_of bytes ≡ None → (y : Line) → (none_line ≡ one_line y → LineFits y × (line_words y ≡ bytes)) × (LineFits y × (line_words y ≡ bytes) → none_line ≡ one_line y)
no_line bytes e y = ((λ h. absurd cc), λ h. sym e ∙ ap line_of (sym h.1) ∙ line_again y h.0)
