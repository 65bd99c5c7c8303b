-- The statements and expressions in a statement are no more than the tokens of its text.
use Rattle.std.proofs.Common.{◌≡◌, ◌≤◌, ℕ, ◌+◌, Bool, false, List, [], ◌∷◌, ◌++◌, length, length-append, map, Some, None, sym, ap, ◌∙◌, arith}
use Rattle.px_words.specs.declared.lexeme.Lexeme.{Lexeme}
use Rattle.px_parse.specs.Trees.{name_of}
use Rattle.px_parse.specs.Grammar.{Ending, SpellsSimple, SpellsLocal, SpellsFirst, SpellsStatement, SpellsItem, SpellsItems}
use Rattle.px_tree.specs.declared.Sign.{Sign}
use Rattle.px_tree.specs.declared.Name.{Name as NameData}
use Rattle.px_tree.specs.declared.TypeName.{TypeName}
use Rattle.px_tree.specs.declared.Expr.{Expr}
use Rattle.px_tree.specs.declared.Stmt.{Stmt}
use Rattle.px_tree.specs.declared.StmtForm.{StmtForm}
use Rattle.px_tree.specs.declared.StmtForm.TheVariants as st
use Rattle.px_tree.specs.declared.StmtForm.TheOpen.{StmtForm-F as g}
use Rattle.px_tree.specs.Numbering as numbering
use Rattle.px_tree.specs.Numbering.{Numbering, ◌>>=◌, pure, numbered_expression, numbered_statement, numbered_statement_form}
use Rattle.px_tree.proofs.Numbers.{numbered_statement_is, of_block, of_empty, of_local, of_assign, of_compound, of_up, of_down, of_call_statement, of_if, of_while, of_for, of_return, of_print}
use Rattle.px_typed_code.specs.Sizes.{total, size}
use Rattle.px_typed_code.proofs.FewNodeStatements.{size_at}
use Rattle.px_accepted.proofs.SpelledExpressions.{Sized, expression, postfix}

abbrev unnumbered : ℕ → StmtForm → Stmt
unnumbered token form = record { id = 0; token = token; form = form }

form_at : (x : Stmt) (n : ℕ) (how : Numbering StmtForm) → numbered_statement_form x.form ≡ how → (numbered_statement x n).0.form ≡ (how (n + 1)).0
form_at x n how h = ap (λ (p : Numbering Stmt). (p n).0.form) (numbered_statement_is x) ∙ ap (λ (p : Numbering StmtForm). (p (n + 1)).0) h

-- once it is numbered, it has at most so many
abbrev pub Small : Stmt → ℕ → Type 0
Small x k = (n : ℕ) → size (numbered_statement x n).0 ≤ k

abbrev pub AreSmall : List Stmt → ℕ → Type 0
AreSmall xs k = (n : ℕ) → total (map size (numbering.in_order (map numbered_statement xs) n).0) ≤ k

fits : (x : Stmt) (k m : ℕ) → Small x k → k ≤ m → Small x m
fits x k m h l n = omega (arith, h n, l)

all_fit : (xs : List Stmt) (k m : ℕ) → AreSmall xs k → k ≤ m → AreSmall xs m
all_fit xs k m h l n = omega (arith, h n, l)

-- ---- forms

pub block_small : (token : ℕ) (items : List Stmt) (k : ℕ) → AreSmall items k → Small (unnumbered token (st.Block items)) (1 + k)
block_small token items k d n =
    let x = (numbered_statement (unnumbered token (st.Block items)) n).0 in
    let p = numbering.in_order (map numbered_statement items) (n + 1) in
    let h : x.form ≡ st.Block p.0 = form_at (unnumbered token (st.Block items)) n _ (of_block items) in
    omega (arith, size_at x (g.Block p.0) (h ∙ sym (st.rolls-Block p.0)), d (n + 1))

empty_small : (token : ℕ) → Small (unnumbered token st.Empty) 1
empty_small token n =
    let x = (numbered_statement (unnumbered token st.Empty) n).0 in
    let h : x.form ≡ st.Empty = form_at (unnumbered token st.Empty) n _ of_empty in
    omega (arith, size_at x g.Empty (h ∙ sym st.rolls-Empty))

local_small : (token : ℕ) (t : TypeName) (name : NameData) (value : Expr) (k : ℕ) → Sized value k → Small (unnumbered token (st.Local t name value)) (1 + k)
local_small token t name value k d n =
    let x = (numbered_statement (unnumbered token (st.Local t name value)) n).0 in
    let p = numbered_expression value (n + 1) in
    let h : x.form ≡ st.Local t name p.0 = form_at (unnumbered token (st.Local t name value)) n _ (of_local t name value) in
    omega (arith, size_at x (g.Local t name p.0) (h ∙ sym (st.rolls-Local t name p.0)), d (n + 1))

assign_small : (token : ℕ) (place value : Expr) (k m : ℕ) → Sized place k → Sized value m → Small (unnumbered token (st.Assign place value)) (1 + (k + m))
assign_small token place value k m d j n =
    let x = (numbered_statement (unnumbered token (st.Assign place value)) n).0 in
    let p = numbered_expression place (n + 1) in
    let q = numbered_expression value p.1 in
    let h : x.form ≡ st.Assign p.0 q.0 = form_at (unnumbered token (st.Assign place value)) n _ (of_assign place value) in
    omega (arith, size_at x (g.Assign p.0 q.0) (h ∙ sym (st.rolls-Assign p.0 q.0)), d (n + 1), j p.1)

compound_small : (token : ℕ) (name : NameData) (sign : Sign) (value : Expr) (k : ℕ) → Sized value k → Small (unnumbered token (st.Compound name sign value)) (1 + k)
compound_small token name sign value k d n =
    let x = (numbered_statement (unnumbered token (st.Compound name sign value)) n).0 in
    let p = numbered_expression value (n + 1) in
    let h : x.form ≡ st.Compound name sign p.0 = form_at (unnumbered token (st.Compound name sign value)) n _ (of_compound name sign value) in
    omega (arith, size_at x (g.Compound name sign p.0) (h ∙ sym (st.rolls-Compound name sign p.0)), d (n + 1))

up_small : (token : ℕ) (name : NameData) → Small (unnumbered token (st.Up name)) 1
up_small token name n =
    let x = (numbered_statement (unnumbered token (st.Up name)) n).0 in
    let h : x.form ≡ st.Up name = form_at (unnumbered token (st.Up name)) n _ (of_up name) in
    omega (arith, size_at x (g.Up name) (h ∙ sym (st.rolls-Up name)))

down_small : (token : ℕ) (name : NameData) → Small (unnumbered token (st.Down name)) 1
down_small token name n =
    let x = (numbered_statement (unnumbered token (st.Down name)) n).0 in
    let h : x.form ≡ st.Down name = form_at (unnumbered token (st.Down name)) n _ (of_down name) in
    omega (arith, size_at x (g.Down name) (h ∙ sym (st.rolls-Down name)))

call_small : (token : ℕ) (value : Expr) (k : ℕ) → Sized value k → Small (unnumbered token (st.Call value)) (1 + k)
call_small token value k d n =
    let x = (numbered_statement (unnumbered token (st.Call value)) n).0 in
    let p = numbered_expression value (n + 1) in
    let h : x.form ≡ st.Call p.0 = form_at (unnumbered token (st.Call value)) n _ (of_call_statement value) in
    omega (arith, size_at x (g.Call p.0) (h ∙ sym (st.rolls-Call p.0)), d (n + 1))

print_small : (token : ℕ) (value : Expr) (k : ℕ) → Sized value k → Small (unnumbered token (st.Print value)) (1 + k)
print_small token value k d n =
    let x = (numbered_statement (unnumbered token (st.Print value)) n).0 in
    let p = numbered_expression value (n + 1) in
    let h : x.form ≡ st.Print p.0 = form_at (unnumbered token (st.Print value)) n _ (of_print value) in
    omega (arith, size_at x (g.Print p.0) (h ∙ sym (st.rolls-Print p.0)), d (n + 1))

leave_small : (token : ℕ) → Small (unnumbered token (st.Return None)) 1
leave_small token n =
    let x = (numbered_statement (unnumbered token (st.Return None)) n).0 in
    let h : x.form ≡ st.Return None = form_at (unnumbered token (st.Return None)) n _ (of_return None) in
    omega (arith, size_at x (g.Return None) (h ∙ sym (st.rolls-Return None)))

give_small : (token : ℕ) (value : Expr) (k : ℕ) → Sized value k → Small (unnumbered token (st.Return (Some value))) (1 + k)
give_small token value k d n =
    let x = (numbered_statement (unnumbered token (st.Return (Some value))) n).0 in
    let p = numbered_expression value (n + 1) in
    let h : x.form ≡ st.Return (Some p.0) = form_at (unnumbered token (st.Return (Some value))) n _ (of_return (Some value)) in
    omega (arith, size_at x (g.Return (Some p.0)) (h ∙ sym (st.rolls-Return (Some p.0))), d (n + 1))

if_only_small : (token : ℕ) (test : Expr) (y : Stmt) (k m : ℕ) → Sized test k → Small y m → Small (unnumbered token (st.If test y None)) (1 + (k + m))
if_only_small token test y k m d j n =
    let x = (numbered_statement (unnumbered token (st.If test y None)) n).0 in
    let p = numbered_expression test (n + 1) in
    let q = numbered_statement y p.1 in
    let h : x.form ≡ st.If p.0 q.0 None = form_at (unnumbered token (st.If test y None)) n _ (of_if test y None) in
    omega (arith, size_at x (g.If p.0 q.0 None) (h ∙ sym (st.rolls-If p.0 q.0 None)), d (n + 1), j p.1)

if_else_small : (token : ℕ) (test : Expr) (y z : Stmt) (k m i : ℕ) → Sized test k → Small y m → Small z i → Small (unnumbered token (st.If test y (Some z))) (1 + (k + (m + i)))
if_else_small token test y z k m i d j l n =
    let x = (numbered_statement (unnumbered token (st.If test y (Some z))) n).0 in
    let p = numbered_expression test (n + 1) in
    let q = numbered_statement y p.1 in
    let r = numbered_statement z q.1 in
    let h : x.form ≡ st.If p.0 q.0 (Some r.0) = form_at (unnumbered token (st.If test y (Some z))) n _ (of_if test y (Some z)) in
    omega (arith, size_at x (g.If p.0 q.0 (Some r.0)) (h ∙ sym (st.rolls-If p.0 q.0 (Some r.0))), d (n + 1), j p.1, l q.1)

while_small : (token : ℕ) (test : Expr) (body : Stmt) (k m : ℕ) → Sized test k → Small body m → Small (unnumbered token (st.While test body)) (1 + (k + m))
while_small token test body k m d j n =
    let x = (numbered_statement (unnumbered token (st.While test body)) n).0 in
    let p = numbered_expression test (n + 1) in
    let q = numbered_statement body p.1 in
    let h : x.form ≡ st.While p.0 q.0 = form_at (unnumbered token (st.While test body)) n _ (of_while test body) in
    omega (arith, size_at x (g.While p.0 q.0) (h ∙ sym (st.rolls-While p.0 q.0)), d (n + 1), j p.1)

for_small : (token : ℕ) (first : Stmt) (test : Expr) (last body : Stmt) (k m i o : ℕ) → Small first k → Sized test m → Small last i → Small body o → Small (unnumbered token (st.For first test last body)) (1 + (k + (m + (i + o))))
for_small token first test last body k m i o d j l b n =
    let x = (numbered_statement (unnumbered token (st.For first test last body)) n).0 in
    let p = numbered_statement first (n + 1) in
    let q = numbered_expression test p.1 in
    let r = numbered_statement last q.1 in
    let y = numbered_statement body r.1 in
    let h : x.form ≡ st.For p.0 q.0 r.0 y.0 = form_at (unnumbered token (st.For first test last body)) n _ (of_for first test last body) in
    omega (arith, size_at x (g.For p.0 q.0 r.0 y.0) (h ∙ sym (st.rolls-For p.0 q.0 r.0 y.0)), d (n + 1), j p.1, l q.1, b r.1)

none_small : AreSmall [] 0
none_small n = omega arith

more_small : (x : Stmt) (xs : List Stmt) (k m : ℕ) → Small x k → AreSmall xs m → AreSmall (x ∷ xs) (k + m)
more_small x xs k m d j n =
    let p = numbered_statement x n in
    omega (arith, d n, j p.1)

-- ---- by the text

simple : (source : List ℕ) (x : Stmt) (xs : List Lexeme) → SpellsSimple source x xs → Small x (1 + length xs)
simple source z _ (SpellsSimple.assignment ending k place value ps xs equals h i d j) = fits z (1 + (length ps + length xs)) (1 + length (ps ++ equals ∷ xs)) (assign_small place.token place value (length ps) (length xs) (postfix source ending place ps d) (expression source k value xs j)) (omega (arith, length-append ps (equals ∷ xs)))
simple source z _ (SpellsSimple.compound x sign op k value xs h i d) = fits z (1 + length xs) (1 + length (x ∷ sign ∷ xs)) (compound_small x.token (name_of source x) op value (length xs) (expression source k value xs d)) (omega arith)
simple source z _ (SpellsSimple.up x sign h i) = fits z 1 3 (up_small x.token (name_of source x)) (omega arith)
simple source z _ (SpellsSimple.down x sign h i) = fits z 1 3 (down_small x.token (name_of source x)) (omega arith)
simple source _ _ (SpellsSimple.call x xs d) = call_small x.token x (length xs) (postfix source Ending.AtCall x xs d)

local : (source : List ℕ) (x : Stmt) (xs : List Lexeme) → SpellsLocal source x xs → Small x (length xs)
local source z _ (SpellsLocal.local t name equals k value ts xs h i d j) = fits z (1 + length xs) (length (ts ++ name ∷ equals ∷ xs)) (local_small t.token t (name_of source name) value (length xs) (expression source k value xs j)) (omega (arith, length-append ts (name ∷ equals ∷ xs)))

first_part : (source : List ℕ) (x : Stmt) (xs : List Lexeme) → SpellsFirst source x xs → Small x (1 + length xs)
first_part source x xs (SpellsFirst.local d) = fits x (length xs) (1 + length xs) (local source x xs d) (omega arith)
first_part source x xs (SpellsFirst.simple d) = simple source x xs d

mutual
  statement : (source : List ℕ) (b : Bool) (x : Stmt) (xs : List Lexeme) → SpellsStatement source b x xs → Small x (length xs)
  statement source _ z _ (SpellsStatement.block opening closing ss xs h i d) = fits z (1 + length xs) (length (opening ∷ xs ++ closing ∷ [])) (block_small opening.token ss (length xs) (items source ss xs d)) (omega (arith, length-append (opening ∷ xs) (closing ∷ [])))
  statement source _ z _ (SpellsStatement.empty semicolon h) = fits z 1 1 (empty_small semicolon.token) (omega arith)
  statement source _ x _ (SpellsStatement.simple _ xs semicolon h i d) = fits x (1 + length xs) (length (xs ++ semicolon ∷ [])) (simple source x xs d) (omega (arith, length-append xs (semicolon ∷ [])))
  statement source _ z _ (SpellsStatement.if_alone b x opening closing k test y ts ys h i j d l) = fits z (1 + (length ts + length ys)) (length (x ∷ opening ∷ ts ++ closing ∷ ys)) (if_only_small x.token test y (length ts) (length ys) (expression source k test ts d) (statement source b y ys l)) (omega (arith, length-append (x ∷ opening ∷ ts) (closing ∷ ys)))
  statement source _ z _ (SpellsStatement.if_else b x opening closing other k test y e ts ys ns h i j l d m u) = fits z (1 + (length ts + (length ys + length ns))) (length (x ∷ opening ∷ ts ++ closing ∷ ys ++ other ∷ ns)) (if_else_small x.token test y e (length ts) (length ys) (length ns) (expression source k test ts d) (statement source false y ys m) (statement source b e ns u)) (omega (arith, length-append ((x ∷ opening ∷ ts) ++ (closing ∷ ys)) (other ∷ ns), length-append (x ∷ opening ∷ ts) (closing ∷ ys)))
  statement source _ z _ (SpellsStatement.while_loop b x opening closing k test body ts bs h i j d l) = fits z (1 + (length ts + length bs)) (length (x ∷ opening ∷ ts ++ closing ∷ bs)) (while_small x.token test body (length ts) (length bs) (expression source k test ts d) (statement source b body bs l)) (omega (arith, length-append (x ∷ opening ∷ ts) (closing ∷ bs)))
  statement source _ z _ (SpellsStatement.for_loop b x opening semicolon again closing k first test last body fs ts ls bs h i j l o d m u v) = fits z (1 + ((1 + length fs) + (length ts + ((1 + length ls) + length bs)))) (length (x ∷ opening ∷ fs ++ semicolon ∷ ts ++ again ∷ ls ++ closing ∷ bs)) (for_small x.token first test last body (1 + length fs) (length ts) (1 + length ls) (length bs) (first_part source first fs d) (expression source k test ts m) (simple source last ls u) (statement source b body bs v)) (omega (arith, length-append (((x ∷ opening ∷ fs) ++ (semicolon ∷ ts)) ++ (again ∷ ls)) (closing ∷ bs), length-append ((x ∷ opening ∷ fs) ++ (semicolon ∷ ts)) (again ∷ ls), length-append (x ∷ opening ∷ fs) (semicolon ∷ ts)))
  statement source _ z _ (SpellsStatement.return_nothing x semicolon h i) = fits z 1 2 (leave_small x.token) (omega arith)
  statement source _ z _ (SpellsStatement.return_value x semicolon k value xs h i d) = fits z (1 + length xs) (length (x ∷ xs ++ semicolon ∷ [])) (give_small x.token value (length xs) (expression source k value xs d)) (omega (arith, length-append (x ∷ xs) (semicolon ∷ [])))
  statement source _ z _ (SpellsStatement.print system dot o point println opening closing semicolon k value xs h1 h2 h3 h4 h5 h6 h7 h8 d) = fits z (1 + length xs) (length (system ∷ dot ∷ o ∷ point ∷ println ∷ opening ∷ xs ++ closing ∷ semicolon ∷ [])) (print_small system.token value (length xs) (expression source k value xs d)) (omega (arith, length-append (system ∷ dot ∷ o ∷ point ∷ println ∷ opening ∷ xs) (closing ∷ semicolon ∷ [])))

  item : (source : List ℕ) (x : Stmt) (xs : List Lexeme) → SpellsItem source x xs → Small x (length xs)
  item source x _ (SpellsItem.local _ xs semicolon h d) = fits x (length xs) (length (xs ++ semicolon ∷ [])) (local source x xs d) (omega (arith, length-append xs (semicolon ∷ [])))
  item source x xs (SpellsItem.statement b d) = statement source b x xs d

  pub items : (source : List ℕ) (ss : List Stmt) (xs : List Lexeme) → SpellsItems source ss xs → AreSmall ss (length xs)
  items source _ _ SpellsItems.no_item = none_small
  items source _ _ (SpellsItems.item x ss xs ys d l) = all_fit (x ∷ ss) (length xs + length ys) (length (xs ++ ys)) (more_small x ss (length xs) (length ys) (item source x xs d) (items source ss ys l)) (omega (arith, length-append xs ys))
