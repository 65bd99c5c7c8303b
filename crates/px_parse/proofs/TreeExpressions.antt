-- Lexemes whose roles are a type or an expression spell one.
use Rattle.std.proofs.Common.{◌≢◌, ℕ, List, [], ◌∷◌, ◌++◌, refl, append_assoc}
use Rattle.px_words.specs.declared.lexeme.Lexeme.{Lexeme}
use Rattle.px_words.specs.declared.lexeme.Word.TheVariants as w
use Rattle.px_accept.specs.declared.role.Role.{Role}
use Rattle.px_accept.specs.declared.role.Role.TheVariants as r
use Rattle.px_accept.specs.declared.role.Spelling.{Spelling}
use Rattle.px_accept.specs.Grammar as f
use Rattle.px_words.specs.Words.{tightest}
use Rattle.px_parse.specs.Trees.{single_type_of, array_type_of, expression_of, number_of, text_of, variable_of, group_of, field_of, element_of, own_call_of, call_of, object_of, array_of, prefix_of}
use Rattle.px_parse.specs.Grammar as g
use Rattle.px_parse.proofs.RolesOf.{IsValue, number, text, word, base_is, infix_is, prefix_is, cast_is, value_is}
use Rattle.px_parse.proofs.PartsOf.{first, cut, key, final, named, none}
use Rattle.px_parse.proofs.RightSpine.{placed}
use Rattle.px_parse.proofs.MadeOf.{ending_at, no_array, Made, Makes, made_at}

-- ---- types

pub made_base : (source : List ℕ) (t : Role) → f.IsBase t → Makes source f.TypeName (t ∷ [])
made_base source t i xs h =
    let x = first t [] xs h in
    made_at source f.TypeName xs (x.x ∷ []) (cc (x.same, none x.rest x.roles)) (single_type_of source x.x, g.SpellsType.single x.x (base_is x.x.word t i x.role))

pub made_array_type : (source : List ℕ) (t : Role) → f.IsBase t → Makes source f.TypeName (t ∷ r.OpenBracket ∷ r.CloseBracket ∷ [])
made_array_type source t i xs h =
    let x = first t (r.OpenBracket ∷ r.CloseBracket ∷ []) xs h in
    let o = key r.OpenBracket w.OpenBracket (r.CloseBracket ∷ []) x.rest refl x.roles in
    let z = final r.CloseBracket w.CloseBracket o.rest refl o.roles in
    made_at source f.TypeName xs (x.x ∷ o.x ∷ z.x ∷ []) (cc (x.same, o.same, z.same)) (array_type_of source x.x, g.SpellsType.array x.x o.x z.x (base_is x.x.word t i x.role) o.is z.is)

-- ---- operators

pub made_operand : (source : List ℕ) (ts : List Role) → Makes source f.Unary ts → Makes source f.Expression ts
made_operand source ts m xs h = let e = m xs h in (e.0, tightest, g.SpellsExpression.operand e.1)

pub made_infix : (source : List ℕ) (t : Role) (a b : List Role) → f.IsInfix t → Makes source f.Expression a → Makes source f.Unary b → Makes source f.Expression (a ++ t ∷ b)
made_infix source t a b i m n xs h =
    let c = cut a (t ∷ b) xs h in
    let x = first t b c.rest c.roles in
    let l = m c.front c.fronts in
    let e = n x.rest x.roles in
    let op = infix_is x.x.word t i x.role in
    let p = placed source x.x op.0 e.0 x.rest op.1 e.1 l.1 l.0 c.front l.2 in
    made_at source f.Expression xs (c.front ++ x.x ∷ x.rest) (cc (c.same, x.same)) (p.tree, p.tight, p.spelled)

pub made_prefix : (source : List ℕ) (t : Role) (a : List Role) → f.IsPrefix t → Makes source f.Unary a → Makes source f.Unary (t ∷ a)
made_prefix source t a i m xs h =
    let x = first t a xs h in
    let e = m x.rest x.roles in
    let op = prefix_is x.x.word t i x.role in
    made_at source f.Unary xs (x.x ∷ x.rest) x.same (prefix_of op.0 x.x e.0, g.SpellsOperand.prefix x.x op.0 e.0 x.rest op.1 e.1)

pub made_cast : (source : List ℕ) (a : List Role) → Makes source f.Unary a → Makes source f.Unary (r.Open ∷ r.Integral ∷ r.Close ∷ a)
made_cast source a m xs h =
    let o = key r.Open w.Open (r.Integral ∷ r.Close ∷ a) xs refl h in
    let x = first r.Integral (r.Close ∷ a) o.rest o.roles in
    let z = key r.Close w.Close a x.rest refl x.roles in
    let e = m z.rest z.roles in
    let op = cast_is x.x.word x.role in
    made_at source f.Unary xs (o.x ∷ x.x ∷ z.x ∷ z.rest) (cc (o.same, x.same, z.same)) (prefix_of op.0 o.x e.0, g.SpellsOperand.cast o.x x.x z.x op.0 e.0 z.rest o.is op.1 z.is e.1)

pub made_postfix : (source : List ℕ) (k : f.Ending) (ts : List Role) → Makes source (f.Postfix k) ts → Makes source f.Unary ts
made_postfix source k ts m xs h = let e = m xs h in (e.0, g.SpellsOperand.postfix (ending_at k) e.1)

-- ---- postfixes

value_made : (source : List ℕ) (x : Lexeme) → IsValue x.word → Made source (f.Postfix f.Primary) (x ∷ [])
value_made source x (number h) = (number_of source x, g.SpellsPostfix.number x h)
value_made source x (text h) = (text_of source x, g.SpellsPostfix.text x h)
value_made source x (word form h) = (expression_of x.token form, g.SpellsPostfix.word x form h)

pub made_value : (source : List ℕ) → Makes source (f.Postfix f.Primary) (r.Value ∷ [])
made_value source xs h =
    let x = first r.Value [] xs h in
    made_at source (f.Postfix f.Primary) xs (x.x ∷ []) (cc (x.same, none x.rest x.roles)) (value_made source x.x (value_is x.x.word x.role))

pub made_name : (source : List ℕ) (n : Spelling) → Makes source (f.Postfix f.OneName) (r.Name n ∷ [])
made_name source n xs h =
    let x = named n [] xs h in
    made_at source (f.Postfix f.OneName) xs (x.x ∷ []) (cc (x.same, none x.rest x.roles)) (variable_of source x.x, g.SpellsPostfix.variable x.x x.is)

pub made_own_call : (source : List ℕ) (n : Spelling) (a : List Role) → Makes source f.Arguments a → Makes source (f.Postfix f.Call) (r.Name n ∷ a)
made_own_call source n a m xs h =
    let x = named n a xs h in
    let es = m x.rest x.roles in
    made_at source (f.Postfix f.Call) xs (x.x ∷ x.rest) x.same (own_call_of source x.x es.0, g.SpellsPostfix.own_call x.x es.0 x.rest x.is es.1)

pub made_group : (source : List ℕ) (a : List Role) → Makes source f.Expression a → Makes source (f.Postfix f.Primary) (r.Open ∷ a ++ r.Close ∷ [])
made_group source a m xs h =
    let o = key r.Open w.Open (a ++ r.Close ∷ []) xs refl h in
    let c = cut a (r.Close ∷ []) o.rest o.roles in
    let z = final r.Close w.Close c.rest refl c.roles in
    let e = m c.front c.fronts in
    made_at source (f.Postfix f.Primary) xs (o.x ∷ c.front ++ z.x ∷ []) (cc (o.same, c.same, z.same)) (group_of o.x e.0, g.SpellsPostfix.group o.x z.x e.1 e.0 c.front o.is z.is e.2)

pub made_new_object : (source : List ℕ) (n : Spelling) → Makes source (f.Postfix f.Primary) (r.New ∷ r.Name n ∷ r.Open ∷ r.Close ∷ [])
made_new_object source n xs h =
    let a = key r.New w.New (r.Name n ∷ r.Open ∷ r.Close ∷ []) xs refl h in
    let x = named n (r.Open ∷ r.Close ∷ []) a.rest a.roles in
    let o = key r.Open w.Open (r.Close ∷ []) x.rest refl x.roles in
    let z = final r.Close w.Close o.rest refl o.roles in
    made_at source (f.Postfix f.Primary) xs (a.x ∷ x.x ∷ o.x ∷ z.x ∷ []) (cc (a.same, x.same, o.same, z.same)) (object_of source a.x x.x, g.SpellsPostfix.object a.x x.x o.x z.x a.is x.is o.is z.is)

pub made_new_array : (source : List ℕ) (t : Role) (a : List Role) → f.IsBase t → Makes source f.Expression a → Makes source (f.Postfix f.Array) (r.New ∷ t ∷ r.OpenBracket ∷ a ++ r.CloseBracket ∷ [])
made_new_array source t a i m xs h =
    let n = key r.New w.New (t ∷ r.OpenBracket ∷ a ++ r.CloseBracket ∷ []) xs refl h in
    let x = first t (r.OpenBracket ∷ a ++ r.CloseBracket ∷ []) n.rest n.roles in
    let o = key r.OpenBracket w.OpenBracket (a ++ r.CloseBracket ∷ []) x.rest refl x.roles in
    let c = cut a (r.CloseBracket ∷ []) o.rest o.roles in
    let z = final r.CloseBracket w.CloseBracket c.rest refl c.roles in
    let e = m c.front c.fronts in
    made_at source (f.Postfix f.Array) xs (n.x ∷ x.x ∷ o.x ∷ c.front ++ z.x ∷ []) (cc (n.same, x.same, o.same, c.same, z.same))
    (array_of source n.x x.x e.0, g.SpellsPostfix.array n.x x.x o.x z.x e.1 e.0 c.front n.is (base_is x.x.word t i x.role) o.is z.is e.2)

pub made_dot : (source : List ℕ) (k : f.Ending) (n : Spelling) (a : List Role) → Makes source (f.Postfix k) a → Makes source (f.Postfix f.Field) (a ++ r.Dot ∷ r.Name n ∷ [])
made_dot source k n a m xs h =
    let c = cut a (r.Dot ∷ r.Name n ∷ []) xs h in
    let d = key r.Dot w.Dot (r.Name n ∷ []) c.rest refl c.roles in
    let x = named n [] d.rest d.roles in
    let e = m c.front c.fronts in
    made_at source (f.Postfix f.Field) xs (c.front ++ d.x ∷ x.x ∷ []) (cc (c.same, d.same, x.same, none x.rest x.roles)) (field_of source e.0 x.x, g.SpellsPostfix.field (ending_at k) e.0 c.front d.x x.x d.is x.is e.1)

pub made_dot_call : (source : List ℕ) (k : f.Ending) (n : Spelling) (a b : List Role) → Makes source (f.Postfix k) a → Makes source f.Arguments b → Makes source (f.Postfix f.Call) (a ++ (r.Dot ∷ r.Name n ∷ b))
made_dot_call source k n a b m args xs h =
    let c = cut a (r.Dot ∷ r.Name n ∷ b) xs h in
    let d = key r.Dot w.Dot (r.Name n ∷ b) c.rest refl c.roles in
    let x = named n b d.rest d.roles in
    let e = m c.front c.fronts in
    let es = args x.rest x.roles in
    made_at source (f.Postfix f.Call) xs (c.front ++ d.x ∷ x.x ∷ x.rest) (cc (c.same, d.same, x.same)) (call_of source e.0 x.x es.0, g.SpellsPostfix.call (ending_at k) e.0 es.0 c.front x.rest d.x x.x d.is x.is e.1 es.1)

pub made_index : (source : List ℕ) (k : f.Ending) (a b : List Role) → k ≢ f.Array → Makes source (f.Postfix k) a → Makes source f.Expression b → Makes source (f.Postfix f.Element) (a ++ (r.OpenBracket ∷ b ++ r.CloseBracket ∷ []))
made_index source k a b not_array m n xs h =
    let c = cut a (r.OpenBracket ∷ b ++ r.CloseBracket ∷ []) xs h in
    let o = key r.OpenBracket w.OpenBracket (b ++ r.CloseBracket ∷ []) c.rest refl c.roles in
    let d = cut b (r.CloseBracket ∷ []) o.rest o.roles in
    let z = final r.CloseBracket w.CloseBracket d.rest refl d.roles in
    let e = m c.front c.fronts in
    let i = n d.front d.fronts in
    made_at source (f.Postfix f.Element) xs (c.front ++ o.x ∷ d.front ++ z.x ∷ []) (cc (c.same, o.same, d.same, z.same, append_assoc c.front (o.x ∷ d.front) (z.x ∷ [])))
    (element_of e.0 i.0, g.SpellsPostfix.element (ending_at k) e.0 i.0 i.1 c.front d.front o.x z.x (no_array k not_array) o.is z.is e.1 i.2)

-- ---- arguments

pub made_arguments : (source : List ℕ) (a : List Role) → Makes source f.Expressions a → Makes source f.Arguments (r.Open ∷ a ++ r.Close ∷ [])
made_arguments source a m xs h =
    let o = key r.Open w.Open (a ++ r.Close ∷ []) xs refl h in
    let c = cut a (r.Close ∷ []) o.rest o.roles in
    let z = final r.Close w.Close c.rest refl c.roles in
    made_at source f.Arguments xs (o.x ∷ c.front ++ z.x ∷ []) (cc (o.same, c.same, z.same)) (m c.front c.fronts o.x z.x o.is z.is)

pub made_no_expression : (source : List ℕ) → Makes source f.Expressions []
made_no_expression source xs h = made_at source f.Expressions xs [] (none xs h) (λ opening closing i j. ([], g.SpellsArguments.no_argument opening closing i j))

expressions_made : (source : List ℕ) (xs ys : List Lexeme) → Made source f.Expression xs → Made source f.MoreExpressions ys → Made source f.Expressions (xs ++ ys)
expressions_made source xs ys e es opening closing i j =
    made_at source f.Arguments (opening ∷ (xs ++ ys) ++ closing ∷ []) (opening ∷ xs ++ (ys ++ closing ∷ [])) (cc (append_assoc xs ys (closing ∷ []))) (e.0 ∷ es.0, g.SpellsArguments.arguments opening closing e.1 e.0 es.0 xs ys i j e.2 es.1)

pub made_expressions : (source : List ℕ) (a b : List Role) → Makes source f.Expression a → Makes source f.MoreExpressions b → Makes source f.Expressions (a ++ b)
made_expressions source a b m n xs h =
    let c = cut a b xs h in
    made_at source f.Expressions xs (c.front ++ c.rest) c.same (expressions_made source c.front c.rest (m c.front c.fronts) (n c.rest c.roles))

pub made_no_more : (source : List ℕ) → Makes source f.MoreExpressions []
made_no_more source xs h = made_at source f.MoreExpressions xs [] (none xs h) ([], g.SpellsMoreArguments.no_more)

pub made_more : (source : List ℕ) (a b : List Role) → Makes source f.Expression a → Makes source f.MoreExpressions b → Makes source f.MoreExpressions (r.Comma ∷ a ++ b)
made_more source a b m n xs h =
    let o = key r.Comma w.Comma (a ++ b) xs refl h in
    let c = cut a b o.rest o.roles in
    let e = m c.front c.fronts in
    let es = n c.rest c.roles in
    made_at source f.MoreExpressions xs (o.x ∷ c.front ++ c.rest) (cc (o.same, c.same)) (e.0 ∷ es.0, g.SpellsMoreArguments.more o.x e.1 e.0 es.0 c.front c.rest o.is e.2 es.1)
