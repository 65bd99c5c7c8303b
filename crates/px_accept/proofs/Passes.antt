-- Each form takes its symbol off the stack, in whatever way it is spelled.
use Rattle.std.proofs.Common.{◌≡◌, ◌+◌, true, false, List, [], ◌∷◌, ◌++◌, Option, Some, None, refl, sym, ap, ◌∙◌, append_assoc, option_and_then}
use Rattle.px_accept.specs.declared.role.Role.{Role}
use Rattle.px_accept.specs.declared.role.Role.TheVariants.{Name, Else, CloseBrace, Open, Close, OpenBracket, CloseBracket, Semicolon, Dot, Assign, End}
use Rattle.px_accept.specs.declared.symbol.Position.TheVariants.{Alone, Init, Update}
use Rattle.px_accept.specs.declared.symbol.Seen.TheVariants.{Nothing, AnArray, APrimary, AnElement, ACall, AValue}
use Rattle.px_accept.specs.declared.symbol.Symbol.{Symbol}
use Rattle.px_accept.specs.declared.symbol.Symbol.TheVariants.{Need, Identifier, ParameterType, Tables, Classes, Columns, Members, Member, Parameters, MoreParameters, Body, Items, Ended, Otherwise, ForInit, Simple, Expression, Operand, Tail, ArrayTail, ArgumentList, MoreArguments}
use Rattle.px_accept.specs.declared.symbol.Symbol.TheVariants as y
use Rattle.px_accept.specs.Machine.{move_of, step, run, start}
use Rattle.px_accept.specs.Grammar as g
use Rattle.px_accept.specs.Grammar.{Form, Spelled, begins_print}
use Rattle.px_accept.proofs.Steps.{Accepts, onto, ended, as_expression, as_argument_list, as_returned, as_parenthesis, as_body, as_members, as_items, as_for_init, as_statement, same_print}
use Rattle.px_accept.proofs.Continuations.{goes_close, goes_bracket, goes_semicolon, goes_more, goes_infix, ends_alone, ends_init, ends_update, Passes, at}
use Rattle.px_accept.proofs.PassesMoves.{on_dot, simple_dot, on_index, simple_index, from_goes, past_else, follows, items_go, typed_base, typed_array, array_expression, array_simple, prefixed, accessed}

pub passes : (f : Form) (ts : List Role) → Spelled f ts → Passes f ts
unfolding run step move_of
passes _ ts (g.program a b c q r s t) = at g.Program ts _ q (
    onto start _ _ (append_assoc a (b ++ c) (End ∷ [])) (passes g.TableList a r [] _ (
    onto start _ _ (append_assoc b c (End ∷ [])) (passes g.ClassDeclaration b s [] _ (passes g.ClassList c t [] (End ∷ []) refl)).1)))
passes _ _ g.no_table = λ st zs h. h
passes _ ts (g.table n m a b q r s) = at g.TableList ts _ q (λ st zs h.
    onto (Columns ∷ Tables ∷ st) _ _ (append_assoc a (Close ∷ Semicolon ∷ b) zs) (passes g.ColumnList a r (Tables ∷ st) (b ++ zs) (passes g.TableList b s st zs h)))
passes _ _ g.no_column = λ st zs h. h
passes _ ts (g.column m a q r) = at g.ColumnList ts _ q (λ st zs h. passes g.ColumnList a r st zs h)
passes _ ts (g.class_plain n a q r) = at g.ClassDeclaration ts _ q (λ st zs h.
    let i : Accepts (Members ∷ Classes ∷ st) ((a ++ CloseBrace ∷ []) ++ zs) = onto (Members ∷ Classes ∷ st) _ _ (append_assoc a (CloseBrace ∷ []) zs) (passes g.MemberList a r (Classes ∷ st) zs h) in (i, i))
passes _ ts (g.class_public n a q r) = at g.ClassDeclaration ts _ q (λ st zs h.
    let i : Accepts (Members ∷ Classes ∷ st) ((a ++ CloseBrace ∷ []) ++ zs) = onto (Members ∷ Classes ∷ st) _ _ (append_assoc a (CloseBrace ∷ []) zs) (passes g.MemberList a r (Classes ∷ st) zs h) in (i, i))
passes _ _ g.no_class = λ st zs h. h
passes _ ts (g.class_more a b q r s) = at g.ClassList ts _ q (λ st zs h.
    onto (Classes ∷ st) _ _ (append_assoc a b zs) (passes g.ClassDeclaration a r st (b ++ zs) (passes g.ClassList b s st zs h)).0)
passes _ _ g.no_member = λ st zs h. h
passes _ ts (g.member_more a b q r s) = at g.MemberList ts _ q (λ st zs h.
    onto (Members ∷ st) _ _ (append_assoc a b (CloseBrace ∷ zs)) (passes g.MemberDeclaration a r st (b ++ CloseBrace ∷ zs) (passes g.MemberList b s st zs h)))
passes _ ts (g.member_plain r) = λ st zs h. as_members st (ts ++ zs) (passes g.UnmodifiedMember ts r Members st zs h)
passes _ ts (g.member_access t a q i r) = at g.MemberDeclaration ts _ q (λ st zs h. accessed t st (a ++ zs) i (passes g.UnmodifiedMember a r Members st zs h))
passes _ ts (g.field n a q r) = at g.UnmodifiedMember ts _ q (λ s st zs h.
    onto (Member ∷ s ∷ st) _ _ (append_assoc a (Name n ∷ Semicolon ∷ []) zs) ((passes g.TypeName a r).in_member (s ∷ st) n (Semicolon ∷ zs) h))
passes _ ts (g.method n a b c d q r s t u) = at g.UnmodifiedMember ts _ q (λ v st zs h.
    onto (Member ∷ v ∷ st) _ _ (append_assoc a (Name n ∷ Open ∷ b ++ (Close ∷ c ++ d)) zs) (passes g.Result a r (v ∷ st) n _ (
    onto (Parameters ∷ v ∷ st) _ _ (append_assoc b (Close ∷ c ++ d) zs) (passes g.ParameterList b s (v ∷ st) _ (
    onto (Body ∷ v ∷ st) _ _ (append_assoc c d zs) (passes g.ThrowsClause c t (v ∷ st) _ (passes g.Block d u v st zs h).0))))))
passes _ ts (g.result_void q) = at g.Result ts _ q (λ st n zs h. h)
passes _ ts (g.result_type r) = λ st n zs h. (passes g.TypeName ts r).in_member st n (Open ∷ zs) h
passes _ ts (g.type_base t q i) = at g.TypeName ts _ q (typed_base t i)
passes _ ts (g.type_array t q i) = at g.TypeName ts _ q (typed_array t i)
passes _ _ g.no_parameter = λ st zs h. h
passes _ ts (g.parameter n a b q r s) = at g.ParameterList ts _ q (λ st zs h.
    onto (Parameters ∷ st) _ _ (append_assoc a (Name n ∷ b) (Close ∷ zs)) ((passes g.TypeName a r).in_parameters st n (b ++ Close ∷ zs) (passes g.MoreParameters b s st zs h)))
passes _ _ g.no_more_parameter = λ st zs h. h
passes _ ts (g.parameter_more n a b q r s) = at g.MoreParameters ts _ q (λ st zs h.
    onto (ParameterType ∷ Identifier ∷ MoreParameters ∷ st) _ _ (append_assoc a (Name n ∷ b) (Close ∷ zs)) ((passes g.TypeName a r).in_parameter (MoreParameters ∷ st) n (b ++ Close ∷ zs) (passes g.MoreParameters b s st zs h)))
passes _ _ g.no_throws = λ st zs h. as_body st zs h
passes _ ts (g.throws q) = at g.ThrowsClause ts _ q (λ st zs h. h)
passes _ ts (g.block a q r) = at g.Block ts _ q (λ s st zs h. (
  onto (Items ∷ s ∷ st) _ _ (append_assoc a (CloseBrace ∷ []) zs) (passes g.ItemList a r (s ∷ st) zs (ended 1 s st zs h)),
  onto (Items ∷ Ended 1 ∷ s ∷ st) _ _ (append_assoc a (CloseBrace ∷ []) zs) (passes g.ItemList a r (Ended 1 ∷ s ∷ st) zs (ended 1 (Ended 1) (s ∷ st) zs (ended 1 s st zs h))),
))
passes _ _ g.no_item = λ st zs h. h
passes _ ts (g.item_more a b q r s) = at g.ItemList ts _ q (λ st zs h.
    onto (Items ∷ st) _ _ (append_assoc a b (CloseBrace ∷ zs)) (items_go (Items ∷ st) a st (b ++ CloseBrace ∷ zs) (passes g.ItemList b s st zs h) (λ t us f i. passes g.Item a r st t us f i)))
passes _ ts (g.declaration n a b q r s) = at g.Item ts _ q (λ st t zs f h.
    onto (Items ∷ st) _ _ (append_assoc a (Name n ∷ Assign ∷ b ++ Semicolon ∷ []) (t ∷ zs)) ((passes g.TypeName a r).in_items st n _ (
    onto (Expression ∷ Need Semicolon ∷ Items ∷ st) _ _ (append_assoc b (Semicolon ∷ []) (t ∷ zs)) (passes g.Expression b s (Need Semicolon ∷ Items ∷ st) _ (goes_semicolon (Items ∷ st) (t ∷ zs) h)))))
passes _ ts (g.item_statement o r) = λ st t zs f h. as_items st (ts ++ t ∷ zs) (passes (g.Statement o) ts r Items st t zs (follows o t f) h)
passes _ ts (g.statement_block r) = λ s st t zs f h. (passes g.Block ts r s st (t ∷ zs) h).1
passes _ ts (g.empty q) = at (g.Statement false) ts _ q (λ s st t zs f h. h)
passes _ ts (g.simple a q e r) = λ s st t zs f h.
    let i : Accepts (Simple Nothing Alone 1 ∷ s ∷ st) ((a ++ Semicolon ∷ []) ++ t ∷ zs) = onto (Simple Nothing Alone 1 ∷ s ∷ st) _ _ (append_assoc a (Semicolon ∷ []) (t ∷ zs)) (passes g.SimpleStatement a r Alone 1 (s ∷ st) (Semicolon ∷ t ∷ zs) (ends_alone (s ∷ st) (t ∷ zs) (λ m. h))) in
    let j : begins_print ((a ++ Semicolon ∷ []) ++ t ∷ zs) ≡ false = same_print a (t ∷ zs) ∙ ap begins_print (sym q) ∙ e in
    onto (y.Statement ∷ s ∷ st) _ _ (ap (λ (us : List Role). us ++ t ∷ zs) q) (as_statement (s ∷ st) ((a ++ Semicolon ∷ []) ++ t ∷ zs) j i)
passes _ ts (g.if_alone o a b q r s) = at (g.Statement true) ts _ q (λ v st t zs f h.
    onto (Expression ∷ Need Close ∷ y.Statement ∷ Otherwise ∷ Ended 1 ∷ v ∷ st) _ _ (append_assoc a (Close ∷ b) (t ∷ zs)) (passes g.Expression a r _ _ (goes_close _ _ (
    passes (g.Statement o) b s Otherwise (Ended 1 ∷ v ∷ st) t zs (follows o t f) (past_else (v ∷ st) t zs f h)))))
passes _ ts (g.if_else o a b c q r s u) = at (g.Statement o) ts _ q (λ v st t zs f h.
    onto (Expression ∷ Need Close ∷ y.Statement ∷ Otherwise ∷ Ended 1 ∷ v ∷ st) _ _ (append_assoc a (Close ∷ b ++ Else ∷ c) (t ∷ zs)) (passes g.Expression a r _ _ (goes_close _ _ (
    onto (y.Statement ∷ Otherwise ∷ Ended 1 ∷ v ∷ st) _ _ (append_assoc b (Else ∷ c) (t ∷ zs)) (passes (g.Statement false) b s Otherwise (Ended 1 ∷ v ∷ st) Else (c ++ t ∷ zs) tt (
    passes (g.Statement o) c u (Ended 1) (v ∷ st) t zs f h))))))
passes _ ts (g.while_loop o a b q r s) = at (g.Statement o) ts _ q (λ v st t zs f h.
    onto (Expression ∷ Need Close ∷ y.Statement ∷ Ended 1 ∷ v ∷ st) _ _ (append_assoc a (Close ∷ b) (t ∷ zs)) (passes g.Expression a r _ _ (goes_close _ _ (
    passes (g.Statement o) b s (Ended 1) (v ∷ st) t zs f h))))
passes _ ts (g.for_loop o a b c d q r s u w) = at (g.Statement o) ts _ q (λ v st t zs f h.
    onto (ForInit ∷ v ∷ st) _ _ (append_assoc a (Semicolon ∷ b ++ (Semicolon ∷ c ++ (Close ∷ d))) (t ∷ zs)) (passes g.ForInit a r (v ∷ st) _ (λ m.
    onto (Expression ∷ Need Semicolon ∷ Simple Nothing Update m ∷ v ∷ st) _ _ (append_assoc b (Semicolon ∷ c ++ (Close ∷ d)) (t ∷ zs)) (passes g.Expression b s _ _ (goes_semicolon _ _ (
    onto (Simple Nothing Update m ∷ v ∷ st) _ _ (append_assoc c (Close ∷ d) (t ∷ zs)) (passes g.SimpleStatement c u Update m (v ∷ st) _ (ends_update (v ∷ st) _ (λ l.
    passes (g.Statement o) d w (Ended l) (v ∷ st) t zs f h)))))))))
passes _ ts (g.return_alone q) = at (g.Statement false) ts _ q (λ s st t zs f h. h)
passes _ ts (g.return_value a q r) = at (g.Statement false) ts _ q (λ s st t zs f h.
    as_returned (Ended 1 ∷ s ∷ st) ((a ++ Semicolon ∷ []) ++ t ∷ zs) (onto (Expression ∷ Need Semicolon ∷ Ended 1 ∷ s ∷ st) _ _ (append_assoc a (Semicolon ∷ []) (t ∷ zs)) (passes g.Expression a r _ _ (goes_semicolon (Ended 1 ∷ s ∷ st) (t ∷ zs) h))))
passes _ ts (g.print a q r) = at (g.Statement false) ts _ q (λ s st t zs f h.
    onto (Expression ∷ Need Close ∷ Need Semicolon ∷ Ended 1 ∷ s ∷ st) _ _ (append_assoc a (Close ∷ Semicolon ∷ []) (t ∷ zs)) (passes g.Expression a r _ _ (goes_close (Need Semicolon ∷ Ended 1 ∷ s ∷ st) (Semicolon ∷ t ∷ zs) h)))
passes _ ts (g.init_declaration n a b q r s) = at g.ForInit ts _ q (λ st zs h.
    onto (ForInit ∷ st) _ _ (append_assoc a (Name n ∷ Assign ∷ b) (Semicolon ∷ zs)) ((passes g.TypeName a r).in_for st n _ (
    passes g.Expression b s (Need Semicolon ∷ Expression ∷ Need Semicolon ∷ Simple Nothing Update 1 ∷ st) (Semicolon ∷ zs) (goes_semicolon _ zs (h 1)))))
passes _ ts (g.init_simple r) = λ st zs h. as_for_init st (ts ++ Semicolon ∷ zs) (passes g.SimpleStatement ts r Init 1 st (Semicolon ∷ zs) (ends_init st zs h))
passes _ ts (g.assign_name a b q r s) = at g.SimpleStatement ts _ q (λ v n st zs k.
    onto (Simple Nothing v n ∷ st) _ _ (append_assoc a (Assign ∷ b) zs) ((passes (g.Postfix g.OneName) a r).simple v n st (Assign ∷ b ++ zs) (λ m. passes g.Expression b s (Simple AValue v m ∷ st) zs (k.value m))))
passes _ ts (g.assign_field a b q r s) = at g.SimpleStatement ts _ q (λ v n st zs k.
    onto (Simple Nothing v n ∷ st) _ _ (append_assoc a (Assign ∷ b) zs) ((passes (g.Postfix g.Field) a r).simple v n st (Assign ∷ b ++ zs) (λ m. passes g.Expression b s (Simple AValue v m ∷ st) zs (k.value m))))
passes _ ts (g.assign_element a b q r s) = at g.SimpleStatement ts _ q (λ v n st zs k.
    onto (Simple Nothing v n ∷ st) _ _ (append_assoc a (Assign ∷ b) zs) ((passes (g.Postfix g.Element) a r).simple v n st (Assign ∷ b ++ zs) (λ m. passes g.Expression b s (Simple AValue v m ∷ st) zs (k.value m))))
passes _ ts (g.compound x b q s) = at g.SimpleStatement ts _ q (λ v n st zs k. passes g.Expression b s (Simple AValue v n ∷ st) zs (k.value n))
passes _ ts (g.stepped x q) = at g.SimpleStatement ts _ q (λ v n st zs k. k.ends n)
passes _ ts (g.called r) = λ v n st zs k. (passes (g.Postfix g.Call) ts r).simple v n st zs k.calls
passes _ ts (g.operand r) = λ st zs k. as_expression st (ts ++ zs) (passes g.Unary ts r 1 0 st zs k)
passes _ ts (g.infix_of t a b q i r s) = at g.Expression ts _ q (λ st zs k.
    onto (Expression ∷ st) _ _ (append_assoc a (t ∷ b) zs) (passes g.Expression a r st (t ∷ b ++ zs) (goes_infix t st (b ++ zs) i (λ m. passes g.Unary b s m 0 st zs k))))
passes _ ts (g.prefix t a q i r) = at g.Unary ts _ q (λ n p st zs k. prefixed t n p st (a ++ zs) i (passes g.Unary a r n (p + 1) st zs k))
passes _ ts (g.cast a q r) = at g.Unary ts _ q (λ n p st zs k. passes g.Unary a r n (p + 1) st zs k)
passes _ ts (g.postfix k r) = λ n p st zs c. (passes (g.Postfix k) ts r).expression n p st zs (λ m v. from_goes k m v st zs c)
passes _ ts (g.value q) = at (g.Postfix g.Primary) ts _ q (record { expression = λ n p st zs h. h n p; simple = λ v n st zs h. h n })
passes _ ts (g.name x q) = at (g.Postfix g.OneName) ts _ q (record { expression = λ n p st zs h. h n p; simple = λ v n st zs h. h n })
passes _ ts (g.own_call x a q r) = at (g.Postfix g.Call) ts _ q (record {
  expression = λ n p st zs h. (passes g.Arguments a r).in_call (Tail n p ∷ st) zs (h n p);
  simple = λ v n st zs h. (passes g.Arguments a r).on_name v n st zs (h n);
})
passes _ ts (g.group a q r) = at (g.Postfix g.Primary) ts _ q (record {
  expression = λ n p st zs h. as_parenthesis n p st ((a ++ Close ∷ []) ++ zs) (onto (Expression ∷ Need Close ∷ Tail n p ∷ st) _ _ (append_assoc a (Close ∷ []) zs) (passes g.Expression a r _ _ (goes_close (Tail n p ∷ st) zs (h n p))));
  simple = λ v n st zs h. onto (Expression ∷ Need Close ∷ Simple APrimary v n ∷ st) _ _ (append_assoc a (Close ∷ []) zs) (passes g.Expression a r _ _ (goes_close (Simple APrimary v n ∷ st) zs (h n)));
})
passes _ ts (g.new_object x q) = at (g.Postfix g.Primary) ts _ q (record { expression = λ n p st zs h. h n p; simple = λ v n st zs h. h n })
passes _ ts (g.new_array t a q i r) = at (g.Postfix g.Array) ts _ q (record {
  expression = λ n p st zs h. array_expression t n p st _ i (onto (Expression ∷ Need CloseBracket ∷ ArrayTail n p ∷ st) _ _ (append_assoc a (CloseBracket ∷ []) zs) (passes g.Expression a r _ _ (goes_bracket (ArrayTail n p ∷ st) zs (h n p))));
  simple = λ v n st zs h. array_simple t v n st _ i (onto (Expression ∷ Need CloseBracket ∷ Simple AnArray v n ∷ st) _ _ (append_assoc a (CloseBracket ∷ []) zs) (passes g.Expression a r _ _ (goes_bracket (Simple AnArray v n ∷ st) zs (h n))));
})
passes _ ts (g.dot k x a q r) = at (g.Postfix g.Field) ts _ q (record {
  expression = λ n p st zs h. onto (Operand n p ∷ st) _ _ (append_assoc a (Dot ∷ Name x ∷ []) zs) ((passes (g.Postfix k) a r).expression n p st (Dot ∷ Name x ∷ zs) (λ m v. on_dot k m v st (Name x ∷ zs) (h (m + 1) v)));
  simple = λ v n st zs h. onto (Simple Nothing v n ∷ st) _ _ (append_assoc a (Dot ∷ Name x ∷ []) zs) ((passes (g.Postfix k) a r).simple v n st (Dot ∷ Name x ∷ zs) (λ m. simple_dot k v m st (Name x ∷ zs) (h (m + 1))));
})
passes _ ts (g.dot_call k x a b q r s) = at (g.Postfix g.Call) ts _ q (record {
  expression = λ n p st zs h. onto (Operand n p ∷ st) _ _ (append_assoc a (Dot ∷ Name x ∷ b) zs) ((passes (g.Postfix k) a r).expression n p st (Dot ∷ Name x ∷ b ++ zs) (λ m v. on_dot k m v st (Name x ∷ b ++ zs) ((passes g.Arguments b s).in_call (Tail (m + 1) v ∷ st) zs (h (m + 1) v))));
  simple = λ v n st zs h. onto (Simple Nothing v n ∷ st) _ _ (append_assoc a (Dot ∷ Name x ∷ b) zs) ((passes (g.Postfix k) a r).simple v n st (Dot ∷ Name x ∷ b ++ zs) (λ m. simple_dot k v m st (Name x ∷ b ++ zs) ((passes g.Arguments b s).on_field v (m + 1) st zs (h (m + 1)))));
})
passes _ ts (g.index k a b q e r s) = at (g.Postfix g.Element) ts _ q (record {
  expression = λ n p st zs h. onto (Operand n p ∷ st) _ _ (append_assoc a (OpenBracket ∷ b ++ CloseBracket ∷ []) zs) ((passes (g.Postfix k) a r).expression n p st _ (λ m v. on_index k m v st _ e (onto (Expression ∷ Need CloseBracket ∷ Tail (m + 1) v ∷ st) _ _ (append_assoc b (CloseBracket ∷ []) zs) (passes g.Expression b s _ _ (goes_bracket (Tail (m + 1) v ∷ st) zs (h (m + 1) v))))));
  simple = λ v n st zs h. onto (Simple Nothing v n ∷ st) _ _ (append_assoc a (OpenBracket ∷ b ++ CloseBracket ∷ []) zs) ((passes (g.Postfix k) a r).simple v n st _ (λ m. simple_index k v m st _ e (onto (Expression ∷ Need CloseBracket ∷ Simple AnElement v (m + 1) ∷ st) _ _ (append_assoc b (CloseBracket ∷ []) zs) (passes g.Expression b s _ _ (goes_bracket (Simple AnElement v (m + 1) ∷ st) zs (h (m + 1)))))));
})
passes _ ts (g.arguments a q r) = at g.Arguments ts _ q (record {
  in_call = λ st zs h. onto (ArgumentList ∷ st) _ _ (append_assoc a (Close ∷ []) zs) (passes g.Expressions a r st zs h);
  on_name = λ v n st zs h. onto (ArgumentList ∷ Simple ACall v n ∷ st) _ _ (append_assoc a (Close ∷ []) zs) (passes g.Expressions a r (Simple ACall v n ∷ st) zs h);
  on_field = λ v n st zs h. onto (ArgumentList ∷ Simple ACall v n ∷ st) _ _ (append_assoc a (Close ∷ []) zs) (passes g.Expressions a r (Simple ACall v n ∷ st) zs h);
})
passes _ _ g.no_expression = λ st zs h. h
passes _ ts (g.expressions a b q r s) = at g.Expressions ts _ q (λ st zs h.
    as_argument_list st ((a ++ b) ++ Close ∷ zs) (onto (Expression ∷ MoreArguments ∷ st) _ _ (append_assoc a b (Close ∷ zs)) (passes g.Expression a r (MoreArguments ∷ st) (b ++ Close ∷ zs) (goes_more st _ (passes g.MoreExpressions b s st zs h)))))
passes _ _ g.no_more_expression = λ st zs h. h
passes _ ts (g.expression_more a b q r s) = at g.MoreExpressions ts _ q (λ st zs h.
    onto (Expression ∷ MoreArguments ∷ st) _ _ (append_assoc a b (Close ∷ zs)) (passes g.Expression a r (MoreArguments ∷ st) (b ++ Close ∷ zs) (goes_more st _ (passes g.MoreExpressions b s st zs h))))

-- refused is refused, whatever follows
by_step : (o : Option (List Symbol)) (ts more : List Role) → ((st : List Symbol) → run st ts ≡ None → run st (ts ++ more) ≡ None) → option_and_then (λ next. run next ts) o ≡ None → option_and_then (λ next. run next (ts ++ more)) o ≡ None
by_step None ts more r h = refl
by_step (Some next) ts more r h = r next h

stays_refused : (ts more : List Role) (st : List Symbol) → run st ts ≡ None → run st (ts ++ more) ≡ None
unfolding run
stays_refused [] more st h = cc
stays_refused (t ∷ ts) more st h = by_step (step st t) ts more (stays_refused ts more) h

apart : (o : Option (List Symbol)) → o ≡ None → (let end : Option (List Symbol) = Some [] in o ≡ end) → ⊥
apart o a b = cc

-- no program begins with tokens that the machine refuses
pub dead : (ts more all : List Role) → run start ts ≡ None → Spelled g.Program all → all ++ End ∷ [] ≡ ts ++ more → ⊥
dead ts more all h s e =
    let a = stays_refused ts more start h in
    let b = ap (run start) (sym e) ∙ passes g.Program all s in
    apart (run start (ts ++ more)) a b
