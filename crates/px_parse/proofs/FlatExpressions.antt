-- What spells a type or an expression has roles that are one.
use Rattle.std.proofs.Common.{◌≢◌, ℕ, List, [], ◌∷◌, ◌++◌, refl, sym, ap, subst, append_assoc}
use Rattle.std.proofs.lemmas.List.{map-append}
use Rattle.px_words.specs.declared.lexeme.Lexeme.{Lexeme}
use Rattle.px_tree.specs.declared.Expr.{Expr}
use Rattle.px_tree.specs.declared.TypeName.{TypeName}
use Rattle.px_accept.specs.declared.role.Role.{Role}
use Rattle.px_accept.specs.declared.role.Role.TheVariants as r
use Rattle.px_accept.specs.Grammar as f
use Rattle.px_accept.specs.Grammar.{Spelled}
use Rattle.px_parse.specs.Grammar as g
use Rattle.px_parse.specs.Grammar.{SpellsType, SpellsExpression, SpellsOperand, SpellsPostfix, SpellsArguments, SpellsMoreArguments, AtName, AtField, AtElement, AtCall, AtArray, AtPrimary}
use Rattle.px_words.specs.Roles.{role_of, role_at, roles_of}
use Rattle.px_parse.proofs.PartsOf.{roles_join}
use Rattle.px_parse.proofs.RolesOf.{name_of_word, base_of_word, infix_of_word, prefix_of_word, cast_of_word, value_of_word}

pub flat_type : (source : List ℕ) (ty : TypeName) (xs : List Lexeme) → SpellsType source ty xs → Spelled f.TypeName (roles_of xs)
flat_type source _ _ (g.SpellsType.single x h) = f.type_base (role_of x.word) refl (base_of_word x.word h)
flat_type source _ _ (g.SpellsType.array x opening closing h i j) = f.type_array (role_of x.word) (simp (ap role_of i, ap role_of j)) (base_of_word x.word h)

abbrev pub ending_of : g.Ending → f.Ending
ending_of AtName = f.OneName
ending_of AtField = f.Field
ending_of AtElement = f.Element
ending_of AtCall = f.Call
ending_of AtArray = f.Array
ending_of AtPrimary = f.Primary

other_ending : (k : g.Ending) → k ≢ AtArray → ending_of k ≢ f.Array
other_ending AtArray h = λ e. h refl
other_ending _ h = λ e. cc

-- an expression, an operator and an expression are one, whose last operand is that of the right one
pub joined : (a : List Role) (t : Role) (b : List Role) → f.IsInfix t → Spelled f.Expression a → Spelled f.Expression b → Spelled f.Expression (a ++ t ∷ b)
joined a t b i s (f.operand u) = f.infix_of t a b refl i s u
joined a t b i s (f.infix_of u c d e j v x) = f.infix_of u (a ++ t ∷ c) d (rw e (simp append_assoc)) j (joined a t c i s v) x

mutual
  pub flat_expression : (source : List ℕ) (k : ℕ) (e : Expr) (xs : List Lexeme) → SpellsExpression source k e xs → Spelled f.Expression (roles_of xs)
  flat_expression source _ e xs (g.SpellsExpression.operand s) = f.operand (flat_operand source e xs s)
  flat_expression source _ _ _ (g.SpellsExpression.binary at op k m l r ls rs h i j s t) =
      subst (λ (ts : List Role). Spelled f.Expression ts) (sym (map-append role_at ls (at ∷ rs))) (joined (roles_of ls) (role_of at.word) (roles_of rs) (infix_of_word at.word op h) (flat_expression source k l ls s) (flat_expression source m r rs t))

  pub flat_operand : (source : List ℕ) (e : Expr) (xs : List Lexeme) → SpellsOperand source e xs → Spelled f.Unary (roles_of xs)
  flat_operand source _ _ (g.SpellsOperand.prefix x op e xs h s) = f.prefix (role_of x.word) (roles_of xs) refl (prefix_of_word x.word op h) (flat_operand source e xs s)
  flat_operand source _ _ (g.SpellsOperand.cast opening x closing op e xs h i j s) = f.cast (roles_of xs) (simp (ap role_of h, cast_of_word x.word op i, ap role_of j)) (flat_operand source e xs s)
  flat_operand source e xs (g.SpellsOperand.postfix ending s) = f.postfix (ending_of ending) (flat_postfix source ending e xs s)

  pub flat_postfix : (source : List ℕ) (ending : g.Ending) (e : Expr) (xs : List Lexeme) → SpellsPostfix source ending e xs → Spelled (f.Postfix (ending_of ending)) (roles_of xs)
  flat_postfix source _ _ _ (g.SpellsPostfix.number x h) = f.value (simp (ap role_of h))
  flat_postfix source _ _ _ (g.SpellsPostfix.text x h) = f.value (simp (ap role_of h))
  flat_postfix source _ _ _ (g.SpellsPostfix.word x form h) = f.value (simp (value_of_word x.word form h))
  flat_postfix source _ _ _ (g.SpellsPostfix.variable x h) = let n = name_of_word x.word h in f.name n.0 (simp n.1)
  flat_postfix source _ _ _ (g.SpellsPostfix.own_call x args xs h s) = let n = name_of_word x.word h in f.own_call n.0 (roles_of xs) (simp n.1) (flat_arguments source args xs s)
  flat_postfix source _ _ _ (g.SpellsPostfix.group opening closing k inner xs h i s) = f.group (roles_of xs) (cc (roles_join xs (closing ∷ []))) (flat_expression source k inner xs s)
  flat_postfix source _ _ _ (g.SpellsPostfix.object new name opening closing h i j k) = let n = name_of_word name.word i in f.new_object n.0 (simp (ap role_of h, n.1, ap role_of j, ap role_of k))
  flat_postfix source _ _ _ (g.SpellsPostfix.array new base opening closing k size xs h i j l s) =
      f.new_array (role_of base.word) (roles_of xs) (cc (roles_join xs (closing ∷ []))) (base_of_word base.word i) (flat_expression source k size xs s)
  flat_postfix source _ _ _ (g.SpellsPostfix.field ending of xs dot name h i s) = let n = name_of_word name.word i in f.dot (ending_of ending) n.0 (roles_of xs) (simp (map-append, ap role_of h, n.1)) (flat_postfix source ending of xs s)
  flat_postfix source _ _ _ (g.SpellsPostfix.call ending of args xs ys dot name h i s t) =
      let n = name_of_word name.word i in
      f.dot_call (ending_of ending) n.0 (roles_of xs) (roles_of ys) (simp (map-append, ap role_of h, n.1)) (flat_postfix source ending of xs s) (flat_arguments source args ys t)
  flat_postfix source _ _ _ (g.SpellsPostfix.element ending of index k xs ys opening closing h i j s t) =
      f.index (ending_of ending) (roles_of xs) (roles_of ys) (cc (append_assoc xs (opening ∷ ys) (closing ∷ []), roles_join xs (opening ∷ ys ++ closing ∷ []), roles_join ys (closing ∷ []))) (other_ending ending h) (flat_postfix source ending of xs s) (flat_expression source k index ys t)

  pub flat_arguments : (source : List ℕ) (args : List Expr) (xs : List Lexeme) → SpellsArguments source args xs → Spelled f.Arguments (roles_of xs)
  flat_arguments source _ _ (g.SpellsArguments.no_argument opening closing h i) = f.arguments [] (simp (ap role_of h, ap role_of i)) f.no_expression
  flat_arguments source _ _ (g.SpellsArguments.arguments opening closing k e es xs ys h i s t) =
      f.arguments (roles_of xs ++ roles_of ys) (cc (append_assoc (roles_of xs) (roles_of ys) (r.Close ∷ []), roles_join xs (ys ++ closing ∷ []), roles_join ys (closing ∷ []))) (f.expressions (roles_of xs) (roles_of ys) refl (flat_expression source k e xs s) (flat_more_arguments source es ys t))

  pub flat_more_arguments : (source : List ℕ) (args : List Expr) (xs : List Lexeme) → SpellsMoreArguments source args xs → Spelled f.MoreExpressions (roles_of xs)
  flat_more_arguments source _ _ g.SpellsMoreArguments.no_more = f.no_more_expression
  flat_more_arguments source _ _ (g.SpellsMoreArguments.more comma k e es xs ys h s t) =
      f.expression_more (roles_of xs) (roles_of ys) (cc (roles_join xs ys)) (flat_expression source k e xs s) (flat_more_arguments source es ys t)
