-- In an accepted program each number is given once at most.
use Rattle.std.proofs.Common.{◌≡◌, ℕ, ◌+◌, ◌<◌, ◌≤◌, nat_eq, nat_lt, Bool, true, false, if◌then◌else◌, List, [], ◌∷◌, ◌++◌, map, refl, sym, subst, arith}
use Rattle.std.proofs.lemmas.Bool.Decides.{nat_tests}
use Rattle.px_tree.specs.declared.Expr.{Expr}
use Rattle.px_tree.specs.declared.Stmt.{Stmt}
use Rattle.px_tree.specs.declared.Method.{Method}
use Rattle.px_tree.specs.declared.Member.{Member}
use Rattle.px_tree.specs.declared.Class.{Class}
use Rattle.px_mean.specs.Program.{methods_in, methods_of}
use Rattle.px_soundness.specs.Numbered.{IsExpr, AreExprs, IsStmt, AreStmts, AreMembers, AreClasses}
use Rattle.px_counted.specs.Numbers.{all_of, one_if, given, given_statement, given_methods}
use Rattle.px_counted.proofs.GivenNumbers.{given_number, given_text, given_true, given_false, given_null, given_this, given_name, given_group, given_field, given_index, given_own_call, given_call, given_new_object, given_new_array, given_prefix, given_binary, given_block, given_empty, given_local, given_assign, given_compound, given_up, given_down, given_call_statement, given_if_only, given_if_else, given_while, given_for, given_leave, given_return, given_print}

-- a number is given so often, and only from the first on and before the second
record Within (number from to times : ℕ) : Type 0 where
  few : times ≤ 1
  below : number < from → times ≡ 0
  above : to ≤ number → times ≡ 0
  rises : from ≤ to

is_less : (a b : ℕ) → nat_lt a b ≡ true → a < b
is_less a b h = grind (arith, nat_tests)

is_more : (a b : ℕ) → nat_lt a b ≡ false → b ≤ a
is_more a b h = grind (arith, nat_tests)

module _ (number : ℕ) where
  nowhere : (from : ℕ) → Within number from from 0
  nowhere from = record { few = omega (arith); below = λ h. refl; above = λ h. refl; rises = omega (arith) }

  both : (from mid to a b : ℕ) → Within number from mid a → Within number mid to b → Within number from to (a + b)
  both from mid to a b x y = by (nat_lt number mid) refl
    where
      by : (less : Bool) → nat_lt number mid ≡ less → Within number from to (a + b)
      by true e =
          let none = y.below (is_less number mid e) in
          let few = x.few in
          let r1 = x.rises in
          let r2 = y.rises in
          record {
            few = omega (arith, none, few);
            below = λ h. let z = x.below h in omega (arith, none, z);
            above = λ h. let l = is_less number mid e in absurd (omega (arith, h, l, r2));
            rises = omega (arith, r1, r2);
          }
      by false e =
          let none = x.above (is_more number mid e) in
          let few = y.few in
          let r1 = x.rises in
          let r2 = y.rises in
          record {
            few = omega (arith, none, few);
            below = λ h. let l = is_more number mid e in absurd (omega (arith, h, l, r1));
            above = λ h. let z = y.above h in omega (arith, none, z);
            rises = omega (arith, r1, r2);
          }

  one_by : (id : ℕ) (same : Bool) → nat_eq number id ≡ same → Within number id (id + 1) (if same then 1 else 0)
  one_by id true e =
      let s : number ≡ id = grind (arith, nat_tests) in
      record { few = omega (arith); below = λ h. absurd (omega (arith, h, s)); above = λ h. absurd (omega (arith, h, s)); rises = omega (arith) }
  one_by id false e = record { few = omega (arith); below = λ h. refl; above = λ h. refl; rises = omega (arith) }

  own : (id : ℕ) → Within number id (id + 1) (one_if number id)
  own id = one_by id (nat_eq number id) refl

  at_own : (id m a times : ℕ) → times ≡ one_if number id + a → Within number (id + 1) m a → Within number id m times
  at_own id m a times e w = subst (λ (n : ℕ). Within number id m n) (sym e) (both id (id + 1) m (one_if number id) a (own id) w)

  leaf : (id times : ℕ) → times ≡ one_if number id + 0 → Within number id (id + 1) times
  leaf id times e = at_own id (id + 1) 0 times e (nowhere (id + 1))

  nothing_more : (from to a : ℕ) → Within number from to a → Within number from to (a + 0)
  nothing_more from to a w = both from to to a 0 w (nowhere to)

  mutual
    in_expr : (n m : ℕ) (x : Expr) → IsExpr n x m → Within number n m (given number x)
    in_expr _ _ _ (IsExpr.number x digits long h) = leaf x.id _ (given_number number x digits long h)
    in_expr _ _ _ (IsExpr.text x bytes h) = leaf x.id _ (given_text number x bytes h)
    in_expr _ _ _ (IsExpr.truth x h) = leaf x.id _ (given_true number x h)
    in_expr _ _ _ (IsExpr.falsehood x h) = leaf x.id _ (given_false number x h)
    in_expr _ _ _ (IsExpr.null x h) = leaf x.id _ (given_null number x h)
    in_expr _ _ _ (IsExpr.this x h) = leaf x.id _ (given_this number x h)
    in_expr _ _ _ (IsExpr.variable x name h) = leaf x.id _ (given_name number x name h)
    in_expr _ _ _ (IsExpr.group m x inner h d) = at_own x.id m _ _ (given_group number x inner h) (in_expr (x.id + 1) m inner d)
    in_expr _ _ _ (IsExpr.field m x of name h d) = at_own x.id m _ _ (given_field number x of name h) (in_expr (x.id + 1) m of d)
    in_expr _ _ _ (IsExpr.indexed k m x of index h d e) = at_own x.id m _ _ (given_index number x of index h) (both (x.id + 1) k m _ _ (in_expr (x.id + 1) k of d) (in_expr k m index e))
    in_expr _ _ _ (IsExpr.own_call m x name args h d) = at_own x.id m _ _ (given_own_call number x name args h) (both (x.id + 1) (x.id + 1) m 0 _ (nowhere (x.id + 1)) (in_exprs (x.id + 1) m args d))
    in_expr _ _ _ (IsExpr.call k m x of name args h d e) = at_own x.id m _ _ (given_call number x of name args h) (both (x.id + 1) k m _ _ (in_expr (x.id + 1) k of d) (in_exprs k m args e))
    in_expr _ _ _ (IsExpr.new_object x name h) = leaf x.id _ (given_new_object number x name h)
    in_expr _ _ _ (IsExpr.new_array m x base size h b d) = at_own x.id m _ _ (given_new_array number x size base h) (in_expr (x.id + 1) m size d)
    in_expr _ _ _ (IsExpr.prefix m x s y h p d) = at_own x.id m _ _ (given_prefix number x y s h) (in_expr (x.id + 1) m y d)
    in_expr _ _ _ (IsExpr.binary k m x s at l r h b d e) = at_own x.id m _ _ (given_binary number x l r s at h) (both (x.id + 1) k m _ _ (in_expr (x.id + 1) k l d) (in_expr k m r e))

    in_exprs : (n m : ℕ) (xs : List Expr) → AreExprs n xs m → Within number n m (all_of (map (given number) xs))
    in_exprs _ _ _ (AreExprs.none n) = nowhere n
    in_exprs _ _ _ (AreExprs.more n k m x xs d e) = both n k m _ _ (in_expr n k x d) (in_exprs k m xs e)

  mutual
    in_stmt : (n m : ℕ) (x : Stmt) → IsStmt n x m → Within number n m (given_statement number x)
    in_stmt _ _ _ (IsStmt.block m x items h d) = at_own x.id m _ _ (given_block number x items h) (in_stmts (x.id + 1) m items d)
    in_stmt _ _ _ (IsStmt.empty x h) = leaf x.id _ (given_empty number x h)
    in_stmt _ _ _ (IsStmt.local m x t name value h i d) = at_own x.id m _ _ (given_local number x t name value h) (in_expr (x.id + 1) m value d)
    in_stmt _ _ _ (IsStmt.assign k m x place value h d e) = at_own x.id m _ _ (given_assign number x place value h) (both (x.id + 1) k m _ _ (in_expr (x.id + 1) k place d) (in_expr k m value e))
    in_stmt _ _ _ (IsStmt.compound m x name s value h d) = at_own x.id m _ _ (given_compound number x name s value h) (in_expr (x.id + 1) m value d)
    in_stmt _ _ _ (IsStmt.up x name h) = leaf x.id _ (given_up number x name h)
    in_stmt _ _ _ (IsStmt.down x name h) = leaf x.id _ (given_down number x name h)
    in_stmt _ _ _ (IsStmt.call m x value h d) = at_own x.id m _ _ (given_call_statement number x value h) (in_expr (x.id + 1) m value d)
    in_stmt _ _ _ (IsStmt.if_only k m x test a h d e) = at_own x.id m _ _ (given_if_only number x test a h) (both (x.id + 1) k m _ _ (in_expr (x.id + 1) k test d) (nothing_more k m _ (in_stmt k m a e)))
    in_stmt _ _ _ (IsStmt.if_else k j m x test a b h d e i) = at_own x.id m _ _ (given_if_else number x test a b h) (both (x.id + 1) k m _ _ (in_expr (x.id + 1) k test d) (both k j m _ _ (in_stmt k j a e) (in_stmt j m b i)))
    in_stmt _ _ _ (IsStmt.while k m x test body h d e) = at_own x.id m _ _ (given_while number x test body h) (both (x.id + 1) k m _ _ (in_expr (x.id + 1) k test d) (in_stmt k m body e))
    in_stmt _ _ _ (IsStmt.for_loop k j i m x first test last body h d e u v) = at_own x.id m _ _ (given_for number x first test last body h) (both (x.id + 1) k m _ _ (in_stmt (x.id + 1) k first d) (both k j m _ _ (in_expr k j test e) (both j i m _ _ (in_stmt j i last u) (in_stmt i m body v))))
    in_stmt _ _ _ (IsStmt.leave x h) = leaf x.id _ (given_leave number x h)
    in_stmt _ _ _ (IsStmt.give m x value h d) = at_own x.id m _ _ (given_return number x value h) (in_expr (x.id + 1) m value d)
    in_stmt _ _ _ (IsStmt.print m x value h d) = at_own x.id m _ _ (given_print number x value h) (in_expr (x.id + 1) m value d)

    in_stmts : (n m : ℕ) (xs : List Stmt) → AreStmts n xs m → Within number n m (all_of (map (given_statement number) xs))
    in_stmts _ _ _ (AreStmts.none n) = nowhere n
    in_stmts _ _ _ (AreStmts.more n k m x xs d e) = both n k m _ _ (in_stmt n k x d) (in_stmts k m xs e)

  in_members : (n m : ℕ) (ms : List Member) → AreMembers n ms m → Within number n m (given_methods number (methods_in ms))
  in_members _ _ _ (AreMembers.none n) = nowhere n
  in_members _ _ _ (AreMembers.field n m f ms i d) = in_members n m ms d
  in_members _ _ _ (AreMembers.method n k m x ms r p b d) = both n k m _ _ (in_stmt n k x.body b) (in_members k m ms d)

  given_append : (xs ys : List Method) → given_methods number (xs ++ ys) ≡ given_methods number xs + given_methods number ys
  given_append [] ys = omega (arith)
  given_append (x ∷ xs) ys = let rest = given_append xs ys in omega (arith, rest)

  in_classes : (n m : ℕ) (cs : List Class) → AreClasses n cs m → Within number n m (given_methods number (methods_of cs))
  in_classes _ _ _ (AreClasses.none n) = nowhere n
  in_classes _ _ _ (AreClasses.more n k m c cs d e) = subst (λ (t : ℕ). Within number n m t) (sym (given_append (methods_in c.members) (methods_of cs))) (both n k m _ _ (in_members n k c.members d) (in_classes k m cs e))

pub numbers_given_once : (m : ℕ) (cs : List Class) → AreClasses 0 cs m → (number : ℕ) → given_methods number (methods_of cs) ≤ 1
numbers_given_once m cs d number = (in_classes number 0 m cs d).few
