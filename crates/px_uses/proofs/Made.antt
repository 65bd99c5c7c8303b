-- What is asked of an expression or a statement, and its parts, by its form.
use Rattle.std.proofs.Common.{◌≡◌, ℕ, zero, suc, Bool, true, false, List, [], ◌∷◌, Option, Some, None, slice_get, sym, ap, ◌∙◌, subst}
use Rattle.px_value.specs.declared.op.Op.TheVariants as op
use Rattle.px_tree.specs.declared.Sign.{Sign}
use Rattle.px_tree.specs.declared.Base.{Base}
use Rattle.px_tree.specs.declared.Name.{Name as NameData}
use Rattle.px_tree.specs.declared.TypeName.{TypeName}
use Rattle.px_tree.specs.declared.Expr.{Expr}
use Rattle.px_tree.specs.declared.ExprForm.{ExprForm, ExprForm-F, out-ExprForm, out-roll-ExprForm, roll-ExprForm}
use Rattle.px_tree.specs.declared.ExprForm.TheVariants.{Number, rolls-Number, Str, rolls-Str, True, rolls-True, False, rolls-False, Null, rolls-Null, This, rolls-This, Name, rolls-Name, Group, rolls-Group, Field, rolls-Field, Index, rolls-Index, Call, rolls-Call, NewObject, rolls-NewObject, NewArray, rolls-NewArray, Prefix, rolls-Prefix, Binary, rolls-Binary}
use Rattle.px_tree.specs.declared.ExprForm.TheOpen.{ExprForm-F as f}
use Rattle.px_tree.specs.declared.Stmt.{Stmt}
use Rattle.px_tree.specs.declared.StmtForm.{StmtForm, StmtForm-F, out-StmtForm, out-roll-StmtForm, roll-StmtForm}
use Rattle.px_tree.specs.declared.StmtForm.TheVariants.{Block, rolls-Block, Empty, rolls-Empty, Local, rolls-Local, Assign, rolls-Assign, Compound, rolls-Compound, Up, rolls-Up, Down, rolls-Down, Call as CallStmt, rolls-Call as rolls-CallStmt, If, rolls-If, While, rolls-While, For, rolls-For, Return, rolls-Return, Print, rolls-Print}
use Rattle.px_tree.specs.declared.StmtForm.TheOpen.{StmtForm-F as g}
use Rattle.px_facts.specs.declared.types.Ty.{Ty}
use Rattle.px_facts.specs.declared.types.Ty.TheVariants as ty
use Rattle.px_facts.specs.Types.{is_void, is_printable}
use Rattle.px_facts.specs.declared.checked.Facts.{Facts}
use Rattle.px_facts.specs.declared.checked.Named.{Named}
use Rattle.px_facts.specs.declared.checked.Named.TheVariants as named
use Rattle.px_facts.specs.declared.operation.Operation.{Operation}
use Rattle.px_mean.specs.Facts.{type_at, named_at, by_number, op_of}
use Rattle.px_mean.specs.Typing.{is_select, IsLibrary}
use Rattle.px_uses.specs.Uses.{joins, IsPart, is_choice, AsksRows, IsAsked, IsUsed, IsIn, IsInner, IsAskedOf, AreUsed}

some_is : {A : Type 0} {x y : A} → Some x ≡ Some y → x ≡ y
some_is h = cc h

-- ---- what a call names

pub method_asks : (F : Facts) (n : Named) (method : ℕ) → n ≡ named.Method method → AsksRows F n
method_asks F n method h number site o e k = absurd (cc (sym h ∙ e))

pub update_asks : (F : Facts) (n : Named) (number : ℕ) → n ≡ named.Update number → AsksRows F n
update_asks F n own h number site o e k = absurd (cc (sym h ∙ e))

pub library_asks : (F : Facts) (n : Named) (of t : Ty) (params : List Ty) → IsLibrary n of params t → AsksRows F n
library_asks F _ _ _ _ IsLibrary.text_length number site o e k = absurd (cc e)
library_asks F _ _ _ _ IsLibrary.text_equals number site o e k = absurd (cc e)
library_asks F _ _ _ _ IsLibrary.next number site o e k = absurd (cc e)
library_asks F _ _ _ _ IsLibrary.get_long number site o e k = absurd (cc e)
library_asks F _ _ _ _ IsLibrary.get_string number site o e k = absurd (cc e)

pub query_asks : (F : Facts) (n : Named) (own own_site : ℕ) (o : Operation) → n ≡ named.Query own own_site → by_number F.operations own ≡ Some o → is_select o.statement ≡ true → AsksRows F n
query_asks F n own own_site o h k rows number site p e i =
    let same : own ≡ number = cc (sym h ∙ e) in
    subst (λ (x : Operation). is_select x.statement ≡ true) (some_is (sym k ∙ ap (λ (m : ℕ). by_number F.operations m) same ∙ i)) rows

-- ---- expressions

abbrev pub AllUsed : Facts → List Expr → Type 0
AllUsed F [] = Unit {0}
AllUsed F (x ∷ xs) = IsUsed F x × AllUsed F xs

one_used : (F : Facts) (xs : List Expr) (place : ℕ) (y : Expr) → AllUsed F xs → slice_get xs place ≡ Some y → IsUsed F y
one_used F [] place y all h = absurd (cc h)
one_used F (x ∷ xs) zero y all h = subst (IsUsed F) (some_is h) all.0
one_used F (x ∷ xs) (suc place) y all h = one_used F xs place y all.1 h

abbrev pub receiver_and : Option Expr → List Expr → List Expr
receiver_and None args = args
receiver_and (Some of) args = of ∷ args

all_arguments : (F : Facts) (of : Option Expr) (args : List Expr) → AllUsed F (receiver_and of args) → AllUsed F args
all_arguments F None args all = all
all_arguments F (Some of) args all = all.1

-- the expressions in one of a form
abbrev parts_of : ExprForm-F ExprForm Expr → List Expr
parts_of (f.Group y) = y ∷ []
parts_of (f.Field y n) = y ∷ []
parts_of (f.Index y i) = y ∷ i ∷ []
parts_of (f.Call of n args) = receiver_and of args
parts_of (f.NewArray b y) = y ∷ []
parts_of (f.Prefix s y) = y ∷ []
parts_of (f.Binary s at l r) = l ∷ r ∷ []
parts_of _ = []

abbrev pub JoinsWell : Facts → Sign → Expr → Expr → Type 0
JoinsWell F s l r = op_of s (type_at F l.id) (type_at F r.id) ≡ op.Concat → joins (type_at F l.id) (type_at F r.id) ≡ true

-- what is asked of one of a form with this number
abbrev Asks : Facts → ℕ → ExprForm-F ExprForm Expr → Type 0
Asks F id (f.Index y i) = type_at F i.id ≡ ty.Int
Asks F id (f.NewArray b y) = type_at F y.id ≡ ty.Int
Asks F id (f.Call of n args) = AsksRows F (named_at F id)
Asks F id (f.Binary s at l r) = (is_choice s ≡ true → type_at F id ≡ ty.Boolean) × JoinsWell F s l r
Asks F id _ = Unit {0}

module _ (F : Facts) (x : Expr) where
  out_is : (y : ExprForm-F ExprForm Expr) → x.form ≡ roll-ExprForm y → out-ExprForm x.form ≡ y
  out_is y h = ap out-ExprForm h ∙ out-roll-ExprForm y

  parts_as : AllUsed F (parts_of (out-ExprForm x.form)) → (y : ExprForm-F ExprForm Expr) → x.form ≡ roll-ExprForm y → AllUsed F (parts_of y)
  parts_as all y h = subst (λ (z : ExprForm-F ExprForm Expr). AllUsed F (parts_of z)) (out_is y h) all

  part_used : (y : Expr) → IsPart y x → AllUsed F (parts_of (out-ExprForm x.form)) → IsUsed F y
  part_used _ (IsPart.grouped _ y h) all = (parts_as all (f.Group y) (h ∙ sym (rolls-Group y))).0
  part_used _ (IsPart.holder _ y n h) all = (parts_as all (f.Field y n) (h ∙ sym (rolls-Field y n))).0
  part_used _ (IsPart.array _ y i h) all = (parts_as all (f.Index y i) (h ∙ sym (rolls-Index y i))).0
  part_used _ (IsPart.index _ of y h) all = (parts_as all (f.Index of y) (h ∙ sym (rolls-Index of y))).1.0
  part_used _ (IsPart.receiver _ y n args h) all = (parts_as all (f.Call (Some y) n args) (h ∙ sym (rolls-Call (Some y) n args))).0
  part_used _ (IsPart.argument _ y of n args place h k) all = one_used F args place y (all_arguments F of args (parts_as all (f.Call of n args) (h ∙ sym (rolls-Call of n args)))) k
  part_used _ (IsPart.size _ y b h) all = (parts_as all (f.NewArray b y) (h ∙ sym (rolls-NewArray b y))).0
  part_used _ (IsPart.operand _ y s h) all = (parts_as all (f.Prefix s y) (h ∙ sym (rolls-Prefix s y))).0
  part_used _ (IsPart.left _ y r s at h) all = (parts_as all (f.Binary s at y r) (h ∙ sym (rolls-Binary s at y r))).0
  part_used _ (IsPart.right _ l y s at h) all = (parts_as all (f.Binary s at l y) (h ∙ sym (rolls-Binary s at l y))).1.0

  asked_as : Asks F x.id (out-ExprForm x.form) → (y : ExprForm-F ExprForm Expr) → x.form ≡ roll-ExprForm y → Asks F x.id y
  asked_as a y h = subst (λ (z : ExprForm-F ExprForm Expr). Asks F x.id z) (out_is y h) a

  is_asked : Asks F x.id (out-ExprForm x.form) → IsAsked F x
  is_asked a = record {
    index = λ of i h. asked_as a (f.Index of i) (h ∙ sym (rolls-Index of i));
    size = λ b y h. asked_as a (f.NewArray b y) (h ∙ sym (rolls-NewArray b y));
    query = λ of n args h. asked_as a (f.Call of n args) (h ∙ sym (rolls-Call of n args));
    choice = λ s at l r h. (asked_as a (f.Binary s at l r) (h ∙ sym (rolls-Binary s at l r))).0;
    joined = λ s at l r h. (asked_as a (f.Binary s at l r) (h ∙ sym (rolls-Binary s at l r))).1;
  }

  used_as : (y : ExprForm-F ExprForm Expr) → x.form ≡ roll-ExprForm y → Asks F x.id y → AllUsed F (parts_of y) → IsUsed F x
  used_as y h a all =
      let parts = subst (λ (z : ExprForm-F ExprForm Expr). AllUsed F (parts_of z)) (sym (out_is y h)) all in
      IsUsed.used x (is_asked (subst (λ (z : ExprForm-F ExprForm Expr). Asks F x.id z) (sym (out_is y h)) a)) (λ y p. part_used y p parts)

  pub used_number : (digits : List ℕ) (long : Bool) → x.form ≡ Number digits long → IsUsed F x
  used_number digits long h = used_as (f.Number digits long) (h ∙ sym (rolls-Number digits long)) tt tt

  pub used_text : (bytes : List ℕ) → x.form ≡ Str bytes → IsUsed F x
  used_text bytes h = used_as (f.Str bytes) (h ∙ sym (rolls-Str bytes)) tt tt

  pub used_truth : x.form ≡ True → IsUsed F x
  used_truth h = used_as f.True (h ∙ sym rolls-True) tt tt

  pub used_falsehood : x.form ≡ False → IsUsed F x
  used_falsehood h = used_as f.False (h ∙ sym rolls-False) tt tt

  pub used_null : x.form ≡ Null → IsUsed F x
  used_null h = used_as f.Null (h ∙ sym rolls-Null) tt tt

  pub used_this : x.form ≡ This → IsUsed F x
  used_this h = used_as f.This (h ∙ sym rolls-This) tt tt

  pub used_name : (n : NameData) → x.form ≡ Name n → IsUsed F x
  used_name n h = used_as (f.Name n) (h ∙ sym (rolls-Name n)) tt tt

  pub used_group : (y : Expr) → x.form ≡ Group y → IsUsed F y → IsUsed F x
  used_group y h u = used_as (f.Group y) (h ∙ sym (rolls-Group y)) tt (u, tt)

  pub used_field : (y : Expr) (n : NameData) → x.form ≡ Field y n → IsUsed F y → IsUsed F x
  used_field y n h u = used_as (f.Field y n) (h ∙ sym (rolls-Field y n)) tt (u, tt)

  pub used_index : (y i : Expr) → x.form ≡ Index y i → type_at F i.id ≡ ty.Int → IsUsed F y → IsUsed F i → IsUsed F x
  used_index y i h a u v = used_as (f.Index y i) (h ∙ sym (rolls-Index y i)) a (u, (v, tt))

  pub used_call : (of : Option Expr) (n : NameData) (args : List Expr) → x.form ≡ Call of n args → AsksRows F (named_at F x.id) → AllUsed F (receiver_and of args) → IsUsed F x
  used_call of n args h a all = used_as (f.Call of n args) (h ∙ sym (rolls-Call of n args)) a all

  pub used_new_object : (n : NameData) → x.form ≡ NewObject n → IsUsed F x
  used_new_object n h = used_as (f.NewObject n) (h ∙ sym (rolls-NewObject n)) tt tt

  pub used_new_array : (b : Base) (y : Expr) → x.form ≡ NewArray b y → type_at F y.id ≡ ty.Int → IsUsed F y → IsUsed F x
  used_new_array b y h a u = used_as (f.NewArray b y) (h ∙ sym (rolls-NewArray b y)) a (u, tt)

  pub used_prefix : (s : Sign) (y : Expr) → x.form ≡ Prefix s y → IsUsed F y → IsUsed F x
  used_prefix s y h u = used_as (f.Prefix s y) (h ∙ sym (rolls-Prefix s y)) tt (u, tt)

  pub used_binary : (s : Sign) (at : ℕ) (l r : Expr) → x.form ≡ Binary s at l r → (is_choice s ≡ true → type_at F x.id ≡ ty.Boolean) → JoinsWell F s l r → IsUsed F l → IsUsed F r → IsUsed F x
  used_binary s at l r h a b u v = used_as (f.Binary s at l r) (h ∙ sym (rolls-Binary s at l r)) (a, b) (u, (v, tt))

-- ---- statements

abbrev pub AreAllUsed : Facts → Ty → List Stmt → Type 0
AreAllUsed F gives [] = Unit {0}
AreAllUsed F gives (x ∷ xs) = AreUsed F gives x × AreAllUsed F gives xs

one_is : (F : Facts) (gives : Ty) (xs : List Stmt) (place : ℕ) (y : Stmt) → AreAllUsed F gives xs → slice_get xs place ≡ Some y → AreUsed F gives y
one_is F gives [] place y all h = absurd (cc h)
one_is F gives (x ∷ xs) zero y all h = subst (AreUsed F gives) (some_is h) all.0
one_is F gives (x ∷ xs) (suc place) y all h = one_is F gives xs place y all.1 h

abbrev pub if_any : {A : Type 0} → Option A → List A
if_any None = []
if_any (Some a) = a ∷ []

-- the expressions in a statement of a form, and the statements in it
abbrev values_of : StmtForm-F StmtForm Stmt → List Expr
values_of (g.Local t n y) = y ∷ []
values_of (g.Assign place y) = place ∷ y ∷ []
values_of (g.Compound n s y) = y ∷ []
values_of (g.Call y) = y ∷ []
values_of (g.If y a b) = y ∷ []
values_of (g.While y body) = y ∷ []
values_of (g.For begin y last body) = y ∷ []
values_of (g.Return y) = if_any y
values_of (g.Print y) = y ∷ []
values_of _ = []

abbrev inner_of : StmtForm-F StmtForm Stmt → List Stmt
inner_of (g.Block items) = items
inner_of (g.If y a b) = a ∷ if_any b
inner_of (g.While y body) = body ∷ []
inner_of (g.For begin y last body) = begin ∷ last ∷ body ∷ []
inner_of _ = []

-- what is asked of one of a form with this number
abbrev AsksOf : Facts → Ty → ℕ → StmtForm-F StmtForm Stmt → Type 0
AsksOf F gives id (g.Compound n s y) = op_of s (type_at F id) (type_at F y.id) ≡ op.Concat → joins (type_at F id) (type_at F y.id) ≡ true
AsksOf F gives id (g.If y a b) = type_at F y.id ≡ ty.Boolean
AsksOf F gives id (g.While y body) = type_at F y.id ≡ ty.Boolean
AsksOf F gives id (g.For begin y last body) = type_at F y.id ≡ ty.Boolean
AsksOf F gives id (g.Return (Some y)) = is_void gives ≡ false
AsksOf F gives id (g.Print y) = is_printable (type_at F y.id) ≡ true
AsksOf F gives id _ = Unit {0}

module _ (F : Facts) (gives : Ty) (x : Stmt) where
  stmt_out : (y : StmtForm-F StmtForm Stmt) → x.form ≡ roll-StmtForm y → out-StmtForm x.form ≡ y
  stmt_out y h = ap out-StmtForm h ∙ out-roll-StmtForm y

  values_as : AllUsed F (values_of (out-StmtForm x.form)) → (y : StmtForm-F StmtForm Stmt) → x.form ≡ roll-StmtForm y → AllUsed F (values_of y)
  values_as all y h = subst (λ (z : StmtForm-F StmtForm Stmt). AllUsed F (values_of z)) (stmt_out y h) all

  value_used : (y : Expr) → IsIn y x → AllUsed F (values_of (out-StmtForm x.form)) → IsUsed F y
  value_used y (IsIn.first _ _ t n h) all = (values_as all (g.Local t n y) (h ∙ sym (rolls-Local t n y))).0
  value_used y (IsIn.place _ _ value h) all = (values_as all (g.Assign y value) (h ∙ sym (rolls-Assign y value))).0
  value_used y (IsIn.value _ place _ h) all = (values_as all (g.Assign place y) (h ∙ sym (rolls-Assign place y))).1.0
  value_used y (IsIn.operand _ _ n s h) all = (values_as all (g.Compound n s y) (h ∙ sym (rolls-Compound n s y))).0
  value_used y (IsIn.call _ _ h) all = (values_as all (g.Call y) (h ∙ sym (rolls-CallStmt y))).0
  value_used y (IsIn.if_test _ _ a b h) all = (values_as all (g.If y a b) (h ∙ sym (rolls-If y a b))).0
  value_used y (IsIn.while_test _ _ body h) all = (values_as all (g.While y body) (h ∙ sym (rolls-While y body))).0
  value_used y (IsIn.for_test _ _ begin last body h) all = (values_as all (g.For begin y last body) (h ∙ sym (rolls-For begin y last body))).0
  value_used y (IsIn.result _ _ h) all = (values_as all (g.Return (Some y)) (h ∙ sym (rolls-Return (Some y)))).0
  value_used y (IsIn.print _ _ h) all = (values_as all (g.Print y) (h ∙ sym (rolls-Print y))).0

  inner_as : AreAllUsed F gives (inner_of (out-StmtForm x.form)) → (y : StmtForm-F StmtForm Stmt) → x.form ≡ roll-StmtForm y → AreAllUsed F gives (inner_of y)
  inner_as all y h = subst (λ (z : StmtForm-F StmtForm Stmt). AreAllUsed F gives (inner_of z)) (stmt_out y h) all

  inner_used : (y : Stmt) → IsInner y x → AreAllUsed F gives (inner_of (out-StmtForm x.form)) → AreUsed F gives y
  inner_used y (IsInner.item _ _ items place h k) all = one_is F gives items place y (inner_as all (g.Block items) (h ∙ sym (rolls-Block items))) k
  inner_used y (IsInner.branch _ _ test other h) all = (inner_as all (g.If test y other) (h ∙ sym (rolls-If test y other))).0
  inner_used y (IsInner.other _ _ a test h) all = (inner_as all (g.If test a (Some y)) (h ∙ sym (rolls-If test a (Some y)))).1.0
  inner_used y (IsInner.while_body _ _ test h) all = (inner_as all (g.While test y) (h ∙ sym (rolls-While test y))).0
  inner_used y (IsInner.begin _ _ test last body h) all = (inner_as all (g.For y test last body) (h ∙ sym (rolls-For y test last body))).0
  inner_used y (IsInner.last _ _ begin test body h) all = (inner_as all (g.For begin test y body) (h ∙ sym (rolls-For begin test y body))).1.0
  inner_used y (IsInner.for_body _ _ begin test last h) all = (inner_as all (g.For begin test last y) (h ∙ sym (rolls-For begin test last y))).1.1.0

  asks_as : AsksOf F gives x.id (out-StmtForm x.form) → (y : StmtForm-F StmtForm Stmt) → x.form ≡ roll-StmtForm y → AsksOf F gives x.id y
  asks_as a y h = subst (λ (z : StmtForm-F StmtForm Stmt). AsksOf F gives x.id z) (stmt_out y h) a

  is_asked_of : AsksOf F gives x.id (out-StmtForm x.form) → IsAskedOf F gives x
  is_asked_of a = record {
    if_test = λ test b c h. asks_as a (g.If test b c) (h ∙ sym (rolls-If test b c));
    while_test = λ test body h. asks_as a (g.While test body) (h ∙ sym (rolls-While test body));
    for_test = λ test begin last body h. asks_as a (g.For begin test last body) (h ∙ sym (rolls-For begin test last body));
    joined = λ n s value h. asks_as a (g.Compound n s value) (h ∙ sym (rolls-Compound n s value));
    result = λ value h. asks_as a (g.Return (Some value)) (h ∙ sym (rolls-Return (Some value)));
    printed = λ value h. asks_as a (g.Print value) (h ∙ sym (rolls-Print value));
  }

  are_used_as : (y : StmtForm-F StmtForm Stmt) → x.form ≡ roll-StmtForm y → AsksOf F gives x.id y → AllUsed F (values_of y) → AreAllUsed F gives (inner_of y) → AreUsed F gives x
  are_used_as y h a values inner =
      let back = sym (stmt_out y h) in
      let v = subst (λ (z : StmtForm-F StmtForm Stmt). AllUsed F (values_of z)) back values in
      let i = subst (λ (z : StmtForm-F StmtForm Stmt). AreAllUsed F gives (inner_of z)) back inner in
      AreUsed.used x (is_asked_of (subst (λ (z : StmtForm-F StmtForm Stmt). AsksOf F gives x.id z) back a)) (λ z p. value_used z p v) (λ z p. inner_used z p i)

  pub used_block : (items : List Stmt) → x.form ≡ Block items → AreAllUsed F gives items → AreUsed F gives x
  used_block items h all = are_used_as (g.Block items) (h ∙ sym (rolls-Block items)) tt tt all

  pub used_empty : x.form ≡ Empty → AreUsed F gives x
  used_empty h = are_used_as g.Empty (h ∙ sym rolls-Empty) tt tt tt

  pub used_local : (t : TypeName) (n : NameData) (y : Expr) → x.form ≡ Local t n y → IsUsed F y → AreUsed F gives x
  used_local t n y h u = are_used_as (g.Local t n y) (h ∙ sym (rolls-Local t n y)) tt (u, tt) tt

  pub used_assign : (place y : Expr) → x.form ≡ Assign place y → IsUsed F place → IsUsed F y → AreUsed F gives x
  used_assign place y h u v = are_used_as (g.Assign place y) (h ∙ sym (rolls-Assign place y)) tt (u, (v, tt)) tt

  pub used_compound : (n : NameData) (s : Sign) (y : Expr) → x.form ≡ Compound n s y → (op_of s (type_at F x.id) (type_at F y.id) ≡ op.Concat → joins (type_at F x.id) (type_at F y.id) ≡ true) → IsUsed F y → AreUsed F gives x
  used_compound n s y h a u = are_used_as (g.Compound n s y) (h ∙ sym (rolls-Compound n s y)) a (u, tt) tt

  pub used_up : (n : NameData) → x.form ≡ Up n → AreUsed F gives x
  used_up n h = are_used_as (g.Up n) (h ∙ sym (rolls-Up n)) tt tt tt

  pub used_down : (n : NameData) → x.form ≡ Down n → AreUsed F gives x
  used_down n h = are_used_as (g.Down n) (h ∙ sym (rolls-Down n)) tt tt tt

  pub used_call_statement : (y : Expr) → x.form ≡ CallStmt y → IsUsed F y → AreUsed F gives x
  used_call_statement y h u = are_used_as (g.Call y) (h ∙ sym (rolls-CallStmt y)) tt (u, tt) tt

  pub used_if : (test : Expr) (a : Stmt) (b : Option Stmt) → x.form ≡ If test a b → type_at F test.id ≡ ty.Boolean → IsUsed F test → AreUsed F gives a → AreAllUsed F gives (if_any b) → AreUsed F gives x
  used_if test a b h k u v w = are_used_as (g.If test a b) (h ∙ sym (rolls-If test a b)) k (u, tt) (v, w)

  pub used_while : (test : Expr) (body : Stmt) → x.form ≡ While test body → type_at F test.id ≡ ty.Boolean → IsUsed F test → AreUsed F gives body → AreUsed F gives x
  used_while test body h k u v = are_used_as (g.While test body) (h ∙ sym (rolls-While test body)) k (u, tt) (v, tt)

  pub used_for : (begin : Stmt) (test : Expr) (last body : Stmt) → x.form ≡ For begin test last body → type_at F test.id ≡ ty.Boolean → IsUsed F test → AreUsed F gives begin → AreUsed F gives last → AreUsed F gives body → AreUsed F gives x
  used_for begin test last body h k u v w z = are_used_as (g.For begin test last body) (h ∙ sym (rolls-For begin test last body)) k (u, tt) (v, (w, (z, tt)))

  pub used_leave : x.form ≡ Return None → AreUsed F gives x
  used_leave h = are_used_as (g.Return None) (h ∙ sym (rolls-Return None)) tt tt tt

  pub used_give : (y : Expr) → x.form ≡ Return (Some y) → is_void gives ≡ false → IsUsed F y → AreUsed F gives x
  used_give y h k u = are_used_as (g.Return (Some y)) (h ∙ sym (rolls-Return (Some y))) k (u, tt) tt

  pub used_print : (y : Expr) → x.form ≡ Print y → is_printable (type_at F y.id) ≡ true → IsUsed F y → AreUsed F gives x
  used_print y h k u = are_used_as (g.Print y) (h ∙ sym (rolls-Print y)) k (u, tt) tt
