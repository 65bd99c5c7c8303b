-- What is counted of prefixes: a minus with a number right behind it is one literal.
use Rattle.std.proofs.Common.{◌≡◌, ℕ, ◌+◌, ◌≤◌, List, [], length, append-nil, Option, Some, None, Ok, refl, sym, ap, ◌∙◌, subst, arith}
use Rattle.px_value.specs.declared.value.Value.{Value}
use Rattle.px_value.specs.declared.op.Op.{Op}
use Rattle.px_value.specs.declared.op.Op.TheVariants as op
use Rattle.px_value.specs.Operators.{Applied, apply}
use Rattle.px_value.specs.Outcome.{◌>>=◌, pure}
use Rattle.px_tree.specs.declared.Sign.{Sign}
use Rattle.px_tree.specs.declared.Sign.TheVariants as sign
use Rattle.px_tree.specs.declared.Expr.{Expr}
use Rattle.px_tree.specs.declared.ExprForm.{ExprForm, ExprForm-F, out-ExprForm, out-roll-ExprForm, ind-ExprForm, roll-ExprForm}
use Rattle.px_tree.specs.declared.ExprForm.TheOpen.{ExprForm-F as f}
use Rattle.px_tree.specs.declared.ExprForm.TheVariants.{rolls-Number}
use Rattle.px_facts.specs.declared.types.Ty.{Ty as Static}
use Rattle.px_facts.specs.declared.checked.Checked.{Checked}
use Rattle.px_effects.specs.Run.{Ask, came_to}
use Rattle.px_mean.specs.Run.{Here as SourceHere}
use Rattle.px_mean.specs.Facts.{type_at, prefix_of}
use Rattle.px_mean.specs.Expressions.{Calls as SourceCalls, Meant, prefixed}
use Rattle.px_normal.specs.declared.node.Counter.{Counter}
use Rattle.px_normal.specs.declared.node.Counter.TheVariants.{Completed}
use Rattle.px_normal.specs.declared.method.Tree.{Tree}
use Rattle.px_normal.specs.declared.code.Code.{Code}
use Rattle.px_normal.specs.CodeRun.{Calls, body_run}
use Rattle.px_lowering.specs.declared.draft.Draft.{Draft}
use Rattle.px_lowering.specs.declared.valued.Step.TheVariants as step
use Rattle.px_lowering.specs.Emit.{Lasted}
use Rattle.px_lowering.specs.Types.{code_type}
use Rattle.px_lowering.specs.Expressions.{low, part_of, operand_at, valued, stands, prefix_low, negated, number_in, number_of, literal_behind}
use Rattle.px_counts.specs.Marks as mark
use Rattle.px_counts.specs.Marks.{Marked, marked_ask}
use Rattle.px_counts.proofs.Unmarked.{SameHere, SameThere}
use Rattle.px_counts.proofs.Beside.{came_here}
use Rattle.px_preservation.proofs.Agree.{CallsMeet, IsLowered}
use Rattle.px_preservation.proofs.Program.{SameProgram}
use Rattle.px_preservation.proofs.Fitted.{then_pure}
use Rattle.px_preservation.proofs.Expressions.{negative}
use Rattle.px_counted.specs.Laws.{NeverThrows}
use Rattle.px_counted.proofs.Counts.{Counted, with_mark, mark_behind}
use Rattle.px_counted.proofs.Keeps.{keeping}
use Rattle.px_counted.proofs.Pieces.{same_rest, grows_none}
use Rattle.px_counted.proofs.Given.{gives_number}
use Rattle.px_counted.proofs.MarkedForms.{meant_number}
use Rattle.px_counted.proofs.Operands.{own, marked_runs}
use Rattle.px_counted.proofs.Values.{M, R, late_once, with_trees, counts_one}
use Rattle.px_counted.proofs.Fits.{counts_group}
use Rattle.px_counted.proofs.Expressions.{LowC, marks_of, B, D, G, AM, means, marked_means, marked_type, Counts, own_alone, operand_expr}

module _ (Q W : Type 0) (ask : Ask Q W) (never : NeverThrows Q W ask) (P : Checked) (code : Code) (source_calls : SourceCalls Q W) (calls : Calls Q W) (n k : ℕ) (counter : Counter) (met : CallsMeet Q W ask P code source_calls calls n) (same : SameProgram P code) (marked_calls : SourceCalls Q (Marked W)) (alike : (method : ℕ) (values : List Value) → SameThere Q W (Option Value) (marked_calls method values) (source_calls method values)) where
  abbrev HereM : Type 0 → Type 0
  HereM A = M Q W ask never P code source_calls calls n k counter A

  abbrev Low' : (given id : ℕ) → HereM Value → SourceHere Q W Value → Draft → Lasted → Type 0
  Low' = LowC Q W ask never P code source_calls calls n k counter met same marked_calls alike

  abbrev C : Expr → Type 0
  C = Counts Q W ask never P code source_calls calls n k counter met same marked_calls alike

  abbrev MM : Expr → Meant Q (Marked W)
  MM = marked_means Q W ask never P code source_calls calls n k counter met same marked_calls alike

  abbrev SM : Expr → Meant Q W
  SM = means Q W ask never P code source_calls calls n k counter met same marked_calls alike

  abbrev Gn : Expr → ℕ
  Gn = G Q W ask never P code source_calls calls n k counter met same marked_calls alike

  abbrev Bn : ℕ → ℕ
  Bn = B Q W ask never P code source_calls calls n k counter met same marked_calls alike

  abbrev Dn : ℕ → ℕ
  Dn = D Q W ask never P code source_calls calls n k counter met same marked_calls alike

  abbrev Marks : ℕ → HereM Value → HereM Value
  Marks = marks_of Q W ask never P code source_calls calls n k counter met same marked_calls alike

  abbrev Runs : (high before after : ℕ) → HereM Value → List Tree → Type 0
  Runs = R Q W ask never P code source_calls calls n k counter

  abbrev Plain : SourceHere Q W Value → Draft → Lasted → Type 0
  Plain = IsLowered Q W ask P code source_calls calls n

  abbrev after : Option Op → HereM Value → HereM Value
  after p r = r >>= (λ v. came_to (prefixed p v))

  -- ---- a bare number

  -- the literal stands for an expression with a part that is marked too
  bare : (g id token : ℕ) (r : HereM Value) (r' : SourceHere Q W Value) (v : Value) (o : Draft) → Runs (length o.slots) (Bn id) (Bn id + g) r [] → SameHere Q W Value (Marks id r) r' → Plain r' o (valued (stands v) id token o) → Low' ((Bn id + Dn id) + g) id (Marks id r) r' o (valued (stands v) id token o)
  bare g id token r r' v o runs s p = record {
    same = s;
    plain = p;
    grows = grows_none Q W k counter ((Bn id + Dn id) + g) o.nodes;
    late = λ l. let z = late_once Q W ask never P code source_calls calls n k counter id l in omega (arith, z);
    made = λ e. absurd e;
    counts = λ known e eq late.
        with_trees Q W ask never P code source_calls calls n k counter (length o.slots) 0 e (Marks id r) [] p.trees (same_rest o.trees o.trees [] p.trees (sym (append-nil o.trees)) p.trees_are)
        (marked_runs Q W ask P code source_calls calls n k counter id (length o.slots) (Bn id + g) e r [] (omega (arith, eq)) runs);
  }

  number_runs : (id high before : ℕ) (v : Value) → apply op.Neg v v ≡ Ok (negated v) → Runs high before (before + (Bn id + Dn id)) (after (Some op.Neg) (Marks id (pure v))) []
  number_runs id high before v e = λ s c agree size j.
      let s1 = with_mark Q W k counter (mark.Begun id) s.shared in
      let s2 = with_mark Q W k counter (mark.Completed id) s1 in
      let one = mark_behind Q W k counter before (before + Bn id) (mark.Begun id) s.shared c.shared refl j in
      let two = mark_behind Q W k counter (before + Bn id) (before + (Bn id + Dn id)) (mark.Completed id) s1 c.shared (omega (arith)) one in
      subst (λ (a : Applied). Counted Q W k counter (before + (Bn id + Dn id)) (came_to {Q = Q} a (record s { shared = s2 })) (body_run code ask calls [] c)) (sym e) two

  abbrev IsBare : Option Value → Expr → Type 0
  IsBare None y = Unit {0}
  IsBare (Some v) y = ((MM y).run ≡ Marks y.id (pure v)) × (Gn y ≡ Bn y.id + Dn y.id) × (apply op.Neg v v ≡ Ok (negated v))

  bare_form : (z : ExprForm-F ExprForm Expr) (y : Expr) → y.form ≡ roll-ExprForm z → IsBare (number_in z) y
  bare_form (f.Number digits long) y h =
      let q = h ∙ rolls-Number digits long in
      (ap (λ (m : Meant Q (Marked W)). m.run) (meant_number Q W (AM Q W ask never P code source_calls calls n k counter met same marked_calls alike) y digits long q), own_alone Q W ask never P code source_calls calls n k counter met same marked_calls alike y (gives_number counter y digits long q), negative digits long)
  bare_form (f.Str bytes) y h = tt
  bare_form f.True y h = tt
  bare_form f.False y h = tt
  bare_form f.Null y h = tt
  bare_form f.This y h = tt
  bare_form (f.Name n) y h = tt
  bare_form (f.Group e) y h = tt
  bare_form (f.Field e n) y h = tt
  bare_form (f.Index e j) y h = tt
  bare_form (f.Call of n args) y h = tt
  bare_form (f.NewObject n) y h = tt
  bare_form (f.NewArray b e) y h = tt
  bare_form (f.Prefix s e) y h = tt
  bare_form (f.Binary s at l r) y h = tt

  abbrev OfBare : ExprForm → Type 0
  OfBare form = (y : Expr) → y.form ≡ form → IsBare (number_in (out-ExprForm form)) y

  abbrev OfAny : Expr → Type 0
  OfAny y = Unit {0}

  is_bare : (y : Expr) → IsBare (number_of y) y
  is_bare y =
      let all : OfBare y.form = ind-ExprForm OfBare OfAny (λ z y' h x q. subst (λ (w : ExprForm-F ExprForm Expr). IsBare (number_in w) x) (sym (out-roll-ExprForm z)) (bare_form z x q)) (λ x y' h. tt) y.form in
      all y refl

  -- ---- all prefixes

  abbrev Pre : (x y : Expr) → Option Op → Option Value → Type 0
  Pre x y p number = (o : Draft) → n ≤ length o.slots → (Bn x.id + Dn x.id) + Gn y ≤ 1 → SameHere Q W Value (Marks x.id (after p (MM y).run)) (SM x).run → Plain (SM x).run o (prefix_low P number p (part_of P y) x.id x.token o) → Low' ((Bn x.id + Dn x.id) + Gn y) x.id (Marks x.id (after p (MM y).run)) (SM x).run o (prefix_low P number p (part_of P y) x.id x.token o)

  plain_prefix : (p : Option Op) (x y : Expr) → C y → Pre x y p None
  plain_prefix None x y h o le few s p =
      let path : (MM y).run ≡ after None (MM y).run = (λ i st. sym (then_pure ((MM y).run st)) i) in
      subst (λ (q : HereM Value). Low' ((Bn x.id + Dn x.id) + Gn y) x.id (Marks x.id q) (SM x).run o ((low P y).part.lower o)) path
      (counts_group Q W ask never P code source_calls calls n k counter (Gn y) x.id y.id (MM y).run (SM y).run (SM x).run o ((low P y).part.lower o) (h o le (omega (arith, few))) (subst (λ (q : HereM Value). SameHere Q W Value (Marks x.id q) (SM x).run) (sym path) s) p few)
  plain_prefix (Some f) x y h o le few s p =
      let a = operand_at P (part_of P y) o in
      counts_one Q W ask never P code source_calls calls n k counter (Gn y) y.id ((low P y).part.lower o).value.id (MM y).run (SM y).run (SM x).run o a (operand_expr Q W ask never P code source_calls calls n k counter met same marked_calls alike y h o le (omega (arith, few))) le (λ v. came_to (prefixed (Some f) v)) (λ v. came_here Q (Marked W) Q (Marked W) (marked_ask ask) (marked_ask ask) (keeping Q W ask) (apply f v v))
      (step.Op f a.operand None) tt (code_type (type_at P.facts x.id)) (Completed y.id) (λ e. own e) x.id x.token s p few

  minus : (number : Option Value) (x y : Expr) → IsBare number y → C y → Pre x y (Some op.Neg) (literal_behind sign.Minus number)
  minus None x y q h o le few s p = plain_prefix (Some op.Neg) x y h o le few s p
  minus (Some v) x y q h o le few s p =
      bare (Gn y) x.id x.token (after (Some op.Neg) (MM y).run) (SM x).run (negated v) o
      (subst (λ (g : ℕ). Runs (length o.slots) (Bn x.id) (Bn x.id + g) (after (Some op.Neg) (MM y).run) []) (sym q.1)
      (subst (λ (r : HereM Value). Runs (length o.slots) (Bn x.id) (Bn x.id + (Bn y.id + Dn y.id)) (after (Some op.Neg) r) []) (sym q.0)
      (number_runs y.id (length o.slots) (Bn x.id) v q.2)))
      s p

  prefix_by : (s : Sign) (t : Static) (x y : Expr) → C y → Pre x y (prefix_of s t) (literal_behind s (number_of y))
  prefix_by sign.Minus t x y h = minus (number_of y) x y (is_bare y) h
  prefix_by sign.Plus t x y h = plain_prefix (prefix_of sign.Plus t) x y h
  prefix_by sign.Times t x y h = plain_prefix (prefix_of sign.Times t) x y h
  prefix_by sign.Over t x y h = plain_prefix (prefix_of sign.Over t) x y h
  prefix_by sign.Rest t x y h = plain_prefix (prefix_of sign.Rest t) x y h
  prefix_by sign.And t x y h = plain_prefix (prefix_of sign.And t) x y h
  prefix_by sign.Or t x y h = plain_prefix (prefix_of sign.Or t) x y h
  prefix_by sign.Xor t x y h = plain_prefix (prefix_of sign.Xor t) x y h
  prefix_by sign.Shl t x y h = plain_prefix (prefix_of sign.Shl t) x y h
  prefix_by sign.Shr t x y h = plain_prefix (prefix_of sign.Shr t) x y h
  prefix_by sign.Ushr t x y h = plain_prefix (prefix_of sign.Ushr t) x y h
  prefix_by sign.Less t x y h = plain_prefix (prefix_of sign.Less t) x y h
  prefix_by sign.AtMost t x y h = plain_prefix (prefix_of sign.AtMost t) x y h
  prefix_by sign.More t x y h = plain_prefix (prefix_of sign.More t) x y h
  prefix_by sign.AtLeast t x y h = plain_prefix (prefix_of sign.AtLeast t) x y h
  prefix_by sign.Equal t x y h = plain_prefix (prefix_of sign.Equal t) x y h
  prefix_by sign.Unequal t x y h = plain_prefix (prefix_of sign.Unequal t) x y h
  prefix_by sign.Not t x y h = plain_prefix (prefix_of sign.Not t) x y h
  prefix_by sign.Inv t x y h = plain_prefix (prefix_of sign.Inv t) x y h
  prefix_by sign.ToInt t x y h = plain_prefix (prefix_of sign.ToInt t) x y h
  prefix_by sign.ToLong t x y h = plain_prefix (prefix_of sign.ToLong t) x y h
  prefix_by sign.Both t x y h = plain_prefix (prefix_of sign.Both t) x y h
  prefix_by sign.Either t x y h = plain_prefix (prefix_of sign.Either t) x y h

  pub prefix_counts : (s : Sign) (x y : Expr) → C y → (o : Draft) → n ≤ length o.slots → (Bn x.id + Dn x.id) + Gn y ≤ 1 → SameHere Q W Value (Marks x.id (after (prefix_of s (MM y).ty) (MM y).run)) (SM x).run → Plain (SM x).run o (prefix_low P (literal_behind s (number_of y)) (prefix_of s (type_at P.facts y.id)) (part_of P y) x.id x.token o) → Low' ((Bn x.id + Dn x.id) + Gn y) x.id (Marks x.id (after (prefix_of s (MM y).ty) (MM y).run)) (SM x).run o (prefix_low P (literal_behind s (number_of y)) (prefix_of s (type_at P.facts y.id)) (part_of P y) x.id x.token o)
  prefix_counts s x y h o le few s' p =
      let path = marked_type Q W ask never P code source_calls calls n k counter met same marked_calls alike y in
      subst (λ (t : Static). Low' ((Bn x.id + Dn x.id) + Gn y) x.id (Marks x.id (after (prefix_of s t) (MM y).run)) (SM x).run o (prefix_low P (literal_behind s (number_of y)) (prefix_of s (type_at P.facts y.id)) (part_of P y) x.id x.token o)) (sym path)
      (prefix_by s (type_at P.facts y.id) x y h o le few (subst (λ (t : Static). SameHere Q W Value (Marks x.id (after (prefix_of s t) (MM y).run)) (SM x).run) path s') p)
