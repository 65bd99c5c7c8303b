-- What is counted of every form of an expression.
use Rattle.std.proofs.Common.{◌≡◌, ℕ, ◌+◌, ◌≤◌, true, false, List, length, Option, Some, refl, sym, ◌∙◌, subst, arith}
use Rattle.px_value.specs.declared.value.Value.{Value}
use Rattle.px_value.specs.declared.op.Op.{Op as Operator}
use Rattle.px_value.specs.Operators.{apply}
use Rattle.px_value.specs.Outcome.{Gives, ◌>>=◌, on_shared}
use Rattle.px_tree.specs.declared.Sign.{Sign}
use Rattle.px_tree.specs.declared.Sign.TheVariants as sign
use Rattle.px_tree.specs.declared.Expr.{Expr}
use Rattle.px_facts.specs.declared.types.Ty.{Ty as Static}
use Rattle.px_facts.specs.declared.types.Ty.TheVariants as static
use Rattle.px_facts.specs.declared.types.Element.{Element}
use Rattle.px_facts.specs.declared.checked.Named.{Named}
use Rattle.px_facts.specs.declared.checked.Named.TheVariants as named
use Rattle.px_facts.specs.declared.checked.Checked.{Checked}
use Rattle.px_effects.specs.Run.{Ask, came_to}
use Rattle.px_mean.specs.Run.{Frame as SourceFrame, Here as SourceHere}
use Rattle.px_mean.specs.Facts.{type_at, op_of, element_number}
use Rattle.px_mean.specs.Effects.{load, get_field}
use Rattle.px_effects.specs.Cells as cells
use Rattle.px_mean.specs.Expressions.{Calls as SourceCalls, Around, Meant, meant, slot_value, this_value, name_value, member_value, made_array, binary}
use Rattle.px_mean.specs.Typing.{IsTypedExpr, IsVariable, IsMember}
use Rattle.px_mean.specs.Typing as typing
use Rattle.px_normal.specs.declared.node.Counter.{Counter}
use Rattle.px_normal.specs.declared.node.Counter.TheVariants.{Begun, Completed}
use Rattle.px_normal.specs.declared.word.Operand.{Operand}
use Rattle.px_normal.specs.declared.word.Operand.TheVariants.{Slot}
use Rattle.px_normal.specs.declared.code.Code.{Code}
use Rattle.px_normal.specs.CodeRun.{Calls}
use Rattle.px_lowering.specs.declared.draft.Draft.{Draft}
use Rattle.px_lowering.specs.declared.valued.Step.TheVariants as step
use Rattle.px_lowering.specs.declared.valued.Had.TheVariants.{Held}
use Rattle.px_lowering.specs.Emit.{Lasted, Operated}
use Rattle.px_lowering.specs.Types.{code_type}
use Rattle.px_lowering.specs.Expressions.{Low, low, part_of, operand_at, valued, name_had, member_had, index_low, array_had, two_low, binary_low}
use Rattle.px_counts.specs.Marks.{Marked, marked_ask}
use Rattle.px_counts.specs.Runs.{meant_with_marks}
use Rattle.px_counts.proofs.Unmarked.{SameHere, SameThere, meant_alike}
use Rattle.px_counts.proofs.Beside.{came_here, act_here, member_alike, array_here, bind_here}
use Rattle.px_preservation.proofs.Agree.{CallsMeet, IsLowered, Lowers, around}
use Rattle.px_preservation.proofs.Afters.{grown}
use Rattle.px_preservation.proofs.Program.{SameProgram}
use Rattle.px_preservation.proofs.Operands.{IsOperand}
use Rattle.px_mean.proofs.Forms.{meant_type}
use Rattle.px_counted.specs.Laws.{NeverThrows}
use Rattle.px_counted.proofs.Keeps.{KeepsHere, keeping}
use Rattle.px_counted.proofs.Given.{gives, own_by, own_is}
use Rattle.px_counted.proofs.Operands.{own, CountsLowered, CountsOperand, operand_counts}
use Rattle.px_counted.proofs.Values.{M, marked, begins, completes, counts_none, counts_one, counts_two, counts_held}
use Rattle.px_counted.proofs.Choices.{counts_choice}

module _ (Q W : Type 0) (ask : Ask Q W) (never : NeverThrows Q W ask) (P : Checked) (code : Code) (source_calls : SourceCalls Q W) (calls : Calls Q W) (n k : ℕ) (counter : Counter) (met : CallsMeet Q W ask P code source_calls calls n) (same : SameProgram P code) (marked_calls : SourceCalls Q (Marked W)) (alike : (method : ℕ) (values : List Value) → SameThere Q W (Option Value) (marked_calls method values) (source_calls method values)) where
  abbrev HereM : Type 0 → Type 0
  HereM A = M Q W ask never P code source_calls calls n k counter A

  abbrev Op : (given id inner : ℕ) → HereM Value → SourceHere Q W Value → Draft → Operated → Type 0
  Op = CountsOperand Q W ask P code source_calls calls n k counter

  abbrev pub LowC : (given id : ℕ) → HereM Value → SourceHere Q W Value → Draft → Lasted → Type 0
  LowC = CountsLowered Q W ask P code source_calls calls n k counter

  abbrev Plain : SourceHere Q W Value → Draft → Lasted → Type 0
  Plain = IsLowered Q W ask P code source_calls calls n

  abbrev pub marks_of : ℕ → HereM Value → HereM Value
  marks_of id r = marked Q W ask never P code source_calls calls n k counter id r

  abbrev pub B : ℕ → ℕ
  B id = begins Q W ask never P code source_calls calls n k counter id

  abbrev pub D : ℕ → ℕ
  D id = completes Q W ask never P code source_calls calls n k counter id

  abbrev pub G : Expr → ℕ
  G x = gives counter x

  abbrev pub A : Around Q W
  A = around Q W ask P code source_calls calls n

  abbrev pub AM : Around Q (Marked W)
  AM = record { facts = P.facts; ask = marked_ask ask; calls = marked_calls }

  abbrev pub means : Expr → Meant Q W
  means x = meant A x

  abbrev pub marked_means : Expr → Meant Q (Marked W)
  marked_means x = meant_with_marks AM x

  abbrev LowersExpr : Expr → Type 0
  LowersExpr = Lowers Q W ask P code source_calls calls n

  pub same_run : (x : Expr) → SameHere Q W Value (marked_means x).run (means x).run
  same_run x = (meant_alike Q W ask P.facts marked_calls source_calls alike x).run

  pub marked_type : (x : Expr) → (marked_means x).ty ≡ type_at P.facts x.id
  marked_type x = (meant_alike Q W ask P.facts marked_calls source_calls alike x).ty ∙ meant_type Q W A x

  abbrev Keeps : HereM Value → Type 0
  Keeps r = KeepsHere Q W Value r

  abbrev pub Counts : Expr → Type 0
  Counts x = (o : Draft) → n ≤ length o.slots → G x ≤ 1 → LowC (G x) x.id (marked_means x).run (means x).run o ((low P x).part.lower o)

  pub own_given : (x : Expr) (g : ℕ) → G x ≡ own_by counter x.id + g → G x ≡ (B x.id + D x.id) + g
  own_given x g h = let z = own_is Q W k counter x.id in omega (arith, h, z)

  pub own_alone : (x : Expr) → G x ≡ own_by counter x.id + 0 → G x ≡ B x.id + D x.id
  own_alone x h = let z = own_is Q W k counter x.id in omega (arith, h, z)

  abbrev pub OfForm : Expr → HereM Value → Low → ℕ → Type 0
  OfForm x r l g = (o : Draft) → n ≤ length o.slots → g ≤ 1 → SameHere Q W Value r (means x).run → Plain (means x).run o (l.part.lower o) → LowC g x.id r (means x).run o (l.part.lower o)

  pub by_form : (x : Expr) (m : Meant Q (Marked W)) (l : Low) (g : ℕ) → marked_means x ≡ m → low P x ≡ l → G x ≡ g → LowersExpr x → OfForm x m.run l g → Counts x
  by_form x m l g a b c lowers h o le few =
      subst (λ (y : Low). LowC (G x) x.id (marked_means x).run (means x).run o (y.part.lower o)) (sym b)
      (subst (λ (y : Meant Q (Marked W)). LowC (G x) x.id y.run (means x).run o (l.part.lower o)) (sym a)
      (subst (λ (y : ℕ). LowC y x.id m.run (means x).run o (l.part.lower o)) (sym c)
      (h o le (subst (λ (y : ℕ). y ≤ 1) c few) (subst (λ (y : Meant Q (Marked W)). SameHere Q W Value y.run (means x).run) a (same_run x)) (subst (λ (y : Low). Plain (means x).run o (y.part.lower o)) b (lowers o le)))))

  -- ---- values

  pub held : (x : Expr) (r : HereM Value) (a : Operand) (token : ℕ) → ((s : SourceFrame (Marked W)) → (v : Value) × (r s ≡ Gives v s)) → (o : Draft) → B x.id + D x.id ≤ 1 → SameHere Q W Value (marks_of x.id r) (means x).run → Plain (means x).run o (valued (Held a) x.id token o) → LowC (B x.id + D x.id) x.id (marks_of x.id r) (means x).run o (valued (Held a) x.id token o)
  held x r a token quiet o few s p = counts_held Q W ask never P code source_calls calls n k counter r (means x).run o quiet a x.id token s p few

  -- ---- names and members

  pub variable_counts : (slots : List Static) (x : Expr) (name : Named) (t : Static) → IsVariable P.facts slots name t → (o : Draft) → B x.id + D x.id ≤ 1 → SameHere Q W Value (marks_of x.id (name_value name)) (means x).run → Plain (means x).run o (valued (name_had P name x.id) x.id x.token o) → LowC (B x.id + D x.id) x.id (marks_of x.id (name_value name)) (means x).run o (valued (name_had P name x.id) x.id x.token o)
  variable_counts slots x _ _ (typing.IsVariable.local slot t e) o few s p = held x (slot_value slot) (Slot slot) x.token (λ s. (_, refl)) o few s p
  variable_counts slots x _ _ (typing.IsVariable.field class place t e h) o few s p =
      counts_none Q W ask never P code source_calls calls n k counter (name_value (named.Field class place)) (means x).run o (bind_here Q (Marked W) Q (Marked W) (marked_ask ask) (marked_ask ask) (keeping Q W ask) {r = this_value} {l = this_value} {f = λ v. on_shared (get_field v place)} {g = λ v. on_shared (get_field v place)} (record { at = λ s. refl }) (λ v. act_here Q (Marked W) Q (Marked W) (marked_ask ask) (marked_ask ask) (keeping Q W ask) (cells.get_field v place)))
      (step.Get (Slot 0) class place) tt (code_type (type_at P.facts x.id)) (Begun x.id) x.id x.token (λ e. e) s p few

  pub operand_expr : (x : Expr) → Counts x → (o : Draft) → n ≤ length o.slots → G x ≤ 1 → Op (G x) x.id ((low P x).part.lower o).value.id (marked_means x).run (means x).run o (operand_at P (part_of P x) o)
  operand_expr x h o le few = operand_counts Q W ask P code source_calls calls n k counter (G x) x.id (marked_means x).run (means x).run o ((low P x).part.lower o) (h o le few)

  pub wider : (r : SourceHere Q W Value) (o : Draft) (a : Operated) → n ≤ length o.slots → IsOperand Q W ask P code source_calls calls n r o a → n ≤ length a.out.slots
  wider r o a le i = let z = grown o.slots a.out.slots i.temps i.slots_are in omega (arith, le, z)

  pub member_counts : (x of : Expr) → Counts of → (name : Named) (u t : Static) → IsMember P.facts name u t → (o : Draft) → n ≤ length o.slots → (B x.id + D x.id) + G of ≤ 1 → SameHere Q W Value (marks_of x.id ((marked_means of).run >>= member_value name)) (means x).run → (Plain (means x).run o (let a = operand_at P (part_of P of) o in valued (member_had P name x.id a.operand of.id) x.id x.token a.out)) → LowC ((B x.id + D x.id) + G of) x.id (marks_of x.id ((marked_means of).run >>= member_value name)) (means x).run o (let a = operand_at P (part_of P of) o in valued (member_had P name x.id a.operand of.id) x.id x.token a.out)
  member_counts x of h _ _ _ (typing.IsMember.field class place t e) o le few s p =
      let a = operand_at P (part_of P of) o in
      counts_one Q W ask never P code source_calls calls n k counter (G of) of.id ((low P of).part.lower o).value.id (marked_means of).run (means of).run (means x).run o a (operand_expr of h o le (omega (arith, few))) le (member_value (named.Field class place)) (λ v. member_alike Q (Marked W) Q (Marked W) (marked_ask ask) (marked_ask ask) (keeping Q W ask) (named.Field class place) v)
      (step.Get a.operand class place) tt (code_type (type_at P.facts x.id)) (Completed of.id) (λ e. own e) x.id x.token s p few
  member_counts x of h _ _ _ (typing.IsMember.array_length t) o le few s p =
      let a = operand_at P (part_of P of) o in
      counts_one Q W ask never P code source_calls calls n k counter (G of) of.id ((low P of).part.lower o).value.id (marked_means of).run (means of).run (means x).run o a (operand_expr of h o le (omega (arith, few))) le (member_value named.ArrayLength) (λ v. member_alike Q (Marked W) Q (Marked W) (marked_ask ask) (marked_ask ask) (keeping Q W ask) named.ArrayLength v)
      (step.Len a.operand) tt (code_type (type_at P.facts x.id)) (Completed of.id) (λ e. own e) x.id x.token s p few

  pub index_counts : (x of index : Expr) → Counts of → Counts index → (o : Draft) → n ≤ length o.slots → (B x.id + D x.id) + (G of + G index) ≤ 1 → SameHere Q W Value (marks_of x.id ((marked_means of).run >>= (λ a. (marked_means index).run >>= (λ i. on_shared (load a i))))) (means x).run → Plain (means x).run o (index_low P (part_of P of) (part_of P index) x.id x.token o) → LowC ((B x.id + D x.id) + (G of + G index)) x.id (marks_of x.id ((marked_means of).run >>= (λ a. (marked_means index).run >>= (λ i. on_shared (load a i))))) (means x).run o (index_low P (part_of P of) (part_of P index) x.id x.token o)
  index_counts x of index h h' o le few s p =
      let a = operand_at P (part_of P of) o in
      let i = operand_expr of h o le (omega (arith, few)) in
      let le1 = wider (means of).run o a le i.plain in
      let b = operand_at P (part_of P index) a.out in
      let j = operand_expr index h' a.out le1 (omega (arith, few)) in
      counts_two Q W ask never P code source_calls calls n k counter (G of) of.id ((low P of).part.lower o).value.id (G index) index.id ((low P index).part.lower a.out).value.id (marked_means of).run (marked_means index).run (means of).run (means index).run (means x).run o a b i j le le1 (grown a.out.slots b.out.slots j.plain.temps j.plain.slots_are)
      (λ v w. on_shared (load v w)) (λ v w. act_here Q (Marked W) Q (Marked W) (marked_ask ask) (marked_ask ask) (keeping Q W ask) (cells.load v w)) (step.Load a.operand b.operand) tt (code_type (type_at P.facts x.id)) (Completed index.id) (λ e. own e) x.id x.token s p few

  -- ---- `new`

  pub array_counts : (site : ℕ) (t : Element) (x y : Expr) → Counts y → (o : Draft) → n ≤ length o.slots → (B x.id + D x.id) + G y ≤ 1 → SameHere Q W Value (marks_of x.id ((marked_means y).run >>= made_array (named.NewArray site) (static.Array t))) (means x).run → Plain (means x).run o (let a = operand_at P (part_of P y) o in valued (array_had P (named.NewArray site) (static.Array t) x.id a.operand y.id) x.id x.token a.out) → LowC ((B x.id + D x.id) + G y) x.id (marks_of x.id ((marked_means y).run >>= made_array (named.NewArray site) (static.Array t))) (means x).run o (let a = operand_at P (part_of P y) o in valued (array_had P (named.NewArray site) (static.Array t) x.id a.operand y.id) x.id x.token a.out)
  array_counts site t x y h o le few s p =
      let a = operand_at P (part_of P y) o in
      counts_one Q W ask never P code source_calls calls n k counter (G y) y.id ((low P y).part.lower o).value.id (marked_means y).run (means y).run (means x).run o a (operand_expr y h o le (omega (arith, few))) le (made_array (named.NewArray site) (static.Array t)) (λ v. array_here Q (Marked W) Q (Marked W) (marked_ask ask) (marked_ask ask) (keeping Q W ask) (named.NewArray site) (static.Array t) v)
      (step.Array (element_number t) a.operand site) tt (code_type (type_at P.facts x.id)) (Completed y.id) (λ e. own e) x.id x.token s p few

  -- ---- binary operators

  two_counts : (f : Operator) (x l r : Expr) → Counts l → Counts r → (o : Draft) → n ≤ length o.slots → (B x.id + D x.id) + (G l + G r) ≤ 1 → SameHere Q W Value (marks_of x.id ((marked_means l).run >>= (λ a. (marked_means r).run >>= (λ b. came_to (apply f a b))))) (means x).run → Plain (means x).run o (two_low P f (part_of P l) (part_of P r) x.id x.token o) → LowC ((B x.id + D x.id) + (G l + G r)) x.id (marks_of x.id ((marked_means l).run >>= (λ a. (marked_means r).run >>= (λ b. came_to (apply f a b))))) (means x).run o (two_low P f (part_of P l) (part_of P r) x.id x.token o)
  two_counts f x l r h h' o le few s p =
      let a = operand_at P (part_of P l) o in
      let i = operand_expr l h o le (omega (arith, few)) in
      let le1 = wider (means l).run o a le i.plain in
      let b = operand_at P (part_of P r) a.out in
      let j = operand_expr r h' a.out le1 (omega (arith, few)) in
      counts_two Q W ask never P code source_calls calls n k counter (G l) l.id ((low P l).part.lower o).value.id (G r) r.id ((low P r).part.lower a.out).value.id (marked_means l).run (marked_means r).run (means l).run (means r).run (means x).run o a b i j le le1 (grown a.out.slots b.out.slots j.plain.temps j.plain.slots_are)
      (λ v w. came_to (apply f v w)) (λ v w. came_here Q (Marked W) Q (Marked W) (marked_ask ask) (marked_ask ask) (keeping Q W ask) (apply f v w)) (step.Op f a.operand (Some b.operand)) tt (code_type (type_at P.facts x.id)) (Completed r.id) (λ e. own e) x.id x.token s p few

  abbrev Two : Sign → Expr → Expr → Expr → Type 0
  Two s x l r = (o : Draft) → n ≤ length o.slots → (B x.id + D x.id) + (G l + G r) ≤ 1 → SameHere Q W Value (marks_of x.id (binary s (type_at P.facts l.id) (type_at P.facts r.id) (marked_means l).run (marked_means r).run)) (means x).run → Plain (means x).run o (binary_low P s (part_of P l) (part_of P r) x.id x.token o) → LowC ((B x.id + D x.id) + (G l + G r)) x.id (marks_of x.id (binary s (type_at P.facts l.id) (type_at P.facts r.id) (marked_means l).run (marked_means r).run)) (means x).run o (binary_low P s (part_of P l) (part_of P r) x.id x.token o)

  pub binary_counts : (s : Sign) (x l r : Expr) → Counts l → Counts r → Two s x l r
  binary_counts sign.Plus x l r h h' o le few s p = two_counts (op_of sign.Plus (type_at P.facts l.id) (type_at P.facts r.id)) x l r h h' o le few s p
  binary_counts sign.Minus x l r h h' o le few s p = two_counts (op_of sign.Minus (type_at P.facts l.id) (type_at P.facts r.id)) x l r h h' o le few s p
  binary_counts sign.Times x l r h h' o le few s p = two_counts (op_of sign.Times (type_at P.facts l.id) (type_at P.facts r.id)) x l r h h' o le few s p
  binary_counts sign.Over x l r h h' o le few s p = two_counts (op_of sign.Over (type_at P.facts l.id) (type_at P.facts r.id)) x l r h h' o le few s p
  binary_counts sign.Rest x l r h h' o le few s p = two_counts (op_of sign.Rest (type_at P.facts l.id) (type_at P.facts r.id)) x l r h h' o le few s p
  binary_counts sign.And x l r h h' o le few s p = two_counts (op_of sign.And (type_at P.facts l.id) (type_at P.facts r.id)) x l r h h' o le few s p
  binary_counts sign.Or x l r h h' o le few s p = two_counts (op_of sign.Or (type_at P.facts l.id) (type_at P.facts r.id)) x l r h h' o le few s p
  binary_counts sign.Xor x l r h h' o le few s p = two_counts (op_of sign.Xor (type_at P.facts l.id) (type_at P.facts r.id)) x l r h h' o le few s p
  binary_counts sign.Shl x l r h h' o le few s p = two_counts (op_of sign.Shl (type_at P.facts l.id) (type_at P.facts r.id)) x l r h h' o le few s p
  binary_counts sign.Shr x l r h h' o le few s p = two_counts (op_of sign.Shr (type_at P.facts l.id) (type_at P.facts r.id)) x l r h h' o le few s p
  binary_counts sign.Ushr x l r h h' o le few s p = two_counts (op_of sign.Ushr (type_at P.facts l.id) (type_at P.facts r.id)) x l r h h' o le few s p
  binary_counts sign.Less x l r h h' o le few s p = two_counts (op_of sign.Less (type_at P.facts l.id) (type_at P.facts r.id)) x l r h h' o le few s p
  binary_counts sign.AtMost x l r h h' o le few s p = two_counts (op_of sign.AtMost (type_at P.facts l.id) (type_at P.facts r.id)) x l r h h' o le few s p
  binary_counts sign.More x l r h h' o le few s p = two_counts (op_of sign.More (type_at P.facts l.id) (type_at P.facts r.id)) x l r h h' o le few s p
  binary_counts sign.AtLeast x l r h h' o le few s p = two_counts (op_of sign.AtLeast (type_at P.facts l.id) (type_at P.facts r.id)) x l r h h' o le few s p
  binary_counts sign.Equal x l r h h' o le few s p = two_counts (op_of sign.Equal (type_at P.facts l.id) (type_at P.facts r.id)) x l r h h' o le few s p
  binary_counts sign.Unequal x l r h h' o le few s p = two_counts (op_of sign.Unequal (type_at P.facts l.id) (type_at P.facts r.id)) x l r h h' o le few s p
  binary_counts sign.Not x l r h h' o le few s p = two_counts (op_of sign.Not (type_at P.facts l.id) (type_at P.facts r.id)) x l r h h' o le few s p
  binary_counts sign.Inv x l r h h' o le few s p = two_counts (op_of sign.Inv (type_at P.facts l.id) (type_at P.facts r.id)) x l r h h' o le few s p
  binary_counts sign.ToInt x l r h h' o le few s p = two_counts (op_of sign.ToInt (type_at P.facts l.id) (type_at P.facts r.id)) x l r h h' o le few s p
  binary_counts sign.ToLong x l r h h' o le few s p = two_counts (op_of sign.ToLong (type_at P.facts l.id) (type_at P.facts r.id)) x l r h h' o le few s p
  binary_counts sign.Both x l r h h' o le few s p = counts_choice Q W ask never P code source_calls calls n k counter met true (G l) (G r) x.id x.token (marked_means l).run (marked_means r).run (means l).run (means r).run (means x).run o (part_of P l) (part_of P r) le (h o le (omega (arith, few))) (λ o' le'. h' o' le' (omega (arith, few))) s p few
  binary_counts sign.Either x l r h h' o le few s p = counts_choice Q W ask never P code source_calls calls n k counter met false (G l) (G r) x.id x.token (marked_means l).run (marked_means r).run (means l).run (means r).run (means x).run o (part_of P l) (part_of P r) le (h o le (omega (arith, few))) (λ o' le'. h' o' le' (omega (arith, few))) s p few
