-- What is counted of assignments.
use Rattle.std.proofs.Common.{◌≡◌, ℕ, ◌+◌, ◌≤◌, List, [], ◌∷◌, ◌++◌, length, unwrap_or, slice_get, slice_set, Option, Some, refl, sym, ap, ◌∙◌, subst, arith}
use Rattle.px_value.specs.declared.value.Value.{Value}
use Rattle.px_value.specs.declared.value.Value.TheVariants.{Null}
use Rattle.px_value.specs.Outcome.{◌>>=◌, pure, on_shared}
use Rattle.px_tree.specs.declared.Expr.{Expr}
use Rattle.px_tree.specs.declared.ExprForm.{ExprForm-F, ExprForm, out-ExprForm}
use Rattle.px_tree.specs.declared.ExprForm.TheVariants.{outs-Number, outs-Str, outs-True, outs-False, outs-Null, outs-This, outs-Name, outs-Group, outs-Field, outs-Index, outs-Call, outs-NewObject, outs-NewArray, outs-Prefix, outs-Binary}
use Rattle.px_facts.specs.declared.types.Ty.{Ty as Static}
use Rattle.px_facts.specs.declared.checked.Named.{Named}
use Rattle.px_facts.specs.declared.checked.Named.TheVariants as named
use Rattle.px_facts.specs.declared.checked.Checked.{Checked}
use Rattle.px_effects.specs.Cells as cells
use Rattle.px_effects.specs.Run.{Ask}
use Rattle.px_mean.specs.Facts.{type_at, named_at}
use Rattle.px_mean.specs.Effects.{put_field, store}
use Rattle.px_mean.specs.Expressions.{Around, Calls as SourceCalls, Meant, fit, slot_value, assign_slot, put_name, put_member}
use Rattle.px_mean.specs.Typing as typing
use Rattle.px_mean.specs.Typing.{IsVariable, IsMember, IsTypedExpr}
use Rattle.px_normal.specs.declared.node.Counter.{Counter}
use Rattle.px_normal.specs.declared.node.Counter.TheVariants.{Completed}
use Rattle.px_normal.specs.declared.word.Operand.TheVariants.{Slot}
use Rattle.px_normal.specs.declared.word.Word.{Word}
use Rattle.px_normal.specs.declared.word.Word.TheVariants as w
use Rattle.px_normal.specs.declared.method.Tree.{Tree}
use Rattle.px_normal.specs.declared.method.Tree.TheVariants.{Do}
use Rattle.px_normal.specs.declared.code.Code.{Code}
use Rattle.px_normal.specs.CodeRun.{Calls}
use Rattle.px_lowering.specs.declared.draft.Draft.{Draft}
use Rattle.px_lowering.specs.Emit.{Operated, emitted, slot_of}
use Rattle.px_lowering.specs.Expressions.{part_of, operand_at, fit_to, fitted_operand, put_form, put_low}
use Rattle.px_lowering.specs.Expressions as lower
use Rattle.px_counts.specs.Marks.{Marked, marked_ask}
use Rattle.px_counts.proofs.Unmarked.{SameThere}
use Rattle.px_counts.proofs.Beside.{only_act_here}
use Rattle.px_preservation.proofs.Agree.{CallsMeet}
use Rattle.px_preservation.proofs.Afters.{behind, grown}
use Rattle.px_preservation.proofs.Operands.{slotted_is}
use Rattle.px_preservation.proofs.Program.{SameProgram}
use Rattle.px_counted.specs.Laws.{NeverThrows}
use Rattle.px_counted.proofs.Keeps.{KeepsHere, keeping}
use Rattle.px_counted.proofs.Steps.{CallsCount}
use Rattle.px_counted.proofs.Operands.{own}
use Rattle.px_counted.proofs.Values.{M}
use Rattle.px_counted.proofs.Slots.{counts_slot}
use Rattle.px_counted.proofs.Given.{gives, gives_name, gives_field, gives_index}
use Rattle.px_counted.proofs.MarkedForms.{meant_number, meant_text, meant_true, meant_false, meant_null, meant_this, meant_name, meant_group, meant_field, meant_index, meant_call, meant_new_object, meant_new_array, meant_prefix, meant_binary}
use Rattle.px_counted.proofs.Expressions.{AM, means, marked_means, Counts, operand_expr, wider}
use Rattle.px_counted.proofs.Invoked.{fit_counts, fitted_counts}
use Rattle.px_counted.proofs.Dones.{CountsDone, pure_done, leaves_done, part_done, only_done, operand_done, word_done, more_done}

module _ (Q W : Type 0) (ask : Ask Q W) (never : NeverThrows Q W ask) (P : Checked) (code : Code) (source_calls : SourceCalls Q W) (calls : Calls Q W) (n k : ℕ) (counter : Counter) (met : CallsMeet Q W ask P code source_calls calls n) (same : SameProgram P code) (marked_calls : SourceCalls Q (Marked W)) (alike : (method : ℕ) (values : List Value) → SameThere Q W (Option Value) (marked_calls method values) (source_calls method values)) (count : CallsCount Q W ask code calls k counter never marked_calls) where
  abbrev HereM : Type 0 → Type 0
  HereM A = M Q W ask never P code source_calls calls n k counter A

  abbrev U : Type 0
  U = Unit {0}

  abbrev Put : ℕ → HereM U → Draft → Draft → Type 0
  Put g r o o' = CountsDone Q W ask never P code source_calls calls n k counter U g r o o'

  abbrev C : Expr → Type 0
  C = Counts Q W ask never P code source_calls calls n k counter met same marked_calls alike

  abbrev MM : Expr → Meant Q (Marked W)
  MM = marked_means Q W ask never P code source_calls calls n k counter met same marked_calls alike

  abbrev SM : Expr → Meant Q W
  SM = means Q W ask never P code source_calls calls n k counter met same marked_calls alike

  abbrev Around' : Around Q (Marked W)
  Around' = AM Q W ask never P code source_calls calls n k counter met same marked_calls alike

  abbrev G : Expr → ℕ
  G x = gives counter x

  -- the value of a slot, and then the rest
  pub slot_first : (g slot : ℕ) (f : Value → HereM U) (o o' : Draft) → ((v : Value) → Put g (f v) o o') → Put g (slot_value slot >>= f) o o'
  slot_first g slot f o o' h = record {
    grows = (h Null).grows;
    counts = λ trees all known eq s c ag size j. (h (unwrap_or (slice_get s.locals slot) Null)).counts trees all known eq s c ag size j;
  }

  -- a value in the slot of a local
  pub local_counts : (x : Expr) → C x → (to : Static) (slot token : ℕ) (o : Draft) → n ≤ length o.slots → G x ≤ 1 → Put (G x) ((MM x).run >>= fit (MM x).ty to >>= assign_slot slot) o (slot_of P slot token (fit_to P to (part_of P x) o))
  local_counts x h to slot token o le few =
      let l = fit_to P to (part_of P x) o in
      let f = fit_counts Q W ask never P code source_calls calls n k counter met same marked_calls alike count x h to o le few in
      let s = slotted_is Q W ask P code source_calls calls n met ((SM x).run >>= fit (SM x).ty to) o l slot token f.plain in
      leaves_done Q W ask never P code source_calls calls n k counter Value U (G x) ((MM x).run >>= fit (MM x).ty to) (assign_slot slot) o (slot_of P slot token l) (λ v s. (tt, slice_set s.locals slot v, refl))
      (part_done Q W ask never P code source_calls calls n k counter (G x) x.id l.value.id ((MM x).run >>= fit (MM x).ty to) o (slot_of P slot token l) s.trees s.trees_are
      (λ ts e. counts_slot Q W ask never P code source_calls calls n k counter (G x) x.id ((MM x).run >>= fit (MM x).ty to) ((SM x).run >>= fit (SM x).ty to) o l slot token le f ts e))

  -- a field of the object that stands in this slot or is this operand
  keeps_field : (of : Value) (place : ℕ) (v : Value) → KeepsHere Q W U (on_shared (put_field of place v))
  keeps_field of place v = only_act_here Q (Marked W) Q (Marked W) (marked_ask ask) (marked_ask ask) (keeping Q W ask) (cells.put_field of place v)

  keeps_store : (of index v : Value) → KeepsHere Q W U (on_shared (store of index v))
  keeps_store of index v = only_act_here Q (Marked W) Q (Marked W) (marked_ask ask) (marked_ask ask) (keeping Q W ask) (cells.store of index v)

  own_field_counts : (x : Expr) → C x → (to : Static) (class place token : ℕ) (o : Draft) → n ≤ length o.slots → G x ≤ 1 → Put (G x) (put_name (named.Field class place) to (MM x).ty (MM x).run) o (lower.put_name P (named.Field class place) to (part_of P x) token o)
  own_field_counts x h to class place token o le few =
      let a = fitted_operand P to (part_of P x) o in
      let i = fitted_counts Q W ask never P code source_calls calls n k counter met same marked_calls alike count x h to o le few in
      slot_first (G x) 0 (λ of. (MM x).run >>= fit (MM x).ty to >>= (λ v. on_shared (put_field of place v))) o (emitted P (w.Put (Slot 0) class place a.operand) token (Completed x.id) a.out)
      (λ of. word_done Q W ask never P code source_calls calls n k counter U (G x) x.id (fit_to P to (part_of P x) o).value.id ((MM x).run >>= fit (MM x).ty to) ((SM x).run >>= fit (SM x).ty to) o a i le (λ v. on_shared (put_field of place v)) (keeps_field of place) (w.Put (Slot 0) class place a.operand) (λ slots. tt) token (Completed x.id) (λ e. own e))

  variable_counts : (slots : List Static) (nm : Named) (t to : Static) (x : Expr) (token : ℕ) → IsVariable P.facts slots nm t → C x → (o : Draft) → n ≤ length o.slots → G x ≤ 1 → Put (G x) (put_name nm to (MM x).ty (MM x).run) o (lower.put_name P nm to (part_of P x) token o)
  variable_counts slots _ _ to x token (typing.IsVariable.local slot t e) h o le few = local_counts x h to slot token o le few
  variable_counts slots _ _ to x token (typing.IsVariable.field class place t e f) h o le few = own_field_counts x h to class place token o le few

  -- the statement behind the value, and what it is in all
  last_trees : (o : Draft) (a : Operated) (word : Word) (ts : List Tree) → a.out.trees ≡ o.trees ++ ts → a.out.trees ++ Do (length a.out.nodes + 1) word ∷ [] ≡ o.trees ++ (ts ++ Do (length a.out.nodes + 1) word ∷ [])
  last_trees o a word ts e = behind o.trees a.out.trees (a.out.trees ++ Do (length a.out.nodes + 1) word ∷ []) ts (Do (length a.out.nodes + 1) word ∷ []) e refl

  member_counts : (nm : Named) (u t to : Static) (of x : Expr) (token : ℕ) → IsMember P.facts nm u t → C of → C x → (o : Draft) → n ≤ length o.slots → G of + G x ≤ 1 → Put (G of + G x) ((MM of).run >>= (λ v. (MM x).run >>= fit (MM x).ty to >>= put_member nm v)) o (lower.put_member P nm to (part_of P of) (part_of P x) token o)
  member_counts _ _ _ to of x token (typing.IsMember.field class place t e) hof hx o le few =
      let a = operand_at P (part_of P of) o in
      let i = operand_expr Q W ask never P code source_calls calls n k counter met same marked_calls alike of hof o le (omega (arith, few)) in
      let le1 = wider Q W ask never P code source_calls calls n k counter met same marked_calls alike (SM of).run o a le i.plain in
      let b = fitted_operand P to (part_of P x) a.out in
      let j = fitted_counts Q W ask never P code source_calls calls n k counter met same marked_calls alike count x hx to a.out le1 (omega (arith, few)) in
      let word = w.Put a.operand class place b.operand in
      operand_done Q W ask never P code source_calls calls n k counter U (G of) of.id _ (G x) (MM of).run (SM of).run o a i le (λ v. (MM x).run >>= fit (MM x).ty to >>= put_member (named.Field class place) v) (emitted P word token (Completed x.id) b.out) (grown a.out.slots b.out.slots j.plain.temps j.plain.slots_are)
      (j.plain.trees ++ Do (length b.out.nodes + 1) word ∷ []) (last_trees a.out b word j.plain.trees j.plain.trees_are)
      (λ of'. word_done Q W ask never P code source_calls calls n k counter U (G x) x.id (fit_to P to (part_of P x) a.out).value.id ((MM x).run >>= fit (MM x).ty to) ((SM x).run >>= fit (SM x).ty to) a.out b j le1 (λ v. on_shared (put_field of' place v)) (keeps_field of' place) word (λ slots. tt) token (Completed x.id) (λ e. own e))
  member_counts _ _ _ to of x token (typing.IsMember.array_length t) hof hx o le few =
      let a = operand_at P (part_of P of) o in
      let i = operand_expr Q W ask never P code source_calls calls n k counter met same marked_calls alike of hof o le (omega (arith, few)) in
      let le1 = wider Q W ask never P code source_calls calls n k counter met same marked_calls alike (SM of).run o a le i.plain in
      let b = fitted_operand P to (part_of P x) a.out in
      let j = fitted_counts Q W ask never P code source_calls calls n k counter met same marked_calls alike count x hx to a.out le1 (omega (arith, few)) in
      operand_done Q W ask never P code source_calls calls n k counter U (G of) of.id _ (G x) (MM of).run (SM of).run o a i le (λ v. (MM x).run >>= fit (MM x).ty to >>= put_member named.ArrayLength v) b.out (grown a.out.slots b.out.slots j.plain.temps j.plain.slots_are) j.plain.trees j.plain.trees_are
      (λ of'. leaves_done Q W ask never P code source_calls calls n k counter Value U (G x) ((MM x).run >>= fit (MM x).ty to) (put_member named.ArrayLength of') a.out b.out (λ v s. (tt, s.locals, refl))
      (only_done Q W ask never P code source_calls calls n k counter (G x) x.id (fit_to P to (part_of P x) a.out).value.id ((MM x).run >>= fit (MM x).ty to) ((SM x).run >>= fit (SM x).ty to) a.out b j))

  index_counts : (to : Static) (of index x : Expr) (token : ℕ) → C of → C index → C x → (o : Draft) → n ≤ length o.slots → G of + (G index + G x) ≤ 1 → Put (G of + (G index + G x)) ((MM of).run >>= (λ a. (MM index).run >>= (λ i. (MM x).run >>= fit (MM x).ty to >>= (λ v. on_shared (store a i v))))) o (lower.put_element P to (part_of P of) (part_of P index) (part_of P x) token o)
  index_counts to of index x token hof hi hx o le few =
      let a = operand_at P (part_of P of) o in
      let ia = operand_expr Q W ask never P code source_calls calls n k counter met same marked_calls alike of hof o le (omega (arith, few)) in
      let le1 = wider Q W ask never P code source_calls calls n k counter met same marked_calls alike (SM of).run o a le ia.plain in
      let b = operand_at P (part_of P index) a.out in
      let ib = operand_expr Q W ask never P code source_calls calls n k counter met same marked_calls alike index hi a.out le1 (omega (arith, few)) in
      let le2 = wider Q W ask never P code source_calls calls n k counter met same marked_calls alike (SM index).run a.out b le1 ib.plain in
      let d = fitted_operand P to (part_of P x) b.out in
      let id' = fitted_counts Q W ask never P code source_calls calls n k counter met same marked_calls alike count x hx to b.out le2 (omega (arith, few)) in
      let word = w.Store a.operand b.operand d.operand in
      let last = emitted P word token (Completed x.id) d.out in
      let up2 = grown b.out.slots d.out.slots id'.plain.temps id'.plain.slots_are in
      let up1 = grown a.out.slots b.out.slots ib.plain.temps ib.plain.slots_are in
      let ts2 = id'.plain.trees ++ Do (length d.out.nodes + 1) word ∷ [] in
      let are2 = last_trees b.out d word id'.plain.trees id'.plain.trees_are in
      operand_done Q W ask never P code source_calls calls n k counter U (G of) of.id _ (G index + G x) (MM of).run (SM of).run o a ia le (λ v. (MM index).run >>= (λ i. (MM x).run >>= fit (MM x).ty to >>= (λ u. on_shared (store v i u)))) last (omega (arith, up1, up2)) (ib.plain.trees ++ ts2) (behind a.out.trees b.out.trees last.trees ib.plain.trees ts2 ib.plain.trees_are are2)
      (λ v. operand_done Q W ask never P code source_calls calls n k counter U (G index) index.id _ (G x) (MM index).run (SM index).run a.out b ib le1 (λ i. (MM x).run >>= fit (MM x).ty to >>= (λ u. on_shared (store v i u))) last up2 ts2 are2
      (λ i. word_done Q W ask never P code source_calls calls n k counter U (G x) x.id (fit_to P to (part_of P x) b.out).value.id ((MM x).run >>= fit (MM x).ty to) ((SM x).run >>= fit (SM x).ty to) b.out d id' le2 (λ u. on_shared (store v i u)) (keeps_store v i) word (λ slots. tt) token (Completed x.id) (λ e. own e)))

  -- ---- the forms of what is assigned to

  by_form : (place x : Expr) (m : Meant Q (Marked W)) (form : ExprForm-F ExprForm Expr) (token g : ℕ) (o : Draft) → MM place ≡ m → out-ExprForm place.form ≡ form → g ≤ G place + G x → Put g (m.put (MM x).ty (MM x).run) o (put_form P form place.id (part_of P x) token o) → Put (G place + G x) ((MM place).put (MM x).ty (MM x).run) o (put_low P place (part_of P x) token o)
  by_form place x m form token g o a b le h =
      more_done Q W ask never P code source_calls calls n k counter U g (G place + G x) ((MM place).put (MM x).ty (MM x).run) o (put_low P place (part_of P x) token o) le
      (subst (λ (m : Meant Q (Marked W)). Put g (m.put (MM x).ty (MM x).run) o (put_low P place (part_of P x) token o)) (sym a)
      (subst (λ (f : ExprForm-F ExprForm Expr). Put g (m.put (MM x).ty (MM x).run) o (put_form P f place.id (part_of P x) token o)) (sym b) h))

  nothing : (o : Draft) → Put 0 (pure tt) o o
  nothing o = pure_done Q W ask never P code source_calls calls n k counter U tt o

  pub assigned_counts : (static : List Static) → ((y : Expr) → IsTypedExpr P.facts static y → C y) → (place x : Expr) (token : ℕ) → IsTypedExpr P.facts static place → C x → (o : Draft) → n ≤ length o.slots → G place + G x ≤ 1 → Put (G place + G x) ((MM place).put (MM x).ty (MM x).run) o (put_low P place (part_of P x) token o)
  assigned_counts static counts _ x token (typing.IsTypedExpr.number y digits long h e) l o le few = by_form y x _ _ token 0 o (meant_number Q W Around' y digits long h) (ap out-ExprForm h ∙ outs-Number digits long) (omega (arith)) (nothing o)
  assigned_counts static counts _ x token (typing.IsTypedExpr.text y bytes h e) l o le few = by_form y x _ _ token 0 o (meant_text Q W Around' y bytes h) (ap out-ExprForm h ∙ outs-Str bytes) (omega (arith)) (nothing o)
  assigned_counts static counts _ x token (typing.IsTypedExpr.truth y h e) l o le few = by_form y x _ _ token 0 o (meant_true Q W Around' y h) (ap out-ExprForm h ∙ outs-True) (omega (arith)) (nothing o)
  assigned_counts static counts _ x token (typing.IsTypedExpr.falsehood y h e) l o le few = by_form y x _ _ token 0 o (meant_false Q W Around' y h) (ap out-ExprForm h ∙ outs-False) (omega (arith)) (nothing o)
  assigned_counts static counts _ x token (typing.IsTypedExpr.null y h e) l o le few = by_form y x _ _ token 0 o (meant_null Q W Around' y h) (ap out-ExprForm h ∙ outs-Null) (omega (arith)) (nothing o)
  assigned_counts static counts _ x token (typing.IsTypedExpr.this y h e) l o le few = by_form y x _ _ token 0 o (meant_this Q W Around' y h) (ap out-ExprForm h ∙ outs-This) (omega (arith)) (nothing o)
  assigned_counts static counts _ x token (typing.IsTypedExpr.group y inner h e i) l o le few = by_form y x _ _ token 0 o (meant_group Q W Around' y inner inner h refl) (ap out-ExprForm h ∙ outs-Group inner) (omega (arith)) (nothing o)
  assigned_counts static counts _ x token (typing.IsTypedExpr.call y of name args method fact h a b c d i) l o le few = by_form y x _ _ token 0 o (meant_call Q W Around' y of name args h) (ap out-ExprForm h ∙ outs-Call of name args) (omega (arith)) (nothing o)
  assigned_counts static counts _ x token (typing.IsTypedExpr.library y of name args params h a i j) l o le few = by_form y x _ _ token 0 o (meant_call Q W Around' y (Some of) name args h) (ap out-ExprForm h ∙ outs-Call (Some of) name args) (omega (arith)) (nothing o)
  assigned_counts static counts _ x token (typing.IsTypedExpr.query y of name written args number site q h a b c d i) l o le few = by_form y x _ _ token 0 o (meant_call Q W Around' y of name (written ∷ args) h) (ap out-ExprForm h ∙ outs-Call of name (written ∷ args)) (omega (arith)) (nothing o)
  assigned_counts static counts _ x token (typing.IsTypedExpr.update y of name written args number q h a b c d e i) l o le few = by_form y x _ _ token 0 o (meant_call Q W Around' y of name (written ∷ args) h) (ap out-ExprForm h ∙ outs-Call of name (written ∷ args)) (omega (arith)) (nothing o)
  assigned_counts static counts _ x token (typing.IsTypedExpr.new_object y name class site h a b) l o le few = by_form y x _ _ token 0 o (meant_new_object Q W Around' y name h) (ap out-ExprForm h ∙ outs-NewObject name) (omega (arith)) (nothing o)
  assigned_counts static counts _ x token (typing.IsTypedExpr.new_array y size base site t h a b i) l o le few = by_form y x _ _ token 0 o (meant_new_array Q W Around' y size size base h refl) (ap out-ExprForm h ∙ outs-NewArray base size) (omega (arith)) (nothing o)
  assigned_counts static counts _ x token (typing.IsTypedExpr.prefix y z sign h a i) l o le few = by_form y x _ _ token 0 o (meant_prefix Q W Around' y z z sign h refl) (ap out-ExprForm h ∙ outs-Prefix sign z) (omega (arith)) (nothing o)
  assigned_counts static counts _ x token (typing.IsTypedExpr.binary y left right sign at h a i j) l o le few = by_form y x _ _ token 0 o (meant_binary Q W Around' y left right left right sign at h refl refl) (ap out-ExprForm h ∙ outs-Binary sign at left right) (omega (arith)) (nothing o)
  assigned_counts static counts _ x token (typing.IsTypedExpr.variable y name h v) l o le few = let z = gives_name counter y name h in by_form y x _ _ token (G x) o (meant_name Q W Around' y name h) (ap out-ExprForm h ∙ outs-Name name) (omega (arith, z)) (variable_counts static (named_at P.facts y.id) (type_at P.facts y.id) (type_at P.facts y.id) x token v l o le (omega (arith, few)))
  assigned_counts static counts _ x token (typing.IsTypedExpr.field y of name h m i) l o le few = let z = gives_field counter y of name h in by_form y x _ _ token (G of + G x) o (meant_field Q W Around' y of of name h refl) (ap out-ExprForm h ∙ outs-Field of name) (omega (arith, z)) (member_counts (named_at P.facts y.id) (type_at P.facts of.id) (type_at P.facts y.id) (type_at P.facts y.id) of x token m (counts of i) l o le (omega (arith, z, few)))
  assigned_counts static counts _ x token (typing.IsTypedExpr.indexed y of index t h e d i j) l o le few = let z = gives_index counter y of index h in by_form y x _ _ token (G of + (G index + G x)) o (meant_index Q W Around' y of of index index h refl refl) (ap out-ExprForm h ∙ outs-Index of index) (omega (arith, z)) (index_counts (type_at P.facts y.id) of index x token (counts of i) (counts index j) l o le (omega (arith, z, few)))
