-- The lists of control and calls are the edges that the rules give.
use Rattle.std.proofs.Common.{◌≡◌, ◌≤◌, ℕ, zero, suc, Bool, true, false, List, [], ◌∷◌, ◌++◌, Option, Some, None, slice_get, refl, sym, ap, ◌∙◌, ◌⊎◌, inl, inr, ⊎_elim, subst, if◌then◌else◌, arith}
use Rattle.std.proofs.lemmas.Option.{same_Some}
use Rattle.px_constraints.specs.System.{At}
use Rattle.px_normal.specs.declared.ty.Ty.{Ty}
use Rattle.px_normal.specs.declared.method.Method.{Method}
use Rattle.px_normal.specs.declared.code.Code.{Code}
use Rattle.px_normal.specs.First.{numbered}
use Rattle.px_flow_points.specs.Statements.{IsMethod}
use Rattle.px_depend.specs.declared.edge.Edge.{Edge}
use Rattle.px_depend.specs.declared.edge.End.TheVariants as end
use Rattle.px_depend.specs.declared.edge.Tie.TheVariants as tie
use Rattle.px_depend.specs.declared.lines.Does.{Does}
use Rattle.px_depend.specs.declared.lines.Does.TheVariants as does
use Rattle.px_depend.specs.declared.lines.Line.{Line}
use Rattle.px_depend.specs.declared.places.Place.{Place}
use Rattle.px_depend.specs.Depend.{edge, IsEdge}
use Rattle.px_depend.specs.Depend as rule
use Rattle.px_depend.specs.Lines.{line, lines_of}
use Rattle.px_depend.specs.Sizes.{size_of}
use Rattle.px_depend.specs.Places.{place, nodes_at}
use Rattle.px_depend.specs.Local.{given_by, given_places, argument_at, arguments, result_edge, results, call_edges, called, does_edges, line_edges, lines_edges, entry_one, entry_edges, local_edges}
use Rattle.px_flow_points.proofs.Elements.{in_none, in_one, in_cons, in_head, in_tail, in_append, in_first, in_second, in_map, from_map}
use Rattle.px_depend.proofs.Lists.{same_slot, same_node, nodes_to, nodes_back}

-- ---- what methods return

record Gives (ls : List Line) (m back : ℕ) : Type 0 where
  by : ℕ
  at : At ls (line m by back does.Gives)

by_to : (d : Does) (l : Line) (m back : ℕ) → l.does ≡ d → At (given_by d l) (place back m) → line m l.by back does.Gives ≡ l
by_to does.Gives l m back e h = let q = in_one (place l.node l.method) (place back m) h in
    ap (λ (n : ℕ). line n l.by back does.Gives) (sym (same_slot l.node back l.method m q)) ∙ ap (λ (n : ℕ). line l.method l.by n does.Gives) (sym (same_node l.node back l.method m q)) ∙ ap (λ (z : Does). line l.method l.by l.node z) (sym e)
by_to does.Asks l m back e h = absurd (in_none (place back m) h)
by_to (does.Calls callee) l m back e h = absurd (in_none (place back m) h)
by_to does.Other l m back e h = absurd (in_none (place back m) h)

gives_to : (ls : List Line) (m back : ℕ) → At (given_places ls) (place back m) → Gives ls m back
gives_to [] m back h = absurd (in_none (place back m) h)
gives_to (l ∷ ls) m back h = ⊎_elim
    (λ (t : At (given_by l.does l) (place back m)). record { by = l.by; at = subst (λ (z : Line). At (z ∷ ls) (line m l.by back does.Gives)) (by_to l.does l m back refl t) (in_head (line m l.by back does.Gives) ls) })
    (λ (t : At (given_places ls) (place back m)). let r = gives_to ls m back t in record { by = r.by; at = in_tail l ls (line m r.by back does.Gives) r.at })
    (in_append (given_by l.does l) (given_places ls) (place back m) h)

gives_back : (ls : List Line) (m by back : ℕ) → At ls (line m by back does.Gives) → At (given_places ls) (place back m)
gives_back [] m by back h = absurd (in_none (line m by back does.Gives) h)
gives_back (l ∷ ls) m by back h = ⊎_elim
    (λ (q : l ≡ line m by back does.Gives). in_first (given_by l.does l) (given_places ls) (place back m) (subst (λ (z : Line). At (given_by z.does z) (place back m)) (sym q) (in_head (place back m) [])))
    (λ (t : At ls (line m by back does.Gives)). in_second (given_by l.does l) (given_places ls) (place back m) (gives_back ls m by back t))
    (in_cons l ls (line m by back does.Gives) h)

-- ---- arguments and results

record Argued (node to : ℕ) (types : List Ty) (n : ℕ) (x : Edge) : Type 0 where
  k : ℕ
  ty : Ty
  within : suc k ≤ n
  typed : slice_get types (suc k) ≡ Some ty
  is : edge (end.Node node) to (tie.Argument (suc k)) (size_of ty) ≡ x

one_argument : (node to k : ℕ) (types : List Ty) (o : Option Ty) (x : Edge) → slice_get types (suc k) ≡ o → At (argument_at node to (suc k) o) x → Argued node to types (suc k) x
one_argument node to k types None x g h = absurd (in_none x h)
one_argument node to k types (Some t) x g h = record { k = k; ty = t; within = omega arith; typed = g; is = in_one (edge (end.Node node) to (tie.Argument (suc k)) (size_of t)) x h }

arguments_to : (node to : ℕ) (types : List Ty) (n : ℕ) (x : Edge) → At (arguments node to types n) x → Argued node to types n x
arguments_to node to types zero x h = absurd (in_none x h)
arguments_to node to types (suc n) x h = ⊎_elim
    (λ (t : At (arguments node to types n) x). let r = arguments_to node to types n x t in let w = r.within in record { k = r.k; ty = r.ty; within = omega (arith, w); typed = r.typed; is = r.is })
    (λ (t : At (argument_at node to (suc n) (slice_get types (suc n))) x). one_argument node to n types (slice_get types (suc n)) x refl t)
    (in_append (arguments node to types n) (argument_at node to (suc n) (slice_get types (suc n))) x h)

argument_here : (node to k : ℕ) (o : Option Ty) (t : Ty) → o ≡ Some t → At (argument_at node to (suc k) o) (edge (end.Node node) to (tie.Argument (suc k)) (size_of t))
argument_here node to k o t g = subst (λ (z : Option Ty). At (argument_at node to (suc k) z) (edge (end.Node node) to (tie.Argument (suc k)) (size_of t))) (sym g) (in_head (edge (end.Node node) to (tie.Argument (suc k)) (size_of t)) [])

last_or : (k n : ℕ) → suc k ≤ suc n → (k ≡ n) ⊎ (suc k ≤ n)
last_or zero zero h = inl refl
last_or zero (suc n) h = inr (omega arith)
last_or (suc k) zero h = absurd (omega (arith, h))
last_or (suc k) (suc n) h = ⊎_elim (λ (e : k ≡ n). inl (ap suc e)) (λ (t : suc k ≤ n). inr (omega (arith, t))) (last_or k n (omega (arith, h)))

arguments_back : (node to : ℕ) (types : List Ty) (n k : ℕ) (t : Ty) → suc k ≤ n → slice_get types (suc k) ≡ Some t → At (arguments node to types n) (edge (end.Node node) to (tie.Argument (suc k)) (size_of t))
arguments_back node to types zero k t le g = absurd (omega (arith, le))
arguments_back node to types (suc n) k t le g = ⊎_elim
    (λ (q : k ≡ n). in_second (arguments node to types n) (argument_at node to (suc n) (slice_get types (suc n))) (edge (end.Node node) to (tie.Argument (suc k)) (size_of t)) (subst (λ j. At (argument_at node to (suc j) (slice_get types (suc j))) (edge (end.Node node) to (tie.Argument (suc k)) (size_of t))) q (argument_here node to k (slice_get types (suc k)) t g)))
    (λ (h : suc k ≤ n). in_first (arguments node to types n) (argument_at node to (suc n) (slice_get types (suc n))) (edge (end.Node node) to (tie.Argument (suc k)) (size_of t)) (arguments_back node to types n k t h g))
    (last_or k n le)

-- ---- the edges of a line

module _ (code : Code) where
  abbrev given : List Place
  given = given_places (lines_of code)

  results_to : (m by node callee : ℕ) (method : Method) (o : Option Ty) (x : Edge) → At (lines_of code) (line m by node (does.Calls callee)) → IsMethod code callee method → method.gives ≡ o → At (results node o (nodes_at callee given)) x → IsEdge code x
  results_to m by node callee method None x at is g h = absurd (in_none x h)
  results_to m by node callee method (Some t) x at is g h =
      let c = from_map (result_edge node t) (nodes_at callee given) x h in
      let r = gives_to (lines_of code) callee c.from (nodes_to callee given c.from c.at) in
      subst (λ (z : Edge). IsEdge code z) c.is (rule.IsEdge.returned at is r.at g)

  call_to : (m by node callee : ℕ) (method : Method) (x : Edge) → At (lines_of code) (line m by node (does.Calls callee)) → IsMethod code callee method → At (call_edges node method (nodes_at callee given)) x → IsEdge code x
  call_to m by node callee method x at is h = ⊎_elim
      (λ (t : At (edge (end.Node node) method.node tie.Enters 0 ∷ [] ++ arguments node method.node method.slots method.params) x). ⊎_elim
      (λ (q : edge (end.Node node) method.node tie.Enters 0 ≡ x). subst (λ (z : Edge). IsEdge code z) q (rule.IsEdge.calls at is))
      (λ (s : At (arguments node method.node method.slots method.params) x). let r = arguments_to node method.node method.slots method.params x s in subst (λ (z : Edge). IsEdge code z) r.is (rule.IsEdge.argument at is r.within r.typed))
      (in_cons (edge (end.Node node) method.node tie.Enters 0) (arguments node method.node method.slots method.params) x t))
      (λ (t : At (results node method.gives (nodes_at callee given)) x). results_to m by node callee method method.gives x at is refl t)
      (in_append (edge (end.Node node) method.node tie.Enters 0 ∷ [] ++ arguments node method.node method.slots method.params) (results node method.gives (nodes_at callee given)) x h)

  called_to : (m by node callee : ℕ) (o : Option Method) (x : Edge) → At (lines_of code) (line m by node (does.Calls callee)) → numbered code.methods callee ≡ o → At (called node o (nodes_at callee given)) x → IsEdge code x
  called_to m by node callee None x at g h = absurd (in_none x h)
  called_to m by node callee (Some method) x at g h = call_to m by node callee method x at (record { is = g }) h

  does_to : (l : Line) (d : Does) (x : Edge) → At (lines_of code) (line l.method l.by l.node d) → At (does_edges code given l.node d) x → IsEdge code x
  does_to l does.Asks x at h = subst (λ (z : Edge). IsEdge code z) (in_one (edge end.Db l.node tie.Held 0) x h) (rule.IsEdge.asks at)
  does_to l (does.Calls callee) x at h = called_to l.method l.by l.node callee (numbered code.methods callee) x at refl h
  does_to l does.Gives x at h = absurd (in_none x h)
  does_to l does.Other x at h = absurd (in_none x h)

  line_to : (l : Line) (x : Edge) → At (lines_of code) l → At (line_edges code given l) x → IsEdge code x
  line_to l x at h = ⊎_elim
      (λ (q : edge (end.Node l.by) l.node tie.Held 0 ≡ x). subst (λ (z : Edge). IsEdge code z) q (rule.IsEdge.held {d = l.does} at))
      (λ (t : At (does_edges code given l.node l.does) x). does_to l l.does x at t)
      (in_cons (edge (end.Node l.by) l.node tie.Held 0) (does_edges code given l.node l.does) x h)

  lines_to : (ls : List Line) (x : Edge) → ((l : Line) → At ls l → At (lines_of code) l) → At (lines_edges code given ls) x → IsEdge code x
  lines_to [] x all h = absurd (in_none x h)
  lines_to (l ∷ ls) x all h = ⊎_elim
      (λ (t : At (line_edges code given l) x). line_to l x (all l (in_head l ls)) t)
      (λ (t : At (lines_edges code given ls) x). lines_to ls x (λ k u. all k (in_tail l ls k u)) t)
      (in_append (line_edges code given l) (lines_edges code given ls) x h)

  -- ---- entries

  entry_to_if : (b : Bool) (n : ℕ) (m : Method) (x : Edge) → m.entry ≡ b → IsMethod code n m → At (if b then edge end.App m.node tie.Enters 0 ∷ [] else []) x → IsEdge code x
  entry_to_if true n m x g is h = subst (λ (z : Edge). IsEdge code z) (in_one (edge end.App m.node tie.Enters 0) x h) (rule.IsEdge.enters is g)
  entry_to_if false n m x g is h = absurd (in_none x h)

  entries_to : (ms : List Method) (x : Edge) → ((j : ℕ) (m : Method) → slice_get ms j ≡ Some m → (n : ℕ) × IsMethod code n m) → At (entry_edges ms) x → IsEdge code x
  entries_to [] x all h = absurd (in_none x h)
  entries_to (m ∷ ms) x all h = ⊎_elim
      (λ (t : At (entry_one m) x). let r = all zero m refl in entry_to_if m.entry r.0 m x refl r.1 t)
      (λ (t : At (entry_edges ms) x). entries_to ms x (λ j k g. all (suc j) k g) t)
      (in_append (entry_one m) (entry_edges ms) x h)

  pub local_to : (x : Edge) → At (local_edges code (lines_of code)) x → IsEdge code x
  local_to x h = ⊎_elim
      (λ (t : At (entry_edges code.methods) x). entries_to code.methods x (λ j m g. (suc j, record { is = g })) t)
      (λ (t : At (lines_edges code given (lines_of code)) x). lines_to (lines_of code) x (λ l u. u) t)
      (in_append (entry_edges code.methods) (lines_edges code given (lines_of code)) x h)

  -- ---- back

  lines_back : (ls : List Line) (l : Line) (x : Edge) → At ls l → At (line_edges code given l) x → At (lines_edges code given ls) x
  lines_back [] l x at h = absurd (in_none l at)
  lines_back (k ∷ ls) l x at h = ⊎_elim
      (λ (q : k ≡ l). in_first (line_edges code given k) (lines_edges code given ls) x (subst (λ (z : Line). At (line_edges code given z) x) (sym q) h))
      (λ (t : At ls l). in_second (line_edges code given k) (lines_edges code given ls) x (lines_back ls l x t h))
      (in_cons k ls l at)

  pub of_line : (m by node : ℕ) (d : Does) (x : Edge) → At (lines_of code) (line m by node d) → At (line_edges code given (line m by node d)) x → At (local_edges code (lines_of code)) x
  of_line m by node d x at h = in_second (entry_edges code.methods) (lines_edges code given (lines_of code)) x (lines_back (lines_of code) (line m by node d) x at h)

  pub of_does : (m by node : ℕ) (d : Does) (x : Edge) → At (lines_of code) (line m by node d) → At (does_edges code given node d) x → At (local_edges code (lines_of code)) x
  of_does m by node d x at h = of_line m by node d x at (in_tail (edge (end.Node by) node tie.Held 0) (does_edges code given node d) x h)

  pub of_call : (m by node callee : ℕ) (method : Method) (x : Edge) → At (lines_of code) (line m by node (does.Calls callee)) → IsMethod code callee method → At (call_edges node method (nodes_at callee given)) x → At (local_edges code (lines_of code)) x
  of_call m by node callee method x at is h = of_does m by node (does.Calls callee) x at (subst (λ (o : Option Method). At (called node o (nodes_at callee given)) x) (sym is.is) h)

  pub call_argument : (node callee k : ℕ) (method : Method) (t : Ty) → suc k ≤ method.params → slice_get method.slots (suc k) ≡ Some t → At (call_edges node method (nodes_at callee given)) (edge (end.Node node) method.node (tie.Argument (suc k)) (size_of t))
  call_argument node callee k method t le g = in_first (edge (end.Node node) method.node tie.Enters 0 ∷ [] ++ arguments node method.node method.slots method.params) (results node method.gives (nodes_at callee given)) (edge (end.Node node) method.node (tie.Argument (suc k)) (size_of t)) (in_tail (edge (end.Node node) method.node tie.Enters 0) (arguments node method.node method.slots method.params) (edge (end.Node node) method.node (tie.Argument (suc k)) (size_of t)) (arguments_back node method.node method.slots method.params k t le g))

  pub call_result : (node callee holder back : ℕ) (method : Method) (t : Ty) → At (lines_of code) (line callee holder back does.Gives) → method.gives ≡ Some t → At (call_edges node method (nodes_at callee given)) (edge (end.Node back) node tie.Result (size_of t))
  call_result node callee holder back method t at g = in_second (edge (end.Node node) method.node tie.Enters 0 ∷ [] ++ arguments node method.node method.slots method.params) (results node method.gives (nodes_at callee given)) (edge (end.Node back) node tie.Result (size_of t)) (subst (λ (o : Option Ty). At (results node o (nodes_at callee given)) (edge (end.Node back) node tie.Result (size_of t))) (sym g) (in_map (result_edge node t) (nodes_at callee given) back (nodes_back callee given back (gives_back (lines_of code) callee holder back at))))

  entry_back_if : (b : Bool) (m : Method) → b ≡ true → At (if b then edge end.App m.node tie.Enters 0 ∷ [] else []) (edge end.App m.node tie.Enters 0)
  entry_back_if true m g = in_head (edge end.App m.node tie.Enters 0) []
  entry_back_if false m g = cc

  entries_back : (ms : List Method) (j : ℕ) (m : Method) → slice_get ms j ≡ Some m → m.entry ≡ true → At (entry_edges ms) (edge end.App m.node tie.Enters 0)
  entries_back [] j m g h = cc
  entries_back (k ∷ ms) zero m g h = in_first (entry_one k) (entry_edges ms) (edge end.App m.node tie.Enters 0) (subst (λ (z : Method). At (entry_one z) (edge end.App m.node tie.Enters 0)) (sym (same_Some k m g)) (entry_back_if m.entry m h))
  entries_back (k ∷ ms) (suc j) m g h = in_second (entry_one k) (entry_edges ms) (edge end.App m.node tie.Enters 0) (entries_back ms j m g h)

  pub of_entry : (n : ℕ) (m : Method) → numbered code.methods n ≡ Some m → m.entry ≡ true → At (local_edges code (lines_of code)) (edge end.App m.node tie.Enters 0)
  of_entry zero m g h = cc
  of_entry (suc j) m g h = in_first (entry_edges code.methods) (lines_edges code given (lines_of code)) (edge end.App m.node tie.Enters 0) (entries_back code.methods j m g h)
